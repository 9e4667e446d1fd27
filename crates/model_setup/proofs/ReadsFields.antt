-- Reading fields one after the other goes by the fields at their places.
use Rattle.std.proofs.Common.{◌≡◌, ℕ, ◌+◌, ◌*◌, ◌^◌, ◌<◌, ◌≤◌, List, [], ◌∷◌, ◌++◌, length, drop, refl, ap, sym, ◌∙◌, arith, subst, Option, Some, None, Result, Ok, Err, Bool, true, false, cond, ◌==◌, append_assoc}
use Rattle.std.specs.Prelude.{All, option_map}
use Rattle.std.proofs.lemmas.List.Elements.{All-nil, All-cons, All-append}
use Rattle.std.proofs.lemmas.Bool.{le-leb, lt-leb}
use native.Mathlib.Decide.{dec_le}
use Rattle.std.specs.List.{range_with_len}
use Rattle.std.specs.Prelude.{sum_by}
use Rattle.model_bits.specs.Bits.{bits_of, take_bits}
use Rattle.model_bits.specs.Places.{packet_bit, number_at}
use Rattle.model_bits.specs.Reading.{Reading, ◌>>=◌, ◌>>◌, then_read, renamed, require, or_end, bits, relabel, give, without_rest}
use Rattle.model_bits.proofs.ByPlace.{takes_by_place}
use Rattle.model_setup.specs.Fields.{Field, IsRight, IsRightNumber, IsWrong, IsWrongNumber, NamesLeftmost, GoesBy, byte_fields}
use Rattle.model_setup.specs.HeaderPackets.{bytes_at}
use Rattle.model_setup.specs.declared.head.StartCause.{StartCause}
use Rattle.model_setup.specs.declared.head.StartCause.TheVariants as starts

-- whether there are so many bits
pub number_there : (bytes : List ℕ) (place width : ℕ) → place + width ≤ 8 * length bytes → number_at bytes place width ≡ Some (sum_by (λ j. packet_bit bytes (place + j) * 2 ^ j) (range_with_len 0 width))
number_there bytes place width within = ap (λ b. cond b (Some (sum_by (λ j. packet_bit bytes (place + j) * 2 ^ j) (range_with_len 0 width))) None) (le-leb (place + width) (8 * length bytes) within)

pub number_missing : (bytes : List ℕ) (place width : ℕ) → 8 * length bytes < place + width → number_at bytes place width ≡ None
number_missing bytes place width past = ap (λ b. cond b (Some (sum_by (λ j. packet_bit bytes (place + j) * 2 ^ j) (range_with_len 0 width))) None) (lt-leb (place + width) (8 * length bytes) past)

module _ {E : Type 0} (end : E) (bytes : List ℕ) where
  -- what was read up to a place, by the fields before it
  abbrev pub Outcome : {A : Type 0} → List (Field E) → ℕ → Result (A × List Bool) E → Type 0
  Outcome fields next (Ok x) = All (IsRight bytes) fields × (next ≤ 8 * length bytes) × (x.1 ≡ drop next (bits_of bytes))
  Outcome fields next (Err cause) = NamesLeftmost end bytes fields cause

  -- a reading that reads these fields, from one place up to another
  abbrev pub Reads : {A : Type 0} → ℕ → List (Field E) → ℕ → Reading E A → Type 0
  Reads place fields next m = place ≤ 8 * length bytes → Outcome fields next (m (drop place (bits_of bytes)))

  pub behind_right : {A : Type 0} (front fields : List (Field E)) (next : ℕ) (r : Result (A × List Bool) E) → All (IsRight bytes) front → Outcome fields next r → Outcome (front ++ fields) next r
  behind_right front fields next (Ok x) all h = (All-append (IsRight bytes) front fields all h.0, h.1, h.2)
  behind_right front fields next (Err cause) all h = record { before = front ++ h.before; field = h.field; behind = h.behind; split = ap (λ fs. front ++ fs) h.split ∙ sym (append_assoc front h.before (h.field ∷ h.behind)); right = All-append (IsRight bytes) front h.before all h.right; wrong = h.wrong }

  before_others : (cause : E) (fields others : List (Field E)) → NamesLeftmost end bytes fields cause → NamesLeftmost end bytes (fields ++ others) cause
  before_others cause fields others h = record { before = h.before; field = h.field; behind = h.behind ++ others; split = ap (λ fs. fs ++ others) h.split ∙ append_assoc h.before (h.field ∷ h.behind) others; right = h.right; wrong = h.wrong }

  pub then_outcome : {A B : Type 0} (fields others : List (Field E)) (next last : ℕ) (r : Result (A × List Bool) E) (f : A → Reading E B)
      → Outcome fields next r → ((x : A) → Reads next others last (f x)) → Outcome (fields ++ others) last (then_read r f)
  then_outcome fields others next last (Ok x) f h k =
      subst (λ l. Outcome (fields ++ others) last (f x.0 l)) (sym h.2) (behind_right fields others last (f x.0 (drop next (bits_of bytes))) h.0 (k x.0 h.1))
  then_outcome fields others next last (Err cause) f h k = before_others cause fields others h

  pub then_gives : {A B : Type 0} (fields : List (Field E)) (next : ℕ) (r : Result (A × List Bool) E) (f : A → B) → Outcome fields next r → Outcome fields next (then_read r (λ x. give (f x)))
  then_gives fields next (Ok x) f h = h
  then_gives fields next (Err cause) f h = h

  pub gives : {A : Type 0} (place : ℕ) (x : A) → Reads place [] place (give x)
  gives place x within = (All-nil (IsRight bytes), within, refl)

  module _ (field : Field E) (others : List (Field E)) (last : ℕ) where
    pub leftmost_here : (cause : E) → IsWrong end bytes field cause → NamesLeftmost end bytes (field ∷ others) cause
    leftmost_here cause wrong = record { before = []; field = field; behind = others; split = refl; right = All-nil (IsRight bytes); wrong = wrong }

    -- a field is missing, or its number is read
    pub field_outcome : {B : Type 0} (f : ℕ → Reading E B) → field.place ≤ 8 * length bytes
        → ((number : ℕ) → field.place + field.width ≤ 8 * length bytes → number_at bytes field.place field.width ≡ Some number → Outcome (field ∷ others) last (f number (drop (field.place + field.width) (bits_of bytes))))
        → Outcome (field ∷ others) last (then_read (bits end field.width (drop field.place (bits_of bytes))) f)
    field_outcome f within k =
        elim (dec_le (field.place + field.width) (8 * length bytes)) [
          | yes there ↦
              let number = sum_by (λ j. packet_bit bytes (field.place + j) * 2 ^ j) (range_with_len 0 field.width) in
              let n : number_at bytes field.place field.width ≡ Some number = number_there bytes field.place field.width there in
              let t : take_bits field.width (drop field.place (bits_of bytes)) ≡ Some (number, drop (field.place + field.width) (bits_of bytes)) = takes_by_place bytes field.place field.width within ∙ ap (option_map (λ v. (v, drop (field.place + field.width) (bits_of bytes)))) n in
              subst (λ o. Outcome (field ∷ others) last (then_read (or_end end o) f)) (sym t) (k number there n)
          | no past ↦
              let n : number_at bytes field.place field.width ≡ None = number_missing bytes field.place field.width (omega arith) in
              let t : take_bits field.width (drop field.place (bits_of bytes)) ≡ None = takes_by_place bytes field.place field.width within ∙ ap (option_map (λ v. (v, drop (field.place + field.width) (bits_of bytes)))) n in
              subst (λ o. Outcome (field ∷ others) last (then_read (or_end end o) f)) (sym t) (leftmost_here end (subst (λ o. IsWrongNumber end field o end) (sym n) refl))
        ]

    is_right : (number : ℕ) → number_at bytes field.place field.width ≡ Some number → field.right number ≡ true → All (IsRight bytes) (field ∷ [])
    is_right number n h = All-cons (IsRight bytes) field [] (subst (IsRightNumber field) (sym n) h) (All-nil (IsRight bytes))

    pub tested : {B : Type 0} (rest : Reading E B) (number : ℕ) (b : Bool) → field.right number ≡ b → number_at bytes field.place field.width ≡ Some number
        → (left : List Bool) → Outcome others last (rest left) → Outcome (field ∷ others) last (then_read (require b field.cause left) (λ _. rest))
    tested rest number true h n left k = behind_right (field ∷ []) others last (rest left) (is_right number n h) k
    tested rest number false h n left k = leftmost_here field.cause (subst (λ o. IsWrongNumber end field o field.cause) (sym n) (h, refl))

    -- a field that must be right, and what is read behind it
    pub field_reads : {B : Type 0} (rest : ℕ → Reading E B) → ((number : ℕ) → number_at bytes field.place field.width ≡ Some number → Reads (field.place + field.width) others last (rest number))
        → Reads field.place (field ∷ others) last (bits end field.width >>= λ number. require (field.right number) field.cause >> rest number)
    field_reads rest k within =
        field_outcome (λ number. require (field.right number) field.cause >> rest number) within (λ number there n. tested (rest number) number (field.right number) refl n (drop (field.place + field.width) (bits_of bytes)) (k number n there))

    -- a field where every number is right
    pub any_reads : {B : Type 0} (rest : ℕ → Reading E B) → ((number : ℕ) → field.right number ≡ true) → ((number : ℕ) → number_at bytes field.place field.width ≡ Some number → Reads (field.place + field.width) others last (rest number))
        → Reads field.place (field ∷ others) last (bits end field.width >>= rest)
    any_reads rest all k within =
        field_outcome rest within (λ number there n. behind_right (field ∷ []) others last (rest number (drop (field.place + field.width) (bits_of bytes))) (is_right number n (all number)) (k number n there))

  -- a field that must be right, behind which nothing is read
  tested_last : (field : Field E) (number : ℕ) (b : Bool) → field.right number ≡ b → number_at bytes field.place field.width ≡ Some number → (next : ℕ) → next ≤ 8 * length bytes
      → Outcome (field ∷ []) next (require b field.cause (drop next (bits_of bytes)))
  tested_last field number true h n next there = (is_right field [] next number n h, there, refl)
  tested_last field number false h n next there = leftmost_here field [] next field.cause (subst (λ o. IsWrongNumber end field o field.cause) (sym n) (h, refl))

  pub last_reads : (field : Field E) → Reads field.place (field ∷ []) (field.place + field.width) (bits end field.width >>= λ number. require (field.right number) field.cause)
  last_reads field within =
      field_outcome field [] (field.place + field.width) (λ number. require (field.right number) field.cause) within (λ number there n. tested_last field number (field.right number) refl n (field.place + field.width) there)

-- bytes that must be these, under causes of another type
module _ {E : Type 0} (causes : StartCause → E) (bytes : List ℕ) where
  relabelled_test : (b : Bool) (others : List ℕ) (left : List Bool)
      → renamed causes (then_read (require b starts.Kind left) (λ _. bytes_at others)) ≡ then_read (require b (causes starts.Kind) left) (λ _. relabel causes (bytes_at others))
  relabelled_test true others left = refl
  relabelled_test false others left = refl

  relabelled : (wanted : ℕ) (others : List ℕ) (o : Option (ℕ × List Bool))
      → renamed causes (then_read (or_end starts.End o) (λ byte left. then_read (require (byte == wanted) starts.Kind left) (λ _. bytes_at others)))
      ≡ then_read (or_end (causes starts.End) o) (λ byte left. then_read (require (byte == wanted) (causes starts.Kind) left) (λ _. relabel causes (bytes_at others)))
  relabelled wanted others None = refl
  relabelled wanted others (Some x) = relabelled_test (x.0 == wanted) others x.1

  bytes_at-next : (wanted : ℕ) (others : List ℕ) (left : List Bool)
      → relabel causes (bytes_at (wanted ∷ others)) left ≡ then_read (bits (causes starts.End) 8 left) (λ byte left. then_read (require (byte == wanted) (causes starts.Kind) left) (λ _. relabel causes (bytes_at others)))
  unfolding bytes_at
  bytes_at-next wanted others left = relabelled wanted others (take_bits 8 left)

  abbrev pub bytes_end : ℕ → List ℕ → ℕ
  bytes_end place [] = place
  bytes_end place (wanted ∷ others) = bytes_end (place + 8) others

  pub bytes_read : (place : ℕ) (wanted : List ℕ) → Reads (causes starts.End) bytes place (byte_fields (causes starts.Kind) place wanted) (bytes_end place wanted) (relabel causes (bytes_at wanted))
  unfolding bytes_at
  bytes_read place [] within = (All-nil (IsRight bytes), within, refl)
  bytes_read place (wanted ∷ others) within =
      subst (Outcome (causes starts.End) bytes (byte_fields (causes starts.Kind) place (wanted ∷ others)) (bytes_end (place + 8) others)) (sym (bytes_at-next wanted others (drop place (bits_of bytes))))
      (field_reads (causes starts.End) bytes (record { place = place; width = 8; right = λ byte. byte == wanted; cause = causes starts.Kind }) (byte_fields (causes starts.Kind) (place + 8) others) (bytes_end (place + 8) others)
      (λ _. relabel causes (bytes_at others)) (λ number n. bytes_read (place + 8) others) within)

-- what a reading answers, whatever bits are left behind it
pub goes_by : {E A : Type 0} (end : E) (bytes : List ℕ) (fields : List (Field E)) (next : ℕ) (r : Result (A × List Bool) E) → Outcome end bytes fields next r → GoesBy end bytes fields (without_rest r)
goes_by end bytes fields next (Ok x) h = h.0
goes_by end bytes fields next (Err cause) h = h
