-- Steps that lead from one workspace to another, joined.
use Rattle.std.proofs.Common.{◌≡◌, ℕ, zero, suc, ◌+◌, ◌-◌, ◌<◌, List, [], ◌∷◌, ◌++◌, Bool, true, false, cond, length, get_or, take, drop, refl, ap, sym, subst, ◌∙◌, arith, fold}
use Rattle.std.specs.Prelude.{slice_index_or}
use Rattle.std.specs.List.{range_with_len, flat_map}
use Rattle.std.proofs.lemmas.Grind.{fold-append}
use Rattle.std.proofs.lemmas.List.{append-nil, append_assoc, take_more, take-append-drop}
use Rattle.std.proofs.lemmas.List.Folds.{fold_stays}
use Rattle.model_setup.specs.ResidueDecoding.{Decoding, Step}
use Rattle.residues.specs.Decoders.{HasRoom, LeadsBy, Leads, state_of, step_of}
use Rattle.residues.specs.declared.decoder.Decoder.{Decoder}
use Rattle.residues.specs.declared.decoder.Workspace.{Workspace}

-- ---- a part for each number of a range

-- one number more
range_more : {B : Type 0} (g : ℕ → List B) (a n j : ℕ) → a + n ≡ j → flat_map g (range_with_len a (n + 1)) ≡ flat_map g (range_with_len a n) ++ g j
range_more g a zero j e =
    let same : a ≡ j = omega arith in
    append-nil (g a) ∙ ap g same
range_more g a (suc n) j e =
    let more : a + 1 + n ≡ j = omega arith in
    let one : suc n + 1 ≡ suc (n + 1) = omega arith in
    ap (λ k. flat_map g (range_with_len a k)) one ∙ ap (λ xs. g a ++ xs) (range_more g (a + 1) n j more) ∙ sym (append_assoc (g a) (flat_map g (range_with_len (a + 1) n)) (g j))

-- the numbers from one on
range_split : {B : Type 0} (g : ℕ → List B) (a n m j : ℕ) → a + n ≡ j → flat_map g (range_with_len a (n + m)) ≡ flat_map g (range_with_len a n) ++ flat_map g (range_with_len j m)
range_split g a zero m j e =
    let same : a ≡ j = omega arith in
    let none : zero + m ≡ m = omega arith in
    ap (λ k. flat_map g (range_with_len a k)) none ∙ ap (λ k. flat_map g (range_with_len k m)) same
range_split g a (suc n) m j e =
    let more : a + 1 + n ≡ j = omega arith in
    let one : suc n + m ≡ suc (n + m) = omega arith in
    ap (λ k. flat_map g (range_with_len a k)) one ∙ ap (λ xs. g a ++ xs) (range_split g (a + 1) n m j more) ∙ sym (append_assoc (g a) (flat_map g (range_with_len (a + 1) n)) (flat_map g (range_with_len j m)))

-- ---- steps of one kind

module _ {S : Type 0} (step : Decoding → S → Decoding) (d : Decoder) where
  pub leads_none : (w : Workspace) → HasRoom d w → LeadsBy step d [] w w true
  leads_none w room = record { after = refl; room = room; parts = record { bits = refl; bytes = refl; lines = refl; line_count = refl } }

  pub leads_on : (xs ys : List S) (old now new : Workspace) (going : Bool) → LeadsBy step d xs old now true → LeadsBy step d ys now new going → LeadsBy step d (xs ++ ys) old new going
  leads_on xs ys old now new going first then = record {
    after = then.after ∙ ap (λ s. fold step s ys) first.after ∙ sym (fold-append step (state_of d old true) xs ys);
    room = then.room;
    parts = record {
      bits = then.parts.bits ∙ first.parts.bits;
      bytes = then.parts.bytes ∙ first.parts.bytes;
      lines = then.parts.lines ∙ first.parts.lines;
      line_count = then.parts.line_count ∙ first.parts.line_count;
    };
  }

  -- once the packet has ended, no step changes the state
  abbrev pub Stays : Type 0
  Stays = (w : Workspace) (x : S) → step (state_of d w false) x ≡ state_of d w false

  pub leads_past : Stays → (xs ys : List S) (old new : Workspace) → LeadsBy step d xs old new false → LeadsBy step d (xs ++ ys) old new false
  leads_past stays xs ys old new ended = record {
    after = sym (fold-append step (state_of d old true) xs ys ∙ ap (λ s. fold step s ys) (sym ended.after) ∙ fold_stays step (state_of d new false) (stays new) ys);
    room = ended.room;
    parts = ended.parts;
  }

  -- a part for each number of a range from one on: the next one, and those that the end cuts off
  module _ (g : ℕ → List S) (a n j : ℕ) (old now new : Workspace) (going : Bool) (e : a + n ≡ j) (so_far : LeadsBy step d (flat_map g (range_with_len a n)) old now true) (then : LeadsBy step d (g j) now new going) where
    pub leads_next : LeadsBy step d (flat_map g (range_with_len a (n + 1))) old new going
    leads_next = subst (λ xs. LeadsBy step d xs old new going) (sym (range_more g a n j e)) (leads_on (flat_map g (range_with_len a n)) (g j) old now new going so_far then)

    pub leads_ends : Stays → (m : ℕ) → n < m → going ≡ false → LeadsBy step d (flat_map g (range_with_len a m)) old new false
    leads_ends stays m lt ended =
        let k : ℕ = m - (n + 1) in
        let whole : n + 1 + k ≡ m = omega arith in
        let front = flat_map g (range_with_len a (n + 1)) in
        let back = flat_map g (range_with_len (a + (n + 1)) k) in
        let split : front ++ back ≡ flat_map g (range_with_len a m) = sym (range_split g a (n + 1) k (a + (n + 1)) refl) ∙ ap (λ i. flat_map g (range_with_len a i)) whole in
        subst (λ xs. LeadsBy step d xs old new false) split (leads_past stays front back old new (subst (λ b. LeadsBy step d front old new b) ended leads_next))

  -- the items of a list up to one, and those that the end cuts off
  module _ (xs : List S) (i : ℕ) (x : S) (old now new : Workspace) (going : Bool) (lt : i < length xs) (so_far : LeadsBy step d (take i xs) old now true) (then : LeadsBy step d (get_or xs i x ∷ []) now new going) where
    pub leads_item : LeadsBy step d (take (i + 1) xs) old new going
    leads_item = subst (λ ys. LeadsBy step d ys old new going) (sym (take_more xs i x lt)) (leads_on (take i xs) (get_or xs i x ∷ []) old now new going so_far then)

    pub leads_cut : Stays → going ≡ false → LeadsBy step d xs old new false
    leads_cut stays ended =
        let front = take (i + 1) xs in
        subst (λ ys. LeadsBy step d ys old new false) (take-append-drop (i + 1) xs) (leads_past stays front (drop (i + 1) xs) old new (subst (λ b. LeadsBy step d front old new b) ended leads_item))

-- ---- the steps of wanted vectors

-- the step of a vector, where it is wanted
abbrev pub if_wanted : List Bool → (ℕ → Step) → ℕ → List Step
if_wanted wanted step vector = cond (slice_index_or wanted vector false) (step vector ∷ []) []

module _ (d : Decoder) (wanted : List Bool) (step : ℕ → Step) (vector : ℕ) (now new : Workspace) where
  pub leads_wanted : (going : Bool) → slice_index_or wanted vector false ≡ true → Leads d (step vector ∷ []) now new going → Leads d (if_wanted wanted step vector) now new going
  leads_wanted going is then = subst (λ b. Leads d (cond b (step vector ∷ []) []) now new going) (sym is) then

pub leads_unwanted : (d : Decoder) (wanted : List Bool) (step : ℕ → Step) (vector : ℕ) (now : Workspace) → slice_index_or wanted vector false ≡ false → HasRoom d now → Leads d (if_wanted wanted step vector) now now true
leads_unwanted d wanted step vector now isnt room = subst (λ b. Leads d (cond b (step vector ∷ []) []) now now true) (sym isnt) (leads_none (step_of d) d now room)
