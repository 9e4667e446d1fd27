-- What a reading gave is read again where it is written, and its fields have places: for a number, and for each way to
-- put readings together. A proof for a reading has the form of the reading: `bind`, `next`, `tested`, `chosen`, `last` and
-- `done` stand where it has `>>=`, `>>`, `require`, `if` and `give`, and what is left to prove at its end is that the
-- parts' fields, one after the other, are those of the whole.
use Rattle.std.proofs.Common.{◌≡◌, ℕ, zero, suc, ◌+◌, ◌^◌, ◌<◌, List, [], ◌∷◌, ◌++◌, length, flat_map, refl, ap, subst, Result, Ok, Err, Bool, true, false, if◌then◌else◌}
use Rattle.std.specs.List.{All, AllByRecursion, AllZip, range_with_len}
use Rattle.std.proofs.lemmas.List.Elements.{All-from_recursion}
use Rattle.std.proofs.lemmas.Bool.{false≢true}
use Rattle.model_bits.specs.Reading.{Reading, ◌>>=◌, ◌>>◌, give, refuse, require, bits, times, each, repeat, relabel}
use Rattle.model_bits.specs.Writing.{WrittenField, HasPlace, ReadsBack, WasRead, Rewrites, in_bits}
use Rattle.model_bits.proofs.ReadsBack.{number_back, give_back, then_back, map_back, tested_back, relabel_back}
use Rattle.model_bits.proofs.WasRead.{given, required, number_read, in_turn, in_turn_next, relabelled, times_read}

-- fields that are read as this value, and have places
pub record AreRead {E A : Type 0} (m : Reading E A) (x : A) (fields : List WrittenField) : Type 0 where
  pub back : ReadsBack m x fields
  pub fits : AllByRecursion HasPlace fields

-- a value is read again from some fields, and this holds of them
pub record Again {E A : Type 0} (m : Reading E A) (x : A) (Goal : List WrittenField → Type 0) : Type 0 where
  pub fields : List WrittenField
  pub are : AreRead m x fields
  pub goal : Goal fields

-- whatever is read, is read again from some fields, and this holds of it and of them
pub record Comes {E A : Type 0} (m : Reading E A) (Goal : A → List WrittenField → Type 0) : Type 0 where
  pub at : (x : A) → WasRead m x → Again m x (Goal x)

-- a value is read again from these fields, and this is known
pub record Known {E A : Type 0} (m : Reading E A) (x : A) (fields : List WrittenField) (Fact : Type 0) : Type 0 where
  pub are : AreRead m x fields
  pub fact : Fact

-- whatever is read, is read again where it is written so, and this is known of it
pub record Kept {E A : Type 0} (m : Reading E A) (written : A → List WrittenField) (Fact : A → Type 0) : Type 0 where
  pub at : (x : A) → WasRead m x → Known m x (written x) (Fact x)

places_append : (xs ys : List WrittenField) → AllByRecursion HasPlace xs → AllByRecursion HasPlace ys → AllByRecursion HasPlace (xs ++ ys)
places_append [] ys one two = two
places_append (x ∷ xs) ys one two = (one.0, places_append xs ys one.1 two)

-- ---- fields that are read: also what is written of another value than the one that was read

pub are_number : {E : Type 0} (e : E) (width n : ℕ) → n < 2 ^ width → AreRead (bits e width) n (in_bits width n)
are_number e width n small = record { back = number_back e width n small; fits = (small, tt) }

pub are_given : {E A : Type 0} (x : A) → AreRead {E = E} (give x) x []
are_given x = record { back = give_back x; fits = tt }

pub are_in_turn : {E A B : Type 0} {m : Reading E A} (f : A → Reading E B) (x : A) {y : B} {fields others : List WrittenField} → AreRead m x fields → AreRead (f x) y others → AreRead (m >>= f) y (fields ++ others)
are_in_turn {m = m} f x {y = y} {fields = fields} {others = others} one two = record {
  back = then_back m x y fields others f one.back two.back;
  fits = places_append fields others one.fits two.fits;
}

pub are_map : {E A B : Type 0} {m : Reading E A} {x : A} (k : A → B) {fields : List WrittenField} → AreRead m x fields → AreRead (m >>= λ z. give (k z)) (k x) fields
are_map {m = m} {x = x} k {fields = fields} one = record { back = map_back m x k fields one.back; fits = one.fits }

pub are_tested : {E A : Type 0} {b : Bool} (e : E) {m : Reading E A} {x : A} {fields : List WrittenField} → b ≡ true → AreRead m x fields → AreRead (require b e >> m) x fields
are_tested {b = b} e {m = m} {x = x} {fields = fields} holds one = record { back = tested_back b e m x fields holds one.back; fits = one.fits }

pub are_in_row : {E A : Type 0} (m : Reading E A) (written : A → List WrittenField) (xs : List A) → AllByRecursion (λ x. AreRead m x (written x)) xs → AreRead (times (length xs) m) xs (flat_map written xs)
are_in_row m written [] all = are_given []
are_in_row m written (x ∷ xs) all = are_in_turn (λ y. times (length xs) m >>= λ ys. give (y ∷ ys)) x all.0 (are_map (λ ys. x ∷ ys) (are_in_row m written xs all.1))

-- ---- in turn

-- one reading, and another that depends on what the first gave
pub bind : {E A B : Type 0} {m : Reading E A} {f : A → Reading E B} {written : A → List WrittenField} {Fact : A → Type 0} {Goal : B → List WrittenField → Type 0}
    → Kept m written Fact → ((x : A) → Fact x → Comes (f x) (λ y fields. Goal y (written x ++ fields))) → Comes (m >>= f) Goal
bind {m = m} {f = f} {written = written} first second = record {
  at = λ y was.
      let parts = in_turn m f y was in
      let x = parts.between in
      let one = first.at x parts.first in
      let two = (second x one.fact).at y parts.second in
      record {
        fields = written x ++ two.fields;
        are = are_in_turn {m = m} f x one.are two.are;
        goal = two.goal;
      };
}

-- one reading, and another
pub next : {E A B : Type 0} {m : Reading E A} {n : Reading E B} {written : A → List WrittenField} {Fact : A → Type 0} {Goal : B → List WrittenField → Type 0}
    → Kept m written Fact → ((x : A) → Fact x → Comes n (λ y fields. Goal y (written x ++ fields))) → Comes (m >> n) Goal
next {m = m} {n = n} first second = bind {m = m} {f = λ x. n} first second

-- one whose value is ignored: these fields stand there, whatever was read
pub skip : {E A B : Type 0} {m : Reading E A} {n : Reading E B} {fields : List WrittenField} {Goal : B → List WrittenField → Type 0} (z : A)
    → AreRead m z fields → Comes n (λ y others. Goal y (fields ++ others)) → Comes (m >> n) Goal
skip {m = m} {n = n} {fields = fields} z first second = record {
  at = λ y was.
      let parts = in_turn_next m n y was in
      let two = second.at y parts.second in
      record {
        fields = fields ++ two.fields;
        are = are_in_turn {m = m} (λ x. n) z first two.are;
        goal = two.goal;
      };
}

-- the last one, of whose value the whole is made
pub last : {E A B : Type 0} {m : Reading E A} (k : A → B) {written : A → List WrittenField} {Fact : A → Type 0} {Goal : B → List WrittenField → Type 0}
    → Kept m written Fact → ((x : A) → Fact x → Goal (k x) (written x)) → Comes (m >>= λ x. give (k x)) Goal
last {m = m} k {written = written} {Goal = Goal} first goal = record {
  at = λ y was.
      let parts = in_turn m (λ x. give (k x)) y was in
      let x = parts.between in
      let one = first.at x parts.first in
      subst (λ z. Again (m >>= λ x. give (k x)) z (Goal z)) (given (k x) y parts.second) (record {
        fields = written x;
        are = are_map k one.are;
        goal = goal x one.fact;
      });
}

-- the last one, whose value is the whole
pub ends : {E A : Type 0} {m : Reading E A} {written : A → List WrittenField} {Fact : A → Type 0} {Goal : A → List WrittenField → Type 0}
    → Kept m written Fact → ((x : A) → Fact x → Goal x (written x)) → Comes m Goal
ends {written = written} first goal = record {
  at = λ x was. let one = first.at x was in record { fields = written x; are = one.are; goal = goal x one.fact };
}

-- no bit is read
pub done : {E A : Type 0} {x : A} {Goal : A → List WrittenField → Type 0} → Goal x [] → Comes {E = E} (give x) Goal
done {E = E} {x = x} {Goal = Goal} goal = record {
  at = λ y was. subst (λ z. Again {E = E} (give x) z (Goal z)) (given x y was) (record {
    fields = [];
    are = are_given x;
    goal = goal;
  });
}

-- behind a test, which holds of what was read
pub tested : {E A : Type 0} (b : Bool) (e : E) {m : Reading E A} {Goal : A → List WrittenField → Type 0} → (b ≡ true → Comes m Goal) → Comes (require b e >> m) Goal
tested b e {m = m} behind = record {
  at = λ y was.
      let parts = in_turn_next (require b e) m y was in
      let holds = required b e parts.between parts.first in
      let one = (behind holds).at y parts.second in
      record {
        fields = one.fields;
        are = are_tested e holds one.are;
        goal = one.goal;
      };
}

-- a test alone
pub test_last : {E : Type 0} (b : Bool) (e : E) {Goal : ℕ → List WrittenField → Type 0} → (b ≡ true → Goal 0 []) → Comes (require b e) Goal
test_last true e goal = done (goal refl)
test_last false e goal = record { at = λ n was. absurd (false≢true (required false e n was)) }

-- the fields are these, and this is known
abbrev pub So : {A : Type 0} → (A → List WrittenField) → (A → Type 0) → A → List WrittenField → Type 0
So written Fact x fields = (fields ≡ written x) × Fact x

pub kept : {E A : Type 0} {m : Reading E A} {written : A → List WrittenField} {Fact : A → Type 0} → Comes m (So written Fact) → Kept m written Fact
kept {m = m} comes = record {
  at = λ x was.
      let one = comes.at x was in
      record { are = subst (AreRead m x) one.goal.0 one.are; fact = one.goal.1 };
}

module _ {E A : Type 0} {m : Reading E A} {written : A → List WrittenField} {Fact : A → Type 0} (same : Kept m written Fact) where
  pub kept_back : Rewrites m written
  kept_back x was = (same.at x was).are.back

  pub kept_fits : (x : A) → WasRead m x → All HasPlace (written x)
  kept_fits x was = All-from_recursion HasPlace (written x) (same.at x was).are.fits

-- ---- a number, a choice, another cause, a refusal

pub number : {E : Type 0} (e : E) (width : ℕ) → Kept (bits e width) (in_bits width) (λ n. n < 2 ^ width)
number e width = record {
  at = λ n was.
      let small = number_read e width n was in
      record { are = are_number e width n small; fact = small };
}

pub chosen : {E A : Type 0} (b : Bool) {m n : Reading E A} {Goal : A → List WrittenField → Type 0} → (b ≡ true → Comes m Goal) → (b ≡ false → Comes n Goal) → Comes (if b then m else n) Goal
chosen true one other = one refl
chosen false one other = other refl

pub renamed : {E F A : Type 0} (f : F → E) {m : Reading F A} {written : A → List WrittenField} {Fact : A → Type 0} → Kept m written Fact → Kept (relabel f m) written Fact
renamed f {m = m} {written = written} same = record {
  at = λ x was.
      let one = same.at x (relabelled f m x was) in
      record { are = record { back = relabel_back f m x (written x) one.are.back; fits = one.are.fits }; fact = one.fact };
}

no_refusal : {E A : Type 0} (e : E) (x : A) → WasRead {E = E} {A = A} (refuse e) x → ⊥
no_refusal {E = E} {A = A} e x was = let r : Result (A × List Bool) E = Err e in let h : r ≡ Ok (x, was.left) = was.read in cc

pub refused : {E A : Type 0} (e : E) {Goal : A → List WrittenField → Type 0} → Comes (refuse e) Goal
refused e = record { at = λ x was. absurd (no_refusal e x was) }

-- ---- in a row

pub in_row : {E A : Type 0} {m : Reading E A} {written : A → List WrittenField} {Fact : A → Type 0} (n : ℕ) → Kept m written Fact
    → Kept (times n m) (flat_map written) (λ xs. (length xs ≡ n) × AllByRecursion Fact xs)
in_row zero one = kept (done (refl, (refl, tt)))
in_row (suc n) one = kept (bind one (λ x fact. last (λ xs. x ∷ xs) (in_row n one) (λ xs facts. (refl, (ap suc facts.0, (fact, facts.1))))))

-- a value for each item, of which this is known
pub of_each : {E X A : Type 0} {m : X → Reading E A} {written : A → List WrittenField} {Right : X → Type 0} {Fact : X → A → Type 0} (items : List X)
    → ((item : X) → Right item → Kept (m item) written (Fact item)) → AllByRecursion Right items
    → Kept (each m items) (flat_map written) (AllZip Fact items)
of_each [] one right = kept (done (refl, tt))
of_each (item ∷ items) one right =
    kept (bind (one item right.0) (λ x fact. last (λ xs. x ∷ xs) (of_each items one right.1) (λ xs facts. (refl, (fact, facts)))))

-- a value for each number
pub of_numbers : {E A : Type 0} {m : ℕ → Reading E A} {written : A → List WrittenField} {Fact : A → Type 0} (first n : ℕ)
    → ((number : ℕ) → Kept (m number) written Fact) → Kept (each m (range_with_len first n)) (flat_map written) (λ xs. (length xs ≡ n) × AllByRecursion Fact xs)
of_numbers first zero one = kept (done (refl, (refl, tt)))
of_numbers first (suc n) one =
    kept (bind (one first) (λ x fact. last (λ xs. x ∷ xs) (of_numbers (first + 1) n one) (λ xs facts. (refl, (ap suc facts.0, (fact, facts.1))))))

-- a value in each state
pub of_states : {E S A : Type 0} {m : S → Reading E (A × S)} (written : A → List WrittenField) (n : ℕ)
    → ((s : S) → Kept (m s) (λ x. written x.0) (λ x. Unit {0})) → (s : S) → Kept (repeat n m s) (λ xs. flat_map written xs.0) (λ xs. length xs.0 ≡ n)
of_states written zero one s = kept (done (refl, refl))
of_states written (suc n) one s =
    kept (bind (one s) (λ x fact. last (λ xs. (x.0 ∷ xs.0, xs.1)) (of_states written n one x.1) (λ xs long. (refl, ap suc long))))

-- ---- what is known of what was read, alone

pub record Gives {E A : Type 0} (m : Reading E A) (Fact : A → Type 0) : Type 0 where
  pub at : (x : A) → WasRead m x → Fact x

pub gives_number : {E : Type 0} (e : E) (width : ℕ) → Gives (bits e width) (λ n. n < 2 ^ width)
gives_number e width = record { at = λ n was. number_read e width n was }

pub gives_bind : {E A B : Type 0} {m : Reading E A} {f : A → Reading E B} {Fact : A → Type 0} {Other : B → Type 0} → Gives m Fact → ((x : A) → Fact x → Gives (f x) Other) → Gives (m >>= f) Other
gives_bind {m = m} {f = f} first second = record {
  at = λ y was. let parts = in_turn m f y was in (second parts.between (first.at parts.between parts.first)).at y parts.second;
}

pub gives_tested : {E A : Type 0} (b : Bool) (e : E) {m : Reading E A} {Fact : A → Type 0} → (b ≡ true → Gives m Fact) → Gives (require b e >> m) Fact
gives_tested b e {m = m} behind = record {
  at = λ y was. let parts = in_turn_next (require b e) m y was in (behind (required b e parts.between parts.first)).at y parts.second;
}

pub gives_chosen : {E A : Type 0} (b : Bool) {m n : Reading E A} {Fact : A → Type 0} → (b ≡ true → Gives m Fact) → (b ≡ false → Gives n Fact) → Gives (if b then m else n) Fact
gives_chosen true one other = one refl
gives_chosen false one other = other refl

pub gives_done : {E A : Type 0} {x : A} {Fact : A → Type 0} → Fact x → Gives {E = E} (give x) Fact
gives_done {x = x} {Fact = Fact} fact = record { at = λ y was. subst Fact (given x y was) fact }

pub gives_refused : {E A : Type 0} (e : E) {Fact : A → Type 0} → Gives (refuse e) Fact
gives_refused e = record { at = λ x was. absurd (no_refusal e x was) }

pub gives_row : {E A : Type 0} {m : Reading E A} {Fact : A → Type 0} (n : ℕ) → Gives m Fact → Gives (times n m) (λ xs. (length xs ≡ n) × AllByRecursion Fact xs)
gives_row {m = m} {Fact = Fact} n one = record { at = λ xs was. times_read m Fact one.at n xs was }
