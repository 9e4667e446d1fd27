-- What holds of a value that is read, if one is.
use Rattle.std.proofs.Common.{◌≡◌, ℕ, zero, suc, List, [], ◌∷◌, length, Result, Ok, Err, Bool, true, false, cond, refl, ap, subst, arith}
use Rattle.std.specs.List.{All}
use Rattle.std.proofs.lemmas.List.Elements.{All-nil, All-cons}
use Rattle.model_bits.specs.Reading.{Reading, then_read, require, times, each, without_rest}

abbrev pub OfValue : {E A : Type 0} → (A → Type 0) → Result (A × List Bool) E → Type 0
OfValue P (Ok x) = P x.0
OfValue P (Err e) = Unit {0}

abbrev pub Any : {A : Type 0} → A → Type 0
Any x = Unit {0}

pub any_of : {E A : Type 0} (r : Result (A × List Bool) E) → OfValue Any r
any_of (Ok x) = tt
any_of (Err e) = tt

pub then_of : {E A B : Type 0} (r : Result (A × List Bool) E) (f : A → Reading E B) (P : A → Type 0) (Q : B → Type 0) → OfValue P r → ((x : A) (left : List Bool) → P x → OfValue Q (f x left)) → OfValue Q (then_read r f)
then_of (Ok x) f P Q h k = k x.0 x.1 h
then_of (Err e) f P Q h k = tt

pub require_of : {E : Type 0} (b : Bool) (e : E) (left : List Bool) → OfValue (λ n. b ≡ true) (require b e left)
require_of true e left = refl
require_of false e left = tt

pub either_of : {E A : Type 0} (b : Bool) (m n : Reading E A) (left : List Bool) (P : A → Type 0) → OfValue P (m left) → OfValue P (n left) → OfValue P (cond b m n left)
either_of true m n left P first second = first
either_of false m n left P first second = second

pub times_of : {E A : Type 0} (n : ℕ) (m : Reading E A) (P : A → Type 0) → ((left : List Bool) → OfValue P (m left)) → (left : List Bool) → OfValue (λ xs. (length xs ≡ n) × All P xs) (times n m left)
times_of zero m P h left = (refl, All-nil P)
times_of (suc n) m P h left =
    then_of (m left) _ P (λ xs. (length xs ≡ suc n) × All P xs) (h left) (λ x mid is.
    then_of (times n m mid) _ (λ xs. (length xs ≡ n) × All P xs) (λ xs. (length xs ≡ suc n) × All P xs) (times_of n m P h mid) (λ xs rest are. (ap suc are.0, All-cons P x xs is are.1)))

pub each_of : {E X A : Type 0} (m : X → Reading E A) (P : A → Type 0) → ((x : X) (left : List Bool) → OfValue P (m x left)) → (xs : List X) (left : List Bool) → OfValue (All P) (each m xs left)
each_of m P h [] left = All-nil P
each_of m P h (x ∷ xs) left =
    then_of (m x left) _ P (All P) (h x left) (λ y mid is.
    then_of (each m xs mid) _ (All P) (All P) (each_of m P h xs mid) (λ ys rest are. All-cons P y ys is are))

pub value_of : {E A : Type 0} (r : Result (A × List Bool) E) (P : A → Type 0) (x : A) → OfValue P r → without_rest r ≡ Ok x → P x
value_of (Ok y) P x h e = let same : y.0 ≡ x = grind (arith, e) in subst P same h
value_of (Err cause) P x h e = cc
