-- The values of a vector, one after the other.
use Rattle.std.proofs.Common.{◌≡◌, ℕ, zero, suc, ◌+◌, ◌*◌, ◌/◌, ◌%◌, ◌^◌, ◌<◌, ◌≤◌, ℤ, pos, List, length, get_or, set, slice_index, ◌≢◌, inl, inr, refl, ap, sym, ◌∙◌, arith, add-one, get_or-set_other, get_or-set_same}
use Rattle.std.proofs.lemmas.Bool.{cases_lt}
use Rattle.model_setup.proofs.Sizes.{multiple-lt}
use Rattle.model_setup.proofs.Roots.{root_is_greatest}
use Rattle.model_setup.specs.declared.book.LookupKind.{LookupKind}
use Rattle.codebooks.specs.Tables.{HasRoomFor, HasRoom, IsWholeTable}
use Rattle.std.proofs.Math.Nat.{pow-suc, div-div-eq-div-mul}
use Rattle.model_setup.specs.declared.book.LookupKind.TheVariants.{Lattice, Tessellation}
use Rattle.model_setup.specs.Codebook.{Lookup}
use Rattle.model_setup.specs.Vectors.{offset, multiplicand_count, root_of, multiplicand_at, value_on, carried_on, value_at}

-- what value i is added to
unfoldable pub carried_to : ℕ → Lookup → ℕ → ℕ → ℤ
carried_to dimensions lookup entry zero = pos 0
carried_to dimensions lookup entry (suc i) = carried_on lookup (value_at dimensions lookup entry i)

pub value_next : (dimensions : ℕ) (lookup : Lookup) (entry i : ℕ) → value_on lookup (carried_to dimensions lookup entry i) (multiplicand_at dimensions lookup entry i) ≡ value_at dimensions lookup entry i
unfolding carried_to value_at
value_next dimensions lookup entry zero = refl
value_next dimensions lookup entry (suc i) = refl

pub carried_next : (dimensions : ℕ) (lookup : Lookup) (entry i : ℕ) → carried_to dimensions lookup entry (i + 1) ≡ carried_on lookup (value_at dimensions lookup entry i)
unfolding carried_to
carried_next dimensions lookup entry i = rw add-one refl

pub digit_at : (dimensions : ℕ) (lookup : Lookup) (entry i : ℕ) → lookup.kind ≡ Lattice → multiplicand_at dimensions lookup entry i ≡ slice_index lookup.multiplicands (entry / length lookup.multiplicands ^ i % length lookup.multiplicands)
digit_at dimensions lookup entry i kind = ap (λ k. slice_index lookup.multiplicands (offset k (length lookup.multiplicands) dimensions entry i)) kind

pub own_at : (dimensions : ℕ) (lookup : Lookup) (entry i : ℕ) → lookup.kind ≡ Tessellation → multiplicand_at dimensions lookup entry i ≡ slice_index lookup.multiplicands (entry * dimensions + i)
own_at dimensions lookup entry i kind = ap (λ k. slice_index lookup.multiplicands (offset k (length lookup.multiplicands) dimensions entry i)) kind

power_next : (base i : ℕ) → base ^ i * base ≡ base ^ (i + 1)
power_next base i = rw (add-one, pow-suc) refl

pub digits_next : (entry base i : ℕ) → entry / base ^ i / base ≡ entry / base ^ (i + 1)
digits_next entry base i = div-div-eq-div-mul entry (base ^ i) base ∙ ap (λ n. entry / n) (power_next base i)

pub value_here : (dimensions : ℕ) (lookup : Lookup) (entry i multiplicand : ℕ) (last value : ℤ) → last ≡ carried_to dimensions lookup entry i → multiplicand ≡ multiplicand_at dimensions lookup entry i
    → value ≡ value_on lookup last multiplicand → value ≡ value_at dimensions lookup entry i
value_here dimensions lookup entry i multiplicand last value a b h = h ∙ ap (λ x. value_on lookup x multiplicand) a ∙ ap (λ m. value_on lookup (carried_to dimensions lookup entry i) m) b ∙ value_next dimensions lookup entry i

pub digit_read : (dimensions : ℕ) (lookup : Lookup) (entry i rest : ℕ) (xs : List ℕ) → lookup.kind ≡ Lattice → xs ≡ lookup.multiplicands → rest ≡ entry / length lookup.multiplicands ^ i
    → get_or xs (rest % length xs) 0 ≡ multiplicand_at dimensions lookup entry i
digit_read dimensions lookup entry i rest xs kind same digits =
    ap (λ ys. get_or ys (rest % length ys) 0) same ∙ ap (λ n. get_or lookup.multiplicands (n % length lookup.multiplicands) 0) digits ∙ sym (digit_at dimensions lookup entry i kind)

pub own_read : (dimensions : ℕ) (lookup : Lookup) (entry i : ℕ) (xs : List ℕ) → lookup.kind ≡ Tessellation → xs ≡ lookup.multiplicands → get_or xs (entry * dimensions + i) 0 ≡ multiplicand_at dimensions lookup entry i
own_read dimensions lookup entry i xs kind same =
    ap (λ ys. get_or ys (entry * dimensions + i) 0) same ∙ sym (own_at dimensions lookup entry i kind)

pub filled_more : (xs : List ℤ) (f : ℕ → ℤ) (i : ℕ) (v : ℤ) → i < length xs → ((k : ℕ) → k < i → get_or xs k (pos 0) ≡ f k) → v ≡ f i → (k : ℕ) → k < i + 1 → get_or (set xs i v) k (pos 0) ≡ f k
filled_more xs f i v lt before here k h = elim (cases_lt k i) [
  | inl less ↦ let ne : k ≢ i = omega arith in rw get_or-set_other (before k less)
  | inr more ↦ let same : k ≡ i = omega arith in rw (same, get_or-set_same) here
]

one-pow : (d : ℕ) → 1 ^ d ≡ 1
one-pow zero = refl
one-pow (suc d) = rw (pow-suc, one-pow d) refl

root_some : (n d : ℕ) → 0 < d → 0 < n → 0 < root_of n d
root_some n d some used =
    let g = root_is_greatest n d some in
    elim (cases_lt 0 (root_of n d)) [
      | inl more ↦ more
      | inr none ↦
          let zero' : root_of n d + 1 ≡ 1 = omega arith in
          let p : (root_of n d + 1) ^ d ≡ 1 = ap (λ r. r ^ d) zero' ∙ one-pow d in
          let high : n < (root_of n d + 1) ^ d = g.1 in
          absurd (omega arith)
    ]

room_for : (kind : LookupKind) (count dimensions entries entry : ℕ) → 0 < dimensions → count ≡ multiplicand_count kind dimensions entries → entry < entries → HasRoomFor kind count dimensions entry
room_for Lattice count dimensions entries entry some e lt =
    let r = root_some entries dimensions some (omega arith) in
    omega arith
room_for Tessellation count dimensions entries entry some e lt =
    let m : entry * dimensions + dimensions ≤ entries * dimensions = multiple-lt entry entries dimensions lt in
    omega arith

pub has_room : (lookup : Lookup) (dimensions entries entry : ℕ) → IsWholeTable dimensions entries lookup → entry < entries → HasRoom lookup dimensions entry
has_room lookup dimensions entries entry whole lt = room_for lookup.kind (length lookup.multiplicands) dimensions entries entry whole.some whole.count lt
