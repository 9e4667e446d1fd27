-- Fields put one after the other, and places of some of them.
use Rattle.std.proofs.Common.{◌≡◌, ℕ, zero, suc, ◌+◌, ◌^◌, ◌<◌, ◌≤◌, List, [], ◌∷◌, ◌++◌, length, get_or, take, flat_map, Result, Ok, Err, OnOk, sym, ap, subst, ◌∙◌, append_assoc, Bool, arith}
use Rattle.std.specs.List.{All}
use Rattle.std.proofs.lemmas.List.{append-nil, take_all, take_more}
use Rattle.std.proofs.lemmas.List.Elements.{All-head, All-tail}
use Rattle.std.proofs.lemmas.Grind.{flat_map-append}
use Rattle.model_bits.specs.Bits.{bits_of_number}
use Rattle.model_bits.specs.Writing.{WrittenField, HasPlace, bits_of_fields, in_bits}
use Rattle.model_bits.proofs.ReadsBack.{bits_of_fields-append}
use Rattle.setup_fields.specs.Puts.{HavePlaces, ArePut}

-- no field
pub none_put : (before : List Bool) → ArePut before before []
none_put before = record { behind = sym (append-nil before) }

-- a number
pub number_put : (before after : List Bool) (width number : ℕ) → after ≡ before ++ bits_of_number width number → ArePut before after (in_bits width number)
number_put before after width number is = record { behind = is ∙ ap (λ bs. before ++ bs) (sym (append-nil (bits_of_number width number))) }

-- fields behind others
pub then_put : {before between after : List Bool} (xs ys : List WrittenField) → ArePut before between xs → ArePut between after ys → ArePut before after (xs ++ ys)
then_put {before} {between} {after} xs ys first second = record {
  behind = second.behind ∙ ap (λ bs. bs ++ bits_of_fields ys) first.behind ∙ append_assoc before (bits_of_fields xs) (bits_of_fields ys)
      ∙ ap (λ bs. before ++ bs) (sym (bits_of_fields-append xs ys));
}

-- fields behind one
pub field_then : {before between after : List Bool} {x : WrittenField} {ys : List WrittenField} → ArePut before between (x ∷ []) → ArePut between after ys → ArePut before after (x ∷ ys)
field_then {x} {ys} first second = then_put (x ∷ []) ys first second

-- places
pub places : (fields : List WrittenField) → All HasPlace fields → HavePlaces fields
places fields all = record { each = all }

pub first_place : {x : WrittenField} {xs : List WrittenField} → HavePlaces (x ∷ xs) → x.number < 2 ^ x.width
first_place {x} {xs} have = All-head HasPlace x xs have.each

pub next_places : {x : WrittenField} {xs : List WrittenField} → HavePlaces (x ∷ xs) → HavePlaces xs
next_places {x} {xs} have = record { each = All-tail HasPlace x xs have.each }

pub no_places : HavePlaces []
no_places = record { each = λ k d lt. absurd (omega arith) }

pub with_place : {x : WrittenField} {xs : List WrittenField} → x.number < 2 ^ x.width → HavePlaces xs → HavePlaces (x ∷ xs)
with_place {x} {xs} one have = record { each = go } where
  go : All HasPlace (x ∷ xs)
  go zero d lt = one
  go (suc k) d lt = have.each k d (omega arith)

pub places_before : (xs ys : List WrittenField) → HavePlaces (xs ++ ys) → HavePlaces xs
places_before [] ys have = no_places
places_before (x ∷ xs) ys have = with_place (first_place have) (places_before xs ys (next_places have))

pub places_behind : (xs ys : List WrittenField) → HavePlaces (xs ++ ys) → HavePlaces ys
places_behind [] ys have = have
places_behind (x ∷ xs) ys have = places_behind xs ys (next_places have)

-- the fields of each item of a list
module _ {A : Type 0} (fields : A → List WrittenField) where
  pub item_places : (xs : List A) (i : ℕ) (d : A) → i < length xs → HavePlaces (flat_map fields xs) → HavePlaces (fields (get_or xs i d))
  item_places [] i d lt have = absurd (omega arith)
  item_places (x ∷ xs) zero d lt have = places_before (fields x) (flat_map fields xs) have
  item_places (x ∷ xs) (suc i) d lt have = item_places xs i d (omega arith) (places_behind (fields x) (flat_map fields xs) have)

  pub one_more : {before between after : List Bool} (xs : List A) (i : ℕ) (d : A) → i < length xs → ArePut before between (flat_map fields (take i xs)) → ArePut between after (fields (get_or xs i d))
      → ArePut before after (flat_map fields (take (i + 1) xs))
  one_more {before} {between} {after} xs i d lt put item =
      let more : flat_map fields (take (i + 1) xs) ≡ flat_map fields (take i xs) ++ fields (get_or xs i d) =
      ap (flat_map fields) (take_more xs i d lt) ∙ flat_map-append fields (take i xs) (get_or xs i d ∷ []) ∙ ap (λ ys. flat_map fields (take i xs) ++ ys) (append-nil (fields (get_or xs i d))) in
      subst (ArePut before after) (sym more) (then_put (flat_map fields (take i xs)) (fields (get_or xs i d)) put item)

  pub all_put : {before after : List Bool} (xs : List A) (i : ℕ) → length xs ≤ i → ArePut before after (flat_map fields (take i xs)) → ArePut before after (flat_map fields xs)
  all_put {before} {after} xs i past put = subst (λ ys. ArePut before after (flat_map fields ys)) (take_all i xs past) put

  -- the same of an item that is known by its place
  pub item_places_of : (xs : List A) (i : ℕ) (x : A) → i < length xs → x ≡ get_or xs i x → HavePlaces (flat_map fields xs) → HavePlaces (fields x)
  item_places_of xs i x lt is have = subst (λ y. HavePlaces (fields y)) (sym is) (item_places xs i x lt have)

  pub one_more_of : {before between after : List Bool} (xs : List A) (i : ℕ) (x : A) → i < length xs → x ≡ get_or xs i x → ArePut before between (flat_map fields (take i xs)) → ArePut between after (fields x)
      → ArePut before after (flat_map fields (take (i + 1) xs))
  one_more_of {before} {between} {after} xs i x lt is put item = one_more xs i x lt put (subst (λ y. ArePut between after (fields y)) is item)

-- what follows where there was memory
pub on_ok : {T E : Type 0} {P Q : Type 0} (r : Result T E) → OnOk r P → (P → Q) → OnOk r Q
on_ok (Ok x) holds f = f holds
on_ok (Err e) holds f = tt
