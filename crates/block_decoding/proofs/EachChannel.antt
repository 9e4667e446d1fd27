-- The values of channels, one at a time.
use Rattle.std.proofs.Common.{◌≡◌, ℕ, ◌*◌, ◌<◌, ℤ, List, [], ◌∷◌, ◌+◌, ◌++◌, length, map, take, drop, get_or, Option, None, refl, ap, sym, ◌∙◌, arith, length-append, length-drop}
use Rattle.std.specs.List.{All, range_with_len}
use Rattle.std.proofs.lemmas.List.{length-take-le}
use Rattle.std.proofs.lemmas.List.Elements.{All-push, All-take, All-drop}
use Rattle.std.proofs.lemmas.List.FromFn.{map-range_with_len_more}
use Rattle.model_synthesis.specs.Transform.{IsBlockValue}
use Rattle.model_synthesis.specs.Tables.{ConstantTables}
use Rattle.model_synthesis.specs.Coupling.{channel}
use Rattle.model_synthesis.specs.Transform.{transformed}
use Rattle.model_synthesis.specs.Windows.{windowed}
use Rattle.model_block.specs.PacketBlocks.{spectrum_of, channel_values, all_values}
use Rattle.block_decoding.proofs.Items.{same_item}
use Rattle.block_decoding.specs.Shapes.{form_of, IsHalf}
use Rattle.block_decoding.specs.declared.channels.Shape.{Shape}

-- the values of a channel of so many bins
abbrev pub value_of : ConstantTables → Shape → ℕ → List (List ℤ) → List (Option (List ℕ)) → ℕ → List ℤ
value_of tables shape size residues curves c =
    channel_values tables (form_of shape (2 * size)) (channel residues c) (get_or curves c None)

pub map_twice : {X Y Z : Type 0} (g : Y → Z) (f : X → Y) (xs : List X) → map (λ x. g (f x)) xs ≡ map g (map f xs)
map_twice g f [] = refl
map_twice g f (x ∷ xs) = ap (λ (zs : List _). g (f x) ∷ zs) (map_twice g f xs)

pub halves_are : (tables : ConstantTables) (shape : Shape) (size : ℕ) (residues : List (List ℤ)) (curves : List (Option (List ℕ))) (g : List ℤ → List ℤ)
    → map (λ c. g (value_of tables shape size residues curves c)) (range_with_len 0 (length curves)) ≡ map g (all_values tables (form_of shape (2 * size)) residues curves)
unfolding all_values
halves_are tables shape size residues curves g = map_twice g (value_of tables shape size residues curves) (range_with_len 0 (length curves))

pub value_is : (tables : ConstantTables) (shape : Shape) (size k : ℕ) (residues : List (List ℤ)) (curves : List (Option (List ℕ))) (residue : List ℤ) (curve : Option (List ℕ)) (spectrum values : List ℤ)
    → k < length residues → k < length curves → residue ≡ get_or residues k residue → curve ≡ get_or curves k curve
    → spectrum ≡ spectrum_of tables residue curve → length spectrum ≡ size → values ≡ windowed tables (form_of shape (2 * length spectrum)) (transformed tables spectrum)
    → values ≡ value_of tables shape size residues curves k
value_is tables shape size k residues curves residue curve spectrum values r-there c-there r-is c-is s-is s-size v-is =
    let r : residue ≡ channel residues k = r-is ∙ same_item residues k residue [] r-there in
    let c : curve ≡ get_or curves k None = c-is ∙ same_item curves k curve None c-there in
    let s : spectrum ≡ spectrum_of tables (channel residues k) (get_or curves k None) = s-is ∙ (ap (λ x. spectrum_of tables x curve) r ∙ ap (spectrum_of tables (channel residues k)) c) in
    v-is ∙ (ap (λ n. windowed tables (form_of shape (2 * n)) (transformed tables spectrum)) s-size ∙ ap (λ x. windowed tables (form_of shape (2 * size)) (transformed tables x)) s)

-- a list of so many values, and the next one
pub next_of : (f : ℕ → List ℤ) (k : ℕ) (before : List (List ℤ)) (x : List ℤ) → before ≡ map f (range_with_len 0 k) → x ≡ f k → before ++ x ∷ [] ≡ map f (range_with_len 0 (k + 1))
next_of f k before x before-is x-is = rw (before-is, x-is) (sym (map-range_with_len_more f 0 k k (omega arith)))

-- values of a half
pub record IsLine (size : ℕ) (line : List ℤ) : Type 0 where
  pub count : length line ≡ size
  pub small : All IsBlockValue line

pub front_of : (size : ℕ) (values line : List ℤ) → length values ≡ 2 * size → All IsBlockValue values → line ≡ take size values → IsLine size line
front_of size values line whole small is = rw is (record {
  count = length-take-le size values (omega (arith, whole));
  small = All-take IsBlockValue size values small;
})

pub back_of : (size : ℕ) (values line : List ℤ) → length values ≡ 2 * size → All IsBlockValue values → line ≡ drop size values → IsLine size line
back_of size values line whole small is = rw is (record {
  count = omega (arith, whole, length-drop size values);
  small = All-drop IsBlockValue size values small;
})

pub one_more : (k size : ℕ) (half : List (List ℤ)) (line : List ℤ) → IsHalf k size half → IsLine size line → IsHalf (k + 1) size (half ++ line ∷ [])
one_more k size half line h l = record {
  count = omega (arith, length-append half (line ∷ []), h.count);
  sizes = All-push (λ values. length values ≡ size) half line h.sizes l.count;
  small = All-push (All IsBlockValue) half line h.small l.small;
}
