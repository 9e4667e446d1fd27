-- The final values of a floor's points, and its curve (Vorbis I, sections 7.2.4, 9.2.4, 9.2.5 and
-- 9.2.6).
use Rattle.std.specs.Prelude.{◌≡◌, ℕ, ◌+◌, ◌-◌, ◌*◌, ◌/◌, ◌%◌, ◌^◌, ◌≤◌, List, [], ◌∷◌, ◌++◌, length, take, map, fold, Bool, true, false, ◌&&◌, ◌||◌, not, ◌==◌, nat_lt, nat_le, if◌then◌else◌, ℤ, pos, negsuc, ◌+ℤ◌, ◌-ℤ◌, ◌*ℤ◌, int_lt, int_le, unsigned_abs, Option, Some, None, unwrap_or, option_map, slice_index, slice_index_or}
use Rattle.std.specs.List.{All, range_with_len, list_any, list_all, find}
use Rattle.std.specs.Int.{int_min}
use Rattle.model_setup.specs.declared.floor.Final.{Final}
use Rattle.model_setup.specs.FloorSetup.{FloorSetup}
use Rattle.model_setup.specs.Codebook.{Codebook}
use Rattle.model_setup.specs.FloorPacket.{range_of, floor_values}

-- ---- neighbours

abbrev pub point_numbers : List ℕ → List ℕ
point_numbers x_values = range_with_len 0 (length x_values)

-- of the points that count, the number of the one below a bin that is nearest to it: no other that
-- counts lies between
unfoldable pub nearest_below : List ℕ → (ℕ → Bool) → ℕ → Option ℕ
nearest_below x_values counts x =
    find (λ n. (counts n && nat_lt (slice_index x_values n) x)
    && list_all (λ m. not (counts m) || nat_le (slice_index x_values m) (slice_index x_values n)
    || nat_le x (slice_index x_values m)) (point_numbers x_values))
    (point_numbers x_values)

-- the same above a bin
unfoldable pub nearest_above : List ℕ → (ℕ → Bool) → ℕ → Option ℕ
nearest_above x_values counts x =
    find (λ n. (counts n && nat_lt x (slice_index x_values n))
    && list_all (λ m. not (counts m) || nat_le (slice_index x_values n) (slice_index x_values m)
    || nat_le (slice_index x_values m) x) (point_numbers x_values))
    (point_numbers x_values)

-- the neighbours of point i are the nearest of the points before it (sections 9.2.4 and 9.2.5)
unfoldable pub low_neighbour : List ℕ → ℕ → ℕ
low_neighbour x_values i =
    unwrap_or (nearest_below x_values (λ n. nat_lt n i) (slice_index x_values i)) 0

unfoldable pub high_neighbour : List ℕ → ℕ → ℕ
high_neighbour x_values i =
    unwrap_or (nearest_above x_values (λ n. nat_lt n i) (slice_index x_values i)) 1

-- ---- final values

-- the height at bin x of the straight line between two points, rounded toward the first (section
-- 9.2.6)
unfoldable pub render_point : ℕ → ℤ → ℕ → ℤ → ℕ → ℤ
render_point x0 y0 x1 y1 x =
    let rise = unsigned_abs (y1 -ℤ y0) * (x - x0) / (x1 - x0) in
    if int_lt y1 y0 then y0 -ℤ pos rise else y0 +ℤ pos rise

abbrev pub point_value : List ℤ → ℕ → ℤ
point_value values i = slice_index_or values i (pos 0)

-- the height of point i on the straight line between its neighbours
unfoldable pub predicted : List ℕ → List ℤ → ℕ → ℤ
predicted x_values values i =
    let low = low_neighbour x_values i in
    let high = high_neighbour x_values i in
    render_point (slice_index x_values low) (point_value values low) (slice_index x_values high)
    (point_value values high) (slice_index x_values i)

-- the room above and below a predicted height, and the lesser of the two, counted on both sides
abbrev pub high_room : ℕ → ℤ → ℤ
high_room range height = pos range -ℤ height

abbrev pub low_room : ℤ → ℤ
low_room height = height

abbrev pub room : ℕ → ℤ → ℤ
room range height = pos 2 *ℤ int_min (high_room range height) (low_room height)

-- a value that isn't 0 moves the point: within the room by turns down and up, past it to the side
-- that has more
abbrev pub moved : ℕ → ℤ → ℕ → ℤ
moved range height y =
    if int_le (room range height) (pos y)
    then (if int_lt (low_room height) (high_room range height)
    then (pos y -ℤ low_room height) +ℤ height
    else ((height -ℤ pos y) +ℤ high_room range height) -ℤ pos 1)
    else (if y % 2 == 1
    then height -ℤ pos ((y + 1) / 2)
    else height +ℤ pos (y / 2))

-- the final value of a point that was predicted at this height
unfoldable pub final_value : ℕ → ℤ → ℕ → ℤ
final_value range height y = if y == 0 then height else moved range height y

abbrev pub with_next : ℕ → List ℕ → List ℕ → List ℤ → ℕ → List ℤ
with_next range x_values y_values values i =
    values ++ final_value range (predicted x_values values i) (slice_index y_values i) ∷ []

-- the final values of the points up to one, each from those before it
unfoldable pub values_up_to : ℕ → List ℕ → List ℕ → ℕ → List ℤ
values_up_to range x_values y_values count =
    fold (with_next range x_values y_values) (map pos (take 2 y_values))
    (range_with_len 2 (count - 2))

-- a point is flagged, that is the curve goes through it, if it is one of the first two, if its own
-- value isn't 0, or if it is a neighbour of a point whose value isn't 0
abbrev pub is_moved : List ℕ → ℕ → Bool
is_moved y_values i = not (slice_index y_values i == 0)

abbrev pub bends : List ℕ → List ℕ → ℕ → ℕ → Bool
bends x_values y_values i j =
    is_moved y_values j && (low_neighbour x_values j == i || high_neighbour x_values j == i)

unfoldable pub is_flagged : List ℕ → List ℕ → ℕ → ℕ → Bool
is_flagged x_values y_values count i =
    (nat_lt i 2 || is_moved y_values i)
    || list_any (bends x_values y_values i) (range_with_len 2 (count - 2))

-- the final value and the flag of each of the first points, with regard to them alone
unfoldable pub finals_up_to : ℕ → List ℕ → List ℕ → ℕ → List Final
finals_up_to range x_values y_values count =
    map (λ i. record {
      value = point_value (values_up_to range x_values y_values count) i;
      flagged = is_flagged x_values y_values count i;
    }) (range_with_len 0 count)

-- the final value and the flag of each point
unfoldable pub finals_of : FloorSetup → List ℕ → List Final
finals_of floor y_values =
    finals_up_to (range_of floor.multiplier) floor.x_values y_values (length floor.x_values)

-- the final values and flags of a floor's points in a packet, none where the floor is unused there,
-- and the bits after its values
unfoldable pub floor_finals : List Codebook → FloorSetup → List Bool
    → Option (List Final) × List Bool
floor_finals books floor left =
    let read = floor_values books floor left in (option_map (finals_of floor) read.0, read.1)

-- finals from which a curve can be drawn: one for each point, the first two flagged, none too large
pub record AreFinals (floor : FloorSetup) (finals : List Final) : Type 0 where
  pub count : length finals ≡ length floor.x_values
  pub ends : All (λ (f : Final). f.flagged ≡ true) (take 2 finals)
  pub small : All (λ (f : Final). unsigned_abs f.value ≤ 2 ^ 25) finals

-- ---- the curve

abbrev pub no_final : Final
no_final = record { value = pos 0; flagged = false }

abbrev pub final_of : List Final → ℕ → Final
final_of finals i = slice_index_or finals i no_final

-- a height as the number of a decibel value
abbrev pub decibel_number : ℤ → ℕ
decibel_number (pos n) = if nat_lt 255 n then 255 else n
decibel_number (negsuc n) = 0

-- the height of a point in the curve
abbrev pub height_of : FloorSetup → List Final → ℕ → ℤ
height_of floor finals i = (final_of finals i).value *ℤ pos floor.multiplier

-- the height at bin x between a flagged point and the next, or behind the last
abbrev pub height_between : FloorSetup → List Final → ℕ → Option ℕ → Option ℕ → ℤ
height_between floor finals x None high = pos 0
height_between floor finals x (Some low) None = height_of floor finals low
height_between floor finals x (Some low) (Some high) =
    render_point (slice_index floor.x_values low) (height_of floor finals low)
    (slice_index floor.x_values high) (height_of floor finals high) x

-- the number of the decibel value at bin x: on the straight line between the nearest flagged
-- points on both sides (the first may stand at x itself), or the height of the last one behind it
unfoldable pub curve_at : FloorSetup → List Final → ℕ → ℕ
curve_at floor finals x =
    let is_corner : ℕ → Bool = λ n. (final_of finals n).flagged in
    decibel_number (height_between floor finals x (nearest_below floor.x_values is_corner (x + 1))
    (nearest_above floor.x_values is_corner x))
