-- The curves of floors, one at a time.
use Rattle.std.proofs.Common.{◌≡◌, ℕ, ◌+◌, ◌<◌, ◌≤◌, Bool, List, [], ◌∷◌, ◌++◌, length, map, drop, get_or, Option, refl, sym, ap, ◌∙◌, append_assoc}
use Rattle.std.proofs.lemmas.List.{at_drop_more, drop_all, append-nil}
use Rattle.model_setup.specs.FloorSetup.{FloorSetup}
use Rattle.model_setup.specs.SetupPacket.{Submap, Mapping, SetupFields}
use Rattle.model_block.specs.PacketParts.{floor_of, read_curve, read_curves, no_floor, no_submap}
use Rattle.block_decoding.proofs.Items.{same_item}

abbrev pub Read : Type 0
Read = List (Option (List ℕ)) × List Bool

-- curves that were read before, and those that are still read
abbrev pub behind : List (Option (List ℕ)) → Read → Read
behind front read = (front ++ read.0, read.1)

-- the curves of these channels' floors
abbrev pub curves_from : SetupFields → Mapping → ℕ → List ℕ → List Bool → Read
curves_from setup mapping size mux left = read_curves setup.books size (map (floor_of setup mapping) mux) left

pub floor_is : (setup : SetupFields) (mapping : Mapping) (number : ℕ) (s : Submap) (f : FloorSetup) → number < length mapping.submaps → s.floor < length setup.floors
    → s ≡ get_or mapping.submaps number s → f ≡ get_or setup.floors s.floor f → floor_of setup mapping number ≡ f
floor_is setup mapping number s f lt few s-is f-is =
    let submap : get_or mapping.submaps number no_submap ≡ s = same_item mapping.submaps number no_submap s lt ∙ sym s-is in
    ap (λ (x : Submap). get_or setup.floors x.floor no_floor) submap ∙ (same_item setup.floors s.floor no_floor f few ∙ sym f-is)

pub curves_go_on : (setup : SetupFields) (mapping : Mapping) (size i d : ℕ) (mux : List ℕ) (f : FloorSetup) (curve : Option (List ℕ)) (front now : List (Option (List ℕ))) (left after : List Bool) (total : Read)
    → i < length mux → floor_of setup mapping (get_or mux i d) ≡ f → (curve, after) ≡ read_curve setup.books size f left → now ≡ front ++ curve ∷ []
    → behind front (curves_from setup mapping size (drop i mux) left) ≡ total
    → behind now (curves_from setup mapping size (drop (i + 1) mux) after) ≡ total
unfolding read_curves
curves_go_on setup mapping size i d mux f curve front now left after total lt f-is read now-is h =
    let rest = curves_from setup mapping size (drop (i + 1) mux) after in
    let more = at_drop_more (λ (xs : List ℕ). curves_from setup mapping size xs left) mux i d lt in
    let here : curves_from setup mapping size (drop i mux) left ≡ (curve ∷ rest.0, rest.1) =
    more ∙ (rw f-is (rw (sym read) refl)) in
    rw now-is (ap (λ (xs : List (Option (List ℕ))). (xs, rest.1)) (append_assoc front (curve ∷ []) rest.0) ∙ (ap (behind front) (sym here) ∙ h))

pub curves_end : (setup : SetupFields) (mapping : Mapping) (size i : ℕ) (mux : List ℕ) (front : List (Option (List ℕ))) (left : List Bool) (total : Read)
    → length mux ≤ i → behind front (curves_from setup mapping size (drop i mux) left) ≡ total → (front, left) ≡ total
unfolding read_curves
curves_end setup mapping size i mux front left total le h =
    let none = rw (drop_all i mux le) at h in
    ap (λ (xs : List (Option (List ℕ))). (xs, left)) (sym (append-nil front)) ∙ none
