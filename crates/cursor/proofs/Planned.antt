-- Plans of reads, crosses and laps.
use Rattle.std.proofs.Common.{◌≡◌, ℕ, ◌≤◌, ◌<◌, ◌++◌, List, [], length, true, false, nat_lt, refl, ap, sym, ◌∙◌, arith}
use Rattle.std.specs.List.{All}
use Rattle.std.proofs.lemmas.Bool.{lt-ltb, le-ltb}
use Rattle.std.proofs.lemmas.List.Elements.{All-append}
use Rattle.std.proofs.lemmas.List.Concat.{flat_map-append}
use Rattle.model_line.specs.Decode.{frame_count}
use Rattle.model_line.specs.Origins.{listed}
use Rattle.model_line.specs.Index.{Indexed}
use Rattle.film_index.specs.Items.{AreIndexItems}
use Rattle.model_cursor.specs.declared.need.Need.{Need}
use Rattle.model_cursor.specs.Runs.{run_at}
use Rattle.model_cursor.specs.Cursors.{place_after}
use Rattle.model_cursor.specs.Splices.{splice_len}
use Rattle.model_cursor.specs.Plans.{shorts_of, read_needs, splice_needs, lap_needs}
use Rattle.model_cursor.specs.Positions.{Position, IsPosition}
use Rattle.cursor.specs.declared.portions.Portion.{Portion}
use Rattle.cursor.specs.Portions.{run_portions, needs_of, portion_needs, HasNext}
use Rattle.cursor.proofs.ReadFrames.{IsBelow, needs_there}
use Rattle.cursor.proofs.CursorRuns.{place_of, run_needs, have_next}

pub read_within : (index : Indexed) (place count : ℕ) (plan : List Need) → AreIndexItems index → plan ≡ read_needs index.items place count → All (IsBelow index.blocks) plan
read_within index place count plan right is = rw is (needs_there index place count index.blocks right (omega arith))

-- ---- crosses

-- how many frames a splice between these positions mixes
abbrev pub len_of_splice : Indexed → Position → Position → ℕ
len_of_splice index p q = splice_len (shorts_of index.links) (listed index.items) (place_of index p) (place_of index q)

pub no_splice : (index : Indexed) (p q : Position) → nat_lt 0 (length (run_at (listed index.items) (place_of index q))) ≡ false → splice_needs index (place_of index p) (place_of index q) ≡ []
unfolding splice_needs
no_splice index p q test = rw test refl

pub both_sides : (index : Indexed) (p q : Position) → nat_lt 0 (length (run_at (listed index.items) (place_of index q))) ≡ true
    → splice_needs index (place_of index p) (place_of index q) ≡ read_needs index.items (place_of index p) (len_of_splice index p q) ++ read_needs index.items (place_of index q) (len_of_splice index p q)
unfolding splice_needs
both_sides index p q test = rw test refl

pub both_next : (index : Indexed) (p q : Position) (frames : ℕ) (first all : List Portion) → AreIndexItems index → IsPosition index.items p → IsPosition index.items q → first ≡ run_portions index.items p frames → all ≡ first ++ run_portions index.items q frames → All HasNext all
both_next index p q frames first all right at there first-is all-is = rw (all-is, first-is) (All-append HasNext (run_portions index.items p frames) (run_portions index.items q frames) (have_next index p frames right at) (have_next index q frames right there))

pub crossed_needs : (index : Indexed) (p q : Position) (frames : ℕ) (first all : List Portion) → AreIndexItems index → IsPosition index.items p → IsPosition index.items q → nat_lt 0 (length (run_at (listed index.items) (place_of index q))) ≡ true → frames ≡ len_of_splice index p q → first ≡ run_portions index.items p frames → all ≡ first ++ run_portions index.items q frames
    → needs_of all ≡ splice_needs index (place_of index p) (place_of index q)
crossed_needs index p q frames first all right at there test frames-is first-is all-is =
    ap (λ (ps : List Portion). needs_of ps) (all-is ∙ ap (λ (ps : List Portion). ps ++ run_portions index.items q frames) first-is)
    ∙ flat_map-append portion_needs (run_portions index.items p frames) (run_portions index.items q frames)
    ∙ ap (λ (ns : List Need). ns ++ needs_of (run_portions index.items q frames)) (run_needs index p frames right at)
    ∙ ap (λ (ns : List Need). read_needs index.items (place_of index p) frames ++ ns) (run_needs index q frames right there)
    ∙ ap (λ (k : ℕ). read_needs index.items (place_of index p) k ++ read_needs index.items (place_of index q) k) frames-is
    ∙ sym (both_sides index p q test)

pub cross_within : (index : Indexed) (p q : Position) (plan : List Need) → AreIndexItems index → nat_lt 0 (length (run_at (listed index.items) (place_of index q))) ≡ true → plan ≡ splice_needs index (place_of index p) (place_of index q) → All (IsBelow index.blocks) plan
cross_within index p q plan right test is =
    let frames : ℕ = len_of_splice index p q in
    rw (is, both_sides index p q test) (All-append (IsBelow index.blocks) (read_needs index.items (place_of index p) frames) (read_needs index.items (place_of index q) frames)
    (needs_there index (place_of index p) frames index.blocks right (omega arith)) (needs_there index (place_of index q) frames index.blocks right (omega arith)))

-- ---- laps

pub no_lap : (index : Indexed) (old frames : ℕ) → frame_count (listed index.items) < frames → lap_needs index old frames ≡ []
unfolding lap_needs
no_lap index old frames past = let test : nat_lt (frame_count (listed index.items)) frames ≡ true = lt-ltb (frame_count (listed index.items)) frames past in rw test refl

pub lap_to : (index : Indexed) (old frames : ℕ) → frames ≤ frame_count (listed index.items) → lap_needs index old frames ≡ splice_needs index old (place_after frames (listed index.items))
unfolding lap_needs
lap_to index old frames within = let test : nat_lt (frame_count (listed index.items)) frames ≡ false = le-ltb (frame_count (listed index.items)) frames within in rw test refl
