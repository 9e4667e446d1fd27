-- What a page does to the open packet.
use Rattle.std.proofs.Common.{◌≡◌, ℕ, ◌+◌, ◌<◌, ◌≤◌, true, false, nat_lt, List, [], length, take, drop, get_or, sum, refl, arith}
use Rattle.std.proofs.lemmas.Bool.{lt-ltb, le-ltb}
use Rattle.std.proofs.lemmas.List.{drop_all, drop-drop}
use Rattle.std.proofs.lemmas.Grind.{common_steps}
use Rattle.model_ogg.specs.Entries.{segments, after_end}
use Rattle.ogg_packets.proofs.SegmentSteps.{segments-more}

pub front_goes_on : (laces body : List ℕ) (i : ℕ) → i < length laces → 255 ≤ get_or laces i 0
    → after_end (segments (drop i laces) (drop (sum (take i laces)) body)) ≡ after_end (segments (drop (i + 1) laces) (drop (sum (take (i + 1) laces)) body))
unfolding after_end
front_goes_on laces body i lt le =
    let test : nat_lt (get_or laces i 0) 255 ≡ false = le-ltb _ _ le in
    let sums : sum (take (i + 1) laces) ≡ sum (take i laces) + get_or laces i 0 = grind (arith, common_steps) in
    rw (segments-more laces i (drop (sum (take i laces)) body) lt, test, drop-drop (get_or laces i 0) (sum (take i laces)) body, sums) refl

pub front_found : (laces body : List ℕ) (i : ℕ) → i < length laces → get_or laces i 0 < 255
    → after_end (segments (drop i laces) (drop (sum (take i laces)) body)) ≡ segments (drop (i + 1) laces) (drop (sum (take (i + 1) laces)) body)
unfolding after_end
front_found laces body i lt small =
    let test : nat_lt (get_or laces i 0) 255 ≡ true = lt-ltb _ _ small in
    let sums : sum (take (i + 1) laces) ≡ sum (take i laces) + get_or laces i 0 = grind (arith, common_steps) in
    rw (segments-more laces i (drop (sum (take i laces)) body) lt, test, drop-drop (get_or laces i 0) (sum (take i laces)) body, sums) refl

pub front_all : (laces body : List ℕ) (i : ℕ) → length laces ≤ i → after_end (segments (drop i laces) body) ≡ []
unfolding after_end segments
front_all laces body i le = rw (drop_all i laces le) refl

pub segments-all : (laces body : List ℕ) (n : ℕ) → length laces ≤ n → segments (drop n laces) body ≡ []
unfolding segments
segments-all laces body n le = rw (drop_all n laces le) refl
