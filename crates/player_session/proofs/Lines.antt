-- The lines of links, one link at a time.
use Rattle.std.proofs.Common.{◌≡◌, ℕ, zero, suc, ◌+◌, List, [], ◌∷◌, ◌++◌, map, drop, Option, Some, None, option_map, refl, sym, ap, ◌∙◌, append_assoc, add-one, arith}
use Rattle.std.specs.List.{flat_map, enumerate_from, slice_get}
use Rattle.std.proofs.lemmas.Option.{slice_get-map}
use Rattle.model_line.specs.declared.film.LinkCounts.{LinkCounts}
use Rattle.model_line.specs.declared.item.LinkFacts.{LinkFacts}
use Rattle.model_line.specs.Acceptance.{FilmLink}
use Rattle.model_line.specs.PacketRows.{rows_of}
use Rattle.model_line.specs.Index.{Indexed, Indexes, facts_of}
use Rattle.model_line.proofs.FactsAt.{slice_get-facts}
use Rattle.model_player.specs.Texts.{lines_by, link_lines}

-- ---- the lines of one link

lines_are : (number : ℕ) (link : Option FilmLink) (counts : LinkCounts) (facts : LinkFacts) → option_map (λ (l : FilmLink). l.counts) link ≡ Some counts → option_map (facts_of number) (option_map rows_of link) ≡ Some facts
    → option_map (λ (l : FilmLink). link_lines (number, l)) link ≡ Some (lines_by number counts facts)
lines_are number None counts facts a b = absurd (cc)
lines_are number (Some l) counts facts a b =
    let same : l.counts ≡ counts = cc in
    let told : facts_of number (rows_of l) ≡ facts = cc in
    rw (same, told) refl

-- the facts of a link are those of the index
pub lines_of_link : (number : ℕ) (links : List FilmLink) (index : Indexed) (counts : LinkCounts) (facts : LinkFacts) → Indexes (map rows_of links) index
    → option_map (λ (l : FilmLink). l.counts) (slice_get links number) ≡ Some counts → slice_get index.links number ≡ Some facts
    → option_map (λ (l : FilmLink). link_lines (number, l)) (slice_get links number) ≡ Some (lines_by number counts facts)
lines_of_link number links index counts facts h a b =
    let start : 0 + number ≡ number = omega arith in
    let found = slice_get-facts 0 (map rows_of links) number ∙ ap (option_map (facts_of (0 + number))) (slice_get-map rows_of links number) in
    let told : option_map (facts_of number) (option_map rows_of (slice_get links number)) ≡ Some facts = rw start at (sym found ∙ ap (λ (xs : List LinkFacts). slice_get xs number) (sym h.facts) ∙ b) in
    lines_are number (slice_get links number) counts facts a told

-- ---- the lines of all links

-- the lines of links, of which the first has this number
abbrev pub lines_from : ℕ → List FilmLink → List ℕ
lines_from number links = flat_map link_lines (enumerate_from number links)

drop_at : (links : List FilmLink) (i : ℕ) (link : FilmLink) → slice_get links i ≡ Some link → drop i links ≡ link ∷ drop (suc i) links
drop_at [] i link e = absurd (cc)
drop_at (l ∷ links) zero link e = let same : l ≡ link = cc in rw same refl
drop_at (l ∷ links) (suc i) link e = drop_at links i link e

-- the link that these lines are of
record IsAt (i : ℕ) (link : Option FilmLink) (lines : List ℕ) : Type 0 where
  found : FilmLink
  at : link ≡ Some found
  are : link_lines (i, found) ≡ lines

is_at : (i : ℕ) (link : Option FilmLink) (lines : List ℕ) → option_map (λ (l : FilmLink). link_lines (i, l)) link ≡ Some lines → IsAt i link lines
is_at i None lines e = absurd (cc)
is_at i (Some l) lines e = record { found = l; at = refl; are = cc }

pub lines_go_on : (links : List FilmLink) (i : ℕ) (text lines now total : List ℕ) → option_map (λ (l : FilmLink). link_lines (i, l)) (slice_get links i) ≡ Some lines → now ≡ text ++ lines
    → text ++ lines_from i (drop i links) ≡ total → now ++ lines_from (i + 1) (drop (i + 1) links) ≡ total
lines_go_on links i text lines now total said now-is h =
    let here = is_at i (slice_get links i) lines said in
    let more : drop i links ≡ here.found ∷ drop (i + 1) links = rw add-one (drop_at links i here.found here.at) in
    let rest = lines_from (i + 1) (drop (i + 1) links) in
    ap (λ (x : List ℕ). x ++ rest) (now-is ∙ ap (λ (x : List ℕ). text ++ x) (sym here.are))
    ∙ append_assoc text (link_lines (i, here.found)) rest ∙ ap (λ (x : List FilmLink). text ++ lines_from i x) (sym more) ∙ h
