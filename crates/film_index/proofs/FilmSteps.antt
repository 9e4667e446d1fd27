-- The line of a film, one link at a time.
use Rattle.std.proofs.Common.{◌≡◌, ℕ, ◌+◌, ◌≤◌, ◌<◌, List, [], ◌∷◌, ◌++◌, length, map, drop, get_or, refl, ap, sym, ◌∙◌, arith, append_assoc}
use Rattle.std.proofs.lemmas.List.{append-nil, at_drop_more, drop_all}
use Rattle.std.proofs.lemmas.List.Sums.{sum_by-cons}
use Rattle.model_line.specs.declared.row.LinkRows.{LinkRows}
use Rattle.model_line.specs.declared.item.LinkFacts.{LinkFacts}
use Rattle.model_line.specs.Decode.{LinkEntry, LineItem, frame_count, gap_count}
use Rattle.model_line.specs.Lines.{link_line, line}
use Rattle.model_line.specs.Origins.{frame_numbers, entries_of, number_behind, numbered_entries, numbered_links, Origin, origins}
use Rattle.model_line.specs.Index.{facts_of, facts_from, all_behind}
use Rattle.model_line.proofs.Counts.{frame_count-append, gap_count-append}
use Rattle.model_line.proofs.Levels.{frame_count-by, gap_count-by, counts_line}
use Rattle.film_index.specs.Bounds.{rows_in}

-- how many frames and gaps a link adds
pub frames_added : (number n before now : ℕ) (es : List (LinkEntry ℕ)) (old new : List (LineItem Origin)) → before ≡ frame_count old → now ≡ frame_count new → new ≡ old ++ link_line number origins (numbered_entries n es)
    → now ≡ before + frame_count (link_line number frame_numbers es)
frames_added number n before now es old new before-is now-is new-is =
    let whole = link_line number origins (numbered_entries n es) in
    let same = ap frame_count (counts_line number n es) ∙ frame_count-by (λ (p : Origin). p.number) whole in
    omega (arith, before-is, now-is, same, ap frame_count new-is, frame_count-append old whole)

pub gaps_added : (number n before now : ℕ) (es : List (LinkEntry ℕ)) (old new : List (LineItem Origin)) → before ≡ gap_count old → now ≡ gap_count new → new ≡ old ++ link_line number origins (numbered_entries n es)
    → now ≡ before + gap_count (link_line number frame_numbers es)
gaps_added number n before now es old new before-is now-is new-is =
    let whole = link_line number origins (numbered_entries n es) in
    let same = ap gap_count (counts_line number n es) ∙ gap_count-by (λ (p : Origin). p.number) whole in
    omega (arith, before-is, now-is, same, ap gap_count new-is, gap_count-append old whole)

pub facts_are : (number frames gaps : ℕ) (link : LinkRows) → frames ≡ frame_count (link_line number frame_numbers (entries_of link)) → gaps ≡ gap_count (link_line number frame_numbers (entries_of link))
    → record { channels = link.channels; rate = link.rate; short = link.short; long = link.long; frames = frames; gaps = gaps } ≡ facts_of number link
unfolding facts_of
facts_are number frames gaps link frames-are gaps-are = rw (frames-are, gaps-are) refl

-- ---- one link more

-- the links from one on begin with it
link_at : {Y : Type 0} (F : List LinkRows → Y) (links : List LinkRows) (i : ℕ) (link : LinkRows) → i < length links → link ≡ get_or links i link → F (drop i links) ≡ F (link ∷ drop (i + 1) links)
link_at F links i link lt is = at_drop_more F links i link lt ∙ ap (λ (x : LinkRows). F (x ∷ drop (i + 1) links)) (sym is)

pub film_step : (i n next : ℕ) (links : List LinkRows) (link : LinkRows) (old now total : List (LineItem Origin)) → i < length links → link ≡ get_or links i link
    → now ≡ old ++ link_line i origins (numbered_entries n (entries_of link))
    → next ≡ number_behind n (entries_of link)
    → old ++ line origins i (numbered_links n (map entries_of (drop i links))) ≡ total
    → now ++ line origins (i + 1) (numbered_links next (map entries_of (drop (i + 1) links))) ≡ total
unfolding line numbered_links
film_step i n next links link old now total lt is now-is next-is h =
    rw (now-is, next-is) (append_assoc old (link_line i origins (numbered_entries n (entries_of link))) _
    ∙ sym (link_at (λ (xs : List LinkRows). old ++ line origins i (numbered_links n (map entries_of xs))) links i link lt is) ∙ h)

pub film_end : (i n : ℕ) (links : List LinkRows) (old total : List (LineItem Origin)) → length links ≤ i → old ++ line origins i (numbered_links n (map entries_of (drop i links))) ≡ total → old ≡ total
unfolding line numbered_links
film_end i n links old total le h = let here = rw (drop_all i links le) at h in sym (append-nil old) ∙ here

pub facts_step : (i : ℕ) (links : List LinkRows) (link : LinkRows) (old now total : List LinkFacts) (facts : LinkFacts) → i < length links → link ≡ get_or links i link → now ≡ old ++ facts ∷ [] → facts ≡ facts_of i link
    → old ++ facts_from i (drop i links) ≡ total → now ++ facts_from (i + 1) (drop (i + 1) links) ≡ total
unfolding facts_from
facts_step i links link old now total facts lt is now-is facts-are h =
    rw (now-is, facts-are) (append_assoc old (facts_of i link ∷ []) (facts_from (i + 1) (drop (i + 1) links))
    ∙ sym (link_at (λ (xs : List LinkRows). old ++ facts_from i xs) links i link lt is) ∙ h)

pub facts_end : (i : ℕ) (links : List LinkRows) (old total : List LinkFacts) → length links ≤ i → old ++ facts_from i (drop i links) ≡ total → old ≡ total
unfolding facts_from
facts_end i links old total le h = let here = rw (drop_all i links le) at h in sym (append-nil old) ∙ here

pub behind_step : (i n next total : ℕ) (links : List LinkRows) (link : LinkRows) → i < length links → link ≡ get_or links i link → next ≡ number_behind n (entries_of link)
    → all_behind n (map entries_of (drop i links)) ≡ total → all_behind next (map entries_of (drop (i + 1) links)) ≡ total
unfolding all_behind
behind_step i n next total links link lt is next-is h = rw next-is (sym (link_at (λ (xs : List LinkRows). all_behind n (map entries_of xs)) links i link lt is) ∙ h)

pub behind_end : (i n total : ℕ) (links : List LinkRows) → length links ≤ i → all_behind n (map entries_of (drop i links)) ≡ total → n ≡ total
unfolding all_behind
behind_end i n total links le h = rw (drop_all i links le) at h

pub rows_more : (i : ℕ) (links : List LinkRows) (link : LinkRows) → i < length links → link ≡ get_or links i link → rows_in (drop i links) ≡ length link.rows + rows_in (drop (i + 1) links)
rows_more i links link lt is = link_at rows_in links i link lt is ∙ sum_by-cons (λ (x : LinkRows). length x.rows) link (drop (i + 1) links)
