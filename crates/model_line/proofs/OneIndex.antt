-- No two indexes of a film have other items: what an index says determines them.
use Rattle.std.proofs.Common.{◌≡◌, ℕ, zero, suc, ◌+◌, ◌-◌, ◌<◌, List, [], ◌∷◌, ◌++◌, map, Option, Some, None, refl, ap, sym, ◌∙◌, arith, subst}
use Rattle.std.specs.List.{All, AllPairs, range_with_len}
use Rattle.std.proofs.lemmas.List.Elements.{All-head, All-tail}
use Rattle.model_line.specs.declared.row.GapKind.{GapKind}
use Rattle.model_line.specs.declared.item.Span.{Span}
use Rattle.model_line.specs.declared.item.Item.{Item}
use Rattle.model_line.specs.declared.item.Item.TheVariants as variants
use Rattle.model_line.specs.Decode.{LineItem, frame, gap, frame_count}
use Rattle.model_line.specs.Origins.{Origin, origin, origins_of, listed, HaveStarts, HasFrame, IsBefore}
use Rattle.model_line.specs.Laws.{OneIndex}

-- ---- pairs

pairs_tail : (x : Item) (xs : List Item) → AllPairs IsBefore (x ∷ xs) → AllPairs IsBefore xs
pairs_tail x xs pairs = λ i j d lt within. pairs (suc i) (suc j) d (omega (arith, lt)) (omega (arith, within))

pairs_first : (x : Item) (xs : List Item) → AllPairs IsBefore (x ∷ xs) → All (IsBefore x) xs
pairs_first x xs pairs = λ k d within. pairs 0 (suc k) d (omega arith) (omega (arith, within))

-- ---- the first item of a line

first_block : List (LineItem Origin) → Option ℕ
first_block [] = None
first_block (frame link p ∷ xs) = Some p.first
first_block (gap link kind ∷ xs) = None

first_at : List (LineItem Origin) → ℕ
first_at [] = 0
first_at (frame link p ∷ xs) = p.number
first_at (gap link kind ∷ xs) = 0

first_link : List (LineItem Origin) → ℕ
first_link [] = 0
first_link (frame link p ∷ xs) = link
first_link (gap link kind ∷ xs) = link

others : List (LineItem Origin) → List (LineItem Origin)
others [] = []
others (x ∷ xs) = xs

-- so many frames from one on
abbrev frames_from : ℕ → ℕ → ℕ → ℕ → List (LineItem Origin)
frames_from link block from n = map (frame link) (map (origin block (block + 1)) (range_with_len from n))

some_frames : (s : Span) → s.from < s.to → (m : ℕ) × (s.to - s.from ≡ suc m)
some_frames s lt = (s.to - s.from - 1, omega (arith, lt))

first_listed : (s : Span) (xs : List Item) → s.from < s.to → (first_block (listed (variants.Span s ∷ xs)) ≡ Some s.block) × (first_at (listed (variants.Span s ∷ xs)) ≡ s.from) × (first_link (listed (variants.Span s ∷ xs)) ≡ s.link)
unfolding listed first_block first_at first_link
first_listed s xs lt = let some = some_frames s lt in (rw some.1 refl, rw some.1 refl, rw some.1 refl)

-- later items begin with no frame of the block
later : (s : Span) (xs : List Item) → All (IsBefore (variants.Span s)) xs → All HasFrame xs → first_block (listed xs) ≡ Some s.block → ⊥
unfolding listed first_block
later s [] before has e = cc
later s (variants.Gap link kind ∷ xs) before has e = cc
later s (variants.Span t ∷ xs) before has e =
    let lt : s.block < t.block = All-head (IsBefore (variants.Span s)) (variants.Span t) xs before in
    let first = (first_listed t xs (All-head HasFrame (variants.Span t) xs has)).0 in
    let same : s.block ≡ t.block = cc (first, e) in
    omega (arith, lt, same)

cancel : (link block from n m : ℕ) (xs ys : List (LineItem Origin)) → (first_block xs ≡ Some block → ⊥) → (first_block ys ≡ Some block → ⊥) → frames_from link block from n ++ xs ≡ frames_from link block from m ++ ys → (n ≡ m) × (xs ≡ ys)
unfolding first_block others
cancel link block from zero zero xs ys none_here none_there e = (refl, e)
cancel link block from zero (suc m) xs ys none_here none_there e = absurd (none_here (ap first_block e))
cancel link block from (suc n) zero xs ys none_here none_there e = absurd (none_there (sym (ap first_block e)))
cancel link block from (suc n) (suc m) xs ys none_here none_there e =
    let rest = cancel link block (from + 1) n m xs ys none_here none_there (ap others e) in
    (ap suc rest.0, rest.1)

span_of : ℕ → ℕ → ℕ → ℕ → ℕ → Span
span_of link block from to start = record { link = link; block = block; from = from; to = to; start = start }

span_same : (s t : Span) → s.link ≡ t.link → s.block ≡ t.block → s.from ≡ t.from → s.to ≡ t.to → s.start ≡ t.start → s ≡ t
unfolding span_of
span_same s t a b c d e = ap (λ (k : ℕ). span_of k s.block s.from s.to s.start) a ∙ ap (λ (k : ℕ). span_of t.link k s.from s.to s.start) b ∙ ap (λ (k : ℕ). span_of t.link t.block k s.to s.start) c ∙ ap (λ (k : ℕ). span_of t.link t.block t.from k s.start) d ∙ ap (λ (k : ℕ). span_of t.link t.block t.from t.to k) e

-- ---- the first items are the same, and so are the others' origins

spans_same : (s t : Span) (xs ys : List Item) → listed (variants.Span s ∷ xs) ≡ listed (variants.Span t ∷ ys) → s.start ≡ t.start
    → All HasFrame (variants.Span s ∷ xs) → All HasFrame (variants.Span t ∷ ys) → AllPairs IsBefore (variants.Span s ∷ xs) → AllPairs IsBefore (variants.Span t ∷ ys) → (s ≡ t) × (listed xs ≡ listed ys)
unfolding listed
spans_same s t xs ys e start has more pairs others_pairs =
    let s-some = All-head HasFrame (variants.Span s) xs has in
    let t-some = All-head HasFrame (variants.Span t) ys more in
    let s-first = first_listed s xs s-some in
    let t-first = first_listed t ys t-some in
    let link : s.link ≡ t.link = sym s-first.2 ∙ ap first_link e ∙ t-first.2 in
    let some : Some s.block ≡ Some t.block = sym s-first.0 ∙ ap first_block e ∙ t-first.0 in
    let block : s.block ≡ t.block = cc some in
    let from : s.from ≡ t.from = sym s-first.1 ∙ ap first_at e ∙ t-first.1 in
    let whole = rw (← link, ← block, ← from) at e in
    let parts = cancel s.link s.block s.from (s.to - s.from) (t.to - s.from) (listed xs) (listed ys)
    (later s xs (pairs_first (variants.Span s) xs pairs) (All-tail HasFrame (variants.Span s) xs has))
    (λ first. later t ys (pairs_first (variants.Span t) ys others_pairs) (All-tail HasFrame (variants.Span t) ys more) (first ∙ some)) whole in
    let to : s.to ≡ t.to = omega (arith, parts.0, from, s-some, t-some) in
    (span_same s t link block from to start, parts.1)

never_empty : (x : Item) (xs : List Item) → HasFrame x → listed (x ∷ xs) ≡ [] → ⊥
unfolding listed first_block
never_empty (variants.Gap link kind) xs has e = cc
never_empty (variants.Span s) xs has e = let first = (first_listed s xs has).0 in cc first

never_both : (s : Span) (link : ℕ) (kind : GapKind) (xs ys : List Item) → s.from < s.to → listed (variants.Span s ∷ xs) ≡ listed (variants.Gap link kind ∷ ys) → ⊥
unfolding listed first_block
never_both s link kind xs ys lt e = let first = (first_listed s xs lt).0 in cc first

same_items : (n : ℕ) (xs ys : List Item) → listed xs ≡ listed ys → All HasFrame xs → All HasFrame ys → AllPairs IsBefore xs → AllPairs IsBefore ys → HaveStarts n xs → HaveStarts n ys → xs ≡ ys
unfolding HaveStarts listed frame_count
same_items n [] [] e has more pairs others_pairs starts more_starts = refl
same_items n [] (y ∷ ys) e has more pairs others_pairs starts more_starts = absurd (never_empty y ys (All-head HasFrame y ys more) (sym e))
same_items n (x ∷ xs) [] e has more pairs others_pairs starts more_starts = absurd (never_empty x xs (All-head HasFrame x xs has) e)
same_items n (variants.Gap link kind ∷ xs) (variants.Gap other sort ∷ ys) e has more pairs others_pairs starts more_starts =
    let links : link ≡ other = cc e in
    let kinds : kind ≡ sort = cc e in
    let rest : listed xs ≡ listed ys = cc e in
    rw (links, kinds) (ap (λ zs. variants.Gap other sort ∷ zs) (same_items _ xs ys rest (All-tail HasFrame (variants.Gap link kind) xs has) (All-tail HasFrame (variants.Gap other sort) ys more)
    (pairs_tail (variants.Gap link kind) xs pairs) (pairs_tail (variants.Gap other sort) ys others_pairs) starts.1 more_starts.1))
same_items n (variants.Gap link kind ∷ xs) (variants.Span t ∷ ys) e has more pairs others_pairs starts more_starts = absurd (never_both t link kind ys xs (All-head HasFrame (variants.Span t) ys more) (sym e))
same_items n (variants.Span s ∷ xs) (variants.Gap link kind ∷ ys) e has more pairs others_pairs starts more_starts = absurd (never_both s link kind xs ys (All-head HasFrame (variants.Span s) xs has) e)
same_items n (variants.Span s ∷ xs) (variants.Span t ∷ ys) e has more pairs others_pairs starts more_starts =
    let same = spans_same s t xs ys e (starts.0 ∙ sym more_starts.0) has more pairs others_pairs in
    let rest = same_items (n + frame_count (origins_of (variants.Span s))) xs ys same.1 (All-tail HasFrame (variants.Span s) xs has) (All-tail HasFrame (variants.Span t) ys more)
    (pairs_tail (variants.Span s) xs pairs) (pairs_tail (variants.Span t) ys others_pairs) starts.1 (subst (λ (z : Span). HaveStarts (n + frame_count (origins_of (variants.Span z))) ys) (sym same.0) more_starts.1) in
    ap (λ (z : Span). variants.Span z ∷ xs) same.0 ∙ ap (λ zs. variants.Span t ∷ zs) rest

pub one_index : OneIndex
one_index = λ xs ys. same_items 0 xs ys
