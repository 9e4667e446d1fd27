-- Listings, one item at a time.
use Rattle.std.proofs.Common.{◌≡◌, ℕ, ◌+◌, ◌-◌, ◌≤◌, ◌<◌, List, [], ◌∷◌, ◌++◌, map, get_or, refl, ap, sym, ◌∙◌, arith}
use Rattle.std.specs.List.{All, range_with_len, flat_map}
use Rattle.std.proofs.lemmas.List.{append-nil}
use Rattle.std.proofs.lemmas.List.Concat.{flat_map-append}
use Rattle.std.proofs.lemmas.List.Elements.{All-append, All-nil, All-cons}
use Rattle.std.proofs.lemmas.List.Quantifiers.{all_pairs_push}
use Rattle.std.proofs.lemmas.List.FromFn.{length-map-range_with_len}
use Rattle.model_line.specs.declared.row.GapKind.{GapKind}
use Rattle.model_line.specs.declared.item.Span.{Span}
use Rattle.model_line.specs.declared.item.Item.{Item}
use Rattle.model_line.specs.declared.item.Item.TheVariants as variants
use Rattle.model_line.specs.Decode.{frame_count, gap_count}
use Rattle.model_line.specs.Origins.{origin, span_origins, origins_of, listed, starts_from, HasStart, HaveStarts, HasFrame, IsBefore}
use Rattle.model_line.specs.Index.{IsWithin}
use Rattle.model_line.proofs.Counts.{frame_count-append, gap_count-append, frame_count-frames, gap_count-frames}
use Rattle.film_index.specs.Listings.{IsBelow, AreListed}

pub listed-push : (xs : List Item) (x : Item) → listed (xs ++ x ∷ []) ≡ listed xs ++ origins_of x
unfolding listed
listed-push xs x = flat_map-append origins_of xs (x ∷ []) ∙ ap (λ ys. flat_map origins_of xs ++ ys) (append-nil (origins_of x))

starts_from-push : (n : ℕ) (xs : List Item) (x : Item) → starts_from n (xs ++ x ∷ []) ≡ starts_from n xs ++ (n + frame_count (listed xs)) ∷ []
unfolding starts_from listed frame_count
starts_from-push n [] x = let e : n + 0 ≡ n = omega arith in rw e refl
starts_from-push n (y ∷ xs) x =
    let e : n + frame_count (origins_of y) + frame_count (listed xs) ≡ n + frame_count (origins_of y ++ listed xs) = omega (arith, frame_count-append (origins_of y) (listed xs)) in
    ap (λ ks. n ∷ ks) (starts_from-push (n + frame_count (origins_of y)) xs x ∙ ap (λ k. starts_from (n + frame_count (origins_of y)) xs ++ k ∷ []) e)

told_push : (n : ℕ) (xs : List Item) (x : Item) → HaveStarts n xs → HasStart (n + frame_count (listed xs)) x → HaveStarts n (xs ++ x ∷ [])
unfolding HaveStarts listed frame_count
told_push n [] x started here = let e : n + 0 ≡ n = omega arith in ((rw e at here), tt)
told_push n (y ∷ xs) x started here =
    let e : n + frame_count (origins_of y) + frame_count (listed xs) ≡ n + frame_count (origins_of y ++ listed xs) = omega (arith, frame_count-append (origins_of y) (listed xs)) in
    (started.0, told_push (n + frame_count (origins_of y)) xs x started.1 (rw e here))

-- ---- bounds on the blocks of spans

below_more : (n k : ℕ) (x : Item) → n ≤ k → IsBelow n x → IsBelow k x
below_more n k (variants.Span s) le below = omega (arith, below)
below_more n k (variants.Gap link kind) le below = tt

pub all_below_more : (n k : ℕ) (xs : List Item) → n ≤ k → All (IsBelow n) xs → All (IsBelow k) xs
all_below_more n k xs le all = λ i d lt. below_more n k (get_or xs i d) le (all i d lt)

before_span : (x : Item) (s : Span) → IsBelow s.block x → IsBefore x (variants.Span s)
before_span (variants.Span t) s below = below
before_span (variants.Gap link kind) s below = tt

before_gap : (x : Item) (link : ℕ) (kind : GapKind) → IsBefore x (variants.Gap link kind)
before_gap (variants.Span t) link kind = tt
before_gap (variants.Gap k l) link kind = tt

all_push : (P : Item → Type 0) (xs : List Item) (x : Item) → All P xs → P x → All P (xs ++ x ∷ [])
all_push P xs x all here = All-append P xs (x ∷ []) all (All-cons P x [] here (All-nil P))

-- ---- one item more

pub frame_count-between : (link block from to : ℕ) → frame_count (span_origins link block from to) ≡ to - from
frame_count-between link block from to = frame_count-frames link (map (origin block (block + 1)) (range_with_len from (to - from))) ∙ length-map-range_with_len (origin block (block + 1)) from (to - from)

count_push : (xs : List Item) (x : Item) → frame_count (listed (xs ++ x ∷ [])) ≡ frame_count (listed xs) + frame_count (origins_of x)
count_push xs x = ap frame_count (listed-push xs x) ∙ frame_count-append (listed xs) (origins_of x)

gaps_push : (xs : List Item) (x : Item) → gap_count (listed (xs ++ x ∷ [])) ≡ gap_count (listed xs) + gap_count (origins_of x)
gaps_push xs x = ap gap_count (listed-push xs x) ∙ gap_count-append (listed xs) (origins_of x)

starts_push : (xs : List Item) (x : Item) (starts : List ℕ) (total : ℕ) → starts ≡ starts_from 0 xs → total ≡ frame_count (listed xs) → starts ++ total ∷ [] ≡ starts_from 0 (xs ++ x ∷ [])
starts_push xs x starts total starts-is total-is =
    let e : total ≡ 0 + frame_count (listed xs) = omega (arith, total-is) in
    rw (starts-is, e) (sym (starts_from-push 0 xs x))

counts_gap : (link : ℕ) (kind : GapKind) → (frame_count (origins_of (variants.Gap link kind)) ≡ 0) × (gap_count (origins_of (variants.Gap link kind)) ≡ 1)
unfolding frame_count gap_count
counts_gap link kind = (refl, refl)

pub listed_gap : (next : ℕ) (xs now : List Item) (starts begun : List ℕ) (total gaps link : ℕ) (kind : GapKind) → AreListed next xs starts total gaps
    → now ≡ xs ++ variants.Gap link kind ∷ [] → begun ≡ starts ++ total ∷ []
    → AreListed next now begun total (gaps + 1)
listed_gap next xs now starts begun total gaps link kind old now-is begun-is =
    let x : Item = variants.Gap link kind in
    let counts = counts_gap link kind in
    rw (now-is, begun-is) (record {
      starts = starts_push xs x starts total old.starts old.total;
      started = told_push 0 xs x old.started tt;
      total = omega (arith, old.total, count_push xs x, counts.0);
      gaps = omega (arith, old.gaps, gaps_push xs x, counts.1);
      frames = all_push HasFrame xs x old.frames tt;
      rising = all_pairs_push IsBefore xs x old.rising (λ k d lt. before_gap (get_or xs k d) link kind);
      below = all_push (IsBelow next) xs x old.below tt;
    })

pub listed_span : (next : ℕ) (xs now : List Item) (starts begun : List ℕ) (total gaps : ℕ) (s : Span) → AreListed s.block xs starts total gaps → next ≡ s.block + 1
    → s.from < s.to → s.start ≡ total → now ≡ xs ++ variants.Span s ∷ [] → begun ≡ starts ++ total ∷ []
    → AreListed next now begun (total + (s.to - s.from)) gaps
listed_span next xs now starts begun total gaps s old next-is some start now-is begun-is =
    let x : Item = variants.Span s in
    let begins : s.start ≡ 0 + frame_count (listed xs) = omega (arith, start, old.total) in
    let frames : frame_count (origins_of x) ≡ s.to - s.from = frame_count-between s.link s.block s.from s.to in
    let none : gap_count (origins_of x) ≡ 0 = gap_count-frames s.link (map (origin s.block (s.block + 1)) (range_with_len s.from (s.to - s.from))) in
    rw (next-is, now-is, begun-is) (record {
      starts = starts_push xs x starts total old.starts old.total;
      started = told_push 0 xs x old.started begins;
      total = omega (arith, old.total, count_push xs x, frames);
      gaps = omega (arith, old.gaps, gaps_push xs x, none);
      frames = all_push HasFrame xs x old.frames some;
      rising = all_pairs_push IsBefore xs x old.rising (λ k d lt. before_span (get_or xs k d) s (old.below k d lt));
      below = all_push (IsBelow (s.block + 1)) xs x (all_below_more s.block (s.block + 1) xs (omega arith) old.below) (omega arith);
    })

-- no item more
pub listed_none : (next more : ℕ) (xs : List Item) (starts : List ℕ) (total gaps : ℕ) → next ≤ more → AreListed next xs starts total gaps → AreListed more xs starts total gaps
listed_none next more xs starts total gaps le old = record {
  starts = old.starts;
  started = old.started;
  total = old.total;
  gaps = old.gaps;
  frames = old.frames;
  rising = old.rising;
  below = all_below_more next more xs le old.below;
}

pub between_none : (link block from to : ℕ) → to ≤ from → span_origins link block from to ≡ []
between_none link block from to le = let e : to - from ≡ 0 = omega arith in rw e refl

pub listed_empty : (xs : List Item) (starts : List ℕ) (total gaps : ℕ) → xs ≡ [] → starts ≡ [] → total ≡ 0 → gaps ≡ 0 → AreListed 0 xs starts total gaps
unfolding listed starts_from HaveStarts frame_count gap_count
listed_empty xs starts total gaps xs-is starts-is total-is gaps-is = rw (xs-is, starts-is, total-is, gaps-is) (record {
  starts = refl;
  started = tt;
  total = refl;
  gaps = refl;
  frames = All-nil HasFrame;
  rising = λ i j d lt within. absurd (omega arith);
  below = All-nil (IsBelow 0);
})

-- ---- the blocks of all items

within_below : (blocks : ℕ) (x : Item) → IsBelow (blocks - 1) x → IsWithin blocks x
within_below blocks (variants.Span s) below = omega (arith, below)
within_below blocks (variants.Gap link kind) below = tt

pub all_within : (blocks : ℕ) (xs : List Item) → All (IsBelow (blocks - 1)) xs → All (IsWithin blocks) xs
all_within blocks xs all = λ k d lt. within_below blocks (get_or xs k d) (all k d lt)
