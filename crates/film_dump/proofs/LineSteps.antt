-- How the items of an index are gone through, one after the other.
use Rattle.std.proofs.Common.{◌≡◌, ℕ, zero, suc, ◌+◌, ◌-◌, ◌*◌, ◌≤◌, ◌<◌, List, [], ◌∷◌, ◌++◌, length, map, drop, get_or, Option, Result, Ok, Err, refl, sym, ap, ◌∙◌, arith, append_assoc, append-nil, add-one}
use Rattle.std.specs.Prelude.{slice_range, IfSome, OnOk}
use Rattle.std.specs.Io.KnownBytes.{Appends}
use Rattle.std.proofs.KnownBytes.{Keeps-refl}
use Rattle.std.specs.List.{All, range_with_len}
use Rattle.std.proofs.lemmas.Simd.{map-map}
use Rattle.std.proofs.lemmas.List.{drop_all}
use Rattle.std.proofs.lemmas.List.Elements.{All-get_or}
use Rattle.model_synthesis.specs.Tables.{ConstantTables}
use Rattle.model_line.specs.declared.item.Item.{Item}
use Rattle.model_line.specs.declared.item.Item.TheVariants as variants
use Rattle.model_line.specs.declared.item.Span.{Span}
use Rattle.model_line.specs.Decode.{LineItem, frame, gap}
use Rattle.model_line.specs.Origins.{overlap_len, item_frames, line_of, listed, line_origins, HasFrame}
use Rattle.model_line.specs.Index.{IsWithin}
use Rattle.model_line.specs.PacketRows.{sized_links}
use Rattle.model_line.specs.declared.row.GapKind.{GapKind}
use Rattle.model_line.specs.Acceptance.{FilmLink}
use Rattle.model_line.specs.Blocks.{Values, len_of, overlap, overlap_frame, left_half, right_half, Frame, IsHalfBlock}
use Rattle.model_line.proofs.Windows.{window}
use Rattle.model_block.specs.FilmBlocks.{film_block}
use Rattle.model_film.specs.Laws.{IsHalfOf, SpanFits, ItemFits, line_of_items}
use Rattle.model_film.specs.Links.{IsLink}
use Rattle.model_film.specs.FilmLines.{film_line}
use Rattle.model_film.specs.Dumps.{line_bytes}
use Rattle.model_film.proofs.ItemLines.{line_by_items}
use Rattle.film_dump.specs.declared.fault.DumpFault.{DumpFault}
use Rattle.film_dump.specs.declared.fault.DumpFault.TheVariants as faults
use Rattle.film_dump.specs.declared.kept.Kept.{Kept}
use Rattle.film_dump.specs.Kept.{IsKept}
use Rattle.film_dump.specs.Dumps.{CameTo, BrokeOff, GoesOn, FitsHalves, span_frames}
use Rattle.film_dump.proofs.Midst.{came_to_start, came_to_more, came_to_end, broke_off_memory, broke_off_more}

-- ---- the frames of a span

half_block : (link : FilmLink) (n : ℕ) (half : Values) → n ≡ link.ident.channels → IsHalfOf link half → IsHalfBlock n half
half_block link n half e is = rw e (record {
  some = is.some;
  count = is.count;
  size = is.size;
  sizes = is.sizes;
  small = is.small;
})

pub fits_halves : (tables : ConstantTables) (links : List FilmLink) (s : Span) → s.from ≤ s.to → SpanFits tables links s → FitsHalves (right_half (film_block tables links s.block)) (left_half (film_block tables links (s.block + 1))) s
fits_halves tables links s order fit = record {
  is_right = half_block fit.link _ _ fit.left.count fit.right;
  is_left = half_block fit.link _ _ fit.left.count fit.left;
  order = order;
  within = fit.within;
}

frames_of_span : (right left : Values) (s : Span) → s.from ≤ s.to → s.to ≤ overlap_len (2 * len_of right) (2 * len_of left) → map (frame s.link) (slice_range (overlap right left) s.from s.to) ≡ span_frames right left s
unfolding overlap
frames_of_span right left s order within =
    ap (map (frame s.link)) (window (overlap_frame right left) (overlap_len (2 * len_of right) (2 * len_of left)) s.from s.to order within)
    ∙ map-map (frame s.link) (overlap_frame right left) (range_with_len s.from (s.to - s.from))

-- ---- the items

drop_suc : (items : List Item) (i : ℕ) (d x : Item) → i < length items → get_or items i d ≡ x → drop i items ≡ x ∷ drop (suc i) items
drop_suc [] i d x lt e = absurd (omega arith)
drop_suc (y ∷ items) zero d x lt e = ap (λ (z : Item). z ∷ items) e
drop_suc (y ∷ items) (suc i) d x lt e = drop_suc items i d x (omega arith) e

drop_at : (items : List Item) (i : ℕ) (d x : Item) → i < length items → get_or items i d ≡ x → drop i items ≡ x ∷ drop (i + 1) items
drop_at items i d x lt e = rw add-one (drop_suc items i d x lt e)

line_front : (tables : ConstantTables) (links : List FilmLink) (x : Item) (items : List Item) → line_of_items tables links (x ∷ items) ≡ item_frames overlap (λ k. right_half (film_block tables links k)) (λ k. left_half (film_block tables links k)) x ++ line_of_items tables links items
unfolding line_of
line_front tables links x items = refl

line_none : (tables : ConstantTables) (links : List FilmLink) → line_of_items tables links [] ≡ []
unfolding line_of
line_none tables links = refl

-- So far as some items: what they give is behind the dump, and the others' is still to come.
pub record Reached (tables : ConstantTables) (links : List FilmLink) (items : List Item) (start now : Option (List ℕ)) (waiting : List ℕ) (i : ℕ) : Type 0 where
  pub so_far : List (LineItem Frame)
  pub came : CameTo start now waiting so_far
  pub whole : so_far ++ line_of_items tables links (drop i items) ≡ film_line tables links

-- the whole state: that, what is kept, and the counts of faults
pub record Midway (tables : ConstantTables) (links : List FilmLink) (items : List Item) (start now : Option (List ℕ)) (before after : ℕ) (waiting : List ℕ) (last : Option Kept) (i : ℕ) : Type 0 where
  pub reached : Reached tables links items start now waiting i
  pub is_kept : IfSome last (IsKept tables links)
  pub later : before ≤ after

module _ (tables : ConstantTables) (links : List FilmLink) (items : List Item) (start : Option (List ℕ)) where
  abbrev right_of : ℕ → Values
  right_of k = right_half (film_block tables links k)

  abbrev left_of : ℕ → Values
  left_of k = left_half (film_block tables links k)

  pub reached_start : All IsLink links → listed items ≡ line_origins (sized_links links) → Reached tables links items start start [] 0
  reached_start are is = record {
    so_far = [];
    came = came_to_start start;
    whole = line_by_items tables links items are is;
  }

  -- an item's frames, and those of the items behind it
  behind_item : (now : Option (List ℕ)) (waiting : List ℕ) (i : ℕ) (d x : Item) → i < length items → get_or items i d ≡ x → (r : Reached tables links items start now waiting i)
      → r.so_far ++ item_frames overlap right_of left_of x ++ line_of_items tables links (drop (i + 1) items) ≡ film_line tables links
  behind_item now waiting i d x lt e r =
      append_assoc r.so_far (item_frames overlap right_of left_of x) (line_of_items tables links (drop (i + 1) items))
      ∙ ap (λ (xs : List (LineItem Frame)). r.so_far ++ xs) (sym (line_front tables links x (drop (i + 1) items)) ∙ ap (line_of_items tables links) (sym (drop_at items i d x lt e)))
      ∙ r.whole

  pub reached_gap : (now : Option (List ℕ)) (waiting : List ℕ) (i link : ℕ) (d : Item) (kind : GapKind) → i < length items → get_or items i d ≡ variants.Gap link kind → Reached tables links items start now waiting i → Reached tables links items start now waiting (i + 1)
  reached_gap now waiting i link d kind lt e r = record {
    so_far = r.so_far ++ gap link kind ∷ [];
    came = came_to_more start now waiting waiting r.so_far (gap link kind) r.came (sym (append-nil waiting));
    whole = behind_item now waiting i d (variants.Gap link kind) lt e r;
  }

  -- ---- a span

  -- what a span's blocks, its order and its halves have
  pub record IsSpanOf (blocks : ℕ) (s : Span) : Type 0 where
    pub block : s.block + 1 < blocks
    pub fits : FitsHalves (right_of s.block) (left_of (s.block + 1)) s

  pub span_of : (blocks : ℕ) (i : ℕ) (d : Item) (s : Span) → All (ItemFits tables links) items → All HasFrame items → All (IsWithin blocks) items → i < length items → get_or items i d ≡ variants.Span s → IsSpanOf blocks s
  span_of blocks i d s fit has within lt e =
      let here = rw e at (All-get_or (ItemFits tables links) items i d lt fit) in
      let some : s.from < s.to = rw e at (All-get_or HasFrame items i d lt has) in
      record {
        block = rw e at (All-get_or (IsWithin blocks) items i d lt within);
        fits = fits_halves tables links s (omega arith) here;
      }

  span_item : (s : Span) → FitsHalves (right_of s.block) (left_of (s.block + 1)) s → item_frames overlap right_of left_of (variants.Span s) ≡ span_frames (right_of s.block) (left_of (s.block + 1)) s
  span_item s fits = frames_of_span (right_of s.block) (left_of (s.block + 1)) s fits.order fits.within

  behind_span : (now : Option (List ℕ)) (waiting : List ℕ) (i : ℕ) (d : Item) (s : Span) → FitsHalves (right_of s.block) (left_of (s.block + 1)) s → i < length items → get_or items i d ≡ variants.Span s → (r : Reached tables links items start now waiting i)
      → r.so_far ++ span_frames (right_of s.block) (left_of (s.block + 1)) s ++ line_of_items tables links (drop (i + 1) items) ≡ film_line tables links
  behind_span now waiting i d s fits lt e r = rw (sym (span_item s fits)) (behind_item now waiting i d (variants.Span s) lt e r)

  pub reached_span : (now new : Option (List ℕ)) (waiting after : List ℕ) (i : ℕ) (d : Item) (s : Span) → FitsHalves (right_of s.block) (left_of (s.block + 1)) s → i < length items → get_or items i d ≡ variants.Span s → Reached tables links items start now waiting i
      → ((first : Option (List ℕ)) (given : List (LineItem Frame)) → CameTo first now waiting given → CameTo first new after (given ++ span_frames (right_of s.block) (left_of (s.block + 1)) s))
      → Reached tables links items start new after (i + 1)
  reached_span now new waiting after i d s fits lt e r step = record {
    so_far = r.so_far ++ span_frames (right_of s.block) (left_of (s.block + 1)) s;
    came = step start r.so_far r.came;
    whole = behind_span now waiting i d s fits lt e r;
  }

  pub span_broke : (fault : DumpFault) (now new : Option (List ℕ)) (waiting : List ℕ) (i : ℕ) (d : Item) (s : Span) → FitsHalves (right_of s.block) (left_of (s.block + 1)) s → i < length items → get_or items i d ≡ variants.Span s → Reached tables links items start now waiting i
      → ((first : Option (List ℕ)) (given : List (LineItem Frame)) → CameTo first now waiting given → BrokeOff fault first new (given ++ span_frames (right_of s.block) (left_of (s.block + 1)) s))
      → BrokeOff fault start new (film_line tables links)
  span_broke fault now new waiting i d s fits lt e r step =
      rw (sym (behind_span now waiting i d s fits lt e r))
      (broke_off_more fault start new (r.so_far ++ span_frames (right_of s.block) (left_of (s.block + 1)) s) (line_of_items tables links (drop (i + 1) items)) (step start r.so_far r.came))

  -- ---- the end

  pub came_to_line : (now : Option (List ℕ)) (waiting : List ℕ) (i : ℕ) → length items ≤ i → Reached tables links items start now waiting i → CameTo start now waiting (film_line tables links)
  came_to_line now waiting i le r =
      let none : line_of_items tables links (drop i items) ≡ [] = ap (line_of_items tables links) (drop_all i items le) ∙ line_none tables links in
      rw (sym r.whole, none, append-nil r.so_far) r.came

-- before anything was done, nothing was written
pub broke_at_start : (start : Option (List ℕ)) (line : List (LineItem Frame)) → BrokeOff faults.Memory start start line
broke_at_start start line = broke_off_more faults.Memory start start [] line (broke_off_memory start start start [] [] (came_to_start start) (Keeps-refl start))

-- the last put
pub last_ok : (r : Result Unit DumpFault) (start old new : Option (List ℕ)) (before after : List ℕ) (line : List (LineItem Frame)) → GoesOn old new before after [] r → OnOk r (after ≡ []) → CameTo start old before line → OnOk r (Appends start new (line_bytes line))
last_ok (Ok done) start old new before after line step none h = came_to_end start new after line (rw (append-nil line) at (step start line h)) none
last_ok (Err fault) start old new before after line step none h = tt

pub last_broke : (r : Result Unit DumpFault) (fault : DumpFault) (start old new : Option (List ℕ)) (before after : List ℕ) (line : List (LineItem Frame)) → GoesOn old new before after [] r → CameTo start old before line → r ≡ Err fault → BrokeOff fault start new line
last_broke r fault start old new before after line step h e =
    let stopped = rw (e, append-nil line) at (step start line h) in
    stopped

-- the fault of an answer is the one that is asked for
pub fault_known : {A : Type 0} (r : Result A DumpFault) (fault asked : DumpFault) → r ≡ Err fault → r ≡ Err asked → fault ≡ asked
fault_known r fault asked is e = let same : Err fault ≡ Err asked = sym is ∙ e in cc
