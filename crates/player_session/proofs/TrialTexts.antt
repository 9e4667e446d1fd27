-- What is told of a film and of a report, item by item and text by text.
use Rattle.std.proofs.Common.{◌≡◌, ℕ, zero, suc, ◌+◌, ◌<◌, ◌≤◌, List, [], ◌∷◌, ◌++◌, length, take, get_or, refl, ap, ◌∙◌, add-one, arith, append-nil, length-append}
use Rattle.std.specs.List.{concat, fold}
use Rattle.std.proofs.lemmas.List.Sums.{fold-append}
use Rattle.std.specs.Prelude.{◌-◌, map}
use Rattle.std.specs.List.{range_with_len}
use Rattle.model_line.specs.declared.row.GapKind.{GapKind}
use Rattle.model_line.specs.declared.item.Span.{Span}
use Rattle.model_line.specs.declared.item.Item.{Item}
use Rattle.model_line.specs.declared.item.Item.TheVariants as variants
use Rattle.model_synthesis.specs.Tables.{ConstantTables}
use Rattle.model_line.specs.Acceptance.{FilmLink}
use Rattle.model_line.specs.PacketRows.{rows_of, block_packets}
use Rattle.model_line.specs.Index.{Indexed, Indexes}
use Rattle.model_line.specs.Decode.{LineItem, frame_count, gap_count}
use Rattle.model_line.specs.Origins.{Origin, listed, origins_of, origin}
use Rattle.model_line.proofs.Counts.{gap_count-append, gap_count-frames}
use Rattle.model_script.specs.declared.command.Command.{Command}
use Rattle.model_report.specs.Reports.{report_of}
use Rattle.model_trial.specs.MadeConstants.{made_tables}
use Rattle.model_trial.specs.MadeScript.{made_lanes}
use Rattle.model_trial.specs.FilmRead.{links_read}
use Rattle.model_player.specs.Texts.{sum_with, report_sum, film_counts_line, report_line, trial_text}
use Rattle.model_player.specs.Courses.{made_report}
use Rattle.player_session.proofs.Reports.{concat_next}

-- ---- gaps

pub no_gaps : gap_count (listed []) ≡ 0
unfolding listed gap_count
no_gaps = refl

more_gaps : (items : List Item) (i : ℕ) (d : Item) → i < length items → gap_count (listed (take (suc i) items)) ≡ gap_count (listed (take i items)) + gap_count (origins_of (get_or items i d))
unfolding listed
more_gaps [] i d lt = absurd (omega arith)
more_gaps (x ∷ items) zero d lt = ap gap_count (append-nil (origins_of x)) ∙ omega (arith, no_gaps)
more_gaps (x ∷ items) (suc i) d lt =
    gap_count-append (origins_of x) (listed (take (suc i) items))
    ∙ omega (arith, more_gaps items i d (omega arith), gap_count-append (origins_of x) (listed (take i items)))

pub gaps_next : (items : List Item) (i count more : ℕ) (d : Item) → i < length items → count ≡ gap_count (listed (take i items)) → more ≡ gap_count (origins_of (get_or items i d)) → count + more ≡ gap_count (listed (take (i + 1) items))
gaps_next items i count more d lt so one = rw add-one (omega (arith, so, one, more_gaps items i d lt))

pub gaps_of_span : (span : Span) → gap_count (origins_of (variants.Span span)) ≡ 0
gaps_of_span s = gap_count-frames s.link (map (origin s.block (s.block + 1)) (range_with_len s.from (s.to - s.from)))

pub gaps_of_gap : (link : ℕ) (kind : GapKind) → gap_count (origins_of (variants.Gap link kind)) ≡ 1
unfolding gap_count
gaps_of_gap link kind = refl

-- ---- reports

pub size_next : (texts : List (List ℕ)) (i : ℕ) (text : List ℕ) → i < length texts → text ≡ get_or texts i text → length (concat (take (i + 1) texts)) ≡ length (concat (take i texts)) + length text
size_next texts i text lt e = rw (add-one, concat_next texts i text lt e) (length-append (concat (take i texts)) text)

pub sum_next : (texts : List (List ℕ)) (i : ℕ) (text : List ℕ) → i < length texts → text ≡ get_or texts i text → fold sum_with 0 (concat (take (i + 1) texts)) ≡ fold sum_with (fold sum_with 0 (concat (take i texts))) text
sum_next texts i text lt e = rw (add-one, concat_next texts i text lt e) (fold-append sum_with 0 (concat (take i texts)) text)

pub ruleset gap_laws = (gaps_of_span, gaps_of_gap)

-- ---- the lines of a trial

pub trial_lines : (links : List FilmLink) (index : Indexed) (report counts line : List ℕ) → Indexes (map rows_of links) index
    → counts ≡ film_counts_line (length links) (length (block_packets links)) (frame_count (listed index.items)) (gap_count (listed index.items)) → line ≡ report_line (length report) (report_sum report) → counts ++ line ≡ trial_text links report
unfolding trial_text
trial_lines links index report counts line h a b =
    ap (λ (xs : List ℕ). xs ++ line) a
    ∙ ap (λ (xs : List ℕ). film_counts_line (length links) (length (block_packets links)) (frame_count (listed index.items)) (gap_count (listed index.items)) ++ xs) b
    ∙ ap (λ (items : List (LineItem Origin)). film_counts_line (length links) (length (block_packets links)) (frame_count items) (gap_count items) ++ report_line (length report) (report_sum report)) h.origins

pub tried_text : (number : ℕ) (tables : ConstantTables) (links : List FilmLink) (lanes : List (List Command)) (report : List (List ℕ)) (text : List ℕ) → tables ≡ made_tables → links ≡ links_read number → lanes ≡ made_lanes number
    → report ≡ report_of tables links lanes → text ≡ trial_text links (concat report) → text ≡ trial_text (links_read number) (made_report number)
unfolding made_report
tried_text number tables links lanes report text t f l r e =
    e
    ∙ ap (λ (rs : List (List ℕ)). trial_text links (concat rs)) r
    ∙ ap (λ (ts : ConstantTables). trial_text links (concat (report_of ts links lanes))) t
    ∙ ap (λ (ls : List (List Command)). trial_text links (concat (report_of made_tables links ls))) l
    ∙ ap (λ (fs : List FilmLink). trial_text fs (concat (report_of made_tables fs (made_lanes number)))) f
