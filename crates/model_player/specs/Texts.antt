-- The lines that the program writes.
use Rattle.std.specs.Prelude.{ℕ, ◌+◌, ◌*◌, ◌%◌, ◌^◌, List, [], ◌∷◌, ◌++◌, length, codes}
use Rattle.std.specs.Fmt.{decimal}
use Rattle.std.specs.List.{flat_map, enumerate_from, fold}
use Rattle.model_synthesis.specs.declared.constants.ConstantsFault.{ConstantsFault}
use Rattle.model_synthesis.specs.ConstantsTexts.{constants_fault_text}
use Rattle.model_line.specs.declared.film.LinkCounts.{LinkCounts}
use Rattle.model_line.specs.declared.film.FilmFault.{FilmFault}
use Rattle.model_line.specs.declared.item.LinkFacts.{LinkFacts}
use Rattle.model_line.specs.Decode.{frame_count, gap_count}
use Rattle.model_line.specs.Origins.{line_origins}
use Rattle.model_line.specs.Index.{facts_of}
use Rattle.model_line.specs.FaultTexts.{fault_text}
use Rattle.model_line.specs.Acceptance.{FilmLink}
use Rattle.model_line.specs.PacketRows.{rows_of, sized_links, block_packets}
use Rattle.model_script.specs.declared.fault.ScriptFault.{ScriptFault}
use Rattle.model_script.specs.Texts as scripts

-- the line of a link of this number, without its end
abbrev pub counts_text : ℕ → LinkCounts → List ℕ
counts_text number counts = codes "link "
    ++ (decimal number
    ++ (codes " serial "
    ++ (decimal counts.serial
    ++ (codes " pages "
    ++ (decimal counts.pages
    ++ (codes " packets "
    ++ (decimal counts.packets ++ (codes " lost " ++ decimal counts.lost))))))))

abbrev pub line_end : List ℕ
line_end = 10 ∷ []

-- the line of its identification, without its end
abbrev pub head_text : ℕ → LinkFacts → List ℕ
head_text number facts = codes "head "
    ++ (decimal number
    ++ (codes " channels "
    ++ (decimal facts.channels
    ++ (codes " rate "
    ++ (decimal facts.rate
    ++ (codes " blocks " ++ (decimal facts.short ++ (codes " " ++ decimal facts.long))))))))

-- the line of what the film's line has of it, without its end
abbrev pub frames_text : ℕ → LinkFacts → List ℕ
frames_text number facts = codes "line "
    ++ (decimal number
    ++ (codes " frames "
    ++ (decimal facts.frames ++ (codes " gaps " ++ decimal facts.gaps))))

-- the three lines of a link of this number, by its stream's numbers and its facts
abbrev pub lines_by : ℕ → LinkCounts → LinkFacts → List ℕ
lines_by number counts facts = counts_text number counts
    ++ (line_end ++ (head_text number facts
    ++ (line_end ++ (frames_text number facts ++ line_end))))

-- the lines of a link, which has this number
abbrev pub link_lines : ℕ × FilmLink → List ℕ
link_lines (number, link) = lines_by number link.counts (facts_of number (rows_of link))

-- the last line: how many frames the film's line has
abbrev pub total_line : ℕ → List ℕ
total_line total = codes "total " ++ (decimal total ++ line_end)

-- what `info` writes of a film, by its links from number 0 on
abbrev pub info_text : List FilmLink → List ℕ
info_text links = flat_map link_lines (enumerate_from 0 links)
    ++ total_line (frame_count (line_origins (sized_links links)))

-- ---- trials

-- the sum of some bytes and of one more
abbrev pub sum_with : ℕ → ℕ → ℕ
sum_with sum byte = (257 * sum + byte + 1) % 2 ^ 64

-- the sum of the bytes of a report, which depends on their order
unfoldable pub report_sum : List ℕ → ℕ
report_sum bytes = fold sum_with 0 bytes

-- how many links, blocks, frames and gaps a film has
abbrev pub film_counts_line : ℕ → ℕ → ℕ → ℕ → List ℕ
film_counts_line links blocks frames gaps = codes "links "
    ++ (decimal links
    ++ (codes " blocks "
    ++ (decimal blocks
    ++ (codes " frames "
    ++ (decimal frames ++ (codes " gaps " ++ (decimal gaps ++ line_end)))))))

-- how many bytes a report has, and their sum
abbrev pub report_line : ℕ → ℕ → List ℕ
report_line size sum =
    codes "report " ++ (decimal size ++ (codes " sum " ++ (decimal sum ++ line_end)))

-- what `trial` writes, by the links of its film and its report
unfoldable pub trial_text : List FilmLink → List ℕ → List ℕ
trial_text links report =
    film_counts_line (length links) (length (block_packets links))
    (frame_count (line_origins (sized_links links))) (gap_count (line_origins (sized_links links)))
    ++ report_line (length report) (report_sum report)

-- ---- refusals

-- words that are no command
abbrev pub usage_line : List ℕ
usage_line = codes "usage" ++ line_end

-- memory ran out
abbrev pub memory_line : List ℕ
memory_line = codes "memory" ++ line_end

-- a file that is not there, or cannot be read
abbrev pub cannot_read_line : List ℕ → List ℕ
cannot_read_line name = codes "cannot read " ++ (name ++ line_end)

-- a file with more bytes than its limit
abbrev pub too_long_line : List ℕ → ℕ → List ℕ
too_long_line name limit = codes "too long " ++ (name ++ (codes " " ++ (decimal limit ++ line_end)))

-- a constants file that is refused
abbrev pub constants_fault_line : ConstantsFault → List ℕ
constants_fault_line fault = constants_fault_text fault ++ line_end

-- a film that is refused
abbrev pub fault_line : FilmFault → List ℕ
fault_line fault = fault_text fault ++ line_end

-- a script that is refused
abbrev pub script_fault_line : ScriptFault → List ℕ
script_fault_line fault = scripts.fault_text fault ++ line_end
