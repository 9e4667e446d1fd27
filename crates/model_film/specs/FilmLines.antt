-- The line of a film: what decoding each link from its first packet on gives, trimmed (Vorbis I,
-- section 4.3.8).
use Rattle.std.specs.Prelude.{ℕ, List, map, None}
use Rattle.model_ogg.specs.Entries.{StreamItem, packet, lost}
use Rattle.model_setup.specs.declared.setup.PacketHead.{PacketHead}
use Rattle.model_setup.specs.declared.setup.PacketHead.TheVariants as heads
use Rattle.model_setup.specs.AudioHead.{head_of}
use Rattle.model_synthesis.specs.Tables.{ConstantTables}
use Rattle.model_line.specs.declared.row.GapKind.TheVariants as kinds
use Rattle.model_line.specs.Acceptance.{FilmLink}
use Rattle.model_line.specs.PacketRows.{block_flags}
use Rattle.model_line.specs.Decode.{Kind, missing, skipped, decoded, LinkEntry, LineItem}
use Rattle.model_line.specs.Lines.{line}
use Rattle.model_line.specs.Blocks.{Values, frames_between, Frame}
use Rattle.model_block.specs.FilmBlocks.{block_in_link}

-- ---- the entries of a link, decoded

-- what a packet of a link is, by its head: skipped, missing where it is bad, or its block
abbrev pub decoded_by : ConstantTables → FilmLink → List ℕ → PacketHead → Kind Values
decoded_by tables link bytes heads.Skip = skipped
decoded_by tables link bytes heads.Bad = missing kinds.Bad
decoded_by tables link bytes (heads.Block mode prev next) =
    decoded (block_in_link tables link bytes)

abbrev pub decoded_entry : ConstantTables → FilmLink → StreamItem → LinkEntry Values
decoded_entry tables link (packet bytes mark) = record {
  kind = decoded_by tables link bytes (head_of (block_flags link.setup) bytes);
  mark = mark;
}
decoded_entry tables link lost = record { kind = missing kinds.Lost; mark = None }

-- the entries of a link after its headers, each with what it decodes to
unfoldable pub decoded_entries : ConstantTables → FilmLink → List (LinkEntry Values)
decoded_entries tables link = map (decoded_entry tables link) link.entries

abbrev pub decoded_links : ConstantTables → List FilmLink → List (List (LinkEntry Values))
decoded_links tables links = map (decoded_entries tables) links

-- ---- the line

-- the line of a film of these links: the linear decode of each, trimmed, one after the other
unfoldable pub film_line : ConstantTables → List FilmLink → List (LineItem Frame)
film_line tables links = line frames_between 0 (decoded_links tables links)
