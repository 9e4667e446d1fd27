-- How the blocks of a film are numbered.
use Rattle.std.proofs.Common.{◌≡◌, ℕ, ◌+◌, Bool, List, [], ◌∷◌, length, map, length-append, arith, ◌∙◌}
use Rattle.std.specs.List.{flat_map}
use Rattle.model_ogg.specs.Entries.{StreamItem, packet, lost}
use Rattle.model_setup.specs.declared.setup.PacketHead.{PacketHead}
use Rattle.model_setup.specs.declared.setup.PacketHead.TheVariants as heads
use Rattle.model_setup.specs.AudioHead.{head_of}
use Rattle.model_line.specs.Origins.{kind_of, entry_of, entries_of, number_after, number_behind}
use Rattle.model_line.specs.Index.{all_behind}
use Rattle.model_line.specs.Acceptance.{FilmLink}
use Rattle.model_line.specs.PacketRows.{kind_by_head, row_of, block_flags, rows_by, rows_of, sized_links, block_by_head, block_packet, link_block_packets, block_packets_from}

head_behind : (short long n number : ℕ) (flags : List Bool) (bytes : List ℕ) (head : PacketHead) → number_after n (kind_of short long (kind_by_head flags head)) ≡ n + length (block_by_head number bytes head)
head_behind short long n number flags bytes heads.Skip = omega arith
head_behind short long n number flags bytes heads.Bad = omega arith
head_behind short long n number flags bytes (heads.Block mode prev next) = omega arith

entry_behind : (short long n number : ℕ) (flags : List Bool) (item : StreamItem) → number_after n (kind_of short long (row_of flags item).kind) ≡ n + length (block_packet number flags item)
entry_behind short long n number flags (packet bytes mark) = head_behind short long n number flags bytes (head_of flags bytes)
entry_behind short long n number flags lost = omega arith

entries_behind : (short long n number : ℕ) (flags : List Bool) (items : List StreamItem) → number_behind n (map (entry_of short long) (map (row_of flags) items)) ≡ n + length (flat_map (block_packet number flags) items)
unfolding number_behind
entries_behind short long n number flags [] = omega arith
entries_behind short long n number flags (x ∷ xs) =
    entries_behind short long (number_after n (kind_of short long (row_of flags x).kind)) number flags xs
    ∙ omega (arith, entry_behind short long n number flags x, length-append (block_packet number flags x) (flat_map (block_packet number flags) xs))

pub link_behind : (n number : ℕ) (link : FilmLink) → number_behind n (entries_of (rows_of link)) ≡ n + length (link_block_packets number link)
unfolding rows_by link_block_packets
link_behind n number link = entries_behind link.ident.short link.ident.long n number (block_flags link.setup) link.entries

pub links_behind : (n number : ℕ) (links : List FilmLink) → all_behind n (sized_links links) ≡ n + length (block_packets_from number links)
unfolding all_behind block_packets_from
links_behind n number [] = omega arith
links_behind n number (link ∷ links) =
    links_behind (number_behind n (entries_of (rows_of link))) (number + 1) links
    ∙ omega (arith, link_behind n number link, length-append (link_block_packets number link) (block_packets_from (number + 1) links))
