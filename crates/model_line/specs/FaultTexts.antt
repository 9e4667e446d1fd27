-- The text of a film's refusal.
use Rattle.std.specs.Prelude.{ℕ, List, ◌++◌, codes}
use Rattle.std.specs.Fmt.{decimal}
use Rattle.model_setup.specs.HeaderPackets.{ident_word, comment_word}
use Rattle.model_setup.specs.SetupCauses.{setup_word}
use Rattle.model_line.specs.declared.film.FilmFault.{FilmFault}
use Rattle.model_line.specs.declared.film.FilmFault.TheVariants as faults

-- what is said of a film that is refused; want of memory is no cause
abbrev pub fault_text : FilmFault → List ℕ
fault_text faults.NoLink = codes "film no link"
fault_text (faults.NoVorbis link) = codes "film link " ++ (decimal link ++ codes " no vorbis")
fault_text (faults.HeadMissing link) =
    codes "film link " ++ (decimal link ++ codes " headers missing")
fault_text (faults.Ident link cause) =
    codes "film link " ++ (decimal link ++ (codes " ident " ++ ident_word cause))
fault_text (faults.Comment link cause) =
    codes "film link " ++ (decimal link ++ (codes " comment " ++ comment_word cause))
fault_text (faults.Channels link n) =
    codes "film link " ++ (decimal link ++ (codes " channels " ++ decimal n))
fault_text (faults.Setup link cause item) = codes "film link "
    ++ (decimal link ++ (codes " setup " ++ (setup_word cause ++ (codes " " ++ decimal item))))
fault_text faults.TooManyLinks = codes "film too many links"
fault_text faults.TooManyPackets = codes "film too many packets"
fault_text faults.Memory = codes "memory"
