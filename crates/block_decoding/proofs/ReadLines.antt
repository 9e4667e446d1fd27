-- The vectors of a residue, read into lines of 0.
use Rattle.std.proofs.Common.{◌≡◌, ℕ, pos, Bool, List, [], ◌∷◌, length, replicate, refl, sym, ap, ◌∙◌}
use Rattle.std.proofs.lemmas.List.{length-replicate}
use Rattle.model_setup.specs.Codebook.{Codebook}
use Rattle.model_setup.specs.ResidueSetup.{ResidueSetup}
use Rattle.model_setup.specs.ResidueDecoding.{residue_vectors}
use Rattle.residues.specs.Layout.{line_size}
use Rattle.residues.proofs.Silences.{none_wanted_silent}

-- lines of so many zeros, one for each vector that is wanted or not, have as many values as the
-- vectors, if there is one; else nothing is read
pub by_lines : (books : List Codebook) (residue : ResidueSetup) (size : ℕ) (wanted left : List Bool)
    → residue_vectors books residue (line_size (replicate (length wanted) (replicate size (pos 0)))) wanted left ≡ residue_vectors books residue size wanted left
by_lines books residue size [] left = none_wanted_silent books residue 0 [] left refl ∙ sym (none_wanted_silent books residue size [] left refl)
by_lines books residue size (w ∷ ws) left = ap (λ n. residue_vectors books residue n (w ∷ ws) left) (length-replicate size (pos 0))
