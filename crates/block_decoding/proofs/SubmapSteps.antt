-- The residues of channels, submap after submap.
use Rattle.std.proofs.Common.{◌≡◌, ◌<◌, ℕ, ℤ, Bool, List, [], ◌∷◌, ◌+◌, length, map, get_or, sym, ap, ◌∙◌, arith}
use Rattle.std.specs.Prelude.{fold}
use Rattle.std.specs.List.{All, range_with_len}
use Rattle.std.proofs.lemmas.List.Sums.{fold-append}
use Rattle.std.proofs.lemmas.List.Elements.{All-from_get_or}
use Rattle.model_fixed.specs.Fixed.{IsWithinLimit}
use Rattle.model_setup.specs.ResidueSetup.{ResidueSetup}
use Rattle.model_setup.specs.ResidueDecoding.{residue_vectors}
use Rattle.model_setup.specs.SetupPacket.{Submap, Mapping, SetupFields}
use Rattle.model_synthesis.specs.Coupling.{AreChannels}
use Rattle.model_block.specs.PacketParts.{no_submap, no_residue, residue_of, is_flagged, channels_of, replaced, with_submap}
use Rattle.block_decoding.proofs.Items.{same_item, range_more}
use Rattle.block_decoding.proofs.Puts.{AreRead}

pub residue_is : (setup : SetupFields) (mapping : Mapping) (number : ℕ) (s : Submap) (r : ResidueSetup) → number < length mapping.submaps → s.residue < length setup.residues
    → s ≡ get_or mapping.submaps number s → r ≡ get_or setup.residues s.residue r → residue_of setup mapping number ≡ r
residue_is setup mapping number s r lt few s-is r-is =
    let submap : get_or mapping.submaps number no_submap ≡ s = same_item mapping.submaps number no_submap s lt ∙ sym s-is in
    ap (λ (x : Submap). get_or setup.residues x.residue no_residue) submap ∙ (same_item setup.residues s.residue no_residue r few ∙ sym r-is)

pub submap_on : (setup : SetupFields) (mapping : Mapping) (size : ℕ) (wanted : List Bool) (k : ℕ) (start : List (List ℤ) × List Bool) (all lines now : List (List ℤ)) (left after flags : List Bool) (channels : List ℕ) (residue : ResidueSetup)
    → (all, left) ≡ fold (with_submap setup mapping size wanted) start (range_with_len 0 k)
    → channels ≡ channels_of mapping.mux k
    → flags ≡ map (is_flagged wanted) channels
    → residue_of setup mapping k ≡ residue
    → (lines, after) ≡ residue_vectors setup.books residue size flags left
    → now ≡ replaced all channels lines
    → (now, after) ≡ fold (with_submap setup mapping size wanted) start (range_with_len 0 (k + 1))
unfolding with_submap
submap_on setup mapping size wanted k start all lines now left after flags channels residue h c-is f-is r-is read put =
    let step = with_submap setup mapping size wanted in
    let cs = channels_of mapping.mux k in
    let more : fold (with_submap setup mapping size wanted) start (range_with_len 0 (k + 1)) ≡ with_submap setup mapping size wanted (fold (with_submap setup mapping size wanted) start (range_with_len 0 k)) k =
    ap (fold step start) (range_more k) ∙ fold-append step start (range_with_len 0 k) (k ∷ []) in
    let v : residue_vectors setup.books (residue_of setup mapping k) size (map (is_flagged wanted) (channels_of mapping.mux k)) left ≡ (lines, after) =
    ap (λ (r : ResidueSetup). residue_vectors setup.books r size (map (is_flagged wanted) cs) left) r-is
    ∙ (ap (λ (f : List Bool). residue_vectors setup.books residue size f left) (sym (f-is ∙ ap (map (is_flagged wanted)) c-is)) ∙ sym read) in
    let here : with_submap setup mapping size wanted (all, left) k ≡ (now, after) =
    ap (λ (p : List (List ℤ) × List Bool). (replaced all cs p.0, p.1)) v ∙ ap (λ (x : List (List ℤ)). (x, after)) (sym (put ∙ ap (λ (xs : List ℕ). replaced all xs lines) c-is)) in
    sym here ∙ (ap (λ (s : List (List ℤ) × List Bool). step s k) h ∙ sym more)

-- where all submaps are read, every channel has its line
pub channels_are : (mux : List ℕ) (size n : ℕ) (all : List (List ℤ)) → length all ≡ length mux → All (λ submap. submap < n) mux → AreRead mux size n all → AreChannels size all
channels_are mux size n all count named read = record {
  sizes = All-from_get_or (λ bins. length bins ≡ size) all [] (λ c lt. (read c (omega (arith, lt, count)) (named c 0 (omega (arith, lt, count)))).count);
  small = All-from_get_or (All IsWithinLimit) all [] (λ c lt. (read c (omega (arith, lt, count)) (named c 0 (omega (arith, lt, count)))).small);
}
