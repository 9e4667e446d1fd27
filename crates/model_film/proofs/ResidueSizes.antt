-- How many residues a packet has, and how many values each has: what its submaps read, and what
-- undoing the coupling leaves.
use Rattle.std.proofs.Common.{◌≡◌, ◌<◌, ◌≤◌, ◌-◌, ℕ, zero, suc, ◌+◌, ℤ, pos, Bool, true, false, cond, List, [], ◌∷◌, length, length-set, map, get_or, slice_set, drop, replicate, reverse, inl, inr, ◌⊎◌, refl, sym, ap, subst, ◌∙◌, arith}
use Rattle.std.specs.Prelude.{fold, ◌==◌, slice_index, slice_index_or}
use Rattle.std.specs.List.{All, filter, range_with_len, zip}
use Rattle.std.proofs.lemmas.Bool.{cases_eq}
use Rattle.std.proofs.lemmas.List.{length-map, length-replicate, length-reverse, get_or-set_same, get_or-set_other, get_or-reverse}
use Rattle.std.proofs.lemmas.List.Elements.{All-head, All-tail}
use Rattle.std.proofs.lemmas.List.FromFn.{length-map-range_with_len}
use Rattle.model_setup.specs.ResidueDecoding.{residue_vectors}
use Rattle.model_setup.specs.declared.setup.Coupling.{Coupling}
use Rattle.model_setup.specs.SetupPacket.{Mapping, SetupFields, IsCoupling}
use Rattle.model_synthesis.specs.Coupling.{first_of, second_of, first_channel, second_channel, channel, without_step, without_steps}
use Rattle.model_block.specs.PacketParts.{residue_of, is_flagged, channels_of, put_at, replaced, with_submap, channel_residues}
use Rattle.model_film.proofs.VectorSizes.{lengths, vector_lengths}

-- ---- vectors in place of those of some channels

-- a number is one of these
abbrev IsIn : ℕ → List ℕ → Type 0
IsIn c [] = ⊥
IsIn c (x ∷ xs) = (c ≡ x) ⊎ IsIn c xs

replaced_count : (all : List (List ℤ)) (puts : List (ℕ × List ℤ)) → length (fold put_at all puts) ≡ length all
replaced_count all [] = refl
replaced_count all (p ∷ puts) = replaced_count (put_at all p) puts ∙ length-set all p.0 p.1

set_size : (size c x : ℕ) (all : List (List ℤ)) (now : List ℤ) (xs : List ℕ) → c < length all → length now ≡ size → (c ≡ x) ⊎ (c ≡ x → ⊥)
    → (length (get_or all c []) ≡ size) ⊎ ((c ≡ x) ⊎ IsIn c xs) → (length (get_or (slice_set all x now) c []) ≡ size) ⊎ IsIn c xs
set_size size c x all now xs lt count (inl same) had = inl (subst (λ (y : ℕ). length (get_or (slice_set all y now) c []) ≡ size) same (ap length (get_or-set_same all c now [] lt) ∙ count))
set_size size c x all now xs lt count (inr other) (inl there) = inl (ap length (get_or-set_other all x c now [] other) ∙ there)
set_size size c x all now xs lt count (inr other) (inr (inl same)) = absurd (other same)
set_size size c x all now xs lt count (inr other) (inr (inr rest)) = inr rest

-- a channel that is as long already, or is one of those that get a vector
put_size : (size c : ℕ) (channels : List ℕ) (vectors all : List (List ℤ)) → c < length all → lengths vectors ≡ replicate (length channels) size
    → (length (get_or all c []) ≡ size) ⊎ IsIn c channels → length (get_or (replaced all channels vectors) c []) ≡ size
unfolding replaced
put_size size c [] vectors all lt sizes (inl there) = there
put_size size c [] vectors all lt sizes (inr absent) = absurd absent
put_size size c (x ∷ xs) [] all lt sizes had = let e : 0 ≡ suc (length xs) = ap length sizes ∙ length-replicate (suc (length xs)) size in absurd (omega (arith, e))
put_size size c (x ∷ xs) (v ∷ vs) all lt sizes had =
    let first : length v ≡ size = ap (λ (ns : List ℕ). get_or ns 0 0) sizes in
    let others : lengths vs ≡ replicate (length xs) size = ap (drop 1) sizes in
    put_size size c xs vs (slice_set all x v) (omega (arith, lt, length-set all x v)) others (set_size size c x all v xs lt first (cases_eq c x) had)

in_step : (b : Bool) (c a : ℕ) (rest : List ℕ) → (c ≡ a → b ≡ true) → (c ≡ a) ⊎ (c ≡ a → ⊥) → ((c ≡ a → ⊥) → IsIn c rest) → IsIn c (cond b (a ∷ rest) rest)
in_step true c a rest passes (inl same) f = inl same
in_step true c a rest passes (inr other) f = inr (f other)
in_step false c a rest passes (inl same) f = absurd (let e : false ≡ true = passes same in cc)
in_step false c a rest passes (inr other) f = f other

in_filter : (p : ℕ → Bool) (c a n : ℕ) → p c ≡ true → a ≤ c → c < a + n → IsIn c (filter p (range_with_len a n))
in_filter p c a zero passes le lt = absurd (omega (arith, le, lt))
in_filter p c a (suc n) passes le lt =
    in_step (p a) c a (filter p (range_with_len (a + 1) n)) (λ same. ap p (sym same) ∙ passes) (cases_eq c a) (λ other. in_filter p c (a + 1) n passes (omega (arith, le, other)) (omega (arith, lt)))

-- ---- submap after submap

-- the channels of the submaps below one have so many values
abbrev AreRead : List ℕ → ℕ → ℕ → List (List ℤ) → Type 0
AreRead mux size submaps all =
    (c : ℕ) → c < length mux → get_or mux c 0 < submaps → length (get_or all c []) ≡ size

had_size : (mux : List ℕ) (size k c : ℕ) (all : List (List ℤ)) → c < length mux → get_or mux c 0 < k + 1 → (get_or mux c 0 ≡ k) ⊎ (get_or mux c 0 ≡ k → ⊥) → AreRead mux size k all
    → (length (get_or all c []) ≡ size) ⊎ IsIn c (channels_of mux k)
had_size mux size k c all lt below (inl same) read =
    let passes : (slice_index mux c == k) ≡ true = grind (arith, same) in
    inr (in_filter (λ number. slice_index mux number == k) c 0 (length mux) passes (omega arith) (omega (arith, lt)))
had_size mux size k c all lt below (inr other) read = inl (read c lt (omega (arith, below, other)))

module _ (setup : SetupFields) (mapping : Mapping) (size : ℕ) (wanted : List Bool) where
  submap_count : (k : ℕ) (before : List (List ℤ) × List Bool) → length (with_submap setup mapping size wanted before k).0 ≡ length before.0
  unfolding with_submap replaced
  submap_count k before =
      let read = residue_vectors setup.books (residue_of setup mapping k) size (map (is_flagged wanted) (channels_of mapping.mux k)) before.1 in
      replaced_count before.0 (zip (channels_of mapping.mux k) read.0)

  submap_sizes : (k : ℕ) (before : List (List ℤ) × List Bool) → length before.0 ≡ length mapping.mux → AreRead mapping.mux size k before.0
      → AreRead mapping.mux size (k + 1) (with_submap setup mapping size wanted before k).0
  unfolding with_submap
  submap_sizes k before count read = λ c lt below.
      let channels = channels_of mapping.mux k in
      let flags = map (is_flagged wanted) channels in
      let vectors = residue_vectors setup.books (residue_of setup mapping k) size flags before.1 in
      let sizes : lengths vectors.0 ≡ replicate (length channels) size = vector_lengths setup.books (residue_of setup mapping k) size flags before.1 ∙ ap (λ n. replicate n size) (length-map channels (is_flagged wanted)) in
      put_size size c channels vectors.0 before.0 (omega (arith, lt, count)) sizes (had_size mapping.mux size k c before.0 lt below (cases_eq (get_or mapping.mux c 0) k) read)

  submaps_sizes : (a n : ℕ) (before : List (List ℤ) × List Bool) → length before.0 ≡ length mapping.mux → AreRead mapping.mux size a before.0
      → let after = fold (with_submap setup mapping size wanted) before (range_with_len a n) in
      (length after.0 ≡ length mapping.mux) × AreRead mapping.mux size (a + n) after.0
  submaps_sizes a zero before count read = let e : a + 0 ≡ a = omega arith in (count, subst (λ k. AreRead mapping.mux size k before.0) (sym e) read)
  submaps_sizes a (suc n) before count read =
      let e : a + 1 + n ≡ a + suc n = omega arith in
      let step = with_submap setup mapping size wanted in
      let more = submaps_sizes (a + 1) n (step before a) (submap_count a before ∙ count) (submap_sizes a before count read) in
      (more.0, subst (λ k. AreRead mapping.mux size k (fold step (step before a) (range_with_len (a + 1) n)).0) e more.1)

-- ---- so many channels of so many values

pub record AreSized (count size : ℕ) (all : List (List ℤ)) : Type 0 where
  pub number : length all ≡ count
  pub sizes : (c : ℕ) → c < count → length (channel all c) ≡ size

residues_sized : (setup : SetupFields) (mapping : Mapping) (size : ℕ) (wanted left : List Bool) → All (λ submap. submap < length mapping.submaps) mapping.mux
    → AreSized (length mapping.mux) size (channel_residues setup mapping size wanted left).0
unfolding channel_residues
residues_sized setup mapping size wanted left named =
    let all = submaps_sizes setup mapping size wanted 0 (length mapping.submaps) (replicate (length mapping.mux) [], left) (length-replicate (length mapping.mux) []) (λ c lt below. absurd (omega (arith, below))) in
    record {
      number = all.0;
      sizes = λ c lt. all.1 c lt (omega (arith, named c 0 lt));
    }

-- ---- coupling

set_case : (size c i : ℕ) (all : List (List ℤ)) (now : List ℤ) → c < length all → length (channel all c) ≡ size → length now ≡ size → (c ≡ i) ⊎ (c ≡ i → ⊥) → length (channel (slice_set all i now) c) ≡ size
set_case size c i all now lt had count (inl same) = subst (λ (y : ℕ). length (channel (slice_set all y now) c) ≡ size) same (ap length (get_or-set_same all c now [] lt) ∙ count)
set_case size c i all now lt had count (inr other) = ap length (get_or-set_other all i c now [] other) ∙ had

set_sized : (count size i : ℕ) (all : List (List ℤ)) (now : List ℤ) → AreSized count size all → length now ≡ size → AreSized count size (slice_set all i now)
set_sized count size i all now are long = record {
  number = length-set all i now ∙ are.number;
  sizes = λ c lt. set_case size c i all now (omega (arith, lt, are.number)) (are.sizes c lt) long (cases_eq c i);
}

step_sized : (count size : ℕ) (all : List (List ℤ)) (step : Coupling) → AreSized count size all → IsCoupling count step → AreSized count size (without_step all step)
unfolding without_step first_channel second_channel
step_sized count size all step are is =
    let magnitudes = channel all step.magnitude in
    let angles = channel all step.angle in
    let long : length magnitudes ≡ size = are.sizes step.magnitude is.magnitude in
    let first : length (first_channel magnitudes angles) ≡ size = length-map-range_with_len (λ k. first_of (slice_index_or magnitudes k (pos 0)) (slice_index_or angles k (pos 0))) 0 (length magnitudes) ∙ long in
    let second : length (second_channel magnitudes angles) ≡ size = length-map-range_with_len (λ k. second_of (slice_index_or magnitudes k (pos 0)) (slice_index_or angles k (pos 0))) 0 (length magnitudes) ∙ long in
    set_sized count size step.angle (slice_set all step.magnitude (first_channel magnitudes angles)) (second_channel magnitudes angles)
    (set_sized count size step.magnitude all (first_channel magnitudes angles) are first) second

fold_sized : (count size : ℕ) (steps : List Coupling) (all : List (List ℤ)) → AreSized count size all → All (IsCoupling count) steps → AreSized count size (fold without_step all steps)
fold_sized count size [] all are within = are
fold_sized count size (step ∷ steps) all are within =
    fold_sized count size steps (without_step all step) (step_sized count size all step are (All-head (IsCoupling count) step steps within)) (All-tail (IsCoupling count) step steps within)

turned : {X : Type 0} (P : X → Type 0) (xs : List X) → All P xs → All P (reverse xs)
turned P xs all = λ k d lt.
    let below : k < length xs = omega (arith, lt, length-reverse xs) in
    subst P (sym (get_or-reverse xs k d below)) (all (length xs - 1 - k) d (omega (arith, below)))

pub apart_sized : (setup : SetupFields) (mapping : Mapping) (size : ℕ) (wanted left : List Bool) → All (λ submap. submap < length mapping.submaps) mapping.mux → All (IsCoupling (length mapping.mux)) mapping.couplings
    → AreSized (length mapping.mux) size (without_steps mapping.couplings (channel_residues setup mapping size wanted left).0)
unfolding without_steps
apart_sized setup mapping size wanted left named within =
    fold_sized (length mapping.mux) size (reverse mapping.couplings) (channel_residues setup mapping size wanted left).0 (residues_sized setup mapping size wanted left named) (turned (IsCoupling (length mapping.mux)) mapping.couplings within)
