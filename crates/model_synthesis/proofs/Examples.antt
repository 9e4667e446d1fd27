-- The definitions on small values.
use Rattle.std.proofs.Common.{◌≡◌, refl, ◌+◌, pos, negsuc, [], ◌∷◌, Err, Some, None}
use Rattle.std.specs.Prelude.{codes}
use Rattle.model_synthesis.specs.declared.constants.ConstantsFault.TheVariants.{Magic, Length}
use Rattle.model_synthesis.specs.Tables.{wave, slopes_before}
use Rattle.model_synthesis.specs.ConstantsFile.{constants_of, number_at, first_past}

-- four steps a quarter, of which the first is 10, 11, 12, 13
first_quarter : wave 4 (λ u. pos (10 + u)) 3 ≡ pos 13
unfolding wave
first_quarter = refl

second_quarter : wave 4 (λ u. pos (10 + u)) 5 ≡ negsuc 12
unfolding wave
second_quarter = refl

third_quarter : wave 4 (λ u. pos (10 + u)) 9 ≡ negsuc 10
unfolding wave
third_quarter = refl

fourth_quarter : wave 4 (λ u. pos (10 + u)) 15 ≡ pos 11
unfolding wave
fourth_quarter = refl

next_turn : wave 4 (λ u. pos (10 + u)) 17 ≡ pos 11
unfolding wave
next_turn = refl

slopes_of_4096 : slopes_before 4096 ≡ 4064
slopes_of_4096 = refl

no_bytes : constants_of [] ≡ Err Magic
unfolding constants_of
no_bytes = refl

seven_bytes : constants_of (codes "VFCONST") ≡ Err Magic
unfolding constants_of
seven_bytes = refl

short : constants_of (codes "VFCONST1") ≡ Err (Length 8)
unfolding constants_of
short = refl

lowest_first : number_at (9 ∷ 9 ∷ 9 ∷ 9 ∷ 1 ∷ 2 ∷ 0 ∷ 0 ∷ []) 1 ≡ 513
lowest_first = refl

all_in_range : first_past (0 ∷ 0 ∷ 0 ∷ 64 ∷ []) ≡ None
all_in_range = refl

one_past : first_past (0 ∷ 0 ∷ 0 ∷ 64 ∷ 1 ∷ 0 ∷ 0 ∷ 64 ∷ 1 ∷ 0 ∷ 0 ∷ 65 ∷ []) ≡ Some 1
one_past = refl
