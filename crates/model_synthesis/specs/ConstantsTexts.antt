-- The texts of the causes for which a constants file is refused.
use Rattle.std.specs.Prelude.{ℕ, List, ◌++◌, codes}
use Rattle.std.specs.Fmt.{decimal}
use Rattle.model_synthesis.specs.declared.constants.ConstantsFault.{ConstantsFault}
use Rattle.model_synthesis.specs.declared.constants.ConstantsFault.TheVariants.{Magic, Length, Range, Memory}

abbrev pub constants_fault_text : ConstantsFault → List ℕ
constants_fault_text Magic = codes "constants magic"
constants_fault_text (Length n) = codes "constants length " ++ decimal n
constants_fault_text (Range index value) =
    codes "constants range " ++ (decimal index ++ (codes " " ++ decimal value))
constants_fault_text Memory = codes "out of memory"
