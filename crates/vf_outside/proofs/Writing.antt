-- What is written piece by piece.
use Rattle.std.proofs.Common.{ℕ, ◌+◌, List, ◌++◌, take, drop, Option, Some, None, sym, ap, ◌∙◌, append_assoc}
use Rattle.std.proofs.Math.Seq.{take-add}
use Rattle.std.specs.Io.KnownBytes.{Appends, Keeps}

-- a front was written, and then a front of the rest
pub Appends-more : (old mid new : Option (List ℕ)) (bytes : List ℕ) (i n : ℕ) → Appends old mid (take i bytes) → Appends mid new (take n (drop i bytes)) → Appends old new (take (i + n) bytes)
Appends-more None mid new bytes i n before step = tt
Appends-more (Some a) None new bytes i n before step = absurd before
Appends-more (Some a) (Some b) None bytes i n before step = absurd step
Appends-more (Some a) (Some b) (Some c) bytes i n before step =
    step ∙ ap (λ (x : List ℕ). x ++ take n (drop i bytes)) before ∙ append_assoc a (take i bytes) (take n (drop i bytes))
    ∙ ap (λ (x : List ℕ). a ++ x) (sym (take-add i n bytes))

-- a front was written, and then nothing
pub Appends-kept : (old mid new : Option (List ℕ)) (bytes : List ℕ) → Appends old mid bytes → Keeps mid new → Appends old new bytes
Appends-kept None mid new bytes before step = tt
Appends-kept (Some a) None new bytes before step = absurd before
Appends-kept (Some a) (Some b) None bytes before step = absurd step
Appends-kept (Some a) (Some b) (Some c) bytes before step = step ∙ before
