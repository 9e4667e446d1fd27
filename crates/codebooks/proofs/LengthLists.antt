-- Lists of lengths.
use Rattle.std.proofs.Common.{◌≡◌, ℕ, Ok, Result, List, ◌++◌, replicate, Option, Some}
use Rattle.std.specs.List.{All}
use Rattle.std.proofs.lemmas.List.Elements.{All-append, All-replicate}
use Rattle.model_setup.specs.declared.book.BookFault.{BookFault}
use Rattle.codebooks.specs.Free.{IsLength, IsLengthIfUsed}

pub runs_small : (lengths : List (Option ℕ)) (n len : ℕ) → All IsLengthIfUsed lengths → IsLength len → All IsLengthIfUsed (lengths ++ replicate n (Some len))
runs_small lengths n len all h = All-append IsLengthIfUsed lengths (replicate n (Some len)) all (All-replicate IsLengthIfUsed n (Some len) h)

pub same_ok : {X : Type 0} (x y : X) → ◌≡◌ {A = Result X BookFault} (Ok x) (Ok y) → y ≡ x
same_ok x y h = cc
