-- What one line more does to the lanes that lines begin.
use Rattle.std.proofs.Common.{◌≡◌, ◌+◌, List, [], ◌∷◌, ◌++◌, length, cond, refl, ap, ◌∙◌, arith}
use Rattle.std.proofs.lemmas.List.Sums.{sum_by-cons}
use Rattle.model_script.specs.declared.command.Command.{Command}
use Rattle.model_script.specs.declared.command.Line.{Line}
use Rattle.model_script.specs.declared.command.Line.TheVariants as lines
use Rattle.model_script.specs.Scripts.{begins_lane, lanes_in, next_commands, lanes_of}
use Rattle.player_script.specs.Steps.{given}

-- a count goes on behind the first line
lanes-cons : (x : Line) (xs : List Line) → lanes_in (x ∷ xs) ≡ cond (begins_lane x) 1 0 + lanes_in xs
lanes-cons x xs = sum_by-cons (λ y. cond (begins_lane y) 1 0) x xs

pub length-lanes_of : (xs : List Line) → length (lanes_of xs) ≡ lanes_in xs
length-lanes_of [] = refl
length-lanes_of (lines.Lane ∷ xs) = omega (arith, length-lanes_of xs, lanes-cons lines.Lane xs)
length-lanes_of (lines.Gives c ∷ xs) = omega (arith, length-lanes_of xs, lanes-cons (lines.Gives c) xs)

-- a lane more ends the commands of the one before it
next-lane : (xs : List Line) → next_commands (xs ++ lines.Lane ∷ []) ≡ next_commands xs
next-lane [] = refl
next-lane (lines.Lane ∷ xs) = refl
next-lane (lines.Gives c ∷ xs) = ap (λ (cs : List Command). c ∷ cs) (next-lane xs)

pub lanes_of-lane : (xs : List Line) → lanes_of (xs ++ lines.Lane ∷ []) ≡ lanes_of xs ++ [] ∷ []
lanes_of-lane [] = refl
lanes_of-lane (lines.Lane ∷ xs) =
    ap (λ (cs : List Command). cs ∷ lanes_of (xs ++ lines.Lane ∷ [])) (next-lane xs)
    ∙ ap (λ (ls : List (List Command)). next_commands xs ∷ ls) (lanes_of-lane xs)
lanes_of-lane (lines.Gives c ∷ xs) = lanes_of-lane xs

-- a command behind lines that begin no lane, and behind others
next-command : (d : Command) (xs : List Line) → lanes_of xs ≡ [] → next_commands (xs ++ lines.Gives d ∷ []) ≡ next_commands xs ++ d ∷ []
next-command d [] e = refl
next-command d (lines.Lane ∷ xs) e = cc
next-command d (lines.Gives c ∷ xs) e = ap (λ (cs : List Command). c ∷ cs) (next-command d xs e)

next-same : (d : Command) (xs : List Line) (l : List Command) (ls : List (List Command)) → lanes_of xs ≡ l ∷ ls → next_commands (xs ++ lines.Gives d ∷ []) ≡ next_commands xs
next-same d [] l ls e = cc
next-same d (lines.Lane ∷ xs) l ls e = refl
next-same d (lines.Gives c ∷ xs) l ls e = ap (λ (cs : List Command). c ∷ cs) (next-same d xs l ls e)

-- the lanes of lines that begin one, by those of the lines behind it
behind_lane : (d : Command) (xs : List Line) (rest : List (List Command)) → lanes_of xs ≡ rest → lanes_of (xs ++ lines.Gives d ∷ []) ≡ given d rest → next_commands (xs ++ lines.Gives d ∷ []) ∷ lanes_of (xs ++ lines.Gives d ∷ []) ≡ given d (next_commands xs ∷ rest)
behind_lane d xs [] e more =
    ap (λ (cs : List Command). cs ∷ lanes_of (xs ++ lines.Gives d ∷ [])) (next-command d xs e)
    ∙ ap (λ (ls : List (List Command)). (next_commands xs ++ d ∷ []) ∷ ls) more
behind_lane d xs (l ∷ ls) e more =
    ap (λ (cs : List Command). cs ∷ lanes_of (xs ++ lines.Gives d ∷ [])) (next-same d xs l ls e)
    ∙ ap (λ (rest : List (List Command)). next_commands xs ∷ rest) more

-- a command more is behind those of the last lane
pub lanes_of-gives : (d : Command) (xs : List Line) → lanes_of (xs ++ lines.Gives d ∷ []) ≡ given d (lanes_of xs)
lanes_of-gives d [] = refl
lanes_of-gives d (lines.Lane ∷ xs) = behind_lane d xs (lanes_of xs) refl (lanes_of-gives d xs)
lanes_of-gives d (lines.Gives c ∷ xs) = lanes_of-gives d xs
