-- The line of an answer by its parts.
use Rattle.std.proofs.Common.{◌≡◌, ℕ, List, [], ◌∷◌, ◌++◌, Result, Ok, Err, refl, ap, ◌∙◌, append_assoc}
use Rattle.std.specs.Prelude.{OnOk, OnErr, codes}
use Rattle.model_script.specs.declared.command.Command.{Command}
use Rattle.model_script.specs.declared.command.Answer.{Answer}
use Rattle.model_script.specs.declared.command.Answer.TheVariants as answers
use Rattle.model_script.specs.Texts.{head_text, tail_text, answer_text, reply_line}
use Rattle.player_script.specs.Bodies.{body_text}

by_body : (command : Command) (answer : Answer) (channels : ℕ) → answer_text command answer channels ≡ head_text command ++ body_text command answer channels
by_body command answers.Ok channels = refl
by_body command answers.AlreadyOpen channels = refl
by_body command answers.NoCursor channels = append_assoc (head_text command) (tail_text command) (codes " no cursor")
by_body command (answers.Told place) channels = refl
by_body command (answers.Given reply) channels = refl

-- the first word and the cursor, what is behind them, and the end
pub by_parts : (command : Command) (answer : Answer) (channels : ℕ) → reply_line command answer channels ≡ head_text command ++ (body_text command answer channels ++ 10 ∷ [])
by_parts command answer channels = ap (λ (bs : List ℕ). bs ++ 10 ∷ []) (by_body command answer channels)
    ∙ append_assoc (head_text command) (body_text command answer channels) (10 ∷ [])

-- what follows where a call was done
pub on_ok : {T E P Q : Type 0} (r : Result T E) → (P → Q) → OnOk r P → OnOk r Q
on_ok (Ok x) f p = f p
on_ok (Err e) f p = p

-- what is so whether it was done or not
pub on_err : {T E P : Type 0} (r : Result T E) → P → OnErr r P
on_err (Ok x) p = tt
on_err (Err e) p = p

-- texts that are written one behind the other
pub five_parts : (out o1 o2 o3 o4 new f a b c d : List ℕ) → o1 ≡ out ++ (f ++ a) → o2 ≡ o1 ++ (32 ∷ b) → o3 ≡ o2 ++ (32 ∷ c) → o4 ≡ o3 ++ 32 ∷ [] → new ≡ o4 ++ d → new ≡ out ++ (f ++ (a ++ 32 ∷ (b ++ 32 ∷ (c ++ 32 ∷ d))))
five_parts out o1 o2 o3 o4 new f a b c d e1 e2 e3 e4 e5 =
    e5 ∙ ap (λ (x : List ℕ). x ++ d) (e4 ∙ ap (λ (x : List ℕ). x ++ 32 ∷ []) (e3 ∙ ap (λ (x : List ℕ). x ++ 32 ∷ c) (e2 ∙ ap (λ (x : List ℕ). x ++ 32 ∷ b) e1)))
    ∙ simp append_assoc
