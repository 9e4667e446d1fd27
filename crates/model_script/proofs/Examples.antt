-- Examples by computation: short scripts, and answers to commands.
use Rattle.std.proofs.Common.{◌≡◌, ℕ, List, [], ◌∷◌, ◌++◌, replicate, Ok, Err, refl, pos, negsuc}
use Rattle.std.specs.Prelude.{codes}
use Rattle.std.specs.Fmt.{digits}
use Rattle.std.specs.List.{flat_map}
use Rattle.hex.specs.Hex.{encode_with}
use Rattle.model_line.specs.FrameBytes.{frame_bytes}
use Rattle.model_line.specs.declared.row.GapKind.TheVariants as kinds
use Rattle.model_cursor.specs.declared.reply.Reply.TheVariants as replies
use Rattle.model_script.specs.declared.command.Command.TheVariants.{Open, Read, Seek, Lap, Cross}
use Rattle.model_script.specs.declared.command.Answer.TheVariants as answers
use Rattle.model_script.specs.declared.fault.LineCause.TheVariants as causes
use Rattle.model_script.specs.declared.fault.Which.TheVariants as limits
use Rattle.model_script.specs.declared.fault.ScriptFault.TheVariants as faults
use Rattle.model_script.specs.Scripts.{worded_lines, said, first_refusal, script_of}
use Rattle.model_script.specs.Texts.{reply_line, fault_text}

-- lines, each with its end
abbrev script : List (List ℕ) → List ℕ
script lines = flat_map (λ line. line ++ 10 ∷ []) lines

-- two lanes, the second without a command
accepted : script_of (script (codes "lane" ∷ codes "open 0" ∷ codes "read 0 32" ∷ codes "lane" ∷ [])) ≡ Ok ((Open 0 ∷ Read 0 32 ∷ []) ∷ [] ∷ [])
unfolding script_of worded_lines said first_refusal
accepted = refl

-- the last line may lack its end
unended : script_of (script (codes "lane" ∷ []) ++ codes "seek 15 18446744073709551615") ≡ Ok ((Seek 15 18446744073709551615 ∷ []) ∷ [])
unfolding script_of worded_lines said first_refusal
unended = refl

-- a lap and a cross, each with two numbers
spliced : script_of (script (codes "lane" ∷ codes "lap 0 32" ∷ codes "cross 0 15" ∷ [])) ≡ Ok ((Lap 0 32 ∷ Cross 0 15 ∷ []) ∷ [])
unfolding script_of worded_lines said first_refusal
spliced = refl

-- both cursors of a cross are cursors of a lane
other_cursor : script_of (script (codes "lane" ∷ codes "cross 15 16" ∷ [])) ≡ Err (faults.Line 2 causes.Range)
unfolding script_of worded_lines said first_refusal
other_cursor = refl

-- a script without bytes has no lanes
empty : script_of [] ≡ Ok []
unfolding script_of worded_lines said first_refusal
empty = refl

out_of_range : script_of (script (codes "lane" ∷ codes "read 0 0" ∷ [])) ≡ Err (faults.Line 2 causes.Range)
unfolding script_of worded_lines said first_refusal
out_of_range = refl

no_lane : script_of (script (codes "tell 0" ∷ codes "lane" ∷ [])) ≡ Err (faults.Line 1 causes.NoLane)
unfolding script_of worded_lines said first_refusal
no_lane = refl

-- an unknown word comes before that there is no lane, a wrong count before a wrong number, and that
-- before a number out of range
word_first : script_of (script (codes "jump x" ∷ [])) ≡ Err (faults.Line 1 causes.Word)
unfolding script_of worded_lines said first_refusal
word_first = refl

count_first : script_of (script (codes "lane" ∷ codes "read x" ∷ [])) ≡ Err (faults.Line 2 causes.Count)
unfolding script_of worded_lines said first_refusal
count_first = refl

number_first : script_of (script (codes "lane" ∷ codes "read 16 01" ∷ [])) ≡ Err (faults.Line 2 causes.Number)
unfolding script_of worded_lines said first_refusal
number_first = refl

-- a limit that an earlier line passes comes before a cause of a later line
limit_first : script_of (script (replicate 17 (codes "lane") ++ codes "jump" ∷ [])) ≡ Err (faults.Limit limits.Lanes 17)
unfolding script_of worded_lines said first_refusal
limit_first = refl

refused : fault_text (faults.Line 2 causes.Range) ≡ codes "script line 2 range"
unfolding digits
refused = refl

opened : reply_line (Open 3) answers.Ok 1 ≡ codes "open 3 ok" ++ 10 ∷ []
unfolding digits
opened = refl

closed : reply_line (Read 3 9) answers.NoCursor 1 ≡ codes "read 3 9 no cursor" ++ 10 ∷ []
unfolding digits
closed = refl

invalid : reply_line (Seek 0 33) (answers.Given (replies.Invalid 32)) 1 ≡ codes "seek 0 invalid total 32" ++ 10 ∷ []
unfolding digits
invalid = refl

lapped : reply_line (Lap 0 33) (answers.Given (replies.At 33)) 1 ≡ codes "lap 0 at 33" ++ 10 ∷ []
unfolding digits
lapped = refl

crossed : reply_line (Cross 0 1) answers.Ok 1 ≡ codes "cross 0 1 ok" ++ 10 ∷ []
unfolding digits
crossed = refl

not_crossed : reply_line (Cross 0 1) answers.NoCursor 1 ≡ codes "cross 0 1 no cursor" ++ 10 ∷ []
unfolding digits
not_crossed = refl

lost : reply_line (Read 0 1) (answers.Given (replies.Gap kinds.Lost)) 1 ≡ codes "read 0 gap lost" ++ 10 ∷ []
unfolding digits
lost = refl

-- two frames of two channels
frames : reply_line (Read 0 2) (answers.Given (replies.Frames 1 ((pos 0 ∷ pos 0 ∷ []) ∷ (negsuc 262143 ∷ negsuc 65535 ∷ []) ∷ []))) 2 ≡ codes "read 0 frames 1 2 2 0000000000e000f8" ++ 10 ∷ []
unfolding digits frame_bytes encode_with
frames = refl
