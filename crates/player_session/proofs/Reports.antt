-- The texts of lanes, put one after the other.
use Rattle.std.proofs.Common.{◌≡◌, ℕ, zero, suc, ◌+◌, ◌<◌, ◌≤◌, List, [], ◌∷◌, ◌++◌, length, map, take, drop, All, get_or, Option, refl, sym, ap, ◌∙◌, append_assoc, append-nil, take-append-drop, add-one, arith}
use Rattle.std.specs.List.{concat, enumerate_from}
use Rattle.std.proofs.lemmas.List.{take_all}
use Rattle.std.proofs.lemmas.List.Elements.{All-nil, All-cons}
use Rattle.std.proofs.KnownBytes.{Appends-trans}
use Rattle.std.specs.Io.KnownBytes.{Appends, Keeps}
use Rattle.vf_outside.specs.Told.{AppendsPart}
use Rattle.vf_outside.specs.declared.sink.PutFault.{PutFault}
use Rattle.vf_outside.specs.declared.sink.PutFault.TheVariants as faults
use Rattle.model_synthesis.specs.Tables.{ConstantTables}
use Rattle.model_line.specs.Acceptance.{FilmLink}
use Rattle.model_script.specs.declared.command.Command.{Command}
use Rattle.model_report.specs.Lanes.{Heard}
use Rattle.model_report.specs.Reports.{lane_text, lane_texts, report_of}
use Rattle.film_dump.proofs.Midst.{part_of}
use Rattle.player_session.proofs.Puts.{Keeps-same, Appends-nothing}

-- ---- each has its first line

texts_some : (heard : Heard) (number : ℕ) (lanes : List (List Command)) → All (λ (text : List ℕ). 0 < length text) (map (lane_text heard) (enumerate_from number lanes))
texts_some heard number [] = All-nil (λ (text : List ℕ). 0 < length text)
texts_some heard number (lane ∷ lanes) = All-cons (λ (text : List ℕ). 0 < length text) _ _ (omega arith) (texts_some heard (number + 1) lanes)

pub report_some : (tables : ConstantTables) (links : List FilmLink) (lanes : List (List Command)) → All (λ (text : List ℕ). 0 < length text) (report_of tables links lanes)
unfolding report_of lane_texts
report_some tables links lanes = texts_some _ 0 lanes

-- ---- the first texts, the next, and those behind it

pub concat_next : (texts : List (List ℕ)) (i : ℕ) (text : List ℕ) → i < length texts → text ≡ get_or texts i text → concat (take (suc i) texts) ≡ concat (take i texts) ++ text
concat_next [] i text lt e = absurd (omega arith)
concat_next (t ∷ texts) zero text lt e = append-nil t ∙ sym e
concat_next (t ∷ texts) (suc i) text lt e = ap (λ (xs : List ℕ). t ++ xs) (concat_next texts i text (omega arith) e) ∙ sym (append_assoc t (concat (take i texts)) text)

concat_around : (texts : List (List ℕ)) (i : ℕ) → concat texts ≡ concat (take i texts) ++ concat (drop i texts)
concat_around [] zero = refl
concat_around [] (suc i) = refl
concat_around (t ∷ texts) zero = refl
concat_around (t ∷ texts) (suc i) = ap (λ (xs : List ℕ). t ++ xs) (concat_around texts i) ∙ sym (append_assoc t (concat (take i texts)) (concat (drop i texts)))

-- ---- how far the puts came

module _ (texts : List (List ℕ)) (old : Option (List ℕ)) where
  pub put_none : Appends old old (concat (take 0 texts))
  put_none = Appends-nothing old old (Keeps-same old)

  pub put_next : (mid new : Option (List ℕ)) (i : ℕ) (text : List ℕ) → i < length texts → text ≡ get_or texts i text → Appends old mid (concat (take i texts)) → Appends mid new text → Appends old new (concat (take (i + 1) texts))
  put_next mid new i text lt at so one =
      rw (add-one, concat_next texts i text lt at) (Appends-trans old mid new (concat (take i texts)) text so one)

  pub put_all : (new : Option (List ℕ)) (i : ℕ) → length texts ≤ i → Appends old new (concat (take i texts)) → Appends old new (concat texts)
  put_all new i past so = rw (take_all i texts past) at so

  pub put_front : (new : Option (List ℕ)) (i : ℕ) → Appends old new (concat (take i texts)) → AppendsPart old new (concat texts)
  put_front new i so = part_of old new (concat (take i texts)) (concat (drop i texts)) (concat texts) so (concat_around texts i)

  -- a put that failed left a front of its text
  put_failed : (mid new : Option (List ℕ)) (i : ℕ) (text : List ℕ) → i < length texts → text ≡ get_or texts i text → Appends old mid (concat (take i texts)) → AppendsPart mid new text → AppendsPart old new (concat texts)
  put_failed mid new i text lt at so (count, part) =
      let before = concat (take i texts) in
      let behind = concat (drop (suc i) texts) in
      part_of old new (before ++ take count text) (drop count text ++ behind) (concat texts)
      (Appends-trans old mid new before (take count text) so part)
      (concat_around texts (suc i) ∙ ap (λ (xs : List ℕ). xs ++ behind) (concat_next texts i text lt at ∙ ap (λ (xs : List ℕ). before ++ xs) (sym (take-append-drop count text)))
      ∙ ap (λ (xs : List ℕ). xs ++ behind) (sym (append_assoc before (take count text) (drop count text)))
      ∙ append_assoc (before ++ take count text) (drop count text) behind)

  kept : (mid new : Option (List ℕ)) (bytes : List ℕ) → Appends old mid bytes → Keeps mid new → Appends old new bytes
  kept mid new bytes so stays = rw (append-nil bytes) at (Appends-trans old mid new bytes [] so (Appends-nothing mid new stays))

  -- a put that found no memory left nothing
  put_lacked : (mid new : Option (List ℕ)) (i : ℕ) → Appends old mid (concat (take i texts)) → Keeps mid new → AppendsPart old new (concat texts)
  put_lacked mid new i so stays = put_front new i (kept mid new (concat (take i texts)) so stays)

  pub put_broke : (mid new : Option (List ℕ)) (i : ℕ) (text : List ℕ) (fault : PutFault) → i < length texts → text ≡ get_or texts i text → Appends old mid (concat (take i texts)) → (fault ≡ faults.Failed → AppendsPart mid new text) → (fault ≡ faults.Memory → Keeps mid new)
      → AppendsPart old new (concat texts)
  put_broke mid new i text faults.Failed lt at so part stays = put_failed mid new i text lt at so (part refl)
  put_broke mid new i text faults.Memory lt at so part stays = put_lacked mid new i so (stays refl)
