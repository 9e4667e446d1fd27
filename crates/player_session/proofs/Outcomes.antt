-- How the steps of a run make its outcome.
use Rattle.std.proofs.Common.{ℕ, List, sym, subst, inl, inr}
use Rattle.model_player.specs.declared.status.Status.{Status}
use Rattle.model_player.specs.declared.status.Status.TheVariants as statuses
use Rattle.model_player.specs.Courses.{Puts, at_once, in_parts, Duty, writes, refuses, Course}
use Rattle.model_player.specs.Outcome.{ShelfRun, SinkRun, Gains, IsKept, MayComeTo, Outcome}
use Rattle.player_session.specs.declared.stops.Stop.{Stop}
use Rattle.player_session.specs.declared.stops.Stop.TheVariants as stops
use Rattle.player_session.specs.Steps.{IsRefusal, StopsBy, Finishes, FinishesStop, Writes}

-- an output that is due was written, or a fault came
pub shown : (course : Course) (shelf : ShelfRun) (out notes : SinkRun) (puts : Puts) (bytes : List ℕ) (status : Status) → MayComeTo course shelf (writes puts bytes) → Writes puts bytes out notes status → Outcome course shelf out notes status
shown course shelf out notes puts bytes statuses.Ok d w = (puts, bytes, d, w.0, w.1)
shown course shelf out notes puts bytes statuses.Output d w = inl (puts, bytes, d, w.0, w.1)
shown course shelf out notes at_once bytes statuses.Memory d w = (w.0, inl w.1)
shown course shelf out notes in_parts bytes statuses.Memory d w = (w.0, inr (bytes, d, w.1))
shown course shelf out notes puts bytes statuses.Usage d w = absurd w
shown course shelf out notes puts bytes statuses.Input d w = absurd w
shown course shelf out notes puts bytes statuses.Constants d w = absurd w
shown course shelf out notes puts bytes statuses.Film d w = absurd w
shown course shelf out notes puts bytes statuses.Script d w = absurd w
shown course shelf out notes puts bytes statuses.TooLong d w = absurd w

noted : (course : Course) (shelf : ShelfRun) (out notes : SinkRun) (due : Status) (line : List ℕ) → IsRefusal due → MayComeTo course shelf (refuses due line) → Gains notes line → IsKept out → Outcome course shelf out notes due
noted course shelf out notes statuses.Ok line i d a k = absurd i
noted course shelf out notes statuses.Output line i d a k = absurd i
noted course shelf out notes statuses.Memory line i d a k = absurd i
noted course shelf out notes statuses.Usage line i d a k = (line, d, a, k)
noted course shelf out notes statuses.Input line i d a k = (line, d, a, k)
noted course shelf out notes statuses.Constants line i d a k = (line, d, a, k)
noted course shelf out notes statuses.Film line i d a k = (line, d, a, k)
noted course shelf out notes statuses.Script line i d a k = (line, d, a, k)
noted course shelf out notes statuses.TooLong line i d a k = (line, d, a, k)

-- the line of a refusal that is due was written, or a fault came
pub refused : (course : Course) (shelf : ShelfRun) (out notes : SinkRun) (due : Status) (line : List ℕ) (result : Status) → IsRefusal due → MayComeTo course shelf (refuses due line) → IsKept out → Finishes due line notes result
    → Outcome course shelf out notes result
refused course shelf out notes due line result i d k (inl (e, a)) = subst (λ (s : Status). Outcome course shelf out notes s) (sym e) (noted course shelf out notes due line i d a k)
refused course shelf out notes due line result i d k (inr (inl (e, b))) = subst (λ (s : Status). Outcome course shelf out notes s) (sym e) (inr (due, line, d, b, k))
refused course shelf out notes due line result i d k (inr (inr (e, p))) = subst (λ (s : Status). Outcome course shelf out notes s) (sym e) (p, inl k)

-- a command was stopped
pub stopped : (course : Course) (shelf : ShelfRun) (out notes : SinkRun) (stop : Stop) (result : Status) → StopsBy (MayComeTo course shelf) stop → IsKept out → FinishesStop stop notes result → Outcome course shelf out notes result
stopped course shelf out notes (stops.Refused status line) result s k f = refused course shelf out notes status _ result s.fits s.due k f
stopped course shelf out notes stops.Memory result s k (e, t) = subst (λ (s : Status). Outcome course shelf out notes s) (sym e) (t, inl k)

pub StopsBy-weaker : (P Q : Duty → Type 0) → ((duty : Duty) → P duty → Q duty) → (stop : Stop) → StopsBy P stop → StopsBy Q stop
StopsBy-weaker P Q f (stops.Refused status line) s = record { due = f _ s.due; fits = s.fits; some = s.some }
StopsBy-weaker P Q f stops.Memory s = s
