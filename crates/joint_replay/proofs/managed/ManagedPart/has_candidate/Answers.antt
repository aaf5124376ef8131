-- The candidates of the open cycle were made, so one that holds the handle is live.
use Rattle.std.proofs.Common.{sym, ap, ◌∙◌, subst}
use Rattle.std.specs.Prelude.{All}
use Rattle.joint_machine.specs.Heaps.{IsMade}
use Rattle.joint_machine.specs.Managed.{Managed}
use Rattle.joint_replay.proofs.Restoring.{candidate-found}
use Rattle.joint_replay.proofs.managed.ManagedPart.has_candidate.Goals as goal

pub returns-in-Some : goal.returns-in-Some
returns-in-Some c =
    let owes = rw c.in-Some.is at c.self.invariant.0 in
    candidate-found c.args.self.now c.in-Some.open c.args.h c.none_gives.result (ap (λ (z : Managed). z.cycle) (sym c.self.view_is) ∙ c.in-Some.is)
    (subst (λ (z : Managed). All (IsMade z.heap) c.in-Some.open.candidates) c.self.view_is owes.2) (rw c.candidates.ensures at c.none_gives.ensures)
