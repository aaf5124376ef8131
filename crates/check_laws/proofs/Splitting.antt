-- What a caller's order allows is cut into turn, citation and data, event by event.
use Rattle.std.proofs.Common.{◌≡◌, ℕ, inl, inr, List, length, Option, Some, None}
use Rattle.std.specs.Prelude.{◌↔◌}
use Rattle.joint_machine.specs.declared.names.Thread.{Thread}
use Rattle.joint_machine.specs.declared.names.Phase.{Phase}
use Rattle.joint_machine.specs.declared.events.Op.{Op}
use Rattle.joint_machine.specs.declared.events.Op.TheVariants as op
use Rattle.joint_machine.specs.declared.events.Reply.{Reply}
use Rattle.joint_machine.specs.declared.events.Reply.TheVariants as says
use Rattle.joint_machine.specs.Control.{Doing, made, lent, gripped, given, met, Stand, idle, snapped, contracted, weakening, marked, restoring, restored}
use Rattle.joint_machine.specs.Control.{ThreadAllows, DriverAllows, IsAtRest, IsPhaseOf}
use Rattle.joint_machine.specs.Managed.{Managed, candidates_of}
use Rattle.joint_machine.specs.PeerReplay.{Marking}
use Rattle.joint_machine.specs.Peers.{Issued}
use Rattle.joint_machine.specs.Told.{Told, references_of, resolution_of, phase_of}
use Rattle.check_laws.specs.Order.{ThreadTurn, ThreadCites, DriverTurn, DriverCites, DriverData}

-- a thread's event
pub thread_splits : (d : Doing) (t : Thread) (l : ℕ) (o : Op) (cites : Option ℕ) → ThreadAllows d t l o cites ↔ (ThreadTurn d t l o × ThreadCites d o cites)
thread_splits (made n line p h sort f) t l (op.Adopt v kind k p' h') cites = (λ z. ((z.1, z.4), (z.0, z.2, z.3)), λ z. (z.1.0, z.0.0, z.1.1, z.1.2, z.0.1))
thread_splits _ t l (op.Adopt v kind k p' h') cites = (λ z. absurd z, λ z. absurd z.0)
thread_splits (lent n line h x) t l (op.Land h' x') cites = (λ z. (z.1, (z.0, z.2, z.3)), λ z. (z.1.0, z.0, z.1.1, z.1.2))
thread_splits _ t l (op.Land h' x') cites = (λ z. absurd z, λ z. absurd z.0)
thread_splits (gripped n line p h sort f) t l (op.Meet v sort' f' p' h') cites = (λ z. (z.1, (z.0, z.2, z.3, z.4, z.5)), λ z. (z.1.0, z.0, z.1.1, z.1.2, z.1.3, z.1.4))
thread_splits _ t l (op.Meet v sort' f' p' h') cites = (λ z. absurd z, λ z. absurd z.0)
thread_splits (given n line h) t l (op.Release h') cites = (λ z. (z.1, (z.0, z.2)), λ z. (z.1.0, z.0, z.1.1))
thread_splits (met n line h) t l (op.Release h') cites = (λ z. (z.1, (z.0, z.2)), λ z. (z.1.0, z.0, z.1.1))
thread_splits _ t l (op.Release h') cites = (λ z. absurd z, λ z. absurd z.0)
thread_splits (given n line h) t l o cites = (λ z. absurd z, λ z. absurd z.0)
thread_splits (met n line h) t l o cites = (λ z. absurd z, λ z. absurd z.0)
thread_splits _ t l _ cites = (λ z. (tt, z), λ z. z.1)

-- where the driver has a phase, no phase is half done
rests : (d : Stand) (c : ℕ) (p : Phase) → IsPhaseOf d c p → IsAtRest d c
rests idle c p e = tt
rests (snapped o) c p e = tt
rests (contracted o comps heavy xrefs) c p e = tt
rests (weakening o count weakened swept) c p e = (elim e.1 [ inl m ↦ inl m.1 | inr w ↦ inr w.1 ], e.0)
rests (marked o) c p e = tt
rests (restoring o answers) c p e = e.0
rests (restored o answers clear) c p e = tt

-- a begin gives a number where no marking is open, and a sweep by the driver asks for one that is
abbrev pub GoesByMarking : Op → Reply → Option Marking → Type 0
GoesByMarking op.Begin (says.Mark j) marking = marking ≡ None
GoesByMarking op.Sweep reply None = ⊥
GoesByMarking _ reply marking = Unit {0}

-- the driver's event
pub driver_splits : (d : Stand) (s : Managed) (issued : List Issued) (o : Op) (reply : Reply) (cites : Option ℕ) (told : Told) (marking : Option Marking) → GoesByMarking o reply marking
    → DriverAllows d s issued o reply cites told ↔ (DriverTurn d s marking o × DriverCites d o cites × DriverData d s issued o reply told)
driver_splits d s issued (op.Line a) reply cites told marking g = (λ z. (z.0, z.1, tt), λ z. (z.0, z.1))
driver_splits idle s issued (op.Snap k) reply cites told marking g = (λ z. (tt, z, tt), λ z. z.1)
driver_splits (snapped o) s issued (op.Contract k) reply cites told marking g = (λ z. (tt, z.1, z.0), λ z. (z.2, z.1))
driver_splits (contracted o comps heavy xrefs) s issued (op.Mirror k) reply cites (references_of refs) marking g = (λ z. (tt, (z.0, z.1), z.2), λ z. (z.1.0, z.1.1, z.2))
driver_splits (contracted o comps heavy xrefs) s issued (op.Mirror k) reply cites _ marking g = (λ z. absurd z, λ z. absurd z.2)
driver_splits (weakening o count weakened swept) s issued (op.Weaken h) reply cites told marking g = (λ z. ((z.1, z.2), z.0, tt), λ z. (z.1, z.0.0, z.0.1))
driver_splits (weakening o count weakened swept) s issued op.Begin (says.Mark j) cites told None g = (λ z. (z.0, z.1, tt), λ z. (z.0, z.1))
driver_splits (weakening o count weakened swept) s issued op.Begin (says.Mark j) cites told (Some mk) g = (let f : ⊥ = cc in absurd f)
driver_splits (weakening o count weakened swept) s issued op.Begin _ cites told marking g = (λ z. absurd z, λ z. absurd z.2)
driver_splits d s issued op.Sweep reply cites told None g = absurd g
driver_splits (weakening o count weakened swept) s issued op.Sweep reply cites told (Some mk) g = (λ z. ((z.0, z.1), z.2, tt), λ z. (z.0.0, z.0.1, z.1))
driver_splits (marked o) s issued op.Sweep reply cites told (Some mk) g = (λ z. (tt, z, tt), λ z. z.1)
driver_splits (restoring o answers) s issued (op.Restore h) reply cites told marking g = (λ z. (z.1, z.0, tt), λ z. (z.1, z.0))
driver_splits (restoring o answers) s issued (op.Clear k) reply cites told marking g = (λ z. (z.1, z.0, z.2), λ z. (z.1, z.0, z.2))
driver_splits (restored o answers clear) s issued (op.Resolve k) reply cites (resolution_of said freed) marking g = (λ z. (tt, (z.0, z.1), z.2), λ z. (z.1.0, z.1.1, z.2))
driver_splits (restored o answers clear) s issued (op.Resolve k) reply cites _ marking g = (λ z. absurd z, λ z. absurd z.2)
driver_splits (snapped o) s issued (op.Abandon k) reply cites told marking g = (λ z. (tt, z.1, z.0), λ z. (z.2, z.1))
driver_splits (contracted o comps heavy xrefs) s issued (op.Abandon k) reply cites told marking g = (λ z. (tt, z.1, z.0), λ z. (z.2, z.1))
driver_splits d s issued (op.Refused w) reply cites (phase_of p) marking g = (λ z. (rests d (length (candidates_of s)) p z.0, z.1, z.0), λ z. (z.2, z.1))
driver_splits d s issued (op.Refused w) reply cites _ marking g = (λ z. absurd z, λ z. absurd z.2)
driver_splits d s issued _ reply cites told marking g = (λ z. absurd z, λ z. absurd z.0)
