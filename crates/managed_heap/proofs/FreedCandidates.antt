-- Which rows with a handle a resolution frees. A freed one is of the dead part, so it is a candidate, and it wasn't
-- answered alive, since a candidate that was leads to itself. A candidate that wasn't is of the dead part, and goes
-- unless one that was answered alive leads to it.
use Rattle.std.proofs.Common.{ℕ, List}
use Rattle.joint_machine.specs.Told.{Answer}
use Rattle.joint_machine.specs.Cycles.{IsAnsweredAlive, IsResolution}
use Rattle.joint_machine.specs.Managed.{Managed, ManagedEdge, OpenCycle}
use Rattle.joint_machine.proofs.WalkLemmas.{Reaches-self}
use Rattle.joint_laws.specs.ManagedInvariants.{IsCutOff}
use Rattle.managed_heap.specs.Resolving.{FreesUnanswered, IsAliveClosed}

pub frees-unanswered : (s : Managed) (c : OpenCycle) (alive : List Answer) (freed : List ℕ) → IsCutOff s c
    → IsResolution s c.dead (IsAnsweredAlive c.candidates alive) freed → IsAliveClosed s c.candidates alive → FreesUnanswered s c.candidates alive freed
frees-unanswered s c alive freed cut r closed m = (
  λ f. (let u = (r.frees m).0 f.0 in ((cut.candidates m).1 (u.0, f.1), λ k. u.1 (m, k, Reaches-self (ManagedEdge s) m))),
  λ f. (let d = (cut.candidates m).0 f.0 in ((r.frees m).1 (d.0, λ w. f.1 (closed w.0 m w.1 f.0 w.2)), d.1)),
)
