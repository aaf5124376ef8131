-- The strength of each held handle by the driver's stand, as the driver keeps it for the candidates of the cycle that
-- it opened.
use Rattle.std.proofs.Common.{◌≡◌, ℕ, Some, subst}
use Rattle.std.specs.Prelude.{slice_get}
use Rattle.joint_machine.specs.Control.{OpenSnap, Stand, idle, snapped, contracted, weakening, marked, restoring, restored}
use Rattle.joint_machine.specs.Managed.{OpenCycle, Holds, candidates_of}
use Rattle.joint_machine.specs.ManagedReplay.{ManagedReplay}
use Rattle.joint_machine.specs.PeerReplay.{PeerReplay}
use Rattle.joint_laws.specs.LinkedInvariants.{DriverInvariant, IsOpenedAs, ForCandidates}
use Rattle.joint_laws.specs.LinkedLaws.{HeldByPhase, IsByPhase}
use Rattle.joint_laws.specs.States.{state_at}
use Rattle.joint_machine.proofs.Members.{Contains-at}
use Rattle.joint_machine.proofs.HeapLemmas.{candidates_of-open}
use Rattle.joint_laws.proofs.DriverSteps.{no_candidates}
use Rattle.joint_laws.proofs.LinkedStates.{all_kept}

module _ (r : ManagedReplay) (s : PeerReplay) (l m h : ℕ) (e : slice_get (candidates_of r.managed) l ≡ Some m) (q : Holds r.managed m h) where
  of_opened : (o : OpenSnap) (c : OpenCycle) (Q : ℕ → ℕ → Type 0) → IsOpenedAs r o c → ForCandidates r.managed c Q → Q l h
  of_opened o c Q w handles = handles l m h (subst (λ z. slice_get z l ≡ Some m) (candidates_of-open r.managed c w.cycle) e) q

  by_stand : (d : Stand) → DriverInvariant r s d → IsByPhase s d l h
  by_stand idle k = no_candidates r.managed m k.closed (Contains-at (candidates_of r.managed) l m e)
  by_stand (snapped o) k = of_opened o k.cycle _ k.opened k.handles
  by_stand (contracted o comps heavy xrefs) k = of_opened o k.before.cycle _ k.before.opened k.before.handles
  by_stand (weakening o count weakened swept) k = of_opened o k.cycle _ k.opened k.handles
  by_stand (marked o) k = of_opened o k.cycle _ k.opened k.handles
  by_stand (restoring o answers) k = of_opened o k.cycle _ k.opened k.handles
  by_stand (restored o answers clear) k = of_opened o k.cycle _ k.opened k.handles

pub held_by_phase : HeldByPhase
held_by_phase noted may i =
    let s = state_at noted i in
    let k = all_kept noted may i in
    record { others = k.owners.strong_ones; candidates = λ l m h e q. by_stand s.managed s.peer l m h e q s.control.stand k.driver }
