-- At a resolution: a candidate that was never reached from its snapshot to the own sweep has a freed peer, so it
-- doesn't stay; so the cycle is complete.
use Rattle.std.proofs.Common.{◌≡◌, ℕ, inl, inr, List, ◌++◌, length, sym, subst, ◌∙◌}
use Rattle.std.specs.Prelude.{Contains}
use Rattle.std.proofs.lemmas.Option.{same_Some, slice_get_within}
use Rattle.joint_machine.specs.Control.{OpenSnap}
use Rattle.joint_machine.specs.Cycles.{IsResolution, IsAnsweredAlive}
use Rattle.joint_machine.specs.Headline.{SnapsAt, IsUnreachedThroughout, IsCompleteCycle}
use Rattle.joint_machine.specs.Joint.{object}
use Rattle.joint_machine.specs.Linked.{Linkage}
use Rattle.joint_machine.specs.Managed.{OpenCycle}
use Rattle.joint_machine.specs.Run.{Moment}
use Rattle.joint_laws.specs.LinkedInvariants.{IsRestored}
use Rattle.joint_laws.proofs.DriverSteps.{row_of, stays-unfreed}
use Rattle.joint_laws.proofs.Journeys.{IsBehindSweep}
use Rattle.joint_laws.proofs.JointRuns.{Stands}
use Rattle.joint_machine.proofs.Members.{Contains-decided}
use Rattle.joint_laws.proofs.MarkSteps.{IsSweptWatch}
use Rattle.joint_laws.proofs.Watching.{get-front, at-more, at-front}
use Rattle.joint_machine.specs.Told.{Answer}

module _ (s : Linkage) (w : Stands s) (past more : List Moment) (o : OpenSnap) (answers : List Answer) (d : IsRestored s.managed s.peer o answers) (b : IsBehindSweep past s o)
    (resolved : List ℕ) (p : IsResolution s.managed.managed d.cycle.dead (IsAnsweredAlive d.cycle.candidates answers) resolved) where
  same_cycle : b.cycle ≡ d.cycle
  same_cycle = same_Some b.cycle d.cycle (sym b.open_now ∙ d.opened.cycle)

  k : IsSweptWatch past b.snap d.cycle s
  k = subst (λ z. IsSweptWatch past b.snap z s) same_cycle b.swept

  candidate-resolved : (x : ℕ) → Contains d.cycle.candidates x → IsUnreachedThroughout (past ++ more) b.snap k.sweep (object x) → Contains resolved x
  candidate-resolved x cx out = elim (Contains-decided resolved x) [
    | inl q ↦ q
    | inr stays ↦ (
        let bridge = (((w.kept.managed.managed.dead d.cycle d.opened.cycle).candidates x).0 cx).1 in
        let row = row_of s.managed s.peer o answers w.kept.managed w.kept.peer w.kept.owners d x bridge.0 bridge.1 in
        absurd (stays-unfreed s.managed s.peer o answers w.kept.managed w.kept.peer w.kept.owners d resolved p x row.0 cx stays row.1
        (k.objects x row.0 cx row.1 (λ i y from to e. out i from to y (get-front past more i y e)))))
  ]

  pub complete-cycle : IsCompleteCycle (past ++ more) (length past) o.cycle resolved
  complete-cycle = record {
    snap = b.snap;
    begin = k.begin;
    sweep = k.sweep;
    marking = k.marking;
    freed = b.freed;
    candidates = d.cycle.candidates;
    swept = k.swept;
    snaps = at-more past more b.snap (subst (λ (z : OpenCycle). SnapsAt past b.snap o.cycle b.freed z.candidates) same_cycle b.snaps);
    begins = at-more past more k.begin k.begins;
    sweeps = at-more past more k.sweep k.sweeps;
    begins_later = k.later_on;
    sweeps_later = k.in_order;
    ends_later = slice_get_within past k.sweep k.sweeps.element k.sweeps.there;
    objects = candidate-resolved;
    peers = λ q made out. at-more past more k.sweep
        (k.peers q (at-front past more k.begin k.begins made) (λ i y from to e. out i from to y (get-front past more i y e)));
  }
