-- A resolution frees by the restores' answers what the joint machine frees by the peers.
use Rattle.std.proofs.Common.{◌≡◌, ℕ, inl, inr, List, Option, Some, None, refl, sym, ap, subst, ◌∙◌}
use Rattle.std.specs.Prelude.{Contains}
use Rattle.std.proofs.lemmas.Option.{same_Some}
use Rattle.joint_machine.specs.Control.{Doing, OpenSnap, restored}
use Rattle.joint_machine.specs.Cycles.{IsResolution, IsAnsweredAlive}
use Rattle.joint_machine.specs.Joint.{Joint, JointMarking}
use Rattle.joint_machine.specs.Managed.{OpenCycle}
use Rattle.joint_machine.specs.ManagedReplay.{ManagedReplay}
use Rattle.joint_machine.specs.Peers.{Issued}
use Rattle.joint_machine.specs.PeerReplay.{PeerReplay}
use Rattle.joint_machine.specs.Run.{IsKept}
use Rattle.joint_laws.specs.LinkedInvariants.{IsRowOf, IsRestored}
use Rattle.joint_machine.proofs.Members.{Contains-at, at-Contains}
use Rattle.joint_laws.proofs.DriverSteps.{row_of, alive-live, cleared-freed, answered}
use Rattle.joint_laws.proofs.LinkedQuiet.{BothInvariants}
use Rattle.joint_laws.specs.JointAgreement.{Flags, joint_as}
use Rattle.joint_machine.specs.Told.{Answer}

-- a resolution
module _ (r : ManagedReplay) (s : PeerReplay) (ds : List Doing) (op : OpenSnap) (answers : List Answer) (clear : ℕ)
    (k : BothInvariants r s ds (restored op answers clear)) (flags : Flags) (jm : Option JointMarking) (freed : List ℕ) where
  abbrev v : IsRestored r s op answers
  v = k.driver

  abbrev c : OpenCycle
  c = k.driver.cycle

  abbrev j : Joint
  j = joint_as r.managed s flags jm

  -- a candidate is kept by the joint machine exactly where it was answered alive
  alive-kept : (x : ℕ) → IsAnsweredAlive c.candidates answers x → IsKept j c x
  alive-kept x t =
      let cx : Contains c.candidates x = Contains-at c.candidates t.0 x t.1 in
      let b = (((k.managed.managed.dead c v.opened.cycle).candidates x).0 cx).1 in
      let w = row_of r s op answers k.managed k.peer k.owners v x b.0 b.1 in
      let l = alive-live r s op answers k.managed k.peer k.owners v t.0 x w.0 t.2.0 t.1 t.2.1 w.1 in
      let i = k.owners.held_ones x b.0 b.1 in
      let row : IsRowOf r.managed s.peers.issued x i.0.peer = record { handle = b.0; holds = b.1; row = i.0; is_issued = i.1; leads = refl } in
      let live = alive-live r s op answers k.managed k.peer k.owners v t.0 x i.0.peer t.2.0 t.1 t.2.1 row in
      record { candidate = cx; handle = b.0; holds = b.1; peer = i.0.peer; leads = ap (λ (o : Option Issued). elim o [ None ↦ None | Some y ↦ Some y.peer ]) i.1; unfreed = live.kept }

  kept-alive : (x : ℕ) → IsKept j c x → IsAnsweredAlive c.candidates answers x
  kept-alive x w =
      let at = at-Contains c.candidates x w.candidate in
      let i = k.owners.held_ones x w.handle w.holds in
      let row : IsRowOf r.managed s.peers.issued x i.0.peer = record { handle = w.handle; holds = w.holds; row = i.0; is_issued = i.1; leads = refl } in
      let same : i.0.peer ≡ w.peer = same_Some i.0.peer w.peer (sym (ap (λ (o : Option Issued). elim o [ None ↦ None | Some y ↦ Some y.peer ]) i.1) ∙ w.leads) in
      elim (answered r s op answers k.managed k.peer k.owners v at.0 x at.1) [
        | inl alive ↦ (at.0, at.1, alive)
        | inr gone ↦ absurd (w.unfreed (subst (λ z. Contains s.peers.heap.freed z) same (cleared-freed r s op answers k.managed k.peer k.owners v at.0 x i.0.peer at.1 gone row)))
      ]

  module _ (p : IsResolution r.managed c.dead (IsAnsweredAlive c.candidates answers) freed) where
    pub joint-resolution : IsResolution r.managed c.dead (IsKept j c) freed
    joint-resolution = record {
      rise = p.rise;
      frees = λ m. (
        λ f. (let q = (p.frees m).0 f in (q.0, λ w. q.1 (w.0, kept-alive w.0 w.1, w.2))),
        λ q. (p.frees m).1 (q.0, λ w. q.1 (w.0, alive-kept w.0 w.1, w.2)),
      );
    }
