-- Where the driver's stand doesn't move on, what is known of the run stays known, at a step of the joint machine and at
-- an entry that is none.
use Rattle.std.proofs.Common.{◌≡◌, List, [], ◌∷◌, ◌++◌, Some, sym, ap, subst, ◌∙◌}
use Rattle.std.proofs.lemmas.Option.{same_Some}
use Rattle.joint_machine.specs.declared.names.Cycle.{Cycle}
use Rattle.joint_machine.specs.declared.names.HNum.{HNum}
use Rattle.joint_machine.specs.declared.events.Op.{Op}
use Rattle.joint_machine.specs.declared.events.Op.TheVariants as op
use Rattle.joint_machine.specs.Control.{OpenSnap, Stand, idle, snapped, contracted, weakening, marked, restoring, restored}
use Rattle.joint_machine.specs.Linked.{Linkage, MayCome, linkage_after}
use Rattle.joint_machine.specs.Managed.{OpenCycle}
use Rattle.joint_machine.specs.PeerReplay.{Marking}
use Rattle.joint_machine.specs.Run.{Moment}
use Rattle.joint_machine.specs.Told.{Noted}
use Rattle.joint_laws.specs.LinkedInvariants.{IsMirrored, IsInMarking, DriverInvariant}
use Rattle.joint_laws.proofs.BroughtBack.{IsLater, later-entry}
use Rattle.joint_laws.proofs.Journeys.{refs-entry, goes-open, way-next, way-rests}
use Rattle.joint_laws.proofs.JourneyStands.{IsUnderWay, Journey, behind-next, behind-rests}
use Rattle.joint_laws.proofs.JointRuns.{Stands, state_of}
use Rattle.joint_laws.proofs.ManagedMoves.{GoesOn}
use Rattle.joint_laws.proofs.MarkRests.{mark-rests}
use Rattle.joint_laws.proofs.MarkSteps.{watch-next}
use Rattle.joint_laws.proofs.PeerHeaps.{heap-entry}
use Rattle.joint_laws.proofs.Sparing.{later}

-- the event is none that a marking of the driver's own excludes
pub record IsInside (o : Op) : Type 0 where
  pub no_restore : (h : HNum) → o ≡ op.Restore h → ⊥
  pub no_mirror : (k : Cycle) → o ≡ op.Mirror k → ⊥
  pub no_clear : (k : Cycle) → o ≡ op.Clear k → ⊥

module _ (s : Linkage) (n : Noted) (may : MayCome s n) (w : Stands s) (v : Stands (linkage_after s n)) where
  abbrev t : Linkage
  t = linkage_after s n

  -- the own marking goes on
  module _ (inside : IsInside n.entry.made.op) (past : List Moment) (o : OpenSnap) (to : IsInMarking t.managed t.peer o) (k : IsUnderWay past s w o) where
    goes : GoesOn s.managed.managed t.managed.managed
    goes = goes-open s n may w k.way.cycle to.cycle k.way.open_now to.opened.cycle

    is_later : IsLater t.peer.peers.heap k.own to.marking
    is_later = later-entry s n k.vars k.statics may inside.no_restore k.own to.marking k.open_mark to.own

    open_later : t.peer.marking ≡ Some (later k.own is_later.brought is_later.black)
    open_later = to.own ∙ ap (λ (z : Marking). Some z) is_later.same

    same_cycle : to.cycle ≡ k.way.cycle
    same_cycle = same_Some to.cycle k.way.cycle (sym to.opened.cycle ∙ (goes.cycle ∙ k.way.open_now))

    mirror : IsMirrored t.managed t.peer k.way.cycle
    mirror = subst (λ (z : OpenCycle). IsMirrored t.managed t.peer z) same_cycle to.mirror

    refs : t.peer.refs ≡ s.peer.refs
    refs = refs-entry s n inside.no_mirror inside.no_clear

    pub under-next : (m : Moment) → m.after ≡ state_of t v → IsUnderWay (past ++ m ∷ []) t v o
    unfolding way-next
    under-next m after = record {
      way = way-next s n may w v past o m after to.cycle to.opened.cycle k.way;
      own = later k.own is_later.brought is_later.black;
      open_mark = open_later;
      watched = watch-next s n may w v goes past k.way.snap k.way.cycle k.way.open_now k.way.watched m after
          k.own k.open_mark k.watched is_later.brought is_later.black open_later is_later.back refs mirror;
      vars = (heap-entry s n).vars ∙ k.vars;
      statics = (heap-entry s n).statics ∙ k.statics;
    }

    pub under-rests : state_of t v ≡ state_of s w → IsUnderWay past t v o
    unfolding way-rests
    under-rests same = record {
      way = way-rests s t w v past o same k.way;
      own = later k.own is_later.brought is_later.black;
      open_mark = open_later;
      watched = mark-rests s t w v same past k.way.snap k.way.cycle k.way.open_now k.way.watched k.own k.watched is_later.brought is_later.black is_later.back refs;
      vars = (heap-entry s n).vars ∙ k.vars;
      statics = (heap-entry s n).statics ∙ k.statics;
    }

  -- the stand stays
  pub stay-next : IsInside n.entry.made.op → (past : List Moment) (m : Moment) → m.after ≡ state_of t v
      → (x : Stand) → DriverInvariant t.managed t.peer x → Journey past s w x → Journey (past ++ m ∷ []) t v x
  stay-next inside past m after idle to k = tt
  stay-next inside past m after (snapped o) to k = way-next s n may w v past o m after to.cycle to.opened.cycle k
  stay-next inside past m after (contracted o comps heavy xrefs) to k = way-next s n may w v past o m after to.before.cycle to.before.opened.cycle k
  stay-next inside past m after (weakening o count seen sw) to k = way-next s n may w v past o m after to.cycle to.opened.cycle k
  stay-next inside past m after (marked o) to k = under-next inside past o to k m after
  stay-next inside past m after (restoring o answers) to k = behind-next s n may w v past o m to.cycle to.opened.cycle k
  stay-next inside past m after (restored o answers clear) to k = behind-next s n may w v past o m to.cycle to.opened.cycle k

  pub stay-rests : IsInside n.entry.made.op → (past : List Moment) → state_of t v ≡ state_of s w → (x : Stand) → DriverInvariant t.managed t.peer x → Journey past s w x → Journey past t v x
  stay-rests inside past same idle to k = tt
  stay-rests inside past same (snapped o) to k = way-rests s t w v past o same k
  stay-rests inside past same (contracted o comps heavy xrefs) to k = way-rests s t w v past o same k
  stay-rests inside past same (weakening o count seen sw) to k = way-rests s t w v past o same k
  stay-rests inside past same (marked o) to k = under-rests inside past o to k same
  stay-rests inside past same (restoring o answers) to k = behind-rests s n may w v past o to.cycle to.opened.cycle k
  stay-rests inside past same (restored o answers clear) to k = behind-rests s n may w v past o to.cycle to.opened.cycle k
