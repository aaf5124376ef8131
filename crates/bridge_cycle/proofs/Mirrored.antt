-- The mirror: what it asks for is what the driver keeps, and what it leaves the driver keeps again.
use Rattle.std.proofs.Common.{ℕ, List, Some, refl, ap}
use Rattle.joint_machine.specs.declared.names.Cycle.{Cycle}
use Rattle.joint_machine.specs.declared.events.Op.TheVariants as op
use Rattle.joint_machine.specs.declared.events.Reply.TheVariants as says
use Rattle.joint_machine.specs.Control.{contracted}
use Rattle.joint_model.specs.Listed.{Answers}
use Rattle.xref_list.specs.Listing.{Listing}
use Rattle.managed_heap.specs.declared.opening.Opened.{Opened as Snapshot}
use Rattle.order_table.specs.declared.views.View.{View}
use Rattle.joint_history.specs.Driven.{DriverStands}
use Rattle.dead_parts.specs.Graphs.{numbered_comps}
use Rattle.joint_history.specs.DriverMirrors.{IsListedBy, MakesMirror, MayMirrorCycle}
use Rattle.bridge_cycle.specs.declared.stages.Stage.TheVariants as stage
use Rattle.bridge_cycle.specs.Held.{IsOfCycle, cycle_of}
use Rattle.bridge_cycle.specs.Progress.{Progress}
use Rattle.bridge_cycle.proofs.Making.{DriverKeeps, Steps, kept, stands_on, steps_one}

module _ {q : Progress} {v : View} {k : Cycle} {n index : ℕ} {o : Snapshot} {listing : Listing} {room : Answers} (i : DriverKeeps q (kept v (stage.Contracted o listing room) k n) index) where
  abbrev heavy : List ℕ
  heavy = i.held.at.1.0

  cycle : IsOfCycle k n i.held.seen o
  cycle = i.held.cycle

  stands : DriverStands v index (contracted (cycle_of o) (numbered_comps o.graph listing.comps) heavy listing.pairs) i.held.seen
  stands = stands_on q (kept v (stage.Contracted o listing room) k n) index i (contracted (cycle_of o) (numbered_comps o.graph listing.comps) heavy listing.pairs) i.held.at.1.2

  by_listing : IsListedBy o.graph listing i.held.seen (numbered_comps o.graph listing.comps) heavy listing.pairs
  by_listing = record { cycle = cycle.cycle; opened = cycle.opened; graph = cycle.graph; comps_same = refl; heavy_same = i.held.at.1.1; pairs_same = refl }

  pub may_mirror : MayMirrorCycle v index k.0 o.number o.graph listing
  may_mirror = record {
    opened = cycle_of o;
    comps = numbered_comps o.graph listing.comps;
    heavy = heavy;
    pairs = listing.pairs;
    seen = i.held.seen;
    stands = stands;
    listed = by_listing;
    same_cycle = ap (λ (z : Cycle). z.0) cycle.same;
    same_snap = refl;
  }

  pub mirrored_now : (new : View) (refs m : ℕ) → MakesMirror v new index k o.number o.graph listing refs m → Steps q (kept new (stage.Mirrored o room) k n) index (says.Refs refs)
  mirrored_now new refs m makes =
      let w = makes (cycle_of o) (numbered_comps o.graph listing.comps) heavy listing.pairs i.held.seen stands by_listing (ap (λ (z : Cycle). z.0) cycle.same) refl in
      steps_one _ _ (kept new (stage.Mirrored o room) k n) index m (op.Mirror k) _ (Some o.number) _ _ _ _ _ i w.makes w.stands i.held.cycle (i.held.at.0, refl)
      (record { each = (tt, tt); count = refl }) refl refl refl
