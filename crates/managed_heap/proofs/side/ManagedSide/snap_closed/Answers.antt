-- The list goes on by the snapshot, which opens the next cycle.
use Rattle.std.proofs.Common.{◌≡◌, ◌∙◌, ◌≤◌, None, length, refl, sym, ap, arith}
use Rattle.std.specs.Option.{is_some}
use Rattle.std.proofs.lemmas.List.{length-map}
use Rattle.joint_machine.specs.declared.names.Thread.TheVariants.{C}
use Rattle.joint_machine.specs.declared.events.Op.TheVariants as op
use Rattle.joint_machine.specs.declared.events.Reply.TheVariants as says
use Rattle.joint_machine.specs.Histories.{managed_numbers}
use Rattle.joint_machine.specs.Sides.{managed_rules, step_made}
use Rattle.joint_machine.specs.Told.{kept_pins, snap_of}
use Rattle.joint_machine.proofs.SideLists.{AreTaken-push}
use Rattle.managed_heap.specs.Openings.{snap_made}
use Rattle.managed_heap.specs.Pinned.{pins_given}
use Rattle.managed_heap.proofs.Driving.{adds-lawful, objects-numbers}
use Rattle.managed_heap.proofs.Ready.{room_there}
use Rattle.managed_heap.proofs.Goes.{side-kept, side-replayed, kept-rows, HasRoom-two, takings-few}
use Rattle.managed_heap.proofs.SnapEntries.{snap-goes}
use Rattle.joint_machine.proofs.Deciding.{none_some}
use Rattle.managed_heap.proofs.side.ManagedSide.snap_closed.Goals as goal

pub snap-cycle-requires-clause-kept : goal.snap-cycle-requires-clause-kept
snap-cycle-requires-clause-kept g c = kept-rows c.self.inside.entries.entries c.self.inside.takings c.self.inside.rows c.self.invariant.3

pub snap-cycle-requires-clause-closed : goal.snap-cycle-requires-clause-closed
snap-cycle-requires-clause-closed g c = rw (← c.self.view_is) at c.requires.closed

-- each cycle that was opened has an entry, and there is room for three more
pub next_cycle-requires : goal.next_cycle-requires
next_cycle-requires g c =
    let there = room_there c.self.inside.room (rw (← c.self.view_is) at c.requires.ready) in
    let three = c.self.invariant.5 there.0 there.1 in
    omega (arith, c.self.invariant.3.few, c.spare-spare.ensures.limit, c.spare-spare.ensures.spare, three)

pub close-requires : goal.close-requires
close-requires g c = record { may = rw c.next_cycle.ensures (rw (← c.self.view_is) at c.requires.close) }

pub snap-cycle-requires-clause-count : goal.snap-cycle-requires-clause-count
snap-cycle-requires-clause-count g c =
    let three = c.self.invariant.5 c.use_up-room.result c.use_up-room.ensures.there in
    omega (arith, c.self.invariant.3.few, c.spare-spare.ensures.limit, c.spare-spare.ensures.spare, three)

-- the pins that the gate gave
pub snap-cycle-requires-clause-stand : goal.snap-cycle-requires-clause-stand
snap-cycle-requires-clause-stand g c =
    let closes = rw c.next_cycle.ensures at c.in-Some.ensures.closed in
    let stand = rw (← c.self.view_is) at c.requires.stand in
    stand c.in-Some.pins.at c.close.new.self closes

pub snap-cycle-requires-clause-fits : goal.snap-cycle-requires-clause-fits
snap-cycle-requires-clause-fits g c = c.self.invariant.6 c.use_up-room.result c.use_up-room.ensures.there

-- a side that is ready has room
pub use_up-room-requires : goal.use_up-room-requires
use_up-room-requires g c = rw (← c.self.view_is) at c.requires.ready

pub invariant_of-self : goal.invariant_of-self
invariant_of-self g c =
    let i = c.self.inside in
    let s = i.rows.managed in
    let closes = rw c.next_cycle.ensures at c.in-Some.ensures.closed in
    let pins = pins_given c.in-Some.pins.at in
    let t = c.snap-cycle.ensures.snapshot in
    let ms = c.snap-cycle.result.freed.items in
    let freed = managed_numbers ms in
    let many : c.len.result ≡ length freed = omega (arith, c.len.ensures, c.snap-cycle.result.freed.ok, length-map ms (λ m. m.0)) in
    let made-is : step_made C c.args.index (op.Snap record { 0 = c.snap-cycle.result.cycle })
    (says.Snapped c.snap-cycle.result.candidates record { first = c.snap-cycle.result.first; count = c.len.result })
    None ≡ snap_made s c.args.index freed t.candidates = rw (t.snapshot.next, t.before, t.counted, many) refl in
    let draws = rw made-is at c.enter-number.ensures.draws in
    let goes = snap-goes i.entries.entries i.takings i.rows c.snap-cycle.new.self pins c.args.index _ _ _ freed _ c.self.invariant.0 t in
    let asked = rw (← c.self.view_is) at c.requires.may in
    let stand = rw (← c.self.view_is) at c.requires.stand in
    let may = asked c.in-Some.pins.at c.close.new.self closes in
    let stands = stand c.in-Some.pins.at c.close.new.self closes in
    let three = c.self.invariant.5 c.use_up-room.result c.use_up-room.ensures.there in
    let room : 2 ≤ c.enter-number.new.entries.spare = omega (arith, three, c.enter-number.ensures.spare) in (
      side-replayed i.entries.entries c.enter-number.new.entries.entries i.takings i.takings i.rows c.snap-cycle.new.self draws.adds.number (g.G.Draw.rules.floor c.close.new.self)
          (snap_made s c.args.index freed t.candidates) (kept_pins pins (snap_of freed t.candidates t.dead)) may.below draws.above draws.adds.added goes c.self.invariant.0,
      HasRoom-two c.snap-cycle.new.self c.enter-number.new.entries.spare room,
      AreTaken-push managed_rules i.threads i.entries.entries c.enter-number.new.entries.entries draws.adds.number (snap_made s c.args.index freed t.candidates) tt draws.adds.added c.self.invariant.2,
      side-kept i.entries.entries c.enter-number.new.entries.entries i.takings i.takings i.rows c.snap-cycle.new.self draws.adds.number
          (snap_made s c.args.index freed t.candidates) (kept_pins pins (snap_of freed t.candidates t.dead)) stands draws.adds.added goes c.self.invariant.3,
      takings-few i.entries.entries c.enter-number.new.entries.entries i.takings draws.adds.number (snap_made s c.args.index freed t.candidates) draws.adds.added c.self.invariant.4,
      λ r e. absurd (none_some r (sym c.use_up-room.ensures.used ∙ e)),
      λ r e. absurd (none_some r (sym c.use_up-room.ensures.used ∙ e)),
    )

pub returns-clause-used : goal.returns-clause-used
returns-clause-used g c = ap is_some c.use_up-room.ensures.used

pub returns-clause-snaps : goal.returns-clause-snaps
returns-clause-snaps g c =
    let i = c.self.inside in
    let s = i.rows.managed in
    let closes = rw c.next_cycle.ensures at c.in-Some.ensures.closed in
    let pins = pins_given c.in-Some.pins.at in
    let t = c.snap-cycle.ensures.snapshot in
    let ms = c.snap-cycle.result.freed.items in
    let freed = managed_numbers ms in
    let many : c.len.result ≡ length freed = omega (arith, c.len.ensures, c.snap-cycle.result.freed.ok, length-map ms (λ m. m.0)) in
    let made-is : step_made C c.args.index (op.Snap record { 0 = c.snap-cycle.result.cycle })
    (says.Snapped c.snap-cycle.result.candidates record { first = c.snap-cycle.result.first; count = c.len.result })
    None ≡ snap_made s c.args.index freed t.candidates = rw (t.snapshot.next, t.before, t.counted, many) refl in
    let draws = rw made-is at c.enter-number.ensures.draws in
    let goes = snap-goes i.entries.entries i.takings i.rows c.snap-cycle.new.self pins c.args.index _ _ _ freed _ c.self.invariant.0 t in
    let number = rw made-is at c.enter-number.ensures.number in
    rw (← c.self.view_is) (record {
      gate = c.close.new.self;
      pins = c.in-Some.pins.at;
      closes = closes;
      opens = record {
        freed = freed;
        candidates = t.candidates;
        dead = t.dead;
        adds = adds-lawful g.G.Draw.rules c.close.new.self c.enter-number.new.draw i.threads i.entries.entries c.enter-number.new.entries.entries i.takings i.takings i.rows c.snap-cycle.new.self
            (snap_made s c.args.index freed t.candidates) (kept_pins pins (snap_of freed t.candidates t.dead)) c.deref.result.now draws refl (objects-numbers ms ∙ sym c.deref.ensures.value) goes;
        cycle = t.snapshot.next;
        counted = t.counted;
        span = rw (t.before, many) refl;
        number = number;
        graph = t.pictured;
      };
    })
