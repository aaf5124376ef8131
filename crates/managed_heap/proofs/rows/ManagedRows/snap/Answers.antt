-- What was prepared is freed and opens the cycle.
use Rattle.std.proofs.Common.{◌≡◌, ◌∙◌, ◌-◌, ◌+◌, ◌≤◌, length, Some, false, subst, sym, ap, arith, refl}
use Rattle.std.proofs.lemmas.List.{length-map}
use Rattle.std.proofs.lemmas.Option.{same_Some}
use Rattle.joint_machine.specs.declared.names.MNum.{MNum}
use Rattle.joint_machine.specs.PinsTold.{no_pins, with_pins}
use Rattle.joint_machine.specs.Heaps.{IsLive, with_freed}
use Rattle.joint_machine.specs.Histories.{managed_numbers}
use Rattle.joint_machine.specs.ManagedReplay.{ManagedReplay}
use Rattle.known_laws.specs.Known.{PinsStand}
use Rattle.managed_heap.specs.Pinned.{pins_given}
use Rattle.heap_rules.specs.Tidy.{CanFree}
use Rattle.row_heap.specs.Rows.{HeapRows}
use Rattle.managed_heap.specs.Dues.{HasDue}
use Rattle.managed_heap.specs.Rooms.{FitsSnap}
use Rattle.managed_heap.specs.Rows.{rows_of}
use Rattle.managed_heap.specs.Snapping.{TakesSnapshot}
use Rattle.managed_heap.proofs.PreparedSnapshots.{prepared-free, prepared-still, pins-left, prepared-due, takes-prepared}
use Rattle.managed_heap.proofs.rows.ManagedRows.snap.Goals as goal

pub widen-requires-clause-empty : goal.widen-requires-clause-empty
widen-requires-clause-empty c = c.requires.fits.empty

pub widen-requires-clause-wide : goal.widen-requires-clause-wide
widen-requires-clause-wide c =
    let i = c.self.inside in
    let s : ManagedReplay = rows_of i.heap.heap i.headers.items i.registry i.cells no_pins i.notices i.cycle i.cycles i.contracted in
    let fits : FitsSnap c.args.room s.managed = rw (← c.self.view_is) at c.requires.fits in
    omega (arith, fits.wide, length-map i.notices.queued (λ (m : MNum). m.0), c.made.ensures.made)

pub widen-requires-clause-most : goal.widen-requires-clause-most
widen-requires-clause-most c =
    let i = c.self.inside in
    let s : ManagedReplay = rows_of i.heap.heap i.headers.items i.registry i.cells no_pins i.notices i.cycle i.cycles i.contracted in
    let fits : FitsSnap c.args.room s.managed = rw (← c.self.view_is) at c.requires.fits in
    omega (arith, fits.most, length-map i.notices.queued (λ (m : MNum). m.0), c.made.ensures.made)

pub prepare-found-requires-clause-empty : goal.prepare-found-requires-clause-empty
prepare-found-requires-clause-empty c =
    let i = c.self.inside in
    let s : ManagedReplay = rows_of i.heap.heap i.headers.items i.registry i.cells no_pins i.notices i.cycle i.cycles i.contracted in
    let fits : FitsSnap c.args.room s.managed = rw (← c.self.view_is) at c.requires.fits in
    (fits.rows.freed.0, fits.rows.candidates.0, fits.rows.dead.0)

pub prepare-found-requires-clause-room : goal.prepare-found-requires-clause-room
prepare-found-requires-clause-room c =
    let i = c.self.inside in
    let s : ManagedReplay = rows_of i.heap.heap i.headers.items i.registry i.cells no_pins i.notices i.cycle i.cycles i.contracted in
    let fits : FitsSnap c.args.room s.managed = rw (← c.self.view_is) at c.requires.fits in
    (fits.rows.freed.1, fits.rows.candidates.1, fits.rows.dead.1)

pub prepare-found-requires-clause-zeros : goal.prepare-found-requires-clause-zeros
prepare-found-requires-clause-zeros c =
    let i = c.self.inside in
    let s : ManagedReplay = rows_of i.heap.heap i.headers.items i.registry i.cells no_pins i.notices i.cycle i.cycles i.contracted in
    let fits : FitsSnap c.args.room s.managed = rw (← c.self.view_is) at c.requires.fits in
    fits.rows.places

pub prepare-found-requires-clause-bare : goal.prepare-found-requires-clause-bare
prepare-found-requires-clause-bare c =
    let i = c.self.inside in
    let s : ManagedReplay = rows_of i.heap.heap i.headers.items i.registry i.cells no_pins i.notices i.cycle i.cycles i.contracted in
    let fits : FitsSnap c.args.room s.managed = rw (← c.self.view_is) at c.requires.fits in
    fits.rows.graph

pub prepare-found-requires-clause-rows : goal.prepare-found-requires-clause-rows
prepare-found-requires-clause-rows c =
    let i = c.self.inside in
    let s : ManagedReplay = rows_of i.heap.heap i.headers.items i.registry i.cells no_pins i.notices i.cycle i.cycles i.contracted in
    let fits : FitsSnap c.args.room s.managed = rw (← c.self.view_is) at c.requires.fits in
    fits.rows.nodes

pub prepare-found-requires-clause-fields : goal.prepare-found-requires-clause-fields
prepare-found-requires-clause-fields c =
    let i = c.self.inside in
    let s : ManagedReplay = rows_of i.heap.heap i.headers.items i.registry i.cells no_pins i.notices i.cycle i.cycles i.contracted in
    let fits : FitsSnap c.args.room s.managed = rw (← c.self.view_is) at c.requires.fits in
    fits.rows.edges

pub prepare-found-requires-clause-live : goal.prepare-found-requires-clause-live
prepare-found-requires-clause-live c =
    let i = c.self.inside in
    let s : ManagedReplay = rows_of i.heap.heap i.headers.items i.registry i.cells no_pins i.notices i.cycle i.cycles i.contracted in
    let pins = pins_given c.args.pins.now.at in
    let stand : PinsStand s.managed pins = rw (← c.self.view_is) at c.requires.stand in
    stand.live

pub free-requires-clause-can : goal.free-requires-clause-can
free-requires-clause-can c =
    let i = c.self.inside in
    let s : ManagedReplay = rows_of i.heap.heap i.headers.items i.registry i.cells no_pins i.notices i.cycle i.cycles i.contracted in
    let found = c.prepare-found.result.found in
    let freed = managed_numbers found.freed.items in
    let prepares = rw c.deref.ensures.value at c.prepare-found.ensures.prepares in
    subst (λ z. CanFree c.prepare-found.new.heap.heap (managed_numbers z)) (sym c.deref-2.ensures.value)
    (prepared-free (with_pins s (pins_given c.args.pins.now.at)).managed c.prepare-found.new.heap freed found.candidates.items
    (managed_numbers found.dead.items) (ap (λ (v : HeapRows). v.heap) c.prepare-found.ensures.rest) prepares)

pub mark_slots_again-requires-clause-live : goal.mark_slots_again-requires-clause-live
mark_slots_again-requires-clause-live c =
    let i = c.self.inside in
    let s : ManagedReplay = rows_of i.heap.heap i.headers.items i.registry i.cells no_pins i.notices i.cycle i.cycles i.contracted in
    let pins = pins_given c.args.pins.now.at in
    let stand : PinsStand s.managed pins = rw (← c.self.view_is) at c.requires.stand in
    let closed = rw (← c.self.view_is) at c.requires.closed in
    let found = c.prepare-found.result.found in
    let freed = managed_numbers found.freed.items in
    let prepares = rw c.deref.ensures.value at c.prepare-found.ensures.prepares in
    let heap-is : c.free.new.self.heap ≡ with_freed i.heap.heap freed = c.free.ensures.heap
    ∙ (ap (λ z. with_freed c.prepare-found.new.heap.heap (managed_numbers z)) c.deref-2.ensures.value ∙ ap (λ (v : HeapRows). with_freed v.heap freed) c.prepare-found.ensures.rest) in
    λ x k. subst (λ h. IsLive h x) (sym heap-is)
    (pins-left (with_pins s pins).managed c.prepare-found.new.heap freed found.candidates.items (managed_numbers found.dead.items) closed stand.live prepares x k)

pub mark_slots_again-requires-clause-plain : goal.mark_slots_again-requires-clause-plain
mark_slots_again-requires-clause-plain c = ap (λ (v : HeapRows). v.follows) c.free.ensures.rest ∙ ap (λ (v : HeapRows). v.follows) c.prepare-found.ensures.rest

-- with no candidate the first marking's marks stand
pub mark_slots_again-requires-clause-still : goal.mark_slots_again-requires-clause-still
mark_slots_again-requires-clause-still c = λ none.
    let i = c.self.inside in
    let s : ManagedReplay = rows_of i.heap.heap i.headers.items i.registry i.cells no_pins i.notices i.cycle i.cycles i.contracted in
    let found = c.prepare-found.result.found in
    let freed = managed_numbers found.freed.items in
    let prepares = rw c.deref.ensures.value at c.prepare-found.ensures.prepares in
    let heap-is : c.free.new.self.heap ≡ with_freed i.heap.heap freed = c.free.ensures.heap
    ∙ (ap (λ z. with_freed c.prepare-found.new.heap.heap (managed_numbers z)) c.deref-2.ensures.value ∙ ap (λ (v : HeapRows). with_freed v.heap freed) c.prepare-found.ensures.rest) in
    rw heap-is (prepared-still (with_pins s (pins_given c.args.pins.now.at)).managed c.prepare-found.new.heap c.free.new.self freed found.candidates.items
    (managed_numbers found.dead.items) prepares (sym c.deref-3.ensures.value ∙ none) (rw c.deref-2.ensures.value at c.free.ensures.marks))

pub invariant_of-self : goal.invariant_of-self
invariant_of-self c =
    let i = c.self.inside in
    let s : ManagedReplay = rows_of i.heap.heap i.headers.items i.registry i.cells no_pins i.notices i.cycle i.cycles i.contracted in
    let found = c.prepare-found.result.found in
    let freed = managed_numbers found.freed.items in
    let prepares = rw c.deref.ensures.value at c.prepare-found.ensures.prepares in
    let heap-is : c.free.new.self.heap ≡ with_freed i.heap.heap freed = c.free.ensures.heap
    ∙ (ap (λ z. with_freed c.prepare-found.new.heap.heap (managed_numbers z)) c.deref-2.ensures.value ∙ ap (λ (v : HeapRows). with_freed v.heap freed) c.prepare-found.ensures.rest) in
    let room : length found.candidates.items ≤ c.widen.new.self.spare = omega (arith, c.prepare-found.ensures.few.1, c.widen.ensures.room, c.made.ensures.made) in (
      c.self.invariant.0,
      ap (λ (v : HeapRows). v.refs) c.mark_slots_again.ensures.rest
          ∙ (ap (λ (v : HeapRows). v.refs) c.free.ensures.rest ∙ (ap (λ (v : HeapRows). v.refs) c.prepare-found.ensures.rest ∙ c.self.invariant.1)),
      ap (λ (v : HeapRows). v.follows) c.mark_slots_again.ensures.rest,
      λ o e. subst (HasDue c.mark_slots_again.new.heap c.widen.new.self.spare) (same_Some _ o (sym c.replace.ensures.after ∙ e))
          (prepared-due (with_pins s (pins_given c.args.pins.now.at)).managed c.prepare-found.new.heap c.mark_slots_again.new.heap freed found.candidates.items
          (managed_numbers found.dead.items) c.widen.new.self.spare (i.cycles + 1) prepares
          (ap (λ (v : HeapRows). v.heap) c.mark_slots_again.ensures.rest ∙ heap-is) (rw heap-is at c.mark_slots_again.ensures.marks) room),
    )

pub returns-clause-snapshot : goal.returns-clause-snapshot
returns-clause-snapshot c =
    let i = c.self.inside in
    let closed = rw (← c.self.view_is) at c.requires.closed in
    let found = c.prepare-found.result.found in
    let freed = managed_numbers found.freed.items in
    let prepares = rw c.deref.ensures.value at c.prepare-found.ensures.prepares in
    let heap-is : c.free.new.self.heap ≡ with_freed i.heap.heap freed = c.free.ensures.heap
    ∙ (ap (λ z. with_freed c.prepare-found.new.heap.heap (managed_numbers z)) c.deref-2.ensures.value ∙ ap (λ (v : HeapRows). with_freed v.heap freed) c.prepare-found.ensures.rest) in
    let next = rows_of c.mark_slots_again.new.heap.heap i.headers.items i.registry i.cells no_pins c.widen.new.self
    (Some record { number = i.cycles + 1; candidates = found.candidates.items; dead = managed_numbers found.dead.items }) (i.cycles + 1) false in
    rw c.replace.ensures.after (subst (λ z. TakesSnapshot z next (pins_given c.args.pins.now.at) freed (i.cycles + 1) (c.made-2.result -
    c.live.result) c.len-count.result c.prepare-found.result.graph) c.self.view_is
    (takes-prepared i.heap.heap c.mark_slots_again.new.heap.heap i.headers.items i.registry i.cells (pins_given c.args.pins.now.at) i.notices c.widen.new.self i.cycle _ i.cycles
    i.contracted c.prepare-found.new.heap freed found.candidates.items found.dead.items (c.made-2.result - c.live.result) c.len-count.result c.prepare-found.result.graph
    closed prepares (ap (λ (v : HeapRows). v.heap) c.mark_slots_again.ensures.rest ∙ heap-is) c.widen.ensures.queued c.widen.ensures.taken refl
    (omega (arith, c.made-2.ensures.made, c.live.ensures)) (omega (arith, c.len-count.ensures, found.candidates.ok))
    (rw c.deref.ensures.value at c.prepare-found.ensures.nodes) c.prepare-found.ensures.edges))
