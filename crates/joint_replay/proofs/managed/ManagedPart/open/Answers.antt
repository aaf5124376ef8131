-- What was found among the rows was made.
use Rattle.std.proofs.Common.{◌≡◌, ◌∙◌, length, subst, sym, ap}
use Rattle.std.specs.Prelude.{All}
use Rattle.joint_machine.specs.Heaps.{Heap, IsMade}
use Rattle.joint_machine.specs.Managed.{Managed}
use Rattle.joint_replay.specs.Finding.{FindsRows}
use Rattle.joint_replay.proofs.Snapping.{found-freed, found-owed}
use Rattle.joint_replay.proofs.managed.ManagedPart.open.Goals as goal

pub free-requires : goal.free-requires
free-requires c =
    let f = c.args.found in
    let finds : FindsRows c.self.inside.heap c.self.inside.held.items c.self.inside.pins f.freed.items f.candidates.items f.dead.items = subst
    (λ (s : Managed). FindsRows s.heap s.held s.pins f.freed.items f.candidates.items f.dead.items) (sym c.self.view_is) c.requires.finds in
    subst (All (IsMade c.self.inside.heap)) (sym c.deref.ensures.value) (found-freed c.self.inside.heap c.self.inside.held.items c.self.inside.pins f.freed.items f.candidates.items f.dead.items finds)

pub invariant_of-self-2 : goal.invariant_of-self-2
invariant_of-self-2 c =
    let f = c.args.found in
    let finds : FindsRows c.self.inside.heap c.self.inside.held.items c.self.inside.pins f.freed.items f.candidates.items f.dead.items = subst
    (λ (s : Managed). FindsRows s.heap s.held s.pins f.freed.items f.candidates.items f.dead.items) (sym c.self.view_is) c.requires.finds in
    let same : length c.self.inside.heap.fields ≡ length c.free.new.self.fields = sym (ap (λ (z : Heap). length z.fields) c.in_ok-free.ensures.ok) in (
      found-owed c.self.inside.heap c.self.inside.held.items c.self.inside.pins f.freed.items f.candidates.items f.dead.items (length c.free.new.self.fields) c.args.k.0 same finds,
      c.self.invariant.1 ∙ same,
      c.self.invariant.2,
      c.self.invariant.3,
    )
