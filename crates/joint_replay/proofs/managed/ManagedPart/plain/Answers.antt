-- The objects' heap alone moves.
use Rattle.std.proofs.Common.{subst}
use Rattle.joint_machine.specs.Heaps.{Heap, heap_line}
use Rattle.joint_machine.specs.Managed.{Managed, managed_name, on_heap}
use Rattle.joint_machine.specs.Run.{thread_number}
use Rattle.joint_replay.specs.Judging.{Decides, Gives}
use Rattle.joint_replay.proofs.Lifting.{Gives-on}
use Rattle.joint_replay.proofs.managed.ManagedPart.plain.Goals as goal

pub returns : goal.returns
returns c =
    let s = c.self.inside in
    let i : Managed = record {
      heap = s.heap;
      kinds = s.kinds.items;
      held = s.held.items;
      pins = s.pins;
      cells = s.cells;
      notices = s.notices.items;
      taken = s.taken;
      cycle = s.cycle;
      cycles = s.cycles;
    } in
    let t = thread_number c.args.caller in
    let act = c.args.act.now in
    subst (λ (z : Managed). Decides (Gives (on_heap z (heap_line managed_name z.heap t act)) c.args.reply.now) c.line.result z (record i { heap = c.line.new.self })) c.self.view_is
    (Gives-on (λ (h : Heap). record i { heap = h }) (heap_line managed_name i.heap t act) c.args.reply.now c.line.result i.heap c.line.new.self c.line.ensures.verdict)
