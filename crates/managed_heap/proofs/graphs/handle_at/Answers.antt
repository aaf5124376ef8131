-- What stands beside the row.
use Rattle.std.proofs.Common.{◌≡◌, ◌∙◌, None, Some, ap, sym, get_or, ◌-◌}
use Rattle.joint_machine.specs.declared.names.Kind.TheVariants.{Plain}
use Rattle.managed_heap.specs.declared.rows.Header.{Header}
use Rattle.managed_heap.specs.Graphs.{handle_named}
use Rattle.managed_heap.proofs.DeadGraphs.{held_at-at}
use Rattle.managed_heap.proofs.graphs.handle_at.Goals as goal

pub returns-in-None : goal.returns-in-None
returns-in-None c =
    let d : Header = record { kind = Plain; handle = None; peer = None } in
    let is : (get_or c.args.headers.now (c.args.m.0 - 1) d).handle ≡ None = c.in-None.is in
    sym (ap handle_named (held_at-at c.args.headers.now c.args.m.0 d c.requires.row.0 c.requires.row.1 ∙ is))

pub returns-in-Some : goal.returns-in-Some
returns-in-Some c =
    let d : Header = record { kind = Plain; handle = None; peer = None } in
    let is : (get_or c.args.headers.now (c.args.m.0 - 1) d).handle ≡ Some c.in-Some.h = c.in-Some.is in
    sym (ap handle_named (held_at-at c.args.headers.now c.args.m.0 d c.requires.row.0 c.requires.row.1 ∙ is))
