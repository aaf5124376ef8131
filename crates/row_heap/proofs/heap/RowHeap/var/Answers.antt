-- A heap is tidy: what a slot names is live.
use Rattle.std.proofs.Common.{◌<◌, length, None, inl, arith}
use Rattle.std.proofs.lemmas.List.Elements.{Contains-get_or}
use Rattle.heap_rules.proofs.Sound.{read-live}
use Rattle.row_heap.proofs.Sound.{slot-here}
use Rattle.row_heap.proofs.heap.RowHeap.var.Goals as goal

pub returns-clause-live : goal.returns-clause-live
returns-clause-live g c =
    let os = c.self.inside.vars in
    let within : c.args.place < length os = omega (arith, c.self.invariant.0.sound.tidy.vars, c.requires) in
    rw (← c.self.view_is) (read-live _ os _ (λ y p. c.self.invariant.0.sound.tidy.slots y (inl p)) (Contains-get_or os c.args.place None within))

pub returns-clause-value : goal.returns-clause-value
returns-clause-value g c = rw (← c.self.view_is) (slot-here c.self.inside.vars c.args.place (omega (arith, c.self.invariant.0.sound.tidy.vars, c.requires)))
