-- Only the handle beside the row changes.
use Rattle.std.proofs.Common.{◌∙◌, ◌∷◌, [], map, sym, ap}
use Rattle.std.proofs.Math.Seq.{map-set_same}
use Rattle.heap_rules.proofs.Numbered.{map-set_number}
use Rattle.joint_model.specs.Listed.{answer_of}
use Rattle.joint_machine.specs.Managed.{renewed}
use Rattle.managed_heap.specs.declared.rows.Header.{Header}
use Rattle.managed_heap.proofs.resolving.renew_row.Goals as goal

pub returns-in-Some-clause-handles : goal.returns-in-Some-clause-handles
returns-in-Some-clause-handles c = map-set_number (λ (i : Header). i.handle) c.args.headers.now.items c.args.m _ c.requires.row.0
    ∙ ap (λ b. renewed (map (λ (i : Header). i.handle) c.args.headers.now.items) (c.args.m ∷ []) (answer_of b ∷ [])) (sym c.in-Some.is)

pub returns-in-Some-clause-kinds : goal.returns-in-Some-clause-kinds
returns-in-Some-clause-kinds c = map-set_same (λ (i : Header). i.kind) c.args.headers.now.items _ _ c.index_mut.result.now (ap (λ (i : Header). i.kind) c.index_mut.ensures.value)

pub returns-in-Some-clause-peers : goal.returns-in-Some-clause-peers
returns-in-Some-clause-peers c = map-set_same (λ (i : Header). i.peer) c.args.headers.now.items _ _ c.index_mut.result.now (ap (λ (i : Header). i.peer) c.index_mut.ensures.value)
