-- The new peer fits, and has its mark.
use Rattle.std.proofs.Common.{Some, refl, sym, ap}
use Rattle.joint_machine.specs.Heaps.{with_var}
use Rattle.peer_heap.specs.Rows.{Rows}
use Rattle.std.proofs.lemmas.Result.{IfOk-from_err}
use Rattle.joint_machine.proofs.Results.{at_error}
use Rattle.peer_heap.proofs.Further.{further-marked, peer-answers, peer-fits}
use Rattle.joint_machine.specs.declared.names.Sort.TheVariants.{Framework}
use Rattle.peer_heap.proofs.rows.PeerRows.make_peer.Goals as goal

pub invariant_of-self-2 : goal.invariant_of-self-2
invariant_of-self-2 c =
    let i = c.self.inside in
    let p = c.in_ok-p.ensures in
    peer-fits i.heap c.add_peer.new.heap c.set_var.new.self (with_var c.add_peer.new.heap.heap c.args.v (Some c.in_ok-p.p.0)) i.sorts.items
    c.add_peer.new.sorts.items Framework i.issued i.table c.args.fields c.ranges.fields.fits p.heap c.set_var.ensures refl p.sorts c.self.invariant

pub returns-clause-answers : goal.returns-clause-answers
returns-clause-answers c =
    let i = c.self.inside in
    let p = c.in_ok-p.ensures in
    peer-answers c.args.self.now i.heap c.add_peer.new.heap c.set_var.new.self i.sorts.items c.add_peer.new.sorts.items i.names i.issued i.table c.in_ok-p.p c.args.v c.args.fields c.self.view_is
    (sym c.if-is_full.ensures) p.number p.heap c.set_var.ensures p.sorts

pub returns-clause-marks : goal.returns-clause-marks
returns-clause-marks c =
    let i = c.self.inside in
    let p = c.in_ok-p.ensures in
    further-marked c.args.self.now i.heap c.add_peer.new.heap c.set_var.new.self (with_var c.add_peer.new.heap.heap c.args.v (Some c.in_ok-p.p.0))
    i.sorts.items i.names i.issued i.table c.in_ok-p.p.0 c.args.fields c.self.view_is p.number c.recall_marks_len.ensures p.heap c.set_var.ensures

pub returns-in_err-p-clause-answers : goal.returns-in_err-p-clause-answers
returns-in_err-p-clause-answers c = IfOk-from_err c.from_residual.result _ c.from_residual.ensures.0

pub returns-in_err-p-clause-marks : goal.returns-in_err-p-clause-marks
returns-in_err-p-clause-marks c = IfOk-from_err c.from_residual.result _ c.from_residual.ensures.0

pub returns-in_err-p-clause-err : goal.returns-in_err-p-clause-err
returns-in_err-p-clause-err c = at_error c.from_residual.result (rw (c.in_err-p.ensures.err.0, c.in_err-p.ensures.err.1) c.self.view_is)

-- where there is no memory, all is as before
pub invariant_of-self : goal.invariant_of-self
invariant_of-self c = rw (c.in_err-p.ensures.err.0, c.in_err-p.ensures.err.1) c.self.invariant

pub returns-in_err-p-clause-tabled : goal.returns-in_err-p-clause-tabled
returns-in_err-p-clause-tabled c = ap (λ (z : Rows). z.tabled) c.self.view_is

pub returns-clause-tabled : goal.returns-clause-tabled
returns-clause-tabled c = ap (λ (z : Rows). z.tabled) c.self.view_is
