-- The peer comes with its sort, and the handle comes last, among those issued and in the table.
use Rattle.std.proofs.Common.{refl, sym, ap}
use Rattle.global_handles.specs.declared.Hold.TheVariants.{Held}
use Rattle.global_handles.specs.declared.Strength.TheVariants.{Strong}
use Rattle.global_handles.specs.Rows.{Table}
use Rattle.std.proofs.lemmas.Result.{IfOk-from_err}
use Rattle.joint_machine.proofs.Results.{at_error}
use Rattle.peer_heap.proofs.Further.{IsIssued, issued-reserved, further-marked, pair-answers, pair-fits, ready-fits, tabled-more, tabled-still}
use Rattle.peer_heap.proofs.rows.PeerRows.make_pair.Goals as goal

-- the handle came last
issued : (c : goal.After-issue_reserved-h) → IsIssued c.self.inside.issued c.issue_reserved-h.new.issued c.self.inside.table c.issue_reserved-h.new.table
    record { peer = c.in_ok-p.p; hold = Held; strength = Strong } c.issue_reserved-h.result
issued c =
    let i = c.self.inside in
    let w = c.issue_reserved-h.ensures in
    issued-reserved i.issued i.issued c.issue_reserved-h.new.issued i.table c.reserve.new.self c.issue_reserved-h.new.table _ c.issue_reserved-h.result refl c.in_ok-reserve.ensures.ok
    (record { number = w.number; rows = w.rows; made = w.made; last = w.last; rising = w.rising; more = w.issued })

pub invariant_of-self-2 : goal.invariant_of-self-2
invariant_of-self-2 c =
    let i = c.self.inside in
    let p = c.in_ok-p.ensures in
    pair-fits i.heap c.add_peer.new.heap i.sorts.items c.add_peer.new.sorts.items c.args.sort i.issued c.issue_reserved-h.new.issued i.table
    c.issue_reserved-h.new.table _ c.issue_reserved-h.result c.args.fields c.ranges.fields.fits p.heap p.sorts (issued c) c.self.invariant

pub returns-clause-answers : goal.returns-clause-answers
returns-clause-answers c =
    let i = c.self.inside in
    let p = c.in_ok-p.ensures in
    pair-answers c.args.self.now i.heap c.add_peer.new.heap i.sorts.items c.add_peer.new.sorts.items c.args.sort i.names i.issued
    c.issue_reserved-h.new.issued i.table c.issue_reserved-h.new.table c.in_ok-p.p c.issue_reserved-h.result c.args.fields
    c.self.view_is (sym c.if-pairs_full.ensures.full) p.number p.heap p.sorts (issued c) c.self.invariant

pub returns-clause-marks : goal.returns-clause-marks
returns-clause-marks c =
    let i = c.self.inside in
    let p = c.in_ok-p.ensures in
    further-marked c.args.self.now i.heap c.add_peer.new.heap c.add_peer.new.heap c.add_peer.new.heap.heap i.sorts.items
    i.names i.issued i.table c.in_ok-p.p.0 c.args.fields c.self.view_is p.number c.recall_marks_len.ensures p.heap refl

pub returns-in_err-reserve-clause-answers : goal.returns-in_err-reserve-clause-answers
returns-in_err-reserve-clause-answers c = IfOk-from_err c.from_residual.result _ c.from_residual.ensures.0

pub returns-in_err-reserve-clause-marks : goal.returns-in_err-reserve-clause-marks
returns-in_err-reserve-clause-marks c = IfOk-from_err c.from_residual.result _ c.from_residual.ensures.0

pub returns-in_err-p-clause-answers : goal.returns-in_err-p-clause-answers
returns-in_err-p-clause-answers c = IfOk-from_err c.from_residual-in_err-p.result _ c.from_residual-in_err-p.ensures.0

pub returns-in_err-p-clause-marks : goal.returns-in_err-p-clause-marks
returns-in_err-p-clause-marks c = IfOk-from_err c.from_residual-in_err-p.result _ c.from_residual-in_err-p.ensures.0

-- where there is no memory, room alone was taken
pub invariant_of-self : goal.invariant_of-self
invariant_of-self c = rw c.in_err-reserve.ensures.err c.self.invariant

pub returns-in_err-reserve-clause-tabled : goal.returns-in_err-reserve-clause-tabled
returns-in_err-reserve-clause-tabled c =
    let i = c.self.inside in
    tabled-still c.args.self.now i.heap i.sorts.items i.names i.issued i.table c.reserve.new.self c.self.view_is (ap (λ (t : Table). t.rows) c.in_err-reserve.ensures.err)

pub returns-in_err-reserve-clause-err : goal.returns-in_err-reserve-clause-err
returns-in_err-reserve-clause-err c = at_error c.from_residual.result (rw c.in_err-reserve.ensures.err c.self.view_is)

pub invariant_of-self-in_err-p : goal.invariant_of-self-in_err-p
invariant_of-self-in_err-p c =
    let i = c.self.inside in
    rw (c.in_err-p.ensures.err.0, c.in_err-p.ensures.err.1, c.in_ok-reserve.ensures.ok) (ready-fits i.heap i.sorts.items i.issued i.table c.self.invariant)

pub returns-in_err-p-clause-tabled : goal.returns-in_err-p-clause-tabled
returns-in_err-p-clause-tabled c =
    let i = c.self.inside in
    tabled-still c.args.self.now i.heap i.sorts.items i.names i.issued i.table c.reserve.new.self c.self.view_is (ap (λ (t : Table). t.rows) c.in_ok-reserve.ensures.ok)

pub returns-in_err-p-clause-err : goal.returns-in_err-p-clause-err
returns-in_err-p-clause-err c =
    at_error c.from_residual-in_err-p.result (rw (c.in_err-p.ensures.err.0, c.in_err-p.ensures.err.1, c.in_ok-reserve.ensures.ok) c.self.view_is)

pub returns-clause-tabled : goal.returns-clause-tabled
returns-clause-tabled c =
    let i = c.self.inside in
    tabled-more c.args.self.now i.heap i.sorts.items i.names i.issued c.issue_reserved-h.new.issued i.table c.issue_reserved-h.new.table _ c.issue_reserved-h.result c.self.view_is (issued c)
