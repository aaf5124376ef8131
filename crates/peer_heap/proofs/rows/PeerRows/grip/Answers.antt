-- The handle is held and strong, and the reply tells of its peer.
use Rattle.std.proofs.Common.{◌≡◌, ◌-◌, false, length, Some, refl, sym, ap, subst, arith}
use Rattle.std.proofs.lemmas.Option.{slice_get_read}
use Rattle.joint_machine.specs.declared.names.PNum.{PNum}
use Rattle.joint_machine.specs.declared.events.Reply.TheVariants as says
use Rattle.joint_machine.specs.Heaps.{slot, fields_of}
use Rattle.joint_machine.specs.Peers.{gripped, handles_full, sort_of}
use Rattle.global_handles.specs.declared.Hold.TheVariants.{Held}
use Rattle.global_handles.specs.declared.Strength.TheVariants.{Strong}
use Rattle.peer_heap.specs.declared.issues.Issue.{Issue}
use Rattle.peer_heap.specs.Rows.{Rows, PeersAnswer, peers_in, rows_with, issued_to}
use Rattle.peer_heap.proofs.Events.{answers-gripped, sort-read}
use Rattle.std.proofs.lemmas.Result.{IfOk-from_err}
use Rattle.joint_machine.proofs.Results.{at_error}
use Rattle.peer_heap.proofs.Further.{marks-same}
use Rattle.peer_heap.proofs.Lengths.{short-byte}
use Rattle.peer_heap.proofs.rows.PeerRows.grip.Goals as goal

pub overflow_cast-fields : goal.overflow_cast-fields
overflow_cast-fields c = record { fits = short-byte c.self.inside.heap.heap c.in-Some.p c.fields_len-fields.result c.fields_len-fields.ensures c.self.invariant.short }

pub returns-in_ok-h-in-Some-clause-answers : goal.returns-in_ok-h-in-Some-clause-answers
returns-in_ok-h-in-Some-clause-answers c =
    let i = c.self.inside in
    let v = c.self.view_is in
    let p : PNum = record { 0 = c.in-Some.p } in
    let live = c.in-Some.ensures.live in
    let there = slice_get_read i.sorts.items (length i.sorts.items) (p.0 - 1) c.index-sort.result.now refl (omega (arith, live.made.0, live.made.1, c.self.invariant.sorted)) c.index-sort.ensures in
    let full : handles_full (peers_in c.args.self.now) ≡ false = sym c.if-handles_full.ensures in
    let new : Issue = record { peer = p; hold = Held; strength = Strong } in
    let issued : c.issue.new.self ≡ issued_to c.args.self.now new = c.in_ok-h-in-Some.ensures.issued in
    let static = subst (λ (z : Rows). slot z.rows.heap.statics c.args.x ≡ Some p.0) v c.in-Some.ensures.value in
    let kind = subst (λ (z : Rows). c.index-sort.result.now ≡ sort_of (peers_in z) p.0) v
    (sort-read (rows_with i.heap i.sorts.items i.names i.issued i.table) p.0 c.index-sort.result.now live.made.0 there) in
    let len = subst (λ (z : Rows). c.fields_len-fields.result ≡ length (fields_of z.rows.heap p.0)) v c.fields_len-fields.ensures in
    let number = c.in_ok-h-in-Some.ensures.number in
    subst (λ (z : Rows). PeersAnswer c.args.self.now (gripped (peers_in c.args.self.now) c.args.x) (says.Gripped p c.in_ok-h-in-Some.h c.index-sort.result.now c.fields_len-fields.result) z)
    (sym issued)
    (answers-gripped c.args.self.now c.args.x p c.in_ok-h-in-Some.h c.index-sort.result.now c.fields_len-fields.result static full number kind len)

pub returns-in_err-h-in-Some-clause-answers : goal.returns-in_err-h-in-Some-clause-answers
returns-in_err-h-in-Some-clause-answers c = IfOk-from_err c.from_residual.result _ c.from_residual.ensures.0

pub returns-in_err-h-in-Some-clause-marks : goal.returns-in_err-h-in-Some-clause-marks
returns-in_err-h-in-Some-clause-marks c = marks-same c.args.self.now.rows c.issue.new.self.rows (ap (λ (z : Rows). z.rows) c.in_err-h-in-Some.ensures.err)

pub returns-in_err-h-in-Some-clause-err : goal.returns-in_err-h-in-Some-clause-err
returns-in_err-h-in-Some-clause-err c = at_error c.from_residual.result c.in_err-h-in-Some.ensures.err

pub returns-in_ok-h-in-Some-clause-marks : goal.returns-in_ok-h-in-Some-clause-marks
returns-in_ok-h-in-Some-clause-marks c = marks-same c.args.self.now.rows c.issue.new.self.rows (ap (λ (z : Rows). z.rows) c.in_ok-h-in-Some.ensures.issued)
