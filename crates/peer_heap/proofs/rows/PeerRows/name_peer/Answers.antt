-- The name is given, or no further handle can be issued, or the name gets one.
use Rattle.std.proofs.Common.{Some, sym, ap, subst, ◌∙◌}
use Rattle.std.specs.Prelude.{slice_set}
use Rattle.joint_machine.specs.declared.events.Reply.TheVariants as says
use Rattle.joint_machine.specs.Heaps.{slot}
use Rattle.joint_machine.specs.Peers.{name_given}
use Rattle.peer_heap.specs.Rows.{Rows, PeersAnswer, peers_in, strength_as}
use Rattle.peer_heap.proofs.Events.{answers-taken, answers-no_handle, answers-named}
use Rattle.std.proofs.lemmas.Result.{IfOk-from_err}
use Rattle.joint_machine.proofs.Results.{at_error}
use Rattle.peer_heap.proofs.Further.{marks-same}
use Rattle.peer_heap.proofs.rows.PeerRows.name_peer.Goals as goal

pub returns-in-Some-clause-answers : goal.returns-in-Some-clause-answers
returns-in-Some-clause-answers c = answers-taken c.args.self.now c.args.g c.args.p.0 c.args.strength (slot c.args.self.now.names c.args.g) _ c.in-Some.ensures

pub returns-then-handles_full-clause-answers : goal.returns-then-handles_full-clause-answers
returns-then-handles_full-clause-answers c = answers-no_handle c.args.self.now c.args.g c.args.p.0 c.args.strength
    (slot c.args.self.now.names c.args.g) c.in-None.ensures (sym c.if-handles_full.ensures)

pub returns-in_ok-h-in-None-clause-answers : goal.returns-in_ok-h-in-None-clause-answers
returns-in_ok-h-in-None-clause-answers c =
    let old = c.args.self.now in
    let o = slot old.names c.args.g in
    subst (λ (z : Rows). PeersAnswer old (name_given (peers_in old) c.args.g c.args.p.0 (strength_as c.args.strength) o)
    (says.H c.in_ok-h-in-None.h) (record z { names = slice_set z.names c.args.g (Some c.in_ok-h-in-None.h.0) }))
    (sym (c.self.view_is ∙ c.in_ok-h-in-None.ensures.issued)) (answers-named old c.args.g c.args.p c.args.strength o c.in_ok-h-in-None.h c.in-None.ensures
    (sym c.if-handles_full.ensures) c.in_ok-h-in-None.ensures.number)

pub returns-in_err-h-in-None-clause-answers : goal.returns-in_err-h-in-None-clause-answers
returns-in_err-h-in-None-clause-answers c = IfOk-from_err c.from_residual.result _ c.from_residual.ensures.0

pub returns-in_err-h-in-None-clause-marks : goal.returns-in_err-h-in-None-clause-marks
returns-in_err-h-in-None-clause-marks c = marks-same c.args.self.now.rows c.issue.new.self.rows (ap (λ (z : Rows). z.rows) c.in_err-h-in-None.ensures.err)

pub returns-in_err-h-in-None-clause-err : goal.returns-in_err-h-in-None-clause-err
returns-in_err-h-in-None-clause-err c = at_error c.from_residual.result c.in_err-h-in-None.ensures.err
