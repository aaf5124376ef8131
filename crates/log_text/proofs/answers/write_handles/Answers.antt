use Rattle.std.proofs.Common.{◌≡◌, [], drop, get_or, refl, arith, add-one, length-drop}
use Rattle.std.proofs.Math.Seq.{drop-cons}
use Rattle.std.proofs.lemmas.List.{nil_from_length}
use Rattle.joint_machine.specs.declared.names.HNum.{HNum}
use Rattle.byte_streams.proofs.Passing.{passed_on}
use Rattle.log_text.specs.Answers.{handle_text, pieces}
use Rattle.log_text.proofs.Pieces.{all-sent, none-sent, not-sent, one-more}
use Rattle.log_text.proofs.answers.write_handles.Goals as goal

nothing : HNum
nothing = record { 0 = 0 }

pub loop-h-init : goal.loop-h-init
loop-h-init g c = record { sent = none-sent handle_text c.args.handles.now (g.K.Sink.held c.args.out.now) c.args.line.now.text; later = omega arith }

pub returns-in_err-write_handle : goal.returns-in_err-write_handle
unfolding nothing
returns-in_err-write_handle g c =
    let i = c.loop-h.h-index in
    let hs = c.args.handles.now in
    let sent = rw (drop-cons hs i nothing c.loop-h-test.true) at c.loop-h.invariant.sent in
    rw (passed_on c.from_residual.result c.in_err-write_handle.field-0.0 c.from_residual.ensures.0 c.from_residual.ensures.1)
    (not-sent handle_text hs (get_or hs i nothing) _ (g.K.Sink.held c.args.out.now) (g.K.Sink.held c.loop-h.out)
    (g.K.Sink.held c.write_handle.new.out) c.args.line.now.text c.loop-h.line.text c.write_handle.new.line.text
    (g.K.Sink.faults c.args.out.now) (g.K.Sink.faults c.loop-h.out) (g.K.Sink.faults c.write_handle.new.out) c.in_err-write_handle.field-0.0
    (pieces handle_text hs) refl sent c.loop-h.invariant.later c.in_err-write_handle.ensures)

pub loop-h-preserved : goal.loop-h-preserved
unfolding nothing
loop-h-preserved g c =
    let i = c.loop-h.h-index in
    let hs = c.args.handles.now in
    let sent = rw (drop-cons hs i nothing c.loop-h-test.true) at c.loop-h.invariant.sent in
    let w = c.in_ok-write_handle.ensures in
    record {
      sent = rw add-one (one-more handle_text hs (get_or hs i nothing) _ (g.K.Sink.held c.args.out.now) (g.K.Sink.held c.loop-h.out)
          (g.K.Sink.held c.write_handle.new.out) c.args.line.now.text c.loop-h.line.text c.write_handle.new.line.text sent w.whole);
      later = omega (arith, w.cause.later);
    }

pub returns : goal.returns
returns g c =
    let hs = c.args.handles.now in
    let none : drop c.loop-h.h-index hs ≡ [] = nil_from_length _ (omega (arith, length-drop c.loop-h.h-index hs)) in
    let sent = rw none at c.loop-h.invariant.sent in
    record {
      whole = all-sent handle_text hs (g.K.Sink.held c.args.out.now) (g.K.Sink.held c.loop-h.out) c.args.line.now.text c.loop-h.line.text (pieces handle_text hs) refl sent;
      part = tt;
      cause = record { later = c.loop-h.invariant.later; failed = tt };
    }
