-- Each event by the call that makes it; but for a slice and a sweep nothing is told.
use Rattle.std.proofs.Common.{◌≡◌, None, sym, ◌∙◌, subst, rules}
use Rattle.std.specs.Prelude.{IfOk, IsOk}
use Rattle.std.proofs.lemmas.Result.{IfOk-weaker}
use Rattle.joint_machine.specs.declared.lines.Act.TheVariants as act
use Rattle.joint_machine.specs.declared.events.Op.{Op}
use Rattle.joint_machine.specs.declared.events.Op.TheVariants as op
use Rattle.joint_machine.specs.Draws.{numbered}
use Rattle.joint_machine.specs.Told.{nothing}
use Rattle.peer_heap.specs.Sides.{seen}
use Rattle.peer_heap.specs.Steps.{IsRelease}
use Rattle.joint_history.specs.Locked.{made_by}
use Rattle.joint_history.specs.PeerCalls.{AllowsCall, DrawsEvent, IsPeerCall}
use Rattle.seat_calls.specs.Passing.{MayAppend}
use Rattle.joint_history.proofs.PeerCalls.{else_allows, else_step, mark_bare, mark_thread, no_release, slice_is}
use Rattle.joint_history.proofs.Running.{none_from}
use Rattle.joint_history.proofs.peer.PeerEventStep.draw.Goals as goal

pub slice_by-requires-clause-thread : goal.slice_by-requires-clause-thread
slice_by-requires-clause-thread c = (subst (λ (q : Op). IsPeerCall c.args.self.caller q) (slice_is c.args.self.op.now c.in-Some.n (sym c.slice_count.ensures ∙ c.in-Some.is)) c.requires.asks.0).0

pub slice_by-requires-clause-count : goal.slice_by-requires-clause-count
slice_by-requires-clause-count c = (subst (λ (q : Op). IsPeerCall c.args.self.caller q) (slice_is c.args.self.op.now c.in-Some.n (sym c.slice_count.ensures ∙ c.in-Some.is)) c.requires.asks.0).1

pub slice_by-requires-clause-may : goal.slice_by-requires-clause-may
slice_by-requires-clause-may c = subst (λ (q : Op). MayAppend c.args.order.now c.args.seat.now 1 c.args.self.caller q None)
    (slice_is c.args.self.op.now c.in-Some.n (sym c.slice_count.ensures ∙ c.in-Some.is)) c.requires.asks.3

pub returns-in-Some-clause-drew : goal.returns-in-Some-clause-drew
returns-in-Some-clause-drew c =
    let is : c.args.self.op.now ≡ op.Line (act.Slice c.in-Some.n) = slice_is c.args.self.op.now c.in-Some.n (sym c.slice_count.ensures ∙ c.in-Some.is) in
    let none : c.args.self.cites ≡ None = subst (λ (q : Op). AllowsCall c.args.side.now.state c.args.self.caller q c.args.self.cites) is c.requires.asks.1 in
    let d : IfOk c.slice_by.result (λ r. DrawsEvent c.args.order.now c.args.seat.now c.slice_by.new.seat (seen c.args.side.now)
    (seen c.slice_by.new.side) (numbered r.0 (made_by c.args.self.caller c.args.self.index c.args.self.op.now r.1 c.args.self.cites))) = rw (is, none) c.slice_by.ensures.drew in
    let free : IsRelease c.args.self.op.now → IsOk c.slice_by.result = λ r. absurd (subst IsRelease is r) in
    search rules

pub mark_by-requires-clause-thread : goal.mark_by-requires-clause-thread
mark_by-requires-clause-thread c = mark_thread c.args.self.caller c.args.self.op.now c.if-is_mark.ensures c.requires.asks.0

pub mark_by-requires-clause-mark : goal.mark_by-requires-clause-mark
mark_by-requires-clause-mark c = c.if-is_mark.ensures

pub returns-then-is_mark-clause-drew : goal.returns-then-is_mark-clause-drew
returns-then-is_mark-clause-drew c =
    let none : c.args.self.cites ≡ None = mark_bare c.args.side.now.state c.args.self.caller c.args.self.op.now c.args.self.cites c.if-is_mark.ensures c.requires.asks.1 in
    let d : IfOk c.mark_by.result (λ r. DrawsEvent c.args.order.now c.args.seat.now c.mark_by.new.seat (seen c.args.side.now)
    (seen c.mark_by.new.side) (numbered r.0 (made_by c.args.self.caller c.args.self.index c.args.self.op.now r.1 c.args.self.cites))) = rw none c.mark_by.ensures.drew in
    let free : IsRelease c.args.self.op.now → IsOk c.mark_by.result = λ r. absurd (no_release c.args.self.op.now c.if-is_mark.ensures r) in
    search rules

pub draw_step-requires-clause-step : goal.draw_step-requires-clause-step
draw_step-requires-clause-step c = else_step c.args.self.caller c.args.self.op.now
    (sym c.slice_count.ensures ∙ none_from c.slice_count.result c.in_default.not-Some) c.if-is_mark.ensures c.requires.asks.0

pub draw_step-requires-clause-allowed : goal.draw_step-requires-clause-allowed
draw_step-requires-clause-allowed c = else_allows c.args.side.now.state c.args.self.caller c.args.self.op.now c.args.self.cites
    (sym c.slice_count.ensures ∙ none_from c.slice_count.result c.in_default.not-Some) c.if-is_mark.ensures c.requires.asks.1

pub returns-clause-drew : goal.returns-clause-drew
returns-clause-drew c = (
  c.draw_step.ensures.threads,
  c.draw_step.ensures.reserve,
  IfOk-weaker c.draw_step.result _ _ (λ r d. record { told = nothing; drew = d }) c.draw_step.ensures.drew,
  c.draw_step.ensures.err,
  c.draw_step.ensures.release,
)
