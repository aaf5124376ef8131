use Rattle.std.proofs.Common.{◌≡◌, ◌++◌, [], ◌∷◌, ◌∙◌, sym, ap, subst, refl, append_assoc, append-nil, length, arith}
use Rattle.std.specs.Vec.Iter.{into_iter_items}
use Rattle.joint_model.specs.Listed.{entry_lists}
use Rattle.joint_history.specs.Callers.{Pass}
use Rattle.joint_history.specs.Ending.{GathersAll, HasIdleDriver, TakesOwn, threads_of}
use Rattle.joint_history.proofs.Ended.{takes_none, takes_then}
use Rattle.joint_history.proofs.Gathering.{gathers_none}
use Rattle.joint_history.proofs.Yielding.{gathers_more, next_is_idle, nothing_left}
use Rattle.joint_history.proofs.gathers.gather.Goals as goal

pub loop-caller-init : goal.loop-caller-init
loop-caller-init g c =
    let gives = c.into_iter-caller-iterator.ensures.into_iter_gives in
    let v = c.args.seat.now.view in
    let lists = entry_lists c.args.lists.now in (
      c.requires.order.1,
      gathers_none v lists,
      refl,
      (let items = ap length gives.0 in let len = gives.1 in omega (arith, items, len)),
      takes_none v,
      c.requires.settled,
    )

pub take_in-requires-clause-idle : goal.take_in-requires-clause-idle
take_in-requires-clause-idle g c = subst HasIdleDriver (sym c.into_pass.ensures)
    (let at = c.loop-caller in
    let steps : into_iter_items at.caller-iterator ≡ c.in-Some.caller ∷ into_iter_items c.next.new.self = c.in-Some.ensures.steps.0 in
    next_is_idle c.args.callers.items at.yielded (into_iter_items c.next.new.self) c.in-Some.caller
    (ap (λ ys. at.yielded ++ ys) (sym steps) ∙ (at.invariant.2 ∙ c.into_iter-caller-iterator.ensures.into_iter_gives.0)) c.requires.idle)

pub loop-caller-preserved : goal.loop-caller-preserved
loop-caller-preserved g c =
    let at = c.loop-caller in
    let p = c.in-Some.caller in
    let first = entry_lists c.args.lists.now in
    let now = entry_lists at.lists in
    let next = entry_lists c.take_in.new.lists in
    let steps : into_iter_items at.caller-iterator ≡ p ∷ into_iter_items c.next.new.self = c.in-Some.ensures.steps.0 in (
      c.take_in.ensures.order,
      gathers_more c.args.seat.now.view at.seat.view c.take_in.new.seat.view first now next at.yielded p at.invariant.1
          (subst (λ (q : Pass). GathersAll at.seat.view c.take_in.new.seat.view now next (q.thread ∷ [])) c.into_pass.ensures c.take_in.ensures.gathers),
      append_assoc at.yielded (p ∷ []) (into_iter_items c.next.new.self) ∙ (ap (λ ys. at.yielded ++ ys) (sym steps) ∙ at.invariant.2),
      let was = at.invariant.3 in
          let gone = c.in-Some.ensures.steps.1 in
          let short = ap length steps in
          omega arith,
      takes_then c.args.seat.now.view at.seat.view c.take_in.new.seat.view at.yielded (p ∷ []) at.invariant.4
          (subst (λ (q : Pass). TakesOwn at.seat.view c.take_in.new.seat.view (q ∷ [])) c.into_pass.ensures c.take_in.ensures.own),
      c.take_in.ensures.settled,
    )

pub returns-clause-gathers : goal.returns-clause-gathers
returns-clause-gathers g c =
    let at = c.loop-caller in
    let empty : into_iter_items at.caller-iterator ≡ [] = nothing_left (into_iter_items at.caller-iterator) (sym at.invariant.3 ∙ c.in-None.ensures.steps.0) in
    let all = sym (append-nil at.yielded) ∙ (ap (λ ys. at.yielded ++ ys) (sym empty) ∙ (at.invariant.2 ∙ c.into_iter-caller-iterator.ensures.into_iter_gives.0)) in
    subst (λ ps. GathersAll c.args.seat.now.view at.seat.view (entry_lists c.args.lists.now) (entry_lists at.lists) (threads_of ps)) all at.invariant.1

pub returns-clause-own : goal.returns-clause-own
returns-clause-own g c =
    let at = c.loop-caller in
    let empty : into_iter_items at.caller-iterator ≡ [] = nothing_left (into_iter_items at.caller-iterator) (sym at.invariant.3 ∙ c.in-None.ensures.steps.0) in
    let all = sym (append-nil at.yielded) ∙ (ap (λ ys. at.yielded ++ ys) (sym empty) ∙ (at.invariant.2 ∙ c.into_iter-caller-iterator.ensures.into_iter_gives.0)) in
    subst (TakesOwn c.args.seat.now.view at.seat.view) all at.invariant.4
