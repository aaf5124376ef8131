use Rattle.std.proofs.Common.{◌≡◌, ◌++◌, [], ◌∷◌, Some, Option, ◌∙◌, sym, ap, subst, refl, append_assoc, append-nil, length, arith}
use Rattle.std.specs.Vec.Iter.{into_iter_items}
use Rattle.joint_model.specs.Listed.{entry_lists}
use Rattle.joint_history.specs.Callers.{Pass}
use Rattle.joint_history.specs.Desks.{present}
use Rattle.joint_history.specs.Ending.{GathersAll, TakesOwn, threads_of}
use Rattle.joint_history.proofs.Ended.{takes_none}
use Rattle.joint_history.proofs.Gathering.{gathers_none}
use Rattle.joint_history.proofs.Yielding.{gathers_nobody, gathers_waiting, next_waiting_is_idle, nothing_left, takes_nobody, takes_waiting}
use Rattle.joint_history.proofs.gathers.gather_waiting.Goals as goal

pub loop-waiting-init : goal.loop-waiting-init
loop-waiting-init g c =
    let gives = c.into_iter-waiting-iterator.ensures.into_iter_gives in
    let v = c.args.seat.now.view in
    let lists = entry_lists c.args.lists.now in (
      c.requires.order.1,
      gathers_none v lists,
      refl,
      (let items = ap length gives.0 in let len = gives.1 in omega (arith, items, len)),
      takes_none v,
      c.requires.settled,
    )

pub take_in-requires-clause-idle : goal.take_in-requires-clause-idle
take_in-requires-clause-idle g c =
    let at = c.loop-waiting in
    let steps : into_iter_items at.waiting-iterator ≡ Some c.in-Some-waiting.pass ∷ into_iter_items c.next.new.self = c.in-Some.ensures.steps.0
    ∙ ap (λ o. o ∷ into_iter_items c.next.new.self) c.in-Some-waiting.is in
    next_waiting_is_idle c.args.callers.items at.yielded (into_iter_items c.next.new.self) c.in-Some-waiting.pass
    (ap (λ ys. at.yielded ++ ys) (sym steps) ∙ (at.invariant.2 ∙ c.into_iter-waiting-iterator.ensures.into_iter_gives.0)) c.requires.waits

pub loop-waiting-preserved-in-Some-waiting : goal.loop-waiting-preserved-in-Some-waiting
loop-waiting-preserved-in-Some-waiting g c =
    let at = c.loop-waiting in
    let o = c.in-Some.waiting in
    let p = c.in-Some-waiting.pass in
    let first = entry_lists c.args.lists.now in
    let now = entry_lists at.lists in
    let next = entry_lists c.take_in.new.lists in
    let steps : into_iter_items at.waiting-iterator ≡ o ∷ into_iter_items c.next.new.self = c.in-Some.ensures.steps.0 in (
      c.take_in.ensures.order,
      subst (λ (q : Option Pass). GathersAll c.args.seat.now.view c.take_in.new.seat.view first next (threads_of (present (at.yielded ++ q ∷ [])))) (sym c.in-Some-waiting.is)
          (gathers_waiting c.args.seat.now.view at.seat.view c.take_in.new.seat.view first now next at.yielded p at.invariant.1 c.take_in.ensures.gathers),
      append_assoc at.yielded (o ∷ []) (into_iter_items c.next.new.self) ∙ (ap (λ ys. at.yielded ++ ys) (sym steps) ∙ at.invariant.2),
      let was = at.invariant.3 in
          let gone = c.in-Some.ensures.steps.1 in
          let short = ap length steps in
          omega arith,
      subst (λ (q : Option Pass). TakesOwn c.args.seat.now.view c.take_in.new.seat.view (present (at.yielded ++ q ∷ []))) (sym c.in-Some-waiting.is)
          (takes_waiting c.args.seat.now.view at.seat.view c.take_in.new.seat.view at.yielded p at.invariant.4 c.take_in.ensures.own),
      c.take_in.ensures.settled,
    )

pub loop-waiting-preserved : goal.loop-waiting-preserved
loop-waiting-preserved g c =
    let at = c.loop-waiting in
    let o = c.in-Some.waiting in
    let steps : into_iter_items at.waiting-iterator ≡ o ∷ into_iter_items c.next.new.self = c.in-Some.ensures.steps.0 in (
      at.invariant.0,
      subst (λ (q : Option Pass). GathersAll c.args.seat.now.view at.seat.view (entry_lists c.args.lists.now) (entry_lists at.lists) (threads_of (present (at.yielded ++ q ∷ []))))
          (sym c.in_default.is)
          (gathers_nobody c.args.seat.now.view at.seat.view (entry_lists c.args.lists.now) (entry_lists at.lists) at.yielded at.invariant.1),
      append_assoc at.yielded (o ∷ []) (into_iter_items c.next.new.self) ∙ (ap (λ ys. at.yielded ++ ys) (sym steps) ∙ at.invariant.2),
      let was = at.invariant.3 in
          let gone = c.in-Some.ensures.steps.1 in
          let short = ap length steps in
          omega arith,
      subst (λ (q : Option Pass). TakesOwn c.args.seat.now.view at.seat.view (present (at.yielded ++ q ∷ [])))
          (sym c.in_default.is) (takes_nobody c.args.seat.now.view at.seat.view at.yielded at.invariant.4),
      at.invariant.5,
    )

pub returns-clause-gathers : goal.returns-clause-gathers
returns-clause-gathers g c =
    let at = c.loop-waiting in
    let empty : into_iter_items at.waiting-iterator ≡ [] = nothing_left (into_iter_items at.waiting-iterator) (sym at.invariant.3 ∙ c.in-None.ensures.steps.0) in
    let all = sym (append-nil at.yielded) ∙ (ap (λ ys. at.yielded ++ ys) (sym empty) ∙ (at.invariant.2 ∙ c.into_iter-waiting-iterator.ensures.into_iter_gives.0)) in
    subst (λ ps. GathersAll c.args.seat.now.view at.seat.view (entry_lists c.args.lists.now) (entry_lists at.lists) (threads_of (present ps))) all at.invariant.1

pub returns-clause-own : goal.returns-clause-own
returns-clause-own g c =
    let at = c.loop-waiting in
    let empty : into_iter_items at.waiting-iterator ≡ [] = nothing_left (into_iter_items at.waiting-iterator) (sym at.invariant.3 ∙ c.in-None.ensures.steps.0) in
    let all = sym (append-nil at.yielded) ∙ (ap (λ ys. at.yielded ++ ys) (sym empty) ∙ (at.invariant.2 ∙ c.into_iter-waiting-iterator.ensures.into_iter_gives.0)) in
    subst (λ ps. TakesOwn c.args.seat.now.view at.seat.view (present ps)) all at.invariant.4
