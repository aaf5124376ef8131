use Rattle.std.proofs.Common.{◌≡◌, false, true, refl, sym, ap, ◌∙◌, subst, true≢false}
use Rattle.joint_machine.specs.Histories.{managed_numbers, stretch}
use Rattle.joint_laws.specs.Spans.{IsStretch}
use Rattle.run_check.specs.declared.replays.Replay.{Replay}
use Rattle.run_check.specs.Judging.{AnswersRightly}
use Rattle.run_check.proofs.OneReply.{answers_rightly}
use Rattle.run_check.proofs.Stepping.{stepped-no_refusal, took_one}
use Rattle.run_check.proofs.Steps.{notices_few, step_fresh, step_judges, took_within}
use Rattle.run_check.proofs.replays.Replay.steps.Goals as goal

pub step-requires-clause-fresh : goal.step-requires-clause-fresh
step-requires-clause-fresh c = step_fresh c.args.h.now c.requires.ready.0 c.args.made.now c.args.self.now c.requires.ready.1 c.requires.managed c.requires.own c.requires.step

pub returns-then-not-is_same : goal.returns-then-not-is_same
returns-then-not-is_same c =
    let m = c.args.made.now in
    let after : Replay = record c.args.self.now { managed = c.step.new.self; draw = c.step.new.draw } in
    answers_rightly c.args.h.now m c.args.self.now after false c.requires.own (stepped-no_refusal m.op c.requires.step) (λ past w.
    step_judges c.args.h.now past m c.args.self.now w c.requires.managed c.requires.own c.requires.step c.step.new.draw c.step.new.self c.in_ok-reply.reply c.in_ok-reply.ensures.adds false
    (λ q. absurd (true≢false (sym q))) (λ q n. sym c.if-not-is_same.true ∙ c.is_same.ensures.1 q))

pub taken_as_named-requires-clause-within : goal.taken_as_named-requires-clause-within
taken_as_named-requires-clause-within c =
    took_within c.args.h.now c.requires.ready.0 c.args.made.now c.args.self.now c.requires.ready.1 c.requires.managed c.requires.own
    c.requires.step c.step.new.draw c.step.new.self c.in_ok-reply.reply c.in_ok-reply.ensures.adds c.in-Took.span c.in-Took.is

pub taken_as_named-requires-clause-few : goal.taken_as_named-requires-clause-few
taken_as_named-requires-clause-few c =
    notices_few c.args.h.now c.requires.ready.0 c.args.made.now c.args.self.now c.requires.ready.1 c.requires.managed
    c.requires.own c.requires.step c.step.new.draw c.step.new.self c.in_ok-reply.reply c.in_ok-reply.ensures.adds

pub returns-in-Took : goal.returns-in-Took
returns-in-Took c =
    let h = c.args.h.now in
    let m = c.args.made.now in
    let managed = c.step.new.self in
    let after : Replay = record c.args.self.now { managed = managed; draw = c.step.new.draw } in
    answers_rightly h m c.args.self.now after c.taken_as_named.result c.requires.own (stepped-no_refusal m.op c.requires.step) (λ past w.
    step_judges h past m c.args.self.now w c.requires.managed c.requires.own c.requires.step c.step.new.draw managed c.in_ok-reply.reply c.in_ok-reply.ensures.adds c.taken_as_named.result
    (λ q. (
      c.is_same.ensures.0 c.if-not-is_same.false,
      λ sp t. subst (λ z. IsStretch (managed_numbers h.notices) z (stretch managed.state.managed.notices z))
          (took_one c.in_ok-reply.reply c.in-Took.span sp c.in-Took.is t) (c.taken_as_named.ensures.0 q),
    ))
    (λ q n. c.taken_as_named.ensures.1 (n c.in-Took.span c.in-Took.is)))

pub returns-in_default : goal.returns-in_default
returns-in_default c =
    let m = c.args.made.now in
    let after : Replay = record c.args.self.now { managed = c.step.new.self; draw = c.step.new.draw } in
    answers_rightly c.args.h.now m c.args.self.now after true c.requires.own (stepped-no_refusal m.op c.requires.step) (λ past w.
    step_judges c.args.h.now past m c.args.self.now w c.requires.managed c.requires.own c.requires.step c.step.new.draw c.step.new.self c.in_ok-reply.reply c.in_ok-reply.ensures.adds true
    (λ q. (c.is_same.ensures.0 c.if-not-is_same.false, λ sp t. absurd (c.in_default.not-Took sp t))) (λ q n. refl))
