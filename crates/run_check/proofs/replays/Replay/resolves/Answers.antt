use Rattle.std.proofs.Common.{◌≡◌, None, refl, sym, ap, ◌∙◌, subst, true≢false}
use Rattle.joint_machine.specs.declared.events.Op.TheVariants as op
use Rattle.check_laws.specs.Behind.{state_of}
use Rattle.run_check.specs.declared.replays.Replay.{Replay}
use Rattle.run_check.specs.Judging.{AnswersRightly, MayReply}
use Rattle.run_check.proofs.OneReply.{answers_rightly}
use Rattle.run_check.proofs.PastFacts.{driver_made}
use Rattle.run_check.proofs.Resolving.{resolve_answers, resolve_may, resolving}
use Rattle.run_check.proofs.replays.Replay.resolves.Goals as goal

pub resolve-out-requires-clause-close : goal.resolve-out-requires-clause-close
resolve-out-requires-clause-close c =
    let h = c.args.h.now in
    let m = c.args.made.now in
    let old = c.args.self.now in
    let past = c.requires.ready.0 in
    let may = c.requires.ready.1 in
    let shape : m ≡ resolving c.args.cycle m.index m.reply m.cites = driver_made (state_of past) m (op.Resolve c.args.cycle) m.cites c.requires.op (λ d. d) (λ x. refl) may.next.turn may.next.cites in
    resolve_may h past old c.args.cycle m.index m.reply m.cites (subst (λ z. MayReply h past old z) shape may) c.in-Some-Some.open c.in-Some-Some.is-0

pub returns-then-is_same : goal.returns-then-is_same
returns-then-is_same c =
    let h = c.args.h.now in
    let m = c.args.made.now in
    let old = c.args.self.now in
    let may = c.requires.ready.1 in
    let t = c.resolve-out.ensures.resolves in
    let b = c.frees_as_named.result in
    let after : Replay = record old { managed = c.resolve-out.new.self; draw = c.resolve-out.new.draw; cycle = None } in
    let shape : m ≡ resolving c.args.cycle m.index m.reply m.cites = driver_made (state_of c.requires.ready.0) m
    (op.Resolve c.args.cycle) m.cites c.requires.op (λ d. d) (λ x. refl) may.next.turn may.next.cites in
    subst (λ x. AnswersRightly h m old (record old { managed = c.resolve-out.new.self; draw = c.resolve-out.new.draw; cycle = x }) b) (sym c.forget.ensures)
    (subst (λ z. AnswersRightly h z old after b) (sym shape) (answers_rightly h (resolving c.args.cycle m.index m.reply m.cites) old after b refl tt (λ past w.
    resolve_answers h past old c.args.cycle m.index m.reply m.cites w c.in-Some-Some.open c.in-Some-Some.is-0
    c.resolve-out.new.draw c.resolve-out.new.self t.cycle t.opened t.freed c.in-Some-Some.cites c.in-Some-Some.is-1 t.adds
    c.resolve-out.result.freed t.span b (λ q. (c.is_same.ensures.0 c.if-is_same.true, c.frees_as_named.ensures.0 q)) (λ q s. c.frees_as_named.ensures.1 s))))

pub returns-else-is_same : goal.returns-else-is_same
returns-else-is_same c =
    let h = c.args.h.now in
    let m = c.args.made.now in
    let old = c.args.self.now in
    let may = c.requires.ready.1 in
    let t = c.resolve-out.ensures.resolves in
    let b = c.is_same.result in
    let after : Replay = record old { managed = c.resolve-out.new.self; draw = c.resolve-out.new.draw; cycle = None } in
    let shape : m ≡ resolving c.args.cycle m.index m.reply m.cites = driver_made (state_of c.requires.ready.0) m
    (op.Resolve c.args.cycle) m.cites c.requires.op (λ d. d) (λ x. refl) may.next.turn may.next.cites in
    subst (λ x. AnswersRightly h m old (record old { managed = c.resolve-out.new.self; draw = c.resolve-out.new.draw; cycle = x }) b) (sym c.forget.ensures)
    (subst (λ z. AnswersRightly h z old after b) (sym shape) (answers_rightly h (resolving c.args.cycle m.index m.reply m.cites) old after b refl tt (λ past w.
    resolve_answers h past old c.args.cycle m.index m.reply m.cites w c.in-Some-Some.open c.in-Some-Some.is-0
    c.resolve-out.new.draw c.resolve-out.new.self t.cycle t.opened t.freed c.in-Some-Some.cites c.in-Some-Some.is-1 t.adds
    c.resolve-out.result.freed t.span b (λ q. absurd (true≢false (sym q ∙ c.if-is_same.false))) (λ q s. c.is_same.ensures.1 q))))
