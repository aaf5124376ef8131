use Rattle.std.proofs.Common.{◌≡◌, ℕ, suc, [], List, length, Option, Some, None, refl, sym, ap, ◌∙◌, subst, true≢false}
use Rattle.joint_machine.specs.declared.names.MNum.{MNum}
use Rattle.joint_machine.specs.declared.events.Op.TheVariants as op
use Rattle.known_laws.specs.Known.{PinsStand}
use Rattle.check_laws.specs.Behind.{state_of}
use Rattle.managed_heap.specs.Pinned.{pins_given}
use Rattle.managed_heap.specs.Sides.{as_side}
use Rattle.run_check.specs.declared.cycles.OpenCycle.{OpenCycle as Kept}
use Rattle.run_check.specs.declared.draws.Recorder.{Recorder}
use Rattle.run_check.specs.declared.replays.Replay.{Replay}
use Rattle.run_check.specs.Follows.{shown_pins}
use Rattle.run_check.specs.Judging.{AnswersRightly, MayReply}
use Rattle.run_check.proofs.Drawing.{counted}
use Rattle.run_check.proofs.OneReply.{answers_rightly}
use Rattle.run_check.proofs.Opening.{IsJustOpened, snap_answers, snap_stands_so, snapping}
use Rattle.run_check.proofs.PastFacts.{driver_made}
use Rattle.run_check.proofs.replays.Replay.snaps.Goals as goal

pub snap-requires-clause-stand : goal.snap-requires-clause-stand
snap-requires-clause-stand c = λ pins g closes.
    let h = c.args.h.now in
    let m = c.args.made.now in
    let old = c.args.self.now in
    let past = c.requires.ready.0 in
    let may = c.requires.ready.1 in
    let shape : m ≡ snapping c.args.cycle m.index m.reply = driver_made (state_of past) m (op.Snap c.args.cycle) None c.requires.op (λ d. d) (λ x. x) may.next.turn may.next.cites in
    let given : pins_given pins ≡ shown_pins old.readers.pins = ap pins_given (closes.0 ∙ (ap (λ (r : Recorder). r.pins.at) c.give.ensures ∙ c.pins-pins.ensures)) in
    subst (PinsStand old.managed.state.managed) (sym given) (snap_stands_so h past old c.args.cycle m.index m.reply (subst (λ z. MayReply h past old z) shape may))

pub returns-then-is_same : goal.returns-then-is_same
returns-then-is_same c =
    let h = c.args.h.now in
    let m = c.args.made.now in
    let old = c.args.self.now in
    let may = c.requires.ready.1 in
    let t = c.in-Ok.ensures.snaps in
    let w = t.opens in
    let o : Kept = c.in_ok-open.open in
    let n = c.in_ok-open.ensures in
    let b = c.frees_as_named.result in
    let draw = c.snap.new.gate in
    let managed = c.snap.new.self in
    let given : pins_given t.pins ≡ shown_pins old.readers.pins = ap pins_given (t.closes.0 ∙ (ap (λ (r : Recorder). r.pins.at) c.give.ensures ∙ c.pins-pins.ensures)) in
    let after : Replay = record old { managed = managed; draw = draw; readers = record old.readers { owed = None }; cycle = Some o } in
    let opened : IsJustOpened o c.args.cycle (length w.candidates) c.in-Ok.opened.graph =
    record { cycle = n.cycle; candidates = n.candidates ∙ w.counted; graph = n.graph; part = n.part; alive = n.alive ∙ ap (λ (z : ℕ). record { values = []; room = z }) w.counted; first = n.first } in
    let shape : m ≡ snapping c.args.cycle m.index m.reply = driver_made (state_of c.requires.ready.0) m (op.Snap c.args.cycle) None c.requires.op (λ d. d) (λ x. x) may.next.turn may.next.cites in
    subst (λ x. AnswersRightly h m old (record old { managed = managed; draw = draw; readers = c.snapped.new.self; cycle = x }) b) (sym c.keep.ensures)
    (subst (λ x. AnswersRightly h m old (record old { managed = managed; draw = draw; readers = x; cycle = Some o }) b) (sym c.snapped.ensures)
    (subst (λ z. AnswersRightly h z old after b) (sym shape) (answers_rightly h (snapping c.args.cycle m.index m.reply) old after b refl tt (λ past v.
    let first : t.gate.counter ≡ length past = ap (λ (r : Recorder). r.counter) (t.closes.1 ∙ c.give.ensures) ∙ v.sides.drawn in
    snap_answers h past old c.args.cycle m.index m.reply v (c.is_next.ensures.0 c.if-not-is_next.false) draw managed (pins_given t.pins) w.freed w.candidates w.dead w.adds.threads w.adds.draws.below
    (counted past t.gate draw (as_side old.managed) (as_side managed) _ _ first w.adds) given w.adds.goes
    c.in-Ok.opened.graph w.graph o opened c.in-Ok.opened.candidates w.counted c.in-Ok.opened.freed w.span b
    (λ q. (c.is_same.ensures.0 c.if-is_same.true, c.frees_as_named.ensures.0 q)) (λ q s. c.frees_as_named.ensures.1 s)))))

pub returns-else-is_same : goal.returns-else-is_same
returns-else-is_same c =
    let h = c.args.h.now in
    let m = c.args.made.now in
    let old = c.args.self.now in
    let may = c.requires.ready.1 in
    let t = c.in-Ok.ensures.snaps in
    let w = t.opens in
    let o : Kept = c.in_ok-open.open in
    let n = c.in_ok-open.ensures in
    let b = c.is_same.result in
    let draw = c.snap.new.gate in
    let managed = c.snap.new.self in
    let given : pins_given t.pins ≡ shown_pins old.readers.pins = ap pins_given (t.closes.0 ∙ (ap (λ (r : Recorder). r.pins.at) c.give.ensures ∙ c.pins-pins.ensures)) in
    let after : Replay = record old { managed = managed; draw = draw; readers = record old.readers { owed = None }; cycle = Some o } in
    let opened : IsJustOpened o c.args.cycle (length w.candidates) c.in-Ok.opened.graph =
    record { cycle = n.cycle; candidates = n.candidates ∙ w.counted; graph = n.graph; part = n.part; alive = n.alive ∙ ap (λ (z : ℕ). record { values = []; room = z }) w.counted; first = n.first } in
    let shape : m ≡ snapping c.args.cycle m.index m.reply = driver_made (state_of c.requires.ready.0) m (op.Snap c.args.cycle) None c.requires.op (λ d. d) (λ x. x) may.next.turn may.next.cites in
    subst (λ x. AnswersRightly h m old (record old { managed = managed; draw = draw; readers = c.snapped.new.self; cycle = x }) b) (sym c.keep.ensures)
    (subst (λ x. AnswersRightly h m old (record old { managed = managed; draw = draw; readers = x; cycle = Some o }) b) (sym c.snapped.ensures)
    (subst (λ z. AnswersRightly h z old after b) (sym shape) (answers_rightly h (snapping c.args.cycle m.index m.reply) old after b refl tt (λ past v.
    let first : t.gate.counter ≡ length past = ap (λ (r : Recorder). r.counter) (t.closes.1 ∙ c.give.ensures) ∙ v.sides.drawn in
    snap_answers h past old c.args.cycle m.index m.reply v (c.is_next.ensures.0 c.if-not-is_next.false) draw managed (pins_given t.pins) w.freed w.candidates w.dead w.adds.threads w.adds.draws.below
    (counted past t.gate draw (as_side old.managed) (as_side managed) _ _ first w.adds) given w.adds.goes
    c.in-Ok.opened.graph w.graph o opened c.in-Ok.opened.candidates w.counted c.in-Ok.opened.freed w.span b
    (λ q. absurd (true≢false (sym q ∙ c.if-is_same.false))) (λ q s. c.is_same.ensures.1 q)))))
