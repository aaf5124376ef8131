use Rattle.std.proofs.Common.{◌≡◌, refl, sym, ap, ◌∙◌, subst, true≢false}
use Rattle.run_check.specs.Judging.{GoesOn, TellsRightly}
use Rattle.run_check.proofs.Judged.{count-low, ends-within, goes-on, has-count, is-cited, is-turn, may-reply, reply-fails, snap-fails}
use Rattle.run_check.proofs.Pasts.{known}
use Rattle.run_check.proofs.replays.Replay.judge.Goals as goal

pub returns-then-not-has_turn : goal.returns-then-not-has_turn
returns-then-not-has_turn c = λ past w t.
    let h = c.args.h.now in
    let e = c.args.entry.now in
    let old = c.args.self.now in
    let p = c.part-part.ensures past (known h past w.so_far) w.follows.sides in
    true≢false (sym (c.has_turn.ensures.turn.1 ((is-turn h past e old w c.part-part.result p t.short).1 t)) ∙ c.if-not-has_turn.true)

pub returns-then-not-cites_so : goal.returns-then-not-cites_so
returns-then-not-cites_so c = λ past w.
    let h = c.args.h.now in
    let e = c.args.entry.now in
    let old = c.args.self.now in
    let p = c.part-part.ensures past (known h past w.so_far) w.follows.sides in
    let turn = (is-turn h past e old w c.part-part.result p c.has_turn.ensures.short).0 (c.has_turn.ensures.turn.0 c.if-not-has_turn.false) in
    (turn, λ q. true≢false (sym (c.cites_so.ensures.1 ((is-cited h past e old w c.cites_are_tested.ensures).1 q)) ∙ c.if-not-cites_so.true))

pub returns-then-not-gives : goal.returns-then-not-gives
returns-then-not-gives c = λ past w.
    let h = c.args.h.now in
    let e = c.args.entry.now in
    let old = c.args.self.now in
    let p = c.part-part.ensures past (known h past w.so_far) w.follows.sides in
    let turn = (is-turn h past e old w c.part-part.result p c.has_turn.ensures.short).0 (c.has_turn.ensures.turn.0 c.if-not-has_turn.false) in
    let cites = (is-cited h past e old w c.cites_are_tested.ensures).0 (c.cites_so.ensures.0 c.if-not-cites_so.false) in
    reply-fails h past e old w turn cites (snap-fails h past e old w (λ g. true≢false (sym ((c.gives.ensures past w.follows.callers.owed).1 g) ∙ c.if-not-gives.true)))

pub replies-requires : goal.replies-requires
replies-requires c =
    let past = c.requires.judged.0 in
    let w = c.requires.judged.1 in
    let h = c.args.h.now in
    let e = c.args.entry.now in
    let old = c.args.self.now in
    let p = c.part-part.ensures past (known h past w.so_far) w.follows.sides in
    let turn = (is-turn h past e old w c.part-part.result p c.has_turn.ensures.short).0 (c.has_turn.ensures.turn.0 c.if-not-has_turn.false) in
    let cites = (is-cited h past e old w c.cites_are_tested.ensures).0 (c.cites_so.ensures.0 c.if-not-cites_so.false) in
    let may = may-reply h past e old w turn cites ((c.gives.ensures past w.follows.callers.owed).0 c.if-not-gives.false) in
    record { ready = (past, may) }

pub returns-in-None : goal.returns-in-None
returns-in-None c = λ past w.
    let h = c.args.h.now in
    let e = c.args.entry.now in
    let old = c.args.self.now in
    let p = c.part-part.ensures past (known h past w.so_far) w.follows.sides in
    let turn = (is-turn h past e old w c.part-part.result p c.has_turn.ensures.short).0 (c.has_turn.ensures.turn.0 c.if-not-has_turn.false) in
    let cites = (is-cited h past e old w c.cites_are_tested.ensures).0 (c.cites_so.ensures.0 c.if-not-cites_so.false) in
    let may = may-reply h past e old w turn cites ((c.gives.ensures past w.follows.callers.owed).0 c.if-not-gives.false) in
    reply-fails h past e old w turn cites (subst (TellsRightly h e.made old c.replies.new.self) c.in-None.is c.in_ok-told.ensures past may)

pub notes-requires-clause-stand : goal.notes-requires-clause-stand
notes-requires-clause-stand c =
    let past = c.requires.judged.0 in
    let w = c.requires.judged.1 in
    let h = c.args.h.now in
    let e = c.args.entry.now in
    let old = c.args.self.now in
    let p = c.part-part.ensures past (known h past w.so_far) w.follows.sides in
    let turn = (is-turn h past e old w c.part-part.result p c.has_turn.ensures.short).0 (c.has_turn.ensures.turn.0 c.if-not-has_turn.false) in
    let cites = (is-cited h past e old w c.cites_are_tested.ensures).0 (c.cites_so.ensures.0 c.if-not-cites_so.false) in
    let may = may-reply h past e old w turn cites ((c.gives.ensures past w.follows.callers.owed).0 c.if-not-gives.false) in
    let x = subst (TellsRightly h e.made old c.replies.new.self) c.in-Some.is c.in_ok-told.ensures past may in
    has-count h past e old w c.replies.new.self x.0 c.in-Some.phase turn cites x.1 x.2

pub notes-requires-clause-count : goal.notes-requires-clause-count
notes-requires-clause-count c =
    let past = c.requires.judged.0 in
    let w = c.requires.judged.1 in
    let h = c.args.h.now in
    let e = c.args.entry.now in
    let old = c.args.self.now in
    let p = c.part-part.ensures past (known h past w.so_far) w.follows.sides in
    let turn = (is-turn h past e old w c.part-part.result p c.has_turn.ensures.short).0 (c.has_turn.ensures.turn.0 c.if-not-has_turn.false) in
    let cites = (is-cited h past e old w c.cites_are_tested.ensures).0 (c.cites_so.ensures.0 c.if-not-cites_so.false) in
    let may = may-reply h past e old w turn cites ((c.gives.ensures past w.follows.callers.owed).0 c.if-not-gives.false) in
    let x = subst (TellsRightly h e.made old c.replies.new.self) c.in-Some.is c.in_ok-told.ensures past may in
    count-low h past e old w c.replies.new.self x.0 c.in-Some.phase turn cites x.1 x.2

pub notes-requires-clause-ends : goal.notes-requires-clause-ends
notes-requires-clause-ends c =
    let past = c.requires.judged.0 in
    let w = c.requires.judged.1 in
    let h = c.args.h.now in
    let e = c.args.entry.now in
    let old = c.args.self.now in
    let p = c.part-part.ensures past (known h past w.so_far) w.follows.sides in
    let turn = (is-turn h past e old w c.part-part.result p c.has_turn.ensures.short).0 (c.has_turn.ensures.turn.0 c.if-not-has_turn.false) in
    let cites = (is-cited h past e old w c.cites_are_tested.ensures).0 (c.cites_so.ensures.0 c.if-not-cites_so.false) in
    let may = may-reply h past e old w turn cites ((c.gives.ensures past w.follows.callers.owed).0 c.if-not-gives.false) in
    let x = subst (TellsRightly h e.made old c.replies.new.self) c.in-Some.is c.in_ok-told.ensures past may in
    ends-within h past e old w c.replies.new.self x.0 c.in-Some.phase turn cites x.1 x.2

pub returns-in_ok-notes-in-Some : goal.returns-in_ok-notes-in-Some
returns-in_ok-notes-in-Some c = λ past w.
    let h = c.args.h.now in
    let e = c.args.entry.now in
    let old = c.args.self.now in
    let p = c.part-part.ensures past (known h past w.so_far) w.follows.sides in
    let turn = (is-turn h past e old w c.part-part.result p c.has_turn.ensures.short).0 (c.has_turn.ensures.turn.0 c.if-not-has_turn.false) in
    let cites = (is-cited h past e old w c.cites_are_tested.ensures).0 (c.cites_so.ensures.0 c.if-not-cites_so.false) in
    let may = may-reply h past e old w turn cites ((c.gives.ensures past w.follows.callers.owed).0 c.if-not-gives.false) in
    let x = subst (TellsRightly h e.made old c.replies.new.self) c.in-Some.is c.in_ok-told.ensures past may in
    subst (GoesOn h past e) (sym c.in_ok-notes-in-Some.ensures) (goes-on h past e old w c.replies.new.self x.0 c.in-Some.phase turn cites x.1 x.2)
