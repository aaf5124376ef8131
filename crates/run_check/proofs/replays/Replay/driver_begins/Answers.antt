-- The driver's begin gives a number, and the place is the first again.
use Rattle.std.proofs.Common.{refl, sym, subst, ap, ◌∙◌}
use Rattle.peer_heap.specs.Sides.{Reserve, is_own}
use Rattle.run_check.specs.declared.replays.Replay.{Replay}
use Rattle.run_check.specs.Judging.{AnswersRightly}
use Rattle.run_check.proofs.PeerMarks.{begin-answers, begun-waits}
use Rattle.run_check.proofs.replays.Replay.driver_begins.Goals as goal

pub returns : goal.returns
returns c =
    let h = c.args.h.now in
    let m = c.args.made.now in
    let old = c.args.self.now in
    let new : Replay = record old { draw = c.mark_begin.new.draw; peers = c.mark_begin.new.self; cycle = c.begins_again.new.self.cycle } in
    subst (λ z. AnswersRightly h m old z c.is_same.result) (sym c.begins_again.ensures.rest)
    (begin-answers h m old c.requires.op c.requires.driver new c.in-Ok.marking c.is_same.result c.in-Ok.ensures.begun
    record { managed = refl; readers = refl; turns = refl } c.begins_again.ensures.cycle
    (ap (λ (r : Reserve). r.waiting) c.in-Ok.ensures.reserve ∙ begun-waits (is_own m.caller old.peers.reserve.marking) old.peers.reserve) c.is_same.ensures)
