-- All handles are restored, so the references may be cleared, in the open cycle alone.
use Rattle.std.proofs.Common.{refl, sym, subst}
use Rattle.run_check.specs.declared.replays.Replay.{Replay}
use Rattle.run_check.specs.Going.{HasBegun}
use Rattle.run_check.specs.Judging.{AnswersRightly}
use Rattle.run_check.proofs.PeerHandles.{clear-answers, clear-may, clear-targets}
use Rattle.run_check.proofs.replays.Replay.clears.Goals as goal

pub clear-requires-clause-clears : goal.clear-requires-clause-clears
clear-requires-clause-clears c = clear-may c.args.h.now c.args.made.now c.args.self.now c.args.cycle c.requires.op c.in-Some.open c.in-Some.is c.if-open-cycle.false c.requires.ready

pub clear-requires-clause-targets : goal.clear-requires-clause-targets
clear-requires-clause-targets c = clear-targets c.args.h.now c.args.made.now c.args.self.now c.args.cycle c.requires.op c.in-Some.open c.in-Some.is c.if-open-cycle.false c.requires.ready

pub returns : goal.returns
returns c =
    let h = c.args.h.now in
    let m = c.args.made.now in
    let old = c.args.self.now in
    let new : Replay = record old { draw = c.clear.new.draw; peers = c.clear.new.side; cycle = c.begins_again.new.self.cycle } in
    let begun = subst (λ x. HasBegun x c.begins_again.new.self.cycle) c.in-Some.is c.begins_again.ensures.cycle in
    subst (λ z. AnswersRightly h m old z c.is_same.result) (sym c.begins_again.ensures.rest)
    (clear-answers h m old c.args.cycle c.requires.op c.in-Some.open c.in-Some.is c.if-open-cycle.false new begun.0 c.is_same.result c.clear.ensures.adds
    record { managed = refl; readers = refl; turns = refl } begun.1 begun.2 begun.3 c.clear.ensures.reserve c.is_same.ensures)
