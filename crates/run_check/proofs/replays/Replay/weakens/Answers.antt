-- The next candidate's handle may be weakened, and the place goes on.
use Rattle.std.proofs.Common.{refl, sym, subst}
use Rattle.run_check.specs.declared.replays.Replay.{Replay}
use Rattle.run_check.specs.Judging.{AnswersRightly}
use Rattle.run_check.proofs.PeerHandles.{weaken-answers, weaken-may}
use Rattle.run_check.proofs.replays.Replay.weakens.Goals as goal

pub weaken_one-requires-clause-weakens : goal.weaken_one-requires-clause-weakens
weaken_one-requires-clause-weakens c = weaken-may c.args.h.now c.args.made.now c.args.self.now c.args.handle c.requires.op c.requires.ready c.in-Some.cites c.in-Some.is

pub returns : goal.returns
returns c =
    let h = c.args.h.now in
    let m = c.args.made.now in
    let old = c.args.self.now in
    let new : Replay = record old { draw = c.weaken_one.new.draw; peers = c.weaken_one.new.side; cycle = c.goes_on.new.self.cycle } in
    subst (λ z. AnswersRightly h m old z c.is_same.result) (sym c.goes_on.ensures.rest)
    (weaken-answers h m old c.args.handle c.requires.op new c.in-Some.cites c.is_same.result c.in-Some.is c.weaken_one.ensures.adds
    record { managed = refl; readers = refl; turns = refl } c.goes_on.ensures.cycle c.weaken_one.ensures.reserve c.is_same.ensures)
