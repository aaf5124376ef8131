-- The next candidate's handle may be restored, there is room for its answer, and the place goes on.
use Rattle.std.proofs.Common.{◌≡◌, refl, sym, subst}
use Rattle.std.specs.Prelude.{◌↔◌, IsTrue}
use Rattle.joint_machine.specs.Sides.{AddsLawful, peer_rules}
use Rattle.joint_machine.specs.Told.{nothing}
use Rattle.peer_heap.specs.Cycles.{restores}
use Rattle.peer_heap.specs.Sides.{seen}
use Rattle.run_check.specs.declared.replays.Replay.{Replay}
use Rattle.run_check.specs.Judging.{AnswersRightly}
use Rattle.run_check.proofs.Drawing.{drawing}
use Rattle.run_check.proofs.PeerHandles.{restore-answers, restore-may, restore-room}
use Rattle.run_check.proofs.replays.Replay.restores.Goals as goal

pub restore_one-back-requires-clause-restores : goal.restore_one-back-requires-clause-restores
restore_one-back-requires-clause-restores c = restore-may c.args.h.now c.args.made.now c.args.self.now c.args.handle c.requires.op c.requires.ready

pub answers-requires : goal.answers-requires
answers-requires c = record { room = restore-room c.args.h.now c.args.made.now c.args.self.now c.args.handle c.requires.op c.requires.ready }

pub returns : goal.returns
returns c =
    let h = c.args.h.now in
    let m = c.args.made.now in
    let old = c.args.self.now in
    let new : Replay = record old { draw = c.restore_one-back.new.draw; peers = c.restore_one-back.new.side; cycle = c.answers.new.self.cycle } in
    subst (λ z. AnswersRightly h m old z c.is_same.result) (sym c.answers.ensures.rest)
    (restore-answers h m old c.args.handle c.requires.op new c.given-given.result c.is_same.result
    (subst (λ b. AddsLawful peer_rules drawing old.draw c.restore_one-back.new.draw (seen old.peers) (seen c.restore_one-back.new.side) (restores m.index c.args.handle b) nothing)
    (sym c.given-given.ensures) c.restore_one-back.ensures.adds)
    record { managed = refl; readers = refl; turns = refl } c.answers.ensures.cycle c.restore_one-back.ensures.reserve
    (subst (λ r. IsTrue c.is_same.result ↔ (m.reply ≡ r)) c.restored.ensures c.is_same.ensures))
