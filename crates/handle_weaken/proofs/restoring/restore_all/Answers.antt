-- Each bridge node's handle may be restored when its turn comes.
use Rattle.std.proofs.Common.{◌≡◌, None, ◌∙◌, arith}
use Rattle.bridge_graph.specs.Parts.{HasNode}
use Rattle.bridge_graph.proofs.Handles.{handles-some, handles-none}
use Rattle.handle_weaken.proofs.Restored.{IsRestoring-node, IsRestoring-passed, answers-room, next-may, next-restores}
use Rattle.handle_weaken.proofs.restoring.restore_all.Goals as goal
use Rattle.handle_weaken.proofs.restoring.restore_all.Goals.{in-Some, in_default}

pub restore_one-back-requires-clause-restores : goal.restore_one-back-requires-clause-restores
restore_one-back-requires-clause-restores g c = next-restores _ _ _ _ _ c.args.index c.args.graph.now.nodes c.loop-i.i _ _ c.loop-i.invariant.going c.in-Some.h c.in-Some.ensures

pub restore_one-back-requires-clause-may : goal.restore_one-back-requires-clause-may
restore_one-back-requires-clause-may g c = next-may _ _ _ _ _ c.args.index c.args.graph.now.nodes c.loop-i.i _ _ c.loop-i.invariant.going c.in-Some.h c.in-Some.ensures

pub push-requires : goal.push-requires
push-requires g c = omega (arith, answers-room c.args.graph.now.nodes c.loop-i.i c.in-Some.h c.in-Some.ensures, c.requires.room, c.loop-i.invariant.room)

pub loop-i-preserved : goal.loop-i-preserved
loop-i-preserved g c = elim c.match-handle.branch [
  | in-Some w ↦ rw (w.side-is, w.draw-is, w.alive-is) record {
    going = IsRestoring-node _ _ _ _ _ c.args.index c.args.graph.now.nodes c.loop-i.i _ _ c.loop-i.invariant.going w.in-Some.h w.in-Some.ensures
        _ _ w.restore_one-back.result w.given.result _ w.restore_one-back.ensures.adds w.given.ensures w.restore_one-back.ensures.reserve
        w.restore_one-back.ensures.peers w.push.ensures.values;
    room = omega (arith, w.push.ensures.room, c.loop-i.invariant.room, handles-some c.args.graph.now.nodes c.loop-i.i w.in-Some.h w.in-Some.ensures);
  }
  | in_default w ↦
      let none : HasNode c.args.graph.now.nodes c.loop-i.i (λ n. n.handle ≡ None) = (c.handle.ensures.0, c.handle.ensures.1, c.handle.ensures.2 ∙ w.in_default.is) in
      rw (w.side-is, w.draw-is, w.alive-is) record {
        going = IsRestoring-passed _ _ _ _ _ c.args.index c.args.graph.now.nodes c.loop-i.i _ _ c.loop-i.invariant.going none;
        room = omega (arith, c.loop-i.invariant.room, handles-none c.args.graph.now.nodes c.loop-i.i none);
      }
]
