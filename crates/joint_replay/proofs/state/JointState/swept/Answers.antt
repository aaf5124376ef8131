-- The reply names a sweep of the open marking exactly where each test holds.
use Rattle.std.proofs.Common.{subst, sym}
use Rattle.std.specs.Prelude.{All}
use Rattle.joint_machine.specs.Components.{Rises}
use Rattle.joint_machine.specs.Joint.{Joint}
use Rattle.joint_machine.specs.Run.{IsStored}
use Rattle.joint_machine.proofs.Deciding.{test-false}
use Rattle.reachability.specs.Marks.{HasMark}
use Rattle.joint_replay.specs.Answers.{answers_as}
use Rattle.joint_replay.specs.Judging.{named_peers}
use Rattle.joint_replay.specs.Snaps.{MaySweep, SaysSwept}
use Rattle.joint_replay.proofs.Sweeping.{may-sweep, sweep-dead, sweep-stored}
use Rattle.joint_replay.proofs.state.JointState.swept.Goals as goal
use Rattle.joint_replay.proofs.state.JointState.swept.Goals.{else-rises-via-then-rises+then-stores+else-all_marked, else-rises-via-then-rises+else-stores, else-rises-via-else-rises}

pub returns-then-all_marked : goal.returns-then-all_marked
returns-then-all_marked c =
    let s = c.self.inside in
    let i : Joint = record { graph = record { managed = s.managed; peers = s.peers; removed = s.removed.items }; answers = answers_as s.answers.items; marking = s.marking; markings = s.markings } in
    let m = c.in-Some.marking in
    let h = c.args.h.now in
    let reply = c.args.reply.now in
    let freed = c.in-Some-2.freed.items in
    let named = rw (c.in-Some-2.is, c.number.ensures) at c.in_ok-freed.ensures in
    let said : SaysSwept i.graph.peers.heap h reply m.number = subst (λ (z : Joint). SaysSwept z.graph.peers.heap h reply m.number) (sym c.self.view_is) named.1 in
    let rise : Rises freed = rw c.deref-2.ensures.value at (c.rises.ensures.0 c.if-rises.true) in
    let stored : All (IsStored m) freed = rw c.deref-then-rises.ensures.value at (c.stores.ensures.0 c.if-stores.true) in
    let marked : All (HasMark c.in_ok-dead.dead.items) freed = rw (c.deref-then-stores.ensures.value, c.deref-then-stores-2.ensures.value) at (c.all_marked.ensures.0 c.if-all_marked.true) in (
      named.0,
      subst (λ (z : Joint). MaySweep z freed reply) c.self.view_is
          (may-sweep i m h reply freed c.in_ok-dead.dead.items c.in-Some.is named.0 said rise stored marked (rw c.deref.ensures.value at c.in_ok-dead.ensures)),
    )

pub returns-else-rises : goal.returns-else-rises
returns-else-rises c = λ w.
    let s = c.self.inside in
    let i : Joint = record { graph = record { managed = s.managed; peers = s.peers; removed = s.removed.items }; answers = answers_as s.answers.items; marking = s.marking; markings = s.markings } in
    let m = c.in-Some.marking in
    let reply = c.args.reply.now in
    let freed = c.in-Some-2.freed.items in
    let dead = c.in_ok-dead.dead.items in
    let named = rw c.in-Some-2.is at c.in_ok-freed.ensures in
    let may : MaySweep i freed reply = subst (λ l. MaySweep i l reply) (sym named.0) (subst (λ (z : Joint). MaySweep z (named_peers c.args.h.now reply) reply) (sym c.self.view_is) w) in
    elim c.else-rises.branch [
      | else-rises-via-then-rises+then-stores+else-all_marked v ↦ test-false (All (HasMark dead) freed) v.all_marked.result
          (rw (v.deref-then-stores.ensures.value, v.deref-then-stores-2.ensures.value) at v.all_marked.ensures) v.if-all_marked.false
          (sweep-dead i m freed reply dead c.in-Some.is c.self.invariant (rw c.deref.ensures.value at c.in_ok-dead.ensures) may)
      | else-rises-via-then-rises+else-stores v ↦ test-false (All (IsStored m) freed) v.stores.result
          (rw v.deref-then-rises.ensures.value at v.stores.ensures) v.if-stores.false (sweep-stored i m freed reply c.in-Some.is may)
      | else-rises-via-else-rises v ↦ test-false (Rises freed) c.rises.result (rw c.deref-2.ensures.value at c.rises.ensures) v.if-rises.false may.rise
    ]
