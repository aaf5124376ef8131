-- Each call of a side may draw from the one count: the side has entries of the past alone, whose numbers lie below it,
-- and the count is far from its end.
use Rattle.std.proofs.Common.{◌≡◌, inl, inr, ℕ, suc, ◌+◌, ◌-◌, ◌<◌, ◌≤◌, ◌^◌, List, length, Option, None, Some, refl, sym, ap, ◌∙◌, subst, arith}
use Rattle.std.specs.Prelude.{⊤}
use Rattle.joint_machine.specs.declared.names.MNum.{MNum}
use Rattle.joint_machine.specs.declared.names.Thread.{Thread}
use Rattle.joint_machine.specs.declared.names.Thread.TheVariants.{M, P, C}
use Rattle.joint_machine.specs.declared.events.Made.{Made}
use Rattle.joint_machine.specs.declared.events.Op.{Op}
use Rattle.joint_machine.specs.declared.events.Op.TheVariants as op
use Rattle.joint_machine.specs.declared.lines.Act.TheVariants as act
use Rattle.joint_machine.specs.Draws.{AllBelow, CountDrew, Drawing}
use Rattle.joint_machine.specs.Lines.{IsEvent}
use Rattle.joint_machine.specs.ManagedReplay.{ManagedReplay}
use Rattle.joint_machine.specs.Sides.{AddsLawful, MayDraw, Side, TakesManaged, managed_rules}
use Rattle.joint_machine.specs.Told.{Noted, Told}
use Rattle.managed_heap.specs.Sides.{as_side}
use Rattle.run_check.specs.declared.draws.Recorder.{Recorder}
use Rattle.run_check.specs.declared.replays.Replay.{Replay}
use Rattle.run_check.specs.Follows.{SidesFollow}

-- the draw of a replay
abbrev pub drawing : Drawing Recorder
drawing = record {
  floor = λ r. r.counter;
  left = λ r. 2 ^ 63 - r.counter;
  may = λ r t o m. ⊤;
  drew = λ r e m freed after. CountDrew r.counter e m freed after.counter × (after.target ≡ m);
}

-- a side for all threads takes each event
pub all_taken : (t : Thread) (o : Op) (n : ℕ) → n ≡ 8 → IsEvent t o → TakesManaged n t
all_taken C o n e w = tt
all_taken (P i) o n e w = tt
all_taken (M i) o n e w = subst (λ k. i ≤ k) (sym e) (thread o w)
  where
    thread : (o : Op) → IsEvent (M i) o → i ≤ 8
    thread (op.Line a) w = w.0.0.1
    thread (op.Make s n) w = w.0.1
    thread (op.Adopt v k n p h) w = w.0.1
    thread (op.Lend v x) w = w.0.1
    thread (op.Land h x) w = w.0.1
    thread (op.Grip x) w = w.0.1
    thread (op.Meet v s n p h) w = w.0.1
    thread (op.Give v) w = w.0.1
    thread (op.Release h) w = w.1
    thread op.Begin w = elim w [ inl q ↦ absurd q | inr q ↦ absurd q ]
    thread op.Sweep w = elim w [ inl q ↦ absurd q | inr q ↦ absurd q ]
    thread _ w = absurd w

room_left : (n k l : ℕ) → n < 2 ^ 62 → k ≡ n → 4294967295 ≤ (2 ^ 63 - k) + l
room_left n k l f e = (let g : n < 4611686018427387904 = f in let goal : 4294967295 ≤ (9223372036854775808 - k) + l = omega (arith, g, e) in goal)

pub may_draw : (past : List Noted) (r : Replay) (t : Thread) (o : Op) → SidesFollow past r → length past < 2 ^ 62 → IsEvent t o → MayDraw managed_rules drawing r.draw (as_side r.managed) t o
may_draw past r t o f few e = record {
  takes = all_taken t o r.managed.threads f.managed.threads e;
  below = subst (AllBelow r.managed.entries) (sym f.drawn) f.managed.below;
  room = room_left (length past) r.draw.counter (length r.managed.entries) few f.drawn;
  bare = tt;
  targets = λ m q. tt;
}

-- the count rises by one
pub counted : (past : List Noted) (a b : Recorder) (old new : Side ManagedReplay) (m : Made) (told : Told)
    → a.counter ≡ length past → AddsLawful managed_rules drawing a b old new m told → b.counter ≡ suc (length past)
counted past a b old new m told e w = (let d = w.draws.adds.drawn.0.1 in omega (arith, d, e))
