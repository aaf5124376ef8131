-- Each turn reads one slot more.
use Rattle.std.proofs.Common.{◌≡◌, Some, None, get_or, arith, ap, ◌∙◌, subst, refl}
use Rattle.std.specs.Prelude.{slice_get}
use Rattle.std.proofs.lemmas.List.{take_all}
use Rattle.std.proofs.lemmas.Option.{slice_get-get_or}
use Rattle.joint_marking.specs.Gathered.{Gains}
use Rattle.joint_replay.specs.Roots.{IsNamedLive}
use Rattle.joint_replay.proofs.Finding.{named-put, named-skip}
use Rattle.joint_replay.proofs.roots.push_named.Goals as goal
use Rattle.joint_replay.proofs.roots.push_named.Goals.{in-Some+in_ok-push, in_default}

pub loop-i-preserved : goal.loop-i-preserved
loop-i-preserved c =
    let slots = c.args.slots.now in
    let h = c.args.heap.now in
    let i = c.loop-i.i in
    let here : slice_get slots i ≡ Some (get_or slots i None) = slice_get-get_or slots i None c.loop-i-test.true in
    elim c.match-live_at.branch [
      | in-Some+in_ok-push w ↦ rw w.roots-is (let p = (w.in-Some.ensures w.in-Some.x).0 refl in
          named-put h slots c.args.roots.now.items c.loop-i.roots.items _ i w.in-Some.x p.0 p.1 w.in_ok-push.ensures.items c.loop-i.invariant)
      | in_default w ↦ rw w.roots-is (named-skip h slots c.args.roots.now.items c.loop-i.roots.items i (get_or slots i None) here
          (λ k e l. w.in_default.not-Some k ((c.live_at.ensures k).1 (l, here ∙ ap Some e))) c.loop-i.invariant)
    ]

pub returns : goal.returns
returns c = subst (λ z. Gains (IsNamedLive c.args.heap.now z) c.args.roots.now.items c.loop-i.roots.items)
    (take_all c.loop-i.i c.args.slots.now (omega (arith, c.loop-i-test.false))) c.loop-i.invariant
