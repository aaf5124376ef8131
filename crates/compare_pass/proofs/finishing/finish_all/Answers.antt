-- Each node is seen once the search came by it.
use Rattle.std.proofs.Common.{◌≡◌, ℕ, true, false, length, get_or, subst, arith, inl, inr}
use Rattle.std.proofs.lemmas.Bool.{cases_lt}
use Rattle.compare_pass.proofs.Going.{going-none, going-over}
use Rattle.compare_pass.proofs.finishing.finish_all.Goals as goal
use Rattle.compare_pass.proofs.finishing.finish_all.Goals.{then-not-seen-root+in_ok-finish_from, else-not-seen-root}

pub loop-root-init : goal.loop-root-init
loop-root-init c = record {
  going = rw c.requires.order (going-none c.args.graph.now.edges (length c.args.graph.now.nodes) c.args.seen.now c.requires.seen c.requires.unseen);
  frames = c.requires.frames;
  seen = λ x lt. absurd (omega (arith, lt));
}

pub finish_from-requires-clause-part : goal.finish_from-requires-clause-part
finish_from-requires-clause-part c = c.nodes-root-end.ensures.part

pub finish_from-requires-clause-fresh : goal.finish_from-requires-clause-fresh
finish_from-requires-clause-fresh c = c.if-not-seen-root.true

pub finish_from-requires-clause-going : goal.finish_from-requires-clause-going
finish_from-requires-clause-going c = c.loop-root.invariant.going

pub finish_from-requires-clause-frames : goal.finish_from-requires-clause-frames
finish_from-requires-clause-frames c = c.loop-root.invariant.frames

pub loop-root-preserved : goal.loop-root-preserved
loop-root-preserved c =
    let i = c.loop-root.invariant in
    let root : ℕ = c.loop-root.root in
    elim c.if-not-seen-root.branch [
      | then-not-seen-root+in_ok-finish_from w ↦
          let e = w.in_ok-finish_from.ensures in
          rw (w.seen-is, w.order-is, w.frames-is) record {
            going = e.going;
            frames = e.frames;
            seen = λ x lt. elim (cases_lt x root) [
              | inl l ↦ e.kept x (i.seen x l)
              | inr ge ↦ let is : root ≡ x = omega (arith, lt, ge) in subst (λ z. get_or w.finish_from.new.seen z false ≡ true) is e.root
            ];
          }
      | else-not-seen-root w ↦ rw (w.seen-is, w.order-is, w.frames-is) record {
        going = i.going;
        frames = i.frames;
        seen = λ x lt. elim (cases_lt x root) [
          | inl l ↦ i.seen x l
          | inr ge ↦ let is : root ≡ x = omega (arith, lt, ge) in subst (λ z. get_or c.loop-root.seen z false ≡ true) is w.if-not-seen-root.false
        ];
      }
    ]

pub returns : goal.returns
returns c =
    let i = c.loop-root.invariant in
    going-over c.args.graph.now.edges (length c.args.graph.now.nodes) c.loop-root.seen c.loop-root.order.items (λ x lt. i.seen x (omega arith)) i.going
