-- The root is seen first; then each turn keeps what the search keeps, until it is in no node.
use Rattle.std.proofs.Common.{◌≡◌, [], ℕ, true, false, length, ap, arith}
use Rattle.std.proofs.lemmas.List.{length_push, get_or-set_same, nil_from_length}
use Rattle.compare_pass.specs.declared.finishing.Frame.{Frame}
use Rattle.compare_pass.proofs.Going.{going-root, seen-old, reverse-push}
use Rattle.compare_pass.proofs.finishing.finish_from.Goals as goal

pub loop-frame-init : goal.loop-frame-init
loop-frame-init c =
    let seen = c.args.seen.now in
    let root : ℕ = c.args.root in
    let top : Frame = record { node = root; next = 0 } in
    rw (c.in_ok-push.ensures.items, c.requires.frames) record {
      going = going-root c.args.graph.now.edges (length c.args.graph.now.nodes) seen c.args.order.now.items root c.requires.root c.requires.fresh c.requires.going;
      root = get_or-set_same seen root true false (omega (arith, c.requires.root, c.requires.going.whole));
      kept = λ x t. seen-old seen root x t;
    }

pub advance-requires-clause-part : goal.advance-requires-clause-part
advance-requires-clause-part c = c.requires.part

pub advance-requires-clause-going : goal.advance-requires-clause-going
advance-requires-clause-going c =
    rw (c.in-Some.ensures.items, reverse-push c.pop.new.self.items c.in-Some.frame) at c.loop-frame.invariant.going

pub loop-frame-preserved : goal.loop-frame-preserved
loop-frame-preserved c =
    let i = c.loop-frame.invariant in
    let e = c.in_ok-advance.ensures in
    record { going = e.going; root = e.kept c.args.root i.root; kept = λ x t. e.kept x (i.kept x t) }

pub loop-frame-smaller : goal.loop-frame-smaller
loop-frame-smaller c = omega (arith, c.in_ok-advance.ensures.less, ap length c.in-Some.ensures.items, length_push c.pop.new.self.items c.in-Some.frame)

pub returns-clause-frames : goal.returns-clause-frames
returns-clause-frames c = nil_from_length c.pop.new.self.items (omega (arith, c.in_default.ensures.cases, c.pop.new.self.ok))

pub returns-clause-going : goal.returns-clause-going
returns-clause-going c =
    let none : c.loop-frame.frames.items ≡ [] = nil_from_length c.loop-frame.frames.items (omega (arith, c.in_default.ensures.cases, c.loop-frame.frames.ok)) in
    rw none at c.loop-frame.invariant.going

pub returns-clause-root : goal.returns-clause-root
returns-clause-root c = c.loop-frame.invariant.root

pub returns-clause-kept : goal.returns-clause-kept
returns-clause-kept c = c.loop-frame.invariant.kept
