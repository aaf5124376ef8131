-- A frame goes on to its next target that wasn't seen, or its node is finished.
use Rattle.std.proofs.Common.{◌≡◌, ◌+◌, ◌<◌, ◌++◌, ◌∷◌, [], ℕ, List, true, false, length, get_or, reverse, sym, ap, subst, arith, ◌≤◌}
use Rattle.std.proofs.lemmas.List.{length_push}
use Rattle.bridge_graph.specs.Parts.{row_at}
use Rattle.compare_pass.specs.declared.finishing.Frame.{Frame}
use Rattle.compare_pass.proofs.Going.{going-deeper, going-finished, reverse-push, seen-old, top-seen, unseen-set}
use Rattle.compare_pass.proofs.finishing.advance.Goals as goal

pub row-row-requires : goal.row-row-requires
row-row-requires c = top-seen _ _ _ _ c.args.frame _ c.requires.going

pub first_unseen-next-requires-clause-in_range : goal.first_unseen-next-requires-clause-in_range
first_unseen-next-requires-clause-in_range c = λ k d lt. omega (arith, c.row-row.ensures.in_range k d lt, c.requires.going.whole)

pub returns-then-next-row-clause-going : goal.returns-then-next-row-clause-going
returns-then-next-row-clause-going c =
    let f : Frame = c.args.frame in
    let edges = c.args.graph.now.edges in
    let next : ℕ = c.first_unseen-next.result in
    let row = c.row-row.result.now in
    let v : ℕ = get_or row next 0 in
    let is : row ≡ row_at edges f.node = c.row-row.ensures.row in
    let lt : next < length row = c.if-next-row.true in
    let over : (k : ℕ) → f.next ≤ k → k < next → k < length (row_at edges f.node) → get_or c.args.seen.now (get_or (row_at edges f.node) k 0) false ≡ true
    = subst (λ r. (k : ℕ) → f.next ≤ k → k < next → k < length r → get_or c.args.seen.now (get_or r k 0) false ≡ true) is (λ k a b l. c.first_unseen-next.ensures.seen k a b l) in
    let top : Frame = record { node = v; next = 0 } in
    let below : Frame = record { node = f.node; next = next + 1 } in
    rw (c.in_ok-push-2.ensures.items, c.in_ok-push.ensures.items, reverse-push (c.args.frames.now.items ++ below ∷ []) top, reverse-push c.args.frames.now.items below)
    (going-deeper edges (length c.args.graph.now.nodes) c.args.seen.now c.args.order.now.items f (reverse c.args.frames.now.items) next v (c.row-row.ensures.in_range next 0 lt)
    (c.first_unseen-next.ensures.next lt) (omega (arith, lt, ap length is)) (ap (λ (r : List ℕ). get_or r next 0) (sym is)) over c.requires.going)

pub returns-then-next-row-clause-less : goal.returns-then-next-row-clause-less
returns-then-next-row-clause-less c =
    let f : Frame = c.args.frame in
    let next : ℕ = c.first_unseen-next.result in
    let v : ℕ = get_or c.row-row.result.now next 0 in
    let lt : v < length c.args.seen.now = omega (arith, c.row-row.ensures.in_range next 0 c.if-next-row.true, c.requires.going.whole) in
    let top : Frame = record { node = v; next = 0 } in
    let below : Frame = record { node = f.node; next = next + 1 } in
    let fewer = unseen-set c.args.seen.now v lt (c.first_unseen-next.ensures.next c.if-next-row.true) in
    omega (arith, fewer, ap length c.in_ok-push-2.ensures.items, ap length c.in_ok-push.ensures.items, length_push c.args.frames.now.items below, length_push c.push.new.self.items top)

pub returns-then-next-row-clause-kept : goal.returns-then-next-row-clause-kept
returns-then-next-row-clause-kept c = λ x t. seen-old c.args.seen.now (get_or c.row-row.result.now c.first_unseen-next.result 0) x t

pub returns-clause-going : goal.returns-clause-going
returns-clause-going c =
    let f : Frame = c.args.frame in
    let edges = c.args.graph.now.edges in
    let row = c.row-row.result.now in
    let is : row ≡ row_at edges f.node = c.row-row.ensures.row in
    let over : (k : ℕ) → f.next ≤ k → k < length (row_at edges f.node) → get_or c.args.seen.now (get_or (row_at edges f.node) k 0) false ≡ true
    = subst (λ r. (k : ℕ) → f.next ≤ k → k < length r → get_or c.args.seen.now (get_or r k 0) false ≡ true) is
    (λ k a l. c.first_unseen-next.ensures.seen k a (omega (arith, l, c.if-next-row.false)) l) in
    rw c.in_ok-push-3.ensures.items (going-finished edges (length c.args.graph.now.nodes) c.args.seen.now c.args.order.now.items f (reverse c.args.frames.now.items) over c.requires.going)
