use Rattle.std.proofs.Common.{◌≡◌, ◌+◌, ◌<◌, ◌++◌, ◌∷◌, [], List, ℕ, length, take, drop, reverse, get_or, sym, ap, subst, arith}
use Rattle.std.proofs.lemmas.List.{length_push, get_or_default}
use Rattle.component_pass.specs.declared.tarjan.Frame.{Frame}
use Rattle.component_pass.specs.Tarjan.{IsGoing, unseen}
use Rattle.bridge_graph.specs.Parts.{row_at}
use Rattle.component_pass.proofs.Strong.{descended, merged, completed, unseen-set}
use Rattle.component_pass.proofs.Keeping.{entered-kept, closed-kept}
use Rattle.component_pass.proofs.tarjan.advance.Goals as goal
use Rattle.component_pass.proofs.Ordered.{reverse-push, popped-frames, popped-length, popped-none}

pub row-row-requires : goal.row-row-requires
row-row-requires c =
    let g = c.requires.going in
    omega (arith, (g.sorted.placed c.args.frame.at g.segments.0.below).0, g.segments.0.is)

pub scan_row-scan-requires-clause-in_range : goal.scan_row-scan-requires-clause-in_range
scan_row-scan-requires-clause-in_range c = λ k d lt. omega (arith, c.row-row.ensures.in_range k d lt, c.requires.going.sorted.marks_whole)

pub scan_row-scan-requires-clause-low : goal.scan_row-scan-requires-clause-low
scan_row-scan-requires-clause-low c =
    let g = c.requires.going in
    omega (arith, g.segments.0.low, g.segments.0.below, g.sorted.room, c.row-row.ensures.part.few)

pub scan_row-scan-requires-clause-from : goal.scan_row-scan-requires-clause-from
scan_row-scan-requires-clause-from c = rw c.row-row.ensures.row c.requires.going.segments.0.cursor

pub enter-requires-clause-node : goal.enter-requires-clause-node
enter-requires-clause-node c = omega (arith, c.row-row.ensures.in_range c.scan_row-scan.result.next 0 c.if-scan-row.true, c.requires.going.sorted.marks_whole)

pub enter-requires-clause-few : goal.enter-requires-clause-few
enter-requires-clause-few c = omega (arith, c.requires.going.sorted.room, c.row-row.ensures.part.few)

pub returns-then-scan-row-clause-going : goal.returns-then-scan-row-clause-going
returns-then-scan-row-clause-going c =
    let part = c.row-row.ensures.part in
    let scan = rw c.row-row.ensures.row at c.scan_row-scan.ensures in
    let f : Frame = c.args.frame in
    let lower : Frame = record { node = f.node; at = f.at; next = c.scan_row-scan.result.next + 1; low = c.scan_row-scan.result.low } in
    let w : ℕ = get_or c.row-row.result.now c.scan_row-scan.result.next 0 in
    let next : c.scan_row-scan.result.next < length (row_at c.args.graph.now.edges f.node) = omega (arith, c.if-scan-row.true, ap length c.row-row.ensures.row) in
    let is : w ≡ get_or (row_at c.args.graph.now.edges f.node) c.scan_row-scan.result.next 0 = ap (λ (r : List ℕ). get_or r c.scan_row-scan.result.next 0) c.row-row.ensures.row in
    rw (c.in_ok-inner.ensures.frame, c.in_ok-push.ensures.items, reverse-push c.args.frames.now.items lower, c.in_ok-inner.ensures.stack, c.in_ok-inner.ensures.marks)
    (descended c.args.graph.now.edges (length c.args.graph.now.nodes) part.in_range part.few
    c.args.stack.now.items c.args.marks.now c.args.labels.now c.args.rows.now f (reverse c.args.frames.now.items)
    c.scan_row-scan.result.next c.scan_row-scan.result.low w c.requires.going scan next is)

pub returns-then-scan-row-clause-less : goal.returns-then-scan-row-clause-less
returns-then-scan-row-clause-less c =
    let o = c.requires.going.sorted in
    let w : ℕ = get_or c.row-row.result.now c.scan_row-scan.result.next 0 in
    let lt : w < length c.args.marks.now = omega (arith, c.row-row.ensures.in_range c.scan_row-scan.result.next 0 c.if-scan-row.true, o.marks_whole) in
    let z = c.scan_row-scan.ensures.unseen_next c.if-scan-row.true in
    let fewer = unseen-set c.args.marks.now w (length c.args.stack.now.items + 1) lt z (omega arith) in
    let f : Frame = c.args.frame in
    let lower : Frame = record { node = f.node; at = f.at; next = c.scan_row-scan.result.next + 1; low = c.scan_row-scan.result.low } in
    omega (arith, fewer, ap unseen c.in_ok-inner.ensures.marks, ap length c.in_ok-push.ensures.items, length_push c.args.frames.now.items lower)

pub returns-then-scan-row-clause-none : goal.returns-then-scan-row-clause-none
returns-then-scan-row-clause-none c = tt

pub returns-then-scan-row-clause-kept : goal.returns-then-scan-row-clause-kept
returns-then-scan-row-clause-kept c = entered-kept c.args.marks.now c.enter.new.marks
    (get_or c.row-row.result.now c.scan_row-scan.result.next 0) (length c.args.stack.now.items) c.in_ok-inner.ensures.marks

pub returns-then-scan-frame-clause-going : goal.returns-then-scan-frame-clause-going
returns-then-scan-frame-clause-going c =
    let part = c.row-row.ensures.part in
    let scan = rw c.row-row.ensures.row at c.scan_row-scan.ensures in
    let f : Frame = c.args.frame in
    let going = rw (c.take_last.ensures.items, reverse-push c.take_last.new.self.items c.take_last.result) at c.requires.going in
    rw c.lowered.ensures
    (merged c.args.graph.now.edges (length c.args.graph.now.nodes) part.in_range part.few c.args.stack.now.items
    c.args.marks.now c.args.labels.now c.args.rows.now f c.take_last.result (reverse c.take_last.new.self.items)
    c.scan_row-scan.result.next c.scan_row-scan.result.low going scan (omega (arith, c.if-scan-row.false, ap length c.row-row.ensures.row)) (omega arith))

pub returns-then-scan-frame-clause-none : goal.returns-then-scan-frame-clause-none
returns-then-scan-frame-clause-none c = tt

pub returns-then-scan-frame-clause-less : goal.returns-then-scan-frame-clause-less
returns-then-scan-frame-clause-less c = omega (arith, ap length c.take_last.ensures.items, length_push c.take_last.new.self.items c.take_last.result)

pub returns-then-scan-frame-clause-kept : goal.returns-then-scan-frame-clause-kept
returns-then-scan-frame-clause-kept c = λ x n. n

pub close-requires-clause-at : goal.close-requires-clause-at
close-requires-clause-at c = omega (arith, c.requires.going.segments.0.below)

pub close-requires-clause-few : goal.close-requires-clause-few
close-requires-clause-few c = omega (arith, c.requires.going.sorted.room, c.row-row.ensures.part.few)

pub close-requires-clause-placed : goal.close-requires-clause-placed
close-requires-clause-placed c = λ k lt. (c.requires.going.sorted.placed k lt).1

pub close-requires-clause-marks : goal.close-requires-clause-marks
close-requires-clause-marks c = λ k d lt.
    let o = c.requires.going.sorted in
    omega (arith, (o.placed k lt).0, o.marks_whole, get_or_default c.args.stack.now.items k d 0 lt)

pub close-requires-clause-labels : goal.close-requires-clause-labels
close-requires-clause-labels c = λ k d lt.
    let o = c.requires.going.sorted in
    omega (arith, (o.placed k lt).0, o.labels_whole, get_or_default c.args.stack.now.items k d 0 lt)

pub returns-clause-going : goal.returns-clause-going
returns-clause-going c =
    let part = c.row-row.ensures.part in
    let scan = rw c.row-row.ensures.row at c.scan_row-scan.ensures in
    let done = (completed c.args.graph.now.edges (length c.args.graph.now.nodes) part.in_range part.few
    c.args.stack.now.items c.args.marks.now c.args.labels.now c.close.new.marks c.close.new.labels c.args.rows.now
    c.args.frame (reverse c.args.frames.now.items) c.scan_row-scan.result.next c.scan_row-scan.result.low c.requires.going scan
    (omega (arith, c.if-scan-row.false, ap length c.row-row.ensures.row)) c.if-scan-frame.false (omega arith) (omega arith) c.in_ok-close.ensures.taken c.in_ok-close.ensures.others).0 in
    rw (c.in_ok-close.ensures.stack, c.in_ok-close.ensures.rows)
    (subst (λ (fs : List Frame). IsGoing c.args.graph.now.edges (length c.args.graph.now.nodes) (take c.args.frame.at c.args.stack.now.items) c.close.new.marks c.close.new.labels
    (c.args.rows.now ++ drop c.args.frame.at c.args.stack.now.items ∷ []) fs) (sym (popped-frames c.args.frames.now.items c.pop.new.self.items c.pop.result c.pop.ensures.items)) done)

pub returns-clause-none : goal.returns-clause-none
returns-clause-none c = popped-none c.args.frames.now.items c.pop.new.self.items c.pop.result _ _ _ c.pop.ensures.cases (omega arith)

pub returns-clause-less : goal.returns-clause-less
returns-clause-less c =
    let part = c.row-row.ensures.part in
    let scan = rw c.row-row.ensures.row at c.scan_row-scan.ensures in
    let fewer = (completed c.args.graph.now.edges (length c.args.graph.now.nodes) part.in_range part.few
    c.args.stack.now.items c.args.marks.now c.args.labels.now c.close.new.marks c.close.new.labels c.args.rows.now
    c.args.frame (reverse c.args.frames.now.items) c.scan_row-scan.result.next c.scan_row-scan.result.low c.requires.going scan
    (omega (arith, c.if-scan-row.false, ap length c.row-row.ensures.row)) c.if-scan-frame.false (omega arith) (omega arith) c.in_ok-close.ensures.taken c.in_ok-close.ensures.others).1 in
    omega (arith, fewer, popped-length c.args.frames.now.items c.pop.new.self.items c.pop.result c.pop.ensures.items)

pub returns-clause-kept : goal.returns-clause-kept
returns-clause-kept c =
    let o = c.requires.going.sorted in
    closed-kept c.args.frame.at c.args.stack.now.items c.args.marks.now c.close.new.marks (omega (arith, o.room, c.row-row.ensures.part.few)) o.known
    (λ k a b. (c.in_ok-close.ensures.taken k a b).0) (λ x out. (c.in_ok-close.ensures.others x out).0)
