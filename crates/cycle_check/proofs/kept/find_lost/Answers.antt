use Rattle.std.proofs.Common.{ℕ, ◌<◌, ◌↔◌, List, length, sym, subst, arith}
use Rattle.std.specs.List.{Contains}
use Rattle.array_graphs.specs.Graphs.{HasEdge, LeadsInRow}
use Rattle.array_graphs.proofs.Edges.{packed-lead}
use Rattle.cycle_check.specs.Walking.{HasKept}
use Rattle.cycle_check.proofs.Keeping.{kept-torn, kept-whole, packed-ends}
use Rattle.cycle_check.proofs.Lists.{listed-below, row-All}
use Rattle.cycle_check.proofs.kept.find_lost.Goals as goal

pub mark_rows-requires-clause-ends : goal.mark_rows-requires-clause-ends
mark_rows-requires-clause-ends c =
    let p = c.in_ok-packed.packed in
    rw (c.deref.ensures.value, c.deref-2.ensures.value) (packed-ends c.args.xrefs.now (length c.args.starts.now) p.starts.items p.targets.items c.requires.report.ends
    c.in_ok-packed.ensures.packed (omega (arith, c.in_ok-packed.ensures.count)))

pub mark_rows-requires-clause-roots : goal.mark_rows-requires-clause-roots
mark_rows-requires-clause-roots c =
    let P : ℕ → Type 0 = λ d. HasKept c.args.starts.now c.args.members.now c.args.kept.now d in
    rw (c.deref-3.ensures.value, c.deref.ensures.value) (listed-below P c.in_ok-roots.roots.items (length c.args.starts.now) (length c.in_ok-packed.packed.starts.items)
    (omega (arith, c.in_ok-packed.ensures.count)) c.in_ok-roots.ensures)

pub returns-in-None : goal.returns-in-None
returns-in-None c =
    let n = length c.args.starts.now in
    let xrefs = c.args.xrefs.now in
    let p = c.in_ok-packed.packed in
    let lead : (x y : ℕ) → LeadsInRow p.starts.items p.targets.items x y ↔ HasEdge xrefs x y = packed-lead xrefs n p.starts.items p.targets.items c.requires.report.ends
    c.in_ok-packed.ensures.packed (omega (arith, c.in_ok-packed.ensures.count)) in
    kept-whole c.args.starts.now c.args.members.now xrefs c.args.kept.now p.starts.items p.targets.items lead c.in_ok-roots.roots.items c.in_ok-marks.marks.items c.in_ok-roots.ensures
    (rw (c.deref.ensures.value, c.deref-2.ensures.value, c.deref-3.ensures.value) at c.in_ok-marks.ensures.marks) (rw c.deref-4.ensures.value at c.in-None.ensures)

pub first_root-requires-clause-ends : goal.first_root-requires-clause-ends
first_root-requires-clause-ends c =
    let p = c.in_ok-packed.packed in
    rw (c.deref-in-Some.ensures.value, c.deref-in-Some-2.ensures.value) (packed-ends c.args.xrefs.now (length c.args.starts.now) p.starts.items p.targets.items c.requires.report.ends
    c.in_ok-packed.ensures.packed (omega (arith, c.in_ok-packed.ensures.count)))

pub first_root-requires-clause-roots : goal.first_root-requires-clause-roots
first_root-requires-clause-roots c =
    let P : ℕ → Type 0 = λ d. HasKept c.args.starts.now c.args.members.now c.args.kept.now d in
    rw (c.deref-in-Some-3.ensures.value, c.deref-in-Some.ensures.value) (listed-below P c.in_ok-roots.roots.items (length c.args.starts.now) (length c.in_ok-packed.packed.starts.items)
    (omega (arith, c.in_ok-packed.ensures.count)) c.in_ok-roots.ensures)

pub packed_row-requires-clause-index : goal.packed_row-requires-clause-index
packed_row-requires-clause-index c = ((c.in_ok-roots.ensures c.in_ok-root-in-Some.root).0 (rw c.deref-in-Some-3.ensures.value at c.in_ok-root-in-Some.ensures.root)).0

pub first_set-requires : goal.first_set-requires
first_set-requires c = rw c.packed_row.ensures (row-All (λ x. x < length c.args.kept.now) c.args.starts.now c.args.members.now c.in_ok-root-in-Some.root c.requires.report.objects)

pub unreachable-requires : goal.unreachable-requires
unreachable-requires c =
    let k = ((c.in_ok-roots.ensures c.in_ok-root-in-Some.root).0 (rw c.deref-in-Some-3.ensures.value at c.in_ok-root-in-Some.ensures.root)).1 in
    c.in-None-first_set.ensures k.0 (subst (λ (r : List ℕ). Contains r k.0) (sym c.packed_row.ensures) k.1) k.2

pub returns : goal.returns
returns c =
    let n = length c.args.starts.now in
    let xrefs = c.args.xrefs.now in
    let p = c.in_ok-packed.packed in
    let lead : (x y : ℕ) → LeadsInRow p.starts.items p.targets.items x y ↔ HasEdge xrefs x y = packed-lead xrefs n p.starts.items p.targets.items c.requires.report.ends
    c.in_ok-packed.ensures.packed (omega (arith, c.in_ok-packed.ensures.count)) in
    let lost = c.in-Some.ensures in
    let root = c.in_ok-root-in-Some.root in
    let x = c.in-Some-first_set.from in
    kept-torn c.args.starts.now c.args.members.now xrefs c.args.kept.now p.starts.items p.targets.items lead root c.in-Some.lost.0 x c.in-Some.lost.1
    ((c.in_ok-roots.ensures root).0 (rw c.deref-in-Some-3.ensures.value at c.in_ok-root-in-Some.ensures.root)).0 lost.0
    (rw (c.deref-in-Some.ensures.value, c.deref-in-Some-2.ensures.value) at c.in_ok-root-in-Some.ensures.reaches)
    (subst (λ (r : List ℕ). Contains r x) c.packed_row.ensures c.in-Some-first_set.ensures.0) c.in-Some-first_set.ensures.1 lost.2 lost.3
