-- Each node of the list is gone on from in turn, by its whole row.
use Rattle.std.proofs.Common.{◌≡◌, ℕ, ◌<◌, List, [], ◌∷◌, ◌++◌, true, get_or, length, ◌∙◌, ap, arith}
use Rattle.std.proofs.lemmas.List.{get_or_default, length-set}
use Rattle.bridge_graph.specs.Parts.{row_at}
use Rattle.compare_pass.specs.Searching.{Goes}
use Rattle.compare_pass.proofs.Finding.{search-first, search-passed, search-more, search-found, marked_below}
use Rattle.compare_pass.proofs.search.search.Goals as goal
use Rattle.compare_pass.proofs.search.search.Goals.{then-opens+in_ok-visit, else-opens}

pub loop-at-init : goal.loop-at-init
loop-at-init c =
    let items = c.in_ok-push.ensures.items ∙ ap (λ (xs : List ℕ). xs ++ c.args.start ∷ []) c.requires.empty in
    rw items (search-first (Goes c.args.graph.now.edges c.args.labels.now c.args.indexes.now (get_or c.args.labels.now c.args.start 0)) c.args.start c.args.marks.now (omega arith) c.requires.clear)

pub visit-requires-clause-in_range : goal.visit-requires-clause-in_range
visit-requires-clause-in_range c = λ k d lt. omega (arith, c.row.ensures.in_range k d lt, length-set c.args.marks.now c.args.start true)

pub loop-at-preserved : goal.loop-at-preserved
loop-at-preserved c =
    let step = Goes c.args.graph.now.edges c.args.labels.now c.args.indexes.now (get_or c.args.labels.now c.args.start 0) in
    let found = c.loop-at.found.items in
    let x = c.index-x.result.now in
    let lt : c.loop-at.at < length found = omega arith in
    let is : x ≡ get_or found c.loop-at.at 0 = c.index-x.ensures ∙ get_or_default found c.loop-at.at x 0 lt in
    elim c.if-opens.branch [
      | then-opens+in_ok-visit w ↦
          rw (w.marks-is, w.found-is) (search-more step c.args.start c.loop-at.marks w.visit.new.marks found w.visit.new.found.items (row_at c.args.graph.now.edges x) c.loop-at.at x lt is
          (λ y h. (w.if-opens.ensures, h)) (λ y h. h.1) w.in_ok-visit.ensures.marking (rw w.row.ensures.row at w.in_ok-visit.ensures.visits) c.loop-at.invariant)
      | else-opens w ↦ rw (w.marks-is, w.found-is) (search-passed step c.args.start c.loop-at.marks found c.loop-at.at x lt is (λ y h. w.if-opens.ensures h.0) c.loop-at.invariant)
    ]

pub returns : goal.returns
returns c = search-found (Goes c.args.graph.now.edges c.args.labels.now c.args.indexes.now (get_or c.args.labels.now c.args.start 0))
    c.args.start c.loop-at.marks c.loop-at.found.items c.loop-at.at (omega arith) c.loop-at.invariant

pub bounds-marks-start : goal.bounds-marks-start
bounds-marks-start c = omega (arith, c.requires.start, c.requires.marks)

pub index-x-requires : goal.index-x-requires
index-x-requires c = omega (arith, c.loop-at-test.true, c.len.ensures)

pub opens-requires-clause-labels : goal.opens-requires-clause-labels
opens-requires-clause-labels c = omega (
  arith,
  marked_below c.loop-at.marks c.loop-at.found.items c.loop-at.invariant.marking c.loop-at.at c.index-x.result.now (omega arith),
  c.index-x.ensures,
  length-set c.args.marks.now c.args.start true,
  c.requires.marks,
  c.requires.labels,
)

pub row-requires : goal.row-requires
row-requires c = omega (
  arith,
  marked_below c.loop-at.marks c.loop-at.found.items c.loop-at.invariant.marking c.loop-at.at c.index-x.result.now (omega arith),
  c.index-x.ensures,
  length-set c.args.marks.now c.args.start true,
  c.requires.marks,
)

pub visit-requires-clause-marking : goal.visit-requires-clause-marking
visit-requires-clause-marking c = c.loop-at.invariant.marking

pub opens-requires-clause-indexes : goal.opens-requires-clause-indexes
opens-requires-clause-indexes c = c.requires.small c.index-x.result.now 0
    (omega (
      arith,
      marked_below c.loop-at.marks c.loop-at.found.items c.loop-at.invariant.marking c.loop-at.at c.index-x.result.now (omega arith),
      c.index-x.ensures,
      length-set c.args.marks.now c.args.start true,
      c.requires.marks,
      c.requires.labels,
    ))
