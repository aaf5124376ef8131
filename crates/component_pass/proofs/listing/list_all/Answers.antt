-- The first bridge node of a class makes a component of its group.
use Rattle.std.proofs.Common.{◌≡◌, ℕ, length, get_or, refl, ◌∙◌, arith}
use Rattle.std.proofs.lemmas.List.{length-set}
use Rattle.std.proofs.lemmas.List.Elements.{Contains-get_or}
use Rattle.bridge_graph.specs.Parts.{row_at}
use Rattle.component_pass.proofs.Grouped.{bridge-below}
use Rattle.component_pass.proofs.Listed.{listed-none}
use Rattle.component_pass.proofs.Rows.{unset-skip, unset-more, members-apart, rows-below}
use Rattle.component_pass.specs.Grouping.{links_of}
use Rattle.component_pass.proofs.listing.list_all.Goals as goal
use Rattle.component_pass.proofs.listing.list_all.Goals.{then-begins+in_ok-collect_bridges+in_ok-indexes, else-begins}

pub loop-x-init : goal.loop-x-init
loop-x-init c = record {
  listed = rw c.requires.empty (listed-none _ _ (links_of c.args.graph.now.nodes c.args.labels.now) c.args.indexes.now);
  unset = λ l lt h. c.requires.unset l 0 lt;
  heavy = c.requires.heavy;
  pairs = refl;
  size = refl;
  clear = c.requires.clear;
}

pub collect_bridges-requires : goal.collect_bridges-requires
collect_bridges-requires c =
    let own : ℕ = get_or c.args.labels.now c.loop-x.x 0 in
    rw c.row.ensures (λ k d lt. ((c.requires.order.members own (get_or (row_at c.args.rows.now own) k d)).0 (Contains-get_or (row_at c.args.rows.now own) k d lt)).0)

pub list_members-requires-clause-some : goal.list_members-requires-clause-some
list_members-requires-clause-some c =
    let a = members-apart c.args.graph.now.nodes c.args.graph.now.edges c.args.labels.now c.args.rows.now c.nodes-x-end.ensures.part.few c.requires.order
    c.loop-x.x c.loop-x.builder.comps c.loop-x.indexes c.collect_bridges.new.members.items (omega arith) c.if-begins.ensures.0 c.if-begins.ensures.1
    (rw c.row.ensures at c.in_ok-collect_bridges.ensures) c.loop-x.invariant.listed in
    rw c.deref.ensures.value a.2

pub list_members-requires-clause-apart : goal.list_members-requires-clause-apart
list_members-requires-clause-apart c =
    let a = members-apart c.args.graph.now.nodes c.args.graph.now.edges c.args.labels.now c.args.rows.now c.nodes-x-end.ensures.part.few c.requires.order
    c.loop-x.x c.loop-x.builder.comps c.loop-x.indexes c.collect_bridges.new.members.items (omega arith) c.if-begins.ensures.0 c.if-begins.ensures.1
    (rw c.row.ensures at c.in_ok-collect_bridges.ensures) c.loop-x.invariant.listed in
    rw c.deref.ensures.value a.0

pub list_members-requires-clause-after : goal.list_members-requires-clause-after
list_members-requires-clause-after c =
    let a = members-apart c.args.graph.now.nodes c.args.graph.now.edges c.args.labels.now c.args.rows.now c.nodes-x-end.ensures.part.few c.requires.order
    c.loop-x.x c.loop-x.builder.comps c.loop-x.indexes c.collect_bridges.new.members.items (omega arith) c.if-begins.ensures.0 c.if-begins.ensures.1
    (rw c.row.ensures at c.in_ok-collect_bridges.ensures) c.loop-x.invariant.listed in
    rw c.deref.ensures.value a.1

pub list_members-requires-clause-below : goal.list_members-requires-clause-below
list_members-requires-clause-below c =
    let members = c.collect_bridges.new.members.items in
    rw (c.deref.ensures.value, c.nodes.ensures.count) (λ k d lt. bridge-below c.args.graph.now.nodes
    (get_or members k d) ((c.in_ok-collect_bridges.ensures (get_or members k d)).0 (Contains-get_or members k d lt)).1)

pub list_members-requires-clause-rows : goal.list_members-requires-clause-rows
list_members-requires-clause-rows c =
    rw c.nodes.ensures.count (rows-below c.args.graph.now.nodes c.args.labels.now c.args.rows.now c.requires.order.members)

pub loop-x-preserved : goal.loop-x-preserved
loop-x-preserved c =
    let i = c.loop-x.invariant in
    let nodes = c.args.graph.now.nodes in
    let labels = c.args.labels.now in
    let rows = c.args.rows.now in
    let own : ℕ = get_or labels c.loop-x.x 0 in
    let lt = c.requires.order.labelled c.loop-x.x (omega arith) in
    elim c.if-begins.branch [
      | then-begins+in_ok-collect_bridges+in_ok-indexes w ↦
          let members = rw w.row.ensures at w.in_ok-collect_bridges.ensures in
          let adds = rw w.deref.ensures.value at w.in_ok-indexes.ensures.comps in
          let m = unset-more nodes c.args.graph.now.edges labels rows c.nodes-x-end.ensures.part.few c.requires.order c.loop-x.x
          c.loop-x.builder.comps w.list_members.new.builder.comps c.loop-x.indexes w.collect_bridges.new.members.items
          (omega arith) (omega (arith, lt, i.size, c.requires.indexes)) w.if-begins.ensures.0 w.if-begins.ensures.1 members adds i.unset i.listed in
          rw (w.indexes-is, w.builder-is, w.marks-is, w.in_ok-indexes.ensures.index) record {
            listed = m.0;
            unset = m.1;
            heavy = w.list_members.ensures.heavy;
            pairs = w.list_members.ensures.pairs ∙ i.pairs;
            size = length-set c.loop-x.indexes own (length c.loop-x.builder.comps) ∙ i.size;
            clear = w.in_ok-indexes.ensures.clear;
          }
      | else-begins w ↦
          let s = unset-skip nodes c.args.graph.now.edges labels rows c.nodes-x-end.ensures.part.few c.requires.order c.loop-x.x
          c.loop-x.builder.comps c.loop-x.indexes w.if-begins.ensures (omega (arith, lt, i.size, c.requires.indexes)) i.unset i.listed in
          rw (w.indexes-is, w.builder-is, w.marks-is) record { listed = s.0; unset = s.1; heavy = i.heavy; pairs = i.pairs; size = i.size; clear = i.clear }
    ]

pub returns-clause-plain : goal.returns-clause-plain
returns-clause-plain c =
    let i = c.loop-x.invariant in
    let is : c.loop-x.x ≡ length c.args.graph.now.nodes = omega arith in
    let u = rw is at i.unset in
    λ l lt none. u l (omega (arith, lt, i.size, c.requires.indexes)) (λ some. absurd (omega (arith, some, none)))

pub begins-requires-clause-label : goal.begins-requires-clause-label
begins-requires-clause-label c = omega (arith, c.requires.order.labelled c.loop-x.x (omega arith), c.loop-x.invariant.size, c.requires.indexes)

pub row-requires : goal.row-requires
row-requires c = c.requires.order.labelled c.loop-x.x (omega arith)

pub list_members-requires-clause-few : goal.list_members-requires-clause-few
list_members-requires-clause-few c = omega (arith, c.nodes.ensures.count, c.nodes.ensures.part.few)

pub list_members-requires-clause-marks : goal.list_members-requires-clause-marks
list_members-requires-clause-marks c = omega (arith, c.nodes.ensures.count, c.requires.marks)

pub list_members-requires-clause-clear : goal.list_members-requires-clause-clear
list_members-requires-clause-clear c = c.loop-x.invariant.clear

pub bounds-indexes-label : goal.bounds-indexes-label
bounds-indexes-label c = omega (arith, c.requires.order.labelled c.loop-x.x (omega arith), c.loop-x.invariant.size, c.requires.indexes)

pub returns-clause-listed : goal.returns-clause-listed
returns-clause-listed c =
    let is : c.loop-x.x ≡ length c.args.graph.now.nodes = omega arith in
    rw is at c.loop-x.invariant.listed

pub returns-clause-pairs : goal.returns-clause-pairs
returns-clause-pairs c = c.loop-x.invariant.pairs

pub returns-in_err-collect_bridges-clause-heavy : goal.returns-in_err-collect_bridges-clause-heavy
returns-in_err-collect_bridges-clause-heavy c = c.loop-x.invariant.heavy

pub list_members-requires-clause-heavy : goal.list_members-requires-clause-heavy
list_members-requires-clause-heavy c = c.loop-x.invariant.heavy

pub returns-clause-heavy : goal.returns-clause-heavy
returns-clause-heavy c = c.loop-x.invariant.heavy
