-- The grey rows stay one list, and each turn scans one more of them.
use Rattle.std.proofs.Common.{◌≡◌, ℕ, ◌-◌, ◌≤◌, List}
use Rattle.row_marking.specs.Traces.{BlackensTo, Chained, IsGreyList}
use Rattle.row_marking.proofs.scan_some.Given as goal

abbrev pub invariant-loop-head : goal.invariant-loop-head
invariant-loop-head g l = record {
  kept : g.G.Traced.kept l.g ≡ g.G.Traced.kept l.fn.g;
  most : l.scanned ≤ l.fn.most;
  list : IsGreyList (g.G.Traced.marks l.g) (g.G.Traced.links l.g) l.head;
  steps : (greys : List ℕ) → Chained (g.G.Traced.marks l.fn.g) (g.G.Traced.links l.fn.g) l.fn.grey greys
      → BlackensTo (g.G.Traced.leads (g.G.Traced.kept l.fn.g)) l.scanned (g.G.Traced.marks l.fn.g) greys (g.G.Traced.marks l.g) (g.G.Traced.links l.g) l.head;
}

abbrev pub decreases-loop-head : goal.decreases-loop-head
decreases-loop-head g l = l.fn.most - l.scanned
