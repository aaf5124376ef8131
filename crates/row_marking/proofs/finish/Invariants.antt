-- The marking stays on its way. Each turn takes a grey row away, and each row that becomes grey wasn't marked before.
use Rattle.std.proofs.Common.{◌≡◌, ℕ, ◌+◌, ◌*◌, List, Bool, length}
use Rattle.reachability.specs.Marks.{unmarked}
use Rattle.row_marking.specs.Traces.{Greying, IsGreying, greys}
use Rattle.row_marking.proofs.finish.Given as goal

abbrev pub invariant-loop-head : goal.invariant-loop-head
invariant-loop-head g l = record {
  kept : g.G.Traced.kept l.g ≡ g.G.Traced.kept l.fn.g;
  goes : IsGreying (g.G.Traced.leads (g.G.Traced.kept l.fn.g)) (g.G.Traced.marks l.g) (g.G.Traced.links l.g) l.head;
  greying : (roots : List ℕ) (before : List Bool) → Greying roots (g.G.Traced.leads (g.G.Traced.kept l.fn.g)) before (g.G.Traced.marks l.fn.g) (g.G.Traced.links l.fn.g) l.fn.grey
      → Greying roots (g.G.Traced.leads (g.G.Traced.kept l.fn.g)) before (g.G.Traced.marks l.g) (g.G.Traced.links l.g) l.head;
}

abbrev pub decreases-loop-head : goal.decreases-loop-head
decreases-loop-head g l = 2 * unmarked (g.G.Traced.marks l.g) + length (greys (g.G.Traced.links l.g) (length (g.G.Traced.marks l.g)) l.head)
