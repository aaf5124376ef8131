-- The roots so far are marked.
use Rattle.std.proofs.Common.{◌≡◌, Contains, take}
use Rattle.row_marking.specs.Traces.{Greyed}
use Rattle.row_marking.proofs.mark_roots.Given as goal

abbrev pub invariant-loop-y : goal.invariant-loop-y
invariant-loop-y g l = record {
  kept : g.G.Traced.kept l.g ≡ g.G.Traced.kept l.fn.g;
  greyed : Greyed (Contains (take l.y-index l.roots)) (g.G.Traced.marks l.fn.g) (g.G.Traced.links l.fn.g) l.fn.grey (g.G.Traced.marks l.g) (g.G.Traced.links l.g) l.grey;
}
