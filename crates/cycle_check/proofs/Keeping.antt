-- What was kept, by the report: components that references lead to from one with a kept member are marked, so a marked
-- one with a lost member shows a pair, and where there is none nothing is lost.
use Rattle.std.proofs.Common.{◌≡◌, ℕ, ◌<◌, ◌↔◌, Bool, List, length, arith}
use Rattle.std.specs.List.{Contains}
use Rattle.bridge_graph.specs.declared.packing.Link.{Link}
use Rattle.bridge_graph.specs.Packing.{IsPacked, packed_row}
use Rattle.joint_machine.specs.Walks.{Reached, Reaches}
use Rattle.joint_machine.proofs.WalkLemmas.{Reaches-mono}
use Rattle.array_graphs.specs.Graphs.{AreEdges, HasEdge, IsSet, LeadsInRow}
use Rattle.array_graphs.proofs.Edges.{edge-end, packed-lead}
use Rattle.reachability.specs.Marks.{HasMark}
use Rattle.cycle_check.specs.Judging.{IsWhole, Loses}
use Rattle.cycle_check.specs.Reports.{IsTold, comps_in}
use Rattle.cycle_check.specs.Walking.{HasKept, HasLost}
use Rattle.cycle_check.proofs.Walked.{member-from, member-to}

-- references that were packed lead to components
pub packed-ends : (links : List Link) (n : ℕ) (firsts seconds : List ℕ) → AreEdges n links → IsPacked firsts seconds links → length firsts ≡ n → (x y : ℕ) → LeadsInRow firsts seconds x y → y < length firsts
packed-ends links n firsts seconds a p s x y l =
    let e = edge-end links n a x y ((packed-lead links n firsts seconds a p s x y).0 l) in omega (arith, e, s)

module _ (starts members : List ℕ) (xrefs : List Link) (kept firsts seconds : List ℕ) (lead : (x y : ℕ) → LeadsInRow firsts seconds x y ↔ HasEdge xrefs x y) where
  on-edge : (x y : ℕ) → LeadsInRow firsts seconds x y → HasEdge xrefs x y
  on-edge x y l = (lead x y).0 l

  edge-on : (x y : ℕ) → HasEdge xrefs x y → LeadsInRow firsts seconds x y
  edge-on x y e = (lead x y).1 e

  pub kept-whole : (roots : List ℕ) (marks : List Bool) → ((c : ℕ) → Contains roots c ↔ ((c < length starts) × HasKept starts members kept c))
      → ((k : ℕ) → HasMark marks k ↔ Reached (Contains roots) (LeadsInRow firsts seconds) k)
      → ((c : ℕ) → c < length starts → HasMark marks c → HasLost starts members kept c → ⊥)
      → IsWhole (IsTold (comps_in starts members) (HasEdge xrefs)) (IsSet kept) (λ y. IsSet kept y → ⊥)
  kept-whole roots marks listed exact none x y w =
      let t = w.walk in
      let s = member-from starts members t.from x t.source in
      let d = member-from starts members t.to y t.destination in
      let root : Contains roots t.from = (listed t.from).1 (s.0, (x, s.1, w.holds)) in
      let reach : Reached (Contains roots) (LeadsInRow firsts seconds) t.to = record { root = t.from; starts = root; reaches = Reaches-mono (HasEdge xrefs) (LeadsInRow firsts seconds) edge-on t.from t.to t.leads } in
      none t.to d.0 ((exact t.to).1 reach) (y, d.1, w.gone)

  pub kept-torn : (root comp x y : ℕ) → root < length starts → comp < length starts → Reaches (LeadsInRow firsts seconds) root comp
      → Contains (packed_row starts members root) x → IsSet kept x → Contains (packed_row starts members comp) y → (IsSet kept y → ⊥)
      → Loses (IsTold (comps_in starts members) (HasEdge xrefs)) (IsSet kept) (λ z. IsSet kept z → ⊥) x y
  kept-torn root comp x y r c reach mx kx my ly = record {
    holds = kx;
    walk = record {
      from = root;
      to = comp;
      source = member-to starts members root x r mx;
      destination = member-to starts members comp y c my;
      leads = Reaches-mono (LeadsInRow firsts seconds) (HasEdge xrefs) on-edge root comp reach;
    };
    gone = ly;
  }
