-- Mirror edges are carried to peers one by one; and what the pass finds of the graph over all numbers is so of the dead
-- part.
use Rattle.std.proofs.Common.{◌≡◌, ◌↔◌, ℕ, zero, suc, ◌+◌, ◌-◌, List, [], ◌∷◌, ◌++◌, map, take, Some, refl, ap, ◌∙◌, arith}
use Rattle.std.specs.Prelude.{Contains, slice_get}
use Rattle.std.proofs.lemmas.List.{map-append}
use Rattle.std.proofs.lemmas.Option.{same_Some}
use Rattle.joint_machine.specs.Components.{End, IsContraction, node, temporary}
use Rattle.joint_machine.specs.Control.{carried_edges, carried_end, peer_of_row}
use Rattle.joint_machine.specs.Cycles.{DeadEdge, IsDeadContraction}
use Rattle.joint_machine.specs.Managed.{IsBridge, Managed}
use Rattle.joint_machine.specs.Peers.{Issued}
use Rattle.joint_machine.proofs.Members.{take-next}
use Rattle.joint_laws.proofs.SameGraphs.{contraction-same}
use Rattle.joint_replay.specs.Plain.{dead_of}
use Rattle.bridge_graph.specs.Parts.{IsBridgeNode, NodeLeads, Part}
use Rattle.xref_list.specs.declared.components.End.{End as Answered}
use Rattle.xref_list.specs.declared.components.End.TheVariants as variants
use Rattle.xref_list.specs.Ends.{end_of, ends_of}

-- which end it is that was answered
pub node-carried : (s : Managed) (issued : List Issued) (members m p : ℕ) (e : End) → variants.Node m ≡ end_of members e → p ≡ peer_of_row s issued m → node p ≡ carried_end s issued e
node-carried s issued members m p (node j) q is = (let same : m ≡ j = cc in ap (λ k. node k) (is ∙ ap (peer_of_row s issued) same))
node-carried s issued members m p (temporary t) q is = (let f : ⊥ = cc in absurd f)

pub temp-carried : (s : Managed) (issued : List Issued) (members k : ℕ) (e : End) → variants.Temp k ≡ end_of members e → temporary (k - members) ≡ carried_end s issued e
temp-carried s issued members k (node j) q = (let f : ⊥ = cc in absurd f)
temp-carried s issued members k (temporary t) q = (let same : k ≡ t + members = cc in let left : k - members ≡ t = omega (arith, same) in ap (λ n. temporary n) left)

-- the mirror edge that is answered at an index
pub edge-at : (count : ℕ) (edges : List (End × End)) (i : ℕ) (y : Answered × Answered)
    → slice_get (map (ends_of count) edges) i ≡ Some y → (e : End × End) × (slice_get edges i ≡ Some e) × (ends_of count e ≡ y)
edge-at count [] i y at = (let f : ⊥ = cc in absurd f)
edge-at count (e ∷ edges) zero y at = (e, refl, same_Some (ends_of count e) y at)
edge-at count (e ∷ edges) (suc i) y at = edge-at count edges i y at

-- one edge more
pub edges-next : (s : Managed) (issued : List Issued) (edges : List (End × End)) (i : ℕ) (e : End × End) → slice_get edges i ≡ Some e
    → carried_edges s issued (take (i + 1) edges) ≡ carried_edges s issued (take i edges) ++ (carried_end s issued e.0, carried_end s issued e.1) ∷ []
edges-next s issued edges i e at =
    let carry : End × End → End × End = λ z. (carried_end s issued z.0, carried_end s issued z.1) in
    ap (map carry) (take-next edges i e at) ∙ map-append carry (take i edges) (e ∷ [])

-- the contraction of the graph
pub contraction-dead : (s : Managed) (g : Part) (comps : List (List ℕ)) (heavy : List ℕ) (pairs : List (ℕ × ℕ))
    → ((x : ℕ) → IsBridgeNode g.nodes x ↔ (Contains (dead_of s) x × IsBridge s x))
    → ((a k : ℕ) → NodeLeads g.edges a k ↔ DeadEdge s (dead_of s) a k)
    → IsContraction (IsBridgeNode g.nodes) (NodeLeads g.edges) comps heavy pairs → IsDeadContraction s (dead_of s) comps heavy pairs
contraction-dead s g comps heavy pairs b e c = contraction-same (IsBridgeNode g.nodes) (λ m. Contains (dead_of s) m × IsBridge s m) (NodeLeads g.edges) (DeadEdge s (dead_of s)) comps heavy pairs b e c
