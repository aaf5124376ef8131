-- The mirror edges join members of components and temporaries, and the references that are carried from them join peers
-- under strong handles and temporaries.
use Rattle.std.proofs.Common.{◌≡◌, ℕ, zero, suc, ◌+◌, ◌-◌, ◌<◌, ◌≤◌, inl, inr, List, [], ◌∷◌, ◌++◌, length, map, take, Some, refl, sym, ap, subst, ◌∙◌, arith, length-append}
use Rattle.std.specs.Prelude.{All, Contains, flat_map, slice_get}
use Rattle.std.proofs.lemmas.Option.{same_Some}
use Rattle.std.proofs.lemmas.List.{map-append}
use Rattle.std.proofs.lemmas.List.Elements.{All-contains, Contains-append_cases}
use Rattle.joint_machine.specs.Components.{End, between_nodes, circle, end_at, first_at, mirror_edges, node, temporary}
use Rattle.joint_machine.specs.PeerReplay.{PeerReplay, strong_peers}
use Rattle.joint_machine.proofs.Members.{at-Contains, Contains-flat_map_cases, Contains-map_cases, take-next}
use Rattle.joint_laws.specs.PeerInvariants.{PeerInvariant}
use Rattle.joint_laws.proofs.Circles.{circle-ends, first-there}
use Rattle.joint_laws.proofs.Mirrors.{EndIs, comp, weight, end-is}
use Rattle.joint_machine.specs.Peers.{Issued}
use Rattle.bridge_graph.specs.declared.graph.Node.{Node}
use Rattle.bridge_graph.specs.Parts.{IsBridgeNode}
use Rattle.peer_heap.specs.Cycles.{reserve_pushed}
use Rattle.peer_heap.specs.Mirrors.{AreEndsStrong}
use Rattle.peer_heap.specs.Sides.{PeerModel, Reserve}
use Rattle.xref_list.specs.declared.components.End.{End as Answered}
use Rattle.xref_list.specs.declared.components.End.TheVariants as variants
use Rattle.xref_list.specs.Ends.{end_of, ends_of}
use Rattle.xref_list.specs.Listing.{IsBetween, IsListing}
use Rattle.peer_mirror.specs.Carried.{AreBridgeNodes, AreHandlesStrong, IsEdgeEnd, carried_end, carried_to_peers, peer_of_node, with_pushed}
use Rattle.peer_mirror.proofs.Nodes.{peer_of_node-is, strong-node}

-- the end of what is reported at an index is a bridge node, or the temporary of a heavy class
end-there : (nodes : List Node) (comps : List (List ℕ)) (heavy i : ℕ) → All (λ members. 0 < length members) comps
    → AreBridgeNodes nodes comps → i < length comps + heavy → IsEdgeEnd nodes heavy (end_at comps i)
end-there nodes comps heavy i some members l = by (end-is comps i)
  where
    by : EndIs comps i → IsEdgeEnd nodes heavy (end_at comps i)
    by (comp within e) = subst (IsEdgeEnd nodes heavy) (sym e) (members i (first_at comps i) (first-there comps i some within))
    by (weight past e) = subst (IsEdgeEnd nodes heavy) (sym e) (omega (arith, past, l))

-- so is each end of a mirror edge
pub edge-ends : (nodes : List Node) (comps : List (List ℕ)) (heavy : ℕ) (pairs : List (ℕ × ℕ)) → IsListing comps heavy pairs
    → AreBridgeNodes nodes comps → (a b : End) → Contains (mirror_edges comps pairs) (a, b) → IsEdgeEnd nodes heavy a × IsEdgeEnd nodes heavy b
edge-ends nodes comps heavy pairs l members a b c = elim (Contains-append_cases (map between_nodes (flat_map circle comps)) (map (λ (p : ℕ × ℕ). (end_at comps p.0, end_at comps p.1)) pairs) (a, b) c) [
  | inl d ↦ (
      let r = Contains-map_cases between_nodes (flat_map circle comps) (a, b) d in
      let m = Contains-flat_map_cases circle comps r.0 r.1 in
      let at = at-Contains comps m.0 m.1 in
      let ends = circle-ends m.0 r.0.0 r.0.1 m.2 in
      subst (λ (p : End × End). IsEdgeEnd nodes heavy p.0 × IsEdgeEnd nodes heavy p.1) r.2 (members at.0 r.0.0 (m.0, at.1, ends.0), members at.0 r.0.1 (m.0, at.1, ends.1)))
  | inr d ↦ (
      let r = Contains-map_cases (λ (p : ℕ × ℕ). (end_at comps p.0, end_at comps p.1)) pairs (a, b) d in
      let w : IsBetween (length comps + heavy) r.0 = All-contains (IsBetween (length comps + heavy)) pairs r.0 l.ends r.1 in
      subst (λ (p : End × End). IsEdgeEnd nodes heavy p.0 × IsEdgeEnd nodes heavy p.1) r.2
      (end-there nodes comps heavy r.0.0 l.canonical.some members w.source, end-there nodes comps heavy r.0.1 l.canonical.some members w.destination))
]

-- which of these the answered end is
pub node-there : (nodes : List Node) (temps members i : ℕ) (e : End) → variants.Node i ≡ end_of members e → IsEdgeEnd nodes temps e → IsBridgeNode nodes i
node-there nodes temps members i (node j) q w = (let same : j ≡ i = cc in subst (IsBridgeNode nodes) same w)
node-there nodes temps members i (temporary t) q w = (let f : ⊥ = cc in absurd f)

pub temp-there : (nodes : List Node) (temps members k : ℕ) (e : End) → variants.Temp k ≡ end_of members e → IsEdgeEnd nodes temps e → (members ≤ k) × (k - members < temps)
temp-there nodes temps members k (node j) q w = (let f : ⊥ = cc in absurd f)
temp-there nodes temps members k (temporary t) q w = (let same : k ≡ t + members = cc in (omega (arith, same), omega (arith, same, w)))

pub node-carried : (issued : List Issued) (nodes : List Node) (members i p : ℕ) (e : End) → variants.Node i ≡ end_of members e → p ≡ peer_of_node issued nodes i → node p ≡ carried_end issued nodes e
node-carried issued nodes members i p (node j) q is = (let same : i ≡ j = cc in ap (λ k. node k) (is ∙ ap (peer_of_node issued nodes) same))
node-carried issued nodes members i p (temporary t) q is = (let f : ⊥ = cc in absurd f)

pub temp-carried : (issued : List Issued) (nodes : List Node) (members k : ℕ) (e : End) → variants.Temp k ≡ end_of members e → temporary (k - members) ≡ carried_end issued nodes e
temp-carried issued nodes members k (node j) q = (let f : ⊥ = cc in absurd f)
temp-carried issued nodes members k (temporary t) q = (let same : k ≡ t + members = cc in let left : k - members ≡ t = omega (arith, same) in ap (λ n. temporary n) left)

-- more temporaries
pub end-more : (nodes : List Node) (heavy temps : ℕ) (e : End) → heavy ≤ temps → IsEdgeEnd nodes heavy e → IsEdgeEnd nodes temps e
end-more nodes heavy temps (node i) l w = w
end-more nodes heavy temps (temporary t) l w = omega (arith, l, w)

-- a peer that an end is carried to is under a strong handle
end-strong : (s : PeerReplay) (nodes : List Node) (heavy : ℕ) (e : End) (p : ℕ) → PeerInvariant s → AreHandlesStrong s nodes
    → IsEdgeEnd nodes heavy e → carried_end s.peers.issued nodes e ≡ node p → Contains (strong_peers s.peers.issued s.table) p
end-strong s nodes heavy (node i) p k all w is =
    let n = strong-node s nodes i k all w in
    let same : peer_of_node s.peers.issued nodes i ≡ p = cc in
    subst (Contains (strong_peers s.peers.issued s.table)) (sym (peer_of_node-is s nodes i n) ∙ same) n.listed
end-strong s nodes heavy (temporary t) p k all w is = (let f : ⊥ = cc in absurd f)

pub carried-strong : (s : PeerReplay) (nodes : List Node) (comps : List (List ℕ)) (heavy : ℕ) (pairs : List (ℕ × ℕ)) → PeerInvariant s → AreHandlesStrong s nodes
    → IsListing comps heavy pairs → AreBridgeNodes nodes comps → AreEndsStrong s (carried_to_peers s.peers.issued nodes (mirror_edges comps pairs))
carried-strong s nodes comps heavy pairs k all l members p end = elim end.1 [
  | inl c ↦ (
      let r = Contains-map_cases carry (mirror_edges comps pairs) (node p, end.0) c in
      let ends = edge-ends nodes comps heavy pairs l members r.0.0 r.0.1 r.1 in
      end-strong s nodes heavy r.0.0 p k all ends.0 (ap (λ (z : End × End). z.0) r.2))
  | inr c ↦ (
      let r = Contains-map_cases carry (mirror_edges comps pairs) (end.0, node p) c in
      let ends = edge-ends nodes comps heavy pairs l members r.0.0 r.0.1 r.1 in
      end-strong s nodes heavy r.0.1 p k all ends.1 (ap (λ (z : End × End). z.1) r.2))
]
  where
    carry : End × End → End × End
    carry e = (carried_end s.peers.issued nodes e.0, carried_end s.peers.issued nodes e.1)

-- the mirror edge that is answered at an index
pub edge-at : (count : ℕ) (edges : List (End × End)) (i : ℕ) (y : Answered × Answered)
    → slice_get (map (ends_of count) edges) i ≡ Some y → (e : End × End) × (slice_get edges i ≡ Some e) × (ends_of count e ≡ y)
edge-at count [] i y at = (let f : ⊥ = cc in absurd f)
edge-at count (e ∷ edges) zero y at = (e, refl, same_Some (ends_of count e) y at)
edge-at count (e ∷ edges) (suc i) y at = edge-at count edges i y at

-- the reference of one edge more waits
pub pushed-next : (old mid new : PeerModel) (nodes : List Node) (edges : List (End × End)) (i : ℕ) (e : End × End) (from to : End)
    → slice_get edges i ≡ Some e → mid ≡ with_pushed old (carried_to_peers old.state.peers.issued nodes (take i edges))
    → from ≡ carried_end mid.state.peers.issued nodes e.0 → to ≡ carried_end mid.state.peers.issued nodes e.1
    → new ≡ record mid { reserve = reserve_pushed mid.reserve from to } → new ≡ with_pushed old (carried_to_peers old.state.peers.issued nodes (take (i + 1) edges))
pushed-next old mid new nodes edges i e from to at so_far is-from is-to put =
    let issued = old.state.peers.issued in
    let carry : End × End → End × End = λ z. (carried_end issued nodes z.0, carried_end issued nodes z.1) in
    let refs : carried_to_peers issued nodes (take (i + 1) edges) ≡ carried_to_peers issued nodes (take i edges) ++ carry e ∷ [] = ap (map carry) (take-next edges i e at)
    ∙ map-append carry (take i edges) (e ∷ []) in
    let before : List (End × End) = carried_to_peers issued nodes (take i edges) in
    let room : old.reserve.refs - length before - 1 ≡ old.reserve.refs - length (before ++ carry e ∷ []) = omega (arith, length-append before (carry e ∷ [])) in
    put
    ∙ (ap (λ (z : End). record mid { reserve = reserve_pushed mid.reserve z to }) is-from
    ∙ (ap (λ (z : End). record mid { reserve = reserve_pushed mid.reserve (carried_end mid.state.peers.issued nodes e.0) z }) is-to
    ∙ (ap (λ (z : PeerModel). record z { reserve = reserve_pushed z.reserve (carried_end z.state.peers.issued nodes e.0) (carried_end z.state.peers.issued nodes e.1) }) so_far
    ∙ (ap (λ n. record old { reserve = record old.reserve { waiting = before ++ carry e ∷ []; refs = n } }) room
    ∙ ap (with_pushed old) (sym refs)))))

-- so the ends of those that wait are, where the state is as before
pub installed-ends : (old mid new : PeerModel) (r : Reserve) (nodes : List Node) (edges : List (End × End))
    → mid ≡ record old { reserve = r } → new ≡ with_pushed mid (carried_to_peers mid.state.peers.issued nodes edges)
    → AreEndsStrong old.state (carried_to_peers old.state.peers.issued nodes edges) → AreEndsStrong new.state new.reserve.waiting
installed-ends old mid new r nodes edges reserved pushed ends =
    let all : new ≡ with_pushed (record old { reserve = r }) (carried_to_peers old.state.peers.issued nodes edges) = pushed
    ∙ ap (λ (z : PeerModel). with_pushed z (carried_to_peers z.state.peers.issued nodes edges)) reserved in
    subst (λ (z : PeerModel). AreEndsStrong z.state z.reserve.waiting) (sym all) ends
