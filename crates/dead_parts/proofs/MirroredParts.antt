-- The mirror edges of a contraction, read through the nodes of the dead part's graph: they lead between the same peers
-- and temporaries, each handle of the graph is a candidate's, and there are as many of these as candidates.
use Rattle.std.proofs.Common.{◌≡◌, inl, inr, ℕ, ◌+◌, ◌<◌, ◌≤◌, zero, suc, Bool, true, false, List, [], ◌∷◌, ◌++◌, length, length-append, map, get_or, Option, Some, None, refl, sym, ap, ◌∙◌, subst}
use Rattle.std.proofs.Common.{arith, if◌then◌else◌}
use Rattle.std.proofs.lemmas.Bool.{ltb-true}
use Rattle.std.specs.Prelude.{◌-◌, nat_lt, All, Contains, IsSome, flat_map, slice_get}
use Rattle.std.specs.Option.{option_and_then, option_map, option_to_list}
use Rattle.std.proofs.lemmas.List.{length-map, map-append}
use Rattle.std.proofs.lemmas.List.Elements.{All-contains, All-head, All-tail}
use Rattle.std.proofs.lemmas.Option.{get_or_from_slice_get, same_Some, slice_get-map}
use Rattle.joint_machine.specs.declared.names.HNum.{HNum}
use Rattle.joint_machine.specs.Components.{End, Rises, between_nodes, circle, circle_from, end_at, first_at, mirror_edges, node, temporary}
use Rattle.joint_machine.specs.Control.{IsCandidateHandle, carried_edges, carried_end, peer_of_row}
use Rattle.joint_machine.specs.Cycles.{IsDeadContraction}
use Rattle.joint_machine.specs.Heaps.{is_freed}
use Rattle.joint_machine.specs.Managed.{Managed, OpenCycle, handle_of, candidates_of}
use Rattle.joint_machine.specs.Peers.{Issued, peer_of}
use Rattle.joint_machine.specs.PeerReplay.{PeerReplay, row_of}
use Rattle.joint_machine.proofs.Deciding.{none_some}
use Rattle.joint_machine.proofs.HeapLemmas.{Holds-handle_of, candidates_of-open}
use Rattle.joint_machine.proofs.Members.{All-members, Contains-at, Contains-cons_cases, Contains-here, Contains-flat_map, Contains-flat_map_cases, Contains-map, Contains-map_cases, Contains-nil}
use Rattle.joint_machine.proofs.Members.{Rises-one, at-Contains}
use Rattle.joint_laws.specs.ManagedInvariants.{ManagedInvariant}
use Rattle.joint_laws.proofs.DriverPeerSteps.{holds-handle_of}
use Rattle.known_laws.specs.Pasts.{HasSameDeadPart}
use Rattle.bridge_graph.specs.declared.graph.Node.{Node}
use Rattle.bridge_graph.specs.Handles.{handles_of}
use Rattle.bridge_graph.specs.Parts.{IsBridgeNode, IsPart, Part, numbers_of}
use Rattle.managed_heap.specs.Graphs.{IsDeadGraph, handle_number}
use Rattle.peer_heap.specs.Mirroring.{strong_row}
use Rattle.xref_list.specs.Listing.{IsListing, Listing}
use Rattle.peer_mirror.specs.Carried.{AreBridgeNodes, AreHandlesStrong, carried_end as node_end, carried_to_peers, peer_of_node}
use Rattle.dead_parts.specs.Graphs.{number_at, numbered_comps}

-- mirror edges of components whose members are read through something are the mirror edges, read so
module _ (f : ℕ → ℕ) where
  abbrev both : ℕ × ℕ → ℕ × ℕ
  both e = (f e.0, f e.1)

  -- an end read so; a temporary stays
  abbrev through : End → End
  through (node x) = node (f x)
  through (temporary t) = temporary t

  abbrev through-both : End × End → End × End
  through-both e = (through e.0, through e.1)

  between-map : (edges : List (ℕ × ℕ)) → map between_nodes (map both edges) ≡ map through-both (map between_nodes edges)
  between-map [] = refl
  between-map (e ∷ edges) = ap (λ l. (node (f e.0), node (f e.1)) ∷ l) (between-map edges)

  circle_from-map : (first x : ℕ) (ys : List ℕ) → circle_from (f first) (f x) (map f ys) ≡ map both (circle_from first x ys)
  circle_from-map first x [] = refl
  circle_from-map first x (y ∷ ys) = ap (λ l. (f x, f y) ∷ l) (circle_from-map first y ys)

  circle-map : (members : List ℕ) → circle (map f members) ≡ map both (circle members)
  circle-map [] = refl
  circle-map (x ∷ []) = refl
  circle-map (x ∷ y ∷ ys) = circle_from-map x x (y ∷ ys)

  circles-map : (comps : List (List ℕ)) → flat_map circle (map (map f) comps) ≡ map both (flat_map circle comps)
  circles-map [] = refl
  circles-map (c ∷ comps) =
      ap (λ l. l ++ flat_map circle (map (map f) comps)) (circle-map c)
      ∙ (ap (λ l. map both (circle c) ++ l) (circles-map comps) ∙ sym (map-append both (circle c) (flat_map circle comps)))

  first_at-map : (comps : List (List ℕ)) (i : ℕ) → All (λ members. 0 < length members) comps → i < length comps → first_at (map (map f) comps) i ≡ f (first_at comps i)
  first_at-map [] i some l = absurd (omega arith)
  first_at-map ([] ∷ comps) zero some l = absurd (let h : 0 < 0 = All-head (λ members. 0 < length members) [] comps some in omega arith)
  first_at-map ((x ∷ xs) ∷ comps) zero some l = refl
  first_at-map (c ∷ comps) (suc i) some l = first_at-map comps i (All-tail (λ members. 0 < length members) c comps some) (omega arith)

  -- the end of what is reported at an index
  end_at-map : (comps : List (List ℕ)) (i : ℕ) → All (λ members. 0 < length members) comps → end_at (map (map f) comps) i ≡ through (end_at comps i)
  end_at-map comps i some = ap (λ n. if nat_lt i n then node (first_at (map (map f) comps) i) else temporary (i - n)) (length-map comps (map f))
      ∙ by (nat_lt i (length comps)) (λ t. first_at-map comps i some (ltb-true i (length comps) t))
    where
      by : (b : Bool) → (b ≡ true → first_at (map (map f) comps) i ≡ f (first_at comps i))
          → (if b then node (first_at (map (map f) comps) i) else temporary (i - length comps)) ≡ through (if b then node (first_at comps i) else temporary (i - length comps))
      by true h = ap node (h refl)
      by false h = refl

  pairs-map : (comps : List (List ℕ)) (pairs : List (ℕ × ℕ)) → All (λ members. 0 < length members) comps
      → map (λ p. (end_at (map (map f) comps) p.0, end_at (map (map f) comps) p.1)) pairs ≡ map through-both (map (λ p. (end_at comps p.0, end_at comps p.1)) pairs)
  pairs-map comps [] some = refl
  pairs-map comps (p ∷ pairs) some =
      let ends : ℕ × ℕ → End × End = λ q. (end_at (map (map f) comps) q.0, end_at (map (map f) comps) q.1) in
      ap (λ (x : End). (x, end_at (map (map f) comps) p.1) ∷ map ends pairs) (end_at-map comps p.0 some)
      ∙ (ap (λ (y : End). (through (end_at comps p.0), y) ∷ map ends pairs) (end_at-map comps p.1 some)
      ∙ ap (λ l. (through (end_at comps p.0), through (end_at comps p.1)) ∷ l) (pairs-map comps pairs some))

  pub edges-map : (comps : List (List ℕ)) (heavy : ℕ) (pairs : List (ℕ × ℕ)) → IsListing comps heavy pairs → mirror_edges (map (map f) comps) pairs ≡ map through-both (mirror_edges comps pairs)
  edges-map comps heavy pairs l =
      let crosses : List (End × End) = map (λ p. (end_at comps p.0, end_at comps p.1)) pairs in
      let other : List (End × End) = map (λ p. (end_at (map (map f) comps) p.0, end_at (map (map f) comps) p.1)) pairs in
      ap (λ z. map between_nodes z ++ other) (circles-map comps)
      ∙ (ap (λ z. z ++ other) (between-map (flat_map circle comps))
      ∙ (ap (λ z. map through-both (map between_nodes (flat_map circle comps)) ++ z) (pairs-map comps pairs l.canonical.some)
      ∙ sym (map-append through-both (map between_nodes (flat_map circle comps)) crosses)))

-- so there are as many of them
pub edges-count : (l : Listing) (g : Part) → IsListing l.comps l.heavy l.pairs → length (mirror_edges (numbered_comps g l.comps) l.pairs) ≡ length (mirror_edges l.comps l.pairs)
edges-count l g listing = ap length (edges-map (number_at g) l.comps l.heavy l.pairs listing) ∙ length-map (mirror_edges l.comps l.pairs) (through-both (number_at g))

-- no managed object has the number 0, so nothing there holds a handle
no-row : (t : Managed) → handle_of t 0 ≡ None
no-row t = by (is_freed t.heap 0)
  where
    by : (b : Bool) → (let o : Option ℕ = if b then None else None in o) ≡ None
    by true = refl
    by false = refl

-- the graph shows the handles of these objects: each node's is that of its row
abbrev pub ShowsHandles : Managed → Part → Type 0
ShowsHandles t g = (i : ℕ) (n : Node) → slice_get g.nodes i ≡ Some n → handle_of t n.number.0 ≡ handle_number n.handle

-- the node's row stands at its place
pub row-at : (s : Managed) (dead : List ℕ) (g : Part) → IsDeadGraph s dead g → (i : ℕ) (n : Node) → slice_get g.nodes i ≡ Some n → slice_get dead i ≡ Some n.number.0
row-at s dead g is i n at = ap (λ l. slice_get l i) (sym is.numbers) ∙ (slice_get-map (λ (m : Node). m.number.0) g.nodes i ∙ ap (λ o. option_map (λ (m : Node). m.number.0) o) at)

handle-here : (s : Managed) (dead : List ℕ) (g : Part) → IsDeadGraph s dead g → ShowsHandles s g
handle-here s dead g is i n at =
    let row : option_map (handle_of s) (slice_get dead i) ≡ Some (handle_of s n.number.0) = ap (λ o. option_map (handle_of s) o) (row-at s dead g is i n at) in
    let node : option_map (λ (m : Node). handle_number m.handle) (slice_get g.nodes i) ≡ Some (handle_number n.handle) = ap (λ o. option_map (λ (m : Node). handle_number m.handle) o) at in
    let same : option_map (λ (m : Node). handle_number m.handle) (slice_get g.nodes i) ≡ option_map (handle_of s) (slice_get dead i) =
    sym (slice_get-map (λ (m : Node). handle_number m.handle) g.nodes i) ∙ (ap (λ l. slice_get l i) is.handles ∙ slice_get-map (handle_of s) dead i) in
    same_Some (handle_of s n.number.0) (handle_number n.handle) (sym row ∙ (sym same ∙ node))

-- and of those in which the dead part is the same
pub shows-on : (s t : Managed) (c : OpenCycle) (g : Part) → s.cycle ≡ Some c → IsDeadGraph s c.dead g → HasSameDeadPart s t → ShowsHandles t g
shows-on s t c g e is d = λ i n at. sym (d.handles c e n.number.0 (Contains-at c.dead i n.number.0 (row-at s c.dead g is i n at))) ∙ handle-here s c.dead g is i n at

-- the number of a node
number-is : (g : Part) (i : ℕ) (n : Node) → slice_get g.nodes i ≡ Some n → number_at g i ≡ n.number.0
number-is g i n at = get_or_from_slice_get (numbers_of g.nodes) i n.number.0 0 (slice_get-map (λ (m : Node). m.number.0) g.nodes i ∙ ap (λ o. option_map (λ (m : Node). m.number.0) o) at)

number-past : (nodes : List Node) (i : ℕ) → slice_get nodes i ≡ None → get_or (numbers_of nodes) i 0 ≡ 0
number-past [] i e = refl
number-past (n ∷ nodes) zero e = absurd (none_some n (sym e))
number-past (n ∷ nodes) (suc i) e = number-past nodes i e

-- the peer of a handle that is held; 0 where there is none
abbrev peer-of-held : List Issued → Option ℕ → ℕ
peer-of-held issued o = elim o [ None ↦ 0 | Some h ↦ elim (peer_of issued h) [ None ↦ 0 | Some p ↦ p ] ]

abbrev peer-of-handle : List Issued → Option HNum → ℕ
peer-of-handle issued o = elim o [ None ↦ 0 | Some h ↦ elim (peer_of issued h.0) [ None ↦ 0 | Some p ↦ p ] ]

peer-by : (issued : List Issued) (o : Option HNum) → peer-of-held issued (handle_number o) ≡ peer-of-handle issued o
peer-by issued None = refl
peer-by issued (Some h) = refl

module _ (t : Managed) (g : Part) (shows : ShowsHandles t g) where
  -- the peer of a node's handle is that of its row's
  peer-same : (issued : List Issued) (i : ℕ) → peer_of_row t issued (number_at g i) ≡ peer_of_node issued g.nodes i
  peer-same issued i = by (slice_get g.nodes i) refl
    where
      by : (o : Option Node) → slice_get g.nodes i ≡ o → peer_of_row t issued (number_at g i) ≡ peer_of_node issued g.nodes i
      by None e = ap (λ m. peer_of_row t issued m) (number-past g.nodes i e)
          ∙ (ap (peer-of-held issued) (no-row t) ∙ sym (ap (λ o. peer-of-handle issued (option_and_then (λ (n : Node). n.handle) o)) e))
      by (Some n) e =
          ap (λ m. peer_of_row t issued m) (number-is g i n e) ∙ (ap (peer-of-held issued) (shows i n e)
          ∙ (peer-by issued n.handle ∙ sym (ap (λ o. peer-of-handle issued (option_and_then (λ (m : Node). m.handle) o)) e)))

  -- so edges between nodes are carried where those between their rows are
  end-same : (issued : List Issued) (e : End) → node_end issued g.nodes e ≡ carried_end t issued (through (number_at g) e)
  end-same issued (node i) = ap node (sym (peer-same issued i))
  end-same issued (temporary c) = refl

  carried-same : (issued : List Issued) (edges : List (End × End)) → carried_to_peers issued g.nodes edges ≡ carried_edges t issued (map (through-both (number_at g)) edges)
  carried-same issued [] = refl
  carried-same issued (e ∷ edges) =
      ap (λ (x : End). (x, node_end issued g.nodes e.1) ∷ carried_to_peers issued g.nodes edges) (end-same issued e.0)
      ∙ (ap (λ (y : End). (carried_end t issued (through (number_at g) e.0), y) ∷ carried_to_peers issued g.nodes edges) (end-same issued e.1)
      ∙ ap (λ l. (carried_end t issued (through (number_at g) e.0), carried_end t issued (through (number_at g) e.1)) ∷ l) (carried-same issued edges))

  pub carried-is : (issued : List Issued) (l : Listing) → IsListing l.comps l.heavy l.pairs
      → carried_to_peers issued g.nodes (mirror_edges l.comps l.pairs) ≡ carried_edges t issued (mirror_edges (numbered_comps g l.comps) l.pairs)
  carried-is issued l listing = carried-same issued (mirror_edges l.comps l.pairs) ∙ ap (carried_edges t issued) (sym (edges-map (number_at g) l.comps l.heavy l.pairs listing))

  -- a node whose row is a bridge row is a bridge node
  some-handle : (o : Option HNum) (h : ℕ) → handle_number o ≡ Some h → IsSome o
  some-handle None h e = absurd (none_some h e)
  some-handle (Some k) h e = refl

  bridge-node : (i h : ℕ) → handle_of t (number_at g i) ≡ Some h → IsBridgeNode g.nodes i
  bridge-node i h e = by (slice_get g.nodes i) refl
    where
      by : (o : Option Node) → slice_get g.nodes i ≡ o → IsBridgeNode g.nodes i
      by None at = absurd (none_some h (sym (no-row t) ∙ (ap (handle_of t) (sym (number-past g.nodes i at)) ∙ e)))
      by (Some n) at = record { node = n; there = at; held = some-handle n.handle h (sym (shows i n at) ∙ (ap (handle_of t) (sym (number-is g i n at)) ∙ e)) }

  -- members of components are bridge nodes
  pub members-bridge : (dead : List ℕ) (comps : List (List ℕ)) (heavy : List ℕ) (pairs : List (ℕ × ℕ)) → IsDeadContraction t dead (numbered_comps g comps) heavy pairs → AreBridgeNodes g.nodes comps
  members-bridge dead comps heavy pairs k = λ i x m.
      let at : slice_get (numbered_comps g comps) i ≡ Some (map (number_at g) m.0) = slice_get-map (map (number_at g)) comps i ∙ ap (λ o. option_map (map (number_at g)) o) m.1 in
      let b = (k.members (number_at g x)).0 (i, (map (number_at g) m.0, at, Contains-map (number_at g) m.0 x m.2)) in
      bridge-node x b.1.0 (Holds-handle_of t (number_at g x) b.1.0 b.1.1)

  -- each handle of the graph is a candidate's
  handle-of-node : (o : Option HNum) (h : HNum) → Contains (option_to_list o) h → o ≡ Some h
  handle-of-node None h c = absurd (Contains-nil h c)
  handle-of-node (Some k) h c = elim (Contains-cons_cases k [] h c) [ inl e ↦ ap (λ z. Some z) e | inr d ↦ absurd (Contains-nil h d) ]

  module _ (s : Managed) (c : OpenCycle) (graph : IsDeadGraph s c.dead g) (kept : ManagedInvariant t) (opened : t.cycle ≡ Some c) where
    candidate : (h : HNum) → Contains (handles_of g.nodes) h → (i : ℕ) × IsCandidateHandle t i h.0
    candidate h there =
        let r = Contains-flat_map_cases (λ (n : Node). option_to_list n.handle) g.nodes h there in
        let at = at-Contains g.nodes r.0 r.1 in
        let held : handle_of t r.0.number.0 ≡ Some h.0 = shows at.0 r.0 at.1 ∙ ap handle_number (handle-of-node r.0.handle h r.2) in
        let dead : Contains c.dead r.0.number.0 = Contains-at c.dead at.0 r.0.number.0 (row-at s c.dead g graph at.0 r.0 at.1) in
        let listed : Contains c.candidates r.0.number.0 = ((kept.dead c opened).candidates r.0.number.0).1 (dead, (h.0, holds-handle_of t r.0.number.0 h.0 kept.places held)) in
        let place = at-Contains c.candidates r.0.number.0 listed in
        (place.0, (r.0.number.0, subst (λ l. slice_get l place.0 ≡ Some r.0.number.0) (sym (candidates_of-open t c opened)) place.1, held))

    pub handles-strong : (p : PeerReplay) → ((i h : ℕ) → IsCandidateHandle t i h → row_of p h ≡ Some strong_row) → AreHandlesStrong p g.nodes
    handles-strong p strong_ones = All-members (λ (h : HNum). row_of p h.0 ≡ Some strong_row) (handles_of g.nodes) (λ h there. (let w = candidate h there in strong_ones w.0 h.0 w.1))

-- the numbers of the bridge nodes, one for each handle
abbrev number-if : Node → List ℕ
number-if n = map (λ (h : HNum). n.number.0) (option_to_list n.handle)

abbrev bridge-numbers : List Node → List ℕ
bridge-numbers nodes = flat_map number-if nodes

numbers-count : (nodes : List Node) → length (bridge-numbers nodes) ≡ length (handles_of nodes)
numbers-count [] = refl
numbers-count (n ∷ nodes) =
    length-append (number-if n) (bridge-numbers nodes)
    ∙ (ap (λ k. k + length (bridge-numbers nodes)) (length-map (option_to_list n.handle) (λ (h : HNum). n.number.0))
    ∙ (ap (λ k. length (option_to_list n.handle) + k) (numbers-count nodes) ∙ sym (length-append (option_to_list n.handle) (handles_of nodes))))

number-among : (nodes : List Node) (m : ℕ) → Contains (bridge-numbers nodes) m → Contains (numbers_of nodes) m
number-among nodes m c =
    let r = Contains-flat_map_cases number-if nodes m c in
    let w = Contains-map_cases (λ (h : HNum). r.0.number.0) (option_to_list r.0.handle) m r.2 in
    subst (Contains (numbers_of nodes)) w.2 (Contains-map (λ (n : Node). n.number.0) nodes r.0 r.1)

numbers-rise : (nodes : List Node) → Rises (numbers_of nodes) → Rises (bridge-numbers nodes)
numbers-rise [] rise = tt
numbers-rise (n ∷ nodes) rise = by n.handle (numbers-rise nodes rise.1)
  where
    by : (o : Option HNum) → Rises (bridge-numbers nodes) → Rises (map (λ (h : HNum). n.number.0) (option_to_list o) ++ bridge-numbers nodes)
    by None r = r
    by (Some h) r = (All-members (λ y. n.number.0 < y) (bridge-numbers nodes) (λ y c. All-contains (λ y. n.number.0 < y) (numbers_of nodes) y rise.0 (number-among nodes y c)), r)

-- there are as many candidates as handles
module _ (t : Managed) (g : Part) (shows : ShowsHandles t g) (s : Managed) (c : OpenCycle) (graph : IsDeadGraph s c.dead g) (kept : ManagedInvariant t) (opened : t.cycle ≡ Some c) where
  named-handle : (o : Option HNum) (h : ℕ) → handle_number o ≡ Some h → (k : HNum) × (o ≡ Some k)
  named-handle None h e = absurd (none_some h e)
  named-handle (Some k) h e = (k, refl)

  candidate-numbered : (m : ℕ) → Contains c.candidates m → Contains (bridge-numbers g.nodes) m
  candidate-numbered m there =
      let w = ((kept.dead c opened).candidates m).0 there in
      let n = Contains-map_cases (λ (n : Node). n.number.0) g.nodes m (subst (λ l. Contains l m) (sym graph.numbers) w.0) in
      let at = at-Contains g.nodes n.0 n.1 in
      let held : handle_number n.0.handle ≡ Some w.1.0 = sym (shows at.0 n.0 at.1) ∙ (ap (handle_of t) n.2 ∙ Holds-handle_of t m w.1.0 w.1.1) in
      let k = named-handle n.0.handle w.1.0 held in
      let one : Contains (number-if n.0) m = subst (Contains (number-if n.0)) n.2
      (subst (λ (o : Option HNum). Contains (map (λ (h : HNum). n.0.number.0) (option_to_list o)) n.0.number.0) (sym k.1) (Contains-here n.0.number.0 [])) in
      Contains-flat_map number-if g.nodes n.0 m n.1 one

  numbered-candidate : (m : ℕ) → Contains (bridge-numbers g.nodes) m → Contains c.candidates m
  numbered-candidate m there =
      let n = Contains-flat_map_cases number-if g.nodes m there in
      let h = Contains-map_cases (λ (h : HNum). n.0.number.0) (option_to_list n.0.handle) m n.2 in
      let at = at-Contains g.nodes n.0 n.1 in
      let held : handle_of t n.0.number.0 ≡ Some h.0.0 = shows at.0 n.0 at.1 ∙ ap handle_number (handle-of-node t g shows n.0.handle h.0 h.1) in
      let dead : Contains c.dead n.0.number.0 = Contains-at c.dead at.0 n.0.number.0 (row-at s c.dead g graph at.0 n.0 at.1) in
      subst (Contains c.candidates) h.2 (((kept.dead c opened).candidates n.0.number.0).1 (dead, (h.0.0, holds-handle_of t n.0.number.0 h.0.0 kept.places held)))

  pub candidates-same : IsPart g.nodes g.edges → length (candidates_of t) ≡ length (handles_of g.nodes)
  candidates-same part =
      let same : c.candidates ≡ bridge-numbers g.nodes = Rises-one c.candidates (bridge-numbers g.nodes)
      (kept.dead c opened).rise (numbers-rise g.nodes part.rising) candidate-numbered numbered-candidate in
      ap length (candidates_of-open t c opened) ∙ (ap length same ∙ numbers-count g.nodes)

  pub candidates-few : IsPart g.nodes g.edges → length (candidates_of t) ≤ length (handles_of g.nodes)
  candidates-few part = omega (arith, candidates-same part)
