-- The bridge nodes of a dead part whose handles are strong: each has a live peer under its handle.
use Rattle.std.proofs.Common.{◌≡◌, ℕ, zero, suc, List, [], Option, Some, None, refl, sym, ap, subst, ◌∙◌, arith, get_or, if◌then◌else◌}
use Rattle.std.specs.Prelude.{Contains, IsSome}
use Rattle.std.specs.Option.{option_and_then, option_to_list}
use Rattle.std.proofs.lemmas.Option.{same_Some, slice_get-get_or}
use Rattle.std.proofs.lemmas.List.Elements.{All-contains}
use Rattle.joint_machine.specs.declared.names.HNum.{HNum}
use Rattle.joint_machine.specs.declared.names.PNum.{PNum}
use Rattle.peer_heap.specs.Rows.{number_of}
use Rattle.joint_machine.specs.Heaps.{IsLive, numbered_at}
use Rattle.joint_machine.specs.Peers.{Issued, peer_of, held, strong}
use Rattle.joint_machine.specs.PeerReplay.{PeerReplay, TableRow, row_of, strong_peers, table_target}
use Rattle.joint_machine.proofs.Deciding.{none_some}
use Rattle.joint_machine.proofs.Members.{Contains-at, Contains-flat_map, Contains-here}
use Rattle.joint_machine.proofs.Numbered.{numbered-within}
use Rattle.joint_laws.specs.PeerInvariants.{PeerInvariant, IsTabled, IsIssued}
use Rattle.joint_laws.proofs.MarkingKeeping.{strong-listed}
use Rattle.bridge_graph.specs.declared.graph.Node.{Node}
use Rattle.bridge_graph.specs.Handles.{handle_at, handles_of}
use Rattle.bridge_graph.specs.Parts.{HasNode, IsBridgeNode}
use Rattle.peer_heap.specs.Mirroring.{strong_row}
use Rattle.peer_mirror.specs.Carried.{AreHandlesStrong, peer_of_node}
use Rattle.peer_heap.proofs.Steps.{row-tabled}

-- what holds of a bridge node: its handle, and the peer under it
pub record IsStrongNode (s : PeerReplay) (nodes : List Node) (i : ℕ) : Type 0 where
  pub handle : HNum
  pub held : handle_at nodes i ≡ Some handle
  pub peer : ℕ
  pub issued : peer_of s.peers.issued handle.0 ≡ Some peer
  pub target : table_target s handle.0 ≡ Some peer
  pub live : IsLive s.peers.heap peer
  pub listed : Contains (strong_peers s.peers.issued s.table) peer

some-there : (o : Option HNum) → IsSome o → (h : HNum) × (o ≡ Some h)
some-there None e = absurd (let f : ⊥ = cc in f)
some-there (Some h) e = (h, refl)

-- a handle of the table was issued
issued-of : (s : PeerReplay) → PeerInvariant s → (h : ℕ) (row : TableRow) → IsTabled s.table h row → (i : Issued) × IsIssued s.peers.issued h i
issued-of s k zero row t = absurd (none_some (Some row) t)
issued-of s k (suc n) row t =
    let within = numbered-within s.table (suc n) (Some row) t in
    let d : Issued = record { peer = 0; hold = held; strength = strong } in
    (get_or s.peers.issued n d, slice_get-get_or s.peers.issued n d (omega (arith, within.1, k.handles.places)))

pub strong-node : (s : PeerReplay) (nodes : List Node) (i : ℕ) → PeerInvariant s → AreHandlesStrong s nodes → IsBridgeNode nodes i → IsStrongNode s nodes i
strong-node s nodes i k all b =
    let h = some-there b.node.handle b.held in
    let there : Contains (handles_of nodes) h.0 = Contains-flat_map (λ (n : Node). option_to_list n.handle) nodes b.node h.0
    (Contains-at nodes i b.node b.there) (subst (λ o. Contains (option_to_list o) h.0) (sym h.1) (Contains-here h.0 [])) in
    let row : row_of s h.0.0 ≡ Some strong_row = All-contains (λ (z : HNum). row_of s z.0 ≡ Some strong_row) (handles_of nodes) h.0 all there in
    let tabled : IsTabled s.table h.0.0 strong_row = row-tabled (numbered_at s.table h.0.0) strong_row row in
    let issue = issued-of s k h.0.0 strong_row tabled in
    let peer : peer_of s.peers.issued h.0.0 ≡ Some issue.0.peer = ap (λ (o : Option Issued). elim o [ None ↦ None | Some j ↦ Some j.peer ]) issue.1 in
    record {
      handle = h.0;
      held = ap (λ o. option_and_then (λ (n : Node). n.handle) o) b.there ∙ h.1;
      peer = issue.0.peer;
      issued = peer;
      target = ap (λ (o : Option TableRow). elim o [ None ↦ None | Some r ↦ if r.cleared then None else peer_of s.peers.issued h.0.0 ]) row ∙ peer;
      live = k.handles.uncleared h.0.0 strong_row issue.0 tabled issue.1 refl;
      listed = strong-listed s.peers.issued s.table h.0.0 strong_row issue.0 tabled refl issue.1;
    }

-- its peer
pub peer_of_node-is : (s : PeerReplay) (nodes : List Node) (i : ℕ) (n : IsStrongNode s nodes i) → peer_of_node s.peers.issued nodes i ≡ n.peer
peer_of_node-is s nodes i n =
    ap (λ (o : Option HNum). elim o [ None ↦ 0 | Some h ↦ elim (peer_of s.peers.issued h.0) [ None ↦ 0 | Some p ↦ p ] ]) n.held
    ∙ ap (λ (o : Option ℕ). elim o [ None ↦ 0 | Some p ↦ p ]) n.issued

-- its handle, as the part has it, leads to its peer
pub handle-target : (s : PeerReplay) (nodes : List Node) (i : ℕ) (h : HNum) (n : IsStrongNode s nodes i) → HasNode nodes i (λ m. m.handle ≡ Some h) → table_target s h.0 ≡ Some n.peer
handle-target s nodes i h n at =
    let same : n.handle ≡ h = same_Some n.handle h (sym n.held ∙ (ap (λ o. option_and_then (λ (m : Node). m.handle) o) at.1 ∙ at.2)) in
    ap (λ (z : HNum). table_target s z.0) (sym same) ∙ n.target

-- so the table leads to that peer
pub target-is : (s : PeerReplay) (nodes : List Node) (i : ℕ) (h : HNum) (o : Option PNum) (n : IsStrongNode s nodes i)
    → HasNode nodes i (λ m. m.handle ≡ Some h) → table_target s h.0 ≡ number_of o → number_of o ≡ Some n.peer
target-is s nodes i h o n at shown = sym shown ∙ handle-target s nodes i h n at

pub same-peer : (s : PeerReplay) (nodes : List Node) (i : ℕ) (h : HNum) (o : Option PNum) (n : IsStrongNode s nodes i)
    → HasNode nodes i (λ m. m.handle ≡ Some h) → table_target s h.0 ≡ number_of o → (p : PNum) → o ≡ Some p → p.0 ≡ n.peer
same-peer s nodes i h o n at shown p is = same_Some p.0 n.peer (ap number_of (sym is) ∙ target-is s nodes i h o n at shown)
