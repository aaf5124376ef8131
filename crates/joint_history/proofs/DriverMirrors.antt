-- The driver's mirror under the peer lock: what is asked of the side holds by where the driver stands, the references
-- that come to stand are those that the definition has, and what the cycle wants from then on is reserved.
use Rattle.std.proofs.Common.{◌≡◌, ℕ, ◌<◌, ◌≤◌, ◌^◌, List, length, Some, refl, sym, ap, ◌∙◌, subst, arith}
use Rattle.std.specs.Prelude.{Result, Ok, Err, IfOk, OnErr, OnOk}
use Rattle.joint_machine.specs.declared.names.Cycle.{Cycle}
use Rattle.joint_machine.specs.declared.names.Thread.TheVariants.{C}
use Rattle.joint_machine.specs.declared.events.Op.TheVariants as op
use Rattle.joint_machine.specs.declared.events.Reply.TheVariants as says
use Rattle.joint_machine.specs.Components.{mirror_edges}
use Rattle.joint_machine.specs.Control.{OpenSnap, Stand, contracted, carried_edges, DriverAllows}
use Rattle.joint_machine.specs.Cycles.{IsDeadContraction}
use Rattle.joint_machine.specs.Linked.{Linkage}
use Rattle.joint_machine.specs.Managed.{Managed, candidates_of}
use Rattle.joint_machine.specs.PeerReplay.{PeerReplay, MayMirror, row_of}
use Rattle.joint_machine.specs.Told.{references_of}
use Rattle.known_laws.specs.Conditions.{MayBeInstalled}
use Rattle.known_laws.specs.Driving.{PastInvariant}
use Rattle.known_laws.specs.Pasts.{HasSameDeadPart, end_of}
use Rattle.known_laws.proofs.Conditions.{contracted_may_be_installed}
use Rattle.bridge_graph.specs.Handles.{handles_of}
use Rattle.bridge_graph.specs.Parts.{IsPart, Part}
use Rattle.peer_heap.specs.Mirroring.{strong_row}
use Rattle.peer_heap.specs.Sides.{PeerModel, Reserve, seen}
use Rattle.peer_mirror.specs.Carried.{AreBridgeNodes, AreHandlesStrong, carried_to_peers, reserve_installed}
use Rattle.order_table.specs.declared.views.View.{View}
use Rattle.known_laws.specs.Known.{given}
use Rattle.known_laws.proofs.Unpinned.{turn_same}
use Rattle.order_table.specs.Views.{OrderId, Shown, Owns}
use Rattle.xref_list.specs.Listing.{IsListing, Listing}
use Rattle.joint_history.proofs.KnownViews.{same_view}
use Rattle.joint_history.specs.Callers.{HoldsPass}
use Rattle.joint_history.specs.Driven.{DriverMakes, DriverMakesNone, DriverStands, driver_entry}
use Rattle.dead_parts.specs.Graphs.{numbered_comps}
use Rattle.joint_history.specs.DriverMirrors.{DrawsMirror, IsListedBy, MakesMirror, MayMirrorCycle}
use Rattle.view_laws.specs.Knowing.{IsDrawnView}
use Rattle.joint_history.specs.Locked.{StaysSeated, PeerKnows, PeerReserves, is_marking_due}
use Rattle.seat_calls.specs.Passing.{Lends, Returns}
use Rattle.joint_history.proofs.DeadParts.{count_same}
use Rattle.joint_history.proofs.DriverPeerSteps.{DrivenUnderPeers, IsUnderPeers, driven_peers}
use Rattle.joint_history.proofs.DriverSteps.{driven_none}
use Rattle.joint_history.proofs.LockedSteps.{peer_side, returns_seated}
use Rattle.dead_parts.proofs.MirroredParts.{ShowsHandles, candidates-few, carried-is, edges-count, handles-strong, members-bridge, shows-on}
use Rattle.joint_history.proofs.Reserving.{seated_on, back_on, drew_on, due_snoc, lent_on, nothing_kept, reserves_on, room_by_one}

-- what holds under the lock where the driver has contracted its cycle to what the listing has of the graph's nodes
module _ (side : PeerReplay) (o : OpenSnap) (comps : List (List ℕ)) (heavy : List ℕ) (pairs : List (ℕ × ℕ)) (m : Managed)
    (g : Part) (l : Listing) (u : IsUnderPeers side (contracted o comps heavy pairs) m) (w : IsListedBy g l m comps heavy pairs) where
  may : MayBeInstalled u.state o comps heavy pairs
  may = contracted_may_be_installed u.state u.kept o comps heavy pairs u.stood

  shows : ShowsHandles u.state.managed.managed g
  shows = shows-on m u.state.managed.managed w.cycle g w.opened w.graph u.dead

  open_here : u.state.managed.managed.cycle ≡ Some w.cycle
  open_here = sym u.dead.cycle ∙ w.opened

  pub may_mirror : (k snap : ℕ) → o.cycle ≡ k → o.snap ≡ snap → MayMirror side k (Some snap)
  may_mirror k snap same_cycle same_snap =
      subst (λ (n : ℕ). MayMirror side k (Some n)) same_snap (subst (λ (n : ℕ). MayMirror side n (Some o.snap)) same_cycle
      (subst (λ (s : PeerReplay). MayMirror s o.cycle (Some o.snap)) u.peer may.mirrors))

  pub are_bridges : AreBridgeNodes g.nodes l.comps
  are_bridges =
      members-bridge u.state.managed.managed g shows may.cycle.dead l.comps heavy l.pairs
      (subst (λ (ps : List (ℕ × ℕ)). IsDeadContraction u.state.managed.managed may.cycle.dead (numbered_comps g l.comps) heavy ps) w.pairs_same
      (subst (λ (cs : List (List ℕ)). IsDeadContraction u.state.managed.managed may.cycle.dead cs heavy pairs) w.comps_same may.contraction))

  pub are_strong : AreHandlesStrong side g.nodes
  are_strong = handles-strong u.state.managed.managed g shows m w.cycle w.graph u.kept.kept.managed.managed open_here side
      (λ i h c. subst (λ (s : PeerReplay). row_of s h ≡ Some strong_row) u.peer (may.handles i h c))

  -- the references are those that the definition has
  carried : IsListing l.comps l.heavy l.pairs → carried_to_peers side.peers.issued g.nodes
      (mirror_edges l.comps l.pairs) ≡ carried_edges u.state.managed.managed u.state.peer.peers.issued (mirror_edges comps pairs)
  carried listing =
      let t = u.state.managed.managed in
      let issued = u.state.peer.peers.issued in
      ap (λ (s : PeerReplay). carried_to_peers s.peers.issued g.nodes (mirror_edges l.comps l.pairs)) (sym u.peer)
      ∙ (carried-is t g shows issued l listing
      ∙ (ap (λ (cs : List (List ℕ)). carried_edges t issued (mirror_edges cs l.pairs)) (sym w.comps_same)
      ∙ ap (λ (ps : List (ℕ × ℕ)). carried_edges t issued (mirror_edges comps ps)) (sym w.pairs_same)))

  mirror_allowed : IsListing l.comps l.heavy l.pairs → (k : Cycle) (refs snap : ℕ) → o.cycle ≡ k.0 → o.snap ≡ snap
      → DriverAllows (contracted o comps heavy pairs) u.state.managed.managed u.state.peer.peers.issued (op.Mirror k) (says.Refs refs)
      (Some snap) (references_of (carried_to_peers side.peers.issued g.nodes (mirror_edges l.comps l.pairs)))
  mirror_allowed listing k refs snap same_cycle same_snap = (same_cycle, ap Some (sym same_snap), carried listing)

-- there is one handle for each candidate
few : (s : Linkage) (m : Managed) (g : Part) (l : Listing) (comps : List (List ℕ)) (heavy : List ℕ) (pairs : List (ℕ × ℕ)) → PastInvariant s
    → HasSameDeadPart m s.managed.managed → IsListedBy g l m comps heavy pairs → IsPart g.nodes g.edges → length (candidates_of m) ≤ length (handles_of g.nodes)
few s m g l comps heavy pairs kept dead w part =
    let t = s.managed.managed in
    let there = candidates-few t g (shows-on m t w.cycle g w.opened w.graph dead) m w.cycle w.graph kept.kept.managed.managed (sym dead.cycle ∙ w.opened) part in
    omega (arith, there, count_same m t dead)

-- a call under the lock that may find no memory
pub record CalledMirror {E : Type 0} (mine locked2 mine2 : View) (new : PeerModel) (index k snap : ℕ) (g : Part) (l : Listing) (cycle : Cycle) (result : Result (ℕ × ℕ) E) : Type 0 where
  pub knows : PeerKnows locked2 (seen new)
  pub reserves : PeerReserves locked2 new
  pub ok : IfOk result (λ x. MakesMirror mine mine2 index cycle snap g l x.1 x.0)
  pub err : OnErr result (DriverMakesNone mine mine2)

-- after a draw under the lock
module _ (locked mine mine1 locked2 mine2 : View) (order : OrderId) (seat seat' : Shown) (old new : PeerModel) (index : ℕ) (pass : HoldsPass C mine) (owns : Owns locked 1)
    (short : index < 2 ^ 32) (ks : PeerKnows locked (seen old)) (lends : Lends C locked mine seat.view mine1) (b : Returns C seat'.view mine1 locked2 mine2)
    (k : Cycle) (snap : ℕ) (g : Part) (l : Listing) (part : IsPart g.nodes g.edges) (listing : IsListing l.comps l.heavy l.pairs) where
  with_mirror : (n refs : ℕ) → DrawsMirror order seat seat' (seen old) (seen new) index k snap g l n refs → (o : OpenSnap) (comps : List (List ℕ)) (heavy : List ℕ) (pairs : List (ℕ × ℕ)) (m : Managed)
      → DriverStands mine index (contracted o comps heavy pairs) m → IsListedBy g l m comps heavy pairs → o.cycle ≡ k.0 → o.snap ≡ snap
      → DrivenUnderPeers mine locked2 mine2 (seen old) (seen new) index (contracted o comps heavy pairs) m
      (driver_entry n index (op.Mirror k) (says.Refs refs) (Some snap)) (references_of (carried_to_peers old.state.peers.issued g.nodes (mirror_edges l.comps l.pairs)))
  with_mirror n refs d o comps heavy pairs m s w same_cycle same_snap =
      driven_peers locked mine mine1 locked2 mine2 order seat seat' (seen old) (seen new) index (contracted o comps heavy pairs) m (driver_entry n index (op.Mirror k) (says.Refs refs) (Some snap))
      (references_of (carried_to_peers old.state.peers.issued g.nodes (mirror_edges l.comps l.pairs))) pass owns refl refl short ks s
      (λ u. mirror_allowed old.state o comps heavy pairs m g l u w listing k refs snap same_cycle same_snap) lends d.drew b

  mirror_made : (n refs : ℕ) → DrawsMirror order seat seat' (seen old) (seen new) index k snap g l n refs → MakesMirror mine mine2 index k snap g l refs n
  mirror_made n refs d o comps heavy pairs m s w same_cycle same_snap =
      let v = (with_mirror n refs d o comps heavy pairs m s w same_cycle same_snap).driven in
      let told = carried_to_peers old.state.peers.issued g.nodes (mirror_edges l.comps l.pairs) in
      let makes : DriverMakes mine mine2 (contracted o comps heavy pairs) m (driver_entry n index (op.Mirror k) (says.Refs refs) (Some o.snap)) (references_of told) = subst
      (λ (x : ℕ). DriverMakes mine mine2 (contracted o comps heavy pairs) m (driver_entry n index (op.Mirror k) (says.Refs refs) (Some x)) (references_of told)) (sym same_snap) v.makes in
      let now : DriverAllows (contracted o comps heavy pairs) makes.state.managed.managed makes.state.peer.peers.issued (op.Mirror k) (says.Refs refs) (Some o.snap) (references_of told) =
      subst (λ (x : Stand). DriverAllows x makes.state.managed.managed makes.state.peer.peers.issued (op.Mirror k) (says.Refs refs) (Some o.snap) (references_of told)) makes.stood
      (turn_same makes.state.managed.managed.pins makes.state.control (given makes.state (references_of told)).managed.managed makes.state.peer.peers.issued C index
      (op.Mirror k) (says.Refs refs) (Some o.snap) (references_of told) makes.comes.comes.order) in
      record {
        told = told;
        makes = makes;
        carried = now.2;
        count = d.count ∙ same_count comps heavy pairs w;
        stands = v.stands;
      }
    where
      same_count : (cs : List (List ℕ)) (hs : List ℕ) (ps : List (ℕ × ℕ)) → IsListedBy g l m cs hs ps → length (mirror_edges l.comps l.pairs) ≡ length (mirror_edges cs ps)
      same_count cs hs ps x = sym (ap (λ (ds : List (List ℕ)). length (mirror_edges ds ps)) x.comps_same
          ∙ (ap (λ (qs : List (ℕ × ℕ)). length (mirror_edges (numbered_comps g l.comps) qs)) x.pairs_same ∙ edges-count l g listing))

  -- what the cycle wants is reserved
  mirror_reserves : (n refs : ℕ) → DrawsMirror order seat seat' (seen old) (seen new) index k snap g l n refs
      → MayMirrorCycle mine index k.0 snap g l → new.reserve ≡ reserve_installed (length (handles_of g.nodes)) → PeerReserves locked2 new
  mirror_reserves n refs d w r =
      let v = (with_mirror n refs d w.opened w.comps w.heavy w.pairs w.seen w.stands w.listed w.same_cycle w.same_snap).driven in
      let mine_known = v.stands.known in
      let here : IsDrawnView locked2 = same_view mine2 locked2 mine_known (λ i. b.stays i ∙ sym (b.same i)) in
      let entry = driver_entry n index (op.Mirror k) (says.Refs refs) (Some snap) in
      let one = (back_on C locked seat'.view mine1 locked2 mine2 (drew_on C locked mine mine1 order seat seat' old new entry
      (references_of (carried_to_peers old.state.peers.issued g.nodes (mirror_edges l.comps l.pairs))) lends d.drew) b).one_history in
      let left : new.reserve.left ≡ length (handles_of g.nodes) = ap (λ (x : Reserve). x.left) r in
      let enough : length (candidates_of w.seen) ≤ length (handles_of g.nodes) = few v.makes.state w.seen g l w.comps w.heavy w.pairs v.makes.kept v.makes.dead w.listed part in
      let same : length (candidates_of w.seen) ≡ length (candidates_of (end_of mine_known.known.past).managed.managed) = count_same w.seen
      (end_of mine_known.known.past).managed.managed v.stands.stands.dead in
      record {
        none_waits = ap (λ (x : Reserve). x.waiting) r;
        room = room_by_one locked2 new.state new.reserve.left here one v.after (λ m is. omega (arith, left, enough, same));
        marking = ap (λ (x : Reserve). x.marking) r ∙ sym (ap is_marking_due d.drew.added ∙ due_snoc old.entries entry);
      }

  pub mirror_called : {E : Type 0} (result : Result (ℕ × ℕ) E) → MayMirrorCycle mine index k.0 snap g l → PeerReserves locked old
      → IfOk result (λ x. DrawsMirror order seat seat' (seen old) (seen new) index k snap g l x.0 x.1) → OnOk result (new.reserve ≡ reserve_installed (length (handles_of g.nodes)))
      → OnErr result (StaysSeated seat seat' × (new ≡ old)) → CalledMirror mine locked2 mine2 new index k.0 snap g l k result
  mirror_called (Ok x) w rs d r e = record {
    knows = (with_mirror x.0 x.1 d w.opened w.comps w.heavy w.pairs w.seen w.stands w.listed w.same_cycle w.same_snap).knows;
    reserves = mirror_reserves x.0 x.1 d w r;
    ok = mirror_made x.0 x.1 d;
    err = tt;
  }
  mirror_called (Err x) w rs d r e =
      let back = returns_seated C seat seat' mine1 locked2 mine2 e.0 b in
      let n = driven_none peer_side locked mine seat.view mine1 locked2 mine2 (seen old) pass owns ks w.stands.known lends back in
      record {
        knows = subst (λ (z : PeerModel). PeerKnows locked2 (seen z)) (sym e.1) n.knows;
        reserves = reserves_on locked locked2 old new ks (back_on C locked seat'.view mine1 locked2 mine2 (seated_on locked seat seat' e.0 (lent_on C locked mine seat.view mine1 lends)) b)
            (nothing_kept old new (ap seen e.1) (ap (λ (z : PeerModel). z.reserve) e.1)) rs;
        ok = tt;
        err = n.makes;
      }
