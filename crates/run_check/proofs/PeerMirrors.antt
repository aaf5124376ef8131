-- The driver's mirror: the mirror edges of the components that were told come to stand as references between the peers
-- of the dead part's handles.
use Rattle.std.proofs.Common.{◌≡◌, ℕ, Bool, false, List, length, Option, Some, refl, sym, ap, ◌∙◌, subst, arith}
use Rattle.std.specs.Prelude.{◌↔◌, IsTrue}
use Rattle.std.proofs.lemmas.Option.{same_Some}
use Rattle.joint_machine.specs.declared.names.Cycle.{Cycle}
use Rattle.joint_machine.specs.declared.names.Thread.TheVariants.{C}
use Rattle.joint_machine.specs.declared.events.Made.{Made}
use Rattle.joint_machine.specs.declared.events.Op.TheVariants as op
use Rattle.joint_machine.specs.declared.events.Reply.TheVariants as says
use Rattle.joint_machine.specs.Components.{mirror_edges}
use Rattle.joint_machine.specs.Control.{OpenSnap, Stand, contracted, weakening, carried_edges, stand_after}
use Rattle.joint_machine.specs.Cycles.{IsDeadContraction}
use Rattle.joint_machine.specs.Histories.{Finished}
use Rattle.joint_machine.specs.Lines.{IsEvent}
use Rattle.joint_machine.specs.Managed.{Managed}
use Rattle.joint_machine.specs.PeerReplay.{PeerReplay, MayMirror, row_of}
use Rattle.joint_machine.specs.Sides.{AddsLawful, peer_rules}
use Rattle.joint_machine.specs.Told.{Noted, references_of}
use Rattle.joint_machine.specs.PinsTold.{no_pins}
use Rattle.joint_laws.specs.LinkedInvariants.{given_at}
use Rattle.known_laws.specs.Conditions.{MayBeInstalled}
use Rattle.known_laws.specs.Driving.{PastInvariant}
use Rattle.known_laws.specs.Known.{pinned}
use Rattle.known_laws.proofs.Conditions.{contracted_may_be_installed}
use Rattle.caller_turns.specs.Shapes.{next_place}
use Rattle.check_laws.specs.Behind.{state_of}
use Rattle.check_laws.specs.Order.{DriverData, MirrorCites, MirrorData}
use Rattle.bridge_graph.specs.Handles.{handles_of}
use Rattle.managed_heap.specs.Graphs.{IsDeadGraph}
use Rattle.xref_list.specs.Listing.{IsListing, Listing}
use Rattle.peer_mirror.specs.Carried.{AreBridgeNodes, AreHandlesStrong, carried_to_peers, reserve_installed}
use Rattle.peer_heap.specs.Cycles.{mirrors}
use Rattle.peer_heap.specs.Mirroring.{strong_row}
use Rattle.peer_heap.specs.Sides.{Reserve, seen}
use Rattle.run_check.specs.declared.cycles.OpenCycle.{OpenCycle as Kept}
use Rattle.run_check.specs.declared.replays.Replay.{Replay}
use Rattle.dead_parts.specs.Graphs.{numbered_comps}
use Rattle.run_check.specs.Cycles.{CycleFollows, HasCycle, HasListing, IsAtHandle, IsOpenHere}
use Rattle.run_check.specs.Judging.{AnswersRightly, MayReply}
use Rattle.run_check.proofs.DriverEntries.{cites-is, driver-is, driver-names, driver-right, driver-wrong}
use Rattle.dead_parts.proofs.MirroredParts.{ShowsHandles, candidates-same, carried-is, handles-strong, members-bridge, shows-on}
use Rattle.run_check.proofs.Opened.{opened-on, same-dead}
use Rattle.run_check.proofs.Drawing.{drawing}
use Rattle.run_check.proofs.PeerEntries.{Keeps, compared}
use Rattle.run_check.proofs.PeerHandles.{kept-at}

-- where the driver mirrors
pub record AtContracted (stand : Stand) (k : ℕ) (cites : Option ℕ) : Type 0 where
  pub opened : OpenSnap
  pub comps : List (List ℕ)
  pub heavy : List ℕ
  pub xrefs : List (ℕ × ℕ)
  pub stands : stand ≡ contracted opened comps heavy xrefs
  pub same_cycle : opened.cycle ≡ k
  pub cited : cites ≡ Some opened.snap

at-contracted : (stand : Stand) (k : ℕ) (cites : Option ℕ) → MirrorCites stand k cites → AtContracted stand k cites
at-contracted (contracted o comps heavy xrefs) k cites c = record { opened = o; comps = comps; heavy = heavy; xrefs = xrefs; stands = refl; same_cycle = c.0; cited = c.1 }
at-contracted _ k cites c = absurd c

module _ (h : Finished) (m : Made) (old : Replay) (k : Cycle) (is : m.op ≡ op.Mirror k) where
  module _ (past : List Noted) (ready : MayReply h past old m) where
    mirror-driver : m.caller ≡ C
    mirror-driver = driver-is m.caller (subst (IsEvent m.caller) is ready.next.turn.event)

    mirror-at : AtContracted (state_of past).control.stand k.0 m.cites
    mirror-at = at-contracted _ k.0 m.cites (cites-is h past m old ready (op.Mirror k) is mirror-driver)

    mirror-kept : PastInvariant (pinned (state_of past) no_pins)
    mirror-kept = kept-at h past m old ready mirror-driver (op.Mirror k) is refl

    -- the cycle is kept, with its components
    follows-open : (o : Kept) → old.cycle ≡ Some o → IsOpenHere (state_of past) o
    follows-open o e = subst (CycleFollows (state_of past)) e ready.sides.cycle

    has-listing : (o : Kept) → old.cycle ≡ Some o → (o.cycle.0 ≡ mirror-at.opened.cycle) × HasListing o mirror-at.comps mirror-at.heavy mirror-at.xrefs
    has-listing o e = subst (λ d. HasCycle d o) mirror-at.stands (follows-open o e).stands

  -- with these components, which are those that were told
  module _ (o : Kept) (kept : old.cycle ≡ Some o) (l : Listing) (listed : o.comps ≡ Some l) (cites : ℕ) (cited : m.cites ≡ Some cites) where
    module _ (past : List Noted) (ready : MayReply h past old m) where
      abbrev a : AtContracted (state_of past).control.stand k.0 m.cites
      a = mirror-at past ready

      abbrev t : Managed
      t = (pinned (state_of past) no_pins).managed.managed

      open_here : IsOpenHere (state_of past) o
      open_here = follows-open past ready o kept

      graph : IsDeadGraph t open_here.cycle.dead o.graph
      graph = record { numbers = open_here.graph.numbers; handles = open_here.graph.handles; edges = open_here.graph.edges }

      shows : ShowsHandles t o.graph
      shows = shows-on t t open_here.cycle o.graph open_here.opened graph (same-dead t)

      listing : HasListing o a.comps a.heavy a.xrefs
      listing = (has-listing past ready o kept).1

      one : listing.listing ≡ l
      one = same_Some listing.listing l (sym listing.there ∙ listed)

      comps-are : a.comps ≡ numbered_comps o.graph l.comps
      comps-are = listing.comps_same ∙ ap (λ (x : Listing). numbered_comps o.graph x.comps) one

      pairs-are : a.xrefs ≡ l.pairs
      pairs-are = listing.pairs_same ∙ ap (λ (x : Listing). x.pairs) one

      is-listing : IsListing l.comps l.heavy l.pairs
      is-listing = subst (λ (x : Listing). IsListing x.comps x.heavy x.pairs) one listing.listed

      may : MayBeInstalled (pinned (state_of past) no_pins) a.opened a.comps a.heavy a.xrefs
      may = contracted_may_be_installed (pinned (state_of past) no_pins) (mirror-kept past ready) a.opened a.comps a.heavy a.xrefs a.stands

      contraction : IsDeadContraction t may.cycle.dead (numbered_comps o.graph l.comps) a.heavy l.pairs
      contraction =
          subst (λ ps. IsDeadContraction t may.cycle.dead (numbered_comps o.graph l.comps) a.heavy ps) pairs-are
          (subst (λ cs. IsDeadContraction t may.cycle.dead cs a.heavy a.xrefs) comps-are may.contraction)

      -- the references are those that the definition has
      refs-are : carried_to_peers old.peers.state.peers.issued o.graph.nodes (mirror_edges l.comps l.pairs) ≡ carried_edges
          (state_of past).managed.managed (state_of past).peer.peers.issued (mirror_edges a.comps a.xrefs)
      refs-are =
          let issued = (state_of past).peer.peers.issued in
          ap (λ (p : PeerReplay). carried_to_peers p.peers.issued o.graph.nodes (mirror_edges l.comps l.pairs)) ready.sides.peers.state
          ∙ (carried-is t o.graph shows issued l is-listing
          ∙ (ap (λ cs. carried_edges t issued (mirror_edges cs l.pairs)) (sym comps-are) ∙ ap (λ ps. carried_edges t issued (mirror_edges a.comps ps)) (sym pairs-are)))

    pub mirror-members : ((past : List Noted) × MayReply h past old m) → AreBridgeNodes o.graph.nodes l.comps
    mirror-members w = members-bridge (t w.0 w.1) o.graph (shows w.0 w.1) (may w.0 w.1).cycle.dead l.comps (a w.0 w.1).heavy l.pairs (contraction w.0 w.1)

    pub mirror-strong : ((past : List Noted) × MayReply h past old m) → AreHandlesStrong old.peers.state o.graph.nodes
    mirror-strong w =
        handles-strong (t w.0 w.1) o.graph (shows w.0 w.1) (t w.0 w.1) (open_here w.0 w.1).cycle (graph w.0 w.1) (mirror-kept w.0 w.1).kept.managed.managed (open_here w.0 w.1).opened old.peers.state
        (λ i g c. subst (λ (p : PeerReplay). row_of p g ≡ Some strong_row) (sym w.1.sides.peers.state) ((may w.0 w.1).handles i g c))

    pub mirror-may : ((past : List Noted) × MayReply h past old m) → MayMirror old.peers.state k.0 (Some cites)
    mirror-may w =
        subst (λ (p : PeerReplay). MayMirror p k.0 (Some cites)) (sym w.1.sides.peers.state)
        (subst (λ c. MayMirror (state_of w.0).peer k.0 c) (sym (a w.0 w.1).cited ∙ cited)
        (subst (λ n. MayMirror (state_of w.0).peer n (Some (a w.0 w.1).opened.snap)) (a w.0 w.1).same_cycle (may w.0 w.1).mirrors))

    mirror-data : (past : List Noted) (ready : MayReply h past old m) → DriverData (state_of past).control.stand (state_of past).managed.managed (state_of past).peer.peers.issued (op.Mirror k) m.reply
        (references_of (carried_to_peers old.peers.state.peers.issued o.graph.nodes (mirror_edges l.comps l.pairs)))
    mirror-data past ready =
        subst (λ d. MirrorData d (state_of past).managed.managed (state_of past).peer.peers.issued
        (references_of (carried_to_peers old.peers.state.peers.issued o.graph.nodes (mirror_edges l.comps l.pairs)))) (sym (a past ready).stands) (refs-are past ready)

    pub mirror-answers : (new : Replay) (refs : ℕ) (b : Bool)
        → AddsLawful peer_rules drawing old.draw new.draw (seen old.peers) (seen new.peers) (mirrors m.index k refs cites)
        (references_of (carried_to_peers old.peers.state.peers.issued o.graph.nodes (mirror_edges l.comps l.pairs)))
        → Keeps old new → new.cycle ≡ old.cycle → new.peers.reserve ≡ reserve_installed (length (handles_of o.graph.nodes)) → (IsTrue b ↔ (m.reply ≡ says.Refs refs)) → AnswersRightly h m old new b
    mirror-answers new refs b adds keeps cycle reserve same =
        let told = references_of (carried_to_peers old.peers.state.peers.issued o.graph.nodes (mirror_edges l.comps l.pairs)) in
        compared h m old new (says.Refs refs) b same
        (λ past ready e. (let s = state_of past in
        let at = a past ready in
        let d = weakening at.opened 0 false false in (
          told,
          driver-right h past m old ready (op.Mirror k) is (mirror-driver past ready) refl (says.Refs refs) told new (Some cites) cited adds tt (mirror-data past ready) e keeps
              (driver-names h past m old ready (op.Mirror k) is (mirror-driver past ready) refl (says.Refs refs) told new (Some cites) cited adds tt (mirror-data past ready) e (λ x. x)) d
              (ap (λ z. stand_after z (length past) (op.Mirror k) m.reply told) at.stands) (ap (λ (r : Reserve). r.waiting) reserve)
              (let left = ap (λ (r : Reserve). r.left) reserve in
              let many = candidates-same (t past ready) o.graph (shows past ready) (t past ready) (open_here past ready).cycle
              (graph past ready) (mirror-kept past ready).kept.managed.managed (open_here past ready).opened (open_here past ready).part in
              omega (arith, left, many))
              (λ u managed stands. subst (CycleFollows u) (sym (cycle ∙ kept)) (let f = open_here past ready in
              opened-on s u managed o o f refl refl (subst (λ z. HasCycle z o) (sym stands) (has-listing past ready o kept).0)
              (subst (λ z. IsAtHandle o.graph.nodes o.place (next_place z)) (sym stands) (subst (λ z. IsAtHandle o.graph.nodes o.place (next_place z)) at.stands f.next))
              (f.given ∙ (ap given_at at.stands ∙ sym (ap given_at stands))) f.room)),
        )))
        (λ past ready n. driver-wrong h past m old ready (op.Mirror k) is (mirror-driver past ready) refl (says.Refs refs) told new (Some cites) cited adds tt (mirror-data past ready) n)
