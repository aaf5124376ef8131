-- Where the driver's own event moves its stand on: the snapshot begins what is watched, the begin what the own marking
-- sees, and the sweep ends both.
use Rattle.std.proofs.Common.{◌≡◌, ℕ, ◌+◌, List, [], ◌∷◌, ◌++◌, length, Some, None, refl, sym, ap, subst, ◌∙◌}
use Rattle.std.specs.Prelude.{slice_get}
use Rattle.std.proofs.lemmas.Option.{same_Some}
use Rattle.joint_machine.specs.declared.names.Thread.TheVariants.{C}
use Rattle.joint_machine.specs.declared.names.Span.{Span}
use Rattle.joint_machine.specs.declared.events.Op.TheVariants as op
use Rattle.joint_machine.specs.declared.events.Reply.TheVariants as says
use Rattle.joint_machine.specs.Control.{OpenSnap}
use Rattle.joint_machine.specs.Cycles.{IsSnapshot}
use Rattle.joint_machine.specs.Headline.{SnapsAt, SweepsAt, IsMadeBefore}
use Rattle.joint_machine.specs.Heaps.{IsMade}
use Rattle.joint_machine.specs.Linked.{Linkage, MayCome, linkage_after}
use Rattle.joint_machine.specs.Managed.{OpenCycle, with_snapshot}
use Rattle.joint_machine.specs.Peers.{weak}
use Rattle.joint_machine.specs.PeerReplay.{PeerReplay, begun, IsSweep, strong_peers}
use Rattle.joint_machine.specs.Run.{Moment}
use Rattle.joint_machine.specs.Told.{Noted, snap_of, sweep_of}
use Rattle.joint_laws.specs.LinkedInvariants.{HasStrength, IsMirrored, ForCandidates, IsInMarking, IsRestoring}
use Rattle.joint_laws.proofs.AtSnapshots.{watched-snapshot}
use Rattle.joint_laws.proofs.AtSweeps.{swept-watch}
use Rattle.joint_laws.proofs.Journeys.{IsOnTheWay, IsBehindSweep, goes-open, way-next}
use Rattle.joint_laws.proofs.JourneyStands.{IsUnderWay}
use Rattle.joint_laws.proofs.JointRuns.{Stands, state_of, IsTraced}
use Rattle.joint_laws.proofs.ManagedMoves.{GoesOn}
use Rattle.joint_laws.proofs.MarkSteps.{watch-begin}
use Rattle.joint_laws.proofs.Watching.{get-last, at-more}

-- the moment of an entry
abbrev pub moment_of : (s : Linkage) (n : Noted) → Stands s → Stands (linkage_after s n) → Moment
moment_of s n w v = record { before = state_of s w; noted = n; after = state_of (linkage_after s n) v }

module _ (s : Linkage) (n : Noted) (w : Stands s) (v : Stands (linkage_after s n)) (past : List Moment) (o : OpenSnap) where
  abbrev t : Linkage
  t = linkage_after s n

  abbrev m : Moment
  m = moment_of s n w v

  abbrev longer : List Moment
  longer = past ++ m ∷ []

  pub snap-turn : (k : ℕ) (freed candidates dead : List ℕ) → IsSnapshot s.managed.managed k freed candidates dead → t.managed.managed ≡ with_snapshot s.managed.managed freed candidates dead
      → n.entry.made.op ≡ op.Snap record { 0 = k } → n.told ≡ snap_of freed candidates dead → o.cycle ≡ k → IsOnTheWay longer t v o
  snap-turn k freed candidates dead p is event told same = record {
    snap = length past;
    freed = freed;
    cycle = record { number = s.managed.managed.cycles + 1; candidates = candidates; dead = dead };
    open_now = ap (λ z. z.cycle) is;
    snaps = subst (λ z. SnapsAt longer (length past) z freed candidates) (sym same) (record { element = m; there = get-last past m; is = (event, dead, told) });
    watched = watched-snapshot s.managed.managed k freed candidates dead p (state_of t v) is past m refl;
  }

  -- the own marking begins
  module _ (may : MayCome s n) (to : IsInMarking t.managed t.peer o) (k : IsOnTheWay past s w o) (is : t.peer ≡ (begun s.peer None C).state) where
    goes : GoesOn s.managed.managed t.managed.managed
    goes = goes-open s n may w k.cycle to.cycle k.open_now to.opened.cycle

    open_there : t.managed.managed.cycle ≡ Some k.cycle
    open_there = goes.cycle ∙ k.open_now

    same_cycle : to.cycle ≡ k.cycle
    same_cycle = same_Some to.cycle k.cycle (sym to.opened.cycle ∙ open_there)

    mirror : IsMirrored t.managed t.peer k.cycle
    mirror = subst (λ (z : OpenCycle). IsMirrored t.managed t.peer z) same_cycle to.mirror

    all_weak : ForCandidates t.managed.managed k.cycle (λ l h. HasStrength t.peer h weak)
    all_weak = subst (λ (z : OpenCycle). ForCandidates t.managed.managed z (λ l h. HasStrength t.peer h weak)) same_cycle to.handles

    made_then : (p : ℕ) → IsMadeBefore longer (length past) p → IsMade t.peer.peers.heap p
    made_then p q =
        let same : q.element ≡ m = same_Some q.element m (sym q.there ∙ get-last past m) in
        subst (λ (z : PeerReplay). IsMade z.peers.heap p) (sym is) (subst (λ (z : Moment). IsMade z.before.graph.peers.heap p) same q.is)

    pub begin-turn : n.entry.made.caller ≡ C → n.entry.made.op ≡ op.Begin → n.entry.made.reply ≡ says.Mark record { 0 = s.peer.markings + 1 }
        → length t.peer.peers.heap.vars ≡ 72 → length t.peer.peers.heap.statics ≡ 16 → IsUnderWay longer t v o
    unfolding way-next
    begin-turn caller event reply vars statics =
        let way : IsOnTheWay longer t v o = way-next s n may w v past o m refl to.cycle to.opened.cycle k in
        record {
          way = way;
          own = record {
            number = s.peer.markings + 1;
            by = C;
            heap = t.peer.peers.heap;
            refs = t.peer.refs;
            strong_peers = strong_peers t.peer.peers.issued t.peer.table;
            brought = [];
            blackened = 0;
          };
          open_mark = subst (λ (z : PeerReplay). z.marking ≡ Some record {
            number = s.peer.markings + 1;
            by = C;
            heap = z.peers.heap;
            refs = z.refs;
            strong_peers = strong_peers z.peers.issued z.table;
            brought = [];
            blackened = 0;
          }) (sym is) refl;
          watched = watch-begin t v longer k.snap k.cycle open_there way.watched mirror all_weak (s.peer.markings + 1) (length past) C
              (record { element = m; there = get-last past m; is = (caller, event, reply) }) k.watched.started made_then;
          vars = vars;
          statics = statics;
        }

  -- the own sweep
  pub sweep-turn : MayCome s n → ((i : ℕ) (x : Moment) → slice_get past i ≡ Some x → IsTraced x)
      → (to : IsRestoring t.managed t.peer o []) (k : IsUnderWay past s w o) (freed : List ℕ) (span : Span) → IsSweep s.peer k.own freed → t.peer.peers.heap.freed ≡ s.peer.peers.heap.freed ++ freed
      → n.entry.made.op ≡ op.Sweep → n.entry.made.reply ≡ says.Swept record { 0 = k.own.number } span → n.told ≡ sweep_of freed → IsBehindSweep longer t o
  sweep-turn may traced to k freed span sw grows event reply told =
      let g = goes-open s n may w k.way.cycle to.cycle k.way.open_now to.opened.cycle in
      let there : SweepsAt longer (length past) k.own.number freed = record { element = m; there = get-last past m; is = (event, span, reply, told) } in
      record {
        snap = k.way.snap;
        freed = k.way.freed;
        cycle = k.way.cycle;
        open_now = g.cycle ∙ k.way.open_now;
        snaps = at-more past (m ∷ []) k.way.snap k.way.snaps;
        swept = swept-watch s n w v g past traced k.way.snap k.way.cycle k.way.open_now k.way.watched k.own k.open_mark k.watched freed sw m refl grows there;
      }
