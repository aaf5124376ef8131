-- Through the entries of a cycle that runs when all threads have ended, from its snapshot to its resolution.
use Rattle.std.proofs.Common.{◌≡◌, ℕ, ◌+◌, false, List, [], ◌∷◌, ◌++◌, Option, Some, None, refl, sym, ap, subst, ◌∙◌, arith, append_assoc}
use Rattle.std.specs.Prelude.{Contains}
use Rattle.std.proofs.lemmas.List.{append-nil}
use Rattle.joint_machine.specs.declared.names.Thread.TheVariants.{M, P, C}
use Rattle.joint_machine.specs.declared.names.Thread.{Thread}
use Rattle.joint_machine.specs.declared.names.Cycle.{Cycle}
use Rattle.joint_machine.specs.declared.names.Phase.{Phase}
use Rattle.joint_machine.specs.declared.names.Phase.TheVariants as at
use Rattle.joint_machine.specs.declared.names.PhaseWord.{PhaseWord}
use Rattle.joint_machine.specs.declared.names.PhaseWord.TheVariants as word
use Rattle.joint_machine.specs.declared.lines.Act.TheVariants as act
use Rattle.joint_machine.specs.declared.events.Op.{Op}
use Rattle.joint_machine.specs.declared.events.Op.TheVariants as op
use Rattle.joint_machine.specs.declared.events.Reply.{Reply}
use Rattle.joint_machine.specs.declared.events.Reply.TheVariants as says
use Rattle.joint_machine.specs.declared.events.Entry.{Entry}
use Rattle.joint_machine.specs.Control.{control_after, Stand, OpenSnap, idle, snapped, contracted, weakening, marked, restoring, restored, DriverAllows, stand_after}
use Rattle.joint_machine.specs.Heaps.{Heap, IsLive, Answered}
use Rattle.joint_machine.specs.Linked.{Linkage, MayCome, SideLawful, linkage_after, managed_after}
use Rattle.joint_machine.specs.Replaying.{AllMayCome, replayed}
use Rattle.joint_machine.specs.Lines.{is_peer_event}
use Rattle.joint_machine.specs.Managed.{OpenCycle}
use Rattle.joint_machine.specs.ManagedReplay.{MayResolve}
use Rattle.joint_machine.specs.Peers.{peer_of}
use Rattle.joint_machine.specs.PeerReplay.{PeerReplay, TableRow, Marking, SweepAllows, IsSweep, strong_peers, renewed_on, restored_by, row_of, begun, swept}
use Rattle.joint_machine.specs.Phases.{IsEventOf, ArePhase, ArePhases, AreTimes, next_phase, phases_of, candidates_after}
use Rattle.joint_machine.specs.Told.{Told, Noted, handles_given, snap_of, contraction_of, sweep_of, resolution_of}
use Rattle.joint_machine.proofs.Deciding.{some-same, test-cases}
use Rattle.joint_machine.proofs.HeapLemmas.{IsLive-before, IsLive-spared}
use Rattle.joint_machine.proofs.Members.{Contains-nil}
use Rattle.joint_laws.specs.LinkedInvariants.{DriverInvariant, given_at}
use Rattle.joint_laws.proofs.LinkedEntries.{Of, entry, BothInvariants-entry}
use Rattle.known_laws.specs.PastEntries.{entries}
use Rattle.script_laws.specs.Holding.{Standing, AreEvents, AreWord, AreOnLine, AreLine}
use Rattle.generated_laws.proofs.Totals.{Each}
use Rattle.generated_laws.proofs.Own.{IsLater, IsLaterEntry, IsCycleOf, whole_cycle}
use Rattle.generated_laws.proofs.Pictures.{Mind}
use Rattle.generated_laws.proofs.Showing.{Group}
use Rattle.generated_laws.proofs.PeerShowing.{Filled}
use Rattle.generated_laws.proofs.Quiet.{IsOfCycle}
use Rattle.generated_laws.proofs.Driven.{driver-shown}
use Rattle.generated_laws.proofs.Kept.{IsSettled, stable, peers_of}
use Rattle.generated_laws.proofs.Cycling.{Rest, OnlyMarks, PeersLeft, RowsLeft, Known, snap-rest, begun-marks, resolved-left}

module _ (minds : ℕ → Mind) (fills : ℕ → Filled) (groups : List (Option Group)) where
  module _ (s : Linkage) (w : IsSettled minds fills groups s) (k : Of s) (number line : ℕ) (r : Reply) (cites : Option ℕ) where
    abbrev the : Op → Told → Noted
    the o told = record { entry = record { number = number; made = entry C line o r cites }; told = told }

    abbrev after : Op → Told → Linkage
    after o told = linkage_after s (the o told)

    settled-step : (o : Op) (told : Told) → IsOfCycle o → MayCome s (the o told) → IsSettled minds fills groups (after o told)
    settled-step o told c may =
        let n = driver-shown minds fills groups s k w.shown w.peers w.are_held number line r cites o told c may in
        record { shown = n.shown; peers = n.peers; are_held = n.are_held; empty = w.empty; hands = w.hands; unfilled = w.unfilled }

    abbrev Was : Stand → Type 0
    Was d = Known minds fills groups s.managed.managed s.peer d

    abbrev Is : Op → Told → Stand → Type 0
    Is o told d = Known minds fills groups (after o told).managed.managed (after o told).peer (stand_after d number o r told)

    -- the begin of the own marking
    begin-marks : (told : Told) (d : Stand) (j : ℕ) (q : OpenSnap) → ((h : ℕ) → Contains (handles_given (given_at (after op.Begin told).control.stand)) h → ⊥)
        → r ≡ (begun s.peer s.peer.marking C).reply → r ≡ says.Mark record { 0 = j } → IsSettled minds fills groups (after op.Begin told) → Of (after op.Begin told)
        → DriverInvariant (after op.Begin told).managed (after op.Begin told).peer (marked q) → Rest minds fills groups s.managed.managed → OnlyMarks minds fills groups (after op.Begin told).peer
    begin-marks told d j q unasked e f w' k' d' rest = by s.peer.marking refl
      where
        by : (o : Option Marking) → s.peer.marking ≡ o → OnlyMarks minds fills groups (after op.Begin told).peer
        by (Some mk) g = absurd (let h : says.Mark record { 0 = j } ≡ says.MarkOpen record { 0 = mk.number } = sym f ∙ (e ∙ ap (λ z. (begun s.peer z C).reply) g) in cc)
        by None g =
            let now : (after op.Begin told).peer ≡ (begun s.peer None C).state = ap (λ z. (begun s.peer z C).state) g in
            let new : Marking = record {
              number = s.peer.markings + 1;
              by = C;
              heap = s.peer.peers.heap;
              refs = s.peer.refs;
              strong_peers = strong_peers s.peer.peers.issued s.peer.table;
              brought = [];
              blackened = 0;
            } in
            let is : (mk : Marking) → (after op.Begin told).peer.marking ≡ Some mk → mk ≡ new = λ mk h. some-same mk new (sym h ∙ ap (λ (z : PeerReplay). z.marking) now) in
            record {
              only = λ mk h p m.
                  begun-marks minds fills groups (after op.Begin told) w' k' q d' unasked rest mk
                  (ap (λ (z : Marking). z.heap) (is mk h) ∙ sym (ap (λ (z : PeerReplay). z.peers.heap) now))
                  (ap (λ (z : Marking). z.refs) (is mk h) ∙ sym (ap (λ (z : PeerReplay). z.refs) now))
                  (ap (λ (z : Marking). z.strong_peers) (is mk h) ∙ sym (ap (λ (z : PeerReplay). strong_peers z.peers.issued z.table) now))
                  (ap (λ (z : Marking). z.brought) (is mk h)) p m;
              old = λ mk h p l. subst (λ z. IsLive z p) (ap (λ (z : PeerReplay). z.peers.heap) now ∙ sym (ap (λ (z : Marking). z.heap) (is mk h))) l;
            }

    begin-known : (told : Told) (d : Stand) → s.control.stand ≡ d → r ≡ (begun s.peer s.peer.marking C).reply
        → DriverAllows d s.managed.managed s.peer.peers.issued op.Begin r cites told → IsSettled minds fills groups (after op.Begin told) → Of (after op.Begin told)
        → DriverInvariant (after op.Begin told).managed (after op.Begin told).peer (stand_after d number op.Begin r told) → Was d → Is op.Begin told d
    begin-known told (weakening q count seen sw) now e al w' k' d' kn = (kn, begin-marks told (weakening q count seen sw) (number_in r al) q unasked e (mark-in r al) w' k' d' kn)
      where
        -- no restore of the cycle was asked yet
        unasked : (h : ℕ) → Contains (handles_given (given_at (after op.Begin told).control.stand)) h → ⊥
        unasked h c = Contains-nil h (subst (λ (z : Stand). Contains (handles_given (given_at (stand_after z number op.Begin r told))) h) now c)

        number_in : (x : Reply) → DriverAllows (weakening q count seen sw) s.managed.managed s.peer.peers.issued op.Begin x cites told → ℕ
        number_in (says.Mark j) a = j.0
        number_in _ a = absurd a

        mark-in : (x : Reply) (a : DriverAllows (weakening q count seen sw) s.managed.managed s.peer.peers.issued op.Begin x cites told) → x ≡ says.Mark record { 0 = number_in x a }
        mark-in (says.Mark j) a = refl
        mark-in _ a = absurd a
    begin-known told _ now e al w' k' d' kn = absurd al

    -- its sweep
    swept-left : (freed : List ℕ) (q : OpenSnap) → SweepAllows s.peer s.peer.marking C (sweep_of freed) → DriverInvariant s.managed s.peer (marked q)
        → OnlyMarks minds fills groups s.peer → PeersLeft minds fills groups (swept s.peer s.peer.marking C freed).state.peers
    swept-left freed q al d only =
        let e = d.own in
        let is : IsSweep s.peer d.marking freed = (subst (λ z. SweepAllows s.peer z C (sweep_of freed)) e al).1 in
        subst (λ z. PeersLeft minds fills groups (swept s.peer z C freed).state.peers) (sym e)
        (λ p l. stable (peers_of groups) p (λ out.
        IsLive-spared s.peer.peers.heap freed p l ((is.exact p).1 (
          IsLive-before s.peer.peers.heap freed p l,
          only.old d.marking e p (IsLive-before s.peer.peers.heap freed p l),
          λ m. out (only.only d.marking e p m),
        ))))

    sweep-known : (told : Told) (d : Stand) → SweepAllows s.peer s.peer.marking C told
        → DriverAllows d s.managed.managed s.peer.peers.issued op.Sweep r cites told → DriverInvariant s.managed s.peer d → Was d → Is op.Sweep told d
    sweep-known told (weakening q count seen sw) al da dk kn = kn
    sweep-known (sweep_of freed) (marked q) al da dk kn = (kn.0, swept-left freed q al dk kn.1)
    sweep-known other (marked q) al da dk kn = absurd (subst (λ z. SweepAllows s.peer z C other) dk.own al)
    sweep-known told _ al da dk kn = absurd da

    restored-heap : (h : ℕ) (o : Option TableRow) → (restored_by s.peer h o).state.peers.heap ≡ s.peer.peers.heap
    restored-heap h None = refl
    restored-heap h (Some row) = test-cases (λ (a : Answered PeerReplay). a.state.peers.heap ≡ s.peer.peers.heap) row.cleared _ _ refl (by (peer_of s.peer.peers.issued h))
      where
        by : (p : Option ℕ) → (renewed_on s.peer h p).state.peers.heap ≡ s.peer.peers.heap
        by None = refl
        by (Some p) = refl

    resolve-known : (c : Cycle) (told : Told) (d : Stand) → SideLawful false s (entry C line (op.Resolve c) r cites) told
        → DriverAllows d s.managed.managed s.peer.peers.issued (op.Resolve c) r cites told → DriverInvariant s.managed s.peer d → Was d → Is (op.Resolve c) told d
    resolve-known c (resolution_of said freed) (restored q answers clear) l da dk kn =
        (resolved-left minds fills groups s w k q answers clear dk kn.0 kn.1 c.0 freed (subst (λ z. MayResolve s.managed c.0 z freed) da.2 l.allowed), kn.1)
    resolve-known c told (restored q answers clear) l da dk kn = absurd da
    resolve-known c told _ l da dk kn = absurd da

    later-known : (o : Op) (told : Told) (d : Stand) → s.control.stand ≡ d → IsLater o → SideLawful (is_peer_event C o) s (entry C line o r cites) told
        → DriverAllows d s.managed.managed s.peer.peers.issued o r cites told → DriverInvariant s.managed s.peer d
        → IsSettled minds fills groups (after o told) → Of (after o told) → DriverInvariant (after o told).managed (after o told).peer (stand_after d number o r told) → Was d → Is o told d
    later-known (op.Contract c) (contraction_of a b d) (snapped q) now i l al dk w' k' d' kn = kn
    later-known (op.Contract c) (contraction_of a b d) _ now i l al dk w' k' d' kn = absurd al
    later-known (op.Contract c) _ d now i l al dk w' k' d' kn = absurd l.allowed
    later-known (op.Mirror c) told (contracted q a b d) now i l al dk w' k' d' kn = kn
    later-known (op.Mirror c) told _ now i l al dk w' k' d' kn = absurd al
    later-known (op.Weaken h) told (weakening q a b c) now i l al dk w' k' d' kn = kn
    later-known (op.Weaken h) told _ now i l al dk w' k' d' kn = absurd al
    later-known op.Begin told d now i l al dk w' k' d' kn = begin-known told d now l.replies al w' k' d' kn
    later-known op.Sweep told d now i l al dk w' k' d' kn = sweep-known told d l.allowed al dk kn
    later-known (op.Restore h) told (restoring q a) now i l al dk w' k' d' kn = (kn.0, λ p l. kn.1 p (subst (λ (z : Heap). IsLive z p) (restored-heap h.0 (row_of s.peer h.0)) l))
    later-known (op.Restore h) told _ now i l al dk w' k' d' kn = absurd al
    later-known (op.Clear c) told (restoring q a) now i l al dk w' k' d' kn = kn
    later-known (op.Clear c) told _ now i l al dk w' k' d' kn = absurd al
    later-known (op.Resolve c) told d now i l al dk w' k' d' kn = resolve-known c told d l al dk kn
    later-known _ told d now i l al dk w' k' d' kn = absurd i

  -- one entry behind the snapshot
  pub record IsLastly (s : Linkage) : Type 0 where
    pub settled : IsSettled minds fills groups s
    pub kept : Of s
    pub known : Known minds fills groups s.managed.managed s.peer s.control.stand

  lastly-by : (s : Linkage) (number line : ℕ) (r : Reply) (cites : Option ℕ) (told : Told) (t : Thread) (o : Op) → t ≡ C
      → IsLater o → MayCome s (record { entry = record { number = number; made = entry t line o r cites }; told = told }) → IsLastly s
      → IsLastly (linkage_after s (record { entry = record { number = number; made = entry t line o r cites }; told = told }))
  lastly-by s number line r cites told C o e i may w =
      let w' = settled-step s w.settled w.kept number line r cites o told (of-cycle o i) may in
      let k' = BothInvariants-entry s (record { entry = record { number = number; made = entry C line o r cites }; told = told }) may w.kept in
      record {
        settled = w';
        kept = k';
        known = later-known s w.settled w.kept number line r cites o told s.control.stand refl i may.lawful may.order w.kept.driver w' k' k'.driver w.known;
      }
    where
      of-cycle : (o : Op) → IsLater o → IsOfCycle o
      of-cycle (op.Snap k) l = tt
      of-cycle o l = l
  lastly-by s number line r cites told (M u) o e i may w = absurd (cc)
  lastly-by s number line r cites told (P u) o e i may w = absurd (cc)

  -- all entries behind the snapshot
  abbrev IsDriven : Entry → Type 0
  IsDriven e = (e.made.caller ≡ C) × IsLater e.made.op

  all-later : (ns : List Noted) (s : Linkage) → AllMayCome s ns → Each IsDriven (entries ns) → IsLastly s → IsLastly (replayed s ns)
  all-later [] s a e w = w
  all-later (n ∷ ns) s a e w =
      all-later ns (linkage_after s n) a.1 e.1
      (lastly-by s n.entry.number n.entry.made.index n.entry.made.reply n.entry.made.cites n.told n.entry.made.caller n.entry.made.op e.0.0 e.0.1 a.0 w)

  -- the snapshot
  module _ (s : Linkage) (w : IsSettled minds fills groups s) (k : Of s) (number line : ℕ) (r : Reply) (cites : Option ℕ) where
    snap-known : (c : Cycle) (told : Told) (d : Stand) → SideLawful false s (entry C line (op.Snap c) r cites) told → DriverAllows d s.managed.managed s.peer.peers.issued (op.Snap c) r cites told
        → Known minds fills groups (managed_after s.managed (entry C line (op.Snap c) r cites) told false).managed s.peer (stand_after d number (op.Snap c) r told)
    snap-known c (snap_of freed candidates dead) idle l al = λ y e x live out. snap-rest minds fills groups s w k c.0 freed candidates dead l.allowed x live
        (λ z. out (subst (λ (o : OpenCycle). Contains o.dead x) (some-same _ y e) z))
    snap-known c told idle l al = absurd l.allowed
    snap-known c told _ l al = absurd al

  snap-by : (s : Linkage) (number line : ℕ) (r : Reply) (cites : Option ℕ) (told : Told) (t : Thread) (o : Op) (c : Cycle)
      → t ≡ C → o ≡ op.Snap c → MayCome s (record { entry = record { number = number; made = entry t line o r cites }; told = told })
      → IsSettled minds fills groups s → Of s → IsLastly (linkage_after s (record { entry = record { number = number; made = entry t line o r cites }; told = told }))
  snap-by s number line r cites told C (op.Snap c') c e i may w k = record {
    settled = settled-step s w k number line r cites (op.Snap c') told tt may;
    kept = BothInvariants-entry s (record { entry = record { number = number; made = entry C line (op.Snap c') r cites }; told = told }) may k;
    known = snap-known s w k number line r cites c' told s.control.stand may.lawful may.order;
  }
  snap-by s number line r cites told C o c e i may w k = absurd (cc)
  snap-by s number line r cites told (M u) o c e i may w k = absurd (cc)
  snap-by s number line r cites told (P u) o c e i may w k = absurd (cc)

-- the last entry of a whole cycle is its resolution
resolve-of : (o : Op) → IsEventOf word.Resolve o → (c : Cycle) × (o ≡ op.Resolve c)
resolve-of (op.Resolve c) e = (c, refl)
resolve-of _ e = absurd e

pub record EndsResolved (es : List Entry) : Type 0 where
  pub front : List Entry
  pub last : Entry
  pub cycle : Cycle
  pub all : es ≡ front ++ last ∷ []
  pub resolves : last.made.op ≡ op.Resolve cycle

abbrev EndWithResolve : List PhaseWord → Type 0
EndWithResolve [] = ⊥
EndWithResolve (w ∷ []) = w ≡ word.Resolve
EndWithResolve (w ∷ v ∷ ws) = EndWithResolve (v ∷ ws)

one-resolve : (own : List Entry) → AreTimes word.Resolve 1 own → EndsResolved own
one-resolve [] a = absurd (let z = a.count in cc)
one-resolve (x ∷ []) a = (let r = resolve-of x.made.op a.each.0 in record { front = []; last = x; cycle = r.0; all = refl; resolves = r.1 })
one-resolve (x ∷ y ∷ own) a = absurd (let z = a.count in omega (arith, z))

phases-end : (ws : List PhaseWord) (n : ℕ) (es : List Entry) → EndWithResolve ws → ArePhases n ws es → EndsResolved es
phases-end [] n es e a = absurd e
phases-end (w ∷ []) n es e a =
    let r = one-resolve a.0 (subst (λ v. ArePhase n v a.0) e a.3) in
    let all : es ≡ a.0 = a.2 ∙ (ap (λ l. a.0 ++ l) a.4 ∙ append-nil a.0) in
    record { front = r.front; last = r.last; cycle = r.cycle; all = all ∙ r.all; resolves = r.resolves }
phases-end (w ∷ v ∷ ws) n es e a =
    let r = phases-end (v ∷ ws) (candidates_after n a.0) a.1 e a.4 in
    record { front = a.0 ++ r.front; last = r.last; cycle = r.cycle; all = a.2 ∙ (ap (λ l. a.0 ++ l) r.all ∙ sym (append_assoc a.0 r.front (r.last ∷ []))); resolves = r.resolves }

pub cycle-ends : (s : Standing) (es : List Entry) → s.phase ≡ at.Idle → AreEvents s (act.PhaseLine word.Cycle) es → EndsResolved es
cycle-ends s es i a = phases-end (phases_of word.Cycle) s.candidates es refl (subst (λ (z : Phase). AreWord s word.Cycle (next_phase z word.Cycle) es) i a)

-- notes are split as their entries are
pub split-notes : (ns : List Noted) (xs ys : List Entry) → entries ns ≡ xs ++ ys → (ps : List Noted) × (bs : List Noted) × (ns ≡ ps ++ bs) × (entries ps ≡ xs) × (entries bs ≡ ys)
split-notes ns [] ys e = ([], ns, refl, refl, e)
split-notes [] (x ∷ xs) ys e = absurd (cc)
split-notes (n ∷ ns) (x ∷ xs) ys e =
    let head : n.entry ≡ x = cc in
    let tail : entries ns ≡ xs ++ ys = cc in
    let r = split-notes ns xs ys tail in
    (n ∷ r.0, r.1, ap (λ l. n ∷ l) r.2, (λ i. head i ∷ r.3 i), r.4)

pub replayed-both : (ps bs : List Noted) (s : Linkage) → replayed s (ps ++ bs) ≡ replayed (replayed s ps) bs
replayed-both [] bs s = refl
replayed-both (n ∷ ps) bs s = replayed-both ps bs (linkage_after s n)

resolve-idle : (d : Stand) (n : ℕ) (c : Cycle) (r : Reply) (told : Told) → stand_after d n (op.Resolve c) r told ≡ idle
resolve-idle idle n c r told = refl
resolve-idle (snapped o) n c r told = refl
resolve-idle (contracted o a b d) n c r told = refl
resolve-idle (weakening o a b d) n c r told = refl
resolve-idle (marked o) n c r told = refl
resolve-idle (restoring o a) n c r told = refl
resolve-idle (restored o a b) n c r told = refl

idle-then : (s : Linkage) (n : Noted) (c : Cycle) → n.entry.made.caller ≡ C → n.entry.made.op ≡ op.Resolve c → (linkage_after s n).control.stand ≡ idle
idle-then s n c e f =
    let m = n.entry.made in
    ap (λ t. (control_after s.control t n.entry.number m.index m.op m.reply n.told).stand) e
    ∙ (ap (λ o. stand_after s.control.stand n.entry.number o m.reply n.told) f ∙ resolve-idle s.control.stand n.entry.number c m.reply n.told)

last-idle : (ns : List Noted) (s : Linkage) (front : List Entry) (last : Entry) (c : Cycle) → entries ns ≡ front ++ last ∷ []
    → last.made.caller ≡ C → last.made.op ≡ op.Resolve c → (replayed s ns).control.stand ≡ idle
last-idle ns s front last c e by f =
    let parts = split-notes ns front (last ∷ []) e in
    ap (λ l. (replayed s l).control.stand) parts.2 ∙ (ap (λ (z : Linkage). z.control.stand) (replayed-both parts.0 parts.1 s) ∙ one parts.1 parts.4)
  where
    one : (bs : List Noted) → entries bs ≡ last ∷ [] → (replayed (replayed s (split-notes ns front (last ∷ []) e).0) bs).control.stand ≡ idle
    one [] q = absurd (cc)
    one (n ∷ []) q = (let h : n.entry ≡ last = cc in idle-then (replayed s (split-notes ns front (last ∷ []) e).0) n c (ap (λ (z : Entry). z.made.caller) h ∙ by) (ap (λ (z : Entry). z.made.op) h ∙ f))
    one (n ∷ m ∷ bs) q = absurd (let t : n.entry ∷ m.entry ∷ entries bs ≡ last ∷ [] = q in cc)

-- where it ends just what is kept is left
pub record IsEnded (minds : ℕ → Mind) (fills : ℕ → Filled) (groups : List (Option Group)) (s : Linkage) : Type 0 where
  pub settled : IsSettled minds fills groups s
  pub kept : Of s
  pub rests : s.control.stand ≡ idle
  pub closed : s.managed.managed.cycle ≡ None
  pub rows : RowsLeft minds fills groups s.managed.managed
  pub peers : PeersLeft minds fills groups s.peer.peers

callers-c : (number : ℕ) (es : List Entry) → AreOnLine number C es → Each (λ (e : Entry). e.made.caller ≡ C) es
callers-c number [] a = tt
callers-c number (e ∷ es) a = (a.0.caller, callers-c number es a.1)

each-two : (es : List Entry) → Each (λ (e : Entry). e.made.caller ≡ C) es → Each IsLaterEntry es → Each (λ (e : Entry). (e.made.caller ≡ C) × IsLater e.made.op) es
each-two [] a b = tt
each-two (e ∷ es) a b = ((a.0, b.0), each-two es a.1 b.1)

each-last : (Q : Entry → Type 0) (front : List Entry) (last : Entry) → Each Q (front ++ last ∷ []) → Q last
each-last Q [] last e = e.0
each-last Q (x ∷ front) last e = each-last Q front last e.1

pub cycle-leaves : (minds : ℕ → Mind) (fills : ℕ → Filled) (groups : List (Option Group)) (s : Linkage) (ns : List Noted) (standing : Standing) (number : ℕ)
    → IsSettled minds fills groups s → Of s → AllMayCome s ns
    → standing.phase ≡ at.Idle → AreLine standing number (C, act.PhaseLine word.Cycle) (entries ns) → IsEnded minds fills groups (replayed s ns)
cycle-leaves minds fills groups s ns standing number w k a i l = by ns refl a
  where
    whole : IsCycleOf (entries ns)
    whole = whole_cycle standing (entries ns) i l.events

    callers : Each (λ (e : Entry). e.made.caller ≡ C) (entries ns)
    callers = callers-c number (entries ns) l.places

    ends : EndsResolved (entries ns)
    ends = cycle-ends standing (entries ns) i l.events

    last_caller : ends.last.made.caller ≡ C
    last_caller = each-last (λ (e : Entry). e.made.caller ≡ C) ends.front ends.last (subst (Each (λ (e : Entry). e.made.caller ≡ C)) ends.all callers)

    finish : IsLastly minds fills groups (replayed s ns) → IsEnded minds fills groups (replayed s ns)
    finish v =
        let at_end : (replayed s ns).control.stand ≡ idle = last-idle ns s ends.front ends.last ends.cycle ends.all last_caller ends.resolves in
        let known = subst (Known minds fills groups (replayed s ns).managed.managed (replayed s ns).peer) at_end v.known in
        let driver = subst (DriverInvariant (replayed s ns).managed (replayed s ns).peer) at_end v.kept.driver in
        record { settled = v.settled; kept = v.kept; rests = at_end; closed = driver.closed; rows = known.0; peers = known.1 }

    by : (ms : List Noted) → ns ≡ ms → AllMayCome s ms → IsEnded minds fills groups (replayed s ns)
    by [] e a' = absurd (let f : [] ≡ whole.snap ∷ whole.later = sym (ap entries e) ∙ whole.all in cc)
    by (n ∷ ms) e a' =
        let f : n.entry ∷ entries ms ≡ whole.snap ∷ whole.later = sym (ap entries e) ∙ whole.all in
        let head : n.entry ≡ whole.snap = cc in
        let tail : entries ms ≡ whole.later = cc in
        let both = subst (Each (λ (z : Entry). z.made.caller ≡ C)) (ap entries e) callers in
        let first = snap-by minds fills groups s n.entry.number n.entry.made.index n.entry.made.reply n.entry.made.cites n.told
        n.entry.made.caller n.entry.made.op whole.cycle both.0 (ap (λ (z : Entry). z.made.op) head ∙ whole.snaps) a'.0 w k in
        let rest = all-later minds fills groups ms (linkage_after s n) a'.1 (each-two (entries ms) both.1 (subst (Each IsLaterEntry) (sym tail) whole.are_later)) first in
        finish (subst (λ l. IsLastly minds fills groups (replayed s l)) (sym e) rest)
