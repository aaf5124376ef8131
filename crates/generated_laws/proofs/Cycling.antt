-- A cycle that runs when all threads have ended leaves what is kept and nothing else: phase by phase, what is known of
-- the rows that are left.
use Rattle.std.proofs.Common.{◌≡◌, ℕ, suc, inl, inr, List, [], ◌∷◌, Option, Some, None, refl, sym, ap, subst, ◌∙◌, arith}
use Rattle.std.specs.Prelude.{Contains, slice_get, if◌then◌else◌}
use Rattle.std.proofs.lemmas.Option.{same_Some}
use Rattle.joint_machine.specs.Control.{Stand, OpenSnap, idle, snapped, contracted, weakening, marked, restoring, restored}
use Rattle.joint_machine.specs.Cycles.{IsSnapshot, IsAnsweredAlive}
use Rattle.joint_machine.specs.Heaps.{IsLive, InSlot, with_freed, fields_of}
use Rattle.joint_machine.specs.Linked.{Linkage}
use Rattle.joint_machine.specs.Managed.{Managed, OpenCycle, Holds, IsManagedRoot, ManagedEdge, IsManagedReached}
use Rattle.joint_machine.specs.ManagedReplay.{MayResolve}
use Rattle.joint_machine.specs.Peers.{Peers, Issued, Strength, strong, weak, is_strong}
use Rattle.joint_machine.specs.PeerReplay.{PeerReplay, TableRow, Marking, IsMarkingRoot, MarkingEdge, IsMarked, Refers, strong_peers}
use Rattle.joint_machine.specs.Told.{Answer, handles_given}
use Rattle.joint_machine.specs.Walks.{Reaches}
use Rattle.joint_machine.proofs.Deciding.{none_some, some-same}
use Rattle.joint_machine.proofs.HeapLemmas.{IsLive-before, IsLive-spared}
use Rattle.joint_machine.proofs.Members.{Contains-nil, Contains-cons_cases, Contains-at, at-Contains, Contains-decided}
use Rattle.joint_machine.proofs.Numbered.{numbered-within}
use Rattle.joint_machine.proofs.WalkLemmas.{Reached-keeps, Reaches-keeps}
use Rattle.joint_laws.specs.LinkedInvariants.{DriverInvariant, IsInMarking, IsRowOf, given_at}
use Rattle.joint_laws.specs.PeerInvariants.{IsIssued, IsTabled}
use Rattle.joint_laws.proofs.DeadMirrors.{mirror_edge-managed}
use Rattle.joint_laws.proofs.DriverSteps.{replaced, strength-one}
use Rattle.joint_laws.proofs.LinkedEntries.{Of}
use Rattle.joint_laws.proofs.PeerEntries.{peer_of-issued}
use Rattle.joint_laws.proofs.Renewing.{IsGivenTo}
use Rattle.generated_laws.proofs.Pictures.{Mind}
use Rattle.generated_laws.proofs.Showing.{Group, Names}
use Rattle.generated_laws.proofs.PeerShowing.{Filled}
use Rattle.generated_laws.proofs.Kept.{rows_of, peers_of, stands-row, peer-stands, stands-peer, stable, IsSettled, root-kept, peer_slot-kept, edge-kept, names-on, kept-bridge, row-of_group, only-row}

-- which strong handle a root is of
record IsListed (issued : List Issued) (table : List (Option TableRow)) (p : ℕ) : Type 0 where
  pub place : ℕ
  pub row : TableRow
  pub is : Issued
  pub tabled : slice_get table place ≡ Some (Some row)
  pub is_strong_one : row.strength ≡ strong
  pub is_issued : slice_get issued place ≡ Some is
  pub leads : is.peer ≡ p

later-listed : (i : Issued) (r : Option TableRow) (issued : List Issued) (table : List (Option TableRow)) (p : ℕ) → IsListed issued table p → IsListed (i ∷ issued) (r ∷ table) p
later-listed i r issued table p w = record { place = suc w.place; row = w.row; is = w.is; tabled = w.tabled; is_strong_one = w.is_strong_one; is_issued = w.is_issued; leads = w.leads }

listed : (issued : List Issued) (table : List (Option TableRow)) (p : ℕ) → Contains (strong_peers issued table) p → IsListed issued table p
listed [] table p c = absurd (Contains-nil p c)
listed (j ∷ issued) [] p c = absurd (Contains-nil p c)
listed (j ∷ issued) (None ∷ table) p c = later-listed j None issued table p (listed issued table p c)
listed (j ∷ issued) (Some r ∷ table) p c = by r.strength refl c (λ d. listed issued table p d)
  where
    by : (x : Strength) → r.strength ≡ x → Contains (if is_strong x then j.peer ∷ strong_peers issued table else strong_peers issued table) p
        → (Contains (strong_peers issued table) p → IsListed issued table p) → IsListed (j ∷ issued) (Some r ∷ table) p
    by weak e d rest = later-listed j (Some r) issued table p (rest d)
    by strong e d rest = elim (Contains-cons_cases j.peer (strong_peers issued table) p d) [
      | inl q ↦ record { place = 0; row = r; is = j; tabled = refl; is_strong_one = e; is_issued = refl; leads = q }
      | inr t ↦ later-listed j (Some r) issued table p (rest t)
    ]

module _ (minds : ℕ → Mind) (fills : ℕ → Filled) (groups : List (Option Group)) where
  -- a row outside the dead part is kept
  abbrev pub Rest : Managed → Type 0
  Rest m = (c : OpenCycle) → m.cycle ≡ Some c → (x : ℕ) → IsLive m.heap x → (Contains c.dead x → ⊥) → Contains (rows_of groups) x

  -- what the own marking marks is kept
  pub record OnlyMarks (p : PeerReplay) : Type 0 where
    pub only : (mk : Marking) → p.marking ≡ Some mk → (q : ℕ) → IsMarked mk q → Contains (peers_of groups) q
    pub old : (mk : Marking) → p.marking ≡ Some mk → (q : ℕ) → IsLive p.peers.heap q → IsLive mk.heap q

  abbrev pub PeersLeft : Peers → Type 0
  PeersLeft p = (q : ℕ) → IsLive p.heap q → Contains (peers_of groups) q

  abbrev pub RowsLeft : Managed → Type 0
  RowsLeft m = (x : ℕ) → IsLive m.heap x → Contains (rows_of groups) x

  abbrev pub Known : Managed → PeerReplay → Stand → Type 0
  Known m p idle = RowsLeft m × PeersLeft p.peers
  Known m p (snapped o) = Rest m
  Known m p (contracted o comps heavy xrefs) = Rest m
  Known m p (weakening o count seen swept_one) = Rest m
  Known m p (marked o) = Rest m × OnlyMarks p
  Known m p (restoring o answers) = Rest m × PeersLeft p.peers
  Known m p (restored o answers clear) = Rest m × PeersLeft p.peers

  module _ (s : Linkage) (w : IsSettled minds fills groups s) (k : Of s) where
    abbrev sm : Managed
    sm = s.managed.managed

    abbrev sp : Peers
    sp = s.peer.peers

    reached-kept : (x : ℕ) → IsManagedReached sm x → Contains (rows_of groups) x
    reached-kept x r = Reached-keeps (IsManagedRoot sm) (ManagedEdge sm) (λ z. Contains (rows_of groups) z)
        (λ z e. root-kept minds fills groups s w k z e) (λ a b e c. edge-kept minds fills groups s w k a b e c) x r

    -- behind the snapshot
    pub snap-rest : (c : ℕ) (freed candidates dead : List ℕ) → IsSnapshot sm c freed candidates dead
        → (x : ℕ) → IsLive (with_freed sm.heap freed) x → (Contains dead x → ⊥) → Contains (rows_of groups) x
    snap-rest c freed candidates dead a x l n = stable (rows_of groups) x (λ out. n ((a.leaves x).1 (IsLive-before sm.heap freed x l, (λ r. out (reached-kept x r)), IsLive-spared sm.heap freed x l)))

    -- a strong handle is a kept bridge's
    strong-kept : (o : OpenSnap) (d : IsInMarking s.managed s.peer o) → ((h : ℕ) → Contains (handles_given (given_at s.control.stand)) h → ⊥) → Rest sm
        → (h : ℕ) (row : TableRow) (i : Issued) → IsTabled s.peer.table h row → row.strength ≡ strong → IsIssued sp.issued h i → Contains (peers_of groups) i.peer
    strong-kept o d none rest h row i t st e =
        let live = k.peer.handles.uncleared h row i t e (k.peer.handles.sure h row t st) in
        elim (w.are_held.owned h row t) [
          | inr (inl hand) ↦ absurd (none_some h (sym (w.hands hand.0) ∙ hand.1))
          | inr (inr given) ↦ absurd (none h given)
          | inl x ↦ (
              let b = numbered-within sm.held x.0 (Some h) x.1 in
              let c = w.shown.places in
              let leads = peer_of-issued sp.issued h i e in
              let holds : Holds sm x.0 h = record {
                live = record {
                  made = (b.0, omega (arith, b.1, c));
                  kept = λ f. (let q = w.are_held.freed x.0 h x.1 f in live.kept (subst (λ z. Contains sp.heap.freed z) (some-same q.0 i.peer (sym q.1 ∙ leads)) q.2));
                };
                held = x.1;
              } in
              let no_candidate : Contains d.cycle.candidates x.0 → ⊥ = λ cm. (let at = at-Contains d.cycle.candidates x.0 cm in strength-one s.peer h (row, t, st) (d.handles at.0 x.0 h at.1 holds)) in
              let cut = k.managed.managed.dead d.cycle d.opened.cycle in
              let kept = rest d.cycle d.opened.cycle x.0 holds.live (λ f. no_candidate ((cut.candidates x.0).1 (f, (h, holds)))) in
              let g = kept-bridge minds fills groups s w k x.0 h holds kept in
              subst (Contains (peers_of groups)) (some-same g.group.peer i.peer (sym g.has.1 ∙ leads)) (stands-peer groups g.spot g.group g.there))
        ]

    -- along the edges of a marking that has just begun
    edge-marked : (o : OpenSnap) (d : IsInMarking s.managed s.peer o) (mk : Marking) → mk.heap ≡ sp.heap
        → mk.refs ≡ s.peer.refs → (p q : ℕ) → MarkingEdge mk p q → Contains (peers_of groups) p → Contains (peers_of groups) q
    edge-marked o d mk heap refs p q (inl f) c =
        let g = peer-stands groups p c in
        let i = row-of_group minds fills groups s w k g.spot g.group g.there in
        absurd (w.peers.bare i.handle i.row q i.is_issued (subst (λ z. Contains (fields_of sp.heap z) (Some q)) (sym (i.leads ∙ g.has)) (subst (λ z. Contains (fields_of z p) (Some q)) heap f.field)))
    edge-marked o d mk heap refs p q (inr f) c =
        let g = peer-stands groups p c in
        let e = (d.mirror.exact p q).0 (subst (λ l. Refers l p q) refs f.reference) in
        let same = only-row minds fills groups s w k e.0 g.spot g.group p g.there g.has e.3 in
        let cut = k.managed.managed.dead d.cycle d.opened.cycle in
        let walk = mirror_edge-managed sm d.cycle cut d.mirror.comps d.mirror.heavy d.mirror.xrefs d.mirror.contraction e.0 e.1 e.2 in
        let named : Names g.group e.1 = Reaches-keeps (ManagedEdge sm) (Names g.group) (λ x y a b. names-on minds fills groups s w k g.spot g.group g.there x y a b) e.0 e.1 walk (inl same) in
        let b = kept-bridge minds fills groups s w k e.1 e.4.handle e.4.holds (stands-row groups g.spot g.group e.1 g.there named) in
        subst (Contains (peers_of groups)) (some-same b.group.peer q (sym b.has.1 ∙ (peer_of-issued sp.issued e.4.handle e.4.row e.4.is_issued ∙ ap Some e.4.leads)))
        (stands-peer groups b.spot b.group b.there)

    -- so all that it marks
    pub begun-marks : (o : OpenSnap) (d : IsInMarking s.managed s.peer o) → ((h : ℕ) → Contains (handles_given (given_at s.control.stand)) h → ⊥)
        → Rest sm → (mk : Marking) → mk.heap ≡ sp.heap → mk.refs ≡ s.peer.refs → mk.strong_peers ≡ strong_peers sp.issued s.peer.table → mk.brought ≡ []
        → (q : ℕ) → IsMarked mk q → Contains (peers_of groups) q
    begun-marks o d unasked rest mk heap refs roots none q m = Reached-keeps (IsMarkingRoot mk) (MarkingEdge mk)
        (λ z. Contains (peers_of groups) z) start (λ a b e c. edge-marked o d mk heap refs a b e c) q m.reached
      where
        start : (z : ℕ) → IsMarkingRoot mk z → Contains (peers_of groups) z
        start z (inl a) = peer_slot-kept minds fills groups s w k z (subst (λ h. InSlot h z) heap a)
        start z (inr (inl a)) = (let l = listed sp.issued s.peer.table z (subst (λ l. Contains l z) roots a) in
            subst (λ y. Contains (peers_of groups) y) l.leads (strong-kept o d unasked rest (suc l.place) l.row l.is l.tabled l.is_strong_one l.is_issued))
        start z (inr (inr a)) = absurd (Contains-nil z (subst (λ l. Contains l z) none a))

    -- behind the resolution
    pub resolved-left : (o : OpenSnap) (answers : List Answer) (clear : ℕ) (d : DriverInvariant s.managed s.peer (restored o answers clear))
        → Rest sm → PeersLeft sp → (c : ℕ) (freed : List ℕ) → MayResolve s.managed c answers freed
        → (x : ℕ) → IsLive (with_freed sm.heap freed) x → Contains (rows_of groups) x
    resolved-left o answers clear d rest left c freed a x l = elim (Contains-decided a.cycle.dead x) [
      | inr n ↦ rest a.cycle a.open_cycle.0 x (IsLive-before sm.heap freed x l) n
      | inl dead ↦ stable (rows_of groups) x (λ out. IsLive-spared sm.heap freed x l ((a.resolution.frees x).1 (dead, (λ r. out (from r.0 r.1 r.2)))))
    ]
      where
        same : a.cycle ≡ d.cycle
        same = same_Some a.cycle d.cycle (sym a.open_cycle.0 ∙ d.opened.cycle)

        from : (y : ℕ) → IsAnsweredAlive a.cycle.candidates answers y → Reaches (ManagedEdge sm) y x → Contains (rows_of groups) x
        from y alive walk =
            let there : slice_get d.cycle.candidates alive.0 ≡ Some y = subst (λ (z : OpenCycle). slice_get z.candidates alive.0 ≡ Some y) same alive.1 in
            let cut = k.managed.managed.dead d.cycle d.opened.cycle in
            let bridge = ((cut.candidates y).0 (Contains-at d.cycle.candidates alive.0 y there)).1 in
            let h = bridge.0 in
            let in_list : IsGivenTo d.cycle.candidates answers y alive.2.0 = record { place = alive.0; candidate = there; answer = alive.2.1 } in
            let new = replaced s.managed s.peer o answers k.managed k.peer k.owners d y alive.2.0 h in_list bridge.1 in
            let live : IsLive sp.heap new.new.peer = k.peer.handles.uncleared alive.2.0 new.strong_one.0 new.new new.strong_one.1 new.is
            (k.peer.handles.sure alive.2.0 new.strong_one.0 new.strong_one.1 new.strong_one.2) in
            let g = peer-stands groups new.old.peer (left new.old.peer (subst (IsLive sp.heap) new.same live)) in
            let row : IsRowOf sm sp.issued y new.old.peer = record { handle = h; holds = bridge.1; row = new.old; is_issued = new.was; leads = refl } in
            let is = only-row minds fills groups s w k y g.spot g.group new.old.peer g.there g.has row in
            stands-row groups g.spot g.group x g.there (Reaches-keeps (ManagedEdge sm) (Names g.group) (λ b c e n. names-on minds fills groups s w k g.spot g.group g.there b c e n) y x walk (inl is))
