-- The driver's managed events: a snapshot opens a cycle whose candidates' handles are all strong; a resolution frees
-- exactly the candidates whose restore answered cleared, and what they alone lead to; an abandonment leaves all handles
-- strong.
use Rattle.std.proofs.Common.{◌≡◌, ℕ, ◌+◌, ◌≤◌, ◌⊎◌, ◌++◌, length, inl, inr, false, List, [], Option, Some, None, refl, sym, ap, subst, ◌∙◌, arith}
use Rattle.std.specs.Prelude.{Contains, slice_get}
use Rattle.std.proofs.lemmas.Option.{same_Some, slice_get_within, slice_get-get_or}
use Rattle.std.proofs.lemmas.List.Elements.{Contains-append_left, Contains-append_right, Contains-append_cases}
use Rattle.joint_machine.specs.Control.{Doing, free, made, lent, gripped, given, met, OpenSnap}
use Rattle.joint_machine.specs.Cycles.{IsSnapshot, IsResolution, IsAnsweredAlive}
use Rattle.joint_machine.specs.Heaps.{IsLive}
use Rattle.joint_machine.specs.Managed.{Managed, OpenCycle, Holds, IsBridge, ManagedEdge, with_snapshot, resolved, abandoned, candidates_of}
use Rattle.joint_machine.specs.ManagedReplay.{ManagedReplay, without_twins}
use Rattle.joint_machine.specs.Peers.{strong, weak, Issued}
use Rattle.joint_machine.specs.PeerReplay.{PeerReplay, TableRow}
use Rattle.joint_machine.specs.Walks.{Reaches}
use Rattle.joint_laws.specs.ManagedInvariants.{IsCutOff, ReplayInvariant}
use Rattle.joint_laws.specs.PeerInvariants.{PeerInvariant}
use Rattle.joint_laws.specs.LinkedInvariants.{HasStrength, IsHeldOne, IsRowOf, IsReplaced, OwnersInvariant, CallersInvariant, IsIdle, IsBeforeMirror, IsRestored, doing_in, HasInHand, HasMadePair}
use Rattle.joint_laws.specs.LinkedInvariants.{put_hands}
use Rattle.joint_machine.proofs.Members.{Contains-nil, Contains-at, Contains-decided, at-Contains}
use Rattle.joint_machine.proofs.Deciding.{none_some}
use Rattle.joint_machine.proofs.HeapLemmas.{IsLive-before, IsLive-left, candidates_of-open}
use Rattle.joint_laws.proofs.Registered.{without_twins-parts, without_twins-keeps}
use Rattle.joint_laws.proofs.ManagedKeeping.{bridge_stays}
use Rattle.joint_machine.specs.Told.{said_alive, said_cleared, Answer, handles_given}
use Rattle.joint_machine.specs.Components.{Rises}
use Rattle.joint_machine.proofs.Numbered.{numbered-within}
use Rattle.joint_laws.proofs.HandlesAlike.{replaced-peer}
use Rattle.joint_laws.proofs.Hands.{CallersInvariant-threads, given-apart}
use Rattle.joint_laws.proofs.Renewing.{IsGivenTo, renewed-cases, renewed-given, renewed-other, given-or, given-at}

abbrev candidates_by : Option OpenCycle → List ℕ
candidates_by o = elim o [ None ↦ [] | Some c ↦ c.candidates ]

-- no row is a candidate where no cycle is open, and where one is the candidates are its own
pub no_candidates : (s : Managed) (m : ℕ) → s.cycle ≡ None → Contains (candidates_of s) m → ⊥
no_candidates s m e c = Contains-nil m (subst (λ z. Contains (candidates_by z) m) e c)

-- a handle has one strength
pub strength-one : (s : PeerReplay) (h : ℕ) → HasStrength s h strong → HasStrength s h weak → ⊥
strength-one s h a b =
    let same : a.0 ≡ b.0 = same_Some a.0 b.0 (same_Some (Some a.0) (Some b.0) (sym a.1 ∙ b.1)) in
    let f : strong ≡ weak = sym a.2 ∙ (ap (λ (z : TableRow). z.strength) same ∙ b.2) in cc

module _ (r : ManagedReplay) (s : PeerReplay) (n : ℕ) (freed candidates dead : List ℕ) (k : ReplayInvariant r) (o : OwnersInvariant r s) (p : IsSnapshot r.managed n freed candidates dead) where
  abbrev opening : ManagedReplay
  opening = record r { managed = with_snapshot r.managed freed candidates dead; contracted = false }

  snap_on : (m h : ℕ) → Holds r.managed m h → Holds opening.managed m h
  snap_on m h q = record { live = IsLive-left r.managed.heap freed m q.live (bridge_stays r.managed n freed candidates dead k.managed p m (h, q)); held = q.held }

  pub snap_back : (m h : ℕ) → Holds opening.managed m h → Holds r.managed m h
  snap_back m h q = record { live = IsLive-before r.managed.heap freed m q.live; held = q.held }

  pub owners_snapped : OwnersInvariant opening s
  owners_snapped = record {
    held_ones = λ m h q. o.held_ones m h (snap_back m h q);
    strong_ones = λ m h q out. o.strong_ones m h (snap_back m h q) (no_candidates r.managed m p.closed);
    weak_ones = λ h w q. (let t = o.weak_ones h w q in absurd (no_candidates r.managed t.0 p.closed t.2));
    registered = λ m x w. o.registered m x (record { handle = w.handle; holds = snap_back m w.handle w.holds; row = w.row; is_issued = w.is_issued; leads = w.leads });
    pairs = λ x m c. (let w = o.pairs x m c in record { handle = w.handle; holds = snap_on m w.handle w.holds; row = w.row; is_issued = w.is_issued; leads = w.leads });
    adopted = o.adopted;
  }

  pub callers_snapped : (ds : List Doing) → CallersInvariant r s ds → CallersInvariant opening s ds
  callers_snapped ds c = record {
    loose = λ t h w. (let l = c.loose t h w in record { strong_one = l.strong_one; held_one = l.held_one; unowned = λ m q. l.unowned m (snap_back m h q) });
    apart = c.apart;
    peers = c.peers;
    virgins = λ t h x w. (let v = c.virgins t h x w in record { slots = v.slots; fields = v.fields; handles = v.handles; pairs = v.pairs; unadopted = v.unadopted });
    lent_ones = c.lent_ones;
  }

  pub driver_snapped : (snap : ℕ) → IsIdle r s → IsBeforeMirror opening s (record { cycle = n; snap = snap })
  driver_snapped snap d = record {
    cycle = record { number = r.managed.cycles + 1; candidates = candidates; dead = dead };
    opened = record { cycle = refl; number = sym p.next };
    none = d.none;
    handles = λ l m h e q. o.strong_ones m h (snap_back m h q) (no_candidates r.managed m p.closed);
  }

cleared-alive : (g : ℕ) → said_cleared ≡ said_alive g → ⊥
cleared-alive g e = cc

same-alive : (k g : ℕ) → said_alive k ≡ said_alive g → k ≡ g
same-alive k g e = cc

-- a pair just made is in hand
made-hand : (x : Doing) (h p : ℕ) → HasMadePair x h p → HasInHand x h
made-hand (made n line q g sort f) h p w = w.0
made-hand free h p w = absurd w
made-hand (lent n line g x) h p w = absurd w
made-hand (gripped n line q g sort f) h p w = absurd w
made-hand (given n line g) h p w = absurd w
made-hand (met n line g) h p w = absurd w

-- the candidates' answers tell which of their peers are unfreed
module _ (r : ManagedReplay) (s : PeerReplay) (op : OpenSnap) (answers : List Answer) (k : ReplayInvariant r) (pk : PeerInvariant s) (o : OwnersInvariant r s) (d : IsRestored r s op answers) where
  abbrev c : OpenCycle
  c = d.cycle

  -- a handle that is strong leads to an unfreed peer
  pub strong-live : (m p : ℕ) (w : IsRowOf r.managed s.peers.issued m p) → HasStrength s w.handle strong → IsLive s.peers.heap p
  strong-live m p w t = subst (λ z. IsLive s.peers.heap z) w.leads (pk.handles.uncleared w.handle t.0 w.row t.1 w.is_issued (pk.handles.sure w.handle t.0 t.1 t.2))

  pub row_of : (m h : ℕ) → Holds r.managed m h → (p : ℕ) × IsRowOf r.managed s.peers.issued m p
  row_of m h q = let i = o.held_ones m h q in (i.0.peer, record { handle = h; holds = q; row = i.0; is_issued = i.1; leads = refl })

  pub alive-live : (l m p g : ℕ) → slice_get c.candidates l ≡ Some m → slice_get answers l ≡ Some (said_alive g) → IsRowOf r.managed s.peers.issued m p → IsLive s.peers.heap p
  alive-live l m p g e a w = elim (d.handles l m w.handle e w.holds) [
    | inl t ↦ (
        let x = t.2 in
        let live : IsLive s.peers.heap x.new.peer = pk.handles.uncleared t.0 x.strong_one.0 x.new x.strong_one.1 x.is (pk.handles.sure t.0 x.strong_one.0 x.strong_one.1 x.strong_one.2) in
        subst (λ z. IsLive s.peers.heap z) (replaced-peer s w.handle t.0 w.row x w.is_issued ∙ w.leads) live)
    | inr t ↦ elim t [
      | inl u ↦ absurd (cleared-alive g (same_Some said_cleared (said_alive g) (sym u.0 ∙ a)))
      | inr u ↦ absurd (omega (arith, u.0, slice_get_within answers l (said_alive g) a))
    ]
  ]

  pub cleared-freed : (l m p : ℕ) → slice_get c.candidates l ≡ Some m → slice_get answers l ≡ Some said_cleared → IsRowOf r.managed s.peers.issued m p → Contains s.peers.heap.freed p
  cleared-freed l m p e a w = elim (d.handles l m w.handle e w.holds) [
    | inl t ↦ absurd (cleared-alive t.0 (same_Some said_cleared (said_alive t.0) (sym a ∙ t.1)))
    | inr t ↦ elim t [
      | inl u ↦ subst (λ z. Contains s.peers.heap.freed z) w.leads (u.1.freed w.row w.is_issued)
      | inr u ↦ absurd (omega (arith, u.0, slice_get_within answers l said_cleared a))
    ]
  ]

  -- each candidate was answered
  pub answered : (l m : ℕ) → slice_get c.candidates l ≡ Some m → ((g : ℕ) × (slice_get answers l ≡ Some (said_alive g))) ⊎ (slice_get answers l ≡ Some said_cleared)
  answered l m e = by (slice_get answers l) refl
    where
      by : (x : Option Answer) → slice_get answers l ≡ x → ((g : ℕ) × (slice_get answers l ≡ Some (said_alive g))) ⊎ (slice_get answers l ≡ Some said_cleared)
      by (Some (said_alive g)) q = inl (g, q)
      by (Some said_cleared) q = inr q
      by None q = absurd (past q)
        where
          past : slice_get answers l ≡ None → ⊥
          past w = (let t = slice_get-get_or answers l said_cleared (omega (arith, slice_get_within c.candidates l m e, d.all)) in none_some _ (sym w ∙ t))

  -- the handle that a restore gave replaces the candidate's own
  pub replaced : (m g h : ℕ) → IsGivenTo c.candidates answers m g → Holds r.managed m h → IsReplaced s h g
  replaced m g h v q = elim (d.handles v.place m h v.candidate q) [
    | inl t ↦ subst (IsReplaced s h) (same-alive t.0 g (same_Some (said_alive t.0) (said_alive g) (sym t.1 ∙ v.answer))) t.2
    | inr t ↦ elim t [
      | inl u ↦ absurd (cleared-alive g (same_Some said_cleared (said_alive g) (sym u.0 ∙ v.answer)))
      | inr u ↦ absurd (omega (arith, u.0, slice_get_within answers v.place (said_alive g) v.answer))
    ]
  ]

  module _ (freed : List ℕ) (p : IsResolution r.managed c.dead (IsAnsweredAlive c.candidates answers) freed) where
    abbrev closing : ManagedReplay
    closing = record r { managed = resolved r.managed answers freed; registry = without_twins r.registry freed; adopted = r.adopted ++ handles_given answers }

    cut : IsCutOff r.managed c
    cut = k.managed.dead c d.opened.cycle

    own_candidates : candidates_of r.managed ≡ c.candidates
    own_candidates = candidates_of-open r.managed c d.opened.cycle

    -- what a row holds then it held before, or its restore gave it
    back : (m h : ℕ) → Holds closing.managed m h → Holds r.managed m h ⊎ IsGivenTo c.candidates answers m h
    back m h q = elim (renewed-cases r.managed.held (candidates_of r.managed) answers m h q.held) [
      | inl e ↦ inl (record { live = IsLive-before r.managed.heap freed m q.live; held = e })
      | inr w ↦ inr (subst (λ z. IsGivenTo z answers m h) own_candidates w)
    ]

    -- a row to which a restore gave a handle is a candidate, and held another
    had : (m g : ℕ) → IsGivenTo c.candidates answers m g → IsBridge r.managed m
    had m g v = ((cut.candidates m).0 (Contains-at c.candidates v.place m v.candidate)).1

    not_freed : (m h : ℕ) → Holds closing.managed m h → Contains freed m → ⊥
    not_freed m h q f = q.live.kept (Contains-append_right r.managed.heap.freed freed m f)

    -- it holds only that then
    back-given : (m g h : ℕ) → IsGivenTo c.candidates answers m g → Holds closing.managed m h → h ≡ g
    back-given m g h v q =
        let b = had m g v in
        let within = numbered-within r.managed.held m (Some b.0) b.1.held in
        let now = renewed-given r.managed.held (candidates_of r.managed) answers m g
        (subst Rises (sym own_candidates) cut.rise) within.0 within.1 (subst (λ z. IsGivenTo z answers m g) (sym own_candidates) v) in
        same_Some h g (same_Some (Some h) (Some g) (sym q.held ∙ now))

    on-given : (m g : ℕ) → (Contains freed m → ⊥) → IsGivenTo c.candidates answers m g → Holds closing.managed m g
    on-given m g n v =
        let b = had m g v in
        let within = numbered-within r.managed.held m (Some b.0) b.1.held in
        record {
          live = IsLive-left r.managed.heap freed m b.1.live n;
          held = renewed-given r.managed.held (candidates_of r.managed) answers m g
              (subst Rises (sym own_candidates) cut.rise) within.0 within.1 (subst (λ z. IsGivenTo z answers m g) (sym own_candidates) v);
        }

    on-other : (m h : ℕ) → (Contains freed m → ⊥) → ((g : ℕ) → IsGivenTo c.candidates answers m g → ⊥) → Holds r.managed m h → Holds closing.managed m h
    on-other m h n none q = record {
      live = IsLive-left r.managed.heap freed m q.live n;
      held = renewed-other r.managed.held (candidates_of r.managed) answers m (λ g v. none g (subst (λ z. IsGivenTo z answers m g) own_candidates v)) ∙ q.held;
    }

    -- a candidate that stays has an unfreed peer: an answered one leads to it, or it was answered itself
    pub stays-unfreed : (b q : ℕ) → Contains c.candidates b → (Contains freed b → ⊥) → IsRowOf r.managed s.peers.issued b q → Contains s.peers.heap.freed q → ⊥
    stays-unfreed b q cb n w f = n ((p.frees b).1 (((cut.candidates b).0 cb).0, λ x. kept_by x.0 x.1 x.2))
      where
        kept_by : (a : ℕ) → IsAnsweredAlive c.candidates answers a → Reaches (ManagedEdge r.managed) a b → ⊥
        kept_by a t walk =
            let ca : Contains c.candidates a = Contains-at c.candidates t.0 a t.1 in
            let bridge : IsBridge r.managed a = ((cut.candidates a).0 ca).1 in
            let row = row_of a bridge.0 bridge.1 in
            (d.closed a b row.0 q ca cb walk row.1 w (alive-live t.0 a row.0 t.2.0 t.1 t.2.1 row.1)).kept f

    -- so to a candidate that stays its restore gave a handle
    pub stays-given : (m h : ℕ) → Contains c.candidates m → (Contains freed m → ⊥) → Holds r.managed m h → (g : ℕ) × IsGivenTo c.candidates answers m g
    stays-given m h cm n q =
        let row = row_of m h q in
        let at = at-Contains c.candidates m cm in
        elim (answered at.0 m at.1) [
          | inl t ↦ (t.0, record { place = at.0; candidate = at.1; answer = t.1 })
          | inr u ↦ absurd (stays-unfreed m row.0 cm n row.1 (cleared-freed at.0 m row.0 at.1 u row.1))
        ]

    -- no handle is weak any more
    none-weak : (h : ℕ) → HasStrength s h weak → IsHeldOne s h → ⊥
    none-weak h w q =
        let t = o.weak_ones h w q in
        let at = at-Contains c.candidates t.0 (subst (λ z. Contains z t.0) own_candidates t.2) in
        elim (d.handles at.0 t.0 h at.1 t.1) [
          | inl u ↦ u.2.untabled w.0 w.1
          | inr u ↦ elim u [
            | inl v ↦ v.1.untabled w.0 w.1
            | inr v ↦ omega (arith, v.0, slice_get_within c.candidates at.0 t.0 at.1, d.all)
          ]
        ]

    -- what a row holds then is on the peer of what it held
    row_back : (m x : ℕ) → IsRowOf closing.managed s.peers.issued m x → IsRowOf r.managed s.peers.issued m x
    row_back m x w = elim (back m w.handle w.holds) [
      | inl old ↦ record { handle = w.handle; holds = old; row = w.row; is_issued = w.is_issued; leads = w.leads }
      | inr v ↦ (
          let b = had m w.handle v in
          let y = replaced m w.handle b.0 v b.1 in
          record { handle = b.0; holds = b.1; row = y.old; is_issued = y.was; leads = sym y.same ∙ (ap (λ (z : Issued). z.peer) (same_Some y.new w.row (sym y.is ∙ w.is_issued)) ∙ w.leads) })
    ]

    row_on : (m x : ℕ) → (Contains freed m → ⊥) → IsRowOf r.managed s.peers.issued m x → IsRowOf closing.managed s.peers.issued m x
    row_on m x n w = elim (given-or c.candidates answers m) [
      | inr none ↦ record { handle = w.handle; holds = on-other m w.handle n none w.holds; row = w.row; is_issued = w.is_issued; leads = w.leads }
      | inl v ↦ (
          let y = replaced m v.0 w.handle v.1 w.holds in
          record { handle = v.0; holds = on-given m v.0 n v.1; row = y.new; is_issued = y.is; leads = replaced-peer s w.handle v.0 w.row y w.is_issued ∙ w.leads })
    ]

    strong-then : (m h : ℕ) → Holds closing.managed m h → HasStrength s h strong
    strong-then m h q = elim (back m h q) [
      | inr v ↦ (let b = had m h v in (replaced m h b.0 v b.1).strong_one)
      | inl old ↦ elim (Contains-decided c.candidates m) [
        | inr n ↦ o.strong_ones m h old (λ w. n (subst (λ z. Contains z m) own_candidates w))
        | inl cm ↦ (
            let v = stays-given m h cm (not_freed m h q) old in
            subst (λ z. HasStrength s z strong) (sym (back-given m v.0 h v.1 q)) (replaced m v.0 h v.1 old).strong_one)
      ]
    ]

    held-then : (m h : ℕ) → Holds closing.managed m h → IsHeldOne s h
    held-then m h q = elim (back m h q) [
      | inl old ↦ o.held_ones m h old
      | inr v ↦ (let b = had m h v in (replaced m h b.0 v b.1).held_one)
    ]

    -- a handle that a restore gave was issued
    given-issued : (h : ℕ) → Contains (handles_given answers) h → h ≤ length s.peers.issued
    given-issued h w =
        let a = given-at answers h w in
        let within = slice_get_within answers a.0 (said_alive h) a.1 in
        let at = slice_get-get_or c.candidates a.0 0 (omega (arith, within, d.all)) in
        let v : IsGivenTo c.candidates answers _ h = record { place = a.0; candidate = at; answer = a.1 } in
        let b = had _ h v in
        (numbered-within s.peers.issued h (replaced _ h b.0 v b.1).new (replaced _ h b.0 v b.1).is).1

    pub owners_resolved : OwnersInvariant closing s
    owners_resolved = record {
      held_ones = held-then;
      strong_ones = λ m h q out. strong-then m h q;
      weak_ones = λ h w q. absurd (none-weak h w q);
      registered = λ m x w. without_twins-keeps r.registry freed x m (o.registered m x (row_back m x w)) (not_freed m w.handle w.holds);
      pairs = λ x m w. (let u = without_twins-parts r.registry freed x m w in row_on m x u.1 (o.pairs x m u.0));
      adopted = λ h w. elim (Contains-append_cases r.adopted (handles_given answers) h w) [ inl t ↦ o.adopted h t | inr t ↦ given-issued h t ];
    }

    -- what threads have in hand no restore gave, so no row takes it
    pub callers_resolved : (ds : List Doing) → CallersInvariant r s (put_hands answers ds) → CallersInvariant closing s ds
    callers_resolved ds all = record {
      loose = λ t h u. (let l = w.loose t h u in record {
        strong_one = l.strong_one;
        held_one = l.held_one;
        unowned = λ m q. elim (back m h q) [ inl old ↦ l.unowned m old | inr v ↦ given-apart r s answers ds all v.place h t v.answer u ];
      });
      apart = w.apart;
      peers = w.peers;
      virgins = λ t h x u. (
          let v = w.virgins t h x u in
          record {
            slots = v.slots;
            fields = v.fields;
            handles = v.handles;
            pairs = λ m e. v.pairs m (without_twins-parts r.registry freed x m e).0;
            unadopted = λ c. elim (Contains-append_cases r.adopted (handles_given answers) h c) [
              | inl y ↦ v.unadopted y
              | inr y ↦ (let a = given-at answers h y in given-apart r s answers ds all a.0 h t a.1 (made-hand (doing_in ds t) h x u))
            ];
          });
      lent_ones = λ t h u. Contains-append_left r.adopted (handles_given answers) h (w.lent_ones t h u);
    }
      where
        w : CallersInvariant r s ds
        w = CallersInvariant-threads r s answers ds all

    pub driver_resolved : IsIdle closing s
    driver_resolved = record { closed = refl; none = d.none }

-- an abandonment, before the mirror
module _ (r : ManagedReplay) (s : PeerReplay) (op : OpenSnap) (o : OwnersInvariant r s) (d : IsBeforeMirror r s op) where
  abbrev leaving : ManagedReplay
  leaving = record r { managed = abandoned r.managed }

  pub as_before : (m h : ℕ) → Holds leaving.managed m h → Holds r.managed m h
  as_before m h q = record { live = record { made = q.live.made; kept = q.live.kept }; held = q.held }

  as_after : (m h : ℕ) → Holds r.managed m h → Holds leaving.managed m h
  as_after m h q = record { live = record { made = q.live.made; kept = q.live.kept }; held = q.held }

  candidate-strong : (m h : ℕ) → Contains d.cycle.candidates m → Holds r.managed m h → HasStrength s h strong
  candidate-strong m h cm q = let at = at-Contains d.cycle.candidates m cm in d.handles at.0 m h at.1 q

  pub owners_abandoned : OwnersInvariant leaving s
  owners_abandoned = record {
    held_ones = λ m h q. o.held_ones m h (as_before m h q);
    strong_ones = λ m h q out. elim (Contains-decided d.cycle.candidates m) [
      | inl cm ↦ candidate-strong m h cm (as_before m h q)
      | inr n ↦ o.strong_ones m h (as_before m h q) (λ w. n (subst (λ z. Contains z m) (candidates_of-open r.managed d.cycle d.opened.cycle) w))
    ];
    weak_ones = λ h w q. (let t = o.weak_ones h w q in absurd (strength-one s h
        (candidate-strong t.0 h (subst (λ z. Contains z t.0) (candidates_of-open r.managed d.cycle d.opened.cycle) t.2) t.1) w));
    registered = λ m x w. o.registered m x (record { handle = w.handle; holds = as_before m w.handle w.holds; row = w.row; is_issued = w.is_issued; leads = w.leads });
    pairs = λ x m w. (let v = o.pairs x m w in record { handle = v.handle; holds = as_after m v.handle v.holds; row = v.row; is_issued = v.is_issued; leads = v.leads });
    adopted = o.adopted;
  }

  pub callers_abandoned : (ds : List Doing) → CallersInvariant r s ds → CallersInvariant leaving s ds
  callers_abandoned ds w = record {
    loose = λ t h u. (let l = w.loose t h u in record { strong_one = l.strong_one; held_one = l.held_one; unowned = λ m q. l.unowned m (as_before m h q) });
    apart = w.apart;
    peers = w.peers;
    virgins = λ t h x u. (let v = w.virgins t h x u in record { slots = v.slots; fields = v.fields; handles = v.handles; pairs = v.pairs; unadopted = v.unadopted });
    lent_ones = w.lent_ones;
  }

  pub driver_abandoned : IsIdle leaving s
  driver_abandoned = record { closed = refl; none = d.none }
