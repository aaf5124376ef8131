-- The driver's events on the peer side. A mirror brings exactly the mirror edges, carried to the peers. A candidate's
-- handle is weakened, or restored, and the others' rows stay. A sweep frees no peer of a strong handle. And when the
-- references go, a candidate whose peer is unfreed leads only to such candidates, since the references did and freed
-- nothing between them.
use Rattle.std.proofs.Common.{◌≡◌, ℕ, zero, suc, ◌↔◌, inl, inr, Bool, true, false, List, [], ◌∷◌, ◌++◌, length, Option, Some, None, refl, sym, ap, subst, ◌∙◌, arith}
use Rattle.std.specs.Prelude.{Contains, slice_get, if◌then◌else◌}
use Rattle.std.proofs.lemmas.Map.Views.{list_any-from_Contains}
use Rattle.std.proofs.lemmas.Cmp.{nat_eq_equiv}
use Rattle.std.proofs.lemmas.Option.{same_Some}
use Rattle.std.proofs.lemmas.List.Elements.{Contains-append_left}
use Rattle.joint_machine.specs.Components.{mirror_edges}
use Rattle.joint_machine.specs.Control.{OpenSnap, carried_edges, peer_of_row}
use Rattle.joint_machine.specs.Cycles.{DeadEdge}
use Rattle.joint_machine.specs.Heaps.{IsLive, numbered_at, numbered_set, is_freed}
use Rattle.joint_machine.specs.Managed.{Managed, OpenCycle, Holds, IsBridge, handle_of}
use Rattle.joint_machine.specs.ManagedReplay.{ManagedReplay}
use Rattle.joint_machine.specs.Peers.{Issued, Strength, strong, peer_of}
use Rattle.joint_machine.specs.PeerReplay.{PeerReplay, TableRow, Mirror, Marking, cleared_rows, Refers}
use Rattle.joint_machine.specs.Walks.{Reaches}
use Rattle.joint_machine.proofs.WalkLemmas.{Reaches-keeps}
use Rattle.joint_laws.specs.ManagedInvariants.{IsCutOff, ReplayInvariant}
use Rattle.joint_laws.specs.Mirrors.{MirrorEdge}
use Rattle.joint_laws.specs.PeerInvariants.{IsTabled, IsIssued, IsSpared, PeerInvariant}
use Rattle.joint_laws.specs.LinkedInvariants.{HasStrength, IsHeldOne, IsRowOf, OwnersInvariant, IsMirrored, LeadsToUnfreed, IsContracted, IsWeakening}
use Rattle.joint_machine.proofs.Members.{at-Contains}
use Rattle.joint_machine.proofs.Numbered.{numbered-within, numbered_set-other}
use Rattle.joint_machine.proofs.Deciding.{none_some}
use Rattle.joint_machine.proofs.HeapLemmas.{Holds-handle_of}
use Rattle.joint_laws.proofs.HandleKeeping.{tabled-swept, swept_row}
use Rattle.joint_laws.proofs.HandlesAlike.{HandlesAlike, nothing_touched}
use Rattle.joint_laws.proofs.DeadMirrors.{candidates-mirrored}
use Rattle.joint_laws.proofs.Mirrors.{mirror_edge-ends}
use Rattle.joint_laws.proofs.Through.{carried-refers, refers-carried}

held-by : (b : Bool) (x : Option (Option ℕ)) (h : ℕ) → (if b then None else elim x [ None ↦ None | Some g ↦ g ]) ≡ Some h → (b ≡ false) × (x ≡ Some (Some h))
held-by true x h e = absurd (none_some h e)
held-by false None h e = absurd (none_some h e)
held-by false (Some g) h e = (refl, ap Some e)

pub holds-handle_of : (s : Managed) (m h : ℕ) → length s.held ≡ length s.heap.fields → handle_of s m ≡ Some h → Holds s m h
holds-handle_of s m h e q =
    let r = held-by (is_freed s.heap m) (numbered_at s.held m) h q in
    let w = numbered-within s.held m (Some h) r.1 in
    record { live = record { made = (w.0, omega (arith, w.1, e)); kept = λ c. freed-not c r.0 }; held = r.1 }
  where
    freed-not : Contains s.heap.freed m → is_freed s.heap m ≡ false → ⊥
    freed-not c f = (let t : true ≡ false = sym (list_any-from_Contains nat_eq_equiv m s.heap.freed c) ∙ f in cc)

-- the peer of a row, as the carried edges have it
abbrev row_peer : List Issued → Option ℕ → ℕ
row_peer issued o = elim o [ None ↦ 0 | Some h ↦ elim (peer_of issued h) [ None ↦ 0 | Some p ↦ p ] ]

abbrev peer_by : Option Issued → Option ℕ
peer_by o = elim o [ None ↦ None | Some i ↦ Some i.peer ]

pub peer_of_row-is : (s : Managed) (issued : List Issued) (m p : ℕ) → IsRowOf s issued m p → peer_of_row s issued m ≡ p
peer_of_row-is s issued m p w =
    ap (row_peer issued) (Holds-handle_of s m w.handle w.holds)
    ∙ (ap (λ (o : Option ℕ). elim o [ None ↦ 0 | Some x ↦ x ]) (ap peer_by w.is_issued) ∙ w.leads)

-- an edge between rows, carried to their peers
-- the mirror comes to stand
module _ (r : ManagedReplay) (s : PeerReplay) (op : OpenSnap) (comps : List (List ℕ)) (heavy : List ℕ) (xrefs : List (ℕ × ℕ))
    (k : ReplayInvariant r) (pk : PeerInvariant s) (o : OwnersInvariant r s) (d : IsContracted r s op comps heavy xrefs) where
  abbrev cyc : OpenCycle
  cyc = d.before.cycle

  row_at : (m : ℕ) → IsBridge r.managed m → (p : ℕ) × IsRowOf r.managed s.peers.issued m p
  row_at m b = let i = o.held_ones m b.0 b.1 in (i.0.peer, record { handle = b.0; holds = b.1; row = i.0; is_issued = i.1; leads = refl })

  edge-ends : (a b : ℕ) → MirrorEdge comps xrefs a b → (Contains cyc.dead a × IsBridge r.managed a) × (Contains cyc.dead b × IsBridge r.managed b)
  edge-ends a b e = mirror_edge-ends (λ x. Contains cyc.dead x × IsBridge r.managed x) (DeadEdge r.managed cyc.dead) comps heavy xrefs d.contraction a b e

  -- a carried edge is a mirror edge between the rows of its peers
  pub carried : (p q : ℕ) → Refers (carried_edges r.managed s.peers.issued (mirror_edges comps xrefs)) p q
      ↔ ((a : ℕ) × (b : ℕ) × MirrorEdge comps xrefs a b × IsRowOf r.managed s.peers.issued a p × IsRowOf r.managed s.peers.issued b q)
  carried p q = (to, from)
    where
      to : Refers (carried_edges r.managed s.peers.issued (mirror_edges comps xrefs)) p q
          → (a : ℕ) × (b : ℕ) × MirrorEdge comps xrefs a b × IsRowOf r.managed s.peers.issued a p × IsRowOf r.managed s.peers.issued b q
      to c =
          let m = refers-carried r.managed s.peers.issued (mirror_edges comps xrefs) p q c in
          let ends = edge-ends m.0 m.1 m.4 in
          let ra = row_at m.0 ends.0.1 in
          let rb = row_at m.1 ends.1.1 in
          let pa : ra.0 ≡ p = sym (peer_of_row-is r.managed s.peers.issued m.0 ra.0 ra.1) ∙ m.2 in
          let pb : rb.0 ≡ q = sym (peer_of_row-is r.managed s.peers.issued m.1 rb.0 rb.1) ∙ m.3 in
          (m.0, m.1, m.4, subst (λ z. IsRowOf r.managed s.peers.issued m.0 z) pa ra.1, subst (λ z. IsRowOf r.managed s.peers.issued m.1 z) pb rb.1)

      from : ((a : ℕ) × (b : ℕ) × MirrorEdge comps xrefs a b × IsRowOf r.managed s.peers.issued a p × IsRowOf r.managed s.peers.issued b q)
          → Refers (carried_edges r.managed s.peers.issued (mirror_edges comps xrefs)) p q
      from w =
          subst (λ z. Refers (carried_edges r.managed s.peers.issued (mirror_edges comps xrefs)) z q) (peer_of_row-is r.managed s.peers.issued w.0 p w.3)
          (subst (λ z. Refers (carried_edges r.managed s.peers.issued (mirror_edges comps xrefs)) (peer_of_row r.managed s.peers.issued w.0) z) (peer_of_row-is r.managed s.peers.issued w.1 q w.4)
          (carried-refers r.managed s.peers.issued (mirror_edges comps xrefs) w.0 w.1 w.2))

  -- a bridge row of the dead part is a candidate, its handle is strong, and its peer unfreed and spared
  dead-strong : (m p : ℕ) → Contains cyc.dead m → (w : IsRowOf r.managed s.peers.issued m p) → HasStrength s w.handle strong
  dead-strong m p dm w =
      let cut = k.managed.dead cyc d.before.opened.cycle in
      let at = at-Contains cyc.candidates m ((cut.candidates m).1 (dm, (w.handle, w.holds))) in
      d.before.handles at.0 m w.handle at.1 w.holds

  pub strong-live : (p h : ℕ) (i : Issued) → IsIssued s.peers.issued h i → i.peer ≡ p → HasStrength s h strong → IsLive s.peers.heap p
  strong-live p h i e l t = subst (λ z. IsLive s.peers.heap z) l (pk.handles.uncleared h t.0 i t.1 e (pk.handles.sure h t.0 t.1 t.2))

  pub carried-safe : (p q : ℕ) → Refers (carried_edges r.managed s.peers.issued (mirror_edges comps xrefs)) p q
      → IsLive s.peers.heap p × IsLive s.peers.heap q × ((mk : Marking) → s.marking ≡ Some mk → IsSpared mk q)
  carried-safe p q c =
      let w = (carried p q).0 c in
      let ends = edge-ends w.0 w.1 w.2 in
      let ta = dead-strong w.0 p ends.0.0 w.3 in
      let tb = dead-strong w.1 q ends.1.0 w.4 in (
        strong-live p w.3.handle w.3.row w.3.is_issued w.3.leads ta,
        strong-live q w.4.handle w.4.row w.4.is_issued w.4.leads tb,
        λ mk e. subst (IsSpared mk) w.4.leads ((pk.marking mk e).strong_ones w.4.handle tb.0 w.4.row tb.1 tb.2 w.4.is_issued),
      )

  pub driver_mirrored : (m : Mirror) (ks : List ℕ) → IsWeakening r (record s { refs = carried_edges r.managed s.peers.issued (mirror_edges comps xrefs); mirror = Some m; mirrors = ks }) op 0
  driver_mirrored m ks = record {
    cycle = cyc;
    opened = d.before.opened;
    mirror = record { comps = comps; heavy = heavy; xrefs = xrefs; contraction = d.contraction; stands = λ e. none_some m (sym e); exact = carried };
    handles = λ l x h e q. inr (omega arith, d.before.handles l x h e q);
  }

-- a held handle's row is written, or emptied
abbrev pub Only : ℕ → ℕ → Type 0
Only n h = h ≡ n

pub HandlesAlike-only : (s t : PeerReplay) (n : ℕ) (x : Option TableRow) → t.table ≡ numbered_set s.table n x
    → t.peers.issued ≡ s.peers.issued → t.peers.heap.freed ≡ s.peers.heap.freed → HandlesAlike (Only n) s t
HandlesAlike-only s t n x e f g = record {
  issued_on = λ h i q. subst (λ z. IsIssued z h i) (sym f) q;
  count = omega (arith, ap length f);
  on = λ h y w ne q. (q.0, subst (λ z. IsTabled z h q.0) (sym e) (numbered_set-other s.table n h x ne ∙ q.1), q.2);
  back = λ h y w ne q. (q.0, sym (numbered_set-other s.table n h x ne) ∙ subst (λ z. IsTabled z h q.0) e q.1, q.2);
  fresh = λ h y w q. inl (w.0, subst (λ z. IsIssued z h w.0) f w.1, w.2);
  freed_on = λ p c. subst (λ z. Contains z p) (sym g) c;
}

-- the row of a handle after a sweep
swept-at : (freed : List ℕ) (issued : List Issued) (table : List (Option TableRow)) (l : ℕ) (row : TableRow) (i : Issued)
    → slice_get table l ≡ Some (Some row) → slice_get issued l ≡ Some i → slice_get (cleared_rows freed issued table) l ≡ Some (Some (swept_row freed i row))
swept-at freed [] table l row i a b = absurd (none_some i b)
swept-at freed (j ∷ issued) [] l row i a b = absurd (none_some (Some row) a)
swept-at freed (j ∷ issued) (None ∷ table) zero row i a b = absurd (let c : ⊥ = cc in c)
swept-at freed (j ∷ issued) (Some y ∷ table) zero row i a b =
    let rows : y ≡ row = same_Some y row (same_Some (Some y) (Some row) a) in
    let same : j ≡ i = same_Some j i b in
    λ z. Some (Some (swept_row freed (same z) (rows z)))
swept-at freed (j ∷ issued) (None ∷ table) (suc l) row i a b = swept-at freed issued table l row i a b
swept-at freed (j ∷ issued) (Some y ∷ table) (suc l) row i a b = swept-at freed issued table l row i a b

pub swept-tabled : (freed : List ℕ) (issued : List Issued) (table : List (Option TableRow)) (h : ℕ) (row : TableRow) (i : Issued)
    → IsTabled table h row → IsIssued issued h i → IsTabled (cleared_rows freed issued table) h (swept_row freed i row)
swept-tabled freed issued table zero row i a b = absurd (none_some i b)
swept-tabled freed issued table (suc l) row i a b = swept-at freed issued table l row i a b

-- the handles of peers that stay keep their strength at a sweep
pub HandlesAlike-swept : (s t : PeerReplay) (freed : List ℕ) → length s.table ≡ length s.peers.issued → t.table ≡ cleared_rows freed s.peers.issued s.table
    → t.peers.issued ≡ s.peers.issued → t.peers.heap.freed ≡ s.peers.heap.freed ++ freed → HandlesAlike nothing_touched s t
HandlesAlike-swept s t freed places e f g = record {
  issued_on = λ h i q. subst (λ z. IsIssued z h i) (sym f) q;
  count = omega (arith, ap length f);
  on = λ h x w n q. on h x w q;
  back = λ h x w n q. back h x q;
  fresh = λ h x w q. inl (w.0, subst (λ z. IsIssued z h w.0) f w.1, w.2);
  freed_on = λ p c. subst (λ z. Contains z p) (sym g) (Contains-append_left s.peers.heap.freed freed p c);
}
  where
    back : (h : ℕ) (x : Strength) → HasStrength t h x → HasStrength s h x
    back h x q =
        let w = tabled-swept freed s.peers.issued s.table h q.0 places (subst (λ z. IsTabled z h q.0) e q.1) in
        (w.1, w.3, ap (λ (z : TableRow). z.strength) w.4 ∙ q.2)

    on : (h : ℕ) (x : Strength) → IsHeldOne s h → HasStrength s h x → HasStrength t h x
    on h x w q = (swept_row freed w.0 q.0, subst (λ z. IsTabled z h (swept_row freed w.0 q.0)) (sym e) (swept-tabled freed s.peers.issued s.table h q.0 w.0 q.1 w.1), q.2)

-- each peer of the row is unfreed
abbrev HasLivePeer : ManagedReplay → PeerReplay → ℕ → Type 0
HasLivePeer r s x = (y : ℕ) → IsRowOf r.managed s.peers.issued x y → IsLive s.peers.heap y

-- while the mirror stands, a candidate whose peer is unfreed leads only to such candidates
pub mirrored-closed : (r : ManagedReplay) (s : PeerReplay) (c : OpenCycle) → ReplayInvariant r
    → PeerInvariant s → OwnersInvariant r s → r.managed.cycle ≡ Some c → IsMirrored r s c → LeadsToUnfreed r s c
mirrored-closed r s c k pk o e m a b p q ca cb walk ra rb live = last (Reaches-keeps (MirrorEdge m.comps m.xrefs) (HasLivePeer r s) step a b path (first ra live))
  where
    cut : IsCutOff r.managed c
    cut = k.managed.dead c e

    path : Reaches (MirrorEdge m.comps m.xrefs) a b
    path = candidates-mirrored r.managed c cut m.comps m.heavy m.xrefs m.contraction a b ca cb walk

    one_peer : (x y z : ℕ) → IsRowOf r.managed s.peers.issued x y → IsRowOf r.managed s.peers.issued x z → y ≡ z
    one_peer x y z v w =
        let handles : v.handle ≡ w.handle = same_Some v.handle w.handle (same_Some (Some v.handle) (Some w.handle) (sym v.holds.held ∙ w.holds.held)) in
        let rows : v.row ≡ w.row = same_Some v.row w.row (sym v.is_issued ∙ (ap (λ n. numbered_at s.peers.issued n) handles ∙ w.is_issued)) in
        sym v.leads ∙ (ap (λ (i : Issued). i.peer) rows ∙ w.leads)

    first : IsRowOf r.managed s.peers.issued a p → IsLive s.peers.heap p → HasLivePeer r s a
    first v l y w = subst (λ z. IsLive s.peers.heap z) (one_peer a p y v w) l

    step : (x y : ℕ) → MirrorEdge m.comps m.xrefs x y → HasLivePeer r s x → HasLivePeer r s y
    step x y w fine z v =
        let ends = mirror_edge-ends (λ n. Contains c.dead n × IsBridge r.managed n) (DeadEdge r.managed c.dead) m.comps m.heavy m.xrefs m.contraction x y w in
        let i = o.held_ones x ends.0.1.0 ends.0.1.1 in
        let rx : IsRowOf r.managed s.peers.issued x i.0.peer = record { handle = ends.0.1.0; holds = ends.0.1.1; row = i.0; is_issued = i.1; leads = refl } in
        pk.references.live i.0.peer z ((m.exact i.0.peer z).1 (x, y, w, rx, v)) (fine i.0.peer rx)

    last : HasLivePeer r s b → IsLive s.peers.heap q
    last fine = fine q rb
