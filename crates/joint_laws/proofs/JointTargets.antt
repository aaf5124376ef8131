-- Where a handle leads is the same in the joint machine and in the peer side's table; and the joint twin of a peer is
-- what the registry answers.
use Rattle.std.proofs.Common.{◌≡◌, ◌≢◌, ℕ, zero, suc, ◌+◌, ◌<◌, ◌≤◌, inl, inr, Bool, true, false, ◌&&◌, List, [], ◌∷◌, length, Option, Some, None, refl, sym, ap, ◌∙◌, arith, nat_eq}
use Rattle.std.specs.Prelude.{Contains, slice_get, if◌then◌else◌}
use Rattle.std.proofs.lemmas.Bool.{cases_eq}
use Rattle.std.proofs.lemmas.Bool.Decides.{Decides-eqb}
use Rattle.std.proofs.lemmas.Option.{same_Some}
use Rattle.joint_machine.specs.Control.{Doing, Stand}
use Rattle.joint_machine.specs.Joined.{removed_in}
use Rattle.joint_laws.proofs.JointFlags.{removed-at}
use Rattle.joint_machine.specs.Heaps.{numbered_at, is_freed}
use Rattle.joint_machine.specs.Joint.{Joint, JointMarking, joint_target, is_twin, twin_from, twin_of}
use Rattle.joint_machine.specs.Managed.{handle_of}
use Rattle.joint_machine.specs.ManagedReplay.{ManagedReplay, registered}
use Rattle.joint_machine.specs.Peers.{Issued, Hold, held, raw, peer_of, is_held}
use Rattle.joint_machine.specs.PeerReplay.{PeerReplay, TableRow, table_target}
use Rattle.joint_laws.specs.JointAgreement.{AreFlags, Flags, joint_as}
use Rattle.joint_laws.specs.PeerInvariants.{IsTabled, IsIssued}
use Rattle.joint_laws.specs.LinkedInvariants.{IsRowOf}
use Rattle.joint_machine.proofs.Numbered.{numbered-within, numbered-made}
use Rattle.joint_machine.proofs.Deciding.{none_some}
use Rattle.joint_machine.proofs.HeapLemmas.{Contains-is_freed, is_freed-live, Holds-handle_of}
use Rattle.joint_laws.proofs.Registered.{registered-some, registered-none}
use Rattle.joint_laws.proofs.DriverPeerSteps.{holds-handle_of}
use Rattle.joint_laws.proofs.LinkedQuiet.{BothInvariants}

-- the answers by their parts
abbrev table_by : PeerReplay → ℕ → Option TableRow → Option ℕ
table_by s h o = elim o [ None ↦ None | Some row ↦ if row.cleared then None else peer_of s.peers.issued h ]

abbrev unfreed : PeerReplay → Option ℕ → Option ℕ
unfreed s o = elim o [ None ↦ None | Some p ↦ if is_freed s.peers.heap p then None else Some p ]

abbrev joint_by : PeerReplay → ℕ → Option Bool → Option ℕ
joint_by s h o = elim o [ None ↦ None | Some gone ↦ if gone then None else unfreed s (peer_of s.peers.issued h) ]

abbrev flat : Option (Option TableRow) → Option TableRow
flat o = elim o [ None ↦ None | Some row ↦ row ]

-- past the end no handle is removed
removed-none_at : (rows : List (Option TableRow)) (i : ℕ) → slice_get rows i ≡ None → slice_get (removed_in rows) i ≡ None
removed-none_at [] i e = refl
removed-none_at (x ∷ rows) zero e = absurd (none_some x (sym e))
removed-none_at (x ∷ rows) (suc i) e = removed-none_at rows i e

removed-none : (rows : List (Option TableRow)) (h : ℕ) → numbered_at rows h ≡ None → numbered_at (removed_in rows) h ≡ None
removed-none rows zero e = refl
removed-none rows (suc i) e = removed-none_at rows i e

module _ (r : ManagedReplay) (s : PeerReplay) (ds : List Doing) (d : Stand) (k : BothInvariants r s ds d) (flags : Flags) (fl : AreFlags s flags) where
  peer-is : (h : ℕ) (i : Issued) → IsIssued s.peers.issued h i → peer_of s.peers.issued h ≡ Some i.peer
  peer-is h i e = ap (λ (o : Option Issued). elim o [ None ↦ None | Some j ↦ Some j.peer ]) e

  -- a handle in the table leads to its peer, or is cleared
  tabled-target : (h : ℕ) (row : TableRow) (i : Issued) → IsTabled s.table h row → IsIssued s.peers.issued h i
      → (b : Bool) → row.cleared ≡ b → unfreed s (peer_of s.peers.issued h) ≡ (if b then None else peer_of s.peers.issued h)
  tabled-target h row i t e true c =
      ap (unfreed s) (peer-is h i e) ∙ ap (λ (z : Bool). if z then None else Some i.peer) (Contains-is_freed s.peers.heap i.peer (k.peer.handles.cleared h row i t e c))
  tabled-target h row i t e false c =
      ap (unfreed s) (peer-is h i e) ∙ (ap (λ (z : Bool). if z then None else Some i.peer) (is_freed-live s.peers.heap i.peer (k.peer.handles.uncleared h row i t e c)) ∙ sym (peer-is h i e))

  target-by : (h : ℕ) (x : Option (Option TableRow)) → numbered_at s.table h ≡ x → joint_by s h (numbered_at (removed_in s.table) h) ≡ table_by s h (flat x)
  target-by h None e = ap (joint_by s h) (removed-none s.table h e)
  target-by h (Some None) e = ap (joint_by s h) (removed-at s.table h None e)
  target-by h (Some (Some row)) e =
      let w = numbered-within s.table h (Some row) e in
      let i = numbered-made s.peers.issued h w.0 (omega (arith, w.1, k.peer.handles.places)) in
      ap (joint_by s h) (removed-at s.table h (Some row) e) ∙ tabled-target h row i.0 e i.1 row.cleared refl

  pub target-same : (jm : Option JointMarking) (h : ℕ) → joint_target (joint_as r.managed s flags jm) h ≡ table_target s h
  target-same jm h = ap (λ z. joint_by s h (numbered_at z h)) fl ∙ target-by h (numbered_at s.table h) refl

-- a row is a twin exactly where the registry has it
module _ (r : ManagedReplay) (s : PeerReplay) (ds : List Doing) (d : Stand) (k : BothInvariants r s ds d) (flags : Flags) (jm : Option JointMarking) (p : ℕ) where
  abbrev j : Joint
  j = joint_as r.managed s flags jm

  abbrev issued_by : Option Issued → Bool
  issued_by o = elim o [ None ↦ false | Some i ↦ is_held i.hold && nat_eq i.peer p ]

  abbrev twin_by : Option ℕ → Bool
  twin_by o = elim o [ None ↦ false | Some h ↦ issued_by (numbered_at s.peers.issued h) ]

  held-true : (x : Hold) (b : Bool) → (is_held x && b) ≡ true → (x ≡ held) × (b ≡ true)
  held-true held b e = (refl, e)
  held-true raw b e = (let f : ⊥ = cc in absurd f)

  twin-row : (m : ℕ) (o : Option ℕ) → handle_of r.managed m ≡ o → twin_by o ≡ true → IsRowOf r.managed s.peers.issued m p
  twin-row m None e t = (let f : ⊥ = cc in absurd f)
  twin-row m (Some h) e t = by (numbered_at s.peers.issued h) refl t
    where
      by : (x : Option Issued) → numbered_at s.peers.issued h ≡ x → issued_by x ≡ true → IsRowOf r.managed s.peers.issued m p
      by None f u = (let g : ⊥ = cc in absurd g)
      by (Some i) f u = record {
        handle = h;
        holds = holds-handle_of r.managed m h k.managed.managed.places e;
        row = i;
        is_issued = f;
        leads = (Decides-eqb i.peer p).0 (held-true i.hold (nat_eq i.peer p) u).1;
      }

  row-twin : (m : ℕ) → IsRowOf r.managed s.peers.issued m p → is_twin j p m ≡ true
  row-twin m w =
      let i = k.owners.held_ones m w.handle w.holds in
      let same : i.0 ≡ w.row = same_Some i.0 w.row (sym i.1 ∙ w.is_issued) in
      ap twin_by (Holds-handle_of r.managed m w.handle w.holds) ∙
      (ap issued_by w.is_issued ∙ both w.row.hold (nat_eq w.row.peer p) (ap (λ (z : Issued). z.hold) (sym same) ∙ i.2) ((Decides-eqb w.row.peer p).1 w.leads))
    where
      both : (x : Hold) (b : Bool) → x ≡ held → b ≡ true → (is_held x && b) ≡ true
      both held b e f = f
      both raw b e f = absurd (let g : raw ≡ held = e in cc)

  twin-registered : (m : ℕ) → is_twin j p m ≡ true → Contains r.registry (p, m)
  twin-registered m t = k.owners.registered m p (twin-row m (handle_of r.managed m) refl t)

  -- the search finds the one twin
  finds : (n m : ℕ) (hs : List (Option ℕ)) → is_twin j p n ≡ true → ((x : ℕ) → is_twin j p x ≡ true → x ≡ n) → m ≤ n → n < m + length hs → twin_from j p m hs ≡ Some n
  finds n m [] t one l u = absurd (omega arith)
  finds n m (x ∷ hs) t one l u = by (is_twin j p m) refl (λ ne. finds n (m + 1) hs t one (omega (arith, l, ne)) (omega (arith, u)))
    where
      by : (b : Bool) → is_twin j p m ≡ b → (m ≢ n → twin_from j p (m + 1) hs ≡ Some n) → (if b then Some m else twin_from j p (m + 1) hs) ≡ Some n
      by true e rest = ap Some (one m e)
      by false e rest = elim (cases_eq m n) [
        | inl same ↦ absurd (let f : true ≡ false = sym t ∙ (ap (is_twin j p) (sym same) ∙ e) in cc)
        | inr ne ↦ rest ne
      ]

  finds_none : (m : ℕ) (hs : List (Option ℕ)) → ((x : ℕ) → is_twin j p x ≡ true → ⊥) → twin_from j p m hs ≡ None
  finds_none m [] none = refl
  finds_none m (x ∷ hs) none = by (is_twin j p m) refl (finds_none (m + 1) hs none)
    where
      by : (b : Bool) → is_twin j p m ≡ b → twin_from j p (m + 1) hs ≡ None → (if b then Some m else twin_from j p (m + 1) hs) ≡ None
      by true e rest = absurd (none m e)
      by false e rest = rest

  twin-by : (o : Option ℕ) → registered r.registry p ≡ o → twin_of j p ≡ o
  twin-by (Some m) e =
      let c = registered-some r.registry p m e in
      let w = k.owners.pairs p m c in
      let l = numbered-within r.managed.held m (Some w.handle) w.holds.held in
      finds m 1 r.managed.held (row-twin m w) (λ x t. k.managed.one_row p x m (twin-registered x t) c) l.0 (omega (arith, l.1))
  twin-by None e = finds_none 1 r.managed.held (λ x t. registered-none r.registry p x e (twin-registered x t))

  pub twin-same : twin_of j p ≡ registered r.registry p
  twin-same = twin-by (registered r.registry p) refl
