-- What is kept in the end: the objects of the statics' groups and their peers. In a state in which all threads have
-- ended, nothing else is reached: the slots name these alone, and what they lead to are these.
use Rattle.std.proofs.Common.{◌≡◌, ℕ, zero, suc, ◌+◌, ◌/◌, ◌%◌, ◌-◌, ◌<◌, ◌≤◌, inl, inr, Bool, true, false, List, [], ◌∷◌, length, Option, Some, None, refl, sym, ap, subst, ◌∙◌, arith}
use Rattle.std.specs.Prelude.{Contains, slice_get}
use Rattle.std.proofs.lemmas.Option.{slice_get_within}
use Rattle.std.proofs.lemmas.Bool.{cases_lt}
use Rattle.joint_machine.specs.Heaps.{IsLive, HasField, InSlot, slot, place, numbered_at, fields_of}
use Rattle.joint_machine.specs.Linked.{Linkage}
use Rattle.joint_machine.specs.Managed.{Managed, Holds, IsManagedRoot, ManagedEdge}
use Rattle.joint_machine.specs.Peers.{Peers, peer_of}
use Rattle.joint_machine.proofs.Deciding.{some-same}
use Rattle.joint_machine.proofs.Members.{Contains-here, Contains-there, Contains-nil, Contains-cons_cases, at-Contains, Contains-decided}
use Rattle.joint_machine.proofs.Numbered.{numbered-within, slot-named, slot-Contains}
use Rattle.joint_laws.specs.LinkedInvariants.{IsRowOf, given_at}
use Rattle.joint_laws.proofs.LinkedEntries.{Of}
use Rattle.joint_laws.proofs.SparedWalks.{peer_of-row}
use Rattle.generated_laws.proofs.Pictures.{Mind, at}
use Rattle.generated_laws.proofs.Showing.{Group, Names, Joined, StaticIs, IsShown, number_of}
use Rattle.generated_laws.proofs.PeerShowing.{ArePeersShown, PeerStaticIs, Filled, filled}
use Rattle.generated_laws.proofs.Moves.{AreHeld}

-- the objects of the groups, and their peers
abbrev pub rows_of : List (Option Group) → List ℕ
rows_of [] = []
rows_of (None ∷ gs) = rows_of gs
rows_of (Some g ∷ gs) = g.bridge ∷ g.plain ∷ rows_of gs

abbrev pub peers_of : List (Option Group) → List ℕ
peers_of [] = []
peers_of (None ∷ gs) = peers_of gs
peers_of (Some g ∷ gs) = g.peer ∷ peers_of gs

-- a group that stands at a place
pub record StandsIn (groups : List (Option Group)) (Q : Group → Type 0) : Type 0 where
  pub spot : ℕ
  pub group : Group
  pub there : slot groups spot ≡ Some group
  pub has : Q group

further : (o : Option Group) (gs : List (Option Group)) (Q : Group → Type 0) → StandsIn gs Q → StandsIn (o ∷ gs) Q
further o gs Q w = record { spot = suc w.spot; group = w.group; there = w.there; has = w.has }

pub row-stands : (groups : List (Option Group)) (z : ℕ) → Contains (rows_of groups) z → StandsIn groups (λ g. Names g z)
row-stands [] z c = absurd (Contains-nil z c)
row-stands (None ∷ gs) z c = further None gs _ (row-stands gs z c)
row-stands (Some g ∷ gs) z c = elim (Contains-cons_cases g.bridge (g.plain ∷ rows_of gs) z c) [
  | inl e ↦ record { spot = 0; group = g; there = refl; has = inl (sym e) }
  | inr d ↦ elim (Contains-cons_cases g.plain (rows_of gs) z d) [
    | inl e ↦ record { spot = 0; group = g; there = refl; has = inr (sym e) }
    | inr f ↦ further (Some g) gs _ (row-stands gs z f)
  ]
]

pub stands-row : (groups : List (Option Group)) (i : ℕ) (g : Group) (z : ℕ) → slot groups i ≡ Some g → Names g z → Contains (rows_of groups) z
stands-row [] i g z e n = absurd (cc)
stands-row (None ∷ gs) zero g z e n = absurd (cc)
stands-row (None ∷ gs) (suc i) g z e n = stands-row gs i g z e n
stands-row (Some k ∷ gs) zero g z e (inl n) = subst (λ y. Contains (k.bridge ∷ k.plain ∷ rows_of gs) y)
    (ap (λ (y : Group). y.bridge) (some-same k g e) ∙ sym n) (Contains-here k.bridge (k.plain ∷ rows_of gs))
stands-row (Some k ∷ gs) zero g z e (inr n) =
    subst (λ y. Contains (k.bridge ∷ k.plain ∷ rows_of gs) y) (ap (λ (y : Group). y.plain) (some-same k g e) ∙ sym n)
    (Contains-there k.plain k.bridge (k.plain ∷ rows_of gs) (Contains-here k.plain (rows_of gs)))
stands-row (Some k ∷ gs) (suc i) g z e n = Contains-there z k.bridge (k.plain ∷ rows_of gs) (Contains-there z k.plain (rows_of gs) (stands-row gs i g z e n))

pub peer-stands : (groups : List (Option Group)) (q : ℕ) → Contains (peers_of groups) q → StandsIn groups (λ g. g.peer ≡ q)
peer-stands [] q c = absurd (Contains-nil q c)
peer-stands (None ∷ gs) q c = further None gs _ (peer-stands gs q c)
peer-stands (Some g ∷ gs) q c = elim (Contains-cons_cases g.peer (peers_of gs) q c) [
  | inl e ↦ record { spot = 0; group = g; there = refl; has = e }
  | inr d ↦ further (Some g) gs _ (peer-stands gs q d)
]

pub stands-peer : (groups : List (Option Group)) (i : ℕ) (g : Group) → slot groups i ≡ Some g → Contains (peers_of groups) g.peer
stands-peer [] i g e = absurd (cc)
stands-peer (None ∷ gs) zero g e = absurd (cc)
stands-peer (None ∷ gs) (suc i) g e = stands-peer gs i g e
stands-peer (Some k ∷ gs) zero g e = subst (λ (y : Group). Contains (k.peer ∷ peers_of gs) y.peer) (some-same k g e) (Contains-here k.peer (peers_of gs))
stands-peer (Some k ∷ gs) (suc i) g e = Contains-there g.peer k.peer (peers_of gs) (stands-peer gs i g e)

-- what isn't impossible of a list of numbers is so
pub stable : (xs : List ℕ) (x : ℕ) → ((Contains xs x → ⊥) → ⊥) → Contains xs x
stable xs x n = elim (Contains-decided xs x) [ inl c ↦ c | inr f ↦ absurd (n f) ]

-- a state in which all threads have ended
pub record IsSettled (minds : ℕ → Mind) (fills : ℕ → Filled) (groups : List (Option Group)) (s : Linkage) : Type 0 where
  pub shown : IsShown s.managed.managed minds groups
  pub peers : ArePeersShown s.peer.peers fills groups
  pub are_held : AreHeld s.managed.managed s.peer (given_at s.control.stand) minds groups
  pub empty : (t v : ℕ) → at (minds t).slots v ≡ None
  pub hands : (t : ℕ) → (minds t).hand ≡ None
  pub unfilled : (t v : ℕ) → filled (fills t) v ≡ false

-- what stands in a list of slots stands at a place
in-slot : (xs : List (Option ℕ)) (z : ℕ) → Contains xs (Some z) → (i : ℕ) × (i < length xs) × (slot xs i ≡ Some z)
in-slot xs z c = (let a = at-Contains xs (Some z) c in (a.0, slice_get_within xs a.0 (Some z) a.1, ap (λ (o : Option (Option ℕ)). elim o as (λ y. Option ℕ) [ None ↦ None | Some y ↦ y ]) a.1))

some-none : (z : ℕ) → Some z ≡ None → ⊥
some-none z e = cc

module _ (minds : ℕ → Mind) (fills : ℕ → Filled) (groups : List (Option Group)) (s : Linkage) (w : IsSettled minds fills groups s) (k : Of s) where
  abbrev sm : Managed
  sm = s.managed.managed

  abbrev sp : Peers
  sp = s.peer.peers

  no-variable : (z : ℕ) → Contains sm.heap.vars (Some z) → ⊥
  no-variable z c =
      let a = in-slot sm.heap.vars z c in
      let i = a.0 in
      let same : place (i / 8) (i % 8) ≡ i = omega arith in
      let e : slot sm.heap.vars (place (i / 8) (i % 8)) ≡ None = w.shown.vars (i / 8) (i % 8) (omega arith) ∙ ap number_of (w.empty (i / 8) (i % 8)) in
      some-none z (sym a.2 ∙ (ap (slot sm.heap.vars) (sym same) ∙ e))

  no-peer_variable : (z : ℕ) → Contains sp.heap.vars (Some z) → ⊥
  no-peer_variable z c =
      let a = in-slot sp.heap.vars z c in
      let i = a.0 in
      let same : place (i / 8) (i % 8) ≡ i = omega arith in
      let e : slot sp.heap.vars (place (i / 8) (i % 8)) ≡ None = w.peers.vars (i / 8) (i % 8) (omega arith) (w.unfilled (i / 8) (i % 8)) in
      some-none z (sym a.2 ∙ (ap (slot sp.heap.vars) (sym same) ∙ e))

  -- a filled static's group
  static-group : (y z : ℕ) → y < 16 → slot sm.heap.statics y ≡ Some z → (g : Group) × (slot groups y ≡ Some g) × (z ≡ g.plain)
  static-group y z l e = by (slot groups y) refl (subst (λ o. StaticIs o (slot groups y)) e (w.shown.statics y l))
    where
      by : (o : Option Group) → slot groups y ≡ o → StaticIs (Some z) o → (g : Group) × (slot groups y ≡ Some g) × (z ≡ g.plain)
      by None f n = absurd n
      by (Some g) f n = (g, f, n.0)

  peer_static-group : (y q : ℕ) → y < 16 → slot sp.heap.statics y ≡ Some q → (g : Group) × (slot groups (16 + y) ≡ Some g) × (g.peer ≡ q)
  peer_static-group y q l e = by (slot groups (16 + y)) refl (subst (λ o. PeerStaticIs o (slot groups (16 + y))) e (w.peers.statics y l))
    where
      by : (o : Option Group) → slot groups (16 + y) ≡ o → PeerStaticIs (Some q) o → (g : Group) × (slot groups (16 + y) ≡ Some g) × (g.peer ≡ q)
      by None f n = absurd n
      by (Some g) f n = (g, f, n.0)

  -- slots name what is kept
  pub root-kept : (z : ℕ) → IsManagedRoot sm z → Contains (rows_of groups) z
  root-kept z (inr c) = absurd (w.shown.unpinned z c)
  root-kept z (inl (inl c)) = absurd (no-variable z c)
  root-kept z (inl (inr c)) =
      let a = in-slot sm.heap.statics z c in
      let l = w.shown.shelf in
      let m = a.1 in
      let g = static-group a.0 z (omega (arith, l, m)) a.2 in
      stands-row groups a.0 g.0 z g.1 (inr g.2)

  pub peer_slot-kept : (q : ℕ) → InSlot sp.heap q → Contains (peers_of groups) q
  peer_slot-kept q (inl c) = absurd (no-peer_variable q c)
  peer_slot-kept q (inr c) =
      let a = in-slot sp.heap.statics q c in
      let l = w.peers.shelf in
      let m = a.1 in
      let g = peer_static-group a.0 q (omega (arith, l, m)) a.2 in
      subst (Contains (peers_of groups)) g.2 (stands-peer groups (16 + a.0) g.0 g.1)

  -- one row of a group leads to the other alone
  names-edge : (i : ℕ) (g : Group) (x y : ℕ) → slot groups i ≡ Some g → Names g x → HasField sm.heap x y → Names g y
  names-edge i g x y e n f = by g.turned (w.shown.groups_are i g e).joined n
    where
      only : (o : ℕ) → fields_of sm.heap x ≡ Some o ∷ [] → y ≡ o
      only o q = elim (Contains-cons_cases (Some o) [] (Some y) (subst (λ fs. Contains fs (Some y)) q f.field)) [ inl r ↦ some-same y o (sym r) | inr r ↦ absurd (Contains-nil (Some y) r) ]

      none : fields_of sm.heap x ≡ [] → ⊥
      none q = Contains-nil (Some y) (subst (λ fs. Contains fs (Some y)) q f.field)

      by : (b : Bool) → Joined sm g.bridge g.plain b → Names g x → Names g y
      by false j (inl q) = absurd (none (ap (fields_of sm.heap) q ∙ j.1))
      by false j (inr q) = inl (only g.bridge (ap (fields_of sm.heap) q ∙ j.0))
      by true j (inl q) = inr (only g.plain (ap (fields_of sm.heap) q ∙ j.0))
      by true j (inr q) = absurd (none (ap (fields_of sm.heap) q ∙ j.1))

  pub edge-kept : (x y : ℕ) → ManagedEdge sm x y → Contains (rows_of groups) x → Contains (rows_of groups) y
  edge-kept x y f c = (let g = row-stands groups x c in stands-row groups g.spot g.group y g.there (names-edge g.spot g.group x y g.there g.has f))

  pub names-on : (i : ℕ) (g : Group) → slot groups i ≡ Some g → (x y : ℕ) → ManagedEdge sm x y → Names g x → Names g y
  names-on i g e x y f n = names-edge i g x y e n f

  -- the rows of a group are unfreed
  from-plain : (i : ℕ) (g : Group) → slot groups i ≡ Some g → IsLive sm.heap g.plain → g.turned ≡ false → IsLive sm.heap g.bridge
  from-plain i g e l t = k.managed.managed.fields g.plain g.bridge l
      (subst (λ fs. Contains fs (Some g.bridge)) (sym (subst (Joined sm g.bridge g.plain) t (w.shown.groups_are i g e).joined).0) (Contains-here (Some g.bridge) []))

  from-bridge : (i : ℕ) (g : Group) → slot groups i ≡ Some g → IsLive sm.heap g.bridge → g.turned ≡ true → IsLive sm.heap g.plain
  from-bridge i g e l t = k.managed.managed.fields g.bridge g.plain
      l (subst (λ fs. Contains fs (Some g.plain)) (sym (subst (Joined sm g.bridge g.plain) t (w.shown.groups_are i g e).joined).0) (Contains-here (Some g.plain) []))

  pub group-live : (i : ℕ) (g : Group) → slot groups i ≡ Some g → IsLive sm.heap g.bridge × IsLive sm.heap g.plain
  group-live i g e = elim (cases_lt i 16) [
    | inl l ↦ first l (slot sm.heap.statics i) refl (subst (StaticIs (slot sm.heap.statics i)) e (w.shown.statics i l))
    | inr l ↦ second (i - 16) (omega (arith, l)) (in-range l)
  ]
    where
      in-range : 16 ≤ i → i - 16 < 16
      in-range l = (let b = within i e in let q = w.shown.spots in omega (arith, b, q, l))
        where
          within : (j : ℕ) → slot groups j ≡ Some g → j < length groups
          within j f = slice_get_within groups j (Some g) (slot-named (slice_get groups j) g f)

      first : i < 16 → (o : Option ℕ) → slot sm.heap.statics i ≡ o → StaticIs o (Some g) → IsLive sm.heap g.bridge × IsLive sm.heap g.plain
      first l None q n = absurd n
      first l (Some z) q n =
          let plain : IsLive sm.heap g.plain = subst (IsLive sm.heap) n.0 (k.managed.managed.roots z (inl (inr (slot-Contains sm.heap.statics i z q)))) in
          (from-plain i g e plain n.1, plain)

      second : (y : ℕ) → 16 + y ≡ i → y < 16 → IsLive sm.heap g.bridge × IsLive sm.heap g.plain
      second y q l = by (slot sp.heap.statics y) refl (subst (PeerStaticIs (slot sp.heap.statics y)) (ap (slot groups) q ∙ e) (w.peers.statics y l))
        where
          by : (o : Option ℕ) → slot sp.heap.statics y ≡ o → PeerStaticIs o (Some g) → IsLive sm.heap g.bridge × IsLive sm.heap g.plain
          by None f n = absurd n
          by (Some p) f n =
              let live = k.peer.heap.slots p (inr (slot-Contains sp.heap.statics y p f)) in
              let h = (w.shown.groups_are i g e).holds in
              let b = numbered-within sm.held g.bridge (Some h.0) h.1 in
              let c = w.shown.places in
              let bridge : IsLive sm.heap g.bridge = record {
                made = (b.0, omega (arith, b.1, c));
                kept = λ d. (let o = w.are_held.freed g.bridge h.0 h.1 d in
                    live.kept (subst (λ z. Contains sp.heap.freed z) (some-same o.0 g.peer (sym o.1 ∙ w.are_held.leads i g h.0 e h.1) ∙ n.0) o.2));
              } in
              (bridge, from-bridge i g e bridge n.1)

  -- the handle that a group's bridge holds
  pub group-holds : (i : ℕ) (g : Group) → slot groups i ≡ Some g → (h : ℕ) × Holds sm g.bridge h
  group-holds i g e = (let h = (w.shown.groups_are i g e).holds in (h.0, record { live = (group-live i g e).0; held = h.1 }))

  -- a row that holds a handle and is kept is a group's bridge, and the handle leads to the group's peer
  pub kept-bridge : (x n : ℕ) → Holds sm x n → Contains (rows_of groups) x → StandsIn groups (λ g. (x ≡ g.bridge) × (peer_of sp.issued n ≡ Some g.peer))
  kept-bridge x n h c = (let g = row-stands groups x c in record { spot = g.spot; group = g.group; there = g.there; has = by g.spot g.group g.there g.has })
    where
      by : (i : ℕ) (g : Group) → slot groups i ≡ Some g → Names g x → (x ≡ g.bridge) × (peer_of sp.issued n ≡ Some g.peer)
      by i g e (inl q) = (q, w.are_held.leads i g n e (ap (numbered_at sm.held) (sym q) ∙ h.held))
      by i g e (inr q) = absurd (let f : Some (Some n) ≡ Some None = sym h.held ∙ (ap (numbered_at sm.held) q ∙ (w.shown.groups_are i g e).none) in cc)

  -- the row of a group's peer is the group's bridge
  pub row-of_group : (i : ℕ) (g : Group) → slot groups i ≡ Some g → IsRowOf sm sp.issued g.bridge g.peer
  row-of_group i g e =
      let h = group-holds i g e in
      let r = peer_of-row sp.issued h.0 g.peer (w.are_held.leads i g h.0 e h.1.held) in
      record { handle = h.0; holds = h.1; row = r.0; is_issued = r.1; leads = r.2 }

  pub only-row : (x i : ℕ) (g : Group) (q : ℕ) → slot groups i ≡ Some g → g.peer ≡ q → IsRowOf sm sp.issued x q → x ≡ g.bridge
  only-row x i g q e f r = k.managed.one_row q x g.bridge (k.owners.registered x q r) (k.owners.registered g.bridge q (subst (IsRowOf sm sp.issued g.bridge) f (row-of_group i g e)))
