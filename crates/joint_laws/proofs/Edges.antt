-- How the joint edges change at an entry. An edge after it was there before, or leads to a row that was in a slot, or
-- to one that is reached now: a new field holds what a slot named, and a row that takes its handle is in a slot. An
-- edge before it stands, or leads to a row that was reached, or starts at a row that is freed, as long as the entry
-- frees no peer: only a row in a slot has a field or a handle changed; and a row that is freed and holds a handle has a
-- freed peer.
use Rattle.std.proofs.Common.{◌≡◌, ℕ, ◌≤◌, ◌⊎◌, inl, inr, List, [], ◌∷◌, length, Option, Some, None, sym, ap, subst, ◌∙◌, arith}
use Rattle.std.specs.Prelude.{Contains, Bool}
use Rattle.std.proofs.lemmas.Bool.{cases_lt}
use Rattle.std.proofs.lemmas.Option.{same_Some}
use Rattle.joint_machine.specs.Heaps.{Heap, IsMade, IsLive, InSlot, fields_of}
use Rattle.joint_machine.specs.Joint.{Graph, Row, object, peer, JointEdge, IsJoined, IsJointRoot, IsReachedIn}
use Rattle.joint_machine.specs.Linked.{Linkage, MayCome, linkage_after}
use Rattle.joint_machine.specs.Managed.{Managed, IsManagedRoot}
use Rattle.joint_machine.specs.Told.{Noted}
use Rattle.joint_machine.proofs.Deciding.{none_some}
use Rattle.joint_machine.proofs.HeapLemmas.{IsLive-before}
use Rattle.joint_machine.proofs.Joining.{same_or_not}
use Rattle.joint_machine.proofs.Members.{Contains-nil, Contains-here, Contains-there, Contains-cons_cases, Contains-decided}
use Rattle.joint_machine.proofs.WalkLemmas.{Reached-start, Reached-then}
use Rattle.joint_laws.proofs.Fields.{fields-past}
use Rattle.joint_laws.proofs.FreedRows.{freed-peer}
use Rattle.joint_laws.proofs.LinkedEntries.{Of}
use Rattle.joint_laws.proofs.ManagedEntries.{ManagedStep-entry}
use Rattle.joint_laws.proofs.ManagedMoves.{GoesOn}
use Rattle.joint_laws.proofs.ManagedSteps.{ManagedStep, going_on, snapping, resolving, abandoning}
use Rattle.joint_laws.proofs.NewRows.{new-named}
use Rattle.joint_laws.proofs.PeerEntries.{peer_of-issued}
use Rattle.joint_laws.proofs.PeerHeaps.{heap-entry}
use Rattle.joint_laws.proofs.SparedWalks.{peer_of-row}
use Rattle.joint_laws.proofs.PairMoves.{pairs-entry}

-- an object that has a field was made
field-made : (h : Heap) (x y : ℕ) → 1 ≤ x → Contains (fields_of h x) (Some y) → IsMade h x
field-made h x y l c = (l, elim (cases_lt (length h.fields) x) [ inl p ↦ absurd (fields-past h x (Some y) p c) | inr p ↦ p ])

pub made-or : (h : Heap) (x : ℕ) → 1 ≤ x → IsMade h x ⊎ (IsMade h x → ⊥)
made-or h x l = elim (cases_lt (length h.fields) x) [ inl p ↦ inr (λ m. omega (arith, m.1, p)) | inr p ↦ inl (l, p) ]

-- a slot names it, or none does
some-decided : (xs : List (Option ℕ)) (x : ℕ) → Contains xs (Some x) ⊎ (Contains xs (Some x) → ⊥)
some-decided [] x = inr (λ c. Contains-nil (Some x) c)
some-decided (None ∷ xs) x = elim (some-decided xs x) [
  | inl c ↦ inl (Contains-there (Some x) None xs c)
  | inr n ↦ inr (λ c. elim (Contains-cons_cases None xs (Some x) c) [ inl e ↦ none_some x e | inr d ↦ n d ])
]
some-decided (Some y ∷ xs) x = elim (same_or_not y x) [
  | inl e ↦ inl (subst (λ z. Contains (Some z ∷ xs) (Some x)) (sym e) (Contains-here (Some x) xs))
  | inr ne ↦ elim (some-decided xs x) [
    | inl c ↦ inl (Contains-there (Some x) (Some y) xs c)
    | inr n ↦ inr (λ c. elim (Contains-cons_cases (Some y) xs (Some x) c) [ inl e ↦ ne (same_Some y x e) | inr d ↦ n d ])
  ]
]

slot-decided : (h : Heap) (x : ℕ) → InSlot h x ⊎ (InSlot h x → ⊥)
slot-decided h x = elim (some-decided h.vars x) [
  | inl c ↦ inl (inl c)
  | inr n ↦ elim (some-decided h.statics x) [
    | inl c ↦ inl (inr c)
    | inr m ↦ inr (λ s. elim s [ inl c ↦ n c | inr c ↦ m c ])
  ]
]

root-decided : (m : Managed) (x : ℕ) → IsManagedRoot m x ⊎ (IsManagedRoot m x → ⊥)
root-decided m x = elim (slot-decided m.heap x) [
  | inl c ↦ inl (inl c)
  | inr n ↦ elim (some-decided m.pins x) [
    | inl c ↦ inl (inr c)
    | inr p ↦ inr (λ s. elim s [ inl c ↦ n c | inr c ↦ p c ])
  ]
]

-- what an entry does to fields of the managed objects
pub record Changes (m n : Managed) : Type 0 where
  pub made : (x : ℕ) → IsMade m.heap x → IsMade n.heap x
  pub back : (x : ℕ) → IsMade m.heap x → IsLive n.heap x → IsLive m.heap x
  pub fields : (x y : ℕ) → Contains (fields_of n.heap x) (Some y) → Contains (fields_of m.heap x) (Some y) ⊎ IsManagedRoot m y
  pub frozen : (x : ℕ) → IsMade m.heap x → (IsManagedRoot m x → ⊥) → fields_of n.heap x ≡ fields_of m.heap x

goes-changes : (m n : Managed) → GoesOn m n → Changes m n
goes-changes m n g = record {
  made = λ x w. (w.0, omega (arith, w.1, g.made));
  back = λ x w l. record { made = w; kept = λ c. l.kept (subst (λ f. Contains f x) (sym g.freed) c) };
  fields = λ x y c. elim (g.fields x y c) [ inl d ↦ inl d | inr d ↦ inr d.1 ];
  frozen = g.frozen;
}

frees-changes : (m n : Managed) → n.heap.fields ≡ m.heap.fields → ((x : ℕ) → IsLive n.heap x → IsLive m.heap x) → Changes m n
frees-changes m n e back = record {
  made = λ x w. (w.0, (let q = ap (λ z. length z) e in omega (arith, w.1, q)));
  back = λ x w l. back x l;
  fields = λ x y c. inl (subst (λ z. Contains z (Some y)) (same x) c);
  frozen = λ x w o. same x;
}
  where
    same : (x : ℕ) → fields_of n.heap x ≡ fields_of m.heap x
    same x = ap (λ z. fields_of (record n.heap { fields = z }) x) e

pub changes-of : (m n : Managed) → ManagedStep m n → Changes m n
changes-of m n (going_on g) = goes-changes m n g
changes-of m n (snapping p) = frees-changes m n (ap (λ (z : Managed). z.heap.fields) p.is) (λ x l. IsLive-before m.heap p.freed x (subst (λ (z : Managed). IsLive z.heap x) p.is l))
changes-of m n (resolving p) = frees-changes m n (ap (λ (z : Managed). z.heap.fields) p.is) (λ x l. IsLive-before m.heap p.freed x (subst (λ (z : Managed). IsLive z.heap x) p.is l))
changes-of m n (abandoning p) = frees-changes m n (ap (λ (z : Managed). z.heap.fields) p.is) (λ x l. subst (λ (z : Managed). IsLive z.heap x) p.is l)

-- the graph of a state, with any flags
abbrev pub graph_with : Linkage → List Bool → Graph
graph_with s flags = record { managed = s.managed.managed; peers = s.peer.peers; removed = flags }

-- the row is a freed object
abbrev pub IsFreed : Linkage → Row → Type 0
IsFreed s (object x) = Contains s.managed.managed.heap.freed x
IsFreed s (peer p) = ⊥

-- what a slot names is reached
pub object-named : (s : Linkage) (flags : List Bool) (x : ℕ) → IsManagedRoot s.managed.managed x → IsReachedIn (graph_with s flags) (object x)
object-named s flags x r = Reached-start (IsJointRoot (graph_with s flags)) (JointEdge (graph_with s flags)) (object x) r

pub peer-named : (s : Linkage) (flags : List Bool) (p : ℕ) → InSlot s.peer.peers.heap p → IsReachedIn (graph_with s flags) (peer p)
peer-named s flags p i = Reached-start (IsJointRoot (graph_with s flags)) (JointEdge (graph_with s flags)) (peer p) (inl i)

pub reached-next : (s : Linkage) (flags : List Bool) (x y : Row) → IsReachedIn (graph_with s flags) x → JointEdge (graph_with s flags) x y → IsReachedIn (graph_with s flags) y
reached-next s flags x y r e = Reached-then (IsJointRoot (graph_with s flags)) (JointEdge (graph_with s flags)) x y r e

module _ (s : Linkage) (n : Noted) (may : MayCome s n) (k : Of s) (after : Of (linkage_after s n)) (fs gs : List Bool) where
  abbrev t : Linkage
  t = linkage_after s n

  changes : Changes s.managed.managed t.managed.managed
  changes = changes-of s.managed.managed t.managed.managed (ManagedStep-entry s n may k.managed)

  -- a pair of a row that was made before was joined before
  joined-old : (x p : ℕ) → IsJoined (graph_with t gs) x p → IsMade s.managed.managed.heap x → IsJoined (graph_with s fs) x p
  joined-old x p e m =
      let then = peer_of-row t.peer.peers.issued e.handle p e.leads in
      let pair = after.owners.registered x p (record { handle = e.handle; holds = e.holds; row = then.0; is_issued = then.1; leads = then.2 }) in
      let w = k.owners.pairs p x ((pairs-entry s n).before p x m pair) in
      record {
        handle = w.handle;
        holds = w.holds;
        leads = peer_of-issued s.peer.peers.issued w.handle w.row w.is_issued ∙ ap Some w.leads;
        live = (heap-entry s n).back p (subst (λ z. IsMade s.peer.peers.heap z) w.leads (k.peer.handles.peers w.handle w.row w.is_issued)) e.live;
      }

  -- a new row that holds a handle is in a slot
  new-reached : (x p : ℕ) → IsJoined (graph_with t gs) x p → (IsMade s.managed.managed.heap x → ⊥) → IsReachedIn (graph_with t gs) (object x)
  new-reached x p e new = object-named t gs x (new-named s n may k.managed x e.handle new e.holds)

  abbrev BeforeCase : Row → Row → Type 0
  BeforeCase x y = JointEdge (graph_with s fs) x y ⊎ IsReachedIn (graph_with s fs) y ⊎ IsReachedIn (graph_with t gs) y

  pub edge-before : (x y : Row) → JointEdge (graph_with t gs) x y → BeforeCase x y
  edge-before (object x) (object y) e = elim (changes.fields x y e.field) [
    | inl c ↦ (
        let l = changes.back x (field-made s.managed.managed.heap x y e.live.made.0 c) e.live in
        inl (record { live = l; field = c; there = k.managed.managed.fields x y l c }))
    | inr c ↦ inr (inl (object-named s fs y c))
  ]
  edge-before (peer p) (peer q) e = elim ((heap-entry s n).fields p q e.field) [
    | inl c ↦ (
        let l = (heap-entry s n).back p (field-made s.peer.peers.heap p q e.live.made.0 c) e.live in
        inl (record { live = l; field = c; there = k.peer.heap.fields p q l c }))
    | inr c ↦ inr (inl (peer-named s fs q c))
  ]
  edge-before (object x) (peer p) e = elim (made-or s.managed.managed.heap x e.holds.live.made.0) [
    | inl m ↦ inl (joined-old x p e m)
    | inr new ↦ inr (inr (reached-next t gs (object x) (peer p) (new-reached x p e new) e))
  ]
  edge-before (peer p) (object x) e = elim (made-or s.managed.managed.heap x e.holds.live.made.0) [
    | inl m ↦ inl (joined-old x p e m)
    | inr new ↦ inr (inr (new-reached x p e new))
  ]

  abbrev AfterCase : Row → Row → Type 0
  AfterCase x y = JointEdge (graph_with t gs) x y ⊎ IsReachedIn (graph_with s fs) y ⊎ IsFreed t x

  module _ (still : t.peer.peers.heap.freed ≡ s.peer.peers.heap.freed) where
    object-live : (x : ℕ) → IsLive s.managed.managed.heap x → (Contains t.managed.managed.heap.freed x → ⊥) → IsLive t.managed.managed.heap x
    object-live x l n = record { made = changes.made x l.made; kept = n }

    peer-live : (p : ℕ) → IsLive s.peer.peers.heap p → IsLive t.peer.peers.heap p
    peer-live p l = record { made = (l.made.0, (let m = (heap-entry s n).made in omega (arith, l.made.1, m))); kept = λ c. l.kept (subst (λ z. Contains z p) still c) }

    -- a pair stands while its row isn't freed and is in no slot
    joined-on : (x p : ℕ) → IsJoined (graph_with s fs) x p → (Contains t.managed.managed.heap.freed x → ⊥) → (IsManagedRoot s.managed.managed x → ⊥) → IsJoined (graph_with t gs) x p
    joined-on x p e f out =
        let now = peer_of-row s.peer.peers.issued e.handle p e.leads in
        let pair = k.owners.registered x p (record { handle = e.handle; holds = e.holds; row = now.0; is_issued = now.1; leads = now.2 }) in
        let w = after.owners.pairs p x ((pairs-entry s n).after p x pair out f) in
        record {
          handle = w.handle;
          holds = w.holds;
          leads = peer_of-issued t.peer.peers.issued w.handle w.row w.is_issued ∙ ap Some w.leads;
          live = peer-live p e.live;
        }

    pub edge-after : (x y : Row) → JointEdge (graph_with s fs) x y → AfterCase x y
    edge-after (object x) (object y) e = elim (Contains-decided t.managed.managed.heap.freed x) [
      | inl c ↦ inr (inr c)
      | inr f ↦ elim (root-decided s.managed.managed x) [
        | inl r ↦ inr (inl (reached-next s fs (object x) (object y) (object-named s fs x r) e))
        | inr out ↦ (
            let l = object-live x e.live f in
            let c = subst (λ z. Contains z (Some y)) (sym (changes.frozen x e.live.made out)) e.field in
            inl (record { live = l; field = c; there = after.managed.managed.fields x y l c }))
      ]
    ]
    edge-after (peer p) (peer q) e = elim (slot-decided s.peer.peers.heap p) [
      | inl r ↦ inr (inl (reached-next s fs (peer p) (peer q) (peer-named s fs p r) e))
      | inr out ↦ (
          let l = peer-live p e.live in
          let c = subst (λ z. Contains z (Some q)) (sym ((heap-entry s n).frozen p e.live.made out)) e.field in
          inl (record { live = l; field = c; there = after.peer.heap.fields p q l c }))
    ]
    edge-after (object x) (peer p) e = elim (Contains-decided t.managed.managed.heap.freed x) [
      | inl c ↦ inr (inr c)
      | inr f ↦ elim (root-decided s.managed.managed x) [
        | inl r ↦ inr (inl (reached-next s fs (object x) (peer p) (object-named s fs x r) e))
        | inr out ↦ inl (joined-on x p e f out)
      ]
    ]
    edge-after (peer p) (object x) e = elim (Contains-decided t.managed.managed.heap.freed x) [
      | inl c ↦ absurd (e.live.kept (freed-peer s n may k x e.handle p e.holds e.leads c))
      | inr f ↦ elim (root-decided s.managed.managed x) [
        | inl r ↦ inr (inl (object-named s fs x r))
        | inr out ↦ inl (joined-on x p e f out)
      ]
    ]
