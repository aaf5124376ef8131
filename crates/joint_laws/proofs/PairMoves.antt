-- What an entry does to the pairs of a peer and its row: a new pair has a new row, and a pair goes where its row is in
-- a slot or is freed.
use Rattle.std.proofs.Common.{◌≡◌, ℕ, inl, inr, Bool, true, false, List, [], ◌∷◌, Option, Some, None, refl, sym, ap, subst, arith}
use Rattle.std.specs.Prelude.{Contains, if◌then◌else◌}
use Rattle.std.proofs.lemmas.List.Elements.{Contains-push_cases, Contains-append_left, Contains-append_right}
use Rattle.joint_machine.specs.declared.names.Sort.{Sort}
use Rattle.joint_machine.specs.declared.names.Thread.{Thread}
use Rattle.joint_machine.specs.declared.events.Made.{Made}
use Rattle.joint_machine.specs.declared.events.Op.{Op}
use Rattle.joint_machine.specs.declared.events.Op.TheVariants as op
use Rattle.joint_machine.specs.declared.events.Reply.{Reply}
use Rattle.joint_machine.specs.declared.events.Reply.TheVariants as says
use Rattle.joint_machine.specs.Heaps.{IsMade, answer, slot, place, is_full, next_number}
use Rattle.joint_machine.specs.Lines.{is_peer_event}
use Rattle.joint_machine.specs.Linked.{Linkage, managed_after, linkage_after}
use Rattle.joint_machine.specs.Managed.{Managed, OpenCycle, IsManagedRoot, managed_name, with_row, twin_met, twin_kind, twin_fields}
use Rattle.joint_machine.specs.ManagedReplay.{ManagedReplay, registered, with_twin, without_twins, adopt_by, meet_by, give_by, managed_answer}
use Rattle.joint_machine.specs.Run.{thread_number}
use Rattle.joint_machine.specs.Told.{Told, Noted, snap_of, contraction_of, resolution_of, phase_of}
use Rattle.joint_machine.proofs.Members.{Contains-nil, Contains-cons_cases}
use Rattle.joint_machine.proofs.Numbered.{slot-Contains}
use Rattle.joint_laws.proofs.ManagedMoves.{met_by}
use Rattle.joint_laws.proofs.Registered.{without_twins-parts, without_twins-keeps}

-- the pairs before and after: a pair of a row that was made stood, and one of a row in no slot that isn't freed stands
-- on
pub record PairsMove (r u : ManagedReplay) : Type 0 where
  pub before : (p x : ℕ) → IsMade r.managed.heap x → Contains u.registry (p, x) → Contains r.registry (p, x)
  pub after : (p x : ℕ) → Contains r.registry (p, x) → (IsManagedRoot r.managed x → ⊥) → (Contains u.managed.heap.freed x → ⊥) → Contains u.registry (p, x)

pairs-stay : (r u : ManagedReplay) → u.registry ≡ r.registry → PairsMove r u
pairs-stay r u e = record {
  before = λ p x m c. subst (λ z. Contains z (p, x)) e c;
  after = λ p x c n f. subst (λ z. Contains z (p, x)) (sym e) c;
}

-- a pair with a row that is new
with_twin-before : (r : ManagedReplay) (q p x : ℕ) (o : Option ℕ) → IsMade r.managed.heap x → Contains (with_twin r.registry q (next_number r.managed.heap) o) (p, x) → Contains r.registry (p, x)
with_twin-before r q p x (Some m) made c = c
with_twin-before r q p x None made c = elim (Contains-push_cases r.registry (q, next_number r.managed.heap) (p, x) c) [
  | inl d ↦ d
  | inr e ↦ absurd (let f : next_number r.managed.heap ≡ x = ap (λ (z : ℕ × ℕ). z.1) e in omega (arith, made.1, f))
]

with_twin-after : (r : ManagedReplay) (q p x m : ℕ) (o : Option ℕ) → Contains r.registry (p, x) → Contains (with_twin r.registry q m o) (p, x)
with_twin-after r q p x m (Some y) c = c
with_twin-after r q p x m None c = Contains-append_left r.registry ((q, m) ∷ []) (p, x) c

adopt-pairs : (r : ManagedReplay) (p h : ℕ) (after : Managed) (b : Bool)
    → PairsMove r (adopt_by r p h (if b then answer says.Full r.managed else answer (managed_name (next_number r.managed.heap)) after).state
    (if b then answer says.Full r.managed else answer (managed_name (next_number r.managed.heap)) after).reply).state
adopt-pairs r p h after true = pairs-stay r _ refl
adopt-pairs r p h after false = record {
  before = λ q x m c. with_twin-before r p q x (registered r.registry p) m c;
  after = λ q x c n f. with_twin-after r p q x (next_number r.managed.heap) (registered r.registry p) c;
}

room-pairs : (r : ManagedReplay) (p h : ℕ) (after : Managed) (b : Bool)
    → PairsMove r (meet_by r p h (if b then answer says.Full r.managed else answer (says.New record { 0 = next_number r.managed.heap }) after).state
    (if b then answer says.Full r.managed else answer (says.New record { 0 = next_number r.managed.heap }) after).reply).state
room-pairs r p h after true = pairs-stay r _ refl
room-pairs r p h after false = record {
  before = λ q x m c. with_twin-before r p q x (registered r.registry p) m c;
  after = λ q x c n f. with_twin-after r p q x (next_number r.managed.heap) (registered r.registry p) c;
}

twin-pairs : (r : ManagedReplay) (p v h : ℕ) (sort : Sort) (n : ℕ) (o : Option ℕ) → PairsMove r (meet_by r p h (twin_met r.managed v h sort n o).state (twin_met r.managed v h sort n o).reply).state
twin-pairs r p v h sort n (Some m) = pairs-stay r _ refl
twin-pairs r p v h sort n None = room-pairs r p h (with_row r.managed v (twin_kind sort) (twin_fields sort n) (Some h)) (is_full r.managed.heap.fields)

meet-pairs : (r : ManagedReplay) (p v h : ℕ) (sort : Sort) (n : ℕ) (o : Option ℕ) (c : Option OpenCycle)
    → PairsMove r (meet_by r p h (met_by r.managed v h sort n o c).state (met_by r.managed v h sort n o c).reply).state
meet-pairs r p v h sort n o None = twin-pairs r p v h sort n o
meet-pairs r p v h sort n o (Some c) = pairs-stay r _ refl

without-pairs : (r u : ManagedReplay) (ms : List ℕ) → u.registry ≡ without_twins r.registry ms
    → ((x : ℕ) → Contains ms x → (IsManagedRoot r.managed x → ⊥) → (Contains u.managed.heap.freed x → ⊥) → ⊥) → PairsMove r u
without-pairs r u ms e out = record {
  before = λ p x m c. (without_twins-parts r.registry ms p x (subst (λ z. Contains z (p, x)) e c)).0;
  after = λ p x c n f. subst (λ z. Contains z (p, x)) (sym e) (without_twins-keeps r.registry ms p x c (λ d. out x d n f));
}

give-pairs : (r : ManagedReplay) (v : ℕ) (reply : Reply) (after : Managed) (o : Option ℕ) → slot r.managed.heap.vars v ≡ o → PairsMove r (give_by r o (answer reply after)).state
give-pairs r v reply after None e = pairs-stay r _ refl
give-pairs r v reply after (Some m) e = without-pairs r _ (m ∷ []) refl (λ x d n f. elim (Contains-cons_cases m [] x d) [
  | inl q ↦ n (inl (inl (subst (λ z. Contains r.managed.heap.vars (Some z)) q (slot-Contains r.managed.heap.vars v m e))))
  | inr w ↦ Contains-nil x w
])

pairs-answer : (r : ManagedReplay) (t : Thread) (o : Op) (told : Told) → PairsMove r (managed_answer r t o told).state
pairs-answer r t (op.Line a) told = pairs-stay r _ refl
pairs-answer r t (op.Adopt v kind n p h) told = adopt-pairs r p.0 h.0 (with_row r.managed (place (thread_number t) v.0) kind n (Some h.0)) (is_full r.managed.heap.fields)
pairs-answer r t (op.Lend v x) told = pairs-stay r _ refl
pairs-answer r t (op.Meet v sort n p h) told = meet-pairs r p.0 (place (thread_number t) v.0) h.0 sort n (registered r.registry p.0) r.managed.cycle
pairs-answer r t (op.Give v) told = give-pairs r (place (thread_number t) v.0) _ _ (slot r.managed.heap.vars (place (thread_number t) v.0)) refl
pairs-answer r t (op.Snap k) (snap_of freed candidates dead) = pairs-stay r _ refl
pairs-answer r t (op.Contract k) (contraction_of comps heavy xrefs) = pairs-stay r _ refl
pairs-answer r t (op.Resolve k) (resolution_of answers freed) = without-pairs r _ freed refl (λ x d n f. f (Contains-append_right r.managed.heap.freed freed x d))
pairs-answer r t (op.Abandon k) told = pairs-stay r _ refl
pairs-answer r t (op.Refused w) (phase_of phase) = pairs-stay r _ refl
pairs-answer r t _ told = pairs-stay r _ refl

pairs-by : (r : ManagedReplay) (m : Made) (told : Told) (b : Bool) → PairsMove r (managed_after r m told b)
pairs-by r m told true = pairs-stay r r refl
pairs-by r m told false = pairs-answer r m.caller m.op told

pub pairs-entry : (s : Linkage) (n : Noted) → PairsMove s.managed (linkage_after s n).managed
pairs-entry s n = pairs-by s.managed n.entry.made n.told (is_peer_event n.entry.made.caller n.entry.made.op)
