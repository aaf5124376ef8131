-- A managed row that was made at an entry, and holds a handle, is in a slot after it; and a peer that is brought back
-- is.
use Rattle.std.proofs.Common.{◌≡◌, ℕ, ◌<◌, ◌≤◌, inl, inr, Bool, true, false, List, length, Option, Some, None, set, refl, sym, subst, arith}
use Rattle.std.specs.Prelude.{Contains, if◌then◌else◌}
use Rattle.joint_machine.specs.declared.names.Kind.{Kind}
use Rattle.joint_machine.specs.declared.names.Sort.{Sort}
use Rattle.joint_machine.specs.declared.names.Thread.{Thread}
use Rattle.joint_machine.specs.declared.names.Thread.TheVariants.{M, P, C}
use Rattle.joint_machine.specs.declared.lines.Act.{Act}
use Rattle.joint_machine.specs.declared.events.Op.{Op}
use Rattle.joint_machine.specs.declared.events.Op.TheVariants as op
use Rattle.joint_machine.specs.declared.events.Reply.{Reply}
use Rattle.joint_machine.specs.declared.events.Reply.TheVariants as says
use Rattle.joint_machine.specs.declared.events.Made.{Made}
use Rattle.joint_machine.specs.Heaps.{IsMade, answer, slot, place, is_full, next_number, numbered_at, with_var}
use Rattle.joint_machine.specs.Lines.{IsEvent, is_peer_event}
use Rattle.joint_machine.specs.Linked.{Linkage, MayCome, SideLawful, linkage_after, managed_after}
use Rattle.joint_machine.specs.Managed.{Managed, OpenCycle, Holds, IsManagedRoot, managed_name, with_row, adopted, twin_met, twin_kind, twin_fields, met, given_up, without_handle, managed_line}
use Rattle.joint_machine.specs.Managed.{with_snapshot, resolved, abandoned, candidates_of}
use Rattle.joint_machine.specs.ManagedReplay.{ManagedReplay, registered, managed_answer, ManagedAllows}
use Rattle.joint_machine.specs.Run.{thread_number}
use Rattle.joint_machine.specs.Told.{Told, Noted, nothing, snap_of, contraction_of, resolution_of, phase_of}
use Rattle.joint_laws.specs.ManagedInvariants.{ManagedInvariant, ReplayInvariant}
use Rattle.joint_machine.proofs.Numbered.{numbered-within, numbered_set-length, numbered-push_cases, set-at_here}
use Rattle.joint_machine.proofs.Members.{Contains-at}
use Rattle.joint_machine.proofs.HeapLemmas.{adopt_by-managed}
use Rattle.joint_laws.proofs.ManagedMoves.{met_by}
use Rattle.joint_laws.proofs.ManagedSteps.{meet_by-managed, give_by-managed}
use Rattle.joint_laws.proofs.Adopting.{managed_line-same}
use Rattle.joint_laws.proofs.Renewing.{renewed-length}

pub Contains-set_there : {A : Type 0} (xs : List A) (i : ℕ) (x : A) → i < length xs → Contains (set xs i x) x
Contains-set_there xs i x l = Contains-at (set xs i x) i x (set-at_here xs i x l)

-- a row that holds a handle after is in a slot, or was made before
abbrev NewNamed : Managed → Managed → Type 0
NewNamed m n = (x h : ℕ) → (IsMade m.heap x → ⊥) → numbered_at n.held x ≡ Some (Some h) → IsManagedRoot n x

module _ (m : Managed) (k : ManagedInvariant m) where
  -- a row with a place was made
  held-made : (x h : ℕ) → numbered_at m.held x ≡ Some (Some h) → IsMade m.heap x
  held-made x h e = let w = numbered-within m.held x (Some h) e in (w.0, omega (arith, w.1, k.places))

  named-same : (n : Managed) → n.held ≡ m.held → NewNamed m n
  named-same n e x h new q = absurd (new (held-made x h (subst (λ z. numbered_at z x ≡ Some (Some h)) e q)))

  named-as-many : (n : Managed) → length n.held ≡ length m.held → NewNamed m n
  named-as-many n e x h new q = absurd (new (let w = numbered-within n.held x (Some h) q in (w.0, omega (arith, w.1, e, k.places))))

  named-row : (v : ℕ) (kind : Kind) (n : ℕ) (o : Option ℕ) → v < 72 → NewNamed m (with_row m v kind n o)
  named-row v kind n o l x h new q = elim (numbered-push_cases m.held o x (Some h) q) [
    | inl w ↦ absurd (new (held-made x h w))
    | inr w ↦ (
        let same : next_number m.heap ≡ x = omega (arith, w.0, k.places) in
        inl (inl (subst (λ z. Contains (set m.heap.vars v (Some (next_number m.heap))) (Some z)) same (Contains-set_there m.heap.vars v (Some (next_number m.heap)) (omega (arith, l, k.vars))))))
  ]

  named-room : (b : Bool) (r : Reply) (v : ℕ) (kind : Kind) (n : ℕ) (o : Option ℕ) → v < 72 → NewNamed m (if b then answer says.Full m else answer r (with_row m v kind n o)).state
  named-room true r v kind n o l = named-same m refl
  named-room false r v kind n o l = named-row v kind n o l

  named-twin : (v h : ℕ) (sort : Sort) (n : ℕ) (o : Option ℕ) → v < 72 → NewNamed m (twin_met m v h sort n o).state
  named-twin v h sort n (Some x) l = named-same (record m { heap = with_var m.heap v (Some x) }) refl
  named-twin v h sort n None l = named-room (is_full m.heap.fields) _ v (twin_kind sort) (twin_fields sort n) (Some h) l

  named-met : (v h : ℕ) (sort : Sort) (n : ℕ) (o : Option ℕ) (c : Option OpenCycle) → v < 72 → NewNamed m (met_by m v h sort n o c).state
  named-met v h sort n o None l = named-twin v h sort n o l
  named-met v h sort n o (Some c) l = named-same m refl

  named-without : (o : Option ℕ) → NewNamed m (without_handle m o)
  named-without None = named-same m refl
  named-without (Some y) = λ x h new q. absurd (let w = numbered-within _ x (Some h) q in new (w.0, omega (arith, w.1, numbered_set-length m.held y None, k.places)))

  named-line : (t : ℕ) (a : Act) → NewNamed m (managed_line m t a).state
  named-line t a x h new q = absurd (new (held-made x h ((managed_line-same m k t a).before x h q)))

named-as : (m n o : Managed) → o ≡ n → NewNamed m n → NewNamed m o
named-as m n o e w = subst (NewNamed m) (sym e) w

place-bound : (u v : ℕ) → u ≤ 8 → v < 8 → place u v < 72
place-bound u v a b = omega arith

named-answer : (r : ManagedReplay) (k : ReplayInvariant r) (t : Thread) (o : Op) (told : Told) → IsEvent t o → ManagedAllows r o told → NewNamed r.managed (managed_answer r t o told).state.managed
named-answer r k t (op.Line a) told e w = named-line r.managed k.managed (thread_number t) a
named-answer r k (M u) (op.Adopt v kind n p h) told e w =
    let a = adopted r.managed (place u v.0) kind n h.0 in
    named-as r.managed a.state _ (adopt_by-managed r p.0 h.0 a.state a.reply)
    (named-room r.managed k.managed (is_full r.managed.heap.fields) (managed_name (next_number r.managed.heap)) (place u v.0) kind n (Some h.0) (place-bound u v.0 e.0.1 e.1))
named-answer r k (P u) (op.Adopt v kind n p h) told e w = absurd e.0
named-answer r k C (op.Adopt v kind n p h) told e w = absurd e.0
named-answer r k t (op.Lend v x) told e w = named-same r.managed k.managed r.managed refl
named-answer r k (M u) (op.Meet v sort n p h) told e w =
    let a = met r.managed (place u v.0) h.0 sort n (registered r.registry p.0) in
    named-as r.managed a.state _ (meet_by-managed r p.0 h.0 a.state a.reply)
    (named-met r.managed k.managed (place u v.0) h.0 sort n (registered r.registry p.0) r.managed.cycle (place-bound u v.0 e.0.1 e.1))
named-answer r k (P u) (op.Meet v sort n p h) told e w = absurd e.0
named-answer r k C (op.Meet v sort n p h) told e w = absurd e.0
named-answer r k t (op.Give v) told e w =
    let u = place (thread_number t) v.0 in
    named-as r.managed (given_up r.managed u).state _ (give_by-managed r (slot r.managed.heap.vars u) (given_up r.managed u)) (named-without r.managed k.managed (slot r.managed.heap.vars u))
named-answer r k t (op.Snap n) (snap_of freed candidates dead) e w = named-same r.managed k.managed (with_snapshot r.managed freed candidates dead) refl
named-answer r k t (op.Contract n) (contraction_of comps heavy xrefs) e w = named-same r.managed k.managed r.managed refl
named-answer r k t (op.Resolve n) (resolution_of alive freed) e w = named-as-many r.managed k.managed (resolved r.managed alive freed) (renewed-length r.managed.held (candidates_of r.managed) alive)
named-answer r k t (op.Abandon n) nothing e w = named-same r.managed k.managed (abandoned r.managed) refl
named-answer r k t (op.Refused y) (phase_of phase) e w = named-same r.managed k.managed r.managed refl
named-answer r k t _ _ e w = absurd w

named-by : (s : Linkage) (m : Made) (told : Told) (b : Bool) → ReplayInvariant s.managed → IsEvent m.caller m.op
    → SideLawful b s m told → NewNamed s.managed.managed (managed_after s.managed m told b).managed
named-by s m told true k e w = named-same s.managed.managed k.managed s.managed.managed refl
named-by s m told false k e w = named-answer s.managed k m.caller m.op told e w.allowed

pub new-named : (s : Linkage) (n : Noted) → MayCome s n → ReplayInvariant s.managed → (x h : ℕ) → (IsMade s.managed.managed.heap x → ⊥)
    → Holds (linkage_after s n).managed.managed x h → IsManagedRoot (linkage_after s n).managed.managed x
new-named s n may k x h new q = named-by s n.entry.made n.told (is_peer_event n.entry.made.caller n.entry.made.op) k may.event may.lawful x h new q.held
