-- What the managed side keeps along a past whose entries come and whose reads, where they aren't set aside, answer as
-- the managed state does; and what each entry does to cells, freed objects and cycles: a cell once set keeps its
-- target, which was live when it was set; what was freed stays so; and a snapshot, a resolution and an abandonment are
-- of a cycle that was counted by then.
use Rattle.std.proofs.Common.{◌≡◌, ◌⊎◌, inl, inr, ℕ, zero, suc, ◌+◌, ◌≤◌, Bool, true, false, List, [], ◌∷◌, ◌++◌, length, Option, Some, None, refl, sym, ap, ◌∙◌, subst, arith}
use Rattle.std.specs.Prelude.{Contains, if◌then◌else◌, slice_set}
use Rattle.std.proofs.Math.ListN.{length-set}
use Rattle.std.proofs.lemmas.List.Elements.{Contains-append_left, Contains-append_right}
use Rattle.joint_machine.specs.declared.names.Thread.{Thread}
use Rattle.joint_machine.specs.declared.names.Thread.TheVariants.{M, P, C}
use Rattle.joint_machine.specs.declared.names.Kind.{Kind}
use Rattle.joint_machine.specs.declared.names.Sort.{Sort}
use Rattle.joint_machine.specs.declared.lines.Act.{Act}
use Rattle.joint_machine.specs.declared.lines.Act.TheVariants as act
use Rattle.joint_machine.specs.declared.events.Op.{Op}
use Rattle.joint_machine.specs.declared.events.Op.TheVariants as op
use Rattle.joint_machine.specs.declared.events.Reply.{Reply}
use Rattle.joint_machine.specs.declared.events.Reply.TheVariants as says
use Rattle.joint_machine.specs.declared.events.Made.{Made}
use Rattle.joint_machine.specs.Heaps.{Answered, answer, slot, place, is_full}
use Rattle.joint_machine.specs.Lines.{is_peer_event, is_read}
use Rattle.joint_machine.specs.Linked.{Linkage, MayCome, SideLawful, ManagedLawful, linkage_after, managed_after}
use Rattle.joint_machine.specs.Managed.{Managed, OpenCycle, IsManagedRoot, managed_line, adopted, met, given_up, with_row, cell_set, weakened_to, read_cell, pin_taken, without_handle, twin_met}
use Rattle.joint_machine.specs.Managed.{twin_kind, twin_fields}
use Rattle.joint_machine.specs.ManagedReplay.{ManagedReplay, ManagedAllows, managed_answer, registered}
use Rattle.joint_machine.specs.PeerReplay.{PeerReplay, Marking, PeerAllows, SliceAllows, SweepAllows}
use Rattle.joint_machine.specs.Readers.{ReadsCell, FreesObject, is_set_aside, pins_after, reader_after, entry_after}
use Rattle.joint_machine.specs.Run.{thread_number}
use Rattle.joint_machine.specs.Told.{Told, Noted, nothing, snap_of, contraction_of, resolution_of, phase_of}
use Rattle.joint_machine.proofs.HeapLemmas.{adopt_by-managed}
use Rattle.joint_machine.proofs.Numbered.{slot-Contains}
use Rattle.joint_laws.specs.ManagedInvariants.{ReplayInvariant}
use Rattle.joint_laws.proofs.Adopting.{ReplayInvariant-opening}
use Rattle.joint_laws.proofs.KeptPins.{weak_by, take_by}
use Rattle.joint_laws.proofs.ManagedEntries.{ReplayInvariant-entry, ManagedStep-entry}
use Rattle.joint_laws.proofs.ManagedMoves.{met_by}
use Rattle.joint_laws.proofs.ManagedSteps.{ManagedStep, going_on, snapping, resolving, abandoning, meet_by-managed, give_by-managed}
use Rattle.joint_laws.proofs.ReadingsGoneAfter.{entry-by}
use Rattle.joint_laws.proofs.ReadsAside.{read-filled}
use Rattle.joint_laws.proofs.ReplayKeeping.{ReplayInvariant-step}
use Rattle.known_laws.specs.PastEntries.{InPast}
use Rattle.check_laws.specs.Behind.{state_of}
use Rattle.check_laws.specs.Reads.{ComesBehind, AllComeBehind}

-- a read that isn't set aside answers as the managed state does
abbrev pub Stands : Linkage → Noted → Type 0
Stands s n = is_set_aside n.entry.made.reply ≡ false → (k : ℕ) → ReadsCell n.entry.made.op k → n.entry.made.reply ≡ (read_cell s.managed.managed (thread_number n.entry.made.caller) k).reply

abbrev pub AllStand : List Noted → Type 0
AllStand [] = Unit {0}
AllStand (n ∷ past) = Stands (state_of past) n × AllStand past

-- a read and another entry
pub after-read : (s : Linkage) (n : Noted) → is_read n.entry.made.op ≡ true → entry_after s n ≡ reader_after s n
after-read s n e = entry-by s n true e

pub after-other : (s : Linkage) (n : Noted) → is_read n.entry.made.op ≡ false → entry_after s n ≡ linkage_after s n
after-other s n e = entry-by s n false e

aside-pins : (pins : List (Option ℕ)) (t : ℕ) (r : Reply) → is_set_aside r ≡ true → pins_after pins t r ≡ pins
aside-pins pins t (says.M m) e = absurd (let f : false ≡ true = e in cc)
aside-pins pins t _ e = refl

module _ (s : ManagedReplay) (t : Thread) (r : Reply) (k : ReplayInvariant s) where
  abbrev Filled : Type 0
  Filled = ReplayInvariant (record s { managed = record s.managed { pins = pins_after s.managed.pins (thread_number t) r } })

  aside-kept : is_set_aside r ≡ true → Filled
  aside-kept e = subst (λ p. ReplayInvariant (record s { managed = record s.managed { pins = p } })) (sym (aside-pins s.managed.pins (thread_number t) r e)) k

  module _ (a : Act) (c : ℕ) (same : managed_line s.managed (thread_number t) a ≡ read_cell s.managed (thread_number t) c) where
    stand-kept : r ≡ (read_cell s.managed (thread_number t) c).reply → Filled
    stand-kept e =
        subst (λ q. ReplayInvariant (record s { managed = record s.managed { pins = pins_after s.managed.pins (thread_number t) q } })) (sym e)
        (subst (λ m. ReplayInvariant (record s { managed = m })) (read-filled s.managed (thread_number t) c)
        (subst (λ (z : Answered Managed). ReplayInvariant (record s { managed = z.state })) same (ReplayInvariant-step s t (op.Line a) nothing k tt)))

    line-kept : (is_set_aside r ≡ false → r ≡ (read_cell s.managed (thread_number t) c).reply) → Filled
    line-kept w = by (is_set_aside r) refl
      where
        by : (b : Bool) → is_set_aside r ≡ b → Filled
        by true e = aside-kept e
        by false e = stand-kept (w e)

  read-kept : (o : Op) → is_read o ≡ true → (is_set_aside r ≡ false → (c : ℕ) → ReadsCell o c → r ≡ (read_cell s.managed (thread_number t) c).reply) → Filled
  read-kept (op.Line (act.Read c)) e w = line-kept (act.Read c) c.0 refl (λ f. w f c.0 refl)
  read-kept (op.Line (act.Await c)) e w = line-kept (act.Await c) c.0 refl (λ f. w f c.0 refl)
  read-kept o e w = absurd (let f : false ≡ true = e in cc)

pub kept-on : (s : Linkage) (n : Noted) → ComesBehind (is_read n.entry.made.op) s n → Stands s n → ReplayInvariant s.managed → ReplayInvariant (entry_after s n).managed
kept-on s n w r k = by (is_read n.entry.made.op) refl w
  where
    by : (b : Bool) → is_read n.entry.made.op ≡ b → ComesBehind b s n → ReplayInvariant (entry_after s n).managed
    by true e w = subst (λ (z : Linkage). ReplayInvariant z.managed) (sym (after-read s n e)) (read-kept s.managed n.entry.made.caller n.entry.made.reply k n.entry.made.op e r)
    by false e w = subst (λ (z : Linkage). ReplayInvariant z.managed) (sym (after-other s n e)) (ReplayInvariant-entry s n w k)

pub kept : (past : List Noted) → AllComeBehind past → AllStand past → ReplayInvariant (state_of past).managed
kept [] w r = ReplayInvariant-opening
kept (n ∷ past) w r = kept-on (state_of past) n w.0 r.0 (kept past w.1 r.1)

-- what an event does to the cells
abbrev pub SetsOne : Managed → List (Option ℕ) → Type 0
SetsOne s cells = (length cells ≡ length s.cells) × ((c : ℕ) → (slot cells c ≡ slot s.cells c) ⊎ ((x : ℕ) × (slot s.cells c ≡ None) × (slot cells c ≡ Some x) × IsManagedRoot s x))

same-cells : (s : Managed) (cells : List (Option ℕ)) → cells ≡ s.cells → SetsOne s cells
same-cells s cells e = (ap length e, λ c. inl (ap (λ z. slot z c) e))

set-slot : (cells : List (Option ℕ)) (k c x : ℕ) → (slot (slice_set cells k (Some x)) c ≡ slot cells c) ⊎ ((k ≡ c) × (slot (slice_set cells k (Some x)) c ≡ Some x))
set-slot [] k c x = inl refl
set-slot (y ∷ ys) zero zero x = inr (refl, refl)
set-slot (y ∷ ys) zero (suc c) x = inl refl
set-slot (y ∷ ys) (suc k) zero x = inl refl
set-slot (y ∷ ys) (suc k) (suc c) x = elim (set-slot ys k c x) [ inl e ↦ inl e | inr e ↦ inr (ap suc e.0, e.1) ]

module _ (s : Managed) where
  one-set : (k x : ℕ) (o : Option ℕ) → slot s.cells k ≡ o → IsManagedRoot s x → SetsOne s (cell_set s k x o).state.cells
  one-set k x None e r = (length-set s.cells k (Some x), λ c. elim (set-slot s.cells k c x) [ inl q ↦ inl q | inr q ↦ inr (x, ap (λ z. slot s.cells z) (sym q.0) ∙ e, q.1, r) ])
  one-set k x (Some y) e r = (refl, λ c. inl refl)

  weak-set : (k v : ℕ) → SetsOne s (weakened_to s k v).state.cells
  weak-set k v = by (slot s.heap.vars v) refl
    where
      by : (o : Option ℕ) → slot s.heap.vars v ≡ o → SetsOne s (weak_by s k o).state.cells
      by None e = same-cells s s.cells refl
      by (Some x) e = one-set k x (slot s.cells k) refl (inl (inl (slot-Contains s.heap.vars v x e)))

  row-cells : (b : Bool) (r : Reply) (v : ℕ) (kind : Kind) (n : ℕ) (h : Option ℕ) → (if b then answer says.Full s else answer r (with_row s v kind n h)).state.cells ≡ s.cells
  row-cells true r v kind n h = refl
  row-cells false r v kind n h = refl

  twin-cells : (v h : ℕ) (sort : Sort) (n : ℕ) (o : Option ℕ) → (twin_met s v h sort n o).state.cells ≡ s.cells
  twin-cells v h sort n None = row-cells (is_full s.heap.fields) _ v (twin_kind sort) (twin_fields sort n) (Some h)
  twin-cells v h sort n (Some m) = refl

  met-cells : (v h : ℕ) (sort : Sort) (n : ℕ) (o : Option ℕ) → (met s v h sort n o).state.cells ≡ s.cells
  met-cells v h sort n o = by s.cycle
    where
      by : (c : Option OpenCycle) → (met_by s v h sort n o c).state.cells ≡ s.cells
      by None = twin-cells v h sort n o
      by (Some x) = refl

  give-cells : (o : Option ℕ) → (without_handle s o).cells ≡ s.cells
  give-cells None = refl
  give-cells (Some x) = refl

  read-cells : (t k : ℕ) → (read_cell s t k).state.cells ≡ s.cells
  read-cells t k = ap (λ (z : Managed). z.cells) (read-filled s t k)

  take-cells : (t v : ℕ) → (pin_taken s t v).state.cells ≡ s.cells
  take-cells t v = by (slot s.pins t)
    where
      by : (o : Option ℕ) → (take_by s t v o).state.cells ≡ s.cells
      by None = refl
      by (Some x) = refl

  line-sets : (t : ℕ) (a : Act) → SetsOne s (managed_line s t a).state.cells
  line-sets t (act.Weak k v) = weak-set k.0 (place t v.0)
  line-sets t (act.New v kind n) = same-cells s _ (row-cells (is_full s.heap.fields) _ (place t v.0) kind n None)
  line-sets t (act.Read k) = same-cells s _ (read-cells t k.0)
  line-sets t (act.Await k) = same-cells s _ (read-cells t k.0)
  line-sets t (act.Take v) = same-cells s _ (take-cells t (place t v.0))
  line-sets t _ = same-cells s _ refl

event-sets : (s : ManagedReplay) (t : Thread) (o : Op) (told : Told) → SetsOne s.managed (managed_answer s t o told).state.managed.cells
event-sets s t (op.Line a) told = line-sets s.managed (thread_number t) a
event-sets s t (op.Adopt v kind n p h) told =
    let a = adopted s.managed (place (thread_number t) v.0) kind n h.0 in
    same-cells s.managed _ (ap (λ (z : Managed). z.cells) (adopt_by-managed s p.0 h.0 a.state a.reply)
    ∙ row-cells s.managed (is_full s.managed.heap.fields) _ (place (thread_number t) v.0) kind n (Some h.0))
event-sets s t (op.Meet v sort n p h) told =
    let a = met s.managed (place (thread_number t) v.0) h.0 sort n (registered s.registry p.0) in
    same-cells s.managed _ (ap (λ (z : Managed). z.cells) (meet_by-managed s p.0 h.0 a.state a.reply) ∙ met-cells s.managed (place (thread_number t) v.0) h.0 sort n (registered s.registry p.0))
event-sets s t (op.Give v) told =
    let u = place (thread_number t) v.0 in
    same-cells s.managed _ (ap (λ (z : Managed). z.cells) (give_by-managed s (slot s.managed.heap.vars u) (given_up s.managed u)) ∙ give-cells s.managed (slot s.managed.heap.vars u))
event-sets s t (op.Snap k) (snap_of freed candidates dead) = same-cells s.managed _ refl
event-sets s t (op.Snap k) told = same-cells s.managed _ refl
event-sets s t (op.Contract k) (contraction_of comps heavy xrefs) = same-cells s.managed _ refl
event-sets s t (op.Contract k) told = same-cells s.managed _ refl
event-sets s t (op.Resolve k) (resolution_of alive freed) = same-cells s.managed _ refl
event-sets s t (op.Resolve k) told = same-cells s.managed _ refl
event-sets s t (op.Refused w) (phase_of phase) = same-cells s.managed _ refl
event-sets s t (op.Refused w) told = same-cells s.managed _ refl
event-sets s t o told = same-cells s.managed _ refl

side-sets : (s : ManagedReplay) (m : Made) (told : Told) (b : Bool) → SetsOne s.managed (managed_after s m told b).managed.cells
side-sets s m told true = same-cells s.managed _ refl
side-sets s m told false = event-sets s m.caller m.op told

-- what is so from one state to a later one
pub record Since (s t : Managed) : Type 0 where
  pub stay : (c x : ℕ) → slot s.cells c ≡ Some x → slot t.cells c ≡ Some x
  pub was_live : (c x : ℕ) → slot t.cells c ≡ Some x → (slot s.cells c ≡ Some x) ⊎ (Contains s.heap.freed x → ⊥)
  pub freed : (x : ℕ) → Contains s.heap.freed x → Contains t.heap.freed x
  pub cycles : s.cycles ≤ t.cycles
  pub long : length t.cells ≡ length s.cells

pub since-same : (s : Managed) → Since s s
since-same s = record { stay = λ c x e. e; was_live = λ c x e. inl e; freed = λ x c. c; cycles = omega arith; long = refl }

pub since-then : (s t u : Managed) → Since s t → Since t u → Since s u
since-then s t u a b = record {
  stay = λ c x e. b.stay c x (a.stay c x e);
  was_live = λ c x e. elim (b.was_live c x e) [ inl q ↦ a.was_live c x q | inr q ↦ inr (λ f. q (a.freed x f)) ];
  freed = λ x f. b.freed x (a.freed x f);
  cycles = (let p = a.cycles in let q = b.cycles in omega (arith, p, q));
  long = b.long ∙ a.long;
}

grows : (s t : Managed) → ManagedStep s t → ((x : ℕ) → Contains s.heap.freed x → Contains t.heap.freed x) × (s.cycles ≤ t.cycles)
grows s t (going_on g) = (λ x f. subst (λ z. Contains z x) (sym g.freed) f, (let e = g.cycles in omega arith))
grows s t (snapping p) = (
  λ x f. subst (λ (z : Managed). Contains z.heap.freed x) (sym p.is) (Contains-append_left s.heap.freed p.freed x f),
  (let e = ap (λ (z : Managed). z.cycles) p.is in omega arith),
)
grows s t (resolving p) = (
  λ x f. subst (λ (z : Managed). Contains z.heap.freed x) (sym p.is) (Contains-append_left s.heap.freed p.freed x f),
  (let e = ap (λ (z : Managed). z.cycles) p.is in omega arith),
)
grows s t (abandoning p) = (λ x f. subst (λ (z : Managed). Contains z.heap.freed x) (sym p.is) f, (let e = ap (λ (z : Managed). z.cycles) p.is in omega arith))

pub since-entry : (s : Linkage) (n : Noted) → MayCome s n → ReplayInvariant s.managed → Since s.managed.managed (linkage_after s n).managed.managed
since-entry s n w k = record {
  stay = λ c x e. elim (sets.1 c) [ inl q ↦ q ∙ e | inr q ↦ absurd (let f = sym q.1 ∙ e in cc) ];
  was_live = λ c x e. elim (sets.1 c) [
    | inl q ↦ inl (sym q ∙ e)
    | inr q ↦ inr (λ f. (k.managed.roots q.0 q.3).kept (subst (λ z. Contains s.managed.managed.heap.freed z) (one x q.0 (sym e ∙ q.2)) f))
  ];
  freed = g.0;
  cycles = g.1;
  long = sets.0;
}
  where
    sets : SetsOne s.managed.managed (linkage_after s n).managed.managed.cells
    sets = side-sets s.managed n.entry.made n.told (is_peer_event n.entry.made.caller n.entry.made.op)

    one : (a b : ℕ) → Some a ≡ Some b → a ≡ b
    one a b e = cc

    g : ((x : ℕ) → Contains s.managed.managed.heap.freed x → Contains (linkage_after s n).managed.managed.heap.freed x) × (s.managed.managed.cycles ≤ (linkage_after s n).managed.managed.cycles)
    g = grows s.managed.managed (linkage_after s n).managed.managed (ManagedStep-entry s n w k)

pub since-on : (s : Linkage) (n : Noted) → ComesBehind (is_read n.entry.made.op) s n → ReplayInvariant s.managed → Since s.managed.managed (entry_after s n).managed.managed
since-on s n w k = by (is_read n.entry.made.op) refl w
  where
    by : (b : Bool) → is_read n.entry.made.op ≡ b → ComesBehind b s n → Since s.managed.managed (entry_after s n).managed.managed
    by true e w = subst (λ (z : Linkage). Since s.managed.managed z.managed.managed) (sym (after-read s n e))
        (record { stay = λ c x q. q; was_live = λ c x q. inl q; freed = λ x c. c; cycles = omega arith; long = refl })
    by false e w = subst (λ (z : Linkage). Since s.managed.managed z.managed.managed) (sym (after-other s n e)) (since-entry s n w k)

-- the end of a past
pub all_come-back : (front past : List Noted) → AllComeBehind (front ++ past) → AllComeBehind past
all_come-back [] past w = w
all_come-back (n ∷ front) past w = all_come-back front past w.1

pub all_stand-back : (front past : List Noted) → AllStand (front ++ past) → AllStand past
all_stand-back [] past w = w
all_stand-back (n ∷ front) past w = all_stand-back front past w.1

pub since : (front past : List Noted) → AllComeBehind (front ++ past) → AllStand (front ++ past) → Since (state_of past).managed.managed (state_of (front ++ past)).managed.managed
since [] past w r = since-same (state_of past).managed.managed
since (n ∷ front) past w r = since-then _ _ _ (since front past w.1 r.1) (since-on (state_of (front ++ past)) n w.0 (kept (front ++ past) w.1 r.1))

-- an entry that frees an object
slice-none : (o : Option Marking) (t : Thread) (told : Told) (x : ℕ) → SliceAllows o t told → FreesObject told x → ⊥
slice-none None t (snap_of f c d) x a w = a
slice-none None t (resolution_of y f) x a w = a
slice-none (Some mk) t (snap_of f c d) x a w = a
slice-none (Some mk) t (resolution_of y f) x a w = a
slice-none o t _ x a w = w

sweep-none : (s : PeerReplay) (o : Option Marking) (t : Thread) (told : Told) (x : ℕ) → SweepAllows s o t told → FreesObject told x → ⊥
sweep-none s None (P n) (snap_of f c d) x a w = a
sweep-none s None (P n) (resolution_of y f) x a w = a
sweep-none s None (M n) (snap_of f c d) x a w = a
sweep-none s None (M n) (resolution_of y f) x a w = a
sweep-none s None C (snap_of f c d) x a w = a
sweep-none s None C (resolution_of y f) x a w = a
sweep-none s (Some mk) t (snap_of f c d) x a w = a
sweep-none s (Some mk) t (resolution_of y f) x a w = a
sweep-none s o t _ x a w = w

peer-none : (s : PeerReplay) (t : Thread) (o : Op) (cites : Option ℕ) (told : Told) (x : ℕ) → PeerAllows s t o cites told → FreesObject told x → ⊥
peer-none s t (op.Line (act.Slice n)) cites told x a w = slice-none s.marking t told x a w
peer-none s t op.Sweep cites told x a w = sweep-none s s.marking t told x a w
peer-none s t o cites (snap_of f c d) x a w = a
peer-none s t o cites (resolution_of y f) x a w = a
peer-none s t o cites _ x a w = w

managed-frees : (s : ManagedReplay) (t : Thread) (o : Op) (told : Told) (x : ℕ) → ManagedAllows s o told → FreesObject told x → Contains (managed_answer s t o told).state.managed.heap.freed x
managed-frees s t (op.Snap k) (snap_of freed c d) x a w = Contains-append_right s.managed.heap.freed freed x w
managed-frees s t (op.Resolve k) (resolution_of y freed) x a w = Contains-append_right s.managed.heap.freed freed x w
managed-frees s t o (snap_of freed c d) x a w = absurd a
managed-frees s t o (resolution_of y freed) x a w = absurd a
managed-frees s t o _ x a w = absurd w

side-frees : (s : Linkage) (m : Made) (told : Told) (x : ℕ) (b : Bool) → SideLawful b s m told → FreesObject told x → Contains (managed_after s.managed m told b).managed.heap.freed x
side-frees s m told x true l w = absurd (peer-none s.peer m.caller m.op m.cites told x l.allowed w)
side-frees s m told x false l w = managed-frees s.managed m.caller m.op told x l.allowed w

frees-on : (s : Linkage) (n : Noted) (x : ℕ) → ComesBehind (is_read n.entry.made.op) s n → FreesObject n.told x → Contains (entry_after s n).managed.managed.heap.freed x
frees-on s n x w f = by (is_read n.entry.made.op) refl w
  where
    by : (b : Bool) → is_read n.entry.made.op ≡ b → ComesBehind b s n → Contains (entry_after s n).managed.managed.heap.freed x
    by true e w = absurd (subst (λ z. FreesObject z x) w.bare f)
    by false e w = subst (λ (z : Linkage). Contains z.managed.managed.heap.freed x) (sym (after-other s n e))
        (side-frees s n.entry.made n.told x (is_peer_event n.entry.made.caller n.entry.made.op) w.lawful f)

pub freed-in : (past : List Noted) → AllComeBehind past → AllStand past → (n : Noted) (x : ℕ) → InPast past n → FreesObject n.told x → Contains (state_of past).managed.managed.heap.freed x
freed-in [] w r n x i f = absurd i
freed-in (m ∷ past) w r n x (inl e) f = frees-on (state_of past) m x w.0 (subst (λ z. FreesObject z x) (sym (ap (λ (z : Noted). z.told) e)) f)
freed-in (m ∷ past) w r n x (inr i) f = (since-on (state_of past) m w.0 (kept past w.1 r.1)).freed x (freed-in past w.1 r.1 n x i f)

-- an entry of a kind that no read is comes as any does
pub comes-other : (s : Linkage) (n : Noted) (o : Op) → n.entry.made.op ≡ o → is_read o ≡ false → ComesBehind (is_read n.entry.made.op) s n → MayCome s n
comes-other s n o e f w = subst (λ b. ComesBehind b s n) (ap is_read e ∙ f) w

-- a snapshot opens the next cycle, where none is open
pub record Opens (s t : Managed) (k : ℕ) : Type 0 where
  pub closed : s.cycle ≡ None
  pub next : k ≡ s.cycles + 1
  pub after : t.cycles ≡ k

snap-opens : (s : Linkage) (m : Made) (told : Told) (o : Op) (k : ℕ) → m.op ≡ o → o ≡ op.Snap record { 0 = k }
    → SideLawful (is_peer_event m.caller m.op) s m told → Opens s.managed.managed (managed_after s.managed m told (is_peer_event m.caller m.op)).managed k
snap-opens s m told o k e f l =
    subst (λ z. Opens s.managed.managed (managed_after s.managed (record m { op = z }) told (is_peer_event m.caller z)).managed k) (sym (e ∙ f))
    (by told (subst (λ z. SideLawful (is_peer_event m.caller z) s (record m { op = z }) told) (e ∙ f) l))
  where
    by : (told : Told) → ManagedLawful s.managed (record m { op = op.Snap record { 0 = k } }) told
        → Opens s.managed.managed (managed_after s.managed (record m { op = op.Snap record { 0 = k } }) told false).managed k
    by (snap_of freed candidates dead) w = record { closed = w.allowed.closed; next = w.allowed.next; after = sym w.allowed.next }
    by _ w = absurd w.allowed

pub opens-on : (s : Linkage) (n : Noted) (k : ℕ) → ComesBehind (is_read n.entry.made.op) s n → n.entry.made.op ≡ op.Snap record { 0 = k } → Opens s.managed.managed (entry_after s n).managed.managed k
opens-on s n k w e =
    let other : is_read n.entry.made.op ≡ false = ap is_read e in
    subst (λ (z : Linkage). Opens s.managed.managed z.managed.managed k) (sym (after-other s n other)) (snap-opens s n.entry.made n.told n.entry.made.op k refl e (comes-other s n _ e refl w).lawful)

pub snap-counted : (past : List Noted) → AllComeBehind past → AllStand past → (n : Noted) (k : ℕ)
    → InPast past n → n.entry.made.op ≡ op.Snap record { 0 = k } → k ≤ (state_of past).managed.managed.cycles
snap-counted [] w r n k i e = absurd i
snap-counted (m ∷ past) w r n k (inl q) e = (let o = opens-on (state_of past) m k w.0 (ap (λ (z : Noted). z.entry.made.op) q ∙ e) in let f = o.after in omega (arith, f))
snap-counted (m ∷ past) w r n k (inr i) e = (let l = snap-counted past w.1 r.1 n k i e in let g = (since-on (state_of past) m w.0 (kept past w.1 r.1)).cycles in omega (arith, l, g))

-- an end is of the open cycle, which is the last one
abbrev pub Ends : Op → ℕ → Type 0
Ends o k = (o ≡ op.Resolve record { 0 = k }) ⊎ (o ≡ op.Abandon record { 0 = k })

pub resolve-open : (s : Linkage) (m : Made) (told : Told) (o : Op) (k : ℕ) → m.op ≡ o → o ≡ op.Resolve record { 0 = k }
    → SideLawful (is_peer_event m.caller m.op) s m told → (c : OpenCycle) × (s.managed.managed.cycle ≡ Some c) × (c.number ≡ k)
resolve-open s m told o k e f l = by told (subst (λ z. SideLawful (is_peer_event m.caller z) s (record m { op = z }) told) (e ∙ f) l)
  where
    by : (told : Told) → ManagedLawful s.managed (record m { op = op.Resolve record { 0 = k } }) told → (c : OpenCycle) × (s.managed.managed.cycle ≡ Some c) × (c.number ≡ k)
    by (resolution_of alive freed) w = (w.allowed.cycle, w.allowed.open_cycle.0, w.allowed.open_cycle.1)
    by _ w = absurd w.allowed

pub abandon-open : (s : Linkage) (m : Made) (told : Told) (o : Op) (k : ℕ) → m.op ≡ o → o ≡ op.Abandon record { 0 = k }
    → SideLawful (is_peer_event m.caller m.op) s m told → (c : OpenCycle) × (s.managed.managed.cycle ≡ Some c) × (c.number ≡ k)
abandon-open s m told o k e f l = by told (subst (λ z. SideLawful (is_peer_event m.caller z) s (record m { op = z }) told) (e ∙ f) l)
  where
    by : (told : Told) → ManagedLawful s.managed (record m { op = op.Abandon record { 0 = k } }) told → (c : OpenCycle) × (s.managed.managed.cycle ≡ Some c) × (c.number ≡ k)
    by nothing w = (w.allowed.0, w.allowed.1.0, w.allowed.1.1)
    by _ w = absurd w.allowed

pub end-is : (s : Linkage) (n : Noted) (k : ℕ) → ComesBehind (is_read n.entry.made.op) s n → ReplayInvariant s.managed → Ends n.entry.made.op k → k ≡ s.managed.managed.cycles
end-is s n k w p (inl e) = (let c = resolve-open s n.entry.made n.told n.entry.made.op k refl e (comes-other s n _ e refl w).lawful in let l = (p.managed.dead c.0 c.1).latest in sym c.2 ∙ l)
end-is s n k w p (inr e) = (let c = abandon-open s n.entry.made n.told n.entry.made.op k refl e (comes-other s n _ e refl w).lawful in let l = (p.managed.dead c.0 c.1).latest in sym c.2 ∙ l)

pub end-counted : (past : List Noted) → AllComeBehind past → AllStand past → (n : Noted) (k : ℕ) → InPast past n → Ends n.entry.made.op k → k ≤ (state_of past).managed.managed.cycles
end-counted [] w r n k i e = absurd i
end-counted (m ∷ past) w r n k (inl q) e =
    let same = end-is (state_of past) m k w.0 (kept past w.1 r.1) (subst (λ z. Ends z k) (sym (ap (λ (z : Noted). z.entry.made.op) q)) e) in
    let g = (since-on (state_of past) m w.0 (kept past w.1 r.1)).cycles in
    omega (arith, same, g)
end-counted (m ∷ past) w r n k (inr i) e = (let l = end-counted past w.1 r.1 n k i e in let g = (since-on (state_of past) m w.0 (kept past w.1 r.1)).cycles in omega (arith, l, g))
