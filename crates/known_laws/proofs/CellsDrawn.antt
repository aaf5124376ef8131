-- A cell's target is the one with which its `weak` was drawn. Only a `weak` that answers ok changes the cells: it puts
-- its variable's object into its own cell, which is the target that it is drawn with. There are 64 cells all along, so
-- what is put is there.
use Rattle.known_laws.proofs.Coming.{event_of}
use Rattle.known_laws.specs.Known.{Comes, given, managed_past}
use Rattle.joint_machine.specs.Lines.{is_read, IsEvent, is_peer_event}
use Rattle.joint_machine.specs.PinsTold.{bare_told, pins_told, with_pins}
use Rattle.std.proofs.Common.{true≢false, ◌≡◌, ◌≢◌, ⊎_elim, ℕ, zero, suc, ◌<◌, Bool, true, false, List, [], ◌∷◌, length, replicate, Option, Some, None, refl, sym, ap, ◌∙◌, subst, arith, eq-eqb}
use Rattle.std.proofs.Common.{ne_eqb}
use Rattle.std.specs.Prelude.{if◌then◌else◌, slice_get, slice_set}
use Rattle.std.proofs.lemmas.Bool.{cases_eq}
use Rattle.std.proofs.Math.ListN.{length-set}
use Rattle.joint_machine.specs.declared.names.Thread.{Thread}
use Rattle.joint_machine.specs.declared.names.Thread.TheVariants.{M, P, C}
use Rattle.joint_machine.specs.declared.names.Cell.{Cell}
use Rattle.joint_machine.specs.declared.names.MNum.{MNum}
use Rattle.joint_machine.specs.declared.names.Kind.{Kind}
use Rattle.joint_machine.specs.declared.names.Sort.{Sort}
use Rattle.joint_machine.specs.declared.names.Var.{Var}
use Rattle.joint_machine.specs.declared.lines.Act.{Act}
use Rattle.joint_machine.specs.declared.lines.Act.TheVariants as act
use Rattle.joint_machine.specs.declared.events.Op.{Op}
use Rattle.joint_machine.specs.declared.events.Op.TheVariants as op
use Rattle.joint_machine.specs.declared.events.Reply.{Reply}
use Rattle.joint_machine.specs.declared.events.Reply.TheVariants as says
use Rattle.joint_machine.specs.Heaps.{Answered, answer, slot, place, is_full, is_freed}
use Rattle.joint_machine.specs.Linked.{SideLawful}
use Rattle.joint_machine.specs.Managed.{Managed, OpenCycle, managed_name, managed_line, adopted, met, given_up, with_row, cell_set, weakened_to, target_read, cell_read, read_cell, pin_taken}
use Rattle.joint_machine.specs.Managed.{without_handle, twin_met, twin_kind, twin_fields}
use Rattle.joint_machine.specs.ManagedReplay.{ManagedReplay, managed_answer, registered}
use Rattle.joint_machine.specs.Run.{thread_number}
use Rattle.joint_machine.specs.Sides.{managed_rules, peer_rules, object_or_none, cell_target}
use Rattle.joint_machine.specs.Told.{Told, Noted, snap_of, contraction_of, resolution_of, phase_of}
use Rattle.joint_machine.proofs.HeapLemmas.{adopt_by-managed}
use Rattle.joint_machine.proofs.Joining.{slice_get-set_same, slice_get-set_other}
use Rattle.joint_laws.proofs.KeptPins.{weak_by, take_by}
use Rattle.joint_laws.proofs.ManagedMoves.{met_by}
use Rattle.joint_laws.proofs.ManagedSteps.{meet_by-managed, give_by-managed}
use Rattle.known_laws.specs.Pasts.{Lawful, end_of}
use Rattle.known_laws.specs.Drawn.{drawn_by, aimed, sets_by, sets, aims_at, target_in, TargetsAreDrawn}

-- the cells after an entry that sets one or none
abbrev cells_by : List (Option ℕ) → Option (ℕ × ℕ) → List (Option ℕ)
cells_by cells None = cells
cells_by cells (Some p) = slice_set cells p.0 (Some p.1)

-- a read by the pin
abbrev read_by : Managed → ℕ → ℕ → Option ℕ → Answered Managed
read_by s t k None = cell_read s t k s.cycle
read_by s t k (Some x) = answer (says.Pinned record { 0 = x }) s

-- what it sets, by its reply
abbrev aims_by : ℕ → Option ℕ → Reply → Option (ℕ × ℕ)
aims_by k o says.Ok = aimed k (object_or_none o)
aims_by k o r = None

aims-is : (s : ManagedReplay) (t : Thread) (k : Cell) (v : Var) (r : Reply)
    → sets_by (op.Line (act.Weak k v)) (cell_target s t (op.Line (act.Weak k v)) r) ≡ aims_by k.0 (slot s.managed.heap.vars (place (thread_number t) v.0)) r
aims-is s t k v says.Ok = refl
aims-is s t k v r = refl

module _ (s : Managed) where
  set-cells : (k x : ℕ) (o : Option ℕ) → (cell_set s k x o).state.cells ≡ cells_by s.cells (aims_by k (Some x) (cell_set s k x o).reply)
  set-cells k x None = refl
  set-cells k x (Some y) = refl

  weakened-cells : (k v : ℕ) → (weakened_to s k v).state.cells ≡ cells_by s.cells (aims_by k (slot s.heap.vars v) (weakened_to s k v).reply)
  weakened-cells k v = by (slot s.heap.vars v)
    where
      by : (o : Option ℕ) → (weak_by s k o).state.cells ≡ cells_by s.cells (aims_by k o (weak_by s k o).reply)
      by None = refl
      by (Some x) = set-cells k x (slot s.cells k)

  -- all else leaves the cells
  row-cells : (b : Bool) (r : Reply) (v : ℕ) (kind : Kind) (n : ℕ) (h : Option ℕ) → (if b then answer says.Full s else answer r (with_row s v kind n h)).state.cells ≡ s.cells
  row-cells true r v kind n h = refl
  row-cells false r v kind n h = refl

  twin-cells : (v h : ℕ) (sort : Sort) (n : ℕ) (o : Option ℕ) → (twin_met s v h sort n o).state.cells ≡ s.cells
  twin-cells v h sort n None = row-cells (is_full s.heap.fields) _ v (twin_kind sort) (twin_fields sort n) (Some h)
  twin-cells v h sort n (Some m) = refl

  met-cells : (v h : ℕ) (sort : Sort) (n : ℕ) (o : Option ℕ) → (met s v h sort n o).state.cells ≡ s.cells
  met-cells v h sort n o = by s.cycle
    where
      by : (c : Option OpenCycle) → (met_by s v h sort n o c).state.cells ≡ s.cells
      by None = twin-cells v h sort n o
      by (Some x) = refl

  give-cells : (o : Option ℕ) → (without_handle s o).cells ≡ s.cells
  give-cells None = refl
  give-cells (Some x) = refl

  target-cells : (t : ℕ) (o : Option ℕ) → (target_read s t o).state.cells ≡ s.cells
  target-cells t None = refl
  target-cells t (Some x) = by (is_freed s.heap x)
    where
      by : (b : Bool) → (if b then answer says.Gone s else answer (managed_name x) (record s { pins = slice_set s.pins t (Some x) })).state.cells ≡ s.cells
      by true = refl
      by false = refl

  cell-cells : (t k : ℕ) (o : Option OpenCycle) → (cell_read s t k o).state.cells ≡ s.cells
  cell-cells t k None = target-cells t (slot s.cells k)
  cell-cells t k (Some c) = refl

  read-cells : (t k : ℕ) → (read_cell s t k).state.cells ≡ s.cells
  read-cells t k = by (slot s.pins t)
    where
      by : (o : Option ℕ) → (read_by s t k o).state.cells ≡ s.cells
      by None = cell-cells t k s.cycle
      by (Some x) = refl

  take-cells : (t v : ℕ) → (pin_taken s t v).state.cells ≡ s.cells
  take-cells t v = by (slot s.pins t)
    where
      by : (o : Option ℕ) → (take_by s t v o).state.cells ≡ s.cells
      by None = refl
      by (Some x) = refl

line-cells : (s : ManagedReplay) (t : Thread) (a : Act) → (managed_line s.managed (thread_number t) a).state.cells ≡ cells_by s.managed.cells
    (sets_by (op.Line a) (cell_target s t (op.Line a) (managed_line s.managed (thread_number t) a).reply))
line-cells s t (act.Weak k v) =
    let u = place (thread_number t) v.0 in
    weakened-cells s.managed k.0 u ∙ ap (cells_by s.managed.cells) (sym (aims-is s t k v (weakened_to s.managed k.0 u).reply))
line-cells s t (act.New v kind n) = row-cells s.managed (is_full s.managed.heap.fields) _ (place (thread_number t) v.0) kind n None
line-cells s t (act.Read k) = read-cells s.managed (thread_number t) k.0
line-cells s t (act.Await k) = read-cells s.managed (thread_number t) k.0
line-cells s t (act.Take v) = take-cells s.managed (thread_number t) (place (thread_number t) v.0)
line-cells s t _ = refl

cells-after : (s : ManagedReplay) (t : Thread) (o : Op) (told : Told)
    → (managed_answer s t o told).state.managed.cells ≡ cells_by s.managed.cells (sets_by o (cell_target s t o (managed_answer s t o told).reply))
cells-after s t (op.Line a) told = line-cells s t a
cells-after s t (op.Adopt v kind n p h) told =
    let a = adopted s.managed (place (thread_number t) v.0) kind n h.0 in
    ap (λ (z : Managed). z.cells) (adopt_by-managed s p.0 h.0 a.state a.reply) ∙ row-cells s.managed (is_full s.managed.heap.fields) _ (place (thread_number t) v.0) kind n (Some h.0)
cells-after s t (op.Meet v sort n p h) told =
    let a = met s.managed (place (thread_number t) v.0) h.0 sort n (registered s.registry p.0) in
    ap (λ (z : Managed). z.cells) (meet_by-managed s p.0 h.0 a.state a.reply) ∙ met-cells s.managed (place (thread_number t) v.0) h.0 sort n (registered s.registry p.0)
cells-after s t (op.Give v) told =
    let u = place (thread_number t) v.0 in
    ap (λ (z : Managed). z.cells) (give_by-managed s (slot s.managed.heap.vars u) (given_up s.managed u)) ∙ give-cells s.managed (slot s.managed.heap.vars u)
cells-after s t (op.Snap k) (snap_of freed candidates dead) = refl
cells-after s t (op.Snap k) told = refl
cells-after s t (op.Contract k) (contraction_of comps heavy xrefs) = refl
cells-after s t (op.Contract k) told = refl
cells-after s t (op.Resolve k) (resolution_of alive freed) = refl
cells-after s t (op.Resolve k) told = refl
cells-after s t (op.Refused x) (phase_of phase) = refl
cells-after s t (op.Refused x) told = refl
cells-after s t o told = refl

-- one cell after a write
one-cell : (cells : List (Option ℕ)) (p : Option (ℕ × ℕ)) (c : ℕ) → ((q : ℕ × ℕ) → p ≡ Some q → q.0 < length cells) → slot (cells_by cells p) c ≡ aims_at c (slot cells c) p
one-cell cells None c less = refl
one-cell cells (Some q) c less = ⊎_elim
    (λ (e : q.0 ≡ c).
    let there : slice_get (slice_set cells q.0 (Some q.1)) c ≡ Some (Some q.1) = subst
    (λ z. slice_get (slice_set cells q.0 (Some q.1)) z ≡ Some (Some q.1)) e (slice_get-set_same cells q.0 (Some q.1) (less q refl)) in
    ap (λ (o : Option (Option ℕ)). elim o [ None ↦ None | Some x ↦ x ]) there ∙ ap (λ b. if b then Some q.1 else slot cells c) (sym (eq-eqb q.0 c e)))
    (λ (n : q.0 ≢ c).
    ap (λ (o : Option (Option ℕ)). elim o [ None ↦ None | Some x ↦ x ]) (slice_get-set_other cells q.0 c (Some q.1) (λ e. n (sym e)))
    ∙ ap (λ b. if b then Some q.1 else slot cells c) (sym (ne_eqb q.0 c n)))
    (cases_eq q.0 c)

as-many : (cells : List (Option ℕ)) (p : Option (ℕ × ℕ)) → length (cells_by cells p) ≡ length cells
as-many cells None = refl
as-many cells (Some q) = length-set cells q.0 (Some q.1)

-- an entry sets one of the 64 cells
in-range : (t : Thread) (o : Op) (target : Option MNum) (q : ℕ × ℕ) → IsEvent t o → sets_by o target ≡ Some q → q.0 < 64
in-range (M n) (op.Line (act.Weak k v)) (Some m) q e s = (let l = e.0.1.0 in let f : k.0 ≡ q.0 = ap (λ (z : Option (ℕ × ℕ)). elim z [ None ↦ q.0 | Some w ↦ w.0 ]) s in omega (arith, l, f))
in-range (M n) (op.Line (act.Weak k v)) None q e s = absurd (cc)
in-range (P n) (op.Line (act.Weak k v)) target q e s = absurd e.0.1
in-range C (op.Line (act.Weak k v)) target q e s = absurd e.0
in-range t o target q e s = absurd (cc)

untargeted : (o : Op) → sets_by o None ≡ None
untargeted (op.Line (act.Weak k v)) = refl
untargeted o = refl

-- a read sets no cell, and what a `weak` sets asks for no pins
read-sets : (o : Op) (target : Option MNum) → is_read o ≡ true → sets_by o target ≡ None
read-sets (op.Line (act.Weak k v)) target e = absurd (true≢false (sym e))
read-sets o target e = refl

target-same : (s : ManagedReplay) (p : List (Option ℕ)) (t : Thread) (o : Op) (r : Reply) → cell_target (with_pins s p) t o r ≡ cell_target s t o r
target-same s p t (op.Line (act.Weak k v)) says.Ok = refl
target-same s p t (op.Line (act.Weak k v)) r = refl
target-same s p t o r = refl

-- what is so of the cells at each past's end
record AreCelled (h : List Noted) : Type 0 where
  long : length (end_of h).managed.managed.cells ≡ 64
  same : (c : ℕ) → slot (end_of h).managed.managed.cells c ≡ target_in c h

none-at : (n c : ℕ) → slot {A = ℕ} (replicate n None) c ≡ None
none-at zero c = refl
none-at (suc n) zero = refl
none-at (suc n) (suc c) = none-at n c

module _ (x : Noted) (h : List Noted) (l : Lawful (x ∷ h)) (k : AreCelled h) where
  abbrev Drawn_by : Bool → Option (ℕ × ℕ)
  Drawn_by b = sets (if b then drawn_by peer_rules (end_of h).peer x else drawn_by managed_rules (end_of h).managed x)

  cells-are : (b r : Bool) → is_peer_event x.entry.made.caller x.entry.made.op ≡ b → is_read x.entry.made.op ≡ r → Comes r (end_of h) x
      → (managed_past (end_of h).managed x.entry.made x.told b r).managed.cells ≡ cells_by (end_of h).managed.managed.cells (Drawn_by b)
  cells-are true r e f w = ap (cells_by (end_of h).managed.managed.cells) (sym (untargeted x.entry.made.op))
  cells-are false true e f w = ap (cells_by (end_of h).managed.managed.cells) (sym (read-sets x.entry.made.op _ f))
  cells-are false false e f w = cells-after (given (end_of h) x.told).managed x.entry.made.caller x.entry.made.op (bare_told x.told)
      ∙ ap (λ r. cells_by (end_of h).managed.managed.cells (sets_by x.entry.made.op (cell_target (given (end_of h) x.told).managed x.entry.made.caller x.entry.made.op r)))
      (sym (subst (λ c. SideLawful c (given (end_of h) x.told) x.entry.made (bare_told x.told)) e w.comes.lawful).replies)
      ∙ ap (λ t. cells_by (end_of h).managed.managed.cells (sets_by x.entry.made.op t)) (target-same (end_of h).managed (pins_told x.told) x.entry.made.caller x.entry.made.op x.entry.made.reply)

  ranged : (b : Bool) (q : ℕ × ℕ) → Drawn_by b ≡ Some q → q.0 < 64
  ranged true q e = in-range x.entry.made.caller x.entry.made.op None q (event_of x h l) e
  ranged false q e = in-range x.entry.made.caller x.entry.made.op _ q (event_of x h l) e

  celled-by : (b r : Bool) → is_peer_event x.entry.made.caller x.entry.made.op ≡ b → is_read x.entry.made.op ≡ r
      → Comes r (end_of h) x → (length (managed_past (end_of h).managed x.entry.made x.told b r).managed.cells ≡ 64)
      × ((c : ℕ) → slot (managed_past (end_of h).managed x.entry.made x.told b r).managed.cells c ≡ aims_at c (target_in c h) (Drawn_by b))
  celled-by b r p q w =
      let e = cells-are b r p q w in (
        ap length e ∙ (as-many (end_of h).managed.managed.cells (Drawn_by b) ∙ k.long),
        λ c. ap (λ z. slot z c) e ∙ (one-cell (end_of h).managed.managed.cells (Drawn_by b) c (λ q f. let r = ranged b q f in let n = k.long in omega (arith, r, n))
            ∙ ap (λ z. aims_at c z (Drawn_by b)) (k.same c)),
      )

celled : (h : List Noted) → Lawful h → AreCelled h
celled [] l = record { long = refl; same = none-at 64 }
celled (x ∷ h) l = let w = celled-by x h l (celled h l.1) (is_peer_event x.entry.made.caller x.entry.made.op) (is_read x.entry.made.op) refl refl l.0.comes in record { long = w.0; same = w.1 }

pub targets_are_drawn : TargetsAreDrawn
targets_are_drawn h l = (celled h l).same
