-- Every managed event but a snapshot, a resolution and an abandonment only goes on: it frees nothing and leaves the
-- open cycle alone; a slot comes to name only what a slot or a field of a row in a slot named, a new row, or, where no
-- cycle is open, an unfreed row; only a row in a slot has a field or its handle changed; and no row that was there
-- comes to hold a handle.
use Rattle.std.proofs.Common.{◌≡◌, ℕ, ◌≤◌, ◌⊎◌, inl, inr, [], ◌∷◌, length, Option, Some, None, set, refl, sym, subst, ◌∙◌, arith, length-append}
use Rattle.std.specs.Prelude.{Contains}
use Rattle.std.proofs.Math.ListN.{length-set}
use Rattle.std.proofs.lemmas.Bool.{cases_eq, cases_lt}
use Rattle.std.proofs.lemmas.Option.{same_Some}
use Rattle.joint_machine.specs.declared.names.Kind.{Kind}
use Rattle.joint_machine.specs.declared.names.Sort.{Sort}
use Rattle.joint_machine.specs.declared.lines.Act.{Act}
use Rattle.joint_machine.specs.declared.events.Reply.TheVariants as says
use Rattle.joint_machine.specs.Heaps.{Heap, IsMade, IsLive, Answered, answer, slot, numbered_at, numbered_set, fields_of, is_full, next_number, with_var, with_object}
use Rattle.joint_machine.specs.Managed.{Managed, OpenCycle, IsManagedRoot, managed_name, with_row, adopted, without_handle, given_up, twin_kind, twin_fields, twin_met, met, managed_line}
use Rattle.joint_machine.specs.Managed.{notices_taken}
use Rattle.joint_machine.proofs.Numbered.{Contains-set_cases, slot-Contains, numbered_set-length, numbered_set-same, numbered_set-other, numbered-push_cases, numbered-push_old}
use Rattle.joint_machine.proofs.Deciding.{none_some}
use Rattle.joint_laws.proofs.Fields.{fields-past, with_object-old, with_object-new, with_object-length}
use Rattle.joint_laws.proofs.HeapMoves.{HasMoved}
use Rattle.joint_laws.proofs.ManagedLines.{if_full, managed_line-keeps}

-- a slot names the row, or a field of a row in a slot does, or the row is unfreed and no cycle is open
abbrev pub IsNameable : Managed → ℕ → Type 0
IsNameable s x = IsManagedRoot s x ⊎ ((z : ℕ) × IsManagedRoot s z × Contains (fields_of s.heap z) (Some x)) ⊎ (IsLive s.heap x × (s.cycle ≡ None))

-- the row was made between two states
abbrev pub IsNew : Managed → Managed → ℕ → Type 0
IsNew s t x = (IsMade s.heap x → ⊥) × IsMade t.heap x

pub record GoesOn (s t : Managed) : Type 0 where
  pub freed : t.heap.freed ≡ s.heap.freed
  pub made : length s.heap.fields ≤ length t.heap.fields
  pub places : length s.held ≡ length s.heap.fields → length t.held ≡ length t.heap.fields
  pub cycle : t.cycle ≡ s.cycle
  pub cycles : t.cycles ≡ s.cycles
  pub vars : length t.heap.vars ≡ length s.heap.vars
  pub roots : (x : ℕ) → IsManagedRoot t x → IsNameable s x ⊎ IsNew s t x
  pub fields : (x y : ℕ) → Contains (fields_of t.heap x) (Some y) → Contains (fields_of s.heap x) (Some y) ⊎ (IsManagedRoot s x × IsManagedRoot s y)
  pub cells : (x : ℕ) → Contains t.cells (Some x) → Contains s.cells (Some x) ⊎ IsManagedRoot s x
  pub frozen : (x : ℕ) → IsMade s.heap x → (IsManagedRoot s x → ⊥) → fields_of t.heap x ≡ fields_of s.heap x
  pub keeps : (x : ℕ) → IsMade s.heap x → (IsManagedRoot s x → ⊥) → numbered_at t.held x ≡ numbered_at s.held x
  pub gains : (x h : ℕ) → IsMade s.heap x → numbered_at t.held x ≡ Some (Some h) → numbered_at s.held x ≡ Some (Some h)

pub GoesOn-stay : (s : Managed) → GoesOn s s
GoesOn-stay s = record {
  freed = refl;
  made = omega arith;
  places = λ e. e;
  cycle = refl;
  cycles = refl;
  vars = refl;
  roots = λ x r. inl (inl r);
  fields = λ x y c. inl c;
  cells = λ x c. inl c;
  frozen = λ x m n. refl;
  keeps = λ x m n. refl;
  gains = λ x h m e. e;
}

-- an operation of the heap alone
pub GoesOn-heap : (s : Managed) (k : Heap) → HasMoved s.heap k → GoesOn s (record s { heap = k })
GoesOn-heap s k v = record {
  freed = v.freed;
  made = omega (arith, v.made);
  places = λ e. e ∙ sym v.made;
  cycle = refl;
  cycles = refl;
  vars = v.vars;
  roots = λ x r. elim r [
    | inl i ↦ elim (v.slots x i) [
      | inl j ↦ inl (inl (inl j))
      | inr z ↦ inl (inr (inl (z.0, inl z.1, z.2)))
    ]
    | inr p ↦ inl (inl (inr p))
  ];
  fields = λ x y c. elim (v.fields x y c) [ inl w ↦ inl w | inr w ↦ inr (inl w.0, inl w.1) ];
  cells = λ x c. inl c;
  frozen = λ x m n. v.frozen x (λ i. n (inl i));
  keeps = λ x m n. refl;
  gains = λ x h m e. e;
}

-- a further row, which a variable names
pub GoesOn-row : (s : Managed) (v : ℕ) (kind : Kind) (n : ℕ) (o : Option ℕ) → length s.held ≡ length s.heap.fields → GoesOn s (with_row s v kind n o)
GoesOn-row s v kind n o e = record {
  freed = refl;
  made = omega (arith, with_object-length s.heap n);
  places = λ q. omega (arith, q, with_object-length s.heap n, length-append s.held (o ∷ []));
  cycle = refl;
  cycles = refl;
  vars = length-set s.heap.vars v (Some (next_number s.heap));
  roots = λ x r. elim r [
    | inl i ↦ elim i [
      | inl c ↦ elim (Contains-set_cases s.heap.vars v (Some (next_number s.heap)) (Some x) c) [
        | inl w ↦ inl (inl (inl (inl w)))
        | inr w ↦ inr (fresh x (same_Some (next_number s.heap) x w))
      ]
      | inr c ↦ inl (inl (inl (inr c)))
    ]
    | inr p ↦ inl (inl (inr p))
  ];
  fields = λ x y c. inl (field x y c);
  cells = λ x c. inl c;
  frozen = λ x m q. with_object-old s.heap n x m.1;
  keeps = λ x m q. numbered-push_old s.held o x (omega (arith, m.1, e));
  gains = λ x h m q. elim (numbered-push_cases s.held o x (Some h) q) [
    | inl w ↦ w
    | inr w ↦ absurd (omega (arith, w.0, m.1, e))
  ];
}
  where
    fresh : (x : ℕ) → next_number s.heap ≡ x → IsNew s (with_row s v kind n o) x
    fresh x q = (λ m. omega (arith, m.1, q), (omega (arith, q), omega (arith, q, with_object-length s.heap n)))

    field : (x y : ℕ) → Contains (fields_of (with_object s.heap n) x) (Some y) → Contains (fields_of s.heap x) (Some y)
    field x y c = elim (cases_eq x (next_number s.heap)) [
      | inl q ↦ absurd (with_object-new s.heap n y (subst (λ z. Contains (fields_of (with_object s.heap n) z) (Some y)) q c))
      | inr ne ↦ elim (cases_lt (length s.heap.fields) x) [
        | inl l ↦ absurd (fields-past (with_object s.heap n) x (Some y) (omega (arith, with_object-length s.heap n)) c)
        | inr l ↦ subst (λ fs. Contains fs (Some y)) (with_object-old s.heap n x l) c
      ]
    ]

pub adopted-goes_on : (s : Managed) (v : ℕ) (kind : Kind) (n h : ℕ) → length s.held ≡ length s.heap.fields → GoesOn s (adopted s v kind n h).state
adopted-goes_on s v kind n h e = if_full s (GoesOn s) (is_full s.heap.fields) (managed_name (next_number s.heap)) (with_row s v kind n (Some h)) (GoesOn-stay s) (GoesOn-row s v kind n (Some h) e)

-- a cell comes to name what a slot names
GoesOn-cell : (s : Managed) (k x : ℕ) → IsManagedRoot s x → GoesOn s (record s { cells = set s.cells k (Some x) })
GoesOn-cell s k x r = record {
  freed = refl;
  made = omega arith;
  places = λ e. e;
  cycle = refl;
  cycles = refl;
  vars = refl;
  roots = λ y q. inl (inl q);
  fields = λ y z c. inl c;
  frozen = λ y m n. refl;
  keeps = λ y m n. refl;
  gains = λ y h m e. e;
  cells = λ y c. elim (Contains-set_cases s.cells k (Some x) (Some y) c) [
    | inl w ↦ inl w
    | inr w ↦ inr (subst (λ z. IsManagedRoot s z) (same_Some x y w) r)
  ];
}

-- a pin comes to hold an unfreed row, while no cycle is open
GoesOn-pin : (s : Managed) (t x : ℕ) → s.cycle ≡ None → IsLive s.heap x → GoesOn s (record s { pins = set s.pins t (Some x) })
GoesOn-pin s t x o l = record {
  freed = refl;
  made = omega arith;
  places = λ e. e;
  cycle = refl;
  cycles = refl;
  vars = refl;
  fields = λ y z c. inl c;
  cells = λ y c. inl c;
  frozen = λ y m n. refl;
  keeps = λ y m n. refl;
  gains = λ y h m e. e;
  roots = λ y r. elim r [
    | inl i ↦ inl (inl (inl i))
    | inr p ↦ elim (Contains-set_cases s.pins t (Some x) (Some y) p) [
      | inl w ↦ inl (inl (inr w))
      | inr w ↦ inl (inr (inr (subst (λ z. IsLive s.heap z) (same_Some x y w) l, o)))
    ]
  ];
}

-- a variable comes to name what a pin held
GoesOn-take : (s : Managed) (t v x : ℕ) → slot s.pins t ≡ Some x → GoesOn s (record s { heap = with_var s.heap v (Some x); pins = set s.pins t None })
GoesOn-take s t v x e = record {
  freed = refl;
  made = omega arith;
  places = λ q. q;
  cycle = refl;
  cycles = refl;
  vars = length-set s.heap.vars v (Some x);
  roots = λ y r. elim r [
    | inl i ↦ elim i [
      | inl c ↦ elim (Contains-set_cases s.heap.vars v (Some x) (Some y) c) [
        | inl w ↦ inl (inl (inl (inl w)))
        | inr w ↦ inl (inl (inr (subst (λ z. Contains s.pins (Some z)) (same_Some x y w) (slot-Contains s.pins t x e))))
      ]
      | inr c ↦ inl (inl (inl (inr c)))
    ]
    | inr p ↦ elim (Contains-set_cases s.pins t None (Some y) p) [ inl w ↦ inl (inl (inr w)) | inr w ↦ absurd (none_some y w) ]
  ];
  fields = λ y z c. inl c;
  cells = λ y c. inl c;
  frozen = λ y m n. refl;
  keeps = λ y m n. refl;
  gains = λ y h m q. q;
}

-- notices are no rows
GoesOn-notices : (s : Managed) (n : ℕ) → GoesOn s (notices_taken s n).state
GoesOn-notices s n = record {
  freed = refl;
  made = omega arith;
  places = λ e. e;
  cycle = refl;
  cycles = refl;
  vars = refl;
  roots = λ y r. inl (inl r);
  fields = λ y z c. inl c;
  cells = λ y c. inl c;
  frozen = λ y m n. refl;
  keeps = λ y m n. refl;
  gains = λ y h m e. e;
}

-- the events of a managed thread's lines that are one event
pub managed_line-goes_on : (s : Managed) (t : ℕ) (a : Act) → length s.held ≡ length s.heap.fields → ((x : ℕ) → Contains s.cells (Some x) → IsMade s.heap x) → GoesOn s (managed_line s t a).state
managed_line-goes_on s t a e m = managed_line-keeps s (GoesOn s) (record {
  stay = GoesOn-stay s;
  on_heap = GoesOn-heap s;
  row = λ v kind n. GoesOn-row s v kind n None e;
  cell = GoesOn-cell s;
  pin = GoesOn-pin s;
  take = GoesOn-take s;
  notices = GoesOn-notices s;
}) m t a

-- a row in a variable gives its handle up
emptied : (s : Managed) (x : ℕ) → IsManagedRoot s x → GoesOn s (record s { held = numbered_set s.held x None })
emptied s x r = record {
  freed = refl;
  made = omega arith;
  cycle = refl;
  cycles = refl;
  vars = refl;
  roots = λ y q. inl (inl q);
  fields = λ y z c. inl c;
  cells = λ y c. inl c;
  frozen = λ y m n. refl;
  places = λ e. numbered_set-length s.held x None ∙ e;
  keeps = λ y m n. numbered_set-other s.held x y None (λ e. n (subst (λ z. IsManagedRoot s z) (sym e) r));
  gains = λ y h m e. elim (cases_eq y x) [
    | inl q ↦ absurd (none_some h (numbered_set-same s.held x None (Some h) (subst (λ z. numbered_at (numbered_set s.held x None) z ≡ Some (Some h)) q e)))
    | inr ne ↦ sym (numbered_set-other s.held x y None ne) ∙ e
  ];
}

pub emptied-goes_on : (s : Managed) (v x : ℕ) → slot s.heap.vars v ≡ Some x → GoesOn s (record s { held = numbered_set s.held x None })
emptied-goes_on s v x e = emptied s x (inl (inl (slot-Contains s.heap.vars v x e)))

without_handle-goes_on : (s : Managed) (v : ℕ) (o : Option ℕ) → slot s.heap.vars v ≡ o → GoesOn s (without_handle s o)
without_handle-goes_on s v None e = GoesOn-stay s
without_handle-goes_on s v (Some x) e = emptied-goes_on s v x e

pub given_up-goes_on : (s : Managed) (v : ℕ) → GoesOn s (given_up s v).state
given_up-goes_on s v = without_handle-goes_on s v (slot s.heap.vars v) refl

-- a variable comes to name the twin of a peer, while no cycle is open
pub twinned-goes_on : (s : Managed) (v m : ℕ) → s.cycle ≡ None → IsLive s.heap m → GoesOn s (record s { heap = with_var s.heap v (Some m) })
twinned-goes_on s v m o l = record {
  freed = refl;
  cycle = refl;
  cycles = refl;
  vars = length-set s.heap.vars v (Some m);
  cells = λ y c. inl c;
  keeps = λ y q n. refl;
  gains = λ y h q e. e;
  roots = λ y r. elim r [
    | inl i ↦ elim i [
      | inl c ↦ elim (Contains-set_cases s.heap.vars v (Some m) (Some y) c) [
        | inl w ↦ inl (inl (inl (inl w)))
        | inr w ↦ inl (inr (inr (subst (λ z. IsLive s.heap z) (same_Some m y w) l, o)))
      ]
      | inr c ↦ inl (inl (inl (inr c)))
    ]
    | inr p ↦ inl (inl (inr p))
  ];
  made = omega arith;
  places = λ e. e;
  frozen = λ x q n. refl;
  fields = λ x y c. inl c;
}

twin_met-goes_on : (s : Managed) (v h : ℕ) (sort : Sort) (n : ℕ) (twin : Option ℕ) → s.cycle ≡ None
    → length s.held ≡ length s.heap.fields → ((m : ℕ) → twin ≡ Some m → IsLive s.heap m) → GoesOn s (twin_met s v h sort n twin).state
twin_met-goes_on s v h sort n (Some m) o e l = twinned-goes_on s v m o (l m refl)
twin_met-goes_on s v h sort n None o e l = if_full s (GoesOn s) (is_full s.heap.fields) (says.New record { 0 = next_number s.heap })
    (with_row s v (twin_kind sort) (twin_fields sort n) (Some h)) (GoesOn-stay s) (GoesOn-row s v (twin_kind sort) (twin_fields sort n) (Some h) e)

abbrev pub met_by : Managed → ℕ → ℕ → Sort → ℕ → Option ℕ → Option OpenCycle → Answered Managed
met_by s v h sort n twin c = elim c [ None ↦ twin_met s v h sort n twin | Some c ↦ answer (says.Pending record { 0 = c.number }) s ]

met_by-goes_on : (s : Managed) (v h : ℕ) (sort : Sort) (n : ℕ) (twin : Option ℕ) (c : Option OpenCycle) → s.cycle ≡ c
    → length s.held ≡ length s.heap.fields → ((m : ℕ) → twin ≡ Some m → IsLive s.heap m) → GoesOn s (met_by s v h sort n twin c).state
met_by-goes_on s v h sort n twin None o e l = twin_met-goes_on s v h sort n twin o e l
met_by-goes_on s v h sort n twin (Some c) o e l = GoesOn-stay s

pub met-goes_on : (s : Managed) (v h : ℕ) (sort : Sort) (n : ℕ) (twin : Option ℕ) → length s.held ≡ length s.heap.fields
    → ((m : ℕ) → twin ≡ Some m → IsLive s.heap m) → GoesOn s (met s v h sort n twin).state
met-goes_on s v h sort n twin e l = met_by-goes_on s v h sort n twin s.cycle refl e l
