-- The operations that both heaps have, by what they may change: they make and free no object; a slot comes to name only
-- what a slot or a field of an object in a slot named; only an object in a slot has a field changed, and what comes
-- into the field was in a slot.
use Rattle.std.proofs.Common.{◌≡◌, ℕ, ◌⊎◌, inl, inr, true, false, length, Option, Some, None, refl, sym, subst, nat_le}
use Rattle.std.specs.Prelude.{Contains, if◌then◌else◌}
use Rattle.std.proofs.Math.ListN.{length-set}
use Rattle.std.proofs.lemmas.Bool.{cases_eq}
use Rattle.std.proofs.lemmas.Option.{same_Some}
use Rattle.joint_machine.specs.declared.lines.Act.{Act}
use Rattle.joint_machine.specs.declared.lines.Act.TheVariants as act
use Rattle.joint_machine.specs.declared.events.Reply.{Reply}
use Rattle.joint_machine.specs.declared.events.Reply.TheVariants as says
use Rattle.joint_machine.specs.Heaps.{Heap, InSlot, Answered, answer, slot, fields_of, with_var, with_static, with_field, copied, field_stored, field_set, read_into, field_got, dropped, loaded}
use Rattle.joint_machine.specs.Heaps.{stored, place, place_or_none, heap_line}
use Rattle.joint_machine.proofs.Numbered.{Contains-set_cases, slot-Contains}
use Rattle.joint_machine.proofs.Deciding.{none_some}
use Rattle.joint_laws.proofs.Fields.{with_field-same, with_field-other, with_field-length}

-- a slot names the object, or a field of an object in a slot does
abbrev pub IsInReach : Heap → ℕ → Type 0
IsInReach h x = InSlot h x ⊎ ((z : ℕ) × InSlot h z × Contains (fields_of h z) (Some x))

pub record HasMoved (h k : Heap) : Type 0 where
  pub made : length k.fields ≡ length h.fields
  pub freed : k.freed ≡ h.freed
  pub slots : (x : ℕ) → InSlot k x → IsInReach h x
  pub fields : (x y : ℕ) → Contains (fields_of k x) (Some y) → Contains (fields_of h x) (Some y) ⊎ (InSlot h x × InSlot h y)
  pub frozen : (x : ℕ) → (InSlot h x → ⊥) → fields_of k x ≡ fields_of h x
  pub vars : length k.vars ≡ length h.vars
  pub statics : length k.statics ≡ length h.statics

pub HasMoved-stay : (h : Heap) → HasMoved h h
HasMoved-stay h = record { made = refl; freed = refl; slots = λ x s. inl s; fields = λ x y c. inl c; frozen = λ x n. refl; vars = refl; statics = refl }

pub HasMoved-var : (h : Heap) (v : ℕ) (o : Option ℕ) → ((x : ℕ) → o ≡ Some x → IsInReach h x) → HasMoved h (with_var h v o)
HasMoved-var h v o near = record {
  made = refl;
  freed = refl;
  slots = λ x s. elim s [
    | inl c ↦ elim (Contains-set_cases h.vars v o (Some x) c) [ inl w ↦ inl (inl w) | inr e ↦ near x e ]
    | inr c ↦ inl (inr c)
  ];
  fields = λ x y c. inl c;
  frozen = λ x n. refl;
  vars = length-set h.vars v o;
  statics = refl;
}

pub HasMoved-static : (h : Heap) (i : ℕ) (o : Option ℕ) → ((x : ℕ) → o ≡ Some x → IsInReach h x) → HasMoved h (with_static h i o)
HasMoved-static h i o near = record {
  made = refl;
  freed = refl;
  slots = λ x s. elim s [
    | inl c ↦ inl (inl c)
    | inr c ↦ elim (Contains-set_cases h.statics i o (Some x) c) [ inl w ↦ inl (inr w) | inr e ↦ near x e ]
  ];
  fields = λ x y c. inl c;
  frozen = λ x n. refl;
  vars = refl;
  statics = length-set h.statics i o;
}

pub HasMoved-field : (h : Heap) (x i : ℕ) (o : Option ℕ) → InSlot h x → ((y : ℕ) → o ≡ Some y → InSlot h y) → HasMoved h (with_field h x i o)
HasMoved-field h x i o s near = record {
  made = with_field-length h x i o;
  freed = refl;
  slots = λ y t. inl t;
  fields = fields;
  vars = refl;
  statics = refl;
  frozen = λ a n. with_field-other h x i o a (λ e. n (subst (λ z. InSlot h z) (sym e) s));
}
  where
    at_row : (a y : ℕ) → a ≡ x → Contains (fields_of (with_field h x i o) a) (Some y) → Contains (fields_of h a) (Some y) ⊎ (InSlot h a × InSlot h y)
    at_row a y e c = elim (with_field-same h x i o (Some y) (subst (λ z. Contains (fields_of (with_field h x i o) z) (Some y)) e c)) [
      | inl w ↦ inl (subst (λ z. Contains (fields_of h z) (Some y)) (sym e) w)
      | inr w ↦ inr (subst (λ z. InSlot h z) (sym e) s, near y w)
    ]

    fields : (a y : ℕ) → Contains (fields_of (with_field h x i o) a) (Some y) → Contains (fields_of h a) (Some y) ⊎ (InSlot h a × InSlot h y)
    fields a y c = elim (cases_eq a x) [
      | inl e ↦ at_row a y e c
      | inr ne ↦ inl (subst (λ fs. Contains fs (Some y)) (with_field-other h x i o a ne) c)
    ]

-- the operations by what their variable named
abbrev copied_by : (ℕ → Reply) → Heap → ℕ → Option ℕ → Answered Heap
copied_by name h v o = elim o [ None ↦ answer says.Empty h | Some x ↦ answer (name x) (with_var h v (Some x)) ]

abbrev field_stored_by : Heap → ℕ → ℕ → Option ℕ → Answered Heap
field_stored_by h x i o = elim o [ None ↦ answer says.Empty h | Some y ↦ answer says.Ok (with_field h x i (Some y)) ]

abbrev field_set_by : Heap → ℕ → Option ℕ → Option ℕ → Answered Heap
field_set_by h i w o = elim o [ None ↦ answer says.Empty h | Some x ↦ if nat_le (length (fields_of h x)) i then answer says.Range h else field_stored h x i w ]

abbrev field_got_by : (ℕ → Reply) → Heap → ℕ → ℕ → Option ℕ → Answered Heap
field_got_by name h v i o = elim o [ None ↦ answer says.Empty h | Some x ↦ if nat_le (length (fields_of h x)) i then answer says.Range h else read_into name h v (slot (fields_of h x) i) ]

abbrev stored_by : Heap → ℕ → Option ℕ → Answered Heap
stored_by h s o = elim o [ None ↦ answer says.Empty h | Some x ↦ answer says.Ok (with_static h s (Some x)) ]

-- what a slot names
slot_var : (h : Heap) (v x y : ℕ) → slot h.vars v ≡ Some x → Some x ≡ Some y → InSlot h y
slot_var h v x y e q = inl (subst (λ z. Contains h.vars (Some z)) (same_Some x y q) (slot-Contains h.vars v x e))

copied_by-moved : (name : ℕ → Reply) (h : Heap) (v w : ℕ) (o : Option ℕ) → slot h.vars w ≡ o → HasMoved h (copied_by name h v o).state
copied_by-moved name h v w None e = HasMoved-stay h
copied_by-moved name h v w (Some x) e = HasMoved-var h v (Some x) (λ y q. inl (slot_var h w x y e q))

pub copied-moved : (name : ℕ → Reply) (h : Heap) (v w : ℕ) → HasMoved h (copied name h v w).state
copied-moved name h v w = copied_by-moved name h v w (slot h.vars w) refl

field_stored_by-moved : (h : Heap) (x i w : ℕ) (o : Option ℕ) → slot h.vars w ≡ o → InSlot h x → HasMoved h (field_stored_by h x i o).state
field_stored_by-moved h x i w None e s = HasMoved-stay h
field_stored_by-moved h x i w (Some y) e s = HasMoved-field h x i (Some y) s (λ z q. slot_var h w y z e q)

field_stored-moved : (h : Heap) (x i : ℕ) (w : Option ℕ) → InSlot h x → HasMoved h (field_stored h x i w).state
field_stored-moved h x i None s = HasMoved-field h x i None s (λ y e. absurd (none_some y e))
field_stored-moved h x i (Some w) s = field_stored_by-moved h x i w (slot h.vars w) refl s

field_set_by-moved : (h : Heap) (v i : ℕ) (w o : Option ℕ) → slot h.vars v ≡ o → HasMoved h (field_set_by h i w o).state
field_set_by-moved h v i w None e = HasMoved-stay h
field_set_by-moved h v i w (Some x) e = elim (nat_le (length (fields_of h x)) i) as (λ b. HasMoved h (if b then answer says.Range h else field_stored h x i w).state) [
  | true ↦ HasMoved-stay h
  | false ↦ field_stored-moved h x i w (inl (slot-Contains h.vars v x e))
]

pub field_set-moved : (h : Heap) (v i : ℕ) (w : Option ℕ) → HasMoved h (field_set h v i w).state
field_set-moved h v i w = field_set_by-moved h v i w (slot h.vars v) refl

read_into-moved : (name : ℕ → Reply) (h : Heap) (v : ℕ) (o : Option ℕ) → ((x : ℕ) → o ≡ Some x → IsInReach h x) → HasMoved h (read_into name h v o).state
read_into-moved name h v None near = HasMoved-var h v None near
read_into-moved name h v (Some y) near = HasMoved-var h v (Some y) near

field_got_by-moved : (name : ℕ → Reply) (h : Heap) (v w i : ℕ) (o : Option ℕ) → slot h.vars w ≡ o → HasMoved h (field_got_by name h v i o).state
field_got_by-moved name h v w i None e = HasMoved-stay h
field_got_by-moved name h v w i (Some x) e = elim (nat_le (length (fields_of h x)) i) as (λ b. HasMoved h (if b then answer says.Range h else read_into name h v (slot (fields_of h x) i)).state) [
  | true ↦ HasMoved-stay h
  | false ↦ read_into-moved name h v (slot (fields_of h x) i) (λ y q. inr (x, inl (slot-Contains h.vars w x e), slot-Contains (fields_of h x) i y q))
]

pub field_got-moved : (name : ℕ → Reply) (h : Heap) (v w i : ℕ) → HasMoved h (field_got name h v w i).state
field_got-moved name h v w i = field_got_by-moved name h v w i (slot h.vars w) refl

pub dropped-moved : (h : Heap) (v : ℕ) → HasMoved h (dropped h v).state
dropped-moved h v = HasMoved-var h v None (λ x e. absurd (none_some x e))

pub loaded-moved : (name : ℕ → Reply) (h : Heap) (v s : ℕ) → HasMoved h (loaded name h v s).state
loaded-moved name h v s = read_into-moved name h v (slot h.statics s) (λ x e. inl (inr (slot-Contains h.statics s x e)))

stored_by-moved : (h : Heap) (s v : ℕ) (o : Option ℕ) → slot h.vars v ≡ o → HasMoved h (stored_by h s o).state
stored_by-moved h s v None e = HasMoved-stay h
stored_by-moved h s v (Some x) e = HasMoved-static h s (Some x) (λ y q. inl (slot_var h v x y e q))

pub stored-moved : (h : Heap) (s : ℕ) (v : Option ℕ) → HasMoved h (stored h s v).state
stored-moved h s None = HasMoved-static h s None (λ x e. absurd (none_some x e))
stored-moved h s (Some v) = stored_by-moved h s v (slot h.vars v) refl

-- each line that both heaps have
pub heap_line-moved : (name : ℕ → Reply) (h : Heap) (t : ℕ) (a : Act) → HasMoved h (heap_line name h t a).state
heap_line-moved name h t (act.Copy v w) = copied-moved name h (place t v.0) (place t w.0)
heap_line-moved name h t (act.Set v i w) = field_set-moved h (place t v.0) i (place_or_none t w)
heap_line-moved name h t (act.Get v w i) = field_got-moved name h (place t v.0) (place t w.0) i
heap_line-moved name h t (act.Drop v) = dropped-moved h (place t v.0)
heap_line-moved name h t (act.Load v x) = loaded-moved name h (place t v.0) x.0
heap_line-moved name h t (act.Store x v) = stored-moved h x.0 (place_or_none t v)
heap_line-moved name h t _ = HasMoved-stay h
