-- What the operations on fields and statics say, case by case.
use Rattle.std.proofs.Common.{◌≡◌, ℕ, ◌<◌, ◌≤◌, true, false, Option, Some, None, length, sym, ap, ◌∙◌, nat_le}
use Rattle.std.specs.Prelude.{if◌then◌else◌}
use borrow.Author.Tests.{le-leb, lt-leb}
use Rattle.joint_machine.specs.declared.events.Reply.{Reply}
use Rattle.joint_machine.specs.declared.events.Reply.TheVariants as says
use Rattle.joint_machine.specs.Heaps.{Heap, answer, field_got, field_set, field_stored, fields_of, read_into, slot, stored, with_field, with_static}
use Rattle.row_heap.specs.Marks.{is_given, overwritten}
use Rattle.row_heap.specs.Rows.{HeapRows}

pub got-none : (name : ℕ → Reply) (h : Heap) (v w i : ℕ) → slot h.vars w ≡ None → field_got name h v w i ≡ answer says.Empty h
got-none name h v w i e = ap (λ o. elim o [ None ↦ answer says.Empty h | Some x ↦ if nat_le (length (fields_of h x)) i then answer says.Range h else read_into name h v (slot (fields_of h x) i) ]) e

pub got-range : (name : ℕ → Reply) (h : Heap) (v w i x : ℕ) → slot h.vars w ≡ Some x → length (fields_of h x) ≤ i → field_got name h v w i ≡ answer says.Range h
got-range name h v w i x e l =
    ap (λ o. elim o [ None ↦ answer says.Empty h | Some x ↦ if nat_le (length (fields_of h x)) i then answer says.Range h else read_into name h v (slot (fields_of h x) i) ]) e
    ∙ ap (λ b. if b then answer says.Range h else read_into name h v (slot (fields_of h x) i)) (le-leb (length (fields_of h x)) i l)

pub got-read : (name : ℕ → Reply) (h : Heap) (v w i x : ℕ) (y : Option ℕ) → slot h.vars w ≡ Some x
    → i < length (fields_of h x) → slot (fields_of h x) i ≡ y → field_got name h v w i ≡ read_into name h v y
got-read name h v w i x y e l read =
    ap (λ o. elim o [ None ↦ answer says.Empty h | Some x ↦ if nat_le (length (fields_of h x)) i then answer says.Range h else read_into name h v (slot (fields_of h x) i) ]) e
    ∙ (ap (λ b. if b then answer says.Range h else read_into name h v (slot (fields_of h x) i)) (lt-leb (length (fields_of h x)) i l) ∙ ap (read_into name h v) read)

pub set-none : (h : Heap) (v i : ℕ) (w : Option ℕ) → slot h.vars v ≡ None → field_set h v i w ≡ answer says.Empty h
set-none h v i w e = ap (λ o. elim o [ None ↦ answer says.Empty h | Some x ↦ if nat_le (length (fields_of h x)) i then answer says.Range h else field_stored h x i w ]) e

pub set-range : (h : Heap) (v i : ℕ) (w : Option ℕ) (x : ℕ) → slot h.vars v ≡ Some x → length (fields_of h x) ≤ i → field_set h v i w ≡ answer says.Range h
set-range h v i w x e l =
    ap (λ o. elim o [ None ↦ answer says.Empty h | Some x ↦ if nat_le (length (fields_of h x)) i then answer says.Range h else field_stored h x i w ]) e
    ∙ ap (λ b. if b then answer says.Range h else field_stored h x i w) (le-leb (length (fields_of h x)) i l)

pub set-stored : (h : Heap) (v i : ℕ) (w : Option ℕ) (x : ℕ) → slot h.vars v ≡ Some x → i < length (fields_of h x) → field_set h v i w ≡ field_stored h x i w
set-stored h v i w x e l =
    ap (λ o. elim o [ None ↦ answer says.Empty h | Some x ↦ if nat_le (length (fields_of h x)) i then answer says.Range h else field_stored h x i w ]) e
    ∙ ap (λ b. if b then answer says.Range h else field_stored h x i w) (lt-leb (length (fields_of h x)) i l)

-- a field or a static that is written
pub field-none : (old new : HeapRows) (x i : ℕ) (w : Option ℕ) → w ≡ None → new ≡ record old { heap = with_field old.heap x i None } → field_stored old.heap x i w ≡ answer says.Ok new.heap
field-none old new x i w e is = ap (field_stored old.heap x i) e ∙ ap (λ (v : HeapRows). answer says.Ok v.heap) (sym is)

pub field-empty : (h : Heap) (x i : ℕ) (w : Option ℕ) (p : ℕ) → w ≡ Some p → slot h.vars p ≡ None → field_stored h x i w ≡ answer says.Empty h
field-empty h x i w p e at = ap (field_stored h x i) e ∙ ap (λ o. elim o [ None ↦ answer says.Empty h | Some y ↦ answer says.Ok (with_field h x i (Some y)) ]) at

pub field-some : (old new : HeapRows) (x i : ℕ) (w : Option ℕ) (p y : ℕ) → w ≡ Some p → slot old.heap.vars p ≡ Some y
    → new ≡ record old { heap = with_field old.heap x i (Some y) } → field_stored old.heap x i w ≡ answer says.Ok new.heap
field-some old new x i w p y e at is =
    ap (field_stored old.heap x i) e
    ∙ (ap (λ o. elim o [ None ↦ answer says.Empty old.heap | Some y ↦ answer says.Ok (with_field old.heap x i (Some y)) ]) at ∙ ap (λ (v : HeapRows). answer says.Ok v.heap) (sym is))

pub static-none : (old new : HeapRows) (s : ℕ) (w : Option ℕ) → w ≡ None → new ≡ record old { heap = with_static old.heap s None } → stored old.heap s w ≡ answer says.Ok new.heap
static-none old new s w e is = ap (stored old.heap s) e ∙ ap (λ (v : HeapRows). answer says.Ok v.heap) (sym is)

pub static-empty : (h : Heap) (s : ℕ) (w : Option ℕ) (p : ℕ) → w ≡ Some p → slot h.vars p ≡ None → stored h s w ≡ answer says.Empty h
static-empty h s w p e at = ap (stored h s) e ∙ ap (λ o. elim o [ None ↦ answer says.Empty h | Some y ↦ answer says.Ok (with_static h s (Some y)) ]) at

pub static-some : (old new : HeapRows) (s : ℕ) (w : Option ℕ) (p y : ℕ) → w ≡ Some p → slot old.heap.vars p ≡ Some y
    → new ≡ record old { heap = with_static old.heap s (Some y) } → stored old.heap s w ≡ answer says.Ok new.heap
static-some old new s w p y e at is =
    ap (stored old.heap s) e
    ∙ (ap (λ o. elim o [ None ↦ answer says.Empty old.heap | Some y ↦ answer says.Ok (with_static old.heap s (Some y)) ]) at ∙ ap (λ (v : HeapRows). answer says.Ok v.heap) (sym is))

-- what a write takes out of its field
pub over-none : (h : Heap) (v i : ℕ) (w : Option ℕ) → slot h.vars v ≡ None → overwritten h v i w ≡ None
over-none h v i w e = ap (λ o. elim o [ None ↦ None | Some x ↦ if nat_le (length (fields_of h x)) i then None else if is_given h w then slot (fields_of h x) i else None ]) e

pub over-range : (h : Heap) (v i : ℕ) (w : Option ℕ) (x : ℕ) → slot h.vars v ≡ Some x → length (fields_of h x) ≤ i → overwritten h v i w ≡ None
over-range h v i w x e l =
    ap (λ o. elim o [ None ↦ None | Some x ↦ if nat_le (length (fields_of h x)) i then None else if is_given h w then slot (fields_of h x) i else None ]) e
    ∙ ap (λ b. if b then None else if is_given h w then slot (fields_of h x) i else None) (le-leb (length (fields_of h x)) i l)

over-within : (h : Heap) (v i : ℕ) (w : Option ℕ) (x : ℕ) → slot h.vars v ≡ Some x → i < length (fields_of h x) → overwritten h v i w ≡ (if is_given h w then slot (fields_of h x) i else None)
over-within h v i w x e l =
    ap (λ o. elim o [ None ↦ None | Some x ↦ if nat_le (length (fields_of h x)) i then None else if is_given h w then slot (fields_of h x) i else None ]) e
    ∙ ap (λ b. if b then None else if is_given h w then slot (fields_of h x) i else None) (lt-leb (length (fields_of h x)) i l)

pub over-given : (h : Heap) (v i : ℕ) (w : Option ℕ) (x : ℕ) → slot h.vars v ≡ Some x → i < length (fields_of h x) → is_given h w ≡ true → overwritten h v i w ≡ slot (fields_of h x) i
over-given h v i w x e l up = over-within h v i w x e l ∙ ap (λ b. if b then slot (fields_of h x) i else None) up

pub over-empty : (h : Heap) (v i : ℕ) (w : Option ℕ) (x : ℕ) → slot h.vars v ≡ Some x → i < length (fields_of h x) → is_given h w ≡ false → overwritten h v i w ≡ None
over-empty h v i w x e l down = over-within h v i w x e l ∙ ap (λ b. if b then slot (fields_of h x) i else None) down

-- all but the heap stays
pub rest-stays : (old new : HeapRows) (h : Heap) → new ≡ record old { heap = h } → new ≡ record old { heap = new.heap }
rest-stays old new h e = e ∙ ap (λ (k : Heap). record old { heap = k }) (sym (ap (λ (v : HeapRows). v.heap) e))
