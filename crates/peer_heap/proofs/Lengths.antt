-- No peer has more than 255 fields, and each has a sort: a peer is made with so many fields at most, and no event but a
-- write touches a peer's fields, which keeps how many there are.
use Rattle.std.proofs.Common.{◌≡◌, ℕ, zero, suc, ◌<◌, ◌≤◌, List, [], ◌∷◌, ◌++◌, length, replicate, Option, Some, None, refl, sym, ap, subst, ◌∙◌, arith, length-append}
use Rattle.std.specs.Prelude.{All, nat_le, slice_get, if◌then◌else◌}
use Rattle.std.proofs.Math.ListN.{set}
use Rattle.std.proofs.lemmas.List.{length-set, length-replicate}
use Rattle.std.proofs.lemmas.List.Elements.{All-set, All-push, All-get_or}
use Rattle.std.proofs.lemmas.Option.{slice_get_within, get_or_from_slice_get}
use Rattle.joint_machine.specs.declared.names.Sort.{Sort}
use Rattle.joint_machine.specs.declared.events.Reply.{Reply}
use Rattle.joint_machine.specs.declared.events.Reply.TheVariants as says
use Rattle.joint_machine.specs.Heaps.{Heap, Answered, answer, fields_of, slot, with_var, with_static, with_field, with_object, copied, field_set, field_stored, read_into, field_got, dropped, loaded}
use Rattle.joint_machine.specs.Heaps.{stored}
use Rattle.joint_machine.specs.Peers.{peer_name}
use Rattle.joint_machine.proofs.Deciding.{option-cases, test-cases}
use Rattle.joint_laws.proofs.Fields.{with_field-length}
use Rattle.heap_rules.specs.declared.done.Done.{Done}
use Rattle.heap_rules.specs.Done.{Did}
use Rattle.row_heap.specs.Rows.{HeapRows}
use Rattle.global_handles.specs.Rows.{Table}
use Rattle.peer_heap.specs.declared.issues.Issue.{Issue}
use Rattle.peer_heap.specs.Rows.{IsShort, AreShort, ArePeerRows}
use Rattle.peer_heap.proofs.Fitting.{ArePeerRows-marked}

pub short-of : (h : Heap) (x : ℕ) → AreShort h → length (fields_of h x) ≤ 255
short-of h zero short = omega arith
short-of h (suc k) short = by (slice_get h.fields k) refl
  where
    by : (o : Option (List (Option ℕ))) → slice_get h.fields k ≡ o → length {A = Option ℕ} (elim o [ None ↦ [] | Some fs ↦ fs ]) ≤ 255
    by None e = omega arith
    by (Some fs) e = subst IsShort (get_or_from_slice_get h.fields k fs [] e) (All-get_or IsShort h.fields k [] (slice_get_within h.fields k fs e) short)

-- how many fields a peer has fits a byte
pub short-byte : (h : Heap) (x n : ℕ) → n ≡ length (fields_of h x) → AreShort h → n < 256
short-byte h x n is short = omega (arith, is, short-of h x short)

short-field : (h : Heap) (x i : ℕ) (y : Option ℕ) → AreShort h → AreShort (with_field h x i y)
short-field h zero i y short = short
short-field h (suc k) i y short =
    let one : IsShort (set (fields_of h (suc k)) i y) = omega (arith, length-set (fields_of h (suc k)) i y, short-of h (suc k) short) in
    All-set IsShort h.fields k (set (fields_of h (suc k)) i y) one short

short-object : (h : Heap) (n : ℕ) → n ≤ 255 → AreShort h → AreShort (with_object h n)
short-object h n le short =
    let one : IsShort (replicate n None) = omega (arith, length-replicate {A = Option ℕ} n None) in
    All-push IsShort h.fields (replicate n None) short one

-- the operations that leave all fields as they are
pub copied-fields : (name : ℕ → Reply) (h : Heap) (v w : ℕ) → (copied name h v w).state.fields ≡ h.fields
copied-fields name h v w = option-cases (λ (a : Answered Heap). a.state.fields ≡ h.fields) (answer says.Empty h) (λ x. answer (name x) (with_var h v (Some x))) (slot h.vars w) refl (λ x. refl)

pub read-fields : (name : ℕ → Reply) (h : Heap) (v : ℕ) (o : Option ℕ) → (read_into name h v o).state.fields ≡ h.fields
read-fields name h v None = refl
read-fields name h v (Some y) = refl

pub got-fields : (name : ℕ → Reply) (h : Heap) (v w i : ℕ) → (field_got name h v w i).state.fields ≡ h.fields
got-fields name h v w i = option-cases (λ (a : Answered Heap). a.state.fields ≡ h.fields) (answer says.Empty h)
    (λ x. if nat_le (length (fields_of h x)) i then answer says.Range h else read_into name h v (slot (fields_of h x) i)) (slot h.vars w) refl
    (λ x. test-cases (λ (a : Answered Heap). a.state.fields ≡ h.fields) (nat_le (length (fields_of h x)) i)
    (answer says.Range h) (read_into name h v (slot (fields_of h x) i)) refl (read-fields name h v (slot (fields_of h x) i)))

pub stored-fields : (h : Heap) (s : ℕ) (v : Option ℕ) → (stored h s v).state.fields ≡ h.fields
stored-fields h s None = refl
stored-fields h s (Some v) = option-cases (λ (a : Answered Heap). a.state.fields ≡ h.fields) (answer says.Empty h) (λ x. answer says.Ok (with_static h s (Some x))) (slot h.vars v) refl (λ x. refl)

-- a write keeps how many fields each peer has
abbrev IsLike : Heap → Answered Heap → Type 0
IsLike h a = AreShort a.state × (length a.state.fields ≡ length h.fields)

field_set-like : (h : Heap) (v i : ℕ) (w : Option ℕ) → AreShort h → IsLike h (field_set h v i w)
field_set-like h v i w short = option-cases (IsLike h) (answer says.Empty h)
    (λ x. if nat_le (length (fields_of h x)) i then answer says.Range h else field_stored h x i w) (slot h.vars v) (short, refl)
    (λ x. test-cases (IsLike h) (nat_le (length (fields_of h x)) i) (answer says.Range h) (field_stored h x i w) (short, refl) (written x w))
  where
    written : (x : ℕ) (w : Option ℕ) → IsLike h (field_stored h x i w)
    written x None = (short-field h x i None short, with_field-length h x i None)
    written x (Some u) = option-cases (IsLike h) (answer says.Empty h) (λ y. answer says.Ok (with_field h x i (Some y))) (slot h.vars u) (short, refl)
        (λ y. (short-field h x i (Some y) short, with_field-length h x i (Some y)))

did-fields : (operation : (ℕ → Reply) → Answered Heap) (d : Done) (old new : Heap) → Did operation d new → (operation peer_name).state.fields ≡ old.fields → new.fields ≡ old.fields
did-fields operation d old new did same = ap (λ (a : Answered Heap). a.state.fields) (sym (did peer_name)) ∙ same

pub copy-keeps : (old new : HeapRows) (sorts : List Sort) (issued : List Issue) (table : Table) (d : Done) (v w : ℕ)
    → Did (λ name. copied name old.heap v w) d new.heap → ArePeerRows old sorts issued table → ArePeerRows new sorts issued table
copy-keeps old new sorts issued table d v w did kept = ArePeerRows-marked old new sorts issued table
    (did-fields (λ name. copied name old.heap v w) d old.heap new.heap did (copied-fields peer_name old.heap v w)) kept

pub get-keeps : (old new : HeapRows) (sorts : List Sort) (issued : List Issue) (table : Table) (d : Done) (v w i : ℕ)
    → Did (λ name. field_got name old.heap v w i) d new.heap → ArePeerRows old sorts issued table → ArePeerRows new sorts issued table
get-keeps old new sorts issued table d v w i did kept = ArePeerRows-marked old new sorts issued table
    (did-fields (λ name. field_got name old.heap v w i) d old.heap new.heap did (got-fields peer_name old.heap v w i)) kept

pub load-keeps : (old new : HeapRows) (sorts : List Sort) (issued : List Issue) (table : Table) (d : Done) (v x : ℕ)
    → Did (λ name. loaded name old.heap v x) d new.heap → ArePeerRows old sorts issued table → ArePeerRows new sorts issued table
load-keeps old new sorts issued table d v x did kept = ArePeerRows-marked old new sorts issued table
    (did-fields (λ name. loaded name old.heap v x) d old.heap new.heap did (read-fields peer_name old.heap v (slot old.heap.statics x))) kept

pub store-keeps : (old new : HeapRows) (sorts : List Sort) (issued : List Issue) (table : Table) (d : Done) (x : ℕ) (v : Option ℕ)
    → Did (λ name. stored old.heap x v) d new.heap → ArePeerRows old sorts issued table → ArePeerRows new sorts issued table
store-keeps old new sorts issued table d x v did kept = ArePeerRows-marked old new sorts issued table
    (did-fields (λ name. stored old.heap x v) d old.heap new.heap did (stored-fields old.heap x v)) kept

pub drop-keeps : (old new : HeapRows) (sorts : List Sort) (issued : List Issue) (table : Table) (d : Done) (v : ℕ)
    → Did (λ name. dropped old.heap v) d new.heap → ArePeerRows old sorts issued table → ArePeerRows new sorts issued table
drop-keeps old new sorts issued table d v did kept = ArePeerRows-marked old new sorts issued table (did-fields (λ name. dropped old.heap v) d old.heap new.heap did refl) kept

pub set-keeps : (old new : HeapRows) (sorts : List Sort) (issued : List Issue) (table : Table) (d : Done) (v i : ℕ) (w : Option ℕ)
    → Did (λ name. field_set old.heap v i w) d new.heap → ArePeerRows old sorts issued table → ArePeerRows new sorts issued table
set-keeps old new sorts issued table d v i w did kept =
    let like = field_set-like old.heap v i w kept.short in
    let same = ap (λ (a : Answered Heap). a.state) (did peer_name) in
    record {
      rising = kept.rising;
      places = kept.places;
      rows_issued = kept.rows_issued;
      sorted = kept.sorted ∙ (sym like.1 ∙ ap (λ (h : Heap). length h.fields) same);
      short = subst AreShort same like.0;
    }

-- a further peer has a sort, and 255 fields at most
pub new-keeps : (old new : HeapRows) (sorts after : List Sort) (sort : Sort) (issued : List Issue) (table : Table) (n : ℕ)
    → n ≤ 255 → new.heap.fields ≡ (with_object old.heap n).fields → after ≡ sorts ++ sort ∷ []
    → ArePeerRows old sorts issued table → ArePeerRows new after issued table
new-keeps old new sorts after sort issued table n le grown more kept = record {
  rising = kept.rising;
  places = kept.places;
  rows_issued = kept.rows_issued;
  sorted = omega (arith, kept.sorted, ap length grown, length-append old.heap.fields (replicate n None ∷ []), ap length more, length-append sorts (sort ∷ []));
  short = subst (λ fs. All IsShort fs) (sym grown) (short-object old.heap n le kept.short);
}
