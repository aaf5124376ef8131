-- The parts of the peers fit as before where only marks, links or freed peers differ.
use Rattle.std.proofs.Common.{◌≡◌, ℕ, ◌-◌, ◌∙◌, List, map, length, take, drop, Option, sym, ap, subst, arith}
use Rattle.std.proofs.lemmas.List.{drop-map, length-drop, length-map, take_all}
use Rattle.joint_machine.specs.declared.names.PNum.{PNum}
use Rattle.joint_machine.specs.Histories.{peer_numbers}
use Rattle.joint_machine.specs.PeerReplay.{TableRow}
use Rattle.joint_machine.specs.declared.names.Sort.{Sort}
use Rattle.global_handles.specs.Rows.{Table, IsRising, row_in}
use Rattle.row_heap.specs.Rows.{HeapRows}
use Rattle.peer_heap.specs.declared.issues.Issue.{Issue}
use Rattle.peer_heap.specs.Marking.{cleared_on}
use Rattle.peer_heap.specs.Rows.{AreShort, ArePeerRows, Rows, issued_as, rows_with, table_to}
use Rattle.peer_heap.proofs.Clearing.{issued-cleared}

pub ArePeerRows-marked : (v w : HeapRows) (sorts : List Sort) (issued : List Issue) (table : Table)
    → w.heap.fields ≡ v.heap.fields → ArePeerRows v sorts issued table → ArePeerRows w sorts issued table
ArePeerRows-marked v w sorts issued table same a = record {
  rising = a.rising;
  places = a.places;
  rows_issued = a.rows_issued;
  sorted = a.sorted ∙ ap length (sym same);
  short = subst (λ fs. AreShort (record v.heap { fields = fs })) (sym same) a.short;
}

-- and where handles on some peers were cleared
pub ArePeerRows-cleared : (v w : HeapRows) (sorts : List Sort) (issued : List Issue) (old new : Table) (xs : List ℕ)
    → w.heap.fields ≡ v.heap.fields → new.rows ≡ map (cleared_on xs) old.rows → new.last ≡ old.last → IsRising new
    → ArePeerRows v sorts issued old → ArePeerRows w sorts issued new
ArePeerRows-cleared v w sorts issued old new xs same rows last rising a = record {
  rising = rising;
  places = last ∙ a.places;
  rows_issued = λ h r at. issued-cleared xs old.rows issued a.rows_issued h r (ap (λ l. row_in l h) (sym rows) ∙ at);
  sorted = a.sorted ∙ ap length (sym same);
  short = subst (λ fs. AreShort (record v.heap { fields = fs })) (sym same) a.short;
}

-- the end of the list of freed peers, as numbers
pub freed-end : (before after : List PNum) (old new : List ℕ) → peer_numbers before ≡ old → peer_numbers after ≡ new
    → peer_numbers (take (length after - length before) (drop (length before) after)) ≡ drop (length old) new
freed-end before after old new b a =
    let whole : take (length after - length before) (drop (length before) after) ≡ drop (length before) after = take_all
    (length after - length before) (drop (length before) after) (omega (arith, length-drop (length before) after)) in
    let count : length before ≡ length old = sym (length-map before (λ (p : PNum). p.0)) ∙ ap length b in
    ap peer_numbers whole ∙ (sym (drop-map (λ (p : PNum). p.0) (length before) after) ∙ (ap (drop (length before)) a ∙ ap (λ n. drop n new) count))

-- the parts as they are seen
pub rows-as : (v w u : HeapRows) (sorts : List Sort) (names : List (Option ℕ)) (issued : List Issue) (old new : Table) (table : List (Option TableRow))
    → w ≡ u → new.made ≡ old.made → table_to new.rows new.last ≡ table → length new.rows ≡ length old.rows
    → rows_with w sorts names issued new ≡ record (rows_with v sorts names issued old) { rows = u; table = table }
rows-as v w u sorts names issued old new table e made t n =
    ap (λ (z : HeapRows). let q : Rows = record { rows = z; sorts = sorts; names = names; issued = map issued_as issued; made = new.made; table = table_to new.rows new.last; tabled = length new.rows }
    in q) e
    ∙ (ap (λ (z : ℕ). let q : Rows = record { rows = u; sorts = sorts; names = names; issued = map issued_as issued; made = z; table = table_to new.rows new.last; tabled = length new.rows } in q) made
    ∙ (ap (λ (z : List (Option TableRow)). let q : Rows = record { rows = u; sorts = sorts; names = names; issued = map issued_as issued; made = old.made; table = z; tabled = length new.rows } in q) t
    ∙ ap (λ (z : ℕ). let q : Rows = record { rows = u; sorts = sorts; names = names; issued = map issued_as issued; made = old.made; table = table; tabled = z } in q) n))
