-- A further peer, alone or with a handle on it: what fits before fits after, the replay makes it too, and it has its
-- mark.
use Rattle.std.proofs.Common.{◌≡◌, ℕ, ◌+◌, ◌<◌, ◌≤◌, ◌||◌, true, false, List, [], ◌∷◌, ◌++◌, length, Option, Some, refl, sym, ap, subst, ◌∙◌, arith, length-append}
use Rattle.std.proofs.lemmas.List.{length-map}
use Rattle.joint_machine.specs.declared.names.HNum.{HNum}
use Rattle.joint_machine.specs.declared.names.PNum.{PNum}
use Rattle.joint_machine.specs.declared.names.Sort.{Sort}
use Rattle.joint_machine.specs.declared.names.Sort.TheVariants.{Framework}
use Rattle.joint_machine.specs.declared.events.Reply.TheVariants as says
use Rattle.joint_machine.specs.Heaps.{Heap, is_full, next_number, with_object, with_var}
use Rattle.joint_machine.specs.Peers.{handles_full, pair_made, peer_made}
use Rattle.global_handles.specs.declared.Hold.TheVariants.{Held}
use Rattle.global_handles.specs.declared.Strength.TheVariants.{Strong}
use Rattle.global_handles.specs.Rows.{Table, IsRising, fresh_row}
use Rattle.row_heap.specs.Rows.{HeapRows}
use Rattle.peer_heap.specs.declared.issues.Issue.{Issue}
use Rattle.peer_heap.specs.Marks.{AreMarksSame, IsMarkedToo}
use Rattle.peer_heap.specs.Rows.{Rows, PeersAnswer, ArePeerRows, peers_in, rows_with, issued_as}
use Rattle.peer_heap.proofs.Events.{answers-pair, answers-still}
use Rattle.peer_heap.proofs.Handles.{rows-issued, AreRowsIssued-pushed}
use Rattle.peer_heap.proofs.Lengths.{new-keeps}
use Rattle.peer_heap.proofs.Marks.{marked-too}

-- the heap with a further object, as it is made
abbrev pub with_new : HeapRows → ℕ → HeapRows
with_new v n = record v { heap = with_object v.heap n; marks = v.marks ++ true ∷ []; links = v.links ++ 0 ∷ [] }

-- a handle came last, among those issued and in the table
pub record IsIssued (issued after : List Issue) (old new : Table) (i : Issue) (h : HNum) : Type 0 where
  pub number : h.0 ≡ old.last + 1
  pub rows : new.rows ≡ old.rows ++ fresh_row h i.peer i.hold i.strength ∷ []
  pub made : new.made ≡ old.made + 1
  pub last : new.last ≡ old.last + 1
  pub rising : IsRising new
  pub more : after ≡ issued ++ i ∷ []

-- the same where room was taken first
pub issued-reserved : (issued mid after : List Issue) (old ready new : Table) (i : Issue) (h : HNum) → mid ≡ issued
    → ready ≡ record old { room = 1 } → IsIssued mid after ready new i h → IsIssued issued after old new i h
issued-reserved issued mid after old ready new i h e r w = record {
  number = w.number ∙ ap (λ (t : Table). t.last + 1) r;
  rows = w.rows ∙ ap (λ (t : Table). t.rows ++ fresh_row h i.peer i.hold i.strength ∷ []) r;
  made = w.made ∙ ap (λ (t : Table). t.made + 1) r;
  last = w.last ∙ ap (λ (t : Table). t.last + 1) r;
  rising = w.rising;
  more = w.more ∙ ap (λ z. z ++ i ∷ []) e;
}

-- a further peer fits
pub peer-fits : (old mid new : HeapRows) (h : Heap) (sorts after : List Sort) (sort : Sort) (issued : List Issue) (table : Table) (n : ℕ)
    → n < 256 → mid ≡ with_new old n → new ≡ record mid { heap = h } → h.fields ≡ mid.heap.fields → after ≡ sorts ++ sort ∷ []
    → ArePeerRows old sorts issued table → ArePeerRows new after issued table
peer-fits old mid new h sorts after sort issued table n short made named same more kept =
    new-keeps old new sorts after sort issued table n (omega (arith, short)) (ap (λ (v : HeapRows). v.heap.fields) named ∙ (same ∙ ap (λ (v : HeapRows). v.heap.fields) made)) more kept

-- and so does one with a handle
pub pair-fits : (old new : HeapRows) (sorts after : List Sort) (sort : Sort) (issued further : List Issue) (table table' : Table) (i : Issue) (h : HNum) (n : ℕ)
    → n < 256 → new ≡ with_new old n → after ≡ sorts ++ sort ∷ [] → IsIssued issued further table table' i h
    → ArePeerRows old sorts issued table → ArePeerRows new after further table'
pair-fits old new sorts after sort issued further table table' i h n short made more w kept =
    let grown = peer-fits old new new new.heap sorts after sort issued table n short made refl refl more kept in
    record {
      rising = w.rising;
      places = omega (arith, w.last, kept.places, ap length w.more, length-append issued (i ∷ []));
      rows_issued = AreRowsIssued-pushed issued further table table' i h w.more w.number w.rows kept.places kept.rising kept.rows_issued;
      sorted = grown.sorted;
      short = grown.short;
    }

-- it has its mark
pub further-marked : (v : Rows) (old mid new : HeapRows) (h : Heap) (sorts : List Sort) (names : List (Option ℕ)) (issued : List Issue) (table : Table) (x n : ℕ)
    → rows_with old sorts names issued table ≡ v → x ≡ next_number old.heap → length old.marks ≡ length old.heap.fields + 1
    → mid ≡ with_new old n → new ≡ record mid { heap = h } → IsMarkedToo v.rows new x
further-marked v old mid new h sorts names issued table x n view number len made named =
    subst (λ (z : Rows). IsMarkedToo z.rows new x) view
    (marked-too old new x number len (ap (λ (z : HeapRows). z.refs) named ∙ ap (λ (z : HeapRows). z.refs) made) (ap (λ (z : HeapRows). z.follows) named ∙ ap (λ (z : HeapRows). z.follows) made)
    (ap (λ (z : HeapRows). z.room) named ∙ ap (λ (z : HeapRows). z.room) made) (ap (λ (z : HeapRows). z.temps) named ∙ ap (λ (z : HeapRows). z.temps) made)
    (ap (λ (z : HeapRows). z.marks) named ∙ ap (λ (z : HeapRows). z.marks) made) (ap (λ (z : HeapRows). z.links) named ∙ ap (λ (z : HeapRows). z.links) made))

-- the replay makes the peer, which the variable names
pub peer-answers : (v : Rows) (old mid new : HeapRows) (sorts after : List Sort) (names : List (Option ℕ)) (issued : List Issue) (table : Table) (p : PNum) (at n : ℕ)
    → rows_with old sorts names issued table ≡ v → is_full old.heap.fields ≡ false → p.0 ≡ next_number old.heap
    → mid ≡ with_new old n → new ≡ record mid { heap = with_var mid.heap at (Some p.0) } → after ≡ sorts ++ Framework ∷ []
    → PeersAnswer v (peer_made (peers_in v) at n) (says.P p) (rows_with new after names issued table)
peer-answers v old mid new sorts after names issued table p at n view room number made named more =
    let before : Rows = rows_with old sorts names issued table in
    let peer : p ≡ record { 0 = next_number old.heap } = ap (λ (m : ℕ). (let q : PNum = record { 0 = m } in q)) number in
    let grown : new.heap ≡ with_var (with_object old.heap n) at (Some p.0) = ap (λ (z : HeapRows). z.heap) named ∙ ap (λ (z : HeapRows). with_var z.heap at (Some p.0)) made in
    subst (λ (z : Rows). PeersAnswer z (peer_made (peers_in z) at n) (says.P p) (rows_with new after names issued table)) view
    (answers-still before (rows_with new after names issued table) (peer_made (peers_in before) at n) (says.P p) (rw (room, grown, more, peer) refl) refl refl)

-- the replay makes the pair
pub pair-answers : (v : Rows) (old new : HeapRows) (sorts after : List Sort) (sort : Sort) (names : List (Option ℕ)) (issued further : List Issue) (table table' : Table) (p : PNum) (h : HNum) (n : ℕ)
    → rows_with old sorts names issued table ≡ v
    → (is_full v.rows.heap.fields || handles_full (peers_in v)) ≡ false → p.0 ≡ next_number old.heap → new ≡ with_new old n → after ≡ sorts ++ sort ∷ []
    → IsIssued issued further table table' record { peer = p; hold = Held; strength = Strong } h → ArePeerRows old sorts issued table
    → PeersAnswer v (pair_made (peers_in v) sort n) (says.Made p h) (rows_with new after names further table')
pair-answers v old new sorts after sort names issued further table table' p h n view left number made more w kept =
    let old-rows : Rows = rows_with old sorts names issued table in
    let seen = rows-issued new after names issued further table table' record { peer = p; hold = Held; strength = Strong } h w.more w.number w.rows w.made w.last kept.rising in
    let next : h.0 ≡ length old-rows.issued + 1 = omega (arith, w.number, kept.places, length-map issued issued_as) in
    subst (λ (z : Rows). (is_full z.rows.heap.fields || handles_full (peers_in z)) ≡ false → PeersAnswer z (pair_made (peers_in z) sort n) (says.Made p h) (rows_with new after names further table'))
    view
    (λ room. subst (λ (z : Rows). PeersAnswer old-rows (pair_made (peers_in old-rows) sort n) (says.Made p h) z) (sym seen)
    (answers-pair old-rows new after sort n p h room number next (ap (λ (z : HeapRows). z.heap) made) more))
    left

-- where room alone was taken, all fits as before
pub ready-fits : (v : HeapRows) (sorts : List Sort) (issued : List Issue) (table : Table) → ArePeerRows v sorts issued table → ArePeerRows v sorts issued (record table { room = 1 })
ready-fits v sorts issued table a = record { rising = a.rising; places = a.places; rows_issued = a.rows_issued; sorted = a.sorted; short = a.short }

-- the table has as many handles as before, or one more
pub tabled-still : (v : Rows) (old : HeapRows) (sorts : List Sort) (names : List (Option ℕ)) (issued : List Issue) (table ready : Table)
    → rows_with old sorts names issued table ≡ v → ready.rows ≡ table.rows → length ready.rows ≤ v.tabled + 1
tabled-still v old sorts names issued table ready view same = omega (arith, ap length same, ap (λ (z : Rows). z.tabled) view)

pub tabled-more : (v : Rows) (old : HeapRows) (sorts : List Sort) (names : List (Option ℕ)) (issued after : List Issue) (table new : Table) (i : Issue) (h : HNum)
    → rows_with old sorts names issued table ≡ v → IsIssued issued after table new i h → length new.rows ≤ v.tabled + 1
tabled-more v old sorts names issued after table new i h view w = omega
    (arith, ap length w.rows, length-append table.rows (fresh_row h i.peer i.hold i.strength ∷ []), ap (λ (z : Rows). z.tabled) view)

-- where the rows of the heap are as before, so are their marks
pub marks-same : (old new : HeapRows) → new ≡ old → AreMarksSame old new
marks-same old new e = subst (λ (z : HeapRows). AreMarksSame old z) (sym e) refl
