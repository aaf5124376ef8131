-- The row of one handle changes, and the table shows at its number what the definition has there.
use Rattle.std.proofs.Common.{◌≡◌, ◌≢◌, ◌↔◌, ◌+◌, ℕ, inl, inr, Bool, true, false, List, [], ◌∷◌, ◌++◌, length, length-append, Option, Some, None, refl, sym, ap, subst, ◌∙◌, arith}
use Rattle.std.specs.Option.{option_and_then, option_map}
use Rattle.std.specs.Prelude.{if◌then◌else◌, ◌==◌}
use Rattle.std.proofs.lemmas.Bool.{cases_eq}
use Rattle.std.proofs.lemmas.List.{length-map}
use Rattle.std.proofs.lemmas.Option.{none-some, same_Some}
use Rattle.joint_machine.specs.declared.names.HNum.{HNum}
use Rattle.joint_machine.specs.declared.names.PNum.{PNum}
use Rattle.joint_machine.specs.declared.names.Sort.{Sort}
use Rattle.joint_machine.specs.Heaps.{IsLive, numbered_at, numbered_set}
use Rattle.joint_machine.specs.Peers.{peer_of, strong, weak}
use Rattle.joint_machine.specs.PeerReplay.{TableRow, opening_peer_replay, table_target}
use Rattle.joint_machine.proofs.Deciding.{true_false}
use Rattle.global_handles.specs.declared.Back.{Back}
use Rattle.global_handles.specs.declared.Back.TheVariants.{Alive, Cleared}
use Rattle.global_handles.specs.declared.HandleRow.{HandleRow}
use Rattle.global_handles.specs.declared.Hold.TheVariants.{Held}
use Rattle.global_handles.specs.declared.Strength.{Strength}
use Rattle.global_handles.specs.declared.Strength.TheVariants.{Strong, Weak}
use Rattle.global_handles.specs.Rows.{Table, IsRising, changed, cleared_in, fresh_row, is_alive, peer_in, renewed, renewed_rows, row_in, strength_in, target_in, with_strength, without}
use Rattle.global_handles.proofs.Lookups.{row_in-changed_same, row_in-changed_other}
use Rattle.row_marking.specs.Traces.{Greyed}
use Rattle.row_heap.specs.Rows.{HeapRows}
use Rattle.peer_heap.specs.declared.issues.Issue.{Issue}
use Rattle.peer_heap.specs.Marks.{IsShaded}
use Rattle.peer_heap.specs.Mirroring.{IsRemoved, IsRenewed, RestoresHandle, RestoresRow, row_at, strong_row, weak_row, with_row}
use Rattle.peer_heap.specs.Rows.{AreRowsIssued, AreTargetsLive, Rows, issued_as, row_as, rows_with, strength_as, table_to, with_rows}
use Rattle.global_handles.proofs.Rows.{length-without}
use Rattle.peer_heap.proofs.Handles.{peer_of-issued, row-shown, rows-removed, rows-renewed, table_to-set}

-- what the replay shows of a handle is its row
module _ (rows : HeapRows) (sorts : List Sort) (names : List (Option ℕ)) (issued : List Issue) (table : Table) (h : HNum) (rises : IsRising table) where
  pub row-seen : row_at (rows_with rows sorts names issued table) h.0 ≡ option_map row_as (row_in table.rows h)
  row-seen = row-shown table.rows h.0 table.last rises

  seen-some : (o : Option HandleRow) (row : TableRow) → option_map row_as o ≡ Some row → (r : HandleRow) × (o ≡ Some r) × (row_as r ≡ row)
  seen-some None row e = absurd (none-some row e)
  seen-some (Some r) row e = (r, refl, same_Some (row_as r) row e)

  pub row-there : (row : TableRow) → row_at (rows_with rows sorts names issued table) h.0 ≡ Some row → (r : HandleRow) × (row_in table.rows h ≡ Some r) × (row_as r ≡ row)
  row-there row e = seen-some (row_in table.rows h) row (sym row-seen ∙ e)

-- a strength is that of the definition
pub strong-as : (s : Strength) → strength_as s ≡ strong → s ≡ Strong
strong-as Strong e = refl
strong-as Weak e = absurd (let f : weak ≡ strong = e in cc)

-- the row of one handle is another now
pub rows-set : (rows : HeapRows) (sorts : List Sort) (names : List (Option ℕ)) (issued : List Issue) (old new : Table) (h : ℕ) (x : Option TableRow)
    → ((k : ℕ) → k ≢ h → row_in new.rows record { 0 = k } ≡ row_in old.rows record { 0 = k }) → option_map row_as (row_in new.rows record { 0 = h }) ≡ x
    → new.made ≡ old.made → new.last ≡ old.last → length new.rows ≡ length old.rows
    → rows_with rows sorts names issued new ≡ record (rows_with rows sorts names issued old) { table = numbered_set (table_to old.rows old.last) h x }
rows-set rows sorts names issued old new h x others here made last count =
    let shown : table_to new.rows new.last ≡ numbered_set (table_to old.rows old.last) h x = ap (table_to new.rows) last ∙ table_to-set old.rows new.rows h old.last x others here in
    ap (λ (k : ℕ). record (rows_with rows sorts names issued old) { made = k; table = table_to new.rows new.last; tabled = length new.rows }) made
    ∙ (ap (λ (t : List (Option TableRow)). record (rows_with rows sorts names issued old) { table = t; tabled = length new.rows }) shown
    ∙ ap (λ (n : ℕ). record (rows_with rows sorts names issued old) { table = numbered_set (table_to old.rows old.last) h x; tabled = n }) count)

-- its strength is another
module _ (s : Strength) (old new : Table) (h : HNum) (r : HandleRow) (at : row_in old.rows h ≡ Some r) (put : new.rows ≡ changed (with_strength s) h old.rows) where
  pub reset-seen : row_in new.rows h ≡ Some (with_strength s r)
  reset-seen = ap (λ l. row_in l h) put ∙ row_in-changed_same (with_strength s) old.rows h r (λ x. refl) at

  reset-other : (k : ℕ) → k ≢ h.0 → row_in new.rows record { 0 = k } ≡ row_in old.rows record { 0 = k }
  reset-other k apart = ap (λ l. row_in l record { 0 = k }) put ∙ row_in-changed_other (with_strength s) old.rows h record { 0 = k } (λ x. refl) apart

  pub rows-reset : (rows : HeapRows) (sorts : List Sort) (names : List (Option ℕ)) (issued : List Issue) → new.made ≡ old.made → new.last ≡ old.last
      → rows_with rows sorts names issued new ≡ record (rows_with rows sorts names issued old) { table = numbered_set (table_to old.rows old.last) h.0 (Some (row_as (with_strength s r))) }
  rows-reset rows sorts names issued made last =
      rows-set rows sorts names issued old new h.0 (Some (row_as (with_strength s r))) reset-other (ap (option_map row_as) reset-seen) made last
      (ap length put ∙ length-map old.rows (λ (x : HandleRow). if h.0 == x.number.0 then with_strength s x else x))

  -- and each row still has the peer of its handle
  pub issued-reset : (issued : List Issue) → AreRowsIssued old.rows issued → AreRowsIssued new.rows issued
  issued-reset issued all k q there = elim (cases_eq k.0 h.0) [
    | inl same ↦
        let k-is : k ≡ h = ap (λ (m : ℕ). (let z : HNum = record { 0 = m } in z)) same in
        let is : with_strength s r ≡ q = same_Some (with_strength s r) q (sym reset-seen ∙ (ap (row_in new.rows) (sym k-is) ∙ there)) in
        let found = all h r at in
        (found.0, ap (λ (z : HNum). numbered_at issued z.0) k-is ∙ found.1, found.2 ∙ ap (λ (z : HandleRow). z.peer) is)
    | inr other ↦ all k q (sym (reset-other k.0 other) ∙ there)
  ]

-- a strong handle is weak from then on
weak-as : (r : HandleRow) → row_as r ≡ strong_row → row_as (with_strength Weak r) ≡ weak_row
weak-as r e = ap (λ (b : Bool). (let t : TableRow = record { strength = weak; cleared = b } in t)) (ap (λ (t : TableRow). t.cleared) e)

pub weakened-strong : (rows : HeapRows) (sorts : List Sort) (names : List (Option ℕ)) (issued : List Issue) (table : Table) (h : HNum)
    → IsRising table → row_at (rows_with rows sorts names issued table) h.0 ≡ Some strong_row → strength_in table.rows h ≡ Some Strong
weakened-strong rows sorts names issued table h rises shown =
    let there = row-there rows sorts names issued table h rises strong_row shown in
    ap (option_map (λ (r : HandleRow). r.strength)) there.1 ∙ ap (λ (s : Strength). Some s) (strong-as there.0.strength (ap (λ (t : TableRow). t.strength) there.2))

pub rows-weakened : (rows : HeapRows) (sorts : List Sort) (names : List (Option ℕ)) (issued : List Issue) (old new : Table) (h : HNum) → IsRising old
    → row_at (rows_with rows sorts names issued old) h.0 ≡ Some strong_row → new.rows ≡ changed (with_strength Weak) h old.rows → new.made ≡ old.made → new.last ≡ old.last
    → rows_with rows sorts names issued new ≡ with_row (rows_with rows sorts names issued old) h.0 weak_row
rows-weakened rows sorts names issued old new h rises shown put made last =
    let there = row-there rows sorts names issued old h rises strong_row shown in
    rows-reset Weak old new h there.0 there.1 put rows sorts names issued made last ∙ ap (λ (t : TableRow). with_row (rows_with rows sorts names issued old) h.0 t) (weak-as there.0 there.2)

-- one that is alive has a number, and another one is cleared
pub is-given : (back : Back) → is_alive back ≡ true → (g : HNum) × (back ≡ Alive g)
is-given Cleared e = absurd (true_false (sym e))
is-given (Alive g) e = (g, refl)

pub is-cleared : (back : Back) → is_alive back ≡ false → back ≡ Cleared
is-cleared Cleared e = refl
is-cleared (Alive g) e = absurd (true_false e)

-- whether a row of the table is cleared
pub cleared-told : (rows : List HandleRow) (h : HNum) (r : HandleRow) → row_in rows h ≡ Some r → cleared_in rows h ≡ Some true → r.cleared ≡ true
cleared-told rows h r at e = same_Some r.cleared true (sym (ap (option_map (λ (q : HandleRow). q.cleared)) at) ∙ e)

-- one that was given again isn't
pub kept-told : (rows : List HandleRow) (h : HNum) (r : HandleRow) (back : Back) → row_in rows h ≡ Some r → is_alive back ≡ true
    → (back ≡ Cleared) ↔ (cleared_in rows h ≡ Some true) → r.cleared ≡ false
kept-told rows h r back at alive says = by r.cleared refl
  where
    by : (b : Bool) → r.cleared ≡ b → r.cleared ≡ false
    by true e = absurd (true_false (sym alive ∙ ap is_alive (says.1 (ap (option_map (λ (q : HandleRow). q.cleared)) at ∙ ap (λ (b : Bool). Some b) e))))
    by false e = e

-- the peer of a row
pub peer-told : (rows : List HandleRow) (h : HNum) (r : HandleRow) (p : PNum) → row_in rows h ≡ Some r → peer_in rows h ≡ Some p → r.peer ≡ p
peer-told rows h r p at e = same_Some r.peer p (sym (ap (option_map (λ (q : HandleRow). q.peer)) at) ∙ e)

-- where a row leads
abbrev led-by : HandleRow → Option PNum
led-by r = if r.cleared then None else Some r.peer

-- a row that is renewed comes last
pub renewed-put : (rows : List HandleRow) (h g : HNum) (r : HandleRow) → row_in rows h ≡ Some r → r.cleared ≡ false → renewed h g rows ≡ without h rows ++ fresh_row g r.peer Held Strong ∷ []
renewed-put rows h g r at kept =
    let leads : target_in rows h ≡ Some r.peer = ap (option_and_then led-by) at ∙ ap (λ (b : Bool). (let o : Option PNum = if b then None else Some r.peer in o)) kept in
    ap (λ o. without h rows ++ renewed_rows g o) leads

-- a cleared handle is removed
pub removed-row : (rows : HeapRows) (sorts : List Sort) (names : List (Option ℕ)) (issued : List Issue) (old new : Table) (h : HNum) (r : HandleRow)
    → IsRising old → row_in old.rows h ≡ Some r → r.cleared ≡ true → new.rows ≡ without h old.rows → new.made ≡ old.made → new.last ≡ old.last
    → IsRemoved (rows_with rows sorts names issued old) h.0 (rows_with rows sorts names issued new)
removed-row rows sorts names issued old new h r rises at cleared left made last = record {
  row = row_as r;
  tabled = row-seen rows sorts names issued old h rises ∙ ap (option_map row_as) at;
  cleared = cleared;
  rest = rows-removed rows sorts names issued old new h left made last;
  fewer = omega (arith, ap length left, length-without 0 old.last old.rows h r rises at);
}

-- another one is removed, and one on its peer comes in its place
pub renewed-row : (rows : HeapRows) (sorts : List Sort) (names : List (Option ℕ)) (issued after : List Issue) (old new : Table) (h g : HNum) (r : HandleRow)
    → IsRising old → AreRowsIssued old.rows issued → old.last ≡ length issued → row_in old.rows h ≡ Some r → r.cleared ≡ false
    → after ≡ issued ++ record { peer = r.peer; hold = Held; strength = Strong } ∷ [] → new.rows ≡ renewed h g old.rows → g.0 ≡ old.last + 1
    → new.made ≡ old.made → new.last ≡ old.last + 1 → IsRenewed (rows_with rows sorts names issued old) h.0 g (rows_with rows sorts names after new)
renewed-row rows sorts names issued after old new h g r rises own places at kept e put number made last =
    let found = own h r at in
    let leads : target_in old.rows h ≡ Some r.peer = ap (option_and_then led-by) at ∙ ap (λ (b : Bool). (let o : Option PNum = if b then None else Some r.peer in o)) kept in
    let all : new.rows ≡ without h old.rows ++ fresh_row g r.peer Held Strong ∷ [] = put ∙ ap (λ o. without h old.rows ++ renewed_rows g o) leads in
    let count : length new.rows ≡ length old.rows = omega (
      arith,
      ap length all,
      length-append (without h old.rows) (fresh_row g r.peer Held Strong ∷ []),
      length-without 0 old.last old.rows h r rises at,
    ) in
    record {
      row = row_as r;
      tabled = row-seen rows sorts names issued old h rises ∙ ap (option_map row_as) at;
      kept = kept;
      peer = r.peer.0;
      issued = peer_of-issued issued h.0 found.0 found.1 ∙ ap (λ (q : PNum). Some q.0) found.2;
      number = omega (arith, number, places, length-map issued issued_as);
      rest = rows-renewed rows sorts names issued after old new h g r.peer e leads number put made last rises count;
    }

-- one that is renewed leads to its peer
pub renewed-leads : (old mid : Rows) (h : ℕ) (g : HNum) (r : IsRenewed old h g mid) → table_target (with_rows opening_peer_replay old) h ≡ Some r.peer
renewed-leads old mid h g r =
    ap (λ (o : Option TableRow). elim o [ None ↦ None | Some z ↦ if z.cleared then None else peer_of old.issued h ]) r.tabled
    ∙ (ap (λ (b : Bool). if b then None else peer_of old.issued h) r.kept ∙ r.issued)

-- which is live
pub peer-live : (old mid : Rows) (h p : ℕ) (back : Back) → is_alive back ≡ true → AreTargetsLive old → peer_of old.issued h ≡ Some p → RestoresRow old h back mid → IsLive mid.rows.heap p
peer-live old mid h p Cleared e live own r = absurd (true_false (sym e))
peer-live old mid h p (Alive g) e live own r =
    subst (λ (v : HeapRows). IsLive v.heap p) (sym r.1) (live h p (renewed-leads old mid h g r.0 ∙ (sym r.0.issued ∙ own)))

-- one that is cleared is removed
pub restored-gone : (b : Bool) (old mid : Rows) (head h : ℕ) (back : Back) → is_alive back ≡ false → RestoresRow old h back mid → RestoresHandle b old head h back mid head
restored-gone b old mid head h Cleared e r = (r, refl)
restored-gone b old mid head h (Alive g) e r = absurd (true_false e)

-- the peer of another one is shaded
pub restored-alive : (b : Bool) (old mid new : Rows) (before after h p : ℕ) (back : Back) → is_alive back ≡ true → peer_of old.issued h ≡ Some p → RestoresRow old h back mid
    → new ≡ record mid { rows = record mid.rows { marks = new.rows.marks; links = new.rows.links } }
    → Greyed (λ k. (b ≡ true) × (k ≡ p)) mid.rows.marks mid.rows.links before new.rows.marks new.rows.links after → RestoresHandle b old before h back new after
restored-alive b old mid new before after h p Cleared e own r is shaded = absurd (true_false (sym e))
restored-alive b old mid new before after h p (Alive g) e own (was, same) is shaded =
    let peer : p ≡ was.peer = same_Some p was.peer (sym own ∙ was.issued) in
    let rows : new.rows ≡ record mid.rows { marks = new.rows.marks; links = new.rows.links } = ap (λ (z : Rows). z.rows) is in
    let renewed-one : IsRenewed old h g new = record {
      row = was.row;
      tabled = was.tabled;
      kept = was.kept;
      peer = was.peer;
      issued = was.issued;
      number = was.number;
      rest = is ∙ ap (λ (z : Rows). record z { rows = record z.rows { marks = new.rows.marks; links = new.rows.links } }) was.rest;
    } in
    let seen : IsShaded b (λ k. k ≡ was.peer) old.rows before new.rows after = record {
      refs = ap (λ (v : HeapRows). v.refs) rows ∙ ap (λ (v : HeapRows). v.refs) same;
      follows = ap (λ (v : HeapRows). v.follows) rows ∙ ap (λ (v : HeapRows). v.follows) same;
      room = ap (λ (v : HeapRows). v.room) rows ∙ ap (λ (v : HeapRows). v.room) same;
      temps = ap (λ (v : HeapRows). v.temps) rows ∙ ap (λ (v : HeapRows). v.temps) same;
      shaded = subst (λ (v : HeapRows). Greyed (λ k. (b ≡ true) × (k ≡ was.peer)) v.marks v.links before new.rows.marks new.rows.links after) same
          (subst (λ q. Greyed (λ k. (b ≡ true) × (k ≡ q)) mid.rows.marks mid.rows.links before new.rows.marks new.rows.links after) peer shaded);
    } in
    (renewed-one, seen)
