-- The steps on the gate word keep the rule.
use Rattle.std.proofs.Common.{◌≡◌, ◌≢◌, ⊎_elim, ℕ, ◌+◌, ◌-◌, ◌*◌, ◌/◌, ◌^◌, ◌<◌, Bool, true, false, List, [], get_or, set, refl, sym, ap, ◌∙◌, subst, arith, length-set, get_or-set_same}
use Rattle.std.proofs.Common.{get_or-set_other, eq-eqb, ne_eqb}
use Rattle.std.specs.Prelude.{◌==◌, bit_or, bit_and}
use Rattle.std.specs.Int.{bit_at}
use Rattle.std.proofs.lemmas.Bool.{cases_Bool, both_ways, eqb-true, eqb-false}
use Rattle.std.proofs.lemmas.Nat.Bits.{bit_at-zero}
use mathlib.Core.Option.{none, some}
use lib.ListN.{get_elem?}
use prog.Atomic.{either}
use Rattle.atomic_table.specs.Table.{State, Me, step, keeps, Allows}
use Rattle.order_table.specs.declared.views.View.{View}
use Rattle.order_table.specs.Rows.{at}
use Rattle.order_table.specs.Stages.{stage, IsClosed}
use Rattle.order_table.specs.Views.{known, Owns, IsNext, IsEnded, entered}
use Rattle.order_table.specs.Allowed.{NoDebt}
use Rattle.order_table.specs.Rule.{Pinned, Scans, Debts, EachLoad, Celled, IsDue, Waits, Waiting, of_line, Knows, HasBit, Gates, IsHeldFor, Ordered}
use Rattle.order_table.specs.Tells.{Entered, GaveBack, Left, Closed, Opened}
use Rattle.order_table.proofs.Free.{Free}
use Rattle.order_table.proofs.Gate.{or_gate, or_keeps, or_sets, clear_keeps, clear_gate, open_gate, open_keeps, stage_begins, no_bit, if_true, if_false, others_stage, gates_word, gates_cleared}
use Rattle.order_table.proofs.Pins.{pinned_keep, not_storing, no_scans}
use Rattle.order_table.proofs.Cells.{none_owed, celled_same}
use Rattle.order_table.proofs.Waits.{waits_gate, waits_found, waiting_views, waiting_closed, waiting_opened}
use Rattle.order_table.proofs.Steps.{seats, Holds, owner_set}

abbrev St : Type 0
St = State (Unit {0}) View

abbrev M : Type 0
M = Me (Unit {0}) View

-- a step on the gate word by a seat whose lists stay
gate_step : (s : St) (r : Ordered s) (id : ℕ) (v : View) → get_elem? s.views id ≡ some v → (gate word : ℕ) (w : View) → ((i : ℕ) → Holds v i → Holds w i)
    → gate < 4294967296 → word / 512 ≡ gate → IsHeldFor gate (stage (of_line 0 r.whole)) → Knows r.whole r.owner id w → Gates gate word w
    → ((j : ℕ) (u : View) → j ≢ id → get_elem? s.views j ≡ some u → Gates gate word u) → Waiting r.whole gate (set s.views id w)
    → Celled (of_line 0 r.whole) gate (set s.words 1 word) (set s.views id w) → Pinned r.whole r.owner gate word (set s.words 1 word) (set s.views id w) → Scans r.whole w
    → Ordered record { words = set s.words 1 word; homes = s.homes; views = set s.views id w }
gate_step s r id v here gate word w still small is held knows mine others waiting celled pinned scans = record {
  each_line = λ i l. owner_set s.views i (r.owner i) id v w here (still i) (r.each_line i l);
  scanned = seats (λ j. Scans r.whole) s.views id w scans (λ j u _ at_j. r.scanned j u at_j);
  pinned = subst (λ b. Pinned r.whole r.owner gate b (set s.words 1 word) (set s.views id w)) (sym same) pinned;
  celled = celled;
  waiting = waiting;
  whole = r.whole;
  owner = r.owner;
  gate = gate;
  small = small;
  words = (length-set s.words 1 word ∙ r.words.0, get_or-set_other s.words 1 0 word 0 (λ e. omega arith) ∙ r.words.1, ap (λ n. n / 512) same ∙ is);
  numbers = r.numbers;
  limit = r.limit;
  each_seat = seats (Knows r.whole r.owner) s.views id w knows (λ j u _ at_j. r.each_seat j u at_j);
  held = held;
  each_gate = subst (λ b. (j : ℕ) (v : View) → get_elem? (set s.views id w) j ≡ some v → Gates gate b v) (sym same) (seats (λ j. Gates gate word) s.views id w mine others);
}
  where
    same : get_or (set s.words 1 word) 1 0 ≡ word
    same = get_or-set_same s.words 1 word 0 (let l = r.words.0 in omega arith)

-- the same where the gate stays, and the seat waits as before
-- the cells where the gate stays, or no word is owed; the seat goes on with its debts
cells_stay : (s : St) (r : Ordered s) (id gate word : ℕ) (w : View) → ((c : ℕ) → r.celled.debt c ≡ true → 0 < r.gate → 0 < gate)
    → Debts (of_line 0 r.whole) r.celled.debt w → (0 < w.inside → EachLoad (of_line 0 r.whole) w w.loads)
    → Celled (of_line 0 r.whole) gate (set s.words 1 word) (set s.views id w)
cells_stay s r id gate word w held debts loads = celled_same (of_line 0 r.whole) r.gate gate s.words (set s.words 1 word) s.views
    (set s.views id w) r.celled (λ c. get_or-set_other s.words 1 (2 + c) word 0 (λ e. omega arith)) held
    (seats (λ j. Debts (of_line 0 r.whole) r.celled.debt) s.views id w debts (λ j u other at_j. r.celled.each_debt j u at_j))
    (seats (λ j x. 0 < x.inside → EachLoad (of_line 0 r.whole) x x.loads) s.views id w loads (λ j u other at_j. r.celled.each_load j u at_j))

-- the pins where the bits of those who owe stay, and they owe only while the gate is open
pins_stay : (s : St) (r : Ordered s) (id gate word : ℕ) (v w : View) → get_elem? s.views id ≡ some v
    → w.fill ≡ v.fill → w.empty ≡ v.empty → ((k : ℕ) → r.pinned.stores k ≡ true → (bit_at word k ≡ 1) × (gate ≡ 0))
    → Pinned r.whole r.owner gate word (set s.words 1 word) (set s.views id w)
pins_stay s r id gate word v w here fill empty bits = pinned_keep r.whole r.whole r.owner r.owner r.gate gate
    (get_or s.words 1 0) word s.words (set s.words 1 word) s.views (set s.views id w) r.pinned (λ k. refl)
    (λ k l. get_or-set_other s.words 1 (65 + k) word 0 (λ e. omega arith)) (λ k o. let t = bits k o in (t.0, t.1, refl, refl)) (λ k o. (refl, refl)) (let l = length-set s.views id w in omega arith)
    (seats (λ i x. (k : ℕ) → r.pinned.stores k ≡ true → r.owner (k + 10) ≡ i → x.fill ≡ k) s.views id w (λ k o e. fill ∙ r.pinned.filler id v here k o e) (λ i x _ at_i. r.pinned.filler i x at_i))
    (seats (λ i x. (k : ℕ) → r.pinned.clears k ≡ true → r.owner (k + 10) ≡ i → x.empty ≡ k) s.views id w (λ k o e. empty ∙ r.pinned.clearer id v here k o e) (λ i x _ at_i. r.pinned.clearer i x at_i))

still_waits : (s : St) (r : Ordered s) (id : ℕ) (w : View) → Waits r.whole r.gate w → Waiting r.whole r.gate (set s.views id w)
still_waits s r id w mine = waiting_views r.whole r.gate s.views (set s.views id w) r.waiting (seats (λ j. Waits r.whole r.gate) s.views id w mine (λ j u other at_j. r.waiting.each_wait j u at_j))

-- the owner of a line is one seat
stranger : (s : St) (r : Ordered s) (id j i : ℕ) (v u : View) → get_elem? s.views id ≡ some v → get_elem? s.views j ≡ some u → j ≢ id → Owns v i → Owns u i → ⊥
stranger s r id j i v u here there other a b = other (sym ((r.each_seat j u there).owned i b).0 ∙ ((r.each_seat id v here).owned i a).0)

heard_stranger : (s : St) (r : Ordered s) (id j i : ℕ) (v u : View) → get_elem? s.views id ≡ some v → get_elem? s.views j ≡ some u → j ≢ id → Owns v i → at false u.heard_owns i ≡ true → ⊥
heard_stranger s r id j i v u here there other a b = other (sym ((r.each_seat j u there).heard_owned i b).0 ∙ ((r.each_seat id v here).owned i a).0)

pub enters : (slots id : ℕ) (me : M) (reader : ℕ) → 0 < reader → reader < 9 → Free me.0 → Owns me.0 (1 + reader)
    → Allows Ordered slots id me 1 (λ n. bit_or n (2 ^ reader)) (Entered (step slots 1 (2 ^ reader) 0 none) me)
enters slots id me reader pos small settled owns s r _ here _ =
    let n : ℕ = get_or s.words 1 0 in
    let bit : ℕ = 2 ^ reader in
    let v : View = me.0 in
    let knows = r.each_seat id v here in
    let g = r.each_gate id v here in
    let word_is : bit_or n bit / 512 ≡ r.gate = or_gate n reader small ∙ r.words.2 in
    let has : HasBit (bit_or n bit) v.owns bit = record { reader = reader; is = refl; range = (pos, small); role = owns; set = or_sets n reader } in
    let others = λ (j : ℕ) (u : View) (other : j ≢ id) (at_j : get_elem? s.views j ≡ some u). gates_word r.gate n (bit_or n bit) u (λ k _ e. or_keeps n bit k e) (r.each_gate j u at_j) in
    let told : (0 < n / 512 → IsEnded v (n / 512) → ⊥) × (Owns v 0 → (n / 512 ≡ v.holds) × (n / 512 ≡ 0 → IsClosed (known v 0))) × (n / 512 < 4294967296) = (
      (λ l e. let w = r.words.2 in let t = others_stage r.gate n v g settled (omega arith) in omega arith),
      λ o. (r.words.2 ∙ sym (g.owner o), λ z. subst IsClosed (sym (knows.owned 0 o).1) (r.held.0 (sym r.words.2 ∙ z))),
      (let g_is = r.words.2 in let below = r.small in omega arith),
    ) in
    ⊎_elim
    (λ (e : (n / 512 == 0) ≡ true). let w : View = record v { inside = bit; loads = [] } in let is_open : r.gate ≡ 0 = sym r.words.2 ∙ eqb-true (n / 512) 0 e in (
      w,
      keeps,
      tt,
      gate_step s r id v here r.gate (bit_or n bit) w (λ i o. o) r.small word_is r.held record { begins = knows.begins; heard = knows.heard; owned = knows.owned; heard_owned = knows.heard_owned }
          record {
            owner = g.owner;
            other = g.other;
            heard_owner = g.heard_owner;
            heard_other = g.heard_other;
            inside = λ _. (has, is_open);
            owes = no_bit v.owes settled.clear;
            one = λ _. settled.clear;
          } others
          (still_waits s r id w (let t = r.waiting.each_wait id v here in record { snap = t.snap; unknown = t.unknown; over = t.over }))
          (cells_stay s r id r.gate (bit_or n bit) w (λ c o h. h) (let d = r.celled.each_debt id v here in
          record { owner = d.owner; heard_owner = d.heard_owner; secret = d.secret; heard_secret = d.heard_secret; mine = d.mine; heard_mine = d.heard_mine }) (λ l. tt))
          (pins_stay s r id r.gate (bit_or n bit) v w here refl refl (λ k o. let t = r.pinned.storing k o in (or_keeps n bit k t.2, t.3))) (r.scanned id v here),
      (refl, sym (if_true (n / 512 == 0) w (record v { owes = bit; found = n / 512 }) e), told.0, told.1, told.2),
    ))
    (λ (e : (n / 512 == 0) ≡ false). let w : View = record v { owes = bit; found = n / 512 } in (
      w,
      keeps,
      tt,
      gate_step s r id v here r.gate (bit_or n bit) w (λ i o. o) r.small word_is r.held record { begins = knows.begins; heard = knows.heard; owned = knows.owned; heard_owned = knows.heard_owned }
          record {
            owner = g.owner;
            other = g.other;
            heard_owner = g.heard_owner;
            heard_other = g.heard_other;
            inside = no_bit v.inside settled.outside;
            owes = λ _. has;
            one = no_bit v.inside settled.outside;
          } others
          (still_waits s r id w (waits_found r.whole r.gate s.views w r.waiting r.held
          (let not_open : n / 512 ≡ 0 → ⊥ = eqb-false (n / 512) 0 e in let g_is = r.words.2 in omega (arith, not_open)) r.words.2))
          (cells_stay s r id r.gate (bit_or n bit) w (λ c o h. h) (let d = r.celled.each_debt id v here in
          record { owner = d.owner; heard_owner = d.heard_owner; secret = d.secret; heard_secret = d.heard_secret; mine = d.mine; heard_mine = d.heard_mine }) (no_bit v.inside settled.outside))
          (pins_stay s r id r.gate (bit_or n bit) v w here refl refl (λ k o. let t = r.pinned.storing k o in (or_keeps n bit k t.2, t.3))) (r.scanned id v here),
      (refl, sym (if_false (n / 512 == 0) (record v { inside = bit; loads = [] }) w e), told.0, told.1, told.2),
    ))
    (cases_Bool (n / 512 == 0))

pub gives_back : (slots id : ℕ) (me : M) → 0 < me.0.owes → me.0.inside ≡ 0 → me.0.fill ≡ 0
    → Allows Ordered slots id me 1 (λ n. bit_and n (2 ^ 64 - 1 - me.0.owes)) (GaveBack (step slots 1 (2 ^ 64 - 1 - me.0.owes) 0 none) me)
gives_back slots id me owing out nothing s r _ here fits =
    let n : ℕ = get_or s.words 1 0 in
    let v : View = me.0 in
    let w : View = record v { owes = 0 } in
    let knows = r.each_seat id v here in
    let g = r.each_gate id v here in
    let has = g.owes owing in
    let k : ℕ = has.reader in
    let small = has.range.1 in
    let word_is : bit_and n (2 ^ 64 - 1 - 2 ^ k) / 512 ≡ r.gate = clear_gate n k small fits ∙ r.words.2 in (
      w,
      keeps,
      tt,
      subst (λ b. Ordered record { words = set s.words 1 (bit_and n (2 ^ 64 - 1 - b)); homes = s.homes; views = set s.views id w }) (sym has.is)
          (gate_step s r id v here r.gate (bit_and n (2 ^ 64 - 1 - 2 ^ k)) w (λ i o. o) r.small word_is r.held
          record { begins = knows.begins; heard = knows.heard; owned = knows.owned; heard_owned = knows.heard_owned }
          record { owner = g.owner; other = g.other; heard_owner = g.heard_owner; heard_other = g.heard_other; inside = no_bit v.inside out; owes = λ l. absurd (omega arith); one = λ l. refl }
          (λ j u other at_j. gates_cleared r.gate n k u small (λ o. stranger s r id j (1 + k) v u here at_j other has.role o) (r.each_gate j u at_j))
          (still_waits s r id w (let t = r.waiting.each_wait id v here in record { snap = t.snap; unknown = t.unknown; over = t.over }))
          (cells_stay s r id r.gate (bit_and n (2 ^ 64 - 1 - 2 ^ k)) w (λ c o h. h)
          (let d = r.celled.each_debt id v here in record {
            owner = d.owner;
            heard_owner = d.heard_owner;
            secret = d.secret;
            heard_secret = d.heard_secret;
            mine = d.mine;
            heard_mine = d.heard_mine;
          }) (no_bit v.inside out))
          (pins_stay s r id r.gate (bit_and n (2 ^ 64 - 1 - 2 ^ k)) v w here refl refl
          (λ j o. let t = r.pinned.storing j o in (
            clear_keeps n k j small t.1
                (λ e. not_storing r.whole r.owner r.gate n s.words s.views r.pinned id v here nothing j o (sym t.4 ∙ (ap (λ z. r.owner (1 + z)) e ∙ (knows.owned (1 + k) has.role).0))) ∙ t.2,
            t.3,
          )))
          (r.scanned id v here)),
      (refl, refl),
    )

pub leaves : (slots id : ℕ) (me : M) → 0 < me.0.inside → me.0.fill ≡ 0
    → Allows Ordered slots id me 1 (λ n. bit_and n (2 ^ 64 - 1 - me.0.inside)) (Left (step slots 1 (2 ^ 64 - 1 - me.0.inside) 0 none) me)
leaves slots id me within nothing s r _ here fits =
    let n : ℕ = get_or s.words 1 0 in
    let v : View = me.0 in
    let w : View = record v { inside = 0 } in
    let knows = r.each_seat id v here in
    let g = r.each_gate id v here in
    let has = (g.inside within).0 in
    let k : ℕ = has.reader in
    let small = has.range.1 in
    let word_is : bit_and n (2 ^ 64 - 1 - 2 ^ k) / 512 ≡ r.gate = clear_gate n k small fits ∙ r.words.2 in (
      w,
      keeps,
      tt,
      subst (λ b. Ordered record { words = set s.words 1 (bit_and n (2 ^ 64 - 1 - b)); homes = s.homes; views = set s.views id w }) (sym has.is)
          (gate_step s r id v here r.gate (bit_and n (2 ^ 64 - 1 - 2 ^ k)) w (λ i o. o) r.small word_is r.held
          record { begins = knows.begins; heard = knows.heard; owned = knows.owned; heard_owned = knows.heard_owned }
          record {
            owner = g.owner;
            other = g.other;
            heard_owner = g.heard_owner;
            heard_other = g.heard_other;
            inside = λ l. absurd (omega arith);
            owes = no_bit v.owes (g.one within);
            one = λ l. g.one within;
          }
          (λ j u other at_j. gates_cleared r.gate n k u small (λ o. stranger s r id j (1 + k) v u here at_j other has.role o) (r.each_gate j u at_j))
          (still_waits s r id w (let t = r.waiting.each_wait id v here in record { snap = t.snap; unknown = t.unknown; over = t.over }))
          (cells_stay s r id r.gate (bit_and n (2 ^ 64 - 1 - 2 ^ k)) w (λ c o h. h)
          (let d = r.celled.each_debt id v here in record {
            owner = d.owner;
            heard_owner = d.heard_owner;
            secret = d.secret;
            heard_secret = d.heard_secret;
            mine = d.mine;
            heard_mine = d.heard_mine;
          }) (λ l. absurd (omega arith)))
          (pins_stay s r id r.gate (bit_and n (2 ^ 64 - 1 - 2 ^ k)) v w here refl refl
          (λ j o. let t = r.pinned.storing j o in (
            clear_keeps n k j small t.1
                (λ e. not_storing r.whole r.owner r.gate n s.words s.views r.pinned id v here nothing j o (sym t.4 ∙ (ap (λ z. r.owner (1 + z)) e ∙ (knows.owned (1 + k) has.role).0))) ∙ t.2,
            t.3,
          )))
          (r.scanned id v here)),
      (refl, refl),
    )

-- with no bit in the word nobody is inside or owes one
no_reader : {A : Type 0} (owns : List Bool) (bit : ℕ) → HasBit 0 owns bit → A
no_reader owns bit h = absurd (let a = h.set in let b = bit_at-zero h.reader in omega arith)

pub closes : (slots id : ℕ) (me : M) (cycle : ℕ) → me.0.heard_owns ≡ [] → (me.0.heard ≡ []) × (me.0.heard_holds ≡ 0) → Owns me.0 0 → me.0.holds ≡ 0 → cycle < 4294967296 → IsNext me.0 cycle
    → Allows Ordered slots id me 1 (λ n. either (n == 0) (512 * cycle) n) (Closed cycle (step slots 1 0 (512 * cycle) none) me)
closes slots id me cycle bare bare' owns idle low next s r _ here fits =
    let n : ℕ = get_or s.words 1 0 in
    let v : View = me.0 in
    let knows = r.each_seat id v here in
    let g = r.each_gate id v here in
    let all : stage (known v 0) ≡ stage (of_line 0 r.whole) = ap stage (knows.owned 0 owns).1 in
    let start = stage_begins [] (known v 0) (known v 0, refl) in
    let n_is = r.words.2 in let g_is = g.owner owns in
    ⊎_elim
    (λ (e : (n == 0) ≡ true). let empty : n ≡ 0 = eqb-true n 0 e in let w : View = record v { holds = cycle; scanned = [] } in (
      w,
      keeps,
      tt,
      subst (λ b. Ordered record { words = set s.words 1 (either b (512 * cycle) n); homes = s.homes; views = set s.views id w }) (sym e)
          (gate_step s r id v here cycle (512 * cycle) w (λ i o. o) low (omega arith) ((λ z. absurd (omega arith)), λ z. (omega arith, omega arith))
          record { begins = knows.begins; heard = knows.heard; owned = knows.owned; heard_owned = knows.heard_owned }
          record {
            owner = λ o. refl;
            other = λ o. absurd (both_ways (at false v.owns 0) o owns);
            heard_owner = λ o. absurd (both_ways (at false v.heard_owns 0) (ap (λ l. at false l 0) bare) o);
            heard_other = λ o. (bare'.1, λ pos. let e : stage (at [] v.heard 0) ≡ 1 = ap (λ h. stage (at [] h 0)) bare'.0 in omega arith);
            inside = λ l. no_reader v.owns v.inside (subst (λ b. HasBit b v.owns v.inside) empty (g.inside l).0);
            owes = λ l. no_reader v.owns v.owes (subst (λ b. HasBit b v.owns v.owes) empty (g.owes l));
            one = g.one;
          }
          (λ j u other at_j. let h = r.each_gate j u at_j in let k = r.each_seat j u at_j in record {
            owner = λ o. absurd (stranger s r id j 0 v u here at_j other owns o);
            other = λ o. (
              (h.other o).0,
              λ z. (
                  let a = stage_begins (known u 0) (of_line 0 r.whole) (k.begins 0) in omega arith),
            );
            heard_owner = λ o. absurd (heard_stranger s r id j 0 v u here at_j other owns o);
            heard_other = λ o. ((h.heard_other o).0, λ z. let a = stage_begins (at [] u.heard 0) (of_line 0 r.whole) (k.heard 0) in omega arith);
            inside = λ l. no_reader u.owns u.inside (subst (λ b. HasBit b u.owns u.inside) empty (h.inside l).0);
            owes = λ l. no_reader u.owns u.owes (subst (λ b. HasBit b u.owns u.owes) empty (h.owes l));
            one = h.one;
          })
          (let next' : stage (of_line 0 r.whole) + 1 ≡ 2 * cycle = ap (λ z. z + 1) (sym all) ∙ next in
          let was_open : r.gate ≡ 0 = sym g_is ∙ idle in
          let none_due : (u : View) → 0 < u.found → IsDue r.gate (stage (of_line 0 r.whole)) u.found → ⊥ = λ u l due. let a = due.0 in omega arith in
          waiting_closed r.whole cycle s.views (set s.views id w) next' (subst (λ z. Waiting r.whole z s.views) was_open r.waiting)
          (seats (λ j. Waits r.whole cycle) s.views id w (let t = waits_gate r.whole r.gate cycle v (none_due v) (r.waiting.each_wait id v here) in record { snap = t.snap; unknown = t.unknown; over = t.over })
          (λ j u other at_j. waits_gate r.whole r.gate cycle u (none_due u) (r.waiting.each_wait j u at_j))))
          (cells_stay s r id cycle (512 * cycle) w (λ c o h. omega arith)
          (let d = r.celled.each_debt id v here in record {
            owner = d.owner;
            heard_owner = d.heard_owner;
            secret = d.secret;
            heard_secret = d.heard_secret;
            mine = d.mine;
            heard_mine = d.heard_mine;
          }) (λ l. no_reader v.owns v.inside (subst (λ b. HasBit b v.owns v.inside) empty (g.inside l).0)))
          (pins_stay s r id cycle (512 * cycle) v w here refl refl (λ k o. absurd
          (let t = (r.pinned.storing k o).2 in let z = bit_at-zero k in let e : bit_at n k ≡ bit_at 0 k = ap (λ b. bit_at b k) empty in omega arith))) (no_scans r.whole w refl)),
      (refl, sym (if_true (n == 0) w v e), omega arith),
    ))
    (λ (e : (n == 0) ≡ false). (
      v,
      keeps,
      tt,
      subst (λ b. Ordered record { words = set s.words 1 (either b (512 * cycle) n); homes = s.homes; views = set s.views id v }) (sym e)
          (gate_step s r id v here r.gate n v (λ i o. o) r.small n_is r.held knows g (λ j u other at_j. r.each_gate j u at_j) (still_waits s r id v (r.waiting.each_wait id v here))
          (cells_stay s r id r.gate n v (λ c o h. h) (r.celled.each_debt id v here) (r.celled.each_load id v here))
          (pins_stay s r id r.gate n v v here refl refl (λ k o. let t = r.pinned.storing k o in (t.2, t.3))) (r.scanned id v here)),
      (refl, sym (if_false (n == 0) (record v { holds = cycle; scanned = [] }) v e), omega arith),
    ))
    (cases_Bool (n == 0))

pub opens_gate : (slots id : ℕ) (me : M) → me.0.heard_owns ≡ [] → (me.0.heard ≡ []) × (me.0.heard_holds ≡ 0) → Owns me.0 0 → 0 < me.0.holds → IsEnded me.0 me.0.holds → NoDebt me.0
    → Allows Ordered slots id me 1 (λ n. bit_and n 511) (Opened (step slots 1 511 0 none) me)
opens_gate slots id me bare bare' owns holding ended paid s r _ here _ =
    let n : ℕ = get_or s.words 1 0 in
    let v : View = me.0 in
    let w : View = record v { holds = 0 } in
    let knows = r.each_seat id v here in
    let g = r.each_gate id v here in
    let all : stage (known v 0) ≡ stage (of_line 0 r.whole) = ap stage (knows.owned 0 owns).1 in
    let g_is = g.owner owns in
    let bounds = r.held.1 (omega arith) in let low = bounds.0 in let high = bounds.1 in
    let kept : (u : View) → Gates r.gate n u → (bit : ℕ) → HasBit n u.owns bit → HasBit (bit_and n 511) u.owns bit = λ u h bit b. record {
      reader = b.reader;
      is = b.is;
      range = b.range;
      role = b.role;
      set = open_keeps n b.reader b.range.1 ∙ b.set;
    } in (
      w,
      keeps,
      tt,
      gate_step s r id v here 0 (bit_and n 511) w (λ i o. o) (omega arith) (open_gate n) ((λ _. (v.holds, omega arith)), λ z. absurd (omega arith))
          record { begins = knows.begins; heard = knows.heard; owned = knows.owned; heard_owned = knows.heard_owned }
          record {
            owner = λ o. refl;
            other = λ o. absurd (both_ways (at false v.owns 0) o owns);
            heard_owner = λ o. absurd (both_ways (at false v.heard_owns 0) (ap (λ l. at false l 0) bare) o);
            heard_other = λ o. (bare'.1, λ pos. let e : stage (at [] v.heard 0) ≡ 1 = ap (λ h. stage (at [] h 0)) bare'.0 in omega arith);
            inside = λ l. absurd (let z = (g.inside l).1 in omega arith);
            owes = λ l. kept v g v.owes (g.owes l);
            one = g.one;
          }
          (λ j u other at_j. let h = r.each_gate j u at_j in record {
            owner = λ o. absurd (stranger s r id j 0 v u here at_j other owns o);
            other = λ o. ((h.other o).0, λ z. absurd (omega arith));
            heard_owner = λ o. absurd (heard_stranger s r id j 0 v u here at_j other owns o);
            heard_other = λ o. ((h.heard_other o).0, λ z. absurd (omega arith));
            inside = λ l. absurd (let z = (h.inside l).1 in omega arith);
            owes = λ l. kept u h u.owes (h.owes l);
            one = h.one;
          })
          (let none_due : (u : View) → 0 < u.found → IsDue r.gate (stage (of_line 0 r.whole)) u.found → ⊥ = λ u l due. let a = due.0 in let b = due.1 in omega arith in
          waiting_opened r.whole r.gate s.views (set s.views id w) (omega arith) r.waiting
          (seats (λ j. Waits r.whole 0) s.views id w (let t = waits_gate r.whole r.gate 0 v (none_due v) (r.waiting.each_wait id v here) in record { snap = t.snap; unknown = t.unknown; over = t.over })
          (λ j u other at_j. waits_gate r.whole r.gate 0 u (none_due u) (r.waiting.each_wait j u at_j))))
          (cells_stay s r id 0 (bit_and n 511) w (λ c o h. absurd (both_ways (r.celled.debt c) (none_owed (of_line 0 r.whole) r.celled.debt v (r.celled.each_debt id v here) owns paid c) o))
          (let d = r.celled.each_debt id v here in record {
            owner = d.owner;
            heard_owner = d.heard_owner;
            secret = d.secret;
            heard_secret = d.heard_secret;
            mine = d.mine;
            heard_mine = d.heard_mine;
          }) (λ l. absurd (let z = (g.inside l).1 in omega arith)))
          (pins_stay s r id 0 (bit_and n 511) v w here refl refl (λ k o. let t = r.pinned.storing k o in (open_keeps n k t.1 ∙ t.2, refl)))
          (λ _ z. absurd (let z' : stage (known v 0) + 1 ≡ 2 * 0 = z in omega arith)),
      (refl, refl),
    )

-- what the step that enters leaves where it found the gate held, or open
pub entered_held : (bit n : ℕ) (v : View) → (n / 512 ≡ 0 → ⊥) → entered bit n v ≡ record v { owes = bit; found = n / 512 }
entered_held bit n v held = if_false (n / 512 == 0) (record v { inside = bit; loads = [] }) (record v { owes = bit; found = n / 512 }) (ne_eqb (n / 512) 0 held)

pub entered_open : (bit n : ℕ) (v : View) → n / 512 ≡ 0 → entered bit n v ≡ record v { inside = bit; loads = [] }
entered_open bit n v e = if_true (n / 512 == 0) (record v { inside = bit; loads = [] }) (record v { owes = bit; found = n / 512 }) (eq-eqb (n / 512) 0 e)
