-- The steps on the cells' words keep the rule.
use Rattle.std.proofs.Common.{◌≡◌, ◌≢◌, inl, ⊎_elim, ℕ, ◌+◌, ◌-◌, ◌/◌, ◌<◌, ◌≤◌, Bool, true, false, ◌&&◌, List, [], ◌∷◌, length, get_or, set, refl, sym, ap, ◌∙◌, subst, arith, length-set}
use Rattle.std.proofs.Common.{get_or-set_same, get_or-set_other}
use Rattle.std.specs.Prelude.{◌==◌, nat_lt}
use Rattle.std.proofs.lemmas.Bool.{cases_Bool, both_ways, and_parts, ltb-true, cases_eq}
use mathlib.Core.Option.{none, some}
use lib.ListN.{get_elem?}
use lib.Seq.{set-get_or}
use Rattle.atomic_table.specs.Table.{State, Me, step, keeps, Allows}
use Rattle.order_table.specs.declared.views.KeptEntry.{KeptEntry}
use Rattle.order_table.specs.declared.views.View.{View}
use Rattle.order_table.specs.Rows.{at, put}
use Rattle.order_table.specs.Owed.{says_word}
use Rattle.order_table.specs.Views.{known, Owns, none_owed_in, owes_none, storing}
use Rattle.order_table.specs.Allowed.{NoDebt}
use Rattle.order_table.specs.Rule.{Pinned, Scans, of_line, Stands, SetsCell, ReadsWord, CellIs, Debts, EachLoad, Celled, Knows, Gates, Waits, Ordered}
use Rattle.order_table.specs.Tells.{LoadedCell, StoredCell}
use Rattle.order_table.proofs.Places.{at_put_here, at_put_else}
use Rattle.order_table.proofs.Gate.{if_true, if_false}
use Rattle.order_table.proofs.Waits.{waiting_views}
use Rattle.order_table.proofs.Cells.{cell_small, loaded_word, known_unset, none_owed, no_debt_in, celled_same}
use Rattle.order_table.proofs.Pins.{pinned_keep}
use Rattle.order_table.proofs.Steps.{seats, Holds, owner_set}

abbrev St : Type 0
St = State (Unit {0}) View

abbrev M : Type 0
M = Me (Unit {0}) View

-- a step by a seat whose lists and gate stay, on the word of a cell
cell_step : (s : St) (r : Ordered s) (id c word : ℕ) (w : View) → Knows r.whole r.owner id w → Gates r.gate (get_or s.words 1 0) w → Waits r.whole r.gate w
    → Celled (of_line 0 r.whole) r.gate (set s.words (2 + c) word) (set s.views id w) → c < 64 → (v : View) → get_elem? s.views id ≡ some v → ((i : ℕ) → Holds v i → Holds w i)
    → w.fill ≡ v.fill → w.empty ≡ v.empty → Scans r.whole w → Ordered record { words = set s.words (2 + c) word; homes = s.homes; views = set s.views id w }
cell_step s r id c word w knows gates waits celled small v here still fill empty scans = record {
  each_line = λ i l. owner_set s.views i (r.owner i) id v w here (still i) (r.each_line i l);
  scanned = seats (λ j. Scans r.whole) s.views id w scans (λ j u _ at_j. r.scanned j u at_j);
  pinned = subst (λ b. Pinned r.whole r.owner r.gate b (set s.words (2 + c) word) (set s.views id w)) (sym gate_word)
      (pinned_keep r.whole r.whole r.owner r.owner r.gate r.gate (get_or s.words 1 0) (get_or s.words 1 0) s.words (set s.words (2 + c) word) s.views (set s.views id w) r.pinned (λ k. refl)
      (λ k l. get_or-set_other s.words (2 + c) (65 + k) word 0 (λ e. omega arith))
      (λ k o. let t = r.pinned.storing k o in (t.2, t.3, refl, refl)) (λ k o. (refl, refl)) (let l = length-set s.views id w in omega arith)
      (seats (λ i x. (k : ℕ) → r.pinned.stores k ≡ true → r.owner (k + 10) ≡ i → x.fill ≡ k) s.views id w (λ k o e. fill ∙ r.pinned.filler id v here k o e) (λ i x _ at_i. r.pinned.filler i x at_i))
      (seats (λ i x. (k : ℕ) → r.pinned.clears k ≡ true → r.owner (k + 10) ≡ i → x.empty ≡ k) s.views id w
      (λ k o e. empty ∙ r.pinned.clearer id v here k o e) (λ i x _ at_i. r.pinned.clearer i x at_i)));
  whole = r.whole;
  owner = r.owner;
  gate = r.gate;
  small = r.small;
  words = (length-set s.words (2 + c) word ∙ r.words.0, get_or-set_other s.words (2 + c) 0 word 0 (λ e. omega arith) ∙ r.words.1, ap (λ n. n / 512) gate_word ∙ r.words.2);
  numbers = r.numbers;
  limit = r.limit;
  each_seat = seats (Knows r.whole r.owner) s.views id w knows (λ j u _ at_j. r.each_seat j u at_j);
  held = r.held;
  each_gate = subst (λ b. (j : ℕ) (v : View) → get_elem? (set s.views id w) j ≡ some v → Gates r.gate b v) (sym gate_word)
      (seats (λ j. Gates r.gate (get_or s.words 1 0)) s.views id w gates (λ j u _ at_j. r.each_gate j u at_j));
  waiting = waiting_views r.whole r.gate s.views (set s.views id w) r.waiting (seats (λ j. Waits r.whole r.gate) s.views id w waits (λ j u _ at_j. r.waiting.each_wait j u at_j));
  celled = celled;
}
  where
    gate_word : get_or (set s.words (2 + c) word) 1 0 ≡ get_or s.words 1 0
    gate_word = get_or-set_other s.words (2 + c) 1 word 0 (λ e. omega arith)

pub loads_cell : (slots id c : ℕ) (me : M) → c < 64 → me.0.heard_owns ≡ [] → Allows Ordered slots id me (2 + c) (λ n. n) (LoadedCell (step slots (2 + c) 0 0 none) me)
loads_cell slots id c me small bare s r _ here _ =
    let n : ℕ = get_or s.words (2 + c) 0 in
    let v : View = me.0 in
    let knows = r.each_seat id v here in
    let g = r.each_gate id v here in
    let d = r.celled.each_debt id v here in
    let t = r.waiting.each_wait id v here in
    let cell = r.celled.cells c small in
    let secret : NoDebt v → r.celled.debt c ≡ true → length (known v 0) < length (of_line 0 r.whole) = λ paid o. d.secret c o (⊎_elim
    (λ a. absurd (both_ways (r.celled.debt c) (none_owed (of_line 0 r.whole) r.celled.debt v d a paid c) o)) (λ a. a) (cases_Bool (at false v.owns 0))) in
    let place : 2 + c - 2 ≡ c = omega arith in
    let told_owner : Owns v 0 → CellIs (known v 0) v.holds (at false v.debts (2 + c - 2)) (2 + c - 2) n = λ o. subst (λ (k : ℕ). CellIs (known v 0) v.holds (at false v.debts k) k n) (sym place)
    (subst (λ (z : List KeptEntry × ℕ × Bool). CellIs z.0 z.1 z.2 c n) (λ i. (sym (knows.owned 0 o).1 i, sym (g.owner o) i, sym (d.owner o c) i)) cell) in
    let told_unset : NoDebt v → n ≡ 0 → (y : KeptEntry) → Stands (known v 0) y → SetsCell y (2 + c - 2) → ⊥ = λ paid z y st e.
    known_unset (of_line 0 r.whole) (known v 0) r.gate c n (r.celled.debt c) cell (λ m e. (r.celled.real c m e).0) (knows.begins 0) (secret paid) z y st (subst (SetsCell y) place e) in
    let told_small : n ≤ 4294967296 = cell_small (of_line 0 r.whole) r.gate c n (r.celled.debt c) cell (r.celled.real c) in
    let test : Bool = nat_lt 0 v.inside && owes_none v in
    ⊎_elim
    (λ (e : test ≡ true). let w : View = record v { loads = (c, n) ∷ v.loads } in
    let parts = and_parts (nat_lt 0 v.inside) (owes_none v) e in let paid : NoDebt v = no_debt_in
    v.debts (and_parts (none_owed_in v.debts) ((v.fill == 0) && (v.empty == 0)) parts.1).0 in let within = ltb-true 0 v.inside parts.0 in (
      w,
      keeps,
      tt,
      cell_step s r id c n w record { begins = knows.begins; heard = knows.heard; owned = knows.owned; heard_owned = knows.heard_owned }
          record { owner = g.owner; other = g.other; heard_owner = g.heard_owner; heard_other = g.heard_other; inside = g.inside; owes = g.owes; one = g.one }
          record { snap = t.snap; unknown = t.unknown; over = t.over }
          (celled_same (of_line 0 r.whole) r.gate r.gate s.words (set s.words (2 + c) n) s.views
          (set s.views id w) r.celled (λ k. ap (λ ws. get_or ws (2 + k) 0) (set-get_or s.words (2 + c) 0)) (λ k o h. h)
          (seats (λ j. Debts (of_line 0 r.whole) r.celled.debt) s.views id w
          record { owner = d.owner; heard_owner = d.heard_owner; secret = d.secret; heard_secret = d.heard_secret; mine = d.mine; heard_mine = d.heard_mine }
          (λ j u _ at_j. r.celled.each_debt j u at_j))
          (seats (λ j x. 0 < x.inside → EachLoad (of_line 0 r.whole) x x.loads) s.views id w
          (λ l. (
            (λ k o. loaded_word (of_line 0 r.whole) (known v (k + 10)) (known v 0) r.gate c n (r.celled.debt c)
                (g.inside within).1 cell (λ m e. (r.celled.real c m e).0) (knows.begins 0) (secret paid) (λ y st f. d.mine k o y st c f)),
            same_loads (of_line 0 r.whole) v w v.loads refl refl (r.celled.each_load id v here l),
          ))
          (λ j u _ at_j. r.celled.each_load j u at_j))) small v here (λ i o. o) refl refl (r.scanned id v here),
      (refl, sym (if_true test (record v { loads = (2 + c - 2, n) ∷ v.loads }) v e ∙ ap (λ k. record v { loads = (k, n) ∷ v.loads }) place), told_owner, told_unset, told_small),
    ))
    (λ (e : test ≡ false). (
      v,
      keeps,
      tt,
      cell_step s r id c n v knows g t
          (celled_same (of_line 0 r.whole) r.gate r.gate s.words (set s.words (2 + c) n) s.views
          (set s.views id v) r.celled (λ k. ap (λ ws. get_or ws (2 + k) 0) (set-get_or s.words (2 + c) 0)) (λ k o h. h)
          (seats (λ j. Debts (of_line 0 r.whole) r.celled.debt) s.views id v d (λ j u _ at_j. r.celled.each_debt j u at_j))
          (seats (λ j x. 0 < x.inside → EachLoad (of_line 0 r.whole) x x.loads) s.views id v (r.celled.each_load id v here) (λ j u _ at_j. r.celled.each_load j u at_j))) small v here
          (λ i o. o) refl refl (r.scanned id v here),
      (refl, sym (if_false test (record v { loads = (2 + c - 2, n) ∷ v.loads }) v e), told_owner, told_unset, told_small),
    ))
    (cases_Bool test)
  where
    same_loads : (ml : List KeptEntry) (v w : View) (ls : List (ℕ × ℕ)) → w.owns ≡ v.owns → w.known ≡ v.known → EachLoad ml v ls → EachLoad ml w ls
    same_loads ml v w [] owns kn e = tt
    same_loads ml v w (l ∷ ls) owns kn e = (
      (λ t o. subst (λ ks. ReadsWord ml (at [] ks (t + 10)) l.0 l.1) (sym kn) (e.0 t (subst (λ os. at false os (t + 10) ≡ true) owns o))),
      same_loads ml v w ls owns kn e.1,
    )

pub stores_cell : (slots id c word : ℕ) (me : M) → c < 64 → me.0.heard_owns ≡ [] → Owns me.0 0 → word ≡ says_word (known me.0 0) c
    → Allows Ordered slots id me (2 + c) (λ _. word) (λ _. StoredCell (step slots (2 + c) word 0 none) me word)
stores_cell slots id c word me small bare owns is s r _ here _ =
    let v : View = me.0 in
    let w : View = storing c v in
    let knows = r.each_seat id v here in
    let g = r.each_gate id v here in
    let d = r.celled.each_debt id v here in
    let t = r.waiting.each_wait id v here in
    let ml : List KeptEntry = of_line 0 r.whole in
    let place : 2 + c - 2 ≡ c = omega arith in
    let debt : ℕ → Bool = λ k. at false (put false v.debts c false) k in
    let else_same : (k : ℕ) → k ≢ c → debt k ≡ r.celled.debt k = λ k other. at_put_else false v.debts c k false other ∙ d.owner owns k in
    let was : (k : ℕ) → debt k ≡ true → r.celled.debt k ≡ true = λ k o. ⊎_elim
    (λ (same : k ≡ c). absurd (both_ways (debt k) (ap debt same ∙ at_put_here false v.debts c false) o))
    (λ other. sym (else_same k other) ∙ o) (cases_eq k c) in (
      w,
      keeps,
      tt,
      cell_step s r id c word w record { begins = knows.begins; heard = knows.heard; owned = knows.owned; heard_owned = knows.heard_owned }
          record { owner = g.owner; other = g.other; heard_owner = g.heard_owner; heard_other = g.heard_other; inside = g.inside; owes = g.owes; one = g.one }
          record { snap = t.snap; unknown = t.unknown; over = t.over }
          record {
            debt = debt;
            nonempty = λ k o. r.celled.nonempty k (was k o);
            cells = λ k l. ⊎_elim
                (λ (same : k ≡ c). subst (λ j. CellIs ml r.gate (debt j) j (get_or (set s.words (2 + c) word) (2 + j) 0)) (sym same)
                (inl (get_or-set_same s.words (2 + c) word 0 (let z = r.words.0 in omega arith) ∙ (is ∙ ap (λ ks. says_word ks c) (knows.owned 0 owns).1))))
                (λ other. subst (λ (z : Bool × ℕ). CellIs ml r.gate z.0 k z.1)
                (λ i. (sym (else_same k other) i, sym (get_or-set_other s.words (2 + c) (2 + k) word 0 (λ e. other (omega arith))) i)) (r.celled.cells k l))
                (cases_eq k c);
            real = r.celled.real;
            each_debt = seats (λ j. Debts ml debt) s.views id w
                record {
                  owner = λ o k. refl;
                  heard_owner = λ o. absurd (both_ways (at false v.heard_owns 0) (ap (λ l. at false l 0) bare) o);
                  secret = λ k o. d.secret k (was k o);
                  heard_secret = λ k o. d.heard_secret k (was k o);
                  mine = d.mine;
                  heard_mine = d.heard_mine;
                }
                (λ j u other at_j. let h = r.celled.each_debt j u at_j in let theirs = r.each_seat j u at_j in record {
                  owner = λ o. absurd (other (sym (theirs.owned 0 o).0 ∙ (knows.owned 0 owns).0));
                  heard_owner = λ o. absurd (other (sym (theirs.heard_owned 0 o).0 ∙ (knows.owned 0 owns).0));
                  secret = λ k o. h.secret k (was k o);
                  heard_secret = λ k o. h.heard_secret k (was k o);
                  mine = h.mine;
                  heard_mine = h.heard_mine;
                });
            each_load = seats (λ j x. 0 < x.inside → EachLoad ml x x.loads) s.views id w
                (λ l. same_loads ml v w v.loads refl refl (r.celled.each_load id v here l)) (λ j u _ at_j. r.celled.each_load j u at_j);
          } small v here (λ i o. o) refl refl (r.scanned id v here),
      (refl, ap (λ k. storing k v) (sym place)),
    )
  where
    same_loads : (ml : List KeptEntry) (v w : View) (ls : List (ℕ × ℕ)) → w.owns ≡ v.owns → w.known ≡ v.known → EachLoad ml v ls → EachLoad ml w ls
    same_loads ml v w [] owns kn e = tt
    same_loads ml v w (l ∷ ls) owns kn e = (
      (λ t o. subst (λ ks. ReadsWord ml (at [] ks (t + 10)) l.0 l.1) (sym kn) (e.0 t (subst (λ os. at false os (t + 10) ≡ true) owns o))),
      same_loads ml v w ls owns kn e.1,
    )
