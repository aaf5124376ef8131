-- The steps on the pins' words keep the rule.
use Rattle.std.proofs.Common.{◌≡◌, ◌≢◌, inl, ⊎_elim, ℕ, ◌+◌, ◌-◌, ◌/◌, ◌<◌, ◌≤◌, ◌⊎◌, Bool, true, false, List, [], ◌∷◌, get_or, set, refl, sym, ap, ◌∙◌, subst, arith, length-set, get_or-set_same}
use Rattle.std.proofs.Common.{get_or-set_other, eq-eqb, ne_eqb}
use Rattle.std.specs.Prelude.{if◌then◌else◌, ◌==◌, ◌&&◌, nat_lt, Option, None, Some}
use Rattle.std.proofs.lemmas.Bool.{cases_Bool, both_ways, and_parts, ltb-true, eqb-true, cases_eq}
use Rattle.std.specs.Int.{bit_at}
use mathlib.Core.Option.{none, some}
use lib.ListN.{get_elem?}
use lib.Seq.{set-get_or}
use Rattle.atomic_table.specs.Table.{State, Me, step, keeps, Allows}
use Rattle.atomic_table.proofs.Lists.{set_again}
use Rattle.order_table.specs.declared.views.KeptEntry.{KeptEntry}
use Rattle.order_table.specs.declared.views.View.{View}
use Rattle.order_table.specs.Rows.{at, put}
use Rattle.order_table.specs.Owed.{pin, word_or_zero}
use Rattle.order_table.specs.Views.{known, Owns, owes_none, none_owed_in, storing_pin}
use Rattle.order_table.specs.Rule.{of_line, Scans, IsHeld, PinIs, Debts, EachLoad, ReadsWord, Knows, Gates, Waits, Ordered}
use Rattle.order_table.specs.Tells.{LoadedPin, StoredPin}
use Rattle.order_table.proofs.Gate.{if_true, if_false}
use Rattle.order_table.proofs.Waits.{waiting_views}
use Rattle.order_table.proofs.Cells.{celled_bounded}
use Rattle.order_table.proofs.Pins.{not_storing, not_clearing, pinned_keep}
use Rattle.order_table.proofs.Places.{at_put_here, at_put_else}
use Rattle.order_table.proofs.Steps.{seats, owner_set}
use Rattle.order_table.proofs.Held.{is_held, pin_small}

abbrev St : Type 0
St = State (Unit {0}) View

abbrev M : Type 0
M = Me (Unit {0}) View

same_loads : (ml : List KeptEntry) (v w : View) (ls : List (ℕ × ℕ)) → w.owns ≡ v.owns → w.known ≡ v.known → EachLoad ml v ls → EachLoad ml w ls
same_loads ml v w [] owns kn e = tt
same_loads ml v w (l ∷ ls) owns kn e = (
  (λ t o. subst (λ ks. ReadsWord ml (at [] ks (t + 10)) l.0 l.1) (sym kn) (e.0 t (subst (λ os. at false os (t + 10) ≡ true) owns o))),
  same_loads ml v w ls owns kn e.1,
)

-- only what a seat has scanned changes
only_scans : (s : St) (o : Ordered s) (id : ℕ) (v : View) (scanned : List (Option ℕ)) → get_elem? s.views id ≡ some v → Scans o.whole (record v { scanned = scanned })
    → Ordered record { words = s.words; homes = s.homes; views = set s.views id (record v { scanned = scanned }) }
only_scans s o id v scanned here scans =
    let w : View = record v { scanned = scanned } in
    let knows = o.each_seat id v here in
    let g = o.each_gate id v here in
    let d = o.celled.each_debt id v here in
    let t = o.waiting.each_wait id v here in
    let W : ℕ = get_or s.words 1 0 in record {
      whole = o.whole;
      owner = o.owner;
      gate = o.gate;
      small = o.small;
      words = o.words;
      numbers = o.numbers;
      limit = o.limit;
      each_line = λ i l. owner_set s.views i (o.owner i) id v w here (λ z. z) (o.each_line i l);
      each_seat = seats (Knows o.whole o.owner) s.views id w record { begins = knows.begins; heard = knows.heard; owned = knows.owned; heard_owned = knows.heard_owned }
          (λ j u _ at_j. o.each_seat j u at_j);
      held = o.held;
      each_gate = seats (λ j. Gates o.gate W) s.views id w record {
        owner = g.owner;
        other = g.other;
        heard_owner = g.heard_owner;
        heard_other = g.heard_other;
        inside = g.inside;
        owes = g.owes;
        one = g.one;
      } (λ j u _ at_j. o.each_gate j u at_j);
      waiting = waiting_views o.whole o.gate s.views (set s.views id w) o.waiting
          (seats (λ j. Waits o.whole o.gate) s.views id w record { snap = t.snap; unknown = t.unknown; over = t.over } (λ j u _ at_j. o.waiting.each_wait j u at_j));
      celled = celled_bounded (of_line 0 o.whole) o.gate o.gate s.words s.words s.views (set s.views id w) o.celled (λ c l. refl) (λ c z h. h)
          (seats (λ j. Debts (of_line 0 o.whole) o.celled.debt) s.views id w
          record { owner = d.owner; heard_owner = d.heard_owner; secret = d.secret; heard_secret = d.heard_secret; mine = d.mine; heard_mine = d.heard_mine }
          (λ j u _ at_j. o.celled.each_debt j u at_j))
          (seats (λ j x. 0 < x.inside → EachLoad (of_line 0 o.whole) x x.loads) s.views id w
          (λ l. same_loads (of_line 0 o.whole) v w v.loads refl refl (o.celled.each_load id v here l)) (λ j u _ at_j. o.celled.each_load j u at_j));
      pinned = pinned_keep o.whole o.whole o.owner o.owner o.gate o.gate W W s.words s.words s.views (set s.views id w) o.pinned (λ k. refl) (λ k l. refl)
          (λ k z. let q = o.pinned.storing k z in (q.2, q.3, refl, refl)) (λ k z. (refl, refl)) (let l = length-set s.views id w in omega arith)
          (seats (λ i x. (k : ℕ) → o.pinned.stores k ≡ true → o.owner (k + 10) ≡ i → x.fill ≡ k) s.views id w (o.pinned.filler id v here) (λ i x _ at_i. o.pinned.filler i x at_i))
          (seats (λ i x. (k : ℕ) → o.pinned.clears k ≡ true → o.owner (k + 10) ≡ i → x.empty ≡ k) s.views id w (o.pinned.clearer id v here) (λ i x _ at_i. o.pinned.clearer i x at_i));
      scanned = seats (λ j. Scans o.whole) s.views id w scans (λ j u _ at_j. o.scanned j u at_j);
    }

pub loads_pin : (slots id r : ℕ) (me : M) → 0 < r → r < 9 → Allows Ordered slots id me (65 + r) (λ n. n) (LoadedPin (step slots (65 + r) 0 0 none) me)
loads_pin slots id r me pos small s o _ here _ =
    let v : View = me.0 in
    let n : ℕ = get_or s.words (65 + r) 0 in
    let W : ℕ = get_or s.words 1 0 in
    let place : 65 + r - 65 ≡ r = omega arith in
    let now : PinIs (pin (of_line (r + 10) o.whole)) (o.pinned.stores r) (o.pinned.clears r) n = o.pinned.pins r pos small in
    let own : (k : ℕ) → 65 + r ≡ 65 + k → 0 < k → k < 9 → Owns v (k + 10) → v.fill ≡ 0 → v.empty ≡ 0 → n ≡ pin (known v (k + 10)) = λ k e _ _ owns fill empty.
    let same : r ≡ k = omega arith in let mine = (o.each_seat id v here).owned (k + 10) owns in
    (⊎_elim (λ z. z) (λ z. absurd (⊎_elim
    (λ t. not_storing o.whole o.owner o.gate W s.words s.views o.pinned id v here fill r t.0 (ap (λ j. o.owner (j + 10)) same ∙ mine.0))
    (λ t. not_clearing o.whole o.owner o.gate W s.words s.views o.pinned id v here empty r t.0 (ap (λ j. o.owner (j + 10)) same ∙ mine.0)) z)) now)
    ∙ (ap (λ j. pin (of_line (j + 10) o.whole)) same ∙ ap pin (sym mine.1)) in
    let held : (k m : ℕ) → 65 + r ≡ 65 + k → 0 < k → k < 9 → Owns v 0 → v.empty ≡ 0 → n ≡ m + 1 → IsHeld (known v 0) k m = λ k m e _ _ owns empty is.
    let all = (o.each_seat id v here).owned 0 owns in
    subst (λ (z : List KeptEntry × ℕ). IsHeld z.0 z.1 m) (λ i. (sym all.1 i, (let same : r ≡ k = omega arith in same) i))
    (is_held o.whole r m pos small o.numbers o.waiting.fits (sym (⊎_elim (λ z. z) (λ z. absurd (⊎_elim
    (λ t. let zero_is = t.1 in omega arith)
    (λ t. not_clearing o.whole o.owner o.gate W s.words s.views o.pinned id v here empty r t.0 (sym (o.pinned.clearing r t.0).1 ∙ all.0)) z)) now) ∙ is)) in
    let few : (k : ℕ) → 65 + r ≡ 65 + k → 0 < k → k < 9 → Owns v 0 ⊎ Owns v (k + 10) → v.empty ≡ 0 → n ≤ 4294967296 = λ k e _ _ owns empty.
    let same : r ≡ k = omega arith in let small_is = pin_small (r + 10) o.whole o.numbers in
    ⊎_elim (λ z. omega arith) (λ z. ⊎_elim (λ t. let zero_is = t.1 in omega arith)
    (λ t. absurd (not_clearing o.whole o.owner o.gate W s.words s.views o.pinned id v here empty r t.0 (⊎_elim
    (λ a. sym (o.pinned.clearing r t.0).1 ∙ ((o.each_seat id v here).owned 0 a).0)
    (λ a. ap (λ j. o.owner (j + 10)) same ∙ ((o.each_seat id v here).owned (k + 10) a).0) owns))) z) now in
    let test : Bool = nat_lt 0 v.holds && owes_none v in
    let kept : List (Option ℕ) = put None v.scanned r (Some n) in
    ⊎_elim
    (λ (e : test ≡ true). let parts = and_parts (nat_lt 0 v.holds) (owes_none v) e in
    let paid = and_parts (v.fill == 0) (v.empty == 0) (and_parts (none_owed_in v.debts) ((v.fill == 0) && (v.empty == 0)) parts.1).1 in
    let empty : v.empty ≡ 0 = eqb-true v.empty 0 paid.1 in
    let holding = ltb-true 0 v.holds parts.0 in
    let scans : Scans o.whole (record v { scanned = kept }) = λ owns next k w pos' small' at_k. ⊎_elim
    (λ (same : k ≡ r). Some_injective (sym at_k ∙ (ap (at None kept) same ∙ at_put_here None v.scanned r (Some n))) ∙ (⊎_elim (λ z. z)
    (λ z. absurd (⊎_elim
    (λ t. let shut = (o.pinned.storing r t.0).3 in let held = (o.each_gate id v here).owner owns in omega arith)
    (λ t. not_clearing o.whole o.owner o.gate W s.words s.views o.pinned id v here empty r t.0 (sym (o.pinned.clearing r t.0).1 ∙ ((o.each_seat id v here).owned 0 owns).0)) z)) now
    ∙ ap (λ j. pin (of_line (j + 10) o.whole)) (sym same)))
    (λ other. o.scanned id v here owns next k w pos' small' (sym (at_put_else None v.scanned r k (Some n) other) ∙ at_k))
    (cases_eq k r) in (
      record v { scanned = kept },
      keeps,
      tt,
      subst (λ ws. Ordered record { words = ws; homes = s.homes; views = set s.views id (record v { scanned = kept }) }) (sym (set-get_or s.words (65 + r) 0)) (only_scans s o id v kept here scans),
      (refl, sym (if_true test (record v { scanned = put None v.scanned (65 + r - 65) (Some n) }) v e ∙ ap (λ k. record v { scanned = put None v.scanned k (Some n) }) place), own, held, few),
    ))
    (λ (e : test ≡ false). (
      v,
      keeps,
      tt,
      subst (λ (z : List ℕ × List View). Ordered record { words = z.0; homes = s.homes; views = z.1 }) (λ i. (sym (set-get_or s.words (65 + r) 0) i, sym (set_again s.views id v here) i)) o,
      (refl, sym (if_false test (record v { scanned = put None v.scanned (65 + r - 65) (Some n) }) v e), own, held, few),
    ))
    (cases_Bool test)
  where
    Some_injective : {a b : ℕ} → Some a ≡ Some b → a ≡ b
    Some_injective e = ap word_or_zero e

pub stores_pin : (slots id r word : ℕ) (me : M) → 0 < r → r < 9 → Owns me.0 (r + 10) → word ≡ pin (known me.0 (r + 10))
    → Allows Ordered slots id me (65 + r) (λ _. word) (λ _. StoredPin (step slots (65 + r) word 0 none) me word)
stores_pin slots id r word me pos small own is s o _ here _ =
    let v : View = me.0 in
    let w : View = storing_pin r v in
    let knows = o.each_seat id v here in
    let g = o.each_gate id v here in
    let d = o.celled.each_debt id v here in
    let t = o.waiting.each_wait id v here in
    let place : 65 + r - 65 ≡ r = omega arith in
    let W : ℕ = get_or s.words 1 0 in
    let gate_word : get_or (set s.words (65 + r) word) 1 0 ≡ W = get_or-set_other s.words (65 + r) 1 word 0 (λ e. omega arith) in
    let mine = knows.owned (r + 10) own in
    let but : (ℕ → Bool) → ℕ → Bool = λ f k. if k == r then false else f k in
    let not_r : (f : ℕ → Bool) (k : ℕ) → but f k ≡ true → k ≢ r = λ f k e same. both_ways (but f k) (if_true (k == r) false (f k) (eq-eqb k r same)) e in
    let else_is : (f : ℕ → Bool) (k : ℕ) → k ≢ r → but f k ≡ f k = λ f k other. if_false (k == r) false (f k) (ne_eqb k r other) in
    let was : (f : ℕ → Bool) (k : ℕ) → but f k ≡ true → f k ≡ true = λ f k e. sym (else_is f k (not_r f k e)) ∙ e in
    let stays_at : (x k : ℕ) → x ≡ k → k ≢ r → (if x == r then 0 else x) ≡ k = λ x k e other. if_false (x == r) 0 x (ne_eqb x r (λ z. other (sym e ∙ z))) ∙ e in
    let long = length-set s.views id w in (
      w,
      keeps,
      tt,
      record {
        whole = o.whole;
        owner = o.owner;
        gate = o.gate;
        small = o.small;
        words = (length-set s.words (65 + r) word ∙ o.words.0, get_or-set_other s.words (65 + r) 0 word 0 (λ e. omega arith) ∙ o.words.1, ap (λ n. n / 512) gate_word ∙ o.words.2);
        numbers = o.numbers;
        limit = o.limit;
        each_line = λ i l. owner_set s.views i (o.owner i) id v w here (λ z. z) (o.each_line i l);
        each_seat = seats (Knows o.whole o.owner) s.views id w record { begins = knows.begins; heard = knows.heard; owned = knows.owned; heard_owned = knows.heard_owned }
            (λ j u _ at_j. o.each_seat j u at_j);
        held = o.held;
        each_gate = subst (λ b. (j : ℕ) (v : View) → get_elem? (set s.views id w) j ≡ some v → Gates o.gate b v) (sym gate_word) (seats (λ j. Gates o.gate W) s.views id w
            record { owner = g.owner; other = g.other; heard_owner = g.heard_owner; heard_other = g.heard_other; inside = g.inside; owes = g.owes; one = g.one } (λ j u _ at_j. o.each_gate j u at_j));
        waiting = waiting_views o.whole o.gate s.views (set s.views id w) o.waiting
            (seats (λ j. Waits o.whole o.gate) s.views id w record { snap = t.snap; unknown = t.unknown; over = t.over } (λ j u _ at_j. o.waiting.each_wait j u at_j));
        celled = celled_bounded (of_line 0 o.whole) o.gate o.gate s.words (set s.words (65 + r) word) s.views
            (set s.views id w) o.celled (λ c l. get_or-set_other s.words (65 + r) (2 + c) word 0 (λ e. omega arith)) (λ c z h. h)
            (seats (λ j. Debts (of_line 0 o.whole) o.celled.debt) s.views id w
            record { owner = d.owner; heard_owner = d.heard_owner; secret = d.secret; heard_secret = d.heard_secret; mine = d.mine; heard_mine = d.heard_mine }
            (λ j u _ at_j. o.celled.each_debt j u at_j))
            (seats (λ j x. 0 < x.inside → EachLoad (of_line 0 o.whole) x x.loads) s.views id w
            (λ l. same_loads (of_line 0 o.whole) v w v.loads refl refl (o.celled.each_load id v here l)) (λ j u _ at_j. o.celled.each_load j u at_j));
        scanned = seats (λ j. Scans o.whole) s.views id w (o.scanned id v here) (λ j u _ at_j. o.scanned j u at_j);
        pinned = record {
          stores = but o.pinned.stores;
          clears = but o.pinned.clears;
          pins = λ k a b. ⊎_elim
              (λ (e : k ≡ r). subst (λ j. PinIs (pin (of_line (j + 10) o.whole)) (but o.pinned.stores j) (but o.pinned.clears j) (get_or (set s.words (65 + r) word) (65 + j) 0)) (sym e)
              (inl (get_or-set_same s.words (65 + r) word 0 (let z = o.words.0 in omega arith) ∙ (is ∙ ap pin mine.1))))
              (λ e. subst (λ (z : Bool × Bool × ℕ). PinIs (pin (of_line (k + 10) o.whole)) z.0 z.1 z.2) (λ i. (
                sym (else_is o.pinned.stores k e) i,
                sym (else_is o.pinned.clears k e) i,
                sym (get_or-set_other s.words (65 + r) (65 + k) word 0 (λ z. e (omega arith))) i,
              )) (o.pinned.pins k a b))
              (cases_eq k r);
          storing = λ k e. let z = o.pinned.storing k (was o.pinned.stores k e) in let l = z.5 in (z.0, z.1, ap (λ b. bit_at b k) gate_word ∙ z.2, z.3, z.4, omega arith);
          clearing = λ k e. let z = o.pinned.clearing k (was o.pinned.clears k e) in let l = z.2 in (z.0, z.1, omega arith);
          filler = seats (λ i x. (k : ℕ) → but o.pinned.stores k ≡ true → o.owner (k + 10) ≡ i → x.fill ≡ k) s.views id w
              (λ k e q. stays_at v.fill k (o.pinned.filler id v here k (was o.pinned.stores k e) q) (not_r o.pinned.stores k e))
              (λ i x _ at_i k e q. o.pinned.filler i x at_i k (was o.pinned.stores k e) q);
          clearer = seats (λ i x. (k : ℕ) → but o.pinned.clears k ≡ true → o.owner (k + 10) ≡ i → x.empty ≡ k) s.views id w
              (λ k e q. stays_at v.empty k (o.pinned.clearer id v here k (was o.pinned.clears k e) q) (not_r o.pinned.clears k e))
              (λ i x _ at_i k e q. o.pinned.clearer i x at_i k (was o.pinned.clears k e) q);
        };
      },
      (refl, ap (λ k. storing_pin k v) (sym place)),
    )
