-- The words of the pins, and who owes them.
use Rattle.std.proofs.Common.{◌≡◌, ◌≢◌, ◌⊎◌, inl, inr, ⊎_elim, ℕ, zero, suc, ◌+◌, ◌*◌, ◌^◌, ◌<◌, ◌≤◌, Bool, true, false, List, [], ◌∷◌, ◌++◌, length, refl, sym, ap, ◌∙◌, subst, arith, true≢false}
use Rattle.std.proofs.Common.{eq-eqb, ne_eqb}
use Rattle.std.specs.Prelude.{if◌then◌else◌, ◌==◌, slice_index, Option, None, Some}
use Rattle.std.specs.Int.{bit_at}
use Rattle.std.proofs.lemmas.Bool.{cases_Bool, and_parts, eqb-true, cases_eq}
use Rattle.std.proofs.lemmas.Nat.Bits.{bit_at-pow_same, bit_at-pow_other}
use mathlib.Core.Option.{some}
use lib.ListN.{get_elem?}
use Rattle.order_table.specs.declared.views.KeptEntry.{KeptEntry}
use Rattle.order_table.specs.declared.views.View.{View}
use Rattle.order_table.specs.Rows.{at}
use Rattle.order_table.specs.Stages.{stage}
use Rattle.order_table.specs.Owed.{pin_row, words_of, word_or_zero, is_some, all_scanned, PinDeed, fills, empties, stays, deed_of_pin, pin_after, owing, pin_from, pin, fill_after, empty_after}
use Rattle.order_table.specs.Views.{known, Owns}
use Rattle.order_table.specs.Rule.{Item, of_line, Scans, PinIs, Pinned, HasBit}
use Rattle.order_table.proofs.Free.{MayPin}

pin_append : (p : ℕ) (ks ls : List KeptEntry) → pin_from p (ks ++ ls) ≡ pin_from (pin_from p ks) ls
pin_append p [] ls = refl
pin_append p (k ∷ ks) ls = pin_append (pin_after p (deed_of_pin k)) ks ls

pub pin_more : (ks : List KeptEntry) (k : KeptEntry) → pin (ks ++ k ∷ []) ≡ pin_after (pin ks) (deed_of_pin k)
pin_more ks k = pin_append 0 ks (k ∷ [])

-- a bit that is a power of 2 is that reader's
pub same_bit : (a b : ℕ) → 2 ^ a ≡ 2 ^ b → a ≡ b
same_bit a b e = ⊎_elim (λ s. s) (λ n. absurd (let x = bit_at-pow_same b in let y = bit_at-pow_other a b (λ z. n (sym z)) in
    let z : bit_at (2 ^ a) b ≡ bit_at (2 ^ b) b = ap (λ k. bit_at k b) e in omega arith)) (cases_eq a b)

-- a step that owes no more and pays nothing
pub pinned_keep : (whole whole' : List Item) (owner owner' : ℕ → ℕ) (gate gate' word word' : ℕ) (words words' : List ℕ) (vs vs' : List View) (r : Pinned whole owner gate word words vs)
    → ((k : ℕ) → pin (of_line (k + 10) whole') ≡ pin (of_line (k + 10) whole)) → ((k : ℕ) → 0 < k → slice_index words' (65 + k) ≡ slice_index words (65 + k))
    → ((k : ℕ) → r.stores k ≡ true → (bit_at word' k ≡ 1) × (gate' ≡ 0) × (owner' (1 + k) ≡ owner (1 + k)) × (owner' (k + 10) ≡ owner (k + 10)))
    → ((k : ℕ) → r.clears k ≡ true → (owner' 0 ≡ owner 0) × (owner' (k + 10) ≡ owner (k + 10))) → length vs ≤ length vs'
    → ((j : ℕ) (v : View) → get_elem? vs' j ≡ some v → (k : ℕ) → r.stores k ≡ true → owner (k + 10) ≡ j → v.fill ≡ k)
    → ((j : ℕ) (v : View) → get_elem? vs' j ≡ some v → (k : ℕ) → r.clears k ≡ true → owner (k + 10) ≡ j → v.empty ≡ k) → Pinned whole' owner' gate' word' words' vs'
pinned_keep whole whole' owner owner' gate gate' word word' words words' vs vs' r lines same stores clears longer_by filler clearer = record {
  stores = r.stores;
  clears = r.clears;
  pins = λ k a b. subst (λ (z : ℕ × ℕ). PinIs z.0 (r.stores k) (r.clears k) z.1) (λ i. (sym (lines k) i, sym (same k a) i)) (r.pins k a b);
  storing = λ k o. let t = r.storing k o in let n = stores k o in let l = t.5 in let e = n.3 in (t.0, t.1, n.0, n.1, n.2 ∙ (t.4 ∙ sym n.3), omega arith);
  clearing = λ k o. let t = r.clearing k o in let n = clears k o in let l = t.2 in let e = n.1 in (t.0, n.0 ∙ (t.1 ∙ sym n.1), omega arith);
  filler = λ j v e k o own. filler j v e k o (sym (stores k o).3 ∙ own);
  clearer = λ j v e k o own. clearer j v e k o (sym (clears k o).1 ∙ own);
}

-- a seat that owes nothing owns no line whose store or clearing is owed
pub not_storing : (whole : List Item) (owner : ℕ → ℕ) (gate word : ℕ) (words : List ℕ) (vs : List View) (r : Pinned whole owner gate word words vs) (id : ℕ) (v : View)
    → get_elem? vs id ≡ some v → v.fill ≡ 0 → (k : ℕ) → r.stores k ≡ true → owner (k + 10) ≡ id → ⊥
not_storing whole owner gate word words vs r id v here paid k o own = let a = r.filler id v here k o own in let b = (r.storing k o).0 in omega arith

pub not_clearing : (whole : List Item) (owner : ℕ → ℕ) (gate word : ℕ) (words : List ℕ) (vs : List View) (r : Pinned whole owner gate word words vs) (id : ℕ) (v : View)
    → get_elem? vs id ≡ some v → v.empty ≡ 0 → (k : ℕ) → r.clears k ≡ true → owner (k + 10) ≡ id → ⊥
not_clearing whole owner gate word words vs r id v here paid k o own = let a = r.clearer id v here k o own in let b = (r.clearing k o).0 in omega arith

-- an entry of the seat id, which owns the line of its caller at this place
pub pinned_entry : (whole whole' : List Item) (owner : ℕ → ℕ) (gate word : ℕ) (words words' : List ℕ)
    (vs vs' : List View) (r : Pinned whole owner gate word words vs) (id role place : ℕ) (v w : View) (d : PinDeed)
    → get_elem? vs id ≡ some v → id < length vs → owner (place + 10) ≡ id → owner role ≡ id → ((role ≡ 1 → ⊥) → (v.fill ≡ 0) × (v.empty ≡ 0)) → MayPin v role place d
    → known v (place + 10) ≡ of_line (place + 10) whole → HasBit word v.owns v.inside ⊎ (d ≡ stays ⊎ d ≡ empties) → (d ≡ stays ⊎ (d ≡ empties ⊎ gate ≡ 0))
    → ((k : ℕ) → k ≢ place → of_line (k + 10) whole' ≡ of_line (k + 10) whole) → pin (of_line (place + 10) whole') ≡ pin_after (pin (of_line (place + 10) whole)) d
    → ((k : ℕ) → slice_index words' (65 + k) ≡ slice_index words (65 + k)) → length vs ≤ length vs'
    → w.fill ≡ fill_after d place v.fill → w.empty ≡ empty_after d place v.empty
    → ((K : ℕ → View → Type 0) → K id w → ((j : ℕ) (u : View) → j ≢ id → get_elem? vs j ≡ some u → K j u) → (j : ℕ) (u : View) → get_elem? vs' j ≡ some u → K j u)
    → Pinned whole' owner gate word words' vs'
pinned_entry whole whole' owner gate word words words' vs vs' r id role place v w stays here inside own own_role stored may all bit unheld lines now same longer_by fill empty seats =
    let same_lines : (k : ℕ) → pin (of_line (k + 10) whole') ≡ pin (of_line (k + 10) whole) = λ k. ⊎_elim
    (λ (e : k ≡ place). subst (λ j. pin (of_line (j + 10) whole') ≡ pin (of_line (j + 10) whole)) (sym e) now) (λ e. ap pin (lines k e)) (cases_eq k place) in
    pinned_keep whole whole' owner owner gate gate word word words words' vs vs' r same_lines (λ k _. same k) (λ k o. let t = r.storing k o in (t.2, t.3, refl, refl)) (λ k o. (refl, refl)) longer_by
    (seats (λ j u. (k : ℕ) → r.stores k ≡ true → owner (k + 10) ≡ j → u.fill ≡ k) (λ k o e. fill ∙ r.filler id v here k o e) (λ j u _ at_j. r.filler j u at_j))
    (seats (λ j u. (k : ℕ) → r.clears k ≡ true → owner (k + 10) ≡ j → u.empty ≡ k) (λ k o e. empty ∙ r.clearer id v here k o e) (λ j u _ at_j. r.clearer j u at_j))
pinned_entry whole whole' owner gate word words words' vs vs' r id role place v w (fills x) here inside own own_role stored may all bit unheld lines now same longer_by fill empty seats =
    let m = may.fills x refl in
    let paid = stored (λ e. let z = m.0 in let y = m.2 in omega arith) in
    let was : pin (of_line (place + 10) whole) ≡ 0 = ap pin (sym all) ∙ m.4 in
    let stores : ℕ → Bool = λ k. if k == place then true else r.stores k in
    let here_is : stores place ≡ true = ap (λ b. if b then true else r.stores place) (eq-eqb place place refl) in
    let else_is : (k : ℕ) → k ≢ place → stores k ≡ r.stores k = λ k e. ap (λ b. if b then true else r.stores k) (ne_eqb k place e) in
    let set_bit : bit_at word place ≡ 1 = ⊎_elim
    (λ (h : HasBit word v.owns v.inside). subst (λ k. bit_at word k ≡ 1) (same_bit h.reader place (sym h.is ∙ m.3)) h.set)
    (λ z. absurd (⊎_elim (λ e. no_fill x e) (λ e. no_empty x e) z)) bit in
    let is_open : gate ≡ 0 = ⊎_elim (λ e. absurd (no_fill x e)) (λ z. ⊎_elim (λ e. absurd (no_empty x e)) (λ e. e) z) unheld in
    record {
      stores = stores;
      clears = r.clears;
      pins = λ k a b. ⊎_elim
          (λ (e : k ≡ place). subst (λ j. PinIs (pin (of_line (j + 10) whole')) (stores j) (r.clears j) (slice_index words' (65 + j))) (sym e) (inr (inl (
            here_is,
            same place ∙ ⊎_elim
                (λ z. z ∙ was) (λ z. ⊎_elim (λ z. z.1) (λ z. absurd (not_clearing whole owner gate word words vs r id v here paid.1 place z.0 own)) z) (r.pins place m.0 m.1),
          ))))
          (λ e. subst (λ (z : ℕ × Bool × ℕ). PinIs z.0 z.1 (r.clears k) z.2) (λ i. (ap pin (sym (lines k e)) i, sym (else_is k e) i, sym (same k) i)) (r.pins k a b))
          (cases_eq k place);
      storing = λ k o. ⊎_elim
          (λ (e : k ≡ place). subst (λ j. (0 < j) × (j < 9) × (bit_at word j ≡ 1) × (gate ≡ 0) × (owner (1 + j) ≡ owner (j + 10)) × (owner (j + 10) < length vs')) (sym e)
          (m.0, m.1, set_bit, is_open, ap owner (sym m.2) ∙ (own_role ∙ sym own), omega arith))
          (λ e. let t = r.storing k (sym (else_is k e) ∙ o) in let l = t.5 in (t.0, t.1, t.2, t.3, t.4, omega arith))
          (cases_eq k place);
      clearing = λ k o. let t = r.clearing k o in let l = t.2 in (t.0, t.1, omega arith);
      filler = seats (λ j u. (k : ℕ) → stores k ≡ true → owner (k + 10) ≡ j → u.fill ≡ k)
          (λ k o e. ⊎_elim (λ (s : k ≡ place). fill ∙ sym s) (λ s. absurd (not_storing whole owner gate word words vs r id v here paid.0 k (sym (else_is k s) ∙ o) e)) (cases_eq k place))
          (λ j u other at_j k o e. ⊎_elim (λ (s : k ≡ place). absurd (other (sym e ∙ (ap (λ z. owner (z + 10)) s ∙ own)))) (λ s. r.filler j u at_j k (sym (else_is k s) ∙ o) e) (cases_eq k place));
      clearer = seats (λ j u. (k : ℕ) → r.clears k ≡ true → owner (k + 10) ≡ j → u.empty ≡ k) (λ k o e. empty ∙ r.clearer id v here k o e) (λ j u _ at_j. r.clearer j u at_j);
    }
  where
    no_fill : (x : ℕ) → fills x ≡ stays → ⊥
    no_fill x e = true≢false (ap (λ d. elim d [ fills y ↦ true | empties ↦ false | stays ↦ false ]) e)

    no_empty : (x : ℕ) → fills x ≡ empties → ⊥
    no_empty x e = true≢false (ap (λ d. elim d [ fills y ↦ true | empties ↦ false | stays ↦ false ]) e)
pinned_entry whole whole' owner gate word words words' vs vs' r id role place v w empties here inside own own_role stored may all bit unheld lines now same longer_by fill empty seats =
    let m = may.empties refl in
    let paid = stored (λ e. let z = m.2 in omega arith) in
    let clears : ℕ → Bool = λ k. if k == place then true else r.clears k in
    let here_is : clears place ≡ true = ap (λ b. if b then true else r.clears place) (eq-eqb place place refl) in
    let else_is : (k : ℕ) → k ≢ place → clears k ≡ r.clears k = λ k e. ap (λ b. if b then true else r.clears k) (ne_eqb k place e) in
    record {
      stores = r.stores;
      clears = clears;
      pins = λ k a b. ⊎_elim
          (λ (e : k ≡ place). subst (λ j. PinIs (pin (of_line (j + 10) whole')) (r.stores j) (clears j) (slice_index words' (65 + j))) (sym e) (inr (inr (here_is, now))))
          (λ e. subst (λ (z : ℕ × Bool × ℕ). PinIs z.0 (r.stores k) z.1 z.2) (λ i. (ap pin (sym (lines k e)) i, sym (else_is k e) i, sym (same k) i)) (r.pins k a b))
          (cases_eq k place);
      storing = λ k o. let t = r.storing k o in let l = t.5 in (t.0, t.1, t.2, t.3, t.4, omega arith);
      clearing = λ k o. ⊎_elim
          (λ (e : k ≡ place). subst (λ j. (0 < j) × (owner 0 ≡ owner (j + 10)) × (owner (j + 10) < length vs')) (sym e) (m.0, ap owner (sym m.2) ∙ (own_role ∙ sym own), omega arith))
          (λ e. let t = r.clearing k (sym (else_is k e) ∙ o) in let l = t.2 in (t.0, t.1, omega arith))
          (cases_eq k place);
      filler = seats (λ j u. (k : ℕ) → r.stores k ≡ true → owner (k + 10) ≡ j → u.fill ≡ k) (λ k o e. fill ∙ r.filler id v here k o e) (λ j u _ at_j. r.filler j u at_j);
      clearer = seats (λ j u. (k : ℕ) → clears k ≡ true → owner (k + 10) ≡ j → u.empty ≡ k)
          (λ k o e. ⊎_elim (λ (s : k ≡ place). empty ∙ sym s) (λ s. absurd (not_clearing whole owner gate word words vs r id v here paid.1 k (sym (else_is k s) ∙ o) e)) (cases_eq k place))
          (λ j u other at_j k o e. ⊎_elim (λ (s : k ≡ place). absurd (other (sym e ∙ (ap (λ z. owner (z + 10)) s ∙ own)))) (λ s. r.clearer j u at_j k (sym (else_is k s) ∙ o) e) (cases_eq k place));
    }

pub owing_after : (p : ℕ) (d : PinDeed) → pin_after p (owing p d) ≡ pin_after p d
owing_after p (fills w) = refl
owing_after p empties = ⊎_elim
    (λ (e : (p == 0) ≡ true). ap (pin_after p) (ap (λ b. if b then stays else empties) e) ∙ eqb-true p 0 e)
    (λ (e : (p == 0) ≡ false). ap (λ b. pin_after p (if b then stays else empties)) e) (cases_Bool (p == 0))
owing_after p stays = refl

-- what was scanned
pub no_scans : (whole : List Item) (v : View) → v.scanned ≡ [] → Scans whole v
no_scans whole v none owns next r w pos small e = absurd (nothing_at (sym (ap (λ ws. at None ws r) none) ∙ e))
  where
    nothing_at : {w : ℕ} → None ≡ Some w → ⊥
    nothing_at e = true≢false (ap (λ o. elim o [ None ↦ true | Some x ↦ false ]) e)

-- an entry that leaves its caller's pin, or is made while the gate is open, leaves right what was scanned
pub scans_more : (whole whole' : List Item) (place : ℕ) (d : PinDeed) (u : View) → (Owns u 0 → d ≡ stays ⊎ u.holds ≡ 0) → ((k : ℕ) → k ≢ place → of_line (k + 10) whole' ≡ of_line (k + 10) whole)
    → pin (of_line (place + 10) whole') ≡ pin_after (pin (of_line (place + 10) whole)) d → Scans whole u → Scans whole' u
scans_more whole whole' place d u leaves lines now scans owns next r w pos small e = ⊎_elim
    (λ (s : d ≡ stays). scans owns next r w pos small e ∙ sym (⊎_elim
    (λ (same : r ≡ place). subst (λ k. pin (of_line (k + 10) whole') ≡ pin (of_line (k + 10) whole)) (sym same) (now ∙ ap (pin_after (pin (of_line (place + 10) whole))) s))
    (λ other. ap pin (lines r other)) (cases_eq r place)))
    (λ (z : u.holds ≡ 0). absurd (let n : stage (known u 0) + 1 ≡ 2 * u.holds = next in omega arith)) (leaves owns)

-- the words of what was scanned
pub word_at : (ws : List (Option ℕ)) (r w : ℕ) → at None ws r ≡ Some w → at 0 (words_of ws) r ≡ w
word_at [] r w e = absurd (true≢false (ap (λ o. elim o [ None ↦ true | Some x ↦ false ]) e))
word_at (o ∷ ws) zero w e = ap word_or_zero e
word_at (o ∷ ws) (suc r) w e = word_at ws r w e

pub pin_at : (ws : List (Option ℕ)) (r w : ℕ) → 0 < r → at None ws r ≡ Some w → at 0 (pin_row ws) r ≡ w
pin_at [] r w pos e = word_at [] r w e
pin_at (o ∷ ws) zero w pos e = absurd (omega arith)
pin_at (o ∷ ws) (suc r) w pos e = word_at ws r w e

pub scanned_at : (n : ℕ) (ws : List (Option ℕ)) → all_scanned n ws ≡ true → (r : ℕ) → 0 < r → r ≤ n → (w : ℕ) × (at None ws r ≡ Some w)
scanned_at zero ws e r pos small = absurd (omega arith)
scanned_at (suc n) ws e r pos small = let parts = and_parts (is_some (at None ws (suc n))) (all_scanned n ws) e in ⊎_elim
    (λ (s : r ≡ suc n). subst (λ k. (w : ℕ) × (at None ws k ≡ Some w)) (sym s) (there (at None ws (suc n)) parts.0))
    (λ other. scanned_at n ws parts.1 r pos (omega (arith, other))) (cases_eq r (suc n))
  where
    there : (o : Option ℕ) → is_some o ≡ true → (w : ℕ) × (o ≡ Some w)
    there None e = absurd (true≢false (sym e))
    there (Some w) e = (w, refl)

pub filling : (d : PinDeed) (A : Type 0) → ((x : ℕ) → d ≡ fills x → A) → A ⊎ (d ≡ stays ⊎ d ≡ empties)
filling (fills x) A f = inl (f x refl)
filling empties A f = inr (inr refl)
filling stays A f = inr (inl refl)

pub filling_last : (d : PinDeed) (A : Type 0) → ((x : ℕ) → d ≡ fills x → A) → d ≡ stays ⊎ (d ≡ empties ⊎ A)
filling_last (fills x) A f = inr (inr (f x refl))
filling_last empties A f = inr (inl refl)
filling_last stays A f = inl refl
