-- An object that a pin names has been held since the read that gave it.
use Rattle.std.proofs.Common.{◌≡◌, ⊎_elim, ℕ, zero, suc, ◌+◌, ◌<◌, ◌≤◌, Bool, true, false, ◌||◌, List, [], ◌∷◌, ◌++◌, length, refl, sym, ap, ◌∙◌, subst, arith, true≢false, length-append}
use Rattle.std.specs.Prelude.{if◌then◌else◌, nat_lt, Some}
use Rattle.std.proofs.lemmas.Bool.{cases_Bool, both_ways, ltb-true, ltb-false}
use mathlib.Core.Option.{some, some-injective, some-ne-none}
use mathlib.Core.List.{append-nil, append_assoc}
use lib.ListN.{get_elem?}
use Rattle.joint_machine.specs.Lines.{is_read}
use Rattle.joint_machine.specs.declared.lines.Act.TheVariants as act
use Rattle.joint_machine.specs.declared.names.Thread.{Thread}
use Rattle.joint_machine.specs.declared.names.Thread.TheVariants.{M}
use Rattle.joint_machine.specs.declared.events.Op.{Op}
use Rattle.joint_machine.specs.declared.events.Op.TheVariants as op
use Rattle.joint_machine.specs.declared.events.Reply.{Reply}
use Rattle.joint_machine.specs.declared.events.Reply.TheVariants as says
use Rattle.joint_machine.specs.Control.{caller_place}
use Rattle.order_table.specs.declared.views.KeptEntry.{KeptEntry}
use Rattle.order_table.specs.Rows.{at}
use Rattle.order_table.specs.Stages.{IsClosed}
use Rattle.order_table.specs.Owed.{has, is_freed, read_of, word_of, PinDeed, fills, empties, stays, pin_deed, deed_of_pin, pin_after, pin_from, pin}
use Rattle.order_table.specs.Views.{IsAnswer}
use Rattle.order_table.specs.Rule.{Item, IsItem, is_in, of_line, RunsFrom, IsBelow, Stands, Fits, EachFits, IsHeld, those_below}
use Rattle.order_table.proofs.Gate.{if_true, if_false}
use Rattle.order_table.proofs.Says.{none_not, target_kept}
use Rattle.order_table.proofs.Pins.{pin_more}
use Rattle.order_table.proofs.Waits.{stands_cases, stands_below}
use Rattle.order_table.proofs.Lines.{of_line_in, of_line_out, in_cases, runs_more, below_line}

pub those_more : (n : ℕ) (ks : List KeptEntry) (k : KeptEntry) → n ≤ k.entry.number → those_below n (ks ++ k ∷ []) ≡ those_below n ks
those_more n [] k l = if_false (nat_lt k.entry.number n) (k ∷ []) [] (⊎_elim (λ e. absurd (let z = ltb-true k.entry.number n e in omega arith)) (λ e. e) (cases_Bool (nat_lt k.entry.number n)))
those_more n (x ∷ ks) k l = ap (λ rest. if nat_lt x.entry.number n then x ∷ rest else rest) (those_more n ks k l)

pub those_all : (n : ℕ) (ks : List KeptEntry) → IsBelow n ks → those_below n ks ≡ ks
those_all n [] b = refl
those_all n (x ∷ ks) b = ap (λ rest. if nat_lt x.entry.number n then x ∷ rest else rest) (those_all n ks b.1)
    ∙ if_true (nat_lt x.entry.number n) (x ∷ ks) ks (⊎_elim (λ e. e) (λ e. absurd (let z = ltb-false x.entry.number n e in let y = b.0 in omega arith)) (cases_Bool (nat_lt x.entry.number n)))

pub not_freed : (ks : List KeptEntry) (k : KeptEntry) (m : ℕ) → is_freed ks m ≡ false → Stands ks k → has k.freed m ≡ false
not_freed ks k m e s = at_place ks s.0 e s.1
  where
    parts : (a b : Bool) → (a || b) ≡ false → (a ≡ false) × (b ≡ false)
    parts true b e = absurd (true≢false e)
    parts false b e = (refl, e)

    at_place : (l : List KeptEntry) (j : ℕ) → is_freed l m ≡ false → get_elem? l j ≡ some k → has k.freed m ≡ false
    at_place [] j f h = absurd (some-ne-none k (sym h))
    at_place (x ∷ xs) zero f h = subst (λ (y : KeptEntry). has y.freed m ≡ false) (some-injective x k h) (parts (has x.freed m) (is_freed xs m) f).0
    at_place (x ∷ xs) (suc j) f h = at_place xs j (parts (has x.freed m) (is_freed xs m) f).1 h

-- the object, held from no later than n
abbrev Held : List KeptEntry → ℕ → ℕ → ℕ → Type 0
Held ml r m n = (h : IsHeld ml r m) × (h.from ≤ n)

-- an entry that leaves the pin
held_more : (before : List Item) (x : Item) (r m : ℕ) → 0 < r → r < 9 → Fits before x → x.kept.entry.number ≡ length before → pin (of_line (r + 10) before) ≡ m + 1
    → Held (of_line 0 before) r m (length before) → Held (of_line 0 (before ++ x ∷ [])) r m (length before + 1)
held_more before x r m pos small fit number pinned old =
    let ml : List KeptEntry = of_line 0 before in
    let k : KeptEntry = x.kept in
    let h = old.0 in
    let l = old.1 in
    ⊎_elim
    (λ (e : is_in 0 x ≡ true). let first : x.role ≡ 0 = sym (⊎_elim (λ c. c) (λ c. absurd (let c' : 0 ≡ caller_place k.entry.made.caller + 10 = c in omega arith)) (in_cases 0 x e)) in
    subst (λ ks. Held ks r m (length before + 1)) (sym (of_line_in 0 before x e)) (
      record {
        cell = h.cell;
        aims = target_kept h.cell ml k (λ o s. none_not m (sym (fit.sets first h.cell o s).1 ∙ h.aims)) ∙ h.aims;
        from = h.from;
        alive = λ y s less. ⊎_elim (λ t. h.alive y t less) (λ (same : k ≡ y). absurd
            (let n : y.entry.number ≡ length before = ap (λ (z : KeptEntry). z.entry.number) (sym same) ∙ number in omega arith)) (stands_cases ml k y s);
        closed = subst IsClosed (sym (those_more h.from ml k (omega arith))) h.closed;
        kept = λ y s more c f. ⊎_elim (λ t. h.kept y t more c f)
            (λ (same : k ≡ y). subst (λ (z : KeptEntry). at 0 z.pins r ≡ m + 1) same (fit.snapped first c (ap (λ (z : KeptEntry). z.entry.made.op) same ∙ f) r pos small ∙ pinned))
            (stands_cases ml k y s);
      },
      omega arith,
    ))
    (λ (e : is_in 0 x ≡ false). subst (λ ks. Held ks r m (length before + 1)) (sym (of_line_out 0 before x e)) (h, omega arith))
    (cases_Bool (is_in 0 x))

-- what fills a pin is a read that gave an object
word_is : (a b : ℕ) → fills a ≡ fills b → a ≡ b
word_is a b e = ap (λ d. elim d [ fills z ↦ z | empties ↦ 0 | stays ↦ 0 ]) e

pub fills_read : (t : Thread) (o : Op) (y : Reply) (w : ℕ) → pin_deed t o y ≡ fills w → (c : ℕ)
    × (read_of o ≡ Some c) × (word_of y ≡ Some w) × (is_read o ≡ true) × (IsAnswer y → (1 < w) × (w ≤ 4294967296))
fills_read (M n) (op.Line (act.Read c)) (says.M m) w e = let s : m.0 + 1 ≡ w = word_is (m.0 + 1) w e in
    (c.0, refl, ap (λ z. Some z) s, refl, λ a. let low = a.0 in let high = a.1 in (omega arith, omega arith))
fills_read (M n) (op.Line (act.Await c)) (says.M m) w e = let s : m.0 + 1 ≡ w = word_is (m.0 + 1) w e in
    (c.0, refl, ap (λ z. Some z) s, refl, λ a. let low = a.0 in let high = a.1 in (omega arith, omega arith))
fills_read (M n) (op.Line (act.Take v)) y w e = absurd (true≢false (ap (λ d. elim d [ fills z ↦ false | empties ↦ true | stays ↦ true ]) e))
fills_read _ _ _ w e = absurd (true≢false (ap (λ d. elim d [ fills z ↦ false | empties ↦ true | stays ↦ true ]) e))

-- a pin's word has room for an object's number and 1
fill_small : (n : ℕ) (x : Item) (w : ℕ) → IsItem n x → deed_of_pin x.kept ≡ fills w → w ≤ 4294967296
fill_small n x w item e =
    let t = fills_read x.kept.entry.made.caller x.kept.entry.made.op x.kept.entry.made.reply w e in
    let not_managed : x.role ≡ 0 → ⊥ = λ z. both_ways (is_read x.kept.entry.made.op) (item.stands.managed z).0 t.3 in
    let not_peer : x.role ≡ 1 → ⊥ = λ z. both_ways (is_read x.kept.entry.made.op) (item.stands.peer z).0 t.3 in
    (t.4 (item.stands.reader (omega (arith, not_managed, not_peer))).2).1

pin_small_after : (p n : ℕ) (x : Item) → p ≤ 4294967296 → IsItem n x → (d : PinDeed) → deed_of_pin x.kept ≡ d → pin_after p d ≤ 4294967296
pin_small_after p n x l item (fills w) e = fill_small n x w item e
pin_small_after p n x l item empties e = omega arith
pin_small_after p n x l item stays e = l

pin_small_from : (i p n : ℕ) (xs : List Item) → p ≤ 4294967296 → RunsFrom n xs → pin_from p (of_line i xs) ≤ 4294967296
pin_small_from i p n [] l r = l
pin_small_from i p n (x ∷ xs) l r = either_way (is_in i x) (pin_small_from i (pin_after p (deed_of_pin x.kept)) (n + 1) xs (pin_small_after p n x l r.0 (deed_of_pin x.kept) refl) r.1)
    (pin_small_from i p (n + 1) xs l r.1)
  where
    either_way : (b : Bool) → pin_from (pin_after p (deed_of_pin x.kept)) (of_line i xs) ≤ 4294967296
        → pin_from p (of_line i xs) ≤ 4294967296 → pin_from p (if b then x.kept ∷ of_line i xs else of_line i xs) ≤ 4294967296
    either_way true here there = here
    either_way false here there = there

pub pin_small : (i : ℕ) (xs : List Item) → RunsFrom 0 xs → pin (of_line i xs) ≤ 4294967296
pin_small i xs r = pin_small_from i 0 0 xs (omega arith) r

-- the read that fills it
held_filled : (before : List Item) (x : Item) (r m : ℕ) → RunsFrom 0 before → Fits before x → IsItem (length before) x → deed_of_pin x.kept ≡ fills (m + 1)
    → Held (of_line 0 (before ++ x ∷ [])) r m (length before + 1)
held_filled before x r m runs fit item e =
    let ml : List KeptEntry = of_line 0 before in
    let n : ℕ = length before in
    let t = fills_read x.kept.entry.made.caller x.kept.entry.made.op x.kept.entry.made.reply (m + 1) e in
    let not_managed : x.role ≡ 0 → ⊥ = λ z. both_ways (is_read x.kept.entry.made.op) (item.stands.managed z).0 t.3 in
    let not_peer : x.role ≡ 1 → ⊥ = λ z. both_ways (is_read x.kept.entry.made.op) (item.stands.peer z).0 t.3 in
    let reader : 2 ≤ x.role = omega (arith, not_managed, not_peer) in
    let says_it = fit.read reader t.0 (m + 1) t.1 t.2 in
    let some_object : 1 < m + 1 = (t.4 (item.stands.reader reader).2).0 in
    let object = says_it.1.object m (omega arith) refl in
    let below = below_line 0 0 n before runs (omega arith) in
    let out : is_in 0 x ≡ false = ⊎_elim (λ z. absurd (⊎_elim (λ c. not_managed (sym c)) (λ c. let c' : 0 ≡ caller_place x.kept.entry.made.caller + 10 = c in omega arith) (in_cases 0 x z)))
    (λ z. z) (cases_Bool (is_in 0 x)) in
    subst (λ ks. Held ks r m (n + 1)) (sym (of_line_out 0 before x out)) (
      record {
        cell = t.0;
        aims = object.0;
        from = n;
        alive = λ y s less. not_freed ml y m object.1 s;
        closed = subst IsClosed (sym (those_all n ml below)) says_it.0;
        kept = λ y s more. absurd (let z = stands_below n ml y below s in omega arith);
      },
      omega arith,
    )

abbrev EachHeld : ℕ → List Item → Type 0
EachHeld r before = (m : ℕ) → pin (of_line (r + 10) before) ≡ m + 1 → Held (of_line 0 before) r m (length before)

held_step : (before : List Item) (x : Item) (r : ℕ) → 0 < r → r < 9 → RunsFrom 0 before → Fits before x → IsItem (length before) x → EachHeld r before → EachHeld r (before ++ x ∷ [])
held_step before x r pos small runs fit item old m pinned =
    let line : ℕ = r + 10 in
    subst (Held (of_line 0 (before ++ x ∷ [])) r m) (sym (length-append before (x ∷ []))) (⊎_elim
    (λ (e : is_in line x ≡ true). by_deed (deed_of_pin x.kept) refl (sym (ap pin (of_line_in line before x e) ∙ pin_more (of_line line before) x.kept) ∙ pinned))
    (λ (e : is_in line x ≡ false). let same = sym (ap pin (of_line_out line before x e)) ∙ pinned in held_more before x r m pos small fit item.number same (old m same))
    (cases_Bool (is_in line x)))
  where
    by_deed : (d : PinDeed) → deed_of_pin x.kept ≡ d → pin_after (pin (of_line (r + 10) before)) (deed_of_pin x.kept) ≡ m + 1 → Held (of_line 0 (before ++ x ∷ [])) r m (length before + 1)
    by_deed (fills w) e now = held_filled before x r m runs fit item (e ∙ ap fills (sym (ap (pin_after (pin (of_line (r + 10) before))) e) ∙ now))
    by_deed empties e now = absurd (let z : 0 ≡ m + 1 = sym (ap (pin_after (pin (of_line (r + 10) before))) e) ∙ now in omega arith)
    by_deed stays e now = let same = sym (ap (pin_after (pin (of_line (r + 10) before))) e) ∙ now in held_more before x r m pos small fit item.number same (old m same)

held_all : (before xs : List Item) (r : ℕ) → 0 < r → r < 9 → RunsFrom 0 before → RunsFrom (length before) xs → EachFits before xs → EachHeld r before → EachHeld r (before ++ xs)
held_all before [] r pos small runs next fits old = subst (EachHeld r) (sym (append-nil before)) old
held_all before (x ∷ xs) r pos small runs next fits old = subst (EachHeld r) (append_assoc before (x ∷ []) xs)
    (held_all (before ++ x ∷ []) xs r pos small (runs_more 0 before x runs record { number = next.0.number ∙ omega arith; caller = next.0.caller; stands = next.0.stands })
    (subst (λ n. RunsFrom n xs) (sym (length-append before (x ∷ []))) next.1) fits.1
    (held_step before x r pos small runs fits.0 next.0 old))

pub is_held : (whole : List Item) (r m : ℕ) → 0 < r → r < 9 → RunsFrom 0 whole → EachFits [] whole → pin (of_line (r + 10) whole) ≡ m + 1 → IsHeld (of_line 0 whole) r m
is_held whole r m pos small runs fits pinned = (held_all [] whole r pos small tt runs fits (λ m e. absurd (let z : 0 ≡ m + 1 = e in omega arith)) m pinned).0
