-- The gate word, and what the views say of the gate.
use Rattle.std.proofs.Common.{◌≡◌, ◌≢◌, ⊎_elim, ℕ, ◌+◌, ◌-◌, ◌*◌, ◌/◌, ◌^◌, ◌<◌, ◌≤◌, Bool, true, false, not, ◌&&◌, ◌||◌, List, [], ◌∷◌, ◌++◌, refl, sym, ap, ◌∙◌, subst, arith, true≢false}
use Rattle.std.specs.Prelude.{if◌then◌else◌, bit_or, bit_and, max, min}
use Rattle.std.specs.Int.{bit_at, w64}
use Rattle.std.proofs.lemmas.Bool.{cases_Bool, and_parts, or_cases, not-true, both_ways}
use Rattle.std.proofs.lemmas.Nat.{or_shr, and_shr, and_mask}
use Rattle.std.proofs.lemmas.Nat.Bits.{bit_at_or, bit_at_and, bit_at_not, bit_at-pow_same, bit_at-pow_other, bit_at_ones, bit_at-lt}
use Rattle.std.specs.Int.Bits.{or_zero_r}
use Rattle.std.proofs.Math.Pow.{pow-lt}
use Rattle.std.proofs.Math.Nat.{one-le-pow}
use mathlib.Core.List.{IsPrefix}
use Rattle.order_table.specs.declared.views.KeptEntry.{KeptEntry}
use Rattle.order_table.specs.declared.views.View.{View}
use Rattle.order_table.specs.Rows.{at, joined}
use Rattle.order_table.specs.Stages.{Deed, opens, ends, neither, deed, stage_after, stage_from, stage}
use Rattle.order_table.specs.Views.{spent_view, known, Owns, giving, given, hearing, learned}
use Rattle.order_table.specs.Allowed.{MayDo}
use Rattle.order_table.specs.Rule.{HasBit, Gates, IsHeldFor}
use Rattle.order_table.proofs.Free.{Free}
use Rattle.order_table.proofs.Places.{longer_cases, at_longest, at_joined, at_common, at_without}

-- a reader's bit lies below the cycle
bit_below : (r : ℕ) → r < 9 → (0 < 2 ^ r) × (2 ^ r < 512)
bit_below r l = let a : 2 ^ r < 2 ^ 9 = pow-lt l in let b = one-le-pow r 2 (omega arith) in (omega arith, omega arith)

pub or_gate : (n r : ℕ) → r < 9 → bit_or n (2 ^ r) / 512 ≡ n / 512
or_gate n r l = let b = bit_below r l in let none_above : 2 ^ r / 512 ≡ 0 = omega arith in or_shr n (2 ^ r) 9 ∙ (ap (bit_or (n / 512)) none_above ∙ or_zero_r (n / 512))

pub or_keeps : (n m j : ℕ) → bit_at n j ≡ 1 → bit_at (bit_or n m) j ≡ 1
or_keeps n m j e = let l = bit_at-lt m j in bit_at_or n m j ∙ (ap (λ b. max b (bit_at m j)) e ∙ omega arith)

pub or_sets : (n r : ℕ) → bit_at (bit_or n (2 ^ r)) r ≡ 1
or_sets n r = let l = bit_at-lt n r in bit_at_or n (2 ^ r) r ∙ (ap (max (bit_at n r)) (bit_at-pow_same r) ∙ omega arith)

pub clear_keeps : (n r j : ℕ) → r < 9 → j < 9 → j ≢ r → bit_at (bit_and n (2 ^ 64 - 1 - 2 ^ r)) j ≡ bit_at n j
clear_keeps n r j l m other = let b = bit_below r l in let small = bit_at-lt n j in
    bit_at_and n (2 ^ 64 - 1 - 2 ^ r) j ∙ (ap (min (bit_at n j)) (bit_at_not w64 (2 ^ r) j (omega arith) (omega arith) ∙ ap (λ b. 1 - b) (bit_at-pow_other r j other)) ∙ omega arith)

pub clear_gate : (n r : ℕ) → r < 9 → n < 18446744073709551616 → bit_and n (2 ^ 64 - 1 - 2 ^ r) / 512 ≡ n / 512
clear_gate n r l small = let b = bit_below r l in let high : (2 ^ 64 - 1 - 2 ^ r) / 512 ≡ 2 ^ 55 - 1 = omega arith in
    and_shr n (2 ^ 64 - 1 - 2 ^ r) 9 ∙ (ap (bit_and (n / 512)) high ∙ (and_mask (n / 512) 55 ∙ omega arith))

pub open_gate : (n : ℕ) → bit_and n 511 / 512 ≡ 0
open_gate n = ap (λ b. b / 512) (and_mask n 9) ∙ omega arith

pub open_keeps : (n j : ℕ) → j < 9 → bit_at (bit_and n 511) j ≡ bit_at n j
open_keeps n j l = let small = bit_at-lt n j in bit_at_and n 511 j ∙ (ap (min (bit_at n j)) (bit_at_ones 9 j l) ∙ omega arith)

-- how far the cycles have come
pub stage_grows : (s : ℕ) (ks : List KeptEntry) → s ≤ stage_from s ks
stage_grows s [] = omega arith
stage_grows s (k ∷ ks) = let a = after s (deed k.entry.made.op) in let b = stage_grows (stage_after s (deed k.entry.made.op)) ks in omega arith
  where
    after : (s : ℕ) (d : Deed) → s ≤ stage_after s d
    after s (opens k) = omega arith
    after s (ends k) = omega arith
    after s neither = omega arith

stage_append : (s : ℕ) (ks ls : List KeptEntry) → stage_from s (ks ++ ls) ≡ stage_from (stage_from s ks) ls
stage_append s [] ls = refl
stage_append s (k ∷ ks) ls = stage_append (stage_after s (deed k.entry.made.op)) ks ls

pub stage_more : (ks : List KeptEntry) (k : KeptEntry) → stage (ks ++ k ∷ []) ≡ stage_after (stage ks) (deed k.entry.made.op)
stage_more ks k = stage_append 1 ks (k ∷ [])

pub stage_begins : (ks ls : List KeptEntry) → IsPrefix ks ls → stage ks ≤ stage ls
stage_begins ks ls p = let a = stage_grows (stage ks) p.0 in let e : stage (ks ++ p.0) ≡ stage_from (stage ks) p.0 = stage_append 1 ks p.0 in
    let f : stage (ks ++ p.0) ≡ stage ls = ap stage p.1 in omega arith

-- an entry of the owner leaves the gate held as it must be
pub held_more : (v : View) (gate : ℕ) (d : Deed) → IsHeldFor gate (stage (known v 0)) → v.holds ≡ gate → MayDo v d → IsHeldFor gate (stage_after (stage (known v 0)) d)
held_more v gate (opens k) h own may = let a = may.0 in let b = may.1 in ((λ e. absurd (omega arith)), λ pos. (omega arith, omega arith))
held_more v gate (ends k) h own may = let a : stage (known v 0) ≡ 2 * k = may in
    ((λ e. let q = h.0 e in let odd : stage (known v 0) ≡ 2 * q.0 + 1 = q.1 in absurd (omega arith)), λ pos. let b = h.1 pos in let l = b.0 in let m = b.1 in (omega arith, omega arith))
held_more v gate neither h own may = h

-- who isn't inside and owes nothing has no bit to keep
pub no_bit : {A : Type 0} (n : ℕ) → n ≡ 0 → 0 < n → A
no_bit n e l = absurd (omega arith)

-- a settled owner of the managed list doesn't hold the gate for an ended cycle
settled_stage : (gate word : ℕ) (v : View) → Gates gate word v → Free v → Owns v 0 → 0 < gate → stage (known v 0) ≤ 2 * gate
settled_stage gate word v g s o pos = let same = g.owner o in ⊎_elim (λ e. let z = e.0 in absurd (omega arith)) (λ e. let z : stage (known v 0) ≡ 2 * v.holds = e.1 in omega arith) (s.gate o)

pub if_true : {A : Type 0} (b : Bool) (x y : A) → b ≡ true → (if b then x else y) ≡ x
if_true b x y e = ap (λ c. if c then x else y) e

pub if_false : {A : Type 0} (b : Bool) (x y : A) → b ≡ false → (if b then x else y) ≡ y
if_false b x y e = ap (λ c. if c then x else y) e

-- nobody but the owner knows the cycle as ended, who hands over or not
pub others_stage : (gate word : ℕ) (v : View) → Gates gate word v → Free v → 0 < gate → stage (known v 0) ≤ 2 * gate
others_stage gate word v g s pos = ⊎_elim (λ o. settled_stage gate word v g s o pos) (λ o. (g.other o).1 pos) (cases_Bool (at false v.owns 0))

-- a settled seat heard nothing
pub nothing_heard : (gate : ℕ) (v : View) → Free v → (at false v.heard_owns 0 ≡ true → v.heard_holds ≡ gate)
    × (at false v.heard_owns 0 ≡ false → (v.heard_holds ≡ 0) × (0 < gate → stage (at [] v.heard 0) ≤ 2 * gate))
nothing_heard gate v s = (
  (λ o. absurd (both_ways (at false v.heard_owns 0) (ap (λ l. at false l 0) s.compared.1) o)),
  λ o. (s.compared.2, λ pos. let e : stage (at [] v.heard 0) ≡ 1 = ap (λ h. stage (at [] h 0)) s.compared.0 in omega arith),
)

pub gates_giving : (gate word : ℕ) (v : View) (lines : List Bool) → Gates gate word v → Free v → Gates gate word (giving lines v)
gates_giving gate word v lines g s = record {
  owner = λ o. let parts = and_parts (at false v.owns 0) (not (at false lines 0)) (sym (at_without v.owns lines 0) ∙ o) in
      if_false (at false lines 0) 0 v.holds (not-true (at false lines 0) parts.1) ∙ g.owner parts.0;
  other = λ o. (
    ⊎_elim
        (λ (e : at false lines 0 ≡ true). if_true (at false lines 0) 0 v.holds e)
        (λ (e : at false lines 0 ≡ false). if_false (at false lines 0) 0 v.holds e ∙ (g.other (keeps (at false v.owns 0) (at false lines 0) (sym (at_without v.owns lines 0) ∙ o) e)).0)
        (cases_Bool (at false lines 0)),
    λ pos. others_stage gate word v g s pos,
  );
  heard_owner = (nothing_heard gate v s).0;
  heard_other = (nothing_heard gate v s).1;
  inside = no_bit v.inside s.outside;
  owes = no_bit v.owes s.clear;
  one = no_bit v.inside s.outside;
}
  where
    keeps : (b c : Bool) → (b && not c) ≡ false → c ≡ false → b ≡ false
    keeps true true e f = f
    keeps true false e f = e
    keeps false c e f = refl

pub gates_given : (gate word : ℕ) (v : View) (lines : List Bool) → Gates gate word v → Free v → Gates gate word (given lines v)
gates_given gate word v lines g s = record {
  owner = λ o. let parts = and_parts (at false v.owns 0) (at false lines 0) (sym (at_common v.owns lines 0) ∙ o) in
      if_true (at false lines 0) v.holds 0 parts.1 ∙ g.owner parts.0;
  other = λ o. (
    ⊎_elim
        (λ (e : at false lines 0 ≡ true). if_true (at false lines 0) v.holds 0 e ∙ (g.other (keeps (at false v.owns 0) (at false lines 0) (sym (at_common v.owns lines 0) ∙ o) e)).0)
        (λ (e : at false lines 0 ≡ false). if_false (at false lines 0) v.holds 0 e)
        (cases_Bool (at false lines 0)),
    λ pos. others_stage gate word v g s pos,
  );
  heard_owner = (nothing_heard gate v s).0;
  heard_other = (nothing_heard gate v s).1;
  inside = no_bit v.inside s.outside;
  owes = no_bit v.owes s.clear;
  one = no_bit v.inside s.outside;
}
  where
    keeps : (b c : Bool) → (b && c) ≡ false → c ≡ true → b ≡ false
    keeps true true e f = e
    keeps true false e f = sym f
    keeps false c e f = refl

pub gates_spent : (gate word : ℕ) → Gates gate word spent_view
gates_spent gate word = record {
  owner = λ o. absurd (true≢false (sym o));
  other = λ o. (refl, λ pos. omega arith);
  heard_owner = λ o. absurd (true≢false (sym o));
  heard_other = λ o. (refl, λ pos. omega arith);
  inside = λ l. absurd (omega arith);
  owes = λ l. absurd (omega arith);
  one = λ l. refl;
}

pub gates_hearing : (gate word : ℕ) (v w : View) → Gates gate word v → Gates gate word w → Gates gate word (hearing v w)
gates_hearing gate word v w g h = record { owner = g.owner; other = g.other; heard_owner = h.owner; heard_other = h.other; inside = g.inside; owes = g.owes; one = g.one }

pub gates_learned : (gate word : ℕ) (v : View) → Gates gate word v → Gates gate word (learned v)
gates_learned gate word v g = record {
  owner = λ o. ⊎_elim
      (λ (e : at false v.owns 0 ≡ true). if_true (at false v.owns 0) v.holds v.heard_holds e ∙ g.owner e)
      (λ (e : at false v.owns 0 ≡ false). if_false (at false v.owns 0) v.holds v.heard_holds e
      ∙ g.heard_owner (⊎_elim (λ a. absurd (both_ways (at false v.owns 0) e a)) (λ a. a) (or_cases (at false v.owns 0) (at false v.heard_owns 0) (sym (at_joined v.owns v.heard_owns 0) ∙ o))))
      (cases_Bool (at false v.owns 0));
  other = λ o. let parts = neither_one (at false v.owns 0) (at false v.heard_owns 0) (sym (at_joined v.owns v.heard_owns 0) ∙ o) in (
    if_false (at false v.owns 0) v.holds v.heard_holds parts.0 ∙ (g.heard_other parts.1).0,
    λ pos. subst (λ ks. stage ks ≤ 2 * gate) (sym (at_longest v.known v.heard 0))
        (⊎_elim (λ t. subst (λ ks. stage ks ≤ 2 * gate) (sym t.0) ((g.heard_other parts.1).1 pos))
        (λ t. subst (λ ks. stage ks ≤ 2 * gate) (sym t.0) ((g.other parts.0).1 pos)) (longer_cases (known v 0) (at [] v.heard 0))),
  );
  heard_owner = λ o. absurd (true≢false (sym o));
  heard_other = λ o. (refl, λ pos. omega arith);
  inside = λ l. let t = g.inside l in (more v.inside t.0, t.1);
  owes = λ l. more v.owes (g.owes l);
  one = g.one;
}
  where
    neither_one : (b c : Bool) → (b || c) ≡ false → (b ≡ false) × (c ≡ false)
    neither_one true c e = absurd (true≢false e)
    neither_one false c e = (refl, e)

    left_in : (b c : Bool) → b ≡ true → (b || c) ≡ true
    left_in b c e = ap (λ a. a || c) e

    more : (bit : ℕ) → HasBit word v.owns bit → HasBit word (joined v.owns v.heard_owns) bit
    more bit h = record {
      reader = h.reader;
      is = h.is;
      range = h.range;
      role = at_joined v.owns v.heard_owns (1 + h.reader)
          ∙ left_in (at false v.owns (1 + h.reader)) (at false v.heard_owns (1 + h.reader)) h.role;
      set = h.set;
    }

-- bits that stay set
pub gates_word : (gate n m : ℕ) (v : View) → ((j : ℕ) → j < 9 → bit_at n j ≡ 1 → bit_at m j ≡ 1) → Gates gate n v → Gates gate m v
gates_word gate n m v keep g = record {
  owner = g.owner;
  other = g.other;
  heard_owner = g.heard_owner;
  heard_other = g.heard_other;
  inside = λ l. let t = g.inside l in (kept v.inside t.0, t.1);
  owes = λ l. kept v.owes (g.owes l);
  one = g.one;
}
  where
    kept : (bit : ℕ) → HasBit n v.owns bit → HasBit m v.owns bit
    kept bit h = record { reader = h.reader; is = h.is; range = h.range; role = h.role; set = keep h.reader h.range.1 h.set }

-- a bit is cleared: who doesn't own that reader's role keeps its own
pub gates_cleared : (gate n r : ℕ) (v : View) → r < 9 → (Owns v (1 + r) → ⊥) → Gates gate n v → Gates gate (bit_and n (2 ^ 64 - 1 - 2 ^ r)) v
gates_cleared gate n r v small stranger g = record {
  owner = g.owner;
  other = g.other;
  heard_owner = g.heard_owner;
  heard_other = g.heard_other;
  inside = λ l. let t = g.inside l in (kept v.inside t.0, t.1);
  owes = λ l. kept v.owes (g.owes l);
  one = g.one;
}
  where
    kept : (bit : ℕ) → HasBit n v.owns bit → HasBit (bit_and n (2 ^ 64 - 1 - 2 ^ r)) v.owns bit
    kept bit h = record {
      reader = h.reader;
      is = h.is;
      range = h.range;
      role = h.role;
      set = clear_keeps n r h.reader small h.range.1 (λ e. stranger (subst (λ j. at false v.owns (1 + j) ≡ true) e h.role)) ∙ h.set;
    }

pub gates_appended : (gate word : ℕ) (v : View) (ks : List (List KeptEntry)) (ds : List Bool) (f e : ℕ) → Gates gate word v
    → (at false v.owns 0 ≡ false → at [] ks 0 ≡ known v 0) → Gates gate word (record v { known = ks; found = 0; loads = []; scanned = []; debts = ds; fill = f; empty = e })
gates_appended gate word v ks ds f e g same = record {
  owner = g.owner;
  other = λ o. ((g.other o).0, λ pos. subst (λ ls. stage ls ≤ 2 * gate) (sym (same o)) ((g.other o).1 pos));
  heard_owner = g.heard_owner;
  heard_other = g.heard_other;
  inside = g.inside;
  owes = g.owes;
  one = g.one;
}
