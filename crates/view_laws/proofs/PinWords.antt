-- The pins that reads and takes leave are those that the words of the lines say.
use Rattle.std.proofs.Common.{◌≡◌, ⊎_elim, ℕ, zero, suc, ◌+◌, ◌<◌, Bool, true, false, List, [], ◌∷◌, ◌++◌, Option, Some, None, refl, sym, ap, ◌∙◌, arith}
use Rattle.std.specs.Prelude.{if◌then◌else◌, nat_eq, slice_set}
use Rattle.std.proofs.lemmas.Bool.{cases_Bool, both_ways}
use Rattle.std.proofs.lemmas.Bool.Decides.{nat_tests}
use Rattle.joint_machine.specs.declared.names.Thread.{Thread}
use Rattle.joint_machine.specs.declared.names.Thread.TheVariants.{M, P, C}
use Rattle.joint_machine.specs.declared.lines.Act.TheVariants as act
use Rattle.joint_machine.specs.declared.events.Op.{Op}
use Rattle.joint_machine.specs.declared.events.Op.TheVariants as op
use Rattle.joint_machine.specs.declared.events.Reply.{Reply}
use Rattle.joint_machine.specs.declared.events.Reply.TheVariants as says
use Rattle.joint_machine.specs.Control.{caller_place}
use Rattle.joint_machine.specs.Heaps.{slot}
use Rattle.joint_machine.specs.HistoryLines.{caller_line}
use Rattle.joint_machine.specs.Lines.{IsEvent, IsThread}
use Rattle.joint_laws.specs.ReadingLaws.{pins_by}
use Rattle.order_table.specs.Owed.{pin_deed, pin_after, pin}
use Rattle.order_table.specs.Replies.{object_of}
use Rattle.order_table.specs.Rule.{Item, of_line, is_in}
use Rattle.order_table.specs.Views.{IsInRole}
use Rattle.order_table.proofs.Lines.{of_line_in, of_line_out, caller_in, in_cases}
use Rattle.order_table.proofs.Pins.{pin_more}
use Rattle.view_laws.specs.Knowing.{row}

-- rows
pub row-ext : (f g : ℕ → Option ℕ) → ((r : ℕ) → 0 < r → r < 9 → f r ≡ g r) → row f ≡ row g
row-ext f g e = λ i. None ∷ e 1 (omega arith) (omega arith) i ∷ e 2 (omega arith) (omega arith) i ∷ e 3 (omega arith) (omega arith) i ∷ e 4 (omega arith)
    (omega arith) i ∷ e 5 (omega arith) (omega arith) i ∷ e 6 (omega arith) (omega arith) i ∷ e 7 (omega arith) (omega arith) i ∷ e 8 (omega arith) (omega arith) i ∷ []

pub row-slot : (f : ℕ → Option ℕ) (n : ℕ) → 0 < n → n < 9 → slot (row f) n ≡ f n
row-slot f zero a b = absurd (omega (arith, a))
row-slot f (suc zero) a b = refl
row-slot f (suc (suc zero)) a b = refl
row-slot f (suc (suc (suc zero))) a b = refl
row-slot f (suc (suc (suc (suc zero)))) a b = refl
row-slot f (suc (suc (suc (suc (suc zero))))) a b = refl
row-slot f (suc (suc (suc (suc (suc (suc zero)))))) a b = refl
row-slot f (suc (suc (suc (suc (suc (suc (suc zero))))))) a b = refl
row-slot f (suc (suc (suc (suc (suc (suc (suc (suc zero)))))))) a b = refl
row-slot f (suc (suc (suc (suc (suc (suc (suc (suc (suc n))))))))) a b = absurd (omega (arith, b))

abbrev put_at : (ℕ → Option ℕ) → ℕ → Option ℕ → ℕ → Option ℕ
put_at f n v r = if nat_eq r n then v else f r

row-set : (f : ℕ → Option ℕ) (n : ℕ) (v : Option ℕ) → 0 < n → n < 9 → slice_set (row f) n v ≡ row (put_at f n v)
row-set f zero v a b = absurd (omega (arith, a))
row-set f (suc zero) v a b = refl
row-set f (suc (suc zero)) v a b = refl
row-set f (suc (suc (suc zero))) v a b = refl
row-set f (suc (suc (suc (suc zero)))) v a b = refl
row-set f (suc (suc (suc (suc (suc zero))))) v a b = refl
row-set f (suc (suc (suc (suc (suc (suc zero)))))) v a b = refl
row-set f (suc (suc (suc (suc (suc (suc (suc zero))))))) v a b = refl
row-set f (suc (suc (suc (suc (suc (suc (suc (suc zero)))))))) v a b = refl
row-set f (suc (suc (suc (suc (suc (suc (suc (suc (suc n))))))))) v a b = absurd (omega (arith, b))

-- what the lines say of pins
abbrev pub word_at : List Item → ℕ → ℕ
word_at before r = pin (of_line (r + 10) before)

abbrev pub said : List Item → List (Option ℕ)
said before = row (λ r. object_of (word_at before r))

pub same-number : (a b : ℕ) → nat_eq a b ≡ true → a ≡ b
same-number a b e = grind (arith, nat_tests)

pub other-number : (a b : ℕ) → (a ≡ b → ⊥) → nat_eq a b ≡ false
other-number a b n = ⊎_elim (λ (e : nat_eq a b ≡ true). absurd (n (same-number a b e))) (λ (e : nat_eq a b ≡ false). e) (cases_Bool (nat_eq a b))

-- an item more
word-more : (before : List Item) (x : Item) → IsInRole x.role x.kept.entry.made → (r : ℕ) → 0 < r
    → word_at (before ++ x ∷ []) r ≡ (if nat_eq r (caller_place x.kept.entry.made.caller) then pin_after (word_at before r)
    (pin_deed x.kept.entry.made.caller x.kept.entry.made.op x.kept.entry.made.reply) else word_at before r)
word-more before x s r pos = ⊎_elim
    (λ (e : is_in (r + 10) x ≡ true). (
    let same : nat_eq r (caller_place x.kept.entry.made.caller) ≡ true = ⊎_elim
    (λ (q : r + 10 ≡ x.role). absurd (let l = s.one in omega (arith, l, q)))
    (λ (q : r + 10 ≡ caller_line x.kept.entry.made.caller). is-same r (caller_place x.kept.entry.made.caller) (omega (arith, q)))
    (in_cases (r + 10) x e) in
    ap pin (of_line_in (r + 10) before x e) ∙ (pin_more (of_line (r + 10) before) x.kept
    ∙ sym (ap (λ b. if b then pin_after (word_at before r) (pin_deed x.kept.entry.made.caller x.kept.entry.made.op x.kept.entry.made.reply) else word_at before r) same))))
    (λ (e : is_in (r + 10) x ≡ false). (
    let other : nat_eq r (caller_place x.kept.entry.made.caller) ≡ false = other-number r
    (caller_place x.kept.entry.made.caller) (λ q. both_ways (is_in (r + 10) x) e (caller_in (r + 10) x (ap (λ z. z + 10) q))) in
    ap pin (of_line_out (r + 10) before x e) ∙ sym (ap (λ b. if b then pin_after (word_at before r)
    (pin_deed x.kept.entry.made.caller x.kept.entry.made.op x.kept.entry.made.reply) else word_at before r) other)))
    (cases_Bool (is_in (r + 10) x))
  where
    is-same : (a b : ℕ) → a ≡ b → nat_eq a b ≡ true
    is-same a b e = grind (arith, nat_tests)

pub object-more : (m : ℕ) → object_of (m + 1) ≡ Some m
object-more m = ap object_of (let same : m + 1 ≡ suc m = omega arith in same)

-- what a take answers is by its caller's pin
abbrev pub TakeAnswers : List (Option ℕ) → Thread → Op → Reply → Type 0
TakeAnswers pins t (op.Line (act.Take v)) r = (slot pins (caller_place t) ≡ None → r ≡ says.Empty) × ((m : ℕ) → slot pins (caller_place t) ≡ Some m → r ≡ says.M record { 0 = m })
TakeAnswers pins t o r = Unit {0}

module _ (f : ℕ → ℕ) where
  abbrev pins : List (Option ℕ)
  pins = row (λ r. object_of (f r))

  abbrev after : Thread → Op → Reply → List (Option ℕ)
  after t o y = row (λ r. object_of (if nat_eq r (caller_place t) then pin_after (f r) (pin_deed t o y) else f r))

  into : (b : Bool) (x y : ℕ) → object_of (if b then x else y) ≡ (if b then object_of x else object_of y)
  into true x y = refl
  into false x y = refl

  -- a deed that puts a word, whatever stood there
  sets : (n w : ℕ) (v : Option ℕ) → 0 < n → n < 9 → object_of w ≡ v → slice_set pins n v ≡ row (λ r. object_of (if nat_eq r n then w else f r))
  sets n w v a b e = row-set (λ r. object_of (f r)) n v a b ∙ row-ext (put_at (λ r. object_of (f r)) n v) (λ r. object_of (if nat_eq r n then w else f r)) (λ r p q.
      sym (into (nat_eq r n) w (f r) ∙ ap (λ z. if nat_eq r n then z else object_of (f r)) e))

  -- an empty pin is emptied
  clears : (n : ℕ) → object_of (f n) ≡ None → pins ≡ row (λ r. object_of (if nat_eq r n then 0 else f r))
  clears n e = row-ext (λ r. object_of (f r)) (λ r. object_of (if nat_eq r n then 0 else f r)) (λ r p q. ⊎_elim
      (λ (s : nat_eq r n ≡ true). ap (λ z. object_of (f z)) (same-number r n s) ∙ (e ∙ sym (ap (λ b. object_of (if b then 0 else f r)) s)))
      (λ (s : nat_eq r n ≡ false). sym (ap (λ b. object_of (if b then 0 else f r)) s))
      (cases_Bool (nat_eq r n)))

  leaves : (n : ℕ) → pins ≡ row (λ r. object_of (if nat_eq r n then f r else f r))
  leaves n = row-ext (λ r. object_of (f r)) (λ r. object_of (if nat_eq r n then f r else f r)) (λ r p q. same (nat_eq r n) (f r))
    where
      same : (b : Bool) (x : ℕ) → object_of x ≡ object_of (if b then x else x)
      same true x = refl
      same false x = refl

  taking : (n : ℕ) (v : Op) (y : Reply) → 0 < n → n < 9 → (o : Option ℕ) → slot pins n ≡ o → (o ≡ None → y ≡ says.Empty) → ((m : ℕ) → o ≡ Some m → y ≡ says.M record { 0 = m })
      → (z : Reply → List (Option ℕ)) → z says.Empty ≡ pins → ((m : ℕ) → z (says.M record { 0 = m }) ≡ slice_set pins n None) → z y ≡ row (λ r. object_of (if nat_eq r n then 0 else f r))
  taking n v y a b None e none some z p q = ap z (none refl) ∙ (p ∙ clears n (sym (row-slot (λ r. object_of (f r)) n a b) ∙ e))
  taking n v y a b (Some m) e none some z p q = ap z (some m refl) ∙ (q m ∙ sets n 0 None a b refl)

  step : (t : Thread) (o : Op) (y : Reply) → IsThread t → IsEvent t o → TakeAnswers pins t o y → pins_by pins t o y ≡ after t o y
  step (M n) (op.Line (act.Read c)) (says.M m) w e k = sets n (m.0 + 1) (Some m.0) (omega (arith, w.0)) (omega (arith, w.1)) (object-more m.0)
  step (M n) (op.Line (act.Await c)) (says.M m) w e k = sets n (m.0 + 1) (Some m.0) (omega (arith, w.0)) (omega (arith, w.1)) (object-more m.0)
  step (M n) (op.Line (act.Take v)) y w e k = taking n (op.Line (act.Take v)) y (omega (arith, w.0))
      (omega (arith, w.1)) (slot pins n) refl k.0 k.1 (λ z. pins_by pins (M n) (op.Line (act.Take v)) z) refl (λ m. refl)
  step (M n) (op.Line (act.Read c)) y w e k = leaves n
  step (M n) (op.Line (act.Await c)) y w e k = leaves n
  step (M n) o y w e k = leaves n
  step (P n) (op.Line (act.Read c)) y w e k = absurd e.0.1
  step (P n) (op.Line (act.Await c)) y w e k = absurd e.0.1
  step (P n) (op.Line (act.Take v)) y w e k = absurd e.0.1
  step (P n) o y w e k = leaves (8 + n)
  step C (op.Line (act.Read c)) y w e k = absurd e.0
  step C (op.Line (act.Await c)) y w e k = absurd e.0
  step C (op.Line (act.Take v)) y w e k = absurd e.0
  step C o y w e k = leaves 0

-- so what the lines say goes on
pub said-more : (before : List Item) (x : Item) → IsInRole x.role x.kept.entry.made → IsThread x.kept.entry.made.caller → IsEvent x.kept.entry.made.caller x.kept.entry.made.op
    → TakeAnswers (said before) x.kept.entry.made.caller x.kept.entry.made.op x.kept.entry.made.reply
    → pins_by (said before) x.kept.entry.made.caller x.kept.entry.made.op x.kept.entry.made.reply ≡ said (before ++ x ∷ [])
said-more before x s w e k =
    step (word_at before) x.kept.entry.made.caller x.kept.entry.made.op x.kept.entry.made.reply w e k
    ∙ row-ext (λ r. object_of (if nat_eq r (caller_place x.kept.entry.made.caller) then pin_after (word_at before r)
    (pin_deed x.kept.entry.made.caller x.kept.entry.made.op x.kept.entry.made.reply) else word_at before r))
    (λ r. object_of (word_at (before ++ x ∷ []) r)) (λ r p q. ap object_of (sym (word-more before x s r p)))
