-- What a reader's entry asks of the order, and what it leaves.
use Rattle.std.proofs.Common.{◌≡◌, ℕ, zero, suc, ◌+◌, ◌-◌, ◌*◌, ◌^◌, ◌<◌, ◌≤◌, true, false, List, [], ◌∷◌, ◌++◌, refl, sym, ap, ◌∙◌, subst, arith, true≢false}
use Rattle.std.specs.Prelude.{None, Some, Option}
use Rattle.joint_machine.specs.declared.names.Cycle.{Cycle}
use Rattle.joint_machine.specs.declared.names.MNum.{MNum}
use Rattle.joint_machine.specs.declared.names.Thread.TheVariants.{M}
use Rattle.joint_machine.specs.declared.lines.Act.{Act}
use Rattle.joint_machine.specs.declared.lines.Act.TheVariants as act
use Rattle.joint_machine.specs.declared.events.Op.TheVariants as op
use Rattle.joint_machine.specs.declared.events.Reply.{Reply}
use Rattle.joint_machine.specs.declared.events.Reply.TheVariants as says
use Rattle.std.proofs.Math.Nat.{one-le-pow}
use mathlib.Core.List.{IsPrefix}
use Rattle.joint_machine.specs.Draws.{numbered}
use Rattle.joint_model.specs.Listed.{Stock}
use Rattle.order_table.specs.declared.views.KeptEntry.{KeptEntry}
use Rattle.order_table.specs.declared.views.View.{View}
use Rattle.order_table.specs.Rows.{at}
use Rattle.order_table.specs.Stages.{IsClosed, stage}
use Rattle.order_table.specs.Rule.{IsBelow, SetsCell, Stands, of_line}
use Rattle.order_table.specs.Tells.{BeginsOneHistory, GrowsByEntry, StaysAs}
use Rattle.order_table.proofs.Pins.{pin_more}
use Rattle.order_table.specs.Owed.{fills, IsLoaded, pin, pin_after, pin_deed, read_of, says_word}
use Rattle.order_table.specs.Views.{known, Owns}
use Rattle.order_table.specs.Allowed.{MayMake, OwesNone}
use Rattle.order_table.proofs.Free.{owing_fills}
use Rattle.order_table.proofs.Held.{fills_read}
use Rattle.weak_wait.specs.declared.reads.Got.{Got}
use Rattle.weak_wait.specs.declared.reads.Got.TheVariants as got
use Rattle.weak_wait.specs.Reads.{Answers, IsExact, IsRead, MayAnswer, cell_of, entry_of, got_of, read_made, reply_of}

-- which answer a reply is
abbrev tag : Reply → ℕ
tag (says.Pending k) = 1
tag (says.Pinned m) = 2
tag says.Unset = 3
tag says.Gone = 4
tag (says.M m) = 5
tag _ = 0

abbrev cycle_in : Reply → ℕ
cycle_in (says.Pending k) = k.0
cycle_in _ = 0

abbrev given : Reply → ℕ
given (says.M m) = m.0
given _ = 0

abbrev object_in : Reply → ℕ
object_in (says.Pinned m) = m.0
object_in _ = 0

pub says_pending : (g : Got) (k : ℕ) → reply_of g ≡ says.Pending record { 0 = k } → g ≡ got.Pending record { 0 = k }
says_pending (got.Pending c) k e = ap (λ (z : ℕ). got.Pending record { 0 = z }) (ap cycle_in e)
says_pending (got.PinHeld m) k e = absurd (let z : 2 ≡ 1 = ap tag e in omega arith)
says_pending got.Unset k e = absurd (let z : 3 ≡ 1 = ap tag e in omega arith)
says_pending got.Gone k e = absurd (let z : 4 ≡ 1 = ap tag e in omega arith)
says_pending (got.Got m) k e = absurd (let z : 5 ≡ 1 = ap tag e in omega arith)

pub says_pinned : (g : Got) (k : ℕ) → reply_of g ≡ says.Pinned record { 0 = k } → g ≡ got.PinHeld record { 0 = k }
says_pinned (got.Pending c) k e = absurd (let z : 1 ≡ 2 = ap tag e in omega arith)
says_pinned (got.PinHeld m) k e = ap (λ (z : ℕ). got.PinHeld record { 0 = z }) (ap object_in e)
says_pinned got.Unset k e = absurd (let z : 3 ≡ 2 = ap tag e in omega arith)
says_pinned got.Gone k e = absurd (let z : 4 ≡ 2 = ap tag e in omega arith)
says_pinned (got.Got m) k e = absurd (let z : 5 ≡ 2 = ap tag e in omega arith)

-- the cell that a read's event reads
read_cell : (a : Act) (c : ℕ) → IsRead a → read_of (op.Line a) ≡ Some c → cell_of a ≡ c
read_cell (act.Read k) c r e = ap (λ o. elim o [ None ↦ 0 | Some z ↦ z ]) e
read_cell (act.Await k) c r e = ap (λ o. elim o [ None ↦ 0 | Some z ↦ z ]) e
read_cell _ c r e = absurd r

pub may_make : (v : View) (reader index : ℕ) (a : Act) (g : Got) → 0 < reader → IsRead a → OwesNone v → MayAnswer v reader a g → MayMake v (1 + reader) (read_made reader index a g) None
may_make v reader index a g pos read owes may = record {
  paid = λ _. owes;
  cycles = λ z. absurd (omega arith);
  cells = λ z. absurd (omega arith);
  pending = λ _ k e. let p = may.pending record { 0 = k } (says_pending g k e) in (p.0, p.1);
  reads = λ _ c w e f. let at : cell_of a ≡ c = read_cell a c read e in let t = may.cell_word w f in let bit = t.0 in let some = one-le-pow reader 2 (omega arith) in
      (omega arith, subst (λ k. IsLoaded v.loads k w) at t.1);
  pinned = λ _. ((λ o e. may.held record { 0 = o } (says_pinned g o e)), λ other. may.empty (λ m e. other m.0 (ap reply_of e)));
  inside = λ _ w e. let t = fills_read (M reader) (op.Line a) (reply_of g) w (owing_fills (pin (known v (reader + 10))) (pin_deed (M reader) (op.Line a) (reply_of g)) w e) in
      (may.cell_word w t.2).0 ∙ ap (λ k. 2 ^ k) (let same : reader ≡ 1 + reader - 1 = omega arith in same);
}

-- an answer is told by its reply
abbrev kind : Got → ℕ
kind g = tag (reply_of g)

abbrev word_in : Option ℕ → ℕ
word_in None = 0
word_in (Some w) = w

-- a reader whose pin is filled may say so
pub may_held : (v : View) (reader : ℕ) (a : Act) (w : ℕ) → 0 < w → w ≡ pin (known v (reader + 10)) → MayAnswer v reader a (got.PinHeld record { 0 = w - 1 })
may_held v reader a w some is = record {
  held = λ m e. let same : w - 1 ≡ m.0 = ap (λ g. object_in (reply_of g)) e in omega arith;
  empty = λ other. absurd (other record { 0 = w - 1 } refl);
  pending = λ k e. absurd (let z : 2 ≡ 1 = ap kind e in omega arith);
  cell_word = λ x e. absurd (true≢false (ap (λ o. elim o [ None ↦ true | Some z ↦ false ]) e));
  number = λ m e. absurd (let z : 2 ≡ 5 = ap kind e in omega arith);
}

-- one that is inside, whose pin is empty, may answer by what it loaded
pub may_inside : (v : View) (reader : ℕ) (a : Act) (w : ℕ) (g : Got) → got_of w g → w ≤ 4294967296
    → v.inside ≡ 2 ^ reader → IsLoaded v.loads (cell_of a) w → pin (known v (reader + 10)) ≡ 0 → MayAnswer v reader a g
may_inside v reader a zero g t small within loaded empty = subst (MayAnswer v reader a) (sym (t.0 refl)) record {
  held = λ m e. absurd (let z : 3 ≡ 2 = ap kind e in omega arith);
  empty = λ _. empty;
  pending = λ k e. absurd (let z : 3 ≡ 1 = ap kind e in omega arith);
  cell_word = λ x e. (within, subst (IsLoaded v.loads (cell_of a)) (ap word_in e) loaded);
  number = λ m e. absurd (let z : 3 ≡ 5 = ap kind e in omega arith);
}
may_inside v reader a (suc zero) g t small within loaded empty = subst (MayAnswer v reader a) (sym (t.1 refl)) record {
  held = λ m e. absurd (let z : 4 ≡ 2 = ap kind e in omega arith);
  empty = λ _. empty;
  pending = λ k e. absurd (let z : 4 ≡ 1 = ap kind e in omega arith);
  cell_word = λ x e. (within, subst (IsLoaded v.loads (cell_of a)) (ap word_in e) loaded);
  number = λ m e. absurd (let z : 4 ≡ 5 = ap kind e in omega arith);
}
may_inside v reader a (suc (suc n)) g t small within loaded empty = subst (MayAnswer v reader a) (sym (t.2 (suc n) (omega arith) (omega arith))) record {
  held = λ m e. absurd (let z : 5 ≡ 2 = ap kind e in omega arith);
  empty = λ _. empty;
  pending = λ k e. absurd (let z : 5 ≡ 1 = ap kind e in omega arith);
  cell_word = λ x e. (within, subst (IsLoaded v.loads (cell_of a)) (let there : suc n + 1 ≡ x = ap word_in e in let here : suc (suc n) ≡ x = omega arith in here) loaded);
  number = λ m e. let same : suc n ≡ m.0 = ap (λ z. given (reply_of z)) e in (omega arith, omega arith);
}

-- a read that gives an object fills its reader's pin
gives_pin : (reader : ℕ) (a : Act) (m : MNum) → IsRead a → pin_deed (M reader) (op.Line a) (says.M m) ≡ fills (m.0 + 1)
gives_pin reader (act.Read k) m r = refl
gives_pin reader (act.Await k) m r = refl
gives_pin reader _ m r = absurd r

pub pin_filled : (reader index : ℕ) (a : Act) (g : Got) (number : ℕ) (x y : View) (m : MNum) → IsRead a → g ≡ got.Got m
    → GrowsByEntry x y (1 + reader) (entry_of reader index a g number) → pin (known y (reader + 10)) ≡ m.0 + 1
pin_filled reader index a g number x y m read is grows = ap pin grows.caller ∙ (pin_more (known x (reader + 10)) (entry_of reader index a g number)
    ∙ ap (pin_after (pin (known x (reader + 10)))) (ap (λ z. pin_deed (M reader) (op.Line a) (reply_of z)) is ∙ gives_pin reader a m read))

-- an answer by a word is neither pending nor a filled pin, and it is `unset` by 0 alone
by_word : (w : ℕ) (g : Got) → got_of w g → (kind g ≡ 1 → ⊥) × (kind g ≡ 2 → ⊥) × (kind g ≡ 3 → w ≡ 0)
by_word zero g t = let e : kind g ≡ 3 = ap kind (t.0 refl) in ((λ z. omega arith), (λ z. omega arith), λ z. refl)
by_word (suc zero) g t = let e : kind g ≡ 4 = ap kind (t.1 refl) in ((λ z. omega arith), (λ z. omega arith), λ z. absurd (omega arith))
by_word (suc (suc n)) g t = let e : kind g ≡ 5 = ap kind (t.2 (suc n) (omega arith) (omega arith)) in ((λ z. omega arith), (λ z. omega arith), λ z. absurd (omega arith))

pub not_pending : (w : ℕ) (g : Got) → got_of w g → (k : Cycle) → g ≡ got.Pending k → ⊥
not_pending w g t k e = (by_word w g t).0 (ap kind e)

-- what a read inside promises
pub inside_answers : (reader index : ℕ) (a : Act) (g : Got) (number word : ℕ) (v x y w : View) (es fs : Stock) → StaysAs v x → GrowsByEntry x y (1 + reader) (entry_of reader index a g number)
    → ((i : ℕ) → IsBelow number (known x i)) → BeginsOneHistory y → y.holds ≡ x.holds → w.known ≡ y.known → w.owns ≡ y.owns → w.holds ≡ y.holds → got_of word g → pin (known v (reader + 10)) ≡ 0
    → (word ≡ 0 → (k : KeptEntry) → Stands (known v 0) k → SetsCell k (cell_of a) → ⊥) → (Owns v 0 → IsClosed (known v 0) × (word ≡ says_word (known v 0) (cell_of a)))
    → fs.entries ≡ es.entries ++ numbered number (read_made reader index a g) ∷ [] → fs.spare + 1 ≡ es.spare → Answers reader index a number g v w es fs
inside_answers reader index a g number word v x y w es fs stays grows above one held known_is owns_is holds_is by empty unset owner entries spare =
    let before : (i : ℕ) → known x i ≡ known v i = λ i. ap (λ ls. at [] ls i) stays.known in
    let after : (i : ℕ) → known w i ≡ known y i = λ i. ap (λ ls. at [] ls i) known_is in
    let k : KeptEntry = entry_of reader index a g number in
    let kinds = by_word word g by in record {
      reads = record {
        grows = record {
          role = after (1 + reader) ∙ (grows.role ∙ ap (λ ks. ks ++ k ∷ []) (before (1 + reader)));
          caller = after (reader + 10) ∙ (grows.caller ∙ ap (λ ks. ks ++ k ∷ []) (before (reader + 10)));
          others = λ i not_role not_caller. after i ∙ (grows.others i not_role not_caller ∙ before i);
          owns = owns_is ∙ (grows.owns ∙ stays.owns);
        };
        above = λ i. subst (IsBelow number) (before i) (above i);
        one_history = record { whole = one.whole; numbers = one.numbers; begins = λ i. subst (λ ks. IsPrefix ks (of_line i one.whole)) (sym (after i)) (one.begins i) };
        holds = holds_is ∙ (held ∙ stays.holds);
        held = λ m. ((λ e. absurd (kinds.1 (ap kind e))), λ e. absurd (omega arith));
        pending = λ c e. absurd (kinds.0 (ap kind e));
        unset = λ e. unset (kinds.2 (ap kind e));
        exact = λ owns. let o = owner owns in record {
          held = λ m e. absurd (omega arith);
          pending = λ _ c e. absurd (let odd = o.0.1 in omega arith);
          cell_word = λ _ _. subst (λ z. got_of z g) o.1 by;
        };
      };
      entries = entries;
      spare = spare;
    }

-- the same, of a view that knows, owns and holds the same
pub answers_from : (reader index : ℕ) (a : Act) (number : ℕ) (g : Got) (v u w : View) (es fs : Stock) → u.known ≡ v.known
    → u.owns ≡ v.owns → u.holds ≡ v.holds → Answers reader index a number g u w es fs → Answers reader index a number g v w es fs
answers_from reader index a number g v u w es fs knows owns holds t =
    let same : (i : ℕ) → known u i ≡ known v i = λ i. ap (λ ls. at [] ls i) knows in
    let r = t.reads in
    let k : KeptEntry = entry_of reader index a g number in record {
      reads = record {
        grows = record {
          role = r.grows.role ∙ ap (λ ks. ks ++ k ∷ []) (same (1 + reader));
          caller = r.grows.caller ∙ ap (λ ks. ks ++ k ∷ []) (same (reader + 10));
          others = λ i not_role not_caller. r.grows.others i not_role not_caller ∙ same i;
          owns = r.grows.owns ∙ owns;
        };
        above = λ i. subst (IsBelow number) (same i) (r.above i);
        one_history = r.one_history;
        holds = r.holds ∙ holds;
        held = λ m. ((λ e. ap pin (sym (same (reader + 10))) ∙ (r.held m).0 e), λ e. (r.held m).1 (ap pin (same (reader + 10)) ∙ e));
        pending = λ c e ended. r.pending c e (subst (λ ks. 2 * c.0 + 1 ≤ stage ks) (sym (same 0)) ended);
        unset = λ e y st. r.unset e y (subst (λ ks. Stands ks y) (sym (same 0)) st);
        exact = λ o. subst (λ (z : List KeptEntry × List KeptEntry). IsExact z.0 z.1 (cell_of a) g) (λ i. (same 0 i, same (reader + 10) i)) (r.exact (subst (λ os. at false os 0 ≡ true) (sym owns) o));
      };
      entries = t.entries;
      spare = t.spare;
    }
