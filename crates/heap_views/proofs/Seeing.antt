-- What is seen goes on by one entry.
use Rattle.std.proofs.Common.{◌≡◌, ℕ, zero, suc, ◌+◌, ◌<◌, List, [], ◌∷◌, ◌++◌, Bool, true, false, Some, None, length, Result, Ok, Err, take, refl, sym, subst, arith}
use Rattle.std.specs.Prelude.{IfOk, slice_get}
use Rattle.joint_machine.specs.declared.events.Entry.{Entry}
use Rattle.joint_machine.specs.Histories.{Finished}
use Rattle.joint_machine.proofs.Members.{take-next}
use Rattle.joint_replay.specs.declared.state.Verdict.{Verdict}
use Rattle.joint_replay.specs.declared.state.Verdict.TheVariants.{Lawful, Unlawful}
use Rattle.joint_replay.specs.Judging.{Judges}
use Rattle.heap_views.specs.Views.{GoesOn, IsSeenOn, MovesOn, Seen, StepBy, View, ViewStep, is_lawful, is_step, opening_view}

pub if_ok : {T E : Type 0} (r : Result T E) (P Q : T → Type 0) → ((t : T) → P t → Q t) → IfOk r P → IfOk r Q
if_ok (Ok t) P Q f p = f t p
if_ok (Err e) P Q f p = tt

Seen-push : (h : Finished) (old : View) (es : List Entry) (mid new : View) (e : Entry) → Seen h old es mid → ViewStep h e mid new → Seen h old (es ++ e ∷ []) new
Seen-push h old [] mid new e s step = (new, subst (λ v. ViewStep h e v new) s step, refl)
Seen-push h old (x ∷ es) mid new e s step = (s.0, s.1, Seen-push h s.0 es mid new e s.2 step)

-- the verdict of the joint machine is whether the entry is a step
pub judged : (v : Verdict) (h : Finished) (e : Entry) (old new : View) → Judges h e v old.joint new.joint → new.weakened ≡ old.weakened → new.refs ≡ old.refs → MovesOn (is_lawful v) h e old new
judged Lawful h e old new j w r = record { step = j; weakened = w; refs = r }
judged Unlawful h e old new j w r = λ next m. j.0 next.joint m.step

pub goes-moves : (went : Bool) (h : Finished) (e : Entry) (old new : View) → is_step e ≡ true → MovesOn went h e old new → GoesOn went h e old new
goes-moves true h e old new s m = subst (λ b. StepBy b h e old new) (sym s) m
goes-moves false h e old new s m = λ next step. m next (subst (λ b. StepBy b h e old next) s step)

-- one entry more was gone on by, or it is no step
pub seen-on : (went : Bool) (h : Finished) (i : ℕ) (e : Entry) (old new : View) → slice_get h.entries i ≡ Some e
    → Seen h opening_view (take i h.entries) old → GoesOn went h e old new → IsSeenOn went h i new
seen-on true h i e old new t s g = subst (λ es. Seen h opening_view es new) (sym (take-next h.entries i e t)) (Seen-push h opening_view (take i h.entries) old new e s g)
seen-on false h i e old new t s g = record { place = i; within = omega arith; before = old; seen = s; entry = e; there = t; stuck = g }

pub there-is : {A : Type 0} (xs : List A) (i : ℕ) → i < length xs → slice_get xs i ≡ None → ⊥
there-is [] i l e = absurd (omega (arith, l))
there-is (x ∷ xs) zero l e = cc
there-is (x ∷ xs) (suc i) l e = there-is xs i (omega (arith, l)) e
