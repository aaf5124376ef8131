-- What a seat owns and knows after it gave lines away, and after it took another seat in, line by line.
--
-- A mask has true at the lines that go. The place of a role's line or of a caller's in its mask is true, and all others
-- are false; the rest is read off place by place.
use Rattle.std.proofs.Common.{◌≡◌, ◌⊎◌, inl, inr, ⊎_elim, ℕ, ◌+◌, Bool, true, false, not, List, [], refl, sym, ap, ◌∙◌, subst}
use Rattle.std.proofs.lemmas.Bool.{cases_eq, and_parts, or_cases, not-true, both_ways}
use Rattle.joint_machine.specs.declared.names.Thread.{Thread}
use Rattle.joint_machine.specs.declared.names.Thread.TheVariants.{M, P, C}
use Rattle.order_table.specs.declared.views.Role.{Role}
use Rattle.order_table.specs.declared.views.KeptEntry.{KeptEntry}
use Rattle.order_table.specs.declared.views.View.{View}
use Rattle.joint_machine.specs.HistoryLines.{caller_line}
use Rattle.order_table.specs.Rows.{at, put}
use Rattle.order_table.specs.Views.{Owns, known, role_line, giving, given, hearing, lines_of_role, lines_of_caller, lines_of_none}
use Rattle.order_table.specs.Tells.{Compares, GrowsByEntry, Parts, IsOfRole, IsOfCaller, IsOfNone, TakesIn}
use Rattle.order_table.proofs.Places.{at_put_here, at_put_else, at_joined, at_common, at_without, at_longest, longer_cases, or_true}
use Rattle.joint_machine.proofs.Deciding.{and-both}

-- the mask has just the lines of this kind
pub record Marks (Goes : ℕ → Type 0) (lines : List Bool) : Type 0 where
  pub here : (i : ℕ) → Goes i → at false lines i ≡ true
  pub elsewhere : (i : ℕ) → (Goes i → ⊥) → at false lines i ≡ false

pub parts : (Goes : ℕ → Type 0) (lines : List Bool) (v left right : View) → Marks Goes lines → left ≡ giving lines v → right ≡ given lines v → Parts Goes v left right
parts Goes lines v left right marks e f = subst (λ l. Parts Goes v l right) (sym e) (subst (Parts Goes v (giving lines v)) (sym f) record {
  went = λ i g o. at_common v.owns lines i ∙ and-both (at false v.owns i) (at false lines i) o (marks.here i g);
  gone = λ i g o. both_ways (at false lines i) (not-true (at false lines i) (and_parts (at false v.owns i) (not (at false lines i)) (sym (at_without v.owns lines i) ∙ o)).1) (marks.here i g);
  stayed = λ i n o. at_without v.owns lines i ∙ and-both (at false v.owns i) (not (at false lines i)) o (ap not (marks.elsewhere i n));
  only = λ i n o. both_ways (at false lines i) (marks.elsewhere i n) (and_parts (at false v.owns i) (at false lines i) (sym (at_common v.owns lines i) ∙ o)).1;
  had = λ i. (
    (λ o. (and_parts (at false v.owns i) (not (at false lines i)) (sym (at_without v.owns lines i) ∙ o)).0),
    (λ o. (and_parts (at false v.owns i) (at false lines i) (sym (at_common v.owns lines i) ∙ o)).0),
  );
  know = λ i. (refl, refl);
})

pub marks_one : (k : ℕ) → Marks (λ i. i ≡ k) (put false [] k true)
marks_one k = record {
  here = λ i e. subst (λ j. at false (put false [] k true) j ≡ true) (sym e) (at_put_here false [] k true);
  elsewhere = λ i n. at_put_else false [] k i true n;
}

marks_two : (a b : ℕ) → Marks (λ i. (i ≡ b) ⊎ (i ≡ a)) (put false (put false [] a true) b true)
marks_two a b = record {
  here = λ i e. ⊎_elim
      (λ (s : i ≡ b). subst (λ j. at false (put false (put false [] a true) b true) j ≡ true) (sym s) (at_put_here false (put false [] a true) b true))
      (λ (s : i ≡ a). ⊎_elim
      (λ (t : i ≡ b). subst (λ j. at false (put false (put false [] a true) b true) j ≡ true) (sym t) (at_put_here false (put false [] a true) b true))
      (λ n. at_put_else false (put false [] a true) b i true n ∙ (marks_one a).here i s) (cases_eq i b)) e;
  elsewhere = λ i n. at_put_else false (put false [] a true) b i true (λ s. n (inl s)) ∙ at_put_else false [] a i true (λ s. n (inr s));
}

pub marks_role : (r : Role) → Marks (IsOfRole r) (lines_of_role r)
marks_role r = marks_one (role_line r)

pub marks_caller : (t : Thread) → Marks (IsOfCaller t) (lines_of_caller t)
marks_caller (M n) = marks_two (1 + n) (caller_line (M n))
marks_caller (P n) = marks_one (caller_line (P n))
marks_caller C = marks_one (caller_line C)

pub marks_none : Marks IsOfNone lines_of_none
marks_none = record { here = λ i e. absurd e; elsewhere = λ i n. refl }

-- who makes an entry owns what it owned
pub still_owns : {v w : View} {r : ℕ} {k : KeptEntry} → GrowsByEntry v w r k → (i : ℕ) → Owns v i → Owns w i
still_owns g i o = subst (λ os. at false os i ≡ true) (sym g.owns) o

-- what a seat learned of another, once it has compared the two
pub taken : (v w u : View) → Compares (hearing v w) u → TakesIn v w u
taken v w u t = record {
  owns = λ i. (
    (λ o. subst (λ z. Owns z i) (sym t.is) (at_joined v.owns w.owns i ∙ or_true (at false v.owns i) (at false w.owns i) o)),
    (λ o. or_cases (at false v.owns i) (at false w.owns i) (sym (at_joined v.owns w.owns i) ∙ subst (λ z. Owns z i) t.is o)),
  );
  either = λ i. let is = ap (λ z. known z i) t.is ∙ at_longest v.known w.known i in
      ⊎_elim (λ e. inr (is ∙ e.0)) (λ e. inl (is ∙ e.0)) (longer_cases (known v i) (known w i));
  knew = t.knew;
  heard = t.heard;
  owned = t.owned;
  taken = t.taken;
}
