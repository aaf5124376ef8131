-- Two lists whose entries are numbered one after the other when they are put into one: what comes next, and that the
-- followers of a leader come right after it.
use Rattle.std.proofs.Common.{◌≡◌, ℕ, suc, ◌+◌, ◌≤◌, inl, inr, Bool, true, false, List, [], ◌∷◌, ◌++◌, Option, Some, None, nat_lt, arith, refl, subst, sym, ap, ◌∙◌}
use Rattle.std.specs.Prelude.{if◌then◌else◌, MatchOption}
use Rattle.std.proofs.lemmas.Bool.{cases_lt, ltb-true, ltb-false}
use Rattle.joint_machine.specs.declared.names.HNum.{HNum}
use Rattle.joint_machine.specs.declared.events.Entry.{Entry}
use Rattle.joint_machine.specs.Histories.{NumberedFrom}
use Rattle.joint_model.specs.Following.{follower_of, followers_of}
use Rattle.joint_model.specs.Merged.{entries_below, entries_from, merged, GoesOnInOther, IsNumbered}
use Rattle.joint_machine.proofs.Members.{Contains-here}
use Rattle.joint_model.proofs.Merging.{merged-other, NumberedFrom-high}

takes-other : (xs ys : List Entry) (y : Entry) → GoesOnInOther xs (y ∷ ys) → merged xs (y ∷ ys) ≡ y ∷ merged xs ys
takes-other [] ys y g = refl
takes-other (x ∷ xs) ys y g = by (nat_lt y.number x.number) refl
  where
    by : (b : Bool) → nat_lt y.number x.number ≡ b
        → (if b then y ∷ entries_below x.number ys else []) ++ x ∷ merged xs
        (if b then entries_from x.number ys else y ∷ ys) ≡ y ∷ (entries_below x.number ys ++ x ∷ merged xs (entries_from x.number ys))
    by true e = refl
    by false e = absurd (omega (arith, ltb-false y.number x.number e, g))

takes-one : (xs ys : List Entry) (x : Entry) → (GoesOnInOther (x ∷ xs) ys → ⊥) → merged (x ∷ xs) ys ≡ x ∷ merged xs ys
takes-one xs [] x n = refl
takes-one xs (y ∷ ys) x n = by (nat_lt y.number x.number) refl
  where
    by : (b : Bool) → nat_lt y.number x.number ≡ b
        → (if b then y ∷ entries_below x.number ys else []) ++ x ∷ merged xs (if b then entries_from x.number ys else y ∷ ys) ≡ x ∷ merged xs (y ∷ ys)
    by true e = absurd (n (ltb-true y.number x.number e))
    by false e = refl

-- a follower's number is no higher than that of its place
no-higher : (e : Entry) (i k : ℕ) (h : HNum) → e.number + i ≡ k → (follower_of e i h).number ≤ k
no-higher e i k h p = omega (arith, p)

-- followers of the one list come before all that is left
follow-one : (k : ℕ) (e : Entry) (i : ℕ) (hs : List HNum) (xs ys : List Entry) → e.number + i ≡ k → NumberedFrom k (merged (followers_of e i hs ++ xs) ys)
    → merged (followers_of e i hs ++ xs) ys ≡ followers_of e i hs ++ merged xs ys
follow-one k e i [] xs ys p n = refl
follow-one k e i (h ∷ hs) xs ys p n =
    let f = follower_of e i h in
    let rest = followers_of e (suc i) hs ++ xs in
    let first : merged (f ∷ rest) ys ≡ f ∷ merged rest ys = takes-one rest ys f (before ys n) in
    let later : NumberedFrom (k + 1) (merged rest ys) = (subst (NumberedFrom k) first n).1 in
    first ∙ ap (λ zs. f ∷ zs) (follow-one (k + 1) e (suc i) hs xs ys (omega (arith, p)) later)
  where
    before : (zs : List Entry) → NumberedFrom k (merged (follower_of e i h ∷ (followers_of e (suc i) hs ++ xs)) zs) → GoesOnInOther (follower_of e i h ∷ (followers_of e (suc i) hs ++ xs)) zs → ⊥
    before [] m g = g
    before (z ∷ zs) m g =
        let there = subst (NumberedFrom k) (takes-other (follower_of e i h ∷ (followers_of e (suc i) hs ++ xs)) zs z g) m in
        let low = no-higher e i k h p in
        omega (arith, g, there.0, low)

-- and so do those of the other
follow-other : (k : ℕ) (e : Entry) (i : ℕ) (hs : List HNum) (xs ys : List Entry) → e.number + i ≡ k → NumberedFrom k (merged xs (followers_of e i hs ++ ys))
    → merged xs (followers_of e i hs ++ ys) ≡ followers_of e i hs ++ merged xs ys
follow-other k e i [] xs ys p n = refl
follow-other k e i (h ∷ hs) xs ys p n =
    let f = follower_of e i h in
    let rest = followers_of e (suc i) hs ++ ys in
    let first : merged xs (f ∷ rest) ≡ f ∷ merged xs rest = takes-other xs rest f (before xs n) in
    let later : NumberedFrom (k + 1) (merged xs rest) = (subst (NumberedFrom k) first n).1 in
    first ∙ ap (λ zs. f ∷ zs) (follow-other (k + 1) e (suc i) hs xs ys (omega (arith, p)) later)
  where
    before : (zs : List Entry) → NumberedFrom k (merged zs (follower_of e i h ∷ (followers_of e (suc i) hs ++ ys))) → GoesOnInOther zs (follower_of e i h ∷ (followers_of e (suc i) hs ++ ys))
    before [] m = tt
    before (z ∷ zs) m = elim (cases_lt (follower_of e i h).number z.number) [
      | inl l ↦ l
      | inr g ↦
          let f = follower_of e i h in
          let rest = followers_of e (suc i) hs ++ ys in
          let there = subst (NumberedFrom k) (takes-one zs (f ∷ rest) z (λ l. omega (arith, l, g))) m in
          let high : k + 1 ≤ f.number = NumberedFrom-high (k + 1) (merged zs (f ∷ rest)) there.1 f (merged-other zs (f ∷ rest) f (Contains-here f rest)) in
          absurd (omega (arith, high, no-higher e i k h p))
    ]

-- the next leader of the one list, and then its followers
pub leads-one : (xs ys zs : List Entry) (e : Entry) (hs : List HNum) → IsNumbered (merged xs ys) → xs ≡ e ∷ (followers_of e 1 hs ++ zs) → (GoesOnInOther xs ys → ⊥)
    → merged xs ys ≡ e ∷ (followers_of e 1 hs ++ merged zs ys)
leads-one xs ys zs e hs n is g =
    let first : merged xs ys ≡ e ∷ merged (followers_of e 1 hs ++ zs) ys = ap (λ ws. merged ws ys) is
    ∙ takes-one (followers_of e 1 hs ++ zs) ys e (λ h. g (subst (λ ws. GoesOnInOther ws ys) (sym is) h)) in
    let numbered = subst (NumberedFrom n.0) first n.1 in
    first ∙ ap (λ ws. e ∷ ws) (follow-one (n.0 + 1) e 1 hs zs ys (omega (arith, numbered.0)) numbered.1)

-- that of the other list
pub leads-other : (xs ys zs : List Entry) (e : Entry) (hs : List HNum) → IsNumbered (merged xs ys) → ys ≡ e ∷ (followers_of e 1 hs ++ zs) → GoesOnInOther xs ys
    → merged xs ys ≡ e ∷ (followers_of e 1 hs ++ merged xs zs)
leads-other xs ys zs e hs n is g =
    let first : merged xs ys ≡ e ∷ merged xs (followers_of e 1 hs ++ zs) = ap (merged xs) is ∙ takes-other xs (followers_of e 1 hs ++ zs) e (subst (GoesOnInOther xs) is g) in
    let numbered = subst (NumberedFrom n.0) first n.1 in
    first ∙ ap (λ ws. e ∷ ws) (follow-other (n.0 + 1) e 1 hs xs zs (omega (arith, numbered.0)) numbered.1)

-- where the other list goes on and has nothing, nothing is left
pub none-other : (xs ys zs : List Entry) → GoesOnInOther xs ys → (ys ≡ []) × (zs ≡ []) → (merged xs ys ≡ []) × (merged xs zs ≡ [])
none-other [] ys zs g n = n
none-other (x ∷ xs) ys zs g n = absurd (subst (GoesOnInOther (x ∷ xs)) n.0 g)

-- the one list goes on only where it has something
pub none-one : (xs ys zs : List Entry) → (GoesOnInOther xs ys → ⊥) → (xs ≡ []) × (zs ≡ []) → (merged xs ys ≡ []) × (merged zs ys ≡ [])
none-one xs ys zs g n = absurd (g (subst (λ ws. GoesOnInOther ws ys) (sym n.0) tt))

-- an answer that says more says less
pub said : {A : Type 0} (o : Option A) (P P' : Type 0) (Q Q' : A → Type 0) → (P → P') → ((x : A) → Q x → Q' x) → MatchOption o P Q → MatchOption o P' Q'
said None P P' Q Q' f g h = f h
said (Some x) P P' Q Q' f g h = g x h

-- what is left after a follower is numbered too
pub numbered-rest : (e : Entry) (i : ℕ) (own hs : List HNum) (h : HNum) (es : List Entry) → own ≡ h ∷ hs → IsNumbered (followers_of e i own ++ es) → IsNumbered (followers_of e (i + 1) hs ++ es)
numbered-rest e i own hs h es is n =
    let all : NumberedFrom n.0 (follower_of e i h ∷ (followers_of e (suc i) hs ++ es)) = subst (λ gs. NumberedFrom n.0 (followers_of e i gs ++ es)) is n.1 in
    (n.0 + 1, subst (λ j. NumberedFrom (n.0 + 1) (followers_of e j hs ++ es)) (omega arith) all.1)
