-- A list of entries has one run at most: each entry leaves the joint machine in one state.
use Rattle.std.proofs.Common.{◌≡◌, ℕ, ap, inl, inr, ◌⊎◌, List, [], ◌∷◌, map, Option, Some, None, refl, sym, subst, ◌∙◌}
use Rattle.joint_machine.specs.declared.names.Cycle.{Cycle}
use Rattle.joint_machine.specs.declared.names.Thread.{Thread}
use Rattle.joint_machine.specs.declared.names.Thread.TheVariants.{M, P, C}
use Rattle.joint_machine.specs.declared.events.Op.{Op}
use Rattle.joint_machine.specs.declared.events.Op.TheVariants as op
use Rattle.joint_machine.specs.declared.events.Reply.{Reply}
use Rattle.joint_machine.specs.Joint.{Joint, JointMarking, opening, with_managed}
use Rattle.joint_machine.specs.Lines.{IsPeerThread}
use Rattle.joint_machine.specs.Run.{Moment, JointStep, JointEvent, JointBegin, JointSweep, JointRestore, joint_restored, IsRunFrom, IsRun}
use Rattle.joint_machine.specs.Managed.{resolved}
use Rattle.std.proofs.lemmas.Option.{same_Some}
use Rattle.joint_machine.specs.Told.{Told, snap_of, sweep_of, resolution_of, Noted}

-- each event leaves one state
one-begin : (j : Joint) (mk : Option JointMarking) (t : Thread) (reply : Reply) (a c : Joint) → JointBegin j mk t reply a → JointBegin j mk t reply c → a ≡ c
one-begin j None t reply a c x y = x.state ∙ sym y.state
one-begin j (Some m) t reply a c x y = x.1 ∙ sym y.1

-- a sweep isn't both allowed and refused
not-both : (t by : Thread) → (t ≡ C) ⊎ (t ≡ by) → IsPeerThread t → (t ≡ by → ⊥) → ⊥
not-both (P n) by e w other = elim e [ inl f ↦ (let g : P n ≡ C = f in cc) | inr f ↦ other f ]
not-both (M n) by e w other = w
not-both C by e w other = w

one-sweep : (j : Joint) (mk : Option JointMarking) (t : Thread) (reply : Reply) (told : Told) (a c : Joint) → JointSweep j mk t reply told a → JointSweep j mk t reply told c → a ≡ c
one-sweep j None t reply told a c x y = x.2 ∙ sym y.2
one-sweep j (Some m) t reply (sweep_of freed) a c x y = elim x [
  | inl p ↦ elim y [ inl q ↦ p.state ∙ sym q.state | inr q ↦ absurd (not-both t m.by p.allowed q.thread q.other) ]
  | inr p ↦ elim y [ inl q ↦ absurd (not-both t m.by q.allowed p.thread p.other) | inr q ↦ p.state ∙ sym q.state ]
]
one-sweep j (Some m) t reply _ a c x y = x.state ∙ sym y.state

one-snap : (j : Joint) (t : Thread) (k : Cycle) (reply : Reply) (told : Told) (a c : Joint) → JointEvent j t (op.Snap k) reply told a → JointEvent j t (op.Snap k) reply told c → a ≡ c
one-snap j t k reply (snap_of freed candidates dead) a c x y = x.state ∙ sym y.state
one-snap j t k reply _ a c x y = absurd x

-- two lists are one where they are one with each element as an option
Some-lists : {A : Type 0} (xs ys : List A) → map Some xs ≡ map Some ys → xs ≡ ys
Some-lists [] [] e = refl
Some-lists [] (y ∷ ys) e = absurd (cc)
Some-lists (x ∷ xs) [] e = absurd (cc)
Some-lists (x ∷ xs) (y ∷ ys) e = (let h : x ≡ y = cc in let t : map Some xs ≡ map Some ys = cc in λ k. h k ∷ Some-lists xs ys t k)

one-restore : (j : Joint) (h : ℕ) (reply : Reply) (a c : Joint) → JointRestore j h reply a → JointRestore j h reply c → a ≡ c
one-restore j h reply a c x y =
    let same : x.peer ≡ y.peer = same_Some x.peer y.peer (sym x.leads ∙ y.leads) in
    x.state ∙ (ap (λ z. (joint_restored j h z).state) same ∙ sym y.state)

one-resolve : (j : Joint) (t : Thread) (k : Cycle) (reply : Reply) (told : Told) (a c : Joint) → JointEvent j t (op.Resolve k) reply told a → JointEvent j t (op.Resolve k) reply told c → a ≡ c
one-resolve j t k reply (resolution_of alive freed) a c x y =
    let same : x.answers ≡ y.answers = Some-lists x.answers y.answers (sym x.all_answered ∙ y.all_answered) in
    x.state ∙ (ap (λ z. record (with_managed j (resolved j.graph.managed z freed)) { answers = [] }) same ∙ sym y.state)
one-resolve j t k reply _ a c x y = absurd x

one-event : (j : Joint) (t : Thread) (o : Op) (reply : Reply) (told : Told) (a c : Joint) → JointEvent j t o reply told a → JointEvent j t o reply told c → a ≡ c
one-event j t (op.Snap k) reply told a c x y = one-snap j t k reply told a c x y
one-event j t op.Begin reply told a c x y = one-begin j j.marking t reply a c x y
one-event j t op.Sweep reply told a c x y = one-sweep j j.marking t reply told a c x y
one-event j t (op.Restore h) reply told a c x y = one-restore j h.0 reply a c x y
one-event j t (op.Resolve k) reply told a c x y = one-resolve j t k reply told a c x y
one-event j t (op.Abandon k) reply told a c x y = x.state ∙ sym y.state
one-event j t _ reply told a c x y = x.state ∙ sym y.state

pub one-step : (j : Joint) (n : Noted) (a c : Joint) → JointStep j n a → JointStep j n c → a ≡ c
one-step j n a c x y = one-event j n.entry.made.caller n.entry.made.op n.entry.made.reply n.told a c x.step y.step

moment-same : (a a' : Joint) (n n' : Noted) (c c' : Joint) → a ≡ a' → n ≡ n' → c ≡ c' → ◌≡◌ {A = Moment} (record { before = a; noted = n; after = c }) (record { before = a'; noted = n'; after = c' })
moment-same a a' n n' c c' e f g = cc

pub heads-same : {A : Type 0} (x y : A) (xs ys : List A) → x ∷ xs ≡ y ∷ ys → x ≡ y
heads-same x y xs ys e = cc

pub tails-same : {A : Type 0} (x y : A) (xs ys : List A) → x ∷ xs ≡ y ∷ ys → xs ≡ ys
tails-same x y xs ys e = cc

pub cons-nil : {A : Type 0} (x : A) (xs : List A) → x ∷ xs ≡ [] → ⊥
cons-nil x xs e = cc

run-from : (i j : Joint) (ms ns : List Moment) → i ≡ j → map (λ (z : Moment). z.noted) ms ≡ map (λ (z : Moment). z.noted) ns → IsRunFrom i ms → IsRunFrom j ns → ms ≡ ns
run-from i j [] [] e p r u = refl
run-from i j [] (n ∷ ns) e p r u = absurd (cons-nil n.noted (map (λ (z : Moment). z.noted) ns) (sym p))
run-from i j (m ∷ ms) [] e p r u = absurd (cons-nil m.noted (map (λ (z : Moment). z.noted) ms) p)
run-from i j (m ∷ ms) (n ∷ ns) e p r u =
    let noted : m.noted ≡ n.noted = heads-same m.noted n.noted (map (λ (z : Moment). z.noted) ms) (map (λ (z : Moment). z.noted) ns) p in
    let before : m.before ≡ n.before = r.0 ∙ (e ∙ sym u.0) in
    let from_m : JointStep n.before n.noted m.after = subst (λ z. JointStep z n.noted m.after) before (subst (λ z. JointStep m.before z m.after) noted r.1) in
    let after : m.after ≡ n.after = one-step n.before n.noted m.after n.after from_m u.1 in
    let head : m ≡ n = moment-same m.before n.before m.noted n.noted m.after n.after before noted after in
    let rest : ms ≡ ns = run-from m.after n.after ms ns after (tails-same m.noted n.noted (map (λ (z : Moment). z.noted) ms) (map (λ (z : Moment). z.noted) ns) p) r.2 u.2 in
    cc

pub one-run : (entries : List Noted) (ms ns : List Moment) → IsRun entries ms → IsRun entries ns → ms ≡ ns
one-run entries ms ns r u = run-from opening opening ms ns refl (r.same ∙ sym u.same) r.steps u.steps
