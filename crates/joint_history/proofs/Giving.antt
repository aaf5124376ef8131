-- A desk gives its callers out: who is given out is its thread's caller and knows nothing, and each thread's caller
-- still waits or was given out.
use Rattle.std.proofs.Common.{◌≡◌, ◌⊎◌, inl, inr, ⊎_elim, ℕ, ◌≤◌, Bool, true, false, List, [], ◌∷◌, ◌++◌, length, get_or, Option, Some, None, refl, sym, ap, ◌∙◌, subst, arith}
use Rattle.std.specs.Prelude.{Contains, IfSome, IsSome, if◌then◌else◌, nat_le, option_to_list, slice_get, slice_set}
use Rattle.std.proofs.lemmas.Bool.{cases_eq, leb-true}
use Rattle.std.proofs.lemmas.List.Elements.{Contains-append_left, Contains-append_right}
use Rattle.std.proofs.lemmas.Option.{slice_get_read}
use Rattle.joint_machine.specs.declared.names.Thread.{Thread}
use Rattle.joint_machine.specs.declared.names.Thread.TheVariants.{M, P, C}
use Rattle.joint_machine.specs.Control.{caller_place}
use Rattle.joint_machine.specs.Lines.{IsThread}
use Rattle.joint_machine.proofs.Joining.{slice_get-set_other}
use Rattle.joint_machine.proofs.Members.{Contains-cons_cases, Contains-here, Contains-map, Contains-map_cases, Contains-there}
use Rattle.joint_history.specs.Callers.{IsOfRun, KnowsNothing, Pass}
use Rattle.joint_history.specs.Desks.{AreAll, IsDesk, Waiting, WaitsAt, flat, has_thread, thread_of, waits, without_caller}
use Rattle.joint_history.specs.Ending.{HasAll, StillWaits, threads_of}
use Rattle.joint_history.proofs.Ended.{one_at_place, thread_at_place}
use Rattle.joint_history.proofs.LastLines.{place_small}
use Rattle.joint_machine.proofs.Deciding.{and-true}

has_is_thread : (d : Waiting) (t : Thread) → d.managed ≤ 8 → d.peers ≤ 8 → has_thread d t ≡ true → IsThread t
has_is_thread d (M n) m p e = let w = and-true (nat_le 1 n) (nat_le n d.managed) e in let a = leb-true 1 n w.0 in let b = leb-true n d.managed w.1 in (a, omega (arith, b, m))
has_is_thread d (P n) m p e = let w = and-true (nat_le 1 n) (nat_le n d.peers) e in let a = leb-true 1 n w.0 in let b = leb-true n d.peers w.1 in (a, omega (arith, b, p))
has_is_thread d C m p e = tt

-- who is given out
abbrev pub IsNew : Thread → Option Pass → Type 0
IsNew t o = IfSome o (λ p. (p.thread ≡ t) × KnowsNothing p.view)

new_at : (t : Thread) (i : ℕ) (o : Option (Option Pass)) → thread_of i ≡ t → ((q : Option Pass) → o ≡ Some q → WaitsAt i q) → IsNew t (flat o)
new_at t i None e w = tt
new_at t i (Some None) e w = tt
new_at t i (Some (Some p)) e w = let a = w (Some p) refl in (a.0 ∙ e, a.1)

pub given_is_new : (d : Waiting) (t : Thread) → IsDesk d → IsNew t (waits d t)
given_is_new d t k = by (has_thread d t) refl
  where
    by : (b : Bool) → has_thread d t ≡ b → IsNew t (if b then flat (slice_get d.callers (caller_place t)) else None)
    by true e = new_at t (caller_place t) (slice_get d.callers (caller_place t)) (thread_at_place t (has_is_thread d t k.managed_few k.peers_few e)) (λ q s. k.each (caller_place t) q s)
    by false e = tt

pub given_thread : (t : Thread) (o : Option Pass) → IsNew t o → IfSome o (λ p. p.thread ≡ t)
given_thread t None w = tt
given_thread t (Some p) w = w.0

pub given_nothing : (t : Thread) (o : Option Pass) → IsNew t o → IfSome o (λ p. KnowsNothing p.view)
given_nothing t None w = tt
given_nothing t (Some p) w = w.1

-- who is given out is one of the run's threads
is_of_run : (d : Waiting) (managed peers : ℕ) (t : Thread) → IsThread t → has_thread d t ≡ true → d.managed ≡ managed → d.peers ≡ peers → IsOfRun managed peers t
is_of_run d managed peers (M n) is e m p = let b = leb-true n d.managed (and-true (nat_le 1 n) (nat_le n d.managed) e).1 in (is, omega (arith, b, m), tt)
is_of_run d managed peers (P n) is e m p = let b = leb-true n d.peers (and-true (nat_le 1 n) (nat_le n d.peers) e).1 in (is, tt, omega (arith, b, p))
is_of_run d managed peers C is e m p = (tt, tt, tt)

pub given_of_run : (d : Waiting) (managed peers : ℕ) (t : Thread) → IsDesk d → true ≡ has_thread d t → d.managed ≡ managed → d.peers ≡ peers → IfSome (waits d t) (λ p. IsOfRun managed peers p.thread)
given_of_run d managed peers t k has m p = by (waits d t) (given_is_new d t k)
  where
    of_run : IsOfRun managed peers t
    of_run = is_of_run d managed peers t (has_is_thread d t k.managed_few k.peers_few (sym has)) (sym has) m p

    by : (o : Option Pass) → IsNew t o → IfSome o (λ q. IsOfRun managed peers q.thread)
    by None w = tt
    by (Some q) w = subst (IsOfRun managed peers) (sym w.0) of_run

-- whoever was there is among those with one more
more_threads : (o : Option Pass) (ps : List Pass) (u : Thread) → Contains (threads_of ps) u → Contains (threads_of (option_to_list o ++ ps)) u
more_threads None ps u c = c
more_threads (Some p) ps u c = Contains-there u p.thread (threads_of ps) c

the_one : (t : Thread) (o : Option Pass) (ps : List Pass) → IsNew t o → IsSome o → Contains (threads_of (option_to_list o ++ ps)) t
the_one t None ps w s = absurd (cc)
the_one t (Some p) ps w s = subst (Contains (p.thread ∷ threads_of ps)) w.0 (Contains-here p.thread (threads_of ps))

pub still_has_all : (d : Waiting) (t : Thread) (ps : List Pass) → IsDesk d → HasAll d ps → HasAll (without_caller d t) (option_to_list (waits d t) ++ ps)
still_has_all d t ps k all = by (has_thread d t) refl
  where
    o : Option Pass
    o = flat (slice_get d.callers (caller_place t))

    by : (b : Bool) → has_thread d t ≡ b → HasAll (if b then record d { callers = slice_set d.callers (caller_place t) None } else d) (option_to_list (if b then o else None) ++ ps)
    by false e u is = all u is
    by true e u is =
        let thread = has_is_thread d t k.managed_few k.peers_few e in
        let new : IsNew t o = new_at t (caller_place t) (slice_get d.callers (caller_place t)) (thread_at_place t thread) (λ q s. k.each (caller_place t) q s) in
        ⊎_elim
        (λ (s : StillWaits d u). ⊎_elim
        (λ (same : caller_place u ≡ caller_place t). inr (subst (Contains (threads_of (option_to_list o ++ ps))) (sym (one_at_place u t is thread same))
        (the_one t o ps new (subst (λ j. IsSome (flat (slice_get d.callers j))) same s))))
        (λ (other : caller_place u ≡ caller_place t → ⊥). inl (subst (λ z. IsSome (flat z)) (sym (slice_get-set_other d.callers (caller_place t) (caller_place u) None other)) s))
        (cases_eq (caller_place u) (caller_place t)))
        (λ c. inr (more_threads o ps u c))
        (all u is)

if_so : {A : Type 0} (b : Bool) → true ≡ b → (x y : A) → (if b then x else y) ≡ x
if_so true e x y = refl
if_so false e x y = absurd (cc)

-- what is read at the thread's place is its caller
pub given_out : (d : Waiting) (t : Thread) (place : ℕ) (o : Option Pass) → IsDesk d → true ≡ has_thread d t → place ≡ caller_place t → o ≡ get_or d.callers place o → o ≡ waits d t
given_out d t place o k h at v =
    let small = place_small t (has_is_thread d t k.managed_few k.peers_few (sym h)) in
    let places = k.places in
    let read = slice_get_read d.callers (length d.callers) place o refl (omega (arith, at, small, places)) v in
    sym (if_so (has_thread d t) h (flat (slice_get d.callers (caller_place t))) None ∙ ap flat (subst (λ j. slice_get d.callers j ≡ Some o) at read))

-- once its place is empty, each thread's caller still waits or was given out
pub left_desk : (d : Waiting) (t : Thread) (place : ℕ) (o : Option Pass) (ps : List Pass) → IsDesk d → true ≡ has_thread d t → place ≡ caller_place t
    → o ≡ waits d t → HasAll d ps → (left : Option Pass) → left ≡ None → HasAll (record d { callers = slice_set d.callers place left }) (option_to_list o ++ ps)
left_desk d t place o ps k h at e all left empty =
    subst (λ q. HasAll (record d { callers = slice_set d.callers place q }) (option_to_list o ++ ps)) (sym empty)
    (subst (λ j. HasAll (record d { callers = slice_set d.callers j None }) (option_to_list o ++ ps)) (sym at)
    (subst (λ (w : Waiting). HasAll w (option_to_list o ++ ps)) (if_so (has_thread d t) h (record d { callers = slice_set d.callers (caller_place t) None }) d)
    (subst (λ z. HasAll (without_caller d t) (option_to_list z ++ ps)) (sym e) (still_has_all d t ps k all))))

-- at first all wait
pub all_wait : (d : Waiting) → AreAll d.callers → HasAll d []
all_wait d a t is = let w = a.placed (caller_place t) (place_small t is) in inl (subst (λ z. IsSome (flat z)) (sym w.1) refl)

pub has_all_same : (d : Waiting) (ps qs : List Pass) → threads_of ps ≡ threads_of qs → HasAll d ps → HasAll d qs
has_all_same d ps qs e all t is = subst (λ ts. StillWaits d t ⊎ Contains ts t) e (all t is)

-- who was given out may stand last as well as first
pub has_all_last : (d : Waiting) (p : Pass) (ps : List Pass) → HasAll d (p ∷ ps) → HasAll d (ps ++ p ∷ [])
has_all_last d p ps all t is = ⊎_elim (λ w. inl w) (λ c.
    let w = Contains-map_cases (λ (z : Pass). z.thread) (p ∷ ps) t c in
    inr (subst (Contains (threads_of (ps ++ p ∷ []))) w.2 (Contains-map (λ (z : Pass). z.thread) (ps ++ p ∷ []) w.0
    (⊎_elim
    (λ (e : p ≡ w.0). subst (Contains (ps ++ p ∷ [])) e (Contains-append_right ps (p ∷ []) p (Contains-here p [])))
    (λ d'. Contains-append_left ps (p ∷ []) w.0 d')
    (Contains-cons_cases p ps w.0 w.1)))))
    (all t is)

-- what a desk gave when it was asked for a thread's caller stands behind those that it gave before
pub one_given : (old new : Waiting) (r : Option Pass) (p : Pass) (ps : List Pass) → r ≡ Some p
    → ((qs : List Pass) → HasAll old qs → HasAll new (option_to_list r ++ qs)) → HasAll old ps → HasAll new (ps ++ p ∷ [])
one_given old new r p ps e gives all = has_all_last new p ps (subst (λ o. HasAll new (option_to_list o ++ ps)) e (gives ps all))

pub none_given : (old new : Waiting) (r : Option Pass) (ps : List Pass) → r ≡ None → ((qs : List Pass) → HasAll old qs → HasAll new (option_to_list r ++ qs)) → HasAll old ps → HasAll new ps
none_given old new r ps e gives all = subst (λ o. HasAll new (option_to_list o ++ ps)) e (gives ps all)
