-- As callers' seats are taken in one by one: what was taken in so far, and what is known of the one that is taken next.
use Rattle.std.proofs.Common.{◌≡◌, ℕ, List, [], ◌∷◌, ◌++◌, length, Option, Some, None, refl, ap, subst, arith}
use Rattle.std.specs.Prelude.{All, Contains, slice_get}
use Rattle.std.proofs.lemmas.List.Elements.{All-contains}
use Rattle.joint_machine.proofs.Members.{Contains-here, Contains-there}
use Rattle.joint_machine.specs.declared.events.Entry.{Entry}
use Rattle.order_table.specs.declared.views.View.{View}
use Rattle.joint_history.proofs.KnownViews.{no_view}
use Rattle.joint_history.specs.Callers.{Pass}
use Rattle.joint_history.specs.Desks.{WaitsAt, present}
use Rattle.joint_history.specs.Ending.{GathersAll, HasIdleDriver, TakesOwn, threads_of}
use Rattle.joint_history.proofs.Ended.{takes_then}
use Rattle.joint_history.proofs.Gathering.{gathers_then}

-- what stands between two lists stands in the whole, at its place
stands_within : (xs : List Pass) (x : Pass) (ys : List Pass) → Contains (xs ++ x ∷ ys) x
stands_within [] x ys = Contains-here x ys
stands_within (y ∷ xs) x ys = Contains-there x y (xs ++ x ∷ ys) (stands_within xs x ys)

place_within : (xs : List (Option Pass)) (x : Option Pass) (ys : List (Option Pass)) → slice_get (xs ++ x ∷ ys) (length xs) ≡ Some x
place_within [] x ys = refl
place_within (y ∷ xs) x ys = place_within xs x ys

-- nothing is left of a list without length
pub nothing_left : {X : Type 0} (xs : List X) → length xs ≡ 0 → xs ≡ []
nothing_left [] e = refl
nothing_left (x ∷ xs) e = absurd (omega (arith, e))

-- the next caller is idle, since all are
pub next_is_idle : (all yielded left : List Pass) (p : Pass) → yielded ++ p ∷ left ≡ all → All HasIdleDriver all → HasIdleDriver p
next_is_idle all yielded left p e idle = All-contains HasIdleDriver all p idle (subst (λ xs. Contains xs p) e (stands_within yielded p left))

-- who waits knows nothing, so it is idle
waiting_is_idle : (i : ℕ) (p : Pass) → WaitsAt i (Some p) → HasIdleDriver p
waiting_is_idle i p w driver = (no_view p.view (λ j. w.1 j), refl)

pub next_waiting_is_idle : (all yielded left : List (Option Pass)) (p : Pass) → yielded ++ Some p ∷ left ≡ all → ((i : ℕ) (o : Option Pass) → slice_get all i ≡ Some o → WaitsAt i o) → HasIdleDriver p
next_waiting_is_idle all yielded left p e waits = waiting_is_idle (length yielded) p
    (waits (length yielded) (Some p) (subst (λ xs. slice_get xs (length yielded) ≡ Some (Some p)) e (place_within yielded (Some p) left)))

threads_snoc : (ps : List Pass) (p : Pass) → threads_of ps ++ p.thread ∷ [] ≡ threads_of (ps ++ p ∷ [])
threads_snoc [] p = refl
threads_snoc (q ∷ ps) p = ap (λ ts. q.thread ∷ ts) (threads_snoc ps p)

present_snoc : (os : List (Option Pass)) (p : Pass) → present os ++ p ∷ [] ≡ present (os ++ Some p ∷ [])
present_snoc [] p = refl
present_snoc (None ∷ os) p = present_snoc os p
present_snoc (Some q ∷ os) p = ap (λ ps. q ∷ ps) (present_snoc os p)

none_snoc : (os : List (Option Pass)) → present os ≡ present (os ++ None ∷ [])
none_snoc [] = refl
none_snoc (None ∷ os) = none_snoc os
none_snoc (Some q ∷ os) = ap (λ ps. q ∷ ps) (none_snoc os)

-- with the next caller taken in
pub gathers_more : (v w u : View) (old mid new : List (List Entry)) (yielded : List Pass) (p : Pass)
    → GathersAll v w old mid (threads_of yielded) → GathersAll w u mid new (p.thread ∷ []) → GathersAll v u old new (threads_of (yielded ++ p ∷ []))
gathers_more v w u old mid new yielded p a b = subst (GathersAll v u old new) (threads_snoc yielded p) (gathers_then v w u old mid new (threads_of yielded) (p.thread ∷ []) a b)

pub gathers_waiting : (v w u : View) (old mid new : List (List Entry)) (yielded : List (Option Pass)) (p : Pass)
    → GathersAll v w old mid (threads_of (present yielded)) → GathersAll w u mid new (p.thread ∷ [])
    → GathersAll v u old new (threads_of (present (yielded ++ Some p ∷ [])))
gathers_waiting v w u old mid new yielded p a b = subst (λ ps. GathersAll v u old new (threads_of ps)) (present_snoc yielded p) (gathers_more v w u old mid new (present yielded) p a b)

pub gathers_nobody : (v w : View) (old mid : List (List Entry)) (yielded : List (Option Pass))
    → GathersAll v w old mid (threads_of (present yielded)) → GathersAll v w old mid (threads_of (present (yielded ++ None ∷ [])))
gathers_nobody v w old mid yielded a = subst (λ ps. GathersAll v w old mid (threads_of ps)) (none_snoc yielded) a

-- and its own line is known as it knew it
pub takes_waiting : (v w u : View) (yielded : List (Option Pass)) (p : Pass) → TakesOwn v w (present yielded) → TakesOwn w u (p ∷ []) → TakesOwn v u (present (yielded ++ Some p ∷ []))
takes_waiting v w u yielded p a b = subst (TakesOwn v u) (present_snoc yielded p) (takes_then v w u (present yielded) (p ∷ []) a b)

pub takes_nobody : (v w : View) (yielded : List (Option Pass)) → TakesOwn v w (present yielded) → TakesOwn v w (present (yielded ++ None ∷ []))
takes_nobody v w yielded a = subst (TakesOwn v w) (none_snoc yielded) a
