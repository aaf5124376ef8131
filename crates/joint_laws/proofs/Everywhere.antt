-- What holds before the first entry and is kept by each lawful entry holds at every state; and what two states have in
-- common at first and each lawful entry keeps they have in common at the end.
use Rattle.std.proofs.Common.{◌≡◌, ℕ, zero, suc, ◌+◌, List, [], ◌∷◌, take, drop, sym, ap, subst, arith}
use Rattle.joint_machine.specs.Linked.{Linkage, MayCome, opening_linkage, linkage_after}
use Rattle.joint_machine.specs.Replaying.{AllMayCome, replayed}
use Rattle.joint_machine.specs.Told.{Noted}
use Rattle.joint_laws.specs.States.{state_at}

pub replayed-keeps : (P : Linkage → Type 0) → ((s : Linkage) (n : Noted) → MayCome s n → P s → P (linkage_after s n)) → (ns : List Noted) (s : Linkage) → AllMayCome s ns → P s → P (replayed s ns)
replayed-keeps P step [] s a p = p
replayed-keeps P step (n ∷ ns) s a p = replayed-keeps P step ns (linkage_after s n) a.1 (step s n a.0 p)

pub may_come-take : (ns : List Noted) (s : Linkage) (i : ℕ) → AllMayCome s ns → AllMayCome s (take i ns)
may_come-take [] s zero a = a
may_come-take [] s (suc i) a = a
may_come-take (n ∷ ns) s zero a = tt
may_come-take (n ∷ ns) s (suc i) a = (a.0, may_come-take ns (linkage_after s n) i a.1)

pub may_come-drop : (ns : List Noted) (s : Linkage) (i : ℕ) → AllMayCome s ns → AllMayCome (replayed s (take i ns)) (drop i ns)
may_come-drop [] s zero a = a
may_come-drop [] s (suc i) a = a
may_come-drop (n ∷ ns) s zero a = a
may_come-drop (n ∷ ns) s (suc i) a = may_come-drop ns (linkage_after s n) i a.1

-- the entries up to a later state are those up to the earlier one and those between
pub replayed-further : (ns : List Noted) (s : Linkage) (i more : ℕ) → replayed s (take (i + more) ns) ≡ replayed (replayed s (take i ns)) (take more (drop i ns))
replayed-further ns s zero more = let e : 0 + more ≡ more = omega arith in ap (λ k. replayed s (take k ns)) e
replayed-further [] s (suc i) zero = let e : suc i + 0 ≡ suc i = omega arith in ap (λ k. replayed s (take k [])) e
replayed-further [] s (suc i) (suc more) = let e : suc i + suc more ≡ suc (i + suc more) = omega arith in ap (λ k. replayed s (take k [])) e
replayed-further (n ∷ ns) s (suc i) more =
    let e : suc i + more ≡ suc (i + more) = omega arith in
    subst (λ k. replayed s (take k (n ∷ ns)) ≡ replayed (replayed s (take (suc i) (n ∷ ns))) (take more (drop (suc i) (n ∷ ns)))) (sym e) (replayed-further ns (linkage_after s n) i more)

-- at every state
pub everywhere : (P : Linkage → Type 0) → P opening_linkage → ((s : Linkage) (n : Noted) → MayCome s n → P s → P (linkage_after s n))
    → (ns : List Noted) → AllMayCome opening_linkage ns → (i : ℕ) → P (state_at ns i)
everywhere P first step ns a i = replayed-keeps P step (take i ns) opening_linkage (may_come-take ns opening_linkage i a) first

-- from any state to any later one
pub from_state : (P : Linkage → Type 0) → ((s : Linkage) (n : Noted) → MayCome s n → P s → P (linkage_after s n))
    → (ns : List Noted) → AllMayCome opening_linkage ns → (i more : ℕ) → P (state_at ns i) → P (state_at ns (i + more))
from_state P step ns a i more p =
    subst P (sym (replayed-further ns opening_linkage i more))
    (replayed-keeps P step (take more (drop i ns)) (state_at ns i) (may_come-take (drop i ns) (state_at ns i) more (may_come-drop ns opening_linkage i a)) p)
