-- Histories by their lists: a list of objects is told by their numbers, and a history by its four lists.
use Rattle.std.proofs.Common.{◌≡◌, ℕ, zero, suc, List, [], ◌∷◌, map, take, refl, ap}
use Rattle.joint_machine.specs.declared.names.MNum.{MNum}
use Rattle.joint_machine.specs.declared.names.PNum.{PNum}
use Rattle.joint_machine.specs.Histories.{Finished, managed_numbers, peer_numbers}

-- lists with the same numbers, where a number tells its element
numbers-tell : {X : Type 0} (f : X → ℕ) → ((x y : X) → f x ≡ f y → x ≡ y) → (xs ys : List X) → map f xs ≡ map f ys → xs ≡ ys
numbers-tell f one [] [] e = refl
numbers-tell f one [] (y ∷ ys) e = absurd (cc)
numbers-tell f one (x ∷ xs) [] e = absurd (cc)
numbers-tell f one (x ∷ xs) (y ∷ ys) e =
    let first : x ≡ y = one x y (cc) in
    let rest : xs ≡ ys = numbers-tell f one xs ys (cc) in
    cc

pub managed-one : (xs ys : List MNum) → managed_numbers xs ≡ managed_numbers ys → xs ≡ ys
managed-one = numbers-tell (λ (m : MNum). m.0) (λ x y e i. record { 0 = e i })

pub peers-one : (xs ys : List PNum) → peer_numbers xs ≡ peer_numbers ys → xs ≡ ys
peers-one = numbers-tell (λ (p : PNum). p.0) (λ x y e i. record { 0 = e i })

-- a history is its four lists
pub four-lists : (h h' : Finished) → h.entries ≡ h'.entries → h.freed_managed ≡ h'.freed_managed → h.freed_peers ≡ h'.freed_peers → h.notices ≡ h'.notices → h ≡ h'
four-lists h h' e m p n = λ i. record { entries = e i; freed_managed = m i; freed_peers = p i; notices = n i }

pub numbers-take : (k : ℕ) (xs : List MNum) → managed_numbers (take k xs) ≡ take k (managed_numbers xs)
numbers-take zero [] = refl
numbers-take zero (x ∷ xs) = refl
numbers-take (suc k) [] = refl
numbers-take (suc k) (x ∷ xs) = ap (λ l. x.0 ∷ l) (numbers-take k xs)
