-- Each pair of histories differs at the first element of one list.
use Rattle.std.proofs.Common.{◌≡◌, ℕ, List, [], ◌∷◌, refl, ap, arith}
use Rattle.joint_machine.specs.declared.names.MNum.{MNum}
use Rattle.joint_machine.specs.declared.names.PNum.{PNum}
use Rattle.worked_histories.specs.Shown.{AreTold}

-- the number of the first object or peer; 0 where there is none
abbrev first_object : List MNum → ℕ
first_object [] = 0
first_object (m ∷ ms) = m.0

abbrev first_peer : List PNum → ℕ
first_peer [] = 0
first_peer (p ∷ ps) = p.0

-- the first numbers are 1 and 2
apart : (x y : ℕ) → x ≡ y → x ≡ 1 → y ≡ 2 → ⊥
apart x y e a b = omega (arith, e, a, b)

pub are_told : AreTold
are_told = record {
  untaken = record { entries = refl; freed_managed = refl; freed_peers = refl; notices = refl };
  entries = λ a. let e = a.entries in cc;
  freed_managed = λ a. apart 1 2 (ap first_object a.freed_managed) refl refl;
  freed_peers = λ a. apart 1 2 (ap first_peer a.freed_peers) refl refl;
  notices = λ a. apart 1 2 (ap first_object a.notices) refl refl;
}
