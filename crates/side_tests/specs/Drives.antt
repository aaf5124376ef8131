-- What the tests keep of a side that a plain count drives.
use Rattle.std.specs.Prelude.{◌≡◌, ℕ, ◌+◌, ◌-◌, ◌^◌, ◌<◌, ◌≤◌, Contains, List, [], ◌∷◌, length, Option, Some, None}
use Rattle.joint_machine.specs.declared.names.HNum.{HNum}
use Rattle.joint_machine.specs.declared.events.Op.{Op}
use Rattle.joint_machine.specs.declared.events.Op.TheVariants as op
use Rattle.joint_machine.specs.Draws.{AllBelow}
use Rattle.joint_machine.specs.Managed.{OpenCycle}
use Rattle.joint_machine.specs.ManagedReplay.{ManagedReplay}
use Rattle.joint_machine.specs.Sides.{Side}
use Rattle.joint_machine.specs.Numbers.{u32_max}

-- each entry's number is below the count, and the count has room for a full list; and the side is for all eight threads
abbrev pub IsCounted : {S : Type 0} → Side S → ℕ → Type 0
IsCounted s count = AllBelow s.entries count × (u32_max ≤ 2 ^ 63 - count + length s.entries) × (s.threads ≡ 8)

-- beside it each handle that a row of the managed side took is below the number of its entries and of the candidates
-- that were answered, and an open cycle has so many candidates
pub record IsDriven (s : Side ManagedReplay) (count waiting answered : ℕ) : Type 0 where
  pub counted : IsCounted s count
  pub adopts : (h : ℕ) → Contains s.state.adopted h → h < length s.entries + answered
  pub waits : (c : OpenCycle) → s.state.managed.cycle ≡ Some c → length c.candidates ≡ waiting

-- the answers from that number on: each handle has its place's
abbrev pub AreFrom : ℕ → List (Option HNum) → Type 0
AreFrom n [] = Unit {0}
AreFrom n (None ∷ backs) = AreFrom (n + 1) backs
AreFrom n (Some h ∷ backs) = (h.0 ≡ n) × AreFrom (n + 1) backs

-- the handle that an `adopt` or a `meet` names has this number
abbrev pub NamesNext : Op → ℕ → Type 0
NamesNext (op.Adopt v kind n p h) next = h.0 ≡ next
NamesNext (op.Meet v sort n p h) next = h.0 ≡ next
NamesNext o next = Unit {0}
