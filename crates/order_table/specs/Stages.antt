-- What entries say of the driver's cycles. (SGen's bridge header: bridge processing is in progress from the snapshot of
-- the dead part until the client has answered.)
use Rattle.std.specs.Prelude.{◌≡◌, ℕ, ◌+◌, ◌*◌, max, List, [], ◌∷◌}
use Rattle.joint_machine.specs.declared.events.Op.{Op}
use Rattle.joint_machine.specs.declared.events.Op.TheVariants as op
use Rattle.order_table.specs.declared.views.KeptEntry.{KeptEntry}

-- what an entry does to the cycles: it opens one, it ends one, or neither
pub data Deed : Type 0 where
  opens : ℕ → Deed
  ends : ℕ → Deed
  neither : Deed

abbrev pub deed : Op → Deed
deed (op.Snap k) = opens k.0
deed (op.Resolve k) = ends k.0
deed (op.Abandon k) = ends k.0
deed _ = neither

-- how far the cycles have come in a managed list: 2 k where cycle k is open, 2 k + 1 where it has ended and no later
-- one is open
abbrev pub stage_after : ℕ → Deed → ℕ
stage_after s (opens k) = max s (2 * k)
stage_after s (ends k) = max s (2 * k + 1)
stage_after s neither = s

abbrev pub stage_from : ℕ → List KeptEntry → ℕ
stage_from s [] = s
stage_from s (k ∷ ks) = stage_from (stage_after s (deed k.entry.made.op)) ks

abbrev pub stage : List KeptEntry → ℕ
stage ks = stage_from 1 ks

-- no cycle is open
abbrev pub IsClosed : List KeptEntry → Type 0
IsClosed ml = (q : ℕ) × (stage ml ≡ 2 * q + 1)
