-- Lists of exactly the handles that are live.
-- Believed: the clauses of the program's top call rest on all that stands here.
use Rattle.std.specs.Prelude.{ℕ, ◌↔◌, List, map, Contains, Option, IsSome}
use Rattle.std.specs.List.Sorted.{IsStrictlyIncreasing}
use Rattle.joint_machine.specs.declared.names.HNum.{HNum}

-- exactly the handles that are live, rising
pub record AreKeys (live : ℕ → Option ℕ) (hs : List HNum) : Type 0 where
  pub rise : IsStrictlyIncreasing (map (λ h. h.0) hs)
  pub exact : (h : ℕ) → Contains (map (λ h. h.0) hs) h ↔ IsSome (live h)
