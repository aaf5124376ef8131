-- What contracts see of a queue of notices.
use Rattle.std.specs.Prelude.{ℕ, List, drop}
use Rattle.joint_machine.specs.declared.names.MNum.{MNum}

-- every notice that was ever pushed, oldest first; how many of them were given out; and for how many more
-- there is room
pub record Queue : Type 0 where
  pub queued : List MNum
  pub taken : ℕ
  pub spare : ℕ

-- the notices that wait, oldest first: those that were pushed and not given out
abbrev pub waiting_in : Queue → List MNum
waiting_in q = drop q.taken q.queued
