-- Two linked histories are alike in all that a text shows.
-- Believed: the clauses of the program's top call rest on all that stands here.
use Rattle.std.specs.Prelude.{◌≡◌}
use Rattle.joint_machine.specs.Histories.{Finished, AreShownAlike}
use Rattle.joint_machine.specs.LinkedHistories.{IsLinked, HasQueued, managed_end}

-- two linked histories are alike in all that a text shows, as many notices were taken in each, and where the list of
-- notices of each is exactly what was queued they are the same
pub record IsOneHistory (g h : Finished) (a : IsLinked g) (b : IsLinked h) : Type 0 where
  pub shown : AreShownAlike (managed_end a.noted).taken g h
  pub taken : (managed_end a.noted).taken ≡ (managed_end b.noted).taken
  pub whole : HasQueued g a.noted → HasQueued h b.noted → g ≡ h
