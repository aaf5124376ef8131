-- What the run of the one object that is let go frees: nothing too early, and all that was unreached throughout its
-- cycle.
use Rattle.std.specs.Prelude.{List}
use Rattle.joint_machine.specs.Headline.{IsSoundRun, IsCompleteRun}
use Rattle.joint_machine.specs.Run.{Moment}
use Rattle.worked_histories.specs.Moments.{moments_of}
use Rattle.worked_histories.specs.OneObject.{one_object}

-- the moments of the run
abbrev pub one_run : List Moment
one_run = moments_of one_object

-- it is sound and complete
pub record FreesOneObject : Type 0 where
  pub sound : IsSoundRun one_run
  pub complete : IsCompleteRun one_run
