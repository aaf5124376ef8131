use Rattle.joint_history.proofs.Giving.{all_wait}
use Rattle.joint_history.proofs.shared.Shared.new.Goals as goal

pub returns-in-Ok-with_seat-clause-all : goal.returns-in-Ok-with_seat-clause-all
returns-in-Ok-with_seat-clause-all g c = all_wait c.in-Ok.desk c.in-Ok.ensures.desk.2

pub returns-in-Ok-with_seat-clause-desk : goal.returns-in-Ok-with_seat-clause-desk
returns-in-Ok-with_seat-clause-desk g c = c.in-Ok.ensures.desk

pub returns-in-Err-clause-desk : goal.returns-in-Err-clause-desk
returns-in-Err-clause-desk g c = tt

pub returns-in-Err-clause-all : goal.returns-in-Err-clause-all
returns-in-Err-clause-all g c = tt

pub returns-in-Err-with_seat-clause-desk : goal.returns-in-Err-with_seat-clause-desk
returns-in-Err-with_seat-clause-desk g c = tt

pub returns-in-Err-with_seat-clause-all : goal.returns-in-Err-with_seat-clause-all
returns-in-Err-with_seat-clause-all g c = tt
