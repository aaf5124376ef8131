-- Whose the open marking is, by what a look at it answers.
use Rattle.side_tests.proofs.PeerSteps.{drivers-none, drivers-some}
use Rattle.side_tests.proofs.peers.is_drivers.Goals as goal

pub returns-in-None : goal.returns-in-None
returns-in-None c = λ o m is. drivers-none o (rw c.in-None.is at m)

pub returns-in-Some : goal.returns-in-Some
returns-in-Some c = λ o m is. drivers-some _ c.in-Some.by o (rw c.in-Some.is at m) (c.is_driver.ensures is)
