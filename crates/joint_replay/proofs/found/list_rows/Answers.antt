-- Each list has its own search.
use Rattle.joint_replay.proofs.found.list_rows.Goals as goal

pub returns : goal.returns
returns c = record { frees = c.in_ok-freed.ensures; picks = c.in_ok-candidates.ensures; leaves = c.in_ok-dead.ensures }
