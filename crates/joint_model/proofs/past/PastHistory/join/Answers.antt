-- The lists are merged as where they are kept.
use Rattle.std.proofs.Common.{subst, sym}
use Rattle.joint_machine.specs.Shuffles.{IsShuffle}
use Rattle.joint_model.specs.Listed.{entry_lists}
use Rattle.joint_model.proofs.Merging.{merged_all-whole}
use Rattle.joint_model.proofs.past.PastHistory.join.Goals as goal

pub returns-clause-shuffle : goal.returns-clause-shuffle
returns-clause-shuffle c =
    rw c.of.ensures (subst (IsShuffle (entry_lists c.args.lists)) (sym (merged_all-whole (entry_lists c.args.lists) c.requires.whole c.requires.shuffle)) c.requires.shuffle)
