-- The numbers are those of the last state, whose tally is that of the entries.
use Rattle.std.proofs.Common.{refl}
use Rattle.bridge_program.proofs.Alike.{same_numbers}
use Rattle.bridge_program.proofs.generated.tally.Goals as goal

pub returns : goal.returns
returns c = same_numbers c.args.end.now _ c.requires c.tallies_are_of_states.ensures.linked c.tallies_are_of_states.ensures.linked_heaps refl
