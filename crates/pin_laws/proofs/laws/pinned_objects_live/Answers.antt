use Rattle.pin_laws.proofs.Pinning.{given_objects_live, linked_pins_hold, none_frees_pinned, pinned_objects_live}
use Rattle.pin_laws.proofs.laws.pinned_objects_live.Goals as goal

pub returns-clause-live : goal.returns-clause-live
returns-clause-live c = pinned_objects_live

pub returns-clause-unfreed : goal.returns-clause-unfreed
returns-clause-unfreed c = none_frees_pinned

pub returns-clause-linked : goal.returns-clause-linked
returns-clause-linked c = linked_pins_hold

pub returns-clause-given : goal.returns-clause-given
returns-clause-given c = given_objects_live
