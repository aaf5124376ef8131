use Rattle.known_laws.proofs.SmallPasts.{snap-lawful, other_line, other_part, other_state}
use Rattle.known_laws.proofs.worked.the_snap_must_be_known.Goals as goal

pub returns : goal.returns
returns c = record { lawful = snap-lawful; other_line = other_line; other_part = other_part; other_state = other_state }
