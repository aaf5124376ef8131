use Rattle.known_laws.proofs.Turning.{side_entry_comes, reader_entry_comes, threads_have_turns, driver_has_turns}
use Rattle.known_laws.proofs.entries_come_in_turn.Goals as goal

pub returns : goal.returns
returns c = record { comes = side_entry_comes; reader = reader_entry_comes; threads = threads_have_turns; driver = driver_has_turns }
