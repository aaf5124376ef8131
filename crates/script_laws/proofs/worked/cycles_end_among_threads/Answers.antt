use Rattle.script_laws.proofs.TwoThreads.{among_held, among_ends, abandoned, unheld}
use Rattle.script_laws.proofs.worked.cycles_end_among_threads.Goals as goal

pub returns : goal.returns
returns c = record { held = among_held; ends = among_ends; abandoned = abandoned; unheld = unheld }
