use Rattle.std.proofs.Common.{refl}
use Rattle.known_laws.proofs.SmallPasts.{lawful, unnumbered, no_history}
use Rattle.known_laws.proofs.worked.numbers_must_leave_none_out.Goals as goal

pub returns : goal.returns
returns c = record { lawful = lawful; managed = refl; peer = refl; unnumbered = unnumbered; no_history = no_history }
