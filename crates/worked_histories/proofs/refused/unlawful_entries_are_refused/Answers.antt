-- Each by computing: the test of the entry, or of the history, answers no.
use Rattle.std.proofs.Common.{refl}
use Rattle.computed_histories.proofs.HistoryTests.{comes}
use Rattle.computed_histories.proofs.ReadingTests.{linked}
use Rattle.computed_histories.proofs.Telling.{refuted}
use Rattle.worked_histories.specs.Refused.{made_on_five, once_made, drops_on, disposed_halfway}
use Rattle.worked_histories.proofs.Worked.{lawful}
use Rattle.worked_histories.proofs.refused.unlawful_entries_are_refused.Goals as goal

pub returns : goal.returns
returns c = record {
  lawful = lawful made_on_five refl;
  comes = (comes once_made (drops_on 5)).holds refl;
  line_falls = refuted (comes once_made (drops_on 4)) refl;
  line_is_long = refuted (comes once_made (drops_on 4294967296)) refl;
  not_its_event = refuted (comes once_made _) refl;
  not_its_answer = refuted (comes once_made _) refl;
  released_unasked = refuted (comes once_made _) refl;
  half_lawful = lawful disposed_halfway refl;
  half_linked = refuted (linked disposed_halfway) refl;
}
