use Rattle.std.proofs.Common.{rules, refl}
use Rattle.weak_wait.proofs.readers.WeakReader.get.Goals as goal

pub returns-clause-makes : goal.returns-clause-makes
returns-clause-makes g c = rw (← c.self.view_is) record {
  number = c.read_waiting-got.result.0;
  reads = c.read_waiting-got.ensures.answers.reads;
  entries = c.read_waiting-got.ensures.answers.entries;
  spare = c.read_waiting-got.ensures.answers.spare;
  reader = refl;
  order = search rules;
}
