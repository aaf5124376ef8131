use Rattle.std.proofs.Common.{rules, refl}
use Rattle.weak_wait.proofs.readers.WeakReader.try_get.Goals as goal

pub returns : goal.returns
returns c = record {
  makes = rw (← c.self.view_is) record {
    number = c.read-got.result.0;
    reads = c.read-got.ensures.answers.reads;
    entries = c.read-got.ensures.answers.entries;
    spare = c.read-got.ensures.answers.spare;
    reader = refl;
    order = search rules;
  };
}
