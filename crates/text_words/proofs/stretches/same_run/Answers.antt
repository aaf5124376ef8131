use Rattle.text_words.proofs.Alike.{run_same}
use Rattle.text_words.proofs.stretches.same_run.Goals as goal

pub returns : goal.returns
returns c = record { same = λ n le few. run_same c.args.a.now c.args.b.now n c.requires.a c.requires.b le few }
