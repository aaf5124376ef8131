use Rattle.worked_histories.proofs.Examples.{rare_answers-hold}
use Rattle.worked_histories.proofs.further.rare_answers_are_lawful.Goals as goal

pub returns : goal.returns
returns c = rare_answers-hold
