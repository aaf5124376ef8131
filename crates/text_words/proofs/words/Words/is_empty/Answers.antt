use Rattle.text_words.proofs.Cuts.{words_of_done}
use Rattle.text_words.proofs.words.Words.is_empty.Goals as goal

pub returns : goal.returns
returns c = words_of_done c.self.inside.done c.self.inside.left c.args.self.now c.self.view_is
