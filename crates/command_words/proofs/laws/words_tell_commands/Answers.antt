use Rattle.command_words.proofs.Telling.{tell}
use Rattle.command_words.proofs.laws.words_tell_commands.Goals as goal

pub returns : goal.returns
returns c = tell
