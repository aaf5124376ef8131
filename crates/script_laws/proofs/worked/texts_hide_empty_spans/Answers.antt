use Rattle.std.proofs.Common.{refl}
use Rattle.script_laws.proofs.TwoThreads.{spans_differ}
use Rattle.script_laws.proofs.worked.texts_hide_empty_spans.Goals as goal

pub returns : goal.returns
returns c = record { one_text = λ first. refl; differ = spans_differ }
