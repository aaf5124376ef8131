use Rattle.std.proofs.Common.{refl}
use Rattle.script_generator.proofs.Texts.{zero_text, one_text, two_text, three_text, four_text}
use Rattle.script_generator.proofs.laws.known_scripts.Goals as goal

pub returns : goal.returns
returns c = record {
  one = rw (zero_text, one_text) refl;
  four = rw (zero_text, one_text, two_text, three_text, four_text) refl;
  hundredth = rw (zero_text, one_text, three_text, four_text) refl;
  great = refl;
}
