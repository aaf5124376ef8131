use Rattle.std.proofs.Common.{arith, refl}
use Rattle.std.proofs.lemmas.Fmt.{decimal_digit}
use Rattle.entry_reader.proofs.places.LastPlace.new.Goals as goal

pub invariant_of-result : goal.invariant_of-result
invariant_of-result c = (omega arith, tt, rw (decimal_digit 0 (omega arith)) refl)
