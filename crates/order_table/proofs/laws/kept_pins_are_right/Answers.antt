use Rattle.order_table.proofs.ByNumber.{kept_pins_are_right}
use Rattle.order_table.proofs.laws.kept_pins_are_right.Goals as goal

pub returns : goal.returns
returns c = record { law = λ lines w. kept_pins_are_right w.whole w.fits }
