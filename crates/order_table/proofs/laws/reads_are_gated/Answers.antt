use Rattle.order_table.proofs.GatedReads.{reads_are_gated}
use Rattle.order_table.proofs.laws.reads_are_gated.Goals as goal

pub returns : goal.returns
returns c = record { law = λ lines w ns notes. reads_are_gated w.whole ns record { runs = w.numbers; fits = w.fits; notes = notes } }
