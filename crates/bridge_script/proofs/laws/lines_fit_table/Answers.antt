use Rattle.bridge_script.proofs.Table.{fits_table}
use Rattle.bridge_script.proofs.laws.lines_fit_table.Goals as goal

pub returns : goal.returns
returns c = fits_table
