use Rattle.picture_sheets.proofs.Nearing.{adds-arrow}
use Rattle.picture_sheets.proofs.near.add_arrow.Goals as goal

pub returns : goal.returns
returns c = adds-arrow c.args.arrow c.ends-from.result c.args.lists.now c.add.new.lists c.add-2.new.lists c.ends-from.ensures c.in_ok-add.ensures c.in_ok-add-2.ensures
