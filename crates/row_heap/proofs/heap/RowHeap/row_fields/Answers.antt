-- A live object's row stands, and has its fields.
use Rattle.std.proofs.Common.{◌∙◌, sym}
use Rattle.row_heap.proofs.Sound.{live-stands, fields-seen}
use Rattle.row_heap.proofs.heap.RowHeap.row_fields.Goals as goal

pub fields-requires : goal.fields-requires
fields-requires g c = live-stands _ _ _ _ _ c.args.x c.self.invariant.0.sound (rw (← c.self.view_is) at c.requires)

pub returns : goal.returns
returns g c = c.fields.ensures ∙ sym (fields-seen _ _ _ _ c.self.inside.references _ c.args.self.now c.args.x c.self.view_is)
