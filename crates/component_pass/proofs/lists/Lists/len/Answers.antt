use Rattle.std.proofs.Common.{length, arith}
use Rattle.std.proofs.lemmas.List.FromFn.{length-map-range_with_len}
use Rattle.bridge_graph.specs.Packing.{packed_row}
use Rattle.component_pass.proofs.lists.Lists.len.Goals as goal

pub returns : goal.returns
returns c = rw (← c.self.view_is)
    (omega (arith, length-map-range_with_len (packed_row c.self.inside.starts.items c.self.inside.items.items) 0 (length c.self.inside.starts.items)))
