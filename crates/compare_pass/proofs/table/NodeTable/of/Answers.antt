-- Each node gets an entry behind those before it, since its number is greater.
use Rattle.compare_pass.proofs.Filling.{table-more}
use Rattle.compare_pass.proofs.Tabled.{number-at}
use Rattle.compare_pass.proofs.table.NodeTable.of.Goals as goal

pub loop-x-preserved : goal.loop-x-preserved
loop-x-preserved c =
    let i = c.loop-x.invariant in
    let m = table-more c.args.graph.now.nodes c.loop-x.x c.loop-x.entries.entries c.insert.new.self.entries c.number.result 4294967295
    (number-at c.args.graph.now.nodes c.loop-x.x c.number.result c.number.ensures) c.nodes-x-end.ensures.part.rising i.numbers i.labels c.in_ok-insert.ensures.entries in
    record { numbers = m.0; labels = m.1 }
