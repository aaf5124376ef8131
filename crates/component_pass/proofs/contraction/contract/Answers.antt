-- Ordering the pairs changes neither which there are nor the components.
use Rattle.std.proofs.Common.{length}
use Rattle.component_pass.specs.Grouping.{links_of}
use Rattle.component_pass.proofs.Ordered.{finished}
use Rattle.component_pass.proofs.Rows.{links-grouped}
use Rattle.component_pass.proofs.Crossing.{Setting, contraction_of}
use Rattle.component_pass.proofs.contraction.contract.Goals as goal

pub returns : goal.returns
returns c =
    let nodes = c.args.graph.now.nodes in
    let edges = c.args.graph.now.edges in
    let labels = c.in_ok-found.found.labels.items in
    let rows = c.in_ok-found.found.rows in
    let comps = c.list_reported-listed.new.builder.comps in
    let pairs = c.list_reported-listed.new.builder.pairs in
    let all = c.in_ok-listed.ensures.listed in
    let order = c.in_ok-found.ensures.order in
    let s : Setting nodes edges labels (links_of nodes labels) comps
    all.indexes = record { part = c.in_ok-listed.ensures.part; classes = c.in_ok-found.ensures.classes; grouped = links-grouped nodes labels; listed = all.listed } in
    finished _ _ c.finish.result comps pairs all.heavy c.finish.ensures.comps (rw (← all.count) at c.finish.ensures.heavy) c.finish.ensures.pairs c.finish.ensures.listing
    (λ few ordered m k. contraction_of nodes edges labels (links_of nodes labels) comps all.indexes s
    (length rows) all.heavy pairs ordered all.reported all.references few order.labelled m k)
