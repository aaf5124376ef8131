-- What was counted says which classes are heavy, and these have their indexes when the references are shared.
use Rattle.std.proofs.Common.{length, arith}
use Rattle.std.proofs.lemmas.List.{get_or_default, take_at}
use Rattle.std.proofs.lemmas.Result.{on_ok_weaker}
use Rattle.component_pass.specs.Reporting.{AreAllListed}
use Rattle.component_pass.proofs.Heavies.{AreFound, heavy_reported, heavy_room}
use Rattle.component_pass.proofs.contraction.list_heavy.Goals as goal

pub number_heavy-requires-clause-room : goal.number_heavy-requires-clause-room
number_heavy-requires-clause-room c =
    let f : AreFound c.args.graph.now.nodes c.args.graph.now.edges c.args.found.now.labels.items c.args.found.now.rows c.args.builder.now.comps c.args.indexes.now
    = record { part = c.requires.part; classes = c.requires.classes; order = c.requires.order; listed = c.requires.listed; plain = c.requires.plain; few = c.requires.few } in
    rw c.deref.ensures.value (heavy_room c.args.graph.now.nodes c.args.graph.now.edges c.args.found.now.labels.items c.args.found.now.rows c.args.builder.now.comps c.args.indexes.now f)

pub mark_thin-requires-clause-labels : goal.mark_thin-requires-clause-labels
mark_thin-requires-clause-labels c =
    let labels = c.args.found.now.labels.items in
    rw c.deref-2.ensures.value (λ k d lt. omega (
      arith,
      get_or_default labels k d 0 lt,
      c.requires.order.labelled k (omega (arith, lt, c.requires.classes.whole)),
      c.requires.indexes,
      c.in_ok-number_heavy.ensures.heavy.2.size,
    ))

pub share_references-requires-clause-numbered : goal.share_references-requires-clause-numbered
share_references-requires-clause-numbered c =
    let nodes = c.args.graph.now.nodes in
    let labels = c.args.found.now.labels.items in
    let rows = c.args.found.now.rows in
    let comps = c.args.builder.now.comps in
    let f : AreFound nodes c.args.graph.now.edges labels rows comps c.args.indexes.now
    = record { part = c.requires.part; classes = c.requires.classes; order = c.requires.order; listed = c.requires.listed; plain = c.requires.plain; few = c.requires.few } in
    let h = rw c.deref.ensures.value at c.in_ok-number_heavy.ensures.heavy in
    let r = heavy_reported nodes c.args.graph.now.edges labels rows comps c.args.indexes.now f c.args.outs.now c.args.ins.now c.number_heavy.new.indexes h.0 c.requires.led_to c.requires.lead_in h.2 in
    rw (c.deref_mut-2.ensures.value, c.number_heavy.ensures.comps, ← h.1) r.0.numbered

pub returns : goal.returns
returns c =
    let nodes = c.args.graph.now.nodes in
    let edges = c.args.graph.now.edges in
    let labels = c.args.found.now.labels.items in
    let rows = c.args.found.now.rows in
    let comps = c.args.builder.now.comps in
    let after = c.number_heavy.new.indexes in
    let f : AreFound nodes edges labels rows comps c.args.indexes.now
    = record { part = c.requires.part; classes = c.requires.classes; order = c.requires.order; listed = c.requires.listed; plain = c.requires.plain; few = c.requires.few } in
    let h = rw c.deref.ensures.value at c.in_ok-number_heavy.ensures.heavy in
    let r = heavy_reported nodes edges labels rows comps c.args.indexes.now f c.args.outs.now c.args.ins.now after h.0 c.requires.led_to c.requires.lead_in h.2 in
    let p = rw (c.deref_mut-2.ensures.value, c.number_heavy.ensures.comps, ← h.1) at c.share_references.ensures.pairs in
    record {
      listed = rw (c.share_references.ensures.comps, c.share_references.ensures.heavy, c.number_heavy.ensures.comps) (on_ok_weaker c.share_references.result
          (λ q. let all : AreAllListed nodes edges labels (length rows) comps c.number_heavy.new.builder.heavy c.share_references.new.builder.pairs
          = record { indexes = after; heavy = h.0; count = h.1; listed = r.1; reported = r.0; references = q } in all) p);
    }

pub share_references-requires-clause-classes : goal.share_references-requires-clause-classes
share_references-requires-clause-classes c = rw c.deref_mut-2.ensures.value c.requires.classes

pub share_references-requires-clause-order : goal.share_references-requires-clause-order
share_references-requires-clause-order c = rw c.deref_mut-2.ensures.value c.requires.order

pub share_references-requires-clause-thin : goal.share_references-requires-clause-thin
share_references-requires-clause-thin c =
    let thin = rw (c.deref-2.ensures.value, c.requires.classes.whole) at c.mark_thin.ensures in
    rw (c.deref_mut-2.ensures.value, c.deref-3.ensures.value, take_at c.mark_thin.new.thin _ c.in_ok-thin.thin.len (omega arith)) thin
