-- The counts of both searches tell which classes without a component are heavy; then all that is reported has an index.
use Rattle.std.proofs.Common.{◌≡◌, length, sym, ◌∙◌, ap, arith}
use Rattle.std.proofs.lemmas.List.{length-append, length-map}
use Rattle.std.proofs.lemmas.Result.{on_ok_weaker}
use Rattle.bridge_graph.specs.Parts.{IsBridgeNode, NodeLeads}
use Rattle.joint_machine.specs.Components.{first_of}
use Rattle.compare_pass.proofs.Components.{listed-few}
use Rattle.compare_pass.proofs.Contracted.{heavy-below}
use Rattle.compare_pass.proofs.Heavies.{counts-in, counts-out, many-heavy, plain-index}
use Rattle.compare_pass.proofs.pass.list_all.Goals as goal

pub count_from-requires-clause-labels : goal.count_from-requires-clause-labels
count_from-requires-clause-labels c = c.requires.classes.whole

pub count_from-requires-clause-small : goal.count_from-requires-clause-small
count_from-requires-clause-small c = λ k d l. omega (arith, c.requires.classes.small k d l, c.in_ok-list_components.ensures.listed.numbered.size)

pub count_from-requires-clause-stands : goal.count_from-requires-clause-stands
count_from-requires-clause-stands c = rw c.deref.ensures.value c.in_ok-list_components.ensures.listed.below

pub count_from-requires-clause-rise : goal.count_from-requires-clause-rise
count_from-requires-clause-rise c = rw c.deref.ensures.value c.in_ok-list_components.ensures.listed.rise

pub count_from-requires-clause-few : goal.count_from-requires-clause-few
count_from-requires-clause-few c = rw c.deref.ensures.value (listed-few _ _ _ _ _ c.requires.part.few c.in_ok-list_components.ensures.listed)

pub count_from-requires-2-clause-labels : goal.count_from-requires-2-clause-labels
count_from-requires-2-clause-labels c = omega (arith, c.requires.classes.whole, c.requires.back.count)

pub count_from-requires-2-clause-small : goal.count_from-requires-2-clause-small
count_from-requires-2-clause-small c = λ k d l. omega (arith, c.requires.classes.small k d l, c.in_ok-list_components.ensures.listed.numbered.size)

pub count_from-requires-2-clause-stands : goal.count_from-requires-2-clause-stands
count_from-requires-2-clause-stands c = rw (c.deref-2.ensures.value, c.requires.back.count) c.in_ok-list_components.ensures.listed.below

pub count_from-requires-2-clause-rise : goal.count_from-requires-2-clause-rise
count_from-requires-2-clause-rise c = rw c.deref-2.ensures.value c.in_ok-list_components.ensures.listed.rise

pub count_from-requires-2-clause-few : goal.count_from-requires-2-clause-few
count_from-requires-2-clause-few c = rw c.deref-2.ensures.value (listed-few _ _ _ _ _ c.requires.part.few c.in_ok-list_components.ensures.listed)

pub list_heavy-requires-clause-ins : goal.list_heavy-requires-clause-ins
list_heavy-requires-clause-ins c = rw c.deref-3.ensures.value c.in_ok-ins.ensures.size

pub list_heavy-requires-clause-outs : goal.list_heavy-requires-clause-outs
list_heavy-requires-clause-outs c = rw c.deref-4.ensures.value (c.in_ok-outs.ensures.size ∙ c.requires.back.count)

pub list_heavy-requires-clause-numbered : goal.list_heavy-requires-clause-numbered
list_heavy-requires-clause-numbered c = c.in_ok-list_components.ensures.listed.numbered

pub list_heavy-requires-clause-firsts : goal.list_heavy-requires-clause-firsts
list_heavy-requires-clause-firsts c = c.in_ok-list_components.ensures.listed.firsts

pub list_heavy-requires-clause-exact : goal.list_heavy-requires-clause-exact
list_heavy-requires-clause-exact c = λ x l e.
    let nodes = c.args.graph.now.nodes in
    let edges = c.args.graph.now.edges in
    let labels = c.args.labels.now in
    let comps = c.list_components.new.builder.comps in
    let indexes = c.list_components.new.indexes in
    let stands = c.list_components.new.stands.items in
    let a = c.in_ok-list_components.ensures.listed in
    let few = listed-few nodes labels comps indexes stands c.requires.part.few a in
    let plain = (plain-index nodes edges labels comps indexes stands few c.requires.part c.requires.classes a x l).0 e in
    let ins = rw c.deref.ensures.value at c.in_ok-ins.ensures in
    let outs = rw (c.deref-2.ensures.value, c.requires.back.count) at c.in_ok-outs.ensures in
    rw (c.deref-3.ensures.value, c.deref-4.ensures.value) (many-heavy (IsBridgeNode nodes) (NodeLeads edges) x _ _ plain
    (counts-in nodes edges labels comps indexes stands few c.requires.part c.requires.classes a x c.in_ok-ins.ins.items l plain ins)
    (counts-out nodes edges labels comps indexes stands few c.requires.part c.requires.classes a x c.in_ok-outs.outs.items (length c.args.back.now.nodes) c.args.back.now.edges l plain
    c.requires.back outs))

pub list_heavy-requires-clause-plain : goal.list_heavy-requires-clause-plain
list_heavy-requires-clause-plain c = λ x h.
    let nodes = c.args.graph.now.nodes in
    let edges = c.args.graph.now.edges in
    let labels = c.args.labels.now in
    let comps = c.list_components.new.builder.comps in
    let indexes = c.list_components.new.indexes in
    let stands = c.list_components.new.stands.items in
    let a = c.in_ok-list_components.ensures.listed in
    let few = listed-few nodes labels comps indexes stands c.requires.part.few a in
    let l = heavy-below (IsBridgeNode nodes) (NodeLeads edges) (length nodes) c.requires.part.in_range x h in
    (plain-index nodes edges labels comps indexes stands few c.requires.part c.requires.classes a x l).1 h.plain

pub list_references-requires-clause-small : goal.list_references-requires-clause-small
list_references-requires-clause-small c = c.requires.classes.small

pub list_references-requires-clause-numbered : goal.list_references-requires-clause-numbered
list_references-requires-clause-numbered c =
    let h = c.in_ok-list_heavy.ensures.heavy in
    rw (c.deref-5.ensures.value, h.2) h.3.numbered

pub list_references-requires-clause-all : goal.list_references-requires-clause-all
list_references-requires-clause-all c =
    let h = c.in_ok-list_heavy.ensures.heavy in
    let a = c.in_ok-list_components.ensures.listed in
    let sizes = sym (ap length a.firsts) ∙ length-map c.list_components.new.builder.comps first_of in
    rw (c.deref-5.ensures.value, h.2) (omega (arith, length-append c.list_components.new.stands.items h.0, sizes, h.1, ap length c.list_heavy.ensures.comps))

pub list_references-requires-clause-empty : goal.list_references-requires-clause-empty
list_references-requires-clause-empty c = c.list_heavy.ensures.pairs ∙ c.list_components.ensures.pairs ∙ c.requires.pairs

pub returns : goal.returns
returns c =
    let h = c.in_ok-list_heavy.ensures.heavy in
    let comps : c.list_references.new.builder.comps ≡ c.list_components.new.builder.comps = c.list_references.ensures.comps ∙ c.list_heavy.ensures.comps in
    rw (comps, c.list_references.ensures.heavy) (on_ok_weaker c.list_references.result (λ p. record {
      before = c.list_components.new.indexes;
      firsts = c.list_components.new.stands.items;
      after = c.list_heavy.new.indexes;
      heavy = h.0;
      count = h.1;
      listed = c.in_ok-list_components.ensures.listed;
      below = h.3;
      references = rw (c.deref-5.ensures.value, h.2) at p;
    }) c.list_references.ensures.pairs)
