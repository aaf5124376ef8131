-- Each reported class refers to what its search comes to.
use Rattle.std.proofs.Common.{◌≡◌, ℕ, length, get_or, refl, ◌∙◌, ap, arith}
use Rattle.std.proofs.lemmas.List.Elements.{Contains-get_or}
use Rattle.compare_pass.proofs.Referred.{refers-none, refers-more, refers-fresh, refers-below, refers-apart}
use Rattle.compare_pass.proofs.references.refer_all.Goals as goal

pub loop-i-init : goal.loop-i-init
loop-i-init c = record {
  clear = c.requires.clear;
  found = c.requires.found;
  outs = c.requires.outs;
  comps = refl;
  heavy = refl;
  pairs = rw c.requires.empty (refers-none c.args.graph.now.edges c.args.labels.now c.args.indexes.now c.args.stands.now);
}

pub destinations-requires-clause-start : goal.destinations-requires-clause-start
destinations-requires-clause-start c = (c.requires.numbered.stand c.loop-i.i (omega (arith, c.loop-i-test.true, c.len-i-end.ensures.count, c.requires.all))).0

pub destinations-requires-clause-small : goal.destinations-requires-clause-small
destinations-requires-clause-small c = λ k d l. omega (arith, c.requires.small k d l, c.requires.numbered.size)

pub destinations-requires-clause-clear : goal.destinations-requires-clause-clear
destinations-requires-clause-clear c = c.loop-i.invariant.clear

pub destinations-requires-clause-found : goal.destinations-requires-clause-found
destinations-requires-clause-found c = c.loop-i.invariant.found

pub destinations-requires-clause-outs : goal.destinations-requires-clause-outs
destinations-requires-clause-outs c = c.loop-i.invariant.outs

pub add_all-requires-clause-source : goal.add_all-requires-clause-source
add_all-requires-clause-source c = omega (arith, c.loop-i-test.true, c.len-i-end.ensures.count, ap length c.loop-i.invariant.comps, c.loop-i.invariant.heavy)

pub add_all-requires-clause-rises : goal.add_all-requires-clause-rises
add_all-requires-clause-rises c = rw c.deref.ensures.value c.in_ok-destinations.ensures.outs.rising

pub add_all-requires-clause-destinations : goal.add_all-requires-clause-destinations
add_all-requires-clause-destinations c =
    let outs = c.destinations.new.outs.items in
    let i : ℕ = c.loop-i.i in
    let s = (c.requires.numbered.stand i (omega (arith, c.loop-i-test.true, c.len-i-end.ensures.count, c.requires.all))).0 in
    rw c.deref.ensures.value (λ k d l.
    let b = refers-below c.args.graph.now.edges (length c.args.graph.now.nodes) c.args.labels.now c.args.indexes.now c.args.stands.now
    (get_or c.args.stands.now i 0) (get_or outs k d) c.requires.part.in_range s c.requires.numbered
    ((c.in_ok-destinations.ensures.outs.exact (get_or outs k d)).0 (Contains-get_or outs k d l)) in
    omega (arith, b, c.requires.all, ap length c.loop-i.invariant.comps, c.loop-i.invariant.heavy))

pub add_all-requires-clause-apart : goal.add_all-requires-clause-apart
add_all-requires-clause-apart c =
    let outs = c.destinations.new.outs.items in
    let i : ℕ = c.loop-i.i in
    rw c.deref.ensures.value (λ k d l.
    refers-apart c.args.graph.now.edges (length c.args.graph.now.nodes) c.args.labels.now c.args.indexes.now c.args.stands.now i (get_or outs k d) c.requires.part.in_range
    (omega (arith, c.loop-i-test.true, c.len-i-end.ensures.count, c.requires.all)) c.requires.numbered ((c.in_ok-destinations.ensures.outs.exact (get_or outs k d)).0 (Contains-get_or outs k d l)))

pub add_all-requires-clause-fresh : goal.add_all-requires-clause-fresh
add_all-requires-clause-fresh c =
    let pairs = c.loop-i.builder.pairs in
    λ k d l. refers-fresh c.args.graph.now.edges c.args.labels.now c.args.indexes.now c.args.stands.now c.loop-i.i pairs c.loop-i.invariant.pairs (get_or pairs k d) (Contains-get_or pairs k d l)

pub loop-i-preserved : goal.loop-i-preserved
loop-i-preserved c =
    let i = c.loop-i.invariant in
    let pairs = rw c.deref.ensures.value at c.in_ok-add_all.ensures.pairs in
    record {
      clear = c.in_ok-destinations.ensures.clear;
      found = c.in_ok-destinations.ensures.found;
      outs = c.clear.ensures.items;
      comps = c.add_all.ensures.comps ∙ i.comps;
      heavy = c.add_all.ensures.heavy ∙ i.heavy;
      pairs = rw pairs (refers-more c.args.graph.now.edges c.args.labels.now c.args.indexes.now c.args.stands.now
          c.loop-i.i c.loop-i.builder.pairs c.destinations.new.outs.items c.in_ok-destinations.ensures.outs i.pairs);
    }

pub returns-clause-pairs : goal.returns-clause-pairs
returns-clause-pairs c =
    let is : c.loop-i.i ≡ length c.args.stands.now = omega (arith, c.len-i-end.ensures.count, c.requires.all) in
    rw is at c.loop-i.invariant.pairs
