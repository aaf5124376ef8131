-- A search from each stand counts it at all nodes that it comes to.
use Rattle.std.proofs.Common.{◌≡◌, length, refl, arith}
use Rattle.compare_pass.proofs.Tallying.{counts-none, counts-more}
use Rattle.compare_pass.proofs.heaviness.count_all.Goals as goal

pub loop-stand-init : goal.loop-stand-init
loop-stand-init c = record {
  clear = c.requires.clear;
  found = c.requires.found;
  counts = counts-none c.args.graph.now.edges (length c.args.graph.now.nodes) c.args.labels.now c.args.indexes.now c.args.stands.now c.args.counts.now c.requires.counts c.requires.none;
}

pub search-requires-clause-start : goal.search-requires-clause-start
search-requires-clause-start c = c.requires.stands c.loop-stand.stand-index 0 c.loop-stand-test.true

pub search-requires-clause-clear : goal.search-requires-clause-clear
search-requires-clause-clear c = c.loop-stand.invariant.clear

pub search-requires-clause-empty : goal.search-requires-clause-empty
search-requires-clause-empty c = c.loop-stand.invariant.found

pub tally-requires-clause-marking : goal.tally-requires-clause-marking
tally-requires-clause-marking c = rw c.deref.ensures.value c.in_ok-search.ensures.marking

pub tally-requires-clause-small : goal.tally-requires-clause-small
tally-requires-clause-small c = λ k d l. omega (arith, c.loop-stand.invariant.counts.few k d l, c.loop-stand-test.true, c.requires.few)

pub loop-stand-preserved : goal.loop-stand-preserved
loop-stand-preserved c = record {
  clear = c.tally.ensures.clear;
  found = c.clear.ensures.items;
  counts = counts-more c.args.graph.now.edges (length c.args.graph.now.nodes) c.args.labels.now c.args.indexes.now
      c.args.stands.now c.loop-stand.stand-index _ c.search.new.marks c.search.new.found.items c.loop-stand.counts c.tally.new.counts
      c.loop-stand-test.true refl c.requires.rise c.in_ok-search.ensures c.tally.ensures.tallies c.loop-stand.invariant.counts;
}

pub returns : goal.returns
returns c =
    let is : c.loop-stand.stand-index ≡ length c.args.stands.now = omega arith in
    rw is at c.loop-stand.invariant.counts
