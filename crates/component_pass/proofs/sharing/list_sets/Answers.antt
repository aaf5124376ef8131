-- The set kept for each index is listed behind those of the lesser ones.
use Rattle.std.proofs.Common.{◌≡◌, ℕ, get_or, refl, ◌∙◌, subst, arith}
use Rattle.component_pass.specs.Gathering.{set_at}
use Rattle.component_pass.specs.Sharing.{AreListedBelow}
use Rattle.component_pass.proofs.References.{listed-begin, listed-next, listed-fresh}
use Rattle.component_pass.proofs.sharing.list_sets.Goals as goal

pub loop-i-init : goal.loop-i-init
loop-i-init c = record { comps = refl; heavy = refl; pairs = rw c.requires.empty (listed-begin (λ i. set_at c.args.count c.args.lists.now (get_or c.args.refs.now i 0))) }

pub set_of-requires-clause-number : goal.set_of-requires-clause-number
set_of-requires-clause-number c = c.requires.known c.loop-i.i (omega arith)

pub add_all-requires-clause-rises : goal.add_all-requires-clause-rises
add_all-requires-clause-rises c = rw c.set_of.ensures (c.requires.rises c.loop-i.i (omega arith))

pub add_all-requires-clause-destinations : goal.add_all-requires-clause-destinations
add_all-requires-clause-destinations c =
    rw (c.set_of.ensures, c.loop-i.invariant.comps, c.loop-i.invariant.heavy, ← c.requires.count) (c.requires.below c.loop-i.i (omega arith))

pub add_all-requires-clause-apart : goal.add_all-requires-clause-apart
add_all-requires-clause-apart c = rw c.set_of.ensures (c.requires.apart c.loop-i.i (omega arith))

pub add_all-requires-clause-fresh : goal.add_all-requires-clause-fresh
add_all-requires-clause-fresh c = listed-fresh (λ i. set_at c.args.count c.args.lists.now (get_or c.args.refs.now i 0)) c.loop-i.i c.loop-i.builder.pairs c.loop-i.invariant.pairs

pub loop-i-preserved : goal.loop-i-preserved
loop-i-preserved c =
    let pairs = rw c.set_of.ensures at c.in_ok-add_all.ensures.pairs in
    record {
      comps = c.add_all.ensures.comps ∙ c.loop-i.invariant.comps;
      heavy = c.add_all.ensures.heavy ∙ c.loop-i.invariant.heavy;
      pairs = rw pairs (listed-next (λ i. set_at c.args.count c.args.lists.now (get_or c.args.refs.now i 0)) c.loop-i.i c.loop-i.builder.pairs c.loop-i.invariant.pairs);
    }

pub returns-clause-pairs : goal.returns-clause-pairs
returns-clause-pairs c =
    subst (λ (n : ℕ). AreListedBelow (λ i. set_at c.args.count c.args.lists.now (get_or c.args.refs.now i 0)) n c.loop-i.builder.pairs)
    (let e : c.loop-i.i ≡ c.args.count = omega arith in e) c.loop-i.invariant.pairs
