-- The pair is not among the first ones, so the set grows by it.
use Rattle.std.proofs.Common.{◌≡◌, ℕ, ◌+◌, ◌<◌, ◌∷◌, length, take, true, not, get_or, ◌∙◌, ap, arith, List}
use Rattle.std.proofs.lemmas.List.{take_more}
use Rattle.std.proofs.lemmas.List.Sorted.{IsPermutation-push_more, length_permutation}
use Rattle.std.specs.List.Sorted.{IsPermutation}
use Rattle.xref_list.specs.Known.{ArePairsKnown}
use Rattle.xref_list.proofs.Rising.{new_key}
use Rattle.xref_list.proofs.pairs.catch_up.Goals as goal

-- one pair more is known
more : (pairs keys keys' : List (ℕ × ℕ)) → length keys < length pairs → ArePairsKnown pairs keys → IsPermutation (get_or pairs (length keys) (0, 0) ∷ keys) keys' → ArePairsKnown pairs keys'
more pairs keys keys' lt k m =
    let d : ℕ × ℕ = (0, 0) in
    let size : length keys' ≡ length keys + 1 = omega (arith, length_permutation (get_or pairs (length keys) d ∷ keys) keys' m) in
    record {
      apart = k.apart;
      count = omega (arith, size);
      known = rw (size, take_more pairs (length keys) d lt) (IsPermutation-push_more (take (length keys) pairs) keys keys' (get_or pairs (length keys) d) k.known m);
    }

pub loop-known-preserved : goal.loop-known-preserved
loop-known-preserved c =
    let i = c.loop-known.invariant in
    let d : ℕ × ℕ = (0, 0) in
    let pairs = c.args.pairs.now in
    let keys = c.loop-known.known.keys in
    let n : c.len-in-loop-known.result ≡ length keys = c.len-in-loop-known.ensures.len in
    let lt : length keys < length pairs = omega (arith, c.loop-known-test.true, c.len.ensures.len) in
    let fresh = new_key pairs keys (length keys) d lt i.apart i.known in
    let was = rw n at c.in_ok-insert.ensures.added in
    let added : c.in_ok-insert.field-0 ≡ true = was ∙ ap not fresh in
    let puts = rw (n, added) at c.in_ok-insert.ensures.keys in
    more pairs keys c.insert.new.self.keys lt i puts

pub loop-known-smaller : goal.loop-known-smaller
loop-known-smaller c =
    let i = c.loop-known.invariant in
    let d : ℕ × ℕ = (0, 0) in
    let pairs = c.args.pairs.now in
    let keys = c.loop-known.known.keys in
    let n : c.len-in-loop-known.result ≡ length keys = c.len-in-loop-known.ensures.len in
    let lt : length keys < length pairs = omega (arith, c.loop-known-test.true, c.len.ensures.len) in
    let fresh = new_key pairs keys (length keys) d lt i.apart i.known in
    let was = rw n at c.in_ok-insert.ensures.added in
    let added : c.in_ok-insert.field-0 ≡ true = was ∙ ap not fresh in
    let puts = rw (n, added) at c.in_ok-insert.ensures.keys in
    omega (arith, lt, length_permutation (get_or pairs (length keys) d ∷ keys) c.insert.new.self.keys puts)
