use Rattle.std.proofs.Common.{◌+◌, length, arith}
use Rattle.std.proofs.lemmas.List.Sorted.{All-permutation, length_permutation}
use Rattle.xref_list.specs.Listing.{IsBetween}
use Rattle.xref_list.proofs.Comps.{listing_of, length-packed}
use Rattle.xref_list.proofs.components.ComponentsBuilder.finish.Goals as goal

pub invariant_of-result : goal.invariant_of-result
invariant_of-result c =
    let i = c.self.invariant in
    let m = c.in_ok-pairs.ensures.same in
    let ends = All-permutation (IsBetween (length c.self.inside.starts.items + c.self.inside.heavy)) _ _ m i.ends in
    record {
      flat = i.flat;
      listing = listing_of _ _ _ i.components c.in_ok-pairs.ensures.rising (rw (length-packed c.self.inside.starts.items c.self.inside.members.items (length c.self.inside.starts.items)) ends)
          (rw (length-packed c.self.inside.starts.items c.self.inside.members.items (length c.self.inside.starts.items)) i.room);
      count = omega (arith, i.count, length_permutation _ _ m);
    }

pub returns-clause-listing : goal.returns-clause-listing
returns-clause-listing c =
    let i = c.self.invariant in
    let m = c.in_ok-pairs.ensures.same in
    let ends = All-permutation (IsBetween (length c.self.inside.starts.items + c.self.inside.heavy)) _ _ m i.ends in
    listing_of _ _ _ i.components c.in_ok-pairs.ensures.rising (rw (length-packed c.self.inside.starts.items c.self.inside.members.items (length c.self.inside.starts.items)) ends)
    (rw (length-packed c.self.inside.starts.items c.self.inside.members.items (length c.self.inside.starts.items)) i.room)
