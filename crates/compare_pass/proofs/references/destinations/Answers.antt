-- A node that the search doesn't go on from gives its component, and sorting and removing what stands
-- twice leaves the same components in order.
use Rattle.std.proofs.Common.{◌≡◌, List, ℕ, eqb, Bool, get_or, subst, arith}
use Rattle.std.specs.List.{All, Contains, dedup}
use Rattle.std.specs.List.Sorted.{IsPermutation, IsSorted}
use Rattle.std.specs.Ordering.{nat_cmp}
use Rattle.compare_pass.specs.Searching.{Opens, Goes, FindsReached}
use Rattle.compare_pass.specs.Referring.{AreDestinations}
use Rattle.std.proofs.lemmas.List.Filters.{dedup_is}
use Rattle.std.proofs.lemmas.List.Elements.{All-contains}
use Rattle.compare_pass.proofs.Finding.{marked_below}
use Rattle.compare_pass.proofs.Ordered.{ordered-rises, ordered-same}
use Rattle.compare_pass.proofs.references.destinations.Goals as goal

collected : (edges : List (List ℕ)) (labels indexes : List ℕ) (x : ℕ) (marks : List Bool) (found outs sorted out : List ℕ)
    → FindsReached (Goes edges labels indexes (get_or labels x 0)) x marks found
    → All (λ j. (y : ℕ) × Contains found y × (Opens labels indexes (get_or labels x 0) y → ⊥) × (get_or indexes (get_or labels y 0) 0 ≡ j)) outs
    → All (λ y. (Opens labels indexes (get_or labels x 0) y → ⊥) → Contains outs (get_or indexes (get_or labels y 0) 0)) found
    → IsPermutation outs sorted → IsSorted nat_cmp sorted → out ≡ dedup eqb sorted → AreDestinations edges labels indexes x out
collected edges labels indexes x marks found outs sorted out f from has perm sort is = record {
  rising = ordered-rises sorted out sort is;
  exact = λ j. let same = ordered-same outs sorted out perm is in (
    (λ c.
        let t = All-contains (λ k. (y : ℕ) × Contains found y × (Opens labels indexes (get_or labels x 0) y → ⊥) × (get_or indexes (get_or labels y 0) 0 ≡ k)) outs j from ((same j).0 c) in
        (t.0, (f.exact t.0).0 t.1, t.2, t.3)),
    (λ t.
        let e = All-contains (λ y. (Opens labels indexes (get_or labels x 0) y → ⊥) → Contains outs (get_or indexes (get_or labels y 0) 0)) found t.0 has ((f.exact t.0).1 t.1) t.2 in
        subst (λ (z : ℕ). Contains out z) t.3 ((same (get_or indexes (get_or labels t.0 0) 0)).1 e)),
  );
}

pub returns-clause-outs : goal.returns-clause-outs
returns-clause-outs c =
    let v = c.deref.ensures.value in
    let col = rw v at c.in_ok-collect.ensures in
    collected _ _ _ _ c.search.new.marks c.search.new.found.items c.collect.new.outs.items c.sort_unstable.new.self.items c.dedup.new.self.items
    c.in_ok-search.ensures col.from col.has c.sort_unstable.ensures.permutation c.sort_unstable.ensures.sorted (dedup_is eqb _ _ c.dedup.ensures.filtered)

pub collect-requires-clause-labels : goal.collect-requires-clause-labels
collect-requires-clause-labels c = rw c.deref.ensures.value (λ k d lt. omega
    (arith, marked_below c.search.new.marks c.search.new.found.items c.in_ok-search.ensures.marking k d lt, c.requires.labels, c.requires.marks))

pub clear-requires : goal.clear-requires
clear-requires c = rw c.deref-2.ensures.value c.in_ok-search.ensures.marking
