-- After the sort no pair stands before the one in front of it, and each stands once.
use Rattle.xref_list.proofs.Rising.{rise_from_sort, apart-permutation}
use Rattle.xref_list.proofs.pairs.PairList.finish.Goals as goal
use Rattle.xref_list.proofs.pairs.PairList.finish.Goals.{then-not-sorted+in_ok-sort, else-not-sorted}

pub returns-clause-rising : goal.returns-clause-rising
returns-clause-rising c =
    elim c.if-not-sorted.branch [
      | then-not-sorted+in_ok-sort w ↦ rw w.pairs-is (rise_from_sort w.sort.new.self.items w.in_ok-sort.ensures.sorted (apart-permutation _ _ w.sort.ensures.permutation c.self.invariant.apart))
      | else-not-sorted w ↦ rw (w.pairs-is, c.self.view_is) (c.requires w.if-not-sorted.false)
    ]
