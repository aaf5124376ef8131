-- What is listed by known lines is listed by all longer ones.
use Rattle.std.proofs.Common.{ℕ, List, [], ◌∷◌, ◌++◌}
use mathlib.Core.List.{IsPrefix}
use base.Growing.{prefix_trans}
use Rattle.joint_machine.specs.declared.events.Entry.{Entry}
use Rattle.known_laws.specs.Growing.{Kept}
use Rattle.graph_listing.specs.Listing.{Listed}
use Rattle.listing_laws.specs.Laws.{SeenStaysSeen}
use Rattle.listing_laws.specs.Snapshots.{AreSeen, IsSeenAt}

one_stays : (lines more : ℕ → List Kept) (e : Entry) (c : Listed) → ((i : ℕ) → IsPrefix (lines i) (more i)) → IsSeenAt lines e c → IsSeenAt more e c
one_stays lines more e c p l = record {
  event = l.event;
  seen = l.seen;
  begin = λ i. prefix_trans (l.seen i) (lines i) (more i) (l.begin i) (p i);
  known = l.known;
  driven = l.driven;
  cycle = l.cycle;
  open_cycle = l.open_cycle;
  lists = l.lists;
}

pub seen_stays : SeenStaysSeen
seen_stays lines more [] [] p l = tt
seen_stays lines more [] (c ∷ cs) p l = l
seen_stays lines more (e ∷ es) [] p l = l
seen_stays lines more (e ∷ es) (c ∷ cs) p l = (one_stays lines more e c p l.0, seen_stays lines more es cs p l.1)

-- snapshots listed behind others
pub seen_behind : (lines : ℕ → List Kept) (es fs : List Entry) (cs ds : List Listed) → AreSeen lines es cs → AreSeen lines fs ds → AreSeen lines (es ++ fs) (cs ++ ds)
seen_behind lines [] fs [] ds a b = b
seen_behind lines [] fs (c ∷ cs) ds a b = absurd a
seen_behind lines (e ∷ es) fs [] ds a b = absurd a
seen_behind lines (e ∷ es) fs (c ∷ cs) ds a b = (a.0, seen_behind lines es fs cs ds a.1 b)
