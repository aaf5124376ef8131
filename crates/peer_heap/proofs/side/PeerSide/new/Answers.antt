-- Nothing was made, so the empty list leads to the state.
use Rattle.std.proofs.Common.{sym, subst}
use Rattle.std.proofs.lemmas.List.Elements.{All-nil}
use Rattle.joint_machine.specs.declared.events.Entry.{Entry}
use Rattle.joint_machine.specs.Sides.{AreTaken, TakesPeer, peer_rules}
use Rattle.peer_heap.proofs.Sides.{AreGoing-opening, IsSide-opening}
use Rattle.peer_heap.proofs.side.PeerSide.new.Goals as goal

pub invariant_of-result : goal.invariant_of-result
invariant_of-result c = (
  IsSide-opening _ _ _ c.in_ok-new.ensures c.new-2.ensures c.new-3.ensures.entries c.new-3.ensures.spare,
  subst (AreTaken peer_rules c.args.threads) (sym c.new-3.ensures.entries) (All-nil (λ (e : Entry). TakesPeer c.args.threads e.made.caller)),
  AreGoing-opening _ _ _,
  tt,
)
