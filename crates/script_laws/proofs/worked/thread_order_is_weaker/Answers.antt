use Rattle.script_laws.proofs.TwoThreads.{managed_first-linked, peer_first-linked, one_held, other_held, in_order, out_of_order, differ}
use Rattle.script_laws.proofs.worked.thread_order_is_weaker.Goals as goal

pub returns : goal.returns
returns c = record {
  managed_first = managed_first-linked;
  peer_first = peer_first-linked;
  one_held = one_held;
  other_held = other_held;
  in_order = in_order;
  out_of_order = out_of_order;
  differ = differ;
}
