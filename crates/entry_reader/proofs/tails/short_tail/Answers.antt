use Rattle.entry_reader.proofs.TailParts.{count_unlisted, handle_unlisted, keyed_unlisted, managed_unlisted, peer_unlisted, plain_unlisted, unlisted_rest}
use Rattle.entry_reader.proofs.tails.short_tail.Goals as goal

pub returns-in-Some : goal.returns-in-Some
returns-in-Some c = (keyed_unlisted c.in-Some.tail.0 c.in-Some.ensures.0, c.in-Some.ensures.1)

pub returns-in-Some-plain_tail : goal.returns-in-Some-plain_tail
returns-in-Some-plain_tail c = (plain_unlisted c.in-Some-plain_tail.tail.0 c.in-Some-plain_tail.ensures.0, c.in-Some-plain_tail.ensures.1)

pub returns-in-Some-managed_tail : goal.returns-in-Some-managed_tail
returns-in-Some-managed_tail c = (managed_unlisted c.in-Some-managed_tail.tail.0 c.in-Some-managed_tail.ensures.0, c.in-Some-managed_tail.ensures.1)

pub returns-in-Some-peer_tail : goal.returns-in-Some-peer_tail
returns-in-Some-peer_tail c = (peer_unlisted c.in-Some-peer_tail.tail.0 c.in-Some-peer_tail.ensures.0, c.in-Some-peer_tail.ensures.1)

pub returns-in-Some-handle_tail : goal.returns-in-Some-handle_tail
returns-in-Some-handle_tail c = (handle_unlisted c.in-Some-handle_tail.tail.0 c.in-Some-handle_tail.ensures.0, c.in-Some-handle_tail.ensures.1)

pub returns-in-Some-count_tail : goal.returns-in-Some-count_tail
returns-in-Some-count_tail c = (count_unlisted c.in-Some-count_tail.tail.0 c.in-Some-count_tail.ensures.0, c.in-Some-count_tail.ensures.1)

pub returns : goal.returns
returns c =
    unlisted_rest c.args.words.now c.keyed_tail-2.result c.in_default-plain_tail.ensures c.in_default-managed_tail.ensures
    c.in_default-peer_tail.ensures c.in_default-handle_tail.ensures c.in_default-count_tail.ensures c.keyed_tail-2.ensures
