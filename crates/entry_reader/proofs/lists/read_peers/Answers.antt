use Rattle.std.proofs.Common.{arith, true}
use Rattle.entry_reader.specs.Meaning.{as_peers}
use Rattle.entry_reader.proofs.ListParts.{cut_back, ends_otherwise, ends_with, ends_without}
use Rattle.entry_reader.proofs.lists.read_peers.Goals as goal

pub returns-in_default-clause-list : goal.returns-in_default-clause-list
returns-in_default-clause-list c = ends_without as_peers true 112 c.args.words.now c.take_peers.new.words c.args.list.now.items c.take_peers.new.list.items
    (rw c.in_default.is at c.in_ok-span.ensures.list)

pub returns-in-Some-read_cites-clause-list : goal.returns-in-Some-read_cites-clause-list
returns-in-Some-read_cites-clause-list c = ends_with as_peers true 112 c.args.words.now c.take_peers.new.words c.args.list.now.items c.take_peers.new.list.items
    c.in-Some.span c.in-Some-read_cites.cites (rw c.in-Some.is at c.in_ok-span.ensures.list) c.in-Some-read_cites.ensures.0 c.in-Some-read_cites.ensures.1

pub returns-in-None-clause-list : goal.returns-in-None-clause-list
returns-in-None-clause-list c =
    let t = rw c.in-Some.is at c.in_ok-span.ensures.list in
    let kept = cut_back as_peers true 112 c.args.words.now c.take_peers.new.words c.args.list.now.items c.take_peers.new.list.items c.in-Some.span c.len-first.result (omega arith) t in
    rw (c.truncate.ensures.items, kept) (ends_otherwise as_peers true 112 c.args.words.now c.take_peers.new.words c.args.list.now.items c.take_peers.new.list.items c.in-Some.span t c.in-None.ensures)
