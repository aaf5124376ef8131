use Rattle.std.proofs.Common.{◌-◌, arith, refl, true}
use Rattle.entry_reader.specs.Meaning.{as_peers}
use Rattle.entry_reader.proofs.ListParts.{dash_taken, length_peers, list_taken, none_taken, puts_grow}
use Rattle.entry_reader.proofs.lists.take_peers.Goals as goal

pub returns-then-take_none-clause-list : goal.returns-then-take_none-clause-list
returns-then-take_none-clause-list c = dash_taken as_peers true 112 c.args.words.now c.take_none.new.words c.args.list.now.items
    record { first = c.len-first.result; count = 0 } refl (λ e. omega (arith, e)) (omega arith) (omega arith) refl c.if-take_none.ensures

pub returns-then-count-eq0-clause-list : goal.returns-then-count-eq0-clause-list
returns-then-count-eq0-clause-list c =
    none_taken as_peers true 112 c.args.words.now c.put_peers.new.words c.args.list.now.items c.put_peers.new.list.items length_peers refl
    (λ e. omega (arith, e)) c.if-take_none.ensures.1 (rw c.if-take_none.ensures.0 at c.in_ok-put_peers.ensures.put)
    (omega (arith, puts_grow as_peers true 112 c.take_none.new.words c.put_peers.new.words c.args.list.now.items c.put_peers.new.list.items c.in_ok-put_peers.ensures.put))

pub returns-clause-list : goal.returns-clause-list
returns-clause-list c =
    list_taken as_peers true 112 c.args.words.now c.put_peers.new.words c.args.list.now.items c.put_peers.new.list.items
    record { first = c.len-first.result; count = c.len.result - c.len-first.result } length_peers refl c.if-take_none.ensures.1
    (rw c.if-take_none.ensures.0 at c.in_ok-put_peers.ensures.put) (omega arith) (omega arith)
    (omega (arith, puts_grow as_peers true 112 c.take_none.new.words c.put_peers.new.words c.args.list.now.items c.put_peers.new.list.items c.in_ok-put_peers.ensures.put)) (omega arith)
