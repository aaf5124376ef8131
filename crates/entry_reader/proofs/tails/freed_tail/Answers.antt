use Rattle.std.proofs.Common.{refl, sym, ◌∙◌}
use Rattle.entry_reader.proofs.TailParts.{freed_empty, freed_none, freed_other, freed_some, same_lists}
use Rattle.entry_reader.proofs.tails.freed_tail.Goals as goal

pub returns-in_default : goal.returns-in_default
returns-in_default c = (refl, freed_empty c.args.words.now (sym c.fork-words.ensures ∙ c.in_default.ensures.0))

pub returns-then-not-is_same : goal.returns-then-not-is_same
returns-then-not-is_same c = (refl, freed_other c.args.words.now c.next.new.self c.in-Some.first.now (sym c.fork-words.ensures ∙ c.in-Some.ensures) c.if-not-is_same.ensures)

pub returns-in-Some-2 : goal.returns-in-Some-2
returns-in-Some-2 c =
    let e = sym c.fork-words.ensures ∙ c.in-Some.ensures in
    let l = rw c.in-Some-2.is at c.in_ok-span.ensures.list in
    let o = c.in_ok-span.ensures.others in
    freed_some c.args.words.now c.next.new.self c.in-Some.first.now c.args.lists.now c.read_freed.new.self c.in-Some-2.span c.in-Some-2.cites e c.if-not-is_same.ensures l o.0 o.1

pub returns-in-None : goal.returns-in-None
returns-in-None c =
    let e = sym c.fork-words.ensures ∙ c.in-Some.ensures in
    let l = rw c.in-None.is at c.in_ok-span.ensures.list in
    let o = c.in_ok-span.ensures.others in
    (same_lists c.read_freed.new.self c.args.lists.now l.0 o.0 o.1, freed_none c.args.words.now c.next.new.self c.in-Some.first.now c.args.lists.now.managed c.read_freed.new.self.managed e l)
