use Rattle.std.proofs.Common.{None, Some, codes, sym}
use Rattle.entry_reader.proofs.Parts.{no_word, one_word}
use Rattle.entry_reader.proofs.events.take_equals.Goals as goal

pub returns-in_err-next : goal.returns-in_err-next
returns-in_err-next c = rw c.from_residual.ensures (no_word (λ (u : Unit {0}). Unit {0}) (λ u. codes "=") c.args.words.now c.next.new.self c.in_err-next.ensures.0)

pub returns-then-is_same : goal.returns-then-is_same
returns-then-is_same c = one_word (λ (u : Unit {0}). Unit {0}) (λ u. codes "=") c.args.words.now c.next.new.self c.in_ok-next.field-0.now (Some tt) c.in_ok-next.ensures (tt, sym c.if-is_same.ensures)

pub returns-else-is_same : goal.returns-else-is_same
returns-else-is_same c = one_word (λ (u : Unit {0}). Unit {0})
    (λ u. codes "=") c.args.words.now c.next.new.self c.in_ok-next.field-0.now None c.in_ok-next.ensures (λ u g e. c.if-is_same.ensures (sym e))
