use Rattle.std.proofs.Common.{Some, None, decimal, sym, ap, ◌∙◌, arith}
use Rattle.std.proofs.lemmas.Fmt.{decimal_injective}
use Rattle.entry_reader.proofs.Parts.{no_word, one_word}
use Rattle.entry_reader.proofs.entries.take_count.Goals as goal

pub returns-in_err-next : goal.returns-in_err-next
returns-in_err-next c = rw c.from_residual.ensures (no_word (λ (u : Unit {0}). Unit {0}) (λ u. decimal c.args.count) c.args.words.now c.next.new.self c.in_err-next.ensures.0)

pub returns-in_err-n : goal.returns-in_err-n
returns-in_err-n c = rw c.from_residual-in_err-n.ensures (one_word (λ (u : Unit {0}). Unit {0})
    (λ u. decimal c.args.count) c.args.words.now c.next.new.self c.in_ok-next.field-0.now None c.in_ok-next.ensures (λ u g. c.in_err-n.ensures c.args.count (omega arith)))

pub returns-then-n-count : goal.returns-then-n-count
returns-then-n-count c = one_word (λ (u : Unit {0}). Unit {0}) (λ u. decimal c.args.count) c.args.words.now c.next.new.self c.in_ok-next.field-0.now
    (Some tt) c.in_ok-next.ensures (tt, ap decimal (sym c.if-n-count.true) ∙ c.in_ok-n.ensures.1)

pub returns-else-n-count : goal.returns-else-n-count
returns-else-n-count c =
    one_word (λ (u : Unit {0}). Unit {0}) (λ u. decimal c.args.count) c.args.words.now c.next.new.self c.in_ok-next.field-0.now None c.in_ok-next.ensures
    (λ u g e. c.if-n-count.false (decimal_injective c.in_ok-n.n c.args.count c.in_ok-n.ensures.0 (omega arith) (c.in_ok-n.ensures.1 ∙ sym e)))
