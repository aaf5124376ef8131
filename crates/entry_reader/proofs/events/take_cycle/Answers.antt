use Rattle.std.proofs.Common.{decimal, None, Some}
use Rattle.joint_machine.specs.declared.names.Cycle.{Cycle}
use Rattle.entry_reader.specs.Fitting.{Short}
use Rattle.entry_reader.proofs.Parts.{no_word, one_word}
use Rattle.entry_reader.proofs.events.take_cycle.Goals as goal

pub returns-in_err-next : goal.returns-in_err-next
returns-in_err-next c = rw c.from_residual.ensures (no_word (λ (k : Cycle). Short k.0) (λ k. decimal k.0) c.args.words.now c.next.new.self c.in_err-next.ensures.0)

pub returns-in_err-short : goal.returns-in_err-short
returns-in_err-short c = rw c.from_residual-in_err-short.ensures
    (one_word (λ (k : Cycle). Short k.0) (λ k. decimal k.0) c.args.words.now c.next.new.self c.in_ok-next.field-0.now None c.in_ok-next.ensures (λ k g. c.in_err-short.ensures k.0 g))

pub returns : goal.returns
returns c = one_word (λ (k : Cycle). Short k.0) (λ k. decimal k.0) c.args.words.now c.next.new.self c.in_ok-next.field-0.now
    (Some record { 0 = c.in_ok-short.field-0 }) c.in_ok-next.ensures c.in_ok-short.ensures
