use Rattle.std.proofs.Common.{ap, ◌∙◌}
use Rattle.order_table.specs.declared.views.View.{View}
use Rattle.weak_wait.proofs.Making.{answers_from}
use Rattle.weak_wait.proofs.reads.try_read.Goals as goal

pub returns-then-held-ne0-clause-answers : goal.returns-then-held-ne0-clause-answers
returns-then-held-ne0-clause-answers c = let s = c.load_pin-held.ensures.stays in
    answers_from c.args.reader c.args.index c.args.act.now c.read_held.result.0 c.read_held.result.1 c.args.seat.now.view c.load_pin-held.new.seat.view
    c.read_held.new.seat.view c.args.entries.now c.read_held.new.entries s.known s.owns s.holds c.read_held.ensures.answers

pub returns-in-Ok-clause-answers : goal.returns-in-Ok-clause-answers
returns-in-Ok-clause-answers c = let s = c.load_pin-held.ensures.stays in let e = c.in-Ok.ensures.ok in
    answers_from c.args.reader c.args.index c.args.act.now c.read_inside.result.0 c.read_inside.result.1
    c.args.seat.now.view c.enter.new.seat.view c.read_inside.new.seat.view c.args.entries.now c.read_inside.new.entries
    (ap (λ (u : View). u.known) e ∙ s.known) (ap (λ (u : View). u.owns) e ∙ s.owns) (ap (λ (u : View). u.holds) e ∙ s.holds) c.read_inside.ensures.answers
