use Rattle.std.proofs.Common.{rules, ◌≡◌, ◌+◌, [], sym, ap, ◌∙◌, subst}
use Rattle.order_table.specs.Rows.{at}
use Rattle.order_table.specs.Owed.{IsLoaded, pin, says_word}
use Rattle.order_table.specs.declared.views.View.{View}
use Rattle.order_table.specs.Views.{Shown, known}
use Rattle.order_table.specs.Rule.{SetsCell}
use Rattle.weak_wait.specs.Reads.{Answers}
use Rattle.weak_wait.proofs.Making.{not_pending, may_inside, pin_filled, inside_answers}
use Rattle.weak_wait.proofs.reads.read_inside.Goals.{in-Got, in_default}
use Rattle.weak_wait.proofs.reads.read_inside.Goals as goal

pub note-number-requires-clause-may : goal.note-number-requires-clause-may
note-number-requires-clause-may c = let x = c.load_cell-word.new.seat.view in let s = c.load_cell-word.ensures.stays in
    may_inside x c.args.reader c.args.act.now c.load_cell-word.result c.got_of-got.result c.got_of-got.ensures c.load_cell-word.ensures.small (s.inside ∙ c.requires.inside.0)
    (subst (λ k. IsLoaded x.loads k c.load_cell-word.result) c.cell_of.ensures.cell (c.load_cell-word.ensures.loaded (search rules) c.requires.inside.2))
    (ap (λ ls. pin (at [] ls (c.args.reader + 10))) s.known ∙ c.requires.empty)

pub store_pin-requires-clause-object : goal.store_pin-requires-clause-object
store_pin-requires-clause-object c = pin_filled c.args.reader c.args.index c.args.act.now c.got_of-got.result c.note-number.result
    c.load_cell-word.new.seat.view c.note-number.new.seat.view c.in-Got.m c.requires.act c.in-Got.is c.note-number.ensures.grows

pub returns-clause-answers : goal.returns-clause-answers
returns-clause-answers c =
    let v = c.args.seat.now.view in
    let x = c.load_cell-word.new.seat.view in
    let y : View = c.note-number.new.seat.view in
    let w = c.leave.new.seat.view in
    let left = c.leave.ensures.seat.1 in
    let mid : (c.match-got.seat.view.known ≡ y.known) × (c.match-got.seat.view.owns ≡ y.owns)
    × (c.match-got.seat.view.holds ≡ y.holds) × (c.match-got.got ≡ c.got_of-got.result) = elim c.match-got.branch [
      | in-Got z ↦ (
        ap (λ (s : Shown). s.view.known) z.seat-is ∙ ap (λ (u : View). u.known) z.store_pin.ensures.1,
        ap (λ (s : Shown). s.view.owns) z.seat-is ∙ ap (λ (u : View). u.owns) z.store_pin.ensures.1,
        ap (λ (s : Shown). s.view.holds) z.seat-is ∙ ap (λ (u : View). u.holds) z.store_pin.ensures.1,
        z.got-is ∙ sym z.in-Got.is,
      )
      | in_default z ↦ (ap (λ (s : Shown). s.view.known) z.seat-is, ap (λ (s : Shown). s.view.owns) z.seat-is, ap (λ (s : Shown). s.view.holds) z.seat-is, z.got-is)
    ] in
    subst (λ g. Answers c.args.reader c.args.index c.args.act.now c.note-number.result g v w c.args.entries.now c.note-number.new.entries) (sym mid.3)
    (inside_answers c.args.reader c.args.index c.args.act.now c.got_of-got.result c.note-number.result c.load_cell-word.result v x y w c.args.entries.now
    c.note-number.new.entries c.load_cell-word.ensures.stays c.note-number.ensures.grows c.note-number.ensures.above c.note-number.ensures.one_history
    (ap (λ (u : View). u.holds) c.note-number.ensures.view)
    (ap (λ (u : View). u.known) left ∙ mid.0) (ap (λ (u : View). u.owns) left ∙ mid.1) (ap (λ (u : View). u.holds) left ∙ mid.2)
    c.got_of-got.ensures c.requires.empty
    (λ z k st e. c.load_cell-word.ensures.unset c.requires.inside.2.0 z k st (subst (SetsCell k) (sym c.cell_of.ensures.cell) e))
    (λ o. ((c.requires.open o).1, c.load_cell-word.ensures.says o c.requires.inside.2.0 ∙ ap (says_word (known v 0)) c.cell_of.ensures.cell))
    c.note-number.ensures.entries c.note-number.ensures.spare)

pub returns-clause-answered : goal.returns-clause-answered
returns-clause-answered c k e =
    let same : c.match-got.got ≡ c.got_of-got.result = elim c.match-got.branch [ in-Got z ↦ z.got-is ∙ sym z.in-Got.is | in_default z ↦ z.got-is ] in
    not_pending c.load_cell-word.result c.got_of-got.result c.got_of-got.ensures k (sym same ∙ e)
