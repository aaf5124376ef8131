use Rattle.bridge_program.proofs.leaks.print_left.Goals as goal

pub returns-in-Ok-write_unreleased-clause-done : goal.returns-in-Ok-write_unreleased-clause-done
returns-in-Ok-write_unreleased-clause-done g c = λ e. (
  record { strong = c.in-Ok.left.strong.items; weak = c.in-Ok.left.weak.items; strong_ones = c.in-Ok.ensures.strong; weak_ones = c.in-Ok.ensures.weak },
  c.in-Ok-write_unreleased.ensures.whole,
)

pub returns-clause-part : goal.returns-clause-part
returns-clause-part g c = λ e. (
  record { strong = c.in-Ok.left.strong.items; weak = c.in-Ok.left.weak.items; strong_ones = c.in-Ok.ensures.strong; weak_ones = c.in-Ok.ensures.weak },
  c.in-Err.ensures.part,
)
