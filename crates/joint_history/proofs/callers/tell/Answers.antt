use Rattle.std.proofs.Common.{sym, subst, ◌∙◌}
use Rattle.joint_machine.specs.Lines.{IsDriver}
use Rattle.joint_history.specs.Driven.{DriverStands}
use Rattle.joint_history.proofs.DriverHears.{driver_hears, driver_pass}
use Rattle.joint_history.proofs.KnownCallers.{caller_same, caller_joins, hears, pass_kept, pass_joined, reads_joined, reads_parted}
use Rattle.joint_history.proofs.LockedSteps.{keeps_reads}
use Rattle.joint_history.specs.Callers.{Hears, Pass, reads_of}
use Rattle.joint_history.proofs.callers.tell.Goals as goal

pub invariant_of-from : goal.invariant_of-from
invariant_of-from g c = (
  c.from.invariant.0,
  c.note-note.ensures.old.0 ∙ c.from.invariant.1,
  pass_kept c.from.inside.thread _ _ c.note-note.result.view c.note-note.ensures.parts c.from.invariant.2,
  caller_same c.from.inside.thread _ _ c.from.invariant.3 (λ i. (c.note-note.ensures.parts.know i).0),
  c.note-note.ensures.settled.0,
  keeps_reads c.from.inside.thread c.from.inside.seat.view c.note-note.new.seat.view c.from.inside.reads.entries
      (reads_parted c.from.inside.thread c.from.inside.seat.view c.note-note.new.seat.view c.note-note.result.view c.note-note.ensures.parts) c.from.invariant.5,
)

pub invariant_of-to : goal.invariant_of-to
invariant_of-to g c = (
  c.to.invariant.0,
  c.learn.ensures.seat.0 ∙ c.to.invariant.1,
  pass_joined c.to.inside.thread _ c.note-note.result.view _ c.learn.ensures.takes c.to.invariant.2,
  caller_joins c.to.inside.thread _ c.note-note.result.view _ c.to.invariant.3
      (caller_same c.from.inside.thread _ c.note-note.result.view c.from.invariant.3 (λ i. (c.note-note.ensures.parts.know i).1)).known
      c.learn.ensures.takes c.learn.ensures.one_history c.to.invariant.2,
  c.learn.ensures.settled,
  keeps_reads c.to.inside.thread c.to.inside.seat.view c.learn.new.seat.view c.to.inside.reads.entries
      (reads_joined c.to.inside.thread c.to.inside.seat.view c.note-note.result.view c.learn.new.seat.view c.learn.ensures.takes c.to.invariant.2) c.to.invariant.5,
)

pub returns-clause-to : goal.returns-clause-to
returns-clause-to g c =
    let mine = reads_of c.to.inside.thread c.to.inside.reads in
    let theirs = reads_of c.from.inside.thread c.from.inside.reads in
    let now : Pass = record { thread = c.to.inside.thread; view = c.learn.new.seat.view; reads = mine } in
    subst (λ p. Hears p c.args.to.now now) c.from.view_is (subst (λ p. Hears (record { thread = c.from.inside.thread; view = c.from.inside.seat.view; reads = theirs }) p now) c.to.view_is
    (hears c.to.inside.thread c.from.inside.thread theirs mine _ c.note-note.new.seat.view c.note-note.result.view _ _ c.note-note.ensures.parts c.learn.ensures.takes c.to.invariant.2))

pub returns-clause-driver : goal.returns-clause-driver
returns-clause-driver g c = λ is index stand seen s.
    let driver = subst (λ (p : Pass). IsDriver p.thread) (sym c.to.view_is) is in
    driver_hears c.to.inside.seat.view c.note-note.result.view c.learn.new.seat.view
    (caller_same c.from.inside.thread _ c.note-note.result.view c.from.invariant.3 (λ i. (c.note-note.ensures.parts.know i).1)).known c.learn.ensures.takes c.learn.ensures.one_history
    (driver_pass c.to.inside.thread c.to.inside.seat.view driver c.to.invariant.2) index stand seen (subst (λ (p : Pass). DriverStands p.view index stand seen) (sym c.to.view_is) s)
