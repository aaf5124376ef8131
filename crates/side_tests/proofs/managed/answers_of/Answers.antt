-- One answer more, whose handle has its place's number.
use Rattle.std.proofs.Common.{◌+◌, ◌∙◌, ◌∷◌, [], ap, arith, length, length-append, subst, sym}
use Rattle.side_tests.specs.Drives.{AreFrom}
use Rattle.side_tests.proofs.Snapshots.{from-more, has-number}
use Rattle.side_tests.proofs.managed.answers_of.Goals as goal

pub answers-preserved : goal.answers-preserved
answers-preserved c =
    let first = c.args.first in
    let answers = c.answers.answers.values in
    let values = c.push.ensures.values in
    let more = ap length values ∙ length-append answers (c.given_if.result ∷ []) in
    let room = c.push.ensures.room in
    let count = c.answers.invariant.0 in (
      omega (arith, more, room, count),
      subst (AreFrom first) (sym values) (from-more first answers c.given_if.result c.answers.invariant.1 (has-number c.given_if.result _ (first + length answers) (omega arith) c.given_if.ensures)),
    )
