-- The answer at the place is the one that is read there; behind the last there is none.
use Rattle.std.proofs.Common.{None, ap, sym, ◌∙◌, arith}
use Rattle.std.specs.Option.{option_map}
use Rattle.std.proofs.lemmas.Option.{slice_get-map, slice_get-get_or, slice_get_past}
use Rattle.joint_replay.specs.Answers.{said_as, handle_in}
use Rattle.joint_replay.proofs.answers.given_at.Goals as goal

pub returns-then-i-answers : goal.returns-then-i-answers
returns-then-i-answers c =
    let xs = c.args.answers.now in
    c.given_by.ensures ∙ sym (ap handle_in (slice_get-map (option_map said_as) xs c.args.i
    ∙ ap (option_map (option_map said_as)) (slice_get-get_or xs c.args.i None (omega (arith, c.if-i-answers.true)))))

pub returns-else-i-answers : goal.returns-else-i-answers
returns-else-i-answers c =
    let xs = c.args.answers.now in
    sym (ap handle_in (slice_get-map (option_map said_as) xs c.args.i ∙ ap (option_map (option_map said_as)) (slice_get_past xs c.args.i (omega (arith, c.if-i-answers.false)))))
