-- The answer is put at its place.
use Rattle.std.proofs.Common.{Some, ap, sym, ◌∙◌}
use Rattle.std.specs.Option.{option_map}
use Rattle.std.proofs.lemmas.List.{map-set}
use Rattle.joint_replay.specs.Answers.{said_as, answers_as, put_where}
use Rattle.joint_replay.proofs.answers.put_answer.Goals as goal

pub returns-then-i-len : goal.returns-then-i-len
returns-then-i-len c = map-set (option_map said_as) c.args.answers.now.items c.args.i (Some c.args.said)
    ∙ ap (λ b. put_where b (answers_as c.args.answers.now.items) c.args.i (said_as c.args.said)) (sym c.if-wanted.true)
