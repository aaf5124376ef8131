-- The answer comes last, and the place goes on.
use Rattle.std.proofs.Common.{◌+◌, Some, refl, sym, subst}
use Rattle.run_check.specs.declared.cycles.OpenCycle.{OpenCycle as Kept}
use Rattle.run_check.specs.Cycles.{IsAtHandle}
use Rattle.run_check.specs.Going.{HasPut}
use Rattle.run_check.proofs.replays.Replay.answers.Goals as goal

pub returns-in-Some-clause-cycle : goal.returns-in-Some-clause-cycle
returns-in-Some-clause-cycle c =
    let mid : Kept = record c.in-Some.open { alive = c.push.new.self } in
    subst (λ x. HasPut x (Some c.go_on.new.self) c.args.given) (sym c.in-Some.is) (
      c.go_on.new.self,
      refl,
      record {
        mid = mid;
        values = c.push.ensures.values;
        room = c.push.ensures.room;
        rest = refl;
        goes = record { rest = c.go_on.ensures.rest; next = λ n l a. subst (λ (z : Kept). IsAtHandle z.graph.nodes c.go_on.new.self.place (n + 1)) c.go_on.ensures.rest (c.go_on.ensures.next n l a) };
      },
    )
