use Rattle.std.proofs.Common.{◌<◌, refl, arith, cond, length}
use Rattle.std.proofs.lemmas.List.Sums.{sum_by_push}
use Rattle.bridge_script.specs.Scripts.{is_cycle}
use Rattle.bridge_script.proofs.Texts.{script_grown}
use Rattle.bridge_script.proofs.Growing.{cycles_first}
use Rattle.bridge_script.proofs.scripts.Script.grow.Goals as goal

pub returns-then-cycles-gt-MOST_CYCLES-clause-read : goal.returns-then-cycles-gt-MOST_CYCLES-clause-read
returns-then-cycles-gt-MOST_CYCLES-clause-read c text reads =
    let counted = rw c.self.view_is at c.self.invariant.1 in
    let read = rw c.in-Ok.is at reads in
    let room : length c.self.inside.lines.items < 20000 = omega arith in
    rw (c.refusal-then-cycles-gt-MOST_CYCLES.ensures.fault, ← read.1)
    (refl, cycles_first c.args.self.now c.in-Ok.line c.args.end read.0 (rw c.self.view_is at room) (omega arith) (rw c.self.view_is at c.self.invariant.0).cycles (omega (arith, counted)))

pub invariant_of-self-2 : goal.invariant_of-self-2
invariant_of-self-2 c =
    let lawful = rw c.in-Ok.is at c.requires in
    let counted = c.self.invariant.1 in
    rw c.in-Ok-push.ensures.items (
      script_grown c.self.inside.lines.items c.in-Ok.line c.self.invariant.0 lawful (omega arith) (omega (arith, counted)),
      omega (arith, counted, sum_by_push (λ l. cond (is_cycle l) 1 0) c.self.inside.lines.items c.in-Ok.line),
    )

pub returns-clause-read : goal.returns-clause-read
returns-clause-read c text reads =
    let read = rw c.in-Ok.is at reads in
    let counted = c.self.invariant.1 in
    rw (c.in-Ok-push.ensures.items, ← c.self.view_is) record {
      line = c.in-Ok.line;
      grown = refl;
      lawful = script_grown c.self.inside.lines.items c.in-Ok.line c.self.invariant.0 read.0 (omega arith) (omega (arith, counted));
      read = read.1;
      size = omega arith;
    }
