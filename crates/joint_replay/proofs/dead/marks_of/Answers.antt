-- One peer more is marked.
use Rattle.std.proofs.Common.{◌<◌, get_or, length, true, arith}
use Rattle.std.proofs.Math.ListN.{length-set}
use Rattle.std.proofs.lemmas.List.{take_all}
use Rattle.std.proofs.lemmas.Option.{slice_get-get_or}
use Rattle.joint_machine.specs.declared.names.PNum.{PNum}
use Rattle.joint_replay.proofs.Rooting.{mark-more}
use Rattle.joint_replay.proofs.dead.marks_of.Goals as goal

pub loop-p-preserved : goal.loop-p-preserved
loop-p-preserved c =
    let dead = c.args.dead.now in
    let i = c.loop-p.p-index in
    let none : PNum = record { 0 = 0 } in
    let p = get_or dead i none in
    let made = c.requires.within i none c.loop-p-test.true in
    let below : p.0 < length c.loop-p.marks.items = omega (arith, made, c.loop-p.invariant.len) in
    record {
      len = omega (arith, length-set c.loop-p.marks.items p.0 true, c.loop-p.invariant.len);
      exact = mark-more c.loop-p.marks.items dead i p (slice_get-get_or dead i none c.loop-p-test.true) below c.loop-p.invariant.exact;
    }

pub returns : goal.returns
returns c = rw (take_all c.loop-p.p-index c.args.dead.now c.loop-p-test.false) at c.loop-p.invariant.exact
