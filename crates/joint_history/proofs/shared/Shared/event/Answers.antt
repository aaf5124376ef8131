use Rattle.std.proofs.Common.{◌<◌, ◌^◌, sym, arith, ◌∙◌}
use Rattle.joint_history.proofs.EventSteps.{peer_fits}
use Rattle.joint_history.proofs.LockedSteps.{keeps_reads}
use Rattle.joint_history.proofs.shared.Shared.event.Goals as goal

pub make-requires-clause-pass : goal.make-requires-clause-pass
make-requires-clause-pass g c = (c.requires.run.0, c.requires.pass.1)

pub make-requires-clause-fits : goal.make-requires-clause-fits
make-requires-clause-fits g c =
    let short : c.args.index < 2 ^ 32 = omega (arith, c.ranges.index.fits) in
    peer_fits _ c.args.t c.args.mine.now.view c.args.index c.args.op.now c.args.cites c.requires.may short
    (c.requires.event.peer (sym c.is_of_peers.ensures ∙ c.if-is_of_peers.true)) c.requires.run.2

pub returns-then-is_of_peers-clause-reads : goal.returns-then-is_of_peers-clause-reads
returns-then-is_of_peers-clause-reads g c = keeps_reads c.args.t c.args.mine.now.view c.make.new.mine.view c.args.reads.now.entries c.make.ensures.makes.0.reads c.requires.reads

pub returns-then-is_of_peers-clause-ok : goal.returns-then-is_of_peers-clause-ok
returns-then-is_of_peers-clause-ok g c = c.make.ensures.makes.0.ok

pub returns-then-is_of_peers-clause-release : goal.returns-then-is_of_peers-clause-release
returns-then-is_of_peers-clause-release g c = c.make.ensures.makes.1

pub returns-then-is_of_peers-clause-err : goal.returns-then-is_of_peers-clause-err
returns-then-is_of_peers-clause-err g c = c.make.ensures.makes.0.err
