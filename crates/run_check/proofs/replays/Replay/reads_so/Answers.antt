-- A filled pin is answered, and with an empty one the rules of reads decide.
use Rattle.run_check.proofs.ReadAnswers.{pinned-answers, unpinned-answers}
use Rattle.run_check.proofs.replays.Replay.reads_so.Goals as goal

pub returns-in-Some-clause-right : goal.returns-in-Some-clause-right
returns-in-Some-clause-right c = λ h past w.
    pinned-answers h past c.args.self.now w c.args.made.now.caller c.requires.caller c.args.k.0
    c.args.made.now.reply c.pin.result c.pin.ensures c.in-Some.m c.in-Some.is c.is_same.result c.is_same.ensures

pub returns-in-None-clause-right : goal.returns-in-None-clause-right
returns-in-None-clause-right c = λ h past w.
    unpinned-answers h past c.args.self.now w c.args.made.now.caller c.requires.caller c.args.k.0 c.args.made.now.reply
    c.pin.result c.pin.ensures c.in-None.is c.reads_unpinned.result (c.reads_unpinned.ensures.right h past w)
