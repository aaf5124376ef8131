use Rattle.judged_reports.proofs.FromSource.{judged_of}
use Rattle.judged_reports.proofs.judging.judge_report.Goals as goal

pub returns-in-Ok-clause-ok : goal.returns-in-Ok-clause-ok
returns-in-Ok-clause-ok g c = judged_of c.legal_is_report.ensures.found c.args.most (g.S.Source.left c.args.src.now) (g.S.Source.left c.take_report.new.src) c.in_ok-history.history
    (record { finding = c.in-Ok.finding; count = c.len-count.result }) c.requires c.in_ok-history.ensures.ok c.len-count.ensures c.in-Ok.ensures.found
