use Rattle.std.proofs.Common.{refl}
use Rattle.gref_log.specs.Tracking.{logged_all, nothing_logged}
use Rattle.gref_log.proofs.Logging.{are_logged}
use Rattle.gref_log.proofs.making.write_log_of.Goals as goal

pub returns-in-Ok-write_made-clause-written : goal.returns-in-Ok-write_made-clause-written
returns-in-Ok-write_made-clause-written g c =
    let w = c.in-Ok-write_made.ensures in
    let all = logged_all nothing_logged c.args.h.now.entries in
    record { lines = all.lines; whole = are_logged c.args.h.now all c.requires refl w.fits w.handles; text = w.written.whole }

pub returns-clause-part : goal.returns-clause-part
returns-clause-part g c =
    let w = c.in-Err.ensures in
    let all = logged_all nothing_logged c.args.h.now.entries in
    λ e. record { lines = all.lines; whole = are_logged c.args.h.now all c.requires refl w.fits w.handles; text = w.written.part }
