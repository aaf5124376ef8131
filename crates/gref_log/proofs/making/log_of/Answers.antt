use Rattle.std.proofs.Common.{refl, subst}
use Rattle.std.specs.Prelude.{All}
use Rattle.log_text.specs.Behind.{Fits}
use Rattle.gref_log.specs.Tracking.{logged_all, nothing_logged}
use Rattle.gref_log.proofs.Logging.{are_logged}
use Rattle.gref_log.proofs.making.log_of.Goals as goal

pub of_lines-requires : goal.of_lines-requires
of_lines-requires c =
    let w = c.in_ok-list_entries.ensures in
    let g = logged_all nothing_logged c.args.h.now.entries in
    rw w.lines (are_logged c.args.h.now g c.requires refl (subst (All Fits) w.lines w.fits) w.handles).log

pub returns-clause-log : goal.returns-clause-log
returns-clause-log c =
    let w = c.in_ok-list_entries.ensures in
    let g = logged_all nothing_logged c.args.h.now.entries in
    rw (c.of_lines.ensures, w.lines) (are_logged c.args.h.now g c.requires refl (subst (All Fits) w.lines w.fits) w.handles).log_of_history

pub returns-clause-table : goal.returns-clause-table
returns-clause-table c =
    let w = c.in_ok-list_entries.ensures in
    let g = logged_all nothing_logged c.args.h.now.entries in
    rw (c.of_lines.ensures, w.lines) (are_logged c.args.h.now g c.requires refl (subst (All Fits) w.lines w.fits) w.handles).table
