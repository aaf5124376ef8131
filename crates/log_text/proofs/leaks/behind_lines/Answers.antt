use Rattle.std.proofs.Common.{take, get_or, ap, sym, ◌∙◌}
use Rattle.std.proofs.lemmas.List.{take_more}
use Rattle.log_text.specs.declared.lines.LogLine.{LogLine}
use Rattle.log_text.specs.declared.lines.Mark.TheVariants.{GPlus}
use Rattle.log_text.specs.Behind.{behind_all, none_live}
use Rattle.log_text.specs.Live.{shown}
use Rattle.log_text.proofs.LogTexts.{noted}
use Rattle.log_text.proofs.leaks.behind_lines.Goals as goal

pub loop-line-preserved : goal.loop-line-preserved
loop-line-preserved c =
    let i = c.loop-line.line-index in
    let ls = c.args.lines.now in
    let d : LogLine = record { mark = GPlus; h = record { 0 = 0 }; p = record { 0 = 0 }; grefc = 0; gwrefc = 0; entry = 0 } in
    let k = c.loop-line.invariant in
    let n = noted (take i ls) (shown c.loop-line.live) (shown c.note.new.self) (get_or ls i d) i k.behind c.in_ok-note.ensures.ok k.strong k.weak in
    record {
      behind = n.0 ∙ ap (behind_all none_live) (sym (take_more ls i d c.loop-line-test.true));
      strong = n.1;
      weak = n.2;
    }
