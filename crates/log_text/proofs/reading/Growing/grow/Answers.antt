use Rattle.std.proofs.Common.{◌∷◌, [], ◌++◌, ap, ◌∙◌}
use Rattle.log_text.specs.Live.{shown}
use Rattle.log_text.proofs.LogTexts.{grown}
use Rattle.log_text.proofs.reading.Growing.grow.Goals as goal

pub invariant_of-self-2 : goal.invariant_of-self-2
invariant_of-self-2 c = grown c.self.inside.lines.items c.push_reserved.new.self.items (shown c.self.inside.live)
    (shown c.note.new.self) c.args.line c.self.invariant c.requires.fits c.if-not-may_stand.ensures c.if-not-will_have_counts.ensures
    (c.push_reserved.ensures.items ∙ ap (λ ls. ls ++ c.args.line ∷ []) c.in_ok-reserve.ensures.items) c.in_ok-note.ensures.ok
