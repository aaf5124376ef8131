-- A read that answers as it may is drawn, and its pin is filled where it names an object.
use Rattle.std.proofs.Common.{◌+◌, ap, sym, subst, ◌∙◌}
use Rattle.joint_machine.specs.Run.{thread_number}
use Rattle.joint_machine.specs.Told.{nothing}
use Rattle.run_check.specs.declared.replays.Replay.{Replay}
use Rattle.run_check.specs.Follows.{pins_read}
use Rattle.run_check.specs.Judging.{Replied}
use Rattle.run_check.proofs.ReadEntries.{behind, read-replied}
use Rattle.run_check.proofs.replays.Replay.reads.Goals as goal

pub returns : goal.returns
returns c = λ past may.
    let h = c.args.h.now in
    let m = c.args.made.now in
    let old = c.args.self.now in
    let mid = c.if-not-reads_so.ensures.rest in
    let d = c.note_read.new.self.draw in
    let x = c.note_read.new.self.readers in
    let is = c.note_read.ensures.rest ∙ ap (λ (z : Replay). record z { draw = d; readers = x }) mid in (
      nothing,
      subst (λ z. Replied h past m old z nothing) (sym is)
          (read-replied h past m old may c.args.k.0 c.requires.cell d x (c.note_read.ensures.drawn ∙ ap (λ (z : Replay). z.draw.counter + 1) mid)
          (c.note_read.ensures.pins ∙ ap (λ (z : Replay). record z.readers { pins = pins_read z.readers.pins (thread_number m.caller) m.reply }) mid)
          ((c.reads_so.ensures.right h past (behind h past m old may c.args.k.0 c.requires.cell)).0 c.if-not-reads_so.false)),
    )
