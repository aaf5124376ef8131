use Rattle.std.proofs.Common.{◌<◌}
use Rattle.joint_machine.specs.declared.names.StaticNo.{StaticNo}
use Rattle.bridge_script.specs.Words.{peer_static}
use Rattle.entry_reader.proofs.Parts.{no_word, one_word}
use Rattle.entry_reader.proofs.events.take_static.Goals as goal

pub returns-in_err-next : goal.returns-in_err-next
returns-in_err-next c = rw c.from_residual.ensures (no_word (λ (x : StaticNo). x.0 < 16) peer_static c.args.words.now c.next.new.self c.in_err-next.ensures.0)

pub returns : goal.returns
returns c = one_word (λ (x : StaticNo). x.0 < 16) peer_static c.args.words.now c.next.new.self c.in_ok-next.field-0.now c.peer_static.result c.in_ok-next.ensures c.peer_static.ensures
