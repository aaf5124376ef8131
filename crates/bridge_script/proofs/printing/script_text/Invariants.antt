use Rattle.std.proofs.Common.{◌≡◌, take}
use Rattle.bridge_script.specs.Scripts.{script_text_of}
use Rattle.bridge_script.proofs.printing.script_text.Given as goal

abbrev pub invariant-loop-thread : goal.invariant-loop-thread
invariant-loop-thread l = l.bytes.items ≡ script_text_of (take l.thread-index l.thread-items)
