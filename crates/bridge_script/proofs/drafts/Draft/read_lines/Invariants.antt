use Rattle.std.proofs.Common.{◌≡◌, ◌≤◌, ◌++◌, [], length}
use Rattle.bridge_script.specs.Scripts.{script_text_of}
use Rattle.bridge_script.specs.Steps.{taken}
use Rattle.bridge_script.proofs.drafts.Draft.read_lines.Given as goal

abbrev pub invariant-loop-n : goal.invariant-loop-n
invariant-loop-n l = record {
  text : script_text_of l.self-inside.script ++ l.left ≡ taken l.fn.self ++ l.bytes;
  end : l.self-inside.end ≡ length (script_text_of l.self-inside.script);
  size : l.self-inside.end ≤ 8388608;
  held : l.self-inside.held.items ≡ [];
  short : length l.left ≤ length l.bytes;
}

abbrev pub decreases-loop-n : goal.decreases-loop-n
decreases-loop-n l = length l.left
