use Rattle.std.proofs.Common.{◌≡◌, ◌≤◌, take}
use Rattle.log_text.specs.Behind.{behind_all, none_live}
use Rattle.log_text.specs.Live.{shown}
use Rattle.log_text.proofs.leaks.behind_lines.Given as goal

abbrev pub invariant-loop-line : goal.invariant-loop-line
invariant-loop-line l = record {
  behind : shown l.live ≡ behind_all none_live (take l.line-index l.lines);
  strong : l.live.grefc ≤ l.line-index;
  weak : l.live.gwrefc ≤ l.line-index;
}
