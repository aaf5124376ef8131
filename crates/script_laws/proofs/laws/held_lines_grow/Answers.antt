use Rattle.script_laws.proofs.Growing.{held_lines_grow, held_lines_end, idle_leaves_nothing, numbers_go_on, lines_of_go_on, rising_entries_are_one}
use Rattle.script_laws.proofs.AllThreads.{each_thread_is_all}
use Rattle.script_laws.proofs.laws.held_lines_grow.Goals as goal

pub returns : goal.returns
returns c = record {
  grow = held_lines_grow;
  end = held_lines_end;
  idle = idle_leaves_nothing;
  numbers = numbers_go_on;
  lines_of = lines_of_go_on;
  one = rising_entries_are_one;
  each_thread = each_thread_is_all;
}
