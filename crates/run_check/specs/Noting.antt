-- What is noted of an entry that is in order.
use Rattle.joint_machine.specs.declared.names.Phase.{Phase}
use Rattle.joint_machine.specs.declared.events.Entry.{Entry}
use Rattle.caller_turns.specs.Turns.{callers_after}
use Rattle.reader_counts.specs.Counts.{counts_after}
use Rattle.run_check.specs.declared.replays.Replay.{Replay}

-- what callers are in the midst of, and the counts
abbrev pub noted_in : Replay → Entry → Phase → Replay
noted_in r e phase = record r {
  turns = callers_after r.turns e.number e.made.caller e.made.index e.made.op e.made.reply phase;
  readers = record r.readers { counts = counts_after r.readers.counts e.made };
}
