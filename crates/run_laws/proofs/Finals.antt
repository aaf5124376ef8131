-- What a run's history has follows from what it holds and that it is linked, by the laws of scripts and of linked
-- histories.
use Rattle.std.specs.Prelude.{◌<◌, ◌^◌, length}
use Rattle.joint_machine.specs.Histories.{Finished}
use Rattle.joint_machine.specs.LinkedHistories.{managed_end}
use Rattle.joint_laws.specs.ReadingLaws.{IsLawfulReading}
use Rattle.joint_laws.proofs.ReadsAside.{linked_is_complete}
use Rattle.joint_laws.proofs.ReadingsGoneAfter.{weak_reads_are_gone_reading, none_is_mirrored_reading}
use Rattle.joint_history.specs.Ending.{IsFinished}
use Rattle.script_laws.specs.Closing.{AllCyclesClose}
use Rattle.script_laws.proofs.Asides.{exact_asides_are_replies}
use Rattle.script_laws.proofs.Ending.{held-end}
use Rattle.script_laws.proofs.Finishing.{one-history}
use Rattle.script_laws.proofs.OneText.{one-text}
use Rattle.script_laws.proofs.ReadCycles.{linked-end}
use Rattle.script_laws.proofs.ThreadEnding.{thread_history_ends}
use Rattle.run_laws.specs.Final.{IsBridgeRun}
use Rattle.run_laws.proofs.FreedReads.{freed_reads_are_gone}
use Rattle.run_laws.proofs.HeldPeers.{every_reading_run_keeps_held_peers}
use Rattle.run_laws.proofs.SparedRuns.{every_reading_run_spares_reached}
use Rattle.run_laws.specs.FinalLaws.{HeldByThreadsIsRun, HeldInOrderIsRun, RunsInOrderAreOne}

-- a finished history that closes each cycle is a run's
abbrev pub kept : (h : Finished) (w : IsFinished h) → length h.entries < 2 ^ 64 → AllCyclesClose h.entries → IsBridgeRun h w.noted
kept h w few ends =
    let run = linked_is_complete h w.noted w.finished.linked in
    let lawful : IsLawfulReading w.noted = (w.noted, (managed_end w.noted).cells, w.finished.linked.lawful) in
    record {
      linked = w.finished.linked;
      queued = w.finished.queued;
      ends = linked-end h w.noted w.finished.linked ends;
      moments = run.0;
      run = run.1;
      sound = run.2;
      complete = run.3;
      held_peers = every_reading_run_keeps_held_peers w.noted run.0 lawful run.1;
      spares = every_reading_run_spares_reached w.noted run.0 lawful run.1;
      gated = w.finished.gated;
      pinned = w.finished.pinned;
      reads_gone = freed_reads_are_gone h w.noted w.finished.linked;
      peers_gone = weak_reads_are_gone_reading w.noted lawful;
      cleared = none_is_mirrored_reading w.noted lawful;
      named = λ other theirs same. one-text other h theirs (record { noted = w.noted; linked = w.finished.linked }) few same;
    }

pub held_in_order_is_run : HeldInOrderIsRun
held_in_order_is_run script h w few held =
    let exact = exact_asides_are_replies h w.noted w.finished.linked held.asides in
    record {
      noted = w.noted;
      kept = kept h w few (held-end script h.entries held.lines);
      lines = held.lines;
      exact = exact;
      only = λ other theirs x lines. one-history script other h theirs (record { noted = w.noted; linked = w.finished.linked }) x exact lines held.lines;
    }

pub held_by_threads_is_run : HeldByThreadsIsRun
held_by_threads_is_run script h w few lines waits = record {
  noted = w.noted;
  kept = kept h w few (thread_history_ends script h w.noted w.finished.linked lines);
  lines = lines;
  waits = waits;
}

pub runs_in_order_are_one : RunsInOrderAreOne
runs_in_order_are_one script g h a b = (b.only g record { noted = a.noted; linked = a.kept.linked } a.exact a.lines).whole a.kept.queued b.kept.queued
