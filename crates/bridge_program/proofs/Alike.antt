-- The numbers of the last state of a generated script's run are a function of the seed and the size, in either mode:
-- they are the tally of the entries, which is such a function.
use Rattle.std.proofs.Common.{◌≡◌, ℕ, ◌+◌, ◌≤◌, List, Option, length, sym, subst, ◌∙◌, arith}
use Rattle.std.specs.Io.KnownBytes.{Appends}
use Rattle.byte_streams.specs.Faults.{AppendsPart}
use Rattle.joint_machine.specs.declared.names.Thread.{Thread}
use Rattle.joint_machine.specs.declared.lines.Act.{Act}
use Rattle.joint_machine.specs.Histories.{Finished}
use Rattle.command_words.specs.declared.commands.Mode.{Mode}
use Rattle.command_words.specs.declared.commands.Mode.TheVariants as mode
use Rattle.run_laws.specs.WithCycle.{IsRunThenCycle}
use Rattle.script_generator.specs.Generated.{generated}
use Rattle.generated_laws.specs.Counts.{generated_tally}
use Rattle.generated_laws.specs.Laws.{IsGeneratedRun}
use Rattle.generated_laws.proofs.Alike.{generated_runs_are_alike}
use Rattle.joint_history.specs.declared.ends.RunEnd.{RunEnd}
use Rattle.joint_history.specs.Ending.{HasEndNumbers}
use Rattle.joint_machine.specs.LinkedHistories.{linked_end}
use Rattle.run_summary.specs.declared.tallies.Tally.{Tally}
use Rattle.run_summary.specs.Summary.{summary_text}
use Rattle.run_summary.specs.Tallies.{tally_of}
use Rattle.summary_laws.specs.States.{tally_in}
use Rattle.summary_laws.specs.Laws.{HeapsOfLinked, TalliesOfLinked}
use Rattle.summary_laws.proofs.Counting.{same_tally}
use Rattle.summary_laws.proofs.Readings.{tallies_of_linked}
use Rattle.bridge_program.specs.Top.{IsGeneratedRunIn, IsGeneratedRunOf}

then-cycle : (asked : Mode) (script : List (Thread × Act)) (h : Finished) → IsGeneratedRunIn asked script h → IsRunThenCycle script h
then-cycle mode.Serial script h r = r.1
then-cycle mode.Threads script h r = r

of-script : (seed size : ℕ) (h : Finished) → IsRunThenCycle (generated seed size) h → IsGeneratedRun seed size h
of-script seed size h r = record {
  noted = r.noted;
  linked = r.kept.linked;
  before = r.lines.before;
  cycle = r.lines.cycle;
  all = r.lines.all;
  lines = r.lines.lines;
  standing = r.lines.cycle_is.standing;
  idle = r.lines.cycle_is.idle;
  number = length (generated seed size) + 1;
  line = r.lines.cycle_is.line;
}

tally-is : (asked : Mode) (seed size : ℕ) (h : Finished) → size ≤ 2800 → IsGeneratedRunIn asked (generated seed size) h → tally_of h.entries ≡ generated_tally seed size
tally-is asked seed size h small r = generated_runs_are_alike seed size h small (of-script seed size h (then-cycle asked (generated seed size) h r))

runs-alike : (asked : Mode) (seed size : ℕ) (h : Finished) → size ≤ 2800 → IsGeneratedRunIn asked (generated seed size) h → IsGeneratedRunOf asked seed size h
runs-alike asked seed size h small r = record { run = r; last = λ noted linked. sym (tallies_of_linked h noted linked) ∙ tally-is asked seed size h small r }

-- so what was put with the tally of the entries was put with those numbers: all of it, or a beginning
put-of-last : (Put : List ℕ → Type 0) (asked : Mode) (seed size lines : ℕ) (h : Finished) (t : Tally) → size ≤ 2800 → IsGeneratedRunIn asked (generated seed size) h
    → lines ≡ length (generated seed size) → t ≡ tally_of h.entries → Put (summary_text seed size asked lines t)
    → (h : Finished) × IsGeneratedRunOf asked seed size h × Put (summary_text seed size asked (length (generated seed size)) (generated_tally seed size))
put-of-last Put asked seed size lines h t small r many is put =
    let told = subst (λ x. Put (summary_text seed size asked lines x)) (is ∙ tally-is asked seed size h small r) put in
    (h, runs-alike asked seed size h small r, subst (λ n. Put (summary_text seed size asked n (generated_tally seed size))) many told)

pub all_of_last : (old new : Option (List ℕ)) (asked : Mode) (seed size lines : ℕ) (h : Finished) (t : Tally) → size ≤ 2800 → IsGeneratedRunIn asked (generated seed size) h
    → lines ≡ length (generated seed size) → t ≡ tally_of h.entries → Appends old new (summary_text seed size asked lines t)
    → (h : Finished) × IsGeneratedRunOf asked seed size h × Appends old new (summary_text seed size asked (length (generated seed size)) (generated_tally seed size))
all_of_last old new = put-of-last (Appends old new)

pub part_of_last : (old new : Option (List ℕ)) (asked : Mode) (seed size lines : ℕ) (h : Finished) (t : Tally) → size ≤ 2800 → IsGeneratedRunIn asked (generated seed size) h
    → lines ≡ length (generated seed size) → t ≡ tally_of h.entries → AppendsPart old new (summary_text seed size asked lines t)
    → (h : Finished) × IsGeneratedRunOf asked seed size h × AppendsPart old new (summary_text seed size asked (length (generated seed size)) (generated_tally seed size))
part_of_last old new = put-of-last (AppendsPart old new)

-- the numbers of a run's last state are the tally of its entries
pub same_numbers : (e : RunEnd) (t : Tally) → HasEndNumbers e → TalliesOfLinked → HeapsOfLinked
    → t ≡ record {
      cycles = e.cycles;
      made = record { managed = e.managed.all; peers = e.peers.all; handles = e.handles.all };
      left = record { managed = e.managed.left; peers = e.peers.left; handles = e.handles.left };
    } → t ≡ tally_of e.history.entries
same_numbers e t w law heaps is =
    let n = w.numbers in
    let up = heaps e.history w.noted w.finished.linked in
    let same = same_tally (record {
      cycles = e.cycles;
      made = record { managed = e.managed.all; peers = e.peers.all; handles = e.handles.all };
      left = record { managed = e.managed.left; peers = e.peers.left; handles = e.handles.left };
    }) (tally_in (linked_end w.noted)) (record {
      cycles = n.cycles;
      managed = n.managed;
      peers = n.peers;
      handles = n.handles;
      managed_left = omega (arith, n.managed_left, up.0);
      peers_left = omega (arith, n.peers_left, up.1);
      handles_left = n.handles_left;
    }) in
    is ∙ (same ∙ sym (law e.history w.noted w.finished.linked))
