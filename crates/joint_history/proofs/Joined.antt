-- The end of a run, once all seats are in: all lists can be joined, the history is linked, and each caller has just its
-- own entries.
use Rattle.std.proofs.Common.{◌≡◌, ℕ, List, [], Option, sym, subst}
use Rattle.std.specs.Prelude.{◌<◌, ◌^◌, length, All, IfOk, Result, Ok, Err}
use Rattle.joint_machine.specs.declared.names.MNum.{MNum}
use Rattle.joint_machine.specs.declared.names.PNum.{PNum}
use Rattle.joint_machine.specs.declared.names.Thread.{Thread}
use Rattle.joint_machine.specs.declared.events.Entry.{Entry}
use Rattle.joint_machine.specs.Histories.{Finished, managed_numbers, peer_numbers}
use Rattle.joint_machine.specs.Shuffles.{IsJoinable, IsShuffle}
use Rattle.joint_machine.specs.Lines.{IsThread}
use Rattle.joint_machine.specs.LinkedHistories.{IsLinked, linked_end}
use Rattle.joint_machine.specs.ManagedReplay.{ManagedReplay}
use Rattle.joint_machine.specs.PeerReplay.{PeerReplay}
use Rattle.joint_machine.specs.PinsTold.{with_pins}
use Rattle.joint_machine.specs.Sides.{Side}
use Rattle.known_laws.specs.Lists.{made_by}
use Rattle.order_table.specs.declared.views.View.{View}
use Rattle.order_table.specs.Facts.{entries_of}
use Rattle.order_table.specs.Views.{OwnsAll}
use Rattle.joint_history.specs.Callers.{Pass}
use Rattle.joint_history.specs.Desks.{Waiting, present}
use Rattle.joint_history.specs.declared.ends.RunEnd.{RunEnd}
use Rattle.joint_history.specs.Ending.{all_lists, AllAreIn, AllTaken, AreNumbersOf, BeginsHistory, HasEndNumbers, HasOwn, IsFinished, IsKnownHistory, StillWaits}
use Rattle.joint_history.proofs.Ended.{all_begin_history, all_begin_past, all_have_own, few_entries, made_none}
use Rattle.joint_history.proofs.Gathering.{Ends, IsFinishedWith, all_gathered, owns_all}

pub owns_every : (y : View) (l : Side ManagedReplay) (r : Side PeerReplay) (lists : List (List Entry)) → AllAreIn y l r lists → OwnsAll y
owns_every y l r lists g = owns_all y l r lists g.threads g.gathered g.all

-- what a finished run's history has
pub record EndsRun (l : ManagedReplay) (r : PeerReplay) (callers : List Pass) (d : Waiting) (h : Finished) : Type 0 where
  pub linked : IsLinked h
  pub ends : IsFinishedWith h l r
  pub finished : IsFinished h
  pub own : All (HasOwn h.entries) callers
  pub none : (t : Thread) → IsThread t → StillWaits d t → made_by t h.entries ≡ []
  pub begins : All (BeginsHistory h.entries) callers
  pub few : length h.entries < 2 ^ 64
  pub known : IsKnownHistory callers h

module _ (l : Side ManagedReplay) (r : Side PeerReplay) (readers : List (List Entry)) (d : Waiting) (callers : List Pass) (all : AllTaken l r readers d callers)
    (left right : List Entry) (same_left : left ≡ l.entries) (same_right : right ≡ r.entries) (freed_managed : List MNum) (freed_peers : List PNum) (notices : List MNum)
    (fm : managed_numbers freed_managed ≡ l.state.managed.heap.freed) (fp : peer_numbers freed_peers ≡ r.state.peers.heap.freed) (ns : managed_numbers notices ≡ l.state.managed.notices) where
  ends : Ends all.gathered.gathered.known.known.past l r freed_managed freed_peers notices (all_lists left right readers) (entries_of all.whole.whole)
  ends =
      let g = all.gathered in
      rw (same_left, same_right) (all_gathered all.seat l r readers g.threads g.gathered g.all all.whole freed_managed freed_peers notices fm fp ns)

  pub lists_join : IsJoinable (all_lists left right readers) freed_managed freed_peers notices
  lists_join = ends.joinable

  pub run_ends : (h : Finished) → IsShuffle (all_lists left right readers) h.entries → h.freed_managed ≡ freed_managed
      → h.freed_peers ≡ freed_peers → h.notices ≡ notices → EndsRun l.state r.state callers d h
  run_ends h shuffle a b c =
      let e = ends.finished h shuffle a b c in
      let g = all.gathered in
      record {
        linked = record { noted = e.0.noted; linked = e.0.finished.linked };
        ends = e.0;
        finished = record { noted = e.0.noted; finished = e.0.finished };
        own = all_have_own all.before all.seat g.gathered.known all.whole h.entries e.1 callers (present d.callers) all.own;
        none = λ t is s. made_none all.seat g.gathered.known all.whole h.entries e.1 t is (all.waiting t is s);
        begins = all_begin_history all.before all.seat all.whole h.entries e.1 callers (present d.callers) all.own;
        few = few_entries all.seat all.whole h.entries e.1;
        known = record {
          past = g.gathered.known.known.past;
          lawful = g.gathered.known.known.lawful;
          linked = (ends.linked h shuffle a b c).linked;
          begins = all_begin_past all.before all.seat g.gathered.known callers (present d.callers) all.own;
        };
      }

  pub result_ends : {E : Type 0} (result : Result Finished E) → IfOk result (λ h. IsShuffle (all_lists left right readers) h.entries) → IfOk result (λ h. h.freed_managed ≡ freed_managed)
      → IfOk result (λ h. h.freed_peers ≡ freed_peers) → IfOk result (λ h. h.notices ≡ notices) → IfOk result (EndsRun l.state r.state callers d)
  result_ends (Ok h) shuffle a b c = run_ends h shuffle a b c
  result_ends (Err x) shuffle a b c = tt

-- numbers that are read off both sides as the run ends are those of the last state, since no pin is counted
pub numbered : (e : RunEnd) (l : ManagedReplay) (r : PeerReplay) → IsFinishedWith e.history l r → AreNumbersOf e l r → HasEndNumbers e
numbered e l r f n = record {
  noted = f.noted;
  finished = f.finished;
  numbers = subst (λ y. AreNumbersOf e (linked_end f.noted).managed y) (sym f.peer) (subst (λ x. AreNumbersOf e x r) (sym f.managed) (but_pins f.pins));
}
  where
    but_pins : (pins : List (Option ℕ)) → AreNumbersOf e (with_pins l pins) r
    but_pins pins = record { cycles = n.cycles; managed = n.managed; managed_left = n.managed_left; peers = n.peers; peers_left = n.peers_left; handles = n.handles; handles_left = n.handles_left }
