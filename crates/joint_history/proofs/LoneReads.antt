-- A caller that reads without a lock makes the read's entry behind what it knows: it is a whole operation, after which
-- the caller may begin the next one.
use Rattle.std.proofs.Common.{◌≡◌, ℕ, ◌+◌, ◌<◌, ◌≤◌, ◌^◌, [], ◌∷◌, ◌++◌, None, refl, sym, ap, ◌∙◌, subst, arith}
use Rattle.joint_machine.specs.declared.names.Thread.{Thread}
use Rattle.joint_machine.specs.declared.names.Thread.TheVariants.{M, P, C}
use Rattle.joint_machine.specs.declared.lines.Act.{Act}
use Rattle.joint_machine.specs.declared.lines.Act.TheVariants as act
use Rattle.joint_machine.specs.declared.events.Op.TheVariants as op
use Rattle.joint_machine.specs.declared.events.Reply.{Reply}
use Rattle.joint_machine.specs.Lines.{IsManagedThread}
use Rattle.joint_model.specs.Listed.{Stock}
use Rattle.joint_machine.specs.Run.{thread_number}
use Rattle.joint_machine.specs.Told.{nothing}
use Rattle.known_laws.specs.Pasts.{end_of}
use Rattle.order_table.specs.declared.views.KeptEntry.{KeptEntry}
use Rattle.order_table.specs.declared.views.View.{View}
use Rattle.order_table.specs.Facts.{line_entries}
use Rattle.order_table.specs.Views.{known}
use Rattle.weak_wait.specs.declared.reads.Got.{Got}
use Rattle.weak_wait.specs.Reads.{Answers, IsRead, Reads, entry_of, reply_of}
use Rattle.joint_history.specs.Callers.{CallerKnows, HoldsPass, KeepsReads, last_index, own_in, reads_of}
use Rattle.joint_history.specs.Locked.{Makes, MayMake}
use Rattle.joint_history.specs.Operations.{MayBegin, Runs, entry_by, first_of, second_of}
use Rattle.joint_history.proofs.KnownViews.{entries_snoc}
use Rattle.joint_history.proofs.LockedReads.{thread_of_reader}
use Rattle.joint_history.proofs.LockedSteps.{grows_more, owns_on}
use Rattle.joint_history.proofs.ReaderEntries.{reader_entered}
use Rattle.joint_history.proofs.Running.{beginner_is_below, beginner_knows, first_begins, first_ends}
use Rattle.joint_history.proofs.Turning.{caller_begins, first_may}

-- of a managed thread contracts see its reads
pub reads_seen : (t : Thread) (s : Stock) → IsManagedThread t → reads_of t s ≡ s
reads_seen (M n) s is = refl
reads_seen (P n) s is = absurd is
reads_seen C s is = absurd is

-- a read is its own first event, and has no second one
read_first : (a : Act) → IsRead a → op.Line a ≡ first_of a
read_first (act.Read k) r = refl
read_first (act.Await k) r = refl
read_first a r = absurd r

read_alone : (a : Act) (reply : Reply) → IsRead a → second_of a reply ≡ None
read_alone (act.Read k) reply r = refl
read_alone (act.Await k) reply r = refl
read_alone a reply r = absurd r

read_makes : (reader index : ℕ) (a : Act) (g : Got) (number : ℕ) (v w : View) → 0 < reader → reader < 9 → IsRead a → index < 2 ^ 32
    → MayMake (M reader) v index (op.Line a) None → Reads reader index a g number v w → Makes (M reader) v w (entry_by (M reader) index number (op.Line a) (reply_of g) None)
read_makes reader index a g number v w pos low read short may r =
    let k : KeptEntry = entry_of reader index a g number in
    let j = may.stands.known in
    let e = reader_entered reader index a g number v v w j pos low read short may refl r in
    record {
      own = ap line_entries r.grows.caller ∙ entries_snoc (known v (reader + 10)) k;
      more = grows_more v w (1 + reader) k r.grows;
      above = r.above;
      stands = e.stands;
      state = end_of j.known.past;
      told = nothing;
      comes = e.comes;
    }

-- what the read leaves the caller with
pub record ReadAlone (t : Thread) (index : ℕ) (a : Act) (number : ℕ) (g : Got) (v w : View) (old new : Stock) : Type 0 where
  pub pass : HoldsPass t w
  pub knows : CallerKnows t w
  pub keeps : KeepsReads t w new.entries
  pub below : last_index (own_in t w) ≤ index
  pub reads : Reads (thread_number t) index a g number v w
  pub runs : Runs t v w index a (record { first = number; last = number; reply = reply_of g })
  pub entries : (reads_of t new).entries ≡ (reads_of t old).entries ++ entry_by t index number (op.Line a) (reply_of g) None ∷ []
  pub spare : (reads_of t new).spare + 1 ≡ (reads_of t old).spare

by_reader : (reader index : ℕ) (a : Act) (number : ℕ) (g : Got) (v w : View) (old new : Stock) → 0 < reader → reader < 9 → IsRead a → index < 2 ^ 32 → Answers reader index a number g v w old new
    → HoldsPass (M reader) v → CallerKnows (M reader) v → KeepsReads (M reader) v old.entries → last_index (own_in (M reader) v) ≤ index → ReadAlone (M reader) index a number g v w old new
by_reader reader index a number g v w old new pos low read short x pass ks keeps last =
    let k : KeptEntry = entry_of reader index a g number in
    let is : IsManagedThread (M reader) = (pos, omega (arith, low)) in
    let may = first_may (M reader) v index (op.Line a) is (caller_begins (M reader) v index is ks last) tt in
    let makes = read_makes reader index a g number v w pos low read short may x.reads in
    let begins : MayBegin (M reader) w index = first_begins (M reader) index a v w number (reply_of g) (op.Line a) (read_first a read) makes (read_alone a (reply_of g) read) in
    record {
      pass = λ i q. owns_on v w (1 + reader) k x.reads.grows i (pass i q);
      knows = beginner_knows (M reader) w index begins;
      keeps = ap line_entries x.reads.grows.role ∙ (entries_snoc (known v (1 + reader)) k ∙ (ap (λ es. es ++ k.entry ∷ []) keeps ∙ sym x.entries));
      below = beginner_is_below (M reader) w index is begins;
      reads = x.reads;
      runs = first_ends (M reader) index a v w number (reply_of g) (op.Line a) (read_first a read) makes (read_alone a (reply_of g) read);
      entries = x.entries;
      spare = x.spare;
    }

pub read_alone_by : (t : Thread) (reader index : ℕ) (a : Act) (number : ℕ) (g : Got) (v w : View) (old new : Stock) → IsManagedThread t
    → reader ≡ thread_number t → 0 < reader → reader < 9 → IsRead a → index < 2 ^ 32 → Answers reader index a number g v w old new
    → HoldsPass t v → CallerKnows t v → KeepsReads t v old.entries → last_index (own_in t v) ≤ index → ReadAlone t index a number g v w old new
read_alone_by t reader index a number g v w old new is n pos low read short x =
    subst (λ u. HoldsPass u v → CallerKnows u v → KeepsReads u v old.entries → last_index (own_in u v) ≤ index → ReadAlone u index a number g v w old new) (sym (thread_of_reader t reader is n))
    (by_reader reader index a number g v w old new pos low read short x)
