-- A read under the managed lock: its caller makes the entry, whose answer is what the managed list gives, and the
-- locked seat knows the managed side as it was.
use Rattle.std.proofs.Common.{◌≡◌, inl, inr, ℕ, ◌+◌, ◌<◌, ◌^◌, List, [], ◌∷◌, ◌++◌, None, refl, sym, ap, ◌∙◌, subst, arith}
use Rattle.joint_machine.specs.declared.names.Thread.{Thread}
use Rattle.joint_machine.specs.declared.names.Thread.TheVariants.{M, P, C}
use Rattle.joint_machine.specs.declared.lines.Act.{Act}
use Rattle.joint_machine.specs.declared.events.Op.TheVariants as op
use Rattle.joint_machine.specs.declared.events.Reply.{Reply}
use Rattle.joint_machine.specs.Draws.{numbered}
use Rattle.joint_machine.specs.Lines.{IsManagedThread}
use Rattle.joint_model.specs.Listed.{Stock}
use Rattle.joint_machine.specs.ManagedReplay.{ManagedReplay}
use Rattle.joint_machine.specs.Run.{thread_number}
use Rattle.joint_machine.specs.Sides.{Side}
use Rattle.joint_machine.specs.Told.{nothing}
use Rattle.order_table.specs.declared.views.KeptEntry.{KeptEntry}
use Rattle.order_table.specs.declared.views.View.{View}
use Rattle.order_table.specs.Facts.{line_entries}
use Rattle.order_table.specs.Views.{known, Owns}
use Rattle.seat_calls.specs.Gating.{ReadsLocked}
use Rattle.weak_wait.specs.declared.reads.Got.{Got}
use Rattle.weak_wait.specs.Reads.{IsExact, IsRead, cell_of, entry_of, reply_of}
use Rattle.joint_history.specs.Callers.{HoldsPass, KeepsReads}
use Rattle.joint_history.specs.Locked.{ManagedKnows, Makes, MayMake, made_by}
use Rattle.joint_history.specs.Operations.{ReadsExactly}
use Rattle.joint_history.proofs.KnownViews.{entries_snoc, same_view}
use Rattle.joint_history.proofs.LockedSteps.{did, lent_joined, makes, own_told, owns_on}
use Rattle.joint_history.proofs.ReaderEntries.{managed_stays, reader_entered}

-- the thread by its reader
pub thread_of_reader : (t : Thread) (reader : ℕ) → IsManagedThread t → reader ≡ thread_number t → t ≡ M reader
thread_of_reader (M n) reader is e = ap (λ z. M z) (sym e)
thread_of_reader (P n) reader is e = absurd is
thread_of_reader C reader is e = absurd is

-- what the call leaves in both seats and in the thread's list
pub record CalledRead (t : Thread) (index : ℕ) (a : Act) (number : ℕ) (reply : Reply) (mine locked2 mine2 : View) (side : Side ManagedReplay) (new : Stock) : Type 0 where
  pub owns : Owns locked2 0
  pub pass : HoldsPass t mine2
  pub knows : ManagedKnows locked2 side
  pub makes : Makes t mine mine2 (numbered number (made_by t index (op.Line a) reply None))
  pub exact : ReadsExactly t mine mine2 a reply
  pub reads : KeepsReads t mine2 new.entries

by_reader : (reader index : ℕ) (a : Act) (number : ℕ) (g : Got) (locked mine locked2 mine2 : View) (side : Side ManagedReplay) (old new : Stock) → 0 < reader
    → reader < 9 → IsRead a → index < 2 ^ 32 → Owns locked 0 → ManagedKnows locked side → ReadsLocked reader index a number g locked mine locked2 mine2 old new
    → HoldsPass (M reader) mine → MayMake (M reader) mine index (op.Line a) None → KeepsReads (M reader) mine old.entries
    → CalledRead (M reader) index a number (reply_of g) mine locked2 mine2 side new
by_reader reader index a number g locked mine locked2 mine2 side old new pos low read short owns ks w pass may keeps =
    let k : KeptEntry = entry_of reader index a g number in
    let r = w.answers.reads in
    let j = lent_joined (M reader) locked mine w.lent w.left w.lends ks.known may.stands.known in
    let own = own_told (M reader) locked mine w.lent w.left w.lends ks.known may.stands.known pass in
    let e = reader_entered reader index a g number mine w.lent w.made j.joined pos low read short may own r in
    let d = did (M reader) locked mine w.lent w.left w.made locked2 mine2 0 (pos, omega (arith, low)) (omega arith) pass owns w.lends (owns_on w.lent w.made (1 + reader) k r.grows) w.returns in
    let managed_line : known w.made 0 ≡ known w.lent 0 = r.grows.others 0 (λ z. omega (arith, z)) (λ z. let z' : 0 ≡ reader + 10 = z in omega arith) in
    let mine_line : known w.lent (reader + 10) ≡ known mine (reader + 10) = w.lends.own (reader + 10) (inl refl) (pass (reader + 10) (inl refl)) in
    record {
      owns = d.owns;
      pass = d.pass;
      knows = record {
        known = same_view w.made locked2 e.grown.known w.returns.stays;
        entries = ap line_entries (w.returns.stays 0 ∙ (managed_line ∙ w.lends.whole 0 owns)) ∙ ks.entries;
        state = managed_stays reader index a g number mine w.lent w.made j.joined pos low read short may own w.answers.reads ∙ (j.managed_first (w.lends.whole 0 owns) ∙ ks.state);
      };
      makes = makes (M reader) locked mine w.lent w.left w.made locked2 mine2 (1 + reader) k nothing j.joined pass refl w.lends r.grows r.above e w.returns;
      exact = λ _. record {
        got = g;
        answer = refl;
        exact = subst (λ (z : List KeptEntry × List KeptEntry). IsExact z.0 z.1 (cell_of a) g) (λ i. (sym (w.returns.same 0 ∙ managed_line) i, mine_line i)) (r.exact (w.lends.kept 0 owns));
      };
      reads = ap line_entries (w.returns.same (1 + reader) ∙ r.grows.role)
          ∙ (entries_snoc (known w.lent (1 + reader)) k ∙ (ap (λ es. es ++ k.entry ∷ []) (ap line_entries (w.lends.own (1 + reader) (inr refl) (pass (1 + reader) (inr refl))) ∙ keeps)
          ∙ sym w.answers.entries));
    }

pub called_read : (t : Thread) (reader index : ℕ) (a : Act) (number : ℕ) (g : Got) (reply : Reply) (locked mine locked2 mine2 : View) (side : Side ManagedReplay) (old new : Stock)
    → IsManagedThread t → reader ≡ thread_number t → 0 < reader → reader < 9 → IsRead a → index < 2 ^ 32 → reply ≡ reply_of g → Owns locked 0
    → ManagedKnows locked side → ReadsLocked reader index a number g locked mine locked2 mine2 old new → HoldsPass t mine
    → MayMake t mine index (op.Line a) None → KeepsReads t mine old.entries → CalledRead t index a number reply mine locked2 mine2 side new
called_read t reader index a number g reply locked mine locked2 mine2 side old new is n pos low read short says owns ks w =
    subst (λ (z : Thread × Reply). HoldsPass z.0 mine → MayMake z.0 mine index (op.Line a) None → KeepsReads z.0 mine old.entries → CalledRead z.0 index a number z.1 mine locked2 mine2 side new)
    (λ i. (sym (thread_of_reader t reader is n) i, sym says i))
    (by_reader reader index a number g locked mine locked2 mine2 side old new pos low read short owns ks w)
