-- A reader's entry stands in the list of its thread's reader and among its thread's own, sets no cell, frees no object
-- and is told with nothing. It may come whenever it is its thread's turn, and both sides' states are after it what they
-- were.
use Rattle.std.proofs.Common.{◌≡◌, ⊎_elim, ℕ, ◌+◌, ◌<◌, ◌^◌, true, false, List, [], ◌∷◌, None, refl, sym, ap, ◌∙◌, subst, arith}
use Rattle.std.specs.Prelude.{if◌then◌else◌, Contains}
use Rattle.std.proofs.lemmas.Bool.{cases_Bool}
use Rattle.std.proofs.lemmas.List.Elements.{Contains-append_left, Contains-append_right}
use Rattle.joint_machine.proofs.Members.{Contains-nil, Contains-here, Contains-cons_cases}
use Rattle.joint_machine.specs.declared.names.Thread.TheVariants.{M}
use Rattle.joint_machine.specs.declared.lines.Act.{Act}
use Rattle.joint_machine.specs.declared.lines.Act.TheVariants as act
use Rattle.joint_machine.specs.declared.events.Op.TheVariants as op
use Rattle.joint_machine.specs.declared.events.Reply.{Reply}
use Rattle.joint_machine.specs.Control.{IsDone}
use Rattle.joint_machine.specs.HistoryLines.{caller_line}
use Rattle.joint_machine.specs.Lines.{IsEvent, IsManagedThread, is_read}
use Rattle.joint_machine.specs.ManagedReplay.{ManagedReplay}
use Rattle.joint_machine.specs.Sides.{cell_target}
use Rattle.joint_machine.specs.Told.{nothing}
use Rattle.joint_laws.proofs.ReadsAside.{line-done}
use Rattle.known_laws.specs.Drawn.{drawn}
use Rattle.known_laws.specs.Known.{Comes, managed_past}
use Rattle.known_laws.specs.Pasts.{end_of, line}
use Rattle.known_laws.proofs.Turning.{reader_entry_comes}
use Rattle.order_table.specs.declared.views.KeptEntry.{KeptEntry}
use Rattle.order_table.specs.declared.views.View.{View}
use Rattle.order_table.specs.Rule.{Item, RunsFrom, is_in, of_line}
use Rattle.order_table.specs.Tells.{BeginsOneHistory, GrowsByEntry}
use Rattle.order_table.specs.Views.{IsInRole, known}
use Rattle.order_table.proofs.Lines.{in_cases}
use Rattle.view_laws.specs.Knowing.{IsDrawnView, of_drawing}
use Rattle.weak_wait.specs.declared.reads.Got.{Got}
use Rattle.weak_wait.specs.Reads.{IsRead, Reads, entry_of, read_made, reply_of}
use Rattle.joint_history.specs.Knowing.{note_of}
use Rattle.joint_history.specs.Locked.{MayMake}
use Rattle.joint_history.proofs.LockedSteps.{Entered, doing_told, entered, last_told}

-- the event of a read
pub reads_cell : (a : Act) → IsRead a → is_read (op.Line a) ≡ true
reads_cell (act.Read k) r = refl
reads_cell (act.Await k) r = refl
reads_cell a r = absurd r

read_event : (n : ℕ) (a : Act) → IsManagedThread (M n) → IsRead a → IsEvent (M n) (op.Line a)
read_event n (act.Read k) is r = ((is, r), tt)
read_event n (act.Await k) is r = ((is, r), tt)
read_event n a is r = absurd r

read_sets_none : (s : ManagedReplay) (n : ℕ) (a : Act) (reply : Reply) → IsRead a → cell_target s (M n) (op.Line a) reply ≡ None
read_sets_none s n (act.Read k) reply r = refl
read_sets_none s n (act.Await k) reply r = refl
read_sets_none s n a reply r = absurd r

-- what stands in a line of one history stands in its list there
item_in : (i n : ℕ) (xs : List Item) (k : KeptEntry) → RunsFrom n xs → Contains (of_line i xs) k → (x : Item) × (x.kept ≡ k) × (is_in i x ≡ true) × IsInRole x.role x.kept.entry.made
item_in i n [] k r c = absurd (Contains-nil k c)
item_in i n (x ∷ xs) k r c = ⊎_elim
    (λ (e : is_in i x ≡ true). ⊎_elim (λ (same : x.kept ≡ k). (x, same, e, r.0.stands)) (λ (later : Contains (of_line i xs) k). item_in i (n + 1) xs k r.1 later)
    (Contains-cons_cases x.kept (of_line i xs) k (subst (λ b. Contains (if b then x.kept ∷ of_line i xs else of_line i xs) k) e c)))
    (λ (e : is_in i x ≡ false). item_in i (n + 1) xs k r.1 (subst (λ b. Contains (if b then x.kept ∷ of_line i xs else of_line i xs) k) e c))
    (cases_Bool (is_in i x))

in_its_list : (v w : View) (r : ℕ) (k : KeptEntry) → r < 10 → GrowsByEntry v w r k → BeginsOneHistory w → IsInRole r k.entry.made
in_its_list v w r k small g o =
    let p = o.begins r in
    let here : Contains (of_line r o.whole) k = subst (λ l. Contains l k) p.1
    (Contains-append_left (known w r) p.0 k (subst (λ l. Contains l k) (sym g.role) (Contains-append_right (known v r) (k ∷ []) k (Contains-here k [])))) in
    let x = item_in r 0 o.whole k o.numbers here in
    ⊎_elim
    (λ (e : r ≡ x.0.role). subst (λ (z : ℕ × KeptEntry). IsInRole z.0 z.1.entry.made) (λ i. (sym e i, x.1 i)) x.3)
    (λ (e : r ≡ caller_line x.0.kept.entry.made.caller). absurd (omega (arith, e, small)))
    (in_cases r x.0 x.2)

module _ (reader index : ℕ) (a : Act) (g : Got) (number : ℕ) (mine before after : View) (j : IsDrawnView before) (pos : 0 < reader)
    (low : reader < 9) (read : IsRead a) (short : index < 2 ^ 32) (may : MayMake (M reader) mine index (op.Line a) None)
    (own : line (caller_line (M reader)) j.known.past ≡ line (caller_line (M reader)) may.stands.known.known.past) (r : Reads reader index a g number before after) where
  is : IsManagedThread (M reader)
  is = (pos, omega (arith, low))

  abbrev k : KeptEntry
  k = entry_of reader index a g number

  draws : drawn (end_of j.known.past) (note_of k.entry nothing) ≡ of_drawing k
  draws = λ i. record { entry = k.entry; target = read_sets_none (end_of j.known.past).managed reader a (reply_of g) read i; freed = [] }

  comes : Comes (is_read (op.Line a)) (end_of j.known.past) (note_of k.entry nothing)
  comes = reader_entry_comes (end_of j.known.past) number (read_made reader index a g) (read_event reader a is read) (reads_cell a read)
      (last_told (M reader) j.known.past may.stands.known.known.past index own may.stands.last) short
      (subst IsDone (sym (doing_told (M reader) j.known.past may.stands.known.known.past own ∙ may.stands.doing)) (line-done may.doing (M reader) index a None may.turn)) refl

  pub reader_entered : Entered (M reader) mine after j.known.past k nothing
  reader_entered = entered (M reader) mine before after (1 + reader) k nothing j is refl r.grows
      (in_its_list before after (1 + reader) k (omega (arith, low)) r.grows r.one_history) r.above refl draws comes

  -- the managed side's state is what it was
  pub managed_stays : (end_of reader_entered.grown.known.known.past).managed ≡ (end_of j.known.past).managed
  managed_stays = reader_entered.grown.managed ∙ ap (managed_past (end_of j.known.past).managed (read_made reader index a g) nothing false) (reads_cell a read)
