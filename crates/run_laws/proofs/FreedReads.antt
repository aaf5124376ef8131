-- A read of a freed object isn't answered `unset`: its cell has its target up to the end, and a read that found a cell unset
-- stands before all that frees the target.
use Rattle.std.proofs.Common.{get_or, ◌≡◌, ℕ, zero, suc, ◌+◌, ◌<◌, ◌≤◌, ◌⊎◌, inl, inr, Bool, true, false, List, length, take, Option, Some, None, refl, sym, ap, subst, ◌∙◌, arith, true≢false}
use Rattle.std.specs.Prelude.{Contains, slice_get}
use Rattle.std.specs.Option.{option_map}
use Rattle.std.proofs.lemmas.List.{take_all}
use Rattle.std.proofs.lemmas.Bool.{and_parts}
use Rattle.std.proofs.lemmas.Option.{slice_get-map, slice_get_cases}
use Rattle.joint_machine.specs.declared.names.Cycle.{Cycle}
use Rattle.joint_machine.specs.declared.names.Thread.{Thread}
use Rattle.joint_machine.specs.declared.events.Entry.{Entry}
use Rattle.joint_machine.specs.declared.events.Reply.{Reply}
use Rattle.joint_machine.specs.declared.events.Reply.TheVariants as says
use Rattle.joint_machine.specs.Heaps.{slot}
use Rattle.joint_machine.specs.Histories.{Finished}
use Rattle.joint_machine.specs.Lines.{is_read}
use Rattle.joint_machine.specs.Linked.{Linkage, MayCome, opening_linkage, linkage_after}
use Rattle.joint_machine.specs.LinkedHistories.{IsLinkedBy, linked_end, managed_end}
use Rattle.joint_machine.specs.Managed.{Managed}
use Rattle.joint_machine.specs.ManagedReplay.{ManagedReplay}
use Rattle.joint_machine.specs.Readers.{FreesObject, IsReadReply, EntryMayCome, entry_after, is_set_aside, is_aside, replayed_reading}
use Rattle.joint_machine.specs.Replaying.{replayed}
use Rattle.joint_machine.specs.Told.{Noted}
use Rattle.joint_machine.proofs.Joining.{number_at}
use Rattle.joint_laws.specs.Afterwards.{IsGoneAfter, ReadsObject, ResolveFrees, reading_at}
use Rattle.joint_laws.specs.ManagedInvariants.{ReplayInvariant}
use Rattle.joint_laws.specs.ReadingLaws.{IsLawfulReading, without_aside}
use Rattle.joint_laws.specs.States.{state_at}
use Rattle.joint_laws.proofs.Everywhere.{everywhere}
use Rattle.joint_laws.proofs.LinkedEntries.{Of, BothInvariants-entry, BothInvariants-opening}
use Rattle.joint_laws.proofs.ReadingsGoneAfter.{entry-by, lock_free_reads_are_gone, reading-after, reading-comes, reading-take}
use Rattle.joint_laws.proofs.ReadsAside.{reading_is_lawful, reading_leads_to_same}
use Rattle.check_laws.proofs.Keeping.{since-entry}
use Rattle.run_laws.specs.Final.{FreedReadsAreGone}

module _ (noted : List Noted) (w : IsLawfulReading noted) where
  kept : (j : ℕ) → ReplayInvariant (reading_at noted j).managed
  kept j =
      let front : IsLawfulReading (take j noted) = (w.0, w.1, reading-take w.0 w.1 noted opening_linkage j w.2) in
      let standing : List Noted = without_aside (take j noted) in
      let k = everywhere Of BothInvariants-opening BothInvariants-entry standing (reading_is_lawful (take j noted) front) (length standing) in
      subst ReplayInvariant
      (ap (λ ns. (replayed opening_linkage ns).managed) (take_all (length standing) standing (omega arith)) ∙ sym (reading_leads_to_same (take j noted) front).managed)
      k.managed

  -- a cell's target stays
  stays-next : (j c m : ℕ) (n : Noted) → slice_get noted j ≡ Some n → slot (reading_at noted j).managed.managed.cells c ≡ Some m
      → slot (reading_at noted (suc j)).managed.managed.cells c ≡ Some m
  stays-next j c m n there e =
      subst (λ (s : Linkage). slot s.managed.managed.cells c ≡ Some m) (sym (reading-after noted opening_linkage j n there))
      (by (is_read n.entry.made.op) refl (reading-comes w.0 w.1 noted opening_linkage j n w.2 there))
    where
      by : (b : Bool) → is_read n.entry.made.op ≡ b → EntryMayCome b w.0 w.1 (reading_at noted j) n → slot (entry_after (reading_at noted j) n).managed.managed.cells c ≡ Some m
      by true f may = subst (λ (s : Linkage). slot s.managed.managed.cells c ≡ Some m) (sym (entry-by (reading_at noted j) n true f)) e
      by false f may = subst (λ (s : Linkage). slot s.managed.managed.cells c ≡ Some m) (sym (entry-by (reading_at noted j) n false f))
          ((since-entry (reading_at noted j) n may (kept j)).stay c m e)

  stays-on : (i c m : ℕ) → slot (reading_at noted i).managed.managed.cells c ≡ Some m → slot (reading_at noted (suc i)).managed.managed.cells c ≡ Some m
  stays-on i c m e = by (slice_get_cases noted i).1
    where
      by : ((n : Noted) × (i < length noted) × (slice_get noted i ≡ Some n) × (get_or noted i n ≡ n)) ⊎ ((length noted ≤ i) × (slice_get noted i ≡ None))
          → slot (reading_at noted (suc i)).managed.managed.cells c ≡ Some m
      by (inl t) = stays-next i c m t.0 t.2 e
      by (inr t) = subst (λ ns. slot (replayed_reading opening_linkage ns).managed.managed.cells c ≡ Some m) (take_all i noted t.0 ∙ sym (take_all (suc i) noted (let l = t.0 in omega (arith, l)))) e

  stays : (j more c m : ℕ) → slot (reading_at noted j).managed.managed.cells c ≡ Some m → slot (reading_at noted (j + more)).managed.managed.cells c ≡ Some m
  stays j zero c m e = let same : j ≡ j + 0 = omega arith in subst (λ z. slot (reading_at noted z).managed.managed.cells c ≡ Some m) same e
  stays j (suc more) c m e =
      let next : suc (j + more) ≡ j + suc more = omega arith in
      subst (λ z. slot (reading_at noted z).managed.managed.cells c ≡ Some m) next (stays-on (j + more) c m (stays j more c m e))

  at-end : (j c m : ℕ) → slot (reading_at noted j).managed.managed.cells c ≡ Some m → slot (managed_end noted).cells c ≡ Some m
  at-end j c m e = subst (λ ns. slot (managed_end ns).cells c ≡ Some m) (take_all (j + length noted) noted (omega arith)) (stays j (length noted) c m e)

module _ (h : Finished) (noted : List Noted) (linked : IsLinkedBy h noted) (i j k m : ℕ) (n : Noted) (r : ResolveFrees noted i k m) (l : i < j)
    (there : slice_get noted j ≡ Some n) (q : ReadsObject (reading_at noted j).managed.managed n m) where
  abbrev state : Managed
  state = (reading_at noted j).managed.managed

  abbrev caller : Thread
  caller = n.entry.made.caller

  lawful : IsLawfulReading noted
  lawful = (noted, (managed_end noted).cells, linked.lawful)

  number : n.entry.number ≡ j
  number = number_at 0 h.entries linked.numbers j n.entry
      (subst (λ es. slice_get es j ≡ Some n.entry) linked.same (slice_get-map (λ (z : Noted). z.entry) noted j ∙ ap (option_map (λ (z : Noted). z.entry)) there)) ∙ omega arith

  reply : is_read n.entry.made.op ≡ true → IsReadReply noted (managed_end noted).cells state n.entry.number caller q.cell n.entry.made.reply
  reply e = (subst (λ b. EntryMayCome b noted (managed_end noted).cells (reading_at noted j) n) e (reading-comes noted (managed_end noted).cells noted opening_linkage j n linked.lawful there)).1 q.cell q.reads

  unset : IsReadReply noted (managed_end noted).cells state n.entry.number caller q.cell says.Unset → ⊥
  unset t = t.1.target_unfreed m i (at-end noted lawful j q.cell m q.target)
      (record { element = r.element; there = r.there; is = subst (λ z. FreesObject z m) (sym r.is.3) r.is.4 }) (omega (arith, number, l))

  by_reply : (z : Reply) → IsReadReply noted (managed_end noted).cells state n.entry.number caller q.cell z → is_set_aside z ≡ true
      → ((c : Cycle) × (z ≡ says.Pending c)) ⊎ IsGoneAfter state caller k z
  by_reply (says.Pending c) t e = inl (c, refl)
  by_reply says.Unset t e = absurd (unset t)
  by_reply _ t e = absurd (true≢false (sym e))

  by : (is_aside n ≡ true) ⊎ IsGoneAfter state caller k n.entry.made.reply → ((c : Cycle) × (n.entry.made.reply ≡ says.Pending c)) ⊎ IsGoneAfter state caller k n.entry.made.reply
  by (inl a) = let t = and_parts (is_read n.entry.made.op) (is_set_aside n.entry.made.reply) a in by_reply n.entry.made.reply (reply t.0) t.1
  by (inr g) = inr g

pub freed_reads_are_gone : (h : Finished) (noted : List Noted) → IsLinkedBy h noted → FreedReadsAreGone noted
freed_reads_are_gone h noted linked i j k m n r l there q =
    by h noted linked i j k m n r l there q (lock_free_reads_are_gone noted (noted, (managed_end noted).cells, linked.lawful) i j k m n r l there q)
