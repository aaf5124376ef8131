-- A read that answers as the one machine does fills the pin that the machine fills and is asked for no more than its
-- turn. So where each read does, the list is lawful with reads that are events as all others are.
use Rattle.std.proofs.Common.{◌≡◌, ℕ, true, false, List, [], ◌∷◌, Option, refl, sym, ap, ◌∙◌, subst, true≢false}
use Rattle.std.specs.Prelude.{if◌then◌else◌}
use Rattle.std.proofs.lemmas.List.Elements.{All-head, All-tail}
use Rattle.joint_machine.specs.declared.names.Thread.{Thread}
use Rattle.joint_machine.specs.declared.names.Thread.TheVariants.{M, P, C}
use Rattle.joint_machine.specs.declared.lines.Act.{Act}
use Rattle.joint_machine.specs.declared.lines.Act.TheVariants as act
use Rattle.joint_machine.specs.declared.events.Op.{Op}
use Rattle.joint_machine.specs.declared.events.Op.TheVariants as op
use Rattle.joint_machine.specs.declared.events.Reply.{Reply}
use Rattle.joint_machine.specs.Heaps.{Answered}
use Rattle.joint_machine.specs.Lines.{is_read}
use Rattle.joint_machine.specs.Linked.{Linkage, MayCome, opening_linkage, linkage_after}
use Rattle.joint_machine.specs.Replaying.{AllMayCome, replayed}
use Rattle.joint_machine.specs.Managed.{Managed, managed_line, read_cell}
use Rattle.joint_machine.specs.ManagedReplay.{ManagedAllows}
use Rattle.joint_machine.specs.Readers.{ReadsCell, pins_after, ReaderMayCome, EntryMayCome, AllMayComeReading, reader_after, entry_after, replayed_reading}
use Rattle.joint_machine.specs.Run.{thread_number}
use Rattle.joint_machine.specs.Told.{Told, Noted}
use Rattle.joint_laws.specs.ReadingLaws.{ExactReadingsAreLawful, ReadlessIsExact}
use Rattle.joint_laws.specs.Readings.{AreExact}
use Rattle.joint_laws.proofs.ReadsAside.{read-filled}

-- an entry that may come as an event of the one machine, after which the state is the same
record Exact (s : Linkage) (n : Noted) : Type 0 where
  comes : MayCome s n
  same : entry_after s n ≡ linkage_after s n

module _ (s : Linkage) (number line : ℕ) (reply : Reply) (cites : Option ℕ) where
  abbrev entry : Thread → Op → Told → Noted
  entry t o told = record { entry = record { number = number; made = record { caller = t; index = line; op = o; reply = reply; cites = cites } }; told = told }

  read : (t c : ℕ) (a : Act) (told : Told) → is_read (op.Line a) ≡ true → managed_line s.managed.managed t a ≡ read_cell s.managed.managed t c
      → ReaderMayCome s (entry (M t) (op.Line a) told) → reply ≡ (read_cell s.managed.managed t c).reply → Exact s (entry (M t) (op.Line a) told)
  read t c a told e q w r = record {
    comes = record {
      event = w.event;
      line = w.line;
      short = w.short;
      lawful = record { allowed = subst (λ z. ManagedAllows s.managed (op.Line a) z) (sym w.bare) tt; replies = r ∙ sym (ap (λ (z : Answered Managed). z.reply) q) };
      order = w.order;
    };
    same = ap (λ b. if b then reader_after s (entry (M t) (op.Line a) told) else linkage_after s (entry (M t) (op.Line a) told)) e
        ∙ ap (λ (m : Managed). record (reader_after s (entry (M t) (op.Line a) told)) { managed = record s.managed { managed = m } })
        (ap (λ z. record s.managed.managed { pins = pins_after s.managed.managed.pins t z }) r ∙ (sym (read-filled s.managed.managed t c) ∙ sym (ap (λ (z : Answered Managed). z.state) q)));
  }

  step : (t : Thread) (o : Op) (told : Told) (whole : List Noted) (cells : List (Option ℕ)) → EntryMayCome (is_read o) whole cells s (entry t o told)
      → ((k : ℕ) → ReadsCell o k → reply ≡ (read_cell s.managed.managed (thread_number t) k).reply) → Exact s (entry t o told)
  step (M t) (op.Line (act.Read c)) told whole cells w x = read t c.0 (act.Read c) told refl refl w.0 (x c.0 refl)
  step (M t) (op.Line (act.Await c)) told whole cells w x = read t c.0 (act.Await c) told refl refl w.0 (x c.0 refl)
  step (P t) (op.Line (act.Read c)) told whole cells w x = absurd w.0.event.0.1
  step (P t) (op.Line (act.Await c)) told whole cells w x = absurd w.0.event.0.1
  step C (op.Line (act.Read c)) told whole cells w x = absurd w.0.event.0
  step C (op.Line (act.Await c)) told whole cells w x = absurd w.0.event.0
  step t o told whole cells w x = record { comes = w; same = refl }

exact : (s : Linkage) (n : Noted) (whole : List Noted) (cells : List (Option ℕ)) → EntryMayCome (is_read n.entry.made.op) whole cells s n
    → ((k : ℕ) → ReadsCell n.entry.made.op k → n.entry.made.reply ≡ (read_cell s.managed.managed (thread_number n.entry.made.caller) k).reply) → Exact s n
exact s n whole cells w x = step s n.entry.number n.entry.made.index n.entry.made.reply n.entry.made.cites n.entry.made.caller n.entry.made.op n.told whole cells w x

record Along (s : Linkage) (ns : List Noted) : Type 0 where
  lawful : AllMayCome s ns
  ends : replayed_reading s ns ≡ replayed s ns

along : (whole : List Noted) (cells : List (Option ℕ)) (s : Linkage) (ns : List Noted) → AllMayComeReading whole cells s ns → AreExact s ns → Along s ns
along whole cells s [] a x = record { lawful = tt; ends = refl }
along whole cells s (n ∷ ns) a x =
    let e = exact s n whole cells a.0 x.0 in
    let r = along whole cells (entry_after s n) ns a.1 x.1 in
    record { lawful = (e.comes, subst (λ z. AllMayCome z ns) e.same r.lawful); ends = r.ends ∙ ap (λ z. replayed z ns) e.same }

pub exact_readings_are_lawful : ExactReadingsAreLawful
exact_readings_are_lawful noted w x = let r = along w.0 w.1 opening_linkage noted w.2 x in record { lawful = r.lawful; ends = r.ends }

no_cell : (o : Op) (k : ℕ) → is_read o ≡ false → ReadsCell o k → ⊥
no_cell (op.Line (act.Read c)) k e r = true≢false e
no_cell (op.Line (act.Await c)) k e r = true≢false e
no_cell (op.Line a) k e r = r
no_cell _ k e r = r

pub readless_is_exact : ReadlessIsExact
readless_is_exact [] s a = tt
readless_is_exact (n ∷ ns) s a = (
  (λ k r. absurd (no_cell n.entry.made.op k (All-head (λ (z : Noted). is_read z.entry.made.op ≡ false) n ns a) r)),
  readless_is_exact ns (entry_after s n) (All-tail (λ (z : Noted). is_read z.entry.made.op ≡ false) n ns a),
)
