-- Every linked list of entries, reads among them, has one with the same entries that is told plainly and leads to the
-- same sides. Of a read it is kept what it answers: that it waits for a cycle, whose number is bounded, that its cell
-- is unset, or what the managed state gives.
use Rattle.std.proofs.Common.{◌≡◌, ℕ, ◌<◌, Bool, true, false, inl, List, [], ◌∷◌, Option, refl, sym, ◌∙◌, ap, subst}
use Rattle.std.specs.Prelude.{if◌then◌else◌}
use Rattle.joint_machine.specs.declared.names.Thread.{Thread}
use Rattle.joint_machine.specs.declared.names.Thread.TheVariants.{M, P, C}
use Rattle.joint_machine.specs.declared.lines.Act.TheVariants as act
use Rattle.joint_machine.specs.declared.events.Op.{Op}
use Rattle.joint_machine.specs.declared.events.Op.TheVariants as op
use Rattle.joint_machine.specs.declared.events.Reply.{Reply}
use Rattle.joint_machine.specs.declared.events.Reply.TheVariants as says
use Rattle.joint_machine.specs.declared.events.Entry.{Entry}
use Rattle.joint_machine.specs.Control.{Stand}
use Rattle.joint_machine.specs.Lines.{is_read}
use Rattle.joint_machine.specs.Linked.{Linkage, MayCome, linkage_after}
use Rattle.joint_machine.specs.Managed.{Managed, read_cell}
use Rattle.joint_machine.specs.Readers.{ReadsCell, MayBePending, IsReadReply, ReaderMayCome, EntryMayCome, AllMayComeReading, reader_after, entry_after, replayed_reading}
use Rattle.joint_machine.specs.Run.{thread_number}
use Rattle.joint_machine.specs.Told.{Told, Noted}
use Rattle.known_laws.specs.PastEntries.{entries}
use Rattle.known_laws.proofs.Retelling.{PlainComes, Near, with_stand, plainly, noting}

-- what a read answers, with a bound on the cycle for which it waits
abbrev pub Answered : ℕ → Managed → ℕ → ℕ → Reply → Type 0
Answered bound s t k (says.Pending c) = c.0 < bound
Answered bound s t k says.Unset = Unit {0}
Answered bound s t k reply = reply ≡ (read_cell s t k).reply

pub record ReadComes (bound : ℕ) (s : Linkage) (n : Noted) : Type 0 where
  pub may : ReaderMayCome s n
  pub answers : (k : ℕ) → ReadsCell n.entry.made.op k → Answered bound s.managed.managed (thread_number n.entry.made.caller) k n.entry.made.reply

-- an entry may come, and is told plainly
abbrev pub PlainEntry : ℕ → Bool → Linkage → Noted → Type 0
PlainEntry bound true s n = ReadComes bound s n
PlainEntry bound false s n = PlainComes s n

abbrev pub AllPlainEntries : ℕ → Linkage → List Noted → Type 0
AllPlainEntries bound s [] = Unit {0}
AllPlainEntries bound s (n ∷ ns) = PlainEntry bound (is_read n.entry.made.op) s n × AllPlainEntries bound (entry_after s n) ns

pub record ToldPlainly (bound : ℕ) (t : Linkage) (s : Linkage) (ns : List Noted) : Type 0 where
  pub notes : List Noted
  pub same : entries notes ≡ entries ns
  pub plain : AllPlainEntries bound t notes
  pub managed : (replayed_reading t notes).managed ≡ (replayed_reading s ns).managed
  pub peer : (replayed_reading t notes).peer ≡ (replayed_reading s ns).peer

module _ (bound : ℕ) (whole : List Noted) (cells : List (Option ℕ)) (few : (i : ℕ) (t : Thread) (k : ℕ) → MayBePending whole i t k → k < bound) where
  answered : (s : Managed) (i : ℕ) (t : Thread) (k : ℕ) (r : Reply) → IsReadReply whole cells s i t k r → Answered bound s (thread_number t) k r
  answered s i t k (says.Pending c) w = few i t c.0 w.1
  answered s i t k says.Unset w = tt
  answered s i t k _ w = w

  -- an entry with something told plainly beside it, at a near stand
  record One (s : Linkage) (z : Stand) (n : Noted) : Type 0 where
    note : Noted
    same : note.entry ≡ n.entry
    comes : PlainEntry bound (is_read note.entry.made.op) (with_stand s z) note
    stand : Stand
    near : Near (entry_after s n).control.stand stand
    after : entry_after (with_stand s z) note ≡ with_stand (entry_after s n) stand

  read : (s : Linkage) (z : Stand) (k t l : ℕ) (o : Op) (r : Reply) (c : Option ℕ) (x : Told) → is_read o ≡ true → Near s.control.stand z
      → ReaderMayCome s (noting k (M t) l o r c x) × ((j : ℕ) → ReadsCell o j → IsReadReply whole cells s.managed.managed k (M t) j r) → One s z (noting k (M t) l o r c x)
  read s z k t l o r c x e near w = record {
    note = noting k (M t) l o r c x;
    same = refl;
    comes = subst (λ b. PlainEntry bound b (with_stand s z) (noting k (M t) l o r c x)) (sym e) (record {
      may = record { event = w.0.event; line = w.0.line; short = w.0.short; order = w.0.order; bare = w.0.bare };
      answers = λ j q. answered s.managed.managed k (M t) j r (w.1 j q);
    });
    stand = z;
    near = subst (λ b. Near (if b then reader_after s (noting k (M t) l o r c x) else linkage_after s (noting k (M t) l o r c x)).control.stand z) (sym e) near;
    after = ap (λ b. if b then reader_after (with_stand s z) (noting k (M t) l o r c x) else linkage_after (with_stand s z) (noting k (M t) l o r c x)) e
        ∙ sym (ap (λ b. with_stand (if b then reader_after s (noting k (M t) l o r c x) else linkage_after s (noting k (M t) l o r c x)) z) e);
  }

  other : (s : Linkage) (z : Stand) (n : Noted) → is_read n.entry.made.op ≡ false → Near s.control.stand z → MayCome s n → One s z n
  other s z n e near may =
      let m = n.entry.made in
      let p = plainly s z n.entry.number m.caller m.index m.op m.reply m.cites n.told near may in
      let f : is_read p.note.entry.made.op ≡ false = ap (λ (y : Entry). is_read y.made.op) p.same ∙ e in
      record {
        note = p.note;
        same = p.same;
        comes = subst (λ b. PlainEntry bound b (with_stand s z) p.note) (sym f) p.comes;
        stand = p.stand;
        near = subst (λ b. Near (if b then reader_after s n else linkage_after s n).control.stand p.stand) (sym e) p.near;
        after = ap (λ b. if b then reader_after (with_stand s z) p.note else linkage_after (with_stand s z) p.note) f
            ∙ (p.after ∙ sym (ap (λ b. with_stand (if b then reader_after s n else linkage_after s n) p.stand) e));
      }

  one : (s : Linkage) (z : Stand) (k : ℕ) (t : Thread) (l : ℕ) (o : Op) (r : Reply) (c : Option ℕ) (x : Told)
      → Near s.control.stand z → EntryMayCome (is_read o) whole cells s (noting k t l o r c x) → One s z (noting k t l o r c x)
  one s z k (M t) l (op.Line (act.Read y)) r c x near w = read s z k t l (op.Line (act.Read y)) r c x refl near w
  one s z k (M t) l (op.Line (act.Await y)) r c x near w = read s z k t l (op.Line (act.Await y)) r c x refl near w
  one s z k (P t) l (op.Line (act.Read y)) r c x near w = absurd w.0.event.0.1
  one s z k (P t) l (op.Line (act.Await y)) r c x near w = absurd w.0.event.0.1
  one s z k C l (op.Line (act.Read y)) r c x near w = absurd w.0.event.0
  one s z k C l (op.Line (act.Await y)) r c x near w = absurd w.0.event.0
  one s z k t l o r c x near w = other s z (noting k t l o r c x) refl near w

  telling : (s : Linkage) (z : Stand) (ns : List Noted) → Near s.control.stand z → AllMayComeReading whole cells s ns → ToldPlainly bound (with_stand s z) s ns
  telling s z [] e a = record { notes = []; same = refl; plain = tt; managed = refl; peer = refl }
  telling s z (n ∷ ns) e a =
      let m = n.entry.made in
      let p = one s z n.entry.number m.caller m.index m.op m.reply m.cites n.told e a.0 in
      let k = subst (λ (t : Linkage). ToldPlainly bound t (entry_after s n) ns) (sym p.after) (telling (entry_after s n) p.stand ns p.near a.1) in
      record { notes = p.note ∷ k.notes; same = (λ i. p.same i ∷ k.same i); plain = (p.comes, k.plain); managed = k.managed; peer = k.peer }

  pub told_plainly : (s : Linkage) (ns : List Noted) → AllMayComeReading whole cells s ns → ToldPlainly bound s s ns
  told_plainly s ns a = telling s s.control.stand ns (inl refl) a
