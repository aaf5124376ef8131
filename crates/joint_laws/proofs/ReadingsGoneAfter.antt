-- The same in a history with lock-free reads: its state in a place is that of a lawful list, its entries before the
-- place without the reads that are set aside. And a reader's entry changes no reference.
use Rattle.std.proofs.Common.{◌≡◌, ℕ, zero, suc, ◌+◌, ◌-◌, ◌<◌, ◌⊎◌, inl, inr, Bool, true, false, not, ◌&&◌, List, [], ◌∷◌, length, take, Option, Some, refl, sym, ap, subst, ◌∙◌, arith}
use Rattle.std.specs.Prelude.{Contains, if◌then◌else◌, slice_get}
use Rattle.std.proofs.lemmas.Option.{same_Some, slice_get_within}
use Rattle.std.proofs.lemmas.List.{take_all}
use Rattle.joint_machine.specs.declared.names.Cycle.{Cycle}
use Rattle.joint_machine.specs.declared.lines.Act.TheVariants as act
use Rattle.joint_machine.specs.declared.events.Op.{Op}
use Rattle.joint_machine.specs.declared.events.Op.TheVariants as op
use Rattle.joint_machine.specs.Linked.{Linkage, MayCome, opening_linkage, linkage_after}
use Rattle.joint_machine.specs.Replaying.{AllMayCome, replayed}
use Rattle.joint_machine.specs.Managed.{OpenCycle}
use Rattle.joint_machine.specs.ManagedReplay.{ManagedReplay}
use Rattle.joint_machine.specs.PeerReplay.{PeerReplay}
use Rattle.joint_machine.specs.Lines.{is_read}
use Rattle.joint_machine.specs.Readers.{is_set_aside, is_aside, ReadsCell, IsReadReply, EntryMayCome, reader_after, entry_after, replayed_reading, AllMayComeReading}
use Rattle.joint_machine.specs.Told.{Noted}
use Rattle.joint_machine.proofs.Deciding.{none_some}
use Rattle.joint_machine.proofs.Members.{Contains-at, at-Contains, Contains-filter_to}
use Rattle.joint_laws.specs.AfterwardsLaws.{LockFreeReadsAreGone, WeakReadsAreGoneReading, NoneIsMirroredReading}
use Rattle.joint_laws.specs.Afterwards.{IsGoneAfter, NoMirrorBetween, ResolveFrees, SweepFrees, reading_at}
use Rattle.joint_laws.specs.PeerInvariants.{PeerInvariant}
use Rattle.joint_laws.specs.ReadingLaws.{IsLawfulReading, without_aside}
use Rattle.joint_laws.specs.States.{state_at}
use Rattle.joint_laws.proofs.Everywhere.{everywhere}
use Rattle.joint_laws.proofs.GoneAfter.{read-gone, IsAfter, after-resolve, weak-read, freed-since, cleared-refs, unmirrored-refs, none-stands}
use Rattle.joint_laws.proofs.LinkedEntries.{Of, BothInvariants-entry, BothInvariants-opening}
use Rattle.joint_laws.proofs.ReadsAside.{standing-reply, reading_is_lawful, reading_leads_to_same}

pub reading-take : (whole : List Noted) (cells : List (Option ℕ)) (ns : List Noted) (s : Linkage) (i : ℕ) → AllMayComeReading whole cells s ns → AllMayComeReading whole cells s (take i ns)
reading-take whole cells [] s zero a = a
reading-take whole cells [] s (suc i) a = a
reading-take whole cells (n ∷ ns) s zero a = tt
reading-take whole cells (n ∷ ns) s (suc i) a = (a.0, reading-take whole cells ns (entry_after s n) i a.1)

pub reading-comes : (whole : List Noted) (cells : List (Option ℕ)) (ns : List Noted) (s : Linkage) (i : ℕ) (n : Noted)
    → AllMayComeReading whole cells s ns → slice_get ns i ≡ Some n → EntryMayCome (is_read n.entry.made.op) whole cells (replayed_reading s (take i ns)) n
reading-comes whole cells [] s i n a e = absurd (none_some n e)
reading-comes whole cells (m ∷ ns) s zero n a e = subst (λ z. EntryMayCome (is_read z.entry.made.op) whole cells s z) (same_Some m n e) a.0
reading-comes whole cells (m ∷ ns) s (suc i) n a e = reading-comes whole cells ns (entry_after s m) i n a.1 e

pub reading-after : (ns : List Noted) (s : Linkage) (i : ℕ) (n : Noted) → slice_get ns i ≡ Some n → replayed_reading s (take (suc i) ns) ≡ entry_after (replayed_reading s (take i ns)) n
reading-after [] s i n e = absurd (none_some n e)
reading-after (m ∷ ns) s zero n e = ap (λ z. entry_after s z) (same_Some m n e)
reading-after (m ∷ ns) s (suc i) n e = reading-after ns (entry_after s m) i n e

-- an entry that stands stands in the lawful list too
take-at : (ns : List Noted) (i j : ℕ) (n : Noted) → i < j → slice_get ns i ≡ Some n → slice_get (take j ns) i ≡ Some n
take-at [] i j n l e = absurd (none_some n e)
take-at (m ∷ ns) i zero n l e = absurd (omega (arith, l))
take-at (m ∷ ns) zero (suc j) n l e = e
take-at (m ∷ ns) (suc i) (suc j) n l e = take-at ns i j n (omega (arith, l)) e

module _ (noted : List Noted) (w : IsLawfulReading noted) (j : ℕ) where
  abbrev standing : List Noted
  standing = without_aside (take j noted)

  lawful : IsLawfulReading (take j noted)
  lawful = (w.0, w.1, reading-take w.0 w.1 noted opening_linkage j w.2)

  may : AllMayCome opening_linkage standing
  may = reading_is_lawful (take j noted) lawful

  abbrev end : Linkage
  end = state_at standing (length standing)

  is_end : end ≡ replayed opening_linkage standing
  is_end = ap (λ ns. replayed opening_linkage ns) (take_all (length standing) standing (omega arith))

  managed : end.managed ≡ (reading_at noted j).managed
  managed = ap (λ (z : Linkage). z.managed) is_end ∙ sym (reading_leads_to_same (take j noted) lawful).managed

  peer : end.peer ≡ (reading_at noted j).peer
  peer = ap (λ (z : Linkage). z.peer) is_end ∙ sym (reading_leads_to_same (take j noted) lawful).peer

  stands : (i : ℕ) (n : Noted) → i < j → slice_get noted i ≡ Some n → is_aside n ≡ false → (x : ℕ) × (slice_get standing x ≡ Some n) × (x < length standing)
  stands i n l e f =
      let c = Contains-filter_to (λ z. not (is_aside z)) (take j noted) n (Contains-at (take j noted) i n (take-at noted i j n l e)) (ap not f) in
      let a = at-Contains standing n c in
      (a.0, a.1, slice_get_within standing a.0 n a.1)

  aside-by : (n : Noted) (o : Op) → n.entry.made.op ≡ o → is_read o ≡ false → is_aside n ≡ false
  aside-by n o e f = ap (λ z. is_read z && is_set_aside n.entry.made.reply) e ∙ ap (λ b. b && is_set_aside n.entry.made.reply) f

  resolve-stands : (i k m : ℕ) → i < j → ResolveFrees noted i k m → IsAfter k m end
  resolve-stands i k m l r =
      let x = stands i r.element l r.there (aside-by r.element (op.Resolve record { 0 = k }) r.is.0 refl) in
      after-resolve standing may x.0 (length standing) k m (record { element = r.element; there = x.1; is = r.is }) x.2

  sweep-stands : (i p : ℕ) → i < j → SweepFrees noted i p → Contains (reading_at noted j).peer.peers.heap.freed p
  sweep-stands i p l r =
      let x = stands i r.element l r.there (aside-by r.element op.Sweep r.is.0 refl) in
      subst (λ (z : PeerReplay). Contains z.peers.heap.freed p) peer
      (freed-since standing may x.0 (length standing) p (record { element = r.element; there = x.1; is = r.is }) x.2)

  kept : PeerInvariant (reading_at noted j).peer
  kept = subst PeerInvariant peer (everywhere Of BothInvariants-opening BothInvariants-entry standing may (length standing)).peer

reads-is : (o : Op) (c : ℕ) → ReadsCell o c → is_read o ≡ true
reads-is (op.Line (act.Read x)) c r = refl
reads-is (op.Line (act.Await x)) c r = refl
reads-is _ c r = absurd r

pub lock_free_reads_are_gone : LockFreeReadsAreGone
lock_free_reads_are_gone noted w i j k m n r l there q = by (is_set_aside n.entry.made.reply) refl
  where
    a : IsAfter k m (state_at (without_aside (take j noted)) (length (without_aside (take j noted))))
    a = resolve-stands noted w j i k m l r

    same : (state_at (without_aside (take j noted)) (length (without_aside (take j noted)))).managed ≡ (reading_at noted j).managed
    same = managed noted w j

    reply : IsReadReply w.0 w.1 (reading_at noted j).managed.managed n.entry.number n.entry.made.caller q.cell n.entry.made.reply
    reply = (subst (λ b. EntryMayCome b w.0 w.1 (reading_at noted j) n) (reads-is n.entry.made.op q.cell q.reads) (reading-comes w.0 w.1 noted opening_linkage j n w.2 there)).1 q.cell q.reads

    by : (b : Bool) → is_set_aside n.entry.made.reply ≡ b → (is_aside n ≡ true) ⊎ IsGoneAfter (reading_at noted j).managed.managed n.entry.made.caller k n.entry.made.reply
    by true e = inl (ap (λ b. b && is_set_aside n.entry.made.reply) (reads-is n.entry.made.op q.cell q.reads) ∙ e)
    by false e = inr (read-gone (reading_at noted j).managed.managed n.entry.made.caller q.cell k m
        (subst (λ (z : ManagedReplay). Contains z.managed.heap.freed m) same a.freed)
        (subst (λ (z : ManagedReplay). (c : OpenCycle) → z.managed.cycle ≡ Some c → k < c.number) same a.later)
        q.target n.entry.made.reply (standing-reply w.0 w.1 (reading_at noted j).managed.managed n.entry.number n.entry.made.caller q.cell n.entry.made.reply e reply))

pub weak_reads_are_gone_reading : WeakReadsAreGoneReading
weak_reads_are_gone_reading noted w i j p n r l there q =
    let may : MayCome (reading_at noted j) n = subst (λ b. EntryMayCome b w.0 w.1 (reading_at noted j) n) (ap is_read q.reads) (reading-comes w.0 w.1 noted opening_linkage j n w.2 there) in
    weak-read (reading_at noted j) n p (kept noted w j) (sweep-stands noted w j i p l r) may q

-- references
pub entry-by : (s : Linkage) (n : Noted) (b : Bool) → is_read n.entry.made.op ≡ b → entry_after s n ≡ (if b then reader_after s n else linkage_after s n)
entry-by s n b e = ap (λ z. if z then reader_after s n else linkage_after s n) e

unmirrored-reading : (s : Linkage) (n : Noted) → s.peer.refs ≡ [] → ((k : Cycle) → n.entry.made.op ≡ op.Mirror k → ⊥) → (entry_after s n).peer.refs ≡ []
unmirrored-reading s n e out = by (is_read n.entry.made.op) refl
  where
    by : (b : Bool) → is_read n.entry.made.op ≡ b → (entry_after s n).peer.refs ≡ []
    by true f = ap (λ (z : Linkage). z.peer.refs) (entry-by s n true f) ∙ e
    by false f = ap (λ (z : Linkage). z.peer.refs) (entry-by s n false f) ∙ unmirrored-refs s n e out

pub none_is_mirrored_reading : NoneIsMirroredReading
none_is_mirrored_reading noted w i j k c l out =
    let same : suc i + (j - suc i) ≡ j = omega (arith, l) in
    ap (λ p. (reading_at noted p).peer.refs) (sym same)
    ∙ none-stands noted (reading_at noted) (λ p n e o f. ap (λ (z : Linkage). z.peer.refs) (reading-after noted opening_linkage p n e) ∙ unmirrored-reading (reading_at noted p) n f o)
    (λ p q. ap (λ ns. (replayed_reading opening_linkage ns).peer.refs) (take_all (suc p) noted (omega (arith, q)) ∙ sym (take_all p noted q)))
    i (j - suc i) (subst (NoMirrorBetween noted i) (sym same) out)
    (ap (λ (z : Linkage). z.peer.refs) (reading-after noted opening_linkage i c.element c.there ∙ entry-by (reading_at noted i) c.element false (ap is_read c.is))
    ∙ cleared-refs (reading_at noted i) c.element (record { 0 = k }) c.is)
