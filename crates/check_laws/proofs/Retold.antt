-- The notes of a linked history may be told plainly: where the weakened phase wasn't seen, a refusal tells the mirrored
-- one in its place. What is freed is told as before, so each read answers as it may over these notes too.
use Rattle.std.proofs.Common.{◌≡◌, ◌⊎◌, inl, inr, ℕ, zero, suc, Bool, true, false, List, [], ◌∷◌, take, Option, refl, sym, ap, ◌∙◌, subst, true≢false}
use Rattle.std.proofs.lemmas.Option.{same_Some}
use Rattle.joint_machine.specs.declared.names.Thread.{Thread}
use Rattle.joint_machine.specs.declared.names.Thread.TheVariants.{M, P, C}
use Rattle.joint_machine.specs.declared.names.PhaseWord.{PhaseWord}
use Rattle.joint_machine.specs.declared.lines.Act.TheVariants as act
use Rattle.joint_machine.specs.declared.events.Op.{Op}
use Rattle.joint_machine.specs.declared.events.Op.TheVariants as op
use Rattle.joint_machine.specs.declared.events.Reply.{Reply}
use Rattle.joint_machine.specs.declared.events.Reply.TheVariants as says
use Rattle.joint_machine.specs.Control.{Stand, OpenSnap, weakening, stand_after, DriverAllows, IsAtRest}
use Rattle.joint_machine.specs.Histories.{Finished, managed_numbers}
use Rattle.joint_machine.specs.Lines.{is_peer_event, is_read}
use Rattle.joint_machine.specs.Linked.{Linkage, MayCome, SideLawful, IsWhole, opening_linkage, linkage_after}
use Rattle.joint_machine.specs.LinkedHistories.{IsLinkedBy, managed_end, linked_end}
use Rattle.joint_machine.specs.Managed.{Managed}
use Rattle.joint_machine.specs.ManagedReplay.{ManagedReplay, ManagedAllows}
use Rattle.joint_machine.specs.PeerReplay.{PeerReplay}
use Rattle.joint_machine.specs.Peers.{Issued}
use Rattle.joint_machine.specs.Places.{At}
use Rattle.joint_machine.specs.Readers.{ReadsCell, IsReadReply, HasEventAt, IsManagedAt, EndsCycleAt, SetsCell, SetsCellAt, IsCallersAt, HasKnownFrom, FreesObject, FreesObjectAt}
use Rattle.joint_machine.specs.Readers.{is_managed_entry, ReaderMayCome, EntryMayCome, entry_after, reader_after, replayed_reading, AllMayComeReading}
use Rattle.joint_machine.specs.Told.{Told, Noted, phase_of}
use Rattle.joint_machine.proofs.Deciding.{none_some}
use Rattle.known_laws.specs.PastEntries.{TellsPlainly, entries}
use Rattle.known_laws.proofs.Retelling.{Near, PlainComes, plainly, with_stand, noting}
use Rattle.known_laws.proofs.Telling.{IsTelling}
use Rattle.check_laws.specs.Known.{IsEntryAt}
use Rattle.check_laws.proofs.Keeping.{after-read, after-other}

-- one entry told in two ways, which frees the same
pub record Alike (n m : Noted) : Type 0 where
  pub same : m.entry ≡ n.entry
  pub forth : (x : ℕ) → FreesObject n.told x → FreesObject m.told x
  pub back : (x : ℕ) → FreesObject m.told x → FreesObject n.told x

alike-self : (n : Noted) → Alike n n
alike-self n = record { same = refl; forth = λ x f. f; back = λ x f. f }

alike-back : (n m : Noted) → Alike n m → Alike m n
alike-back n m a = record { same = sym a.same; forth = a.back; back = a.forth }

abbrev AllAlike : List Noted → List Noted → Type 0
AllAlike [] [] = Unit {0}
AllAlike [] (m ∷ ms) = ⊥
AllAlike (n ∷ ns) [] = ⊥
AllAlike (n ∷ ns) (m ∷ ms) = Alike n m × AllAlike ns ms

all-back : (ns ms : List Noted) → AllAlike ns ms → AllAlike ms ns
all-back [] [] a = tt
all-back [] (m ∷ ms) a = a
all-back (n ∷ ns) [] a = a
all-back (n ∷ ns) (m ∷ ms) a = (alike-back n m a.0, all-back ns ms a.1)

-- the other way to tell the entry in a place
record There (ms : List Noted) (i : ℕ) (n : Noted) : Type 0 where
  note : Noted
  there : IsEntryAt ms i note
  alike : Alike n note

place : (ns ms : List Noted) → AllAlike ns ms → (i : ℕ) (n : Noted) → IsEntryAt ns i n → There ms i n
place [] ms a i n e = absurd (none_some n e)
place (x ∷ ns) [] a i n e = absurd a
place (x ∷ ns) (y ∷ ms) a zero n e = record { note = y; there = refl; alike = subst (λ z. Alike z y) (same_Some x n e) a.0 }
place (x ∷ ns) (y ∷ ms) a (suc i) n e = (let r = place ns ms a.1 i n e in record { note = r.note; there = r.there; alike = r.alike })

-- what is so of a place by its entry
module _ (ns ms : List Noted) (a : AllAlike ns ms) where
  at-so : {Is : Noted → Type 0} → ((n m : Noted) → Alike n m → Is n → Is m) → (i : ℕ) → At ns i Is → At ms i Is
  at-so f i m = (let r = place ns ms a i m.element m.there in record { element = r.note; there = r.there; is = f m.element r.note r.alike m.is })

  managed-so : (i : ℕ) → IsManagedAt ns i → IsManagedAt ms i
  managed-so = at-so (λ n m q w. ap (λ e. is_managed_entry (record { entry = e; told = m.told })) q.same ∙ w)

  event-so : (i : ℕ) (o : Op) → HasEventAt ns i o → HasEventAt ms i o
  event-so i o = at-so (λ n m q w. ap (λ e. e.made.op) q.same ∙ w) i

  ends-so : (i k : ℕ) → EndsCycleAt ns i k → EndsCycleAt ms i k
  ends-so i k = at-so (λ n m q w. subst (λ o. (o ≡ op.Resolve record { 0 = k }) ⊎ (o ≡ op.Abandon record { 0 = k })) (sym (ap (λ e. e.made.op) q.same)) w) i

  sets-so : (i k : ℕ) → SetsCellAt ns i k → SetsCellAt ms i k
  sets-so i k = at-so (λ n m q w. (subst (λ o. SetsCell o k) (sym (ap (λ e. e.made.op) q.same)) w.0, ap (λ e. e.made.reply) q.same ∙ w.1)) i

  own-so : (i : ℕ) (t : Thread) → IsCallersAt ns i t → IsCallersAt ms i t
  own-so i t = at-so (λ n m q w. ap (λ e. e.made.caller) q.same ∙ w) i

  frees-so : (i x : ℕ) → FreesObjectAt ns i x → FreesObjectAt ms i x
  frees-so i x = at-so (λ n m q w. q.forth x w) i

  known-so : (t : Thread) (i j : ℕ) → HasKnownFrom ns t i j → HasKnownFrom ms t i j
  known-so t i j (x, u, v, c) = (x, u, v, own-so x t c)

module _ (ns ms : List Noted) (a : AllAlike ns ms) (cells : List (Option ℕ)) (s : Managed) (i : ℕ) (t : Thread) (k : ℕ) where
  b : AllAlike ms ns
  b = all-back ns ms a

  reply-so : (r : Reply) → IsReadReply ns cells s i t k r → IsReadReply ms cells s i t k r
  reply-so (says.Pending c) (pin, m) = (
    pin,
    record {
      snap = m.snap;
      snaps = event-so ns ms a m.snap (op.Snap c) m.snaps;
      early = λ j l g. m.early j l (managed-so ms ns b j g);
      unknown = λ end j e l g f. m.unknown end j (ends-so ms ns b end c.0 e) l (managed-so ms ns b j g) (known-so ms ns b t i j f);
    },
  )
  reply-so says.Unset (pin, u) = (
    pin,
    record {
      unknown = λ set j e l g f. u.unknown set j (sets-so ms ns b set k e) l (managed-so ms ns b j g) (known-so ms ns b t i j f);
      not_own = λ set e l o. u.not_own set (sets-so ms ns b set k e) l (own-so ms ns b set t o);
      target_unfreed = λ m j e f l. u.target_unfreed m j e (frees-so ms ns b j m f) l;
    },
  )
  reply-so r w = w

over-so : (ns ms : List Noted) → AllAlike ns ms → (cells : List (Option ℕ)) (s : Linkage) (xs : List Noted) → AllMayComeReading ns cells s xs → AllMayComeReading ms cells s xs
over-so ns ms a cells s [] w = tt
over-so ns ms a cells s (x ∷ xs) w = (by (is_read x.entry.made.op) w.0, over-so ns ms a cells (entry_after s x) xs w.1)
  where
    by : (b : Bool) → EntryMayCome b ns cells s x → EntryMayCome b ms cells s x
    by true w = (w.0, λ k c. reply-so ns ms a cells s.managed.managed x.entry.number x.entry.made.caller k x.entry.made.reply (w.1 k c))
    by false w = w

-- an event that is no refusal asks for the same at both stands, and leads to stands that are near again
drive : (q : OpenSnap) (m : Managed) (i : List Issued) (o : Op) (r : Reply) (c : Option ℕ) (x : Told) → IsTelling o
    → DriverAllows (weakening q 0 true false) m i o r c x → DriverAllows (weakening q 0 false false) m i o r c x
drive q m i (op.Refused w) r c x t a = absurd t
drive q m i o r c x t a = a

drive-near : (y z : Stand) (m : Managed) (i : List Issued) (o : Op) (r : Reply) (c : Option ℕ) (x : Told) → Near y z → IsTelling o → DriverAllows y m i o r c x → DriverAllows z m i o r c x
drive-near y z m i o r c x (inl e) t a = subst (λ w. DriverAllows w m i o r c x) e a
drive-near y z m i o r c x (inr e) t a = subst (λ w. DriverAllows w m i o r c x) (sym e.2) (drive e.0 m i o r c x t (subst (λ w. DriverAllows w m i o r c x) e.1 a))

go : (q : OpenSnap) (n : ℕ) (o : Op) (r : Reply) (x : Told) → IsTelling o → Near (stand_after (weakening q 0 true false) n o r x) (stand_after (weakening q 0 false false) n o r x)
go q n (op.Refused w) r x t = absurd t
go q n (op.Snap k) r x t = inl refl
go q n (op.Weaken h) r x t = inl refl
go q n op.Sweep r x t = inl refl
go q n op.Begin r x t = inl refl
go q n (op.Resolve k) r x t = inl refl
go q n (op.Abandon k) r x t = inl refl
go q n o r x t = inr (q, refl, refl)

go-near : (y z : Stand) (n : ℕ) (o : Op) (r : Reply) (x : Told) → Near y z → IsTelling o → Near (stand_after y n o r x) (stand_after z n o r x)
go-near y z n o r x (inl e) t = inl (ap (λ w. stand_after w n o r x) e)
go-near y z n o r x (inr e) t = subst (λ w. Near (stand_after w n o r x) (stand_after z n o r x)) (sym e.1)
    (subst (λ w. Near (stand_after (weakening e.0 0 true false) n o r x) (stand_after w n o r x)) (sym e.2) (go e.0 n o r x t))

-- an entry told plainly, at a near stand
record Again (s : Linkage) (z : Stand) (n : Noted) : Type 0 where
  note : Noted
  alike : Alike n note
  comes : PlainComes (with_stand s z) note
  stand : Stand
  near : Near (linkage_after s n).control.stand stand
  after : linkage_after (with_stand s z) note ≡ with_stand (linkage_after s n) stand

-- a refusal frees nothing
refusal-frees : (s : ManagedReplay) (w : PhaseWord) (told : Told) (x : ℕ) → ManagedAllows s (op.Refused w) told → FreesObject told x → ⊥
refusal-frees s w (phase_of p) x a f = f
refusal-frees s w _ x a f = a

refused-frees : (s : Linkage) (n : Noted) (w : PhaseWord) (x : ℕ) → n.entry.made.op ≡ op.Refused w → MayCome s n → FreesObject n.told x → ⊥
refused-frees s n w x e a f = by (subst (λ o. SideLawful (is_peer_event n.entry.made.caller o) s (record n.entry.made { op = o }) n.told) e a.lawful)
  where
    by : SideLawful false s (record n.entry.made { op = op.Refused w }) n.told → ⊥
    by l = refusal-frees s.managed w n.told x l.allowed f

again : (s : Linkage) (z : Stand) (k : ℕ) (t : Thread) (l : ℕ) (o : Op) (r : Reply) (c : Option ℕ) (x : Told)
    → Near s.control.stand z → MayCome s (noting k t l o r c x) → Again s z (noting k t l o r c x)
again s z k t l (op.Refused w) r c x e a =
    let p = plainly s z k t l (op.Refused w) r c x e a in
    record {
      note = p.note;
      alike = record {
        same = p.same;
        forth = λ y f. absurd (refused-frees s (noting k t l (op.Refused w) r c x) w y refl a f);
        back = λ y f. absurd (refused-frees (with_stand s z) p.note w y (ap (λ e. e.made.op) p.same) p.comes.0 f);
      };
      comes = p.comes;
      stand = p.stand;
      near = p.near;
      after = p.after;
    }
again s z k C l o r c x e a = record {
  note = noting k C l o r c x;
  alike = alike-self (noting k C l o r c x);
  comes = (record { event = a.event; line = a.line; short = a.short; lawful = a.lawful; order = drive-near s.control.stand z s.managed.managed s.peer.peers.issued o r c x e tt a.order }, tt);
  stand = stand_after z k o r x;
  near = go-near s.control.stand z k o r x e tt;
  after = refl;
}
again s z k (M t) l o r c x e a = record {
  note = noting k (M t) l o r c x;
  alike = alike-self (noting k (M t) l o r c x);
  comes = (record { event = a.event; line = a.line; short = a.short; lawful = a.lawful; order = a.order }, tt);
  stand = z;
  near = e;
  after = refl;
}
again s z k (P t) l o r c x e a = record {
  note = noting k (P t) l o r c x;
  alike = alike-self (noting k (P t) l o r c x);
  comes = (record { event = a.event; line = a.line; short = a.short; lawful = a.lawful; order = a.order }, tt);
  stand = z;
  near = e;
  after = refl;
}

-- a reader's entry, at a near stand
record AgainRead (s : Linkage) (z : Stand) (n : Noted) : Type 0 where
  comes : ReaderMayCome (with_stand s z) n
  near : Near (reader_after s n).control.stand z
  after : reader_after (with_stand s z) n ≡ with_stand (reader_after s n) z

read-again : (s : Linkage) (z : Stand) (k : ℕ) (t : Thread) (l : ℕ) (o : Op) (r : Reply) (c : Option ℕ) (x : Told)
    → Near s.control.stand z → is_read o ≡ true → ReaderMayCome s (noting k t l o r c x) → AgainRead s z (noting k t l o r c x)
read-again s z k (M t) l o r c x e q a = record { comes = record { event = a.event; line = a.line; short = a.short; order = a.order; bare = a.bare }; near = e; after = refl }
read-again s z k (P t) l o r c x e q a = record { comes = record { event = a.event; line = a.line; short = a.short; order = a.order; bare = a.bare }; near = e; after = refl }
read-again s z k C l (op.Line (act.Read y)) r c x e q a = absurd a.event.0
read-again s z k C l (op.Line (act.Await y)) r c x e q a = absurd a.event.0
read-again s z k C l o r c x e q a = absurd (let f : false ≡ true = q in cc)

-- each entry that is no read is told plainly
abbrev pub AllPlainly : Linkage → List Noted → Type 0
AllPlainly s [] = Unit {0}
AllPlainly s (n ∷ ns) = (is_read n.entry.made.op ≡ false → TellsPlainly s.control.stand n.entry.made.op n.told) × AllPlainly (entry_after s n) ns

record Retold (whole : List Noted) (cells : List (Option ℕ)) (t s : Linkage) (ns : List Noted) : Type 0 where
  notes : List Noted
  alike : AllAlike ns notes
  lawful : AllMayComeReading whole cells t notes
  plain : AllPlainly t notes
  stand : Stand
  near : Near (replayed_reading s ns).control.stand stand
  ends : replayed_reading t notes ≡ with_stand (replayed_reading s ns) stand

module _ (whole : List Noted) (cells : List (Option ℕ)) where
  retold-other : (s : Linkage) (z : Stand) (n : Noted) (ns : List Noted) → is_read n.entry.made.op ≡ false → (w : Again s z n)
      → Retold whole cells (with_stand (linkage_after s n) w.stand) (linkage_after s n) ns → Retold whole cells (with_stand s z) s (n ∷ ns)
  retold-other s z n ns e w r =
      let e' : is_read w.note.entry.made.op ≡ false = ap (λ q. is_read q.made.op) w.alike.same ∙ e in
      let go = after-other (with_stand s z) w.note e' ∙ w.after in
      let went = after-other s n e in
      record {
        notes = w.note ∷ r.notes;
        alike = (w.alike, r.alike);
        lawful = (subst (λ b. EntryMayCome b whole cells (with_stand s z) w.note) (sym e') w.comes.0, subst (λ (q : Linkage). AllMayComeReading whole cells q r.notes) (sym go) r.lawful);
        plain = (λ f. w.comes.1, subst (λ (q : Linkage). AllPlainly q r.notes) (sym go) r.plain);
        stand = r.stand;
        near = subst (λ (q : Linkage). Near (replayed_reading q ns).control.stand r.stand) (sym went) r.near;
        ends = ap (λ (q : Linkage). replayed_reading q r.notes) go ∙ (r.ends ∙ ap (λ (q : Linkage). with_stand (replayed_reading q ns) r.stand) (sym went));
      }

  retold-read : (s : Linkage) (z : Stand) (n : Noted) (ns : List Noted) → is_read n.entry.made.op ≡ true → AgainRead s z n
      → ((k : ℕ) → ReadsCell n.entry.made.op k → IsReadReply whole cells s.managed.managed n.entry.number n.entry.made.caller k n.entry.made.reply)
      → Retold whole cells (with_stand (reader_after s n) z) (reader_after s n) ns → Retold whole cells (with_stand s z) s (n ∷ ns)
  retold-read s z n ns e w reply r =
      let go = after-read (with_stand s z) n e ∙ w.after in
      let went = after-read s n e in
      record {
        notes = n ∷ r.notes;
        alike = (alike-self n, r.alike);
        lawful = (subst (λ b. EntryMayCome b whole cells (with_stand s z) n) (sym e) (w.comes, reply), subst (λ (q : Linkage). AllMayComeReading whole cells q r.notes) (sym go) r.lawful);
        plain = (λ f. absurd (true≢false (sym e ∙ f)), subst (λ (q : Linkage). AllPlainly q r.notes) (sym go) r.plain);
        stand = r.stand;
        near = subst (λ (q : Linkage). Near (replayed_reading q ns).control.stand r.stand) (sym went) r.near;
        ends = ap (λ (q : Linkage). replayed_reading q r.notes) go ∙ (r.ends ∙ ap (λ (q : Linkage). with_stand (replayed_reading q ns) r.stand) (sym went));
      }

  retell : (ns : List Noted) (s : Linkage) (z : Stand) → Near s.control.stand z → AllMayComeReading whole cells s ns → Retold whole cells (with_stand s z) s ns
  retell [] s z e a = record { notes = []; alike = tt; lawful = tt; plain = tt; stand = z; near = e; ends = refl }
  retell (n ∷ ns) s z e a = by (is_read n.entry.made.op) refl a.0 (λ q y v. retell ns (entry_after s n) y (subst (λ (u : Linkage). Near u.control.stand y) (sym q.1) v) a.1)
    where
      by : (b : Bool) → is_read n.entry.made.op ≡ b → EntryMayCome b whole cells s n
          → ((q : (u : Linkage) × (entry_after s n ≡ u)) (y : Stand) → Near q.0.control.stand y → Retold whole cells (with_stand (entry_after s n) y) (entry_after s n) ns)
          → Retold whole cells (with_stand s z) s (n ∷ ns)
      by true f c rest =
          let w = read-again s z n.entry.number n.entry.made.caller n.entry.made.index n.entry.made.op n.entry.made.reply n.entry.made.cites n.told e f c.0 in
          retold-read s z n ns f w c.1 (subst (λ (u : Linkage). Retold whole cells (with_stand u z) u ns) (after-read s n f) (rest (reader_after s n, after-read s n f) z w.near))
      by false f c rest =
          let w = again s z n.entry.number n.entry.made.caller n.entry.made.index n.entry.made.op n.entry.made.reply n.entry.made.cites n.told e c in
          retold-other s z n ns f w (subst (λ (u : Linkage). Retold whole cells (with_stand u w.stand) u ns) (after-other s n f) (rest (linkage_after s n, after-other s n f) w.stand w.near))

same-entries : (ns ms : List Noted) → AllAlike ns ms → entries ms ≡ entries ns
same-entries [] [] a = refl
same-entries [] (m ∷ ms) a = absurd a
same-entries (n ∷ ns) [] a = absurd a
same-entries (n ∷ ns) (m ∷ ms) a = λ i. a.0.same i ∷ same-entries ns ms a.1 i

rest-near : (y z : Stand) (c : ℕ) → Near y z → IsAtRest y c → IsAtRest z c
rest-near y z c (inl e) r = subst (λ w. IsAtRest w c) e r
rest-near y z c (inr e) r = subst (λ w. IsAtRest w c) (sym e.2) (let q : IsAtRest (weakening e.0 0 true false) c = subst (λ w. IsAtRest w c) e.1 r in (q.0, q.1))

-- so a linked history is linked by notes that are told plainly
pub record IsPlainlyLinked (h : Finished) : Type 0 where
  pub notes : List Noted
  pub linked : IsLinkedBy h notes
  pub plain : AllPlainly opening_linkage notes

pub plainly_linked : (h : Finished) (noted : List Noted) → IsLinkedBy h noted → IsPlainlyLinked h
plainly_linked h noted l =
    let r = retell noted (managed_end noted).cells noted opening_linkage opening_linkage.control.stand (inl refl) l.lawful in
    let m : (linked_end r.notes).managed ≡ (linked_end noted).managed = ap (λ (z : Linkage). z.managed) r.ends in
    let p : (linked_end r.notes).peer ≡ (linked_end noted).peer = ap (λ (z : Linkage). z.peer) r.ends in
    record {
      notes = r.notes;
      linked = record {
        same = same-entries noted r.notes r.alike ∙ l.same;
        numbers = l.numbers;
        lawful = subst (λ (z : ManagedReplay). AllMayComeReading r.notes z.managed.cells opening_linkage r.notes)
            (sym m) (over-so noted r.notes r.alike (managed_end noted).cells opening_linkage r.notes r.lawful);
        whole = subst IsWhole (sym r.ends) (record { threads = l.whole.threads; driver = rest-near (linked_end noted).control.stand r.stand _ r.near l.whole.driver });
        freed_managed = l.freed_managed ∙ ap (λ (z : ManagedReplay). z.managed.heap.freed) (sym m);
        freed_peers = l.freed_peers ∙ ap (λ (z : PeerReplay). z.peers.heap.freed) (sym p);
        notices = subst (λ (z : ManagedReplay). take z.managed.taken (managed_numbers h.notices) ≡ take z.managed.taken z.managed.notices) (sym m) l.notices;
      };
      plain = r.plain;
    }
