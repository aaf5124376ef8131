-- Every list of notes whose entries may come has one with the same entries that is told plainly, and leads to the same
-- sides: where the weakened phase wasn't seen, the mirrored one is told in its place, and the stands differ in that
-- alone.
use Rattle.std.proofs.Common.{◌≡◌, ◌⊎◌, inl, inr, ⊎_elim, ℕ, Bool, true, false, List, [], ◌∷◌, length, Option, refl, sym, ◌∙◌, ap, subst, true≢false}
use Rattle.joint_machine.specs.declared.names.Thread.{Thread}
use Rattle.joint_machine.specs.declared.names.Thread.TheVariants.{M, P, C}
use Rattle.joint_machine.specs.declared.names.Phase.{Phase}
use Rattle.joint_machine.specs.declared.names.Phase.TheVariants as at
use Rattle.joint_machine.specs.declared.names.PhaseWord.{PhaseWord}
use Rattle.joint_machine.specs.declared.events.Op.{Op}
use Rattle.joint_machine.specs.declared.events.Op.TheVariants as op
use Rattle.joint_machine.specs.declared.events.Reply.{Reply}
use Rattle.joint_machine.specs.declared.events.Made.{Made}
use Rattle.joint_machine.specs.Control.{Stand, OpenSnap, idle, snapped, contracted, weakening, marked, restoring, restored, stand_after, seen_weakened, DriverAllows, IsPhaseOf}
use Rattle.joint_machine.specs.Linked.{Linkage, MayCome, linkage_after}
use Rattle.joint_machine.specs.Replaying.{AllMayCome, replayed}
use Rattle.joint_machine.specs.Managed.{Managed, candidates_of}
use Rattle.joint_machine.specs.ManagedReplay.{ManagedReplay, MayRefuse, refusal_to}
use Rattle.joint_machine.specs.Peers.{Issued}
use Rattle.joint_machine.specs.Told.{Told, Noted, phase_of}
use Rattle.known_laws.specs.PastEntries.{TellsPlainly, entries}
use Rattle.known_laws.proofs.Telling.{retold, plainly_by, IsTelling}

-- what an entry is made of, and an entry with what is told beside it
abbrev pub making : Thread → ℕ → Op → Reply → Option ℕ → Made
making t l o r c = record { caller = t; index = l; op = o; reply = r; cites = c }

abbrev pub noting : ℕ → Thread → ℕ → Op → Reply → Option ℕ → Told → Noted
noting n t l o r c x = record { entry = record { number = n; made = making t l o r c }; told = x }

-- the entry may come, and is told plainly
abbrev pub PlainComes : Linkage → Noted → Type 0
PlainComes s n = MayCome s n × TellsPlainly s.control.stand n.entry.made.op n.told

abbrev pub AllPlain : Linkage → List Noted → Type 0
AllPlain s [] = Unit {0}
AllPlain s (n ∷ ns) = PlainComes s n × AllPlain (linkage_after s n) ns

-- the stands are the same, but that it may be seen in the one alone that the driver has come to the weakened phase
abbrev pub Near : Stand → Stand → Type 0
Near x y = (x ≡ y) ⊎ ((o : OpenSnap) × (x ≡ weakening o 0 true false) × (y ≡ weakening o 0 false false))

abbrev pub with_stand : Linkage → Stand → Linkage
with_stand s y = record s { control = record s.control { stand = y } }

-- a driver's event but a refusal asks for the same at both
drive : (q : OpenSnap) (m : Managed) (i : List Issued) (o : Op) (r : Reply) (c : Option ℕ) (x : Told) → IsTelling o
    → DriverAllows (weakening q 0 true false) m i o r c x → DriverAllows (weakening q 0 false false) m i o r c x
drive q m i (op.Refused w) r c x t a = absurd t
drive q m i o r c x t a = a

drive-near : (y z : Stand) (m : Managed) (i : List Issued) (o : Op) (r : Reply) (c : Option ℕ) (x : Told) → Near y z → IsTelling o → DriverAllows y m i o r c x → DriverAllows z m i o r c x
drive-near y z m i o r c x (inl e) t a = subst (λ w. DriverAllows w m i o r c x) e a
drive-near y z m i o r c x (inr e) t a = subst (λ w. DriverAllows w m i o r c x) (sym e.2) (drive e.0 m i o r c x t (subst (λ w. DriverAllows w m i o r c x) e.1 a))

-- and leads to stands that are near again
go : (q : OpenSnap) (n : ℕ) (o : Op) (r : Reply) (x : Told) → IsTelling o → Near (stand_after (weakening q 0 true false) n o r x) (stand_after (weakening q 0 false false) n o r x)
go q n (op.Refused w) r x t = absurd t
go q n (op.Snap k) r x t = inl refl
go q n (op.Weaken h) r x t = inl refl
go q n op.Sweep r x t = inl refl
go q n op.Begin r x t = inl refl
go q n (op.Resolve k) r x t = inl refl
go q n (op.Abandon k) r x t = inl refl
go q n o r x t = inr (q, refl, refl)

go-near : (y z : Stand) (n : ℕ) (o : Op) (r : Reply) (x : Told) → Near y z → IsTelling o → Near (stand_after y n o r x) (stand_after z n o r x)
go-near y z n o r x (inl e) t = inl (ap (λ w. stand_after w n o r x) e)
go-near y z n o r x (inr e) t = subst (λ w. Near (stand_after w n o r x) (stand_after z n o r x)) (sym e.1)
    (subst (λ w. Near (stand_after (weakening e.0 0 true false) n o r x) (stand_after w n o r x)) (sym e.2) (go e.0 n o r x t))

-- what a refusal is told instead
record Refuses (s : ManagedReplay) (y z : Stand) (c n : ℕ) (w : PhaseWord) (r : Reply) (p : Phase) : Type 0 where
  pub phase : Phase
  pub is : IsPhaseOf z c phase
  pub may : MayRefuse s w phase
  pub reply : refusal_to s.managed p w ≡ refusal_to s.managed phase w
  pub plain : TellsPlainly z (op.Refused w) (phase_of phase)
  pub near : Near (stand_after y n (op.Refused w) r (phase_of p)) (stand_after z n (op.Refused w) r (phase_of phase))

seen-near : (o : OpenSnap) (p : Phase) → Near (weakening o 0 (seen_weakened false (phase_of p)) false) (weakening o 0 false false)
seen-near o at.Weakened = inr (o, refl, refl)
seen-near o p = inl refl

plain-mirrored : (z : Stand) (w : PhaseWord) → TellsPlainly z (op.Refused w) (phase_of at.Mirrored)
plain-mirrored z w = plainly_by z w at.Mirrored (λ e. absurd (cc))

-- where the mirrored phase is told in place of p
mirrored-near : (y : Stand) (c n : ℕ) (w : PhaseWord) (r : Reply) (p : Phase) → IsPhaseOf y c at.Mirrored
    → Near (stand_after y n (op.Refused w) r (phase_of p)) (stand_after y n (op.Refused w) r (phase_of at.Mirrored))
mirrored-near (weakening o count weakened swept) c n w r p h = ⊎_elim
    (λ u. subst (λ (z : ℕ). Near (weakening o z (seen_weakened weakened (phase_of p)) swept) (weakening o z weakened swept)) (sym u.1)
    (subst (λ (z : Bool). Near (weakening o 0 (seen_weakened z (phase_of p)) swept) (weakening o 0 z swept)) (sym u.2)
    (subst (λ (z : Bool). Near (weakening o 0 (seen_weakened false (phase_of p)) z) (weakening o 0 false z)) (sym h.0) (seen-near o p))))
    (λ u. absurd (let e : at.Mirrored ≡ at.Weakened = u.0 in cc))
    h.1
mirrored-near idle c n w r p h = absurd (cc)
mirrored-near (snapped o) c n w r p h = absurd (cc)
mirrored-near (contracted o comps heavy xrefs) c n w r p h = absurd (cc)
mirrored-near (marked o) c n w r p h = absurd (cc)
mirrored-near (restoring o answers) c n w r p h = absurd (let e = h.1 in cc)
mirrored-near (restored o answers clear) c n w r p h = absurd (cc)

refuse-same : (s : ManagedReplay) (y : Stand) (c n : ℕ) (w : PhaseWord) (r : Reply) (p : Phase) → IsPhaseOf y c p → MayRefuse s w p → Refuses s y y c n w r p
refuse-same s y c n w r p a m = ⊎_elim
    (λ plain. record { phase = p; is = a; may = m; reply = refl; plain = plain; near = inl refl })
    (λ z. record { phase = at.Mirrored; is = z.0; may = z.1; reply = z.2; plain = plain-mirrored y w; near = mirrored-near y c n w r p z.0 })
    (retold s y c w p a m)

seen-true : (p : Phase) → seen_weakened true (phase_of p) ≡ true
seen-true at.Weakened = refl
seen-true p = refl

-- the phase that is told is the weakened one
weak-phase : (o : OpenSnap) (c : ℕ) (p : Phase) → IsPhaseOf (weakening o 0 true false) c p → IsPhaseOf (weakening o 0 false false) c p
weak-phase o c p a = (a.0, ⊎_elim (λ u. absurd (true≢false u.2)) (λ u. inr u) a.1)

refuse-seen : (s : ManagedReplay) (o : OpenSnap) (c n : ℕ) (w : PhaseWord) (r : Reply) (p : Phase)
    → IsPhaseOf (weakening o 0 true false) c p → MayRefuse s w p → Refuses s (weakening o 0 true false) (weakening o 0 false false) c n w r p
refuse-seen s o c n w r p a m =
    let k = refuse-same s (weakening o 0 false false) c n w r p (weak-phase o c p a) m in
    record {
      phase = k.phase;
      is = k.is;
      may = k.may;
      reply = k.reply;
      plain = k.plain;
      near = subst (λ (z : Bool). Near (weakening o 0 z false) (weakening o 0 (seen_weakened false (phase_of k.phase)) false)) (sym (seen-true p)) (back o k.phase);
    }
  where
    back : (o : OpenSnap) (q : Phase) → Near (weakening o 0 true false) (weakening o 0 (seen_weakened false (phase_of q)) false)
    back o at.Weakened = inl refl
    back o q = inr (o, refl, refl)

refuse-near : (s : ManagedReplay) (y z : Stand) (c n : ℕ) (w : PhaseWord) (r : Reply) (p : Phase) → Near y z → IsPhaseOf y c p → MayRefuse s w p → Refuses s y z c n w r p
refuse-near s y z c n w r p (inl e) a m = subst (λ x. Refuses s y x c n w r p) e (refuse-same s y c n w r p a m)
refuse-near s y z c n w r p (inr e) a m = subst (λ x. Refuses s x z c n w r p) (sym e.1)
    (subst (λ x. Refuses s (weakening e.0 0 true false) x c n w r p) (sym e.2) (refuse-seen s e.0 c n w r p (subst (λ x. IsPhaseOf x c p) e.1 a) m))

-- an entry with something told plainly beside it, at a near stand
pub record Plainly (s : Linkage) (z : Stand) (n : Noted) : Type 0 where
  pub note : Noted
  pub same : note.entry ≡ n.entry
  pub comes : PlainComes (with_stand s z) note
  pub stand : Stand
  pub near : Near (linkage_after s n).control.stand stand
  pub after : linkage_after (with_stand s z) note ≡ with_stand (linkage_after s n) stand

pub plainly : (s : Linkage) (z : Stand) (k : ℕ) (t : Thread) (l : ℕ) (o : Op) (r : Reply) (c : Option ℕ) (x : Told)
    → Near s.control.stand z → MayCome s (noting k t l o r c x) → Plainly s z (noting k t l o r c x)
plainly s z k (M t) l (op.Refused w) r c x e a = absurd a.event
plainly s z k (P t) l (op.Refused w) r c x e a = absurd a.event
plainly s z k C l (op.Refused w) r c (phase_of p) e a =
    let f = refuse-near s.managed s.control.stand z (length (candidates_of s.managed.managed)) k w r p e a.order.0 a.lawful.allowed in
    record {
      note = noting k C l (op.Refused w) r c (phase_of f.phase);
      same = refl;
      comes = (record { event = a.event; line = a.line; short = a.short; lawful = record { allowed = f.may; replies = a.lawful.replies ∙ f.reply }; order = (f.is, a.order.1) }, f.plain);
      stand = stand_after z k (op.Refused w) r (phase_of f.phase);
      near = f.near;
      after = refl;
    }
plainly s z k C l (op.Refused w) r c x e a = absurd a.lawful.allowed
plainly s z k C l o r c x e a = record {
  note = noting k C l o r c x;
  same = refl;
  comes = (record { event = a.event; line = a.line; short = a.short; lawful = a.lawful; order = drive-near s.control.stand z s.managed.managed s.peer.peers.issued o r c x e tt a.order }, tt);
  stand = stand_after z k o r x;
  near = go-near s.control.stand z k o r x e tt;
  after = refl;
}
plainly s z k (M t) l o r c x e a = record {
  note = noting k (M t) l o r c x;
  same = refl;
  comes = (record { event = a.event; line = a.line; short = a.short; lawful = a.lawful; order = a.order }, tt);
  stand = z;
  near = e;
  after = refl;
}
plainly s z k (P t) l o r c x e a = record {
  note = noting k (P t) l o r c x;
  same = refl;
  comes = (record { event = a.event; line = a.line; short = a.short; lawful = a.lawful; order = a.order }, tt);
  stand = z;
  near = e;
  after = refl;
}

-- a list of notes that is told plainly
pub record Retold (t : Linkage) (s : Linkage) (ns : List Noted) : Type 0 where
  pub notes : List Noted
  pub same : entries notes ≡ entries ns
  pub plain : AllPlain t notes
  pub managed : (replayed t notes).managed ≡ (replayed s ns).managed
  pub peer : (replayed t notes).peer ≡ (replayed s ns).peer

retelling : (s : Linkage) (z : Stand) (ns : List Noted) → Near s.control.stand z → AllMayCome s ns → Retold (with_stand s z) s ns
retelling s z [] e a = record { notes = []; same = refl; plain = tt; managed = refl; peer = refl }
retelling s z (n ∷ ns) e a =
    let m = n.entry.made in
    let p = plainly s z n.entry.number m.caller m.index m.op m.reply m.cites n.told e a.0 in
    let k = subst (λ (t : Linkage). Retold t (linkage_after s n) ns) (sym p.after) (retelling (linkage_after s n) p.stand ns p.near a.1) in
    record { notes = p.note ∷ k.notes; same = (λ i. p.same i ∷ k.same i); plain = (p.comes, k.plain); managed = k.managed; peer = k.peer }

pub plain_list : (s : Linkage) (ns : List Noted) → AllMayCome s ns → Retold s s ns
plain_list s ns a = retelling s s.control.stand ns (inl refl) a
