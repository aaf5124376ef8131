-- An induction over a past: what holds before the first entry, is kept by each entry that may come, and asks for no
-- pins, holds at its end. An entry of a side's list does in a past what it does in the state with the pins that are
-- told with it, but for the pins afterwards. A reader's entry changes its caller's control as a `handle` on its line
-- would, and nothing else. So what each entry that may come keeps is kept by each entry of a past. What both sides keep
-- asks for no numbers either, so it is kept at the end of each known past too.
use Rattle.joint_machine.specs.declared.lines.Act.{Act}
use Rattle.std.proofs.Common.{◌≡◌, ℕ, Bool, true, false, List, [], ◌∷◌, Option, refl, sym, subst, true≢false, arith}
use Rattle.joint_machine.specs.declared.names.Thread.{Thread}
use Rattle.joint_machine.specs.declared.names.Thread.TheVariants.{M, P, C}
use Rattle.joint_machine.specs.declared.lines.Act.TheVariants as act
use Rattle.joint_machine.specs.declared.events.Op.{Op}
use Rattle.joint_machine.specs.declared.events.Op.TheVariants as op
use Rattle.joint_machine.specs.declared.events.Reply.{Reply}
use Rattle.joint_machine.specs.Control.{Doing, given as gave, met, control_after, doing_at, ThreadAllows}
use Rattle.joint_machine.specs.Heaps.{place}
use Rattle.joint_machine.specs.Lines.{is_peer_event, is_read}
use Rattle.joint_machine.specs.Linked.{Linkage, opening_linkage, MayCome, linkage_after, managed_after, peer_after}
use Rattle.joint_machine.specs.Managed.{handle_reply}
use Rattle.joint_machine.specs.ManagedReplay.{ManagedReplay}
use Rattle.joint_machine.specs.Readers.{ReaderMayCome}
use Rattle.joint_machine.specs.Told.{Told, Noted, nothing}
use Rattle.joint_machine.specs.PinsTold.{bare_told, no_pins}
use Rattle.joint_laws.specs.ManagedInvariants.{ManagedInvariant}
use Rattle.joint_laws.proofs.LinkedEntries.{Of, BothInvariants-entry, BothInvariants-opening}
use Rattle.known_laws.specs.Known.{Comes, PinsStand, pinned, given, without_pins, managed_past, past_after}
use Rattle.known_laws.specs.Pasts.{end_of, Lawful}
use Rattle.known_laws.proofs.Pinned.{none_stand, own_stand, kept_pinned}

-- both states after an entry, by whether it is a peer's and a read
abbrev pub by_past : Linkage → Noted → Bool → Bool → Linkage
by_past s n p r = record {
  managed = managed_past s.managed n.entry.made n.told p r;
  peer = peer_after s.peer n.entry.made (bare_told n.told) p;
  control = control_after s.control n.entry.made.caller n.entry.number n.entry.made.index n.entry.made.op n.entry.made.reply (bare_told n.told);
}

abbrev pub by_side : Linkage → Noted → Bool → Linkage
by_side s n p = record {
  managed = managed_after (given s n.told).managed n.entry.made (bare_told n.told) p;
  peer = peer_after s.peer n.entry.made (bare_told n.told) p;
  control = control_after s.control n.entry.made.caller n.entry.number n.entry.made.index n.entry.made.op n.entry.made.reply (bare_told n.told);
}

-- a read leaves the managed side alone
pub reads_leave : (s : ManagedReplay) (n : Noted) → is_read n.entry.made.op ≡ true
    → managed_past s n.entry.made n.told (is_peer_event n.entry.made.caller n.entry.made.op) (is_read n.entry.made.op) ≡ s
reads_leave s n e = subst (λ r. managed_past s n.entry.made n.told (is_peer_event n.entry.made.caller n.entry.made.op) r ≡ s) (sym e) (by (is_peer_event n.entry.made.caller n.entry.made.op))
  where
    by : (p : Bool) → managed_past s n.entry.made n.told p true ≡ s
    by true = refl
    by false = refl

-- after an entry of a side's list: the state that it leads to with the pins that are told, but for the pins, which are
-- those from before, or none
pub record IsSideAfter (s : Linkage) (n : Noted) : Type 0 where
  pub pins : List (Option ℕ)
  pub stand : ManagedInvariant s.managed.managed → PinsStand (linkage_after (given s n.told) (without_pins n)).managed.managed pins
  pub same : past_after s n ≡ pinned (linkage_after (given s n.told) (without_pins n)) pins

pub side_after : (s : Linkage) (n : Noted) → is_read n.entry.made.op ≡ false → IsSideAfter s n
side_after s n e = by (is_peer_event n.entry.made.caller n.entry.made.op) refl
  where
    by : (p : Bool) → is_peer_event n.entry.made.caller n.entry.made.op ≡ p → IsSideAfter s n
    by true q = record {
      pins = s.managed.managed.pins;
      stand = λ k. subst (λ p. PinsStand (by_side s n p).managed.managed s.managed.managed.pins) (sym q) (let o = own_stand s.managed.managed k in record { live = o.live; outside = o.outside });
      same = subst (λ r. by_past s n (is_peer_event n.entry.made.caller n.entry.made.op) r ≡ pinned (by_side s n (is_peer_event n.entry.made.caller n.entry.made.op)) s.managed.managed.pins) (sym e)
          (subst (λ p. by_past s n p false ≡ pinned (by_side s n p) s.managed.managed.pins) (sym q) refl);
    }
    by false q = record {
      pins = no_pins;
      stand = λ k. none_stand _;
      same = subst (λ r. by_past s n (is_peer_event n.entry.made.caller n.entry.made.op) r ≡ pinned (by_side s n (is_peer_event n.entry.made.caller n.entry.made.op)) no_pins) (sym e)
          (subst (λ p. by_past s n p false ≡ pinned (by_side s n p) no_pins) (sym q) refl);
    }

-- a reader's entry does what a `handle` would
pub record DoesAsHandle (s : Linkage) (n : Noted) : Type 0 where
  pub note : Noted
  pub comes : MayCome s note
  pub same : past_after s n ≡ linkage_after s note
  pub line : (a : Act) × (note.entry.made.op ≡ op.Line a)

abbrev noting : ℕ → Thread → ℕ → Op → Reply → Option ℕ → Told → Noted
noting k t l o r c x = record { entry = record { number = k; made = record { caller = t; index = l; op = o; reply = r; cites = c } }; told = x }

-- what a thread is in the midst of allows one line as another
line-on : (d : Doing) (t : Thread) (l : ℕ) (a b : Act) (c : Option ℕ) → ThreadAllows d t l (op.Line a) c → ThreadAllows d t l (op.Line b) c
line-on (gave n line h) t l a b c w = absurd w
line-on (met n line h) t l a b c w = absurd w
line-on d t l a b c w = w

pub reader_after_is : (s : Linkage) (n : Noted) → is_read n.entry.made.op ≡ true → ReaderMayCome s n → DoesAsHandle s n
reader_after_is s n e w = by n.entry.number n.entry.made.caller n.entry.made.index n.entry.made.op n.entry.made.reply n.entry.made.cites n.told e w
  where
    handle : ℕ → ℕ → ℕ → Option ℕ → Noted
    handle k u l c = noting k (M u) l (op.Line (act.Handle record { 0 = 0 })) (handle_reply s.managed.managed (place u 0)) c nothing

    by : (k : ℕ) (t : Thread) (l : ℕ) (o : Op) (r : Reply) (c : Option ℕ) (x : Told) → is_read o ≡ true → ReaderMayCome s (noting k t l o r c x) → DoesAsHandle s (noting k t l o r c x)
    by k (M u) l (op.Line (act.Read y)) r c x e w = record {
      note = handle k u l c;
      comes = record {
        event = ((w.event.0.0, omega arith), tt);
        line = w.line;
        short = w.short;
        lawful = record { allowed = tt; replies = refl };
        order = line-on (doing_at s.control u) (M u) l (act.Read y) (act.Handle record { 0 = 0 }) c w.order;
      };
      same = refl;
      line = (act.Handle record { 0 = 0 }, refl);
    }
    by k (M u) l (op.Line (act.Await y)) r c x e w = record {
      note = handle k u l c;
      comes = record {
        event = ((w.event.0.0, omega arith), tt);
        line = w.line;
        short = w.short;
        lawful = record { allowed = tt; replies = refl };
        order = line-on (doing_at s.control u) (M u) l (act.Await y) (act.Handle record { 0 = 0 }) c w.order;
      };
      same = refl;
      line = (act.Handle record { 0 = 0 }, refl);
    }
    by k (P u) l (op.Line (act.Read y)) r c x e w = absurd w.event.0.1
    by k (P u) l (op.Line (act.Await y)) r c x e w = absurd w.event.0.1
    by k C l (op.Line (act.Read y)) r c x e w = absurd w.event.0
    by k C l (op.Line (act.Await y)) r c x e w = absurd w.event.0
    by k t l o r c x e w = absurd (true≢false (sym e))

pub past_keeps : (s : Linkage) (n : Noted) → Comes (is_read n.entry.made.op) s n → Of s → Of (past_after s n)
past_keeps s n w k = by (is_read n.entry.made.op) refl w
  where
    by : (r : Bool) → is_read n.entry.made.op ≡ r → Comes r s n → Of (past_after s n)
    by true e w = let h = reader_after_is s n e w in subst Of (sym h.same) (BothInvariants-entry s h.note h.comes k)
    by false e w =
        let a = side_after s n e in
        let l = linkage_after (given s n.told) (without_pins n) in
        let m = BothInvariants-entry (given s n.told) (without_pins n) w.comes (kept_pinned s _ w.stand k) in
        subst Of (sym a.same) (kept_pinned l a.pins (a.stand k.managed.managed) m)

pub kept_end : (h : List Noted) → Lawful h → Of (end_of h)
kept_end [] l = BothInvariants-opening
kept_end (x ∷ h) l = past_keeps (end_of h) x l.0.comes (kept_end h l.1)

-- with what both sides keep at hand
pub past-all : (Q : Linkage → Type 0) → Q opening_linkage → ((s : Linkage) (n : Noted) → Of s → MayCome s n → Q s → Q (linkage_after s n))
    → ((s : Linkage) (pins : List (Option ℕ)) → Q s → Q (pinned s pins)) → (h : List Noted) → Lawful h → Q (end_of h)
past-all Q first step pins [] l = first
past-all Q first step pins (n ∷ h) l = by (past-all Q first step pins h l.1) (is_read n.entry.made.op) refl l.0.comes
  where
    k : Of (end_of h)
    k = kept_end h l.1

    by : Q (end_of h) → (r : Bool) → is_read n.entry.made.op ≡ r → Comes r (end_of h) n → Q (end_of (n ∷ h))
    by q true e w = let a = reader_after_is (end_of h) n e w in subst Q (sym a.same) (step (end_of h) a.note k a.comes q)
    by q false e w =
        let a = side_after (end_of h) n e in
        subst Q (sym a.same) (pins _ a.pins (step (given (end_of h) n.told) (without_pins n) (kept_pinned (end_of h) _ w.stand k) w.comes (pins (end_of h) _ q)))
