-- What may be told of an entry has no pins, so a note is made of its entry, its pins and what else is told.
use Rattle.joint_machine.specs.declared.events.Made.{Made}
use Rattle.std.proofs.Common.{◌≡◌, ℕ, Bool, true, false, List, Option, Some, None, refl, sym, ◌∙◌, true≢false}
use Rattle.joint_machine.specs.declared.names.Thread.{Thread}
use Rattle.joint_machine.specs.declared.names.Thread.TheVariants.{M, P, C}
use Rattle.joint_machine.specs.declared.lines.Act.TheVariants as act
use Rattle.joint_machine.specs.declared.events.Op.{Op}
use Rattle.joint_machine.specs.declared.events.Op.TheVariants as op
use Rattle.joint_machine.specs.Lines.{is_peer_event, is_read}
use Rattle.joint_machine.specs.Control.{Stand}
use Rattle.joint_machine.specs.Linked.{Linkage, MayCome, SideLawful, PeerLawful}
use Rattle.joint_machine.specs.ManagedReplay.{ManagedReplay, ManagedAllows}
use Rattle.joint_machine.specs.PeerReplay.{PeerReplay, Marking, PeerAllows, SliceAllows, SweepAllows}
use Rattle.joint_machine.specs.Told.{Told, Noted, kept_pins}
use Rattle.joint_machine.specs.PinsTold.{bare_told, no_pins, pins_told, tells_pins}
use Rattle.known_laws.specs.PastEntries.{TellsPlainly}

never_managed : (m : ManagedReplay) (o : Op) (p : List (Option ℕ)) (x : Told) → ManagedAllows m o (kept_pins p x) → ⊥
never_managed m (op.Line a) p x w = w
never_managed m _ p x w = w

never_slice : (k : Option Marking) (t : Thread) (p : List (Option ℕ)) (x : Told) → SliceAllows k t (kept_pins p x) → ⊥
never_slice None t p x w = w
never_slice (Some k) t p x w = w

never_sweep : (s : PeerReplay) (k : Option Marking) (t : Thread) (p : List (Option ℕ)) (x : Told) → SweepAllows s k t (kept_pins p x) → ⊥
never_sweep s None (P n) p x w = w
never_sweep s None (M n) p x w = w
never_sweep s None C p x w = w
never_sweep s (Some k) (P n) p x w = w
never_sweep s (Some k) (M n) p x w = w
never_sweep s (Some k) C p x w = w

never_peer : (s : PeerReplay) (t : Thread) (o : Op) (c : Option ℕ) (p : List (Option ℕ)) (x : Told) → PeerAllows s t o c (kept_pins p x) → ⊥
never_peer s t (op.Line (act.Slice n)) c p x w = never_slice s.marking t p x w
never_peer s t (op.Line a) c p x w = w
never_peer s t op.Sweep c p x w = never_sweep s s.marking t p x w
never_peer s t _ c p x w = w

pub unpinned_told : (s : Linkage) (n : Noted) → MayCome s n → tells_pins n.told ≡ false
unpinned_told s n w = by (is_peer_event n.entry.made.caller n.entry.made.op) n.told w.lawful
  where
    by : (b : Bool) (x : Told) → SideLawful b s n.entry.made x → tells_pins x ≡ false
    by true (kept_pins p x) w = absurd (never_peer s.peer n.entry.made.caller n.entry.made.op n.entry.made.cites p x w.allowed)
    by false (kept_pins p x) w = absurd (never_managed s.managed n.entry.made.op p x w.allowed)
    by b _ w = refl

pub peer_unpinned : (s : PeerReplay) (m : Made) (x : Told) → PeerLawful s m x → tells_pins x ≡ false
peer_unpinned s m (kept_pins p x) w = absurd (never_peer s m.caller m.op m.cites p x w.allowed)
peer_unpinned s m _ w = refl

pub plain_told : (x : Told) → tells_pins x ≡ false → bare_told x ≡ x
plain_told (kept_pins p x) e = absurd (true≢false e)
plain_told _ e = refl

pub plain_pins : (x : Told) → tells_pins x ≡ false → pins_told x ≡ no_pins
plain_pins (kept_pins p x) e = absurd (true≢false e)
plain_pins _ e = refl

pub same_told : (x y : Told) → tells_pins x ≡ tells_pins y → pins_told x ≡ pins_told y → bare_told x ≡ bare_told y → x ≡ y
same_told x y e f g = by (tells_pins x) refl
  where
    made : (x : Told) → tells_pins x ≡ true → x ≡ kept_pins (pins_told x) (bare_told x)
    made (kept_pins p x) e = refl
    made _ e = absurd (true≢false (sym e))

    by : (b : Bool) → tells_pins x ≡ b → x ≡ y
    by true t = made x t ∙ ((λ i. kept_pins (f i) (g i)) ∙ sym (made y (sym e ∙ t)))
    by false t = sym (plain_told x t) ∙ (g ∙ plain_told y (sym e ∙ t))

-- the pins of the one with what else the other tells
abbrev pub retell : Told → Told → Told
retell (kept_pins p x) y = kept_pins p y
retell _ y = y

pub retell_tells : (x y : Told) → tells_pins y ≡ false → tells_pins (retell x y) ≡ tells_pins x
retell_tells (kept_pins p x) y e = refl
retell_tells _ y e = e

pub retell_pins : (x y : Told) → tells_pins y ≡ false → pins_told (retell x y) ≡ pins_told x
retell_pins (kept_pins p x) y e = refl
retell_pins _ y e = plain_pins y e

pub retell_bare : (x y : Told) → tells_pins y ≡ false → bare_told (retell x y) ≡ y
retell_bare (kept_pins p x) y e = refl
retell_bare _ y e = plain_told y e

-- a read is told plainly
pub plain_read : (st : Stand) (o : Op) (x : Told) → is_read o ≡ true → TellsPlainly st o x
plain_read st (op.Refused w) x e = absurd (true≢false (sym e))
plain_read st o x e = tt
