-- Lines with what is drawn beside each entry: the object to which it sets a cell, and the objects that it frees; and
-- the pins that are kept with it.
use Rattle.std.specs.Prelude.{◌≡◌, ℕ, ◌⊎◌, nat_eq, if◌then◌else◌, List, [], ◌∷◌, ◌++◌, map, Contains, Option, Some}
use Rattle.std.specs.Prelude.{None}
use Rattle.joint_machine.specs.declared.names.MNum.{MNum}
use Rattle.joint_machine.specs.declared.lines.Act.TheVariants as act
use Rattle.joint_machine.specs.declared.events.Op.{Op}
use Rattle.joint_machine.specs.declared.events.Op.TheVariants as op
use Rattle.joint_machine.specs.Heaps.{slot}
use Rattle.joint_machine.specs.Draws.{Drawn}
use Rattle.joint_machine.specs.Histories.{managed_numbers, NumberedFrom}
use Rattle.joint_machine.specs.Lines.{is_peer_event, is_read}
use Rattle.known_laws.specs.Known.{Comes}
use Rattle.joint_machine.specs.Linked.{Linkage}
use Rattle.joint_machine.specs.Sides.{SideRules, managed_rules, peer_rules}
use Rattle.joint_machine.specs.Told.{Noted}
use Rattle.joint_machine.specs.PinsTold.{pins_told}
use Rattle.known_laws.specs.Held.{open_number}
use Rattle.known_laws.specs.Pasts.{Lawful, end_of, is_in}
use Rattle.known_laws.specs.Growing.{Kept, entries_kept, AreKnown, AreBelow, Begin, AreLonger, AreJoined, HasGrown}
use Rattle.known_laws.specs.Growing.{untold}

-- the entry as a side draws it in a state: with the object to which it sets a cell and the objects that it frees
abbrev pub drawn_by : {S : Type 0} → SideRules S → S → Noted → Drawn
drawn_by r s n = record { entry = n.entry; target = r.target s n.entry.made; freed = r.frees n.told }

-- as its own side draws it
abbrev pub drawn : Linkage → Noted → Drawn
drawn s n = if is_peer_event n.entry.made.caller n.entry.made.op then
    drawn_by peer_rules s.peer n else drawn_by managed_rules s.managed n

-- what a line keeps of a drawn entry
pub record KeptDrawn : Type 0 where
  pub drawn : Drawn
  pub pins : List (Option ℕ)

-- it was drawn as the past tells
pub record IsToldIn (h : List Noted) (d : KeptDrawn) : Type 0 where
  pub entry : Noted
  pub front : List Noted
  pub back : List Noted
  pub all : h ≡ front ++ entry ∷ back
  pub same : d.drawn ≡ drawn (end_of back) entry
  pub pins : d.pins ≡ pins_told entry.told

-- a line without what is drawn
abbrev pub of_drawn : List KeptDrawn → List Kept
of_drawn ds = map (λ d. record { entry = d.drawn.entry; pins = d.pins }) ds

-- drawn lines are known: they are those of a lawful past, which tells the target and the freed objects of each entry
pub record AreDrawn (lines : ℕ → List KeptDrawn) : Type 0 where
  pub known : AreKnown (λ i. of_drawn (lines i))
  pub told : (i : ℕ) (d : KeptDrawn) → Contains (lines i) d → IsToldIn known.past d

-- before anything is known
abbrev pub NothingIsDrawn : Type 0
NothingIsDrawn = AreDrawn (λ i. [])

-- what two seats of one run have of an entry is one: its target and the objects that it frees too
abbrev pub DrawnIsOne : Type 0
DrawnIsOne = (whole : List Kept) (ls ms : ℕ → List KeptDrawn) (a : AreDrawn ls) (b : AreDrawn ms)
    → NumberedFrom 0 (entries_kept whole) → Begin whole (λ i. of_drawn (ls i)) → Begin whole (λ i. of_drawn (ms i))
    → (i j : ℕ) (d e : KeptDrawn) → Contains (ls i) d → Contains (ms j) e
    → d.drawn.entry.number ≡ e.drawn.entry.number → d ≡ e

-- the drawn lines with a further entry
abbrev pub drawn_on : (ℕ → List KeptDrawn) → KeptDrawn → ℕ → List KeptDrawn
drawn_on lines d i = if is_in i (untold record { entry = d.drawn.entry; pins = d.pins })
    then lines i ++ d ∷ [] else lines i

-- the entry as it is drawn in a state, with the pins that are told
abbrev pub kept_drawn : Linkage → Noted → KeptDrawn
kept_drawn s n = record { drawn = drawn s n; pins = pins_told n.told }

-- they grow by an entry that may come after the past, as it is drawn at the past's end, with a number above all that is
-- known
pub record DrawnGrow (lines : ℕ → List KeptDrawn) (past : List Noted) (n : Noted) : Type 0 where
  pub grows : HasGrown (λ i. of_drawn (lines i)) past n
  pub told : (i : ℕ) (d : KeptDrawn) → Contains (drawn_on lines (kept_drawn (end_of past) n) i) d
      → IsToldIn (record { entry = n.entry; told = grows.told } ∷ past) d

abbrev pub DrawnLinesGrow : Type 0
DrawnLinesGrow = (lines : ℕ → List KeptDrawn) (k : AreDrawn lines) (n : Noted)
    → ((i : ℕ) → AreBelow n.entry.number (of_drawn (lines i)))
    → Comes (is_read n.entry.made.op) (end_of k.known.past) n → DrawnGrow lines k.known.past n

-- of each line the one or the other
pub record AreEither (ls ms ns : ℕ → List KeptDrawn) : Type 0 where
  pub either : (i : ℕ) → (ns i ≡ ls i) ⊎ (ns i ≡ ms i)
  pub longer : AreLonger (λ i. of_drawn (ls i)) (λ i. of_drawn (ms i)) (λ i. of_drawn (ns i))

-- the longer lines are drawn lines of one past again
pub record DrawnJoin (a b : List Noted) (ls ms ns : ℕ → List KeptDrawn) : Type 0 where
  pub joins : AreJoined a b (λ i. of_drawn (ls i)) (λ i. of_drawn (ms i)) (λ i. of_drawn (ns i))
  pub told : (i : ℕ) (d : KeptDrawn) → Contains (ns i) d → IsToldIn joins.joined.past d

abbrev pub DrawnLinesJoin : Type 0
DrawnLinesJoin = (whole : List Kept) (ls ms ns : ℕ → List KeptDrawn) (a : AreDrawn ls) (b : AreDrawn ms)
    → NumberedFrom 0 (entries_kept whole) → Begin whole (λ i. of_drawn (ls i))
    → Begin whole (λ i. of_drawn (ms i)) → AreEither ls ms ns
    → DrawnJoin a.known.past b.known.past ls ms ns

-- the objects that the entries of a past are drawn with as freed, earliest first
abbrev pub freed_in : List Noted → List ℕ
freed_in [] = []
freed_in (x ∷ h) = freed_in h ++ managed_numbers (drawn (end_of h) x).freed

-- they are those that are freed at its end
abbrev pub FreedIsDrawn : Type 0
FreedIsDrawn = (h : List Noted) → Lawful h → (end_of h).managed.managed.heap.freed ≡ freed_in h

-- the cell that a drawn entry sets, and the object: that of a `weak` with a target
abbrev pub aimed : ℕ → Option MNum → Option (ℕ × ℕ)
aimed c None = None
aimed c (Some m) = Some (c, m.0)

abbrev pub sets_by : Op → Option MNum → Option (ℕ × ℕ)
sets_by (op.Line (act.Weak k v)) target = aimed k.0 target
sets_by o target = None

abbrev pub sets : Drawn → Option (ℕ × ℕ)
sets d = sets_by d.entry.made.op d.target

-- a cell's target after an entry that sets a cell or none
abbrev pub aims_at : ℕ → Option ℕ → Option (ℕ × ℕ) → Option ℕ
aims_at c target None = target
aims_at c target (Some p) = if nat_eq p.0 c then Some p.1 else target

-- a cell's target by what the entries of a past are drawn with
abbrev pub target_in : ℕ → List Noted → Option ℕ
target_in c [] = None
target_in c (x ∷ h) = aims_at c (target_in c h) (sets (drawn (end_of h) x))

-- it is the target that the cell has at the past's end
abbrev pub TargetsAreDrawn : Type 0
TargetsAreDrawn = (h : List Noted) → Lawful h → (c : ℕ) → slot (end_of h).managed.managed.cells c ≡ target_in c h

-- the number of the open cycle by the events of a past: a snap opens one, a resolve and an abandon close it
abbrev pub open_after : Op → Option ℕ → Option ℕ
open_after (op.Snap k) o = Some k.0
open_after (op.Resolve k) o = None
open_after (op.Abandon k) o = None
open_after _ o = o

abbrev pub open_in : List Noted → Option ℕ
open_in [] = None
open_in (x ∷ h) = open_after x.entry.made.op (open_in h)

-- it is that of the cycle that is open at the past's end
abbrev pub CyclesAreDrawn : Type 0
CyclesAreDrawn = (h : List Noted) → Lawful h → open_number (end_of h).managed.managed.cycle ≡ open_in h
