-- What a seat knows: a past, latest entry first, with numbers left out, and its lines.
use Rattle.std.specs.Prelude.{◌≡◌, ℕ, ◌+◌, ◌≤◌, ◌⊎◌, Bool, if◌then◌else◌, List, [], ◌∷◌, ◌++◌, map, Contains, Some}
use mathlib.Core.List.{IsPrefix}
use Rattle.joint_machine.specs.Components.{mirror_edges}
use Rattle.joint_machine.specs.Control.{OpenSnap, contracted, IsCandidateHandle, carried_edges}
use Rattle.joint_machine.specs.Cycles.{IsDeadContraction}
use Rattle.joint_machine.specs.Heaps.{fields_of}
use Rattle.joint_machine.specs.HistoryLines.{caller_line, side_line, stands_in}
use Rattle.joint_machine.specs.Linked.{Linkage, opening_linkage}
use Rattle.joint_machine.specs.Managed.{Managed, OpenCycle, handle_of, candidates_of}
use Rattle.joint_machine.specs.Peers.{Issued}
use Rattle.joint_machine.specs.Told.{Noted, nothing, kept_pins}
use Rattle.joint_machine.specs.PinsTold.{pins_told}
use Rattle.known_laws.specs.Known.{MayComeLater, past_after}
use Rattle.known_laws.specs.PastEntries.{InPast}

-- the driver's line
abbrev pub driver_line : ℕ
driver_line = 10

-- the line of the list in which an entry stands
abbrev pub role_of : Noted → ℕ
role_of n = side_line n.entry

-- the line of the entry's caller
abbrev pub own_of : Noted → ℕ
own_of n = caller_line n.entry.made.caller

-- the entry stands in line i
abbrev pub is_in : ℕ → Noted → Bool
is_in i n = stands_in i n.entry

-- line i of a past, earliest first
abbrev pub line : ℕ → List Noted → List Noted
line i [] = []
line i (x ∷ h) = if is_in i x then line i h ++ x ∷ [] else line i h

-- line i of a run, whose entries stand earliest first
abbrev pub of_line : ℕ → List Noted → List Noted
of_line i [] = []
of_line i (x ∷ xs) = if is_in i x then x ∷ of_line i xs else of_line i xs

-- the numbers of a run are those from n on
abbrev pub PastRunsFrom : ℕ → List Noted → Type 0
PastRunsFrom n [] = Unit {0}
PastRunsFrom n (x ∷ xs) = (x.entry.number ≡ n) × PastRunsFrom (n + 1) xs

-- the state after a past
abbrev pub end_of : List Noted → Linkage
end_of [] = opening_linkage
end_of (n ∷ h) = past_after (end_of h) n

-- the least number that an entry after a past can have
abbrev pub next_of : List Noted → ℕ
next_of [] = 0
next_of (n ∷ h) = n.entry.number + 1

-- each entry may come after those behind it
abbrev pub Lawful : List Noted → Type 0
Lawful [] = Unit {0}
Lawful (n ∷ h) = MayComeLater (next_of h) (end_of h) n × Lawful h

-- the past's lines are beginnings of the lines of the whole
abbrev pub Within : List Noted → List Noted → Type 0
Within whole h = (i : ℕ) → IsPrefix (line i h) (of_line i whole)

-- the open cycle is the same, the rows of its dead part have the same handles and fields, and so the same contraction
pub record HasSameDeadPart (s t : Managed) : Type 0 where
  pub cycle : s.cycle ≡ t.cycle
  pub handles : (c : OpenCycle) → s.cycle ≡ Some c → (m : ℕ) → Contains c.dead m → handle_of s m ≡ handle_of t m
  pub fields : (c : OpenCycle) → s.cycle ≡ Some c → (m : ℕ)
      → Contains c.dead m → fields_of s.heap m ≡ fields_of t.heap m
  pub contraction : (c : OpenCycle) → s.cycle ≡ Some c → (comps : List (List ℕ)) (heavy : List ℕ) (xrefs : List (ℕ × ℕ))
      → IsDeadContraction s c.dead comps heavy xrefs → IsDeadContraction t c.dead comps heavy xrefs

-- two states have the same for the driver: the candidates, their handles, and where the mirror edges lead
pub record IsSameForDriver (s t : Linkage) : Type 0 where
  pub candidates : candidates_of s.managed.managed ≡ candidates_of t.managed.managed
  pub handles : (i h : ℕ) → IsCandidateHandle s.managed.managed i h → IsCandidateHandle t.managed.managed i h
  pub edges : (o : OpenSnap) (comps : List (List ℕ)) (heavy : List ℕ) (xrefs : List (ℕ × ℕ)) (issued : List Issued)
      → t.control.stand ≡ contracted o comps heavy xrefs
      → carried_edges s.managed.managed issued
      (mirror_edges comps xrefs) ≡ carried_edges t.managed.managed issued (mirror_edges comps xrefs)

-- the open cycle's dead part is frozen: two pasts in which the driver did the same have the same for the driver
abbrev pub IsFrozenIn : List Noted → Type 0
IsFrozenIn whole = (a b : List Noted) → Lawful a → Lawful b → Within whole a → Within whole b
    → line driver_line a ≡ line driver_line b → IsSameForDriver (end_of a) (end_of b)

-- an entry that may come after one past of a run may come after another that has the same line of its list and of its
-- caller
abbrev pub EntryMayMove : Type 0
EntryMayMove = (whole a b : List Noted) → Lawful a → Lawful b → Within whole a → Within whole b
    → (x : Noted) → line (role_of x) a ≡ line (role_of x) b → line (own_of x) a ≡ line (own_of x) b
    → next_of b ≤ x.entry.number → MayComeLater (next_of a) (end_of a) x → MayComeLater (next_of b) (end_of b) x

-- what two pasts of one run know together is a past of it
pub record Joined (a b : List Noted) : Type 0 where
  pub past : List Noted
  pub lawful : Lawful past
  pub longer_one : (i : ℕ) → (line i past ≡ line i a) ⊎ (line i past ≡ line i b)
  pub first : (i : ℕ) → IsPrefix (line i a) (line i past)
  pub second : (i : ℕ) → IsPrefix (line i b) (line i past)

-- two pasts of one run join, where the open cycle is frozen
abbrev pub PastsJoin : Type 0
PastsJoin = (whole a b : List Noted) → PastRunsFrom 0 whole → IsFrozenIn whole
    → Lawful a → Lawful b → Within whole a → Within whole b → Joined a b

-- in any run
abbrev pub KnownPastsJoin : Type 0
KnownPastsJoin = (whole a b : List Noted) → PastRunsFrom 0 whole
    → Lawful a → Lawful b → Within whole a → Within whole b → Joined a b

-- a note of which nothing is told but the pins
abbrev pub bare : Noted → Noted
bare n = record { entry = n.entry; told = kept_pins (pins_told n.told) nothing }

-- the past's entries stand in lines that begin the lines of the whole
abbrev pub AreWithin : List Noted → List Noted → Type 0
AreWithin whole h = Within (map bare whole) (map bare h)

-- what both have is told alike
abbrev pub AreAlike : List Noted → List Noted → Type 0
AreAlike a b = (x y : Noted) → InPast a x → InPast b y → x.entry.number ≡ y.entry.number → x ≡ y

-- so are any two pasts of one run of entries
abbrev pub PastsAgree : Type 0
PastsAgree = (whole a b : List Noted) → PastRunsFrom 0 whole → Lawful a
    → Lawful b → AreWithin whole a → AreWithin whole b → AreAlike a b

-- of two pasts whose entries are those of one run
abbrev pub EntryPastsJoin : Type 0
EntryPastsJoin = (whole a b : List Noted) → PastRunsFrom 0 whole
    → Lawful a → Lawful b → AreWithin whole a → AreWithin whole b → Joined a b
