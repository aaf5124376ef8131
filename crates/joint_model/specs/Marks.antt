-- How a list keeps its leaders: an entry for each, and a mark for each that is marked, in the same order.
use Rattle.std.specs.Prelude.{ℕ, suc, ◌+◌, ◌≡◌, ⊤, ◌⊎◌, true, false, if◌then◌else◌, List, [], ◌∷◌, ◌++◌}
use Rattle.joint_machine.specs.declared.names.HNum.{HNum}
use Rattle.joint_machine.specs.declared.events.Entry.{Entry}
use Rattle.joint_model.specs.declared.packed.PackedEntry.{PackedEntry}
use Rattle.joint_model.specs.declared.marks.Leader.{Leader}
use Rattle.joint_model.specs.declared.marks.Mark.{Mark}
use Rattle.joint_model.specs.Packed.{entry_high, entry_in}
use Rattle.joint_model.specs.Following.{follower_of}

-- a leader without a mark, whose followers' handles would start at f: it has none
abbrev pub plain : ℕ → PackedEntry → Leader
plain f p = record { entry = entry_in p; from = f; followers = 0 }

-- a leader with a mark
abbrev pub by_mark : ℕ → PackedEntry → Mark → Leader
by_mark f p m = record { entry = entry_high p m.number_high m.cited_high; from = f; followers = m.followers }

-- the leaders that entries and marks stand for, where the first one's handles start at f
abbrev pub leaders_of : ℕ → List PackedEntry → List Mark → List Leader
leaders_of f [] ms = []
leaders_of f (p ∷ ps) [] = plain f p ∷ leaders_of f ps []
leaders_of f (p ∷ ps) (m ∷ ms) =
    if p.marked then by_mark f p m ∷ leaders_of (f + m.followers) ps ms else plain f p ∷ leaders_of f ps (m ∷ ms)

-- each mark is that of a marked entry, from place n on, says its place and where its handles start, and no other entry
-- is marked
abbrev pub Fits : ℕ → ℕ → List PackedEntry → List Mark → Type 0
Fits n f [] [] = ⊤
Fits n f [] (m ∷ ms) = ⊥
Fits n f (p ∷ ps) [] = (p.marked ≡ false) × Fits (suc n) f ps []
Fits n f (p ∷ ps) (m ∷ ms) = ((p.marked ≡ true) × (m.at ≡ n) × (m.from ≡ f) × Fits (suc n) (f + m.followers) ps ms)
    ⊎ ((p.marked ≡ false) × Fits (suc n) f ps (m ∷ ms))

-- what contracts see of leaders: all of them, and for how many more entries and marks there is room
pub record Row : Type 0 where
  pub all : List Leader
  pub room : ℕ
  pub room_of_marks : ℕ

-- the last leader got one more follower: this entry, with this handle
pub record Follows (old new : List Leader) (entry : Entry) (h : HNum) : Type 0 where
  pub first : List Leader
  pub last : Leader
  pub next : Leader
  pub was : old ≡ first ++ last ∷ []
  pub is : new ≡ first ++ next ∷ []
  pub same : next.entry ≡ last.entry
  pub start : next.from ≡ last.from
  pub more : next.followers ≡ last.followers + 1
  pub follower : entry ≡ follower_of last.entry (last.followers + 1) h
