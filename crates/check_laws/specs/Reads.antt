-- What a reader's entry may answer over a whole history is told by what stands before it, and by the snap that it waits
-- for.
use Rattle.std.specs.Prelude.{◌≡◌, ℕ, ◌↔◌, Bool, true, false, List, [], ◌∷◌, length, Option}
use Rattle.joint_machine.specs.Lines.{is_read}
use Rattle.joint_machine.specs.Linked.{Linkage, MayCome}
use Rattle.joint_machine.specs.Readers.{ReadsCell, IsReadReply, ReaderMayCome}
use Rattle.joint_machine.specs.Told.{Noted, nothing}
use Rattle.check_laws.specs.Order.{IsTurn, CitesSo}
use Rattle.check_laws.specs.Behind.{in_turn, state_of, WaitsForSnap, GivesSnap, ReadsBehind}

-- the first two tests of a reader's entry are all that is asked of it beside its reply
abbrev pub ReaderOrderIsTested : Type 0
ReaderOrderIsTested = (s : Linkage) (n : Noted) → is_read n.entry.made.op ≡ true
    → (IsTurn s n.entry.made × CitesSo s n.entry.made × (n.told ≡ nothing)) ↔ ReaderMayCome s n

-- an entry may come behind a past, but for a reader's reply
abbrev pub ComesBehind : Bool → Linkage → Noted → Type 0
ComesBehind true s n = ReaderMayCome s n
ComesBehind false s n = MayCome s n

abbrev pub AllComeBehind : List Noted → Type 0
AllComeBehind [] = Unit {0}
AllComeBehind (n ∷ past) = ComesBehind (is_read n.entry.made.op) (state_of past) n × AllComeBehind past

-- each entry's number is that of the entries before it
abbrev pub AreInPlace : List Noted → Type 0
AreInPlace [] = Unit {0}
AreInPlace (n ∷ past) = (n.entry.number ≡ length past) × AreInPlace past

-- each read answers as it may by what stands before it, and each managed entry gives the snap that is waited for
abbrev pub AllReadBehind : List Noted → Type 0
AllReadBehind [] = Unit {0}
AllReadBehind (n ∷ past) = (ReadsBehind past n × GivesSnap past n) × AllReadBehind past

-- each read answers as it may over the whole, with these cells at its end
abbrev pub AllReadOver : List Noted → List (Option ℕ) → List Noted → Type 0
AllReadOver whole cells [] = Unit {0}
AllReadOver whole cells (n ∷ past) =
    ((k : ℕ) → ReadsCell n.entry.made.op k
    → IsReadReply whole cells (state_of past).managed.managed
    n.entry.number n.entry.made.caller k n.entry.made.reply)
    × AllReadOver whole cells past

-- the two are one where no snap is waited for at the end
abbrev pub ReadersAreTested : Type 0
ReadersAreTested = (past : List Noted) → AllComeBehind past → AreInPlace past
    → (AllReadBehind past × ((k : ℕ) → WaitsForSnap past k → ⊥))
    ↔ AllReadOver (in_turn past) (state_of past).managed.managed.cells past
