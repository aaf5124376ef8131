-- What the restores of a cycle's candidates have answered, as the joint state keeps it, and what a resolution makes of
-- it. (The definitions are the joint model's; here they stand candidate by candidate.)
use Rattle.std.specs.Prelude.{◌≡◌, ℕ, Bool, true, false, List, [], ◌∷◌, map, replicate, slice_set, length, Option, Some}
use Rattle.std.specs.Prelude.{None}
use Rattle.std.specs.Option.{option_map}
use Rattle.joint_machine.specs.Heaps.{numbered_set}
use Rattle.joint_machine.specs.Joint.{Joint}
use Rattle.joint_machine.specs.Told.{Answer, said_alive, said_cleared}
use Rattle.joint_replay.specs.declared.answers.Said.{Said}
use Rattle.joint_replay.specs.declared.answers.Said.TheVariants.{Alive, Cleared}
use Rattle.joint_replay.specs.declared.state.Verdict.{Verdict}
use Rattle.joint_replay.specs.declared.state.Verdict.TheVariants.{Lawful, Unlawful}

-- an answer, and the answers of all candidates, in the model's words
abbrev pub said_as : Said → Answer
said_as (Alive h) = said_alive h
said_as Cleared = said_cleared

abbrev pub answers_as : List (Option Said) → List (Option Answer)
answers_as xs = map (option_map said_as) xs

-- whether a candidate has had its restore
abbrev pub IsGiven : Option Said → Type 0
IsGiven None = ⊥
IsGiven (Some a) = Unit {0}

abbrev pub IsMissing : Option Said → Type 0
IsMissing None = Unit {0}
IsMissing (Some a) = ⊥

-- each candidate has had its restore
abbrev pub AreAnswered : Joint → Type 0
AreAnswered j = (alive : List Answer) × (j.answers ≡ map Some alive)

-- the answers that were given
abbrev pub given_in : List (Option Answer) → List Answer
given_in [] = []
given_in (None ∷ xs) = given_in xs
given_in (Some a ∷ xs) = a ∷ given_in xs

-- the list with an answer at a place, where it is wanted
abbrev pub put_where : Bool → List (Option Answer) → ℕ → Answer → List (Option Answer)
put_where true xs i a = slice_set xs i (Some a)
put_where false xs i a = xs

-- the handle that an answer gave
abbrev pub handle_in : Option (Option Answer) → Option ℕ
handle_in None = None
handle_in (Some None) = None
handle_in (Some (Some (said_alive h))) = Some h
handle_in (Some (Some said_cleared)) = None

-- what the objects hold, once one holds another handle, if there is one
abbrev pub renew_one : List (Option ℕ) → ℕ → Option ℕ → List (Option ℕ)
renew_one held m None = held
renew_one held m (Some h) = numbered_set held m (Some h)

-- what they hold, once each candidate that was answered alive holds the handle that its restore gave
abbrev pub renewed_by : List (Option ℕ) → List ℕ → List (Option Answer) → List (Option ℕ)
renewed_by held [] xs = held
renewed_by held (m ∷ ms) [] = held
renewed_by held (m ∷ ms) (x ∷ xs) = renewed_by (renew_one held m (handle_in (Some x))) ms xs

-- a snapshot that was taken leaves each candidate without an answer; another leaves the answers as they are
abbrev pub Awaits : Verdict → List ℕ → List (Option Answer) → List (Option Answer) → Type 0
Awaits Lawful candidates old new = new ≡ replicate (length candidates) None
Awaits Unlawful candidates old new = new ≡ old
