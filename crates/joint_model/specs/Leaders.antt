-- How leaders, and the handles of those that follow them, spell a list's entries.
use Rattle.std.specs.Prelude.{ℕ, ◌+◌, ◌≡◌, ⊤, List, [], ◌∷◌, ◌++◌, length, take, drop, sum_by}
use Rattle.joint_machine.specs.declared.names.HNum.{HNum}
use Rattle.joint_machine.specs.declared.events.Entry.{Entry}
use Rattle.joint_model.specs.declared.marks.Leader.{Leader}
use Rattle.joint_model.specs.declared.leaders.Step.{Step}
use Rattle.joint_model.specs.declared.leaders.Step.TheVariants as step
use Rattle.joint_model.specs.Following.{followers_of}
use Rattle.joint_model.specs.Packed.{entry_in}

-- the entries of leaders and of those that follow them
abbrev pub spelled : List Leader → List HNum → List Entry
spelled [] hs = []
spelled (l ∷ ls) hs = l.entry ∷ (followers_of l.entry 1 (take l.followers hs) ++ spelled ls (drop l.followers hs))

-- a leader's entry, and then those that follow it
abbrev pub led : Leader → List HNum → List Entry
led l hs = l.entry ∷ followers_of l.entry 1 (take l.followers (drop l.from hs))

-- there is a handle for each follower
abbrev pub AreFollowed : List Leader → List HNum → Type 0
AreFollowed ls hs = sum_by (λ l. l.followers) ls ≡ length hs

-- the handles of each leader's followers start where those before it end
abbrev pub Starts : ℕ → List Leader → Type 0
Starts n [] = ⊤
Starts n (l ∷ ls) = (l.from ≡ n) × Starts (n + l.followers) ls

-- the entry that a walk comes to
abbrev pub entry_of : Step → Entry
entry_of (step.Kept p) = entry_in p.now
entry_of (step.Spelled e) = e
