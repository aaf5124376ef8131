-- What becomes of the open cycle by an entry of the driver on the peer side: it goes on to its next candidate, with the
-- answer of the one that was restored, or begins again at the first.
use Rattle.std.specs.Prelude.{◌≡◌, ℕ, ◌+◌, ◌<◌, [], ◌∷◌, ◌++◌, length, Option, Some, None}
use Rattle.joint_machine.specs.declared.names.HNum.{HNum}
use Rattle.bridge_graph.specs.Handles.{handles_of}
use Rattle.run_check.specs.declared.cycles.OpenCycle.{OpenCycle as Kept}
use Rattle.run_check.specs.Cycles.{IsAtHandle}

-- it goes on to its next candidate, and nothing else of it changes
pub record GoesOnTo (old new : Kept) : Type 0 where
  pub rest : new ≡ record old { place = new.place }
  pub next : (n : ℕ) → n < length (handles_of old.graph.nodes)
      → IsAtHandle old.graph.nodes old.place n → IsAtHandle old.graph.nodes new.place (n + 1)

-- if there is one
abbrev pub HasGoneOn : Option Kept → Option Kept → Type 0
HasGoneOn None new = new ≡ None
HasGoneOn (Some o) new = (p : Kept) × (new ≡ Some p) × GoesOnTo o p

-- the handle's answer comes last, and the place goes on
pub record PutsLast (o p : Kept) (back : Option HNum) : Type 0 where
  pub mid : Kept
  pub values : mid.alive.values ≡ o.alive.values ++ back ∷ []
  pub room : mid.alive.room + 1 ≡ o.alive.room
  pub rest : mid ≡ record o { alive = mid.alive }
  pub goes : GoesOnTo mid p

abbrev pub HasPut : Option Kept → Option Kept → Option HNum → Type 0
HasPut None new back = new ≡ None
HasPut (Some o) new back = (p : Kept) × (new ≡ Some p) × PutsLast o p back

-- the place is the first one again
abbrev pub HasBegun : Option Kept → Option Kept → Type 0
HasBegun None new = new ≡ None
HasBegun (Some o) new = (p : Kept) × (new ≡ Some p)
    × (p ≡ record o { place = p.place }) × IsAtHandle p.graph.nodes p.place 0
