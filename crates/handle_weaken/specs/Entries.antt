-- The entries of weakening and restoring handles one after another. (This project's own.)
use Rattle.std.specs.Prelude.{◌≡◌, ℕ, ◌-◌, ◌++◌, Option, List, [], ◌∷◌, length, map}
use Rattle.joint_machine.specs.declared.names.HNum.{HNum}
use Rattle.joint_machine.specs.PeerReplay.{PeerReplay}
use Rattle.joint_machine.specs.Draws.{Drawing}
use Rattle.joint_machine.specs.Sides.{Side, Making, peer_rules, AddsInTurn}
use Rattle.joint_machine.specs.Told.{nothing}
use Rattle.global_handles.specs.Rows.{back_of}
use Rattle.peer_heap.specs.Cycles.{restores, weakens}
use Rattle.peer_heap.specs.Sides.{Reserve}

-- the entries that weaken these handles, each of which cites the snap
abbrev pub weakenings : ℕ → ℕ → List HNum → List Making
weakenings index snap hs = map (λ h. record { made = weakens index h snap; told = nothing }) hs

-- so many handles less may still be weakened
abbrev pub reserve_weakened : Reserve → ℕ → Reserve
reserve_weakened r n = record r { left = r.left - n }

-- the entries that restore these handles, with these answers
abbrev pub restorings : ℕ → List HNum → List (Option HNum) → List Making
restorings index [] answers = []
restorings index (h ∷ hs) [] = []
restorings index (h ∷ hs) (b ∷ bs) = record { made = restores index h (back_of b); told = nothing } ∷ restorings
    index hs bs

-- these handles were restored one after another; the answers, one for each of them, were put last
pub record RestoresInTurn {D : Type 0} (d : Drawing D) (before after : D) (old new : Side PeerReplay)
    (index : ℕ) (hs : List HNum) (values later : List (Option HNum)) : Type 0 where
  pub answers : List (Option HNum)
  pub each : length answers ≡ length hs
  pub put : later ≡ values ++ answers
  pub adds : AddsInTurn peer_rules d before after old new (restorings index hs answers)
