-- That entries are those of a script's first lines.
use Rattle.std.specs.Prelude.{◌≡◌, ℕ, List, [], ◌∷◌, ◌++◌}
use Rattle.joint_machine.specs.declared.names.Thread.{Thread}
use Rattle.joint_machine.specs.declared.lines.Act.{Act}
use Rattle.joint_machine.specs.declared.events.Entry.{Entry}
use Rattle.script_laws.specs.Holding.{AreLine, Standing, standing_after}

-- the entries are those of these lines so far, and lead to where the driver stands then
abbrev pub HoldsSoFar : Standing → List (ℕ × (Thread × Act)) → List Entry → Standing → Type 0
HoldsSoFar s [] entries t = (entries ≡ []) × (t ≡ s)
HoldsSoFar s (line ∷ lines) entries t = (own : List Entry) × (rest : List Entry) × (entries ≡ own ++ rest)
    × AreLine s line.0 line.1 own × HoldsSoFar (standing_after s line.0 line.1.1 own) lines rest t
