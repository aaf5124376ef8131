-- The bridge's cycles, as a log tells them: it weakens candidates, and then makes strong again what it keeps and lets
-- go the weak references.
use Rattle.std.specs.Prelude.{ℕ, ◌+◌, ◌-◌, Bool, true, false, nat_le, List, [], ◌∷◌, ◌++◌, Option, Some, None, length, slice_get, slice_set}
use Rattle.android_lives.specs.declared.cycles.Cycle.{Cycle}
use Rattle.android_lives.specs.declared.cycles.Seen.{Seen}
use Rattle.android_lives.specs.declared.cycles.Turn.{Turn}
use Rattle.android_lives.specs.declared.cycles.Turn.TheVariants.{NoTurn, Weakens, Restores}
use Rattle.android_lives.specs.Tallies.{counted}

-- the cycles so far, and what the last place of one told
pub record Turned : Type 0 where
  pub cycles : List Cycle
  pub turn : Turn

abbrev pub none_turned : Turned
none_turned = record { cycles = []; turn = NoTurn }

-- a cycle that begins with that line; what a place tells of the state is `Seen`
abbrev pub begun_cycle : ℕ → Cycle
begun_cycle line = record {
  first = line;
  last = line;
  candidates = 0;
  old = 0;
  restored = 0;
  kept = 0;
  held = 0;
  off_strong = record { up = 0; down = 0 };
  off_weak = record { up = 0; down = 0 };
}

abbrev pub seen_by : Seen → Cycle → Cycle
seen_by s c = record c { last = s.line; held = s.held; off_strong = s.off_strong; off_weak = s.off_weak }

-- what is weakened after something that wasn't begins a cycle
abbrev pub turned_from : Turn → ℕ → Turned → Turned
turned_from Weakens line t = t
turned_from _ line t = record { cycles = t.cycles ++ begun_cycle line ∷ []; turn = Weakens }

abbrev pub begun_by : ℕ → Turned → Turned
begun_by line t = turned_from t.turn line t

-- a candidate that was made where so many cycles had begun is old where it was made before the cycle before this began
abbrev pub is_old : ℕ → ℕ → Bool
is_old begun number = nat_le (begun + 2) number

abbrev pub old_in : Bool → Cycle → Cycle
old_in true c = record c { old = counted c.old }
old_in false c = c

abbrev pub with_candidate : Seen → Bool → Cycle → Cycle
with_candidate s old c = seen_by s (old_in old (record c { candidates = counted c.candidates }))

-- one is kept, or one is restored, which may be to nothing
abbrev pub with_restored : Seen → Bool → Cycle → Cycle
with_restored s true c = seen_by s (record c { kept = counted c.kept })
with_restored s false c = seen_by s (record c { restored = counted c.restored })

-- the last cycle changes
abbrev pub put_last : (Cycle → Cycle) → List Cycle → Option Cycle → List Cycle
put_last f cs None = cs
put_last f cs (Some c) = slice_set cs (length cs - 1) (f c)

abbrev pub last_changed : (Cycle → Cycle) → List Cycle → List Cycle
last_changed f cs = put_last f cs (slice_get cs (length cs - 1))

-- a candidate is weakened, and what the bridge weakened is restored
abbrev pub weakened_to : Seen → ℕ → Turned → Turned
weakened_to s begun t = record t { cycles = last_changed (with_candidate s (is_old begun (length t.cycles))) t.cycles }

abbrev pub weakened_by : Seen → ℕ → Turned → Turned
weakened_by s begun t = weakened_to s begun (begun_by s.line t)

abbrev pub restored_by : Seen → Bool → Turned → Turned
restored_by s kept t = record { cycles = last_changed (with_restored s kept) t.cycles; turn = Restores }
