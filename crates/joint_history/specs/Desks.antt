-- The callers that weren't given out yet.
use Rattle.std.specs.Prelude.{◌≡◌, ℕ, ◌-◌, ◌<◌, ◌≤◌, ◌==◌, ◌&&◌, nat_le, Bool, true, if◌then◌else◌, List, [], ◌∷◌}
use Rattle.std.specs.Prelude.{length, Option, Some, None, slice_get, slice_set}
use Rattle.joint_machine.specs.declared.names.Thread.{Thread}
use Rattle.joint_machine.specs.declared.names.Thread.TheVariants.{M, P, C}
use Rattle.joint_machine.specs.Control.{caller_place}
use Rattle.order_table.specs.declared.views.View.{View}
use Rattle.joint_history.specs.Callers.{Pass, HoldsPass, KnowsNothing}

-- a desk: how many threads of each kind there are, and by place the callers that wait there
pub record Waiting : Type 0 where
  pub managed : ℕ
  pub peers : ℕ
  pub callers : List (Option Pass)

-- the thread with that place
abbrev pub thread_of : ℕ → Thread
thread_of i = if i == 0 then C else (if nat_le i 8 then M i else P (i - 8))

-- there is such a thread
abbrev pub has_thread : Waiting → Thread → Bool
has_thread d (M n) = nat_le 1 n && nat_le n d.managed
has_thread d (P n) = nat_le 1 n && nat_le n d.peers
has_thread d C = true

-- what stands at a place
abbrev pub flat : Option (Option Pass) → Option Pass
flat None = None
flat (Some o) = o

-- the caller that waits there for the thread; none where there is no such thread or its caller was given out
abbrev pub waits : Waiting → Thread → Option Pass
waits d t = if has_thread d t then flat (slice_get d.callers (caller_place t)) else None

-- the desk without that caller
abbrev pub without_caller : Waiting → Thread → Waiting
without_caller d t = if has_thread d t then record d { callers = slice_set d.callers (caller_place t) None } else d

-- who waits at a place is that place's thread, and knows nothing
abbrev pub WaitsAt : ℕ → Option Pass → Type 0
WaitsAt i None = Unit {0}
WaitsAt i (Some p) = (p.thread ≡ thread_of i) × KnowsNothing p.view

-- each caller waits at its place
pub record IsDesk (d : Waiting) : Type 0 where
  pub managed_few : d.managed ≤ 8
  pub peers_few : d.peers ≤ 8
  pub places : length d.callers ≡ 17
  pub each : (i : ℕ) (o : Option Pass) → slice_get d.callers i ≡ Some o → WaitsAt i o

-- the callers so far, while a desk is set up: each of the first so many places has its caller
abbrev pub ArePlaced : ℕ → List (Option Pass) → Type 0
ArePlaced n callers = (i : ℕ) → i < n → (p : Pass) × (slice_get callers i ≡ Some (Some p)) × WaitsAt i (Some p)

-- the seat still holds the passes of the threads from that place on
abbrev pub HoldsFrom : ℕ → View → Type 0
HoldsFrom n v = (j : ℕ) → n ≤ j → j < 17 → HoldsPass (thread_of j) v

-- all callers are there
pub record AreAll (callers : List (Option Pass)) : Type 0 where
  pub places : length callers ≡ 17
  pub placed : ArePlaced 17 callers

-- the callers that are there
abbrev pub present : List (Option Pass) → List Pass
present [] = []
present (None ∷ os) = present os
present (Some p ∷ os) = p ∷ present os
