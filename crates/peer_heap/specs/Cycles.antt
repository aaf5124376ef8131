-- What the calls for a mirrored cycle make, and what they leave reserved. (This project's own.)
use Rattle.std.specs.Prelude.{ℕ, ◌-◌, ◌++◌, true, false, [], ◌∷◌, Some, None, unwrap_or}
use Rattle.joint_machine.specs.declared.names.Cycle.{Cycle}
use Rattle.joint_machine.specs.declared.names.HNum.{HNum}
use Rattle.joint_machine.specs.declared.names.Thread.TheVariants.{C}
use Rattle.joint_machine.specs.declared.events.Made.{Made}
use Rattle.joint_machine.specs.declared.events.Op.TheVariants as op
use Rattle.joint_machine.specs.declared.events.Reply.{Reply}
use Rattle.joint_machine.specs.declared.events.Reply.TheVariants as says
use Rattle.joint_machine.specs.Components.{End}
use Rattle.joint_machine.specs.Sides.{step_made}
use Rattle.global_handles.specs.declared.Back.{Back}
use Rattle.global_handles.specs.declared.Back.TheVariants.{Alive, Cleared}
use Rattle.peer_heap.specs.Sides.{Reserve}

-- what a restore answers
abbrev pub reply_of : Back → Reply
reply_of (Alive h) = says.Renewed h
reply_of Cleared = says.Cleared

-- the entries of a cycle, without their numbers
abbrev pub mirrors : ℕ → Cycle → ℕ → ℕ → Made
mirrors index k refs snap = step_made C index (op.Mirror k) (says.Refs refs) (Some snap)

abbrev pub weakens : ℕ → HNum → ℕ → Made
weakens index h snap = step_made C index (op.Weaken h) says.Ok (Some snap)

abbrev pub restores : ℕ → HNum → Back → Made
restores index h back = step_made C index (op.Restore h) (reply_of back) None

abbrev pub clears : ℕ → Cycle → Made
clears index k = step_made C index (op.Clear k) says.Ok None

-- room is taken for so many more references and so many temporaries, and for a cycle over so many handles
abbrev pub reserve_more : Reserve → ℕ → ℕ → ℕ → Reserve
reserve_more r refs temps handles = record r { refs = refs; temps = temps; next = Some handles }

-- a further reference waits
abbrev pub reserve_pushed : Reserve → End → End → Reserve
reserve_pushed r from to = record r { waiting = r.waiting ++ (from, to) ∷ []; refs = r.refs - 1 }

-- a cycle came to be mirrored: no reference waits, and what was reserved for it is its own
abbrev pub reserve_stood : Reserve → Reserve
reserve_stood r = record r { waiting = []; temps = 0; next = None; left = unwrap_or r.next 0; marking = true }

-- one handle less may still be weakened
abbrev pub reserve_left : Reserve → Reserve
reserve_left r = record r { left = r.left - 1 }

-- the cycle is over
abbrev pub reserve_over : Reserve → Reserve
reserve_over r = record r { left = 0; marking = false }
