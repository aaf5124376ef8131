-- Which reads the gate lets in. A thread of a run reads a weak cell without a lock: it passes the gate, or finds it held
-- for a cycle. The gate is held from before the cycle's snap until behind its end, and once for each cycle; whoever is
-- inside keeps it from being closed. So a run has fewer reads than the order of their replies alone would allow. (SGen's
-- bridge header: while bridge processing is in progress, the reading of a weak link to a bridge object waits.)
-- Believed: the clauses of the program's top call rest on all that stands here.
use Rattle.std.specs.Prelude.{◌≡◌, ℕ, ◌<◌, ◌⊎◌, Bool, true, false, ◌&&◌, List}
use Rattle.joint_machine.specs.declared.names.Thread.{Thread}
use Rattle.joint_machine.specs.declared.events.Op.TheVariants as op
use Rattle.joint_machine.specs.declared.events.Reply.{Reply}
use Rattle.joint_machine.specs.declared.events.Reply.TheVariants as says
use Rattle.joint_machine.specs.Lines.{is_read}
use Rattle.joint_machine.specs.Places.{At}
use Rattle.joint_machine.specs.Readers.{ReadsCell, HasEventAt, EndsCycleAt, SetsCellAt, IsCallersAt, HasKnownFrom}
use Rattle.joint_machine.specs.Told.{Noted}

-- whether a read's reply is what it found in its cell: a filled pin is asked before the gate, and `pending` is what the
-- gate says
abbrev pub is_found : Reply → Bool
is_found (says.Pending c) = false
is_found (says.Pinned m) = false
is_found _ = true

-- the entry with number i is a read that was let in
abbrev pub IsLetInAt : List Noted → ℕ → Type 0
IsLetInAt ns i = At ns i (λ n. (is_read n.entry.made.op && is_found n.entry.made.reply) ≡ true)

-- it is one that found the gate held for cycle k
abbrev pub FindsHeldAt : List Noted → ℕ → ℕ → Type 0
FindsHeldAt ns i k = At ns i (λ n. (is_read n.entry.made.op ≡ true) × (n.entry.made.reply ≡ says.Pending record { 0 = k }))

-- it is one that found cell c unset
abbrev pub FindsUnsetAt : List Noted → ℕ → ℕ → Type 0
FindsUnsetAt ns i c = At ns i (λ n. ReadsCell n.entry.made.op c × (n.entry.made.reply ≡ says.Unset))

-- the entry with number i shows that cycle k has come: it is its snap, or found the gate held for it
abbrev pub ShowsCycle : List Noted → ℕ → ℕ → Type 0
ShowsCycle ns i k = HasEventAt ns i (op.Snap record { 0 = k }) ⊎ FindsHeldAt ns i k

-- it shows that the gate isn't held for cycle k any more, once that has ended: it was let in, or found the gate held for
-- a later cycle
abbrev pub ShowsOver : List Noted → ℕ → ℕ → Type 0
ShowsOver ns i k = IsLetInAt ns i ⊎ ((l : ℕ) × (k < l) × FindsHeldAt ns i l)

-- the reads of a history are such as the gate lets in
pub record IsGated (ns : List Noted) : Type 0 where
  -- before a read that was let in, each cycle that has come has ended
  pub closed : (i j k : ℕ) → IsLetInAt ns i → ShowsCycle ns j k → j < i → (end : ℕ) × (end < i) × EndsCycleAt ns end k
  -- whoever finds the gate held for a cycle has made no entry since something showed that it isn't any more
  pub held : (i j k end : ℕ) (t : Thread) → FindsHeldAt ns i k → IsCallersAt ns i t → EndsCycleAt ns end k → end < j
      → ShowsOver ns j k → HasKnownFrom ns t i j → ⊥
  -- a cell that was set before a snap isn't found unset behind it
  pub set : (i j s k c : ℕ) → FindsUnsetAt ns i c → SetsCellAt ns s c → HasEventAt ns j (op.Snap record { 0 = k }) → s < j
      → j < i → ⊥
