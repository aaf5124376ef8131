-- The mirrored cycle, as the peer side keeps it: what stands is read off the rows and the entries, and beside it there
-- is what was reserved and what waits. (This project's own.)
use Rattle.std.specs.Prelude.{◌≡◌, ℕ, ◌+◌, ◌-◌, ◌*◌, ◌≤◌, ◌<◌, ◌⊎◌, Bool, true, false, if◌then◌else◌, List, [], ◌∷◌}
use Rattle.std.specs.Prelude.{length, drop, flat_map, Contains, Option, Some, None}
use Rattle.std.specs.Option.{option_map}
use Rattle.joint_machine.specs.declared.events.Entry.{Entry}
use Rattle.joint_machine.specs.declared.events.Op.{Op}
use Rattle.joint_machine.specs.declared.events.Op.TheVariants as op
use Rattle.joint_machine.specs.declared.events.Reply.{Reply}
use Rattle.joint_machine.specs.declared.events.Reply.TheVariants as says
use Rattle.joint_machine.specs.Components.{End, node, temporary}
use Rattle.joint_machine.specs.Heaps.{Heap, IsLive}
use Rattle.joint_machine.specs.Peers.{peer_of}
use Rattle.joint_machine.specs.PeerReplay.{PeerReplay, Mirror, HasReference, Refers, row_of, strong_peers}
use Rattle.peer_heap.specs.declared.mirroring.OpenMirror.{OpenMirror}
use Rattle.peer_heap.specs.Mirroring.{strong_row}
use Rattle.joint_machine.specs.Numbers.{u32_max}

-- the cycle that an entry mirrors, and the handle that it weakens or restores
abbrev pub mirrored_at : Op → List ℕ
mirrored_at (op.Mirror k) = k.0 ∷ []
mirrored_at o = []

abbrev pub weakened_at : Op → List ℕ
weakened_at (op.Weaken h) = h.0 ∷ []
weakened_at o = []

abbrev pub restored_at : Op → List ℕ
restored_at (op.Restore h) = h.0 ∷ []
restored_at o = []

-- the handle that a restore gave
abbrev pub given_at : Op → Reply → List ℕ
given_at (op.Restore h) (says.Renewed g) = g.0 ∷ []
given_at o r = []

-- what the entries from the nth on have of these
abbrev pub told_since : (Op → List ℕ) → ℕ → List Entry → List ℕ
told_since at n es = flat_map (λ e. at e.made.op) (drop n es)

-- the handles that the restores among the entries from the nth on gave
abbrev pub given_since : ℕ → List Entry → List ℕ
given_since n es = flat_map (λ e. given_at e.made.op e.made.reply) (drop n es)

-- the cycles that were ever mirrored
abbrev pub mirrors_in : List Entry → List ℕ
mirrors_in es = told_since mirrored_at 0 es

-- the mirrored cycle: the handles that it weakened and restored, and those that its restores gave, stand in the entries
-- after its mirror entry
abbrev pub mirror_as : List Entry → OpenMirror → Mirror
mirror_as es m = record {
  cycle = m.cycle.0;
  snap = m.snap;
  weakened = told_since weakened_at m.from es;
  restored = told_since restored_at m.from es;
  renewed = given_since m.from es;
}

abbrev pub mirror_in : List Entry → Option OpenMirror → Option Mirror
mirror_in es o = option_map (mirror_as es) o

-- what is kept of a cycle beside its entries and references: the mirrored one; the references that wait; for how many
-- more of them and for how many temporaries there is room; and for how many handles room is taken for the cycle that is
-- mirrored next
pub record Mirrors : Type 0 where
  pub mirror : Option OpenMirror
  pub waiting : List (End × End)
  pub room : ℕ
  pub temps : ℕ
  pub next : Option ℕ

abbrev pub no_mirrors : Mirrors
no_mirrors = record { mirror = None; waiting = []; room = 0; temps = 0; next = None }

-- how many entries a mirrored cycle owes: a weaken and a restore for each handle that it may still weaken, a restore
-- for each that is weak, its clear, and the begin and the sweep of its own marking, unless that was begun; the sweep of
-- an open marking is counted with that
abbrev pub owed_by : Option OpenMirror → ℕ
owed_by None = 0
owed_by (Some m) = 2 * m.left + m.due + 1 + (if m.marking then 2 else 0)

-- and how many the one owes that is mirrored next
abbrev pub owed_next : Option ℕ → ℕ
owed_next None = 0
owed_next (Some n) = 2 * n + 4

abbrev pub owes : Mirrors → ℕ
owes m = owed_by m.mirror + owed_next m.next

-- the numbers of a mirrored cycle are small enough to be counted
abbrev pub AreFew : Option OpenMirror → Type 0
AreFew None = Unit {0}
AreFew (Some m) = m.left + m.due ≤ u32_max

-- what holds of the parts: the waiting references have the room that is said
pub record IsMirroring (mirror : Option OpenMirror) (len room capacity : ℕ) : Type 0 where
  pub few : AreFew mirror
  pub space : len + room ≤ capacity
  pub most : len + room ≤ u32_max

-- a handle is weak and has to be restored; one less has to be; and the cycle's own marking was begun
abbrev pub weakened_one : OpenMirror → OpenMirror
weakened_one m = record m { left = m.left - 1; due = m.due + 1 }

abbrev pub restored_one : OpenMirror → OpenMirror
restored_one m = record m { due = m.due - 1 }

abbrev pub marked_one : OpenMirror → OpenMirror
marked_one m = record m { marking = false }

-- a begin of the cycle's own marking takes what is owed to it; another changes nothing
abbrev pub mirrors_begun : Bool → Mirrors → Mirrors
mirrors_begun true m = record m { mirror = option_map marked_one m.mirror }
mirrors_begun false m = m

-- the handles that are weakened and not restored are no more than the restores that are owed
pub record IsDue (m : Mirror) (due : ℕ) : Type 0 where
  pub weak_ones : List ℕ
  pub count : length weak_ones ≡ due
  pub there : (h : ℕ) → Contains m.weakened h → (Contains m.restored h → ⊥) → Contains weak_ones h

-- what holds of a mirrored cycle, where the list has so many entries
pub record IsOpenMirror (es : List Entry) (m : OpenMirror) : Type 0 where
  pub from : m.from ≤ length es
  pub due : IsDue (mirror_as es m) m.due

abbrev pub AreMirrored : List Entry → Option OpenMirror → Type 0
AreMirrored es None = Unit {0}
AreMirrored es (Some m) = IsOpenMirror es m

-- a peer is restored strong: a restore in the mirrored cycle gave a handle on it, and that handle is strong in the
-- table now
pub record HasRestoredHandle (s : PeerReplay) (m : Mirror) (p : ℕ) : Type 0 where
  pub handle : ℕ
  pub given : Contains m.renewed handle
  pub strong_now : row_of s handle ≡ Some strong_row
  pub peer : peer_of s.peers.issued handle ≡ Some p

-- each unfreed peer that a mirrored reference leads to, directly or over temporaries, is restored strong
abbrev pub AreTargetsRestored : PeerReplay → Type 0
AreTargetsRestored s = (m : Mirror) → s.mirror ≡ Some m → (p q : ℕ)
    → HasReference s.peers.heap s.refs p q → HasRestoredHandle s m q

-- what a mirrored reference leads to from a peer whose handle was restored is live
abbrev pub AreRestoredEndsLive : PeerReplay → Type 0
AreRestoredEndsLive s = (m : Mirror) (p q : ℕ) → s.mirror ≡ Some m → Refers s.refs p q
    → HasRestoredHandle s m p → IsLive s.peers.heap q

-- the peer is an end of one of these references
abbrev pub HasEnd : List (End × End) → ℕ → Type 0
HasEnd refs p = (e : End) × (Contains refs (node p, e) ⊎ Contains refs (e, node p))

-- the peers that these references have as ends are under strong handles
abbrev pub AreEndsStrong : PeerReplay → List (End × End) → Type 0
AreEndsStrong s refs = (p : ℕ) → HasEnd refs p → Contains (strong_peers s.peers.issued s.table) p

-- an end that a further reference may have: an unfreed peer, or one of so many temporaries
abbrev pub MayStand : Heap → ℕ → End → Type 0
MayStand h temps (node p) = IsLive h p
MayStand h temps (temporary t) = t < temps

-- the temporaries that these references have as ends are among the first so many
abbrev pub AreWithin : ℕ → List (End × End) → Type 0
AreWithin temps refs = (t : ℕ) (e : End) → Contains refs (temporary t, e) ⊎ Contains refs (e, temporary t) → t < temps
