-- The events that the peer side makes for a thread, one at a time: a step of its peers or handles, or one of the
-- thread's own marking, which may stay open from one line to another: a begin, a slice or a sweep.
use Rattle.std.specs.Prelude.{◌≡◌, ℕ, Option, Some, None}
use Rattle.joint_machine.specs.declared.names.Thread.{Thread}
use Rattle.joint_machine.specs.declared.lines.Act.TheVariants as act
use Rattle.joint_machine.specs.declared.events.Entry.{Entry}
use Rattle.joint_machine.specs.declared.events.Op.{Op}
use Rattle.joint_machine.specs.declared.events.Op.TheVariants as op
use Rattle.joint_machine.specs.Lines.{IsPeerThread, IsPeerAct}
use Rattle.joint_machine.specs.PeerReplay.{PeerReplay, PeerAllows}
use Rattle.joint_machine.specs.Sides.{Side, peer_rules}
use Rattle.joint_machine.specs.Told.{Told, nothing}
use Rattle.order_table.specs.Views.{OrderId, Shown}
use Rattle.peer_heap.specs.Steps.{IsPeerStep}
use Rattle.joint_history.specs.Locked.{Drew}

-- how many peers a slice may blacken; none where the event is no slice
abbrev pub slice_count : Op → Option ℕ
slice_count (op.Line (act.Slice n)) = Some n
slice_count _ = None

-- a caller and an event that the peer side makes for it
abbrev pub IsPeerCall : Thread → Op → Type 0
IsPeerCall t op.Begin = IsPeerThread t
IsPeerCall t op.Sweep = IsPeerThread t
IsPeerCall t (op.Line (act.Slice n)) = IsPeerThread t × IsPeerAct (act.Slice n)
IsPeerCall t o = IsPeerStep t o

-- what the event asks of the state and of what it cites
abbrev pub AllowsCall : PeerReplay → Thread → Op → Option ℕ → Type 0
AllowsCall s t op.Begin cites = cites ≡ None
AllowsCall s t op.Sweep cites = cites ≡ None
AllowsCall s t (op.Line (act.Slice n)) cites = cites ≡ None
AllowsCall s t o cites = PeerAllows s t o cites nothing

-- the side drew one entry by its seat, with something told beside it: what a slice's marking reaches, or the peers that
-- a sweep frees
pub record DrawsEvent (order : OrderId) (seat seat' : Shown) (side side' : Side PeerReplay) (e : Entry) : Type 0 where
  pub told : Told
  pub drew : Drew peer_rules 1 order seat seat' side side' e told
