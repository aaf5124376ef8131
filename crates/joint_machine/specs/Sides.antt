-- One form of contract for both sides of the bridge: what a side is seen as, what its own list of entries may be, what
-- a call that makes entries asks of the draw, and what it promises. What a side has beside its list and its state, as
-- room that was reserved, stands beside this as numbers.
use Rattle.std.specs.Prelude.{◌≡◌, ℕ, ◌+◌, ◌≤◌, ◌↔◌, All, IsTrue, Bool, true, false, List, [], ◌∷◌, length, map, Option}
use Rattle.std.specs.Prelude.{Some, None}
use Rattle.joint_machine.specs.declared.names.MNum.{MNum}
use Rattle.joint_machine.specs.declared.names.Thread.{Thread}
use Rattle.joint_machine.specs.declared.names.Thread.TheVariants.{M, P}
use Rattle.joint_machine.specs.declared.lines.Act.TheVariants as act
use Rattle.joint_machine.specs.declared.events.Entry.{Entry}
use Rattle.joint_machine.specs.declared.events.Made.{Made}
use Rattle.joint_machine.specs.declared.events.Op.{Op}
use Rattle.joint_machine.specs.declared.events.Op.TheVariants as op
use Rattle.joint_machine.specs.declared.events.Reply.{Reply}
use Rattle.joint_machine.specs.declared.events.Reply.TheVariants as says
use Rattle.joint_machine.specs.Components.{Rises}
use Rattle.joint_machine.specs.Draws.{Adds, AllBelow, Drawing}
use Rattle.joint_machine.specs.Heaps.{IsLive, place, slot}
use Rattle.joint_machine.specs.Lines.{IsEvent, is_peer_event, is_read}
use Rattle.joint_machine.specs.PinsTold.{is_pinned, bare_told, no_pins, pins_told, tells_pins, with_pins}
use Rattle.joint_machine.specs.Linked.{ManagedLawful, PeerLawful}
use Rattle.joint_machine.specs.ManagedReplay.{ManagedReplay, opening_replay, managed_answer}
use Rattle.joint_machine.specs.PeerReplay.{PeerReplay, opening_peer_replay, peer_answer}
use Rattle.joint_machine.specs.Run.{thread_number}
use Rattle.joint_machine.specs.Told.{Told, snap_of, resolution_of, Noted}
use Rattle.joint_machine.specs.Numbers.{u32_max}

-- a side: for how many threads of its heap it was made, its entries, and the state of its replay after them
pub record Side (S : Type 0) : Type 0 where
  pub threads : ℕ
  pub entries : List Entry
  pub state : S

-- the definition of one side's list: the state before the first entry; which entry may come next, with what is told
-- beside it, and the state after it; of which threads a side that was made for so many takes events; the object to
-- which an event may set a cell, the one to which an entry sets it, and the managed objects that an entry frees
pub record SideRules (S : Type 0) : Type 1 where
  pub opening : S
  pub lawful : S → Made → Told → Type 0
  pub next : S → Made → Told → S
  pub takes : ℕ → Thread → Type 0
  pub may_target : S → Op → MNum → Type 0
  pub target : S → Made → Option MNum
  pub frees : Told → List MNum

-- the event is one that a history can have, and is made on this side: the peer side or the managed one
pub record IsOfSide (is_peer : Bool) (m : Made) : Type 0 where
  pub event : IsEvent m.caller m.op
  pub side : is_peer_event m.caller m.op ≡ is_peer

-- of the threads of its own heap, which are numbered from 1, a side takes those alone for which it was made. It always
-- takes the driver, and the peer side the managed threads, which make some of their events there.
abbrev pub TakesManaged : ℕ → Thread → Type 0
TakesManaged n (M i) = i ≤ n
TakesManaged n t = Unit {0}

abbrev pub TakesPeer : ℕ → Thread → Type 0
TakesPeer n (P i) = i ≤ n
TakesPeer n t = Unit {0}

-- a `weak` may set its cell to any live object, unless the cell was ever set
abbrev pub MaySetCell : ManagedReplay → Op → MNum → Type 0
MaySetCell s (op.Line (act.Weak k v)) m = (slot s.managed.cells k.0 ≡ None) × IsLive s.managed.heap m.0
MaySetCell s o m = ⊥

-- the object as an option of a number
abbrev pub object_or_none : Option ℕ → Option MNum
object_or_none None = None
object_or_none (Some x) = Some record { 0 = x }

-- a `weak` that answers ok sets its cell to V's object
abbrev pub cell_target : ManagedReplay → Thread → Op → Reply → Option MNum
cell_target s t (op.Line (act.Weak k v)) says.Ok = object_or_none
    (slot s.managed.heap.vars (place (thread_number t) v.0))
cell_target s t o reply = None

-- a snap and a resolve free the managed objects that are told
abbrev pub objects_freed : Told → List MNum
objects_freed (snap_of freed candidates dead) = map (λ x. record { 0 = x }) freed
objects_freed (resolution_of answers freed) = map (λ x. record { 0 = x }) freed
objects_freed told = []

-- an entry of the managed side's list: no read, whose pins are the readers'; the pins that were given to a snap or a
-- `take` are told with it, and with them in the state it is lawful
pub record IsOwnLawful (s : ManagedReplay) (m : Made) (told : Told) : Type 0 where
  pub own : is_read m.op ≡ false
  pub tells : tells_pins told ≡ is_pinned m.op
  pub lawful : ManagedLawful (with_pins s (pins_told told)) m (bare_told told)

-- the managed side's list: the state has no pins between its entries
abbrev pub managed_rules : SideRules ManagedReplay
managed_rules = record {
  opening = opening_replay;
  lawful = λ s m told. IsOfSide false m × IsOwnLawful s m told;
  next = λ s m told. with_pins (managed_answer (with_pins s (pins_told told)) m.caller m.op (bare_told told)).state
      no_pins;
  takes = TakesManaged;
  may_target = MaySetCell;
  target = λ s m. cell_target s m.caller m.op m.reply;
  frees = λ told. objects_freed (bare_told told);
}

-- the peer side's list: its entries set no cell and free no managed object
abbrev pub peer_rules : SideRules PeerReplay
peer_rules = record {
  opening = opening_peer_replay;
  lawful = λ s m told. IsOfSide true m × PeerLawful s m told;
  next = λ s m told. (peer_answer s m.caller m.op m.cites told).state;
  takes = TakesPeer;
  may_target = λ s o m. ⊥;
  target = λ s m. None;
  frees = λ told. [];
}

-- what an event makes, by its caller and the script line, its operation, its reply, and the entry that it cites
abbrev pub step_made : Thread → ℕ → Op → Reply → Option ℕ → Made
step_made t index o reply cites = record { caller = t; index = index; op = o; reply = reply; cites = cites }

-- the entry may come next, and the state is the one after it
pub record GoesOn {S : Type 0} (r : SideRules S) (old : S) (m : Made) (told : Told) (new : S) : Type 0 where
  pub lawful : r.lawful old m told
  pub state : new ≡ r.next old m told

-- the list is lawful, and leads from one state to another: each entry may come when it comes
abbrev pub LeadsTo : {S : Type 0} → SideRules S → S → List Noted → S → Type 0
LeadsTo r s [] t = t ≡ s
LeadsTo r s (n ∷ ns) t = r.lawful s n.entry.made n.told × LeadsTo r (r.next s n.entry.made n.told) ns t

-- a side's state is the replay of its entries: their numbers rise, a lawful list has these entries, and the state is
-- the one after it
pub record IsReplayed {S : Type 0} (r : SideRules S) (entries : List Entry) (state : S) : Type 0 where
  pub rise : Rises (map (λ e. e.number) entries)
  pub noted : List Noted
  pub same : map (λ n. n.entry) noted ≡ entries
  pub leads : LeadsTo r r.opening noted state

-- each entry is of a thread whose events a side takes that was made for so many
abbrev pub AreTaken : {S : Type 0} → SideRules S → ℕ → List Entry → Type 0
AreTaken r threads entries = All (λ e. r.takes threads e.made.caller) entries

-- what a call asks for each event that it makes: the side takes the caller's events; and of the draw, that each number
-- of the side's list lies below the floor, the list can be filled, and the caller may draw for the event, also with
-- each object to which it may set a cell
pub record MayDraw {S D : Type 0} (r : SideRules S) (d : Drawing D)
    (draw : D) (s : Side S) (t : Thread) (o : Op) : Type 0 where
  pub takes : r.takes s.threads t
  pub below : AllBelow s.entries (d.floor draw)
  pub room : u32_max ≤ d.left draw + length s.entries
  pub bare : d.may draw t o None
  pub targets : (m : MNum) → r.may_target s.state o m → d.may draw t o (Some m)

-- what a call promises of the draw: what was made was drawn, with a number that isn't below the floor, and put last,
-- and nothing else was drawn; what was asked for the list holds again, and no peer event became more or less allowed
pub record DrawsLast {D : Type 0} (d : Drawing D) (before after : D) (old new : List Entry)
    (m : Made) (target : Option MNum) (freed : List MNum) : Type 0 where
  pub adds : Adds d.drew before after old new m target freed
  pub above : d.floor before ≤ adds.number
  pub below : AllBelow new (d.floor after)
  pub room : u32_max ≤ d.left after + length new
  pub may : (t : Thread) (o : Op) → IsTrue (is_peer_event t o) → (d.may before t o None ↔ d.may after t o None)

-- one entry: what was made was drawn and put last, it may come next, and the state is the one after it; the side is for
-- as many threads as before
pub record AddsLawful {S D : Type 0} (r : SideRules S) (d : Drawing D)
    (before after : D) (old new : Side S) (m : Made) (told : Told) : Type 0 where
  pub draws : DrawsLast d before after old.entries new.entries m (r.target old.state m) (r.frees told)
  pub goes : GoesOn r old.state m told new.state
  pub threads : new.threads ≡ old.threads

-- an entry that a call makes, without its number, and what is told beside it
pub record Making : Type 0 where
  pub made : Made
  pub told : Told

-- one entry after another, and nothing else was drawn. With none, as after a refusal, the draw and the side are as
-- before.
abbrev pub AddsInTurn : {S D : Type 0} → SideRules S → Drawing D → D → D → Side S → Side S → List Making → Type 0
AddsInTurn r d before after old new [] = (after ≡ before) × (new ≡ old)
AddsInTurn {S} {D} r d before after old new (m ∷ ms) = (draw : D) × (side : Side S)
    × AddsLawful r d before draw old side m.made m.told × AddsInTurn r d draw after side new ms
