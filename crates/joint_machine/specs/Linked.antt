-- Lists of entries in which each may come when it comes: both sides' own lists are lawful, the citations agree, and
-- each caller's events come in their order. Reads are events of the managed side here, as all others are;
-- `LinkedHistories` has the histories, whose reads take no lock.
-- Believed: the clauses of the program's top call rest on all that stands here.
use Rattle.std.specs.Prelude.{◌≡◌, ℕ, ◌<◌, ◌≤◌, ◌^◌, Bool, true, false, length}
use Rattle.joint_machine.specs.declared.events.Made.{Made}
use Rattle.joint_machine.specs.Control.{Control, opening_control, CallerAllows, control_after, last_line, doing_at}
use Rattle.joint_machine.specs.Control.{IsDone, IsAtRest}
use Rattle.joint_machine.specs.Lines.{IsEvent, is_peer_event}
use Rattle.joint_machine.specs.Managed.{candidates_of}
use Rattle.joint_machine.specs.ManagedReplay.{ManagedReplay, opening_replay, managed_answer, ManagedAllows}
use Rattle.joint_machine.specs.PeerReplay.{PeerReplay, opening_peer_replay, peer_answer, PeerAllows}
use Rattle.joint_machine.specs.Told.{Told, Noted}

-- both sides' replays and the callers' control
pub record Linkage : Type 0 where
  pub managed : ManagedReplay
  pub peer : PeerReplay
  pub control : Control

-- before the first entry
abbrev pub opening_linkage : Linkage
opening_linkage = record { managed = opening_replay; peer = opening_peer_replay; control = opening_control }

-- a managed entry is lawful: what it asks for holds, and its reply is the replay's
pub record ManagedLawful (s : ManagedReplay) (m : Made) (told : Told) : Type 0 where
  pub allowed : ManagedAllows s m.op told
  pub replies : m.reply ≡ (managed_answer s m.caller m.op told).reply

-- a peer entry is lawful: what it asks for holds, and its reply is the replay's
pub record PeerLawful (s : PeerReplay) (m : Made) (told : Told) : Type 0 where
  pub allowed : PeerAllows s m.caller m.op m.cites told
  pub replies : m.reply ≡ (peer_answer s m.caller m.op m.cites told).reply

-- the entry's own side finds it lawful
abbrev pub SideLawful : Bool → Linkage → Made → Told → Type 0
SideLawful true s m told = PeerLawful s.peer m told
SideLawful false s m told = ManagedLawful s.managed m told

-- the entry may come next, whatever its number; its line is a number of 32 bits
pub record MayCome (s : Linkage) (n : Noted) : Type 0 where
  pub event : IsEvent n.entry.made.caller n.entry.made.op
  pub line : last_line s.control n.entry.made.caller ≤ n.entry.made.index
  pub short : n.entry.made.index < 2 ^ 32
  pub lawful : SideLawful (is_peer_event n.entry.made.caller n.entry.made.op) s n.entry.made n.told
  pub order : CallerAllows s.control s.managed.managed s.peer.peers.issued n.entry.made.caller
      n.entry.made.index n.entry.made.op n.entry.made.reply n.entry.made.cites n.told

-- the sides after an entry: its own side moves, the other stays
abbrev pub managed_after : ManagedReplay → Made → Told → Bool → ManagedReplay
managed_after s m told true = s
managed_after s m told false = (managed_answer s m.caller m.op told).state

abbrev pub peer_after : PeerReplay → Made → Told → Bool → PeerReplay
peer_after s m told true = (peer_answer s m.caller m.op m.cites told).state
peer_after s m told false = s

-- the state after an entry
abbrev pub linkage_after : Linkage → Noted → Linkage
linkage_after s n = record {
  managed = managed_after s.managed n.entry.made n.told (is_peer_event n.entry.made.caller n.entry.made.op);
  peer = peer_after s.peer n.entry.made n.told (is_peer_event n.entry.made.caller n.entry.made.op);
  control = control_after s.control n.entry.made.caller n.entry.number
      n.entry.made.index n.entry.made.op n.entry.made.reply n.told;
}

-- no handle waits for its release, and the driver is at rest (a make, a lend or a grip may stand alone, as an operation
-- that found no memory leaves it)
pub record IsWhole (s : Linkage) : Type 0 where
  pub threads : (t : ℕ) → IsDone (doing_at s.control t)
  pub driver : IsAtRest s.control.stand (length (candidates_of s.managed.managed))
