-- The peer side after the entries of a list.
-- Believed: the clauses of the program's top call rest on all that stands here.
use Rattle.std.specs.Prelude.{List}
use Rattle.joint_machine.specs.Linked.{opening_linkage}
use Rattle.joint_machine.specs.PeerReplay.{PeerReplay}
use Rattle.joint_machine.specs.Readers.{replayed_reading}
use Rattle.joint_machine.specs.Told.{Noted}

-- the peer side after all entries of a list
abbrev pub peers_after : List Noted → PeerReplay
peers_after noted = (replayed_reading opening_linkage noted).peer
