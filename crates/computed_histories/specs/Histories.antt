-- Whether an entry may come next, and whether each entry of a list may come when it comes, by computing; and that the
-- tests tell exactly what the definitions say.
use Rattle.std.specs.Prelude.{◌≡◌, ℕ, ◌+◌, ◌^◌, ◌↔◌, Bool, true, false, ◌&&◌, nat_eq, nat_lt, nat_le, IsTrue, List, []}
use Rattle.std.specs.Prelude.{◌∷◌, length}
use Rattle.std.specs.List.{list_all}
use Rattle.joint_machine.specs.declared.events.Entry.{Entry}
use Rattle.joint_machine.specs.declared.events.Made.{Made}
use Rattle.joint_machine.specs.declared.events.Reply.{Reply}
use Rattle.joint_machine.specs.Control.{last_line}
use Rattle.joint_machine.specs.Managed.{candidates_of}
use Rattle.joint_machine.specs.Histories.{NumberedFrom}
use Rattle.joint_machine.specs.Lines.{is_peer_event}
use Rattle.joint_machine.specs.Linked.{Linkage, linkage_after, MayCome, IsWhole}
use Rattle.joint_machine.specs.Replaying.{AllMayCome}
use Rattle.joint_machine.specs.ManagedReplay.{ManagedReplay, managed_answer}
use Rattle.joint_machine.specs.PeerReplay.{PeerReplay, peer_answer}
use Rattle.joint_machine.specs.Told.{Told, Noted}
use Rattle.computed_histories.specs.Callers.{caller_allows, is_done, is_at_rest}
use Rattle.computed_histories.specs.Lines.{is_event}
use Rattle.computed_histories.specs.Replies.{same_reply}
use Rattle.computed_histories.specs.Sides.{managed_allows, peer_allows}

-- a managed entry, or a peer entry, is lawful
abbrev pub managed_lawful : ManagedReplay → Made → Told → Bool
managed_lawful s m told = managed_allows s m.op told && same_reply m.reply (managed_answer s m.caller m.op told).reply

abbrev pub peer_lawful : PeerReplay → Made → Told → Bool
peer_lawful s m told = peer_allows s m.caller m.op m.cites told && same_reply m.reply
    (peer_answer s m.caller m.op m.cites told).reply

-- the entry's own side finds it lawful
abbrev pub side_lawful : Bool → Linkage → Made → Told → Bool
side_lawful true s m told = peer_lawful s.peer m told
side_lawful false s m told = managed_lawful s.managed m told

-- the entry may come next
abbrev pub may_come : Linkage → Noted → Bool
may_come s n =
    is_event n.entry.made.caller n.entry.made.op
    && nat_le (last_line s.control n.entry.made.caller) n.entry.made.index
    && nat_lt n.entry.made.index (2 ^ 32)
    && side_lawful (is_peer_event n.entry.made.caller n.entry.made.op) s n.entry.made n.told
    && caller_allows s.control s.managed.managed s.peer.peers.issued n.entry.made.caller
    n.entry.made.index n.entry.made.op n.entry.made.reply n.entry.made.cites n.told

-- each entry of the list may come when it comes
abbrev pub all_may_come : Linkage → List Noted → Bool
all_may_come s [] = true
all_may_come s (n ∷ ns) = may_come s n && all_may_come (linkage_after s n) ns

-- the entries have the numbers from n on
abbrev pub is_numbered_from : ℕ → List Entry → Bool
is_numbered_from n [] = true
is_numbered_from n (e ∷ es) = nat_eq e.number n && is_numbered_from (n + 1) es

-- nothing is left half done
abbrev pub is_whole : Linkage → Bool
is_whole s = list_all is_done s.control.doing && is_at_rest s.control.stand (length (candidates_of s.managed.managed))

-- each test tells exactly what its definition says
abbrev pub MayComeIsTested : Type 0
MayComeIsTested = (s : Linkage) (n : Noted) → IsTrue (may_come s n) ↔ MayCome s n

abbrev pub AllMayComeIsTested : Type 0
AllMayComeIsTested = (s : Linkage) (ns : List Noted) → IsTrue (all_may_come s ns) ↔ AllMayCome s ns

abbrev pub NumbersAreTested : Type 0
NumbersAreTested = (n : ℕ) (es : List Entry) → IsTrue (is_numbered_from n es) ↔ NumberedFrom n es

abbrev pub WholeIsTested : Type 0
WholeIsTested = (s : Linkage) → IsTrue (is_whole s) ↔ IsWhole s

abbrev pub RepliesAreTested : Type 0
RepliesAreTested = (a b : Reply) → IsTrue (same_reply a b) ↔ (a ≡ b)
