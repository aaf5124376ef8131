-- The test of the next entry tells what the definition says, part by part, and so does that of a list of entries.
use Rattle.std.proofs.Common.{◌≡◌, ℕ, ◌+◌, ◌^◌, Bool, true, false, List, [], ◌∷◌, length, map, refl, ap}
use Rattle.joint_machine.specs.declared.events.Entry.{Entry}
use Rattle.joint_machine.specs.declared.events.Made.{Made}
use Rattle.joint_machine.specs.Control.{last_line}
use Rattle.joint_machine.specs.Managed.{candidates_of}
use Rattle.joint_machine.specs.Histories.{managed_numbers, peer_numbers, NumberedFrom}
use Rattle.joint_machine.specs.Lines.{is_peer_event}
use Rattle.joint_machine.specs.Linked.{Linkage, linkage_after, ManagedLawful, PeerLawful, SideLawful, MayCome, IsWhole}
use Rattle.joint_machine.specs.Replaying.{AllMayCome}
use Rattle.joint_machine.specs.ManagedReplay.{ManagedReplay, managed_answer}
use Rattle.joint_machine.specs.PeerReplay.{PeerReplay, peer_answer}
use Rattle.joint_machine.specs.Told.{Told, Noted}
use Rattle.computed_histories.specs.Histories.{managed_lawful, peer_lawful, side_lawful, may_come, all_may_come, is_numbered_from, is_whole, MayComeIsTested, AllMayComeIsTested, NumbersAreTested}
use Rattle.computed_histories.specs.Histories.{WholeIsTested, RepliesAreTested}
use Rattle.computed_histories.proofs.Telling.{Tells, tested, always, like, and2, and5, same, less, upto}
use Rattle.computed_histories.proofs.ReplyTests.{replies}
use Rattle.computed_histories.proofs.LineTests.{tells_event}
use Rattle.computed_histories.proofs.SideTests.{managed, peer}
use Rattle.computed_histories.proofs.CallerTests.{caller, at_rest, all_done}

pub managed_side : (s : ManagedReplay) (m : Made) (told : Told) → Tells (managed_lawful s m told) (ManagedLawful s m told)
managed_side s m told = like (λ p. record { allowed = p.0; replies = p.1 }) (λ r. (r.allowed, r.replies)) (and2 (managed s m.op told) (replies m.reply (managed_answer s m.caller m.op told).reply))

peer_side : (s : PeerReplay) (m : Made) (told : Told) → Tells (peer_lawful s m told) (PeerLawful s m told)
peer_side s m told = like (λ p. record { allowed = p.0; replies = p.1 }) (λ r. (r.allowed, r.replies))
    (and2 (peer s m.caller m.op m.cites told) (replies m.reply (peer_answer s m.caller m.op m.cites told).reply))

side : (b : Bool) (s : Linkage) (m : Made) (told : Told) → Tells (side_lawful b s m told) (SideLawful b s m told)
side true s m told = peer_side s.peer m told
side false s m told = managed_side s.managed m told

pub comes : (s : Linkage) (n : Noted) → Tells (may_come s n) (MayCome s n)
comes s n = like
    (λ p. record { event = p.0; line = p.1; short = p.2; lawful = p.3; order = p.4 })
    (λ r. (r.event, r.line, r.short, r.lawful, r.order))
    (and5 (tells_event n.entry.made.caller n.entry.made.op) (upto (last_line s.control n.entry.made.caller) n.entry.made.index) (less n.entry.made.index (2 ^ 32))
    (side (is_peer_event n.entry.made.caller n.entry.made.op) s n.entry.made n.told)
    (caller s.control s.managed.managed s.peer.peers.issued n.entry.made.caller n.entry.made.index n.entry.made.op n.entry.made.reply n.entry.made.cites n.told))

pub all_come : (s : Linkage) (ns : List Noted) → Tells (all_may_come s ns) (AllMayCome s ns)
all_come s [] = always tt
all_come s (n ∷ ns) = and2 (comes s n) (all_come (linkage_after s n) ns)

pub numbered : (n : ℕ) (es : List Entry) → Tells (is_numbered_from n es) (NumberedFrom n es)
numbered n [] = always tt
numbered n (e ∷ es) = and2 (same e.number n) (numbered (n + 1) es)

pub whole : (s : Linkage) → Tells (is_whole s) (IsWhole s)
whole s = like (λ p. record { threads = p.0; driver = p.1 }) (λ r. (r.threads, r.driver)) (and2 (all_done s.control.doing) (at_rest s.control.stand (length (candidates_of s.managed.managed))))

-- as the contracts state it
pub may_come_tested : MayComeIsTested
may_come_tested s n = tested (comes s n)

pub all_may_come_tested : AllMayComeIsTested
all_may_come_tested s ns = tested (all_come s ns)

pub numbers_tested : NumbersAreTested
numbers_tested n es = tested (numbered n es)

pub whole_tested : WholeIsTested
whole_tested s = tested (whole s)

pub replies_tested : RepliesAreTested
replies_tested a b = tested (replies a b)

-- numbers of freed rows and peers, and of notices
pub mapped_m : (xs : List ℕ) → managed_numbers (map (λ m. record { 0 = m }) xs) ≡ xs
mapped_m [] = refl
mapped_m (x ∷ xs) = ap (λ rest. x ∷ rest) (mapped_m xs)

pub mapped_p : (xs : List ℕ) → peer_numbers (map (λ p. record { 0 = p }) xs) ≡ xs
mapped_p [] = refl
mapped_p (x ∷ xs) = ap (λ rest. x ∷ rest) (mapped_p xs)

-- a list that passes the test is lawful
pub lawful : (s : Linkage) (ns : List Noted) → all_may_come s ns ≡ true → AllMayCome s ns
lawful s ns e = (all_come s ns).holds e
