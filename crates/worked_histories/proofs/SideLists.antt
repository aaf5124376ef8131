-- Each side's list passes its own side's test, entry by entry, so each entry may come when it comes.
use Rattle.std.proofs.Common.{◌≡◌, Bool, true, false, ◌&&◌, not, List, [], ◌∷◌, map, refl, sym}
use Rattle.std.specs.List.{list_all}
use Rattle.std.specs.Prelude.{ℕ, nat_le}
use Rattle.joint_machine.specs.declared.names.Thread.{Thread}
use Rattle.joint_machine.specs.declared.names.Thread.TheVariants.{M, P, C}
use Rattle.joint_machine.specs.declared.events.Entry.{Entry}
use Rattle.joint_machine.specs.declared.events.Made.{Made}
use Rattle.joint_machine.specs.Lines.{is_peer_event, is_read}
use Rattle.joint_machine.specs.PinsTold.{is_pinned, bare_told, pins_told, tells_pins, with_pins}
use Rattle.joint_machine.specs.ManagedReplay.{ManagedReplay, opening_replay}
use Rattle.joint_machine.specs.PeerReplay.{PeerReplay, peer_answer}
use Rattle.joint_machine.specs.Sides.{SideRules, IsOfSide, IsOwnLawful, TakesManaged, TakesPeer, managed_rules, peer_rules, LeadsTo}
use Rattle.joint_machine.specs.Told.{Told, Noted}
use Rattle.computed_histories.specs.Histories.{managed_lawful, peer_lawful}
use Rattle.computed_histories.specs.Lines.{is_event}
use Rattle.computed_histories.proofs.Telling.{Tells, all, always, and2, and3, like, refuted, upto, is_true, is_false}
use Rattle.computed_histories.proofs.HistoryTests.{managed_side}
use Rattle.computed_histories.proofs.LineTests.{tells_event}
use Rattle.computed_histories.proofs.ReplyTests.{replies}
use Rattle.computed_histories.proofs.SideTests.{peer}
use Rattle.computed_histories.specs.Lists.{rises}
use Rattle.computed_histories.proofs.Reaching.{rising}
use Rattle.worked_histories.specs.OneObject.{one_object}
use Rattle.worked_histories.specs.SideLists.{managed_notes, peer_notes, state_after, AreTakenFor, IsReplayedBy, adopted_twice, OneObjectSidesHold}

-- each entry of the list passes a test
abbrev leads_by : {S : Type 0} → SideRules S → (S → Made → Told → Bool) → S → List Noted → Bool
leads_by r test s [] = true
leads_by r test s (n ∷ ns) = test s n.entry.made n.told && leads_by r test (r.next s n.entry.made n.told) ns

leads : {S : Type 0} (r : SideRules S) (test : S → Made → Told → Bool) → ((s : S) (m : Made) (told : Told) → Tells (test s m told) (r.lawful s m told))
    → (s : S) (ns : List Noted) → Tells (leads_by r test s ns) (LeadsTo r s ns (state_after r s ns))
leads r test t s [] = always refl
leads r test t s (n ∷ ns) = and2 (t s n.entry.made n.told) (leads r test t (r.next s n.entry.made n.told) ns)

-- the event is one of the managed side, or of the peer side
abbrev of_managed : Made → Bool
of_managed m = is_event m.caller m.op && not (is_peer_event m.caller m.op)

abbrev of_peer : Made → Bool
of_peer m = is_event m.caller m.op && is_peer_event m.caller m.op

is_managed : (m : Made) → Tells (of_managed m) (IsOfSide false m)
is_managed m = like (λ p. record { event = p.0; side = p.1 }) (λ r. (r.event, r.side)) (and2 (tells_event m.caller m.op) (is_false (is_peer_event m.caller m.op)))

is_peer : (m : Made) → Tells (of_peer m) (IsOfSide true m)
is_peer m = like (λ p. record { event = p.0; side = p.1 }) (λ r. (r.event, r.side)) (and2 (tells_event m.caller m.op) (record { holds = λ e. e; passes = λ e. e }))

-- pins are told exactly with a snap and a take
abbrev agree : Bool → Bool → Bool
agree true b = b
agree false b = not b

agrees : (a b : Bool) → Tells (agree a b) (a ≡ b)
agrees true b = like (λ e. sym e) (λ e. sym e) (is_true b)
agrees false b = like (λ e. sym e) (λ e. sym e) (is_false b)

-- an entry of the managed side's own list is lawful with the pins that it is told
abbrev own_lawful : ManagedReplay → Made → Told → Bool
own_lawful s m told = not (is_read m.op) && agree (tells_pins told) (is_pinned m.op) && managed_lawful (with_pins s (pins_told told)) m (bare_told told)

own_side : (s : ManagedReplay) (m : Made) (told : Told) → Tells (own_lawful s m told) (IsOwnLawful s m told)
own_side s m told = like (λ p. record { own = p.0; tells = p.1; lawful = p.2 }) (λ r. (r.own, r.tells, r.lawful))
    (and3 (is_false (is_read m.op)) (agrees (tells_pins told) (is_pinned m.op)) (managed_side (with_pins s (pins_told told)) m (bare_told told)))

abbrev managed_test : ManagedReplay → Made → Told → Bool
managed_test s m told = of_managed m && own_lawful s m told

abbrev peer_test : PeerReplay → Made → Told → Bool
peer_test s m told = of_peer m && peer_lawful s m told

managed_tells : (s : ManagedReplay) (m : Made) (told : Told) → Tells (managed_test s m told) (managed_rules.lawful s m told)
managed_tells s m told = and2 (is_managed m) (own_side s m told)

peer_tells : (s : PeerReplay) (m : Made) (told : Told) → Tells (peer_test s m told) (peer_rules.lawful s m told)
peer_tells s m told = and2 (is_peer m) (like (λ p. record { allowed = p.0; replies = p.1 }) (λ r. (r.allowed, r.replies))
    (and2 (peer s m.caller m.op m.cites told) (replies m.reply (peer_answer s m.caller m.op m.cites told).reply)))

replayed : {S : Type 0} (r : SideRules S) (test : S → Made → Told → Bool) → ((s : S) (m : Made) (told : Told) → Tells (test s m told) (r.lawful s m told)) → (ns : List Noted)
    → rises (map (λ e. e.number) (map (λ n. n.entry) ns)) ≡ true → leads_by r test r.opening ns ≡ true → IsReplayedBy r ns
replayed r test t ns up passes = record { rise = (rising (map (λ e. e.number) (map (λ n. n.entry) ns))).holds up; noted = ns; same = refl; leads = (leads r test t r.opening ns).holds passes }

-- each entry is of a thread whose events the side takes
abbrev taken_test : ℕ → Thread → Bool
taken_test n (M i) = nat_le i n
taken_test n t = true

taken_tells : (n : ℕ) (t : Thread) → Tells (taken_test n t) (TakesManaged n t)
taken_tells n (M i) = upto i n
taken_tells n (P i) = always tt
taken_tells n C = always tt

managed_taken : (n : ℕ) (ns : List Noted) → Tells (list_all (λ (e : Entry). taken_test n e.made.caller) (map (λ (z : Noted). z.entry) ns)) (AreTakenFor managed_rules n ns)
managed_taken n ns = all (map (λ (z : Noted). z.entry) ns) (λ (e : Entry). taken_test n e.made.caller) (λ (e : Entry). TakesManaged n e.made.caller) (λ (e : Entry). taken_tells n e.made.caller)

-- on the peer side peer threads alone are counted
abbrev peer_taken_test : ℕ → Thread → Bool
peer_taken_test n (P i) = nat_le i n
peer_taken_test n t = true

peer_taken_tells : (n : ℕ) (t : Thread) → Tells (peer_taken_test n t) (TakesPeer n t)
peer_taken_tells n (P i) = upto i n
peer_taken_tells n (M i) = always tt
peer_taken_tells n C = always tt

peers_taken : (n : ℕ) (ns : List Noted) → Tells (list_all (λ (e : Entry). peer_taken_test n e.made.caller) (map (λ (z : Noted). z.entry) ns)) (AreTakenFor peer_rules n ns)
peers_taken n ns = all (map (λ (z : Noted). z.entry) ns) (λ (e : Entry). peer_taken_test n e.made.caller) (λ (e : Entry). TakesPeer n e.made.caller) (λ (e : Entry). peer_taken_tells n e.made.caller)

pub one_object-sides : OneObjectSidesHold
one_object-sides = record {
  managed = replayed managed_rules managed_test managed_tells (managed_notes one_object) refl refl;
  peer = replayed peer_rules peer_test peer_tells (peer_notes one_object) refl refl;
  managed_taken = (managed_taken 1 (managed_notes one_object)).holds refl;
  none_taken = refuted (managed_taken 0 (managed_notes one_object)) refl;
  peer_taken = (peers_taken 0 (peer_notes one_object)).holds refl;
  freed = refl;
  queued = refl;
  closed = refl;
  pairs = refl;
  freed_peer = refl;
  table = refl;
  ended = refl;
  cleared = refl;
  adopted_once = λ s l. refuted (leads managed_rules managed_test managed_tells opening_replay adopted_twice) refl (l.0, (l.1.0, refl));
}
