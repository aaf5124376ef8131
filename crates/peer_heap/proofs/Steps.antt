-- A call's entry may come next, and keeps what holds of the side. The rows did the event of the replay, so the entry
-- has the replay's reply and the state is the one after it; its number lies above those before it; and every event of a
-- lawful list but a mirror leads from a state that is kept to one that is.
use Rattle.std.proofs.Common.{◌≡◌, ℕ, ◌+◌, ◌<◌, ◌≤◌, List, [], ◌∷◌, ◌++◌, Option, Some, None, true, refl, sym, ap, subst, arith}
use Rattle.std.proofs.lemmas.List.Elements.{All-weaker}
use Rattle.joint_machine.specs.declared.names.Thread.{Thread}
use Rattle.joint_machine.specs.declared.names.Thread.TheVariants.{M, P, C}
use Rattle.joint_machine.specs.declared.lines.Act.{Act}
use Rattle.joint_machine.specs.declared.lines.Act.TheVariants as act
use Rattle.joint_machine.specs.declared.events.Entry.{Entry}
use Rattle.joint_machine.specs.declared.events.Made.{Made}
use Rattle.joint_machine.specs.declared.events.Op.{Op}
use Rattle.joint_machine.specs.declared.events.Op.TheVariants as op
use Rattle.joint_machine.specs.declared.events.Reply.{Reply}
use Rattle.joint_machine.specs.declared.events.Reply.TheVariants as says
use Rattle.joint_machine.specs.Draws.{AllBelow, numbered}
use Rattle.joint_machine.specs.Heaps.{Answered, answer, numbered_at}
use Rattle.joint_machine.specs.Lines.{IsEvent, is_peer_event, IsOneEvent}
use Rattle.joint_machine.specs.PeerReplay.{PeerReplay, PeerAllows, TableRow, peer_answer}
use Rattle.joint_machine.proofs.Deciding.{none_some}
use Rattle.joint_machine.specs.Sides.{IsOfSide, GoesOn, IsReplayed, peer_rules}
use Rattle.joint_machine.specs.Told.{Told, nothing}
use Rattle.joint_machine.proofs.SideLists.{IsReplayed-push}
use Rattle.joint_laws.specs.PeerInvariants.{PeerInvariant}
use Rattle.joint_laws.proofs.PeerEntries.{MirrorsSafely, PeerInvariant-step}
use Rattle.peer_heap.specs.Rows.{marking_by, marking_after}
use Rattle.peer_heap.specs.Steps.{IsRelease, IsPeerStep, IsStepLine, ReleasesTabled, room_for}

-- the numbers of a list stay below a larger number
pub AllBelow-more : (es : List Entry) (a b : ℕ) → a ≤ b → AllBelow es a → AllBelow es b
AllBelow-more es a b le below = All-weaker (λ e. e.number < a) (λ e. e.number < b) (λ e h. omega arith) es below

-- a step's line is one event
one-event : (a : Act) → IsStepLine a → IsOneEvent a
one-event (act.NewPeer v n) w = tt
one-event (act.Copy v w') w = tt
one-event (act.Set v i w') w = tt
one-event (act.Get v w' i) w = tt
one-event (act.Drop v) w = tt
one-event (act.Load v x) w = tt
one-event (act.Store x v) w = tt
one-event (act.Global g v) w = tt
one-event (act.WGlobal g v) w = tt
one-event (act.UnGlobal g) w = tt
one-event (act.New v k n) w = absurd w
one-event (act.Bridge v k n s f) w = absurd w
one-event (act.Weak k v) w = absurd w
one-event (act.Read k) w = absurd w
one-event (act.Await k) w = absurd w
one-event (act.Take v) w = absurd w
one-event (act.Pass v x) w = absurd w
one-event (act.Surface v x) w = absurd w
one-event (act.Dispose v) w = absurd w
one-event (act.Handle v) w = absurd w
one-event (act.WRead v g) w = tt
one-event act.Collect w = absurd w
one-event act.BeginMark w = absurd w
one-event (act.Slice n) w = absurd w
one-event act.SweepMark w = absurd w
one-event (act.PhaseLine w') w = absurd w
one-event (act.Finalise n) w = absurd w

-- a step's event is one of the peer side
pub step-side : (m : Made) (t : Thread) (o : Op) → m.caller ≡ t → m.op ≡ o → IsPeerStep t o → IsOfSide true m
step-side m t o c e w = record {
  event = rw (c, e) (event t o w);
  side = rw (c, e) (side t o w);
}
  where
    event : (t : Thread) (o : Op) → IsPeerStep t o → IsEvent t o
    event (P n) (op.Line a) w = ((w.0, w.1), one-event a w.2)
    event (M n) (op.Line a) w = absurd w.0
    event C (op.Line a) w = absurd w.0
    event t (op.Release h) w = w
    event t (op.Make s n) w = w
    event t (op.Adopt v k n p h) w = absurd w
    event t (op.Lend v x) w = absurd w
    event t (op.Land h x) w = w
    event t (op.Grip x) w = w
    event t (op.Meet v s n p h) w = absurd w
    event t (op.Give v) w = absurd w
    event t (op.Snap k) w = absurd w
    event t (op.Contract k) w = absurd w
    event t (op.Mirror k) w = absurd w
    event t (op.Weaken h) w = absurd w
    event t op.Begin w = absurd w
    event t op.Sweep w = absurd w
    event t (op.Restore h) w = absurd w
    event t (op.Clear k) w = absurd w
    event t (op.Resolve k) w = absurd w
    event t (op.Abandon k) w = absurd w
    event t (op.Refused w') w = absurd w

    side : (t : Thread) (o : Op) → IsPeerStep t o → is_peer_event t o ≡ true
    side (P n) (op.Line a) w = refl
    side (M n) (op.Line a) w = absurd w.0
    side C (op.Line a) w = absurd w.0
    side t (op.Release h) w = refl
    side t (op.Make s n) w = refl
    side t (op.Adopt v k n p h) w = absurd w
    side t (op.Lend v x) w = absurd w
    side t (op.Land h x) w = refl
    side t (op.Grip x) w = refl
    side t (op.Meet v s n p h) w = absurd w
    side t (op.Give v) w = absurd w
    side t (op.Snap k) w = absurd w
    side t (op.Contract k) w = absurd w
    side t (op.Mirror k) w = absurd w
    side t (op.Weaken h) w = absurd w
    side t op.Begin w = absurd w
    side t op.Sweep w = absurd w
    side t (op.Restore h) w = absurd w
    side t (op.Clear k) w = absurd w
    side t (op.Resolve k) w = absurd w
    side t (op.Abandon k) w = absurd w
    side t (op.Refused w') w = absurd w

-- where nothing is told no mirror comes to stand
pub safe-nothing : (s : PeerReplay) (o : Op) → MirrorsSafely s o nothing
safe-nothing s (op.Line a) = tt
safe-nothing s (op.Release h) = tt
safe-nothing s (op.Make sort n) = tt
safe-nothing s (op.Adopt v k n p h) = tt
safe-nothing s (op.Lend v x) = tt
safe-nothing s (op.Land h x) = tt
safe-nothing s (op.Grip x) = tt
safe-nothing s (op.Meet v sort n p h) = tt
safe-nothing s (op.Give v) = tt
safe-nothing s (op.Snap k) = tt
safe-nothing s (op.Contract k) = tt
safe-nothing s (op.Mirror k) = tt
safe-nothing s (op.Weaken h) = tt
safe-nothing s op.Begin = tt
safe-nothing s op.Sweep = tt
safe-nothing s (op.Restore h) = tt
safe-nothing s (op.Clear k) = tt
safe-nothing s (op.Resolve k) = tt
safe-nothing s (op.Abandon k) = tt
safe-nothing s (op.Refused w) = tt

-- the event is the replay's
pub goes-told : (s t : PeerReplay) (m : Made) (told : Told) → IsOfSide true m → PeerAllows s m.caller m.op m.cites told
    → peer_answer s m.caller m.op m.cites told ≡ answer m.reply t → GoesOn peer_rules s m told t
goes-told s t m told side allowed e = record {
  lawful = (side, record { allowed = allowed; replies = sym (ap (λ (a : Answered PeerReplay). a.reply) e) });
  state = sym (ap (λ (a : Answered PeerReplay). a.state) e);
}

pub goes-step : (s t : PeerReplay) (m : Made) → IsOfSide true m → PeerAllows s m.caller m.op m.cites nothing
    → peer_answer s m.caller m.op m.cites nothing ≡ answer m.reply t → GoesOn peer_rules s m nothing t
goes-step s t m side allowed e = goes-told s t m nothing side allowed e

-- the side stays the replay of its entries
pub replayed-told : (es es' : List Entry) (old new : PeerReplay) (k floor : ℕ) (m : Made) (told : Told) → AllBelow es floor → floor ≤ k
    → es' ≡ es ++ numbered k m ∷ [] → GoesOn peer_rules old m told new → IsReplayed peer_rules es old → IsReplayed peer_rules es' new
replayed-told es es' old new k floor m told below above added goes replayed = IsReplayed-push peer_rules es es' old new k m told (AllBelow-more es floor k above below) added goes replayed

-- and its state is kept
pub kept-told : (s t : PeerReplay) (m : Made) (told : Told) → GoesOn peer_rules s m told t → MirrorsSafely s m.op told → PeerInvariant s → PeerInvariant t
kept-told s t m told goes safe kept = subst PeerInvariant (sym goes.state) (PeerInvariant-step s m.caller m.op m.cites told kept goes.lawful.1.allowed safe)

pub kept-step : (s t : PeerReplay) (m : Made) → GoesOn peer_rules s m nothing t → PeerInvariant s → PeerInvariant t
kept-step s t m goes kept = kept-told s t m nothing goes (safe-nothing s m.op) kept

-- a row that the replay finds stands in the table
pub row-tabled : (o : Option (Option TableRow)) (row : TableRow) → elim o [ None ↦ None | Some r ↦ r ] ≡ Some row → o ≡ Some (Some row)
row-tabled None row e = absurd (none_some row e)
row-tabled (Some None) row e = absurd (none_some row e)
row-tabled (Some (Some r)) row e = ap (λ z. Some z) e

-- a release that may come names a handle of the table
pub releases-tabled : (s : PeerReplay) (t : Thread) (o : Op) (cites : Option ℕ) → PeerAllows s t o cites nothing → ReleasesTabled s.table o
releases-tabled s t (op.Line a) cites allowed = tt
releases-tabled s t (op.Release h) cites allowed = (allowed.row, row-tabled (numbered_at s.table h.0) allowed.row allowed.tabled)
releases-tabled s t (op.Make sort n) cites allowed = tt
releases-tabled s t (op.Adopt v k n p h) cites allowed = tt
releases-tabled s t (op.Lend v x) cites allowed = tt
releases-tabled s t (op.Land h x) cites allowed = tt
releases-tabled s t (op.Grip x) cites allowed = tt
releases-tabled s t (op.Meet v sort n p h) cites allowed = tt
releases-tabled s t (op.Give v) cites allowed = tt
releases-tabled s t (op.Snap k) cites allowed = tt
releases-tabled s t (op.Contract k) cites allowed = tt
releases-tabled s t (op.Mirror k) cites allowed = tt
releases-tabled s t (op.Weaken h) cites allowed = tt
releases-tabled s t op.Begin cites allowed = tt
releases-tabled s t op.Sweep cites allowed = tt
releases-tabled s t (op.Restore h) cites allowed = tt
releases-tabled s t (op.Clear k) cites allowed = tt
releases-tabled s t (op.Resolve k) cites allowed = tt
releases-tabled s t (op.Abandon k) cites allowed = tt
releases-tabled s t (op.Refused w) cites allowed = tt

-- where no marking is open none is after an event
none-brought : (r : Reply) → marking_by None r ≡ None
none-brought (says.P p) = refl
none-brought _ = refl

-- where no marking is open none is after an event
pub no-marking : (o : Op) (r : Reply) → marking_after None o r ≡ None
no-marking (op.Line (act.WRead v g)) r = none-brought r
no-marking (op.Land h x) r = none-brought r
no-marking _ r = refl

-- what an event wants where there is more to be kept
pub room-more : (o : Op) (n k : ℕ) → room_for o (n + k) ≡ room_for o n + k
room-more (op.Release h) n k = refl
room-more _ n k = omega arith

pub room-two : (o : Op) (n : ℕ) → (IsRelease o → ⊥) → room_for o n ≡ n + 2
room-two (op.Release h) n kept = absurd (kept tt)
room-two _ n kept = refl
