-- Whose turn it is, by the equation that tells what a thread is in the midst of or where the driver stands: with it the
-- rule computes.
use Rattle.known_laws.proofs.Unpinned.{turn_same}
use Rattle.known_laws.proofs.Moving.{driver_reads}
use Rattle.known_laws.proofs.Coming.{peer_reads_none}
use Rattle.known_laws.proofs.Bared.{plain_told, peer_unpinned}
use Rattle.known_laws.specs.Known.{Comes, given as given_pins}
use Rattle.joint_machine.specs.Run.{thread_number}
use Rattle.joint_machine.specs.Lines.{IsEvent, is_read}
use Rattle.joint_machine.specs.declared.names.Thread.{Thread}
use Rattle.std.proofs.Common.{true, false, true≢false, ◌∙◌, ◌≡◌, ⊎_elim, ℕ, Option, Some, None, refl, sym, subst}
use Rattle.joint_machine.specs.declared.names.Thread.TheVariants.{M, P, C}
use Rattle.joint_machine.specs.declared.events.Op.{Op}
use Rattle.joint_machine.specs.declared.events.Op.TheVariants as op
use Rattle.joint_machine.specs.declared.events.Reply.{Reply}
use Rattle.joint_machine.specs.Control.{Doing, given, met, Stand, doing_at, IsDone, ThreadAllows, DriverAllows, CallerAllows}
use Rattle.joint_machine.specs.Linked.{Linkage, SideLawful, PeerLawful}
use Rattle.joint_machine.specs.Told.{Told, Noted, nothing}
use Rattle.joint_machine.specs.PinsTold.{bare_told, pins_told, tells_pins}
use Rattle.known_laws.specs.Turns.{SideEntryComes, ReaderEntryComes, OpensOperation, ThreadTurn, DriverTurn, ThreadsHaveTurns, DriverHasTurns}

pub side_entry_comes : SideEntryComes
side_entry_comes s number m told line short order stand side = ⊎_elim
    (λ w. subst (λ r. Comes r s n) (sym w.1.own) (record {
      tells = w.1.tells;
      stand = stand;
      comes = record { event = w.0.event; line = line; short = short; lawful = subst (λ b. SideLawful b (given_pins s told) m (bare_told told)) (sym w.0.side) w.1.lawful; order = turn };
    }))
    (λ w.
    let none = peer_reads_none m.caller m.op w.0.event w.0.side in
    let free : tells_pins told ≡ false = peer_unpinned s.peer m told w.1 in
    subst (λ r. Comes r s n) (sym none.0) (record {
      tells = free ∙ sym none.1;
      stand = stand;
      comes = record {
        event = w.0.event;
        line = line;
        short = short;
        lawful = subst (λ b. SideLawful b (given_pins s told) m (bare_told told)) (sym w.0.side) (subst (PeerLawful s.peer m) (sym (plain_told told free)) w.1);
        order = turn;
      };
    }))
    side
  where
    n : Noted
    n = record { entry = record { number = number; made = m }; told = told }

    turn : CallerAllows s.control (given_pins s told).managed.managed s.peer.peers.issued m.caller m.index m.op m.reply m.cites (bare_told told)
    turn = turn_same (pins_told told) s.control s.managed.managed s.peer.peers.issued m.caller m.index m.op m.reply m.cites (bare_told told) order

pub starts : (d : Doing) (t : Thread) (l : ℕ) (o : Op) → OpensOperation o → IsDone d → ThreadAllows d t l o None
starts (given n line h) t l o f w = absurd w
starts (met n line h) t l o f w = absurd w
starts d t l (op.Adopt v kind k p h) f w = absurd f
starts d t l (op.Land h x) f w = absurd f
starts d t l (op.Meet v sort k p h) f w = absurd f
starts d t l (op.Release h) f w = absurd f
starts d t l o f w = refl

-- with the equation put in
doing-put : (s : Linkage) (t line : ℕ) (o : Op) (cites : Option ℕ) (d : Doing) → doing_at s.control t ≡ d → ThreadAllows d (M t) line o cites → ThreadTurn s t line o cites
doing-put s t line o cites d e w = subst (λ z. ThreadAllows z (M t) line o cites) (sym e) w

stand-put : (s : Linkage) (o : Op) (reply : Reply) (cites : Option ℕ) (told : Told) (st : Stand) → s.control.stand ≡ st
    → DriverAllows st s.managed.managed s.peer.peers.issued o reply cites told → DriverTurn s o reply cites told
stand-put s o reply cites told st e w = subst (λ z. DriverAllows z s.managed.managed s.peer.peers.issued o reply cites told) (sym e) w

pub threads_have_turns : ThreadsHaveTurns
threads_have_turns s t = record {
  start = λ line o f w. starts (doing_at s.control t) (M t) line o f w;
  adopt = λ n line p h sort f v kind k e l. doing-put s t line (op.Adopt v kind k p h) (Some n) _ e (refl, refl, refl, refl, l);
  land = λ n line h x e. doing-put s t line (op.Land h x) (Some n) _ e (refl, refl, refl, refl);
  meet = λ n line p h sort f v e. doing-put s t line (op.Meet v sort f p h) (Some n) _ e (refl, refl, refl, refl, refl, refl);
  release_given = λ n line h e. doing-put s t line (op.Release h) (Some n) _ e (refl, refl, refl);
  release_met = λ n line h e. doing-put s t line (op.Release h) (Some n) _ e (refl, refl, refl);
}

pub driver_has_turns : DriverHasTurns
driver_has_turns s = record {
  snap = λ k reply told e. stand-put s (op.Snap k) reply None told _ e refl;
  contract = λ o reply told e. stand-put s (op.Contract record { 0 = o.cycle }) reply None told _ e (refl, refl);
  mirror = λ o comps heavy xrefs reply e. stand-put s (op.Mirror record { 0 = o.cycle }) reply (Some o.snap) _ _ e (refl, refl, refl);
  weaken = λ o count weakened h reply told e c. stand-put s (op.Weaken h) reply (Some o.snap) told _ e (refl, refl, c);
  mark_sweep = λ o weakened reply told e. stand-put s op.Sweep reply None told _ e (refl, refl, refl);
  begin = λ o weakened swept j told e. stand-put s op.Begin _ None told _ e (refl, refl);
  sweep = λ o reply told e. stand-put s op.Sweep reply None told _ e refl;
  restore = λ o answers h reply told e c. stand-put s (op.Restore h) reply None told _ e (refl, c);
  clear = λ o answers reply told e n. stand-put s (op.Clear record { 0 = o.cycle }) reply None told _ e (refl, n, refl);
  resolve = λ o answers clear freed reply e. stand-put s (op.Resolve record { 0 = o.cycle }) reply (Some clear) _ _ e (refl, refl, refl);
  abandon_snapped = λ o reply told e. stand-put s (op.Abandon record { 0 = o.cycle }) reply None told _ e (refl, refl);
  abandon_contracted = λ o comps heavy xrefs reply told e. stand-put s (op.Abandon record { 0 = o.cycle }) reply None told _ e (refl, refl);
  refused = λ w p reply a. (a, refl);
  finalise = λ n reply told a. (a, refl);
}

pub reader_entry_comes : ReaderEntryComes
reader_entry_comes s number m v e line short done cites = subst (λ r. Comes r s n) (sym e) (record { event = v; line = line; short = short; order = by m.caller m.op refl v e done; bare = refl })
  where
    n : Noted
    n = record { entry = record { number = number; made = m }; told = nothing }

    by : (t : Thread) (o : Op) → m.op ≡ o → IsEvent t o → is_read o ≡ true → IsDone (doing_at s.control (thread_number t))
        → CallerAllows s.control s.managed.managed s.peer.peers.issued t m.index m.op m.reply m.cites nothing
    by (M u) (op.Line a) f v e d = subst (λ z. ThreadAllows (doing_at s.control u) (M u) m.index z m.cites)
        (sym f) (subst (ThreadAllows (doing_at s.control u) (M u) m.index (op.Line a)) (sym cites) (starts (doing_at s.control u) (M u) m.index (op.Line a) tt d))
    by (P u) o f v e d = cites
    by C o f v e d = absurd (driver_reads o v e)
    by (M u) o f v e d = absurd (true≢false (sym e))
