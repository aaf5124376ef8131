-- An entry of the driver under the peer lock: the driver stands in what is known together where its own seat has it;
-- and after the entry it stands where the definition puts it, and its cycle's dead part is the same, since a peer entry
-- leaves the managed objects alone.
use Rattle.std.proofs.Common.{◌≡◌, ℕ, ◌<◌, ◌≤◌, ◌^◌, List, sym, ap, ◌∙◌, subst, arith}
use Rattle.joint_machine.specs.declared.names.Thread.TheVariants.{C}
use Rattle.joint_machine.specs.declared.events.Entry.{Entry}
use Rattle.joint_machine.specs.Control.{Stand, DriverAllows, last_line, stand_after}
use Rattle.joint_machine.specs.Lines.{is_read}
use Rattle.joint_machine.specs.Linked.{Linkage}
use Rattle.joint_machine.specs.Managed.{Managed}
use Rattle.joint_machine.specs.ManagedReplay.{ManagedReplay}
use Rattle.joint_machine.specs.PeerReplay.{PeerReplay}
use Rattle.joint_machine.specs.Sides.{Side, peer_rules, GoesOn}
use Rattle.joint_machine.specs.Told.{Told, Noted}
use Rattle.joint_machine.specs.PinsTold.{bare_told}
use Rattle.known_laws.specs.Driving.{PastInvariant}
use Rattle.known_laws.specs.Known.{Comes, managed_past}
use Rattle.known_laws.specs.PastEntries.{TellsPlainly}
use Rattle.known_laws.proofs.Bared.{peer_unpinned, plain_told}
use Rattle.known_laws.proofs.Coming.{peer_reads_none}
use Rattle.known_laws.specs.Pasts.{HasSameDeadPart, end_of}
use Rattle.known_laws.proofs.KnownPasts.{past_invariant_holds}
use Rattle.order_table.specs.declared.views.View.{View}
use Rattle.order_table.specs.Views.{OrderId, Shown, Owns}
use Rattle.joint_history.proofs.KnownViews.{same_view}
use Rattle.joint_history.specs.Callers.{HoldsPass}
use Rattle.joint_history.specs.Driven.{DriverMakes, DriverStands}
use Rattle.joint_history.specs.Knowing.{note_of}
use Rattle.joint_history.specs.Locked.{Drew, PeerKnows}
use Rattle.seat_calls.specs.Passing.{Lends, Returns}
use Rattle.joint_history.proofs.DriverSteps.{driver_joined, stand_of_own}
use Rattle.joint_history.proofs.LockedSteps.{did_by, lent_joined, peer_side, MayNow}
use Rattle.joint_history.proofs.Standing.{last_of_own}

-- what holds under the lock: the driver stands so in a state that has all that every known past keeps, and whose peer
-- side is this one
pub record IsUnderPeers (side : PeerReplay) (stand : Stand) (seen : Managed) : Type 0 where
  pub state : Linkage
  pub kept : PastInvariant state
  pub peer : state.peer ≡ side
  pub stood : state.control.stand ≡ stand
  pub dead : HasSameDeadPart seen state.managed.managed

pub under_peers : (locked mine lent mine1 : View) (side : Side PeerReplay) (index : ℕ) (stand : Stand) (seen : Managed) → HoldsPass C mine
    → Owns locked 1 → PeerKnows locked side → DriverStands mine index stand seen → Lends C locked mine lent mine1 → IsUnderPeers side.state stand seen
under_peers locked mine lent mine1 side index stand seen pass owns ks s l =
    let j = lent_joined C locked mine lent mine1 l ks.known s.known in
    let at = driver_joined locked mine lent mine1 l ks.known pass index stand seen s in
    record {
      state = end_of j.joined.known.past;
      kept = past_invariant_holds j.joined.known.past j.joined.known.lawful;
      peer = j.peer_first (l.whole 1 owns) ∙ ks.state;
      stood = at.come;
      dead = at.dead;
    }

-- the driver made an entry under the peer lock
pub record DrivenPeers (mine mine2 : View) (old new : Side PeerReplay) (index : ℕ) (stand : Stand) (seen : Managed) (e : Entry) (told : Told) : Type 0 where
  pub makes : DriverMakes mine mine2 stand seen e told
  pub before : makes.state.peer ≡ old.state
  pub told_now : Told
  pub plain : TellsPlainly stand e.made.op told → told_now ≡ told
  pub stands : DriverStands mine2 index (stand_after stand e.number e.made.op e.made.reply told_now) seen
  pub after : (end_of stands.known.known.past).peer ≡ new.state

pub record DrivenUnderPeers (mine locked2 mine2 : View) (old new : Side PeerReplay) (index : ℕ) (stand : Stand) (seen : Managed) (e : Entry) (told : Told) : Type 0 where
  pub knows : PeerKnows locked2 new
  pub driven : DrivenPeers mine mine2 old new index stand seen e told

driven_peers_by : (locked mine mine1 locked2 mine2 : View) (order : OrderId) (lent lent2 : Shown) (old new : Side PeerReplay) (e : Entry) (told : Told) (index : ℕ) (stand : Stand) (seen : Managed)
    → HoldsPass C mine → Owns locked 1 → e.made.caller ≡ C → e.made.index ≡ index → index < 2 ^ 32
    → PeerKnows locked old → DriverStands mine index stand seen
    → ((u : IsUnderPeers old.state stand seen) → DriverAllows stand u.state.managed.managed u.state.peer.peers.issued e.made.op e.made.reply e.made.cites (bare_told told))
    → Lends C locked mine lent.view mine1
    → (d : Drew peer_rules 1 order lent lent2 old new e told) → Returns C lent2.view mine1 locked2 mine2 → DrivenUnderPeers mine locked2 mine2 old new index stand seen d.kept.entry told
driven_peers_by locked mine mine1 locked2 mine2 order lent lent2 old new e told index stand seen pass owns caller at_index short ks s allows l d b =
    let j = lent_joined C locked mine lent.view mine1 l ks.known s.known in
    let at = driver_joined locked mine lent.view mine1 l ks.known pass index stand seen s in
    let past = j.joined.known.past in
    let k = d.kept in
    let u : IsUnderPeers old.state stand seen = record {
      state = end_of past;
      kept = past_invariant_holds past j.joined.known.lawful;
      peer = j.peer_first (l.whole 1 owns)
          ∙ ks.state;
      stood = at.come;
      dead = at.dead;
    } in
    let may : MayNow C (end_of past) e.made told = record {
      last = subst (λ (i : ℕ). last_line (end_of past).control C ≤ i) (sym at_index) at.last;
      allows = subst (λ (z : Stand). DriverAllows z (end_of past).managed.managed (end_of past).peer.peers.issued e.made.op e.made.reply e.made.cites (bare_told told)) (sym at.come) (allows u);
    } in
    let w = did_by peer_side C locked mine mine1 locked2 mine2 order lent lent2 old new e told s.known tt pass owns caller (subst (λ (i : ℕ). i < 2 ^ 32) (sym at_index) short) ks l may tt d b in
    let grown = w.entered.grown in
    let goes = subst (λ (z : Entry). GoesOn peer_rules old.state z.made told new.state) (sym d.entry) d.goes in
    let plain = peer_unpinned old.state k.entry.made told goes.lawful.1 in
    let own = (peer_reads_none k.entry.made.caller k.entry.made.op goes.lawful.0.event goes.lawful.0.side).0 in
    let managed : (end_of grown.known.known.past).managed ≡ (end_of past).managed = grown.managed
    ∙ ap (λ x. managed_past (end_of past).managed k.entry.made told x (is_read k.entry.made.op)) goes.lawful.0.side in
    record {
      knows = w.knows;
      driven = record {
        makes = record {
          own = w.makes.own;
          more = w.makes.more;
          above = w.makes.above;
          state = end_of past;
          comes = subst (λ x. Comes x (end_of past) (note_of k.entry told)) own w.entered.comes;
          kept = past_invariant_holds past j.joined.known.lawful;
          stood = at.come;
          dead = at.dead;
        };
        before = u.peer;
        told_now = bare_told grown.told;
        plain = λ p. ap bare_told (grown.alike (subst (λ (z : Told). TellsPlainly (end_of past).control.stand k.entry.made.op z)
            (sym (plain_told told plain)) (subst (λ (z : Stand). TellsPlainly z k.entry.made.op told) (sym at.come) p))) ∙ plain_told told plain;
        stands = record {
          known = same_view lent2.view mine2 grown.known b.same;
          stands = record {
            last = subst (λ (h : List Noted). last_line (end_of h).control C ≤ index) (sym grown.past_is)
                (let n = last_of_own past (note_of k.entry grown.told) C (ap (λ (z : Entry). z.made.caller) d.entry ∙ caller) tt in
                let m = ap (λ (z : Entry). z.made.index) d.entry in omega (arith, n, at_index, m));
            come = ap (λ (h : List Noted). (end_of h).control.stand) grown.past_is
                ∙ (stand_of_own past (note_of k.entry grown.told) (ap (λ (z : Entry). z.made.caller) d.entry ∙ caller)
                ∙ ap (λ (z : Stand). stand_after z k.entry.number k.entry.made.op k.entry.made.reply (bare_told grown.told)) at.come);
            dead = subst (λ (r : ManagedReplay). HasSameDeadPart seen r.managed) (sym managed) at.dead;
          };
        };
        after = w.after;
      };
    }

-- after a draw
pub driven_peers : (locked mine mine1 locked2 mine2 : View) (order : OrderId) (seat seat' : Shown) (old new : Side PeerReplay) (index : ℕ) (stand : Stand) (seen : Managed) (e : Entry) (told : Told)
    → HoldsPass C mine → Owns locked 1 → e.made.caller ≡ C → e.made.index ≡ index → index < 2 ^ 32
    → PeerKnows locked old → DriverStands mine index stand seen
    → ((u : IsUnderPeers old.state stand seen) → DriverAllows stand u.state.managed.managed u.state.peer.peers.issued e.made.op e.made.reply e.made.cites (bare_told told))
    → Lends C locked mine seat.view mine1
    → Drew peer_rules 1 order seat seat' old new e told → Returns C seat'.view mine1 locked2 mine2 → DrivenUnderPeers mine locked2 mine2 old new index stand seen e told
driven_peers locked mine mine1 locked2 mine2 order seat seat' old new index stand seen e told pass owns caller at_index short ks s allows l d b =
    subst (λ (z : Entry). DrivenUnderPeers mine locked2 mine2 old new index stand seen z told) d.entry
    (driven_peers_by locked mine mine1 locked2 mine2 order seat seat' old new e told index stand seen pass owns caller at_index short ks s allows l d b)
