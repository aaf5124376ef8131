-- The tally of a lawful list goes with the numbers of its states, entry after entry.
use Rattle.std.proofs.Common.{◌≡◌, Bool, true, false, List, [], ◌∷◌, map, refl, sym, ap, subst, ◌∙◌, arith}
use Rattle.joint_machine.specs.declared.events.Made.{Made}
use Rattle.joint_machine.specs.Lines.{IsEvent, is_peer_event}
use Rattle.joint_machine.specs.Linked.{Linkage, MayCome, SideLawful, opening_linkage, linkage_after, managed_after, peer_after}
use Rattle.joint_machine.specs.Replaying.{AllMayCome, replayed}
use Rattle.joint_machine.specs.ManagedReplay.{ManagedReplay}
use Rattle.joint_machine.specs.PeerReplay.{PeerReplay}
use Rattle.joint_machine.specs.Told.{Told, Noted}
use Rattle.joint_laws.proofs.LinkedEntries.{Of, BothInvariants-entry, BothInvariants-opening}
use Rattle.run_summary.specs.declared.tallies.Tally.{Tally}
use Rattle.run_summary.specs.Tallies.{freed_managed, freed_peers, tallied, tally_from}
use Rattle.run_summary.specs.Lines.{one}
use Rattle.summary_laws.specs.States.{tally_in}
use Rattle.summary_laws.specs.Laws.{AddsUp, HeapsAddUp, TalliesAreOfStates}
use Rattle.summary_laws.proofs.HeapCounts.{adds-up}
use Rattle.summary_laws.proofs.ManagedCounts.{ManagedCounts, answer-counts}
use Rattle.summary_laws.proofs.Names.{NamesInvariant, names-opening}
use Rattle.summary_laws.proofs.PeerCounts.{PeerCounts, peer-counts}
use Rattle.summary_laws.proofs.Quiet.{managed-leaves, peers-leave, frees-own}

abbrev Named : PeerReplay → Type 0
Named s = NamesInvariant s.peers.names s.table

-- two tallies with the same numbers
pub record HasNumbers (t u : Tally) : Type 0 where
  pub cycles : t.cycles ≡ u.cycles
  pub managed : t.made.managed ≡ u.made.managed
  pub peers : t.made.peers ≡ u.made.peers
  pub handles : t.made.handles ≡ u.made.handles
  pub managed_left : t.left.managed ≡ u.left.managed
  pub peers_left : t.left.peers ≡ u.left.peers
  pub handles_left : t.left.handles ≡ u.left.handles

pub same_tally : (t u : Tally) → HasNumbers t u → t ≡ u
same_tally t u h = λ i. record {
  cycles = h.cycles i;
  made = record { managed = h.managed i; peers = h.peers i; handles = h.handles i };
  left = record { managed = h.managed_left i; peers = h.peers_left i; handles = h.handles_left i };
}

-- the numbers of two sides
abbrev pub sides : ManagedReplay → PeerReplay → Tally
sides m p = tally_in (record { managed = m; peer = p; control = opening_linkage.control })

-- one entry
record Steps (s : Linkage) (m : Made) (told : Told) (b : Bool) : Type 0 where
  tally : tallied (tally_in s) m.op m.reply ≡ sides (managed_after s.managed m told b) (peer_after s.peer m told b)
  names : Named (peer_after s.peer m told b)
  managed : AddsUp s.managed.managed.heap → AddsUp (managed_after s.managed m told b).managed.heap
  peers : AddsUp s.peer.peers.heap → AddsUp (peer_after s.peer m told b).peers.heap

module _ (s : Linkage) (m : Made) (told : Told) (k : Of s) (named : Named s.peer) (event : IsEvent m.caller m.op) where
  own-managed : is_peer_event m.caller m.op ≡ false → SideLawful false s m told → freed_peers m.reply ≡ 0 → Steps s m told false
  own-managed b w none =
      let a = managed_after s.managed m told false in
      let c : ManagedCounts s.managed.managed a.managed m.op m.reply = subst (λ z. ManagedCounts s.managed.managed a.managed m.op z)
      (sym w.replies) (answer-counts s.managed m.caller m.op told k.managed w.allowed) in
      let l = managed-leaves m.caller m.op m.reply event b in
      let e = ap one l.makes in
      let f = ap one l.gives in
      let g = ap one l.takes in
      record {
        tally = same_tally _ _ (record {
          cycles = omega (arith, c.cycles);
          managed = omega (arith, c.heap.made);
          peers = omega (arith, e);
          handles = omega (arith, f);
          managed_left = omega (arith, c.heap.left);
          peers_left = omega (arith, e, none);
          handles_left = omega (arith, f, g);
        });
        names = named;
        managed = λ u. adds-up _ _ _ _ c.heap u;
        peers = λ u. u;
      }

  own-peer : is_peer_event m.caller m.op ≡ true → SideLawful true s m told → freed_managed m.reply ≡ 0 → Steps s m told true
  own-peer b w none =
      let a = peer_after s.peer m told true in
      let c : PeerCounts s.peer a.peers a.table m.op m.reply = subst (λ z. PeerCounts s.peer a.peers a.table m.op z)
      (sym w.replies) (peer-counts s.peer k.peer named m.caller m.op m.cites told w.allowed) in
      let l = peers-leave m.caller m.op m.reply event b in
      let e = ap one l.makes in
      let f = ap one l.opens in
      record {
        tally = same_tally _ _ (record {
          cycles = omega (arith, f);
          managed = omega (arith, e);
          peers = omega (arith, c.heap.made);
          handles = omega (arith, c.made);
          managed_left = omega (arith, e, none);
          peers_left = omega (arith, c.heap.left);
          handles_left = omega (arith, c.tabled);
        });
        names = c.names;
        managed = λ u. u;
        peers = λ u. adds-up _ _ _ _ c.heap u;
      }

  by : (b : Bool) → is_peer_event m.caller m.op ≡ b → SideLawful b s m told → (b ≡ false → freed_peers m.reply ≡ 0) → (b ≡ true → freed_managed m.reply ≡ 0) → Steps s m told b
  by true e w p q = own-peer e w (q refl)
  by false e w p q = own-managed e w (p refl)

step : (s : Linkage) (n : Noted) → MayCome s n → Of s → Named s.peer → Steps s n.entry.made n.told (is_peer_event n.entry.made.caller n.entry.made.op)
step s n may k named =
    let m = n.entry.made in
    let own = frees-own s m.index m.reply m.cites m.caller m.op n.told may.event may.lawful in
    by s m n.told k named may.event (is_peer_event m.caller m.op) refl may.lawful own.peers own.managed

counted : (ns : List Noted) (s : Linkage) → AllMayCome s ns → Of s → Named s.peer → tally_from (tally_in s) (map (λ n. n.entry) ns) ≡ tally_in (replayed s ns)
counted [] s a k named = refl
counted (n ∷ ns) s a k named =
    let t = step s n a.0 k named in
    ap (λ u. tally_from u (map (λ n. n.entry) ns)) t.tally ∙ counted ns (linkage_after s n) a.1 (BothInvariants-entry s n a.0 k) t.names

add_up : (ns : List Noted) (s : Linkage) → AllMayCome s ns → Of s → Named s.peer → AddsUp s.managed.managed.heap
    → AddsUp s.peer.peers.heap → AddsUp (replayed s ns).managed.managed.heap × AddsUp (replayed s ns).peer.peers.heap
add_up [] s a k named m p = (m, p)
add_up (n ∷ ns) s a k named m p =
    let t = step s n a.0 k named in
    add_up ns (linkage_after s n) a.1 (BothInvariants-entry s n a.0 k) t.names (t.managed m) (t.peers p)

pub heaps_add_up : HeapsAddUp
heaps_add_up noted may = add_up noted opening_linkage may BothInvariants-opening names-opening refl refl

pub tallies_are_of_states : TalliesAreOfStates
tallies_are_of_states noted may = counted noted opening_linkage may BothInvariants-opening names-opening
