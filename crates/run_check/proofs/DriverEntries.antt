-- An entry of the driver on the peer side: whose turn it is and what it cites by where the driver stands, and where it
-- stands behind the entry.
use Rattle.std.proofs.Common.{◌≡◌, ℕ, true, List, [], ◌∷◌, length, Option, refl, sym, ap, ◌∙◌, subst}
use Rattle.joint_machine.specs.declared.names.Thread.{Thread}
use Rattle.joint_machine.specs.declared.names.Thread.TheVariants.{M, P, C}
use Rattle.joint_machine.specs.declared.events.Made.{Made}
use Rattle.joint_machine.specs.declared.events.Op.{Op}
use Rattle.joint_machine.specs.declared.events.Reply.{Reply}
use Rattle.joint_machine.specs.Control.{Control, Stand, control_after, stand_after}
use Rattle.joint_machine.specs.Histories.{Finished}
use Rattle.joint_machine.specs.Lines.{IsDriver, is_peer_event, is_read}
use Rattle.joint_machine.specs.Linked.{Linkage}
use Rattle.joint_machine.specs.Managed.{candidates_of}
use Rattle.joint_machine.specs.Sides.{AddsLawful, peer_rules}
use Rattle.joint_machine.specs.Told.{Noted, Told}
use Rattle.joint_laws.proofs.SpansTold.{HasSpan}
use Rattle.check_laws.specs.Behind.{NamesSo, RepliesBehind, state_of}
use Rattle.check_laws.specs.Laws.{IsNoRefusal}
use Rattle.check_laws.specs.Order.{CallersData, CallersTurn, CitesBy, DriverCites, DriverData, DriverTurn}
use Rattle.peer_heap.specs.Sides.{seen}
use Rattle.run_check.specs.declared.replays.Replay.{Replay}
use Rattle.run_check.specs.Cycles.{CycleFollows}
use Rattle.run_check.specs.Follows.{LeftFits}
use Rattle.run_check.specs.Judging.{MayNotReply, MayReply, Replied, next_noted}
use Rattle.run_check.proofs.Opened.{reserved-on}
use Rattle.run_check.proofs.Drawing.{drawing}
use Rattle.run_check.proofs.PeerEntries.{Keeps, control_is, managed_is, names_none, one, right, wrong}

pub driver-is : (t : Thread) → IsDriver t → t ≡ C
driver-is C d = refl
driver-is (M u) d = absurd d
driver-is (P u) d = absurd d

-- the driver's own entry
abbrev pub driver-made : ℕ → Op → Reply → Option ℕ → Made
driver-made index o reply cites = record { caller = C; index = index; op = o; reply = reply; cites = cites }

module _ (h : Finished) (past : List Noted) (m : Made) (old : Replay) (ready : MayReply h past old m) (o : Op) (is : m.op ≡ o) (driver : m.caller ≡ C) where
  abbrev s : Linkage
  s = state_of past

  pub turn-is : DriverTurn s.control.stand s.managed.managed s.peer.marking o
  turn-is = subst (λ x. CallersTurn s C m.index x) is (subst (λ t. CallersTurn s t m.index m.op) driver ready.next.turn.turn)

  pub cites-is : DriverCites s.control.stand o m.cites
  cites-is = subst (λ x. CitesBy s C x m.cites) is (subst (λ t. CitesBy s t m.op m.cites) driver ready.next.cites)

  module _ (on_peers : is_peer_event C o ≡ true) where
    peer : is_peer_event m.caller m.op ≡ true
    peer = ap (λ t. is_peer_event t m.op) driver ∙ (ap (λ x. is_peer_event C x) is ∙ on_peers)

    module _ (reply : Reply) (told : Told) (new : Replay) (cites : Option ℕ) (cited : m.cites ≡ cites)
        (adds : AddsLawful peer_rules drawing old.draw new.draw (seen old.peers) (seen new.peers) (driver-made m.index o reply cites) told) (none : IsNoRefusal o)
        (stated : DriverData s.control.stand s.managed.managed s.peer.peers.issued o reply told) where
      alike : driver-made m.index o reply cites ≡ record m { reply = reply }
      alike = λ i. record { caller = sym driver i; index = m.index; op = sym is i; reply = reply; cites = sym cited i }

      refuses-none : IsNoRefusal m.op
      refuses-none = subst IsNoRefusal (sym is) none

      driven : CallersData s m.caller m.op reply told
      driven = subst (λ t. CallersData s t m.op reply told) (sym driver) (subst (λ x. CallersData s C x reply told) (sym is) stated)

      pub driver-wrong : (reply ≡ m.reply → ⊥) → MayNotReply h past m
      driver-wrong n = wrong h past m old ready peer (driver-made m.index o reply cites) told new alike adds refuses-none driven n

      pub driver-one : (t : Told) → RepliesBehind (is_read m.op) h past (next_noted past m t) → (reply ≡ m.reply) × (told ≡ t)
      driver-one = one h past m old ready peer (driver-made m.index o reply cites) told new alike adds refuses-none driven

      module _ (same : reply ≡ m.reply) where
        pub driver-names : (HasSpan o → ⊥) → NamesSo h s.managed.managed (next_noted past m told)
        driver-names out = names_none h past m old ready peer (driver-made m.index o reply cites) told new alike adds refuses-none driven same (λ x. out (subst HasSpan is x))

        -- where the driver stands behind it
        stands : (state_of (next_noted past m told ∷ past)).control.stand ≡ stand_after s.control.stand (length past) o m.reply told
        stands =
            ap (λ (k : Control). k.stand) (control_is h past m old ready peer (driver-made m.index o reply cites) told new alike adds refuses-none driven same
            ∙ (ap (λ t. control_after s.control t (length past) m.index m.op m.reply told) driver ∙ ap (λ x. control_after s.control C (length past) m.index x m.reply told) is))

        pub driver-right : Keeps old new → NamesSo h s.managed.managed (next_noted past m told) → (d : Stand) → stand_after s.control.stand (length past) o m.reply told ≡ d
            → new.peers.reserve.waiting ≡ []
            → LeftFits d (length (candidates_of s.managed.managed)) new.peers.reserve.left → ((t : Linkage) → t.managed ≡ s.managed → t.control.stand ≡ d → CycleFollows t new.cycle)
            → Replied h past m old new told
        driver-right keeps names d next waits left cycle =
            let after = state_of (next_noted past m told ∷ past) in
            let managed = managed_is h past m old ready peer (driver-made m.index o reply cites) told new alike adds refuses-none driven same in
            right h past m old ready peer (driver-made m.index o reply cites) told new alike adds refuses-none driven same keeps names
            (reserved-on s after managed new.peers.reserve d (stands ∙ next) waits left) (cycle after managed (stands ∙ next))
