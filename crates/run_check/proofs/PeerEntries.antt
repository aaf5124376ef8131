-- An entry of the peer side behind a past that a replay follows: where its reply is the side's, it comes behind the
-- past, and the replay follows the longer one; and where it isn't, nothing that is told of it makes it right, since
-- what may come there answers one thing.
use Rattle.std.proofs.Common.{◌≡◌, ℕ, suc, ◌<◌, Bool, true, false, List, ◌∷◌, length, Option, refl, sym, ap, ◌∙◌, subst, arith, true≢false}
use Rattle.std.specs.Prelude.{◌↔◌, IsTrue}
use Rattle.std.proofs.lemmas.List.Elements.{All-contains}
use Rattle.joint_machine.specs.declared.names.Cycle.{Cycle}
use Rattle.joint_machine.specs.declared.names.Thread.{Thread}
use Rattle.joint_machine.specs.declared.lines.Act.TheVariants as act
use Rattle.joint_machine.specs.declared.events.Entry.{Entry}
use Rattle.joint_machine.specs.declared.events.Made.{Made}
use Rattle.joint_machine.specs.declared.events.Op.{Op}
use Rattle.joint_machine.specs.declared.events.Op.TheVariants as op
use Rattle.joint_machine.specs.declared.events.Reply.{Reply}
use Rattle.joint_machine.specs.declared.events.Reply.TheVariants as says
use Rattle.joint_machine.specs.Control.{Stand, control_after}
use Rattle.joint_machine.specs.Draws.{AllBelow}
use Rattle.joint_machine.specs.Histories.{Finished, managed_numbers, peer_numbers}
use Rattle.joint_machine.specs.Lines.{is_peer_event, is_read}
use Rattle.joint_machine.specs.Linked.{Linkage, MayCome, PeerLawful, SideLawful, linkage_after, managed_after, peer_after}
use Rattle.joint_machine.specs.ManagedReplay.{ManagedReplay}
use Rattle.joint_machine.specs.PeerReplay.{PeerReplay, peer_answer}
use Rattle.joint_machine.specs.Sides.{AddsLawful, MayDraw, TakesPeer, peer_rules}
use Rattle.joint_machine.specs.Told.{Noted, Told}
use Rattle.joint_machine.specs.PinsTold.{no_pins, with_pins}
use Rattle.joint_machine.proofs.Members.{All-members}
use Rattle.joint_laws.specs.Spans.{TellsNamed}
use Rattle.joint_laws.proofs.PlainReplies.{IsPlain}
use Rattle.joint_laws.proofs.SpansTold.{HasSpan, IsPlainEntry, plain-entry}
use Rattle.known_laws.specs.PastEntries.{TellsPlainly}
use Rattle.known_laws.proofs.Coming.{peer_reads_none}
use Rattle.check_laws.specs.Behind.{NamesSo, RepliesBehind, SideReplies, state_of}
use Rattle.check_laws.specs.Knows.{AreKnown}
use Rattle.check_laws.specs.Laws.{IsNoRefusal}
use Rattle.check_laws.specs.Order.{CallersData}
use Rattle.check_laws.proofs.Keeping.{after-other}
use Rattle.check_laws.proofs.Knows.{pasts_known}
use Rattle.check_laws.proofs.Ordering.{order_tested}
use Rattle.check_laws.proofs.Replying.{replies_one}
use Rattle.peer_heap.specs.Sides.{seen}
use Rattle.run_check.specs.declared.readers.Readers.{Readers}
use Rattle.run_check.specs.declared.replays.Replay.{Replay}
use Rattle.run_check.specs.Cycles.{CycleFollows}
use Rattle.run_check.specs.Follows.{ManagedFollows, ReserveFollows, StoresFollow, owed_after}
use Rattle.run_check.specs.Judging.{AnswersRightly, MayNotReply, MayReply, Replied, next_noted}
use Rattle.run_check.proofs.Drawing.{drawing}

-- no other part of a replay is changed by a call of the peer side
pub record Keeps (old new : Replay) : Type 0 where
  pub managed : new.managed ≡ old.managed
  pub readers : new.readers ≡ old.readers
  pub turns : new.turns ≡ old.turns

-- what is told of an event that is no refusal is told plainly
plainly : (stand : Stand) (o : Op) (told : Told) → IsNoRefusal o → TellsPlainly stand o told
plainly stand (op.Refused w) told n = absurd n
plainly stand _ told n = tt

-- an event of the peer side is waited for by no read
owed_same : (t : Thread) (o : Op) (cycles : ℕ) (reply : Reply) (owed : Option Cycle) → is_peer_event t o ≡ true → is_read o ≡ false → owed_after cycles o reply owed ≡ owed
owed_same t (op.Snap k) cycles reply owed p r = absurd (true≢false (sym p))
owed_same t (op.Line (act.Read k)) cycles reply owed p r = absurd (true≢false r)
owed_same t (op.Line (act.Await k)) cycles reply owed p r = absurd (true≢false r)
owed_same t _ cycles reply owed p r = refl

below-more : (es : List Entry) (n : ℕ) → AllBelow es n → AllBelow es (suc n)
below-more es n b = All-members (λ (e : Entry). e.number < suc n) es (λ e there. (let l = All-contains (λ (x : Entry). x.number < n) es e b there in omega (arith, l)))

plain-named : (ms ps : List ℕ) (r : Reply) (told : Told) → IsPlainEntry r told → TellsNamed ms ps r told
plain-named ms ps (says.Snapped n x) told e = absurd e.plain
plain-named ms ps (says.Swept j x) told e = absurd e.plain
plain-named ms ps (says.Freed x) told e = absurd e.plain
plain-named ms ps _ told e = e.none

-- behind a past that the replay follows
module _ (h : Finished) (past : List Noted) (m : Made) (old : Replay) (ready : MayReply h past old m) (peer : is_peer_event m.caller m.op ≡ true) where
  abbrev s : Linkage
  s = state_of past

  pub known : AreKnown past
  known = pasts_known h past ready.next.so_far.numbers ready.next.so_far.order

  no_read : is_read m.op ≡ false
  no_read = (peer_reads_none m.caller m.op ready.next.turn.event peer).0

  -- the replay may draw for any event that the peer side takes
  pub may_draw : (t : Thread) (o : Op) → TakesPeer 8 t → MayDraw peer_rules drawing old.draw (seen old.peers) t o
  may_draw t o takes =
      let drawn = ready.sides.drawn in
      let few = ready.next.so_far.few in
      record {
        takes = subst (λ n. TakesPeer n t) (sym ready.sides.peers.threads) takes;
        below = subst (AllBelow old.peers.entries) (sym drawn) ready.sides.peers.below;
        room = omega (arith, drawn, few);
        bare = tt;
        targets = λ x w. tt;
      }

  -- the side's own entry, which is this one but for the reply
  module _ (own : Made) (told : Told) (new : Replay) (alike : own ≡ record m { reply = own.reply })
      (adds : AddsLawful peer_rules drawing old.draw new.draw (seen old.peers) (seen new.peers) own told) (none : IsNoRefusal m.op) (driven : CallersData s m.caller m.op own.reply told) where
    by_side : PeerLawful s.peer (record m { reply = own.reply }) told
    by_side = subst (λ (p : PeerReplay). PeerLawful p (record m { reply = own.reply }) told) ready.sides.peers.state (subst (λ (x : Made). PeerLawful old.peers.state x told) alike adds.goes.lawful.1)

    abbrev own_noted : Noted
    own_noted = next_noted past (record m { reply = own.reply }) told

    own_comes : MayCome s own_noted
    own_comes = (order_tested s own_noted).0 record {
      turn = record { event = ready.next.turn.event; line = ready.next.turn.line; short = ready.next.turn.short; turn = ready.next.turn.turn };
      cites = ready.next.cites;
      replies = record { lawful = subst (λ b. SideLawful b s (record m { reply = own.reply }) told) (sym peer) by_side; driven = driven };
    }

    -- no other reply is right, and nothing else is told
    pub one : (t : Told) → RepliesBehind (is_read m.op) h past (next_noted past m t) → (own.reply ≡ m.reply) × (told ≡ t)
    one t r =
        let side : SideReplies h past (next_noted past m t) = subst (λ b. RepliesBehind b h past (next_noted past m t)) no_read r in
        replies_one s m.caller m.index m.op m.cites (length past) (length past) own.reply m.reply told t none own_comes
        ((order_tested s (next_noted past m t)).0 record { turn = ready.next.turn; cites = ready.next.cites; replies = side.replies })

    pub wrong : (own.reply ≡ m.reply → ⊥) → MayNotReply h past m
    wrong n t r = n (one t r).0

    -- the state behind it
    module _ (same : own.reply ≡ m.reply) where
      made_same : own ≡ m
      made_same = alike ∙ ap (λ r. record m { reply = r }) same

      abbrev here : Noted
      here = next_noted past m told

      abbrev after : Linkage
      after = state_of (here ∷ past)

      is_after : after ≡ linkage_after s here
      is_after = after-other s here no_read

      pub managed_is : after.managed ≡ s.managed
      managed_is = ap (λ (l : Linkage). l.managed) is_after ∙ ap (managed_after s.managed m told) peer

      peer_is : after.peer ≡ (peer_answer s.peer m.caller m.op m.cites told).state
      peer_is = ap (λ (l : Linkage). l.peer) is_after ∙ ap (peer_after s.peer m told) peer

      pub control_is : after.control ≡ control_after s.control m.caller (length past) m.index m.op m.reply told
      control_is = ap (λ (l : Linkage). l.control) is_after

      side_is : new.peers.state ≡ after.peer
      side_is =
          adds.goes.state
          ∙ (ap (λ (x : Made). (peer_answer old.peers.state x.caller x.op x.cites told).state) made_same
          ∙ (ap (λ (p : PeerReplay). (peer_answer p m.caller m.op m.cites told).state) ready.sides.peers.state ∙ sym peer_is))

      counted : new.draw.counter ≡ suc (length past)
      counted = (let n = adds.draws.adds.drawn.0.1 in let o = ready.sides.drawn in omega (arith, n, o))

      -- it is right, where it names what it freed, and the rest is kept
      pub right : Keeps old new → NamesSo h s.managed.managed here → ReserveFollows after new.peers.reserve → CycleFollows after new.cycle → Replied h past m old new told
      right keeps names reserve cycle = record {
        replies = subst (λ b. RepliesBehind b h past here) (sym no_read) record {
          replies = record {
            lawful = subst (λ b. SideLawful b s m told) (sym peer) (subst (λ r. PeerLawful s.peer (record m { reply = r }) told) same by_side);
            driven = subst (λ r. CallersData s m.caller m.op r told) same driven;
          };
          plain = plainly s.control.stand m.op told none;
          names = names;
          snap = ready.snap;
        };
        sides = record {
          drawn = counted;
          managed = subst (ManagedFollows (here ∷ past)) (sym keeps.managed) record {
            threads = ready.sides.managed.threads;
            below = below-more old.managed.entries (length past) ready.sides.managed.below;
            state = ready.sides.managed.state ∙ ap (λ (r : ManagedReplay). with_pins r no_pins) (sym managed_is);
          };
          peers = record {
            threads = adds.threads ∙ ready.sides.peers.threads;
            below = subst (AllBelow new.peers.entries) counted adds.draws.below;
            state = side_is;
            reserve = reserve;
          };
          stores = subst (StoresFollow (here ∷ past)) (sym keeps.readers) record {
            nine = ready.sides.stores.nine;
            pins = ready.sides.stores.pins ∙ ap (λ (r : ManagedReplay). r.managed.pins) (sym managed_is);
            many = ready.sides.stores.many;
            cells = ready.sides.stores.cells ∙ ap (λ (r : ManagedReplay). r.managed.cells) (sym managed_is);
          };
          cycle = cycle;
        };
        rest = record {
          turns = keeps.turns;
          counts = ap (λ (r : Readers). r.counts) keeps.readers;
          owed = ap (λ (r : Readers). r.owed) keeps.readers ∙ sym (owed_same m.caller m.op s.managed.managed.cycles m.reply old.readers.owed peer no_read);
        };
      }

      -- an event whose reply can have no span names nothing
      pub names_none : (HasSpan m.op → ⊥) → NamesSo h s.managed.managed here
      names_none out =
          let plain : IsPlainEntry m.reply told = plain-entry s m.index m.reply m.cites m.caller m.op told out
          (subst (λ b. SideLawful b s m told) (sym peer) (subst (λ r. PeerLawful s.peer (record m { reply = r }) told) same by_side)) in
          record { freed = plain-named (managed_numbers h.freed_managed) (peer_numbers h.freed_peers) m.reply told plain; taken = λ span e. absurd (subst IsPlain e plain.plain) }

-- the answer of a call that compares its own reply
pub compared : (h : Finished) (m : Made) (old new : Replay) (reply : Reply) (b : Bool) → (IsTrue b ↔ (m.reply ≡ reply))
    → ((past : List Noted) → MayReply h past old m → reply ≡ m.reply → (told : Told) × Replied h past m old new told)
    → ((past : List Noted) → MayReply h past old m → (reply ≡ m.reply → ⊥) → MayNotReply h past m) → AnswersRightly h m old new b
compared h m old new reply true w r n = λ past ready. r past ready (sym (w.0 refl))
compared h m old new reply false w r n = λ past ready. n past ready (λ e. true≢false (sym (w.1 (sym e))))
