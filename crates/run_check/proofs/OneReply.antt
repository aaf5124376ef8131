-- The side's own call tells which entry may come behind the past: with its reply, and with what it tells. There is one
-- such reply and one such telling, so the entry that is judged is right exactly where it answers the same and names
-- what was freed and taken.
use Rattle.std.proofs.Common.{◌≡◌, ℕ, Bool, true, false, List, ◌∷◌, length, refl, sym, ap, ◌∙◌, subst, true≢false}
use Rattle.joint_machine.specs.declared.events.Made.{Made}
use Rattle.joint_machine.specs.declared.events.Op.{Op}
use Rattle.joint_machine.specs.declared.events.Op.TheVariants as op
use Rattle.joint_machine.specs.declared.events.Reply.{Reply}
use Rattle.joint_machine.specs.Control.{Stand}
use Rattle.joint_machine.specs.Draws.{numbered}
use Rattle.joint_machine.specs.Histories.{Finished}
use Rattle.joint_machine.specs.Lines.{is_peer_event, is_read}
use Rattle.joint_machine.specs.Linked.{Linkage, ManagedLawful, SideLawful}
use Rattle.joint_machine.specs.Told.{Noted, Told}
use Rattle.known_laws.specs.PastEntries.{TellsPlainly}
use Rattle.check_laws.specs.Behind.{NamesSo, RepliesBehind, SideReplies, state_of}
use Rattle.check_laws.specs.Laws.{IsNoRefusal}
use Rattle.check_laws.specs.Order.{CallersData, CitesSo, IsTurn, RepliesSo}
use Rattle.check_laws.proofs.Ordering.{order_tested}
use Rattle.check_laws.proofs.Replying.{replies_one}
use Rattle.run_check.specs.declared.replays.Replay.{Replay}
use Rattle.run_check.specs.Follows.{KeepsRest, SidesFollow}
use Rattle.run_check.specs.Judging.{AnswersRightly, MayNotReply, MayReply, Replied, next_noted}

-- what the side has made: the entry with its reply
abbrev pub answered : Made → Reply → Made
answered m r = record m { reply = r }

-- but for a refusal everything is told plainly
told_plainly : (stand : Stand) (o : Op) (told : Told) → IsNoRefusal o → TellsPlainly stand o told
told_plainly stand (op.Refused w) told n = absurd n
told_plainly stand _ told n = tt

-- two replies that are right are one
pub one_reply : (s : Linkage) (k : ℕ) (m : Made) (r : Reply) (t u : Told) → IsNoRefusal m.op → IsTurn s m → CitesSo s m → RepliesSo s (record { entry = numbered k (answered m r); told = t })
    → RepliesSo s (record { entry = numbered k m; told = u }) → (r ≡ m.reply) × (t ≡ u)
one_reply s k m r t u n turn cites a b = replies_one s m.caller m.index m.op m.cites k k r m.reply t u n
    ((order_tested s (record { entry = numbered k (answered m r); told = t })).0
    (record { turn = record { event = turn.event; line = turn.line; short = turn.short; turn = turn.turn }; cites = cites; replies = a }))
    ((order_tested s (record { entry = numbered k m; told = u })).0 (record { turn = turn; cites = cites; replies = b }))

-- what a call of a side has made is the next entry with its own reply, and the replay follows the past that is longer
-- by it
pub record HasMade (past : List Noted) (m : Made) (r : Reply) (told : Told) (old new : Replay) : Type 0 where
  pub replies : RepliesSo (state_of past) (next_noted past (answered m r) told)
  pub sides : SidesFollow (next_noted past (answered m r) told ∷ past) new
  pub rest : KeepsRest past (answered m r) old new

-- it answers the same, and names what was freed and taken
pub record IsSame (h : Finished) (past : List Noted) (m : Made) (r : Reply) (told : Told) : Type 0 where
  pub reply : r ≡ m.reply
  pub names : NamesSo h (state_of past).managed.managed (next_noted past m told)

same_made : (m : Made) (r : Reply) → r ≡ m.reply → answered m r ≡ m
same_made m r e = λ i. record m { reply = e i }

module _ (h : Finished) (past : List Noted) (m : Made) (r : Reply) (told : Told) (old new : Replay) (may : MayReply h past old m) (e : is_read m.op ≡ false) (n : IsNoRefusal m.op) where
  pub is_right : HasMade past m r told old new → IsSame h past m r told → Replied h past m old new told
  is_right w q =
      let same = same_made m r q.reply in
      record {
        replies = subst (λ b. RepliesBehind b h past (next_noted past m told)) (sym e) (record {
          replies = subst (λ z. RepliesSo (state_of past) (next_noted past z told)) same w.replies;
          plain = told_plainly (state_of past).control.stand m.op told n;
          names = q.names;
          snap = may.snap;
        });
        sides = subst (λ z. SidesFollow (next_noted past z told ∷ past) new) same w.sides;
        rest = subst (λ z. KeepsRest past z old new) same w.rest;
      }

  pub is_wrong : RepliesSo (state_of past) (next_noted past (answered m r) told) → (IsSame h past m r told → ⊥) → MayNotReply h past m
  is_wrong w differ u q =
      let s : SideReplies h past (next_noted past m u) = subst (λ b. RepliesBehind b h past (next_noted past m u)) e q in
      let one = one_reply (state_of past) (length past) m r told u n may.next.turn may.next.cites w s.replies in
      differ (record { reply = one.0; names = subst (λ z. NamesSo h (state_of past).managed.managed (next_noted past m z)) (sym one.1) s.names })

-- the entry of a managed call is lawful on its own side
pub replies_by : (s : Linkage) (k : ℕ) (m : Made) (told : Told) → is_peer_event m.caller m.op ≡ false → ManagedLawful s.managed m told
    → CallersData s m.caller m.op m.reply told → RepliesSo s (record { entry = numbered k m; told = told })
replies_by s k m told p l d = record { lawful = subst (λ b. SideLawful b s m told) (sym p) l; driven = d }

-- what a call has made, and when its answer is yes
pub record Judges (h : Finished) (past : List Noted) (m : Made) (old new : Replay) (b : Bool) : Type 0 where
  pub reply : Reply
  pub told : Told
  pub made : HasMade past m reply told old new
  pub if_true : b ≡ true → IsSame h past m reply told
  pub if_same : IsSame h past m reply told → b ≡ true

pub answers_rightly : (h : Finished) (m : Made) (old new : Replay) (b : Bool) → is_read m.op ≡ false → IsNoRefusal m.op
    → ((past : List Noted) → MayReply h past old m → Judges h past m old new b) → AnswersRightly h m old new b
answers_rightly h m old new true e n j = λ past may. let w = j past may in (w.told, is_right h past m w.reply w.told old new may e n w.made (w.if_true refl))
answers_rightly h m old new false e n j = λ past may. let w = j past may in is_wrong h past m w.reply w.told old new may e n w.made.replies (λ q. true≢false (sym (w.if_same q)))
