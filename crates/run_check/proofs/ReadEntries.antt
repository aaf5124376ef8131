-- A reader's entry that answers as it may: the past is longer by it, and what follows the past follows it still.
use Rattle.std.proofs.Common.{◌≡◌, ℕ, zero, suc, ◌+◌, ◌<◌, ◌≤◌, ◌^◌, true, List, [], ◌∷◌, length, map, Option, Some, None, refl, sym, ap, ◌∙◌, subst, arith}
use Rattle.std.specs.Prelude.{slice_set}
use Rattle.std.proofs.lemmas.List.{length-set, map-set}
use Rattle.joint_machine.specs.declared.names.Cycle.{Cycle}
use Rattle.joint_machine.specs.declared.names.MNum.{MNum}
use Rattle.joint_machine.specs.declared.names.Thread.{Thread}
use Rattle.joint_machine.specs.declared.names.Thread.TheVariants.{M, P, C}
use Rattle.joint_machine.specs.declared.lines.Act.TheVariants as act
use Rattle.joint_machine.specs.declared.events.Made.{Made}
use Rattle.joint_machine.specs.declared.events.Op.{Op}
use Rattle.joint_machine.specs.declared.events.Op.TheVariants as op
use Rattle.joint_machine.specs.declared.events.Reply.{Reply}
use Rattle.joint_machine.specs.declared.events.Reply.TheVariants as says
use Rattle.joint_machine.specs.Control.{Control, Stand, control_after}
use Rattle.joint_machine.specs.Histories.{Finished}
use Rattle.joint_machine.specs.Lines.{IsManagedThread, is_read}
use Rattle.joint_machine.specs.Linked.{Linkage}
use Rattle.joint_machine.specs.Managed.{candidates_of}
use Rattle.joint_machine.specs.Readers.{ReadsCell, pins_after, reader_after}
use Rattle.joint_machine.specs.Run.{thread_number}
use Rattle.joint_machine.specs.Told.{Noted, Told, nothing}
use Rattle.joint_machine.specs.PinsTold.{no_pins, with_pins}
use Rattle.joint_laws.specs.LinkedInvariants.{given_at}
use Rattle.check_laws.specs.Behind.{IsReplyBehind, RepliesBehind, state_of}
use Rattle.check_laws.proofs.Keeping.{after-read}
use Rattle.check_laws.proofs.Tested.{cell-read}
use Rattle.caller_turns.specs.Shapes.{next_place}
use Rattle.managed_heap.specs.Rows.{number_or_none}
use Rattle.run_check.specs.declared.cycles.OpenCycle.{OpenCycle as Kept}
use Rattle.run_check.specs.declared.draws.Recorder.{Recorder}
use Rattle.run_check.specs.declared.readers.Readers.{Readers}
use Rattle.run_check.specs.declared.replays.Replay.{Replay}
use Rattle.run_check.specs.Cycles.{CycleFollows, HasCycle, IsAtHandle}
use Rattle.run_check.specs.Follows.{LeftFits, owed_after, owed_by_read, pins_read, shown_pins}
use Rattle.run_check.specs.Judging.{IsBehind, MayReply, Replied, next_noted}
use Rattle.run_check.proofs.Longer.{below-more}
use Rattle.run_check.proofs.Reading.{reader-cell, reader-thread}

one-cell : (o : Op) (j k : ℕ) → ReadsCell o j → ReadsCell o k → j ≡ k
one-cell (op.Line (act.Read c)) j k a b = sym a ∙ b
one-cell (op.Line (act.Await c)) j k a b = sym a ∙ b
one-cell o j k a b = absurd a

owed-read : (o : Op) (k cycles : ℕ) (r : Reply) → ReadsCell o k → (owed : Option Cycle) → owed_after cycles o r owed ≡ owed_by_read cycles r owed
owed-read (op.Line (act.Read c)) k cycles r w owed = refl
owed-read (op.Line (act.Await c)) k cycles r w owed = refl
owed-read o k cycles r w owed = absurd w

stand-same : (k : Control) (t : Thread) (n l : ℕ) (o : Op) (r : Reply) (told : Told) → IsManagedThread t → (control_after k t n l o r told).stand ≡ k.stand
stand-same k (M i) n l o r told w = refl
stand-same k (P i) n l o r told w = absurd w
stand-same k C n l o r told w = absurd w

-- the pins that are kept go with those of the state
pins-set : (pins : List (Option MNum)) (t : ℕ) (p : Option MNum) → 1 ≤ t → shown_pins (slice_set pins t p) ≡ slice_set (shown_pins pins) t (number_or_none p)
pins-set pins zero p l = absurd (omega (arith, l))
pins-set [] (suc t) p l = refl
pins-set (q ∷ pins) (suc t) p l = ap (λ z. None ∷ z) (map-set number_or_none pins t p)

low-thread : (t : Thread) → IsManagedThread t → 1 ≤ thread_number t
low-thread (M n) w = w.0
low-thread (P n) w = absurd w
low-thread C w = absurd w

pins-go : (pins : List (Option MNum)) (t : Thread) (r : Reply) → IsManagedThread t → shown_pins (pins_read pins (thread_number t) r) ≡ pins_after (shown_pins pins) (thread_number t) r
pins-go pins t (says.M m) w = pins-set pins (thread_number t) (Some m) (low-thread t w)
pins-go pins t _ w = refl

pins-many : (pins : List (Option MNum)) (t : ℕ) (r : Reply) → length (pins_read pins t r) ≡ length pins
pins-many pins t (says.M m) = length-set pins t (Some m)
pins-many pins t _ = refl

module _ (h : Finished) (past : List Noted) (m : Made) (old : Replay) (may : MayReply h past old m) (k : ℕ) (cell : ReadsCell m.op k) where
  abbrev s : Linkage
  s = state_of past

  pub behind : IsBehind h past old
  behind = record { so_far = may.next.so_far; follows = record { sides = may.sides; callers = may.callers } }

  read : is_read m.op ≡ true
  read = cell-read m.op k cell

  pub thread : IsManagedThread m.caller
  thread = reader-thread m.caller m.op may.next.turn.event read

  pub low : k < 64
  low = reader-cell m.caller m.op k may.next.turn.event cell

  pub count-low : old.draw.counter < 2 ^ 62
  count-low = subst (λ n. n < 2 ^ 62) (sym may.sides.drawn) may.next.so_far.few

  abbrev n : Noted
  n = next_noted past m nothing

  replies : IsReplyBehind past s.managed.managed (length past) m.caller k m.reply → RepliesBehind (is_read m.op) h past n
  replies w = subst (λ b. RepliesBehind b h past n) (sym read) record {
    bare = refl;
    reply = λ j c. subst (λ i. IsReplyBehind past s.managed.managed (length past) m.caller i m.reply) (one-cell m.op k j cell c) w;
  }

  after : state_of (n ∷ past) ≡ reader_after s n
  after = after-read s n read

  stands : (reader_after s n).control.stand ≡ s.control.stand
  stands = stand-same s.control m.caller (length past) m.index m.op m.reply nothing thread

  cycle-on : (c : Option Kept) → CycleFollows s c → CycleFollows (reader_after s n) c
  cycle-on None f = stands ∙ f
  cycle-on (Some o) f = record {
    cycle = f.cycle;
    opened = f.opened;
    graph = record { numbers = f.graph.numbers; handles = f.graph.handles; edges = f.graph.edges };
    part = f.part;
    count = f.count;
    stands = subst (λ (d : Stand). HasCycle d o) (sym stands) f.stands;
    next = subst (λ (d : Stand). IsAtHandle o.graph.nodes o.place (next_place d)) (sym stands) f.next;
    given = f.given ∙ ap given_at (sym stands);
    room = f.room;
  }

  pub read-replied : (d : Recorder) (x : Readers) → d.counter ≡ old.draw.counter + 1
      → x ≡ record old.readers { pins = pins_read old.readers.pins (thread_number m.caller) m.reply; owed = owed_by_read old.managed.state.managed.cycles m.reply old.readers.owed }
      → IsReplyBehind past s.managed.managed (length past) m.caller k m.reply → Replied h past m old (record old { draw = d; readers = x }) nothing
  read-replied d x drawn is w = record {
    replies = replies w;
    sides = record {
      drawn = (let a = may.sides.drawn in omega (arith, a, drawn));
      managed = record {
        threads = may.sides.managed.threads;
        below = below-more old.managed.entries (length past) (length (n ∷ past)) (omega arith) may.sides.managed.below;
        state = may.sides.managed.state ∙ ap (λ (z : Linkage). with_pins z.managed no_pins) (sym after);
      };
      peers = record {
        threads = may.sides.peers.threads;
        below = below-more old.peers.entries (length past) (length (n ∷ past)) (omega arith) may.sides.peers.below;
        state = may.sides.peers.state ∙ ap (λ (z : Linkage). z.peer) (sym after);
        reserve = record {
          none_waits = may.sides.peers.reserve.none_waits;
          left = subst (λ (z : Linkage). LeftFits z.control.stand (length (candidates_of z.managed.managed)) old.peers.reserve.left) (sym after)
              (subst (λ (z : Stand). LeftFits z (length (candidates_of s.managed.managed)) old.peers.reserve.left) (sym stands) may.sides.peers.reserve.left);
        };
      };
      stores = record {
        nine = ap (λ (z : Readers). length z.pins) is ∙ (pins-many old.readers.pins (thread_number m.caller) m.reply ∙ may.sides.stores.nine);
        pins = ap (λ (z : Readers). shown_pins z.pins) is ∙ (pins-go old.readers.pins m.caller m.reply thread
            ∙ (ap (λ z. pins_after z (thread_number m.caller) m.reply) may.sides.stores.pins ∙ ap (λ (z : Linkage). z.managed.managed.pins) (sym after)));
        many = ap (λ (z : Readers). length z.targets) is ∙ may.sides.stores.many;
        cells = ap (λ (z : Readers). map number_or_none z.targets) is ∙ (may.sides.stores.cells ∙ ap (λ (z : Linkage). z.managed.managed.cells) (sym after));
      };
      cycle = subst (λ (z : Linkage). CycleFollows z old.cycle) (sym after) (cycle-on old.cycle may.sides.cycle);
    };
    rest = record {
      turns = refl;
      counts = ap (λ (z : Readers). z.counts) is;
      owed = ap (λ (z : Readers). z.owed) is ∙ (ap (λ z. owed_by_read z.managed.cycles m.reply old.readers.owed) may.sides.managed.state
          ∙ sym (owed-read m.op k s.managed.managed.cycles m.reply cell old.readers.owed));
    };
  }
