-- Each linked state of a lawful list of entries has a joint state that agrees with its sides; an entry leads to the
-- next by a step of the joint machine, or with the same joint state.
use Rattle.std.proofs.Common.{◌≡◌, Bool, true, false, List, [], ◌∷◌, length, Option, None, refl, ap, cond}
use Rattle.joint_machine.specs.Joint.{Joint, JointMarking, opening}
use Rattle.joint_machine.specs.Linked.{Linkage, MayCome, opening_linkage, linkage_after}
use Rattle.joint_machine.specs.Replaying.{machine_entries}
use Rattle.joint_machine.specs.Run.{Moment, JointStep, is_joint}
use Rattle.joint_machine.specs.Told.{Noted}
use Rattle.joint_laws.specs.JointAgreement.{AreTold, Agrees, Flags, joint_as}
use Rattle.joint_machine.specs.Joined.{answers_at}
use Rattle.joint_machine.specs.Managed.{candidates_of}
use Rattle.joint_laws.proofs.JointSince.{IsSince, since-opening, since-entry}
use Rattle.joint_laws.proofs.RunsAreSound.{stays, marking-case}
use Rattle.joint_laws.proofs.JointEntries.{Outcome, moves, rests, outcome}
use Rattle.joint_laws.proofs.LinkedEntries.{Of, BothInvariants-entry, BothInvariants-opening}

-- a linked state with the joint state that agrees with it
pub record Stands (s : Linkage) : Type 0 where
  pub kept : Of s
  pub flags : Flags
  pub told : AreTold s.control.stand s.managed.managed flags
  pub marking : Option JointMarking
  pub agrees : Agrees s.peer flags marking
  pub since : IsSince s.managed.managed s.peer marking

-- its joint state
abbrev pub state_of : (s : Linkage) → Stands s → Joint
state_of s w = joint_as s.managed.managed s.peer w.flags w.marking

-- a moment of the run: an entry that may come at a linked state, from its joint state to that of the next
pub record IsTraced (m : Moment) : Type 0 where
  pub state : Linkage
  pub stands : Stands state
  pub may : MayCome state m.noted
  pub before : m.before ≡ state_of state stands
  pub next : Stands (linkage_after state m.noted)
  pub after : m.after ≡ state_of (linkage_after state m.noted) next

pub outcome-of : (s : Linkage) (w : Stands s) (n : Noted) → MayCome s n
    → Outcome s.managed.managed s.peer w.flags (answers_at (linkage_after s n).control.stand (length (candidates_of (linkage_after s n).managed.managed)))
    w.marking n.entry.made.caller n.entry.made.op n.entry.made.reply n.told (linkage_after s n).managed.managed (linkage_after s n).peer
outcome-of s w n may = outcome s w.kept w.flags w.marking w.agrees w.told n.entry.number n.entry.made.index n.entry.made.reply
    n.entry.made.cites n.entry.made.caller n.entry.made.op n.told may.event may.lawful may.order (BothInvariants-entry s n may w.kept).owners

-- an entry that may come leads to a linked state with its joint state, by a step of the joint machine or with the same
-- one
pub data Enters (s : Linkage) (w : Stands s) (n : Noted) : Type 0 where
  by_step : is_joint n.entry.made.op ≡ true → (v : Stands (linkage_after s n)) → JointStep (state_of s w) n (state_of (linkage_after s n) v) → Enters s w n
  at_rest : is_joint n.entry.made.op ≡ false → (v : Stands (linkage_after s n)) → state_of (linkage_after s n) v ≡ state_of s w → Enters s w n

pub enters : (s : Linkage) (w : Stands s) (n : Noted) → MayCome s n → Enters s w n
enters s w n may = by (outcome-of s w n may)
  where
    by : Outcome s.managed.managed s.peer w.flags (answers_at (linkage_after s n).control.stand (length (candidates_of (linkage_after s n).managed.managed)))
        w.marking n.entry.made.caller n.entry.made.op n.entry.made.reply n.told (linkage_after s n).managed.managed (linkage_after s n).peer → Enters s w n
    by (moves e t) =
        let v : Stands (linkage_after s n) = record {
          kept = BothInvariants-entry s n may w.kept;
          flags = t.flags_after;
          told = t.told_after;
          marking = t.marking_after;
          agrees = t.agrees;
          since = since-entry s n w.flags t.flags_after w.marking t.marking_after n.entry.made.op n.entry.made.reply may w.kept (BothInvariants-entry s n may w.kept) w.agrees.markings w.since
              (marking-case (state_of s w) (joint_as (linkage_after s n).managed.managed (linkage_after s n).peer t.flags_after t.marking_after)
              n.entry.made.caller n.entry.made.op n.entry.made.reply n.told t.event);
        } in
        by_step e v (record { event = may.event; step = t.event })
    by (rests e t f) =
        let v : Stands (linkage_after s n) = record {
          kept = BothInvariants-entry s n may w.kept;
          flags = w.flags;
          told = f;
          marking = w.marking;
          agrees = t.agrees;
          since = since-entry s n w.flags w.flags w.marking w.marking n.entry.made.op n.entry.made.reply may w.kept (BothInvariants-entry s n may w.kept) w.agrees.markings w.since (stays refl);
        } in
        at_rest e v t.same

pub projected : (n : Noted) (ns : List Noted) (b : Bool) → is_joint n.entry.made.op ≡ b → machine_entries (n ∷ ns) ≡ cond b (n ∷ machine_entries ns) (machine_entries ns)
projected n ns b e = ap (λ z. cond z (n ∷ machine_entries ns) (machine_entries ns)) e

pub Stands-opening : Stands opening_linkage
Stands-opening = record {
  kept = BothInvariants-opening;
  flags = record { removed = []; answers = [] };
  told = refl;
  marking = None;
  agrees = record { removed = refl; markings = tt };
  since = since-opening opening_linkage.managed.managed opening_linkage.peer;
}

-- where the joint machine opens
pub opening-state : state_of opening_linkage Stands-opening ≡ opening
unfolding Stands-opening
opening-state = refl
