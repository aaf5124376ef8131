-- The entries that follow a leader's.
use Rattle.std.specs.Prelude.{ℕ, suc, ◌+◌, ◌%◌, ◌^◌, List, [], ◌∷◌}
use Rattle.joint_machine.specs.declared.names.HNum.{HNum}
use Rattle.joint_machine.specs.declared.events.Op.{Op}
use Rattle.joint_machine.specs.declared.events.Op.TheVariants as op
use Rattle.joint_machine.specs.declared.events.Entry.{Entry}
use Rattle.joint_machine.specs.declared.events.Reply.{Reply}
use Rattle.joint_machine.specs.declared.events.Reply.TheVariants as says

-- the event with another handle, where it weakens or restores one
abbrev pub of_handle : Op → HNum → Op
of_handle (op.Weaken g) h = op.Weaken h
of_handle (op.Restore g) h = op.Restore h
of_handle o h = o

-- the reply whose handle is i higher, where it names one that a restore gave
abbrev pub reply_after : Reply → ℕ → Reply
reply_after (says.Renewed h) i = says.Renewed record { 0 = (h.0 + i) % 2 ^ 32 }
reply_after r i = r

-- the entry whose number is i higher, with that handle
abbrev pub follower_of : Entry → ℕ → HNum → Entry
follower_of e i h = record {
  number = (e.number + i) % 2 ^ 64;
  made = record {
    caller = e.made.caller;
    index = e.made.index;
    op = of_handle e.made.op h;
    reply = reply_after e.made.reply i;
    cites = e.made.cites;
  };
}

-- followers with these handles, from follower i on
abbrev pub followers_of : Entry → ℕ → List HNum → List Entry
followers_of e i [] = []
followers_of e i (h ∷ hs) = follower_of e i h ∷ followers_of e (suc i) hs
