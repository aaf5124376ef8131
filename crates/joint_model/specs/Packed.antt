-- The entry that a packed one stands for.
use Rattle.std.specs.Prelude.{ℕ, ◌+◌, ◌*◌, ◌^◌, if◌then◌else◌, Some, None}
use Rattle.joint_machine.specs.declared.events.Entry.{Entry}
use Rattle.joint_model.specs.declared.packed.PackedEntry.{PackedEntry}

-- a number with these halves
abbrev pub whole_of : ℕ → ℕ → ℕ
whole_of low high = low + high * 2 ^ 32

-- the entry with these high halves of its number and of the one that it cites
abbrev pub entry_high : PackedEntry → ℕ → ℕ → Entry
entry_high p number cited = record {
  number = whole_of p.number number;
  made = record {
    caller = p.caller;
    index = p.index;
    op = p.op;
    reply = p.reply;
    cites = if p.cites then Some (whole_of p.cited cited) else None;
  };
}

-- the entry whose high halves are zero
abbrev pub entry_in : PackedEntry → Entry
entry_in p = record {
  number = p.number;
  made = record {
    caller = p.caller;
    index = p.index;
    op = p.op;
    reply = p.reply;
    cites = if p.cites then Some p.cited else None;
  };
}
