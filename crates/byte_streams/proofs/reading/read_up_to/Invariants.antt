use Rattle.std.proofs.Common.{◌+◌, ◌-◌, ◌≤◌, vec_len}
use Rattle.std.specs.Io.KnownBytes.{Consumes}
use Rattle.byte_streams.proofs.reading.read_up_to.Given as goal

abbrev pub invariant-loop-buf : goal.invariant-loop-buf
invariant-loop-buf g l = record {
  taken : Consumes (g.S.Source.left l.fn.src) (g.S.Source.left l.src) l.bytes.items;
  size : vec_len l.bytes ≤ l.most + 1;
  later : g.S.Source.faults l.fn.src ≤ g.S.Source.faults l.src;
}

abbrev pub decreases-loop-buf : goal.decreases-loop-buf
decreases-loop-buf g l = l.most + 1 - vec_len l.bytes
