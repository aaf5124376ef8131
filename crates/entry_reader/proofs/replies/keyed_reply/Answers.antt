use Rattle.entry_reader.proofs.ReplyParts.{no_alive, no_at, no_key, no_marking, no_open, no_pending, no_pinned}
use Rattle.entry_reader.proofs.replies.keyed_reply.Goals as goal

pub returns-in_err-short : goal.returns-in_err-short
returns-in_err-short c = rw c.from_residual.ensures (no_pending c.args.key.now c.args.word.now c.if-is_same.ensures c.in_err-short.ensures)

pub returns-in_err-managed : goal.returns-in_err-managed
returns-in_err-managed c = rw c.from_residual-in_err-managed.ensures (no_pinned c.args.key.now c.args.word.now c.if-is_same-2.ensures c.in_err-managed.ensures)

pub returns-in_err-short-2 : goal.returns-in_err-short-2
returns-in_err-short-2 c = rw c.from_residual-in_err-short-2.ensures (no_marking c.args.key.now c.args.word.now c.if-is_same-3.ensures c.in_err-short-2.ensures)

pub returns-in_err-short-3 : goal.returns-in_err-short-3
returns-in_err-short-3 c = rw c.from_residual-in_err-short-3.ensures (no_open c.args.key.now c.args.word.now c.if-is_same-4.ensures c.in_err-short-3.ensures)

pub returns-in_err-phase : goal.returns-in_err-phase
returns-in_err-phase c = rw c.from_residual-in_err-phase.ensures (no_at c.args.key.now c.args.word.now c.if-is_same-5.ensures c.in_err-phase.ensures)

pub returns-in_err-handle : goal.returns-in_err-handle
returns-in_err-handle c = rw c.from_residual-in_err-handle.ensures (no_alive c.args.key.now c.args.word.now c.if-is_same-6.ensures c.in_err-handle.ensures)

pub returns : goal.returns
returns c = no_key c.args.key.now c.args.word.now record {
  pending_ = c.if-is_same.ensures;
  pinned_ = c.if-is_same-2.ensures;
  marking_ = c.if-is_same-3.ensures;
  open_ = c.if-is_same-4.ensures;
  at_ = c.if-is_same-5.ensures;
  alive_ = c.if-is_same-6.ensures;
}
