use Rattle.entry_reader.proofs.ReplyParts.{no_plain}
use Rattle.entry_reader.proofs.replies.plain_reply.Goals as goal

pub returns : goal.returns
returns c = no_plain c.args.word.now record {
  ok = c.if-is_same.ensures;
  empty = c.if-is_same-2.ensures;
  range = c.if-is_same-3.ensures;
  null = c.if-is_same-4.ensures;
  taken = c.if-is_same-5.ensures;
  gone = c.if-is_same-6.ensures;
  unset = c.if-is_same-7.ensures;
  full = c.if-is_same-8.ensures;
  plain = c.if-is_same-9.ensures;
  nomark = c.if-is_same-10.ensures;
  more = c.if-is_same-11.ensures;
  done = c.if-is_same-12.ensures;
  cleared = c.if-is_same-13.ensures;
}
