use Rattle.entry_reader.proofs.EventParts.{no_step}
use Rattle.entry_reader.proofs.events.event_word.Goals as goal

pub returns : goal.returns
returns c = no_step c.args.word.now record {
  make = c.if-is_same.ensures;
  adopt = c.if-is_same-2.ensures;
  lend = c.if-is_same-3.ensures;
  land = c.if-is_same-4.ensures;
  grip = c.if-is_same-5.ensures;
  meet = c.if-is_same-6.ensures;
  give = c.if-is_same-7.ensures;
  release = c.if-is_same-8.ensures;
  snap = c.if-is_same-9.ensures;
  contract = c.if-is_same-10.ensures;
  mirror = c.if-is_same-11.ensures;
  weaken = c.if-is_same-12.ensures;
  begin = c.if-is_same-13.ensures;
  sweep = c.if-is_same-14.ensures;
  restore = c.if-is_same-15.ensures;
  clear = c.if-is_same-16.ensures;
  resolve = c.if-is_same-17.ensures;
  abandon = c.if-is_same-18.ensures;
  refused = c.if-is_same-19.ensures;
}
