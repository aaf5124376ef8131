-- The first two tests of a reader's entry are all that is asked of it beside its reply.
use Rattle.std.proofs.Common.{◌≡◌, ℕ, true, false, Option}
use Rattle.std.specs.Prelude.{◌↔◌}
use Rattle.joint_machine.specs.declared.names.Thread.{Thread}
use Rattle.joint_machine.specs.declared.names.Thread.TheVariants.{M, P, C}
use Rattle.joint_machine.specs.declared.lines.Act.TheVariants as act
use Rattle.joint_machine.specs.declared.events.Op.{Op}
use Rattle.joint_machine.specs.declared.events.Op.TheVariants as op
use Rattle.joint_machine.specs.declared.events.Reply.{Reply}
use Rattle.joint_machine.specs.Control.{CallerAllows, doing_at}
use Rattle.joint_machine.specs.Lines.{IsEvent, is_read}
use Rattle.joint_machine.specs.Linked.{Linkage}
use Rattle.joint_machine.specs.Told.{Told}
use Rattle.check_laws.specs.Order.{CallersTurn, CitesBy}
use Rattle.check_laws.specs.Reads.{ReaderOrderIsTested}
use Rattle.check_laws.proofs.Splitting.{thread_splits}

-- only managed threads read
allows : (s : Linkage) (t : Thread) (l : ℕ) (o : Op) (reply : Reply) (cites : Option ℕ) (told : Told) → IsEvent t o → is_read o ≡ true
    → (CallersTurn s t l o × CitesBy s t o cites) ↔ CallerAllows s.control s.managed.managed s.peer.peers.issued t l o reply cites told
allows s (M t) l o reply cites told e r = let p = thread_splits (doing_at s.control t) (M t) l o cites in (λ z. p.1 z, λ z. p.0 z)
allows s (P t) l (op.Line (act.Read k)) reply cites told e r = absurd e.0.1
allows s (P t) l (op.Line (act.Await k)) reply cites told e r = absurd e.0.1
allows s (P t) l o reply cites told e r = absurd (let f : false ≡ true = r in cc)
allows s C l (op.Line (act.Read k)) reply cites told e r = absurd e.0
allows s C l (op.Line (act.Await k)) reply cites told e r = absurd e.0
allows s C l o reply cites told e r = absurd (let f : false ≡ true = r in cc)

pub reader_tested : ReaderOrderIsTested
reader_tested s n r = (
  λ (turn, cites, bare). record {
    event = turn.event;
    line = turn.line;
    short = turn.short;
    order = (allows s n.entry.made.caller n.entry.made.index n.entry.made.op n.entry.made.reply n.entry.made.cites n.told turn.event r).0 (turn.turn, cites);
    bare = bare;
  },
  λ m. let p = (allows s n.entry.made.caller n.entry.made.index n.entry.made.op n.entry.made.reply n.entry.made.cites n.told m.event r).1 m.order in
      (record { event = m.event; line = m.line; short = m.short; turn = p.0 }, p.1, m.bare),
)
