use Rattle.std.proofs.Common.{inl}
use Rattle.order_table.proofs.Parting.{still_owns}
use Rattle.order_tests.proofs.draws.an_order_is_finished.Goals as goal

-- a note takes nothing away, and each call after it lets the seat own what it owned
pub finish-requires-clause-all : goal.finish-requires-clause-all
finish-requires-clause-all g c i l =
    (c.learn.ensures.takes.owns i).0 (inl (still_owns c.append-first.ensures.grows i (c.note-note.ensures.parts.stayed i (λ none. none) (c.in_ok-order.ensures.all i l))))
