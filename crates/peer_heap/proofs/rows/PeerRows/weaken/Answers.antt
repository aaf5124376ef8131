-- The handle's row is weak, and the others stay.
use Rattle.std.proofs.Common.{◌≡◌, Some, sym, subst, ◌∙◌}
use Rattle.global_handles.specs.declared.Strength.TheVariants.{Weak}
use Rattle.peer_heap.specs.Mirroring.{row_at, strong_row, weak_row, with_row}
use Rattle.peer_heap.specs.Rows.{Rows, rows_with}
use Rattle.peer_heap.proofs.Reset.{row-there, issued-reset, rows-weakened, weakened-strong}
use Rattle.peer_heap.proofs.rows.PeerRows.weaken.Goals as goal

pub weaken-requires : goal.weaken-requires
weaken-requires c =
    let i = c.self.inside in
    weakened-strong i.heap i.sorts.items i.names i.issued i.table c.args.h c.self.invariant.rising (subst (λ (z : Rows). row_at z c.args.h.0 ≡ Some strong_row) (sym c.self.view_is) c.requires)

pub invariant_of-self : goal.invariant_of-self
invariant_of-self c =
    let i = c.self.inside in
    let kept = c.self.invariant in
    let there = row-there i.heap i.sorts.items i.names i.issued i.table c.args.h kept.rising strong_row (subst (λ (z : Rows). row_at z c.args.h.0 ≡ Some strong_row) (sym c.self.view_is) c.requires) in
    record {
      rising = c.weaken.ensures.rising;
      places = c.weaken.ensures.last ∙ kept.places;
      rows_issued = issued-reset Weak i.table c.weaken.new.self c.args.h there.0 there.1 c.weaken.ensures.rows i.issued kept.rows_issued;
      sorted = kept.sorted;
      short = kept.short;
    }

pub returns : goal.returns
returns c =
    let i = c.self.inside in
    subst (λ (z : Rows). rows_with i.heap i.sorts.items i.names i.issued c.weaken.new.self ≡ with_row z c.args.h.0 weak_row) c.self.view_is
    (rows-weakened i.heap i.sorts.items i.names i.issued i.table c.weaken.new.self c.args.h c.self.invariant.rising
    (subst (λ (z : Rows). row_at z c.args.h.0 ≡ Some strong_row) (sym c.self.view_is) c.requires) c.weaken.ensures.rows c.weaken.ensures.made c.weaken.ensures.last)
