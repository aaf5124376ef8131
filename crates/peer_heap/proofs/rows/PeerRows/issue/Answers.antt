-- The handle comes last, among those issued and in the table.
use Rattle.std.proofs.Common.{◌≡◌, ◌∷◌, [], length, ap, subst, arith, length-append}
use Rattle.peer_heap.specs.declared.issues.Issue.{Issue}
use Rattle.peer_heap.specs.Rows.{Rows, rows_with, issued_to}
use Rattle.peer_heap.proofs.Handles.{rows-issued, AreRowsIssued-pushed}
use Rattle.peer_heap.proofs.rows.PeerRows.issue.Goals as goal

pub returns-in-Ok-clause-issued : goal.returns-in-Ok-clause-issued
returns-in-Ok-clause-issued c =
    let i = c.self.inside in
    let new : Issue = record { peer = c.args.p; hold = c.args.hold; strength = c.args.strength } in
    subst (λ (z : Rows). rows_with i.heap i.sorts.items i.names c.push.new.self c.make.new.self ≡ issued_to z new) c.self.view_is
    (rows-issued i.heap i.sorts.items i.names i.issued c.push.new.self i.table c.make.new.self new c.in-Ok.h c.push.ensures
    c.in-Ok.ensures.number c.in-Ok.ensures.rows c.in-Ok.ensures.made c.in-Ok.ensures.last c.self.invariant.rising)

pub invariant_of-self : goal.invariant_of-self
invariant_of-self c =
    let i = c.self.inside in
    let kept = c.self.invariant in
    let new : Issue = record { peer = c.args.p; hold = c.args.hold; strength = c.args.strength } in
    record {
      rising = c.in-Ok.ensures.rising;
      places = omega (arith, c.in-Ok.ensures.last, kept.places, ap length c.push.ensures, length-append i.issued (new ∷ []));
      rows_issued = AreRowsIssued-pushed i.issued c.push.new.self i.table c.make.new.self new c.in-Ok.h
          c.push.ensures c.in-Ok.ensures.number c.in-Ok.ensures.rows kept.places kept.rising kept.rows_issued;
      sorted = kept.sorted;
      short = kept.short;
    }
