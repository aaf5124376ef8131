-- The table restores the row: it goes, or one on its peer comes in its place.
use Rattle.std.proofs.Common.{◌≡◌, ◌∷◌, ◌++◌, [], length, Some, refl, sym, ap, subst, ◌∙◌, arith, length-append}
use Rattle.std.proofs.lemmas.List.{length-map}
use Rattle.std.proofs.lemmas.Option.{none-some}
use Rattle.joint_machine.specs.declared.names.PNum.{PNum}
use Rattle.joint_machine.specs.Peers.{peer_of}
use Rattle.global_handles.specs.declared.Back.{Back}
use Rattle.global_handles.specs.declared.HandleRow.{HandleRow}
use Rattle.global_handles.specs.declared.Hold.TheVariants.{Held}
use Rattle.global_handles.specs.declared.Strength.TheVariants.{Strong}
use Rattle.global_handles.specs.Rows.{row_in}
use Rattle.peer_heap.specs.declared.issues.Issue.{Issue}
use Rattle.peer_heap.specs.Mirroring.{RestoresRow, row_at}
use Rattle.peer_heap.specs.Rows.{Rows, issued_as, row_as, rows_with}
use Rattle.peer_heap.proofs.Handles.{AreRowsIssued-removed, AreRowsIssued-renewed, peer_of-issued}
use Rattle.peer_heap.proofs.Reset.{cleared-told, is-cleared, is-given, kept-told, peer-told, removed-row, renewed-put, renewed-row, row-there}
use Rattle.peer_heap.proofs.rows.PeerRows.renew.Goals.{After-restore-back, After-self}
use Rattle.peer_heap.proofs.rows.PeerRows.renew.Goals as goal

-- the table has the row
there-in : (c : After-self) → (r : HandleRow) × (row_in c.self.inside.table.rows c.args.h ≡ Some r) × (row_as r ≡ c.requires.tabled.0)
there-in c =
    let i = c.self.inside in
    row-there i.heap i.sorts.items i.names i.issued i.table c.args.h c.self.invariant.rising c.requires.tabled.0
    (subst (λ (z : Rows). row_at z c.args.h.0 ≡ Some c.requires.tabled.0) (sym c.self.view_is) c.requires.tabled.1)

-- and answers its peer, which is the handle's
peer-in : (c : After-restore-back) → peer_of c.args.self.now.issued c.args.h.0 ≡ Some c.restore-back.result.1.0
peer-in c =
    let i = c.self.inside in
    let there = there-in (goal.at.After-restore-back c).After-self in
    let own = peer-told i.table.rows c.args.h there.0 c.restore-back.result.1 there.1 c.restore-back.ensures.peer in
    let found = c.self.invariant.rows_issued c.args.h there.0 there.1 in
    subst (λ (z : Rows). peer_of z.issued c.args.h.0 ≡ Some c.restore-back.result.1.0) c.self.view_is (peer_of-issued i.issued c.args.h.0 found.0 found.1 ∙ ap (λ (q : PNum). Some q.0) (found.2 ∙ own))

pub restore-back-requires-clause-there : goal.restore-back-requires-clause-there
restore-back-requires-clause-there c =
    let there = there-in (goal.at.restore-back-requires-clause-there c).After-self in
    λ none. none-some there.0 (sym none ∙ there.1)

pub restore-back-requires-clause-last : goal.restore-back-requires-clause-last
restore-back-requires-clause-last c = omega (arith, c.self.invariant.places, length-map c.self.inside.issued issued_as, ap (λ (z : Rows). length z.issued) c.self.view_is, c.requires.last)

pub push-requires : goal.push-requires
push-requires c = omega (arith, length-map c.self.inside.issued issued_as, ap (λ (z : Rows). length z.issued) c.self.view_is, c.requires.last)

pub invariant_of-self : goal.invariant_of-self
invariant_of-self c =
    let i = c.self.inside in
    let kept = c.self.invariant in
    let there = there-in (goal.at.invariant_of-self c).After-self in
    let alive = sym c.is_alive.ensures ∙ c.if-is_alive.true in
    let given = is-given c.restore-back.result.0 alive in
    let anew = c.restore-back.ensures.anew given.0 given.1 in
    let uncleared = kept-told i.table.rows c.args.h there.0 c.restore-back.result.0 there.1 alive c.restore-back.ensures.cleared in
    let own = peer-told i.table.rows c.args.h there.0 c.restore-back.result.1 there.1 c.restore-back.ensures.peer in
    let pushed = subst (λ (q : PNum). c.push.new.self ≡ i.issued ++ record { peer = q; hold = Held; strength = Strong } ∷ []) (sym own) c.push.ensures in
    let new : Issue = record { peer = there.0.peer; hold = Held; strength = Strong } in
    record {
      rising = c.restore-back.ensures.rising;
      places = omega (arith, anew.2, kept.places, ap length pushed, length-append i.issued (new ∷ []));
      rows_issued = AreRowsIssued-renewed i.issued c.push.new.self i.table c.restore-back.new.self new c.args.h given.0 pushed anew.1
          (anew.0 ∙ renewed-put i.table.rows c.args.h given.0 there.0 there.1 uncleared) kept.places kept.rising kept.rows_issued;
      sorted = kept.sorted;
      short = kept.short;
    }

pub returns-then-is_alive-clause-row : goal.returns-then-is_alive-clause-row
returns-then-is_alive-clause-row c =
    let i = c.self.inside in
    let kept = c.self.invariant in
    let there = there-in (goal.at.returns-then-is_alive-clause-row c).After-self in
    let alive = sym c.is_alive.ensures ∙ c.if-is_alive.true in
    let given = is-given c.restore-back.result.0 alive in
    let anew = c.restore-back.ensures.anew given.0 given.1 in
    let uncleared = kept-told i.table.rows c.args.h there.0 c.restore-back.result.0 there.1 alive c.restore-back.ensures.cleared in
    let own = peer-told i.table.rows c.args.h there.0 c.restore-back.result.1 there.1 c.restore-back.ensures.peer in
    let pushed = subst (λ (q : PNum). c.push.new.self ≡ i.issued ++ record { peer = q; hold = Held; strength = Strong } ∷ []) (sym own) c.push.ensures in
    let old = rows_with i.heap i.sorts.items i.names i.issued i.table in
    let new = rows_with i.heap i.sorts.items i.names c.push.new.self c.restore-back.new.self in
    subst (λ (z : Rows). RestoresRow z c.args.h.0 c.restore-back.result.0 new) c.self.view_is (subst (λ (b : Back). RestoresRow old c.args.h.0 b new) (sym given.1) (
      renewed-row i.heap i.sorts.items i.names i.issued c.push.new.self i.table c.restore-back.new.self c.args.h given.0 there.0
          kept.rising kept.rows_issued kept.places there.1 uncleared pushed anew.0 anew.1 c.restore-back.ensures.made anew.2,
      refl,
    ))

pub returns-then-is_alive-clause-peer : goal.returns-then-is_alive-clause-peer
returns-then-is_alive-clause-peer c = peer-in (goal.at.returns-then-is_alive-clause-peer c).After-restore-back

pub invariant_of-self-else-is_alive : goal.invariant_of-self-else-is_alive
invariant_of-self-else-is_alive c =
    let i = c.self.inside in
    let kept = c.self.invariant in
    let gone = c.restore-back.ensures.gone (is-cleared c.restore-back.result.0 (sym c.is_alive.ensures ∙ c.if-is_alive.false)) in
    record {
      rising = c.restore-back.ensures.rising;
      places = gone.1 ∙ kept.places;
      rows_issued = AreRowsIssued-removed i.issued i.table c.restore-back.new.self c.args.h gone.0 kept.rows_issued;
      sorted = kept.sorted;
      short = kept.short;
    }

pub returns-else-is_alive-clause-row : goal.returns-else-is_alive-clause-row
returns-else-is_alive-clause-row c =
    let i = c.self.inside in
    let kept = c.self.invariant in
    let there = there-in (goal.at.returns-else-is_alive-clause-row c).After-self in
    let is = is-cleared c.restore-back.result.0 (sym c.is_alive.ensures ∙ c.if-is_alive.false) in
    let gone = c.restore-back.ensures.gone is in
    let cleared = cleared-told i.table.rows c.args.h there.0 there.1 (c.restore-back.ensures.cleared.0 is) in
    let old = rows_with i.heap i.sorts.items i.names i.issued i.table in
    let new = rows_with i.heap i.sorts.items i.names i.issued c.restore-back.new.self in
    subst (λ (z : Rows). RestoresRow z c.args.h.0 c.restore-back.result.0 new) c.self.view_is (subst (λ (b : Back). RestoresRow old c.args.h.0 b new) (sym is)
    (removed-row i.heap i.sorts.items i.names i.issued i.table c.restore-back.new.self c.args.h there.0 kept.rising there.1 cleared gone.0 c.restore-back.ensures.made gone.1))

pub returns-else-is_alive-clause-peer : goal.returns-else-is_alive-clause-peer
returns-else-is_alive-clause-peer c = peer-in (goal.at.returns-else-is_alive-clause-peer c).After-restore-back
