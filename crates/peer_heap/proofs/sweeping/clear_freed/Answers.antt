-- One more peer is done in each turn.
use Rattle.std.proofs.Common.{◌≡◌, ◌+◌, ◌∙◌, ◌≤◌, ◌++◌, [], ◌∷◌, length, map, take, get_or, refl, sym, ap, subst, arith}
use Rattle.std.specs.Prelude.{All}
use Rattle.std.proofs.lemmas.List.{map-append, take_all, take_more}
use Rattle.joint_machine.specs.declared.names.PNum.{PNum}
use Rattle.joint_machine.specs.Histories.{peer_numbers}
use Rattle.global_handles.specs.Rows.{IsWeakFor, cleared_for}
use Rattle.joint_machine.specs.PeerReplay.{cleared_rows}
use Rattle.peer_heap.specs.Marking.{cleared_on}
use Rattle.peer_heap.specs.Rows.{issued_as, table_to}
use Rattle.peer_heap.proofs.Clearing.{cleared-next, cleared-none, table-cleared, weak-cleared}
use Rattle.peer_heap.proofs.sweeping.clear_freed.Goals as goal

pub loop-p-init : goal.loop-p-init
loop-p-init c = record { rows = sym (cleared-none c.args.table.now.rows); made = refl; last = refl }

pub clear_target-requires : goal.clear_target-requires
clear_target-requires c =
    let d : PNum = record { 0 = 0 } in
    let p = get_or c.args.freed.now c.loop-p.p-index d in
    subst (All (IsWeakFor p)) (sym c.loop-p.invariant.rows) (weak-cleared _ p c.args.table.now.rows (c.requires c.loop-p.p-index d c.loop-p-test.true))

pub loop-p-preserved : goal.loop-p-preserved
loop-p-preserved c =
    let freed = c.args.freed.now in
    let i = c.loop-p.p-index in
    let d : PNum = record { 0 = 0 } in
    let p = get_or freed i d in
    let more : take (i + 1) freed ≡ take i freed ++ p ∷ [] = take_more freed i d c.loop-p-test.true in
    record {
      rows = c.clear_target.ensures.rows ∙ (ap (cleared_for p) c.loop-p.invariant.rows ∙ (cleared-next (peer_numbers (take i freed)) p c.args.table.now.rows
          ∙ ap (λ l. map (cleared_on l) c.args.table.now.rows) (sym (ap peer_numbers more ∙ map-append (λ (q : PNum). q.0) (take i freed) (p ∷ [])))));
      made = c.clear_target.ensures.made ∙ c.loop-p.invariant.made;
      last = c.clear_target.ensures.last ∙ c.loop-p.invariant.last;
    }

pub returns-clause-rows : goal.returns-clause-rows
returns-clause-rows c =
    let all : length c.args.freed.now ≤ c.loop-p.p-index = omega (arith, c.loop-p-test.false) in
    rw take_all at c.loop-p.invariant.rows

pub returns-clause-cleared : goal.returns-clause-cleared
returns-clause-cleared c = λ issued last own.
    let freed = c.args.freed.now in
    let all : length freed ≤ c.loop-p.p-index = omega (arith, c.loop-p-test.false) in
    let whole : take c.loop-p.p-index freed ≡ freed = take_all c.loop-p.p-index freed all in
    let rows = c.loop-p.invariant.rows ∙ ap (λ l. map (cleared_on (peer_numbers l)) c.args.table.now.rows) whole in
    let some : take c.args.table.now.last issued ≡ issued = take_all c.args.table.now.last issued (omega (arith, last)) in
    ap (λ l. table_to l c.loop-p.table.last) rows
    ∙ (ap (table_to (map (cleared_on (peer_numbers freed)) c.args.table.now.rows)) c.loop-p.invariant.last
    ∙ (table-cleared (peer_numbers freed) c.args.table.now.rows issued c.args.table.now.last (omega (arith, last)) own
    ∙ ap (λ l. cleared_rows (peer_numbers freed) (map issued_as l) (table_to c.args.table.now.rows c.args.table.now.last)) some))
