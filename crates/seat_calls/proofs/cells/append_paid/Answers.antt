use Rattle.std.proofs.Common.{◌≡◌, sym, ap, ◌∙◌, [], ◌∷◌, ◌++◌, subst}
use Rattle.std.specs.Prelude.{Some}
use Rattle.joint_machine.specs.Lines.{is_peer_event}
use Rattle.order_table.specs.declared.views.KeptEntry.{KeptEntry}
use Rattle.order_table.specs.declared.views.View.{View}
use Rattle.order_table.specs.Owed.{mark, says_word, target_told}
use Rattle.order_table.specs.Views.{kept, known, role_line}
use Rattle.order_table.proofs.Free.{sets_frees_none}
use Rattle.seat_calls.proofs.Words.{managed_first, says_set, same_history}
use Rattle.seat_calls.proofs.cells.append_paid.Goals as goal

pub write_cell-requires-clause-cell : goal.write_cell-requires-clause-cell
write_cell-requires-clause-cell c =
    let m = c.args.made.now in
    let first = managed_first (role_line c.args.role) (is_peer_event m.caller m.op) c.requires.side (λ e. (c.requires.stands.peer e).1) c.in-Some-cell_set.ensures.side in
    let marks = subst (λ aim. mark m.op (target_told m.caller m.op aim) ≡ Some (c.in-Some-cell_set.k.0, c.in-Some.m.0)) (sym c.in-Some.is) (c.in-Some-cell_set.ensures.some c.in-Some.m) in
    (c.requires.may.cells first c.in-Some-cell_set.k.0 c.in-Some.m.0 marks).0

pub write_cell-requires-clause-word : goal.write_cell-requires-clause-word
write_cell-requires-clause-word c =
    let m = c.args.made.now in
    let v = c.args.seat.now.view in
    let first = managed_first (role_line c.args.role) (is_peer_event m.caller m.op) c.requires.side (λ e. (c.requires.stands.peer e).1) c.in-Some-cell_set.ensures.side in
    let marks = subst (λ aim. mark m.op (target_told m.caller m.op aim) ≡ Some (c.in-Some-cell_set.k.0, c.in-Some.m.0)) (sym c.in-Some.is) (c.in-Some-cell_set.ensures.some c.in-Some.m) in
    let k : KeptEntry = kept v m c.args.target c.args.freed.now c.append-number.result in
    let grown : known c.append-number.new.seat.view 0 ≡ known v 0 ++ k ∷ [] = subst (λ i. known c.append-number.new.seat.view i ≡ known v i ++ k ∷ []) first c.append-number.ensures.grows.role in
    sym (ap (λ ks. says_word ks c.in-Some-cell_set.k.0) grown ∙ says_set (known v 0) k c.in-Some-cell_set.k.0 c.in-Some.m.0 marks
    (c.requires.may.cells first c.in-Some-cell_set.k.0 c.in-Some.m.0 marks).3
    (sets_frees_none m.op m.caller c.args.target c.args.freed.now c.in-Some-cell_set.k.0 c.in-Some.m.0 marks))

pub returns-clause-one_history : goal.returns-clause-one_history
returns-clause-one_history c = same_history c.append-number.new.seat.view c.write_cell.new.seat.view (ap (λ (u : View). u.known) c.write_cell.ensures.seat.1) c.append-number.ensures.one_history
