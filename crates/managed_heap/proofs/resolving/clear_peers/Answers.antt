-- One row more in each turn.
use Rattle.std.proofs.Common.{◌≡◌, ◌∙◌, List, ◌∷◌, [], ap, sym, subst, arith, length, get_or, refl}
use Rattle.std.proofs.lemmas.List.{length-map, take_all}
use Rattle.joint_machine.specs.declared.names.MNum.{MNum}
use Rattle.joint_machine.specs.Histories.{managed_numbers}
use Rattle.joint_machine.proofs.Deciding.{true_false}
use Rattle.managed_heap.specs.declared.rows.Header.{Header}
use Rattle.managed_heap.specs.Resolving.{AreCleared}
use Rattle.managed_heap.proofs.Forgetting.{AreCleared-start, AreCleared-then, numbers-more}
use Rattle.managed_heap.proofs.Peers.{peers_of}
use Rattle.managed_heap.proofs.resolving.clear_peers.Goals as goal
use Rattle.managed_heap.proofs.resolving.clear_peers.Goals.{then-clear_peer, else-clear_peer}

pub loop-m-init : goal.loop-m-init
loop-m-init c = record { cleared = AreCleared-start (peers_of c.args.headers.now.items); none = λ e. refl; kinds = refl; handles = refl }

pub clear_peer-requires : goal.clear_peer-requires
clear_peer-requires c =
    let many : length c.loop-m.headers.items ≡ length c.args.headers.now.items = sym (length-map c.loop-m.headers.items (λ (i : Header). i.kind))
    ∙ (ap length c.loop-m.invariant.kinds ∙ length-map c.args.headers.now.items (λ (i : Header). i.kind)) in
    let row = c.requires.rows c.loop-m.m-index record { 0 = 0 } c.loop-m-test.true in
    record { row = (row.0, omega (arith, row.1, many)) }

pub loop-m-preserved : goal.loop-m-preserved
loop-m-preserved c = record {
  cleared = subst (λ xs. AreCleared (peers_of c.args.headers.now.items) (peers_of c.clear_peer.new.headers.items) xs)
      (sym (numbers-more c.args.rows.now c.loop-m.m-index record { 0 = 0 } c.loop-m-test.true))
      (AreCleared-then (peers_of c.args.headers.now.items) (peers_of c.loop-m.headers.items) (peers_of c.clear_peer.new.headers.items) _
      ((get_or c.args.rows.now c.loop-m.m-index record { 0 = 0 }).0 ∷ []) c.loop-m.invariant.cleared c.clear_peer.ensures.cleared);
  none = elim c.if-clear_peer.branch [
    | then-clear_peer w ↦ λ e. absurd (true_false (sym w.any-is ∙ e))
    | else-clear_peer w ↦ λ e. c.clear_peer.ensures.none w.if-clear_peer.false ∙ c.loop-m.invariant.none (sym w.any-is ∙ e)
  ];
  kinds = c.clear_peer.ensures.kinds ∙ c.loop-m.invariant.kinds;
  handles = c.clear_peer.ensures.handles ∙ c.loop-m.invariant.handles;
}

pub returns-clause-cleared : goal.returns-clause-cleared
returns-clause-cleared c = subst (λ (ms : List MNum). AreCleared (peers_of c.args.headers.now.items) (peers_of c.loop-m.headers.items) (managed_numbers ms))
    (take_all c.loop-m.m-index c.args.rows.now (omega (arith, c.loop-m-test.false))) c.loop-m.invariant.cleared
