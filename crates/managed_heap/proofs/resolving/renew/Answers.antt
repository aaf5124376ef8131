-- Each turn gives one candidate more its handle.
use Rattle.std.proofs.Common.{◌≡◌, ◌∙◌, ◌<◌, ◌≤◌, ◌∷◌, [], length, get_or, map, take, None, sym, ap, arith}
use Rattle.std.proofs.lemmas.List.{take_all}
use Rattle.std.proofs.lemmas.List.Elements.{All-contains}
use Rattle.std.proofs.lemmas.Option.{get_or_from_slice_get, slice_get-get_or}
use Rattle.joint_machine.proofs.Members.{Contains-at}
use Rattle.joint_model.specs.Listed.{answer_of, answers_of}
use Rattle.joint_machine.specs.Managed.{renewed}
use Rattle.managed_heap.specs.declared.rows.Header.{Header}
use Rattle.managed_heap.proofs.Renewals.{renewed-more}
use Rattle.managed_heap.proofs.resolving.renew.Goals as goal

pub renew_row-requires : goal.renew_row-requires
renew_row-requires c =
    let cs = c.args.candidates.now in
    let i = c.loop-i.i in
    let here : i < length cs = omega (arith, c.requires.answers, c.loop-i-test.true, c.len-i-end.ensures) in
    let row = All-contains (λ m. (1 ≤ m) × (m ≤ length c.args.headers.now.items)) cs (get_or cs i 0) c.requires.rows (Contains-at cs i (get_or cs i 0) (slice_get-get_or cs i 0 here)) in
    record { row = (row.0, omega (arith, row.1, c.loop-i.invariant.len)) }

pub loop-i-preserved : goal.loop-i-preserved
loop-i-preserved c =
    let cs = c.args.candidates.now in
    let said = c.args.alive.now.values in
    let i = c.loop-i.i in
    let held = map (λ (k : Header). k.handle) c.args.headers.now.items in
    let there : i < length said = omega (arith, c.loop-i-test.true, c.len-i-end.ensures) in
    let here : i < length cs = omega (arith, c.requires.answers, there) in
    let is : get_or said i None ≡ c.answer_at.result = get_or_from_slice_get said i c.answer_at.result None c.answer_at.ensures in
    record {
      handles = c.renew_row.ensures.handles
          ∙ (ap (λ z. renewed z (get_or cs i 0 ∷ []) (answer_of c.answer_at.result ∷ [])) c.loop-i.invariant.handles
          ∙ (ap (λ b. renewed (renewed held (take i cs) (answers_of (take i said))) (get_or cs i 0 ∷ []) (answer_of b ∷ [])) (sym is) ∙ sym (renewed-more held cs said i here there)));
      kinds = c.renew_row.ensures.kinds ∙ c.loop-i.invariant.kinds;
      peers = c.renew_row.ensures.peers ∙ c.loop-i.invariant.peers;
      len = c.renew_row.ensures.len ∙ c.loop-i.invariant.len;
    }

pub returns-clause-handles : goal.returns-clause-handles
returns-clause-handles c =
    let cs = c.args.candidates.now in
    let said = c.args.alive.now.values in
    let i = c.loop-i.i in
    let held = map (λ (k : Header). k.handle) c.args.headers.now.items in
    let many : length said ≤ i = omega (arith, c.loop-i-test.false, c.len-i-end.ensures) in
    c.loop-i.invariant.handles
    ∙ (ap (λ z. renewed held z (answers_of (take i said))) (take_all i cs (omega (arith, many, c.requires.answers)))
    ∙ ap (λ z. renewed held cs (answers_of z)) (take_all i said many))
