use Rattle.std.proofs.Common.{sym, ◌∙◌, arith, true≢false}
use Rattle.std.proofs.lemmas.List.{length-map}
use Rattle.joint_machine.specs.Histories.{peer_numbers}
use Rattle.run_check.proofs.Stretches.{alike_more, mapped_place, rest_no, rest_told}
use Rattle.run_check.proofs.replies.peers_as_named.Goals as goal

pub returns-then-not-is_peer_freed_at : goal.returns-then-not-is_peer_freed_at
returns-then-not-is_peer_freed_at c =
    let l = length-map c.args.freed.now (λ x. x.0) in
    rest_no (peer_numbers c.args.h.now.freed_peers) (peer_numbers c.args.freed.now) c.args.span (omega (arith, l, c.requires.within)) c.loop-i.i c.loop-i.auto.i (omega (arith, l, c.loop-i-test.true))
    (λ e. true≢false (sym (c.is_peer_freed_at.ensures.1 (e ∙ mapped_place (λ x. x.0) c.args.freed.now c.loop-i.i (record { 0 = 0 }) c.loop-i-test.true)) ∙ c.if-not-is_peer_freed_at.true))

pub loop-i-preserved : goal.loop-i-preserved
loop-i-preserved c = alike_more (peer_numbers c.args.h.now.freed_peers) (peer_numbers c.args.freed.now) c.args.span.first c.loop-i.i c.loop-i.invariant
    (c.is_peer_freed_at.ensures.0 c.if-not-is_peer_freed_at.false ∙ sym (mapped_place (λ x. x.0) c.args.freed.now c.loop-i.i (record { 0 = 0 }) c.loop-i-test.true))

pub returns : goal.returns
returns c =
    let l = length-map c.args.freed.now (λ x. x.0) in
    let n = length-map c.args.h.now.freed_peers (λ x. x.0) in
    rest_told (peer_numbers c.args.h.now.freed_peers) (peer_numbers c.args.freed.now) c.args.span (omega (arith, l, c.requires.within))
    (let w = c.has_freed_peers.ensures.0 c.if-not-has_freed_peers.false in omega (arith, l, n, w))
    (λ k low high. c.loop-i.invariant k low (omega (arith, l, high, c.loop-i-test.false)))
