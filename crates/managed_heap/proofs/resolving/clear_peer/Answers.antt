-- Only the peer beside the row changes.
use Rattle.std.proofs.Common.{◌∙◌, Some, ap, refl, arith}
use Rattle.std.proofs.Math.Seq.{map-set_same}
use Rattle.std.proofs.lemmas.List.{length-map}
use Rattle.heap_rules.proofs.Numbered.{numbered-read}
use Rattle.managed_heap.specs.declared.rows.Header.{Header}
use Rattle.managed_heap.proofs.Forgetting.{AreCleared-none, AreCleared-set}
use Rattle.managed_heap.proofs.Peers.{peers_of}
use Rattle.managed_heap.proofs.resolving.clear_peer.Goals as goal

pub returns-in-None-clause-cleared : goal.returns-in-None-clause-cleared
returns-in-None-clause-cleared c =
    let headers = c.args.headers.now.items in
    AreCleared-none (peers_of headers) c.args.m.0 (numbered-read (λ (i : Header). i.peer) headers c.args.m.0 c.index.result.now c.requires.row.0
    (omega (arith, c.requires.row.1, length-map headers (λ (i : Header). i.peer))) c.index.ensures ∙ ap Some c.in-None.is)

pub returns-in-Some-clause-cleared : goal.returns-in-Some-clause-cleared
returns-in-Some-clause-cleared c = AreCleared-set c.args.headers.now.items c.args.m.0 _ c.requires.row.0 refl

pub returns-in-Some-clause-kinds : goal.returns-in-Some-clause-kinds
returns-in-Some-clause-kinds c = map-set_same (λ (i : Header). i.kind) c.args.headers.now.items _ _ c.index_mut.result.now (ap (λ (i : Header). i.kind) c.index_mut.ensures.value)

pub returns-in-Some-clause-handles : goal.returns-in-Some-clause-handles
returns-in-Some-clause-handles c = map-set_same (λ (i : Header). i.handle) c.args.headers.now.items _ _ c.index_mut.result.now (ap (λ (i : Header). i.handle) c.index_mut.ensures.value)
