use Rattle.std.proofs.Common.{arith, ap, length, refl, true}
use Rattle.joint_machine.specs.declared.names.PNum.{PNum}
use Rattle.entry_reader.specs.Meaning.{as_peers}
use Rattle.entry_reader.proofs.NumberParts.{put_all, put_more, put_none, peers_push}
use Rattle.entry_reader.proofs.lists.put_peers.Goals as goal

pub loop-n-init : goal.loop-n-init
loop-n-init c = record { so_far = put_none as_peers true 112 c.args.words.now c.args.list.now.items refl; limit = c.requires }

pub loop-n-preserved : goal.loop-n-preserved
loop-n-preserved c =
    let more = put_more as_peers (λ n. let x : PNum = record { 0 = n } in x) true 112 c.loop-n.least c.in-Some.n c.args.words.now c.loop-n.words c.next_number.new.words
    c.args.list.now.items c.loop-n.list.items c.put.new.list.items peers_push (λ e. omega (arith, e)) c.in-Some.ensures c.loop-n.invariant.so_far c.in_ok-put.ensures.put in
    record { so_far = rw c.least_after-least.ensures more; limit = c.put.ensures.limit }

pub loop-n-smaller : goal.loop-n-smaller
loop-n-smaller c = omega (arith, ap length c.in-Some.ensures.sound.2)

pub returns-clause-put : goal.returns-clause-put
returns-clause-put c = put_all as_peers true 112 c.loop-n.least c.args.words.now c.loop-n.words
    c.next_number.new.words c.args.list.now.items c.loop-n.list.items c.in_default.ensures c.loop-n.invariant.so_far
