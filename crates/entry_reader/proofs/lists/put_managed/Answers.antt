use Rattle.std.proofs.Common.{arith, ap, length, refl}
use Rattle.joint_machine.specs.declared.names.MNum.{MNum}
use Rattle.entry_reader.specs.Meaning.{as_managed}
use Rattle.entry_reader.proofs.NumberParts.{put_all, put_more, put_none, managed_push}
use Rattle.entry_reader.proofs.lists.put_managed.Goals as goal

pub loop-n-init : goal.loop-n-init
loop-n-init c = record { so_far = put_none as_managed c.args.rising 109 c.args.words.now c.args.list.now.items refl; limit = c.requires }

pub loop-n-preserved : goal.loop-n-preserved
loop-n-preserved c =
    let more = put_more as_managed (λ n. let x : MNum = record { 0 = n } in x) c.args.rising 109 c.loop-n.least c.in-Some.n c.args.words.now c.loop-n.words c.next_number.new.words
    c.args.list.now.items c.loop-n.list.items c.put.new.list.items managed_push (λ e. omega (arith, e)) c.in-Some.ensures c.loop-n.invariant.so_far c.in_ok-put.ensures.put in
    record { so_far = rw c.least_after-least.ensures more; limit = c.put.ensures.limit }

pub loop-n-smaller : goal.loop-n-smaller
loop-n-smaller c = omega (arith, ap length c.in-Some.ensures.sound.2)

pub returns-clause-put : goal.returns-clause-put
returns-clause-put c = put_all as_managed c.args.rising 109 c.loop-n.least c.args.words.now c.loop-n.words
    c.next_number.new.words c.args.list.now.items c.loop-n.list.items c.in_default.ensures c.loop-n.invariant.so_far
