use Rattle.std.proofs.Common.{rules, tests}
use Rattle.std.specs.BTreeMap.{keys}
use Rattle.std.proofs.lemmas.Iterator.{YieldsList-from_map, items_from_collect}
use Rattle.std.proofs.lemmas.Iterator.Consumers.{YieldsList-at, YieldsList-from_rest}
use Rattle.joint_machine.specs.declared.names.HNum.{HNum}
use Rattle.log_text.proofs.live.keys_of.Goals as goal

pub returns-clause-keys : goal.returns-clause-keys
returns-clause-keys c = items_from_collect c.collect.result c.collect.ensures.ran
    (YieldsList-from_map _ (λ k. let h : HNum = record { 0 = k } in h)
    (YieldsList-at c.map.ensures.source (YieldsList-from_rest (keys c.args.map.now) c.keys.ensures.rest)) c.map.ensures.closure (λ x r q k. search (rules, tests)))
