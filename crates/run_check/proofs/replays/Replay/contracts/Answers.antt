use Rattle.std.proofs.Common.{◌≡◌, ℕ, Some, None, refl, sym, ap, ◌∙◌, subst}
use Rattle.joint_machine.specs.declared.events.Op.TheVariants as op
use Rattle.check_laws.specs.Behind.{state_of}
use Rattle.xref_list.specs.Listing.{IsListing, Listing}
use Rattle.run_check.specs.declared.cycles.OpenCycle.{OpenCycle as Kept}
use Rattle.run_check.specs.declared.replays.Replay.{Replay}
use Rattle.run_check.specs.Judging.{AnswersRightly, MayReply}
use Rattle.run_check.proofs.Contracting.{HasContracted, contract_judges, contract_may, contracting}
use Rattle.run_check.proofs.OneReply.{answers_rightly}
use Rattle.run_check.proofs.PastFacts.{driver_made}
use Rattle.run_check.proofs.replays.Replay.contracts.Goals as goal

pub contracted-requires-clause-contracted : goal.contracted-requires-clause-contracted
contracted-requires-clause-contracted c =
    let h = c.args.h.now in
    let m = c.args.made.now in
    let old = c.args.self.now in
    let past = c.requires.ready.0 in
    let may = c.requires.ready.1 in
    let l : Listing = c.in-Ok.comps in
    let shape : m ≡ contracting c.args.cycle m.index m.reply = driver_made (state_of past) m (op.Contract c.args.cycle) None c.requires.op (λ d. d) (λ x. x) may.next.turn may.next.cites in
    let w : HasContracted c.in-Some.open l c.len-sccs.result c.xrefs-xrefs.result =
    record {
      heavy = c.in-Ok.ensures.0;
      many = c.in-Ok.ensures.1;
      contraction = c.in-Ok.ensures.2;
      listed = c.len-sccs.ensures.listing;
      components = c.len-sccs.ensures.count;
      references = c.xrefs-xrefs.ensures;
    } in
    contract_may h past old c.args.cycle m.index m.reply (subst (λ z. MayReply h past old z) shape may) c.in-Some.open c.in-Some.is l c.len-sccs.result c.xrefs-xrefs.result w

pub returns : goal.returns
returns c =
    let h = c.args.h.now in
    let m = c.args.made.now in
    let old = c.args.self.now in
    let may = c.requires.ready.1 in
    let l : Listing = c.in-Ok.comps in
    let b = c.is_same.result in
    let shape : m ≡ contracting c.args.cycle m.index m.reply = driver_made (state_of c.requires.ready.0) m
    (op.Contract c.args.cycle) None c.requires.op (λ d. d) (λ x. x) may.next.turn may.next.cites in
    let w : HasContracted c.in-Some.open l c.len-sccs.result c.xrefs-xrefs.result =
    record {
      heavy = c.in-Ok.ensures.0;
      many = c.in-Ok.ensures.1;
      contraction = c.in-Ok.ensures.2;
      listed = c.len-sccs.ensures.listing;
      components = c.len-sccs.ensures.count;
      references = c.xrefs-xrefs.ensures;
    } in
    let o : Kept = c.in-Some.open in
    let after : Replay = record old { managed = c.contracted.new.self; draw = c.contracted.new.draw; cycle = Some (record o { comps = Some l }) } in
    let same : c.keep_listing.new.self ≡ after = c.keep_listing.ensures o c.in-Some.is in
    subst (λ n. AnswersRightly h m old n b) (sym same) (subst (λ z. AnswersRightly h z old after b)
    (sym shape) (answers_rightly h (contracting c.args.cycle m.index m.reply) old after b refl tt (λ past v.
    contract_judges h past old c.args.cycle m.index m.reply v o c.in-Some.is l c.len-sccs.result c.xrefs-xrefs.result w c.if-open-cycle.false
    c.contracted.new.draw c.contracted.new.self c.contracted.ensures.contracts b c.is_same.ensures.0 c.is_same.ensures.1)))
