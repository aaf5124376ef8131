use Rattle.std.proofs.Common.{◌≡◌, ◌+◌, ◌∙◌, ap, drop, arith, length-drop}
use Rattle.byte_streams.proofs.Bytes.{rest_of}
use Rattle.android_log.specs.Placed.{tag_from}
use Rattle.android_log.proofs.Steps.{tag_here, tag_on, tag_skip}
use Rattle.android_log.proofs.placed.tag_in.Goals as goal

pub loop-at-init : goal.loop-at-init
loop-at-init c = record {
  is = tag_skip c.first_place_far-at.result 0 c.args.line.now c.first_place_far-at.ensures.within c.first_place_far-at.ensures.before
      ∙ ap (λ k. tag_from k (drop c.first_place_far-at.result c.args.line.now)) (let e : 0 + c.first_place_far-at.result ≡ c.first_place_far-at.result = omega arith in e);
  within = c.first_place_far-at.ensures.within;
}

pub returns-in-Some-clause-is : goal.returns-in-Some-clause-is
returns-in-Some-clause-is c =
    let here = rw (rest_of c.loop-at.at c.args.line.now) at c.in-Some.ensures in
    c.loop-at.invariant.is ∙ tag_here c.args.line.now c.loop-at.at _ _ (omega arith) here

pub loop-at-preserved : goal.loop-at-preserved
loop-at-preserved c =
    let line = c.args.line.now in
    let at = c.loop-at.at in
    let f = c.first_place_far.ensures in
    let none = rw (rest_of at line) at c.in-None.ensures in
    let within = rw (rest_of (at + 1) line) at f.within in
    record {
      is = c.loop-at.invariant.is ∙ tag_on line at c.first_place_far.result (omega arith) none within (rw (rest_of (at + 1) line) at f.before);
      within = omega (arith, within, length-drop (at + 1) line);
    }
