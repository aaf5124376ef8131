-- A thin node that is not marked yet is marked and listed; one that is marked is listed already.
use Rattle.std.proofs.Common.{◌≡◌, ◌<◌, ◌++◌, ◌∷◌, [], ℕ, length, get_or, sym, ◌∙◌, ap, arith}
use Rattle.std.proofs.lemmas.List.{take_more}
use Rattle.std.proofs.lemmas.Bool.{true≢false}
use Rattle.component_pass.proofs.Nearness.{thin_none, thin_old, thin_new, listed_new}
use Rattle.component_pass.proofs.sharing.visit_thin.Goals as goal
use Rattle.component_pass.proofs.sharing.visit_thin.Goals.{then-thin-y+then-not-marks-y+in_ok-push, else-thin-y, else-thin-y-via-then-thin-y+else-not-marks-y, else-thin-y-via-else-thin-y}

pub loop-y-init : goal.loop-y-init
loop-y-init c = record { listed = c.requires.listed; visits = thin_none c.args.thin.now c.args.near.now.items c.args.marks.now }

pub loop-y-preserved : goal.loop-y-preserved
loop-y-preserved c =
    let i = c.loop-y.invariant in
    let y : ℕ = get_or c.args.row.now c.loop-y.y-index 0 in
    let lt : y < length c.loop-y.marks = omega (arith, c.requires.in_range c.loop-y.y-index 0 c.loop-y-test.true, i.visits.size) in
    rw (take_more c.args.row.now c.loop-y.y-index 0 c.loop-y-test.true) (elim c.if-thin-y.branch [
      | then-thin-y+then-not-marks-y+in_ok-push w ↦
          let items : c.if-thin-y.near.items ≡ c.loop-y.near.items ++ y ∷ [] = ap (λ v. v.items) w.near-is ∙ w.in_ok-push.ensures.items in
          rw (w.marks-is, items) record {
            listed = listed_new c.loop-y.marks c.loop-y.near.items y i.listed;
            visits = thin_new _ _ _ _ c.loop-y.near.items c.loop-y.marks y w.if-thin-y.true w.if-not-marks-y.true lt i.visits;
          }
      | else-thin-y w ↦ rw (w.marks-is, w.near-is) (elim w.else-thin-y.branch [
        | else-thin-y-via-then-thin-y+else-not-marks-y v ↦ record {
          listed = i.listed;
          visits = thin_old _ _ _ _ c.loop-y.near.items c.loop-y.marks y (λ t. i.listed y v.if-not-marks-y.false) i.visits;
        }
        | else-thin-y-via-else-thin-y v ↦ record {
          listed = i.listed;
          visits = thin_old _ _ _ _ c.loop-y.near.items c.loop-y.marks y (λ t. absurd (true≢false (sym t ∙ v.if-thin-y.false))) i.visits;
        }
      ])
    ])
