-- A class is listed at its least node, and there is room for it: nodes that stand for different classes are different.
use Rattle.std.proofs.Common.{◌≡◌, ◌+◌, ◌++◌, ◌∷◌, [], ℕ, length, refl, sym, ◌∙◌, ap, arith}
use Rattle.std.proofs.lemmas.List.{length_push}
use Rattle.component_pass.proofs.Heavies.{heavy-none, heavy-skip, heavy-more, heavy-next}
use Rattle.component_pass.proofs.heaviness.number_heavy.Goals as goal
use Rattle.component_pass.proofs.heaviness.number_heavy.Goals.{then-is_heavy+in_ok-indexes, else-is_heavy}

pub loop-x-init : goal.loop-x-init
loop-x-init c = record {
  heavy = ([], sym c.requires.none, heavy-none c.args.labels.now c.args.indexes.now c.args.outs.now c.args.ins.now (length c.args.builder.now.comps));
  comps = refl;
  pairs = refl;
}

pub bridgeless-requires : goal.bridgeless-requires
bridgeless-requires c =
    let i = c.loop-x.invariant in
    let h = i.heavy in
    let n = heavy-next c.args.labels.now c.args.indexes.now c.args.outs.now c.args.ins.now (length c.args.builder.now.comps) c.loop-x.x c.loop-x.indexes h.0 c.if-is_heavy.ensures.0 h.2 in
    let room = c.requires.room (h.0 ++ c.loop-x.x ∷ []) n.0 (λ k d lt. (omega (arith, n.1 k d lt, c.loop-x-test.true), n.2 k d lt)) in
    record { few = omega (arith, room, h.1, length_push h.0 c.loop-x.x, ap length i.comps) }

pub loop-x-preserved : goal.loop-x-preserved
loop-x-preserved c =
    let i = c.loop-x.invariant in
    let h = i.heavy in
    let labels = c.args.labels.now in
    let before = c.args.indexes.now in
    let outs = c.args.outs.now in
    let ins = c.args.ins.now in
    let count : ℕ = length c.args.builder.now.comps in
    let x : ℕ = c.loop-x.x in
    elim c.if-is_heavy.branch [
      | then-is_heavy+in_ok-indexes w ↦
          let at : w.in_ok-indexes.field-0 ≡ count + length h.0 = omega (arith, w.in_ok-indexes.ensures.index, h.1, ap length i.comps) in
          let t = heavy-next labels before outs ins count x c.loop-x.indexes h.0 w.if-is_heavy.ensures.0 h.2 in
          let room = c.requires.room (h.0 ++ x ∷ []) t.0 (λ k d lt. (omega (arith, t.1 k d lt, c.loop-x-test.true), t.2 k d lt)) in
          let n = heavy-more labels before outs ins count x c.loop-x.indexes h.0
          (c.requires.labels x 0 c.loop-x-test.true) w.if-is_heavy.ensures.0 w.if-is_heavy.ensures.1 (omega (arith, room, length_push h.0 x)) h.2 in
          rw (w.indexes-is, w.builder-is, at) record {
            heavy = (h.0 ++ x ∷ [], omega (arith, length_push h.0 x, h.1, w.in_ok-indexes.ensures.heavy), n);
            comps = w.bridgeless.ensures.comps ∙ i.comps;
            pairs = w.bridgeless.ensures.pairs ∙ i.pairs;
          }
      | else-is_heavy w ↦
          rw (w.indexes-is, w.builder-is) record {
            heavy = (h.0, h.1, heavy-skip labels before outs ins count x c.loop-x.indexes h.0 (λ e m. w.if-is_heavy.ensures (e, m)) h.2);
            comps = i.comps;
            pairs = i.pairs;
          }
    ]
