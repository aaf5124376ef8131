-- One set's size more.
use Rattle.component_pass.specs.Counting.{cap}
use Rattle.std.proofs.Common.{◌≡◌, ◌<◌, ◌≤◌, ◌+◌, ℕ, List, length, min, get_or, set, sym, ◌∙◌, ap, arith, inl, inr}
use Rattle.std.proofs.lemmas.List.{length-set, get_or-set_same, get_or-set_other}
use Rattle.std.proofs.lemmas.Bool.{cases_eq}
use Rattle.component_pass.specs.Gathering.{set_at}
use Rattle.component_pass.proofs.leading.put_sizes.Goals as goal
use Rattle.component_pass.proofs.leading.put_sizes.Goals.{then-counts-l-ge-LEAST, else-counts-l-ge-LEAST}

one_more : (counts ins : List ℕ) (l n : ℕ) (size : ℕ → ℕ) → l < length ins → n ≡ size l → ((k : ℕ) → k < l → 3 ≤ get_or counts k 0 → get_or ins k 0 ≡ size k)
    → (k : ℕ) → k < l + 1 → 3 ≤ get_or counts k 0 → get_or (set ins l n) k 0 ≡ size k
one_more counts ins l n size small is h k lt w = elim (cases_eq k l) [
  | inl e ↦ ap (λ (i : ℕ). get_or (set ins l n) i 0) e ∙ get_or-set_same ins l n 0 small ∙ is ∙ ap size (sym e)
  | inr ne ↦ get_or-set_other ins l k n 0 ne ∙ h k (omega (arith, lt, ne)) w
]

pub size_of-requires : goal.size_of-requires
size_of-requires c =
    let i = c.loop-l.invariant in
    omega (arith, i.rest c.loop-l.l (omega arith), c.requires.sets c.loop-l.l 0 (omega (arith, c.loop-l-test.true, i.size)))

pub loop-l-preserved : goal.loop-l-preserved
loop-l-preserved c =
    let i = c.loop-l.invariant in
    let l : ℕ = c.loop-l.l in
    let counts = c.args.counts.now in
    let size : ℕ → ℕ = λ k. min (length (set_at c.args.count c.args.lists.now (get_or c.args.ins.now k 0))) cap in
    elim c.if-counts-l-ge-LEAST.branch [
      | then-counts-l-ge-LEAST w ↦
          let n : w.min.result ≡ size l = omega (arith, w.size_of.ensures, ap (λ (s : ℕ). length (set_at c.args.count c.args.lists.now s)) (i.rest l (omega arith))) in
          rw w.ins-is record {
            size = length-set c.loop-l.ins l w.min.result ∙ i.size;
            done = one_more counts c.loop-l.ins l w.min.result size (omega (arith, c.loop-l-test.true, i.size)) n i.done;
            rest = λ k le. get_or-set_other c.loop-l.ins l k w.min.result 0 (λ e. absurd (omega (arith, e, le))) ∙ i.rest k (omega (arith, le));
          }
      | else-counts-l-ge-LEAST w ↦
          rw w.ins-is record {
            size = i.size;
            done = λ k lt many. elim (cases_eq k l) [
              | inl e ↦ absurd (omega (arith, many, ap (λ (j : ℕ). get_or counts j 0) e, w.if-counts-l-ge-LEAST.false))
              | inr ne ↦ i.done k (omega (arith, lt, ne)) many
            ];
            rest = λ k le. i.rest k (omega (arith, le));
          }
    ]
