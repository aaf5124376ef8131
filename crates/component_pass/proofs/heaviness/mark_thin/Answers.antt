-- Whether a class is thin is told by its label, so all its nodes are thin or none.
use Rattle.std.proofs.Common.{◌≡◌, ◌↔◌, ◌≤◌, ◌<◌, ◌+◌, ℕ, Bool, true, false, List, length, get_or, set, refl, sym, ◌∙◌, arith, inl, inr}
use Rattle.std.proofs.lemmas.List.{length-set, get_or-set_same, get_or-set_other}
use Rattle.std.proofs.lemmas.Bool.{cases_eq}
use Rattle.component_pass.proofs.heaviness.mark_thin.Goals as goal

same_truth : (a b : Bool) (P : Type 0) → (a ≡ true) ↔ P → (b ≡ true) ↔ P → a ≡ b
same_truth true true P p q = refl
same_truth false false P p q = refl
same_truth true false P p q = sym (q.1 (p.0 refl))
same_truth false true P p q = p.1 (q.0 refl)

one_more : (thin : List Bool) (x : ℕ) (b : Bool) (P : ℕ → Type 0) → x < length thin → ((k : ℕ) → k < x → (get_or thin k false ≡ true) ↔ P k) → (b ≡ true) ↔ P x
    → (k : ℕ) → k < x + 1 → (get_or (set thin x b) k false ≡ true) ↔ P k
one_more thin x b P lt h is k kl = elim (cases_eq k x) [
  | inl e ↦ rw (e, get_or-set_same thin x b false lt) is
  | inr ne ↦ rw (get_or-set_other thin x k b false ne) (h k (omega (arith, kl, ne)))
]

pub loop-x-preserved : goal.loop-x-preserved
loop-x-preserved c =
    let i = c.loop-x.invariant in
    record {
      size = length-set c.loop-x.thin c.loop-x.x c.is_narrow.result ∙ i.size;
      done = one_more c.loop-x.thin c.loop-x.x c.is_narrow.result
          (λ k. (get_or c.args.indexes.now (get_or c.args.labels.now k 0) 0 ≡ 4294967295)
          × (3 ≤ get_or c.args.outs.now (get_or c.args.labels.now k 0) 0) × (get_or c.args.ins.now (get_or c.args.labels.now k 0) 0 < 3))
          (omega (arith, i.size, c.requires.thin, c.loop-x-test.true)) i.done c.is_narrow.ensures;
    }

pub returns : goal.returns
returns c =
    let i = c.loop-x.invariant in
    record {
      whole = i.size ∙ c.requires.thin;
      bare = λ x lt t. ((i.done x (omega arith)).0 t).0;
      same = λ x y xl yl e. same_truth (get_or c.loop-x.thin x false) (get_or c.loop-x.thin y false)
          ((get_or c.args.indexes.now (get_or c.args.labels.now x 0) 0 ≡ 4294967295)
          × (3 ≤ get_or c.args.outs.now (get_or c.args.labels.now x 0) 0) × (get_or c.args.ins.now (get_or c.args.labels.now x 0) 0 < 3))
          (i.done x (omega arith)) (rw e (i.done y (omega arith)));
    }
