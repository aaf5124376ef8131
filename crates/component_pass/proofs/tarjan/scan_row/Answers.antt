use Rattle.std.proofs.Common.{◌≡◌, ◌⊎◌, ◌+◌, ◌-◌, ◌<◌, ℕ, List, min, length, get_or, refl, ap, arith, inl, inr}
use Rattle.std.proofs.lemmas.Bool.{cases_lt}
use Rattle.component_pass.proofs.tarjan.scan_row.Goals as goal

least : (row marks : List ℕ) (low lowest next mark : ℕ) → next < length row → get_or marks (get_or row next 0) 0 ≡ mark → 0 < mark
    → (lowest ≡ low) ⊎ ((k : ℕ) × (k < length row) × (get_or marks (get_or row k 0) 0 ≡ lowest + 1))
    → (min lowest (mark - 1) ≡ low) ⊎ ((k : ℕ) × (k < length row) × (get_or marks (get_or row k 0) 0 ≡ min lowest (mark - 1) + 1))
least row marks low lowest next mark lt is p old =
    elim (cases_lt (mark - 1) lowest) [
      | inl l ↦ inr (next, lt, omega (arith, is, l, p))
      | inr ge ↦ elim old [
        | inl e ↦ inl (omega (arith, ge, e))
        | inr t ↦ inr (t.0, t.1, omega (arith, t.2, ge))
      ]
    ]

pub loop-next-preserved : goal.loop-next-preserved
loop-next-preserved c =
    let i = c.loop-next.invariant in
    let row = c.args.row.now in
    let marks = c.args.marks.now in
    let next = c.loop-next.next in
    let mark : ℕ = get_or marks (get_or row next 0) 0 in
    let e : c.min-lowest.result ≡ min c.loop-next.lowest (mark - 1) = c.min-lowest.ensures in
    let p : 0 < mark = omega (arith, c.if-mark-eq-UNSEEN.false) in
    record {
      later = omega arith;
      within = omega arith;
      lowest = omega (arith, e, i.lowest);
      seen = λ k a b. elim (cases_lt k next) [
        | inl l ↦ omega (arith, i.seen k a l, e)
        | inr ge ↦ let k_is : k ≡ next = omega (arith, b, ge) in omega (arith, e, p, ap (λ (j : ℕ). get_or marks (get_or row j 0) 0) k_is)
      ];
      from_row = rw e (least row marks c.args.low c.loop-next.lowest next mark (omega arith) refl p i.from_row);
    }
