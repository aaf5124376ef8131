-- Each turn asks one row more.
use Rattle.std.proofs.Common.{◌≡◌, ◌<◌, ◌≤◌, ℕ, List, arith, ◌∷◌, [], ap, refl, subst, sym, ◌∙◌}
use Rattle.joint_machine.specs.Gathered.{Gathered}
use Rattle.std.proofs.lemmas.List.{length-map, map-append}
use Rattle.joint_machine.specs.declared.names.MNum.{MNum}
use Rattle.joint_machine.specs.Heaps.{IsLive}
use Rattle.joint_machine.specs.Histories.{managed_numbers}
use Rattle.joint_machine.proofs.Deciding.{test-true, test-false}
use Rattle.joint_machine.proofs.Members.{All-members, Contains-nil}
use Rattle.managed_heap.proofs.Resolutions.{rises-few_from}
use Rattle.joint_machine.proofs.Gathering.{Gathered-push, Gathered-skip, Gathered-all, made-below}
use Rattle.reachability.specs.Marks.{HasMark}
use Rattle.managed_heap.proofs.snapshots.whites.Goals as goal
use Rattle.managed_heap.proofs.snapshots.whites.Goals.{then-is_white, else-is_white}

-- no row comes before the oldest live one
gathered-none : (wanted : ℕ → Type 0) (n : ℕ) (xs : List ℕ) → xs ≡ [] → ((k : ℕ) → k < n → wanted k → ⊥) → Gathered wanted n xs
gathered-none wanted n xs is none = subst (Gathered wanted n) (sym is) record { rises = tt; exact = λ k. ((λ h. absurd (Contains-nil k h)), (λ h. absurd (none k h.0 h.1))) }

pub loop-m-init : goal.loop-m-init
loop-m-init c = record { gathered = gathered-none _ _ _ (ap managed_numbers c.requires.empty) (λ k l w. c.oldest-m.ensures.below k l w.0); capacity = refl }

pub loop-m-preserved : goal.loop-m-preserved
loop-m-preserved c =
    let wanted : ℕ → Type 0 = λ m. IsLive c.args.heap.now.heap m × (HasMark c.args.heap.now.marks m → ⊥) in
    elim c.if-is_white.branch [
      | then-is_white w ↦
          let m : MNum = record { 0 = c.loop-m.m } in
          record {
            gathered = rw (w.rows-is, w.push_reserved.ensures.items, map-append (λ k. k.0) c.loop-m.rows.items (m ∷ []))
                (Gathered-push wanted c.loop-m.m (managed_numbers c.loop-m.rows.items) c.loop-m.invariant.gathered (test-true (wanted c.loop-m.m) _ c.is_white.ensures w.if-is_white.true));
            capacity = rw w.rows-is (w.push_reserved.ensures.capacity ∙ c.loop-m.invariant.capacity);
          }
      | else-is_white w ↦ record {
        gathered = rw w.rows-is (Gathered-skip wanted c.loop-m.m (managed_numbers c.loop-m.rows.items) c.loop-m.invariant.gathered
            (test-false (wanted c.loop-m.m) _ c.is_white.ensures w.if-is_white.false));
        capacity = rw w.rows-is c.loop-m.invariant.capacity;
      }
    ]

pub returns : goal.returns
returns c =
    let wanted : ℕ → Type 0 = λ m. IsLive c.args.heap.now.heap m × (HasMark c.args.heap.now.marks m → ⊥) in
    record {
      rises = c.loop-m.invariant.gathered.rises;
      exact = Gathered-all wanted c.loop-m.m (managed_numbers c.loop-m.rows.items) c.loop-m.invariant.gathered
          (λ k w. made-below c.args.heap.now.heap k c.loop-m.m w.0 (omega (arith, c.loop-m-test.false, c.made-m-end.ensures.made)));
    }

-- the rows so far have numbers from 1 on and below this one
pub push_reserved-requires : goal.push_reserved-requires
push_reserved-requires c =
    let few = rises-few_from (managed_numbers c.loop-m.rows.items) 1 c.loop-m.m c.loop-m.invariant.gathered.rises
    (All-members (λ y. 1 ≤ y) (managed_numbers c.loop-m.rows.items) (λ x k. ((c.loop-m.invariant.gathered.exact x).0 k).1.0.made.0))
    (All-members (λ y. y < c.loop-m.m) (managed_numbers c.loop-m.rows.items) (λ x k. ((c.loop-m.invariant.gathered.exact x).0 k).0))
    (((c.is_white.ensures).0 c.if-is_white.true).0.made.0) in
    omega (arith, few, length-map c.loop-m.rows.items (λ (m : MNum). m.0), c.loop-m.invariant.capacity, c.requires.room, c.loop-m-test.true, c.made-m-end.ensures.made, c.loop-m.rows.ok)
