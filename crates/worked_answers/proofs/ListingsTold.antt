-- A dead part without rows has no member, so no component, no class in which components meet, and no reference.
use Rattle.std.proofs.Common.{◌≡◌, ℕ, ◌≤◌, List, [], ◌∷◌, Some, length, refl, sym, ap, ◌∙◌, arith, All}
use Rattle.std.specs.Prelude.{Contains}
use Rattle.std.proofs.lemmas.List.Elements.{All-head, All-nil}
use Rattle.joint_machine.proofs.Members.{Contains-nil, Contains-here}
use Rattle.joint_machine.specs.Components.{IsHeavy, LeadsIn}
use Rattle.joint_machine.specs.Cycles.{DeadEdge, IsDeadContraction}
use Rattle.joint_machine.specs.Managed.{IsBridge, OpenCycle}
use Rattle.worked_answers.specs.Listings.{ListingsAreTold, nothing_dead}

-- a bridge node of the empty dead part
abbrev Bridge : ℕ → Type 0
Bridge m = Contains {X = ℕ} [] m × IsBridge nothing_dead m

abbrev Edge : ℕ → ℕ → Type 0
Edge = DeadEdge nothing_dead []

none_leads : (x : ℕ) (ins : List ℕ) → 3 ≤ length ins → All (LeadsIn Bridge Edge x) ins → ⊥
none_leads x [] l a = omega (arith, l)
none_leads x (b ∷ ins) l a = Contains-nil b (All-head (LeadsIn Bridge Edge x) b ins a).0.member.0

none_heavy : (x : ℕ) → IsHeavy Bridge Edge x → ⊥
none_heavy x h = none_leads x h.ins h.some_in h.lead_in

empty : IsDeadContraction nothing_dead [] [] [] []
empty = record {
  canonical = record { members = All-nil _; some = All-nil _; order = tt; rising = tt };
  members = λ x. (λ m. absurd (let e = m.1.1 in cc), λ b. absurd (Contains-nil x b.0));
  together = λ i j x y m n. absurd (let e = m.1 in cc);
  heavy_rise = tt;
  heavies = λ x. (λ c. absurd (Contains-nil x c), λ h. absurd (none_heavy x h.0));
  references = λ i j. (λ c. absurd (Contains-nil (i, j) c), λ r. absurd (let l = r.0 in omega (arith, l)));
}

some_heavy : (heavy : List ℕ) → length heavy ≡ 1 → IsDeadContraction nothing_dead [] [] heavy [] → ⊥
some_heavy [] e c = omega (arith, e)
some_heavy (x ∷ heavy) e c = none_heavy x ((c.heavies x).0 (Contains-here x heavy)).0

its_number : (c : OpenCycle) → nothing_dead.cycle ≡ Some c → c.number ≡ 2 → ⊥
its_number c e n = let s : c ≡ record { number = 1; candidates = []; dead = [] } = cc in
    let k : 1 ≡ 2 = sym (ap (λ (o : OpenCycle). o.number) s) ∙ n in omega (arith, k)

pub listings_are_told : ListingsAreTold
listings_are_told = record {
  empty = record { heavy = []; heavy_count = refl; contraction = empty };
  heavy = λ l. some_heavy l.heavy l.heavy_count l.contraction;
  component = λ l. Contains-nil 1 ((l.contraction.members 1).0 (0, (1 ∷ [], refl, Contains-here 1 []))).0;
  reference = λ l. let r = (l.contraction.references 0 0).0 (Contains-here (0, 0) []) in
      let n = l.heavy_count in let b = r.0 in omega (arith, n, b);
  cycle = record { cycle = record { number = 1; candidates = []; dead = [] }; open_cycle = (refl, refl); lists = record { heavy = []; heavy_count = refl; contraction = empty } };
  number = λ l. its_number l.cycle l.open_cycle.0 l.open_cycle.1;
  closed = λ l. let e = l.open_cycle.0 in cc;
  once = λ a. a.1;
  missing = λ a. a;
}
