-- Graphs with the same bridge nodes and edges have the same components heavy classes and cross-references.
use Rattle.std.proofs.Common.{ℕ, ◌↔◌, List, [], ◌∷◌, ◌++◌}
use Rattle.std.proofs.lemmas.List.Elements.{All-weaker}
use Rattle.joint_machine.specs.Walks.{Mutual}
use Rattle.joint_machine.specs.Components.{IsContraction, IsPlainClass, IsFirst, IsLeast, IsHeavy, IsUnreported, Leads, LeadsIn, LeadsOut, IsCrossReference, stand_at}
use Rattle.joint_machine.proofs.WalkLemmas.{Walks-mono, Reaches-mono}

Mutual-mono : (edge more : ℕ → ℕ → Type 0) → ((x y : ℕ) → edge x y → more x y) → (x y : ℕ) → Mutual edge x y → Mutual more x y
Mutual-mono edge more m x y w = record { there = Reaches-mono edge more m x y w.there; back = Reaches-mono edge more m y x w.back }

module _ (bridge bridge' : ℕ → Type 0) (edge edge' : ℕ → ℕ → Type 0) (b : (x : ℕ) → bridge x ↔ bridge' x) (e : (x y : ℕ) → edge x y ↔ edge' x y) where
  mutual_same : (x y : ℕ) → Mutual edge x y → Mutual edge' x y
  mutual_same x y m = Mutual-mono edge edge' (λ u v w. (e u v).0 w) x y m

  mutual_back : (x y : ℕ) → Mutual edge' x y → Mutual edge x y
  mutual_back x y m = Mutual-mono edge' edge (λ u v w. (e u v).1 w) x y m

  plain_same : (x : ℕ) → IsPlainClass bridge edge x → IsPlainClass bridge' edge' x
  plain_same x p y by m = p y ((b y).1 by) (mutual_back x y m)

  first_same : (x : ℕ) → IsFirst bridge edge x → IsFirst bridge' edge' x
  first_same x f = record { member = (b x).0 f.member; least = λ y by m. f.least y ((b y).1 by) (mutual_back x y m) }

  leads_same : (passed passed' : ℕ → Type 0) → ((x : ℕ) → passed x → passed' x) → (x y : ℕ) → Leads edge passed x y → Leads edge' passed' x y
  leads_same passed passed' p x y l = record {
    from = l.from;
    between = l.between;
    to = l.to;
    leaves = mutual_same x l.from l.leaves;
    arrives = mutual_same y l.to l.arrives;
    walk = Walks-mono edge edge' (λ u v w. (e u v).0 w) l.from (l.between ++ l.to ∷ []) l.to l.walk;
    plain = All-weaker passed passed' p l.between l.plain;
  }

  heavy_same : (x : ℕ) → IsHeavy bridge edge x → IsHeavy bridge' edge' x
  heavy_same x h = record {
    plain = plain_same x h.plain;
    ins = h.ins;
    outs = h.outs;
    ins_rise = h.ins_rise;
    outs_rise = h.outs_rise;
    lead_in = All-weaker (LeadsIn bridge edge x) (LeadsIn bridge' edge' x)
        (λ c w. (first_same c w.0, leads_same (IsPlainClass bridge edge) (IsPlainClass bridge' edge') plain_same c x w.1)) h.ins h.lead_in;
    lead_out = All-weaker (LeadsOut bridge edge x) (LeadsOut bridge' edge' x)
        (λ c w. (first_same c w.0, leads_same (IsPlainClass bridge edge) (IsPlainClass bridge' edge') plain_same x c w.1)) h.outs h.lead_out;
    some_in = h.some_in;
    some_out = h.some_out;
    many = h.many;
  }

  least_same : (x : ℕ) → IsLeast edge x → IsLeast edge' x
  least_same x l y m = l y (mutual_back x y m)

-- the same both ways
module _ (bridge bridge' : ℕ → Type 0) (edge edge' : ℕ → ℕ → Type 0) (b : (x : ℕ) → bridge x ↔ bridge' x) (e : (x y : ℕ) → edge x y ↔ edge' x y) where
  heavy_back : (x : ℕ) → IsHeavy bridge' edge' x → IsHeavy bridge edge x
  heavy_back x h = heavy_same bridge' bridge edge' edge (λ y. ((b y).1, (b y).0)) (λ u v. ((e u v).1, (e u v).0)) x h

  unreported_same : (x : ℕ) → IsUnreported bridge edge x → IsUnreported bridge' edge' x
  unreported_same x u = record { plain = plain_same bridge bridge' edge edge' b e x u.plain; light = λ h. u.light (heavy_back x h) }

  cross_same : (x y : ℕ) → IsCrossReference bridge edge x y → IsCrossReference bridge' edge' x y
  cross_same x y c = record {
    apart = λ m. c.apart (mutual_back bridge bridge' edge edge' b e x y m);
    leads = leads_same bridge bridge' edge edge' b e (IsUnreported bridge edge) (IsUnreported bridge' edge') unreported_same x y c.leads;
  }

  heavies_same : (x : ℕ) → IsHeavy bridge edge x × IsLeast edge x → IsHeavy bridge' edge' x × IsLeast edge' x
  heavies_same x w = (heavy_same bridge bridge' edge edge' b e x w.0, least_same bridge bridge' edge edge' b e x w.1)

pub contraction-same : (bridge bridge' : ℕ → Type 0) (edge edge' : ℕ → ℕ → Type 0) (comps : List (List ℕ)) (heavy : List ℕ) (xrefs : List (ℕ × ℕ))
    → ((x : ℕ) → bridge x ↔ bridge' x) → ((x y : ℕ) → edge x y ↔ edge' x y)
    → IsContraction bridge edge comps heavy xrefs → IsContraction bridge' edge' comps heavy xrefs
contraction-same bridge bridge' edge edge' comps heavy xrefs b e k = record {
  canonical = k.canonical;
  members = λ x. (λ m. (b x).0 ((k.members x).0 m), λ w. (k.members x).1 ((b x).1 w));
  together = λ i j x y m n. (
    λ same. Mutual-mono edge edge' (λ u v w. (e u v).0 w) x y ((k.together i j x y m n).0 same),
    λ w. (k.together i j x y m n).1 (Mutual-mono edge' edge (λ u v q. (e u v).1 q) x y w),
  );
  heavy_rise = k.heavy_rise;
  heavies = λ x. (
    λ c. heavies_same bridge bridge' edge edge' b e x ((k.heavies x).0 c),
    λ w. (k.heavies x).1 (heavies_same bridge' bridge edge' edge (λ y. ((b y).1, (b y).0)) (λ u v. ((e u v).1, (e u v).0)) x w),
  );
  references = λ i j. (
    λ c. (let r = (k.references i j).0 c in (r.0, r.1, cross_same bridge bridge' edge edge' b e (stand_at comps heavy i) (stand_at comps heavy j) r.2)),
    λ w. (k.references i j).1 (w.0, w.1, cross_same bridge' bridge edge' edge (λ x. ((b x).1, (b x).0)) (λ x y. ((e x y).1, (e x y).0)) (stand_at comps heavy i) (stand_at comps heavy j) w.2),
  );
}
