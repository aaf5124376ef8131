-- What was found of the made graph is what is found of the arrays: both have the same bridge nodes and edges.
use Rattle.std.proofs.Common.{ℕ, ◌++◌, ◌∷◌, [], ◌↔◌, List}
use Rattle.std.proofs.lemmas.List.Elements.{All-weaker}
use Rattle.joint_machine.specs.Components.{IsPlainClass, first_at}
use Rattle.joint_machine.specs.Walks.{Mutual}
use Rattle.joint_machine.proofs.WalkLemmas.{Reaches-mono, Walks-mono}
use Rattle.joint_laws.proofs.SameGraphs.{contraction-same}
use Rattle.bridge_graph.specs.declared.packing.Link.{Link}
use Rattle.pass_c.specs.declared.arrays.PassCounts.{PassCounts}
use Rattle.pass_c.specs.Expanded.{FoundExpanded, IsExpansion, IsJoined, LacksExpanded}
use Rattle.pass_c.specs.Found.{Found, Lacks}

module _ (B B' : ℕ → Type 0) (E E' : ℕ → ℕ → Type 0) (b : (x : ℕ) → B x ↔ B' x) (e : (x y : ℕ) → E x y ↔ E' x y) (starts members : List ℕ) (xrefs : List Link) (counts : PassCounts) where
  pub found-same : Found B E starts members xrefs counts → Found B' E' starts members xrefs counts
  found-same f = record {
    comps = f.comps;
    heavy = f.heavy;
    pairs = f.pairs;
    exact = contraction-same B B' E E' f.comps f.heavy f.pairs b e f.exact;
    counted = f.counted;
    written = f.written;
  }

  pub lacks-same : Lacks B E starts members xrefs counts → Lacks B' E' starts members xrefs counts
  lacks-same f = record {
    comps = f.comps;
    heavy = f.heavy;
    pairs = f.pairs;
    exact = contraction-same B B' E E' f.comps f.heavy f.pairs b e f.exact;
    counted = f.counted;
    short = f.short;
  }

mutual-same : (E E' : ℕ → ℕ → Type 0) → ((x y : ℕ) → E x y → E' x y) → (x y : ℕ) → Mutual E x y → Mutual E' x y
mutual-same E E' e x y m = record { there = Reaches-mono E E' e x y m.there; back = Reaches-mono E E' e y x m.back }

-- one way
joined-same : (B B' : ℕ → Type 0) (E E' : ℕ → ℕ → Type 0) → ((x : ℕ) → B' x → B x) → ((x y : ℕ) → E x y → E' x y) → ((x y : ℕ) → E' x y → E x y) → (x y : ℕ) → IsJoined B E x y → IsJoined B' E' x y
joined-same B B' E E' b there back x y w = (
  (λ m. w.0 (mutual-same E' E back x y m)),
  record {
    from = w.1.from;
    between = w.1.between;
    to = w.1.to;
    leaves = mutual-same E E' there x w.1.from w.1.leaves;
    arrives = mutual-same E E' there y w.1.to w.1.arrives;
    walk = Walks-mono E E' there w.1.from (w.1.between ++ w.1.to ∷ []) w.1.to w.1.walk;
    plain = All-weaker (IsPlainClass B E) (IsPlainClass B' E') (λ z p v by m. p v (b v by) (mutual-same E' E back z v m)) w.1.between w.1.plain;
  },
)

module _ (B B' : ℕ → Type 0) (E E' : ℕ → ℕ → Type 0) (b : (x : ℕ) → B x ↔ B' x) (e : (x y : ℕ) → E x y ↔ E' x y) where
  there : (x y : ℕ) → E x y → E' x y
  there x y h = (e x y).0 h

  back : (x y : ℕ) → E' x y → E x y
  back x y h = (e x y).1 h

  expansion-same : (comps : List (List ℕ)) (pairs : List (ℕ × ℕ)) → IsExpansion B E comps pairs → IsExpansion B' E' comps pairs
  expansion-same comps pairs k = record {
    canonical = k.canonical;
    members = λ x. ((λ m. (b x).0 ((k.members x).0 m)), (λ w. (k.members x).1 ((b x).1 w)));
    together = λ i j x y m n. ((λ same. mutual-same E E' there x y ((k.together i j x y m n).0 same)), (λ w. (k.together i j x y m n).1 (mutual-same E' E back x y w)));
    references = λ i j. (
      (λ c. (let r = (k.references i j).0 c in (r.0, r.1, joined-same B B' E E' (λ x h. (b x).1 h) there back (first_at comps i) (first_at comps j) r.2))),
      (λ r. (k.references i j).1 (r.0, r.1, joined-same B' B E' E (λ x h. (b x).0 h) back there (first_at comps i) (first_at comps j) r.2)),
    );
  }

  pub found_expanded-same : (starts members : List ℕ) (xrefs : List Link) (counts : PassCounts) → FoundExpanded B E starts members xrefs counts → FoundExpanded B' E' starts members xrefs counts
  found_expanded-same starts members xrefs counts f = record { comps = f.comps; pairs = f.pairs; exact = expansion-same f.comps f.pairs f.exact; counted = f.counted; written = f.written }

  pub lacks_expanded-same : (starts members : List ℕ) (xrefs : List Link) (counts : PassCounts) → LacksExpanded B E starts members xrefs counts → LacksExpanded B' E' starts members xrefs counts
  lacks_expanded-same starts members xrefs counts f = record { comps = f.comps; pairs = f.pairs; exact = expansion-same f.comps f.pairs f.exact; counted = f.counted; short = f.short }
