-- The exact components of a graph whose nodes are numbers, some of them bridge nodes, with the heavy classes between
-- them, their cross-references and mirror edges. (The callbacks of SGen's bridge header get these components and
-- cross-references; its Tarjan bridge reports a class without bridge objects where many components meet in it; the
-- Xamarin.Android documentation has the references that a collection adds.)
-- Believed: the clauses of the program's top call rest on all that stands here.
use Rattle.std.specs.Prelude.{◌≡◌, ℕ, ◌<◌, ◌≤◌, ◌-◌, ◌*◌, ◌+◌, nat_lt, if◌then◌else◌, List, [], ◌∷◌, ◌++◌, ◌↔◌, ◌⊎◌}
use Rattle.std.specs.Prelude.{length, All, Contains, Some, map, flat_map, slice_get, slice_index}
use Rattle.joint_machine.specs.Walks.{Walks, Mutual}

-- no bridge node is in the strongly connected class of x
abbrev pub IsPlainClass : (ℕ → Type 0) → (ℕ → ℕ → Type 0) → ℕ → Type 0
IsPlainClass bridge edge x = (b : ℕ) → bridge b → Mutual edge x b → ⊥

-- the numbers of a list rise
abbrev pub Rises : List ℕ → Type 0
Rises [] = Unit {0}
Rises (x ∷ xs) = All (λ y. x < y) xs × Rises xs

-- some walk leads from a row of a's class to a row of b's class, and all rows between are ones that may be passed
pub record Leads (edge : ℕ → ℕ → Type 0) (passed : ℕ → Type 0) (a b : ℕ) : Type 0 where
  pub from : ℕ
  pub between : List ℕ
  pub to : ℕ
  pub leaves : Mutual edge a from
  pub arrives : Mutual edge b to
  pub walk : Walks edge from (between ++ to ∷ []) to
  pub plain : All passed between

-- x has the least number of its class
abbrev pub IsLeast : (ℕ → ℕ → Type 0) → ℕ → Type 0
IsLeast edge x = (y : ℕ) → Mutual edge x y → x ≤ y

-- x is the first member of a component: the least bridge node of its class
pub record IsFirst (bridge : ℕ → Type 0) (edge : ℕ → ℕ → Type 0) (x : ℕ) : Type 0 where
  pub member : bridge x
  pub least : (y : ℕ) → bridge y → Mutual edge x y → x ≤ y

-- a component leads into the class of x, past classes without a bridge node alone; and out of it
abbrev pub LeadsIn : (ℕ → Type 0) → (ℕ → ℕ → Type 0) → ℕ → ℕ → Type 0
LeadsIn bridge edge x b = IsFirst bridge edge b × Leads edge (IsPlainClass bridge edge) b x

abbrev pub LeadsOut : (ℕ → Type 0) → (ℕ → ℕ → Type 0) → ℕ → ℕ → Type 0
LeadsOut bridge edge x b = IsFirst bridge edge b × Leads edge (IsPlainClass bridge edge) x b

-- a class without a bridge node is heavy where many components meet in it: at least three lead in, at least three are
-- led to, and the product of the two counts is at least 60. (Each list names different components, so the counts are at
-- least its length; the numbers are this project's own.)
pub record IsHeavy (bridge : ℕ → Type 0) (edge : ℕ → ℕ → Type 0) (x : ℕ) : Type 0 where
  pub plain : IsPlainClass bridge edge x
  pub ins : List ℕ
  pub outs : List ℕ
  pub ins_rise : Rises ins
  pub outs_rise : Rises outs
  pub lead_in : All (LeadsIn bridge edge x) ins
  pub lead_out : All (LeadsOut bridge edge x) outs
  pub some_in : 3 ≤ length ins
  pub some_out : 3 ≤ length outs
  pub many : 60 ≤ length ins * length outs

-- the class of x isn't reported: it has no bridge node and isn't heavy
pub record IsUnreported (bridge : ℕ → Type 0) (edge : ℕ → ℕ → Type 0) (x : ℕ) : Type 0 where
  pub plain : IsPlainClass bridge edge x
  pub light : IsHeavy bridge edge x → ⊥

-- the class of a and the class of b differ, and some walk leads from a row of a's class to a row of b's
-- whose rows between lie in classes that aren't reported
pub record IsCrossReference (bridge : ℕ → Type 0) (edge : ℕ → ℕ → Type 0) (a b : ℕ) : Type 0 where
  pub apart : Mutual edge a b → ⊥
  pub leads : Leads edge (IsUnreported bridge edge) a b

-- the first member of a component; 0 stands where there is none
abbrev pub first_of : List ℕ → ℕ
first_of [] = 0
first_of (x ∷ xs) = x

-- the first member of the component with that index; 0 stands past the end
abbrev pub first_at : List (List ℕ) → ℕ → ℕ
first_at comps i = slice_index (map first_of comps) i

-- one pair of component indexes stands before another: by the source, then by the destination
abbrev pub PairBefore : ℕ × ℕ → ℕ × ℕ → Type 0
PairBefore p q = (p.0 < q.0) ⊎ ((p.0 ≡ q.0) × (p.1 < q.1))

-- the pairs of a list rise
abbrev pub PairsRise : List (ℕ × ℕ) → Type 0
PairsRise [] = Unit {0}
PairsRise (p ∷ ps) = All (PairBefore p) ps × PairsRise ps

-- x is a member of the component with index i
abbrev pub IsMember : List (List ℕ) → ℕ → ℕ → Type 0
IsMember comps i x = (members : List ℕ) × (slice_get comps i ≡ Some members) × Contains members x

-- the lists are in the one order that they are reported in: the members of each component rise, there is
-- at least one, the components stand in the order of their first members, and the pairs rise
pub record IsCanonical (comps : List (List ℕ)) (pairs : List (ℕ × ℕ)) : Type 0 where
  pub members : All Rises comps
  pub some : All (λ members. 0 < length members) comps
  pub order : Rises (map first_of comps)
  pub rising : PairsRise pairs

-- the rows that stand for what is reported: the first members of the components, in their order, and behind them
-- the least rows of the heavy classes; 0 stands past the end
abbrev pub stand_at : List (List ℕ) → List ℕ → ℕ → ℕ
stand_at comps heavy i = slice_index (map first_of comps ++ heavy) i

-- the components, heavy classes and cross-references of a graph, each in its place. Components with members come
-- first; behind them come the heavy classes, by their least rows, without members.
pub record IsContraction (bridge : ℕ → Type 0) (edge : ℕ → ℕ → Type 0)
    (comps : List (List ℕ)) (heavy : List ℕ) (xrefs : List (ℕ × ℕ)) : Type 0 where
  pub canonical : IsCanonical comps xrefs
  pub members : (x : ℕ) → ((i : ℕ) × IsMember comps i x) ↔ bridge x
  pub together : (i j x y : ℕ) → IsMember comps i x → IsMember comps j y → (i ≡ j) ↔ Mutual edge x y
  pub heavy_rise : Rises heavy
  pub heavies : (x : ℕ) → Contains heavy x ↔ (IsHeavy bridge edge x × IsLeast edge x)
  pub references : (i j : ℕ) → Contains xrefs (i, j)
      ↔ ((i < length comps + length heavy) × (j < length comps + length heavy)
      × IsCrossReference bridge edge (stand_at comps heavy i) (stand_at comps heavy j))

-- an end of a mirror edge: a node, or the temporary of the heavy class with that index among the heavy ones
pub data End : Type 0 where
  node : ℕ → End
  temporary : ℕ → End

-- the end of what is reported at that index: a component's first member, or the temporary of a heavy class
abbrev pub end_at : List (List ℕ) → ℕ → End
end_at comps i = if nat_lt i (length comps) then node (first_at comps i) else temporary (i - length comps)

-- an edge from one node to another
abbrev pub between_nodes : ℕ × ℕ → End × End
between_nodes e = (node e.0, node e.1)

-- the edges of a circle from x over the members after it, and from the last to the first
abbrev pub circle_from : ℕ → ℕ → List ℕ → List (ℕ × ℕ)
circle_from first x [] = (x, first) ∷ []
circle_from first x (y ∷ ys) = (x, y) ∷ circle_from first y ys

-- the circle of a component: from each member to the next and from the last to the first; one member
-- alone has none
abbrev pub circle : List ℕ → List (ℕ × ℕ)
circle [] = []
circle (x ∷ []) = []
circle (x ∷ y ∷ ys) = circle_from x x (y ∷ ys)

-- the mirror edges: the circles, component by component, and then for each cross-reference the edge from
-- the end of its source to the end of its destination
abbrev pub mirror_edges : List (List ℕ) → List (ℕ × ℕ) → List (End × End)
mirror_edges comps xrefs = map between_nodes (flat_map circle comps) ++ map
    (λ p. (end_at comps p.0, end_at comps p.1)) xrefs
