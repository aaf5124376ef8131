-- A class without a component is heavy exactly where the counts of searches on both sides say so.
use Rattle.std.proofs.Common.{◌≡◌, ◌↔◌, ℕ, ◌<◌, ◌≤◌, List, [], length, map, get_or, take, sym, ◌∙◌, ap, subst, arith, inl, inr}
use Rattle.std.specs.Prelude.{All, Contains}
use Rattle.std.proofs.lemmas.Bool.{cases_eq}
use Rattle.std.proofs.lemmas.Nat.{mul-le}
use Rattle.std.proofs.lemmas.List.{take_all, length-map, get_or-map, get_or_default}
use Rattle.std.proofs.lemmas.List.Elements.{All-contains, Contains-get_or}
use Rattle.std.proofs.lemmas.Option.{get_or_from_slice_get}
use Rattle.joint_machine.specs.Walks.{Mutual}
use Rattle.joint_machine.specs.Components.{Rises, Leads, LeadsIn, LeadsOut, IsFirst, IsHeavy, IsPlainClass, first_of}
use Rattle.joint_machine.proofs.Members.{All-members}
use Rattle.joint_machine.proofs.WalkLemmas.{Mutual-self, Mutual-sym, Mutual-trans}
use Rattle.bridge_graph.specs.declared.graph.Node.{Node}
use Rattle.bridge_graph.specs.Parts.{IsBridgeNode, IsPart, NodeLeads}
use Rattle.compare_pass.specs.Classes.{AreClasses}
use Rattle.compare_pass.specs.Counting.{AreCounts, AreMany, Comes, IsCount}
use Rattle.compare_pass.specs.Listing.{AreListed}
use Rattle.compare_pass.specs.Searching.{index_at, no_index}
use Rattle.compare_pass.specs.Turned.{IsTurned}
use Rattle.compare_pass.proofs.Backwards.{leads-back, mutual-back}
use Rattle.compare_pass.proofs.Components.{bridge-below}
use Rattle.compare_pass.proofs.Crossing.{comes-leads, leads-all}
use Rattle.compare_pass.proofs.Reaching.{leads_from}
use Rattle.compare_pass.proofs.Rising.{shorter, first-least}

pub count-same : (P Q : ℕ → Type 0) (n : ℕ) → ((b : ℕ) → P b ↔ Q b) → IsCount P n → IsCount Q n
count-same P Q n e c = record {
  names = c.names;
  rise = c.rise;
  exact = λ b. ((λ t. (e b).0 ((c.exact b).0 t)), (λ q. (c.exact b).1 ((e b).1 q)));
  count = c.count;
}

-- a list of some has at most as many
within-count : (P : ℕ → Type 0) (n : ℕ) (xs : List ℕ) → IsCount P n → Rises xs → All P xs → length xs ≤ n
within-count P n xs c r a = omega (arith, shorter xs c.names r c.rise (λ x t. (c.exact x).1 (All-contains P xs x a t)), c.count)

-- counts tell whether a class is heavy
pub many-heavy : (B : ℕ → Type 0) (E : ℕ → ℕ → Type 0) (x m n : ℕ) → IsPlainClass B E x → IsCount (LeadsIn B E x) m → IsCount (LeadsOut B E x) n → AreMany m n ↔ IsHeavy B E x
many-heavy B E x m n plain i o = (
  (λ h. record {
    plain = plain;
    ins = i.names;
    outs = o.names;
    ins_rise = i.rise;
    outs_rise = o.rise;
    lead_in = All-members (LeadsIn B E x) i.names (λ b c. (i.exact b).0 c);
    lead_out = All-members (LeadsOut B E x) o.names (λ b c. (o.exact b).0 c);
    some_in = omega (arith, h.some_in, i.count);
    some_out = omega (arith, h.some_out, o.count);
    many = rw (i.count, o.count) h.many;
  }),
  (λ h.
      let a = within-count (LeadsIn B E x) m h.ins i h.ins_rise h.lead_in in
      let b = within-count (LeadsOut B E x) n h.outs o h.outs_rise h.lead_out in
      record { some_in = omega (arith, h.some_in, a); some_out = omega (arith, h.some_out, b); many = omega (arith, h.many, mul-le (length h.ins) (length h.outs) m n a b) }),
)

-- it is so for the whole class
pub plain-class : (B : ℕ → Type 0) (E : ℕ → ℕ → Type 0) (x y : ℕ) → Mutual E x y → IsPlainClass B E x → IsPlainClass B E y
plain-class B E x y m p b h r = p b h (Mutual-trans E x y b m r)

leads-to-same : (E : ℕ → ℕ → Type 0) (passed : ℕ → Type 0) (b x y : ℕ) → Mutual E x y → Leads E passed b x → Leads E passed b y
leads-to-same E passed b x y m l = record {
  from = l.from;
  between = l.between;
  to = l.to;
  leaves = l.leaves;
  arrives = Mutual-trans E y x l.to (Mutual-sym E x y m) l.arrives;
  walk = l.walk;
  plain = l.plain;
}

leads-from-same : (E : ℕ → ℕ → Type 0) (passed : ℕ → Type 0) (b x y : ℕ) → Mutual E x y → Leads E passed x b → Leads E passed y b
leads-from-same E passed b x y m l = record {
  from = l.from;
  between = l.between;
  to = l.to;
  leaves = Mutual-trans E y x l.from (Mutual-sym E x y m) l.leaves;
  arrives = l.arrives;
  walk = l.walk;
  plain = l.plain;
}

pub heavy-class : (B : ℕ → Type 0) (E : ℕ → ℕ → Type 0) (x y : ℕ) → Mutual E x y → IsHeavy B E x → IsHeavy B E y
heavy-class B E x y m h = record {
  plain = plain-class B E x y m h.plain;
  ins = h.ins;
  outs = h.outs;
  ins_rise = h.ins_rise;
  outs_rise = h.outs_rise;
  lead_in = All-members (LeadsIn B E y) h.ins (λ b c. let l = All-contains (LeadsIn B E x) h.ins b h.lead_in c in (l.0, leads-to-same E (IsPlainClass B E) b x y m l.1));
  lead_out = All-members (LeadsOut B E y) h.outs (λ b c. let l = All-contains (LeadsOut B E x) h.outs b h.lead_out c in (l.0, leads-from-same E (IsPlainClass B E) b x y m l.1));
  some_in = h.some_in;
  some_out = h.some_out;
  many = h.many;
}

-- the classes of the graph turned round are the same
pub turned-classes : (edges turned : List (List ℕ)) (count size : ℕ) (labels : List ℕ) → IsTurned count edges size turned → AreClasses edges count labels → AreClasses turned count labels
turned-classes edges turned count size labels t c = record {
  whole = c.whole;
  small = c.small;
  exact = λ x y xl yl. (
    (λ e. mutual-back (NodeLeads turned) (NodeLeads edges) (λ u v d. (t.leads v u).1 d) x y ((c.exact x y xl yl).0 e)),
    (λ m. (c.exact x y xl yl).1 (mutual-back (NodeLeads edges) (NodeLeads turned) (λ u v d. (t.leads u v).0 d) x y m)),
  );
}

module _ (nodes : List Node) (edges : List (List ℕ)) (labels : List ℕ) (comps : List (List ℕ)) (indexes stands : List ℕ) (few : length stands ≤ 4294967294)
    (part : IsPart nodes edges) (classes : AreClasses edges (length nodes) labels) (a : AreListed nodes labels (length nodes) comps indexes stands) where
  abbrev B : ℕ → Type 0
  B = IsBridgeNode nodes

  abbrev E : ℕ → ℕ → Type 0
  E = NodeLeads edges

  abbrev Plain : ℕ → Type 0
  Plain = IsPlainClass B E

  stand-bridge : (i : ℕ) → i < length stands → B (get_or stands i 0)
  stand-bridge i l = a.bridges i 0 l

  -- a class has no index exactly where it has no bridge node
  pub plain-index : (x : ℕ) → x < length nodes → (index_at labels indexes x ≡ no_index) ↔ Plain x
  plain-index x l = (
    (λ e b h m. a.every b (bridge-below nodes b h) h (ap (λ k. get_or indexes k 0) (sym ((classes.exact x b l (bridge-below nodes b h)).1 m)) ∙ e)),
    (λ p. elim (cases_eq (index_at labels indexes x) 4294967295) [
      | inl e ↦ e
      | inr n ↦ (
          let t = a.numbered.index x l n in
          let s : ℕ = get_or stands (index_at labels indexes x) 0 in
          let b = stand-bridge (index_at labels indexes x) t.0 in
          absurd (p s b ((classes.exact x s l (bridge-below nodes s b)).0 (sym t.1))))
    ]),
  )

  -- exactly the first members stand for the components
  pub stand-first : (b : ℕ) → Contains stands b ↔ IsFirst B E b
  stand-first b = (
    (λ c.
        let at : get_or stands c.0 0 ≡ b = first-of c in
        let e = a.each c.0 c.1 in
        let h = subst (λ z. B z) at (stand-bridge c.0 c.1) in
        record {
          member = h;
          least = λ y hy m. (
              let same : get_or labels y 0 ≡ get_or labels (get_or stands c.0 0) 0 = sym ((classes.exact b y (bridge-below nodes b h) (bridge-below nodes y hy)).1 m)
              ∙ ap (λ z. get_or labels z 0) (sym at) in
              let low = first-least e.0 y e.2.rises ((e.2.exact y).1 (hy, same)) in
              omega (arith, low, at, member-first c.0 c.1));
        }),
    (λ f.
        let l = bridge-below nodes b f.member in
        let t = a.numbered.index b l (a.every b l f.member) in
        let i : ℕ = index_at labels indexes b in
        let s : ℕ = get_or stands i 0 in
        let hs = stand-bridge i t.0 in
        let up = f.least s hs ((classes.exact b s l (bridge-below nodes s hs)).0 (sym t.1)) in
        let e = a.each i t.0 in
        let down = first-least e.0 b e.2.rises ((e.2.exact b).1 (f.member, sym t.1)) in
        let is : s ≡ b = omega (arith, up, down, member-first i t.0) in
        subst (λ z. Contains stands z) is (Contains-get_or stands i 0 t.0)),
  )
    where
      first-of : (c : Contains stands b) → get_or stands c.0 0 ≡ b
      first-of c = get_or_default stands c.0 0 b c.1 ∙ c.2

      member-first : (i : ℕ) (l : i < length stands) → first_of (a.each i l).0 ≡ get_or stands i 0
      member-first i l =
          let e = a.each i l in
          let m : length (map first_of comps) ≡ length stands = ap length a.firsts in
          let cl : i < length comps = omega (arith, l, m, length-map comps first_of) in
          sym (ap first_of (get_or_from_slice_get comps i e.0 [] e.1)) ∙ sym (get_or-map first_of comps i [] 0 cl) ∙ ap (λ xs. get_or xs i 0) a.firsts

  -- a component and a class without one differ
  apart : (x b : ℕ) → Plain x → B b → Mutual E b x → ⊥
  apart x b p h m = p b h (Mutual-sym E b x m)

  -- the searches count the components that lead in
  pub counts-in : (x : ℕ) (ins : List ℕ) → x < length nodes → Plain x → AreCounts edges (length nodes) labels indexes stands (length stands) ins → IsCount (LeadsIn B E x) (get_or ins x 0)
  counts-in x ins l p c = count-same (λ b. Contains (take (length stands) stands) b × Comes edges labels indexes b x) (LeadsIn B E x) (get_or ins x 0) (λ b. (
    (λ t.
        let s : Contains stands b = subst (λ xs. Contains xs b) (take_all (length stands) stands (omega arith)) t.0 in
        let f = (stand-first b).0 s in
        (f, comes-leads edges (length nodes) labels indexes Plain part.in_range classes plain-index b x x (bridge-below nodes b f.member) t.1 (apart x b p f.member) (Mutual-self E x))),
    (λ t. (
      subst (λ xs. Contains xs b) (sym (take_all (length stands) stands (omega arith))) ((stand-first b).1 t.0),
      leads-all edges (length nodes) labels indexes Plain part.in_range classes plain-index b x (bridge-below nodes b t.0.member) l (λ u m. plain-class B E x u m p) t.1,
    )),
  )) (c.exact x l)

  -- and, against the edges, those that are led to
  pub counts-out : (x : ℕ) (outs : List ℕ) (size : ℕ) (turned : List (List ℕ)) → x < length nodes → Plain x → IsTurned (length nodes) edges size turned
      → AreCounts turned (length nodes) labels indexes stands (length stands) outs → IsCount (LeadsOut B E x) (get_or outs x 0)
  counts-out x outs size turned l p t c =
      let T = NodeLeads turned in
      let range : (u v : ℕ) → T u v → v < length nodes = (λ u v d. let q = leads_from edges v u ((t.leads u v).0 d) in omega (arith, q, part.rows)) in
      let cs = turned-classes edges turned (length nodes) size labels t classes in
      let to-edge : (u v : ℕ) → T u v → E v u = (λ u v d. (t.leads u v).0 d) in
      let to-turned : (u v : ℕ) → E u v → T v u = (λ u v d. (t.leads v u).1 d) in
      count-same (λ b. Contains (take (length stands) stands) b × Comes turned labels indexes b x) (LeadsOut B E x) (get_or outs x 0) (λ b. (
        (λ r.
            let s : Contains stands b = subst (λ xs. Contains xs b) (take_all (length stands) stands (omega arith)) r.0 in
            let f = (stand-first b).0 s in (
              f,
              leads-back E T to-edge Plain b x (comes-leads turned (length nodes) labels indexes Plain
                  range cs plain-index b x x (bridge-below nodes b f.member) r.1 (λ m. apart x b p f.member (mutual-back E T to-edge b x m)) (Mutual-self T x)),
            )),
        (λ r. (
          subst (λ xs. Contains xs b) (sym (take_all (length stands) stands (omega arith))) ((stand-first b).1 r.0),
          leads-all turned (length nodes) labels indexes Plain range cs plain-index b x (bridge-below nodes b r.0.member) l (λ u m. plain-class B E x u (mutual-back E T to-edge x u m) p)
              (leads-back T E to-turned Plain x b r.1),
        )),
      )) (c.exact x l)
