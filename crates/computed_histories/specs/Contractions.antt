-- The components, heavy classes and cross-references of a graph with finitely many nodes, by computing.
use Rattle.std.specs.Prelude.{ℕ, suc, ◌+◌, ◌*◌, Bool, true, not, ◌&&◌, ◌||◌, nat_eq, nat_lt, nat_le, if◌then◌else◌}
use Rattle.std.specs.Prelude.{List, [], ◌∷◌, ◌++◌, length, map, filter, flat_map}
use Rattle.std.specs.List.{list_any, list_all}
use Rattle.joint_machine.specs.Components.{first_of, stand_at}
use Rattle.joint_machine.specs.Managed.{Managed}
use Rattle.computed_histories.specs.Lists.{has, pair_eq, implies, reach, rises, is_exactly, rises_exactly, count_from}
use Rattle.computed_histories.specs.Lists.{where_true}
use Rattle.computed_histories.specs.Rows.{heap_next, is_bridge}

-- a graph: where each node leads, its nodes, and its bridge nodes
pub record Listed : Type 0 where
  pub next : ℕ → List ℕ
  pub nodes : List ℕ
  pub bridges : List ℕ

-- what a node reaches
abbrev pub reached_from : Listed → ℕ → List ℕ
reached_from g x = reach nat_eq g.next (length g.nodes) (x ∷ [])

-- whether two nodes reach each other
abbrev pub is_mutual : Listed → ℕ → ℕ → Bool
is_mutual g x y = has (reached_from g x) y && has (reached_from g y) x

-- whether the class of a node has no bridge node
abbrev pub is_plain : Listed → ℕ → Bool
is_plain g x = list_all (λ b. not (is_mutual g x b)) g.bridges

-- where a node leads that may be passed
abbrev pub passed_next : Listed → (ℕ → Bool) → ℕ → List ℕ
passed_next g passed x = where_true (passed x) (g.next x)

-- where the edges out of the class of a node lead
abbrev pub class_next : Listed → ℕ → List ℕ
class_next g a = flat_map g.next (filter (is_mutual g a) g.nodes)

-- what the edges out of the class of a node reach over nodes that may be passed
abbrev pub past_class : Listed → (ℕ → Bool) → ℕ → List ℕ
past_class g passed a = reach nat_eq (passed_next g passed) (length g.nodes) (class_next g a)

-- whether a walk leads to the class of a node, given what is past the first one's class; and whether one leads from
-- class to class
abbrev pub is_led_past : Listed → List ℕ → ℕ → Bool
is_led_past g past b = list_any (has past) (filter (is_mutual g b) g.nodes)

abbrev pub is_led : Listed → (ℕ → Bool) → ℕ → ℕ → Bool
is_led g passed a b = is_led_past g (past_class g passed a) b

-- a number that all of a list are below
abbrev pub above : List ℕ → ℕ
above [] = 0
above (x ∷ xs) = suc x + above xs

-- the bridge nodes that pass a test, rising
abbrev pub bridges_where : Listed → (ℕ → Bool) → List ℕ
bridges_where g test = filter (λ b. has g.bridges b && test b) (count_from 0 (above g.bridges))

-- whether a bridge node is the least of its class
abbrev pub is_first : Listed → ℕ → Bool
is_first g b = list_all (λ c. implies (is_mutual g b c) (nat_le b c)) g.bridges

-- the first members of the components that lead into the class of a node, and of those that it leads to, past classes
-- without a bridge node
abbrev pub ins_of : Listed → ℕ → List ℕ
ins_of g x = bridges_where g (λ b. is_first g b && is_led g (is_plain g) b x)

abbrev pub outs_past : Listed → List ℕ → List ℕ
outs_past g past = bridges_where g (λ b. is_first g b && is_led_past g past b)

abbrev pub outs_of : Listed → ℕ → List ℕ
outs_of g x = outs_past g (past_class g (is_plain g) x)

-- whether so many components make a class heavy
abbrev pub are_many : ℕ → ℕ → Bool
are_many ins outs = nat_le 3 ins && nat_le 3 outs && nat_le 60 (ins * outs)

-- whether the class of a node is heavy; that takes eight bridge nodes, which is seen first
abbrev pub is_heavy : Listed → ℕ → Bool
is_heavy g x = nat_le 8 (length (bridges_where g (λ b. true))) && is_plain
    g x && are_many (length (ins_of g x)) (length (outs_of g x))

-- whether a class isn't reported
abbrev pub is_unreported : Listed → ℕ → Bool
is_unreported g x = is_plain g x && not (is_heavy g x)

-- whether a node is the least of its class
abbrev pub is_least : Listed → ℕ → Bool
is_least g x = list_all (λ y. implies (is_mutual g x y) (nat_le x y)) g.nodes

-- whether there is a cross-reference
abbrev pub is_referred : Listed → ℕ → ℕ → Bool
is_referred g a b = not (is_mutual g a b) && is_led g (is_unreported g) a b

-- each member of the components with the index of its component, which are counted from i on
abbrev pub places_from : ℕ → List (List ℕ) → List (ℕ × ℕ)
places_from i [] = []
places_from i (members ∷ comps) = map (λ x. (i, x)) members ++ places_from (suc i) comps

-- the members of all components
abbrev pub members_of : List (List ℕ) → List ℕ
members_of comps = map (λ (p : ℕ × ℕ). p.1) (places_from 0 comps)

-- whether two truth values are the same
abbrev pub agrees : Bool → Bool → Bool
agrees a b = if a then b else not b

-- whether two members are in one component exactly where they reach each other
abbrev pub is_split : Listed → List (ℕ × ℕ) → Bool
is_split g places = list_all (λ p. list_all (λ q. agrees (nat_eq p.0 q.0) (is_mutual g p.1 q.1)) places) places

-- all pairs of numbers below a number
abbrev pub pairs_below : ℕ → List (ℕ × ℕ)
pairs_below k = flat_map (λ i. map (λ j. (i, j)) (count_from 0 k)) (count_from 0 k)

-- whether a pair of indexes stands between two that are reported, with a cross-reference
abbrev pub is_reference : Listed → List (List ℕ) → List ℕ → ℕ × ℕ → Bool
is_reference g comps heavy p =
    nat_lt p.0 (length comps + length heavy) && nat_lt p.1
    (length comps + length heavy) && is_referred g (stand_at comps heavy p.0) (stand_at comps heavy p.1)

-- whether pairs rise
abbrev pub is_pair_before : ℕ × ℕ → ℕ × ℕ → Bool
is_pair_before p q = nat_lt p.0 q.0 || (nat_eq p.0 q.0 && nat_lt p.1 q.1)

abbrev pub pairs_rise : List (ℕ × ℕ) → Bool
pairs_rise [] = true
pairs_rise (p ∷ ps) = list_all (is_pair_before p) ps && pairs_rise ps

-- whether the lists are in their one order
abbrev pub is_in_order : List (List ℕ) → List (ℕ × ℕ) → Bool
is_in_order comps xrefs = list_all rises comps && list_all
    (λ members. nat_lt 0 (length members)) comps && rises (map first_of comps) && pairs_rise xrefs

-- whether the lists are the graph's components, heavy classes and cross-references
abbrev pub is_contraction : Listed → List (List ℕ) → List ℕ → List (ℕ × ℕ) → Bool
is_contraction g comps heavy xrefs =
    is_in_order comps xrefs
    && is_exactly nat_eq g.nodes (has g.bridges) (members_of comps)
    && is_split g (places_from 0 comps)
    && rises_exactly g.nodes (λ x. is_heavy g x && is_least g x) heavy
    && is_exactly pair_eq (pairs_below (length comps + length heavy)) (is_reference g comps heavy) xrefs

-- the graph of a dead part
abbrev pub dead_graph : Managed → List ℕ → Listed
dead_graph s dead = record {
  next = λ x. where_true (has dead x) (filter (has dead) (heap_next s.heap x));
  nodes = dead;
  bridges = filter (is_bridge s) dead;
}
