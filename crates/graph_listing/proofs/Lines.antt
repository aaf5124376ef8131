-- Lines are written one after another: each text is those before it and one line more.
use Rattle.std.proofs.Common.{◌≡◌, ℕ, zero, suc, ◌+◌, ◌<◌, ◌≤◌, List, [], ◌∷◌, ◌++◌, length, map, take, drop, Option, Some, refl, sym, ap, ◌∙◌, subst, ⊎_elim, append_assoc, append-nil, arith}
use Rattle.std.specs.Prelude.{All, decimal, replicate, slice_get}
use Rattle.std.specs.Option.{option_map}
use Rattle.std.proofs.lemmas.List.{map-append, length-take, take-append-drop}
use Rattle.std.proofs.lemmas.Option.{slice_get-map, slice_get_within, get_or_from_slice_get}
use Rattle.std.proofs.lemmas.Bool.{cases_lt}
use Rattle.std.proofs.lemmas.List.Elements.{All-contains, All-nil}
use Rattle.joint_machine.proofs.Members.{Contains-at, take-next}
use Rattle.joint_machine.specs.declared.names.MNum.{MNum}
use Rattle.byte_streams.specs.Spaced.{after_spaces}
use Rattle.byte_streams.proofs.Written.{after_spaces-append}
use Rattle.history_report.specs.Lists.{lettered}
use Rattle.bridge_graph.specs.declared.graph.Node.{Node}
use Rattle.bridge_graph.specs.Parts.{HasNode, numbers_of}
use Rattle.graph_listing.specs.Listing.{component_text, components_text, reference_text, references_text}
use Rattle.graph_listing.specs.Numbers.{number_in}

-- the number of a node
pub number_is : (nodes : List Node) (i : ℕ) (r : MNum) → HasNode nodes i (λ n. n.number ≡ r) → number_in nodes i ≡ r.0
number_is nodes i r h = get_or_from_slice_get (numbers_of nodes) i r.0 0
    (slice_get-map (λ (n : Node). n.number.0) nodes i ∙ (ap (option_map (λ (n : Node). n.number.0)) h.1 ∙ ap (λ (m : MNum). Some m.0) h.2))

-- numbers, and others behind them
numbers-append : (a b : List ℕ) → after_spaces (lettered 109 (a ++ b)) ≡ after_spaces (lettered 109 a) ++ after_spaces (lettered 109 b)
numbers-append a b = ap after_spaces (map-append (λ m. 109 ∷ decimal m) a b) ∙ after_spaces-append (lettered 109 a) (lettered 109 b)

-- one more number
pub numbers_next : (xs : List ℕ) (k n : ℕ) → slice_get xs k ≡ Some n → after_spaces (lettered 109 (take (k + 1) xs)) ≡ after_spaces (lettered 109 (take k xs)) ++ 32 ∷ 109 ∷ decimal n
numbers_next xs k n e = ap (λ l. after_spaces (lettered 109 l)) (take-next xs k n e)
    ∙ (numbers-append (take k xs) (n ∷ []) ∙ ap (λ t. after_spaces (lettered 109 (take k xs)) ++ 32 ∷ 109 ∷ t) (append-nil (decimal n)))

-- the first numbers, and the others
pub numbers_split : (xs : List ℕ) (k : ℕ) → after_spaces (lettered 109 xs) ≡ after_spaces (lettered 109 (take k xs)) ++ after_spaces (lettered 109 (drop k xs))
numbers_split xs k = ap (λ l. after_spaces (lettered 109 l)) (sym (take-append-drop k xs)) ∙ numbers-append (take k xs) (drop k xs)

-- components, and others behind them
components-append : (c : ℕ) (a b : List (List ℕ)) → components_text c (a ++ b) ≡ components_text c a ++ components_text (c + length a) b
components-append c [] b = let e : c ≡ c + 0 = omega arith in ap (λ n. components_text n b) e
components-append c (m ∷ a) b =
    let e : c + 1 + length a ≡ c + suc (length a) = omega arith in
    ap (λ t. component_text c m ++ t) (components-append (c + 1) a b ∙ ap (λ n. components_text (c + 1) a ++ components_text n b) e)
    ∙ sym (append_assoc (component_text c m) (components_text (c + 1) a) (components_text (c + suc (length a)) b))

-- one more component
pub components_next : (comps : List (List ℕ)) (k : ℕ) (m : List ℕ) → slice_get comps k ≡ Some m → components_text 0 (take (k + 1) comps) ≡ components_text 0 (take k comps) ++ component_text k m
components_next comps k m e =
    let less = slice_get_within comps k m e in
    let count : 0 + length (take k comps) ≡ k = omega (arith, length-take k comps, less) in
    ap (components_text 0) (take-next comps k m e) ∙ (components-append 0 (take k comps) (m ∷ [])
    ∙ ap (λ t. components_text 0 (take k comps) ++ t) (append-nil (component_text (0 + length (take k comps)) m) ∙ ap (λ n. component_text n m) count))

-- the lines of components, one of them, and the rest
pub record SplitAt (whole before piece : List ℕ) : Type 0 where
  pub rest : List ℕ
  pub whole_is : whole ≡ (before ++ piece) ++ rest

pub components_split : (comps : List (List ℕ)) (k : ℕ) (m : List ℕ) → slice_get comps k ≡ Some m → SplitAt (components_text 0 comps) (components_text 0 (take k comps)) (component_text k m)
components_split comps k m e = record {
  rest = components_text (0 + length (take (k + 1) comps)) (drop (k + 1) comps);
  whole_is = ap (components_text 0) (sym (take-append-drop (k + 1) comps))
      ∙ (components-append 0 (take (k + 1) comps) (drop (k + 1) comps) ∙ ap (λ t. t ++ components_text (0 + length (take (k + 1) comps)) (drop (k + 1) comps)) (components_next comps k m e));
}

-- pairs, and others behind them
references-append : (a b : List (ℕ × ℕ)) → references_text (a ++ b) ≡ references_text a ++ references_text b
references-append [] b = refl
references-append (p ∷ a) b = ap (λ t. reference_text p ++ t) (references-append a b) ∙ sym (append_assoc (reference_text p) (references_text a) (references_text b))

pub references_next : (pairs : List (ℕ × ℕ)) (k : ℕ) (p : ℕ × ℕ) → slice_get pairs k ≡ Some p → references_text (take (k + 1) pairs) ≡ references_text (take k pairs) ++ reference_text p
references_next pairs k p e = ap references_text (take-next pairs k p e) ∙ (references-append (take k pairs) (p ∷ []) ∙ ap (λ t. references_text (take k pairs) ++ t) (append-nil (reference_text p)))

pub references_split : (pairs : List (ℕ × ℕ)) (k : ℕ) (p : ℕ × ℕ) → slice_get pairs k ≡ Some p → SplitAt (references_text pairs) (references_text (take k pairs)) (reference_text p)
references_split pairs k p e = record {
  rest = references_text (drop (k + 1) pairs);
  whole_is = ap references_text (sym (take-append-drop (k + 1) pairs))
      ∙ (references-append (take (k + 1) pairs) (drop (k + 1) pairs) ∙ ap (λ t. t ++ references_text (drop (k + 1) pairs)) (references_next pairs k p e));
}

abbrev pub no_members : List ℕ
no_members = []

-- the members of a component by their numbers, or none of a heavy class
row_of : (f : ℕ → ℕ) (comps : List (List ℕ)) (heavy k : ℕ) (m : List ℕ) → k < length comps → slice_get comps k ≡ Some m → slice_get (map (map f) comps ++ replicate heavy no_members) k ≡ Some (map f m)
row_of f [] heavy k m l e = absurd (omega arith)
row_of f (x ∷ comps) heavy zero m l e = ap (λ (o : Option (List ℕ)). option_map (map f) o) e
row_of f (x ∷ comps) heavy (suc k) m l e = row_of f comps heavy k m (omega arith) e

none_of : (heavy k : ℕ) → k < heavy → slice_get (replicate heavy no_members) k ≡ Some no_members
none_of zero k l = absurd (omega arith)
none_of (suc heavy) zero l = refl
none_of (suc heavy) (suc k) l = none_of heavy k (omega arith)

heavy_of : (f : ℕ → ℕ) (comps : List (List ℕ)) (heavy k : ℕ) → length comps ≤ k → k < length comps + heavy → slice_get (map (map f) comps ++ replicate heavy no_members) k ≡ Some no_members
heavy_of f [] heavy k l u = none_of heavy k (omega arith)
heavy_of f (x ∷ comps) heavy zero l u = absurd (omega arith)
heavy_of f (x ∷ comps) heavy (suc k) l u = heavy_of f comps heavy k (omega arith) (omega arith)

-- so what a listing's components answer is a row of all of them
pub row_at : (f : ℕ → ℕ) (comps : List (List ℕ)) (heavy k : ℕ) (m : List ℕ) → k < length comps + heavy → (k < length comps → slice_get comps k ≡ Some m)
    → (length comps ≤ k → m ≡ []) → slice_get (map (map f) comps ++ replicate heavy no_members) k ≡ Some (map f m)
row_at f comps heavy k m few here none = ⊎_elim
    (λ (l : k < length comps). row_of f comps heavy k m l (here l))
    (λ (l : length comps ≤ k). heavy_of f comps heavy k l few ∙ ap (λ (x : List ℕ). Some (map f x)) (sym (none l)))
    (cases_lt k (length comps))

-- the members of each component are nodes
pub members_of : (n : ℕ) (comps : List (List ℕ)) (k : ℕ) (m : List ℕ) → All (All (λ x. x < n)) comps
    → (k < length comps → slice_get comps k ≡ Some m) → (length comps ≤ k → m ≡ []) → All (λ x. x < n) m
members_of n comps k m all here none = ⊎_elim
    (λ (l : k < length comps). All-contains (All (λ x. x < n)) comps m all (Contains-at comps k m (here l)))
    (λ (l : length comps ≤ k). subst (All (λ x. x < n)) (sym (none l)) (All-nil (λ x. x < n)))
    (cases_lt k (length comps))
