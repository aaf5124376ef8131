-- The rows of a part that is being built, and of one that is packed, each read at an index. Adding a link
-- changes one row, adding a node adds an empty one, and rows that agree at each index are the same.
use Rattle.std.proofs.Common.{◌≡◌, ◌≢◌, ℕ, ◌+◌, ◌<◌, cond, List, [], ◌∷◌, ◌++◌, map, set, refl, sym, ◌∙◌, ap, arith, eq-eqb, inl, inr}
use Rattle.std.proofs.lemmas.List.{length-set, get_or-set_same, get_or-set_other, append-nil}
use Rattle.std.proofs.lemmas.List.FromFn.{length-map-range_with_len, get_or-map-range_with_len, map-range_with_len_more, fill_by_all}
use Rattle.std.proofs.lemmas.List.Elements.{All-head, All-tail}
use Rattle.std.proofs.lemmas.Bool.{cases_eq}
use Rattle.std.specs.List.{range_with_len, All}
use Rattle.bridge_graph.specs.declared.packing.Link.{Link}
use Rattle.bridge_graph.specs.Packing.{rest_of, rows_of}
use Rattle.bridge_graph.specs.Parts.{row_at}
use Rattle.bridge_graph.proofs.Links.{rest-push}
use Rattle.joint_machine.proofs.Deciding.{neq-eqb}

pub row-of_map : (f : ℕ → List ℕ) (n i : ℕ) → i < n → row_at (map f (range_with_len 0 n)) i ≡ f i
row-of_map f n i h = get_or-map-range_with_len f 0 n i i [] h (omega arith)

pub same_rows : (f g : ℕ → List ℕ) (n : ℕ) → ((i : ℕ) → i < n → f i ≡ g i) → map f (range_with_len 0 n) ≡ map g (range_with_len 0 n)
same_rows f g n h = fill_by_all g (map f (range_with_len 0 n)) n [] (length-map-range_with_len f 0 n)
    (λ i lt. row-of_map f n i lt ∙ h i lt)

pub none_from : (links : List Link) (n : ℕ) → All (λ l. l.from ≢ n) links → rest_of links n 0 ≡ []
none_from [] n h = refl
none_from (l ∷ links) n h =
    rw (neq-eqb l.from n (All-head (λ (x : Link). x.from ≢ n) l links h)) (none_from links n (All-tail (λ (x : Link). x.from ≢ n) l links h))

pub rows-node : (links : List Link) (n : ℕ) → All (λ l. l.from ≢ n) links → rows_of links (n + 1) ≡ rows_of links n ++ [] ∷ []
rows-node links n h =
    map-range_with_len_more (λ i. rest_of links i 0) 0 n n (omega arith) ∙ ap (λ r. rows_of links n ++ r ∷ []) (none_from links n h)

pub rows-link : (links : List Link) (l : Link) (n : ℕ) → l.from < n
    → rows_of (links ++ l ∷ []) n ≡ set (rows_of links n) l.from (row_at (rows_of links n) l.from ++ l.to ∷ [])
rows-link links l n h =
    let len = length-map-range_with_len (λ i. rest_of links i 0) 0 n in
    sym (fill_by_all (λ i. rest_of (links ++ l ∷ []) i 0)
    (set (rows_of links n) l.from (row_at (rows_of links n) l.from ++ l.to ∷ [])) n []
    (length-set (rows_of links n) l.from (row_at (rows_of links n) l.from ++ l.to ∷ []) ∙ len)
    (λ k lt. elim (cases_eq k l.from) [
      | inl e ↦ rw e (get_or-set_same (rows_of links n) l.from (row_at (rows_of links n) l.from ++ l.to ∷ []) [] (omega (arith, len))
          ∙ ap (λ r. r ++ l.to ∷ []) (row-of_map (λ i. rest_of links i 0) n l.from h)
          ∙ sym (rest-push links l l.from ∙ ap (λ b. rest_of links l.from 0 ++ cond b (l.to ∷ []) []) (eq-eqb l.from l.from refl)))
      | inr ne ↦ get_or-set_other (rows_of links n) l.from k (row_at (rows_of links n) l.from ++ l.to ∷ []) [] ne
          ∙ row-of_map (λ i. rest_of links i 0) n k lt
          ∙ sym (rest-push links l k ∙ ap (λ b. rest_of links k 0 ++ cond b (l.to ∷ []) []) (neq-eqb l.from k (λ e. ne (sym e))) ∙ append-nil (rest_of links k 0))
    ]))
