-- The edges that are listed are the mirror edges, as numbers.
use Rattle.std.proofs.Common.{◌≡◌, ℕ, ◌+◌, ◌-◌, ◌<◌, ◌≤◌, List, [], ◌∷◌, ◌++◌, length, map, get_or, refl, ap, ◌∙◌, arith}
use Rattle.std.specs.Prelude.{flat_map}
use Rattle.std.proofs.lemmas.Bool.{lt-ltb, le-ltb}
use Rattle.std.proofs.lemmas.List.{append-nil, get_or-map, map-append}
use Rattle.std.proofs.lemmas.List.FromFn.{length-map-range_with_len, map-range_with_len_more}
use Rattle.std.proofs.lemmas.Grind.{flat_map-append}
use Rattle.bridge_graph.specs.declared.packing.Link.{Link}
use Rattle.bridge_graph.specs.Packing.{packed_row, packed_rows}
use Rattle.bridge_graph.proofs.Rows.{row-of_map}
use Rattle.joint_machine.specs.Components.{between_nodes, circle, end_at, first_of, mirror_edges}
use Rattle.array_graphs.specs.Graphs.{pair_of}
use Rattle.cycle_check.specs.Mirroring.{edge_numbers, end_number, ends_of}

-- one more circle
pub circles-more : (starts members : List ℕ) (c : ℕ) → flat_map circle (packed_rows starts members (c + 1)) ≡ flat_map circle (packed_rows starts members c) ++ circle (packed_row starts members c)
circles-more starts members c =
    ap (flat_map circle) (map-range_with_len_more (packed_row starts members) 0 c c (omega arith))
    ∙ (flat_map-append circle (packed_rows starts members c) (packed_row starts members c ∷ [])
    ∙ ap (λ z. flat_map circle (packed_rows starts members c) ++ z) (append-nil (circle (packed_row starts members c))))

rows-count : (starts members : List ℕ) (m : ℕ) → length (packed_rows starts members m) ≡ m
rows-count starts members m = length-map-range_with_len (packed_row starts members) 0 m

first-read : (row : List ℕ) → first_of row ≡ get_or row 0 0
first-read [] = refl
first-read (x ∷ xs) = refl

-- the end of a component with members, and of one without
pub end-some : (n : ℕ) (starts members : List ℕ) (m c : ℕ) → c < m → end_number n (end_at (packed_rows starts members m) c) ≡ get_or (packed_row starts members c) 0 0
end-some n starts members m c l =
    let comps = packed_rows starts members m in
    let within : c < length comps = (let e = rows-count starts members m in omega (arith, e, l)) in
    rw (lt-ltb c (length comps) within) (get_or-map first_of comps c [] 0 within ∙ (ap first_of (row-of_map (packed_row starts members) m c l) ∙ first-read (packed_row starts members c)))

pub end-none : (n : ℕ) (starts members : List ℕ) (m c : ℕ) → m ≤ c → end_number n (end_at (packed_rows starts members m) c) ≡ n + (c - m)
end-none n starts members m c l =
    let comps = packed_rows starts members m in
    let e : length comps ≡ m = rows-count starts members m in
    let past : length comps ≤ c = omega (arith, e, l) in
    rw (le-ltb c (length comps) past) (ap (λ k. n + (c - k)) e)

circles-same : (n : ℕ) (es : List (ℕ × ℕ)) → map (edge_numbers n) (map between_nodes es) ≡ es
circles-same n [] = refl
circles-same n (e ∷ es) = ap (λ t. e ∷ t) (circles-same n es)

ends-same : (n : ℕ) (comps : List (List ℕ)) (xrefs : List Link) → map (edge_numbers n) (map (λ (p : ℕ × ℕ). (end_at comps p.0, end_at comps p.1)) (map pair_of xrefs)) ≡ map (ends_of n comps) xrefs
ends-same n comps [] = refl
ends-same n comps (l ∷ ls) = ap (λ t. ends_of n comps l ∷ t) (ends-same n comps ls)

pub mirrored : (n : ℕ) (comps : List (List ℕ)) (xrefs : List Link) → map (edge_numbers n) (mirror_edges comps (map pair_of xrefs)) ≡ flat_map circle comps ++ map (ends_of n comps) xrefs
mirrored n comps xrefs =
    let es = flat_map circle comps in
    map-append (edge_numbers n) (map between_nodes es) (map (λ (p : ℕ × ℕ). (end_at comps p.0, end_at comps p.1)) (map pair_of xrefs))
    ∙ (ap (λ z. z ++ map (edge_numbers n) (map (λ (p : ℕ × ℕ). (end_at comps p.0, end_at comps p.1)) (map pair_of xrefs))) (circles-same n es)
    ∙ ap (λ z. es ++ z) (ends-same n comps xrefs))
