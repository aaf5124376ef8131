-- The table gets an entry for each node, in their order.
use Rattle.std.proofs.Common.{◌≡◌, ℕ, ◌+◌, ◌<◌, List, [], ◌∷◌, ◌++◌, Some, length, map, get_or, take, slice_get, refl, sym, ◌∙◌, ap, arith}
use Rattle.std.specs.Prelude.{All, Contains}
use Rattle.std.proofs.lemmas.List.{map_push, take_more, length-take, get_or-take, get_or_default}
use Rattle.std.proofs.lemmas.List.Elements.{All-push}
use Rattle.std.proofs.lemmas.Option.{slice_get_within, get_or_from_slice_get}
use Rattle.indexmap.specs.IndexMap.{insert_entry}
use Rattle.joint_machine.specs.declared.names.MNum.{MNum}
use Rattle.joint_machine.specs.Components.{Rises}
use Rattle.joint_machine.proofs.Members.{All-members}
use Rattle.bridge_graph.specs.declared.graph.Node.{Node}
use Rattle.bridge_graph.specs.Parts.{numbers_of}
use Rattle.compare_pass.proofs.Rising.{rises_at}
use Rattle.compare_pass.proofs.Tabled.{insert-last, label_in, number_of, same}

-- what stands before place k is below what stands there
pub before-below : (xs : List ℕ) (k b : ℕ) → Rises xs → k < length xs → Contains (take k xs) b → b < get_or xs k 0
before-below xs k b r l c =
    let il : c.0 < k = omega (arith, c.1, length-take k xs) in
    let at : get_or xs c.0 0 ≡ b = sym (get_or-take k xs c.0 0 il) ∙ get_or_default (take k xs) c.0 0 b c.1 ∙ c.2 in
    omega (arith, rises_at xs c.0 k r il l, at)

-- one entry more, for the next node
pub table-more : (nodes : List Node) (x : ℕ) (es after : List (MNum × ℕ)) (m : MNum) (v : ℕ)
    → slice_get (numbers_of nodes) x ≡ Some m.0 → Rises (numbers_of nodes) → map number_of es ≡ take x (numbers_of nodes)
    → All (λ l. l ≡ v) (map label_in es) → after ≡ insert_entry same es m v → (map number_of after ≡ take (x + 1) (numbers_of nodes)) × All (λ l. l ≡ v) (map label_in after)
table-more nodes x es after m v e r n a i =
    let lt : x < length (numbers_of nodes) = slice_get_within (numbers_of nodes) x m.0 e in
    let here : get_or (numbers_of nodes) x 0 ≡ m.0 = get_or_from_slice_get (numbers_of nodes) x m.0 0 e in
    let below : All (λ k. k < m.0) (map number_of es) = rw n (All-members (λ k. k < m.0) (take x (numbers_of nodes))
    (λ b c. let l = before-below (numbers_of nodes) x b r lt c in omega (arith, l, here))) in
    let last : after ≡ es ++ (m, v) ∷ [] = i ∙ insert-last es m v below in (
      ap (λ zs. map number_of zs) last ∙ map_push number_of es (m, v) ∙ ap (λ ns. ns ++ m.0 ∷ []) n ∙ sym (take_more (numbers_of nodes) x 0 lt ∙ ap (λ k. take x (numbers_of nodes) ++ k ∷ []) here),
      rw (last, map_push label_in es (m, v)) (All-push (λ l. l ≡ v) (map label_in es) v a refl),
    )
