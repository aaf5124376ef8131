-- The rows of the arrays as a graph that is walked: they lead where the arrays do.
use Rattle.std.proofs.Common.{◌≡◌, ℕ, ◌<◌, List, [], length, Some, Option, sym, ap, subst, ◌∙◌, arith}
use Rattle.std.specs.List.{Contains}
use Rattle.std.specs.Prelude.{slice_get}
use Rattle.std.proofs.lemmas.List.FromFn.{length-map-range_with_len}
use Rattle.std.proofs.lemmas.Option.{same_Some, slice_get_within, slice_get-get_or}
use Rattle.joint_machine.proofs.Members.{Contains-map, Contains-map_cases}
use Rattle.joint_machine.specs.Components.{IsMember}
use Rattle.bridge_graph.specs.Packing.{packed_row}
use Rattle.bridge_graph.proofs.Rows.{row-of_map}
use Rattle.array_graphs.specs.Graphs.{LeadsInRow}
use Rattle.reachability.specs.Marks.{Leads}
use Rattle.cycle_check.specs.Reports.{comps_in}
use Rattle.cycle_check.specs.Walking.{row_targets}

pub leads-row : (starts targets : List ℕ) (x y : ℕ) → Leads (length starts) (row_targets starts targets) x y → LeadsInRow starts targets x y
leads-row starts targets x y h =
    let m = Contains-map_cases (λ (z : ℕ). Some z) (packed_row starts targets x) (Some y) h.1 in
    (h.0, subst (λ z. Contains (packed_row starts targets x) z) (same_Some m.0 y m.2) m.1)

pub row-leads : (starts targets : List ℕ) (x y : ℕ) → LeadsInRow starts targets x y → Leads (length starts) (row_targets starts targets) x y
row-leads starts targets x y h = (h.0, Contains-map (λ (z : ℕ). Some z) (packed_row starts targets x) y h.1)

-- the component with that index
comp-at : (starts members : List ℕ) (c : ℕ) → c < length starts → slice_get (comps_in starts members) c ≡ Some (packed_row starts members c)
comp-at starts members c l =
    let n = length-map-range_with_len (packed_row starts members) 0 (length starts) in
    let some : Option (List ℕ) → Type 0 = λ o. slice_get (comps_in starts members) c ≡ o in
    subst some (ap (λ (r : List ℕ). Some r) (row-of_map (packed_row starts members) (length starts) c l))
    (slice_get-get_or (comps_in starts members) c [] (omega (arith, n, l)))

pub member-from : (starts members : List ℕ) (c x : ℕ) → IsMember (comps_in starts members) c x → (c < length starts) × Contains (packed_row starts members c) x
member-from starts members c x m =
    let n = length-map-range_with_len (packed_row starts members) 0 (length starts) in
    let l : c < length starts = (let w = slice_get_within (comps_in starts members) c m.0 m.1 in omega (arith, w, n)) in
    (l, subst (λ (r : List ℕ). Contains r x) (same_Some m.0 (packed_row starts members c) (sym m.1 ∙ comp-at starts members c l)) m.2)

pub member-to : (starts members : List ℕ) (c x : ℕ) → c < length starts → Contains (packed_row starts members c) x → IsMember (comps_in starts members) c x
member-to starts members c x l h = (packed_row starts members c, comp-at starts members c l, h)
