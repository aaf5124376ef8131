-- References between ends. An end is an object, or a temporary, which only references lead to and from. (The temporary
-- Java objects of Mono's bridge, which stand for components without peers.)
use Rattle.std.specs.Prelude.{◌≡◌, ℕ, ◌+◌, ◌-◌, ◌≤◌, ◌<◌, ◌⊎◌, suc, Bool, false, List, [], ◌∷◌, Some, Contains, length}
use Rattle.std.specs.Prelude.{map, slice_get, slice_index_or}
use Rattle.joint_machine.specs.Components as exact
use Rattle.reachability.specs.Marks.{HasMark}
use Rattle.row_heap.specs.declared.references.End.{End}
use Rattle.row_heap.specs.declared.references.End.TheVariants.{Object, Temporary}
use Rattle.row_heap.specs.declared.references.Reference.{Reference}
use Rattle.joint_machine.specs.Numbers.{u32_max}

-- an end as the definition has it
abbrev pub end_of : End → exact.End
end_of (Object x) = exact.node x
end_of (Temporary t) = exact.temporary t

abbrev pub ends_of : End × End → exact.End × exact.End
ends_of p = (end_of p.0, end_of p.1)

-- the references as pairs of ends
abbrev pub pairs_in : List Reference → List (exact.End × exact.End)
pairs_in list = map (λ r. (end_of r.from, end_of r.to)) list

-- references as they are seen: from which end to which, in the order in which they came; for how many temporaries and
-- for how many more references there is room; and which temporaries a marking has seen, with their links, where the
-- number 0 is no temporary's, and 1 that of the first
pub record Linked : Type 0 where
  pub refs : List (exact.End × exact.End)
  pub temps : ℕ
  pub room : ℕ
  pub seen : List Bool
  pub links : List ℕ

-- no reference, and no room
abbrev pub no_references : Linked
no_references = record { refs = []; temps = 0; room = 0; seen = false ∷ []; links = 0 ∷ [] }

abbrev pub linked_of : List Reference → List ℕ → List Bool → List ℕ → ℕ → Linked
linked_of list temporaries seen links
    room = record {
      refs = pairs_in list;
      temps = length temporaries;
      room = room;
      seen = false ∷ seen;
      links = 0 ∷ links;
    }

-- an end that may have references: the number of an object, or of a temporary for which there is room
abbrev pub IsEnd : ℕ → exact.End → Type 0
IsEnd temps (exact.node x) = x ≤ 65535
IsEnd temps (exact.temporary t) = t < temps

abbrev pub AreEnds : ℕ → exact.End × exact.End → Type 0
AreEnds temps p = IsEnd temps p.0 × IsEnd temps p.1

-- of the references below place n, the last one from the end stands just below place r; there is none where r is 0
pub record IsLastBelow (refs : List (exact.End × exact.End)) (e : exact.End) (n r : ℕ) : Type 0 where
  pub below : r ≤ n
  pub none : (i : ℕ) (f : exact.End) → r ≤ i → i < n → slice_get refs i ≡ Some (e, f) → ⊥
  pub there : 1 ≤ r → (f : exact.End) × (slice_get refs (r - 1) ≡ Some (e, f))

-- where the references from an end begin, by the lists that have it
abbrev pub first_in : List ℕ → List ℕ → exact.End → ℕ
first_in objects temporaries (exact.node x) = slice_index_or objects x 0
first_in objects temporaries (exact.temporary t) = slice_index_or temporaries t 0

-- there is a place for where the references from the end begin
abbrev pub HasPlace : ℕ → ℕ → exact.End → Type 0
HasPlace objects temporaries (exact.node x) = x < objects
HasPlace objects temporaries (exact.temporary t) = t < temporaries

-- the references of each end are linked, the last one first, and each end that they lead from has a place; the
-- temporaries have their flags and links; the list has the room that is said; and there is room for a place for each
-- object, if the list has any
pub record AreLinked (list : List Reference) (objects temporaries : List ℕ)
    (seen : List Bool) (links : List ℕ) (room capacity places : ℕ) : Type 0 where
  pub firsts : (e : exact.End) → IsLastBelow (pairs_in list) e (length list) (first_in objects temporaries e)
  pub nexts : (i : ℕ) (r : Reference) → slice_get list i ≡ Some r → IsLastBelow (pairs_in list) (end_of r.from) i r.next
  pub from : (i : ℕ) (r : Reference) → slice_get list i ≡ Some r
      → HasPlace (length objects) (length temporaries) (end_of r.from)
  pub to : (i : ℕ) (r : Reference) → slice_get list i ≡ Some r → IsEnd (length temporaries) (end_of r.to)
  pub flags : length seen ≡ length temporaries
  pub chains : length links ≡ length temporaries
  pub few : length temporaries ≤ 4294901760
  pub reach : 1 ≤ room → 65536 ≤ places
  pub space : length list + room ≤ capacity
  pub most : length list + room ≤ u32_max

-- the ends of a list have no references any more, and nothing else changed
pub record FirstsCleared (ends : List exact.End) (old new : exact.End → ℕ) : Type 0 where
  pub cleared : (e : exact.End) → Contains ends e → new e ≡ 0
  pub others : (e : exact.End) → (new e ≡ 0) ⊎ (new e ≡ old e)

-- the end is the temporary of that number, where 1 is the number of the first
abbrev pub IsTemporary : exact.End → ℕ → Type 0
IsTemporary (exact.node x) n = ⊥
IsTemporary (exact.temporary t) n = n ≡ suc t

-- a reference leads from the end to the temporary of that number
abbrev pub Sees : List (exact.End × exact.End) → exact.End → ℕ → Type 0
Sees refs e n = (f : exact.End) × Contains refs (e, f) × IsTemporary f n

-- what is marked stays so, and these are marked
pub record Raises (these : ℕ → Type 0) (old new : List Bool) : Type 0 where
  pub kept : (k : ℕ) → HasMark old k → HasMark new k
  pub done : (k : ℕ) → these k → HasMark new k
