-- An entry that leaves the open cycle alone leaves what is kept of it: no slot names a row of the dead part, so its
-- rows keep their handles and fields, and its graph is still the dead part's.
use Rattle.std.proofs.Common.{◌≡◌, ℕ, List, [], ◌∷◌, length, map, Option, Some, None, refl, sym, ap, ◌∙◌, subst}
use Rattle.std.specs.Prelude.{Contains, slice_get}
use Rattle.joint_machine.specs.Control.{Stand}
use Rattle.joint_machine.specs.Heaps.{HasField, IsLive, fields_of}
use Rattle.joint_machine.specs.Linked.{Linkage}
use Rattle.joint_machine.specs.Managed.{Managed, OpenCycle, candidates_of, handle_of}
use Rattle.joint_machine.proofs.Members.{Contains-at, Contains-here, Contains-there}
use Rattle.joint_laws.specs.LinkedInvariants.{given_at}
use Rattle.joint_laws.specs.ManagedInvariants.{ManagedInvariant}
use Rattle.joint_laws.proofs.ManagedEntries.{handle-same}
use Rattle.joint_laws.proofs.ManagedKeeping.{cut_on, dead-fields, dead-held}
use Rattle.joint_laws.proofs.ManagedMoves.{GoesOn}
use Rattle.bridge_graph.specs.Parts.{Part}
use Rattle.caller_turns.specs.Shapes.{next_place}
use Rattle.managed_heap.specs.Graphs.{IsDeadGraph, handle_number}
use Rattle.run_check.specs.declared.cycles.OpenCycle.{OpenCycle as Kept}
use Rattle.run_check.specs.Cycles.{CycleFollows, HasCycle, IsAtHandle, IsOpenHere}

map_alike : {A : Type 0} (f g : ℕ → A) (xs : List ℕ) → ((x : ℕ) → Contains xs x → f x ≡ g x) → map f xs ≡ map g xs
map_alike f g [] e = refl
map_alike f g (x ∷ xs) e = λ i. e x (Contains-here x xs) i ∷ map_alike f g xs (λ y c. e y (Contains-there y x xs c)) i

-- a row of the dead part is live before and afterwards, and has the same handle and fields
record IsAsBefore (s t : Managed) (m : ℕ) : Type 0 where
  before : IsLive s.heap m
  after : IsLive t.heap m
  handle : handle_of t m ≡ handle_of s m
  fields : fields_of t.heap m ≡ fields_of s.heap m

module _ (s t : Managed) (k : ManagedInvariant s) (g : GoesOn s t) (c : OpenCycle) (e : s.cycle ≡ Some c) where
  row_stays : (m : ℕ) → Contains c.dead m → IsAsBefore s t m
  row_stays m d =
      let l = (k.dead c e).live m d in
      let u = (cut_on s t k g c e).live m d in
      record { before = l; after = u; handle = handle-same s t m l u (dead-held s t k g c e m d); fields = dead-fields s t k g c e m d }

  field-on : (x y : ℕ) → Contains c.dead x → Contains c.dead y → HasField s.heap x y → HasField t.heap x y
  field-on x y a b h = let r = row_stays x a in record { live = r.after; field = subst (λ fs. Contains fs (Some y)) (sym r.fields) h.field; there = (row_stays y b).after }

  field-back : (x y : ℕ) → Contains c.dead x → Contains c.dead y → HasField t.heap x y → HasField s.heap x y
  field-back x y a b h = let r = row_stays x a in record { live = r.before; field = subst (λ fs. Contains fs (Some y)) r.fields h.field; there = (row_stays y b).before }

  pub graph_stays : (p : Part) → IsDeadGraph s c.dead p → IsDeadGraph t c.dead p
  graph_stays p w = record {
    numbers = w.numbers;
    handles = w.handles ∙ map_alike (handle_of s) (handle_of t) c.dead (λ m d. sym (row_stays m d).handle);
    edges = λ i j x y a b.
        let r = w.edges i j x y a b in
        let in_x = Contains-at c.dead i x a in
        let in_y = Contains-at c.dead j y b in
        (λ l. field-on x y in_x in_y (r.0 l), λ h. r.1 (field-back x y in_x in_y h));
  }

-- so what is kept of the cycle follows
module _ (s t : Linkage) (k : ManagedInvariant s.managed.managed) (g : GoesOn s.managed.managed t.managed.managed) (same : t.control.stand ≡ s.control.stand) where
  pub cycle_stays : (o : Option Kept) → CycleFollows s o → CycleFollows t o
  cycle_stays None w = same ∙ w
  cycle_stays (Some o) w = record {
    cycle = w.cycle;
    opened = g.cycle ∙ w.opened;
    graph = graph_stays s.managed.managed t.managed.managed k g w.cycle w.opened o.graph w.graph;
    part = w.part;
    count = w.count;
    stands = subst (λ (z : Stand). HasCycle z o) (sym same) w.stands;
    next = subst (λ (z : Stand). IsAtHandle o.graph.nodes o.place (next_place z)) (sym same) w.next;
    given = w.given ∙ ap given_at (sym same);
    room = w.room;
  }

  pub candidates_stay : candidates_of t.managed.managed ≡ candidates_of s.managed.managed
  candidates_stay = ap (λ (o : Option OpenCycle). elim o [ None ↦ [] | Some c ↦ c.candidates ]) g.cycle
