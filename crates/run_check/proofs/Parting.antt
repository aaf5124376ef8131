-- What the sides have of the open cycle, as the turns ask for it: the next handle is the next candidate's.
use Rattle.std.proofs.Common.{◌≡◌, ℕ, zero, suc, ◌+◌, ◌<◌, ◌≤◌, Bool, ◌↔◌, List, [], ◌∷◌, ◌++◌, length, drop, Option, Some, None, refl, sym, ap, ◌∙◌, subst, arith}
use Rattle.std.specs.Prelude.{IsSome, is_some, slice_get}
use Rattle.std.specs.Option.{option_to_list}
use Rattle.std.proofs.lemmas.Option.{same_Some, slice_get_within}
use Rattle.joint_machine.specs.declared.names.HNum.{HNum}
use Rattle.joint_machine.specs.declared.names.Marking.{Marking as Number}
use Rattle.joint_machine.specs.declared.names.Thread.{Thread}
use Rattle.joint_machine.specs.Control as control
use Rattle.joint_machine.specs.Control.{IsCandidateHandle}
use Rattle.joint_machine.specs.Linked.{Linkage}
use Rattle.joint_machine.specs.Managed.{Managed, candidates_of, handle_of}
use Rattle.joint_machine.specs.PeerReplay.{Marking}
use Rattle.joint_machine.specs.PinsTold.{no_pins}
use Rattle.joint_machine.proofs.HeapLemmas.{candidates_of-open}
use Rattle.known_laws.specs.Driving.{PastInvariant}
use Rattle.known_laws.specs.Known.{pinned}
use Rattle.bridge_graph.specs.declared.graph.Node.{Node}
use Rattle.bridge_graph.specs.Handles.{handle_at, handles_of}
use Rattle.peer_heap.specs.Sides.{IsMarkingOf}
use Rattle.caller_turns.specs.Shapes.{IsPartOf, next_place, stand_of}
use Rattle.caller_turns.specs.Turns.{HasCount}
use Rattle.run_check.specs.declared.cycles.OpenCycle.{OpenCycle as Kept}
use Rattle.run_check.specs.Cycles.{CycleFollows, IsAtHandle, IsOpenHere}
use Rattle.dead_parts.specs.Graphs.{AreCandidates}
use Rattle.dead_parts.proofs.Candidates.{are_candidates}

-- the handle of the node at a place is the first one from there on
first-handle : (nodes : List Node) (place : ℕ) → (place < length nodes → IsSome (handle_at nodes place)) → handle_at nodes place ≡ slice_get (handles_of (drop place nodes)) 0
first-handle [] zero w = refl
first-handle [] (suc p) w = refl
first-handle (n ∷ ns) zero w = by n.handle (w (omega arith))
  where
    by : (o : Option HNum) → IsSome o → o ≡ slice_get (option_to_list o ++ handles_of ns) 0
    by None s = absurd (cc)
    by (Some h) s = refl
first-handle (n ∷ ns) (suc p) w = first-handle ns p (λ l. w (omega (arith, l)))

get-drop : {A : Type 0} (n : ℕ) (xs : List A) → slice_get (drop n xs) 0 ≡ slice_get xs n
get-drop zero xs = refl
get-drop (suc n) [] = refl
get-drop (suc n) (x ∷ xs) = get-drop n xs

pub place-handle : (nodes : List Node) (place n : ℕ) → IsAtHandle nodes place n → handle_at nodes place ≡ slice_get (handles_of nodes) n
place-handle nodes place n a = first-handle nodes place a.bridge ∙ (ap (λ l. slice_get l 0) a.rest ∙ get-drop n (handles_of nodes))

get-within : {A : Type 0} (xs : List A) (i : ℕ) → i < length xs → (x : A) × (slice_get xs i ≡ Some x)
get-within [] i l = absurd (omega (arith, l))
get-within (x ∷ xs) zero l = (x, refl)
get-within (x ∷ xs) (suc i) l = get-within xs i (omega (arith, l))

handle-or : Option ℕ → ℕ
handle-or None = 0
handle-or (Some h) = h

module _ (s : Linkage) (k : PastInvariant (pinned s no_pins)) where
  abbrev t : Managed
  t = (pinned s no_pins).managed.managed

  -- where a cycle is open
  module _ (o : Kept) (w : IsOpenHere s o) where
    are : AreCandidates t o.graph.nodes
    are = are_candidates t w.cycle o.graph k.kept.managed.managed w.opened w.part (record { numbers = w.graph.numbers; handles = w.graph.handles; edges = w.graph.edges })

    -- the handle in a place is the candidate's
    candidate : (n : ℕ) (h : HNum) → IsCandidateHandle s.managed.managed n h.0 → slice_get (handles_of o.graph.nodes) n ≡ Some h
    unfolding handle-or
    candidate n h c =
        let l = slice_get_within (candidates_of s.managed.managed) n c.0 c.1 in
        let many = are.count in
        let x = get-within (handles_of o.graph.nodes) n (omega (arith, l, many)) in
        let d = are.each n x.0 x.1 in
        let row : d.0 ≡ c.0 = same_Some d.0 c.0 (sym d.1 ∙ c.1) in
        let held : Some x.0.0 ≡ Some h.0 = sym d.2 ∙ (ap (handle_of t) row ∙ c.2) in
        x.1 ∙ ap (λ z. Some (record { 0 = z })) (ap handle-or held)

    next-so : (h : HNum) → (handle_at o.graph.nodes o.place ≡ Some h) ↔ IsCandidateHandle s.managed.managed (next_place s.control.stand) h.0
    next-so h =
        let p = place-handle o.graph.nodes o.place (next_place s.control.stand) w.next in
        ((λ e. are.each (next_place s.control.stand) h (sym p ∙ e)), λ c. p ∙ candidate (next_place s.control.stand) h c)

    pub some-part : (next : Option HNum) → next ≡ handle_at o.graph.nodes o.place → (b : Bool)
        → b ≡ is_some s.peer.marking → IsPartOf s (record { candidates = o.candidates; next = next; marking = b })
    some-part next e b m = record {
      candidates = w.count ∙ sym (ap length (candidates_of-open s.managed.managed w.cycle w.opened));
      next = λ h. ((λ q. (next-so h).0 (sym e ∙ q)), λ c. e ∙ (next-so h).1 c);
      marking = m;
    }

pub marking-so : (x : Option (Number × Thread)) (y : Option Marking) → IsMarkingOf x y → is_some x ≡ is_some y
marking-so None None w = refl
marking-so None (Some m) w = absurd w
marking-so (Some n) None w = absurd w
marking-so (Some n) (Some m) w = refl

-- no more handles than nodes
handles-few : (nodes : List Node) → length (handles_of nodes) ≤ length nodes
handles-few [] = omega arith
handles-few (n ∷ nodes) = by n.handle (handles-few nodes)
  where
    by : (o : Option HNum) → length (handles_of nodes) ≤ length nodes → length (option_to_list o ++ handles_of nodes) ≤ length (n ∷ nodes)
    by None l = omega (arith, l)
    by (Some h) l = omega (arith, l)

-- so the count of a phase is below its type's end
pub count-few : (s : Linkage) (c : Option Kept) → CycleFollows s c → HasCount (stand_of s.control.stand)
count-few s None idle = subst (λ d. HasCount (stand_of d)) (sym idle) tt
count-few s (Some o) w = by s.control.stand w.next
  where
    by : (d : control.Stand) → IsAtHandle o.graph.nodes o.place (next_place d) → HasCount (stand_of d)
    by (control.weakening q count weakened swept) a = (let l = a.count in let m = handles-few o.graph.nodes in let p = w.part.few in omega (arith, l, m, p))
    by (control.restoring q answers) a = (let l = a.count in let m = handles-few o.graph.nodes in let p = w.part.few in omega (arith, l, m, p))
    by _ a = tt
