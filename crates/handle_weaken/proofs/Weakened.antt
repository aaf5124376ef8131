-- Weakening handles one after another: what may still be weakened stays so.
use Rattle.std.proofs.Common.{◌≡◌, ◌≢◌, ℕ, ◌+◌, ◌-◌, ◌≤◌, List, [], ◌∷◌, ◌++◌, length, Option, Some, None, refl, sym, ap, subst, ◌∙◌, arith, length-append, take, drop}
use Rattle.std.specs.Prelude.{All, AllPairs}
use Rattle.std.proofs.lemmas.List.{map-append}
use Rattle.std.proofs.lemmas.List.Elements.{All-contains, All-head}
use Rattle.joint_machine.specs.declared.names.HNum.{HNum}
use Rattle.joint_machine.specs.declared.names.Thread.TheVariants.{C}
use Rattle.joint_machine.specs.declared.events.Op.TheVariants as op
use Rattle.joint_machine.specs.Heaps.{numbered_at, numbered_set}
use Rattle.joint_machine.specs.PeerReplay.{PeerReplay, TableRow, MayWeaken, row_of, with_weakened}
use Rattle.joint_machine.specs.Draws.{Drawing}
use Rattle.joint_machine.specs.Sides.{Making, AddsInTurn, AddsLawful, MayDraw, peer_rules}
use Rattle.joint_machine.specs.Told.{nothing}
use Rattle.joint_machine.proofs.Members.{All-members, Contains-there}
use Rattle.joint_machine.proofs.Numbered.{numbered_set-other}
use Rattle.peer_heap.specs.Cycles.{reserve_left, weakens}
use Rattle.peer_heap.specs.Mirroring.{weak_row}
use Rattle.peer_heap.specs.Sides.{PeerModel, Reserve, seen}
use Rattle.peer_heap.proofs.Makings.{draws-on}
use Rattle.handle_weaken.specs.Entries.{reserve_weakened, weakenings}
use Rattle.handle_weaken.proofs.Turns.{apart-first, apart-rest, done-none, done-some, left-none, left-some, turn-more}
use Rattle.bridge_graph.specs.declared.graph.Node.{Node}
use Rattle.bridge_graph.specs.Handles.{handles_of}
use Rattle.bridge_graph.specs.Parts.{HasNode}

-- these handles are weakened since a start, and these others may be
pub record IsWeakening {D : Type 0} (d : Drawing D) (start now : D) (old new : PeerModel) (index snap : ℕ) (done rest : List HNum) : Type 0 where
  pub adds : AddsInTurn peer_rules d start now (seen old) (seen new) (weakenings index snap done)
  pub reserve : new.reserve ≡ reserve_weakened old.reserve (length done)
  pub peers : new.state.peers ≡ old.state.peers
  pub room : length rest ≤ new.reserve.left
  pub apart : AllPairs (λ h k. h.0 ≢ k.0) rest
  pub weakens : All (λ h. MayWeaken new.state h.0 (Some snap)) rest
  pub may : All (λ h. MayDraw peer_rules d now (seen new) C (op.Weaken h)) rest

-- a handle that may be weakened may be so after another one was
weakens-on : (s t : PeerReplay) (h k snap : ℕ) → t ≡ record s { table = numbered_set s.table h (Some weak_row); mirror = with_weakened s.mirror h }
    → k ≢ h → MayWeaken s k (Some snap) → MayWeaken t k (Some snap)
weakens-on s t h k snap is apart may = record {
  mirror = record may.mirror { weakened = may.mirror.weakened ++ h ∷ [] };
  stands = ap (λ (z : PeerReplay). z.mirror) is ∙ ap (λ m. with_weakened m h) may.stands;
  cited = may.cited;
  is_held = let i = may.is_held in (i.0, ap (λ (z : PeerReplay). numbered_at z.peers.issued k) is ∙ i.1, i.2);
  strong_now = ap (λ (z : PeerReplay). row_of z k) is ∙ (ap (λ (o : Option (Option TableRow)). elim o [ None ↦ None | Some row ↦ row ]) (numbered_set-other s.table h k (Some weak_row) apart)
      ∙ may.strong_now);
}

length-cons : (h : HNum) (hs : List HNum) → length (h ∷ hs) ≡ length hs + 1
length-cons h hs = omega arith

-- one more handle is weakened
pub IsWeakening-next : {D : Type 0} (d : Drawing D) (start now next : D) (old new later : PeerModel) (index snap : ℕ) (h : HNum) (done rest : List HNum)
    → IsWeakening d start now old new index snap done (h ∷ rest)
    → AddsLawful peer_rules d now next (seen new) (seen later) (weakens index h snap) nothing → later.reserve ≡ reserve_left new.reserve
    → later.state.peers ≡ new.state.peers → IsWeakening d start next old later index snap (done ++ h ∷ []) rest
IsWeakening-next d start now next old new later index snap h done rest w adds reserve peers =
    let count : length (done ++ h ∷ []) ≡ length done + 1 = length-append done (h ∷ []) in
    let less : new.reserve.left - 1 ≡ old.reserve.left - length (done ++ h ∷ []) = omega (arith, ap (λ (z : Reserve). z.left) w.reserve) in
    record {
      adds = subst (AddsInTurn peer_rules d start next (seen old) (seen later))
          (sym (map-append (λ (k : HNum). (let m : Making = record { made = weakens index k snap; told = nothing } in m)) done (h ∷ [])))
          (turn-more peer_rules d start now next (seen old) (seen new) (seen later) (weakenings index snap done) (record { made = weakens index h snap; told = nothing }) w.adds adds);
      reserve = reserve ∙ (ap (λ (z : Reserve). record z { left = new.reserve.left - 1 }) w.reserve ∙ ap (λ n. record old.reserve { left = n }) less);
      peers = peers ∙ w.peers;
      room = omega (arith, w.room, length-cons h rest, ap (λ (z : Reserve). z.left) reserve);
      apart = apart-rest h rest w.apart;
      weakens = All-members (λ k. MayWeaken later.state k.0 (Some snap)) rest (λ k there. weakens-on new.state later.state h.0 k.0 snap adds.goes.state (apart-first h rest k w.apart there)
          (All-contains (λ k. MayWeaken new.state k.0 (Some snap)) (h ∷ rest) k w.weakens (Contains-there k h rest there)));
      may = All-members (λ k. MayDraw peer_rules d next (seen later) C (op.Weaken k)) rest
          (λ k there. draws-on d now next (seen new) (seen later) (weakens index h snap) nothing C (op.Weaken k) adds refl
          (All-contains (λ k. MayDraw peer_rules d now (seen new) C (op.Weaken k)) (h ∷ rest) k w.may (Contains-there k h rest there)));
    }

-- the nodes of a part, one after another
module _ {D : Type 0} (d : Drawing D) (start now : D) (old new : PeerModel) (index snap : ℕ) (nodes : List Node)
    (i : ℕ) (w : IsWeakening d start now old new index snap (handles_of (take i nodes)) (handles_of (drop i nodes))) where
  module _ (h : HNum) (at : HasNode nodes i (λ n. n.handle ≡ Some h)) where
    -- the handle of the next bridge node may be weakened
    first : IsWeakening d start now old new index snap (handles_of (take i nodes)) (h ∷ handles_of (drop (i + 1) nodes))
    first = subst (λ hs. IsWeakening d start now old new index snap (handles_of (take i nodes)) hs) (left-some nodes i h at) w

    pub next-room : 1 ≤ new.reserve.left
    next-room = omega (arith, first.room, length-cons h (handles_of (drop (i + 1) nodes)))

    pub next-weakens : MayWeaken new.state h.0 (Some snap)
    next-weakens = All-head (λ (k : HNum). MayWeaken new.state k.0 (Some snap)) h (handles_of (drop (i + 1) nodes)) first.weakens

    pub next-may : MayDraw peer_rules d now (seen new) C (op.Weaken h)
    next-may = All-head (λ (k : HNum). MayDraw peer_rules d now (seen new) C (op.Weaken k)) h (handles_of (drop (i + 1) nodes)) first.may

    -- and is weakened
    pub IsWeakening-node : (next : D) (later : PeerModel) → AddsLawful peer_rules d now next (seen new) (seen later) (weakens index h snap) nothing
        → later.reserve ≡ reserve_left new.reserve → later.state.peers ≡ new.state.peers
        → IsWeakening d start next old later index snap (handles_of (take (i + 1) nodes)) (handles_of (drop (i + 1) nodes))
    IsWeakening-node next later adds reserve peers = subst (λ hs. IsWeakening d start next old later index snap hs (handles_of (drop (i + 1) nodes))) (sym (done-some nodes i h at))
        (IsWeakening-next d start now next old new later index snap h (handles_of (take i nodes)) (handles_of (drop (i + 1) nodes)) first adds reserve peers)

  -- another node is passed
  pub IsWeakening-passed : HasNode nodes i (λ n. n.handle ≡ None) → IsWeakening d start now old new index snap (handles_of (take (i + 1) nodes)) (handles_of (drop (i + 1) nodes))
  IsWeakening-passed at =
      subst (λ hs. IsWeakening d start now old new index snap hs (handles_of (drop (i + 1) nodes))) (sym (done-none nodes i at))
      (subst (λ hs. IsWeakening d start now old new index snap (handles_of (take i nodes)) hs) (left-none nodes i at) w)
