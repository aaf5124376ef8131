-- What a driver's call of the managed side leaves in the side and in the seat by which it drew: one entry, which went
-- on in its list.
use Rattle.std.specs.Prelude.{◌≡◌, ℕ, List, length, count_by, is_some, Option, Some}
use Rattle.joint_machine.specs.declared.names.HNum.{HNum}
use Rattle.joint_machine.specs.Draws.{numbered}
use Rattle.joint_model.specs.Listed.{answers_of}
use Rattle.joint_machine.specs.Managed.{OpenCycle}
use Rattle.joint_machine.specs.ManagedReplay.{ManagedReplay}
use Rattle.joint_machine.specs.Sides.{Side, managed_rules}
use Rattle.joint_machine.specs.Told.{nothing, contraction_of, resolution_of}
use Rattle.managed_heap.specs.declared.cycles.ResolveOut.{ResolveOut}
use Rattle.managed_heap.specs.Calls.{IsContractedBy, abandon_made, contract_made, resolve_made}
use Rattle.order_table.specs.Views.{OrderId, Shown}
use Rattle.joint_history.specs.Locked.{Drew}

-- the open cycle's contraction: the list goes on by each contraction with these numbers, and there is one
pub record DrawsContraction (order : OrderId) (seat seat' : Shown)
    (side side' : Side ManagedReplay) (index sccs xrefs n : ℕ) : Type 0 where
  pub cycle : OpenCycle
  pub opened : side.state.managed.cycle ≡ Some cycle
  pub threads : side'.threads ≡ side.threads
  pub comps : List (List ℕ)
  pub heavy : List ℕ
  pub pairs : List (ℕ × ℕ)
  pub contracted : IsContractedBy side.state cycle sccs xrefs comps heavy pairs
  pub drew : (cs : List (List ℕ)) (hs : List ℕ) (xs : List (ℕ × ℕ))
      → IsContractedBy side.state cycle sccs xrefs cs hs xs
      → Drew managed_rules 0 order seat seat' side side'
      (numbered n (contract_made cycle index sccs xrefs)) (contraction_of cs hs xs)

-- the abandoning of the open cycle
pub record DrawsAbandon (order : OrderId) (seat seat' : Shown)
    (side side' : Side ManagedReplay) (index n : ℕ) : Type 0 where
  pub cycle : OpenCycle
  pub opened : side.state.managed.cycle ≡ Some cycle
  pub threads : side'.threads ≡ side.threads
  pub drew : Drew managed_rules 0 order seat seat' side side' (numbered n (abandon_made cycle index)) nothing

-- the resolution of the open cycle, and what it answers
pub record DrawsResolution (order : OrderId) (seat seat' : Shown) (side side' : Side ManagedReplay)
    (index cites n : ℕ) (alive : List (Option HNum)) (out : ResolveOut) : Type 0 where
  pub cycle : OpenCycle
  pub opened : side.state.managed.cycle ≡ Some cycle
  pub threads : side'.threads ≡ side.threads
  pub freed : List ℕ
  pub drew : Drew managed_rules 0 order seat seat' side side'
      (numbered n (resolve_made side.state.managed cycle index freed cites)) (resolution_of (answers_of alive) freed)
  pub span : out.freed ≡ record { first = length side.state.managed.heap.freed; count = length freed }
  pub kept : out.kept ≡ count_by is_some alive
