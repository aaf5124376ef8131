-- What contracts see of an open cycle's end: the entries of the driver's calls, and what each promises.
use Rattle.std.specs.Prelude.{◌≡◌, ℕ, ◌+◌, List, length, count_by, is_some, Option, Some, None}
use Rattle.joint_machine.specs.declared.names.HNum.{HNum}
use Rattle.joint_machine.specs.declared.names.Thread.TheVariants.{C}
use Rattle.joint_machine.specs.declared.events.Made.{Made}
use Rattle.joint_machine.specs.declared.events.Op.{Op}
use Rattle.joint_machine.specs.declared.events.Op.TheVariants as op
use Rattle.joint_machine.specs.declared.events.Reply.TheVariants as says
use Rattle.joint_machine.specs.Cycles.{resolve_reply}
use Rattle.joint_model.specs.Listed.{answers_of}
use Rattle.joint_machine.specs.Managed.{Managed, OpenCycle}
use Rattle.joint_machine.specs.ManagedReplay.{ManagedReplay, MayContract}
use Rattle.joint_machine.specs.Draws.{Drawing}
use Rattle.joint_machine.specs.Sides.{Side, AddsLawful, managed_rules, step_made}
use Rattle.joint_machine.specs.Told.{nothing, contraction_of, resolution_of}
use Rattle.managed_heap.specs.declared.cycles.ResolveOut.{ResolveOut}
use Rattle.managed_heap.specs.Resolving.{FreesUnanswered, IsAliveClosed}

-- the driver's events
abbrev pub contract_op : OpenCycle → Op
contract_op c = op.Contract record { 0 = c.number }

abbrev pub resolve_op : OpenCycle → Op
resolve_op c = op.Resolve record { 0 = c.number }

abbrev pub abandon_op : OpenCycle → Op
abandon_op c = op.Abandon record { 0 = c.number }

-- the driver's entries
abbrev pub contract_made : OpenCycle → ℕ → ℕ → ℕ → Made
contract_made c index sccs xrefs = step_made C index (contract_op c) (says.Sccs sccs xrefs) None

abbrev pub resolve_made : Managed → OpenCycle → ℕ → List ℕ → ℕ → Made
resolve_made s c index freed cites = step_made C index (resolve_op c) (resolve_reply s freed) (Some cites)

abbrev pub abandon_made : OpenCycle → ℕ → Made
abandon_made c index = step_made C index (abandon_op c) says.Ok None

-- these numbers are those of the components, with the heavy classes, and of the cross-references of the open cycle's
-- dead part
pub record IsContractedBy (s : ManagedReplay) (c : OpenCycle) (sccs xrefs : ℕ)
    (comps : List (List ℕ)) (heavy : List ℕ) (pairs : List (ℕ × ℕ)) : Type 0 where
  pub may : MayContract s c.number comps heavy pairs
  pub components : sccs ≡ length comps + length heavy
  pub references : xrefs ≡ length pairs

-- so it is of some components, heavy classes and cross-references, and the cycle is open
pub record MayContractWith (s : ManagedReplay) (sccs xrefs : ℕ) : Type 0 where
  pub cycle : OpenCycle
  pub opened : s.managed.cycle ≡ Some cycle
  pub comps : List (List ℕ)
  pub heavy : List ℕ
  pub pairs : List (ℕ × ℕ)
  pub contracted : IsContractedBy s cycle sccs xrefs comps heavy pairs

-- a contraction of the open cycle makes one entry, which may come by each contraction with these numbers
pub record Contracts {D : Type 0} (d : Drawing D) (before after : D)
    (old new : Side ManagedReplay) (index sccs xrefs : ℕ) (c : OpenCycle) : Type 0 where
  pub adds : (comps : List (List ℕ)) (heavy : List ℕ) (pairs : List (ℕ × ℕ))
      → IsContractedBy old.state c sccs xrefs comps heavy pairs
      → AddsLawful managed_rules d before after old new
      (contract_made c index sccs xrefs) (contraction_of comps heavy pairs)

-- a resolution closes the open cycle and makes one entry; of the rows with a handle it frees exactly the candidates
-- that weren't answered alive, where none that was leads to one
pub record Resolves {D : Type 0} (d : Drawing D) (before after : D) (old new : Side ManagedReplay)
    (index cites : ℕ) (alive : List (Option HNum)) (out : ResolveOut) : Type 0 where
  pub cycle : OpenCycle
  pub opened : old.state.managed.cycle ≡ Some cycle
  pub freed : List ℕ
  pub adds : AddsLawful managed_rules d before after old new
      (resolve_made old.state.managed cycle index freed cites) (resolution_of (answers_of alive) freed)
  pub exact : IsAliveClosed old.state.managed cycle.candidates (answers_of alive)
      → FreesUnanswered old.state.managed cycle.candidates (answers_of alive) freed
  pub span : out.freed ≡ record { first = length old.state.managed.heap.freed; count = length freed }
  pub kept : out.kept ≡ count_by is_some alive

-- an abandoning closes the open cycle and makes one entry
abbrev pub Abandons : {D : Type 0} → Drawing D → D → D
    → Side ManagedReplay → Side ManagedReplay → ℕ → OpenCycle → Type 0
Abandons d before after old new index c = AddsLawful managed_rules d before after old new (abandon_made c index) nothing
