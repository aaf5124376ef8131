-- Whether an event has what its own side asks for, beside its reply.
use Rattle.std.specs.Prelude.{ℕ, Bool, true, false, not, ◌&&◌, ◌||◌, nat_eq, List, [], ◌∷◌, ◌++◌, length, Option, Some}
use Rattle.std.specs.Prelude.{None}
use Rattle.std.specs.List.{list_all}
use Rattle.joint_machine.specs.declared.names.Thread.{Thread}
use Rattle.joint_machine.specs.declared.names.Thread.TheVariants.{P, C}
use Rattle.joint_machine.specs.declared.names.Phase.{Phase}
use Rattle.joint_machine.specs.declared.names.Phase.TheVariants as at
use Rattle.joint_machine.specs.declared.names.PhaseWord.{PhaseWord}
use Rattle.joint_machine.specs.declared.lines.Act.TheVariants as act
use Rattle.joint_machine.specs.declared.events.Op.{Op}
use Rattle.joint_machine.specs.declared.events.Op.TheVariants as op
use Rattle.joint_machine.specs.Heaps.{numbered_at}
use Rattle.joint_machine.specs.Managed.{Managed, OpenCycle}
use Rattle.joint_machine.specs.ManagedReplay.{ManagedReplay}
use Rattle.joint_machine.specs.PeerReplay.{PeerReplay, Marking, row_of, is_thread}
use Rattle.joint_machine.specs.Peers.{is_held, is_strong}
use Rattle.joint_machine.specs.Phases.{next_phase}
use Rattle.joint_machine.specs.Told.{Told, nothing, snap_of, contraction_of, references_of, slice_of, sweep_of}
use Rattle.joint_machine.specs.Told.{resolution_of, phase_of, Answer, handles_given}
use Rattle.computed_histories.specs.Contractions.{is_contraction, dead_graph, agrees}
use Rattle.computed_histories.specs.Lists.{has, has_that, is_empty, same_number}
use Rattle.computed_histories.specs.Markings.{is_closure, is_sweep}
use Rattle.computed_histories.specs.Replies.{same_phase}
use Rattle.computed_histories.specs.Rows.{is_snapshot, is_resolution, answered_alive}

-- cycle k is open, and a test holds of it
abbrev pub is_open : Managed → ℕ → (OpenCycle → Bool) → Bool
is_open s k test = has_that (λ c. nat_eq c.number k && test c) s.cycle

abbrev pub may_contract : ManagedReplay → ℕ → List (List ℕ) → List ℕ → List (ℕ × ℕ) → Bool
may_contract s k comps heavy xrefs = is_open s.managed k
    (λ c. is_contraction (dead_graph s.managed c.dead) comps heavy xrefs) && not s.contracted

-- whether handles are all different, and no row took one of them
abbrev pub are_new : List ℕ → List ℕ → Bool
are_new taken [] = true
are_new taken (h ∷ hs) = not (has taken h) && are_new (taken ++ h ∷ []) hs

abbrev pub may_resolve : ManagedReplay → ℕ → List Answer → List ℕ → Bool
may_resolve s k answers freed = is_open s.managed k
    (λ c. nat_eq (length answers) (length c.candidates) && are_new s.adopted
    (handles_given answers) && is_resolution s.managed c.dead (answered_alive c.candidates answers) freed)

abbrev pub may_refuse : ManagedReplay → PhaseWord → Phase → Bool
may_refuse s w phase = is_empty (next_phase phase w) && agrees (same_phase phase at.Idle) (is_empty s.managed.cycle)

-- what a managed event asks for
abbrev pub managed_allows : ManagedReplay → Op → Told → Bool
managed_allows s (op.Line a) nothing = true
managed_allows s (op.Adopt v kind n p h) nothing = not (has s.adopted h.0)
managed_allows s (op.Lend v x) nothing = true
managed_allows s (op.Meet v sort n p h) nothing = not (has s.adopted h.0)
managed_allows s (op.Give v) nothing = true
managed_allows s (op.Snap k) (snap_of freed candidates dead) = is_snapshot s.managed k.0 freed candidates dead
managed_allows s (op.Contract k) (contraction_of comps heavy xrefs) = may_contract s k.0 comps heavy xrefs
managed_allows s (op.Resolve k) (resolution_of answers freed) = may_resolve s k.0 answers freed
managed_allows s (op.Abandon k) nothing = is_open s.managed k.0 (λ c. true)
managed_allows s (op.Refused w) (phase_of phase) = may_refuse s w phase
managed_allows s _ _ = false

-- the handle is held
abbrev pub is_held_handle : PeerReplay → ℕ → Bool
is_held_handle s h = has_that (λ i. is_held i.hold) (numbered_at s.peers.issued h)

abbrev pub may_mirror : PeerReplay → ℕ → Option ℕ → Bool
may_mirror s k cites = is_empty s.mirror && not (has s.mirrors k) && has_that (λ n. true) cites

abbrev pub may_weaken : PeerReplay → ℕ → Option ℕ → Bool
may_weaken s h cites = has_that (λ m. same_number cites (Some m.snap)) s.mirror && is_held_handle s h && has_that
    (λ r. is_strong r.strength && not r.cleared) (row_of s h)

abbrev pub may_restore : PeerReplay → ℕ → Bool
may_restore s h = has_that (λ m. has m.weakened h && not (has m.restored h)) s.mirror && has_that
    (λ r. true) (row_of s h)

abbrev pub may_clear : PeerReplay → ℕ → Bool
may_clear s k = has_that (λ m. nat_eq m.cycle k && list_all (has m.restored) m.weakened) s.mirror

abbrev pub may_release_held : PeerReplay → ℕ → Bool
may_release_held s h = is_held_handle s h && has_that (λ r. true) (row_of s h)

-- what a slice and a sweep are told
abbrev pub slice_allows : Option Marking → Thread → Told → Bool
slice_allows None t nothing = true
slice_allows (Some mk) t (slice_of closure) = is_thread t mk.by && is_closure mk closure
slice_allows (Some mk) t nothing = not (is_thread t mk.by)
slice_allows _ t _ = false

abbrev pub sweep_allows : PeerReplay → Option Marking → Thread → Told → Bool
sweep_allows s None (P n) nothing = true
sweep_allows s (Some mk) t (sweep_of freed) = (is_thread t C || is_thread t mk.by) && is_sweep s mk freed
sweep_allows s (Some mk) (P n) nothing = not (is_thread (P n) mk.by)
sweep_allows s _ _ _ = false

-- what a peer event asks for
abbrev pub peer_allows : PeerReplay → Thread → Op → Option ℕ → Told → Bool
peer_allows s t (op.Line (act.Slice n)) cites told = slice_allows s.marking t told
peer_allows s t (op.Line a) cites nothing = true
peer_allows s t (op.Make sort n) cites nothing = true
peer_allows s t (op.Land h x) cites nothing = true
peer_allows s t (op.Grip x) cites nothing = true
peer_allows s t (op.Release h) cites nothing = may_release_held s h.0
peer_allows s t (op.Mirror k) cites (references_of refs) = may_mirror s k.0 cites
peer_allows s t (op.Weaken h) cites nothing = may_weaken s h.0 cites
peer_allows s t op.Begin cites nothing = true
peer_allows s t op.Sweep cites told = sweep_allows s s.marking t told
peer_allows s t (op.Restore h) cites nothing = may_restore s h.0
peer_allows s t (op.Clear k) cites nothing = may_clear s k.0
peer_allows s _ _ _ _ = false
