-- Whether a caller's next event comes in its order.
use Rattle.std.specs.Prelude.{ℕ, Bool, true, false, not, ◌&&◌, ◌||◌, nat_eq, List, [], length, slice_get, Option, Some}
use Rattle.joint_machine.specs.declared.names.Thread.{Thread}
use Rattle.joint_machine.specs.declared.names.Thread.TheVariants.{M, P, C}
use Rattle.joint_machine.specs.declared.names.Phase.{Phase}
use Rattle.joint_machine.specs.declared.names.Phase.TheVariants as at
use Rattle.joint_machine.specs.declared.lines.Act.TheVariants as act
use Rattle.joint_machine.specs.declared.events.Op.{Op}
use Rattle.joint_machine.specs.declared.events.Op.TheVariants as op
use Rattle.joint_machine.specs.declared.events.Reply.{Reply}
use Rattle.joint_machine.specs.declared.events.Reply.TheVariants as says
use Rattle.joint_machine.specs.Components.{mirror_edges}
use Rattle.joint_machine.specs.Control.{Doing, free, made, lent, gripped, given, met, Stand, idle, snapped, contracted}
use Rattle.joint_machine.specs.Control.{weakening, marked, restoring, restored, Control, doing_at, carried_edges}
use Rattle.joint_machine.specs.Managed.{Managed, handle_of, candidates_of}
use Rattle.joint_machine.specs.Peers.{Issued}
use Rattle.joint_machine.specs.Told.{Told, references_of, resolution_of, phase_of}
use Rattle.computed_histories.specs.Lists.{same_list, has_that, is_empty, same_number}
use Rattle.computed_histories.specs.Lines.{is_line}
use Rattle.computed_histories.specs.Markings.{ends_eq}
use Rattle.computed_histories.specs.Replies.{same_sort, same_answer, same_phase}

-- the first event of an operation
abbrev pub may_start : Doing → Option ℕ → Bool
may_start (given n line h) cites = false
may_start (met n line h) cites = false
may_start free cites = is_empty cites
may_start (made n line p h sort f) cites = is_empty cites
may_start (lent n line h x) cites = is_empty cites
may_start (gripped n line p h sort f) cites = is_empty cites

-- a later event of an operation: it cites the entry of the first, on the same line, and names what that entry gave
abbrev pub may_adopt : Doing → Thread → ℕ → Op → Option ℕ → Bool
may_adopt (made n line p h sort f) t l (op.Adopt v kind k p' h') cites = same_number cites
    (Some n) && nat_eq l line && nat_eq p'.0 p && nat_eq h'.0 h && is_line t (act.Bridge v kind k sort f)
may_adopt _ t l o cites = false

abbrev pub may_land : Doing → ℕ → Op → Option ℕ → Bool
may_land (lent n line h x) l (op.Land h' x') cites = same_number cites
    (Some n) && nat_eq l line && nat_eq h'.0 h && nat_eq x'.0 x
may_land _ l o cites = false

abbrev pub may_meet : Doing → ℕ → Op → Option ℕ → Bool
may_meet (gripped n line p h sort f) l (op.Meet v sort' f' p' h') cites = same_number cites
    (Some n) && nat_eq l line && nat_eq p'.0 p && nat_eq h'.0 h && same_sort sort' sort && nat_eq f' f
may_meet _ l o cites = false

abbrev pub may_release : Doing → ℕ → ℕ → Option ℕ → Bool
may_release (given n line h) l h' cites = same_number cites (Some n) && nat_eq l line && nat_eq h' h
may_release (met n line h) l h' cites = same_number cites (Some n) && nat_eq l line && nat_eq h' h
may_release _ l h' cites = false

-- the event may come next, of what a managed thread is in the midst of
abbrev pub thread_allows : Doing → Thread → ℕ → Op → Option ℕ → Bool
thread_allows d t l (op.Adopt v kind k p h) cites = may_adopt d t l (op.Adopt v kind k p h) cites
thread_allows d t l (op.Land h x) cites = may_land d l (op.Land h x) cites
thread_allows d t l (op.Meet v sort f p h) cites = may_meet d l (op.Meet v sort f p h) cites
thread_allows d t l (op.Release h) cites = may_release d l h.0 cites
thread_allows d t l _ cites = may_start d cites

-- the handle is that of the candidate with that place
abbrev pub is_candidate_handle : Managed → ℕ → ℕ → Bool
is_candidate_handle s i h = has_that (λ m. same_number (handle_of s m) (Some h)) (slice_get (candidates_of s) i)

-- no phase is half done, with so many candidates
abbrev pub is_at_rest : Stand → ℕ → Bool
is_at_rest (weakening o count weakened swept) c = (nat_eq count 0 || nat_eq count c) && not swept
is_at_rest (restoring o answers) c = same_list same_answer answers []
is_at_rest _ c = true

-- the driver's phase
abbrev pub is_phase_of : Stand → ℕ → Phase → Bool
is_phase_of idle c p = same_phase p at.Idle
is_phase_of (snapped o) c p = same_phase p at.Snapped
is_phase_of (contracted o comps heavy xrefs) c p = same_phase p at.Contracted
is_phase_of (weakening o count weakened swept) c p =
    not swept && ((same_phase p at.Mirrored && nat_eq count 0 && not weakened) ||
    (same_phase p at.Weakened && nat_eq count c))
is_phase_of (marked o) c p = same_phase p at.Marked
is_phase_of (restoring o answers) c p = same_list same_answer answers [] && same_phase p at.Swept
is_phase_of (restored o answers clear) c p = same_phase p at.Restored

-- each event of the driver by the phase that it belongs to
abbrev pub may_snap : Stand → Option ℕ → Bool
may_snap idle cites = is_empty cites
may_snap _ cites = false

abbrev pub may_contract_now : Stand → ℕ → Option ℕ → Bool
may_contract_now (snapped o) k cites = nat_eq o.cycle k && is_empty cites
may_contract_now _ k cites = false

abbrev pub may_mirror_now : Stand → Managed → List Issued → ℕ → Option ℕ → Told → Bool
may_mirror_now (contracted o comps heavy xrefs) s issued k cites (references_of refs) =
    nat_eq o.cycle k && same_number cites (Some o.snap) && same_list ends_eq refs
    (carried_edges s issued (mirror_edges comps xrefs))
may_mirror_now _ s issued k cites told = false

abbrev pub may_weaken_now : Stand → Managed → ℕ → Option ℕ → Bool
may_weaken_now (weakening o count weakened swept) s h cites = same_number cites
    (Some o.snap) && not swept && is_candidate_handle s count h
may_weaken_now _ s h cites = false

abbrev pub may_begin_now : Stand → ℕ → Reply → Option ℕ → Bool
may_begin_now (weakening o count weakened swept) c (says.Mark j) cites = nat_eq count c && is_empty cites
may_begin_now _ c reply cites = false

abbrev pub may_sweep_now : Stand → ℕ → Option ℕ → Bool
may_sweep_now (weakening o count weakened swept) c cites = nat_eq count c && not swept && is_empty cites
may_sweep_now (marked o) c cites = is_empty cites
may_sweep_now _ c cites = false

abbrev pub may_restore_now : Stand → Managed → ℕ → Option ℕ → Bool
may_restore_now (restoring o answers) s h cites = is_empty cites && is_candidate_handle s (length answers) h
may_restore_now _ s h cites = false

abbrev pub may_clear_now : Stand → ℕ → ℕ → Option ℕ → Bool
may_clear_now (restoring o answers) c k cites = is_empty cites && nat_eq (length answers) c && nat_eq o.cycle k
may_clear_now _ c k cites = false

abbrev pub may_resolve_now : Stand → ℕ → Option ℕ → Told → Bool
may_resolve_now (restored o answers clear) k cites (resolution_of told freed) = nat_eq
    o.cycle k && same_number cites (Some clear) && same_list same_answer told answers
may_resolve_now _ k cites told = false

abbrev pub may_abandon_now : Stand → ℕ → Option ℕ → Bool
may_abandon_now (snapped o) k cites = nat_eq o.cycle k && is_empty cites
may_abandon_now (contracted o comps heavy xrefs) k cites = nat_eq o.cycle k && is_empty cites
may_abandon_now _ k cites = false

abbrev pub may_refuse_now : Stand → ℕ → Option ℕ → Told → Bool
may_refuse_now stand c cites (phase_of phase) = is_phase_of stand c phase && is_empty cites
may_refuse_now stand c cites _ = false

-- the driver's event may come next
abbrev pub driver_allows : Stand → Managed → List Issued → Op → Reply → Option ℕ → Told → Bool
driver_allows stand s issued (op.Line a) reply cites told = is_at_rest stand
    (length (candidates_of s)) && is_empty cites
driver_allows stand s issued (op.Snap k) reply cites told = may_snap stand cites
driver_allows stand s issued (op.Contract k) reply cites told = may_contract_now stand k.0 cites
driver_allows stand s issued (op.Mirror k) reply cites told = may_mirror_now stand s issued k.0 cites told
driver_allows stand s issued (op.Weaken h) reply cites told = may_weaken_now stand s h.0 cites
driver_allows stand s issued op.Begin reply cites told = may_begin_now stand (length (candidates_of s)) reply cites
driver_allows stand s issued op.Sweep reply cites told = may_sweep_now stand (length (candidates_of s)) cites
driver_allows stand s issued (op.Restore h) reply cites told = may_restore_now stand s h.0 cites
driver_allows stand s issued (op.Clear k) reply cites told = may_clear_now stand (length (candidates_of s)) k.0 cites
driver_allows stand s issued (op.Resolve k) reply cites told = may_resolve_now stand k.0 cites told
driver_allows stand s issued (op.Abandon k) reply cites told = may_abandon_now stand k.0 cites
driver_allows stand s issued (op.Refused w) reply cites told = may_refuse_now stand
    (length (candidates_of s)) cites told
driver_allows stand s issued _ reply cites told = false

-- the caller's event may come next
abbrev pub caller_allows : Control → Managed → List Issued → Thread → ℕ → Op → Reply → Option ℕ → Told → Bool
caller_allows s managed issued (M t) line o reply cites told = thread_allows (doing_at s t) (M t) line o cites
caller_allows s managed issued (P t) line o reply cites told = is_empty cites
caller_allows s managed issued C line o reply cites told = driver_allows s.stand managed issued o reply cites told

-- nothing has to follow any more
abbrev pub is_done : Doing → Bool
is_done (given n line h) = false
is_done (met n line h) = false
is_done _ = true
