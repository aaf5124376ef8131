-- The tests of a caller's order tell what the definitions say, case by case: what a managed thread is in the midst of,
-- and where the driver stands.
use Rattle.std.proofs.Common.{◌≡◌, ℕ, zero, suc, List, [], ◌∷◌, length, slice_get, Option, Some, None}
use Rattle.std.specs.List.{list_all}
use Rattle.joint_machine.specs.declared.names.Thread.{Thread}
use Rattle.joint_machine.specs.declared.names.Thread.TheVariants.{M, P, C}
use Rattle.joint_machine.specs.declared.names.Phase.{Phase}
use Rattle.joint_machine.specs.declared.names.Phase.TheVariants as at
use Rattle.joint_machine.specs.declared.lines.Act.TheVariants as act
use Rattle.joint_machine.specs.declared.events.Op.{Op}
use Rattle.joint_machine.specs.declared.events.Op.TheVariants as op
use Rattle.joint_machine.specs.declared.events.Reply.{Reply}
use Rattle.joint_machine.specs.declared.events.Reply.TheVariants as says
use Rattle.joint_machine.specs.Components.{mirror_edges}
use Rattle.joint_machine.specs.Control.{Doing, free, made, lent, gripped, given, met, Stand, idle, snapped, contracted, weakening, marked, restoring, restored, Control, doing_at, carried_edges}
use Rattle.joint_machine.specs.Control.{ThreadAllows, IsCandidateHandle, IsAtRest, IsPhaseOf, DriverAllows, CallerAllows, IsDone}
use Rattle.joint_machine.specs.Managed.{Managed, handle_of, candidates_of}
use Rattle.joint_machine.specs.Peers.{Issued}
use Rattle.joint_machine.specs.Told.{Told, references_of, resolution_of, phase_of}
use Rattle.computed_histories.specs.Lists.{same_number}
use Rattle.computed_histories.specs.Markings.{ends_eq}
use Rattle.computed_histories.specs.Replies.{same_answer}
use Rattle.computed_histories.specs.Callers.{thread_allows, is_candidate_handle, is_at_rest, is_phase_of, driver_allows, caller_allows, is_done}
use Rattle.computed_histories.proofs.Telling.{Tells, always, never, like, and2, and3, and4, and5, and6, or2, same, same_numbers, same_lists, empty, that, is_false}
use Rattle.computed_histories.proofs.LineTests.{tells_line}
use Rattle.computed_histories.proofs.MarkingTests.{both_ends}
use Rattle.computed_histories.proofs.ReplyTests.{sorts, answers, phases}

pub thread : (d : Doing) (t : Thread) (l : ℕ) (o : Op) (cites : Option ℕ) → Tells (thread_allows d t l o cites) (ThreadAllows d t l o cites)
thread (made n line p h sort f) t l (op.Adopt v kind k p' h') cites = and5 (same_numbers cites (Some n)) (same l line) (same p'.0 p) (same h'.0 h) (tells_line t (act.Bridge v kind k sort f))
thread (lent n line h x) t l (op.Land h' x') cites = and4 (same_numbers cites (Some n)) (same l line) (same h'.0 h) (same x'.0 x)
thread (gripped n line p h sort f) t l (op.Meet v sort' f' p' h') cites = and6 (same_numbers cites (Some n)) (same l line) (same p'.0 p) (same h'.0 h) (sorts sort' sort) (same f' f)
thread (given n line h) t l (op.Release h') cites = and3 (same_numbers cites (Some n)) (same l line) (same h'.0 h)
thread (met n line h) t l (op.Release h') cites = and3 (same_numbers cites (Some n)) (same l line) (same h'.0 h)
thread (given n line h) t l o cites = never (λ z. z)
thread (met n line h) t l o cites = never (λ z. z)
thread d t l (op.Adopt v kind k p h) cites = never (λ z. z)
thread d t l (op.Land h x) cites = never (λ z. z)
thread d t l (op.Meet v sort f p h) cites = never (λ z. z)
thread d t l (op.Release h) cites = never (λ z. z)
thread d t l _ cites = empty cites

candidate_handle : (s : Managed) (i h : ℕ) → Tells (is_candidate_handle s i h) (IsCandidateHandle s i h)
candidate_handle s i h = that (slice_get (candidates_of s) i) (λ m. same_number (handle_of s m) (Some h)) (λ m. handle_of s m ≡ Some h) (λ m. same_numbers (handle_of s m) (Some h))

pub at_rest : (d : Stand) (c : ℕ) → Tells (is_at_rest d c) (IsAtRest d c)
at_rest (weakening o count weakened swept) c = and2 (or2 (same count 0) (same count c)) (is_false swept)
at_rest (restoring o said) c = same_lists same_answer answers said []
at_rest _ c = always tt

phase : (d : Stand) (c : ℕ) (p : Phase) → Tells (is_phase_of d c p) (IsPhaseOf d c p)
phase idle c p = phases p at.Idle
phase (snapped o) c p = phases p at.Snapped
phase (contracted o comps heavy xrefs) c p = phases p at.Contracted
phase (weakening o count weakened swept) c p = and2 (is_false swept) (or2 (and3 (phases p at.Mirrored) (same count 0) (is_false weakened)) (and2 (phases p at.Weakened) (same count c)))
phase (marked o) c p = phases p at.Marked
phase (restoring o said) c p = and2 (same_lists same_answer answers said []) (phases p at.Swept)
phase (restored o said clear) c p = phases p at.Restored

driver : (d : Stand) (s : Managed) (issued : List Issued) (o : Op) (reply : Reply) (cites : Option ℕ) (told : Told)
    → Tells (driver_allows d s issued o reply cites told) (DriverAllows d s issued o reply cites told)
driver d s issued (op.Line a) reply cites told = and2 (at_rest d (length (candidates_of s))) (empty cites)
driver idle s issued (op.Snap k) reply cites told = empty cites
driver (snapped o) s issued (op.Contract k) reply cites told = and2 (same o.cycle k.0) (empty cites)
driver (contracted o comps heavy xrefs) s issued (op.Mirror k) reply cites (references_of refs) = and3 (same o.cycle k.0)
    (same_numbers cites (Some o.snap)) (same_lists ends_eq both_ends refs (carried_edges s issued (mirror_edges comps xrefs)))
driver (weakening o count weakened swept) s issued (op.Weaken h) reply cites told = and3 (same_numbers cites (Some o.snap)) (is_false swept) (candidate_handle s count h.0)
driver (weakening o count weakened swept) s issued op.Begin (says.Mark j) cites told = and2 (same count (length (candidates_of s))) (empty cites)
driver (weakening o count weakened swept) s issued op.Sweep reply cites told = and3 (same count (length (candidates_of s))) (is_false swept) (empty cites)
driver (marked o) s issued op.Sweep reply cites told = empty cites
driver (restoring o said) s issued (op.Restore h) reply cites told = and2 (empty cites) (candidate_handle s (length said) h.0)
driver (restoring o said) s issued (op.Clear k) reply cites told = and3 (empty cites) (same (length said) (length (candidates_of s))) (same o.cycle k.0)
driver (restored o said clear) s issued (op.Resolve k) reply cites (resolution_of told freed) = and3 (same o.cycle k.0) (same_numbers cites (Some clear)) (same_lists same_answer answers told said)
driver (snapped o) s issued (op.Abandon k) reply cites told = and2 (same o.cycle k.0) (empty cites)
driver (contracted o comps heavy xrefs) s issued (op.Abandon k) reply cites told = and2 (same o.cycle k.0) (empty cites)
driver d s issued (op.Refused w) reply cites (phase_of p) = and2 (phase d (length (candidates_of s)) p) (empty cites)
driver d s issued _ reply cites told = never (λ z. z)

pub caller : (s : Control) (managed : Managed) (issued : List Issued) (t : Thread) (line : ℕ) (o : Op) (reply : Reply) (cites : Option ℕ) (told : Told)
    → Tells (caller_allows s managed issued t line o reply cites told) (CallerAllows s managed issued t line o reply cites told)
caller s managed issued (M t) line o reply cites told = thread (doing_at s t) (M t) line o cites
caller s managed issued (P t) line o reply cites told = empty cites
caller s managed issued C line o reply cites told = driver s.stand managed issued o reply cites told

-- nothing has to follow
done : (d : Doing) → Tells (is_done d) (IsDone d)
done (given n line h) = never (λ z. z)
done (met n line h) = never (λ z. z)
done _ = always tt

pub all_done : (ds : List Doing) → Tells (list_all is_done ds) ((t : ℕ) → IsDone (elim (slice_get ds t) [ None ↦ free | Some d ↦ d ]))
all_done [] = always (λ t. tt)
all_done (d ∷ ds) = like {P = IsDone d × ((t : ℕ) → IsDone (elim (slice_get ds t) [ None ↦ free | Some d ↦ d ]))} (λ p t. by_place p t) (λ f. (f zero, λ t. f (suc t))) (and2 (done d) (all_done ds))
  where
    by_place : IsDone d × ((t : ℕ) → IsDone (elim (slice_get ds t) [ None ↦ free | Some d ↦ d ])) → (t : ℕ) → IsDone (elim (slice_get (d ∷ ds) t) [ None ↦ free | Some d ↦ d ])
    by_place p zero = p.0
    by_place p (suc t) = p.1 t
