-- The order of each caller's events, and what the later event of an operation cites: for a managed thread which
-- operation is half done, for the driver which phase it has come to. (The life of a bridge cycle is that of SGen's
-- bridge header and the Xamarin.Android documentation.)
-- Believed: the clauses of the program's top call rest on all that stands here.
use Rattle.std.specs.Prelude.{◌≡◌, ℕ, ◌+◌, ◌⊎◌, Bool, true, false, List, [], ◌∷◌, ◌++◌, length, map, replicate}
use Rattle.std.specs.Prelude.{slice_get, slice_set, slice_index, Option, Some, None}
use Rattle.joint_machine.specs.declared.names.Thread.{Thread}
use Rattle.joint_machine.specs.declared.names.Thread.TheVariants.{M, P, C}
use Rattle.joint_machine.specs.declared.names.Sort.{Sort}
use Rattle.joint_machine.specs.declared.names.Phase.{Phase}
use Rattle.joint_machine.specs.declared.names.Phase.TheVariants as at
use Rattle.joint_machine.specs.declared.lines.Act.TheVariants as act
use Rattle.joint_machine.specs.declared.events.Op.{Op}
use Rattle.joint_machine.specs.declared.events.Op.TheVariants as op
use Rattle.joint_machine.specs.declared.events.Reply.{Reply}
use Rattle.joint_machine.specs.declared.events.Reply.TheVariants as says
use Rattle.joint_machine.specs.Components.{End, node, temporary, mirror_edges}
use Rattle.joint_machine.specs.Lines.{IsLine}
use Rattle.joint_machine.specs.Managed.{Managed, handle_of, candidates_of}
use Rattle.joint_machine.specs.Peers.{Issued, peer_of}
use Rattle.joint_machine.specs.Told.{Told, contraction_of, references_of, resolution_of, phase_of, said_alive}
use Rattle.joint_machine.specs.Told.{said_cleared, Answer}

-- what a managed thread is in the midst of, with the number and the line of the entry that the next one cites: it has
-- made a pair, lent a handle, gripped a peer, given a handle up, or met a peer without taking the handle
pub data Doing : Type 0 where
  free : Doing
  made : (number line p h : ℕ) (sort : Sort) (fields : ℕ) → Doing
  lent : (number line h x : ℕ) → Doing
  gripped : (number line p h : ℕ) (sort : Sort) (fields : ℕ) → Doing
  given : (number line h : ℕ) → Doing
  met : (number line h : ℕ) → Doing

-- the driver's open cycle, and the number of its snap entry
pub record OpenSnap : Type 0 where
  pub cycle : ℕ
  pub snap : ℕ

-- the driver's place in its cycle, by its entries alone: the mirror stands, so many candidates' handles are weakened,
-- whether it has come to the weakened phase, and whether it has swept a peer thread's marking; the own marking is
-- swept, and these restores have answered; all are restored, and this is the number of the clear entry
pub data Stand : Type 0 where
  idle : Stand
  snapped : OpenSnap → Stand
  contracted : OpenSnap → (comps : List (List ℕ)) (heavy : List ℕ) (xrefs : List (ℕ × ℕ)) → Stand
  weakening : OpenSnap → (count : ℕ) (weakened swept : Bool) → Stand
  marked : OpenSnap → Stand
  restoring : OpenSnap → (answers : List Answer) → Stand
  restored : OpenSnap → (answers : List Answer) (clear : ℕ) → Stand

-- what each managed thread is in the midst of, the line of each caller's last entry, and where the driver stands
pub record Control : Type 0 where
  pub doing : List Doing
  pub lines : List ℕ
  pub stand : Stand

-- nobody has done anything. In `doing` a managed thread's place is its number, so place 0 is nobody's; in `lines` place
-- 0 is the driver's.
abbrev pub opening_control : Control
opening_control = record { doing = replicate 9 free; lines = replicate 17 0; stand = idle }

-- the place of a caller among all: the driver, m1 to m8, p1 to p8
abbrev pub caller_place : Thread → ℕ
caller_place (M n) = n
caller_place (P n) = 8 + n
caller_place C = 0

-- what a managed thread is in the midst of
abbrev pub doing_at : Control → ℕ → Doing
doing_at s t = elim (slice_get s.doing t) [ None ↦ free | Some d ↦ d ]

-- whether a managed thread's event may come next, by what it is in the midst of. An `adopt`, a `land`, a `meet` and a
-- `release` follow the make, the lend, the grip and the give of their own line: each cites that entry, and names the
-- peer, the handle and what else it gave; an `adopt` stands on a `bridge` line. A `release` follows a meet that didn't
-- take the handle, too. Every other event is the first of an operation and cites nothing; it comes where no handle
-- waits for its release, but a pair, a lent handle or a gripped peer may have been left behind by an operation that
-- found no memory.
abbrev pub ThreadAllows : Doing → Thread → ℕ → Op → Option ℕ → Type 0
ThreadAllows (made n line p h sort f) t l (op.Adopt v kind k p' h') cites = (cites ≡ Some n)
    × (l ≡ line) × (p'.0 ≡ p) × (h'.0 ≡ h) × IsLine t (act.Bridge v kind k sort f)
ThreadAllows (lent n line h x) _ l (op.Land h' x') cites = (cites ≡ Some n) × (l ≡ line) × (h'.0 ≡ h) × (x'.0 ≡ x)
ThreadAllows (gripped n line p h sort f) _ l (op.Meet _ sort' f' p' h') cites = (cites ≡ Some n)
    × (l ≡ line) × (p'.0 ≡ p) × (h'.0 ≡ h) × (sort' ≡ sort) × (f' ≡ f)
ThreadAllows (given n line h) _ l (op.Release h') cites = (cites ≡ Some n) × (l ≡ line) × (h'.0 ≡ h)
ThreadAllows (met n line h) _ l (op.Release h') cites = (cites ≡ Some n) × (l ≡ line) × (h'.0 ≡ h)
ThreadAllows (given _ _ _) _ _ _ _ = ⊥
ThreadAllows (met _ _ _) _ _ _ _ = ⊥
ThreadAllows _ _ _ (op.Adopt _ _ _ _ _) _ = ⊥
ThreadAllows _ _ _ (op.Land _ _) _ = ⊥
ThreadAllows _ _ _ (op.Meet _ _ _ _ _) _ = ⊥
ThreadAllows _ _ _ (op.Release _) _ = ⊥
ThreadAllows _ _ _ _ cites = cites ≡ None

-- what the thread is in the midst of after an event with that number, line and reply
abbrev pub doing_after : ℕ → ℕ → Op → Reply → Doing
doing_after n l (op.Make sort f) (says.Made p h) = made n l p.0 h.0 sort f
doing_after n l (op.Lend v x) (says.H h) = lent n l h.0 x.0
doing_after n l (op.Grip x) (says.Gripped p h sort f) = gripped n l p.0 h.0 sort f
doing_after n l (op.Give v) (says.H h) = given n l h.0
doing_after n l (op.Meet v sort f p h) (says.New m) = free
doing_after n l (op.Meet v sort f p h) reply = met n l h.0
doing_after n l _ reply = free

-- the handle is that of the candidate with that place
abbrev pub IsCandidateHandle : Managed → ℕ → ℕ → Type 0
IsCandidateHandle s i h = (m : ℕ) × (slice_get (candidates_of s) i ≡ Some m) × (handle_of s m ≡ Some h)

-- the peer of the handle that a row holds; 0 where it holds none
abbrev pub peer_of_row : Managed → List Issued → ℕ → ℕ
peer_of_row s issued m = elim (handle_of s m) [ None ↦ 0 | Some h ↦ elim (peer_of issued h) [ None ↦ 0 | Some p ↦ p ] ]

-- an end of a mirror edge between rows, carried to the peer of the row's handle; a temporary stays
abbrev pub carried_end : Managed → List Issued → End → End
carried_end s issued (node m) = node (peer_of_row s issued m)
carried_end s issued (temporary i) = temporary i

-- the mirror edges between rows, carried to the peers of their handles and to the temporaries
abbrev pub carried_edges : Managed → List Issued → List (End × End) → List (End × End)
carried_edges s issued edges = map (λ e. (carried_end s issued e.0, carried_end s issued e.1)) edges

-- no phase is half done, with so many candidates
abbrev pub IsAtRest : Stand → ℕ → Type 0
IsAtRest (weakening o count weakened swept) c = ((count ≡ 0) ⊎ (count ≡ c)) × (swept ≡ false)
IsAtRest (restoring o answers) c = answers ≡ []
IsAtRest _ c = Unit {0}

-- the driver's phase. Where there is no candidate the mirrored phase becomes the weakened one at some point.
abbrev pub IsPhaseOf : Stand → ℕ → Phase → Type 0
IsPhaseOf idle c p = p ≡ at.Idle
IsPhaseOf (snapped o) c p = p ≡ at.Snapped
IsPhaseOf (contracted o comps heavy xrefs) c p = p ≡ at.Contracted
IsPhaseOf (weakening o count weakened swept) c p =
    (swept ≡ false) × (((p ≡ at.Mirrored) × (count ≡ 0) × (weakened ≡ false)) ⊎ ((p ≡ at.Weakened) × (count ≡ c)))
IsPhaseOf (marked o) c p = p ≡ at.Marked
IsPhaseOf (restoring o answers) c p = (answers ≡ []) × (p ≡ at.Swept)
IsPhaseOf (restored o answers clear) c p = p ≡ at.Restored

-- whether the driver's event may come next, by where it stands. A line comes where no phase is half done, and a refusal
-- tells the driver's phase. A mirror and each weaken cite the snap of their cycle, a resolve cites its clear, and no
-- other event cites. A mirror adds exactly the mirror edges of its dead part, carried to the peers. The candidates'
-- handles are weakened in order, and restored in the same order. A sweep ends a peer thread's marking, at most once and
-- before the cycle's own marking is begun, or that one; a begin opens it, once all handles are weakened. A resolve goes
-- by the answers that the restores gave. A cycle is abandoned before it is mirrored.
abbrev pub DriverAllows : Stand → Managed → List Issued → Op → Reply → Option ℕ → Told → Type 0
DriverAllows stand s _ (op.Line _) _ cites _ = IsAtRest stand (length (candidates_of s)) × (cites ≡ None)
DriverAllows idle _ _ (op.Snap _) _ cites _ = cites ≡ None
DriverAllows (snapped o) _ _ (op.Contract k) _ cites _ = (o.cycle ≡ k.0) × (cites ≡ None)
DriverAllows (contracted o comps _ xrefs) s issued (op.Mirror k) _ cites (references_of refs) = (o.cycle ≡ k.0)
    × (cites ≡ Some o.snap) × (refs ≡ carried_edges s issued (mirror_edges comps xrefs))
DriverAllows (weakening o n _ swept) s _ (op.Weaken h) _ cites _ = (cites ≡ Some o.snap)
    × (swept ≡ false) × IsCandidateHandle s n h.0
DriverAllows (weakening _ n _ swept) s _ op.Sweep _ cites _ = (n ≡ length (candidates_of s))
    × (swept ≡ false) × (cites ≡ None)
DriverAllows (weakening _ n _ _) s _ op.Begin (says.Mark _) cites _ = (n ≡ length (candidates_of s)) × (cites ≡ None)
DriverAllows (marked _) _ _ op.Sweep _ cites _ = cites ≡ None
DriverAllows (restoring _ said) s _ (op.Restore h) _ cites _ = (cites ≡ None) × IsCandidateHandle s (length said) h.0
DriverAllows (restoring o said) s _ (op.Clear k) _ cites _ = (cites ≡ None)
    × (length said ≡ length (candidates_of s)) × (o.cycle ≡ k.0)
DriverAllows (restored o answers clear) _ _ (op.Resolve k) _ cites (resolution_of said _) = (o.cycle ≡ k.0)
    × (cites ≡ Some clear) × (said ≡ answers)
DriverAllows (snapped o) _ _ (op.Abandon k) _ cites _ = (o.cycle ≡ k.0) × (cites ≡ None)
DriverAllows (contracted o _ _ _) _ _ (op.Abandon k) _ cites _ = (o.cycle ≡ k.0) × (cites ≡ None)
DriverAllows stand s _ (op.Refused _) _ cites (phase_of phase) = IsPhaseOf stand (length (candidates_of s)) phase
    × (cites ≡ None)
DriverAllows _ _ _ _ _ _ _ = ⊥

-- the answer that a restore gives to the candidate
abbrev pub answer_in : Reply → Answer
answer_in (says.Renewed h) = said_alive h.0
answer_in _ = said_cleared

-- a refusal in the weakened phase shows that the driver has come to it
abbrev pub seen_weakened : Bool → Told → Bool
seen_weakened weakened (phase_of at.Weakened) = true
seen_weakened weakened _ = weakened

-- where the driver stands after its event with that number
abbrev pub stand_after : Stand → ℕ → Op → Reply → Told → Stand
stand_after stand n (op.Snap k) reply told = snapped record { cycle = k.0; snap = n }
stand_after (snapped o) n (op.Contract k) reply (contraction_of comps heavy xrefs) = contracted o comps heavy xrefs
stand_after (contracted o comps heavy xrefs) n (op.Mirror k) reply told = weakening o 0 false false
stand_after (weakening o count weakened swept) n (op.Weaken h) reply told = weakening o (count + 1) true swept
stand_after (weakening o count weakened swept) n op.Sweep reply told = weakening o count true true
stand_after (weakening o count weakened swept) n op.Begin reply told = marked o
stand_after (weakening o count weakened swept) n
    (op.Refused w) reply told = weakening o count (seen_weakened weakened told) swept
stand_after (marked o) n op.Sweep reply told = restoring o []
stand_after (restoring o answers) n (op.Restore h) reply told = restoring o (answers ++ answer_in reply ∷ [])
stand_after (restoring o answers) n (op.Clear k) reply told = restored o answers n
stand_after stand n (op.Resolve k) reply told = idle
stand_after stand n (op.Abandon k) reply told = idle
stand_after stand n _ reply told = stand

-- a peer thread's events are whole operations, and cite nothing
abbrev pub CallerAllows : Control → Managed → List Issued → Thread → ℕ → Op → Reply → Option ℕ → Told → Type 0
CallerAllows s managed issued (M t) line o reply cites told = ThreadAllows (doing_at s t) (M t) line o cites
CallerAllows s managed issued (P t) line o reply cites told = cites ≡ None
CallerAllows s managed issued C line o reply cites told = DriverAllows s.stand managed issued o reply cites told

-- the control after an event
abbrev pub control_after : Control → Thread → ℕ → ℕ → Op → Reply → Told → Control
control_after s (M t) n line o reply told = record s
    { doing = slice_set s.doing t (doing_after n line o reply); lines = slice_set s.lines (caller_place (M t)) line }
control_after s (P t) n line o reply told = record s { lines = slice_set s.lines (caller_place (P t)) line }
control_after s C n line o reply told = record s
    { lines = slice_set s.lines 0 line; stand = stand_after s.stand n o reply told }

-- the line of the caller's last entry; 0 before its first
abbrev pub last_line : Control → Thread → ℕ
last_line s t = slice_index s.lines (caller_place t)

-- nothing has to follow any more: no handle waits for its release
abbrev pub IsDone : Doing → Type 0
IsDone (given n line h) = ⊥
IsDone (met n line h) = ⊥
IsDone _ = Unit {0}
