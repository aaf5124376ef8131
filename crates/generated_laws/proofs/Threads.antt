-- Each thread of a generated script has one family again and again, so its entries go on; and the driver's are those of
-- cycles.
use Rattle.std.proofs.Common.{◌≡◌, ℕ, zero, suc, ◌+◌, ◌<◌, Bool, true, false, List, [], ◌∷◌, ◌++◌, refl, sym, ap, subst, ◌∙◌, arith, append_assoc}
use Rattle.std.specs.Prelude.{if◌then◌else◌}
use Rattle.std.proofs.lemmas.List.{append-nil}
use Rattle.joint_machine.specs.declared.names.StaticNo.{StaticNo}
use Rattle.joint_machine.specs.declared.names.Thread.{Thread}
use Rattle.joint_machine.specs.declared.names.Thread.TheVariants.{M, P, C}
use Rattle.joint_machine.specs.declared.names.Phase.{Phase}
use Rattle.joint_machine.specs.declared.names.Phase.TheVariants as at
use Rattle.joint_machine.specs.declared.names.PhaseWord.TheVariants as word
use Rattle.joint_machine.specs.declared.lines.Act.{Act}
use Rattle.joint_machine.specs.declared.lines.Act.TheVariants as act
use Rattle.joint_machine.specs.declared.events.Op.{Op}
use Rattle.joint_machine.specs.declared.events.Op.TheVariants as op
use Rattle.joint_machine.specs.declared.events.Entry.{Entry}
use Rattle.joint_machine.specs.Lines.{IsLine}
use Rattle.joint_machine.specs.Phases.{phases_left, ArePhases}
use Rattle.joint_machine.specs.PeerReplay.{is_thread}
use Rattle.joint_machine.proofs.HeapLemmas.{same_thread}
use Rattle.script_generator.specs.Families.{lines_by, family_of, bridge_circle, cached_leaf, passed_bridge, peer_circle}
use Rattle.script_generator.specs.Generated.{shape_of, thread_of, static_of, family, cycle_after, generated}
use Rattle.script_generator.proofs.Counts.{here, none, after}
use Rattle.script_laws.specs.Holding.{Standing, AreEvents, AreEventsAfter, standing_after, HoldsLines, numbered_from, lines_of}
use Rattle.generated_laws.proofs.Totals.{Each, each-append, each-join}
use Rattle.generated_laws.proofs.Own.{IsSimple, HasAnswer, IsLater, IsLaterEntry, IsCycleOf, whole_cycle}
use Rattle.generated_laws.proofs.Held.{IsSimpleLine, idle-after}
use Rattle.generated_laws.proofs.Pictures.{empty_mind, Going}
use Rattle.generated_laws.proofs.Opening.{nothing-at, unfilled-at}
use Rattle.generated_laws.proofs.PeerShowing.{none_filled, PeerGoing}
use Rattle.generated_laws.proofs.Quiet.{IsOfCycle}
use Rattle.generated_laws.proofs.Running.{IsCycleEntry}
use Rattle.generated_laws.proofs.Families.{Runs, runs-append, circle-going, cached-going, passed-going, peers-going}

-- the operations of a thread
abbrev acts_of : Thread → List (Thread × Act) → List Act
acts_of t [] = []
acts_of t (line ∷ script) = if is_thread t line.0 then line.1 ∷ acts_of t script else acts_of t script

acts-append : (t : Thread) (xs ys : List (Thread × Act)) → acts_of t (xs ++ ys) ≡ acts_of t xs ++ acts_of t ys
acts-append t [] ys = refl
acts-append t (x ∷ xs) ys = by (is_thread t x.0) (acts-append t xs ys)
  where
    by : (b : Bool) → acts_of t (xs ++ ys) ≡ acts_of t xs ++ acts_of t ys
        → (if b then x.1 ∷ acts_of t (xs ++ ys) else acts_of t (xs ++ ys)) ≡ (if b then x.1 ∷ acts_of t xs else acts_of t xs) ++ acts_of t ys
    by true e = ap (λ l. x.1 ∷ l) e
    by false e = e

abbrev no_acts : List Act
no_acts = []

nothing-either : (b : Bool) → no_acts ≡ (if b then no_acts else no_acts)
nothing-either true = refl
nothing-either false = refl

acts-lines : (t u : Thread) (acts : List Act) → acts_of t (lines_by u acts) ≡ (if is_thread t u then acts else [])
acts-lines t u [] = nothing-either (is_thread t u)
acts-lines t u (a ∷ acts) = by (is_thread t u) (acts-lines t u acts)
  where
    by : (b : Bool) → acts_of t (lines_by u acts) ≡ (if b then acts else []) → (if b then a ∷ acts_of t (lines_by u acts) else acts_of t (lines_by u acts)) ≡ (if b then a ∷ acts else [])
    by true e = ap (λ l. a ∷ l) e
    by false e = e

-- a line that is no cycle has its own events
plain-events : (s : Standing) (t : Thread) (a : Act) (own : List Entry) → IsLine t a → is_thread t C ≡ false → AreEvents s a own → AreEventsAfter a [] own
plain-events s (M n) (act.PhaseLine w) own l n' e = absurd l.1
plain-events s (P n) (act.PhaseLine w) own l n' e = absurd l.1
plain-events s C a own l n' e = absurd (cc)
plain-events s t a own l n' e = e

-- what is held of a thread's lines runs its operations
runs-held : (t : Thread) → is_thread t C ≡ false → (k : ℕ) (script : List (Thread × Act)) (s : Standing) (es : List Entry)
    → s.phase ≡ at.Idle → Each IsSimpleLine script → HoldsLines s (lines_of t (numbered_from k script)) es → Runs (acts_of t script) es
runs-held t n k [] s es i w h = subst (λ (p : Phase). ArePhases s.candidates (phases_left p) es) i h.events
runs-held t n k (x ∷ script) s es i w h = by (is_thread t x.0) refl h (λ z fs j g. runs-held t n (k + 1) script z fs j w.1 g)
  where
    by : (b : Bool) → is_thread t x.0 ≡ b → HoldsLines s (if b then (k, x) ∷ lines_of t (numbered_from (k + 1) script) else lines_of t (numbered_from (k + 1) script)) es
        → ((z : Standing) (fs : List Entry) → z.phase ≡ at.Idle → HoldsLines z (lines_of t (numbered_from (k + 1) script)) fs → Runs (acts_of t script) fs)
        → Runs (if b then x.1 ∷ acts_of t script else acts_of t script) es
    by false e g f = f s es i g
    by true e g f =
        let same : t ≡ x.0 = same_thread t x.0 e in
        (g.0, g.1, g.2, plain-events s x.0 x.1 g.0 g.3.lawful (subst (λ u. is_thread u C ≡ false) same n) g.3.events, f (standing_after s k x.1 g.0) g.1 (idle-after s k x.1 g.0 i w.0.1) g.4)

-- the script from its front
abbrev front : ℕ → ℕ → ℕ → List (Thread × Act)
front seed i zero = []
front seed i (suc n) = (family seed i ++ cycle_after i) ++ front seed (suc i) n

front-more : (seed i n : ℕ) → front seed i (suc n) ≡ front seed i n ++ (family seed (i + n) ++ cycle_after (i + n))
front-more seed i zero = (let e : i ≡ i + 0 = omega arith in append-nil (family seed i ++ cycle_after i) ∙ ap (λ k. family seed k ++ cycle_after k) e)
front-more seed i (suc n) =
    let e : suc i + n ≡ i + suc n = omega arith in
    ap (λ l. (family seed i ++ cycle_after i) ++ l) (front-more seed (suc i) n ∙ ap (λ k. front seed (suc i) n ++ (family seed k ++ cycle_after k)) e)
    ∙ sym (append_assoc (family seed i ++ cycle_after i) (front seed (suc i) n) (family seed (i + suc n) ++ cycle_after (i + suc n)))

generated-front : (seed n : ℕ) → generated seed n ≡ front seed 0 n
generated-front seed zero = refl
generated-front seed (suc n) =
    append_assoc (generated seed n) (family seed n) (cycle_after n) ∙ (ap (λ l. l ++ (family seed n ++ cycle_after n)) (generated-front seed n)
    ∙ (let e : 0 + n ≡ n = omega arith in ap (λ k. front seed 0 n ++ (family seed k ++ cycle_after k)) (sym e) ∙ sym (front-more seed 0 n)))

no-cycle : (t : Thread) (i : ℕ) → is_thread t C ≡ false → acts_of t (cycle_after i) ≡ []
no-cycle t i n = elim (after i) [
  | here e is ↦ ap (acts_of t) is ∙ ap (λ b. if b then act.PhaseLine word.Cycle ∷ [] else []) n
  | none e is ↦ ap (acts_of t) is
]

front-acts : (t : Thread) (seed i n : ℕ) → is_thread t C ≡ false → acts_of t (front seed i (suc n)) ≡ acts_of t (family seed i) ++ acts_of t (front seed (suc i) n)
front-acts t seed i n other =
    acts-append t (family seed i ++ cycle_after i) (front seed (suc i) n)
    ∙ ap (λ l. l ++ acts_of t (front seed (suc i) n)) (acts-append t (family seed i) (cycle_after i)
    ∙ (ap (λ l. acts_of t (family seed i) ++ l) (no-cycle t i other) ∙ append-nil (acts_of t (family seed i))))

-- one family of a managed thread
family-going : (k t u : ℕ) (x : StaticNo) (es tail : List Entry) → x.0 < 16 → Each HasAnswer es → Runs (acts_of (M t) (family_of k u x)) es → Going tail empty_mind → Going (es ++ tail) empty_mind
family-going zero t u x es tail l g r d = by (is_thread (M t) (M u)) (subst (λ a. Runs a es) (acts-lines (M t) (M u) bridge_circle) r)
  where
    by : (b : Bool) → Runs (if b then bridge_circle else []) es → Going (es ++ tail) empty_mind
    by true r = circle-going es tail g r d
    by false r = (let q : es ≡ [] = r in subst (λ y. Going (y ++ tail) empty_mind) (sym q) d)
family-going (suc zero) t u x es tail l g r d = by (is_thread (M t) (M u)) (subst (λ a. Runs a es) (acts-lines (M t) (M u) (cached_leaf x)) r)
  where
    by : (b : Bool) → Runs (if b then cached_leaf x else []) es → Going (es ++ tail) empty_mind
    by true r = cached-going x es tail l g r d
    by false r = (let q : es ≡ [] = r in subst (λ y. Going (y ++ tail) empty_mind) (sym q) d)
family-going (suc (suc zero)) t u x es tail l g r d = by (is_thread (M t) (M u)) (subst (λ a. Runs a es) (acts-lines (M t) (M u) (passed_bridge x)) r)
  where
    by : (b : Bool) → Runs (if b then passed_bridge x else []) es → Going (es ++ tail) empty_mind
    by true r = passed-going x es tail l g r d
    by false r = (let q : es ≡ [] = r in subst (λ y. Going (y ++ tail) empty_mind) (sym q) d)
family-going (suc (suc (suc n))) t u x es tail l g r d = (let q : es ≡ [] = subst (λ a. Runs a es) (acts-lines (M t) (P u) peer_circle) r in subst (λ y. Going (y ++ tail) empty_mind) (sym q) d)

-- and of a peer thread
peer_family-going : (k t u : ℕ) (x : StaticNo) (es tail : List Entry) → Runs (acts_of (P t) (family_of k u x)) es → PeerGoing tail none_filled → PeerGoing (es ++ tail) none_filled
peer_family-going zero t u x es tail r d = (let q : es ≡ [] = subst (λ a. Runs a es) (acts-lines (P t) (M u) bridge_circle) r in subst (λ y. PeerGoing (y ++ tail) none_filled) (sym q) d)
peer_family-going (suc zero) t u x es tail r d = (let q : es ≡ [] = subst (λ a. Runs a es) (acts-lines (P t) (M u) (cached_leaf x)) r in subst (λ y. PeerGoing (y ++ tail) none_filled) (sym q) d)
peer_family-going (suc (suc zero)) t u x es tail r d = (let q : es ≡ [] = subst (λ a. Runs a es) (acts-lines (P t) (M u) (passed_bridge x)) r in
    subst (λ y. PeerGoing (y ++ tail) none_filled) (sym q) d)
peer_family-going (suc (suc (suc n))) t u x es tail r d = by (is_thread (P t) (P u)) (subst (λ a. Runs a es) (acts-lines (P t) (P u) peer_circle) r)
  where
    by : (b : Bool) → Runs (if b then peer_circle else []) es → PeerGoing (es ++ tail) none_filled
    by true r = peers-going es tail r d
    by false r = (let q : es ≡ [] = r in subst (λ y. PeerGoing (y ++ tail) none_filled) (sym q) d)

front-going : (seed t n i : ℕ) (es : List Entry) → Each HasAnswer es → Runs (acts_of (M t) (front seed i n)) es → Going es empty_mind
front-going seed t zero i es g r = (let q : es ≡ [] = r in subst (λ l. Going l empty_mind) (sym q) (nothing-at, refl))
front-going seed t (suc n) i es g r =
    let both = runs-append (acts_of (M t) (family seed i)) (acts_of (M t) (front seed (suc i) n)) es (subst (λ a. Runs a es) (front-acts (M t) seed i n refl) r) in
    let parts = each-append HasAnswer both.0 both.1 (subst (Each HasAnswer) both.2 g) in
    subst (λ l. Going l empty_mind) (sym both.2)
    (family-going (shape_of seed i) t (thread_of i) (static_of i) both.0 both.1 (omega arith) parts.0 both.3 (front-going seed t n (suc i) both.1 parts.1 both.4))

peer_front-going : (seed t n i : ℕ) (es : List Entry) → Runs (acts_of (P t) (front seed i n)) es → PeerGoing es none_filled
peer_front-going seed t zero i es r = (let q : es ≡ [] = r in subst (λ l. PeerGoing l none_filled) (sym q) unfilled-at)
peer_front-going seed t (suc n) i es r =
    let both = runs-append (acts_of (P t) (family seed i)) (acts_of (P t) (front seed (suc i) n)) es (subst (λ a. Runs a es) (front-acts (P t) seed i n refl) r) in
    subst (λ l. PeerGoing l none_filled) (sym both.2) (peer_family-going (shape_of seed i) t (thread_of i) (static_of i) both.0 both.1 both.3 (peer_front-going seed t n (suc i) both.1 both.4))

pub thread-going : (seed size t : ℕ) (s : Standing) (es : List Entry) → s.phase ≡ at.Idle → Each IsSimpleLine (generated seed size)
    → Each HasAnswer es → HoldsLines s (lines_of (M t) (numbered_from 1 (generated seed size))) es → Going es empty_mind
thread-going seed size t s es i w g h = front-going seed t size 0 es g (subst (λ l. Runs (acts_of (M t) l) es) (generated-front seed size) (runs-held (M t) refl 1 (generated seed size) s es i w h))

pub peer_thread-going : (seed size t : ℕ) (s : Standing) (es : List Entry) → s.phase ≡ at.Idle → Each IsSimpleLine (generated seed size)
    → HoldsLines s (lines_of (P t) (numbered_from 1 (generated seed size))) es → PeerGoing es none_filled
peer_thread-going seed size t s es i w h = peer_front-going seed t size 0 es
    (subst (λ l. Runs (acts_of (P t) l) es) (generated-front seed size) (runs-held (P t) refl 1 (generated seed size) s es i w h))

-- the driver's entries are those of cycles
later-cycle : (es : List Entry) → Each IsLaterEntry es → Each IsCycleEntry es
later-cycle [] l = tt
later-cycle (e ∷ es) l = (by e.made.op l.0, later-cycle es l.1)
  where
    by : (o : Op) → IsLater o → IsOfCycle o
    by (op.Snap k) w = tt
    by o w = w

pub cycle-driven : (es : List Entry) → IsCycleOf es → Each IsCycleEntry es
cycle-driven es c = subst (Each IsCycleEntry) (sym c.all) (subst IsOfCycle (sym c.snaps) tt, later-cycle c.later c.are_later)

driver-line : (s : Standing) (t : Thread) (a : Act) (own : List Entry) → s.phase ≡ at.Idle → t ≡ C → IsLine t a → IsSimple a → AreEvents s a own → Each IsCycleEntry own
driver-line s C (act.PhaseLine word.Cycle) own i e l w h = cycle-driven own (whole_cycle s own i h)
driver-line s C (act.Finalise n) own i e l w h = absurd w
driver-line s C (act.PhaseLine v) own i e l w h = absurd w
driver-line s C a own i e l w h = absurd l
driver-line s (M n) a own i e l w h = absurd (cc)
driver-line s (P n) a own i e l w h = absurd (cc)

pub driver-held : (k : ℕ) (script : List (Thread × Act)) (s : Standing) (es : List Entry) → s.phase ≡ at.Idle
    → Each IsSimpleLine script → HoldsLines s (lines_of C (numbered_from k script)) es → Each IsCycleEntry es
driver-held k [] s es i w h = (let q : es ≡ [] = subst (λ (p : Phase). ArePhases s.candidates (phases_left p) es) i h.events in subst (Each IsCycleEntry) (sym q) tt)
driver-held k (x ∷ script) s es i w h = by (is_thread C x.0) refl h (λ z fs j g. driver-held (k + 1) script z fs j w.1 g)
  where
    by : (b : Bool) → is_thread C x.0 ≡ b → HoldsLines s (if b then (k, x) ∷ lines_of C (numbered_from (k + 1) script) else lines_of C (numbered_from (k + 1) script)) es
        → ((z : Standing) (fs : List Entry) → z.phase ≡ at.Idle → HoldsLines z (lines_of C (numbered_from (k + 1) script)) fs → Each IsCycleEntry fs) → Each IsCycleEntry es
    by false e g f = f s es i g
    by true e g f =
        subst (Each IsCycleEntry) (sym g.2)
        (each-join IsCycleEntry g.0 g.1 (driver-line s x.0 x.1 g.0 i (sym (same_thread C x.0 e)) g.3.lawful w.0.1 g.3.events) (f (standing_after s k x.1 g.0) g.1 (idle-after s k x.1 g.0 i w.0.1) g.4))
