-- What a step makes, in turn: one event with its entry, or a begin and the sweep of its marking. What is refused may
-- come next.
use Rattle.std.proofs.Common.{◌≡◌, ℕ, ◌+◌, ◌⊎◌, inl, inr, Bool, true, false, ◌||◌, List, [], ◌∷◌, length, drop, Option, Some, None, if◌then◌else◌, Result, Ok, Err, IfOk, refl, sym, ap, subst, ◌∙◌}
use Rattle.std.specs.Prelude.{IsSome, OnOk}
use Rattle.std.specs.declared.alloc.AllocError.{AllocError}
use Rattle.joint_machine.specs.declared.names.Marking.{Marking as Number}
use Rattle.joint_machine.specs.declared.names.Span.{Span}
use Rattle.joint_machine.specs.declared.names.Thread.{Thread}
use Rattle.joint_machine.specs.declared.names.Thread.TheVariants.{M, P, C}
use Rattle.joint_machine.specs.declared.events.Made.{Made}
use Rattle.joint_machine.specs.declared.events.Op.{Op}
use Rattle.joint_machine.specs.declared.events.Op.TheVariants as op
use Rattle.joint_machine.specs.declared.events.Reply.{Reply}
use Rattle.joint_machine.specs.declared.events.Reply.TheVariants as says
use Rattle.joint_machine.specs.Heaps.{answer}
use Rattle.joint_machine.specs.Lines.{IsPeerThread, IsDriver, is_peer_event}
use Rattle.joint_machine.specs.Peers.{Peers}
use Rattle.joint_machine.specs.PeerReplay.{PeerReplay, Marking, SweepAllows, begun, swept, swept_of, is_thread}
use Rattle.joint_machine.specs.Draws.{Drawing}
use Rattle.joint_machine.specs.Sides.{Side, Making, GoesOn, MayDraw, AddsLawful, AddsInTurn, TakesPeer, peer_rules}
use Rattle.joint_machine.specs.Told.{Told, nothing, sweep_of}
use Rattle.joint_machine.proofs.Deciding.{true_false}
use Rattle.peer_heap.specs.Makings.{RefusesMarking, collect_makings, gone_since}
use Rattle.peer_heap.specs.Sides.{begins, ends, MarkingIsEnded, IsMarkingOf}
use Rattle.joint_machine.proofs.HeapLemmas.{same_thread}

-- one entry is one in turn
pub turn-one : {D : Type 0} (d : Drawing D) (before after : D) (old new : Side PeerReplay) (m : Made) (told : Told)
    → AddsLawful peer_rules d before after old new m told → AddsInTurn peer_rules d before after old new (record { made = m; told = told } ∷ [])
turn-one d before after old new m told w = (after, new, w, (refl, refl))

-- where an event that changes nothing was made, it is what was to be made
pub turn-refused : {D : Type 0} (d : Drawing D) (before after : D) (old new : Side PeerReplay) (t : Thread) (i : ℕ) (o : Op) (reply : Reply) (result : Result Reply AllocError)
    (ms : Reply → List Making) → ms reply ≡ record { made = record { caller = t; index = i; op = o; reply = reply; cites = None }; told = nothing } ∷ []
    → IfOk result (λ r. r ≡ reply) → OnOk result (AddsLawful peer_rules d before after old new (record { caller = t; index = i; op = o; reply = reply; cites = None }) nothing)
    → IfOk result (λ r. AddsInTurn peer_rules d before after old new (ms r))
turn-refused d before after old new t i o reply (Err e) ms same is adds = tt
turn-refused d before after old new t i o reply (Ok r) ms same is adds =
    subst (λ l. AddsInTurn peer_rules d before after old new l) (sym same ∙ ap ms (sym is))
    (turn-one d before after old new (record { caller = t; index = i; op = o; reply = reply; cites = None }) nothing adds)

-- a begin leaves the peers
begun-peers : (s : PeerReplay) (o : Option Marking) (t : Thread) → (begun s o t).state.peers ≡ s.peers
begun-peers s None t = refl
begun-peers s (Some mk) t = refl

-- a begin and the sweep of its marking, in turn
pub turn-collect : {D : Type 0} (d : Drawing D) (before mid after : D) (old opened new : Side PeerReplay) (t : Thread) (i : ℕ) (j : Number) (span : Span)
    → AddsLawful peer_rules d before mid old opened (begins t i j) nothing
    → AddsLawful peer_rules d mid after opened new (ends t i j span) (sweep_of (gone_since opened.state new.state))
    → AddsInTurn peer_rules d before after old new (collect_makings t i (says.Swept j span) (gone_since old.state new.state))
turn-collect d before mid after old opened new t i j span first last =
    let same : opened.state.peers ≡ old.state.peers = ap (λ (s : PeerReplay). s.peers) first.goes.state ∙ begun-peers old.state old.state.marking t in
    let freed : gone_since opened.state new.state ≡ gone_since old.state new.state = ap (λ (p : Peers). drop (length p.heap.freed) new.state.peers.heap.freed) same in
    (mid, opened, first, (after, new, subst (λ l. AddsLawful peer_rules d mid after opened new (ends t i j span) (sweep_of l)) freed last, (refl, refl)))

-- a begin that gave a number opened the marking of that number
pub begun-ended : (s t : PeerReplay) (thread : Thread) (i : ℕ) (j : Number) → GoesOn peer_rules s (begins thread i j) nothing t → MarkingIsEnded t.marking thread j
begun-ended s t thread i j goes = subst (λ (z : PeerReplay). MarkingIsEnded z.marking thread j) (sym goes.state) (by s.marking goes.lawful.1.replies)
  where
    number : (n : ℕ) → says.Mark j ≡ says.Mark record { 0 = n } → j.0 ≡ n
    number n e = (let w : j ≡ record { 0 = n } = cc in ap (λ (k : Number). k.0) w)

    by : (o : Option Marking) → says.Mark j ≡ (begun s o thread).reply → MarkingIsEnded (begun s o thread).state.marking thread j
    by None e = (inr refl, number (s.markings + 1) e)
    by (Some mk) e = absurd (let f : ⊥ = cc in f)

-- after an entry the caller may draw as before it
pub draws-on : {D : Type 0} (d : Drawing D) (before after : D) (old new : Side PeerReplay) (m : Made) (told : Told) (t : Thread) (o : Op)
    → AddsLawful peer_rules d before after old new m told → is_peer_event t o ≡ true → MayDraw peer_rules d before old t o → MayDraw peer_rules d after new t o
draws-on d before after old new m told t o adds peer may = record {
  takes = subst (λ n. TakesPeer n t) (sym adds.threads) may.takes;
  below = adds.draws.below;
  room = adds.draws.room;
  bare = (adds.draws.may t o peer).0 may.bare;
  targets = λ n x. absurd x;
}

-- a begin is refused where a marking is open
pub begin-passes : (s : PeerReplay) (t : Thread) (i : ℕ) (p : Number × Thread) → IsMarkingOf (Some p) s.marking
    → (IsPeerThread t ⊎ IsDriver t) → RefusesMarking s (record { caller = t; index = i; op = op.Begin; reply = says.MarkOpen p.0; cites = None })
begin-passes s t i p w caller = record { caller = caller; event = tt; allowed = tt; answers = by s.marking w }
  where
    by : (o : Option Marking) → IsMarkingOf (Some p) o → begun s o t ≡ answer (says.MarkOpen p.0) s
    by None w = absurd w
    by (Some mk) w = ap (λ (k : ℕ). answer (says.MarkOpen record { 0 = k }) s) (sym w.0)

-- a sweep of a peer thread is refused where none is open
pub none-passes : (s : PeerReplay) (t : Thread) (i : ℕ) → IsMarkingOf None s.marking → (IsPeerThread t ⊎ IsDriver t)
    → (IsDriver t → IsSome s.marking) → RefusesMarking s (record { caller = t; index = i; op = op.Sweep; reply = says.NoMark; cites = None })
none-passes s t i w caller open' = record { caller = caller; event = tt; allowed = allows t s.marking w caller open'; answers = by s.marking w }
  where
    allows : (t : Thread) (o : Option Marking) → IsMarkingOf None o → (IsPeerThread t ⊎ IsDriver t) → (IsDriver t → IsSome o) → SweepAllows s o t nothing
    allows t (Some mk) w caller some = absurd w
    allows (P n) None w caller some = tt
    allows (M n) None w caller some = elim caller [ inl a ↦ absurd a | inr a ↦ absurd a ]
    allows C None w caller some = absurd (true_false (sym (some tt)))

    by : (o : Option Marking) → IsMarkingOf None o → swept s o t [] ≡ answer says.NoMark s
    by None w = refl
    by (Some mk) w = absurd w

other-thread : (t u : Thread) → ((t ≡ C) ⊎ (t ≡ u) → ⊥) → (is_thread t C || is_thread t u) ≡ false
other-thread t u apart = by (is_thread t C) refl (is_thread t u) refl
  where
    by : (a : Bool) → is_thread t C ≡ a → (b : Bool) → is_thread t u ≡ b → (is_thread t C || is_thread t u) ≡ false
    by true e b f = absurd (apart (inl (same_thread t C e)))
    by false e true f = absurd (apart (inr (same_thread t u f)))
    by false e false f = ap (λ x. x || is_thread t u) e ∙ f

-- and where another thread's is open
pub other-passes : (s : PeerReplay) (t : Thread) (i : ℕ) (p : Number × Thread) → IsMarkingOf (Some p) s.marking → (IsPeerThread t ⊎ IsDriver t) → ((t ≡ C) ⊎ (t ≡ p.1) → ⊥)
    → RefusesMarking s (record { caller = t; index = i; op = op.Sweep; reply = says.MarkOpen p.0; cites = None })
other-passes s t i p w caller apart = record { caller = caller; event = tt; allowed = allows t s.marking w caller apart; answers = by s.marking w }
  where
    allows : (t : Thread) (o : Option Marking) → IsMarkingOf (Some p) o → (IsPeerThread t ⊎ IsDriver t) → ((t ≡ C) ⊎ (t ≡ p.1) → ⊥) → SweepAllows s o t nothing
    allows t None w caller apart = absurd w
    allows (P n) (Some mk) w caller apart = λ e. apart (inr (e ∙ sym w.1))
    allows (M n) (Some mk) w caller apart = elim caller [ inl a ↦ absurd a | inr a ↦ absurd a ]
    allows C (Some mk) w caller apart = absurd (apart (inl refl))

    by : (o : Option Marking) → IsMarkingOf (Some p) o → swept s o t [] ≡ answer (says.MarkOpen p.0) s
    by None w = absurd w
    by (Some mk) w =
        let may = other-thread t mk.by (λ e. apart (elim e [ inl a ↦ inl a | inr a ↦ inr (a ∙ sym w.1) ])) in
        ap (λ (b : Bool). if b then swept_of s mk [] else answer (says.MarkOpen record { 0 = mk.number }) s) may ∙ ap (λ (k : ℕ). answer (says.MarkOpen record { 0 = k }) s) (sym w.0)

-- the open marking may be ended
pub open-ends : (p : Number × Thread) (o : Option Marking) (t : Thread) → IsMarkingOf (Some p) o → ((t ≡ C) ⊎ (t ≡ p.1)) → MarkingIsEnded o t p.0
open-ends p None t w may = absurd w
open-ends p (Some mk) t w may = (elim may [ inl e ↦ inl e | inr e ↦ inr (e ∙ w.1) ], w.0)
