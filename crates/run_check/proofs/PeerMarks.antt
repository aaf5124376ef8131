-- The begin and the sweep of a marking, by the driver or by a peer thread.
use Rattle.std.proofs.Common.{◌≡◌, ◌⊎◌, inl, inr, ℕ, ◌+◌, Bool, true, false, ◌||◌, List, [], ◌∷◌, ◌++◌, length, length-append, drop, Option, Some, None, refl, sym, ap, ◌∙◌, subst, arith}
use Rattle.std.proofs.Common.{true≢false}
use Rattle.std.specs.Prelude.{◌↔◌, ◌-◌, IsTrue, if◌then◌else◌}
use Rattle.joint_machine.specs.declared.names.Marking.{Marking as Number}
use Rattle.joint_machine.specs.declared.names.Span.{Span}
use Rattle.joint_machine.specs.declared.names.Thread.{Thread}
use Rattle.joint_machine.specs.declared.names.Thread.TheVariants.{C}
use Rattle.joint_machine.specs.declared.events.Made.{Made}
use Rattle.joint_machine.specs.declared.events.Op.TheVariants as op
use Rattle.joint_machine.specs.declared.events.Reply.{Reply}
use Rattle.joint_machine.specs.declared.events.Reply.TheVariants as says
use Rattle.joint_machine.specs.Components.{Rises}
use Rattle.joint_machine.specs.Control.{OpenSnap, Stand, idle, weakening, marked, restoring, stand_after}
use Rattle.joint_machine.specs.Heaps.{answer}
use Rattle.joint_machine.specs.Histories.{Finished, managed_numbers, peer_numbers}
use Rattle.joint_machine.specs.Lines.{IsDriver, IsEvent, IsPeerThread, is_peer_event, is_read}
use Rattle.joint_machine.specs.Linked.{Linkage}
use Rattle.joint_model.specs.Listed.{answers_of}
use Rattle.joint_machine.specs.Managed.{candidates_of}
use Rattle.joint_machine.specs.PeerReplay.{PeerReplay, Marking, SweepAllows, is_thread, peer_answer, swept, swept_of}
use Rattle.joint_machine.specs.Draws.{Drawing}
use Rattle.joint_machine.specs.Sides.{AddsInTurn, AddsLawful, Side, SideRules, peer_rules}
use Rattle.joint_machine.specs.Told.{Noted, Told, nothing, sweep_of}
use Rattle.joint_machine.specs.PinsTold.{no_pins}
use Rattle.joint_laws.specs.LinkedInvariants.{given_at}
use Rattle.joint_laws.proofs.SpansTold.{HasSpan}
use Rattle.joint_laws.specs.Spans.{IsStretch, TellsNamed}
use Rattle.known_laws.specs.Driving.{PastInvariant}
use Rattle.known_laws.specs.Known.{pinned}
use Rattle.known_laws.proofs.Conditions.{marked_is_the_drivers}
use Rattle.caller_turns.specs.Shapes.{next_place}
use Rattle.check_laws.specs.Behind.{NamesSo, RepliesBehind, SideReplies, state_of}
use Rattle.check_laws.specs.Laws.{IsNoRefusal}
use Rattle.check_laws.specs.Order.{BeginTurn, SweepTurn}
use Rattle.peer_heap.specs.Makings.{step_makings, told_at}
use Rattle.peer_heap.specs.Sides.{MayEnd, Reserve, begins, ends, reserve_begun, seen}
use Rattle.run_check.specs.declared.cycles.OpenCycle.{OpenCycle as Kept}
use Rattle.run_check.specs.declared.replays.Replay.{Replay}
use Rattle.run_check.specs.Cycles.{CycleFollows, HasCycle, IsAtHandle, IsOpenHere}
use Rattle.run_check.specs.Follows.{LeftFits}
use Rattle.run_check.specs.Going.{HasBegun}
use Rattle.run_check.specs.Lists.{StandsInList, rest_of}
use Rattle.run_check.specs.Judging.{AnswersRightly, MayNotReply, MayReply, Replied, next_noted}
use Rattle.run_check.proofs.DriverEntries.{driver-is, driver-names, driver-one, driver-right, driver-wrong, turn-is, cites-is}
use Rattle.run_check.proofs.Opened.{opened-on}
use Rattle.run_check.proofs.Drawing.{drawing}
use Rattle.run_check.proofs.PeerEntries.{Keeps, compared, one as is-one, wrong}
use Rattle.run_check.proofs.PeerHandles.{kept-at}
use Rattle.run_check.proofs.PeerSteps.{alike-made, peer-cites, peer-data, thread-named, thread-right}

-- one making, and nothing else
one-added : {S D : Type 0} (r : SideRules S) (d : Drawing D) (before after : D) (old new : Side S) (m : Made) (told : Told)
    → AddsInTurn r d before after old new (record { made = m; told = told } ∷ []) → AddsLawful r d before after old new m told
one-added r d before after old new m told w =
    let is = w.3 in
    subst (λ (s : Side _). AddsLawful r d before after old s m told) (sym is.1) (subst (λ x. AddsLawful r d before x old w.1 m told) (sym is.0) w.2)

thread-or : (t : Thread) → IsPeerThread t ⊎ IsDriver t → (t ≡ C → ⊥) → IsPeerThread t
thread-or t (inl p) n = p
thread-or t (inr d) n = absurd (n (driver-is t d))

-- where the cycle's own marking begins
pub record AtBeginning (stand : Stand) (candidates : ℕ) (marking : Option Marking) : Type 0 where
  pub opened : OpenSnap
  pub count : ℕ
  pub weakened : Bool
  pub done : Bool
  pub stands : stand ≡ weakening opened count weakened done
  pub shut : marking ≡ None

at-beginning : (stand : Stand) (c : ℕ) (mk : Option Marking) → BeginTurn stand c mk → AtBeginning stand c mk
at-beginning (weakening o count weakened swept) c None t = record { opened = o; count = count; weakened = weakened; done = swept; stands = refl; shut = refl }
at-beginning (weakening o count weakened swept) c (Some mk) t = absurd t
at-beginning idle c mk t = absurd t
at-beginning _ c mk t = absurd t

-- no reference waits behind a begin that didn't before
pub begun-waits : (b : Bool) (r : Reserve) → (reserve_begun b r).waiting ≡ r.waiting
begun-waits true r = refl
begun-waits false r = refl

-- a cycle that is kept while the place is the first
module _ (s t : Linkage) (same : t.managed ≡ s.managed) (o p : Kept) (f : IsOpenHere s o) (rest : p ≡ record o { place = p.place }) (first : IsAtHandle p.graph.nodes p.place 0) where
  pub first-on : HasCycle t.control.stand p → next_place t.control.stand ≡ 0 → given_at s.control.stand ≡ given_at t.control.stand → IsOpenHere t p
  first-on cycle place given =
      opened-on s t same o p f (ap (λ (z : Kept). z.graph) rest) (ap (λ (z : Kept). z.candidates) rest) cycle
      (subst (IsAtHandle o.graph.nodes p.place) (sym place) (subst (λ ns. IsAtHandle ns p.place 0) (ap (λ (z : Kept). z.graph.nodes) rest) first))
      (ap (λ (z : Kept). answers_of z.alive.values) rest ∙ (f.given ∙ given))
      (ap (λ (z : Kept). z.alive.room + length z.alive.values) rest ∙ f.room)

module _ (h : Finished) (m : Made) (old : Replay) (is : m.op ≡ op.Begin) where
  begin-event : (past : List Noted) → MayReply h past old m → IsPeerThread m.caller ⊎ IsDriver m.caller
  begin-event past ready = subst (IsEvent m.caller) is ready.next.turn.event

  on-peers : is_peer_event m.caller m.op ≡ true
  on-peers = ap (λ o. is_peer_event m.caller o) is

  -- by the driver
  module _ (driver : m.caller ≡ C) where
    module _ (past : List Noted) (ready : MayReply h past old m) where
      begin-at : AtBeginning (state_of past).control.stand (length (candidates_of (state_of past).managed.managed)) (state_of past).peer.marking
      begin-at = at-beginning _ _ _ (turn-is h past m old ready op.Begin is driver)

      begin-cites : m.cites ≡ None
      begin-cites = cites-is h past m old ready op.Begin is driver

      begin-none : old.peers.state.marking ≡ None
      begin-none = ap (λ (p : PeerReplay). p.marking) ready.sides.peers.state ∙ begin-at.shut

    begun-on : (past : List Noted) (ready : MayReply h past old m) (o new : Option Kept) → CycleFollows (state_of past) o → HasBegun o new → (t : Linkage) → t.managed ≡ (state_of past).managed
        → t.control.stand ≡ marked (begin-at past ready).opened → CycleFollows t new
    begun-on past ready None new f p t e d =
        absurd (let x : idle ≡ weakening (begin-at past ready).opened (begin-at past ready).count (begin-at past ready).weakened (begin-at past ready).done = sym f ∙
        (begin-at past ready).stands in cc)
    begun-on past ready (Some o) new f p t e d =
        let a = begin-at past ready in
        subst (CycleFollows t) (sym p.1) (first-on (state_of past) t e o p.0 f p.2 p.3
        (subst (λ z. HasCycle z p.0) (sym d) (ap (λ (z : Kept). z.cycle.0) p.2 ∙ subst (λ z. HasCycle z o) a.stands f.stands)) (ap next_place d) (ap given_at a.stands ∙ sym (ap given_at d)))

    pub begin-answers : (new : Replay) (j : Number) (b : Bool) → AddsLawful peer_rules drawing old.draw new.draw (seen old.peers) (seen new.peers) (begins m.caller m.index j) nothing
        → Keeps old new → HasBegun old.cycle new.cycle → new.peers.reserve.waiting ≡ old.peers.reserve.waiting → (IsTrue b ↔ (m.reply ≡ says.Mark j)) → AnswersRightly h m old new b
    begin-answers new j b adds keeps begun waits same =
        let mine : AddsLawful peer_rules drawing old.draw new.draw (seen old.peers) (seen new.peers) (begins C m.index j) nothing = subst
        (λ t. AddsLawful peer_rules drawing old.draw new.draw (seen old.peers) (seen new.peers) (begins t m.index j) nothing) driver adds in
        compared h m old new (says.Mark j) b same
        (λ past ready e. (let a = begin-at past ready in (
          nothing,
          driver-right h past m old ready op.Begin is driver refl (says.Mark j) nothing new None (begin-cites past ready) mine tt tt e keeps
              (driver-names h past m old ready op.Begin is driver refl (says.Mark j) nothing new None (begin-cites past ready) mine tt tt e (λ x. x)) (marked a.opened)
              (ap (λ z. stand_after z (length past) op.Begin m.reply nothing) a.stands) (waits ∙ ready.sides.peers.reserve.none_waits) tt
              (begun-on past ready old.cycle new.cycle ready.sides.cycle begun),
        )))
        (λ past ready n. driver-wrong h past m old ready op.Begin is driver refl (says.Mark j) nothing new None (begin-cites past ready) mine tt tt n)

  -- by a peer thread
  module _ (other : m.caller ≡ C → ⊥) where
    begin-thread : (past : List Noted) → MayReply h past old m → IsPeerThread m.caller
    begin-thread past ready = thread-or m.caller (begin-event past ready) other

    pub thread-begin-answers : (new : Replay) (reply : Reply) (gone : List ℕ) (b : Bool)
        → AddsInTurn peer_rules drawing old.draw new.draw (seen old.peers) (seen new.peers) (step_makings m.caller m.index m.op None reply gone)
        → Keeps old new → new.cycle ≡ old.cycle → new.peers.reserve ≡ old.peers.reserve → (IsTrue b ↔ (m.reply ≡ reply)) → AnswersRightly h m old new b
    thread-begin-answers new reply gone b adds keeps cycle reserve same =
        let one = one-added peer_rules drawing old.draw new.draw (seen old.peers) (seen new.peers) (record { caller = m.caller; index = m.index; op = op.Begin; reply = reply; cites = None }) nothing
        (subst (λ o. AddsInTurn peer_rules drawing old.draw new.draw (seen old.peers) (seen new.peers) (step_makings m.caller m.index o None reply gone)) is adds) in
        compared h m old new reply b same
        (λ past ready e. (let t = begin-thread past ready in (
          nothing,
          thread-right h past m old ready on-peers reply nothing new _ (alike-made m op.Begin None reply is (peer-cites (state_of past) m.caller m.op m.cites t ready.next.cites)) one
              (subst IsNoRefusal (sym is) tt) other
              (peer-data (state_of past) m.caller m.op reply nothing t) (λ s. subst HasSpan is s) keeps cycle reserve e,
        )))
        (λ past ready n. (let t = begin-thread past ready in
        wrong h past m old ready on-peers _ nothing new (alike-made m op.Begin None reply is (peer-cites (state_of past) m.caller m.op m.cites t ready.next.cites)) one
        (subst IsNoRefusal (sym is) tt) (peer-data (state_of past) m.caller m.op reply nothing t) n))

-- a sweep's reply names a stretch only where peers were freed
abbrev IsOfSweep : Reply → Type 0
IsOfSweep (says.Snapped n s) = ⊥
IsOfSweep (says.Freed s) = ⊥
IsOfSweep (says.Took s) = ⊥
IsOfSweep _ = Unit {0}

swept-says : (s : PeerReplay) (x : Option Marking) (t : Thread) (freed : List ℕ) → IsOfSweep (swept s x t freed).reply
swept-says s None t freed = tt
swept-says s (Some mk) t freed = by (is_thread t C || is_thread t mk.by)
  where
    by : (b : Bool) → IsOfSweep (if b then swept_of s mk freed else answer (says.MarkOpen record { 0 = mk.number }) s).reply
    by true = tt
    by false = tt

sweep-says : (s : PeerReplay) (t : Thread) (cites : Option ℕ) (told : Told) → IsOfSweep (peer_answer s t op.Sweep cites told).reply
sweep-says s t cites (sweep_of freed) = swept-says s s.marking t freed
sweep-says s t cites _ = swept-says s s.marking t []

-- what was freed stands behind what was freed before, in the reply's span
record AreSwept (s t : PeerReplay) (span : Span) (gone : List ℕ) : Type 0 where
  rises : Rises gone
  first : span.first ≡ length s.peers.heap.freed
  count : span.count ≡ length gone
  after : t.peers.heap.freed ≡ s.peers.heap.freed ++ gone

swept-span : (j k : Number) (x y : Span) → says.Swept j x ≡ says.Swept k y → x ≡ y
swept-span j k x y e = ap (λ r. span_of r x) e
  where
    span_of : Reply → Span → Span
    span_of (says.Swept n z) d = z
    span_of _ d = d

are-swept : (s t : PeerReplay) (x : Option Marking) (c : Thread) (gone : List ℕ) (j : Number) (span : Span) → SweepAllows s x c (sweep_of gone)
    → says.Swept j span ≡ (swept s x c gone).reply → t ≡ (swept s x c gone).state → AreSwept s t span gone
are-swept s t None c gone j span a r e = absurd (let f : says.Swept j span ≡ says.NoMark = r in cc)
are-swept s t (Some mk) c gone j span a r e = by (is_thread c C || is_thread c mk.by) r e
  where
    by : (b : Bool) → says.Swept j span ≡ (if b then swept_of s mk gone else answer (says.MarkOpen record { 0 = mk.number }) s).reply
        → t ≡ (if b then swept_of s mk gone else answer (says.MarkOpen record { 0 = mk.number }) s).state → AreSwept s t span gone
    by true r e =
        let is = swept-span j _ span _ r in
        record { rises = a.1.rise; first = ap (λ (z : Span). z.first) is; count = ap (λ (z : Span). z.count) is; after = ap (λ (z : PeerReplay). z.peers.heap.freed) e }
    by false r e = absurd (let f : says.Swept j span ≡ says.MarkOpen record { 0 = mk.number } = r in cc)

drop-front : (xs ys : List ℕ) → drop (length xs) (xs ++ ys) ≡ ys
drop-front [] ys = refl
drop-front (x ∷ xs) ys = drop-front xs ys

-- so what the list has from the span on is what was freed
module _ (list before gone after : List ℕ) (span : Span) (first : span.first ≡ length before) (count : span.count ≡ length gone) (is : after ≡ before ++ gone) where
  rest-same : rest_of span (length after) ≡ span
  rest-same = λ i. record { first = span.first; count = more i }
    where
      more : length after - span.first ≡ span.count
      more = (let l = ap length is in let b = length-append before gone in omega (arith, l, b, first, count))

  gone-same : drop span.first after ≡ gone
  gone-same = ap (λ n. drop n after) first ∙ (ap (drop (length before)) is ∙ drop-front before gone)

  stands-to : StandsInList list span after → IsStretch list span gone
  stands-to w = subst (λ z. IsStretch list z gone) rest-same (subst (IsStretch list (rest_of span (length after))) gone-same w)

  stands-from : IsStretch list span gone → StandsInList list span after
  stands-from w = subst (λ z. IsStretch list z (drop span.first after)) (sym rest-same) (subst (IsStretch list span) (sym gone-same) w)

swept-list : (xs ys : List ℕ) → sweep_of xs ≡ sweep_of ys → xs ≡ ys
swept-list xs ys e = ap (λ t. list_of t xs) e
  where
    list_of : Told → List ℕ → List ℕ
    list_of (sweep_of zs) d = zs
    list_of _ d = d

unswept-named : (ms ps : List ℕ) (reply : Reply) (gone : List ℕ) → IsOfSweep reply → ((j : Number) (span : Span) → reply ≡ says.Swept j span → ⊥) → TellsNamed ms ps reply (told_at op.Sweep reply gone)
unswept-named ms ps (says.Swept j span) gone o n = absurd (n j span refl)
unswept-named ms ps (says.Snapped c span) gone o n = absurd o
unswept-named ms ps (says.Freed span) gone o n = absurd o
unswept-named ms ps _ gone o n = tt

-- the side's own sweep behind a past
pub record OwnSweep (h : Finished) (past : List Noted) (m : Made) (old new : Replay) (reply : Reply) (told : Told) : Type 0 where
  pub allowed : SweepAllows old.peers.state old.peers.state.marking m.caller told
  pub replies : reply ≡ (peer_answer old.peers.state m.caller op.Sweep None told).reply
  pub state : new.peers.state ≡ (peer_answer old.peers.state m.caller op.Sweep None told).state
  pub one : (t : Told) → RepliesBehind (is_read m.op) h past (next_noted past m t) → (reply ≡ m.reply) × (told ≡ t)
  pub right : reply ≡ m.reply → NamesSo h (state_of past).managed.managed (next_noted past m told) → Replied h past m old new told

abbrev pub MakesSweep : Finished → Made → Replay → Replay → Reply → Told → Type 0
MakesSweep h m old new reply told = (past : List Noted) → MayReply h past old m → OwnSweep h past m old new reply told

-- where the driver sweeps: before its own marking, or that one
pub record AtSweeping (stand : Stand) : Type 0 where
  pub opened : OpenSnap
  pub from : Stand
  pub next : Stand
  pub stands : stand ≡ from
  pub goes : (n : ℕ) (reply : Reply) (told : Told) → stand_after from n op.Sweep reply told ≡ next
  pub running : idle ≡ from → ⊥
  pub place : next_place next ≡ next_place from
  pub given : given_at next ≡ given_at from
  pub cycle : (o : Kept) → HasCycle from o → HasCycle next o
  pub left : (candidates left : ℕ) → LeftFits from candidates left → LeftFits next candidates left

at-sweeping : (stand : Stand) (c : ℕ) (mk : Option Marking) → SweepTurn stand c mk → AtSweeping stand
at-sweeping (weakening o count weakened swept) c (Some mk) t = record {
  opened = o;
  from = weakening o count weakened swept;
  next = weakening o count true true;
  stands = refl;
  goes = λ n reply told. refl;
  running = λ e. (let x : idle ≡ weakening o count weakened swept = e in cc);
  place = refl;
  given = refl;
  cycle = λ p w. w;
  left = λ candidates left w. w;
}
at-sweeping (weakening o count weakened swept) c None t = absurd t
at-sweeping (marked o) c mk t = record {
  opened = o;
  from = marked o;
  next = restoring o [];
  stands = refl;
  goes = λ n reply told. refl;
  running = λ e. (let x : idle ≡ marked o = e in cc);
  place = refl;
  given = refl;
  cycle = λ p w. w;
  left = λ candidates left w. tt;
}
at-sweeping _ c mk t = absurd t

-- a marking is open where it does
sweeping-open : (s : Linkage) → PastInvariant (pinned s no_pins) → (stand : Stand) → s.control.stand ≡ stand → (c : ℕ) (x : Option Marking) → s.peer.marking ≡ x → SweepTurn stand c x → x ≡ None → ⊥
sweeping-open s k (weakening o count weakened swept) e c None f t n = t
sweeping-open s k (weakening o count weakened swept) e c (Some mk) f t n = (let g : ⊥ = cc in g)
sweeping-open s k (marked o) e c x f t n = (let w = marked_is_the_drivers (pinned s no_pins) k o e in let g : None ≡ Some w.0 = sym n ∙ (sym f ∙ w.1) in cc)
sweeping-open s k idle e c x f t n = t
sweeping-open s k _ e c x f t n = absurd t

sweep-ends : (x : Option Marking) (t : Thread) → t ≡ C → MayEnd x t
sweep-ends None t e = tt
sweep-ends (Some mk) t e = inl e

module _ (h : Finished) (m : Made) (old : Replay) (is : m.op ≡ op.Sweep) where
  sweep-event : (past : List Noted) → MayReply h past old m → IsPeerThread m.caller ⊎ IsDriver m.caller
  sweep-event past ready = subst (IsEvent m.caller) is ready.next.turn.event

  sweep-peers : is_peer_event m.caller m.op ≡ true
  sweep-peers = ap (λ o. is_peer_event m.caller o) is

  -- by the driver
  module _ (driver : m.caller ≡ C) where
    -- a marking is open
    pub sweep-none : (new : Replay) → old.peers.state.marking ≡ None → AnswersRightly h m old new false
    sweep-none new n =
        λ past ready. absurd
        (sweeping-open (state_of past) (kept-at h past m old ready driver op.Sweep is refl) (state_of past).control.stand refl _ (state_of past).peer.marking refl
        (turn-is h past m old ready op.Sweep is driver)
        (sym (ap (λ (p : PeerReplay). p.marking) ready.sides.peers.state) ∙ n))

    pub driver-sweeps : (new : Replay) (j : Number) (span : Span) (gone : List ℕ)
        → AddsLawful peer_rules drawing old.draw new.draw (seen old.peers) (seen new.peers) (ends m.caller m.index j span) (sweep_of gone)
        → Keeps old new → new.cycle ≡ old.cycle → new.peers.reserve ≡ old.peers.reserve → MakesSweep h m old new (says.Swept j span) (sweep_of gone)
    driver-sweeps new j span gone adds keeps cycle reserve past ready =
        let s = state_of past in
        let a = at-sweeping s.control.stand _ _ (turn-is h past m old ready op.Sweep is driver) in
        let mine : AddsLawful peer_rules drawing old.draw new.draw (seen old.peers) (seen new.peers) (ends C m.index j span) (sweep_of gone) =
        subst (λ t. AddsLawful peer_rules drawing old.draw new.draw (seen old.peers) (seen new.peers) (ends t m.index j span) (sweep_of gone)) driver adds in
        let cited : m.cites ≡ None = cites-is h past m old ready op.Sweep is driver in
        record {
          allowed = adds.goes.lawful.1.allowed;
          replies = adds.goes.lawful.1.replies;
          state = adds.goes.state;
          one = driver-one h past m old ready op.Sweep is driver refl (says.Swept j span) (sweep_of gone) new None cited mine tt tt;
          right = λ e names. driver-right h past m old ready op.Sweep is driver refl (says.Swept j span) (sweep_of gone) new None cited mine tt tt e keeps names a.next
              (ap (λ z. stand_after z (length past) op.Sweep m.reply (sweep_of gone)) a.stands ∙ a.goes (length past) m.reply (sweep_of gone))
              (ap (λ (r : Reserve). r.waiting) reserve ∙ ready.sides.peers.reserve.none_waits)
              (a.left _ new.peers.reserve.left (subst (λ d. LeftFits d (length (candidates_of s.managed.managed)) new.peers.reserve.left) a.stands
              (subst (λ (r : Reserve). LeftFits s.control.stand (length (candidates_of s.managed.managed)) r.left) (sym reserve) ready.sides.peers.reserve.left)))
              (λ t managed stands. subst (CycleFollows t) (sym cycle) (swept-on s t managed a stands old.cycle ready.sides.cycle));
        }
      where
        swept-on : (s t : Linkage) → t.managed ≡ s.managed → (a : AtSweeping s.control.stand) → t.control.stand ≡ a.next → (o : Option Kept) → CycleFollows s o → CycleFollows t o
        swept-on s t e a d None f = absurd (a.running (sym f ∙ a.stands))
        swept-on s t e a d (Some o) f =
            opened-on s t e o o f refl refl (subst (λ z. HasCycle z o) (sym d) (a.cycle o (subst (λ z. HasCycle z o) a.stands f.stands)))
            (subst (IsAtHandle o.graph.nodes o.place) (sym (ap next_place d ∙ (a.place ∙ sym (ap next_place a.stands)))) f.next)
            (f.given ∙ (ap given_at a.stands ∙ (sym a.given ∙ sym (ap given_at d)))) f.room

  -- by a peer thread
  module _ (other : m.caller ≡ C → ⊥) where
    sweep-thread : (past : List Noted) → MayReply h past old m → IsPeerThread m.caller
    sweep-thread past ready = thread-or m.caller (sweep-event past ready) other

    pub thread-sweeps : (new : Replay) (reply : Reply) (gone : List ℕ)
        → AddsInTurn peer_rules drawing old.draw new.draw (seen old.peers) (seen new.peers) (step_makings m.caller m.index m.op None reply gone)
        → Keeps old new → new.cycle ≡ old.cycle → new.peers.reserve ≡ old.peers.reserve → MakesSweep h m old new reply (told_at op.Sweep reply gone)
    thread-sweeps new reply gone adds keeps cycle reserve past ready =
        let told = told_at op.Sweep reply gone in
        let own : Made = record { caller = m.caller; index = m.index; op = op.Sweep; reply = reply; cites = None } in
        let one = one-added peer_rules drawing old.draw new.draw (seen old.peers) (seen new.peers) own told
        (subst (λ o. AddsInTurn peer_rules drawing old.draw new.draw (seen old.peers) (seen new.peers) (step_makings m.caller m.index o None reply gone)) is adds) in
        let t = sweep-thread past ready in
        let alike = alike-made m op.Sweep None reply is (peer-cites (state_of past) m.caller m.op m.cites t ready.next.cites) in
        let none : IsNoRefusal m.op = subst IsNoRefusal (sym is) tt in
        let stated = peer-data (state_of past) m.caller m.op reply told t in
        record {
          allowed = one.goes.lawful.1.allowed;
          replies = one.goes.lawful.1.replies;
          state = one.goes.state;
          one = is-one h past m old ready sweep-peers own told new alike one none stated;
          right = λ e names. thread-named h past m old ready sweep-peers reply told new own alike one none other stated keeps cycle reserve e names;
        }

  -- what is compared: the reply, and then what was freed
  pub sweep-other-reply : (new : Replay) (reply : Reply) (told : Told) → MakesSweep h m old new reply told → (m.reply ≡ reply → ⊥) → AnswersRightly h m old new false
  sweep-other-reply new reply told makes n = λ past ready t r. n (sym ((makes past ready).one t r).0)

  abbrev ps : List ℕ
  ps = peer_numbers h.freed_peers

  module _ (new : Replay) (j : Number) (span : Span) (gone : List ℕ) (makes : MakesSweep h m old new (says.Swept j span) (sweep_of gone)) (same : m.reply ≡ says.Swept j span) where
    swept-at : (past : List Noted) → MayReply h past old m → AreSwept old.peers.state new.peers.state span gone
    swept-at past ready = (let o = makes past ready in are-swept old.peers.state new.peers.state old.peers.state.marking m.caller gone j span o.allowed o.replies o.state)

    sweep-right : (past : List Noted) (ready : MayReply h past old m) → StandsInList ps span new.peers.state.peers.heap.freed → Replied h past m old new (sweep_of gone)
    sweep-right past ready stands =
        let a = swept-at past ready in
        (makes past ready).right (sym same) record {
          freed = subst (λ r. TellsNamed (managed_numbers h.freed_managed) ps r (sweep_of gone)) (sym same) record {
            freed = gone;
            is = refl;
            rises = a.rises;
            stands = stands-to ps old.peers.state.peers.heap.freed gone new.peers.state.peers.heap.freed span a.first a.count a.after stands;
          };
          taken = λ x e. absurd (let f : says.Swept j span ≡ says.Took x = sym same ∙ e in cc);
        }

    sweep-wrong : (past : List Noted) (ready : MayReply h past old m) → (StandsInList ps span new.peers.state.peers.heap.freed → ⊥) → MayNotReply h past m
    sweep-wrong past ready n t r =
        let a = swept-at past ready in
        let side : SideReplies h past (next_noted past m t) = subst (λ b. RepliesBehind b h past (next_noted past m t)) (ap is_read is) r in
        let tells : TellsNamed (managed_numbers h.freed_managed) ps (says.Swept j span) (sweep_of gone) =
        subst (λ q. TellsNamed (managed_numbers h.freed_managed) ps q (sweep_of gone)) same
        (subst (λ u. TellsNamed (managed_numbers h.freed_managed) ps m.reply u) (sym ((makes past ready).one t r).1) side.names.freed) in
        n (stands-from ps old.peers.state.peers.heap.freed gone new.peers.state.peers.heap.freed span a.first a.count a.after
        (subst (IsStretch ps span) (sym (swept-list gone tells.freed tells.is)) tells.stands))

    pub sweep-named : (b : Bool) → (IsTrue b ↔ StandsInList ps span new.peers.state.peers.heap.freed) → AnswersRightly h m old new b
    sweep-named true w = λ past ready. (sweep_of gone, sweep-right past ready (w.0 refl))
    sweep-named false w = λ past ready. sweep-wrong past ready (λ s. true≢false (sym (w.1 s)))

  -- nothing was freed
  pub sweep-refused : (new : Replay) (reply : Reply) (gone : List ℕ) → MakesSweep h m old new reply (told_at op.Sweep reply gone) → m.reply ≡ reply
      → ((j : Number) (span : Span) → reply ≡ says.Swept j span → ⊥) → AnswersRightly h m old new true
  sweep-refused new reply gone makes same n = λ past ready.
      let o = makes past ready in
      let of_sweep : IsOfSweep reply = subst IsOfSweep (sym o.replies) (sweep-says old.peers.state m.caller None (told_at op.Sweep reply gone)) in (
        told_at op.Sweep reply gone,
        o.right (sym same) record {
          freed = subst (λ r. TellsNamed (managed_numbers h.freed_managed) ps r (told_at op.Sweep reply gone)) (sym same) (unswept-named (managed_numbers h.freed_managed) ps reply gone of_sweep n);
          taken = λ x e. absurd (subst IsOfSweep (sym same ∙ e) of_sweep);
        },
      )
