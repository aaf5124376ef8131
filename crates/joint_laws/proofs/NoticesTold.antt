-- Notices are only put behind those that wait, by resolutions, and only taken from the front, so at most as many are
-- taken as were queued. So those that an entry takes stand in the list of all that were ever queued where its span
-- says; and that list is the history's own as far as notices were taken.
use Rattle.std.proofs.Common.{◌≡◌, ℕ, zero, suc, ◌+◌, ◌-◌, ◌≤◌, Bool, true, false, ◌||◌, min, List, [], ◌∷◌, ◌++◌, length, take, drop, Option, Some, None, refl, sym, ap, subst, ◌∙◌, arith}
use Rattle.std.proofs.Common.{length-append, length-take, length-drop}
use Rattle.std.specs.Prelude.{slice_get, slice_set, filter}
use Rattle.std.proofs.lemmas.List.{take_all, take-append-le, drop-append-le, drop-take}
use Rattle.std.proofs.lemmas.Option.{slice_get_within}
use Rattle.joint_machine.specs.declared.names.Kind.{Kind}
use Rattle.joint_machine.specs.declared.names.Sort.{Sort}
use Rattle.joint_machine.specs.declared.names.Span.{Span}
use Rattle.joint_machine.specs.declared.names.Thread.{Thread}
use Rattle.joint_machine.specs.declared.names.Thread.TheVariants.{M, P, C}
use Rattle.joint_machine.specs.declared.lines.Act.{Act}
use Rattle.joint_machine.specs.declared.lines.Act.TheVariants as act
use Rattle.joint_machine.specs.declared.events.Op.{Op}
use Rattle.joint_machine.specs.declared.events.Op.TheVariants as op
use Rattle.joint_machine.specs.declared.events.Reply.{Reply}
use Rattle.joint_machine.specs.declared.events.Reply.TheVariants as says
use Rattle.joint_machine.specs.declared.events.Made.{Made}
use Rattle.joint_machine.specs.Heaps.{Answered, answer, slot, place, is_freed, is_full}
use Rattle.joint_machine.specs.Histories.{stretch}
use Rattle.joint_machine.specs.Lines.{IsEvent, is_peer_event}
use Rattle.joint_machine.specs.Linked.{Linkage, SideLawful, opening_linkage, linkage_after, managed_after}
use Rattle.joint_machine.specs.Replaying.{AllMayCome, replayed}
use Rattle.joint_machine.specs.Managed.{Managed, OpenCycle, managed_name, adopted, cell_set, target_read, cell_read, read_cell, twin_met, met, given_up, without_handle, managed_line, holds_handle}
use Rattle.joint_machine.specs.ManagedReplay.{ManagedReplay, registered, managed_answer}
use Rattle.joint_machine.specs.PeerReplay.{PeerReplay, Marking, is_thread, swept, swept_of, peer_answer}
use Rattle.joint_machine.specs.Run.{thread_number}
use Rattle.joint_machine.specs.Told.{Told, nothing, snap_of, contraction_of, sweep_of, resolution_of, phase_of, Noted}
use Rattle.joint_machine.proofs.Deciding.{option-cases, test-cases}
use Rattle.joint_machine.proofs.HeapLemmas.{adopt_by-managed}
use Rattle.joint_laws.specs.States.{state_at}
use Rattle.joint_laws.specs.Spans.{TakesNamed}
use Rattle.joint_laws.proofs.Everywhere.{everywhere, from_state}
use Rattle.joint_laws.proofs.FreedLists.{Grows, grows-same, grows-then}
use Rattle.joint_laws.proofs.ManagedMoves.{met_by}
use Rattle.joint_laws.proofs.ManagedSteps.{meet_by-managed, give_by-managed}
use Rattle.joint_laws.proofs.Places.{comes-at, after-at}
use Rattle.joint_laws.proofs.LinkedEntries.{entry}
use Rattle.joint_laws.proofs.PlainReplies.{IsPlain}
use Rattle.joint_laws.proofs.SpansTold.{plain-entry}

-- the notices and how many were taken
record SameNotices (m n : Managed) : Type 0 where
  notices : n.notices ≡ m.notices
  taken : n.taken ≡ m.taken

same : (m : Managed) → SameNotices m m
same m = record { notices = refl; taken = refl }

module _ (s : Managed) where
  abbrev Keeps : Answered Managed → Type 0
  Keeps a = SameNotices s a.state

  cell-keeps : (k x : ℕ) (o : Option ℕ) → Keeps (cell_set s k x o)
  cell-keeps k x None = record { notices = refl; taken = refl }
  cell-keeps k x (Some y) = same s

  target-keeps : (t : ℕ) (o : Option ℕ) → Keeps (target_read s t o)
  target-keeps t None = same s
  target-keeps t (Some x) = test-cases Keeps (is_freed s.heap x) (answer says.Gone s)
      (answer (managed_name x) (record s { pins = slice_set s.pins t (Some x) })) (same s) (record { notices = refl; taken = refl })

  open-keeps : (t k : ℕ) (o : Option OpenCycle) → Keeps (cell_read s t k o)
  open-keeps t k None = target-keeps t (slot s.cells k)
  open-keeps t k (Some c) = same s

  read-keeps : (t k : ℕ) → Keeps (read_cell s t k)
  read-keeps t k = option-cases Keeps _ _ (slot s.pins t) (open-keeps t k s.cycle) (λ x. same s)

  twin-keeps : (v h : ℕ) (sort : Sort) (n : ℕ) (o : Option ℕ) → Keeps (twin_met s v h sort n o)
  twin-keeps v h sort n (Some m) = record { notices = refl; taken = refl }
  twin-keeps v h sort n None = test-cases Keeps (is_full s.heap.fields) _ _ (same s) (record { notices = refl; taken = refl })

  met_by-keeps : (v h : ℕ) (sort : Sort) (n : ℕ) (o : Option ℕ) (c : Option OpenCycle) → Keeps (met_by s v h sort n o c)
  met_by-keeps v h sort n o None = twin-keeps v h sort n o
  met_by-keeps v h sort n o (Some c) = same s

  met-keeps : (v h : ℕ) (sort : Sort) (n : ℕ) (o : Option ℕ) → Keeps (met s v h sort n o)
  met-keeps v h sort n o = met_by-keeps v h sort n o s.cycle

  adopted-keeps : (v : ℕ) (kind : Kind) (n h : ℕ) → Keeps (adopted s v kind n h)
  adopted-keeps v kind n h = test-cases Keeps (is_full s.heap.fields) _ _ (same s) (record { notices = refl; taken = refl })

  give-keeps : (o : Option ℕ) → SameNotices s (without_handle s o)
  give-keeps None = same s
  give-keeps (Some x) = record { notices = refl; taken = refl }

-- what an entry does to notices: they grow, and so does what was taken, within them
pub record NoticesGo (m n : Managed) : Type 0 where
  pub grows : Grows m.notices n.notices
  pub taken : m.taken ≤ n.taken
  pub within : m.taken ≤ length m.notices → n.taken ≤ length n.notices

go-same : (m n : Managed) → SameNotices m n → NoticesGo m n
go-same m n w = record {
  grows = grows-same _ _ w.notices;
  taken = (let e = w.taken in omega arith);
  within = λ l. (let e = w.taken in let f = ap length w.notices in omega (arith, e, f, l));
}

-- a line but for the taking of notices leaves them alone
line-go : (s : Managed) (t : ℕ) (a : Act) → NoticesGo s (managed_line s t a).state
line-go s t (act.New v kind n) = go-same _ _ (test-cases (Keeps s) (is_full s.heap.fields) _ _ (same s) (record { notices = refl; taken = refl }))
line-go s t (act.Weak k v) = go-same _ _ (option-cases (Keeps s) _ _ (slot s.heap.vars (place t v.0)) (same s) (λ x. cell-keeps s k.0 x (slot s.cells k.0)))
line-go s t (act.Read k) = go-same _ _ (read-keeps s t k.0)
line-go s t (act.Await k) = go-same _ _ (read-keeps s t k.0)
line-go s t (act.Take v) = go-same _ _ (option-cases (Keeps s) _ _ (slot s.pins t) (same s) (λ x. record { notices = refl; taken = refl }))
line-go s t (act.Finalise n) = record {
  grows = grows-same _ _ refl;
  taken = omega arith;
  within = λ l. omega (arith, l);
}
line-go s t _ = go-same _ _ (record { notices = refl; taken = refl })

go-as : (m n o : Managed) → o ≡ n → SameNotices m n → NoticesGo m o
go-as m n o e w = subst (λ z. NoticesGo m z) (sym e) (go-same m n w)

answer-go : (r : ManagedReplay) (t : Thread) (o : Op) (told : Told) → NoticesGo r.managed (managed_answer r t o told).state.managed
answer-go r t (op.Line a) told = line-go r.managed (thread_number t) a
answer-go r t (op.Adopt v kind n p h) told =
    let a = adopted r.managed (place (thread_number t) v.0) kind n h.0 in
    go-as r.managed a.state _ (adopt_by-managed r p.0 h.0 a.state a.reply) (adopted-keeps r.managed (place (thread_number t) v.0) kind n h.0)
answer-go r t (op.Meet v sort n p h) told =
    let a = met r.managed (place (thread_number t) v.0) h.0 sort n (registered r.registry p.0) in
    go-as r.managed a.state _ (meet_by-managed r p.0 h.0 a.state a.reply) (met-keeps r.managed (place (thread_number t) v.0) h.0 sort n (registered r.registry p.0))
answer-go r t (op.Give v) told =
    let u = place (thread_number t) v.0 in
    go-as r.managed (given_up r.managed u).state _ (give_by-managed r (slot r.managed.heap.vars u) (given_up r.managed u)) (give-keeps r.managed (slot r.managed.heap.vars u))
answer-go r t (op.Snap k) (snap_of freed candidates dead) = go-same _ _ (record { notices = refl; taken = refl })
answer-go r t (op.Snap k) told = go-same _ _ (same r.managed)
answer-go r t (op.Contract k) (contraction_of comps heavy xrefs) = go-same _ _ (same r.managed)
answer-go r t (op.Contract k) told = go-same _ _ (same r.managed)
answer-go r t (op.Resolve k) (resolution_of alive freed) = record {
  grows = (_, refl);
  taken = omega arith;
  within = λ l. (let f = length-append r.managed.notices (filter (holds_handle r.managed) freed) in omega (arith, l, f));
}
answer-go r t (op.Resolve k) told = go-same _ _ (same r.managed)
answer-go r t (op.Abandon k) told = go-same _ _ (record { notices = refl; taken = refl })
answer-go r t (op.Refused x) (phase_of phase) = go-same _ _ (same r.managed)
answer-go r t (op.Refused x) told = go-same _ _ (same r.managed)
answer-go r t _ told = go-same _ _ (same r.managed)

go-by : (s : Linkage) (m : Made) (told : Told) (b : Bool) → NoticesGo s.managed.managed (managed_after s.managed m told b).managed
go-by s m told true = go-same _ _ (same s.managed.managed)
go-by s m told false = answer-go s.managed m.caller m.op told

pub notices-go : (s : Linkage) (n : Noted) → NoticesGo s.managed.managed (linkage_after s n).managed.managed
notices-go s n = go-by s n.entry.made n.told (is_peer_event n.entry.made.caller n.entry.made.op)

-- everywhere no more are taken than were queued, and later ones stand behind
taken-within : (noted : List Noted) → AllMayCome opening_linkage noted → (i : ℕ) → (state_at noted i).managed.managed.taken ≤ length (state_at noted i).managed.managed.notices
taken-within noted may i = everywhere (λ s. s.managed.managed.taken ≤ length s.managed.managed.notices) (omega arith) (λ s n m l. (notices-go s n).within l) noted may i

record NoticesSince (m n : Managed) : Type 0 where
  grows : Grows m.notices n.notices
  taken : m.taken ≤ n.taken

notices-since : (noted : List Noted) → AllMayCome opening_linkage noted → (i more : ℕ) → NoticesSince (state_at noted i).managed.managed (state_at noted (i + more)).managed.managed
notices-since noted may i more = from_state (λ s. NoticesSince (state_at noted i).managed.managed s.managed.managed) (λ s n m w. (let g = notices-go s n in record {
  grows = grows-then _ _ _ w.grows g.grows;
  taken = (let a = w.taken in let b = g.taken in omega arith);
})) noted may i more (record { grows = grows-same _ _ refl; taken = omega arith })

took-span : (a b : Span) → says.Took a ≡ says.Took b → a ≡ b
took-span a b e = ap (λ r. span_of r a) e
  where
    span_of : Reply → Span → Span
    span_of (says.Took x) d = x
    span_of _ d = d

take-less : {A : Type 0} (n m : ℕ) (xs : List A) → n ≤ m → take n (take m xs) ≡ take n xs
take-less zero m xs l = refl
take-less (suc n) zero xs l = absurd (omega (arith, l))
take-less (suc n) (suc m) [] l = refl
take-less (suc n) (suc m) (x ∷ xs) l = ap (λ z. x ∷ z) (take-less n m xs (omega (arith, l)))

-- what the taking of notices answers
record Takes (m n : Managed) (s : Span) : Type 0 where
  first : s.first ≡ m.taken
  after : n.taken ≡ s.first + s.count
  queued : m.taken ≤ length m.notices → s.first + s.count ≤ length m.notices

abbrev NotTook : Reply → Type 0
NotTook (says.Took s) = ⊥
NotTook _ = Unit {0}

plain-not : (r : Reply) → IsPlain r → NotTook r
plain-not (says.Snapped n x) e = tt
plain-not (says.Swept j x) e = tt
plain-not (says.Freed x) e = tt
plain-not (says.Took x) e = absurd e
plain-not _ e = tt

module _ (s : Linkage) (line : ℕ) (reply : Reply) (cites : Option ℕ) (sp : Span) (took : reply ≡ says.Took sp) where
  never : NotTook reply → ⊥
  never n = subst NotTook took n

  says-other : (r : Reply) → reply ≡ r → NotTook r → ⊥
  says-other r e n = never (subst NotTook (sym e) n)

  swept-other : (x : Option Marking) (t : Thread) (freed : List ℕ) → NotTook (swept s.peer x t freed).reply
  swept-other None t freed = tt
  swept-other (Some mk) t freed = test-cases (λ (a : Answered PeerReplay). NotTook a.reply) (is_thread t C || is_thread t mk.by)
      (swept_of s.peer mk freed) (answer (says.MarkOpen record { 0 = mk.number }) s.peer) tt tt

  sweep-other : (t : Thread) (told : Told) → NotTook (peer_answer s.peer t op.Sweep cites told).reply
  sweep-other t (sweep_of freed) = swept-other s.peer.marking t freed
  sweep-other t _ = swept-other s.peer.marking t []

  takes : (t : Thread) (o : Op) (told : Told) → IsEvent t o → SideLawful (is_peer_event t o) s (entry t line o reply cites) told
      → Takes s.managed.managed (managed_after s.managed (entry t line o reply cites) told (is_peer_event t o)).managed sp
  takes C (op.Line (act.Finalise n)) nothing e w = (
      let same_span : sp ≡ record { first = s.managed.managed.taken; count = min n (length s.managed.managed.notices - s.managed.managed.taken) } = took-span sp _ (sym took ∙ w.replies) in
      let f = ap (λ (z : Span). z.first) same_span in
      let g = ap (λ (z : Span). z.count) same_span in
      record { first = f; after = omega (arith, f, g); queued = λ l. omega (arith, f, g, l) })
  takes C (op.Line (act.Finalise n)) told e w = absurd w.allowed
  takes (M u) (op.Line (act.Finalise n)) told e w = absurd e.0.1
  takes (P u) (op.Line (act.Finalise n)) told e w = absurd e.0.1
  takes t (op.Snap k) (snap_of freed candidates dead) e w = absurd (says-other _ w.replies tt)
  takes t (op.Snap k) told e w = absurd w.allowed
  takes t op.Sweep told e w = absurd (says-other _ w.replies (sweep-other t told))
  takes t (op.Resolve k) (resolution_of alive freed) e w = absurd (says-other _ w.replies tt)
  takes t (op.Resolve k) told e w = absurd w.allowed
  takes t o told e w = absurd (never (plain-not reply (plain-entry s line reply cites t o told (λ z. z) w).plain))

-- stretches of longer and of shorter lists
stretch-append : (xs ys : List ℕ) (s : Span) → s.first + s.count ≤ length xs → stretch (xs ++ ys) s ≡ stretch xs s
stretch-append xs ys s l =
    ap (λ z. take s.count z) (drop-append-le s.first xs ys (omega (arith, l)))
    ∙ take-append-le s.count (drop s.first xs) ys (let e = length-drop s.first xs in omega (arith, e, l))

stretch-take : (xs : List ℕ) (n : ℕ) (s : Span) → s.first + s.count ≤ n → stretch (take n xs) s ≡ stretch xs s
stretch-take xs n s l =
    let same_end : s.first + (n - s.first) ≡ n = omega (arith, l) in
    ap (λ k. take s.count (drop s.first (take k xs))) (sym same_end)
    ∙ (ap (λ z. take s.count z) (drop-take s.first (n - s.first) xs) ∙ take-less s.count (n - s.first) (drop s.first xs) (omega (arith, l)))

-- in a place of a lawful list, for a list that is the queued notices as far as they were taken at the end
pub notices-named : (noted : List Noted) → AllMayCome opening_linkage noted → (list : List ℕ)
    → take (replayed opening_linkage noted).managed.managed.taken list ≡ take (replayed opening_linkage noted).managed.managed.taken (replayed opening_linkage noted).managed.managed.notices
    → (i : ℕ) (n : Noted) (s : Span) → slice_get noted i ≡ Some n → n.entry.made.reply ≡ says.Took s → TakesNamed list (state_at noted i).managed.managed s
notices-named noted may list alike i n s there took =
    let st = state_at noted i in
    let comes = comes-at noted i n may there in
    let w : Takes st.managed.managed (linkage_after st n).managed.managed s = takes st n.entry.made.index
    n.entry.made.reply n.entry.made.cites s took n.entry.made.caller n.entry.made.op n.told comes.event comes.lawful in
    let queued = w.queued (taken-within noted may i) in
    let l = slice_get_within noted i n there in
    let more = length noted - suc i in
    let same_end : suc i + more ≡ length noted = omega (arith, l) in
    let end : state_at noted (suc i + more) ≡ replayed opening_linkage noted = ap (λ k. state_at noted k) same_end
    ∙ ap (λ ns. replayed opening_linkage ns) (take_all (length noted) noted (omega arith)) in
    let since : NoticesSince (linkage_after st n).managed.managed (replayed opening_linkage noted).managed.managed =
    subst (λ (z : Linkage). NoticesSince (linkage_after st n).managed.managed z.managed.managed) end
    (subst (λ (z : Linkage). NoticesSince z.managed.managed (state_at noted (suc i + more)).managed.managed) (after-at noted i n there) (notices-since noted may (suc i) more)) in
    let grown = grows-then _ _ _ (notices-go st n).grows since.grows in
    let T = (replayed opening_linkage noted).managed.managed.taken in
    let below : s.first + s.count ≤ T = (let a = w.after in let b = since.taken in omega (arith, a, b)) in
    let there_at : stretch list s ≡ stretch st.managed.managed.notices s =
    sym (stretch-take list T s below) ∙ (ap (λ z. stretch z s) alike ∙ (stretch-take _ T s below ∙ (ap (λ z. stretch z s) grown.1 ∙ stretch-append st.managed.managed.notices grown.0 s queued))) in
    record {
      first = w.first;
      queued = queued;
      stands = record {
        within = (let a = ap length alike in let b = length-take T list in let c = length-take T (replayed opening_linkage noted).managed.managed.notices in
            let d = ap length grown.1 in let e = length-append st.managed.managed.notices grown.0 in omega (arith, a, b, c, d, e, below, queued));
        named = sym there_at;
      };
    }
