-- An event that was answered as the replay answers it may come next, and the state is the one after it: its caller and
-- its words are those of an event of the managed side, and all that it asks for is that its handle, if it adopts one,
-- is a new one. The handles that rows ever took stand beside the entries, and are as many more as the event gives.
use Rattle.std.proofs.Common.{◌≡◌, ℕ, ◌+◌, ◌<◌, ◌≤◌, Bool, true, false, List, [], ◌∷◌, ◌++◌, length, Option, Some, None, refl, sym, ap, subst, ◌∙◌, arith, append-nil, length-append}
use Rattle.std.proofs.lemmas.Grind.{flat_map-append}
use Rattle.std.proofs.lemmas.List.Elements.{All-weaker}
use Rattle.joint_machine.specs.declared.names.MNum.{MNum}
use Rattle.joint_machine.specs.declared.names.Cell.{Cell}
use Rattle.joint_machine.specs.declared.names.Var.{Var}
use Rattle.joint_machine.specs.declared.names.Thread.{Thread}
use Rattle.joint_machine.specs.declared.names.Thread.TheVariants.{M, P, C}
use Rattle.joint_machine.specs.declared.lines.Act.{Act}
use Rattle.joint_machine.specs.declared.lines.Act.TheVariants as act
use Rattle.joint_machine.specs.declared.events.Entry.{Entry}
use Rattle.joint_machine.specs.declared.events.Made.{Made}
use Rattle.joint_machine.specs.declared.events.Op.{Op}
use Rattle.joint_machine.specs.declared.events.Op.TheVariants as op
use Rattle.joint_machine.specs.declared.events.Reply.{Reply}
use Rattle.joint_machine.specs.Draws.{numbered, AllBelow, Drawing}
use Rattle.joint_machine.specs.Heaps.{answer}
use Rattle.joint_machine.specs.Lines.{IsManagedThread, IsVar, is_peer_event, is_peer_thread, is_read}
use Rattle.joint_machine.specs.PinsTold.{is_pinned, bare_told, no_pins, pins_told, tells_pins, with_pins}
use Rattle.joint_machine.specs.Linked.{ManagedLawful}
use Rattle.joint_machine.specs.ManagedReplay.{ManagedReplay, managed_answer, ManagedAllows, plainly}
use Rattle.joint_machine.specs.Managed.{managed_line}
use Rattle.joint_machine.specs.Run.{thread_number}
use Rattle.joint_machine.specs.Sides.{GoesOn, IsOfSide, IsReplayed, managed_rules, MaySetCell, cell_target, step_made}
use Rattle.joint_machine.specs.Told.{Told, nothing, kept_pins}
use Rattle.joint_machine.proofs.SideLists.{IsReplayed-push}
use Rattle.joint_laws.specs.ManagedInvariants.{ReplayInvariant}
use Rattle.known_laws.specs.Known.{PinsStand}
use Rattle.known_laws.proofs.Bared.{plain_pins, plain_told}
use Rattle.known_laws.proofs.Unpinned.{answers_same}
use Rattle.managed_heap.specs.Rows.{RowsInvariant, with_adopted}
use Rattle.managed_heap.specs.Sides.{HasRoom, SideInvariant, owed_by, state_of}
use Rattle.managed_heap.specs.Steps.{IsStepBy, IsLineBy, IsManagedStep, IsFresh, take_op, weak_op, adopted_by}
use Rattle.managed_heap.specs.Takings.{taken_in}
use Rattle.managed_heap.proofs.Kept.{few-next, kept-next, no-pins}

by-peer : (n : ℕ) (a : Act) → IsLineBy (P n) a → ⊥
by-peer n (act.Finalise k) b = b
by-peer n _ b = b.0

line-side : (t : Thread) (a : Act) → IsLineBy t a → is_peer_thread t ≡ false
line-side (M n) a b = refl
line-side C a b = refl
line-side (P n) a b = absurd (by-peer n a b)

step-side : (t : Thread) (o : Op) → IsStepBy t o → is_peer_event t o ≡ false
step-side t (op.Line a) b = line-side t a b
step-side t (op.Lend v x) b = refl
step-side t (op.Adopt v kind n p h) b = refl
step-side t (op.Meet v sort n p h) b = refl
step-side t (op.Give v) b = refl
step-side t _ b = absurd b

-- an event of a step is one of this side
pub step-of : (t : Thread) (index : ℕ) (o : Op) (r : Reply) (cites : Option ℕ) → IsManagedStep t o → IsOfSide false (step_made t index o r cites)
step-of t index o r cites step = record { event = step.0; side = step-side t o step.1 }

-- all that it asks for is a new handle, if it adopts one
pub step-allowed : (s : ManagedReplay) (t : Thread) (o : Op) → IsStepBy t o → IsFresh s o → ManagedAllows s o nothing
step-allowed s t (op.Line a) b f = tt
step-allowed s t (op.Lend v x) b f = tt
step-allowed s t (op.Adopt v kind n p h) b f = f
step-allowed s t (op.Meet v sort n p h) b f = f
step-allowed s t (op.Give v) b f = tt
step-allowed s t _ b f = absurd b

-- a `take` of a managed thread is an event of this side
pub take-of : (t : Thread) (index : ℕ) (v : Var) (r : Reply) → IsManagedThread t → IsVar v → IsOfSide false (step_made t index (take_op v) r None)
take-of (M n) index v r t in_range = record { event = ((t, in_range), tt); side = refl }
take-of (P n) index v r t in_range = absurd t
take-of C index v r t in_range = absurd t

-- an event that asks for no pins, with what is told beside it
abbrev pub AsksNoPins : Op → Told → Type 0
AsksNoPins o told = (is_read o ≡ false) × (is_pinned o ≡ false) × (tells_pins told ≡ false)

-- no event of a step asks for pins, or sets a cell
line-bare : (t : Thread) (a : Act) → IsLineBy t a → AsksNoPins (op.Line a) nothing
line-bare t (act.Weak k v) b = absurd b.1
line-bare t (act.Read k) b = absurd b.1
line-bare t (act.Await k) b = absurd b.1
line-bare t (act.Take v) b = absurd b.1
line-bare t _ b = (refl, refl, refl)

pub step-bare : (t : Thread) (o : Op) → IsStepBy t o → AsksNoPins o nothing
step-bare t (op.Line a) b = line-bare t a b
step-bare t (op.Lend v x) b = (refl, refl, refl)
step-bare t (op.Adopt v kind n p h) b = (refl, refl, refl)
step-bare t (op.Meet v sort n p h) b = (refl, refl, refl)
step-bare t (op.Give v) b = (refl, refl, refl)
step-bare t _ b = absurd b

line-target : (s : ManagedReplay) (t : Thread) (a : Act) (r : Reply) → IsLineBy t a → cell_target s t (op.Line a) r ≡ None
line-target s t (act.Weak k v) r b = absurd b.1
line-target s t _ r b = refl

pub step-target : (s : ManagedReplay) (t : Thread) (o : Op) (r : Reply) → IsStepBy t o → cell_target s t o r ≡ None
step-target s t (op.Line a) r b = line-target s t a r b
step-target s t (op.Lend v x) r b = refl
step-target s t (op.Adopt v kind n p h) r b = refl
step-target s t (op.Meet v sort n p h) r b = refl
step-target s t (op.Give v) r b = refl
step-target s t _ r b = absurd b

-- a `weak` of a managed thread is one too
pub weak-of : (t : Thread) (index : ℕ) (k : Cell) (v : Var) (r : Reply) → IsManagedThread t → k.0 < 64 → IsVar v → IsOfSide false (step_made t index (weak_op k v) r None)
weak-of (M n) index k v r t cell in_range = record { event = ((t, (cell, in_range)), tt); side = refl }
weak-of (P n) index k v r t cell in_range = absurd t
weak-of C index k v r t cell in_range = absurd t

-- what was answered as the replay answers may come next, if it asks for no pins: the state has none
pub goes-answered : (s next : ManagedReplay) (m : Made) (told : Told) → s.managed.pins ≡ no_pins → AsksNoPins m.op told → IsOfSide false m
    → ManagedAllows s m.op told → managed_answer s m.caller m.op told ≡ answer m.reply next → GoesOn managed_rules s m told next
goes-answered s next m told none bare of allowed is =
    let here : with_pins s (pins_told told) ≡ s = ap (λ z. with_pins s z) (plain_pins told bare.2 ∙ sym none) in
    let plain : bare_told told ≡ told = plain_told told bare.2 in
    let lawful : ManagedLawful s m told = record { allowed = allowed; replies = ap (λ a. a.reply) (sym is) } in
    let same : managed_answer (with_pins s (pins_told told)) m.caller m.op (bare_told told) ≡ managed_answer s m.caller m.op told = ap (λ z. managed_answer z m.caller m.op (bare_told told)) here
    ∙ ap (λ z. managed_answer s m.caller m.op z) plain in
    let emptied : managed_answer s m.caller m.op told ≡ answer (managed_answer s m.caller m.op told).reply (with_pins (managed_answer s m.caller m.op told).state no_pins) =
    ap (λ z. managed_answer (with_pins s z) m.caller m.op told) none ∙ answers_same no_pins s m.caller m.op told bare.0 bare.1 in
    record {
      lawful = (of, record { own = bare.0; tells = bare.2 ∙ sym bare.1; lawful = subst (λ z. ManagedLawful z m (bare_told told)) (sym here) (subst (λ z. ManagedLawful s m z) (sym plain) lawful) });
      state = ap (λ a. a.state) (sym is) ∙ (ap (λ a. a.state) emptied ∙ ap (λ a. with_pins a.state no_pins) (sym same));
    }

-- what was given last stands last
pub taken_in-push : (taken : List (List ℕ)) (hs : List ℕ) → taken_in (taken ++ hs ∷ []) ≡ taken_in taken ++ hs
taken_in-push taken hs = flat_map-append (λ (x : List ℕ). x) taken (hs ∷ []) ∙ ap (λ z. taken_in taken ++ z) (append-nil hs)

-- from a side to the side with one entry more, which gave these handles to rows
pub side-gives : (es : List Entry) (taken after : List (List ℕ)) (rows next : ManagedReplay) (given : List ℕ) (m : Made) (told : Told)
    → IsReplayed managed_rules es (state_of taken rows) → AsksNoPins m.op told → IsOfSide false m → ManagedAllows (state_of taken rows) m.op told
    → after ≡ taken ++ given ∷ [] → ((hs : List ℕ) → managed_answer (with_adopted rows hs) m.caller m.op told ≡ answer m.reply (with_adopted next (hs ++ given)))
    → GoesOn managed_rules (state_of taken rows) m told (state_of after next)
side-gives es taken after rows next given m told r bare of allowed added answers =
    goes-answered (state_of taken rows) (state_of after next) m told (no-pins es (state_of taken rows) r) bare of allowed
    (answers (taken_in taken) ∙ ap (λ z. answer m.reply (with_adopted next z)) (sym (ap taken_in added ∙ taken_in-push taken given)))

-- the same where it gave none
pub side-goes : (es : List Entry) (taken : List (List ℕ)) (rows next : ManagedReplay) (m : Made) (told : Told)
    → IsReplayed managed_rules es (state_of taken rows) → AsksNoPins m.op told → IsOfSide false m → ManagedAllows (state_of taken rows) m.op told
    → ((hs : List ℕ) → managed_answer (with_adopted rows hs) m.caller m.op told ≡ answer m.reply (with_adopted next (hs ++ [])))
    → GoesOn managed_rules (state_of taken rows) m told (state_of taken next)
side-goes es taken rows next m told r bare of allowed answers =
    goes-answered (state_of taken rows) (state_of taken next) m told (no-pins es (state_of taken rows) r) bare of allowed
    (answers (taken_in taken) ∙ ap (λ z. answer m.reply (with_adopted next z)) (append-nil (taken_in taken)))

-- a state without pins
bare-state : (s : ManagedReplay) → s.managed.pins ≡ no_pins → s ≡ with_pins s no_pins
bare-state s none = ap (λ z. with_pins s z) none

-- the same with pins that are given
pub goes-pinned : (es : List Entry) (taken : List (List ℕ)) (rows next after : ManagedReplay) (m : Made) (pins : List (Option ℕ)) (told : Told) → IsReplayed managed_rules es (state_of taken rows)
    → IsOfSide false m → is_read m.op ≡ false → is_pinned m.op ≡ true → ManagedLawful (with_pins (state_of taken rows) pins) m told → next ≡ after → after.managed.pins ≡ rows.managed.pins
    → with_pins (with_adopted after (taken_in taken)) no_pins ≡ with_pins (managed_answer (with_pins (state_of taken rows) pins) m.caller m.op told).state no_pins
    → GoesOn managed_rules (state_of taken rows) m (kept_pins pins told) (state_of taken next)
goes-pinned es taken rows next after m pins told r of read pinned lawful is same answers =
    let bare : with_adopted after (taken_in taken) ≡ with_pins (with_adopted after (taken_in taken)) no_pins = bare-state
    (with_adopted after (taken_in taken)) (same ∙ no-pins es (state_of taken rows) r) in
    record {
      lawful = (of, record { own = read; tells = sym pinned; lawful = lawful });
      state = ap (λ z. with_adopted z (taken_in taken)) is ∙ (bare ∙ answers);
    }

-- a number that isn't below the floor lies above each number of the list
above-all : (es : List Entry) (floor k : ℕ) → AllBelow es floor → floor ≤ k → AllBelow es k
above-all es floor k b l = All-weaker (λ e. e.number < floor) (λ e. e.number < k) (λ e h. omega (arith, h, l)) es b

-- the side with one entry more is the replay of its entries
pub side-replayed : (es es' : List Entry) (taken after : List (List ℕ)) (rows next : ManagedReplay) (k floor : ℕ) (m : Made) (told : Told)
    → AllBelow es floor → floor ≤ k → es' ≡ es ++ numbered k m ∷ []
    → GoesOn managed_rules (state_of taken rows) m told (state_of after next) → IsReplayed managed_rules es (state_of taken rows) → IsReplayed managed_rules es' (state_of after next)
side-replayed es es' taken after rows next k floor m told below above added goes r = IsReplayed-push managed_rules es es'
    (state_of taken rows) (state_of after next) k m told (above-all es floor k below above) added goes r

-- and keeps what every side keeps, if the pins stand that are told with the entry
pub side-kept : (es es' : List Entry) (taken after : List (List ℕ)) (rows next : ManagedReplay) (k : ℕ) (m : Made) (told : Told)
    → PinsStand rows.managed (pins_told told) → es' ≡ es ++ numbered k m ∷ []
    → GoesOn managed_rules (state_of taken rows) m told (state_of after next) → SideInvariant es (state_of taken rows) → SideInvariant es' (state_of after next)
side-kept es es' taken after rows next k m told st added goes k' =
    let s = state_of taken rows in
    let stand : PinsStand s.managed (pins_told told) = st in
    let longer : length es' ≡ length es + 1 = ap length added ∙ length-append es (numbered k m ∷ []) in
    let few : (managed_rules.next s m told).managed.cycles ≤ s.managed.cycles + 1 = few-next s m told stand goes.lawful k'.kept in
    let same : (state_of after next).managed.cycles ≡ (managed_rules.next s m told).managed.cycles = ap (λ (z : ManagedReplay). z.managed.cycles) goes.state in
    record {
      kept = subst ReplayInvariant (sym goes.state) (kept-next s m told stand goes.lawful k'.kept);
      few = omega (arith, longer, few, same, k'.few);
    }

-- the rows of a side keep what every side keeps
pub kept-rows : (es : List Entry) (taken : List (List ℕ)) (rows : ManagedReplay) → SideInvariant es (state_of taken rows) → RowsInvariant rows
kept-rows es taken rows k = (taken_in taken, k.kept)

-- each of the things that gave handles to rows has an entry
pub takings-more : (es es' : List Entry) (taken after : List (List ℕ)) (given : List ℕ) (k : ℕ) (m : Made)
    → after ≡ taken ++ given ∷ [] → es' ≡ es ++ numbered k m ∷ [] → length taken ≤ length es → length after ≤ length es'
takings-more es es' taken after given k m more added few = omega (arith, ap length more, ap length added, length-append taken (given ∷ []), length-append es (numbered k m ∷ []), few)

pub takings-few : (es es' : List Entry) (taken : List (List ℕ)) (k : ℕ) (m : Made) → es' ≡ es ++ numbered k m ∷ [] → length taken ≤ length es → length taken ≤ length es'
takings-few es es' taken k m added few = omega (arith, ap length added, length-append es (numbered k m ∷ []), few)

-- an open cycle owes one entry at least
pub owed-some : (b : Bool) → 1 ≤ owed_by b
owed-some true = omega arith
owed-some false = omega arith

-- two places are as many as an open cycle owes
pub HasRoom-two : (s : ManagedReplay) (spare : ℕ) → 2 ≤ spare → HasRoom s spare
HasRoom-two s spare two = λ c o. owed s.contracted
  where
    owed : (b : Bool) → owed_by b ≤ spare
    owed true = omega (arith, two)
    owed false = two

-- a line that the managed objects answered, with the handles that were adopted
pub line-answers : (old new : ManagedReplay) (t : Thread) (a : Act) (r : Reply) (hs : List ℕ)
    → managed_line old.managed (thread_number t) a ≡ answer r new.managed → new ≡ record old { managed = new.managed }
    → managed_answer (with_adopted old hs) t (op.Line a) nothing ≡ answer r (with_adopted new (hs ++ adopted_by (op.Line a) r))
line-answers old new t a r hs is rest = ap (λ x. plainly (with_adopted old hs) x) is
    ∙ ap (λ z. answer r z) (ap (λ z. with_adopted z hs) (sym rest) ∙ ap (λ z. with_adopted new z) (sym (append-nil hs)))

-- a reply that changes nothing
pub same-answers : (old : ManagedReplay) (r said : Reply) (hs : List ℕ) → said ≡ r → answer said (with_adopted old hs) ≡ answer r (with_adopted old (hs ++ []))
same-answers old r said hs is = ap (λ z. answer z (with_adopted old hs)) is ∙ ap (λ z. answer r (with_adopted old z)) (sym (append-nil hs))

-- the caller may draw for the event, also with an object to which it may set a cell
pub may-target : {D : Type 0} (d : Drawing D) (draw : D) (s : ManagedReplay) (t : Thread) (o : Op) (m : Option MNum) → d.may draw t o None
    → ((x : MNum) → MaySetCell s o x → d.may draw t o (Some x)) → ((x : MNum) → m ≡ Some x → MaySetCell s o x) → d.may draw t o m
may-target d draw s t o None bare targets at = bare
may-target d draw s t o (Some x) bare targets at = targets x (at x refl)
