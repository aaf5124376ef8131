-- A collect under the peer lock: what the side's call draws by a seat, and what the locked seat and the caller know
-- after it.
use Rattle.std.proofs.Common.{◌≡◌, inl, inr, ⊎_elim, ℕ, Bool, ◌<◌, ◌≤◌, ◌^◌, List, [], ◌∷◌, ◌++◌, length, Option, Some, None, refl, sym, ap, ◌∙◌, subst, append-nil, append_assoc, arith}
use Rattle.std.specs.Prelude.{if◌then◌else◌, Result, Ok, Err, IfOk, OnErr}
use Rattle.std.specs.Option.{unwrap_or}
use mathlib.Core.List.{IsPrefix}
use base.Growing.{prefix_trans}
use Rattle.joint_machine.specs.declared.names.MNum.{MNum}
use Rattle.joint_machine.specs.declared.names.Marking.{Marking as Number}
use Rattle.joint_machine.specs.declared.names.Span.{Span}
use Rattle.joint_machine.specs.declared.names.Thread.{Thread}
use Rattle.joint_machine.specs.declared.names.Thread.TheVariants.{M, P, C}
use Rattle.joint_machine.specs.declared.lines.Act.TheVariants as act
use Rattle.joint_machine.specs.declared.events.Entry.{Entry}
use Rattle.joint_machine.specs.declared.events.Made.{Made}
use Rattle.joint_machine.specs.declared.events.Op.{Op}
use Rattle.joint_machine.specs.declared.events.Op.TheVariants as op
use Rattle.joint_machine.specs.declared.events.Reply.{Reply}
use Rattle.joint_machine.specs.declared.events.Reply.TheVariants as says
use Rattle.joint_machine.specs.Control.{free, last_line}
use Rattle.joint_machine.specs.Draws.{numbered, Drawing}
use Rattle.joint_machine.specs.Heaps.{answer}
use Rattle.joint_machine.specs.HistoryLines.{caller_line}
use Rattle.joint_machine.specs.Lines.{IsPeerThread, IsThread}
use Rattle.joint_machine.specs.PeerReplay.{Marking, PeerReplay, SweepAllows, swept, swept_of}
use Rattle.joint_machine.specs.Sides.{Making, Side, SideRules, AddsLawful, AddsInTurn, peer_rules}
use Rattle.joint_machine.specs.Told.{Told, nothing, sweep_of}
use Rattle.known_laws.specs.Pasts.{end_of}
use Rattle.order_table.specs.declared.views.Role.TheVariants as role
use Rattle.order_table.specs.declared.views.View.{View}
use Rattle.order_table.specs.Facts.{line_entries}
use Rattle.order_table.specs.Rule.{IsBelow}
use Rattle.order_table.specs.Views.{OrderId, Shown, known, kept, Owns, role_line}
use Rattle.peer_heap.specs.Makings.{collect_makings, step_makings, told_at, IsMarkEvent}
use Rattle.peer_heap.specs.Sides.{PeerModel, seen}
use Rattle.joint_history.specs.declared.callers.Receipt.{Receipt}
use Rattle.seat_calls.specs.declared.seats.SeatDrawing.{SeatDrawing}
use Rattle.joint_history.specs.Callers.{HoldsPass}
use Rattle.joint_history.specs.Collecting.{Collects, DrawsCollect, DrawsRefusal, DrawsWhole, began_at, refused_at, swept_at}
use Rattle.joint_history.specs.Knowing.{line_known, note_of}
use Rattle.joint_history.specs.Locked.{StaysSeated, Drew, MakesNone, PeerKnows, PeerReserves, made_by}
use Rattle.joint_history.specs.Operations.{MakesAll, MayBegin, Runs, entry_by}
use Rattle.joint_history.specs.PeerCalls.{DrawsEvent}
use Rattle.seat_calls.specs.Passing.{Appends, Lends, Returns}
use Rattle.joint_history.specs.Steps.{GoesFurther}
use Rattle.joint_history.proofs.Fitting.{goes_further, further_then, stays_further}
use Rattle.joint_history.proofs.KnownCallers.{own_line}
use Rattle.joint_history.proofs.KnownViews.{entries_snoc, same_view}
use Rattle.joint_history.proofs.SeatDraws.{drew_peer, peer_settled}
use Rattle.order_table.specs.Allowed.{Settled}
use Rattle.joint_history.proofs.LockedSteps.{list_more, side_entered, peer_side, returns_seated, grows_more, knows_still, last_told, lent_joined, makes_none, own_told, stands_same}
use Rattle.joint_history.proofs.Reserving.{seated_on, KeepsReserve, KnowsOn, back_on, drew_on, drew_reserves, lent_on, nothing_kept, quiet_kept, reserves_on}
use Rattle.joint_history.proofs.Running.{above_more, makes_nothing}
use Rattle.joint_history.proofs.Standing.{last_of_own}
use Rattle.joint_history.proofs.Turning.{begins_still}
use Rattle.joint_laws.proofs.JointSteps.{may-end}

-- entries in turn leave a side for as many threads as before
pub threads_in_turn : {S D : Type 0} (r : SideRules S) (d : Drawing D) (before after : D) (old new : Side S) (ms : List Making) → AddsInTurn r d before after old new ms → new.threads ≡ old.threads
threads_in_turn {S} r d before after old new [] a = ap (λ (s : Side S). s.threads) a.1
threads_in_turn r d before after old new (m ∷ ms) a = threads_in_turn r d a.0 after a.1 new ms a.3 ∙ a.2.threads

-- a sweep that tells what it freed answers which marking it ended
record AnswersSwept (reply : Reply) : Type 0 where
  pub marking : Number
  pub freed : Span
  pub is : reply ≡ says.Swept marking freed

swept_so : (s : PeerReplay) (o : Option Marking) (t : Thread) (gone : List ℕ) → SweepAllows s o t (sweep_of gone) → AnswersSwept (swept s o t gone).reply
swept_so s None (M n) gone w = absurd w
swept_so s None (P n) gone w = absurd w
swept_so s None C gone w = absurd w
swept_so s (Some mk) t gone w = record {
  marking = record { 0 = mk.number };
  freed = record { first = length s.peers.heap.freed; count = length gone };
  is = ap (λ (b : Bool). (if b then swept_of s mk gone else answer (says.MarkOpen record { 0 = mk.number }) s).reply) (may-end t mk.by w.0);
}

-- a draw by a seat keeps which seat it is and the role, and leaves the number of its entry, the seat with that entry
-- and the first number drawn
abbrev DrewBy : SeatDrawing → Entry → Option MNum → List MNum → SeatDrawing → Type 0
DrewBy a e m freed b = (b.seat.ghost_name ≡ a.seat.ghost_name) × (b.role ≡ a.role) × (b.last ≡ e.number)
    × Appends a.order.now b.order.now a.seat.now b.seat.now (role_line a.role) (kept a.seat.now.view e.made m freed e.number) × (b.first ≡ Some (unwrap_or a.first e.number))

module _ (d : Drawing SeatDrawing) (reads : (a b : SeatDrawing) (e : Entry) (m : Option MNum) (freed : List MNum) → d.drew a e m freed b → DrewBy a e m freed b) (order : OrderId) where
  record DrewOne (a b : SeatDrawing) (old new : Side PeerReplay) (m : Made) (told : Told) : Type 0 where
    pub number : ℕ
    pub drew : Drew peer_rules 1 order a.seat.now b.seat.now old new (numbered number m) told
    pub name : b.seat.ghost_name ≡ a.seat.ghost_name
    pub role_is : b.role ≡ role.Peer
    pub order_is : b.order.now ≡ order
    pub last : b.last ≡ number
    pub first : b.first ≡ Some (unwrap_or a.first number)
    pub settled : Settled a.seat.now.view → Settled b.seat.now.view

  drew_one : (a b : SeatDrawing) (old new : Side PeerReplay) (m : Made) (told : Told) → a.order.now ≡ order
      → a.role ≡ role.Peer → AddsLawful peer_rules d a b old new m told → DrewOne a b old new m told
  drew_one a b old new m told o r w =
      let n = w.draws.adds.number in
      let x = reads a b (numbered n m) None [] w.draws.adds.drawn in
      let y = subst (λ l. Appends a.order.now b.order.now a.seat.now b.seat.now l (kept a.seat.now.view m None [] n)) (ap role_line r) x.3 in
      record {
        number = n;
        drew = subst (λ p. Drew peer_rules 1 p a.seat.now b.seat.now old new (numbered n m) told) o
            (drew_peer a.order.now b.order.now a.seat.now b.seat.now old new m told n y w.goes w.draws.adds.added n refl);
        settled = peer_settled a.order.now b.order.now a.seat.now b.seat.now old.state m told n y w.goes.lawful;
        name = x.0;
        role_is = x.1 ∙ r;
        order_is = y.same_order ∙ o;
        last = x.2;
        first = x.4;
      }

  -- one event, whatever is told beside it
  pub record EventDrew (a b : SeatDrawing) (old new : Side PeerReplay) (m : Made) : Type 0 where
    pub drew : DrawsEvent order a.seat.now b.seat.now old new (numbered b.last m)
    pub settled : Settled a.seat.now.view → Settled b.seat.now.view
    pub threads : new.threads ≡ old.threads

  pub event_drew : (a b : SeatDrawing) (old new : Side PeerReplay) (m : Made) (told : Told) → a.order.now ≡ order
      → a.role ≡ role.Peer → AddsLawful peer_rules d a b old new m told → EventDrew a b old new m
  event_drew a b old new m told o r w =
      let one = drew_one a b old new m told o r w in
      record {
        drew = record { told = told; drew = subst (λ n. Drew peer_rules 1 order a.seat.now b.seat.now old new (numbered n m) told) (sym one.last) one.drew };
        settled = one.settled;
        threads = w.threads;
      }

  one_drew : (a b : SeatDrawing) (old new : Side PeerReplay) (m : Made) (told : Told) → a.order.now ≡ order
      → a.role ≡ role.Peer → AddsInTurn peer_rules d a b old new (record { made = m; told = told } ∷ []) → EventDrew a b old new m
  one_drew a b old new m told o r w =
      let is = w.3 in
      subst (λ (s : Side PeerReplay). EventDrew a b old s m) (sym is.1) (subst (λ (x : SeatDrawing). EventDrew a x old w.1 m) (sym is.0) (event_drew a w.0 old w.1 m told o r w.2))

  -- a begin or a sweep alone
  pub mark_drew : (a b : SeatDrawing) (old new : Side PeerReplay) (t : Thread) (index : ℕ) (q : Op) (reply : Reply) (gone : List ℕ) → IsMarkEvent q → a.order.now ≡ order → a.role ≡ role.Peer
      → AddsInTurn peer_rules d a b old new (step_makings t index q None reply gone) → EventDrew a b old new (made_by t index q reply None)
  mark_drew a b old new t index op.Begin reply gone is o r w = one_drew a b old new (made_by t index op.Begin reply None) (told_at op.Begin reply gone) o r w
  mark_drew a b old new t index op.Sweep reply gone is o r w = one_drew a b old new (made_by t index op.Sweep reply None) (told_at op.Sweep reply gone) o r w
  mark_drew a b old new t index q reply gone is o r w = absurd is

  pub record CollectDrew (a b : SeatDrawing) (old new : Side PeerReplay) (t : Thread) (index : ℕ) (reply : Reply) : Type 0 where
    pub first : ℕ
    pub begins : b.first ≡ Some first
    pub name : b.seat.ghost_name ≡ a.seat.ghost_name
    pub drew : DrawsCollect order a.seat.now b.seat.now old new t index (record { first = first; last = b.last; reply = reply })
    pub settled : Settled a.seat.now.view → Settled b.seat.now.view

  refused_drew : (a b : SeatDrawing) (old new : Side PeerReplay) (t : Thread) (index : ℕ) (j : Number) (gone : List ℕ) → a.order.now ≡ order → a.role ≡ role.Peer → a.first ≡ None
      → AddsInTurn peer_rules d a b old new (collect_makings t index (says.MarkOpen j) gone) → CollectDrew a b old new t index (says.MarkOpen j)
  refused_drew a b old new t index j gone o r f w =
      let one = drew_one a w.0 old w.1 _ nothing o r w.2 in
      let is = w.3 in
      record {
        first = one.number;
        begins = ap (λ (x : SeatDrawing). x.first) is.0 ∙ (one.first ∙ ap (λ n. Some (unwrap_or n one.number)) f);
        name = ap (λ (x : SeatDrawing). x.seat.ghost_name) is.0 ∙ one.name;
        drew = inr (record {
          marking = j;
          drew = subst (λ (s : Side PeerReplay). Drew peer_rules 1 order a.seat.now b.seat.now old s (refused_at t index one.number j) nothing) (sym is.1)
              (subst (λ (x : SeatDrawing). Drew peer_rules 1 order a.seat.now x.seat.now old w.1 (refused_at t index one.number j) nothing) (sym is.0) one.drew);
          last = ap (λ (x : SeatDrawing). x.last) is.0 ∙ one.last;
          answer = refl;
        });
        settled = λ z. subst (λ (x : SeatDrawing). Settled x.seat.now.view) (sym is.0) (one.settled z);
      }

  whole_drew : (a b : SeatDrawing) (old new : Side PeerReplay) (t : Thread) (index : ℕ) (j : Number) (freed : Span) (gone : List ℕ) → a.order.now ≡ order → a.role ≡ role.Peer → a.first ≡ None
      → AddsInTurn peer_rules d a b old new (collect_makings t index (says.Swept j freed) gone) → CollectDrew a b old new t index (says.Swept j freed)
  whole_drew a b old new t index j freed gone o r f w =
      let one = drew_one a w.0 old w.1 _ nothing o r w.2 in
      let v = w.3 in
      let two = drew_one w.0 v.0 w.1 v.1 _ (sweep_of gone) one.order_is one.role_is v.2 in
      let is = v.3 in
      let last : b.last ≡ two.number = ap (λ (x : SeatDrawing). x.last) is.0 ∙ two.last in
      let begun : w.0.first ≡ Some one.number = one.first ∙ ap (λ n. Some (unwrap_or n one.number)) f in
      record {
        first = one.number;
        begins = ap (λ (x : SeatDrawing). x.first) is.0 ∙ (two.first ∙ ap (λ n. Some (unwrap_or n two.number)) begun);
        name = ap (λ (x : SeatDrawing). x.seat.ghost_name) is.0 ∙ (two.name ∙ one.name);
        drew = inl (record {
          marking = j;
          freed = freed;
          gone = gone;
          between = w.0.seat.now;
          begun = w.1;
          begins = one.drew;
          ends = subst (λ n. Drew peer_rules 1 order w.0.seat.now b.seat.now w.1 new (swept_at t index n j freed) (sweep_of gone)) (sym last)
              (subst (λ (s : Side PeerReplay). Drew peer_rules 1 order w.0.seat.now b.seat.now w.1 s (swept_at t index two.number j freed) (sweep_of gone)) (sym is.1)
              (subst (λ (x : SeatDrawing). Drew peer_rules 1 order w.0.seat.now x.seat.now w.1 v.1 (swept_at t index two.number j freed) (sweep_of gone)) (sym is.0) two.drew));
          answer = refl;
        });
        settled = λ z. subst (λ (x : SeatDrawing). Settled x.seat.now.view) (sym is.0) (two.settled (one.settled z));
      }

  -- a sweep that was made answers so
  swept_drew : (a b : SeatDrawing) (old new : Side PeerReplay) (t : Thread) (index : ℕ) (reply : Reply) (gone : List ℕ) (s : PeerReplay) → a.order.now ≡ order → a.role ≡ role.Peer → a.first ≡ None
      → AddsInTurn peer_rules d a b old new (collect_makings t index reply gone) → SweepAllows s s.marking t (sweep_of gone)
      → reply ≡ (swept s s.marking t gone).reply → CollectDrew a b old new t index reply
  swept_drew a b old new t index reply gone s o r f w allowed is =
      let x = swept_so s s.marking t gone allowed in
      let e = is ∙ x.is in
      subst (CollectDrew a b old new t index) (sym e) (whole_drew a b old new t index x.marking x.freed gone o r f
      (subst (λ y. AddsInTurn peer_rules d a b old new (collect_makings t index y gone)) e w))

  pub collect_drew : (a b : SeatDrawing) (old new : Side PeerReplay) (t : Thread) (index : ℕ) (reply : Reply) (gone : List ℕ) → a.order.now ≡ order → a.role ≡ role.Peer → a.first ≡ None
      → AddsInTurn peer_rules d a b old new (collect_makings t index reply gone) → CollectDrew a b old new t index reply
  collect_drew a b old new t index (says.MarkOpen j) gone o r f w = refused_drew a b old new t index j gone o r f w
  collect_drew a b old new t index reply gone o r f w = swept_drew a b old new t index reply gone w.1.state o r f w w.3.2.goes.lawful.1.allowed w.3.2.goes.lawful.1.replies

-- the locked seat knows the side, and the thread's last line isn't above this one
record KnowsAt (t : Thread) (v : View) (side : Side PeerReplay) (index : ℕ) : Type 0 where
  pub knows : PeerKnows v side
  pub last : last_line (end_of knows.known.known.past).control t ≤ index

-- after the caller's lines were handed over
lent_at : (t : Thread) (locked mine lent mine1 : View) (side : Side PeerReplay) (index : ℕ) → HoldsPass t mine
    → Owns locked 1 → PeerKnows locked side → MayBegin t mine index → Lends t locked mine lent mine1 → KnowsAt t lent side index
lent_at t locked mine lent mine1 side index pass owns ks b l =
    let j = lent_joined t locked mine lent mine1 l ks.known b.stands.known in
    record {
      knows = record {
        known = j.joined;
        entries = ap line_entries (l.whole 1 owns) ∙ ks.entries;
        state = j.peer_first (l.whole 1 owns) ∙ ks.state;
      };
      last = last_told t j.joined.known.past b.stands.known.known.past index (own_told t locked mine lent mine1 l ks.known b.stands.known pass) b.stands.last;
    }

-- after an entry of the thread
drew_at : (n : ℕ) (order : OrderId) (seat seat' : Shown) (old new : Side PeerReplay) (index number : ℕ) (o : Op) (reply : Reply) (told : Told)
    → IsThread (P n) → index < 2 ^ 32 → KnowsAt (P n) seat.view old index
    → Drew peer_rules 1 order seat seat' old new (entry_by (P n) index number o reply None) told → KnowsAt (P n) seat'.view new index
drew_at n order seat seat' old new index number o reply told is short w d =
    let k = d.kept in
    let a = w.knows.known in
    let e = side_entered peer_side (P n) seat.view order seat seat' old new
    (entry_by (P n) index number o reply None) told a w.knows.state is refl short (record { last = w.last; allows = refl }) tt d in
    let known' = e.entered.grown.known in
    record {
      knows = record {
        known = known';
        entries = list_more seat.view seat'.view 1 k (entry_by (P n) index number o reply None) old.entries new.entries d.entry d.appends.grows w.knows.entries d.added;
        state = e.after;
      };
      last = subst (λ m. last_line (end_of known'.known.past).control (P n) ≤ m) (ap (λ (z : Entry). z.made.index) d.entry)
          (subst (λ h. last_line (end_of h).control (P n) ≤ k.entry.made.index) (sym e.entered.grown.past_is)
          (let l = last_of_own a.known.past (note_of k.entry e.entered.grown.told) (P n) (ap (λ (z : Entry). z.made.caller) d.entry) is in omega arith));
    }

-- what the caller has made so far, and knows
own_after : (t : Thread) (order : OrderId) (seat seat' : Shown) (old new : Side PeerReplay) (e : Entry) (told : Told) → e.made.caller ≡ t
    → Drew peer_rules 1 order seat seat' old new e told → line_known seat'.view (caller_line t) ≡ line_known seat.view (caller_line t) ++ e ∷ []
own_after t order seat seat' old new e told is d =
    let k = d.kept in
    let caller : k.entry.made.caller ≡ t = ap (λ (z : Entry). z.made.caller) d.entry ∙ is in
    ap line_entries (subst (λ u. known seat'.view (caller_line u) ≡ known seat.view (caller_line u) ++ k ∷ []) caller d.appends.grows.caller)
    ∙ (entries_snoc (known seat.view (caller_line t)) k ∙ ap (λ z. line_known seat.view (caller_line t) ++ z ∷ []) d.entry)

lent_made : (t : Thread) (locked mine lent mine1 : View) → HoldsPass t mine → Lends t locked mine lent mine1 → MakesAll t mine lent []
lent_made t locked mine lent mine1 pass l = record {
  own_more = ap line_entries (l.own (caller_line t) (own_line t) (pass (caller_line t) (own_line t))) ∙ sym (append-nil (line_known mine (caller_line t)));
  more = l.heard;
  above = tt;
}

drew_made : (t : Thread) (order : OrderId) (mine : View) (seat seat' : Shown) (old new : Side PeerReplay) (es : List Entry) (e : Entry) (told : Told)
    → e.made.caller ≡ t → MakesAll t mine seat.view es → Drew peer_rules 1 order seat seat' old new e told → MakesAll t mine seat'.view (es ++ e ∷ [])
drew_made t order mine seat seat' old new es e told is a d = record {
  own_more = own_after t order seat seat' old new e told is d ∙ (ap (λ xs. xs ++ e ∷ []) a.own_more ∙ append_assoc (line_known mine (caller_line t)) es (e ∷ []));
  more = λ i. prefix_trans (known mine i) (known seat.view i) (known seat'.view i) (a.more i) (grows_more seat.view seat'.view 1 d.kept d.appends.grows i);
  above = above_more mine seat.view es e a.more a.above (λ i. subst (λ (z : Entry). IsBelow z.number (known seat.view i)) d.entry (d.appends.number i));
}

back_made : (t : Thread) (mine lent mine1 locked2 mine2 : View) (es : List Entry) → MakesAll t mine lent es → Returns t lent mine1 locked2 mine2 → MakesAll t mine mine2 es
back_made t mine lent mine1 locked2 mine2 es a b = record {
  own_more = ap line_entries (b.same (caller_line t)) ∙ a.own_more;
  more = λ i. subst (IsPrefix (known mine i)) (sym (b.same i)) (a.more i);
  above = a.above;
}

-- after the lines were handed back
record BackAt (t : Thread) (locked2 mine2 : View) (side : Side PeerReplay) (index : ℕ) : Type 0 where
  pub knows : PeerKnows locked2 side
  pub begins : MayBegin t mine2 index

back_at : (n : ℕ) (lent mine1 locked2 mine2 : View) (side : Side PeerReplay) (index : ℕ)
    → KnowsAt (P n) lent side index → Returns (P n) lent mine1 locked2 mine2 → BackAt (P n) locked2 mine2 side index
back_at n lent mine1 locked2 mine2 side index w b = record {
  knows = record {
    known = same_view lent locked2 w.knows.known b.stays;
    entries = ap line_entries (b.stays 1) ∙ w.knows.entries;
    state = w.knows.state;
  };
  begins = record { doing = free; stands = stands_same (P n) lent mine2 index free b.same (record { known = w.knows.known; last = w.last; doing = refl }); done = tt };
}

-- a collect under the lock
pub record CalledCollect {E : Type 0} (t : Thread) (mine locked2 mine2 : View) (side : Side PeerReplay) (index : ℕ) (result : Result Receipt E) : Type 0 where
  pub knows : PeerKnows locked2 side
  pub begins : MayBegin t mine2 index
  pub ok : IfOk result (λ r. Collects t mine mine2 index r)
  pub err : OnErr result (MakesNone t mine mine2)

module _ {E : Type 0} (order : OrderId) (seat seat' : Shown) (old new : Side PeerReplay) (index : ℕ) where
  whole_called : (n : ℕ) (locked mine mine1 locked2 mine2 : View) (r : Receipt) → IsThread (P n) → HoldsPass (P n) mine → index < 2 ^ 32
      → KnowsAt (P n) seat.view old index → Lends (P n) locked mine seat.view mine1 → Returns (P n) seat'.view mine1 locked2 mine2
      → DrawsWhole order seat seat' old new (P n) index r → CalledCollect {E = E} (P n) mine locked2 mine2 new index (Ok r)
  whole_called n locked mine mine1 locked2 mine2 r is pass short w l b d =
      let begun = drew_at n order seat d.between old d.begun index r.first op.Begin (says.Mark d.marking) nothing is short w d.begins in
      let ended = drew_at n order d.between seat' d.begun new index r.last op.Sweep (says.Swept d.marking d.freed) (sweep_of d.gone) is short begun d.ends in
      let first = drew_made (P n) order mine seat d.between old d.begun [] (began_at (P n) index r.first d.marking) nothing refl (lent_made (P n) locked mine seat.view mine1 pass l) d.begins in
      let both = drew_made (P n) order mine d.between seat' d.begun new (began_at (P n) index r.first d.marking ∷ [])
      (swept_at (P n) index r.last d.marking d.freed) (sweep_of d.gone) refl first d.ends in
      let back = back_at n seat'.view mine1 locked2 mine2 new index ended b in
      record {
        knows = back.knows;
        begins = back.begins;
        ok = inl (record { marking = d.marking; freed = d.freed; made = back_made (P n) mine seat'.view mine1 locked2 mine2 _ both b; answer = d.answer });
        err = tt;
      }

  refusal_called : (n : ℕ) (locked mine mine1 locked2 mine2 : View) (r : Receipt) → IsThread (P n) → HoldsPass (P n) mine → index < 2 ^ 32
      → KnowsAt (P n) seat.view old index → Lends (P n) locked mine seat.view mine1 → Returns (P n) seat'.view mine1 locked2 mine2
      → DrawsRefusal order seat seat' old new (P n) index r → CalledCollect {E = E} (P n) mine locked2 mine2 new index (Ok r)
  refusal_called n locked mine mine1 locked2 mine2 r is pass short w l b d =
      let refused = drew_at n order seat seat' old new index r.first op.Begin (says.MarkOpen d.marking) nothing is short w d.drew in
      let one = drew_made (P n) order mine seat seat' old new [] (refused_at (P n) index r.first d.marking) nothing refl (lent_made (P n) locked mine seat.view mine1 pass l) d.drew in
      let back = back_at n seat'.view mine1 locked2 mine2 new index refused b in
      record {
        knows = back.knows;
        begins = back.begins;
        ok = inr (record { marking = d.marking; made = back_made (P n) mine seat'.view mine1 locked2 mine2 _ one b; last = d.last; answer = d.answer });
        err = tt;
      }

  collect_called_by : (n : ℕ) (locked mine mine1 locked2 mine2 : View) (result : Result Receipt E) → IsThread (P n) → HoldsPass (P n) mine
      → Owns locked 1 → index < 2 ^ 32 → PeerKnows locked old → MayBegin (P n) mine index → Lends (P n) locked mine seat.view mine1
      → IfOk result (λ r. DrawsCollect order seat seat' old new (P n) index r) → OnErr result (StaysSeated seat seat' × (new ≡ old))
      → Returns (P n) seat'.view mine1 locked2 mine2 → CalledCollect (P n) mine locked2 mine2 new index result
  collect_called_by n locked mine mine1 locked2 mine2 (Ok r) is pass owns short ks may l d e b =
      let w = lent_at (P n) locked mine seat.view mine1 old index pass owns ks may l in
      ⊎_elim
      (λ (x : DrawsWhole order seat seat' old new (P n) index r). whole_called n locked mine mine1 locked2 mine2 r is pass short w l b x)
      (λ (x : DrawsRefusal order seat seat' old new (P n) index r). refusal_called n locked mine mine1 locked2 mine2 r is pass short w l b x)
      d
  collect_called_by n locked mine mine1 locked2 mine2 (Err x) is pass owns short ks may l d e b =
      let back = returns_seated (P n) seat seat' mine1 locked2 mine2 e.0 b in
      let none = makes_none (P n) locked mine seat.view mine1 locked2 mine2 ks.known pass l back in
      record {
        knows = subst (PeerKnows locked2) (sym e.1) (knows_still peer_side (P n) locked mine seat.view mine1 locked2 mine2 old owns ks may.stands.known l back);
        begins = begins_still (P n) mine mine2 index none may;
        ok = tt;
        err = none;
      }

  pub collect_called : (t : Thread) (locked mine mine1 locked2 mine2 : View) (result : Result Receipt E) → IsPeerThread t
      → HoldsPass t mine → Owns locked 1 → index < 2 ^ 32 → PeerKnows locked old → MayBegin t mine index → Lends t locked mine seat.view mine1
      → IfOk result (λ r. DrawsCollect order seat seat' old new t index r) → OnErr result (StaysSeated seat seat' × (new ≡ old))
      → Returns t seat'.view mine1 locked2 mine2 → CalledCollect t mine locked2 mine2 new index result
  collect_called (M n) locked mine mine1 locked2 mine2 result is pass owns short ks may l d e b = absurd is
  collect_called (P n) locked mine mine1 locked2 mine2 result is pass owns short ks may l d e b = collect_called_by n locked mine mine1 locked2 mine2 result is pass owns short ks may l d e b
  collect_called C locked mine mine1 locked2 mine2 result is pass owns short ks may l d e b = absurd is

-- the seat goes further by it
pub collect_further : {E : Type 0} (order : OrderId) (seat seat' : Shown) (old new : Side PeerReplay) (t : Thread) (index : ℕ) (result : Result Receipt E)
    → IfOk result (λ r. DrawsCollect order seat seat' old new t index r) → OnErr result (StaysSeated seat seat' × (new ≡ old)) → GoesFurther seat seat'
collect_further order seat seat' old new t index (Ok r) (inl d) e = further_then seat d.between seat'
    (goes_further order seat d.between 1 d.begins.kept d.begins.appends) (goes_further order d.between seat' 1 d.ends.kept d.ends.appends)
collect_further order seat seat' old new t index (Ok r) (inr d) e = goes_further order seat seat' 1 d.drew.kept d.drew.appends
collect_further order seat seat' old new t index (Err x) d e = stays_further seat seat' e.0

-- what is reserved stays so: an entry of a thread neither mirrors a cycle nor begins its own marking
keeps_then : (a b c : PeerModel) → KeepsReserve a b → KeepsReserve b c → KeepsReserve a c
keeps_then a b c k l = record {
  waiting = l.waiting ∙ k.waiting;
  room = λ n e. (let y = l.room n e in let x = k.room y.0 y.1 in let p = x.3 in let q = y.3 in (x.0, x.1, x.2 ∙ y.2, omega (arith, p, q)));
  marking = λ q. l.marking (k.marking q);
}

whole_reserves : (n : ℕ) (index : ℕ) (order : OrderId) (locked mine mine1 locked2 mine2 : View) (seat seat' : Shown) (old new : PeerModel) (r : Receipt)
    → PeerKnows locked (seen old) → PeerReserves locked old → Lends (P n) locked mine seat.view mine1
    → DrawsWhole order seat seat' (seen old) (seen new) (P n) index r → new.reserve ≡ old.reserve → Returns (P n) seat'.view mine1 locked2 mine2 → PeerReserves locked2 new
whole_reserves n index order locked mine mine1 locked2 mine2 seat seat' old new r ks rs l d same b =
    let mid : PeerModel = record { threads = d.begun.threads; entries = d.begun.entries; state = d.begun.state; reserve = old.reserve; colours = old.colours } in
    let began = began_at (P n) index r.first d.marking in
    let ended = swept_at (P n) index r.last d.marking d.freed in
    let on = drew_on (P n) locked mine mine1 order seat d.between old mid began nothing l d.begins in
    let all : KnowsOn locked seat'.view = record {
      more = λ i. prefix_trans (known locked i) (known d.between.view i) (known seat'.view i)
          (on.more i) (grows_more d.between.view seat'.view 1 d.ends.kept d.ends.appends.grows i);
      one_history = d.ends.appends.one_history;
    } in
    reserves_on locked locked2 old new ks (back_on (P n) locked seat'.view mine1 locked2 mine2 all b)
    (keeps_then old mid new (quiet_kept order seat d.between old mid began nothing d.begins refl tt (λ due. refl))
    (quiet_kept order d.between seat' mid new ended (sweep_of d.gone) d.ends same tt (λ due. refl))) rs

reserves_by : {E : Type 0} (n : ℕ) (index : ℕ) (order : OrderId) (locked mine mine1 locked2 mine2 : View) (seat seat' : Shown) (old new : PeerModel) (result : Result Receipt E)
    → PeerKnows locked (seen old) → PeerReserves locked old → Lends (P n) locked mine seat.view mine1
    → IfOk result (λ r. DrawsCollect order seat seat' (seen old) (seen new) (P n) index r) → OnErr result (StaysSeated seat seat' × (seen new ≡ seen old))
    → new.reserve ≡ old.reserve → Returns (P n) seat'.view mine1 locked2 mine2 → PeerReserves locked2 new
reserves_by n index order locked mine mine1 locked2 mine2 seat seat' old new (Ok r) ks rs l
    (inl d) e same b = whole_reserves n index order locked mine mine1 locked2 mine2 seat seat' old new r ks rs l d same b
reserves_by n index order locked mine mine1 locked2 mine2 seat seat' old new (Ok r) ks rs l (inr d) e same b =
    let refused = refused_at (P n) index r.first d.marking in
    drew_reserves (P n) locked mine mine1 locked2 mine2 order seat seat' old new refused nothing ks rs l d.drew b (quiet_kept order seat seat' old new refused nothing d.drew same tt (λ due. refl))
reserves_by n index order locked mine mine1 locked2 mine2 seat seat' old new (Err x) ks rs l d e same b =
    reserves_on locked locked2 old new ks (back_on (P n) locked seat'.view mine1 locked2 mine2 (seated_on locked seat seat' e.0 (lent_on (P n) locked mine seat.view mine1 l)) b)
    (nothing_kept old new e.1 same) rs

pub collect_reserves : {E : Type 0} (t : Thread) (index : ℕ) (order : OrderId) (locked mine mine1 locked2 mine2 : View) (seat seat' : Shown) (old new : PeerModel) (result : Result Receipt E)
    → IsPeerThread t → PeerKnows locked (seen old) → PeerReserves locked old → Lends t locked mine seat.view mine1
    → IfOk result (λ r. DrawsCollect order seat seat' (seen old) (seen new) t index r) → OnErr result (StaysSeated seat seat' × (seen new ≡ seen old))
    → new.reserve ≡ old.reserve → Returns t seat'.view mine1 locked2 mine2 → PeerReserves locked2 new
collect_reserves (M n) index order locked mine mine1 locked2 mine2 seat seat' old new result is ks rs l d e same b = absurd is
collect_reserves (P n) index order locked mine mine1 locked2 mine2 seat seat' old new result is ks rs l d e
    same b = reserves_by n index order locked mine mine1 locked2 mine2 seat seat' old new result ks rs l d e same b
collect_reserves C index order locked mine mine1 locked2 mine2 seat seat' old new result is ks rs l d e same b = absurd is

-- the numbers, the entries and the reply are those of the operation
pub collects_run : (t : Thread) (old new : View) (index : ℕ) (r : Receipt) → Collects t old new index r → Runs t old new index act.Collect r
collects_run t old new index r (inl d) = record {
  entries = began_at t index r.first d.marking ∷ swept_at t index r.last d.marking d.freed ∷ [];
  made = d.made;
  operation = record {
    answered = says.Mark d.marking;
    rest = swept_at t index r.last d.marking d.freed ∷ [];
    all = refl;
    ends = inr (inl (record { second = op.Sweep; reply = says.Swept d.marking d.freed; follows = refl; no_third = refl; one_more = refl; answer = d.answer }));
  };
}
collects_run t old new index r (inr d) = record {
  entries = refused_at t index r.first d.marking ∷ [];
  made = d.made;
  operation = record { answered = says.MarkOpen d.marking; rest = []; all = refl; ends = inl (record { no_second = refl; nothing_more = refl; last = d.last; answer = d.answer }) };
}

pub all_run : {E : Type 0} (t : Thread) (old new : View) (index : ℕ) (result : Result Receipt E) → IfOk result (λ r. Collects t old new index r) → IfOk result (λ r. Runs t old new index act.Collect r)
all_run t old new index (Ok r) w = collects_run t old new index r w
all_run t old new index (Err x) w = tt

pub none_made : {A E : Type 0} (t : Thread) (old new : View) (result : Result A E) → OnErr result (MakesNone t old new) → OnErr result (MakesAll t old new [])
none_made t old new (Ok x) w = tt
none_made t old new (Err x) w = makes_nothing t old new w
