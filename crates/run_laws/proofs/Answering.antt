-- A read whose answer is exact by the managed list that its caller knows is right by the entries of that list: what the
-- caller knows is a past, whose state has the cycle open that the entries leave open, and no target in a cell that none
-- of them set. And of what it knows of any caller's line, the managed entries stand in the managed list.
use Rattle.std.proofs.Common.{◌≡◌, inl, inr, ⊎_elim, ℕ, ◌==◌, Bool, true, false, List, [], ◌∷◌, Option, Some, None, refl, sym, ap, ◌∙◌, subst, true≢false, eq-eqb}
use Rattle.std.specs.Prelude.{Contains, if◌then◌else◌, nat_eq}
use Rattle.std.proofs.lemmas.List.{append-nil}
use Rattle.std.proofs.lemmas.List.Elements.{Contains-append_left}
use Rattle.joint_machine.specs.declared.names.Thread.{Thread}
use Rattle.joint_machine.specs.declared.names.Thread.TheVariants.{M, P, C}
use Rattle.joint_machine.specs.declared.lines.Act.{Act}
use Rattle.joint_machine.specs.declared.lines.Act.TheVariants as act
use Rattle.joint_machine.specs.declared.events.Op.{Op}
use Rattle.joint_machine.specs.declared.events.Op.TheVariants as op
use Rattle.joint_machine.specs.declared.events.Reply.{Reply}
use Rattle.joint_machine.specs.declared.events.Reply.TheVariants as says
use Rattle.joint_machine.specs.declared.events.Entry.{Entry}
use Rattle.joint_machine.specs.Heaps.{is_freed, place, slot}
use Rattle.joint_machine.specs.HistoryLines.{caller_line, stands_in, list_line}
use Rattle.joint_machine.specs.Lines.{IsEvent, IsLine, is_peer_event, is_read}
use Rattle.joint_machine.specs.Linked.{SideLawful}
use Rattle.joint_machine.specs.Managed.{Managed}
use Rattle.joint_machine.specs.ManagedReplay.{ManagedReplay, managed_answer}
use Rattle.joint_machine.specs.Readers.{ReadsCell, SetsCell}
use Rattle.joint_machine.specs.Run.{thread_number}
use Rattle.joint_machine.specs.Sides.{cell_target, managed_rules, object_or_none, peer_rules}
use Rattle.joint_machine.specs.Told.{Told, Noted}
use Rattle.joint_machine.specs.PinsTold.{bare_told, pins_told, with_pins}
use Rattle.joint_machine.proofs.Deciding.{none_some}
use Rattle.joint_machine.proofs.Members.{Contains-cons_cases, Contains-here, Contains-nil, Contains-there}
use Rattle.joint_laws.proofs.KeptPins.{weak_by}
use Rattle.known_laws.specs.Drawn.{aimed, aims_at, drawn, drawn_by, open_after, open_in, sets, sets_by, target_in}
use Rattle.known_laws.specs.Held.{answers_by, gone, object, open_number, word_by}
use Rattle.known_laws.specs.Known.{given}
use Rattle.known_laws.specs.Pasts.{Lawful, end_of, is_in, line}
use Rattle.known_laws.specs.PastEntries.{InPast, entries}
use Rattle.known_laws.proofs.CellsDrawn.{targets_are_drawn}
use Rattle.known_laws.proofs.Coming.{event_of, side_of}
use Rattle.known_laws.proofs.Growing.{entries_append}
use Rattle.known_laws.proofs.Held.{cycles_are_drawn, reads_are_exact}
use Rattle.known_laws.proofs.PastLines.{in-line, line-in, line_in, line_out}
use Rattle.order_table.specs.declared.views.KeptEntry.{KeptEntry}
use Rattle.order_table.specs.declared.views.View.{View}
use Rattle.order_table.specs.Owed.{pin}
use Rattle.order_table.specs.Replies.{object_of}
use Rattle.order_table.specs.Views.{known}
use Rattle.weak_wait.specs.declared.reads.Got.{Got}
use Rattle.weak_wait.specs.Reads.{IsExact, IsRead, cell_of, reply_of}
use Rattle.view_laws.specs.Knowing.{IsDrawnView}
use Rattle.view_laws.proofs.ExactReads.{exact_reads_are_replies}
use Rattle.joint_history.specs.declared.callers.Receipt.{Receipt}
use Rattle.joint_history.specs.Knowing.{line_known}
use Rattle.joint_history.specs.Operations.{EndsWithFirst, EndsWithSecond, EndsWithThird, IsOperation, cited_by, entry_by, first_of, second_of, third_of}
use Rattle.joint_history.proofs.KnownViews.{entries_begin, line_of_past}
use Rattle.script_laws.specs.Asides.{open_among, HasSet, IsAsideBy}
use Rattle.script_laws.proofs.Asides.{open-more, stands-by}
use Rattle.run_laws.specs.Lines.{OperationsAreAnswered}

-- members of a past's line
in-past : (ns : List Noted) (f : Entry) → Contains (entries ns) f → (x : Noted) × InPast ns x × (x.entry ≡ f)
in-past [] f c = absurd (Contains-nil f c)
in-past (n ∷ ns) f c = ⊎_elim (λ (e : n.entry ≡ f). (n, inl refl, e)) (λ d. let w = in-past ns f d in (w.0, inr w.1, w.2)) (Contains-cons_cases n.entry (entries ns) f c)

in-entries : (ns : List Noted) (x : Noted) → InPast ns x → Contains (entries ns) x.entry
in-entries [] x p = absurd p
in-entries (n ∷ ns) x p = ⊎_elim (λ (e : n ≡ x). subst (λ (z : Noted). Contains (entries (n ∷ ns)) z.entry) e (Contains-here n.entry (entries ns)))
    (λ q. Contains-there x.entry n.entry (entries ns) (in-entries ns x q)) p

-- what is known of any line stands in the managed list, if it belongs there
pub known-in-list : (v : View) (a : IsDrawnView v) (i : ℕ) (f : Entry) → Contains (line_known v i) f → stands_in 0 f ≡ true → Contains (line_known v 0) f
known-in-list v a i f c is =
    let h = a.known.past in
    let w = in-past (line i h) f (subst (λ l. Contains l f) (line_of_past v a i) c) in
    let there = line-in 0 h w.0 (in-line i h w.0 w.1) (ap (stands_in 0) w.2 ∙ is) in
    subst (λ l. Contains l f) (sym (line_of_past v a 0)) (subst (Contains (entries (line 0 h))) w.2 (in-entries (line 0 h) w.0 there))

-- an entry of another list does nothing to the cycles
else-open : (t : Thread) (o : Op) → (0 == list_line t o) ≡ false → (z : Option ℕ) → open_after o z ≡ z
else-open t (op.Snap k) e z = absurd (true≢false e)
else-open t (op.Resolve k) e z = absurd (true≢false e)
else-open t (op.Abandon k) e z = absurd (true≢false e)
else-open t _ e z = refl

open-line : (h : List Noted) → open_among (entries (line 0 h)) ≡ open_in h
open-line [] = refl
open-line (x ∷ h) = by (is_in 0 x) refl (open-line h)
  where
    by : (b : Bool) → is_in 0 x ≡ b → open_among (entries (line 0 h)) ≡ open_in h → open_among (entries (line 0 (x ∷ h))) ≡ open_after x.entry.made.op (open_in h)
    by true e r = ap (λ l. open_among (entries l)) (line_in 0 x h e)
        ∙ (ap open_among (entries_append (line 0 h) (x ∷ [])) ∙ (open-more None (entries (line 0 h)) x.entry ∙ ap (open_after x.entry.made.op) r))
    by false e r = ap (λ l. open_among (entries l)) (line_out 0 x h e) ∙ (r ∙ sym (else-open x.entry.made.caller x.entry.made.op (sym (stands-by x.entry) ∙ e) (open_in h)))

-- an entry that set a cell was drawn with its target
set-by : (s : ManagedReplay) (pins : List (Option ℕ)) (t : Thread) (o : Op) (r : Reply) (told : Told) (c : ℕ)
    → r ≡ (managed_answer (with_pins s pins) t o told).reply → SetsCell o c → r ≡ says.Ok → (m : ℕ) × (sets_by o (cell_target s t o r) ≡ Some (c, m))
set-by s pins t (op.Line (act.Weak k v)) r told c a q ok = by (slot s.managed.heap.vars u) refl
  where
    u : ℕ
    u = place (thread_number t) v.0

    by : (z : Option ℕ) → slot s.managed.heap.vars u ≡ z → (m : ℕ) × (sets_by (op.Line (act.Weak k v)) (cell_target s t (op.Line (act.Weak k v)) r) ≡ Some (c, m))
    by None e = absurd (let w : says.Ok ≡ says.Empty = sym ok ∙ (a ∙ ap (λ z. (weak_by (with_pins s pins).managed k.0 z).reply) e) in cc)
    by (Some m) e = (m, ap (λ z. sets_by (op.Line (act.Weak k v)) (cell_target s t (op.Line (act.Weak k v)) z)) ok ∙ (ap (λ z. aimed k.0 (object_or_none z)) e ∙ ap (λ z. Some (z, m)) q))
set-by s pins t o r told c a q ok = absurd q

peer-sets-none : (t : Thread) (o : Op) (c : ℕ) → IsEvent t o → is_peer_event t o ≡ true → SetsCell o c → ⊥
peer-sets-none (P n) (op.Line (act.Weak k v)) c e p q = e.0.1
peer-sets-none (M n) (op.Line (act.Weak k v)) c e p q = true≢false (sym p)
peer-sets-none C (op.Line (act.Weak k v)) c e p q = true≢false (sym p)
peer-sets-none t o c e p q = absurd q

sets-no-read : (o : Op) (c : ℕ) → SetsCell o c → is_read o ≡ false
sets-no-read (op.Line (act.Weak k v)) c q = refl
sets-no-read o c q = absurd q

set-drawn : (x : Noted) (h : List Noted) → Lawful (x ∷ h) → (c : ℕ) → HasSet c x.entry → (m : ℕ) × (sets (drawn (end_of h) x) ≡ Some (c, m))
set-drawn x h l c q = by (is_peer_event x.entry.made.caller x.entry.made.op) refl (side_of x h l (sets-no-read x.entry.made.op c q.0)).comes.lawful
  where
    by : (b : Bool) → is_peer_event x.entry.made.caller x.entry.made.op ≡ b → SideLawful b (given (end_of h) x.told) x.entry.made (bare_told x.told)
        → (m : ℕ) × (sets (if b then drawn_by peer_rules (end_of h).peer x else drawn_by managed_rules (end_of h).managed x) ≡ Some (c, m))
    by true p w = absurd (peer-sets-none x.entry.made.caller x.entry.made.op c (event_of x h l) p q.0)
    by false p w = set-by (end_of h).managed (pins_told x.told) x.entry.made.caller x.entry.made.op x.entry.made.reply (bare_told x.told) c w.replies q.0 q.1

aims-none : (c : ℕ) (t : Option ℕ) (p : Option (ℕ × ℕ)) → aims_at c t p ≡ None → (t ≡ None) × ((m : ℕ) → p ≡ Some (c, m) → ⊥)
aims-none c t None e = (e, λ m q. none_some (c, m) q)
aims-none c t (Some p) e = by (nat_eq p.0 c) refl e
  where
    same : (m : ℕ) → Some p ≡ Some (c, m) → p.0 ≡ c
    same m q = ap (λ (z : Option (ℕ × ℕ)). elim z [ None ↦ p.0 | Some w ↦ w.0 ]) q

    by : (b : Bool) → nat_eq p.0 c ≡ b → (if b then Some p.1 else t) ≡ None → (t ≡ None) × ((m : ℕ) → Some p ≡ Some (c, m) → ⊥)
    by true f d = absurd (none_some p.1 (sym d))
    by false f d = (d, λ m q. true≢false (sym (eq-eqb p.0 c (same m q)) ∙ f))

unset-past : (c : ℕ) (h : List Noted) → Lawful h → target_in c h ≡ None → (x : Noted) → InPast h x → HasSet c x.entry → ⊥
unset-past c [] l e x p q = absurd p
unset-past c (y ∷ h) l e x p q =
    let w = aims-none c (target_in c h) (sets (drawn (end_of h) y)) e in
    ⊎_elim
    (λ (s : y ≡ x). let d = set-drawn y h l c (subst (λ (z : Noted). HasSet c z.entry) (sym s) q) in w.1 d.0 d.1)
    (λ r. unset-past c h l.1 w.0 x r q)
    p

-- so a read that is exact is right by the entries
aside-of : (ml : List Entry) (c : ℕ) (s : Managed) (p o z : Option ℕ) → open_among ml ≡ o → (z ≡ None → (e : Entry) → Contains ml e → HasSet c e → ⊥) → IsAsideBy ml c (answers_by p o (word_by s z))
aside-of ml c s (Some m) o z e n = tt
aside-of ml c s None (Some k) z e n = e
aside-of ml c s None None None e n = (e, n refl)
aside-of ml c s None None (Some m) e n = by (is_freed s.heap m)
  where
    by : (b : Bool) → IsAsideBy ml c (answers_by None None (if b then gone else object m))
    by true = tt
    by false = tt

exact-aside : (v : View) (a : IsDrawnView v) (own : List KeptEntry) (c : ℕ) (g : Got) → IsExact (known v 0) own c g → IsAsideBy (line_known v 0) c (reply_of g)
exact-aside v a own c g x = subst (IsAsideBy (line_known v 0) c) (sym reply) (aside-of (line_known v 0) c s (object_of (pin own)) (open_number s.cycle) (slot s.cells c) opened unset)
  where
    h : List Noted
    h = a.known.past

    s : Managed
    s = (end_of h).managed.managed

    mine : Managed
    mine = record s { pins = object_of (pin own) ∷ [] }

    reply : reply_of g ≡ answers_by (object_of (pin own)) (open_number s.cycle) (word_by s (slot s.cells c))
    reply = exact_reads_are_replies v a own 0 c g (object_of (pin own) ∷ []) refl x ∙ sym (reads_are_exact mine 0 c)

    opened : open_among (line_known v 0) ≡ open_number s.cycle
    opened = ap open_among (line_of_past v a 0) ∙ (open-line h ∙ sym (cycles_are_drawn h a.known.lawful))

    unset : slot s.cells c ≡ None → (e : Entry) → Contains (line_known v 0) e → HasSet c e → ⊥
    unset n e d q =
        let w = in-past (line 0 h) e (subst (λ l. Contains l e) (line_of_past v a 0) d) in
        unset-past c h a.known.lawful (sym (targets_are_drawn h a.known.lawful c) ∙ n) w.0 (in-line 0 h w.0 w.1) (subst (HasSet c) (sym w.2) q)

-- a read has no second event, and no later event of an operation is a read
abbrev maybe-read : Option Op → Bool
maybe-read None = false
maybe-read (Some o) = is_read o

second-none : (a : Act) (r : Reply) → maybe-read (second_of a r) ≡ false
second-none (act.Bridge v kind n sort f) (says.Made p h) = refl
second-none (act.Pass v x) (says.H h) = refl
second-none (act.Surface v x) (says.Gripped p h sort f) = refl
second-none (act.Dispose v) (says.H h) = refl
second-none act.Collect (says.Mark j) = refl
second-none a r = refl

third-none : (o : Op) (r : Reply) → maybe-read (third_of o r) ≡ false
third-none (op.Meet v sort f p h) (says.New m) = refl
third-none (op.Meet v sort f p h) r = refl
third-none o r = refl

first-alone : (a : Act) (r : Reply) → is_read (first_of a) ≡ true → second_of a r ≡ None
first-alone (act.Read k) r e = refl
first-alone (act.Await k) r e = refl
first-alone a r e = absurd (true≢false (sym e))

first-read : (n : ℕ) (a : Act) → IsLine (M n) a → is_read (first_of a) ≡ true → IsRead a × ((k : ℕ) → ReadsCell (first_of a) k → cell_of a ≡ k)
first-read n (act.Read k) l e = (l.1, λ c q. q)
first-read n (act.Await k) l e = (l.1, λ c q. q)
first-read n a l e = absurd (true≢false (sym e))

-- of an operation's entries a read is the only one, and answers what the call answers
pub record IsLone (t : Thread) (index : ℕ) (a : Act) (es : List Entry) (r : Receipt) (e : Entry) : Type 0 where
  pub alone : es ≡ e ∷ []
  pub read : is_read (first_of a) ≡ true
  pub first : e.made.op ≡ first_of a
  pub reply : e.made.reply ≡ r.reply

module _ (t : Thread) (index : ℕ) (a : Act) (es : List Entry) (r : Receipt) (o : IsOperation t index a es r) (e : Entry) (is : is_read e.made.op ≡ true) where
  abbrev opening : Entry
  opening = entry_by t index r.first (first_of a) o.answered None

  abbrev Lone : Type 0
  Lone = IsLone t index a es r e

  -- no later event is a read
  not-second : (second : Op) (z : Option Op) → maybe-read z ≡ false → z ≡ Some second → is_read second ≡ true → ⊥
  not-second second z n f g = true≢false (sym (ap maybe-read f ∙ g) ∙ n)

  lone-first : opening ≡ e → EndsWithFirst a o.answered o.rest r → Lone
  lone-first q k = record {
    alone = o.all ∙ ((λ i. q i ∷ k.nothing_more i));
    read = ap (λ (z : Entry). is_read z.made.op) q ∙ is;
    first = ap (λ (z : Entry). z.made.op) (sym q);
    reply = ap (λ (z : Entry). z.made.reply) (sym q) ∙ sym k.answer;
  }

  by-first : Contains es e → EndsWithFirst a o.answered o.rest r → Lone
  by-first c k = ⊎_elim (λ q. lone-first q k) (λ d. absurd (Contains-nil e (subst (λ l. Contains l e) k.nothing_more d))) (Contains-cons_cases opening o.rest e (subst (λ l. Contains l e) o.all c))

  more : opening ≡ e → (second : Op) → second_of a o.answered ≡ Some second → Lone
  more q second f = absurd (none_some second (sym (first-alone a o.answered (ap (λ (z : Entry). is_read z.made.op) q ∙ is)) ∙ f))

  by-second : Contains es e → EndsWithSecond t index a o.answered o.rest r → Lone
  by-second c k = ⊎_elim
      (λ q. more q k.second k.follows)
      (λ d. ⊎_elim
      (λ q. absurd (not-second k.second (second_of a o.answered) (second-none a o.answered) k.follows (ap (λ (z : Entry). is_read z.made.op) q ∙ is)))
      (λ n. absurd (Contains-nil e n))
      (Contains-cons_cases (entry_by t index r.last k.second k.reply (cited_by k.second r.first)) [] e (subst (λ l. Contains l e) k.one_more d)))
      (Contains-cons_cases opening o.rest e (subst (λ l. Contains l e) o.all c))

  by-third : Contains es e → EndsWithThird t index a o.answered o.rest r → Lone
  by-third c k = ⊎_elim
      (λ q. more q k.second k.follows)
      (λ d. ⊎_elim
      (λ q. absurd (not-second k.second (second_of a o.answered) (second-none a o.answered) k.follows (ap (λ (z : Entry). is_read z.made.op) q ∙ is)))
      (λ d'. ⊎_elim
      (λ q. absurd (not-second k.third (third_of k.second k.reply) (third-none k.second k.reply) k.then_follows (ap (λ (z : Entry). is_read z.made.op) q ∙ is)))
      (λ n. absurd (Contains-nil e n))
      (Contains-cons_cases (entry_by t index r.last k.third k.released (Some k.number)) [] e d'))
      (Contains-cons_cases (entry_by t index k.number k.second k.reply (Some r.first)) (entry_by t index r.last k.third k.released (Some k.number) ∷ []) e (subst (λ l. Contains l e) k.two_more d)))
      (Contains-cons_cases opening o.rest e (subst (λ l. Contains l e) o.all c))

  pub lone : Contains es e → IsLone t index a es r e
  lone c = ⊎_elim (by-first c) (λ z. ⊎_elim (by-second c) (by-third c) z) o.ends

pub operations_are_answered : OperationsAreAnswered
operations_are_answered (M n) index a es r old new before after own o makes exact is e c read =
    let w = lone (M n) index a es r o e read c in
    let f = first-read n a own w.read in
    let x = exact f.0 in
    record {
      alone = w.alone;
      list = line_known new 0;
      begins = ([], append-nil (line_known new 0));
      has = λ g d st. (let p = entries_begin (known old 0) (known new 0) (makes.more 0) in
          subst (λ l. Contains l g) p.1 (Contains-append_left (line_known old 0) p.0 g (known-in-list old before (caller_line g.made.caller) g d st)));
      exact = λ k q. subst (λ z. IsAsideBy (line_known new 0) k z) (sym (w.reply ∙ x.answer))
          (subst (λ z. IsAsideBy (line_known new 0) z (reply_of x.got)) (f.1 k (subst (λ z. ReadsCell z k) w.first q))
          (exact-aside new after (known old (caller_line (M n))) (cell_of a) x.got x.exact));
    }
operations_are_answered (P n) index a es r old new before after own o makes exact is e c read = absurd is
operations_are_answered C index a es r old new before after own o makes exact is e c read = absurd is
