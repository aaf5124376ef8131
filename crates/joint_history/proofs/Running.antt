-- An operation's events, one after another: which may be made, by which side, and what the caller has made and knows at
-- each end.
use Rattle.std.proofs.Common.{◌≡◌, inl, inr, ⊎_elim, ℕ, ◌≤◌, List, [], ◌∷◌, ◌++◌, Option, Some, None, true, false, refl, sym, ap, ◌∙◌, subst, append_assoc, append-nil, arith}
use Rattle.std.specs.Prelude.{Result, Ok, Err, OnErr}
use mathlib.Core.List.{IsPrefix}
use base.Growing.{prefix_trans}
use Rattle.joint_machine.specs.declared.names.Thread.{Thread}
use Rattle.joint_machine.specs.declared.names.Thread.TheVariants.{M, P, C}
use Rattle.joint_machine.specs.declared.names.Var.{Var}
use Rattle.joint_machine.specs.declared.names.Sort.{Sort}
use Rattle.joint_machine.specs.declared.names.PNum.{PNum}
use Rattle.joint_machine.specs.declared.names.HNum.{HNum}
use Rattle.joint_machine.specs.declared.names.StaticNo.{StaticNo}
use Rattle.joint_machine.specs.declared.lines.Act.{Act}
use Rattle.joint_machine.specs.declared.lines.Act.TheVariants as act
use Rattle.joint_machine.specs.declared.events.Entry.{Entry}
use Rattle.joint_machine.specs.declared.events.Op.{Op}
use Rattle.joint_machine.specs.declared.events.Op.TheVariants as op
use Rattle.joint_machine.specs.declared.events.Reply.{Reply}
use Rattle.joint_machine.specs.declared.events.Reply.TheVariants as says
use Rattle.joint_machine.specs.Control.{IsDone, met, doing_after}
use Rattle.joint_machine.specs.Draws.{numbered}
use Rattle.joint_machine.specs.HistoryLines.{caller_line}
use Rattle.joint_machine.specs.Lines.{IsLine, IsManagedThread, IsPeerThread, IsThread, is_peer_event}
use Rattle.joint_machine.proofs.Deciding.{none_some, some-same}
use Rattle.known_laws.specs.Turns.{OpensOperation}
use Rattle.known_laws.proofs.Citing.{thread-none}
use Rattle.order_table.specs.declared.views.View.{View}
use Rattle.order_table.specs.Rule.{IsBelow}
use Rattle.order_table.specs.Views.{known}
use Rattle.order_table.proofs.Lines.{below_begins}
use Rattle.peer_heap.specs.Steps.{IsRelease}
use Rattle.joint_history.specs.Callers.{CallerKnows, KeepsReads, last_index}
use Rattle.joint_history.specs.Knowing.{line_known}
use Rattle.joint_history.specs.Locked.{Makes, MakesNone, MayMake, doing_from, made_by}
use Rattle.joint_history.specs.Operations.{AreAbove, StopsWithoutMemory, IsEventLine, IsMadeByEvents, IsOwnThread, IsSideEvent, MakesAll, MayBegin, ReadsExactly, Runs, answer_of}
use Rattle.joint_history.specs.Operations.{cited_by, entry_by, first_of, second_of, third_of}
use Rattle.joint_history.proofs.LastLines.{last_line_is}
use Rattle.joint_history.proofs.Narrow.{GripsFew, past_grips_few}
use Rattle.joint_history.proofs.Turning.{first_may, met_then_release, stands_knows, then_adopt, then_land, then_meet, then_release}

-- what an event leaves by its result
pub none_from : {A : Type 0} (o : Option A) → ((x : A) → o ≡ Some x → ⊥) → o ≡ None
none_from None w = refl
none_from (Some x) w = absurd (w x refl)

-- what a caller makes in turn
pub makes_first : (t : Thread) (old new : View) (e : Entry) → Makes t old new e → MakesAll t old new (e ∷ [])
makes_first t old new e m = record { own_more = m.own; more = m.more; above = (m.above, tt) }

pub above_more : (v w : View) (es : List Entry) (e : Entry) → ((i : ℕ) → IsPrefix (known v i) (known w i)) → AreAbove v es → ((i : ℕ) → IsBelow e.number (known w i)) → AreAbove v (es ++ e ∷ [])
above_more v w [] e more a b = (λ i. below_begins e.number (known v i) (known w i) (more i) (b i), tt)
above_more v w (x ∷ es) e more a b = (a.0, above_more v w es e more a.1 b)

pub makes_next : (t : Thread) (old mid new : View) (es : List Entry) (e : Entry) → MakesAll t old mid es → Makes t mid new e → MakesAll t old new (es ++ e ∷ [])
makes_next t old mid new es e a m = record {
  own_more = m.own ∙ (ap (λ xs. xs ++ e ∷ []) a.own_more ∙ append_assoc (line_known old (caller_line t)) es (e ∷ []));
  more = λ i. prefix_trans (known old i) (known mid i) (known new i) (a.more i) (m.more i);
  above = above_more old mid es e a.more a.above m.above;
}

pub makes_nothing : (t : Thread) (old new : View) → MakesNone t old new → MakesAll t old new []
makes_nothing t old new m = record { own_more = m.own ∙ sym (append-nil (line_known old (caller_line t))); more = m.more; above = tt }

pub makes_no_more : (t : Thread) (old mid new : View) (es : List Entry) → MakesAll t old mid es → MakesNone t mid new → MakesAll t old new es
makes_no_more t old mid new es a m = record {
  own_more = m.own ∙ a.own_more;
  more = λ i. prefix_trans (known old i) (known mid i) (known new i) (a.more i) (m.more i);
  above = a.above;
}

-- the first event
first_is_first : (a : Act) → OpensOperation (first_of a)
first_is_first (act.Bridge v kind n sort f) = tt
first_is_first (act.Pass v x) = tt
first_is_first (act.Surface v x) = tt
first_is_first (act.Dispose v) = tt
first_is_first a = tt

pub first_comes : (t : Thread) (v : View) (index : ℕ) (a : Act) → IsOwnThread t → MayBegin t v index → MayMake t v index (first_of a) None
first_comes t v index a is b = first_may t v index (first_of a) is b (first_is_first a)

never_peer : (A : Type 0) → false ≡ true → A
never_peer A e = absurd (cc)

never_managed : (A : Type 0) → true ≡ false → A
never_managed A e = absurd (cc)

managed_first : (n : ℕ) (a : Act) → IsLine (M n) a → IsSideEvent (M n) (first_of a)
managed_first n (act.Bridge v kind k sort f) is = record { peer = λ z. (is.0, is.1.2); managed = λ z. never_managed _ z }
managed_first n (act.Pass v x) is = record { peer = λ z. never_peer _ z; managed = λ z. ((is.0, is.1.0, is.1.1), is.0) }
managed_first n (act.Surface v x) is = record { peer = λ z. (is.0, is.1.1); managed = λ z. never_managed _ z }
managed_first n (act.Dispose v) is = record { peer = λ z. never_peer _ z; managed = λ z. ((is.0, is.1), is.0) }
managed_first n (act.Take v) is = record { peer = λ z. never_peer _ z; managed = λ z. (is.0, is.1, refl) }
managed_first n (act.Weak k v) is = record { peer = λ z. never_peer _ z; managed = λ z. (is.0, is.1.0, is.1.1, refl) }
managed_first n (act.Read k) is = record { peer = λ z. never_peer _ z; managed = λ z. (is.0, is.1, refl) }
managed_first n (act.Await k) is = record { peer = λ z. never_peer _ z; managed = λ z. (is.0, is.1, refl) }
managed_first n (act.NewPeer v k) is = absurd is.1
managed_first n (act.Global g v) is = absurd is.1
managed_first n (act.WGlobal g v) is = absurd is.1
managed_first n (act.UnGlobal g) is = absurd is.1
managed_first n (act.WRead v g) is = absurd is.1
managed_first n act.Collect is = absurd is.1
managed_first n act.BeginMark is = absurd is.1
managed_first n (act.Slice k) is = absurd is.1
managed_first n act.SweepMark is = absurd is.1
managed_first n (act.PhaseLine w) is = absurd is.1
managed_first n (act.Finalise k) is = absurd is.1
managed_first n a is = record { peer = λ z. never_peer _ z; managed = λ z. ((is, tt), (is.0, tt)) }

peer_first : (n : ℕ) (a : Act) → IsLine (P n) a → IsEventLine a → IsSideEvent (P n) (first_of a)
peer_first n (act.NewPeer v k) is b = record { peer = λ z. (is.0, is.1, tt); managed = λ z. never_managed _ z }
peer_first n (act.Copy v w) is b = record { peer = λ z. (is.0, is.1, tt); managed = λ z. never_managed _ z }
peer_first n (act.Set v i w) is b = record { peer = λ z. (is.0, is.1, tt); managed = λ z. never_managed _ z }
peer_first n (act.Get v w i) is b = record { peer = λ z. (is.0, is.1, tt); managed = λ z. never_managed _ z }
peer_first n (act.Drop v) is b = record { peer = λ z. (is.0, is.1, tt); managed = λ z. never_managed _ z }
peer_first n (act.Load v x) is b = record { peer = λ z. (is.0, is.1, tt); managed = λ z. never_managed _ z }
peer_first n (act.Store x v) is b = record { peer = λ z. (is.0, is.1, tt); managed = λ z. never_managed _ z }
peer_first n (act.Global g v) is b = record { peer = λ z. (is.0, is.1, tt); managed = λ z. never_managed _ z }
peer_first n (act.WGlobal g v) is b = record { peer = λ z. (is.0, is.1, tt); managed = λ z. never_managed _ z }
peer_first n (act.UnGlobal g) is b = record { peer = λ z. (is.0, is.1, tt); managed = λ z. never_managed _ z }
peer_first n (act.WRead v g) is b = record { peer = λ z. (is.0, is.1, tt); managed = λ z. never_managed _ z }
peer_first n act.BeginMark is b = record { peer = λ z. is.0; managed = λ z. never_managed _ z }
peer_first n (act.Slice k) is b = record { peer = λ z. (is.0, is.1); managed = λ z. never_managed _ z }
peer_first n act.SweepMark is b = record { peer = λ z. is.0; managed = λ z. never_managed _ z }
peer_first n act.Collect is b = absurd b
peer_first n a is b = absurd is.1

pub first_is_made : (t : Thread) (a : Act) → IsMadeByEvents t a → IsSideEvent t (first_of a)
first_is_made (M n) a is = managed_first n a is
first_is_made (P n) a is = peer_first n a is.0 is.1
first_is_made C a is = absurd is

-- after an entry of a grip the peer has few fields
grip_is_narrow : (n : ℕ) (old new : View) (k index : ℕ) (x : StaticNo) (p : PNum) (h : HNum) (sort : Sort) (f : ℕ) (cites : Option ℕ)
    → Makes (M n) old new (numbered k (made_by (M n) index (op.Grip x) (says.Gripped p h sort f) cites)) → f ≤ 16
grip_is_narrow n old new k index x p h sort f cites m = subst GripsFew m.stands.doing (past_grips_few m.stands.known.known.past m.stands.known.known.lawful n)

-- the second event follows the first, and is one that a side makes
pub record Follows (t : Thread) (v : View) (index n : ℕ) (o : Op) : Type 0 where
  pub may : MayMake t v index o (Some n)
  pub made : IsSideEvent t o

second_follows : (n : ℕ) (old new : View) (k index : ℕ) (a : Act) (answered : Reply) (o : Op) → IsLine (M n) a
    → Makes (M n) old new (entry_by (M n) index k (first_of a) answered None) → second_of a answered ≡ Some o → Follows (M n) new index k o
second_follows n old new k index (act.Bridge v kind b sort f) (says.Made p h) o is m e = subst (Follows (M n) new index k) (some-same (op.Adopt v kind b p h) o e) (record {
  may = then_adopt n old new k index sort f p h None v kind b m is;
  made = record { peer = λ z. never_peer _ z; managed = λ z. ((is.0, is.1.0, (sort, is.1.1)), is.0) };
})
second_follows n old new k index (act.Pass v x) (says.H h) o is m e = subst (Follows (M n) new index k) (some-same (op.Land h x) o e) (record {
  may = then_land n old new k index v x h None m;
  made = record { peer = λ z. (is.0, is.1.1); managed = λ z. never_managed _ z };
})
second_follows n old new k index (act.Surface v x) (says.Gripped p h sort f) o is m e = subst (Follows (M n) new index k) (some-same (op.Meet v sort f p h) o e) (record {
  may = then_meet n old new k index x p h sort f None v m;
  made = record { peer = λ z. never_peer _ z; managed = λ z. ((is.0, is.1.0, grip_is_narrow n old new k index x p h sort f None m), is.0) };
})
second_follows n old new k index (act.Dispose v) (says.H h) o is m e = subst (Follows (M n) new index k) (some-same (op.Release h) o e) (record {
  may = then_release n old new k index v h None m;
  made = record { peer = λ z. is.0; managed = λ z. never_managed _ z };
})
second_follows n old new k index act.Collect answered o is m e = absurd is.1
second_follows n old new k index a answered o is m e = absurd (none_some o e)

-- a peer thread's line of one event has no second one
peers_have_none : (n : ℕ) (a : Act) (answered : Reply) (o : Op) → IsLine (P n) a → IsEventLine a → second_of a answered ≡ Some o → ⊥
peers_have_none n (act.Bridge v kind b sort f) answered o is one e = is.1
peers_have_none n (act.Pass v x) answered o is one e = is.1
peers_have_none n (act.Surface v x) answered o is one e = is.1
peers_have_none n (act.Dispose v) answered o is one e = is.1
peers_have_none n act.Collect answered o is one e = one
peers_have_none n a answered o is one e = none_some o e

pub second_comes : (t : Thread) (old new : View) (k index : ℕ) (a : Act) (answered : Reply) (o : Op) → IsMadeByEvents t a
    → Makes t old new (entry_by t index k (first_of a) answered None) → second_of a answered ≡ Some o → Follows t new index k o
second_comes (M n) old new k index a answered o is m e = second_follows n old new k index a answered o is m e
second_comes (P n) old new k index a answered o is m e = absurd (peers_have_none n a answered o is.0 is.1 e)
second_comes C old new k index a answered o is m e = absurd is

-- only a meet has a third event after it
met_by : (v : Var) (p : PNum) (h : HNum) (sort : Sort) (f : ℕ) (reply : Reply) (third : Op) → third_of (op.Meet v sort f p h) reply ≡ Some third
    → (op.Release h ≡ third) × ((k index : ℕ) → doing_after k index (op.Meet v sort f p h) reply ≡ met k index h.0)
met_by v p h sort f (says.New m) third e = absurd (none_some third e)
met_by v p h sort f reply third e = (some-same (op.Release h) third e, λ k index. refl)

third_follows : (n : ℕ) (old new : View) (j k index : ℕ) (second : Op) (reply : Reply) (third : Op) → IsManagedThread (M n)
    → Makes (M n) old new (entry_by (M n) index k second reply (Some j)) → third_of second reply ≡ Some third → Follows (M n) new index k third
third_follows n old new j k index (op.Meet v sort f p h) reply third is m e =
    let w = met_by v p h sort f reply third e in
    subst (Follows (M n) new index k) w.0 (record {
      may = met_then_release n old new k index v p h sort f reply (Some j) m (w.1 k index);
      made = record { peer = λ z. is; managed = λ z. never_managed _ z };
    })
third_follows n old new j k index second reply third is m e = absurd (none_some third e)

pub third_comes : (t : Thread) (old new : View) (j k index : ℕ) (a : Act) (answered : Reply) (second : Op) (reply : Reply) (third : Op) → IsMadeByEvents t a
    → second_of a answered ≡ Some second → Makes t old new (entry_by t index k second reply (Some j)) → third_of second reply ≡ Some third → Follows t new index k third
third_comes (M n) old new j k index a answered second reply third is f m e = third_follows n old new j k index second reply third is.0 m e
third_comes (P n) old new j k index a answered second reply third is f m e = absurd (peers_have_none n a answered second is.0 is.1 f)
third_comes C old new j k index a answered second reply third is f m e = absurd is

-- the third event is a release, which takes no memory
pub third_is_release : (second : Op) (reply : Reply) (third : Op) → third_of second reply ≡ Some third → IsRelease third
third_is_release (op.Meet v sort f p h) reply third e = subst IsRelease (met_by v p h sort f reply third e).0 tt
third_is_release second reply third e = absurd (none_some third e)

-- where an operation may end nothing is left to release
ends_first : (n k index : ℕ) (a : Act) (answered : Reply) → second_of a answered ≡ None → IsDone (doing_after k index (first_of a) answered)
ends_first n k index (act.Bridge v kind b sort f) (says.Made p h) e = tt
ends_first n k index (act.Bridge v kind b sort f) answered e = tt
ends_first n k index (act.Pass v x) (says.H h) e = tt
ends_first n k index (act.Pass v x) answered e = tt
ends_first n k index (act.Surface v x) (says.Gripped p h sort f) e = tt
ends_first n k index (act.Surface v x) answered e = tt
ends_first n k index (act.Dispose v) (says.H h) e = absurd (none_some (op.Release h) (sym e))
ends_first n k index (act.Dispose v) answered e = tt
ends_first n k index a answered e = tt

stays_first : (n k index : ℕ) (a : Act) (answered : Reply) (second : Op) → second_of a answered ≡ Some second → (IsRelease second → ⊥) → IsDone (doing_after k index (first_of a) answered)
stays_first n k index (act.Bridge v kind b sort f) (says.Made p h) second e keeps = tt
stays_first n k index (act.Pass v x) (says.H h) second e keeps = tt
stays_first n k index (act.Surface v x) (says.Gripped p h sort f) second e keeps = tt
stays_first n k index (act.Dispose v) (says.H h) second e keeps = absurd (keeps (subst IsRelease (some-same (op.Release h) second e) tt))
stays_first n k index act.Collect answered second e keeps = tt
stays_first n k index a answered second e keeps = absurd (none_some second e)

met_done : (k index : ℕ) (v : Var) (p : PNum) (h : HNum) (sort : Sort) (f : ℕ) (reply : Reply)
    → third_of (op.Meet v sort f p h) reply ≡ None → IsDone (doing_after k index (op.Meet v sort f p h) reply)
met_done k index v p h sort f (says.New m) e = tt
met_done k index v p h sort f reply e = absurd (none_some (op.Release h) (sym e))

ends_second : (n k index : ℕ) (a : Act) (answered : Reply) (second : Op) (reply : Reply) → second_of a answered ≡ Some second → third_of second reply ≡ None → IsDone (doing_after k index second reply)
ends_second n k index (act.Bridge v kind b sort f) (says.Made p h) second reply e ends = subst (λ o. IsDone (doing_after k index o reply)) (some-same (op.Adopt v kind b p h) second e) tt
ends_second n k index (act.Pass v x) (says.H h) second reply e ends = subst (λ o. IsDone (doing_after k index o reply)) (some-same (op.Land h x) second e) tt
ends_second n k index (act.Surface v x) (says.Gripped p h sort f) second reply e ends =
    let is = some-same (op.Meet v sort f p h) second e in
    subst (λ o. IsDone (doing_after k index o reply)) is (met_done k index v p h sort f reply (subst (λ o. third_of o reply ≡ None) (sym is) ends))
ends_second n k index (act.Dispose v) (says.H h) second reply e ends = subst (λ o. IsDone (doing_after k index o reply)) (some-same (op.Release h) second e) tt
ends_second n k index act.Collect (says.Mark j) second reply e ends = subst (λ o. IsDone (doing_after k index o reply)) (some-same op.Sweep second e) tt
ends_second n k index a answered second reply e ends = absurd (none_some second e)

ends_third : (n k index : ℕ) (third : Op) (reply : Reply) → IsRelease third → IsDone (doing_after k index third reply)
ends_third n k index (op.Release h) reply is = tt
ends_third n k index third reply is = absurd is

-- so the caller knows a past at whose end it has released all
of_thread : (t : Thread) (e : Entry) → ((n : ℕ) → t ≡ M n → IsDone (doing_after e.number e.made.index e.made.op e.made.reply)) → IsDone (doing_from t e)
of_thread (M n) e w = w n refl
of_thread (P n) e w = tt
of_thread C e w = tt

pub begins_after : (t : Thread) (old new : View) (e : Entry) → Makes t old new e → IsDone (doing_from t e) → MayBegin t new e.made.index
begins_after t old new e m d = record { doing = doing_from t e; stands = m.stands; done = d }

-- who may begin knows a past at whose end it has nothing to release, and its last line isn't above
pub beginner_knows : (t : Thread) (v : View) (index : ℕ) → MayBegin t v index → CallerKnows t v
beginner_knows t v index b = stands_knows t v index b.doing b.stands b.done

pub beginner_is_below : (t : Thread) (v : View) (index : ℕ) → IsThread t → MayBegin t v index → last_index (line_known v (caller_line t)) ≤ index
beginner_is_below t v index is b =
    let e = last_line_is v b.stands.known t is in
    let l = b.stands.last in
    omega (arith, e, l)

-- but for a collect, which is made in one hold of a lock, the second event cites the first
managed_cites : (n : ℕ) (a : Act) (answered : Reply) (second : Op) (first : ℕ) → IsLine (M n) a → second_of a answered ≡ Some second → cited_by second first ≡ Some first
managed_cites n (act.Bridge v kind b sort f) (says.Made p h) second first is e = subst (λ o. cited_by o first ≡ Some first) (some-same (op.Adopt v kind b p h) second e) refl
managed_cites n (act.Pass v x) (says.H h) second first is e = subst (λ o. cited_by o first ≡ Some first) (some-same (op.Land h x) second e) refl
managed_cites n (act.Surface v x) (says.Gripped p h sort f) second first is e = subst (λ o. cited_by o first ≡ Some first) (some-same (op.Meet v sort f p h) second e) refl
managed_cites n (act.Dispose v) (says.H h) second first is e = subst (λ o. cited_by o first ≡ Some first) (some-same (op.Release h) second e) refl
managed_cites n act.Collect answered second first is e = absurd is.1
managed_cites n a answered second first is e = absurd (none_some second e)

cites_first : (t : Thread) (a : Act) (answered : Reply) (second : Op) (first : ℕ) → IsMadeByEvents t a → second_of a answered ≡ Some second → cited_by second first ≡ Some first
cites_first (M n) a answered second first is e = managed_cites n a answered second first is e
cites_first (P n) a answered second first is e = absurd (peers_have_none n a answered second is.0 is.1 e)
cites_first C a answered second first is e = absurd is

-- the ends of an operation, at the numbers and replies of its events
module _ (t : Thread) (index : ℕ) (a : Act) (old one : View) (first : ℕ) (answered : Reply) (start : Op)
    (begins : start ≡ first_of a) (makes : Makes t old one (entry_by t index first start answered None)) where
  m : Makes t old one (entry_by t index first (first_of a) answered None)
  m = subst (λ o. Makes t old one (entry_by t index first o answered None)) begins makes

  pub then_second : (second : Op) → IsMadeByEvents t a → second_of a answered ≡ Some second → Follows t one index first second
  then_second second is f = second_comes t old one first index a answered second is m f

  pub first_begins : second_of a answered ≡ None → MayBegin t one index
  first_begins e = begins_after t old one _ m (of_thread t _ (λ n q. ends_first n first index a answered e))

  pub first_ends : second_of a answered ≡ None → Runs t old one index a (record { first = first; last = first; reply = answered })
  first_ends e = record {
    entries = entry_by t index first (first_of a) answered None ∷ [];
    made = makes_first t old one _ m;
    operation = record { answered = answered; rest = []; all = refl; ends = inl (record { no_second = e; nothing_more = refl; last = refl; answer = refl }) };
  }

  -- no memory for the second event
  module _ (new : View) (second : Op) (f : second_of a answered ≡ Some second) (none : MakesNone t one new) (keeps : IsRelease second → ⊥) where
    pub broken_begins : MayBegin t new index
    broken_begins = record {
      doing = doing_from t (entry_by t index first (first_of a) answered None);
      stands = none.stands index _ m.stands;
      done = of_thread t _ (λ n q. stays_first n first index a answered second f keeps);
    }

    pub broken_off : StopsWithoutMemory t old new index a
    broken_off = record {
      entries = entry_by t index first (first_of a) answered None ∷ [];
      made = makes_no_more t old one new _ (makes_first t old one _ m) none;
      begun = inr (record { number = first; answered = answered; second = second; one = refl; follows = f; takes_memory = keeps });
    }

  module _ (two : View) (second : Op) (f : second_of a answered ≡ Some second) (number : ℕ) (reply : Reply) (m2 : Makes t one two (entry_by t index number second reply (Some first))) where
    pub both : MakesAll t old two (entry_by t index first (first_of a) answered None ∷ entry_by t index number second reply (Some first) ∷ [])
    both = makes_next t old one two (entry_by t index first (first_of a) answered None ∷ []) _ (makes_first t old one _ m) m2

    pub second_begins : third_of second reply ≡ None → MayBegin t two index
    second_begins e = begins_after t one two _ m2 (of_thread t _ (λ n q. ends_second n number index a answered second reply f e))

    pub second_ends : IsMadeByEvents t a → third_of second reply ≡ None → Runs t old two index a (record { first = first; last = number; reply = answer_of a answered reply })
    second_ends is e = record {
      entries = entry_by t index first (first_of a) answered None ∷ entry_by t index number second reply (Some first) ∷ [];
      made = both;
      operation = record {
        answered = answered;
        rest = entry_by t index number second reply (Some first) ∷ [];
        all = refl;
        ends = inr (inl (record {
          second = second;
          reply = reply;
          follows = f;
          no_third = e;
          one_more = ap (λ c. entry_by t index number second reply c ∷ []) (sym (cites_first t a answered second first is f));
          answer = refl;
        }));
      };
    }

    module _ (three : View) (third : Op) (g : third_of second reply ≡ Some third) (last : ℕ) (released : Reply) (m3 : Makes t two three (entry_by t index last third released (Some number))) where
      pub third_begins : MayBegin t three index
      third_begins = begins_after t two three _ m3 (of_thread t _ (λ n q. ends_third n last index third released (third_is_release second reply third g)))

      pub third_ends : Runs t old three index a (record { first = first; last = last; reply = reply })
      third_ends = record {
        entries = entry_by t index first (first_of a) answered None ∷ entry_by t index number second reply (Some first) ∷ entry_by t index last third released (Some number) ∷ [];
        made = makes_next t old two three (entry_by t index first (first_of a) answered None ∷ entry_by t index number second reply (Some first) ∷ []) _ both m3;
        operation = record {
          answered = answered;
          rest = entry_by t index number second reply (Some first) ∷ entry_by t index last third released (Some number) ∷ [];
          all = refl;
          ends = inr (inr (record { second = second; reply = reply; number = number; third = third; released = released; follows = f; then_follows = g; two_more = refl; answer = refl }));
        };
      }

pub nothing_begun : (t : Thread) (old new : View) (index : ℕ) (a : Act) → MakesNone t old new → StopsWithoutMemory t old new index a
nothing_begun t old new index a m = record { entries = []; made = makes_nothing t old new m; begun = inl refl }

-- which threads and lines an operation has
pub managed_is_own : (t : Thread) → IsManagedThread t → IsOwnThread t
managed_is_own (M n) is = is
managed_is_own (P n) is = absurd is
managed_is_own C is = absurd is

pub peer_is_own : (t : Thread) → IsPeerThread t → IsOwnThread t
peer_is_own (M n) is = absurd is
peer_is_own (P n) is = is
peer_is_own C is = absurd is

pub managed_operation : (t : Thread) (a : Act) → IsManagedThread t → IsLine t a → IsMadeByEvents t a
managed_operation (M n) a is line = line
managed_operation (P n) a is line = absurd is
managed_operation C a is line = absurd is

event_line : (a : Act) → (a ≡ act.Collect → ⊥) → IsEventLine a
event_line act.Collect other = other refl
event_line a other = tt

pub peer_operation : (t : Thread) (a : Act) → IsPeerThread t → IsLine t a → (a ≡ act.Collect → ⊥) → IsMadeByEvents t a
peer_operation (M n) a is line other = absurd is
peer_operation (P n) a is line other = (line, event_line a other)
peer_operation C a is line other = absurd is

-- a peer thread's line of one event that found no memory made nothing
pub peer_makes_none : (t : Thread) (old new : View) (index : ℕ) (a : Act) → IsPeerThread t → IsMadeByEvents t a → StopsWithoutMemory t old new index a → MakesAll t old new []
peer_makes_none (M n) old new index a is line b = absurd is
peer_makes_none (P n) old new index a is line b = ⊎_elim
    (λ e. subst (MakesAll (P n) old new) e b.made)
    (λ f. absurd (peers_have_none n a f.answered f.second line.0 line.1 f.follows))
    b.begun
peer_makes_none C old new index a is line b = absurd is

pub breaks_none : {A E : Type 0} (t : Thread) (old new : View) (index : ℕ) (a : Act) (result : Result A E) → IsPeerThread t
    → IsMadeByEvents t a → OnErr result (StopsWithoutMemory t old new index a) → OnErr result (MakesAll t old new [])
breaks_none t old new index a (Ok x) is line b = tt
breaks_none t old new index a (Err x) is line b = peer_makes_none t old new index a is line b

-- a line is its own operation, and cites nothing
pub line_bare : (t : Thread) (v : View) (index : ℕ) (a : Act) (cites : Option ℕ) → IsManagedThread t → MayMake t v index (op.Line a) cites → cites ≡ None
line_bare (M n) v index a cites is may = thread-none may.doing (M n) index (op.Line a) cites tt may.turn
line_bare (P n) v index a cites is may = absurd is
line_bare C v index a cites is may = absurd is

pub exact_first : (t : Thread) (old new : View) (a : Act) (start : Op) (reply : Reply) → start ≡ first_of a
    → (is_peer_event t start ≡ false → (b : Act) → start ≡ op.Line b → ReadsExactly t old new b reply) → ReadsExactly t old new a reply
exact_first (M n) old new (act.Read k) start reply e f = λ r. f (ap (is_peer_event (M n)) e) (act.Read k) e r
exact_first (M n) old new (act.Await k) start reply e f = λ r. f (ap (is_peer_event (M n)) e) (act.Await k) e r
exact_first (M n) old new a start reply e f = λ r. absurd r
exact_first (P n) old new a start reply e f = tt
exact_first C old new a start reply e f = tt

pub exact_later : (t : Thread) (old new : View) (a : Act) (answered : Reply) (second : Op) (reply : Reply) → second_of a answered ≡ Some second → ReadsExactly t old new a reply
exact_later (M n) old new (act.Read k) answered second reply e = λ r. absurd (none_some second e)
exact_later (M n) old new (act.Await k) answered second reply e = λ r. absurd (none_some second e)
exact_later (M n) old new a answered second reply e = λ r. absurd r
exact_later (P n) old new a answered second reply e = tt
exact_later C old new a answered second reply e = tt

-- a peer thread has no list of reads
pub peer_keeps_none : (t : Thread) (old new : View) (es : List Entry) → IsPeerThread t → KeepsReads t old es → KeepsReads t new es
peer_keeps_none (M n) old new es is k = absurd is
peer_keeps_none (P n) old new es is k = k
peer_keeps_none C old new es is k = absurd is
