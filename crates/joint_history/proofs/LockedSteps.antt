-- One entry under a side's lock: the caller's lines are handed to the locked seat, the side draws by it, and they are
-- handed back.
use Rattle.std.proofs.Common.{◌≡◌, ◌⊎◌, inl, inr, ⊎_elim, ℕ, ◌+◌, ◌<◌, ◌≤◌, ◌^◌, false, true, List, [], ◌∷◌, ◌++◌, Option, refl, sym, ap, ◌∙◌, subst, arith}
use Rattle.std.specs.Prelude.{Bool, if◌then◌else◌, Result, Ok, Err, IfOk, OnErr}
use mathlib.Core.List.{IsPrefix}
use base.Growing.{prefix_refl, prefix_trans}
use Rattle.std.proofs.lemmas.Bool.{cases_eq}
use Rattle.joint_machine.specs.declared.names.Thread.{Thread}
use Rattle.joint_machine.specs.declared.names.Thread.TheVariants.{M, P, C}
use Rattle.joint_machine.specs.declared.events.Entry.{Entry}
use Rattle.joint_machine.specs.declared.events.Made.{Made}
use Rattle.joint_machine.specs.declared.events.Op.{Op}
use Rattle.joint_machine.specs.declared.events.Reply.{Reply}
use Rattle.joint_machine.specs.Control.{Doing, CallerAllows, ThreadAllows, last_line}
use Rattle.joint_machine.specs.Draws.{numbered}
use Rattle.joint_machine.specs.HistoryLines.{caller_line}
use Rattle.joint_machine.specs.Lines.{IsThread, is_peer_event, is_read}
use Rattle.joint_machine.specs.Linked.{Linkage, peer_after}
use Rattle.joint_machine.specs.ManagedReplay.{ManagedReplay}
use Rattle.joint_machine.specs.PeerReplay.{PeerReplay, peer_answer}
use Rattle.joint_machine.specs.Sides.{Side, SideRules, managed_rules, peer_rules, GoesOn}
use Rattle.joint_machine.specs.Told.{Told, Noted}
use Rattle.joint_machine.specs.PinsTold.{bare_told, pins_told}
use Rattle.known_laws.specs.Drawn.{drawn, drawn_by}
use Rattle.known_laws.specs.Known.{Comes, PinsStand, managed_past, past_after}
use Rattle.known_laws.specs.Pasts.{end_of, line}
use Rattle.known_laws.proofs.Bared.{peer_unpinned, plain_pins, plain_told}
use Rattle.known_laws.proofs.Coming.{peer_reads_none}
use Rattle.known_laws.proofs.Growing.{lines_give_parts}
use Rattle.known_laws.proofs.Pinned.{none_stand}
use Rattle.known_laws.proofs.Turning.{side_entry_comes}
use Rattle.order_table.specs.declared.views.KeptEntry.{KeptEntry}
use Rattle.order_table.specs.declared.views.View.{View}
use Rattle.order_table.specs.Facts.{line_entries}
use Rattle.order_table.specs.Rows.{at}
use Rattle.order_table.specs.Rule.{IsBelow}
use Rattle.order_table.specs.Tells.{GrowsByEntry, IsOfCaller}
use Rattle.order_table.specs.Views.{OrderId, Shown, known, Owns, IsInRole}
use Rattle.order_table.proofs.Lines.{below_begins}
use Rattle.seat_calls.specs.Passing.{Lends, Returns}
use Rattle.view_laws.specs.Knowing.{DrawsMore, IsDrawnView, of_drawing, pins_of}
use Rattle.view_laws.proofs.DrawnViews.{drawn_views_grow}
use Rattle.joint_history.specs.Callers.{HoldsPass, KeepsReads, ReadsStay}
use Rattle.joint_history.specs.Knowing.{line_known, note_of}
use Rattle.joint_history.specs.Locked.{Drew, StaysSeated, made_by, SideKnows, Stands, MayMake, IsTurn, Makes, MakesNone, doing_of, doing_from}
use Rattle.joint_history.specs.Steps.{MakesEvent}
use Rattle.joint_history.proofs.KnownCallers.{own_line}
use Rattle.joint_history.proofs.KnownViews.{JoinedViews, entries_snoc, lines_join, same_view}
use Rattle.joint_history.proofs.Standing.{last_of_own, doing_of_own}

-- what is known together after the caller's lines were handed over
pub lent_joined : (t : Thread) (locked mine lent mine1 : View) → Lends t locked mine lent mine1 → (a : IsDrawnView locked) (b : IsDrawnView mine) → JoinedViews locked mine lent a b
lent_joined t locked mine lent mine1 l a b = lines_join locked mine lent a b l.either l.knew l.heard l.one_history

-- the caller's own line is told as the caller knows it
pub own_told : (t : Thread) (locked mine lent mine1 : View) (l : Lends t locked mine lent mine1) (a : IsDrawnView locked) (b : IsDrawnView mine)
    → HoldsPass t mine → line (caller_line t) (lent_joined t locked mine lent mine1 l a b).joined.known.past ≡ line (caller_line t) b.known.past
own_told t locked mine lent mine1 l a b h = (lent_joined t locked mine lent mine1 l a b).second (caller_line t) (l.own (caller_line t) (own_line t) (h (caller_line t) (own_line t)))

pub doing_told : (t : Thread) (a b : List Noted) → line (caller_line t) a ≡ line (caller_line t) b → doing_of t (end_of a).control ≡ doing_of t (end_of b).control
doing_told (M n) a b e = (lines_give_parts a b).doing n e
doing_told (P n) a b e = refl
doing_told C a b e = refl

pub last_told : (t : Thread) (a b : List Noted) (index : ℕ) → line (caller_line t) a ≡ line (caller_line t) b → last_line (end_of b).control t ≤ index → last_line (end_of a).control t ≤ index
last_told t a b index e l = subst (λ n. n ≤ index) (sym ((lines_give_parts a b).last t e)) l

-- so the caller stands there as it stood
pub stands_told : (t : Thread) (v w : View) (a : IsDrawnView w) (index : ℕ) (d : Doing) (s : Stands t v index d)
    → line (caller_line t) a.known.past ≡ line (caller_line t) s.known.known.past → Stands t w index d
stands_told t v w a index d s e = record {
  known = a;
  last = last_told t a.known.past s.known.known.past index e s.last;
  doing = doing_told t a.known.past s.known.known.past e ∙ s.doing;
}

pub stands_same : (t : Thread) (v w : View) (index : ℕ) (d : Doing) → ((i : ℕ) → known w i ≡ known v i) → Stands t v index d → Stands t w index d
stands_same t v w index d same s = record { known = same_view v w s.known same; last = s.last; doing = s.doing }

turn_allows : (t : Thread) (s : Linkage) (d : Doing) (index : ℕ) (o : Op) (reply : Reply) (cites : Option ℕ) (told : Told)
    → doing_of t s.control ≡ d → IsTurn t d index o cites → CallerAllows s.control s.managed.managed s.peer.peers.issued t index o reply cites told
turn_allows (M n) s d index o reply cites told e w = subst (λ z. ThreadAllows z (M n) index o cites) (sym e) w
turn_allows (P n) s d index o reply cites told e w = w
turn_allows C s d index o reply cites told e w = absurd w

-- what the locked seat knows after the entry, and how the caller stands by it
pub record Entered (t : Thread) (mine lent2 : View) (past : List Noted) (k : KeptEntry) (told : Told) : Type 0 where
  pub grown : DrawsMore past (note_of k.entry told) lent2
  pub comes : Comes (is_read k.entry.made.op) (end_of past) (note_of k.entry told)
  pub stands : Stands t lent2 k.entry.made.index (doing_from t k.entry)

-- what is asked of a caller's entry: its line isn't below that of the caller's last one, and it is the caller's turn
pub record MayNow (t : Thread) (s : Linkage) (m : Made) (told : Told) : Type 0 where
  pub last : last_line s.control t ≤ m.index
  pub allows : CallerAllows s.control s.managed.managed s.peer.peers.issued t m.index m.op m.reply m.cites (bare_told told)

-- of a thread it holds at each past that has the thread's line as its seat knows it
pub thread_may : (t : Thread) (past : List Noted) (mine : View) (m : Made) (told : Told) (w : MayMake t mine m.index m.op m.cites)
    → line (caller_line t) past ≡ line (caller_line t) w.stands.known.known.past → MayNow t (end_of past) m told
thread_may t past mine m told w same =
    let doing = doing_told t past w.stands.known.known.past same ∙ w.stands.doing in
    record {
      last = last_told t past w.stands.known.known.past m.index same w.stands.last;
      allows = turn_allows t (end_of past) w.doing m.index m.op m.reply m.cites (bare_told told) doing w.turn;
    }

-- an entry that may come behind what the seat knows, as it is drawn there: the seat knows it then, and so the caller
-- stands
pub entered : (t : Thread) (mine lent lent2 : View) (r : ℕ) (k : KeptEntry) (told : Told) (j : IsDrawnView lent) → IsThread t
    → k.entry.made.caller ≡ t → GrowsByEntry lent lent2 r k → IsInRole r k.entry.made → ((i : ℕ) → IsBelow k.entry.number (known lent i))
    → pins_of k.pins ≡ pins_told told → drawn (end_of j.known.past) (note_of k.entry told) ≡ of_drawing k
    → Comes (is_read k.entry.made.op) (end_of j.known.past) (note_of k.entry told) → Entered t mine lent2 j.known.past k told
entered t mine lent lent2 r k told j thread caller grows role below pins draws comes =
    let g = drawn_views_grow lent lent2 r k j told grows role below pins draws comes in
    record {
      grown = g;
      comes = comes;
      stands = record {
        known = g.known;
        last = subst (λ h. last_line (end_of h).control t ≤ k.entry.made.index) (sym g.past_is) (let l = last_of_own j.known.past (note_of k.entry g.told) t caller thread in omega arith);
        doing = subst (λ h. doing_of t (end_of h).control ≡ doing_from t k.entry) (sym g.past_is) (doing_of_own j.known.past (note_of k.entry g.told) t caller thread);
      };
    }

-- what is known grows
pub grows_more : (v w : View) (r : ℕ) (k : KeptEntry) → GrowsByEntry v w r k → (i : ℕ) → IsPrefix (known v i) (known w i)
grows_more v w r k g i = ⊎_elim
    (λ (e : i ≡ r). subst (λ j. IsPrefix (known v j) (known w j)) (sym e) (k ∷ [], sym g.role))
    (λ (n : i ≡ r → ⊥). ⊎_elim
    (λ (e : i ≡ caller_line k.entry.made.caller). subst (λ j. IsPrefix (known v j) (known w j)) (sym e) (k ∷ [], sym g.caller))
    (λ (m : i ≡ caller_line k.entry.made.caller → ⊥). subst (IsPrefix (known v i)) (sym (g.others i n m)) (prefix_refl (known v i)))
    (cases_eq i (caller_line k.entry.made.caller)))
    (cases_eq i r)

pub owns_on : (v w : View) (r : ℕ) (k : KeptEntry) → GrowsByEntry v w r k → (i : ℕ) → Owns v i → Owns w i
owns_on v w r k g i o = ap (λ os. at false os i) g.owns ∙ o

-- a side's line is none of a caller's
pub not_side : (t : Thread) (r : ℕ) → IsThread t → r < 2 → IsOfCaller t r → ⊥
not_side (M n) r is small (inl e) = omega arith
not_side (M n) r is small (inr e) = let a = is.0 in omega arith
not_side (P n) r is small e = omega arith
not_side C r is small e = omega arith

-- the caller's lines can be handed back
pub more_back : (t : Thread) (locked mine lent mine1 lent2 : View) → Lends t locked mine lent mine1
    → ((i : ℕ) → IsPrefix (known lent i) (known lent2 i)) → (i : ℕ) → IsPrefix (known mine1 i) (known lent2 i)
more_back t locked mine lent mine1 lent2 l more i = prefix_trans (known mine1 i) (known lent i) (known lent2 i) (subst (λ x. IsPrefix x (known lent i)) (sym (l.same i)) (l.heard i)) (more i)

-- after the entry and the handing back
pub makes : (t : Thread) (locked mine lent mine1 lent2 locked2 mine2 : View) (r : ℕ) (k : KeptEntry) (told : Told) (j : IsDrawnView lent) → HoldsPass t mine
    → k.entry.made.caller ≡ t → Lends t locked mine lent mine1 → GrowsByEntry lent lent2 r k → ((i : ℕ) → IsBelow k.entry.number (known lent i))
    → Entered t mine lent2 j.known.past k told → Returns t lent2 mine1 locked2 mine2 → Makes t mine mine2 k.entry
makes t locked mine lent mine1 lent2 locked2 mine2 r k told j pass caller l g below e b =
    let own : known lent2 (caller_line t) ≡ known lent (caller_line t) ++ k ∷ [] = subst (λ u. known lent2 (caller_line u) ≡ known lent (caller_line u) ++ k ∷ []) caller g.caller in
    record {
      own = ap line_entries (b.same (caller_line t) ∙ own) ∙ (entries_snoc (known lent (caller_line t)) k
          ∙ ap (λ es. es ++ k.entry ∷ []) (ap line_entries (l.own (caller_line t) (own_line t) (pass (caller_line t) (own_line t)))));
      more = λ i. subst (IsPrefix (known mine i)) (sym (b.same i)) (prefix_trans (known mine i) (known lent i) (known lent2 i) (l.heard i) (grows_more lent lent2 r k g i));
      above = λ i. below_begins k.entry.number (known mine i) (known lent i) (l.heard i) (below i);
      stands = stands_same t lent2 mine2 k.entry.made.index (doing_from t k.entry) b.same e.stands;
      state = end_of j.known.past;
      told = told;
      comes = e.comes;
    }

-- an entry of a side is none of the thread's reader
pub reads_stay : (t : Thread) (locked mine lent mine1 lent2 locked2 mine2 : View) (r : ℕ) (k : KeptEntry) → IsThread t → r < 2 → HoldsPass t mine
    → k.entry.made.caller ≡ t → Lends t locked mine lent mine1 → GrowsByEntry lent lent2 r k → Returns t lent2 mine1 locked2 mine2 → ReadsStay t mine mine2
reads_stay (M n) locked mine lent mine1 lent2 locked2 mine2 r k is small pass caller l g b =
    let few = is.0 in
    b.same (1 + n) ∙ (g.others (1 + n) (λ e. omega (arith, e)) (λ e. let f : 1 + n ≡ n + 10 = e ∙ ap caller_line caller in omega arith) ∙ l.own (1 + n) (inr refl) (pass (1 + n) (inr refl)))
reads_stay (P n) locked mine lent mine1 lent2 locked2 mine2 r k is small pass caller l g b = tt
reads_stay C locked mine lent mine1 lent2 locked2 mine2 r k is small pass caller l g b = tt

-- nor is none at all
pub reads_rest : (t : Thread) (locked mine lent mine1 locked2 mine2 : View) → HoldsPass t mine → Lends t locked mine lent mine1 → Returns t lent mine1 locked2 mine2 → ReadsStay t mine mine2
reads_rest (M n) locked mine lent mine1 locked2 mine2 pass l b = b.same (1 + n) ∙ l.own (1 + n) (inr refl) (pass (1 + n) (inr refl))
reads_rest (P n) locked mine lent mine1 locked2 mine2 pass l b = tt
reads_rest C locked mine lent mine1 locked2 mine2 pass l b = tt

-- so a thread goes on keeping its reads
pub keeps_reads : (t : Thread) (old new : View) (es : List Entry) → ReadsStay t old new → KeepsReads t old es → KeepsReads t new es
keeps_reads (M n) old new es s k = ap line_entries s ∙ k
keeps_reads (P n) old new es s k = k
keeps_reads C old new es s k = k

-- a seat that made no entry gives back what it was lent
pub returns_seated : (t : Thread) (lent lent2 : Shown) (mine1 locked2 mine2 : View) → StaysSeated lent lent2 → Returns t lent2.view mine1 locked2 mine2 → Returns t lent.view mine1 locked2 mine2
returns_seated t lent lent2 mine1 locked2 mine2 s b = record {
  kept = λ i n o. b.kept i n (ap (λ os. at false os i) s.owns ∙ o);
  lines = λ i g o. b.lines i g (ap (λ os. at false os i) s.owns ∙ o);
  more = b.more;
  stays = λ i. b.stays i ∙ ap (λ ks. at [] ks i) s.known;
  same = λ i. b.same i ∙ ap (λ ks. at [] ks i) s.known;
}

-- what a locked call promises of both seats: the caller made an entry, or none
pub record Did (t : Thread) (r : ℕ) (mine locked2 mine2 : View) : Type 0 where
  pub owns : Owns locked2 r
  pub pass : HoldsPass t mine2

pub did : (t : Thread) (locked mine lent mine1 lent2 locked2 mine2 : View) (r : ℕ) → IsThread t → r < 2 → HoldsPass t mine → Owns locked r
    → Lends t locked mine lent mine1 → ((i : ℕ) → Owns lent i → Owns lent2 i) → Returns t lent2 mine1 locked2 mine2 → Did t r mine locked2 mine2
did t locked mine lent mine1 lent2 locked2 mine2 r is small pass owns l on b = record {
  owns = b.kept r (not_side t r is small) (on r (l.kept r owns));
  pass = λ i g. b.lines i g (on i (l.lines i g (pass i g)));
}

pub makes_none : (t : Thread) (locked mine lent mine1 locked2 mine2 : View) → IsDrawnView locked
    → HoldsPass t mine → Lends t locked mine lent mine1 → Returns t lent mine1 locked2 mine2 → MakesNone t mine mine2
makes_none t locked mine lent mine1 locked2 mine2 a pass l b = record {
  own = ap line_entries (b.same (caller_line t) ∙ l.own (caller_line t) (own_line t) (pass (caller_line t) (own_line t)));
  more = λ i. subst (IsPrefix (known mine i)) (sym (b.same i)) (l.heard i);
  stands = λ index d s. stands_same t lent mine2 index d b.same
      (stands_told t mine lent (lent_joined t locked mine lent mine1 l a s.known).joined index d s (own_told t locked mine lent mine1 l a s.known pass));
}

-- what the managed side asks of the pins that are told; an entry of the peer side tells none
abbrev pub StandsTold : ManagedReplay → Told → Type 0
StandsTold s told = PinsStand s.managed (pins_told told)

abbrev pub NoneTold : PeerReplay → Told → Type 0
NoneTold s told = Unit {0}

-- what a lawful entry of a side's list is in a linked state: its line is the side's, it is drawn as the state tells,
-- what it tells of pins stands, and the side is as its rules say
pub record OfSide {S : Type 0} (rules : SideRules S) (r : ℕ) (part : Linkage → S) (s : Linkage) (k : KeptEntry) (told : Told) : Type 0 where
  pub role : IsInRole r k.entry.made
  pub draws : drawn s (note_of k.entry told) ≡ of_drawing k
  pub stand : PinsStand s.managed.managed (pins_told told)
  pub lawful : managed_rules.lawful s.managed k.entry.made told ⊎ peer_rules.lawful s.peer k.entry.made told
  pub after : part (past_after s (note_of k.entry told)) ≡ rules.next (part s) k.entry.made told

-- a side: the place of its list, its part of a linked state, and what it asks of pins that are told. Who knows its list
-- as another seat does knows its state so; it is after an entry what it is in the past; and its entries are of it.
pub record IsSide {S : Type 0} (rules : SideRules S) (r : ℕ) (part : Linkage → S) (asks : S → Told → Type 0) : Type 0 where
  pub small : r < 2
  pub first : (v w u : View) (a : IsDrawnView v) (b : IsDrawnView w) (j : JoinedViews v w u a b) → known u r ≡ known v r → part (end_of j.joined.known.past) ≡ part (end_of a.known.past)
  pub grown : (past : List Noted) (n : Noted) (w : View) (g : DrawsMore past n w) → part (end_of g.known.known.past) ≡ part (past_after (end_of past) n)
  pub enters : (s : Linkage) (k : KeptEntry) (told : Told) → asks (part s) told → rules.lawful (part s) k.entry.made told
      → k.target ≡ rules.target (part s) k.entry.made → k.freed ≡ rules.frees told → OfSide rules r part s k told

-- it is drawn by its side's rules
drawn_as : (s : Linkage) (k : KeptEntry) (told : Told) (is_peer : Bool) → is_peer_event k.entry.made.caller k.entry.made.op ≡ is_peer
    → (if is_peer then drawn_by peer_rules s.peer (note_of k.entry told) else drawn_by managed_rules s.managed (note_of k.entry told)) ≡ of_drawing k → drawn s (note_of k.entry told) ≡ of_drawing k
drawn_as s k told is_peer side is = ap (λ b. if b then drawn_by peer_rules s.peer (note_of k.entry told) else drawn_by managed_rules s.managed (note_of k.entry told)) side ∙ is

pub managed_side : IsSide managed_rules 0 (λ l. l.managed) StandsTold
managed_side = record {
  small = omega arith;
  first = λ v w u a b j e. j.managed_first e;
  grown = λ past n w g. g.managed;
  enters = λ s k told stand lawful target freed. (let side = lawful.0.side in let own = lawful.1.own in record {
    role = record { one = omega arith; managed = λ z. (own, side); peer = λ z. absurd (omega arith); reader = λ z. absurd (omega arith) };
    draws = drawn_as s k told false side (λ i. record { entry = k.entry; target = sym target i; freed = sym freed i });
    stand = stand;
    lawful = inl lawful;
    after = ap (λ x. managed_past s.managed k.entry.made told x (is_read k.entry.made.op)) side ∙ ap (managed_past s.managed k.entry.made told false) own;
  });
}

pub peer_side : IsSide peer_rules 1 (λ l. l.peer) NoneTold
peer_side = record {
  small = omega arith;
  first = λ v w u a b j e. j.peer_first e;
  grown = λ past n w g. g.peer;
  enters = λ s k told asked lawful target freed. (let side = lawful.0.side in
      let own = (peer_reads_none k.entry.made.caller k.entry.made.op lawful.0.event side).0 in
      let plain = peer_unpinned s.peer k.entry.made told lawful.1 in record {
        role = record { one = omega arith; managed = λ z. absurd (omega arith); peer = λ z. (own, side); reader = λ z. absurd (omega arith) };
        draws = drawn_as s k told true side (λ i. record { entry = k.entry; target = sym target i; freed = sym freed i });
        stand = subst (PinsStand s.managed.managed) (sym (plain_pins told plain)) (none_stand s.managed.managed);
        lawful = inr lawful;
        after = ap (peer_after s.peer k.entry.made (bare_told told)) side ∙ (λ i. (peer_answer s.peer k.entry.made.caller k.entry.made.op k.entry.made.cites (plain_told told plain i)).state);
      });
}

-- the caller's entry may come behind what is known together: its line and its turn are the caller's, the rest is the
-- side's promise
comes_now : (t : Thread) (s : Linkage) (k : KeptEntry) (told : Told) → k.entry.made.caller ≡ t
    → MayNow t s k.entry.made told → k.entry.made.index < 2 ^ 32 → PinsStand s.managed.managed (pins_told told)
    → managed_rules.lawful s.managed k.entry.made told ⊎ peer_rules.lawful s.peer k.entry.made told → Comes (is_read k.entry.made.op) s (note_of k.entry told)
comes_now t s k told caller may short stand side = side_entry_comes s k.entry.number k.entry.made told
    (subst (λ u. last_line s.control u ≤ k.entry.made.index) (sym caller) may.last) short
    (subst (λ u. CallerAllows s.control s.managed.managed s.peer.peers.issued u k.entry.made.index k.entry.made.op k.entry.made.reply k.entry.made.cites (bare_told told)) (sym caller) may.allows)
    stand side

-- the side's list with the entry
pub list_more : (lent lent2 : View) (r : ℕ) (k : KeptEntry) (e : Entry) (old new : List Entry) → k.entry ≡ e
    → GrowsByEntry lent lent2 r k → line_known lent r ≡ old → new ≡ old ++ e ∷ [] → line_known lent2 r ≡ new
list_more lent lent2 r k e old new is g same added = ap line_entries g.role ∙ (entries_snoc (known lent r) k ∙ (ap (λ es. es ++ k.entry ∷ []) same ∙ (ap (λ z. old ++ z ∷ []) is ∙ sym added)))

-- an entry that a side drew by a seat that knows it: the seat knows the entry then, and the side as it is then
pub record SideEntered {S : Type 0} (part : Linkage → S) (t : Thread) (mine lent2 : View) (past : List Noted) (side : Side S) (k : KeptEntry) (told : Told) : Type 0 where
  pub entered : Entered t mine lent2 past k told
  pub after : part (end_of entered.grown.known.known.past) ≡ side.state

-- under a side's lock, by what is known together after the caller's lines were handed over
pub record DidBy {S : Type 0} (r : ℕ) (part : Linkage → S) (t : Thread) (mine lent2 locked2 mine2 : View) (past : List Noted) (side : Side S) (k : KeptEntry) (told : Told) : Type 0 where
  pub entered : Entered t mine lent2 past k told
  pub knows : SideKnows r part locked2 side
  pub after : part (end_of entered.grown.known.known.past) ≡ side.state
  pub makes : Makes t mine mine2 k.entry
  pub reads : ReadsStay t mine mine2

-- the side drew one entry by its seat, with what it may tell beside it
pub record DrawsTold {S : Type 0} (rules : SideRules S) (r : ℕ) (asks : S → Told → Type 0) (order : OrderId) (seat seat' : Shown) (old new : Side S) (e : Entry) : Type 0 where
  pub told : Told
  pub asked : asks old.state told
  pub drew : Drew rules r order seat seat' old new e told

-- after a side's call, whether it made an entry or none
pub record Called {S E : Type 0} (r : ℕ) (part : Linkage → S) (t : Thread) (index : ℕ) (o : Op) (cites : Option ℕ)
    (mine locked2 mine2 : View) (side : Side S) (result : Result (ℕ × Reply) E) : Type 0 where
  pub knows : SideKnows r part locked2 side
  pub makes : MakesEvent t index o cites mine mine2 result

module _ {S : Type 0} {rules : SideRules S} {r : ℕ} {part : Linkage → S} {asks : S → Told → Type 0} (is_side : IsSide rules r part asks) where
  pub side_entered : (t : Thread) (mine : View) (order : OrderId) (lent lent2 : Shown) (old new : Side S) (e : Entry) (told : Told) (j : IsDrawnView lent.view)
      → part (end_of j.known.past) ≡ old.state → IsThread t → e.made.caller ≡ t → e.made.index < 2 ^ 32 → MayNow t (end_of j.known.past) e.made told → asks old.state told
      → (d : Drew rules r order lent lent2 old new e told) → SideEntered part t mine lent2.view j.known.past new d.kept told
  side_entered t mine order lent lent2 old new e told j state is caller' short' may' asked d =
      let k = d.kept in
      let caller = ap (λ (z : Entry). z.made.caller) d.entry ∙ caller' in
      let past = j.known.past in
      let goes = subst (λ (z : Entry). GoesOn rules old.state z.made told new.state) (sym d.entry) d.goes in
      let of = is_side.enters (end_of past) k told (subst (λ (s : S). asks s told) (sym state) asked) (subst (λ (s : S). rules.lawful s k.entry.made told) (sym state) goes.lawful)
      (subst (λ (s : S). k.target ≡ rules.target s k.entry.made) (sym state) (subst (λ (z : Entry). k.target ≡ rules.target old.state z.made) (sym d.entry) d.target)) d.freed in
      let w = entered t mine lent.view lent2.view r k told j is caller d.appends.grows of.role d.appends.number d.pins of.draws
      (comes_now t (end_of past) k told caller (subst (λ (z : Entry). MayNow t (end_of past) z.made told) (sym d.entry) may')
      (subst (λ (z : Entry). z.made.index < 2 ^ 32) (sym d.entry) short') of.stand of.lawful) in
      record {
        entered = w;
        after = is_side.grown past (note_of k.entry told) lent2.view w.grown ∙ (of.after ∙ (ap (λ (s : S). rules.next s k.entry.made told) state ∙ sym goes.state));
      }

  pub did_by : (t : Thread) (locked mine mine1 locked2 mine2 : View) (order : OrderId) (lent lent2 : Shown) (old new : Side S) (e : Entry) (told : Told) (m : IsDrawnView mine)
      → IsThread t → HoldsPass t mine → Owns locked r → e.made.caller ≡ t → e.made.index < 2 ^ 32
      → (ks : SideKnows r part locked old) (l : Lends t locked mine lent.view mine1)
      → MayNow t (end_of (lent_joined t locked mine lent.view mine1 l ks.known m).joined.known.past) e.made told → asks old.state told
      → (d : Drew rules r order lent lent2 old new e told) → Returns t lent2.view mine1 locked2 mine2
      → DidBy r part t mine lent2.view locked2 mine2 (lent_joined t locked mine lent.view mine1 l ks.known m).joined.known.past new d.kept told
  did_by t locked mine mine1 locked2 mine2 order lent lent2 old new e told m is pass owns caller' short ks l may asked d b =
      let k = d.kept in
      let caller = ap (λ (z : Entry). z.made.caller) d.entry ∙ caller' in
      let j = lent_joined t locked mine lent.view mine1 l ks.known m in
      let w = side_entered t mine order lent lent2 old new e told j.joined (is_side.first locked mine lent.view ks.known m j (l.whole r owns) ∙ ks.state) is caller' short may asked d in
      record {
        entered = w.entered;
        knows = record {
          known = same_view lent2.view locked2 w.entered.grown.known b.stays;
          entries = ap line_entries (b.stays r) ∙ list_more lent.view lent2.view r k e old.entries new.entries d.entry d.appends.grows (ap line_entries (l.whole r owns) ∙ ks.entries) d.added;
          state = w.after;
        };
        after = w.after;
        makes = makes t locked mine lent.view mine1 lent2.view locked2 mine2 r k told j.joined pass caller l d.appends.grows d.appends.number w.entered b;
        reads = reads_stay t locked mine lent.view mine1 lent2.view locked2 mine2 r k is is_side.small pass caller l d.appends.grows b;
      }

  pub knows_still : (t : Thread) (locked mine lent mine1 locked2 mine2 : View) (side : Side S) → Owns locked r
      → SideKnows r part locked side → IsDrawnView mine → Lends t locked mine lent mine1 → Returns t lent mine1 locked2 mine2 → SideKnows r part locked2 side
  knows_still t locked mine lent mine1 locked2 mine2 side owns ks m l b =
      let j = lent_joined t locked mine lent mine1 l ks.known m in
      record {
        known = same_view lent locked2 j.joined b.stays;
        entries = ap line_entries (b.stays r ∙ l.whole r owns) ∙ ks.entries;
        state = is_side.first locked mine lent ks.known m j (l.whole r owns) ∙ ks.state;
      }

  pub called : {E : Type 0} (t : Thread) (index : ℕ) (o : Op) (cites : Option ℕ) (order : OrderId)
      (locked mine mine1 locked2 mine2 : View) (seat seat' : Shown) (old new : Side S) (result : Result (ℕ × Reply) E)
      → IsThread t → HoldsPass t mine → Owns locked r → index < 2 ^ 32 → SideKnows r part locked old → MayMake t mine index o cites → Lends t locked mine seat.view mine1
      → IfOk result (λ x. DrawsTold rules r asks order seat seat' old new (numbered x.0 (made_by t index o x.1 cites)))
      → OnErr result (StaysSeated seat seat' × (new ≡ old)) → Returns t seat'.view mine1 locked2 mine2 → Called r part t index o cites mine locked2 mine2 new result
  called t index o cites order locked mine mine1 locked2 mine2 seat seat' old new (Ok x) is pass owns short ks may l d e b =
      let j = lent_joined t locked mine seat.view mine1 l ks.known may.stands.known in
      let now = thread_may t j.joined.known.past mine (made_by t index o x.1 cites) d.told may (own_told t locked mine seat.view mine1 l ks.known may.stands.known pass) in
      let w = did_by t locked mine mine1 locked2 mine2 order seat seat' old new
      (numbered x.0 (made_by t index o x.1 cites)) d.told may.stands.known is pass owns refl short ks l now d.asked d.drew b in
      record { knows = w.knows; makes = record { ok = subst (Makes t mine mine2) d.drew.entry w.makes; reads = w.reads; err = tt } }
  called t index o cites order locked mine mine1 locked2 mine2 seat seat' old new (Err x) is pass owns short ks may l d e b =
      let back = returns_seated t seat seat' mine1 locked2 mine2 e.0 b in
      record {
        knows = subst (SideKnows r part locked2) (sym e.1) (knows_still t locked mine seat.view mine1 locked2 mine2 old owns ks may.stands.known l back);
        makes = record {
          ok = tt;
          reads = reads_rest t locked mine seat.view mine1 locked2 mine2 pass l back;
          err = makes_none t locked mine seat.view mine1 locked2 mine2 ks.known pass l back;
        };
      }
