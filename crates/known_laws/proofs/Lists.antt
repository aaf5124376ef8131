-- Each side's list in a past is lawful by itself and gives that side's state, since only the side's own entries move
-- it. And the line of a thread has exactly the entries that the thread made, since no two threads have one place.
use Rattle.std.proofs.Common.{◌≡◌, ◌≢◌, ◌⊎◌, inl, inr, ⊎_elim, ℕ, ◌+◌, ◌<◌, Bool, true, false, ◌||◌, List, [], ◌∷◌, ◌++◌, refl, sym, ap, ◌∙◌, subst, arith, eq-eqb, ne_eqb, true≢false}
use Rattle.std.specs.Prelude.{if◌then◌else◌, nat_eq, All, map}
use Rattle.std.proofs.lemmas.Bool.{cases_eq}
use Rattle.joint_machine.specs.declared.names.Thread.{Thread}
use Rattle.joint_machine.specs.declared.names.Thread.TheVariants.{M, P, C}
use Rattle.joint_machine.specs.declared.events.Entry.{Entry}
use Rattle.joint_machine.specs.Control.{caller_place}
use Rattle.joint_machine.specs.declared.events.Op.{Op}
use Rattle.joint_machine.specs.declared.events.Op.TheVariants as op
use Rattle.joint_machine.specs.Lines.{IsEvent, IsThread, is_peer_event, is_read}
use Rattle.joint_machine.specs.Linked.{SideLawful, PeerLawful, peer_after}
use Rattle.joint_machine.specs.ManagedReplay.{opening_replay}
use Rattle.joint_machine.specs.PeerReplay.{opening_peer_replay, is_thread}
use Rattle.joint_machine.specs.Told.{Noted}
use Rattle.joint_machine.specs.PinsTold.{bare_told}
use Rattle.known_laws.specs.Known.{given, managed_past}
use Rattle.known_laws.specs.Pasts.{role_of, is_in, line, end_of, Lawful}
use Rattle.known_laws.specs.PastEntries.{InPast, entries, turned}
use Rattle.joint_machine.specs.HistoryLines.{caller_line, stands_in, list_line, reader_line}
use Rattle.known_laws.specs.Growing.{Kept, entries_kept, kept_in}
use Rattle.joint_machine.specs.declared.lines.Act.TheVariants as act
use Rattle.known_laws.proofs.Coming.{event_of, side_of, peer_of, peer_told_whole}
use Rattle.known_laws.proofs.Growing.{entries_shown}
use Rattle.known_laws.proofs.Parts.{role_by}
use Rattle.known_laws.proofs.Ending.{role_bound, known_whole_is_history}
use Rattle.joint_machine.specs.Sides.{managed_rules, peer_rules, LeadsTo}
use Rattle.joint_machine.specs.Components.{Rises}
use Rattle.joint_machine.proofs.Members.{Rises-push}
use Rattle.joint_machine.proofs.SideLists.{LeadsTo-push}
use Rattle.std.proofs.lemmas.List.Elements.{All-cons, All-nil}
use Rattle.known_laws.proofs.PastLines.{in-line}
use Rattle.known_laws.proofs.PastsJoin.{below}
use Rattle.known_laws.specs.Lists.{KnownListsAreLawful, made_by, OwnLineIsMadeByCaller}

-- lines 0 and 1 by the list of the entry
in_list : (i j : ℕ) (x : Noted) → i < 10 → role_of x ≡ j → is_in i x ≡ nat_eq i j
in_list i j x l e = ap (λ c. nat_eq i c || nat_eq i (caller_line x.entry.made.caller)) e ∙ by (nat_eq i j)
  where
    by : (c : Bool) → (c || nat_eq i (caller_line x.entry.made.caller)) ≡ c
    by true = refl
    by false = ne_eqb i (caller_line x.entry.made.caller) (λ q. omega (arith, q, l))

-- a reader's line is none of these two
reader_apart : (i : ℕ) (t : Thread) (o : Op) → IsEvent t o → is_read o ≡ true → i < 2 → nat_eq i (reader_line t) ≡ false
reader_apart i (M n) (op.Line (act.Read k)) v e l = let m = v.0.0.0 in ne_eqb i (1 + n) (λ q. omega (arith, q, l, m))
reader_apart i (M n) (op.Line (act.Await k)) v e l = let m = v.0.0.0 in ne_eqb i (1 + n) (λ q. omega (arith, q, l, m))
reader_apart i (P n) (op.Line (act.Read k)) v e l = absurd v.0.1
reader_apart i (P n) (op.Line (act.Await k)) v e l = absurd v.0.1
reader_apart i C (op.Line (act.Read k)) v e l = absurd v.0
reader_apart i C (op.Line (act.Await k)) v e l = absurd v.0
reader_apart i t o v e l = absurd (true≢false (sym e))

managed-list : (h : List Noted) → Lawful h → LeadsTo managed_rules opening_replay (line 0 h) (end_of h).managed
managed-list [] l = refl
managed-list (x ∷ h) l = by (is_peer_event x.entry.made.caller x.entry.made.op) (is_read x.entry.made.op) refl refl (managed-list h l.1)
  where
    by : (b r : Bool) → is_peer_event x.entry.made.caller x.entry.made.op ≡ b → is_read x.entry.made.op ≡ r → LeadsTo managed_rules opening_replay (line 0 h) (end_of h).managed
        → LeadsTo managed_rules opening_replay (if is_in 0 x then line 0 h ++ x ∷ [] else line 0 h) (managed_past (end_of h).managed x.entry.made x.told b r)
    by true r e f p = subst (λ c. LeadsTo managed_rules opening_replay (if c then line 0 h ++ x ∷ [] else line 0 h) (end_of h).managed) (sym (in_list 0 1 x (omega arith) (role_by x true r e f))) p
    by false true e f p = subst (λ c. LeadsTo managed_rules opening_replay (if c then line 0 h ++ x ∷ [] else line 0 h) (end_of h).managed)
        (sym (in_list 0 (reader_line x.entry.made.caller) x (omega arith) (role_by x false true e f) ∙ reader_apart 0 x.entry.made.caller x.entry.made.op (event_of x h l) f (omega arith))) p
    by false false e f p =
        let w = side_of x h l f in
        subst (λ c. LeadsTo managed_rules opening_replay (if c then line 0 h ++ x ∷ [] else line 0 h) (managed_past (end_of h).managed x.entry.made x.told false false))
        (sym (in_list 0 0 x (omega arith) (role_by x false false e f)))
        (LeadsTo-push managed_rules opening_replay (line 0 h) (end_of h).managed x (managed_past (end_of h).managed x.entry.made x.told false false) p record {
          lawful = (
            record { event = w.comes.event; side = e },
            record {
              own = f;
              tells = w.tells;
              lawful = subst (λ b. SideLawful b (given (end_of h) x.told) x.entry.made (bare_told x.told)) e w.comes.lawful;
            },
          );
          state = refl;
        })

peer-list : (h : List Noted) → Lawful h → LeadsTo peer_rules opening_peer_replay (line 1 h) (end_of h).peer
peer-list [] l = refl
peer-list (x ∷ h) l = by (is_peer_event x.entry.made.caller x.entry.made.op) (is_read x.entry.made.op) refl refl (peer-list h l.1)
  where
    by : (b r : Bool) → is_peer_event x.entry.made.caller x.entry.made.op ≡ b → is_read x.entry.made.op ≡ r → LeadsTo peer_rules opening_peer_replay (line 1 h) (end_of h).peer
        → LeadsTo peer_rules opening_peer_replay (if is_in 1 x then line 1 h ++ x ∷ [] else line 1 h) (peer_after (end_of h).peer x.entry.made (bare_told x.told) b)
    by false true e f p = subst (λ c. LeadsTo peer_rules opening_peer_replay (if c then line 1 h ++ x ∷ [] else line 1 h) (end_of h).peer)
        (sym (in_list 1 (reader_line x.entry.made.caller) x (omega arith) (role_by x false true e f) ∙ reader_apart 1 x.entry.made.caller x.entry.made.op (event_of x h l) f (omega arith))) p
    by false false e f p = subst (λ c. LeadsTo peer_rules opening_peer_replay (if c then line 1 h ++ x ∷ [] else line 1 h) (end_of h).peer)
        (sym (in_list 1 0 x (omega arith) (role_by x false false e f))) p
    by true r e f p = subst (λ c. LeadsTo peer_rules opening_peer_replay (if c then line 1 h ++ x ∷ [] else line 1 h) (peer_after (end_of h).peer x.entry.made (bare_told x.told) true))
        (sym (in_list 1 1 x (omega arith) (role_by x true r e f)))
        (LeadsTo-push peer_rules opening_peer_replay (line 1 h) (end_of h).peer x (peer_after (end_of h).peer x.entry.made (bare_told x.told) true) p record {
          lawful = (record { event = event_of x h l; side = e }, subst (PeerLawful (end_of h).peer x.entry.made) (peer_told_whole x h l e) (peer_of x h l e));
          state = ap (λ z. peer_after (end_of h).peer x.entry.made z true) (peer_told_whole x h l e);
        })

-- in each line numbers rise, since those behind an entry are smaller
abbrev numbers : List Noted → List ℕ
numbers ns = map (λ e. e.number) (entries ns)

all-numbers : (n : ℕ) (xs : List Noted) → ((e : Noted) → InPast xs e → e.entry.number < n) → All (λ z. z < n) (numbers xs)
all-numbers n [] f = All-nil (λ z. z < n)
all-numbers n (x ∷ xs) f = All-cons (λ z. z < n) x.entry.number (numbers xs) (f x (inl refl)) (all-numbers n xs (λ e p. f e (inr p)))

numbers-append : (xs ys : List Noted) → numbers (xs ++ ys) ≡ numbers xs ++ numbers ys
numbers-append [] ys = refl
numbers-append (x ∷ xs) ys = ap (λ l. x.entry.number ∷ l) (numbers-append xs ys)

line-rises : (i : ℕ) (h : List Noted) → Lawful h → Rises (numbers (line i h))
line-rises i [] l = tt
line-rises i (x ∷ h) l = by (is_in i x) (line-rises i h l.1)
  where
    by : (b : Bool) → Rises (numbers (line i h)) → Rises (numbers (if b then line i h ++ x ∷ [] else line i h))
    by true r = subst Rises (sym (numbers-append (line i h) (x ∷ [])))
        (Rises-push (numbers (line i h)) x.entry.number r (all-numbers x.entry.number (line i h) (λ e p. below x h e l.0 l.1 (in-line i h e p))))
    by false r = r

pub known_lists_are_lawful : KnownListsAreLawful
known_lists_are_lawful h l = record {
  managed = managed-list h l;
  peer = peer-list h l;
  rise = λ i. line-rises i h l;
  managed_side = record { rise = line-rises 0 h l; noted = line 0 h; same = refl; leads = managed-list h l };
  peer_side = record { rise = line-rises 1 h l; noted = line 1 h; same = refl; leads = peer-list h l };
}

-- a thread is known by its place
place-tells : (s t : Thread) → IsThread s → IsThread t → nat_eq (caller_place t) (caller_place s) ≡ is_thread s t
place-tells (M a) (M b) x y = either (cases_eq a b)
  where
    either : (a ≡ b) ⊎ (a ≢ b) → nat_eq b a ≡ nat_eq a b
    either (inl e) = eq-eqb b a (sym e) ∙ sym (eq-eqb a b e)
    either (inr n) = ne_eqb b a (λ q. n (sym q)) ∙ sym (ne_eqb a b n)
place-tells (P a) (P b) x y = either (cases_eq a b)
  where
    either : (a ≡ b) ⊎ (a ≢ b) → nat_eq (8 + b) (8 + a) ≡ nat_eq a b
    either (inl e) = eq-eqb (8 + b) (8 + a) (omega (arith, e)) ∙ sym (eq-eqb a b e)
    either (inr n) = ne_eqb (8 + b) (8 + a) (λ q. n (omega (arith, q))) ∙ sym (ne_eqb a b n)
place-tells (M a) (P b) x y = ne_eqb (8 + b) a (let l = x.1 in let m = y.0 in λ q. omega (arith, q, l, m))
place-tells (P a) (M b) x y = ne_eqb b (8 + a) (let l = y.1 in let m = x.0 in λ q. omega (arith, q, l, m))
place-tells (M a) C x y = ne_eqb 0 a (let l = x.0 in λ q. omega (arith, q, l))
place-tells C (M b) x y = ne_eqb b 0 (let l = y.0 in λ q. omega (arith, q, l))
place-tells (P a) C x y = ne_eqb 0 (8 + a) (λ q. omega (arith, q))
place-tells C (P b) x y = ne_eqb (8 + b) 0 (λ q. omega (arith, q))
place-tells C C x y = refl

ten_more : (a b : ℕ) → nat_eq (a + 10) (b + 10) ≡ nat_eq a b
ten_more a b = either (cases_eq a b)
  where
    either : (a ≡ b) ⊎ (a ≢ b) → nat_eq (a + 10) (b + 10) ≡ nat_eq a b
    either (inl e) = eq-eqb (a + 10) (b + 10) (omega (arith, e)) ∙ sym (eq-eqb a b e)
    either (inr n) = ne_eqb (a + 10) (b + 10) (λ q. n (omega (arith, q))) ∙ sym (ne_eqb a b n)

in_own_line : (e : Entry) (t : Thread) → IsThread e.made.caller → IsThread t → list_line e.made.caller e.made.op < 10 → stands_in (caller_line t) e ≡ is_thread e.made.caller t
in_own_line e t x y l = ap (λ c. c || nat_eq (caller_line t) (caller_line e.made.caller)) (ne_eqb (caller_line t) (list_line e.made.caller e.made.op) (λ q. omega (arith, q, l)))
    ∙ (ten_more (caller_place t) (caller_place e.made.caller) ∙ place-tells e.made.caller t x y)

-- callers are threads
abbrev AreThreads : List Entry → Type 0
AreThreads [] = Unit {0}
AreThreads (e ∷ es) = (IsThread e.made.caller × (list_line e.made.caller e.made.op < 10)) × AreThreads es

pub event-thread : (t : Thread) (o : Op) → IsEvent t o → IsThread t
event-thread C o e = tt
event-thread (M n) (op.Line a) e = e.0.0
event-thread (M n) (op.Make s f) e = e.0
event-thread (M n) (op.Adopt v k f p h) e = e.0
event-thread (M n) (op.Lend v x) e = e.0
event-thread (M n) (op.Land h x) e = e.0
event-thread (M n) (op.Grip x) e = e.0
event-thread (M n) (op.Meet v s f p h) e = e.0
event-thread (M n) (op.Give v) e = e.0
event-thread (M n) (op.Release h) e = e
event-thread (M n) op.Begin e = absurd (⊎_elim (λ x. x) (λ x. x) e)
event-thread (M n) op.Sweep e = absurd (⊎_elim (λ x. x) (λ x. x) e)
event-thread (M n) _ e = absurd e
event-thread (P n) (op.Line a) e = e.0.0
event-thread (P n) (op.Make s f) e = absurd e.0
event-thread (P n) (op.Adopt v k f p h) e = absurd e.0
event-thread (P n) (op.Lend v x) e = absurd e.0
event-thread (P n) (op.Land h x) e = absurd e.0
event-thread (P n) (op.Grip x) e = absurd e.0
event-thread (P n) (op.Meet v s f p h) e = absurd e.0
event-thread (P n) (op.Give v) e = absurd e.0
event-thread (P n) op.Begin e = ⊎_elim (λ x. x) (λ x. absurd x) e
event-thread (P n) op.Sweep e = ⊎_elim (λ x. x) (λ x. absurd x) e
event-thread (P n) _ e = absurd e

threads : (h acc : List Noted) → Lawful h → AreThreads (entries acc) → AreThreads (entries (turned acc h))
threads [] acc l a = a
threads (x ∷ h) acc l a = threads h (x ∷ acc) l.1 ((event-thread x.entry.made.caller x.entry.made.op (event_of x h l), role_bound x.entry.made.caller x.entry.made.op (event_of x h l)), a)

own_line : (whole : List Kept) → AreThreads (entries_kept whole) → (t : Thread) → IsThread t → entries_kept (kept_in (caller_line t) whole) ≡ made_by t (entries_kept whole)
own_line [] all t y = refl
own_line (k ∷ whole) all t y =
    ap (λ b. entries_kept (if b then k ∷ kept_in (caller_line t) whole else kept_in (caller_line t) whole)) (in_own_line k.entry t all.0.0 y all.0.1)
    ∙ by (is_thread k.entry.made.caller t) (own_line whole all.1 t y)
  where
    by : (b : Bool) → entries_kept (kept_in (caller_line t) whole) ≡ made_by t (entries_kept whole)
        → entries_kept (if b then k ∷ kept_in (caller_line t) whole else kept_in (caller_line t) whole) ≡ (if b then k.entry ∷ made_by t (entries_kept whole) else made_by t (entries_kept whole))
    by true q = ap (λ l. k.entry ∷ l) q
    by false q = q

pub own_line_is_made_by_caller : OwnLineIsMadeByCaller
own_line_is_made_by_caller whole lines k numbered all t y e =
    let w = known_whole_is_history whole lines k numbered all in
    ap entries_kept e ∙ own_line whole (subst AreThreads (sym (entries_shown (turned [] k.past)) ∙ ap entries_kept w.same) (threads k.past [] k.lawful tt)) t y
