-- Whole lists, by number and by event.
--
-- What stands in a line is an entry of the one history that is in the line. Entries of the history have the numbers
-- from 0 on, so each number below its length has one entry, which stands in the list of its role; and two with one
-- number are one. A line below 10 is a role's, so an entry stands in at most one of them. An event tells its role, so
-- each line can be read off the entries alone.
use Rattle.std.proofs.Common.{◌≡◌, ◌⊎◌, inl, inr, ⊎_elim, ℕ, zero, suc, ◌+◌, ◌-◌, ◌<◌, ◌≤◌, Bool, true, false, ◌||◌, List, [], ◌∷◌, length, refl, sym, ap, ◌∙◌, subst, arith, true≢false}
use Rattle.std.specs.Prelude.{if◌then◌else◌, ◌==◌}
use Rattle.std.proofs.lemmas.Bool.{cases_Bool, cases_eq}
use Rattle.joint_machine.specs.declared.names.Thread.{Thread}
use Rattle.joint_machine.specs.declared.names.Thread.TheVariants.{M, P, C}
use Rattle.joint_machine.specs.declared.events.Made.{Made}
use Rattle.joint_machine.specs.declared.events.Op.{Op}
use Rattle.joint_machine.specs.declared.events.Op.TheVariants as op
use Rattle.joint_machine.specs.Control.{caller_place}
use Rattle.joint_machine.specs.Histories.{NumberedFrom}
use Rattle.joint_machine.specs.Lines.{IsThread, is_peer_event, is_read}
use Rattle.order_table.specs.declared.views.Role.TheVariants as role
use Rattle.order_table.specs.declared.views.KeptEntry.{KeptEntry}
use Rattle.joint_machine.specs.HistoryLines.{caller_line, entries_in, list_line, reader_line}
use Rattle.order_table.specs.Views.{IsInRole}
use Rattle.order_table.specs.Rule.{Item, IsItem, is_in, of_line, RunsFrom}
use Rattle.order_table.specs.Facts.{In, RuleKeepsLists, RolesDiffer, CallersDiffer, entries_of, line_entries, EntriesTellLines}
use Rattle.order_table.proofs.Lines.{role_in, caller_in, in_cases, bounded}

-- an entry of the history
abbrev Has : List Item → Item → Type 0
Has [] x = ⊥
Has (y ∷ ys) x = (y ≡ x) ⊎ Has ys x

-- what stands in a line is an entry of the history that is in the line, and the other way round
record Comes (i : ℕ) (xs : List Item) (a : KeptEntry) : Type 0 where
  item : Item
  there : Has xs item
  into : is_in i item ≡ true
  same : item.kept ≡ a

comes : (i : ℕ) (xs : List Item) (a : KeptEntry) → In (of_line i xs) a → Comes i xs a
comes i [] a s = absurd s
comes i (x ∷ xs) a s = ⊎_elim
    (λ (e : is_in i x ≡ true). ⊎_elim
    (λ (here : x.kept ≡ a). record { item = x; there = inl refl; into = e; same = here })
    (λ (later : In (of_line i xs) a). behind (comes i xs a later))
    (subst (λ b. In (if b then x.kept ∷ of_line i xs else of_line i xs) a) e s))
    (λ (e : is_in i x ≡ false). behind (comes i xs a (subst (λ b. In (if b then x.kept ∷ of_line i xs else of_line i xs) a) e s)))
    (cases_Bool (is_in i x))
  where
    behind : Comes i xs a → Comes i (x ∷ xs) a
    behind c = record { item = c.item; there = inr c.there; into = c.into; same = c.same }

goes : (i : ℕ) (xs : List Item) (x : Item) → Has xs x → is_in i x ≡ true → In (of_line i xs) x.kept
goes i [] x h e = absurd h
goes i (y ∷ ys) x (inl same) e = subst (λ b. In (if b then y.kept ∷ of_line i ys else of_line i ys) x.kept) (sym (subst (λ z. is_in i z ≡ true) (sym same) e)) (inl (ap (λ z. z.kept) same))
goes i (y ∷ ys) x (inr later) e = either_way (is_in i y) (goes i ys x later e)
  where
    either_way : (b : Bool) → In (of_line i ys) x.kept → In (if b then y.kept ∷ of_line i ys else of_line i ys) x.kept
    either_way true there = inr there
    either_way false there = there

-- an entry's number is its place
record Placed (n : ℕ) (xs : List Item) (x : Item) : Type 0 where
  low : n ≤ x.kept.entry.number
  high : x.kept.entry.number < n + length xs
  is : IsItem x.kept.entry.number x

placed : (n : ℕ) (xs : List Item) (x : Item) → RunsFrom n xs → Has xs x → Placed n xs x
placed n [] x r h = absurd h
placed n (y ∷ ys) x r (inl e) = let number = r.0.number in subst (Placed n (y ∷ ys)) e
    record { low = omega arith; high = omega arith; is = record { number = refl; caller = r.0.caller; stands = r.0.stands } }
placed n (y ∷ ys) x r (inr h) = let p = placed (n + 1) ys x r.1 h in let low = p.low in let high = p.high in record { low = omega arith; high = omega arith; is = p.is }

one_number : (n : ℕ) (xs : List Item) (x y : Item) → RunsFrom n xs → Has xs x → Has xs y → x.kept.entry.number ≡ y.kept.entry.number → x ≡ y
one_number n [] x y r h k e = absurd h
one_number n (z ∷ zs) x y r (inl a) (inl b) e = sym a ∙ b
one_number n (z ∷ zs) x y r (inl a) (inr k) e = let here = ap (λ (i : Item). i.kept.entry.number) a in let number = r.0.number in let low = (placed (n + 1) zs y r.1 k).low in absurd (omega arith)
one_number n (z ∷ zs) x y r (inr h) (inl b) e = let here = ap (λ (i : Item). i.kept.entry.number) b in let number = r.0.number in let low = (placed (n + 1) zs x r.1 h).low in absurd (omega arith)
one_number n (z ∷ zs) x y r (inr h) (inr k) e = one_number (n + 1) zs x y r.1 h k e

record Found (n : ℕ) (xs : List Item) : Type 0 where
  item : Item
  there : Has xs item
  number : item.kept.entry.number ≡ n

found : (n k : ℕ) (xs : List Item) → RunsFrom n xs → k < length xs → Found (n + k) xs
found n k [] r l = absurd (omega arith)
found n zero (x ∷ xs) r l = record { item = x; there = inl refl; number = r.0.number ∙ omega arith }
found n (suc k) (x ∷ xs) r l = let f = found (n + 1) k xs r.1 (omega arith) in record { item = f.item; there = inr f.there; number = f.number ∙ omega arith }

-- a line below 10 is that of the entry's role
of_role : (r : ℕ) (x : Item) → r < 10 → is_in r x ≡ true → r ≡ x.role
of_role r x l e = ⊎_elim (λ s. s) (λ s. let s' : r ≡ caller_place x.kept.entry.made.caller + 10 = s in absurd (omega arith)) (in_cases r x e)

pub callers_differ : CallersDiffer
callers_differ (M m) (M n) a b e = let same : m ≡ n = omega arith in ap M same
callers_differ (M m) (P n) a b e = let high = a.1 in let low = b.0 in absurd (omega arith)
callers_differ (M m) C a b e = let low = a.0 in absurd (omega arith)
callers_differ (P m) (M n) a b e = let high = b.1 in let low = a.0 in absurd (omega arith)
callers_differ (P m) (P n) a b e = let same : m ≡ n = omega arith in ap P same
callers_differ (P m) C a b e = absurd (omega arith)
callers_differ C (M n) a b e = let low = b.0 in absurd (omega arith)
callers_differ C (P n) a b e = absurd (omega arith)
callers_differ C C a b e = refl

pub roles_differ : RolesDiffer
roles_differ role.Managed role.Managed a b e = refl
roles_differ role.Managed role.Peer a b e = absurd (omega arith)
roles_differ role.Managed (role.Reader n) a b e = absurd (omega arith)
roles_differ role.Peer role.Managed a b e = absurd (omega arith)
roles_differ role.Peer role.Peer a b e = refl
roles_differ role.Peer (role.Reader n) a b e = let low = b.0 in absurd (omega arith)
roles_differ (role.Reader m) role.Managed a b e = absurd (omega arith)
roles_differ (role.Reader m) role.Peer a b e = let low = a.0 in absurd (omega arith)
roles_differ (role.Reader m) (role.Reader n) a b e = let same : m ≡ n = omega arith in ap role.Reader same

-- a caller's line is that of the entry's caller
of_own : (t : Thread) (x : Item) → IsThread t → IsItem x.kept.entry.number x → is_in (caller_line t) x ≡ true → x.kept.entry.made.caller ≡ t
of_own t x is item e = ⊎_elim
    (λ s. let s' : caller_place t + 10 ≡ x.role = s in let one = item.stands.one in absurd (omega arith))
    (λ s. callers_differ x.kept.entry.made.caller t item.caller is (sym s))
    (in_cases (caller_line t) x e)

pub keeps_lists : RuleKeepsLists
keeps_lists s r = record {
  lists = λ i. of_line i r.whole;
  begins = λ j v at_j i. (r.each_seat j v at_j).begins i;
  longest = λ i l. let h = r.each_line i l in let k = r.each_seat (r.owner i) h.view h.there in record {
    seat = r.owner i;
    view = h.view;
    there = h.there;
    known = ⊎_elim (λ o. inl (k.owned i o).1) (λ o. inr (k.heard_owned i o).1) h.owns;
  };
  whole = λ j v at_j i o. ((r.each_seat j v at_j).owned i o).1;
  owner = λ j k v w at_j at_k i o p. sym ((r.each_seat j v at_j).owned i o).0 ∙ ((r.each_seat k w at_k).owned i p).0;
  counted = λ n l. let is = r.words.1 in let f = found 0 n r.whole r.numbers (omega arith) in let p = placed 0 r.whole f.item r.numbers f.there in let one = p.is.stands.one in record {
    role = f.item.role;
    one = omega arith;
    entry = f.item.kept;
    stands = goes f.item.role r.whole f.item f.there (role_in f.item.role f.item refl);
    number = f.number ∙ omega arith;
  };
  below = λ q a l st. let c = comes q r.whole a st in let high = (placed 0 r.whole c.item r.numbers c.there).high in
      let is = r.words.1 in let same = ap (λ (k : KeptEntry). k.entry.number) c.same in omega arith;
  once = λ q p a b lq lp sa sb e. let c = comes q r.whole a sa in let d = comes p r.whole b sb in
      let same = one_number 0 r.whole c.item d.item r.numbers c.there d.there (ap (λ (k : KeptEntry). k.entry.number) c.same ∙ (e ∙ sym (ap (λ (k : KeptEntry). k.entry.number) d.same))) in
      (of_role q c.item lq c.into ∙ (ap (λ x. x.role) same ∙ sym (of_role p d.item lp d.into)), sym c.same ∙ (ap (λ x. x.kept) same ∙ d.same));
  limit = r.limit;
  unwrapped = let long = bounded r.whole 0 r.numbers r.limit in let is = r.words.1 in omega arith;
  own = λ t a is st. let c = comes (caller_line t) r.whole a st in let p = placed 0 r.whole c.item r.numbers c.there in let one = p.is.stands.one in (
    ap (λ (k : KeptEntry). k.entry.made.caller) (sym c.same) ∙ of_own t c.item is p.is c.into,
    (c.item.role, omega arith, subst (In (of_line c.item.role r.whole)) c.same (goes c.item.role r.whole c.item c.there (role_in c.item.role c.item refl))),
  );
  made = λ q a l st. let c = comes q r.whole a st in subst (λ (k : KeptEntry). In (of_line (caller_line k.entry.made.caller) r.whole) k) c.same
      (goes (caller_line c.item.kept.entry.made.caller) r.whole c.item c.there (caller_in (caller_line c.item.kept.entry.made.caller) c.item refl));
}

-- an event tells the role
read_of_managed : (n : ℕ) (o : Op) → is_read o ≡ true → is_peer_event (M n) o ≡ false
read_of_managed n (op.Line a) e = refl
read_of_managed n _ e = absurd (true≢false (sym e))

pub role_told : (q : ℕ) (m : Made) → IsInRole q m → q ≡ list_line m.caller m.op
role_told q m s = let one = s.one in ⊎_elim
    (λ (e : q ≡ 0). e ∙ sym (ap (λ (b : Bool × Bool). if b.0 then 1 else if b.1 then reader_line m.caller else 0) (λ i. ((s.managed e).1 i, (s.managed e).0 i))))
    (λ n. ⊎_elim
    (λ (e : q ≡ 1). e ∙ sym (ap (λ b. if b then 1 else if is_read m.op then reader_line m.caller else 0) (s.peer e).1))
    (λ n'. let t = s.reader (omega (arith, n, n')) in let here : q ≡ reader_line (M (q - 1)) = omega (arith, n) in
    here ∙ sym (ap (λ (b : Bool × Bool × Thread). if b.0 then 1 else if b.1 then reader_line b.2 else 0)
    (λ i. ((ap (λ u. is_peer_event u m.op) t.1 ∙ read_of_managed (q - 1) m.op t.0) i, t.0 i, t.1 i))))
    (cases_eq q 1))
    (cases_eq q 0)

numbered_from : (n : ℕ) (xs : List Item) → RunsFrom n xs → NumberedFrom n (entries_of xs)
numbered_from n [] r = tt
numbered_from n (x ∷ xs) r = (r.0.number, numbered_from (n + 1) xs r.1)

lines_told : (i n : ℕ) (xs : List Item) → RunsFrom n xs → line_entries (of_line i xs) ≡ entries_in i (entries_of xs)
lines_told i n [] r = refl
lines_told i n (x ∷ xs) r = let rest = lines_told i (n + 1) xs r.1 in
    either_way (is_in i x) rest ∙ ap (λ b. if b then x.kept.entry ∷ entries_in i (entries_of xs) else entries_in i (entries_of xs))
    (ap (λ q. (i == q) || (i == caller_line x.kept.entry.made.caller)) (role_told x.role x.kept.entry.made r.0.stands))
  where
    either_way : (b : Bool) → line_entries (of_line i xs) ≡ entries_in i (entries_of xs)
        → line_entries (if b then x.kept ∷ of_line i xs else of_line i xs) ≡ (if b then x.kept.entry ∷ entries_in i (entries_of xs) else entries_in i (entries_of xs))
    either_way true e = ap (λ es. x.kept.entry ∷ es) e
    either_way false e = e

pub tell_lines : EntriesTellLines
tell_lines whole r = record { numbered = numbered_from 0 whole r; lines = λ i. lines_told i 0 whole r }
