-- Once both sides' lines are known whole, the past is the whole run, latest entry first. The latest entry of the past
-- and that of the run are one: were they in different lists, each would stand in the other behind its latest entry, and
-- so have a smaller number than the other.
use Rattle.std.proofs.Common.{◌≡◌, ◌≢◌, inl, inr, ⊎_elim, ℕ, suc, ◌+◌, ◌<◌, Bool, true, false, List, [], ◌∷◌, ◌++◌, length, map, refl, sym, ap, ◌∙◌, subst, arith, true≢false}
use Rattle.std.specs.Prelude.{if◌then◌else◌}
use Rattle.std.proofs.lemmas.Bool.{cases_Bool, cases_eq}
use Rattle.std.proofs.lemmas.List.{append-nil}
use Rattle.joint_machine.specs.declared.names.Thread.{Thread}
use Rattle.joint_machine.specs.declared.names.Thread.TheVariants.{M, P, C}
use Rattle.joint_machine.specs.declared.lines.Act.TheVariants as act
use Rattle.joint_machine.specs.declared.events.Op.{Op}
use Rattle.joint_machine.specs.declared.events.Op.TheVariants as op
use Rattle.joint_machine.specs.Lines.{IsEvent, is_peer_event, is_read}
use Rattle.joint_machine.specs.HistoryLines.{list_line, reader_line}
use Rattle.joint_machine.specs.Linked.{opening_linkage}
use Rattle.known_laws.specs.Known.{Comes}
use Rattle.joint_machine.specs.Told.{Noted}
use Rattle.known_laws.specs.Pasts.{role_of, own_of, is_in, line, of_line, end_of, Lawful, bare}
use Rattle.known_laws.specs.PastEntries.{InPast, turned}
use Rattle.known_laws.specs.Growing.{Kept, shown, all_shown, entries_kept, untold, AllCome, past_replayed, KnownWholeIsHistory}
use Rattle.known_laws.proofs.PastLines.{in_right, in_role, in_own, in_which, line-in, line_in, line_out, in-line, snoc_same, snoc_some}
use Rattle.known_laws.proofs.PastsJoin.{below}
use Rattle.known_laws.proofs.Agreeing.{line_bare, in_bare}
use Rattle.known_laws.proofs.Growing.{bare_entries, of_line_untold}
use Rattle.joint_machine.specs.Histories.{NumberedFrom}

-- numbers fall, and fall by one to 0
abbrev Fall : List Noted → Type 0
Fall [] = Unit {0}
Fall (x ∷ h) = ((e : Noted) → InPast h e → e.entry.number < x.entry.number) × Fall h

abbrev FallByOne : List Noted → Type 0
FallByOne [] = Unit {0}
FallByOne (x ∷ h) = (x.entry.number ≡ length h) × FallByOne h

falls : (h : List Noted) → Lawful h → Fall (map bare h)
falls [] l = tt
falls (x ∷ h) l = ((λ e p. let z = in_bare h e p in subst (λ (w : Noted). w.entry.number < x.entry.number) z.2 (below x h z.0 l.0 l.1 z.1)), falls h l.1)

number_below : (h : List Noted) (e : Noted) → FallByOne h → InPast h e → e.entry.number < length h
number_below [] e f p = absurd p
number_below (x ∷ h) e f p = ⊎_elim
    (λ (q : x ≡ e). let n : x.entry.number ≡ e.entry.number = ap (λ (z : Noted). z.entry.number) q in let m = f.0 in omega (arith, n, m))
    (λ q. let m = number_below h e f.1 q in omega (arith, m)) p

falls_turned : (acc : List Noted) (w : List Kept) → FallByOne acc → NumberedFrom (length acc) (entries_kept w) → FallByOne (turned acc (map untold w))
falls_turned acc [] f r = f
falls_turned acc (x ∷ w) f r = falls_turned (untold x ∷ acc) w (r.0, f) (subst (λ n. NumberedFrom n (entries_kept w)) (let e : length acc + 1 ≡ suc (length acc) = omega arith in e) r.1)

-- an event's list is one of ten
pub role_bound : (t : Thread) (o : Op) → IsEvent t o → list_line t o < 10
role_bound t o e = by (is_peer_event t o) (is_read o) refl
  where
    reader : (t : Thread) (o : Op) → IsEvent t o → is_read o ≡ true → reader_line t < 10
    reader (M n) (op.Line (act.Read k)) e r = let l = e.0.0.1 in omega (arith, l)
    reader (M n) (op.Line (act.Await k)) e r = let l = e.0.0.1 in omega (arith, l)
    reader (P n) o e r = omega arith
    reader C o e r = omega arith
    reader (M n) o e r = absurd (true≢false (sym r))

    by : (p r : Bool) → is_read o ≡ r → (if p then 1 else if r then reader_line t else 0) < 10
    by true r f = omega arith
    by false true f = reader t o e f
    by false false f = omega arith

abbrev AreSmall : List Noted → Type 0
AreSmall h = (x : Noted) → InPast h x → role_of x < 10

pub lawful_small : (h : List Noted) → Lawful h → (x : Noted) → InPast h x → role_of x < 10
lawful_small [] l x p = absurd p
lawful_small (y ∷ h) l x p = ⊎_elim (λ (q : y ≡ x). subst (λ z. role_of z < 10) q (role_bound y.entry.made.caller y.entry.made.op (event_of (is_read y.entry.made.op) l.0.comes)))
    (λ q. lawful_small h l.1 x q) p
  where
    event_of : (r : Bool) → Comes r (end_of h) y → IsEvent y.entry.made.caller y.entry.made.op
    event_of true w = w.event
    event_of false w = w.comes.event

role_out : (i : ℕ) (x : Noted) → i < 10 → i ≢ role_of x → is_in i x ≡ false
role_out i x l ne = ⊎_elim
    (λ (t : is_in i x ≡ true). ⊎_elim (λ e. absurd (ne e)) (λ (e : i ≡ own_of x). absurd (omega (arith, e, l))) (in_which i x t))
    (λ f. f) (cases_Bool (is_in i x))

-- in the line of its list
here : (x : Noted) (h : List Noted) → line (role_of x) (x ∷ h) ≡ line (role_of x) h ++ x ∷ []
here x h = line_in (role_of x) x h (in_role x)

stands : (x y : Noted) (h w : List Noted) → role_of x < 10 → line (role_of x) (x ∷ h) ≡ line (role_of x) (y ∷ w) → role_of x ≢ role_of y → InPast w x
stands x y h w small e ne = in-line (role_of x) w x (subst (λ l. InPast l x)
    (sym (here x h) ∙ (e ∙ line_out (role_of x) y w (role_out (role_of x) y small ne))) (in_right (line (role_of x) h) (x ∷ []) x (inl refl)))

same_whole : (h w : List Noted) → Fall h → FallByOne w → AreSmall h → AreSmall w → ((i : ℕ) → i < 10 → line i h ≡ line i w) → h ≡ w
same_whole [] [] s d b c e = refl
same_whole [] (y ∷ w) s d b c e = absurd (snoc_some (line (role_of y) w) y (sym (here y w) ∙ sym (e (role_of y) (c y (inl refl)))))
same_whole (x ∷ h) [] s d b c e = absurd (snoc_some (line (role_of x) h) x (sym (here x h) ∙ e (role_of x) (b x (inl refl))))
same_whole (x ∷ h) (y ∷ w) s d b c e = ⊎_elim
    (λ (r : role_of x ≡ role_of y).
    let lines = snoc_same (line (role_of x) h) (line (role_of x) w) x y (sym (here x h) ∙ (e (role_of x) small ∙ line_in (role_of x) y w (subst (λ i. is_in i y ≡ true) (sym r) (in_role y)))) in
    let rest = same_whole h w s.1 d.1 (λ z p. b z (inr p)) (λ z p. c z (inr p)) (λ i l. ⊎_elim
    (λ (q : i ≡ role_of x). subst (λ i. line i h ≡ line i w) (sym q) lines.0)
    (λ q. sym (line_out i x h (role_out i x l q)) ∙ (e i l ∙ line_out i y w (role_out i y l (λ z. q (z ∙ sym r)))))
    (cases_eq i (role_of x))) in
    λ i. lines.1 i ∷ rest i)
    (λ (ne : role_of x ≢ role_of y).
    let u = number_below w x d.1 (stands x y h w small (e (role_of x) small) ne) in
    let v = s.0 y (stands y x w h little (sym (e (role_of y) little)) (λ q. ne (sym q))) in
    let t = d.0 in
    absurd (omega (arith, u, v, t)))
    (cases_eq (role_of x) (role_of y))
  where
    small : role_of x < 10
    small = b x (inl refl)

    little : role_of y < 10
    little = c y (inl refl)

-- lists the other way round
pub turned_twice : {A : Type 0} (a b c : List A) → turned a (turned b c) ≡ turned (c ++ a) b
turned_twice a b [] = refl
turned_twice a b (x ∷ c) = turned_twice a (x ∷ b) c

line_turned : (i : ℕ) (acc w : List Noted) → line i (turned acc w) ≡ line i acc ++ of_line i w
line_turned i acc [] = sym (append-nil (line i acc))
line_turned i acc (x ∷ w) = line_turned i (x ∷ acc) w ∙ by (is_in i x)
  where
    push : (xs : List Noted) (ys : List Noted) → (xs ++ x ∷ []) ++ ys ≡ xs ++ x ∷ ys
    push [] ys = refl
    push (z ∷ xs) ys = ap (λ l. z ∷ l) (push xs ys)

    by : (b : Bool) → (if b then line i acc ++ x ∷ [] else line i acc) ++ of_line i w ≡ line i acc ++ (if b then x ∷ of_line i w else of_line i w)
    by true = push (line i acc) (of_line i w)
    by false = refl

bare_turned : (acc h : List Noted) → map bare (turned acc h) ≡ turned (map bare acc) (map bare h)
bare_turned acc [] = refl
bare_turned acc (x ∷ h) = bare_turned (x ∷ acc) h

shown_bare : (xs : List Noted) → all_shown (map bare xs) ≡ all_shown xs
shown_bare [] = refl
shown_bare (x ∷ xs) = ap (λ l. shown x ∷ l) (shown_bare xs)

shown_untold : (xs : List Kept) → all_shown (map untold xs) ≡ xs
shown_untold [] = refl
shown_untold (x ∷ xs) = ap (λ l. x ∷ l) (shown_untold xs)

all_come : (h acc : List Noted) → Lawful h → AllCome (end_of h) acc → AllCome opening_linkage (turned acc h)
all_come [] acc l a = a
all_come (x ∷ h) acc l a = all_come h (x ∷ acc) l.1 (l.0.comes, a)

all_end : (h acc : List Noted) → past_replayed opening_linkage (turned acc h) ≡ past_replayed (end_of h) acc
all_end [] acc = refl
all_end (x ∷ h) acc = all_end h (x ∷ acc)

bare_small : (h : List Noted) → AreSmall h → AreSmall (map bare h)
bare_small h s x p = let z = in_bare h x p in subst (λ y. role_of y < 10) z.2 (s z.0 z.1)

pub known_whole_is_history : KnownWholeIsHistory
known_whole_is_history whole lines k numbered all = record {
  same = sym (shown_bare (turned [] k.past)) ∙ (ap all_shown (bare_turned [] k.past ∙ (ap (turned []) is ∙ (turned_twice [] [] (map untold whole) ∙ append-nil (map untold whole))))
      ∙ shown_untold whole);
  lawful = all_come k.past [] k.lawful tt;
  ends = all_end k.past [];
}
  where
    w : List Noted
    w = turned [] (map untold whole)

    whole_line : (i : ℕ) → line i (map bare k.past) ≡ line i w
    whole_line i = line_bare i k.past ∙ (bare_entries (line i k.past) ∙ (ap (map untold) (sym (k.same i) ∙ all i) ∙ (sym (of_line_untold i whole) ∙ sym (line_turned i [] (map untold whole)))))

    turned_falls : FallByOne w
    turned_falls = falls_turned [] whole tt numbered

    small : AreSmall (map bare k.past)
    small = bare_small k.past (lawful_small k.past k.lawful)

    -- each entry of the whole stands in its caller's line, so in the past
    whole_small : AreSmall w
    whole_small x p = small x (in-line (own_of x) (map bare k.past) x (subst (λ l. InPast l x) (sym (whole_line (own_of x))) (line-in (own_of x) w x p (in_own x))))

    is : map bare k.past ≡ w
    is = same_whole (map bare k.past) w (falls k.past k.lawful) turned_falls small whole_small (λ i l. whole_line i)
