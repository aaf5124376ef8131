-- A history has one finding: what is told of entries in order is one, so two pasts of the same entries are one; and an
-- entry that is in order behind those before it fails no test.
use Rattle.std.proofs.Common.{◌≡◌, inl, inr, ℕ, zero, suc, ◌+◌, ◌<◌, ◌≤◌, Bool, true, false, List, [], ◌∷◌, ◌++◌, length, take, Some, refl, sym, ap, ◌∙◌, subst, arith, append_assoc}
use Rattle.std.specs.Prelude.{slice_get}
use Rattle.std.proofs.lemmas.List.{append-nil, length-map}
use Rattle.std.proofs.lemmas.Option.{same_Some}
use Rattle.std.proofs.Math.Seq.{take-append_seam}
use Rattle.joint_machine.specs.declared.events.Entry.{Entry}
use Rattle.joint_machine.specs.Histories.{Finished}
use Rattle.joint_machine.specs.Lines.{is_read}
use Rattle.joint_machine.specs.Told.{Told, Noted}
use Rattle.joint_machine.proofs.Deciding.{none_some}
use Rattle.known_laws.specs.PastEntries.{entries, turned}
use Rattle.known_laws.specs.Telling.{MayBeTold}
use Rattle.known_laws.proofs.Ending.{turned_twice}
use Rattle.known_laws.proofs.Telling.{told_is_one}
use Rattle.check_laws.specs.declared.findings.Finding.TheVariants as finding
use Rattle.check_laws.specs.declared.findings.Why.{Why}
use Rattle.check_laws.specs.declared.findings.Why.TheVariants as why
use Rattle.check_laws.specs.Behind.{in_turn, state_of, SideReplies, RepliesBehind, IsInOrderBehind, AllInOrder}
use Rattle.check_laws.specs.Found.{HistoryHasOneFinding}
use Rattle.check_laws.specs.Findings.{FailsBy, IsFinding, NothingFollows}
use Rattle.check_laws.specs.Order.{IsTurn, CitesSo}
use Rattle.check_laws.proofs.Knowing.{split}
use Rattle.check_laws.proofs.Ordering.{order_tested}
use Rattle.check_laws.proofs.Tested.{Cut, cut, get-at}

-- lists turned round
pub turned-onto : {A : Type 0} (acc h : List A) → turned acc h ≡ turned [] h ++ acc
turned-onto acc [] = refl
turned-onto acc (x ∷ h) = turned-onto (x ∷ acc) h ∙ (sym (append_assoc (turned [] h) (x ∷ []) acc) ∙ ap (λ z. z ++ acc) (sym (turned-onto (x ∷ []) h)))

pub turned-append : {A : Type 0} (front back : List A) → turned [] (front ++ back) ≡ turned [] back ++ turned [] front
turned-append [] back = sym (append-nil (turned [] back))
turned-append (x ∷ front) back =
    turned-onto (x ∷ []) (front ++ back)
    ∙ (ap (λ z. z ++ x ∷ []) (turned-append front back)
    ∙ (append_assoc (turned [] back) (turned [] front) (x ∷ []) ∙ ap (λ z. turned [] back ++ z) (sym (turned-onto (x ∷ []) front))))

pub entries-turned : (acc h : List Noted) → entries (turned acc h) ≡ turned (entries acc) (entries h)
entries-turned acc [] = refl
entries-turned acc (x ∷ h) = entries-turned (x ∷ acc) h

back-turned : {A : Type 0} (h : List A) → turned [] (turned [] h) ≡ h
back-turned h = turned_twice [] [] h ∙ append-nil h

pub same-turned : (a b : List Noted) → entries (in_turn a) ≡ entries (in_turn b) → entries a ≡ entries b
same-turned a b e = sym (back-turned (entries a)) ∙ (ap (λ z. turned [] z) (sym (entries-turned [] a) ∙ (e ∙ entries-turned [] b)) ∙ back-turned (entries b))

pub entries-append : (a b : List Noted) → entries (a ++ b) ≡ entries a ++ entries b
entries-append [] b = refl
entries-append (x ∷ a) b = ap (λ z. x.entry ∷ z) (entries-append a b)

pub length-turned : {A : Type 0} (acc h : List A) → length (turned acc h) ≡ length h + length acc
length-turned acc [] = omega arith
length-turned acc (x ∷ h) = (let r = length-turned (x ∷ acc) h in omega (arith, r))

pub entries-length : (h : List Noted) → length (entries (in_turn h)) ≡ length h
entries-length h = (let a = length-map (in_turn h) (λ (n : Noted). n.entry) in let b = length-turned [] h in omega (arith, a, b))

mapped-at : (ns : List Noted) (i : ℕ) (e : Entry) → slice_get (entries ns) i ≡ Some e → (n : Noted) × (slice_get ns i ≡ Some n) × (n.entry ≡ e)
mapped-at [] i e q = absurd (none_some e q)
mapped-at (n ∷ ns) zero e q = (n, refl, same_Some n.entry e q)
mapped-at (n ∷ ns) (suc i) e q = mapped-at ns i e q

-- the past before the entry in a place of a list
pub record Before (past : List Noted) (es : List Entry) (i : ℕ) (e : Entry) : Type 0 where
  pub front : List Noted
  pub note : Noted
  pub back : List Noted
  pub all : past ≡ front ++ note ∷ back
  pub is : note.entry ≡ e
  pub same : entries (in_turn back) ≡ take i es

first-part : (past : List Noted) (es : List Entry) (i : ℕ) (n : Noted) → entries (in_turn past) ≡ es → (c : Cut past i n) → entries (in_turn c.back) ≡ take i es
first-part past es i n same c =
    let whole : in_turn (c.front ++ n ∷ c.back) ≡ in_turn c.back ++ (n ∷ turned [] c.front) =
    turned-append c.front (n ∷ c.back) ∙ (ap (λ z. z ++ turned [] c.front) (turned-onto (n ∷ []) c.back) ∙ append_assoc (turned [] c.back) (n ∷ []) (turned [] c.front)) in
    let all : es ≡ entries (in_turn c.back) ++ (n.entry ∷ entries (turned [] c.front)) =
    sym same ∙ (ap (λ z. entries (in_turn z)) c.all ∙ (ap entries whole ∙ entries-append (in_turn c.back) (n ∷ turned [] c.front))) in
    let many : length (entries (in_turn c.back)) ≡ i = entries-length c.back ∙ c.place in
    sym (ap (λ z. take i z) all ∙ (ap (λ k. take k (entries (in_turn c.back) ++ (n.entry ∷ entries (turned [] c.front)))) (sym many)
    ∙ take-append_seam (entries (in_turn c.back)) (n.entry ∷ entries (turned [] c.front))))

pub before : (past : List Noted) (es : List Entry) (i : ℕ) (e : Entry) → entries (in_turn past) ≡ es → slice_get es i ≡ Some e → Before past es i e
before past es i e same there =
    let m = mapped-at (in_turn past) i e (subst (λ z. slice_get z i ≡ Some e) (sym same) there) in
    let c = cut past i m.0 (get-at past i m.0 m.1) in
    record { front = c.front; note = m.0; back = c.back; all = c.all; is = m.2; same = first-part past es i m.0 same c }

pub order-back : (h : Finished) (front past : List Noted) → AllInOrder h (front ++ past) → AllInOrder h past
order-back h [] past w = w
order-back h (n ∷ front) past w = order-back h front past w.1

-- an entry in order that is no read may come, told plainly
pub may-be-told : (h : Finished) (past : List Noted) (e : Entry) (t : Told) → IsTurn (state_of past) e.made
    → CitesSo (state_of past) e.made → SideReplies h past (record { entry = e; told = t }) → MayBeTold (state_of past) e t
may-be-told h past e t turn cites r = ((order_tested (state_of past) (record { entry = e; told = t })).0 (record { turn = turn; cites = cites; replies = r.replies }), r.plain)

told-one : (h : Finished) (past : List Noted) (e : Entry) (t u : Told) → IsInOrderBehind h past (record { entry = e; told = t }) → IsInOrderBehind h past (record { entry = e; told = u }) → t ≡ u
told-one h past e t u a b = by (is_read e.made.op) a.replies b.replies
  where
    by : (r : Bool) → RepliesBehind r h past (record { entry = e; told = t }) → RepliesBehind r h past (record { entry = e; told = u }) → t ≡ u
    by true v w = v.bare ∙ sym w.bare
    by false v w = told_is_one (state_of past) e t u (may-be-told h past e t a.turn a.cites v) (may-be-told h past e u b.turn b.cites w)

-- two pasts of the same entries, each in order, are one
pub past-one : (h : Finished) (a b : List Noted) → entries a ≡ entries b → AllInOrder h a → AllInOrder h b → a ≡ b
past-one h [] [] e v w = refl
past-one h [] (y ∷ b) e v w = absurd (cc)
past-one h (x ∷ a) [] e v w = absurd (cc)
past-one h (x ∷ a) (y ∷ b) e v w =
    let one = head x.entry y.entry (entries a) (entries b) e in
    let rest = past-one h a b (tail x.entry y.entry (entries a) (entries b) e) v.1 w.1 in
    let told = told-one h a y.entry x.told y.told (subst (λ z. IsInOrderBehind h a (record { entry = z; told = x.told })) one v.0) (subst (λ z. IsInOrderBehind h z y) (sym rest) w.0) in
    λ i. record { entry = one i; told = told i } ∷ rest i
  where
    head : (x y : Entry) (a b : List Entry) → x ∷ a ≡ y ∷ b → x ≡ y
    head x y a b e = cc

    tail : (x y : Entry) (a b : List Entry) → x ∷ a ≡ y ∷ b → a ≡ b
    tail x y a b e = cc

pub same-past : (h : Finished) (a b : List Noted) → entries (in_turn a) ≡ entries (in_turn b) → AllInOrder h a → AllInOrder h b → a ≡ b
same-past h a b e v w = past-one h a b (same-turned a b e) v w

-- an entry in order fails no test
fails-none : (w : Why) (h : Finished) (past : List Noted) (e : Entry) (t : Told) → FailsBy w h past e → IsInOrderBehind h past (record { entry = e; told = t }) → ⊥
fails-none why.Caller h past e t f o = f o.turn
fails-none why.Cite h past e t f o = f.1 o.cites
fails-none why.Reply h past e t f o = f.2 t o.replies

-- so an entry of a past in order isn't the first that fails
none-first : (h : Finished) (a b : List Noted) (es : List Entry) (i : ℕ) (e : Entry) (w : Why) → entries (in_turn a) ≡ es
    → AllInOrder h a → slice_get es i ≡ Some e → entries (in_turn b) ≡ take i es → AllInOrder h b → FailsBy w h b e → ⊥
none-first h a b es i e w same order there first ordered f =
    let c = before a es i e same there in
    let all = order-back h c.front (c.note ∷ c.back) (subst (AllInOrder h) c.all order) in
    let one = same-past h c.back b (c.same ∙ sym first) all.1 ordered in
    fails-none w h b e c.note.told f (subst (λ z. IsInOrderBehind h b (record { entry = z; told = c.note.told })) c.is (subst (λ z. IsInOrderBehind h z c.note) one all.0))

take-less : (es : List Entry) (i j : ℕ) → i ≤ j → take i (take j es) ≡ take i es
take-less [] zero zero l = refl
take-less [] zero (suc j) l = refl
take-less [] (suc i) zero l = refl
take-less [] (suc i) (suc j) l = refl
take-less (e ∷ es) zero zero l = refl
take-less (e ∷ es) zero (suc j) l = refl
take-less (e ∷ es) (suc i) zero l = absurd (omega (arith, l))
take-less (e ∷ es) (suc i) (suc j) l = ap (λ z. e ∷ z) (take-less es i j (omega (arith, l)))

get-less : (es : List Entry) (i j : ℕ) → i < j → slice_get (take j es) i ≡ slice_get es i
get-less [] i zero l = absurd (omega (arith, l))
get-less [] i (suc j) l = refl
get-less (e ∷ es) i zero l = absurd (omega (arith, l))
get-less (e ∷ es) zero (suc j) l = refl
get-less (e ∷ es) (suc i) (suc j) l = get-less es i j (omega (arith, l))

why-one : (v w : Why) (h : Finished) (past : List Noted) (e : Entry) → FailsBy v h past e → FailsBy w h past e → v ≡ w
why-one why.Caller why.Caller h past e f g = refl
why-one why.Caller why.Cite h past e f g = absurd (f g.0)
why-one why.Caller why.Reply h past e f g = absurd (f g.0)
why-one why.Cite why.Caller h past e f g = absurd (g f.0)
why-one why.Cite why.Cite h past e f g = refl
why-one why.Cite why.Reply h past e f g = absurd (f.1 g.1)
why-one why.Reply why.Caller h past e f g = absurd (g f.0)
why-one why.Reply why.Cite h past e f g = absurd (g.1 f.1)
why-one why.Reply why.Reply h past e f g = refl

-- the first of two is the only one
earlier : (h : Finished) (i j : ℕ) (v w : Why) → i < j → IsFinding h (finding.Illegal i v) → IsFinding h (finding.Illegal j w) → ⊥
earlier h i j v w l f g = none-first h g.0 f.0 (take j h.entries) i f.2.0 v g.1.same g.1.order
    (get-less h.entries i j l ∙ f.2.1) (f.1.same ∙ sym (take-less h.entries i j (omega (arith, l)))) f.1.order f.2.2

illegal-one : (h : Finished) (i j : ℕ) (v w : Why) → IsFinding h (finding.Illegal i v) → IsFinding h (finding.Illegal j w) → finding.Illegal i v ≡ finding.Illegal j w
illegal-one h i j v w f g = elim (split i j) [
  | inl less ↦ absurd (earlier h i j v w less f g)
  | inr far ↦ elim (split j i) [
    | inl more ↦ absurd (earlier h j i w v more g f)
    | inr none ↦ (
        let same : i ≡ j = omega (arith, far, none) in
        let past = same-past h f.0 g.0 (f.1.same ∙ (ap (λ k. take k h.entries) same ∙ sym g.1.same)) f.1.order g.1.order in
        let entry = same_Some f.2.0 g.2.0 (sym f.2.1 ∙ (ap (λ k. slice_get h.entries k) same ∙ g.2.1)) in
        let reason = why-one v w h g.0 g.2.0 (subst (λ z. FailsBy v h g.0 z) entry (subst (λ z. FailsBy v h z f.2.0) past f.2.2)) g.2.2 in
        λ k. finding.Illegal (same k) (reason k))
  ]
]

ended-apart : (h : Finished) → IsFinding h finding.Legal → IsFinding h finding.Unfinished → ⊥
ended-apart h f g = g.2 (subst NothingFollows (same-past h f.0 g.0 (f.1.same ∙ sym g.1.same) f.1.order g.1.order) f.2)

pub one_finding : HistoryHasOneFinding
one_finding h finding.Legal finding.Legal f g = refl
one_finding h finding.Legal finding.Unfinished f g = absurd (ended-apart h f g)
one_finding h finding.Legal (finding.Illegal j w) f g = absurd (none-first h f.0 g.0 h.entries j g.2.0 w f.1.same f.1.order g.2.1 g.1.same g.1.order g.2.2)
one_finding h finding.Unfinished finding.Legal f g = absurd (ended-apart h g f)
one_finding h finding.Unfinished finding.Unfinished f g = refl
one_finding h finding.Unfinished (finding.Illegal j w) f g = absurd (none-first h f.0 g.0 h.entries j g.2.0 w f.1.same f.1.order g.2.1 g.1.same g.1.order g.2.2)
one_finding h (finding.Illegal i v) finding.Legal f g = absurd (none-first h g.0 f.0 h.entries i f.2.0 v g.1.same g.1.order f.2.1 f.1.same f.1.order f.2.2)
one_finding h (finding.Illegal i v) finding.Unfinished f g = absurd (none-first h g.0 f.0 h.entries i f.2.0 v g.1.same g.1.order f.2.1 f.1.same f.1.order f.2.2)
one_finding h (finding.Illegal i v) (finding.Illegal j w) f g = illegal-one h i j v w f g
