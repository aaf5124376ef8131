-- Packed entries and their marks, as the leaders that they stand for.
use Rattle.std.proofs.Common.{◌≡◌, ◌⊎◌, inl, inr, ℕ, zero, suc, ◌+◌, ◌-◌, ◌<◌, ◌≤◌, Bool, true, false, List, [], ◌∷◌, ◌++◌, length, take, drop, sum_by, slice_index_or, slice_set}
use Rattle.std.proofs.Common.{arith, refl, subst, sym, ap, ◌∙◌}
use Rattle.std.specs.Prelude.{if◌then◌else◌}
use Rattle.std.proofs.lemmas.Bool.{true≢false}
use Rattle.std.proofs.lemmas.List.{append-nil, get_or_default, length-append, length-drop, length-set, length-take-le, take_all, take_more, take_more_set}
use Rattle.std.proofs.lemmas.List.Sums.{sum_by-cons, sum_by_push}
use Rattle.joint_machine.specs.declared.names.HNum.{HNum}
use Rattle.joint_machine.specs.declared.events.Entry.{Entry}
use Rattle.joint_model.specs.declared.packed.PackedEntry.{PackedEntry}
use Rattle.joint_model.specs.declared.marks.Leader.{Leader}
use Rattle.joint_model.specs.declared.marks.Mark.{Mark}
use Rattle.joint_model.specs.Packed.{entry_high, entry_in, whole_of}
use Rattle.joint_model.specs.Marks.{by_mark, leaders_of, plain, Fits, Follows}
use Rattle.joint_model.specs.Following.{follower_of, followers_of}
use Rattle.joint_model.specs.Leaders.{spelled, AreFollowed}

-- how many followers leaders have
abbrev pub followers_in : List Leader → ℕ
followers_in ls = sum_by (λ l. l.followers) ls

-- high halves of zero
pub entry-low : (p : PackedEntry) (n c : ℕ) → n ≡ 0 → c ≡ 0 → entry_high p n c ≡ entry_in p
entry-low p n c en ec =
    let number : whole_of p.number n ≡ p.number = omega (arith, en) in
    let cited : whole_of p.cited c ≡ p.cited = omega (arith, ec) in
    rw (number, cited) refl

-- the first leader where it is marked, and where it isn't
pub leaders-marked : (f : ℕ) (p : PackedEntry) (ps : List PackedEntry) (m : Mark) (ms : List Mark) → p.marked ≡ true
    → leaders_of f (p ∷ ps) (m ∷ ms) ≡ by_mark f p m ∷ leaders_of (f + m.followers) ps ms
leaders-marked f p ps m ms e = rw e refl

pub leaders-plain : (f : ℕ) (p : PackedEntry) (ps : List PackedEntry) (ms : List Mark) → p.marked ≡ false
    → leaders_of f (p ∷ ps) ms ≡ plain f p ∷ leaders_of f ps ms
leaders-plain f p ps [] e = refl
leaders-plain f p ps (m ∷ ms) e = rw e refl

-- one leader for each entry
pub length_leaders : (f : ℕ) (ps : List PackedEntry) (ms : List Mark) → length (leaders_of f ps ms) ≡ length ps
length_leaders f [] ms = refl
length_leaders f (p ∷ ps) [] = ap suc (length_leaders f ps [])
length_leaders f (p ∷ ps) (m ∷ ms) = by p.marked (length_leaders (f + m.followers) ps ms) (length_leaders f ps (m ∷ ms))
  where
    by : (b : Bool) → length (leaders_of (f + m.followers) ps ms) ≡ length ps → length (leaders_of f ps (m ∷ ms)) ≡ length ps
        → length (if b then by_mark f p m ∷ leaders_of (f + m.followers) ps ms else plain f p ∷ leaders_of f ps (m ∷ ms)) ≡ suc (length ps)
    by true x y = ap suc x
    by false x y = ap suc y

-- what leaders spell doesn't go by where the first one's handles start, nor does how many follow them
pub spelled-from : (f g : ℕ) (ps : List PackedEntry) (ms : List Mark) (hs : List HNum) → spelled (leaders_of f ps ms) hs ≡ spelled (leaders_of g ps ms) hs
spelled-from f g [] ms hs = refl
spelled-from f g (p ∷ ps) [] hs = ap (λ es. entry_in p ∷ es) (spelled-from f g ps [] hs)
spelled-from f g (p ∷ ps) (m ∷ ms) hs = by p.marked (spelled-from (f + m.followers) (g + m.followers) ps ms (drop m.followers hs)) (spelled-from f g ps (m ∷ ms) hs)
  where
    by : (b : Bool) → spelled (leaders_of (f + m.followers) ps ms) (drop m.followers hs) ≡ spelled (leaders_of (g + m.followers) ps ms) (drop m.followers hs)
        → spelled (leaders_of f ps (m ∷ ms)) hs ≡ spelled (leaders_of g ps (m ∷ ms)) hs
        → spelled (if b then by_mark f p m ∷ leaders_of (f + m.followers) ps ms else plain f p ∷ leaders_of f ps (m ∷ ms)) hs
        ≡ spelled (if b then by_mark g p m ∷ leaders_of (g + m.followers) ps ms else plain g p ∷ leaders_of g ps (m ∷ ms)) hs
    by true x y = let e = entry_high p m.number_high m.cited_high in ap (λ es. e ∷ (followers_of e 1 (take m.followers hs) ++ es)) x
    by false x y = ap (λ es. entry_in p ∷ es) y

pub followers-from : (f g : ℕ) (ps : List PackedEntry) (ms : List Mark) → followers_in (leaders_of f ps ms) ≡ followers_in (leaders_of g ps ms)
followers-from f g [] ms = refl
followers-from f g (p ∷ ps) [] =
    omega (arith, sum_by-cons (λ (l : Leader). l.followers) (plain f p) (leaders_of f ps []), sum_by-cons (λ (l : Leader). l.followers) (plain g p) (leaders_of g ps []), followers-from f g ps [])
followers-from f g (p ∷ ps) (m ∷ ms) = by p.marked (followers-from (f + m.followers) (g + m.followers) ps ms) (followers-from f g ps (m ∷ ms))
  where
    by : (b : Bool) → followers_in (leaders_of (f + m.followers) ps ms) ≡ followers_in (leaders_of (g + m.followers) ps ms)
        → followers_in (leaders_of f ps (m ∷ ms)) ≡ followers_in (leaders_of g ps (m ∷ ms))
        → followers_in (if b then by_mark f p m ∷ leaders_of (f + m.followers) ps ms else plain f p ∷ leaders_of f ps (m ∷ ms))
        ≡ followers_in (if b then by_mark g p m ∷ leaders_of (g + m.followers) ps ms else plain g p ∷ leaders_of g ps (m ∷ ms))
    by true x y = omega (
      arith,
      sum_by-cons (λ (l : Leader). l.followers) (by_mark f p m) (leaders_of (f + m.followers) ps ms),
      sum_by-cons (λ (l : Leader). l.followers) (by_mark g p m) (leaders_of (g + m.followers) ps ms),
      x,
    )
    by false x y = omega (
      arith,
      sum_by-cons (λ (l : Leader). l.followers) (plain f p) (leaders_of f ps (m ∷ ms)),
      sum_by-cons (λ (l : Leader). l.followers) (plain g p) (leaders_of g ps (m ∷ ms)),
      y,
    )

-- the next leader of a walk, where it is marked, and what is left then
pub spelled-marked : (p : PackedEntry) (ps : List PackedEntry) (m : Mark) (ms : List Mark) (hs : List HNum) → p.marked ≡ true
    → spelled (leaders_of 0 (p ∷ ps) (m ∷ ms)) hs ≡ entry_high p m.number_high m.cited_high
    ∷ (followers_of (entry_high p m.number_high m.cited_high) 1 (take m.followers hs) ++ spelled (leaders_of 0 ps ms) (drop m.followers hs))
spelled-marked p ps m ms hs e =
    let x = entry_high p m.number_high m.cited_high in
    ap (λ ls. spelled ls hs) (leaders-marked 0 p ps m ms e)
    ∙ ap (λ es. x ∷ (followers_of x 1 (take m.followers hs) ++ es)) (spelled-from (0 + m.followers) 0 ps ms (drop m.followers hs))

pub followed-marked : (p : PackedEntry) (ps : List PackedEntry) (m : Mark) (ms : List Mark) (hs : List HNum) → p.marked ≡ true
    → AreFollowed (leaders_of 0 (p ∷ ps) (m ∷ ms)) hs → AreFollowed (leaders_of 0 ps ms) (drop m.followers hs)
followed-marked p ps m ms hs e f =
    let all : followers_in (by_mark 0 p m ∷ leaders_of (0 + m.followers) ps ms) ≡ length hs = subst (λ ls. followers_in ls ≡ length hs) (leaders-marked 0 p ps m ms e) f in
    omega (
      arith,
      all,
      sum_by-cons (λ (l : Leader). l.followers) (by_mark 0 p m) (leaders_of (0 + m.followers) ps ms),
      followers-from (0 + m.followers) 0 ps ms,
      length-drop m.followers hs,
    )

-- and there are as many handles as it has followers
pub followed-first : (p : PackedEntry) (ps : List PackedEntry) (m : Mark) (ms : List Mark) (hs : List HNum) → p.marked ≡ true
    → AreFollowed (leaders_of 0 (p ∷ ps) (m ∷ ms)) hs → m.followers ≤ length hs
followed-first p ps m ms hs e f =
    let all : followers_in (by_mark 0 p m ∷ leaders_of (0 + m.followers) ps ms) ≡ length hs = subst (λ ls. followers_in ls ≡ length hs) (leaders-marked 0 p ps m ms e) f in
    omega (arith, all, sum_by-cons (λ (l : Leader). l.followers) (by_mark 0 p m) (leaders_of (0 + m.followers) ps ms))

-- where a search for a leader's mark ends: the mark before that one stands before the leader, and that one doesn't
abbrev pub Before : List Mark → ℕ → ℕ → Type 0
Before ms place j = (d : Mark) → 0 < j → (slice_index_or ms (j - 1) d).at < place

abbrev pub After : List Mark → ℕ → ℕ → Type 0
After ms place j = (d : Mark) → j < length ms → place ≤ (slice_index_or ms j d).at

earlier : (ms : List Mark) (place j : ℕ) (d : Mark) → Before ms place (suc j) → (slice_index_or ms j d).at < place
earlier ms place j d low = let there : suc j - 1 ≡ j = omega arith in subst (λ k. (slice_index_or ms k d).at < place) there (low d (omega arith))

-- marks of leaders from a place on stand there or later
no-earlier : (n f : ℕ) (ps : List PackedEntry) (ms : List Mark) (k : ℕ) (d : Mark) → Fits n f ps ms → k < length ms → n ≤ (slice_index_or ms k d).at
no-earlier n f [] [] k d w l = absurd (omega (arith, l))
no-earlier n f [] (m ∷ ms) k d w l = absurd w
no-earlier n f (p ∷ ps) [] k d w l = absurd (omega (arith, l))
no-earlier n f (p ∷ ps) (m ∷ ms) zero d (inl w) l = omega (arith, w.1)
no-earlier n f (p ∷ ps) (m ∷ ms) (suc j) d (inl w) l = let later : suc n ≤ (slice_index_or ms j d).at = no-earlier (suc n) (f + m.followers) ps ms j d w.3 (omega (arith, l)) in omega (arith, later)
no-earlier n f (p ∷ ps) (m ∷ ms) k d (inr w) l = let later : suc n ≤ (slice_index_or (m ∷ ms) k d).at = no-earlier (suc n) f ps (m ∷ ms) k d w.1 l in omega (arith, later)

-- where the handles end of those before mark j
abbrev pub ends : ℕ → List Mark → ℕ → Mark → ℕ
ends f ms zero d = f
ends f ms (suc j) d = (slice_index_or ms j d).from + (slice_index_or ms j d).followers

-- the leader at a place, where that search ends at j
abbrev pub found : ℕ → PackedEntry → List Mark → ℕ → Mark → Leader
found f p ms j d = if p.marked then by_mark (slice_index_or ms j d).from p (slice_index_or ms j d) else plain (ends f ms j d) p

-- a marked leader has a mark
pub record FoundAt (f : ℕ) (ps : List PackedEntry) (ms : List Mark) (i j : ℕ) : Type 0 where
  pub leader : (d : Leader) (e : PackedEntry) (g : Mark) → slice_index_or (leaders_of f ps ms) i d ≡ found f (slice_index_or ps i e) ms j g
  pub mark : (e : PackedEntry) → (slice_index_or ps i e).marked ≡ true → j < length ms

found-unmarked : (n f : ℕ) (ps : List PackedEntry) (i : ℕ) → Fits n f ps [] → i < length ps → FoundAt f ps [] i 0
found-unmarked n f [] i w l = absurd (omega (arith, l))
found-unmarked n f (p ∷ ps) zero w l = record {
  leader = λ d e g. rw w.0 refl;
  mark = λ e h. absurd (true≢false (sym h ∙ w.0));
}
found-unmarked n f (p ∷ ps) (suc i) w l =
    let r = found-unmarked (suc n) f ps i w.1 (omega (arith, l)) in
    record { leader = λ d e g. r.leader d e g; mark = λ e h. r.mark e h }

found-first : (n f : ℕ) (p : PackedEntry) (ps : List PackedEntry) (m : Mark) (ms : List Mark) → Fits n f (p ∷ ps) (m ∷ ms) → FoundAt f (p ∷ ps) (m ∷ ms) 0 0
found-first n f p ps m ms (inl w) = record {
  leader = λ d e g. rw (w.0, w.2) refl;
  mark = λ e h. omega arith;
}
found-first n f p ps m ms (inr w) = record {
  leader = λ d e g. rw w.0 refl;
  mark = λ e h. absurd (true≢false (sym h ∙ w.0));
}

-- a mark further
found-later : (f : ℕ) (p : PackedEntry) (ps : List PackedEntry) (m : Mark) (ms : List Mark) (i j : ℕ) → p.marked ≡ true → FoundAt (f + m.followers) ps ms i j → m.from ≡ f
    → FoundAt f (p ∷ ps) (m ∷ ms) (suc i) (suc j)
found-later f p ps m ms i j e r from = record {
  leader = λ d x g. ap (λ ls. slice_index_or ls (suc i) d) (leaders-marked f p ps m ms e) ∙ (r.leader d x g ∙ by j g (slice_index_or ps i x));
  mark = λ x h. let l : j < length ms = r.mark x h in omega (arith, l);
}
  where
    by : (j : ℕ) (g : Mark) (q : PackedEntry) → found (f + m.followers) q ms j g ≡ found f q (m ∷ ms) (suc j) g
    by zero g q = rw from refl
    by (suc j) g q = refl

pub found-at : (n f : ℕ) (ps : List PackedEntry) (ms : List Mark) (i j : ℕ) → Fits n f ps ms → i < length ps → j ≤ length ms → Before ms (n + i) j → After ms (n + i) j
    → FoundAt f ps ms i j
found-at n f [] ms i j w l b low high = absurd (omega (arith, l))
found-at n f (p ∷ ps) [] i zero w l b low high = found-unmarked n f (p ∷ ps) i w l
found-at n f (p ∷ ps) [] i (suc j) w l b low high = absurd (omega (arith, b))
found-at n f (p ∷ ps) (m ∷ ms) zero zero w l b low high = found-first n f p ps m ms w
found-at n f (p ∷ ps) (m ∷ ms) zero (suc j) w l b low high =
    let before : (slice_index_or (m ∷ ms) j m).at < n + 0 = earlier (m ∷ ms) (n + 0) j m low in
    let after : n ≤ (slice_index_or (m ∷ ms) j m).at = no-earlier n f (p ∷ ps) (m ∷ ms) j m w (omega (arith, b)) in
    absurd (omega (arith, before, after))
found-at n f (p ∷ ps) (m ∷ ms) (suc i) zero (inl w) l b low high =
    let after : n + suc i ≤ m.at = high m (omega arith) in
    absurd (omega (arith, after, w.1))
found-at n f (p ∷ ps) (m ∷ ms) (suc i) (suc j) (inl w) l b low high =
    found-later f p ps m ms i j w.0
    (found-at (suc n) (f + m.followers) ps ms i j w.3 (omega (arith, l)) (omega (arith, b)) (before j low)
    (λ d h. let after : n + suc i ≤ (slice_index_or ms j d).at = high d (omega (arith, h)) in omega (arith, after)))
    w.2
  where
    before : (j : ℕ) → Before (m ∷ ms) (n + suc i) (suc j) → Before ms (suc n + i) j
    before zero g d h = absurd (omega (arith, h))
    before (suc j) g d h = let under : (slice_index_or ms j d).at < n + suc i = earlier (m ∷ ms) (n + suc i) (suc j) d g in
        let there : suc j - 1 ≡ j = omega arith in subst (λ k. (slice_index_or ms k d).at < suc n + i) (sym there) (omega (arith, under))
found-at n f (p ∷ ps) (m ∷ ms) (suc i) j (inr w) l b low high =
    let next : n + suc i ≡ suc n + i = omega arith in
    let r = found-at (suc n) f ps (m ∷ ms) i j w.1 (omega (arith, l)) b (subst (λ k. Before (m ∷ ms) k j) next low) (subst (λ k. After (m ∷ ms) k j) next high) in
    record {
      leader = λ d e g. ap (λ ls. slice_index_or ls (suc i) d) (leaders-plain f p ps (m ∷ ms) w.0) ∙ r.leader d e g;
      mark = λ e h. r.mark e h;
    }

-- two stretches of entries, and the marks of each
pub leaders-append : (n f : ℕ) (ps qs : List PackedEntry) (ms gs : List Mark) → Fits n f ps ms
    → leaders_of f (ps ++ qs) (ms ++ gs) ≡ leaders_of f ps ms ++ leaders_of (f + followers_in (leaders_of f ps ms)) qs gs
leaders-append n f [] qs [] gs w = ap (λ g. leaders_of g qs gs) (omega arith)
leaders-append n f [] qs (m ∷ ms) gs w = absurd w
leaders-append n f (p ∷ ps) qs [] gs w =
    let sum : followers_in (leaders_of f (p ∷ ps) []) ≡ followers_in (leaders_of f ps []) = sum_by-cons (λ (l : Leader). l.followers) (plain f p) (leaders_of f ps []) ∙ omega arith in
    rw sum (leaders-plain f p (ps ++ qs) gs w.0 ∙ ap (λ ls. plain f p ∷ ls) (leaders-append (suc n) f ps qs [] gs w.1))
leaders-append n f (p ∷ ps) qs (m ∷ ms) gs (inl w) =
    let rest = leaders_of (f + m.followers) ps ms in
    let sum : f + followers_in (by_mark f p m ∷ rest) ≡ f + m.followers + followers_in rest = omega (arith, sum_by-cons (λ (l : Leader). l.followers) (by_mark f p m) rest) in
    rw (leaders-marked f p ps m ms w.0, leaders-marked f p (ps ++ qs) m (ms ++ gs) w.0, sum)
    (ap (λ ls. by_mark f p m ∷ ls) (leaders-append (suc n) (f + m.followers) ps qs ms gs w.3))
leaders-append n f (p ∷ ps) qs (m ∷ ms) gs (inr w) =
    let rest = leaders_of f ps (m ∷ ms) in
    let sum : followers_in (plain f p ∷ rest) ≡ followers_in rest = sum_by-cons (λ (l : Leader). l.followers) (plain f p) rest ∙ omega arith in
    rw (leaders-plain f p ps (m ∷ ms) w.0, leaders-plain f p (ps ++ qs) (m ∷ (ms ++ gs)) w.0, sum)
    (ap (λ ls. plain f p ∷ ls) (leaders-append (suc n) f ps qs (m ∷ ms) gs w.1))

pub Fits-append : (n f : ℕ) (ps qs : List PackedEntry) (ms gs : List Mark) → Fits n f ps ms → Fits (n + length ps) (f + followers_in (leaders_of f ps ms)) qs gs
    → Fits n f (ps ++ qs) (ms ++ gs)
Fits-append n f [] qs [] gs w v = let place : n + 0 ≡ n = omega arith in let start : f + followers_in [] ≡ f = omega arith in rw (place, start) at v
Fits-append n f [] qs (m ∷ ms) gs w v = absurd w
Fits-append n f (p ∷ ps) qs [] gs w v = unmarked gs
    (Fits-append (suc n) f ps qs [] gs w.1 (same (omega arith) (omega (arith, sum_by-cons (λ (l : Leader). l.followers) (plain f p) (leaders_of f ps []))) v))
  where
    same : {a b c d : ℕ} → a ≡ b → c ≡ d → Fits a c qs gs → Fits b d qs gs
    same e h x = rw (← e, ← h) x

    unmarked : (gs : List Mark) → Fits (suc n) f (ps ++ qs) gs → Fits n f (p ∷ (ps ++ qs)) gs
    unmarked [] x = (w.0, x)
    unmarked (g ∷ gs) x = inr (w.0, x)
Fits-append n f (p ∷ ps) qs (m ∷ ms) gs (inl w) v = inl (w.0, w.1, w.2, Fits-append (suc n) (f + m.followers) ps qs ms gs w.3 (same (omega arith) sum v))
  where
    same : {a b c d : ℕ} → a ≡ b → c ≡ d → Fits a c qs gs → Fits b d qs gs
    same e h x = rw (← e, ← h) x

    sum : f + followers_in (leaders_of f (p ∷ ps) (m ∷ ms)) ≡ f + m.followers + followers_in (leaders_of (f + m.followers) ps ms)
    sum = rw (leaders-marked f p ps m ms w.0) (omega (arith, sum_by-cons (λ (l : Leader). l.followers) (by_mark f p m) (leaders_of (f + m.followers) ps ms)))
Fits-append n f (p ∷ ps) qs (m ∷ ms) gs (inr w) v = inr (w.0, Fits-append (suc n) f ps qs (m ∷ ms) gs w.1 (same (omega arith) sum v))
  where
    same : {a b c d : ℕ} → a ≡ b → c ≡ d → Fits a c qs gs → Fits b d qs gs
    same e h x = rw (← e, ← h) x

    sum : f + followers_in (leaders_of f (p ∷ ps) (m ∷ ms)) ≡ f + followers_in (leaders_of f ps (m ∷ ms))
    sum = rw (leaders-plain f p ps (m ∷ ms) w.0) (omega (arith, sum_by-cons (λ (l : Leader). l.followers) (plain f p) (leaders_of f ps (m ∷ ms))))

-- a last entry that is marked, with its mark
pub record EndsMarked (n f : ℕ) (ps : List PackedEntry) (ms : List Mark) : Type 0 where
  pub first : List Mark
  pub mark : Mark
  pub all : ms ≡ first ++ mark ∷ []
  pub fits : Fits n f ps first
  pub place : mark.at ≡ n + length ps
  pub start : mark.from ≡ f + followers_in (leaders_of f ps first)

pub Fits-last : (n f : ℕ) (ps : List PackedEntry) (p : PackedEntry) (ms : List Mark) → Fits n f (ps ++ p ∷ []) ms
    → ((p.marked ≡ true) × EndsMarked n f ps ms) ⊎ ((p.marked ≡ false) × Fits n f ps ms)
Fits-last n f [] p [] w = inr (w.0, tt)
Fits-last n f [] p (m ∷ []) (inl w) = inl (w.0, record { first = []; mark = m; all = refl; fits = tt; place = w.1 ∙ omega arith; start = w.2 ∙ omega arith })
Fits-last n f [] p (m ∷ (g ∷ ms)) (inl w) = absurd w.3
Fits-last n f [] p (m ∷ ms) (inr w) = absurd w.1
Fits-last n f (q ∷ ps) p [] w = elim (Fits-last (suc n) f ps p [] w.1) [
  | inl v ↦ absurd (empty v.1.first v.1.mark v.1.all)
  | inr v ↦ inr (v.0, (w.0, v.1))
]
  where
    empty : (ms : List Mark) (m : Mark) → [] ≡ ms ++ m ∷ [] → ⊥
    empty [] m e = cc
    empty (g ∷ ms) m e = cc
Fits-last n f (q ∷ ps) p (m ∷ ms) (inl w) = elim (Fits-last (suc n) (f + m.followers) ps p ms w.3) [
  | inl v ↦ inl (
    v.0,
    record {
      first = m ∷ v.1.first;
      mark = v.1.mark;
      all = ap (λ gs. m ∷ gs) v.1.all;
      fits = inl (w.0, w.1, w.2, v.1.fits);
      place = v.1.place ∙ omega arith;
      start = v.1.start ∙ rw (leaders-marked f q ps m v.1.first w.0) (omega (arith, sum_by-cons (λ (l : Leader). l.followers) (by_mark f q m) (leaders_of (f + m.followers) ps v.1.first)));
    },
  )
  | inr v ↦ inr (v.0, inl (w.0, w.1, w.2, v.1))
]
Fits-last n f (q ∷ ps) p (m ∷ ms) (inr w) = elim (Fits-last (suc n) f ps p (m ∷ ms) w.1) [
  | inl v ↦ inl (
    v.0,
    record {
      first = v.1.first;
      mark = v.1.mark;
      all = v.1.all;
      fits = unmarked v.1.first v.1.fits;
      place = v.1.place ∙ omega arith;
      start = v.1.start ∙ rw (leaders-plain f q ps v.1.first w.0) (omega (arith, sum_by-cons (λ (l : Leader). l.followers) (plain f q) (leaders_of f ps v.1.first)));
    },
  )
  | inr v ↦ inr (v.0, inr (w.0, v.1))
]
  where
    unmarked : (gs : List Mark) → Fits (suc n) f ps gs → Fits n f (q ∷ ps) gs
    unmarked [] x = (w.0, x)
    unmarked (g ∷ gs) x = inr (w.0, x)

-- a last entry without a mark, and one with a mark
pub leaders-plain_last : (ps : List PackedEntry) (p : PackedEntry) (ms : List Mark) → Fits 0 0 ps ms → p.marked ≡ false
    → leaders_of 0 (ps ++ p ∷ []) ms ≡ leaders_of 0 ps ms ++ plain (followers_in (leaders_of 0 ps ms)) p ∷ []
leaders-plain_last ps p ms w e =
    ap (leaders_of 0 (ps ++ p ∷ [])) (sym (append-nil ms)) ∙ (leaders-append 0 0 ps (p ∷ []) ms [] w
    ∙ ap (λ f. leaders_of 0 ps ms ++ plain f p ∷ []) (omega arith))

pub leaders-marked_last : (ps : List PackedEntry) (p : PackedEntry) (ms : List Mark) (m : Mark) → Fits 0 0 ps ms → p.marked ≡ true
    → leaders_of 0 (ps ++ p ∷ []) (ms ++ m ∷ []) ≡ leaders_of 0 ps ms ++ by_mark (followers_in (leaders_of 0 ps ms)) p m ∷ []
leaders-marked_last ps p ms m w e =
    leaders-append 0 0 ps (p ∷ []) ms (m ∷ []) w
    ∙ (ap (λ ls. leaders_of 0 ps ms ++ ls) (leaders-marked (0 + followers_in (leaders_of 0 ps ms)) p [] m [] e)
    ∙ ap (λ f. leaders_of 0 ps ms ++ by_mark f p m ∷ []) (omega arith))

pub Fits-plain_last : (ps : List PackedEntry) (p : PackedEntry) (ms : List Mark) → Fits 0 0 ps ms → p.marked ≡ false → Fits 0 0 (ps ++ p ∷ []) ms
Fits-plain_last ps p ms w e = subst (Fits 0 0 (ps ++ p ∷ [])) (append-nil ms) (Fits-append 0 0 ps (p ∷ []) ms [] w (e, tt))

pub Fits-marked_last : (ps : List PackedEntry) (p : PackedEntry) (ms : List Mark) (m : Mark) → Fits 0 0 ps ms → p.marked ≡ true → m.at ≡ length ps
    → m.from ≡ followers_in (leaders_of 0 ps ms) → Fits 0 0 (ps ++ p ∷ []) (ms ++ m ∷ [])
Fits-marked_last ps p ms m w e at from = Fits-append 0 0 ps (p ∷ []) ms (m ∷ []) w (inl (e, at ∙ omega arith, from ∙ omega arith, tt))

-- the last of a list, with those before it
pub record IsLast {X : Type 0} (xs : List X) (k : ℕ) (x : X) : Type 0 where
  pub first : List X
  pub size : length first ≡ k
  pub all : xs ≡ first ++ x ∷ []
  pub set : (y : X) → slice_set xs k y ≡ first ++ y ∷ []

pub is-last : {X : Type 0} (xs : List X) (k : ℕ) (x : X) → k + 1 ≡ length xs → x ≡ slice_index_or xs k x → IsLast xs k x
is-last xs k x n there = record {
  first = take k xs;
  size = length-take-le k xs (omega (arith, n));
  all = sym (take_all (k + 1) xs (omega (arith, n))) ∙ (take_more xs k x (omega (arith, n)) ∙ ap (λ y. take k xs ++ y ∷ []) (sym there));
  set = λ y. sym (take_all (k + 1) (slice_set xs k y) (omega (arith, n, length-set xs k y))) ∙ take_more_set xs k y (omega (arith, n));
}

-- a last leader without a mark gets one
pub Fits-first_follower : (es : List PackedEntry) (ms : List Mark) (k : ℕ) (p q : PackedEntry) (m : Mark) (w : IsLast es k p) → Fits 0 0 es ms → p.marked ≡ false → q.marked ≡ true
    → m.at ≡ k → m.from ≡ followers_in (leaders_of 0 es ms) → Fits 0 0 (slice_set es k q) (ms ++ m ∷ [])
Fits-first_follower es ms k p q m w f e g at from =
    let fits : Fits 0 0 w.first ms = unmarked (Fits-last 0 0 w.first p ms (subst (λ xs. Fits 0 0 xs ms) w.all f)) in
    let sum : followers_in (leaders_of 0 es ms) ≡ followers_in (leaders_of 0 w.first ms) =
    ap (λ xs. followers_in (leaders_of 0 xs ms)) w.all ∙ (ap followers_in (leaders-plain_last w.first p ms fits e)
    ∙ (sum_by_push (λ (l : Leader). l.followers) (leaders_of 0 w.first ms) (plain (followers_in (leaders_of 0 w.first ms)) p) ∙ omega arith)) in
    subst (λ xs. Fits 0 0 xs (ms ++ m ∷ [])) (sym (w.set q)) (Fits-marked_last w.first q ms m fits g (at ∙ sym w.size) (from ∙ sum))
  where
    unmarked : ((p.marked ≡ true) × EndsMarked 0 0 w.first ms) ⊎ ((p.marked ≡ false) × Fits 0 0 w.first ms) → Fits 0 0 w.first ms
    unmarked (inl v) = absurd (true≢false (sym v.0 ∙ e))
    unmarked (inr v) = v.1

pub Follows-first : (es : List PackedEntry) (ms : List Mark) (k : ℕ) (p q : PackedEntry) (m : Mark) (x : Entry) (h : HNum) (w : IsLast es k p) → Fits 0 0 es ms → p.marked ≡ false → q.marked ≡ true
    → entry_high q m.number_high m.cited_high ≡ entry_in p → m.followers ≡ 1 → x ≡ follower_of (entry_in p) 1 h
    → Follows (leaders_of 0 es ms) (leaders_of 0 (slice_set es k q) (ms ++ m ∷ [])) x h
Follows-first es ms k p q m x h w f e g same one is =
    let fits : Fits 0 0 w.first ms = unmarked (Fits-last 0 0 w.first p ms (subst (λ xs. Fits 0 0 xs ms) w.all f)) in
    let start = followers_in (leaders_of 0 w.first ms) in
    record {
      first = leaders_of 0 w.first ms;
      last = plain start p;
      next = by_mark start q m;
      was = ap (λ xs. leaders_of 0 xs ms) w.all ∙ leaders-plain_last w.first p ms fits e;
      is = ap (λ xs. leaders_of 0 xs (ms ++ m ∷ [])) (w.set q) ∙ leaders-marked_last w.first q ms m fits g;
      same = same;
      start = refl;
      more = one;
      follower = is;
    }
  where
    unmarked : ((p.marked ≡ true) × EndsMarked 0 0 w.first ms) ⊎ ((p.marked ≡ false) × Fits 0 0 w.first ms) → Fits 0 0 w.first ms
    unmarked (inl v) = absurd (true≢false (sym v.0 ∙ e))
    unmarked (inr v) = v.1

-- a last leader with a mark has the last one
pub marked-last : (es : List PackedEntry) (ms : List Mark) (k : ℕ) (p : PackedEntry) (w : IsLast es k p) → Fits 0 0 es ms → p.marked ≡ true → EndsMarked 0 0 w.first ms
marked-last es ms k p w f e = marked (Fits-last 0 0 w.first p ms (subst (λ xs. Fits 0 0 xs ms) w.all f))
  where
    marked : ((p.marked ≡ true) × EndsMarked 0 0 w.first ms) ⊎ ((p.marked ≡ false) × Fits 0 0 w.first ms) → EndsMarked 0 0 w.first ms
    marked (inl v) = v.1
    marked (inr v) = absurd (true≢false (sym e ∙ v.0))

pub some-mark : (ps : List PackedEntry) (ms : List Mark) → EndsMarked 0 0 ps ms → 1 ≤ length ms
some-mark ps ms v = omega (arith, ap length v.all, length-append v.first (v.mark ∷ []))

same-last : (xs ys : List Mark) (x y : Mark) → xs ++ x ∷ [] ≡ ys ++ y ∷ [] → (xs ≡ ys) × (x ≡ y)
same-last [] [] x y e = (refl, cc)
same-last [] (b ∷ ys) x y e = let n : 1 ≡ suc (length ys + 1) = ap length e ∙ ap suc (length-append ys (y ∷ [])) in absurd (omega (arith, n))
same-last (a ∷ xs) [] x y e = let n : suc (length xs + 1) ≡ 1 = sym (ap suc (length-append xs (x ∷ []))) ∙ ap length e in absurd (omega (arith, n))
same-last (a ∷ xs) (b ∷ ys) x y e =
    let head : a ≡ b = cc in
    let tail : xs ++ x ∷ [] ≡ ys ++ y ∷ [] = cc in
    let r = same-last xs ys x y tail in
    (cc, r.1)

-- it may have more followers
pub Fits-more : (es : List PackedEntry) (ms : List Mark) (k j : ℕ) (p : PackedEntry) (m g : Mark) (w : IsLast es k p) (v : IsLast ms j m) → Fits 0 0 es ms → p.marked ≡ true
    → g.at ≡ m.at → g.from ≡ m.from → Fits 0 0 es (slice_set ms j g)
Fits-more es ms k j p m g w v f e at from =
    let u = marked-last es ms k p w f e in
    let both = same-last u.first v.first u.mark m (sym u.all ∙ v.all) in
    let fits : Fits 0 0 w.first v.first = subst (Fits 0 0 w.first) both.0 u.fits in
    let place : m.at ≡ length w.first = ap (λ (x : Mark). x.at) (sym both.1) ∙ (u.place ∙ omega arith) in
    let start : m.from ≡ followers_in (leaders_of 0 w.first v.first) = ap (λ (x : Mark). x.from) (sym both.1) ∙ (u.start ∙ (omega arith ∙ ap (λ xs. followers_in (leaders_of 0 w.first xs)) both.0)) in
    subst (λ xs. Fits 0 0 xs (slice_set ms j g)) (sym w.all) (subst (Fits 0 0 (w.first ++ p ∷ [])) (sym (v.set g)) (Fits-marked_last w.first p v.first g fits e (at ∙ place) (from ∙ start)))

pub Follows-more : (es : List PackedEntry) (ms : List Mark) (k j : ℕ) (p : PackedEntry) (m g : Mark) (x : Entry) (h : HNum) (w : IsLast es k p) (v : IsLast ms j m) → Fits 0 0 es ms → p.marked ≡ true
    → g.number_high ≡ m.number_high → g.cited_high ≡ m.cited_high → g.followers ≡ m.followers + 1 → x ≡ follower_of (entry_high p m.number_high m.cited_high) (m.followers + 1) h
    → Follows (leaders_of 0 es ms) (leaders_of 0 es (slice_set ms j g)) x h
Follows-more es ms k j p m g x h w v f e number cited one is =
    let u = marked-last es ms k p w f e in
    let both = same-last u.first v.first u.mark m (sym u.all ∙ v.all) in
    let fits : Fits 0 0 w.first v.first = subst (Fits 0 0 w.first) both.0 u.fits in
    let start = followers_in (leaders_of 0 w.first v.first) in
    record {
      first = leaders_of 0 w.first v.first;
      last = by_mark start p m;
      next = by_mark start p g;
      was = ap (λ xs. leaders_of 0 xs ms) w.all ∙ (ap (leaders_of 0 (w.first ++ p ∷ [])) v.all ∙ leaders-marked_last w.first p v.first m fits e);
      is = ap (λ xs. leaders_of 0 xs (slice_set ms j g)) w.all ∙ (ap (leaders_of 0 (w.first ++ p ∷ [])) (v.set g) ∙ leaders-marked_last w.first p v.first g fits e);
      same = rw (number, cited) refl;
      start = refl;
      more = one;
      follower = is;
    }

-- what stands at one place is one thing
pub same-at : {X : Type 0} (xs : List X) (k : ℕ) (x y : X) → k < length xs → x ≡ slice_index_or xs k x → y ≡ slice_index_or xs k y → x ≡ y
same-at xs k x y l e f = e ∙ (get_or_default xs k x y l ∙ sym f)

-- a further leader with no follower
pub pushed-plain : (ps : List PackedEntry) (p : PackedEntry) (ms : List Mark) (x : Entry) (from n c : ℕ) → Fits 0 0 ps ms → p.marked ≡ false → followers_in (leaders_of 0 ps ms) ≡ from
    → entry_high p n c ≡ x → (n ≡ 0) × (c ≡ 0) → leaders_of 0 (ps ++ p ∷ []) ms ≡ leaders_of 0 ps ms ++ record { entry = x; from = from; followers = 0 } ∷ []
pushed-plain ps p ms x from n c w e start is low =
    let entry : entry_in p ≡ x = sym (entry-low p n c low.0 low.1) ∙ is in
    rw (leaders-plain_last ps p ms w e, start, entry) refl

pub pushed-marked : (ps : List PackedEntry) (p : PackedEntry) (ms : List Mark) (m : Mark) (x : Entry) (from : ℕ) → Fits 0 0 ps ms → p.marked ≡ true → followers_in (leaders_of 0 ps ms) ≡ from
    → entry_high p m.number_high m.cited_high ≡ x → m.followers ≡ 0
    → leaders_of 0 (ps ++ p ∷ []) (ms ++ m ∷ []) ≡ leaders_of 0 ps ms ++ record { entry = x; from = from; followers = 0 } ∷ []
pushed-marked ps p ms m x from w e start is none = rw (leaders-marked_last ps p ms m w e, start, is, none) refl

-- what a search for a leader's mark finds
pub found-there : (ps : List PackedEntry) (ms : List Mark) (i j : ℕ) → Fits 0 0 ps ms → i < length ps → j ≤ length ms → Before ms i j → After ms i j → FoundAt 0 ps ms i j
found-there ps ms i j w l b low high =
    let place : i ≡ 0 + i = omega arith in
    found-at 0 0 ps ms i j w l b (subst (λ k. Before ms k j) place low) (subst (λ k. After ms k j) place high)

pub found-marked : (ps : List PackedEntry) (ms : List Mark) (i j : ℕ) (p : PackedEntry) (m : Mark) (d : Leader) → FoundAt 0 ps ms i j → p ≡ slice_index_or ps i p → p.marked ≡ true
    → m ≡ slice_index_or ms j m → slice_index_or (leaders_of 0 ps ms) i d ≡ by_mark m.from p m
found-marked ps ms i j p m d r there e is =
    r.leader d p m ∙ (ap (λ q. found 0 q ms j m) (sym there) ∙ (marked (slice_index_or ms j m) ∙ ap (λ (g : Mark). by_mark g.from p g) (sym is)))
  where
    marked : (g : Mark) → (if p.marked then by_mark g.from p g else plain (ends 0 ms j m) p) ≡ by_mark g.from p g
    marked g = rw e refl

pub found-plain : (ps : List PackedEntry) (ms : List Mark) (i j : ℕ) (p : PackedEntry) (m : Mark) (from : ℕ) (d : Leader) → FoundAt 0 ps ms i j → p ≡ slice_index_or ps i p → p.marked ≡ false
    → ends 0 ms j m ≡ from → slice_index_or (leaders_of 0 ps ms) i d ≡ plain from p
found-plain ps ms i j p m from d r there e is =
    r.leader d p m ∙ (ap (λ q. found 0 q ms j m) (sym there) ∙ (unmarked (slice_index_or ms j m) ∙ ap (λ f. plain f p) is))
  where
    unmarked : (g : Mark) → (if p.marked then by_mark g.from p g else plain (ends 0 ms j m) p) ≡ plain (ends 0 ms j m) p
    unmarked g = rw e refl

pub ends-none : (ms : List Mark) (j : ℕ) (m : Mark) → j ≡ 0 → ends 0 ms j m ≡ 0
ends-none ms zero m e = refl
ends-none ms (suc j) m e = absurd (omega (arith, e))

pub ends-last : (ms : List Mark) (j : ℕ) (m : Mark) → 0 < j → m ≡ slice_index_or ms (j - 1) m → ends 0 ms j m ≡ m.from + m.followers
ends-last ms zero m l e = absurd (omega (arith, l))
ends-last ms (suc j) m l e =
    let there : suc j - 1 ≡ j = omega arith in
    let is : m ≡ slice_index_or ms j m = subst (λ k. m ≡ slice_index_or ms k m) there e in
    ap (λ (g : Mark). g.from + g.followers) (sym is)
