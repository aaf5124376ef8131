-- The entry at a place of leaders and their followers, and the one with a number, where the numbers are in order. Both
-- are found from the leader before it: what that one leads stands in the list right there.
use Rattle.std.proofs.Common.{◌≡◌, ◌≢◌, inl, inr, Option, Some, None, slice_get, ℕ, zero, suc, ◌+◌, ◌-◌, ◌%◌, ◌^◌, ◌<◌, ◌≤◌, List, [], ◌∷◌, ◌++◌, length, take, drop, sum_by, slice_index_or}
use Rattle.std.proofs.Common.{arith, subst, sym, ap, ◌∙◌}
use Rattle.std.specs.Prelude.{All, Contains, MatchOption}
use Rattle.std.proofs.lemmas.List.{append_assoc, length-append, length-drop, nil_from_length, length-take-le, take-append-drop, take_more, get_or-drop}
use Rattle.std.proofs.lemmas.List.{get_or-take, get_or_default}
use Rattle.std.proofs.lemmas.Bool.{cases_lt}
use Rattle.std.proofs.lemmas.Option.{same_Some, slice_get_cases, slice_get_past}
use Rattle.std.proofs.lemmas.List.Elements.{All-nil, All-cons, All-append, All-contains, Contains-append_left, Contains-append_right}
use Rattle.std.proofs.lemmas.List.Sums.{sum_by-append, sum_by-cons, sum_by_more}
use Rattle.joint_machine.specs.declared.names.HNum.{HNum}
use Rattle.joint_machine.specs.declared.events.Entry.{Entry}
use Rattle.joint_model.specs.declared.marks.Leader.{Leader}
use Rattle.joint_model.specs.Following.{follower_of, followers_of}
use Rattle.joint_model.specs.Leaders.{led, spelled, AreFollowed, Starts}
use Rattle.joint_model.specs.Merged.{Ascends}
use Rattle.joint_machine.proofs.Deciding.{none_some}
use Rattle.joint_machine.proofs.Members.{Contains-at, Contains-here}
use Rattle.joint_model.proofs.Spelling.{length-followers, spelled-append, spelled_length}

-- how many followers leaders have
abbrev followers_in : List Leader → ℕ
followers_in ls = sum_by (λ l. l.followers) ls

-- a further leader starts where the others end, and another form of the last one where that starts
pub starts-last : (n : ℕ) (ls : List Leader) (l : Leader) → Starts n ls → l.from ≡ n + followers_in ls → Starts n (ls ++ l ∷ [])
starts-last n [] l s e = (e ∙ omega arith, tt)
starts-last n (m ∷ ls) l s e = (s.0, starts-last (n + m.followers) ls l s.1 (e ∙ omega (arith, sum_by-cons (λ (x : Leader). x.followers) m ls)))

starts-of-last : (n : ℕ) (ls : List Leader) (l : Leader) → Starts n (ls ++ l ∷ []) → Starts n ls × (l.from ≡ n + followers_in ls)
starts-of-last n [] l s = (tt, s.0 ∙ omega arith)
starts-of-last n (m ∷ ls) l s = let w = starts-of-last (n + m.followers) ls l s.1 in ((s.0, w.0), w.1 ∙ omega (arith, sum_by-cons (λ (x : Leader). x.followers) m ls))

pub starts-set : (ls : List Leader) (l m : Leader) → Starts 0 (ls ++ l ∷ []) → m.from ≡ l.from → Starts 0 (ls ++ m ∷ [])
starts-set ls l m s same = let w = starts-of-last 0 ls l s in starts-last 0 ls m w.0 (same ∙ w.1)

-- a leader among others starts where those before it end
starts-at : (n : ℕ) (ls : List Leader) (k : ℕ) (d : Leader) → Starts n ls → k < length ls → (slice_index_or ls k d).from ≡ n + followers_in (take k ls)
starts-at n [] k d s l = absurd (omega (arith, l))
starts-at n (m ∷ ls) zero d s l = s.0 ∙ omega arith
starts-at n (m ∷ ls) (suc k) d s l = starts-at (n + m.followers) ls k d s.1 (omega (arith, l)) ∙ omega (arith, sum_by-cons (λ (x : Leader). x.followers) m (take k ls))

-- a leader with what stands before it, and what stands after those that follow it
record Around (ls : List Leader) (hs : List HNum) (k : ℕ) (l : Leader) : Type 0 where
  pub leader : (d : Leader) → slice_index_or ls k d ≡ l
  pub within : k < length ls
  pub start : l.from + l.followers ≤ length hs
  pub own : length (take l.followers (drop l.from hs)) ≡ l.followers
  pub place : length (spelled (take k ls) (take l.from hs)) ≡ k + l.from
  pub split : spelled ls hs ≡ spelled (take k ls) (take l.from hs) ++ (led l hs ++ spelled (drop (k + 1) ls) (drop l.followers (drop l.from hs)))

around : (ls : List Leader) (hs : List HNum) (k : ℕ) (d : Leader) → AreFollowed ls hs → Starts 0 ls → k < length ls → Around ls hs k (slice_index_or ls k d)
around ls hs k d f starts within =
    let l = slice_index_or ls k d in
    let s = followers_in (take k ls) in
    let from : l.from ≡ s = starts-at 0 ls k d starts within ∙ omega arith in
    let whole : followers_in (take (k + 1) ls ++ drop (k + 1) ls) ≡ length hs = rw (take-append-drop (k + 1) ls) f in
    let parts : followers_in (take (k + 1) ls ++ drop (k + 1) ls) ≡ followers_in (take (k + 1) ls) + followers_in
    (drop (k + 1) ls) = sum_by-append (λ (x : Leader). x.followers) (take (k + 1) ls) (drop (k + 1) ls) in
    let more : followers_in (take (k + 1) ls) ≡ s + l.followers = sum_by_more (λ (x : Leader). x.followers) ls k d within in
    let start : l.from + l.followers ≤ length hs = omega (arith, whole, parts, more, from) in
    let first : length (take l.from hs) ≡ l.from = length-take-le l.from hs (omega (arith, start)) in
    let left : length (drop l.from hs) ≡ length hs - l.from = length-drop l.from hs in
    let before : AreFollowed (take k ls) (take l.from hs) = sym from ∙ sym first in
    let leaders : ls ≡ take k ls ++ l ∷ drop (k + 1) ls =
    sym (take-append-drop (k + 1) ls) ∙ (ap (λ xs. xs ++ drop (k + 1) ls) (take_more ls k d within) ∙ append_assoc (take k ls) (l ∷ []) (drop (k + 1) ls)) in
    record {
      leader = λ e. get_or_default ls k e d within;
      within = within;
      start = start;
      own = length-take-le l.followers (drop l.from hs) (omega (arith, start, left));
      place = spelled_length (take k ls) (take l.from hs) before ∙ omega (arith, first, length-take-le k ls (omega (arith, within)));
      split = ap (λ xs. spelled xs hs) leaders ∙ (ap (spelled (take k ls ++ l ∷ drop (k + 1) ls)) (sym (take-append-drop l.from hs))
          ∙ spelled-append (take k ls) (l ∷ drop (k + 1) ls) (take l.from hs) (drop l.from hs) before);
    }

-- what stands at a place of two lists, one after the other
get-first : (xs ys : List Entry) (i : ℕ) (e : Entry) → slice_get xs i ≡ Some e → slice_get (xs ++ ys) i ≡ Some e
get-first [] ys i e q = absurd (none_some e q)
get-first (x ∷ xs) ys zero e q = q
get-first (x ∷ xs) ys (suc i) e q = get-first xs ys i e q

get-second : (xs ys : List Entry) (i : ℕ) → slice_get (xs ++ ys) (length xs + i) ≡ slice_get ys i
get-second [] ys i = ap (slice_get ys) (omega arith)
get-second (x ∷ xs) ys i = let next : length (x ∷ xs) + i ≡ suc (length xs + i) = omega arith in ap (slice_get (x ∷ (xs ++ ys))) next ∙ get-second xs ys i

get-follower : (e : Entry) (i : ℕ) (hs : List HNum) (k : ℕ) (d : HNum) → k < length hs → slice_get (followers_of e i hs) k ≡ Some (follower_of e (i + k) (slice_index_or hs k d))
get-follower e i [] k d l = absurd (omega (arith, l))
get-follower e i (h ∷ hs) zero d l = ap (λ n. Some (follower_of e n h)) (omega arith)
get-follower e i (h ∷ hs) (suc k) d l = get-follower e (suc i) hs k d (omega (arith, l)) ∙ ap (λ n. Some (follower_of e n (slice_index_or hs k d))) (omega arith)

-- a leader's entry stands first of those that it leads, each follower after it at its place, and no more
length-led : (l : Leader) (hs : List HNum) → l.from + l.followers ≤ length hs → length (led l hs) ≡ l.followers + 1
length-led l hs start =
    let own : length (take l.followers (drop l.from hs)) ≡ l.followers = length-take-le l.followers (drop l.from hs) (omega (arith, start, length-drop l.from hs)) in
    omega (arith, own, length-followers l.entry 1 (take l.followers (drop l.from hs)))

pub led-none : (l : Leader) (hs : List HNum) (i : ℕ) → l.from + l.followers ≤ length hs → l.followers < i → slice_get (led l hs) i ≡ None
led-none l hs i start past = slice_get_past (led l hs) i (omega (arith, past, length-led l hs start))

pub led-follower : (l : Leader) (hs : List HNum) (i : ℕ) (d : HNum) → l.from + l.followers ≤ length hs → 0 < i → i ≤ l.followers
    → slice_get (led l hs) i ≡ Some (follower_of l.entry i (slice_index_or hs (l.from + i - 1) d))
led-follower l hs zero d start some within = absurd (omega (arith, some))
led-follower l hs (suc j) d start some within =
    let own : length (take l.followers (drop l.from hs)) ≡ l.followers = length-take-le l.followers (drop l.from hs) (omega (arith, start, length-drop l.from hs)) in
    let at : slice_index_or (take l.followers (drop l.from hs)) j d ≡ slice_index_or hs (l.from + suc j - 1) d =
    get_or-take l.followers (drop l.from hs) j d (omega (arith, within)) ∙ (get_or-drop l.from hs j d ∙ ap (λ n. slice_index_or hs n d) (omega arith)) in
    get-follower l.entry 1 (take l.followers (drop l.from hs)) j d (omega (arith, own, within))
    ∙ (ap (λ n. Some (follower_of l.entry n (slice_index_or (take l.followers (drop l.from hs)) j d))) (omega arith) ∙ ap (λ h. Some (follower_of l.entry (suc j) h)) at)

-- where a leader is the last one at a place or before it, what it leads has what stands there
pub at-place : (ls : List Leader) (hs : List HNum) (k place : ℕ) (d : Leader) → AreFollowed ls hs → Starts 0 ls → k < length ls → k + (slice_index_or ls k d).from ≤ place
    → (k + 1 < length ls → place < k + 1 + (slice_index_or ls (k + 1) d).from) → slice_get (led (slice_index_or ls k d) hs) (place - k - (slice_index_or ls k d).from) ≡ slice_get (spelled ls hs) place
at-place ls hs k place d f starts within low next =
    let l = slice_index_or ls k d in
    let w = around ls hs k d f starts within in
    let i = place - k - l.from in
    let before = spelled (take k ls) (take l.from hs) in
    let rest = spelled (drop (k + 1) ls) (drop l.followers (drop l.from hs)) in
    let there : slice_get (spelled ls hs) place ≡ slice_get (led l hs ++ rest) i =
    ap (λ es. slice_get es place) w.split ∙ (ap (slice_get (before ++ (led l hs ++ rest))) (omega (arith, low, w.place)) ∙ get-second before (led l hs ++ rest) i) in
    elim (slice_get_cases (led l hs) i).1 [
      | inl x ↦ x.2 ∙ sym (there ∙ get-first (led l hs) rest i x.0 x.2)
      | inr n ↦ n.1 ∙ sym (slice_get_past (spelled ls hs) place (ends n.0))
    ]
  where
    ends : length (led (slice_index_or ls k d) hs) ≤ place - k - (slice_index_or ls k d).from → length (spelled ls hs) ≤ place
    ends past =
        let l = slice_index_or ls k d in
        let w = around ls hs k d f starts within in
        let own = length-led l hs w.start in
        elim (cases_lt (k + 1) (length ls)) [
          | inl more ↦ absurd (omega (
            arith,
            past,
            own,
            low,
            next more,
            starts-at 0 ls k d starts within,
            starts-at 0 ls (k + 1) d starts more,
            sum_by_more (λ (x : Leader). x.followers) ls k d within,
          ))
          | inr last ↦ let none : length (spelled (drop (k + 1) ls) (drop l.followers (drop l.from hs))) ≡ 0 = ap
              (λ ms. length (spelled ms (drop l.followers (drop l.from hs)))) (nil_from_length (drop (k + 1) ls) (omega (arith, last, length-drop (k + 1) ls))) in
              let whole = ap length w.split ∙ (length-append (spelled (take k ls) (take l.from hs)) (led l hs ++ spelled (drop (k + 1) ls) (drop l.followers (drop l.from hs)))) in
              omega (arith, whole, length-append (led l hs) (spelled (drop (k + 1) ls) (drop l.followers (drop l.from hs))), none, own, past, low, w.place)
        ]

pub no-later : (ls : List Leader) (k place : ℕ) → k < length ls → ((d : Leader) → k + (slice_index_or ls k d).from ≤ place) → k ≤ place
no-later [] k place within before = absurd (omega (arith, within))
no-later (l ∷ ls) k place within before = omega (arith, before l)

pub leads-there : (ls : List Leader) (hs : List HNum) (k : ℕ) (d : Leader) → AreFollowed ls hs → Starts 0 ls
    → k < length ls → (slice_index_or ls k d).from + (slice_index_or ls k d).followers ≤ length hs
leads-there ls hs k d f starts within = (around ls hs k d f starts within).start

-- what stands among those that a leader leads stands in the list
stands-led : (ls : List Leader) (hs : List HNum) (k : ℕ) (l : Leader) (x : Entry) → Around ls hs k l → Contains (led l hs) x → Contains (spelled ls hs) x
stands-led ls hs k l x w c =
    let before = spelled (take k ls) (take l.from hs) in
    let rest = spelled (drop (k + 1) ls) (drop l.followers (drop l.from hs)) in
    subst (λ es. Contains es x) (sym w.split) (Contains-append_right before (led l hs ++ rest) x (Contains-append_left (led l hs) rest x c))

-- in order, all before an entry have no higher numbers, and what comes after some is in order
below-next : (xs : List Entry) (y : Entry) (ys : List Entry) → Ascends (xs ++ y ∷ ys) → All (λ x. x.number ≤ y.number) xs
below-next [] y ys a = All-nil (λ (x : Entry). x.number ≤ y.number)
below-next (x ∷ xs) y ys a = All-cons (λ (z : Entry). z.number ≤ y.number) x xs
    (All-contains (λ (z : Entry). x.number ≤ z.number) (xs ++ y ∷ ys) y a.0 (Contains-append_right xs (y ∷ ys) y (Contains-here y ys)))
    (below-next xs y ys a.1)

ascends-after : (xs ys : List Entry) → Ascends (xs ++ ys) → Ascends ys
ascends-after [] ys a = a
ascends-after (x ∷ xs) ys a = ascends-after xs ys a.1

-- leaders of which the first has a higher number have entries with higher numbers alone
high : (ms : List Leader) (gs : List HNum) (n : ℕ) → Ascends (spelled ms gs) → ((d : Leader) → 0 < length ms → n < (slice_index_or ms 0 d).entry.number) → All (λ e. e.number ≢ n) (spelled ms gs)
high [] gs n a h = All-nil (λ (e : Entry). e.number ≢ n)
high (m ∷ ms) gs n a h =
    let first : n < m.entry.number = h m (omega arith) in
    All-cons (λ (e : Entry). e.number ≢ n) m.entry (followers_of m.entry 1 (take m.followers gs) ++ spelled ms (drop m.followers gs)) (λ same. omega (arith, first, same))
    (λ k d l same. let low : m.entry.number ≤ n = subst (λ x. m.entry.number ≤ x) same (a.0 k d l) in omega (arith, first, low))

-- followers have numbers between the leader's and the one after the last of them
low : (e : Entry) (i : ℕ) (hs : List HNum) (n : ℕ) → e.number + i + length hs ≤ n → n < 2 ^ 64 → All (λ x. x.number ≢ n) (followers_of e i hs)
low e i [] n l b = All-nil (λ (x : Entry). x.number ≢ n)
low e i (h ∷ hs) n l b =
    All-cons (λ (x : Entry). x.number ≢ n) (follower_of e i h) (followers_of e (suc i) hs) (λ same. omega (arith, same, l, b)) (low e (suc i) hs n (omega (arith, l)) b)

-- no entry has a number past a leader's followers and before the next leader's
stands-nowhere : (ls : List Leader) (hs : List HNum) (k n : ℕ) (l : Leader) → Around ls hs k l → Ascends (spelled ls hs) → n < 2 ^ 64 → l.entry.number + l.followers < n
    → ((d : Leader) → k + 1 < length ls → n < (slice_index_or ls (k + 1) d).entry.number) → All (λ e. e.number ≢ n) (spelled ls hs)
stands-nowhere ls hs k n l w a b past next =
    let e = l.entry in
    let own = take l.followers (drop l.from hs) in
    let before = spelled (take k ls) (take l.from hs) in
    let rest = spelled (drop (k + 1) ls) (drop l.followers (drop l.from hs)) in
    let P = λ (x : Entry). x.number ≢ n in
    let whole : Ascends (before ++ e ∷ (followers_of e 1 own ++ rest)) = subst Ascends w.split a in
    let under = below-next before e (followers_of e 1 own ++ rest) whole in
    let after : Ascends rest = ascends-after (followers_of e 1 own) rest (ascends-after before (e ∷ (followers_of e 1 own ++ rest)) whole).1 in
    let above : All P rest = high (drop (k + 1) ls) (drop l.followers (drop l.from hs)) n after
    (λ d more. let there : n < (slice_index_or ls (k + 1 + 0) d).entry.number = subst
    (λ j. n < (slice_index_or ls j d).entry.number) (omega arith) (next d (omega (arith, more, length-drop (k + 1) ls))) in
    subst (λ (x : Leader). n < x.entry.number) (sym (get_or-drop (k + 1) ls 0 d)) there) in
    let between : All P (followers_of e 1 own) = low e 1 own n (omega (arith, w.own, past)) b in
    let first : All P before = λ j d h same. let small : n ≤ l.entry.number = subst (λ x. x ≤ l.entry.number) same (under j d h) in omega (arith, small, past) in
    subst (All P) (sym w.split) (All-append P before (e ∷ (followers_of e 1 own ++ rest)) first
    (All-cons P e (followers_of e 1 own ++ rest) (λ same. omega (arith, same, past)) (All-append P (followers_of e 1 own) rest between above)))

-- where a search for a number ends among leaders: the leader before that place has that number or a lower one, and the
-- one at it has a higher one
abbrev pub Below : List Leader → ℕ → ℕ → Type 0
Below ls n at = (d : Leader) → 0 < at → (slice_index_or ls (at - 1) d).entry.number ≤ n

abbrev pub Above : List Leader → ℕ → ℕ → Type 0
Above ls n at = (d : Leader) → at < length ls → n < (slice_index_or ls at d).entry.number

-- no leader has so low a number
pub finds-no-leader : (ls : List Leader) (hs : List HNum) (n at : ℕ) → Above ls n at → at ≡ 0 → Ascends (spelled ls hs) → All (λ e. e.number ≢ n) (spelled ls hs)
finds-no-leader ls hs n at p z a = high ls hs n a (λ d b. subst (λ k. n < (slice_index_or ls k d).entry.number) z (p d (omega (arith, z, b))))

-- the number lies past the followers of the leader before
finds-none : (ls : List Leader) (hs : List HNum) (n at : ℕ) (d : Leader) → Above ls n at → AreFollowed ls hs → Starts 0 ls → Ascends (spelled ls hs) → n < 2 ^ 64 → 0 < at → at ≤ length ls
    → (slice_index_or ls (at - 1) d).followers < n - (slice_index_or ls (at - 1) d).entry.number → All (λ e. e.number ≢ n) (spelled ls hs)
finds-none ls hs n at d p f s a small z b past =
    let w = around ls hs (at - 1) d f s (omega (arith, z, b)) in
    let next : at - 1 + 1 ≡ at = omega (arith, z) in
    stands-nowhere ls hs (at - 1) n (slice_index_or ls (at - 1) d) w a small (omega (arith, past))
    (λ e more. subst (λ k. n < (slice_index_or ls k e).entry.number) (sym next) (p e (omega (arith, more, next))))

-- what so many places after a leader has that number higher
led-number : (l : Leader) (hs : List HNum) (n i : ℕ) (x : Entry) → l.from + l.followers ≤ length hs → l.entry.number + i ≡ n → n < 2 ^ 64 → i ≤ l.followers
    → slice_get (led l hs) i ≡ Some x → x.number ≡ n
led-number l hs n zero x start sum small within is = let first : x.number ≡ l.entry.number = ap (λ (y : Entry). y.number) (same_Some _ _ (sym is)) in omega (arith, first, sum)
led-number l hs n (suc j) x start sum small within is =
    let h : HNum = record { 0 = 0 } in
    let follower : x ≡ follower_of l.entry (suc j) (slice_index_or hs (l.from + suc j - 1) h) = same_Some _ _ (sym is ∙ led-follower l hs (suc j) h start (omega arith) within) in
    let number : x.number ≡ (l.entry.number + suc j) % 2 ^ 64 = ap (λ (y : Entry). y.number) follower in
    omega (arith, number, sum, small)

-- something stands at each of those places
led-some : (l : Leader) (hs : List HNum) (i : ℕ) → l.from + l.followers ≤ length hs → i ≤ l.followers → slice_get (led l hs) i ≡ None → ⊥
led-some l hs zero start within is = none_some l.entry (sym is)
led-some l hs (suc j) start within is = none_some _ (sym is ∙ led-follower l hs (suc j) (record { 0 = 0 }) start (omega arith) within)

-- so what stands so many places after that leader is the entry with the number, or there is none
pub finds-after : (ls : List Leader) (hs : List HNum) (n at : ℕ) (d : Leader) (found : Option Entry)
    → found ≡ slice_get (led (slice_index_or ls (at - 1) d) hs) (n - (slice_index_or ls (at - 1) d).entry.number)
    → Below ls n at → Above ls n at → AreFollowed ls hs → Starts 0 ls → Ascends (spelled ls hs) → n < 2 ^ 64 → 0 < at → at ≤ length ls
    → MatchOption found (All (λ e. e.number ≢ n) (spelled ls hs)) (λ e. Contains (spelled ls hs) e × (e.number ≡ n))
finds-after ls hs n at d None is b p f s a small z w =
    let l = slice_index_or ls (at - 1) d in
    elim (cases_lt l.followers (n - l.entry.number)) [
      | inl past ↦ finds-none ls hs n at d p f s a small z w past
      | inr i ↦ absurd (led-some l hs (n - l.entry.number) (leads-there ls hs (at - 1) d f s (omega (arith, z, w))) i (sym is))
    ]
finds-after ls hs n at d (Some x) is b p f s a small z w =
    let l = slice_index_or ls (at - 1) d in
    let there = around ls hs (at - 1) d f s (omega (arith, z, w)) in
    elim (cases_lt l.followers (n - l.entry.number)) [
      | inl past ↦ absurd (none_some x (sym (is ∙ led-none l hs (n - l.entry.number) there.start past)))
      | inr i ↦ (
        stands-led ls hs (at - 1) l x there (Contains-at (led l hs) (n - l.entry.number) x (sym is)),
        led-number l hs n (n - l.entry.number) x there.start (omega (arith, b d z)) small i (sym is),
      )
    ]
