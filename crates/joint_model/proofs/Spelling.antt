-- How leaders and handles spell entries: what comes last, and how many there are.
use Rattle.std.proofs.Common.{◌≡◌, ℕ, suc, ◌+◌, ◌-◌, ◌%◌, ◌^◌, ◌<◌, ◌≤◌, List, [], ◌∷◌, ◌++◌, length, take, drop, sum_by, Some, arith, refl, subst, sym, ap, ◌∙◌}
use Rattle.std.proofs.lemmas.List.{append-nil, append_assoc, length-append, length-drop, take-append-le, drop-append-le, take-append-drop, take_all, length-take-le}
use Rattle.std.proofs.lemmas.List.{nil_from_length}
use Rattle.std.proofs.lemmas.List.Sums.{sum_by-cons, sum_by_push}
use Rattle.joint_machine.specs.declared.names.HNum.{HNum}
use Rattle.joint_machine.specs.declared.events.Entry.{Entry}
use Rattle.joint_model.specs.declared.marks.Leader.{Leader}
use Rattle.joint_model.specs.Following.{follower_of, followers_of}
use Rattle.joint_model.specs.Leaders.{spelled, AreFollowed}
use Rattle.joint_model.specs.Merged.{first_number}

-- the first of some followers has the number of that place
pub first_follower : (e : Entry) (i : ℕ) (own : List HNum) (rest : List Entry) → 0 < length own → first_number (followers_of e i own ++ rest) ≡ Some ((e.number + i) % 2 ^ 64)
first_follower e i [] rest l = absurd (omega (arith, l))
first_follower e i (h ∷ hs) rest l = refl

-- two stretches of leaders with the handles of each
pub spelled-append : (ls ms : List Leader) (hs gs : List HNum) → AreFollowed ls hs → spelled (ls ++ ms) (hs ++ gs) ≡ spelled ls hs ++ spelled ms gs
spelled-append [] ms hs gs f = rw (nil_from_length hs (sym f)) refl
spelled-append (l ∷ ls) ms hs gs f =
    let n = l.followers in
    let sum : n + sum_by (λ (x : Leader). x.followers) ls ≡ length hs = sym (sum_by-cons (λ (x : Leader). x.followers) l ls) ∙ f in
    let fits : n ≤ length hs = omega (arith, sum) in
    let rest : AreFollowed ls (drop n hs) = omega (arith, sum, length-drop n hs) in
    rw (take-append-le n hs gs fits, drop-append-le n hs gs fits, spelled-append ls ms (drop n hs) gs rest)
    (ap (λ es. l.entry ∷ es) (sym (append_assoc (followers_of l.entry 1 (take n hs)) (spelled ls (drop n hs)) (spelled ms gs))))

pub length-followers : (e : Entry) (i : ℕ) (hs : List HNum) → length (followers_of e i hs) ≡ length hs
length-followers e i [] = refl
length-followers e i (h ∷ hs) = ap suc (length-followers e (suc i) hs)

-- how many entries there are
pub spelled_length : (ls : List Leader) (hs : List HNum) → AreFollowed ls hs → length (spelled ls hs) ≡ length ls + length hs
spelled_length [] hs f = omega (arith, f)
spelled_length (l ∷ ls) hs f =
    let n = l.followers in
    let sum : n + sum_by (λ (x : Leader). x.followers) ls ≡ length hs = sym (sum_by-cons (λ (x : Leader). x.followers) l ls) ∙ f in
    let fits : n ≤ length hs = omega (arith, sum) in
    let left : length (drop n hs) ≡ length hs - n = length-drop n hs in
    let rest : length (spelled ls (drop n hs)) ≡ length ls + length (drop n hs) = spelled_length ls (drop n hs) (omega (arith, sum, left)) in
    let own : length (followers_of l.entry 1 (take n hs)) ≡ n = length-followers l.entry 1 (take n hs) ∙ length-take-le n hs fits in
    let all = length-append (followers_of l.entry 1 (take n hs)) (spelled ls (drop n hs)) in
    omega (arith, sum, left, rest, own, all)

-- a leader and its own followers
spelled-one : (l : Leader) (hs : List HNum) → l.followers ≡ length hs → spelled (l ∷ []) hs ≡ l.entry ∷ followers_of l.entry 1 hs
spelled-one l hs f = rw (take_all l.followers hs (omega (arith, f))) (ap (λ es. l.entry ∷ es) (append-nil (followers_of l.entry 1 hs)))

-- what a last leader and its own followers add
pub spelled-last : (ls : List Leader) (l : Leader) (hs own : List HNum) → AreFollowed ls hs → l.followers ≡ length own
    → spelled (ls ++ l ∷ []) (hs ++ own) ≡ spelled ls hs ++ l.entry ∷ followers_of l.entry 1 own
spelled-last ls l hs own f n = rw (spelled-append ls (l ∷ []) hs own f) (ap (λ es. spelled ls hs ++ es) (spelled-one l own n))

-- a further leader has no followers
pub leader-last : (ls : List Leader) (l : Leader) (hs : List HNum) → AreFollowed ls hs → l.followers ≡ 0 → spelled (ls ++ l ∷ []) hs ≡ spelled ls hs ++ l.entry ∷ []
leader-last ls l hs f n = subst (λ gs. spelled (ls ++ l ∷ []) gs ≡ spelled ls hs ++ l.entry ∷ []) (append-nil hs) (spelled-last ls l hs [] f n)

-- the followers with one more
followers-last : (e : Entry) (i : ℕ) (hs : List HNum) (h : HNum) → followers_of e i (hs ++ h ∷ []) ≡ followers_of e i hs ++ follower_of e (i + length hs) h ∷ []
followers-last e i [] h = ap (λ n. follower_of e n h ∷ []) (omega arith)
followers-last e i (g ∷ hs) h = ap (λ es. follower_of e i g ∷ es) (followers-last e (suc i) hs h ∙ ap (λ n. followers_of e (suc i) hs ++ follower_of e n h ∷ []) (omega arith))

-- the last leader of some, with those before it and the handles of both
record Ends (ls : List Leader) (hs : List HNum) (l : Leader) : Type 0 where
  pub first : AreFollowed ls (take (length hs - l.followers) hs)
  pub own : l.followers ≡ length (drop (length hs - l.followers) hs)

ends-at : (ls : List Leader) (hs : List HNum) (l : Leader) → AreFollowed (ls ++ l ∷ []) hs → Ends ls hs l
ends-at ls hs l f =
    let sum : sum_by (λ (x : Leader). x.followers) (ls ++ l ∷ []) ≡ sum_by (λ x. x.followers) ls + l.followers = sum_by_push (λ (x : Leader). x.followers) ls l in
    let fits : length hs - l.followers ≤ length hs = omega arith in
    record {
      first = omega (arith, sum, f, length-take-le (length hs - l.followers) hs fits);
      own = omega (arith, sum, f, length-drop (length hs - l.followers) hs);
    }

-- one follower more of the last leader
pub follower-last : (ls : List Leader) (hs : List HNum) (l m : Leader) (h : HNum) → AreFollowed (ls ++ l ∷ []) hs → m.entry ≡ l.entry → m.followers ≡ l.followers + 1
    → spelled (ls ++ m ∷ []) (hs ++ h ∷ []) ≡ spelled (ls ++ l ∷ []) hs ++ follower_of l.entry (l.followers + 1) h ∷ []
follower-last ls hs l m h f same one =
    let e = l.entry in
    let first = take (length hs - l.followers) hs in
    let own = drop (length hs - l.followers) hs in
    let w : Ends ls hs l = ends-at ls hs l f in
    let handles : first ++ own ≡ hs = take-append-drop (length hs - l.followers) hs in
    let before : spelled (ls ++ l ∷ []) hs ≡ spelled ls first ++ e ∷ followers_of e 1 own =
    ap (spelled (ls ++ l ∷ [])) (sym handles) ∙ spelled-last ls l first own w.first w.own in
    let size : m.followers ≡ length (own ++ h ∷ []) = omega (arith, one, w.own, length-append own (h ∷ [])) in
    let longer : hs ++ h ∷ [] ≡ first ++ (own ++ h ∷ []) = ap (λ gs. gs ++ h ∷ []) (sym handles) ∙ append_assoc first own (h ∷ []) in
    let after : spelled (ls ++ m ∷ []) (hs ++ h ∷ []) ≡ spelled ls first ++ m.entry ∷ followers_of m.entry 1 (own ++ h ∷ []) =
    ap (spelled (ls ++ m ∷ [])) longer ∙ spelled-last ls m first (own ++ h ∷ []) w.first size in
    let last : followers_of e 1 (own ++ h ∷ []) ≡ followers_of e 1 own ++ follower_of e (l.followers + 1) h ∷ [] = followers-last e 1 own h
    ∙ ap (λ i. followers_of e 1 own ++ follower_of e i h ∷ []) (omega (arith, w.own)) in
    after ∙ (ap (λ x. spelled ls first ++ x ∷ followers_of x 1 (own ++ h ∷ [])) same
    ∙ (ap (λ es. spelled ls first ++ e ∷ es) last
    ∙ (sym (append_assoc (spelled ls first) (e ∷ followers_of e 1 own) (follower_of e (l.followers + 1) h ∷ []))
    ∙ ap (λ es. es ++ follower_of e (l.followers + 1) h ∷ []) (sym before))))

-- and there is a handle for it
pub followed-last : (ls : List Leader) (hs : List HNum) (l m : Leader) (h : HNum) → AreFollowed (ls ++ l ∷ []) hs → m.followers ≡ l.followers + 1 → AreFollowed (ls ++ m ∷ []) (hs ++ h ∷ [])
followed-last ls hs l m h f one = omega (
  arith,
  f,
  one,
  sum_by_push (λ (x : Leader). x.followers) ls l,
  sum_by_push (λ (x : Leader). x.followers) ls m,
  length-append hs (h ∷ []),
)
