-- No entry is cited twice, but a snap. The entry that an operation's later event will cite waits: it is the one by
-- which a thread is in the midst of something, or the clear at which the driver stands. What was cited once waits no
-- more: the citing event ends the waiting, only an entry itself begins it anew, and no two callers wait with one entry,
-- as it has one caller.
use Rattle.known_laws.proofs.Coming.{event_of, turn_of}
use Rattle.joint_machine.specs.PinsTold.{bare_told}
use Rattle.std.proofs.Common.{◌≡◌, ◌⊎◌, inl, inr, ⊎_elim, ℕ, ◌<◌, List, [], ◌∷◌, ◌++◌, Option, Some, refl, sym, ap, ◌∙◌, subst, arith}
use Rattle.std.proofs.lemmas.Option.{same_Some}
use Rattle.joint_machine.specs.declared.names.Thread.{Thread}
use Rattle.joint_machine.specs.declared.names.Thread.TheVariants.{M, P, C}
use Rattle.joint_machine.specs.declared.names.Cycle.{Cycle}
use Rattle.joint_machine.specs.declared.events.Op.{Op}
use Rattle.joint_machine.specs.declared.events.Op.TheVariants as op
use Rattle.joint_machine.specs.declared.events.Reply.{Reply}
use Rattle.joint_machine.specs.declared.events.Reply.TheVariants as says
use Rattle.joint_machine.specs.declared.events.Made.{Made}
use Rattle.joint_machine.specs.Control.{Doing, free, made, lent, gripped, given, met, Control, Stand, snapped, contracted, weakening, marked, restoring, restored, CallerAllows, doing_after}
use Rattle.joint_machine.specs.Control.{stand_after, control_after, doing_at, ThreadAllows, DriverAllows}
use Rattle.joint_machine.specs.Lines.{IsEvent}
use Rattle.joint_machine.specs.Managed.{Managed}
use Rattle.joint_machine.specs.Peers.{Issued}
use Rattle.joint_machine.specs.Told.{Told, Noted, contraction_of, resolution_of}
use Rattle.joint_machine.proofs.Deciding.{none_some}
use Rattle.joint_laws.proofs.Hands.{doing-set_cases}
use Rattle.known_laws.specs.Pasts.{Lawful, end_of}
use Rattle.known_laws.specs.PastEntries.{InPast}
use Rattle.known_laws.specs.Citations.{HasCited, Cites, IsSnapping, NoneIsCitedTwice, EachStandsBehind}
use Rattle.known_laws.proofs.Citing.{Began, WasBegun, WasOpened, backed, pasts_cite}
use Rattle.known_laws.proofs.PastsJoin.{below}
use Rattle.known_laws.proofs.SnapTold.{numbers_are_once}

-- each entry stands behind a past
pub each_stands_behind : EachStandsBehind
each_stands_behind [] l x p = absurd p
each_stands_behind (y ∷ h) l x p = ⊎_elim
    (λ (e : y ≡ x). record { front = []; back = h; all = (λ i. e i ∷ h); lawful = subst (λ z. Lawful (z ∷ h)) e l })
    (λ q. let s = each_stands_behind h l.1 x q in record { front = y ∷ s.front; back = s.back; all = (λ i. y ∷ s.all i); lawful = s.lawful })
    p

pub in_back : (f : List Noted) (x : Noted) (b : List Noted) (e : Noted) → InPast b e → InPast (f ++ x ∷ b) e
in_back [] x b e p = inr p
in_back (y ∷ f) x b e p = inr (in_back f x b e p)

-- the number of the entry by which a thread is in the midst of something, and of the clear at which the driver stands
abbrev IsNumbered : Doing → ℕ → Type 0
IsNumbered free n = ⊥
IsNumbered (made k line p h sort f) n = k ≡ n
IsNumbered (lent k line h x) n = k ≡ n
IsNumbered (gripped k line p h sort f) n = k ≡ n
IsNumbered (given k line h) n = k ≡ n
IsNumbered (met k line h) n = k ≡ n

abbrev IsCleared : Stand → ℕ → Type 0
IsCleared (restored o answers clear) n = clear ≡ n
IsCleared _ n = ⊥

-- the caller waits with the entry of that number, which its next event may cite
abbrev WaitsBy : Control → Thread → ℕ → Type 0
WaitsBy s (M u) n = IsNumbered (doing_at s u) n
WaitsBy s (P u) n = ⊥
WaitsBy s C n = IsCleared s.stand n

-- it stands in the past, and who waits with it made it
record IsBegun (h : List Noted) (t : Thread) (n : ℕ) : Type 0 where
  entry : Noted
  there : InPast h entry
  number : entry.entry.number ≡ n
  caller : entry.entry.made.caller ≡ t

was-begun : (h : List Noted) (t : Thread) (k n : ℕ) (Q : Made → Type 0) → Began h t k Q → k ≡ n → IsBegun h t n
was-begun h t k n Q b e = record { entry = b.begun; there = b.there; number = b.numbered ∙ e; caller = b.same }

hand-begun : (h : List Noted) (t : Thread) (d : Doing) (n : ℕ) → WasBegun h t d → IsNumbered d n → IsBegun h t n
hand-begun h t free n b e = absurd e
hand-begun h t (made k line p g sort f) n b e = was-begun h t k n _ b e
hand-begun h t (lent k line g x) n b e = was-begun h t k n _ b e
hand-begun h t (gripped k line p g sort f) n b e = was-begun h t k n _ b e
hand-begun h t (given k line g) n b e = was-begun h t k n _ b e
hand-begun h t (met k line g) n b e = was-begun h t k n _ b e

stand-begun : (h : List Noted) (st : Stand) (n : ℕ) → WasOpened h st → IsCleared st n → IsBegun h C n
stand-begun h (restored o answers clear) n b e = was-begun h C clear n _ b e
stand-begun h _ n b e = absurd e

begun : (h : List Noted) → Lawful h → (t : Thread) (n : ℕ) → WaitsBy (end_of h).control t n → IsBegun h t n
begun h l (M u) n w = hand-begun h (M u) (doing_at (end_of h).control u) n ((backed h l).hands u) w
begun h l (P u) n w = absurd w
begun h l C n w = stand-begun h (end_of h).control.stand n (backed h l).stand w

one-caller : (h : List Noted) (t u : Thread) (n : ℕ) → Lawful h → IsBegun h t n → IsBegun h u n → t ≡ u
one-caller h t u n l a b =
    let e = numbers_are_once h l a.entry b.entry a.there b.there (a.number ∙ sym b.number) in
    sym a.caller ∙ (ap (λ (z : Noted). z.entry.made.caller) e ∙ b.caller)

-- the events that cite an entry which no other may, and those that cite a snap
abbrev CitesOnce : Op → Type 0
CitesOnce (op.Adopt v kind k p h) = Unit {0}
CitesOnce (op.Land h x) = Unit {0}
CitesOnce (op.Meet v sort f p h) = Unit {0}
CitesOnce (op.Release h) = Unit {0}
CitesOnce (op.Resolve k) = Unit {0}
CitesOnce o = ⊥

abbrev CitesSnap : Op → Type 0
CitesSnap (op.Mirror k) = Unit {0}
CitesSnap (op.Weaken h) = Unit {0}
CitesSnap o = ⊥

-- an entry that cites does it in one of these ways
citing : (h : List Noted) (x : Made) (k n : ℕ) (o : Op) → Cites h x k o → x.cites ≡ Some n → CitesOnce o ⊎ CitesSnap o
citing h x k n (op.Adopt v kind f p g) c e = inl tt
citing h x k n (op.Land g y) c e = inl tt
citing h x k n (op.Meet v sort f p g) c e = inl tt
citing h x k n (op.Release g) c e = inl tt
citing h x k n (op.Resolve c') c e = inl tt
citing h x k n (op.Mirror c') c e = inr tt
citing h x k n (op.Weaken g) c e = inr tt
citing h x k n _ c e = absurd (none_some n (sym c ∙ e))

cited-earlier : (h : List Noted) (x : Made) (k n : ℕ) (o : Op) → Cites h x k o → x.cites ≡ Some n → n < k
cited-earlier h x k n o c e = by o c
  where
    smaller : (Q : Made → Type 0) → HasCited h x k Q → n < k
    smaller Q w = let s = same_Some _ _ (sym e ∙ w.by_number) in let l = w.earlier in omega (arith, s, l)

    by : (o : Op) → Cites h x k o → n < k
    by (op.Adopt v kind f p g) c = smaller _ c
    by (op.Land g y) c = smaller _ c
    by (op.Meet v sort f p g) c = smaller _ c
    by (op.Release g) c = smaller _ c
    by (op.Resolve c') c = smaller _ c
    by (op.Mirror c') c = smaller _ c
    by (op.Weaken g) c = smaller _ c
    by _ c = absurd (none_some n (sym c ∙ e))

earlier : (h : List Noted) → Lawful h → (y : Noted) → InPast h y → (n : ℕ) → y.entry.made.cites ≡ Some n → n < y.entry.number
earlier h l y p n e =
    let s = each_stands_behind h l y p in
    cited-earlier s.back y.entry.made y.entry.number n y.entry.made.op (pasts_cite y s.back s.lawful) e

-- who cites an entry that waits, waits with it
thread-waits : (d : Doing) (t : Thread) (l n : ℕ) (o : Op) (c : Option ℕ) → ThreadAllows d t l o c → c ≡ Some n → IsNumbered d n
thread-waits (made k line p g sort f) t l n (op.Adopt v kind j p' g') c a e = same_Some _ _ (sym a.0 ∙ e)
thread-waits (lent k line g y) t l n (op.Land g' y') c a e = same_Some _ _ (sym a.0 ∙ e)
thread-waits (gripped k line p g sort f) t l n (op.Meet v sort' f' p' g') c a e = same_Some _ _ (sym a.0 ∙ e)
thread-waits (given k line g) t l n (op.Release g') c a e = same_Some _ _ (sym a.0 ∙ e)
thread-waits (met k line g) t l n (op.Release g') c a e = same_Some _ _ (sym a.0 ∙ e)
thread-waits (given k line g) t l n o c a e = absurd a
thread-waits (met k line g) t l n o c a e = absurd a
thread-waits d t l n (op.Adopt v kind j p g) c a e = absurd a
thread-waits d t l n (op.Land g y) c a e = absurd a
thread-waits d t l n (op.Meet v sort f p g) c a e = absurd a
thread-waits d t l n (op.Release g) c a e = absurd a
thread-waits d t l n o c a e = absurd (none_some n (sym a ∙ e))

resolve-waits : (st : Stand) (m : Managed) (i : List Issued) (k : Cycle) (n : ℕ) (r : Reply) (c : Option ℕ) (told : Told)
    → DriverAllows st m i (op.Resolve k) r c told → c ≡ Some n → IsCleared st n
resolve-waits (restored o answers clear) m i k n r c (resolution_of alive freed) a e = same_Some _ _ (sym a.1 ∙ e)
resolve-waits (restored o answers clear) m i k n r c _ a e = absurd a
resolve-waits _ m i k n r c told a e = absurd a

-- an event begins the waiting of its own entry alone
doing-begins : (k l n : ℕ) (o : Op) (r : Reply) → IsNumbered (doing_after k l o r) n → k ≡ n
doing-begins k l n (op.Make sort f) (says.Made p g) w = w
doing-begins k l n (op.Make sort f) _ w = absurd w
doing-begins k l n (op.Lend v x) (says.H g) w = w
doing-begins k l n (op.Lend v x) _ w = absurd w
doing-begins k l n (op.Grip x) (says.Gripped p g sort f) w = w
doing-begins k l n (op.Grip x) _ w = absurd w
doing-begins k l n (op.Give v) (says.H g) w = w
doing-begins k l n (op.Give v) _ w = absurd w
doing-begins k l n (op.Meet v sort f p g) (says.New m) w = absurd w
doing-begins k l n (op.Meet v sort f p g) _ w = w
doing-begins k l n _ r w = absurd w

stand-begins : (st : Stand) (k n : ℕ) (o : Op) (r : Reply) (told : Told) → IsCleared (stand_after st k o r told) n → IsCleared st n ⊎ (k ≡ n)
stand-begins st k n (op.Snap c) r told w = absurd w
stand-begins st k n (op.Resolve c) r told w = absurd w
stand-begins st k n (op.Abandon c) r told w = absurd w
stand-begins (snapped o) k n (op.Contract c) r (contraction_of comps heavy xrefs) w = absurd w
stand-begins (contracted o comps heavy xrefs) k n (op.Mirror c) r told w = absurd w
stand-begins (weakening o count y z) k n (op.Weaken g) r told w = absurd w
stand-begins (weakening o count y z) k n op.Sweep r told w = absurd w
stand-begins (weakening o count y z) k n op.Begin r told w = absurd w
stand-begins (weakening o count y z) k n (op.Refused v) r told w = absurd w
stand-begins (marked o) k n op.Sweep r told w = absurd w
stand-begins (restoring o answers) k n (op.Restore g) r told w = absurd w
stand-begins (restoring o answers) k n (op.Clear c) r told w = inr w
stand-begins st k n _ r told w = inl w

module _ (x : Noted) (h : List Noted) (l : Lawful (x ∷ h)) (n : ℕ) where
  abbrev Allows : Thread → Op → Type 0
  Allows t o = CallerAllows (end_of h).control (end_of h).managed.managed (end_of h).peer.peers.issued t x.entry.made.index o x.entry.made.reply x.entry.made.cites (bare_told x.told)

  abbrev After : Thread → Op → Control
  After t o = control_after (end_of h).control t x.entry.number x.entry.made.index o x.entry.made.reply (bare_told x.told)

  -- who cites an entry that no other may waits with it
  citer-waits : x.entry.made.cites ≡ Some n → (t : Thread) (o : Op) → CitesOnce o → IsEvent t o → Allows t o → WaitsBy (end_of h).control t n
  citer-waits e (M u) o z ev a = thread-waits (doing_at (end_of h).control u) (M u) x.entry.made.index n o x.entry.made.cites a e
  citer-waits e C (op.Resolve k) z ev a = resolve-waits (end_of h).control.stand (end_of h).managed.managed (end_of h).peer.peers.issued k n
      x.entry.made.reply x.entry.made.cites (bare_told x.told) a e
  citer-waits e (P u) (op.Resolve k) z ev a = absurd ev
  citer-waits e t (op.Adopt v kind k p g) z ev a = absurd ev.0
  citer-waits e t (op.Land g y) z ev a = absurd ev.0
  citer-waits e t (op.Meet v sort f p g) z ev a = absurd ev.0
  citer-waits e t (op.Release g) z ev a = absurd ev
  citer-waits e t o z ev a = absurd z

  -- who waits after the entry waited before it, or waits with the entry
  waited : (t u : Thread) (o : Op) → WaitsBy (After t o) u n → WaitsBy (end_of h).control u n ⊎ (x.entry.number ≡ n)
  waited (M v) (M u) o w = ⊎_elim
      (λ z. inr (doing-begins x.entry.number x.entry.made.index n o x.entry.made.reply (subst (λ d. IsNumbered d n) z.1 w)))
      (λ z. inl (subst (λ d. IsNumbered d n) z.0 w))
      (doing-set_cases (end_of h).control.doing v (doing_after x.entry.number x.entry.made.index o x.entry.made.reply) u)
  waited C C o w = stand-begins (end_of h).control.stand x.entry.number n o x.entry.made.reply (bare_told x.told) w
  waited t (P u) o w = absurd w
  waited (M v) C o w = inl w
  waited (P v) C o w = inl w
  waited C (M u) o w = inl w
  waited (P v) (M u) o w = inl w

  -- the citing event ends the waiting
  ended : (t : Thread) (o : Op) → CitesOnce o → IsEvent t o → WaitsBy (After t o) t n → x.entry.number ≡ n
  ended (M u) o z ev w = ⊎_elim
      (λ q. doing-begins x.entry.number x.entry.made.index n o x.entry.made.reply (subst (λ d. IsNumbered d n) q.1 w))
      (λ q. absurd (subst (λ d. IsNumbered d n) (q.1 refl) (subst (λ d. IsNumbered d n) q.0 w)))
      (doing-set_cases (end_of h).control.doing u (doing_after x.entry.number x.entry.made.index o x.entry.made.reply) u)
  ended (P u) o z ev w = absurd w
  ended C (op.Resolve k) z ev w = absurd w
  ended C (op.Adopt v kind k p g) z ev w = absurd ev.0
  ended C (op.Land g y) z ev w = absurd ev.0
  ended C (op.Meet v sort f p g) z ev w = absurd ev.0
  ended C (op.Release g) z ev w = absurd ev
  ended C o z ev w = absurd z

-- what was cited once waits no more
uncited : (h : List Noted) → Lawful h → (y : Noted) → InPast h y → CitesOnce y.entry.made.op → (n : ℕ) → y.entry.made.cites ≡ Some n → (t : Thread) → WaitsBy (end_of h).control t n → ⊥
uncited [] l y p z n e t w = p
uncited (x ∷ h) l y p z n e t w = ⊎_elim (λ (q : x ≡ y). here q) (λ q. there q (λ v. uncited h l.1 y q z n e t v)) p
  where
    there : InPast h y → (WaitsBy (end_of h).control t n → ⊥) → ⊥
    there q before = ⊎_elim
        before
        (λ v. let a = earlier h l.1 y q n e in let b = below x h y l.0 l.1 q in omega (arith, a, b, v))
        (waited x h l n x.entry.made.caller t x.entry.made.op w)

    here : x ≡ y → ⊥
    here q =
        let once = subst (λ (k : Noted). CitesOnce k.entry.made.op) (sym q) z in
        let cites = ap (λ (k : Noted). k.entry.made.cites) q ∙ e in
        let less = earlier (x ∷ h) l x (inl refl) n cites in
        let mine = begun h l.1 x.entry.made.caller n (citer-waits x h l n cites x.entry.made.caller x.entry.made.op once (event_of x h l) (turn_of x h l)) in
        ⊎_elim
        (λ v.
        let same : t ≡ x.entry.made.caller = one-caller h t x.entry.made.caller n l.1 (begun h l.1 t n v) mine in
        let m = ended x h l n x.entry.made.caller x.entry.made.op once (event_of x h l) (subst (λ u. WaitsBy (end_of (x ∷ h)).control u n) same w) in
        omega (arith, less, m))
        (λ v. omega (arith, less, v))
        (waited x h l n x.entry.made.caller t x.entry.made.op w)

-- the one entry that a mirror or a weaken cites is a snap
snap-cited : (h : List Noted) → Lawful h → (y z : Noted) → InPast h y → InPast h z → CitesSnap y.entry.made.op → y.entry.made.cites ≡ Some z.entry.number → IsSnapping z.entry.made.op
snap-cited h l y z p q c e =
    let s = each_stands_behind h l y p in
    by s.back s.front s.all y.entry.made.op c (pasts_cite y s.back s.lawful)
  where
    is : (b f : List Noted) → h ≡ f ++ y ∷ b → (Q : Made → Type 0) → HasCited b y.entry.made y.entry.number Q → ((m : Made) → Q m → IsSnapping m.op) → IsSnapping z.entry.made.op
    is b f all Q w snaps =
        let one = numbers_are_once h l w.cited z (subst (λ k. InPast k w.cited) (sym all) (in_back f y b w.cited w.there)) q (same_Some _ _ (sym w.by_number ∙ e)) in
        subst (λ (k : Noted). IsSnapping k.entry.made.op) one (snaps w.cited.entry.made w.as_said)

    by : (b f : List Noted) → h ≡ f ++ y ∷ b → (o : Op) → CitesSnap o → Cites b y.entry.made y.entry.number o → IsSnapping z.entry.made.op
    by b f all (op.Mirror k) c w = is b f all _ w (λ m v. subst IsSnapping (sym v) tt)
    by b f all (op.Weaken g) c w = is b f all _ w (λ m v. subst IsSnapping (sym v.1) tt)
    by b f all o c w = absurd c

-- the latest entry and an earlier one cite no entry together, but a snap
latest : (w : Noted) (h : List Noted) → Lawful (w ∷ h) → (y z : Noted) → InPast h y → InPast (w ∷ h) z
    → w.entry.made.cites ≡ Some z.entry.number → y.entry.made.cites ≡ Some z.entry.number → IsSnapping z.entry.made.op
latest w h l y z p q e f =
    let s = each_stands_behind h l.1 y p in
    ⊎_elim
    (λ (a : CitesOnce w.entry.made.op). ⊎_elim
    (λ (b : CitesOnce y.entry.made.op). absurd (uncited h l.1 y p b z.entry.number f w.entry.made.caller
    (citer-waits w h l z.entry.number e w.entry.made.caller w.entry.made.op a (event_of w h l) (turn_of w h l))))
    (λ (b : CitesSnap y.entry.made.op). snap-cited (w ∷ h) l y z (inr p) q b f)
    (citing s.back y.entry.made y.entry.number z.entry.number y.entry.made.op (pasts_cite y s.back s.lawful) f))
    (λ (a : CitesSnap w.entry.made.op). snap-cited (w ∷ h) l w z (inl refl) q a e)
    (citing h w.entry.made w.entry.number z.entry.number w.entry.made.op (pasts_cite w h l) e)

pub none_is_cited_twice : NoneIsCitedTwice
none_is_cited_twice [] l x y z p q r e f = absurd p
none_is_cited_twice (w ∷ h) l x y z p q r e f = ⊎_elim
    (λ (a : w ≡ x). ⊎_elim
    (λ (b : w ≡ y). inl (sym a ∙ b))
    (λ b. inr (latest w h l y z b r (ap (λ (k : Noted). k.entry.made.cites) a ∙ e) f)) q)
    (λ a. ⊎_elim
    (λ (b : w ≡ y). inr (latest w h l x z a r (ap (λ (k : Noted). k.entry.made.cites) b ∙ f) e))
    (λ b. ⊎_elim
    (λ (c : w ≡ z). let m = earlier h l.1 x a z.entry.number e in let n = below w h x l.0 l.1 a in let s = ap (λ (k : Noted). k.entry.number) c in absurd (omega (arith, m, n, s)))
    (λ c. none_is_cited_twice h l.1 x y z a b c e f) r) q)
    p
