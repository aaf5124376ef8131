-- A slice of a peer thread. Where another thread's marking is open, or none, its entry changes nothing. In its own so
-- many grey peers are made black, of those that the marking reaches so far: the count grows by them, and none is left
-- exactly where all that it reaches are black.
use Rattle.std.proofs.Common.{◌≡◌, ◌≢◌, ℕ, zero, suc, ◌+◌, ◌-◌, ◌≤◌, ◌<◌, ◌⊎◌, ◌↔◌, inl, inr, Bool, true, false, List, [], ◌∷◌, ◌++◌, length, min, nat_lt, if◌then◌else◌, Option, Some, None, refl, sym}
use Rattle.std.proofs.Common.{ap, subst, ◌∙◌, arith}
use Rattle.std.specs.Prelude.{All, Contains}
use Rattle.std.proofs.Math.Nat.{min-eq_left, min-eq_right}
use Rattle.std.proofs.lemmas.Bool.{cases_eq, cases_lt, ltb-true, lt-ltb}
use Rattle.std.proofs.lemmas.List.Elements.{All-contains}
use Rattle.std.proofs.lemmas.List.{length_push}
use Rattle.std.proofs.lemmas.Option.{same_Some}
use Rattle.joint_machine.specs.declared.names.Thread.{Thread}
use Rattle.joint_machine.specs.declared.names.Thread.TheVariants.{M, P, C}
use Rattle.joint_machine.specs.declared.lines.Act.TheVariants as act
use Rattle.joint_machine.specs.declared.events.Entry.{Entry}
use Rattle.joint_machine.specs.declared.events.Made.{Made}
use Rattle.joint_machine.specs.declared.events.Op.TheVariants as op
use Rattle.joint_machine.specs.declared.events.Reply.{Reply}
use Rattle.joint_machine.specs.declared.events.Reply.TheVariants as says
use Rattle.joint_machine.specs.Components.{Rises}
use Rattle.joint_machine.specs.Draws.{AllBelow, numbered}
use Rattle.joint_machine.specs.Heaps.{Answered, Heap, IsLive, answer}
use Rattle.joint_machine.specs.Lines.{IsPeerThread}
use Rattle.joint_model.specs.Listed.{Stock}
use Rattle.joint_machine.specs.PeerReplay.{IsClosure, Marking, PeerAllows, PeerReplay, is_thread, peer_answer}
use Rattle.joint_machine.specs.Sides.{GoesOn, IsOfSide, peer_rules}
use Rattle.joint_machine.specs.Told.{Told, nothing, slice_of}
use Rattle.joint_machine.proofs.Deciding.{false-from}
use Rattle.joint_machine.proofs.HeapLemmas.{same_thread, thread_itself}
use Rattle.joint_machine.proofs.Members.{All-members, Contains-cons_cases, Contains-decided, Contains-here, Contains-nil, Contains-there}
use Rattle.joint_laws.specs.PeerInvariants.{PeerInvariant}
use Rattle.joint_laws.proofs.PeerEntries.{MirrorsSafely}
use Rattle.marking_laws.specs.Marks.{EdgeNow}
use Rattle.marking_laws.specs.Slices.{AreBlack, AreMarksGoing, Counted, IsBlack}
use Rattle.marking_laws.proofs.SliceCounts.{done-black}
use Rattle.marking_laws.proofs.SliceEvents.{going-same}
use Rattle.row_heap.specs.Marks.{EdgeOf}
use Rattle.row_marking.specs.Traces.{Blackened, Blackens, BlackensTo, Chained}
use Rattle.peer_heap.specs.declared.side.OpenMarking.{OpenMarking}
use Rattle.peer_heap.specs.Marking.{with_marking}
use Rattle.peer_heap.specs.Marks.{IsGoing}
use Rattle.peer_heap.specs.Mirrors.{Mirrors, owes}
use Rattle.peer_heap.specs.Rows.{Rows}
use Rattle.peer_heap.specs.Sides.{AreCounted, AreGoing, BlackensBy, IsCount, IsFrom, IsSide, SlicesOpen, colours_of, marking_as, marking_in, mirror_state, owed, state_with}
use Rattle.peer_heap.proofs.Closures.{closure-of}
use Rattle.peer_heap.proofs.Counted.{black-as}
use Rattle.peer_heap.proofs.Cycles.{marking-same}
use Rattle.peer_heap.proofs.Ends.{IsSide-next, with_black}
use Rattle.peer_heap.proofs.Going.{blackened-shades, chained-none, chained-some, going-blackens, grey-list}
use Rattle.peer_heap.proofs.Quiet.{IsQuiet, state-still}
use Rattle.peer_heap.proofs.Sides.{AreGoing-same, from-more}
use Rattle.peer_heap.proofs.Steps.{goes-told}

-- a rising list with a further number
record IsWith (x : ℕ) (xs : List ℕ) : Type 0 where
  all : List ℕ
  rise : Rises all
  exact : (p : ℕ) → Contains all p ↔ ((x ≡ p) ⊎ Contains xs p)
  many : length all ≡ suc (length xs)

with-one : (x : ℕ) (xs : List ℕ) → Rises xs → (Contains xs x → ⊥) → IsWith x xs
with-one x [] r out = record {
  all = x ∷ [];
  rise = (All-members (λ z. x < z) [] (λ z c. absurd (Contains-nil z c)), tt);
  exact = λ p. ((λ c. Contains-cons_cases x [] p c), (λ w. elim w [ inl e ↦ subst (Contains (x ∷ [])) e (Contains-here x []) | inr c ↦ absurd (Contains-nil p c) ]));
  many = refl;
}
with-one x (y ∷ ys) r out = elim (cases_lt x y) [
  | inl l ↦ record {
    all = x ∷ y ∷ ys;
    rise = (above x y ys l r, r);
    exact = λ p. ((λ c. Contains-cons_cases x (y ∷ ys) p c), (λ w. elim w [ inl e ↦ subst (Contains (x ∷ y ∷ ys)) e (Contains-here x (y ∷ ys)) | inr c ↦ Contains-there p x (y ∷ ys) c ]));
    many = refl;
  }
  | inr le ↦ (
      let apart : y ≢ x = λ e. out (subst (Contains (y ∷ ys)) e (Contains-here y ys)) in
      let w = with-one x ys r.1 (λ c. out (Contains-there x y ys c)) in
      record {
        all = y ∷ w.all;
        rise = (below x y ys w (omega (arith, le, apart)) r.0, w.rise);
        exact = λ p. (
          (λ c. elim (Contains-cons_cases y w.all p c) [
            | inl e ↦ inr (subst (Contains (y ∷ ys)) e (Contains-here y ys))
            | inr d ↦ elim ((w.exact p).0 d) [ inl e ↦ inl e | inr f ↦ inr (Contains-there p y ys f) ]
          ]),
          (λ z. elim z [
            | inl e ↦ Contains-there p y w.all ((w.exact p).1 (inl e))
            | inr c ↦ elim (Contains-cons_cases y ys p c) [ inl e ↦ subst (Contains (y ∷ w.all)) e (Contains-here y w.all) | inr d ↦ Contains-there p y w.all ((w.exact p).1 (inr d)) ]
          ]),
        );
        many = ap suc w.many;
      })
]
  where
    above : (x y : ℕ) (ys : List ℕ) → x < y → Rises (y ∷ ys) → All (λ z. x < z) (y ∷ ys)
    above x y ys l r = All-members (λ z. x < z) (y ∷ ys) (λ z c. elim (Contains-cons_cases y ys z c)
        [ inl e ↦ omega (arith, l, e) | inr d ↦ (let m = All-contains (λ z. y < z) ys z r.0 d in omega (arith, l, m)) ])

    below : (x y : ℕ) (ys : List ℕ) → (w : IsWith x ys) → y < x → All (λ z. y < z) ys → All (λ z. y < z) w.all
    below x y ys w l r = All-members (λ z. y < z) w.all (λ z c. elim ((w.exact z).0 c) [ inl e ↦ omega (arith, l, e) | inr d ↦ All-contains (λ z. y < z) ys z r d ])

-- a grey peer is made black
black-one : (b : Heap) (row : ℕ → Type 0) (m m' : List Bool) (x : ℕ) (rest ys : List ℕ) (n : ℕ) → Blackened row m x rest m' ys → IsLive b x → IsCount b m (x ∷ rest) n → IsCount b m' ys (suc n)
black-one b row m m' x rest ys n step live c =
    let sh = blackened-shades row m x rest m' ys step in
    let out : Contains c.dark x → ⊥ = λ d. ((c.exact x).0 d).1.1 (Contains-here x rest) in
    let w = with-one x c.dark c.rise out in
    let here : IsBlack m' ys x = ((sh.marked x).1 (inl step.grey), sh.left x refl) in
    record {
      dark = w.all;
      rise = w.rise;
      exact = λ p. (
        (λ d. elim ((w.exact p).0 d) [
          | inl e ↦ subst (λ q. IsLive b q × IsBlack m' ys q) e (live, here)
          | inr k ↦ (let was = (c.exact p).0 k in (was.0, (black-as row (λ q. q ≡ x) m (x ∷ rest) m' ys p sh (λ e. was.1.1 (subst (Contains (x ∷ rest)) (sym e) (Contains-here x rest)))).0 was.1))
        ]),
        (λ q. elim (cases_eq x p) [
          | inl e ↦ (w.exact p).1 (inl e)
          | inr d ↦ (w.exact p).1 (inr ((c.exact p).1 (q.0, (black-as row (λ q. q ≡ x) m (x ∷ rest) m' ys p sh (λ e. d (sym e))).1 q.1)))
        ]),
      );
      many = w.many ∙ ap suc c.many;
    }

-- and one after the other
black-more : (s : PeerReplay) (mk : Marking) (follows : Bool) (k : ℕ) (m m' : List Bool) (xs ys : List ℕ) (n : ℕ) → PeerInvariant s → s.marking ≡ Some mk
    → Blackens (EdgeNow s follows) k m xs m' ys → AreMarksGoing s mk follows m xs → IsCount mk.heap m xs n → IsCount mk.heap m' ys (n + k)
black-more s mk follows zero m m' xs ys n kept opened (a, b) g c =
    let same : n ≡ n + 0 = omega arith in
    subst (IsCount mk.heap m' ys) same (subst (λ l. IsCount mk.heap m' l n) (sym b) (subst (λ z. IsCount mk.heap z xs n) (sym a) c))
black-more s mk follows (suc k) m m' xs ys n kept opened (mid, x, rest, before, step) g c =
    let was = black-more s mk follows k m mid xs (x ∷ rest) n kept opened before g c in
    let right = going-blackens s mk follows k m mid xs (x ∷ rest) kept opened before g in
    let same : suc (n + k) ≡ n + suc k = omega arith in
    subst (IsCount mk.heap m' ys) same (black-one mk.heap (EdgeNow s follows x) mid m' x rest ys (n + k) step (right.existed x (Contains-here x rest)) was)

-- how many members of a rising list are in another one
members-counted : (Q : ℕ → Type 0) (xs ys : List ℕ) → Rises xs → Rises ys → ((p : ℕ) → Contains xs p → Contains ys p) → ((p : ℕ) → Contains ys p → Q p ↔ Contains xs p) → Counted Q ys (length xs)
members-counted Q [] [] rx ry sub same = refl
members-counted Q (x ∷ xs) [] rx ry sub same = absurd (Contains-nil x (sub x (Contains-here x xs)))
members-counted Q [] (y ∷ ys) rx ry sub same = inr (
  (λ q. Contains-nil y ((same y (Contains-here y ys)).0 q)),
  members-counted Q [] ys rx ry.1 (λ p c. absurd (Contains-nil p c)) (λ p c. same p (Contains-there p y ys c)),
)
members-counted Q (x ∷ xs) (y ∷ ys) rx ry sub same = elim (cases_eq x y) [
  | inl e ↦ inl (
    (same y (Contains-here y ys)).1 (subst (Contains (x ∷ xs)) e (Contains-here x xs)),
    length xs,
    refl,
    members-counted Q xs ys rx.1 ry.1
        (λ p c. elim (Contains-cons_cases y ys p (sub p (Contains-there p x xs c))) [ inl s ↦ absurd (let l = All-contains (λ u. x < u) xs p rx.0 c in omega (arith, l, e, s)) | inr d ↦ d ])
        (λ p c. (
          (λ q. elim (Contains-cons_cases x xs p ((same p (Contains-there p y ys c)).0 q)) [ inl s ↦ absurd (let l = All-contains (λ u. y < u) ys p ry.0 c in omega (arith, l, e, s)) | inr d ↦ d ]),
          (λ d. (same p (Contains-there p y ys c)).1 (Contains-there p x xs d)),
        )),
  )
  | inr d ↦ (
      let above : y < x = elim (Contains-cons_cases y ys x (sub x (Contains-here x xs))) [ inl s ↦ absurd (d (sym s)) | inr w ↦ All-contains (λ u. y < u) ys x ry.0 w ] in
      let out : Contains (x ∷ xs) y → ⊥ = λ w. elim (Contains-cons_cases x xs y w) [ inl s ↦ d s | inr v ↦ (let l = All-contains (λ u. x < u) xs y rx.0 v in omega (arith, l, above)) ] in
      inr (
        (λ q. out ((same y (Contains-here y ys)).0 q)),
        members-counted Q (x ∷ xs) ys rx ry.1
            (λ p c. elim (Contains-cons_cases y ys p (sub p c)) [ inl s ↦ absurd (out (subst (Contains (x ∷ xs)) (sym s) c)) | inr v ↦ v ])
            (λ p c. same p (Contains-there p y ys c)),
      ))
]

-- the black peers of the begin are among those that the marking reaches
counted-black : (s : PeerReplay) (mk : Marking) (follows : Bool) (m : List Bool) (xs closure : List ℕ) (n : ℕ)
    → AreMarksGoing s mk follows m xs → IsClosure mk closure → IsCount mk.heap m xs n → AreBlack mk m xs closure n
counted-black s mk follows m xs closure n g closed c = record {
  closed = closed;
  counted = subst (Counted (IsBlack m xs) closure) c.many (members-counted (IsBlack m xs) c.dark closure c.rise closed.rise inside
      (λ p d. ((λ q. (c.exact p).1 (((closed.exact p).0 d).existed, q)), (λ k. ((c.exact p).0 k).1))));
}
  where
    inside : (p : ℕ) → Contains c.dark p → Contains closure p
    inside p d =
        let w = (c.exact p).0 d in
        elim (Contains-decided closure p) [ inl k ↦ k | inr out ↦ absurd (g.sound p w.1.0 w.0 (λ k. out ((closed.exact p).1 k))) ]

counted-most : (Q : ℕ → Type 0) (xs : List ℕ) (n : ℕ) → Counted Q xs n → n ≤ length xs
counted-most Q [] n c = omega (arith, c)
counted-most Q (x ∷ xs) n c = elim c [
  | inl w ↦ (let l = counted-most Q xs w.1 w.3 in let e = w.2 in omega (arith, l, e))
  | inr w ↦ (let l = counted-most Q xs n w.1 in omega (arith, l))
]

-- the entry of a slice, without its number
abbrev pub slices : Thread → ℕ → ℕ → Reply → Made
slices t i k r = record { caller = t; index = i; op = op.Line (act.Slice k); reply = r; cites = None }

-- what a slice leads to: its entry may come next with what is told, and the parts fit as before
pub record IsSlicedTo (rows w : Rows) (o o' : Option OpenMarking) (next n : ℕ) (m : Mirrors) (es after : List Entry) (made : Made) : Type 0 where
  pub told : Told
  pub goes : GoesOn peer_rules (state_with es rows o n m) made told (state_with after w o' n m)
  pub safe : MirrorsSafely (state_with es rows o n m) made.op told
  pub rest : w ≡ with_black rows w.rows
  pub owes : owed o' ≡ owed o
  pub from : IsFrom o' (length es)
  pub going : AreGoing w o' next n m after
  pub counted : AreCounted o' (colours_of w.rows next)

slice-quiet : (k : ℕ) → IsQuiet (op.Line (act.Slice k))
slice-quiet k = record { mirrors = refl; weakens = refl; restores = refl; gives = λ r. refl }

slice-side : (t : Thread) (i k : ℕ) (r : Reply) → IsPeerThread t → ((1 ≤ k) × (k ≤ 65535)) → IsOfSide true (slices t i k r)
slice-side (P u) i k r caller few = record { event = ((caller, few), tt); side = refl }
slice-side (M u) i k r caller few = absurd caller
slice-side C i k r caller few = absurd caller

-- by whether the marking is the thread's own, with the closure that is told
abbrev sliced_by : PeerReplay → Marking → ℕ → List ℕ → Bool → Answered PeerReplay
sliced_by s mk k closure b = if b
    then (let black = mk.blackened + min k (length closure - mk.blackened) in
    answer (if nat_lt black (length closure) then says.More else says.Done) (record s { marking = Some (record mk { blackened = black }) }))
    else answer (says.MarkOpen record { 0 = mk.number }) s

module _ (rows : Rows) (n : ℕ) (m : Mirrors) (stock : Stock) (after : List Entry) (number : ℕ) (t : Thread) (i k : ℕ) (r : Reply)
    (added : after ≡ stock.entries ++ numbered number (slices t i k r) ∷ []) (caller : IsPeerThread t) (few : (1 ≤ k) × (k ≤ 65535)) where
  mirror-stays : (o : Option OpenMarking) → IsSide rows o n m stock → mirror_state after m ≡ mirror_state stock.entries m
  mirror-stays o side = ap (λ l. mirror_state l m) added ∙ state-still stock.entries (numbered number (slices t i k r)) m side.mirrored (slice-quiet k)

  marking-stays : (o : Option OpenMarking) → IsSide rows o n m stock → marking_in rows.issued after o ≡ marking_in rows.issued stock.entries o
  marking-stays o side = marking-same stock.entries after (numbered number (slices t i k r)) added rows.issued o side.known side.from refl

  state-stays : (o : Option OpenMarking) → IsSide rows o n m stock → state_with after rows o n m ≡ state_with stock.entries rows o n m
  state-stays o side = ap (λ z. with_marking z rows (marking_in rows.issued after o) n) (mirror-stays o side) ∙ ap (λ mk. with_marking (mirror_state stock.entries m) rows mk n) (marking-stays o side)

  -- a slice that changes nothing
  passes : (o : Option OpenMarking) (head : ℕ) → IsSide rows o n m stock → AreGoing rows o head n m stock.entries
      → AreCounted o (colours_of rows.rows head) → PeerAllows (state_with stock.entries rows o n m) t (op.Line (act.Slice k)) None nothing
      → peer_answer (state_with stock.entries rows o n m) t (op.Line (act.Slice k)) None nothing ≡ answer r (state_with stock.entries rows o n m)
      → IsSlicedTo rows rows o o head n m stock.entries after (slices t i k r)
  passes o head side going counted allowed e = record {
    told = nothing;
    goes = goes-told (state_with stock.entries rows o n m) (state_with after rows o n m) (slices t i k r) nothing
        (slice-side t i k r caller few) allowed (e ∙ ap (λ z. answer r z) (sym (state-stays o side)));
    safe = tt;
    rest = refl;
    owes = refl;
    from = side.from;
    going = AreGoing-same rows rows o head n m m stock.entries after refl refl refl refl refl (marking-stays o side) going;
    counted = counted;
  }

  passes-none : (head : ℕ) → IsSide rows None n m stock → AreGoing rows None head n m stock.entries → r ≡ says.NoMark → IsSlicedTo rows rows None None head n m stock.entries after (slices t i k r)
  passes-none head side going e = passes None head side going tt tt (ap (λ z. answer z (state_with stock.entries rows None n m)) (sym e))

  passes-other : (o : OpenMarking) (head : ℕ) → IsSide rows (Some o) n m stock → AreGoing rows (Some o) head n m stock.entries → AreCounted (Some o) (colours_of rows.rows head)
      → t ≢ o.by → r ≡ says.MarkOpen o.number → IsSlicedTo rows rows (Some o) (Some o) head n m stock.entries after (slices t i k r)
  passes-other o head side going counted apart e =
      let s = state_with stock.entries rows (Some o) n m in
      let mk = marking_as rows.issued stock.entries o in
      let other : is_thread t o.by ≡ false = false-from (is_thread t o.by) (λ z. apart (same_thread t o.by z)) in
      passes (Some o) head side going counted apart (ap (sliced_by s mk k []) other ∙ ap (λ z. answer z s) (sym e))

-- how many peers its slices made black is no part of what a marking keeps
recounted : (s : PeerReplay) (mk : Marking) (follows : Bool) (m : List Bool) (xs : List ℕ) (x : ℕ) → AreMarksGoing s mk follows m xs → AreMarksGoing s (record mk { blackened = x }) follows m xs
recounted s mk follows m xs x g = record {
  older = g.older;
  fresh = g.fresh;
  sound = λ p u l out. g.sound p u l (λ k. out (record { existed = k.existed; reached = k.reached }));
  roots = g.roots;
  grey = g.grey;
  existed = g.existed;
  ahead = g.ahead;
}

-- numbers that rise between two bounds are no more than fit between
rising-short : (xs : List ℕ) (a b : ℕ) → a ≤ b → Rises xs → ((p : ℕ) → Contains xs p → (a < p) × (p ≤ b)) → length xs + a ≤ b
rising-short [] a b le r h = omega (arith, le)
rising-short (x ∷ xs) a b le r h =
    let here = h x (Contains-here x xs) in
    let low = here.0 in
    let high = here.1 in
    let rest = rising-short xs x b high r.1 (λ p c. (All-contains (λ u. x < u) xs p r.0 c, (h p (Contains-there p x xs c)).1)) in
    omega (arith, rest, low)

-- a slice of the thread's own marking
module _ (rows : Rows) (n : ℕ) (m : Mirrors) (stock : Stock) (after : List Entry) (number : ℕ) (t : Thread) (i k : ℕ) (r : Reply)
    (added : after ≡ stock.entries ++ numbered number (slices t i k r) ∷ []) (caller : IsPeerThread t) (few : (1 ≤ k) × (k ≤ 65535))
    (o : OpenMarking) (head next : ℕ) (w : Rows) (o' : OpenMarking) (side : IsSide rows (Some o) n m stock) (going : AreGoing rows (Some o) head n m stock.entries)
    (counted : AreCounted (Some o) (colours_of rows.rows head)) (own : t ≡ o.by) (b : BlackensBy k rows head o w next o' r) where
  abbrev before : PeerReplay
  before = state_with stock.entries rows (Some o) n m

  abbrev mk : Marking
  mk = marking_as rows.issued stock.entries o

  abbrev later-open : OpenMarking
  later-open = record o { blackened = o'.blackened }

  abbrev later-mk : Marking
  later-mk = record mk { blackened = o'.blackened }

  was : IsGoing before mk rows.rows head
  was = going.going mk refl

  to : BlackensTo (EdgeOf rows.rows) b.count rows.rows.marks was.greys w.rows.marks w.rows.links next
  to = b.steps was.greys was.chained

  right : AreMarksGoing before mk rows.rows.follows w.rows.marks to.waits
  right = going-blackens before mk rows.rows.follows b.count rows.rows.marks w.rows.marks was.greys to.waits side.kept refl to.steps was.right

  black : IsCount mk.heap w.rows.marks to.waits (o.blackened + b.count)
  black =
      let other : o.by ≡ C → ⊥ = λ e. subst IsPeerThread (own ∙ e) caller in
      black-more before mk rows.rows.follows b.count rows.rows.marks w.rows.marks was.greys to.waits o.blackened side.kept refl to.steps was.right
      (subst (λ l. IsCount mk.heap rows.rows.marks l o.blackened) (grey-list rows.rows.marks rows.rows.links head was.greys was.chained) (counted other))

  closure : (c : List ℕ) × IsClosure mk c
  closure = closure-of mk

  total : AreBlack mk w.rows.marks to.waits closure.0 (o.blackened + b.count)
  total = counted-black before mk rows.rows.follows w.rows.marks to.waits closure.0 (o.blackened + b.count) right closure.1 black

  all : (to.waits ≡ []) ↔ (o.blackened + b.count ≡ length closure.0)
  all = done-black before mk rows.rows.follows w.rows.marks to.waits closure.0 (o.blackened + b.count) right total

  most : o.blackened + b.count ≤ length closure.0
  most = counted-most (IsBlack w.rows.marks to.waits) closure.0 (o.blackened + b.count) total.counted

  short : length closure.0 ≤ 65535
  short =
      let made = (side.kept.marking mk refl).made in
      let all-made = rising-short closure.0 0 (length mk.heap.fields) (omega arith) closure.1.rise
      (λ p c. (let l = ((closure.1.exact p).0 c).existed.made in let one = l.0 in (omega (arith, one), l.1))) in
      omega (arith, made, all-made, b.made)

  sum : o'.blackened ≡ o.blackened + b.count
  sum = omega (arith, b.sum, most, short)

  none-left : next ≡ 0 → to.waits ≡ []
  none-left e = chained-none w.rows.marks w.rows.links to.waits (subst (λ h. Chained w.rows.marks w.rows.links h to.waits) e to.chained)

  filled : o.blackened + min k (length closure.0 - o.blackened) ≡ o'.blackened
  filled = elim (cases_lt b.count k) [
    | inl less ↦ (
        let full = all.0 (none-left (b.left less)) in
        let fits : length closure.0 - o.blackened ≤ k = omega (arith, full, less) in
        let at : min k (length closure.0 - o.blackened) ≡ length closure.0 - o.blackened = min-eq_right fits in
        omega (arith, at, full, sum))
    | inr le ↦ (
        let fits : k ≤ length closure.0 - o.blackened = omega (arith, le, most) in
        let at : min k (length closure.0 - o.blackened) ≡ k = min-eq_left fits in
        omega (arith, at, le, b.most, sum))
  ]

  replies : (if nat_lt o'.blackened (length closure.0) then says.More else says.Done) ≡ r
  replies = elim (cases_eq next 0) [
    | inl e ↦ (
        let full = all.0 (none-left e) in
        let not-less : nat_lt o'.blackened (length closure.0) ≡ false = false-from (nat_lt o'.blackened (length closure.0))
        (λ z. (let l = ltb-true o'.blackened (length closure.0) z in omega (arith, l, full, sum))) in
        ap (λ z. if z then says.More else says.Done) not-less ∙ sym (b.done e))
    | inr d ↦ (
        let apart : o.blackened + b.count ≢ length closure.0 = λ q. d (chained-some w.rows.marks w.rows.links next to.waits to.chained (all.1 q)) in
        let less : o'.blackened < length closure.0 = omega (arith, sum, most, apart) in
        ap (λ z. if z then says.More else says.Done) (lt-ltb o'.blackened (length closure.0) less) ∙ sym (b.more d))
  ]

  later-marking : marking_in w.issued after (Some later-open) ≡ Some later-mk
  later-marking = ap (λ is. marking_in is after (Some later-open)) (ap (λ (z : Rows). z.issued) b.rest)
      ∙ marking-same stock.entries after (numbered number (slices t i k r)) added rows.issued (Some later-open) side.known side.from refl

  later-state : record before { marking = Some later-mk } ≡ state_with after w (Some later-open) n m
  later-state =
      ap (λ z. with_marking (mirror_state stock.entries m) z (Some later-mk) n) (sym b.rest)
      ∙ (ap (λ q. with_marking (mirror_state stock.entries m) w q n) (sym later-marking)
      ∙ ap (λ z. with_marking z w (marking_in w.issued after (Some later-open)) n) (sym (mirror-stays rows n m stock after number t i k r added caller few (Some o) side)))

  answers : peer_answer before t (op.Line (act.Slice k)) None (slice_of closure.0) ≡ answer r (state_with after w (Some later-open) n m)
  answers =
      let itself : is_thread t o.by ≡ true = subst (λ z. is_thread t z ≡ true) own (thread_itself t) in
      let ended : ℕ → Answered PeerReplay = λ y. answer (if nat_lt y (length closure.0) then says.More else says.Done) (record before { marking = Some (record mk { blackened = y }) }) in
      ap (sliced_by before mk k closure.0) itself
      ∙ (ap ended filled
      ∙ (ap (λ z. answer z (record before { marking = Some later-mk })) replies
      ∙ ap (λ z. answer r z) later-state))

  owned : IsSlicedTo rows w (Some o) (Some later-open) next n m stock.entries after (slices t i k r)
  owned = record {
    told = slice_of closure.0;
    goes = goes-told before (state_with after w (Some later-open) n m) (slices t i k r) (slice_of closure.0) (slice-side t i k r caller few) (own, closure.1) answers;
    safe = tt;
    rest = b.rest;
    owes = refl;
    from = side.from;
    going = record { list = (to.waits, to.chained); going = goes-on };
    counted = λ other. subst (λ l. IsCount mk.heap w.rows.marks l o'.blackened)
        (sym (grey-list w.rows.marks w.rows.links next to.waits to.chained)) (subst (IsCount mk.heap w.rows.marks to.waits) (sym sum) black);
  }
    where
      goes-on : (z : Marking) → marking_in w.issued after (Some later-open) ≡ Some z → IsGoing (state_with after w (Some later-open) n m) z w.rows next
      goes-on z q =
          let s = state_with after w (Some later-open) n m in
          let moved = going-same before s later-mk rows.rows.follows w.rows.marks to.waits (ap (λ (v : Rows). v.rows.heap.fields) b.rest)
          (ap (λ (v : Rows). v.rows.heap.freed) b.rest) (ap (λ (v : Rows). v.rows.refs) b.rest) (recounted before mk rows.rows.follows w.rows.marks to.waits o'.blackened right) in
          subst (λ y. IsGoing s y w.rows next) (same_Some later-mk z (sym later-marking ∙ q)) record {
            greys = to.waits;
            chained = to.chained;
            right = subst (λ f. AreMarksGoing s later-mk f w.rows.marks to.waits) (sym (ap (λ (v : Rows). v.rows.follows) b.rest)) moved;
          }

-- whatever marking is open
pub sliced-to : (rows w : Rows) (o o' : Option OpenMarking) (head next n : ℕ) (m : Mirrors) (stock : Stock) (after : List Entry) (number : ℕ) (t : Thread) (i k : ℕ) (r : Reply)
    → after ≡ stock.entries ++ numbered number (slices t i k r) ∷ [] → IsPeerThread t → (1 ≤ k) × (k ≤ 65535) → SlicesOpen k t rows head o w next o' r
    → IsSide rows o n m stock → AreGoing rows o head n m stock.entries → AreCounted o (colours_of rows.rows head) → IsSlicedTo rows w o o' next n m stock.entries after (slices t i k r)
sliced-to rows w None None head next n m stock after number t i k r added caller few (e, same, at) side going counted =
    subst (λ z. IsSlicedTo rows z None None next n m stock.entries after (slices t i k r)) (sym same)
    (subst (λ h. IsSlicedTo rows rows None None h n m stock.entries after (slices t i k r)) (sym at) (passes-none rows n m stock after number t i k r added caller few head side going e))
sliced-to rows w (Some o) (Some o') head next n m stock after number t i k r added caller few s side going counted = elim s [
  | inl p ↦ subst (λ z. IsSlicedTo rows w (Some o) (Some z) next n m stock.entries after (slices t i k r)) (sym p.1.counted)
      (owned rows n m stock after number t i k r added caller few o head next w o' side going counted p.0 p.1)
  | inr q ↦ subst (λ z. IsSlicedTo rows w (Some o) (Some z) next n m stock.entries after (slices t i k r)) (sym q.4)
      (subst (λ z. IsSlicedTo rows z (Some o) (Some o) next n m stock.entries after (slices t i k r)) (sym q.2)
      (subst (λ h. IsSlicedTo rows rows (Some o) (Some o) h n m stock.entries after (slices t i k r)) (sym q.3)
      (passes-other rows n m stock after number t i k r added caller few o head side going counted q.0 q.1)))
]
sliced-to rows w None (Some o') head next n m stock after number t i k r added caller few s side going counted = absurd s
sliced-to rows w (Some o) None head next n m stock after number t i k r added caller few s side going counted = absurd s

-- the side after a slice
pub IsSide-sliced : (rows w : Rows) (o o' : Option OpenMarking) (next n : ℕ) (m : Mirrors) (stock later : Stock) (number floor : ℕ) (t : Thread) (i k : ℕ) (r : Reply)
    → IsSlicedTo rows w o o' next n m stock.entries later.entries (slices t i k r)
    → later.entries ≡ stock.entries ++ numbered number (slices t i k r) ∷ [] → AllBelow stock.entries floor → floor ≤ number
    → rows.tabled + owed o + owes m ≤ later.spare → length later.entries + later.spare ≤ 4294967295 → IsSide rows o n m stock → IsSide w o' n m later
IsSide-sliced rows w o o' next n m stock later number floor t i k r s added below above room limit side =
    IsSide-next rows w o o' n n m stock later number floor (slices t i k r) s.told added below above s.goes s.safe (omega (arith, room, s.owes, ap (λ (z : Rows). z.tabled) s.rest)) limit (omega arith)
    (from-more o' (length stock.entries) (length later.entries) (omega (arith, ap length added, length_push stock.entries (numbered number (slices t i k r)))) s.from)
    (slice-quiet k) (ap (λ (z : Rows). z.issued) s.rest) (ap (λ (z : Rows). z.rows.room) s.rest) (ap (λ (z : Rows). z.rows.temps) s.rest) (ap (λ (z : Rows). z.rows.refs) s.rest) side
