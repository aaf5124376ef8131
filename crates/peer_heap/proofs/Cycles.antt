-- The calls for a mirrored cycle: what their entries tell comes last, the replay's answer is what the parts show, and
-- the side stays one.
use Rattle.std.proofs.Common.{◌≡◌, ℕ, ◌+◌, ◌*◌, ◌≤◌, ◌<◌, ◌-◌, ◌⊎◌, inl, inr, get_or, true, List, [], ◌∷◌, ◌++◌, length, Option, Some, None, refl, sym, ap, subst, ◌∙◌, arith}
use Rattle.std.specs.Prelude.{All, Contains, flat_map}
use Rattle.std.proofs.lemmas.List.{append-nil, drop_all, length_push}
use Rattle.joint_machine.specs.declared.names.Cycle.{Cycle}
use Rattle.joint_machine.specs.declared.names.Thread.TheVariants.{C}
use Rattle.joint_machine.specs.declared.events.Entry.{Entry}
use Rattle.joint_machine.specs.declared.events.Op.{Op}
use Rattle.joint_machine.specs.declared.events.Op.TheVariants as op
use Rattle.joint_machine.specs.declared.events.Reply.TheVariants as says
use Rattle.joint_machine.specs.Draws.{AllBelow, numbered}
use Rattle.joint_machine.specs.Components.{End, node, temporary}
use Rattle.joint_machine.specs.Heaps.{Answered, answer}
use Rattle.joint_model.specs.Listed.{Stock}
use Rattle.joint_machine.specs.Peers.{Issued}
use Rattle.joint_machine.specs.PeerReplay.{LeadsOver, PeerReplay, Marking, Mirror, Refers, brought_to, peer_answer}
use Rattle.joint_machine.specs.Sides.{GoesOn, peer_rules}
use Rattle.joint_machine.specs.Told.{references_of}
use Rattle.joint_machine.proofs.Deciding.{none_some}
use Rattle.joint_machine.proofs.Members.{Contains-cons_cases, Contains-nil}
use Rattle.joint_laws.proofs.PeerEntries.{MirrorsSafely}
use Rattle.peer_heap.specs.declared.mirroring.OpenMirror.{OpenMirror}
use Rattle.peer_heap.specs.declared.side.OpenMarking.{OpenMarking}
use Rattle.peer_heap.specs.Cycles.{mirrors}
use Rattle.peer_heap.specs.Marks.{IsGoing}
use Rattle.peer_heap.specs.Mirroring.{with_stood}
use Rattle.peer_heap.specs.MirrorLaws.{HasFurther, fresh_mirror, state_of}
use Rattle.peer_heap.specs.Mirrors.{Mirrors, AreEndsStrong, HasEnd, MayStand, IsDue, given_at, given_since, mirror_as, mirror_in, mirrors_in, mirrored_at, weakened_at, restored_at, owed_by, owed_next}
use Rattle.peer_heap.specs.Mirrors.{told_since}
use Rattle.peer_heap.specs.Rows.{Rows}
use Rattle.peer_heap.specs.Sides.{AreGoing, IsSide, IsFrom, IsKnown, brought_at, brought_since, marking_as, marking_in, owed, state_with}
use Rattle.peer_heap.proofs.Dues.{IsDue-none, mirror-next, told-push}
use Rattle.row_marking.specs.Traces.{IsGreyList}
use Rattle.row_heap.proofs.Sound.{refers-from}
use Rattle.row_heap.specs.Rows.{MayRefer, MayReferBoth}
use Rattle.std.proofs.lemmas.List.Elements.{Contains-append_cases, Contains-get_or}
use Rattle.peer_heap.proofs.Ends.{IsSide-told}
use Rattle.peer_heap.proofs.Mirrored.{stood-answer, stood-going, stood-refs}
use Rattle.peer_heap.proofs.Quiet.{known-push, not-grown}
use Rattle.peer_heap.proofs.Sides.{from-more, marking-push}
use Rattle.peer_heap.proofs.Steps.{goes-told}
use Rattle.peer_heap.proofs.Whole.{strong-live, strong-safe}

-- states of the same parts
pub state-eq : (v : Rows) (x y : Option Mirror) (ms ns : List ℕ) (mk nk : Option Marking) (n : ℕ) → x ≡ y → ms ≡ ns → mk ≡ nk → state_of v x ms mk n ≡ state_of v y ns nk n
state-eq v x y ms ns mk nk n a b c = ap (λ z. state_of v z ms mk n) a ∙ (ap (λ z. state_of v y z mk n) b ∙ ap (λ z. state_of v y ns z n) c)

-- what an entry tells comes last
module _ (es after : List Entry) (e : Entry) (added : after ≡ es ++ e ∷ []) where
  pub cycles-next : mirrors_in after ≡ mirrors_in es ++ mirrored_at e.made.op
  cycles-next = ap (λ l. mirrors_in l) added ∙ told-push mirrored_at 0 es e (omega arith)

  pub cycle-next : (m : OpenMirror) → m.from ≤ length es → mirror_as after m ≡ record (mirror_as es m) {
    weakened = told_since weakened_at m.from es ++ weakened_at e.made.op;
    restored = told_since restored_at m.from es ++ restored_at e.made.op;
    renewed = given_since m.from es ++ given_at e.made.op e.made.reply;
  }
  cycle-next m le = ap (λ l. mirror_as l m) added ∙ mirror-next es e m le

  marking-told : (issued : List Issued) (o : OpenMarking) → All (IsKnown issued) es → o.from ≤ length es
      → marking_as issued after o ≡ record (marking_as issued es o) { brought = brought_since issued o.from es ++ brought_at issued e.made.op e.made.reply }
  marking-told issued o known from = ap (λ l. marking_as issued l o) added ∙ marking-push issued issued es e o (not-grown issued issued refl) known from

  -- an entry that brings nothing back leaves the marking
  pub marking-same : (issued : List Issued) (o : Option OpenMarking) → All (IsKnown issued) es → IsFrom o (length es)
      → brought_at issued e.made.op e.made.reply ≡ [] → marking_in issued after o ≡ marking_in issued es o
  marking-same issued None known from none = refl
  marking-same issued (Some o) known from none =
      let with-back : List ℕ → Marking = λ l. record (marking_as issued es o) { brought = l } in
      ap (λ z. Some z) (marking-told issued o known from ∙ (ap (λ l. with-back (brought_since issued o.from es ++ l)) none ∙ ap with-back (append-nil (brought_since issued o.from es))))

  -- and one that brings a peer back has it last, whatever further handle was issued
  pub marking-grown : (issued new : List Issued) (o : Option OpenMarking) (p : ℕ) → HasFurther issued new → All (IsKnown issued) es
      → IsFrom o (length es) → brought_at new e.made.op e.made.reply ≡ p ∷ [] → marking_in new after o ≡ brought_to (marking_in issued es o) p
  marking-grown issued new None p grown known from one = refl
  marking-grown issued new (Some o) p grown known from one =
      let with-back : List ℕ → Marking = λ l. record (marking_as issued es o) { brought = l } in
      ap (λ z. Some z) (ap (λ l. marking_as new l o) added ∙ (marking-push issued new es e o grown known from ∙ ap (λ l. with-back (brought_since issued o.from es ++ l)) one))

-- a cycle is kept, unless none is
no-mirror : (es : List Entry) (o : Option OpenMirror) → mirror_in es o ≡ None → o ≡ None
no-mirror es None e = refl
no-mirror es (Some m) e = absurd (none_some (mirror_as es m) (sym e))

-- both peers between which references lead are ends of some
refers-end : (refs : List (End × End)) (p q : ℕ) → Refers refs p q → HasEnd refs p
refers-end refs p q r = (let w = refers-from refs p q r in (w.0, inl w.1))

end-referred : (refs : List (End × End)) (p q : ℕ) → Refers refs p q → HasEnd refs q
end-referred refs p q r = by r.through (node p) r.walk
  where
    by : (through : List ℕ) (e : End) → LeadsOver refs e through q → HasEnd refs q
    by [] e w = (e, inr w)
    by (t ∷ ts) e w = by ts (temporary t) w.1

-- the references that wait may stand
pub waiting-refer : (rows : Rows) (o : Option OpenMarking) (n : ℕ) (m : Mirrors) (stock : Stock) → IsSide rows o n m stock
    → AreEndsStrong (state_with stock.entries rows o n m) m.waiting → All (MayReferBoth rows.rows) m.waiting
waiting-refer rows o n m stock side ends = λ k d l. (let e = get_or m.waiting k d in let there = Contains-get_or m.waiting k d l in (one e.0 (e.1, inl there), one e.1 (e.0, inr there)))
  where
    one : (e : End) → (f : End) × (Contains m.waiting (e, f) ⊎ Contains m.waiting (f, e)) → MayRefer rows.rows e
    one (node p) w = strong-live (state_with stock.entries rows o n m) side.kept p (ends p w)
    one (temporary t) w = side.temps_within t w.0 w.1

-- a further reference waits
pub IsSide-pushed : (rows : Rows) (o : Option OpenMarking) (n : ℕ) (m mm : Mirrors) (stock : Stock) (from to : End)
    → IsSide rows o n m stock → 1 ≤ m.room → MayStand rows.rows.heap m.temps from → MayStand rows.rows.heap m.temps to
    → mm ≡ record m { waiting = m.waiting ++ (from, to) ∷ []; room = m.room - 1 } → IsSide rows o n mm stock
IsSide-pushed rows o n m mm stock from to side some a b is = rw is (record {
  replayed = side.replayed;
  kept = side.kept;
  room = side.room;
  limit = side.limit;
  few = side.few;
  issued = side.issued;
  from = side.from;
  mirrored = side.mirrored;
  known = side.known;
  bare = side.bare;
  refs_room = omega (arith, side.refs_room, some, length_push m.waiting (from, to));
  temps_room = side.temps_room;
  temps_within = λ t e c. elim c [
    | inl w ↦ last t (temporary t, e) (inl refl) (λ k. side.temps_within t e (inl k)) w
    | inr w ↦ last t (e, temporary t) (inr refl) (λ k. side.temps_within t e (inr k)) w
  ];
  few_refs = side.few_refs;
})
  where
    below : (t : ℕ) (e : End) → MayStand rows.rows.heap m.temps e → e ≡ temporary t → t < rows.rows.temps
    below t e k q = (let w : t < m.temps = subst (MayStand rows.rows.heap m.temps) q k in omega (arith, w, side.temps_room))

    last : (t : ℕ) (r : End × End) → (r.0 ≡ temporary t) ⊎ (r.1 ≡ temporary t) → (Contains m.waiting r → t < rows.rows.temps) → Contains (m.waiting ++ (from, to) ∷ []) r → t < rows.rows.temps
    last t r at old w = elim (Contains-append_cases m.waiting ((from, to) ∷ []) r w) [
      | inl k ↦ old k
      | inr k ↦ elim (Contains-cons_cases (from, to) [] r k) [
        | inl q ↦ elim at [ inl z ↦ below t from a (ap (λ (p : End × End). p.0) q ∙ z) | inr z ↦ below t to b (ap (λ (p : End × End). p.1) q ∙ z) ]
        | inr z ↦ absurd (Contains-nil r z)
      ]
    ]

-- the cycle that comes to be mirrored, and what is kept then
abbrev pub stood_mirror : Cycle → ℕ → ℕ → ℕ → OpenMirror
stood_mirror k snap from handles = record { cycle = k; snap = snap; from = from; left = handles; due = 0; marking = true }

abbrev pub stood_mirrors : Mirrors → Cycle → ℕ → ℕ → ℕ → Mirrors
stood_mirrors m k snap from handles = record m { mirror = Some (stood_mirror k snap from handles); waiting = []; temps = 0; next = None }

-- the references come to stand
module _ (old w : Rows) (o : Option OpenMarking) (n : ℕ) (m : Mirrors) (stock : Stock) (after : List Entry) (k index : ℕ) (cycle : Cycle) (snap handles : ℕ) (side : IsSide old o n m stock)
    (added : after ≡ stock.entries ++ numbered k (mirrors index cycle (length m.waiting) snap) ∷ []) (put : w ≡ with_stood old m.waiting) (closed : mirror_in stock.entries m.mirror ≡ None) where
  no-refs : old.rows.refs ≡ []
  no-refs = side.bare (no-mirror stock.entries m.mirror closed)

  fresh : mirror_as after (stood_mirror cycle snap (length after) handles) ≡ fresh_mirror cycle.0 snap
  fresh =
      let empty : (at : Op → List ℕ) → told_since at (length after) after ≡ [] = λ at. ap (flat_map (λ (e : Entry). at e.made.op)) (drop_all (length after) after (omega arith)) in
      let gave : given_since (length after) after ≡ [] = ap (flat_map (λ (e : Entry). given_at e.made.op e.made.reply)) (drop_all (length after) after (omega arith)) in
      ap (λ l. (let z : Mirror = record { cycle = cycle.0; snap = snap; weakened = l; restored = told_since restored_at (length after) after; renewed = given_since (length after) after } in z))
      (empty weakened_at)
      ∙ (ap (λ l. (let z : Mirror = record { cycle = cycle.0; snap = snap; weakened = []; restored = l; renewed = given_since (length after) after } in z)) (empty restored_at)
      ∙ ap (λ l. (let z : Mirror = record { cycle = cycle.0; snap = snap; weakened = []; restored = []; renewed = l } in z)) gave)

  issued-same : w.issued ≡ old.issued
  issued-same = ap (λ (z : Rows). z.issued) put

  marking-stays : marking_in w.issued after o ≡ marking_in old.issued stock.entries o
  marking-stays = ap (λ is. marking_in is after o) issued-same
      ∙ marking-same stock.entries after (numbered k (mirrors index cycle (length m.waiting) snap)) added old.issued o side.known side.from refl

  told : peer_answer (state_with stock.entries old o n m) C (op.Mirror cycle) (Some snap) (references_of m.waiting) ≡ answer
      (says.Refs (length m.waiting)) (state_with after w o n (stood_mirrors m cycle snap (length after) handles))
  told =
      let es = stock.entries in
      let mk = marking_in old.issued es o in
      ap (λ x. peer_answer (state_of old x (mirrors_in es) mk n) C (op.Mirror cycle) (Some snap) (references_of m.waiting)) closed
      ∙ (stood-answer old w (mirrors_in es) mk n cycle snap m.waiting no-refs put
      ∙ ap (λ z. answer (says.Refs (length m.waiting)) z) (sym (state-eq w (Some (mirror_as after (stood_mirror cycle snap (length after) handles)))
      (Some (fresh_mirror cycle.0 snap)) (mirrors_in after) (mirrors_in es ++ cycle.0 ∷ []) (marking_in w.issued after o) mk n
      (ap (λ z. Some z) fresh) (cycles-next es after (numbered k (mirrors index cycle (length m.waiting) snap)) added) marking-stays)))

  -- the entry may come next
  pub stood-goes : (Contains (mirrors_in stock.entries) cycle.0 → ⊥)
      → GoesOn peer_rules (state_with stock.entries old o n m) (mirrors index cycle (length m.waiting) snap)
      (references_of m.waiting) (state_with after w o n (stood_mirrors m cycle snap (length after) handles))
  stood-goes once =
      goes-told (state_with stock.entries old o n m) (state_with after w o n (stood_mirrors m cycle snap (length after) handles))
      (mirrors index cycle (length m.waiting) snap) (references_of m.waiting)
      (record { event = tt; side = refl }) (record { none_stands = closed; once = once; snap = snap; cited = refl }) told

  -- an open marking goes on, and doesn't follow them
  pub stood-marking : (head : ℕ) → AreGoing old o head n m stock.entries → AreGoing w o head n (stood_mirrors m cycle snap (length after) handles) after
  stood-marking head going = record { list = subst (λ (v : Rows). IsGreyList v.rows.marks v.rows.links head) (sym put) going.list; going = goes-on }
    where
      goes-on : (mk : Marking) → marking_in w.issued after o ≡ Some mk → IsGoing (state_with after w o n (stood_mirrors m cycle snap (length after) handles)) mk w.rows head
      goes-on mk q =
          let es = stock.entries in
          let was = going.going mk (sym marking-stays ∙ q) in
          let there = stood-going old w (mirror_in es m.mirror) (mirrors_in es) mk (marking_in old.issued es o) n head cycle.0 snap m.waiting no-refs put was in
          subst (λ z. IsGoing z mk w.rows head) (ap (λ (a : Answered PeerReplay). a.state) told) there

  -- what is under a strong handle is live, and spared
  stood-safe : AreEndsStrong (state_with stock.entries old o n m) m.waiting → MirrorsSafely (state_with stock.entries old o n m) (op.Mirror cycle) (references_of m.waiting)
  stood-safe ends = λ p q r. (
      let s = state_with stock.entries old o n m in
      let from = ends p (refers-end m.waiting p q r) in
      let to = ends q (end-referred m.waiting p q r) in
      (strong-live s side.kept p from, strong-live s side.kept q to, strong-safe s side.kept q to))

-- the side after it
pub IsSide-stood : (old w : Rows) (o : Option OpenMarking) (n : ℕ) (m : Mirrors) (stock later : Stock) (k floor index : ℕ) (cycle : Cycle) (snap handles : ℕ)
    → IsSide old o n m stock → later.entries ≡ stock.entries ++ numbered k (mirrors index cycle (length m.waiting) snap) ∷ [] → AllBelow stock.entries floor → floor ≤ k
    → w ≡ with_stood old m.waiting → mirror_in stock.entries m.mirror ≡ None → m.next ≡ Some handles → (Contains (mirrors_in stock.entries) cycle.0 → ⊥)
    → AreEndsStrong (state_with stock.entries old o n m) m.waiting → length m.waiting ≤ 4294967295 → later.spare + 1 ≡ stock.spare
    → IsSide w o n (stood_mirrors m cycle snap (length later.entries) handles) later
IsSide-stood old w o n m stock later k floor index cycle snap handles side added below above put closed next once ends few spare =
    let made = mirrors index cycle (length m.waiting) snap in
    let e : Entry = numbered k made in
    let grows = length_push stock.entries e in
    let tabled : w.tabled ≡ old.tabled = ap (λ (z : Rows). z.tabled) put in
    let none : owed_by m.mirror ≡ 0 = ap owed_by (no-mirror stock.entries m.mirror closed) in
    let due : owed_next m.next ≡ 2 * handles + 4 = ap owed_next next in
    let room : w.tabled + owed o + (2 * handles + 0 + 1 + 2 + 0) ≤ later.spare = omega (arith, side.room, tabled, none, due, spare) in
    IsSide-told old w o o n n m (stood_mirrors m cycle snap (length later.entries) handles) stock later k floor made (references_of m.waiting) added below above
    (stood-goes old w o n m stock later.entries k index cycle snap handles side added put closed once)
    (stood-safe old w o n m stock later.entries k index cycle snap handles side added put closed ends)
    room
    (omega (arith, side.limit, spare, ap length added, grows)) (omega arith)
    (from-more o (length stock.entries) (length later.entries) (omega (arith, ap length added, grows)) side.from)
    (record { from = omega arith; due = subst (λ z. IsDue z 0) (sym (fresh old w o n m stock later.entries k index cycle snap handles side added put closed)) (IsDue-none cycle.0 snap) })
    (subst (λ is. All (IsKnown is) later.entries) (sym (ap (λ (z : Rows). z.issued) put)) (known-push old.issued stock.entries later.entries e added (λ h c. absurd (Contains-nil h c)) side.known))
    (omega (arith, ap (λ (z : Rows). length z.issued) put))
    (λ z. absurd (none_some (stood_mirror cycle snap (length later.entries) handles) (sym z)))
    (omega (arith, side.refs_room, ap (λ (z : Rows). z.rows.room) put))
    (omega arith)
    (λ t e' c. elim c [ inl w ↦ absurd (Contains-nil (temporary t, e') w) | inr w ↦ absurd (Contains-nil (e', temporary t) w) ])
    (omega (arith, few, ap length (stood-refs old w m.waiting (no-refs old w o n m stock later.entries k index cycle snap handles side added put closed) put)))
    side
