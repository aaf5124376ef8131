-- The entries of each thread of a generated script go on from nothing to nothing, family by family.
use Rattle.std.proofs.Common.{◌≡◌, ℕ, zero, suc, ◌<◌, ◌⊎◌, inl, inr, Bool, true, false, List, [], ◌∷◌, ◌++◌, Some, None, replicate, refl, sym, ap, subst, ◌∙◌, arith, append_assoc}
use Rattle.joint_machine.specs.declared.names.Var.{Var}
use Rattle.joint_machine.specs.declared.names.StaticNo.{StaticNo}
use Rattle.joint_machine.specs.declared.names.Kind.{Kind}
use Rattle.joint_machine.specs.declared.names.Kind.TheVariants.{Plain, Leaf, Bridge, LeafBridge}
use Rattle.joint_machine.specs.declared.names.Sort.{Sort}
use Rattle.joint_machine.specs.declared.names.Sort.TheVariants.{User, Framework}
use Rattle.joint_machine.specs.declared.names.MNum.{MNum}
use Rattle.joint_machine.specs.declared.names.HNum.{HNum}
use Rattle.joint_machine.specs.declared.lines.Act.{Act}
use Rattle.joint_machine.specs.declared.lines.Act.TheVariants as act
use Rattle.joint_machine.specs.declared.events.Op.{Op}
use Rattle.joint_machine.specs.declared.events.Op.TheVariants as op
use Rattle.joint_machine.specs.declared.events.Reply.{Reply}
use Rattle.joint_machine.specs.declared.events.Reply.TheVariants as says
use Rattle.joint_machine.specs.declared.events.Entry.{Entry}
use Rattle.joint_machine.proofs.Deciding.{none_some, some-same}
use Rattle.run_summary.specs.Tallies.{is_m}
use Rattle.script_generator.specs.Families.{var_a, var_b, bridge_circle, cached_leaf, passed_bridge, peer_circle}
use Rattle.script_laws.specs.Holding.{next_event, AreEventsAfter}
use Rattle.generated_laws.proofs.Totals.{Each, each-append}
use Rattle.generated_laws.proofs.Own.{Answers, HasAnswer, single, pair}
use Rattle.generated_laws.proofs.Pictures.{Seen, seen, Slots, at, put, Mind, empty_mind, IsOver, IsBare, Step, Going}
use Rattle.generated_laws.proofs.PeerShowing.{Filled, none_filled, PeerStep, PeerGoing}

-- the entries are those of these operations, one after another
abbrev pub Runs : List Act → List Entry → Type 0
Runs [] es = es ≡ []
Runs (a ∷ acts) es = (own : List Entry) × (rest : List Entry) × (es ≡ own ++ rest) × AreEventsAfter a [] own × Runs acts rest

pub runs-append : (xs ys : List Act) (es : List Entry) → Runs (xs ++ ys) es → (first : List Entry) × (rest : List Entry) × (es ≡ first ++ rest) × Runs xs first × Runs ys rest
runs-append [] ys es r = ([], es, refl, refl, r)
runs-append (x ∷ xs) ys es r =
    let n = runs-append xs ys r.1 r.4 in
    (r.0 ++ n.0, n.1, r.2 ∙ (ap (λ l. r.0 ++ l) n.2 ∙ sym (append_assoc r.0 n.0 n.1)), (r.0, n.0, refl, r.3, n.3), n.4)

m-reply : (r : Reply) → is_m r ≡ true → (z : MNum) × (r ≡ says.M z)
m-reply (says.M z) e = (z, refl)
m-reply _ e = absurd (cc)

-- one entry of a thread, by its event and reply
step-in : (m : Mind) (e : Entry) (es : List Entry) (o : Op) (r : Reply) → e.made.op ≡ o → e.made.reply ≡ r → Step m o r (Going es) → Going (e ∷ es) m
step-in m e es o r p q s = subst (λ z. Step m z e.made.reply (Going es)) (sym p) (subst (λ z. Step m o z (Going es)) (sym q) s)

module _ (m : Mind) (acts : List Act) (es tail : List Entry) (good : Each HasAnswer es) where
  abbrev Goes : Mind → Type 0
  Goes n = (rest : List Entry) → Each HasAnswer rest → Runs acts rest → Going (rest ++ tail) n

  one-going : (a : Act) (o : Op) → next_event a [] ≡ Some o → ((r : Reply) → next_event a (r ∷ []) ≡ None) → Runs (a ∷ acts) es
      → ((r : Reply) (rest : List Entry) → Each HasAnswer rest → Runs acts rest → Answers o r → Step m o r (Going (rest ++ tail))) → Going (es ++ tail) m
  one-going a o e n r f =
      let s = single a o r.0 e n r.3 in
      let all : es ≡ s.entry ∷ r.1 = r.2 ∙ ap (λ l. l ++ r.1) s.all in
      let g : Each HasAnswer (s.entry ∷ r.1) = subst (Each HasAnswer) all good in
      subst (λ l. Going (l ++ tail) m) (sym all) (step-in m s.entry (r.1 ++ tail) o s.entry.made.reply s.event refl
      (f s.entry.made.reply r.1 g.1 r.4 (subst (λ z. Answers z s.entry.made.reply) s.event g.0)))

  new-going : (v : Var) (k : Kind) (n : ℕ) → v.0 < 3 → Runs (act.New v k n ∷ acts) es
      → ((z : ℕ) → Goes (record m { slots = put m.slots v.0 (Some (seen z (replicate n None) None)) })) → Going (es ++ tail) m
  new-going v k n l r f = one-going (act.New v k n) (op.Line (act.New v k n)) refl (λ q. refl) r
      (λ q rest g u a. (let z = m-reply q a in subst (λ y. Step m (op.Line (act.New v k n)) y (Going (rest ++ tail))) (sym z.1) (l, f z.0.0 rest g u)))

  set-going : (v w : Var) → (b : IsBare m.slots v.0 w.0 0) → Runs (act.Set v 0 (Some w) ∷ acts) es
      → Goes (record m { slots = put m.slots v.0 (Some (seen b.target.number (Some b.value.number ∷ []) b.target.handle)) }) → Going (es ++ tail) m
  set-going v w b r f = one-going (act.Set v 0 (Some w)) (op.Line (act.Set v 0 (Some w))) refl (λ q. refl) r (λ q rest g u a. (b, f rest g u))

  drop-going : (v : Var) (stored : Bool) → v.0 < 3 → ((stored ≡ m.stored) ⊎ ((w : ℕ) → at (put m.slots v.0 None) w ≡ None))
      → Runs (act.Drop v ∷ acts) es → Goes (record m { slots = put m.slots v.0 None; stored = stored }) → Going (es ++ tail) m
  drop-going v stored l how r f = one-going (act.Drop v) (op.Line (act.Drop v)) refl (λ q. refl) r (λ q rest g u a. (l, stored, how, f rest g u))

  store-going : (x : StaticNo) (v : Var) (h : ℕ) → x.0 < 16 → v.0 < 3 → IsOver m.slots v.0 None (Some h)
      → m.stored ≡ false → Runs (act.Store x (Some v) ∷ acts) es → Goes (record m { stored = true }) → Going (es ++ tail) m
  store-going x v h l l' o s r f = one-going (act.Store x (Some v)) (op.Line (act.Store x (Some v))) refl (λ q. refl) r (λ q rest g u a. (l, l', h, o, s, f rest g u))

  bridge-going : (v : Var) (k : Kind) (n : ℕ) (sort : Sort) (l : ℕ) → v.0 < 3 → m.hand ≡ None → Runs (act.Bridge v k n sort l ∷ acts) es
      → ((z h : ℕ) → Goes (record m { slots = put m.slots v.0 (Some (seen z (replicate n None) (Some h))); hand = None })) → Going (es ++ tail) m
  bridge-going v k n sort l small empty r f =
      let parts = each-append HasAnswer r.0 r.1 (subst (Each HasAnswer) r.2 good) in
      let p = pair v k n sort l r.0 parts.0 r.3 in
      let all : es ≡ p.first ∷ p.second ∷ r.1 = r.2 ∙ ap (λ y. y ++ r.1) p.all in
      let g : Each HasAnswer (p.first ∷ p.second ∷ []) = subst (Each HasAnswer) p.all parts.0 in
      let z = m-reply p.second.made.reply (subst (λ y. Answers y p.second.made.reply) p.adopts g.1.0) in
      let held : Mind = record m { hand = Some p.handle.0 } in
      subst (λ y. Going (y ++ tail) m) (sym all)
      (step-in m p.first (p.second ∷ r.1 ++ tail) (op.Make sort l) (says.Made p.peer p.handle) p.makes p.made
      (empty, step-in held p.second (r.1 ++ tail) (op.Adopt v k n p.peer p.handle) (says.M z.0) p.adopts z.1 (refl, small, f z.0.0 p.handle.0 r.1 parts.1 r.4)))

  pass-going : (v : Var) (x : StaticNo) (h : ℕ) → v.0 < 3 → x.0 < 16 → IsOver m.slots v.0 (Some h) None
      → m.stored ≡ false → Runs (act.Pass v x ∷ acts) es → Goes (record m { stored = true }) → Going (es ++ tail) m
  pass-going v x h l l' o s r f = by r.0 refl r.3
    where
      land : (own : List Entry) (g : HNum) → g.0 ≡ h → AreEventsAfter (act.Pass v x) (says.H g ∷ []) own → Going ((own ++ r.1) ++ tail) m
      land [] g e w = absurd (none_some (op.Land g x) (sym w))
      land (e' ∷ []) g e w = step-in m e' (r.1 ++ tail) (op.Land g x) e'.made.reply (some-same e'.made.op (op.Land g x) (sym w.0)) refl
          (l', v.0, subst (λ z. IsOver m.slots v.0 (Some z) None) (sym e) o, s, f r.1 (each-append HasAnswer r.0 r.1 (subst (Each HasAnswer) r.2 good)).1 r.4)
      land (e' ∷ e'' ∷ own) g e w = absurd (none_some e''.made.op w.1.0)

      by : (own : List Entry) → r.0 ≡ own → AreEventsAfter (act.Pass v x) [] own → Going (es ++ tail) m
      by [] e w = absurd (none_some (op.Lend v x) (sym w))
      by (e ∷ own) q w =
          let all : es ≡ e ∷ own ++ r.1 = r.2 ∙ ap (λ y. y ++ r.1) q in
          subst (λ y. Going (y ++ tail) m) (sym all)
          (step-in m e ((own ++ r.1) ++ tail) (op.Lend v x) e.made.reply (some-same e.made.op (op.Lend v x) (sym w.0)) refl
          (l, h, o, (λ g d n. land own g n (subst (λ z. AreEventsAfter (act.Pass v x) (z ∷ []) own) d w.1))))

-- what is left of a list behind its first ones
abbrev behind : ℕ → List Act → List Act
behind zero xs = xs
behind (suc n) [] = []
behind (suc n) (x ∷ xs) = behind n xs

-- the variables
v0 : 0 < 3
v0 = omega arith

v1 : 1 < 3
v1 = omega arith

v2 : 2 < 3
v2 = omega arith

none-at : (w : ℕ) → at (record { a = None; b = None; c = None }) w ≡ None
none-at zero = refl
none-at (suc zero) = refl
none-at (suc (suc zero)) = refl
none-at (suc (suc (suc w))) = refl

abbrev bare_over : (s : Slots) (v w : ℕ) (x y : Seen) → at s v ≡ Some x → at s w ≡ Some y → x.fields ≡ None ∷ [] → v < 3 → w < 3 → IsBare s v w 0
bare_over s v w x y a b c d e = record { target = x; value = y; here = a; there = b; first = refl; bare = c; v_small = d; w_small = e }

-- a circle of bridges
pub circle-going : (es tail : List Entry) → Each HasAnswer es → Runs bridge_circle es → Going tail empty_mind → Going (es ++ tail) empty_mind
circle-going es tail good r done =
    bridge-going empty_mind (behind 1 bridge_circle) es tail good _ Bridge 1 User 0 v0 refl r (λ a h e1 g1 r1.
    new-going _ (behind 2 bridge_circle) e1 tail g1 _ Plain 1 v1 r1 (λ b e2 g2 r2.
    set-going _ (behind 3 bridge_circle) e2 tail g2 _ _ (bare_over _ 0 1 _ _ refl refl refl v0 v1) r2 (λ e3 g3 r3.
    bridge-going _ (behind 4 bridge_circle) e3 tail g3 _ Bridge 1 User 0 v2 refl r3 (λ c i e4 g4 r4.
    set-going _ (behind 5 bridge_circle) e4 tail g4 _ _ (bare_over _ 1 2 _ _ refl refl refl v1 v2) r4 (λ e5 g5 r5.
    set-going _ (behind 6 bridge_circle) e5 tail g5 _ _ (bare_over _ 2 0 _ _ refl refl refl v2 v0) r5 (λ e6 g6 r6.
    drop-going _ (behind 7 bridge_circle) e6 tail g6 _ false v0 (inl refl) r6 (λ e7 g7 r7.
    drop-going _ (behind 8 bridge_circle) e7 tail g7 _ false v1 (inl refl) r7 (λ e8 g8 r8.
    drop-going _ (behind 9 bridge_circle) e8 tail g8 _ false v2 (inl refl) r8 (λ e9 g9 r9.
    (let q : e9 ≡ [] = r9 in subst (λ l. Going (l ++ tail) empty_mind) (sym q) done))))))))))

-- a cached leaf
pub cached-going : (x : StaticNo) (es tail : List Entry) → x.0 < 16 → Each HasAnswer es → Runs (cached_leaf x) es → Going tail empty_mind → Going (es ++ tail) empty_mind
cached-going x es tail l good r done =
    bridge-going empty_mind (behind 1 (cached_leaf x)) es tail good _ LeafBridge 0 Framework 1 v0 refl r (λ a h e1 g1 r1.
    new-going _ (behind 2 (cached_leaf x)) e1 tail g1 _ Plain 1 v1 r1 (λ b e2 g2 r2.
    set-going _ (behind 3 (cached_leaf x)) e2 tail g2 _ _ (bare_over _ 1 0 _ _ refl refl refl v1 v0) r2 (λ e3 g3 r3.
    store-going _ (behind 4 (cached_leaf x)) e3 tail g3 x _ h l v1
    (record {
      outer = seen b (Some a ∷ []) None;
      inner = seen a [] (Some h);
      other = 0;
      here = refl;
      there = refl;
      over_fields = refl;
      under_fields = refl;
      over_handle = refl;
      under_handle = refl;
    }) refl r3 (λ e4 g4 r4.
    drop-going _ (behind 5 (cached_leaf x)) e4 tail g4 _ true v0 (inl refl) r4 (λ e5 g5 r5.
    drop-going _ (behind 6 (cached_leaf x)) e5 tail g5 _ false v1 (inr none-at) r5 (λ e6 g6 r6.
    (let q : e6 ≡ [] = r6 in subst (λ l. Going (l ++ tail) empty_mind) (sym q) done)))))))

-- a passed bridge
pub passed-going : (x : StaticNo) (es tail : List Entry) → x.0 < 16 → Each HasAnswer es → Runs (passed_bridge x) es → Going tail empty_mind → Going (es ++ tail) empty_mind
passed-going x es tail l good r done =
    bridge-going empty_mind (behind 1 (passed_bridge x)) es tail good _ Bridge 1 User 0 v0 refl r (λ a h e1 g1 r1.
    new-going _ (behind 2 (passed_bridge x)) e1 tail g1 _ Leaf 0 v1 r1 (λ b e2 g2 r2.
    set-going _ (behind 3 (passed_bridge x)) e2 tail g2 _ _ (bare_over _ 0 1 _ _ refl refl refl v0 v1) r2 (λ e3 g3 r3.
    pass-going _ (behind 4 (passed_bridge x)) e3 tail g3 _ x h v0 l
    (record {
      outer = seen a (Some b ∷ []) (Some h);
      inner = seen b [] None;
      other = 1;
      here = refl;
      there = refl;
      over_fields = refl;
      under_fields = refl;
      over_handle = refl;
      under_handle = refl;
    }) refl r3 (λ e4 g4 r4.
    drop-going _ (behind 5 (passed_bridge x)) e4 tail g4 _ true v0 (inl refl) r4 (λ e5 g5 r5.
    drop-going _ (behind 6 (passed_bridge x)) e5 tail g5 _ false v1 (inr none-at) r5 (λ e6 g6 r6.
    (let q : e6 ≡ [] = r6 in subst (λ l. Going (l ++ tail) empty_mind) (sym q) done)))))))

-- a circle of peers
peer-one : (f : Filled) (a : Act) (acts : List Act) (es tail : List Entry) → next_event a [] ≡ Some (op.Line a) → ((r : Reply) → next_event a (r ∷ []) ≡ None) → Runs (a ∷ acts) es
    → ((rest : List Entry) → Runs acts rest → PeerStep f (op.Line a) (PeerGoing (rest ++ tail))) → PeerGoing (es ++ tail) f
peer-one f a acts es tail e n r g =
    let s = single a (op.Line a) r.0 e n r.3 in
    let all : es ≡ s.entry ∷ r.1 = r.2 ∙ ap (λ l. l ++ r.1) s.all in
    subst (λ l. PeerGoing (l ++ tail) f) (sym all) (subst (λ z. PeerStep f z (PeerGoing (r.1 ++ tail))) (sym s.event) (g r.1 r.4))

abbrev filling : Bool → Bool → Filled
filling x y = record { a = x; b = y }

pub peers-going : (es tail : List Entry) → Runs peer_circle es → PeerGoing tail none_filled → PeerGoing (es ++ tail) none_filled
peers-going es tail r done =
    peer-one none_filled (act.NewPeer var_a 1) (behind 1 peer_circle) es tail refl (λ q. refl) r (λ e1 r1. (
      omega arith,
      peer-one (filling true false) (act.NewPeer var_b 1) (behind 2 peer_circle) e1 tail refl (λ q. refl) r1 (λ e2 r2. (
        omega arith,
        peer-one (filling true true) (act.Set var_a 0 (Some var_b)) (behind 3 peer_circle) e2 tail refl (λ q. refl) r2 (λ e3 r3.
            peer-one (filling true true) (act.Set var_b 0 (Some var_a)) (behind 4 peer_circle) e3 tail refl (λ q. refl) r3 (λ e4 r4.
            peer-one (filling true true) (act.Drop var_a) (behind 5 peer_circle) e4 tail refl (λ q. refl) r4 (λ e5 r5. (
              omega arith,
              peer-one (filling false true) (act.Drop var_b) (behind 6 peer_circle) e5 tail refl (λ q. refl) r5 (λ e6 r6. (
                omega arith,
                (let q : e6 ≡ [] = r6 in subst (λ l. PeerGoing (l ++ tail) none_filled) (sym q) done),
              )),
            )))),
      )),
    ))
