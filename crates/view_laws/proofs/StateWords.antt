-- What the lines of the first entries say of cells, freed objects and the open cycle is what the state of their past
-- has.
use Rattle.std.proofs.Common.{◌≡◌, ◌⊎◌, inl, inr, ⊎_elim, ℕ, ◌+◌, ◌*◌, ◌≤◌, Bool, true, false, ◌||◌, max, List, [], ◌∷◌, ◌++◌, Option, Some, None, refl, sym, ap, ◌∙◌, subst, arith}
use Rattle.std.specs.Prelude.{nat_eq}
use Rattle.std.specs.List.{list_any}
use Rattle.std.proofs.lemmas.Bool.{cases_Bool, both_ways, cases_eq}
use Rattle.std.proofs.lemmas.Option.{same_Some}
use Rattle.std.proofs.lemmas.Bool.Decides.{nat_tests}
use Rattle.joint_machine.specs.declared.names.Cycle.{Cycle}
use Rattle.joint_machine.specs.declared.names.MNum.{MNum}
use Rattle.joint_machine.specs.declared.names.Thread.{Thread}
use Rattle.joint_machine.specs.declared.lines.Act.TheVariants as act
use Rattle.joint_machine.specs.declared.events.Op.{Op}
use Rattle.joint_machine.specs.declared.events.Op.TheVariants as op
use Rattle.joint_machine.specs.Draws.{Drawn}
use Rattle.joint_machine.specs.Histories.{managed_numbers}
use Rattle.joint_machine.specs.HistoryLines.{caller_line, list_line}
use Rattle.joint_machine.specs.Lines.{is_read, is_peer_event}
use Rattle.joint_machine.specs.Linked.{Linkage, SideLawful, linkage_after}
use Rattle.joint_machine.specs.Managed.{Managed, OpenCycle}
use Rattle.joint_machine.specs.ManagedReplay.{ManagedReplay}
use Rattle.joint_machine.specs.Told.{Told, Noted, resolution_of, nothing}
use Rattle.joint_machine.specs.PinsTold.{bare_told}
use Rattle.joint_laws.proofs.ManagedEntries.{ManagedStep-entry}
use Rattle.joint_laws.proofs.ManagedSteps.{ManagedStep, going_on, snapping, resolving, abandoning}
use Rattle.known_laws.specs.Held.{open_number}
use Rattle.known_laws.specs.Drawn.{KeptDrawn, drawn, sets, sets_by, aimed, target_in, freed_in, open_after, open_in}
use Rattle.known_laws.specs.Drawn as draws
use Rattle.known_laws.specs.Known.{Comes, SideMayCome, given, without_pins}
use Rattle.known_laws.specs.Pasts.{Lawful, end_of}
use Rattle.known_laws.proofs.Held.{cycles_are_drawn, Happens, happens, stays, closes, snaps, resolves}
use Rattle.known_laws.proofs.Later.{side_after, reads_leave, kept_end}
use Rattle.known_laws.proofs.MirrorNumbers.{cycles-grow}
use Rattle.known_laws.proofs.Pinned.{kept_pinned}
use Rattle.order_table.specs.declared.views.KeptEntry.{KeptEntry}
use Rattle.order_table.specs.Owed.{mark, marked, aims_at, target, has, is_freed}
use Rattle.order_table.specs.Rule.{Item, of_line, is_in}
use Rattle.order_table.specs.Stages.{ends, neither, deed, stage_after, stage}
use Rattle.order_table.proofs.Gate.{stage_more}
use Rattle.order_table.proofs.Lines.{of_line_in, of_line_out, role_in, in_cases}
use Rattle.order_table.proofs.Says.{target_more, freed_more}
use Rattle.view_laws.specs.Knowing.{of_drawing}
use Rattle.view_laws.proofs.PinWords.{same-number, other-number}

-- the managed line after an item
module _ (before : List Item) (x : Item) where
  pub line-in : x.role ≡ 0 → of_line 0 (before ++ x ∷ []) ≡ of_line 0 before ++ x.kept ∷ []
  line-in z = of_line_in 0 before x (role_in 0 x (sym z))

  pub line-out : (x.role ≡ 0 → ⊥) → of_line 0 (before ++ x ∷ []) ≡ of_line 0 before
  line-out n = of_line_out 0 before x (⊎_elim
      (λ (e : is_in 0 x ≡ true). absurd (⊎_elim (λ (q : 0 ≡ x.role). n (sym q)) (λ (q : 0 ≡ caller_line x.kept.entry.made.caller). omega (arith, q)) (in_cases 0 x e)))
      (λ (e : is_in 0 x ≡ false). e)
      (cases_Bool (is_in 0 x)))

-- cells
mark-same : (o : Op) (t : Option MNum) → mark o t ≡ sets_by o t
mark-same (op.Line (act.Weak c v)) (Some m) = refl
mark-same (op.Line (act.Weak c v)) None = refl
mark-same (op.Line a) t = refl
mark-same o t = refl

aims-same : (c : ℕ) (t : Option ℕ) (o : Option (ℕ × ℕ)) → aims_at c t o ≡ draws.aims_at c t o
aims-same c t None = refl
aims-same c t (Some p) = refl

-- freed objects
turn-eq : (a b : ℕ) → nat_eq a b ≡ nat_eq b a
turn-eq a b = ⊎_elim
    (λ (e : nat_eq a b ≡ true). e ∙ sym (subst (λ z. nat_eq z a ≡ true) (same-number a b e) (self a)))
    (λ (e : nat_eq a b ≡ false). e ∙ sym (other-number b a (λ q. both_ways (nat_eq a b) e (subst (λ z. nat_eq z b ≡ true) q (self b)))))
    (cases_Bool (nat_eq a b))
  where
    self : (n : ℕ) → nat_eq n n ≡ true
    self n = grind (arith, nat_tests)

has-same : (xs : List MNum) (m : ℕ) → has xs m ≡ list_any (nat_eq m) (managed_numbers xs)
has-same [] m = refl
has-same (x ∷ xs) m = (λ i. turn-eq x.0 m i || has-same xs m i)

any-append : (m : ℕ) (xs ys : List ℕ) → list_any (nat_eq m) (xs ++ ys) ≡ (list_any (nat_eq m) xs || list_any (nat_eq m) ys)
any-append m [] ys = refl
any-append m (x ∷ xs) ys = by (nat_eq m x) (any-append m xs ys)
  where
    by : (b : Bool) → list_any (nat_eq m) (xs ++ ys) ≡ (list_any (nat_eq m) xs || list_any (nat_eq m) ys)
        → (b || list_any (nat_eq m) (xs ++ ys)) ≡ ((b || list_any (nat_eq m) xs) || list_any (nat_eq m) ys)
    by true e = refl
    by false e = e

or-none : (b : Bool) → (b || false) ≡ b
or-none true = refl
or-none false = refl

-- the number of the cycle that an entry ends is that of the open one
cycles-more : (x : Noted) (h : List Noted) → Lawful (x ∷ h) → (end_of h).managed.managed.cycles ≤ (end_of (x ∷ h)).managed.managed.cycles
cycles-more x h l = by (is_read x.entry.made.op) refl l.0.comes
  where
    s : Linkage
    s = end_of h

    by : (r : Bool) → is_read x.entry.made.op ≡ r → Comes r s x → s.managed.managed.cycles ≤ (end_of (x ∷ h)).managed.managed.cycles
    by true e c = subst (λ (z : ManagedReplay). s.managed.managed.cycles ≤ z.managed.cycles) (sym (reads_leave s.managed x e)) (omega arith)
    by false e c = subst (λ (z : Linkage). s.managed.managed.cycles ≤ z.managed.managed.cycles) (sym (side_after s x e).same)
        (cycles-grow (given s x.told).managed.managed (linkage_after (given s x.told) (without_pins x)).managed.managed
        (ManagedStep-entry (given s x.told) (without_pins x) c.comes (kept_pinned s _ c.stand (kept_end h l.1)).managed))

-- an entry after which no cycle is open counts no cycle
step-shut : (s t : Managed) → ManagedStep s t → t.cycle ≡ None → t.cycles ≡ s.cycles
step-shut s t (going_on g) e = g.cycles
step-shut s t (snapping p) e = absurd (let f = ap (λ (z : Managed). z.cycle) p.is in cc)
step-shut s t (resolving p) e = ap (λ (z : Managed). z.cycles) p.is
step-shut s t (abandoning p) e = ap (λ (z : Managed). z.cycles) p.is

none-open : (c : Option OpenCycle) → open_number c ≡ None → c ≡ None
none-open None e = refl
none-open (Some c) e = absurd (let f : Some c.number ≡ None = e in cc)

cycles-shut : (x : Noted) (h : List Noted) → Lawful (x ∷ h) → open_in (x ∷ h) ≡ None → (end_of (x ∷ h)).managed.managed.cycles ≡ (end_of h).managed.managed.cycles
cycles-shut x h l o = by (is_read x.entry.made.op) refl l.0.comes
  where
    s : Linkage
    s = end_of h

    shut : (end_of (x ∷ h)).managed.managed.cycle ≡ None
    shut = none-open (end_of (x ∷ h)).managed.managed.cycle (cycles_are_drawn (x ∷ h) l ∙ o)

    by : (r : Bool) → is_read x.entry.made.op ≡ r → Comes r s x → (end_of (x ∷ h)).managed.managed.cycles ≡ s.managed.managed.cycles
    by true e c = ap (λ (z : ManagedReplay). z.managed.cycles) (reads_leave s.managed x e)
    by false e c =
        let same = (side_after s x e).same in
        ap (λ (z : Linkage). z.managed.managed.cycles) same ∙ step-shut (given s x.told).managed.managed (linkage_after (given s x.told) (without_pins x)).managed.managed
        (ManagedStep-entry (given s x.told) (without_pins x) c.comes (kept_pinned s _ c.stand (kept_end h l.1)).managed) (sym (ap (λ (z : Linkage). z.managed.managed.cycle) same) ∙ shut)

ends-number : (x : Noted) (h : List Noted) (k : Cycle) → Lawful (x ∷ h) → (x.entry.made.op ≡ op.Resolve k)
    ⊎ (x.entry.made.op ≡ op.Abandon k) → (c : OpenCycle) × ((end_of h).managed.managed.cycle ≡ Some c) × (c.number ≡ k.0)
ends-number x h k l w = by x.entry.made.caller x.entry.made.op (bare_told x.told) w l.0.comes
  where
    Found : Type 0
    Found = (c : OpenCycle) × ((end_of h).managed.managed.cycle ≡ Some c) × (c.number ≡ k.0)

    here : (t : Thread) (o : Op) (told : Told) → (o ≡ op.Resolve k) ⊎ (o ≡ op.Abandon k)
        → SideLawful (is_peer_event t o) (given (end_of h) x.told) (record { caller = t; index = x.entry.made.index; op = o; reply = x.entry.made.reply; cites = x.entry.made.cites }) told → Found
    here t o told (inl e) v = resolve told (subst (λ z. SideLawful (is_peer_event t z) (given (end_of h) x.told)
        (record { caller = t; index = x.entry.made.index; op = z; reply = x.entry.made.reply; cites = x.entry.made.cites }) told) e v)
      where
        resolve : (told : Told) → SideLawful false (given (end_of h) x.told)
            (record { caller = t; index = x.entry.made.index; op = op.Resolve k; reply = x.entry.made.reply; cites = x.entry.made.cites }) told → Found
        resolve (resolution_of alive freed) v = (v.allowed.cycle, v.allowed.open_cycle.0, v.allowed.open_cycle.1)
        resolve _ v = absurd v.allowed
    here t o told (inr e) v = abandon told (subst (λ z. SideLawful (is_peer_event t z) (given (end_of h) x.told)
        (record { caller = t; index = x.entry.made.index; op = z; reply = x.entry.made.reply; cites = x.entry.made.cites }) told) e v)
      where
        abandon : (told : Told) → SideLawful false (given (end_of h) x.told)
            (record { caller = t; index = x.entry.made.index; op = op.Abandon k; reply = x.entry.made.reply; cites = x.entry.made.cites }) told → Found
        abandon nothing v = (v.allowed.0, v.allowed.1.0, v.allowed.1.1)
        abandon _ v = absurd v.allowed

    by : (t : Thread) (o : Op) (told : Told) → (o ≡ op.Resolve k) ⊎ (o ≡ op.Abandon k) → Comes (is_read x.entry.made.op) (end_of h) x → Found
    by t o told u c = side (subst (λ b. Comes b (end_of h) x) (⊎_elim (λ e. ap is_read e) (λ e. ap is_read e) w) c)
      where
        side : SideMayCome (end_of h) x → Found
        side c = here x.entry.made.caller x.entry.made.op (bare_told x.told) w c.comes.lawful

-- what a managed line says of its past's state
pub record SaysState (ml : List KeptEntry) (h : List Noted) : Type 0 where
  pub cells : (c : ℕ) → target ml c ≡ target_in c h
  pub freed : (m : ℕ) → is_freed ml m ≡ list_any (nat_eq m) (freed_in h)
  pub bound : stage ml ≤ 2 * (end_of h).managed.managed.cycles + 1
  pub opened : (k : ℕ) → open_in h ≡ Some k → stage ml ≡ 2 * k
  pub closed : open_in h ≡ None → stage ml ≡ 2 * (end_of h).managed.managed.cycles + 1

pub says-first : SaysState [] []
says-first = record { cells = λ c. refl; freed = λ m. refl; bound = omega arith; opened = λ k e. absurd (let f : None ≡ Some k = e in cc); closed = λ e. refl }

-- events by what they do to the open cycle
calm : (o : Op) → ((z : Option ℕ) → open_after o z ≡ z) → deed o ≡ neither
calm (op.Snap k) d = absurd (let f : Some k.0 ≡ None = d None in cc)
calm (op.Resolve k) d = absurd (let f : None ≡ Some 0 = d (Some 0) in cc)
calm (op.Abandon k) d = absurd (let f : None ≡ Some 0 = d (Some 0) in cc)
calm _ d = refl

ending : (o : Op) → ((z : Option ℕ) → open_after o z ≡ None) → (k : Cycle) × ((o ≡ op.Resolve k) ⊎ (o ≡ op.Abandon k))
ending (op.Snap k) d = absurd (let f : Some k.0 ≡ None = d None in cc)
ending (op.Resolve k) d = (k, inl refl)
ending (op.Abandon k) d = (k, inr refl)
ending _ d = absurd (let f : Some 0 ≡ None = d (Some 0) in cc)

-- a further item, which is the entry as it is drawn behind the past
module _ (before : List Item) (x : Item) (h : List Noted) (n : Noted) (l : Lawful (n ∷ h)) (w : SaysState (of_line 0 before) h)
    (s : x.role ≡ list_line x.kept.entry.made.caller x.kept.entry.made.op) (same : n.entry ≡ x.kept.entry)
    (told : drawn (end_of h) n ≡ of_drawing x.kept) (others : (x.role ≡ 0 → ⊥) → (marked x.kept ≡ None) × (x.kept.freed ≡ [])) where
  abbrev ks : List KeptEntry
  ks = of_line 0 before

  abbrev more : List KeptEntry
  more = of_line 0 (before ++ x ∷ [])

  sets-is : sets (drawn (end_of h) n) ≡ marked x.kept
  sets-is = ap sets told ∙ sym (mark-same x.kept.entry.made.op x.kept.target)

  cells-more : (c : ℕ) → target more c ≡ target_in c (n ∷ h)
  cells-more c = ⊎_elim
      (λ (z : x.role ≡ 0). ap (λ z. target z c) (line-in before x z) ∙ (target_more c ks x.kept ∙ (aims-same c (target ks c) (marked x.kept) ∙ (λ i. draws.aims_at c (w.cells c i) (sym sets-is i)))))
      (λ (z : x.role ≡ 0 → ⊥). ap (λ z. target z c) (line-out before x z) ∙ (w.cells c ∙ sym (ap (draws.aims_at c (target_in c h)) (sets-is ∙ (others z).0))))
      (cases_eq x.role 0)

  freed-is : managed_numbers (drawn (end_of h) n).freed ≡ managed_numbers x.kept.freed
  freed-is = ap (λ (d : Drawn). managed_numbers d.freed) told

  freed-more-in : (m : ℕ) → is_freed more m ≡ list_any (nat_eq m) (freed_in (n ∷ h))
  freed-more-in m = ⊎_elim
      (λ (z : x.role ≡ 0). ap (λ z. is_freed z m) (line-in before x z)
      ∙ (freed_more ks x.kept m ∙ ((λ i. w.freed m i || has-same x.kept.freed m i)
      ∙ sym (any-append m (freed_in h) (managed_numbers x.kept.freed)) ∙ sym (ap (λ ys. list_any (nat_eq m) (freed_in h ++ ys)) freed-is))))
      (λ (z : x.role ≡ 0 → ⊥). ap (λ z. is_freed z m) (line-out before x z)
      ∙ (w.freed m ∙ sym (ap (λ ys. list_any (nat_eq m) (freed_in h ++ ys)) (freed-is ∙ ap managed_numbers (others z).1)
      ∙ (any-append m (freed_in h) [] ∙ or-none (list_any (nat_eq m) (freed_in h))))))
      (cases_eq x.role 0)

  stage-in : x.role ≡ 0 → stage more ≡ stage_after (stage ks) (deed n.entry.made.op)
  stage-in z = ap stage (line-in before x z) ∙ (stage_more ks x.kept ∙ ap (λ e. stage_after (stage ks) (deed e.made.op)) (sym same))

  role-of : (o : Op) → n.entry.made.op ≡ o → ((t : Thread) → list_line t o ≡ 0) → x.role ≡ 0
  role-of o e z = s ∙ (ap (list_line x.kept.entry.made.caller) (sym (ap (λ e. e.made.op) same) ∙ e) ∙ z x.kept.entry.made.caller)

  record SaysStage : Type 0 where
    bound : stage more ≤ 2 * (end_of (n ∷ h)).managed.managed.cycles + 1
    opened : (k : ℕ) → open_in (n ∷ h) ≡ Some k → stage more ≡ 2 * k
    closed : open_in (n ∷ h) ≡ None → stage more ≡ 2 * (end_of (n ∷ h)).managed.managed.cycles + 1

  stage-same : deed n.entry.made.op ≡ neither → stage more ≡ stage ks
  stage-same d = ⊎_elim (λ (z : x.role ≡ 0). stage-in z ∙ ap (stage_after (stage ks)) d) (λ (z : x.role ≡ 0 → ⊥). ap stage (line-out before x z)) (cases_eq x.role 0)

  ended : ((z : Option ℕ) → open_after n.entry.made.op z ≡ None) → SaysStage
  ended d =
      let k = ending n.entry.made.op d in
      let c = ends-number n h k.0 l k.1 in
      let latest = ((kept_end h l.1).managed.managed.dead c.0 c.1).latest in
      let z : x.role ≡ 0 = ⊎_elim (λ e. role-of (op.Resolve k.0) e (λ t. refl)) (λ e. role-of (op.Abandon k.0) e (λ t. refl)) k.1 in
      let is : deed n.entry.made.op ≡ ends k.0.0 = ⊎_elim (λ e. ap deed e) (λ e. ap deed e) k.1 in
      let e : stage more ≡ max (stage ks) (2 * k.0.0 + 1) = stage-in z ∙ ap (stage_after (stage ks)) is in
      let grow = cycles-more n h l in
      record {
        bound = (let b = w.bound in let q = c.2 in omega (arith, e, b, q, latest, grow));
        opened = λ j f. absurd (let g : None ≡ Some j = sym (d (open_in h)) ∙ f in cc);
        closed = λ f. (let b = w.bound in let q = c.2 in let shut = cycles-shut n h l f in omega (arith, e, b, q, latest, shut));
      }

  stage-more : SaysStage
  stage-more = by (happens n h l)
    where
      by : Happens (end_of h).managed.managed (end_of (n ∷ h)).managed.managed n (given (end_of h) n.told).managed.managed → SaysStage
      by (stays d p q) =
          let e = stage-same (calm n.entry.made.op d) in
          let grow = cycles-more n h l in
          record {
            bound = (let b = w.bound in omega (arith, e, b, grow));
            opened = λ j f. e ∙ w.opened j (sym (d (open_in h)) ∙ f);
            closed = λ f. (let z = w.closed (sym (d (open_in h)) ∙ f) in let shut = cycles-shut n h l f in omega (arith, e, z, shut));
          }
      by (closes d p q) = ended d
      by (resolves c freed u v y d p q) = ended d
      by (snaps k freed candidates dead o v y p q) =
          let z : x.role ≡ 0 = role-of (op.Snap k) o (λ t. refl) in
          let e : stage more ≡ max (stage ks) (2 * k.0) = stage-in z ∙ ap (λ a. stage_after (stage ks) (deed a)) o in
          let latest : k.0 ≡ (end_of (n ∷ h)).managed.managed.cycles = ((kept_end (n ∷ h) l).managed.managed.dead (record { number = k.0; candidates = candidates; dead = dead }) q).latest in
          let next : k.0 ≡ (end_of h).managed.managed.cycles + 1 = y.next in
          let b = w.bound in
          record {
            bound = omega (arith, e, b, latest, next);
            opened = λ j f. (
                let g : Some k.0 ≡ Some j = sym (ap (λ a. open_after a (open_in h)) o) ∙ f in
                let same_k : k.0 ≡ j = same_Some k.0 j g in
                omega (arith, e, b, next, same_k));
            closed = λ f. absurd (let g : Some k.0 ≡ None = sym (ap (λ a. open_after a (open_in h)) o) ∙ f in cc);
          }

  pub says-more : SaysState more (n ∷ h)
  says-more = record { cells = cells-more; freed = freed-more-in; bound = stage-more.bound; opened = stage-more.opened; closed = stage-more.closed }
