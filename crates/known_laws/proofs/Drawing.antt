-- What is drawn of an entry is what its past tells. Two pasts of one run that have the entry are told the same of it,
-- and where it sets a cell the managed side's state behind it is that of the one managed line up to it. So drawn lines
-- grow and are joined as lines of entries are, and what two seats have of an entry is one. And the objects freed are
-- those drawn, since no other entry frees.
use Rattle.std.proofs.Common.{◌≡◌, inl, ⊎_elim, ℕ, Bool, true, false, List, [], ◌∷◌, ◌++◌, map, Option, None, refl, sym, ap, ◌∙◌, subst, true≢false}
use Rattle.std.specs.Prelude.{Contains, if◌then◌else◌}
use mathlib.Core.List.{IsPrefix}
use Rattle.std.proofs.lemmas.List.{append-nil}
use Rattle.std.proofs.lemmas.List.Elements.{Contains-append_cases}
use Rattle.joint_machine.specs.declared.names.Thread.{Thread}
use Rattle.joint_machine.specs.declared.names.Thread.TheVariants.{M, P, C}
use Rattle.joint_machine.specs.declared.events.Entry.{Entry}
use Rattle.joint_machine.specs.declared.events.Op.{Op}
use Rattle.joint_machine.specs.declared.events.Op.TheVariants as op
use Rattle.joint_machine.specs.declared.events.Reply.{Reply}
use Rattle.joint_machine.specs.Draws.{Drawn}
use Rattle.joint_machine.specs.Lines.{IsEvent, is_peer_event, is_read}
use Rattle.joint_machine.specs.declared.lines.Act.TheVariants as act
use Rattle.joint_machine.specs.Histories.{managed_numbers}
use Rattle.joint_machine.specs.Linked.{Linkage, ManagedLawful, SideLawful, managed_after}
use Rattle.joint_machine.specs.Sides.{managed_rules, peer_rules, objects_freed, cell_target}
use Rattle.joint_machine.specs.ManagedReplay.{ManagedReplay, ManagedAllows, managed_answer}
use Rattle.joint_laws.specs.ManagedInvariants.{ReplayInvariant}
use Rattle.joint_machine.specs.Told.{Told, Noted, nothing, phase_of, contraction_of, snap_of, resolution_of}
use Rattle.joint_machine.specs.PinsTold.{bare_told, pins_told}
use Rattle.joint_machine.proofs.Members.{Contains-nil, Contains-cons_cases}
use Rattle.known_laws.specs.Known.{Comes, given, managed_past}
use Rattle.known_laws.proofs.Pinned.{kept_pinned}
use Rattle.known_laws.specs.Pasts.{Lawful, Within, end_of, is_in}
use Rattle.known_laws.specs.PastEntries.{InPast}
use Rattle.known_laws.specs.Growing.{kept_in, AreJoined, HasGrown, untold}
use Rattle.known_laws.specs.Drawn.{KeptDrawn, kept_drawn, drawn_by, drawn, IsToldIn, of_drawn, AreDrawn, NothingIsDrawn, DrawnIsOne, DrawnLinesGrow, DrawnLinesJoin, FreedIsDrawn}
use Rattle.known_laws.proofs.CitedOnce.{each_stands_behind}
use Rattle.known_laws.proofs.FrozenPasts.{goes_on, one_behind}
use Rattle.known_laws.proofs.Growing.{nothing_is_known, one_run, known_lines_grow, known_lines_join}
use Rattle.known_laws.proofs.Later.{kept_end}
use Rattle.known_laws.proofs.Parts.{role_by, same_managed}
use Rattle.known_laws.proofs.PastLines.{in_role, in_right}
use Rattle.known_laws.proofs.SnapParts.{behind_lawful, within_front, driver_goes}

-- a read sets no cell
read_target : (s : ManagedReplay) (t : Thread) (o : Op) (r : Reply) → is_read o ≡ true → cell_target s t o r ≡ None
read_target s t (op.Line (act.Weak k v)) r e = absurd (true≢false (sym e))
read_target s t o r e = refl

read_drawn : (s : ManagedReplay) (x : Noted) → is_read x.entry.made.op ≡ true → drawn_by managed_rules s x ≡ record { entry = x.entry; target = None; freed = objects_freed (bare_told x.told) }
read_drawn s x e = λ i. record { entry = x.entry; target = read_target s x.entry.made.caller x.entry.made.op x.entry.made.reply e i; freed = objects_freed (bare_told x.told) }

-- what is drawn of one entry in two pasts of one run
one_drawn : (whole a b : List Noted) (x : Noted) → Lawful (x ∷ a) → Lawful (x ∷ b) → Within whole (x ∷ a) → Within whole (x ∷ b) → drawn (end_of a) x ≡ drawn (end_of b) x
one_drawn whole a b x la lb wa wb = by (is_peer_event x.entry.made.caller x.entry.made.op) (is_read x.entry.made.op) refl refl
  where
    by : (c r : Bool) → is_peer_event x.entry.made.caller x.entry.made.op ≡ c → is_read x.entry.made.op ≡ r
        → (if c then drawn_by peer_rules (end_of a).peer x else drawn_by managed_rules (end_of a).managed x)
        ≡ (if c then drawn_by peer_rules (end_of b).peer x else drawn_by managed_rules (end_of b).managed x)
    by true r e f = refl
    by false true e f = read_drawn (end_of a).managed x f ∙ sym (read_drawn (end_of b).managed x f)
    by false false e f = ap (λ (z : ManagedReplay). drawn_by managed_rules z x)
        (same_managed a b (one_behind whole 0 x a b la lb wa wb (subst (λ i. is_in i x ≡ true) (role_by x false false e f) (in_role x))))

-- what is drawn is drawn of the entry
pub drawn-entry : (s : Linkage) (n : Noted) → (drawn s n).entry ≡ n.entry
drawn-entry s n = by (is_peer_event n.entry.made.caller n.entry.made.op)
  where
    by : (c : Bool) → (if c then drawn_by peer_rules s.peer n else drawn_by managed_rules s.managed n).entry ≡ n.entry
    by true = refl
    by false = refl

-- what is told in one past is told in another of the run that has the entry
told_alike : (whole a b : List Noted) → Lawful a → Lawful b → Within whole a → Within whole b → (d : KeptDrawn) → (t : IsToldIn a d) → InPast b t.entry → IsToldIn b d
told_alike whole a b la lb wa wb d t p =
    let s = each_stands_behind b lb t.entry p in
    let one = one_drawn whole t.back s.back t.entry (behind_lawful t.front t.entry t.back (subst Lawful t.all la)) s.lawful
    (within_front whole t.front t.entry t.back (subst (Within whole) t.all wa)) (within_front whole s.front t.entry s.back (subst (Within whole) s.all wb)) in
    record { entry = t.entry; front = s.front; back = s.back; all = s.all; same = t.same ∙ one; pins = t.pins }

told_there : (h : List Noted) (d : KeptDrawn) (t : IsToldIn h d) → InPast h t.entry
told_there h d t = subst (λ l. InPast l t.entry) (sym t.all) (in_right t.front (t.entry ∷ t.back) t.entry (inl refl))

pub nothing_is_drawn : NothingIsDrawn
nothing_is_drawn = record { known = nothing_is_known; told = λ i d c. absurd (Contains-nil d c) }

pub drawn_is_one : DrawnIsOne
drawn_is_one whole ls ms a b numbered wa wb i j d e c f n =
    let r = one_run whole (λ k. of_drawn (ls k)) (λ k. of_drawn (ms k)) a.known b.known numbered wa wb in
    let t = a.told i d c in
    let u = b.told j e f in
    let number : t.entry.entry.number ≡ u.entry.entry.number = sym (ap (λ (z : Drawn). z.entry.number) t.same ∙ ap (λ (e : Entry). e.number) (drawn-entry (end_of t.back) t.entry))
    ∙ (n ∙ (ap (λ (z : Drawn). z.entry.number) u.same ∙ ap (λ (e : Entry). e.number) (drawn-entry (end_of u.back) u.entry))) in
    let one : t.entry ≡ u.entry = r.alike t.entry u.entry (told_there a.known.past d t) (told_there b.known.past e u) number in
    let la = behind_lawful t.front t.entry t.back (subst Lawful t.all a.known.lawful) in
    let lb = behind_lawful u.front u.entry u.back (subst Lawful u.all b.known.lawful) in
    let va = within_front r.run t.front t.entry t.back (subst (Within r.run) t.all r.first) in
    let vb = within_front r.run u.front u.entry u.back (subst (Within r.run) u.all r.second) in
    let same : d.drawn ≡ e.drawn = t.same ∙ (one_drawn r.run t.back u.back t.entry la (subst (λ z. Lawful (z ∷ u.back)) (sym one) lb) va (subst (λ z. Within r.run (z ∷ u.back)) (sym one) vb)
    ∙ (ap (drawn (end_of u.back)) one ∙ sym u.same)) in
    let pins : d.pins ≡ e.pins = t.pins ∙ (ap (λ (z : Noted). pins_told z.told) one ∙ sym u.pins) in
    λ i. record { drawn = same i; pins = pins i }

-- an entry is drawn by what is freed
drawn_told : (s : Linkage) (n : Noted) (x : Told) → objects_freed (bare_told x) ≡ objects_freed (bare_told n.told) → drawn s (record { entry = n.entry; told = x }) ≡ drawn s n
drawn_told s n x e = by (is_peer_event n.entry.made.caller n.entry.made.op)
  where
    by : (c : Bool) → (if c then drawn_by peer_rules s.peer (record { entry = n.entry; told = x }) else drawn_by managed_rules s.managed (record { entry = n.entry; told = x }))
        ≡ (if c then drawn_by peer_rules s.peer n else drawn_by managed_rules s.managed n)
    by true = refl
    by false = λ i. record { entry = n.entry; target = managed_rules.target s.managed n.entry.made; freed = e i }

pub drawn_lines_grow : DrawnLinesGrow
drawn_lines_grow lines k n below may = record {
  grows = g;
  told = λ i e c. by i (is_in i (untold record { entry = d.drawn.entry; pins = d.pins })) e c;
}
  where
    d : KeptDrawn
    d = kept_drawn (end_of k.known.past) n

    g : HasGrown (λ i. of_drawn (lines i)) k.known.past n
    g = known_lines_grow (λ i. of_drawn (lines i)) k.known n below may

    x : Noted
    x = record { entry = n.entry; told = g.told }

    same : d.drawn ≡ drawn (end_of k.known.past) x
    same = sym (drawn_told (end_of k.known.past) n g.told g.freed)

    pins : d.pins ≡ pins_told x.told
    pins = sym g.pins

    old : (i : ℕ) (e : KeptDrawn) → Contains (lines i) e → IsToldIn (x ∷ k.known.past) e
    old i e c = let t = k.told i e c in record { entry = t.entry; front = x ∷ t.front; back = t.back; all = (λ j. x ∷ t.all j); same = t.same; pins = t.pins }

    by : (i : ℕ) (b : Bool) (e : KeptDrawn) → Contains (if b then lines i ++ d ∷ [] else lines i) e → IsToldIn (x ∷ k.known.past) e
    by i false e c = old i e c
    by i true e c = ⊎_elim (old i e)
        (λ q. ⊎_elim (λ (s : d ≡ e). record {
          entry = x;
          front = [];
          back = k.known.past;
          all = refl;
          same = ap (λ (z : KeptDrawn). z.drawn) (sym s)
              ∙ same;
          pins = ap (λ (z : KeptDrawn). z.pins) (sym s) ∙ pins;
        }) (λ z. absurd (Contains-nil e z)) (Contains-cons_cases d [] e q))
        (Contains-append_cases (lines i) (d ∷ []) e c)

pub drawn_lines_join : DrawnLinesJoin
drawn_lines_join whole ls ms ns a b numbered wa wb e = record { joins = j; told = told }
  where
    j : AreJoined a.known.past b.known.past (λ i. of_drawn (ls i)) (λ i. of_drawn (ms i)) (λ i. of_drawn (ns i))
    j = known_lines_join whole (λ i. of_drawn (ls i)) (λ i. of_drawn (ms i)) (λ i. of_drawn (ns i)) a.known b.known numbered wa wb e.longer

    begins : (i : ℕ) → IsPrefix (of_drawn (ns i)) (kept_in i whole)
    begins i = ⊎_elim (λ q. subst (λ l. IsPrefix (of_drawn l) (kept_in i whole)) (sym q) (wa i)) (λ q. subst (λ l. IsPrefix (of_drawn l) (kept_in i whole)) (sym q) (wb i)) (e.either i)

    -- what one of the two had
    moved : (ks : ℕ → List KeptDrawn) (k : AreDrawn ks) → ((i : ℕ) → IsPrefix (of_drawn (ks i)) (kept_in i whole))
        → ((x : Noted) → InPast k.known.past x → InPast j.joined.past x) → (i : ℕ) (d : KeptDrawn) → Contains (ks i) d → IsToldIn j.joined.past d
    moved ks k w stay i d c =
        let r = one_run whole (λ z. of_drawn (ks z)) (λ z. of_drawn (ns z)) k.known j.joined numbered w begins in
        let t = k.told i d c in
        told_alike r.run k.known.past j.joined.past k.known.lawful j.joined.lawful r.first r.second d t (stay t.entry (told_there k.known.past d t))

    told : (i : ℕ) (d : KeptDrawn) → Contains (ns i) d → IsToldIn j.joined.past d
    told i d c = ⊎_elim
        (λ q. moved ls a wa j.first_stay i d (subst (λ l. Contains l d) q c))
        (λ q. moved ms b wb j.second_stay i d (subst (λ l. Contains l d) q c))
        (e.either i)

-- the managed objects that were freed, after an entry of any list
numbers-of : (xs : List ℕ) → managed_numbers (map (λ x. record { 0 = x }) xs) ≡ xs
numbers-of [] = refl
numbers-of (x ∷ xs) = ap (λ l. x ∷ l) (numbers-of xs)

-- an entry that is no snap and no resolve is told nothing freed
abbrev IsUnfreeing : Op → Type 0
IsUnfreeing (op.Snap k) = ⊥
IsUnfreeing (op.Resolve k) = ⊥
IsUnfreeing _ = Unit {0}

none_freed : (s : ManagedReplay) (o : Op) (told : Told) → IsUnfreeing o → ManagedAllows s o told → objects_freed told ≡ []
none_freed s (op.Snap k) told u w = absurd u
none_freed s (op.Resolve k) told u w = absurd u
none_freed s (op.Contract k) (contraction_of comps heavy xrefs) u w = refl
none_freed s (op.Contract k) _ u w = absurd w
none_freed s (op.Refused v) (phase_of p) u w = refl
none_freed s (op.Refused v) _ u w = absurd w
none_freed s o nothing u w = refl
none_freed s o _ u w = absurd w

managed_freed : (s : Linkage) (t : Thread) (l : ℕ) (o : Op) (r : Reply) (c : Option ℕ) (told : Told) → ReplayInvariant s.managed
    → IsEvent t o → ManagedLawful s.managed (record { caller = t; index = l; op = o; reply = r; cites = c }) told → is_peer_event t o ≡ false
    → (managed_answer s.managed t o told).state.managed.heap.freed ≡ s.managed.managed.heap.freed ++ managed_numbers (objects_freed told)
managed_freed s C l (op.Snap k) r c (snap_of freed candidates dead) k' v w e = ap (λ z. s.managed.managed.heap.freed ++ z) (sym (numbers-of freed))
managed_freed s C l (op.Snap k) r c told k' v w e = absurd w.allowed
managed_freed s C l (op.Resolve k) r c (resolution_of answers freed) k' v w e = ap (λ z. s.managed.managed.heap.freed ++ z) (sym (numbers-of freed))
managed_freed s C l (op.Resolve k) r c told k' v w e = absurd w.allowed
managed_freed s (M u) l (op.Snap k) r c told k' v w e = absurd v
managed_freed s (P u) l (op.Snap k) r c told k' v w e = absurd v
managed_freed s (M u) l (op.Resolve k) r c told k' v w e = absurd v
managed_freed s (P u) l (op.Resolve k) r c told k' v w e = absurd v
managed_freed s C l (op.Abandon k) r c told k' v w e = none told w.allowed
  where
    none : (told : Told) → ManagedAllows s.managed (op.Abandon k) told → s.managed.managed.heap.freed ≡ s.managed.managed.heap.freed ++ managed_numbers (objects_freed told)
    none nothing a = sym (append-nil s.managed.managed.heap.freed)
    none _ a = absurd a
managed_freed s C l o r c told k' v w e = still s o told tt w.allowed
    (subst (λ b. (managed_after s.managed (record { caller = C; index = l; op = o; reply = r; cites = c }) told b).managed.heap.freed ≡ s.managed.managed.heap.freed) e
    (driver_goes s.managed l r c o told k' tt v).freed)
  where
    still : (s : Linkage) (o : Op) (told : Told) → IsUnfreeing o → ManagedAllows s.managed o told → (managed_answer s.managed C o told).state.managed.heap.freed ≡ s.managed.managed.heap.freed
        → (managed_answer s.managed C o told).state.managed.heap.freed ≡ s.managed.managed.heap.freed ++ managed_numbers (objects_freed told)
    still s o told u a q = q ∙ (sym (append-nil s.managed.managed.heap.freed) ∙ ap (λ z. s.managed.managed.heap.freed ++ managed_numbers z) (sym (none_freed s.managed o told u a)))
managed_freed s t l o r c told k' v w e =
    let q = (goes_on s.managed t o told (λ z. cc) v k' w.allowed).freed in
    q ∙ (sym (append-nil s.managed.managed.heap.freed) ∙ ap (λ z. s.managed.managed.heap.freed ++ managed_numbers z) (sym (none_freed s.managed o told tt w.allowed)))

freed_step : (x : Noted) (h : List Noted) → Lawful (x ∷ h) → (end_of (x ∷ h)).managed.managed.heap.freed ≡ (end_of h).managed.managed.heap.freed ++ managed_numbers (drawn (end_of h) x).freed
freed_step x h l = by (is_peer_event x.entry.made.caller x.entry.made.op) (is_read x.entry.made.op) refl refl l.0.comes
  where
    by : (b r : Bool) → is_peer_event x.entry.made.caller x.entry.made.op ≡ b → is_read x.entry.made.op ≡ r → Comes r (end_of h) x
        → (managed_past (end_of h).managed x.entry.made x.told b r).managed.heap.freed ≡ (end_of h).managed.managed.heap.freed ++ managed_numbers
        (if b then drawn_by peer_rules (end_of h).peer x else drawn_by managed_rules (end_of h).managed x).freed
    by true r e f w = sym (append-nil (end_of h).managed.managed.heap.freed)
    by false true e f w = sym (ap (λ z. (end_of h).managed.managed.heap.freed ++ managed_numbers (objects_freed (bare_told z))) w.bare ∙ append-nil (end_of h).managed.managed.heap.freed)
    by false false e f w = managed_freed (given (end_of h) x.told) x.entry.made.caller x.entry.made.index x.entry.made.op x.entry.made.reply x.entry.made.cites
        (bare_told x.told) (kept_pinned (end_of h) _ w.stand (kept_end h l.1)).managed w.comes.event
        (subst (λ c. SideLawful c (given (end_of h) x.told) x.entry.made (bare_told x.told)) e w.comes.lawful) e

pub freed_is_drawn : FreedIsDrawn
freed_is_drawn [] l = refl
freed_is_drawn (x ∷ h) l = freed_step x h l ∙ ap (λ z. z ++ managed_numbers (drawn (end_of h) x).freed) (freed_is_drawn h l.1)
