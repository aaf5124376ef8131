-- Known lines grow, and are joined. The new entry's number is above all in the past, since each entry of the past
-- stands in the line of its list. What is told of it may be told plainly. Two lines' pasts are joined by the law of
-- pasts; where a joined line has no more entries than the first one's, it is that one, since that begins it.
use Rattle.joint_machine.specs.ManagedReplay.{ManagedAllows, ManagedReplay, managed_answer}
use Rattle.joint_machine.specs.Linked.{SideLawful, Linkage, MayCome, peer_after}
use Rattle.joint_machine.specs.Sides.{objects_freed}
use Rattle.joint_machine.specs.declared.names.PhaseWord.{PhaseWord}
use Rattle.std.proofs.Common.{◌≡◌, ◌⊎◌, ⊎_elim, ℕ, suc, ◌+◌, ◌<◌, ◌≤◌, Bool, true, false, List, [], ◌∷◌, ◌++◌, length, map, Some, None, refl, sym, ap, ◌∙◌, subst, arith, length-append}
use Rattle.std.specs.Prelude.{if◌then◌else◌}
use mathlib.Core.List.{IsPrefix}
use base.Growing.{prefix_refl, prefix_anti}
use Rattle.joint_machine.specs.declared.events.Op.{Op}
use Rattle.joint_machine.specs.declared.events.Op.TheVariants as op
use Rattle.joint_machine.specs.declared.events.Made.{Made}
use Rattle.joint_machine.specs.Control.{free, caller_place}
use Rattle.joint_machine.specs.Lines.{IsEvent, is_peer_event, is_read}
use Rattle.joint_machine.specs.Told.{Told, Noted, phase_of}
use Rattle.joint_machine.specs.PinsTold.{bare_told, no_pins, pins_told, tells_pins, with_pins}
use Rattle.known_laws.specs.Known.{Comes, SideMayCome, PinsStand, pinned, given, without_pins, managed_past, past_after}
use Rattle.known_laws.specs.PastEntries.{TellsPlainly, InPast, entries}
use Rattle.known_laws.proofs.Bared.{unpinned_told, same_told, retell, retell_tells, retell_pins, retell_bare, plain_read}
use Rattle.known_laws.specs.Telling.{MayBeTold}
use Rattle.known_laws.specs.Pasts.{role_of, is_in, line, of_line, PastRunsFrom, end_of, Within, AreWithin, AreAlike, bare, Joined, driver_line, next_of}
use Rattle.known_laws.specs.Growing.{Kept, shown, all_shown, entries_kept, kept_in, untold, AreKnown, NothingIsKnown, grown, AreBelow, HasGrown, KnownLinesGrow, Begin, KnownLinesJoin, LinesGiveParts}
use Rattle.known_laws.specs.Growing.{DeadPartStays}
use Rattle.known_laws.proofs.PastLines.{in_role, line-in, length_begins, shorter_begins, in-line, in_begins}
use Rattle.known_laws.proofs.PastsJoin.{counted}
use Rattle.known_laws.proofs.Parts.{same_managed, same_peer, same_control}
use Rattle.known_laws.proofs.Telling.{told_is_one, plain_may_be_told}
use Rattle.known_laws.proofs.FrozenPasts.{same_dead_part}
use Rattle.known_laws.proofs.Agreeing.{entry_pasts_join, pasts_agree, line_bare, tell, within_told, self_a, self_b}
use Rattle.joint_machine.specs.Histories.{NumberedFrom}

pub nothing_is_known : NothingIsKnown
nothing_is_known = record { past = []; lawful = tt; same = λ i. refl }

below_in : (n : ℕ) (xs : List Noted) (e : Noted) → AreBelow n (all_shown xs) → InPast xs e → e.entry.number < n
below_in n [] e b p = absurd p
below_in n (x ∷ xs) e b p = ⊎_elim (λ (q : x ≡ e). subst (λ (z : Noted). z.entry.number < n) q b.0) (λ q. below_in n xs e b.1 q) p

pub entries_append : (xs ys : List Noted) → entries (xs ++ ys) ≡ entries xs ++ entries ys
entries_append [] ys = refl
entries_append (x ∷ xs) ys = ap (λ l. x.entry ∷ l) (entries_append xs ys)

pub shown_append : (xs ys : List Noted) → all_shown (xs ++ ys) ≡ all_shown xs ++ all_shown ys
shown_append [] ys = refl
shown_append (x ∷ xs) ys = ap (λ l. shown x ∷ l) (shown_append xs ys)

pub length_shown : (xs : List Noted) → length (all_shown xs) ≡ length xs
length_shown [] = refl
length_shown (x ∷ xs) = ap suc (length_shown xs)

-- what lines keep, as entries
pub entries_shown : (xs : List Noted) → entries_kept (all_shown xs) ≡ entries xs
entries_shown [] = refl
entries_shown (x ∷ xs) = ap (λ l. x.entry ∷ l) (entries_shown xs)

grown_line : (lines : ℕ → List Kept) (past : List Noted) (n x : Noted) (i : ℕ) → shown n ≡ shown x → lines i ≡ all_shown (line i past) → grown lines (shown n) i ≡ all_shown (line i (x ∷ past))
grown_line lines past n x i q e = ap (λ k. grown lines k i) q ∙ by (is_in i x)
  where
    by : (b : Bool) → (if b then lines i ++ shown x ∷ [] else lines i) ≡ all_shown (if b then line i past ++ x ∷ [] else line i past)
    by true = ap (λ l. l ++ shown x ∷ []) e ∙ sym (shown_append (line i past) (x ∷ []))
    by false = e

-- what is told of a refusal changes no side
told_twice : (s : Linkage) (n : Noted) (x : Told) → pins_told x ≡ pins_told n.told
    → (TellsPlainly s.control.stand n.entry.made.op (bare_told n.told) → x ≡ n.told) → IsEvent n.entry.made.caller n.entry.made.op
    → ((past_after s (record { entry = n.entry; told = x })).managed ≡ (past_after s n).managed) × ((past_after s (record { entry = n.entry; told = x })).peer ≡ (past_after s n).peer)
told_twice s n x p e v = by n.entry.made.op refl
  where
    again : x ≡ n.told → ((past_after s (record { entry = n.entry; told = x })).managed ≡ (past_after s n).managed)
        × ((past_after s (record { entry = n.entry; told = x })).peer ≡ (past_after s n).peer)
    again q = (ap (λ z. (past_after s (record { entry = n.entry; told = z })).managed) q, ap (λ z. (past_after s (record { entry = n.entry; told = z })).peer) q)

    Both : Op → Type 0
    Both o = let m : Made = record n.entry.made { op = o } in
        (managed_past s.managed m x (is_peer_event m.caller o) (is_read o) ≡ managed_past s.managed m n.told (is_peer_event m.caller o) (is_read o))
        × (peer_after s.peer m (bare_told x) (is_peer_event m.caller o) ≡ peer_after s.peer m (bare_told n.told) (is_peer_event m.caller o))

    by : (o : Op) → n.entry.made.op ≡ o → ((past_after s (record { entry = n.entry; told = x })).managed ≡ (past_after s n).managed)
        × ((past_after s (record { entry = n.entry; told = x })).peer ≡ (past_after s n).peer)
    by (op.Refused w) q = subst Both (sym q) (stays x ∙ (ap (λ z. with_pins (with_pins s.managed z) no_pins) p ∙ sym (stays n.told)), refl)
      where
        same : (z : ManagedReplay) (y : Told) → (managed_answer z n.entry.made.caller (op.Refused w) y).state ≡ z
        same z (phase_of f) = refl
        same z _ = refl

        stays : (y : Told) → managed_past s.managed (record n.entry.made { op = op.Refused w }) y false false ≡ with_pins (with_pins s.managed (pins_told y)) no_pins
        stays y = ap (λ z. with_pins z no_pins) (same (with_pins s.managed (pins_told y)) (bare_told y))
    by o q = again (e (subst (λ z. TellsPlainly s.control.stand z (bare_told n.told)) (sym q) tt))

pub known_lines_grow : KnownLinesGrow
known_lines_grow lines k n below may = by (is_read n.entry.made.op) refl may
  where
    later : next_of k.past ≤ n.entry.number
    later = counted n.entry.number k.past (λ e p. below_in n.entry.number (line (role_of e) k.past) e
        (subst (AreBelow n.entry.number) (k.same (role_of e)) (below (role_of e))) (line-in (role_of e) k.past e p (in_role e)))

    by : (r : Bool) → is_read n.entry.made.op ≡ r → Comes r (end_of k.past) n → HasGrown lines k.past n
    by true e w = record {
      told = n.told;
      lawful = (record { later = later; comes = subst (λ r. Comes r (end_of k.past) n) (sym e) w; plain = plain_read (end_of k.past).control.stand n.entry.made.op (bare_told n.told) e }, k.lawful);
      same = λ i. grown_line lines k.past n n i refl (k.same i);
      alike = λ p. refl;
      pins = refl;
      freed = refl;
      managed = refl;
      peer = refl;
    }
    by false e w = record {
      told = x;
      lawful = (
        record {
          later = later;
          comes = subst (λ r. Comes r (end_of k.past) m) (sym e) comes;
          plain = subst (TellsPlainly (end_of k.past).control.stand n.entry.made.op) (sym (retell_bare n.told t.0 free)) t.1.1;
        },
        k.lawful,
      );
      same = λ i. grown_line lines k.past n m i (λ j. record { entry = n.entry; pins = sym pins j }) (k.same i);
      alike = alike;
      pins = pins;
      freed = freed n.entry.made.op refl;
      managed = twice.0;
      peer = twice.1;
    }
      where
        s : Linkage
        s = given (end_of k.past) n.told

        t : (y : Told) × MayBeTold s n.entry y
        t = plain_may_be_told s (without_pins n) w.comes

        free : tells_pins t.0 ≡ false
        free = unpinned_told s (record { entry = n.entry; told = t.0 }) t.1.0

        x : Told
        x = retell n.told t.0

        m : Noted
        m = record { entry = n.entry; told = x }

        pins : pins_told x ≡ pins_told n.told
        pins = retell_pins n.told t.0 free

        comes : SideMayCome (end_of k.past) m
        comes = record {
          tells = retell_tells n.told t.0 free ∙ w.tells;
          stand = subst (PinsStand (end_of k.past).managed.managed) (sym pins) w.stand;
          comes = subst (λ z. MayCome (pinned (end_of k.past) z) (record { entry = n.entry; told = bare_told x })) (sym pins)
              (subst (λ z. MayCome s (record { entry = n.entry; told = z })) (sym (retell_bare n.told t.0 free)) t.1.0);
        }

        alike : TellsPlainly (end_of k.past).control.stand n.entry.made.op (bare_told n.told) → x ≡ n.told
        alike p = same_told x n.told (retell_tells n.told t.0 free) pins (retell_bare n.told t.0 free ∙ told_is_one s n.entry t.0 (bare_told n.told) (t.1.0, t.1.1) (w.comes, p))

        refused : (v : PhaseWord) (q : Linkage) (y : Told) → n.entry.made.op ≡ op.Refused v → MayCome q (record { entry = n.entry; told = y }) → objects_freed y ≡ []
        refused v q y f c = by_told y (subst (λ o. SideLawful (is_peer_event n.entry.made.caller o) q (record n.entry.made { op = o }) y) f c.lawful).allowed
          where
            by_told : (y : Told) → ManagedAllows q.managed (op.Refused v) y → objects_freed y ≡ []
            by_told (phase_of p) a = refl
            by_told _ a = absurd a

        freed : (o : Op) → n.entry.made.op ≡ o → objects_freed (bare_told x) ≡ objects_freed (bare_told n.told)
        freed (op.Refused v) f = refused v (given (end_of k.past) x) (bare_told x) f comes.comes ∙ sym (refused v s (bare_told n.told) f w.comes)
        freed o f = ap (λ z. objects_freed (bare_told z)) (alike (subst (λ z. TellsPlainly (end_of k.past).control.stand z (bare_told n.told)) (sym f) tt))

        twice : ((past_after (end_of k.past) m).managed ≡ (past_after (end_of k.past) n).managed) × ((past_after (end_of k.past) m).peer ≡ (past_after (end_of k.past) n).peer)
        twice = told_twice (end_of k.past) n x pins alike w.comes.event

-- notes of which nothing is told
untold_append : (xs ys : List Kept) → map untold (xs ++ ys) ≡ map untold xs ++ map untold ys
untold_append [] ys = refl
untold_append (x ∷ xs) ys = ap (λ l. untold x ∷ l) (untold_append xs ys)

pub bare_untold : (xs : List Kept) → map bare (map untold xs) ≡ map untold xs
bare_untold [] = refl
bare_untold (x ∷ xs) = ap (λ l. untold x ∷ l) (bare_untold xs)

pub bare_entries : (xs : List Noted) → map bare xs ≡ map untold (all_shown xs)
bare_entries [] = refl
bare_entries (x ∷ xs) = ap (λ l. bare x ∷ l) (bare_entries xs)

pub of_line_untold : (i : ℕ) (xs : List Kept) → of_line i (map untold xs) ≡ map untold (kept_in i xs)
of_line_untold i [] = refl
of_line_untold i (x ∷ xs) = by (is_in i (untold x)) (of_line_untold i xs)
  where
    by : (b : Bool) → of_line i (map untold xs) ≡ map untold (kept_in i xs)
        → (if b then untold x ∷ of_line i (map untold xs) else of_line i (map untold xs)) ≡ map untold (if b then x ∷ kept_in i xs else kept_in i xs)
    by true e = ap (λ l. untold x ∷ l) e
    by false e = e

pub within_by : (whole : List Kept) (lines : ℕ → List Kept) (k : AreKnown lines) → Begin whole lines → AreWithin (map untold whole) k.past
within_by whole lines k begins i =
    let p = begins i in
    let left : line i (map bare k.past) ≡ map untold (lines i) = line_bare i k.past ∙ (bare_entries (line i k.past) ∙ ap (map untold) (sym (k.same i))) in
    let right : map untold (kept_in i whole) ≡ of_line i (map bare (map untold whole)) = sym (of_line_untold i whole) ∙ ap (of_line i) (sym (bare_untold whole)) in
    (map untold p.0, ap (λ l. l ++ map untold p.0) left ∙ (sym (untold_append (lines i) p.0) ∙ (ap (map untold) p.1 ∙ right)))

pub runs_untold : (n : ℕ) (xs : List Kept) → NumberedFrom n (entries_kept xs) → PastRunsFrom n (map untold xs)
runs_untold n [] r = tt
runs_untold n (x ∷ xs) r = (r.0, runs_untold (n + 1) xs r.1)

-- a beginning of a list that is no shorter is the list
all_begins : (xs ys : List Noted) → IsPrefix xs ys → length ys ≤ length xs → ys ≡ xs
all_begins xs ys p l = prefix_anti ys xs (shorter_begins ys xs ys (prefix_refl ys) p l) p

longer_line : (xs ys zs : List Kept) (ps qs : List Noted) → (zs ≡ xs) ⊎ (zs ≡ ys) → length xs ≤ length zs → length ys ≤ length zs → length ps ≡ length xs
    → length qs ≡ length ys → (rs : List Noted) → (rs ≡ ps) ⊎ (rs ≡ qs) → length ps ≤ length rs → length qs ≤ length rs → length rs ≡ length zs
longer_line xs ys zs ps qs e a b c d rs f g h = ⊎_elim
    (λ (u : zs ≡ xs). ⊎_elim
    (λ (v : rs ≡ ps). ap length v ∙ (c ∙ ap length (sym u)))
    (λ (v : rs ≡ qs). let l = ap length v in let m = ap length u in omega (arith, l, m, b, c, d, g)) f)
    (λ (u : zs ≡ ys). ⊎_elim
    (λ (v : rs ≡ ps). let l = ap length v in let m = ap length u in omega (arith, l, m, a, c, d, h))
    (λ (v : rs ≡ qs). ap length v ∙ (d ∙ ap length (sym u))) f)
    e

entries_of_length : (xs ys : List Kept) → IsPrefix xs ys → length xs ≤ length ys
entries_of_length xs ys p = let e : length xs + length p.0 ≡ length ys = sym (length-append xs p.0) ∙ ap length p.1 in omega arith

pub known_lines_join : KnownLinesJoin
known_lines_join whole ls ms ns a b numbered wa wb longer =
    record {
      joined = record { past = j.past; lawful = j.lawful; same = same };
      first = first;
      second = second;
      first_stay = λ x p. stays a.past x p (j.first (role_of x));
      second_stay = λ x p. stays b.past x p (j.second (role_of x));
      managed_first = λ e. same_managed j.past a.past (first 0 e);
      managed_second = λ e. same_managed j.past b.past (second 0 e);
      peer_first = λ e. same_peer j.past a.past (first 1 e);
      peer_second = λ e. same_peer j.past b.past (second 1 e);
    }
  where
    j : Joined a.past b.past
    j = entry_pasts_join (map untold whole) a.past b.past (runs_untold 0 whole numbered) a.lawful b.lawful (within_by whole ls a wa) (within_by whole ms b wb)

    stays : (h : List Noted) (x : Noted) → InPast h x → IsPrefix (line (role_of x) h) (line (role_of x) j.past) → InPast j.past x
    stays h x p q = in-line (role_of x) j.past x (in_begins (line (role_of x) h) (line (role_of x) j.past) x q (line-in (role_of x) h x p (in_role x)))

    la : (i : ℕ) → length (line i a.past) ≡ length (ls i)
    la i = sym (length_shown (line i a.past)) ∙ ap length (sym (a.same i))

    lb : (i : ℕ) → length (line i b.past) ≡ length (ms i)
    lb i = sym (length_shown (line i b.past)) ∙ ap length (sym (b.same i))

    lengths : (i : ℕ) → length (line i j.past) ≡ length (ns i)
    lengths i = longer_line (ls i) (ms i) (ns i) (line i a.past) (line i b.past) (longer.either i) (entries_of_length _ _ (longer.first i)) (entries_of_length _ _ (longer.second i)) (la i) (lb i)
        (line i j.past) (j.longer_one i) (length_begins _ _ (j.first i)) (length_begins _ _ (j.second i))

    first : (i : ℕ) → ns i ≡ ls i → line i j.past ≡ line i a.past
    first i e = all_begins (line i a.past) (line i j.past) (j.first i) (let l = lengths i in let m = ap length e in let n = la i in omega (arith, l, m, n))

    second : (i : ℕ) → ns i ≡ ms i → line i j.past ≡ line i b.past
    second i e = all_begins (line i b.past) (line i j.past) (j.second i) (let l = lengths i in let m = ap length e in let n = lb i in omega (arith, l, m, n))

    same : (i : ℕ) → ns i ≡ all_shown (line i j.past)
    same i = ⊎_elim
        (λ (e : ns i ≡ ls i). e ∙ (a.same i ∙ ap all_shown (sym (all_begins (line i a.past) (line i j.past)
        (j.first i) (let l = lengths i in let m = ap length e in let n = la i in omega (arith, l, m, n))))))
        (λ (e : ns i ≡ ms i). e ∙ (b.same i ∙ ap all_shown (sym (all_begins (line i b.past) (line i j.past)
        (j.second i) (let l = lengths i in let m = ap length e in let n = lb i in omega (arith, l, m, n))))))
        (longer.either i)

pub lines_give_parts : LinesGiveParts
lines_give_parts a b = record {
  managed = same_managed a b;
  peer = same_peer a b;
  stand = λ e. (same_control 0 a b e).stand refl;
  doing = λ t e. ap (λ o. elim o [ None ↦ free | Some d ↦ d ]) (same_control t a b e).doing;
  last = λ t e. (same_control (caller_place t) a b e).last;
}

-- of two beginnings of one line that are equally long
pub equal_begins : (xs ys zs : List Noted) → IsPrefix xs zs → IsPrefix ys zs → length xs ≡ length ys → xs ≡ ys
equal_begins xs ys zs p q e = prefix_anti xs ys (shorter_begins xs ys zs p q (omega (arith, e))) (shorter_begins ys xs zs q p (omega (arith, e)))

-- two pasts of one run of entries are pasts of one run of notes, and are told alike
pub record OneRun (a b : List Noted) : Type 0 where
  pub run : List Noted
  pub first : Within run a
  pub second : Within run b
  pub alike : AreAlike a b

pub one_run : (whole : List Kept) (ls ms : ℕ → List Kept) (a : AreKnown ls) (b : AreKnown ms) → NumberedFrom 0 (entries_kept whole) → Begin whole ls → Begin whole ms → OneRun a.past b.past
one_run whole ls ms a b numbered wa wb =
    let w : List Noted = map untold whole in
    let runs = runs_untold 0 whole numbered in
    let ia = within_by whole ls a wa in
    let ib = within_by whole ms b wb in
    let agree = pasts_agree w a.past b.past runs a.lawful b.lawful ia ib in
    record {
      run = map (tell a.past b.past) w;
      first = within_told w runs a.past b.past a.past ia ib ia (self_a w runs a.past b.past a.lawful);
      second = within_told w runs a.past b.past b.past ia ib ib (self_b w runs a.past b.past b.lawful agree);
      alike = agree;
    }

pub dead_part_is_frozen : DeadPartStays
dead_part_is_frozen whole ls ms a b numbered wa wb e =
    let r = one_run whole ls ms a b numbered wa wb in
    let n = sym (length_shown (line driver_line a.past)) ∙ (ap length (sym (a.same driver_line) ∙ (e ∙ b.same driver_line)) ∙ length_shown (line driver_line b.past)) in
    same_dead_part r.run a.past b.past a.lawful b.lawful r.first r.second
    (equal_begins (line driver_line a.past) (line driver_line b.past) (of_line driver_line r.run) (r.first driver_line) (r.second driver_line) n)
