-- Lines come to be held one after another: a further line's entries stand behind all others, and what is left open at
-- the end behind those. Each is an induction over the lines. And lists of the same entries whose numbers rise have one
-- first entry, and then one rest.
use Rattle.std.proofs.Common.{◌≡◌, ⊎_elim, ◌+◌, ◌<◌, List, [], ◌∷◌, ◌++◌, length, refl, sym, ◌∙◌, ap, subst, arith, append_assoc}
use Rattle.std.specs.Prelude.{Contains}
use Rattle.std.proofs.lemmas.List.{append-nil}
use Rattle.std.proofs.lemmas.List.Elements.{All-contains, filter-append}
use Rattle.joint_machine.specs.declared.names.Thread.{Thread}
use Rattle.joint_machine.specs.declared.names.Phase.{Phase}
use Rattle.joint_machine.specs.declared.lines.Act.{Act}
use Rattle.joint_machine.specs.declared.events.Entry.{Entry}
use Rattle.joint_machine.specs.Components.{Rises}
use Rattle.joint_machine.specs.PeerReplay.{is_thread}
use Rattle.joint_machine.specs.Phases.{phases_left, ArePhases}
use Rattle.joint_machine.proofs.Members.{Contains-here, Contains-there, Contains-nil, Contains-cons_cases, Contains-map}
use Rattle.script_laws.specs.Holding.{standing_after, AreLine, AreLeft, numbered_from}
use Rattle.script_laws.specs.Growing.{HeldLinesGrow, HeldLinesEnd, IdleLeavesNothing, NumbersGoOn, LinesOfGoOn, numbers_of, RisingEntriesAreOne}

pub held_lines_grow : HeldLinesGrow
held_lines_grow s t [] es h line own a =
    (own, [], ap (λ l. l ++ own) h.0 ∙ sym (append-nil own), subst (λ z. AreLine z line.0 line.1 own) h.1 a, (refl, ap (λ z. standing_after z line.0 line.1.1 own) h.1))
held_lines_grow s t (x ∷ lines) es h line own a =
    (h.0, h.1 ++ own, ap (λ l. l ++ own) h.2 ∙ append_assoc h.0 h.1 own, h.3, held_lines_grow (standing_after s x.0 x.1.1 h.0) t lines h.1 h.4 line own a)

pub held_lines_end : HeldLinesEnd
held_lines_end s t [] es h left a = subst (AreLeft s) (sym (ap (λ l. l ++ left) h.0)) (subst (λ z. AreLeft z left) h.1 a)
held_lines_end s t (x ∷ lines) es h left a =
    (h.0, h.1 ++ left, ap (λ l. l ++ left) h.2 ∙ append_assoc h.0 h.1 left, h.3, held_lines_end (standing_after s x.0 x.1.1 h.0) t lines h.1 h.4 left a)

pub idle_leaves_nothing : IdleLeavesNothing
idle_leaves_nothing t e = record { places = tt; events = subst (λ (p : Phase). ArePhases t.candidates (phases_left p) []) (sym e) refl }

pub numbers_go_on : NumbersGoOn
numbers_go_on n [] line = λ i. (number i, line) ∷ []
  where
    number : n ≡ n + length {A = Thread × Act} []
    number = omega arith
numbers_go_on n (x ∷ script) line = ap (λ l. (n, x) ∷ l) (numbers_go_on (n + 1) script line ∙ ap (λ k. numbered_from (n + 1) script ++ (k, line) ∷ []) number)
  where
    number : (n + 1) + length script ≡ n + length (x ∷ script)
    number = omega arith

pub lines_of_go_on : LinesOfGoOn
lines_of_go_on t xs ys = filter-append (λ line. is_thread t line.1.0) xs ys

-- each entry behind the first has a greater number
pub behind : (x : Entry) (xs : List Entry) → Rises (numbers_of (x ∷ xs)) → (e : Entry) → Contains xs e → x.number < e.number
behind x xs r e c = All-contains (λ y. x.number < y) (numbers_of xs) e.number r.0 (Contains-map (λ (z : Entry). z.number) xs e c)

-- the first of the one list is the first of the other
one-first : (x y : Entry) (xs ys : List Entry) → Rises (numbers_of (x ∷ xs)) → Rises (numbers_of (y ∷ ys)) → Contains (y ∷ ys) x → Contains (x ∷ xs) y → x ≡ y
one-first x y xs ys r q c d = ⊎_elim
    (λ (e : y ≡ x). sym e)
    (λ c'. ⊎_elim
    (λ (e : x ≡ y). e)
    (λ d'. let a = behind y ys q x c' in let b = behind x xs r y d' in absurd (omega (arith, a, b)))
    (Contains-cons_cases x xs y d))
    (Contains-cons_cases y ys x c)

-- and what stands behind it is in the other's rest
rest-in : (x y : Entry) (xs ys : List Entry) → x ≡ y → Rises (numbers_of (x ∷ xs)) → ((e : Entry) → Contains (x ∷ xs) e → Contains (y ∷ ys) e) → (e : Entry) → Contains xs e → Contains ys e
rest-in x y xs ys same r f e c = ⊎_elim
    (λ (s : y ≡ e). let a = behind x xs r e c in let b = ap (λ (z : Entry). z.number) (same ∙ s) in absurd (omega (arith, a, b)))
    (λ d. d)
    (Contains-cons_cases y ys e (f e (Contains-there e x xs c)))

pub rising_entries_are_one : RisingEntriesAreOne
rising_entries_are_one [] [] r q f = refl
rising_entries_are_one [] (y ∷ ys) r q f = absurd (Contains-nil y ((f y).1 (Contains-here y ys)))
rising_entries_are_one (x ∷ xs) [] r q f = absurd (Contains-nil x ((f x).0 (Contains-here x xs)))
rising_entries_are_one (x ∷ xs) (y ∷ ys) r q f =
    let same : x ≡ y = one-first x y xs ys r q ((f x).0 (Contains-here x xs)) ((f y).1 (Contains-here y ys)) in
    let rest : xs ≡ ys = rising_entries_are_one xs ys r.1 q.1 (λ e. (rest-in x y xs ys same r (λ z c. (f z).0 c) e, rest-in y x ys xs (sym same) q (λ z c. (f z).1 c) e)) in
    λ i. same i ∷ rest i
