-- Thread by thread: a line of another thread is none of this thread's, a line of its own stands behind its others with
-- its entries, and what each thread holds of its lines is what the script's history holds, since of each thread the
-- history has just its caller's own entries.
use Rattle.std.proofs.Common.{◌≡◌, ⊎_elim, ℕ, ◌+◌, true, List, [], ◌∷◌, ◌++◌, length, Some, refl, sym, ◌∙◌, ap, subst, arith}
use Rattle.std.specs.Prelude.{if◌then◌else◌, slice_get, take}
use Rattle.std.proofs.lemmas.List.{append-nil, length-take-le, take_all, take_more}
use Rattle.std.proofs.lemmas.List.Elements.{All-contains}
use Rattle.std.proofs.lemmas.Option.{get_or_from_slice_get, slice_get_within}
use Rattle.joint_machine.specs.declared.names.Thread.{Thread}
use Rattle.joint_machine.specs.declared.names.Thread.TheVariants.{M, P, C}
use Rattle.joint_machine.specs.declared.lines.Act.{Act}
use Rattle.joint_machine.specs.declared.events.Entry.{Entry}
use Rattle.joint_machine.specs.PeerReplay.{is_thread}
use Rattle.joint_machine.proofs.Members.{Contains-map_cases}
use Rattle.joint_machine.proofs.Deciding.{nat_eq-turned}
use Rattle.joint_machine.proofs.HeapLemmas.{thread_itself}
use Rattle.known_laws.specs.Lists.{made_by}
use Rattle.joint_history.specs.Callers.{Pass, own}
use Rattle.joint_history.specs.Ending.{HasOwn}
use Rattle.script_laws.specs.Holding.{opening_standing, standing_after, HoldsLines, numbered_from, lines_of, entries_by}
use Rattle.script_laws.specs.SoFar.{HoldsSoFar}
use Rattle.script_laws.proofs.AllThreads.{each_thread_is_all}
use Rattle.script_laws.proofs.Growing.{held_lines_grow, held_lines_end, lines_of_go_on, numbers_go_on}
use Rattle.run_laws.specs.Threads.{thread_lines, HoldsItsLines, OthersLinesPass, OwnLinesAdd, OwnLinesEnd, ThreadsHoldScript}

-- the first n lines with the next one
next-line : (script : List (Thread × Act)) (n : ℕ) (line : Thread × Act) → slice_get script n ≡ Some line → take (n + 1) script ≡ take n script ++ line ∷ []
next-line script n line e = take_more script n line (slice_get_within script n line e) ∙ ap (λ z. take n script ++ z ∷ []) (get_or_from_slice_get script n line line e)

pub numbered-next : (script : List (Thread × Act)) (n : ℕ) (line : Thread × Act) → slice_get script n ≡ Some line
    → numbered_from 1 (take (n + 1) script) ≡ numbered_from 1 (take n script) ++ (n + 1, line) ∷ []
numbered-next script n line e =
    ap (numbered_from 1) (next-line script n line e)
    ∙ (numbers_go_on 1 (take n script) line
    ∙ ap (λ k. numbered_from 1 (take n script) ++ (k, line) ∷ []) (let l = slice_get_within script n line e in let m = length-take-le n script (omega (arith, l)) in omega (arith, m)))

-- the lines of a thread among them
pub lines-next : (t : Thread) (script : List (Thread × Act)) (n : ℕ) (line : Thread × Act) → slice_get script n ≡ Some line
    → thread_lines t (take (n + 1) script) ≡ thread_lines t (take n script) ++ (if is_thread t line.0 then (n + 1, line) ∷ [] else [])
lines-next t script n line e = ap (lines_of t) (numbered-next script n line e) ∙ lines_of_go_on t (numbered_from 1 (take n script)) ((n + 1, line) ∷ [])

pub others_lines_pass : OthersLinesPass
others_lines_pass script n p s line e other h =
    subst (λ lines. HoldsSoFar opening_standing lines (own p) s)
    (sym (lines-next p.thread script n line e ∙ (ap (λ b. thread_lines p.thread (take n script) ++ (if b then (n + 1, line) ∷ [] else [])) other ∙ append-nil (thread_lines p.thread (take n script)))))
    h

pub own_lines_add : OwnLinesAdd
own_lines_add script n p q s line es e same thread more line_is h =
    let its = thread_lines p.thread (take n script) in
    let is : is_thread p.thread line.0 ≡ true = ap (is_thread p.thread) same ∙ thread_itself p.thread in
    let lines : thread_lines p.thread (take (n + 1) script) ≡ its ++ (n + 1, line) ∷ [] = lines-next p.thread script n line e ∙ ap (λ b. its ++ (if b then (n + 1, line) ∷ [] else [])) is in
    let grown = held_lines_grow opening_standing s its (own p) h (n + 1, line) es line_is in
    subst (λ t. HoldsSoFar opening_standing (thread_lines t (take (n + 1) script)) (own q) (standing_after s (n + 1) line.1 es)) (sym thread)
    (subst (λ l. HoldsSoFar opening_standing l (own q) (standing_after s (n + 1) line.1 es)) (sym lines)
    (subst (λ o. HoldsSoFar opening_standing (its ++ (n + 1, line) ∷ []) o (standing_after s (n + 1) line.1 es)) (sym more) grown))

pub own_lines_end : OwnLinesEnd
own_lines_end script p q s left thread more are h =
    let whole : take (length script) script ≡ script = take_all (length script) script (omega arith) in
    let held = subst (λ l. HoldsSoFar opening_standing (thread_lines p.thread l) (own p) s) whole h in
    subst (λ t. HoldsLines opening_standing (thread_lines t script) (own q)) (sym thread)
    (subst (HoldsLines opening_standing (thread_lines p.thread script)) (sym more) (held_lines_end opening_standing s (thread_lines p.thread script) (own p) held left are))

-- whether one is the other, from either side
pub is-either : (t u : Thread) → is_thread t u ≡ is_thread u t
is-either (M a) (M b) = nat_eq-turned a b
is-either (M a) (P b) = refl
is-either (M a) C = refl
is-either (P a) (M b) = refl
is-either (P a) (P b) = nat_eq-turned a b
is-either (P a) C = refl
is-either C (M b) = refl
is-either C (P b) = refl
is-either C C = refl

pub made_is_by : (t : Thread) (es : List Entry) → made_by t es ≡ entries_by t es
made_is_by t [] = refl
made_is_by t (e ∷ es) =
    ap (λ b. if b then e ∷ made_by t es else made_by t es) (is-either e.made.caller t)
    ∙ ap (λ l. if is_thread t e.made.caller then e ∷ l else l) (made_is_by t es)

pub threads_hold_script : ThreadsHoldScript
threads_hold_script script h d callers k lawful all owns none held left = each_thread_is_all script h k.noted k.linked lawful (λ t is. ⊎_elim
    (λ waits.
    subst (λ l. HoldsLines opening_standing l (entries_by t h.entries)) (sym (left t is waits))
    (subst (HoldsLines opening_standing []) (sym (sym (made_is_by t h.entries) ∙ none t is waits)) (record { places = tt; events = refl })))
    (λ given.
    let w = Contains-map_cases (λ (p : Pass). p.thread) callers t given in
    let own_is = All-contains (HasOwn h.entries) callers w.0 owns w.1 in
    let lines = All-contains (HoldsItsLines script) callers w.0 held w.1 in
    subst (λ u. HoldsLines opening_standing (thread_lines u script) (entries_by u h.entries)) w.2
    (subst (HoldsLines opening_standing (thread_lines w.0.thread script)) (sym own_is ∙ made_is_by w.0.thread h.entries) lines))
    (all t is))
