-- A caller that no script can have makes no entry of a linked history and has no line of a script. So what is held of
-- each thread that a script can have is held of all.
use Rattle.std.proofs.Common.{◌≡◌, ◌⊎◌, inl, inr, ⊎_elim, ℕ, ◌+◌, ◌≤◌, ◌<◌, true, false, List, [], ◌∷◌, Option, refl, sym, ◌∙◌, ap, subst, arith}
use Rattle.std.specs.Prelude.{Contains, if◌then◌else◌}
use Rattle.std.proofs.lemmas.Bool.{cases_Bool, cases_lt}
use Rattle.joint_machine.specs.declared.names.Thread.{Thread}
use Rattle.joint_machine.specs.declared.names.Thread.TheVariants.{M, P, C}
use Rattle.joint_machine.specs.declared.lines.Act.{Act}
use Rattle.joint_machine.specs.Lines.{IsLine, IsThread, is_read}
use Rattle.joint_machine.specs.Linked.{Linkage, opening_linkage}
use Rattle.joint_machine.specs.LinkedHistories.{managed_end}
use Rattle.joint_machine.specs.Readers.{AllMayComeReading, entry_after}
use Rattle.joint_machine.specs.PeerReplay.{is_thread}
use Rattle.joint_machine.specs.Told.{Noted}
use Rattle.joint_machine.proofs.Members.{Contains-here, Contains-there}
use Rattle.bridge_script.proofs.Fitting.{lawful_thread}
use Rattle.joint_laws.proofs.FittingLists.{event-of}
use Rattle.known_laws.specs.PastEntries.{entries}
use Rattle.script_laws.specs.Holding.{opening_standing, HoldsLines, numbered_from, lines_of, entries_by}
use Rattle.script_laws.specs.Growing.{EachThreadIsAll}
use Rattle.known_laws.proofs.Lists.{event-thread}
use Rattle.joint_machine.proofs.HeapLemmas.{same_thread}

-- whether a thread is one that a script can have
numbered : (n : ℕ) → ((1 ≤ n) × (n ≤ 8)) ⊎ ((1 ≤ n) × (n ≤ 8) → ⊥)
numbered n = ⊎_elim
    (λ (l : 0 < n). ⊎_elim (λ (m : 8 < n). inr (λ w. let b = w.1 in omega (arith, m, b))) (λ (m : n ≤ 8). inl (omega (arith, l), m)) (cases_lt 8 n))
    (λ (l : n ≤ 0). inr (λ w. let a = w.0 in omega (arith, l, a)))
    (cases_lt 0 n)

pub is_one : (t : Thread) → IsThread t ⊎ (IsThread t → ⊥)
is_one (M n) = numbered n
is_one (P n) = numbered n
is_one C = inl tt

-- another thread's is not this one's
not-it : (t u : Thread) → (IsThread t → ⊥) → IsThread u → is_thread t u ≡ false
not-it t u n y = ⊎_elim (λ (e : is_thread t u ≡ true). absurd (n (subst IsThread (sym (same_thread t u e)) y))) (λ (e : is_thread t u ≡ false). e) (cases_Bool (is_thread t u))

pub no-lines : (t : Thread) (k : ℕ) (script : List (Thread × Act)) → (IsThread t → ⊥) → ((line : Thread × Act) → Contains script line → IsLine line.0 line.1) → lines_of t (numbered_from k script) ≡ []
no-lines t k [] n l = refl
no-lines t k (x ∷ script) n l =
    ap (λ b. if b then (k, x) ∷ lines_of t (numbered_from (k + 1) script) else lines_of t (numbered_from (k + 1) script)) (not-it t x.0 n (lawful_thread x.0 x.1 (l x (Contains-here x script))))
    ∙ no-lines t (k + 1) script n (λ line c. l line (Contains-there line x script c))

no-entries : (whole : List Noted) (cells : List (Option ℕ)) (t : Thread) (s : Linkage) (ns : List Noted) → (IsThread t → ⊥) → AllMayComeReading whole cells s ns → entries_by t (entries ns) ≡ []
no-entries whole cells t s [] n a = refl
no-entries whole cells t s (x ∷ ns) n a =
    ap (λ b. if b then x.entry ∷ entries_by t (entries ns) else entries_by t (entries ns))
    (not-it t x.entry.made.caller n (event-thread x.entry.made.caller x.entry.made.op (event-of (is_read x.entry.made.op) whole cells s x a.0)))
    ∙ no-entries whole cells t (entry_after s x) ns n a.1

pub each_thread_is_all : EachThreadIsAll
each_thread_is_all script h noted l lines held t = ⊎_elim
    (held t)
    (λ n.
    let a : lines_of t (numbered_from 1 script) ≡ [] = no-lines t 1 script n lines in
    let b : entries_by t h.entries ≡ [] = ap (entries_by t) (sym l.same) ∙ no-entries noted (managed_end noted).cells t opening_linkage noted n l.lawful in
    subst (λ z. HoldsLines opening_standing z (entries_by t h.entries)) (sym a) (subst (HoldsLines opening_standing []) (sym b) (record { places = tt; events = refl })))
    (is_one t)
