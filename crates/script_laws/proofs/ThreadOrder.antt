-- Held in line order, lines are held thread by thread. A line's entries are its thread's own, so the entries of a
-- thread are those of its lines, in their order; and only the driver's lines move where the driver stands, so its
-- standing is the same with its own lines alone, and another thread's lines ask for no standing.
use Rattle.std.proofs.Common.{◌≡◌, ℕ, Bool, true, false, List, [], ◌∷◌, ◌++◌, refl, sym, ◌∙◌, ap, subst, true≢false}
use Rattle.std.specs.Prelude.{if◌then◌else◌}
use Rattle.std.proofs.lemmas.List.Elements.{filter-append}
use Rattle.joint_machine.specs.declared.names.Thread.{Thread}
use Rattle.joint_machine.specs.declared.names.Thread.TheVariants.{M, P, C}
use Rattle.joint_machine.specs.declared.lines.Act.{Act}
use Rattle.joint_machine.specs.declared.lines.Act.TheVariants as act
use Rattle.joint_machine.specs.declared.events.Entry.{Entry}
use Rattle.joint_machine.specs.Lines.{IsLine}
use Rattle.joint_machine.specs.PeerReplay.{is_thread}
use Rattle.script_laws.specs.Holding.{Standing, opening_standing, AreEvents, standing_after, AreOnLine, AreLine, AreLeft, HoldsLines, numbered_from, lines_of, entries_by}
use Rattle.script_laws.specs.Laws.{LineOrderGivesThreadOrder}
use Rattle.joint_machine.proofs.HeapLemmas.{same_thread, thread_itself}

-- a thread's entries among those of one line
pub all-by : (number : ℕ) (t : Thread) (es : List Entry) → AreOnLine number t es → entries_by t es ≡ es
all-by number t [] a = refl
all-by number t (e ∷ es) a =
    ap (λ b. if b then e ∷ entries_by t es else entries_by t es) (ap (is_thread t) a.0.caller ∙ thread_itself t) ∙ ap (λ l. e ∷ l) (all-by number t es a.1)

pub none-by : (number : ℕ) (t u : Thread) (es : List Entry) → is_thread t u ≡ false → AreOnLine number u es → entries_by t es ≡ []
none-by number t u [] n a = refl
none-by number t u (e ∷ es) n a =
    ap (λ b. if b then e ∷ entries_by t es else entries_by t es) (ap (is_thread t) a.0.caller ∙ n) ∙ none-by number t u es n a.1

-- where the driver stands by a thread's own lines alone
abbrev Fits : Thread → Standing → Standing → Type 0
Fits C s s' = s ≡ s'
Fits (M n) s s' = s' ≡ opening_standing
Fits (P n) s s' = s' ≡ opening_standing

events-fit : (t : Thread) (a : Act) (s s' : Standing) (es : List Entry) → IsLine t a → Fits t s s' → AreEvents s a es → AreEvents s' a es
events-fit C a s s' es l f e = subst (λ z. AreEvents z a es) f e
events-fit (M n) (act.PhaseLine w) s s' es l f e = absurd l.1
events-fit (P n) (act.PhaseLine w) s s' es l f e = absurd l.1
events-fit t a s s' es l f e = e

own-fit : (t : Thread) (number : ℕ) (a : Act) (s s' : Standing) (es : List Entry) → IsLine t a → Fits t s s' → Fits t (standing_after s number a es) (standing_after s' number a es)
own-fit C number a s s' es l f = ap (λ z. standing_after z number a es) f
own-fit (M n) number (act.PhaseLine w) s s' es l f = absurd l.1
own-fit (P n) number (act.PhaseLine w) s s' es l f = absurd l.1
own-fit (M n) number (act.Finalise k) s s' es l f = absurd l.1
own-fit (P n) number (act.Finalise k) s s' es l f = absurd l.1
own-fit (M n) number a s s' es l f = f
own-fit (P n) number a s s' es l f = f

-- another thread's line leaves it
stays : (u : Thread) (number : ℕ) (a : Act) (s : Standing) (es : List Entry) → is_thread C u ≡ false → IsLine u a → standing_after s number a es ≡ s
stays C number a s es n l = absurd (true≢false n)
stays (M k) number (act.PhaseLine w) s es n l = absurd l.1
stays (P k) number (act.PhaseLine w) s es n l = absurd l.1
stays (M k) number (act.Finalise m) s es n l = absurd l.1
stays (P k) number (act.Finalise m) s es n l = absurd l.1
stays u number a s es n l = refl

other-fit : (t u : Thread) (number : ℕ) (a : Act) (s s' : Standing) (es : List Entry) → is_thread t u ≡ false → IsLine u a → Fits t s s' → Fits t (standing_after s number a es) s'
other-fit C u number a s s' es n l f = stays u number a s es n l ∙ f
other-fit (M k) u number a s s' es n l f = f
other-fit (P k) u number a s s' es n l f = f

left-fit : (t : Thread) (s s' : Standing) (es : List Entry) → Fits t s s' → AreLeft s es → AreLeft s' (entries_by t es)
left-fit C s s' es f a = subst (AreLeft s') (sym (all-by s.line C es a.places)) (subst (λ z. AreLeft z es) f a)
left-fit (M k) s s' es f a = subst (λ z. AreLeft z (entries_by (M k) es)) (sym f)
    (subst (AreLeft opening_standing) (sym (none-by s.line (M k) C es refl a.places)) (record { places = tt; events = refl }))
left-fit (P k) s s' es f a = subst (λ z. AreLeft z (entries_by (P k) es)) (sym f)
    (subst (AreLeft opening_standing) (sym (none-by s.line (P k) C es refl a.places)) (record { places = tt; events = refl }))

own-line : (s s' : Standing) (number : ℕ) (t : Thread) (a : Act) (es : List Entry) → Fits t s s' → AreLine s number (t, a) es → AreLine s' number (t, a) es
own-line s s' number t a es f l = record { lawful = l.lawful; places = l.places; events = events-fit t a s s' es l.lawful f l.events }

-- one line of either kind before the others, of whose lines it is known
one-line : (b : Bool) (t : Thread) (line : ℕ × (Thread × Act)) (lines : List (ℕ × (Thread × Act))) (s s' : Standing) (own rest : List Entry)
    → is_thread t line.1.0 ≡ b → Fits t s s' → AreLine s line.0 line.1 own
    → ((z : Standing) → Fits t (standing_after s line.0 line.1.1 own) z → HoldsLines z (lines_of t lines) (entries_by t rest))
    → HoldsLines s' (if b then line ∷ lines_of t lines else lines_of t lines) (entries_by t own ++ entries_by t rest)
one-line true t line lines s s' own rest e f l more =
    let same : t ≡ line.1.0 = same_thread t line.1.0 e in
    let g : Fits line.1.0 s s' = subst (λ u. Fits u s s') same f in
    let after : Fits t (standing_after s line.0 line.1.1 own) (standing_after s' line.0 line.1.1 own) = subst
    (λ u. Fits u (standing_after s line.0 line.1.1 own) (standing_after s' line.0 line.1.1 own)) (sym same) (own-fit line.1.0 line.0 line.1.1 s s' own l.lawful g) in
    let mine : entries_by t own ≡ own = ap (λ u. entries_by u own) same ∙ all-by line.0 line.1.0 own l.places in
    (own, entries_by t rest, ap (λ z. z ++ entries_by t rest) mine, own-line s s' line.0 line.1.0 line.1.1 own g l, more (standing_after s' line.0 line.1.1 own) after)
one-line false t line lines s s' own rest e f l more =
    subst (λ z. HoldsLines s' (lines_of t lines) (z ++ entries_by t rest)) (sym (none-by line.0 t line.1.0 own e l.places)) (more s' (other-fit t line.1.0 line.0 line.1.1 s s' own e l.lawful f))

thread-lines : (t : Thread) (lines : List (ℕ × (Thread × Act))) (s s' : Standing) (es : List Entry) → Fits t s s' → HoldsLines s lines es → HoldsLines s' (lines_of t lines) (entries_by t es)
thread-lines t [] s s' es f h = left-fit t s s' es f h
thread-lines t (line ∷ lines) s s' es f h =
    let split : entries_by t es ≡ entries_by t h.0 ++ entries_by t h.1 = ap (entries_by t) h.2 ∙ filter-append (λ e. is_thread t e.made.caller) h.0 h.1 in
    subst (HoldsLines s' (lines_of t (line ∷ lines))) (sym split)
    (one-line (is_thread t line.1.0) t line lines s s' h.0 h.1 refl f h.3 (λ z g. thread-lines t lines (standing_after s line.0 line.1.1 h.0) z h.1 g h.4))

opening-fits : (t : Thread) → Fits t opening_standing opening_standing
opening-fits C = refl
opening-fits (M n) = refl
opening-fits (P n) = refl

pub line_order_gives_thread_order : LineOrderGivesThreadOrder
line_order_gives_thread_order script es h t = thread-lines t (numbered_from 1 script) opening_standing opening_standing es (opening-fits t) h
