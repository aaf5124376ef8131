-- Whose last entry is a snapshot has its cycle open: no entry of another caller moves the driver.
use Rattle.std.proofs.Common.{◌≡◌, ⊎_elim, ℕ, true, false, List, [], ◌∷◌, ◌++◌, length, Some, refl, sym, ap, ◌∙◌, subst, arith, length-append, true≢false}
use Rattle.std.proofs.lemmas.Bool.{cases_Bool}
use Rattle.joint_machine.specs.declared.names.Cycle.{Cycle}
use Rattle.joint_machine.specs.declared.names.Thread.{Thread}
use Rattle.joint_machine.specs.declared.names.Thread.TheVariants.{M, P, C}
use Rattle.joint_machine.specs.declared.events.Entry.{Entry}
use Rattle.joint_machine.specs.declared.events.Op.{Op}
use Rattle.joint_machine.specs.declared.events.Op.TheVariants as op
use Rattle.joint_machine.specs.declared.events.Reply.{Reply}
use Rattle.joint_machine.specs.Control.{Control, control_after}
use Rattle.joint_machine.specs.HistoryLines.{caller_line}
use Rattle.joint_machine.specs.Lines.{IsEvent}
use Rattle.joint_machine.specs.Told.{Told, Noted}
use Rattle.joint_machine.specs.PinsTold.{bare_told}
use Rattle.known_laws.specs.Facts.{opened_of}
use Rattle.known_laws.specs.PastEntries.{entries}
use Rattle.known_laws.specs.Pasts.{Lawful, driver_line, end_of, is_in, line}
use Rattle.known_laws.proofs.Coming.{event_of}
use Rattle.known_laws.proofs.Growing.{entries_append}
use Rattle.known_laws.proofs.PastLines.{in_own, line_in, line_out}
use Rattle.listing_laws.specs.Laws.{LastSnapIsOpen}

-- the cycle that a snapshot leaves open
snap_opens : (c : Control) (t : Thread) (number index : ℕ) (k : Cycle) (reply : Reply) (told : Told) → IsEvent t (op.Snap k)
    → opened_of (control_after c t number index (op.Snap k) reply told).stand ≡ Some record { cycle = k.0; snap = number }
snap_opens c C number index k reply told e = refl
snap_opens c (M n) number index k reply told e = absurd e
snap_opens c (P n) number index k reply told e = absurd e

pub snapped_at : (x : Noted) (h : List Noted) (k : Cycle) → Lawful (x ∷ h) → x.entry.made.op ≡ op.Snap k
    → opened_of (end_of (x ∷ h)).control.stand ≡ Some record { cycle = k.0; snap = x.entry.number }
snapped_at x h k l is =
    let m = x.entry.made in
    subst (λ (o : Op). opened_of (control_after (end_of h).control m.caller x.entry.number m.index o m.reply (bare_told x.told)).stand ≡ Some record { cycle = k.0; snap = x.entry.number }) (sym is)
    (snap_opens (end_of h).control m.caller x.entry.number m.index k m.reply (bare_told x.told) (subst (IsEvent m.caller) is (event_of x h l)))

-- an entry of another caller
others_stay : (c : Control) (t : Thread) (number index : ℕ) (o : Op) (reply : Reply) (told : Told) → (t ≡ C → ⊥) → (control_after c t number index o reply told).stand ≡ c.stand
others_stay c C number index o reply told n = absurd (n refl)
others_stay c (M t) number index o reply told n = refl
others_stay c (P t) number index o reply told n = refl

-- the last of two equal lists
abbrev last_of : Entry → List Entry → Entry
last_of d [] = d
last_of d (e ∷ es) = last_of e es

last_is : (d : Entry) (es : List Entry) (e : Entry) → last_of d (es ++ e ∷ []) ≡ e
last_is d [] e = refl
last_is d (x ∷ es) e = last_is x es e

last_one : (es fs : List Entry) (e f : Entry) → es ++ e ∷ [] ≡ fs ++ f ∷ [] → e ≡ f
last_one es fs e f q = sym (last_is e es e) ∙ (ap (last_of e) q ∙ last_is e fs f)

-- the driver's entry, and another one's, behind a past
module _ (x : Noted) (h : List Noted) (l : Lawful (x ∷ h)) (before : List Entry) (e : Entry) (k : Cycle)
    (same : entries (line driver_line (x ∷ h)) ≡ before ++ e ∷ []) (is : e.made.op ≡ op.Snap k) where
  abbrev IsOpenAfter : List Noted → Type 0
  IsOpenAfter past = opened_of (end_of past).control.stand ≡ Some record { cycle = k.0; snap = e.number }

  by_own : is_in driver_line x ≡ true → IsOpenAfter (x ∷ h)
  by_own q =
      let one : x.entry ≡ e = last_one (entries (line driver_line h)) before x.entry e (sym (entries_append (line driver_line h) (x ∷ [])) ∙ (sym (ap entries (line_in driver_line x h q)) ∙ same)) in
      snapped_at x h k l (ap (λ (z : Entry). z.made.op) one ∙ is) ∙ ap (λ (z : Entry). Some record { cycle = k.0; snap = z.number }) one

  by_other : is_in driver_line x ≡ false → (entries (line driver_line h) ≡ before ++ e ∷ [] → IsOpenAfter h) → IsOpenAfter (x ∷ h)
  by_other q more =
      let other : x.entry.made.caller ≡ C → ⊥ = λ c. true≢false (sym (subst (λ t. is_in (caller_line t) x ≡ true) c (in_own x)) ∙ q) in
      ap opened_of (others_stay (end_of h).control x.entry.made.caller x.entry.number x.entry.made.index x.entry.made.op x.entry.made.reply (bare_told x.told) other)
      ∙ more (sym (ap entries (line_out driver_line x h q)) ∙ same)

pub last_snap_is_open : LastSnapIsOpen
last_snap_is_open [] before e k l same is = absurd (let n = ap length same in let m = length-append before (e ∷ []) in omega (arith, n, m))
last_snap_is_open (x ∷ h) before e k l same is = ⊎_elim
    (λ (q : is_in driver_line x ≡ true). by_own x h l before e k same is q)
    (λ (q : is_in driver_line x ≡ false). by_other x h l before e k same is q (λ rest. last_snap_is_open h before e k l.1 rest is))
    (cases_Bool (is_in driver_line x))
