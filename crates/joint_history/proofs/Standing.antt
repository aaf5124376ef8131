-- Where a caller stands after its entry: the lists of the control have a place for each thread, and the entry fills it.
use Rattle.std.proofs.Common.{◌≡◌, ℕ, zero, suc, ◌+◌, ◌<◌, List, [], ◌∷◌, length, refl, sym, ap, ◌∙◌, subst, arith, Some, None}
use Rattle.std.specs.Prelude.{slice_set, slice_index}
use Rattle.std.proofs.lemmas.List.{length-set}
use Rattle.joint_machine.proofs.Joining.{slice_get-set_same}
use Rattle.joint_machine.specs.declared.names.Thread.{Thread}
use Rattle.joint_machine.specs.declared.names.Thread.TheVariants.{M, P, C}
use Rattle.joint_machine.specs.declared.events.Entry.{Entry}
use Rattle.joint_machine.specs.declared.events.Op.{Op}
use Rattle.joint_machine.specs.declared.events.Reply.{Reply}
use Rattle.joint_machine.specs.Control.{Control, Doing, free, control_after, doing_after, last_line}
use Rattle.joint_machine.specs.Lines.{IsThread}
use Rattle.joint_machine.specs.Told.{Told, Noted}
use Rattle.joint_machine.specs.PinsTold.{bare_told}
use Rattle.known_laws.specs.Pasts.{end_of}
use Rattle.joint_history.specs.Locked.{doing_of, doing_from}

-- the lists have so many places
pub record Widths (c : Control) : Type 0 where
  pub doings : length c.doing ≡ 9
  pub lines : length c.lines ≡ 17

pub index_set : (xs : List ℕ) (i x : ℕ) → i < length xs → slice_index (slice_set xs i x) i ≡ x
index_set [] i x l = absurd (omega arith)
index_set (y ∷ xs) zero x l = refl
index_set (y ∷ xs) (suc i) x l = index_set xs i x (omega arith)

widths_after : (c : Control) (t : Thread) (n line : ℕ) (o : Op) (reply : Reply) (told : Told) → Widths c → Widths (control_after c t n line o reply told)
widths_after c (M u) n line o reply told w = record { doings = length-set c.doing u _ ∙ w.doings; lines = length-set c.lines u line ∙ w.lines }
widths_after c (P u) n line o reply told w = record { doings = w.doings; lines = length-set c.lines (8 + u) line ∙ w.lines }
widths_after c C n line o reply told w = record { doings = w.doings; lines = length-set c.lines 0 line ∙ w.lines }

pub widths : (h : List Noted) → Widths (end_of h).control
widths [] = record { doings = refl; lines = refl }
widths (x ∷ h) = widths_after (end_of h).control x.entry.made.caller x.entry.number x.entry.made.index x.entry.made.op x.entry.made.reply (bare_told x.told) (widths h)

-- the line of its last entry, and what it is in the midst of
pub last_after : (c : Control) (t : Thread) (n line : ℕ) (o : Op) (reply : Reply) (told : Told) → Widths c → IsThread t → last_line (control_after c t n line o reply told) t ≡ line
last_after c (M u) n line o reply told w is = index_set c.lines u line (let l = w.lines in let b = is.1 in omega arith)
last_after c (P u) n line o reply told w is = index_set c.lines (8 + u) line (let l = w.lines in let b = is.1 in omega arith)
last_after c C n line o reply told w is = index_set c.lines 0 line (let l = w.lines in omega arith)

pub doing_put : (c : Control) (t : Thread) (n line : ℕ) (o : Op) (reply : Reply) (told : Told) (e : Entry)
    → doing_from t e ≡ doing_from t (record { number = n; made = record { caller = t; index = line; op = o; reply = reply; cites = None } }) → Widths c → IsThread t
    → doing_of t (control_after c t n line o reply told) ≡ doing_from t e
doing_put c (M u) n line o reply told e same w is =
    ap (λ z. elim z as (λ x. Doing) [ None ↦ free | Some d ↦ d ]) (slice_get-set_same c.doing u (doing_after n line o reply) (let l = w.doings in let b = is.1 in omega arith)) ∙ sym same
doing_put c (P u) n line o reply told e same w is = refl
doing_put c C n line o reply told e same w is = refl

-- after an entry of its own
pub last_of_own : (h : List Noted) (x : Noted) (t : Thread) → x.entry.made.caller ≡ t → IsThread t → last_line (end_of (x ∷ h)).control t ≡ x.entry.made.index
last_of_own h x t e is =
    subst (λ u. last_line (control_after (end_of h).control u x.entry.number x.entry.made.index x.entry.made.op x.entry.made.reply (bare_told x.told)) t ≡ x.entry.made.index) (sym e)
    (last_after (end_of h).control t x.entry.number x.entry.made.index x.entry.made.op x.entry.made.reply (bare_told x.told) (widths h) is)

pub doing_of_own : (h : List Noted) (x : Noted) (t : Thread) → x.entry.made.caller ≡ t → IsThread t → doing_of t (end_of (x ∷ h)).control ≡ doing_from t x.entry
doing_of_own h x t e is =
    subst (λ u. doing_of t (control_after (end_of h).control u x.entry.number x.entry.made.index x.entry.made.op x.entry.made.reply (bare_told x.told)) ≡ doing_from t x.entry) (sym e)
    (doing_put (end_of h).control t x.entry.number x.entry.made.index x.entry.made.op x.entry.made.reply (bare_told x.told) x.entry (same t) (widths h) is)
  where
    same : (u : Thread) → doing_from u x.entry ≡ doing_from u (record {
      number = x.entry.number;
      made = record { caller = u; index = x.entry.made.index; op = x.entry.made.op; reply = x.entry.made.reply; cites = None };
    })
    same (M v) = refl
    same (P v) = refl
    same C = refl
