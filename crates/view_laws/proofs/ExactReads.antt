-- A read by the owner of the managed list answers as the one machine does: each of the pin, the gate and the cell's
-- word is as the state has it.
use Rattle.std.proofs.Common.{◌≡◌, ℕ, zero, suc, ◌+◌, Bool, true, false, List, Option, Some, None, refl, sym, ap, ◌∙◌, subst, arith}
use Rattle.std.specs.Prelude.{if◌then◌else◌}
use Rattle.joint_machine.specs.Heaps.{slot}
use Rattle.joint_machine.specs.Heaps as heaps
use Rattle.joint_machine.specs.Managed.{Managed, OpenCycle}
use Rattle.joint_machine.specs.Told.{Noted}
use Rattle.joint_machine.proofs.Numbered.{slot-Contains}
use Rattle.known_laws.specs.Held.{open_number, answers_by, gone, object}
use Rattle.known_laws.specs.Held as held
use Rattle.known_laws.specs.Pasts.{end_of}
use Rattle.known_laws.proofs.Held.{reads_are_exact}
use Rattle.known_laws.proofs.Later.{kept_end}
use Rattle.order_table.specs.Owed.{pin, target, is_freed, says_word}
use Rattle.order_table.specs.Owed as owed
use Rattle.order_table.specs.Replies.{object_of}
use Rattle.order_table.specs.Views.{known}
use Rattle.weak_wait.specs.Reads.{got_of, reply_of}
use Rattle.view_laws.specs.ExactReads.{ExactReadsAreReplies}
use Rattle.view_laws.specs.Knowing.{SaysState}
use Rattle.view_laws.proofs.HeldViews.{views_say_states}

pub exact_reads_are_replies : ExactReadsAreReplies
exact_reads_are_replies v a own t c g pins e x = by (pin own) refl ∙ reads_are_exact s t c
  where
    h : List Noted
    h = a.known.past

    s : Managed
    s = record (end_of h).managed.managed { pins = pins }

    st : SaysState v (end_of h).managed.managed
    st = views_say_states v a

    says : (w : ℕ) → says_word (known v 0) c ≡ w → got_of (says_word (known v 0) c) g → got_of w g
    says w f y = subst (λ z. got_of z g) f y

    freed_word : (m : ℕ) → slot s.cells c ≡ Some m → got_of (says_word (known v 0) c) g → (b : Bool) → heaps.is_freed s.heap m ≡ b → reply_of g ≡ answers_by None None (if b then gone else object m)
    freed_word m f y true d = ap reply_of ((says 1 (ap (λ z. owed.word_by z (is_freed (known v 0))) (st.cells c ∙ f) ∙ ap (λ b. if b then 1 else m + 1) (st.freed m ∙ d)) y).1 refl)
    freed_word m f y false d =
        let made = (kept_end h a.known.lawful).managed.managed.cells m (slot-Contains s.cells c m f) in
        ap reply_of ((says (m + 1) (ap (λ z. owed.word_by z (is_freed (known v 0))) (st.cells c ∙ f) ∙ ap (λ b. if b then 1 else m + 1) (st.freed m ∙ d)) y).2 m made.0 refl)

    word : got_of (says_word (known v 0) c) g → (z : Option ℕ) → slot s.cells c ≡ z → reply_of g ≡ answers_by None None (held.word_by s z)
    word y None f = ap reply_of ((says 0 (ap (λ z. owed.word_by z (is_freed (known v 0))) (st.cells c ∙ f)) y).0 refl)
    word y (Some m) f = freed_word m f y (heaps.is_freed s.heap m) refl

    gate : pin own ≡ 0 → (o : Option OpenCycle) → s.cycle ≡ o → reply_of g ≡ answers_by None (open_number o) (held.word_by s (slot s.cells c))
    gate p (Some k) f = ap reply_of (x.pending p k.number (st.opened k f))
    gate p None f = word (x.cell_word p (st.closed f).0) (slot s.cells c) refl

    by : (w : ℕ) → pin own ≡ w → reply_of g ≡ answers_by (slot pins t) (open_number s.cycle) (held.word_by s (slot s.cells c))
    by (suc m) p = subst (λ z. reply_of g ≡ answers_by z (open_number s.cycle) (held.word_by s (slot s.cells c))) (sym (e ∙ ap object_of p)) (ap reply_of (x.held m (omega (arith, p))))
    by zero p = subst (λ z. reply_of g ≡ answers_by z (open_number s.cycle) (held.word_by s (slot s.cells c))) (sym (e ∙ ap object_of p)) (gate p s.cycle refl)
