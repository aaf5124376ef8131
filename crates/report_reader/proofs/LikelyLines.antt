-- The two lines that a cycle has for each of its candidates, put together of what stands between their numbers.
use Rattle.std.proofs.Common.{◌≡◌, ℕ, List, [], ◌∷◌, ◌++◌, Some, None, codes, decimal, refl, sym, ap, ◌∙◌, append_assoc}
use Rattle.joint_machine.specs.declared.names.HNum.{HNum}
use Rattle.joint_machine.specs.declared.events.Op.TheVariants as op
use Rattle.joint_machine.specs.declared.events.Reply.TheVariants as reply
use Rattle.joint_machine.specs.declared.events.Entry.{Entry}
use Rattle.bridge_script.proofs.Printed.{spaced_after}
use Rattle.history_report.specs.Report.{cite_words, event_words, place_text}
use Rattle.entry_reader.specs.Saying.{said}
use Rattle.report_reader.specs.Likely.{IsPlaced, IsRestored, IsWeakened, ReadsLikely, driven}

-- a line of the driver with two numbers, and what stands behind it
abbrev line : ℕ → ℕ → ℕ → ℕ → List ℕ → List ℕ → List ℕ → List ℕ
line number index a b w x z = decimal number ++ (codes " c." ++ (decimal index ++ (w ++ (decimal a ++ (x ++ (decimal b ++ z))))))

joined : (number index a b : ℕ) (w x z : List ℕ) → line number index a b w x [] ++ z ≡ line number index a b w x z
joined number index a b w x z =
    let last = append_assoc (decimal b) [] z in
    let four = append_assoc x (decimal b ++ []) z ∙ ap (λ t. x ++ t) last in
    let three = append_assoc (decimal a) (x ++ (decimal b ++ [])) z ∙ ap (λ t. decimal a ++ t) four in
    let two = append_assoc w (decimal a ++ (x ++ (decimal b ++ []))) z ∙ ap (λ t. w ++ t) three in
    let one = append_assoc (decimal index) (w ++ (decimal a ++ (x ++ (decimal b ++ [])))) z ∙ ap (λ t. decimal index ++ t) two in
    append_assoc (decimal number) (codes " c." ++ (decimal index ++ (w ++ (decimal a ++ (x ++ (decimal b ++ [])))))) z ∙ ap (λ t. decimal number ++ (codes " c." ++ t)) one

-- the words of a driver's entry without a list, behind its number
abbrev behind_number : Entry → List (List ℕ)
behind_number e = place_text e.made.caller e.made.index ∷ (event_words e.made.caller e.made.op ++ (codes "=" ∷ (said e.made.reply [] ++ cite_words e.made.cites)))

pub reads_weakened : (bytes rest left : List ℕ) (number index : ℕ) (h : HNum) (cited : ℕ) → IsPlaced bytes number index rest → IsWeakened rest h cited left
    → ReadsLikely bytes number (driven number index (op.Weaken h) reply.Ok (Some cited)) left
reads_weakened bytes rest left number index h cited p w = record {
  text = line number index h.0 cited (codes " weaken h") (codes " = ok @") [];
  cut = p.same
      ∙ (ap (λ t. decimal number ++ (codes " c." ++ (decimal index ++ (codes " " ++ t)))) w.same ∙ sym (joined number index h.0 cited (codes " weaken h") (codes " = ok @") (10 ∷ left)));
  reads = λ l. record {
    numbers = [];
    line = record {
      fits = record { number = p.few; line = p.line; event = w.short; reply = tt; cites = w.few };
      event = tt;
      shown = tt;
      same = sym (spaced_after (decimal number) (behind_number (driven number index (op.Weaken h) reply.Ok (Some cited))));
    };
    same = refl;
    meant = tt;
    begins = tt;
    grows = refl;
  };
}

pub reads_restored : (bytes rest left : List ℕ) (number index : ℕ) (h given : HNum) → IsPlaced bytes number index rest → IsRestored rest h given left
    → ReadsLikely bytes number (driven number index (op.Restore h) (reply.Renewed given) None) left
reads_restored bytes rest left number index h given p w = record {
  text = line number index h.0 given.0 (codes " restore h") (codes " = alive h") [];
  cut = p.same
      ∙ (ap (λ t. decimal number ++ (codes " c." ++ (decimal index ++ (codes " " ++ t)))) w.same ∙ sym (joined number index h.0 given.0 (codes " restore h") (codes " = alive h") (10 ∷ left)));
  reads = λ l. record {
    numbers = [];
    line = record {
      fits = record { number = p.few; line = p.line; event = w.short; reply = w.given_short; cites = tt };
      event = tt;
      shown = tt;
      same = sym (spaced_after (decimal number) (behind_number (driven number index (op.Restore h) (reply.Renewed given) None)));
    };
    same = refl;
    meant = tt;
    begins = tt;
    grows = refl;
  };
}
