-- Lines that were read one after another: one more may stand behind them, each is an entry's line, and there are no
-- more than bytes.
use Rattle.std.proofs.Common.{◌≡◌, ℕ, ◌+◌, List, [], ◌∷◌, ◌++◌, length, refl, ap, ◌∙◌, subst, arith, append_assoc}
use Rattle.joint_machine.specs.declared.events.Entry.{Entry}
use Rattle.entry_reader.specs.Meaning.{Lists}
use Rattle.entry_reader.specs.Tailing.{ReadsEntry}
use Rattle.report_reader.specs.Faults.{AreEntryLines, closed_lines}
use Rattle.report_reader.specs.Steps.{ReadsLines}

pub lines_push : (n : ℕ) (l : Lists) (es : List Entry) (text : List ℕ) (m : Lists) (line : List ℕ) (m' : Lists) (e : Entry)
    → ReadsLines n l es text m → ReadsEntry line (n + length es) m m' e → ReadsLines n l (es ++ e ∷ []) (text ++ (line ++ 10 ∷ [])) m'
lines_push n l [] text m line m' e r w =
    let F : Lists → ℕ → Type 0 = λ z k. ReadsEntry line k z m' e in
    let number : n + 0 ≡ n = omega arith in
    (line, [], m', ap (λ z. z ++ (line ++ 10 ∷ [])) r.0, subst (λ (k : ℕ). F l k) number (subst (λ (z : Lists). F z (n + 0)) r.1 w), (refl, refl))
lines_push n l (x ∷ es) text m line m' e r w =
    let number : n + length (x ∷ es) ≡ (n + 1) + length es = omega arith in
    let w' = subst (λ (k : ℕ). ReadsEntry line k m m' e) number w in
    let cut : text ++ (line ++ 10 ∷ []) ≡ r.0 ++ (10 ∷ (r.1 ++ (line ++ 10 ∷ []))) = ap (λ z. z ++ (line ++ 10 ∷ [])) r.3 ∙ append_assoc r.0 (10 ∷ r.1) (line ++ 10 ∷ []) in
    (r.0, r.1 ++ (line ++ 10 ∷ []), r.2, cut, r.4, lines_push (n + 1) r.2 es r.1 m line m' e r.5 w')

-- they are lines of entries
pub record EntryLines (n : ℕ) (es : List Entry) (text : List ℕ) : Type 0 where
  pub texts : List (List ℕ)
  pub lines : AreEntryLines n texts
  pub whole : text ≡ closed_lines texts
  pub count : length texts ≡ length es

pub entry_lines : (n : ℕ) (l : Lists) (es : List Entry) (text : List ℕ) (m : Lists) → ReadsLines n l es text m → EntryLines n es text
entry_lines n l [] text m r = record { texts = []; lines = tt; whole = r.0; count = refl }
entry_lines n l (x ∷ es) text m r =
    let k = entry_lines (n + 1) r.2 es r.1 m r.5 in
    record {
      texts = r.0 ∷ k.texts;
      lines = (record { entry = x; numbers = r.4.numbers; same = r.4.same; line = r.4.line }, k.lines);
      whole = r.3 ∙ ap (λ z. r.0 ++ (10 ∷ z)) k.whole;
      count = (let c = k.count in omega arith);
    }
