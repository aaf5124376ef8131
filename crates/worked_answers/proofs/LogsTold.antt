-- A line of a log begins with + or -, and its last line with e: so a line that begins with x is none, and each list of
-- lines that stands before a fault is empty.
use Rattle.std.proofs.Common.{◌≡◌, ◌≢◌, ℕ, zero, suc, ◌+◌, ◌<◌, ◌⊎◌, ◌++◌, ◌∙◌, List, [], ◌∷◌, Some, None, length, nat_eq, if◌then◌else◌, inl, inr, ⊎_elim, refl, sym, ap, subst, arith, All, Bool, true, false}
use Rattle.std.specs.Prelude.{Contains, IsSome, slice_index}
use Rattle.std.proofs.lemmas.Bool.{false≢true}
use Rattle.std.proofs.lemmas.Bool.Decides.{Decides-eqb}
use Rattle.std.proofs.lemmas.List.Elements.{All-cons, All-nil}
use Rattle.joint_machine.proofs.Members.{Contains-nil, Contains-here, Contains-there, Contains-cons_cases}
use Rattle.text_words.specs.Placed.{IsFirstLine}
use Rattle.log_text.specs.declared.lines.LogCause.{LogCause}
use Rattle.log_text.specs.declared.lines.LogCause.TheVariants as cause
use Rattle.log_text.specs.declared.lines.LogLine.{LogLine}
use Rattle.log_text.specs.declared.lines.Mark.{Mark}
use Rattle.log_text.specs.declared.lines.Mark.TheVariants.{GPlus, GMinus, WPlus, WMinus}
use Rattle.log_text.specs.Behind.{behind_all, none_live}
use Rattle.log_text.specs.Faults.{Has, IsLogFault, IsNeither, IsWrongLine}
use Rattle.log_text.specs.Text.{end_text, lines_text, mark_text}
use Rattle.log_text.proofs.LineWords.{neither-line}
use Rattle.worked_answers.specs.Logs.{no_line, two_live, KeysAreTold, LogFaultsAreTold}

-- the first byte; 0 where there is none
abbrev pub first : List ℕ → ℕ
first [] = 0
first (x ∷ xs) = x

-- what begins with a mark doesn't begin with x, and is some byte
mark_first : (m : Mark) (x : List ℕ) → first (mark_text m ++ x) ≡ 120 → ⊥
mark_first GPlus x e = omega (arith, e)
mark_first GMinus x e = omega (arith, e)
mark_first WPlus x e = omega (arith, e)
mark_first WMinus x e = omega (arith, e)

mark_behind : (m : Mark) (x y z : List ℕ) → first (((mark_text m ++ x) ++ y) ++ z) ≡ 120 → ⊥
mark_behind GPlus x y z e = omega (arith, e)
mark_behind GMinus x y z e = omega (arith, e)
mark_behind WPlus x y z e = omega (arith, e)
mark_behind WMinus x y z e = omega (arith, e)

mark_newline : (m : Mark) (x y : List ℕ) → first ((mark_text m ++ x) ++ y) ≡ 120 → ⊥
mark_newline GPlus x y e = omega (arith, e)
mark_newline GMinus x y e = omega (arith, e)
mark_newline WPlus x y e = omega (arith, e)
mark_newline WMinus x y e = omega (arith, e)

mark_line : (m : Mark) (x y : List ℕ) → [] ≡ (mark_text m ++ x) ++ y → ⊥
mark_line GPlus x y e = cc
mark_line GMinus x y e = cc
mark_line WPlus x y e = cc
mark_line WMinus x y e = cc

mark_some : (m : Mark) (x y z : List ℕ) → [] ≡ ((mark_text m ++ x) ++ y) ++ z → ⊥
mark_some GPlus x y z e = cc
mark_some GMinus x y z e = cc
mark_some WPlus x y z e = cc
mark_some WMinus x y z e = cc

neither : IsNeither (120 ∷ [])
neither = neither-line (120 ∷ []) (120 ∷ []) [] refl (λ e. cc) (λ l f e. cc)

-- the text of the first line begins with x
text_first : (text left : List ℕ) (closed : Bool) → IsFirstLine no_line text closed left → first text ≡ 120
text_first [] left true f = let e : 120 ≡ 10 = ap first f.cut in absurd (omega (arith, e))
text_first (t ∷ ts) left true f = sym (ap first f.cut)
text_first text left false f = sym (ap first f.cut.0)

cause_is : (text left : List ℕ) (closed : Bool) (why : LogCause) → first text ≡ 120 → Has none_live 0 text closed why → why ≡ cause.Text
cause_is text left closed cause.Text f h = refl
cause_is text left closed cause.Mark f h = absurd (mark_first h.1.line.mark _ (ap first h.1.same ∙ f))
cause_is text left closed cause.Count f h = absurd (mark_first h.1.line.mark _ (ap first h.1.same ∙ f))
cause_is text left closed cause.End f h = let e : 101 ≡ 120 = ap first h.1.same ∙ f in absurd (omega (arith, e))

wrong_by : (before : List LogLine) (rest text left : List ℕ) (closed : Bool) (number : ℕ) (why : LogCause) → no_line ≡ lines_text before ++ rest → IsFirstLine rest text closed left
    → number ≡ length before + 1 → Has (behind_all none_live before) (length before) text closed why → (number ≡ 1) × (why ≡ cause.Text)
wrong_by [] rest text left closed number why e f n h =
    (omega (arith, n), cause_is text left closed why (text_first text left closed (subst (λ z. IsFirstLine z text closed left) (sym e) f)) h)
wrong_by (l ∷ ls) rest text left closed number why e f n h = absurd (mark_behind l.mark _ _ _ (sym (ap first e)))

goes_by : (before : List LogLine) (left : List ℕ) → no_line ≡ lines_text before ++ (end_text (length before) ++ (10 ∷ left)) → ⊥
goes_by [] left e = let f : 120 ≡ 101 = ap first e in omega (arith, f)
goes_by (l ∷ ls) left e = mark_behind l.mark _ _ _ (sym (ap first e))

lacks_by : (before : List LogLine) → no_line ≡ lines_text before → ⊥
lacks_by [] e = cc
lacks_by (l ∷ ls) e = mark_newline l.mark _ _ (sym (ap first e))

wrong : (number : ℕ) (why : LogCause) → IsWrongLine no_line number why → (number ≡ 1) × (why ≡ cause.Text)
wrong number why w = wrong_by w.before w.rest w.text w.left w.closed number why w.whole w.first w.number_is w.has

alone : (number : ℕ) (why : LogCause) → IsLogFault no_line number why → (number ≡ 1) × (why ≡ cause.Text)
alone number cause.Text f = wrong number cause.Text f
alone number cause.Mark f = wrong number cause.Mark f
alone number cause.Count f = wrong number cause.Count f
alone number cause.End (inl w) = wrong number cause.End w
alone number cause.End (inr (inl g)) = absurd (goes_by g.before g.left g.whole)
alone number cause.End (inr (inr k)) = absurd (lacks_by k.before k.whole)

-- before nothing stands nothing
none_wrong : (before : List LogLine) (rest text left : List ℕ) (closed : Bool) → [] ≡ lines_text before ++ rest → IsFirstLine rest text closed left → ⊥
none_wrong [] rest text left closed e f = f.some (sym e)
none_wrong (l ∷ ls) rest text left closed e f = mark_some l.mark _ _ _ e

none_goes : (before : List LogLine) (left : List ℕ) → [] ≡ lines_text before ++ (end_text (length before) ++ (10 ∷ left)) → ⊥
none_goes [] left e = cc
none_goes (l ∷ ls) left e = mark_some l.mark _ _ _ e

none_lacks : (before : List LogLine) (number : ℕ) → [] ≡ lines_text before → number ≡ length before + 1 → number ≡ 1
none_lacks [] number e n = n
none_lacks (l ∷ ls) number e n = absurd (mark_line l.mark _ _ e)

alone_missing : (number : ℕ) (why : LogCause) → IsLogFault [] number why → (number ≡ 1) × (why ≡ cause.End)
alone_missing number cause.Text w = absurd (none_wrong w.before w.rest w.text w.left w.closed w.whole w.first)
alone_missing number cause.Mark w = absurd (none_wrong w.before w.rest w.text w.left w.closed w.whole w.first)
alone_missing number cause.Count w = absurd (none_wrong w.before w.rest w.text w.left w.closed w.whole w.first)
alone_missing number cause.End (inl w) = absurd (none_wrong w.before w.rest w.text w.left w.closed w.whole w.first)
alone_missing number cause.End (inr (inl g)) = absurd (none_goes g.before g.left g.whole)
alone_missing number cause.End (inr (inr k)) = (none_lacks k.before number k.whole k.number_is, refl)

abbrev NoNewline : ℕ → Type 0
NoNewline b = b ≢ 10

pub x_whole : All NoNewline (120 ∷ [])
x_whole = All-cons NoNewline 120 [] (λ e. omega (arith, e)) (All-nil NoNewline)

pub log_faults_are_told : LogFaultsAreTold
log_faults_are_told = record {
  found = record {
    before = [];
    rest = no_line;
    text = 120 ∷ [];
    closed = true;
    left = [];
    whole = refl;
    first = record { some = λ e. cc; whole = x_whole; cut = refl };
    lawful = tt;
    number_is = refl;
    has = inr neither;
  };
  alone = alone;
  missing = inr (inr record { before = []; whole = refl; lawful = tt; number_is = refl });
  alone_missing = alone_missing;
}

-- what is live
which_by : (h : ℕ) (a b : Bool) → nat_eq h 2 ≡ a → nat_eq h 1 ≡ b → IsSome {T = ℕ} (if a then Some 8 else if b then Some 7 else None) → (h ≡ 1) ⊎ (h ≡ 2)
which_by h true b e f s = inr ((Decides-eqb h 2).0 e)
which_by h false true e f s = inl ((Decides-eqb h 1).0 f)
which_by h false false e f s = absurd (false≢true s)

which : (h : ℕ) → IsSome (two_live h) → (h ≡ 1) ⊎ (h ≡ 2)
which h s = which_by h (nat_eq h 2) (nat_eq h 1) refl refl s

either : (h : ℕ) → Contains (1 ∷ 2 ∷ []) h → (h ≡ 1) ⊎ (h ≡ 2)
either h c = ⊎_elim (λ e. inl (sym e)) (λ d. ⊎_elim (λ e. inr (sym e)) (λ n. absurd (Contains-nil h n)) (Contains-cons_cases 2 [] h d)) (Contains-cons_cases 1 (2 ∷ []) h c)

rising : (k : ℕ) → k + 1 < 2 → slice_index (1 ∷ 2 ∷ []) k < slice_index (1 ∷ 2 ∷ []) (k + 1)
rising zero l = omega arith
rising (suc k) l = absurd (omega (arith, l))

pub keys_are_told : KeysAreTold
keys_are_told = record {
  both = record {
    rise = rising;
    exact = λ h. (
      λ c. elim (either h c) [ inl e ↦ subst (λ h. IsSome (two_live h)) (sym e) refl | inr e ↦ subst (λ h. IsSome (two_live h)) (sym e) refl ],
      λ s. elim (which h s) [
        | inl e ↦ subst (Contains (1 ∷ 2 ∷ [])) (sym e) (Contains-here 1 (2 ∷ []))
        | inr e ↦ subst (Contains (1 ∷ 2 ∷ [])) (sym e) (Contains-there 2 1 (2 ∷ []) (Contains-here 2 []))
      ],
    );
  };
  twice = λ k. let r : 1 < 1 = k.rise 0 (omega arith) in omega (arith, r);
  falling = λ k. let r : 2 < 1 = k.rise 0 (omega arith) in omega (arith, r);
  less = λ k. let c : Contains (1 ∷ []) 2 = (k.exact 2).1 refl in elim (Contains-cons_cases 1 [] 2 c) [ inl e ↦ omega (arith, e) | inr n ↦ Contains-nil 2 n ];
  more = λ k. let s = (k.exact 3).0 (Contains-there 3 1 (2 ∷ 3 ∷ []) (Contains-there 3 2 (3 ∷ []) (Contains-here 3 []))) in false≢true s;
}
