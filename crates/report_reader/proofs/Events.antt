-- The words of an event tell it, where its thread is known: a line's by the table of lines, a step's by the first of
-- them, which no line that is one event has.
use Rattle.std.proofs.Common.{◌≡◌, ℕ, ◌+◌, ◌-◌, ◌<◌, ◌^◌, min, Bool, true, false, cond, ◌⊎◌, inl, inr, List, [], ◌∷◌, get_or, codes, decimal, refl, sym, ap, ◌∙◌, subst, arith, true≢false}
use Rattle.std.specs.Prelude.{if◌then◌else◌}
use Rattle.joint_machine.specs.declared.names.Var.{Var}
use Rattle.joint_machine.specs.declared.names.StaticNo.{StaticNo}
use Rattle.joint_machine.specs.declared.names.Kind.{Kind}
use Rattle.joint_machine.specs.declared.names.Kind.TheVariants as kind
use Rattle.joint_machine.specs.declared.names.Sort.{Sort}
use Rattle.joint_machine.specs.declared.names.Sort.TheVariants as sort
use Rattle.joint_machine.specs.declared.names.PhaseWord.{PhaseWord}
use Rattle.joint_machine.specs.declared.names.PhaseWord.TheVariants as word
use Rattle.joint_machine.specs.declared.names.Thread.{Thread}
use Rattle.joint_machine.specs.declared.lines.Act.{Act}
use Rattle.joint_machine.specs.declared.lines.Act.TheVariants as act
use Rattle.joint_machine.specs.declared.events.Op.{Op}
use Rattle.joint_machine.specs.declared.events.Op.TheVariants as op
use Rattle.joint_machine.specs.Lines.{IsVar, IsAdoptable, IsOneEvent}
use Rattle.bridge_script.specs.Words.{var_text, kind_text, sort_text, phase_word_text, thread_text, act_words}
use Rattle.bridge_script.proofs.LineWords.{same_words}
use Rattle.history_report.specs.Report.{event_words}
use Rattle.entry_reader.specs.Events.{IsReadable}
use Rattle.report_reader.proofs.Replies.{is_word, number_of, number_in, word_at, sort_of, read-number, wide}

abbrev var_of : List ℕ → Var
var_of w = record { 0 = get_or w 0 0 - 97 }

abbrev static_of : List ℕ → StaticNo
static_of w = record { 0 = number_in w }

abbrev kind_of : List ℕ → Kind
kind_of w = if is_word w (codes "plain") then kind.Plain else (if is_word w (codes "leaf") then kind.Leaf else (if is_word w (codes "bridge") then kind.Bridge else kind.LeafBridge))

abbrev phase_word_of : List ℕ → PhaseWord
phase_word_of w = if is_word w (codes "cycle") then word.Cycle
    else (if is_word w (codes "snap") then word.Snap
    else (if is_word w (codes "contract") then word.Contract
    else (if is_word w (codes "mirror") then word.Mirror
    else (if is_word w (codes "weaken") then word.Weaken
    else (if is_word w (codes "mark") then word.Mark
    else (if is_word w (codes "sweep") then word.Sweep
    else (if is_word w (codes "restore") then word.Restore else word.Resolve)))))))

read-var : (v : Var) → IsVar v → var_of (var_text v) ≡ v
read-var v l = (let e : min (97 + v.0) 255 - 97 ≡ v.0 = omega arith in λ i. record { 0 = e i })

read-kind : (k : Kind) → kind_of (kind_text k) ≡ k
read-kind kind.Plain = refl
read-kind kind.Leaf = refl
read-kind kind.Bridge = refl
read-kind kind.LeafBridge = refl

read-sort : (s : Sort) → sort_of (sort_text s) ≡ s
read-sort sort.User = refl
read-sort sort.Framework = refl

read-static : (x : StaticNo) → x.0 < 16 → static_of (115 ∷ decimal x.0) ≡ x
read-static x l = (let e = read-number x.0 (omega arith) in λ i. record { 0 = e i })

read-phase : (w : PhaseWord) → phase_word_of (phase_word_text w) ≡ w
read-phase word.Cycle = refl
read-phase word.Snap = refl
read-phase word.Contract = refl
read-phase word.Mirror = refl
read-phase word.Weaken = refl
read-phase word.Mark = refl
read-phase word.Sweep = refl
read-phase word.Restore = refl
read-phase word.Resolve = refl

-- a step by its first word; and whether words begin as a step's
abbrev step_by : List ℕ → List (List ℕ) → Op
step_by w ws = if is_word w (codes "make") then op.Make (sort_of (word_at ws 0)) (number_of (word_at ws 1))
    else (if is_word w (codes "adopt") then op.Adopt (var_of (word_at ws 0)) (kind_of (word_at ws 1))
    (number_of (word_at ws 2)) record { 0 = number_in (word_at ws 3) } record { 0 = number_in (word_at ws 4) }
    else (if is_word w (codes "lend") then op.Lend (var_of (word_at ws 0)) (static_of (word_at ws 1))
    else (if is_word w (codes "land") then op.Land record { 0 = number_in (word_at ws 0) } (static_of (word_at ws 1))
    else (if is_word w (codes "grip") then op.Grip (static_of (word_at ws 0))
    else (if is_word w (codes "meet") then op.Meet (var_of (word_at ws 0)) (sort_of (word_at ws 3))
    (number_of (word_at ws 4)) record { 0 = number_in (word_at ws 1) } record { 0 = number_in (word_at ws 2) }
    else (if is_word w (codes "give") then op.Give (var_of (word_at ws 0))
    else (if is_word w (codes "release") then op.Release record { 0 = number_in (word_at ws 0) }
    else (if is_word w (codes "snap") then op.Snap record { 0 = number_of (word_at ws 0) }
    else (if is_word w (codes "contract") then op.Contract record { 0 = number_of (word_at ws 0) }
    else (if is_word w (codes "mirror") then op.Mirror record { 0 = number_of (word_at ws 0) }
    else (if is_word w (codes "weaken") then op.Weaken record { 0 = number_in (word_at ws 0) }
    else (if is_word w (codes "begin") then op.Begin
    else (if is_word w (codes "sweep") then op.Sweep
    else (if is_word w (codes "restore") then op.Restore record { 0 = number_in (word_at ws 0) }
    else (if is_word w (codes "clear") then op.Clear record { 0 = number_of (word_at ws 0) }
    else (if is_word w (codes "resolve") then op.Resolve record { 0 = number_of (word_at ws 0) }
    else (if is_word w (codes "abandon") then op.Abandon record { 0 = number_of (word_at ws 0) }
    else op.Refused (phase_word_of (word_at ws 0)))))))))))))))))))

abbrev read_step : List (List ℕ) → Op
read_step [] = op.Begin
read_step (w ∷ ws) = step_by w ws

abbrev is_among : List ℕ → List (List ℕ) → Bool
is_among w [] = false
is_among w (v ∷ vs) = cond (is_word w v) true (is_among w vs)

abbrev is_step_word : List ℕ → Bool
is_step_word w = is_among w (codes "make" ∷ codes "adopt" ∷ codes "lend" ∷ codes "land" ∷ codes "grip" ∷ codes "meet" ∷ codes "give" ∷ codes "release" ∷ codes "snap" ∷ codes
    "contract" ∷ codes "mirror" ∷ codes "weaken" ∷ codes "begin" ∷ codes "sweep" ∷ codes "restore" ∷ codes "clear" ∷ codes "resolve" ∷ codes "abandon" ∷ codes "refused" ∷ [])

abbrev is_step : Op → Bool
is_step (op.Line a) = false
is_step o = true

few_fields : (k : Kind) (n : ℕ) → IsAdoptable k n → n < 2 ^ 64
few_fields kind.LeafBridge n h = omega (arith, h)
few_fields k n h = omega (arith, h)

-- a step is read back
read_back : (t : Thread) (o : Op) → is_step o ≡ true → IsReadable t o → read_step (event_words t o) ≡ o
read_back t (op.Line a) s g = absurd (true≢false (sym s))
read_back t (op.Make s n) q g = (let l = g.0.1 in λ i. op.Make (read-sort s i) (read-number n (omega (arith, l)) i))
read_back t (op.Adopt v k n p h) q g = λ i. op.Adopt (read-var v g.0.1 i) (read-kind k i) (read-number n (few_fields k n g.0.2) i)
    record { 0 = read-number p.0 (wide p.0 g.1.0) i } record { 0 = read-number h.0 (wide h.0 g.1.1) i }
read_back t (op.Lend v x) q g = λ i. op.Lend (read-var v g.0.1 i) (read-static x g.0.2 i)
read_back t (op.Land h x) q g = λ i. op.Land record { 0 = read-number h.0 (wide h.0 g.1) i } (read-static x g.0.1 i)
read_back t (op.Grip x) q g = λ i. op.Grip (read-static x g.0.1 i)
read_back t (op.Meet v s n p h) q g = (let l = g.0.2 in λ i. op.Meet (read-var v g.0.1 i) (read-sort s i)
    (read-number n (omega (arith, l)) i) record { 0 = read-number p.0 (wide p.0 g.1.0) i } record { 0 = read-number h.0 (wide h.0 g.1.1) i })
read_back t (op.Give v) q g = λ i. op.Give (read-var v g.0.1 i)
read_back t (op.Release h) q g = λ i. op.Release record { 0 = read-number h.0 (wide h.0 g.1) i }
read_back t (op.Snap k) q g = λ i. op.Snap record { 0 = read-number k.0 (wide k.0 g.1) i }
read_back t (op.Contract k) q g = λ i. op.Contract record { 0 = read-number k.0 (wide k.0 g.1) i }
read_back t (op.Mirror k) q g = λ i. op.Mirror record { 0 = read-number k.0 (wide k.0 g.1) i }
read_back t (op.Weaken h) q g = λ i. op.Weaken record { 0 = read-number h.0 (wide h.0 g.1) i }
read_back t op.Begin q g = refl
read_back t op.Sweep q g = refl
read_back t (op.Restore h) q g = λ i. op.Restore record { 0 = read-number h.0 (wide h.0 g.1) i }
read_back t (op.Clear k) q g = λ i. op.Clear record { 0 = read-number k.0 (wide k.0 g.1) i }
read_back t (op.Resolve k) q g = λ i. op.Resolve record { 0 = read-number k.0 (wide k.0 g.1) i }
read_back t (op.Abandon k) q g = λ i. op.Abandon record { 0 = read-number k.0 (wide k.0 g.1) i }
read_back t (op.Refused w) q g = λ i. op.Refused (read-phase w i)

-- the first word tells a step from a line's own event
line_first : (t : Thread) (a : Act) → IsOneEvent a → is_step_word (word_at (act_words t a) 0) ≡ false
line_first t (act.Bridge v k n s f) o = absurd o
line_first t (act.Pass v x) o = absurd o
line_first t (act.Surface v x) o = absurd o
line_first t (act.Dispose v) o = absurd o
line_first t act.Collect o = absurd o
line_first t act.BeginMark o = absurd o
line_first t act.SweepMark o = absurd o
line_first t (act.PhaseLine w) o = absurd o
line_first t a o = refl

first_tells : (t : Thread) (o : Op) → IsReadable t o → is_step_word (word_at (event_words t o) 0) ≡ is_step o
first_tells t (op.Line a) g = line_first t a g.0.1
first_tells t o g = refl

-- an event is a line's own, or a step
abbrev IsLineOr : Op → Type 0
IsLineOr o = ((a : Act) × (o ≡ op.Line a)) ⊎ (is_step o ≡ true)

line_or_step : (o : Op) → IsLineOr o
line_or_step (op.Line a) = inl (a, refl)
line_or_step o = inr refl

same_acts : (t : Thread) (a b : Act) → IsReadable t (op.Line a) → IsReadable t (op.Line b) → event_words t (op.Line a) ≡ event_words t (op.Line b) → a ≡ b
same_acts t a b g h e = ap (λ (z : Thread × Act). z.1) (same_words (t, a) (t, b) g.0.0 h.0.0 (ap (λ ws. thread_text t ∷ ws) e))

pub one_event : (t : Thread) (o o' : Op) → IsReadable t o → IsReadable t o' → event_words t o ≡ event_words t o' → o ≡ o'
one_event t o o' g g' e = by (line_or_step o) (line_or_step o')
  where
    tells : is_step o ≡ is_step o'
    tells = sym (first_tells t o g) ∙ (ap (λ ws. is_step_word (word_at ws 0)) e ∙ first_tells t o' g')

    by : IsLineOr o → IsLineOr o' → o ≡ o'
    by (inl a) (inl b) =
        let g2 = subst (IsReadable t) a.1 g in
        let h2 = subst (IsReadable t) b.1 g' in
        let w : event_words t (op.Line a.0) ≡ event_words t (op.Line b.0) = sym (ap (event_words t) a.1) ∙ (e ∙ ap (event_words t) b.1) in
        a.1 ∙ (ap op.Line (same_acts t a.0 b.0 g2 h2 w) ∙ sym b.1)
    by (inl a) (inr q) = absurd (true≢false (sym q ∙ (sym tells ∙ ap is_step a.1)))
    by (inr p) (inl b) = absurd (true≢false (sym p ∙ (tells ∙ ap is_step b.1)))
    by (inr p) (inr q) = sym (read_back t o p g) ∙ (ap read_step e ∙ read_back t o' q g')
