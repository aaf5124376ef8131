-- What a resolution and a snapshot free stands last in the side's list of freed objects, where the reply's span says;
-- so the history names it rightly exactly where its own list has the same there.
use Rattle.std.proofs.Common.{◌≡◌, ℕ, ◌+◌, ◌-◌, ◌≤◌, List, [], ◌++◌, length, drop, refl, sym, ap, ◌∙◌, subst, arith, length-append}
use Rattle.std.specs.Prelude.{◌↔◌}
use Rattle.std.proofs.Math.Seq.{drop-append_seam}
use Rattle.joint_machine.specs.declared.names.Span.{Span}
use Rattle.joint_machine.specs.declared.events.Reply.TheVariants as says
use Rattle.joint_machine.specs.Components.{Rises}
use Rattle.joint_machine.specs.Told.{Answer, Told, resolution_of, snap_of}
use Rattle.joint_laws.specs.Spans.{IsStretch, TellsNamed}
use Rattle.run_check.specs.Lists.{StandsInList, rest_of}

-- the span of what was put behind a list
abbrev pub put_span : List ℕ → List ℕ → Span
put_span xs ys = record { first = length xs; count = length ys }

put_rest : (xs ys : List ℕ) → rest_of (put_span xs ys) (length (xs ++ ys)) ≡ put_span xs ys
put_rest xs ys = (let e : length (xs ++ ys) - length xs ≡ length ys = (let l = length-append xs ys in omega (arith, l)) in λ i. record { first = length xs; count = e i })

pub put_stands : (list xs ys : List ℕ) → StandsInList list (put_span xs ys) (xs ++ ys) → IsStretch list (put_span xs ys) ys
put_stands list xs ys w = subst (λ s. IsStretch list s ys) (put_rest xs ys) (subst (λ zs. IsStretch list (rest_of (put_span xs ys) (length (xs ++ ys))) zs) (drop-append_seam xs ys) w)

pub stands_put : (list xs ys : List ℕ) → IsStretch list (put_span xs ys) ys → StandsInList list (put_span xs ys) (xs ++ ys)
stands_put list xs ys w = subst (λ zs. IsStretch list (rest_of (put_span xs ys) (length (xs ++ ys))) zs) (sym (drop-append_seam xs ys)) (subst (λ s. IsStretch list s ys) (sym (put_rest xs ys)) w)

freed_of : Told → List ℕ
freed_of (snap_of freed candidates dead) = freed
freed_of (resolution_of answers freed) = freed
freed_of _ = []

pub resolution_named : (ms ps : List ℕ) (s : Span) (answers : List Answer) (freed : List ℕ) → Rises freed → IsStretch ms s freed → TellsNamed ms ps (says.Freed s) (resolution_of answers freed)
resolution_named ms ps s answers freed r w = record { alive = answers; freed = freed; is = refl; rises = r; stands = w }

pub resolution_stands : (ms ps : List ℕ) (s : Span) (answers : List Answer) (freed : List ℕ) → TellsNamed ms ps (says.Freed s) (resolution_of answers freed) → IsStretch ms s freed
unfolding freed_of
resolution_stands ms ps s answers freed w = subst (IsStretch ms s) (sym (ap freed_of w.is)) w.stands

pub snap_named : (ms ps : List ℕ) (s : Span) (freed candidates dead : List ℕ) → Rises freed
    → IsStretch ms s freed → TellsNamed ms ps (says.Snapped (length candidates) s) (snap_of freed candidates dead)
snap_named ms ps s freed candidates dead r w = record { freed = freed; candidates = candidates; dead = dead; is = refl; counted = refl; rises = r; stands = w }

pub snap_stands : (ms ps : List ℕ) (n : ℕ) (s : Span) (freed candidates dead : List ℕ) → TellsNamed ms ps (says.Snapped n s) (snap_of freed candidates dead) → IsStretch ms s freed
unfolding freed_of
snap_stands ms ps n s freed candidates dead w = subst (IsStretch ms s) (sym (ap freed_of w.is)) w.stands
