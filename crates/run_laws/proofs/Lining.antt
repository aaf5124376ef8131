-- An operation's events are the line's: the first comes of itself, the second by the first reply, and the third by the
-- second event and its reply; so each is the next event after the replies so far. A case for each act and, where it
-- matters, each reply.
use Rattle.std.proofs.Common.{◌≡◌, ⊎_elim, ℕ, List, [], ◌∷◌, Option, Some, None, refl, sym, ◌∙◌, subst}
use Rattle.joint_machine.specs.declared.names.Thread.{Thread}
use Rattle.joint_machine.specs.declared.names.Thread.TheVariants.{M, P, C}
use Rattle.joint_machine.specs.declared.lines.Act.{Act}
use Rattle.joint_machine.specs.declared.lines.Act.TheVariants as act
use Rattle.joint_machine.specs.declared.events.Op.{Op}
use Rattle.joint_machine.specs.declared.events.Op.TheVariants as op
use Rattle.joint_machine.specs.declared.events.Reply.{Reply}
use Rattle.joint_machine.specs.declared.events.Reply.TheVariants as says
use Rattle.joint_machine.specs.declared.events.Entry.{Entry}
use Rattle.joint_machine.specs.Lines.{IsLine}
use Rattle.joint_history.specs.declared.callers.Receipt.{Receipt}
use Rattle.joint_history.specs.Operations.{EndsWithFirst, EndsWithSecond, EndsWithThird, IsOperationOf, entry_by, first_of, second_of, third_of}
use Rattle.script_laws.specs.Holding.{Standing, standing_after, next_event, AreEventsAfter, AreEvents, AreOnLine, AreLine}
use Rattle.run_laws.specs.Lines.{OperationsAreLines, OthersKeepStanding}
use Rattle.joint_machine.proofs.Deciding.{none_some}

-- acts whose first event follows from the act alone, and whose others follow from its replies
abbrev IsPlain : Act → Type 0
IsPlain (act.PhaseLine w) = ⊥
IsPlain (act.Finalise n) = ⊥
IsPlain _ = Unit {0}

operation-plain : (t : Thread) (a : Act) → IsOperationOf t a → IsPlain a
operation-plain C a o = absurd o
operation-plain (M n) (act.PhaseLine w) o = o.1
operation-plain (M n) (act.Finalise k) o = o.1
operation-plain (M n) a o = tt
operation-plain (P n) (act.PhaseLine w) o = o.1
operation-plain (P n) (act.Finalise k) o = o.1
operation-plain (P n) a o = tt

first-is : (a : Act) → IsPlain a → next_event a [] ≡ Some (first_of a)
first-is (act.PhaseLine w) p = absurd p
first-is (act.Finalise n) p = absurd p
first-is a p = refl

second-is : (a : Act) (r : Reply) → IsPlain a → next_event a (r ∷ []) ≡ second_of a r
second-is (act.PhaseLine w) r p = absurd p
second-is (act.Finalise n) r p = absurd p
second-is (act.Bridge v kind n sort f) (says.Made q h) p = refl
second-is (act.Bridge v kind n sort f) r p = refl
second-is (act.Pass v x) (says.H h) p = refl
second-is (act.Pass v x) r p = refl
second-is (act.Surface v x) (says.Gripped q h sort f) p = refl
second-is (act.Surface v x) r p = refl
second-is (act.Dispose v) (says.H h) p = refl
second-is (act.Dispose v) r p = refl
second-is act.Collect (says.Mark j) p = refl
second-is act.Collect r p = refl
second-is a r p = refl

-- the third event is that of the second one and its reply
by-second : (o second : Op) (r : Reply) (next : Option Op) → Some o ≡ Some second → next ≡ third_of o r → next ≡ third_of second r
by-second o second r next e f = let same : o ≡ second = cc in subst (λ z. next ≡ third_of z r) same f

third-is : (a : Act) (r r' : Reply) (second : Op) → IsPlain a → second_of a r ≡ Some second → next_event a (r ∷ r' ∷ []) ≡ third_of second r'
third-is (act.PhaseLine w) r r' second p e = absurd p
third-is (act.Finalise n) r r' second p e = absurd p
third-is (act.Bridge v kind n sort f) (says.Made q h) r' second p e = by-second (op.Adopt v kind n q h) second r' None e refl
third-is (act.Pass v x) (says.H h) r' second p e = by-second (op.Land h x) second r' None e refl
third-is (act.Surface v x) (says.Gripped q h sort f) (says.New m) second p e = by-second (op.Meet v sort f q h) second (says.New m) None e refl
third-is (act.Surface v x) (says.Gripped q h sort f) r' second p e = by-second (op.Meet v sort f q h) second r' (Some (op.Release h)) e refl
third-is (act.Dispose v) (says.H h) r' second p e = by-second (op.Release h) second r' None e refl
third-is act.Collect (says.Mark j) r' second p e = by-second op.Sweep second r' None e refl
third-is a r r' second p e = absurd (none_some second e)

-- and nothing follows the third
none-after : (a : Act) (r r' r'' : Reply) → IsPlain a → next_event a (r ∷ r' ∷ r'' ∷ []) ≡ None
none-after (act.PhaseLine w) r r' r'' p = absurd p
none-after (act.Finalise n) r r' r'' p = absurd p
none-after (act.Surface v x) (says.Gripped q h sort f) (says.New m) r'' p = refl
none-after (act.Surface v x) (says.Gripped q h sort f) r' r'' p = refl
none-after (act.Surface v x) r r' r'' p = refl
none-after (act.Bridge v kind n sort f) (says.Made q h) r' r'' p = refl
none-after (act.Bridge v kind n sort f) r r' r'' p = refl
none-after (act.Pass v x) (says.H h) r' r'' p = refl
none-after (act.Pass v x) r r' r'' p = refl
none-after (act.Dispose v) (says.H h) r' r'' p = refl
none-after (act.Dispose v) r r' r'' p = refl
none-after act.Collect (says.Mark j) r' r'' p = refl
none-after act.Collect r r' r'' p = refl
none-after a r r' r'' p = refl

-- the events of an operation that isn't the driver's
events-are : (s : Standing) (a : Act) (es : List Entry) → IsPlain a → AreEventsAfter a [] es → AreEvents s a es
events-are s (act.PhaseLine w) es p e = absurd p
events-are s a es p e = e

-- the entries of an operation, by how it ends
module _ (t : Thread) (index : ℕ) (a : Act) (answered : Reply) (rest : List Entry) (r : Receipt) (p : IsPlain a) where
  one-event : EndsWithFirst a answered rest r → AreEventsAfter a (answered ∷ []) rest × AreOnLine index t rest
  one-event e = subst (λ es. AreEventsAfter a (answered ∷ []) es × AreOnLine index t es) (sym e.nothing_more) (second-is a answered p ∙ e.no_second, tt)

  two-events : EndsWithSecond t index a answered rest r → AreEventsAfter a (answered ∷ []) rest × AreOnLine index t rest
  two-events e = subst (λ es. AreEventsAfter a (answered ∷ []) es × AreOnLine index t es) (sym e.one_more)
      ((second-is a answered p ∙ e.follows, third-is a answered e.reply e.second p e.follows ∙ e.no_third), (record { caller = refl; line = refl }, tt))

  three-events : EndsWithThird t index a answered rest r → AreEventsAfter a (answered ∷ []) rest × AreOnLine index t rest
  three-events e = subst (λ es. AreEventsAfter a (answered ∷ []) es × AreOnLine index t es) (sym e.two_more) (
    (second-is a answered p ∙ e.follows, (third-is a answered e.reply e.second p e.follows ∙ e.then_follows, none-after a answered e.reply e.released p)),
    (record { caller = refl; line = refl }, (record { caller = refl; line = refl }, tt)),
  )

own-line : (t : Thread) (a : Act) → IsOperationOf t a → IsLine t a
own-line (M n) a o = o
own-line (P n) a o = o
own-line C a o = absurd o

pub operations_are_lines : OperationsAreLines
operations_are_lines s t index a es r o k =
    let p = operation-plain t a o in
    let w = ⊎_elim (one-event t index a k.answered k.rest r p) (λ z. ⊎_elim (two-events t index a k.answered k.rest r p) (three-events t index a k.answered k.rest r p) z) k.ends in
    subst (AreLine s index (t, a)) (sym k.all)
    (record {
      lawful = own-line t a o;
      places = (record { caller = refl; line = refl }, w.1);
      events = events-are s a (entry_by t index r.first (first_of a) k.answered None ∷ k.rest) p (first-is a p, w.0);
    })

pub others_keep_standing : OthersKeepStanding
others_keep_standing s t index a es o = stays a (operation-plain t a o)
  where
    stays : (a : Act) → IsPlain a → standing_after s index a es ≡ s
    stays (act.PhaseLine w) p = absurd p
    stays (act.Finalise n) p = absurd p
    stays a p = refl
