-- The tests of replies, and of the words in them, tell that two are the same.
use Rattle.std.proofs.Common.{◌≡◌, true, refl, ap}
use Rattle.std.proofs.lemmas.Bool.{false≢true}
use Rattle.joint_machine.specs.declared.names.Sort.{Sort}
use Rattle.joint_machine.specs.declared.names.Sort.TheVariants.{User, Framework}
use Rattle.joint_machine.specs.declared.names.Phase.{Phase}
use Rattle.joint_machine.specs.declared.names.Phase.TheVariants as at
use Rattle.joint_machine.specs.declared.names.Span.{Span}
use Rattle.joint_machine.specs.declared.events.Reply.{Reply}
use Rattle.joint_machine.specs.declared.events.Reply.TheVariants as says
use Rattle.joint_machine.specs.Told.{Answer, said_alive, said_cleared}
use Rattle.computed_histories.specs.Replies.{same_sort, same_answer, same_phase, same_span, same_reply}
use Rattle.computed_histories.proofs.Telling.{Tells, like, and2, and4, same, equal}

sort_found : (a b : Sort) → same_sort a b ≡ true → a ≡ b
sort_found User User e = refl
sort_found Framework Framework e = refl
sort_found _ _ e = absurd (false≢true e)

sort_itself : (a : Sort) → same_sort a a ≡ true
sort_itself User = refl
sort_itself Framework = refl

pub sorts : (a b : Sort) → Tells (same_sort a b) (a ≡ b)
sorts a b = equal same_sort a b (sort_found a b) (sort_itself a)

answer_found : (a b : Answer) → same_answer a b ≡ true → a ≡ b
answer_found (said_alive h) (said_alive h') e = λ i. said_alive (((same h h').holds e) i)
answer_found said_cleared said_cleared e = refl
answer_found _ _ e = absurd (false≢true e)

answer_itself : (a : Answer) → same_answer a a ≡ true
answer_itself (said_alive h) = (same h h).passes refl
answer_itself said_cleared = refl

pub answers : (a b : Answer) → Tells (same_answer a b) (a ≡ b)
answers a b = equal same_answer a b (answer_found a b) (answer_itself a)

phase_found : (a b : Phase) → same_phase a b ≡ true → a ≡ b
phase_found at.Idle at.Idle e = refl
phase_found at.Snapped at.Snapped e = refl
phase_found at.Contracted at.Contracted e = refl
phase_found at.Mirrored at.Mirrored e = refl
phase_found at.Weakened at.Weakened e = refl
phase_found at.Marked at.Marked e = refl
phase_found at.Swept at.Swept e = refl
phase_found at.Restored at.Restored e = refl
phase_found _ _ e = absurd (false≢true e)

phase_itself : (a : Phase) → same_phase a a ≡ true
phase_itself at.Idle = refl
phase_itself at.Snapped = refl
phase_itself at.Contracted = refl
phase_itself at.Mirrored = refl
phase_itself at.Weakened = refl
phase_itself at.Marked = refl
phase_itself at.Swept = refl
phase_itself at.Restored = refl

pub phases : (a b : Phase) → Tells (same_phase a b) (a ≡ b)
phases a b = equal same_phase a b (phase_found a b) (phase_itself a)

pub spans : (a b : Span) → Tells (same_span a b) (a ≡ b)
spans a b = like {P = (a.first ≡ b.first) × (a.count ≡ b.count)} (λ e. λ i. record { first = e.0 i; count = e.1 i }) (λ e. (ap (λ (s : Span). s.first) e, ap (λ (s : Span). s.count) e))
    (and2 (same a.first b.first) (same a.count b.count))

reply_found : (a b : Reply) → same_reply a b ≡ true → a ≡ b
reply_found says.Ok says.Ok e = refl
reply_found says.Empty says.Empty e = refl
reply_found says.Range says.Range e = refl
reply_found says.Null says.Null e = refl
reply_found says.Taken says.Taken e = refl
reply_found says.Gone says.Gone e = refl
reply_found says.Unset says.Unset e = refl
reply_found says.Full says.Full e = refl
reply_found says.Plain says.Plain e = refl
reply_found says.NoMark says.NoMark e = refl
reply_found says.More says.More e = refl
reply_found says.Done says.Done e = refl
reply_found says.Cleared says.Cleared e = refl
reply_found (says.M m) (says.M m') e = λ i. says.M (record { 0 = ((same m.0 m'.0).holds e) i })
reply_found (says.P p) (says.P p') e = λ i. says.P (record { 0 = ((same p.0 p'.0).holds e) i })
reply_found (says.H h) (says.H h') e = λ i. says.H (record { 0 = ((same h.0 h'.0).holds e) i })
reply_found (says.Renewed h) (says.Renewed h') e = λ i. says.Renewed (record { 0 = ((same h.0 h'.0).holds e) i })
reply_found (says.New m) (says.New m') e = λ i. says.New (record { 0 = ((same m.0 m'.0).holds e) i })
reply_found (says.Twin m) (says.Twin m') e = λ i. says.Twin (record { 0 = ((same m.0 m'.0).holds e) i })
reply_found (says.Made p h) (says.Made p' h') e = let r = (and2 (same p.0 p'.0) (same h.0 h'.0)).holds e in λ i. says.Made (record { 0 = r.0 i }) (record { 0 = r.1 i })
reply_found (says.Gripped p h sort n) (says.Gripped p' h' sort' n') e = let r = (and4 (same p.0 p'.0) (same h.0 h'.0) (sorts sort sort') (same n n')).holds e in
    λ i. says.Gripped (record { 0 = r.0 i }) (record { 0 = r.1 i }) (r.2 i) (r.3 i)
reply_found (says.Pending k) (says.Pending k') e = λ i. says.Pending (record { 0 = ((same k.0 k'.0).holds e) i })
reply_found (says.Pinned m) (says.Pinned m') e = λ i. says.Pinned (record { 0 = ((same m.0 m'.0).holds e) i })
reply_found (says.Mark j) (says.Mark j') e = λ i. says.Mark (record { 0 = ((same j.0 j'.0).holds e) i })
reply_found (says.MarkOpen j) (says.MarkOpen j') e = λ i. says.MarkOpen (record { 0 = ((same j.0 j'.0).holds e) i })
reply_found (says.CycleOpen k) (says.CycleOpen k') e = λ i. says.CycleOpen (record { 0 = ((same k.0 k'.0).holds e) i })
reply_found (says.At phase) (says.At phase') e = λ i. says.At (((phases phase phase').holds e) i)
reply_found (says.Snapped n s) (says.Snapped n' s') e = let r = (and2 (same n n') (spans s s')).holds e in λ i. says.Snapped (r.0 i) (r.1 i)
reply_found (says.Sccs n x) (says.Sccs n' x') e = let r = (and2 (same n n') (same x x')).holds e in λ i. says.Sccs (r.0 i) (r.1 i)
reply_found (says.Refs n) (says.Refs n') e = λ i. says.Refs (((same n n').holds e) i)
reply_found (says.Swept j s) (says.Swept j' s') e = let r = (and2 (same j.0 j'.0) (spans s s')).holds e in λ i. says.Swept (record { 0 = r.0 i }) (r.1 i)
reply_found (says.Freed s) (says.Freed s') e = λ i. says.Freed (((spans s s').holds e) i)
reply_found (says.Took s) (says.Took s') e = λ i. says.Took (((spans s s').holds e) i)
reply_found _ _ e = absurd (false≢true e)

reply_itself : (a : Reply) → same_reply a a ≡ true
reply_itself says.Ok = refl
reply_itself says.Empty = refl
reply_itself says.Range = refl
reply_itself says.Null = refl
reply_itself says.Taken = refl
reply_itself says.Gone = refl
reply_itself says.Unset = refl
reply_itself says.Full = refl
reply_itself says.Plain = refl
reply_itself says.NoMark = refl
reply_itself says.More = refl
reply_itself says.Done = refl
reply_itself says.Cleared = refl
reply_itself (says.M m) = (same m.0 m.0).passes refl
reply_itself (says.P p) = (same p.0 p.0).passes refl
reply_itself (says.H h) = (same h.0 h.0).passes refl
reply_itself (says.Renewed h) = (same h.0 h.0).passes refl
reply_itself (says.New m) = (same m.0 m.0).passes refl
reply_itself (says.Twin m) = (same m.0 m.0).passes refl
reply_itself (says.Made p h) = (and2 (same p.0 p.0) (same h.0 h.0)).passes (refl, refl)
reply_itself (says.Gripped p h sort n) = (and4 (same p.0 p.0) (same h.0 h.0) (sorts sort sort) (same n n)).passes (refl, refl, refl, refl)
reply_itself (says.Pending k) = (same k.0 k.0).passes refl
reply_itself (says.Pinned m) = (same m.0 m.0).passes refl
reply_itself (says.Mark j) = (same j.0 j.0).passes refl
reply_itself (says.MarkOpen j) = (same j.0 j.0).passes refl
reply_itself (says.CycleOpen k) = (same k.0 k.0).passes refl
reply_itself (says.At phase) = (phases phase phase).passes refl
reply_itself (says.Snapped n s) = (and2 (same n n) (spans s s)).passes (refl, refl)
reply_itself (says.Sccs n x) = (and2 (same n n) (same x x)).passes (refl, refl)
reply_itself (says.Refs n) = (same n n).passes refl
reply_itself (says.Swept j s) = (and2 (same j.0 j.0) (spans s s)).passes (refl, refl)
reply_itself (says.Freed s) = (spans s s).passes refl
reply_itself (says.Took s) = (spans s s).passes refl

pub replies : (a b : Reply) → Tells (same_reply a b) (a ≡ b)
replies a b = equal same_reply a b (reply_found a b) (reply_itself a)
