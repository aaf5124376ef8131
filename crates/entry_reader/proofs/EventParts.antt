-- An event and the equals sign behind it: a line's own words, or those of a step, which the first of them tells.
-- Whatever event the words begin with, what is left stands behind the first equals sign, since no word of an event is
-- one. So it doesn't matter which of both is tried first.
use Rattle.std.proofs.Common.{◌≡◌, ◌≢◌, ℕ, ◌⊎◌, inl, inr, cond, List, [], ◌∷◌, ◌++◌, Option, Some, None, codes, refl, sym, ap, ◌∙◌, subst, append_assoc}
use Rattle.std.specs.Prelude.{bytes_eq}
use Rattle.joint_machine.specs.declared.names.Thread.{Thread}
use Rattle.joint_machine.specs.declared.names.Thread.TheVariants.{C}
use Rattle.joint_machine.specs.declared.lines.Act.{Act}
use Rattle.joint_machine.specs.declared.events.Op.{Op}
use Rattle.joint_machine.specs.declared.events.Op.TheVariants as op
use Rattle.joint_machine.specs.Lines.{IsLine, IsOneEvent, IsThread}
use Rattle.joint_machine.proofs.Deciding.{some-same}
use Rattle.bridge_script.specs.Words.{act_words}
use Rattle.history_report.specs.Report.{event_words}
use Rattle.text_words.proofs.Cutting.{cut-first}
use Rattle.text_words.proofs.PlainWords.{no-equals}
use Rattle.history_report.proofs.Plain.{plain-event}
use Rattle.entry_reader.specs.declared.events.EventWord.{EventWord}
use Rattle.entry_reader.specs.declared.events.EventWord.TheVariants as word
use Rattle.entry_reader.specs.Taking.{Takes}
use Rattle.entry_reader.specs.Events.{word_text, word_of, others, IsEventOf, IsStepOf, IsStep, IsLineEvent, IsReadable, first_words, step_words}

-- the words of an event, the equals sign, and the rest
pub with_equals : (ws rest : List (List ℕ)) → (ws ++ codes "=" ∷ []) ++ rest ≡ ws ++ (codes "=" ∷ rest)
with_equals ws rest = append_assoc ws (codes "=" ∷ []) rest

abbrev pub ends : (Op → List (List ℕ)) → Op → List (List ℕ)
ends text o = text o ++ codes "=" ∷ []

-- a line that is one event
abbrev pub OnlyAct : Thread → List (List ℕ) → List (List ℕ) → Option Act → Type 0
OnlyAct t old new r = (a : Act) (rest : List (List ℕ)) → IsLine t a → old ≡ act_words t a ++ rest → (r ≡ Some a) × (new ≡ rest)

pub line_none : (t : Thread) (old new : List (List ℕ)) → OnlyAct t old new None → Takes (IsLineEvent t) (ends (event_words t)) old new None
line_none t old new n = record { sound = tt; complete = by }
  where
    by : (o : Op) (rest : List (List ℕ)) → IsLineEvent t o → old ≡ ends (event_words t) o ++ rest → ⊥ × (new ≡ rest)
    by (op.Line a) rest g e = absurd (let h = (n a (codes "=" ∷ rest) g.0 (e ∙ with_equals (act_words t a) rest)).0 in cc)
    by o rest g e = absurd g

pub line_more : (t : Thread) (old new : List (List ℕ)) (b : Act) → OnlyAct t old new (Some b) → (IsOneEvent b → ⊥) → Takes (IsLineEvent t) (ends (event_words t)) old new None
line_more t old new b n m = record { sound = tt; complete = by }
  where
    by : (o : Op) (rest : List (List ℕ)) → IsLineEvent t o → old ≡ ends (event_words t) o ++ rest → ⊥ × (new ≡ rest)
    by (op.Line a) rest g e =
        let h = (n a (codes "=" ∷ rest) g.0 (e ∙ with_equals (act_words t a) rest)).0 in
        let same : a ≡ b = sym (some-same b a h) in
        absurd (m (subst IsOneEvent same g.1))
    by o rest g e = absurd g

abbrev pub Equals : List (List ℕ) → List (List ℕ) → Option (Unit {0}) → Type 0
Equals old new r = Takes (λ (u : Unit {0}). Unit {0}) (λ u. codes "=" ∷ []) old new r

pub line_open : (t : Thread) (old mid new : List (List ℕ)) (b : Act) → OnlyAct t old mid (Some b) → Equals mid new None → Takes (IsLineEvent t) (ends (event_words t)) old new None
line_open t old mid new b n m = record { sound = tt; complete = by }
  where
    by : (o : Op) (rest : List (List ℕ)) → IsLineEvent t o → old ≡ ends (event_words t) o ++ rest → ⊥ × (new ≡ rest)
    by (op.Line a) rest g e = absurd (m.complete tt rest tt (n a (codes "=" ∷ rest) g.0 (e ∙ with_equals (act_words t a) rest)).1).0
    by o rest g e = absurd g

pub line_taken : (t : Thread) (old mid new : List (List ℕ)) (b : Act) → OnlyAct t old mid (Some b) → IsLine t b → old ≡ act_words t b ++ mid
    → IsOneEvent b → Equals mid new (Some tt) → Takes (IsLineEvent t) (ends (event_words t)) old new (Some (op.Line b))
line_taken t old mid new b n l e q m = record { sound = ((l, q), e ∙ (ap (λ z. act_words t b ++ z) m.sound.1 ∙ sym (with_equals (act_words t b) new))); complete = by }
  where
    by : (o : Op) (rest : List (List ℕ)) → IsLineEvent t o → old ≡ ends (event_words t) o ++ rest → Unit {0} × (new ≡ rest)
    by (op.Line a) rest g f = (tt, (m.complete tt rest tt (n a (codes "=" ∷ rest) g.0 (f ∙ with_equals (act_words t a) rest)).1).1)
    by o rest g f = absurd g

-- the words that begin steps are different
abbrev find : List EventWord → List ℕ → EventWord
find [] w = word.Make
find (v ∷ vs) w = cond (bytes_eq (word_text v) w) v (find vs w)

abbrev found : List ℕ → EventWord
found = find (word.Make ∷ word.Adopt ∷ word.Lend ∷ word.Land ∷ word.Grip ∷ word.Meet ∷ word.Give ∷ word.Release ∷ word.Snap ∷ word.Contract ∷ word.Mirror ∷ word.Weaken ∷ word.Begin
    ∷ word.Sweep ∷ word.Restore ∷ word.Clear ∷ word.Resolve ∷ word.Abandon ∷ word.Refused ∷ [])

known : (v : EventWord) → found (word_text v) ≡ v
known word.Make = refl
known word.Adopt = refl
known word.Lend = refl
known word.Land = refl
known word.Grip = refl
known word.Meet = refl
known word.Give = refl
known word.Release = refl
known word.Snap = refl
known word.Contract = refl
known word.Mirror = refl
known word.Weaken = refl
known word.Begin = refl
known word.Sweep = refl
known word.Restore = refl
known word.Clear = refl
known word.Resolve = refl
known word.Abandon = refl
known word.Refused = refl

same_word : (v w : EventWord) → word_text v ≡ word_text w → v ≡ w
same_word v w e = sym (known v) ∙ (ap found e ∙ known w)

-- a word that begins no step
pub record NotStep (w : List ℕ) : Type 0 where
  pub make : w ≢ codes "make"
  pub adopt : w ≢ codes "adopt"
  pub lend : w ≢ codes "lend"
  pub land : w ≢ codes "land"
  pub grip : w ≢ codes "grip"
  pub meet : w ≢ codes "meet"
  pub give : w ≢ codes "give"
  pub release : w ≢ codes "release"
  pub snap : w ≢ codes "snap"
  pub contract : w ≢ codes "contract"
  pub mirror : w ≢ codes "mirror"
  pub weaken : w ≢ codes "weaken"
  pub begin : w ≢ codes "begin"
  pub sweep : w ≢ codes "sweep"
  pub restore : w ≢ codes "restore"
  pub clear : w ≢ codes "clear"
  pub resolve : w ≢ codes "resolve"
  pub abandon : w ≢ codes "abandon"
  pub refused : w ≢ codes "refused"

pub no_step : (w : List ℕ) → NotStep w → (v : EventWord) → word_text v ≢ w
no_step w n word.Make e = n.make (sym e)
no_step w n word.Adopt e = n.adopt (sym e)
no_step w n word.Lend e = n.lend (sym e)
no_step w n word.Land e = n.land (sym e)
no_step w n word.Grip e = n.grip (sym e)
no_step w n word.Meet e = n.meet (sym e)
no_step w n word.Give e = n.give (sym e)
no_step w n word.Release e = n.release (sym e)
no_step w n word.Snap e = n.snap (sym e)
no_step w n word.Contract e = n.contract (sym e)
no_step w n word.Mirror e = n.mirror (sym e)
no_step w n word.Weaken e = n.weaken (sym e)
no_step w n word.Begin e = n.begin (sym e)
no_step w n word.Sweep e = n.sweep (sym e)
no_step w n word.Restore e = n.restore (sym e)
no_step w n word.Clear e = n.clear (sym e)
no_step w n word.Resolve e = n.resolve (sym e)
no_step w n word.Abandon e = n.abandon (sym e)
no_step w n word.Refused e = n.refused (sym e)

-- a step by its first word
pub record StepBy (o : Op) (old rest : List (List ℕ)) : Type 0 where
  pub word : EventWord
  pub event : IsEventOf word o
  pub words : old ≡ word_text word ∷ (others o ++ (codes "=" ∷ rest))

pub step_by : (o : Op) (old rest : List (List ℕ)) → IsStep o → old ≡ ends step_words o ++ rest → StepBy o old rest
step_by o old rest g e = by (word_of o) g (e ∙ with_equals (step_words o) rest)
  where
    by : (w : Option EventWord) → IsStepOf w o → old ≡ first_words w (others o) ++ (codes "=" ∷ rest) → StepBy o old rest
    by None h f = absurd h
    by (Some w) h f = record { word = w; event = h; words = f }

pub step_empty : (old new : List (List ℕ)) → old ≡ [] → Takes IsStep (ends step_words) old new None
step_empty old new n = record { sound = tt; complete = λ o rest g e. absurd (let s = (step_by o old rest g e).words in let m = n in cc) }

pub step_unread : (old new : List (List ℕ)) (w : List ℕ) → old ≡ w ∷ new → ((v : EventWord) → word_text v ≢ w) → Takes IsStep (ends step_words) old new None
step_unread old new w n m = record { sound = tt; complete = λ o rest g e. absurd (let s = step_by o old rest g e in let q = s.words in m s.word (let k = n in cc)) }

-- the step of the word that was read
behind_word : (o : Op) (old mid rest : List (List ℕ)) (w : List ℕ) (v : EventWord) → old ≡ w ∷ mid → word_text v ≡ w
    → IsStep o → old ≡ ends step_words o ++ rest → IsEventOf v o × (mid ≡ others o ++ (codes "=" ∷ rest))
behind_word o old mid rest w v n r g e =
    let s = step_by o old rest g e in
    let q = s.words in
    let text : word_text s.word ≡ word_text v = (let k = n in cc) in
    let F : EventWord → Type 0 = λ z. IsEventOf z o in
    (subst F (same_word s.word v text) s.event, (let k = n in cc))

pub step_none : (old mid new : List (List ℕ)) (w : List ℕ) (v : EventWord) → old ≡ w ∷ mid → word_text v ≡ w → Takes (IsEventOf v) others mid new None → Takes IsStep (ends step_words) old new None
step_none old mid new w v n r k = record { sound = tt; complete = λ o rest g e. absurd (let b = behind_word o old mid rest w v n r g e in (k.complete o (codes "=" ∷ rest) b.0 b.1).0) }

pub step_open : (old mid left new : List (List ℕ)) (w : List ℕ) (v : EventWord) (p : Op) → old ≡ w ∷ mid → word_text v ≡ w
    → Takes (IsEventOf v) others mid left (Some p) → Equals left new None → Takes IsStep (ends step_words) old new None
step_open old mid left new w v p n r k m = record {
  sound = tt;
  complete = λ o rest g e. absurd (let b = behind_word o old mid rest w v n r g e in (m.complete tt rest tt (k.complete o (codes "=" ∷ rest) b.0 b.1).1).0);
}

-- an event of a word has that word
event_word_is : (v : EventWord) (o : Op) → IsEventOf v o → word_of o ≡ Some v
event_word_is word.Make (op.Make s n) g = refl
event_word_is word.Adopt (op.Adopt v k n p h) g = refl
event_word_is word.Lend (op.Lend v x) g = refl
event_word_is word.Land (op.Land h x) g = refl
event_word_is word.Grip (op.Grip x) g = refl
event_word_is word.Meet (op.Meet v s n p h) g = refl
event_word_is word.Give (op.Give v) g = refl
event_word_is word.Release (op.Release h) g = refl
event_word_is word.Snap (op.Snap k) g = refl
event_word_is word.Contract (op.Contract k) g = refl
event_word_is word.Mirror (op.Mirror k) g = refl
event_word_is word.Weaken (op.Weaken h) g = refl
event_word_is word.Begin op.Begin g = refl
event_word_is word.Sweep op.Sweep g = refl
event_word_is word.Restore (op.Restore h) g = refl
event_word_is word.Clear (op.Clear k) g = refl
event_word_is word.Resolve (op.Resolve k) g = refl
event_word_is word.Abandon (op.Abandon k) g = refl
event_word_is word.Refused (op.Refused w) g = refl
event_word_is v o g = absurd g

pub step_taken : (old mid left new : List (List ℕ)) (w : List ℕ) (v : EventWord) (p : Op) → old ≡ w ∷ mid → word_text v ≡ w
    → Takes (IsEventOf v) others mid left (Some p) → Equals left new (Some tt) → Takes IsStep (ends step_words) old new (Some p)
step_taken old mid left new w v p n r k m =
    let is = event_word_is v p k.sound.0 in
    let S : Option EventWord → Type 0 = λ z. IsStepOf z p in
    let words : old ≡ step_words p ++ (codes "=" ∷ new) = n ∙ (ap (λ z. z ∷ mid) (sym r)
    ∙ (ap (λ z. word_text v ∷ z) (k.sound.1 ∙ ap (λ z. others p ++ z) m.sound.1) ∙ ap (λ z. first_words z (others p) ++ (codes "=" ∷ new)) (sym is))) in
    record {
      sound = (subst S (sym is) k.sound.0, words ∙ sym (with_equals (step_words p) new));
      complete = λ o rest g e. (let b = behind_word o old mid rest w v n r g e in (tt, (m.complete tt rest tt (k.complete o (codes "=" ∷ rest) b.0 b.1).1).1));
    }

-- a step can be named by each thread, and what a thread can name besides its lines is a step
step_readable : (t : Thread) (o : Op) → IsThread t → IsStep o → IsReadable t o
step_readable t (op.Line a) h g = absurd g
step_readable t (op.Make s n) h g = ((h, g), tt)
step_readable t (op.Adopt v k n p q) h g = ((h, g.0, g.1), (g.2, g.3))
step_readable t (op.Lend v x) h g = ((h, g.0, g.1), tt)
step_readable t (op.Land q x) h g = ((h, g.1), g.0)
step_readable t (op.Grip x) h g = ((h, g), tt)
step_readable t (op.Meet v s n p q) h g = ((h, g.0, g.1), (g.2, g.3))
step_readable t (op.Give v) h g = ((h, g), tt)
step_readable t (op.Release q) h g = (h, g)
step_readable t (op.Snap k) h g = (h, g)
step_readable t (op.Contract k) h g = (h, g)
step_readable t (op.Mirror k) h g = (h, g)
step_readable t (op.Weaken q) h g = (h, g)
step_readable t op.Begin h g = (h, tt)
step_readable t op.Sweep h g = (h, tt)
step_readable t (op.Restore q) h g = (h, g)
step_readable t (op.Clear k) h g = (h, g)
step_readable t (op.Resolve k) h g = (h, g)
step_readable t (op.Abandon k) h g = (h, g)
step_readable t (op.Refused w) h g = (h, tt)

step_event : (t : Thread) (o : Op) → IsStep o → event_words t o ≡ step_words o
step_event t (op.Line a) g = absurd g
step_event t (op.Make s n) g = refl
step_event t (op.Adopt v k n p q) g = refl
step_event t (op.Lend v x) g = refl
step_event t (op.Land q x) g = refl
step_event t (op.Grip x) g = refl
step_event t (op.Meet v s n p q) g = refl
step_event t (op.Give v) g = refl
step_event t (op.Release q) g = refl
step_event t (op.Snap k) g = refl
step_event t (op.Contract k) g = refl
step_event t (op.Mirror k) g = refl
step_event t (op.Weaken q) g = refl
step_event t op.Begin g = refl
step_event t op.Sweep g = refl
step_event t (op.Restore q) g = refl
step_event t (op.Clear k) g = refl
step_event t (op.Resolve k) g = refl
step_event t (op.Abandon k) g = refl
step_event t (op.Refused w) g = refl

line_or_step : (t : Thread) (o : Op) → IsReadable t o → IsLineEvent t o ⊎ IsStep o
line_or_step t (op.Line a) g = inl g.0
line_or_step t (op.Make s n) g = inr g.0.1
line_or_step t (op.Adopt v k n p q) g = inr (g.0.1, g.0.2, g.1.0, g.1.1)
line_or_step t (op.Lend v x) g = inr (g.0.1, g.0.2)
line_or_step t (op.Land q x) g = inr (g.1, g.0.1)
line_or_step t (op.Grip x) g = inr g.0.1
line_or_step t (op.Meet v s n p q) g = inr (g.0.1, g.0.2, g.1.0, g.1.1)
line_or_step t (op.Give v) g = inr g.0.1
line_or_step t (op.Release q) g = inr g.1
line_or_step t (op.Snap k) g = inr g.1
line_or_step t (op.Contract k) g = inr g.1
line_or_step t (op.Mirror k) g = inr g.1
line_or_step t (op.Weaken q) g = inr g.1
line_or_step t op.Begin g = inr tt
line_or_step t op.Sweep g = inr tt
line_or_step t (op.Restore q) g = inr g.1
line_or_step t (op.Clear k) g = inr g.1
line_or_step t (op.Resolve k) g = inr g.1
line_or_step t (op.Abandon k) g = inr g.1
line_or_step t (op.Refused w) g = inr tt

line_readable : (t : Thread) (o : Op) → IsLineEvent t o → IsReadable t o
line_readable t (op.Line a) g = (g, tt)
line_readable t o g = absurd g

-- whatever event the words begin with, the same words are left
one_rest : (t : Thread) (o p : Op) (old new rest : List (List ℕ)) → old ≡ ends (event_words t) p ++ new → old ≡ ends (event_words t) o ++ rest → new ≡ rest
one_rest t o p old new rest e f =
    let same : event_words t p ++ (codes "=" ∷ new) ≡ event_words t o ++ (codes "=" ∷ rest) = sym (with_equals (event_words t p) new) ∙ (sym e ∙ (f ∙ with_equals (event_words t o) rest)) in
    (cut-first (codes "=") (event_words t p) (event_words t o) new rest (no-equals (event_words t p) (plain-event t p)) (no-equals (event_words t o) (plain-event t o)) same).1

pub event_by_line : (t : Thread) (old new : List (List ℕ)) (p : Op) → Takes (IsLineEvent t) (ends (event_words t)) old new (Some p) → Takes (IsReadable t) (ends (event_words t)) old new (Some p)
event_by_line t old new p k = record { sound = (line_readable t p k.sound.0, k.sound.1); complete = λ o rest g e. (tt, one_rest t o p old new rest k.sound.1 e) }

-- the words of a step, whoever names it
as_step : (t : Thread) (o : Op) (old rest : List (List ℕ)) → IsStep o → old ≡ ends (event_words t) o ++ rest → old ≡ ends step_words o ++ rest
as_step t o old rest g e = e ∙ ap (λ z. (z ++ codes "=" ∷ []) ++ rest) (step_event t o g)

event_none : (t : Thread) (old mid new : List (List ℕ)) → Takes (IsLineEvent t) (ends (event_words t)) old mid None
    → Takes IsStep (ends step_words) old new None → Takes (IsReadable t) (ends (event_words t)) old new None
event_none t old mid new a b = record {
  sound = tt;
  complete = λ o rest g e. absurd
      (elim (line_or_step t o g) [ inl h ↦ (a.complete o rest h e).0 | inr h ↦ (b.complete o rest h (as_step t o old rest h e)).0 ]);
}

event_by_step : (t : Thread) (old new : List (List ℕ)) (p : Op) → IsThread t → Takes IsStep (ends step_words) old new (Some p) → Takes (IsReadable t) (ends (event_words t)) old new (Some p)
event_by_step t old new p h k =
    let words : old ≡ ends (event_words t) p ++ new = k.sound.1 ∙ ap (λ z. (z ++ codes "=" ∷ []) ++ new) (sym (step_event t p k.sound.0)) in
    record { sound = (step_readable t p h k.sound.0, words); complete = λ o rest g e. (tt, one_rest t o p old new rest words e) }

-- a line's event or a step, whichever was found
pub event_rest : (t : Thread) (old mid new : List (List ℕ)) (r : Option Op) → IsThread t → Takes (IsLineEvent t) (ends (event_words t)) old mid None
    → Takes IsStep (ends step_words) old new r → Takes (IsReadable t) (ends (event_words t)) old new r
event_rest t old mid new None h a b = event_none t old mid new a b
event_rest t old mid new (Some p) h a b = event_by_step t old new p h b

-- thread c tries a step first, and then a line
pub driver_by_step : (old new : List (List ℕ)) (p : Op) → Takes IsStep (ends step_words) old new (Some p) → Takes (IsReadable C) (ends (event_words C)) old new (Some p)
driver_by_step old new p k = event_by_step C old new p tt k

pub driver_rest : (old mid new : List (List ℕ)) (r : Option Op) → Takes IsStep (ends step_words) old mid None
    → Takes (IsLineEvent C) (ends (event_words C)) old new r → Takes (IsReadable C) (ends (event_words C)) old new r
driver_rest old mid new None b a = record {
  sound = tt;
  complete = λ o rest g e. absurd
      (elim (line_or_step C o g) [ inl h ↦ (a.complete o rest h e).0 | inr h ↦ (b.complete o rest h (as_step C o old rest h e)).0 ]);
}
driver_rest old mid new (Some p) b a = event_by_line C old new p a
