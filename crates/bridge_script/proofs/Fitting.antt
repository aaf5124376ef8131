-- The words of a line that a script can have, have no cause. And what the words behind an operation say is the line, or
-- its first cause: that of the places, which comes before that of a kind beside what it doesn't allow.
use Rattle.std.proofs.Common.{◌≡◌, ℕ, ◌≤◌, List, [], ◌∷◌, Some, sym, ◌∙◌, ap, subst, inl, inr, lit≤}
use Rattle.std.proofs.lemmas.List.Splits.{join_with_byte-slice_split}
use Rattle.joint_machine.specs.declared.names.Thread.{Thread}
use Rattle.joint_machine.specs.declared.names.Thread.TheVariants.{M, P, C}
use Rattle.joint_machine.specs.declared.lines.Act.{Act}
use Rattle.joint_machine.specs.Lines.{IsThread, IsLine}
use Rattle.joint_machine.proofs.Deciding.{some-same}
use Rattle.bridge_script.specs.declared.faults.Cause.{Cause}
use Rattle.bridge_script.specs.declared.faults.Cause.TheVariants as cause
use Rattle.bridge_script.specs.declared.grammar.Operation.{Operation}
use Rattle.bridge_script.specs.declared.grammar.Place.{Place}
use Rattle.bridge_script.specs.declared.operands.Operand.{Operand}
use Rattle.bridge_script.specs.Causes.{cause_number}
use Rattle.text_words.specs.Words.{spaced, words_of}
use Rattle.bridge_script.specs.Words.{thread_text, act_words, line_words, line_text}
use Rattle.bridge_script.specs.Grammar.{operation_text, form_of}
use Rattle.bridge_script.specs.Answers.{operation_of}
use Rattle.bridge_script.specs.Faults.{HasAt, HasAtSome, PlacesHave, Reads, WordsHave, IsFirst}
use Rattle.bridge_script.specs.Operands.{texts, StandAll, act_at, IsPossible, HasAtPlaces}
use Rattle.bridge_script.specs.Scripts.{IsScriptLine}
use Rattle.bridge_script.proofs.Readings.{has_behind}
use Rattle.bridge_script.proofs.Standing.{all_fit, as_many}
use Rattle.bridge_script.proofs.Table.{fits_table}
use Rattle.bridge_script.proofs.Asking.{asked_of}

pub lawful_thread : (t : Thread) (a : Act) → IsLine t a → IsThread t
lawful_thread (M n) a l = l.0
lawful_thread (P n) a l = l.0
lawful_thread C a l = tt

-- the words of a line have no cause
pub none_of_line : (line : Thread × Act) → IsScriptLine line → (c : Cause) → WordsHave (line_words line) c → ⊥
none_of_line line b c h =
    let f = fits_table line.0 line.1 b in
    let reads : Reads (line_words line) line.0 (operation_of line.1) f.places
    f.rest = record { thread = lawful_thread line.0 line.1 b; form = f.form; begins = ap (λ ws. thread_text line.0 ∷ ws) f.words } in
    f.none c (has_behind (line_words line) line.0 (operation_of line.1) f.places f.rest reads c h)

-- the act that the words behind a thread ask for makes the line of the text
pub line_read : (text : List ℕ) (t : Thread) (ws : List (List ℕ)) (a : Act) → words_of text ≡ thread_text t ∷ ws
    → IsScriptLine (t, a) → act_words t a ≡ ws → IsScriptLine (t, a) × (line_text (t, a) ≡ text)
line_read text t ws a e b w = (b, ap spaced (ap (λ x. thread_text t ∷ x) w ∙ sym e) ∙ join_with_byte-slice_split 32 text)

-- no word has a cause that no place has
pub none_at : (c : Cause) → ((p : Place) (w : List ℕ) → HasAt c p w → ⊥) → (ps : List Place) (ws : List (List ℕ)) → HasAtSome c ps ws → ⊥
none_at c n [] ws h = absurd h
none_at c n (p ∷ ps) [] h = absurd h
none_at c n (p ∷ ps) (w ∷ ws) h = elim h [ inl x ↦ n p w x | inr x ↦ none_at c n ps ws x ]

-- a cause of the places is one of the words, and its number is at most that of kinds
places_cause : (o : Operation) (ps : List Place) (ws : List (List ℕ)) (c : Cause) → HasAtPlaces ps ws c → PlacesHave o ps ws c × (cause_number c ≤ 6)
places_cause o ps ws cause.Unknown h = absurd (none_at cause.Unknown (λ p w x. x) ps ws h)
places_cause o ps ws cause.Arity h = (h, lit≤ tt)
places_cause o ps ws cause.Name h = (h, lit≤ tt)
places_cause o ps ws cause.Number h = (h, lit≤ tt)
places_cause o ps ws cause.Limit h = (h, lit≤ tt)
places_cause o ps ws cause.Kind h = (inl h, lit≤ tt)
places_cause o ps ws cause.Cycles h = absurd (none_at cause.Cycles (λ p w x. x) ps ws h)
places_cause o ps ws cause.Lines h = absurd (none_at cause.Lines (λ p w x. x) ps ws h)
places_cause o ps ws cause.Bytes h = absurd (none_at cause.Bytes (λ p w x. x) ps ws h)

before_clash : (o : Operation) (ps : List Place) (ws : List (List ℕ)) (c : Cause) → IsFirst (HasAtPlaces ps ws) c → (d : Cause) → PlacesHave o ps ws d → cause_number c ≤ cause_number d
before_clash o ps ws c f cause.Arity h = f.first cause.Arity h
before_clash o ps ws c f cause.Name h = f.first cause.Name h
before_clash o ps ws c f cause.Number h = f.first cause.Number h
before_clash o ps ws c f cause.Limit h = f.first cause.Limit h
before_clash o ps ws c f cause.Kind h = elim h [ inl x ↦ f.first cause.Kind x | inr x ↦ (places_cause o ps ws c f.here).1 ]
before_clash o ps ws c f d h = absurd h

-- the first cause of the places is the first of the words
pub places_first : (o : Operation) (ps : List Place) (ws : List (List ℕ)) (c : Cause) → IsFirst (HasAtPlaces ps ws) c → IsFirst (PlacesHave o ps ws) c
places_first o ps ws c f = record { here = (places_cause o ps ws c f.here).0; first = before_clash o ps ws c f }

after_places : (o : Operation) (ps : List Place) (xs : List Operand) → StandAll ps xs → (d : Cause) → PlacesHave o ps (texts xs) d → 6 ≤ cause_number d
after_places o ps xs s cause.Arity h = absurd (h (as_many ps xs s))
after_places o ps xs s cause.Name h = absurd (all_fit ps xs s cause.Name h)
after_places o ps xs s cause.Number h = absurd (all_fit ps xs s cause.Number h)
after_places o ps xs s cause.Limit h = absurd (all_fit ps xs s cause.Limit h)
after_places o ps xs s cause.Kind h = lit≤ tt
after_places o ps xs s d h = absurd h

-- where operands stand at the places, and make no act that may be, a kind is the first cause
pub kind_first : (t : Thread) (o : Operation) (ps : List Place) (xs : List Operand) (ws : List (List ℕ)) → form_of t o ≡ Some ps
    → StandAll ps xs → texts xs ≡ ws → ((a : Act) → act_at o xs ≡ Some a → IsPossible a → ⊥) → IsFirst (PlacesHave o ps ws) cause.Kind
kind_first t o ps xs ws f s e none =
    let a = asked_of t o ps xs f s in
    let F : List (List ℕ) → Type 0 = λ w. IsFirst (PlacesHave o ps w) cause.Kind in
    subst F e record { here = inr (a.clash (none a.act a.is)); first = after_places o ps xs s }

-- and where they make one that may be, it makes the line of the text
pub line_asked : (text : List ℕ) (t : Thread) (o : Operation) (ps : List Place) (ws : List (List ℕ)) (xs : List Operand) (a : Act)
    → Reads (words_of text) t o ps ws → StandAll ps xs → texts xs ≡ ws → act_at o xs ≡ Some a → IsPossible a → IsScriptLine (t, a) × (line_text (t, a) ≡ text)
line_asked text t o ps ws xs a r s e i p =
    let k = asked_of t o ps xs r.form s in
    let same : k.act ≡ a = some-same k.act a (sym k.is ∙ i) in
    let L : Act → Type 0 = λ x. IsScriptLine (t, x) × (line_text (t, x) ≡ text) in
    let possible : IsPossible k.act = (let I : Act → Type 0 = λ x. IsPossible x in subst I (sym same) p) in
    let words : act_words t k.act ≡ operation_text o ∷ ws = k.words ∙ ap (λ w. operation_text o ∷ w) e in
    subst L same (line_read text t (operation_text o ∷ ws) k.act r.begins (k.lawful r.thread possible) words)
