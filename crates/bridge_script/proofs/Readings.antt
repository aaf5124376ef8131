-- The words of a line begin with one thread and one operation at most, since threads have different texts, and
-- so have the operations of one thread. So the causes that stand behind the operation are all
-- that the line has, and the first of them is its first cause.
use Rattle.std.proofs.Common.{◌≡◌, ◌≢◌, ℕ, ◌≤◌, Bool, true, cond, List, [], ◌∷◌, length, Option, Some, None, sym, ◌∙◌, ap, refl, arith, subst, get_or, lit≤, bytes_eq}
use Rattle.std.proofs.Math.Dec.{leb}
use Rattle.std.proofs.lemmas.Bool.{leb-true}
use Rattle.std.proofs.lemmas.Fmt.{decimal_injective}
use Rattle.joint_machine.specs.declared.names.PhaseWord.TheVariants as phase
use Rattle.joint_machine.specs.declared.names.Thread.{Thread}
use Rattle.joint_machine.specs.declared.names.Thread.TheVariants.{M, P, C}
use Rattle.joint_machine.specs.Lines.{IsThread}
use Rattle.joint_machine.proofs.Deciding.{some-same}
use Rattle.bridge_script.specs.declared.faults.Cause.{Cause}
use Rattle.bridge_script.specs.declared.faults.Cause.TheVariants as cause
use Rattle.bridge_script.specs.declared.grammar.Operation.{Operation}
use Rattle.bridge_script.specs.declared.grammar.Operation.TheVariants as operation
use Rattle.bridge_script.specs.declared.grammar.Place.{Place}
use Rattle.bridge_script.specs.Words.{thread_text}
use Rattle.bridge_script.specs.Causes.{cause_number}
use Rattle.bridge_script.specs.Grammar.{operation_text, managed_form, peer_form, driver_form, form_of}
use Rattle.bridge_script.specs.Faults.{PlacesHave, Reads, ReadsWith, WordsHave, IsFirst}

pub same_thread : (s t : Thread) → IsThread s → IsThread t → thread_text s ≡ thread_text t → s ≡ t
same_thread (M a) (M b) p q e = ap M (decimal_injective a b (omega arith) (omega arith) (cc))
same_thread (M a) (P b) p q e = absurd (omega (arith, ap (λ w. get_or w 0 0) e))
same_thread (M a) C p q e = absurd (omega (arith, ap (λ w. get_or w 0 0) e))
same_thread (P a) (M b) p q e = absurd (omega (arith, ap (λ w. get_or w 0 0) e))
same_thread (P a) (P b) p q e = ap P (decimal_injective a b (omega arith) (omega arith) (cc))
same_thread (P a) C p q e = absurd (omega (arith, ap (λ w. get_or w 0 0) e))
same_thread C (M b) p q e = absurd (omega (arith, ap (λ w. get_or w 0 0) e))
same_thread C (P b) p q e = absurd (omega (arith, ap (λ w. get_or w 0 0) e))
same_thread C C p q e = refl

-- the first of these operations that has a word
abbrev find : List Operation → List ℕ → Operation
find [] w = operation.New
find (o ∷ os) w = cond (bytes_eq (operation_text o) w) o (find os w)

abbrev managed : List ℕ → Operation
managed = find (operation.New ∷ operation.Bridge ∷ operation.Copy ∷ operation.Set ∷ operation.Get ∷ operation.Drop ∷ operation.Load ∷ operation.Store
    ∷ operation.Weak ∷ operation.Read ∷ operation.Await ∷ operation.Take ∷ operation.Pass ∷ operation.Surface ∷ operation.Dispose ∷ operation.Handle ∷ [])

abbrev peers : List ℕ → Operation
peers = find (operation.Copy ∷ operation.Set ∷ operation.Get ∷ operation.Drop ∷ operation.Load ∷ operation.Store ∷ operation.NewPeer ∷ operation.Global
    ∷ operation.WGlobal ∷ operation.UnGlobal ∷ operation.WRead ∷ operation.Collect ∷ operation.BeginMark ∷ operation.Slice ∷ operation.SweepMark ∷ [])

abbrev driven : List ℕ → Operation
driven = find ((operation.Phase phase.Cycle) ∷ (operation.Phase phase.Snap) ∷ (operation.Phase phase.Contract) ∷ (operation.Phase phase.Mirror) ∷ (operation.Phase phase.Weaken)
    ∷ (operation.Phase phase.Mark) ∷ (operation.Phase phase.Sweep) ∷ (operation.Phase phase.Restore) ∷ (operation.Phase phase.Resolve) ∷ operation.Finalise ∷ [])

-- an operation of a thread is found by its word
known_managed : (o : Operation) (ps : List Place) → managed_form o ≡ Some ps → managed (operation_text o) ≡ o
known_managed operation.New ps f = refl
known_managed operation.Bridge ps f = refl
known_managed operation.Copy ps f = refl
known_managed operation.Set ps f = refl
known_managed operation.Get ps f = refl
known_managed operation.Drop ps f = refl
known_managed operation.Load ps f = refl
known_managed operation.Store ps f = refl
known_managed operation.Weak ps f = refl
known_managed operation.Read ps f = refl
known_managed operation.Await ps f = refl
known_managed operation.Take ps f = refl
known_managed operation.Pass ps f = refl
known_managed operation.Surface ps f = refl
known_managed operation.Dispose ps f = refl
known_managed operation.Handle ps f = refl
known_managed o ps f = absurd (cc)

known_peer : (o : Operation) (ps : List Place) → peer_form o ≡ Some ps → peers (operation_text o) ≡ o
known_peer operation.Copy ps f = refl
known_peer operation.Set ps f = refl
known_peer operation.Get ps f = refl
known_peer operation.Drop ps f = refl
known_peer operation.Load ps f = refl
known_peer operation.Store ps f = refl
known_peer operation.NewPeer ps f = refl
known_peer operation.Global ps f = refl
known_peer operation.WGlobal ps f = refl
known_peer operation.UnGlobal ps f = refl
known_peer operation.WRead ps f = refl
known_peer operation.Collect ps f = refl
known_peer operation.BeginMark ps f = refl
known_peer operation.Slice ps f = refl
known_peer operation.SweepMark ps f = refl
known_peer o ps f = absurd (cc)

known_driver : (o : Operation) (ps : List Place) → driver_form o ≡ Some ps → driven (operation_text o) ≡ o
known_driver (operation.Phase phase.Cycle) ps f = refl
known_driver (operation.Phase phase.Snap) ps f = refl
known_driver (operation.Phase phase.Contract) ps f = refl
known_driver (operation.Phase phase.Mirror) ps f = refl
known_driver (operation.Phase phase.Weaken) ps f = refl
known_driver (operation.Phase phase.Mark) ps f = refl
known_driver (operation.Phase phase.Sweep) ps f = refl
known_driver (operation.Phase phase.Restore) ps f = refl
known_driver (operation.Phase phase.Resolve) ps f = refl
known_driver operation.Finalise ps f = refl
known_driver o ps f = absurd (cc)

-- so the operations of a thread have different words
pub same_operation : (t : Thread) (o p : Operation) (ps qs : List Place) → form_of t o ≡ Some ps → form_of t p ≡ Some qs → operation_text o ≡ operation_text p → o ≡ p
same_operation (M n) o p ps qs f g e = sym (known_managed o ps f) ∙ (ap managed e ∙ known_managed p qs g)
same_operation (P n) o p ps qs f g e = sym (known_peer o ps f) ∙ (ap peers e ∙ known_peer p qs g)
same_operation C o p ps qs f g e = sym (known_driver o ps f) ∙ (ap driven e ∙ known_driver p qs g)

-- an operation has at most five places
abbrev is_short : Option (List Place) → Bool
is_short None = true
is_short (Some ps) = leb (length ps) 5

short_managed : (o : Operation) → is_short (managed_form o) ≡ true
short_managed operation.New = refl
short_managed o = refl

short_peer : (o : Operation) → is_short (peer_form o) ≡ true
short_peer operation.Copy = refl
short_peer o = refl

short_driver : (o : Operation) → is_short (driver_form o) ≡ true
short_driver operation.Finalise = refl
short_driver o = refl

short_form : (t : Thread) (o : Operation) → is_short (form_of t o) ≡ true
short_form (M n) o = short_managed o
short_form (P n) o = short_peer o
short_form C o = short_driver o

pub few_places : (t : Thread) (o : Operation) (ps : List Place) → form_of t o ≡ Some ps → length ps ≤ 5
few_places t o ps f = leb-true (length ps) 5 (ap is_short (sym f) ∙ short_form t o)

-- the words begin in one way
pub record Same (t : Thread) (o : Operation) (ps : List Place) (ws : List (List ℕ)) (t' : Thread) (o' : Operation) (ps' : List Place) (ws' : List (List ℕ)) : Type 0 where
  pub thread : t ≡ t'
  pub operation : o ≡ o'
  pub places : ps ≡ ps'
  pub rest : ws ≡ ws'

pub one_reading : (words : List (List ℕ)) (t : Thread) (o : Operation) (ps : List Place) (ws : List (List ℕ)) (t' : Thread) (o' : Operation) (ps' : List Place) (ws' : List (List ℕ))
    → Reads words t o ps ws → Reads words t' o' ps' ws' → Same t o ps ws t' o' ps' ws'
one_reading words t o ps ws t' o' ps' ws' r s =
    let e : thread_text t ∷ operation_text o ∷ ws ≡ thread_text t' ∷ operation_text o' ∷ ws' = sym r.begins ∙ s.begins in
    let first : thread_text t ≡ thread_text t' = ap (λ w. get_or w 0 []) e in
    let second : operation_text o ≡ operation_text o' = ap (λ w. get_or w 1 []) e in
    let et = same_thread t t' r.thread s.thread first in
    let F : Thread → Type 0 = λ x. form_of x o' ≡ Some ps' in
    let eo = same_operation t o o' ps ps' r.form (subst F (sym et) s.form) second in
    let ef : Some ps ≡ Some ps' = sym r.form ∙ (ap (λ x. form_of x o) et ∙ (ap (λ x. form_of t' x) eo ∙ s.form)) in
    record { thread = et; operation = eo; places = some-same ps ps' ef; rest = cc }

least_number : (c : Cause) → 1 ≤ cause_number c
least_number cause.Unknown = lit≤ tt
least_number c = lit≤ tt

-- where words begin with no thread and operation of it, this is their first cause
pub unknown_first : (words : List (List ℕ)) → ((t : Thread) (o : Operation) (ps : List Place) (ws : List (List ℕ)) → Reads words t o ps ws → ⊥) → IsFirst (WordsHave words) cause.Unknown
unknown_first words none = record { here = none; first = λ d h. least_number d }

has_here : (words : List (List ℕ)) (t : Thread) (o : Operation) (ps : List Place) (ws : List (List ℕ)) → Reads words t o ps ws → (c : Cause) → PlacesHave o ps ws c → WordsHave words c
has_here words t o ps ws r cause.Unknown h = absurd h
has_here words t o ps ws r c h = record { t = t; o = o; places = ps; rest = ws; reads = r; holds = h }

has_there : (words : List (List ℕ)) (t : Thread) (o : Operation) (ps : List Place) (ws : List (List ℕ)) → Reads words t o ps ws → (c : Cause) → ReadsWith words c → PlacesHave o ps ws c
has_there words t o ps ws r c w =
    let s = one_reading words w.t w.o w.places w.rest t o ps ws w.reads r in
    let A : Operation → Type 0 = λ x. PlacesHave x w.places w.rest c in
    let B : List Place → Type 0 = λ x. PlacesHave o x w.rest c in
    let D : List (List ℕ) → Type 0 = λ x. PlacesHave o ps x c in
    subst D s.rest (subst B s.places (subst A s.operation w.holds))

-- a cause of the words stands behind their operation
pub has_behind : (words : List (List ℕ)) (t : Thread) (o : Operation) (ps : List Place) (ws : List (List ℕ)) → Reads words t o ps ws → (c : Cause) → WordsHave words c → PlacesHave o ps ws c
has_behind words t o ps ws r cause.Unknown h = absurd (h t o ps ws r)
has_behind words t o ps ws r c h = has_there words t o ps ws r c h

-- the first cause behind the operation is the first of the words
pub first_behind : (words : List (List ℕ)) (t : Thread) (o : Operation) (ps : List Place) (ws : List (List ℕ))
    → Reads words t o ps ws → (c : Cause) → IsFirst (PlacesHave o ps ws) c → IsFirst (WordsHave words) c
first_behind words t o ps ws r c f = record { here = has_here words t o ps ws r c f.here; first = λ d h. f.first d (has_behind words t o ps ws r d h) }

-- words that begin with a thread, and go on with no operation of it
pub unknown_behind : (t : Thread) (ws : List (List ℕ)) → IsThread t → ((o : Operation) (ps : List Place) (rest : List (List ℕ)) → form_of t o ≡ Some ps → ws ≢ operation_text o ∷ rest)
    → (s : Thread) (o : Operation) (ps : List Place) (rest : List (List ℕ)) → Reads (thread_text t ∷ ws) s o ps rest → ⊥
unknown_behind t ws l none s o ps rest r =
    let e : t ≡ s = same_thread t s l r.thread (ap (λ w. get_or w 0 []) r.begins) in
    let F : Thread → Type 0 = λ x. form_of x o ≡ Some ps in
    none o ps rest (subst F (sym e) r.form) (let b = r.begins in cc)

-- so this is their first cause
pub unknown_here : (words : List (List ℕ)) (t : Thread) (ws : List (List ℕ)) → words ≡ thread_text t ∷ ws → IsThread t
    → ((o : Operation) (ps : List Place) (rest : List (List ℕ)) → form_of t o ≡ Some ps → ws ≢ operation_text o ∷ rest) → IsFirst (WordsHave words) cause.Unknown
unknown_here words t ws e l none = unknown_first words (λ s o ps rest r. unknown_behind t ws l none s o ps rest (let F : List (List ℕ) → Type 0 = λ w. Reads w s o ps rest in subst F e r))
