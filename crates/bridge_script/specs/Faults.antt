-- What is wrong with a line: its causes, and which of them is the first.
-- Believed: the clauses of the program's top call rest on all that stands here.
use Rattle.std.specs.Prelude.{◌≡◌, ◌≢◌, ℕ, ◌<◌, ◌≤◌, ◌^◌, ◌⊎◌, List, [], ◌∷◌, length, Option, Some, codes, decimal}
use Rattle.joint_machine.specs.declared.names.Var.{Var}
use Rattle.joint_machine.specs.declared.names.StaticNo.{StaticNo}
use Rattle.joint_machine.specs.declared.names.GName.{GName}
use Rattle.joint_machine.specs.declared.names.Cell.{Cell}
use Rattle.joint_machine.specs.declared.names.Thread.{Thread}
use Rattle.joint_machine.specs.Lines.{IsVar, IsVarOrNone, IsThread}
use Rattle.bridge_script.specs.declared.faults.Cause.{Cause}
use Rattle.bridge_script.specs.declared.faults.Cause.TheVariants as cause
use Rattle.bridge_script.specs.declared.grammar.Operation.{Operation}
use Rattle.bridge_script.specs.declared.grammar.Operation.TheVariants as operation
use Rattle.bridge_script.specs.declared.grammar.Place.{Place}
use Rattle.bridge_script.specs.declared.grammar.Place.TheVariants as place
use Rattle.bridge_script.specs.Words.{thread_text, var_text, optional_text, managed_static, peer_static, global_text}
use Rattle.bridge_script.specs.Words.{cell_text}
use Rattle.bridge_script.specs.Grammar.{operation_text, form_of}
use Rattle.bridge_script.specs.Causes.{cause_number}

-- a word has a cause at a place: it is no such name, no number, a number out of its range, or neither of two kinds
abbrev pub HasAt : Cause → Place → List ℕ → Type 0
HasAt cause.Name place.Var word = (v : Var) → IsVar v → var_text v ≢ word
HasAt cause.Name place.VarOrNone word = (v : Option Var) → IsVarOrNone v → optional_text v ≢ word
HasAt cause.Name place.ManagedStatic word = (x : StaticNo) → x.0 < 16 → managed_static x ≢ word
HasAt cause.Name place.PeerStatic word = (x : StaticNo) → x.0 < 16 → peer_static x ≢ word
HasAt cause.Name place.Global word = (g : GName) → g.0 < 64 → global_text g ≢ word
HasAt cause.Name place.Cell word = (k : Cell) → k.0 < 64 → cell_text k ≢ word
HasAt cause.Number (place.Number least most) word = (n : ℕ) → n < 2 ^ 64 → decimal n ≢ word
HasAt cause.Limit (place.Number least most) word = (n : ℕ)
    × (n < 2 ^ 64) × (decimal n ≡ word) × ((n < least) ⊎ (most < n))
HasAt cause.Kind place.PlainKind word = (word ≢ codes "plain") × (word ≢ codes "leaf")
HasAt cause.Kind place.BridgeKind word = (word ≢ codes "bridge") × (word ≢ codes "leafbridge")
HasAt cause.Kind place.Sort word = (word ≢ codes "user") × (word ≢ codes "framework")
HasAt _ _ _ = ⊥

-- at one of the places stands a word that has the cause
abbrev pub HasAtSome : Cause → List Place → List (List ℕ) → Type 0
HasAtSome c (p ∷ places) (word ∷ words) = HasAt c p word ⊎ HasAtSome c places words
HasAtSome c _ _ = ⊥

-- no bridge object has this kind, these fields and this sort of peer: a leaf bridge has fields, or a bridge has a
-- framework's peer
abbrev pub ClashesAs : List ℕ → List ℕ → List ℕ → Type 0
ClashesAs kind fields sort = ((kind ≡ codes "leafbridge") × (fields ≢ codes "0"))
    ⊎ ((kind ≡ codes "bridge") × (sort ≡ codes "framework"))

-- a kind stands beside what it doesn't allow
abbrev pub Clashes : Operation → List (List ℕ) → Type 0
Clashes operation.New (v ∷ kind ∷ n ∷ rest) = (kind ≡ codes "leaf") × (n ≢ codes "0")
Clashes operation.Bridge (v ∷ kind ∷ n ∷ sort ∷ rest) = ClashesAs kind n sort
Clashes _ _ = ⊥

-- a cause of the words behind an operation with these places
abbrev pub PlacesHave : Operation → List Place → List (List ℕ) → Cause → Type 0
PlacesHave o places words cause.Arity = length words ≢ length places
PlacesHave o places words cause.Name = HasAtSome cause.Name places words
PlacesHave o places words cause.Number = HasAtSome cause.Number places words
PlacesHave o places words cause.Limit = HasAtSome cause.Limit places words
PlacesHave o places words cause.Kind = HasAtSome cause.Kind places words ⊎ Clashes o words
PlacesHave o places words _ = ⊥

-- the words begin with a thread and an operation of it; these are its places, and the rest follows
pub record Reads (words : List (List ℕ)) (t : Thread) (o : Operation)
    (places : List Place) (rest : List (List ℕ)) : Type 0 where
  pub thread : IsThread t
  pub form : form_of t o ≡ Some places
  pub begins : words ≡ thread_text t ∷ operation_text o ∷ rest

-- the words begin with a thread and an operation, and what follows has the cause
pub record ReadsWith (words : List (List ℕ)) (c : Cause) : Type 0 where
  pub t : Thread
  pub o : Operation
  pub places : List Place
  pub rest : List (List ℕ)
  pub reads : Reads words t o places rest
  pub holds : PlacesHave o places rest c

-- a cause of a line's words, wherever the line stands
abbrev pub WordsHave : List (List ℕ) → Cause → Type 0
WordsHave words cause.Unknown = (t : Thread) (o : Operation) (places : List Place) (rest : List (List ℕ))
    → Reads words t o places rest → ⊥
WordsHave words c = ReadsWith words c

-- a line where it stands: its words, its number, how many lines before it are `c cycle` or `c snap`, and how
-- many bytes there are up to its end
pub record PlacedLine : Type 0 where
  pub words : List (List ℕ)
  pub number : ℕ
  pub cycles : ℕ
  pub end : ℕ

-- the line is within the bytes and the lines of a script
abbrev pub IsWithinLimits : PlacedLine → Type 0
IsWithinLimits l = (l.end ≤ 8388608) × (l.number ≤ 20000)

-- the words ask for a cycle, whole or begun
abbrev pub AskCycle : List (List ℕ) → Type 0
AskCycle words = (words ≡ codes "c" ∷ codes "cycle" ∷ []) ⊎ (words ≡ codes "c" ∷ codes "snap" ∷ [])

-- a cause of a line where it stands: that of bytes excludes all others, and that of lines all but that of bytes
abbrev pub Has : PlacedLine → Cause → Type 0
Has l cause.Bytes = 8388608 < l.end
Has l cause.Lines = (l.end ≤ 8388608) × (20000 < l.number)
Has l cause.Cycles = IsWithinLimits l × AskCycle l.words × (256 ≤ l.cycles)
Has l c = IsWithinLimits l × WordsHave l.words c

-- the first of the causes that there are
pub record IsFirst (Has : Cause → Type 0) (c : Cause) : Type 0 where
  pub here : Has c
  pub first : (other : Cause) → Has other → cause_number c ≤ cause_number other
