-- The operands that stand at the places of a line, the texts of which are the line's words, and the act that an
-- operation with operands is. Nothing outside of this crate rests on them.
use Rattle.std.specs.Prelude.{min, ◌≡◌, ◌≢◌, ℕ, ◌≤◌, ◌^◌, ◌<◌, ◌++◌, List, [], ◌∷◌, length, map, decimal, Option, Some}
use Rattle.std.specs.Prelude.{None, option_map, Result, Ok, Err, MatchResult, cond, leb}
use Rattle.joint_machine.specs.declared.names.Kind.{Kind}
use Rattle.joint_machine.specs.declared.names.Kind.TheVariants as kind
use Rattle.joint_machine.specs.declared.names.StaticNo.{StaticNo}
use Rattle.joint_machine.specs.declared.lines.Act.{Act}
use Rattle.joint_machine.specs.declared.lines.Act.TheVariants as act
use Rattle.joint_machine.specs.Lines.{IsVar, IsVarOrNone, IsPlainObject, IsBridgeObject}
use Rattle.bridge_script.specs.declared.faults.Cause.{Cause}
use Rattle.bridge_script.specs.declared.faults.Cause.TheVariants as cause
use Rattle.bridge_script.specs.declared.grammar.Operation.{Operation}
use Rattle.bridge_script.specs.declared.grammar.Operation.TheVariants as operation
use Rattle.bridge_script.specs.declared.grammar.Place.{Place}
use Rattle.bridge_script.specs.declared.grammar.Place.TheVariants as place
use Rattle.bridge_script.specs.declared.operands.Operand.{Operand}
use Rattle.bridge_script.specs.declared.operands.Operand.TheVariants as operand
use Rattle.bridge_script.specs.Words.{var_text, optional_text, managed_static, peer_static, global_text, cell_text}
use Rattle.bridge_script.specs.Words.{kind_text, sort_text}
use Rattle.bridge_script.specs.Causes.{cause_number}
use Rattle.bridge_script.specs.Faults.{HasAt, HasAtSome, IsFirst}

-- the word for a operand
abbrev pub operand_text : Operand → List ℕ
operand_text (operand.Var v) = var_text v
operand_text (operand.VarOrNone v) = optional_text v
operand_text (operand.ManagedStatic x) = managed_static x
operand_text (operand.PeerStatic x) = peer_static x
operand_text (operand.Global g) = global_text g
operand_text (operand.Cell k) = cell_text k
operand_text (operand.Number n) = decimal n
operand_text (operand.Kind k) = kind_text k
operand_text (operand.Sort s) = sort_text s

-- the words for operands
abbrev pub texts : List Operand → List (List ℕ)
texts operands = map operand_text operands

-- the kinds of an object without a peer, and of one with a peer
abbrev pub IsPlainKind : Kind → Type 0
IsPlainKind kind.Plain = Unit {0}
IsPlainKind kind.Leaf = Unit {0}
IsPlainKind _ = ⊥

abbrev pub IsBridgeKind : Kind → Type 0
IsBridgeKind kind.Bridge = Unit {0}
IsBridgeKind kind.LeafBridge = Unit {0}
IsBridgeKind _ = ⊥

-- a operand may stand at a place
abbrev pub StandsAt : Place → Operand → Type 0
StandsAt place.Var (operand.Var v) = IsVar v
StandsAt place.VarOrNone (operand.VarOrNone v) = IsVarOrNone v
StandsAt place.ManagedStatic (operand.ManagedStatic x) = x.0 < 16
StandsAt place.PeerStatic (operand.PeerStatic x) = x.0 < 16
StandsAt place.Global (operand.Global g) = g.0 < 64
StandsAt place.Cell (operand.Cell k) = k.0 < 64
StandsAt (place.Number least most) (operand.Number n) = (least ≤ n) × (n ≤ most) × (n < 2 ^ 64)
StandsAt place.PlainKind (operand.Kind k) = IsPlainKind k
StandsAt place.BridgeKind (operand.Kind k) = IsBridgeKind k
StandsAt place.Sort (operand.Sort s) = Unit {0}
StandsAt _ _ = ⊥

-- operands may stand at places, each at its own
abbrev pub StandAll : List Place → List Operand → Type 0
StandAll [] [] = Unit {0}
StandAll (p ∷ places) (v ∷ operands) = StandsAt p v × StandAll places operands
StandAll _ _ = ⊥

-- what reading a word at a place answers: the operand that has this word, or the one cause of the word
abbrev pub ReadsAt : Place → List ℕ → Result Operand Cause → Type 0
ReadsAt p word result = MatchResult result (λ v. StandsAt p v × (operand_text v ≡ word))
    (λ c. HasAt c p word × ((d : Cause) → HasAt d p word → d ≡ c))

-- a cause of words at places, whatever the operation
abbrev pub HasAtPlaces : List Place → List (List ℕ) → Cause → Type 0
HasAtPlaces places words cause.Arity = length words ≢ length places
HasAtPlaces places words c = HasAtSome c places words

-- what reading words at places answers: the operands that have these words, or the first cause
abbrev pub ReadsPlaces : List Place → List (List ℕ) → Result (List Operand) Cause → Type 0
ReadsPlaces places words result = MatchResult result
    (λ operands. StandAll places operands × (texts operands ≡ words)) (λ c. IsFirst (HasAtPlaces places words) c)

-- the first of the causes that were found
abbrev pub earlier : Option Cause → Cause → Cause
earlier None c = c
earlier (Some b) c = cond (leb (cause_number b) (cause_number c)) b c

-- a operand was put last, or a cause was noted
abbrev pub Notes : Result Operand Cause → List Operand → List Operand → Option Cause → Option Cause → Type 0
Notes (Ok v) old new first now = (new ≡ old ++ v ∷ []) × (now ≡ first)
Notes (Err c) old new first now = (new ≡ old) × (now ≡ Some (earlier first c))

-- a number as a byte
abbrev pub byte : ℕ → ℕ
byte n = min n 255

-- the act of an operation with no operand
abbrev pub act_alone : Operation → Option Act
act_alone operation.Collect = Some act.Collect
act_alone operation.BeginMark = Some act.BeginMark
act_alone operation.SweepMark = Some act.SweepMark
act_alone (operation.Phase word) = Some (act.PhaseLine word)
act_alone _ = None

-- the act of an operation with one operand
abbrev pub act_of_one : Operation → Operand → Option Act
act_of_one operation.Drop (operand.Var v) = Some (act.Drop v)
act_of_one operation.Take (operand.Var v) = Some (act.Take v)
act_of_one operation.Dispose (operand.Var v) = Some (act.Dispose v)
act_of_one operation.Handle (operand.Var v) = Some (act.Handle v)
act_of_one operation.Read (operand.Cell k) = Some (act.Read k)
act_of_one operation.Await (operand.Cell k) = Some (act.Await k)
act_of_one operation.UnGlobal (operand.Global g) = Some (act.UnGlobal g)
act_of_one operation.Slice (operand.Number n) = Some (act.Slice n)
act_of_one operation.Finalise (operand.Number n) = Some (act.Finalise n)
act_of_one _ _ = None

-- the static of an operand, of whichever heap
abbrev pub static_of : Operand → Option StaticNo
static_of (operand.ManagedStatic x) = Some x
static_of (operand.PeerStatic x) = Some x
static_of _ = None

-- the act of an operation with two operands
abbrev pub act_of_two : Operation → Operand → Operand → Option Act
act_of_two operation.Copy (operand.Var v) (operand.Var w) = Some (act.Copy v w)
act_of_two operation.Load (operand.Var v) x = option_map (act.Load v) (static_of x)
act_of_two operation.Store x (operand.VarOrNone v) = option_map (λ s. act.Store s v) (static_of x)
act_of_two operation.Weak (operand.Cell k) (operand.Var v) = Some (act.Weak k v)
act_of_two operation.Pass (operand.Var v) (operand.PeerStatic x) = Some (act.Pass v x)
act_of_two operation.Surface (operand.Var v) (operand.PeerStatic x) = Some (act.Surface v x)
act_of_two operation.NewPeer (operand.Var v) (operand.Number n) = Some (act.NewPeer v (byte n))
act_of_two operation.Global (operand.Global g) (operand.Var v) = Some (act.Global g v)
act_of_two operation.WGlobal (operand.Global g) (operand.Var v) = Some (act.WGlobal g v)
act_of_two operation.WRead (operand.Var v) (operand.Global g) = Some (act.WRead v g)
act_of_two _ _ _ = None

-- the act of an operation with three operands
abbrev pub act_of_three : Operation → Operand → Operand → Operand → Option Act
act_of_three operation.New (operand.Var v) (operand.Kind k) (operand.Number n) = Some (act.New v k (byte n))
act_of_three operation.Set (operand.Var v) (operand.Number i) (operand.VarOrNone w) = Some (act.Set v (byte i) w)
act_of_three operation.Get (operand.Var v) (operand.Var w) (operand.Number i) = Some (act.Get v w (byte i))
act_of_three _ _ _ _ = None

-- the act of an operation with five operands
abbrev pub act_of_five : Operation → Operand → Operand → Operand → Operand → Operand → Option Act
act_of_five operation.Bridge (operand.Var v) (operand.Kind k) (operand.Number n)
    (operand.Sort s) (operand.Number f) = Some (act.Bridge v k (byte n) s (byte f))
act_of_five _ _ _ _ _ _ = None

-- the act of an operation with operands
abbrev pub act_at : Operation → List Operand → Option Act
act_at o [] = act_alone o
act_at o (a ∷ []) = act_of_one o a
act_at o (a ∷ b ∷ []) = act_of_two o a b
act_at o (a ∷ b ∷ c ∷ []) = act_of_three o a b c
act_at o (a ∷ b ∷ c ∷ d ∷ e ∷ []) = act_of_five o a b c d e
act_at _ _ = None

-- the act's kind allows what stands beside it
abbrev pub IsPossible : Act → Type 0
IsPossible (act.New v k n) = IsPlainObject k n
IsPossible (act.Bridge v k n s f) = IsBridgeObject k n s
IsPossible _ = Unit {0}
