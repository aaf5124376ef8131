-- An event of a managed or a peer thread is read back from its words by the first of them. The peer and the handle that
-- an event names are those of the state, so they are taken from there.
use Rattle.std.proofs.Common.{◌≡◌, ℕ, ◌+◌, ◌-◌, ◌*◌, ◌<◌, ◌^◌, min, Bool, false, cond, List, [], ◌∷◌, get_or, Option, Some, None, codes, decimal, refl, ◌∙◌, ap, arith}
use Rattle.std.specs.Prelude.{nat_eq, if◌then◌else◌}
use Rattle.std.specs.Str.Parse.{digits_value}
use Rattle.std.proofs.Math.Dec.{eqb}
use Rattle.std.proofs.lemmas.Bool.Decides.{nat_tests}
use Rattle.std.proofs.lemmas.Fmt.{decimal_is_IsNumeral}
use Rattle.joint_machine.specs.declared.names.Var.{Var}
use Rattle.joint_machine.specs.declared.names.StaticNo.{StaticNo}
use Rattle.joint_machine.specs.declared.names.Cell.{Cell}
use Rattle.joint_machine.specs.declared.names.GName.{GName}
use Rattle.joint_machine.specs.declared.names.PNum.{PNum}
use Rattle.joint_machine.specs.declared.names.HNum.{HNum}
use Rattle.joint_machine.specs.declared.names.Thread.{Thread}
use Rattle.joint_machine.specs.declared.names.Thread.TheVariants.{M, P, C}
use Rattle.joint_machine.specs.declared.names.Kind.{Kind}
use Rattle.joint_machine.specs.declared.names.Kind.TheVariants as kind
use Rattle.joint_machine.specs.declared.names.Sort.{Sort}
use Rattle.joint_machine.specs.declared.names.Sort.TheVariants as sort
use Rattle.joint_machine.specs.declared.lines.Act.{Act}
use Rattle.joint_machine.specs.declared.lines.Act.TheVariants as act
use Rattle.joint_machine.specs.declared.events.Op.{Op}
use Rattle.joint_machine.specs.declared.events.Op.TheVariants as op
use Rattle.joint_machine.specs.Lines.{IsVar, IsVarOrNone}
use Rattle.bridge_script.specs.Words.{var_text, optional_text, own_static, kind_text, sort_text}

-- what the state says of an event's names: the peer and the handle that a managed thread is in the midst of
pub record Names : Type 0 where
  pub peer : ℕ
  pub handle : ℕ

-- a word as a number, so that words are compared by computing
abbrev pub code : List ℕ → ℕ
code [] = 0
code (b ∷ bs) = b + 256 * code bs

abbrev pub is_word : List ℕ → List ℕ → Bool
is_word v w = nat_eq (code v) (code w)

abbrev pub behind : List ℕ → List ℕ
behind [] = []
behind (b ∷ bs) = bs

abbrev pub number_of : List ℕ → ℕ
number_of w = digits_value 10 w

-- the number behind a letter
abbrev pub number_in : List ℕ → ℕ
number_in w = digits_value 10 (behind w)

abbrev pub var_of : List ℕ → Var
var_of w = record { 0 = get_or w 0 0 - 97 }

abbrev pub optional_of : List ℕ → Option Var
optional_of w = if nat_eq (get_or w 0 0) 45 then None else Some (var_of w)

abbrev pub static_of : List ℕ → StaticNo
static_of w = record { 0 = number_in w }

abbrev pub cell_of : List ℕ → Cell
cell_of w = record { 0 = number_in w }

abbrev pub global_of : List ℕ → GName
global_of w = record { 0 = number_in w }

abbrev pub kind_of : List ℕ → Kind
kind_of w = if is_word w (codes "plain") then kind.Plain else (if is_word w (codes "leaf") then kind.Leaf else (if is_word w (codes "bridge") then kind.Bridge else kind.LeafBridge))

abbrev pub sort_of : List ℕ → Sort
sort_of w = if is_word w (codes "user") then sort.User else sort.Framework

abbrev pub peer_of : Names → PNum
peer_of s = record { 0 = s.peer }

abbrev pub handle_of : Names → HNum
handle_of s = record { 0 = s.handle }

-- the word at a place
abbrev pub at : List (List ℕ) → ℕ → List ℕ
at ws i = get_or ws i []

-- `new` of either side
abbrev pub read_new : List (List ℕ) → Act
read_new (v ∷ k ∷ n ∷ ws) = act.New (var_of v) (kind_of k) (number_of n)
read_new ws = act.NewPeer (var_of (at ws 0)) (number_of (at ws 1))

abbrev pub read_act : List ℕ → List (List ℕ) → Act
read_act w ws = if is_word w (codes "new") then read_new ws
    else (if is_word w (codes "copy") then act.Copy (var_of (at ws 0)) (var_of (at ws 1))
    else (if is_word w (codes "set") then act.Set (var_of (at ws 0)) (number_of (at ws 1)) (optional_of (at ws 2))
    else (if is_word w (codes "get") then act.Get (var_of (at ws 0)) (var_of (at ws 1)) (number_of (at ws 2))
    else (if is_word w (codes "drop") then act.Drop (var_of (at ws 0))
    else (if is_word w (codes "load") then act.Load (var_of (at ws 0)) (static_of (at ws 1))
    else (if is_word w (codes "store") then act.Store (static_of (at ws 0)) (optional_of (at ws 1))
    else (if is_word w (codes "weak") then act.Weak (cell_of (at ws 0)) (var_of (at ws 1))
    else (if is_word w (codes "read") then act.Read (cell_of (at ws 0))
    else (if is_word w (codes "wait") then act.Await (cell_of (at ws 0))
    else (if is_word w (codes "take") then act.Take (var_of (at ws 0))
    else (if is_word w (codes "handle") then act.Handle (var_of (at ws 0))
    else (if is_word w (codes "global") then act.Global (global_of (at ws 0)) (var_of (at ws 1))
    else (if is_word w (codes "wglobal") then act.WGlobal (global_of (at ws 0)) (var_of (at ws 1))
    else (if is_word w (codes "unglobal") then act.UnGlobal (global_of (at ws 0))
    else (if is_word w (codes "wread") then act.WRead (var_of (at ws 0)) (global_of (at ws 1))
    else act.Slice (number_of (at ws 0)))))))))))))))))

abbrev pub read_event : Names → List (List ℕ) → Op
read_event s [] = op.Begin
read_event s (w ∷ ws) = if is_word w (codes "make") then op.Make (sort_of (at ws 0)) (number_of (at ws 1))
    else (if is_word w (codes "adopt") then op.Adopt (var_of (at ws 0)) (kind_of (at ws 1)) (number_of (at ws 2)) (peer_of s) (handle_of s)
    else (if is_word w (codes "lend") then op.Lend (var_of (at ws 0)) (static_of (at ws 1))
    else (if is_word w (codes "land") then op.Land (handle_of s) (static_of (at ws 1))
    else (if is_word w (codes "grip") then op.Grip (static_of (at ws 0))
    else (if is_word w (codes "meet") then op.Meet (var_of (at ws 0)) (sort_of (at ws 3)) (number_of (at ws 4)) (peer_of s) (handle_of s)
    else (if is_word w (codes "give") then op.Give (var_of (at ws 0))
    else (if is_word w (codes "release") then op.Release (handle_of s)
    else (if is_word w (codes "begin") then op.Begin
    else (if is_word w (codes "sweep") then op.Sweep
    else op.Line (read_act w ws))))))))))

-- each place is read back from its word
pub read-number : (n : ℕ) → n < 2 ^ 64 → digits_value 10 (decimal n) ≡ n
read-number n l = (decimal_is_IsNumeral n l).1

pub read-var : (v : Var) → IsVar v → var_of (var_text v) ≡ v
read-var v l = let e : min (97 + v.0) 255 - 97 ≡ v.0 = omega arith in λ i. record { 0 = e i }

pub read-optional : (v : Option Var) → IsVarOrNone v → optional_of (optional_text v) ≡ v
read-optional None h = refl
read-optional (Some v) h =
    let e : eqb (min (97 + v.0) 255) 45 ≡ false = grind (arith, nat_tests) in
    ap (λ t. cond t None (Some (var_of (var_text v)))) e ∙ ap Some (read-var v h)

pub read-kind : (k : Kind) → kind_of (kind_text k) ≡ k
read-kind kind.Plain = refl
read-kind kind.Leaf = refl
read-kind kind.Bridge = refl
read-kind kind.LeafBridge = refl

pub read-sort : (s : Sort) → sort_of (sort_text s) ≡ s
read-sort sort.User = refl
read-sort sort.Framework = refl

pub read-static : (x : StaticNo) (w : List ℕ) → x.0 < 16 → behind w ≡ decimal x.0 → static_of w ≡ x
read-static x w l e = let n : number_in w ≡ x.0 = ap (digits_value 10) e ∙ read-number x.0 (omega arith) in λ i. record { 0 = n i }

pub read-own : (t : Thread) (x : StaticNo) → x.0 < 16 → static_of (own_static t x) ≡ x
read-own (M n) x l = read-static x (own_static (M n) x) l refl
read-own (P n) x l = read-static x (own_static (P n) x) l refl
read-own C x l = read-static x (own_static C x) l refl

pub read-cell : (k : Cell) → k.0 < 64 → cell_of (107 ∷ decimal k.0) ≡ k
read-cell k l = let n = read-number k.0 (omega arith) in λ i. record { 0 = n i }

pub read-global : (g : GName) → g.0 < 64 → global_of (71 ∷ decimal g.0) ≡ g
read-global g l = let n = read-number g.0 (omega arith) in λ i. record { 0 = n i }
