-- What stands at a place has a word that has no cause there, of at most 20 printed bytes; and what stands at one
-- place is told by its word. Each is shown place by place, and then of places in a row.
use Rattle.std.proofs.Common.{min, ◌≡◌, ℕ, ◌+◌, ◌*◌, ◌<◌, ◌≤◌, ◌^◌, Bool, true, false, cond, List, [], ◌∷◌, Option, Some, None, codes, decimal, length, get_or, ap, refl, arith, ◌%◌, lit<, lit≤, inl}
use Rattle.std.proofs.Common.{inr}
use Rattle.std.specs.List.{All, AllByRecursion, list_all}
use Rattle.std.proofs.Math.Dec.{ltb}
use Rattle.std.proofs.lemmas.Bool.Decides.{nat_tests}
use Rattle.std.proofs.lemmas.Fmt.{decimal_injective, decimal_by_steps, length-decimal-le}
use Rattle.std.proofs.lemmas.List.Elements.{All-cons, All-nil, All-push, All-weaker}
use Rattle.std.proofs.lemmas.List.Sums.{AllPass-from_list_all}
use Rattle.joint_machine.specs.declared.names.Var.{Var}
use Rattle.joint_machine.specs.declared.names.Kind.{Kind}
use Rattle.joint_machine.specs.declared.names.Kind.TheVariants as kind
use Rattle.joint_machine.specs.declared.names.Sort.{Sort}
use Rattle.joint_machine.specs.declared.names.Sort.TheVariants as sort
use Rattle.joint_machine.specs.Lines.{IsVar, IsVarOrNone}
use Rattle.bridge_script.specs.declared.faults.Cause.{Cause}
use Rattle.bridge_script.specs.declared.faults.Cause.TheVariants as cause
use Rattle.bridge_script.specs.declared.grammar.Place.{Place}
use Rattle.bridge_script.specs.declared.grammar.Place.TheVariants as place
use Rattle.bridge_script.specs.declared.operands.Operand.{Operand}
use Rattle.bridge_script.specs.declared.operands.Operand.TheVariants as operand
use Rattle.bridge_script.specs.Words.{var_text, optional_text, kind_text, sort_text}
use Rattle.bridge_script.specs.Faults.{HasAt, HasAtSome}
use Rattle.bridge_script.specs.Operands.{operand_text, texts, IsPlainKind, IsBridgeKind, StandsAt, StandAll}

-- a word has no cause at a place
abbrev pub Fits : Place → List ℕ → Type 0
Fits p w = (c : Cause) → HasAt c p w → ⊥

pub fits_number : (least most n : ℕ) → n < 2 ^ 64 → least ≤ n → n ≤ most → Fits (place.Number least most) (decimal n)
fits_number least most n l a b cause.Number h = h n l refl
fits_number least most n l a b cause.Limit h =
    let e = decimal_injective h.0 n h.1 l h.2 in
    elim h.3 [ inl p ↦ omega arith | inr p ↦ omega arith ]
fits_number least most n l a b c h = absurd h

fits_plain : (k : Kind) → IsPlainKind k → Fits place.PlainKind (kind_text k)
fits_plain kind.Plain s cause.Kind h = h.0 refl
fits_plain kind.Plain s c h = absurd h
fits_plain kind.Leaf s cause.Kind h = h.1 refl
fits_plain kind.Leaf s c h = absurd h
fits_plain k s c h = absurd s

fits_bridge : (k : Kind) → IsBridgeKind k → Fits place.BridgeKind (kind_text k)
fits_bridge kind.Bridge s cause.Kind h = h.0 refl
fits_bridge kind.Bridge s c h = absurd h
fits_bridge kind.LeafBridge s cause.Kind h = h.1 refl
fits_bridge kind.LeafBridge s c h = absurd h
fits_bridge k s c h = absurd s

fits_sort : (s : Sort) → Fits place.Sort (sort_text s)
fits_sort sort.User cause.Kind h = h.0 refl
fits_sort sort.User c h = absurd h
fits_sort sort.Framework cause.Kind h = h.1 refl
fits_sort sort.Framework c h = absurd h

pub fits : (p : Place) (x : Operand) → StandsAt p x → Fits p (operand_text x)
fits place.Var (operand.Var v) s cause.Name h = h v s refl
fits place.Var (operand.Var v) s c h = absurd h
fits place.VarOrNone (operand.VarOrNone v) s cause.Name h = h v s refl
fits place.VarOrNone (operand.VarOrNone v) s c h = absurd h
fits place.ManagedStatic (operand.ManagedStatic x) s cause.Name h = h x s refl
fits place.ManagedStatic (operand.ManagedStatic x) s c h = absurd h
fits place.PeerStatic (operand.PeerStatic x) s cause.Name h = h x s refl
fits place.PeerStatic (operand.PeerStatic x) s c h = absurd h
fits place.Global (operand.Global g) s cause.Name h = h g s refl
fits place.Global (operand.Global g) s c h = absurd h
fits place.Cell (operand.Cell k) s cause.Name h = h k s refl
fits place.Cell (operand.Cell k) s c h = absurd h
fits (place.Number least most) (operand.Number n) s c h = fits_number least most n s.2 s.0 s.1 c h
fits place.PlainKind (operand.Kind k) s c h = fits_plain k s c h
fits place.BridgeKind (operand.Kind k) s c h = fits_bridge k s c h
fits place.Sort (operand.Sort k) s c h = fits_sort k c h
fits p x s c h = absurd s

pub all_fit : (ps : List Place) (xs : List Operand) → StandAll ps xs → (c : Cause) → HasAtSome c ps (texts xs) → ⊥
all_fit [] xs s c h = absurd h
all_fit (p ∷ ps) [] s c h = absurd s
all_fit (p ∷ ps) (x ∷ xs) s c h = elim h [ inl a ↦ fits p x s.0 c a | inr a ↦ all_fit ps xs s.1 c a ]

pub as_many : (ps : List Place) (xs : List Operand) → StandAll ps xs → length (texts xs) ≡ length ps
as_many [] [] s = refl
as_many [] (x ∷ xs) s = absurd s
as_many (p ∷ ps) [] s = absurd s
as_many (p ∷ ps) (x ∷ xs) s = let e = as_many ps xs s.1 in omega arith

-- a byte above the space and below 128: neither a space nor a newline, and a character by itself
abbrev pub IsPrinted : ℕ → Type 0
IsPrinted b = (32 < b) × (b < 128)

abbrev pub Printed : List ℕ → Type 0
Printed word = All IsPrinted word

pub printed_digits : (n : ℕ) → n < 2 ^ 64 → Printed (decimal n)
printed_digits = decimal_by_steps (λ n ds. Printed ds) (λ n l. All-cons IsPrinted (48 + n) [] (omega arith, omega arith) (All-nil IsPrinted))
    (λ n ds l h. All-push IsPrinted ds (48 + n % 10) h (omega arith, omega arith))

printed_var : (v : Var) → IsVar v → Printed (var_text v)
printed_var v l = All-cons IsPrinted (min (97 + v.0) 255) [] (omega arith, omega arith) (All-nil IsPrinted)

abbrev is_printed : ℕ → Bool
is_printed b = cond (ltb 32 b) (ltb b 128) false

printed_byte : (b : ℕ) → is_printed b ≡ true → IsPrinted b
printed_byte b e = (grind (arith, nat_tests), grind (arith, nat_tests))

pub printed_code : (word : List ℕ) → list_all is_printed word ≡ true → Printed word
printed_code word e = All-weaker (λ b. is_printed b ≡ true) IsPrinted (λ b h. printed_byte b h) word (AllPass-from_list_all is_printed word e)

printed_optional : (w : Option Var) → IsVarOrNone w → Printed (optional_text w)
printed_optional None h = printed_code (codes "-") refl
printed_optional (Some v) h = printed_var v h

-- a letter and a number behind it
pub printed_lettered : (letter n : ℕ) → IsPrinted letter → n < 2 ^ 64 → Printed (letter ∷ decimal n)
printed_lettered letter n p l = All-cons IsPrinted letter (decimal n) p (printed_digits n l)

printed_kind : (k : Kind) → Printed (kind_text k)
printed_kind kind.Plain = printed_code (codes "plain") refl
printed_kind kind.Leaf = printed_code (codes "leaf") refl
printed_kind kind.Bridge = printed_code (codes "bridge") refl
printed_kind kind.LeafBridge = printed_code (codes "leafbridge") refl

printed_sort : (s : Sort) → Printed (sort_text s)
printed_sort sort.User = printed_code (codes "user") refl
printed_sort sort.Framework = printed_code (codes "framework") refl

printed_operand : (p : Place) (x : Operand) → StandsAt p x → Printed (operand_text x)
printed_operand place.Var (operand.Var v) s = printed_var v s
printed_operand place.VarOrNone (operand.VarOrNone v) s = printed_optional v s
printed_operand place.ManagedStatic (operand.ManagedStatic x) s = printed_lettered 103 x.0 (lit< tt, lit< tt) (omega arith)
printed_operand place.PeerStatic (operand.PeerStatic x) s = printed_lettered 115 x.0 (lit< tt, lit< tt) (omega arith)
printed_operand place.Global (operand.Global g) s = printed_lettered 71 g.0 (lit< tt, lit< tt) (omega arith)
printed_operand place.Cell (operand.Cell k) s = printed_lettered 107 k.0 (lit< tt, lit< tt) (omega arith)
printed_operand (place.Number least most) (operand.Number n) s = printed_digits n s.2
printed_operand place.PlainKind (operand.Kind k) s = printed_kind k
printed_operand place.BridgeKind (operand.Kind k) s = printed_kind k
printed_operand place.Sort (operand.Sort k) s = printed_sort k
printed_operand p x s = absurd s

pub all_printed : (ps : List Place) (xs : List Operand) → StandAll ps xs → AllByRecursion Printed (texts xs)
all_printed [] [] s = tt
all_printed [] (x ∷ xs) s = absurd s
all_printed (p ∷ ps) [] s = absurd s
all_printed (p ∷ ps) (x ∷ xs) s = (printed_operand p x s.0, all_printed ps xs s.1)

short_number : (n : ℕ) → n < 2 ^ 64 → length (decimal n) ≤ 20
short_number n l = length-decimal-le 20 n (lit< tt) (omega arith) l

pub short_small : (n : ℕ) → n < 100 → length (decimal n) ≤ 2
short_small n l = length-decimal-le 2 n (lit< tt) (omega arith) (omega arith)

short_optional : (w : Option Var) → length (optional_text w) ≤ 20
short_optional None = lit≤ tt
short_optional (Some v) = lit≤ tt

short_kind : (k : Kind) → length (kind_text k) ≤ 20
short_kind kind.Plain = lit≤ tt
short_kind k = lit≤ tt

short_sort : (s : Sort) → length (sort_text s) ≤ 20
short_sort sort.User = lit≤ tt
short_sort s = lit≤ tt

short_operand : (p : Place) (x : Operand) → StandsAt p x → length (operand_text x) ≤ 20
short_operand place.Var (operand.Var v) s = lit≤ tt
short_operand place.VarOrNone (operand.VarOrNone v) s = short_optional v
short_operand place.ManagedStatic (operand.ManagedStatic x) s = omega (arith, short_small x.0 (omega arith))
short_operand place.PeerStatic (operand.PeerStatic x) s = omega (arith, short_small x.0 (omega arith))
short_operand place.Global (operand.Global g) s = omega (arith, short_small g.0 (omega arith))
short_operand place.Cell (operand.Cell k) s = omega (arith, short_small k.0 (omega arith))
short_operand (place.Number least most) (operand.Number n) s = short_number n s.2
short_operand place.PlainKind (operand.Kind k) s = short_kind k
short_operand place.BridgeKind (operand.Kind k) s = short_kind k
short_operand place.Sort (operand.Sort k) s = short_sort k
short_operand p x s = absurd s

-- how many bytes words take, each with a space before it
abbrev pub sizes : List (List ℕ) → ℕ
sizes [] = 0
sizes (w ∷ ws) = length w + 1 + sizes ws

pub all_short : (ps : List Place) (xs : List Operand) → StandAll ps xs → sizes (texts xs) ≤ 21 * length ps
all_short [] [] s = lit≤ tt
all_short [] (x ∷ xs) s = absurd s
all_short (p ∷ ps) [] s = absurd s
all_short (p ∷ ps) (x ∷ xs) s = omega (arith, short_operand p x s.0, all_short ps xs s.1)

same_var : (v w : Var) → IsVar v → IsVar w → var_text v ≡ var_text w → v ≡ w
same_var v w p q e = let k : v.0 ≡ w.0 = omega (arith, ap (λ t. get_or t 0 0) e) in ap (λ n. let u : Var = record { 0 = n } in u) k

same_optional : (v w : Option Var) → IsVarOrNone v → IsVarOrNone w → optional_text v ≡ optional_text w → v ≡ w
same_optional None None p q e = refl
same_optional None (Some w) p q e = absurd (omega (arith, ap (λ t. get_or t 0 0) e))
same_optional (Some v) None p q e = absurd (omega (arith, ap (λ t. get_or t 0 0) e))
same_optional (Some v) (Some w) p q e = ap Some (same_var v w p q e)

pub same_small : (m n : ℕ) → m < 100 → n < 100 → decimal m ≡ decimal n → m ≡ n
same_small m n p q e = decimal_injective m n (omega arith) (omega arith) e

same_kind : (k l : Kind) → kind_text k ≡ kind_text l → k ≡ l
same_kind kind.Plain kind.Plain e = refl
same_kind kind.Leaf kind.Leaf e = refl
same_kind kind.Bridge kind.Bridge e = refl
same_kind kind.LeafBridge kind.LeafBridge e = refl
same_kind k l e = absurd (cc)

same_sort : (s t : Sort) → sort_text s ≡ sort_text t → s ≡ t
same_sort sort.User sort.User e = refl
same_sort sort.Framework sort.Framework e = refl
same_sort s t e = absurd (cc)

same_operand : (p : Place) (x y : Operand) → StandsAt p x → StandsAt p y → operand_text x ≡ operand_text y → x ≡ y
same_operand place.Var (operand.Var v) (operand.Var w) s t e = ap operand.Var (same_var v w s t e)
same_operand place.VarOrNone (operand.VarOrNone v) (operand.VarOrNone w) s t e = ap operand.VarOrNone (same_optional v w s t e)
same_operand place.ManagedStatic (operand.ManagedStatic x) (operand.ManagedStatic y) s t e = let k : x.0 ≡ y.0 = same_small x.0 y.0 (omega arith) (omega arith) (cc) in
    ap (λ n. operand.ManagedStatic record { 0 = n }) k
same_operand place.PeerStatic (operand.PeerStatic x) (operand.PeerStatic y) s t e = let k : x.0 ≡ y.0 = same_small x.0 y.0 (omega arith) (omega arith) (cc) in
    ap (λ n. operand.PeerStatic record { 0 = n }) k
same_operand place.Global (operand.Global x) (operand.Global y) s t e = let k : x.0 ≡ y.0 = same_small x.0 y.0 (omega arith) (omega arith) (cc) in ap (λ n. operand.Global record { 0 = n }) k
same_operand place.Cell (operand.Cell x) (operand.Cell y) s t e = let k : x.0 ≡ y.0 = same_small x.0 y.0 (omega arith) (omega arith) (cc) in ap (λ n. operand.Cell record { 0 = n }) k
same_operand (place.Number least most) (operand.Number m) (operand.Number n) s t e = ap operand.Number (decimal_injective m n s.2 t.2 e)
same_operand place.PlainKind (operand.Kind k) (operand.Kind l) s t e = ap operand.Kind (same_kind k l e)
same_operand place.BridgeKind (operand.Kind k) (operand.Kind l) s t e = ap operand.Kind (same_kind k l e)
same_operand place.Sort (operand.Sort k) (operand.Sort l) s t e = ap operand.Sort (same_sort k l e)
same_operand p x y s t e = absurd (assumption)

pub same_operands : (ps : List Place) (xs ys : List Operand) → StandAll ps xs → StandAll ps ys → texts xs ≡ texts ys → xs ≡ ys
same_operands [] [] [] s t e = refl
same_operands [] [] (y ∷ ys) s t e = absurd t
same_operands [] (x ∷ xs) ys s t e = absurd s
same_operands (p ∷ ps) [] ys s t e = absurd s
same_operands (p ∷ ps) (x ∷ xs) [] s t e = absurd t
same_operands (p ∷ ps) (x ∷ xs) (y ∷ ys) s t e =
    let one : x ≡ y = same_operand p x y s.0 t.0 (cc) in
    let others : xs ≡ ys = same_operands ps xs ys s.1 t.1 (cc) in
    cc
