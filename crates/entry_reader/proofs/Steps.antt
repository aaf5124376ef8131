-- What stands behind the first word of each event that is no line's, part by part.
use Rattle.std.proofs.Common.{◌≡◌, ℕ, ◌≤◌, ◌<◌, List, [], ◌∷◌, ◌++◌, Some, None, decimal, drop, refl, sym, ap, ◌∙◌, subst, arith}
use Rattle.std.proofs.lemmas.Fmt.{decimal_injective}
use Rattle.joint_machine.specs.declared.names.Var.{Var}
use Rattle.joint_machine.specs.declared.names.StaticNo.{StaticNo}
use Rattle.joint_machine.specs.declared.names.Kind.{Kind}
use Rattle.joint_machine.specs.declared.names.Kind.TheVariants as kind
use Rattle.joint_machine.specs.declared.names.Sort.{Sort}
use Rattle.joint_machine.specs.declared.names.PNum.{PNum}
use Rattle.joint_machine.specs.declared.names.HNum.{HNum}
use Rattle.joint_machine.specs.declared.names.Cycle.{Cycle}
use Rattle.joint_machine.specs.declared.names.PhaseWord.{PhaseWord}
use Rattle.joint_machine.specs.declared.events.Op.{Op}
use Rattle.joint_machine.specs.declared.events.Op.TheVariants as op
use Rattle.joint_machine.specs.Lines.{IsVar, IsAdoptable}
use Rattle.bridge_script.specs.Words.{var_text, peer_static, kind_text, sort_text, phase_word_text}
use Rattle.history_report.specs.Report.{peer_text, handle_text}
use Rattle.entry_reader.specs.Fitting.{Short}
use Rattle.entry_reader.specs.declared.events.EventWord.{EventWord}
use Rattle.entry_reader.specs.declared.events.EventWord.TheVariants as word
use Rattle.entry_reader.specs.Events.{IsEventOf, others, IsOfHandle, IsOfCycle, with_handle, with_cycle}
use Rattle.entry_reader.specs.Taking.{Takes}
use Rattle.entry_reader.proofs.Parts.{Splits, goes_all, goes_on, goes_whole, goes_wrong}

-- what is left behind so many parts
abbrev pub behind : ℕ → Op → List (List ℕ)
behind k o = drop k (others o)

-- what the parts are
abbrev pub vars : Var → List (List ℕ)
vars v = var_text v ∷ []

abbrev pub statics : StaticNo → List (List ℕ)
statics x = peer_static x ∷ []

abbrev pub peers : PNum → List (List ℕ)
peers p = peer_text p ∷ []

abbrev pub handles : HNum → List (List ℕ)
handles h = handle_text h ∷ []

abbrev pub cycles : Cycle → List (List ℕ)
cycles k = decimal k.0 ∷ []

abbrev pub numbers : ℕ → List (List ℕ)
numbers n = decimal n ∷ []

abbrev pub sorts : Sort → List (List ℕ)
sorts s = sort_text s ∷ []

abbrev pub kinds : Kind → List (List ℕ)
kinds k = kind_text k ∷ []

abbrev pub phases : PhaseWord → List (List ℕ)
phases w = phase_word_text w ∷ []

pub make_0 : Splits (λ (s : Sort). Unit {0}) sorts (IsEventOf word.Make) (behind 0) (behind 1)
make_0 (op.Make s n) g = (s, tt, refl)
make_0 o g = absurd g

pub make_1 : Splits (λ (n : ℕ). n ≤ 16) numbers (IsEventOf word.Make) (behind 1) (behind 2)
make_1 (op.Make s n) g = (n, g, refl)
make_1 o g = absurd g

pub make_2 : (o : Op) → IsEventOf word.Make o → behind 2 o ≡ []
make_2 (op.Make s n) g = refl
make_2 o g = absurd g

pub adopt_0 : Splits IsVar vars (IsEventOf word.Adopt) (behind 0) (behind 1)
adopt_0 (op.Adopt v k n p h) g = (v, g.0, refl)
adopt_0 o g = absurd g

pub adopt_1 : Splits (λ (k : Kind). Unit {0}) kinds (IsEventOf word.Adopt) (behind 1) (behind 2)
adopt_1 (op.Adopt v k n p h) g = (k, tt, refl)
adopt_1 o g = absurd g

few_fields : (k : Kind) (n : ℕ) → IsAdoptable k n → n ≤ 16
few_fields kind.LeafBridge n a = omega (arith, a)
few_fields k n a = a

pub adopt_2 : Splits (λ (n : ℕ). n ≤ 16) numbers (IsEventOf word.Adopt) (behind 2) (behind 3)
adopt_2 (op.Adopt v k n p h) g = (n, few_fields k n g.1, refl)
adopt_2 o g = absurd g

pub adopt_3 : Splits (λ (p : PNum). Short p.0) peers (IsEventOf word.Adopt) (behind 3) (behind 4)
adopt_3 (op.Adopt v k n p h) g = (p, g.2, refl)
adopt_3 o g = absurd g

pub adopt_4 : Splits (λ (h : HNum). Short h.0) handles (IsEventOf word.Adopt) (behind 4) (behind 5)
adopt_4 (op.Adopt v k n p h) g = (h, g.3, refl)
adopt_4 o g = absurd g

pub adopt_5 : (o : Op) → IsEventOf word.Adopt o → behind 5 o ≡ []
adopt_5 (op.Adopt v k n p h) g = refl
adopt_5 o g = absurd g

pub lend_0 : Splits IsVar vars (IsEventOf word.Lend) (behind 0) (behind 1)
lend_0 (op.Lend v x) g = (v, g.0, refl)
lend_0 o g = absurd g

pub lend_1 : Splits (λ (x : StaticNo). x.0 < 16) statics (IsEventOf word.Lend) (behind 1) (behind 2)
lend_1 (op.Lend v x) g = (x, g.1, refl)
lend_1 o g = absurd g

pub lend_2 : (o : Op) → IsEventOf word.Lend o → behind 2 o ≡ []
lend_2 (op.Lend v x) g = refl
lend_2 o g = absurd g

pub land_0 : Splits (λ (h : HNum). Short h.0) handles (IsEventOf word.Land) (behind 0) (behind 1)
land_0 (op.Land h x) g = (h, g.0, refl)
land_0 o g = absurd g

pub land_1 : Splits (λ (x : StaticNo). x.0 < 16) statics (IsEventOf word.Land) (behind 1) (behind 2)
land_1 (op.Land h x) g = (x, g.1, refl)
land_1 o g = absurd g

pub land_2 : (o : Op) → IsEventOf word.Land o → behind 2 o ≡ []
land_2 (op.Land h x) g = refl
land_2 o g = absurd g

pub grip_0 : Splits (λ (x : StaticNo). x.0 < 16) statics (IsEventOf word.Grip) (behind 0) (behind 1)
grip_0 (op.Grip x) g = (x, g, refl)
grip_0 o g = absurd g

pub grip_1 : (o : Op) → IsEventOf word.Grip o → behind 1 o ≡ []
grip_1 (op.Grip x) g = refl
grip_1 o g = absurd g

pub meet_0 : Splits IsVar vars (IsEventOf word.Meet) (behind 0) (behind 1)
meet_0 (op.Meet v s n p h) g = (v, g.0, refl)
meet_0 o g = absurd g

pub meet_1 : Splits (λ (p : PNum). Short p.0) peers (IsEventOf word.Meet) (behind 1) (behind 2)
meet_1 (op.Meet v s n p h) g = (p, g.2, refl)
meet_1 o g = absurd g

pub meet_2 : Splits (λ (h : HNum). Short h.0) handles (IsEventOf word.Meet) (behind 2) (behind 3)
meet_2 (op.Meet v s n p h) g = (h, g.3, refl)
meet_2 o g = absurd g

pub meet_3 : Splits (λ (s : Sort). Unit {0}) sorts (IsEventOf word.Meet) (behind 3) (behind 4)
meet_3 (op.Meet v s n p h) g = (s, tt, refl)
meet_3 o g = absurd g

pub meet_4 : Splits (λ (n : ℕ). n ≤ 16) numbers (IsEventOf word.Meet) (behind 4) (behind 5)
meet_4 (op.Meet v s n p h) g = (n, g.1, refl)
meet_4 o g = absurd g

pub meet_5 : (o : Op) → IsEventOf word.Meet o → behind 5 o ≡ []
meet_5 (op.Meet v s n p h) g = refl
meet_5 o g = absurd g

pub give_0 : Splits IsVar vars (IsEventOf word.Give) (behind 0) (behind 1)
give_0 (op.Give v) g = (v, g, refl)
give_0 o g = absurd g

pub give_1 : (o : Op) → IsEventOf word.Give o → behind 1 o ≡ []
give_1 (op.Give v) g = refl
give_1 o g = absurd g

pub refused_0 : Splits (λ (w : PhaseWord). Unit {0}) phases (IsEventOf word.Refused) (behind 0) (behind 1)
refused_0 (op.Refused w) g = (w, tt, refl)
refused_0 o g = absurd g

pub refused_1 : (o : Op) → IsEventOf word.Refused o → behind 1 o ≡ []
refused_1 (op.Refused w) g = refl
refused_1 o g = absurd g

-- the kind and the number of fields that were taken are those of any event with these words
same_kind : (k l : Kind) → kind_text k ≡ kind_text l → k ≡ l
same_kind kind.Plain kind.Plain e = refl
same_kind kind.Leaf kind.Leaf e = refl
same_kind kind.Bridge kind.Bridge e = refl
same_kind kind.LeafBridge kind.LeafBridge e = refl
same_kind k l e = absurd (cc)

pub adopts : (v : Var) (k : Kind) (n : ℕ) (p : PNum) (h : HNum) (old new : List (List ℕ)) → n ≤ 16 → old ≡ others (op.Adopt v k n p h) ++ new
    → (o : Op) (rest : List (List ℕ)) → IsEventOf word.Adopt o → old ≡ others o ++ rest → IsAdoptable k n
adopts v k n p h old new l e (op.Adopt w j m q g) rest a f =
    let text : kind_text j ≡ kind_text k = cc in
    let number : decimal m ≡ decimal n = cc in
    let same : j ≡ k = same_kind j k text in
    let count : m ≡ n = decimal_injective m n (omega (arith, few_fields j m a.1)) (omega arith) number in
    let K : Kind → Type 0 = λ z. IsAdoptable z n in
    let N : ℕ → Type 0 = λ z. IsAdoptable j z in
    subst K same (subst N count a.1)
adopts v k n p h old new l e o rest a f = absurd a

-- an event of one part
pub one_taken : {A : Type 0} (ga : A → Type 0) (ta : A → List (List ℕ)) (good : Op → Type 0) (x : A) (o : Op) (old new : List (List ℕ))
    → Splits ga ta good (behind 0) (behind 1) → ((p : Op) → good p → behind 1 p ≡ []) → Takes ga ta old new (Some x) → good o → others o ≡ ta x → Takes good others old new (Some o)
one_taken ga ta good x o old new s n t g e =
    goes_whole good others (behind 1) old new o n (goes_on ga ta good others (behind 0) (behind 1) old old new (Some x) s t (goes_all good others old)) g (t.sound.1 ∙ ap (λ z. z ++ new) (sym e))

-- an event of no part
pub begin_taken : (old : List (List ℕ)) → Takes (IsEventOf word.Begin) others old old (Some op.Begin)
begin_taken old = record { sound = (tt, refl); complete = by }
  where
    by : (o : Op) (rest : List (List ℕ)) → IsEventOf word.Begin o → old ≡ others o ++ rest → Unit {0} × (old ≡ rest)
    by op.Begin rest g e = (tt, e)
    by o rest g e = absurd g

pub sweep_taken : (old : List (List ℕ)) → Takes (IsEventOf word.Sweep) others old old (Some op.Sweep)
sweep_taken old = record { sound = (tt, refl); complete = by }
  where
    by : (o : Op) (rest : List (List ℕ)) → IsEventOf word.Sweep o → old ≡ others o ++ rest → Unit {0} × (old ≡ rest)
    by op.Sweep rest g e = (tt, e)
    by o rest g e = absurd g

abbrev ShortHandle : HNum → Type 0
ShortHandle h = Short h.0

abbrev ShortCycle : Cycle → Type 0
ShortCycle k = Short k.0

-- an event with a handle alone
release_0 : Splits ShortHandle handles (IsEventOf word.Release) (behind 0) (behind 1)
release_0 (op.Release h) g = (h, g, refl)
release_0 o g = absurd g

weaken_0 : Splits ShortHandle handles (IsEventOf word.Weaken) (behind 0) (behind 1)
weaken_0 (op.Weaken h) g = (h, g, refl)
weaken_0 o g = absurd g

restore_0 : Splits ShortHandle handles (IsEventOf word.Restore) (behind 0) (behind 1)
restore_0 (op.Restore h) g = (h, g, refl)
restore_0 o g = absurd g

release_1 : (o : Op) → IsEventOf word.Release o → behind 1 o ≡ []
release_1 (op.Release h) g = refl
release_1 o g = absurd g

weaken_1 : (o : Op) → IsEventOf word.Weaken o → behind 1 o ≡ []
weaken_1 (op.Weaken h) g = refl
weaken_1 o g = absurd g

restore_1 : (o : Op) → IsEventOf word.Restore o → behind 1 o ≡ []
restore_1 (op.Restore h) g = refl
restore_1 o g = absurd g

pub handle_none : (w : EventWord) (old new : List (List ℕ)) → IsOfHandle w → Takes ShortHandle handles old new None → Takes (IsEventOf w) others old new None
handle_none word.Release old new k t = goes_wrong ShortHandle handles (IsEventOf word.Release) others (behind 0) (behind 1) old old new release_0 t (goes_all (IsEventOf word.Release) others old)
handle_none word.Weaken old new k t = goes_wrong ShortHandle handles (IsEventOf word.Weaken) others (behind 0) (behind 1) old old new weaken_0 t (goes_all (IsEventOf word.Weaken) others old)
handle_none word.Restore old new k t = goes_wrong ShortHandle handles (IsEventOf word.Restore) others (behind 0) (behind 1) old old new restore_0 t (goes_all (IsEventOf word.Restore) others old)
handle_none w old new k t = absurd k

pub handle_some : (w : EventWord) (h : HNum) (old new : List (List ℕ)) → IsOfHandle w → Takes ShortHandle handles old new (Some h) → Takes (IsEventOf w) others old new (with_handle w h)
handle_some word.Release h old new k t = one_taken ShortHandle handles (IsEventOf word.Release) h (op.Release h) old new release_0 release_1 t t.sound.0 refl
handle_some word.Weaken h old new k t = one_taken ShortHandle handles (IsEventOf word.Weaken) h (op.Weaken h) old new weaken_0 weaken_1 t t.sound.0 refl
handle_some word.Restore h old new k t = one_taken ShortHandle handles (IsEventOf word.Restore) h (op.Restore h) old new restore_0 restore_1 t t.sound.0 refl
handle_some w h old new k t = absurd k

-- an event with a cycle alone
snap_0 : Splits ShortCycle cycles (IsEventOf word.Snap) (behind 0) (behind 1)
snap_0 (op.Snap k) g = (k, g, refl)
snap_0 o g = absurd g

snap_1 : (o : Op) → IsEventOf word.Snap o → behind 1 o ≡ []
snap_1 (op.Snap k) g = refl
snap_1 o g = absurd g

contract_0 : Splits ShortCycle cycles (IsEventOf word.Contract) (behind 0) (behind 1)
contract_0 (op.Contract k) g = (k, g, refl)
contract_0 o g = absurd g

contract_1 : (o : Op) → IsEventOf word.Contract o → behind 1 o ≡ []
contract_1 (op.Contract k) g = refl
contract_1 o g = absurd g

mirror_0 : Splits ShortCycle cycles (IsEventOf word.Mirror) (behind 0) (behind 1)
mirror_0 (op.Mirror k) g = (k, g, refl)
mirror_0 o g = absurd g

mirror_1 : (o : Op) → IsEventOf word.Mirror o → behind 1 o ≡ []
mirror_1 (op.Mirror k) g = refl
mirror_1 o g = absurd g

clear_0 : Splits ShortCycle cycles (IsEventOf word.Clear) (behind 0) (behind 1)
clear_0 (op.Clear k) g = (k, g, refl)
clear_0 o g = absurd g

clear_1 : (o : Op) → IsEventOf word.Clear o → behind 1 o ≡ []
clear_1 (op.Clear k) g = refl
clear_1 o g = absurd g

resolve_0 : Splits ShortCycle cycles (IsEventOf word.Resolve) (behind 0) (behind 1)
resolve_0 (op.Resolve k) g = (k, g, refl)
resolve_0 o g = absurd g

resolve_1 : (o : Op) → IsEventOf word.Resolve o → behind 1 o ≡ []
resolve_1 (op.Resolve k) g = refl
resolve_1 o g = absurd g

abandon_0 : Splits ShortCycle cycles (IsEventOf word.Abandon) (behind 0) (behind 1)
abandon_0 (op.Abandon k) g = (k, g, refl)
abandon_0 o g = absurd g

abandon_1 : (o : Op) → IsEventOf word.Abandon o → behind 1 o ≡ []
abandon_1 (op.Abandon k) g = refl
abandon_1 o g = absurd g

pub cycle_none : (w : EventWord) (old new : List (List ℕ)) → IsOfCycle w → Takes ShortCycle cycles old new None → Takes (IsEventOf w) others old new None
cycle_none word.Snap old new k t = goes_wrong ShortCycle cycles (IsEventOf word.Snap) others (behind 0) (behind 1) old old new snap_0 t (goes_all (IsEventOf word.Snap) others old)
cycle_none word.Contract old new k t = goes_wrong ShortCycle cycles (IsEventOf word.Contract) others (behind 0) (behind 1) old old new contract_0 t (goes_all (IsEventOf word.Contract) others old)
cycle_none word.Mirror old new k t = goes_wrong ShortCycle cycles (IsEventOf word.Mirror) others (behind 0) (behind 1) old old new mirror_0 t (goes_all (IsEventOf word.Mirror) others old)
cycle_none word.Clear old new k t = goes_wrong ShortCycle cycles (IsEventOf word.Clear) others (behind 0) (behind 1) old old new clear_0 t (goes_all (IsEventOf word.Clear) others old)
cycle_none word.Resolve old new k t = goes_wrong ShortCycle cycles (IsEventOf word.Resolve) others (behind 0) (behind 1) old old new resolve_0 t (goes_all (IsEventOf word.Resolve) others old)
cycle_none word.Abandon old new k t = goes_wrong ShortCycle cycles (IsEventOf word.Abandon) others (behind 0) (behind 1) old old new abandon_0 t (goes_all (IsEventOf word.Abandon) others old)
cycle_none w old new k t = absurd k

pub cycle_some : (w : EventWord) (c : Cycle) (old new : List (List ℕ)) → IsOfCycle w → Takes ShortCycle cycles old new (Some c) → Takes (IsEventOf w) others old new (with_cycle w c)
cycle_some word.Snap c old new k t = one_taken ShortCycle cycles (IsEventOf word.Snap) c (op.Snap c) old new snap_0 snap_1 t t.sound.0 refl
cycle_some word.Contract c old new k t = one_taken ShortCycle cycles (IsEventOf word.Contract) c (op.Contract c) old new contract_0 contract_1 t t.sound.0 refl
cycle_some word.Mirror c old new k t = one_taken ShortCycle cycles (IsEventOf word.Mirror) c (op.Mirror c) old new mirror_0 mirror_1 t t.sound.0 refl
cycle_some word.Clear c old new k t = one_taken ShortCycle cycles (IsEventOf word.Clear) c (op.Clear c) old new clear_0 clear_1 t t.sound.0 refl
cycle_some word.Resolve c old new k t = one_taken ShortCycle cycles (IsEventOf word.Resolve) c (op.Resolve c) old new resolve_0 resolve_1 t t.sound.0 refl
cycle_some word.Abandon c old new k t = one_taken ShortCycle cycles (IsEventOf word.Abandon) c (op.Abandon c) old new abandon_0 abandon_1 t t.sound.0 refl
cycle_some w c old new k t = absurd k
