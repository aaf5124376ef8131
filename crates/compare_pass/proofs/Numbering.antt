-- One class more gets an index, and a node that stands for it.
use Rattle.std.proofs.Common.{◌≡◌, ◌≢◌, ℕ, ◌<◌, ◌≤◌, List, [], ◌∷◌, ◌++◌, length, get_or, set, refl, sym, ◌∙◌, ap, arith, inl, inr}
use Rattle.std.proofs.lemmas.Bool.{cases_lt, cases_eq}
use Rattle.std.proofs.lemmas.List.{length_push, length-set, get_or-set_same, get_or-set_other, get_or_append_left, get_or_push}
use Rattle.indexmap.proofs.IndexTableLemmas.Probe.{pigeonhole}
use Rattle.compare_pass.specs.Listing.{AreNumbered}
use Rattle.compare_pass.specs.Searching.{index_at}

-- nothing has an index
pub numbered-none : (count : ℕ) (labels indexes : List ℕ) → length indexes ≡ count → ((x : ℕ) → x < count → index_at labels indexes x ≡ 4294967295) → AreNumbered count labels indexes []
numbered-none count labels indexes size none = record {
  size = size;
  stand = λ i l. absurd (omega (arith, l));
  index = λ x l n. absurd (n (none x l));
}

-- the label of x gets the next index
pub put-index : (labels indexes : List ℕ) (x v y : ℕ) → get_or labels y 0 ≢ get_or labels x 0 → index_at labels (set indexes (get_or labels x 0) v) y ≡ index_at labels indexes y
put-index labels indexes x v y n = get_or-set_other indexes (get_or labels x 0) (get_or labels y 0) v 0 n

pub put-here : (labels indexes : List ℕ) (x v y : ℕ) → get_or labels x 0 < length indexes → get_or labels y 0 ≡ get_or labels x 0 → index_at labels (set indexes (get_or labels x 0) v) y ≡ v
put-here labels indexes x v y lt e = ap (λ l. get_or (set indexes (get_or labels x 0) v) l 0) e ∙ get_or-set_same indexes (get_or labels x 0) v 0 lt

-- what has an index keeps one
pub put-kept : (labels indexes : List ℕ) (x v y : ℕ) → get_or labels x 0 < length indexes → v ≢ 4294967295
    → index_at labels indexes y ≢ 4294967295 → index_at labels (set indexes (get_or labels x 0) v) y ≢ 4294967295
put-kept labels indexes x v y lt n old e = elim (cases_eq (get_or labels y 0) (get_or labels x 0)) [
  | inl s ↦ n (sym (put-here labels indexes x v y lt s) ∙ e)
  | inr d ↦ old (sym (put-index labels indexes x v y d) ∙ e)
]

pub numbered-more : (count : ℕ) (labels indexes stands : List ℕ) (x : ℕ) → x < count → get_or labels x 0 < count → index_at labels indexes x ≡ 4294967295 → length stands < 4294967295
    → AreNumbered count labels indexes stands → AreNumbered count labels (set indexes (get_or labels x 0) (length stands)) (stands ++ x ∷ [])
numbered-more count labels indexes stands x lt small none few a =
    let n = length stands in
    let now = set indexes (get_or labels x 0) n in
    let ll : get_or labels x 0 < length indexes = omega (arith, small, a.size) in
    let old : (i : ℕ) → i < n → get_or (stands ++ x ∷ []) i 0 ≡ get_or stands i 0 = (λ i l. get_or_append_left stands (x ∷ []) 0 i l) in
    let new : get_or (stands ++ x ∷ []) n 0 ≡ x = get_or_push stands x 0 n refl in
    record {
      size = length-set indexes (get_or labels x 0) n ∙ a.size;
      stand = λ i l. elim (cases_lt i n) [
        | inl il ↦
            let t = a.stand i il in
            let s : ℕ = get_or stands i 0 in
            let apart : get_or labels s 0 ≢ get_or labels x 0 = (λ e. absurd (omega (arith, t.1, none, ap (λ k. get_or indexes k 0) e, il, few))) in
            (omega (arith, t.0, old i il), ap (λ k. index_at labels now k) (old i il) ∙ put-index labels indexes x n s apart ∙ t.1)
        | inr ge ↦
            let is : i ≡ n = omega (arith, l, ge, length_push stands x) in
            let at : get_or (stands ++ x ∷ []) i 0 ≡ x = ap (λ k. get_or (stands ++ x ∷ []) k 0) is ∙ new in
            (omega (arith, at, lt), ap (λ k. index_at labels now k) at ∙ put-here labels indexes x n x ll refl ∙ sym is)
      ];
      index = λ y yl some. elim (cases_eq (get_or labels y 0) (get_or labels x 0)) [
        | inl e ↦
            let is : index_at labels now y ≡ n = put-here labels indexes x n y ll e in
            (omega (arith, is, length_push stands x), ap (λ k. get_or labels (get_or (stands ++ x ∷ []) k 0) 0) is ∙ ap (λ k. get_or labels k 0) new ∙ sym e)
        | inr d ↦
            let is = put-index labels indexes x n y d in
            let t = a.index y yl (λ m. some (is ∙ m)) in
            (omega (arith, is, t.0, length_push stands x), ap (λ k. get_or labels (get_or (stands ++ x ∷ []) k 0) 0) is ∙ ap (λ k. get_or labels k 0) (old (index_at labels indexes y) t.0) ∙ t.1)
      ];
    }

-- each stand has an index of its own, so there are no more of them than nodes
pub numbered-few : (count : ℕ) (labels indexes stands : List ℕ) → AreNumbered count labels indexes stands → length stands ≤ count
numbered-few count labels indexes stands a =
    pigeonhole (length stands) count (λ i. get_or stands i 0) (λ i l. (a.stand i l).0) (λ i j il jl e. sym (a.stand i il).1 ∙ ap (λ s. index_at labels indexes s) e ∙ (a.stand j jl).1)

-- and fewer where a node's class has none
pub numbered-room : (count : ℕ) (labels indexes stands : List ℕ) (x : ℕ) → x < count → get_or labels x 0 < count → index_at labels indexes x ≡ 4294967295 → count < 4294967295
    → AreNumbered count labels indexes stands → length stands < count
numbered-room count labels indexes stands x lt small none few a =
    let more = numbered-more count labels indexes stands x lt small none (omega (arith, numbered-few count labels indexes stands a, few)) a in
    omega (arith, numbered-few count labels (set indexes (get_or labels x 0) (length stands)) (stands ++ x ∷ []) more, length_push stands x)
