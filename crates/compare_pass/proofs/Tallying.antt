-- What a search found counts once for each of its nodes; so after each stand the counts are of one stand more.
use Rattle.std.proofs.Common.{◌≡◌, ℕ, ◌+◌, ◌<◌, ◌≤◌, Bool, true, false, List, [], ◌∷◌, ◌++◌, length, get_or, set, take, refl, sym, ◌∙◌, ap, subst, arith, inl, inr}
use Rattle.std.specs.Prelude.{All, Contains}
use Rattle.std.proofs.lemmas.Bool.{cases_eq, cases_Bool, true≢false}
use Rattle.std.proofs.lemmas.List.{length_push, get_or-set_same, get_or-set_other, get_or_default, take_more}
use Rattle.std.proofs.lemmas.List.Elements.{All-contains, Contains-append_left, Contains-push, Contains-push_cases}
use Rattle.joint_machine.specs.Walks.{Reaches}
use Rattle.joint_machine.specs.Components.{Rises}
use Rattle.joint_machine.proofs.Members.{Contains-nil, Rises-push, All-members}
use Rattle.compare_pass.specs.Counting.{AreCounts, Comes, IsCount, Tallies, bit}
use Rattle.compare_pass.specs.Searching.{AreMarked, FindsReached, Goes}
use Rattle.compare_pass.proofs.Filling.{before-below}

-- one node is counted, and its mark taken away
pub tallied : (counts : List ℕ) (marks : List Bool) (y z : ℕ) → y < length counts → y < length marks → get_or marks y false ≡ true
    → get_or (set counts y (get_or counts y 0 + 1)) z 0 + bit (get_or (set marks y false) z false) ≡ get_or counts z 0 + bit (get_or marks z false)
tallied counts marks y z cl ml t = elim (cases_eq z y) [
  | inl e ↦ rw (e, get_or-set_same counts y (get_or counts y 0 + 1) 0 cl, get_or-set_same marks y false false ml, t) (omega arith)
  | inr n ↦ rw (get_or-set_other counts y z (get_or counts y 0 + 1) 0 n, get_or-set_other marks y z false false n) refl
]

-- nothing is counted yet
pub counts-none : (edges : List (List ℕ)) (count : ℕ) (labels indexes stands counts : List ℕ) → length counts ≡ count → All (λ c. c ≡ 0) counts → AreCounts edges count labels indexes stands 0 counts
counts-none edges count labels indexes stands counts size none = record {
  size = size;
  few = λ k d l. omega (arith, none k d l);
  exact = λ x l. record {
    names = [];
    rise = tt;
    exact = λ b. ((λ c. absurd (Contains-nil b c)), (λ t. absurd (Contains-nil b t.0)));
    count = sym (none x 0 (omega (arith, l, size)));
  };
}

-- one stand more
pub counts-more : (edges : List (List ℕ)) (count : ℕ) (labels indexes stands : List ℕ) (k s : ℕ) (marks : List Bool) (found counts after : List ℕ)
    → k < length stands → get_or stands k 0 ≡ s → Rises stands
    → FindsReached (Goes edges labels indexes (get_or labels s 0)) s marks found → Tallies marks counts after
    → AreCounts edges count labels indexes stands k counts → AreCounts edges count labels indexes stands (k + 1) after
counts-more edges count labels indexes stands k s marks found counts after l is r f t a = record {
  size = t.size ∙ a.size;
  few = λ i d il. (
      let cl : i < length counts = omega (arith, il, t.size) in
      let e = t.exact i cl in
      let small = a.few i 0 cl in
      let at : get_or after i d ≡ get_or after i 0 = get_or_default after i d 0 il in
      omega (arith, at, e, small, bit-small (get_or marks i false)));
  exact = λ x xl. by x xl (get_or marks x false) refl;
}
  where
    bit-small : (b : Bool) → bit b ≤ 1
    bit-small true = omega arith
    bit-small false = omega arith

    next : take (k + 1) stands ≡ take k stands ++ s ∷ []
    next = take_more stands k 0 l ∙ ap (λ z. take k stands ++ z ∷ []) is

    by : (x : ℕ) → x < count → (m : Bool) → get_or marks x false ≡ m → IsCount (λ b. Contains (take (k + 1) stands) b × Comes edges labels indexes b x) (get_or after x 0)
    by x xl true e = (
        let c = a.exact x xl in
        let cl : x < length counts = omega (arith, xl, a.size) in
        let comes : Reaches (Goes edges labels indexes (get_or labels s 0)) s x = (f.exact x).0 (f.marking.listed x e) in
        record {
          names = c.names ++ s ∷ [];
          rise = Rises-push c.names s c.rise (All-members (λ y. y < s) c.names (λ y h. let q = before-below stands k y r l ((c.exact y).0 h).0 in omega (arith, q, is)));
          exact = λ b. (
            (λ h. elim (Contains-push_cases c.names s b h) [
              | inl o ↦ let q = (c.exact b).0 o in (subst (λ xs. Contains xs b) (sym next) (Contains-append_left (take k stands) (s ∷ []) b q.0), q.1)
              | inr n ↦ (
                subst (λ xs. Contains xs b) (sym next) (subst (λ z. Contains (take k stands ++ s ∷ []) z) n (Contains-push (take k stands) s)),
                subst (λ z. Comes edges labels indexes z x) n comes,
              )
            ]),
            (λ h. elim (Contains-push_cases (take k stands) s b (subst (λ xs. Contains xs b) next h.0)) [
              | inl o ↦ Contains-append_left c.names (s ∷ []) b ((c.exact b).1 (o, h.1))
              | inr n ↦ subst (λ z. Contains (c.names ++ s ∷ []) z) n (Contains-push c.names s)
            ]),
          );
          count = omega (arith, length_push c.names s, c.count, t.exact x cl, ap bit e);
        })
    by x xl false e = (
        let c = a.exact x xl in
        let cl : x < length counts = omega (arith, xl, a.size) in
        record {
          names = c.names;
          rise = c.rise;
          exact = λ b. (
            (λ h. let q = (c.exact b).0 h in (subst (λ xs. Contains xs b) (sym next) (Contains-append_left (take k stands) (s ∷ []) b q.0), q.1)),
            (λ h. elim (Contains-push_cases (take k stands) s b (subst (λ xs. Contains xs b) next h.0)) [
              | inl o ↦ (c.exact b).1 (o, h.1)
              | inr n ↦ (
                  let comes = subst (λ z. Comes edges labels indexes z x) (sym n) h.1 in
                  let m = All-contains (λ y. get_or marks y false ≡ true) found x f.marking.marked ((f.exact x).1 comes) in
                  absurd (true≢false (sym m ∙ e)))
            ]),
          );
          count = omega (arith, c.count, t.exact x cl, ap bit e);
        })

-- in the end no mark is left, and each marked node is counted
pub tally-over : (before after : List Bool) (found counts more : List ℕ) → AreMarked before found → ((k : ℕ) → k < length found → get_or after (get_or found k 0) false ≡ false)
    → ((z : ℕ) → get_or after z false ≡ true → get_or before z false ≡ true) → length more ≡ length counts
    → ((z : ℕ) → z < length counts → get_or more z 0 + bit (get_or after z false) ≡ get_or counts z 0 + bit (get_or before z false))
    → All (λ m. m ≡ false) after × Tallies before counts more
tally-over before after found counts more a done only size exact = (
  (λ k d l. get_or_default after k d false l ∙ none k),
  record { size = size; exact = λ y l. let e = exact y l in let n = ap bit (none y) in omega (arith, e, n) },
)
  where
    none : (z : ℕ) → get_or after z false ≡ false
    none z = elim (cases_Bool (get_or after z false)) [
      | inr f ↦ f
      | inl t ↦ (
          let c = a.listed z (only z t) in
          let at : get_or found c.0 0 ≡ z = get_or_default found c.0 0 z c.1 ∙ c.2 in
          subst (λ y. get_or after y false ≡ false) at (done c.0 c.1))
    ]
