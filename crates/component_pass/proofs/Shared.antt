-- Lists of sets only grow, so sets that were exact for the classes so far stay so.
use Rattle.std.proofs.Common.{◌≡◌, ◌↔◌, ◌⊎◌, ℕ, ◌+◌, ◌<◌, ◌≤◌, Bool, true, false, List, [], ◌∷◌, ◌++◌, length, min, get_or, set, refl, sym, ◌∙◌, ap, subst, arith, inl, inr}
use Rattle.std.proofs.lemmas.List.{length_push, length-set, get_or_append_left, get_or_default, get_or-set_same, get_or-set_other}
use Rattle.std.proofs.lemmas.List.Elements.{All-nil, All-push, All-weaker, All-contains}
use Rattle.std.proofs.lemmas.Bool.{cases_lt, cases_eq, true≢false}
use Rattle.std.specs.List.{All, Contains}
use Rattle.joint_machine.specs.Components.{Rises}
use Rattle.joint_machine.proofs.Members.{All-members}
use Rattle.bridge_graph.specs.declared.graph.Node.{Node}
use Rattle.bridge_graph.specs.Parts.{IsPart, row_at}
use Rattle.component_pass.specs.Classes.{AreClasses, AreInOrder}
use Rattle.component_pass.specs.Counting.{IsCount}
use Rattle.component_pass.specs.Gathering.{AreSets, Aims, Gathers, set_at}
use Rattle.component_pass.specs.Sharing.{index_at, IsOpen, AreShared, AreCounted, AreThin, AreReferred, ComesOut, Leaves, IsFound}
use Rattle.component_pass.proofs.Sets.{set-one, set-kept, set-rises, one_is}
use Rattle.component_pass.proofs.Leaving.{closed_stays, open_leaves, aimed_leaves, gathers_sound, gathers_whole}

-- a list more
pub found-new : (sets : List ℕ) (lists : List (List ℕ)) (count numbers : ℕ) (union : List ℕ) → AreSets sets lists count numbers → Rises union → All (λ j. j < count) union
    → IsFound sets lists (lists ++ union ∷ []) count (numbers + 1) (count + length lists)
found-new sets lists count numbers union a r b =
    let len = length_push lists union in
    record {
      valid = record {
        all = omega (arith, len, a.all);
        known = All-weaker (λ s. s < numbers) (λ s. s < numbers + 1) (λ s lt. omega arith) sets a.known;
        below = All-push (All (λ j. j < count)) lists union a.below b;
        rising = All-push Rises lists union a.rising r;
        some = omega (arith, len);
        none = get_or_append_left lists (union ∷ []) [] 0 a.some ∙ a.none;
      };
      known = omega (arith, a.all);
      kept = λ k lt. get_or_append_left lists (union ∷ []) [] k lt;
      longer = omega (arith, len);
      one = omega (arith, len);
    }

pub found-old : (sets : List ℕ) (lists : List (List ℕ)) (count numbers s : ℕ) → AreSets sets lists count numbers → s < numbers → IsFound sets lists lists count numbers s
found-old sets lists count numbers s a lt = record { valid = a; known = lt; kept = λ k h. refl; longer = omega arith; one = omega arith }

-- the members of a class get the number of one set, and the other nodes keep theirs
pub record Puts (class before after : List ℕ) (number : ℕ) : Type 0 where
  pub size : length after ≡ length before
  pub taken : All (λ x. get_or after x 0 ≡ number) class
  pub others : (x : ℕ) → (Contains class x → ⊥) → get_or after x 0 ≡ get_or before x 0

module _ (nodes : List Node) (edges : List (List ℕ)) (labels indexes : List ℕ) (rows : List (List ℕ)) (count own : ℕ)
    (o : AreInOrder edges (length nodes) labels rows) where
  pub put_at : (before after : List ℕ) (number x : ℕ) → Puts (row_at rows own) before after number → x < length nodes → get_or labels x 0 ≡ own → get_or after x 0 ≡ number
  put_at before after number x p lt is = All-contains (λ z. get_or after z 0 ≡ number) (row_at rows own) x p.taken ((o.members own x).1 (lt, is))

  pub kept_at : (before after : List ℕ) (number x : ℕ) → Puts (row_at rows own) before after number → (get_or labels x 0 ≡ own → ⊥) → get_or after x 0 ≡ get_or before x 0
  kept_at before after number x p ne = p.others x (λ c. ne ((o.members own x).0 c).1)

  -- one class more
  pub counted-more : (many left more_left numbers found number : ℕ) (sets after : List ℕ) (lists more : List (List ℕ)) → more_left ≤ left
      → AreCounted edges (length nodes) labels indexes many left count own sets lists → AreSets sets lists count (count + length lists) → IsFound sets lists more count numbers found
      → Puts (row_at rows own) sets after number
      → ((x j : ℕ) → x < length nodes → get_or labels x 0 ≡ own → Contains (set_at count more number) j → ComesOut edges labels indexes x j)
      → ((x j : ℕ) → x < length nodes → get_or labels x 0 ≡ own → (length (set_at count more number) < many)
      ⊎ (0 < more_left) → ComesOut edges labels indexes x j → Contains (set_at count more number) j)
      → AreCounted edges (length nodes) labels indexes many more_left count (own + 1) after more
  counted-more many left more_left numbers found number sets after lists more less h a f p s w =
      let old_set : (x : ℕ) → x < length nodes → get_or labels x 0 < own → set_at count more (get_or after x 0) ≡ set_at count lists (get_or sets x 0) = λ x lt old.
      ap (λ (k : ℕ). set_at count more k) (kept_at sets after number x p (λ is. absurd (omega (arith, is, old))))
      ∙ set-kept count lists more (get_or sets x 0) (a.known x 0 (omega (arith, lt, h.size))) f.kept in
      let new_set : (x : ℕ) → x < length nodes → get_or labels x 0 ≡ own → set_at count more (get_or after x 0) ≡ set_at count more number = λ x lt is.
      ap (λ (k : ℕ). set_at count more k) (put_at sets after number x p lt is) in
      record {
        size = p.size ∙ h.size;
        sound = λ x j lt below c. elim (cases_lt (get_or labels x 0) own) [
          | inl old ↦ h.sound x j lt old (subst (λ (xs : List ℕ). Contains xs j) (old_set x lt old) c)
          | inr ge ↦
              let is : get_or labels x 0 ≡ own = omega (arith, ge, below) in
              s x j lt is (subst (λ (xs : List ℕ). Contains xs j) (new_set x lt is) c)
        ];
        all = λ x j lt below few t. elim (cases_lt (get_or labels x 0) own) [
          | inl old ↦
              let e = old_set x lt old in
              subst (λ (xs : List ℕ). Contains xs j) (sym e) (h.all x j lt old (elim few [ inl f ↦ inl (omega (arith, f, ap length e)) | inr l ↦ inr (omega (arith, l, less)) ]) t)
          | inr ge ↦
              let is : get_or labels x 0 ≡ own = omega (arith, ge, below) in
              let e = new_set x lt is in
              subst (λ (xs : List ℕ). Contains xs j) (sym e) (w x j lt is (elim few [ inl f ↦ inl (omega (arith, f, ap length e)) | inr l ↦ inr l ]) t)
        ];
        rest = λ x lt above. kept_at sets after number x p (λ is. absurd (omega (arith, is, above))) ∙ h.rest x lt (omega (arith, above));
      }

  -- a class with an index has the set of that alone
  pub own-counted : (many : ℕ) (lists : List (List ℕ)) → IsPart nodes edges → AreClasses edges (length nodes) labels → get_or indexes own 0 < count → count ≤ 4294967294
      → ((x j : ℕ) → x < length nodes → get_or labels x 0 ≡ own → Contains (set_at count lists (get_or indexes own 0)) j ↔ ComesOut edges labels indexes x j)
  own-counted many lists part cl below few x j lt is =
      let at : index_at labels indexes x ≡ get_or indexes own 0 = ap (λ (l : ℕ). get_or indexes l 0) is in
      let b = closed_stays nodes edges labels indexes part cl x j (λ z. absurd (omega (arith, z, at, below, few))) in
      let i = one_is (get_or indexes own 0) j in
      rw (set-one count lists (get_or indexes own 0) below) ((λ c. b.1 (at ∙ i.0 c)), (λ t. i.1 (sym at ∙ b.0 t)))

  -- a set that an edge of the class leads to has only what leaves it
  pub full-leaves : (many left number : ℕ) (sets : List ℕ) (lists : List (List ℕ)) → IsPart nodes edges → AreClasses edges (length nodes) labels
      → AreCounted edges (length nodes) labels indexes many left count own sets lists → row_at lists 0 ≡ [] → Aims edges sets (row_at rows own) number
      → (j : ℕ) → Contains (set_at count lists number) j → Leaves edges (length nodes) labels indexes own j
  full-leaves many left number sets lists part cl h none a j c =
      aimed_leaves nodes edges labels indexes part cl rows sets lists count own number j o h.sound h.rest none a c

  -- and where each of them has all, exactly their union does
  pub union-leaves : (many left : ℕ) (sets : List ℕ) (lists : List (List ℕ)) (union : List ℕ) → IsPart nodes edges → AreClasses edges (length nodes) labels
      → AreCounted edges (length nodes) labels indexes many left count own sets lists → row_at lists 0 ≡ []
      → ((k : ℕ) → Aims edges sets (row_at rows own) k → (length (set_at count lists k) < many) ⊎ (0 < left))
      → ((j : ℕ) → Contains union j ↔ Gathers edges sets lists count (row_at rows own) j)
      → (j : ℕ) → Contains union j ↔ Leaves edges (length nodes) labels indexes own j
  union-leaves many left sets lists union part cl h none small e j = (
    (λ c. gathers_sound nodes edges labels indexes part cl rows sets lists count own j o h.sound h.rest none ((e j).0 c)),
    (λ t. (e j).1 (gathers_whole nodes edges labels indexes part cl rows sets lists count own j o
        (λ u v k m d before out. h.all v k (part.in_range u v d) before (small (get_or sets v 0) (u, m, (v, d, refl))) out) t)),
  )

  -- a class without an index hands on what leaves it
  pub bare-out : IsPart nodes edges → AreClasses edges (length nodes) labels → get_or indexes own 0 ≡ 4294967295
      → (x j : ℕ) → x < length nodes → get_or labels x 0 ≡ own → ComesOut edges labels indexes x j ↔ Leaves edges (length nodes) labels indexes own j
  bare-out part cl bare x j lt is =
      subst (λ (k : ℕ). ComesOut edges labels indexes x j ↔ Leaves edges (length nodes) labels indexes k j) is
      (open_leaves nodes edges labels indexes part cl x j lt (ap (λ (k : ℕ). get_or indexes k 0) is ∙ bare))

  -- the size of a set that has only what leaves the class, and all of it where it has fewer than so many, counts that
  pub leaves-count : (many left number : ℕ) (lists : List (List ℕ)) → All Rises lists → number < count + length lists
      → ((j : ℕ) → Contains (set_at count lists number) j → Leaves edges (length nodes) labels indexes own j)
      → ((j : ℕ) → (length (set_at count lists number) < many) ⊎ (0 < left) → Leaves edges (length nodes) labels indexes own j → Contains (set_at count lists number) j)
      → IsCount (Leaves edges (length nodes) labels indexes own) many (min (length (set_at count lists number)) many)
  leaves-count many left number lists rising known s w = record {
    named = set_at count lists number;
    rise = set-rises lists count number rising known;
    hold = All-members (Leaves edges (length nodes) labels indexes own) (set_at count lists number) s;
    least = omega arith;
    most = λ few. omega (arith, few);
    whole = λ few j t. w j (inl (omega (arith, few))) t;
  }

  -- the counts of one class more
  pub counts-more : (many n : ℕ) (counts : List ℕ) → own < length counts → IsCount (Leaves edges (length nodes) labels indexes own) many n
      → ((l : ℕ) → l < own → IsCount (Leaves edges (length nodes) labels indexes l) many (get_or counts l 0))
      → (l : ℕ) → l < own + 1 → IsCount (Leaves edges (length nodes) labels indexes l) many (get_or (set counts own n) l 0)
  counts-more many n counts small k h l lt = elim (cases_eq l own) [
    | inl is ↦ rw (is, get_or-set_same counts own n 0 small) k
    | inr ne ↦ rw (get_or-set_other counts own l n 0 ne) (h l (omega (arith, lt, ne)))
  ]

  -- one class more that isn't thin
  pub shared-more : (thin : List Bool) (numbers found number : ℕ) (sets after : List ℕ) (lists more : List (List ℕ))
      → AreShared edges (length nodes) labels indexes thin count own sets lists → AreSets sets lists count (count + length lists) → IsFound sets lists more count numbers found
      → Puts (row_at rows own) sets after number
      → ((x j : ℕ) → x < length nodes → get_or labels x 0 ≡ own → Contains (set_at count more number) j ↔ ComesOut edges labels indexes x j)
      → ((x : ℕ) → x < length nodes → get_or labels x 0 ≡ own → get_or thin x false ≡ true → ⊥)
      → AreShared edges (length nodes) labels indexes thin count (own + 1) after more
  shared-more thin numbers found number sets after lists more h a f p e thick = record {
    size = p.size ∙ h.size;
    exact = λ x j lt below t. elim (cases_lt (get_or labels x 0) own) [
      | inl old ↦
          let known : get_or sets x 0 < count + length lists = a.known x 0 (omega (arith, lt, h.size)) in
          rw (kept_at sets after number x p (λ is. absurd (omega (arith, is, old))), set-kept count lists more (get_or sets x 0) known f.kept) (h.exact x j lt old t)
      | inr ge ↦
          let is : get_or labels x 0 ≡ own = omega (arith, ge, below) in
          rw (put_at sets after number x p lt is) (e x j lt is)
    ];
    rest = λ x lt above. elim (cases_eq (get_or labels x 0) own) [
      | inl is ↦ absurd (elim above [ inl g ↦ omega (arith, is, g) | inr t ↦ thick x lt is t ])
      | inr ne ↦ kept_at sets after number x p ne ∙ h.rest x lt (elim above [ inl g ↦ inl (omega (arith, g)) | inr t ↦ inr t ])
    ];
  }

  -- one thin class more
  pub shared-thin : (thin : List Bool) (sets : List ℕ) (lists : List (List ℕ)) → AreShared edges (length nodes) labels indexes thin count own sets lists
      → ((x : ℕ) → x < length nodes → get_or labels x 0 ≡ own → get_or thin x false ≡ true) → AreShared edges (length nodes) labels indexes thin count (own + 1) sets lists
  shared-thin thin sets lists h t = record {
    size = h.size;
    exact = λ x j lt below f. elim (cases_lt (get_or labels x 0) own) [
      | inl old ↦ h.exact x j lt old f
      | inr ge ↦ absurd (true≢false (sym (t x lt (omega (arith, ge, below))) ∙ f))
    ];
    rest = λ x lt above. h.rest x lt (elim above [ inl g ↦ inl (omega (arith, g)) | inr u ↦ inr u ]);
  }

  -- a class without an index that isn't thin hands on what leaves it
  pub union-shared : (thin : List Bool) (sets : List ℕ) (lists : List (List ℕ)) (union : List ℕ) → IsPart nodes edges → AreClasses edges (length nodes) labels
      → AreThin (length nodes) labels indexes thin → get_or indexes own 0 ≡ 4294967295 → AreShared edges (length nodes) labels indexes thin count own sets lists → row_at lists 0 ≡ []
      → ((j : ℕ) → Contains union j ↔ Leaves edges (length nodes) labels indexes own j)
      → ((x j : ℕ) → x < length nodes → get_or labels x 0 ≡ own → Contains union j ↔ ComesOut edges labels indexes x j)
  union-shared thin sets lists union part cl th bare h none e x j lt is =
      let l = subst (λ (k : ℕ). ComesOut edges labels indexes x j ↔ Leaves edges (length nodes) labels indexes k j) is
      (open_leaves nodes edges labels indexes part cl x j lt (ap (λ (k : ℕ). get_or indexes k 0) is ∙ bare)) in
      ((λ c. l.1 ((e j).0 c)), (λ t. (e j).1 (l.0 t)))

  pub referred-none : (numbers : ℕ) (refs : List ℕ) (lists : List (List ℕ)) → length refs ≡ count → AreReferred (length nodes) edges labels indexes count 0 numbers refs lists
  referred-none numbers refs lists size = record { size = size; known = λ x lt c h. absurd (omega (arith, h)); exact = λ x j lt c h. absurd (omega (arith, h)) }

  -- one class without an index more
  pub referred-bare : (refs : List ℕ) (lists more : List (List ℕ)) → get_or indexes own 0 ≡ 4294967295
      → length lists ≤ length more → ((k : ℕ) → k < length lists → row_at more k ≡ row_at lists k)
      → AreReferred (length nodes) edges labels indexes count own (count + length lists) refs lists
      → AreReferred (length nodes) edges labels indexes count (own + 1) (count + length more) refs more
  referred-bare refs lists more bare longer kept h =
      let before : (x : ℕ) → (IsOpen labels indexes x → ⊥) → get_or labels x 0 < own + 1 → get_or labels x 0 < own = λ x closed lt.
      let ne : get_or labels x 0 ≡ own → ⊥ = λ is. closed (ap (λ (l : ℕ). get_or indexes l 0) is ∙ bare) in
      omega (arith, lt, ne) in
      record {
        size = h.size;
        known = λ x xl c lt. omega (arith, h.known x xl c (before x c lt), longer);
        exact = λ x j xl c lt.
            let l = before x c lt in
            rw (set-kept count lists more (get_or refs (index_at labels indexes x) 0) (h.known x xl c l) kept) (h.exact x j xl c l);
      }

  -- one class with an index more
  pub referred-more : (refs : List ℕ) (lists more : List (List ℕ)) (found : ℕ) → get_or indexes own 0 < count
      → ((x : ℕ) → x < length nodes → (IsOpen labels indexes x → ⊥) → index_at labels indexes x ≡ get_or indexes own 0 → get_or labels x 0 ≡ own)
      → length lists ≤ length more → ((k : ℕ) → k < length lists → row_at more k ≡ row_at lists k) → found < count + length more
      → ((j : ℕ) → Contains (set_at count more found) j ↔ Leaves edges (length nodes) labels indexes own j)
      → AreReferred (length nodes) edges labels indexes count own (count + length lists) refs lists
      → AreReferred (length nodes) edges labels indexes count (own + 1) (count + length more) (set refs (get_or indexes own 0) found) more
  referred-more refs lists more found index apart longer kept known exact h =
      let at : ℕ = get_or indexes own 0 in
      let refs' = set refs at found in
      let here : (x : ℕ) → get_or labels x 0 ≡ own → get_or refs' (index_at labels indexes x) 0 ≡ found = λ x is.
      ap (λ (l : ℕ). get_or refs' (get_or indexes l 0) 0) is ∙ get_or-set_same refs at found 0 (omega (arith, index, h.size)) in
      let there : (x : ℕ) → x < length nodes → (IsOpen labels indexes x → ⊥) → get_or labels x 0 < own
      → get_or refs' (index_at labels indexes x) 0 ≡ get_or refs (index_at labels indexes x) 0 = λ x xl c lt.
      get_or-set_other refs at (index_at labels indexes x) found 0 (λ e. absurd (omega (arith, apart x xl c e, lt))) in
      record {
        size = length-set refs at found ∙ h.size;
        known = λ x xl c lt. elim (cases_lt (get_or labels x 0) own) [
          | inl l ↦ omega (arith, there x xl c l, h.known x xl c l, longer)
          | inr ge ↦ omega (arith, here x (omega (arith, ge, lt)), known)
        ];
        exact = λ x j xl c lt. elim (cases_lt (get_or labels x 0) own) [
          | inl l ↦ rw (there x xl c l, set-kept count lists more (get_or refs (index_at labels indexes x) 0) (h.known x xl c l) kept) (h.exact x j xl c l)
          | inr ge ↦
              let is : get_or labels x 0 ≡ own = omega (arith, ge, lt) in
              rw (here x is, is) (exact j)
        ];
      }

  pub sets-more : (numbers found number : ℕ) (sets after : List ℕ) (lists more : List (List ℕ)) → length sets ≡ length nodes → IsFound sets lists more count numbers found
      → Puts (row_at rows own) sets after number → number < numbers → AreSets after more count numbers
  sets-more numbers found number sets after lists more size f p lt = record {
    all = f.valid.all;
    known = λ k d kl.
        let same : get_or after k d ≡ get_or after k 0 = get_or_default after k d 0 kl in
        elim (cases_eq (get_or labels k 0) own) [
          | inl is ↦ omega (arith, same, put_at sets after number k p (omega (arith, kl, p.size, size)) is, lt)
          | inr ne ↦ omega (arith, same, kept_at sets after number k p ne, f.valid.known k 0 (omega (arith, kl, p.size)))
        ];
    below = f.valid.below;
    rising = f.valid.rising;
    some = f.valid.some;
    none = f.valid.none;
  }

pub sets-none : (count : ℕ) (sets : List ℕ) → All (λ s. s ≡ count) sets → AreSets sets ([] ∷ []) count (count + 1)
sets-none count sets all = record {
  all = omega arith;
  known = All-weaker (λ s. s ≡ count) (λ s. s < count + 1) (λ s e. omega (arith, e)) sets all;
  below = All-push (All (λ j. j < count)) [] [] (All-nil (All (λ j. j < count))) (All-nil (λ j. j < count));
  rising = All-push Rises [] [] (All-nil Rises) tt;
  some = omega arith;
  none = refl;
}

pub counted-none : (edges : List (List ℕ)) (nodes : ℕ) (labels indexes : List ℕ) (many left count : ℕ) (sets : List ℕ) (lists : List (List ℕ))
    → length sets ≡ nodes → All (λ s. s ≡ count) sets → AreCounted edges nodes labels indexes many left count 0 sets lists
counted-none edges nodes labels indexes many left count sets lists size all = record {
  size = size;
  sound = λ x j lt h. absurd (omega (arith, h));
  all = λ x j lt h. absurd (omega (arith, h));
  rest = λ x lt h. all x 0 (omega (arith, lt, size));
}

pub shared-none : (edges : List (List ℕ)) (nodes : ℕ) (labels indexes : List ℕ) (thin : List Bool) (count : ℕ) (sets : List ℕ) (lists : List (List ℕ))
    → length sets ≡ nodes → All (λ s. s ≡ count) sets → AreShared edges nodes labels indexes thin count 0 sets lists
shared-none edges nodes labels indexes thin count sets lists size all = record { size = size; exact = λ x j lt h. absurd (omega (arith, h)); rest = λ x lt h. all x 0 (omega (arith, lt, size)) }
