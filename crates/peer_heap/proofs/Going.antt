-- An open marking goes on over what the rows do to its marks: each step of its list of grey peers shades what it says,
-- so the laws of a marking in slices apply. (`marking_laws` has them.)
use Rattle.std.proofs.Common.{◌≡◌, ℕ, zero, suc, inl, inr, Bool, true, List, [], ◌∷◌, ◌++◌, length, Some, refl, sym, subst, ◌∙◌, arith}
use Rattle.std.specs.Prelude.{Contains}
use Rattle.std.proofs.lemmas.Option.{slice_get_within}
use Rattle.joint_machine.specs.PeerReplay.{PeerReplay, Marking}
use Rattle.joint_machine.proofs.Members.{Contains-here, Contains-there, Contains-cons_cases}
use Rattle.joint_machine.proofs.Numbered.{push-at_old}
use Rattle.joint_laws.specs.PeerInvariants.{PeerInvariant}
use Rattle.marking_laws.specs.Marks.{EdgeNow}
use Rattle.marking_laws.specs.Slices.{AreMarksGoing, IsGoingSide, Shades, none}
use Rattle.marking_laws.proofs.SliceEvents.{going-black, going-same}
use Rattle.reachability.specs.Marks.{HasMark}
use Rattle.row_heap.specs.Rows.{HeapRows}
use Rattle.row_marking.specs.Traces.{Blackened, Blackens, BlackensTo, Chained, GreyChain, Greyed, GreyedFrom, IsGreyList, greys}
use Rattle.row_marking.proofs.Greys.{GreyChain-one, greys-of, greys-short}
use Rattle.peer_heap.specs.Marks.{IsGoing}

-- the side of a marking that goes on
pub going-side : (s : PeerReplay) (mk : Marking) (v : HeapRows) (head : ℕ) → PeerInvariant s → s.marking ≡ Some mk → (g : IsGoing s mk v head) → IsGoingSide s mk v.follows v.marks g.greys
going-side s mk v head kept opened g = record { kept = kept; opened = opened; right = g.right }

-- what was visited was shaded
pub greyed-shades : (seen : ℕ → Type 0) (m : List Bool) (xs : List ℕ) (m' : List Bool) (l' : List ℕ) (h' : ℕ) → (g : GreyedFrom seen m xs m' l' h') → Shades seen none m xs m' g.waits
greyed-shades seen m xs m' l' h' g = record {
  marked = λ k. ((λ u. elim (g.scans.fresh k u) [ inl w ↦ inl w | inr w ↦ inr w.0 ]), (λ u. elim u [ inl w ↦ g.scans.kept k w | inr w ↦ g.scans.done k w ]));
  kept = λ k c out. g.scans.stays k c;
  anew = λ k u. elim (g.scans.fresh k u) [ inl w ↦ inl w | inr w ↦ inr w.1 ];
  left = λ k gone c. gone;
  only = λ k c. g.anew k c;
}

-- and so was what a row leads to that was made black, which left the list
pub blackened-shades : (row : ℕ → Type 0) (m : List Bool) (x : ℕ) (rest : List ℕ) (m' : List Bool) (waits : List ℕ) → Blackened row m x rest m' waits → Shades row (λ k. k ≡ x) m (x ∷ rest) m' waits
blackened-shades row m x rest m' waits b = record {
  marked = λ k. ((λ u. elim (b.scans.fresh k u) [ inl w ↦ inl w | inr w ↦ inr w.0 ]), (λ u. elim u [ inl w ↦ b.scans.kept k w | inr w ↦ b.scans.done k w ]));
  kept = λ k c out. elim (Contains-cons_cases x rest k c) [ inl e ↦ absurd (out (sym e)) | inr w ↦ b.scans.stays k w ];
  anew = λ k u. elim (b.scans.fresh k u) [ inl w ↦ inl w | inr w ↦ inr w.1 ];
  left = λ k e c. elim (b.anew x (subst (Contains waits) e c)) [ inl w ↦ b.once w | inr w ↦ w.0 b.grey ];
  only = λ k c. elim (b.anew k c) [ inl w ↦ inl (Contains-there k x rest w) | inr w ↦ inr w ];
}

-- the same things are shaded, said in another way
pub shades-as : (p q : ℕ → Type 0) (m : List Bool) (xs : List ℕ) (m' : List Bool) (ys : List ℕ) → ((k : ℕ) → p k → q k) → ((k : ℕ) → q k → p k) → Shades p none m xs m' ys → Shades q none m xs m' ys
shades-as p q m xs m' ys there back sh = record {
  marked = λ k. ((λ u. elim ((sh.marked k).0 u) [ inl w ↦ inl w | inr w ↦ inr (there k w) ]), (λ u. (sh.marked k).1 (elim u [ inl w ↦ inl w | inr w ↦ inr (back k w) ])));
  kept = sh.kept;
  anew = sh.anew;
  left = sh.left;
  only = λ k c. elim (sh.only k c) [ inl w ↦ inl w | inr w ↦ inr (w.0, there k w.1) ];
}

-- these are shaded, and that is the list of grey peers then
pub record ShadedTo (these : ℕ → Type 0) (m : List Bool) (xs : List ℕ) (m' : List Bool) (l' : List ℕ) (h' : ℕ) : Type 0 where
  pub waits : List ℕ
  pub chained : Chained m' l' h' waits
  pub shades : Shades these none m xs m' waits

pub open-shades : (b : Bool) (these : ℕ → Type 0) (m : List Bool) (l : List ℕ) (h : ℕ) (m' : List Bool) (l' : List ℕ) (h' : ℕ)
    → b ≡ true → Greyed (λ k. (b ≡ true) × these k) m l h m' l' h' → (xs : List ℕ) → Chained m l h xs → ShadedTo these m xs m' l' h'
open-shades b these m l h m' l' h' up y xs c =
    let g = y xs c in
    let own : ℕ → Type 0 = λ k. (b ≡ true) × these k in
    record { waits = g.waits; chained = g.chained; shades = shades-as own these m xs m' g.waits (λ k w. w.1) (λ k w. (up, w)) (greyed-shades own m xs m' l' h' g) }

-- whatever is visited, the list of grey peers stays one
pub greyed-list : (row : ℕ → Type 0) (m : List Bool) (l : List ℕ) (h : ℕ) (m' : List Bool) (l' : List ℕ) (h' : ℕ) → Greyed row m l h m' l' h' → IsGreyList m l h → IsGreyList m' l' h'
greyed-list row m l h m' l' h' y (xs, c) = ((y xs c).waits, (y xs c).chained)

-- one grey peer after the other is made black
pub going-blackens : (s : PeerReplay) (mk : Marking) (follows : Bool) (n : ℕ) (m m' : List Bool) (xs ys : List ℕ) → PeerInvariant s
    → s.marking ≡ Some mk → Blackens (EdgeNow s follows) n m xs m' ys → AreMarksGoing s mk follows m xs → AreMarksGoing s mk follows m' ys
going-blackens s mk follows zero m m' xs ys kept opened (a, b) g = subst (λ zs. AreMarksGoing s mk follows m' zs) (sym b) (subst (λ z. AreMarksGoing s mk follows z xs) (sym a) g)
going-blackens s mk follows (suc n) m m' xs ys kept opened (mid, x, rest, before, step) g =
    let was = going-blackens s mk follows n m mid xs (x ∷ rest) kept opened before g in
    let later : PeerReplay = record s { marking = Some (record mk { brought = mk.brought; blackened = mk.blackened }) } in
    let black = going-black s mk follows mid m' (x ∷ rest) ys x mk.blackened (record { kept = kept; opened = opened; right = was })
    (Contains-here x rest) (blackened-shades (EdgeNow s follows x) mid x rest m' ys step) in
    going-same later s mk follows m' ys refl refl refl black

-- the colours of the marks stay, in a state with the same peers and references
pub going-still : (s t : PeerReplay) (mk : Marking) (v w : HeapRows) (head : ℕ) → t.peers.heap.fields ≡ s.peers.heap.fields → t.peers.heap.freed ≡ s.peers.heap.freed
    → t.refs ≡ s.refs → w.marks ≡ v.marks → w.links ≡ v.links → w.follows ≡ v.follows → IsGoing s mk v head → IsGoing t mk w head
going-still s t mk v w head fields freed refs marks links follows g = record {
  greys = g.greys;
  chained = subst (λ l. Chained w.marks l head g.greys) (sym links) (subst (λ m. Chained m v.links head g.greys) (sym marks) g.chained);
  right = going-same s t mk w.follows w.marks g.greys fields freed refs
      (subst (λ f. AreMarksGoing s mk f w.marks g.greys) (sym follows) (subst (λ m. AreMarksGoing s mk v.follows m g.greys) (sym marks) g.right));
}

-- the list of grey peers stays one where lists get longer
chain-longer : (l : List ℕ) (n h : ℕ) (xs : List ℕ) → GreyChain l h xs → GreyChain (l ++ n ∷ []) h xs
chain-longer l n h [] c = c
chain-longer l n h (x ∷ xs) (e, one, (next, at, rest)) = (e, one, (next, push-at_old l n x (slice_get_within l x next at) ∙ at, chain-longer l n next xs rest))

pub chained-longer : (m m' : List Bool) (l l' : List ℕ) (h : ℕ) (xs : List ℕ) → m' ≡ m ++ true ∷ [] → l' ≡ l ++ 0 ∷ [] → Chained m l h xs → Chained m' l' h xs
chained-longer m m' l l' h xs marks links c = record {
  chain = subst (λ z. GreyChain z h xs) (sym links) (chain-longer l 0 h xs c.chain);
  marked = λ k w. (let up = c.marked k w in subst (λ z. HasMark z k) (sym marks) (push-at_old m true k (slice_get_within m k true up) ∙ up));
}

-- the list of grey peers by the links is that one
pub grey-list : (m : List Bool) (l : List ℕ) (h : ℕ) (xs : List ℕ) → Chained m l h xs → greys l (length m) h ≡ xs
grey-list m l h xs c = greys-of l (length m) h xs c.chain (omega (arith, greys-short m l h xs c.chain c.marked))

pub none-grey : (l : List ℕ) (n : ℕ) → greys l n 0 ≡ []
none-grey l zero = refl
none-grey l (suc n) = refl

-- where it begins nowhere, none is grey; and the other way round
pub chained-none : (m : List Bool) (l : List ℕ) (xs : List ℕ) → Chained m l 0 xs → xs ≡ []
chained-none m l xs c = GreyChain-one l 0 xs [] c.chain refl

pub chained-some : (m : List Bool) (l : List ℕ) (h : ℕ) (xs : List ℕ) → Chained m l h xs → xs ≡ [] → h ≡ 0
chained-some m l h [] c e = c.chain
chained-some m l h (x ∷ xs) c e = (let f : ⊥ = cc in absurd f)

-- a list of grey peers stays one where some are made black, or others shaded
pub list-blackened : (edge : ℕ → ℕ → Type 0) (n : ℕ) (m : List Bool) (l : List ℕ) (h : ℕ) (m' : List Bool) (l' : List ℕ) (h' : ℕ)
    → IsGreyList m l h → ((xs : List ℕ) → Chained m l h xs → BlackensTo edge n m xs m' l' h') → IsGreyList m' l' h'
list-blackened edge n m l h m' l' h' (xs, c) steps = ((steps xs c).waits, (steps xs c).chained)
