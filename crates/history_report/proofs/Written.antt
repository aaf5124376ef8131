-- A report is written entry by entry, and an entry piece by piece: each text is those before it and one piece more.
use Rattle.std.proofs.Common.{◌≡◌, ℕ, ◌+◌, ◌<◌, ◌≤◌, List, [], ◌∷◌, ◌++◌, length, take, drop, get_or, Some, None, slice_get, codes, decimal, sym, ◌∙◌, ap, refl, arith, inl, inr, append_assoc}
use Rattle.std.proofs.Common.{append-nil, length-drop, length-take, Option, Err}
use Rattle.std.proofs.lemmas.List.{map-append, get_or-drop, take-take, take_more, take_all, take-append-drop, nil_from_length}
use Rattle.std.proofs.lemmas.Option.{slice_get_cases}
use Rattle.joint_machine.specs.declared.events.Entry.{Entry}
use Rattle.joint_machine.specs.Histories.{Finished}
use Rattle.byte_streams.specs.Spaced.{after_spaces}
use Rattle.byte_streams.specs.Sending.{BuffersText, Sends}
use Rattle.byte_streams.proofs.Written.{after_spaces-append, BuffersText-none, BuffersText-then, Sends-into}
use Rattle.history_report.specs.Lists.{lettered, listed}
use Rattle.history_report.specs.Report.{entry_text, entries_text, end_text}

one_word : (letter n : ℕ) → after_spaces (lettered letter (n ∷ [])) ≡ 32 ∷ letter ∷ decimal n
one_word letter n = ap (λ t. 32 ∷ letter ∷ t) (append-nil (decimal n))

-- one more number of a list
pub numbers_more : (letter : ℕ) (xs : List ℕ) (first k n : ℕ) → Some n ≡ slice_get xs (first + k)
    → after_spaces (lettered letter (take (k + 1) (drop first xs))) ≡ after_spaces (lettered letter (take k (drop first xs))) ++ 32 ∷ letter ∷ decimal n
numbers_more letter xs first k n e = elim (slice_get_cases xs (first + k)).1 [
  | inl p ↦ (let same : n ≡ p.0 = (let q = p.2 in cc) in
      let more = take_more (drop first xs) k p.0 (omega (arith, p.1, length-drop first xs)) in
      let last : get_or (drop first xs) k p.0 ≡ n = get_or-drop first xs k p.0 ∙ (p.3 ∙ sym same) in
      let front = take k (drop first xs) in
      ap (λ t. after_spaces (lettered letter t)) (more ∙ ap (λ y. front ++ y ∷ []) last)
      ∙ (ap after_spaces (map-append (λ m. letter ∷ decimal m) front (n ∷ []))
      ∙ (after_spaces-append (lettered letter front) (lettered letter (n ∷ [])) ∙ ap (λ t. after_spaces (lettered letter front) ++ t) (one_word letter n))))
  | inr p ↦ absurd (let q = p.1 in cc)
]

-- past its end there is none
pub numbers_same : (xs : List ℕ) (first k : ℕ) → None ≡ slice_get xs (first + k) → take (k + 1) (drop first xs) ≡ take k (drop first xs)
numbers_same xs first k e = elim (slice_get_cases xs (first + k)).1 [
  | inl p ↦ absurd (let q = p.2 in cc)
  | inr p ↦ take_all (k + 1) (drop first xs) (omega (arith, p.0, length-drop first xs)) ∙ sym (take_all k (drop first xs) (omega (arith, p.0, length-drop first xs)))
]

-- the first numbers of a list, and the others
pub numbers_split : (letter : ℕ) (ys : List ℕ) (k n : ℕ) → k ≤ n
    → after_spaces (lettered letter (take n ys)) ≡ after_spaces (lettered letter (take k ys)) ++ after_spaces (lettered letter (drop k (take n ys)))
numbers_split letter ys k n l =
    let front : take k (take n ys) ≡ take k ys = take-take k n ys l in
    ap (λ t. after_spaces (lettered letter t)) (sym (take-append-drop k (take n ys)) ∙ ap (λ t. t ++ drop k (take n ys)) front)
    ∙ (ap after_spaces (map-append (λ m. letter ∷ decimal m) (take k ys) (drop k (take n ys))) ∙ after_spaces-append (lettered letter (take k ys)) (lettered letter (drop k (take n ys))))

listed_long : (letter : ℕ) (ys : List ℕ) → 0 < length ys → listed letter ys ≡ lettered letter ys
listed_long letter [] l = absurd (omega arith)
listed_long letter (y ∷ ys) l = refl

-- a list with a number at its first place isn't empty
pub listed_some : (letter : ℕ) (xs : List ℕ) (first count n : ℕ) → (count ≡ 0 → ⊥) → Some n ≡ slice_get xs first
    → listed letter (take count (drop first xs)) ≡ lettered letter (take count (drop first xs))
listed_some letter xs first count n some e = elim (slice_get_cases xs first).1 [
  | inl p ↦ (let long : 0 < length (take count (drop first xs)) = omega (arith, p.1, length-take count (drop first xs), length-drop first xs) in listed_long letter (take count (drop first xs)) long)
  | inr p ↦ absurd (let q = p.1 in cc)
]

-- and one with none there is
pub listed_none : (letter : ℕ) (xs : List ℕ) (first count : ℕ) → None ≡ slice_get xs first → listed letter (take count (drop first xs)) ≡ (45 ∷ []) ∷ []
listed_none letter xs first count e = elim (slice_get_cases xs first).1 [
  | inl p ↦ absurd (let q = p.2 in cc)
  | inr p ↦ ap (listed letter) (nil_from_length (take count (drop first xs)) (omega (arith, p.0, length-take count (drop first xs), length-drop first xs)))
]

-- and one that names no place
pub listed_empty : (letter : ℕ) (xs : List ℕ) (first count : ℕ) → count ≡ 0 → listed letter (take count (drop first xs)) ≡ (45 ∷ []) ∷ []
listed_empty letter xs first count e = rw e refl

-- the head of an entry's line, as it is put together
pub head_joined : (o d p : List ℕ) (event reply : List (List ℕ))
    → ((((o ++ d) ++ after_spaces (p ∷ [])) ++ after_spaces event) ++ 32 ∷ 61 ∷ []) ++ after_spaces reply ≡ o ++ (d ++ after_spaces (p ∷ (event ++ (61 ∷ []) ∷ reply)))
head_joined o d p event reply = simp (append_assoc, append-nil, after_spaces-append)

-- the last line, as it is put together
pub end_joined : (o : List ℕ) (n : ℕ) → ((o ++ codes "end ") ++ decimal n) ++ 10 ∷ [] ≡ o ++ end_text n
end_joined o n = simp (append_assoc)

-- of the report's entries a beginning was written, and these are left
pub record Reported (h : Finished) (left : List Entry) (a b : Option (List ℕ)) (p q : List ℕ) : Type 0 where
  pub text : List ℕ
  pub whole : entries_text h h.entries ≡ text ++ entries_text h left
  pub so_far : BuffersText a b p q text

pub none_reported : (h : Finished) (a : Option (List ℕ)) (p : List ℕ) → Reported h h.entries a a p p
none_reported h a p = record { text = []; whole = refl; so_far = BuffersText-none a p }

-- one more entry
pub one_more : (h : Finished) (e : Entry) (left : List Entry) (a b c : Option (List ℕ)) (p q r : List ℕ)
    → Reported h (e ∷ left) a b p q → BuffersText b c q r (entry_text h e) → Reported h left a c p r
one_more h e left a b c p q r w v = record {
  text = w.text ++ entry_text h e;
  whole = w.whole ∙ sym (append_assoc w.text (entry_text h e) (entries_text h left));
  so_far = BuffersText-then a b c p q r w.text (entry_text h e) w.so_far v;
}

-- an entry that couldn't be written
pub not_reported : {E : Type 0} (h : Finished) (e : Entry) (left : List Entry) (a b c : Option (List ℕ)) (p q r : List ℕ) (f g k : ℕ) (z : E)
    → Reported h (e ∷ left) a b p q → f ≤ g → Sends {E = E} b c q r g k (Err z) (entry_text h e)
    → Sends {E = E} a c p r f k (Err z) (entries_text h h.entries)
not_reported h e left a b c p q r f g k z w l v = Sends-into a b c p q r f g k z w.text (entry_text h e) (entries_text h left)
    (entries_text h h.entries) (w.whole ∙ sym (append_assoc w.text (entry_text h e) (entries_text h left))) w.so_far l v

-- all entries
pub all_reported : (h : Finished) (a b : Option (List ℕ)) (p q : List ℕ) → Reported h [] a b p q → BuffersText a b p q (entries_text h h.entries)
all_reported h a b p q w = rw (w.whole, append-nil w.text) w.so_far
