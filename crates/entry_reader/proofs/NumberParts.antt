-- Numbers of a list are taken one by one. So far, whatever list with a citation the words are, what is left is the rest
-- of that list with the citation: each of its next numbers is the one that was taken, since a decimal is of one number,
-- and where none was taken the list is at its end.
use Rattle.std.proofs.Common.{◌≡◌, ◌≢◌, ℕ, ◌+◌, ◌<◌, ◌≤◌, ◌^◌, Bool, true, false, cond, List, [], ◌∷◌, ◌++◌, length, take, drop, get_or, Option, Some, None, All, decimal, refl, sym, ap, ◌∙◌, subst}
use Rattle.std.proofs.Common.{arith, append_assoc, append-nil, length-append}
use Rattle.std.proofs.lemmas.Fmt.{decimal_injective}
use Rattle.std.proofs.Math.Seq.{get_or-append_seam}
use Rattle.std.proofs.lemmas.List.{map-append}
use Rattle.std.proofs.lemmas.List.Elements.{recursion_from_All, All-cons, All-head, All-nil, All-push, All-tail, All-weaker}
use Rattle.joint_machine.specs.declared.names.Thread.{Thread}
use Rattle.bridge_script.specs.Words.{thread_text}
use Rattle.text_words.proofs.Cuts.{cut_at, free_before}
use Rattle.text_words.proofs.Cutting.{cut-first}
use Rattle.history_report.proofs.TextLines.{thread-whole}
use Rattle.joint_machine.proofs.Members.{Rises-push}
use Rattle.history_report.specs.Lists.{lettered}
use Rattle.history_report.specs.Report.{cite_words, place_text}
use Rattle.entry_reader.specs.Fitting.{Short}
use Rattle.entry_reader.specs.Saying.{IsList}
use Rattle.entry_reader.specs.Listing.{TakesNumber, TakesAll, Puts}
use Rattle.entry_reader.specs.Meaning.{as_managed, as_peers}

-- a word that writes a number writes no other one
pub other_number : (m n : ℕ) (w : List ℕ) → m < 2 ^ 64 → decimal m ≡ w → n < 2 ^ 64 → n ≢ m → decimal n ≢ w
other_number m n w l e k d f = d (decimal_injective n m k l (f ∙ sym e))

-- the next word as a number of the letter: none where no word is left, where it is no such number, or where it is too
-- low
pub number_empty : (letter least : ℕ) (old : List (List ℕ)) → old ≡ [] → TakesNumber letter least old old None
number_empty letter least old e = record { sound = refl; complete = λ n rest s l f. absurd (let a = e in let b = f in cc) }

pub number_unread : (letter least : ℕ) (old rest : List (List ℕ)) (w : List ℕ) → old ≡ w ∷ rest → ((n : ℕ) → n < 2 ^ 32 → letter ∷ decimal n ≢ w) → TakesNumber letter least old old None
number_unread letter least old rest w e n = record { sound = refl; complete = λ m more s l f. absurd (n m s (let a = e in let b = f in cc)) }

-- a word is of one number
same_number : (letter m n : ℕ) (old rest more : List (List ℕ)) (w : List ℕ) → Short m → Short n → letter ∷ decimal m ≡ w → old ≡ w ∷ rest → old ≡ (letter ∷ decimal n) ∷ more → (m ≡ n) × (rest ≡ more)
same_number letter m n old rest more w s t r e f =
    let both : (letter ∷ decimal m) ∷ rest ≡ (letter ∷ decimal n) ∷ more = ap (λ z. z ∷ rest) r ∙ (sym e ∙ f) in
    let text : decimal m ≡ decimal n = cc in
    (decimal_injective m n (omega (arith, s)) (omega (arith, t)) text, cc)

pub number_low : (letter least m : ℕ) (old rest : List (List ℕ)) (w : List ℕ) → old ≡ w ∷ rest → Short m → letter ∷ decimal m ≡ w → m < least → TakesNumber letter least old old None
number_low letter least m old rest w e s r l = record { sound = refl; complete = λ n more t k f. absurd (let q = (same_number letter m n old rest more w s t r e f).0 in omega (arith, q, k, l)) }

pub number_next : (letter least m : ℕ) (old rest : List (List ℕ)) (w : List ℕ) → old ≡ w ∷ rest → Short m → letter ∷ decimal m ≡ w → least ≤ m → TakesNumber letter least old rest (Some m)
number_next letter least m old rest w e s r l = record {
  sound = (s, l, e ∙ ap (λ z. z ∷ rest) (sym r));
  complete = λ n more t k f. (let q = same_number letter m n old rest more w s t r e f in (ap (λ x. Some x) q.0, q.1));
}

-- what is left of a list: its other numbers, none below the least
pub record Rest (rising : Bool) (letter least : ℕ) (left : List (List ℕ)) (c : Option ℕ) : Type 0 where
  pub more : List ℕ
  pub list : IsList rising more
  pub above : All (λ n. least ≤ n) more
  pub words : left ≡ lettered letter more ++ cite_words c

-- what is known where these numbers were taken
pub record Taken (rising : Bool) (letter least : ℕ) (words left : List (List ℕ)) (ns : List ℕ) : Type 0 where
  pub list : IsList rising ns
  pub below : rising ≡ true → All (λ n. n < least) ns
  pub begins : words ≡ lettered letter ns ++ left
  pub only : (ms : List ℕ) (c : Option ℕ) → IsList rising ms → words ≡ lettered letter ms ++ cite_words c → Rest rising letter least left c

-- no number is below 0
from_none : (ns : List ℕ) → All (λ n. 0 ≤ n) ns
from_none [] = All-nil (λ n. 0 ≤ n)
from_none (n ∷ ns) = All-cons (λ n. 0 ≤ n) n ns (omega arith) (from_none ns)

pub taken_none : (rising : Bool) (letter : ℕ) (words : List (List ℕ)) → Taken rising letter 0 words words []
taken_none rising letter words = record {
  list = record { short = All-nil Short; rises = λ e. tt };
  below = λ e. All-nil (λ n. n < 0);
  begins = refl;
  only = λ ms c l e. record { more = ms; list = l; above = from_none ms; words = e };
}

lettered_push : (letter : ℕ) (ns : List ℕ) (n : ℕ) (ws : List (List ℕ)) → lettered letter (ns ++ n ∷ []) ++ ws ≡ lettered letter ns ++ ((letter ∷ decimal n) ∷ ws)
lettered_push letter [] n ws = refl
lettered_push letter (m ∷ ns) n ws = ap (λ t. (letter ∷ decimal m) ∷ t) (lettered_push letter ns n ws)

-- a citation has another letter
pub no_cite : (letter n : ℕ) (ws : List (List ℕ)) (c : Option ℕ) → letter ≢ 64 → (letter ∷ decimal n) ∷ ws ≡ cite_words c → ⊥
no_cite letter n ws None l e = cc
no_cite letter n ws (Some m) l e = l (cc)

-- the numbers behind one that was taken aren't below the least that may follow
next_above : (rising : Bool) (n : ℕ) (ms : List ℕ) → IsList rising (n ∷ ms) → All (λ m. cond rising (n + 1) 0 ≤ m) ms
next_above true n ms l = All-weaker (λ m. n < m) (λ m. n + 1 ≤ m) (λ m h. omega (arith, h)) ms (l.rises refl).0
next_above false n ms l = from_none ms

list_tail : (rising : Bool) (n : ℕ) (ms : List ℕ) → IsList rising (n ∷ ms) → IsList rising ms
list_tail rising n ms l = record { short = All-tail Short n ms l.short; rises = λ e. (l.rises e).1 }

next_rest : (rising : Bool) (letter least n : ℕ) (new : List (List ℕ)) (c : Option ℕ) → letter ≢ 64 → Short n
    → Rest rising letter least ((letter ∷ decimal n) ∷ new) c → Rest rising letter (cond rising (n + 1) 0) new c
next_rest rising letter least n new c l s r = by r.more r.list r.words
  where
    by : (more : List ℕ) → IsList rising more → (letter ∷ decimal n) ∷ new ≡ lettered letter more ++ cite_words c → Rest rising letter (cond rising (n + 1) 0) new c
    by [] k e = absurd (no_cite letter n new c l e)
    by (m ∷ more) k e =
        let text : decimal n ≡ decimal m = cc in
        let same : n ≡ m = decimal_injective n m (omega arith) (let b = All-head Short m more k.short in omega (arith, b)) text in
        let L : ℕ → Type 0 = λ z. All (λ y. cond rising (z + 1) 0 ≤ y) more in
        record { more = more; list = list_tail rising m more k; above = subst L (sym same) (next_above rising m more k); words = cc }

-- the numbers so far are below the least that may follow
below_next : (rising : Bool) (least n : ℕ) (ns : List ℕ) → least ≤ n → (rising ≡ true → All (λ m. m < least) ns) → rising ≡ true → All (λ m. m < cond rising (n + 1) 0) (ns ++ n ∷ [])
below_next true least n ns l b e = All-push (λ m. m < n + 1) ns n (All-weaker (λ m. m < least) (λ m. m < n + 1) (λ m h. omega (arith, h, l)) ns (b refl)) (omega arith)
below_next false least n ns l b e = absurd (cc)

-- one more number
pub taken_more : (rising : Bool) (letter least n : ℕ) (words left new : List (List ℕ)) (ns : List ℕ) → letter ≢ 64
    → TakesNumber letter least left new (Some n) → Taken rising letter least words left ns → Taken rising letter (cond rising (n + 1) 0) words new (ns ++ n ∷ [])
taken_more rising letter least n words left new ns l t k =
    let s = t.sound in
    let R : List (List ℕ) → Option ℕ → Type 0 = λ z c. Rest rising letter least z c in
    record {
      list = record {
        short = All-push Short ns n k.list.short s.0;
        rises = λ e. Rises-push ns n (k.list.rises e) (All-weaker (λ m. m < least) (λ m. m < n) (λ m h. omega (arith, h, s.1)) ns (k.below e));
      };
      below = below_next rising least n ns s.1 k.below;
      begins = k.begins ∙ (ap (λ z. lettered letter ns ++ z) s.2 ∙ sym (lettered_push letter ns n new));
      only = λ ms c h e. next_rest rising letter least n new c l s.0 (subst (λ (z : List (List ℕ)). Rest rising letter least z c) s.2 (k.only ms c h e));
    }

-- no further number
last_rest : (rising : Bool) (letter least : ℕ) (left new : List (List ℕ)) (c : Option ℕ) → TakesNumber letter least left new None → Rest rising letter least left c → new ≡ cite_words c
last_rest rising letter least left new c t r = by r.more r.list r.above r.words
  where
    by : (more : List ℕ) → IsList rising more → All (λ n. least ≤ n) more → left ≡ lettered letter more ++ cite_words c → new ≡ cite_words c
    by [] k a e = t.sound ∙ e
    by (m ∷ more) k a e = absurd (let h = (t.complete m (lettered letter more ++ cite_words c) (All-head Short m more k.short) (All-head (λ n. least ≤ n) m more a) e).0 in cc)

pub taken_all : (rising : Bool) (letter least : ℕ) (words left new : List (List ℕ)) (ns : List ℕ)
    → TakesNumber letter least left new None → Taken rising letter least words left ns → TakesAll rising letter words new ns
taken_all rising letter least words left new ns t k = record {
  list = k.list;
  words = k.begins ∙ ap (λ z. lettered letter ns ++ z) (sym t.sound);
  only = λ ms c h e. last_rest rising letter least left new c t (k.only ms c h e);
}

-- the numbers that were taken were put behind a list
pub record PutSoFar {A : Type 0} (of : List ℕ → List A) (rising : Bool) (letter least : ℕ) (words left : List (List ℕ)) (before after : List A) : Type 0 where
  pub numbers : List ℕ
  pub taken : Taken rising letter least words left numbers
  pub put : after ≡ before ++ of numbers

pub put_none : {A : Type 0} (of : List ℕ → List A) (rising : Bool) (letter : ℕ) (words : List (List ℕ)) (before : List A) → of [] ≡ [] → PutSoFar of rising letter 0 words words before before
put_none of rising letter words before e = record { numbers = []; taken = taken_none rising letter words; put = sym (ap (λ z. before ++ z) e ∙ append-nil before) }

-- a list of objects goes on with that of a further number
abbrev pub Pushes : {A : Type 0} → (List ℕ → List A) → (ℕ → A) → Type 0
Pushes of one = (ns : List ℕ) (n : ℕ) → of (ns ++ n ∷ []) ≡ of ns ++ one n ∷ []

pub put_more : {A : Type 0} (of : List ℕ → List A) (one : ℕ → A) (rising : Bool) (letter least n : ℕ) (words left new : List (List ℕ)) (before mid after : List A)
    → Pushes of one → letter ≢ 64 → TakesNumber letter least left new (Some n) → PutSoFar of rising letter least words left before mid → after ≡ mid ++ one n ∷ []
    → PutSoFar of rising letter (cond rising (n + 1) 0) words new before after
put_more of one rising letter least n words left new before mid after p l t k e = record {
  numbers = k.numbers ++ n ∷ [];
  taken = taken_more rising letter least n words left new k.numbers l t k.taken;
  put = e ∙ (ap (λ z. z ++ one n ∷ []) k.put ∙ (append_assoc before (of k.numbers) (one n ∷ []) ∙ ap (λ z. before ++ z) (sym (p k.numbers n))));
}

pub put_all : {A : Type 0} (of : List ℕ → List A) (rising : Bool) (letter least : ℕ) (words left new : List (List ℕ)) (before after : List A)
    → TakesNumber letter least left new None → PutSoFar of rising letter least words left before after → Puts of rising letter words new before after
put_all of rising letter least words left new before after t k = record { numbers = k.numbers; takes = taken_all rising letter least words left new k.numbers t k.taken; put = k.put }

-- objects of a kind, one after another
pub managed_push : Pushes as_managed (λ n. record { 0 = n })
managed_push ns n = map-append _ ns (n ∷ [])

pub peers_push : Pushes as_peers (λ n. record { 0 = n })
peers_push ns n = map-append _ ns (n ∷ [])

-- a place has a point behind its thread, the first one
pub no_point : (w : List ℕ) (t : Thread) (n d : ℕ) → d ≡ length w → ((k : ℕ) → k < d → get_or w k 0 ≡ 46 → ⊥) → place_text t n ≢ w
no_point w t n d e before f =
    let k = length (thread_text t) in
    let long : length w ≡ k + (1 + length (decimal n)) = omega (arith, ap length (sym f), length-append (thread_text t) (46 ∷ decimal n)) in
    before k (omega (arith, long, e)) (ap (λ z. get_or z k 0) (sym f) ∙ get_or-append_seam (thread_text t) 46 (decimal n) 0)

-- the parts of a place
pub place_parts : (w : List ℕ) (t : Thread) (n d : ℕ) → d < length w → ((k : ℕ) → k < d → get_or w k 0 ≡ 46 → ⊥)
    → get_or w d 0 ≡ 46 → place_text t n ≡ w → (thread_text t ≡ take d w) × (decimal n ≡ drop (d + 1) w)
place_parts w t n d l before found e =
    let free = recursion_from_All (λ b. b ≢ 46) (take d w) (free_before 46 d w (omega (arith, l)) before) in
    cut-first 46 (thread_text t) (take d w) (decimal n) (drop (d + 1) w) (thread-whole t) free (e ∙ cut_at 46 d w l found)

-- and these make one
pub place_made : (w : List ℕ) (t : Thread) (n d : ℕ) → d < length w → get_or w d 0 ≡ 46 → thread_text t ≡ take d w → decimal n ≡ drop (d + 1) w → place_text t n ≡ w
place_made w t n d l found a b = ap (λ z. z ++ (46 ∷ decimal n)) a ∙ (ap (λ z. take d w ++ (46 ∷ z)) b ∙ sym (cut_at 46 d w l found))
