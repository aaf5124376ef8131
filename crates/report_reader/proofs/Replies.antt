-- The words of a reply tell it, but for where its span stands, with the numbers of its list: where two replies have one
-- text, the event tells which is meant. So it is read back by computing, by its first word: a number, a letter with a
-- number, or a word that is always the same.
use Rattle.std.proofs.Common.{◌≡◌, ◌≢◌, ℕ, ◌+◌, ◌*◌, ◌<◌, ◌^◌, Bool, true, false, ◌&&◌, cond, List, [], ◌∷◌, get_or, length, map, All, codes, decimal, refl, sym, ap, ◌∙◌, arith, true≢false}
use Rattle.std.specs.Prelude.{nat_eq, nat_lt, if◌then◌else◌}
use Rattle.std.specs.List.{AllByRecursion}
use Rattle.std.specs.Str.Parse.{digits_value}
use Rattle.std.proofs.lemmas.Bool.Decides.{nat_tests}
use Rattle.std.proofs.lemmas.Fmt.{decimal_is_IsNumeral, decimal_nonempty}
use Rattle.std.proofs.lemmas.List.Elements.{All-head, All-tail}
use Rattle.joint_machine.specs.declared.names.Phase.{Phase}
use Rattle.joint_machine.specs.declared.names.Phase.TheVariants as at
use Rattle.joint_machine.specs.declared.names.Sort.{Sort}
use Rattle.joint_machine.specs.declared.names.Sort.TheVariants as sort
use Rattle.joint_machine.specs.declared.names.Span.{Span}
use Rattle.joint_machine.specs.declared.events.Reply.{Reply}
use Rattle.joint_machine.specs.declared.events.Reply.TheVariants as reply
use Rattle.history_report.specs.Lists.{lettered, listed}
use Rattle.text_words.proofs.Decimals.{IsDigit, decimal-digits}
use Rattle.entry_reader.specs.Fitting.{Short, FitsReply}
use Rattle.entry_reader.specs.Saying.{IsShown, said}

-- a word as a number, so that words are compared by computing
abbrev pub code : List ℕ → ℕ
code [] = 0
code (b ∷ bs) = b + 256 * code bs

abbrev pub is_word : List ℕ → List ℕ → Bool
is_word v w = nat_eq (code v) (code w)

abbrev pub behind : List ℕ → List ℕ
behind [] = []
behind (b ∷ bs) = bs

abbrev pub number_of : List ℕ → ℕ
number_of w = digits_value 10 w

abbrev pub number_in : List ℕ → ℕ
number_in w = digits_value 10 (behind w)

abbrev pub word_at : List (List ℕ) → ℕ → List ℕ
word_at ws i = get_or ws i []

-- the first byte of a word
abbrev pub byte_of : List ℕ → ℕ
byte_of w = get_or w 0 0

abbrev is_digit : ℕ → Bool
is_digit b = nat_lt 47 b && nat_lt b 58

-- a span doesn't show where it stands
abbrev pub no_span : Span
no_span = record { first = 0; count = 0 }

abbrev pub bare : Reply → Reply
bare (reply.Snapped n s) = reply.Snapped n no_span
bare (reply.Freed s) = reply.Freed no_span
bare (reply.Swept j s) = reply.Swept j no_span
bare (reply.Took s) = reply.Took no_span
bare r = r

-- the numbers of its list, where it has one
abbrev pub shown_by : Reply → List ℕ → List ℕ
shown_by (reply.Snapped n s) ns = ns
shown_by (reply.Freed s) ns = ns
shown_by (reply.Swept j s) ns = ns
shown_by (reply.Took s) ns = ns
shown_by r ns = []

abbrev phase_of : List ℕ → Phase
phase_of w = if is_word w (codes "idle") then at.Idle
    else (if is_word w (codes "snapped") then at.Snapped
    else (if is_word w (codes "contracted") then at.Contracted
    else (if is_word w (codes "mirrored") then at.Mirrored
    else (if is_word w (codes "weakened") then at.Weakened
    else (if is_word w (codes "marked") then at.Marked
    else (if is_word w (codes "swept") then at.Swept else at.Restored))))))

abbrev pub sort_of : List ℕ → Sort
sort_of w = if is_word w (codes "user") then sort.User else sort.Framework

-- the numbers of a list's words
abbrev numbers_of : List (List ℕ) → List ℕ
numbers_of [] = []
numbers_of (w ∷ ws) = if nat_eq (byte_of w) 45 then [] else map number_in (w ∷ ws)

-- a reply with the numbers of its list, by a first word that is always the same
abbrev by_word : List ℕ → List (List ℕ) → Reply × List ℕ
by_word w ws = if is_word w (codes "ok") then (reply.Ok, [])
    else (if is_word w (codes "empty") then (reply.Empty, [])
    else (if is_word w (codes "range") then (reply.Range, [])
    else (if is_word w (codes "null") then (reply.Null, [])
    else (if is_word w (codes "taken") then (reply.Taken, [])
    else (if is_word w (codes "gone") then (reply.Gone, [])
    else (if is_word w (codes "unset") then (reply.Unset, [])
    else (if is_word w (codes "full") then (reply.Full, [])
    else (if is_word w (codes "plain") then (reply.Plain, [])
    else (if is_word w (codes "nomark") then (reply.NoMark, [])
    else (if is_word w (codes "more") then (reply.More, [])
    else (if is_word w (codes "done") then (reply.Done, [])
    else (if is_word w (codes "cleared") then (reply.Cleared, [])
    else (if is_word w (codes "pending") then (reply.Pending record { 0 = number_of (word_at ws 0) }, [])
    else (if is_word w (codes "pinned") then (reply.Pinned record { 0 = number_in (word_at ws 0) }, [])
    else (if is_word w (codes "marking") then (reply.MarkOpen record { 0 = number_of (word_at ws 0) }, [])
    else (if is_word w (codes "open") then (reply.CycleOpen record { 0 = number_of (word_at ws 0) }, [])
    else (if is_word w (codes "at") then (reply.At (phase_of (word_at ws 0)), [])
    else (if is_word w (codes "alive") then (reply.Renewed record { 0 = number_in (word_at ws 0) }, [])
    else (if is_word w (codes "freed") then (reply.Freed no_span, numbers_of ws)
    else (reply.Took no_span, []))))))))))))))))))))

-- by a number, which is a marking or counts what the next word says; of a sweep an empty list is one of peers
abbrev freed_by : Bool → ℕ → List (List ℕ) → Reply × List ℕ
freed_by sweeps n ws = if nat_eq (byte_of (word_at ws 0)) 112 then (reply.Swept record { 0 = n } no_span, numbers_of ws)
    else (if nat_eq (byte_of (word_at ws 0)) 109 then (reply.Snapped n no_span, numbers_of ws)
    else (if sweeps then (reply.Swept record { 0 = n } no_span, []) else (reply.Snapped n no_span, [])))

abbrev by_number : Bool → ℕ → List (List ℕ) → Reply × List ℕ
by_number sweeps n [] = (reply.Mark record { 0 = n }, [])
by_number sweeps n (w ∷ ws) = if is_word w (codes "freed") then freed_by sweeps n ws
    else (if is_word w (codes "sccs") then (reply.Sccs n (number_of (word_at ws 0)), [])
    else (reply.Refs n, []))

-- by a letter with a number: of a `finalise` one object is a list of one
abbrev by_managed : Bool → ℕ → List (List ℕ) → Reply × List ℕ
by_managed takes n [] = if takes then (reply.Took no_span, n ∷ []) else (reply.M record { 0 = n }, [])
by_managed takes n (w ∷ ws) = if nat_eq (byte_of w) 109 then (reply.Took no_span, n ∷ map number_in (w ∷ ws))
    else (if nat_eq (byte_of w) 110 then (reply.New record { 0 = n }, []) else (reply.Twin record { 0 = n }, []))

abbrev by_peer : ℕ → List (List ℕ) → Reply × List ℕ
by_peer p [] = (reply.P record { 0 = p }, [])
by_peer p (h ∷ []) = (reply.Made record { 0 = p } record { 0 = number_in h }, [])
by_peer p (h ∷ s ∷ ws) = (reply.Gripped record { 0 = p } record { 0 = number_in h } (sort_of s) (number_of (word_at ws 0)), [])

abbrev by_letter : Bool → ℕ → ℕ → List (List ℕ) → Reply × List ℕ
by_letter takes b n ws = if nat_eq b 109 then by_managed takes n ws else (if nat_eq b 112 then by_peer n ws else (reply.H record { 0 = n }, []))

-- by the first word; whether the event takes notices, and whether it is a sweep
abbrev by_first : Bool → Bool → List ℕ → List (List ℕ) → Reply × List ℕ
by_first takes sweeps w ws = cond (is_digit (byte_of w)) (by_number sweeps (number_of w) ws) (cond (is_digit (get_or w 1 0)) (by_letter takes (byte_of w) (number_in w) ws) (by_word w ws))

abbrev read : Bool → Bool → List (List ℕ) → Reply × List ℕ
read takes sweeps [] = (reply.Ok, [])
read takes sweeps (w ∷ ws) = by_first takes sweeps w ws

-- a decimal begins with a digit
first_is : (n : ℕ) → n < 2 ^ 64 → IsDigit (get_or (decimal n) 0 0)
first_is n l = decimal-digits n 0 0 (decimal_nonempty n l)

digit_true : (b : ℕ) → IsDigit b → is_digit b ≡ true
digit_true b h = (let l = h.0 in let m = h.1 in grind (arith, nat_tests))

first_digit : (n : ℕ) → n < 2 ^ 64 → is_digit (get_or (decimal n) 0 0) ≡ true
first_digit n l = digit_true (get_or (decimal n) 0 0) (first_is n l)

pub read-number : (n : ℕ) → n < 2 ^ 64 → digits_value 10 (decimal n) ≡ n
read-number n l = (decimal_is_IsNumeral n l).1

-- a first word that is a number, and one that is a letter with a number
number_first : (takes sweeps : Bool) (n : ℕ) (ws : List (List ℕ)) → n < 2 ^ 64 → read takes sweeps (decimal n ∷ ws) ≡ by_number sweeps n ws
number_first takes sweeps n ws l =
    ap (λ t. cond t (by_number sweeps (number_of (decimal n)) ws)
    (cond (is_digit (get_or (decimal n) 1 0)) (by_letter takes (byte_of (decimal n)) (number_in (decimal n)) ws) (by_word (decimal n) ws))) (first_digit n l)
    ∙ ap (λ k. by_number sweeps k ws) (read-number n l)

letter_first : (takes sweeps : Bool) (b n : ℕ) (ws : List (List ℕ)) → is_digit b ≡ false → n < 2 ^ 64 → read takes sweeps ((b ∷ decimal n) ∷ ws) ≡ by_letter takes b n ws
letter_first takes sweeps b n ws e l =
    ap (λ t. cond t (by_number sweeps (number_of (b ∷ decimal n)) ws) (cond (is_digit (get_or (decimal n) 0 0)) (by_letter takes b (number_in (b ∷ decimal n)) ws) (by_word (b ∷ decimal n) ws))) e
    ∙ (ap (λ t. cond t (by_letter takes b (number_in (b ∷ decimal n)) ws) (by_word (b ∷ decimal n) ws)) (first_digit n l) ∙ ap (λ k. by_letter takes b k ws) (read-number n l))

-- a list is read back
list_read : (letter : ℕ) (ns : List ℕ) → All Short ns → map number_in (lettered letter ns) ≡ ns
list_read letter [] h = refl
list_read letter (n ∷ ns) h =
    let few = All-head Short n ns h in
    let e = read-number n (omega (arith, few)) in
    let k = list_read letter ns (All-tail Short n ns h) in
    λ i. e i ∷ k i

numbers_read : (ns : List ℕ) (letter : ℕ) → nat_eq letter 45 ≡ false → All Short ns → numbers_of (listed letter ns) ≡ ns
numbers_read [] letter e h = refl
numbers_read (n ∷ ns) letter e h = ap (λ t. cond t [] (map number_in (lettered letter (n ∷ ns)))) e ∙ list_read letter (n ∷ ns) h

pub wide : (n : ℕ) → Short n → n < 2 ^ 64
wide n l = omega (arith, l)

-- which reply is meant, as far as the words don't tell
abbrev pub MeantBy : Bool → Bool → Reply → List ℕ → Type 0
MeantBy takes sweeps (reply.M m) ns = takes ≡ false
MeantBy takes sweeps (reply.Took s) ns = takes ≡ false → length ns ≢ 1
MeantBy takes sweeps (reply.Snapped n s) ns = sweeps ≡ true → length ns ≢ 0
MeantBy takes sweeps (reply.Swept j s) ns = sweeps ≡ false → length ns ≢ 0
MeantBy takes sweeps r ns = Unit {0}

took_read : (takes sweeps : Bool) (s : Span) (ns : List ℕ) → All Short ns → (takes ≡ false → length ns ≢ 1) → read takes sweeps (said (reply.Took s) ns) ≡ (reply.Took no_span, ns)
took_read takes sweeps s [] h m = refl
took_read true sweeps s (n ∷ []) h m = letter_first true sweeps 109 n [] refl (wide n (All-head Short n [] h))
took_read false sweeps s (n ∷ []) h m = absurd (m refl refl)
took_read takes sweeps s (n ∷ k ∷ ns) h m =
    letter_first takes sweeps 109 n (lettered 109 (k ∷ ns)) refl (wide n (All-head Short n (k ∷ ns) h)) ∙ ap (λ z. (reply.Took no_span, n ∷ z)) (list_read 109 (k ∷ ns) (All-tail Short n (k ∷ ns) h))

snapped_read : (takes sweeps : Bool) (n : ℕ) (s : Span) (ns : List ℕ) → Short n → All Short ns
    → (sweeps ≡ true → length ns ≢ 0) → read takes sweeps (said (reply.Snapped n s) ns) ≡ (reply.Snapped n no_span, ns)
snapped_read takes false n s [] l h m = number_first takes false n (codes "freed" ∷ codes "-" ∷ []) (wide n l)
snapped_read takes true n s [] l h m = absurd (m refl refl)
snapped_read takes sweeps n s (k ∷ ns) l h m =
    number_first takes sweeps n (codes "freed" ∷ lettered 109 (k ∷ ns)) (wide n l) ∙ ap (λ z. (reply.Snapped n no_span, z)) (list_read 109 (k ∷ ns) h)

swept_read : (takes sweeps : Bool) (n : ℕ) (s : Span) (ns : List ℕ) → Short n → All Short ns → (sweeps ≡ false → length ns ≢ 0)
    → read takes sweeps (said (reply.Swept record { 0 = n } s) ns) ≡ (reply.Swept record { 0 = n } no_span, ns)
swept_read takes true n s [] l h m = number_first takes true n (codes "freed" ∷ codes "-" ∷ []) (wide n l)
swept_read takes false n s [] l h m = absurd (m refl refl)
swept_read takes sweeps n s (k ∷ ns) l h m =
    number_first takes sweeps n (codes "freed" ∷ lettered 112 (k ∷ ns)) (wide n l) ∙ ap (λ z. (reply.Swept record { 0 = n } no_span, z)) (list_read 112 (k ∷ ns) h)

-- each reply is read back
pub read_back : (takes sweeps : Bool) (r : Reply) (ns : List ℕ) → FitsReply r → IsShown r ns → MeantBy takes sweeps r ns → read takes sweeps (said r ns) ≡ (bare r, shown_by r ns)
read_back takes sweeps (reply.M m) ns f w g = letter_first takes sweeps 109 m.0 [] refl (wide m.0 f) ∙ ap (λ t. cond t (reply.Took no_span, m.0 ∷ []) (reply.M m, [])) g
read_back takes sweeps (reply.P p) ns f w g = letter_first takes sweeps 112 p.0 [] refl (wide p.0 f)
read_back takes sweeps (reply.H h) ns f w g = letter_first takes sweeps 104 h.0 [] refl (wide h.0 f)
read_back takes sweeps (reply.Renewed h) ns f w g = (let e = read-number h.0 (wide h.0 f) in λ i. (reply.Renewed record { 0 = e i }, []))
read_back takes sweeps (reply.New m) ns f w g = letter_first takes sweeps 109 m.0 (codes "new" ∷ []) refl (wide m.0 f)
read_back takes sweeps (reply.Twin m) ns f w g = letter_first takes sweeps 109 m.0 (codes "twin" ∷ []) refl (wide m.0 f)
read_back takes sweeps (reply.Made p h) ns f w g =
    let e = read-number h.0 (wide h.0 f.1) in
    letter_first takes sweeps 112 p.0 ((104 ∷ decimal h.0) ∷ []) refl (wide p.0 f.0) ∙ (λ i. (reply.Made p record { 0 = e i }, []))
read_back takes sweeps (reply.Gripped p h sort.User n) ns f w g =
    let e = read-number h.0 (wide h.0 f.1) in
    let k = read-number n (let l = f.2 in omega (arith, l)) in
    letter_first takes sweeps 112 p.0 ((104 ∷ decimal h.0) ∷ codes "user" ∷ decimal n ∷ []) refl (wide p.0 f.0) ∙ (λ i. (reply.Gripped p record { 0 = e i } sort.User (k i), []))
read_back takes sweeps (reply.Gripped p h sort.Framework n) ns f w g =
    let e = read-number h.0 (wide h.0 f.1) in
    let k = read-number n (let l = f.2 in omega (arith, l)) in
    letter_first takes sweeps 112 p.0 ((104 ∷ decimal h.0) ∷ codes "framework" ∷ decimal n ∷ []) refl (wide p.0 f.0) ∙ (λ i. (reply.Gripped p record { 0 = e i } sort.Framework (k i), []))
read_back takes sweeps (reply.Pending k) ns f w g = (let e = read-number k.0 (wide k.0 f) in λ i. (reply.Pending record { 0 = e i }, []))
read_back takes sweeps (reply.Pinned m) ns f w g = (let e = read-number m.0 (wide m.0 f) in λ i. (reply.Pinned record { 0 = e i }, []))
read_back takes sweeps (reply.Mark j) ns f w g = number_first takes sweeps j.0 [] (wide j.0 f)
read_back takes sweeps (reply.MarkOpen j) ns f w g = (let e = read-number j.0 (wide j.0 f) in λ i. (reply.MarkOpen record { 0 = e i }, []))
read_back takes sweeps (reply.CycleOpen k) ns f w g = (let e = read-number k.0 (wide k.0 f) in λ i. (reply.CycleOpen record { 0 = e i }, []))
read_back takes sweeps (reply.At at.Idle) ns f w g = refl
read_back takes sweeps (reply.At at.Snapped) ns f w g = refl
read_back takes sweeps (reply.At at.Contracted) ns f w g = refl
read_back takes sweeps (reply.At at.Mirrored) ns f w g = refl
read_back takes sweeps (reply.At at.Weakened) ns f w g = refl
read_back takes sweeps (reply.At at.Marked) ns f w g = refl
read_back takes sweeps (reply.At at.Swept) ns f w g = refl
read_back takes sweeps (reply.At at.Restored) ns f w g = refl
read_back takes sweeps (reply.Snapped n s) ns f w g = snapped_read takes sweeps n s ns f.0 w.short g
read_back takes sweeps (reply.Sccs n m) ns f w g =
    let e = read-number m (wide m f.1) in
    number_first takes sweeps n (codes "sccs" ∷ decimal m ∷ codes "xrefs" ∷ []) (wide n f.0) ∙ (λ i. (reply.Sccs n (e i), []))
read_back takes sweeps (reply.Refs n) ns f w g = number_first takes sweeps n (codes "refs" ∷ []) (wide n f)
read_back takes sweeps (reply.Swept j s) ns f w g = swept_read takes sweeps j.0 s ns f.0 w.short g
read_back takes sweeps (reply.Freed s) ns f w g = ap (λ z. (reply.Freed no_span, z)) (numbers_read ns 109 refl w.short)
read_back takes sweeps (reply.Took s) ns f w g = took_read takes sweeps s ns w.short g
read_back takes sweeps reply.Ok ns f w g = refl
read_back takes sweeps reply.Empty ns f w g = refl
read_back takes sweeps reply.Range ns f w g = refl
read_back takes sweeps reply.Null ns f w g = refl
read_back takes sweeps reply.Taken ns f w g = refl
read_back takes sweeps reply.Gone ns f w g = refl
read_back takes sweeps reply.Unset ns f w g = refl
read_back takes sweeps reply.Full ns f w g = refl
read_back takes sweeps reply.Plain ns f w g = refl
read_back takes sweeps reply.NoMark ns f w g = refl
read_back takes sweeps reply.More ns f w g = refl
read_back takes sweeps reply.Done ns f w g = refl
read_back takes sweeps reply.Cleared ns f w g = refl

-- so replies with the same words are one, but for where their spans stand
pub one_reply : (takes sweeps : Bool) (r r' : Reply) (ns ns' : List ℕ) → FitsReply r → FitsReply r' → IsShown r ns → IsShown r' ns'
    → MeantBy takes sweeps r ns → MeantBy takes sweeps r' ns' → said r ns ≡ said r' ns' → (bare r ≡ bare r') × (shown_by r ns ≡ shown_by r' ns')
one_reply takes sweeps r r' ns ns' f f' w w' g g' e =
    let q = sym (read_back takes sweeps r ns f w g) ∙ (ap (read takes sweeps) e ∙ read_back takes sweeps r' ns' f' w' g') in
    (ap (λ (z : Reply × List ℕ). z.0) q, ap (λ (z : Reply × List ℕ). z.1) q)

-- no word of a reply begins as a citation
not_sign : (n : ℕ) → n < 2 ^ 64 → byte_of (decimal n) ≡ 64 → ⊥
not_sign n l e = (let d = first_is n l in let a = d.1 in omega (arith, a, e))

abbrev pub Unsigned : List (List ℕ) → Type 0
Unsigned ws = AllByRecursion (λ w. byte_of w ≡ 64 → ⊥) ws

other : (b : ℕ) → nat_eq b 64 ≡ false → b ≡ 64 → ⊥
other b e q = true≢false (sym (ap (λ k. nat_eq k 64) q) ∙ e)

list_unsigned : (letter : ℕ) (ns : List ℕ) → nat_eq letter 64 ≡ false → Unsigned (lettered letter ns)
list_unsigned letter [] e = tt
list_unsigned letter (n ∷ ns) e = (other letter e, list_unsigned letter ns e)

listed_unsigned : (letter : ℕ) (ns : List ℕ) → nat_eq letter 64 ≡ false → Unsigned (listed letter ns)
listed_unsigned letter [] e = (other 45 refl, tt)
listed_unsigned letter (n ∷ ns) e = list_unsigned letter (n ∷ ns) e

pub unsigned : (r : Reply) (ns : List ℕ) → FitsReply r → Unsigned (said r ns)
unsigned (reply.M m) ns f = (other 109 refl, tt)
unsigned (reply.P p) ns f = (other 112 refl, tt)
unsigned (reply.H h) ns f = (other 104 refl, tt)
unsigned (reply.Renewed h) ns f = (other 97 refl, (other 104 refl, tt))
unsigned (reply.New m) ns f = (other 109 refl, (other 110 refl, tt))
unsigned (reply.Twin m) ns f = (other 109 refl, (other 116 refl, tt))
unsigned (reply.Made p h) ns f = (other 112 refl, (other 104 refl, tt))
unsigned (reply.Gripped p h sort.User n) ns f = (other 112 refl, (other 104 refl, (other 117 refl, (not_sign n (let l = f.2 in omega (arith, l)), tt))))
unsigned (reply.Gripped p h sort.Framework n) ns f = (other 112 refl, (other 104 refl, (other 102 refl, (not_sign n (let l = f.2 in omega (arith, l)), tt))))
unsigned (reply.Pending k) ns f = (other 112 refl, (not_sign k.0 (wide k.0 f), tt))
unsigned (reply.Pinned m) ns f = (other 112 refl, (other 109 refl, tt))
unsigned (reply.Mark j) ns f = (not_sign j.0 (wide j.0 f), tt)
unsigned (reply.MarkOpen j) ns f = (other 109 refl, (not_sign j.0 (wide j.0 f), tt))
unsigned (reply.CycleOpen k) ns f = (other 111 refl, (not_sign k.0 (wide k.0 f), tt))
unsigned (reply.At at.Idle) ns f = (other 97 refl, (other 105 refl, tt))
unsigned (reply.At at.Snapped) ns f = (other 97 refl, (other 115 refl, tt))
unsigned (reply.At at.Contracted) ns f = (other 97 refl, (other 99 refl, tt))
unsigned (reply.At at.Mirrored) ns f = (other 97 refl, (other 109 refl, tt))
unsigned (reply.At at.Weakened) ns f = (other 97 refl, (other 119 refl, tt))
unsigned (reply.At at.Marked) ns f = (other 97 refl, (other 109 refl, tt))
unsigned (reply.At at.Swept) ns f = (other 97 refl, (other 115 refl, tt))
unsigned (reply.At at.Restored) ns f = (other 97 refl, (other 114 refl, tt))
unsigned (reply.Snapped n s) ns f = (not_sign n (wide n f.0), (other 102 refl, listed_unsigned 109 ns refl))
unsigned (reply.Sccs n m) ns f = (not_sign n (wide n f.0), (other 115 refl, (not_sign m (wide m f.1), (other 120 refl, tt))))
unsigned (reply.Refs n) ns f = (not_sign n (wide n f), (other 114 refl, tt))
unsigned (reply.Swept j s) ns f = (not_sign j.0 (wide j.0 f.0), (other 102 refl, listed_unsigned 112 ns refl))
unsigned (reply.Freed s) ns f = (other 102 refl, listed_unsigned 109 ns refl)
unsigned (reply.Took s) ns f = listed_unsigned 109 ns refl
unsigned reply.Ok ns f = (other 111 refl, tt)
unsigned reply.Empty ns f = (other 101 refl, tt)
unsigned reply.Range ns f = (other 114 refl, tt)
unsigned reply.Null ns f = (other 110 refl, tt)
unsigned reply.Taken ns f = (other 116 refl, tt)
unsigned reply.Gone ns f = (other 103 refl, tt)
unsigned reply.Unset ns f = (other 117 refl, tt)
unsigned reply.Full ns f = (other 102 refl, tt)
unsigned reply.Plain ns f = (other 112 refl, tt)
unsigned reply.NoMark ns f = (other 110 refl, tt)
unsigned reply.More ns f = (other 109 refl, tt)
unsigned reply.Done ns f = (other 100 refl, tt)
unsigned reply.Cleared ns f = (other 99 refl, tt)
