-- What is held of a report that is taken piece by piece, and what is answered in the end.
use Rattle.std.proofs.Common.{◌≡◌, ℕ, ◌+◌, ◌<◌, ◌≤◌, inl, inr, List, [], ◌++◌, length, Option, sym, ap, subst, ◌∙◌, arith, append_assoc, append-nil, length-append}
use Rattle.std.proofs.KnownBytes.{Consumes-trans}
use Rattle.std.specs.Io.KnownBytes.{Consumes, IsAtEnd}
use Rattle.std.specs.Prelude.{take}
use Rattle.std.proofs.lemmas.List.{take_all, take-append-le}
use Rattle.joint_machine.specs.Histories.{Finished}
use Rattle.byte_streams.specs.Reading.{Took}
use Rattle.report_reader.specs.Reading.{IsReadAs}
use Rattle.report_reader.specs.Steps.{GoesTo, Read}
use Rattle.report_reader.proofs.Reaching.{read_within}
use Rattle.limited_reports.specs.declared.limits.TakeError.{TakeError}
use Rattle.limited_reports.specs.declared.limits.TakeError.TheVariants.{OutOfMemory, ReadFault, Refused, Long}
use Rattle.limited_reports.specs.Answers.{IsLongRefusal, TookNone, TookReport}
use Rattle.limited_reports.specs.Pieces.{IsNone, IsTaken, IsTakenAll, IsTakenWhole}

module _ (most : ℕ) (l : Option (List ℕ)) where
  -- a further piece was taken, and lines were read of what is held
  pub taken_more : (a b : Option (List ℕ)) (old new : Read) (held piece left : List ℕ) (count : ℕ)
      → IsTaken most l a old held count → Consumes a b piece → GoesTo old new (held ++ piece) left → count + length piece ≤ most
      → IsTaken most l b new left (count + length piece)
  taken_more a b old new held piece left count t c g w =
      let r = g t.front t.lines in
      let all : (t.front ++ held) ++ piece ≡ (t.front ++ r.text) ++ left = append_assoc t.front held piece ∙ (ap (λ z. t.front ++ z) r.cut ∙ sym (append_assoc t.front r.text left)) in
      let one = ap length all in
      let two = length-append (t.front ++ held) piece in
      let three = length-append t.front held in
      let four = length-append (t.front ++ r.text) left in
      let before = t.size in
      record {
        front = t.front ++ r.text;
        lines = r.lines;
        taken = subst (Consumes l b) all (Consumes-trans l a b (t.front ++ held) piece t.taken c);
        size = omega (arith, one, two, three, four, before);
        within = omega (arith, one, two, three, four, before, w);
      }

  pub taken_piece : (a b : Option (List ℕ)) (old new : Read) (held buf rest left : List ℕ) (n count : ℕ) → n ≤ length buf → n ≡ length (take n buf)
      → IsTaken most l a old held count → Consumes a b (take n buf) → GoesTo old new (held ++ take n (buf ++ rest)) left → count + n ≤ most
      → IsTaken most l b new left (count + n)
  taken_piece a b old new held buf rest left n count f size t c g w =
      let same = take-append-le n buf rest f in
      let goes = subst (λ z. GoesTo old new (held ++ z) left) same g in
      let room : count + length (take n buf) ≤ most = omega (arith, size, w) in
      subst (λ k. IsTaken most l b new left (count + k)) (sym size) (taken_more a b old new held (take n buf) left count t c goes room)

  -- there is room to read what is held
  pub few_held : (a : Option (List ℕ)) (read : Read) (held : List ℕ) (count : ℕ) → IsTaken most l a read held count → length read.entries + length held ≤ count
  few_held a read held count t = (let e = read_within t.front read t.lines in let s = t.size in omega (arith, e, s))

  pub took_report : (r : Option (List ℕ)) (read : Read) (held : List ℕ) (h : Finished) (t : IsTakenWhole most l r read held) → IsReadAs (t.taken.front ++ held) h → TookReport most l r h
  took_report r read held h t w =
      let n = length-append t.taken.front held in
      let s = t.taken.size in
      let few = t.size in
      record { input = t.taken.front ++ held; taken = t.taken.taken; ended = t.ended; size = omega (arith, n, s, few); reads = w }

  pub took_none : (r : Option (List ℕ)) (read : Read) (held : List ℕ) (before now : ℕ) (e : TakeError) (t : IsTakenWhole most l r read held)
      → IsNone (t.taken.front ++ held) e → TookNone most l r before now e
  took_none r read held before now OutOfMemory t w = tt
  took_none r read held before now ReadFault t w = absurd w
  took_none r read held before now (Long line) t w = absurd w
  took_none r read held before now (Refused fault) t w =
      let n = length-append t.taken.front held in
      let s = t.taken.size in
      let few = t.size in
      record {
        input = t.taken.front ++ held;
        took = record { taken = t.taken.taken; stopped = inl t.ended; size = omega (arith, n, s, few) };
        wrong = inl record { size = omega (arith, n, s, few); wrong = w.0; none = w.1 };
      }

  -- the source ends
  abbrev pub whole_at : (a b : Option (List ℕ)) (read : Read) (held : List ℕ) (count : ℕ)
      → IsTaken most l a read held count → Consumes a b [] → IsAtEnd b → count ≤ most → IsTakenWhole most l b read held
  whole_at a b read held count t c e few =
      let same : (t.front ++ held) ++ [] ≡ t.front ++ held = append-nil (t.front ++ held) in
      record {
        count = count;
        taken = record {
          front = t.front;
          lines = t.lines;
          taken = subst (Consumes l b) same (Consumes-trans l a b (t.front ++ held) [] t.taken c);
          size = t.size;
          within = t.within;
        };
        size = few;
        ended = e;
      }

  abbrev pub ended_at : (a b : Option (List ℕ)) (read : Read) (held buf : List ℕ) (n : ℕ) → n ≡ 0 → 0 < length buf
      → Consumes a b (take n buf) → (n ≡ 0 → 0 < length buf → IsAtEnd b) → IsTakenAll most l a read held → IsTakenWhole most l b read held
  ended_at a b read held buf n z some c e t = whole_at a b read held most t.taken (subst (λ k. Consumes a b (take k buf)) z c) (e z some) (omega arith)

  -- it has more
  pub took_long : (a b : Option (List ℕ)) (read : Read) (held piece : List ℕ) (before now : ℕ) (e : TakeError) (t : IsTakenAll most l a read held)
      → Consumes a b piece → length piece ≡ 1 → IsLongRefusal (length t.taken.front + length held) (t.taken.front ++ (held ++ piece)) e
      → TookNone most l b before now e
  took_long a b read held piece before now e t c one w = by e (subst (λ n. IsLongRefusal n input e) t.taken.size w)
    where
      input : List ℕ
      input = t.taken.front ++ (held ++ piece)

      took : Took most l b input
      took =
          let x = length-append t.taken.front (held ++ piece) in
          let y = length-append held piece in
          let s = t.taken.size in
          let whole = subst (Consumes l b) (append_assoc t.taken.front held piece) (Consumes-trans l a b (t.taken.front ++ held) piece t.taken.taken c) in
          record { taken = whole; stopped = inr (omega (arith, x, y, s, one)); size = omega (arith, x, y, s, one) }

      long : most < length input
      long = (let x = length-append t.taken.front (held ++ piece) in let y = length-append held piece in let s = t.taken.size in omega (arith, x, y, s, one))

      by : (e : TakeError) → IsLongRefusal most input e → TookNone most l b before now e
      by OutOfMemory w = tt
      by ReadFault w = absurd w
      by (Refused fault) w = record { input = input; took = took; wrong = inr (long, w) }
      by (Long line) w = record { input = input; took = took; wrong = (long, w) }

  pub long_at : (a b : Option (List ℕ)) (read : Read) (held buf all : List ℕ) (n size before now : ℕ) (e : TakeError)
      → n ≤ length buf → (n ≡ 0 → ⊥) → length buf ≡ 1 → Consumes a b (take n buf) → all ≡ held ++ buf → size ≡ length held
      → (t : IsTakenAll most l a read held) → IsLongRefusal (length t.taken.front + size) (t.taken.front ++ all) e → TookNone most l b before now e
  long_at a b read held buf all n size before now e few some one c same len t w =
      let whole = subst (Consumes a b) (take_all n buf (omega (arith, one, some))) c in
      let text = subst (λ z. IsLongRefusal (length t.taken.front + size) (t.taken.front ++ z) e) same w in
      took_long a b read held buf before now e t whole one (subst (λ k. IsLongRefusal (length t.taken.front + k) (t.taken.front ++ (held ++ buf)) e) len text)

  pub long_few : (a : Option (List ℕ)) (read : Read) (held buf all : List ℕ) → length buf ≡ 1 → all ≡ held ++ buf → (t : IsTakenAll most l a read held) → length t.taken.front + length all < 4294967295
  long_few a read held buf all one same t =
      let x = ap length same in
      let y = length-append held buf in
      let s = t.taken.size in
      let few : most < 4294967294 = t.few in
      omega (arith, x, y, s, few, one)

-- how long a piece is
pub piece_size : (buf rest : List ℕ) (n : ℕ) → n ≤ length buf → n ≡ length (take n buf) → length (take n (buf ++ rest)) ≡ n
piece_size buf rest n f size = ap length (take-append-le n buf rest f) ∙ sym size
