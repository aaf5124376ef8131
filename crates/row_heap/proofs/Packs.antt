-- An end and its number.
use Rattle.std.proofs.Common.{◌≡◌, ℕ, ◌+◌, ◌-◌, ◌≤◌, ap, ◌∙◌, arith}
use Rattle.std.specs.Prelude.{if◌then◌else◌}
use borrow.Author.Tests.{le-leb, lt-leb}
use Rattle.row_heap.specs.declared.references.End.{End}
use Rattle.row_heap.specs.declared.references.End.TheVariants.{Object, Temporary}
use Rattle.row_heap.specs.Ends.{IsEnd, end_of}
use Rattle.row_heap.specs.Packed.{IsSmall, unpacked}

pub object-packed : (x : ℕ) → x ≤ 65535 → unpacked x ≡ Object x
object-packed x le = ap (λ b. if b then Temporary (x - 65536) else Object x) (lt-leb 65536 x (omega (arith, le)))

pub temporary-packed : (t : ℕ) → unpacked (t + 65536) ≡ Temporary t
temporary-packed t =
    let back : t + 65536 - 65536 ≡ t = omega arith in
    ap (λ b. if b then Temporary (t + 65536 - 65536) else Object (t + 65536)) (le-leb 65536 (t + 65536) (omega arith)) ∙ ap Temporary back

pub small-end : (temps : ℕ) (e : End) → IsEnd temps (end_of e) → temps ≤ 4294901760 → IsSmall e
small-end temps (Object x) is le = is
small-end temps (Temporary t) is le = omega (arith, is, le)
