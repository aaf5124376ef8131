-- The last entry, and where it is marked the last mark.
use Rattle.std.proofs.Common.{rules, ◌≡◌, ◌+◌, ◌-◌, ◌<◌, ◌≤◌, length, arith, ap, sym, subst, ◌∙◌, refl, true, false}
use Rattle.joint_machine.specs.declared.events.Entry.{Entry}
use Rattle.joint_model.specs.declared.packed.PackedEntry.{PackedEntry}
use Rattle.joint_model.specs.declared.marks.Mark.{Mark}
use Rattle.joint_model.specs.Following.{follower_of}
use Rattle.joint_model.specs.Packed.{entry_high, entry_in}
use Rattle.joint_model.specs.Marks.{leaders_of, Row}
use Rattle.joint_model.proofs.Places.{is-last, followers_in, length_leaders, same-at, Fits-first_follower, Fits-more, Follows-first, Follows-more, marked-last, some-mark, entry-low}
use Rattle.joint_model.proofs.marks.Leaders.follow.Goals as goal

pub overflow_cast-n : goal.overflow_cast-n
overflow_cast-n c =
    let es = c.self.inside.entries.items in
    let all : length (leaders_of 0 es c.self.inside.marks.items) ≡ length c.args.self.now.all = ap (λ (s : Row). length s.all) c.self.view_is in
    let size : c.len-n.result ≡ length es = search rules in
    omega (arith, all, size, length_leaders 0 es c.self.inside.marks.items, c.requires.limit)

pub invariant_of-self : goal.invariant_of-self
invariant_of-self c =
    let es = c.self.inside.entries.items in
    let ms = c.self.inside.marks.items in
    let k = c.len-n.result - 1 in
    let p = c.index_mut.result.now in
    let last : k + 1 ≡ length es = search rules in
    let all : leaders_of 0 es ms ≡ c.args.self.now.all = ap (λ (s : Row). s.all) c.self.view_is in
    let same : c.index.result.now ≡ p = same-at es k c.index.result.now p (omega (arith, last)) c.index.ensures c.index_mut.ensures.value in
    let unmarked : c.index.result.now.marked ≡ false = search rules in
    let e : p.marked ≡ false = subst (λ (x : PackedEntry). x.marked ≡ false) same unmarked in
    rw c.push_reserved.ensures.items
    (Fits-first_follower es ms k p _ _ (is-last es k p last c.index_mut.ensures.value) c.self.invariant e refl refl (sym (ap followers_in all ∙ c.requires.from)))

pub returns-then-not-index : goal.returns-then-not-index
returns-then-not-index c =
    let es = c.self.inside.entries.items in
    let ms = c.self.inside.marks.items in
    let k = c.len-n.result - 1 in
    let p = c.index_mut.result.now in
    let last : k + 1 ≡ length es = search rules in
    let within : k < length es = omega (arith, last) in
    let all : leaders_of 0 es ms ≡ c.args.self.now.all = ap (λ (s : Row). s.all) c.self.view_is in
    let same : c.index.result.now ≡ p = same-at es k c.index.result.now p within c.index.ensures c.index_mut.ensures.value in
    let again : c.index-then-not-index.result.now ≡ p = same-at es k c.index-then-not-index.result.now p within c.index-then-not-index.ensures c.index_mut.ensures.value in
    let unmarked : c.index.result.now.marked ≡ false = search rules in
    let e : p.marked ≡ false = subst (λ (x : PackedEntry). x.marked ≡ false) same unmarked in
    let h = c.in_ok-h.h in
    let q : PackedEntry = record {
      number = p.number;
      cited = p.cited;
      index = p.index;
      op = p.op;
      reply = p.reply;
      caller = p.caller;
      cites = p.cites;
      marked = true;
    } in
    let is : c.args.entry.now ≡ follower_of (entry_in p) 1 h = c.in_ok-h.ensures.1 ∙ ap (λ (x : Entry). follower_of x 1 h) (c.unpack.ensures ∙ ap entry_in again) in (
      rw (c.push_reserved.ensures.items, ← all)
          (Follows-first es ms k p q _ c.args.entry.now h (is-last es k p last c.index_mut.ensures.value) c.self.invariant e refl (entry-low p 0 0 refl refl) refl is),
      search rules,
      search rules,
    )

pub overflow_sub-k : goal.overflow_sub-k
overflow_sub-k c =
    let es = c.self.inside.entries.items in
    let ms = c.self.inside.marks.items in
    let k = c.len-n.result - 1 in
    let last : k + 1 ≡ length es = search rules in
    let e : c.index.result.now.marked ≡ true = search rules in
    let w = is-last es k c.index.result.now last c.index.ensures in
    let some : 1 ≤ length ms = some-mark w.first ms (marked-last es ms k c.index.result.now w c.self.invariant e) in
    let size : c.len-k.result ≡ length ms = search rules in
    omega (arith, some, size)

pub index-mark-requires : goal.index-mark-requires
index-mark-requires c =
    let es = c.self.inside.entries.items in
    let ms = c.self.inside.marks.items in
    let k = c.len-n.result - 1 in
    let last : k + 1 ≡ length es = search rules in
    let e : c.index.result.now.marked ≡ true = search rules in
    let w = is-last es k c.index.result.now last c.index.ensures in
    let some : 1 ≤ length ms = some-mark w.first ms (marked-last es ms k c.index.result.now w c.self.invariant e) in
    let size : c.len-k.result ≡ length ms = search rules in
    omega (arith, some, size, c.len-k.ensures)

pub index_mut-requires-2 : goal.index_mut-requires-2
index_mut-requires-2 c =
    let es = c.self.inside.entries.items in
    let ms = c.self.inside.marks.items in
    let k = c.len-n.result - 1 in
    let last : k + 1 ≡ length es = search rules in
    let e : c.index.result.now.marked ≡ true = search rules in
    let w = is-last es k c.index.result.now last c.index.ensures in
    let some : 1 ≤ length ms = some-mark w.first ms (marked-last es ms k c.index.result.now w c.self.invariant e) in
    let size : c.len-k.result ≡ length ms = search rules in
    omega (arith, some, size, c.len-k.ensures)

pub invariant_of-self-2 : goal.invariant_of-self-2
invariant_of-self-2 c =
    let es = c.self.inside.entries.items in
    let ms = c.self.inside.marks.items in
    let k = c.len-n.result - 1 in
    let j = c.len-k.result - 1 in
    let p = c.index.result.now in
    let m = c.index_mut-2.result.now in
    let last : k + 1 ≡ length es = search rules in
    let e : p.marked ≡ true = search rules in
    let w = is-last es k p last c.index.ensures in
    let some : 1 ≤ length ms = some-mark w.first ms (marked-last es ms k p w c.self.invariant e) in
    let size : c.len-k.result ≡ length ms = search rules in
    let last_mark : j + 1 ≡ length ms = omega (arith, some, size) in
    Fits-more es ms k j p m _ w (is-last ms j m last_mark c.index_mut-2.ensures.value) c.self.invariant e refl refl

pub returns : goal.returns
returns c =
    let es = c.self.inside.entries.items in
    let ms = c.self.inside.marks.items in
    let k = c.len-n.result - 1 in
    let j = c.len-k.result - 1 in
    let p = c.index.result.now in
    let m = c.index_mut-2.result.now in
    let last : k + 1 ≡ length es = search rules in
    let e : p.marked ≡ true = search rules in
    let w = is-last es k p last c.index.ensures in
    let some : 1 ≤ length ms = some-mark w.first ms (marked-last es ms k p w c.self.invariant e) in
    let size : c.len-k.result ≡ length ms = search rules in
    let last_mark : j + 1 ≡ length ms = omega (arith, some, size) in
    let all : leaders_of 0 es ms ≡ c.args.self.now.all = ap (λ (s : Row). s.all) c.self.view_is in
    let entry : c.index-2.result.now ≡ p = same-at es k c.index-2.result.now p (omega (arith, last)) c.index-2.ensures c.index.ensures in
    let mark : c.index-mark.result.now ≡ m = same-at ms j c.index-mark.result.now m (omega (arith, last_mark)) c.index-mark.ensures c.index_mut-2.ensures.value in
    let h = c.in_ok-h-2.h in
    let g = c.index-mark.result.now in
    let is : c.args.entry.now ≡ follower_of (entry_high p m.number_high m.cited_high) (m.followers + 1) h = c.in_ok-h-2.ensures.1
    ∙ (ap (λ (x : Entry). follower_of x (g.followers + 1) h) c.unpack_high-last.ensures
    ∙ (ap (λ (y : PackedEntry). follower_of (entry_high y g.number_high g.cited_high) (g.followers + 1) h) entry
    ∙ ap (λ (y : Mark). follower_of (entry_high p y.number_high y.cited_high) (y.followers + 1) h) mark)) in (
      rw (← all)
          (Follows-more es ms k j p m _ c.args.entry.now h w (is-last ms j m last_mark c.index_mut-2.ensures.value) c.self.invariant e refl refl (ap (λ (y : Mark). y.followers + 1) mark) is),
      search rules,
      search rules,
    )
