use Rattle.std.proofs.Common.{◌≡◌, ◌+◌, false, length, refl, ◌∙◌, ap, arith}
use Rattle.std.proofs.lemmas.List.{length_push}
use Rattle.std.proofs.lemmas.List.Elements.{All-push}
use Rattle.component_pass.proofs.Sets.{set-last}
use Rattle.component_pass.proofs.Shared.{found-new, found-old}
use Rattle.component_pass.proofs.sharing.share.Goals as goal

pub returns-in-Some-same_set-clause-exact : goal.returns-in-Some-same_set-clause-exact
returns-in-Some-same_set-clause-exact c =
    let many = rw c.in_default.is at c.in_ok-number.ensures.several in
    rw (c.in-Some-same_set.ensures.1, c.deref-2.ensures.value) many

pub returns-clause-found : goal.returns-clause-found
returns-clause-found c =
    let rises = rw c.in_default.is at c.in_ok-number.ensures.rises in
    let below = rw c.in_default.is at c.in_ok-number.ensures.below in
    let known : length c.push.new.self.items ≡ length c.args.work.now.known.items + 1 = omega (arith, ap length c.in_ok-push.ensures.items, length_push c.gather.new.work.known.items false) in
    rw (c.in_ok-push-2.ensures.lists, c.deref-3.ensures.value, known, c.len-2.ensures)
    (found-new c.args.sets.now c.args.lists.now c.args.count (length c.args.work.now.known.items) c.gather.new.work.union.items c.requires.sets rises below)

pub returns-clause-exact : goal.returns-clause-exact
returns-clause-exact c =
    let many = rw c.in_default.is at c.in_ok-number.ensures.several in
    rw (c.in_ok-push-2.ensures.lists, c.deref-3.ensures.value, c.len-2.ensures, set-last c.args.count c.args.lists.now c.gather.new.work.union.items) many

pub gather-requires-clause-sets : goal.gather-requires-clause-sets
gather-requires-clause-sets c = c.requires.sets

pub returns-in-Some-clause-found : goal.returns-in-Some-clause-found
returns-in-Some-clause-found c =
    let one = rw c.in-Some.is at c.in_ok-number.ensures.one in
    rw c.in_ok-number.ensures.known (found-old c.args.sets.now c.args.lists.now c.args.count (length c.args.work.now.known.items) c.in-Some.number c.requires.sets one.0)

pub returns-in-Some-clause-exact : goal.returns-in-Some-clause-exact
returns-in-Some-clause-exact c =
    let one = rw c.in-Some.is at c.in_ok-number.ensures.one in
    one.1

pub returns-in-Some-clause-marks : goal.returns-in-Some-clause-marks
returns-in-Some-clause-marks c = c.in_ok-number.ensures.marks ∙ c.requires.count

pub returns-in-Some-clause-clear : goal.returns-in-Some-clause-clear
returns-in-Some-clause-clear c = c.in_ok-number.ensures.clear

pub same_set-requires : goal.same_set-requires
same_set-requires c =
    let numbers = rw c.in_default.is at c.in_ok-number.ensures.numbers in
    rw c.deref.ensures.value (λ k d lt. omega (arith, numbers k d lt, c.requires.sets.all))

pub returns-in-Some-same_set-clause-found : goal.returns-in-Some-same_set-clause-found
returns-in-Some-same_set-clause-found c =
    rw c.in_ok-number.ensures.known (found-old c.args.sets.now c.args.lists.now c.args.count
    (length c.args.work.now.known.items) c.in-Some-same_set.number c.requires.sets (omega (arith, c.in-Some-same_set.ensures.0, c.requires.sets.all)))

pub returns-in-Some-same_set-clause-marks : goal.returns-in-Some-same_set-clause-marks
returns-in-Some-same_set-clause-marks c = c.in_ok-number.ensures.marks ∙ c.requires.count

pub returns-in-Some-same_set-clause-clear : goal.returns-in-Some-same_set-clause-clear
returns-in-Some-same_set-clause-clear c = c.in_ok-number.ensures.clear

pub returns-clause-marks : goal.returns-clause-marks
returns-clause-marks c = c.in_ok-number.ensures.marks ∙ c.requires.count

pub returns-clause-clear : goal.returns-clause-clear
returns-clause-clear c =
    let clear = c.in_ok-number.ensures.clear in
    record { known = rw c.in_ok-push.ensures.items (All-push (λ m. m ≡ false) c.gather.new.work.known.items false clear.known refl); marks = clear.marks }
