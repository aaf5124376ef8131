use Rattle.std.proofs.Common.{◌≡◌, List, length, refl, sym, ap, ◌∙◌}
use Rattle.joint_machine.specs.declared.events.Entry.{Entry}
use Rattle.entry_reader.specs.Meaning.{Lists}
use Rattle.report_reader.specs.Steps.{Read}
use Rattle.report_reader.proofs.Places.{unclosed, unread}
use Rattle.report_reader.proofs.drafts.Draft.read_any.Goals as goal

pub returns-in_default : goal.returns-in_default
returns-in_default c = record { stays = refl; found = unclosed _ c.args.bytes.now c.requires.some c.in_default.ensures }

-- a draft whose lists stay
stays : (r : Read) (es : List Entry) (m l : Lists) → m ≡ l → r ≡ record { entries = es; lists = l } → r ≡ record { entries = es; lists = m }
stays r es m l e v = v ∙ ap (λ (z : Lists). record { entries = es; lists = z }) (sym e)

pub returns-in_default-2 : goal.returns-in_default-2
returns-in_default-2 c =
    let none = rw c.in_default-2.is at c.in_ok-entry.ensures in
    let number = c.len-number.ensures ∙ ap (λ (r : Read). length r.entries) c.self.view_is in
    record {
      stays = sym (stays c.args.self.now c.self.inside.entries.entries c.read_entry.new.lists c.self.inside.lists none.0 (sym c.self.view_is));
      found = unread (length c.args.self.now.entries) c.args.bytes.now c.in-Some.text c.in-Some.left.now c.in-Some.ensures.0 c.in-Some.ensures.1 c.requires.not_last
          (λ e ns n l. none.1 e ns (n ∙ sym number) l);
    }
