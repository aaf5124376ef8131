-- A side's lawful list goes on by one entry: where a call put one entry last, with a number above those before it, that
-- may come next, and the state is the one after it, a lawful list again has the side's entries and leads to its state.
-- It is the old list with what is told beside the new entry. This is all that a call needs to keep that a side is the
-- replay of its entries.
use Rattle.std.proofs.Common.{◌≡◌, ℕ, ◌<◌, List, [], ◌∷◌, ◌++◌, map, sym, ap, subst, ◌∙◌}
use Rattle.std.proofs.lemmas.List.{map-append}
use Rattle.std.proofs.lemmas.List.Elements.{All-map, All-push}
use Rattle.joint_machine.specs.declared.events.Made.{Made}
use Rattle.joint_machine.specs.declared.events.Entry.{Entry}
use Rattle.joint_machine.specs.Components.{Rises}
use Rattle.joint_machine.specs.Draws.{numbered, AllBelow}
use Rattle.joint_machine.specs.Sides.{SideRules, AreTaken, GoesOn, LeadsTo, IsReplayed}
use Rattle.joint_machine.specs.Told.{Told, Noted}
use Rattle.joint_machine.proofs.Members.{Rises-push}

pub LeadsTo-push : {S : Type 0} (r : SideRules S) (s : S) (ns : List Noted) (t : S) (n : Noted) (u : S) → LeadsTo r s ns t → GoesOn r t n.entry.made n.told u → LeadsTo r s (ns ++ n ∷ []) u
LeadsTo-push r s [] t n u e g = (subst (λ z. r.lawful z n.entry.made n.told) e g.lawful, g.state ∙ ap (λ z. r.next z n.entry.made n.told) e)
LeadsTo-push r s (m ∷ ns) t n u e g = (e.0, LeadsTo-push r (r.next s m.entry.made m.told) ns t n u e.1 g)

pub IsReplayed-push : {S : Type 0} (r : SideRules S) (es es' : List Entry) (old new : S) (k : ℕ) (m : Made) (told : Told)
    → AllBelow es k → es' ≡ es ++ numbered k m ∷ [] → GoesOn r old m told new → IsReplayed r es old → IsReplayed r es' new
IsReplayed-push r es es' old new k m told below added g p =
    let n : Noted = record { entry = numbered k m; told = told } in
    let number : Entry → ℕ = λ e. e.number in
    record {
      rise = subst (λ zs. Rises (map number zs)) (sym added) (subst Rises (sym (map-append number es (numbered k m ∷ [])))
          (Rises-push (map number es) k p.rise (All-map (λ z. z < k) number es below)));
      noted = p.noted ++ n ∷ [];
      same = map-append (λ z. z.entry) p.noted (n ∷ []) ∙ (ap (λ zs. zs ++ numbered k m ∷ []) p.same ∙ sym added);
      leads = LeadsTo-push r r.opening p.noted old n new p.leads g;
    }

-- of a thread that the side takes one entry more is taken
pub AreTaken-push : {S : Type 0} (r : SideRules S) (threads : ℕ) (es es' : List Entry) (k : ℕ) (m : Made)
    → r.takes threads m.caller → es' ≡ es ++ numbered k m ∷ [] → AreTaken r threads es → AreTaken r threads es'
AreTaken-push r threads es es' k m takes added taken = subst (AreTaken r threads) (sym added) (All-push (λ e. r.takes threads e.made.caller) es (numbered k m) taken takes)
