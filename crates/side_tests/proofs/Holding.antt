-- The first handle stays held.
use Rattle.std.proofs.Common.{◌≡◌, ℕ, List, Result, OnOk, refl, sym, ap, ◌∙◌, subst}
use Rattle.std.proofs.lemmas.Result.{on_ok_weaker}
use Rattle.joint_machine.specs.declared.names.Thread.TheVariants.{M, P}
use Rattle.joint_machine.specs.Heaps.{numbered_at}
use Rattle.joint_machine.specs.Peers.{Issued}
use Rattle.joint_machine.specs.PeerReplay.{PeerReplay, IsHeld, opening_peer_replay}
use Rattle.peer_heap.specs.Sides.{PeerModel, seen}
use Rattle.side_tests.specs.Circles.{with_pair}
use Rattle.side_tests.specs.Drives.{IsCounted}
use Rattle.side_tests.specs.Loose.{after, with_grip, newly, putting, dropping, gripping}
use Rattle.side_tests.proofs.Counting.{counted-same}
use Rattle.side_tests.proofs.Moves.{StaysAlike}

-- the events of a grip, one after another
pub gripped-by : (s a b c d : PeerReplay) → a ≡ after s (P 1) newly → b ≡ after a (P 1) putting → c ≡ after b (P 1) dropping → d ≡ after c (M 1) gripping → d ≡ with_grip s
unfolding with_grip
gripped-by s a b c d e f g h = h ∙ ap (λ (z : PeerReplay). after z (M 1) gripping) (g ∙ ap (λ (z : PeerReplay). after z (P 1) dropping) (f ∙ ap (λ (z : PeerReplay). after z (P 1) putting) e))

-- it was issued with the pair, or gripped
pair-held : IsHeld (with_pair opening_peer_replay) 1
unfolding with_pair
pair-held = (_, refl, refl)

grip-held : IsHeld (with_grip opening_peer_replay) 1
unfolding with_grip
grip-held = (_, refl, refl)

pub made-held : {T E : Type 0} (r : Result T E) (s t : PeerReplay) → s ≡ opening_peer_replay → OnOk r (t ≡ with_pair s) → OnOk r (IsHeld t 1)
made-held r s t f k = on_ok_weaker r (λ e. subst (λ (z : PeerReplay). IsHeld z 1) (sym (e ∙ ap with_pair f)) pair-held) k

pub gripped-held : {T E : Type 0} (r : Result T E) (s t : PeerReplay) → s ≡ opening_peer_replay → OnOk r (t ≡ with_grip s) → OnOk r (IsHeld t 1)
gripped-held r s t f k = on_ok_weaker r (λ e. subst (λ (z : PeerReplay). IsHeld z 1) (sym (e ∙ ap with_grip f)) grip-held) k

-- what leaves the handles as they were issued keeps it
pub stays-held : (s t : PeerReplay) (h : ℕ) → StaysAlike s t → IsHeld s h → IsHeld t h
stays-held s t h a k = (k.0, ap (λ (l : List Issued). numbered_at l h) a.issued ∙ k.1, k.2)

-- a refusal changes nothing
pub same-held : (old new : PeerModel) (before after : ℕ) → (new ≡ old) × (after ≡ before) → IsCounted (seen old) before × IsHeld old.state 1 → IsCounted (seen new) after × IsHeld new.state 1
same-held old new before after e k = (counted-same (seen old) (seen new) before after (ap seen e.0, e.1) k.0, subst (λ (z : PeerModel). IsHeld z.state 1) (sym e.0) k.1)
