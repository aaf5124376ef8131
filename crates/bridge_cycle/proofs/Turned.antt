-- Handles that are weakened or restored one after another: the next bridge node's handle is that of the next candidate,
-- and one more entry comes after those before it.
use Rattle.std.proofs.Common.{◌≡◌, ℕ, suc, ◌+◌, ◌≤◌, true, false, List, [], ◌∷◌, ◌++◌, length, take, drop, Option, Some, None, refl, sym, ap, ◌∙◌, subst, arith, length-append}
use Rattle.std.specs.Prelude.{slice_get}
use Rattle.std.specs.Option.{option_to_list}
use Rattle.std.proofs.lemmas.Grind.{flat_map-append}
use Rattle.std.proofs.lemmas.List.{take_all, take-append-drop}
use base.Growing.{prefix_refl}
use Rattle.joint_machine.specs.declared.names.Cycle.{Cycle}
use Rattle.joint_machine.specs.declared.names.HNum.{HNum}
use Rattle.joint_machine.specs.declared.names.PhaseWord.{PhaseWord}
use Rattle.joint_machine.specs.declared.names.PhaseWord.TheVariants as word
use Rattle.joint_machine.specs.declared.names.Thread.TheVariants.{C}
use Rattle.joint_machine.specs.declared.events.Entry.{Entry}
use Rattle.joint_machine.specs.declared.events.Op.TheVariants as op
use Rattle.joint_machine.specs.declared.events.Reply.TheVariants as says
use Rattle.joint_machine.specs.Control.{weakening, restoring, answer_in}
use Rattle.joint_machine.specs.HistoryLines.{caller_line}
use Rattle.joint_model.specs.Listed.{answer_of, answers_of}
use Rattle.joint_machine.specs.Phases.{AreEach, IsEventOf, candidates_after, told_by}
use Rattle.joint_machine.specs.Told.{Answer, nothing}
use Rattle.bridge_graph.specs.declared.graph.Node.{Node}
use Rattle.bridge_graph.specs.Handles.{handles_of}
use Rattle.bridge_graph.specs.Parts.{HasNode}
use Rattle.global_handles.specs.declared.Back.{Back}
use Rattle.global_handles.specs.declared.Back.TheVariants.{Alive, Cleared}
use Rattle.global_handles.specs.Rows.{back_of}
use Rattle.handle_weaken.proofs.Turns.{done-none, done-some, left-none, left-some}
use Rattle.order_table.specs.declared.views.View.{View}
use Rattle.order_table.specs.Views.{known}
use Rattle.peer_heap.specs.Cycles.{reply_of}
use Rattle.joint_history.specs.Driven.{DriverStands, driver_entry}
use Rattle.joint_history.specs.DriverHandles.{MakesRestore, MakesWeaken, MayRestoreHandle, MayWeakenHandle}
use Rattle.joint_history.specs.Knowing.{line_known}
use Rattle.joint_history.specs.Operations.{MakesAll}
use Rattle.bridge_cycle.specs.Progress.{cycle_after, last_reply, opened_by}
use Rattle.bridge_cycle.specs.Turns.{MakesTimes, MayRestoreAll, MayWeakenAll, RestoresAll, WeakensAll}
use Rattle.bridge_cycle.proofs.Making.{append_nil, candidates_more, cycle_more, makes_more, makes_one, places_more}

-- the handle of the next bridge node has its place among all
next_place : (nodes : List Node) (i : ℕ) (h : HNum) → HasNode nodes i (λ n. n.handle ≡ Some h) → slice_get (handles_of nodes) (length (handles_of (take i nodes))) ≡ Some h
next_place nodes i h at =
    let cut : handles_of nodes ≡ handles_of (take i nodes) ++ h ∷ handles_of (drop (i + 1) nodes) =
    ap handles_of (sym (take-append-drop i nodes)) ∙ (flat_map-append (λ (n : Node). option_to_list n.handle) (take i nodes) (drop i nodes)
    ∙ ap (λ hs. handles_of (take i nodes) ++ hs) (left-some nodes i h at)) in
    subst (λ (hs : List HNum). slice_get hs (length (handles_of (take i nodes))) ≡ Some h) (sym cut) (behind (handles_of (take i nodes)) h (handles_of (drop (i + 1) nodes)))
  where
    behind : (xs : List HNum) (h : HNum) (ys : List HNum) → slice_get (xs ++ h ∷ ys) (length xs) ≡ Some h
    behind [] h ys = refl
    behind (x ∷ xs) h ys = behind xs h ys

pub last_snoc : (es : List Entry) (e : Entry) → last_reply (es ++ e ∷ []) ≡ e.made.reply
last_snoc [] e = refl
last_snoc (x ∷ []) e = refl
last_snoc (x ∷ y ∷ es) e = last_snoc (y ∷ es) e

each_more : (w : PhaseWord) (es fs : List Entry) → AreEach w es → AreEach w fs → AreEach w (es ++ fs)
each_more w [] fs a b = b
each_more w (e ∷ es) fs a b = (a.0, each_more w es fs a.1 b)

one_longer : {A : Type 0} (xs : List A) (x : A) → length (xs ++ x ∷ []) ≡ length xs + 1
one_longer xs x = length-append xs (x ∷ [])

-- no entry, and one more
pub times_none : (v : View) (index : ℕ) (w : PhaseWord) → MakesTimes v v index w 0 []
times_none v index w = record {
  made = record { own_more = sym (append_nil (line_known v (caller_line C))); more = λ i. prefix_refl (known v i); above = tt };
  places = tt;
  times = record { each = tt; count = refl };
  cycle = λ k. refl;
  candidates = λ c. refl;
}

times_more : (old mid new : View) (index : ℕ) (w : PhaseWord) (n m : ℕ) (es : List Entry) (e : Entry)
    → MakesTimes old mid index w n es → MakesAll C mid new (e ∷ []) → e.made.caller ≡ C → e.made.index ≡ index → IsEventOf w e.made.op
    → ((k : Cycle) → opened_by k e.made.op ≡ k) → ((c : ℕ) → told_by c e.made.reply ≡ c) → m ≡ n + 1 → MakesTimes old new index w m (es ++ e ∷ [])
times_more old mid new index w n m es e t made caller line event opens tells more = record {
  made = makes_more old mid new es (e ∷ []) t.made made;
  places = places_more index es (e ∷ []) t.places (caller, line, tt);
  times = record { each = each_more w es (e ∷ []) t.times.each (event, tt); count = one_longer es e ∙ (ap (λ k. k + 1) t.times.count ∙ sym more) };
  cycle = λ k. cycle_more k es (e ∷ []) ∙ (opens (cycle_after k es) ∙ t.cycle k);
  candidates = λ c. candidates_more c es (e ∷ []) ∙ (tells (candidates_after c es) ∙ t.candidates c);
}

-- weakening
module _ (old mid : View) (index snap : ℕ) (nodes : List Node) (i : ℕ) where
  pub may_weaken_next : (h : HNum) → HasNode nodes i (λ n. n.handle ≡ Some h) → MayWeakenAll old index snap nodes
      → WeakensAll old mid index snap nodes (handles_of (take i nodes)) → MayWeakenHandle mid index snap h.0
  may_weaken_next h at may done =
      let w = done may.opened may.weakened may.seen may.stands may.candidates may.same in
      record {
        opened = may.opened;
        count = length (handles_of (take i nodes));
        weakened = w.weakened;
        seen = may.seen;
        stands = w.stands;
        next = may.candidates.each (length (handles_of (take i nodes))) h (next_place nodes i h at);
        same = may.same;
      }

  pub weakens_next : (new : View) (h : HNum) (n : ℕ) → HasNode nodes i (λ n. n.handle ≡ Some h) → WeakensAll old mid index snap nodes (handles_of (take i nodes))
      → MakesWeaken mid new index snap h n → WeakensAll old new index snap nodes (handles_of (take (i + 1) nodes))
  weakens_next new h n at done makes = λ o weakened m stands are same.
      let w = done o weakened m stands are same in
      let count = length (handles_of (take i nodes)) in
      let v = makes o count w.weakened m w.stands (are.each count h (next_place nodes i h at)) same in
      let more : length (handles_of (take (i + 1) nodes)) ≡ count + 1 = ap length (done-some nodes i h at) ∙ one_longer (handles_of (take i nodes)) h in
      let e : Entry = driver_entry n index (op.Weaken h) says.Ok (Some snap) in
      record {
        entries = w.entries ++ e ∷ [];
        makes = times_more old mid new index word.Weaken count (length (handles_of (take (i + 1) nodes))) w.entries e w.makes
            (makes_one mid new (weakening o count w.weakened false) m e nothing v.0) refl refl tt (λ k. refl) (λ c. refl) more;
        last = last_snoc w.entries e;
        weakened = true;
        stands = subst (λ (c : ℕ). DriverStands new index (weakening o c true false) m) (sym more) v.1;
      }

  pub weakens_past : HasNode nodes i (λ n. n.handle ≡ None) → WeakensAll old mid index snap nodes (handles_of (take i nodes)) → WeakensAll old mid index snap nodes (handles_of (take (i + 1) nodes))
  weakens_past at done = subst (λ (hs : List HNum). WeakensAll old mid index snap nodes hs) (sym (done-none nodes i at)) done

pub weakens_first : (v : View) (index snap : ℕ) (nodes : List Node) → WeakensAll v v index snap nodes (handles_of (take 0 nodes))
weakens_first v index snap nodes = λ o weakened m stands are same. record { entries = []; makes = times_none v index word.Weaken; last = refl; weakened = weakened; stands = stands }

pub weakens_last : (old new : View) (index snap : ℕ) (nodes : List Node) (n : ℕ) → length nodes ≤ n
    → WeakensAll old new index snap nodes (handles_of (take n nodes)) → WeakensAll old new index snap nodes (handles_of nodes)
weakens_last old new index snap nodes n e done = subst (λ (ns : List Node). WeakensAll old new index snap nodes (handles_of ns)) (take_all n nodes e) done

-- restoring
answer_back : (back : Back) (b : Option HNum) → back_of b ≡ back → answer_in (reply_of back) ≡ answer_of b
answer_back back (Some h) e = ap (λ (z : Back). answer_in (reply_of z)) (sym e)
answer_back back None e = ap (λ (z : Back). answer_in (reply_of z)) (sym e)

restore_tells : (back : Back) (c : ℕ) → told_by c (reply_of back) ≡ c
restore_tells (Alive h) c = refl
restore_tells Cleared c = refl

answers_more : (values : List (Option HNum)) (b : Option HNum) → answers_of (values ++ b ∷ []) ≡ answers_of values ++ answer_of b ∷ []
answers_more [] b = refl
answers_more (v ∷ values) b = ap (λ bs. answer_of v ∷ bs) (answers_more values b)

pub answers_count : (values : List (Option HNum)) → length (answers_of values) ≡ length values
answers_count [] = refl
answers_count (v ∷ values) = ap suc (answers_count values)

module _ (old mid : View) (index : ℕ) (nodes : List Node) (i : ℕ) (values : List (Option HNum)) where
  pub may_restore_next : (h : HNum) → HasNode nodes i (λ n. n.handle ≡ Some h) → MayRestoreAll old index nodes
      → RestoresAll old mid index nodes (handles_of (take i nodes)) values → MayRestoreHandle mid index h.0
  may_restore_next h at may done =
      let w = done may.opened may.seen may.stands may.candidates in
      let place : length (answers_of values) ≡ length (handles_of (take i nodes)) = answers_count values ∙ w.count in
      record {
        opened = may.opened;
        answers = answers_of values;
        seen = may.seen;
        stands = w.stands;
        next = may.candidates.each (length (answers_of values)) h (subst (λ (k : ℕ). slice_get (handles_of nodes) k ≡ Some h) (sym place) (next_place nodes i h at));
      }

  pub restores_next : (new : View) (h : HNum) (back : Back) (b : Option HNum) (n : ℕ) → HasNode nodes i (λ n. n.handle ≡ Some h)
      → back_of b ≡ back → RestoresAll old mid index nodes (handles_of (take i nodes)) values → MakesRestore mid new index h back n
      → RestoresAll old new index nodes (handles_of (take (i + 1) nodes)) (values ++ b ∷ [])
  restores_next new h back b n at is done makes = λ o m stands are.
      let w = done o m stands are in
      let count = length (handles_of (take i nodes)) in
      let place : length (answers_of values) ≡ count = answers_count values ∙ w.count in
      let v = makes o (answers_of values) m w.stands (are.each (length (answers_of values)) h (subst (λ (k : ℕ). slice_get (handles_of nodes) k ≡ Some h) (sym place) (next_place nodes i h at))) in
      let more : length (handles_of (take (i + 1) nodes)) ≡ count + 1 = ap length (done-some nodes i h at) ∙ one_longer (handles_of (take i nodes)) h in
      let e : Entry = driver_entry n index (op.Restore h) (reply_of back) None in
      let now : answers_of values ++ answer_in (reply_of back) ∷ [] ≡ answers_of (values ++ b ∷ []) = ap (λ a. answers_of values ++ a ∷ []) (answer_back back b is) ∙ sym (answers_more values b) in
      record {
        entries = w.entries ++ e ∷ [];
        makes = times_more old mid new index word.Restore count (length (handles_of (take (i + 1) nodes))) w.entries e w.makes
            (makes_one mid new (restoring o (answers_of values)) m e nothing v.0) refl refl tt (λ k. refl) (restore_tells back) more;
        count = one_longer values b ∙ (ap (λ k. k + 1) w.count ∙ sym more);
        stands = subst (λ (bs : List Answer). DriverStands new index (restoring o bs) m) now v.1;
      }

  pub restores_past : HasNode nodes i (λ n. n.handle ≡ None) → RestoresAll old mid index nodes (handles_of (take i nodes)) values
      → RestoresAll old mid index nodes (handles_of (take (i + 1) nodes)) values
  restores_past at done = subst (λ (hs : List HNum). RestoresAll old mid index nodes hs values) (sym (done-none nodes i at)) done

pub restores_first : (v : View) (index : ℕ) (nodes : List Node) (values : List (Option HNum)) → values ≡ [] → RestoresAll v v index nodes (handles_of (take 0 nodes)) values
restores_first v index nodes values none = subst (λ (bs : List (Option HNum)). RestoresAll v v index nodes (handles_of (take 0 nodes)) bs)
    (sym none) (λ o m stands are. record { entries = []; makes = times_none v index word.Restore; count = refl; stands = stands })

pub restores_last : (old new : View) (index : ℕ) (nodes : List Node) (values : List (Option HNum)) (n : ℕ) → length nodes ≤ n
    → RestoresAll old new index nodes (handles_of (take n nodes)) values → RestoresAll old new index nodes (handles_of nodes) values
restores_last old new index nodes values n e done = subst (λ (ns : List Node). RestoresAll old new index nodes (handles_of ns) values) (take_all n nodes e) done

-- there is room for an answer of each handle that is left
pub room_next : (nodes : List Node) (i room : ℕ) (h : HNum) → HasNode nodes i (λ n. n.handle ≡ Some h) → room ≡ length (handles_of (drop i nodes)) → room ≡ length (handles_of (drop (i + 1) nodes)) + 1
room_next nodes i room h at e = e ∙ (ap length (left-some nodes i h at) ∙ (let n : suc (length (handles_of (drop (i + 1) nodes))) ≡ length (handles_of (drop (i + 1) nodes)) + 1 = omega arith in n))

pub room_past : (nodes : List Node) (i room : ℕ) → HasNode nodes i (λ n. n.handle ≡ None) → room ≡ length (handles_of (drop i nodes)) → room ≡ length (handles_of (drop (i + 1) nodes))
room_past nodes i room at e = e ∙ ap length (left-none nodes i at)
