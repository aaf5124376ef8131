-- What two pictures have in common, found by look-ups.
use Rattle.std.proofs.Common.{◌≡◌, ℕ, Bool, not, List, [], ap, ◌∙◌}
use Rattle.std.specs.Prelude.{filter}
use Rattle.std.proofs.lemmas.List.Elements.{filter_agree}
use Rattle.heap_pictures.specs.declared.pictures.Arrow.{Arrow}
use Rattle.heap_pictures.specs.declared.pictures.ObjectNode.{ObjectNode}
use Rattle.heap_pictures.specs.declared.pictures.PeerNode.{PeerNode}
use Rattle.heap_pictures.specs.declared.pictures.Spot.TheVariants.{Object, Peer}
use Rattle.heap_pictures.specs.Pictures.{Drawing}
use Rattle.picture_sheets.specs.declared.comparing.Stock.{Stock}
use Rattle.picture_sheets.specs.Keys.{has_key, has_spot}
use Rattle.picture_sheets.specs.Sheets.{has_arrow, has_object, has_peer, lone, shared}
use Rattle.picture_sheets.specs.Stocks.{IsStockOf}

-- the same list, of what a list has that passes a test, by another test that agrees
same : {A : Type 0} (p q : A → Bool) (os xs ys : List A) → xs ≡ ys → os ≡ filter p xs → ((x : A) → p x ≡ q x) → os ≡ filter q ys
same p q os xs ys e f a = f ∙ (ap (filter p) e ∙ filter_agree p q a ys)

module _ (p d : Drawing) (s : Stock) (i : IsStockOf d s) (q : Drawing) (os xs : List ObjectNode) (ps ys : List PeerNode) (ds cs : List ℕ) (ars zs : List Arrow) where
  pub is-shared : q ≡ record { objects = os; peers = ps; dead = ds; candidates = cs; arrows = ars }
      → xs ≡ p.objects → os ≡ filter (λ n. has_spot s.objects (Object n.m)) xs → ys ≡ p.peers → ps ≡ filter (λ n. has_spot s.peers (Peer n.p)) ys
      → ds ≡ p.dead → cs ≡ p.candidates → zs ≡ p.arrows → ars ≡ filter (λ a. has_key s.arrows a) zs → q ≡ shared p d
  is-shared e x o y r f c z a =
      let oo : os ≡ filter (has_object d) p.objects = same (λ n. has_spot s.objects (Object n.m)) (has_object d) os xs p.objects x o (λ n. i.objects n.m) in
      let rr : ps ≡ filter (has_peer d) p.peers = same (λ n. has_spot s.peers (Peer n.p)) (has_peer d) ps ys p.peers y r (λ n. i.peers n.p) in
      let aa : ars ≡ filter (has_arrow d) p.arrows = same (has_key s.arrows) (has_arrow d) ars zs p.arrows z a i.arrows in
      e ∙ (λ k. record { objects = oo k; peers = rr k; dead = f k; candidates = c k; arrows = aa k })

  pub is-lone : q ≡ record { objects = os; peers = ps; dead = ds; candidates = cs; arrows = ars }
      → xs ≡ p.objects → os ≡ filter (λ n. not (has_spot s.objects (Object n.m))) xs → ys ≡ p.peers → ps ≡ filter (λ n. not (has_spot s.peers (Peer n.p))) ys
      → ds ≡ [] → cs ≡ [] → zs ≡ p.arrows → ars ≡ filter (λ a. not (has_key s.arrows a)) zs → q ≡ lone p d
  is-lone e x o y r f c z a =
      let oo : os ≡ filter (λ n. not (has_object d n)) p.objects =
      same (λ n. not (has_spot s.objects (Object n.m))) (λ n. not (has_object d n)) os xs p.objects x o (λ n. ap not (i.objects n.m)) in
      let rr : ps ≡ filter (λ n. not (has_peer d n)) p.peers =
      same (λ n. not (has_spot s.peers (Peer n.p))) (λ n. not (has_peer d n)) ps ys p.peers y r (λ n. ap not (i.peers n.p)) in
      let aa : ars ≡ filter (λ b. not (has_arrow d b)) p.arrows =
      same (λ b. not (has_key s.arrows b)) (λ b. not (has_arrow d b)) ars zs p.arrows z a (λ b. ap not (i.arrows b)) in
      e ∙ (λ k. record { objects = oo k; peers = rr k; dead = f k; candidates = c k; arrows = aa k })
