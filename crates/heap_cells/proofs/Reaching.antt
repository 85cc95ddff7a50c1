-- What old space reaches once an object became a forwarder: where it reached the object, it reaches the other.
use Rattle.std.proofs.Common.{◌≡◌, ◌≢◌, ℕ, Bool, true, false, ◌&&◌, ◌||◌, eqb, List, [], ◌∷◌, refl, sym, ap, ◌∙◌, inl, inr}
use Rattle.std.proofs.lemmas.Bool.{cases_eq, eq-eqb, ne_eqb}
use Rattle.std.proofs.lemmas.Map.Views.{any-filter_same}
use Rattle.std.specs.List.{filter, list_any}
use Rattle.std.specs.Ordering.{nat_cmp, eq_by_cmp}
use Rattle.spur_graph.specs.Become.{instead}
use Rattle.object_header.specs.Chunks.{Chunk}
use Rattle.spur_graph.specs.Cells.{Store, is_start, final}
use Rattle.spur_graph.specs.HeapRoom.{is_reached}
use Rattle.heap_cells.specs.Rows.{starts_of}
use Rattle.heap_cells.proofs.Finding.{key_same}
use Rattle.heap_cells.proofs.Retargeting.{instead-here, instead-other}
use Rattle.heap_cells.proofs.Forwarding.{Forwards, with_forwarder, final-forwarded, start-same}

-- ---- starts among those that pass two tests

any_starts : (test : ℕ → Bool) (cs : List Chunk) → list_any test (starts_of cs) ≡ list_any (λ (c : Chunk). test c.start) cs
any_starts test [] = refl
any_starts test (c ∷ cs) = ap (λ b. test c.start || b) (any_starts test cs)

-- a start is among those of a row that pass two tests if it passes both and is among all
pub any_at : (p r : ℕ → Bool) (q : ℕ) (cs : List Chunk)
    → list_any (eq_by_cmp nat_cmp q) (starts_of (filter (λ (c : Chunk). r c.start) (filter (λ (c : Chunk). p c.start) cs))) ≡ ((p q && r q) && list_any (eq_by_cmp nat_cmp q) (starts_of cs))
any_at p r q cs =
    let here : Chunk → Bool = λ c. eq_by_cmp nat_cmp q c.start in
    any_starts (eq_by_cmp nat_cmp q) (filter (λ (c : Chunk). r c.start) (filter (λ (c : Chunk). p c.start) cs))
    ∙ any-filter_same here (λ (c : Chunk). r c.start) (r q) (λ c e. ap r (sym (key_same q c.start e))) (filter (λ (c : Chunk). p c.start) cs)
    ∙ ap (λ b. r q && b) (any-filter_same here (λ (c : Chunk). p c.start) (p q) (λ c e. ap p (sym (key_same q c.start e))) cs ∙ ap (λ b. p q && b) (sym (any_starts (eq_by_cmp nat_cmp q) cs)))
    ∙ turn (p q) (r q) (list_any (eq_by_cmp nat_cmp q) (starts_of cs))
  where
    turn : (x y z : Bool) → (y && (x && z)) ≡ ((x && y) && z)
    turn true y z = refl
    turn false true z = refl
    turn false false z = refl

-- ---- what is reached

-- one test, or another where a flag is set
either_any : (f g h : Chunk → Bool) (s : Bool) → ((c : Chunk) → f c ≡ (g c || (s && h c))) → (cs : List Chunk) → list_any f cs ≡ (list_any g cs || (s && list_any h cs))
either_any f g h s e [] = none s
  where
    none : (b : Bool) → false ≡ (b && false)
    none true = refl
    none false = refl
either_any f g h s e (c ∷ cs) = (λ i. e c i || either_any f g h s e cs i) ∙ shuffle (g c) s (h c) (list_any g cs) (list_any h cs)
  where
    shuffle : (x s y u v : Bool) → ((x || (s && y)) || (u || (s && v))) ≡ ((x || u) || (s && (y || v)))
    shuffle true s y u v = refl
    shuffle false true true true v = refl
    shuffle false true true false v = refl
    shuffle false true false u v = refl
    shuffle false false y u v = refl

module _ {old : Store} {a b : ℕ} (k : Forwards old a b) where
  abbrev new : Store
  new = with_forwarder old a b

  ends_there : (x q : ℕ) → q ≢ a → eqb (instead a b x) q ≡ (eqb x q || (eqb q b && eqb x a))
  ends_there x q n = elim (cases_eq x a) [
    | inl e ↦
        let far : eqb x q ≡ false = ne_eqb x q (λ w. n (sym w ∙ e)) in
        let near : eqb x a ≡ true = eq-eqb x a e in
        ap (λ t. eqb t q) (instead-here a b x e) ∙ turn b q ∙ sym (λ i. far i || (eqb q b && near i))
    | inr m ↦
        let off : eqb x a ≡ false = ne_eqb x a m in
        ap (λ t. eqb t q) (instead-other a b x m) ∙ clear (eqb x q) (eqb q b) ∙ sym (λ i. eqb x q || (eqb q b && off i))
  ]
    where
      turn : (x y : ℕ) → eqb x y ≡ (eqb y x && true)
      turn x y = elim (cases_eq x y) [
        | inl e ↦ let u = eq-eqb x y e in let w = eq-eqb y x (sym e) in u ∙ sym (λ i. w i && true)
        | inr n ↦ let u = ne_eqb x y n in let w = ne_eqb y x (λ e. n (sym e)) in u ∙ sym (λ i. w i && true)
      ]

      clear : (x y : Bool) → x ≡ (x || (y && false))
      clear true y = refl
      clear false true = refl
      clear false false = refl

  pub reached-forwarded : (front : List Chunk) (q : ℕ) → q ≢ a → is_reached new front q ≡ (is_reached old front q || (eqb q b && is_reached old front a))
  unfolding is_reached
  reached-forwarded front q n = either_any (λ (c : Chunk). is_start (new.cell c.start) && eqb (final new c.start) q) (λ (c : Chunk). is_start (old.cell c.start) && eqb (final old c.start) q)
      (λ (c : Chunk). is_start (old.cell c.start) && eqb (final old c.start) a) (eqb q b)
      (λ c. (λ i. start-same k c.start i && eqb (final-forwarded k c.start i) q) ∙ ap (λ x. is_start (old.cell c.start) && x) (ends_there (final old c.start) q n) ∙ spread (is_start (old.cell c.start)) (eqb (final old c.start) q) (eqb q b) (eqb (final old c.start) a)) front
    where
      spread : (z x y w : Bool) → (z && (x || (y && w))) ≡ ((z && x) || (y && (z && w)))
      spread true x y w = refl
      spread false x true w = refl
      spread false x false w = refl
