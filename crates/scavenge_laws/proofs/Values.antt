-- The values of an object, by its words.
use Rattle.std.proofs.Common.{◌≡◌, ℕ, suc, zero, Bool, true, false, not, ◌&&◌, ◌<◌, nat_lt, cond, eqb, List, [], ◌∷◌, map, take, get_or, length, refl, sym, ap, ◌∙◌, arith, Some, None}
use Rattle.std.proofs.lemmas.Bool.{eqb-true, lt-ltb, not-false}
use Rattle.std.proofs.lemmas.List.{length-map, length-take, get_or-map, get_or-take, take-map, get_or_default}
use Rattle.std.specs.Prelude.{slice_get}
use Rattle.std.specs.List.{Contains}
use Rattle.std.specs.FinMap.{get}
use Rattle.spur_graph.specs.Graph.{Graph}
use Rattle.spur_graph.specs.Live.{fixed_of, strong_values}
use Rattle.spur_graph.specs.Cells.{Body, Store, is_formed, pointers, pointer_count}
use Rattle.spur_graph.specs.Ordinary.{body_at, is_ordinary, is_good_word}
use Rattle.spur_graph.specs.CellGraph.{read, node_of}
use Rattle.spur_graph.specs.Heaps.{IsSound}
use Rattle.heap_cells.proofs.Bodies.{pointers_fit}
use Rattle.scavenge_laws.specs.Copying.{strong_words}

-- ---- lists

-- what is among the front of a list stands at a place of it
pub in_front : (n : ℕ) (xs : List ℕ) (x : ℕ) → Contains (take n xs) x → (i : ℕ) × (i < n) × (i < length xs) × (get_or xs i 0 ≡ x)
in_front n xs x c =
    let long = length-take n xs in
    let l : c.0 < n = omega (arith, c.1, long) in
    let m : c.0 < length xs = omega (arith, c.1, long) in
    (c.0, l, m, get_or_default xs c.0 0 x m ∙ sym (get_or-take n xs c.0 x l) ∙ c.2)

pub front_in : (n : ℕ) (xs : List ℕ) (i : ℕ) → i < n → i < length xs → Contains (take n xs) (get_or xs i 0)
front_in n xs i l m =
    let long = length-take n xs in
    (i, omega (arith, l, m, long), get_or-take n xs i (get_or xs i 0) l ∙ get_or_default xs i (get_or xs i 0) 0 m)

pub from-map : {X Y : Type 0} (f : X → Y) (d : X) (xs : List X) (y : Y) → Contains (map f xs) y → (x : X) × Contains xs x × (f x ≡ y)
from-map f d xs y c =
    let l : c.0 < length xs = omega (arith, c.1, length-map xs f) in
    (get_or xs c.0 d, (c.0, l, get_or_again xs c.0 d l), sym (get_or-map f xs c.0 d y l) ∙ c.2)
  where
    get_or_again : {X : Type 0} (xs : List X) (i : ℕ) (d : X) → i < length xs → get_or xs i (get_or xs i d) ≡ get_or xs i d
    get_or_again xs i d l = get_or_default xs i (get_or xs i d) d l

-- the first of what a function gives
pub first-map : {Y : Type 0} (f : ℕ → Y) (n : ℕ) (xs : List ℕ) (y : Y) → slice_get (map f (take n xs)) 0 ≡ Some y → (0 < n) × (0 < length xs) × (f (get_or xs 0 0) ≡ y)
first-map f zero xs y e = let z : None ≡ Some y = e in absurd cc
first-map f (suc n) [] y e = let z : None ≡ Some y = e in absurd cc
first-map f (suc n) (x ∷ xs) y e = (omega arith, omega arith, (let z : Some (f x) ≡ Some y = e in cc))

pub first-front : {Y : Type 0} (f : ℕ → Y) (n : ℕ) (xs : List ℕ) → 0 < n → 0 < length xs → slice_get (map f (take n xs)) 0 ≡ Some (f (get_or xs 0 0))
first-front f zero xs l m = absurd (omega arith)
first-front f (suc n) [] l m = absurd (omega arith)
first-front f (suc n) (x ∷ xs) l m = refl

-- ---- an object

module _ (q : ℕ → ℕ) (h : Store) where
  pub node-pointers : (b : Body) → (node_of q h b).pointers ≡ map (read q h) (pointers b)
  unfolding node_of
  node-pointers b = refl

  pub node-format : (b : Body) → (node_of q h b).format ≡ b.format
  unfolding node_of
  node-format b = refl

  pub node-class : (b : Body) → (node_of q h b).class ≡ b.class
  unfolding node_of
  node-class b = refl

  pub values-long : (b : Body) → is_formed b ≡ true → length (map (read q h) (pointers b)) ≡ pointer_count b
  values-long b formed = length-map (pointers b) (read q h) ∙ (let l = length-take (pointer_count b) b.words in let m = pointers_fit b formed in omega (arith, l, m))

  -- the strong values are those of the strong words
  module _ (g : Graph) where
    count : ℕ → ℕ → ℕ → ℕ
    count f class n = cond (eqb f 4) (fixed_of g (get g.classes class)) n

    strong-cases : (f class n : ℕ) (vs : List ℕ) (four five : Bool) → eqb f 4 ≡ four → eqb f 5 ≡ five → length (map (read q h) vs) ≡ n
        → cond (five && nat_lt 0 (length (map (read q h) vs))) [] (take (cond four (fixed_of g (get g.classes class)) (length (map (read q h) vs))) (map (read q h) vs))
        ≡ map (read q h) (take (cond four (fixed_of g (get g.classes class)) (cond five 0 n)) vs)
    strong-cases f class n vs true true e k l = let x = eqb-true f 4 e in let y = eqb-true f 5 k in absurd (omega (arith, x, y))
    strong-cases f class n vs true false e k l = take-map (read q h) (fixed_of g (get g.classes class)) vs
    strong-cases f class n vs false false e k l = ap (λ m. take m (map (read q h) vs)) l ∙ take-map (read q h) n vs
    strong-cases f class n [] false true e k l = refl
    strong-cases f class n (v ∷ vs) false true e k l = ap (λ t. cond t [] (take (length (map (read q h) (v ∷ vs))) (map (read q h) (v ∷ vs)))) (lt-ltb 0 (length (map (read q h) (v ∷ vs))) (omega arith))

    pub strong-words : (b : Body) → is_formed b ≡ true → strong_values g (node_of q h b) ≡ map (read q h) (strong_words g b)
    unfolding node_of
    strong-words b formed = strong-cases b.format b.class (pointer_count b) (pointers b) (eqb b.format 4) (eqb b.format 5) refl refl (values-long b formed)

-- ---- words of sound objects

-- a pointer slot of an ordinary object has a good word
pub slot-word : (h : Store) → IsSound h → (s : ℕ) → is_ordinary h s ≡ true → (w : ℕ) → Contains (pointers (body_at h s)) w → is_good_word h w ≡ true
slot-word h sound s on w c =
    let f = in_front (pointer_count (body_at h s)) (body_at h s).words w c in
    let front : (is_ordinary h s && nat_lt f.0 (pointer_count (body_at h s))) ≡ true = λ x. on x && lt-ltb f.0 (pointer_count (body_at h s)) f.1 x in
    let good : is_good_word h (get_or (body_at h s).words f.0 0) ≡ true = not-false _ (sym (ap (λ b. b && not (is_good_word h (get_or (body_at h s).words f.0 0))) front) ∙ sound.slots s f.0) in
    ap (is_good_word h) (sym f.3) ∙ good
