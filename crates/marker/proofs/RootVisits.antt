-- The roots are visited kind by kind.
use Rattle.std.proofs.Common.{◌≡◌, ◌⊎◌, ℕ, zero, suc, ◌+◌, ◌*◌, ◌/◌, ◌%◌, ◌<◌, List, [], ◌∷◌, get_or, length, true, cond, refl, sym, ap, ◌∙◌, subst, inl, inr, arith}
use Rattle.std.specs.FinMap.{get}
use Rattle.std.specs.FinSet.{contains}
use Rattle.spur_graph.specs.declared.answer.Value.TheVariants.{Ref}
use Rattle.spur_graph.specs.Live.{IsRoot}
use Rattle.spur_graph.specs.Cells.{Store, first}
use Rattle.spur_graph.specs.Ordinary.{entry, has_page, page_entries, page_places}
use Rattle.spur_graph.specs.Heaps.{View, IsWhole, heap_graph, heap_room, heap_value, waiting_in}
use Rattle.spur_graph.specs.Room.{Room}
use Rattle.heap_cells.specs.Settled.{settled_word, word_of}
use Rattle.spur_heap.specs.Entering.{HasPage}
use Rattle.spur_heap.specs.Roots.{RootNames, First, Special, Held, Mourner, Entry}
use Rattle.spur_heap.specs.Views.{class_word, store}
use Rattle.spur_heap.proofs.Roots.{root_named, named_root}
use Rattle.marker.specs.Roots.{IsHeld, MarkedOf, NamedIn, NamedByHandle, NamedByMourner, NamedByEntry, NamedByPage}
use Rattle.marker.specs.Visits.{Among, MarksOnly, Visits}
use Rattle.marker.proofs.Keeping.{keeps_back, keeps_then, same_value}
use Rattle.marker.proofs.Visiting.{visits_as, visits_more, visits_some, visits_some_none, visits_then, visits_word}

-- ---- what is named in the one heap is named in the other

module _ {a b : View} (k : MarksOnly a b) where
  pub same_handles : b.handles ≡ a.handles
  same_handles = ap (λ (v : View). v.handles) k.rest

  pub same_mourners : b.mourners ≡ a.mourners
  same_mourners = ap (λ (v : View). v.mourners) k.rest

  pub same_page : (index : ℕ) → HasPage b index → HasPage a index
  same_page index page = subst (λ (r : Room). contains r.pages (index / page_entries) ≡ true) k.room page

  pub same_class : (index word : ℕ) → class_word b index word → class_word a index word
  same_class index word class = subst (λ (h : Store). word ≡ cond (has_page h index) (settled_word h (entry h index)) (word_of (first h 0))) k.store class

  pub by_handle : (t : ℕ) → NamedByHandle b t → NamedByHandle a t
  by_handle t n = (n.0, (n.1.0, sym (ap (λ m. get m n.1.0) same_handles) ∙ n.1.1), sym (same_value k n.0) ∙ n.2)

  by_mourner : (t : ℕ) → Among (NamedByMourner b) (length (waiting_in b.mourners)) t → Among (NamedByMourner a) (length (waiting_in a.mourners)) t
  by_mourner t n = (
    n.0,
    subst (λ (groups : List (List ℕ)). n.0 < length (waiting_in groups)) same_mourners n.1,
    sym (same_value k (8 * get_or (waiting_in a.mourners) n.0 0)) ∙ ap (λ (groups : List (List ℕ)). heap_value b (8 * get_or (waiting_in groups) n.0 0)) (sym same_mourners) ∙ n.2,
  )

  pub by_entry : (first i t : ℕ) → NamedByEntry b first i t → NamedByEntry a first i t
  by_entry first i t n = record { word = n.word; page = same_page first n.page; class = same_class (first + i) n.word n.class; value = sym (same_value k n.word) ∙ n.value }

  pub by_page : (page t : ℕ) → NamedByPage b page t → NamedByPage a page t
  by_page page t n = (n.0, n.1, by_entry (page_entries * page) n.0 t n.2)

-- ---- one after another

-- the object that a handle names
pub visits_held : (a b : View) (word : ℕ) → IsHeld a word → Visits (λ t. heap_value a word ≡ Ref t) a b → Visits (MarkedOf (NamedByHandle a) b) a b
visits_held a b word held v = visits_some (NamedByHandle a) a a b (λ t. heap_value a word ≡ Ref t) (visits_some_none (NamedByHandle a) a) v (λ t e. (word, held, e))

-- those that were marked by then, and the object that one handle more names
pub visits_handle : (a b c : View) (word : ℕ) → IsHeld b word → Visits (MarkedOf (NamedByHandle a) b) a b → Visits (λ t. heap_value b word ≡ Ref t) b c → Visits (MarkedOf (NamedByHandle a) c) a c
visits_handle a b c word held v w = visits_some (NamedByHandle a) a b c (λ t. heap_value b word ≡ Ref t) v w (λ t e. by_handle v.keeps t (word, held, e))

pub visits_handles : (a b c : View) → Visits (MarkedOf (NamedByHandle a) b) a b → Visits (MarkedOf (NamedByHandle b) c) b c → Visits (MarkedOf (NamedByHandle a) c) a c
visits_handles a b c v w = visits_some (NamedByHandle a) a b c (MarkedOf (NamedByHandle b) c) v w (λ t n. by_handle v.keeps t n.0)

pub visits_mourner : (a b c : View) (i word : ℕ) → Visits (Among (NamedByMourner a) i) a b → word ≡ 8 * get_or (waiting_in b.mourners) i 0 → Visits (λ t. heap_value b word ≡ Ref t) b c → Visits (Among (NamedByMourner a) (i + 1)) a c
visits_mourner a b c i word v is w =
    let same : word ≡ 8 * get_or (waiting_in a.mourners) i 0 = is ∙ ap (λ (groups : List (List ℕ)). 8 * get_or (waiting_in groups) i 0) (same_mourners v.keeps) in
    visits_word (NamedByMourner a) a b c i word v w (λ t n. ap (heap_value a) same ∙ n) (λ t e. sym (ap (heap_value a) same) ∙ e)

pub visits_entry : (a b c : View) (first i word : ℕ) → HasPage a first → Visits (Among (NamedByEntry a first) i) a b → class_word b (first + i) word → Visits (λ t. heap_value b word ≡ Ref t) b c
    → Visits (Among (NamedByEntry a first) (i + 1)) a c
visits_entry a b c first i word page v is w =
    let class : class_word a (first + i) word = same_class v.keeps (first + i) word is in
    visits_word (NamedByEntry a first) a b c i word v w (λ t n. ap (heap_value a) (class ∙ sym n.class) ∙ n.value) (λ t e. record { word = word; page = page; class = class; value = e })

pub visits_page : (a b c : View) (i : ℕ) → Visits (Among (NamedByPage a) i) a b → Visits (Among (NamedByEntry b (1024 * i)) page_entries) b c → Visits (Among (NamedByPage a) (i + 1)) a c
visits_page a b c i v w =
    visits_more (NamedByPage a) a b c i (Among (NamedByEntry b (1024 * i)) page_entries) v w (λ t n. by_page (keeps_back v.keeps) i t n) (λ t n. by_page v.keeps i t n)

-- ---- the roots

-- a name of one of four words, of a handle, of a mourner or of an entry of the class table
abbrev Named : View → List ℕ → ℕ → Type 0
Named v words t = NamedIn v words t ⊎ (NamedByHandle v t ⊎ (Among (NamedByMourner v) (length (waiting_in v.mourners)) t ⊎ Among (NamedByPage v) page_places t))

module _ (v : View) (words : List ℕ) (is : words ≡ word_of (first (store v) 0) ∷ word_of (first (store v) 1) ∷ word_of (first (store v) 2) ∷ v.special ∷ []) where
  at : (k : ℕ) → k < 4 → (x : ℕ) → get_or (word_of (first (store v) 0) ∷ word_of (first (store v) 1) ∷ word_of (first (store v) 2) ∷ v.special ∷ []) k 0 ≡ x → (t : ℕ) → heap_value v x ≡ Ref t → NamedIn v words t
  at k l x here t value = (k, subst (λ (ws : List ℕ). k < length ws) (sym is) l, ap (heap_value v) (ap (λ (ws : List ℕ). get_or ws k 0) is ∙ here) ∙ value)

  names_first : (t k : ℕ) → k < 3 → heap_value v (word_of (first (store v) k)) ≡ Ref t → NamedIn v words t
  names_first t zero l value = at 0 (omega arith) (word_of (first (store v) 0)) refl t value
  names_first t (suc zero) l value = at 1 (omega arith) (word_of (first (store v) 1)) refl t value
  names_first t (suc (suc zero)) l value = at 2 (omega arith) (word_of (first (store v) 2)) refl t value
  names_first t (suc (suc (suc k))) l value = absurd (omega (arith, l))

  first_names : (t k : ℕ) → k < 4 → heap_value v (get_or (word_of (first (store v) 0) ∷ word_of (first (store v) 1) ∷ word_of (first (store v) 2) ∷ v.special ∷ []) k 0) ≡ Ref t → RootNames v t
  first_names t zero l value = First 0 (omega arith) value
  first_names t (suc zero) l value = First 1 (omega arith) value
  first_names t (suc (suc zero)) l value = First 2 (omega arith) value
  first_names t (suc (suc (suc zero))) l value = Special value
  first_names t (suc (suc (suc (suc k)))) l value = absurd (omega (arith, l))

  names : (t : ℕ) → RootNames v t → Named v words t
  names t (First k l value) = inl (names_first t k l value)
  names t (Special value) = inl (at 3 (omega arith) v.special refl t value)
  names t (Held handle word held value) = inr (inl (word, (handle, held), value))
  names t (Mourner k l value) = inr (inr (inl (k, l, value)))
  names t (Entry index word low page class value) =
      let first : 1024 * (index / 1024) / 1024 ≡ index / 1024 = omega arith in
      let sum : index ≡ 1024 * (index / 1024) + index % 1024 = omega arith in
      inr (inr (inr (
        index / 1024,
        omega (arith, low),
        (
          index % 1024,
          omega arith,
          record {
            word = word;
            page = subst (λ n. contains (heap_room v).pages n ≡ true) (sym first) page;
            class = subst (λ n. class_word v n word) sum class;
            value = value;
          },
        ),
      )))

  named : (t : ℕ) → Named v words t → RootNames v t
  named t n = elim n [
    | inl w ↦ first_names t w.0 (subst (λ (ws : List ℕ). w.0 < length ws) is w.1) (ap (λ (ws : List ℕ). heap_value v (get_or ws w.0 0)) (sym is) ∙ w.2)
    | inr rest ↦ elim rest [
      | inl h ↦ Held h.1.0 h.0 h.1.1 h.2
      | inr more ↦ elim more [
        | inl m ↦ Mourner m.0 m.1 m.2
        | inr (page, low, (i, less, e)) ↦
            let place : (1024 * page + i) / 1024 ≡ 1024 * page / 1024 = omega (arith, less) in
            Entry (1024 * page + i) e.word (omega (arith, low, less)) (subst (λ n. contains (heap_room v).pages n ≡ true) (sym place) e.page) e.class e.value
      ]
    ]
  ]

  pub visits_roots : IsWhole v → (b c d e : View) → Visits (NamedIn v words) v b → Visits (NamedByHandle b) b c → Visits (Among (NamedByMourner c) (length (waiting_in c.mourners))) c d → Visits (Among (NamedByPage d) page_places) d e
      → Visits (IsRoot (heap_graph v)) v e
  visits_roots whole b c d e one two three four =
      let x : MarksOnly v b = one.keeps in
      let y : MarksOnly v c = keeps_then x two.keeps in
      let z : MarksOnly v d = keeps_then y three.keeps in
      let second = visits_as (NamedByHandle b) (NamedByHandle v) b c (by_handle x) (by_handle (keeps_back x)) two in
      let third = visits_as (Among (NamedByMourner c) (length (waiting_in c.mourners))) (Among (NamedByMourner v) (length (waiting_in v.mourners))) c d (by_mourner y) (by_mourner (keeps_back y)) three in
      let fourth = visits_as (Among (NamedByPage d) page_places) (Among (NamedByPage v) page_places) d e
      (λ t n. (n.0, n.1, by_page z n.0 t n.2)) (λ t n. (n.0, n.1, by_page (keeps_back z) n.0 t n.2)) four in
      visits_as (Named v words) (IsRoot (heap_graph v)) v e (λ t n. named_root v whole t (named t n)) (λ t r. names t (root_named v whole t r))
      (either one (either second (either third fourth)))
    where
      either : {P Q : ℕ → Type 0} {a b c : View} → Visits P a b → Visits Q b c → Visits (λ t. P t ⊎ Q t) a c
      either {P} {Q} {a} {b} {c} k l = visits_then P Q (λ t. P t ⊎ Q t) a b c k l (λ t n. n) (λ t p. inl p) (λ t q. inr q)
