-- A pointer slot gets another word that leads where its word leads and has its value: the store stands for what it stood for.
use Rattle.std.proofs.Common.{◌≡◌, ◌≢◌, ℕ, true, ◌⊎◌, not, ◌&&◌, ◌/◌, ◌%◌, ◌<◌, ◌≤◌, List, length, get_or, set, refl, sym, ap, ◌∙◌, subst, arith, inl, inr}
use Rattle.std.proofs.lemmas.Bool.{cases_eq, lt-ltb, not-false}
use Rattle.std.proofs.lemmas.List.{length-set, get_or-set_same, get_or-set_other}
use Rattle.std.specs.Option.{unwrap_or}
use Rattle.std.specs.FinMap.{FinMap}
use Rattle.spur_graph.specs.Graph.{handle_cmp}
use Rattle.spur_graph.specs.Cells.{Body, There, Store, is_there, body_of, is_formed, pointer_count, first, lead}
use Rattle.spur_graph.specs.Ordinary.{page_entries, body_at, is_ordinary, is_good_word, has_page, page_of, entry, is_entered}
use Rattle.spur_graph.specs.CellGraph.{read, node_of}
use Rattle.spur_graph.specs.Heaps.{IsSound, own_name, handle_values, graph_in}
use Rattle.heap_cells.proofs.Bodies.{IsLike, with_words, pointer_count-like, pointers_fit}
use Rattle.spur_heap.proofs.InPlace.{changed, Alike, cell-here, cell-other, kept, lead-same, alike_formed}
use Rattle.spur_heap.proofs.Swap.{Swap, root-same, sound_swapped}
use Rattle.spur_heap.proofs.EntriesAlike.{good_entry, has_class-same}
use Rattle.spur_heap.proofs.Graphs.{read-same, node-same, starts-same, mourners-same, nodes-alike, classes-alike}
use Rattle.spur_heap.proofs.Nodes.{node_same_pointer}

-- pointer slot `n` of an object that is not the hidden roots, and another word for it. In a method slot 0 is the number of its literals
pub record Another (old : Store) (s n w : ℕ) (b : Body) : Type 0 where
  pub sound : IsSound old
  pub there : old.cell s ≡ There b
  pub roots : first old 4 ≢ s
  pub low : n < pointer_count b
  pub literals : 24 ≤ b.format → 0 < n
  pub good : is_good_word old w ≡ true
  pub leads : lead old w ≡ lead old (get_or b.words n 0)
  pub value : read own_name old w ≡ read own_name old (get_or b.words n 0)

module _ {old : Store} {s n w : ℕ} {b : Body} (k : Another old s n w b) where
  abbrev pub another_body : Body
  another_body = with_words b (set b.words n w)

  abbrev new : Store
  new = changed old s another_body

  formed : is_formed b ≡ true
  formed = sym (ap (λ c. is_formed (body_of c)) k.there) ∙ k.sound.formed s (ap is_there k.there)

  inside : n < length b.words
  inside = let fit = pointers_fit b formed in let low = k.low in omega (arith, low, fit)

  pub another_like : IsLike b (set b.words n w)
  another_like = record { long = length-set b.words n w; first = λ l. get_or-set_other b.words n 0 w 0 (λ e. let some = k.literals l in omega (arith, e, some)) }

  alike : Alike old s b another_body
  alike = record { place = record { there = k.there }; class = refl; format = refl; like = another_like }

  -- what holds of the word, and held of a slot, holds of the slot
  pub by_slots : (t i : ℕ) (P : ℕ → Type 0) → (t ≡ s → i ≡ n → P w) → P (get_or (body_at old t).words i 0) → P (get_or (body_at new t).words i 0)
  by_slots t i P at was = elim (cases_eq t s) [
    | inr other ↦ subst P (sym (ap (λ c. get_or (body_of c).words i 0) (cell-other alike.place t other))) was
    | inl here ↦
        let then : get_or (body_at new t).words i 0 ≡ get_or (set b.words n w) i 0 = ap (λ u. get_or (body_at new u).words i 0) here ∙ ap (λ c. get_or (body_of c).words i 0) (cell-here alike.place) in
        let before : get_or (body_at old t).words i 0 ≡ get_or b.words i 0 = ap (λ u. get_or (body_at old u).words i 0) here ∙ ap (λ c. get_or (body_of c).words i 0) k.there in
        subst P (sym then) (elim (cases_eq i n) [
          | inl e ↦ subst P (sym (ap (λ j. get_or (set b.words n w) j 0) e ∙ get_or-set_same b.words n w 0 inside)) (at here e)
          | inr e ↦ subst P (before ∙ sym (get_or-set_other b.words n i w 0 e)) was
        ])
  ]

  pub another_slot : get_or (body_at new s).words n 0 ≡ w
  another_slot = ap (λ c. get_or (body_of c).words n 0) (cell-here alike.place) ∙ get_or-set_same b.words n w 0 inside

  -- what is the same of both words is the same of each slot
  pub of_slots : {X : Type 0} (f : ℕ → X) → f w ≡ f (get_or b.words n 0) → (t i : ℕ) → f (get_or (body_at new t).words i 0) ≡ f (get_or (body_at old t).words i 0)
  of_slots f e t i = by_slots t i (λ x. f x ≡ f (get_or (body_at old t).words i 0)) (λ here same. e ∙ ap (λ c. f (get_or (body_of c).words n 0)) (sym k.there) ∙ (λ x. f (get_or (body_at old (sym here x)).words (sym same x) 0))) refl

  good_slot : is_ordinary old s ≡ true → (i : ℕ) → i < pointer_count another_body → is_good_word old (get_or (set b.words n w) i 0) ≡ true
  good_slot ordinary i l =
      let count : pointer_count another_body ≡ pointer_count b = pointer_count-like b another_body refl another_like in
      let low : i < pointer_count (body_at old s) = let e : pointer_count (body_at old s) ≡ pointer_count b = ap (λ c. pointer_count (body_of c)) k.there in omega (arith, l, count, e) in
      let was : is_good_word old (get_or (body_at old s).words i 0) ≡ true =
      not-false _ (sym (λ x. ordinary x && lt-ltb i (pointer_count (body_at old s)) low x && not (is_good_word old (get_or (body_at old s).words i 0))) ∙ k.sound.slots s i) in
      sym (ap (λ c. is_good_word old (get_or (body_of c).words i 0)) (cell-here alike.place)) ∙ by_slots s i (λ x. is_good_word old x ≡ true) (λ here same. k.good) was

  pub swap : Swap old s b another_body
  swap = record {
    sound = k.sound;
    place = alike.place;
    roots = k.roots;
    formed = alike_formed alike k.sound;
    inner = λ on. record { format = refl; long = another_like.long; pinned = refl };
    slots = good_slot;
  }

  -- ---- the entries

  pub page_of-same : (i : ℕ) → page_of new i ≡ page_of old i
  page_of-same i = ap (λ u. unwrap_or (old.to u) old.names) (root-same swap (i / page_entries))

  of_entries : {X : Type 0} (f : ℕ → X) → f w ≡ f (get_or b.words n 0) → (i : ℕ) → f (entry new i) ≡ f (entry old i)
  of_entries f e i = ap (λ p. f (get_or (body_at new p).words (i % page_entries) 0)) (page_of-same i) ∙ of_slots f e (page_of old i) (i % page_entries)

  leads_kept : (i : ℕ) → has_page old i ≡ true → lead new (entry new i) ≡ lead old (entry old i)
  leads_kept i on = lead-same alike.place (entry new i) ∙ of_entries (lead old) k.leads i

  hash_kept : (t : ℕ) → is_entered old t ≡ true → (t ≡ first old 0) ⊎ ((body_at new t).hash ≡ (body_at old t).hash)
  hash_kept t on = inr (kept alike.place (λ c. (body_of c).hash) refl t)

  pub another_sound : IsSound new
  another_sound = sound_swapped swap (good_entry swap leads_kept hash_kept k.sound.roots.entries)

  -- ---- the graph

  pub another_node : (t : ℕ) → node_of own_name new (body_at new t) ≡ node_of own_name old (body_at old t)
  another_node t = node-same swap (body_at new t) ∙ kept alike.place (λ c. node_of own_name old (body_of c)) (node_same_pointer old b formed n w k.low another_like k.value) t

  pub another_graph : (special : ℕ) (held : FinMap handle_cmp ℕ) (groups : List (List ℕ)) (hash next : ℕ) → graph_in new special held groups hash next ≡ graph_in old special held groups hash next
  another_graph special held groups hash next =
      λ x. record (graph_in old special held groups hash next) {
        nodes = nodes-alike old new (starts-same swap) another_node x;
        special = read-same swap special x;
        classes = classes-alike old new (has_class-same swap leads_kept hash_kept) (λ i on. read-same swap (entry new i) ∙ of_entries (read own_name old) k.value i) x;
        handles = handle_values (λ u. read-same swap u x) held;
        mourners = mourners-same swap groups x;
      }
