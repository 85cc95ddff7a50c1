-- The room under moved places, in its parts.
use Rattle.std.proofs.Common.{◌≡◌, ℕ, suc, Bool, true, cond, not, ◌&&◌, ◌||◌, ◌<◌, ◌≤◌, eqb, List, [], ◌∷◌, map, length, get_or, sym, ap, ◌∙◌, arith, inl, inr}
use Rattle.std.proofs.lemmas.Bool.{and_parts, or_cases, eqb-true}
use Rattle.std.proofs.lemmas.Iterator.Adapters.{option_map_id}
use Rattle.std.proofs.lemmas.List.Elements.{filter_passes, recursion_from_All}
use Rattle.std.specs.List.{filter, sum_by, count_by, range_with_len}
use Rattle.std.specs.Ordering.{nat_cmp}
use Rattle.std.specs.FinMap.{get, from_entries}
use Rattle.std.specs.FinSet.{contains}
use Rattle.std.specs.FinSet as sets
use Rattle.spur_graph.specs.Room.{Spot}
use Rattle.object_header.specs.Chunks.{Chunk}
use Rattle.spur_graph.specs.Cells.{Store, is_start, first, any_below}
use Rattle.spur_graph.specs.Ordinary.{page_places, root_slot, tells, body_at, is_ordinary, is_internal, is_nil_slot}
use Rattle.spur_graph.specs.CellRoom.{ordinary_chunks, internal_chunks, spot_of, room_of}
use Rattle.heap_cells.specs.Rows.{starts_of}
use Rattle.heap_cells.proofs.Below.{at-named, any_below-found}
use Rattle.heap_cells.proofs.CellKinds.{there_starts}
use Rattle.heap_cells.proofs.Internals.{internal_there}
use Rattle.heap_cells.proofs.Kept.{all_kept, range_agree}
use Rattle.heap_cells.proofs.Members.{In, in_list, listed, start_of_chunk, in_filter, filter_in}
use Rattle.heap_cells.proofs.References.{ordinary_there}
use Rattle.heap_laws.specs.Placed.{CanPlace, ArePaired, ArePlacedChunks, spots_under, kept_spots}
use Rattle.heap_laws.specs.Placing.{PlacedHasSpots, PlacedIsSameRoom}
use Rattle.heap_laws.proofs.Places.{first-kept, ordinary-placed, internal-placed, nil_slot-placed, pinned-placed}
use Rattle.heap_laws.proofs.Loads.{loadable-placed}
use Rattle.heap_laws.proofs.Tables.{get-placed, contains-placed}
use Rattle.heap_laws.proofs.Pairs.{above_in}
use Rattle.heap_laws.proofs.Sums.{AreApart, apart_filter, once_apart, sum-placed}
use Rattle.graph_laws.proofs.Values.{one_to_one}

-- chunks whose starts rise have no start twice
pub apart_rise : (cs : List Chunk) → ((i j : ℕ) → i < j → j < length (starts_of cs) → get_or (starts_of cs) i 0 < get_or (starts_of cs) j 0) → AreApart (λ (c : Chunk). c.start) cs
apart_rise [] rise = tt
apart_rise (c ∷ cs) rise = (
  (λ z m e. let up = above_in c.start (starts_of cs) (λ j l. rise 0 (suc j) (omega arith) (omega (arith, l))) z.start (start_of_chunk cs z m) in omega (arith, up, e)),
  apart_rise cs (λ i j l m. rise (suc i) (suc j) (omega (arith, l)) (omega (arith, m))),
)

module _ (p : ℕ → ℕ) (keep : ℕ → Bool) (old new : Store) (name name' pp back : ℕ → ℕ) (k : CanPlace p keep old new)
    (apart : (s t : ℕ) → keep s ≡ true → keep t ≡ true → name s ≡ name t → s ≡ t) (r : ArePaired p keep old name name' pp back) where
  module _ (spot spot' : Chunk → Spot) (cs cs' : List Chunk) (q : ArePlacedChunks p keep new spot spot' cs cs') where
    abbrev xs : List Chunk
    xs = filter (λ (c : Chunk). keep c.start) (ordinary_chunks old cs)

    abbrev ys : List Chunk
    ys = ordinary_chunks new cs'

    record IsKept (c : Chunk) : Type 0 where
      inside : In cs c
      kept : keep c.start ≡ true
      ordinary : is_ordinary old c.start ≡ true

    kept_in : (c : Chunk) → In xs c → IsKept c
    kept_in c m =
        let f = filter_in (λ (d : Chunk). keep d.start) (ordinary_chunks old cs) c m in
        let g = filter_in (λ (d : Chunk). is_ordinary old d.start) cs c f.0 in
        record { inside = g.0; kept = f.1; ordinary = g.1 }

    to : (c : Chunk) → In xs c → (d : Chunk) × In ys d × (pp (name c.start) ≡ name' d.start) × (spot' d ≡ spot c)
    to c m =
        let e = kept_in c m in
        let t = q.to c (listed cs c e.inside) e.kept in
        let on : is_ordinary new t.0.start ≡ true = ap (is_ordinary new) t.2 ∙ ordinary-placed k c.start e.kept ∙ e.ordinary in
        (t.0, in_filter (λ (d : Chunk). is_ordinary new d.start) cs' t.0 (in_list cs' t.0 t.1) on, r.named c.start e.kept e.ordinary ∙ ap name' (sym t.2), t.3)

    from : (d : Chunk) → In ys d → (c : Chunk) × In xs c × (pp (name c.start) ≡ name' d.start)
    from d m =
        let f = filter_in (λ (e : Chunk). is_ordinary new e.start) cs' d m in
        let t = q.from d (listed cs' d f.0) (ordinary_there new d.start f.1) in
        let on : is_ordinary old t.0.start ≡ true = sym (ordinary-placed k t.0.start t.2) ∙ ap (is_ordinary new) t.3 ∙ f.1 in
        (t.0, in_filter (λ (c : Chunk). keep c.start) (ordinary_chunks old cs) t.0 (in_filter (λ (c : Chunk). is_ordinary old c.start) cs t.0 (in_list cs t.0 t.1) on) t.2, r.named t.0.start t.2 on ∙ ap name' t.3)

    -- two chunks of `new` whose names are one
    same_new : (d e : Chunk) → In ys d → In ys e → name' d.start ≡ name' e.start → d ≡ e
    same_new d e m n is =
        let f = filter_in (λ (x : Chunk). is_ordinary new x.start) cs' d m in
        let g = filter_in (λ (x : Chunk). is_ordinary new x.start) cs' e n in
        let a = q.from d (listed cs' d f.0) (ordinary_there new d.start f.1) in
        let b = q.from e (listed cs' e g.0) (ordinary_there new e.start g.1) in
        let on : is_ordinary old a.0.start ≡ true = sym (ordinary-placed k a.0.start a.2) ∙ ap (is_ordinary new) a.3 ∙ f.1 in
        let on2 : is_ordinary old b.0.start ≡ true = sym (ordinary-placed k b.0.start b.2) ∙ ap (is_ordinary new) b.3 ∙ g.1 in
        let named : pp (name a.0.start) ≡ pp (name b.0.start) = r.named a.0.start a.2 on ∙ ap name' a.3 ∙ is ∙ sym (ap name' b.3) ∙ sym (r.named b.0.start b.2 on2) in
        let start : d.start ≡ e.start = sym a.3 ∙ ap p (apart a.0.start b.0.start a.2 b.2 (one_to_one pp back r.left (name a.0.start) (name b.0.start) named)) ∙ b.3 in
        once_apart (λ (x : Chunk). x.start) cs' (apart_rise cs' q.rise_new) d e f.0 g.0 start

    pub spots-placed : (a : ℕ) → get (spots_under name' spot' new cs') (pp a) ≡ get (kept_spots name keep spot old cs) a
    spots-placed a =
        get-placed pp (one_to_one pp back r.left) (λ (x : Spot). x) (λ (c : Chunk). name c.start) (λ (c : Chunk). name' c.start) spot spot' xs ys to from
        (λ c d m n e. let x = kept_in c m in let y = kept_in d n in ap spot (sym (once_apart (λ (x : Chunk). x.start) cs (apart_rise cs q.rise) c d x.inside y.inside (apart c.start d.start x.kept y.kept e))))
        (λ d e m n is. ap spot' (sym (same_new d e m n is)))
        a
        ∙ option_map_id (get (kept_spots name keep spot old cs) a)

    -- the names of these chunks
    pub names-placed : (a : ℕ) → contains (sets.from_list {R = nat_cmp} (map (λ (d : Chunk). name' d.start) ys)) (pp a) ≡ contains (sets.from_list {R = nat_cmp} (map (λ (c : Chunk). name c.start) xs)) a
    names-placed a = contains-placed pp (one_to_one pp back r.left) (λ (c : Chunk). name c.start) (λ (d : Chunk). name' d.start) xs ys (λ c m. let t = to c m in (t.0, t.1, t.2)) from a

module _ {p : ℕ → ℕ} {keep : ℕ → Bool} {old new : Store} (k : CanPlace p keep old new) where
  pub pages-placed : filter (λ i. not (is_nil_slot new i)) (range_with_len 0 page_places) ≡ filter (λ i. not (is_nil_slot old i)) (range_with_len 0 page_places)
  pages-placed = pages page_places (omega arith)
    where
      pages : (n : ℕ) → n ≤ page_places → filter (λ i. not (is_nil_slot new i)) (range_with_len 0 n) ≡ filter (λ i. not (is_nil_slot old i)) (range_with_len 0 n)
      pages n l = range_agree (λ i. not (is_nil_slot new i)) (λ i. not (is_nil_slot old i)) 0 n n (omega arith) (λ j m. ap not (nil_slot-placed k j (omega (arith, l, m))))

module _ {p : ℕ → ℕ} {keep : ℕ → Bool} {old new : Store} (k : CanPlace p keep old new) where
  -- the internal objects are kept
  pub internal-kept : (s : ℕ) → is_internal old s ≡ true → keep s ≡ true
  unfolding is_internal
  internal-kept s on = elim (or_cases (eqb s (first old 3) || eqb s (first old 4)) (not (eqb s (first old 0)) && any_below (λ i. tells old i s) page_places) on) [
    | inl front ↦ elim (or_cases (eqb s (first old 3)) (eqb s (first old 4)) front) [
      | inl e ↦ ap keep (eqb-true s (first old 3) e) ∙ first-kept k 3 (omega arith)
      | inr e ↦ ap keep (eqb-true s (first old 4) e) ∙ first-kept k 4 (omega arith)
    ]
    | inr told ↦
        let r = any_below-found (λ i. tells old i s) page_places (and_parts (not (eqb s (first old 0))) (any_below (λ i. tells old i s) page_places) told).1 in
        (k.placed.pages r.0 s r.1 (at-named s (old.to (root_slot old r.0)) r.2)).0
  ]

  module _ (spot spot' : Chunk → Spot) (cs cs' : List Chunk) (q : ArePlacedChunks p keep new spot spot' cs cs') (a : AreApart (λ (c : Chunk). c.start) cs) (b : AreApart (λ (c : Chunk). c.start) cs') where
    abbrev is : List Chunk
    is = internal_chunks old cs

    abbrev js : List Chunk
    js = internal_chunks new cs'

    record IsInner (c : Chunk) : Type 0 where
      inside : In cs c
      start : is_start (old.cell c.start) ≡ true
      inner : is_internal old c.start ≡ true

    inner_in : (c : Chunk) → In is c → IsInner c
    inner_in c m =
        let f = filter_in (λ (d : Chunk). is_start (old.cell d.start) && is_internal old d.start) cs c m in
        let g = and_parts (is_start (old.cell c.start)) (is_internal old c.start) f.1 in
        record { inside = f.0; start = g.0; inner = g.1 }

    to-inner : (c : Chunk) → In is c → (d : Chunk) × In js d × (d.start ≡ p c.start) × (spot' d ≡ spot c)
    to-inner c m =
        let e = inner_in c m in
        let kept = internal-kept c.start e.inner in
        let t = q.to c (listed cs c e.inside) kept in
        let start : is_start (new.cell t.0.start) ≡ true = ap (λ s. is_start (new.cell s)) t.2 ∙ there_starts (new.cell (p c.start)) (k.placed.objects c.start kept).there in
        let inner : is_internal new t.0.start ≡ true = ap (is_internal new) t.2 ∙ internal-placed k c.start kept ∙ e.inner in
        (t.0, in_filter (λ (d : Chunk). is_start (new.cell d.start) && is_internal new d.start) cs' t.0 (in_list cs' t.0 t.1) (λ x. start x && inner x), t.2, t.3)

    from-inner : (d : Chunk) → In js d → (c : Chunk) × In is c × (p c.start ≡ d.start)
    from-inner d m =
        let f = filter_in (λ (e : Chunk). is_start (new.cell e.start) && is_internal new e.start) cs' d m in
        let g = and_parts (is_start (new.cell d.start)) (is_internal new d.start) f.1 in
        let t = q.from d (listed cs' d f.0) (internal_there new (loadable-placed k) d.start g.1) in
        let inner : is_internal old t.0.start ≡ true = sym (internal-placed k t.0.start t.2) ∙ ap (is_internal new) t.3 ∙ g.1 in
        let start : is_start (old.cell t.0.start) ≡ true = there_starts (old.cell t.0.start) (k.placed.some t.0.start t.2) in
        (t.0, in_filter (λ (c : Chunk). is_start (old.cell c.start) && is_internal old c.start) cs t.0 (in_list cs t.0 t.1) (λ x. start x && inner x), t.3)

    one_inner : (c d : Chunk) → In is c → In is d → p c.start ≡ p d.start → c.start ≡ d.start
    one_inner c d m n e = k.placed.once c.start d.start (internal-kept c.start (inner_in c m).inner) (internal-kept d.start (inner_in d n).inner) e

    -- the words of the internal objects, and how many of them are pinned
    pub internal_words-placed : sum_by (λ (d : Chunk). (spot' d).words) js ≡ sum_by (λ (c : Chunk). (spot c).words) is
    internal_words-placed = sum-placed p (λ (c : Chunk). c.start) (λ (c : Chunk). c.start) (λ (c : Chunk). (spot c).words) (λ (c : Chunk). (spot' c).words) is js
        (apart_filter (λ (c : Chunk). c.start) (λ (c : Chunk). is_start (old.cell c.start) && is_internal old c.start) cs a)
        (apart_filter (λ (c : Chunk). c.start) (λ (c : Chunk). is_start (new.cell c.start) && is_internal new c.start) cs' b)
        one_inner (λ c m. let t = to-inner c m in (t.0, t.1, t.2, ap (λ (s : Spot). s.words) t.3)) from-inner

    pub internal_pinned-placed : count_by (λ (d : Chunk). eqb (body_at new d.start).pinned 1) js ≡ count_by (λ (c : Chunk). eqb (body_at old c.start).pinned 1) is
    internal_pinned-placed = sum-placed p (λ (c : Chunk). c.start) (λ (c : Chunk). c.start) (λ (c : Chunk). cond (eqb (body_at old c.start).pinned 1) 1 0) (λ (c : Chunk). cond (eqb (body_at new c.start).pinned 1) 1 0) is js
        (apart_filter (λ (c : Chunk). c.start) (λ (c : Chunk). is_start (old.cell c.start) && is_internal old c.start) cs a)
        (apart_filter (λ (c : Chunk). c.start) (λ (c : Chunk). is_start (new.cell c.start) && is_internal new c.start) cs' b)
        one_inner (λ c m. let t = to-inner c m in (t.0, t.1, t.2, ap {B = ℕ} (λ n. cond (eqb n 1) 1 0) (ap (λ s. (body_at new s).pinned) t.2 ∙ pinned-placed k c.start (internal-kept c.start (inner_in c m).inner)))) from-inner

pub placed_has_spots : PlacedHasSpots
placed_has_spots p keep old new name name' place back spot spot' cs cs' a k apart r q = spots-placed p keep old new name name' place back k apart r spot spot' cs cs' q a

pub placed_is_same_room : PlacedIsSameRoom
unfolding room_of
placed_is_same_room p keep old new name name' place back cs cs' words limits free k apart all r q = record {
  spots = λ a. spots-placed p keep old new name name' place back k apart r spot_of spot_of cs cs' q a ∙ ap (λ ds. get (from_entries {R = nat_cmp} (map (λ (c : Chunk). (name c.start, spot_of c)) ds)) a) kept;
  old_names = λ a. names-placed p keep old new name name' place back k apart r spot_of spot_of cs cs' q a ∙ ap (λ ds. contains (sets.from_list {R = nat_cmp} (map (λ (c : Chunk). name c.start) ds)) a) kept;
  rest = λ i. record (room_of name' new cs' words limits free) {
    internal_words = internal_words-placed k spot_of spot_of cs cs' q once once_new i;
    internal_pinned = internal_pinned-placed k spot_of spot_of cs cs' q once once_new i;
    pages = sets.from_list (pages-placed k i);
  };
}
  where
    kept : filter (λ (c : Chunk). keep c.start) (ordinary_chunks old cs) ≡ ordinary_chunks old cs
    kept = all_kept (λ (c : Chunk). keep c.start) (ordinary_chunks old cs) (recursion_from_All (λ (c : Chunk). keep c.start ≡ true) (ordinary_chunks old cs)
        (λ j d l. all (get_or (ordinary_chunks old cs) j d).start (filter_passes (λ (c : Chunk). is_ordinary old c.start) cs j d l)))

    once : AreApart (λ (c : Chunk). c.start) cs
    once = apart_rise cs q.rise

    once_new : AreApart (λ (c : Chunk). c.start) cs'
    once_new = apart_rise cs' q.rise_new
