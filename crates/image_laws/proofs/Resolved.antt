-- Resolving forwarders changes no test, no value and no graph.
use Rattle.std.proofs.Common.{◌≡◌, ℕ, suc, zero, true, false, cond, not, ◌&&◌, ◌||◌, ◌/◌, ◌%◌, ◌<◌, ◌≤◌, eqb, ltb, List, filter, map, length, get_or, refl, sym, ap, ◌∙◌, subst, inl, inr, Option, Some, None}
use Rattle.std.proofs.lemmas.Bool.{false≢true, cases_Bool}
use Rattle.std.specs.Option.{unwrap_or, option_map}
use Rattle.std.specs.List.{All, Contains, range_with_len, sum_by, count_by}
use Rattle.std.specs.Ordering.{nat_cmp}
use Rattle.std.specs.FinMap.{FinMap, from_entries}
use Rattle.std.specs.FinSet as sets
use Rattle.spur_graph.specs.declared.answer.Value.{Value}
use Rattle.spur_graph.specs.declared.answer.Value.TheVariants.{Ref}
use Rattle.spur_graph.specs.declared.limits.Limits.{Limits}
use Rattle.spur_graph.specs.Value.{value_of, is_immediate_word}
use Rattle.spur_graph.specs.Graph.{handle_cmp}
use Rattle.spur_graph.specs.Chains.{follow}
use Rattle.object_header.specs.Chunks.{Chunk}
use Rattle.spur_graph.specs.Cells.{Body, Cell, Empty, Moved, There, Store, is_start, is_moved, is_there, is_formed, target_of, body_of, pointers, pointer_count, first, final, lead, any_below}
use Rattle.spur_graph.specs.Ordinary.{page_places, page_entries, class_limit, is_at, passes, body_at, root_slot, tells, is_nil_slot, is_first, is_page_body, is_page, is_internal, is_ordinary, ordinary_starts, is_good_reference, is_good_word, is_bad_forwarder, is_bad_page, is_bad_entry, is_bad_slot, has_page, page_of, entry, has_entry, is_no_index, is_entered}
use Rattle.spur_graph.specs.CellGraph.{reference, read, node_of, nodes_of, has_class, classes_of, graph_of}
use Rattle.spur_graph.specs.CellRoom.{free_sizes, ordinary_chunks, internal_chunks, spot_of, room_of}
use Rattle.heap_cells.specs.Settled.{IsLoadable, IsNamed, settled_word, word_of}
use Rattle.heap_cells.proofs.CellKinds.{there_is_not_moved}
use Rattle.heap_cells.proofs.Chains.{follow-end, follow-step, good_forwarder_ends}
use Rattle.heap_cells.proofs.Below.{any_below-same, passes-same}
use Rattle.image_checks.specs.Checks.{IsResolved}
use Rattle.image_laws.specs.Resolved.{ResolvedIsSame}

-- ---- a cell, and the cell once it is resolved

abbrev resolved : ℕ → Cell → Cell
resolved t c = cond (is_moved c) (Moved t) c

resolved_start : (t : ℕ) (c : Cell) → is_start (resolved t c) ≡ is_start c
resolved_start t Empty = refl
resolved_start t (Moved u) = refl
resolved_start t (There b) = refl

resolved_moved : (t : ℕ) (c : Cell) → is_moved (resolved t c) ≡ is_moved c
resolved_moved t Empty = refl
resolved_moved t (Moved u) = refl
resolved_moved t (There b) = refl

resolved_there : (t : ℕ) (c : Cell) → is_there (resolved t c) ≡ is_there c
resolved_there t Empty = refl
resolved_there t (Moved u) = refl
resolved_there t (There b) = refl

resolved_body : (t : ℕ) (c : Cell) → body_of (resolved t c) ≡ body_of c
resolved_body t Empty = refl
resolved_body t (Moved u) = refl
resolved_body t (There b) = refl

resolved_target : (t : ℕ) (c : Cell) → is_moved c ≡ true → target_of (resolved t c) ≡ t
resolved_target t Empty e = absurd (false≢true e)
resolved_target t (Moved u) e = refl
resolved_target t (There b) e = absurd (false≢true e)

module _ {old new : Store} (k : IsResolved old new) (good : (s : ℕ) → is_bad_forwarder old s ≡ false) where
  start-same : (s : ℕ) → is_start (new.cell s) ≡ is_start (old.cell s)
  start-same s = ap is_start (k.cells s) ∙ resolved_start (final old s) (old.cell s)

  moved-same : (s : ℕ) → is_moved (new.cell s) ≡ is_moved (old.cell s)
  moved-same s = ap is_moved (k.cells s) ∙ resolved_moved (final old s) (old.cell s)

  there-same : (s : ℕ) → is_there (new.cell s) ≡ is_there (old.cell s)
  there-same s = ap is_there (k.cells s) ∙ resolved_there (final old s) (old.cell s)

  body-same : (s : ℕ) → body_at new s ≡ body_at old s
  body-same s = ap body_of (k.cells s) ∙ resolved_body (final old s) (old.cell s)

  to-same : (w : ℕ) → new.to w ≡ old.to w
  to-same w = λ x. k.to x w

  first-same : (j : ℕ) → first new j ≡ first old j
  first-same j = λ x. get_or (k.starts x) j 0

  ends_there : (s : ℕ) → is_moved (old.cell s) ≡ true → is_there (old.cell (final old s)) ≡ true
  ends_there s e = good_forwarder_ends old s (good s) e

  target-new : (s : ℕ) → is_moved (old.cell s) ≡ true → target_of (new.cell s) ≡ final old s
  target-new s e = ap target_of (k.cells s) ∙ resolved_target (final old s) (old.cell s) e

  -- no step, or one that reaches the end
  chain-same : (n s t : ℕ) → is_moved (old.cell s) ≡ true → target_of (new.cell s) ≡ t → is_there (old.cell t) ≡ true → follow (λ u. is_moved (old.cell u)) (λ u. target_of (old.cell u)) n s ≡ t
      → follow (λ u. is_moved (new.cell u)) (λ u. target_of (new.cell u)) n s ≡ t
  unfolding follow
  chain-same zero s t on to there e = e
  chain-same (suc n) s t on to there e =
      follow-step (λ u. is_moved (new.cell u)) (λ u. target_of (new.cell u)) n s (moved-same s ∙ on)
      ∙ ap (follow (λ u. is_moved (new.cell u)) (λ u. target_of (new.cell u)) n) to
      ∙ follow-end (λ u. is_moved (new.cell u)) (λ u. target_of (new.cell u)) n t (moved-same t ∙ there_is_not_moved (old.cell t) there)

  final-same : (s : ℕ) → final new s ≡ final old s
  unfolding final
  final-same s = elim (cases_Bool (is_moved (old.cell s))) [
    | inl on ↦ ap (λ n. follow (λ u. is_moved (new.cell u)) (λ u. target_of (new.cell u)) n s) k.names ∙ chain-same old.names s (final old s) on (target-new s on) (ends_there s on) refl
    | inr off ↦
        follow-end (λ u. is_moved (new.cell u)) (λ u. target_of (new.cell u)) new.names s (moved-same s ∙ off)
        ∙ sym (follow-end (λ u. is_moved (old.cell u)) (λ u. target_of (old.cell u)) old.names s off)
  ]

  lead-same : (w : ℕ) → lead new w ≡ lead old w
  lead-same w = ap (option_map (final new)) (to-same w) ∙ mapped (old.to w)
    where
      mapped : (o : Option ℕ) → option_map (final new) o ≡ option_map (final old) o
      mapped None = refl
      mapped (Some s) = ap (λ t. Some t) (final-same s)

  -- ---- the tests

  root-same : (i : ℕ) → root_slot new i ≡ root_slot old i
  root-same i = λ x. get_or (body-same (first-same 4 x) x).words i 0

  tells-same : (i s : ℕ) → tells new i s ≡ tells old i s
  tells-same i s = λ x. is_at s (to-same (root-same i x) x)

  nil_slot-same : (i : ℕ) → is_nil_slot new i ≡ is_nil_slot old i
  nil_slot-same i = λ x. tells-same i (first-same 0 x) x

  is_first-same : (s : ℕ) → is_first new s ≡ is_first old s
  is_first-same s = any_below-same (λ j. eqb (first new j) s) (λ j. eqb (first old j) s) 5 (λ j l x. eqb (first-same j x) s)

  page-same : (i : ℕ) → is_page new i ≡ is_page old i
  unfolding is_page
  page-same i =
      ap (passes (λ s. is_there (new.cell s) && is_page_body (body_at new s) && not (is_first new s) && not (any_below (λ j. tells new j s) i))) (λ x. to-same (root-same i x) x)
      ∙ passes-same (λ s. is_there (new.cell s) && is_page_body (body_at new s) && not (is_first new s) && not (any_below (λ j. tells new j s) i))
      (λ s. is_there (old.cell s) && is_page_body (body_at old s) && not (is_first old s) && not (any_below (λ j. tells old j s) i)) (old.to (root_slot old i))
      (λ s x. there-same s x && is_page_body (body-same s x) && not (is_first-same s x) && not (any_below (λ j. tells-same j s x) i))

  internal-same : (s : ℕ) → is_internal new s ≡ is_internal old s
  unfolding is_internal
  internal-same s = λ x. eqb s (first-same 3 x) || eqb s (first-same 4 x) || (not (eqb s (first-same 0 x)) && any_below (λ i. tells-same i s x) page_places)

  ordinary-same : (s : ℕ) → is_ordinary new s ≡ is_ordinary old s
  ordinary-same s = λ x. there-same s x && not (internal-same s x)

  good-same : (w : ℕ) → is_good_reference new w ≡ is_good_reference old w
  good-same w = λ x. passes (λ s. ordinary-same s x) (lead-same w x)

  good_word-same : (w : ℕ) → is_good_word new w ≡ is_good_word old w
  good_word-same w = λ x. is_immediate_word w || good-same w x

  forwarder-same : (s : ℕ) → is_bad_forwarder new s ≡ is_bad_forwarder old s
  forwarder-same s = λ x. moved-same s x && not (there-same (final-same s x) x)

  bad_page-same : (i : ℕ) → is_bad_page new i ≡ is_bad_page old i
  bad_page-same i = λ x. not (nil_slot-same i x) && not (page-same i x)

  bad_slot-same : (s i : ℕ) → is_bad_slot new s i ≡ is_bad_slot old s i
  bad_slot-same s i = λ x. ordinary-same s x && ltb i (pointer_count (body-same s x)) && not (good_word-same (get_or (body-same s x).words i 0) x)

  has_page-same : (i : ℕ) → has_page new i ≡ has_page old i
  has_page-same i = λ x. ltb i class_limit && not (nil_slot-same (i / page_entries) x)

  page_of-same : (i : ℕ) → page_of new i ≡ page_of old i
  page_of-same i = λ x. unwrap_or (to-same (root-same (i / page_entries) x) x) (k.names x)

  entry-same : (i : ℕ) → entry new i ≡ entry old i
  entry-same i = λ x. get_or (body-same (page_of-same i x) x).words (i % page_entries) 0

  has_entry-same : (i s : ℕ) → has_entry new i s ≡ has_entry old i s
  has_entry-same i s = λ x. has_page-same i x && is_at s (lead-same (entry-same i x) x)

  entered-same : (s : ℕ) → is_entered new s ≡ is_entered old s
  unfolding is_entered
  entered-same s = λ x. ordinary-same s x && not (is_no_index (body-same s x).hash) && has_entry-same (body-same s x).hash s x

  bad_entry-same : (i : ℕ) → is_bad_entry new i ≡ is_bad_entry old i
  bad_entry-same i = λ x. has_page-same i x && not (passes (λ s. eqb s (first-same 0 x) || (not (eqb i 0) && entered-same s x)) (lead-same (entry-same i x) x))

  -- ---- values, graphs and rooms

  reference-same : (name : ℕ → ℕ) (w : ℕ) → reference name new w ≡ reference name old w
  reference-same name w = λ x. cond (good-same w x) (Ref (name (unwrap_or (lead-same w x) (first-same 0 x)))) (Ref (name (first-same 0 x)))

  read-same : (name : ℕ → ℕ) (w : ℕ) → read name new w ≡ read name old w
  unfolding read
  read-same name w = λ x. unwrap_or (value_of (λ v. reference-same name v x) w) (Ref (name (first-same 0 x)))

  node-same : (name : ℕ → ℕ) (b : Body) → node_of name new b ≡ node_of name old b
  unfolding node_of
  node-same name b = λ x. record (node_of name old b) { pointers = map (λ w. read-same name w x) (pointers b) }

  ordinary_starts-same : ordinary_starts new ≡ ordinary_starts old
  unfolding ordinary_starts
  ordinary_starts-same = λ x. filter (λ s. ordinary-same s x) (k.starts x)

  nodes-same : (name : ℕ → ℕ) → nodes_of name new ≡ nodes_of name old
  unfolding nodes_of
  nodes-same name = λ x. from_entries (map (λ s. (name s, node-same name (body-same s x) x)) (ordinary_starts-same x))

  has_class-same : (i : ℕ) → has_class new i ≡ has_class old i
  has_class-same i = λ x. has_page-same i x && not (is_at (first-same 0 x) (lead-same (entry-same i x) x))

  -- over any number of indices, so that the list of all of them is never computed
  class_list-same : (name : ℕ → ℕ) (n : ℕ) → map {B = ℕ × Value} (λ i. (i, read name new (entry new i))) (filter (has_class new) (range_with_len 0 n)) ≡ map {B = ℕ × Value} (λ i. (i, read name old (entry old i))) (filter (has_class old) (range_with_len 0 n))
  class_list-same name n = λ x. map {B = ℕ × Value} (λ i. (i, read-same name (entry-same i x) x)) (filter (λ i. has_class-same i x) (range_with_len 0 n))

  classes-same : (name : ℕ → ℕ) → classes_of name new ≡ classes_of name old
  unfolding classes_of
  classes-same name = λ x. from_entries (class_list-same name class_limit x)

  graph-same : (name : ℕ → ℕ) (special : ℕ) (handles : FinMap handle_cmp Value) (hash next : ℕ) → graph_of name new special handles hash next ≡ graph_of name old special handles hash next
  graph-same name special handles hash next = λ x. record (graph_of name old special handles hash next) {
    nodes = nodes-same name x;
    nil = name (first-same 0 x);
    no = name (first-same 1 x);
    yes = name (first-same 2 x);
    special = read-same name special x;
    classes = classes-same name x;
  }

  settled-same : (w : ℕ) → settled_word new w ≡ settled_word old w
  settled-same w = λ x. cond (is_immediate_word w) w (cond (good-same w x) (word_of (unwrap_or (lead-same w x) (first-same 0 x))) (word_of (first-same 0 x)))

  free-same : (cs : List Chunk) → free_sizes new cs ≡ free_sizes old cs
  free-same cs = λ x. map (λ (c : Chunk). c.size) (filter (λ (c : Chunk). not (start-same c.start x)) cs)

  ordinary_chunks-same : (cs : List Chunk) → ordinary_chunks new cs ≡ ordinary_chunks old cs
  ordinary_chunks-same cs = λ x. filter (λ (c : Chunk). ordinary-same c.start x) cs

  internal_chunks-same : (cs : List Chunk) → internal_chunks new cs ≡ internal_chunks old cs
  internal_chunks-same cs = λ x. filter (λ (c : Chunk). start-same c.start x && internal-same c.start x) cs

  pages-same : (n : ℕ) → filter (λ i. not (is_nil_slot new i)) (range_with_len 0 n) ≡ filter (λ i. not (is_nil_slot old i)) (range_with_len 0 n)
  pages-same n = λ x. filter (λ i. not (nil_slot-same i x)) (range_with_len 0 n)

  room-same : (name : ℕ → ℕ) (cs : List Chunk) (words : ℕ) (limits : Limits) (free : List ℕ) → room_of name new cs words limits free ≡ room_of name old cs words limits free
  unfolding room_of
  room-same name cs words limits free = λ x. record (room_of name old cs words limits free) {
    spots = from_entries {R = nat_cmp} (map (λ (c : Chunk). (name c.start, spot_of c)) (ordinary_chunks-same cs x));
    old_names = sets.from_list {R = nat_cmp} (map (λ (c : Chunk). name c.start) (ordinary_chunks-same cs x));
    internal_words = sum_by (λ (c : Chunk). c.size) (internal_chunks-same cs x);
    internal_pinned = count_by (λ (c : Chunk). eqb (body-same c.start x).pinned 1) (internal_chunks-same cs x);
    pages = sets.from_list {R = nat_cmp} (pages-same page_places x);
  }

  -- ---- what holds of both

  named-new : IsNamed old → IsNamed new
  named-new n = record {
    aligned = λ w s e. n.aligned w s (sym (to-same w) ∙ e);
    below = λ w s e. subst (λ m. s < m) (sym k.names) (n.below w s (sym (to-same w) ∙ e));
    inside = λ s e. subst (λ ss. Contains ss s) (sym k.starts) (n.inside s (sym (start-same s) ∙ e));
    starts_below = subst (λ ss. All (λ s. s < new.names) ss) (sym k.starts) (subst (λ m. All (λ s. s < m) old.starts) (sym k.names) n.starts_below);
    rising = λ i j l m. subst (λ ss. get_or ss i 0 < get_or ss j 0) (sym k.starts) (n.rising i j l (subst (λ ss. j < length ss) k.starts m));
  }

  loadable-new : IsLoadable old → IsLoadable new
  loadable-new l = record {
    formed = λ s e. ap is_formed (body-same s) ∙ l.formed s (sym (there-same s) ∙ e);
    five = subst (λ ss. 5 ≤ length ss) (sym k.starts) l.five;
    objects = λ j m. (λ x. there-same (first-same j x) x) ∙ l.objects j m;
    lists = subst (λ f. f < 24) (sym (λ x. (body-same (first-same 3 x) x).format)) l.lists;
    roots = ((λ x. (body-same (first-same 4 x) x).format) ∙ l.roots.0, (λ x. length (body-same (first-same 4 x) x).words) ∙ l.roots.1);
    ends = λ s. forwarder-same s ∙ l.ends s;
    pages = λ i m. bad_page-same i ∙ l.pages i m;
    entries = λ i. bad_entry-same i ∙ l.entries i;
    slots = λ s i n. bad_slot-same s i ∙ l.slots s i (λ e. n (ap (λ (b : Body). b.format) (body-same s) ∙ e));
  }

  loadable-old : IsLoadable new → IsLoadable old
  loadable-old l = record {
    formed = λ s e. sym (ap is_formed (body-same s)) ∙ l.formed s (there-same s ∙ e);
    five = subst (λ ss. 5 ≤ length ss) k.starts l.five;
    objects = λ j m. sym (λ x. there-same (first-same j x) x) ∙ l.objects j m;
    lists = subst (λ f. f < 24) (λ x. (body-same (first-same 3 x) x).format) l.lists;
    roots = (sym (λ x. (body-same (first-same 4 x) x).format) ∙ l.roots.0, sym (λ x. length (body-same (first-same 4 x) x).words) ∙ l.roots.1);
    ends = good;
    pages = λ i m. sym (bad_page-same i) ∙ l.pages i m;
    entries = λ i. sym (bad_entry-same i) ∙ l.entries i;
    slots = λ s i n. sym (bad_slot-same s i) ∙ l.slots s i (λ e. n (sym (ap (λ (b : Body). b.format) (body-same s)) ∙ e));
  }

  direct : (s t : ℕ) → new.cell s ≡ Moved t → is_there (new.cell t) ≡ true
  direct s t e =
      let on : is_moved (old.cell s) ≡ true = sym (moved-same s) ∙ ap is_moved e in
      let to : final old s ≡ t = sym (target-new s on) ∙ ap target_of e in
      there-same t ∙ sym (ap (λ u. is_there (old.cell u)) to) ∙ ends_there s on

pub resolved_is_same : ResolvedIsSame
resolved_is_same old new k good = record {
  cells = record {
    names = k.names;
    starts = k.starts;
    to = to-same k good;
    firsts = first-same k good;
    starting = start-same k good;
    moved = moved-same k good;
    there = there-same k good;
    bodies = body-same k good;
    finals = final-same k good;
    leading = lead-same k good;
  };
  tests = record {
    nil_slots = nil_slot-same k good;
    page = page-same k good;
    internal = internal-same k good;
    ordinary = ordinary-same k good;
    good_references = good-same k good;
    good_words = good_word-same k good;
    paged = has_page-same k good;
    pages_at = page_of-same k good;
    entries = entry-same k good;
    entered = entered-same k good;
    bad_forwarders = forwarder-same k good;
    bad_pages = bad_page-same k good;
    bad_entries = bad_entry-same k good;
    bad_slots = bad_slot-same k good;
  };
  graphs = record {
    reads = read-same k good;
    graph = graph-same k good;
    settled = settled-same k good;
    free = free-same k good;
    room = room-same k good;
  };
  good = record {
    named = named-new k good;
    loadable = loadable-new k good;
    was_loadable = loadable-old k good;
  };
  direct = direct k good;
}
