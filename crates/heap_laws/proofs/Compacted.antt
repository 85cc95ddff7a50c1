-- From the words of a compaction to the cells.
use Rattle.std.proofs.Common.{◌≡◌, ◌≢◌, ℕ, suc, zero, Bool, true, ◌+◌, ◌/◌, ◌%◌, ◌<◌, ◌≤◌, eqb, List, [], ◌∷◌, length, get_or, refl, sym, ap, ◌∙◌, subst, arith, inl, inr}
use Rattle.std.proofs.lemmas.Bool.{false≢true, cases_eq, cases_lt, eqb-true, eq-eqb, or_cases, or_left, or_right}
use Rattle.std.proofs.lemmas.List.{ext_get_or}
use Rattle.std.proofs.lemmas.List.Elements.{Contains-get_or}
use Rattle.std.specs.List.{Contains}
use Rattle.object_header.specs.Fields.{fields_of}
use Rattle.object_header.specs.Head.{class_of}
use Rattle.object_header.specs.Chunks.{Chunk, InOrder, slots_at, slots_from}
use Rattle.spur_graph.specs.Cells.{Body, There, Store, cell_in, cell_from, body_from, body_of, start_named, is_start, is_there, first, pointer_count}
use Rattle.spur_graph.specs.Ordinary.{body_at}
use Rattle.spur_graph.specs.Heaps.{heap_to, heap_store}
use Rattle.heap_cells.specs.Rows.{starts_of}
use Rattle.heap_cells.specs.Settled.{map_front, word_of}
use Rattle.heap_cells.proofs.Bodies.{with_words}
use Rattle.heap_cells.proofs.CellKinds.{there_starts}
use Rattle.heap_cells.proofs.Fronts.{length-front, front-in}
use Rattle.heap_cells.proofs.Internals.{heap-named}
use Rattle.heap_cells.proofs.Members.{in_list, listed, chunk_of_start}
use Rattle.heap_cells.proofs.Starts.{start-read}
use Rattle.heap_laws.proofs.ObjectWords.{slot-at, slots-long, there_from, reads, Object, object-words}
use Rattle.heap_laws.specs.Instances.{readdressed_by, IsReaddressedAt, IsReaddressed}
use Rattle.heap_laws.specs.Compaction.{pointers_at, IsMovedBy, with_lists, IsCompacted}
use Rattle.heap_cells.proofs.WholeClosed.{heap_aligned}

-- ---- slots

front-out : (f : ℕ → ℕ) (n : ℕ) (ws : List ℕ) (i : ℕ) → n ≤ i → get_or (map_front f n ws) i 0 ≡ get_or ws i 0
front-out f zero ws i a = refl
front-out f (suc n) [] i a = refl
front-out f (suc n) (w ∷ ws) zero a = absurd (omega arith)
front-out f (suc n) (w ∷ ws) (suc i) a = front-out f n ws i (omega arith)

slots-moved : (p : ℕ → ℕ) (words words' : List ℕ) (t s : ℕ) → IsMovedBy p words words' t s → t + 1 + slots_at words t ≤ length words → s + 1 + slots_at words' s ≤ length words'
    → slots_from words' s ≡ map_front (readdressed_by p) (pointers_at words t) (slots_from words t)
slots-moved p words words' t s m a b =
    let n : ℕ = pointers_at words t in
    let long : length (slots_from words' s) ≡ slots_at words t = slots-long words' s b ∙ m.slots in
    ext_get_or 0 (slots_from words' s) (map_front (readdressed_by p) n (slots_from words t)) (long ∙ sym (length-front (readdressed_by p) n (slots_from words t) ∙ slots-long words t a)) (λ i l.
    let k : i < slots_at words t = omega (arith, l, long) in
    let here : get_or (slots_from words' s) i 0 ≡ get_or words' (s + 1 + i) 0 = slot-at words' s i (omega (arith, k, m.slots)) in
    elim (cases_lt i n) [
      | inl c ↦ here ∙ m.pointers i c ∙ ap (readdressed_by p) (sym (slot-at words t i k)) ∙ sym (front-in (readdressed_by p) n i (slots_from words t) c (omega (arith, k, slots-long words t a)))
      | inr c ↦ here ∙ m.others i c k ∙ sym (slot-at words t i k) ∙ sym (front-out (readdressed_by p) n (slots_from words t) i c)
    ])

-- ---- cells

module _ {p : ℕ → ℕ} {has has' : ℕ → Bool} {words words' : List ℕ} {cs cs' : List Chunk} (k : IsCompacted p has has' words words' cs cs') where
  abbrev old : Store
  old = heap_store words cs

  abbrev new : Store
  new = heap_store words' cs'

  inside : (ws : List ℕ) (ds : List Chunk) → InOrder ws 0 (length ws) ds → (s : ℕ) → is_start (cell_in heap_to ws ds s) ≡ true → Contains (starts_of ds) s
  inside ws ds order s e = (start-read heap_to ws (length ws) ds s order e).stands

  object_words : (t : ℕ) → is_there (old.cell t) ≡ true → Object words cs t
  object_words t there = object-words words cs t k.row there (k.sound.formed t there)

  -- an object with the header that it had
  at : (t : ℕ) → is_there (old.cell t) ≡ true → Contains (starts_of cs') (p t) → get_or words' (p t) 0 ≡ get_or words t 0 → slots_at words' (p t) ≡ slots_at words t
      → (t ≢ first old 3 → IsMovedBy p words words' t (p t)) → IsReaddressedAt p word_of old new t
  at t there m header slots moved =
      let s = object_words t there in
      let b = reads words' cs' (p t) k.row_new m in
      let stays : new.cell (p t) ≡ There (body_from s.fields (slots_from words' (p t))) =
      b.cell ∙ ap (λ f. cell_from f (start_named heap_to words' (get_or words' (p t + 1) 0)) (slots_from words' (p t))) (ap fields_of header ∙ sym s.is)
      ∙ there_from s.fields (start_named heap_to words (get_or words (t + 1) 0)) (start_named heap_to words' (get_or words' (p t + 1) 0)) (slots_from words t) (slots_from words' (p t)) s.there in
      let after : body_at new (p t) ≡ body_from s.fields (slots_from words' (p t)) = ap body_of stays in
      record {
        there = ap is_there stays;
        head = after ∙ (λ i. with_words (sym s.body i) (sym after i).words);
        long = ap (λ (c : Body). length c.words) after ∙ slots-long words' (p t) b.fits ∙ slots ∙ sym s.long;
        words = λ n. ap (λ (c : Body). c.words) after ∙ slots-moved p words words' t (p t) (moved n) s.fits b.fits ∙ ap (λ c. map_front (readdressed_by p) c (slots_from words t)) (sym s.count)
            ∙ ap (λ (c : Body). map_front (readdressed_by p) (pointer_count (body_at old t)) c.words) (sym s.body);
      }

  abbrev live : ℕ → Bool
  live = with_lists has old

  lists_in : Contains (starts_of cs') (first old 3)
  lists_in = subst (Contains (starts_of cs')) ((k.firsts 3 (omega arith)).1 ∙ sym k.lists) (Contains-get_or (starts_of cs') 3 0 (let f = k.five in omega (arith, f)))

  object : (t : ℕ) → live t ≡ true → IsReaddressedAt p word_of old new t
  object t e = elim (cases_eq t (first old 3)) [
    | inl same ↦ subst (IsReaddressedAt p word_of old new) (sym same)
        (at (first old 3) (k.sound.roots.objects 3 (omega arith)) (subst (Contains (starts_of cs')) k.lists lists_in) (ap (λ s. get_or words' s 0) (sym k.lists) ∙ k.header) (ap (slots_at words') (sym k.lists) ∙ k.slots) (λ n. absurd (n refl)))
    | inr other ↦
        let h = has_of t e other in
        let m = k.moved.objects t h in
        at t (k.objects t h) (k.starts (p t) (k.moved.there t h)) m.header m.slots (λ n. m)
  ]
    where
      has_of : (t : ℕ) → live t ≡ true → t ≢ first old 3 → has t ≡ true
      has_of t e n = elim (or_cases (has t) (eqb t (first old 3)) e) [ inl on ↦ on | inr same ↦ absurd (n (eqb-true t (first old 3) same)) ]

  object_there : (s : ℕ) → live s ≡ true → is_there (old.cell s) ≡ true
  object_there s e = elim (or_cases (has s) (eqb s (first old 3)) e) [
    | inl on ↦ k.objects s on
    | inr lists ↦ ap (λ t. is_there (old.cell t)) (eqb-true s (first old 3) lists) ∙ k.sound.roots.objects 3 (omega arith)
  ]

  back : (t : ℕ) → is_start (new.cell t) ≡ true → (s : ℕ) × (live s ≡ true) × (p s ≡ t)
  back t e =
      let r = start-read heap_to words' (length words') cs' t k.row_new e in
      let c = chunk_of_start cs' t (in_list (starts_of cs') t r.stands) in
      elim (k.kinds c.0 (listed cs' c.0 c.1)) [
        | inl some ↦ elim some [
          | inl on ↦ let b = k.moved.back t (ap has' (sym c.2) ∙ on) in (b.0, or_left (has b.0) (eqb b.0 (first old 3)) b.1, b.2)
          | inr lists ↦ (first old 3, or_right (has (first old 3)) (eqb (first old 3) (first old 3)) (eq-eqb (first old 3) (first old 3) refl), sym k.lists ∙ sym lists ∙ c.2)
        ]
        | inr free ↦ absurd (r.not_free (ap (λ s. class_of (get_or words' s 0)) (sym c.2) ∙ free))
      ]

  once : (s t : ℕ) → live s ≡ true → live t ≡ true → p s ≡ p t → s ≡ t
  once s t e f is = elim (or_cases (has s) (eqb s (first old 3)) e) [
    | inl on ↦ elim (or_cases (has t) (eqb t (first old 3)) f) [
      | inl on2 ↦ k.moved.once s t on on2 is
      | inr lists ↦ absurd (taken s t on (eqb-true t (first old 3) lists) is)
    ]
    | inr lists ↦ elim (or_cases (has t) (eqb t (first old 3)) f) [
      | inl on ↦ absurd (taken t s on (eqb-true s (first old 3) lists) (sym is))
      | inr lists2 ↦ eqb-true s (first old 3) lists ∙ sym (eqb-true t (first old 3) lists2)
    ]
  ]
    where
      taken : (s t : ℕ) → has s ≡ true → t ≡ first old 3 → p s ≡ p t → ⊥
      taken s t on lists is = false≢true (sym k.apart.1 ∙ ap has' (k.lists ∙ ap p (sym lists) ∙ sym is) ∙ k.moved.there s on)

  refs : (s i : ℕ) → live s ≡ true → s ≢ first old 3 → i < pointer_count (body_at old s) → get_or (body_at old s).words i 0 % 8 ≡ 0 → live (get_or (body_at old s).words i 0 / 8) ≡ true
  refs s i e n l z = elim (or_cases (has s) (eqb s (first old 3)) e) [
    | inr lists ↦ absurd (n (eqb-true s (first old 3) lists))
    | inl on ↦
        let q = object_words s (k.objects s on) in
        let count = q.count in
        let word : get_or (body_at old s).words i 0 ≡ get_or words (s + 1 + i) 0 = q.slot i (let few = q.few in omega (arith, l, few, count)) in
        ap (λ w. live (w / 8)) word ∙ k.refs s i on (omega (arith, l, count)) (ap (λ w. w % 8) (sym word) ∙ z)
  ]

  pub compacted_readdressed : IsReaddressed p word_of live old new
  compacted_readdressed = record {
    before = record { reads = record { aligned = heap_aligned; inside = inside words cs k.row }; sound = k.sound };
    reads = record { aligned = heap_aligned; inside = inside words' cs' k.row_new };
    to_old = λ w. refl;
    to_new = λ t e. heap-named t;
    starts = λ s e. there_starts (old.cell s) (object_there s e);
    objects = λ s e there. object s e;
    forwarders = λ s t e is. absurd (false≢true (sym (ap is_there is) ∙ object_there s e));
    back = back;
    once = once;
    below = λ t e. let r = (start-read heap_to words' (length words') cs' t k.row_new e).below in omega (arith, r);
    five = k.five;
    firsts = k.firsts;
    apart = k.roots;
    refs = λ s i e there. refs s i e;
  }
