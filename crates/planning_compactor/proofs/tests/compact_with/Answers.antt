use Rattle.std.proofs.Common.{rules, ◌≡◌, ◌≢◌, ℕ, suc, zero, Bool, true, false, ◌+◌, ◌/◌, ◌%◌, ◌<◌, ◌≤◌, ◌⊎◌, List, [], ◌∷◌, ◌++◌, length, refl, sym, ap, ◌∙◌, subst, inl, inr, arith}
use Rattle.std.specs.Prelude.{slice_index}
use Rattle.std.specs.List.{Contains}
use Rattle.std.proofs.lemmas.Bool.{cases_Bool, cases_eq, true≢false}
use Rattle.object_header.specs.Field.{field_of}
use Rattle.object_header.specs.Formats.{is_method}
use Rattle.object_header.specs.Head.{format_of}
use Rattle.object_header.specs.Chunks.{Chunk, chunk_of, Cuts, slots_at}
use Rattle.spur_graph.specs.Heaps.{is_marked}
use Rattle.heap_walk.specs.Starts.{has_start}
use Rattle.heap_cells.specs.Rows.{starts_of}
use Rattle.heap_cells.proofs.Cutting.{cuts-in_order}
use Rattle.heap_laws.specs.Compaction.{pointers_at}
use Rattle.spur_heap.specs.Tables.{start_in}
use Rattle.planning_compactor.specs.Objects.{AreObjects}
use Rattle.planning_compactor.specs.Roots.{roots_of, AreRoots}
use Rattle.planning_compactor.specs.Filled.{IsReady}
use Rattle.planning_compactor.proofs.Ready.{row_is_ready}
use Rattle.planning_compactor.proofs.tests.compact_with.Goals as goal

-- the words of the small heap, which are seven chunks
abbrev small : List ℕ
small =
    216172782147338272 ∷ 1 ∷ 1 ∷ 1 ∷ 252201580240044064 ∷ 73 ∷ 1 ∷ 1 ∷ 216172782147338272 ∷ 1 ∷ 1 ∷ 1 ∷ 252201580240044064 ∷ 1 ∷ 1 ∷ 1 ∷ 252201579166302240 ∷ 32 ∷ 1 ∷ 1 ∷ 252201579166302240 ∷ 1 ∷ 1 ∷ 96
    ∷ 360287970340634624 ∷ 0 ∷ 0 ∷ 0 ∷ 0 ∷ 0 ∷ []

abbrev seven : List Chunk
seven =
    chunk_of 0 216172782147338272 ∷ chunk_of 4 252201580240044064 ∷ chunk_of 8 216172782147338272 ∷ chunk_of 12 252201580240044064 ∷ chunk_of 16 252201579166302240 ∷ chunk_of 20 252201579166302240
    ∷ chunk_of 24 360287970340634624 ∷ []

small_cuts : Cuts small 0 30 seven
unfolding chunk_of field_of
small_cuts = (
  record { is = refl; twice = refl },
  (
    record { is = refl; twice = refl },
    (record { is = refl; twice = refl }, (record { is = refl; twice = refl }, (record { is = refl; twice = refl }, (record { is = refl; twice = refl }, (record { is = refl; twice = refl }, refl))))),
  ),
)

-- one of the six objects
abbrev IsOne : ℕ → Type 0
IsOne s = (s ≡ 0) ⊎ ((s ≡ 4) ⊎ ((s ≡ 8) ⊎ ((s ≡ 12) ⊎ ((s ≡ 16) ⊎ (s ≡ 20)))))

each : (P : ℕ → Type 0) → P 0 → P 4 → P 8 → P 12 → P 16 → P 20 → (s : ℕ) → IsOne s → P s
each P a b c d e f s (inl k) = subst P (sym k) a
each P a b c d e f s (inr (inl k)) = subst P (sym k) b
each P a b c d e f s (inr (inr (inl k))) = subst P (sym k) c
each P a b c d e f s (inr (inr (inr (inl k)))) = subst P (sym k) d
each P a b c d e f s (inr (inr (inr (inr (inl k))))) = subst P (sym k) e
each P a b c d e f s (inr (inr (inr (inr (inr k))))) = subst P (sym k) f

three : (P : ℕ → Type 0) → P 0 → P 1 → P 2 → (i : ℕ) → i < 3 → P i
three P a b c zero l = a
three P a b c (suc zero) l = b
three P a b c (suc (suc zero)) l = c
three P a b c (suc (suc (suc i))) l = absurd (omega (arith, l))

listed : (s : ℕ) → IsOne s → Contains (starts_of seven) s
unfolding chunk_of field_of
listed = each (Contains (starts_of seven)) (0, omega arith, refl) (1, omega arith, refl) (2, omega arith, refl) (3, omega arith, refl) (4, omega arith, refl) (5, omega arith, refl)

-- three slots, all of them pointers
record Shape (s : ℕ) : Type 0 where
  slots : slots_at small s ≡ 3
  pointers : pointers_at small s ≡ 3
  plain : is_method (format_of (slice_index small s)) ≡ false

shape : (s : ℕ) → IsOne s → Shape s
unfolding slots_at pointers_at field_of
shape = each Shape
    (record { slots = refl; pointers = refl; plain = refl })
    (record { slots = refl; pointers = refl; plain = refl })
    (record { slots = refl; pointers = refl; plain = refl })
    (record { slots = refl; pointers = refl; plain = refl })
    (record { slots = refl; pointers = refl; plain = refl })
    (record { slots = refl; pointers = refl; plain = refl })

-- a slot has an integer, or names one of the two pinned objects
abbrev Slot : ℕ → ℕ → Type 0
Slot s i = (slice_index small (s + 1 + i) % 8 ≡ 1) ⊎ ((slice_index small (s + 1 + i) ≡ 32) ⊎ (slice_index small (s + 1 + i) ≡ 96))

slots : (s : ℕ) → IsOne s → (i : ℕ) → i < 3 → Slot s i
slots = each (λ s. (i : ℕ) → i < 3 → Slot s i)
    (three (Slot 0) (inl refl) (inl refl) (inl refl))
    (three (Slot 4) (inl refl) (inl refl) (inl refl))
    (three (Slot 8) (inl refl) (inl refl) (inl refl))
    (three (Slot 12) (inl refl) (inl refl) (inl refl))
    (three (Slot 16) (inr (inl refl)) (inl refl) (inl refl))
    (three (Slot 20) (inl refl) (inl refl) (inr (inr refl)))

-- what is left after the sweep
record Swept (h : ℕ → Bool) : Type 0 where
  one : (s : ℕ) → h s ≡ true → IsOne s
  at_4 : h 4 ≡ true
  at_12 : h 12 ≡ true
  at_16 : h 16 ≡ true
  at_20 : h 20 ≡ true

module _ (h : ℕ → Bool) (k : Swept h) where
  old_ready : IsReady h small 0 30
  old_ready = row_is_ready h small 0 30 [] seven [] (omega arith) small_cuts (omega arith) (λ s on. listed s (k.one s on))

  young_ready : IsReady h small 30 30
  young_ready = row_is_ready h small 30 30 seven [] [] (cuts-in_order small 0 30 seven small_cuts) refl (omega arith) (λ s on. listed s (k.one s on))

  objects : AreObjects h small
  objects = record {
    live = old_ready.live;
    fits = λ s on. let a = shape s (k.one s on) in let b = a.slots in let c = a.pointers in omega (arith, b, c);
    refs = λ s i on l e. elim (slots s (k.one s on) i (let a = (shape s (k.one s on)).pointers in omega (arith, l, a))) [
      | inl odd ↦ absurd (omega (arith, odd, e))
      | inr name ↦ elim name [
        | inl z ↦ ap (λ w. h (w / 8)) z ∙ k.at_4
        | inr z ↦ ap (λ w. h (w / 8)) z ∙ k.at_12
      ]
    ];
    methods = λ s on m. absurd (true≢false (sym m ∙ (shape s (k.one s on)).plain));
  }

  roots : AreRoots h (roots_of (128 ∷ 19 ∷ 96 ∷ []) 160 (2147483664 ∷ []))
  roots = record {
    handles = three (λ i. slice_index (128 ∷ 19 ∷ 96 ∷ []) i % 8 ≡ 0 → h (slice_index (128 ∷ 19 ∷ 96 ∷ []) i / 8) ≡ true) (λ e. k.at_16) (λ e. absurd (omega (arith, e))) (λ e. k.at_12);
    special = λ e. k.at_20;
    mourners = λ i l. (let z : i ≡ 0 = omega (arith, l) in subst (λ j. h (start_in (slice_index (2147483664 ∷ []) j)) ≡ true) (sym z) k.at_16);
  }

-- six starts, set one after another
module _ (h0 h1 h2 h3 h4 h5 h6 : ℕ → Bool) (none : (s : ℕ) → h0 s ≡ false)
    (k1 : (s : ℕ) → s ≢ 0 → h1 s ≡ h0 s) (k2 : (s : ℕ) → s ≢ 4 → h2 s ≡ h1 s) (k3 : (s : ℕ) → s ≢ 8 → h3 s ≡ h2 s)
    (k4 : (s : ℕ) → s ≢ 12 → h4 s ≡ h3 s) (k5 : (s : ℕ) → s ≢ 16 → h5 s ≡ h4 s) (k6 : (s : ℕ) → s ≢ 20 → h6 s ≡ h5 s)
  where
    one-of : (s : ℕ) → h6 s ≡ true → IsOne s
    one-of s on = elim (cases_eq s 0) [
      | inl e ↦ inl e
      | inr a ↦ elim (cases_eq s 4) [
        | inl e ↦ inr (inl e)
        | inr b ↦ elim (cases_eq s 8) [
          | inl e ↦ inr (inr (inl e))
          | inr c ↦ elim (cases_eq s 12) [
            | inl e ↦ inr (inr (inr (inl e)))
            | inr d ↦ elim (cases_eq s 16) [
              | inl e ↦ inr (inr (inr (inr (inl e))))
              | inr f ↦ elim (cases_eq s 20) [
                | inl e ↦ inr (inr (inr (inr (inr e))))
                | inr g ↦ absurd (true≢false (sym on ∙ k6 s g ∙ k5 s f ∙ k4 s d ∙ k3 s c ∙ k2 s b ∙ k1 s a ∙ none s))
              ]
            ]
          ]
        ]
      ]
    ]

    swept : (h : ℕ → Bool) → ((s : ℕ) → h6 s ≡ true → h s ≡ is_marked small s) → ((s : ℕ) → h6 s ≡ false → h s ≡ false) → h2 4 ≡ true → h4 12 ≡ true → h5 16 ≡ true → h6 20 ≡ true → Swept h
    unfolding field_of
    swept h kept gone a b c d = record {
      one = λ s on. elim (cases_Bool (h6 s)) [ inl was ↦ one-of s was | inr off ↦ absurd (true≢false (sym on ∙ gone s off)) ];
      at_4 = kept 4 (k6 4 (λ e. omega (arith, e)) ∙ k5 4 (λ e. omega (arith, e)) ∙ k4 4 (λ e. omega (arith, e)) ∙ k3 4 (λ e. omega (arith, e)) ∙ a);
      at_12 = kept 12 (k6 12 (λ e. omega (arith, e)) ∙ k5 12 (λ e. omega (arith, e)) ∙ b);
      at_16 = kept 16 (k6 16 (λ e. omega (arith, e)) ∙ c);
      at_20 = kept 20 d;
    }

pub sweep-lost-requires-clause-stands : goal.sweep-lost-requires-clause-stands
sweep-lost-requires-clause-stands g c = λ s on.
    each (λ s. s < 30) (omega arith) (omega arith) (omega arith) (omega arith) (omega arith) (omega arith) s
    (one-of (has_start c.in_ok-starts.starts) (has_start c.set.new.self) (has_start c.set-2.new.self) (has_start c.set-3.new.self) (has_start c.set-4.new.self) (has_start c.set-5.new.self) (has_start c.set-6.new.self)
    c.in_ok-starts.ensures.empty c.set.ensures.others c.set-2.ensures.others c.set-3.ensures.others c.set-4.ensures.others c.set-5.ensures.others c.set-6.ensures.others s on)

pub compact_words-ends-requires : goal.compact_words-ends-requires
compact_words-ends-requires g c =
    let h = has_start c.sweep-lost.new.starts in
    let k = swept (has_start c.in_ok-starts.starts) (has_start c.set.new.self) (has_start c.set-2.new.self) (has_start c.set-3.new.self) (has_start c.set-4.new.self) (has_start c.set-5.new.self) (has_start c.set-6.new.self)
    c.in_ok-starts.ensures.empty c.set.ensures.others c.set-2.ensures.others c.set-3.ensures.others c.set-4.ensures.others c.set-5.ensures.others c.set-6.ensures.others
    h c.sweep-lost.ensures.kept c.sweep-lost.ensures.gone c.set-2.ensures.added c.set-4.ensures.added c.set-5.ensures.added c.set-6.ensures.added in
    record {
      covers = search rules;
      small = search rules;
      order = search rules;
      some = search rules;
      old_space = (old_ready h k).laid;
      eden = (young_ready h k).laid;
      past_space = (young_ready h k).laid;
      mobile = search rules;
      objects = objects h k;
      twice = (old_ready h k).twice;
      roots = roots h k;
    }
