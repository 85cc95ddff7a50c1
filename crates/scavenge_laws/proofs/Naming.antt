-- What a graph under names tells of a store: the nodes of its objects, and the values of words.
use Rattle.std.proofs.Common.{◌≡◌, ◌≢◌, ℕ, true, false, ◌+◌, ◌/◌, ◌%◌, cond, sym, ap, ◌∙◌, inl, inr, arith, Some, None}
use Rattle.std.proofs.lemmas.Bool.{false≢true, cases_eq, eq-eqb, ne_eqb, or_cases}
use Rattle.std.specs.Option.{option_map}
use Rattle.std.specs.List.{Contains}
use Rattle.std.specs.FinMap.{get}
use Rattle.spur_graph.specs.declared.answer.Value.{Value}
use Rattle.spur_graph.specs.declared.answer.Value.TheVariants.{Ref}
use Rattle.spur_graph.specs.Value.{is_immediate_word}
use Rattle.spur_graph.specs.Node.{Node}
use Rattle.spur_graph.specs.Names.{rename}
use Rattle.spur_graph.specs.Cells.{Store, final, lead, is_start}
use Rattle.spur_graph.specs.Ordinary.{body_at, is_ordinary, ordinary_starts, is_good_reference, is_good_word, passes}
use Rattle.spur_graph.specs.CellGraph.{read, node_of, nodes_of}
use Rattle.heap_cells.proofs.CellKinds.{there_starts}
use Rattle.heap_cells.proofs.Finding.{get-member, get-at}
use Rattle.heap_cells.proofs.Members.{In, in_list, in_filter, filter_in}
use Rattle.heap_cells.proofs.References.{ordinary_there, immediate_tag}
use Rattle.heap_cells.proofs.Values.{fixed, read-reference, read-fixed, reference-good}
use Rattle.scavenge_laws.specs.Copying.{IsHeapStore}

-- ---- words

-- a good word that is no immediate is a good reference
pub good_reference : (h : Store) (w : ℕ) → is_good_word h w ≡ true → is_immediate_word w ≡ false → is_good_reference h w ≡ true
good_reference h w good off = elim (or_cases (is_immediate_word w) (is_good_reference h w) good) [
  | inl on ↦ absurd (false≢true (sym off ∙ on))
  | inr reference ↦ reference
]

-- the words of good references in a heap
module _ (q : ℕ → ℕ) (h : Store) (k : IsHeapStore h) where
  pub record Leads (w : ℕ) : Type 0 where
    pub aligned : w % 8 ≡ 0
    pub is : lead h w ≡ Some (final h (w / 8))
    pub ordinary : is_ordinary h (final h (w / 8)) ≡ true
    pub value : read q h w ≡ Ref (q (final h (w / 8)))

  named : (w : ℕ) → w % 8 ≡ 0 → h.to w ≡ Some (w / 8)
  named w z = k.to w ∙ ap (λ b. cond b (Some (w / 8)) None) (eq-eqb (w % 8) 0 z)

  unnamed : (w : ℕ) → w % 8 ≢ 0 → h.to w ≡ None
  unnamed w n = k.to w ∙ ap (λ b. cond b (Some (w / 8)) None) (ne_eqb (w % 8) 0 n)

  pub reference-leads : (w : ℕ) → is_good_reference h w ≡ true → Leads w
  reference-leads w good = elim (cases_eq (w % 8) 0) [
    | inl z ↦
        let is : lead h w ≡ Some (final h (w / 8)) = ap (option_map (final h)) (named w z) in
        record {
          aligned = z;
          is = is;
          ordinary = sym (ap (passes (is_ordinary h)) is) ∙ good;
          value = read-reference q h w z ∙ reference-good q h w (final h (w / 8)) good is;
        }
    | inr n ↦
        let is : lead h w ≡ None = ap (option_map (final h)) (unnamed w n) in
        absurd (false≢true (sym (ap (passes (is_ordinary h)) is) ∙ good))
  ]

  -- a good word whose tag is that of a reference
  pub word-leads : (w : ℕ) → is_good_word h w ≡ true → w % 8 ≡ 0 → Leads w
  word-leads w good z = reference-leads w (elim (or_cases (is_immediate_word w) (is_good_reference h w) good) [
    | inl on ↦ absurd (immediate_tag w on z)
    | inr on ↦ on
  ])

  -- any other good word is an immediate
  pub word-fixed : (w : ℕ) → is_good_word h w ≡ true → w % 8 ≢ 0 → is_immediate_word w ≡ true
  word-fixed w good n = elim (or_cases (is_immediate_word w) (is_good_reference h w) good) [
    | inl on ↦ on
    | inr on ↦ absurd (n (reference-leads w on).aligned)
  ]

  -- a good word that reads as a reference
  pub reads-reference : (w a : ℕ) → is_good_word h w ≡ true → read q h w ≡ Ref a → (w % 8 ≡ 0) × (q (final h (w / 8)) ≡ a)
  reads-reference w a good is = elim (cases_eq (w % 8) 0) [
    | inl z ↦ let l = word-leads w good z in let v = l.value in (z, (let e : Ref (q (final h (w / 8))) ≡ Ref a = sym v ∙ is in cc))
    | inr n ↦
        let on = word-fixed w good n in
        let v = fixed w on in
        let e : v.value ≡ Ref a = sym (read-fixed q h w v) ∙ is in
        absurd (none_renamed v.value a e (v.same (λ b. b + 1)))
  ]
    where
      none_renamed : (v : Value) (a : ℕ) → v ≡ Ref a → rename (λ b. b + 1) v ≡ v → ⊥
      none_renamed v a e same = let k : Ref (a + 1) ≡ Ref a = ap (rename (λ b. b + 1)) (sym e) ∙ same ∙ e in let n : a + 1 ≡ a = cc in omega (arith, n)

-- ---- nodes

module _ (q : ℕ → ℕ) (h : Store) (inside : (s : ℕ) → is_start (h.cell s) ≡ true → Contains h.starts s) (once : (s t : ℕ) → q s ≡ q t → s ≡ t) where
  in_starts : (s : ℕ) → is_ordinary h s ≡ true → In (ordinary_starts h) s
  unfolding ordinary_starts
  in_starts s on = in_filter (is_ordinary h) h.starts s (in_list h.starts s (inside s (there_starts (h.cell s) (ordinary_there h s on)))) on

  from_starts : (s : ℕ) → In (ordinary_starts h) s → is_ordinary h s ≡ true
  unfolding ordinary_starts
  from_starts s m = (filter_in (is_ordinary h) h.starts s m).1

  pub node-here : (s : ℕ) → is_ordinary h s ≡ true → get (nodes_of q h) (q s) ≡ Some (node_of q h (body_at h s))
  unfolding nodes_of
  node-here s on = get-at q (λ t. node_of q h (body_at h t)) s (ordinary_starts h) (λ t m e. ap (λ u. node_of q h (body_at h u)) (once t s (sym e))) (in_starts s on)

  pub record Comes (a : ℕ) (n : Node) : Type 0 where
    pub place : ℕ
    pub ordinary : is_ordinary h place ≡ true
    pub name : q place ≡ a
    pub node : node_of q h (body_at h place) ≡ n

  pub node-comes : (a : ℕ) (n : Node) → get (nodes_of q h) a ≡ Some n → Comes a n
  unfolding nodes_of
  node-comes a n e =
      let m = get-member q (λ t. node_of q h (body_at h t)) a (ordinary_starts h) n e in
      record { place = m.0; ordinary = from_starts m.0 m.1; name = m.2; node = m.3 }
