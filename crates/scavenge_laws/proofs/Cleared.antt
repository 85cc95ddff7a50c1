-- A weak object whose weak slots are cleared: the words that led into the space that is being left are nil.
use Rattle.std.proofs.Common.{◌≡◌, ◌≢◌, ℕ, Bool, true, false, not, ◌&&◌, ◌*◌, ◌/◌, ◌%◌, ◌+◌, if◌then◌else◌, cond, List, [], ◌∷◌, ◌++◌, map, take, drop, refl, sym, ap, ◌∙◌, subst, inl, inr, arith, Some}
use Rattle.std.proofs.lemmas.Bool.{cases_Bool, cases_eq, eq-eqb, ne_eqb, or_right}
use Rattle.std.proofs.lemmas.List.{take-map, drop-map, map-append}
use Rattle.std.proofs.lemmas.List.Elements.{recursion_from_All, All-drop}
use Rattle.std.proofs.lemmas.List.Sums.{sum_by-cons}
use Rattle.std.specs.Option.{option_map}
use Rattle.std.specs.List.{All, AllByRecursion, count_by}
use Rattle.spur_graph.specs.declared.answer.Value.{Value}
use Rattle.spur_graph.specs.declared.answer.Value.TheVariants.{Int, Char, Float, Ref}
use Rattle.spur_graph.specs.Value.{is_immediate_word}
use Rattle.spur_graph.specs.Rounds.{names_dead}
use Rattle.spur_graph.specs.Cells.{Store, first, final}
use Rattle.spur_graph.specs.Ordinary.{passes, is_ordinary, is_good_word}
use Rattle.spur_graph.specs.CellGraph.{read}
use Rattle.heap_cells.proofs.Chains.{final-there}
use Rattle.heap_cells.proofs.Internals.{heap-named}
use Rattle.heap_cells.proofs.References.{ordinary_there}
use Rattle.scavenge_laws.specs.Copying.{IsClear, IsHeapStore, StandOutside, ArePlaces}
use Rattle.scavenge_laws.specs.Ending.{stands_outside, cleared_word, is_dead_word}
use Rattle.scavenge_laws.proofs.Naming.{word-leads, reads-reference}

-- the value in place of one that names a dead name
abbrev pub or_nil : (ℕ → Bool) → ℕ → Value → Value
or_nil live nil v = if names_dead live v then Ref nil else v

module _ {young : ℕ → Bool} {h : Store} {p q : ℕ → ℕ} {live : ℕ → Bool} (heap : IsHeapStore h) (outer : StandOutside young h) (places : ArePlaces p q) (standing : (a : ℕ) → live a ≡ stands_outside young h p a) where
  -- a place is an ordinary object, so that its name lives if it stands outside
  pub lives-by : (s : ℕ) → is_ordinary h s ≡ true → live (q s) ≡ not (young s)
  lives-by s on = standing (q s) ∙ ap (λ t. is_ordinary h t && not (young t)) (places.left s) ∙ ap (λ t. t && not (young s)) on

  nil_ordinary : is_ordinary h (first h 0) ≡ true
  nil_ordinary = λ x. heap.store.sound.roots.objects 0 (omega arith) x && not (heap.store.sound.roots.outer 0 (omega arith) x)

  pub nil-lives : live (q (first h 0)) ≡ true
  nil-lives = lives-by (first h 0) nil_ordinary ∙ ap not (outer.firsts 0 (omega arith))

  -- 8 times the start of an ordinary object
  word-good : (s : ℕ) → is_ordinary h s ≡ true → is_good_word h (8 * s) ≡ true
  word-good s on = or_right (is_immediate_word (8 * s)) _ (ap (passes (is_ordinary h)) (ap (option_map (final h)) (heap.to (8 * s) ∙ heap-named s) ∙ ap (λ t. Some t) (final-there h s (ordinary_there h s on))) ∙ on)

  word-reads : (s : ℕ) → is_ordinary h s ≡ true → read q h (8 * s) ≡ Ref (q s)
  word-reads s on =
      let z : (8 * s) % 8 ≡ 0 = omega arith in
      let d : 8 * s / 8 ≡ s = omega arith in
      (word-leads q h heap (8 * s) (word-good s on) z).value ∙ ap (λ t. Ref (q t)) (ap (final h) d ∙ final-there h s (ordinary_there h s on))

  -- an immediate names nothing
  fixed-lives : (w : ℕ) → is_good_word h w ≡ true → w % 8 ≢ 0 → names_dead live (read q h w) ≡ false
  fixed-lives w good n = by (read q h w) refl
    where
      by : (v : Value) → read q h w ≡ v → names_dead live v ≡ false
      by (Int m) e = refl
      by (Char m) e = refl
      by (Float m) e = refl
      by (Ref a) e = absurd (n (reads-reference q h heap w a good e).0)

  -- which words name what is dead
  pub word-dead : (w : ℕ) → is_good_word h w ≡ true → names_dead live (read q h w) ≡ is_dead_word young h w
  word-dead w good = elim (cases_eq (w % 8) 0) [
    | inl z ↦
        let l = word-leads q h heap w good z in
        ap (names_dead live) l.value ∙ ap not (lives-by (final h (w / 8)) l.ordinary) ∙ twice (young (final h (w / 8))) ∙ sym (ap (λ t. t && young (final h (w / 8))) (eq-eqb (w % 8) 0 z))
    | inr n ↦ fixed-lives w good n ∙ sym (ap (λ t. t && young (final h (w / 8))) (ne_eqb (w % 8) 0 n))
  ]
    where
      twice : (t : Bool) → not (not t) ≡ t
      twice true = refl
      twice false = refl

  -- a cleared word
  cleared-cases : (w : ℕ) → w % 8 ≡ 0 → (t : Bool) → young (final h (w / 8)) ≡ t → cleared_word young h w ≡ (if t then 8 * first h 0 else 8 * final h (w / 8))
  cleared-cases w z t e = ap (λ b. cond b (cond (young (final h (w / 8))) (8 * first h 0) (8 * final h (w / 8))) w) (eq-eqb (w % 8) 0 z) ∙ ap (λ b. cond b (8 * first h 0) (8 * final h (w / 8))) e

  cleared-else : (w : ℕ) → w % 8 ≢ 0 → cleared_word young h w ≡ w
  cleared-else w n = ap (λ b. cond b (cond (young (final h (w / 8))) (8 * first h 0) (8 * final h (w / 8))) w) (ne_eqb (w % 8) 0 n)

  pub cleared-good : (w : ℕ) → is_good_word h w ≡ true → is_good_word h (cleared_word young h w) ≡ true
  cleared-good w good = elim (cases_eq (w % 8) 0) [
    | inl z ↦ elim (cases_Bool (young (final h (w / 8)))) [
      | inl on ↦ ap (is_good_word h) (cleared-cases w z true on) ∙ word-good (first h 0) nil_ordinary
      | inr off ↦ ap (is_good_word h) (cleared-cases w z false off) ∙ word-good (final h (w / 8)) (word-leads q h heap w good z).ordinary
    ]
    | inr n ↦ ap (is_good_word h) (cleared-else w n) ∙ good
  ]

  pub cleared-clear : (w : ℕ) → IsClear young (cleared_word young h w)
  cleared-clear w = elim (cases_eq (w % 8) 0) [
    | inl z ↦ elim (cases_Bool (young (final h (w / 8)))) [
      | inl on ↦ subst (IsClear young) (sym (cleared-cases w z true on)) (λ r. let d : 8 * first h 0 / 8 ≡ first h 0 = omega arith in ap young d ∙ outer.firsts 0 (omega arith))
      | inr off ↦ subst (IsClear young) (sym (cleared-cases w z false off)) (λ r. let d : 8 * final h (w / 8) / 8 ≡ final h (w / 8) = omega arith in ap young d ∙ off)
    ]
    | inr n ↦ subst (IsClear young) (sym (cleared-else w n)) (λ r. absurd (n r))
  ]

  -- it reads as the value without what is dead
  pub cleared-reads : (w : ℕ) → is_good_word h w ≡ true → read q h (cleared_word young h w) ≡ or_nil live (q (first h 0)) (read q h w)
  cleared-reads w good = elim (cases_eq (w % 8) 0) [
    | inl z ↦
        let l = word-leads q h heap w good z in
        let dead : (t : Bool) → young (final h (w / 8)) ≡ t → names_dead live (read q h w) ≡ t = λ t e. word-dead w good ∙ ap (λ b. b && young (final h (w / 8))) (eq-eqb (w % 8) 0 z) ∙ e in
        elim (cases_Bool (young (final h (w / 8)))) [
          | inl on ↦ ap (read q h) (cleared-cases w z true on) ∙ word-reads (first h 0) nil_ordinary ∙ sym (ap (λ b. cond b (Ref (q (first h 0))) (read q h w)) (dead true on))
          | inr off ↦ ap (read q h) (cleared-cases w z false off) ∙ word-reads (final h (w / 8)) l.ordinary ∙ sym l.value ∙ sym (ap (λ b. cond b (Ref (q (first h 0))) (read q h w)) (dead false off))
        ]
    | inr n ↦ ap (read q h) (cleared-else w n) ∙ sym (ap (λ b. cond b (Ref (q (first h 0))) (read q h w)) (fixed-lives w good n))
  ]

  all-reads : (ws : List ℕ) → AllByRecursion (λ w. is_good_word h w ≡ true) ws → map (read q h) (map (cleared_word young h) ws) ≡ map (or_nil live (q (first h 0))) (map (read q h) ws)
  all-reads [] all = refl
  all-reads (w ∷ ws) all = λ i. cleared-reads w all.0 i ∷ all-reads ws all.1 i

  -- the values of words of which those behind the first `k` are cleared
  pub words-read : (k : ℕ) (ws : List ℕ) → All (λ w. is_good_word h w ≡ true) ws
      → map (read q h) (take k ws ++ map (cleared_word young h) (drop k ws)) ≡ take k (map (read q h) ws) ++ map (or_nil live (q (first h 0))) (drop k (map (read q h) ws))
  words-read k ws good =
      map-append (read q h) (take k ws) (map (cleared_word young h) (drop k ws))
      ∙ (λ i. sym (take-map (read q h) k ws) i ++ (all-reads (drop k ws) (recursion_from_All (λ w. is_good_word h w ≡ true) (drop k ws) (All-drop (λ w. is_good_word h w ≡ true) k ws good)) ∙ ap (map (or_nil live (q (first h 0)))) (sym (drop-map (read q h) k ws))) i)

  -- how many are dead
  pub dead-count : (ws : List ℕ) → AllByRecursion (λ w. is_good_word h w ≡ true) ws → count_by (names_dead live) (map (read q h) ws) ≡ count_by (is_dead_word young h) ws
  dead-count [] all = refl
  dead-count (w ∷ ws) all =
      sum_by-cons (λ v. cond (names_dead live v) 1 0) (read q h w) (map (read q h) ws)
      ∙ (λ i. cond (word-dead w all.0 i) 1 0 + dead-count ws all.1 i)
      ∙ sym (sum_by-cons (λ v. cond (is_dead_word young h v) 1 0) w ws)
