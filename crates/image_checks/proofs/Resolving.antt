-- Chains among the words of an image, and what writing the word of a forwarder leaves of them.
use Rattle.std.proofs.Common.{◌≡◌, ℕ, suc, Bool, true, false, cond, ◌+◌, ◌-◌, ◌*◌, ◌/◌, ◌%◌, ◌<◌, ◌≤◌, refl, sym, ap, ◌∙◌, subst, inl, inr, arith, List, [], ◌∷◌, length, get_or, set, Some, None, nat_eq, nat_lt, not, ◌&&◌}
use Rattle.std.proofs.lemmas.Bool.{false≢true, cases_Bool, cases_lt, cases_eq, eq-eqb, ne_eqb}
use Rattle.std.proofs.lemmas.Bool.Decides.{nat_tests}
use Rattle.std.proofs.lemmas.List.{length-set, get_or-set_other}
use Rattle.std.specs.Option.{unwrap_or}
use Rattle.spur_graph.specs.Segments.{Segment, word_in, word_count, total_words}
use Rattle.object_header.specs.Chunks.{Cuts, chunks}
use Rattle.spur_graph.specs.Chains.{follow}
use Rattle.spur_graph.specs.ImageCauses.{IsLeast}
use Rattle.spur_graph.specs.Ordinary.{is_bad_forwarder}
use Rattle.spur_graph.specs.Cells.{Store, Moved, final, cell_in, start_named, is_start, is_there, is_formed, body_of}
use Rattle.object_header.specs.Head.{class_of}
use Rattle.heap_walk.specs.declared.starts.StartMap.{StartMap}
use Rattle.heap_walk.specs.Starts.{has_start, covered}
use Rattle.heap_cells.specs.Rows.{starts_of}
use Rattle.heap_segments.specs.Rising.{has_address}
use Rattle.heap_segments.proofs.Rising.{word-cons, word-none, total-cons}
use Rattle.heap_cells.proofs.CellKinds.{moved_starts, moved_is_not_there, unmoved_is_there, no_start_is_not_moved, no_start_is_not_there, moved_is_told}
use Rattle.heap_cells.proofs.Chains.{follow-end, follow-step, follow-none}
use Rattle.heap_cells.proofs.Writing.{keeps-row}
use Rattle.heap_cells.proofs.Cutting.{chunks-are, all-in_order}
use Rattle.heap_cells.proofs.ObjectWrites.{target-written}
use Rattle.heap_cells.proofs.Starts.{start-read}
use Rattle.image_checks.specs.Checks.{IsLost, IsResolved}
use Rattle.spur_graph.specs.FileStores.{file_store}
use Rattle.image_checks.specs.Chains.{AreKnown, Ends, AreShortened}
use Rattle.image_checks.proofs.Shortened.{moved_in, target_in, final-is, final-next, moved-same, start-same, forth, ends-forth, back, ends-back, shortens-more}

-- the word that has an address is one of the segments' words
word-below : (segs : List Segment) (at a n : ℕ) → word_in segs at a ≡ Some n → n < at + total_words segs
word-below [] at a n e = let k : None ≡ Some n = sym (word-none at a) ∙ e in absurd cc
word-below (s ∷ rest) at a n e = go (word-below rest (at + word_count s) a n) (has_address s a) refl (sym (word-cons s rest at a) ∙ e)
  where
    go : (word_in rest (at + word_count s) a ≡ Some n → n < at + word_count s + total_words rest) → (b : Bool) → has_address s a ≡ b → cond b (Some (at + (a - s.address) / 8)) (word_in rest (at + word_count s) a) ≡ Some n → n < at + total_words (s ∷ rest)
    go more true h k = let same : at + (a - s.address) / 8 ≡ n = cc in omega (arith, same, inside a s.address (word_count s) h, total-cons s rest)
      where
        inside : (a b w : ℕ) → nat_eq (a % 8) 0 && not (nat_lt a b) && nat_lt a (b + 8 * w) ≡ true → (a - b) / 8 < w
        inside a b w h = let l : a < b + 8 * w = last (nat_eq (a % 8) 0) (nat_lt a b) a (b + 8 * w) h in let m : b ≤ a = second (nat_eq (a % 8) 0) a b (nat_lt a (b + 8 * w)) h in omega (arith, l, m)
          where
            last : (x y : Bool) (a b : ℕ) → x && not y && nat_lt a b ≡ true → a < b
            last x y a b h = grind (arith, nat_tests, h)

            second : (x : Bool) (a b : ℕ) (y : Bool) → x && not (nat_lt a b) && y ≡ true → b ≤ a
            second x a b y h = grind (arith, nat_tests, h)
    go more false h k = let r = more k in omega (arith, r, total-cons s rest)

module _ (segs : List Segment) (words : List ℕ) where
  -- so many steps are left from `at` of the chain from `s`
  abbrev pub IsLeft : ℕ → ℕ → ℕ → Type 0
  IsLeft step at s = follow (moved_in (file_store segs words)) (target_in (file_store segs words)) (length words - step) at ≡ final (file_store segs words) s

module _ (segs : List Segment) (words : List ℕ) (starts : StartMap) (k : AreKnown segs words starts) where
  pub named-below : (a n : ℕ) → word_in segs 0 a ≡ Some n → n < length words
  named-below a n e = omega (arith, word-below segs 0 a n e, k.all)

  pub start-below : (s : ℕ) → is_start ((file_store segs words).cell s) ≡ true → s + 1 < length words
  start-below s on = (start-read (word_in segs 0) words (length words) (chunks words) s (all-in_order words k.cut.cut) on).below

  pub moved-below : (s : ℕ) → moved_in (file_store segs words) s ≡ true → s + 1 < length words
  moved-below s on = start-below s (moved_starts ((file_store segs words).cell s) on)

  pub moved-within : (s : ℕ) → moved_in (file_store segs words) s ≡ true → s < length words
  moved-within s on = omega (arith, moved-below s on)

  -- a forwarder is told by the map and the header
  pub told_moved : (s : ℕ) (told : Bool) → told ≡ has_start starts s && nat_eq (class_of (get_or words s 0)) 8 → moved_in (file_store segs words) s ≡ told
  told_moved s told e =
      moved_is_told ((file_store segs words).cell s) (has_start starts s) (nat_eq (class_of (get_or words s 0)) 8) (k.marked s)
      (λ on. (start-read (word_in segs 0) words (length words) (chunks words) s (all-in_order words k.cut.cut) on).moved)
      ∙ sym e

  none-behind : (x : ℕ) → x ≡ length words → is_start ((file_store segs words).cell x) ≡ false
  none-behind x e = elim (cases_Bool (is_start ((file_store segs words).cell x))) [ inl on ↦ absurd (omega (arith, start-below x on, e)) | inr off ↦ off ]

  target-is : (s : ℕ) → moved_in (file_store segs words) s ≡ true → target_in (file_store segs words) s ≡ start_named (word_in segs 0) words (get_or words (s + 1) 0)
  target-is s on = (start-read (word_in segs 0) words (length words) (chunks words) s (all-in_order words k.cut.cut) (moved_starts ((file_store segs words).cell s) on)).target on

  pub target-some : (s n : ℕ) → moved_in (file_store segs words) s ≡ true → word_in segs 0 (get_or words (s + 1) 0) ≡ Some n → target_in (file_store segs words) s ≡ n
  target-some s n on e = target-is s on ∙ ap (λ o. unwrap_or o (length words)) e

  target-none : (s : ℕ) → moved_in (file_store segs words) s ≡ true → word_in segs 0 (get_or words (s + 1) 0) ≡ None → target_in (file_store segs words) s ≡ length words
  target-none s on e = target-is s on ∙ ap (λ o. unwrap_or o (length words)) e

  -- ---- following

  pub left-first : (s : ℕ) → IsLeft segs words 0 s s
  left-first s = let e : length words - 0 ≡ length words = omega arith in rw e (sym (final-is (file_store segs words) s))

  step-to : (step at s n : ℕ) → step < length words → moved_in (file_store segs words) at ≡ true → target_in (file_store segs words) at ≡ n → IsLeft segs words step at s → IsLeft segs words (step + 1) n s
  step-to step at s n l on t left =
      let h = file_store segs words in
      let e : length words - step ≡ suc (length words - (step + 1)) = omega arith in
      sym (ap (λ m. follow (moved_in h) (target_in h) m at) e ∙ follow-step (moved_in h) (target_in h) (length words - (step + 1)) at on ∙ ap (λ m. follow (moved_in h) (target_in h) (length words - (step + 1)) m) t) ∙ left

  pub left-next : (step at s n : ℕ) → step < length words → moved_in (file_store segs words) at ≡ true → word_in segs 0 (get_or words (at + 1) 0) ≡ Some n → IsLeft segs words step at s → IsLeft segs words (step + 1) n s
  left-next step at s n l on w left = step-to step at s n l on (target-some at n on w) left

  pub left-end : (step at s : ℕ) → moved_in (file_store segs words) at ≡ false → IsLeft segs words step at s → final (file_store segs words) s ≡ at
  left-end step at s off left = sym left ∙ follow-end (moved_in (file_store segs words)) (target_in (file_store segs words)) (length words - step) at off

  -- the word names a start that is no forwarder's: the chain ends there, in an object if the map has the start
  pub arrives : (step at s n : ℕ) → step < length words → moved_in (file_store segs words) at ≡ true → word_in segs 0 (get_or words (at + 1) 0) ≡ Some n → IsLeft segs words step at s
      → moved_in (file_store segs words) n ≡ false → (final (file_store segs words) s ≡ n) × (is_there ((file_store segs words).cell (final (file_store segs words) s)) ≡ has_start starts n)
  arrives step at s n l on w left off =
      let h = file_store segs words in
      let end = left-end (step + 1) n s off (left-next step at s n l on w left) in
      (end, ap (λ t. is_there (h.cell t)) end ∙ unmoved_is_there (h.cell n) off ∙ sym (k.marked n))

  -- the word names no place
  pub left-nowhere : (step at s : ℕ) → step < length words → moved_in (file_store segs words) at ≡ true → word_in segs 0 (get_or words (at + 1) 0) ≡ None → IsLeft segs words step at s
      → is_there ((file_store segs words).cell (final (file_store segs words) s)) ≡ false
  left-nowhere step at s l on w left =
      let h = file_store segs words in
      let none = none-behind (length words) refl in
      let e = left-end (step + 1) (length words) s (no_start_is_not_moved (h.cell (length words)) none) (step-to step at s (length words) l on (target-none at on w) left) in
      ap (λ t. is_there (h.cell t)) e ∙ no_start_is_not_there (h.cell (length words)) none

  -- as many steps as there are words lead to no end
  pub left-over : (step at s : ℕ) → length words ≤ step → moved_in (file_store segs words) at ≡ true → IsLeft segs words step at s → is_there ((file_store segs words).cell (final (file_store segs words) s)) ≡ false
  left-over step at s l on left =
      let h = file_store segs words in
      let e : length words - step ≡ 0 = omega arith in
      let here : final h s ≡ at = sym left ∙ ap (λ m. follow (moved_in h) (target_in h) m at) e ∙ follow-none (moved_in h) (target_in h) at in
      ap (λ t. is_there (h.cell t)) here ∙ moved_is_not_there (h.cell at) on

  -- ---- writing

  pub kept : (new : List ℕ) → AreShortened segs words new → AreKnown segs new starts
  kept new s = record {
    cut = s.cut;
    all = s.long ∙ k.all;
    marked = λ t. k.marked t ∙ sym (start-same (file_store segs words) (file_store segs new) s.store t);
    covers = k.covers ∙ sym s.long;
  }

  pub more : (b c : List ℕ) → AreShortened segs words b → AreShortened segs b c → AreShortened segs words c
  more b c p q = record {
    long = q.long ∙ p.long;
    cut = q.cut;
    store = shortens-more (file_store segs words) (file_store segs b) (file_store segs c) moved-within p.store q.store;
    words = λ j f. q.words j (λ s e. moved-same (file_store segs words) (file_store segs b) p.store s ∙ f s e) ∙ p.words j f;
    row = q.row ∙ p.row;
  }

  pub unchanged : AreShortened segs words words
  unchanged = record { long = refl; cut = k.cut; store = record { names = refl; starts = refl; to = refl; cells = λ s. inl refl }; words = λ j f. refl; row = refl }

  pub record Written (at e : ℕ) (new : List ℕ) : Type 0 where
    pub short : AreShortened segs words new
    pub cell : (t : ℕ) → (file_store segs new).cell t ≡ cond (nat_eq t at) (Moved e) ((file_store segs words).cell t)

  pub written : (at end e : ℕ) → moved_in (file_store segs words) at ≡ true → word_in segs 0 end ≡ Some e → e ≡ final (file_store segs words) at → Ends (file_store segs words) at
      → Written at e (set words (at + 1) end)
  written at end e on w is ends =
      let new = set words (at + 1) end in
      let h = file_store segs words in
      let r = target-written (word_in segs 0) words (length words) (chunks words) at end (all-in_order words k.cut.cut) (omega arith) on in
      let long : length new ≡ length words = length-set words (at + 1) end in
      let row : Cuts new 0 (length new) (chunks words) = subst (λ n. Cuts new 0 n (chunks words)) (sym long) (keeps-row words new 0 (length words) (chunks words) k.cut.cut r.kept) in
      let same : chunks new ≡ chunks words = chunks-are new (chunks words) row in
      let cell : (t : ℕ) → (file_store segs new).cell t ≡ cond (nat_eq t at) (Moved e) (h.cell t) = λ t.
      ap (λ cs. cell_in (word_in segs 0) new cs t) same ∙ r.cell t ∙ ap (λ n. cond (nat_eq t at) (Moved n) (h.cell t)) (ap (λ o. unwrap_or o (length words)) w) in
      let here : (t : ℕ) → t ≡ at → (file_store segs new).cell t ≡ Moved e = λ t q. cell t ∙ ap (λ b. cond b (Moved e) (h.cell t)) (eq-eqb t at q) in
      let other : (t : ℕ) → (t ≡ at → ⊥) → (file_store segs new).cell t ≡ h.cell t = λ t q. cell t ∙ ap (λ b. cond b (Moved e) (h.cell t)) (ne_eqb t at q) in
      record {
        short = record {
          long = long;
          cut = record {
            cut = subst (λ cs. Cuts new 0 (length new) cs) (sym same) row;
            formed = λ t there. elim (cases_eq t at) [
              | inl q ↦ absurd (false≢true (sym (ap is_there (here t q)) ∙ there))
              | inr q ↦ ap (λ x. is_formed (body_of x)) (other t q) ∙ k.cut.formed t (ap is_there (sym (other t q)) ∙ there)
            ];
          };
          store = record {
            names = long;
            starts = ap starts_of same;
            to = refl;
            cells = λ t. elim (cases_eq t at) [
              | inl q ↦ inr (record { moved = ap (moved_in h) q ∙ on; ends = subst (Ends h) (sym q) ends; is = here t q ∙ ap Moved (is ∙ ap (final h) (sym q)) })
              | inr q ↦ inl (other t q)
            ];
          };
          words = λ j f. elim (cases_eq j (at + 1)) [
            | inl q ↦ absurd (false≢true (sym (f at q) ∙ on))
            | inr q ↦ get_or-set_other words (at + 1) j end 0 q
          ];
          row = same;
        };
        cell = cell;
      }

-- ---- one step of shortening a chain of the words `first`, of which some are shortened already in `words`
module _ (segs : List Segment) (starts : StartMap) (first words : List ℕ) (k : AreKnown segs first starts) (p : AreShortened segs first words) (s at end : ℕ)
    (on : moved_in (file_store segs words) at ≡ true) (leads : final (file_store segs first) at ≡ final (file_store segs first) s)
    (ends : Ends (file_store segs first) s) (w : word_in segs 0 end ≡ Some (final (file_store segs first) s)) where
  old : AreKnown segs words starts
  old = kept segs first starts k words p

  ends-at : Ends (file_store segs first) at
  ends-at = ap (λ t. is_there ((file_store segs first).cell t)) leads ∙ ends

  leads-now : final (file_store segs words) at ≡ final (file_store segs first) s
  leads-now = forth (file_store segs first) (file_store segs words) p.store at ends-at ∙ leads

  ends-now : Ends (file_store segs words) at
  ends-now = ends-forth (file_store segs first) (file_store segs words) p.store at ends-at

  write : Written segs words starts old at (final (file_store segs first) s) (set words (at + 1) end)
  write = written segs words starts old at end (final (file_store segs first) s) on w (sym leads-now) ends-now

  pub step-short : AreShortened segs first (set words (at + 1) end)
  step-short = more segs first starts k words (set words (at + 1) end) p write.short

  pub step-known : AreKnown segs (set words (at + 1) end) starts
  step-known = kept segs first starts k (set words (at + 1) end) step-short

  pub step-leads : (n : ℕ) → word_in segs 0 (get_or words (at + 1) 0) ≡ Some n → final (file_store segs first) n ≡ final (file_store segs first) s
  step-leads n e =
      let h = file_store segs words in
      let next : final h n ≡ final h at = ap (final h) (sym (target-some segs words starts old at n on e)) ∙ final-next h at on ends-now in
      back (file_store segs first) h p.store (moved-within segs first starts k) n (ap (λ t. is_there (h.cell t)) next ∙ ends-now) ∙ next ∙ leads-now

  pub step-done : (step : ℕ) → (step ≡ 0 → at ≡ s) → (0 < step → (file_store segs words).cell s ≡ Moved (final (file_store segs first) s))
      → (file_store segs (set words (at + 1) end)).cell s ≡ Moved (final (file_store segs first) s)
  step-done step begun done = write.cell s ∙ elim (cases_eq s at) [
    | inl e ↦ rw (eq-eqb s at e) refl
    | inr n ↦ rw (ne_eqb s at n) (elim (cases_eq step 0) [
      | inl z ↦ absurd (n (sym (begun z)))
      | inr z ↦ done (omega (arith, z))
    ])
  ]

-- ---- all forwarders, one after another

-- the forwarder at `s`, if there is one, names the object to which it leads
abbrev pub IsDone : Store → Store → ℕ → Type 0
IsDone old new s = moved_in old s ≡ true → Ends old s × (new.cell s ≡ Moved (final old s))

both : (a b : Bool) → a && not b ≡ true → (a ≡ true) × (b ≡ false)
both true false e = (refl, refl)
both true true e = absurd (false≢true e)
both false b e = absurd (false≢true e)

module _ {segs : List Segment} {starts : StartMap} {first words : List ℕ} (k : AreKnown segs first starts) (p : AreShortened segs first words) where
  pub done-more : (new : List ℕ) → AreShortened segs words new → (t : ℕ) → IsDone (file_store segs first) (file_store segs words) t → IsDone (file_store segs first) (file_store segs new) t
  done-more new q t done on =
      let d = done on in (
        d.0,
        elim (q.store.cells t) [
          | inl e ↦ e ∙ d.1
          | inr r ↦ r.is ∙ ap Moved (forth (file_store segs first) (file_store segs words) p.store t d.0)
        ],
      )

  pub done-here : (new : List ℕ) (s : ℕ) → (moved_in (file_store segs words) s ≡ true → Ends (file_store segs words) s)
      → (moved_in (file_store segs words) s ≡ true → (file_store segs new).cell s ≡ Moved (final (file_store segs words) s)) → IsDone (file_store segs first) (file_store segs new) s
  done-here new s ends here on =
      let now = moved-same (file_store segs first) (file_store segs words) p.store s ∙ on in
      let e : Ends (file_store segs first) s = ends-back (file_store segs first) (file_store segs words) p.store (moved-within segs first starts k) s (ends now) in
      (e, here now ∙ ap Moved (forth (file_store segs first) (file_store segs words) p.store s e))

  pub done-next : (new : List ℕ) (s : ℕ) → AreShortened segs words new → ((t : ℕ) → t < s → IsDone (file_store segs first) (file_store segs words) t)
      → IsDone (file_store segs first) (file_store segs new) s → (t : ℕ) → t < s + 1 → IsDone (file_store segs first) (file_store segs new) t
  done-next new s q before here t l = elim (cases_eq t s) [
    | inl e ↦ subst (IsDone (file_store segs first) (file_store segs new)) (sym e) here
    | inr n ↦ done-more new q t (before t (omega (arith, n)))
  ]

  -- what is passed over is no forwarder, where the map has no start there
  pub done-before : (at to : ℕ) → ((t : ℕ) → t < at → IsDone (file_store segs first) (file_store segs words) t) → ((t : ℕ) → at ≤ t → t < to → has_start starts t ≡ false)
      → (t : ℕ) → t < to → IsDone (file_store segs first) (file_store segs words) t
  done-before at to done none t l = elim (cases_lt t at) [
    | inl low ↦ done t low
    | inr high ↦ λ on. absurd (false≢true (sym (no_start_is_not_moved ((file_store segs first).cell t) (sym (k.marked t) ∙ none t high l)) ∙ on))
  ]

  bad-first : (s : ℕ) → is_bad_forwarder (file_store segs words) s ≡ true → is_bad_forwarder (file_store segs first) s ≡ true
  bad-first s bad =
      let b = both (moved_in (file_store segs words) s) (is_there ((file_store segs words).cell (final (file_store segs words) s))) bad in
      let on : moved_in (file_store segs first) s ≡ true = sym (moved-same (file_store segs first) (file_store segs words) p.store s) ∙ b.0 in
      elim (cases_Bool (is_there ((file_store segs first).cell (final (file_store segs first) s)))) [
        | inl e ↦ absurd (false≢true (sym b.1 ∙ ends-forth (file_store segs first) (file_store segs words) p.store s e))
        | inr e ↦ rw (on, e) refl
      ]

  pub none-lost : (s n : ℕ) → ((t : ℕ) → t < s → IsDone (file_store segs first) (file_store segs words) t) → (b : IsLost (file_store segs first) n) → s ≤ b.0
  none-lost s n done b =
      let h = file_store segs first in
      let q = both (moved_in h b.0) (is_there (h.cell (final h b.0))) b.2 in
      elim (cases_lt b.0 s) [ inl l ↦ absurd (false≢true (sym q.1 ∙ (done b.0 l q.0).0)) | inr l ↦ l ]

  pub lost : (s : ℕ) → is_bad_forwarder (file_store segs words) s ≡ true → ((t : ℕ) → t < s → IsDone (file_store segs first) (file_store segs words) t) → IsLeast (IsLost (file_store segs first)) (s + 1)
  lost s bad done = record {
    is = (s, refl, bad-first s bad);
    none = λ m low b. omega (arith, none-lost s m done b, b.1);
  }

  -- no forwarder is left behind the last start
  pub done-all : (at : ℕ) → ((t : ℕ) → t < at → IsDone (file_store segs first) (file_store segs words) t) → ((t : ℕ) → at ≤ t → t < covered starts → has_start starts t ≡ false)
      → (t : ℕ) → t < length first → IsDone (file_store segs first) (file_store segs words) t
  done-all at done none = done-before at (length first) done (λ t from to. none t from (omega (arith, to, k.covers)))

  pub no-lost : ((t : ℕ) → t < length first → IsDone (file_store segs first) (file_store segs words) t) → (n : ℕ) → IsLost (file_store segs first) n → ⊥
  no-lost done n b =
      let h = file_store segs first in
      let q = both (moved_in h b.0) (is_there (h.cell (final h b.0))) b.2 in
      omega (arith, none-lost (length first) n done b, moved-within segs first starts k b.0 q.0)

  pub resolved : ((t : ℕ) → t < length first → IsDone (file_store segs first) (file_store segs words) t) → IsResolved (file_store segs first) (file_store segs words)
  resolved done = record {
    names = p.store.names;
    starts = p.store.starts;
    to = p.store.to;
    cells = λ t. elim (cases_Bool (moved_in (file_store segs first) t)) [
      | inl on ↦ rw on ((done t (moved-within segs first starts k t on) on).1)
      | inr off ↦ rw off (elim (p.store.cells t) [ inl e ↦ e | inr q ↦ absurd (false≢true (sym off ∙ q.moved)) ])
    ];
  }
