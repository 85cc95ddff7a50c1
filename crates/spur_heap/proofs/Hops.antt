-- Chains of forwarders in the words of a heap: where they lead, and how many steps are left.
use Rattle.std.proofs.Common.{◌≡◌, ◌≢◌, ℕ, suc, zero, Bool, true, false, cond, ◌+◌, ◌-◌, ◌/◌, ◌%◌, ◌<◌, ◌≤◌, length, get_or, refl, sym, ap, ◌∙◌, arith, inl, inr, Some, None}
use Rattle.std.proofs.lemmas.Bool.{false≢true, cases_Bool, cases_eq, eq-eqb, ne_eqb}
use Rattle.std.specs.Option.{unwrap_or, option_map}
use Rattle.object_header.specs.Head.{class_of}
use Rattle.spur_graph.specs.Chains.{follow, steps}
use Rattle.spur_graph.specs.Cells.{is_moved, is_there, target_of, final, lead}
use Rattle.spur_graph.specs.Ordinary.{is_ordinary, is_good_reference, passes}
use Rattle.spur_graph.specs.Heaps.{View, store_of, chunks_of, heap_to}
use Rattle.heap_cells.specs.Rows.{ReadsStart}
use Rattle.heap_cells.proofs.CellKinds.{there_starts, there_is_not_moved, moved_starts, moved_is, unmoved_is_there}
use Rattle.heap_cells.proofs.Chains.{follow-step, follow-none, follow-more, good_forwarder_ends, final-end}
use Rattle.heap_cells.proofs.References.{ordinary_there}
use Rattle.heap_cells.proofs.Starts.{start-read}
use Rattle.spur_heap.proofs.Orders.{order}
use Rattle.spur_heap.specs.Words.{AreSound, starts_at}

-- ---- chains, over any test of what has moved

module _ (moved : ℕ → Bool) (target : ℕ → ℕ) where
  steps-end : (n s : ℕ) → moved s ≡ false → steps moved target n s ≡ 0
  unfolding steps
  steps-end zero s e = refl
  steps-end (suc n) s e = ap (λ b. cond b (suc (steps moved target n (target s))) 0) e

  steps-step : (n s : ℕ) → moved s ≡ true → steps moved target (suc n) s ≡ suc (steps moved target n (target s))
  unfolding steps
  steps-step n s e = ap (λ b. cond b (suc (steps moved target n (target s))) 0) e

  -- no more steps are left than enough
  steps-more : (m n s : ℕ) → m ≤ n → moved (follow moved target m s) ≡ false → steps moved target n s ≡ steps moved target m s
  steps-more zero n s l e = let stop : moved s ≡ false = sym (ap moved (follow-none moved target s)) ∙ e in steps-end n s stop ∙ sym (steps-end zero s stop)
  steps-more (suc m) zero s l e = absurd (omega arith)
  steps-more (suc m) (suc n) s l e = elim (cases_Bool (moved s)) [
    | inl on ↦ steps-step n s on ∙ ap suc (steps-more m n (target s) (omega arith) (sym (ap moved (follow-step moved target m s on)) ∙ e)) ∙ sym (steps-step m s on)
    | inr off ↦ steps-end (suc n) s off ∙ sym (steps-end (suc m) s off)
  ]

-- ---- the chains of a heap

-- the steps that are left of the chain from a start on
pub hops : View → ℕ → ℕ
hops v s = steps (λ t. is_moved ((store_of v).cell t)) (λ t. target_of ((store_of v).cell t)) (length v.words) s

-- a word of a forwarder
pub record Hop (v : View) (s : ℕ) : Type 0 where
  pub aligned : get_or v.words (s + 1) 0 % 8 ≡ 0
  pub starts : starts_at v (get_or v.words (s + 1) 0 / 8) ≡ true
  pub same : final (store_of v) (get_or v.words (s + 1) 0 / 8) ≡ final (store_of v) s
  pub fewer : hops v (get_or v.words (s + 1) 0 / 8) < hops v s

module _ (v : View) (k : AreSound v) where
  pub start_at : (s : ℕ) → starts_at v s ≡ true → ReadsStart heap_to v.words (length v.words) (chunks_of v) s
  start_at s e = start-read heap_to v.words (length v.words) (chunks_of v) s (order v k) e

  -- the chain of a start ends in an object
  pub end_there : (s : ℕ) → starts_at v s ≡ true → is_there ((store_of v).cell (final (store_of v) s)) ≡ true
  end_there s e = elim (cases_Bool (is_moved ((store_of v).cell s))) [
    | inl on ↦ good_forwarder_ends (store_of v) s (k.sound.ends s) on
    | inr off ↦ ap (λ t. is_there ((store_of v).cell t)) (final-end (store_of v) s off) ∙ unmoved_is_there ((store_of v).cell s) off ∙ e
  ]

  target_there : (s : ℕ) → is_moved ((store_of v).cell s) ≡ true → starts_at v (target_of ((store_of v).cell s)) ≡ true
  target_there s on = k.sound.targets s (target_of ((store_of v).cell s)) (moved_is ((store_of v).cell s) on)

  -- the word of a forwarder names a start
  named : (s : ℕ) → is_moved ((store_of v).cell s) ≡ true → (get_or v.words (s + 1) 0 % 8 ≡ 0) × (target_of ((store_of v).cell s) ≡ get_or v.words (s + 1) 0 / 8)
  named s on =
      let r = start_at s (moved_starts ((store_of v).cell s) on) in
      let w : ℕ = get_or v.words (s + 1) 0 in
      let to : target_of ((store_of v).cell s) ≡ unwrap_or (heap_to w) (length v.words) = r.target on in
      elim (cases_eq (w % 8) 0) [
        | inl z ↦ (z, to ∙ ap (λ b. unwrap_or (cond b (Some (w / 8)) None) (length v.words)) (eq-eqb (w % 8) 0 z))
        | inr n ↦
            let far : target_of ((store_of v).cell s) ≡ length v.words = to ∙ ap (λ b. unwrap_or (cond b (Some (w / 8)) None) (length v.words)) (ne_eqb (w % 8) 0 n) in
            let low = (start_at (target_of ((store_of v).cell s)) (target_there s on)).below in
            absurd (omega (arith, far, low))
      ]

  pub hop_at : (s : ℕ) → is_moved ((store_of v).cell s) ≡ true → Hop v s
  unfolding final hops
  hop_at s on =
      let moved : ℕ → Bool = λ t. is_moved ((store_of v).cell t) in
      let target : ℕ → ℕ = λ t. target_of ((store_of v).cell t) in
      let start = moved_starts ((store_of v).cell s) on in
      let low = (start_at s start).below in
      let n : ℕ = length v.words - 1 in
      let one : length v.words ≡ suc n = omega (arith, low) in
      let t : ℕ = target s in
      let is = named s on in
      let step : follow moved target (length v.words) s ≡ follow moved target n t = ap (λ m. follow moved target m s) one ∙ follow-step moved target n s on in
      let stop : moved (follow moved target n t) ≡ false = sym (ap moved step) ∙ there_is_not_moved ((store_of v).cell (follow moved target (length v.words) s)) (end_there s start) in
      let same : follow moved target (length v.words) t ≡ follow moved target n t = follow-more moved target n (length v.words) t (omega arith) stop in
      let more : steps moved target (length v.words) t ≡ steps moved target n t = steps-more moved target n (length v.words) t (omega arith) stop in
      let count : steps moved target (length v.words) s ≡ suc (steps moved target n t) = ap (λ m. steps moved target m s) one ∙ steps-step moved target n s on in
      record {
        aligned = is.0;
        starts = ap (starts_at v) (sym is.1) ∙ target_there s on;
        same = ap (follow moved target (length v.words)) (sym is.1) ∙ same ∙ sym step;
        fewer = let a : steps moved target (length v.words) (get_or v.words (s + 1) 0 / 8) ≡ steps moved target (length v.words) t = ap (steps moved target (length v.words)) (sym is.1) in omega (arith, a, more, count);
      }

  -- ---- good words

  -- what a good reference names
  pub record Named (word : ℕ) : Type 0 where
    pub aligned : word % 8 ≡ 0
    pub starts : starts_at v (word / 8) ≡ true
    pub leads : lead (store_of v) word ≡ Some (final (store_of v) (word / 8))
    pub ordinary : is_ordinary (store_of v) (final (store_of v) (word / 8)) ≡ true

  pub reference_named : (word : ℕ) → is_good_reference (store_of v) word ≡ true → Named word
  reference_named word e = elim (cases_eq (word % 8) 0) [
    | inr n ↦ absurd (false≢true (sym (ap (λ b. passes (is_ordinary (store_of v)) (option_map (final (store_of v)) (cond b (Some (word / 8)) None))) (ne_eqb (word % 8) 0 n)) ∙ e))
    | inl z ↦
        let is : lead (store_of v) word ≡ Some (final (store_of v) (word / 8)) = ap (λ b. option_map (final (store_of v)) (cond b (Some (word / 8)) None)) (eq-eqb (word % 8) 0 z) in
        let good : is_ordinary (store_of v) (final (store_of v) (word / 8)) ≡ true = sym (ap (passes (is_ordinary (store_of v))) is) ∙ e in
        record {
          aligned = z;
          starts = elim (cases_Bool (is_moved ((store_of v).cell (word / 8)))) [
            | inl on ↦ moved_starts ((store_of v).cell (word / 8)) on
            | inr off ↦ there_starts ((store_of v).cell (word / 8)) (ordinary_there (store_of v) (word / 8) (sym (ap (is_ordinary (store_of v)) (final-end (store_of v) (word / 8) off)) ∙ good))
          ];
          leads = is;
          ordinary = good;
        }
  ]

  -- a header tells whether its chunk is a forwarder
  pub moved_by : (s class : ℕ) → starts_at v s ≡ true → class ≡ class_of (get_or v.words s 0) → class ≡ 8 → is_moved ((store_of v).cell s) ≡ true
  moved_by s class e is eight = (start_at s e).moved ∙ eq-eqb (class_of (get_or v.words s 0)) 8 (sym is ∙ eight)

  pub stays_by : (s class : ℕ) → starts_at v s ≡ true → class ≡ class_of (get_or v.words s 0) → class ≢ 8 → is_moved ((store_of v).cell s) ≡ false
  stays_by s class e is other = (start_at s e).moved ∙ ne_eqb (class_of (get_or v.words s 0)) 8 (λ eight. other (is ∙ eight))
