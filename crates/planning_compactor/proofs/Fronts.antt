-- The first entries of a table.
use Rattle.std.proofs.Common.{◌≡◌, ℕ, Bool, ◌+◌, ◌-◌, ◌*◌, ◌/◌, ◌<◌, ◌≤◌, List, [], length, take, sym, ap, ◌∙◌, subst, inl, inr, arith}
use Rattle.std.proofs.lemmas.List.{length-take-le, get_or-take}
use Rattle.planning_compactor.specs.Spans.{Gap}
use Rattle.heap_walk.specs.declared.saved.Saved.{Saved}
use Rattle.planning_compactor.specs.Entries.{entry, start_of}
use Rattle.heap_walk.specs.Shapes.{lead_at, place_at, words_at, end_at}
use Rattle.compaction_laws.specs.Compacting.{is_pinned}
use Rattle.planning_compactor.specs.Slid.{to_at, long_at}
use Rattle.planning_compactor.specs.Planning.{IsIn, IsAbsent, HasMoves, IsPlan}
use Rattle.planning_compactor.specs.Roots.{Roots, RootsMovedBy}
use Rattle.planning_compactor.proofs.Composed.{moved-none, roots-none}
use Rattle.planning_compactor.specs.Objects.{goes_to}
use Rattle.heap_laws.specs.Compaction.{MovedBy}

module _ (has : ℕ → Bool) (words : List ℕ) (low end : ℕ) (es es' : List Saved) (n : ℕ) (same : (k : ℕ) → k < n → entry es' k ≡ entry es k) where
  start : (k : ℕ) → k < n → start_of es' k ≡ start_of es k
  start k l = ap (λ (x : Saved). x.start) (same k l)

  to : (k : ℕ) → k < n → to_at es' words k ≡ to_at es words k
  to k l = ap (λ (x : Saved). x.first / 8 - lead_at words x.start) (same k l)

  tip : (k : ℕ) → k < n → to_at es' words k + long_at es' words k ≡ to_at es words k + long_at es words k
  tip k l = ap (λ (x : Saved). x.first / 8 - lead_at words x.start + words_at words x.start) (same k l)

  absent : (t : ℕ) → IsAbsent es' n t → IsAbsent es n t
  absent t a k l e = a k l (start k l ∙ e)

  pub moves-alike : (next : ℕ) → HasMoves has words low end es n next → HasMoves has words low end es' n next
  moves-alike next h = record {
    starts = λ k l. subst (IsIn has low end) (sym (start k l)) (h.starts k l);
    mobile = λ k l. ap (is_pinned words) (start k l) ∙ h.mobile k l;
    below = λ k l. let z = h.below k l in omega (arith, z, start k l);
    rising = λ j k l b. let z = h.rising j k l b in omega (arith, z, start j (omega (arith, l, b)), start k b);
    aim = λ k l. subst (λ (x : Saved). x.first ≡ 8 * (x.first / 8)) (sym (same k l)) (h.aim k l);
    room = λ k l. subst (λ (x : Saved). lead_at words x.start ≤ x.first / 8) (sym (same k l)) (h.room k l);
    down = λ k l. subst (λ (x : Saved). Gap (x.first / 8 - lead_at words x.start) (place_at words x.start)) (sym (same k l)) (h.down k l);
    floor = λ k l. subst (Gap low) (sym (to k l)) (h.floor k l);
    gaps = λ j k l b. let a : j < n = omega (arith, l, b) in subst (λ x. Gap x (to_at es' words k)) (sym (tip j a)) (subst (Gap (to_at es words j + long_at es words j)) (sym (to k b)) (h.gaps j k l b));
    clear = λ k s l i a. elim (h.clear k s l i (absent s a)) [ inl g ↦ inl (subst (Gap (end_at words s)) (sym (to k l)) g) | inr g ↦ inr (subst (λ x. Gap x (place_at words s)) (sym (tip k l)) g) ];
    known = λ t pos i a c f. let k = h.known t pos i (omega (arith, a, start 0 pos)) c f in (k.0, k.1, start k.0 k.1 ∙ k.2);
  }

  pub plan-alike : (next pin finger : ℕ) → IsPlan has words low end next pin finger es n → IsPlan has words low end next pin finger es' n
  plan-alike next pin finger p = record {
    inside = p.inside;
    floor = p.floor;
    coming = p.coming;
    ahead = p.ahead;
    behind = λ s i l a f. p.behind s i l (absent s a) f;
    moved = λ k l. subst (λ x. Gap x finger) (sym (tip k l)) (p.moved k l);
    later = p.later;
  }

pub front-same : (es : List Saved) (n k : ℕ) → k < n → entry (take n es) k ≡ entry es k
front-same es n k l = get_or-take n es k (record { start = 0; first = 0 }) l

pub front-moves : (has : ℕ → Bool) (words : List ℕ) (low end next : ℕ) (es : List Saved) (n : ℕ) → n ≤ length es → HasMoves has words low end es n next → HasMoves has words low end (take n es) (length (take n es)) next
front-moves has words low end next es n l h = subst (λ m. HasMoves has words low end (take n es) m next) (sym (length-take-le n es l)) (moves-alike has words low end es (take n es) n (front-same es n) next h)

pub front-plan : (has : ℕ → Bool) (words : List ℕ) (low end next pin finger : ℕ) (es : List Saved) (n : ℕ) → n ≤ length es → IsPlan has words low end next pin finger es n → IsPlan has words low end next pin finger (take n es) (length (take n es))
front-plan has words low end next pin finger es n l h = subst (IsPlan has words low end next pin finger (take n es)) (sym (length-take-le n es l)) (plan-alike has words low end es (take n es) n (front-same es n) next pin finger h)

-- an empty table moves nothing
pub none-moved : (has : ℕ → Bool) (words : List ℕ) → MovedBy (goes_to []) has has words words
unfolding goes_to
none-moved has words = moved-none has words

pub none-roots : (r : Roots) → RootsMovedBy (goes_to []) r r
unfolding goes_to
none-roots r = roots-none r
