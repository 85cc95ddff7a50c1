-- Places in the file and in the region, part by part.
use Rattle.std.proofs.Common.{◌≡◌, ℕ, cond, ltb, ◌+◌, ◌-◌, ◌<◌, ◌≤◌, ap, ◌∙◌}
use Rattle.std.proofs.lemmas.Bool.{lt-ltb, le-ltb}
use Rattle.spur_graph.specs.Heaps.{View}
use Rattle.image_save.specs.Saved.{cut, file_place, region_place}

module _ (v : View) where
  abbrev young : ℕ → ℕ
  young s = cond (ltb s (v.spaces.eden_at + v.spaces.eden_used)) (cut v + (s - v.spaces.eden_at)) (cut v + v.spaces.eden_used + (s - v.spaces.past_at))

  pub file_old : (s : ℕ) → s < cut v → file_place v s ≡ s
  unfolding file_place
  file_old s l = ap (λ b. cond b s (young s)) (lt-ltb s (cut v) l)

  pub file_eden : (s : ℕ) → cut v ≤ s → s < v.spaces.eden_at + v.spaces.eden_used → file_place v s ≡ cut v + (s - v.spaces.eden_at)
  unfolding file_place
  file_eden s a b = ap (λ b. cond b s (young s)) (le-ltb s (cut v) a) ∙ ap (λ b. cond b (cut v + (s - v.spaces.eden_at)) (cut v + v.spaces.eden_used + (s - v.spaces.past_at))) (lt-ltb s (v.spaces.eden_at + v.spaces.eden_used) b)

  pub file_past : (s : ℕ) → cut v ≤ s → v.spaces.eden_at + v.spaces.eden_used ≤ s → file_place v s ≡ cut v + v.spaces.eden_used + (s - v.spaces.past_at)
  unfolding file_place
  file_past s a b = ap (λ b. cond b s (young s)) (le-ltb s (cut v) a) ∙ ap (λ b. cond b (cut v + (s - v.spaces.eden_at)) (cut v + v.spaces.eden_used + (s - v.spaces.past_at))) (le-ltb s (v.spaces.eden_at + v.spaces.eden_used) b)

  abbrev later : ℕ → ℕ
  later i = cond (ltb i (cut v + v.spaces.eden_used)) (v.spaces.eden_at + (i - cut v)) (v.spaces.past_at + (i - (cut v + v.spaces.eden_used)))

  pub region_old : (i : ℕ) → i < cut v → region_place v i ≡ i
  unfolding region_place
  region_old i l = ap (λ b. cond b i (later i)) (lt-ltb i (cut v) l)

  pub region_eden : (i : ℕ) → cut v ≤ i → i < cut v + v.spaces.eden_used → region_place v i ≡ v.spaces.eden_at + (i - cut v)
  unfolding region_place
  region_eden i a b = ap (λ b. cond b i (later i)) (le-ltb i (cut v) a) ∙ ap (λ b. cond b (v.spaces.eden_at + (i - cut v)) (v.spaces.past_at + (i - (cut v + v.spaces.eden_used)))) (lt-ltb i (cut v + v.spaces.eden_used) b)

  pub region_past : (i : ℕ) → cut v ≤ i → cut v + v.spaces.eden_used ≤ i → region_place v i ≡ v.spaces.past_at + (i - (cut v + v.spaces.eden_used))
  unfolding region_place
  region_past i a b = ap (λ b. cond b i (later i)) (le-ltb i (cut v) a) ∙ ap (λ b. cond b (v.spaces.eden_at + (i - cut v)) (v.spaces.past_at + (i - (cut v + v.spaces.eden_used)))) (le-ltb i (cut v + v.spaces.eden_used) b)
