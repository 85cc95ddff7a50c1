use Rattle.std.proofs.Common.{◌≡◌, ℕ, ◌+◌, ◌<◌, ◌≤◌, get_or}
use Rattle.spur_words.proofs.slide.slide_run.Given as goal

-- so many words are where they go, and no other word has changed
abbrev pub invariant-words : goal.invariant-words
invariant-words l = record {
  moved : (k : ℕ) → k < l.i → get_or l.words (l.to + k) 0 ≡ get_or l.initial.words (l.from + k) 0;
  below : (k : ℕ) → k < l.to → get_or l.words k 0 ≡ get_or l.initial.words k 0;
  above : (k : ℕ) → l.to + l.i ≤ k → get_or l.words k 0 ≡ get_or l.initial.words k 0;
}
