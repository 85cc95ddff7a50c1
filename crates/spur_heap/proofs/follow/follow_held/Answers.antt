use Rattle.std.proofs.Common.{◌≡◌, ℕ, true, ◌+◌, ◌<◌, List, map, length, get_or, set, add-one, sym, ap, ◌∙◌, arith}
use Rattle.spur_graph.specs.Cells.{Store}
use Rattle.spur_graph.specs.Ordinary.{is_good_word}
use Rattle.spur_graph.specs.Heaps.{store_of}
use Rattle.heap_cells.specs.Settled.{settled_word, map_front}
use Rattle.heap_cells.proofs.Fronts.{length-front}
use Rattle.spur_heap.specs.declared.heap.HeapParts.{HeapParts}
use Rattle.spur_heap.specs.Parts.{view_of}
use Rattle.spur_heap.specs.Words.{is_good}
use Rattle.spur_heap.specs.Following.{HasGoodWords}
use Rattle.spur_heap.proofs.WordsMapped.{front-next, front-set, front-all}
use Rattle.spur_heap.proofs.follow.follow_held.Goals as goal

-- the parts whose handles have these words
abbrev with_words : HeapParts → List ℕ → HeapParts
with_words p words = record p { handles = record p.handles { words = words } }

-- the words of the first handles are followed
module _ (p q : HeapParts) (i : ℕ) (is : q ≡ with_words p (map_front (settled_word (store_of (view_of p))) i p.handles.words)) where
  abbrev f : ℕ → ℕ
  f = settled_word (store_of (view_of p))

  abbrev words : List ℕ
  words = p.handles.words

  now : q.handles.words ≡ map_front f i words
  now = ap (λ (r : HeapParts). r.handles.words) is

  same_store : store_of (view_of q) ≡ store_of (view_of p)
  same_store = ap (λ (r : HeapParts). store_of (view_of r)) is

  same_length : length q.handles.words ≡ length words
  same_length = ap length now ∙ length-front f i words

  next : get_or q.handles.words i 0 ≡ get_or words i 0
  next = ap (λ ws. get_or ws i 0) now ∙ front-next f i words

  next_good : HasGoodWords (view_of p) words → i < length words → (word : ℕ) → word ≡ get_or q.handles.words i 0 → is_good (view_of q) word ≡ true
  next_good good l word e = ap (λ (h : Store). is_good_word h word) same_store ∙ ap (is_good (view_of p)) (e ∙ next) ∙ good i l

  step : i < length words → (r : HeapParts) (word : ℕ) → word ≡ settled_word (store_of (view_of q)) (get_or q.handles.words i 0) → r ≡ with_words q (set q.handles.words i word) → r ≡ with_words p (map_front f (i + 1) words)
  step l r word e then =
      let followed : word ≡ f (get_or words i 0) = e ∙ (λ x. settled_word (same_store x) (next x)) in
      let one : set q.handles.words i word ≡ map_front f (i + 1) words = (λ x. set (now x) i (followed x)) ∙ front-set f i words l ∙ ap (λ n. map_front f n words) (sym (add-one i)) in
      then ∙ (λ x. with_words (is x) (one x))

  end : length words ≡ i → q ≡ with_words p (map f words)
  end all = is ∙ ap (with_words p) (ap (λ n. map_front f n words) (sym all) ∙ front-all f words)

pub bounds-words-i : goal.bounds-words-i
bounds-words-i c =
    let long = same_length c.args.parts.now c.handles.parts c.handles.i c.handles.invariant in
    let read : length c.words.result.now ≡ length c.handles.parts.handles.words = ap length c.words.ensures.words in
    omega (arith, c.handles-test.true, c.len-i-end.ensures.words, long, read)

pub follow_word-word-requires-clause-good : goal.follow_word-word-requires-clause-good
follow_word-word-requires-clause-good c =
    next_good c.args.parts.now c.handles.parts c.handles.i c.handles.invariant c.requires.good (omega (arith, c.handles-test.true, c.len-i-end.ensures.words)) (get_or c.words.result.now c.handles.i 0)
    (ap (λ ws. get_or ws c.handles.i 0) c.words.ensures.words)

pub put_word-requires : goal.put_word-requires
put_word-requires c =
    let long = same_length c.args.parts.now c.handles.parts c.handles.i c.handles.invariant in
    record { within = omega (arith, c.handles-test.true, c.len-i-end.ensures.words, long) }

pub handles-preserved : goal.handles-preserved
handles-preserved c =
    step c.args.parts.now c.handles.parts c.handles.i c.handles.invariant (omega (arith, c.handles-test.true, c.len-i-end.ensures.words)) (record c.handles.parts { handles = c.put_word.new.self }) c.follow_word-word.result
    (c.follow_word-word.ensures.followed ∙ ap (λ ws. settled_word (store_of (view_of c.handles.parts)) (get_or ws c.handles.i 0)) c.words.ensures.words)
    (ap (λ t. let r : HeapParts = record c.handles.parts { handles = t } in r) c.put_word.ensures)

pub returns : goal.returns
returns c =
    let low = c.handles-test.false in
    let most = c.handles.auto.i-end in
    end c.args.parts.now c.handles.parts c.handles.i c.handles.invariant (omega (arith, low, most, c.len-i-end.ensures.words))
