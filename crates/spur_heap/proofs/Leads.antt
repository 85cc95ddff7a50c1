-- Where the words of references lead.
use Rattle.std.proofs.Common.{◌≡◌, ◌≢◌, inl, inr, ◌<◌, ◌*◌, ◌/◌, ◌%◌, ℕ, suc, true, false, cond, refl, ap, sym, ◌∙◌, Some, arith}
use Rattle.std.proofs.lemmas.Bool.{false≢true, or_cases}
use Rattle.std.specs.Option.{unwrap_or}
use Rattle.spur_graph.specs.declared.answer.Value.{Value}
use Rattle.spur_graph.specs.declared.answer.Value.TheVariants.{Int, Char, Float, Ref}
use Rattle.spur_graph.specs.Value.{name_of, is_immediate, is_immediate_word}
use Rattle.spur_graph.specs.Names.{rename}
use Rattle.spur_graph.specs.Cells.{Store, first, final, lead}
use Rattle.spur_graph.specs.Ordinary.{is_ordinary, is_good_reference}
use Rattle.spur_graph.specs.Heaps.{View, own_name, IsWhole, heap_value}
use Rattle.heap_cells.specs.Settled.{settled_word, word_of}
use Rattle.heap_cells.proofs.Below.{passed, mapped_there}
use Rattle.heap_cells.proofs.References.{not_immediate}
use Rattle.heap_cells.proofs.Values.{IsFixed, fixed, read-fixed, read-reference, reference-good}
use Rattle.spur_heap.specs.Views.{IsGood, IsOrdinary, store, follows}
use Rattle.spur_heap.proofs.Following.{own_value}
use Rattle.spur_heap.proofs.Pages.{word_named, outer_ordinary}
use Rattle.spur_heap.proofs.Puts.{whole_sound}

-- the object to which a reference leads
pub record Leads (v : View) (word : ℕ) : Type 0 where
  pub start : ℕ
  pub aligned : word % 8 ≡ 0
  pub ordinary : is_ordinary (store v) start ≡ true
  pub settled : settled_word (store v) word ≡ 8 * start
  pub value : heap_value v word ≡ Ref start

pub aligned_by : (v : View) (word s : ℕ) → lead (store v) word ≡ Some s → word % 8 ≡ 0
aligned_by v word s is =
    let to = mapped_there (final (store v)) ((store v).to word) s is in
    let named = word_named word to.0 to.1 in
    omega (arith, named.0)

pub reference_leads : (v : View) (word : ℕ) → is_good_reference (store v) word ≡ true → Leads v word
reference_leads v word good =
    let h : Store = store v in
    let p = passed (is_ordinary h) (lead h word) good in
    let z : word % 8 ≡ 0 = aligned_by v word p.one p.is in
    record {
      start = p.one;
      aligned = z;
      ordinary = p.holds;
      settled = ap (λ b. cond b word (cond (is_good_reference h word) (word_of (unwrap_or (lead h word) (first h 0))) (word_of (first h 0)))) (not_immediate word z)
          ∙ ap (λ b. cond b (word_of (unwrap_or (lead h word) (first h 0))) (word_of (first h 0))) good
          ∙ ap (λ o. word_of (unwrap_or o (first h 0))) p.is;
      value = read-reference own_name h word z ∙ reference-good own_name h word p.one good p.is;
    }

-- the value of the word of one of the first three chunks
pub root_value : (v : View) (w : IsWhole v) (j word : ℕ) → j < 3 → word ≡ word_of (first (store v) j) → heap_value v word ≡ Ref (first (store v) j)
root_value v w j word low is = ap (heap_value v) is ∙ own_value v (first (store v) j) (outer_ordinary v (whole_sound v w) j low)

pub root_start : (v : View) (j word start : ℕ) → word ≡ word_of (first (store v) j) → start ≡ word / 8 → start ≡ first (store v) j
root_start v j word start is same = omega (arith, is, same)

-- a good word that is no immediate is a reference
pub good_reference : (v : View) (word : ℕ) → IsGood v word → is_immediate_word word ≡ false → is_good_reference (store v) word ≡ true
good_reference v word good off = elim (or_cases (is_immediate_word word) (is_good_reference (store v) word) good) [
  | inl on ↦ absurd (false≢true (sym off ∙ on))
  | inr reference ↦ reference
]

-- a value without a name is an immediate
nameless : (x : Value) → ((p : ℕ → ℕ) → rename p x ≡ x) → is_immediate x ≡ true
nameless (Int n) same = refl
nameless (Char c) same = refl
nameless (Float w) same = refl
nameless (Ref a) same = let next : suc a ≡ a = ap name_of (same suc) in absurd (omega (arith, next))

-- a good word with a tag reads as an immediate
pub tagged_value : (v : View) (word : ℕ) → IsGood v word → word % 8 ≢ 0 → is_immediate (heap_value v word) ≡ true
tagged_value v word good tag = elim (or_cases (is_immediate_word word) (is_good_reference (store v) word) good) [
  | inl on ↦ let f : IsFixed word = fixed word on in ap is_immediate (read-fixed own_name (store v) word f) ∙ nameless f.value f.same
  | inr reference ↦ absurd (tag (reference_leads v word reference).aligned)
]

-- the object to which a good word without a tag leads, by the word followed
pub record LeadsTo (v : View) (word start : ℕ) : Type 0 where
  pub ordinary : IsOrdinary v start
  pub value : heap_value v word ≡ Ref start

pub untagged_leads : (v : View) (word followed : ℕ) → IsGood v word → word % 8 ≡ 0 → follows v word followed → LeadsTo v word (followed / 8)
untagged_leads v word followed good z is =
    let l = reference_leads v word (good_reference v word good (not_immediate word z)) in
    let one : l.start ≡ followed / 8 = omega (arith, is, l.settled) in
    record { ordinary = sym (ap (is_ordinary (store v)) one) ∙ l.ordinary; value = l.value ∙ ap (λ s. Ref s) one }
