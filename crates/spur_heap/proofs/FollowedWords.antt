-- A word and the word to which it is followed: both lead to one object, and the second names no forwarder.
use Rattle.std.proofs.Common.{◌≡◌, ◌≢◌, ℕ, true, cond, ◌/◌, ◌%◌, refl, sym, ap, ◌∙◌, subst, inl, inr, Some, None}
use Rattle.std.proofs.lemmas.Bool.{false≢true, cases_eq, ne_eqb}
use Rattle.spur_graph.specs.Cells.{Cell, Empty, Moved, There, is_start, is_moved, is_there, final, lead}
use Rattle.spur_graph.specs.Ordinary.{passes}
use Rattle.spur_graph.specs.Heaps.{View, store_of, heap_value}
use Rattle.heap_cells.specs.Settled.{settled_word, word_of}
use Rattle.heap_cells.proofs.CellKinds.{there_is_not_moved}
use Rattle.heap_cells.proofs.Internals.{heap-named}
use Rattle.heap_cells.proofs.References.{ordinary_there}
use Rattle.spur_heap.specs.Words.{AreSound, is_good}
use Rattle.spur_heap.specs.Following.{is_forwarder, IsFollowed, Follows}
use Rattle.spur_heap.proofs.Following.{own_lead, good_reference, stays, leads}
use Rattle.spur_heap.proofs.Hops.{reference_named}

-- where nothing is written
pub follows_same : (v : View) → Follows v v
follows_same v = record {
  graph = refl;
  room = refl;
  values = λ w. refl;
  goods = λ w. refl;
  ordinary = λ s. refl;
  objects = λ s. refl;
  forwarders = λ s. refl;
  nodes = λ s. refl;
  starts = refl;
  marks = λ s e. refl;
  long = refl;
  rest = refl;
  slots = λ s i e. e;
  entries = λ i e. e;
  held = λ h e. e;
  special = λ e. e;
  mourners = λ k e. e;
}

-- what starts is an object or a forwarder
pub starts_by : (x y : Cell) → is_there x ≡ is_there y → is_moved x ≡ is_moved y → is_start y ≡ true → is_start x ≡ true
starts_by Empty Empty there moved on = on
starts_by Empty (Moved t) there moved on = absurd (false≢true moved)
starts_by Empty (There b) there moved on = absurd (false≢true there)
starts_by (Moved t) y there moved on = refl
starts_by (There b) y there moved on = refl

-- where more is followed
pub follows_then : (a b c : View) → Follows a b → Follows b c → Follows a c
follows_then a b c k m = record {
  graph = m.graph ∙ k.graph;
  room = m.room ∙ k.room;
  values = λ w. m.values w ∙ k.values w;
  goods = λ w. m.goods w ∙ k.goods w;
  ordinary = λ s. m.ordinary s ∙ k.ordinary s;
  objects = λ s. m.objects s ∙ k.objects s;
  forwarders = λ s. m.forwarders s ∙ k.forwarders s;
  nodes = λ s. m.nodes s ∙ k.nodes s;
  starts = m.starts ∙ k.starts;
  marks = λ s e. m.marks s (starts_by ((store_of b).cell s) ((store_of a).cell s) (k.objects s) (k.forwarders s) e) ∙ k.marks s e;
  long = m.long ∙ k.long;
  rest = m.rest ∙ (λ x. record (k.rest x) { words = c.words; special = c.special; handles = c.handles; mourners = c.mourners });
  slots = λ s i e. m.slots s i (k.slots s i e);
  entries = λ i e. m.entries i (k.entries i e);
  held = λ h e. m.held h (k.held h e);
  special = λ e. m.special (k.special e);
  mourners = λ i e. m.mourners i (k.mourners i e);
}

-- what is no reference names no forwarder, nor does the word of an object
pub loose_followed : (v : View) (word : ℕ) → word % 8 ≢ 0 → IsFollowed v word
loose_followed v word n = ap (λ b. passes (is_forwarder v) (cond b (Some (word / 8)) None)) (ne_eqb (word % 8) 0 n)

pub object_followed : (v : View) (s : ℕ) → is_there ((store_of v).cell s) ≡ true → IsFollowed v (word_of s)
object_followed v s there = ap (passes (is_forwarder v)) (heap-named s) ∙ there_is_not_moved ((store_of v).cell s) there

-- a word that leads where a good word leads, has its value, and names no forwarder
pub record Settles (v : View) (word result : ℕ) : Type 0 where
  pub good : is_good v result ≡ true
  pub leads : lead (store_of v) result ≡ lead (store_of v) word
  pub value : heap_value v result ≡ heap_value v word
  pub followed : IsFollowed v result
  pub loose : word % 8 ≢ 0 → result ≡ word

pub settles : (v : View) → AreSound v → (word result : ℕ) → is_good v word ≡ true → result ≡ settled_word (store_of v) word → Settles v word result
settles v k word result good is = elim (cases_eq (word % 8) 0) [
  | inr n ↦
      let f = stays v k word good n in
      let same : result ≡ word = is ∙ sym f.followed in
      record { good = ap (is_good v) same ∙ good; leads = ap (lead (store_of v)) same; value = ap (heap_value v) same; followed = subst (IsFollowed v) (sym same) (loose_followed v word n); loose = λ m. same }
  | inl z ↦
      let f = leads v k word good z in
      let n = reference_named v k word (good_reference v k word good z) in
      let t : ℕ = final (store_of v) (word / 8) in
      let same : result ≡ word_of t = is ∙ sym f.followed in
      record {
        good = ap (is_good v) same ∙ f.good;
        leads = ap (lead (store_of v)) same ∙ own_lead v t n.ordinary ∙ sym n.leads;
        value = ap (heap_value v) same ∙ f.value;
        followed = subst (IsFollowed v) (sym same) (object_followed v t (ordinary_there (store_of v) t n.ordinary));
        loose = λ m. absurd (m z);
      }
]
