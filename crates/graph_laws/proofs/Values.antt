-- What graphs that differ in names alone have of a value, a node and a handle.
use Rattle.std.proofs.Common.{◌≡◌, ℕ, ◌-◌, zero, suc, Bool, false, not, ◌==◌, ◌&&◌, ◌||◌, if◌then◌else◌, nat_eq, List, [], ◌∷◌, map, get_or, refl, sym, ap, ◌∙◌, inl, inr, Some, None, Option}
use Rattle.std.proofs.lemmas.Bool.{cases_eq, eq-eqb, ne_eqb, true≢false}
use Rattle.std.specs.Prelude.{pos}
use Rattle.std.specs.Option.{unwrap_or, option_map, is_some, is_none}
use Rattle.std.specs.List.{find, range_with_len}
use Rattle.std.specs.FinMap.{get}
use Rattle.spur_graph.specs.declared.answer.Value.{Value}
use Rattle.spur_graph.specs.declared.answer.Value.TheVariants.{Int, Char, Float, Ref}
use Rattle.spur_graph.specs.declared.answer.Shown.TheVariants as shows
use Rattle.spur_graph.specs.Value.{named_by, is_immediate, same_value}
use Rattle.spur_graph.specs.Node.{Node}
use Rattle.spur_graph.specs.Graph.{Graph, blank, node, held}
use Rattle.spur_graph.specs.Names.{Iso, rename, rename_node}
use Rattle.spur_graph.specs.Bytes.{Text}
use Rattle.spur_graph.specs.State.{value_at, name_at, node_of_handle}
use Rattle.spur_graph.specs.Shows.{shown}
use Rattle.spur_graph.specs.Classes.{class_index, class_value}
use Rattle.spur_graph.specs.Ordinary.{class_limit}
use Rattle.spur_graph.specs.Instances.{is_entry, has_entered, number_of, layout_of, layout_in, is_layout, has_instances}
use Rattle.spur_graph.specs.Hashes.{first_entered, free_index}
use Rattle.spur_graph.specs.Refusals.{is_special}

pub immediate-renamed : (p : ℕ → ℕ) (v : Value) → is_immediate (rename p v) ≡ is_immediate v
immediate-renamed p (Int n) = refl
immediate-renamed p (Char n) = refl
immediate-renamed p (Float w) = refl
immediate-renamed p (Ref a) = refl

-- a value that is no immediate has a name, and under other names the other one
named-renamed : (p : ℕ → ℕ) (v : Value) → is_immediate v ≡ false → unwrap_or (named_by (rename p v)) 0 ≡ p (unwrap_or (named_by v) 0)
named-renamed p (Int n) e = absurd (true≢false e)
named-renamed p (Char n) e = absurd (true≢false e)
named-renamed p (Float w) e = absurd (true≢false e)
named-renamed p (Ref a) e = refl

value_or-renamed : (p : ℕ → ℕ) (o : Option Value) (a b : ℕ) → b ≡ p a → unwrap_or (option_map (rename p) o) (Ref b) ≡ rename p (unwrap_or o (Ref a))
value_or-renamed p None a b e = ap Ref e
value_or-renamed p (Some v) a b e = refl

node_or-renamed : (p : ℕ → ℕ) (o : Option Node) → unwrap_or (option_map (rename_node p) o) blank ≡ rename_node p (unwrap_or o blank)
node_or-renamed p None = refl
node_or-renamed p (Some n) = refl

-- what has a way back takes two numbers to one where they are one
pub one_to_one : (p back : ℕ → ℕ) → ((a : ℕ) → back (p a) ≡ a) → (a b : ℕ) → p a ≡ p b → a ≡ b
one_to_one p back left a b e = sym (left a) ∙ ap back e ∙ left b

pub same_number : (p back : ℕ → ℕ) → ((a : ℕ) → back (p a) ≡ a) → (a b : ℕ) → (p a == p b) ≡ (a == b)
same_number p back left a b = elim (cases_eq a b) [
  | inl e ↦ eq-eqb (p a) (p b) (ap p e) ∙ sym (eq-eqb a b e)
  | inr n ↦ ne_eqb (p a) (p b) (λ e. n (one_to_one p back left a b e)) ∙ sym (ne_eqb a b n)
]

module _ {G H : Graph} {p back : ℕ → ℕ} (k : Iso G H p back) where
  -- two names are one where the names for them are
  pub same_name : (a b : ℕ) → (p a == p b) ≡ (a == b)
  same_name a b = same_number p back k.left a b

  pub same_value-renamed : (v w : Value) → same_value (rename p v) (rename p w) ≡ same_value v w
  same_value-renamed (Int m) (Int n) = refl
  same_value-renamed (Char m) (Char n) = refl
  same_value-renamed (Float m) (Float n) = refl
  same_value-renamed (Ref a) (Ref b) = same_name a b
  same_value-renamed v w = refl

  -- the node of a name
  pub node-renamed : (a : ℕ) → node H (p a) ≡ rename_node p (node G a)
  node-renamed a = ap (λ o. unwrap_or o blank) (k.nodes a) ∙ node_or-renamed p (get G.nodes a)

  -- the value of a handle
  pub value_at-renamed : (m : ℕ) (h : Text) → value_at H m h ≡ rename p (value_at G m h)
  value_at-renamed m h = ap (λ o. unwrap_or o (Ref H.nil)) (k.handles (m, h)) ∙ value_or-renamed p (held G m h) G.nil H.nil k.nil

  -- the name that it names, where it is no immediate
  pub name_at-renamed : (m : ℕ) (h : Text) → is_immediate (value_at G m h) ≡ false → name_at H m h ≡ p (name_at G m h)
  name_at-renamed m h e = ap (λ v. unwrap_or (named_by v) 0) (value_at-renamed m h) ∙ named-renamed p (value_at G m h) e

  pub node_of_handle-renamed : (m : ℕ) (h : Text) → is_immediate (value_at G m h) ≡ false → node_of_handle H m h ≡ rename_node p (node_of_handle G m h)
  node_of_handle-renamed m h e = ap (node H) (name_at-renamed m h e) ∙ node-renamed (name_at G m h)

  special_name : (a x y : ℕ) → x ≡ p y → (p a == x) ≡ (a == y)
  special_name a x y e = ap (λ z. p a == z) e ∙ same_name a y

  -- what `kind` shows
  pub shown-renamed : (v : Value) → shown H (rename p v) ≡ shown G v
  shown-renamed (Int n) = refl
  shown-renamed (Char n) = refl
  shown-renamed (Float w) = refl
  shown-renamed (Ref a) = λ i.
      if special_name a H.nil G.nil k.nil i then shows.Nil
      else if special_name a H.no G.no k.no i then shows.No
      else if special_name a H.yes G.yes k.yes i then shows.Yes
      else shows.Object (node-renamed a i).class (node-renamed a i).format

  class_index-renamed : (v : Value) → class_index H (rename p v) ≡ class_index G v
  class_index-renamed (Int n) = refl
  class_index-renamed (Char n) = refl
  class_index-renamed (Float w) = refl
  class_index-renamed (Ref a) = ap (λ (n : Node). n.class) (node-renamed a)

  -- the class of a value
  pub class_value-renamed : (v : Value) → class_value H (rename p v) ≡ rename p (class_value G v)
  class_value-renamed v =
      ap (λ i. unwrap_or (get H.classes i) (Ref H.nil)) (class_index-renamed v)
      ∙ ap (λ o. unwrap_or o (Ref H.nil)) (k.classes (class_index G v))
      ∙ value_or-renamed p (get G.classes (class_index G v)) G.nil H.nil k.nil

-- a SmallInteger is one under other names, and no other value is
number-renamed : (p : ℕ → ℕ) (v : Value) → number_of (rename p v) ≡ number_of v
number-renamed p (Int n) = refl
number-renamed p (Char n) = refl
number-renamed p (Float w) = refl
number-renamed p (Ref a) = refl

slot_number : (p : ℕ → ℕ) (xs : List Value) (i : ℕ) → number_of (get_or (map (rename p) xs) i (Ref 0)) ≡ number_of (get_or xs i (Ref 0))
slot_number p [] i = refl
slot_number p (x ∷ xs) zero = number-renamed p x
slot_number p (x ∷ xs) (suc i) = slot_number p xs i

pub layout_of-renamed : (p : ℕ → ℕ) (n : Node) → layout_of (rename_node p n) ≡ layout_of n
layout_of-renamed p n = slot_number p n.pointers 2

pub layout_in-renamed : (p : ℕ → ℕ) (n : Node) → layout_in (rename_node p n) ≡ layout_in n
layout_in-renamed p n = ap (λ o. unwrap_or o (pos 0)) (layout_of-renamed p n)

-- tests that agree find the same in a list
find-agree : {X : Type 0} (f g : X → Bool) → ((x : X) → f x ≡ g x) → (xs : List X) → find f xs ≡ find g xs
find-agree f g same [] = refl
find-agree f g same (x ∷ xs) = λ i. if same x i then Some x else find-agree f g same xs i

pub none-mapped : {X Y : Type 0} (f : X → Y) (o : Option X) → is_none (option_map f o) ≡ is_none o
none-mapped f None = refl
none-mapped f (Some x) = refl

module _ {G H : Graph} {p back : ℕ → ℕ} (k : Iso G H p back) where
  entry-renamed : (a : ℕ) (o : Option Value) → is_entry (p a) (option_map (rename p) o) ≡ is_entry a o
  entry-renamed a None = refl
  entry-renamed a (Some v) = same_value-renamed k v (Ref a)

  pub has_entered-renamed : (a : ℕ) → has_entered H (p a) ≡ has_entered G a
  has_entered-renamed a =
      ap (λ (n : Node). not (nat_eq n.hash 0) && is_entry (p a) (get H.classes n.hash)) (node-renamed k a)
      ∙ ap (λ o. not (nat_eq (node G a).hash 0) && is_entry (p a) o) (k.classes (node G a).hash)
      ∙ ap (λ b. not (nat_eq (node G a).hash 0) && b) (entry-renamed a (get G.classes (node G a).hash))

  pub has_instances-renamed : (a : ℕ) → has_instances H (p a) ≡ has_instances G a
  has_instances-renamed a = λ i.
      has_entered-renamed a i
      && is_some ((ap layout_of (node-renamed k a) ∙ layout_of-renamed p (node G a)) i)
      && is_layout ((ap layout_in (node-renamed k a) ∙ layout_in-renamed p (node G a)) i)

  pub is_special-renamed : (a : ℕ) → is_special H (p a) ≡ is_special G a
  is_special-renamed a = λ i. special_name k a H.nil G.nil k.nil i || special_name k a H.no G.no k.no i || special_name k a H.yes G.yes k.yes i

  -- the same index is free
  pub free_index-renamed : free_index H ≡ free_index G
  unfolding free_index
  free_index-renamed =
      ap (λ o. unwrap_or o class_limit) (find-agree (λ i. is_none (get H.classes i)) (λ i. is_none (get G.classes i))
      (λ i. ap is_none (k.classes i) ∙ none-mapped (rename p) (get G.classes i)) (range_with_len first_entered (class_limit - first_entered)))
