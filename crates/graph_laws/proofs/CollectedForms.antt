-- A full collection leads from a closed graph to a closed one.
use Rattle.std.proofs.Common.{◌≡◌, ℕ, Bool, true, false, cond, ◌==◌, if◌then◌else◌, [], ◌++◌, map, take, drop, get_or, refl, sym, ap, ◌∙◌, subst, Some, None}
use Rattle.std.proofs.lemmas.Bool.{false≢true, eqb-true}
use Rattle.std.proofs.lemmas.List.Elements.{All-nil, All-append, All-take, All-drop, All-map, Contains-get_or}
use Rattle.std.specs.Option.{option_map}
use Rattle.std.specs.List.{All}
use Rattle.std.specs.FinMap.{get}
use Rattle.object_header.specs.Formats.{is_method}
use Rattle.spur_graph.specs.declared.answer.Value.{Value}
use Rattle.spur_graph.specs.declared.answer.Value.TheVariants.{Ref}
use Rattle.spur_graph.specs.Value.{IsValue}
use Rattle.spur_graph.specs.Node.{Node, IsNode, is_raw}
use Rattle.spur_graph.specs.Graph.{Graph, waiting}
use Rattle.spur_graph.specs.Live.{Live, EntryNames, Mourns, strong_count, weak_values}
use Rattle.spur_graph.specs.Rounds.{Decides, names_dead, without_dead, swept, Collect}
use Rattle.graph_laws.proofs.Sweeping.{get-swept}
use Rattle.graph_laws.proofs.Surviving.{was-there, root_lives}
use Rattle.graph_laws.proofs.Forms.{HasForms, rounds-forms}

module _ (g : Graph) (live : ℕ → Bool) (n : Node) where
  -- a value that is nil now where it named a dead name
  abbrev nilled : Value → Value
  nilled v = if names_dead live v then Ref g.nil else v

  nilled-value : (v : Value) → IsValue v → IsValue (nilled v)
  nilled-value v is = by (names_dead live v)
    where
      by : (b : Bool) → IsValue (if b then Ref g.nil else v)
      by true = tt
      by false = is

  abbrev weakened : Node
  weakened = record n { pointers = take (strong_count g n) n.pointers ++ map nilled (weak_values g n) }

  kept-values : IsNode n → All IsValue weakened.pointers
  kept-values k = All-append IsValue (take (strong_count g n) n.pointers) (map nilled (weak_values g n))
      (All-take IsValue (strong_count g n) n.pointers k.values)
      (All-map IsValue nilled (weak_values g n) (λ i d l. nilled-value (get_or (weak_values g n) i d) (weak i d l)))
    where
      by : (b : Bool) → All IsValue (if b then drop (strong_count g n) n.pointers else [])
      by true = All-drop IsValue (strong_count g n) n.pointers k.values
      by false = All-nil IsValue

      weak : All IsValue (weak_values g n)
      weak = by (n.format == 4)

  kept-node : IsNode n → IsNode (without_dead g live n)
  kept-node k = by (n.format == 4) refl
    where
      by : (b : Bool) → (n.format == 4) ≡ b → IsNode (if b then weakened else n)
      by true four = record {
        class_index = k.class_index;
        hash_bits = k.hash_bits;
        known_format = k.known_format;
        no_pointers = λ raw. absurd (false≢true (sym (ap is_raw (eqb-true n.format 4 four)) ∙ raw));
        no_units = k.no_units;
        whole_words = k.whole_words;
        literals = λ method. absurd (false≢true (sym (ap is_method (eqb-true n.format 4 four)) ∙ method));
        values = kept-values k;
        unit_range = k.unit_range;
      }
      by false other = k

  kept-hash : (without_dead g live n).hash ≡ n.hash
  kept-hash = by (n.format == 4)
    where
      by : (b : Bool) → (if b then weakened else n).hash ≡ n.hash
      by true = refl
      by false = refl

  kept-format : (without_dead g live n).format ≡ n.format
  kept-format = by (n.format == 4)
    where
      by : (b : Bool) → (if b then weakened else n).format ≡ n.format
      by true = refl
      by false = refl

module _ {g : Graph} (k : HasForms g) (f live : ℕ → Bool) (exact : Decides live (Live g f)) where
  still : (a : ℕ) (n : Node) → get g.nodes a ≡ Some n → live a ≡ true → get (swept live g).nodes a ≡ Some (without_dead g live n)
  still a n there lives = get-swept g live a ∙ (λ i. option_map (without_dead g live) (cond (lives i) (there i) None))

  swept-forms : HasForms (swept live g)
  swept-forms = record {
    nodes = λ a n e.
        let was = was-there g f live exact a n e in
        subst IsNode was.3 (kept-node g live was.0 (k.nodes a was.0 was.1));
    special = k.special;
    entered = λ i v e.
        let at = k.entered i v e in
        let class = (at.2).class in (
          at.0,
          at.1,
          record {
            class = without_dead g live class;
            there = still at.0 class (at.2).there (root_lives g f live exact at.0 (EntryNames i at.0 (e ∙ ap Some at.1)));
            hashed = λ none. (at.2).hashed (sym (kept-hash g live class) ∙ none);
            entry = ap (get g.classes) (kept-hash g live class) ∙ (at.2).entry;
          },
        );
    values = k.values;
    groups = k.groups;
    fired = λ i d l.
        let a = get_or (waiting g) i d in
        let was = k.fired i d l in
        (without_dead g live was.0, still a was.0 was.1 (root_lives g f live exact a (Mourns a (Contains-get_or (waiting g) i d l))), kept-format g live was.0 ∙ was.2);
    apart = k.apart;
    state_bits = k.state_bits;
  }

pub collect-forms : {g : Graph} → HasForms g → (f : ℕ → Bool) (nilled fired : ℕ) (new : Graph) → Collect g f nilled fired new → HasForms new
collect-forms {g} k f nilled fired new c = subst HasForms (sym c.graph) (swept-forms (rounds-forms f g fired c.mid c.rounds k) f c.live c.exact)
