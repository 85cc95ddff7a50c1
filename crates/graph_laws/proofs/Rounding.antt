-- Rounds of ephemerons are the same under other names.
use Rattle.std.proofs.Common.{◌≡◌, ◌≢◌, ◌<◌, ◌+◌, ℕ, Bool, true, false, ◌||◌, ◌==◌, if◌then◌else◌, List, [], ◌∷◌, ◌++◌, length, map, get_or, refl, sym, ap, ◌∙◌, subst, arith, Some, None, Option}
use Rattle.std.proofs.lemmas.List.{length-map, map-append}
use Rattle.std.proofs.Math.ListN.{get_or-map}
use Rattle.std.specs.Option.{option_map}
use Rattle.std.specs.List.{Contains, list_any}
use Rattle.std.specs.FinMap.{get}
use Rattle.spur_graph.specs.Node.{Node}
use Rattle.spur_graph.specs.Graph.{Graph, AreApart}
use Rattle.spur_graph.specs.Names.{Iso, rename_node}
use Rattle.spur_graph.specs.Live.{none}
use Rattle.spur_graph.specs.Rounds.{IsListOf, Fires, mourning, fire, IsGroup, Rounds, Ended, Again}
use Rattle.spur_graph.proofs.MappedValues.{get-map_nodes}
use Rattle.graph_laws.proofs.Values.{one_to_one, same_name}
use Rattle.graph_laws.proofs.Turning.{map-again, turned}
use Rattle.graph_laws.proofs.Living.{among-mapped, derived-renamed, first-renamed, is_keyed-renamed, there-renamed}

some-mapped : (p : ℕ → ℕ) (names : List ℕ) → names ≢ [] → map p names ≢ []
some-mapped p [] some = λ e. some refl
some-mapped p (a ∷ names) some = λ e. omega (arith, ap length e)

module _ {G H : Graph} {p back : ℕ → ℕ} (k : Iso G H p back) where
  apart-mapped : (names : List ℕ) → AreApart names → AreApart (map p names)
  apart-mapped names apart i j d before within = λ same.
      apart i j (back d) before (subst (λ n. j < n) (length-map names p) within) (one_to_one p back k.left _ _ (sym (at i) ∙ same ∙ at j))
    where
      at : (n : ℕ) → get_or (map p names) n d ≡ p (get_or names n (back d))
      at n = ap (get_or (map p names) n) (sym (k.right d)) ∙ get_or-map p names n (back d)

  -- a list of the names of a set is one of the names for them
  pub list_of-renamed : (P Q : ℕ → Type 0) → ((a : ℕ) → P a → Q (p a)) → ((b : ℕ) → Q b → P (back b)) → (names : List ℕ) → IsListOf P names → IsListOf Q (map p names)
  list_of-renamed P Q there here names is = record {
    apart = apart-mapped names is.apart;
    all = λ b q. subst (Contains (map p names)) (k.right b) (among-mapped p names (back b) (is.all (back b) (here b q)));
    only = λ b among. subst Q (k.right b)
        (there (back b) (is.only (back b) (subst (λ xs. Contains xs (back b)) (map-again p back k.left names) (among-mapped back (map p names) b among))));
  }

  -- ---- a group fires

  in_group-renamed : (group : List ℕ) (a : ℕ) → list_any (λ b. b == p a) (map p group) ≡ list_any (λ b. b == a) group
  in_group-renamed [] a = refl
  in_group-renamed (b ∷ group) a = λ i. same_name k b a i || in_group-renamed group a i

  mourning-renamed : (group : List ℕ) (a : ℕ) (n : Node) → mourning (map p group) (p a) (rename_node p n) ≡ rename_node p (mourning group a n)
  mourning-renamed group a n =
      ap (λ b. if b then record (rename_node p n) { format = 1 } else rename_node p n) (in_group-renamed group a)
      ∙ by (list_any (λ b. b == a) group)
    where
      by : (b : Bool) → (if b then record (rename_node p n) { format = 1 } else rename_node p n) ≡ rename_node p (if b then record n { format = 1 } else n)
      by true = refl
      by false = refl

  pub fire-renamed : (group : List ℕ) → Iso (fire G group) (fire H (map p group)) p back
  fire-renamed group = record {
    left = k.left;
    right = k.right;
    nodes = λ a.
        get-map_nodes (mourning (map p group)) H.nodes (p a)
        ∙ ap (option_map (mourning (map p group) (p a))) (k.nodes a)
        ∙ by a (get G.nodes a)
        ∙ ap (option_map (rename_node p)) (sym (get-map_nodes (mourning group) G.nodes a));
    nil = k.nil;
    no = k.no;
    yes = k.yes;
    special = k.special;
    classes = k.classes;
    handles = k.handles;
    mourners = ap (λ groups. groups ++ map p group ∷ []) k.mourners ∙ sym (map-append (map p) G.mourners (group ∷ []));
    hash_state = k.hash_state;
  }
    where
      by : (a : ℕ) (o : Option Node) → option_map (mourning (map p group) (p a)) (option_map (rename_node p) o) ≡ option_map (rename_node p) (option_map (mourning group a) o)
      by a None = refl
      by a (Some n) = ap Some (mourning-renamed group a n)

  -- ---- what fires

  pub fires-renamed : (f F : ℕ → Bool) → ((a : ℕ) → F (p a) ≡ f a) → (a : ℕ) → Fires G f a → Fires H F (p a)
  fires-renamed f F further a fires =
      let live = derived-renamed k f none F none further (λ b. refl) in
      record {
        node = rename_node p fires.node;
        there = there-renamed k a fires.node fires.there;
        live = (live a).0 fires.live;
        ephemeron = is_keyed-renamed k fires.node ∙ fires.ephemeron;
        key = p fires.key;
        named = first-renamed k fires.node _ fires.named;
        dead = λ is. fires.dead ((live fires.key).1 is);
      }

module _ {G H : Graph} {p back : ℕ → ℕ} (k : Iso G H p back) (f F : ℕ → Bool) (further : (a : ℕ) → F (p a) ≡ f a) where
  fires-there : (b : ℕ) → Fires H F b → Fires G f (back b)
  fires-there b fires = fires-renamed (turned k) F f (λ c. sym (further (back c)) ∙ ap F (k.right c)) b fires

  pub group-renamed : (group : List ℕ) → IsGroup G f group → IsGroup H F (map p group)
  group-renamed group is = record {
    some = some-mapped p group is.some;
    names = list_of-renamed k (Fires G f) (Fires H F) (fires-renamed k f F further) fires-there group is.names;
  }

-- rounds from a graph are rounds from each that differs from it in names alone
pub rounds-renamed : {p back : ℕ → ℕ} (f F : ℕ → Bool) → ((a : ℕ) → F (p a) ≡ f a) → (G : Graph) (count : ℕ) (last : Graph) → Rounds f G count last
    → (H : Graph) → Iso G H p back → (end : Graph) × Rounds F H count end × Iso last end p back
rounds-renamed f F further G _ _ (Ended _ ended) H k = (H, Ended H (λ b fires. ended _ (fires-there k f F further b fires)), k)
rounds-renamed {p} {back} f F further G _ last (Again _ _ count group is rest) H k =
    let found = rounds-renamed {p = p} {back = back} f F further (fire G group) count last rest (fire H (map p group)) (fire-renamed k group) in (
      found.0,
      subst (λ n. Rounds F H (n + count) found.0) (length-map group p) (Again H found.0 count (map p group) (group-renamed k f F further group is) found.1),
      found.2,
    )
