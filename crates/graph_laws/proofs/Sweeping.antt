-- A collection is the same under other names.
use Rattle.std.proofs.Common.{◌≡◌, ℕ, Bool, true, false, cond, not, ◌==◌, if◌then◌else◌, List, [], ◌∷◌, ◌++◌, map, take, refl, sym, ap, ◌∙◌, subst, Some, None, Option}
use Rattle.std.proofs.lemmas.List.{take-map, map-append}
use Rattle.std.specs.Option.{option_map}
use Rattle.std.specs.List.{count_by}
use Rattle.std.specs.FinMap.{get, retain_keys, get-retain_keys, nat_cmp-IsAntisymmetric}
use Rattle.spur_graph.specs.declared.answer.Value.{Value}
use Rattle.spur_graph.specs.declared.answer.Value.TheVariants.{Int, Char, Float, Ref}
use Rattle.spur_graph.specs.Node.{Node}
use Rattle.spur_graph.specs.Graph.{Graph}
use Rattle.spur_graph.specs.Names.{Iso, rename, rename_node}
use Rattle.spur_graph.specs.Live.{Live, none, strong_count, weak_values}
use Rattle.spur_graph.specs.Rounds.{names_dead, without_dead, swept, nils, Collect}
use Rattle.spur_graph.proofs.HandleMaps.{chosen}
use Rattle.spur_graph.proofs.MappedValues.{get-map_nodes}
use Rattle.graph_laws.proofs.Living.{derived-renamed, strong_count-renamed, weak_values-renamed}
use Rattle.graph_laws.proofs.Rounding.{rounds-renamed}
use Rattle.graph_laws.proofs.Counts.{weight-renamed, count_by-mapped}

-- the nodes of the live names
pub get-live : (g : Graph) (live : ℕ → Bool) (a : ℕ) → get (retain_keys g.nodes live) a ≡ cond (live a) (get g.nodes a) None
get-live g live a = get-retain_keys g.nodes live a (λ b tied. ap live (sym (nat_cmp-IsAntisymmetric a b tied)))

pub get-swept : (g : Graph) (live : ℕ → Bool) (a : ℕ) → get (swept live g).nodes a ≡ option_map (without_dead g live) (cond (live a) (get g.nodes a) None)
get-swept g live a = get-map_nodes (λ b n. without_dead g live n) (retain_keys g.nodes live) a ∙ ap (option_map (without_dead g live)) (get-live g live a)

module _ {G H : Graph} {p back : ℕ → ℕ} (k : Iso G H p back) (l L : ℕ → Bool) (live : (a : ℕ) → L (p a) ≡ l a) where
  dead-renamed : (v : Value) → names_dead L (rename p v) ≡ names_dead l v
  dead-renamed (Int n) = refl
  dead-renamed (Char c) = refl
  dead-renamed (Float w) = refl
  dead-renamed (Ref a) = ap not (live a)

  -- a value that becomes nil where it names a dead name
  kept-renamed : (v : Value) → (if names_dead L (rename p v) then Ref H.nil else rename p v) ≡ rename p (if names_dead l v then Ref G.nil else v)
  kept-renamed v = (λ i. if dead-renamed v i then Ref (k.nil i) else rename p v) ∙ by (names_dead l v)
    where
      by : (b : Bool) → (if b then Ref (p G.nil) else rename p v) ≡ rename p (if b then Ref G.nil else v)
      by true = refl
      by false = refl

  all_kept-renamed : (vs : List Value) → map (λ v. if names_dead L v then Ref H.nil else v) (map (rename p) vs) ≡ map (rename p) (map (λ v. if names_dead l v then Ref G.nil else v) vs)
  all_kept-renamed [] = refl
  all_kept-renamed (v ∷ vs) = λ i. kept-renamed v i ∷ all_kept-renamed vs i

  pointers-renamed : (n : Node) →
      take (strong_count H (rename_node p n)) (map (rename p) n.pointers) ++ map (λ v. if names_dead L v then Ref H.nil else v) (weak_values H (rename_node p n))
      ≡ map (rename p) (take (strong_count G n) n.pointers ++ map (λ v. if names_dead l v then Ref G.nil else v) (weak_values G n))
  pointers-renamed n =
      (λ i. take (strong_count-renamed k n i) (map (rename p) n.pointers) ++ map (λ v. if names_dead L v then Ref H.nil else v) (weak_values-renamed k n i))
      ∙ (λ i. take-map (rename p) (strong_count G n) n.pointers i ++ all_kept-renamed (weak_values G n) i)
      ∙ sym (map-append (rename p) (take (strong_count G n) n.pointers) (map (λ v. if names_dead l v then Ref G.nil else v) (weak_values G n)))

  without_dead-renamed : (n : Node) → without_dead H L (rename_node p n) ≡ rename_node p (without_dead G l n)
  without_dead-renamed n =
      (λ i. if n.format == 4 then record n { pointers = pointers-renamed n i } else rename_node p n) ∙ by (n.format == 4)
    where
      by : (b : Bool)
          → (if b then record n { pointers = map (rename p) (take (strong_count G n) n.pointers ++ map (λ v. if names_dead l v then Ref G.nil else v) (weak_values G n)) } else rename_node p n)
          ≡ rename_node p (if b then record n { pointers = take (strong_count G n) n.pointers ++ map (λ v. if names_dead l v then Ref G.nil else v) (weak_values G n) } else n)
      by true = refl
      by false = refl

  live-renamed : (a : ℕ) → get (retain_keys H.nodes L) (p a) ≡ option_map (rename_node p) (get (retain_keys G.nodes l) a)
  live-renamed a =
      get-live H L (p a)
      ∙ (λ i. cond (live a i) (k.nodes a i) None)
      ∙ chosen (rename_node p) (l a) (get G.nodes a) None
      ∙ ap (option_map (rename_node p)) (sym (get-live G l a))

  pub swept-renamed : Iso (swept l G) (swept L H) p back
  swept-renamed = record {
    left = k.left;
    right = k.right;
    nodes = λ a.
        get-map_nodes (λ b n. without_dead H L n) (retain_keys H.nodes L) (p a)
        ∙ ap (option_map (without_dead H L)) (live-renamed a)
        ∙ by (get (retain_keys G.nodes l) a)
        ∙ ap (option_map (rename_node p)) (sym (get-map_nodes (λ b n. without_dead G l n) (retain_keys G.nodes l) a));
    nil = k.nil;
    no = k.no;
    yes = k.yes;
    special = k.special;
    classes = k.classes;
    handles = k.handles;
    mourners = k.mourners;
    hash_state = k.hash_state;
  }
    where
      by : (o : Option Node) → option_map (without_dead H L) (option_map (rename_node p) o) ≡ option_map (rename_node p) (option_map (without_dead G l) o)
      by None = refl
      by (Some n) = ap Some (without_dead-renamed n)

  pub nils-renamed : nils L H ≡ nils l G
  nils-renamed = weight-renamed (rename_node p) p back k.left k.right (retain_keys G.nodes l) (retain_keys H.nodes L) live-renamed
      (λ e. count_by (names_dead l) (weak_values G e.1)) (λ e. count_by (names_dead L) (weak_values H e.1))
      (λ a n there. ap (count_by (names_dead L)) (weak_values-renamed k n) ∙ count_by-mapped (rename p) (names_dead L) (names_dead l) dead-renamed (weak_values G n))

-- a collection of a graph is one of each that differs from it in names alone
pub collect-renamed : {G H : Graph} {p back : ℕ → ℕ} → Iso G H p back → (f F : ℕ → Bool) → ((a : ℕ) → F (p a) ≡ f a) → (nilled fired : ℕ) (new : Graph) → Collect G f nilled fired new
    → (end : Graph) × Collect H F nilled fired end × Iso new end p back
collect-renamed {G} {H} {p} {back} k f F further nilled fired new c =
    let found = rounds-renamed {p = p} {back = back} f F further G fired c.mid c.rounds H k in
    let mid = found.2 in
    let live : ℕ → Bool = λ b. c.live (back b) in
    let same : (a : ℕ) → live (p a) ≡ c.live a = λ a. ap c.live (k.left a) in
    let derived = derived-renamed mid f none F none further (λ a. refl) in (
      swept live found.0,
      record {
        mid = found.0;
        rounds = found.1;
        live = live;
        exact = record {
          sound = λ b is. subst (λ x. Live found.0 F x) (k.right b) ((derived (back b)).0 (c.exact.sound (back b) is));
          whole = λ b is. c.exact.whole (back b) ((derived (back b)).1 (subst (λ x. Live found.0 F x) (sym (k.right b)) is));
        };
        graph = refl;
        count = c.count ∙ sym (nils-renamed mid c.live live same);
      },
      subst (λ (g : Graph). Iso g (swept live found.0) p back) (sym c.graph) (swept-renamed mid c.live live same),
    )
