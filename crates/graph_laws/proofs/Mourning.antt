-- Mournings are alike in states that differ in names alone, and lead to states that speak only of names that have nodes.
use Rattle.std.proofs.Common.{◌≡◌, ℕ, Bool, true, false, not, nat_eq, if◌then◌else◌, List, [], ◌∷◌, ◌++◌, length, map, get_or, refl, sym, ap, ◌∙◌, subst}
use Rattle.std.proofs.lemmas.List.{length-map}
use Rattle.std.proofs.lemmas.List.Elements.{All-append, All-filter, All-contains, Contains-append_left, Contains-append_right, Contains-get_or}
use Rattle.std.specs.List.{All, filter, flat_map}
use Rattle.spur_graph.specs.declared.answer.Answer.{Answer}
use Rattle.spur_graph.specs.declared.answer.Value.TheVariants.{Ref}
use Rattle.spur_graph.specs.Bytes.{Text}
use Rattle.spur_graph.specs.Graph.{Graph, HasNode, bind}
use Rattle.spur_graph.specs.Names.{Iso}
use Rattle.spur_graph.specs.Collections.{without_first, Mourns}
use Rattle.spur_graph.specs.State.{State, with_graph}
use Rattle.spur_graph.specs.Step.{Renamed}
use Rattle.graph_laws.proofs.Named.{IsNamed, bound-named}
use Rattle.graph_laws.proofs.Values.{same_number}
use Rattle.graph_laws.proofs.Changes.{bound-renamed}
use Rattle.graph_laws.proofs.Turning.{turned}
use Rattle.graph_laws.proofs.Living.{among-mapped}

module _ (p back : ℕ → ℕ) (left : (a : ℕ) → back (p a) ≡ a) where
  others-renamed : (a : ℕ) (group : List ℕ) → filter (λ b. not (nat_eq (p a) b)) (map p group) ≡ map p (filter (λ b. not (nat_eq a b)) group)
  others-renamed a [] = refl
  others-renamed a (b ∷ group) =
      (λ i. if not (same_number p back left a b i) then p b ∷ others-renamed a group i else others-renamed a group i) ∙ by (not (nat_eq a b))
    where
      rest : List ℕ
      rest = filter (λ c. not (nat_eq a c)) group

      by : (x : Bool) → (if x then p b ∷ map p rest else map p rest) ≡ map p (if x then b ∷ rest else rest)
      by true = refl
      by false = refl

  without_first-renamed : (a : ℕ) (group : List ℕ) (groups : List (List ℕ)) → without_first (p a) (map p group) (map (map p) groups) ≡ map (map p) (without_first a group groups)
  without_first-renamed a group groups =
      (λ i. if nat_eq (length-map group p i) 1 then map (map p) groups else others-renamed a group i ∷ map (map p) groups) ∙ by (nat_eq (length group) 1)
    where
      rest : List ℕ
      rest = filter (λ c. not (nat_eq a c)) group

      by : (x : Bool) → (if x then map (map p) groups else map p rest ∷ map (map p) groups) ≡ map (map p) (if x then groups else rest ∷ groups)
      by true = refl
      by false = refl

mourners-renamed : {G H : Graph} {p back : ℕ → ℕ} → Iso G H p back → (groups : List (List ℕ)) → Iso (record G { mourners = groups }) (record H { mourners = map (map p) groups }) p back
mourners-renamed k groups = record {
  left = k.left;
  right = k.right;
  nodes = k.nodes;
  nil = k.nil;
  no = k.no;
  yes = k.yes;
  special = k.special;
  classes = k.classes;
  handles = k.handles;
  mourners = refl;
  hash_state = k.hash_state;
}

-- ---- the names that wait then

-- what holds of all that wait holds of those that wait behind the one that was taken
pub without_first-all : (P : ℕ → Type 0) (a : ℕ) (group : List ℕ) (groups : List (List ℕ)) → All P (flat_map (λ (g : List ℕ). g) (group ∷ groups)) → All P (flat_map (λ (g : List ℕ). g) (without_first a group groups))
without_first-all P a group groups all = by (nat_eq (length group) 1)
  where
    names : List ℕ
    names = flat_map (λ (g : List ℕ). g) groups

    earliest : All P group
    earliest i d l = All-contains P (group ++ names) (get_or group i d) all (Contains-append_left group names (get_or group i d) (Contains-get_or group i d l))

    later : All P names
    later i d l = All-contains P (group ++ names) (get_or names i d) all (Contains-append_right group names (get_or names i d) (Contains-get_or names i d l))

    by : (x : Bool) → All P (flat_map (λ (g : List ℕ). g) (if x then groups else filter (λ b. not (nat_eq a b)) group ∷ groups))
    by true = later
    by false = All-append P (filter (λ b. not (nat_eq a b)) group) names (All-filter (λ b. not (nat_eq a b)) P group earliest) later

mourners-named : {s : State} → IsNamed s → (groups : List (List ℕ)) → All (λ a. HasNode s.graph (Ref a)) (flat_map (λ (g : List ℕ). g) groups) → IsNamed (with_graph s (record s.graph { mourners = groups }))
mourners-named k groups all = record {
  fresh = k.fresh;
  pointers = k.pointers;
  nil = k.nil;
  no = k.no;
  yes = k.yes;
  special = k.special;
  classes = k.classes;
  handles = k.handles;
  mourners = all;
  spots = k.spots;
  old_names = k.old_names;
}

pub mourns-named : {s : State} → IsNamed s → (m : ℕ) (h : Text) (answer : Answer) (new : State) → Mourns s m h answer new → IsNamed new
mourns-named {s} k m h answer new c =
    let all : All (λ a. HasNode s.graph (Ref a)) (flat_map (λ (g : List ℕ). g) (c.group ∷ c.groups)) = subst (λ groups. All (λ a. HasNode s.graph (Ref a)) (flat_map (λ (g : List ℕ). g) groups)) c.are k.mourners in
    let named : HasNode s.graph (Ref c.name) = All-contains (λ a. HasNode s.graph (Ref a)) _ c.name all (Contains-append_left c.group (flat_map (λ (g : List ℕ). g) c.groups) c.name c.waits) in
    subst IsNamed (sym c.becomes) (bound-named (mourners-named k (without_first c.name c.group c.groups) (without_first-all (λ a. HasNode s.graph (Ref a)) c.name c.group c.groups all)) m h (Ref c.name) named)

-- ---- a mourning

pub mourns-alike : {s t : State} → IsNamed s → Renamed s t → (m : ℕ) (h : Text) (answer : Answer) (new : State) → Mourns t m h answer new
    → (end : State) × Mourns s m h answer end × Renamed end new × IsNamed end
mourns-alike {s} {t} named k m h answer new c = (end, mourns, subst (Renamed end) (sym c.becomes) alike, mourns-named named m h answer end mourns)
  where
    name : ℕ
    name = k.back c.name

    group : List ℕ
    group = map k.back c.group

    groups : List (List ℕ)
    groups = map (map k.back) c.groups

    end : State
    end = record s { graph = bind (record s.graph { mourners = without_first name group groups }) m h (Ref name) }

    mourns : Mourns s m h answer end
    mourns = record {
      group = group;
      groups = groups;
      are = (turned k.graph).mourners ∙ ap (map (map k.back)) c.are;
      name = name;
      waits = among-mapped k.back c.group c.name c.waits;
      done = c.done;
      becomes = refl;
    }

    graphs : Iso (record s.graph { mourners = without_first name group groups }) (record t.graph { mourners = without_first c.name c.group c.groups }) k.p k.back
    graphs = turned (subst (λ waits. Iso (record t.graph { mourners = without_first c.name c.group c.groups }) (record s.graph { mourners = waits }) k.back k.p)
        (sym (without_first-renamed k.back k.p k.graph.right c.name c.group c.groups))
        (mourners-renamed (turned k.graph) (without_first c.name c.group c.groups)))

    left : Renamed (with_graph s (record s.graph { mourners = without_first name group groups })) (with_graph t (record t.graph { mourners = without_first c.name c.group c.groups }))
    left = record { p = k.p; back = k.back; graph = graphs; room = k.room; files = k.files; script = k.script; next = k.next }

    alike : Renamed end (record t { graph = bind (record t.graph { mourners = without_first c.name c.group c.groups }) m h (Ref c.name) })
    alike = bound-renamed left m h (Ref name) (Ref c.name) (ap Ref (sym (k.graph.right c.name)))
