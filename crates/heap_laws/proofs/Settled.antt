-- Settled words are sound and stand for the same graph, since they are those of placed objects.
use Rattle.std.proofs.Common.{◌≡◌, ℕ, true, [], refl, sym, ap, ◌∙◌, subst, arith}
use Rattle.std.specs.Option.{option_map}
use Rattle.std.specs.List.{Contains}
use Rattle.std.specs.FinMap.{empty, get, get-empty}
use Rattle.spur_graph.specs.Graph.{handle_cmp}
use Rattle.spur_graph.specs.Names.{rename, rename_node}
use Rattle.spur_graph.specs.Cells.{lead, is_there}
use Rattle.spur_graph.specs.Ordinary.{is_ordinary}
use Rattle.spur_graph.specs.Heaps.{own_name}
use Rattle.heap_cells.specs.Settled.{settled_word}
use Rattle.heap_laws.specs.Settling.{SettledIsSound, SettledIsGood, SettledIsSameGraph}
use Rattle.heap_cells.proofs.Below.{passed}
use Rattle.heap_cells.proofs.Both.{Both}
use Rattle.heap_cells.proofs.CellKinds.{there_starts}
use Rattle.heap_cells.proofs.Internals.{root-top}
use Rattle.heap_cells.proofs.Pairings.{pairing_of, pairing_at}
use Rattle.heap_cells.proofs.References.{ordinary_there, not_immediate, lead_tag}
use Rattle.heap_laws.specs.Placed.{Outside, IsPlacedHandle, IsPlacedOutside, ArePaired}
use Rattle.heap_laws.specs.Instances.{all_objects, same_place}
use Rattle.heap_laws.proofs.Loads.{sound-placed}
use Rattle.heap_laws.proofs.Words.{good-placed}
use Rattle.heap_laws.proofs.Graphs.{graph-placed, all_are_kept}
use Rattle.heap_laws.proofs.Loaded.{loaded_placed, loaded_word}

pub settled_is_sound : SettledIsSound
settled_is_sound old new n l s = let k : Both old new = record { named = n; loadable = l; settled = s } in sound-placed (loaded_placed k) (root-top k)

pub settled_is_good : SettledIsGood
settled_is_good old new w n l s e =
    let k : Both old new = record { named = n; loadable = l; settled = s } in
    let g = passed (is_ordinary old) (lead old w) e in
    good-placed (loaded_placed k) w (settled_word old w) (not_immediate w (lead_tag k w g.one g.is)) (loaded_word k w)

pub settled_is_same_graph : SettledIsSameGraph
settled_is_same_graph old new name special hash next next' n l s apart good =
    let k : Both old new = record { named = n; loadable = l; settled = s } in
    let o : Outside = record { special = special; held = empty; groups = [] } in
    let o' : Outside = record { special = settled_word old special; held = empty; groups = [] } in
    let out : IsPlacedOutside same_place (all_objects old) old new o o' = record {
      special = loaded_word k special;
      held = λ h. subst (λ x. IsPlacedHandle same_place (all_objects old) old new x x) (sym (get-empty handle_cmp h)) tt;
      groups = refl;
      waiting = λ j d b. absurd (omega (arith, b));
    } in
    let inside : (a : ℕ) → is_there (old.cell a) ≡ true → Contains old.starts a = λ a e. n.inside a (there_starts (old.cell a) e) in
    let e = pairing_of name old.starts n.rising apart in
    let are : ArePaired same_place (all_objects old) old name own_name e.p e.q = record { left = e.pairing.left; right = e.pairing.right; named = λ a there o. pairing_at e a (inside a there) } in
    let iso = graph-placed same_place (all_objects old) old new name own_name e.p e.q (loaded_placed k) (λ a b x y is. apart a b (inside a x) (inside b y) is) are o o' hash next next' out in
    record {
      p = e.p;
      back = e.q;
      iso = record {
        left = iso.left;
        right = iso.right;
        nodes = λ a. iso.nodes a ∙ ap (λ ns. option_map (rename_node e.p) (get ns a)) (all_are_kept (all_objects old) old name (λ t. ordinary_there old t));
        nil = iso.nil;
        no = iso.no;
        yes = iso.yes;
        special = iso.special;
        classes = iso.classes;
        handles = λ h. get-empty handle_cmp h ∙ ap (option_map (rename e.p)) (sym (get-empty handle_cmp h));
        mourners = refl;
        hash_state = refl;
      };
      names = pairing_at e;
    }
