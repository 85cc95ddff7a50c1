-- A page of the class table that was made for an index.
use Rattle.std.proofs.Common.{◌/◌, ◌||◌, ℕ, cond, refl, ap, sym, ◌∙◌, Some}
use Rattle.std.specs.Option.{option_map}
use Rattle.std.specs.Cmp.{nat_cmp_total}
use Rattle.std.specs.FinSet.{contains, contains-insert}
use Rattle.spur_graph.specs.Room.{Room, page_words, with_page}
use Rattle.spur_graph.specs.Serve.{Served, OldAlone, serve}
use Rattle.spur_graph.specs.Ordinary.{page_entries}
use Rattle.spur_graph.specs.Heaps.{View, heap_room}
use Rattle.heap_cells.proofs.Finding.{same_key}
use Rattle.spur_heap.specs.Entering.{MakesPage, HasNoPage}
use Rattle.class_table.specs.Paging.{HasPlace}

pub page_made : (old new : View) (index : ℕ) → HasNoPage old index → MakesPage old new index → HasPlace old new index
page_made old new index none m =
    let page : ℕ = index / page_entries in
    record {
      page = ap (λ (r : Room). contains r.pages page) m.room ∙ contains-insert nat_cmp_total m.served.room.pages page page ∙ ap (λ b. b || contains m.served.room.pages page) (same_key page page refl);
      room = ap (λ b. cond b (Some (heap_room old)) (option_map (λ (s : Served). with_page s.room page) (serve OldAlone (heap_room old) page_words))) none
          ∙ ap (option_map (λ (s : Served). with_page s.room page)) m.serves ∙ ap (λ (r : Room). Some r) (sym m.room);
      graph = m.graph;
      ordinary = m.ordinary;
      nodes = m.nodes;
      rest = m.rest;
    }
