-- Rooms that differ in names alone serve alike.
use Rattle.std.proofs.Common.{◌≡◌, ℕ, Bool, true, false, ◌&&◌, if◌then◌else◌, nat_le, refl, sym, ap, ◌∙◌, subst, Some, None, Option}
use Rattle.std.proofs.lemmas.Option.{none-some, same_Some}
use Rattle.std.specs.Prelude.{◌-◌, ◌/◌}
use Rattle.std.specs.Option.{option_map, is_none}
use Rattle.std.specs.Ordering.{nat_cmp}
use Rattle.std.specs.List.{find}
use Rattle.std.specs.FinMap.{FinMap}
use Rattle.std.specs.FinSet.{FinSet, contains}
use Rattle.spur_graph.specs.declared.answer.Refusal.TheVariants as r
use Rattle.spur_graph.specs.Room.{Room, Spot, Old, Eden, page_words, with_page}
use Rattle.spur_graph.specs.FreeSizes.{fits, shortened}
use Rattle.spur_graph.specs.Serve.{Source, OldAlone, Served, asks_eden, serve, full_of}
use Rattle.spur_graph.specs.Ordinary.{page_entries}
use Rattle.spur_graph.specs.Refusals.{test, unserved, no_page}
use Rattle.spur_graph.specs.Does.{room_entered}
use Rattle.spur_graph.specs.Step.{SameRoom}
use Rattle.graph_laws.proofs.Values.{none-mapped}
use Rattle.graph_laws.proofs.Named.{KeepsPlaces}

-- a room with other spots and old names
abbrev pub with_places : FinMap nat_cmp Spot → FinSet nat_cmp → Room → Room
with_places spots names room = record room { spots = spots; old_names = names }

abbrev pub served_with : FinMap nat_cmp Spot → FinSet nat_cmp → Served → Served
served_with spots names served = record { space = served.space; room = with_places spots names served.room }

-- what serves a need does not depend on where names stand, and moves none
pub serve-places : (source : Source) (room : Room) (n : ℕ) (spots : FinMap nat_cmp Spot) (names : FinSet nat_cmp)
    → serve source (with_places spots names room) n ≡ option_map (served_with spots names) (serve source room n)
unfolding serve
serve-places source room n spots names = by (asks_eden source && nat_le n room.eden_left) (find (fits n) room.free)
  where
    eden : Served
    eden = record { space = Eden; room = record room { eden_left = room.eden_left - n } }

    old : ℕ → Served
    old size = record { space = Old; room = record room { free = shortened n size room.free } }

    by : (b : Bool) (o : Option ℕ)
        → (if b then Some (served_with spots names eden) else option_map (λ size. served_with spots names (old size)) o)
        ≡ option_map (served_with spots names) (if b then Some eden else option_map old o)
    by true o = refl
    by false None = refl
    by false (Some size) = refl

-- a need that is served leaves the names where they stand
pub served-places : (source : Source) (room : Room) (n : ℕ) (served : Served) → serve source room n ≡ Some served → served ≡ served_with room.spots room.old_names served
served-places source room n served e = same_Some served (served_with room.spots room.old_names served) (sym e ∙ serve-places source room n room.spots room.old_names ∙ ap (option_map (served_with room.spots room.old_names)) e)

module _ {R S : Room} {p : ℕ → ℕ} (k : SameRoom R S p) where
  pub serve-same : (source : Source) (n : ℕ) → serve source S n ≡ option_map (served_with S.spots S.old_names) (serve source R n)
  serve-same source n = ap (λ room. serve source room n) k.rest ∙ serve-places source R n S.spots S.old_names

  full-same : (source : Source) (n : ℕ) → full_of source S n ≡ full_of source R n
  unfolding full_of
  full-same source n = ap (λ room. full_of source room n) k.rest

  pub unserved-same : (source : Source) (n : ℕ) → unserved source S n ≡ unserved source R n
  unserved-same source n = λ i.
      test ((ap is_none (serve-same source n) ∙ none-mapped (served_with S.spots S.old_names) (serve source R n)) i) (r.Full (full-same source n i))

  pub pages-same : S.pages ≡ R.pages
  pages-same = ap (λ (room : Room). room.pages) k.rest

  pub no_page-same : (i : ℕ) → no_page S i ≡ no_page R i
  no_page-same i = λ j. if contains (pages-same j) (i / page_entries) then None else unserved-same OldAlone page_words j

  -- the room once a class is entered
  pub entered-same : (i : ℕ) → room_entered S i ≡ option_map (with_places S.spots S.old_names) (room_entered R i)
  entered-same i = (λ j. if contains (pages-same j) (i / page_entries) then Some (k.rest j) else option_map (paged i) (serve-same OldAlone page_words j)) ∙ by (contains R.pages (i / page_entries)) (serve OldAlone R page_words)
    where
      paged : ℕ → Served → Room
      paged j served = with_page served.room (j / page_entries)

      by : (b : Bool) (o : Option Served)
          → (if b then Some (with_places S.spots S.old_names R) else option_map (paged i) (option_map (served_with S.spots S.old_names) o))
          ≡ option_map (with_places S.spots S.old_names) (if b then Some R else option_map (paged i) o)
      by true o = refl
      by false None = refl
      by false (Some served) = refl

-- a need that is served leaves names where they stand
pub served-keeps : (source : Source) (room : Room) (n : ℕ) (served : Served) → serve source room n ≡ Some served → KeepsPlaces room served.room
served-keeps source room n served e = let same = served-places source room n served e in record { spots = ap (λ (x : Served). x.room.spots) same; old_names = ap (λ (x : Served). x.room.old_names) same }

pub entered-keeps : (room new : Room) (i : ℕ) → room_entered room i ≡ Some new → KeepsPlaces room new
entered-keeps room new i e = by (contains room.pages (i / page_entries)) (serve OldAlone room page_words) refl e
  where
    by : (b : Bool) (o : Option Served) → serve OldAlone room page_words ≡ o → (if b then Some room else option_map (λ served. with_page served.room (i / page_entries)) o) ≡ Some new → KeepsPlaces room new
    by true o f e = subst (KeepsPlaces room) (same_Some room new e) (record { spots = refl; old_names = refl })
    by false None f e = absurd (none-some new e)
    by false (Some served) f e =
        let keep = served-keeps OldAlone room page_words served f in
        subst (KeepsPlaces room) (same_Some (with_page served.room (i / page_entries)) new e) (record { spots = keep.spots; old_names = keep.old_names })
