use Rattle.std.proofs.Common.{◌≡◌, ℕ, ◌&&◌, ◌+◌, List, [], length, get_or, drop, false, nat_eq, sym, ap, ◌∙◌, subst, arith, inl, inr}
use Rattle.std.proofs.lemmas.Bool.{cases_Bool, and_right}
use Rattle.object_header.specs.Fields.{fields_of}
use Rattle.free_lists.specs.declared.lists.FreeLists.{FreeLists}
use Rattle.spur_graph.specs.Heaps.{View, IsWhole, chunks_of, heap_to, is_remembered}
use Rattle.heap_cells.proofs.Cutting.{start-in}
use Rattle.heap_cells.proofs.Members.{listed}
use Rattle.spur_heap.specs.declared.bare.Bare.{Bare}
use Rattle.spur_heap.specs.declared.heap.HeapParts.{HeapParts}
use Rattle.spur_heap.specs.declared.heap.Phase.TheVariants.{Whole}
use Rattle.spur_heap.specs.Tables.{parted, groups_of, has, HasEmptyTables, IsUnbound}
use Rattle.spur_heap.specs.Words.{starts_at}
use Rattle.spur_heap.specs.Parts.{view_of, is_noted, HasTables, HasRemembered}
use Rattle.spur_heap.specs.Views.{Adopts, AreClear, adopted}
use Rattle.spur_heap.proofs.heap.Heap.adopt.Goals as goal

no_groups : (entries : List ℕ) → entries ≡ [] → groups_of 0 entries ≡ []
unfolding parted
no_groups entries none = ap (groups_of 0) none

module _ (b : Bare) (unbound : IsUnbound b) (tables : HasEmptyTables b) (free : FreeLists) (special hash : ℕ) (carried : List ℕ) where
  -- the parts whose tables are to be made
  abbrev parts : HeapParts
  parts = record {
    region = b.region;
    old_end = b.old_end;
    eden_at = b.old_end;
    first_at = b.old_end + b.limits.eden;
    second_at = b.old_end + b.limits.eden + b.limits.survivor;
    past_at = b.old_end + b.limits.eden;
    eden_used = 0;
    past_used = 0;
    starts = b.starts;
    free = free;
    objects = 0;
    remembered = b.remembered;
    mourners = b.mourners;
    mourned = 0;
    marks = b.marks;
    saved = b.saved;
    handles = b.handles;
    hash = hash;
    special = special;
    carried = carried;
    limits = b.limits;
    phase = Whole;
    forwarders = false;
  }

  seen : view_of parts ≡ adopted b special hash carried
  seen = λ i. record (adopted b special hash carried) { mourners = no_groups b.mourners.items tables.no_mourners i; handles = unbound i; stack = tables.no_marks i }

  has_tables : HasTables parts
  unfolding parted
  has_tables = record {
    taken = omega arith;
    grouped = ap (λ (es : List ℕ). (parted (drop 0 es)).front) tables.no_mourners;
    mourner_places = tables.mourner_places;
    mark_places = tables.mark_places;
    saved = tables.saved;
    some_saved = tables.some_saved;
  }

  -- nothing is remembered, and the table is empty
  module _ (clear : AreClear (adopted b special hash carried)) where
    none_noted : (v : View) → AreClear v → (t : ℕ) → is_noted v t ≡ false
    none_noted v clear t = elim (cases_Bool (starts_at v t)) [
      | inl on ↦
          let d = start-in heap_to v.words (chunks_of v) t on in
          let none : (fields_of (get_or v.words t 0)).remembered ≡ 0 = ap (λ s. (fields_of (get_or v.words s 0)).remembered) (sym d.2) ∙ (clear d.0 (listed (chunks_of v) d.0 d.1)).remembered in
          and_right (starts_at v t) (is_remembered v.words t) (ap (λ n. nat_eq n 1) none)
      | inr off ↦ ap (λ on. on && is_remembered v.words t) off
    ]

    pub has_remembered : HasRemembered parts
    has_remembered = record {
      table = record {
        once = λ i j d l m. absurd (let none : length b.remembered.starts ≡ 0 = ap (λ ss. length ss) tables.none_remembered in omega (arith, m, none));
        exactly = λ s. ap (λ ss. has ss s) tables.none_remembered ∙ sym (ap (λ (v : View). is_noted v s) seen ∙ none_noted (adopted b special hash carried) clear s);
        places = tables.remembered_places;
      };
    }

pub make_tables-requires-clause-remembered : goal.make_tables-requires-clause-remembered
make_tables-requires-clause-remembered c = has_remembered c.args.bare c.requires.unbound c.requires.tables c.new.result c.args.special c.args.hash c.args.carried c.requires.clear

pub make_tables-requires-clause-whole : goal.make_tables-requires-clause-whole
make_tables-requires-clause-whole c =
    subst (λ (v : View). IsWhole v) (sym (seen c.args.bare c.requires.unbound c.requires.tables c.new.result c.args.special c.args.hash c.args.carried)) c.requires.whole

pub make_tables-requires-clause-tables : goal.make_tables-requires-clause-tables
make_tables-requires-clause-tables c = has_tables c.args.bare c.requires.unbound c.requires.tables c.new.result c.args.special c.args.hash c.args.carried

pub returns : goal.returns
returns c =
    subst (λ (v : View). Adopts v (view_of c.make_tables.new.parts))
    (seen c.args.bare c.requires.unbound c.requires.tables c.new.result c.args.special c.args.hash c.args.carried) c.make_tables.ensures.adopts
