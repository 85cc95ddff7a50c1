-- Two objects that are exchanged where they stand, or are one: the row of refusals, what may be done, and what is left.
use Rattle.std.proofs.Common.{◌≡◌, ◌≢◌, ℕ, true, false, cond, nat_eq, get_or, [], ◌∷◌, ◌++◌, refl, sym, ap, ◌∙◌, subst, Option, Some, None}
use Rattle.std.proofs.lemmas.Bool.{eq-eqb, ne_eqb, or_left, or_right}
use Rattle.std.proofs.lemmas.Option.{none-some}
use Rattle.std.specs.Prelude.{Result, Ok, Err, IfOk, IsErrAnd}
use Rattle.std.specs.Result.{result_err}
use Rattle.std.specs.Option.{option_map}
use Rattle.spur_graph.specs.declared.answer.Value.{Value}
use Rattle.spur_graph.specs.declared.answer.Value.TheVariants.{Ref}
use Rattle.spur_graph.specs.declared.answer.Refusal.{Refusal}
use Rattle.spur_graph.specs.Value.{name_of}
use Rattle.spur_graph.specs.Node.{Node}
use Rattle.spur_graph.specs.Names.{Iso}
use Rattle.spur_graph.specs.Room.{Room}
use Rattle.spur_graph.specs.Serve.{Anywhere, Served, serve}
use Rattle.spur_graph.specs.Step.{SameRoom}
use Rattle.spur_graph.specs.Refusals.{Row, first, no_piece, unserved}
use Rattle.spur_graph.specs.Become.{stays_in_place, needs_no_words, exchange_words, exchange, exchanged, crossed_over}
use Rattle.spur_graph.specs.Heaps.{View, IsWhole, heap_graph, heap_room}
use Rattle.spur_graph.proofs.Renaming.{itself}
use Rattle.spur_heap.specs.Views.{IsOrdinary}
use Rattle.spur_heap.specs.Outside.{IsOutside}
use Rattle.spur_heap.specs.Exchanging.{CanExchange}
use Rattle.spur_heap.proofs.NodesAt.{node_there}
use Rattle.lazy_become.specs.Rows.{held_row, exchange_row, CanMoveOut}
use Rattle.lazy_become.specs.Writes.{Exchanges, ExchangeWrites}
use Rattle.lazy_become.proofs.RowReads.{MayExchange, may_exchange}

-- ---- the row

-- a row that refuses nothing is passed over, and one that refuses is all that counts
passed : (row : Row) (last : Option Refusal) → first row ≡ None → first (row ++ last ∷ []) ≡ last
passed [] None is = refl
passed [] (Some why) is = refl
passed (None ∷ row) last is = passed row last is
passed (Some why ∷ row) last is = absurd (none-some why (sym is))

stopped : (row rest : Row) (why : Refusal) → first row ≡ Some why → first (row ++ rest) ≡ Some why
stopped [] rest why is = absurd (none-some why is)
stopped (None ∷ row) rest why is = stopped row rest why is
stopped (Some other ∷ row) rest why is = is

-- a refusal that a result hands on
pub handed_on : {X : Type 0} (result : Result X Refusal) (why : Refusal) → IsErrAnd result (λ e. e ≡ why) → Some why ≡ result_err result
handed_on (Ok x) why is = absurd is
handed_on (Err e) why is = ap (λ o. Some o) (sym is)

module _ (v : View) (a b : ℕ) (x y : Value) (is_a : x ≡ Ref a) (is_b : y ≡ Ref b) where
  objects : first (exchange_row (heap_graph v) (heap_room v) x y) ≡ first (held_row (heap_graph v) a b ++ no_piece (heap_room v) a b ∷ [])
  objects = λ i. first (exchange_row (heap_graph v) (heap_room v) (is_a i) (is_b i))

  pub held_refused : (why : Refusal) → first (held_row (heap_graph v) a b) ≡ Some why → first (exchange_row (heap_graph v) (heap_room v) x y) ≡ Some why
  held_refused why is = objects ∙ stopped (held_row (heap_graph v) a b) (no_piece (heap_room v) a b ∷ []) why is

  pub piece_refused : first (held_row (heap_graph v) a b) ≡ None → first (exchange_row (heap_graph v) (heap_room v) x y) ≡ no_piece (heap_room v) a b
  piece_refused none = objects ∙ passed (held_row (heap_graph v) a b) (no_piece (heap_room v) a b) none

  -- where no words are asked for nothing refuses them
  pub none_refused : first (held_row (heap_graph v) a b) ≡ None → needs_no_words (heap_room v) a b ≡ true → first (exchange_row (heap_graph v) (heap_room v) x y) ≡ None
  none_refused none needless = piece_refused none ∙ ap (λ t. cond t None (unserved Anywhere (heap_room v) (exchange_words (heap_room v) a b))) needless

  -- what is said of the two is said of the values
  pub exchanges_named : (w : View) → Exchanges v w a b → Exchanges v w (name_of x) (name_of y)
  exchanges_named w is = subst (λ P. P) (sym (λ i. Exchanges v w (name_of (is_a i)) (name_of (is_b i)))) is

  pub writes_named : (w : View) → ExchangeWrites v w a b → ExchangeWrites v w (name_of x) (name_of y)
  writes_named w is = subst (λ P. P) (sym (λ i. ExchangeWrites v w (name_of (is_a i)) (name_of (is_b i)))) is

  pub exchanges_if : {X : Type 0} (w : View) (result : Result X Refusal) → IfOk result (λ _. Exchanges v w a b) → IfOk result (λ _. Exchanges v w (name_of x) (name_of y))
  exchanges_if w (Ok done) is = exchanges_named w is
  exchanges_if w (Err why) is = is

-- ---- what may be done

module _ (v : View) (a b : ℕ) (none : first (held_row (heap_graph v) a b) ≡ None) (apart : a ≢ b) where
  may : MayExchange (heap_graph v) a b
  may = may_exchange (heap_graph v) a b none

  pub can_move : stays_in_place (heap_room v) a b ≡ false → CanMoveOut v a b
  can_move unlike = record {
    apart = apart;
    unlike = unlike;
    plain = ((may.special).one, (may.special).other);
    mobile = ((may.pinned).one, (may.pinned).other);
    awake = ((may.waiting).one, (may.waiting).other);
  }

  pub can_exchange : IsOrdinary v a → IsOrdinary v b → stays_in_place (heap_room v) a b ≡ true → CanExchange v a b
  can_exchange there_a there_b alike = record {
    apart = apart;
    alike = alike;
    mobile = (
      ap (λ (n : Node). n.pinned) (sym (node_there v a there_a)) ∙ (may.pinned).one,
      ap (λ (n : Node). n.pinned) (sym (node_there v b there_b)) ∙ (may.pinned).other,
    );
    awake = ((may.waiting).one, (may.waiting).other);
  }

-- ---- what is left

same_room : (room : Room) → SameRoom room room (λ c. c)
same_room room = record { spots = λ c. refl; old_names = λ c. refl; rest = refl }

-- where no words are asked for, and the heap has this graph and the room of before
exchanges_by : (v w : View) (a b : ℕ) → IsWhole w → needs_no_words (heap_room v) a b ≡ true → heap_graph w ≡ exchanged (heap_graph v) a b → heap_room w ≡ heap_room v → Exchanges v w a b
exchanges_by v w a b whole needless graph room = (
  heap_room v,
  ap (λ t. cond t (Some (heap_room v)) (option_map (λ (s : Served). crossed_over (heap_room v) s.space a b s.room) (serve Anywhere (heap_room v) (exchange_words (heap_room v) a b)))) needless,
  record {
    whole = whole;
    place = λ c. c;
    back = λ c. c;
    graph = subst (λ h. Iso h (heap_graph w) (λ c. c) (λ c. c)) graph (itself (heap_graph w));
    figures = subst (λ r. SameRoom r (heap_room w) (λ c. c)) room (same_room (heap_room w));
  },
)

pub one_needs_none : (room : Room) (a b : ℕ) → a ≡ b → needs_no_words room a b ≡ true
one_needs_none room a b same = or_left (nat_eq a b) (stays_in_place room a b) (eq-eqb a b same)

pub alike_need_none : (room : Room) (a b : ℕ) → stays_in_place room a b ≡ true → needs_no_words room a b ≡ true
alike_need_none room a b alike = or_right (nat_eq a b) (stays_in_place room a b) alike

pub one_stays : (v : View) (a b : ℕ) → IsWhole v → a ≡ b → Exchanges v v a b
one_stays v a b whole same =
    exchanges_by v v a b whole (one_needs_none (heap_room v) a b same) (sym (ap (λ t. cond t (heap_graph v) (exchange (heap_graph v) a b)) (eq-eqb a b same))) refl

pub in_place : (v w : View) (a b : ℕ) → a ≢ b → IsWhole w → stays_in_place (heap_room v) a b ≡ true → heap_graph w ≡ exchange (heap_graph v) a b → heap_room w ≡ heap_room v → Exchanges v w a b
in_place v w a b apart whole alike graph room =
    exchanges_by v w a b whole (alike_need_none (heap_room v) a b alike) (graph ∙ sym (ap (λ t. cond t (heap_graph v) (exchange (heap_graph v) a b)) (ne_eqb a b apart))) room

pub writes_in_place : (v w : View) (a b : ℕ) → a ≢ b → ((j : ℕ) → IsOutside v a j → IsOutside v b j → get_or w.words j 0 ≡ get_or v.words j 0) → ExchangeWrites v w a b
writes_in_place v w a b apart others = record { one = λ e. absurd (apart e); in_place = λ needless. others; moved = λ j out_a out_b free eden. others j out_a out_b }
