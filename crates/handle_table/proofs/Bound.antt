-- The map that handles and their words make.
use Rattle.std.proofs.Common.{◌≡◌, ◌≢◌, ◌<◌, ℕ, zero, suc, ◌+◌, ◌-◌, Bool, true, false, cond, List, [], ◌∷◌, ◌++◌, map, length, slice_index, slice_set, swap_remove, is_some, Option, None, Some, ◌⊎◌, ◌↔◌, ◌==◌, IsTrue, refl, sym, ap, ◌∙◌, inl, inr, arith, subst, true≢false}
use Rattle.std.specs.Option.{option_map}
use Rattle.std.specs.List.{All, zip}
use Rattle.std.specs.Ordering.{eq_by_cmp}
use Rattle.std.specs.FinMap.{FinMap, get, insert, remove, len, empty, from_entries, same_map, get-insert, get-remove, get-empty, get-from_entries, len-insert, len-empty, empty_of_len, from_entries_push}
use Rattle.std.proofs.lemmas.List.{get_or-set_same, get_or-set_other, length-set}
use Rattle.std.proofs.lemmas.Bool.{cases_eq, eq-eqb, ne_eqb, false≢true}
use Rattle.std.proofs.lemmas.Option.{same_Some}
use Rattle.std.proofs.lemmas.Cmp.{eq_by_cmp_equiv}
use Rattle.std.specs.Cmp.{Equal-is}
use Rattle.handle_table.proofs.SwapRemove.{StoodAt, StandsAt, stood_at, stands_at, apart-swap_remove, length-swap_remove}
use Rattle.spur_graph.proofs.HandleMaps.{exact_handles}
use Rattle.spur_graph.specs.Graph.{Handle, handle_cmp}
use Rattle.spur_graph.specs.Handles.{handles_total}
use Rattle.handle_table.specs.Handles.{no_handle, handle_at, AreDistinct, IsAbsent, IsHeldAt, bound}

abbrev is_handle : Handle → Handle → Bool
is_handle = eq_by_cmp handle_cmp

same_is_true : (k : Handle) → is_handle k k ≡ true
same_is_true k = (eq_by_cmp_equiv handles_total).refl k

true_is_same : (q k : Handle) → is_handle q k ≡ true → q ≡ k
true_is_same q k e = exact_handles q k ((Equal-is (handle_cmp q k)).0 e)

-- two handles are one, or the order tells them apart
handle_cases : (q k : Handle) → ((q ≡ k) × (is_handle q k ≡ true)) ⊎ ((q ≢ k) × (is_handle q k ≡ false))
handle_cases q k = by (is_handle q k) refl
  where
    by : (b : Bool) → is_handle q k ≡ b → ((q ≡ k) × (is_handle q k ≡ true)) ⊎ ((q ≢ k) × (is_handle q k ≡ false))
    by true e = inl (true_is_same q k e, e)
    by false e = inr ((λ z. true≢false (sym (same_is_true k) ∙ ap (λ (h : Handle). is_handle h k) (sym z) ∙ e)), e)

module _ (m : FinMap handle_cmp ℕ) (k : Handle) where
  pub get-insert_same : (w : ℕ) → get (insert m k w) k ≡ Some w
  get-insert_same w = get-insert handles_total m k w k ∙ ap (λ (b : Bool). cond b (Some w) (get m k)) (same_is_true k)

  pub get-insert_other : (w : ℕ) (q : Handle) → q ≢ k → get (insert m k w) q ≡ get m q
  get-insert_other w q ne = elim (handle_cases q k) [
    | inl c ↦ absurd (ne c.0)
    | inr c ↦ get-insert handles_total m k w q ∙ ap (λ (b : Bool). cond b (Some w) (get m q)) c.1
  ]

  pub get-remove_same : get (remove m k) k ≡ None
  get-remove_same = get-remove handles_total m k k ∙ ap (λ (b : Bool). cond b None (get m k)) (same_is_true k)

  pub get-remove_other : (q : Handle) → q ≢ k → get (remove m k) q ≡ get m q
  get-remove_other q ne = elim (handle_cases q k) [
    | inl c ↦ absurd (ne c.0)
    | inr c ↦ get-remove handles_total m k q ∙ ap (λ (b : Bool). cond b None (get m q)) c.1
  ]

tail_distinct : (k : Handle) (ks : List Handle) → AreDistinct (k ∷ ks) → AreDistinct ks
tail_distinct k ks d a b l m e = let one : suc a ≡ suc b = d (suc a) (suc b) (omega arith) (omega arith) e in omega arith

-- each handle has its word
pub get-bound : (ks : List Handle) (ws : List ℕ) (n : ℕ) → AreDistinct ks → length ks ≡ length ws → n < length ks → get (bound ks ws) (handle_at ks n) ≡ Some (slice_index ws n)
get-bound [] ws n d e l = absurd (omega arith)
get-bound (k ∷ ks) [] n d e l = absurd (omega arith)
get-bound (k ∷ ks) (w ∷ ws) zero d e l = get-insert_same (bound ks ws) k w
get-bound (k ∷ ks) (w ∷ ws) (suc n) d e l =
    get-insert_other (bound ks ws) k w (handle_at ks n) (λ z. let one : suc n ≡ zero = d (suc n) zero l (omega arith) z in omega arith)
    ∙ get-bound ks ws n (tail_distinct k ks d) (omega arith) (omega arith)

-- and no other has one
pub get-bound_absent : (ks : List Handle) (ws : List ℕ) (q : Handle) → IsAbsent ks q → get (bound ks ws) q ≡ None
get-bound_absent [] ws q h = get-empty handle_cmp q
get-bound_absent (k ∷ ks) [] q h = get-empty handle_cmp q
get-bound_absent (k ∷ ks) (w ∷ ws) q h =
    get-insert_other (bound ks ws) k w q (λ z. h zero (omega arith) (sym z)) ∙ get-bound_absent ks ws q (λ n l e. h (suc n) (omega arith) e)

pub get-bound_held : (ks : List Handle) (ws : List ℕ) (k : Handle) (n : ℕ) → AreDistinct ks → length ks ≡ length ws → IsHeldAt ks k n → get (bound ks ws) k ≡ Some (slice_index ws n)
get-bound_held ks ws k n d e h = ap (get (bound ks ws)) (sym h.is) ∙ get-bound ks ws n d e h.within

-- a handle stands at some index or at none
where_held : (ks : List Handle) (q : Handle) → ((n : ℕ) × IsHeldAt ks q n) ⊎ IsAbsent ks q
where_held [] q = inr (λ n l. absurd (omega arith))
where_held (k ∷ ks) q = elim (handle_cases k q) [
  | inl c ↦ inl (zero, record { within = omega arith; is = c.0 })
  | inr c ↦ elim (where_held ks q) [
    | inl h ↦ inl (suc h.0, record { within = let l : h.0 < length ks = h.1.within in omega arith; is = h.1.is })
    | inr h ↦ inr (λ n l e. by n l e c.0 h)
  ]
]
  where
    by : (n : ℕ) → n < length (k ∷ ks) → handle_at (k ∷ ks) n ≡ q → k ≢ q → IsAbsent ks q → ⊥
    by zero l e ne h = ne e
    by (suc n) l e ne h = h n (omega arith) e

-- a map with the same words at these handles, and none at others, is the same
same_bound : (ks : List Handle) (ws : List ℕ) (m : FinMap handle_cmp ℕ) → AreDistinct ks → length ks ≡ length ws
    → ((n : ℕ) → n < length ks → get m (handle_at ks n) ≡ Some (slice_index ws n)) → ((q : Handle) → IsAbsent ks q → get m q ≡ None) → bound ks ws ≡ m
same_bound ks ws m d e here none = same_map handles_total exact_handles (bound ks ws) m (λ q. elim (where_held ks q) [
  | inl h ↦ get-bound_held ks ws q h.0 d e h.1 ∙ sym (here h.0 h.1.within) ∙ ap (get m) h.1.is
  | inr h ↦ get-bound_absent ks ws q h ∙ sym (none q h)
])

-- a handle that is held is bound anew
pub bound-set : (ks : List Handle) (ws : List ℕ) (k : Handle) (n w : ℕ) → AreDistinct ks → length ks ≡ length ws → IsHeldAt ks k n → bound ks (slice_set ws n w) ≡ insert (bound ks ws) k w
bound-set ks ws k n w d e h =
    let within : n < length ks = h.within in
    same_bound ks (slice_set ws n w) (insert (bound ks ws) k w) d (e ∙ sym (length-set ws n w))
    (λ a l. elim (cases_eq a n) [
      | inl p ↦ ap (λ (i : ℕ). get (insert (bound ks ws) k w) (handle_at ks i)) p ∙ ap (get (insert (bound ks ws) k w)) h.is ∙ get-insert_same (bound ks ws) k w
          ∙ ap Some (sym (get_or-set_same ws n w 0 (omega arith)) ∙ ap (λ (i : ℕ). slice_index (slice_set ws n w) i) (sym p))
      | inr p ↦ get-insert_other (bound ks ws) k w (handle_at ks a) (λ z. p (d a n l within (z ∙ sym h.is))) ∙ get-bound ks ws a d e l ∙ ap Some (sym (get_or-set_other ws n a w 0 p))
    ])
    (λ q none. get-insert_other (bound ks ws) k w q (λ z. none n within (h.is ∙ sym z)) ∙ get-bound_absent ks ws q none)

zip-append : (ks : List Handle) (ws : List ℕ) (k : Handle) (w : ℕ) → length ks ≡ length ws → zip (ks ++ k ∷ []) (ws ++ w ∷ []) ≡ zip ks ws ++ (k, w) ∷ []
zip-append [] [] k w e = refl
zip-append [] (x ∷ ws) k w e = absurd (omega arith)
zip-append (x ∷ ks) [] k w e = absurd (omega arith)
zip-append (x ∷ ks) (y ∷ ws) k w e = ap (λ (es : List (Handle × ℕ)). (x, y) ∷ es) (zip-append ks ws k w (omega arith))

-- a new handle is bound
pub bound-append : (ks : List Handle) (ws : List ℕ) (k : Handle) (w : ℕ) → length ks ≡ length ws → IsAbsent ks k → bound (ks ++ k ∷ []) (ws ++ w ∷ []) ≡ insert (bound ks ws) k w
bound-append ks ws k w e none =
    ap from_entries (zip-append ks ws k w e)
    ∙ from_entries_push handles_total exact_handles (zip ks ws) k w (sym (get-from_entries handles_total (zip ks ws) k) ∙ get-bound_absent ks ws k none)

-- a handle is bound no longer
pub bound-swap_remove : (ks : List Handle) (ws : List ℕ) (k : Handle) (n w : ℕ) → AreDistinct ks → length ks ≡ length ws → IsHeldAt ks k n → bound (swap_remove ks n k) (swap_remove ws n w) ≡ remove (bound ks ws) k
bound-swap_remove ks ws k n w d e h =
    let within : n < length ks = h.within in
    let old : FinMap handle_cmp ℕ = bound ks ws in
    let left : List Handle = swap_remove ks n k in
    let rest : List ℕ = swap_remove ws n w in
    let count : length left + 1 ≡ length ks = length-swap_remove ks n k within in
    let count_words : length rest + 1 ≡ length ws = length-swap_remove ws n w (omega arith) in
    same_bound left rest (remove old k) (apart-swap_remove (λ (h : Handle). h) ks n k no_handle within d) (omega arith)
    (λ a l.
    let s : StoodAt ks left n a = stood_at ks n k within a (omega arith) in
    let t : StoodAt ws rest n a = stood_at ws n w (omega arith) a (omega arith) in
    let one : s.before ≡ t.before = elim (cases_eq a n) [
      | inl p ↦ let u : s.before ≡ length ks - 1 = s.moved p in let v : t.before ≡ length ws - 1 = t.moved p in omega arith
      | inr p ↦ s.kept p ∙ sym (t.kept p)
    ] in
    ap (get (remove old k)) (s.same no_handle) ∙ get-remove_other old k (handle_at ks s.before) (λ z. s.other (d s.before n s.below within (z ∙ sym h.is)))
    ∙ get-bound ks ws s.before d e s.below ∙ ap (λ (i : ℕ). Some (slice_index ws i)) one ∙ ap Some (sym (t.same 0)))
    (λ q none. elim (handle_cases q k) [
      | inl c ↦ ap (get (remove old k)) c.0 ∙ get-remove_same old k
      | inr c ↦ get-remove_other old k q c.0 ∙ get-bound_absent ks ws q (λ j l z.
          let t : StandsAt ks left j = stands_at ks n k within j l (λ y. c.0 (sym z ∙ ap (handle_at ks) y ∙ h.is)) in
          let inside : t.after + 1 < length ks = t.within in
          none t.after (omega arith) (t.same no_handle ∙ z))
    ])

-- there are as many bindings as handles
pub len-bound : (ks : List Handle) (ws : List ℕ) → AreDistinct ks → length ks ≡ length ws → len (bound ks ws) ≡ length ks
len-bound [] ws d e = len-empty handle_cmp ℕ
len-bound (k ∷ ks) [] d e = absurd (omega arith)
len-bound (k ∷ ks) (w ∷ ws) d e =
    let rest : len (bound ks ws) ≡ length ks = len-bound ks ws (tail_distinct k ks d) (omega arith) in
    let new : get (bound ks ws) k ≡ None = get-bound_absent ks ws k (λ n l z. let one : suc n ≡ zero = d (suc n) zero (omega arith) (omega arith) z in omega arith) in
    let grown : len (insert (bound ks ws) k w) ≡ len (bound ks ws) + 1 = len-insert handles_total (bound ks ws) k w ∙ ap (λ (o : Option ℕ). cond (is_some o) (len (bound ks ws)) (len (bound ks ws) + 1)) new in
    omega arith

pub bound_or_before : (m : FinMap handle_cmp ℕ) (k q : Handle) (w v : ℕ) → get (insert m k w) q ≡ Some v → (v ≡ w) ⊎ (get m q ≡ Some v)
bound_or_before m k q w v e = elim (handle_cases q k) [
  | inl c ↦ inl (same_Some _ _ (sym e ∙ ap (get (insert m k w)) c.0 ∙ get-insert_same m k w))
  | inr c ↦ inr (sym (get-insert_other m k w q c.0) ∙ e)
]

pub before_removed : (m : FinMap handle_cmp ℕ) (k q : Handle) (v : ℕ) → get (remove m k) q ≡ Some v → get m q ≡ Some v
before_removed m k q v e = elim (handle_cases q k) [
  | inl c ↦ let no : None ≡ Some v = sym (ap (get (remove m k)) c.0 ∙ get-remove_same m k) ∙ e in absurd (let f : ⊥ = cc in f)
  | inr c ↦ sym (get-remove_other m k q c.0) ∙ e
]

-- to remove what is not there changes nothing
pub remove-absent : (m : FinMap handle_cmp ℕ) (k : Handle) → get m k ≡ None → m ≡ remove m k
remove-absent m k none = same_map handles_total exact_handles m (remove m k) (λ q. elim (handle_cases q k) [
  | inl c ↦ ap (get m) c.0 ∙ none ∙ sym (ap (get (remove m k)) c.0 ∙ get-remove_same m k)
  | inr c ↦ sym (get-remove_other m k q c.0)
])

pub no_some : {v : ℕ} {o : Option ℕ} → o ≡ Some v → o ≢ None
no_some {v} {o} e f = let g : ⊥ = cc in g

-- a map of no bindings is the empty one
pub is_empty_map : (m : FinMap handle_cmp ℕ) (n : ℕ) → n ≡ len m → IsTrue (n == 0) ↔ (m ≡ empty)
is_empty_map m n e = elim (cases_eq n 0) [
  | inl z ↦ ((λ _. empty_of_len m (sym e ∙ z)), (λ _. eq-eqb n 0 z))
  | inr z ↦ ((λ t. absurd (false≢true (sym (ne_eqb n 0 z) ∙ t))), (λ is. absurd (z (e ∙ ap len is ∙ len-empty handle_cmp ℕ))))
]

-- a word that a handle has is one of the words
pub bound-among : (ks : List Handle) (ws : List ℕ) (q : Handle) (v : ℕ) → get (bound ks ws) q ≡ Some v → (i : ℕ) × (i < length ws) × (slice_index ws i ≡ v)
bound-among [] ws q v e = absurd (no_some e (get-empty handle_cmp q))
bound-among (k ∷ ks) [] q v e = absurd (no_some e (get-empty handle_cmp q))
bound-among (k ∷ ks) (w ∷ ws) q v e = elim (handle_cases q k) [
  | inl c ↦ (zero, omega arith, same_Some _ _ (sym (get-insert_same (bound ks ws) k w) ∙ ap (get (insert (bound ks ws) k w)) (sym c.0) ∙ e))
  | inr c ↦ let a = bound-among ks ws q v (sym (get-insert_other (bound ks ws) k w q c.0) ∙ e) in (suc a.0, omega (arith, a.1), a.2)
]

pub bound-below : (most : ℕ) (ks : List Handle) (ws : List ℕ) (q : Handle) (v : ℕ) → All (λ w. w < most) ws → get (bound ks ws) q ≡ Some v → v < most
bound-below most ks ws q v all e = let a = bound-among ks ws q v e in subst (λ x. x < most) a.2 (all a.0 0 a.1)

-- where each word is mapped, so is that of each handle
pub get-bound_map : (f : ℕ → ℕ) (ks : List Handle) (ws : List ℕ) (q : Handle) → get (bound ks (map f ws)) q ≡ option_map f (get (bound ks ws) q)
get-bound_map f [] ws q = get-empty handle_cmp q ∙ sym (ap (option_map f) (get-empty handle_cmp q))
get-bound_map f (k ∷ ks) [] q = get-empty handle_cmp q ∙ sym (ap (option_map f) (get-empty handle_cmp q))
get-bound_map f (k ∷ ks) (w ∷ ws) q = elim (handle_cases q k) [
  | inl c ↦
      ap (get (insert (bound ks (map f ws)) k (f w))) c.0 ∙ get-insert_same (bound ks (map f ws)) k (f w)
      ∙ sym (ap (option_map f) (ap (get (insert (bound ks ws) k w)) c.0 ∙ get-insert_same (bound ks ws) k w))
  | inr c ↦ get-insert_other (bound ks (map f ws)) k (f w) q c.0 ∙ get-bound_map f ks ws q ∙ sym (ap (option_map f) (get-insert_other (bound ks ws) k w q c.0))
]
