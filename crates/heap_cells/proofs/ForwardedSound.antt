-- The store is sound once an object became a forwarder, and its mourners are as they have to be.
use Rattle.std.proofs.Common.{◌≡◌, ◌≢◌, ◌⊎◌, ℕ, true, false, not, ◌&&◌, ◌<◌, ltb, List, [], ◌∷◌, map, length, get_or, refl, sym, ap, ◌∙◌, subst, arith, inl, inr}
use Rattle.std.proofs.lemmas.Bool.{false≢true, cases_Bool, cases_eq, and_left, and_right, not_from_true}
use Rattle.std.proofs.lemmas.List.{length-map, get_or-map, get_or_default}
use Rattle.std.specs.List.{Contains}
use Rattle.spur_graph.specs.Become.{instead}
use Rattle.spur_graph.specs.Graph.{AreApart}
use Rattle.spur_graph.specs.Cells.{Moved, Store, is_start, is_moved, is_there, target_of, body_of, is_formed, pointer_count, first, final}
use Rattle.spur_graph.specs.Ordinary.{body_at, is_ordinary, is_bad_forwarder, is_bad_slot}
use Rattle.spur_graph.specs.Heaps.{IsSound, HasRoots, HasFired, AreMourners, waiting_in}
use Rattle.heap_cells.proofs.CellKinds.{there_starts}
use Rattle.heap_cells.proofs.Chains.{good_forwarder_ends, final-there}
use Rattle.heap_cells.proofs.ForwardedClasses.{bad_entry-none}
use Rattle.heap_cells.proofs.Forwarding.{Forwards, with_forwarder, forwarder_here, others_kept, a_there, b_there, b_kept, final-forwarded, start-same, root-same, internal-same, ordinary-other, ordinary-here, ordinary-instead, good-same, there_instead, bad_page-none}
use Rattle.heap_cells.proofs.References.{ordinary_apart}
use Rattle.heap_cells.proofs.Retargeting.{instead-here, instead-other}

-- where a mourner leads to `a`, `b` has fired and is none
pub record MayMourn (old : Store) (groups : List (List ℕ)) (a b : ℕ) : Type 0 where
  pub fired : Contains (map (final old) (waiting_in groups)) a → (body_at old b).format ≡ 1
  pub alone : Contains (map (final old) (waiting_in groups)) a → Contains (map (final old) (waiting_in groups)) b → ⊥

-- names that were apart are apart
instead_one : (a b x y : ℕ) → instead a b x ≡ instead a b y → (x ≡ y) ⊎ (((x ≡ a) × (y ≡ b)) ⊎ ((x ≡ b) × (y ≡ a)))
instead_one a b x y e = elim (cases_eq x a) [
  | inl p ↦ elim (cases_eq y a) [
    | inl q ↦ inl (p ∙ sym q)
    | inr n ↦ inr (inl (p, sym (instead-other a b y n) ∙ sym e ∙ instead-here a b x p))
  ]
  | inr m ↦ elim (cases_eq y a) [
    | inl q ↦ inr (inr (sym (instead-other a b x m) ∙ e ∙ instead-here a b y q, q))
    | inr n ↦ inl (sym (instead-other a b x m) ∙ e ∙ instead-other a b y n)
  ]
]

apart_kept : (a b : ℕ) (xs : List ℕ) → AreApart xs → (Contains xs a → Contains xs b → ⊥) → AreApart (map (instead a b) xs)
apart_kept a b xs apart alone i j d l m e =
    let n : j < length xs = omega (arith, m, length-map xs (instead a b)) in
    let o : i < length xs = omega (arith, l, n) in
    let same : instead a b (get_or xs i d) ≡ instead a b (get_or xs j d) = sym (get_or-map (instead a b) xs i d d o) ∙ e ∙ get_or-map (instead a b) xs j d d n in
    let has : (k : ℕ) (x : ℕ) → k < length xs → get_or xs k d ≡ x → Contains xs x = λ k x k' q. (k, k', within k x k' q) in
    elim (instead_one a b (get_or xs i d) (get_or xs j d) same) [
      | inl q ↦ apart i j d l n q
      | inr q ↦ elim q [
        | inl r ↦ alone (has i a o r.0) (has j b n r.1)
        | inr r ↦ alone (has j a n r.1) (has i b o r.0)
      ]
    ]
  where
    within : (k x : ℕ) → k < length xs → get_or xs k d ≡ x → get_or xs k x ≡ x
    within k x l q = get_or_default xs k x d l ∙ q

module _ {old : Store} {a b : ℕ} (k : Forwards old a b) where
  abbrev new : Store
  new = with_forwarder old a b

  slot-none : (t i : ℕ) → is_bad_slot new t i ≡ false
  slot-none t i = elim (cases_eq t a) [
    | inl e ↦ and_left _ _ (and_left _ _ (ap (is_ordinary new) e ∙ ordinary-here k))
    | inr n ↦ (λ x. ordinary-other k t n x && ltb i (pointer_count (body_of (others_kept k t n x))) && not (good-same k (get_or (body_of (others_kept k t n x)).words i 0) x)) ∙ k.sound.slots t i
  ]

  targets : (t u : ℕ) → new.cell t ≡ Moved u → is_start (new.cell u) ≡ true
  targets t u e = elim (cases_eq t a) [
    | inl is ↦
        let at : b ≡ u = ap target_of (sym (forwarder_here k) ∙ ap new.cell (sym is) ∙ e) in
        ap (λ x. is_start (new.cell x)) (sym at) ∙ start-same k b ∙ there_starts (old.cell b) (b_there k)
    | inr n ↦ start-same k u ∙ k.sound.targets t u (sym (others_kept k t n) ∙ e)
  ]

  ends : (t : ℕ) → is_bad_forwarder new t ≡ false
  ends t = elim (cases_Bool (is_moved (new.cell t))) [
    | inr off ↦ and_left (is_moved (new.cell t)) _ off
    | inl on ↦ and_right (is_moved (new.cell t)) _ (not_from_true _ (ap (λ u. is_there (new.cell u)) (final-forwarded k t) ∙ there_instead k (final old t) (elim (cases_eq t a) [
      | inl e ↦ ap (λ u. is_there (old.cell (final old u))) e ∙ ap (λ u. is_there (old.cell u)) (final-there old a (a_there k)) ∙ a_there k
      | inr n ↦ good_forwarder_ends old t (k.sound.ends t) (sym (ap is_moved (others_kept k t n)) ∙ on)
    ])))
  ]

  first_apart : (j : ℕ) → j < 5 → first old j ≢ a
  first_apart j l e =
      let o = ordinary_apart old a k.from in
      elim (cases_eq j 4) [
        | inl four ↦ o.0 (sym e ∙ ap (first old) four)
        | inr n ↦ elim (cases_eq j 3) [
          | inl three ↦ o.1 (sym e ∙ ap (first old) three)
          | inr m ↦ k.plain j (omega (arith, l, n, m)) (sym e)
        ]
      ]

  first_cell : (j : ℕ) → j < 5 → new.cell (first old j) ≡ old.cell (first old j)
  first_cell j l = others_kept k (first old j) (first_apart j l)

  roots : HasRoots new
  roots = record {
    five = k.sound.roots.five;
    objects = λ j l. ap is_there (first_cell j l) ∙ k.sound.roots.objects j l;
    outer = λ j l. internal-same k (first old j) ∙ k.sound.roots.outer j l;
    lists = let e : (body_at new (first old 3)).format ≡ (body_at old (first old 3)).format = ap (λ c. (body_of c).format) (first_cell 3 (omega arith)) in let l = k.sound.roots.lists in omega (arith, e, l);
    roots = (ap (λ c. (body_of c).format) (first_cell 4 (omega arith)) ∙ k.sound.roots.roots.0, ap (λ c. length (body_of c).words) (first_cell 4 (omega arith)) ∙ k.sound.roots.roots.1);
    tops = λ i m l. root-same k i ∙ k.sound.roots.tops i m l;
    pages = bad_page-none k;
    entries = bad_entry-none k;
  }

  pub forwarded-sound : IsSound (with_forwarder old a b)
  forwarded-sound = record {
    formed = λ t on. elim (cases_eq t a) [
      | inl e ↦ absurd (false≢true (sym (ap is_there (forwarder_here k)) ∙ ap (λ u. is_there (new.cell u)) (sym e) ∙ on))
      | inr n ↦ ap (λ c. is_formed (body_of c)) (others_kept k t n) ∙ k.sound.formed t (sym (ap is_there (others_kept k t n)) ∙ on)
    ];
    targets = targets;
    ends = ends;
    roots = roots;
    slots = slot-none;
  }

  -- ---- mourners

  module _ (groups : List (List ℕ)) (may : MayMourn old groups a b) where
    fired-kept : (t : ℕ) → Contains (map (final old) (waiting_in groups)) (final old t) → HasFired old t → HasFired new t
    fired-kept t m f = record {
      ordinary = ap (is_ordinary new) (final-forwarded k t) ∙ ordinary-instead k (final old t) ∙ f.ordinary;
      format = ap (λ u. (body_at new u).format) (final-forwarded k t) ∙ elim (cases_eq (final old t) a) [
        | inl e ↦ ap (λ u. (body_at new u).format) (instead-here a b (final old t) e) ∙ ap (λ c. (body_of c).format) (b_kept k) ∙ may.fired (subst (Contains (map (final old) (waiting_in groups))) e m)
        | inr n ↦ ap (λ u. (body_at new u).format) (instead-other a b (final old t) n) ∙ ap (λ c. (body_of c).format) (others_kept k (final old t) n) ∙ f.format
      ];
    }

    pub forwarded-mourners : AreMourners old groups → AreMourners (with_forwarder old a b) groups
    forwarded-mourners m = record {
      some = m.some;
      fired = λ i d l. fired-kept (get_or (waiting_in groups) i d) (listed i d l) (m.fired i d l);
      apart = subst (λ (ts : List ℕ). AreApart ts) (sym (twice (waiting_in groups))) (apart_kept a b (map (final old) (waiting_in groups)) m.apart may.alone);
    }
      where
        twice : (xs : List ℕ) → map (final new) xs ≡ map (instead a b) (map (final old) xs)
        twice [] = refl
        twice (x ∷ xs) = λ i. final-forwarded k x i ∷ twice xs i

        listed : (i d : ℕ) → i < length (waiting_in groups) → Contains (map (final old) (waiting_in groups)) (final old (get_or (waiting_in groups) i d))
        listed i d l = (i, omega (arith, l, length-map (waiting_in groups) (final old)), get_or-map (final old) (waiting_in groups) i d (final old (get_or (waiting_in groups) i d)) l)
