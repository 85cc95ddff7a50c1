-- The chain of segments, one segment more.
use Rattle.std.proofs.Common.{◌≡◌, ◌≢◌, inl, inr, ℕ, suc, ◌+◌, ◌-◌, ◌*◌, ◌%◌, ◌≤◌, ◌<◌, List, [], ◌∷◌, ◌++◌, length, arith, refl, subst, sym, ap, ◌∙◌, true, false, Bool, Result, Ok, Err, IsErr, ◌↔◌, nat_eq, not, ◌||◌, append_assoc, length-append, if◌then◌else◌}
use mathlib.Core.Bool.{not-not}
use Rattle.std.proofs.lemmas.Bool.{both_ways, cases_eq, cases_lt, false≢true, not-false, or_parts}
use Rattle.std.proofs.lemmas.Bool.Decides.{nat_tests}
use Rattle.std.specs.Int.{w64}
use Rattle.spur_graph.specs.Bytes.{number}
use Rattle.spur_graph.specs.ImageFile.{header_bytes, heap_bytes, base}
use Rattle.spur_graph.specs.Segments.{Segment, segment, segments, chain, most_segments, is_good, is_last, is_bad_size, gap_of, next_of, left, first_size, total_words}
use Rattle.spur_graph.specs.ImageCauses.{Comes, IsBadLink, IsLeast, is_bad_segment, behind}
use Rattle.heap_segments.specs.Rising.{end_address, end_place, is_refused}
use Rattle.heap_segments.specs.Bridges.{told}
use Rattle.heap_segments.proofs.Chained.{linked, chain-cut, segment-first, segment-next, segments-chain}
use Rattle.heap_segments.specs.declared.bridge.Next.{Next}
use Rattle.heap_segments.specs.declared.bridge.Next.TheVariants as next
use Rattle.heap_segments.specs.declared.bridge.SegmentFault.{SegmentFault}
use Rattle.heap_segments.specs.declared.bridge.SegmentFault.TheVariants.{End}
use Rattle.image_header.specs.declared.header.ImageHeader.{ImageHeader}
use Rattle.image_header.specs.Headers.{IsHeaderOf}
use Rattle.image_file.specs.declared.chain.Link.{Link}
use Rattle.image_file.specs.Linked.{IsReady, Leads, IsBadAt, IsChain, EndsEarly, segment_of}

-- a bridge that ends the chain, one that tells of a segment, and one that leaves bytes over
abbrev choice : Bool → Bool → ℕ → Next → Result Next SegmentFault
choice a b n s = if a then (if b then Ok next.Last else Err (End n)) else Ok s

choice_last : (a b : Bool) (n address size : ℕ) → choice a b n (next.Segment address size) ≡ Ok next.Last → (a ≡ true) × (b ≡ true)
choice_last true true n address size is = (refl, refl)
choice_last true false n address size is = cc
choice_last false b n address size is = cc

choice_next : (a b : Bool) (n address size there behind : ℕ) → choice a b n (next.Segment address size) ≡ Ok (next.Segment there behind) → (a ≡ false) × (there ≡ address) × (behind ≡ size)
choice_next true true n address size there behind is = cc
choice_next true false n address size there behind is = cc
choice_next false b n address size there behind is = (refl, cc, cc)

choice_end : (a b : Bool) (n address size : ℕ) (fault : SegmentFault) → choice a b n (next.Segment address size) ≡ Err fault → (a ≡ true) × (b ≡ false)
choice_end true true n address size fault is = cc
choice_end true false n address size fault is = (refl, refl)
choice_end false b n address size fault is = cc

chain_more : (bytes : List ℕ) (i m : ℕ) → is_good bytes (segment bytes i) ≡ true → is_last bytes (segment bytes i) ≡ false → chain bytes i (suc m) ≡ segment bytes i ∷ chain bytes (i + 1) m
chain_more bytes i m good more = chain-cut bytes i m ∙ (λ k. linked (good k) (more k) (segment bytes i) (chain bytes (i + 1) m))

chain_last : (bytes : List ℕ) (i m : ℕ) → is_good bytes (segment bytes i) ≡ true → is_last bytes (segment bytes i) ≡ true → chain bytes i (suc m) ≡ segment bytes i ∷ []
chain_last bytes i m good last = chain-cut bytes i m ∙ (λ k. linked (good k) (last k) (segment bytes i) (chain bytes (i + 1) m))

-- the chain comes to one segment more
comes_next : (bytes : List ℕ) (n : ℕ) → Comes bytes n → is_good bytes (segment bytes n) ≡ true → is_last bytes (segment bytes n) ≡ false → Comes bytes (n + 1)
comes_next bytes n comes good more j lt = elim (cases_eq j n) [
  | inl same ↦
      let P : ℕ → Type 0 = λ k. (is_good bytes (segment bytes k) ≡ true) × (is_last bytes (segment bytes k) ≡ false) in
      subst P (sym same) (good, more)
  | inr other ↦ comes j (omega (arith, lt, other))
]

-- a segment that the chain goes on behind is not bad
passed : (bytes : List ℕ) (m : ℕ) → m < most_segments → (is_good bytes (segment bytes m) ≡ true) × (is_last bytes (segment bytes m) ≡ false) → IsBadLink bytes m → ⊥
passed bytes m few good bad = elim bad [
  | inl stands ↦ small (nat_eq m most_segments) (is_good bytes (segment bytes m)) (grind (arith, nat_tests)) good.0 stands
  | inr ends ↦ both_ways (is_last bytes (segment bytes m)) good.1 ends.0
]
  where
    small : (a b : Bool) → a ≡ false → b ≡ true → (a || not b) ≡ true → ⊥
    small true b off on is = cc
    small false true off on is = cc
    small false false off on is = cc

-- the first bad segment is the one that the chain comes to
pub least_bad : (bytes : List ℕ) (n : ℕ) → n ≤ most_segments → Comes bytes n → IsBadLink bytes n → IsLeast (IsBadAt bytes) n
least_bad bytes n few comes bad = record {
  is = (comes, bad);
  none = λ m lt early. passed bytes m (omega (arith, lt, few)) (comes m lt) early.1;
}

-- no segment of a chain that ends with the heap is bad
pub none_bad : (bytes : List ℕ) (n : ℕ) → n < most_segments → Comes bytes n → is_bad_segment bytes n ≡ false → is_last bytes (segment bytes n) ≡ true → behind bytes n ≡ 0
    → (i : ℕ) → IsBadAt bytes i → ⊥
none_bad bytes n few comes stands last all i bad = elim (cases_lt i n) [
  | inl lt ↦ passed bytes i (omega (arith, lt, few)) (comes i lt) bad.1
  | inr le ↦ elim (cases_eq i n) [
    | inl same ↦ here (subst (λ (k : ℕ). IsBadLink bytes k) same bad.1)
    | inr other ↦ both_ways (is_last bytes (segment bytes n)) (bad.0 n (omega (arith, le, other))).1 last
  ]
]
  where
    here : IsBadLink bytes n → ⊥
    here link = elim link [ inl is ↦ both_ways (is_bad_segment bytes n) stands is | inr ends ↦ ends.1 all ]

-- what a map refuses is what the chain refuses
refused_is : (bytes : List ℕ) (map : List Segment) (l : Link) (end : ℕ) → Leads bytes map l → end ≡ header_bytes + heap_bytes bytes → is_bad_segment bytes (length map) ≡ is_refused map (end - l.place) l.size l.address
refused_is bytes map l end leads is =
    let Test : Segment → Bool = λ s. nat_eq (length map) most_segments || not (is_good bytes s) in
    let Size : ℕ → Bool = λ e. nat_eq (length map) most_segments || not (not (is_bad_size (e - l.place) l.size l.address)) in
    ap Test leads.next ∙ (ap Size (sym is) ∙ ap (λ b. nat_eq (length map) most_segments || b) (not-not (is_bad_size (end - l.place) l.size l.address)))

-- a segment was entered, and the two words of its bridge were read
pub record IsEntered (bytes : List ℕ) (map later : List Segment) (l : Link) (end first second : ℕ) : Type 0 where
  pub end_is : end ≡ header_bytes + heap_bytes bytes
  pub leads : Leads bytes map l
  pub fits : is_refused map (end - l.place) l.size l.address ≡ false
  pub later_is : later ≡ map ++ segment_of l ∷ []
  pub first_is : first ≡ number w64 (l.place + l.size - 16) bytes
  pub second_is : second ≡ number w64 (l.place + l.size - 8) bytes

stands : (bytes : List ℕ) (map later : List Segment) (l : Link) (end first second : ℕ) → IsEntered bytes map later l end first second → is_bad_segment bytes (length map) ≡ false
stands bytes map later l end first second e = refused_is bytes map l end e.leads e.end_is ∙ e.fits

good : (bytes : List ℕ) (map later : List Segment) (l : Link) (end first second : ℕ) → IsEntered bytes map later l end first second → is_good bytes (segment bytes (length map)) ≡ true
good bytes map later l end first second e = not-false (is_good bytes (segment bytes (length map))) (or_parts (nat_eq (length map) most_segments) (not (is_good bytes (segment bytes (length map)))) (stands bytes map later l end first second e)).1

few : (bytes : List ℕ) (map later : List Segment) (l : Link) (end first second : ℕ) → IsEntered bytes map later l end first second → length map ≤ most_segments → length map < most_segments
few bytes map later l end first second e most =
    let other : nat_eq (length map) most_segments ≡ false = (or_parts (nat_eq (length map) most_segments) (not (is_good bytes (segment bytes (length map)))) (stands bytes map later l end first second e)).0 in
    let apart : length map ≢ most_segments = grind (arith, nat_tests) in
    omega (arith, most, apart)

last_is : (bytes : List ℕ) (map later : List Segment) (l : Link) (end first second : ℕ) → IsEntered bytes map later l end first second → is_last bytes (segment bytes (length map)) ≡ nat_eq second 0
last_is bytes map later l end first second e = ap (is_last bytes) e.leads.next ∙ ap (λ n. nat_eq n 0) (sym e.second_is)

behind_is : (bytes : List ℕ) (map later : List Segment) (l : Link) (end first second : ℕ) → IsEntered bytes map later l end first second → behind bytes (length map) ≡ end - (l.place + l.size)
behind_is bytes map later l end first second e =
    let Behind : Segment → ℕ = λ s. left bytes s - s.size in
    ap Behind e.leads.next ∙ (ap (λ n. n - l.place - l.size) (sym e.end_is) ∙ (let same : end - l.place - l.size ≡ end - (l.place + l.size) = omega arith in same))

-- the chain goes on
pub leads_next : (bytes : List ℕ) (map later : List Segment) (l : Link) (end first second address size : ℕ) → length map ≤ most_segments → IsEntered bytes map later l end first second
    → told first second (end - (l.place + l.size)) (l.address + l.size) ≡ Ok (next.Segment address size) → Leads bytes later (record { place = l.place + l.size; size = size; address = address })
leads_next bytes map later l end first second address size most e is =
    let n : ℕ = length map in
    let chosen = choice_next (nat_eq second 0) (nat_eq (end - (l.place + l.size)) 0) (end - (l.place + l.size)) (l.address + l.size + 8 * gap_of first) second address size is in
    let stood = good bytes map later l end first second e in
    let more : is_last bytes (segment bytes n) ≡ false = last_is bytes map later l end first second e ∙ chosen.0 in
    let count : length later ≡ n + 1 = omega (arith, ap length e.later_is, length-append map (segment_of l ∷ [])) in
    let below : n < most_segments = few bytes map later l end first second e most in
    let turns : most_segments - n ≡ suc (most_segments - (n + 1)) = omega (arith, below) in
    let there : address ≡ l.address + l.size + 8 * gap_of (number w64 (l.place + l.size - 16) bytes) = chosen.1 ∙ ap (λ w. l.address + l.size + 8 * gap_of w) e.first_is in
    let sized : size ≡ number w64 (l.place + l.size - 8) bytes = chosen.2 ∙ e.second_is in
    let Link_is : ℕ → ℕ → Segment = λ s a. record { at = l.place + l.size; size = s; address = a } in
    let one_more : segment bytes n ∷ chain bytes (n + 1) (most_segments - (n + 1)) ≡ segment_of l ∷ chain bytes (length later) (most_segments - length later) =
    ap (λ s. s ∷ chain bytes (n + 1) (most_segments - (n + 1))) e.leads.next ∙ ap (λ k. segment_of l ∷ chain bytes k (most_segments - k)) (sym count) in
    let rest : List Segment = chain bytes (length later) (most_segments - length later) in
    record {
      comes = subst (λ (k : ℕ). Comes bytes k) (sym count) (comes_next bytes n e.leads.comes stood more);
      next = ap (segment bytes) count ∙ (segment-next bytes n ∙ (ap (next_of bytes) e.leads.next
          ∙ (ap (λ s. Link_is s (l.address + l.size + 8 * gap_of (number w64 (l.place + l.size - 16) bytes))) (sym sized) ∙ ap (Link_is size) (sym there))));
      chain_is = e.leads.chain_is ∙ (ap (λ k. map ++ chain bytes n k) turns ∙ (ap (λ segs. map ++ segs) (chain_more bytes n (most_segments - (n + 1)) stood more ∙ one_more)
          ∙ (sym (append_assoc map (segment_of l ∷ []) rest) ∙ ap (λ segs. segs ++ rest) (sym e.later_is))));
    }

-- the chain ends with the heap
pub leads_end : (bytes : List ℕ) (map later : List Segment) (l : Link) (end first second : ℕ) → length map ≤ most_segments → IsEntered bytes map later l end first second
    → told first second (end - (l.place + l.size)) (l.address + l.size) ≡ Ok next.Last → IsChain bytes later
unfolding segments
leads_end bytes map later l end first second most e is =
    let n : ℕ = length map in
    let chosen = choice_last (nat_eq second 0) (nat_eq (end - (l.place + l.size)) 0) (end - (l.place + l.size)) (l.address + l.size + 8 * gap_of first) second is in
    let last : is_last bytes (segment bytes n) ≡ true = last_is bytes map later l end first second e ∙ chosen.0 in
    let below : n < most_segments = few bytes map later l end first second e most in
    let turns : most_segments - n ≡ suc (most_segments - (n + 1)) = omega (arith, below) in
    let none : end - (l.place + l.size) ≡ 0 = zero_is (end - (l.place + l.size)) chosen.1 in
    record {
      all = e.later_is ∙ (ap (λ s. map ++ s ∷ []) (sym e.leads.next) ∙ (ap (λ segs. map ++ segs) (sym (chain_last bytes n (most_segments - (n + 1)) (good bytes map later l end first second e) last))
          ∙ (ap (λ k. map ++ chain bytes n k) (sym turns) ∙ sym e.leads.chain_is)));
      good = none_bad bytes n below e.leads.comes (stands bytes map later l end first second e) last (behind_is bytes map later l end first second e ∙ none);
    }
  where
    zero_is : (k : ℕ) → nat_eq k 0 ≡ true → k ≡ 0
    zero_is k is = grind (arith, nat_tests)

-- the chain ends before the heap does
pub ends_early : (bytes : List ℕ) (map later : List Segment) (l : Link) (end first second : ℕ) (fault : SegmentFault) → length map ≤ most_segments → IsEntered bytes map later l end first second
    → told first second (end - (l.place + l.size)) (l.address + l.size) ≡ Err fault → EndsEarly bytes (length map) (end - (l.place + l.size))
ends_early bytes map later l end first second fault most e is =
    let n : ℕ = length map in
    let chosen = choice_end (nat_eq second 0) (nat_eq (end - (l.place + l.size)) 0) (end - (l.place + l.size)) (l.address + l.size + 8 * gap_of first) second fault is in
    let last : is_last bytes (segment bytes n) ≡ true = last_is bytes map later l end first second e ∙ chosen.0 in
    let some : end - (l.place + l.size) ≢ 0 = other_is (end - (l.place + l.size)) chosen.1 in
    let is_behind = behind_is bytes map later l end first second e in
    let left_over : behind bytes n ≢ 0 = λ none. some (sym is_behind ∙ none) in
    record {
      least = least_bad bytes n most e.leads.comes (inr (last, left_over));
      stands = stands bytes map later l end first second e;
      left = sym is_behind;
    }
  where
    other_is : (k : ℕ) → nat_eq k 0 ≡ false → k ≢ 0
    other_is k is = grind (arith, nat_tests)

-- a call that did not refuse had no cause to
pub accepts : {T E : Type 0} (result : Result T E) (x : T) (b : Bool) → result ≡ Ok x → (IsErr result ↔ (b ≡ true)) → b ≡ false
accepts {T} {E} result x true is both = let err : IsErr result = both.1 refl in let Is : Result T E → Type 0 = λ r. IsErr r in let none : Is (Ok x) = subst Is is err in absurd (false≢true none)
accepts result x false is both = refl

pub entered : (bytes : List ℕ) (map later : List Segment) (l : Link) (end first second : ℕ) → end ≡ header_bytes + heap_bytes bytes → Leads bytes map l → is_refused map (end - l.place) l.size l.address ≡ false
    → end_place header_bytes map ≡ l.place → header_bytes ≤ l.place → later ≡ map ++ record { at = end_place header_bytes map; size = l.size; address = l.address } ∷ []
    → first ≡ number w64 (l.place + l.size - 16) bytes → second ≡ number w64 (l.place + l.size - 16 + 8) bytes → IsEntered bytes map later l end first second
entered bytes map later l end first second end_is leads fits place low is first_is second_is =
    let At : ℕ → Segment = λ n. record { at = n; size = l.size; address = l.address } in
    let back : l.place + l.size - 16 + 8 ≡ l.place + l.size - 8 = omega (arith, low) in
    record {
      end_is = end_is;
      leads = leads;
      fits = fits;
      later_is = is ∙ ap (λ n. map ++ At n ∷ []) place;
      first_is = first_is;
      second_is = second_is ∙ ap (λ n. number w64 n bytes) back;
    }

-- the chain begins
pub leads_first : (bytes : List ℕ) (map : List Segment) (l : Link) (h : ImageHeader) → map ≡ [] → IsHeaderOf bytes h → l.place ≡ header_bytes → l.size ≡ first_size bytes → l.address ≡ h.base → Leads bytes map l
leads_first bytes map l h none header place size address =
    let At : ℕ → ℕ → ℕ → Segment = λ p n a. record { at = p; size = n; address = a } in
    let first : segment bytes 0 ≡ segment_of l =
    segment-first bytes ∙ (ap (λ p. At p (first_size bytes) (base bytes)) (sym place) ∙ (ap (λ n. At l.place n (base bytes)) (sym size) ∙ ap (λ a. At l.place l.size a) (sym (address ∙ header.base_is)))) in
    let begins : Leads bytes [] l = record { comes = λ j lt. absurd (omega (arith, lt)); next = first; chain_is = segments-chain bytes } in
    subst (λ (segs : List Segment). Leads bytes segs l) (sym none) begins

pub ready_first : (end : ℕ) (map : List Segment) (l : Link) (h : ImageHeader) → map ≡ [] → end_address 0 map ≡ 0 → end_place header_bytes map ≡ header_bytes → l.place ≡ header_bytes → l.address ≡ h.base
    → h.base % 8 ≡ 0 → header_bytes ≤ end → IsReady end map l
ready_first end map l h none low at place address aligned within = record {
  aligned = ap (λ n. n % 8) address ∙ aligned;
  above = omega (arith, low);
  place = at ∙ sym place;
  within = omega (arith, place, within);
  words = omega (arith, place, ap total_words none);
}
