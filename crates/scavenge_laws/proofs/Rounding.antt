-- With nothing to do, an ephemeron fires exactly where it is held back and its key stands in the space that is being left.
use Rattle.std.proofs.Common.{◌≡◌, ◌≢◌, ℕ, Bool, true, false, ◌&&◌, ◌+◌, ◌/◌, ◌<◌, List, [], ◌∷◌, map, length, get_or, refl, sym, ap, ◌∙◌, subst, inl, inr, arith, Some}
use Rattle.std.proofs.lemmas.Bool.{false≢true, cases_Bool, eq-eqb, lt-ltb}
use Rattle.std.proofs.lemmas.List.{length-map, get_or-map}
use Rattle.std.proofs.lemmas.List.Elements.{All-contains, Contains-append_cases}
use Rattle.std.specs.Prelude.{slice_get}
use Rattle.std.specs.Option.{option_map}
use Rattle.std.specs.List.{Contains}
use Rattle.spur_graph.specs.declared.answer.Value.TheVariants.{Ref}
use Rattle.spur_graph.specs.Graph.{Graph, AreApart}
use Rattle.spur_graph.specs.Live.{none}
use Rattle.spur_graph.specs.Rounds.{Fires, mourning, fire, IsGroup, Rounds, Ended, Again}
use Rattle.spur_graph.specs.Cells.{Store, final, pointers, pointer_count}
use Rattle.spur_graph.specs.Ordinary.{body_at, is_ordinary}
use Rattle.spur_graph.specs.CellGraph.{read, node_of}
use Rattle.spur_graph.specs.Heaps.{waiting_in}
use Rattle.spur_graph.proofs.Reaching.{live_by_rules}
use Rattle.heap_cells.proofs.Bodies.{pointers_fit}
use Rattle.heap_cells.proofs.References.{ordinary_there}
use Rattle.heap_laws.specs.Placed.{Outside}
use Rattle.graph_laws.proofs.Living.{among-mapped}
use Rattle.scavenge_laws.specs.Copying.{IsClear, Copying, Grown, AreOld, AreClear, AreAsleep, IsStuck}
use Rattle.scavenge_laws.specs.Firing.{fire_some, with_group}
use Rattle.scavenge_laws.proofs.Livelier.{get-some, waiting-behind}
use Rattle.scavenge_laws.proofs.Naming.{reads-reference, word-leads}
use Rattle.scavenge_laws.proofs.Outer.{stays-outside}
use Rattle.scavenge_laws.proofs.Values.{from-map, front_in, first-front, node-pointers, node-format, values-long, slot-word}
use Rattle.scavenge_laws.proofs.Places.{here, comes, place-of}
use Rattle.scavenge_laws.proofs.Ends.{forwarders, stand, format-of, key-of, all-out, only-live}

module _ {young : ℕ → Bool} {g : Graph} {further : ℕ → Bool} {h : Store} {o : Outside} {todo held : ℕ → Type 0} {p q : ℕ → ℕ} (c : Copying young g further h o todo held p q) (done : (s : ℕ) → todo s → ⊥)
    (clear : AreClear young o) (old : AreOld young g further h q) (asleep : AreAsleep young h held) where
  pub fires-stuck : (a : ℕ) → Fires g further a → IsStuck young h held (p a)
  fires-stuck a f =
      let s = all-out c done clear old asleep a ((live_by_rules g further none a).0 f.live) in
      let m = comes c a f.node f.there in
      let k = key-of c done clear old asleep (p a) f.node (Ref f.key) m.1 f.named in
      let w : ℕ = get_or (body_at h (p a)).words 0 0 in
      let among = front_in (pointer_count (body_at h (p a))) (body_at h (p a)).words 0 k.0 k.1 in
      let good = slot-word h c.heap.store.sound (p a) s.ordinary (get_or (body_at h (p a)).words 0 0) among in
      let r = reads-reference q h c.heap (get_or (body_at h (p a)).words 0 0) f.key good k.2 in
      let on = (word-leads q h c.heap (get_or (body_at h (p a)).words 0 0) good r.0).ordinary in
      let at = place-of c (final h (get_or (body_at h (p a)).words 0 0 / 8)) f.key r.1 in
      let key : young (final h (get_or (body_at h (p a)).words 0 0 / 8)) ≡ true = elim (cases_Bool (young (final h (get_or (body_at h (p a)).words 0 0 / 8)))) [
        | inl on ↦ on
        | inr off ↦ absurd (f.dead ((live_by_rules g further none f.key).1 (only-live c done clear old asleep f.key (record { ordinary = ap (is_ordinary h) at ∙ on; outside = ap young at ∙ off }))))
      ] in
      record {
        ordinary = s.ordinary;
        outside = s.outside;
        back = elim (stand c done (p a) s.outside s.ordinary) [
          | inl all ↦ absurd (false≢true (sym (stays-outside young h (forwarders c done) (get_or (body_at h (p a)).words 0 0 / 8) (All-contains (IsClear young) (pointers (body_at h (p a))) (get_or (body_at h (p a)).words 0 0) all among r.0)) ∙ key))
          | inr back ↦ back.0
        ];
        asleep = record { ephemeron = format-of c done clear old asleep (p a) f.node m.1 f.ephemeron; some = k.0; reference = r.0; key = key };
      }

  pub stuck-fires : (s : ℕ) → IsStuck young h held s → Fires g further (q s)
  stuck-fires s f =
      let b = body_at h s in
      let formed = c.heap.store.sound.formed s (ordinary_there h s f.ordinary) in
      let l : 0 < length (body_at h s).words = (let fit = pointers_fit (body_at h s) formed in let some = f.asleep.some in omega (arith, fit, some)) in
      let among = front_in (pointer_count (body_at h s)) (body_at h s).words 0 f.asleep.some l in
      let good = slot-word h c.heap.store.sound s f.ordinary (get_or (body_at h s).words 0 0) among in
      let lead = word-leads q h c.heap (get_or (body_at h s).words 0 0) good f.asleep.reference in
      let long : length (node_of q h (body_at h s)).pointers ≡ pointer_count (body_at h s) = ap length (node-pointers q h (body_at h s)) ∙ values-long q h (body_at h s) formed in
      let five : (node_of q h (body_at h s)).format ≡ 5 = node-format q h (body_at h s) ∙ f.asleep.ephemeron in
      record {
        node = node_of q h (body_at h s);
        there = here c s f.ordinary;
        live = (live_by_rules g further none (q s)).1 (c.sound s f.outside f.ordinary);
        ephemeron = λ x. eq-eqb ((node_of q h (body_at h s)).format) 5 five x && lt-ltb 0 (length (node_of q h (body_at h s)).pointers) (subst (λ n. 0 < n) (sym long) f.asleep.some) x;
        key = q (final h (get_or (body_at h s).words 0 0 / 8));
        named = ap (λ vs. slice_get vs 0) (node-pointers q h (body_at h s)) ∙ first-front (read q h) (pointer_count (body_at h s)) (body_at h s).words f.asleep.some l ∙ ap Some lead.value;
        dead = λ live.
            let t = all-out c done clear old asleep (q (final h (get_or (body_at h s).words 0 0 / 8))) ((live_by_rules g further none (q (final h (get_or (body_at h s).words 0 0 / 8)))).0 live) in
            false≢true (sym (sym (ap young (place-of c (final h (get_or (body_at h s).words 0 0 / 8)) _ refl)) ∙ t.outside) ∙ f.asleep.key);
      }

  -- the places of all that fires, each once, are a group
  module _ (places : List ℕ) (some : places ≢ []) (apart : AreApart places) (all : (s : ℕ) → IsStuck young h held s → Contains places s) (only : (s : ℕ) → Contains places s → IsStuck young h held s) where
    pub stuck-group : IsGroup g further (map q places)
    stuck-group = record {
      some = λ e. some (none_mapped places e);
      names = record {
        apart = mapped-apart;
        all = λ a f. subst (Contains (map q places)) (c.places.right a) (among-mapped q places (p a) (all (p a) (fires-stuck a f)));
        only = λ a d. let w = from-map q 0 places a d in subst (Fires g further) w.2 (stuck-fires w.0 (only w.0 w.1));
      };
    }
      where
        none_mapped : (xs : List ℕ) → map q xs ≡ [] → xs ≡ []
        none_mapped [] e = refl
        none_mapped (x ∷ xs) e = absurd (omega (arith, ap length e))

        mapped-apart : AreApart (map q places)
        mapped-apart i j d l m e =
            let in_j : j < length places = omega (arith, m, length-map places q) in
            let in_i : i < length places = omega (arith, l, in_j) in
            apart i j 0 l in_j (sym (c.places.left (get_or places i 0)) ∙ ap p (sym (get_or-map q places i 0 d in_i) ∙ e ∙ get_or-map q places j 0 d in_j) ∙ c.places.left (get_or places j 0))

    -- so one round more has been made
    pub round-again : (count : ℕ) (last : Graph) → Rounds further (fire_some g (map q places)) count last → Rounds further g (length places + count) last
    round-again count last rounds =
        subst (λ n. Rounds further g (n + count) last) (length-map places q)
        (Again g last count (map q places) stuck-group (subst (λ x. Rounds further x count last) (fired places some) rounds))
      where
        fired : (places : List ℕ) → places ≢ [] → fire_some g (map q places) ≡ fire g (map q places)
        fired [] some = absurd (some refl)
        fired (x ∷ xs) some = refl

  -- where nothing is stuck, there are no more rounds
  pub round-ended : ((s : ℕ) → IsStuck young h held s → ⊥) → Rounds further g 0 g
  round-ended none = Ended g (λ a f. none (p a) (fires-stuck a f))

-- ---- what holds of roots, after steps and after a firing

pub old-grown : {young : ℕ → Bool} {g : Graph} {further : ℕ → Bool} {h h' : Store} {q q' : ℕ → ℕ} → Grown h q h' q' → AreOld young g further h q → AreOld young g further h' q'
old-grown grown old = record {
  names = old.names;
  starts = λ a is. let s = old.starts a is in (s.0, s.1, grown.starts s.0 s.2, grown.names s.0 s.2 ∙ s.3);
}

pub old-fired : {young : ℕ → Bool} {g : Graph} {further : ℕ → Bool} {h : Store} {q : ℕ → ℕ} (names : List ℕ) → AreOld young g further h q → AreOld young (fire_some g names) further h q
old-fired {young} {g} {further} {h} {q} names old = record {
  names = λ a is. let n = old.names a is in (mourning names a n.0, get-some g names a ∙ ap (option_map (mourning names a)) n.1);
  starts = old.starts;
}

pub clear-fired : {young : ℕ → Bool} {o : Outside} (places : List ℕ) → AreClear young o → ((s : ℕ) → Contains places s → young s ≡ false) → AreClear young (with_group o places)
clear-fired {young} {o} places clear out = record {
  special = clear.special;
  held = clear.held;
  waiting = λ s d. elim (Contains-append_cases (waiting_in o.groups) places s (subst (λ xs. Contains xs s) (waiting-behind o.groups places) d)) [
    | inl was ↦ clear.waiting s was
    | inr new ↦ out s new
  ];
}
