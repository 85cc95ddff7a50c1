-- The laws, of tests.
use Rattle.std.proofs.Common.{◌≡◌, ◌≢◌, ℕ, true, ◌||◌, eqb, [], ◌∷◌, refl, inl, inr, arith}
use Rattle.std.proofs.lemmas.Bool.{false≢true, or_left, or_right, eq-eqb}
use Rattle.spur_graph.specs.Live.{none}
use Rattle.scavenge_laws.specs.Outcomes.{On, ScavengeBegins, CopyKeepsGraph, SlotsKeepGraph, ForwarderKeepsGraph, RootsKeepGraph, LiveStandOutside, StuckFire, RoundIsMade, FiringKeepsGraph, EndBegins, ClearingKeepsGraph, ScavengeCollects, NotedAreAll}
use Rattle.scavenge_laws.proofs.Steps.{written, written-grown, shortened, shortened-grown, roots-followed}
use Rattle.scavenge_laws.proofs.Copies.{copied-copying, copied-grown}
use Rattle.scavenge_laws.proofs.Rounding.{fires-stuck, stuck-fires, round-again, round-ended}
use Rattle.scavenge_laws.proofs.Firings.{fires-more, fires-grown}
use Rattle.scavenge_laws.proofs.Clearing.{clears-one}
use Rattle.scavenge_laws.proofs.Beginnings.{begins, begins-old, lead_to_old_names}
use Rattle.scavenge_laws.proofs.Collecting.{ending_begins, live_stand, collected}
use Rattle.scavenge_laws.proofs.Notes.{noting_begins, noting_ends}

nothing : (s : ℕ) → none s ≡ true → ⊥
nothing s e = false≢true e

pub scavenge_begins : ScavengeBegins
scavenge_begins young v whole split = record {
  copying = begins v whole split (On none);
  old = begins-old v whole split;
  leads = lead_to_old_names v whole;
  notes = noting_begins v (On none) whole;
}

pub copy_keeps_graph : CopyKeepsGraph
copy_keeps_graph young g further old new o todo held p q a b c put inside there out live = record {
  copying = copied-copying c put inside there out live (On (λ s. todo s || eqb s b)) (λ s e. or_left (todo s) (eqb s b) e) (or_right (todo b) (eqb b b) (eq-eqb b b refl));
  grown = copied-grown c put inside there out;
}

pub slots_keep_graph : SlotsKeepGraph
slots_keep_graph young g further old new o todo held p q a words c put there four followed to_do = record { copying = written c put there four followed to_do; grown = written-grown c put there four followed }

pub forwarder_keeps_graph : ForwarderKeepsGraph
forwarder_keeps_graph young g further old new o todo held p q a t c put was to_do = record { copying = shortened c put was to_do; grown = shortened-grown c put was }

pub roots_keep_graph : RootsKeepGraph
roots_keep_graph young g further h o o' todo held p q c roots = roots-followed c o' roots

pub live_stand_outside : LiveStandOutside
live_stand_outside young g further h o held p q d = live_stand d.copying nothing d.clear d.old d.asleep

pub stuck_fire : StuckFire
stuck_fire young g further h o held p q d = record { all = fires-stuck d.copying nothing d.clear d.old d.asleep; only = stuck-fires d.copying nothing d.clear d.old d.asleep }

pub round_is_made : RoundIsMade
round_is_made young g further h o held p q [] d stuck = inl (refl, round-ended d.copying nothing d.clear d.old d.asleep (λ s is. let m = stuck.all s is in omega (arith, m.1)))
round_is_made young g further h o held p q (x ∷ xs) d stuck = inr (some, round-again d.copying nothing d.clear d.old d.asleep (x ∷ xs) some stuck.apart stuck.all stuck.only)
  where
    some : x ∷ xs ≢ []
    some e = absurd cc

pub firing_keeps_graph : FiringKeepsGraph
firing_keeps_graph young g further old new o places todo held p q a f put ordinary out five = (
  fires-more f put ordinary out five (On (λ s. todo s || eqb s a)) (λ s e. or_left (todo s) (eqb s a) e) (or_right (todo a) (eqb a a) (eq-eqb a a refl)),
  fires-grown f put ordinary out five,
)

pub end_begins : EndBegins
end_begins young g further h o held p q d = ending_begins d.copying nothing d.clear

pub clearing_keeps_graph : ClearingKeepsGraph
clearing_keeps_graph young g live old new o left left' count p q a c put ordinary out four strong less = clears-one c put ordinary out four strong (On left') less

pub scavenge_collects : ScavengeCollects
scavenge_collects young first last further live h new o nilled fired p q rounds exact c d = collected first last rounds exact c nothing d

pub noted_are_all : NotedAreAll
noted_are_all young end old new noted c d out s l n e = noting_ends c d out nothing s l n e
