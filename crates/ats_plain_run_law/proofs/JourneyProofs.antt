use Rattle.std.proofs.Common.{◌≡◌, ℕ, List, [], ◌∷◌, length, refl, sym, ap, subst, arith}
use Rattle.std.specs.Prelude.{◌-◌, map, slice_index_or, take}
use Rattle.std.proofs.lemmas.List.{take_all}
use Rattle.ats_streams.specs.Branches.{trunk_of}
use Rattle.ats_streams.specs.declared.branch.Branch.{Branch}
use Rattle.ats_network.specs.Senders.{sender_at}
use Rattle.ats_group.specs.declared.verdict.Verdict.TheVariants.{Eligible}
use Rattle.ats_trace.specs.HopRecord.{HopRecord}
use Rattle.ats_trace.specs.Journey.{IsReleased}
use Rattle.ats_trace.specs.declared.journey.Release.{Release}
use Rattle.ats_plain_run_law.specs.Journeys.{JourneysAreTraced, LegsAreTraced, OneJourneyIsTraced}
use Rattle.ats_plain_run_law.specs.Journeys.{StreamFramesAreTraced, TrunksAreTraced}

-- What one frame's journey is, and what of it is along each leg.

legs : LegsAreTraced
legs = record {
  none = refl;
  all = λ j. refl;
  trunk = λ j. refl;
  copy = λ j n. refl;
}

trunk_is : (ports : List ℕ) (branches : List Branch) → trunk_of ports branches
    ≡ take (slice_index_or (map (λ (b : Branch). b.first) branches) 0 (length ports)) ports
trunk_is ports [] = sym (take_all (length ports) ports (omega arith))
trunk_is ports (b ∷ branches) = let all : b.first - 0 ≡ b.first = omega arith in ap (λ n. take n ports) all

trunks : TrunksAreTraced
trunks network i = trunk_is (sender_at network i).ports (sender_at network i).branches

-- the first of some records is that of a release
abbrev FirstOf : Release → List HopRecord → Type 0
FirstOf release hops = (first : HopRecord) × (rest : List HopRecord) × (hops ≡ first ∷ rest)
    × (first.arrival ≡ release.at) × (first.verdict ≡ Eligible release.at)

release_told : (release : Release) (hops : List HopRecord) → IsReleased release hops → FirstOf release hops
release_told release [] is = absurd is
release_told release (hop ∷ hops) is = (hop, hops, refl, is.0, is.1)

release_due : (release : Release) (hops : List HopRecord) → FirstOf release hops → IsReleased release hops
release_due release hops so = subst (λ (all : List HopRecord). IsReleased release all) (sym so.2) (so.3, so.4)

journey : OneJourneyIsTraced
journey network j = (
  (λ is. (is.sender, is.octets, release_told j.release j.hops is.released, is.way, is.copies)),
  (λ so. record {
    sender = so.0;
    octets = so.1;
    way = so.3;
    released = release_due j.release j.hops so.2;
    copies = so.4;
  }),
)

of_stream : StreamFramesAreTraced
of_stream network j = ((λ is. is), (λ is. is))

pub journeys_are_traced : JourneysAreTraced
journeys_are_traced = record {
  legs = legs;
  trunks = trunks;
  journey = journey;
  of_stream = of_stream;
}
