use Rattle.std.proofs.Common.{◌≡◌, ℕ, List, [], ◌∷◌, ◌++◌, Option, Some, None, refl, ap}
use Rattle.std.specs.Prelude.{◌+◌, drop}
use Rattle.std.specs.List.{cons_option, filter_map, flat_map, zip}
use Rattle.std.specs.Option.{option_map}
use Rattle.ats_num.specs.declared.time.Ps.{Ps}
use Rattle.ats_network.specs.Class.{class_at}
use Rattle.ats_network.specs.Sender.{Sender}
use Rattle.ats_network.specs.Senders.{sender_at}
use Rattle.ats_port_rule.specs.Transmission.{Transmission}
use Rattle.ats_trace.specs.HopRecord.{HopRecord}
use Rattle.ats_trace.specs.Journey.{Leg, legs_at, legs_in}
use Rattle.ats_trace.specs.Projections.{Crossing, Handed, Hop, crossing_at, crossings_along, crossings_from}
use Rattle.ats_trace.specs.Projections.{crossings_over, handed_along, handed_at, handed_from, handed_over, hop_at}
use Rattle.ats_trace.specs.Projections.{hops_along, hops_from, hops_over, transmission_of}
use Rattle.ats_trace.specs.declared.journey.Ending.{Ending}
use Rattle.ats_trace.specs.declared.journey.Ending.TheVariants.{Discard, Sink}
use Rattle.ats_trace.specs.declared.journey.Release.{Release}
use Rattle.ats_plain_run_law.specs.Tellings.{LegsAreTold, RunsAreTold, TellingsAreTraced, TransmissionsAreTraced}
use Rattle.ats_plain_run_law.specs.Tellings.{arrivals_behind, crossing_told, handed_told, hop_told}

-- What records tell, place by place along each leg.

transmissions : TransmissionsAreTraced
transmissions = record {
  sent = λ frame release class came eligible start end. refl;
  not_sent = λ frame release class came eligible. refl;
  late = λ frame release class came at times. refl;
  size = λ frame release class came times. refl;
}

-- what one record tells stands in front of what the others do
hop_first : (port : ℕ) (sent : Option Transmission) (xs ys : List Hop) → xs ≡ ys
    → hop_at port sent ++ xs
    ≡ cons_option (option_map (λ (t : Transmission). record { port = port; sent = t }) sent) ys
hop_first port None xs ys same = same
hop_first port (Some sent) xs ys same = ap (λ (rest : List Hop). record { port = port; sent = sent } ∷ rest) same

abbrev crossing_with : ℕ → ℕ → ℕ → ℕ → Transmission → Crossing
crossing_with octets came port arrival sent =
    record { port = port; octets = octets; came = came; sent = sent; arrival = arrival }

crossing_first : (octets came port : ℕ) (sent : Option Transmission) (next : HopRecord) (hops : List HopRecord)
    (ending : Ending) (xs ys : List Crossing) → xs ≡ ys
    → crossing_at octets came port sent (next ∷ hops) ending ++ xs
    ≡ cons_option (option_map (crossing_with octets came port next.arrival.0) sent) ys
crossing_first octets came port None next hops ending xs ys same = same
crossing_first octets came port (Some sent) next hops ending xs ys same =
    ap (λ (rest : List Crossing). crossing_with octets came port next.arrival.0 sent ∷ rest) same

heard_first : (octets came port : ℕ) (sent : Option Transmission) (at : Ps) (xs ys : List Crossing) → xs ≡ ys
    → crossing_at octets came port sent [] (Sink at) ++ xs
    ≡ cons_option (option_map (crossing_with octets came port at.0) sent) ys
heard_first octets came port None at xs ys same = same
heard_first octets came port (Some sent) at xs ys same =
    ap (λ (rest : List Crossing). crossing_with octets came port at.0 sent ∷ rest) same

not_heard : (octets came port : ℕ) (sent : Option Transmission) (xs : List Crossing) → xs ≡ []
    → crossing_at octets came port sent [] Discard ++ xs ≡ []
not_heard octets came port None xs none = none
not_heard octets came port (Some sent) xs none = none

abbrev handed_with : ℕ → ℕ → ℕ → HopRecord → Option Transmission → Option Handed
handed_with octets came port next sent =
    option_map (λ (crossing : Crossing). record { crossing = crossing; verdict = next.verdict })
    (option_map (crossing_with octets came port next.arrival.0) sent)

handed_first : (octets came port : ℕ) (sent : Option Transmission) (next : HopRecord) (hops : List HopRecord)
    (xs ys : List Handed) → xs ≡ ys
    → handed_at octets came port sent (next ∷ hops) ++ xs ≡ cons_option (handed_with octets came port next sent) ys
handed_first octets came port None next hops xs ys same = same
handed_first octets came port (Some sent) next hops xs ys same =
    ap (λ (rest : List Handed). record {
      crossing = crossing_with octets came port next.arrival.0 sent;
      verdict = next.verdict;
    } ∷ rest) same

not_handed : (octets came port : ℕ) (sent : Option Transmission) (xs : List Handed) → xs ≡ []
    → handed_at octets came port sent [] ++ xs ≡ []
not_handed octets came port None xs none = none
not_handed octets came port (Some sent) xs none = none

module _ (frame : ℕ) (release : Release) (sender : Sender) where
  abbrev sent_at : ℕ → HopRecord → Option Transmission
  sent_at p hop = transmission_of frame release (class_at sender p) hop

  hops_told : (path : List ℕ) (hops : List HopRecord)
      → hops_along frame release sender path hops ≡ filter_map (hop_told frame release sender) (zip path hops)
  hops_told [] hops = refl
  hops_told (p ∷ path) [] = refl
  hops_told (p ∷ path) (hop ∷ hops) =
      hop_first p (sent_at p hop) (hops_along frame release sender path hops)
      (filter_map (hop_told frame release sender) (zip path hops)) (hops_told path hops)

  no_crossings : (path : List ℕ) (ending : Ending) → crossings_along frame release sender path [] ending ≡ []
  no_crossings [] ending = refl
  no_crossings (p ∷ path) ending = refl

  abbrev crossings_in : List ℕ → List HopRecord → Ending → List Crossing
  crossings_in path hops ending =
      filter_map (crossing_told frame release sender) (zip path (zip hops (arrivals_behind hops ending)))

  crossings_told : (path : List ℕ) (hops : List HopRecord) (ending : Ending)
      → crossings_along frame release sender path hops ending ≡ crossings_in path hops ending
  crossings_told [] hops ending = refl
  crossings_told (p ∷ path) [] ending = refl
  crossings_told (p ∷ path) (hop ∷ []) (Sink at) =
      heard_first release.octets hop.arrival.0 p (sent_at p hop) at
      (crossings_along frame release sender path [] (Sink at)) (crossings_in path [] (Sink at))
      (crossings_told path [] (Sink at))
  crossings_told (p ∷ path) (hop ∷ []) Discard =
      not_heard release.octets hop.arrival.0 p (sent_at p hop) (crossings_along frame release sender path [] Discard)
      (no_crossings path Discard)
  crossings_told (p ∷ path) (hop ∷ next ∷ hops) ending =
      crossing_first release.octets hop.arrival.0 p (sent_at p hop) next hops ending
      (crossings_along frame release sender path (next ∷ hops) ending) (crossings_in path (next ∷ hops) ending)
      (crossings_told path (next ∷ hops) ending)

  none_handed : (path : List ℕ) → handed_along frame release sender path [] ≡ []
  none_handed [] = refl
  none_handed (p ∷ path) = refl

  abbrev handed_in : List ℕ → List HopRecord → List Handed
  handed_in path hops = filter_map (handed_told frame release sender) (zip path (zip hops (drop 1 hops)))

  all_handed_told : (path : List ℕ) (hops : List HopRecord)
      → handed_along frame release sender path hops ≡ handed_in path hops
  all_handed_told [] hops = refl
  all_handed_told (p ∷ path) [] = refl
  all_handed_told (p ∷ path) (hop ∷ []) =
      not_handed release.octets hop.arrival.0 p (sent_at p hop) (handed_along frame release sender path [])
      (none_handed path)
  all_handed_told (p ∷ path) (hop ∷ next ∷ hops) =
      handed_first release.octets hop.arrival.0 p (sent_at p hop) next hops
      (handed_along frame release sender path (next ∷ hops)) (handed_in path (next ∷ hops))
      (all_handed_told path (next ∷ hops))

  -- and leg by leg
  abbrev hops_of : List ℕ × Leg → List Hop
  hops_of leg = hops_along frame release sender leg.0 leg.1.hops

  legs_hops : (paths : List (List ℕ)) (legs : List Leg)
      → hops_over frame release sender paths legs ≡ flat_map hops_of (zip paths legs)
  legs_hops [] legs = refl
  legs_hops (path ∷ paths) [] = refl
  legs_hops (path ∷ paths) (leg ∷ legs) = ap (λ (rest : List Hop). hops_of (path, leg) ++ rest) (legs_hops paths legs)

  abbrev crossings_of : List ℕ × Leg → List Crossing
  crossings_of leg = crossings_along frame release sender leg.0 leg.1.hops leg.1.ending

  legs_crossings : (paths : List (List ℕ)) (legs : List Leg)
      → crossings_over frame release sender paths legs ≡ flat_map crossings_of (zip paths legs)
  legs_crossings [] legs = refl
  legs_crossings (path ∷ paths) [] = refl
  legs_crossings (path ∷ paths) (leg ∷ legs) =
      ap (λ (rest : List Crossing). crossings_of (path, leg) ++ rest) (legs_crossings paths legs)

  abbrev handed_of : List ℕ × Leg → List Handed
  handed_of leg = handed_along frame release sender leg.0 leg.1.hops

  legs_handed : (paths : List (List ℕ)) (legs : List Leg)
      → handed_over frame release sender paths legs ≡ flat_map handed_of (zip paths legs)
  legs_handed [] legs = refl
  legs_handed (path ∷ paths) [] = refl
  legs_handed (path ∷ paths) (leg ∷ legs) =
      ap (λ (rest : List Handed). handed_of (path, leg) ++ rest) (legs_handed paths legs)

legs : LegsAreTold
legs = record {
  hops = λ frame release sender path hops. hops_told frame release sender path hops;
  crossings = λ frame release sender path hops ending. crossings_told frame release sender path hops ending;
  handed = λ frame release sender path hops. all_handed_told frame release sender path hops;
}

runs : RunsAreTold
runs = record {
  no_hop = λ network frame. refl;
  hops = λ network frame j run. ap (λ (first : List Hop). first ++ hops_from network (frame + 1) run)
      (legs_hops frame j.release (sender_at network j.release.sender) (legs_at network j.release.sender) (legs_in j));
  no_crossing = λ network frame. refl;
  crossings = λ network frame j run.
      ap (λ (first : List Crossing). first ++ crossings_from network (frame + 1) run)
      (legs_crossings frame j.release (sender_at network j.release.sender) (legs_at network j.release.sender)
      (legs_in j));
  none_handed = λ network frame. refl;
  handed = λ network frame j run. ap (λ (first : List Handed). first ++ handed_from network (frame + 1) run)
      (legs_handed frame j.release (sender_at network j.release.sender) (legs_at network j.release.sender)
      (legs_in j));
}

pub tellings_are_traced : TellingsAreTraced
tellings_are_traced = record {
  transmissions = transmissions;
  legs = legs;
  runs = runs;
}
