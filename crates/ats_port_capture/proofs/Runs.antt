-- What a port sends of one frame after another.
use Rattle.std.proofs.Common.{◌≡◌, ◌∙◌, ℕ, ◌+◌, ◌<◌, ◌≤◌, List, [], ◌++◌, length, drop, map, sym, ap, append_assoc}
use Rattle.std.proofs.lemmas.List.{append-nil, drop_all, drop_more, map-append}
use Rattle.ats_network.specs.Network.{DeclaredNetwork}
use Rattle.ats_trace.specs.Journey.{Travel}
use Rattle.ats_trace.specs.Projections.{hops_from, journey_hops, sent_by}
use Rattle.ats_trace.specs.Stored.{no_travel, travel_at}
use Rattle.ats_port_capture.specs.Sightings.{sent_of, sighting_of}
use Rattle.ats_port_capture.specs.declared.sighting.Sighting.{Sighting}
use Rattle.ats_port_capture.proofs.Along.{picked, picked-append}

-- what is kept of the frames from this one on
abbrev pub kept_from : DeclaredNetwork → List Travel → ℕ → ℕ → List Sighting
kept_from network run port frame = map (sighting_of run) (picked port (hops_from network frame (drop frame run)))

-- what is so far, and that of the frames that are left, is that of the run
abbrev pub IsSoFar : DeclaredNetwork → List Travel → ℕ → ℕ → List Sighting → Type 0
IsSoFar network run port frame sent =
    sent ++ kept_from network run port frame ≡ map (sighting_of run) (sent_by network run port)

kept_next : (network : DeclaredNetwork) (run : List Travel) (port frame : ℕ) → frame < length run
    → kept_from network run port frame
    ≡ map (sighting_of run) (sent_of network port frame (travel_at run frame)) ++ kept_from network run port (frame + 1)
kept_next network run port frame within =
    ap (λ (l : List Travel). map (sighting_of run) (picked port (hops_from network frame l)))
    (drop_more run frame no_travel within)
    ∙ ap (map (sighting_of run)) (picked-append port (journey_hops network frame (travel_at run frame))
    (hops_from network (frame + 1) (drop (frame + 1) run)))
    ∙ map-append (sighting_of run) (sent_of network port frame (travel_at run frame))
    (picked port (hops_from network (frame + 1) (drop (frame + 1) run)))

-- one frame more
pub frame_more : (network : DeclaredNetwork) (run : List Travel) (port frame : ℕ) (old new : List Sighting)
    → frame < length run → new ≡ old ++ map (sighting_of run) (sent_of network port frame (travel_at run frame))
    → IsSoFar network run port frame old → IsSoFar network run port (frame + 1) new
frame_more network run port frame old new within grown before =
    let here : List Sighting = map (sighting_of run) (sent_of network port frame (travel_at run frame)) in
    ap (λ (l : List Sighting). l ++ kept_from network run port (frame + 1)) grown
    ∙ append_assoc old here (kept_from network run port (frame + 1))
    ∙ ap (λ (l : List Sighting). old ++ l) (sym (kept_next network run port frame within))
    ∙ before

-- and all of them
pub frames_over : (network : DeclaredNetwork) (run : List Travel) (port frame : ℕ) (sent : List Sighting)
    → length run ≤ frame → IsSoFar network run port frame sent
    → sent ≡ map (sighting_of run) (sent_by network run port)
frames_over network run port frame sent over before =
    let none : kept_from network run port frame ≡ [] =
    ap (λ (l : List Travel). map (sighting_of run) (picked port (hops_from network frame l)))
    (drop_all frame run over) in
    sym (append-nil sent) ∙ ap (λ (l : List Sighting). sent ++ l) (sym none) ∙ before
