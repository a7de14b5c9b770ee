-- The lines of the listeners of a stream.
use Rattle.std.proofs.Common.{◌≡◌, ◌≢◌, ℕ, ◌+◌, ◌<◌, ◌≤◌, List, ◌++◌, length, take, get_or, Option}
use Rattle.std.proofs.Common.{sym, ap, subst, ◌∙◌, append_assoc, codes, decimal}
use Rattle.std.specs.List.{All, AllPairs, flat_map}
use Rattle.std.proofs.lemmas.List.{flat_map_more, get_or_default, take_all, take_more}
use Rattle.ats_topology.specs.Topology.{DeclaredTopology}
use Rattle.ats_streams.specs.Branches.{leg_at, legs_of, routes_of}
use Rattle.ats_streams.specs.Stream.{DeclaredStream}
use Rattle.ats_network.specs.Edits.{no_stream}
use Rattle.ats_network.specs.Network.{DeclaredNetwork, IsNetwork}
use Rattle.ats_network.specs.Listeners.{Listener, listener_text}
use Rattle.ats_certificate.specs.Certificate.{bound_on}
use Rattle.ats_certificate.specs.declared.row.Row.{Row}
use Rattle.ats_tally.specs.Listeners.{listener_at, no_listener}
use Rattle.ats_tally.proofs.ListenerLemmas.{listener-is}
use Rattle.ats_tally.proofs.Paths.{paths_apart, paths_inside}
use Rattle.ats_verdict_text.specs.Text.{hop_lines, listener_lines}

-- the lines of the next of several
pub next_lines : {X : Type 0} (lines : X → List ℕ) (xs : List X) (n : ℕ) (d : X) (x before after : List ℕ)
    → n < length xs → before ≡ x ++ flat_map lines (take n xs) → after ≡ before ++ lines (get_or xs n d)
    → after ≡ x ++ flat_map lines (take (n + 1) xs)
next_lines {X} lines xs n d x before after within so_far more =
    more ∙ ap (λ (t : List ℕ). t ++ lines (get_or xs n d)) so_far
    ∙ flat_map_more lines x (take n xs) (get_or xs n d)
    ∙ sym (ap (λ (l : List X). x ++ flat_map lines l) (take_more xs n d within))

-- all of them are the first so many
pub all_lines : {X : Type 0} (lines : X → List ℕ) (xs : List X) (n : ℕ) (x text : List ℕ) → length xs ≤ n
    → text ≡ x ++ flat_map lines (take n xs) → text ≡ x ++ flat_map lines xs
all_lines {X} lines xs n x text past so_far =
    so_far ∙ ap (λ (l : List X). x ++ flat_map lines l) (take_all n xs past)

joined : (x hops word text space number end : List ℕ)
    → ((x ++ hops) ++ (word ++ text ++ space ++ number)) ++ end ≡ x ++ (hops ++ word ++ text ++ space ++ number ++ end)
joined x hops word text space number end = simp append_assoc

-- the lines of the ports of a leg, and that of the sum
pub listener_written : (topology : DeclaredTopology) (rows : List Row) (s : DeclaredStream) (leg sum : ℕ)
    (name : Option (List ℕ)) (x one two three : List ℕ) → leg ≤ length s.branches
    → name ≡ (listener_at topology s leg).name
    → sum ≡ bound_on rows s (leg_at (routes_of s.ports s.branches) leg)
    → one ≡ x ++ hop_lines topology rows s (leg_at (legs_of s.ports s.branches) leg)
    → two ≡ one ++ (codes "sum " ++ listener_text s.name name ++ codes " " ++ decimal sum)
    → three ≡ two ++ codes "\n" → three ≡ x ++ listener_lines topology rows s (listener_at topology s leg)
unfolding listener_lines
listener_written topology rows s leg sum name x one two three within name_is sum_is hops line end =
    let listener : Listener = listener_at topology s leg in
    let leg_is : leg_at (legs_of s.ports s.branches) leg ≡ listener.leg =
    sym (ap (λ (l : Listener). l.leg) (listener-is topology s leg no_listener within)) in
    let route_is : leg_at (routes_of s.ports s.branches) leg ≡ listener.route =
    sym (ap (λ (l : Listener). l.route) (listener-is topology s leg no_listener within)) in
    end ∙ ap (λ (t : List ℕ). t ++ codes "\n") (line
    ∙ ap (λ (t : List ℕ). t ++ (codes "sum " ++ listener_text s.name name ++ codes " " ++ decimal sum)) hops)
    ∙ joined x (hop_lines topology rows s (leg_at (legs_of s.ports s.branches) leg)) (codes "sum ")
    (listener_text s.name name) (codes " ") (decimal sum) (codes "\n")
    ∙ ap (λ (ports : List ℕ). x ++ (hop_lines topology rows s ports ++ codes "sum " ++ listener_text s.name name
    ++ codes " " ++ decimal sum ++ codes "\n")) leg_is
    ∙ ap (λ (n : Option (List ℕ)). x ++ (hop_lines topology rows s listener.leg ++ codes "sum "
    ++ listener_text s.name n ++ codes " " ++ decimal sum ++ codes "\n")) name_is
    ∙ ap (λ (n : ℕ). x ++ (hop_lines topology rows s listener.leg ++ codes "sum "
    ++ listener_text s.name listener.name ++ codes " " ++ decimal n ++ codes "\n"))
    (sum_is ∙ ap (bound_on rows s) route_is)

-- the stream that was looked up, where the network and its streams are given under other names
pub stream_is : (network given : DeclaredNetwork) (streams : List DeclaredStream) (n : ℕ) (item : DeclaredStream)
    → given ≡ network → streams ≡ given.streams → item ≡ get_or streams n item → n < length network.streams
    → item ≡ get_or network.streams n no_stream
stream_is network given streams n item same all at within =
    at ∙ ap (λ (l : List DeclaredStream). get_or l n item) (all ∙ ap (λ (t : DeclaredNetwork). t.streams) same)
    ∙ get_or_default network.streams n item no_stream within

-- its ports are there, and none is there twice
pub ports_inside : (network given : DeclaredNetwork) (topology : DeclaredTopology) (n : ℕ) (item : DeclaredStream)
    → IsNetwork network → given ≡ network → topology ≡ given.topology → item ≡ get_or network.streams n no_stream
    → n < length network.streams → All (λ p. p < length topology.ports) item.ports
ports_inside network given topology n item is same shape at within =
    subst (λ (t : DeclaredTopology). All (λ p. p < length t.ports) item.ports)
    (sym (shape ∙ ap (λ (t : DeclaredNetwork). t.topology) same))
    (subst (λ (s : DeclaredStream). All (λ p. p < length network.topology.ports) s.ports) (sym at)
    (paths_inside network is n no_stream within))

pub ports_apart : (network : DeclaredNetwork) (n : ℕ) (item : DeclaredStream) → IsNetwork network
    → item ≡ get_or network.streams n no_stream → n < length network.streams → AllPairs (λ p q. p ≢ q) item.ports
ports_apart network n item is at within =
    subst (λ (s : DeclaredStream). AllPairs (λ p q. p ≢ q) s.ports) (sym at) (paths_apart network is n no_stream within)

-- so are the lines of the ports of a leg
pub hops_same : (topology given : DeclaredTopology) (rows held : List Row) (s item : DeclaredStream) (leg : ℕ)
    → given ≡ topology → held ≡ rows → item ≡ s
    → hop_lines given held item (leg_at (legs_of item.ports item.branches) leg)
    ≡ hop_lines topology rows s (leg_at (legs_of s.ports s.branches) leg)
hops_same topology given rows held s item leg shape same at =
    ap (λ (t : DeclaredTopology). hop_lines t held item (leg_at (legs_of item.ports item.branches) leg)) shape
    ∙ ap (λ (r : List Row). hop_lines topology r item (leg_at (legs_of item.ports item.branches) leg)) same
    ∙ ap (λ (t : DeclaredStream). hop_lines topology rows t (leg_at (legs_of t.ports t.branches) leg)) at
