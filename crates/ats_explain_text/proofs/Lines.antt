-- The lines of the listeners of a stream.
use Rattle.std.proofs.Common.{◌≡◌, ◌≢◌, ℕ, ◌+◌, ◌<◌, ◌≤◌, List, ◌++◌, length, take, get_or, Option}
use Rattle.std.proofs.Common.{sym, ap, subst, ◌∙◌, append_assoc}
use Rattle.std.specs.List.{All, AllPairs, flat_map}
use Rattle.std.proofs.lemmas.List.{flat_map_more, get_or_default, take_all, take_more}
use Rattle.ats_streams.specs.Branches.{leg_at, legs_of, routes_of}
use Rattle.ats_streams.specs.Stream.{DeclaredStream}
use Rattle.ats_network.specs.Edits.{no_stream}
use Rattle.ats_network.specs.Listeners.{Listener}
use Rattle.ats_network.specs.Network.{DeclaredNetwork, IsNetwork}
use Rattle.ats_tally.specs.Listeners.{listener_at, no_listener}
use Rattle.ats_tally.proofs.ListenerLemmas.{listener-is}
use Rattle.ats_tally.proofs.Paths.{paths_apart}
use Rattle.ats_explain.specs.Margins.{margin_on}
use Rattle.ats_explain.specs.Parts.{HopIsUsed}
use Rattle.ats_explain.specs.declared.margin.Margin.{Margin}
use Rattle.ats_explain.proofs.Hops.{hops_used}
use Rattle.ats_explain_text.specs.Text.{hop_text, listener_lines, stream_line}

-- the lines of the next of several
pub next_lines : {X : Type 0} (lines : X → List ℕ) (xs : List X) (n : ℕ) (d : X) (x before after : List ℕ)
    → n < length xs → before ≡ x ++ flat_map lines (take n xs) → after ≡ before ++ lines (get_or xs n d)
    → after ≡ x ++ flat_map lines (take (n + 1) xs)
next_lines {X} lines xs n d x before after within so_far more =
    more ∙ ap (λ (t : List ℕ). t ++ lines (get_or xs n d)) so_far
    ∙ flat_map_more lines x (take n xs) (get_or xs n d)
    ∙ sym (ap (λ (l : List X). x ++ flat_map lines l) (take_more xs n d within))

-- all of them are the first so many
pub all_lines : {X : Type 0} (lines : X → List ℕ) (xs : List X) (n : ℕ) (x text : List ℕ) → length xs ≤ n
    → text ≡ x ++ flat_map lines (take n xs) → text ≡ x ++ flat_map lines xs
all_lines {X} lines xs n x text past so_far =
    so_far ∙ ap (λ (l : List X). x ++ flat_map lines l) (take_all n xs past)

-- the line of a listener, and those of the ports of its leg
pub listener_written : (network : DeclaredNetwork) (s : DeclaredStream) (leg : ℕ) (name : Option (List ℕ))
    (margin : Margin) (x one two : List ℕ) → leg ≤ length s.branches
    → name ≡ (listener_at network.topology s leg).name
    → margin ≡ margin_on network s (leg_at (routes_of s.ports s.branches) leg)
    → one ≡ x ++ stream_line s.name name margin
    → two ≡ one ++ flat_map (hop_text network s) (leg_at (legs_of s.ports s.branches) leg)
    → two ≡ x ++ listener_lines network s (listener_at network.topology s leg)
listener_written network s leg name margin x one two within name_is margin_is line hops =
    let listener : Listener = listener_at network.topology s leg in
    let leg_is : leg_at (legs_of s.ports s.branches) leg ≡ listener.leg =
    sym (ap (λ (l : Listener). l.leg) (listener-is network.topology s leg no_listener within)) in
    let route_is : leg_at (routes_of s.ports s.branches) leg ≡ listener.route =
    sym (ap (λ (l : Listener). l.route) (listener-is network.topology s leg no_listener within)) in
    let Lines : List ℕ → List ℕ = λ ports. flat_map (hop_text network s) ports in
    hops ∙ ap (λ (t : List ℕ). t ++ Lines (leg_at (legs_of s.ports s.branches) leg)) line
    ∙ append_assoc x (stream_line s.name name margin) (Lines (leg_at (legs_of s.ports s.branches) leg))
    ∙ ap (λ (ports : List ℕ). x ++ (stream_line s.name name margin ++ Lines ports)) leg_is
    ∙ ap (λ (n : Option (List ℕ)). x ++ (stream_line s.name n margin ++ Lines listener.leg)) name_is
    ∙ ap (λ (m : Margin). x ++ (stream_line s.name listener.name m ++ Lines listener.leg))
    (margin_is ∙ ap (margin_on network s) route_is)

-- the stream that was looked up, where the network and its streams are given under other names
pub stream_is : (network given : DeclaredNetwork) (streams : List DeclaredStream) (n : ℕ) (item : DeclaredStream)
    → given ≡ network → streams ≡ given.streams → item ≡ get_or streams n item → n < length network.streams
    → item ≡ get_or network.streams n no_stream
stream_is network given streams n item same all at within =
    at ∙ ap (λ (l : List DeclaredStream). get_or l n item) (all ∙ ap (λ (t : DeclaredNetwork). t.streams) same)
    ∙ get_or_default network.streams n item no_stream within

-- its ports are used, and none is there twice
pub ports_used : (network : DeclaredNetwork) (n : ℕ) (item : DeclaredStream) → item ≡ get_or network.streams n no_stream
    → n < length network.streams → All (HopIsUsed network item) item.ports
ports_used network n item at within =
    subst (λ (s : DeclaredStream). All (HopIsUsed network s) s.ports) (sym at) (hops_used network n no_stream within)

pub ports_apart : (network : DeclaredNetwork) (n : ℕ) (item : DeclaredStream) → IsNetwork network
    → item ≡ get_or network.streams n no_stream → n < length network.streams → AllPairs (λ p q. p ≢ q) item.ports
ports_apart network n item is at within =
    subst (λ (s : DeclaredStream). AllPairs (λ p q. p ≢ q) s.ports) (sym at) (paths_apart network is n no_stream within)
