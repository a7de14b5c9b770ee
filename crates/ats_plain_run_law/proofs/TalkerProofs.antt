use Rattle.std.proofs.Common.{◌≡◌, ℕ, ◌<◌, ◌≤◌, true, List, [], ◌∷◌, length, get_or, refl}
use Rattle.std.specs.Prelude.{Contains, map, nat_le, slice_index_or}
use Rattle.std.proofs.lemmas.Bool.{and_from, and_parts, le-leb, leb-true}
use Rattle.std.proofs.lemmas.List.Elements.{All-contains, Contains-get_or}
use Rattle.ats_topology.specs.Port.{port_at}
use Rattle.ats_topology.specs.declared.port.Port.{Port}
use Rattle.ats_bucket.specs.Conforming.{Conforms}
use Rattle.ats_network.specs.Network.{DeclaredNetwork, senders_of}
use Rattle.ats_network.specs.Senders.{sender_at}
use Rattle.ats_trace.specs.Talker.{IsDeclaredSize, frames_of, start_of, talker_of}
use Rattle.ats_trace.specs.declared.journey.Release.{Release}
use Rattle.ats_conform.specs.Releases.{AllKeepBuckets}
use Rattle.ats_plain_run_law.specs.Talkers.{BeginningsAreTraced, KeepingIsTraced, TalkersAreTraced}

-- Where senders begin, and when all nodes keep their buckets.

start_is : (ports : List Port) (path : List ℕ)
    → start_of ports path ≡ slice_index_or (map (λ p. (port_at ports p).from) path) 0 0
start_is ports [] = refl
start_is ports (p ∷ path) = refl

abbrev IsSized : DeclaredNetwork → Release → Type 0
IsSized network r =
    ((sender_at network r.sender).min_octets ≤ r.octets) × (r.octets ≤ (sender_at network r.sender).max_octets)

sized_told : (network : DeclaredNetwork) (r : Release) → IsDeclaredSize network r → IsSized network r
sized_told network r is =
    let least : ℕ = (sender_at network r.sender).min_octets in
    let most : ℕ = (sender_at network r.sender).max_octets in
    let parts : (nat_le least r.octets ≡ true) × (nat_le r.octets most ≡ true) =
    and_parts (nat_le least r.octets) (nat_le r.octets most) is in
    (leb-true least r.octets parts.0, leb-true r.octets most parts.1)

sized_due : (network : DeclaredNetwork) (r : Release) → IsSized network r → IsDeclaredSize network r
sized_due network r so =
    let least : ℕ = (sender_at network r.sender).min_octets in
    let most : ℕ = (sender_at network r.sender).max_octets in
    and_from (nat_le least r.octets) (nat_le r.octets most) (le-leb least r.octets so.0) (le-leb r.octets most so.1)

beginnings : BeginningsAreTraced
beginnings = record {
  talker = λ network i. start_is network.topology.ports (sender_at network i).ports;
  size = λ network r. (sized_told network r, sized_due network r);
}

abbrev AreKept : DeclaredNetwork → List Release → Type 0
AreKept network releases = ((i : ℕ) → i < length network.streams
    → Conforms (sender_at network i).rate (sender_at network i).burst_bits (frames_of i releases))
    × ((r : Release) → Contains releases r → r.sender < length (senders_of network) → IsSized network r)

-- each sender is judged at the node at which it begins
kept_told : (network : DeclaredNetwork) (releases : List Release) → AllKeepBuckets network releases
    → AreKept network releases
kept_told network releases keep = (
  λ i there. (keep (talker_of network i)).streams i there refl,
  λ r among there. sized_told network r
      (All-contains (λ (x : Release). x.sender < length (senders_of network)
      → talker_of network x.sender ≡ talker_of network r.sender → IsDeclaredSize network x) releases r
      (keep (talker_of network r.sender)).sizes among there refl),
)

kept_due : (network : DeclaredNetwork) (releases : List Release) → AreKept network releases
    → AllKeepBuckets network releases
kept_due network releases kept = λ node. record {
  streams = λ i there begins. kept.0 i there;
  sizes = λ k d within there begins. sized_due network (get_or releases k d)
      (kept.1 (get_or releases k d) (Contains-get_or releases k d within) there);
}

keeping : KeepingIsTraced
keeping = record {
  all = λ network releases. (kept_told network releases, kept_due network releases);
  release = λ releases n. refl;
}

pub talkers_are_traced : TalkersAreTraced
talkers_are_traced = record {
  beginnings = beginnings;
  keeping = keeping;
}
