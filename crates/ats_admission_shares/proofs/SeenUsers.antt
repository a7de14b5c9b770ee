-- The streams at a port, by the users that an index tells.
use Rattle.std.proofs.Common.{◌≡◌, ℕ, suc, ◌+◌, ◌<◌, Bool, true, false, cond, List, [], ◌∷◌, length, map, get_or}
use Rattle.std.proofs.Common.{filter, refl, sym, ap, subst, ◌∙◌, arith}
use Rattle.std.proofs.lemmas.List.{length-map, get_or_default, get_or-map}
use Rattle.ats_streams.specs.Stream.{DeclaredStream}
use Rattle.ats_topology.specs.Topology.{DeclaredTopology}
use Rattle.ats_network.specs.Class.{PortSender, class_at, seen_at}
use Rattle.ats_network.specs.Edits.{no_stream}
use Rattle.ats_network.specs.Network.{DeclaredNetwork, IsNetwork}
use Rattle.ats_network.specs.Sender.{stream_sender}
use Rattle.ats_network.proofs.ClassLemmas.{class_along-at}
use Rattle.ats_certificate.specs.PortSums.{senders_at, uses}
use Rattle.ats_tally.proofs.Paths.{paths_apart}
use Rattle.ats_admission_users.specs.Users.{IsHop, has_port, users_from, users_of}
use Rattle.ats_admission_users.proofs.Slots.{mapped}
use Rattle.ats_admission_users.proofs.UserLemmas.{users_from-later, users_within}
use Rattle.ats_admission_shares.specs.Frames.{without_rate}
use Rattle.ats_admission_shares.specs.PortShares.{stream_at, stream_paths}

-- the streams at a port are those with the numbers of its users
pub seen_users : (topology : DeclaredTopology) (port : ℕ) (streams : List DeclaredStream)
    → senders_at topology port (map stream_sender streams)
    ≡ map (λ n. seen_at topology port (stream_sender (get_or streams n no_stream)))
    (users_of (map (λ (s : DeclaredStream). s.ports) streams) port)
seen_users topology port [] = refl
seen_users topology port (s ∷ streams) =
    by (has_port port s.ports) (seen_users topology port streams
    ∙ sym (ap (map seen) (users_from-later 0 port paths) ∙ mapped (λ m. suc m) seen (users_of paths port)))
  where
    paths : List (List ℕ)
    paths = map (λ (t : DeclaredStream). t.ports) streams

    seen : ℕ → PortSender
    seen n = seen_at topology port (stream_sender (get_or (s ∷ streams) n no_stream))

    by : (b : Bool) → senders_at topology port (map stream_sender streams) ≡ map seen (users_from (0 + 1) port paths)
        → map (seen_at topology port) (cond b (stream_sender s ∷ filter (uses port) (map stream_sender streams))
        (filter (uses port) (map stream_sender streams)))
        ≡ map seen (cond b (0 ∷ users_from (0 + 1) port paths) (users_from (0 + 1) port paths))
    by true h = ap (λ (l : List PortSender). seen_at topology port (stream_sender s) ∷ l) h
    by false h = h

-- there are as many
pub many_users : (network : DeclaredNetwork) (port : ℕ)
    → length (senders_at network.topology port (map stream_sender network.streams))
    ≡ length (users_of (stream_paths network) port)
many_users network port =
    ap (λ (l : List PortSender). length l) (seen_users network.topology port network.streams)
    ∙ length-map (users_of (stream_paths network) port)
    (λ n. seen_at network.topology port (stream_sender (get_or network.streams n no_stream)))

-- what is so of a user of a port, with its number among the streams and its hop
pub record IsUserOf (network : DeclaredNetwork) (port place user hop : ℕ) : Type 0 where
  pub below : user < length network.streams
  pub within : hop < length (stream_at network user).ports
  pub stands : get_or (stream_at network user).ports hop 0 ≡ port
  pub seen : (d : PortSender) → get_or (senders_at network.topology port (map stream_sender network.streams)) place d
      ≡ seen_at network.topology port (stream_sender (stream_at network user))

pub user_is : (network : DeclaredNetwork) (port place user hop : ℕ)
    → place < length (users_of (stream_paths network) port)
    → user ≡ get_or (users_of (stream_paths network) port) place 0
    → IsHop port (get_or (stream_paths network) (get_or (users_of (stream_paths network) port) place 0) []) hop
    → IsUserOf network port place user hop
user_is network port place user hop inside same h =
    subst (λ (n : ℕ). IsUserOf network port place n hop) (sym same) (record {
      below = below;
      within = subst (λ (p : List ℕ). hop < length p) path h.within;
      stands = sym (ap (λ (p : List ℕ). get_or p hop 0) path) ∙ h.stands;
      seen = λ d. ap (λ (l : List PortSender). get_or l place d)
          (seen_users network.topology port network.streams)
          ∙ get_or-map (λ k. seen_at network.topology port (stream_sender (get_or network.streams k no_stream))) users
          place 0 d inside;
    })
  where
    users : List ℕ
    users = users_of (stream_paths network) port

    n : ℕ
    n = get_or users place 0

    below : n < length network.streams
    below = omega (
      arith,
      users_within port (stream_paths network) place 0 inside,
      length-map network.streams (λ (s : DeclaredStream). s.ports),
    )

    path : get_or (stream_paths network) n [] ≡ (stream_at network n).ports
    path = get_or-map (λ (s : DeclaredStream). s.ports) network.streams n no_stream [] below

-- a stream that is told by its number
pub told_stream : (network : DeclaredNetwork) (user : ℕ) (listed : List DeclaredStream) (stream : DeclaredStream)
    → listed ≡ network.streams → user < length network.streams → stream ≡ get_or listed user stream
    → stream ≡ stream_at network user
told_stream network user listed stream same below is =
    is ∙ ap (λ (l : List DeclaredStream). get_or l user stream) same
    ∙ get_or_default network.streams user stream no_stream below

-- the port sees it in the class of that hop
pub user_class : (network : DeclaredNetwork) (port place user hop : ℕ) → IsNetwork network
    → IsUserOf network port place user hop
    → get_or (stream_at network user).classes hop 0 ≡ class_at (stream_sender (stream_at network user)) port
user_class network port place user hop rules is =
    let stream : DeclaredStream = stream_at network user in
    sym (class_along-at stream.ports stream.classes hop (paths_apart network rules user no_stream is.below)
    (rules.streams user no_stream is.below).each_port is.within)
    ∙ ap (λ (p : ℕ). class_at (stream_sender stream) p) is.stands

-- a sender of this class and these sizes
abbrev pub told : ℕ → ℕ → ℕ → PortSender
told class least most =
    record { class = class; rate = 0; burst_bits = 0; min_octets = least; max_octets = most }

-- a user that is told part by part
pub user_seen : (network : DeclaredNetwork) (port place user hop class least most : ℕ) (d : PortSender)
    → IsNetwork network → IsUserOf network port place user hop → class ≡ get_or (stream_at network user).classes hop 0
    → least ≡ (stream_at network user).min_octets → most ≡ (stream_at network user).max_octets → told class least most
    ≡ without_rate (get_or (senders_at network.topology port (map stream_sender network.streams)) place d)
user_seen network port place user hop class least most d rules is class_is least_is most_is =
    ap (λ (n : ℕ). told n least most) (class_is ∙ user_class network port place user hop rules is)
    ∙ ap (λ (n : ℕ). told (class_at (stream_sender stream) port) n most) least_is
    ∙ ap (told (class_at (stream_sender stream) port) stream.min_octets) most_is
    ∙ sym (ap without_rate (is.seen d))
  where
    stream : DeclaredStream
    stream = stream_at network user
