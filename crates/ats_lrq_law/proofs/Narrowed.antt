use Rattle.std.proofs.Common.{◌≡◌, ℕ, ◌<◌, List, [], ◌∷◌, map, length, get_or, All, refl, sym, ap, ◌∙◌, subst, arith}
use Rattle.std.proofs.lemmas.List.{length-map}
use Rattle.std.proofs.lemmas.List as lists
use Rattle.std.proofs.lemmas.List.Elements.{All-map}
use Rattle.std.proofs.lemmas.List.Sums.{sum_by-cons}
use Rattle.ats_num.specs.Wire.{bits_of}
use Rattle.ats_streams.specs.Stream.{DeclaredStream, IsStream}
use Rattle.ats_streams.specs.declared.branch.Branch.{Branch}
use Rattle.ats_topology.specs.Node.{AreApart}
use Rattle.ats_topology.specs.Topology.{DeclaredTopology, IsTopology}
use Rattle.ats_network.specs.Sender.{Sender}
use Rattle.ats_network.specs.Path.{IsTree}
use Rattle.ats_network.specs.Network.{AreIdentified, HasShortRoutes, ports_together, senders_of}
use Rattle.ats_network.specs.Rates.{HasRates}
use Rattle.ats_network.specs.Senders.{sender_at}
use Rattle.ats_network.proofs.Rated.{narrowed_rates}
use Rattle.ats_certificate.specs.declared.row.Row.{Row}
use Rattle.ats_trace.specs.Journey.{Travel}
use Rattle.ats_trace.specs.Run.{releases_of}
use Rattle.ats_trace.specs.Ways.{listener_count, route_to, way_to}
use Rattle.ats_trace.specs.declared.journey.Release.{Release}
use Rattle.ats_soundness_law.specs.Sound.{BridgesKeep, IsContainedOn, IsServedOn, all_but_first}
use Rattle.ats_soundness_law.proofs.EachRule.{rule_of_holding}
use Rattle.ats_soundness_law.proofs.Soundness.{sound_by_rule}
use Rattle.ats_lrq.specs.Judge.{lrq_judge, spacing_rule}
use Rattle.ats_lrq.specs.Narrow.{narrowed, narrowed_stream}
use Rattle.ats_lrq_law.specs.Narrowed.{NarrowedIsNetwork, RunsAreKept, TalkersAreKept, SoundBySpacing, NarrowedIsSound}
use Rattle.ats_lrq_law.proofs.Alike.{bare, bare_stream, same_map, same_at, legal_alike, keeps_alike}
use Rattle.ats_lrq_law.proofs.Alike.{talker_alike}
use Rattle.ats_lrq_law.proofs.Regulator.{lrq_is_regulator}

-- narrowed streams differ in their bursts alone
narrowed-bare : (streams : List DeclaredStream)
    → map bare_stream (map narrowed_stream streams) ≡ map bare_stream streams
narrowed-bare [] = refl
narrowed-bare (s ∷ ss) = ap (λ (xs : List DeclaredStream). bare_stream s ∷ xs) (narrowed-bare ss)

narrowed_is_stream : (s : DeclaredStream) → IsStream s → IsStream (narrowed_stream s)
narrowed_is_stream s i =
    let most = i.rules.sizes.most in
    record {
      classes = i.classes;
      each_port = i.each_port;
      rules = record { rate = i.rules.rate; sizes = i.rules.sizes; covers = omega arith; burst = omega arith };
      branches = i.branches;
      routes = i.routes;
      deadline = i.deadline;
      identity = i.identity;
    }

-- and no rate or burst of them at a hop is greater
narrowed_has_rates : (topology : DeclaredTopology) (s : DeclaredStream) → IsTopology topology → IsStream s
    → HasRates topology s → HasRates topology (narrowed_stream s)
narrowed_has_rates topology s is i rates =
    narrowed_rates topology s (bits_of s.max_octets) is i.rules.rate.positive i.rules.covers rates

-- a sender's ports and branches
abbrev legs : Sender → List ℕ × List Branch
legs s = (s.ports, s.branches)

abbrev Goes : DeclaredTopology → List ℕ × List Branch → Type 0
Goes topology legs = IsTree topology legs.0 legs.1

-- what holds of the trees holds of them in another list with the same ports and branches
trees_of : (topology : DeclaredTopology) (senders others : List Sender) → map legs senders ≡ map legs others
    → All (λ (s : Sender). IsTree topology s.ports s.branches) senders
    → All (λ (s : Sender). IsTree topology s.ports s.branches) others
trees_of topology senders others e all i d h =
    let mapped : All (Goes topology) (map legs others) =
    subst (All (Goes topology)) e (All-map (Goes topology) legs senders all) in
    subst (Goes topology) (lists.get_or-map legs others i d (legs d) h)
    (mapped i (legs d) (omega (arith, length-map others legs)))

-- narrowed streams have as many ports
narrowed_ports : (streams : List DeclaredStream) → ports_together (map narrowed_stream streams) ≡ ports_together streams
narrowed_ports [] = refl
narrowed_ports (s ∷ ss) =
    let many : DeclaredStream → ℕ = λ (t : DeclaredStream). length t.ports in
    omega (
      arith,
      sum_by-cons many (narrowed_stream s) (map narrowed_stream ss),
      sum_by-cons many s ss,
      narrowed_ports ss,
    )

identified : (streams : List DeclaredStream) → AreIdentified streams → AreIdentified (map narrowed_stream streams)
identified streams apart i j d below within identity share =
    let inside : j < length streams = omega (arith, length-map streams narrowed_stream) in
    let one = lists.get_or-map narrowed_stream streams i d d (omega arith) in
    let other = lists.get_or-map narrowed_stream streams j d d inside in
    apart i j d below inside identity (record {
      one = sym (ap (λ (s : DeclaredStream). s.identity) one) ∙ share.one;
      other = sym (ap (λ (s : DeclaredStream). s.identity) other) ∙ share.other;
    })

pub narrowed_is_network : NarrowedIsNetwork
narrowed_is_network network n =
    let same = sym (narrowed-bare network.streams) in
    record {
      topology = n.topology;
      streams = All-map IsStream narrowed_stream network.streams
          (λ i d h. narrowed_is_stream (get_or network.streams i d) (n.streams i d h));
      flows = n.flows;
      trees = trees_of network.topology (senders_of network) (senders_of (narrowed network))
          (same_map network.topology network.most_ports network.flows network.streams
          (map narrowed_stream network.streams) same legs (λ (s : Sender). refl)) n.trees;
      names = subst AreApart
          (same_map network.topology network.most_ports network.flows network.streams
          (map narrowed_stream network.streams) same (λ (s : Sender). s.name) (λ (s : Sender). refl)) n.names;
      identities = identified network.streams n.identities;
      few_streams = (let few = n.few_streams in omega (arith, length-map network.streams narrowed_stream));
      few_flows = n.few_flows;
      few_ports = (let few = n.few_ports in omega (arith, narrowed_ports network.streams));
      most_ports = n.most_ports;
      short_streams = All-map (HasShortRoutes network.most_ports) narrowed_stream network.streams n.short_streams;
      short_flows = n.short_flows;
      rates = All-map (HasRates network.topology) narrowed_stream network.streams
          (λ i d h. narrowed_has_rates network.topology (get_or network.streams i d) n.topology (n.streams i d h)
          (n.rates i d h));
    }

pub runs_are_kept : RunsAreKept
runs_are_kept network run = (
  legal_alike network.topology network.most_ports network.flows (map narrowed_stream network.streams) network.streams
      (narrowed-bare network.streams) run,
  legal_alike network.topology network.most_ports network.flows network.streams (map narrowed_stream network.streams)
      (sym (narrowed-bare network.streams)) run,
)

pub talkers_are_kept : TalkersAreKept
talkers_are_kept network releases station = (
  keeps_alike network.topology network.most_ports network.flows (map narrowed_stream network.streams) network.streams
      (narrowed-bare network.streams) releases station,
  keeps_alike network.topology network.most_ports network.flows network.streams (map narrowed_stream network.streams)
      (sym (narrowed-bare network.streams)) releases station,
)

pub sound_by_spacing : SoundBySpacing
sound_by_spacing network rows n keeps =
    sound_by_rule spacing_rule lrq_judge network rows lrq_is_regulator.rule lrq_is_regulator.regulator n keeps

-- what is promised of a frame does not read its sender's burst
served_like : (rows : List Row) (s t : Sender) (journey : Travel) (Asked : List ℕ → Type 0) → bare s ≡ bare t
    → ((m : ℕ) → m < listener_count s → Asked (route_to s m)
    → IsServedOn rows s journey.release (route_to s m) (way_to s journey m))
    → (m : ℕ) → m < listener_count t → Asked (route_to t m)
    → IsServedOn rows t journey.release (route_to t m) (way_to t journey m)
served_like rows s t journey Asked e h =
    let Serves : Sender → Type 0 = λ (x : Sender). (m : ℕ) → m < listener_count x → Asked (route_to x m)
    → IsServedOn rows x journey.release (route_to x m) (way_to x journey m) in
    let there : Serves (bare s) = λ m within asked. record {
      prompt = (h m within asked).prompt;
      arrives = (h m within asked).arrives;
    } in
    let here : Serves (bare t) = subst Serves e there in
    λ m within asked. record { prompt = (here m within asked).prompt; arrives = (here m within asked).arrives }

contained_like : (rows : List Row) (s t : Sender) (journey : Travel) (Asked : List ℕ → Type 0) → bare s ≡ bare t
    → ((m : ℕ) → m < listener_count s → Asked (all_but_first (route_to s m))
    → IsContainedOn rows s (route_to s m) (way_to s journey m))
    → (m : ℕ) → m < listener_count t → Asked (all_but_first (route_to t m))
    → IsContainedOn rows t (route_to t m) (way_to t journey m)
contained_like rows s t journey Asked e h =
    subst (λ (x : Sender). (m : ℕ) → m < listener_count x → Asked (all_but_first (route_to x m))
    → IsContainedOn rows x (route_to x m) (way_to x journey m)) e h

pub narrowed_is_sound : NarrowedIsSound
narrowed_is_sound network rows n holds =
    let sound = sound_by_spacing (narrowed network) rows (narrowed_is_network network n)
    (rule_of_holding (narrowed network) rows holds) in
    let count = length-map network.streams narrowed_stream in
    let alike = same_at network.topology network.most_ports network.flows (map narrowed_stream network.streams)
    network.streams (narrowed-bare network.streams) in
    let kept : (releases : List Release) (path : List ℕ) → BridgesKeep spacing_rule network releases path
    → BridgesKeep spacing_rule (narrowed network) releases path =
    λ releases path bridges k d h bridge. (talkers_are_kept network releases _).1 (bridges k d h bridge) in
    record {
      served = λ run legal journey there stream keeps.
          served_like rows (sender_at (narrowed network) journey.release.sender)
          (sender_at network journey.release.sender) journey
          (BridgesKeep spacing_rule network (releases_of run)) (alike journey.release.sender)
          (λ m within bridges. sound.served run ((runs_are_kept network run).1 legal) journey there (omega arith)
          (rw (talker_alike network.topology network.most_ports network.flows (map narrowed_stream network.streams)
          network.streams (narrowed-bare network.streams) journey.release.sender)
          ((talkers_are_kept network _ _).1 keeps)) m within (kept (releases_of run) _ bridges));
      contained = λ run legal journey there stream.
          contained_like rows (sender_at (narrowed network) journey.release.sender)
          (sender_at network journey.release.sender) journey
          (BridgesKeep spacing_rule network (releases_of run)) (alike journey.release.sender)
          (λ m within bridges. sound.contained run ((runs_are_kept network run).1 legal) journey there (omega arith)
          m within (kept (releases_of run) _ bridges));
    }
