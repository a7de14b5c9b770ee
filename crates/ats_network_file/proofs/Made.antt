use Rattle.std.proofs.Common.{◌≡◌, ℕ, Bool, true, false, not, cond, List, [], ◌++◌, Option, Some, None, Result, Ok, Err}
use Rattle.std.proofs.Common.{IsErrAnd, refl, sym, ap, subst, ◌∙◌}
use Rattle.std.specs.Option.{option_or}
use Rattle.ats_num.specs.Failure.{◌>>=◌, unless, Fails, Gives}
use Rattle.ats_num.specs.declared.failure.Failure.{Failure}
use Rattle.ats_num.specs.declared.failure.Failure.TheVariants.{Fault, NoMemory}
use Rattle.ats_topology.specs.Topology.{DeclaredTopology}
use Rattle.ats_streams.specs.Stream.{DeclaredStream}
use Rattle.ats_streams.specs.declared.fault.StreamFault.{StreamFault}
use Rattle.ats_streams.specs.declared.fault.StreamFault.TheVariants.{Limit}
use Rattle.ats_network.specs.Network.{DeclaredNetwork, network_within}
use Rattle.ats_network_table.specs.declared.format.Format.{Format}
use Rattle.ats_network_toml.specs.Document as file
use Rattle.ats_network_file.specs.Reading.{most_ports_of, network_in, topology_in}
use Rattle.ats_network_file.specs.Senders.{all_added, flow_added, flows_in, stream_added, streams_in}
use Rattle.ats_network_file.specs.declared.senders.Place.{Place}
use Rattle.ats_network_file.specs.declared.fault.NetFault.{NetFault}

-- What a stream and a network are made of, where a call before failed, or all went well.

-- a call gives on the failure of one that it made
pub gives_on : {A F : Type 0} (result : Result A (Failure F)) (failure : Failure F) (due : Result A F)
    → IsErrAnd result (λ e. e ≡ failure) → Fails failure due → Gives result due
gives_on (Ok x) failure due is fails = absurd is
gives_on (Err e) failure due is fails = subst (λ (f : Failure _). Fails f due) (sym is) fails

-- the fault that one rule finds is the one of that rule and another one behind it
pub fails_still : {A F G : Type 0} (wrap : F → G) (first behind : Option F) (x : A) (failure : Failure G)
    → Fails failure (unless wrap first x) → Fails failure (unless wrap (option_or first behind) x)
fails_still wrap first behind x NoMemory fails = tt
fails_still wrap (Some f) behind x (Fault fault) fails = fails
fails_still wrap None behind x (Fault fault) fails = cc

-- a stream that breaks no rule before, and does not break this one
pub kept_made : (wrap : StreamFault → NetFault) (first : Option StreamFault) (bad : DeclaredStream → Bool)
    (stream made : DeclaredStream) → unless wrap first stream ≡ Ok made → false ≡ bad made
    → unless wrap (option_or first (cond (bad stream) (Some Limit) None)) stream ≡ Ok made
kept_made wrap (Some f) bad stream made is good = cc
kept_made wrap None bad stream made is good =
    let same : made ≡ stream = cc in
    by (bad stream) (subst (λ (s : DeclaredStream). false ≡ bad s) same good)
  where
    by : (b : Bool) → false ≡ b → unless wrap (cond b (Some Limit) None) stream ≡ Ok made
    by true e = cc
    by false e = is

-- or breaks it
pub broken_made : (wrap : StreamFault → NetFault) (first : Option StreamFault) (bad : DeclaredStream → Bool)
    (stream made : DeclaredStream) (fault : NetFault) → unless wrap first stream ≡ Ok made → true ≡ bad made
    → fault ≡ wrap Limit → unless wrap (option_or first (cond (bad stream) (Some Limit) None)) stream ≡ Err fault
broken_made wrap (Some f) bad stream made fault is breaks fault_is = cc
broken_made wrap None bad stream made fault is breaks fault_is =
    let same : made ≡ stream = cc in
    by (bad stream) (subst (λ (s : DeclaredStream). true ≡ bad s) same breaks)
  where
    by : (b : Bool) → true ≡ b → unless wrap (cond b (Some Limit) None) stream ≡ Err fault
    by true e = cc
    by false e = cc

-- a test that fails where its contrary passes
pub not_so : (b c : Bool) → c ≡ not b → not c ≡ b
not_so true c h = rw h refl
not_so false c h = rw h refl

-- what senders make of a network, as a file of a format declares them
abbrev made_of : Format → DeclaredNetwork → List (Place × file.DeclaredStream) → List (Place × file.DeclaredFlow)
    → Result DeclaredNetwork NetFault
made_of format bare streams flows =
    all_added (stream_added format) bare streams >>= λ streamed. all_added (flow_added format) streamed flows

-- a topology without senders, whose routes may be as long as the format says
abbrev bare_of : Format → DeclaredTopology → DeclaredNetwork
bare_of format topology = network_within topology (most_ports_of format) [] []

-- senders of a document, those of its entries and then those at ports
pub senders_are : {E L S : Type 0} (of : List E → List (Place × S)) (at : List L → List (Place × S))
    (entries given : List E) (there there_given : List L) (made : List (Place × S)) → entries ≡ given
    → there ≡ there_given → made ≡ at there → of entries ++ made ≡ of given ++ at there_given
senders_are of at entries given there there_given made e t m =
    ap (λ es. of es ++ made) e ∙ ap (λ ms. of given ++ ms) (m ∙ ap at t)

-- where a sender of a document has a fault, so has the document
module _ (d : file.DeclaredDocument) (topology : DeclaredTopology) (bare : DeclaredNetwork) (most : ℕ) (format : Format)
    (streams : List (Place × file.DeclaredStream)) (failure : Failure NetFault) (found : topology_in d ≡ Ok topology)
    (bare_is : bare ≡ network_within topology most [] []) (most_is : most ≡ most_ports_of format)
    (format_is : format ≡ d.format) (streams_are : streams ≡ streams_in topology d) where
  pub begun : network_in d ≡ made_of format bare streams (flows_in topology d)
  begun =
      ap (λ (r : Result DeclaredTopology NetFault). r
      >>= λ t. made_of d.format (bare_of d.format t) (streams_in t d) (flows_in t d)) found
      ∙ ap (λ (f : Format). made_of f (bare_of f topology) (streams_in topology d) (flows_in topology d))
      (sym format_is)
      ∙ ap (λ (m : ℕ). made_of format (network_within topology m [] []) (streams_in topology d) (flows_in topology d))
      (sym most_is)
      ∙ ap (λ (b : DeclaredNetwork). made_of format b (streams_in topology d) (flows_in topology d)) (sym bare_is)
      ∙ ap (λ (es : List (Place × file.DeclaredStream)). made_of format bare es (flows_in topology d)) (sym streams_are)

  pub streams_fail : Fails failure (all_added (stream_added format) bare streams) → Fails failure (network_in d)
  streams_fail fails = by failure fails
    where
      by : (f : Failure NetFault) → Fails f (all_added (stream_added format) bare streams) → Fails f (network_in d)
      by NoMemory fails = tt
      by (Fault fault) fails =
          begun
          ∙ ap (λ (r : Result DeclaredNetwork NetFault). r
          >>= λ streamed. all_added (flow_added format) streamed (flows_in topology d)) fails

  pub flows_made : (streamed : DeclaredNetwork) (flows : List (Place × file.DeclaredFlow))
      → all_added (stream_added format) bare streams ≡ Ok streamed → flows ≡ flows_in topology d
      → network_in d ≡ all_added (flow_added format) streamed flows
  flows_made streamed flows made flows_are =
      begun
      ∙ ap (λ (r : Result DeclaredNetwork NetFault). r
      >>= λ streamed. all_added (flow_added format) streamed (flows_in topology d)) made
      ∙ ap (λ (es : List (Place × file.DeclaredFlow)). all_added (flow_added format) streamed es) (sym flows_are)

  pub flows_fail : (streamed : DeclaredNetwork) (flows : List (Place × file.DeclaredFlow))
      → all_added (stream_added format) bare streams ≡ Ok streamed → flows ≡ flows_in topology d
      → Fails failure (all_added (flow_added format) streamed flows) → Fails failure (network_in d)
  flows_fail streamed flows made flows_are fails = by failure fails
    where
      by : (f : Failure NetFault) → Fails f (all_added (flow_added format) streamed flows)
          → Fails f (network_in d)
      by NoMemory fails = tt
      by (Fault fault) fails = flows_made streamed flows made flows_are ∙ fails
