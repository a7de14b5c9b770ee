use Rattle.std.proofs.Common.{◌≡◌, ℕ, Bool, true, ◌⊎◌, inl, inr, List, [], ◌∷◌, Option, Some, Result, Ok, Err, refl, ap}
use Rattle.std.proofs.Common.{◌∙◌}
use Rattle.std.proofs.lemmas.List.Elements.{All-cons, All-nil}
use Rattle.ats_num.specs.Failure.{◌>>=◌, ok_where, or_fault, unless}
use Rattle.ats_topology.specs.Topology.{DeclaredTopology}
use Rattle.ats_streams.specs.declared.fault.StreamFault.TheVariants.{Limit}
use Rattle.ats_network.specs.Network.{DeclaredNetwork, declared_network, long_network}
use Rattle.ats_network.specs.Path.{IsValidPath}
use Rattle.ats_network.specs.Pushes.{flow_push_fault, stream_push_fault, with_flow, with_stream}
use Rattle.ats_network.proofs.PathTests.{valid_or_not}
use Rattle.ats_network_table.specs.declared.format.Format.{Format}
use Rattle.ats_network_table.specs.declared.format.Format.TheVariants.{Three, Two}
use Rattle.ats_network_toml.specs.Document as file
use Rattle.ats_network_toml.specs.Document.{DeclaredRoute}
use Rattle.ats_network_file.specs.Routes.{holds, is_valid, may_declare, ports_of, ports_of_each}
use Rattle.ats_network_file.specs.Senders.{flow_added, flow_made, flow_over, legs_in, path_in, refusal_of, stream_added}
use Rattle.ats_network_file.specs.Senders.{stream_made, stream_over}
use Rattle.ats_network_file.specs.declared.fault.NetFault.{NetFault}
use Rattle.ats_network_file.specs.declared.fault.NetFault.TheVariants as fault
use Rattle.ats_network_file.specs.declared.fault.NetFault.TheVariants.{BadPath}
use Rattle.ats_network_file.specs.declared.senders.Place.{Place}
use Rattle.ats_network_file.specs.declared.senders.SenderTable.TheVariants.{Flow, Stream}
use Rattle.ats_network_file.proofs.LegsFound.{legs_are}
use Rattle.ats_route_tree.specs.Legs.{DeclaredLegs}
use Rattle.ats_examples.proofs.NetworkTest.{valid_from_by}
use Rattle.ats_limit_examples.specs.Chains.{LongPathsAreFound, LongRequestsAreLimited, LongRoutesAreLimited, by_ends}
use Rattle.ats_limit_examples.specs.Chains.{by_names, chain, first_flow, first_stream, flow_along, flow_through}
use Rattle.ats_limit_examples.specs.Chains.{one_leg, ports_from, stream_along, stream_through}

-- Paths of many links by a test of their ports, and what is asked for over them by computation.

-- a route with ports that make a valid path
valid_is : (topology : DeclaredTopology) (path : List ℕ) → IsValidPath topology path → is_valid topology path ≡ true
valid_is topology path valid = either (valid_or_not topology path)
  where
    either : (decided : IsValidPath topology path ⊎ ¬ IsValidPath topology path) → holds decided ≡ true
    either (inl is) = refl
    either (inr never) = absurd (never valid)

path_is : (format : Format) (topology : DeclaredTopology) (n : Place) (route : DeclaredRoute) (path : List ℕ)
    → ports_of topology route ≡ Some path → may_declare format topology (path ∷ []) ≡ true
    → IsValidPath topology path → path_in format topology n route ≡ Ok path
path_is format topology n route path ports may valid =
    ap (λ (o : Option (List ℕ)). or_fault (BadPath n.table n.number) o
    >>= λ found. ok_where (is_valid topology found) (BadPath n.table n.number) found >>= declared) ports
    ∙ ap (λ (passes : Bool). ok_where {F = NetFault} passes (BadPath n.table n.number) path >>= declared)
    (valid_is topology path valid)
    ∙ ap (λ (passes : Bool). ok_where {F = NetFault} passes (BadPath n.table n.number) path) may
  where
    declared : List ℕ → Result (List ℕ) NetFault
    declared found = ok_where (may_declare format topology (found ∷ [])) (BadPath n.table n.number) found

legs_is : (format : Format) (topology : DeclaredTopology) (n : Place) (routes : List DeclaredRoute) (path : List ℕ)
    → ports_of_each topology routes ≡ Some (path ∷ []) → may_declare format topology (path ∷ []) ≡ true
    → IsValidPath topology path → legs_in format topology n routes ≡ Ok (one_leg path)
legs_is format topology n routes path ports may valid =
    legs_are format topology n routes (path ∷ []) (one_leg path) ports
    (All-cons (IsValidPath topology) path [] valid (All-nil (IsValidPath topology))) refl may

-- a flow over a path, and a stream over legs
flow_is : (format : Format) (network : DeclaredNetwork) (entry : file.DeclaredFlow) (path : List ℕ)
    (due : Result DeclaredNetwork NetFault) → path_in format network.topology first_flow entry.route ≡ Ok path
    → (flow_made network.most_ports first_flow (flow_over path entry)
    >>= λ made. unless (refusal_of first_flow) (flow_push_fault network made) (with_flow network made)) ≡ due
    → flow_added format network first_flow entry ≡ due
flow_is format network entry path due found comes =
    ap (λ (r : Result (List ℕ) NetFault). r >>= λ found. flow_made network.most_ports first_flow (flow_over found entry)
    >>= λ made. unless (refusal_of first_flow) (flow_push_fault network made) (with_flow network made)) found
    ∙ comes

stream_is : (format : Format) (network : DeclaredNetwork) (entry : file.DeclaredStream) (legs : DeclaredLegs)
    (due : Result DeclaredNetwork NetFault) → legs_in format network.topology first_stream entry.routes ≡ Ok legs
    → (stream_made network.topology network.most_ports first_stream entry (stream_over legs entry)
    >>= λ made. unless (refusal_of first_stream) (stream_push_fault network made) (with_stream network made)) ≡ due
    → stream_added format network first_stream entry ≡ due
stream_is format network entry legs due found comes =
    ap (λ (r : Result DeclaredLegs NetFault). r
    >>= λ found. stream_made network.topology network.most_ports first_stream entry (stream_over found entry)
    >>= λ made. unless (refusal_of first_stream) (stream_push_fault network made) (with_stream network made)) found
    ∙ comes

sixteen_valid : IsValidPath (chain 14) (ports_from 0 16)
sixteen_valid = valid_from_by (chain 14) 0 (ports_from 0 16) refl

seventeen_valid : IsValidPath (chain 15) (ports_from 0 17)
seventeen_valid = valid_from_by (chain 15) 0 (ports_from 0 17) refl

eight_valid : IsValidPath (chain 6) (ports_from 0 8)
eight_valid = valid_from_by (chain 6) 0 (ports_from 0 8) refl

longest_valid : IsValidPath (chain 62) (ports_from 0 64)
longest_valid = valid_from_by (chain 62) 0 (ports_from 0 64) refl

longer_valid : IsValidPath (chain 63) (ports_from 0 65)
longer_valid = valid_from_by (chain 63) 0 (ports_from 0 65) refl

-- the networks of the chains, without streams and flows
abbrev short_of : ℕ → DeclaredNetwork
short_of n = declared_network (chain n) [] []

abbrev long_of : ℕ → DeclaredNetwork
long_of n = long_network (chain n) [] []

pub long_routes_are_limited : LongRoutesAreLimited
long_routes_are_limited = record {
  short = flow_is Two (short_of 14) (flow_through 14) (ports_from 0 16)
      (Ok (declared_network (chain 14) [] (flow_along 16 ∷ [])))
      (path_is Two (chain 14) first_flow (by_names 14) (ports_from 0 16) refl refl sixteen_valid) refl;
  short_over = flow_is Two (short_of 15) (flow_through 15) (ports_from 0 17) (Err (fault.Sender Flow 1 Limit))
      (path_is Two (chain 15) first_flow (by_names 15) (ports_from 0 17) refl refl seventeen_valid) refl;
  over_short = flow_is Three (long_of 15) (flow_through 15) (ports_from 0 17)
      (Ok (long_network (chain 15) [] (flow_along 17 ∷ [])))
      (path_is Three (chain 15) first_flow (by_names 15) (ports_from 0 17) refl refl seventeen_valid) refl;
  long = flow_is Three (long_of 62) (flow_through 62) (ports_from 0 64)
      (Ok (long_network (chain 62) [] (flow_along 64 ∷ [])))
      (path_is Three (chain 62) first_flow (by_names 62) (ports_from 0 64) refl refl longest_valid) refl;
  long_over = flow_is Three (long_of 63) (flow_through 63) (ports_from 0 65) (Err (fault.Sender Flow 1 Limit))
      (path_is Three (chain 63) first_flow (by_names 63) (ports_from 0 65) refl refl longer_valid) refl;
  long_stream = stream_is Three (long_of 62) (stream_through 62) (one_leg (ports_from 0 64))
      (Ok (long_network (chain 62) (stream_along 64 ∷ []) []))
      (legs_is Three (chain 62) first_stream (by_names 62 ∷ []) (ports_from 0 64) refl refl longest_valid) refl;
  long_stream_over = stream_is Three (long_of 63) (stream_through 63) (one_leg (ports_from 0 65))
      (Err (fault.Sender Stream 1 Limit))
      (legs_is Three (chain 63) first_stream (by_names 63 ∷ []) (ports_from 0 65) refl refl longer_valid) refl;
}

pub long_requests_are_limited : LongRequestsAreLimited
long_requests_are_limited = record {
  short = refl;
  short_over = refl;
  over_short = refl;
  long = refl;
  long_over = refl;
}

pub long_paths_are_found : LongPathsAreFound
long_paths_are_found = record {
  names = legs_is Two (chain 14) first_stream (by_names 14 ∷ []) (ports_from 0 16) refl refl sixteen_valid;
  of_flow = path_is Two (chain 14) first_flow (by_names 14) (ports_from 0 16) refl refl sixteen_valid;
  names_over = legs_is Two (chain 15) first_stream (by_names 15 ∷ []) (ports_from 0 17) refl refl seventeen_valid;
  of_flow_over = path_is Two (chain 15) first_flow (by_names 15) (ports_from 0 17) refl refl seventeen_valid;
  of_ends = legs_is Two (chain 6) first_stream (by_ends ∷ []) (ports_from 0 8) refl refl eight_valid;
  asked = refl;
}
