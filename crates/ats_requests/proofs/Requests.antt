-- A network for which a certificate holds stays one after any requests.
use Rattle.std.proofs.Common.{◌≡◌, ℕ, List, [], ◌∷◌, Option, Some, None, Result, Ok, Err, refl, sym, subst, ◌∙◌}
use Rattle.std.specs.List.{All}
use Rattle.std.proofs.lemmas.List.Elements.{All-contains, All-head, All-tail, All-weaker}
use Rattle.ats_topology.specs.Topology.{DeclaredTopology}
use Rattle.ats_streams.specs.Stream.{DeclaredStream, IsClass, with_class}
use Rattle.ats_network.specs.Network.{DeclaredNetwork, HasShortRoutes}
use Rattle.ats_network.specs.Path.{IsTree}
use Rattle.ats_certificate.specs.Used.{stream_classes}
use Rattle.ats_tally.specs.declared.reason.Reason.{Reason}
use Rattle.ats_requests.specs.Admission.{added_given, after_lowest, class_given, entry_fault, lowest_of}
use Rattle.ats_requests.specs.Laws.{IsCertified, RequestKeeps, RequestsKeep, StaysCertified}
use Rattle.ats_requests.specs.Requests.{MayAsk, MayEnter, after, after_all}
use Rattle.ats_requests.specs.declared.denied.Denied.{Denied}
use Rattle.ats_requests.specs.declared.request.Request.{Request}
use Rattle.ats_requests.specs.declared.request.Request.TheVariants.{Admit, Lowest, Withdraw}
use Rattle.ats_requests.proofs.Classes.{IsFirstFree, are_classes, ascend, first_free}
use Rattle.ats_requests.proofs.Keeps.{admit_keeps, admitted_keeps, enters_with, nothing_changes, withdraw_keeps}

-- a stream that may be asked for may be so over another network with the same topology and the same greatest number of
-- ports of a route
enters_still : (old new : DeclaredNetwork) (stream : DeclaredStream) → new.topology ≡ old.topology
    → new.most_ports ≡ old.most_ports → MayEnter old stream → MayEnter new stream
enters_still old new stream topology most may = record {
  rules = may.rules;
  tree = subst (λ (t : DeclaredTopology). IsTree t stream.ports stream.branches) (sym topology) may.tree;
  short = subst (λ (n : ℕ). HasShortRoutes n stream) (sym most) may.short;
  one_listener = may.one_listener;
  unidentified = may.unidentified;
}

asks_still : (old new : DeclaredNetwork) (request : Request) → new.topology ≡ old.topology
    → new.most_ports ≡ old.most_ports → MayAsk old request → MayAsk new request
asks_still old new (Admit stream) topology most may = enters_still old new stream topology most may
asks_still old new (Lowest stream) topology most may = enters_still old new stream topology most may
asks_still old new (Withdraw name) topology most may = tt

-- so may all of these requests
pub may_still : (old new : DeclaredNetwork) (requests : List Request) → new.topology ≡ old.topology
    → new.most_ports ≡ old.most_ports → All (MayAsk old) requests → All (MayAsk new) requests
may_still old new requests topology most =
    All-weaker (MayAsk old) (MayAsk new) (λ request. asks_still old new request topology most) requests

lowest_keeps : (network : DeclaredNetwork) (stream : DeclaredStream) → IsCertified network
    → MayEnter network stream → StaysCertified network (after_lowest network stream)
lowest_keeps network stream is may =
    by (entry_fault network stream) refl (lowest_of network stream stream_classes) refl
  where
    by : (o : Option Denied) → entry_fault network stream ≡ o → (r : Result ℕ (List Reason))
        → lowest_of network stream stream_classes ≡ r
        → StaysCertified network (added_given network stream (class_given o r))
    by (Some denied) e r f = nothing_changes network is
    by None e (Err reasons) f = nothing_changes network is
    by None e (Ok class) f =
        let first : IsFirstFree network stream stream_classes class =
        first_free network stream stream_classes class ascend f in
        admitted_keeps network (with_class stream class) is
        (enters_with network stream class may
        (All-contains IsClass stream_classes class are_classes first.inside)) e first.free

pub request_keeps : RequestKeeps
request_keeps network (Admit stream) is may = admit_keeps network stream is may
request_keeps network (Lowest stream) is may = lowest_keeps network stream is may
request_keeps network (Withdraw name) is may = withdraw_keeps network name is

pub requests_keep : RequestsKeep
requests_keep network [] is may = nothing_changes network is
requests_keep network (request ∷ requests) is may =
    let next : DeclaredNetwork = after network request in
    let one : StaysCertified network next =
    request_keeps network request is (All-head (MayAsk network) request requests may) in
    let rest : All (MayAsk next) requests =
    may_still network next requests one.topology one.most_ports (All-tail (MayAsk network) request requests may) in
    let later : StaysCertified next (after_all next requests) = requests_keep next requests one.certified rest in
    record {
      topology = later.topology ∙ one.topology;
      most_ports = later.most_ports ∙ one.most_ports;
      certified = later.certified;
    }
