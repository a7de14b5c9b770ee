-- A network for which a certificate holds stays one after each request.
use Rattle.std.proofs.Common.{◌≡◌, ℕ, Bool, true, false, cond, List, length, Option, Some}
use Rattle.std.proofs.Common.{None, refl, ap, ◌∙◌}
use Rattle.std.specs.Prelude.{is_some}
use Rattle.std.specs.Option.{option_map}
use Rattle.std.proofs.lemmas.List.Elements.{All-replicate}
use Rattle.std.proofs.lemmas.List.{length-replicate}
use Rattle.ats_facts.proofs.Options.{is_some-false, option_or-none}
use Rattle.ats_num.specs.Places.{place_of}
use Rattle.ats_streams.specs.Stream.{DeclaredStream, IsClass, with_class}
use Rattle.ats_network.specs.Edits.{less_at, without_named}
use Rattle.ats_network.specs.Network.{DeclaredNetwork, IsNetwork, senders_of, names_of}
use Rattle.ats_network.specs.Pushes.{with_stream, is_beyond, is_name_taken, is_identity_taken}
use Rattle.ats_network.specs.Tables.{stream_names}
use Rattle.ats_network.proofs.Edited.{without_network}
use Rattle.ats_network.proofs.Pushed.{pushed_stream}
use Rattle.ats_tally.specs.declared.reason.Reason.{Reason}
use Rattle.ats_admission_law.specs.Reason.{reason_of}
use Rattle.ats_admission_law.proofs.Along.{reason_is_judged}
use Rattle.ats_admission_law.proofs.Edits.{added_last, taken_out}
pub use Rattle.ats_admission_law.proofs.NoneRises.{less_has_no_reason}
use Rattle.ats_requests.specs.Admission.{admit_fault, after_admit, entry_fault, reason_with}
use Rattle.ats_requests.specs.Laws.{AdmitIsJudged, IsCertified, StaysCertified}
use Rattle.ats_requests.specs.Requests.{MayEnter}
use Rattle.ats_requests.specs.declared.denied.Denied.{Denied}
use Rattle.ats_requests.specs.declared.denied.Denied.TheVariants.{NameTaken, Limit, Because}

-- where nothing stands against an entry, the name is free and there is room
pub record MayComeIn (network : DeclaredNetwork) (stream : DeclaredStream) : Type 0 where
  pub absent : place_of stream.name (names_of (senders_of network)) ≡ None
  pub room : is_beyond network stream ≡ false

pub may_come_in : (network : DeclaredNetwork) (stream : DeclaredStream) → entry_fault network stream ≡ None
    → MayComeIn network stream
may_come_in network stream none =
    by (is_name_taken network stream.name) refl (is_beyond network stream) refl none
  where
    by : (a : Bool) → is_name_taken network stream.name ≡ a
        → (b : Bool) → is_beyond network stream ≡ b
        → cond a (Some NameTaken) (cond b (Some Limit) None) ≡ None → MayComeIn network stream
    by true e b f h = absurd (let no : Some NameTaken ≡ None = h in cc)
    by false e true f h = absurd (let no : Some Limit ≡ None = h in cc)
    by false e false f h = record {
      absent = is_some-false (place_of stream.name (names_of (senders_of network))) e;
      room = f;
    }

-- so the network with the stream is one
pub entered : (network : DeclaredNetwork) (stream : DeclaredStream) → IsNetwork network
    → MayEnter network stream → entry_fault network stream ≡ None → IsNetwork (with_stream network stream)
entered network stream is may none =
    let in' : MayComeIn network stream = may_come_in network stream none in
    pushed_stream network stream is may.rules may.tree may.short in'.absent
    (ap (is_identity_taken network.streams) may.unidentified) in'.room

-- a stream that may be asked for may be so with any class
pub enters_with : (network : DeclaredNetwork) (stream : DeclaredStream) (class : ℕ) → MayEnter network stream
    → IsClass class → MayEnter network (with_class stream class)
enters_with network stream class may is = record {
  rules = record {
    classes = All-replicate IsClass (length stream.ports) class is;
    each_port = length-replicate (length stream.ports) class;
    rules = may.rules.rules;
    branches = may.rules.branches;
    routes = may.rules.routes;
    deadline = may.rules.deadline;
    identity = may.rules.identity;
  };
  tree = may.tree;
  short = may.short;
  one_listener = may.one_listener;
  unidentified = may.unidentified;
}

-- a stream that is admitted
pub admitted_keeps : (network : DeclaredNetwork) (stream : DeclaredStream) → IsCertified network
    → MayEnter network stream → entry_fault network stream ≡ None → reason_with network stream ≡ None
    → StaysCertified network (with_stream network stream)
admitted_keeps network stream is may entry none = record {
  topology = refl;
  most_ports = refl;
  certified = record { rules = entered network stream is.rules may entry; free = none };
}

pub nothing_changes : (network : DeclaredNetwork) → IsCertified network → StaysCertified network network
nothing_changes network is = record { topology = refl; most_ports = refl; certified = is }

pub no_because : (o : Option Reason) → option_map Because o ≡ None → o ≡ None
no_because None h = refl
no_because (Some reason) h = absurd (let no : Some (Because reason) ≡ None = h in cc)

pub admit_keeps : (network : DeclaredNetwork) (stream : DeclaredStream) → IsCertified network
    → MayEnter network stream → StaysCertified network (after_admit network stream)
admit_keeps network stream is may = by (admit_fault network stream) refl
  where
    by : (o : Option Denied) → admit_fault network stream ≡ o
        → StaysCertified network (cond (is_some o) network (with_stream network stream))
    by None e =
        let parts = option_or-none (entry_fault network stream) (option_map Because (reason_with network stream)) e in
        admitted_keeps network stream is may parts.0 (no_because (reason_with network stream) parts.1)
    by (Some denied) e = nothing_changes network is

-- a stream that is taken out, where one is
pub withdraw_keeps : (network : DeclaredNetwork) (name : List ℕ) → IsCertified network
    → StaysCertified network (without_named network name)
withdraw_keeps network name is = record {
  topology = refl;
  most_ports = refl;
  certified = record { rules = without_network network name is.rules; free = free };
}
  where
    free : reason_of (without_named network name) ≡ None
    free = by (place_of name (stream_names network.streams)) refl
      where
        by : (o : Option ℕ) → place_of name (stream_names network.streams) ≡ o
            → reason_of (without_named network name) ≡ None
        by None e = ap (λ (t : Option ℕ). reason_of (record network { streams = less_at t network.streams })) e
            ∙ is.free
        by (Some place) e = less_has_no_reason network (without_named network name) _
            (taken_out network name place e) is.rules is.free

pub admit_is_judged : AdmitIsJudged
admit_is_judged network stream is may none =
    reason_is_judged (with_stream network stream) network stream (added_last network stream)
    (entered network stream is.rules may none) is.free
