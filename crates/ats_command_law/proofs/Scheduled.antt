-- What a schedule's file declares may be run.
use Rattle.std.proofs.Common.{◌≡◌, ℕ, ◌<◌, ◌≤◌, Bool, true, false, List, [], ◌∷◌, ◌++◌, length, Option}
use Rattle.std.proofs.Common.{Some, None}
use Rattle.std.proofs.Common.{Result, Ok, Err, refl, arith}
use Rattle.std.specs.Prelude.{IfOk, IfSome, ◌&&◌, nat_le, nat_lt, ◌==◌, if◌then◌else◌}
use Rattle.std.specs.Option.{option_and_then}
use Rattle.std.proofs.lemmas.List.{length-map}
use Rattle.ats_num.specs.Failure.{◌>>=◌, or_fault, ok_where}
use Rattle.ats_num.specs.Name.{name_of}
use Rattle.ats_num.specs.Places.{place_of}
use Rattle.ats_num.specs.Wire.{IsFrameSize}
use Rattle.ats_num.specs.declared.wire.TheConstants.{MIN_OCTETS, MAX_OCTETS}
use Rattle.ats_num.proofs.Numbered.{place_of-lt}
use Rattle.ats_network.specs.Network.{DeclaredNetwork, names_of, senders_of}
use Rattle.ats_network.specs.Sender.{Sender}
use Rattle.ats_trace.specs.Releases.{AreReleases}
use Rattle.ats_trace.specs.declared.journey.Release.{Release}
use Rattle.ats_trace.specs.declared.run.TheConstants.{MAX_FRAMES, MAX_HOPS, MAX_RELEASE_PS}
use Rattle.ats_schedule.specs.Reading.{sender_in, in_size, in_order, within_limits, release_after, releases_from}
use Rattle.ats_schedule.specs.Reading.{header, number_in, record_after, releases_under, releases_of}
use Rattle.ats_schedule.specs.FaultText.{fault_text}
use Rattle.ats_schedule.specs.declared.fault.ScheduleFault.{ScheduleFault}
use Rattle.ats_schedule.specs.declared.fault.ScheduleFault.TheVariants.{BadRow, UnknownName, BadSize, TimeBack, Limit}
use Rattle.ats_csv.specs.Reading.{field_of, records_of, same_fields}
use Rattle.ats_schedule.specs.Releases.{Follows, last_time, ports_with}
use Rattle.ats_schedule.proofs.Releases.{no_release, one_more}
use Rattle.ats_command_input.specs.Input.{bytes_in, declared_in, network_in, releases_in}
use Rattle.ats_command_due.specs.Replayed.{Scheduled, scheduled_in}

-- what each value of a step keeps goes on
goes : {A B F : Type 0} (P : A → Type 0) (Q : B → Type 0) (due : Result A F) (next : A → Result B F) → IfOk due P
    → ((x : A) → P x → IfOk (next x) Q) → IfOk (due >>= next) Q
goes P Q (Ok x) next h step = step x h
goes P Q (Err e) next h step = tt

-- where nothing is kept
any : {A F : Type 0} (due : Result A F) → IfOk due (λ (x : A). Unit {0})
any (Ok x) = tt
any (Err e) = tt

some_keeps : {A F : Type 0} (P : A → Type 0) (fault : F) (o : Option A) → IfSome o P → IfOk (or_fault fault o) P
some_keeps P fault None h = tt
some_keeps P fault (Some x) h = h

then_keeps : {A B : Type 0} (P : B → Type 0) (f : A → Option B) (o : Option A) → ((x : A) → IfSome (f x) P)
    → IfSome (option_and_then f o) P
then_keeps P f None h = tt
then_keeps P f (Some x) h = h x

where_keeps : {A F : Type 0} (P : A → Type 0) (b : Bool) (fault : F) (x : A) → (b ≡ true → P x)
    → IfOk (ok_where b fault x) P
where_keeps P true fault x h = h refl
where_keeps P false fault x h = tt

if_keeps : {A F : Type 0} (P : A → Type 0) (b : Bool) (due : Result A F) (fault : F) → IfOk due P
    → IfOk (if b then due else Err fault) P
if_keeps P true due fault h = h
if_keeps P false due fault h = tt

declared_keeps : {A F : Type 0} (P : A → Type 0) (file : List ℕ) (words : F → List ℕ) (due : Result A F) → IfOk due P
    → IfOk (declared_in file words due) P
declared_keeps P file words (Ok x) h = h
declared_keeps P file words (Err fault) h = tt

-- a name that is there has a place
place_within : (name : List ℕ) (names : List (List ℕ)) (o : Option ℕ) → place_of name names ≡ o
    → IfSome o (λ (k : ℕ). k < length names)
place_within name names None e = tt
place_within name names (Some k) e = place_of-lt name names k e

sender_within : (network : DeclaredNetwork) (n : ℕ) (text : List ℕ)
    → IfOk (sender_in network n text) (λ (s : ℕ). s < length (names_of (senders_of network)))
sender_within network n text =
    let Within : ℕ → Type 0 = λ s. s < length (names_of (senders_of network)) in
    some_keeps Within (UnknownName n) (option_and_then (λ name. place_of name (names_of (senders_of network)))
    (name_of text))
    (then_keeps Within (λ name. place_of name (names_of (senders_of network))) (name_of text)
    (λ name. place_within name (names_of (senders_of network))
    (place_of name (names_of (senders_of network))) refl))

size_is : (octets : ℕ) → (nat_le MIN_OCTETS octets && nat_le octets MAX_OCTETS) ≡ true → IsFrameSize octets
size_is octets h = record { least = grind arith; most = grind arith }

order_is : (last at : ℕ) → nat_le last at ≡ true → last ≤ at
order_is last at h = grind arith

-- within the limits, and behind what came before
pub record IsTimed (network : DeclaredNetwork) (releases : List Release) (sender at : ℕ) : Type 0 where
  pub later : last_time releases ≤ at
  pub most : at ≤ MAX_RELEASE_PS
  pub room : length releases < MAX_FRAMES
  pub ports : ports_with network releases sender ≤ MAX_HOPS

timed_is : (network : DeclaredNetwork) (releases : List Release) (sender at : ℕ) → last_time releases ≤ at
    → (nat_le at MAX_RELEASE_PS && nat_lt (length releases) MAX_FRAMES
    && nat_le (ports_with network releases sender) MAX_HOPS) ≡ true → IsTimed network releases sender at
timed_is network releases sender at later h =
    record { later = later; most = grind arith; room = grind arith; ports = grind arith }

-- the steps by which three fields give a release behind those before it, from the last one on
abbrev released : ℕ → ℕ → ℕ → Release
released sender size time = record { at = record { 0 = time }; sender = sender; octets = size }

abbrev by_time : DeclaredNetwork → List Release → ℕ → ℕ → ℕ → Result Release ScheduleFault
by_time network releases sender size later =
    within_limits (record_after releases) (length releases) (ports_with network releases sender) later
    >>= λ time. Ok (released sender size time)

abbrev by_order : DeclaredNetwork → List Release → ℕ → ℕ → ℕ → Result Release ScheduleFault
by_order network releases sender at size =
    in_order (record_after releases) (last_time releases) at >>= λ later. by_time network releases sender size later

abbrev by_size : DeclaredNetwork → List Release → ℕ → ℕ → ℕ → Result Release ScheduleFault
by_size network releases sender at octets =
    in_size (record_after releases) octets >>= λ size. by_order network releases sender at size

abbrev by_numbers : DeclaredNetwork → List Release → List (List ℕ) → ℕ → Result Release ScheduleFault
by_numbers network releases fields sender =
    number_in (record_after releases) (field_of fields 0)
    >>= λ at. number_in (record_after releases) (field_of fields 2)
    >>= λ octets. by_size network releases sender at octets

time_follows : (network : DeclaredNetwork) (releases : List Release) (sender size later : ℕ)
    → sender < length (names_of (senders_of network)) → IsFrameSize size → last_time releases ≤ later
    → IfOk (by_time network releases sender size later) (Follows network releases)
time_follows network releases sender size later known sized ordered =
    let Timed : ℕ → Type 0 = IsTimed network releases sender in
    goes Timed (Follows network releases)
    (within_limits (record_after releases) (length releases) (ports_with network releases sender) later)
    (λ (time : ℕ). Ok (released sender size time))
    (where_keeps Timed (nat_le later MAX_RELEASE_PS && nat_lt (length releases) MAX_FRAMES
    && nat_le (ports_with network releases sender) MAX_HOPS)
    (Limit (record_after releases)) later (timed_is network releases sender later ordered))
    (λ time timed. record {
      room = timed.room;
      ports = timed.ports;
      later = timed.later;
      is = record {
        time = timed.most;
        sender = omega (arith, length-map (senders_of network) (λ (s : Sender). s.name));
        octets = sized;
      };
    })

order_follows : (network : DeclaredNetwork) (releases : List Release) (sender at size : ℕ)
    → sender < length (names_of (senders_of network)) → IsFrameSize size
    → IfOk (by_order network releases sender at size) (Follows network releases)
order_follows network releases sender at size known sized =
    goes (λ (t : ℕ). last_time releases ≤ t) (Follows network releases)
    (in_order (record_after releases) (last_time releases) at)
    (λ (later : ℕ). by_time network releases sender size later)
    (where_keeps (λ (t : ℕ). last_time releases ≤ t) (nat_le (last_time releases) at)
    (TimeBack (record_after releases)) at (order_is (last_time releases) at))
    (λ later ordered. time_follows network releases sender size later known sized ordered)

size_follows : (network : DeclaredNetwork) (releases : List Release) (sender at octets : ℕ)
    → sender < length (names_of (senders_of network))
    → IfOk (by_size network releases sender at octets) (Follows network releases)
size_follows network releases sender at octets known =
    goes IsFrameSize (Follows network releases) (in_size (record_after releases) octets)
    (λ (size : ℕ). by_order network releases sender at size)
    (where_keeps IsFrameSize (nat_le MIN_OCTETS octets && nat_le octets MAX_OCTETS)
    (BadSize (record_after releases)) octets (size_is octets))
    (λ size sized. order_follows network releases sender at size known sized)

numbers_follow : (network : DeclaredNetwork) (releases : List Release) (fields : List (List ℕ)) (sender : ℕ)
    → sender < length (names_of (senders_of network))
    → IfOk (by_numbers network releases fields sender) (Follows network releases)
numbers_follow network releases fields sender known =
    goes (λ (at : ℕ). Unit {0}) (Follows network releases) (number_in (record_after releases) (field_of fields 0))
    (λ (at : ℕ). number_in (record_after releases) (field_of fields 2)
    >>= λ octets. by_size network releases sender at octets)
    (any (number_in (record_after releases) (field_of fields 0)))
    (λ at read. goes (λ (octets : ℕ). Unit {0}) (Follows network releases)
    (number_in (record_after releases) (field_of fields 2)) (λ (octets : ℕ). by_size network releases sender at octets)
    (any (number_in (record_after releases) (field_of fields 2)))
    (λ octets read. size_follows network releases sender at octets known))

-- the release of three fields may follow those before it
follows : (network : DeclaredNetwork) (releases : List Release) (fields : List (List ℕ))
    → IfOk (release_after network releases fields) (Follows network releases)
unfolding release_after
follows network releases fields =
    goes (λ (s : ℕ). s < length (names_of (senders_of network))) (Follows network releases)
    (sender_in network (record_after releases) (field_of fields 1)) (by_numbers network releases fields)
    (sender_within network (record_after releases) (field_of fields 1))
    (λ sender known. numbers_follow network releases fields sender known)

-- so do those of further records
from_keeps : (network : DeclaredNetwork) (releases : List Release) (records : List (List (List ℕ)))
    → AreReleases network releases → IfOk (releases_from network releases records) (AreReleases network)
from_keeps network releases [] are = are
from_keeps network releases (fields ∷ records) are =
    goes (λ (three : List (List ℕ)). Unit {0}) (AreReleases network)
    (ok_where (length fields == 3) (BadRow (record_after releases)) fields)
    (λ three. release_after network releases three
    >>= λ release. releases_from network (releases ++ release ∷ []) records)
    (any (ok_where (length fields == 3) (BadRow (record_after releases)) fields))
    (λ three known. goes (Follows network releases) (AreReleases network) (release_after network releases three)
    (λ release. releases_from network (releases ++ release ∷ []) records) (follows network releases three)
    (λ release fits. from_keeps network (releases ++ release ∷ []) records
    (one_more network releases (releases ++ release ∷ []) release are fits refl)))

under_keeps : (network : DeclaredNetwork) (records : List (List (List ℕ)))
    → IfOk (releases_under network records) (AreReleases network)
under_keeps network [] = tt
under_keeps network (first ∷ records) =
    if_keeps (AreReleases network) (same_fields first header) (releases_from network [] records) (BadRow 1)
    (from_keeps network [] records (no_release network [] refl))

-- releases that are declared may be run
pub releases_may : (network : DeclaredNetwork) (file bytes : List ℕ)
    → IfOk (releases_in network file bytes) (AreReleases network)
unfolding releases_in
releases_may network file bytes =
    goes (λ (text : List ℕ). Unit {0}) (AreReleases network) (bytes_in 33554432 file bytes)
    (λ text. declared_in file fault_text (releases_of network text)) (any (bytes_in 33554432 file bytes))
    (λ text read. declared_keeps (AreReleases network) file fault_text (releases_of network text)
    (under_keeps network (records_of text)))

-- what is to be run, of both
abbrev scheduled : DeclaredNetwork → List Release → Scheduled
scheduled n releases = record { network = n; releases = releases }

pub scheduled_may : (net schedule net_bytes schedule_bytes : List ℕ)
    → IfOk (scheduled_in net schedule net_bytes schedule_bytes)
    (λ (s : Scheduled). AreReleases s.network s.releases)
unfolding scheduled_in
scheduled_may net schedule net_bytes schedule_bytes =
    let May : Scheduled → Type 0 = λ s. AreReleases s.network s.releases in
    goes (λ (n : DeclaredNetwork). Unit {0}) May (network_in net net_bytes)
    (λ n. releases_in n schedule schedule_bytes >>= λ releases. Ok (scheduled n releases))
    (any (network_in net net_bytes))
    (λ n read. goes (AreReleases n) May (releases_in n schedule schedule_bytes)
    (λ releases. Ok (scheduled n releases))
    (releases_may n schedule schedule_bytes) (λ releases are. are))
