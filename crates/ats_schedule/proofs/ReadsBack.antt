-- What is read from the text of releases are these releases.
use Rattle.std.proofs.Common.{◌≡◌, ◌∙◌, ℕ, suc, ◌+◌, ◌-◌, ◌<◌, ◌≤◌, ◌^◌, Bool, true, cond, ◌&&◌, List, [], ◌∷◌}
use Rattle.std.proofs.Common.{◌++◌, get_or}
use Rattle.std.proofs.Common.{length, map, Ok, Err, Result, refl, sym, ap, subst, append_assoc}
use Rattle.std.proofs.Common.{append-nil, length-append, arith}
use Rattle.std.specs.Prelude.{decimal, nat_le, nat_lt}
use Rattle.std.specs.List.{All}
use Rattle.std.proofs.lemmas.Bool.Decides.{nat_tests}
use Rattle.std.proofs.lemmas.List.{get_or_append_left, get_or-map, length-map}
use Rattle.std.proofs.Math.Seq.{get_or-append_seam}
use Rattle.std.proofs.lemmas.List.Sums.{sum_by-append, sum_by-cons}
use Rattle.std.proofs.lemmas.List.Elements.{All-cons, All-head, All-nil, All-tail}
use Rattle.ats_facts.proofs.Lists.{all_right}
use Rattle.ats_num.specs.Failure.{◌>>=◌, ok_where, or_fault}
use Rattle.ats_num.specs.declared.wire.TheConstants.{MIN_OCTETS, MAX_OCTETS}
use Rattle.ats_num.proofs.Decimal.{reads_back}
use Rattle.ats_network.specs.Network.{DeclaredNetwork, IsNetwork, senders_of}
use Rattle.ats_network.specs.Senders.{no_sender, sender_at}
use Rattle.ats_trace.specs.declared.journey.Release.{Release}
use Rattle.ats_trace.specs.declared.run.TheConstants.{MAX_FRAMES, MAX_HOPS, MAX_RELEASE_PS}
use Rattle.ats_csv.specs.Plain.{IsPlain}
use Rattle.ats_csv.specs.Reading.{same_fields}
use Rattle.ats_csv.proofs.ReadsBack.{plain_reads_back}
use Rattle.ats_schedule.specs.Laws.{AreNamed, ScheduleReadsBack}
use Rattle.ats_schedule.specs.Reading.{header, in_order, in_size, number_in, record_after, release_after}
use Rattle.ats_schedule.specs.Reading.{releases_from, releases_under, sender_in, within_limits}
use Rattle.ats_trace.specs.Releases.{AreReleases, HaveFewPorts, IsRelease}
use Rattle.ats_schedule.specs.Releases.{Follows, last_time, ports_with}
use Rattle.ats_schedule.specs.Text.{fields_of}
use Rattle.ats_schedule.specs.declared.fault.ScheduleFault.{ScheduleFault}
use Rattle.ats_schedule.specs.declared.fault.ScheduleFault.TheVariants.{BadNumber, BadRow, BadSize, Limit, TimeBack}
use Rattle.ats_schedule.specs.declared.fault.ScheduleFault.TheVariants.{UnknownName}
use Rattle.ats_schedule.proofs.Named.{named_itself}
use Rattle.ats_schedule.proofs.PlainRecords.{plain_header, plain_release}
use Rattle.ats_schedule.proofs.Releases.{last_time_is}

-- a sender is found by its name
sender_read : (network : DeclaredNetwork) → IsNetwork network → AreNamed (senders_of network) → (n k : ℕ)
    → k < length (senders_of network) → sender_in network n (sender_at network k).name ≡ Ok k
sender_read network is named n k within =
    ap (or_fault (UnknownName n)) (named_itself network is k within (named k no_sender within))

-- a number that was written is read
number_read : (n x : ℕ) → x < 10 ^ 36 → number_in n (decimal x) ≡ Ok x
number_read n x few = ap (or_fault (BadNumber n)) (reads_back x few)

-- one step that gives its value
step : {A B : Type 0} (r : Result A ScheduleFault) (x : A) (next : A → Result B ScheduleFault)
    (due : Result B ScheduleFault) → r ≡ Ok x → next x ≡ due → (r >>= next) ≡ due
step r x next due e f = rw e f

-- the release that was written is read
release_read : (network : DeclaredNetwork) → IsNetwork network → AreNamed (senders_of network)
    → (before : List Release) (r : Release) → Follows network before r
    → release_after network before (fields_of network r) ≡ Ok r
unfolding release_after
release_read network is named before r follows =
    let n : ℕ = record_after before in
    let sender = sender_read network is named n r.sender follows.is.sender in
    let at = number_read n r.at.0 (omega (arith, follows.is.time)) in
    let octets = number_read n r.octets (omega (arith, follows.is.octets.most)) in
    let is_size : (nat_le MIN_OCTETS r.octets && nat_le r.octets MAX_OCTETS) ≡ true =
    fits MIN_OCTETS r.octets MAX_OCTETS follows.is.octets.least follows.is.octets.most in
    let size : in_size n r.octets ≡ Ok r.octets = ap (λ (b : Bool). ok_where b (BadSize n) r.octets) is_size in
    let is_later : nat_le (last_time before) r.at.0 ≡ true = passes (last_time before) r.at.0 follows.later in
    let later : in_order n (last_time before) r.at.0 ≡ Ok r.at.0 =
    ap (λ (b : Bool). ok_where b (TimeBack n) r.at.0) is_later in
    let ports : ℕ = ports_with network before r.sender in
    let is_within : (nat_le r.at.0 MAX_RELEASE_PS && nat_lt (length before) MAX_FRAMES && nat_le ports MAX_HOPS)
    ≡ true =
    bounded r.at.0 MAX_RELEASE_PS (length before) MAX_FRAMES ports MAX_HOPS follows.is.time follows.room
    follows.ports in
    let time : within_limits n (length before) ports r.at.0 ≡ Ok r.at.0 =
    ap (λ (b : Bool). ok_where b (Limit n) r.at.0) is_within in
    step _ _ _ _ sender (step _ _ _ _ at (step _ _ _ _ octets (step _ _ _ _ size (step _ _ _ _ later
    (step _ _ _ _ time refl)))))
  where
    fits : (a x b : ℕ) → a ≤ x → x ≤ b → (nat_le a x && nat_le x b) ≡ true
    fits a x b low high = grind (arith, nat_tests)

    passes : (a b : ℕ) → a ≤ b → nat_le a b ≡ true
    passes a b low = grind (arith, nat_tests)

    bounded : (x a y b z c : ℕ) → x ≤ a → y < b → z ≤ c → (nat_le x a && nat_lt y b && nat_le z c) ≡ true
    bounded x a y b z c low below few = grind (arith, nat_tests)

-- in releases that may be run each may follow those before it
follows_each : (network : DeclaredNetwork) (before : List Release) (r : Release) (rest : List Release)
    → AreReleases network (before ++ r ∷ rest) → HaveFewPorts network (before ++ r ∷ rest) → Follows network before r
follows_each network before r rest are few = record {
  room = omega (arith, are.few, length-append before (r ∷ rest));
  ports = omega (arith, few, sum_by-append ports_of before (r ∷ rest), sum_by-cons ports_of r rest);
  later = later before are;
  is = All-head (IsRelease network) r rest (all_right (IsRelease network) before (r ∷ rest) are.each);
}
  where
    ports_of : Release → ℕ
    ports_of x = length (sender_at network x.sender).ports

    later : (before : List Release) → AreReleases network (before ++ r ∷ rest) → last_time before ≤ r.at.0
    later [] are = omega arith
    later (b ∷ front) are =
        let before : List Release = b ∷ front in
        let all : List Release = before ++ r ∷ rest in
        let times : List ℕ = map (λ (x : Release). x.at.0) all in
        let long : length times ≡ length all = simp length-map in
        let whole : length all ≡ length before + suc (length rest) = length-append before (r ∷ rest) in
        let k : ℕ = length before - 1 in
        let some : length before ≡ suc (length front) = refl in
        let last : get_or times k 0 ≡ (get_or before k r).at.0 =
        get_or-map (λ (x : Release). x.at.0) all k r 0 (omega arith)
        ∙ ap (λ (x : Release). x.at.0) (get_or_append_left before (r ∷ rest) r k (omega arith)) in
        let next : get_or times (length before) 0 ≡ r.at.0 =
        get_or-map (λ (x : Release). x.at.0) all (length before) r 0 (omega arith)
        ∙ ap (λ (x : Release). x.at.0) (get_or-append_seam before r rest r) in
        let ordered : get_or times k 0 ≤ get_or times (length before) 0 =
        are.in_order k (length before) 0 (omega arith) (omega arith) in
        omega (arith, last, next, ordered, last_time_is before r (omega arith))

-- the releases that were written are read
releases_read : (network : DeclaredNetwork) → IsNetwork network → AreNamed (senders_of network)
    → (before releases : List Release) → AreReleases network (before ++ releases)
    → HaveFewPorts network (before ++ releases)
    → releases_from network before (map (fields_of network) releases) ≡ Ok (before ++ releases)
releases_read network is named before [] are few = ap Ok (sym (append-nil before))
releases_read network is named before (r ∷ releases) are few =
    let one = release_read network is named before r (follows_each network before r releases are few) in
    let joined : (before ++ r ∷ []) ++ releases ≡ before ++ r ∷ releases = append_assoc before (r ∷ []) releases in
    let rest = releases_read network is named (before ++ r ∷ []) releases
    (subst (AreReleases network) (sym joined) are) (subst (HaveFewPorts network) (sym joined) few) in
    step _ _ _ _ one (rest ∙ ap Ok joined)

-- each record that is written is plain
all_plain : (network : DeclaredNetwork) → AreNamed (senders_of network) → (releases : List Release)
    → All (IsRelease network) releases → All IsPlain (map (fields_of network) releases)
all_plain network named [] each = All-nil IsPlain
all_plain network named (r ∷ releases) each =
    let is = All-head (IsRelease network) r releases each in
    All-cons IsPlain (fields_of network r) (map (fields_of network) releases)
    (plain_release network r (named r.sender no_sender is.sender) (omega (arith, is.time))
    (omega (arith, is.octets.most)))
    (all_plain network named releases (All-tail (IsRelease network) r releases each))

header_is : same_fields header header ≡ true
unfolding header same_fields
header_is = refl

pub schedule_reads_back : ScheduleReadsBack
schedule_reads_back network is named releases are few =
    let records = header ∷ map (fields_of network) releases in
    let plain = All-cons IsPlain header (map (fields_of network) releases) plain_header
    (all_plain network named releases are.each) in
    ap (releases_under network) (plain_reads_back records plain)
    ∙ ap (λ (b : Bool). cond b (releases_from network [] (map (fields_of network) releases)) (Err (BadRow 1)))
    header_is
    ∙ releases_read network is named [] releases are few
