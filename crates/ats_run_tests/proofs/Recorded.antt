-- The records of two frames over a leg of two ports.
use Rattle.std.proofs.Common.{◌≡◌, ℕ, ◌<◌, List, [], ◌∷◌, ◌∙◌, length, ap, sym, subst, arith}
use Rattle.std.proofs.lemmas.List.Elements.{All-nil, All-cons}
use Rattle.std.proofs.lemmas.List.Sorted.{IsNonDecreasingBy-push, IsNonDecreasingBy-short}
use Rattle.std.proofs.lemmas.List.Sums.{sum_by-cons}
use Rattle.ats_num.specs.declared.time.Ps.{Ps}
use Rattle.ats_streams.specs.Branches.{leg_at}
use Rattle.ats_network.specs.Network.{DeclaredNetwork, senders_of}
use Rattle.ats_network.specs.Senders.{sender_at}
use Rattle.ats_trace.specs.Journey.{legs_at}
use Rattle.ats_trace.specs.Releases.{AreReleases, HaveFewPorts, IsRelease}
use Rattle.ats_trace.specs.HopRecord.{HopRecord}
use Rattle.ats_trace.specs.declared.journey.Release.{Release}
use Rattle.ats_run_records.specs.Progress.{Ledger, opened, progress_at, with_hop, with_leg, with_sent}

-- a release of 64 octets at this time
abbrev pub released : ℕ → Release
released at = record { at = record { 0 = at }; sender = 0; octets = 64 }

abbrev pub both : List Release
both = released 5 ∷ released 7 ∷ []

both_are : (releases : List Release) (r s : Release) → releases ≡ r ∷ s ∷ [] → r ≡ released 5 → s ≡ released 7
    → releases ≡ both
both_are releases r s is first second =
    is ∙ ap (λ (x : Release). x ∷ s ∷ []) first ∙ ap (λ (x : Release). released 5 ∷ x ∷ []) second

-- they may be run
pub releases_go : (network : DeclaredNetwork) (releases : List Release) (r s : Release) → releases ≡ r ∷ s ∷ []
    → r ≡ released 5 → s ≡ released 7 → 0 < length (senders_of network) → AreReleases network releases
releases_go network releases r s is first second sender =
    let may : (at : ℕ) → at < 8 → IsRelease network (released at) =
    λ at early. record {
      time = omega (arith, early);
      sender = sender;
      octets = record { least = omega arith; most = omega arith };
    } in
    subst (AreReleases network) (sym (both_are releases r s is first second)) (record {
      few = omega arith;
      in_order = IsNonDecreasingBy-push (λ (x : ℕ). x) (5 ∷ []) 7
          (IsNonDecreasingBy-short (λ (x : ℕ). x) (5 ∷ []) (omega arith)) (λ d within. omega arith);
      each = All-cons (IsRelease network) (released 5) (released 7 ∷ []) (may 5 (omega arith))
          (All-cons (IsRelease network) (released 7) [] (may 7 (omega arith)) (All-nil (IsRelease network)));
    })

-- and have four ports
pub few_ports_go : (network : DeclaredNetwork) (releases : List Release) (r s : Release) → releases ≡ r ∷ s ∷ []
    → r ≡ released 5 → s ≡ released 7 → length (sender_at network 0).ports ≡ 2 → HaveFewPorts network releases
few_ports_go network releases r s is first second long =
    let ports : Release → ℕ = λ x. length (sender_at network x.sender).ports in
    subst (HaveFewPorts network) (sym (both_are releases r s is first second))
    (omega (arith, long, sum_by-cons ports (released 5) (released 7 ∷ []), sum_by-cons ports (released 7) []))

-- there may be one hop record more along the leg of a row
abbrev pub HasRoom : Ledger → ℕ → Type 0
HasRoom ledger row = length (progress_at ledger.legs row).hops < (progress_at ledger.legs row).room

-- a record was pushed there, or its transmission told
abbrev pub pushed : Ledger → ℕ → HopRecord → Ledger
pushed ledger row hop = with_leg ledger row (with_hop (progress_at ledger.legs row) hop)

abbrev pub sent : Ledger → ℕ → Ps → Ps → Ledger
sent ledger row start end = with_leg ledger row (with_sent (progress_at ledger.legs row) start end)

-- at first there is room for two records along each of the trunks
opened_are : (network : DeclaredNetwork) (ledger : Ledger) (releases : List Release) (r s : Release)
    → ledger ≡ opened network releases → releases ≡ r ∷ s ∷ [] → r ≡ released 5 → s ≡ released 7
    → ledger ≡ opened network both
opened_are network ledger releases r s is all first second =
    is ∙ ap (opened network) (both_are releases r s all first second)

pub room_at_first : (network : DeclaredNetwork) (ledger : Ledger) (releases : List Release) (r s : Release)
    → ledger ≡ opened network releases → releases ≡ r ∷ s ∷ [] → r ≡ released 5 → s ≡ released 7
    → length (leg_at (legs_at network 0) 0) ≡ 2 → HasRoom ledger 1
room_at_first network ledger releases r s is all first second long =
    let there : HasRoom (opened network both) 1 = omega (arith, long) in
    subst (λ (l : Ledger). HasRoom l 1) (sym (opened_are network ledger releases r s is all first second)) there

-- a record of the second frame takes none of the first one's
pub room_then : (network : DeclaredNetwork) (ledger one : Ledger) (releases : List Release) (r s : Release)
    (hop : HopRecord) → ledger ≡ opened network releases → releases ≡ r ∷ s ∷ [] → r ≡ released 5 → s ≡ released 7
    → one ≡ pushed ledger 1 hop → length (leg_at (legs_at network 0) 0) ≡ 2 → HasRoom one 0
room_then network ledger one releases r s hop is all first second push long =
    let there : HasRoom (pushed (opened network both) 1 hop) 0 = omega (arith, long) in
    subst (λ (l : Ledger). HasRoom l 0)
    (sym (push ∙ ap (λ (l : Ledger). pushed l 1 hop) (opened_are network ledger releases r s is all first second)))
    there

-- and leaves room for one more
pub room_at_last : (network : DeclaredNetwork) (ledger one two three : Ledger) (releases : List Release)
    (r s : Release) (hop other : HopRecord) (start end : Ps) → ledger ≡ opened network releases
    → releases ≡ r ∷ s ∷ [] → r ≡ released 5 → s ≡ released 7 → one ≡ pushed ledger 1 hop → two ≡ pushed one 0 other
    → three ≡ sent two 1 start end → length (leg_at (legs_at network 0) 0) ≡ 2 → HasRoom three 1
room_at_last network ledger one two three releases r s hop other start end is all first second push more send long =
    let last : Ledger = sent (pushed (pushed (opened network both) 1 hop) 0 other) 1 start end in
    let there : HasRoom last 1 = omega (arith, long) in
    let same : three ≡ last =
    send ∙ ap (λ (l : Ledger). sent l 1 start end) (more ∙ ap (λ (l : Ledger). pushed l 0 other)
    (push ∙ ap (λ (l : Ledger). pushed l 1 hop) (opened_are network ledger releases r s is all first second))) in
    subst (λ (l : Ledger). HasRoom l 1) (sym same) there
