-- Releases that may be run, and one more of them.
use Rattle.std.proofs.Common.{◌≡◌, ◌∙◌, ℕ, ◌+◌, ◌-◌, ◌<◌, ◌≤◌, List, [], ◌∷◌, ◌++◌, length, get_or, map, sym, ap, subst}
use Rattle.std.proofs.Common.{arith, length-append}
use Rattle.std.specs.List.Sorted.{IsNonDecreasing}
use Rattle.std.proofs.lemmas.List.{map-append, get_or-map, length-map}
use Rattle.std.proofs.lemmas.List.Sums.{sum_by-append}
use Rattle.std.proofs.lemmas.List.Elements.{All-nil, All-cons, All-append}
use Rattle.std.proofs.lemmas.List.Sorted.{IsNonDecreasingBy-push, IsNonDecreasingBy-short}
use Rattle.std.proofs.lemmas.Option.{slice_get-get_or}
use Rattle.ats_network.specs.Network.{DeclaredNetwork}
use Rattle.ats_network.specs.Senders.{sender_at}
use Rattle.ats_trace.specs.declared.journey.Release.{Release}
use Rattle.ats_trace.specs.Releases.{AreReleases, IsRelease, ports_of_frames}
use Rattle.ats_schedule.specs.Releases.{Follows, last_time, ports_with, time_of}

-- no release
pub no_release : (network : DeclaredNetwork) (releases : List Release) → releases ≡ [] → AreReleases network releases
no_release network releases e = subst (AreReleases network) (sym e) (record {
  few = omega arith;
  in_order = IsNonDecreasingBy-short (λ (x : ℕ). x) [] (omega arith);
  each = All-nil (IsRelease network);
})

-- the time of the last one is that of the last element
pub last_time_is : (releases : List Release) (d : Release) → 0 < length releases
    → last_time releases ≡ (get_or releases (length releases - 1) d).at.0
last_time_is releases d some = ap time_of (slice_get-get_or releases (length releases - 1) d (omega arith))

-- one release more
pub one_more : (network : DeclaredNetwork) (releases new : List Release) (r : Release) → AreReleases network releases
    → Follows network releases r → new ≡ releases ++ r ∷ [] → AreReleases network new
one_more network releases new r are follows e = subst (AreReleases network) (sym e) (record {
  few = omega (arith, length-append releases (r ∷ []));
  in_order = subst IsNonDecreasing (sym (map-append (λ (x : Release). x.at.0) releases (r ∷ [])))
      (IsNonDecreasingBy-push (λ (x : ℕ). x) times r.at.0 are.in_order last);
  each = All-append (IsRelease network) releases (r ∷ []) are.each
      (All-cons (IsRelease network) r [] follows.is (All-nil (IsRelease network)));
})
  where
    times : List ℕ
    times = map (λ (x : Release). x.at.0) releases

    last : (d : ℕ) → 0 < length times → get_or times (length times - 1) d ≤ r.at.0
    last d some =
        let long : length times ≡ length releases = simp length-map in
        let here : get_or times (length times - 1) d ≡ (get_or releases (length releases - 1) r).at.0 =
        ap (λ k. get_or times (k - 1) d) long
        ∙ get_or-map (λ (x : Release). x.at.0) releases (length releases - 1) r d (omega arith) in
        omega (arith, here, last_time_is releases r (omega arith), follows.later)

-- no frame has no port
pub no_ports : (network : DeclaredNetwork) (releases : List Release) → releases ≡ []
    → ports_of_frames network releases ≡ 0
no_ports network releases e = ap (ports_of_frames network) e

-- with one frame more there are those of its sender too
pub ports_more : (network : DeclaredNetwork) (releases new : List Release) (r : Release) → new ≡ releases ++ r ∷ []
    → ports_of_frames network new ≡ ports_with network releases r.sender
ports_more network releases new r e = ap (ports_of_frames network) e
    ∙ sum_by-append (λ (x : Release). length (sender_at network x.sender).ports) releases (r ∷ [])
    ∙ ap (λ (n : ℕ). ports_of_frames network releases + n) (omega arith)
