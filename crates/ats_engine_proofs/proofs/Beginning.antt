-- The lists of a run that is to begin.
use Rattle.std.proofs.Common.{◌≡◌, ℕ, zero, suc, ◌+◌, ◌*◌, ◌<◌, ◌≤◌, List, [], ◌∷◌, ◌++◌, length, map, get_or}
use Rattle.std.proofs.Common.{All, refl, ap, ◌∙◌, arith}
use Rattle.std.specs.List.{flat_map, range_with_len, sum_by, zip}
use Rattle.std.proofs.lemmas.List.Elements.{All-nil, All-cons, All-head, All-tail, All-append, All-map}
use Rattle.std.proofs.lemmas.List.FromFn.{get_or-range_with_len, length-range_with_len}
use Rattle.std.proofs.lemmas.List.Sums.{sum_by-append, sum_by-cons}
use Rattle.ats_num.specs.Wire.{IsFrameSize}
use Rattle.ats_network.specs.Network.{DeclaredNetwork, IsNetwork, senders_of}
use Rattle.ats_network.specs.Senders.{sender_at}
use Rattle.ats_events.specs.declared.moment.Moment.{Moment}
use Rattle.ats_trace.specs.Releases.{IsRelease, ports_of_frames}
use Rattle.ats_trace.specs.declared.journey.Release.{Release}
use Rattle.ats_run_records.specs.Progress.{Progress, copies_of_frame, copies_opened, leg_opened, trunks_opened}
use Rattle.ats_run_records.proofs.AllCounts.{AreCounted, frames-counted, have-senders, no_release, rooms-all_copies}
use Rattle.ats_run_records.proofs.AllCounts.{rooms-trunks}
use Rattle.ats_run_records.proofs.Opens.{rooms_of}
use Rattle.ats_engine_steps.specs.Course.{path_of, sender_of}
use Rattle.ats_engine_steps.specs.Bounds.{most_hop, most_left}
use Rattle.ats_engine_steps.specs.Entries.{arrival_moment}
use Rattle.ats_engine_steps.specs.Invariant.{opened_again}
use Rattle.ats_engine_steps.specs.declared.event.Event.{Event}
use Rattle.ats_engine_steps.specs.declared.event.Event.TheVariants.{Arrival}
use Rattle.ats_engine_steps.specs.declared.stage.Stage.{Stage}
use Rattle.ats_engine_proofs.specs.Opened.{released_from}

-- the entry of a release, where the frame has this number
abbrev pub entry_of : ℕ → Release → Moment × Event
entry_of frame r = (arrival_moment frame r.at, Arrival frame)

-- a leg along which nothing has happened yet, of a frame that may be run
pub record IsFreshLeg (network : DeclaredNetwork) (p : Progress) : Type 0 where
  pub sender : p.release.sender < length (senders_of network)
  pub octets : IsFrameSize p.release.octets
  pub leg : p.leg ≤ length (sender_of network p).branches
  pub room : p.room ≡ length (path_of network p)
  pub none : p.hops ≡ []
  pub again : opened_again p ≡ p

-- a copy
pub record IsFreshCopy (network : DeclaredNetwork) (p : Progress) : Type 0 where
  pub fresh : IsFreshLeg network p
  pub copy : 1 ≤ p.leg

-- so is each leg that is opened
pub leg-fresh : (network : DeclaredNetwork) (frame : ℕ) (r : Release) (leg : ℕ) → IsRelease network r
    → leg ≤ length (sender_at network r.sender).branches → IsFreshLeg network (leg_opened network frame r leg)
leg-fresh network frame r leg is within =
    record { sender = is.sender; octets = is.octets; leg = within; room = refl; none = refl; again = refl }

-- the trunks
pub trunks-fresh : (network : DeclaredNetwork) (frame : ℕ) (releases : List Release) → All (IsRelease network) releases
    → All (IsFreshLeg network) (trunks_opened network frame releases)
trunks-fresh network frame [] each = All-nil (IsFreshLeg network)
trunks-fresh network frame (r ∷ releases) each =
    All-cons (IsFreshLeg network) (leg_opened network frame r 0) (trunks_opened network (frame + 1) releases)
    (leg-fresh network frame r 0 (All-head (IsRelease network) r releases each) (omega arith))
    (trunks-fresh network (frame + 1) releases (All-tail (IsRelease network) r releases each))

-- and the copies
frame-fresh : (network : DeclaredNetwork) (frame : ℕ) (r : Release) → IsRelease network r
    → All (IsFreshCopy network) (copies_of_frame network frame r)
frame-fresh network frame r is =
    let n : ℕ = length (sender_at network r.sender).branches in
    All-map (IsFreshCopy network) (leg_opened network frame r) (range_with_len 1 n)
    (λ i d h.
    (let below : i < n = omega (arith, h, length-range_with_len 1 n) in
    let same : get_or (range_with_len 1 n) i d ≡ 1 + i = get_or-range_with_len 1 n i d below in
    record {
      fresh = leg-fresh network frame r (get_or (range_with_len 1 n) i d) is (omega arith);
      copy = omega arith;
    }))

pub copies-fresh : (network : DeclaredNetwork) (frame : ℕ) (releases : List Release) → All (IsRelease network) releases
    → All (IsFreshCopy network) (copies_opened network frame releases)
copies-fresh network frame [] each = All-nil (IsFreshCopy network)
copies-fresh network frame (r ∷ releases) each =
    All-append (IsFreshCopy network) (copies_of_frame network frame r) (copies_opened network (frame + 1) releases)
    (frame-fresh network frame r (All-head (IsRelease network) r releases each))
    (copies-fresh network (frame + 1) releases (All-tail (IsRelease network) r releases each))

-- legs along which nothing has happened are as they were before anything happened
pub opened-again : (network : DeclaredNetwork) (ps : List Progress) → All (IsFreshLeg network) ps
    → map opened_again ps ≡ ps
opened-again network [] fresh = refl
opened-again network (p ∷ ps) fresh =
    ap (λ (q : Progress). q ∷ map opened_again ps) (All-head (IsFreshLeg network) p ps fresh).again
    ∙ ap (λ (qs : List Progress). p ∷ qs) (opened-again network ps (All-tail (IsFreshLeg network) p ps fresh))

-- where nothing is projected from each of these, nothing is from all
pub nothing-from : {X Y : Type 0} (f : X → List Y) (xs : List X) → All (λ (x : X). f x ≡ []) xs → flat_map f xs ≡ []
nothing-from f [] none = refl
nothing-from {X} {Y} f (x ∷ xs) none =
    ap (λ (ys : List Y). ys ++ flat_map f xs) (All-head (λ (x : X). f x ≡ []) x xs none)
    ∙ nothing-from f xs (All-tail (λ (x : X). f x ≡ []) x xs none)

-- the entry of each release
pub length-released : (first : ℕ) (releases : List Release) → length (released_from first releases) ≡ length releases
length-released first [] = refl
length-released first (r ∷ releases) = omega (arith, length-released (first + 1) releases)

-- the entry at a place is that of the frame with its number
released-at : (first : ℕ) (releases : List Release) (i : ℕ) (d : Moment × Event) → i < length releases
    → get_or (released_from first releases) i d ≡ entry_of (first + i) (get_or releases i no_release)
released-at first [] i d within = absurd (omega arith)
released-at first (r ∷ releases) zero d within = ap (λ (n : ℕ). entry_of n r) (omega arith)
released-at first (r ∷ releases) (suc i) d within =
    released-at (first + 1) releases i d (omega arith)
    ∙ ap (λ (n : ℕ). entry_of n (get_or releases i no_release)) (omega arith)

-- where the numbers begin with 0, that of the place
pub entry-at : (releases : List Release) (i : ℕ) (d : Moment × Event) → i < length releases
    → get_or (released_from 0 releases) i d ≡ entry_of i (get_or releases i no_release)
entry-at releases i d within =
    released-at 0 releases i d within ∙ ap (λ (n : ℕ). entry_of n (get_or releases i no_release)) (omega arith)

-- the rooms of all legs are as many as the ports of all frames
pub rooms-opened : (network : DeclaredNetwork) (frame other : ℕ) (releases : List Release) → IsNetwork network
    → All (IsRelease network) releases
    → rooms_of (trunks_opened network frame releases ++ copies_opened network other releases)
    ≡ ports_of_frames network releases
rooms-opened network frame other releases rules each =
    let trunks : List Progress = trunks_opened network frame releases in
    let copies : List Progress = copies_opened network other releases in
    let counted : AreCounted network releases =
    frames-counted network releases rules (have-senders network releases each) in
    omega (
      arith,
      sum_by-append (λ (p : Progress). p.room) trunks copies,
      rooms-trunks network frame releases,
      rooms-all_copies network other releases,
      counted.rooms,
    )

-- at this stage a leg counts no more than its room
abbrev pub IsEarly : Stage → Type 0
IsEarly stage = (p : Progress) → most_left (stage, p) ≤ p.room * most_hop

-- so all legs count no more than all rooms
pub most-early : (stages : List Stage) (ps : List Progress) → All IsEarly stages
    → sum_by most_left (zip stages ps) ≤ sum_by (λ (p : Progress). p.room) ps * most_hop
most-early [] ps early = omega arith
most-early (s ∷ stages) [] early = omega arith
most-early (s ∷ stages) (p ∷ ps) early =
    let room : Progress → ℕ = λ (p : Progress). p.room in
    let here = All-head IsEarly s stages early p in
    let rest = most-early stages ps (All-tail IsEarly s stages early) in
    omega (arith, here, rest, sum_by-cons most_left (s, p) (zip stages ps), sum_by-cons room p ps)
