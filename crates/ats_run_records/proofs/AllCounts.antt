-- How many legs all frames have, and how many hop records there may be along them.
use Rattle.std.proofs.Common.{◌≡◌, ℕ, zero, suc, ◌+◌, ◌<◌, ◌≤◌, List, [], ◌∷◌, ◌++◌, length, map, take, get_or, All}
use Rattle.std.proofs.Common.{sum_by, refl, sym, ap, subst, ◌∙◌, arith, length-append, length-take, append_assoc}
use Rattle.std.specs.List.{range_with_len}
use Rattle.std.specs.List.Sorted.{IsNonDecreasing}
use Rattle.std.proofs.lemmas.List.{append-nil, length-map, take_more}
use Rattle.std.proofs.lemmas.List.Elements.{All-nil, All-cons, All-append, All-head, All-tail}
use Rattle.std.proofs.lemmas.List.Sums.{sum_by-cons, sum_by-append, sum_by_more, sum_by_more_le, sum_by-take-le}
use Rattle.ats_network.specs.Network.{DeclaredNetwork, IsNetwork, senders_of}
use Rattle.ats_network.specs.Senders.{sender_at}
use Rattle.ats_trace.specs.Releases.{AreReleases, IsRelease, HaveFewPorts, ports_of_frames}
use Rattle.ats_trace.specs.Stored.{AreFirsts}
use Rattle.ats_trace.specs.HopRecord.{HopRecord}
use Rattle.ats_trace.specs.declared.journey.Journey.{Journey}
use Rattle.ats_trace.specs.declared.journey.Release.{Release}
use Rattle.ats_trace.specs.declared.journey.Span.{Span}
use Rattle.ats_trace.specs.declared.run.TheConstants.{MAX_HOPS}
use Rattle.ats_run_records.specs.declared.opening.TheConstants.{MAX_ROOM}
use Rattle.ats_run_records.specs.Progress.{Progress, leg_opened, copies_count, copies_of_frame, trunks_opened}
use Rattle.ats_run_records.specs.Progress.{copies_opened, firsts_from, opened}
use Rattle.ats_run_records.specs.Inside.{AreRecords, ledger_of, opened_row, spans_from}
use Rattle.ats_run_records.proofs.Opens.{IsUnmoved, frame_of, laid-open, rooms_of, view-open}
use Rattle.ats_run_records.proofs.Counts.{IsCounted, copies_room, trunk_room, frame-counted, length-copies}
use Rattle.ats_run_records.proofs.Counts.{rooms-copies}

-- for numbers past the last frame
abbrev pub no_release : Release
no_release = record { at = record { 0 = 0 }; sender = 0; octets = 0 }

-- one frame more behind the others
pub trunks-push : (network : DeclaredNetwork) (frame : ℕ) (rs : List Release) (r : Release)
    → trunks_opened network frame (rs ++ r ∷ [])
    ≡ trunks_opened network frame rs ++ leg_opened network (frame + length rs) r 0 ∷ []
trunks-push network frame [] r =
    let here : frame ≡ frame + 0 = omega arith in
    ap (λ (n : ℕ). leg_opened network n r 0 ∷ []) here
trunks-push network frame (x ∷ rs) r =
    let next : frame + 1 + length rs ≡ frame + suc (length rs) = omega arith in
    ap (λ (ps : List Progress). leg_opened network frame x 0 ∷ ps)
    (trunks-push network (frame + 1) rs r
    ∙ ap (λ (n : ℕ). trunks_opened network (frame + 1) rs ++ leg_opened network n r 0 ∷ []) next)

pub copies-push : (network : DeclaredNetwork) (frame : ℕ) (rs : List Release) (r : Release)
    → copies_opened network frame (rs ++ r ∷ [])
    ≡ copies_opened network frame rs ++ copies_of_frame network (frame + length rs) r
copies-push network frame [] r =
    let here : frame ≡ frame + 0 = omega arith in
    append-nil (copies_of_frame network frame r) ∙ ap (λ (n : ℕ). copies_of_frame network n r) here
copies-push network frame (x ∷ rs) r =
    let next : frame + 1 + length rs ≡ frame + suc (length rs) = omega arith in
    ap (λ (ps : List Progress). copies_of_frame network frame x ++ ps)
    (copies-push network (frame + 1) rs r
    ∙ ap (λ (n : ℕ). copies_opened network (frame + 1) rs ++ copies_of_frame network n r) next)
    ∙ sym (append_assoc (copies_of_frame network frame x) (copies_opened network (frame + 1) rs)
    (copies_of_frame network (frame + suc (length rs)) r))

pub firsts-push : (network : DeclaredNetwork) (first : ℕ) (rs : List Release) (r : Release)
    → firsts_from network first (rs ++ r ∷ [])
    ≡ firsts_from network first rs ++ (first + sum_by (copies_count network) rs) ∷ []
firsts-push network first [] r = ap (λ (n : ℕ). n ∷ []) (omega arith)
firsts-push network first (x ∷ rs) r =
    let next : first + copies_count network x + sum_by (copies_count network) rs
    ≡ first + sum_by (copies_count network) (x ∷ rs) =
    omega (arith, sum_by-cons (copies_count network) x rs) in
    ap (λ (ns : List ℕ). first ∷ ns)
    (firsts-push network (first + copies_count network x) rs r
    ∙ ap (λ (n : ℕ). firsts_from network (first + copies_count network x) rs ++ n ∷ []) next)

-- up to the next frame
pub trunks-more : (network : DeclaredNetwork) (rs : List Release) (i : ℕ) (d : Release) → i < length rs
    → trunks_opened network 0 (take (i + 1) rs)
    ≡ trunks_opened network 0 (take i rs) ++ leg_opened network i (get_or rs i d) 0 ∷ []
trunks-more network rs i d within =
    let long : 0 + length (take i rs) ≡ i = omega (arith, length-take i rs) in
    ap (trunks_opened network 0) (take_more rs i d within)
    ∙ trunks-push network 0 (take i rs) (get_or rs i d)
    ∙ ap (λ (n : ℕ). trunks_opened network 0 (take i rs) ++ leg_opened network n (get_or rs i d) 0 ∷ []) long

pub copies-more : (network : DeclaredNetwork) (rs : List Release) (i : ℕ) (d : Release) → i < length rs
    → copies_opened network 0 (take (i + 1) rs)
    ≡ copies_opened network 0 (take i rs) ++ copies_of_frame network i (get_or rs i d)
copies-more network rs i d within =
    let long : 0 + length (take i rs) ≡ i = omega (arith, length-take i rs) in
    ap (copies_opened network 0) (take_more rs i d within)
    ∙ copies-push network 0 (take i rs) (get_or rs i d)
    ∙ ap (λ (n : ℕ). copies_opened network 0 (take i rs) ++ copies_of_frame network n (get_or rs i d)) long

pub firsts-more : (network : DeclaredNetwork) (first : ℕ) (rs : List Release) (i : ℕ) (d : Release) → i < length rs
    → firsts_from network first (take (i + 1) rs)
    ≡ firsts_from network first (take i rs) ++ (first + sum_by (copies_count network) (take i rs)) ∷ []
firsts-more network first rs i d within =
    ap (firsts_from network first) (take_more rs i d within)
    ∙ firsts-push network first (take i rs) (get_or rs i d)

pub length-trunks : (network : DeclaredNetwork) (frame : ℕ) (rs : List Release)
    → length (trunks_opened network frame rs) ≡ length rs
length-trunks network frame [] = refl
length-trunks network frame (r ∷ rs) = ap suc (length-trunks network (frame + 1) rs)

pub length-all_copies : (network : DeclaredNetwork) (frame : ℕ) (rs : List Release)
    → length (copies_opened network frame rs) ≡ sum_by (copies_count network) rs
length-all_copies network frame [] = refl
length-all_copies network frame (r ∷ rs) =
    omega (
      arith,
      length-append (copies_of_frame network frame r) (copies_opened network (frame + 1) rs),
      length-copies network frame r,
      length-all_copies network (frame + 1) rs,
      sum_by-cons (copies_count network) r rs,
    )

pub length-firsts : (network : DeclaredNetwork) (first : ℕ) (rs : List Release)
    → length (firsts_from network first rs) ≡ length rs
length-firsts network first [] = refl
length-firsts network first (r ∷ rs) = ap suc (length-firsts network (first + copies_count network r) rs)

pub rooms-trunks : (network : DeclaredNetwork) (frame : ℕ) (rs : List Release)
    → rooms_of (trunks_opened network frame rs) ≡ sum_by (trunk_room network) rs
rooms-trunks network frame [] = refl
rooms-trunks network frame (r ∷ rs) =
    omega (
      arith,
      sum_by-cons (λ (leg : Progress). leg.room) (leg_opened network frame r 0)
          (trunks_opened network (frame + 1) rs),
      rooms-trunks network (frame + 1) rs,
      sum_by-cons (trunk_room network) r rs,
    )

pub rooms-all_copies : (network : DeclaredNetwork) (frame : ℕ) (rs : List Release)
    → rooms_of (copies_opened network frame rs) ≡ sum_by (copies_room network) rs
rooms-all_copies network frame [] = refl
rooms-all_copies network frame (r ∷ rs) =
    omega (
      arith,
      sum_by-append (λ (leg : Progress). leg.room) (copies_of_frame network frame r)
          (copies_opened network (frame + 1) rs),
      rooms-copies network frame r,
      rooms-all_copies network (frame + 1) rs,
      sum_by-cons (copies_room network) r rs,
    )

-- the sender of a release is one of the network
abbrev pub HasSender : DeclaredNetwork → Release → Type 0
HasSender network r = r.sender < length (senders_of network)

pub have-senders : (network : DeclaredNetwork) (rs : List Release) → All (IsRelease network) rs
    → All (HasSender network) rs
have-senders network rs each i d h = (each i d h).sender

-- legs and hop records are no more than ports
pub record AreCounted (network : DeclaredNetwork) (rs : List Release) : Type 0 where
  pub rooms : sum_by (trunk_room network) rs + sum_by (copies_room network) rs ≡ ports_of_frames network rs
  pub legs : length rs + sum_by (copies_count network) rs ≤ ports_of_frames network rs

pub frames-counted : (network : DeclaredNetwork) (rs : List Release) → IsNetwork network
    → All (HasSender network) rs → AreCounted network rs
frames-counted network [] rules each = record { rooms = refl; legs = omega arith }
frames-counted network (r ∷ rs) rules each =
    let one : IsCounted network r =
    frame-counted network r rules (All-head (HasSender network) r rs each) in
    let rest : AreCounted network rs =
    frames-counted network rs rules (All-tail (HasSender network) r rs each) in
    let ports = sum_by-cons (λ (x : Release). length (sender_at network x.sender).ports) r rs in
    record {
      rooms = omega (
        arith,
        one.rooms,
        rest.rooms,
        ports,
        sum_by-cons (trunk_room network) r rs,
        sum_by-cons (copies_room network) r rs,
      );
      legs = omega (arith, one.legs, rest.legs, ports, sum_by-cons (copies_count network) r rs);
    }

-- so are those of the first frames, with the copies of the next one
pub record AreSoFar (network : DeclaredNetwork) (rs : List Release) (i : ℕ) (r : Release) : Type 0 where
  pub trunks : rooms_of (trunks_opened network 0 (take i rs)) ≤ MAX_HOPS
  pub copies : rooms_of (trunks_opened network 0 rs) + rooms_of (copies_opened network 0 (take i rs))
      + rooms_of (copies_of_frame network i r) ≤ MAX_HOPS
  pub firsts : sum_by (copies_count network) (take i rs) + copies_count network r ≤ MAX_HOPS
  pub next : sum_by (copies_count network) (take (i + 1) rs)
      ≡ sum_by (copies_count network) (take i rs) + copies_count network r

pub so-far : (network : DeclaredNetwork) (rs : List Release) (i : ℕ) (d : Release) → IsNetwork network
    → All (HasSender network) rs → HaveFewPorts network rs → i < length rs → AreSoFar network rs i (get_or rs i d)
so-far network rs i d rules each few within =
    let counted : AreCounted network rs = frames-counted network rs rules each in
    record {
      trunks = omega (
        arith,
        few,
        counted.rooms,
        rooms-trunks network 0 (take i rs),
        sum_by-take-le (trunk_room network) rs i,
      );
      copies = omega (
        arith,
        few,
        counted.rooms,
        rooms-trunks network 0 rs,
        rooms-all_copies network 0 (take i rs),
        rooms-copies network i (get_or rs i d),
        sum_by_more_le (copies_room network) rs i d within,
      );
      firsts = omega (arith, few, counted.legs, sum_by_more_le (copies_count network) rs i d within);
      next = sum_by_more (copies_count network) rs i d within;
    }

-- a property of each leg of a frame
abbrev pub EachLeg : (Progress → Type 0) → DeclaredNetwork → Release → Type 0
EachLeg P network r = (frame leg : ℕ) → leg ≤ copies_count network r → P (leg_opened network frame r leg)

all-copies : (P : Progress → Type 0) (network : DeclaredNetwork) (frame at n : ℕ) (r : Release)
    → ((leg : ℕ) → leg < at + n → P (leg_opened network frame r leg))
    → All P (map (leg_opened network frame r) (range_with_len at n))
all-copies P network frame at zero r each = All-nil P
all-copies P network frame at (suc n) r each =
    All-cons P (leg_opened network frame r at) (map (leg_opened network frame r) (range_with_len (at + 1) n))
    (each at (omega arith)) (all-copies P network frame (at + 1) n r (λ leg h. each leg (omega arith)))

all-trunks : (P : Progress → Type 0) (network : DeclaredNetwork) (frame : ℕ) (rs : List Release)
    → All (EachLeg P network) rs → All P (trunks_opened network frame rs)
all-trunks P network frame [] each = All-nil P
all-trunks P network frame (r ∷ rs) each =
    All-cons P (leg_opened network frame r 0) (trunks_opened network (frame + 1) rs)
    (All-head (EachLeg P network) r rs each frame 0 (omega arith))
    (all-trunks P network (frame + 1) rs (All-tail (EachLeg P network) r rs each))

all-behind : (P : Progress → Type 0) (network : DeclaredNetwork) (frame : ℕ) (rs : List Release)
    → All (EachLeg P network) rs → All P (copies_opened network frame rs)
all-behind P network frame [] each = All-nil P
all-behind P network frame (r ∷ rs) each =
    All-append P (copies_of_frame network frame r) (copies_opened network (frame + 1) rs)
    (all-copies P network frame 1 (copies_count network r) r
    (λ leg h. All-head (EachLeg P network) r rs each frame leg (omega arith)))
    (all-behind P network (frame + 1) rs (All-tail (EachLeg P network) r rs each))

-- holds of all legs
pub all-opened : (P : Progress → Type 0) (network : DeclaredNetwork) (rs : List Release)
    → All (EachLeg P network) rs → All P (opened network rs).legs
all-opened P network rs each =
    All-append P (trunks_opened network 0 rs) (copies_opened network 0 rs) (all-trunks P network 0 rs each)
    (all-behind P network 0 rs each)

-- the rows of legs along which nothing has happened
pub record IsOpening (legs : List Progress) : Type 0 where
  pub few : length legs ≤ MAX_HOPS
  pub bounded : rooms_of legs ≤ MAX_HOPS
  pub most : All (λ (leg : Progress). leg.room ≤ MAX_ROOM) legs
  pub unmoved : All IsUnmoved legs

pub is-opening : (network : DeclaredNetwork) (rs : List Release) → IsNetwork network → All (HasSender network) rs
    → HaveFewPorts network rs → IsOpening (opened network rs).legs
is-opening network rs rules each few =
    let counted : AreCounted network rs = frames-counted network rs rules each in
    let trunks : List Progress = trunks_opened network 0 rs in
    let copies : List Progress = copies_opened network 0 rs in
    record {
      few = omega (
        arith,
        few,
        counted.legs,
        length-append trunks copies,
        length-trunks network 0 rs,
        length-all_copies network 0 rs,
      );
      bounded = omega (
        arith,
        few,
        counted.rooms,
        sum_by-append (λ (leg : Progress). leg.room) trunks copies,
        rooms-trunks network 0 rs,
        rooms-all_copies network 0 rs,
      );
      most = all-opened (λ (leg : Progress). leg.room ≤ MAX_ROOM) network rs
          (λ i d h frame leg g. (frame-counted network (get_or rs i d) rules (each i d h)).most leg g);
      unmoved = all-opened IsUnmoved network rs (λ i d h frame leg g. refl);
    }

-- the places of the first copies ascend, up to where all copies end
firsts-least : (network : DeclaredNetwork) (least first : ℕ) (rs : List Release) → least ≤ first
    → All (λ (place : ℕ). least ≤ place) (firsts_from network first rs)
firsts-least network least first [] below = All-nil (λ (place : ℕ). least ≤ place)
firsts-least network least first (r ∷ rs) below =
    All-cons (λ (place : ℕ). least ≤ place) first (firsts_from network (first + copies_count network r) rs) below
    (firsts-least network least (first + copies_count network r) rs (omega arith))

firsts-most : (network : DeclaredNetwork) (first most : ℕ) (rs : List Release)
    → first + sum_by (copies_count network) rs ≤ most
    → All (λ (place : ℕ). place ≤ most) (firsts_from network first rs)
firsts-most network first most [] within = All-nil (λ (place : ℕ). place ≤ most)
firsts-most network first most (r ∷ rs) within =
    let one = sum_by-cons (copies_count network) r rs in
    All-cons (λ (place : ℕ). place ≤ most) first (firsts_from network (first + copies_count network r) rs)
    (omega arith) (firsts-most network (first + copies_count network r) most rs (omega arith))

firsts-ascend : (network : DeclaredNetwork) (first : ℕ) (rs : List Release)
    → IsNonDecreasing (firsts_from network first rs)
firsts-ascend network first [] i j d below within = absurd (omega arith)
firsts-ascend network first (r ∷ rs) zero zero d below within = omega arith
firsts-ascend network first (r ∷ rs) zero (suc j) d below within =
    firsts-least network first (first + copies_count network r) rs (omega arith) j d (omega arith)
firsts-ascend network first (r ∷ rs) (suc i) zero d below within = absurd (omega arith)
firsts-ascend network first (r ∷ rs) (suc i) (suc j) d below within =
    firsts-ascend network (first + copies_count network r) rs i j d (omega arith) (omega arith)

pub are-firsts : (network : DeclaredNetwork) (rs : List Release)
    → AreFirsts (length (opened network rs).firsts) (length (opened network rs).legs) (opened network rs).firsts
are-firsts network rs =
    let trunks : List Progress = trunks_opened network 0 rs in
    let copies : List Progress = copies_opened network 0 rs in
    let many : length (opened network rs).firsts ≡ length rs = length-firsts network (length rs) rs in
    let long : length (opened network rs).legs ≡ length rs + sum_by (copies_count network) rs =
    omega (arith, length-append trunks copies, length-trunks network 0 rs, length-all_copies network 0 rs) in
    record {
      all = refl;
      in_order = firsts-ascend network (length rs) rs;
      behind = firsts-least network (length (opened network rs).firsts) (length rs) rs (omega arith);
      within = firsts-most network (length rs) (length (opened network rs).legs) rs (omega arith);
      trunks = omega arith;
    }

-- what is made of these rows, where they are laid one behind another, are the records of a run
pub records-open : (network : DeclaredNetwork) (rs : List Release) (journeys : List Journey) (spans : List Span)
    (frames firsts : List ℕ) (hops : List HopRecord) → IsNetwork network → AreReleases network rs
    → HaveFewPorts network rs → journeys ≡ map opened_row (opened network rs).legs
    → spans ≡ spans_from 0 (opened network rs).legs → frames ≡ map frame_of (opened network rs).legs
    → firsts ≡ (opened network rs).firsts → length hops ≡ rooms_of (opened network rs).legs
    → AreRecords journeys spans frames firsts hops
records-open network rs journeys spans frames firsts hops rules are few rows spanned framed placed long =
    let legs : List Progress = (opened network rs).legs in
    let opening : IsOpening legs = is-opening network rs rules (have-senders network rs are.each) few in
    let begun : AreRecords (map opened_row legs) (spans_from 0 legs) (map frame_of legs) (opened network rs).firsts
    hops = record {
      laid = laid-open legs hops opening.few opening.most long opening.bounded;
      few = omega (arith, are.few, length-firsts network (length rs) rs);
      copies = subst (λ (n : ℕ). AreFirsts (length (opened network rs).firsts) n (opened network rs).firsts)
          (sym (length-map legs opened_row)) (are-firsts network rs);
    } in
    subst (λ (js : List Journey). AreRecords js spans frames firsts hops) (sym rows)
    (subst (λ (ss : List Span). AreRecords (map opened_row legs) ss frames firsts hops) (sym spanned)
    (subst (λ (fs : List ℕ). AreRecords (map opened_row legs) (spans_from 0 legs) fs firsts hops) (sym framed)
    (subst (λ (ps : List ℕ). AreRecords (map opened_row legs) (spans_from 0 legs) (map frame_of legs) ps hops)
    (sym placed) begun)))

pub view-opened : (network : DeclaredNetwork) (rs : List Release) (journeys : List Journey) (spans : List Span)
    (frames firsts : List ℕ) (hops : List HopRecord) → IsNetwork network → AreReleases network rs
    → HaveFewPorts network rs → journeys ≡ map opened_row (opened network rs).legs
    → spans ≡ spans_from 0 (opened network rs).legs → frames ≡ map frame_of (opened network rs).legs
    → firsts ≡ (opened network rs).firsts → ledger_of journeys spans frames firsts hops ≡ opened network rs
view-opened network rs journeys spans frames firsts hops rules are few rows spanned framed placed =
    let legs : List Progress = (opened network rs).legs in
    let opening : IsOpening legs = is-opening network rs rules (have-senders network rs are.each) few in
    ap (λ (js : List Journey). ledger_of js spans frames firsts hops) rows
    ∙ ap (λ (ss : List Span). ledger_of (map opened_row legs) ss frames firsts hops) spanned
    ∙ ap (λ (fs : List ℕ). ledger_of (map opened_row legs) (spans_from 0 legs) fs firsts hops) framed
    ∙ ap (λ (ps : List ℕ). ledger_of (map opened_row legs) (spans_from 0 legs) (map frame_of legs) ps hops) placed
    ∙ ap (λ (told : List Progress). record { legs = told; firsts = (opened network rs).firsts })
    (view-open legs 0 hops opening.unmoved)
