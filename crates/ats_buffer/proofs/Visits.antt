use Rattle.std.proofs.Common.{◌≡◌, ℕ, zero, suc, ◌+◌, ◌<◌, ◌≤◌, List, [], ◌∷◌, ◌++◌, length, get_or, drop, map, refl}
use Rattle.std.proofs.Common.{sym, ap}
use Rattle.std.proofs.Common.{◌∙◌, append_assoc, subst, inl, add-one, inr, arith}
use Rattle.std.specs.Prelude.{Option, Some, None}
use Rattle.std.specs.List.{flat_map}
use Rattle.std.proofs.lemmas.List.{append-nil, drop_all, drop_more, get_or-map}
use Rattle.std.proofs.lemmas.List.Concat.{flat_map-append}
use Rattle.ats_num.specs.declared.time.Ps.{Ps}
use Rattle.ats_num.specs.Wire.{bits_of}
use Rattle.ats_streams.specs.Branches.{leg_at}
use Rattle.ats_network.specs.Sender.{Sender}
use Rattle.ats_network.specs.Class.{class_at}
use Rattle.ats_network.specs.Network.{DeclaredNetwork}
use Rattle.ats_network.specs.Senders.{sender_at}
use Rattle.ats_group.specs.declared.verdict.Verdict.{Verdict}
use Rattle.ats_group.specs.declared.verdict.Verdict.TheVariants.{Eligible, Late, Size}
use Rattle.ats_trace.specs.Journey.{Leg, Travel, IsJourney, IsSentOrEnds, IsWay, legs_at, legs_in, no_leg}
use Rattle.ats_trace.specs.Projections.{transmission_by, transmission_of, crossing_at, crossings_along}
use Rattle.ats_trace.specs.Projections.{crossings_over, journey_crossings, crossings_from}
use Rattle.ats_trace.specs.Run.{IsIdeal}
use Rattle.ats_trace.specs.Stored.{leg_in, no_travel, travel_at, journey_of}
use Rattle.ats_trace.specs.declared.journey.Journey.{Journey}
use Rattle.ats_trace.specs.declared.journey.Release.{Release}
use Rattle.ats_trace.specs.HopRecord.{HopRecord}
use Rattle.ats_trace.specs.declared.journey.Ending.{Ending}
use Rattle.ats_trace.specs.declared.journey.Ending.TheVariants.{Sink, Discard}
use Rattle.ats_trace.proofs.OneVerdict.{copies_many}
use Rattle.ats_buffer.specs.Moments.{sent_moments, moments_at, moments_of, moments_of_frame, moments_of_leg}
use Rattle.ats_buffer.specs.Moments.{moments_in}
use Rattle.ats_buffer.specs.declared.moments.Moment.{Moment}
use Rattle.ats_buffer.proofs.LegHops.{IsRest, as_many}

-- of what is left of a way: the moments of its crossings
abbrev pub moments_along : ℕ → Release → Sender → List ℕ → List HopRecord → Ending → List Moment
moments_along frame release s path hops ending = flat_map moments_of (crossings_along frame release s path hops ending)

-- the next record tells the moments of the next port
pub record IsNextVisit (frame : ℕ) (release : Release) (s : Sender) (path : List ℕ) (hops : List HopRecord)
    (ending : Ending) (k next : ℕ) (d : HopRecord) : Type 0 where
  pub within : k < length path
  pub rest : IsRest (drop next path) (drop next hops) ending
  pub told : moments_along frame release s (drop k path) (drop k hops) ending
      ≡ moments_at (get_or path k 0) (class_at s (get_or path k 0)) (bits_of release.octets) (get_or hops k d)
      ++ moments_along frame release s (drop next path) (drop next hops) ending

-- at the first port
told_here : (frame : ℕ) (release : Release) (s : Sender) (came p : ℕ) (path : List ℕ) (verdict : Verdict)
    (sent : Option (Ps × Ps)) (hops : List HopRecord) (ending : Ending)
    → IsSentOrEnds (IsWay path hops ending) verdict sent hops ending
    → flat_map moments_of (crossing_at release.octets came p (transmission_by frame release (class_at s p) verdict sent)
    hops ending)
    ≡ sent_moments p (class_at s p) (bits_of release.octets) came sent
told_here frame release s came p path (Eligible e) (Some times) (next ∷ hops) ending way = append-nil _
told_here frame release s came p path (Eligible e) (Some times) [] (Sink at) way = append-nil _
told_here frame release s came p [] (Eligible e) (Some times) [] Discard way = absurd way
told_here frame release s came p (q ∷ path) (Eligible e) (Some times) [] Discard way = absurd way
told_here frame release s came p path (Eligible e) None hops ending way = absurd way
told_here frame release s came p path (Late e) (Some times) hops ending way = absurd way
told_here frame release s came p path (Late e) None hops ending way = refl
told_here frame release s came p path Size (Some times) hops ending way = absurd way
told_here frame release s came p path Size None hops ending way = refl

rest_here : (path : List ℕ) (verdict : Verdict) (sent : Option (Ps × Ps)) (hops : List HopRecord) (ending : Ending)
    → IsSentOrEnds (IsWay path hops ending) verdict sent hops ending → IsRest path hops ending
rest_here path (Eligible e) (Some times) hops ending way = inl way
rest_here path (Eligible e) None hops ending way = absurd way
rest_here path (Late e) (Some times) hops ending way = absurd way
rest_here path (Late e) None hops ending way = inr way.0
rest_here path Size (Some times) hops ending way = absurd way
rest_here path Size None hops ending way = inr way.0

first_visit : (frame : ℕ) (release : Release) (s : Sender) (p : ℕ) (path : List ℕ) (hop : HopRecord)
    (hops : List HopRecord) (ending : Ending) (d : HopRecord)
    → IsSentOrEnds (IsWay path hops ending) hop.verdict hop.sent hops ending
    → IsNextVisit frame release s (p ∷ path) (hop ∷ hops) ending 0 1 d
first_visit frame release s p path hop hops ending d way = record {
  within = omega arith;
  rest = rest_here path hop.verdict hop.sent hops ending way;
  told = flat_map-append moments_of
      (crossing_at release.octets hop.arrival.0 p (transmission_of frame release (class_at s p) hop) hops ending)
      (crossings_along frame release s path hops ending)
      ∙ ap (λ (ms : List Moment). ms ++ moments_along frame release s path hops ending)
      (told_here frame release s hop.arrival.0 p path hop.verdict hop.sent hops ending way);
}

next_visit : (frame : ℕ) (release : Release) (s : Sender) (path : List ℕ) (hops : List HopRecord) (ending : Ending)
    (k : ℕ) (d : HopRecord) → k < length hops → IsRest (drop k path) (drop k hops) ending
    → IsNextVisit frame release s path hops ending k (suc k) d
next_visit frame release s path [] ending k d h rest = absurd (omega arith)
next_visit frame release s [] (hop ∷ hops) ending zero d h (inl way) = absurd way
next_visit frame release s [] (hop ∷ hops) ending zero d h (inr none) = cc (none)
next_visit frame release s [] (hop ∷ hops) ending (suc k) d h rest =
    absurd (let r = next_visit frame release s [] hops ending k d (omega arith)
    (subst (λ (l : List ℕ). IsRest l (drop k hops) ending) (sym (drop_all k [] (omega arith))) rest) in
    omega (arith, r.within))
next_visit frame release s (p ∷ path) (hop ∷ hops) ending zero d h (inl way) =
    first_visit frame release s p path hop hops ending d way
next_visit frame release s (p ∷ path) (hop ∷ hops) ending zero d h (inr none) = cc (none)
next_visit frame release s (p ∷ path) (hop ∷ hops) ending (suc k) d h rest =
    let r = next_visit frame release s path hops ending k d (omega arith) rest in
    record { within = omega (arith, r.within); rest = r.rest; told = r.told }

pub next_is : (frame : ℕ) (release : Release) (s : Sender) (path : List ℕ) (hops : List HopRecord) (ending : Ending)
    (k : ℕ) (d : HopRecord) → k < length hops → IsRest (drop k path) (drop k hops) ending
    → IsNextVisit frame release s path hops ending k (k + 1) d
next_is frame release s path hops ending k d h rest =
    subst (λ (n : ℕ). IsNextVisit frame release s path hops ending k n d) (sym (add-one k))
    (next_visit frame release s path hops ending k d h rest)

-- where no record is left, nothing is
none_left : (frame : ℕ) (release : Release) (s : Sender) (path : List ℕ) (ending : Ending)
    → moments_along frame release s path [] ending ≡ []
none_left frame release s [] ending = refl
none_left frame release s (p ∷ path) ending = refl

pub all_told : (frame : ℕ) (release : Release) (s : Sender) (path : List ℕ) (hops : List HopRecord) (ending : Ending)
    (k : ℕ) → length hops ≤ k → moments_along frame release s (drop k path) (drop k hops) ending ≡ []
all_told frame release s path hops ending k h =
    ap (λ (l : List HopRecord). moments_along frame release s (drop k path) l ending) (drop_all k hops h)
    ∙ none_left frame release s (drop k path) ending

-- the frame with a number, and those behind it
pub frames_next : (network : DeclaredNetwork) (run : List Travel) (k : ℕ) (d : Travel) → k < length run
    → flat_map moments_of (crossings_from network k (drop k run))
    ≡ moments_of_frame network k (get_or run k d)
    ++ flat_map moments_of (crossings_from network (k + 1) (drop (k + 1) run))
frames_next network run k d h =
    ap (λ (l : List Travel). flat_map moments_of (crossings_from network k l)) (drop_more run k d h)
    ∙ flat_map-append moments_of (journey_crossings network k (get_or run k d))
    (crossings_from network (k + 1) (drop (k + 1) run))

-- for numbers past the last row
abbrev pub no_journey : Journey
no_journey = record {
  release = record { at = record { 0 = 0 }; sender = 0; octets = 0 };
  ending = Sink (record { 0 = 0 });
}

-- and past the last record
abbrev pub no_hop : HopRecord
no_hop = record { arrival = record { 0 = 0 }; verdict = Eligible (record { 0 = 0 }); sent = None }

-- the release in a frame's row
pub release_is : (run : List Travel) (rows : List Journey) (frame : ℕ) → rows ≡ map journey_of run → frame < length run
    → (get_or rows frame no_journey).release ≡ (travel_at run frame).release
release_is run rows frame e h =
    ap (λ (l : List Journey). (get_or l frame no_journey).release) e
    ∙ ap (λ (j : Journey). j.release) (get_or-map journey_of run frame no_travel no_journey h)

-- the moments of a frame along the legs from one on
abbrev pub moments_left : DeclaredNetwork → ℕ → Travel → ℕ → List Moment
moments_left network frame j leg = flat_map moments_of (crossings_over frame j.release
    (sender_at network j.release.sender) (drop leg (legs_at network j.release.sender)) (drop leg (legs_in j)))

-- are those along this one, and those along the next ones
pub legs_next : (network : DeclaredNetwork) (frame : ℕ) (j : Travel) (leg : ℕ) → IsJourney network j
    → leg < length (legs_in j)
    → moments_left network frame j leg ≡ moments_of_leg network frame j leg ++ moments_left network frame j (leg + 1)
legs_next network frame j leg is h =
    let r : Release = j.release in
    let s : Sender = sender_at network r.sender in
    let paths : List (List ℕ) = legs_at network r.sender in
    let path : List ℕ = leg_at paths leg in
    let one : Leg = leg_in j leg in
    ap (λ (l : List (List ℕ)). flat_map moments_of (crossings_over frame r s l (drop leg (legs_in j))))
    (drop_more paths leg [] (omega (arith, h, as_many network j is)))
    ∙ ap (λ (l : List Leg). flat_map moments_of (crossings_over frame r s (path ∷ drop (leg + 1) paths) l))
    (drop_more (legs_in j) leg no_leg h)
    ∙ flat_map-append moments_of (crossings_along frame r s path one.hops one.ending)
    (crossings_over frame r s (drop (leg + 1) paths) (drop (leg + 1) (legs_in j)))

-- so the moments so far and those that are left stay those of the frame
pub legs_more : (network : DeclaredNetwork) (frame : ℕ) (j : Travel) (leg : ℕ) (old new all : List Moment)
    → IsJourney network j → leg < length (legs_in j) → new ≡ old ++ moments_of_leg network frame j leg
    → old ++ moments_left network frame j leg ≡ all → new ++ moments_left network frame j (leg + 1) ≡ all
legs_more network frame j leg old new all is h grown before =
    ap (λ (l : List Moment). l ++ moments_left network frame j (leg + 1)) grown
    ∙ append_assoc old (moments_of_leg network frame j leg) (moments_left network frame j (leg + 1))
    ∙ ap (λ (l : List Moment). old ++ l) (sym (legs_next network frame j leg is h)) ∙ before

-- and when no leg is left, the moments are those of the frame
pub legs_over : (network : DeclaredNetwork) (frame : ℕ) (j : Travel) (leg : ℕ) (moments all : List Moment)
    → IsJourney network j → length (legs_in j) ≤ leg → moments ++ moments_left network frame j leg ≡ all
    → moments ≡ all
legs_over network frame j leg moments all is over told =
    let none : moments_left network frame j leg ≡ [] =
    ap (λ (l : List (List ℕ)). flat_map moments_of (crossings_over frame j.release
    (sender_at network j.release.sender) l (drop leg (legs_in j))))
    (drop_all leg (legs_at network j.release.sender) (omega (arith, over, as_many network j is))) in
    sym (append-nil moments) ∙ ap (λ (l : List Moment). moments ++ l) (sym none) ∙ told

-- a leg of a frame, by its number
pub record IsLegOf (network : DeclaredNetwork) (run : List Travel) (frame leg : ℕ) : Type 0 where
  pub journey : IsJourney network (travel_at run frame)
  pub in_legs : leg ≤ length (sender_at network (travel_at run frame).release.sender).branches

pub leg_of_frame : (network : DeclaredNetwork) (run : List Travel) (frame leg : ℕ) → IsIdeal network run
    → frame < length run → leg < length (legs_in (travel_at run frame)) → IsLegOf network run frame leg
leg_of_frame network run frame leg legal h within =
    let j : Travel = travel_at run frame in
    let is : IsJourney network j = legal.journeys frame no_travel h in
    record {
      journey = is;
      in_legs = omega (arith, within, copies_many (sender_at network j.release.sender) j is.copies);
    }

-- a frame's next visit along a leg, by its records as they are listed
pub visit_of : (network : DeclaredNetwork) (run : List Travel) (frame leg k : ℕ) (d : HopRecord)
    (items : List HopRecord) → items ≡ (leg_in (travel_at run frame) leg).hops → k < length items
    → IsRest (drop k (leg_at (legs_at network (travel_at run frame).release.sender) leg))
    (drop k (leg_in (travel_at run frame) leg).hops) (leg_in (travel_at run frame) leg).ending
    → IsNextVisit frame (travel_at run frame).release (sender_at network (travel_at run frame).release.sender)
    (leg_at (legs_at network (travel_at run frame).release.sender) leg) (leg_in (travel_at run frame) leg).hops
    (leg_in (travel_at run frame) leg).ending k (k + 1) d
visit_of network run frame leg k d items e h rest =
    let j : Travel = travel_at run frame in
    let one : Leg = leg_in j leg in
    let long : length items ≡ length one.hops = ap (λ (l : List HopRecord). length l) e in
    next_is frame j.release (sender_at network j.release.sender) (leg_at (legs_at network j.release.sender) leg)
    one.hops one.ending k d (omega (arith, h, long)) rest

-- what the code knows of a visit: the frame's port, class and bits there, and its record
pub record IsRead (network : DeclaredNetwork) (j : Travel) (leg k : ℕ) (d : HopRecord) (p c b : ℕ)
    (h : HopRecord) : Type 0 where
  pub port : p ≡ get_or (leg_at (legs_at network j.release.sender) leg) k 0
  pub class : c ≡ class_at (sender_at network j.release.sender)
      (get_or (leg_at (legs_at network j.release.sender) leg) k 0)
  pub bits : b ≡ bits_of j.release.octets
  pub hop : h ≡ get_or (leg_in j leg).hops k d

pub read_of : (network : DeclaredNetwork) (j : Travel) (leg k : ℕ) (d : HopRecord) (r : Release) (path : List ℕ)
    (class bits : ℕ) (items : List HopRecord) → r ≡ j.release → path ≡ leg_at (legs_at network r.sender) leg
    → class ≡ class_at (sender_at network r.sender) (get_or (leg_at (legs_at network r.sender) leg) k 0)
    → bits ≡ bits_of r.octets → items ≡ (leg_in j leg).hops
    → IsRead network j leg k d (get_or path k 0) class bits (get_or items k d)
read_of network j leg k d r path class bits items same path_is class_is bits_is items_are = record {
  port = ap (λ (l : List ℕ). get_or l k 0)
      (path_is ∙ ap (λ (r : Release). leg_at (legs_at network r.sender) leg) same);
  class = class_is ∙ ap (λ (r : Release). class_at (sender_at network r.sender)
      (get_or (leg_at (legs_at network r.sender) leg) k 0)) same;
  bits = bits_is ∙ ap (λ (r : Release). bits_of r.octets) same;
  hop = ap (λ (l : List HopRecord). get_or l k d) items_are;
}

moments_same : (port class bits p c b : ℕ) (hop h : HopRecord) → port ≡ p → class ≡ c → bits ≡ b → hop ≡ h
    → moments_at port class bits hop ≡ moments_at p c b h
moments_same port class bits p c b hop h pe ce be he =
    ap (λ (n : ℕ). moments_at n class bits hop) pe ∙ ap (λ (n : ℕ). moments_at p n bits hop) ce
    ∙ ap (λ (n : ℕ). moments_at p c n hop) be ∙ ap (moments_at p c b) he

-- so the moments so far and those that are left stay those of the leg
pub told_more : (network : DeclaredNetwork) (frame : ℕ) (j : Travel) (leg k : ℕ) (d : HopRecord)
    (port class bits : ℕ) (hop : HopRecord) (old new all : List Moment)
    → IsNextVisit frame j.release (sender_at network j.release.sender) (leg_at (legs_at network j.release.sender) leg)
    (leg_in j leg).hops (leg_in j leg).ending k (k + 1) d
    → IsRead network j leg k d port class bits hop → new ≡ old ++ moments_at port class bits hop
    → old ++ moments_along frame j.release (sender_at network j.release.sender)
    (drop k (leg_at (legs_at network j.release.sender) leg)) (drop k (leg_in j leg).hops) (leg_in j leg).ending ≡ all
    → new ++ moments_along frame j.release (sender_at network j.release.sender)
    (drop (k + 1) (leg_at (legs_at network j.release.sender) leg)) (drop (k + 1) (leg_in j leg).hops)
    (leg_in j leg).ending ≡ all
told_more network frame j leg k d port class bits hop old new all v read grown before =
    let s : Sender = sender_at network j.release.sender in
    let path : List ℕ = leg_at (legs_at network j.release.sender) leg in
    let one : Leg = leg_in j leg in
    let here : List Moment = moments_at (get_or path k 0) (class_at s (get_or path k 0))
    (bits_of j.release.octets) (get_or one.hops k d) in
    let rest : List Moment = moments_along frame j.release s (drop (k + 1) path) (drop (k + 1) one.hops) one.ending in
    let same : moments_at port class bits hop ≡ here =
    moments_same port class bits (get_or path k 0) (class_at s (get_or path k 0)) (bits_of j.release.octets) hop
    (get_or one.hops k d) read.port read.class read.bits read.hop in
    ap (λ (l : List Moment). l ++ rest) (grown ∙ ap (λ (l : List Moment). old ++ l) same)
    ∙ append_assoc old here rest
    ∙ ap (λ (l : List Moment). old ++ l) (sym v.told) ∙ before

-- when no record is left, the moments are those of the leg
pub told_all : (network : DeclaredNetwork) (frame : ℕ) (j : Travel) (leg k : ℕ) (items : List HopRecord)
    (moments all : List Moment) → items ≡ (leg_in j leg).hops → length items ≤ k
    → moments ++ moments_along frame j.release (sender_at network j.release.sender)
    (drop k (leg_at (legs_at network j.release.sender) leg)) (drop k (leg_in j leg).hops) (leg_in j leg).ending ≡ all
    → moments ≡ all
told_all network frame j leg k items moments all e over told =
    let s : Sender = sender_at network j.release.sender in
    let one : Leg = leg_in j leg in
    let long : length items ≡ length one.hops = ap (λ (l : List HopRecord). length l) e in
    let none = all_told frame j.release s (leg_at (legs_at network j.release.sender) leg) one.hops one.ending k
    (omega (arith, long, over)) in
    sym (append-nil moments) ∙ ap (λ (l : List Moment). moments ++ l) (sym none) ∙ told

-- when no frame is left, the moments are those of the run
pub frames_over : (network : DeclaredNetwork) (run : List Travel) (k : ℕ) (moments : List Moment) → length run ≤ k
    → moments ++ flat_map moments_of (crossings_from network k (drop k run)) ≡ moments_in network run
    → moments ≡ moments_in network run
frames_over network run k moments over told =
    let none : flat_map moments_of (crossings_from network k (drop k run)) ≡ [] =
    ap (λ (l : List Travel). flat_map moments_of (crossings_from network k l)) (drop_all k run over) in
    sym (append-nil moments) ∙ ap (λ (l : List Moment). moments ++ l) (sym none) ∙ told
