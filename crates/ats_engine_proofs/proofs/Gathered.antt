-- What the legs of a run give is gathered row by row: where one row changes, only its own part does.
use Rattle.std.proofs.Common.{◌≡◌, ℕ, zero, suc, ◌<◌, Bool, List, [], ◌∷◌, ◌++◌, map, filter, length, get_or, set, All}
use Rattle.std.proofs.Common.{IsPermutation, refl, ap, ◌∙◌, arith}
use Rattle.std.specs.List.{flat_map, zip}
use Rattle.std.proofs.lemmas.List.{map-append}
use Rattle.std.proofs.lemmas.List.Elements.{All-nil, All-append, filter-append}
use Rattle.std.proofs.lemmas.List.Sorted.{IsPermutation-append_left, IsPermutation-append_right, IsPermutation-middle}
use Rattle.std.proofs.lemmas.List.Sorted.{IsPermutation-sym, IsPermutation-trans}
use Rattle.std.specs.Prelude.{◌==◌, ◌&&◌}
use Rattle.ats_network.specs.Network.{DeclaredNetwork}
use Rattle.ats_port_rule.specs.Transmission.{Transmission}
use Rattle.ats_trace.specs.Projections.{Hop, Crossing, Handed}
use Rattle.ats_run_records.specs.Progress.{Progress}
use Rattle.ats_engine_steps.specs.Course.{Course, leg_hops, leg_crossings, leg_handed, sent_so_far, crossings_so_far}
use Rattle.ats_engine_steps.specs.Course.{handed_so_far}
use Rattle.ats_engine_steps.specs.declared.stage.Stage.{Stage}

-- setting a row that gives the same leaves all as it was
pub gather-same : {X Y : Type 0} (part : X → List Y) (row : ℕ) (rows : List X) (new d : X)
    → part new ≡ part (get_or rows row d) → flat_map part (set rows row new) ≡ flat_map part rows
gather-same part row [] new d same = refl
gather-same {X} {Y} part zero (x ∷ rows) new d same = ap (λ (ys : List Y). ys ++ flat_map part rows) same
gather-same {X} {Y} part (suc row) (x ∷ rows) new d same =
    ap (λ (ys : List Y). part x ++ ys) (gather-same part row rows new d same)

-- setting a row that gives one element more adds it to all
pub gather-more : {X Y : Type 0} (part : X → List Y) (row : ℕ) (rows : List X) (new d : X) (y : Y)
    → IsPermutation (y ∷ part (get_or rows row d)) (part new) → row < length rows
    → IsPermutation (y ∷ flat_map part rows) (flat_map part (set rows row new))
gather-more part row [] new d y more within = absurd (omega arith)
gather-more part zero (x ∷ rows) new d y more within =
    IsPermutation-append_left (flat_map part rows) (y ∷ part x) (part new) more
gather-more part (suc row) (x ∷ rows) new d y more within =
    let rest : IsPermutation (y ∷ flat_map part rows) (flat_map part (set rows row new)) =
    gather-more part row rows new d y more (omega arith) in
    IsPermutation-trans (y ∷ (part x ++ flat_map part rows)) (part x ++ y ∷ flat_map part rows)
    (part x ++ flat_map part (set rows row new))
    (IsPermutation-sym (part x ++ y ∷ flat_map part rows) (y ∷ (part x ++ flat_map part rows))
    (IsPermutation-middle (part x) y (flat_map part rows)))
    (IsPermutation-append_right (part x) (y ∷ flat_map part rows) (flat_map part (set rows row new)) rest)

-- what holds of all that each row gives holds of all
pub gather-all : {X Y : Type 0} (P : Y → Type 0) (part : X → List Y) (rows : List X) (d : X)
    → ((k : ℕ) → k < length rows → All P (part (get_or rows k d))) → All P (flat_map part rows)
gather-all P part [] d each = All-nil P
gather-all P part (x ∷ rows) d each =
    All-append P (part x) (flat_map part rows) (each 0 (omega arith))
    (gather-all P part rows d (λ k h. each (suc k) (omega arith)))

-- what is kept of all is what is kept of each
pub gather-filter : {X Y : Type 0} (test : Y → Bool) (part : X → List Y) (rows : List X)
    → filter test (flat_map part rows) ≡ flat_map (λ (x : X). filter test (part x)) rows
gather-filter test part [] = refl
gather-filter {X} {Y} test part (x ∷ rows) =
    filter-append test (part x) (flat_map part rows)
    ∙ ap (λ (ys : List Y). filter test (part x) ++ ys) (gather-filter test part rows)

-- and the images of all are those of each
pub gather-map : {X Y Z : Type 0} (f : Y → Z) (part : X → List Y) (rows : List X)
    → map f (flat_map part rows) ≡ flat_map (λ (x : X). map f (part x)) rows
gather-map f part [] = refl
gather-map {X} {Y} {Z} f part (x ∷ rows) =
    map-append f (part x) (flat_map part rows) ∙ ap (λ (zs : List Z). map f (part x) ++ zs) (gather-map f part rows)

-- what one leg gives to the transmissions of a port
abbrev pub hops_at : ℕ → List Hop → List Transmission
hops_at port hops = map (λ (h : Hop). h.sent) (filter (λ (h : Hop). h.port == port) hops)

-- of a whole row
abbrev pub sent_part : DeclaredNetwork → ℕ → Progress → List Transmission
sent_part network port p = hops_at port (leg_hops network p)

-- to its crossings
abbrev pub crossings_at : ℕ → List Crossing → List Crossing
crossings_at port crossings = filter (λ (c : Crossing). c.port == port) crossings

-- of a whole row
abbrev pub crossings_part : DeclaredNetwork → ℕ → Stage × Progress → List Crossing
crossings_part network port row = crossings_at port (leg_crossings network row)

-- and to the frames of a class that it has handed on
abbrev pub handed_in : ℕ → ℕ → List Handed → List Handed
handed_in port class handed =
    filter (λ (h : Handed). h.crossing.port == port && h.crossing.sent.class == class) handed

-- of a whole row
abbrev pub handed_part : DeclaredNetwork → ℕ → ℕ → Progress → List Handed
handed_part network port class p = handed_in port class (leg_handed network p)

-- each projection of a run is gathered from what its rows give
pub sent-gathered : {T : Type 0} (network : DeclaredNetwork) (course : Course T) (port : ℕ)
    → sent_so_far network course port ≡ flat_map (sent_part network port) course.records
sent-gathered network course port =
    ap (map (λ (h : Hop). h.sent))
    (gather-filter (λ (h : Hop). h.port == port) (leg_hops network) course.records)
    ∙ gather-map (λ (h : Hop). h.sent)
    (λ (p : Progress). filter (λ (h : Hop). h.port == port) (leg_hops network p)) course.records

-- the crossings of a port
pub crossed-gathered : {T : Type 0} (network : DeclaredNetwork) (course : Course T) (port : ℕ)
    → crossings_so_far network course port
    ≡ flat_map (crossings_part network port) (zip course.stages course.records)
crossed-gathered network course port =
    gather-filter (λ (c : Crossing). c.port == port) (leg_crossings network) (zip course.stages course.records)

-- and what it has handed on in a class
pub handed_on-gathered : {T : Type 0} (network : DeclaredNetwork) (course : Course T) (port class : ℕ)
    → handed_so_far network course port class ≡ flat_map (handed_part network port class) course.records
handed_on-gathered network course port class =
    gather-filter (λ (h : Handed). h.crossing.port == port && h.crossing.sent.class == class) (leg_handed network)
    course.records
