-- What is projected from the rows of the run so far has the same elements as what is projected from its journeys.
use Rattle.std.proofs.Common.{◌≡◌, ℕ, List, [], ◌∷◌, ◌++◌, length, map, take, drop, IsPermutation, refl, sym, ap}
use Rattle.std.proofs.Common.{sum_by, ◌∙◌, subst, arith}
use Rattle.std.specs.List.{flat_map, zip}
use Rattle.std.specs.Prelude.{◌==◌, ◌&&◌}
use Rattle.std.proofs.lemmas.Grind.{flat_map-append}
use Rattle.std.proofs.lemmas.List.{drop-map, length-map, map-append, take-append-drop, take-map}
use Rattle.std.proofs.Math.Seq.{drop-append_seam, take-append_seam}
use Rattle.ats_network.specs.Network.{DeclaredNetwork}
use Rattle.ats_port_rule.specs.Transmission.{Transmission}
use Rattle.ats_trace.specs.Journey.{Leg, Travel}
use Rattle.ats_trace.specs.Projections.{Hop, Crossing, Handed, crossings_by, handed_by, sent_by}
use Rattle.ats_trace.specs.Stored.{copies_of, gathered, travel_by}
use Rattle.ats_trace.specs.declared.journey.Release.{Release}
use Rattle.ats_run_records.specs.Progress.{Progress, copies_count, copies_opened, firsts_from, trunks_opened}
use Rattle.ats_run_records.proofs.AllCounts.{length-all_copies, length-firsts, length-trunks}
use Rattle.ats_engine_steps.specs.Course.{Course, crossings_so_far, handed_so_far, sent_so_far, told_by, travels}
use Rattle.ats_engine_steps.specs.Invariant.{IsShaped, opened_again}
use Rattle.ats_engine_steps.specs.declared.stage.Stage.{Stage}
use Rattle.ats_engine_proofs.proofs.Gathered.{crossed-gathered, crossings_at, handed_in, handed_on-gathered}
use Rattle.ats_engine_proofs.proofs.Gathered.{handed_part, hops_at, sent-gathered, sent_part}
use Rattle.ats_engine_proofs.proofs.Legwise.{Giving, crossings-run, crossings_kept, filter-kept, handed-run}
use Rattle.ats_engine_proofs.proofs.Legwise.{handed_kept, hops-run, hops_kept, map-kept, of_row, of_run}
use Rattle.ats_engine_proofs.proofs.Split.{AreRowsOf, by_frame, copies-by_frame, row_again, run-gives}

-- what is read of the second of each pair alone
second-map : {X Y Z : Type 0} (f : Y → Z) (xs : List X) (ys : List Y) → length xs ≡ length ys
    → map (λ (row : X × Y). f row.1) (zip xs ys) ≡ map f ys
second-map f [] [] same = refl
second-map f [] (y ∷ ys) same = absurd (omega arith)
second-map f (x ∷ xs) [] same = absurd (omega arith)
second-map {X} {Y} {Z} f (x ∷ xs) (y ∷ ys) same =
    ap (λ (zs : List Z). f y ∷ zs) (second-map f xs ys (omega arith))

second-flat : {X Y Z : Type 0} (f : Y → List Z) (xs : List X) (ys : List Y) → length xs ≡ length ys
    → flat_map (λ (row : X × Y). f row.1) (zip xs ys) ≡ flat_map f ys
second-flat f [] [] same = refl
second-flat f [] (y ∷ ys) same = absurd (omega arith)
second-flat f (x ∷ xs) [] same = absurd (omega arith)
second-flat {X} {Y} {Z} f (x ∷ xs) (y ∷ ys) same =
    ap (λ (zs : List Z). f y ++ zs) (second-flat f xs ys (omega arith))

-- the journeys of rows of trunks and of copies behind them
gathered-rows : (network : DeclaredNetwork) (releases : List Release) (trunks copies : List (Stage × Progress))
    → AreRowsOf network 0 releases trunks copies
    → gathered (map told_by (trunks ++ copies)) (firsts_from network (length releases) releases)
    ≡ map travel_by (zip (map told_by trunks) (by_frame network releases (map told_by copies)))
gathered-rows network releases trunks copies are =
    let firsts : List ℕ = firsts_from network (length releases) releases in
    let front : List (Release × Leg) = map told_by trunks in
    let rest : List (Release × Leg) = map told_by copies in
    let many : length front ≡ length releases =
    omega (
      arith,
      length-map trunks told_by,
      length-map trunks row_again,
      ap (λ (ps : List Progress). length ps) are.first,
      length-trunks network 0 releases,
    ) in
    let left : length rest ≡ sum_by (copies_count network) releases =
    omega (
      arith,
      length-map copies told_by,
      length-map copies row_again,
      ap (λ (ps : List Progress). length ps) are.rest,
      length-all_copies network 0 releases,
    ) in
    ap (λ (legs : List (Release × Leg)). gathered legs firsts) (map-append told_by trunks copies)
    ∙ ap (λ (n : ℕ). map travel_by (zip (take n (front ++ rest)) (copies_of (front ++ rest) firsts)))
    (length-firsts network (length releases) releases ∙ sym many)
    ∙ ap (λ (own : List (Release × Leg)). map travel_by (zip own (copies_of (front ++ rest) firsts)))
    (take-append_seam front rest)
    ∙ ap (λ (cs : List (List (Release × Leg))). map travel_by (zip front cs))
    (copies-by_frame network releases front rest (length releases) (sym many) left)

-- the rows of the run so far are those of trunks, and those of copies behind them
pub rows-of : {T : Type 0} {network : DeclaredNetwork} {releases : List Release} {course : Course T}
    → IsShaped network releases course
    → AreRowsOf network 0 releases (take (length releases) (zip course.stages course.records))
    (drop (length releases) (zip course.stages course.records))
rows-of {T} {network} {releases} {course} shape =
    let rows : List (Stage × Progress) = zip course.stages course.records in
    let n : ℕ = length releases in
    let first : List Progress = trunks_opened network 0 releases in
    let rest : List Progress = copies_opened network 0 releases in
    let many : length first ≡ n = length-trunks network 0 releases in
    let all : map row_again rows ≡ first ++ rest =
    second-map opened_again course.stages course.records shape.stages ∙ shape.legs in
    record {
      first = sym (take-map row_again n rows) ∙ ap (take n) all
          ∙ ap (λ (k : ℕ). take k (first ++ rest)) (sym many) ∙ take-append_seam first rest;
      rest = sym (drop-map row_again n rows) ∙ ap (drop n) all
          ∙ ap (λ (k : ℕ). drop k (first ++ rest)) (sym many) ∙ drop-append_seam first rest;
    }

-- what the rows of the run so far give, its journeys give in another order
pub given-so_far : {T X : Type 0} {network : DeclaredNetwork} {releases : List Release} {course : Course T}
    → IsShaped network releases course → (own : Giving X)
    → IsPermutation (flat_map (of_row own network) (zip course.stages course.records))
    (of_run own network 0 (travels course))
given-so_far {T} {X} {network} {releases} {course} shape own =
    let rows : List (Stage × Progress) = zip course.stages course.records in
    let n : ℕ = length releases in
    let trunks : List (Stage × Progress) = take n rows in
    let copies : List (Stage × Progress) = drop n rows in
    let are = rows-of shape in
    let whole : trunks ++ copies ≡ rows = take-append-drop n rows in
    let run : List Travel =
    map travel_by (zip (map told_by trunks) (by_frame network releases (map told_by copies))) in
    let same : run ≡ travels course =
    sym (gathered-rows network releases trunks copies are)
    ∙ ap (λ (rs : List (Stage × Progress)). gathered (map told_by rs) (firsts_from network n releases)) whole
    ∙ ap (gathered (map told_by rows)) (sym shape.firsts) in
    subst (λ (xs : List X). IsPermutation xs (of_run own network 0 (travels course)))
    (sym (flat_map-append (of_row own network) trunks copies) ∙ ap (flat_map (of_row own network)) whole)
    (subst (λ (js : List Travel). IsPermutation (flat_map (of_row own network) trunks
    ++ flat_map (of_row own network) copies) (of_run own network 0 js)) same
    (run-gives own network 0 releases trunks copies are))

-- one list has the elements of another where both are given so
so-given : {X : Type 0} (xs ys us vs : List X) → us ≡ xs → vs ≡ ys → IsPermutation us vs → IsPermutation xs ys
so-given {X} xs ys us vs same other moved =
    subst (λ (zs : List X). IsPermutation zs ys) same (subst (IsPermutation us) other moved)

-- the transmissions of a port
pub sent-so_far : {T : Type 0} {network : DeclaredNetwork} {releases : List Release} {course : Course T}
    → IsShaped network releases course → (port : ℕ)
    → IsPermutation (sent_so_far network course port) (sent_by network (travels course) port)
sent-so_far {T} {network} {releases} {course} shape port =
    let kept = map-kept (λ (h : Hop). h.sent) (λ (h : Hop). h.port == port) in
    let own : Giving Transmission = hops_kept (hops_at port) kept in
    let rows : List (Stage × Progress) = zip course.stages course.records in
    so-given (sent_so_far network course port) (sent_by network (travels course) port)
    (flat_map (of_row own network) rows) (of_run own network 0 (travels course))
    (second-flat (sent_part network port) course.stages course.records shape.stages
    ∙ sym (sent-gathered network course port))
    (sym (hops-run (hops_at port) kept network 0 (travels course))) (given-so_far shape own)

-- its crossings
pub crossings-so_far : {T : Type 0} {network : DeclaredNetwork} {releases : List Release} {course : Course T}
    → IsShaped network releases course → (port : ℕ)
    → IsPermutation (crossings_so_far network course port) (crossings_by network (travels course) port)
crossings-so_far {T} {network} {releases} {course} shape port =
    let kept = filter-kept (λ (c : Crossing). c.port == port) in
    let own : Giving Crossing = crossings_kept (crossings_at port) kept in
    let rows : List (Stage × Progress) = zip course.stages course.records in
    so-given (crossings_so_far network course port) (crossings_by network (travels course) port)
    (flat_map (of_row own network) rows) (of_run own network 0 (travels course))
    (sym (crossed-gathered network course port))
    (sym (crossings-run (crossings_at port) kept network 0 (travels course))) (given-so_far shape own)

-- and the frames of a class that it has handed on
pub handed-so_far : {T : Type 0} {network : DeclaredNetwork} {releases : List Release} {course : Course T}
    → IsShaped network releases course → (port class : ℕ)
    → IsPermutation (handed_so_far network course port class) (handed_by network (travels course) port class)
handed-so_far {T} {network} {releases} {course} shape port class =
    let kept = filter-kept (λ (h : Handed). h.crossing.port == port && h.crossing.sent.class == class) in
    let own : Giving Handed = handed_kept (handed_in port class) kept in
    let rows : List (Stage × Progress) = zip course.stages course.records in
    so-given (handed_so_far network course port class) (handed_by network (travels course) port class)
    (flat_map (of_row own network) rows) (of_run own network 0 (travels course))
    (second-flat (handed_part network port class) course.stages course.records shape.stages
    ∙ sym (handed_on-gathered network course port class))
    (sym (handed-run (handed_in port class) kept network 0 (travels course))) (given-so_far shape own)
