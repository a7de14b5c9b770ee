-- The journeys of the run so far, frame by frame: the row of its trunk, and the rows of its copies.
use Rattle.std.proofs.Common.{◌≡◌, ℕ, suc, ◌+◌, ◌-◌, List, [], ◌∷◌, ◌++◌, length, map, take, drop, get_or}
use Rattle.std.proofs.Common.{IsPermutation, refl, sum_by, sym, ap, ◌∙◌, subst, arith, length-drop}
use Rattle.std.specs.List.{flat_map, range_with_len, slice_range, zip}
use Rattle.std.proofs.lemmas.Grind.{flat_map-append}
use Rattle.std.proofs.lemmas.List.{append_assoc, drop-map, length-append, length-take-le, take-map, take-append-drop}
use Rattle.std.proofs.lemmas.List.Sums.{sum_by-cons}
use Rattle.std.proofs.lemmas.List.FromFn.{length-map-range_with_len}
use Rattle.std.proofs.lemmas.List.Sorted.{IsPermutation-append, IsPermutation-append_comm, IsPermutation-append_left}
use Rattle.std.proofs.lemmas.List.Sorted.{IsPermutation-append_right, IsPermutation-refl, IsPermutation-trans}
use Rattle.std.proofs.Math.Seq.{drop-append_seam, take-append_seam}
use Rattle.ats_streams.specs.Branches.{leg_at}
use Rattle.ats_streams.proofs.BranchLemmas.{legs-length}
use Rattle.ats_network.specs.Network.{DeclaredNetwork}
use Rattle.ats_network.specs.Senders.{sender_at}
use Rattle.ats_trace.specs.Journey.{Leg, Travel, legs_at}
use Rattle.ats_trace.specs.Stored.{copies_of, travel_by}
use Rattle.ats_trace.specs.declared.journey.Release.{Release}
use Rattle.ats_run_records.specs.Progress.{Progress, copies_count, copies_of_frame, copies_opened, firsts_from}
use Rattle.ats_run_records.specs.Progress.{leg_opened, no_progress, trunks_opened}
use Rattle.ats_engine_steps.specs.Course.{told_by}
use Rattle.ats_engine_steps.specs.Invariant.{opened_again}
use Rattle.ats_engine_steps.specs.declared.stage.Stage.{Stage}
use Rattle.ats_engine_proofs.proofs.Legwise.{Giving, of_journey, of_row, of_run, over}

-- rows, as many as each of these frames has copies
abbrev pub by_frame : {X : Type 0} → DeclaredNetwork → List Release → List X → List (List X)
by_frame network [] rows = []
by_frame network (r ∷ releases) rows =
    take (copies_count network r) rows ∷ by_frame network releases (drop (copies_count network r) rows)

-- rows from a place on, so many, behind others
range-here : {X : Type 0} (front rest : List X) (first count end : ℕ) → first ≡ length front → end ≡ first + count
    → slice_range (front ++ rest) first end ≡ take count rest
range-here {X} front rest first count end is stops =
    ap (λ (n : ℕ). take (end - n) (drop n (front ++ rest))) is
    ∙ ap (take (end - length front)) (drop-append_seam front rest)
    ∙ ap (λ (n : ℕ). take n rest) (omega (arith, is, stops))

-- the place behind the copies of a frame is that of the next frame's first copy, or behind all
end-here : (network : DeclaredNetwork) (releases : List Release) (place rows : ℕ)
    → rows ≡ place + sum_by (copies_count network) releases → get_or (firsts_from network place releases) 0 rows ≡ place
end-here network [] place rows all = omega arith
end-here network (r ∷ releases) place rows all = refl

-- the copies of each frame stand where they have their places
pub copies-by_frame : {X : Type 0} (network : DeclaredNetwork) (releases : List Release) (front rest : List X)
    (first : ℕ) → first ≡ length front → length rest ≡ sum_by (copies_count network) releases
    → copies_of (front ++ rest) (firsts_from network first releases) ≡ by_frame network releases rest
copies-by_frame network [] front rest first is all = refl
copies-by_frame {X} network (r ∷ releases) front rest first is all =
    let count : ℕ = copies_count network r in
    let own : List X = take count rest in
    let others : List X = drop count rest in
    let rows : List X = front ++ rest in
    let both = sum_by-cons (copies_count network) r releases in
    let many : length own ≡ count = length-take-le count rest (omega (arith, all, both)) in
    let left : length others ≡ sum_by (copies_count network) releases =
    omega (arith, length-drop count rest, all, both) in
    let whole : rows ≡ (front ++ own) ++ others =
    ap (λ (xs : List X). front ++ xs) (sym (take-append-drop count rest)) ∙ sym (append_assoc front own others) in
    let end : get_or (firsts_from network (first + count) releases) 0 (length rows) ≡ first + count =
    end-here network releases (first + count) (length rows) (omega (arith, length-append front rest, is, all, both)) in
    ap (λ (xs : List X). xs ∷ copies_of rows (firsts_from network (first + count) releases))
    (range-here front rest first count _ is end)
    ∙ ap (λ (xs : List X). own ∷ copies_of xs (firsts_from network (first + count) releases)) whole
    ∙ ap (λ (xss : List (List X)). own ∷ xss) (copies-by_frame network releases (front ++ own) others (first + count)
    (omega (arith, is, many, length-append front own)) left)

-- a row as it was opened
abbrev pub row_again : Stage × Progress → Progress
row_again row = opened_again row.1

-- a row of a frame's leg gives what the leg does
row-gives : {X : Type 0} (own : Giving X) (network : DeclaredNetwork) (frame : ℕ) (release : Release) (leg : ℕ)
    (path : List ℕ) (row : Stage × Progress) → row_again row ≡ leg_opened network frame release leg
    → path ≡ leg_at (legs_at network release.sender) leg
    → own frame release (sender_at network release.sender) path (told_by row).1 ≡ of_row own network row
row-gives {X} own network frame release leg path row same is =
    let p : Progress = row.1 in
    let told : Leg = (told_by row).1 in
    let by : ℕ → Release → ℕ → List X = λ (f : ℕ) (r : Release) (l : ℕ).
    own f r (sender_at network r.sender) (leg_at (legs_at network r.sender) l) told in
    ap (λ (ps : List ℕ). own frame release (sender_at network release.sender) ps told) is
    ∙ sym (ap (λ (q : Progress). by q.frame q.release q.leg) same)

-- so do rows of the legs from one on
rows-give : {X : Type 0} (own : Giving X) (network : DeclaredNetwork) (frame : ℕ) (release : Release) (leg : ℕ)
    (paths : List (List ℕ)) (rows : List (Stage × Progress))
    → map row_again rows ≡ map (leg_opened network frame release) (range_with_len leg (length paths))
    → ((i : ℕ) → leg_at paths i ≡ leg_at (legs_at network release.sender) (leg + i))
    → over own frame release (sender_at network release.sender) paths
    (map (λ (told : Release × Leg). told.1) (map told_by rows))
    ≡ flat_map (of_row own network) rows
rows-give own network frame release leg [] [] same are = refl
rows-give own network frame release leg [] (row ∷ rows) same are =
    absurd (omega (arith, ap (λ (ps : List Progress). length ps) same))
rows-give own network frame release leg (path ∷ paths) [] same are =
    absurd (omega (arith, ap (λ (ps : List Progress). length ps) same))
rows-give {X} own network frame release leg (path ∷ paths) (row ∷ rows) same are =
    let s = sender_at network release.sender in
    let first : row_again row ≡ leg_opened network frame release leg =
    ap (λ (ps : List Progress). get_or ps 0 no_progress) same in
    let rest : map row_again rows
    ≡ map (leg_opened network frame release) (range_with_len (leg + 1) (length paths)) =
    ap (λ (ps : List Progress). drop 1 ps) same in
    let here : path ≡ leg_at (legs_at network release.sender) leg =
    are 0 ∙ ap (leg_at (legs_at network release.sender)) (omega arith) in
    let there : (i : ℕ) → leg_at paths i ≡ leg_at (legs_at network release.sender) ((leg + 1) + i) =
    λ i. are (suc i) ∙ ap (leg_at (legs_at network release.sender)) (omega arith) in
    ap (λ (xs : List X). xs ++ over own frame release s paths
    (map (λ (told : Release × Leg). told.1) (map told_by rows)))
    (row-gives own network frame release leg path row first here)
    ∙ ap (λ (xs : List X). of_row own network row ++ xs)
    (rows-give own network frame release (leg + 1) paths rows rest there)

-- a journey gives what the rows of its frame do
journey-gives : {X : Type 0} (own : Giving X) (network : DeclaredNetwork) (frame : ℕ) (release : Release)
    (trunk : Stage × Progress) (copies : List (Stage × Progress))
    → row_again trunk ≡ leg_opened network frame release 0
    → map row_again copies ≡ copies_of_frame network frame release
    → of_journey own network frame (travel_by (told_by trunk, map told_by copies))
    ≡ of_row own network trunk ++ flat_map (of_row own network) copies
journey-gives {X} own network frame release trunk copies first rest =
    let rows : List (Stage × Progress) = trunk ∷ copies in
    let legs : List Leg = map (λ (told : Release × Leg). told.1) (map told_by rows) in
    let paths : List (List ℕ) = legs_at network release.sender in
    let many : length paths ≡ suc (copies_count network release) =
    legs-length 0 (sender_at network release.sender).ports (sender_at network release.sender).branches in
    let all : map row_again rows ≡ map (leg_opened network frame release) (range_with_len 0 (length paths)) =
    ap (λ (p : Progress). p ∷ map row_again copies) first
    ∙ ap (λ (ps : List Progress). leg_opened network frame release 0 ∷ ps) rest
    ∙ sym (ap (λ (n : ℕ). map (leg_opened network frame release) (range_with_len 0 n)) many) in
    ap (λ (r : Release). over own frame r (sender_at network r.sender) (legs_at network r.sender) legs)
    (ap (λ (p : Progress). p.release) first)
    ∙ rows-give own network frame release 0 paths rows all
    (λ i. ap (leg_at (legs_at network release.sender)) (omega arith))

-- what stands in the middle of four changes places
middle-swapped : {X : Type 0} (a b c d : List X) → IsPermutation ((a ++ b) ++ (c ++ d)) ((a ++ c) ++ (b ++ d))
middle-swapped {X} a b c d =
    let inner : IsPermutation (b ++ (c ++ d)) (c ++ (b ++ d)) =
    subst (λ (xs : List X). IsPermutation xs (c ++ (b ++ d))) (append_assoc b c d)
    (subst (IsPermutation ((b ++ c) ++ d)) (append_assoc c b d)
    (IsPermutation-append_left d (b ++ c) (c ++ b) (IsPermutation-append_comm b c))) in
    subst (λ (xs : List X). IsPermutation xs ((a ++ c) ++ (b ++ d))) (sym (append_assoc a b (c ++ d)))
    (subst (IsPermutation (a ++ (b ++ (c ++ d)))) (sym (append_assoc a c (b ++ d)))
    (IsPermutation-append_right a (b ++ (c ++ d)) (c ++ (b ++ d)) inner))

-- the rows of trunks and of copies, so many, that were opened for these releases
pub record AreRowsOf (network : DeclaredNetwork) (frame : ℕ) (releases : List Release)
    (trunks copies : List (Stage × Progress)) : Type 0 where
  pub first : map row_again trunks ≡ trunks_opened network frame releases
  pub rest : map row_again copies ≡ copies_opened network frame releases

-- of the first frame, and of the others
pub record AreSplit (network : DeclaredNetwork) (frame : ℕ) (release : Release) (releases : List Release)
    (trunk : Stage × Progress) (trunks copies : List (Stage × Progress)) : Type 0 where
  pub first : row_again trunk ≡ leg_opened network frame release 0
  pub own : map row_again (take (copies_count network release) copies) ≡ copies_of_frame network frame release
  pub others : AreRowsOf network (frame + 1) releases trunks (drop (copies_count network release) copies)

split-rows : (network : DeclaredNetwork) (frame : ℕ) (release : Release) (releases : List Release)
    (trunk : Stage × Progress) (trunks copies : List (Stage × Progress))
    → AreRowsOf network frame (release ∷ releases) (trunk ∷ trunks) copies
    → AreSplit network frame release releases trunk trunks copies
split-rows network frame release releases trunk trunks copies are =
    let count : ℕ = copies_count network release in
    let own : List Progress = copies_of_frame network frame release in
    let others : List Progress = copies_opened network (frame + 1) releases in
    let many : length own ≡ count = length-map-range_with_len (leg_opened network frame release) 1 count in
    record {
      first = ap (λ (ps : List Progress). get_or ps 0 no_progress) are.first;
      own = sym (take-map row_again count copies) ∙ ap (take count) are.rest
          ∙ ap (λ (n : ℕ). take n (own ++ others)) (sym many) ∙ take-append_seam own others;
      others = record {
        first = ap (λ (ps : List Progress). drop 1 ps) are.first;
        rest = sym (drop-map row_again count copies) ∙ ap (drop count) are.rest
            ∙ ap (λ (n : ℕ). drop n (own ++ others)) (sym many) ∙ drop-append_seam own others;
      };
    }

-- the journeys of frames give what their rows do, in another order
pub run-gives : {X : Type 0} (own : Giving X) (network : DeclaredNetwork) (frame : ℕ) (releases : List Release)
    (trunks copies : List (Stage × Progress)) → AreRowsOf network frame releases trunks copies
    → IsPermutation (flat_map (of_row own network) trunks ++ flat_map (of_row own network) copies)
    (of_run own network frame
    (map travel_by (zip (map told_by trunks) (by_frame network releases (map told_by copies)))))
run-gives own network frame [] [] [] are = IsPermutation-refl []
run-gives own network frame [] (row ∷ trunks) copies are =
    absurd (omega (arith, ap (λ (ps : List Progress). length ps) are.first))
run-gives own network frame [] [] (row ∷ copies) are =
    absurd (omega (arith, ap (λ (ps : List Progress). length ps) are.rest))
run-gives own network frame (r ∷ releases) [] copies are =
    absurd (omega (arith, ap (λ (ps : List Progress). length ps) are.first))
run-gives {X} own network frame (r ∷ releases) (trunk ∷ trunks) copies are =
    let count : ℕ = copies_count network r in
    let gives : Stage × Progress → List X = of_row own network in
    let here : List (Stage × Progress) = take count copies in
    let there : List (Stage × Progress) = drop count copies in
    let split = split-rows network frame r releases trunk trunks copies are in
    let run : List Travel =
    map travel_by (zip (map told_by trunks) (by_frame network releases (map told_by there))) in
    let journey : List X = of_journey own network frame (travel_by (told_by trunk, map told_by here)) in
    let rest : List X = of_run own network (frame + 1) run in
    let mine : journey ≡ gives trunk ++ flat_map gives here =
    journey-gives own network frame r trunk here split.first split.own in
    let later : IsPermutation (flat_map gives trunks ++ flat_map gives there) rest =
    run-gives own network (frame + 1) releases trunks there split.others in
    let whole : flat_map gives copies ≡ flat_map gives here ++ flat_map gives there =
    ap (flat_map gives) (sym (take-append-drop count copies)) ∙ flat_map-append gives here there in
    let Of : List (Release × Leg) → List (Release × Leg) → Type 0 = λ (h t : List (Release × Leg)).
    IsPermutation (flat_map gives (trunk ∷ trunks) ++ flat_map gives copies)
    (of_journey own network frame (travel_by (told_by trunk, h))
    ++ of_run own network (frame + 1) (map travel_by (zip (map told_by trunks) (by_frame network releases t)))) in
    subst (λ (h : List (Release × Leg)). Of h (drop count (map told_by copies))) (sym (take-map told_by count copies))
    (subst (Of (map told_by here)) (sym (drop-map told_by count copies))
    (subst (λ (xs : List X). IsPermutation (flat_map gives (trunk ∷ trunks) ++ xs) (journey ++ rest)) (sym whole)
    (IsPermutation-trans
    ((gives trunk ++ flat_map gives trunks) ++ (flat_map gives here ++ flat_map gives there))
    ((gives trunk ++ flat_map gives here) ++ (flat_map gives trunks ++ flat_map gives there))
    (journey ++ rest)
    (middle-swapped (gives trunk) (flat_map gives trunks) (flat_map gives here) (flat_map gives there))
    (IsPermutation-append (gives trunk ++ flat_map gives here) journey
    (flat_map gives trunks ++ flat_map gives there) rest
    (subst (λ (xs : List X). IsPermutation xs journey) mine (IsPermutation-refl journey)) later))))
