-- The file of sightings in order is the capture of the transmissions.
use Rattle.std.proofs.Common.{◌≡◌, ◌∙◌, ℕ, ◌<◌, ◌≤◌, ◌^◌, ◌/◌, List, [], ◌∷◌, ◌++◌, length, get_or, map}
use Rattle.std.proofs.Common.{refl, sym, ap, subst, arith}
use Rattle.std.specs.Prelude.{swap}
use Rattle.std.specs.List.{All, flat_map}
use Rattle.std.specs.List.Sorted.{IsNonDecreasingBy, IsPermutation}
use Rattle.std.proofs.Math.ListN.{get_or-map, set}
use Rattle.std.proofs.lemmas.List.{length-map, map-set}
use Rattle.std.proofs.lemmas.List.Folds.{flat_map-map}
use Rattle.std.proofs.lemmas.List.Sorted.{All-permutation, IsPermutation-keeps, IsPermutation-refl, IsPermutation-swap}
use Rattle.std.proofs.lemmas.List.Sorted.{IsPermutation-trans}
use Rattle.ats_facts.proofs.Lists.{all_unmapped}
use Rattle.ats_network.specs.Network.{DeclaredNetwork}
use Rattle.ats_trace.specs.Journey.{Travel}
use Rattle.ats_trace.specs.Projections.{sent_by}
use Rattle.ats_port_capture.specs.Capture.{IsCapture, header}
use Rattle.ats_port_capture.specs.Sightings.{AreReordered, IsWritable, sighting_of, sighting_record}
use Rattle.ats_port_capture.specs.declared.sighting.Sighting.{Sighting}

map_swap : {X Y : Type 0} (f : X → Y) (xs : List X) (i j : ℕ) → swap (map f xs) i j ≡ map f (swap xs i j)
map_swap f [] i j = refl
map_swap {X} {Y} f (x ∷ xs) i j =
    let l : List X = x ∷ xs in
    sym (map-set f (set l i (get_or l j x)) j (get_or l i x)
    ∙ ap (λ (t : List Y). set t j (f (get_or l i x))) (map-set f l i (get_or l j x))
    ∙ ap (λ (y : Y). set (set (map f l) i (f (get_or l j x))) j y) (sym (get_or-map f l i x))
    ∙ ap (λ (y : Y). set (set (map f l) i y) j (get_or (map f l) i (f x))) (sym (get_or-map f l j x)))

-- what stands in another order is made of these things in another order
pub record IsMadeOf {X Y : Type 0} (f : X → Y) (xs : List X) (ys : List Y) : Type 0 where
  pub others : List X
  pub same : IsPermutation xs others
  pub made : ys ≡ map f others

pub unmapped : {X Y : Type 0} (f : X → Y) (xs : List X) (ys : List Y) → IsPermutation (map f xs) ys → IsMadeOf f xs ys
unmapped f xs ys moved =
    IsPermutation-keeps (map f xs) (IsMadeOf f xs)
    (record { others = xs; same = IsPermutation-refl xs; made = refl })
    (λ l i j p q h.
    let long : length l ≡ length h.others = ap (λ t. length t) h.made ∙ length-map h.others f in
    record {
      others = swap h.others i j;
      same = IsPermutation-trans xs h.others (swap h.others i j) h.same
          (IsPermutation-swap h.others (swap h.others i j) i j (omega arith) (omega arith) refl);
      made = ap (λ t. swap t i j) h.made ∙ map_swap f h.others i j;
    })
    ys moved

-- a time of 64 bits is in a second of 32 bits
second_fits : (time : ℕ) → time < 2 ^ 64 → time / 1000 / 1_000_000_000 < 2 ^ 32
second_fits time h = omega arith

pub capture_is : (network : DeclaredNetwork) (run : List Travel) (port : ℕ) (sightings ordered : List Sighting)
    (file : List ℕ) → sightings ≡ map (sighting_of run) (sent_by network run port) → All IsWritable sightings
    → AreReordered sightings ordered → file ≡ header ++ flat_map (sighting_record network) ordered
    → IsCapture network run port file
capture_is network run port sightings ordered file all each moved written =
    let made = unmapped (sighting_of run) (sent_by network run port) ordered
    (subst (λ (l : List Sighting). IsPermutation l ordered) all moved.same) in
    let writable : All IsWritable (map (sighting_of run) made.others) =
    subst (All IsWritable) made.made (All-permutation IsWritable sightings ordered moved.same each) in
    let up : IsNonDecreasingBy (λ (s : Sighting). s.start.0) (map (sighting_of run) made.others) =
    subst (IsNonDecreasingBy (λ (s : Sighting). s.start.0)) made.made moved.in_order in
    record {
      sent = made.others;
      ordered = record {
        all = made.same;
        in_order = λ i j d le lt. subst (λ (s : Sighting). s.start.0 ≤ (get_or made.others j d).start)
            (get_or-map (sighting_of run) made.others i d)
            (subst (λ (s : Sighting). (get_or (map (sighting_of run) made.others) i (sighting_of run d)).start.0
            ≤ s.start.0) (get_or-map (sighting_of run) made.others j d)
            (up i j (sighting_of run d) le (omega (arith, length-map made.others (sighting_of run)))));
        fit = λ k d lt. second_fits (get_or made.others k d).start
            (all_unmapped IsWritable (sighting_of run) made.others writable k d lt).start;
      };
      written = written ∙ ap (λ (l : List Sighting). header ++ flat_map (sighting_record network) l) made.made
          ∙ ap (λ (l : List ℕ). header ++ l) (flat_map-map (sighting_record network) (sighting_of run) made.others);
    }
