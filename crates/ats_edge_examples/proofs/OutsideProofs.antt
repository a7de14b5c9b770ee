-- Files and sinks at edges, by cases.
use Rattle.std.proofs.Common.{◌≡◌, ◌∙◌, ℕ, List, [], ◌∷◌, ◌++◌, Option, Some, arith, ap, refl, sym}
use Rattle.std.specs.Prelude.{codes, length, slice_index_or, unwrap_or}
use Rattle.ats_io.specs.Reads.{AreInTurn, IsReading, Read, ReadsInTurn}
use Rattle.ats_edge_examples.specs.Outside.{OutsideIsAtEdges, PrefixesAreTaken, ReadsAreInTurn, read}

abbrev of_n : Read
of_n = read (codes "n") 3

abbrev of_m : Read
of_m = read (codes "m") 5

-- the first byte of the name of the read at a place, and the byte at a place of what a sink holds
abbrev name_at : ℕ → List Read → ℕ
name_at place reads = slice_index_or (slice_index_or reads place of_n).name 0 0

abbrev byte_at : ℕ → Option (List ℕ) → ℕ
byte_at place held = slice_index_or (unwrap_or held []) place 0

not_second : (first rest : List Read) → first ++ rest ≡ of_m ∷ of_n ∷ [] → rest ≡ [] → ¬ IsReading (codes "m") 0 first
not_second [] rest parts none reading = absurd (omega (arith, ap length parts, ap length none))
not_second (a ∷ []) rest parts none reading = absurd (omega (arith, ap length parts, ap length none))
not_second (a ∷ b ∷ first) rest parts none reading =
    let is_n : slice_index_or b.name 0 0 ≡ 110 = ap (name_at 1) parts in
    let is_m : slice_index_or b.name 0 0 ≡ 109 = ap (λ name. slice_index_or name 0 0) reading.2.0 in
    absurd (omega (arith, is_n, is_m))

not_first : (first rest : List Read) → first ++ rest ≡ of_m ∷ of_n ∷ [] → IsReading (codes "n") 0 first
    → ¬ AreInTurn (codes "m" ∷ []) rest
not_first [] rest parts reading (own, behind, whole, of_own, none) =
    not_second own behind (whole ∙ parts) none of_own
not_first (a ∷ first) rest parts reading turn =
    let is_m : slice_index_or a.name 0 0 ≡ 109 = ap (name_at 0) parts in
    let is_n : slice_index_or a.name 0 0 ≡ 110 = ap (λ name. slice_index_or name 0 0) reading.0 in
    absurd (omega (arith, is_n, is_m))

not_turned : ¬ ReadsInTurn (codes "n" ∷ codes "m" ∷ []) [] (of_m ∷ of_n ∷ [])
not_turned (made, new, (first, rest, parts, reading, turn)) =
    not_first first rest (parts ∙ sym new) reading turn

last_of_m : AreInTurn (codes "m" ∷ []) (of_m ∷ [])
last_of_m = (of_m ∷ [], [], refl, (refl, refl, tt), refl)

reads_are_in_turn : ReadsAreInTurn
reads_are_in_turn = record {
  so = (of_n ∷ of_m ∷ [], refl, (of_n ∷ [], of_m ∷ [], refl, (refl, refl, tt), last_of_m));
  unread = (of_m ∷ [], refl, ([], of_m ∷ [], refl, tt, last_of_m));
  turned = not_turned;
}

not_end : (front rest : List ℕ) → front ++ rest ≡ codes "ab" → ¬ (Some (codes "xb") ≡ Some (codes "x" ++ front))
not_end [] rest parts taken =
    absurd (omega (arith, ap (λ (o : Option (List ℕ)). length (unwrap_or o [])) taken))
not_end (b ∷ front) rest parts taken =
    let is_a : b ≡ 97 = ap (λ bytes. slice_index_or bytes 0 0) parts in
    let is_b : 98 ≡ b = ap (byte_at 1) taken in
    absurd (omega (arith, is_a, is_b))

prefixes_are_taken : PrefixesAreTaken
prefixes_are_taken = record {
  front = record { front = codes "a"; rest = codes "b"; parts = refl; taken = refl };
  all = record { front = codes "ab"; rest = []; parts = refl; taken = refl };
  end = λ h. not_end h.front h.rest h.parts h.taken;
}

pub outside_is_at_edges : OutsideIsAtEdges
outside_is_at_edges = record { reads = reads_are_in_turn; prefixes = prefixes_are_taken }
