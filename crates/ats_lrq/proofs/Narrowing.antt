use Rattle.std.proofs.Common.{◌≡◌, ℕ, zero, suc, ◌+◌, ◌<◌, List, [], ◌∷◌, ◌++◌, map, set, get_or, take, drop, length}
use Rattle.std.proofs.Common.{refl, ap, sym, ◌∙◌, add-one, length-set, arith}
use Rattle.std.proofs.lemmas.List.{get_or_default}
use Rattle.ats_streams.specs.Stream.{DeclaredStream, with_burst}
use Rattle.ats_network.specs.Network.{DeclaredNetwork, IsNetwork}
use Rattle.ats_network.specs.Edits.{no_stream, with_burst_at}
use Rattle.ats_network.specs.Rates.{HasRates}
use Rattle.ats_network.proofs.Rated.{narrowed_rates}
use Rattle.ats_num.specs.Wire.{bits_of}
use Rattle.ats_lrq.specs.Narrow.{narrowed_stream}

-- streams of which the first have narrowed bursts
abbrev pub narrowed_first : List DeclaredStream → ℕ → List DeclaredStream
narrowed_first streams n = map narrowed_stream (take n streams) ++ drop n streams

abbrev pub narrowed_to : DeclaredNetwork → ℕ → DeclaredNetwork
narrowed_to network n = record network { streams = narrowed_first network.streams n }

-- one more
one_more : (streams : List DeclaredStream) (n : ℕ) → n < length streams
    → set (narrowed_first streams n) n (narrowed_stream (get_or (narrowed_first streams n) n no_stream))
    ≡ narrowed_first streams (suc n)
one_more [] n h = absurd (omega arith)
one_more (s ∷ ss) zero h = refl
one_more (s ∷ ss) (suc n) h =
    ap (λ (xs : List DeclaredStream). narrowed_stream s ∷ xs) (one_more ss n (omega arith))

pub narrowed-more : (network : DeclaredNetwork) (n : ℕ) → n < length network.streams
    → with_burst_at (narrowed_to network n) n
    (bits_of (get_or (narrowed_first network.streams n) n no_stream).max_octets) ≡ narrowed_to network (n + 1)
narrowed-more network n h =
    ap (λ (xs : List DeclaredStream). let x : DeclaredNetwork = record network { streams = xs } in x)
    (one_more network.streams n h ∙ ap (narrowed_first network.streams) (sym (add-one n)))

-- in the words of the loop: this stream got its burst
pub narrowed-step : (network now later : DeclaredNetwork) (n bits : ℕ) (it : DeclaredStream)
    → now ≡ narrowed_to network n → length now.streams ≡ length network.streams → n < length network.streams
    → it ≡ get_or now.streams n it → bits ≡ bits_of it.max_octets → later ≡ with_burst_at now n bits
    → later ≡ narrowed_to network (n + 1)
narrowed-step network now later n bits it so_far count within is counted set =
    let place : it ≡ get_or now.streams n no_stream =
    is ∙ get_or_default now.streams n it no_stream (omega arith) in
    set
    ∙ ap (with_burst_at now n) (counted ∙ ap (λ (s : DeclaredStream). bits_of s.max_octets) place)
    ∙ ap (λ (x : DeclaredNetwork). with_burst_at x n (bits_of (get_or x.streams n no_stream).max_octets)) so_far
    ∙ narrowed-more network n within

pub count-step : (network now later : DeclaredNetwork) (n bits : ℕ) → length now.streams ≡ length network.streams
    → later ≡ with_burst_at now n bits → length later.streams ≡ length network.streams
count-step network now later n bits count set =
    ap (λ (x : DeclaredNetwork). length x.streams) set
    ∙ length-set now.streams n (with_burst (get_or now.streams n no_stream) bits)
    ∙ count

-- a stream with a narrowed burst is still within the limits of a scheduler at each of its ports
pub narrowed-rates : (network : DeclaredNetwork) (n burst_bits : ℕ) → IsNetwork network → n < length network.streams
    → burst_bits ≡ bits_of (get_or network.streams n no_stream).max_octets
    → HasRates network.topology (with_burst (get_or network.streams n no_stream) burst_bits)
narrowed-rates network n burst_bits is within same =
    let rules = (is.streams n no_stream within).rules in
    let covers = rules.covers in
    narrowed_rates network.topology (get_or network.streams n no_stream) burst_bits is.topology
    rules.rate.positive (omega (arith, same, covers)) (is.rates n no_stream within)
