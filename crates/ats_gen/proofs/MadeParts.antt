use Rattle.std.proofs.Common.{◌≡◌, ℕ, zero, suc, ◌+◌, ◌-◌, ◌*◌, ◌<◌, ◌≤◌, List, [], ◌∷◌, ◌++◌}
use Rattle.std.proofs.Common.{length, All, refl, sym, subst, inl, inr, arith}
use Rattle.std.specs.Prelude.{IsTrue}
use Rattle.std.proofs.lemmas.Bool.{cases_eq}
use Rattle.std.proofs.lemmas.Nat.{mod_below}
use Rattle.std.proofs.lemmas.List.{length_push}
use Rattle.std.proofs.lemmas.List.Elements.{All-push, All-nil}
use Rattle.ats_num.specs.Wire.{IsFrameSize, bits_of}
use Rattle.ats_streams.specs.Rules.{AreSizes}
use Rattle.ats_bucket.specs.Conforming.{Frame}
use Rattle.ats_streams.specs.declared.traffic.Declared.{Declared}
use Rattle.ats_streams.specs.Traffic.{IsRuled, is_declared_size}
use Rattle.ats_network.specs.Network.{DeclaredNetwork}
use Rattle.ats_trace.specs.Eligibility.{declared_by}
use Rattle.ats_trace.specs.Talker.{frames_of, IsDeclaredSize}
use Rattle.ats_trace.specs.declared.journey.Release.{Release}
use Rattle.ats_gen.specs.Draw.{draw}
use Rattle.ats_gen.specs.Made.{stream_of, octets_by, octets_of, clock_of, release_by, made}
use Rattle.ats_gen.proofs.Schedulers.{frames-mine, frames-other}
use Rattle.ats_gen.proofs.Keeps.{IsKept, kept-none, kept-later, kept-push}

-- what is drawn gives octets from the least to the greatest
pub octets-within : (d : Declared) (drawn : ℕ) → d.min_octets ≤ d.max_octets
    → (d.min_octets ≤ octets_by d drawn) × (octets_by d drawn ≤ d.max_octets)
octets-within d drawn h =
    let m = mod_below drawn (d.max_octets - d.min_octets + 1) (omega arith) in
    (omega arith, omega arith)

-- the release of a frame, after those made before it
abbrev pub next_release : DeclaredNetwork → ℕ → ℕ → Release
next_release network seed k =
    release_by network (made network seed k) (stream_of network k) (octets_of network seed k) (clock_of seed k)

-- the streams of a network declare what streams may
abbrev pub AreRuled : DeclaredNetwork → Type 0
AreRuled network = (i : ℕ) → i < length network.streams → IsRuled (declared_by network i)

-- there are as many releases as frames
pub length-made : (network : DeclaredNetwork) (seed k : ℕ) → length (made network seed k) ≡ k
length-made network seed zero = refl
length-made network seed (suc k) =
    omega (arith, length_push (made network seed k) (next_release network seed k), length-made network seed k)

-- the frames of a stream keep its bucket at each frame's making
pub made-kept : (network : DeclaredNetwork) (seed k i : ℕ) → AreRuled network → 0 < length network.streams
    → i < length network.streams
    → IsKept (declared_by network i) (clock_of seed k) (frames_of i (made network seed k))
made-kept network seed zero i ruled some h = kept-none (declared_by network i) 0
made-kept network seed (suc k) i ruled some h =
    let d : Declared = declared_by network i in
    let r : Release = next_release network seed k in
    let earlier : List Release = made network seed k in
    let kept : IsKept d (clock_of seed k) (frames_of i earlier) = made-kept network seed k i ruled some h in
    elim (cases_eq (stream_of network k) i)
    as (λ _. IsKept d (clock_of seed (suc k)) (frames_of i (made network seed (suc k)))) [
      | inl mine ↦ (
          let octets = octets-within d (draw seed (2 * k)) (ruled i h).sizes.ordered in
          let Good : ℕ → Type 0 = λ s. IsKept d (clock_of seed k) (frames_of i (earlier ++
          release_by network earlier s (octets_by (declared_by network s) (draw seed (2 * k))) (clock_of seed k)
          ∷ [])) in
          let own : Good i = subst (λ (l : List Frame). IsKept d (clock_of seed k) l)
          (sym (frames-mine i earlier (release_by network earlier i (octets_by d (draw seed (2 * k)))
          (clock_of seed k)) refl))
          (kept-push d (clock_of seed k) (bits_of (octets_by d (draw seed (2 * k)))) (frames_of i earlier)
          (ruled i h) (omega (arith, (ruled i h).covers, octets.1)) kept) in
          kept-later d (clock_of seed k) (clock_of seed (suc k)) (frames_of i (made network seed (suc k)))
          (omega arith) (subst Good (sym mine) own))
      | inr other ↦
          (kept-later d (clock_of seed k) (clock_of seed (suc k)) (frames_of i (made network seed (suc k)))
          (omega arith)
          (subst (λ (l : List Frame). IsKept d (clock_of seed k) l) (sym (frames-other i earlier r other)) kept))
    ]

-- octets within the bounds are a declared size
sized : (d : Declared) (octets : ℕ) → d.min_octets ≤ octets → octets ≤ d.max_octets
    → IsTrue (is_declared_size d octets)
sized d octets low high = grind arith

-- a release is of a stream, and has a declared size
pub record IsOwn (network : DeclaredNetwork) (r : Release) : Type 0 where
  pub stream : r.sender < length network.streams
  pub size : IsDeclaredSize network r
  pub octets : IsFrameSize r.octets

-- so is each that is made
pub made-own : (network : DeclaredNetwork) (seed k : ℕ) → AreRuled network → 0 < length network.streams
    → All (IsOwn network) (made network seed k)
made-own network seed zero ruled some = All-nil (IsOwn network)
made-own network seed (suc k) ruled some =
    let s : ℕ = stream_of network k in
    let below : s < length network.streams = mod_below k (length network.streams) some in
    let sizes : AreSizes (declared_by network s).min_octets (declared_by network s).max_octets =
    (ruled s below).sizes in
    let octets = octets-within (declared_by network s) (draw seed (2 * k)) sizes.ordered in
    All-push (IsOwn network) (made network seed k) (next_release network seed k) (made-own network seed k ruled some)
    (record {
      stream = below;
      size = sized (declared_by network s) (octets_of network seed k) octets.0 octets.1;
      octets = record { least = omega (arith, sizes.least); most = omega (arith, sizes.most) };
    })
