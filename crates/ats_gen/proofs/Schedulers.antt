use Rattle.std.proofs.Common.{◌≡◌, ◌≢◌, ℕ, ◌+◌, ◌<◌, Bool, List, [], ◌∷◌, ◌++◌, length, map, filter, get_or}
use Rattle.std.proofs.Common.{set, sym, ap, ◌∙◌, subst, inl, inr, refl, append-nil, arith}
use Rattle.std.specs.Prelude.{ℤ, ◌==◌}
use Rattle.std.proofs.lemmas.Bool.{cases_lt, cases_eq, eq-eqb, ne_eqb}
use Rattle.std.proofs.lemmas.List.{get_or_append_left, get_or_push}
use Rattle.std.proofs.lemmas.List.{length-set, get_or-set_same, get_or-set_other, map-append}
use Rattle.std.proofs.lemmas.List.Elements.{filter-append}
use Rattle.std.proofs.lemmas.List.Sums.{fold_push}
use Rattle.ats_num.specs.Wire.{bits_of}
use Rattle.ats_streams.specs.Stream.{DeclaredStream}
use Rattle.ats_bucket.specs.Conforming.{Frame}
use Rattle.ats_bucket.specs.Scheduler.{Bucket, first_empty, empty_after, eligibility_time}
use Rattle.ats_streams.specs.declared.traffic.Declared.{Declared}
use Rattle.ats_network.specs.Sender.{Sender}
use Rattle.ats_network.specs.Network.{DeclaredNetwork}
use Rattle.ats_trace.specs.Eligibility.{declared_by}
use Rattle.ats_trace.specs.Talker.{frame_of, frames_of}
use Rattle.ats_trace.specs.declared.journey.Release.{Release}
use Rattle.ats_gen.specs.Made.{empty_by, release_by}
use Rattle.ats_gen.specs.Making.{AreSchedulers, bucket_after}
use Rattle.ats_gen.proofs.Streams.{stream-at}

-- the frames of a stream with one more release, which is its own
pub frames-mine : (i : ℕ) (earlier : List Release) (r : Release) → r.sender ≡ i
    → frames_of i (earlier ++ r ∷ []) ≡ frames_of i earlier ++ frame_of r ∷ []
frames-mine i earlier r e =
    let mine : Release → Bool = λ x. x.sender == i in
    let one : filter mine (r ∷ []) ≡ r ∷ [] = rw (eq-eqb r.sender i e) refl in
    ap (map frame_of) (filter-append mine earlier (r ∷ []) ∙ ap (λ (l : List Release). filter mine earlier ++ l) one)
    ∙ map-append frame_of (filter mine earlier) (r ∷ [])

-- or another's
pub frames-other : (i : ℕ) (earlier : List Release) (r : Release) → r.sender ≢ i
    → frames_of i (earlier ++ r ∷ []) ≡ frames_of i earlier
frames-other i earlier r e =
    let mine : Release → Bool = λ x. x.sender == i in
    let none : filter mine (r ∷ []) ≡ [] = rw (ne_eqb r.sender i e) refl in
    ap (map frame_of) (filter-append mine earlier (r ∷ []) ∙ ap (λ (l : List Release). filter mine earlier ++ l) none
    ∙ append-nil (filter mine earlier))

-- the bucket-empty time once one more frame was accepted
pub empty-push : (d : Declared) (frames : List Frame) (f : Frame)
    → empty_by d (frames ++ f ∷ []) ≡ empty_after d.rate d.burst_bits (empty_by d frames) f.at f.bits
empty-push d frames f =
    fold_push (λ (empty : ℤ) (f : Frame). empty_after d.rate d.burst_bits empty f.at f.bits)
    (first_empty d.burst_bits) frames f

-- the scheduler of a stream before any release
pub bucket-first : (network : DeclaredNetwork) (i : ℕ) (stream : DeclaredStream) (rate burst : ℕ)
    → i < length network.streams → stream ≡ get_or network.streams i stream
    → rate ≡ stream.rate → burst ≡ stream.burst_bits
    → (let b : Bucket = record { rate = rate; burst = burst; empty = first_empty burst } in b)
    ≡ bucket_after network [] i
bucket-first network i stream rate burst h is r b =
    let sender = stream-at network i stream h in
    let one : rate ≡ (get_or network.streams i stream).rate = r ∙ ap (λ (s : DeclaredStream). s.rate) is in
    let two : burst ≡ (get_or network.streams i stream).burst_bits = b ∙ ap (λ (s : DeclaredStream). s.burst_bits) is in
    rw (one, two) (ap (λ (s : Sender). let t : Bucket =
    record { rate = s.rate; burst = s.burst_bits; empty = first_empty s.burst_bits } in t) (sym sender))

-- the schedulers of the first streams, and the next one
pub schedulers-more : (network : DeclaredNetwork) (n : ℕ) (buckets new : List Bucket) (bucket : Bucket)
    → new ≡ buckets ++ bucket ∷ [] → length buckets ≡ n
    → ((i : ℕ) (d : Bucket) → i < n → get_or buckets i d ≡ bucket_after network [] i)
    → bucket ≡ bucket_after network [] n
    → (i : ℕ) (d : Bucket) → i < n + 1 → get_or new i d ≡ bucket_after network [] i
schedulers-more network n buckets new bucket is size each one i d h =
    ap (λ (l : List Bucket). get_or l i d) is
    ∙ elim (cases_lt i n) as (λ _. get_or (buckets ++ bucket ∷ []) i d ≡ bucket_after network [] i) [
      | inl old ↦ (get_or_append_left buckets (bucket ∷ []) d i (omega arith) ∙ each i d old)
      | inr end ↦ (
          let last : n ≡ i = omega arith in
          subst (λ (k : ℕ). get_or (buckets ++ bucket ∷ []) k d ≡ bucket_after network [] k) last
          (get_or_push buckets bucket d n size ∙ one))
    ]

-- the schedulers after one more release, which its stream's scheduler accepted
pub schedulers-push : (network : DeclaredNetwork) (earlier : List Release) (buckets : List Bucket) (r : Release)
    (new : Bucket) → AreSchedulers network earlier buckets → r.sender < length buckets
    → new ≡ record (bucket_after network earlier r.sender) {
      empty = empty_after (declared_by network r.sender).rate (declared_by network r.sender).burst_bits
          (empty_by (declared_by network r.sender) (frames_of r.sender earlier)) r.at.0 (bits_of r.octets);
    } → AreSchedulers network (earlier ++ r ∷ []) (set buckets r.sender new)
schedulers-push network earlier buckets r new are h is = record {
  count = length-set buckets r.sender new ∙ are.count;
  each = λ j d below. (
      let with : ℕ → ℤ → Bucket = λ k e. record (bucket_after network earlier k) { empty = e } in
      elim (cases_eq j r.sender)
      as (λ _. get_or (set buckets r.sender new) j d ≡ bucket_after network (earlier ++ r ∷ []) j) [
        | inl same ↦ (
            subst (λ (k : ℕ). get_or (set buckets r.sender new) k d ≡ bucket_after network (earlier ++ r ∷ []) k)
            (sym same)
            (get_or-set_same buckets r.sender new d h ∙ is
            ∙ ap (with r.sender)
            (sym (ap (empty_by (declared_by network r.sender)) (frames-mine r.sender earlier r refl)
            ∙ empty-push (declared_by network r.sender) (frames_of r.sender earlier) (frame_of r)))))
        | inr apart ↦ (
            get_or-set_other buckets r.sender j new d apart
            ∙ are.each j d (omega (arith, length-set buckets r.sender new))
            ∙ ap (λ (l : List Frame). with j (empty_by (declared_by network j) l))
            (sym (frames-other j earlier r (λ e. apart (sym e)))))
      ]);
}

-- the scheduler of a stream is as after these releases
pub scheduler-is : (network : DeclaredNetwork) (earlier : List Release) (buckets : List Bucket) (i : ℕ) (b : Bucket)
    → AreSchedulers network earlier buckets → i < length network.streams → b ≡ get_or buckets i b
    → b ≡ bucket_after network earlier i
scheduler-is network earlier buckets i b are h is = is ∙ are.each i b (omega (arith, are.count))

-- a release at the time that such a scheduler proposes
pub released-as : (network : DeclaredNetwork) (earlier : List Release) (i octets clock at bits : ℕ) (b : Bucket)
    → b ≡ bucket_after network earlier i → bits ≡ bits_of octets
    → at ≡ eligibility_time b.rate b.empty 0 clock bits
    → (let r : Release = record { at = record { 0 = at }; sender = i; octets = octets } in r)
    ≡ release_by network earlier i octets clock
released-as network earlier i octets clock at bits b is size time =
    let timed : ℕ → Release = λ t. record { at = record { 0 = t }; sender = i; octets = octets } in
    ap timed (time ∙ ap (λ (w : ℕ). eligibility_time b.rate b.empty 0 clock w) size
    ∙ ap (λ (s : Bucket). eligibility_time s.rate s.empty 0 clock (bits_of octets)) is)

-- the schedulers after a stream's scheduler accepted the frame of a release
pub schedulers-accept : (network : DeclaredNetwork) (earlier after : List Release) (buckets : List Bucket)
    (b new : Bucket) (r : Release) (bits : ℕ) → AreSchedulers network earlier buckets
    → r.sender < length network.streams → b ≡ bucket_after network earlier r.sender → bits ≡ bits_of r.octets
    → new ≡ record b { empty = empty_after b.rate b.burst b.empty r.at.0 bits } → after ≡ earlier ++ r ∷ []
    → AreSchedulers network after (set buckets r.sender new)
schedulers-accept network earlier after buckets b new r bits are h is size n more =
    let by : Bucket → ℕ → Bucket = λ s w. record s { empty = empty_after s.rate s.burst s.empty r.at.0 w } in
    subst (λ (l : List Release). AreSchedulers network l (set buckets r.sender new)) (sym more)
    (schedulers-push network earlier buckets r new are (omega (arith, are.count))
    (n ∙ ap (by b) size ∙ ap (λ (s : Bucket). by s (bits_of r.octets)) is))
