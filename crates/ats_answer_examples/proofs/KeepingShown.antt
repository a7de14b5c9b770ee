-- What is asked of a node that keeps its buckets, or its spacing.
use Rattle.std.proofs.Common.{◌≡◌, ◌≢◌, ℕ, zero, suc, ◌+◌, ◌<◌, ◌≤◌, Bool, true, false, ◌&&◌, List, [], ◌∷◌, All}
use Rattle.std.proofs.Common.{length, get_or, refl, arith, lit<, lit≤}
use Rattle.std.specs.Prelude.{map, nat_le}
use Rattle.std.proofs.lemmas.Bool.{and_parts, false≢true, le-leb}
use Rattle.std.proofs.lemmas.List.{length-append, length-map}
use Rattle.std.proofs.lemmas.List.Elements.{All-cons, All-contains, All-contains_itself, All-nil}
use Rattle.ats_bucket.specs.Conforming.{Frame}
use Rattle.ats_streams.specs.declared.traffic.Declared.{Declared}
use Rattle.ats_network.specs.Network.{DeclaredNetwork, senders_of}
use Rattle.ats_network.specs.Sender.{flow_sender, stream_sender}
use Rattle.ats_network.specs.Senders.{sender_at}
use Rattle.ats_group.specs.Judge.{bucket_rule}
use Rattle.ats_lrq.specs.Judge.{spacing_rule}
use Rattle.ats_trace.specs.Eligibility.{declared_by}
use Rattle.ats_trace.specs.Talker.{IsDeclaredSize, KeepsBucketsBy, frames_of, talker_of}
use Rattle.ats_trace.specs.declared.journey.Release.{Release}
use Rattle.ats_examples.specs.Networks.{line}
use Rattle.ats_examples.proofs.BucketTest.{conforms_by}
use Rattle.ats_examples.proofs.Tests.{le_of}
use Rattle.ats_verdict_examples.specs.Networks.{release}
use Rattle.ats_answer_examples.specs.Keeping.{AreOwnKept, FlowsAreOwn, KeepingIsMeant, flow_is_long}
use Rattle.ats_answer_examples.specs.Premises.{with_flow_over}

-- a release of the line with the flow has a declared size if its sender begins at the node
abbrev Sized : ℕ → ℕ → Release → Type 0
Sized port node r = r.sender < length (senders_of (with_flow_over port))
    → talker_of (with_flow_over port) r.sender ≡ node → IsDeclaredSize (with_flow_over port) r

-- the node of the stream keeps a rule that its frame keeps, where the flow begins at another one
other_keeps : (rule : Declared → List Frame → Type 0) (port : ℕ) → rule (declared_by line 0) (frames_of 0 flow_is_long)
    → talker_of (with_flow_over port) 1 ≢ 0 → KeepsBucketsBy rule (with_flow_over port) flow_is_long 0
other_keeps rule port kept apart = record {
  streams = first;
  sizes = All-cons (Sized port 0) (release 0 0 1522) (release 0 1 1523 ∷ []) (λ there begins. refl)
      (All-cons (Sized port 0) (release 0 1 1523) [] (λ there begins. absurd (apart begins))
      (All-nil (Sized port 0)));
}
  where
    first : (i : ℕ) → i < 1 → talker_of (with_flow_over port) i ≡ 0
        → rule (declared_by (with_flow_over port) i) (frames_of i flow_is_long)
    first zero there begins = kept
    first (suc i) there begins = absurd (omega (arith, there))

-- a node at which no route begins keeps each rule
none_keeps : (rule : Declared → List Frame → Type 0) → KeepsBucketsBy rule (with_flow_over 3) flow_is_long 2
none_keeps rule = record {
  streams = first;
  sizes = All-cons (Sized 3 2) (release 0 0 1522) (release 0 1 1523 ∷ [])
      (λ there begins. absurd (let other : 0 ≡ 2 = begins in omega (arith, other)))
      (All-cons (Sized 3 2) (release 0 1 1523) []
      (λ there begins. absurd (let other : 1 ≡ 2 = begins in omega (arith, other))) (All-nil (Sized 3 2)));
}
  where
    first : (i : ℕ) → i < 1 → talker_of (with_flow_over 3) i ≡ 2
        → rule (declared_by (with_flow_over 3) i) (frames_of i flow_is_long)
    first zero there begins = absurd (let other : 0 ≡ 2 = begins in omega (arith, other))
    first (suc i) there begins = absurd (omega (arith, there))

-- the node of the flow keeps none
own_breaks : (rule : Declared → List Frame → Type 0) (port node : ℕ) → talker_of (with_flow_over port) 1 ≡ node
    → ¬ KeepsBucketsBy rule (with_flow_over port) flow_is_long node
own_breaks rule port node begins keeps =
    let no : false ≡ true = keeps.sizes 1 (release 0 0 0) (lit< tt) (lit< tt) begins in absurd (cc no)

flows_own : (rule : Declared → List Frame → Type 0) → rule (declared_by line 0) (frames_of 0 flow_is_long)
    → FlowsAreOwn rule
flows_own rule kept = record {
  of_other = other_keeps rule 3 kept (λ begins. let same : 1 ≡ 0 = begins in absurd (omega (arith, same)));
  own = own_breaks rule 3 1 refl;
  of_none = none_keeps rule;
  of_bridge = other_keeps rule 2 kept (λ begins. let same : 2 ≡ 0 = begins in absurd (omega (arith, same)));
  own_bridge = own_breaks rule 2 2 refl;
}

-- one frame keeps any spacing
one_frame : All (λ (f : Frame). 1 ≤ f.bits) (frames_of 0 flow_is_long)
one_frame = All-cons (λ (f : Frame). 1 ≤ f.bits) (record { at = 0; bits = 12336 }) [] (lit≤ tt)
    (All-nil (λ (f : Frame). 1 ≤ f.bits))

both_pass : (a b : Bool) → a ≡ true → b ≡ true → (a && b) ≡ true
both_pass true b first second = second
both_pass false b first second = absurd (false≢true first)

-- the senders are the streams and the flows
sender_count : (network : DeclaredNetwork)
    → length (senders_of network) ≡ length network.streams + length network.flows
sender_count network = omega (
  arith,
  length-append (map stream_sender network.streams) (map flow_sender network.flows),
  length-map network.streams stream_sender,
  length-map network.flows flow_sender,
)

own_kept : (rule : Declared → List Frame → Type 0) (network : DeclaredNetwork) (releases : List Release) (node : ℕ)
    → KeepsBucketsBy rule network releases node → AreOwnKept rule network releases node
own_kept rule network releases node keeps = record {
  streams = keeps.streams;
  sizes = λ r among there begins.
      (let below : r.sender < length (senders_of network) = omega (arith, there, sender_count network) in
      let least : ℕ = (sender_at network r.sender).min_octets in
      let most : ℕ = (sender_at network r.sender).max_octets in
      let sized : IsDeclaredSize network r =
      All-contains (λ (x : Release). x.sender < length (senders_of network) → talker_of network x.sender ≡ node
      → IsDeclaredSize network x) releases r keeps.sizes among below begins in
      let parts : (nat_le least r.octets ≡ true) × (nat_le r.octets most ≡ true) =
      and_parts (nat_le least r.octets) (nat_le r.octets most) sized in
      (le_of least r.octets parts.0, le_of r.octets most parts.1));
}

kept_own : (rule : Declared → List Frame → Type 0) (network : DeclaredNetwork) (releases : List Release) (node : ℕ)
    → AreOwnKept rule network releases node → KeepsBucketsBy rule network releases node
kept_own rule network releases node kept = record {
  streams = kept.streams;
  sizes = λ k d within there begins.
      (let r : Release = get_or releases k d in
      let least : ℕ = (sender_at network r.sender).min_octets in
      let most : ℕ = (sender_at network r.sender).max_octets in
      let below : r.sender < length network.streams + length network.flows =
      omega (arith, there, sender_count network) in
      let sized : (least ≤ r.octets) × (r.octets ≤ most) =
      kept.sizes r (All-contains_itself releases k d within) below begins in
      both_pass (nat_le least r.octets) (nat_le r.octets most) (le-leb least r.octets sized.0)
      (le-leb r.octets most sized.1));
}

pub keeping_is_meant : KeepingIsMeant
keeping_is_meant = record {
  flows = flows_own bucket_rule (conforms_by 100000000 12336 (frames_of 0 flow_is_long) refl);
  flows_spaced = flows_own spacing_rule (record { bits = one_frame; spaced = tt });
  buckets = λ network releases node.
      (own_kept bucket_rule network releases node, kept_own bucket_rule network releases node);
  spacing = λ network releases node.
      (own_kept spacing_rule network releases node, kept_own spacing_rule network releases node);
}
