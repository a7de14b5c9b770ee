use Rattle.std.proofs.Common.{List, [], ◌∷◌, None, refl}
use Rattle.ats_group.specs.declared.verdict.Verdict.TheVariants.{Late}
use Rattle.ats_trace.specs.Journey.{Travel}
use Rattle.ats_trace.specs.Run.{IsIdeal, releases_of}
use Rattle.ats_trace.specs.Talker.{KeepsBuckets}
use Rattle.ats_trace.specs.declared.journey.Ending.TheVariants.{Discard}
use Rattle.ats_examples.specs.Networks.{line, line_and_flow, pair, below, fast}
use Rattle.ats_examples.specs.Runs.{one_frame, behind_a_flow, hop, sunk}
use Rattle.ats_examples.proofs.BucketTest.{keeps_by}
use Rattle.ats_examples.proofs.PartTest.{legal_by}

-- Legal runs of the examples, whose talkers keep their buckets.

-- a frame of 1522 octets of the other stream goes first, and the small one behind it
abbrev pub of_two : List Travel
of_two =
    sunk 0 1 1522 (hop 0 0 0 12336000 ∷ hop 13836000 13836000 13836000 26172000 ∷ []) 26672000
    ∷ sunk 0 0 64 (hop 0 0 12336000 13008000 ∷ hop 14508000 14508000 26172000 26844000 ∷ []) 27344000
    ∷ []

-- the next small one is sent at its release, as soon as its bucket allows; in the bridge it would have to stay for
-- 12336000 ps, as long as the first one waited at the talker, and is discarded where that is too long
abbrev pub of_three : List Travel
of_three =
    sunk 0 1 1522 (hop 0 0 0 12336000 ∷ hop 13836000 13836000 13836000 26172000 ∷ []) 26672000
    ∷ sunk 0 0 64 (hop 0 0 12336000 13008000 ∷ hop 14508000 14508000 26172000 26844000 ∷ []) 27344000
    ∷ record {
      release = record { at = record { 0 = 13440000 }; sender = 0; octets = 64 };
      hops = hop 13440000 13440000 13440000 14112000
          ∷ record { arrival = record { 0 = 15612000 }; verdict = Late (record { 0 = 27948000 }); sent = None } ∷ [];
      ending = Discard;
      copies = [];
    }
    ∷ []

-- a small frame waits for two of the class above
abbrev pub of_classes : List Travel
of_classes =
    sunk 0 1 1522 (hop 0 0 0 12336000 ∷ hop 13836000 13836000 13836000 26172000 ∷ []) 26672000
    ∷ sunk 0 0 64 (hop 0 0 13008000 13680000 ∷ hop 15180000 15180000 26844000 27516000 ∷ []) 28016000
    ∷ sunk 1344000 1 64 (hop 1344000 1344000 12336000 13008000 ∷ hop 14508000 15180000 26172000 26844000 ∷ []) 27344000
    ∷ []

-- two frames of the stream at twice the rate of the link
abbrev pub of_fast : List Travel
of_fast =
    sunk 0 0 1522 (hop 0 0 0 12336000 ∷ hop 13836000 13836000 13836000 26172000 ∷ []) 26672000
    ∷ sunk 6168000 0 1522
    (hop 6168000 6168000 12336000 24672000 ∷ hop 26172000 26172000 26172000 38508000 ∷ []) 39008000
    ∷ []

pub two_legal : IsIdeal (pair 1000000) of_two
two_legal = legal_by (pair 1000000) of_two refl

pub two_kept : KeepsBuckets (pair 1000000) (releases_of of_two) 0
two_kept = keeps_by (pair 1000000) (releases_of of_two) 0 refl refl

pub three_legal : IsIdeal (pair 12335) of_three
three_legal = legal_by (pair 12335) of_three refl

pub three_kept : KeepsBuckets (pair 12335) (releases_of of_three) 0
three_kept = keeps_by (pair 12335) (releases_of of_three) 0 refl refl

pub classes_legal : IsIdeal below of_classes
classes_legal = legal_by below of_classes refl

pub classes_kept : KeepsBuckets below (releases_of of_classes) 0
classes_kept = keeps_by below (releases_of of_classes) 0 refl refl

pub fast_legal : IsIdeal fast of_fast
fast_legal = legal_by fast of_fast refl

pub fast_kept : KeepsBuckets fast (releases_of of_fast) 0
fast_kept = keeps_by fast (releases_of of_fast) 0 refl refl

pub flow_legal : IsIdeal line_and_flow behind_a_flow
flow_legal = legal_by line_and_flow behind_a_flow refl

pub flow_kept : KeepsBuckets line_and_flow (releases_of behind_a_flow) 0
flow_kept = keeps_by line_and_flow (releases_of behind_a_flow) 0 refl refl

pub one_kept : KeepsBuckets line (releases_of one_frame) 0
one_kept = keeps_by line (releases_of one_frame) 0 refl refl
