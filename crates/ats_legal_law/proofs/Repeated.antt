use Rattle.std.proofs.Common.{ℕ, zero, suc, [], length-append}
use Rattle.std.proofs.Common.{refl, arith}
use Rattle.std.proofs.lemmas.List.{length-map}
use Rattle.std.proofs.lemmas.List.Elements.{All-nil}
use Rattle.std.proofs.lemmas.List.Sorted.{IsPermutation-refl}
use Rattle.ats_network.specs.Network.{DeclaredNetwork}
use Rattle.ats_trace.specs.Journey.{IsJourney}
use Rattle.ats_trace.specs.Run.{IsIdeal, releases_of}
use Rattle.ats_trace.specs.Talker.{KeepsBuckets}
use Rattle.ats_legal_law.specs.Later.{later_run, later_travel, repeated}
use Rattle.ats_legal_law.specs.InTurn.{LegalWhenRepeated, KeptWhenRepeated, LongWhenRepeated}
use Rattle.ats_legal_law.proofs.InTurn.{legal_in_turn}
use Rattle.ats_legal_law.proofs.Kept.{kept_in_turn}

-- A run again and again.

-- a run without frames
none_legal : (network : DeclaredNetwork) → IsIdeal network []
none_legal network = record {
  in_order = λ i j d before within. absurd (omega arith);
  journeys = All-nil (IsJourney network);
  ports = λ port within. record {
    waits = λ k d h. absurd (omega arith);
    takes = λ k d h. absurd (omega arith);
    apart = λ i j d before inside. absurd (omega arith);
    chosen = λ k d h. absurd (omega arith);
    prompt = λ k d h. absurd (omega arith);
  };
  links = λ port within. record { within = λ k d h. absurd (omega arith); order = λ k d h. absurd (omega arith) };
  groups = λ port class within least. record {
    arrivals = [];
    same = IsPermutation-refl [];
    in_order = λ i j d before inside. absurd (omega arith);
    verdicts = refl;
  };
  flows = λ port within k d h. absurd (omega arith);
}

none_kept : (network : DeclaredNetwork) (station : ℕ) → KeepsBuckets network (releases_of []) station
none_kept network station = record {
  streams = λ i within there. record {
    in_order = λ a b d before inside. absurd (omega arith);
    within = λ a b before inside. absurd (omega arith);
  };
  sizes = λ k d h. absurd (omega arith);
}

pub legal_when_repeated : LegalWhenRepeated
legal_when_repeated network run over by zero net legal all rests = none_legal network
legal_when_repeated network run over by (suc n) net legal all rests =
    legal_in_turn network run (repeated by n run) over by net legal
    (legal_when_repeated network run over by n net legal all rests) all rests

pub kept_when_repeated : KeptWhenRepeated
kept_when_repeated network run over by zero station kept all rests = none_kept network station
kept_when_repeated network run over by (suc n) station kept all rests =
    kept_in_turn network run (repeated by n run) over by station kept
    (kept_when_repeated network run over by n station kept all rests) all rests

pub long_when_repeated : LongWhenRepeated
long_when_repeated run by zero = omega arith
long_when_repeated run by (suc n) =
    let rest = long_when_repeated run by n in
    let both = length-append run (later_run by (repeated by n run)) in
    let moved = length-map (repeated by n run) (later_travel by) in
    omega (arith, rest, both, moved)
