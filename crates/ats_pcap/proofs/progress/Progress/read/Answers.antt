use Rattle.std.proofs.Common.{◌≡◌, ◌<◌, ◌≤◌, ◌++◌, ℕ, List, length, Result, Ok, MatchResult, sym, subst, rules, arith}
use Rattle.ats_num.specs.Failure.{Fails}
use Rattle.ats_num.specs.declared.failure.Failure.{Failure}
use Rattle.ats_pcap.specs.Capture.{Position, position_of}
use Rattle.ats_pcap.specs.Inside.{room_at}
use Rattle.ats_pcap.specs.Seen.{Follows, seen}
use Rattle.ats_pcap.specs.declared.fault.CaptureFault.{CaptureFault}
use Rattle.ats_pcap.proofs.Followed.{follows_fault, follows_further, follows_on}
use Rattle.ats_pcap.proofs.Taken.{taken-open}
use Rattle.ats_pcap.proofs.Tests.{err_is}
use Rattle.ats_pcap.proofs.progress.Progress.read.Goals as goal

pub take_records-requires : goal.take_records-requires
take_records-requires c =
    let p : Position = seen c.loop-rest.self in
    let part : List ℕ = c.split_at.result.0.now in
    let some : 0 < length part = search rules in
    let fits : length part ≤ room_at p =
    omega (arith, c.split_at.ensures.front_len, c.min-count.ensures, c.room.ensures.room) in
    taken-open p (seen c.take.new.self) part c.loop-rest.invariant.between some fits c.in_ok-take.ensures

pub loop-rest-preserved : goal.loop-rest-preserved
loop-rest-preserved c =
    let old : Position = seen c.args.self.now in
    let piece : List ℕ = c.args.piece.now in
    let p : Position = seen c.loop-rest.self in
    let part : List ℕ = c.split_at.result.0.now in
    let after : List ℕ = c.split_at.result.1.now in
    let some : 0 < length part = search rules in
    let fits : length part ≤ room_at p =
    omega (arith, c.split_at.ensures.front_len, c.min-count.ensures, c.room.ensures.room) in
    let taken : Follows old (seen c.take.new.self) piece after =
    follows_further old p (seen c.take.new.self) piece c.loop-rest.rest.now part after
    c.loop-rest.invariant some fits (sym c.split_at.ensures.by_index.0) c.in_ok-take.ensures in
    follows_on old (seen c.take.new.self) (seen c.take_records.new.self) piece after c.in_ok-rest.rest.now taken
    c.in_ok-rest.ensures.reads

pub returns-in_err-take-clause-reads : goal.returns-in_err-take-clause-reads
returns-in_err-take-clause-reads c = λ bytes h.
    let p : Position = seen c.loop-rest.self in
    let part : List ℕ = c.split_at.result.0.now in
    let some : 0 < length part = search rules in
    let fits : length part ≤ room_at p =
    omega (arith, c.split_at.ensures.front_len, c.min-count.ensures, c.room.ensures.room) in
    let failure : Failure CaptureFault = c.in_err-take.field-0.0 in
    let due : Result Position CaptureFault = position_of (bytes ++ c.args.piece.now) in
    let fails : Fails failure due =
    follows_fault (seen c.args.self.now) p c.args.piece.now c.loop-rest.rest.now part c.split_at.result.1.now failure
    c.loop-rest.invariant some fits (sym c.split_at.ensures.by_index.0) c.in_err-take.ensures bytes h in
    subst (λ (r : Result (Unit {0}) (Failure CaptureFault)). MatchResult r (λ _. due ≡ Ok (seen c.take.new.self))
    (λ e. Fails e due)) (sym (err_is c.from_residual.result failure c.from_residual.ensures.1)) fails
