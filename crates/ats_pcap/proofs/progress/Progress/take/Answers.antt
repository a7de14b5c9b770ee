use Rattle.std.proofs.Common.{◌≡◌, ◌+◌, ◌-◌, ◌<◌, ◌≤◌, ℕ, List, ◌++◌, length, take, Result, Ok, MatchResult}
use Rattle.std.proofs.Common.{sym, subst, ap, ◌∙◌, arith}
use Rattle.ats_num.specs.Failure.{Fails}
use Rattle.ats_pcap.specs.Capture.{Position}
use Rattle.ats_pcap.specs.Inside.{MayEnd, room_at, settled}
use Rattle.ats_pcap.specs.Seen.{seen}
use Rattle.ats_pcap.specs.declared.fault.CaptureFault.{CaptureFault}
use Rattle.ats_pcap.proofs.Taken.{longer-may_end, room_in_header, taken_in_record}
use Rattle.ats_pcap.proofs.progress.Progress.take.Goals as goal

pub take_in_header-requires-clause-room : goal.take_in_header-requires-clause-room
take_in_header-requires-clause-room c =
    let p : Position = seen c.args.self.now in
    let short : length p.header < 24 = omega (arith, c.len.ensures, c.if-len-lt-HEADER_BYTES.true) in
    let room : room_at p ≡ 24 - length p.header = room_in_header p short in
    let fits : length c.args.part.now ≤ room_at p = c.requires.room in
    omega (arith, room, fits, short)

pub settle-requires : goal.settle-requires
settle-requires c =
    let p : Position = seen c.args.self.now in
    let part : List ℕ = c.args.part.now in
    let long : 24 ≤ length p.header = omega (arith, c.len.ensures, c.if-len-lt-HEADER_BYTES.false) in
    subst (λ (front : List ℕ). MayEnd (record p { there = p.there + length part; front = front }))
    (sym c.extend.ensures) (longer-may_end p part c.requires.between long c.requires.some c.requires.room)

pub returns : goal.returns
returns c =
    let p : Position = seen c.args.self.now in
    let part : List ℕ = c.args.part.now in
    let long : 24 ≤ length p.header = omega (arith, c.len.ensures, c.if-len-lt-HEADER_BYTES.false) in
    let due : settled (record p { there = p.there + length part; front = c.extend.new.self })
    ≡ settled (record p { there = p.there + length part; front = take 32 (p.front ++ part) }) =
    ap (λ (front : List ℕ). settled (record p { there = p.there + length part; front = front })) c.extend.ensures in
    subst (λ (r : Result Position CaptureFault). MatchResult c.settle.result (λ _. r ≡ Ok (seen c.settle.new.self))
    (λ e. Fails e r)) (due ∙ sym (taken_in_record p part long)) c.settle.ensures
