use Rattle.std.proofs.Common.{◌≡◌, ◌+◌, ℕ, [], ◌∷◌, drop, get_or, None, Ok, sym, ap, ◌∙◌, arith}
use Rattle.std.proofs.lemmas.List.{drop_more, drop_all}
use Rattle.ats_pcap.specs.declared.record.Record.{Record}
use Rattle.ats_capture.specs.Seen.{seen}
use Rattle.ats_capture.specs.Traffic.{traffic_from, traffic_of}
use Rattle.ats_capture.proofs.Traffics.{one_more, traffic_releases}
use Rattle.ats_capture.proofs.traffic.captured.Goals as goal

pub loop-record-preserved : goal.loop-record-preserved
loop-record-preserved c =
    let i : ℕ = c.loop-record.record-index in
    let no_record : Record = record { nanos = 0; octets = 0; identity = None } in
    let r : Record = get_or c.args.records.now i no_record in
    let front : drop i c.args.records.now ≡ r ∷ drop (i + 1) c.args.records.now =
    drop_more c.args.records.now i no_record c.loop-record-test.true in
    record {
      due = one_more c.args.network.now c.args.station c.first_time-first.result c.loop-record.latest
          c.max-latest.result (seen c.loop-record.traffic) (seen c.add.new.self) r (drop i c.args.records.now)
          (drop (i + 1) c.args.records.now) (traffic_of c.args.network.now c.args.station c.args.records.now)
          c.loop-record.invariant.due front c.max-latest.ensures c.in_ok-ports.ensures.due;
      later = omega (arith, c.max-latest.ensures);
      counted = omega (arith, c.in_ok-ports.ensures.counted);
      unidentified = omega (arith, c.in_ok-ports.ensures.unidentified);
      oversize = omega (arith, c.in_ok-ports.ensures.oversize);
      ports = c.in_ok-ports.ensures.ports;
      few_ports = omega (arith, c.in_ok-ports.ensures.ports, c.in_ok-ports.ensures.few_ports);
    }

-- all records came to what is kept
pub returns-clause-releases : goal.returns-clause-releases
returns-clause-releases c =
    let all : drop c.loop-record.record-index c.args.records.now ≡ [] =
    drop_all c.loop-record.record-index c.args.records.now c.loop-record-test.false in
    let due : traffic_of c.args.network.now c.args.station c.args.records.now ≡ Ok (seen c.loop-record.traffic) =
    sym c.loop-record.invariant.due
    ∙ ap (traffic_from c.args.network.now c.args.station c.first_time-first.result c.loop-record.latest
    (seen c.loop-record.traffic)) all in
    traffic_releases c.args.network.now c.args.station c.args.records.now (seen c.loop-record.traffic) due
