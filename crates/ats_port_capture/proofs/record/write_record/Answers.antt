use Rattle.std.proofs.Common.{◌∙◌, ℕ, ◌-◌, ◌/◌, ◌++◌, ap, Option}
use Rattle.std.proofs.lemmas.Result.{on_ok_weaker}
use Rattle.ats_num.specs.declared.time.TheConstants.{PS_PER_NS}
use Rattle.ats_port_capture.specs.Capture.{record_bytes}
use Rattle.ats_port_capture.specs.Frame.{captured_bytes, tagged, untagged}
use Rattle.ats_port_capture.proofs.Records.{record_written, tagged_long, untagged_long}
use Rattle.ats_port_capture.proofs.record.write_record.Goals as goal

pub returns-in_ok-write_front-in-Some : goal.returns-in_ok-write_front-in-Some
returns-in_ok-write_front-in-Some c =
    on_ok_weaker c.write_tagged.result (λ written. record_written c.args.out.now.items
    c.write_front.new.out.items _ _ _ 18 (tagged c.in-Some.address c.in-Some.vlan c.args.sighting.now.class)
    (tagged_long c.in-Some.address c.in-Some.vlan c.args.sighting.now.class) c.in_ok-write_front-in-Some.ensures written
    ∙ ap (λ (o : Option (ℕ × ℕ)). c.args.out.now.items ++ record_bytes (c.args.sighting.now.start.0 / PS_PER_NS)
    (c.args.sighting.now.octets - 4) (captured_bytes o c.args.sighting.now.sender c.args.sighting.now.class))
    c.in-Some.ensures.value) c.write_tagged.ensures

pub returns-in_ok-write_front-in-None : goal.returns-in_ok-write_front-in-None
returns-in_ok-write_front-in-None c =
    on_ok_weaker c.write_untagged.result (λ written. record_written c.args.out.now.items
    c.write_front-in-None.new.out.items _ _ _ 14 (untagged c.args.sighting.now.sender)
    (untagged_long c.args.sighting.now.sender) c.in_ok-write_front-in-None.ensures written
    ∙ ap (λ (o : Option (ℕ × ℕ)). c.args.out.now.items ++ record_bytes (c.args.sighting.now.start.0 / PS_PER_NS)
    (c.args.sighting.now.octets - 4) (captured_bytes o c.args.sighting.now.sender c.args.sighting.now.class))
    c.in-None.ensures.value) c.write_untagged.ensures
