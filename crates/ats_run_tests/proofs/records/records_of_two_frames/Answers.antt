use Rattle.std.proofs.Common.{rules, refl, ◌∷◌, []}
use Rattle.ats_run_tests.proofs.Recorded.{releases_go, few_ports_go, room_at_first, room_then, room_at_last}
use Rattle.ats_run_tests.proofs.records.records_of_two_frames.Goals as goal

pub open-requires-clause-releases : goal.open-requires-clause-releases
open-requires-clause-releases g c = releases_go c.in-Some.network (c.release.result ∷ c.release-2.result ∷ [])
    c.release.result c.release-2.result refl c.release.ensures c.release-2.ensures (search rules)

pub open-requires-clause-few_ports : goal.open-requires-clause-few_ports
open-requires-clause-few_ports g c = few_ports_go c.in-Some.network (c.release.result ∷ c.release-2.result ∷ [])
    c.release.result c.release-2.result refl c.release.ensures c.release-2.ensures (search rules)

pub push-requires-clause-room : goal.push-requires-clause-room
push-requires-clause-room g c = room_at_first c.in-Some.network c.expect-records.result
    (c.release.result ∷ c.release-2.result ∷ []) c.release.result c.release-2.result (search rules) refl
    c.release.ensures c.release-2.ensures (search rules)

pub push-requires-2-clause-room : goal.push-requires-2-clause-room
push-requires-2-clause-room g c = room_then c.in-Some.network c.expect-records.result c.push.new.self
    (c.release.result ∷ c.release-2.result ∷ []) c.release.result c.release-2.result c.came.result (search rules) refl
    c.release.ensures c.release-2.ensures c.push.ensures (search rules)

pub push-requires-3-clause-room : goal.push-requires-3-clause-room
push-requires-3-clause-room g c = room_at_last c.in-Some.network c.expect-records.result c.push.new.self
    c.push-2.new.self c.send.new.self (c.release.result ∷ c.release-2.result ∷ []) c.release.result c.release-2.result
    c.came.result c.came-2.result (record { 0 = 7 }) (record { 0 = 9 }) (search rules) refl
    c.release.ensures c.release-2.ensures c.push.ensures c.push-2.ensures c.send.ensures (search rules)
