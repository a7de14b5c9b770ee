use Rattle.std.proofs.Common.{◌≡◌, ℕ, ◌<◌, ◌≤◌, refl, arith, lit<}
use Rattle.ats_num.specs.Pace.{drawn_wait}
use Rattle.ats_num.specs.Tie.{late_key, mixed_key}
use Rattle.ats_trace.specs.Parts.{Keeps, links}
use Rattle.ats_trace.specs.Run.{IsRunBy}
use Rattle.ats_examples.specs.LegalRuns.{frame_key, greatest_wait, least_wait}
use Rattle.ats_examples.proofs.ChangeProofs.{no_crossing}
use Rattle.ats_examples.proofs.LegalProofs.{run_by}
use Rattle.ats_examples.proofs.PartTest.{others_by}
use Rattle.ats_examples.specs.Networks.{line_links, ranged_nodes, two_links}
use Rattle.ats_examples.proofs.NetworkTest.{long_network_by}
use Rattle.ats_crossing_examples.specs.Ends.{EndsHavePaces, EndsKeepOrder, EndsKeepPaces, OwnHavePaces, behind_ending}
use Rattle.ats_crossing_examples.specs.Ends.{both_ending, ended_at, ending_behind, own_crossing}
use Rattle.ats_crossing_examples.specs.Networks.{NetworksAreRight, crossed, crossed_nodes, paced}

-- Frames that end at a bridge, by computation.

networks : NetworksAreRight
networks = record {
  paced = long_network_by (ranged_nodes 12464) line_links paced.streams paced.flows refl refl;
  crossed = long_network_by crossed_nodes two_links crossed.streams crossed.flows refl refl;
}

not_least : ¬ IsRunBy frame_key least_wait paced (ended_at 1 1372001)
not_least h =
    let due : ◌≡◌ {A = ℕ} 1372001 1372000 = h.pace 0 (lit< tt) 0 no_crossing (lit< tt) in
    absurd (omega arith)

not_greatest : ¬ IsRunBy late_key greatest_wait paced (ended_at 1 2171999)
not_greatest h =
    let due : ◌≡◌ {A = ℕ} 2171999 2172000 = h.pace 0 (lit< tt) 0 no_crossing (lit< tt) in
    absurd (omega arith)

not_drawn : ¬ IsRunBy (mixed_key 7) (drawn_wait 7) paced (ended_at 1 1372008)
not_drawn h =
    let due : ◌≡◌ {A = ℕ} 1372008 1372007 = h.pace 0 (lit< tt) 0 no_crossing (lit< tt) in
    absurd (omega arith)

not_so_early : ¬ Keeps links paced (ended_at 1 1371999)
not_so_early keeps =
    let early : 1372000 ≤ 1371999 = ((keeps 0 (lit< tt)).within 0 no_crossing (lit< tt)).earliest in
    absurd (omega arith)

not_so_late : ¬ Keeps links paced (ended_at 1 2172001)
not_so_late keeps =
    let late : 2172001 ≤ 2172000 = ((keeps 0 (lit< tt)).within 0 no_crossing (lit< tt)).latest in
    absurd (omega arith)

paces : EndsHavePaces
paces = record {
  least = run_by frame_key least_wait paced (ended_at 1 1372000) refl refl refl;
  greatest = run_by late_key greatest_wait paced (ended_at 1 2172000) refl refl refl;
  drawn = run_by (mixed_key 7) (drawn_wait 7) paced (ended_at 1 1372007) refl refl refl;
  flow_least = run_by frame_key least_wait paced (ended_at 2 1372000) refl refl refl;
  flow_greatest = run_by late_key greatest_wait paced (ended_at 2 2172000) refl refl refl;
  not_least = not_least;
  not_greatest = not_greatest;
  not_drawn = not_drawn;
  early = record { broken = not_so_early; others = others_by links paced (ended_at 1 1371999) refl };
  late = record { broken = not_so_late; others = others_by links paced (ended_at 1 2172001) refl };
}

not_behind : ¬ IsRunBy (mixed_key 800000) (drawn_wait 800000) paced (behind_ending 2172002)
not_behind h =
    let due : ◌≡◌ {A = ℕ} 2172002 2172001 = h.pace 0 (lit< tt) 1 no_crossing (lit< tt) in
    absurd (omega arith)

not_together : ¬ Keeps links paced (behind_ending 2172000)
not_together keeps =
    let after : 2172000 < 2172000 =
    (keeps 0 (lit< tt)).order 0 no_crossing (lit< tt) 1 no_crossing (lit< tt) (lit< tt) in
    absurd (omega arith)

not_overtaken : ¬ Keeps links paced (behind_ending 2044000)
not_overtaken keeps =
    let after : 2172000 < 2044000 =
    (keeps 0 (lit< tt)).order 0 no_crossing (lit< tt) 1 no_crossing (lit< tt) (lit< tt) in
    absurd (omega arith)

not_ends_behind : ¬ IsRunBy (mixed_key 800000) (drawn_wait 800000) paced (ending_behind 2172002)
not_ends_behind h =
    let due : ◌≡◌ {A = ℕ} 2172002 2172001 = h.pace 0 (lit< tt) 1 no_crossing (lit< tt) in
    absurd (omega arith)

not_ends_together : ¬ Keeps links paced (ending_behind 2172000)
not_ends_together keeps =
    let after : 2172000 < 2172000 =
    (keeps 0 (lit< tt)).order 0 no_crossing (lit< tt) 1 no_crossing (lit< tt) (lit< tt) in
    absurd (omega arith)

not_overtakes : ¬ Keeps links paced (ending_behind 2044000)
not_overtakes keeps =
    let after : 2172000 < 2044000 =
    (keeps 0 (lit< tt)).order 0 no_crossing (lit< tt) 1 no_crossing (lit< tt) (lit< tt) in
    absurd (omega arith)

not_both_together : ¬ Keeps links paced (both_ending 2172000)
not_both_together keeps =
    let after : 2172000 < 2172000 =
    (keeps 0 (lit< tt)).order 0 no_crossing (lit< tt) 1 no_crossing (lit< tt) (lit< tt) in
    absurd (omega arith)

order : EndsKeepOrder
order = record {
  behind = run_by (mixed_key 800000) (drawn_wait 800000) paced (behind_ending 2172001) refl refl refl;
  not_behind = not_behind;
  together = record { broken = not_together; others = others_by links paced (behind_ending 2172000) refl };
  overtaken = record { broken = not_overtaken; others = others_by links paced (behind_ending 2044000) refl };
  ends_behind = run_by (mixed_key 800000) (drawn_wait 800000) paced (ending_behind 2172001) refl refl refl;
  not_ends_behind = not_ends_behind;
  ends_together = record { broken = not_ends_together; others = others_by links paced (ending_behind 2172000) refl };
  overtakes = record { broken = not_overtakes; others = others_by links paced (ending_behind 2044000) refl };
  both = run_by (mixed_key 800000) (drawn_wait 800000) paced (both_ending 2172001) refl refl refl;
  both_together = record { broken = not_both_together; others = others_by links paced (both_ending 2172000) refl };
}

own_not_least : ¬ IsRunBy frame_key least_wait crossed (own_crossing 1 1372001)
own_not_least h =
    let due : ◌≡◌ {A = ℕ} 1372001 1372000 = h.pace 2 (lit< tt) 0 no_crossing (lit< tt) in
    absurd (omega arith)

own_not_greatest : ¬ IsRunBy late_key greatest_wait crossed (own_crossing 1 2171999)
own_not_greatest h =
    let due : ◌≡◌ {A = ℕ} 2171999 2172000 = h.pace 2 (lit< tt) 0 no_crossing (lit< tt) in
    absurd (omega arith)

own_not_drawn : ¬ IsRunBy (mixed_key 7) (drawn_wait 7) crossed (own_crossing 1 1372008)
own_not_drawn h =
    let due : ◌≡◌ {A = ℕ} 1372008 1372007 = h.pace 2 (lit< tt) 0 no_crossing (lit< tt) in
    absurd (omega arith)

own_not_so_early : ¬ Keeps links crossed (own_crossing 1 1371999)
own_not_so_early keeps =
    let early : 1372000 ≤ 1371999 = ((keeps 2 (lit< tt)).within 0 no_crossing (lit< tt)).earliest in
    absurd (omega arith)

own_not_so_late : ¬ Keeps links crossed (own_crossing 1 2172001)
own_not_so_late keeps =
    let late : 2172001 ≤ 2172000 = ((keeps 2 (lit< tt)).within 0 no_crossing (lit< tt)).latest in
    absurd (omega arith)

own_paces : OwnHavePaces
own_paces = record {
  least = run_by frame_key least_wait crossed (own_crossing 1 1372000) refl refl refl;
  greatest = run_by late_key greatest_wait crossed (own_crossing 1 2172000) refl refl refl;
  drawn = run_by (mixed_key 7) (drawn_wait 7) crossed (own_crossing 1 1372007) refl refl refl;
  flow_least = run_by frame_key least_wait crossed (own_crossing 3 1372000) refl refl refl;
  flow_greatest = run_by late_key greatest_wait crossed (own_crossing 3 2172000) refl refl refl;
  not_least = own_not_least;
  not_greatest = own_not_greatest;
  not_drawn = own_not_drawn;
  early = record { broken = own_not_so_early; others = others_by links crossed (own_crossing 1 1371999) refl };
  late = record { broken = own_not_so_late; others = others_by links crossed (own_crossing 1 2172001) refl };
}

pub ends_keep_paces : EndsKeepPaces
ends_keep_paces = record { networks = networks; paces = paces; order = order; own = own_paces }
