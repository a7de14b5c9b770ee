use Rattle.std.proofs.Common.{◌≡◌, ℕ, ◌<◌, ◌≤◌, refl, arith, lit<}
use Rattle.ats_num.specs.Pace.{drawn_wait}
use Rattle.ats_num.specs.Tie.{late_key, mixed_key}
use Rattle.ats_trace.specs.Parts.{Keeps, links}
use Rattle.ats_trace.specs.Run.{IsRunBy}
use Rattle.ats_examples.specs.LegalRuns.{frame_key, greatest_wait, least_wait}
use Rattle.ats_examples.proofs.ChangeProofs.{no_crossing}
use Rattle.ats_examples.proofs.LegalProofs.{run_by}
use Rattle.ats_examples.proofs.PartTest.{others_by}
use Rattle.ats_crossing_examples.specs.Discards.{DiscardedKeepPaces, LateHavePaces, LateKeepOrder, LongHavePaces}
use Rattle.ats_crossing_examples.specs.Discards.{LongKeepOrder, behind_late, behind_long, late_at, long_at}
use Rattle.ats_crossing_examples.specs.Networks.{paced}

-- Frames that the next bridge discards, by computation.

not_least : ¬ IsRunBy frame_key least_wait paced (long_at 13044001)
not_least h =
    let due : ◌≡◌ {A = ℕ} 13044001 13044000 = h.pace 0 (lit< tt) 0 no_crossing (lit< tt) in
    absurd (omega arith)

not_greatest : ¬ IsRunBy late_key greatest_wait paced (long_at 13843999)
not_greatest h =
    let due : ◌≡◌ {A = ℕ} 13843999 13844000 = h.pace 0 (lit< tt) 0 no_crossing (lit< tt) in
    absurd (omega arith)

not_drawn : ¬ IsRunBy (mixed_key 7) (drawn_wait 7) paced (long_at 13044008)
not_drawn h =
    let due : ◌≡◌ {A = ℕ} 13044008 13044007 = h.pace 0 (lit< tt) 0 no_crossing (lit< tt) in
    absurd (omega arith)

not_so_early : ¬ Keeps links paced (long_at 13043999)
not_so_early keeps =
    let early : 13044000 ≤ 13043999 = ((keeps 0 (lit< tt)).within 0 no_crossing (lit< tt)).earliest in
    absurd (omega arith)

not_so_late : ¬ Keeps links paced (long_at 13844001)
not_so_late keeps =
    let late : 13844001 ≤ 13844000 = ((keeps 0 (lit< tt)).within 0 no_crossing (lit< tt)).latest in
    absurd (omega arith)

long : LongHavePaces
long = record {
  least = run_by frame_key least_wait paced (long_at 13044000) refl refl refl;
  greatest = run_by late_key greatest_wait paced (long_at 13844000) refl refl refl;
  drawn = run_by (mixed_key 7) (drawn_wait 7) paced (long_at 13044007) refl refl refl;
  not_least = not_least;
  not_greatest = not_greatest;
  not_drawn = not_drawn;
  early = record { broken = not_so_early; others = others_by links paced (long_at 13043999) refl };
  late = record { broken = not_so_late; others = others_by links paced (long_at 13844001) refl };
}

not_behind : ¬ IsRunBy (mixed_key 800000) (drawn_wait 800000) paced (behind_long 13844002)
not_behind h =
    let due : ◌≡◌ {A = ℕ} 13844002 13844001 = h.pace 0 (lit< tt) 1 no_crossing (lit< tt) in
    absurd (omega arith)

not_together : ¬ Keeps links paced (behind_long 13844000)
not_together keeps =
    let after : 13844000 < 13844000 =
    (keeps 0 (lit< tt)).order 0 no_crossing (lit< tt) 1 no_crossing (lit< tt) (lit< tt) in
    absurd (omega arith)

not_overtaken : ¬ Keeps links paced (behind_long 13716000)
not_overtaken keeps =
    let after : 13844000 < 13716000 =
    (keeps 0 (lit< tt)).order 0 no_crossing (lit< tt) 1 no_crossing (lit< tt) (lit< tt) in
    absurd (omega arith)

after_long : LongKeepOrder
after_long = record {
  behind = run_by (mixed_key 800000) (drawn_wait 800000) paced (behind_long 13844001) refl refl refl;
  not_behind = not_behind;
  together = record { broken = not_together; others = others_by links paced (behind_long 13844000) refl };
  overtaken = record { broken = not_overtaken; others = others_by links paced (behind_long 13716000) refl };
}

late_not_least : ¬ IsRunBy frame_key least_wait paced (late_at 13036000 25372001 136396000)
late_not_least h =
    let due : ◌≡◌ {A = ℕ} 25372001 25372000 = h.pace 0 (lit< tt) 1 no_crossing (lit< tt) in
    absurd (omega arith)

late_not_greatest : ¬ IsRunBy late_key greatest_wait paced (late_at 13836000 26171999 137196000)
late_not_greatest h =
    let due : ◌≡◌ {A = ℕ} 26171999 26172000 = h.pace 0 (lit< tt) 1 no_crossing (lit< tt) in
    absurd (omega arith)

late_not_so_early : ¬ Keeps links paced (late_at 13836000 25371999 137196000)
late_not_so_early keeps =
    let early : 25372000 ≤ 25371999 = ((keeps 0 (lit< tt)).within 1 no_crossing (lit< tt)).earliest in
    absurd (omega arith)

late_not_so_late : ¬ Keeps links paced (late_at 13036000 26172001 136396000)
late_not_so_late keeps =
    let late : 26172001 ≤ 26172000 = ((keeps 0 (lit< tt)).within 1 no_crossing (lit< tt)).latest in
    absurd (omega arith)

late : LateHavePaces
late = record {
  least = run_by frame_key least_wait paced (late_at 13036000 25372000 136396000) refl refl refl;
  greatest = run_by late_key greatest_wait paced (late_at 13836000 26172000 137196000) refl refl refl;
  not_least = late_not_least;
  not_greatest = late_not_greatest;
  early = record {
    broken = late_not_so_early;
    others = others_by links paced (late_at 13836000 25371999 137196000) refl;
  };
  late = record {
    broken = late_not_so_late;
    others = others_by links paced (late_at 13036000 26172001 136396000) refl;
  };
}

late_not_behind : ¬ IsRunBy (mixed_key 800001) (drawn_wait 800001) paced (behind_late 26172002 136396000)
late_not_behind h =
    let due : ◌≡◌ {A = ℕ} 26172002 26172001 = h.pace 0 (lit< tt) 2 no_crossing (lit< tt) in
    absurd (omega arith)

late_not_together : ¬ Keeps links paced (behind_late 26172000 136396000)
late_not_together keeps =
    let after : 26172000 < 26172000 =
    (keeps 0 (lit< tt)).order 1 no_crossing (lit< tt) 2 no_crossing (lit< tt) (lit< tt) in
    absurd (omega arith)

late_not_overtaken : ¬ Keeps links paced (behind_late 26044002 143116000)
late_not_overtaken keeps =
    let after : 26172000 < 26044002 =
    (keeps 0 (lit< tt)).order 1 no_crossing (lit< tt) 2 no_crossing (lit< tt) (lit< tt) in
    absurd (omega arith)

after_late : LateKeepOrder
after_late = record {
  behind = run_by (mixed_key 800001) (drawn_wait 800001) paced (behind_late 26172001 136396000) refl refl refl;
  not_behind = late_not_behind;
  together = record {
    broken = late_not_together;
    others = others_by links paced (behind_late 26172000 136396000) refl;
  };
  overtaken = record {
    broken = late_not_overtaken;
    others = others_by links paced (behind_late 26044002 143116000) refl;
  };
}

pub discarded_keep_paces : DiscardedKeepPaces
discarded_keep_paces = record { long = long; behind_long = after_long; late = late; behind_late = after_late }
