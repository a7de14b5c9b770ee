-- When a stream is taken out, no least wait, no least bound and no sum of them rises, so no reason comes.
use Rattle.std.proofs.Common.{◌≡◌, ℕ, ◌+◌, ◌-◌, ◌*◌, ◌≤◌, true, List, get_or, None, ap, inl, inr, arith}
use Rattle.std.specs.List.{All}
use Rattle.std.proofs.lemmas.Bool.{cases_Bool}
use Rattle.std.proofs.lemmas.List.Elements.{All-map}
use Rattle.std.proofs.lemmas.List.Sums.{sum_by-le-sum_by}
use Rattle.ats_facts.proofs.Options.{option_or-none}
use Rattle.ats_num.specs.declared.time.TheConstants.{PS_PER_SECOND}
use Rattle.ats_topology.specs.Port.{port_at}
use Rattle.ats_topology.specs.declared.port.Port.{Port}
use Rattle.ats_streams.specs.Branches.{routes_of}
use Rattle.ats_streams.specs.Stream.{DeclaredStream}
use Rattle.ats_network.specs.Sender.{Sender, stream_sender}
use Rattle.ats_network.specs.Class.{class_at}
use Rattle.ats_network.specs.Network.{DeclaredNetwork, IsNetwork}
use Rattle.ats_network.specs.Residence.{residence_after}
use Rattle.ats_certificate.specs.PortSums.{PortSums, port_sums, is_used}
use Rattle.ats_certificate.specs.Certificate.{IsInTime, bound_at, bound_of_hop, bound_on}
use Rattle.ats_certificate.specs.Used.{places_of}
use Rattle.ats_certificate.specs.declared.row.Row.{Row}
use Rattle.ats_tally.proofs.NeedParts.{need_grows}
use Rattle.ats_tally.specs.Reason.{first_some, overstay, row_need, late}
use Rattle.ats_tally.proofs.Lists.{first_some-none, none_first}
use Rattle.ats_tally.proofs.Places.{is_place, places_used}
use Rattle.ats_tally.proofs.Reasons.{by_stay, by_time, in_time_from}
use Rattle.ats_bound.specs.Least.{least_row, least_certificate}
use Rattle.ats_bound.specs.Reason.{load_at, overload, reason_of}
use Rattle.ats_bound.proofs.FoundReason.{each_fits}
use Rattle.ats_bound.proofs.LeastHolds.{least_certificate_holds}
use Rattle.ats_bound.proofs.NoneHolds.{reason_of-none, no_reason_held}
use Rattle.ats_bound.proofs.Reasons.{overload-none}
use Rattle.ats_bound.proofs.Waits.{Fits, least_wait-is}
use Rattle.ats_admission_law.specs.Laws.{Falls, LessHasNoReason, LessHolds, NoSumRises, NothingRises}
use Rattle.ats_admission_law.proofs.Falls.{IsLeft, is_left}
use Rattle.ats_admission_law.proofs.LeastRows.{bound_used, bound_unused, may_stay}
use Rattle.ats_admission_law.proofs.Lists.{all_less}
use Rattle.ats_admission_law.proofs.Networks.{Parts, less, more, parts_of, by_parts, less_is, less_is_network}
use Rattle.ats_admission_law.proofs.PortFalls.{SumsFall, still_used, port_falls}

module _ (p : Parts) (x : DeclaredStream) (is : IsNetwork (more p x)) where
  -- at a port and class that some of the others uses
  pub falls_at : (port class : ℕ) → Fits (more p x) port class → is_used (less p) port class ≡ true
      → Falls (more p x) (less p) (port, class)
  falls_at port class fits used =
      let link : Port = port_at p.topology.ports port in
      let m : ℕ = PS_PER_SECOND in
      let ps : ℕ = link.ps_per_bit in
      let old : PortSums = port_sums (more p x) port class in
      let new : PortSums = port_sums (less p) port class in
      let w : ℕ = (least_row (more p x) (port, class)).wait in
      let f : SumsFall old new = port_falls p x port class is used in
      let used_old : is_used (more p x) port class ≡ true = still_used p x port class used in
      let at_old = is_place (more p x) port class is used_old in
      let at_new = is_place (less p) port class (less_is p x is) used in
      let fits_new : Fits (less p) port class = omega (arith, fits, f.higher, f.equal) in
      let c_old = least_wait-is (more p x) port class at_old fits in
      let c_new = least_wait-is (less p) port class at_new fits_new in
      let l : IsLeft m ps new.lower new.bursts old.least new.least (m - new.higher) w =
      is_left m ps old.lower new.lower old.bursts new.bursts old.least new.least (m - old.higher) (m - new.higher) w
      (omega arith) (omega (arith, f.higher)) (omega arith) f.lower f.bursts f.least f.covered c_old.reaches in
      let shorter : (least_row (less p) (port, class)).wait ≤ w - ps * (new.least - old.least) =
      c_new.least (w - ps * (new.least - old.least)) l.enough in
      let longer : new.least ≡ old.least + (new.least - old.least) = omega (arith, f.least) in
      let sent : ps * new.least ≡ ps * (old.least + (new.least - old.least)) =
      ap (λ (n : ℕ). ps * n) longer in
      record {
        used = used_old;
        load = omega (arith, f.higher, f.equal);
        wait = omega (arith, shorter);
        bound = omega (arith, shorter, sent, l.within);
      }

  pub fits_all : reason_of (more p x) ≡ None → (port class : ℕ) → is_used (less p) port class ≡ true
      → Fits (more p x) port class
  fits_all none port class used =
      let first = option_or-none (first_some (overload (more p x)) (places_of (more p x))) _ none in
      each_fits (more p x) is first.0 port class (still_used p x port class used)

  bound_falls : reason_of (more p x) ≡ None → (port class : ℕ)
      → bound_at (least_certificate (less p)) port class ≤ bound_at (least_certificate (more p x)) port class
  bound_falls none port class =
      elim (cases_Bool (is_used (less p) port class)) as (λ _.
      bound_at (least_certificate (less p)) port class ≤ bound_at (least_certificate (more p x)) port class) [
        | inl used ↦ (
            let f : Falls (more p x) (less p) (port, class) =
            falls_at port class (fits_all none port class used) used in
            let mine = bound_used (less p) port class (less_is p x is) used in
            let theirs = bound_used (more p x) port class is f.used in
            omega (arith, f.bound, mine, theirs))
        | inr unused ↦ (let zero = bound_unused (less p) port class unused in omega (arith, zero))
      ]

  pub sum_falls : reason_of (more p x) ≡ None → (s : DeclaredStream) (route : List ℕ)
      → bound_on (least_certificate (less p)) s route ≤ bound_on (least_certificate (more p x)) s route
  sum_falls none s route =
      let sender : Sender = stream_sender s in
      sum_by-le-sum_by (bound_of_hop (least_certificate (less p)) sender)
      (bound_of_hop (least_certificate (more p x)) sender) route
      (λ port. bound_falls none port (class_at sender port))

  -- a stream that is in time stays so
  time_stays : reason_of (more p x) ≡ None → (s : DeclaredStream) → IsInTime (least_certificate (more p x)) s
      → IsInTime (least_certificate (less p)) s
  time_stays none s time k d h =
      let route : List ℕ = get_or (routes_of s.ports s.branches) k d in
      omega (arith, time k d h, sum_falls none s route)

  -- the searches over the others find nothing
  no_loads : reason_of (more p x) ≡ None → first_some (overload (less p)) (places_of (less p)) ≡ None
  no_loads none = first_some-none (overload (less p)) (places_of (less p)) (λ k d h. (
      let at = get_or (places_of (less p)) k d in
      let used : is_used (less p) at.0 at.1 ≡ true = places_used (less p) k d h in
      let fits : Fits (more p x) at.0 at.1 = fits_all none at.0 at.1 used in
      let f : Falls (more p x) (less p) (at.0, at.1) = falls_at at.0 at.1 fits used in
      overload-none (less p) at.0 at.1 (omega (arith, f.load, fits))))

  no_stays : reason_of (more p x) ≡ None → first_some (overstay (less p)) (least_certificate (less p)) ≡ None
  no_stays none =
      let first = option_or-none (first_some (overload (more p x)) (places_of (more p x))) _ none in
      let second =
      option_or-none (first_some (overstay (more p x)) (least_certificate (more p x))) _ first.1 in
      first_some-none (overstay (less p)) (least_certificate (less p))
      (All-map (λ (row : Row). overstay (less p) row ≡ None) (least_row (less p)) (places_of (less p)) (λ k d h. (
      let at = get_or (places_of (less p)) k d in
      let used : is_used (less p) at.0 at.1 ≡ true = places_used (less p) k d h in
      let f : Falls (more p x) (less p) (at.0, at.1) = falls_at at.0 at.1 (fits_all none at.0 at.1 used) used in
      let row : Row = least_row (less p) at in
      by_stay row (row_need (less p) row) (residence_after p.topology at.0)
      (λ ns residence. (
      let stay = may_stay (more p x) at.0 at.1 is second.0 f.used ns residence in
      let grows = need_grows (more p x) at.0 row.wait (least_row (more p x) (at.0, at.1)).wait f.wait in
      omega (arith, stay, grows))))))

  no_lates : reason_of (more p x) ≡ None
      → first_some (late p.topology (least_certificate (less p))) (less p).streams ≡ None
  no_lates none =
      let first = option_or-none (first_some (overload (more p x)) (places_of (more p x))) _ none in
      let second =
      option_or-none (first_some (overstay (more p x)) (least_certificate (more p x))) _ first.1 in
      let Quiet : DeclaredStream → Type 0 =
      λ (s : DeclaredStream). late p.topology (least_certificate (more p x)) s ≡ None in
      let times : All Quiet (less p).streams = all_less Quiet p.front x p.back
      (none_first (late p.topology (least_certificate (more p x))) (more p x).streams second.1) in
      first_some-none (late p.topology (least_certificate (less p))) (less p).streams (λ k d h. (
      let s : DeclaredStream = get_or (less p).streams k d in
      by_time p.topology (least_certificate (less p)) s
      (time_stays none s (in_time_from p.topology (least_certificate (more p x)) s (times k d h)))))

  pub no_reason_less : reason_of (more p x) ≡ None → reason_of (less p) ≡ None
  no_reason_less none = reason_of-none (less p) (no_loads none) (no_stays none) (no_lates none)

-- the laws
pub nothing_rises : NothingRises
nothing_rises old new x port class is =
    by_parts (λ (o n : DeclaredNetwork). IsNetwork o → load_at o (port, class) ≤ PS_PER_SECOND
    → is_used n port class ≡ true → Falls o n (port, class)) old new x is
    (λ rules fits used. falls_at (parts_of old new x is) x rules port class fits used)

pub no_sum_rises : NoSumRises
no_sum_rises old new x s route is =
    by_parts (λ (o n : DeclaredNetwork). IsNetwork o → reason_of o ≡ None
    → bound_on (least_certificate n) s route ≤ bound_on (least_certificate o) s route) old new x is
    (λ rules none. sum_falls (parts_of old new x is) x rules none s route)

pub less_has_no_reason : LessHasNoReason
less_has_no_reason old new x is =
    by_parts (λ (o n : DeclaredNetwork). IsNetwork o → reason_of o ≡ None → reason_of n ≡ None) old new x is
    (λ rules none. no_reason_less (parts_of old new x is) x rules none)

pub less_holds : LessHolds
less_holds old new x rows is rules holds =
    (least_certificate_holds new (less_is_network old new x is rules)
    (less_has_no_reason old new x is rules (no_reason_held old rows rules holds))).holds
