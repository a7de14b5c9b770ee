-- What words say that laws conclude of the bytes of files and of texts, on the files of the worked calls.
use Rattle.std.proofs.Common.{◌≡◌, ℕ, false, true, List, [], ◌∷◌, length, Result, Ok, Err, refl, sym, ap, subst}
use Rattle.std.proofs.Common.{◌∙◌, arith}
use Rattle.std.specs.Prelude.{codes, IsErr, is_err}
use Rattle.std.proofs.lemmas.Bool.{false≢true}
use Rattle.std.proofs.lemmas.List.Sorted.{length_permutation}
use Rattle.ats_network.specs.Network.{DeclaredNetwork}
use Rattle.ats_trace.specs.declared.journey.Release.{Release}
use Rattle.ats_conform.specs.Releases.{AllKeepBuckets}
use Rattle.ats_gen.specs.Made.{AreMade, made}
use Rattle.ats_certificate.specs.Certificate.{Holds}
use Rattle.ats_certificate.specs.declared.row.Row.{Row}
use Rattle.ats_certificate_file.specs.Text.{certificate_text}
use Rattle.ats_tally.specs.declared.reason.Reason.{Reason}
use Rattle.ats_bound.specs.First.{IsFirstReason}
use Rattle.ats_bound.specs.Least.{least_certificate}
use Rattle.ats_bound.proofs.FirstReason.{first_reason_is_one}
use Rattle.ats_checker.specs.declared.refusal.Refusal.{Refusal}
use Rattle.ats_verdict_text.specs.Text.{accepted_text, reason_text, refused_text}
use Rattle.ats_command_input.specs.Answer.{Answer}
use Rattle.ats_command_input.specs.Input.{network_in, releases_in, rows_in}
use Rattle.ats_command_input.specs.declared.order.Order.TheVariants.{Early}
use Rattle.ats_command_input.specs.declared.status.Status.TheVariants.{Done, Input}
use Rattle.ats_command_input.specs.declared.status.Status.TheVariants as status
use Rattle.ats_command_due.specs.Replayed.{Scheduled, scheduled_in}
use Rattle.ats_command_law.specs.ConformMeaning.{ConformSays}
use Rattle.ats_command_law.specs.Meaning.{BoundSays, CheckSays, HasNone, IsAccepted, IsBounded, IsRefused}
use Rattle.ats_command_law.proofs.ConformBounds.{conform_keeps_bounds}
use Rattle.ats_command_law.proofs.ConformMeanings.{conform_means}
use Rattle.ats_command_law.proofs.GenerateMeanings.{generate_means}
use Rattle.ats_command_law.proofs.Meanings.{bound_means, check_means}
use Rattle.ats_command_law.proofs.ReleasesBounds.{scheduled_by}
use Rattle.ats_command_law.proofs.ReplayMeanings.{replay_keeps_bounds}
use Rattle.ats_call_examples.specs.Files.{done_with, faulty_with, late, long_schedule, network, no_text, refused_with}
use Rattle.ats_call_examples.specs.Files.{rows, schedule, short_rows, told}
use Rattle.ats_call_examples.specs.Judged.{accepted}
use Rattle.ats_call_examples.specs.Run.{departures}
use Rattle.ats_call_examples.proofs.Conformed.{conform_is_answered}
use Rattle.ats_call_examples.proofs.JudgedByOne.{bound_is_answered}
use Rattle.ats_call_examples.proofs.JudgedByTwo.{check_is_answered}
use Rattle.ats_call_examples.proofs.Line.{no_network}
use Rattle.ats_call_examples.proofs.Made.{generate_is_answered}
use Rattle.ats_call_examples.proofs.Replayed.{bounds_are_met}
use Rattle.ats_call_examples.proofs.Scheduled.{no_schedule}
use Rattle.ats_answer_examples.specs.Printed.{BoundIsTold, MadeRunsAreTold, TextsAreShown, TextsAreTold}
use Rattle.ats_answer_examples.specs.Printed.{TextsOf, TextsWithin, reported}

-- what is declared is declared once, and is no fault
once : {A E : Type 0} (declared : Result A E) (one other : A) → declared ≡ Ok one → declared ≡ Ok other → one ≡ other
once {A} {E} declared one other is that = cc

no_fault : {A E : Type 0} (declared : Result A E) (one : A) (fault : E) → declared ≡ Ok one → declared ≡ Err fault → ⊥
no_fault {A} {E} declared one fault is that =
    false≢true (sym (ap (λ (r : Result A E). is_err r) is) ∙ ap (λ (r : Result A E). is_err r) that)

-- a text has a first byte, or none
abbrev front : List ℕ → ℕ
front [] = 0
front (c ∷ text) = 1

-- rows that two files declare are declared once
rows_once : (net certificate net_bytes certificate_bytes : List ℕ) (n m : DeclaredNetwork) (given others : List Row)
    → network_in net net_bytes ≡ Ok n → rows_in n.topology certificate certificate_bytes ≡ Ok given
    → network_in net net_bytes ≡ Ok m → rows_in m.topology certificate certificate_bytes ≡ Ok others
    → (n ≡ m) × (given ≡ others)
rows_once net certificate net_bytes certificate_bytes n m given others n_is given_are m_is others_are =
    let same : n ≡ m = once (network_in net net_bytes) n m n_is m_is in (
      same,
      once (rows_in m.topology certificate certificate_bytes) given others
          (subst (λ (k : DeclaredNetwork). rows_in k.topology certificate certificate_bytes ≡ Ok given) same given_are)
          others_are,
    )

-- so are bounds
accepted_once : (net certificate net_bytes certificate_bytes text other : List ℕ) (n m : DeclaredNetwork)
    (given others : List Row) → IsAccepted net certificate net_bytes certificate_bytes text n given
    → IsAccepted net certificate net_bytes certificate_bytes other m others → text ≡ other
accepted_once net certificate net_bytes certificate_bytes text other n m given others is that =
    let both = rows_once net certificate net_bytes certificate_bytes n m given others is.network_declared
    is.rows_declared that.network_declared that.rows_declared in
    is.written ∙ ap (λ (k : DeclaredNetwork). accepted_text k given) both.0
    ∙ ap (λ (r : List Row). accepted_text m r) both.1 ∙ sym that.written

-- rows are accepted or refused
not_both : (net certificate net_bytes certificate_bytes text other : List ℕ) (n m : DeclaredNetwork)
    (given others : List Row) (refusal : Refusal) → IsAccepted net certificate net_bytes certificate_bytes text n given
    → IsRefused net certificate net_bytes certificate_bytes other m others refusal → ⊥
not_both net certificate net_bytes certificate_bytes text other n m given others refusal is that =
    let both = rows_once net certificate net_bytes certificate_bytes n m given others is.network_declared
    is.rows_declared that.network_declared that.rows_declared in
    that.fails (subst (λ (r : List Row). Holds m r) both.1
    (subst (λ (k : DeclaredNetwork). Holds k given) both.0 is.holds))

are_texts : TextsOf (told network rows schedule) accepted departures
are_texts = replay_keeps_bounds (told network rows schedule) (codes "n") (codes "c") (codes "s") Early accepted
    departures bounds_are_met.check bounds_are_met.replay

are_within : TextsWithin (told network rows schedule) accepted departures
are_within = conform_keeps_bounds (told network rows schedule) (codes "n") (codes "c") (codes "s") Early
    (codes "conforms 1\n") accepted departures bounds_are_met.conform bounds_are_met.check bounds_are_met.replay

not_other : (replayed : List ℕ) → ¬ TextsOf (told network rows schedule) [] replayed
not_other replayed are =
    let same : ◌≡◌ {A = List ℕ} [] accepted =
    accepted_once (codes "n") (codes "c") network rows [] accepted are.0 are_texts.0 are.1 are_texts.1
    are.4.accepted are_texts.4.accepted in
    let e : ◌≡◌ {A = ℕ} 0 1 = ap front same in
    absurd (omega arith)

-- what `check` says of rows of which one is 1 ps short
check_refuses : CheckSays (codes "n") (codes "c") network short_rows (codes "refused field s1>b1 6 bound 13836000\n")
    status.Refused
check_refuses = subst (λ (a : Answer). CheckSays (codes "n") (codes "c") network short_rows a.text a.status)
    (sym check_is_answered.refused.answers) (check_means (codes "n") (codes "c") network short_rows)

not_short : (checked replayed : List ℕ) → ¬ TextsOf (told network short_rows schedule) checked replayed
not_short checked replayed are =
    not_both (codes "n") (codes "c") network short_rows checked (codes "refused field s1>b1 6 bound 13836000\n") are.0
    check_refuses.0 are.1 check_refuses.1 check_refuses.2 are.4.accepted check_refuses.3

not_declared : (checked replayed : List ℕ) → ¬ TextsOf (told no_text rows schedule) checked replayed
not_declared checked replayed are =
    no_fault (network_in (codes "n") no_text) are.0 (faulty_with (codes "input n not-toml\n"))
    are.4.accepted.network_declared no_network

not_scheduled : (checked replayed : List ℕ) → ¬ TextsOf (told network rows rows) checked replayed
not_scheduled checked replayed are =
    let both : Scheduled = record { network = are.0; releases = are.2 } in
    no_fault (scheduled_in (codes "n") (codes "s") network rows) both (faulty_with (codes "input s bad-row 1\n"))
    (scheduled_by (codes "n") (codes "s") network rows are.0 are.2 are.4.run_out.network_declared
    are.4.run_out.releases_declared) no_schedule

-- what `conform` says of a frame that is an octet too long
conform_refuses : ConformSays (codes "n") (codes "s") network long_schedule (codes "refused size 0\n") status.Refused
conform_refuses = conform_means (codes "n") (codes "s") network long_schedule (refused_with (codes "refused size 0\n"))
    conform_is_answered.refused.answers

not_kept : (checked replayed : List ℕ) → ¬ TextsWithin (told network rows long_schedule) checked replayed
not_kept checked replayed are =
    let out = are.4.texts.run_out in
    let that = conform_refuses.3 in
    let same : are.0 ≡ conform_refuses.0 =
    once (network_in (codes "n") network) are.0 conform_refuses.0 out.network_declared that.network_declared in
    let released : are.2 ≡ conform_refuses.1 =
    once (releases_in conform_refuses.0 (codes "s") long_schedule) are.2 conform_refuses.1
    (subst (λ (k : DeclaredNetwork). releases_in k (codes "s") long_schedule ≡ Ok are.2) same out.releases_declared)
    that.releases_declared in
    that.not_kept (subst (λ (rs : List Release). AllKeepBuckets conform_refuses.0 rs) released
    (subst (λ (k : DeclaredNetwork). AllKeepBuckets k are.2) same are.4.keeps))

texts : TextsAreTold
texts = record {
  of_talkers = are_texts;
  of_all = are_within;
  not_other = not_other;
  not_short = not_short;
  not_declared = not_declared;
  not_scheduled = not_scheduled;
  not_kept = not_kept;
}

-- one frame that is made is one
one_made : (over : DeclaredNetwork) (releases : List Release) → AreMade over 7 1 releases → length releases ≡ 1
one_made over releases are =
    let many : length releases ≡ length (made over 7 1) = length_permutation (made over 7 1) releases are.same in
    many ∙ refl

made_runs : MadeRunsAreTold
made_runs = record {
  is = generate_means (codes "n") network 7 1 (done_with reported) generate_is_answered.done.answers;
  not_declared = λ text is.
      no_fault (network_in (codes "n") no_text) is.0 (faulty_with (codes "input n not-toml\n")) is.3.declared
      no_network;
  not_unmade = λ text over run is.
      (let e : ◌≡◌ {A = ℕ} 0 1 = one_made over [] is.made in absurd (omega arith));
  not_without = λ text over releases is.
      (let e : ◌≡◌ {A = ℕ} 0 1 =
      ap (λ (rs : List Release). length rs) is.report.is_run.exactly ∙ one_made over releases is.made in
      absurd (omega arith));
}

bound_done : BoundSays (codes "n") network rows Done
bound_done = subst (λ (a : Answer). BoundSays (codes "n") network a.text a.status)
    (sym bound_is_answered.done.answers) (bound_means (codes "n") network)

bound_refused : BoundSays (codes "n") late (codes "refused deadline a 26672000\n") status.Refused
bound_refused = subst (λ (a : Answer). BoundSays (codes "n") late a.text a.status)
    (sym bound_is_answered.refused.answers) (bound_means (codes "n") late)

bound_faulty : BoundSays (codes "n") no_text (codes "input n not-toml\n") Input
bound_faulty = subst (λ (a : Answer). BoundSays (codes "n") no_text a.text a.status)
    (sym bound_is_answered.faulty.answers) (bound_means (codes "n") no_text)

-- a certificate is printed, or a reason, of the network that is declared
bounded_once : (net bytes text other : List ℕ) (n m : DeclaredNetwork) → IsBounded net bytes text n
    → IsBounded net bytes other m → text ≡ other
bounded_once net bytes text other n m is that =
    let same : n ≡ m = once (network_in net bytes) n m is.declared that.declared in
    is.written ∙ ap (λ (k : DeclaredNetwork). certificate_text k.topology (least_certificate k)) same
    ∙ sym that.written

not_bounded : (net bytes text other : List ℕ) (n m : DeclaredNetwork) (reason : Reason) → IsBounded net bytes text n
    → HasNone net bytes other m reason → ⊥
not_bounded net bytes text other n m reason is that =
    let same : n ≡ m = once (network_in net bytes) n m is.declared that.declared in
    that.none_holds (least_certificate m)
    (subst (λ (k : DeclaredNetwork). Holds k (least_certificate k)) same is.holds)

reasons_once : (net bytes text other : List ℕ) (n m : DeclaredNetwork) (reason against : Reason)
    → HasNone net bytes text n reason → HasNone net bytes other m against → text ≡ other
reasons_once net bytes text other n m reason against is that =
    let same : n ≡ m = once (network_in net bytes) n m is.declared that.declared in
    let one : reason ≡ against = first_reason_is_one m reason against that.rules
    (subst (λ (k : DeclaredNetwork). IsFirstReason k reason) same is.first) that.first in
    is.written ∙ ap (λ (k : DeclaredNetwork). refused_text (reason_text k.topology reason)) same
    ∙ ap (λ (r : Reason). refused_text (reason_text m.topology r)) one ∙ sym that.written

not_empty : ¬ BoundSays (codes "n") network [] Done
not_empty says =
    let same : ◌≡◌ {A = List ℕ} [] rows =
    bounded_once (codes "n") network [] rows says.0 bound_done.0 says.1 bound_done.1 in
    let e : ◌≡◌ {A = ℕ} 0 1 = ap front same in
    absurd (omega arith)

not_silent : ¬ BoundSays (codes "n") late [] status.Refused
not_silent says =
    let same : ◌≡◌ {A = List ℕ} [] (codes "refused deadline a 26672000\n") =
    reasons_once (codes "n") late [] (codes "refused deadline a 26672000\n") says.0 bound_refused.0 says.1
    bound_refused.1 says.2 bound_refused.2 in
    let e : ◌≡◌ {A = ℕ} 0 1 = ap front same in
    absurd (omega arith)

-- what is declared has no fault
is_declared : {A E : Type 0} (declared : Result A E) (one : A) → declared ≡ Ok one → IsErr declared → ⊥
is_declared {A} {E} declared one is fault =
    let no : false ≡ true = subst (λ (r : Result A E). is_err r ≡ true) is fault in
    false≢true no

bound : BoundIsTold
bound = record {
  done = bound_done;
  refused = bound_refused;
  input = bound_faulty;
  not_other = not_empty;
  not_refused = λ text says. not_bounded (codes "n") network rows text bound_done.0 says.0 says.1 bound_done.1 says.2;
  not_input = λ text says. is_declared (network_in (codes "n") network) bound_done.0 bound_done.1.declared says;
  not_done = λ text says. not_bounded (codes "n") late text (codes "refused deadline a 26672000\n") says.0
      bound_refused.0 bound_refused.1 says.1 bound_refused.2;
  no_other = not_silent;
  not_declared = λ text says.
      no_fault (network_in (codes "n") no_text) says.0 (faulty_with (codes "input n not-toml\n")) says.1.declared
      no_network;
  not_judged = λ text says.
      no_fault (network_in (codes "n") no_text) says.0 (faulty_with (codes "input n not-toml\n")) says.2.declared
      no_network;
}

pub texts_are_shown : TextsAreShown
texts_are_shown = record { texts = texts; made_runs = made_runs; bound = bound }
