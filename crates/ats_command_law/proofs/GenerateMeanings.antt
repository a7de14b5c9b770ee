-- What the answers to `generate` mean.
use Rattle.std.proofs.Common.{◌≡◌, ℕ, zero, suc, ◌<◌, List, length, Option, Some, None, Result, Ok, Err, refl, sym, ap}
use Rattle.std.proofs.Common.{subst, ◌∙◌, arith}
use Rattle.std.specs.Prelude.{◌==◌, MatchResult, if◌then◌else◌}
use Rattle.std.proofs.lemmas.Option.{slice_get_within}
use Rattle.ats_network.specs.Network.{DeclaredNetwork, IsNetwork}
use Rattle.ats_bound.specs.Least.{least_certificate}
use Rattle.ats_bound.proofs.LeastHolds.{least_certificate_holds}
use Rattle.ats_bound.proofs.NoneHolds.{no_reason_held}
use Rattle.ats_soundness_law.proofs.TrueTime.{certificate_is_sound, sound_in_true_time}
use Rattle.ats_checker.proofs.InTime.{holding_is_in_time, in_time_in_true_time}
use Rattle.ats_trace.specs.Journey.{Travel}
use Rattle.ats_trace.specs.Run as runs
use Rattle.ats_trace.specs.Talker.{talker_of, KeepsBuckets}
use Rattle.ats_trace.specs.declared.journey.Release.{Release}
use Rattle.ats_conform.specs.Releases.{AllKeepBuckets}
use Rattle.ats_gen.specs.Made.{AreMade, gen_fault}
use Rattle.ats_gen.specs.declared.fault.GenFault.{GenFault}
use Rattle.ats_gen.specs.declared.fault.GenFault.TheVariants.{NoStream}
use Rattle.ats_gen.proofs.Sorted.{made-keeps}
use Rattle.ats_gen.proofs.Streams.{streams-ruled}
use Rattle.ats_num.specs.Failure.{◌>>=◌}
use Rattle.ats_command_input.specs.Answer.{Answer}
use Rattle.ats_command_input.specs.Input.{network_in}
use Rattle.ats_command_input.specs.declared.order.Order.TheVariants.{Early}
use Rattle.ats_command_due.specs.Generated.{IsGenerated, generated_in, made_for, network_unless}
use Rattle.ats_command_due.specs.Replayed.{IsOneOf, IsRunIn}
use Rattle.ats_command_law.proofs.Meanings.{IsInput, network_gives, none_declared}
use Rattle.ats_command_law.proofs.WorstBound.{printed_worst_is_within}
use Rattle.ats_command_law.specs.GenerateMeaning.{AreWithinLeast, GenerateMeans, GenerateSays}

-- where releases are made, there is a stream
some_stream : (n : ℕ) (rest : Option GenFault) → (if n == 0 then Some NoStream else rest) ≡ None → 0 < n
some_stream zero rest h = cc
some_stream (suc n) rest h = omega arith

-- by releases that are made every node keeps its buckets
made_keep : (network : DeclaredNetwork) (seed count : ℕ) (releases : List Release) → IsNetwork network
    → gen_fault network seed count ≡ None → AreMade network seed count releases → AllKeepBuckets network releases
made_keep network seed count releases rules none made =
    made-keeps network seed count releases (streams-ruled network rules)
    (some_stream (length network.streams) _ none) made

-- in a run with releases by which every node keeps its buckets, each delay is within the least bounds
within_least : (network : DeclaredNetwork) (releases : List Release) (run : List Travel) → IsNetwork network
    → AllKeepBuckets network releases → IsRunIn Early network releases run → AreWithinLeast network run
within_least network releases run rules keeps is (rows, held) journey there stream named =
    let none = no_reason_held network rows rules held in
    let holds = (least_certificate_holds network rules none).holds in
    let legal = is.by_order.legal in
    let kept : (node : ℕ) → KeepsBuckets network (runs.releases_of run) node =
    λ node. subst (λ (rs : List Release). KeepsBuckets network rs node) (sym is.exactly) (keeps node) in
    record {
      served = λ m within. (sound_in_true_time network (least_certificate network) rules
          (certificate_is_sound network (least_certificate network) rules holds)).served run legal journey there
          (slice_get_within network.streams journey.release.sender stream named)
          (kept (talker_of network journey.release.sender)) m within (λ k d h bridge. kept _);
      in_time = λ m within. in_time_in_true_time network (least_certificate network) rules
          (holding_is_in_time network (least_certificate network) rules holds) run legal journey there stream named
          (kept (talker_of network journey.release.sender)) m within (λ k d h bridge. kept _);
    }

-- where the file declares a network
made_say : (net bytes : List ℕ) (seed count : ℕ) (network : DeclaredNetwork) (fault : Option GenFault)
    (answer : Answer) → network_in net bytes ≡ Ok network → IsNetwork network
    → gen_fault network seed count ≡ fault
    → IsOneOf (IsGenerated seed count) (network_unless network fault) answer
    → GenerateSays net bytes seed count answer.text answer.status
made_say net bytes seed count network None answer declared rules none one =
    let keeps : AllKeepBuckets network one.1.0 =
    made_keep network seed count one.1.0 rules none one.1.1 in
    subst (GenerateSays net bytes seed count answer.text) (sym one.0) (
      network,
      one.1.0,
      one.1.2.0,
      record {
        declared = declared;
        rules = rules;
        made = one.1.1;
        keeps = keeps;
        report = one.1.2.1;
        within = within_least network one.1.0 one.1.2.0 rules keeps one.1.2.1.is_run;
        worst = printed_worst_is_within network one.1.2.0 rules one.1.2.1.is_run.by_order.legal
            (subst (AllKeepBuckets network) (sym one.1.2.1.is_run.exactly) keeps);
      },
    )
made_say net bytes seed count network (Some fault) answer declared rules is one =
    subst (λ (a : Answer). GenerateSays net bytes seed count a.text a.status) (sym one) (
      network,
      fault,
      record { declared = declared; rules = rules; none_made = is; written = refl },
    )

generate_says : (net bytes : List ℕ) (seed count : ℕ) (declared : Result DeclaredNetwork Answer) (answer : Answer)
    → network_in net bytes ≡ declared → MatchResult declared IsNetwork IsInput
    → IsOneOf (IsGenerated seed count) (declared >>= made_for seed count) answer
    → GenerateSays net bytes seed count answer.text answer.status
unfolding made_for
generate_says net bytes seed count (Ok network) answer is rules one =
    made_say net bytes seed count network (gen_fault network seed count) answer is rules refl one
generate_says net bytes seed count (Err due) answer is input one =
    subst (GenerateSays net bytes seed count answer.text) (sym (ap (λ (a : Answer). a.status) one ∙ input))
    (none_declared (network_in net bytes) due is)

pub generate_means : GenerateMeans
unfolding generated_in
generate_means net bytes seed count answer one =
    generate_says net bytes seed count (network_in net bytes) answer refl (network_gives net bytes) one
