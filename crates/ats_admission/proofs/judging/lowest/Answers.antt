use Rattle.std.proofs.Common.{◌≡◌, ◌-◌, sym, ap, ◌∙◌, arith}
use Rattle.std.proofs.lemmas.List.{length-set}
use Rattle.ats_network.specs.Edits.{with_class_at}
use Rattle.ats_network.specs.Network.{DeclaredNetwork}
use Rattle.ats_bound.specs.Reason.{reason_of}
use Rattle.ats_admission_state.specs.Judged.{sum_at}
use Rattle.ats_admission.specs.Judged.{no_class}
use Rattle.ats_admission.specs.Sessions.{IsPending}
use Rattle.ats_admission.proofs.Classed.{same_classed}
use Rattle.ats_admission.proofs.Judgements.{IsFree, judged_err, judged_ok}
use Rattle.ats_admission.proofs.Lowest.{first_given, none_given, refused_more}
use Rattle.ats_admission.proofs.Pending.{set_waits, still_waits}
use Rattle.ats_admission.proofs.judging.lowest.Goals as goal

pub judge-requires-clause-beside : goal.judge-requires-clause-beside
judge-requires-clause-beside c =
    (set_waits c.args.stream c.loop-class.class c.loop-class.network c.set_class.new.self c.loop-class.kept
    c.loop-class.invariant.pending c.set_class.ensures).beside

pub returns-in-Ok-clause-given : goal.returns-in-Ok-clause-given
returns-in-Ok-clause-given c =
    let n = c.args.stream in
    let class = c.loop-class.class in
    let at : c.set_class.new.self ≡ with_class_at c.args.network.now n class =
    c.set_class.ensures ∙ c.loop-class.invariant.same.classed class in
    let is : IsFree c.set_class.new.self n c.in-Ok.sum =
    judged_ok c.set_class.new.self n c.in-Ok.sum c.in-Ok.ensures.answer in
    let free : reason_of (with_class_at c.args.network.now n class) ≡ _ = ap reason_of (sym at) ∙ is.free in
    record {
      lowest = first_given c.args.network.now n class c.loop-class.reasons c.loop-class.invariant.refused
          c.loop-class.auto.class (omega (arith, c.loop-class-test.true)) free;
      is_class = record {
        least = c.loop-class.auto.class;
        most = omega (arith, c.loop-class-test.true);
      };
      free = free;
      sum_is = is.sum_is ∙ ap (λ (t : DeclaredNetwork). sum_at t n) at;
    }

pub loop-class-preserved : goal.loop-class-preserved
loop-class-preserved c =
    let told = rw c.in-Err-Fault.field-0-is at c.in-Err-Fault.ensures.answer in
    let n = c.args.stream in
    let class = c.loop-class.class in
    let at : c.set_class.new.self ≡ with_class_at c.args.network.now n class =
    c.set_class.ensures ∙ c.loop-class.invariant.same.classed class in
    let waits : IsPending c.set_class.new.self n c.loop-class.kept =
    set_waits n class c.loop-class.network c.set_class.new.self c.loop-class.kept c.loop-class.invariant.pending
    c.set_class.ensures in
    record {
      same = same_classed n class c.args.network.now c.loop-class.network c.set_class.new.self
          (omega (arith, c.requires.last)) c.loop-class.invariant.same c.set_class.ensures;
      pending =
          still_waits n c.set_class.new.self c.loop-class.kept c.judge.new.self waits c.in-Err-Fault.ensures.err;
      refused = refused_more c.args.network.now n class c.in-Err-Fault.reason c.loop-class.reasons
          c.loop-class.auto.class
          (omega (arith, c.loop-class.auto.class, c.loop-class-test.true, c.loop-class.invariant.long))
          c.loop-class.invariant.refused
          (ap reason_of (sym at) ∙ judged_err c.set_class.new.self n c.in-Err-Fault.reason told);
      long = length-set c.loop-class.reasons (class - 1) c.in-Err-Fault.reason ∙ c.loop-class.invariant.long;
    }

pub returns-clause-none : goal.returns-clause-none
returns-clause-none c =
    ap no_class (none_given c.args.network.now c.args.stream c.loop-class.reasons c.loop-class.invariant.long
    (λ class d least less. c.loop-class.invariant.refused class d least
    (omega (arith, less, c.loop-class-test.false))))

pub returns-in-Err-NoMemory-clause-others : goal.returns-in-Err-NoMemory-clause-others
returns-in-Err-NoMemory-clause-others c =
    same_classed c.args.stream c.loop-class.class c.args.network.now c.loop-class.network c.set_class.new.self
    (omega (arith, c.requires.last)) c.loop-class.invariant.same c.set_class.ensures

pub returns-in-Err-NoMemory-clause-pending : goal.returns-in-Err-NoMemory-clause-pending
returns-in-Err-NoMemory-clause-pending c =
    still_waits c.args.stream c.set_class.new.self c.loop-class.kept c.judge.new.self
    (set_waits c.args.stream c.loop-class.class c.loop-class.network c.set_class.new.self c.loop-class.kept
    c.loop-class.invariant.pending c.set_class.ensures) c.in-Err-NoMemory.ensures.err
