use Rattle.std.proofs.Common.{◌≡◌, ℕ, ◌+◌, ◌-◌, ◌<◌, ◌≤◌, List, length, Some, None, arith, subst, sym}
use Rattle.ats_network.specs.Network.{senders_of}
use Rattle.ats_group.specs.declared.verdict.Verdict.TheVariants.{Eligible, Late, Size}
use Rattle.ats_run_records.specs.Progress.{Progress, progress_at}
use Rattle.ats_engine_steps.specs.Course.{sender_of}
use Rattle.ats_engine_steps.specs.Seen.{course_of}
use Rattle.ats_engine_steps.specs.Steps.{groups_now}
use Rattle.ats_engine_steps.proofs.Entering.{all-entered, entered-next, entered-same, entered-so, no-row, other-row}
use Rattle.ats_engine_steps.proofs.Entering.{rows_to, same-due, there-row}
use Rattle.ats_engine_steps.proofs.LegLemmas.{legs_more}
use Rattle.ats_engine_steps.proofs.steps.come.Goals as goal
use Rattle.ats_engine_steps.proofs.steps.come.Goals.{in-Some, in_default}

pub row_begun-requires : goal.row_begun-requires
row_begun-requires g c =
    let old = course_of {T = g.row.T.Denot} c.args.state.now in
    let course = course_of {T = g.row.T.Denot} c.loop-copy.state in
    let p : Progress = progress_at old.records c.args.row in
    let s = sender_of c.args.net.now p in
    let many : c.sender_legs-copy-end.result ≡ 1 + length s.branches =
    legs_more c.args.net.now c.release-sender.result p.release c.sender_legs-copy-end.result c.release-sender.ensures
    c.sender_legs-copy-end.ensures.value in
    let there : c.loop-copy.copy ≤ length s.branches = omega arith in
    let groups = groups_now c.args.net.now old.groups p c.args.now.at.0 in
    let hop : c.hops-hop.result ≡ length p.hops = c.hops-hop.ensures in
    let so = entered-so c.args.net.now old course groups c.args.now.at.0 c.args.row (c.loop-copy.copy - 1) c.args.now.at
    c.judge-verdict.result c.requires.may_come (omega arith) c.loop-copy.invariant in
    record {
      row = omega (arith, so.rows, c.requires.may_come.may_come.room.within);
      sender = subst (λ (q : Progress). q.release.sender < length (senders_of c.args.net.now)) (sym so.progress)
          c.requires.may_come.may_come.sender;
      frame = subst (λ (q : Progress). q.frame < length course.firsts) (sym so.progress)
          (subst (λ (firsts : List ℕ). p.frame < length firsts) (sym so.firsts) c.requires.may_come.frame);
      copy = (
        c.loop-copy.auto.copy,
        subst (λ (q : Progress).
            c.loop-copy.copy ≤ length (sender_of c.args.net.now q).branches) (sym so.progress) there,
      );
      there = there-row c.args.net.now old course groups c.args.now.at.0 c.args.row c.loop-copy.copy
          c.hops-hop.result c.args.now.at c.judge-verdict.result c.requires.may_come c.loop-copy.auto.copy there
          c.loop-copy.invariant hop;
    }

pub enter-requires-in-Some : goal.enter-requires-in-Some
enter-requires-in-Some g c =
    let old = course_of {T = g.row.T.Denot} c.args.state.now in
    let course = course_of {T = g.row.T.Denot} c.loop-copy.state in
    let p : Progress = progress_at old.records c.args.row in
    let s = sender_of c.args.net.now p in
    let many : c.sender_legs-copy-end.result ≡ 1 + length s.branches =
    legs_more c.args.net.now c.release-sender.result p.release c.sender_legs-copy-end.result c.release-sender.ensures
    c.sender_legs-copy-end.ensures.value in
    let groups = groups_now c.args.net.now old.groups p c.args.now.at.0 in
    let other = other-row c.args.net.now old course groups c.args.now.at.0 c.args.row c.loop-copy.copy
    c.hops-hop.result c.in-Some.other c.args.now.at c.judge-verdict.result c.requires.may_come c.loop-copy.auto.copy
    (omega arith) c.loop-copy.invariant c.hops-hop.ensures c.in-Some.ensures in
    record { stages = other.stages; room = other.room }

pub loop-copy-preserved : goal.loop-copy-preserved
loop-copy-preserved g c =
    let old = course_of {T = g.row.T.Denot} c.args.state.now in
    let course = course_of {T = g.row.T.Denot} c.loop-copy.state in
    let p : Progress = progress_at old.records c.args.row in
    let s = sender_of c.args.net.now p in
    let many : c.sender_legs-copy-end.result ≡ 1 + length s.branches =
    legs_more c.args.net.now c.release-sender.result p.release c.sender_legs-copy-end.result c.release-sender.ensures
    c.sender_legs-copy-end.ensures.value in
    let there : c.loop-copy.copy ≤ length s.branches = omega arith in
    let groups = groups_now c.args.net.now old.groups p c.args.now.at.0 in
    let hop : c.hops-hop.result ≡ length p.hops = c.hops-hop.ensures in
    let rows = rows_to c.args.net.now old.firsts c.args.row p (length p.hops) (c.loop-copy.copy - 1) in
    let next = rows_to c.args.net.now old.firsts c.args.row p (length p.hops) (c.loop-copy.copy + 1 - 1) in
    elim c.match-row_begun.branch [
      | in-Some w ↦
          (let other = other-row c.args.net.now old course groups c.args.now.at.0 c.args.row c.loop-copy.copy
          c.hops-hop.result w.in-Some.other c.args.now.at c.judge-verdict.result c.requires.may_come
          c.loop-copy.auto.copy there c.loop-copy.invariant hop w.in-Some.ensures in
          entered-next {T = g.row.T.Denot} old course w.enter-in-Some.new.state c.match-row_begun.state groups rows next
          w.in-Some.other c.args.now.at c.judge-verdict.result w.state-is c.loop-copy.invariant other.apart
          w.enter-in-Some.ensures other.rows)
      | in_default w ↦
          (let same = no-row c.args.net.now old course groups c.args.now.at.0 c.args.row c.loop-copy.copy
          c.hops-hop.result c.row_begun.result c.args.now.at c.judge-verdict.result c.requires.may_come
          c.loop-copy.auto.copy there c.loop-copy.invariant hop c.row_begun.ensures w.in_default.not-Some in
          entered-same {T = g.row.T.Denot} old c.loop-copy.state c.match-row_begun.state groups rows next c.args.now.at
          c.judge-verdict.result w.state-is c.loop-copy.invariant same)
    ]

pub returns-in-Eligible : goal.returns-in-Eligible
returns-in-Eligible g c =
    let old = course_of {T = g.row.T.Denot} c.args.state.now in
    let course = course_of {T = g.row.T.Denot} c.loop-copy.state in
    let p : Progress = progress_at old.records c.args.row in
    let s = sender_of c.args.net.now p in
    let many : c.sender_legs-copy-end.result ≡ 1 + length s.branches =
    legs_more c.args.net.now c.release-sender.result p.release c.sender_legs-copy-end.result c.release-sender.ensures
    c.sender_legs-copy-end.ensures.value in
    let all : c.loop-copy.copy ≤ c.sender_legs-copy-end.result = c.loop-copy.auto.copy-end (omega arith) in
    all-entered c.args.net.now old course c.args.now c.args.row (c.loop-copy.copy - 1) c.judge-verdict.result
    (Some c.in-Eligible.at) c.judge-verdict.ensures.verdict (omega arith) c.loop-copy.invariant
    (same-due c.judge-verdict.result (Eligible c.in-Eligible.at) c.in-Eligible.is)

pub returns-in-Late : goal.returns-in-Late
returns-in-Late g c =
    let old = course_of {T = g.row.T.Denot} c.args.state.now in
    let course = course_of {T = g.row.T.Denot} c.loop-copy.state in
    let p : Progress = progress_at old.records c.args.row in
    let s = sender_of c.args.net.now p in
    let many : c.sender_legs-copy-end.result ≡ 1 + length s.branches =
    legs_more c.args.net.now c.release-sender.result p.release c.sender_legs-copy-end.result c.release-sender.ensures
    c.sender_legs-copy-end.ensures.value in
    let all : c.loop-copy.copy ≤ c.sender_legs-copy-end.result = c.loop-copy.auto.copy-end (omega arith) in
    all-entered c.args.net.now old course c.args.now c.args.row (c.loop-copy.copy - 1) c.judge-verdict.result
    None c.judge-verdict.ensures.verdict (omega arith) c.loop-copy.invariant
    (same-due c.judge-verdict.result (Late c.in-Late.field-0) c.in-Late.is)

pub returns-in-Size : goal.returns-in-Size
returns-in-Size g c =
    let old = course_of {T = g.row.T.Denot} c.args.state.now in
    let course = course_of {T = g.row.T.Denot} c.loop-copy.state in
    let p : Progress = progress_at old.records c.args.row in
    let s = sender_of c.args.net.now p in
    let many : c.sender_legs-copy-end.result ≡ 1 + length s.branches =
    legs_more c.args.net.now c.release-sender.result p.release c.sender_legs-copy-end.result c.release-sender.ensures
    c.sender_legs-copy-end.ensures.value in
    let all : c.loop-copy.copy ≤ c.sender_legs-copy-end.result = c.loop-copy.auto.copy-end (omega arith) in
    all-entered c.args.net.now old course c.args.now c.args.row (c.loop-copy.copy - 1) c.judge-verdict.result
    None c.judge-verdict.ensures.verdict (omega arith) c.loop-copy.invariant
    (same-due c.judge-verdict.result Size c.in-Size.is)
