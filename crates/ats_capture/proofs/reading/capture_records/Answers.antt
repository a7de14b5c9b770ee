use Rattle.std.proofs.Common.{◌≡◌, ◌≤◌, ◌+◌, ◌++◌, ℕ, List, length, take, Option, Result, Err, refl, rules, arith, sym}
use Rattle.std.proofs.Common.{ap, ◌∙◌, subst, [], ◌∷◌}
use Rattle.std.specs.Global.{Vec}
use Rattle.ats_io.proofs.Outside.{Continues-refl, Continues-trans}
use Rattle.ats_io.proofs.Turns.{nothing_read, none_read, read_more, read_last}
use Rattle.ats_num.specs.declared.failure.Failure.{Failure}
use Rattle.ats_pcap.specs.declared.record.Record.{Record}
use Rattle.ats_pcap.proofs.Tests.{err_is}
use Rattle.ats_capture.specs.Reading.{GivesUnlessFailed, records_in}
use Rattle.ats_capture.specs.declared.fault.RecordsFault.{RecordsFault}
use Rattle.ats_capture.specs.declared.reading.TheConstants.{MAX_BYTES}
use Rattle.ats_capture.proofs.Kept.{read_long}
use Rattle.ats_capture.proofs.ReadBytes.{Reads, ended_due, fed, joined_front, joined_size, over_due, reads_nothing}
use Rattle.ats_capture.proofs.ReadBytes.{piece_within, refusal_due}
use Rattle.ats_capture.proofs.reading.capture_records.Goals as goal

pub loop-reader-init : goal.loop-reader-init
loop-reader-init g c = record {
  room = c.in_ok-buffer.ensures;
  within = search rules;
  reads = reads_nothing (g.F.Files.told c.args.files.now c.args.name.now) c.new-reader.result c.new-reader.ensures;
  calm = refl;
  continues = Continues-refl c.args.files.now;
  reading = nothing_read c.args.name.now (g.F.Files.reads c.args.files.now);
}

pub returns-in_err-buffer-clause-in_turn : goal.returns-in_err-buffer-clause-in_turn
returns-in_err-buffer-clause-in_turn g c = none_read (c.args.name.now ∷ []) (g.F.Files.reads c.args.files.now)

pub returns-in_err-count-clause-in_turn : goal.returns-in_err-count-clause-in_turn
returns-in_err-count-clause-in_turn g c =
    read_last c.args.name.now c.loop-reader.at c.loop-reader.at (g.F.Files.reads c.args.files.now)
    (g.F.Files.reads c.loop-reader.files) (g.F.Files.reads c.read.new.files) c.read.result
    c.loop-reader.invariant.reading refl c.read.ensures.made

pub returns-then-count-eq0-clause-due : goal.returns-then-count-eq0-clause-due
returns-then-count-eq0-clause-due g c = λ bytes is.
    let now = ap (λ f. f c.args.name.now) c.loop-reader.invariant.continues.holds ∙ is in
    ended_due (g.F.Files.told c.args.files.now c.args.name.now) c.loop-reader.at c.in_ok-count.count
    c.loop-reader.reader bytes c.read.new.buf c.finish.result c.loop-reader.invariant.reads is c.if-count-eq0.true
    c.loop-reader.invariant.within (c.in_ok-count.ensures.piece bytes now) c.finish.ensures.due

pub returns-then-count-eq0-clause-octets : goal.returns-then-count-eq0-clause-octets
returns-then-count-eq0-clause-octets g c =
    let r = c.loop-reader.invariant.reads in
    read_long c.finish.result r.read (c.finish.ensures.due r.read r.stands)

pub returns-then-count-eq0-clause-in_turn : goal.returns-then-count-eq0-clause-in_turn
returns-then-count-eq0-clause-in_turn g c =
    read_last c.args.name.now c.loop-reader.at c.loop-reader.at (g.F.Files.reads c.args.files.now)
    (g.F.Files.reads c.loop-reader.files) (g.F.Files.reads c.read.new.files) c.read.result
    c.loop-reader.invariant.reading refl c.read.ensures.made

pub returns-then-at-eq-MAX_BYTES-clause-due : goal.returns-then-at-eq-MAX_BYTES-clause-due
returns-then-at-eq-MAX_BYTES-clause-due g c = λ bytes is.
    let now = ap (λ f. f c.args.name.now) c.loop-reader.invariant.continues.holds ∙ is in
    over_due (g.F.Files.told c.args.files.now c.args.name.now) c.loop-reader.at c.in_ok-count.count
    c.loop-reader.reader bytes c.read.new.buf c.loop-reader.invariant.reads is (omega arith)
    c.if-at-eq-MAX_BYTES.true (c.in_ok-count.ensures.piece bytes now)

pub returns-then-at-eq-MAX_BYTES-clause-in_turn : goal.returns-then-at-eq-MAX_BYTES-clause-in_turn
returns-then-at-eq-MAX_BYTES-clause-in_turn g c =
    read_last c.args.name.now c.loop-reader.at c.loop-reader.at (g.F.Files.reads c.args.files.now)
    (g.F.Files.reads c.loop-reader.files) (g.F.Files.reads c.read.new.files) c.read.result
    c.loop-reader.invariant.reading refl c.read.ensures.made

pub returns-in_err-feed-clause-due : goal.returns-in_err-feed-clause-due
returns-in_err-feed-clause-due g c = λ bytes is.
    let now = ap (λ f. f c.args.name.now) c.loop-reader.invariant.continues.holds ∙ is in
    let told : Option (List ℕ) = g.F.Files.told c.args.files.now c.args.name.now in
    let r : Reads told c.loop-reader.at c.loop-reader.reader = c.loop-reader.invariant.reads in
    let count : ℕ = c.in_ok-count.count in
    let piece : List ℕ = take count c.read.new.buf in
    let e : Failure RecordsFault = c.in_err-feed.field-0.0 in
    let within : c.loop-reader.at + count ≤ MAX_BYTES =
    piece_within c.loop-reader.at c.in_ok-count.count c.room_at-most.result c.deref_mut.result.now c.read.new.buf
    c.loop-reader.invariant.within c.if-at-eq-MAX_BYTES.false c.room_at-most.ensures.within c.read.auto.buf
    c.in_ok-count.ensures.within in
    let size : c.loop-reader.at + count ≡ length (r.read ++ piece) =
    joined_size told c.loop-reader.at count c.loop-reader.reader r piece c.read.new.buf refl
    c.in_ok-count.ensures.within in
    let due : GivesUnlessFailed (Err e) (records_in bytes) =
    refusal_due e c.feed.new.reader.failure c.feed.new.reader.position (r.read ++ piece) bytes
    c.in_err-feed.ensures.answer (c.feed.ensures.stands r.read r.stands)
    (joined_front told c.loop-reader.at count c.loop-reader.reader r piece c.read.new.buf bytes refl is
    (c.in_ok-count.ensures.piece bytes now)) (omega arith) in
    subst (λ (x : Result (Vec Record) (Failure RecordsFault)). GivesUnlessFailed x (records_in bytes))
    (sym (err_is c.from_residual-in_err-feed.result e c.from_residual-in_err-feed.ensures.1)) due

pub returns-in_err-feed-clause-in_turn : goal.returns-in_err-feed-clause-in_turn
returns-in_err-feed-clause-in_turn g c =
    read_last c.args.name.now c.loop-reader.at c.loop-reader.at (g.F.Files.reads c.args.files.now)
    (g.F.Files.reads c.loop-reader.files) (g.F.Files.reads c.read.new.files) c.read.result
    c.loop-reader.invariant.reading refl c.read.ensures.made

pub loop-reader-preserved : goal.loop-reader-preserved
loop-reader-preserved g c =
    let told : Option (List ℕ) = g.F.Files.told c.args.files.now c.args.name.now in
    record {
      room = c.loop-reader.invariant.room;
      within = piece_within c.loop-reader.at c.in_ok-count.count c.room_at-most.result c.deref_mut.result.now
          c.read.new.buf c.loop-reader.invariant.within c.if-at-eq-MAX_BYTES.false c.room_at-most.ensures.within
          c.read.auto.buf c.in_ok-count.ensures.within;
      reads = fed told c.loop-reader.at c.in_ok-count.count c.loop-reader.reader c.feed.new.reader
          (take c.in_ok-count.count c.read.new.buf) c.read.new.buf c.loop-reader.invariant.reads
          c.in_ok-feed.ensures.answer c.feed.ensures.stands refl c.in_ok-count.ensures.within
          (λ bytes is. c.in_ok-count.ensures.piece bytes
          (ap (λ f. f c.args.name.now) c.loop-reader.invariant.continues.holds ∙ is));
      calm = c.in_ok-count.ensures.calm ∙ c.loop-reader.invariant.calm;
      continues = Continues-trans c.loop-reader.invariant.continues c.read.ensures.continues;
      reading = read_more c.args.name.now c.loop-reader.at c.loop-reader.at c.in_ok-count.count
          (c.loop-reader.at + c.in_ok-count.count) (g.F.Files.reads c.args.files.now)
          (g.F.Files.reads c.loop-reader.files) (g.F.Files.reads c.read.new.files) c.read.result
          c.loop-reader.invariant.reading refl c.read.ensures.made c.in_ok-count.was refl;
    }
