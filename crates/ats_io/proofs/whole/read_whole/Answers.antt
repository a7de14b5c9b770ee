use Rattle.std.proofs.Common.{◌≡◌, ◌+◌, ◌++◌, [], ◌∷◌, length, take, refl, ◌∙◌, ap, arith, length-append}
use Rattle.std.proofs.Common.{length-take-le}
use Rattle.ats_io.proofs.Fronts.{front_more, front_all, front_length}
use Rattle.ats_io.proofs.Outside.{Continues-refl, Continues-trans}
use Rattle.ats_io.proofs.Turns.{nothing_read, none_read, read_more, read_last}
use Rattle.ats_io.proofs.whole.read_whole.Goals as goal

pub loop-whole-init : goal.loop-whole-init
loop-whole-init g c = record {
  room = c.in_ok-buffer.ensures;
  within = omega (arith, c.new-whole.ensures.len);
  front = λ bytes told. rw c.new-whole.ensures.items refl;
  calm = refl;
  continues = Continues-refl c.args.files.now;
  reading = rw c.new-whole.ensures.items (nothing_read c.args.name.now (g.F.Files.reads c.args.files.now));
}

pub returns-in_err-buffer-clause-in_turn : goal.returns-in_err-buffer-clause-in_turn
returns-in_err-buffer-clause-in_turn g c = none_read (c.args.name.now ∷ []) (g.F.Files.reads c.args.files.now)

pub returns-in_err-count-clause-continues : goal.returns-in_err-count-clause-continues
returns-in_err-count-clause-continues g c = Continues-trans c.loop-whole.invariant.continues c.read.ensures.continues

pub returns-in_err-count-clause-in_turn : goal.returns-in_err-count-clause-in_turn
returns-in_err-count-clause-in_turn g c =
    read_last c.args.name.now (length c.loop-whole.whole.items) c.len-in-loop-whole-2.result
    (g.F.Files.reads c.args.files.now) (g.F.Files.reads c.loop-whole.files) (g.F.Files.reads c.read.new.self)
    c.read.result c.loop-whole.invariant.reading (omega arith) c.read.ensures.made

-- nothing stands behind the bytes read so far
pub returns-then-count-eq0-clause-whole : goal.returns-then-count-eq0-clause-whole
returns-then-count-eq0-clause-whole g c = λ bytes told.
    let place : c.len-in-loop-whole-2.result ≡ length c.loop-whole.whole.items = omega arith in
    let now = ap (λ f. f c.args.name.now) c.loop-whole.invariant.continues.holds ∙ told in
    front_all bytes c.loop-whole.whole.items c.read.new.buf c.len-in-loop-whole-2.result c.in_ok-count.count
    (c.loop-whole.invariant.front bytes told) place c.if-count-eq0.true (c.in_ok-count.ensures.piece bytes now)

pub returns-then-count-eq0-clause-continues : goal.returns-then-count-eq0-clause-continues
returns-then-count-eq0-clause-continues g c = Continues-trans c.loop-whole.invariant.continues c.read.ensures.continues

pub returns-then-count-eq0-clause-in_turn : goal.returns-then-count-eq0-clause-in_turn
returns-then-count-eq0-clause-in_turn g c =
    read_last c.args.name.now (length c.loop-whole.whole.items) c.len-in-loop-whole-2.result
    (g.F.Files.reads c.args.files.now) (g.F.Files.reads c.loop-whole.files) (g.F.Files.reads c.read.new.self)
    c.read.result c.loop-whole.invariant.reading (omega arith) c.read.ensures.made

pub returns-in_err-extend_from_slice-clause-continues :
    goal.returns-in_err-extend_from_slice-clause-continues
returns-in_err-extend_from_slice-clause-continues g c =
    Continues-trans c.loop-whole.invariant.continues c.read.ensures.continues

pub returns-in_err-extend_from_slice-clause-in_turn : goal.returns-in_err-extend_from_slice-clause-in_turn
returns-in_err-extend_from_slice-clause-in_turn g c =
    read_last c.args.name.now (length c.loop-whole.whole.items) c.len-in-loop-whole-2.result
    (g.F.Files.reads c.args.files.now) (g.F.Files.reads c.loop-whole.files) (g.F.Files.reads c.read.new.self)
    c.read.result c.loop-whole.invariant.reading (omega arith) c.read.ensures.made

-- the bytes read are a front that is longer than the limit
pub returns-then-len-limit-clause-too_long : goal.returns-then-len-limit-clause-too_long
returns-then-len-limit-clause-too_long g c = λ it bytes told.
    let place : c.len-in-loop-whole-2.result ≡ length c.loop-whole.whole.items = omega arith in
    let now = ap (λ f. f c.args.name.now) c.loop-whole.invariant.continues.holds ∙ told in
    let joined : c.extend_from_slice.new.self.items ≡ c.loop-whole.whole.items
    ++ take c.in_ok-count.count c.read.new.buf = c.in_ok-extend_from_slice.ensures.items in
    let front = front_more bytes c.loop-whole.whole.items c.extend_from_slice.new.self.items c.read.new.buf
    c.len-in-loop-whole-2.result c.in_ok-count.count (c.loop-whole.invariant.front bytes told) place
    (c.in_ok-count.ensures.piece bytes now) joined in
    let shorter = front_length bytes c.extend_from_slice.new.self.items front in
    omega arith

pub returns-then-len-limit-clause-whole_due : goal.returns-then-len-limit-clause-whole_due
returns-then-len-limit-clause-whole_due g c = λ bytes told within calm. absurd (
    let over = returns-then-len-limit-clause-too_long g c refl bytes told in omega arith)

pub returns-then-len-limit-clause-continues : goal.returns-then-len-limit-clause-continues
returns-then-len-limit-clause-continues g c = Continues-trans c.loop-whole.invariant.continues c.read.ensures.continues

pub returns-then-len-limit-clause-in_turn : goal.returns-then-len-limit-clause-in_turn
returns-then-len-limit-clause-in_turn g c =
    read_last c.args.name.now (length c.loop-whole.whole.items) c.len-in-loop-whole-2.result
    (g.F.Files.reads c.args.files.now) (g.F.Files.reads c.loop-whole.files) (g.F.Files.reads c.read.new.self)
    c.read.result c.loop-whole.invariant.reading (omega arith) c.read.ensures.made

pub loop-whole-preserved : goal.loop-whole-preserved
loop-whole-preserved g c =
    let place : c.len-in-loop-whole-2.result ≡ length c.loop-whole.whole.items = omega arith in
    let joined : c.extend_from_slice.new.self.items ≡ c.loop-whole.whole.items
    ++ take c.in_ok-count.count c.read.new.buf = c.in_ok-extend_from_slice.ensures.items in
    record {
      room = c.loop-whole.invariant.room;
      within = omega arith;
      front = λ bytes told.
          let now = ap (λ f. f c.args.name.now) c.loop-whole.invariant.continues.holds ∙ told in
          front_more bytes c.loop-whole.whole.items c.extend_from_slice.new.self.items c.read.new.buf
          c.len-in-loop-whole-2.result c.in_ok-count.count (c.loop-whole.invariant.front bytes told) place
          (c.in_ok-count.ensures.piece bytes now) joined;
      calm = c.in_ok-count.ensures.calm ∙ c.loop-whole.invariant.calm;
      continues = Continues-trans c.loop-whole.invariant.continues c.read.ensures.continues;
      reading = read_more c.args.name.now (length c.loop-whole.whole.items) c.len-in-loop-whole-2.result
          c.in_ok-count.count (length c.extend_from_slice.new.self.items) (g.F.Files.reads c.args.files.now)
          (g.F.Files.reads c.loop-whole.files) (g.F.Files.reads c.read.new.self) c.read.result
          c.loop-whole.invariant.reading place c.read.ensures.made c.in_ok-count.was
          (ap length joined ∙ length-append c.loop-whole.whole.items (take c.in_ok-count.count c.read.new.buf)
          ∙ ap (λ n. length c.loop-whole.whole.items + n)
          (length-take-le c.in_ok-count.count c.read.new.buf c.in_ok-count.ensures.within));
    }
