use Rattle.std.proofs.Common.{sym, ap, ◌∙◌}
use Rattle.ats_io.proofs.Held.{told_is}
use Rattle.ats_io.proofs.mem_files.read_named.Goals as goal

pub returns-in-Some-clause-piece : goal.returns-in-Some-clause-piece
returns-in-Some-clause-piece c = λ bytes told.
    let same = told_is c.args.files.now c.args.name.now bytes c.deref.result.now c.in-Some.found
    c.index-files-found.result (sym c.in-Some.ensures) c.index-files-found.is
    (c.deref.ensures.value ∙ sym (ap (λ file. file.1.items) c.index-files-found.is)) told in
    rw (← same) c.put_piece.ensures.piece

pub returns-in-Some-clause-full : goal.returns-in-Some-clause-full
returns-in-Some-clause-full c = λ bytes told.
    let same = told_is c.args.files.now c.args.name.now bytes c.deref.result.now c.in-Some.found
    c.index-files-found.result (sym c.in-Some.ensures) c.index-files-found.is
    (c.deref.ensures.value ∙ sym (ap (λ file. file.1.items) c.index-files-found.is)) told in
    rw (← same) c.put_piece.ensures.count
