use Rattle.std.proofs.Common.{ℕ, List, ◌++◌, ap, ◌∙◌, length, drop, replicate}
use Rattle.std.proofs.lemmas.List.{drop-replicate}
use Rattle.ats_num.proofs.name.padded.Goals as goal

pub returns : goal.returns
returns c =
    let zeros : List ℕ = replicate 32 0 in
    ap (λ (front : List ℕ). front ++ drop (length c.args.text.now) zeros) c.copy_from_slice.ensures.after
    ∙ ap (λ (rest : List ℕ). c.args.text.now ++ rest) (drop-replicate (length c.args.text.now) 32 0)
