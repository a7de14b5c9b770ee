use Rattle.std.specs.Prelude.{◌≡◌, ℕ, List, length, take}
use Rattle.std.proofs.Common.{sym, ap, ◌∙◌}
use Rattle.ats_num.specs.Name.{IsPadded, padded}
use Rattle.ats_num.specs.declared.name.Name.TheInside.{Inside}

-- the array that the bytes of a name give back is the one that they were read from
pub padded-take : (n : Inside) → IsPadded n.text n.size
    → record { text = padded (take n.size n.text); size = length (take n.size n.text) } ≡ n
padded-take n h =
    let with_text : List ℕ → Inside = λ text. record { text = text; size = length (take n.size n.text) } in
    let with_size : ℕ → Inside = λ size. record { text = n.text; size = size } in
    ap with_text (sym h.whole) ∙ ap with_size h.sized
