use Rattle.std.proofs.Common.{◌≡◌, ◌-◌, ◌++◌, List, ℕ, length, drop, decimal, ap, sym, ◌∙◌, arith}
use Rattle.std.proofs.lemmas.Fmt.{length-decimal-le}
use Rattle.std.proofs.lemmas.List.{length-append, length-drop}
use Rattle.ats_replay.proofs.line.Line.put_number.Goals as goal

pub write_digits-self-inside-requires : goal.write_digits-self-inside-requires
write_digits-self-inside-requires c =
    let here : length c.args.self.now ≡ length c.self.inside.bytes - c.self.inside.start =
    sym (ap (λ (t : List ℕ). length t) c.self.view_is) ∙ length-drop c.self.inside.start c.self.inside.bytes in (
      omega (arith, here, length-decimal-le 20 c.args.n (omega arith) (omega arith) (omega arith)),
      omega (arith, c.self.invariant),
    )

pub returns-clause-short : goal.returns-clause-short
returns-clause-short c =
    let before : List ℕ = drop c.self.inside.start c.self.inside.bytes in
    let here : length before ≡ length c.args.self.now = ap (λ (t : List ℕ). length t) c.self.view_is in
    let after : length (drop c.write_digits-self-inside.result c.write_digits-self-inside.new.buf)
    ≡ length (decimal c.args.n ++ before) =
    ap (λ (t : List ℕ). length t) c.write_digits-self-inside.ensures.written in
    omega (
      arith,
      here,
      after,
      length-append (decimal c.args.n) before,
      length-decimal-le 20 c.args.n (omega arith) (omega arith) (omega arith),
    )
