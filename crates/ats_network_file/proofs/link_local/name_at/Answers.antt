use Rattle.std.proofs.Common.{List, ℕ, Option, Some, None, cond, is_some, ap, ◌∙◌}
use Rattle.ats_num.specs.Name.{name_of}
use Rattle.ats_network_file.specs.LinkLocal.{name_at}
use Rattle.ats_network_file.proofs.PortNames.{name_at_port}
use Rattle.ats_network_file.proofs.link_local.name_at.Goals as goal

pub unwrap-requires : goal.unwrap-requires
unwrap-requires c =
    let name : List ℕ = name_at c.args.name.now c.args.number in
    ap (λ (o : Option (List ℕ)). is_some o) (c.new.ensures ∙ ap name_of (c.as_slice.ensures.value ∙ c.in_ok-text.ensures
    ∙ ap (λ (n : List ℕ). name_at n c.args.number) c.bytes.ensures.value))
    ∙ ap (λ b. is_some (let o : Option (List ℕ) = cond b (Some name) None in o))
    (name_at_port c.args.name.now c.args.number c.bytes.ensures.valid c.requires.short c.requires.number)
