use Rattle.std.proofs.Common.{◌≡◌, ◌∷◌, [], ◌++◌, append_assoc, length, map, take, subst}
use Rattle.ats_csv.specs.Plain.{bytes_of, further}
use Rattle.ats_csv.proofs.Plain.{front_of}
use Rattle.ats_csv.proofs.writing.push_further.Goals as goal

pub returns-in_err-push_field-clause-front : goal.returns-in_err-push_field-clause-front
returns-in_err-push_field-clause-front c =
    let so_far = further (map bytes_of (take c.loop-field.field-index c.args.fields.now)) in
    let begun = c.args.out.now.items in
    let whole : c.push.new.self.items ≡ begun ++ (so_far ++ 44 ∷ [])
    = cc (c.in_ok-push.ensures.items, c.loop-field.invariant, append_assoc begun so_far (44 ∷ [])) in
    front_of begun (so_far ++ 44 ∷ []) c.push_field.new.out.items
    (subst (λ text. take (length text) c.push_field.new.out.items ≡ text) whole c.in_err-push_field.ensures.front)
