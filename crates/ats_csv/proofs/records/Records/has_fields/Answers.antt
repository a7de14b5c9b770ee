use Rattle.std.proofs.Common.{rules, map, ℕ, List, Bor}
use Rattle.ats_csv.proofs.Fields.{same_fields_from}
use Rattle.ats_csv.proofs.records.Records.has_fields.Goals as goal

pub returns-clause-test : goal.returns-clause-test
returns-clause-test c =
    same_fields_from c.is_row.result c.args.self.now.fields (map (λ (f : Bor (List ℕ)). f.now) c.args.fields.now)
    (search rules)
