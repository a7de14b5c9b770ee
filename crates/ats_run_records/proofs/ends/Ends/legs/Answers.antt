use Rattle.std.proofs.Common.{◌≡◌, ℕ, List, length, ap, arith}
use Rattle.ats_run_records.proofs.Ended.{legs-counted, length-ends}
use Rattle.ats_run_records.proofs.ends.Ends.legs.Goals as goal

pub index-requires : goal.index-requires
index-requires c = omega (arith, c.requires, length-ends c.self.invariant c.self.view_is)

pub end_of-requires : goal.end_of-requires
end_of-requires c = omega (
  arith,
  c.requires,
  length-ends c.self.invariant c.self.view_is,
  ap (λ (ns : List ℕ). length ns) c.deref.ensures.value,
)

pub overflow_sub-result : goal.overflow_sub-result
overflow_sub-result c =
    let many : c.len.result ≡ length c.self.inside.tracks.items = omega (arith, c.len.ensures) in
    (legs-counted c.deref.result.now c.self.invariant c.self.view_is c.requires c.index.ensures c.deref.ensures.value
    many c.end_of.ensures).ascends

pub returns : goal.returns
returns c =
    let many : c.len.result ≡ length c.self.inside.tracks.items = omega (arith, c.len.ensures) in
    (legs-counted c.deref.result.now c.self.invariant c.self.view_is c.requires c.index.ensures c.deref.ensures.value
    many c.end_of.ensures).all
