use Rattle.std.proofs.Common.{◌≡◌, ◌+◌, ◌-◌, ℕ, List, ◌++◌, length, take, ap, ◌∙◌, arith}
use Rattle.std.proofs.lemmas.List.{length-take-le}
use borrow.Rule.Slice.PartMut.{post_of}
use Rattle.ats_pcap.proofs.Fronts.{extended}
use Rattle.ats_pcap.proofs.front.Front.extend.Goals as goal

pub returns : goal.returns
returns c =
    let count : ℕ = c.self.inside.count in
    let room : ℕ = c.min-room.result in
    let bytes : List ℕ = c.self.inside.bytes in
    let part : List ℕ = c.args.part.now in
    let behind : List ℕ = post_of count (count + room - count) bytes in
    let copied : c.copy_from_slice.new.self ≡ take room part =
    c.copy_from_slice.ensures.after in
    let kept : length (take count bytes) ≡ count =
    length-take-le count bytes (omega (arith, c.self.invariant, c.self.told)) in
    ap (λ (ys : List ℕ). take (count + room) (take count bytes ++ (ys ++ behind))) copied
    ∙ extended (take count bytes) part behind count room kept c.self.invariant c.min-room.ensures
    ∙ ap (λ (ks : List ℕ). take 32 (ks ++ part)) c.self.view_is
