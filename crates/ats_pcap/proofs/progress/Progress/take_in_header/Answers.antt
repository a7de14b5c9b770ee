use Rattle.std.proofs.Common.{◌≡◌, ℕ, ◌+◌, ◌≤◌, List, ◌++◌, length, take, Ok, sym, ap, ◌∙◌, arith}
use Rattle.std.proofs.lemmas.List.{length-append, take_all}
use Rattle.ats_pcap.specs.Capture.{Position, header_fault, without}
use Rattle.ats_pcap.specs.Seen.{seen}
use Rattle.ats_pcap.proofs.Taken.{taken_in_header}
use Rattle.ats_pcap.proofs.progress.Progress.take_in_header.Goals as goal

-- all bytes of the part are kept
extended : (header part new : List ℕ) → length header + length part ≤ 24 → new ≡ take 32 (header ++ part)
    → new ≡ header ++ part
extended header part new h e =
    let both : length (header ++ part) ≡ length header + length part = length-append header part in
    e ∙ take_all 32 (header ++ part) (omega (arith, both, h))

pub returns-in-Some : goal.returns-in-Some
returns-in-Some c =
    let p : Position = seen c.args.self.now in
    let part : List ℕ = c.args.part.now in
    let with : Position = record p { header = p.header ++ part } in
    let whole : c.extend.new.self ≡ p.header ++ part =
    extended p.header part c.extend.new.self c.requires.room c.extend.ensures in
    taken_in_header p part c.requires.header
    ∙ ap (λ o. without o (Ok with)) (ap header_fault (sym (c.bytes.ensures.value ∙ whole)) ∙ sym c.in-Some.ensures)

pub returns-in-None : goal.returns-in-None
returns-in-None c =
    let p : Position = seen c.args.self.now in
    let part : List ℕ = c.args.part.now in
    let with : List ℕ → Position = λ header. record p { header = header } in
    let whole : c.extend.new.self ≡ p.header ++ part =
    extended p.header part c.extend.new.self c.requires.room c.extend.ensures in
    taken_in_header p part c.requires.header
    ∙ ap (λ o. without o (Ok (with (p.header ++ part))))
    (ap header_fault (sym (c.bytes.ensures.value ∙ whole)) ∙ sym c.in-None.ensures)
    ∙ ap (λ (header : List ℕ). Ok (with header)) (sym whole)
