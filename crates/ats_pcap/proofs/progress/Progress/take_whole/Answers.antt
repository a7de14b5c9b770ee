use Rattle.std.proofs.Common.{◌≡◌, ◌+◌, ◌<◌, ◌≤◌, ◌++◌, ℕ, List, Some, length, sym, ap, ◌∙◌, subst, arith, rules}
use Rattle.std.proofs.lemmas.Grind.{common_steps}
use Rattle.std.proofs.lemmas.List.{length-append}
use Rattle.ats_pcap.specs.Capture.{Position, captured_of, form_of}
use Rattle.ats_pcap.specs.Inside.{IsOpen, whole_size}
use Rattle.ats_pcap.specs.Seen.{Follows, seen}
use Rattle.ats_pcap.specs.declared.form.Form.{Form}
use Rattle.ats_pcap.specs.declared.record.Record.{Record}
use Rattle.ats_pcap.proofs.Followed.{follows_passed}
use Rattle.ats_pcap.proofs.Whole.{HasWhole, Passes, has_whole, passed_is, passes}
use Rattle.ats_pcap.proofs.progress.Progress.take_whole.Goals as goal

-- what is known of the next record, by what the code has
has : (records : List Record) (rest : List ℕ) (form : Form) (count size : ℕ) → count ≡ length records
    → Some size ≡ whole_size form count rest → HasWhole form (length records) rest size
has records rest form count size is_count h =
    has_whole form (length records) rest size
    (sym (h ∙ ap (λ n. whole_size form n rest) is_count))

pub split_at-requires : goal.split_at-requires
split_at-requires c =
    let records : List Record = c.loop-size.self.records.items in
    let count : c.len.result ≡ length records = first_of (search rules, grind (arith, common_steps)) in
    (has records c.loop-size.rest.now c.args.form c.len.result c.in-Some.size count
    (sym c.in-Some.is ∙ c.whole_size.ensures)).within

-- the bytes that are cut off are those of the next record
cut : (p : Position) (rest part after : List ℕ) (form : Form) (count size : ℕ) → IsOpen p → 24 ≤ length p.header
    → p.there ≡ 0 → form ≡ form_of p.header → count ≡ length p.records → Some size ≡ whole_size form count rest
    → part ++ after ≡ rest → length part ≡ size → Passes p part
cut p rest part after form count size is_open header none is_form is_count h split long =
    passes p rest part after form size is_open header none is_form (has p.records rest form count size is_count h)
    split long

pub record_of-requires-clause-header : goal.record_of-requires-clause-header
record_of-requires-clause-header c =
    let p : Position = seen c.loop-size.self in
    let count : c.len.result ≡ length p.records = first_of (search rules, grind (arith, common_steps)) in
    let s : Passes p c.split_at.result.0.now =
    cut p c.loop-size.rest.now c.split_at.result.0.now c.split_at.result.1.now c.args.form c.len.result
    c.in-Some.size c.loop-size.invariant.follows.between (subst (λ (h : List ℕ). 24 ≤ length h)
    (sym c.loop-size.invariant.header) c.requires.header) c.loop-size.invariant.none
    (c.requires.form ∙ ap form_of (sym c.loop-size.invariant.header)) count
    (sym c.in-Some.is ∙ c.whole_size.ensures) (sym c.split_at.ensures.by_index.0) c.split_at.ensures.front_len in
    omega (arith, s.exact)

pub record_of-requires-clause-captured : goal.record_of-requires-clause-captured
record_of-requires-clause-captured c =
    let p : Position = seen c.loop-size.self in
    let is_form : c.args.form ≡ form_of p.header =
    c.requires.form ∙ ap form_of (sym c.loop-size.invariant.header) in
    let count : c.len.result ≡ length p.records = first_of (search rules, grind (arith, common_steps)) in
    let s : Passes p c.split_at.result.0.now =
    cut p c.loop-size.rest.now c.split_at.result.0.now c.split_at.result.1.now c.args.form c.len.result
    c.in-Some.size c.loop-size.invariant.follows.between (subst (λ (h : List ℕ). 24 ≤ length h)
    (sym c.loop-size.invariant.header) c.requires.header) c.loop-size.invariant.none is_form count
    (sym c.in-Some.is ∙ c.whole_size.ensures) (sym c.split_at.ensures.by_index.0) c.split_at.ensures.front_len in
    let counted : captured_of c.args.form c.split_at.result.0.now
    ≡ captured_of (form_of p.header) c.split_at.result.0.now =
    ap (λ f. captured_of f c.split_at.result.0.now) is_form in
    omega (arith, s.exact, counted)

pub loop-size-smaller : goal.loop-size-smaller
loop-size-smaller c =
    let rest : List ℕ = c.loop-size.rest.now in
    let part : List ℕ = c.split_at.result.0.now in
    let after : List ℕ = c.split_at.result.1.now in
    let both : length (part ++ after) ≡ length part + length after = length-append part after in
    let whole : length (part ++ after) ≡ length rest = ap length (sym c.split_at.ensures.by_index.0) in
    let some : c.in-Some.size ≡ 16 + captured_of c.args.form rest =
    (has c.loop-size.self.records.items rest c.args.form c.len.result c.in-Some.size
    (first_of (search rules, grind (arith, common_steps))) (sym c.in-Some.is ∙ c.whole_size.ensures)).is in
    let less : length after < length rest =
    omega (arith, both, whole, some, c.split_at.ensures.front_len) in
    less

pub loop-size-preserved : goal.loop-size-preserved
loop-size-preserved c =
    let p : Position = seen c.loop-size.self in
    let is_form : c.args.form ≡ form_of p.header =
    c.requires.form ∙ ap form_of (sym c.loop-size.invariant.header) in
    let part : List ℕ = c.split_at.result.0.now in
    let after : List ℕ = c.split_at.result.1.now in
    let both : length (part ++ after) ≡ length part + length after = length-append part after in
    let whole : length (part ++ after) ≡ length c.loop-size.rest.now =
    ap length (sym c.split_at.ensures.by_index.0) in
    let count : c.len.result ≡ length p.records = first_of (search rules, grind (arith, common_steps)) in
    let s : Passes p part =
    cut p c.loop-size.rest.now part c.split_at.result.1.now c.args.form c.len.result
    c.in-Some.size c.loop-size.invariant.follows.between (subst (λ (h : List ℕ). 24 ≤ length h)
    (sym c.loop-size.invariant.header) c.requires.header) c.loop-size.invariant.none is_form count
    (sym c.in-Some.is ∙ c.whole_size.ensures) (sym c.split_at.ensures.by_index.0) c.split_at.ensures.front_len in
    record {
      follows = subst (λ (q : Position). Follows (seen c.args.self.now) q c.args.piece.now c.split_at.result.1.now)
          (passed_is p part c.args.form c.record_of.result c.push.new.self.items s.is_open s.none is_form
          c.record_of.ensures c.in_ok-push.ensures.items)
          (follows_passed (seen c.args.self.now) p c.args.piece.now c.loop-size.rest.now part
          c.split_at.result.1.now c.loop-size.invariant.follows s (sym c.split_at.ensures.by_index.0));
      header = c.loop-size.invariant.header;
      none = c.loop-size.invariant.none;
      shorter = omega (arith, c.loop-size.invariant.shorter, both, whole);
    }
