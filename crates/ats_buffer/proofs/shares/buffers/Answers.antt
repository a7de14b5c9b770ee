use Rattle.std.proofs.Common.{◌≡◌, ◌+◌, ◌<◌, ◌++◌, [], ◌∷◌, ℕ, List, length, map, take, sym, ap, ◌∙◌}
use Rattle.std.proofs.Common.{arith}
use Rattle.std.specs.Prelude.{Some}
use Rattle.std.proofs.lemmas.List.{take_more, take_all, map-append}
use Rattle.std.proofs.lemmas.Option.{same_Some}
use Rattle.ats_class_table.specs.Table.{value_at}
use Rattle.ats_streams.specs.Stream.{DeclaredStream}
use Rattle.ats_certificate.specs.declared.row.Row.{Row}
use Rattle.ats_tally.proofs.Places.{is_place}
use Rattle.ats_buffer.specs.Buffer.{buffer_at, shares_at}
use Rattle.ats_buffer.specs.Occupancy.{no_row, row_at}
use Rattle.ats_buffer.specs.RowTable.{PlacedRows}
use Rattle.ats_buffer.proofs.shares.buffers.Goals as goal

pub get-requires-clause-port : goal.get-requires-clause-port
get-requires-clause-port c =
    let k : ℕ = c.loop-row.row-index in
    let rows : List Row = c.args.certificate.now in
    let row : Row = row_at rows k in
    let long : length c.rows-row-items.result.now ≡ length rows =
    ap (λ (l : List Row). length l) c.rows-row-items.ensures.value in
    let same : row_at c.rows-row-items.result.now k ≡ row =
    ap (λ (l : List Row). row_at l k) c.rows-row-items.ensures.value in
    let place = is_place c.args.network.now row.port row.class c.topology.ensures.rules
    (c.requires.holds.rows_of.used k no_row (omega (arith, long))) in
    omega (arith, ap (λ (r : Row). r.port) same, place.within, c.in_ok-sums.ensures.ports)

-- one buffer more
buffers_more : (f : Row → ℕ) (rows : List Row) (k : ℕ) (out new : List ℕ) (value : ℕ) → k < length rows
    → new ≡ out ++ value ∷ [] → out ≡ map f (take k rows) → value ≡ f (row_at rows k) → new ≡ map f (take (k + 1) rows)
buffers_more f rows k out new value h grown before is =
    grown ∙ ap (λ (l : List ℕ). l ++ value ∷ []) before ∙ ap (λ (n : ℕ). map f (take k rows) ++ n ∷ []) is
    ∙ sym (ap (map f) (take_more rows k no_row h) ∙ map-append f (take k rows) (row_at rows k ∷ []))

pub loop-row-preserved : goal.loop-row-preserved
loop-row-preserved c =
    let network = c.args.network.now in
    let rows : List Row = c.args.certificate.now in
    let k : ℕ = c.loop-row.row-index in
    let row : Row = row_at rows k in
    let long : length c.rows-row-items.result.now ≡ length rows =
    ap (λ (l : List Row). length l) c.rows-row-items.ensures.value in
    let within : k < length rows = omega (arith, long) in
    let read : row_at c.rows-row-items.result.now k ≡ row =
    ap (λ (l : List Row). row_at l k) c.rows-row-items.ensures.value in
    let place = is_place network row.port row.class c.topology.ensures.rules
    (c.requires.holds.rows_of.used k no_row within) in
    let placed : c.in_ok-rows.rows.rows ≡ rows = ap (λ (p : PlacedRows). p.rows) c.in_ok-rows.ensures in
    let all : take (length network.streams) network.streams ≡ network.streams =
    take_all (length network.streams) network.streams (omega arith) in
    let sum = c.in_ok-sums.ensures.each row.port row.class place.within place.least place.most in
    let value : c.get.result ≡ buffer_at network rows row.port row.class =
    same_Some c.get.result (buffer_at network rows row.port row.class)
    (sym (ap (λ (r : Row). value_at c.in_ok-sums.sums r.port r.class) (sym read) ∙ c.get.ensures)
    ∙ sum
    ∙ ap (λ (l : List DeclaredStream). Some (shares_at network c.in_ok-rows.rows.rows row.port row.class l)) all
    ∙ ap (λ (l : List Row). Some (shares_at network l row.port row.class network.streams)) placed) in
    buffers_more (λ (row : Row). buffer_at network rows row.port row.class) rows k c.loop-row.buffers.items
    c.push.new.self.items c.get.result within c.in_ok-push.ensures.items c.loop-row.invariant value
