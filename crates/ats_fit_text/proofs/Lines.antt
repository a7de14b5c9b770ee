-- The lines of senders, each with what is measured of it, and their pieces.
use Rattle.std.proofs.Common.{◌≡◌, ℕ, ◌+◌, ◌<◌, ◌≤◌, List, [], ◌∷◌, ◌++◌, length, take, get_or, sym, ◌∙◌, ap}
use Rattle.std.proofs.Common.{append_assoc, arith}
use Rattle.std.specs.Prelude.{zip}
use Rattle.std.specs.List.{flat_map}
use Rattle.std.proofs.lemmas.List.{flat_map_more, take_more, take_all}
use Rattle.std.proofs.lemmas.Slice.Zip.{length-zip, get_or-zip}
use Rattle.ats_network.specs.Sender.{Sender}
use Rattle.ats_network.specs.Senders.{no_sender}
use Rattle.ats_fit.specs.declared.measured.Measured.{Measured}

-- the line of the next sender
pub next_line : (line : Sender × Measured → List ℕ) (senders : List Sender) (measured : List Measured) (n : ℕ)
    (s : Sender) (d : Measured) (x before after : List ℕ) → length measured ≡ length senders → n < length senders
    → s ≡ get_or senders n no_sender → before ≡ x ++ flat_map line (take n (zip senders measured))
    → after ≡ before ++ line (s, get_or measured n d)
    → after ≡ x ++ flat_map line (take (n + 1) (zip senders measured))
next_line line senders measured n s d x before after each within is so_far written =
    let m : Measured = get_or measured n d in
    let pairs : List (Sender × Measured) = zip senders measured in
    let inside : n < length pairs = omega (arith, length-zip senders measured) in
    let at_n : get_or pairs n (no_sender, d) ≡ (s, m) =
    get_or-zip senders measured n (no_sender, d) within (omega arith) ∙ ap (λ (k : Sender). (k, m)) (sym is) in
    let more : take (n + 1) pairs ≡ take n pairs ++ (s, m) ∷ [] =
    take_more pairs n (no_sender, d) inside ∙ ap (λ (p : Sender × Measured). take n pairs ++ p ∷ []) at_n in
    written ∙ ap (λ (t : List ℕ). t ++ line (s, m)) so_far ∙ flat_map_more line x (take n pairs) (s, m)
    ∙ sym (ap (λ (l : List (Sender × Measured)). x ++ flat_map line l) more)

-- all senders are the first so many
pub all_lines : (line : Sender × Measured → List ℕ) (senders : List Sender) (measured : List Measured) (n : ℕ)
    (x text : List ℕ) → length senders ≤ n → text ≡ x ++ flat_map line (take n (zip senders measured))
    → text ≡ x ++ flat_map line (zip senders measured)
all_lines line senders measured n x text end written =
    written ∙ ap (λ (l : List (Sender × Measured)). x ++ flat_map line l)
    (take_all n (zip senders measured) (omega (arith, length-zip senders measured)))

-- pieces written one after another
pieces_joined : (x a b c d e f g h : List ℕ)
    → ((((((x ++ a) ++ b) ++ (c ++ d)) ++ e) ++ f) ++ g) ++ h ≡ x ++ (a ++ b ++ c ++ d ++ e ++ f ++ g ++ h)
pieces_joined x a b c d e f g h = simp append_assoc

-- those of a sender's line
pub line_written : (x a b c d e f g h one two three four five six seven : List ℕ) → one ≡ x ++ a → two ≡ one ++ b
    → three ≡ two ++ (c ++ d) → four ≡ three ++ e → five ≡ four ++ f → six ≡ five ++ g → seven ≡ six ++ h
    → seven ≡ x ++ (a ++ b ++ c ++ d ++ e ++ f ++ g ++ h)
line_written x a b c d e f g h one two three four five six seven p q r s t u v =
    v ∙ ap (λ (z : List ℕ). z ++ h) (u ∙ ap (λ (z : List ℕ). z ++ g) (t ∙ ap (λ (z : List ℕ). z ++ f)
    (s ∙ ap (λ (z : List ℕ). z ++ e) (r ∙ ap (λ (z : List ℕ). z ++ (c ++ d)) (q ∙ ap (λ (z : List ℕ). z ++ b) p)))))
    ∙ pieces_joined x a b c d e f g h

total_joined : (x a b c d e f g : List ℕ)
    → (((x ++ (a ++ b)) ++ (c ++ d)) ++ (e ++ f)) ++ g ≡ x ++ (a ++ b ++ c ++ d ++ e ++ f ++ g)
total_joined x a b c d e f g = simp append_assoc

-- and those of the last line
pub total_written : (x a b c d e f g one two three four : List ℕ) → one ≡ x ++ (a ++ b) → two ≡ one ++ (c ++ d)
    → three ≡ two ++ (e ++ f) → four ≡ three ++ g → four ≡ x ++ (a ++ b ++ c ++ d ++ e ++ f ++ g)
total_written x a b c d e f g one two three four p q r s =
    s ∙ ap (λ (z : List ℕ). z ++ g) (r ∙ ap (λ (z : List ℕ). z ++ (e ++ f)) (q ∙ ap (λ (z : List ℕ). z ++ (c ++ d)) p))
    ∙ total_joined x a b c d e f g
