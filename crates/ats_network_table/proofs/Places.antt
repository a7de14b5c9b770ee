use Rattle.std.proofs.Common.{◌≡◌, ℕ, zero, suc, ◌+◌, ◌<◌, Bool, true, false, cond, List, [], ◌∷◌, length, get_or, set}
use Rattle.std.proofs.Common.{Option, Some, None, option_map, refl, sym, ap, ◌∙◌, arith, ⊎_elim}
use Rattle.std.proofs.Common.{get_or-set_same, get_or-set_other}
use Rattle.std.specs.Borrow.{Bor}
use Rattle.std.specs.List.{position_from}
use Rattle.std.specs.Option.{option_or}
use Rattle.std.proofs.Common.{Ordering, Less, Equal, Greater}
use Rattle.std.specs.Ordering.{nat_cmp, is_eq, match_ordering}
use Rattle.std.specs.Cmp.Lexicographic.{slice_cmp}
use Rattle.std.specs.Str.{bytes_eq}
use Rattle.std.proofs.lemmas.Bool.{cases_Bool, cases_eq}
use Rattle.std.proofs.lemmas.Map.Text.{is_eq-slice_cmp}
use Rattle.std.proofs.lemmas.Option.{same_Some, none-some}
use Rattle.std.proofs.lemmas.Slice.Eq.{bytes_eq-Decides}
use Rattle.toml.specs.Data.{Data, Members, member, get_member}
use Rattle.toml.specs.View.{view}
use Rattle.toml.specs.declared.value.Value.{Value}
use Rattle.ats_network_table.specs.Words.{key_text}
use Rattle.ats_network_table.specs.Slots.{all_keys, slot_of}
use Rattle.ats_network_table.specs.declared.key.Key.{Key}
use Rattle.ats_network_table.specs.declared.key.Key.TheVariants as key

-- the place among all keys of the one that is written so
abbrev pub named : List ℕ → Option ℕ
named text = position_from (λ k. bytes_eq text (key_text k)) 0 all_keys

pub named_key : (k : Key) → named (key_text k) ≡ Some (slot_of k)
named_key key.Name = refl
named_key key.Path = refl
named_key key.Class = refl
named_key key.RateBps = refl
named_key key.BurstBits = refl
named_key key.MinOctets = refl
named_key key.MaxOctets = refl
named_key key.From = refl
named_key key.To = refl
named_key key.DeadlineNs = refl
named_key key.Address = refl
named_key key.Vlan = refl
named_key key.A = refl
named_key key.B = refl
named_key key.Mbps = refl
named_key key.PropagationNs = refl
named_key key.ProcessingNs = refl
named_key key.ResidenceNs = refl
named_key key.ProcessingMinNs = refl
named_key key.ProcessingMaxNs = refl
named_key key.Classes = refl
named_key key.Paths = refl
named_key key.ClockPpm = refl
named_key key.ClockStepPs = refl
named_key key.Format = refl
named_key key.Station = refl
named_key key.Bridge = refl
named_key key.Link = refl
named_key key.Stream = refl
named_key key.LinkLocal = refl
named_key key.Flow = refl
named_key key.LinkLocalFlow = refl

pub at_slot : (k d : Key) → get_or all_keys (slot_of k) d ≡ k
at_slot key.Name d = refl
at_slot key.Path d = refl
at_slot key.Class d = refl
at_slot key.RateBps d = refl
at_slot key.BurstBits d = refl
at_slot key.MinOctets d = refl
at_slot key.MaxOctets d = refl
at_slot key.From d = refl
at_slot key.To d = refl
at_slot key.DeadlineNs d = refl
at_slot key.Address d = refl
at_slot key.Vlan d = refl
at_slot key.A d = refl
at_slot key.B d = refl
at_slot key.Mbps d = refl
at_slot key.PropagationNs d = refl
at_slot key.ProcessingNs d = refl
at_slot key.ResidenceNs d = refl
at_slot key.ProcessingMinNs d = refl
at_slot key.ProcessingMaxNs d = refl
at_slot key.Classes d = refl
at_slot key.Paths d = refl
at_slot key.ClockPpm d = refl
at_slot key.ClockStepPs d = refl
at_slot key.Format d = refl
at_slot key.Station d = refl
at_slot key.Bridge d = refl
at_slot key.Link d = refl
at_slot key.Stream d = refl
at_slot key.LinkLocal d = refl
at_slot key.Flow d = refl
at_slot key.LinkLocalFlow d = refl

pub slot_within : (k : Key) → slot_of k < 32
slot_within key.Name = omega arith
slot_within key.Path = omega arith
slot_within key.Class = omega arith
slot_within key.RateBps = omega arith
slot_within key.BurstBits = omega arith
slot_within key.MinOctets = omega arith
slot_within key.MaxOctets = omega arith
slot_within key.From = omega arith
slot_within key.To = omega arith
slot_within key.DeadlineNs = omega arith
slot_within key.Address = omega arith
slot_within key.Vlan = omega arith
slot_within key.A = omega arith
slot_within key.B = omega arith
slot_within key.Mbps = omega arith
slot_within key.PropagationNs = omega arith
slot_within key.ProcessingNs = omega arith
slot_within key.ResidenceNs = omega arith
slot_within key.ProcessingMinNs = omega arith
slot_within key.ProcessingMaxNs = omega arith
slot_within key.Classes = omega arith
slot_within key.Paths = omega arith
slot_within key.ClockPpm = omega arith
slot_within key.ClockStepPs = omega arith
slot_within key.Format = omega arith
slot_within key.Station = omega arith
slot_within key.Bridge = omega arith
slot_within key.Link = omega arith
slot_within key.Stream = omega arith
slot_within key.LinkLocal = omega arith
slot_within key.Flow = omega arith
slot_within key.LinkLocalFlow = omega arith

-- what a search found passes its test
record IsFound (test : Key → Bool) (xs : List Key) (d : Key) (n i : ℕ) : Type 0 where
  place : ℕ
  is : i ≡ n + place
  passes : test (get_or xs place d) ≡ true

found : (test : Key → Bool) (n : ℕ) (xs : List Key) (i : ℕ) (d : Key) → position_from test n xs ≡ Some i
    → IsFound test xs d n i
found test n [] i d h = absurd (none-some i h)
found test n (x ∷ xs) i d h = by (test x) refl h (found test (n + 1) xs i d)
  where
    by : (b : Bool) → test x ≡ b → cond b (Some n) (position_from test (n + 1) xs) ≡ Some i
        → (position_from test (n + 1) xs ≡ Some i → IsFound test xs d (n + 1) i) → IsFound test (x ∷ xs) d n i
    by true e h more = let here : n ≡ i = same_Some n i h in
        record { place = zero; is = omega arith; passes = e }
    by false e h more = let f : IsFound test xs d (n + 1) i = more h in
        record { place = suc f.place; is = omega (arith, f.is); passes = f.passes }

pub same_bytes : (xs ys : List ℕ) → bytes_eq xs ys ≡ true → xs ≡ ys
same_bytes xs ys h = grind (arith, bytes_eq-Decides xs ys)

pub same_again : (xs : List ℕ) → bytes_eq xs xs ≡ true
same_again xs = grind (arith, bytes_eq-Decides xs xs)

-- a text that is found at the place of a key is the key's
its_text : (text : List ℕ) (k : Key) → named text ≡ Some (slot_of k) → key_text k ≡ text
its_text text k h =
    let f : IsFound (λ x. bytes_eq text (key_text x)) all_keys k 0 (slot_of k) =
    found (λ x. bytes_eq text (key_text x)) 0 all_keys (slot_of k) k h in
    let place : f.place ≡ slot_of k = omega (arith, f.is) in
    let is : get_or all_keys f.place k ≡ k = ap (λ (n : ℕ). get_or all_keys n k) place ∙ at_slot k k in
    sym (same_bytes text (key_text k) (ap (λ (x : Key). bytes_eq text (key_text x)) (sym is) ∙ f.passes))

-- a key whose place the text is not found at is written otherwise
other_text : (text : List ℕ) (k : Key) → (named text ≡ Some (slot_of k) → ⊥) → bytes_eq (key_text k) text ≡ false
other_text text k apart = ⊎_elim
    (λ same. absurd (apart (ap named (sym (same_bytes (key_text k) text same)) ∙ named_key k)))
    (λ differ. differ) (cases_Bool (bytes_eq (key_text k) text))

by_order : (o : Ordering) (found rest : Option Data) → match_ordering o rest found rest ≡ cond (is_eq o) found rest
by_order Less found rest = refl
by_order Equal found rest = refl
by_order Greater found rest = refl

-- what a key has in a table with one member in front
pub get_first : (name text : List ℕ) (d : Data) (ms : Members)
    → get_member name (member text d ms) ≡ cond (bytes_eq name text) (Some d) (get_member name ms)
get_first name text d ms = by_order (slice_cmp nat_cmp name text) (Some d) (get_member name ms)
    ∙ ap (λ (b : Bool). cond b (Some d) (get_member name ms)) (is_eq-slice_cmp name text)

-- what a key has at its place, and else in the members left
abbrev pub has_so_far : List (Option (Bor Value)) → Members → Key → Option Data
has_so_far values ms k =
    option_or (option_map (λ v. view v.now) (get_or values (slot_of k) None)) (get_member (key_text k) ms)

-- a member whose text is no key's is passed over
pub no_slot : (values : List (Option (Bor Value))) (text : List ℕ) (d : Data) (ms : Members) (k : Key)
    → named text ≡ None → has_so_far values ms k ≡ has_so_far values (member text d ms) k
no_slot values text d ms k none =
    ap (option_or (option_map (λ v. view v.now) (get_or values (slot_of k) None)))
    (sym (get_first (key_text k) text d ms ∙ ap (λ (b : Bool). cond b (Some d) (get_member (key_text k) ms))
    (other_text text k (λ some. none-some (slot_of k) (sym none ∙ some)))))

first_held : (o : Option (Bor Value)) (v : Bor Value) (rest : Option Data)
    → option_or (option_map (λ w. view w.now) (option_or o (Some v))) rest
    ≡ option_or (option_map (λ w. view w.now) o) (Some (view v.now))
first_held None v rest = refl
first_held (Some w) v rest = refl

-- a member is put at the place of its key, where nothing is there
pub at_its_slot : (values : List (Option (Bor Value))) (text : List ℕ) (v : Bor Value) (ms : Members) (slot : ℕ)
    (k : Key) → length values ≡ 32 → named text ≡ Some slot
    → has_so_far (set values slot (option_or (get_or values slot None) (Some v))) ms k
    ≡ has_so_far values (member text (view v.now) ms) k
at_its_slot values text v ms slot k long is = ⊎_elim here there (cases_eq (slot_of k) slot)
  where
    put : Option (Bor Value)
    put = option_or (get_or values slot None) (Some v)

    here : slot_of k ≡ slot → has_so_far (set values slot put) ms k
        ≡ has_so_far values (member text (view v.now) ms) k
    here same =
        let text_is : key_text k ≡ text = its_text text k (is ∙ ap Some (sym same)) in
        let at : get_or (set values slot put) (slot_of k) None ≡ put =
        ap (λ (n : ℕ). get_or (set values slot put) n None) same
        ∙ get_or-set_same values slot put None (omega (arith, long, same, slot_within k)) in
        let first : get_member (key_text k) (member text (view v.now) ms) ≡ Some (view v.now) =
        get_first (key_text k) text (view v.now) ms
        ∙ ap (λ (b : Bool). cond b (Some (view v.now)) (get_member (key_text k) ms))
        (ap (bytes_eq (key_text k)) (sym text_is) ∙ same_again (key_text k)) in
        ap (λ (o : Option (Bor Value)). option_or (option_map (λ w. view w.now) o) (get_member (key_text k) ms)) at
        ∙ first_held (get_or values slot None) v (get_member (key_text k) ms)
        ∙ ap (λ (n : ℕ). option_or (option_map (λ w. view w.now) (get_or values n None)) (Some (view v.now))) (sym same)
        ∙ ap (option_or (option_map (λ w. view w.now) (get_or values (slot_of k) None))) (sym first)

    there : (slot_of k ≡ slot → ⊥) → has_so_far (set values slot put) ms k
        ≡ has_so_far values (member text (view v.now) ms) k
    there apart =
        let rest : get_member (key_text k) (member text (view v.now) ms) ≡ get_member (key_text k) ms =
        get_first (key_text k) text (view v.now) ms
        ∙ ap (λ (b : Bool). cond b (Some (view v.now)) (get_member (key_text k) ms))
        (other_text text k (λ some. apart (same_Some (slot_of k) slot (sym some ∙ is)))) in
        ap (λ (o : Option (Bor Value)). option_or (option_map (λ w. view w.now) o) (get_member (key_text k) ms))
        (get_or-set_other values slot (slot_of k) put None apart)
        ∙ ap (option_or (option_map (λ w. view w.now) (get_or values (slot_of k) None))) (sym rest)
