use Rattle.std.proofs.Common.{◌≡◌, ℕ, ◌-◌, ◌<◌, ◌≤◌, List, [], ◌∷◌, ◌++◌, length, get_or, All, ap, refl, inl, inr}
use Rattle.std.proofs.Common.{arith}
use Rattle.std.specs.Prelude.{IsPermutation}
use Rattle.std.proofs.lemmas.Bool.{cases_eq, cases_lt}
use Rattle.std.proofs.lemmas.List.{length-map, get_or-map, map-append}
use Rattle.std.proofs.lemmas.List.Elements.{All-cons, All-head, All-tail, All-push}
use Rattle.std.proofs.lemmas.List.Sorted.{All-permutation}
use Rattle.ats_port_rule.specs.Transmission.{Transmission}
use Rattle.ats_port_rule.specs.PortRule.{StartsAfterGap}
use Rattle.ats_port_rule.specs.Order.{Precedes, MayFollow, Follows, IsTimely, IsInOrder}
use Rattle.ats_port_rule.proofs.InOrder.{rule_from_order, tie_from_order}
use Rattle.ats_port_rule.proofs.OneMore.{gap-fewer, may_follow-more, in_order-push}
use Rattle.ats_transmit.specs.declared.offer.Offer.{Offer}
use Rattle.ats_transmit.specs.declared.sent.Sent.{Sent}
use Rattle.ats_transmit.specs.Sending.{transmission_of, transmissions, sent_at, begun, never, last_of, last_start}
use Rattle.ats_transmit.specs.Sending.{last_end, FitsAfter, IsLawful}
use Rattle.ats_transmit.specs.Picks.{MaySend}
use Rattle.ats_transmit.proofs.Anys.{any-at}

pub transmissions-push : (sent : List Sent) (x : Sent)
    → transmissions (sent ++ x ∷ []) ≡ transmissions sent ++ transmission_of x ∷ []
transmissions-push sent x = map-append transmission_of sent (x ∷ [])

-- the last transmission is the last sent
last_is : (sent : List Sent) (d : Transmission) → 0 < length sent
    → get_or (transmissions sent) (length sent - 1) d ≡ transmission_of (last_of sent)
last_is sent d h = get_or-map transmission_of sent (length sent - 1) never d (omega arith)

-- all transmissions have ended when the last one has
pub ends_by : (key : ℕ → ℕ → ℕ) (ps : ℕ) (sent : List Sent) → IsInOrder key ps (transmissions sent)
    → All (λ (x : Transmission). x.end ≤ last_end sent) (transmissions sent)
ends_by key ps sent o i d h =
    let ts = transmissions sent in
    let n : length ts ≡ length sent = length-map sent transmission_of in
    let j : ℕ = length sent - 1 in
    let last : (get_or ts j d).end ≡ last_end sent = ap (λ (x : Transmission). x.end) (last_is sent d (omega arith)) in
    elim (cases_eq i j) as (λ _. (get_or ts i d).end ≤ last_end sent) [
      | inl e ↦
          (let same : (get_or ts i d).end ≡ (get_or ts j d).end = ap (λ (k : ℕ). (get_or ts k d).end) e in
          omega arith)
      | inr other ↦
          (let f : (get_or ts i d).end ≤ (get_or ts j d).start = (o.pairs i j d (omega arith) (omega arith)).ended in
          let t = (o.each j d (omega arith)).takes in
          omega arith)
    ]

-- no transmission started after the last one
pub starts_by : (key : ℕ → ℕ → ℕ) (ps : ℕ) (sent : List Sent) → IsInOrder key ps (transmissions sent)
    → All (λ (x : Transmission). x.start ≤ last_start sent) (transmissions sent)
starts_by key ps sent o i d h =
    let ts = transmissions sent in
    let n : length ts ≡ length sent = length-map sent transmission_of in
    let j : ℕ = length sent - 1 in
    let last : (get_or ts j d).start ≡ last_start sent =
    ap (λ (x : Transmission). x.start) (last_is sent d (omega arith)) in
    elim (cases_eq i j) as (λ _. (get_or ts i d).start ≤ last_start sent) [
      | inl e ↦
          (let same : (get_or ts i d).start ≡ (get_or ts j d).start = ap (λ (k : ℕ). (get_or ts k d).start) e in
          omega arith)
      | inr other ↦
          (let f : (get_or ts i d).end ≤ (get_or ts j d).start = (o.pairs i j d (omega arith) (omega arith)).ended in
          let t = (o.each i d h).takes in
          omega arith)
    ]

-- a frame that becomes eligible after a start may follow that transmission
may_follow-later : (key : ℕ → ℕ → ℕ) (sent : List Transmission) (x y : Transmission) → x.start < y.eligible
    → MayFollow key sent x y
may_follow-later key sent x y later = record { behind = λ h. absurd (omega arith); waited = λ gap. omega arith }

-- a frame that becomes eligible after the last start fits
fits-later : (key : ℕ → ℕ → ℕ) (ps : ℕ) (sent : List Sent) (o : Offer) → IsInOrder key ps (transmissions sent)
    → (0 < length sent → last_start sent < o.eligible.0) → FitsAfter key ps (transmissions sent) o
fits-later key ps sent o order later start i d h =
    let x = get_or (transmissions sent) i d in
    let by : x.start ≤ last_start sent = starts_by key ps sent order i d h in
    let n : length (transmissions sent) ≡ length sent = length-map sent transmission_of in
    let after : last_start sent < o.eligible.0 = later (omega arith) in
    may_follow-later key (transmissions sent) x (begun ps o start) (omega arith)

pub lawful-open : (key : ℕ → ℕ → ℕ) (ps : ℕ) → IsLawful key ps [] []
lawful-open key ps =
    let order : IsInOrder key ps [] =
    record { each = λ i d h. absurd (omega arith); pairs = λ i j d b h. absurd (omega arith) } in
    record {
      rule = rule_from_order key ps [] order;
      tie = tie_from_order key ps [] order;
      order = order;
      fits = λ i d h. absurd (omega arith);
    }

-- one more frame is held
pub lawful-offer : (key : ℕ → ℕ → ℕ) (ps : ℕ) (held new : List Offer) (sent : List Sent) (o : Offer)
    → IsLawful key ps held sent → (0 < length sent → last_start sent < o.eligible.0) → IsPermutation (o ∷ held) new
    → IsLawful key ps new sent
lawful-offer key ps held new sent o l later p =
    let Fits : Offer → Type 0 = λ (x : Offer). FitsAfter key ps (transmissions sent) x in
    record {
      rule = l.rule;
      tie = l.tie;
      order = l.order;
      fits = All-permutation Fits (o ∷ held) new p
          (All-cons Fits o held (fits-later key ps sent o l.order later) l.fits);
    }

-- where nothing ended now, and the port is not late, no held frame was eligible before
prompt_at : (now : ℕ) (held : List Offer) (sent : List Sent) (y : Transmission) → y.start ≡ now → last_end sent ≤ now
    → ((time : ℕ) → MaySend held sent time → now ≤ time) → StartsAfterGap (transmissions sent) y
    → All (λ (o : Offer). now ≤ o.eligible.0) held
prompt_at now held [] y starts free due gap i d h =
    let o = get_or held i d in
    let By : Offer → Type 0 = λ (x : Offer). x.eligible.0 ≤ o.eligible.0 in
    due o.eligible.0 (record { free = omega arith; eligible = any-at By held i d h (omega arith) })
prompt_at now held (s ∷ ss) y starts free due gap i d h =
    let sent : List Sent = s ∷ ss in
    let o = get_or held i d in
    let e : ℕ = last_end sent in
    let By : ℕ → Offer → Type 0 = λ (t : ℕ) (x : Offer). x.eligible.0 ≤ t in
    elim (cases_lt o.eligible.0 e) as (λ _. now ≤ o.eligible.0) [
      | inl before ↦
          (let at = any-at (By e) held i d h (omega arith) in
          let may : MaySend held sent e = record { free = omega arith; eligible = at } in
          let latest : now ≤ e = due e may in
          let n : length (transmissions sent) ≡ length sent = length-map sent transmission_of in
          let j : ℕ = length sent - 1 in
          let x : Transmission = transmission_of s in
          let last : (get_or (transmissions sent) j x).end ≡ e =
          ap (λ (t : Transmission). t.end) (last_is sent x (omega arith)) in
          absurd (gap j x (omega arith) (omega arith)))
      | inr after ↦
          due o.eligible.0 (record { free = after; eligible = any-at (By o.eligible.0) held i d h (omega arith) })
    ]

-- when a frame starts has no part in whether it is preceded
precedes-any : (key : ℕ → ℕ → ℕ) (ps now start : ℕ) (x : Transmission) (o : Offer) → Precedes key x (begun ps o now)
    → Precedes key x (begun ps o start)
precedes-any key ps now start x o p = record { class = p.class; eligible = p.eligible; tie = p.tie }

-- a held frame fits after one more transmission
fits-start : (key : ℕ → ℕ → ℕ) (ps now : ℕ) (sent : List Transmission) (started o : Offer) → FitsAfter key ps sent o
    → (o.eligible.0 ≤ now → Precedes key (begun ps started now) (begun ps o now))
    → (StartsAfterGap sent (begun ps started now) → now ≤ o.eligible.0)
    → FitsAfter key ps (sent ++ begun ps started now ∷ []) o
fits-start key ps now sent started o fits first prompt start =
    let y = begun ps started now in
    let z = begun ps o start in
    All-push (λ (x : Transmission). MayFollow key (sent ++ y ∷ []) x z) sent y
    (λ i d h. may_follow-more key sent y (get_or sent i d) z (fits start i d h))
    (record {
      behind = λ eligible. precedes-any key ps now start y o (first eligible);
      waited = λ gap. prompt (gap-fewer sent y y gap);
    })

-- a held frame is sent
pub lawful-start : (key : ℕ → ℕ → ℕ) (ps now : ℕ) (held new : List Offer) (sent : List Sent) (started : Offer)
    → IsLawful key ps held sent → IsPermutation held (started ∷ new) → started.eligible.0 ≤ now → last_end sent ≤ now
    → ((time : ℕ) → MaySend held sent time → now ≤ time)
    → All (λ (o : Offer). o.eligible.0 ≤ now → Precedes key (begun ps started now) (begun ps o now)) new
    → IsLawful key ps new (sent ++ sent_at ps started now ∷ [])
lawful-start key ps now held new sent started l p eligible free due first =
    let ts = transmissions sent in
    let y : Transmission = begun ps started now in
    let Fits : Offer → Type 0 = λ (x : Offer). FitsAfter key ps ts x in
    let fits = All-permutation Fits held (started ∷ new) p l.fits in
    let Prompt : Offer → Type 0 = λ (o : Offer). StartsAfterGap ts y → now ≤ o.eligible.0 in
    let prompts : All Prompt (started ∷ new) =
    All-permutation Prompt held (started ∷ new) p (λ i d h gap. prompt_at now held sent y refl free due gap i d h) in
    let fits_started = All-head Fits started new fits in
    let after : All (λ (x : Transmission). Follows key ts x y) ts = λ i d h.
    record { ended = omega (arith, ends_by key ps sent l.order i d h); may_follow = fits_started now i d h } in
    let timely : IsTimely ps ts y =
    record { waits = eligible; takes = refl; prompt = All-head Prompt started new prompts } in
    let order : IsInOrder key ps (ts ++ y ∷ []) = in_order-push key ps ts y l.order after timely in
    let in_sent : IsInOrder key ps (transmissions (sent ++ sent_at ps started now ∷ [])) =
    rw (transmissions-push sent (sent_at ps started now)) order in
    let all_fit : All (λ (o : Offer). FitsAfter key ps (ts ++ y ∷ []) o) new = λ i d h.
    fits-start key ps now ts started (get_or new i d) (All-tail Fits started new fits i d h)
    (first i d h) (All-tail Prompt started new prompts i d h) in
    record {
      rule = rule_from_order key ps _ in_sent;
      tie = tie_from_order key ps _ in_sent;
      order = in_sent;
      fits = rw (transmissions-push sent (sent_at ps started now)) all_fit;
    }
