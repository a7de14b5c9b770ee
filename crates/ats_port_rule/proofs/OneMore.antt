use Rattle.std.proofs.Common.{◌≡◌, ℕ, List, [], ◌∷◌, ◌++◌, get_or, All, arith}
use Rattle.std.proofs.Math.ListN.{get_or-append}
use Rattle.std.proofs.Common.{length-append}
use Rattle.std.proofs.lemmas.List.Elements.{All-push}
use Rattle.std.proofs.lemmas.List.Quantifiers.{all_pairs_push}
use Rattle.ats_port_rule.specs.Transmission.{Transmission}
use Rattle.ats_port_rule.specs.PortRule.{StartsAfterGap}
use Rattle.ats_port_rule.specs.Order.{MayFollow, Follows, IsTimely, IsInOrder}

-- a gap among more transmissions is a gap among fewer
pub gap-fewer : (sent : List Transmission) (y x : Transmission) → StartsAfterGap (sent ++ y ∷ []) x
    → StartsAfterGap sent x
gap-fewer sent y x gap i d h =
    let e : get_or (sent ++ y ∷ []) i d ≡ get_or sent i d = get_or-append sent (y ∷ []) d i h in
    rw (← e) (gap i d (omega (arith, length-append sent (y ∷ []))))

pub may_follow-more : (key : ℕ → ℕ → ℕ) (sent : List Transmission) (z x y : Transmission) → MayFollow key sent x y
    → MayFollow key (sent ++ z ∷ []) x y
may_follow-more key sent z x y m = record { behind = m.behind; waited = λ gap. m.waited (gap-fewer sent z x gap) }

follows-more : (key : ℕ → ℕ → ℕ) (sent : List Transmission) (z x y : Transmission) → Follows key sent x y
    → Follows key (sent ++ z ∷ []) x y
follows-more key sent z x y f = record { ended = f.ended; may_follow = may_follow-more key sent z x y f.may_follow }

timely-more : (ps : ℕ) (sent : List Transmission) (z x : Transmission) → IsTimely ps sent x
    → IsTimely ps (sent ++ z ∷ []) x
timely-more ps sent z x t =
    record { waits = t.waits; takes = t.takes; prompt = λ gap. t.prompt (gap-fewer sent z x gap) }

-- one more transmission, which follows each one before it
pub in_order-push : (key : ℕ → ℕ → ℕ) (ps : ℕ) (sent : List Transmission) (y : Transmission) → IsInOrder key ps sent
    → All (λ (x : Transmission). Follows key sent x y) sent → IsTimely ps sent y → IsInOrder key ps (sent ++ y ∷ [])
in_order-push key ps sent y o after t =
    record {
      each = All-push (λ (x : Transmission). IsTimely ps (sent ++ y ∷ []) x) sent y
          (λ i d h. timely-more ps sent y (get_or sent i d) (o.each i d h))
          (timely-more ps sent y y t);
      pairs = all_pairs_push (λ (x z : Transmission). Follows key (sent ++ y ∷ []) x z) sent y
          (λ i j d before h. follows-more key sent y (get_or sent i d) (get_or sent j d) (o.pairs i j d before h))
          (λ i d h. follows-more key sent y (get_or sent i d) y (after i d h));
    }
