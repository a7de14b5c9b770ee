use Rattle.std.proofs.Common.{◌≡◌, ◌<◌, ◌≤◌, ◌+◌, ◌∷◌, [], ◌++◌, List, ℕ, length, take, drop, get_or, set, sym}
use Rattle.std.proofs.Common.{ap, subst, ◌∙◌, arith}
use Rattle.std.specs.Prelude.{vec_len, vec_capacity}
use Rattle.std.specs.Global.{Vec}
use Rattle.std.specs.List.{All}
use Rattle.std.proofs.lemmas.List.{length-map, take_more, drop_more}
use Rattle.std.proofs.lemmas.List.Elements.{All-head, All-tail}
use Rattle.ats_admission_users.specs.Users.{entry_at}
use Rattle.ats_admission_users.specs.Lists.{items_of, HasRoom, Enters}
use Rattle.ats_admission_users.specs.declared.entry.Entry.{Entry}
use Rattle.ats_admission_users.proofs.ListLemmas.{enters_more, not_before, apart_behind, room_apart, items_set, item_at}
use Rattle.ats_admission_users.proofs.Slots.{hop_at}
use Rattle.ats_admission_users.proofs.port_users.enter.Goals as goal

pub push_reserved-requires : goal.push_reserved-requires
push_reserved-requires c =
    let path : List ℕ = c.args.path.now in
    let i : ℕ = c.loop-hop.hop in
    let lists : List (Vec Entry) = c.loop-hop.lists.items in
    let behind : All (HasRoom lists) (get_or path i 0 ∷ drop (i + 1) path) =
    subst (All (HasRoom lists)) (drop_more path i 0 c.loop-hop-test.true) c.loop-hop.invariant.room in
    let room : vec_len (get_or lists (get_or path i 0) c.index_mut.result.now) + 1
    ≤ vec_capacity (get_or lists (get_or path i 0) c.index_mut.result.now) =
    All-head (HasRoom lists) (get_or path i 0) (drop (i + 1) path) behind c.index_mut.result.now in
    let here : vec_len c.index_mut.result.now + 1 ≤ vec_capacity c.index_mut.result.now =
    subst (λ (v : Vec Entry). vec_len v + 1 ≤ vec_capacity v) (sym c.index_mut.ensures.value) room in
    omega (arith, here)

pub loop-hop-preserved : goal.loop-hop-preserved
loop-hop-preserved c =
    let path : List ℕ = c.args.path.now in
    let i : ℕ = c.loop-hop.hop in
    let port : ℕ = get_or path i 0 in
    let entry : ℕ → Entry = λ (p : ℕ). entry_at p c.args.slot path in
    let lists : List (Vec Entry) = c.loop-hop.lists.items in
    let first : List (List Entry) = items_of c.args.lists.now.items in
    let long : length lists ≡ length c.args.lists.now.items =
    sym (length-map lists (λ (v : Vec Entry). v.items)) ∙ c.loop-hop.invariant.entered.count
    ∙ length-map c.args.lists.now.items (λ (v : Vec Entry). v.items) in
    let within : port < length c.args.lists.now.items = c.requires.ports i 0 c.loop-hop-test.true in
    let behind : All (HasRoom lists) (port ∷ drop (i + 1) path) =
    subst (All (HasRoom lists)) (drop_more path i 0 c.loop-hop-test.true) c.loop-hop.invariant.room in
    let pushed : ℕ → Entry = λ (hop : ℕ). (let e : Entry = record { slot = c.args.slot; hop = hop } in e) in
    let list : c.push_reserved.new.self.items ≡ get_or (items_of lists) port [] ++ entry port ∷ [] =
    c.push_reserved.ensures.items
    ∙ ap (λ (l : List Entry). l ++ pushed i ∷ []) (ap (λ (v : Vec Entry). v.items) c.index_mut.ensures.value
    ∙ sym (item_at lists port c.index_mut.result.now [] (omega (arith, long, within))))
    ∙ ap (λ (hop : ℕ). get_or (items_of lists) port [] ++ pushed hop ∷ [])
    (sym (hop_at path i c.requires.apart c.loop-hop-test.true)) in
    record {
      entered =
          subst (λ (p : List ℕ). Enters entry p first (items_of (set lists port c.push_reserved.new.self)))
          (sym (take_more path i 0 c.loop-hop-test.true))
          (subst (λ (l : List (List Entry)). Enters entry (take i path ++ port ∷ []) first l)
          (sym (items_set lists port c.push_reserved.new.self))
          (enters_more entry port (take i path) first (items_of lists) c.push_reserved.new.self.items
          (omega (arith, within, length-map c.args.lists.now.items (λ (v : Vec Entry). v.items)))
          (not_before path i c.requires.apart c.loop-hop-test.true) c.loop-hop.invariant.entered list));
      room = room_apart lists port c.push_reserved.new.self (drop (i + 1) path)
          (apart_behind path i c.requires.apart c.loop-hop-test.true)
          (All-tail (HasRoom lists) port (drop (i + 1) path) behind);
    }
