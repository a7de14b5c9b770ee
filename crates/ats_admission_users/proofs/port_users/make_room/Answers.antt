use Rattle.std.proofs.Common.{◌≡◌, ◌<◌, ◌≤◌, [], List, ℕ, length, take, get_or, set, sym, ap, subst, ◌∙◌}
use Rattle.std.proofs.Common.{arith}
use Rattle.std.specs.Global.{Vec}
use Rattle.std.specs.List.{All}
use Rattle.std.proofs.lemmas.List.{length-map, take_more, take_all, set-get_or}
use Rattle.ats_admission_users.specs.Lists.{items_of, HasRoom}
use Rattle.ats_admission_users.specs.declared.entry.Entry.{Entry}
use Rattle.ats_admission_users.proofs.ListLemmas.{room_set, items_set, item_at}
use Rattle.ats_admission_users.proofs.port_users.make_room.Goals as goal

-- a list with room for more has the same items
same : (lists : List (Vec Entry)) (port : ℕ) (old new : Vec Entry) → port < length lists → old ≡ get_or lists port old
    → new.items ≡ old.items → items_of (set lists port new) ≡ items_of lists
same lists port old new within was is =
    items_set lists port new
    ∙ ap (set (items_of lists) port)
    (is ∙ ap (λ (v : Vec Entry). v.items) was ∙ sym (item_at lists port old [] within))
    ∙ set-get_or (items_of lists) port []

-- there are as many lists as before
many : (old now : List (Vec Entry)) → items_of now ≡ items_of old → length now ≡ length old
many old now same =
    sym (length-map now (λ (v : Vec Entry). v.items)) ∙ ap (λ (l : List (List Entry)). length l) same
    ∙ length-map old (λ (v : Vec Entry). v.items)

pub returns-in_err-reserve-clause-items : goal.returns-in_err-reserve-clause-items
returns-in_err-reserve-clause-items c =
    let path : List ℕ = c.args.path.now in
    let i : ℕ = c.loop-port.port-index in
    let long = many c.args.lists.now.items c.loop-port.lists.items c.loop-port.invariant.same in
    let within : get_or path i 0 < length c.args.lists.now.items = c.requires i 0 c.loop-port-test.true in
    same c.loop-port.lists.items (get_or path i 0) c.index_mut.result.now c.reserve.new.self
    (omega (arith, long, within)) c.index_mut.ensures.value c.reserve.ensures.items
    ∙ c.loop-port.invariant.same

pub loop-port-preserved : goal.loop-port-preserved
loop-port-preserved c =
    let path : List ℕ = c.args.path.now in
    let i : ℕ = c.loop-port.port-index in
    let lists : List (Vec Entry) = c.loop-port.lists.items in
    let long = many c.args.lists.now.items lists c.loop-port.invariant.same in
    let within : get_or path i 0 < length c.args.lists.now.items = c.requires i 0 c.loop-port-test.true in
    record {
      same = same lists (get_or path i 0) c.index_mut.result.now c.reserve.new.self
          (omega (arith, long, within)) c.index_mut.ensures.value c.reserve.ensures.items
          ∙ c.loop-port.invariant.same;
      room = subst (All (HasRoom (set lists (get_or path i 0) c.reserve.new.self)))
          (sym (take_more path i 0 c.loop-port-test.true))
          (room_set lists (get_or path i 0) c.reserve.new.self (take i path) (omega (arith, long, within))
          c.in_ok-reserve.ensures.ok c.loop-port.invariant.room);
    }

pub returns-clause-room : goal.returns-clause-room
returns-clause-room c =
    let path : List ℕ = c.args.path.now in
    let i : ℕ = c.loop-port.port-index in
    let end : length path ≤ i = omega (arith, c.loop-port-test.false) in
    subst (All (HasRoom c.loop-port.lists.items)) (take_all i path end) c.loop-port.invariant.room
