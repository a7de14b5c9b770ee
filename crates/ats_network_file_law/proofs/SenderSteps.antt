-- Which fault one entry of a sender has behind those before it.
use Rattle.std.proofs.Common.{◌≡◌, ◌∙◌, ◌⊎◌, ℕ, ◌≤◌, Bool, true, false, cond, List, Option, Some, None}
use Rattle.std.proofs.Common.{Result, Ok, Err, inl, inr, refl, sym, ap, subst}
use Rattle.std.specs.Prelude.{if◌then◌else◌}
use Rattle.ats_num.specs.Failure.{◌>>=◌, unless}
use Rattle.ats_topology.specs.Topology.{DeclaredTopology}
use Rattle.ats_streams.specs.declared.fault.StreamFault.{StreamFault}
use Rattle.ats_network.specs.Network.{DeclaredNetwork}
use Rattle.ats_network.specs.declared.fault.PushFault.{PushFault}
use Rattle.ats_network.specs.declared.fault.PushFault.TheVariants.{NameTaken, IdentityTaken, Limit}
use Rattle.ats_network_table.specs.declared.fault.DocumentFault.TheVariants as form
use Rattle.ats_route_tree.specs.Legs.{DeclaredLegs}
use Rattle.ats_network_table.specs.declared.format.Format.{Format}
use Rattle.ats_network_file.specs.Reading.{most_ports_of}
use Rattle.ats_network_file.specs.Senders.{refusal_of, table_of}
use Rattle.ats_network_file.specs.declared.senders.SenderTable.{SenderTable}
use Rattle.ats_network_file.specs.declared.fault.NetFault.{NetFault}
use Rattle.ats_network_file.specs.declared.fault.NetFault.TheVariants as net
use Rattle.ats_network_file_law.specs.SenderFaults.{HasFault, IsAt, IsNew, IsOverLimit, IsPathless, IsRouted, IsRuled}
use Rattle.ats_network_file_law.specs.SenderFaults.{SenderEntry, broken_over, count_in, identity_in}
use Rattle.ats_network_file_law.specs.SenderFaults.{is_identity_given, is_name_given, kind_in, most_in, name_in}
use Rattle.ats_network_file_law.specs.SenderFaults.{place_in}
use Rattle.ats_network_file_law.proofs.Ends.{ended}
use Rattle.ats_network_file_law.proofs.Routed.{Reads}

-- no tree has the routes of an entry, and it is refused
pathless_err : (format : Format) (topology : DeclaredTopology) (entry : SenderEntry)
    (read : Result DeclaredLegs NetFault)
    → Reads format topology entry read → IsPathless format topology entry
    → read ≡ Err (net.BadPath (place_in entry).table (place_in entry).number)
pathless_err format topology entry (Ok legs) reads none = absurd (none legs (reads.some legs refl))
pathless_err format topology entry (Err f) reads none =
    ap (λ (g : NetFault). let r : Result DeclaredLegs NetFault = Err g in r) (sym (reads.fault f refl))

-- and only then
pathless : (format : Format) (topology : DeclaredTopology) (entry : SenderEntry)
    (read : Result DeclaredLegs NetFault)
    (f : NetFault) → Reads format topology entry read → read ≡ Err f → IsPathless format topology entry
pathless format topology entry read f reads h = λ legs routed. refused read h (reads.given legs routed)
  where
    refused : (r : Result DeclaredLegs NetFault) {legs : DeclaredLegs} → r ≡ Err f → r ≡ Ok legs → ⊥
    refused (Ok x) e o = cc e
    refused (Err x) e o = cc o

-- why the network takes no sender of the entry behind these, where it is known whether it is over a limit
abbrev pub due : List SenderEntry → SenderEntry → Bool → Option PushFault
due before entry beyond =
    if is_name_given before (name_in entry) then Some NameTaken
    else if is_identity_given before (identity_in entry) then Some IdentityTaken
    else if beyond then Some Limit
    else None

-- how a network judges the sender of an entry over its legs
pub record Judges {X : Type 0} (format : Format) (topology : DeclaredTopology) (before : List SenderEntry)
    (entry : SenderEntry) (over : DeclaredLegs → X) (push : X → Option PushFault) : Type 0 where
  pub beyond : DeclaredLegs → Bool
  pub pushes : (legs : DeclaredLegs) → push (over legs) ≡ due before entry (beyond legs)
  pub past : (legs : DeclaredLegs) → IsRouted format topology entry legs
      → broken_over topology (most_ports_of format) entry legs ≡ None → beyond legs ≡ true
      → IsOverLimit format topology before entry
  pub given : (legs : DeclaredLegs) → IsRouted format topology entry legs → IsOverLimit format topology before entry
      → beyond legs ≡ true

-- what becomes of the legs of the entry
abbrev pub onward : {X : Type 0} → DeclaredTopology → ℕ → SenderEntry → (DeclaredLegs → X) → (X → Option PushFault)
    → (X → DeclaredNetwork) → DeclaredLegs → Result DeclaredNetwork NetFault
onward topology most entry over push grown legs =
    unless (net.Sender (place_in entry).table (place_in entry).number) (broken_over topology most entry legs)
    (over legs) >>= λ x. unless (refusal_of (place_in entry)) (push x) (grown x)

-- the place of an entry
at_its_place : (entry : SenderEntry) → IsAt entry (place_in entry).table (place_in entry).number
at_its_place entry = record { stands = refl; counted = refl }

-- an entry that breaks no rule has the fault that it is not taken for
push_fault : (format : Format) (topology : DeclaredTopology) (before : List SenderEntry) (entry : SenderEntry)
    (beyond : Bool)
    (f : NetFault) (x : DeclaredNetwork) → IsRuled format topology entry
    → (beyond ≡ true → IsOverLimit format topology before entry)
    → unless (refusal_of (place_in entry)) (due before entry beyond) x ≡ Err f → HasFault format topology before entry f
push_fault format topology before entry beyond f x ruled over h = by (is_name_given before (name_in entry)) refl h
  where
    past : (b : Bool) → beyond ≡ b → IsNew format topology before entry
        → is_identity_given before (identity_in entry) ≡ false
        → unless (refusal_of (place_in entry)) (cond b (Some Limit) None) x ≡ Err f
        → HasFault format topology before entry f
    past true e new own g =
        let same : net.Form (form.Limit (table_of (place_in entry).table)) ≡ f = cc g in
        subst (HasFault format topology before entry) same (refl, record { new = new; own = own; past = over e })
    past false e new own g = cc g

    own : (b : Bool) → is_identity_given before (identity_in entry) ≡ b → IsNew format topology before entry
        → unless (refusal_of (place_in entry)) (cond b (Some IdentityTaken) (cond beyond (Some Limit) None)) x ≡ Err f
        → HasFault format topology before entry f
    own true e new g =
        let same : net.IdentityTwice (place_in entry).number ≡ f = cc g in
        subst (HasFault format topology before entry) same
        (refl, record { new = new; taken = e })
    own false e new g = past beyond refl new e g

    by : (b : Bool) → is_name_given before (name_in entry) ≡ b
        → unless (refusal_of (place_in entry)) (cond b (Some NameTaken)
        (cond (is_identity_given before (identity_in entry)) (Some IdentityTaken) (cond beyond (Some Limit) None))) x
        ≡ Err f
        → HasFault format topology before entry f
    by true e g =
        let same : net.SenderTwice (place_in entry).table (place_in entry).number ≡ f = cc g in
        subst (HasFault format topology before entry) same (at_its_place entry, record { ruled = ruled; taken = e })
    by false e g =
        own (is_identity_given before (identity_in entry)) refl (record { ruled = ruled; named = e }) g

-- the fault that an entry is refused for is one that it has
pub fault_had : {X : Type 0} (format : Format) (topology : DeclaredTopology) (before : List SenderEntry)
    (entry : SenderEntry)
    (read : Result DeclaredLegs NetFault) (over : DeclaredLegs → X) (push : X → Option PushFault)
    (grown : X → DeclaredNetwork) (f : NetFault)
    → Reads format topology entry read
    → Judges format topology before entry over push
    → (read >>= onward topology (most_ports_of format) entry over push grown) ≡ Err f
    → HasFault format topology before entry f
fault_had {X} format topology before entry read over push grown f reads judges h =
    elim (ended read (onward topology (most_ports_of format) entry over push grown) f h) [
      | inl lost ↦ subst (HasFault format topology before entry) (reads.fault f lost)
          (at_its_place entry, pathless format topology entry read f reads lost)
      | inr later ↦ ruled later.value (reads.some later.value later.is)
          (broken_over topology (most_ports_of format) entry later.value) refl later.then
    ]
  where
    ruled : (legs : DeclaredLegs) → IsRouted format topology entry legs → (o : Option StreamFault)
        → broken_over topology (most_ports_of format) entry legs ≡ o
        → (unless (net.Sender (place_in entry).table (place_in entry).number) o (over legs)
        >>= λ x. unless (refusal_of (place_in entry)) (push x) (grown x)) ≡ Err f
        → HasFault format topology before entry f
    ruled legs routed (Some rule) e g =
        let same : net.Sender (place_in entry).table (place_in entry).number rule ≡ f = cc g in
        subst (HasFault format topology before entry) same
        (at_its_place entry, record { legs = legs; routed = routed; broken = e })
    ruled legs routed None e g =
        push_fault format topology before entry (judges.beyond legs) f (grown (over legs))
        (record { legs = legs; routed = routed; kept = e }) (judges.past legs routed e)
        (ap (λ (o : Option PushFault). unless (refusal_of (place_in entry)) o (grown (over legs)))
        (sym (judges.pushes legs)) ∙ g)

due_name : (before : List SenderEntry) (entry : SenderEntry) (beyond : Bool)
    → is_name_given before (name_in entry) ≡ true → due before entry beyond ≡ Some NameTaken
due_name before entry beyond h = rw h refl

due_identity : (before : List SenderEntry) (entry : SenderEntry) (beyond : Bool)
    → is_name_given before (name_in entry) ≡ false → is_identity_given before (identity_in entry) ≡ true
    → due before entry beyond ≡ Some IdentityTaken
due_identity before entry beyond h g = rw (h, g) refl

due_past : (before : List SenderEntry) (entry : SenderEntry) (beyond : Bool)
    → is_name_given before (name_in entry) ≡ false → is_identity_given before (identity_in entry) ≡ false
    → beyond ≡ true → due before entry beyond ≡ Some Limit
due_past before entry beyond h g past = rw (h, g, past) refl

-- an entry is refused for the fault that it has
pub had_given : {X : Type 0} (format : Format) (topology : DeclaredTopology) (before : List SenderEntry)
    (entry : SenderEntry)
    (read : Result DeclaredLegs NetFault) (over : DeclaredLegs → X) (push : X → Option PushFault)
    (grown : X → DeclaredNetwork) (f : NetFault)
    → Reads format topology entry read
    → Judges format topology before entry over push → HasFault format topology before entry f
    → (read >>= onward topology (most_ports_of format) entry over push grown) ≡ Err f
had_given {X} format topology before entry read over push grown f reads judges h = by f h
  where
    routed : (legs : DeclaredLegs) → IsRouted format topology entry legs
        → (read >>= onward topology (most_ports_of format) entry over push grown)
        ≡ onward topology (most_ports_of format) entry over push grown legs
    routed legs r =
        ap (λ (p : Result DeclaredLegs NetFault). p >>= onward topology (most_ports_of format) entry over push grown)
        (reads.given legs r)

    pushed : (r : IsRuled format topology entry) (p : PushFault) → due before entry (judges.beyond r.legs) ≡ Some p
        → (read >>= onward topology (most_ports_of format) entry over push grown) ≡ Err (refusal_of (place_in entry) p)
    pushed r p e =
        routed r.legs r.routed
        ∙ ap (λ (o : Option StreamFault). unless (net.Sender (place_in entry).table (place_in entry).number) o
        (over r.legs)
        >>= λ x. unless (refusal_of (place_in entry)) (push x) (grown x)) r.kept
        ∙ ap (λ (o : Option PushFault). unless (refusal_of (place_in entry)) o (grown (over r.legs)))
        (judges.pushes r.legs ∙ e)

    placed : (fault : SenderTable → ℕ → NetFault) (t : SenderTable) (m : ℕ) → IsAt entry t m
        → (let r : Result DeclaredNetwork NetFault = Err (fault (place_in entry).table (place_in entry).number) in r)
        ≡ Err (fault t m)
    placed fault t m at =
        ap (λ (u : SenderTable). let r : Result DeclaredNetwork NetFault = Err (fault u (place_in entry).number) in r)
        (sym at.stands)
        ∙ ap (λ (u : ℕ). let r : Result DeclaredNetwork NetFault = Err (fault t u) in r) (sym at.counted)

    by : (g : NetFault) → HasFault format topology before entry g
        → (read >>= onward topology (most_ports_of format) entry over push grown) ≡ Err g
    by (net.BadPath t m) k =
        ap (λ (p : Result DeclaredLegs NetFault). p >>= onward topology (most_ports_of format) entry over push grown)
        (pathless_err format topology entry read reads k.1)
        ∙ placed (λ u v. net.BadPath u v) t m k.0
    by (net.Sender t m rule) k =
        routed k.1.legs k.1.routed
        ∙ ap (λ (o : Option StreamFault). unless (net.Sender (place_in entry).table (place_in entry).number) o
        (over k.1.legs) >>= λ x. unless (refusal_of (place_in entry)) (push x) (grown x)) k.1.broken
        ∙ placed (λ u v. net.Sender u v rule) t m k.0
    by (net.SenderTwice t m) k =
        pushed k.1.ruled NameTaken (due_name before entry (judges.beyond k.1.ruled.legs) k.1.taken)
        ∙ placed (λ u v. net.SenderTwice u v) t m k.0
    by (net.IdentityTwice m) k =
        pushed k.1.new.ruled IdentityTaken
        (due_identity before entry (judges.beyond k.1.new.ruled.legs) k.1.new.named k.1.taken)
        ∙ ap (λ (u : ℕ). let r : Result DeclaredNetwork NetFault = Err (net.IdentityTwice u) in r) (sym k.0)
    by (net.Form (form.Limit t)) k =
        let ruled = k.1.new.ruled in
        pushed ruled Limit (due_past before entry (judges.beyond ruled.legs) k.1.new.named k.1.own
        (judges.given ruled.legs ruled.routed k.1.past))
        ∙ ap (λ u. let r : Result DeclaredNetwork NetFault = Err (net.Form (form.Limit u)) in r) (sym k.0)
    by (net.Form form.NotToml) k = absurd k
    by (net.Form (form.Missing t m key)) k = absurd k
    by (net.Form (form.Unknown t m)) k = absurd k
    by (net.Form (form.WrongKind t m key)) k = absurd k
    by (net.Topology fault) k = absurd k
