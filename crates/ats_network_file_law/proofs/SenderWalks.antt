-- Entries one after another, as far as the first that has a fault.
use Rattle.std.proofs.Common.{◌≡◌, ◌⊎◌, inl, inr, List, [], ◌∷◌, ◌++◌, Result, Ok, Err, refl, sym, ap, subst}
use Rattle.std.proofs.Common.{append_assoc}
use Rattle.std.specs.Prelude.{map}
use Rattle.std.proofs.lemmas.List.{append-nil}
use Rattle.ats_num.specs.Failure.{◌>>=◌}
use Rattle.ats_topology.specs.Topology.{DeclaredTopology}
use Rattle.ats_network.specs.Network.{DeclaredNetwork}
use Rattle.ats_network_table.specs.declared.format.Format.{Format}
use Rattle.ats_network_file.specs.Senders.{all_added}
use Rattle.ats_network_file.specs.declared.senders.Place.{Place}
use Rattle.ats_network_file.specs.declared.fault.NetFault.{NetFault}
use Rattle.ats_network_file_law.specs.SenderFaults.{HasFault, SenderEntry}
use Rattle.ats_network_file_law.proofs.Ends.{grouped}

-- behind some entries that were taken, none of these has a fault
abbrev pub AreTakenBehind : Format → DeclaredTopology → List SenderEntry → List SenderEntry → Type 0
AreTakenBehind format topology done entries = (before : List SenderEntry) (entry : SenderEntry)
    (after : List SenderEntry)
    (f : NetFault) → before ++ entry ∷ after ≡ entries → HasFault format topology (done ++ before) entry f → ⊥

-- behind some entries that were taken, the first fault of these
pub record IsFirstBehind (format : Format) (topology : DeclaredTopology) (done entries : List SenderEntry)
    (f : NetFault) : Type 0 where
  pub before : List SenderEntry
  pub entry : SenderEntry
  pub after : List SenderEntry
  pub cut : before ++ entry ∷ after ≡ entries
  pub taken : AreTakenBehind format topology done before
  pub found : HasFault format topology (done ++ before) entry f

-- an outcome is the first fault of these entries, or they have none
pub record Tells (format : Format) (topology : DeclaredTopology) (done entries : List SenderEntry)
    (r : Result DeclaredNetwork NetFault) : Type 0 where
  pub first : (f : NetFault) → r ≡ Err f → IsFirstBehind format topology done entries f
  pub given : (f : NetFault) → IsFirstBehind format topology done entries f → r ≡ Err f

-- an outcome is the fault of this one entry, or a network with it
pub record TellsOne (format : Format) (topology : DeclaredTopology) (done : List SenderEntry) (entry : SenderEntry)
    (r : Result DeclaredNetwork NetFault) (Next : DeclaredNetwork → Type 0) : Type 0 where
  pub first : (f : NetFault) → r ≡ Err f → HasFault format topology done entry f
  pub given : (f : NetFault) → HasFault format topology done entry f → r ≡ Err f
  pub next : (s : DeclaredNetwork) → r ≡ Ok s → Next s

pub nothing : {E : Type 0} (before : List E) (entry : E) (after : List E) → before ++ entry ∷ after ≡ [] → ⊥
nothing [] entry after h = cc h
nothing (x ∷ before) entry after h = cc h

-- no entry stands before the first
at_once : (format : Format) (topology : DeclaredTopology) (done : List SenderEntry) (entry : SenderEntry) (f : NetFault)
    → HasFault format topology (done ++ []) entry f → HasFault format topology done entry f
at_once format topology done entry f h =
    subst (λ (es : List SenderEntry). HasFault format topology es entry f) (append-nil done) h

none_before : (format : Format) (topology : DeclaredTopology) (done : List SenderEntry) (entry : SenderEntry)
    (f : NetFault) → HasFault format topology done entry f → HasFault format topology (done ++ []) entry f
none_before format topology done entry f h =
    subst (λ (es : List SenderEntry). HasFault format topology es entry f) (sym (append-nil done)) h

-- an entry that was taken counts to those before, or to those behind
shorter : (format : Format) (topology : DeclaredTopology) (done : List SenderEntry) (e : SenderEntry)
    (before : List SenderEntry)
    (entry : SenderEntry) (f : NetFault) → HasFault format topology (done ++ e ∷ before) entry f
    → HasFault format topology ((done ++ e ∷ []) ++ before) entry f
shorter format topology done e before entry f h =
    subst (λ (es : List SenderEntry). HasFault format topology es entry f) (sym (append_assoc done (e ∷ []) before)) h

longer : (format : Format) (topology : DeclaredTopology) (done : List SenderEntry) (e : SenderEntry)
    (before : List SenderEntry)
    (entry : SenderEntry) (f : NetFault) → HasFault format topology ((done ++ e ∷ []) ++ before) entry f
    → HasFault format topology (done ++ e ∷ before) entry f
longer format topology done e before entry f h =
    subst (λ (es : List SenderEntry). HasFault format topology es entry f) (append_assoc done (e ∷ []) before) h

-- an entry with a fault is the first
refused : (format : Format) (topology : DeclaredTopology) (done : List SenderEntry) (e : SenderEntry)
    (entries : List SenderEntry)
    (f : NetFault) → HasFault format topology done e f → IsFirstBehind format topology done (e ∷ entries) f
refused format topology done e entries f h = record {
  before = [];
  entry = e;
  after = entries;
  cut = refl;
  taken = λ before entry after g cut found. nothing before entry after cut;
  found = none_before format topology done e f h;
}

-- behind an entry without a fault it is the first of the others
passed : (format : Format) (topology : DeclaredTopology) (done : List SenderEntry) (e : SenderEntry)
    (entries : List SenderEntry) (f : NetFault) → ((g : NetFault) → HasFault format topology done e g → ⊥)
    → IsFirstBehind format topology (done ++ e ∷ []) entries f → IsFirstBehind format topology done (e ∷ entries) f
passed format topology done e entries f sound t = record {
  before = e ∷ t.before;
  entry = t.entry;
  after = t.after;
  cut = ap (λ (es : List SenderEntry). e ∷ es) t.cut;
  taken = taken;
  found = longer format topology done e t.before t.entry f t.found;
}
  where
    taken : AreTakenBehind format topology done (e ∷ t.before)
    taken [] x after g cut found =
        let same : x ≡ e = cc cut in
        sound g (subst (λ (y : SenderEntry). HasFault format topology done y g) same
        (at_once format topology done x g found))
    taken (y ∷ ys) x after g cut found =
        let same : y ≡ e = cc cut in
        let rest : ys ++ x ∷ after ≡ t.before = cc cut in
        t.taken ys x after g rest (shorter format topology done e ys x g
        (subst (λ (z : SenderEntry). HasFault format topology (done ++ z ∷ ys) x g) same found))

-- the first of all is the entry, or it has no fault and it is the first of the others
abbrev Sooner : Format → DeclaredTopology → List SenderEntry → SenderEntry → List SenderEntry → NetFault → Type 0
Sooner format topology done e entries f = HasFault format topology done e f
    ⊎ (((g : NetFault) → HasFault format topology done e g → ⊥)
    × IsFirstBehind format topology (done ++ e ∷ []) entries f)

sooner : (format : Format) (topology : DeclaredTopology) (done : List SenderEntry) (e : SenderEntry)
    (entries : List SenderEntry)
    (f : NetFault) → IsFirstBehind format topology done (e ∷ entries) f → Sooner format topology done e entries f
sooner format topology done e entries f b = by b.before b.cut b.taken b.found
  where
    by : (before : List SenderEntry) → before ++ b.entry ∷ b.after ≡ e ∷ entries
        → AreTakenBehind format topology done before → HasFault format topology (done ++ before) b.entry f
        → Sooner format topology done e entries f
    by [] cut taken found =
        let same : b.entry ≡ e = cc cut in
        inl (subst (λ (y : SenderEntry). HasFault format topology done y f) same
        (at_once format topology done b.entry f found))
    by (x ∷ before) cut taken found =
        let same : x ≡ e = cc cut in
        let rest : before ++ b.entry ∷ b.after ≡ entries = cc cut in
        inr (
          λ g h. taken [] x before g refl (none_before format topology done x g
              (subst (λ (y : SenderEntry). HasFault format topology done y g) (sym same) h)),
          record {
            before = before;
            entry = b.entry;
            after = b.after;
            cut = rest;
            taken = λ ys y after g inner had. taken (x ∷ ys) y after g
                (ap (λ (es : List SenderEntry). x ∷ es) inner)
                (subst (λ (z : SenderEntry). HasFault format topology (done ++ z ∷ ys) y g) (sym same)
                (longer format topology done e ys y g had));
            found = shorter format topology done e before b.entry f
                (subst (λ (z : SenderEntry). HasFault format topology (done ++ z ∷ before) b.entry f) same found);
          },
        )

-- one entry and then the others
step : (format : Format) (topology : DeclaredTopology) (done : List SenderEntry) (e : SenderEntry)
    (entries : List SenderEntry)
    (r : Result DeclaredNetwork NetFault) (k : DeclaredNetwork → Result DeclaredNetwork NetFault)
    → ((f : NetFault) → r ≡ Err f → HasFault format topology done e f)
    → ((f : NetFault) → HasFault format topology done e f → r ≡ Err f)
    → ((s : DeclaredNetwork) → r ≡ Ok s → Tells format topology (done ++ e ∷ []) entries (k s))
    → Tells format topology done (e ∷ entries) (r >>= k)
step format topology done e entries (Err x) k first given next = record {
  first = λ f h. (
      let same : x ≡ f = cc h in
      refused format topology done e entries f (first f (ap Err same)));
  given = λ f b. elim (sooner format topology done e entries f b) [
    | inl h ↦ (let same : x ≡ f = cc (given f h) in ap Err same)
    | inr h ↦ absurd (h.0 x (first x refl))
  ];
}
step format topology done e entries (Ok s) k first given next = record {
  first = λ f h. passed format topology done e entries f (λ g had. cc (given g had)) ((next s refl).first f h);
  given = λ f b. elim (sooner format topology done e entries f b) [
    | inl h ↦ cc (given f h)
    | inr h ↦ (next s refl).given f h.1
  ];
}

-- all entries of a list, and then others
pub walk : {D : Type 0} (format : Format) (topology : DeclaredTopology) (shape : Place × D → SenderEntry)
    (added : DeclaredNetwork → Place → D → Result DeclaredNetwork NetFault)
    (Stand : List SenderEntry → DeclaredNetwork → Type 0)
    → ((done : List SenderEntry) (s : DeclaredNetwork) (d : Place × D) → Stand done s
    → TellsOne format topology done (shape d) (added s d.0 d.1) (λ next. Stand (done ++ shape d ∷ []) next))
    → (more : List SenderEntry) (k : DeclaredNetwork → Result DeclaredNetwork NetFault)
    → ((done : List SenderEntry) (s : DeclaredNetwork) → Stand done s → Tells format topology done more (k s))
    → (done : List SenderEntry) (s : DeclaredNetwork) (ds : List (Place × D)) → Stand done s
    → Tells format topology done (map shape ds ++ more) (all_added added s ds >>= k)
walk {D} format topology shape added Stand one more k last done s [] stand = last done s stand
walk {D} format topology shape added Stand one more k last done s (d ∷ ds) stand =
    let here = one done s d stand in
    subst (Tells format topology done (map shape (d ∷ ds) ++ more))
    (sym (grouped (added s d.0 d.1) (λ next. all_added added next ds) k))
    (step format topology done (shape d) (map shape ds ++ more) (added s d.0 d.1)
    (λ next. all_added added next ds >>= k) here.first here.given
    (λ next is. walk format topology shape added Stand one more k last (done ++ shape d ∷ []) next ds
    (here.next next is)))
