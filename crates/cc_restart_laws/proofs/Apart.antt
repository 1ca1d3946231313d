-- Two open pins of which one is exclusive have no page in common.
use Rattle.std.specs.Prelude.{◌≡◌, ℕ, Bool, true, false, cond, not, ◌==◌, ◌||◌, List, [], ◌∷◌, refl, if◌then◌else◌}
use Rattle.std.specs.List.{cons_option, filter}
use Rattle.std.specs.Option.{option_map}
use Rattle.std.specs.declared.option.Option.{Option}
use Rattle.std.specs.declared.option.Option.TheVariants.{Some, None}
use Rattle.std.proofs.Common.{ap, sym, subst, ◌∙◌}
use Rattle.std.proofs.lemmas.Bool.{eqb-true, eq-eqb, and_from, or_left, or_right}
use Rattle.cc_entry.specs.Kinds.{is_map, is_pin}
use Rattle.cc_entry.specs.Place.{Range}
use Rattle.cc_entry.specs.Pages.{has_page, pages_of, share_page, whole_range}
use Rattle.cc_entry.specs.declared.call.Call.{Call}
use Rattle.cc_entry.specs.declared.call.Call.TheVariants as call
use Rattle.cc_entry.specs.declared.hold.HoldKind.TheVariants as kind
use Rattle.cc_entry.specs.declared.reply.Outcome.TheVariants as outcome
use Rattle.cc_entry.specs.declared.entry.Entry.{Entry}
use Rattle.cc_entry.specs.declared.entry.Entry.TheVariants as entry
use Rattle.cc_model.specs.Acts.{file_of}
use Rattle.cc_model.specs.Conflicts.{bars_pin, busy, busy_by, pin_in_the_way}
use Rattle.cc_model.specs.Filing.{IsFiled, serves}
use Rattle.cc_model.specs.Good.{IsGoodSoFar}
use Rattle.cc_model.specs.History.{Effect, Did, CameIn, WentOut, Began, Ended, Synced, effect_of, history}
use Rattle.cc_model.specs.Holds.{Hold, changed_at, held_after, hold_at, holds_of, id_of, least_id, lesser, range_held, repinned}
use Rattle.cc_model.specs.Legal.{IsAdmitted}
use Rattle.cc_model.specs.Setup.{Setup}
use Rattle.cc_laws.proofs.HoldSteps.{changes_holds, holds_of-done, holds_of-came_in, holds_of-went_out, holds_of-began, holds_of-ended, holds_of-synced}
use Rattle.cc_laws.proofs.Lists1.{among-any, among-pages}
use Rattle.cc_laws.proofs.UnrefusedCalls.{unrefused}
use Rattle.cc_own.proofs.FoundHolds.{changed-found, changed-other, ended-gone, ended-other, some-is}
use Rattle.cc_own.proofs.OwnHolds.{filed-at}
use Rattle.cc_own.specs.Own.{hold_of_range}
use Rattle.cc_restart_laws.proofs.Entries.{admitted, did-entry, good-tail}

-- of the open holds, two pins with a page in common of which one is exclusive are one
abbrev pub AreApart : List Hold → Type 0
AreApart holds = (a b : ℕ) (one other : Hold) (p : ℕ) → (a == b) ≡ false → hold_at holds a ≡ Some one → hold_at holds b ≡ Some other →
    is_pin one.kind ≡ true → is_pin other.kind ≡ true → (one.exclusive || other.exclusive) ≡ true →
    has_page (range_held one) p ≡ true → has_page (range_held other) p ≡ true → ⊥

-- a hold has no such page in common with an open one
abbrev IsApartFrom : List Hold → Hold → Type 0
IsApartFrom holds new = (b : ℕ) (other : Hold) (p : ℕ) → hold_at holds b ≡ Some other → is_pin new.kind ≡ true → is_pin other.kind ≡ true →
    (new.exclusive || other.exclusive) ≡ true → has_page (range_held new) p ≡ true → has_page (range_held other) p ≡ true → ⊥

or-swap : (x y : Bool) → (x || y) ≡ true → (y || x) ≡ true
or-swap true y is = or_right y true refl
or-swap false y is = or_left y false is

clash : true ≡ false → ⊥
clash is = absurd (cc)

apart-made : (new : Hold) (holds : List Hold) → IsApartFrom holds new → AreApart holds → AreApart (new ∷ holds)
apart-made new holds free apart a b one other p differ at_a at_b pin_one pin_other alone in_one in_other = go (new.id == a) refl (new.id == b) refl at_a at_b
  where
    go : (x : Bool) → (new.id == a) ≡ x → (y : Bool) → (new.id == b) ≡ y → cond x (Some new) (hold_at holds a) ≡ Some one → cond y (Some new) (hold_at holds b) ≡ Some other → ⊥
    go true xa true yb is_one is_other =
        clash (sym (eq-eqb a b (sym (eqb-true new.id a xa) ∙ eqb-true new.id b yb)) ∙ differ)
    go true xa false yb is_one is_other =
        subst (λ (h : Hold). is_pin h.kind ≡ true → (h.exclusive || other.exclusive) ≡ true → has_page (range_held h) p ≡ true → ⊥) (some-is new one is_one)
        (λ k x i. free b other p is_other k pin_other x i in_other) pin_one alone in_one
    go false xa true yb is_one is_other =
        subst (λ (h : Hold). is_pin h.kind ≡ true → (one.exclusive || h.exclusive) ≡ true → has_page (range_held h) p ≡ true → ⊥) (some-is new other is_other)
        (λ k x i. free a one p is_one k pin_one (or-swap one.exclusive new.exclusive x) i in_one) pin_other alone in_other
    go false xa false yb is_one is_other = apart a b one other p differ is_one is_other pin_one pin_other alone in_one in_other

-- no hold of a list is barred
none-barred : (test : Hold → Bool) (holds : List Hold) → least_id test holds ≡ None → (b : ℕ) (other : Hold) → hold_at holds b ≡ Some other → test other ≡ false
none-barred test [] none b other found = absurd (cc)
none-barred test (it ∷ holds) none b other found = go (test it) refl none (it.id == b) found (none-barred test holds)
  where
    some : (n : ℕ) (o : Option ℕ) → lesser n o ≡ None → ⊥
    some n None is = cc
    some n (Some m) is = cc

    go : (t : Bool) → test it ≡ t → (if t then lesser it.id (least_id test holds) else least_id test holds) ≡ None → (x : Bool) → cond x (Some it) (hold_at holds b) ≡ Some other →
        (least_id test holds ≡ None → (b : ℕ) (other : Hold) → hold_at holds b ≡ Some other → test other ≡ false) → test other ≡ false
    go true is none x found rest = absurd (some it.id (least_id test holds) none)
    go false is none true found rest = subst (λ (h : Hold). test h ≡ false) (some-is it other found) is
    go false is none false found rest = rest none b other found

-- a pin that nothing bars
free-pin : (r : Range) (exclusive : Bool) (holds : List Hold) (new : Hold) → least_id (bars_pin r exclusive) holds ≡ None → new.exclusive ≡ exclusive → range_held new ≡ r → IsApartFrom holds new
free-pin r exclusive holds new none same range b other p found pin_new pin_other alone in_new in_other =
    let barred : bars_pin r exclusive other ≡ false = none-barred (bars_pin r exclusive) holds none b other found in
    let shares : share_page (range_held other) r ≡ true =
    among-any (has_page (range_held other)) p (pages_of r) (among-pages r p (ap (λ (q : Range). has_page q p) (sym range) ∙ in_new)) in_other in
    let either : (exclusive || other.exclusive) ≡ true = ap (λ (x : Bool). x || other.exclusive) (sym same) ∙ alone in
    clash (sym (and_from (is_pin other.kind) _ pin_other (and_from (exclusive || other.exclusive) _ either shares)) ∙ barred)

no-pin : (holds : List Hold) (new : Hold) → is_pin new.kind ≡ false → IsApartFrom holds new
no-pin holds new none b other p found pin_new pin_other alone in_new in_other = clash (sym pin_new ∙ none)

busy-none : (o : Option ℕ) → busy_by o ≡ None → o ≡ None
busy-none None is = refl
busy-none (Some n) is = absurd (cc)

-- ---- holds that changed

-- a hold is as it was, or less
record IsLess (old now : Hold) : Type 0 where
  kind : is_pin now.kind ≡ true → is_pin old.kind ≡ true
  exclusive : now.exclusive ≡ old.exclusive
  range : range_held now ≡ range_held old

apart-less : (olds news : List Hold) → ((id : ℕ) (now : Hold) → hold_at news id ≡ Some now → (old : Hold) × (hold_at olds id ≡ Some old) × IsLess old now) → AreApart olds → AreApart news
apart-less olds news before apart a b one other p differ at_a at_b pin_one pin_other alone in_one in_other =
    let first = before a one at_a in
    let second = before b other at_b in
    apart a b first.0 second.0 p differ first.1 second.1 (first.2.kind pin_one) (second.2.kind pin_other)
    (ap (λ (x : Bool). x || second.0.exclusive) (sym first.2.exclusive) ∙ (ap (λ (x : Bool). one.exclusive || x) (sym second.2.exclusive) ∙ alone))
    (ap (λ (r : Range). has_page r p) (sym first.2.range) ∙ in_one)
    (ap (λ (r : Range). has_page r p) (sym second.2.range) ∙ in_other)

less-same : (it : Hold) → IsLess it it
less-same it = record { kind = λ k. k; exclusive = refl; range = refl }

changed-before : (holds : List Hold) (named id : ℕ) (change : Hold → Hold) (now : Hold) → ((it : Hold) → (change it).id ≡ it.id) → ((it : Hold) → IsLess it (change it)) →
    hold_at (changed_at named change holds) id ≡ Some now → (old : Hold) × (hold_at holds id ≡ Some old) × IsLess old now
changed-before holds named id change now same less found = go (named == id) refl
  where
    mapped : (o : Option Hold) → hold_at holds id ≡ o → option_map change o ≡ Some now → (old : Hold) × (hold_at holds id ≡ Some old) × IsLess old now
    mapped None is e = absurd (cc)
    mapped (Some it) is e = (it, is, subst (λ (h : Hold). IsLess it h) (some-is (change it) now e) (less it))

    go : (b : Bool) → (named == id) ≡ b → (old : Hold) × (hold_at holds id ≡ Some old) × IsLess old now
    go true is =
        let there : hold_at (changed_at id change holds) id ≡ Some now = subst (λ (n : ℕ). hold_at (changed_at n change holds) id ≡ Some now) (eqb-true named id is) found in
        mapped (hold_at holds id) refl (sym (changed-found holds id change same) ∙ there)
    go false is = (now, sym (changed-other holds named id change same is) ∙ found, less-same now)

ended-before : (holds : List Hold) (named id : ℕ) (now : Hold) → hold_at (filter (λ it. not (it.id == named)) holds) id ≡ Some now → (old : Hold) × (hold_at holds id ≡ Some old) × IsLess old now
ended-before holds named id now found = go (named == id) refl
  where
    gone : {A : Type 0} (o : Option Hold) → o ≡ None → o ≡ Some now → A
    gone o none some = absurd (cc)

    go : (b : Bool) → (named == id) ≡ b → (old : Hold) × (hold_at holds id ≡ Some old) × IsLess old now
    go true is =
        let there : hold_at (filter (λ it. not (it.id == id)) holds) id ≡ Some now = subst (λ (n : ℕ). hold_at (filter (λ it. not (it.id == n)) holds) id ≡ Some now) (eqb-true named id is) found in
        gone _ (ended-gone holds id) there
    go false is = (now, sym (ended-other holds named id is) ∙ found, less-same now)

-- a map becomes a pin
pinned-of : Bool → Hold → Hold
pinned-of exclusive it = record it { kind = kind.Pin; exclusive = exclusive }

module _ (holds : List Hold) (named : ℕ) (exclusive : Bool) (old : Hold) (was : hold_at holds named ≡ Some old)
    (free : least_id (bars_pin (range_held old) exclusive) holds ≡ None) (apart : AreApart holds) where
  abbrev as_pin : Hold → Hold
  as_pin it = record it { kind = kind.Pin; exclusive = exclusive }

  now-pinned : (id : ℕ) → (named == id) ≡ true → hold_at (changed_at named as_pin holds) id ≡ Some (as_pin old)
  now-pinned id is = subst (λ (n : ℕ). hold_at (changed_at named as_pin holds) n ≡ Some (as_pin old)) (eqb-true named id is) (changed-found holds named as_pin (λ it. refl) ∙ ap (option_map as_pin) was)

  now-other : (id : ℕ) → (named == id) ≡ false → hold_at (changed_at named as_pin holds) id ≡ hold_at holds id
  now-other id is = changed-other holds named id as_pin (λ it. refl) is

  from-others : IsApartFrom holds (as_pin old)
  from-others = free-pin (range_held old) exclusive holds (as_pin old) free refl refl

  apart-pinned : AreApart (changed_at named as_pin holds)
  apart-pinned a b one other p differ at_a at_b pin_one pin_other alone in_one in_other = go (named == a) refl (named == b) refl
    where
      go : (x : Bool) → (named == a) ≡ x → (y : Bool) → (named == b) ≡ y → ⊥
      go true xa true yb = clash (sym (eq-eqb a b (sym (eqb-true named a xa) ∙ eqb-true named b yb)) ∙ differ)
      go true xa false yb =
          subst (λ (h : Hold). is_pin h.kind ≡ true → (h.exclusive || other.exclusive) ≡ true → has_page (range_held h) p ≡ true → ⊥)
          (some-is (as_pin old) one (sym (now-pinned a xa) ∙ at_a))
          (λ k x i. from-others b other p (sym (now-other b yb) ∙ at_b) k pin_other x i in_other) pin_one alone in_one
      go false xa true yb =
          subst (λ (h : Hold). is_pin h.kind ≡ true → (one.exclusive || h.exclusive) ≡ true → has_page (range_held h) p ≡ true → ⊥)
          (some-is (as_pin old) other (sym (now-pinned b yb) ∙ at_b))
          (λ k x i. from-others a one p (sym (now-other a xa) ∙ at_a) k pin_one (or-swap one.exclusive exclusive x) i in_one) pin_other alone in_other
      go false xa false yb = apart a b one other p differ (sym (now-other a xa) ∙ at_a) (sym (now-other b yb) ∙ at_b) pin_one pin_other alone in_one in_other

-- ---- a done call

pinned-step : (holds : List Hold) (pass named : ℕ) (exclusive : Bool) (o : Option Hold) → hold_at holds named ≡ o → serves pass is_map o ≡ true →
    busy_by (pin_in_the_way holds (option_map range_held o) exclusive) ≡ None → AreApart holds → AreApart (changed_at named (λ it. record it { kind = kind.Pin; exclusive = exclusive }) holds)
pinned-step holds pass named exclusive None is serves free apart = absurd (cc)
pinned-step holds pass named exclusive (Some old) is serves free apart = apart-pinned holds named exclusive old is (busy-none _ free) apart

repinned-step : (id pass : ℕ) (o : Option Hold) (holds : List Hold) → AreApart holds → AreApart (repinned id pass o holds)
repinned-step id pass None holds apart = apart
repinned-step id pass (Some it) holds apart =
    let new = hold_of_range id pass it.file it.at it.len kind.Repin false [] in
    apart-made new holds (no-pin holds new refl) apart

call-step : (holds : List Hold) (pass id s : ℕ) (it : Call) → (changes_holds it ≡ true → busy holds it ≡ None) → IsFiled holds pass (Some s) it (file_of it) → AreApart holds → AreApart (held_after pass it id holds)
call-step holds pass id s (call.Map file at len) free filed apart =
    let new = hold_of_range id pass file at len kind.Map false [] in apart-made new holds (no-pin holds new refl) apart
call-step holds pass id s (call.PinRead file at len exclusive) free filed apart =
    let new = hold_of_range id pass file at len kind.Pin exclusive [] in
    apart-made new holds (free-pin (whole_range at len) exclusive holds new (busy-none _ (free refl)) refl refl) apart
call-step holds pass id s (call.PinMapped named exclusive) free filed apart = pinned-step holds pass named exclusive (hold_at holds named) refl filed (free refl) apart
call-step holds pass id s (call.PreparePin file at len true exclusive) free filed apart =
    let new = hold_of_range id pass file at len kind.Pin exclusive (whole_range at len ∷ []) in
    apart-made new holds (free-pin (whole_range at len) exclusive holds new (busy-none _ (free refl)) refl refl) apart
call-step holds pass id s (call.PreparePin file at len false exclusive) free filed apart =
    let new = hold_of_range id pass file at len kind.Pin exclusive [] in
    apart-made new holds (free-pin (whole_range at len) exclusive holds new (busy-none _ (free refl)) refl refl) apart
call-step holds pass id s (call.PinnedWrite named at bytes) free filed apart =
    apart-less holds _ (λ n now found. changed-before holds named n _ now (λ it. refl) (λ it. record { kind = λ k. k; exclusive = refl; range = refl }) found) apart
call-step holds pass id s (call.SetDirty named lsn) free filed apart =
    apart-less holds _ (λ n now found. changed-before holds named n _ now (λ it. refl) (λ it. record { kind = λ k. k; exclusive = refl; range = refl }) found) apart
call-step holds pass id s (call.EndHold named) free filed apart = apart-less holds _ (λ n now found. ended-before holds named n now found) apart
call-step holds pass id s (call.Repin named) free filed apart = repinned-step id pass (hold_at holds named) holds apart
call-step holds pass id s (call.MdlRead file at len) free filed apart =
    let new = hold_of_range id pass file at len kind.ReadChain false [] in apart-made new holds (no-pin holds new refl) apart
call-step holds pass id s (call.MdlWrite file at len) free filed apart =
    let new = hold_of_range id pass file at len kind.WriteChain false [] in apart-made new holds (no-pin holds new refl) apart
call-step holds pass id s other free filed apart = apart

not-busy : (u : Setup) (past : List Entry) (h : List Effect) (it : Call) → IsAdmitted u past h it → changes_holds it ≡ true → busy (holds_of h) it ≡ None
not-busy u past h (call.NcWrite file page) passed changes = absurd (cc)
not-busy u past h other passed changes = (unrefused u past h other passed).not_busy

effect-step : (u : Setup) (e : Entry) (past : List Entry) (s : ℕ) (o : Option Effect) → effect_of e s ≡ o → IsGoodSoFar u (e ∷ past) → AreApart (holds_of (history past s)) →
    AreApart (holds_of (cons_option o (history past s)))
effect-step u e past s None is good apart = apart
effect-step u e past s (Some (Did pass it reply)) is good apart =
    let k = did-entry e s pass it reply is in
    let sound : IsGoodSoFar u (entry.Call pass k.nth (Some s) it (outcome.Done reply) ∷ past) = subst (λ (x : Entry). IsGoodSoFar u (x ∷ past)) k.is good in
    subst (λ (l : List Hold). AreApart l) (sym (holds_of-done pass it reply (history past s)))
    (call-step (holds_of (history past s)) pass (id_of reply) s it (not-busy u past (history past s) it (admitted u past pass k.nth s it reply sound))
    (filed-at u pass k.nth s it (outcome.Done reply) past sound.allowed) apart)
effect-step u e past s (Some (CameIn pass page from_disk)) is good apart = subst (λ (l : List Hold). AreApart l) (sym (holds_of-came_in pass page from_disk (history past s))) apart
effect-step u e past s (Some (WentOut pass page)) is good apart = subst (λ (l : List Hold). AreApart l) (sym (holds_of-went_out pass page (history past s))) apart
effect-step u e past s (Some (Began pass page)) is good apart = subst (λ (l : List Hold). AreApart l) (sym (holds_of-began pass page (history past s))) apart
effect-step u e past s (Some (Ended pass page how)) is good apart = subst (λ (l : List Hold). AreApart l) (sym (holds_of-ended pass page how (history past s))) apart
effect-step u e past s (Some (Synced pass how)) is good apart = subst (λ (l : List Hold). AreApart l) (sym (holds_of-synced pass how (history past s))) apart

none-apart : AreApart []
none-apart a b one other p differ at_a at_b pin_one pin_other alone in_one in_other = absurd (cc)

pub holds-apart : (u : Setup) (past : List Entry) (s : ℕ) → IsGoodSoFar u past → AreApart (holds_of (history past s))
unfolding history holds_of
holds-apart u [] s good = none-apart
holds-apart u (e ∷ past) s good = effect-step u e past s (effect_of e s) refl good (holds-apart u past s (good-tail u e past good))
