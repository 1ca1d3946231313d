-- Of the page that a call waits for: what is known of it, that it has a number, and why another page does not land.
use Rattle.std.specs.Prelude.{◌≡◌, ℕ, ◌*◌, ◌<◌, ◌≤◌, ◌^◌, ◌&&◌, nat_eq, Bool, true, false, not, List, refl}
use Rattle.std.specs.declared.option.Option.{Option}
use Rattle.std.specs.declared.option.Option.TheVariants.{Some, None}
use Rattle.std.specs.Option.{option_eq}
use Rattle.std.proofs.Common.{ap, sym, ◌∙◌, inl, inr, arith}
use Rattle.std.proofs.lemmas.Bool.{and_parts, eqb-true, eq-eqb, le-ltb}
use Rattle.cc_entry.specs.Place.{Range}
use Rattle.cc_entry.specs.declared.call.Call.{Call}
use Rattle.cc_entry.specs.declared.entry.Entry.{Entry}
use Rattle.cc_entry.specs.declared.error.CcError.{CcError}
use Rattle.cc_effects.specs.Asked.{brings_in}
use Rattle.cc_effects.specs.Places.{is_on_disk_alone}
use Rattle.cc_laws.proofs.SoundFacts.{size_of-good, valid_of-good}
use Rattle.cc_model.specs.Good.{IsGoodSoFar}
use Rattle.cc_model.specs.History.{Effect, history}
use Rattle.cc_model.specs.Refusals.{refusal}
use Rattle.cc_model.specs.Residency.{is_resident}
use Rattle.cc_model.specs.Setup.{Setup}
use Rattle.cc_model.specs.Touches.{size_of, valid_of}
use Rattle.cc_step.specs.Step.{is_stepped, least_absent, needed_range, awaited_of, is_awaited}
use Rattle.cc_step.specs.Fill.{IsNotToLand}
use Rattle.cc_step.specs.Room.{has_room, IsWaiting}
use Rattle.cc_step.specs.Landing.{is_wanted, IsWanted}
use Rattle.cc_step.proofs.Failing.{stepped-answered}
use Rattle.cc_step.proofs.Found.{page-before}
use Rattle.cc_step.proofs.Waiting.{needs, waiting-within, brings-room}

pub waiting-of : (u : Setup) (past : List Entry) (s : ℕ) (it : Call) (page : ℕ) → is_awaited u past s it page ≡ true → IsWaiting u past s it page
waiting-of u past s it page is = go (refusal u past h it) refl is
  where
    h : List Effect
    h = history past s

    r : Option Range
    r = needed_range h it

    by : (o : Option ℕ) → least_absent h r ≡ o → option_eq nat_eq o (Some page) ≡ true → refusal u past h it ≡ None → IsWaiting u past s it page
    by None least same admitted = absurd (cc)
    by (Some other) least same admitted = record { admitted = admitted; least = least ∙ ap (λ (n : ℕ). Some n) (eqb-true other page same) }

    go : (o : Option CcError) → refusal u past h it ≡ o → option_eq nat_eq (awaited_of o h r) (Some page) ≡ true → IsWaiting u past s it page
    go (Some e) refused same = absurd (cc)
    go None admitted same = by (least_absent h r) refl same admitted

pub awaited-of : (u : Setup) (past : List Entry) (s : ℕ) (it : Call) (page : ℕ) → IsWaiting u past s it page → is_awaited u past s it page ≡ true
awaited-of u past s it page waits =
    ap (λ (o : Option CcError). option_eq nat_eq (awaited_of o (history past s) (needed_range (history past s) it)) (Some page)) waits.admitted
    ∙ (ap (λ (o : Option ℕ). option_eq nat_eq o (Some page)) waits.least ∙ eq-eqb page page refl)

-- such a page begins below the size, so it has a number
pub awaited-numbered : (u : Setup) (past : List Entry) (s : ℕ) (it : Call) (page : ℕ) → IsGoodSoFar u past → is_stepped it ≡ true → brings_in it ≡ true → IsWaiting u past s it page → page < 2 ^ 51
awaited-numbered u past s it page good stepped brings waits =
    let h = history past s in
    let n = needs u past s it page waits in
    number n.range.to (size_of h) (page-before n.range page n.has)
    (waiting-within u past h it n.range (stepped-answered it stepped) (brings-room it brings) waits.admitted n.range_is)
    (size_of-good u past s good)
  where
    number : (end size : ℕ) → 4096 * page < end → end ≤ size → size < 2 ^ 63 → page < 2 ^ 51
    number end size before within most = omega arith

-- and no call waits for one that has none
pub unnumbered : (u : Setup) (past : List Entry) (s : ℕ) (it : Call) (page : ℕ) → IsGoodSoFar u past → is_stepped it ≡ true → brings_in it ≡ true → 2 ^ 51 ≤ page → is_awaited u past s it page ≡ false
unnumbered u past s it page good stepped brings beyond = by (is_awaited u past s it page) refl
  where
    by : (b : Bool) → is_awaited u past s it page ≡ b → b ≡ false
    by false is = refl
    by true is = absurd (omega (arith, beyond, awaited-numbered u past s it page good stepped brings (waiting-of u past s it page is)))

-- it is not on the disk alone
pub beyond-disk : (u : Setup) (past : List Entry) (s page : ℕ) → IsGoodSoFar u past → 2 ^ 51 ≤ page → is_on_disk_alone (record { stream = s; page = page }) past ≡ false
beyond-disk u past s page good beyond =
    ap (λ (b : Bool). not (is_resident (history past s) page) && b)
    (le-ltb (4096 * page) (valid_of (history past s)) (within (valid_of (history past s)) (size_of (history past s)) (valid_of-good u past s good) (size_of-good u past s good)))
    ∙ by (not (is_resident (history past s) page))
  where
    within : (valid size : ℕ) → valid ≤ size → size < 2 ^ 63 → valid ≤ 4096 * page
    within valid size below most = omega (arith, below, most, beyond)

    by : (b : Bool) → (b && false) ≡ false
    by true = refl
    by false = refl

-- a page that is wanted, and one that is not
pub wanted-of : (u : Setup) (past : List Entry) (s : ℕ) (it : Call) (page : ℕ) → is_wanted u past s it page ≡ true → IsWanted u past s it page
wanted-of u past s it page is =
    let both = and_parts (is_awaited u past s it page) _ is in
    record { waits = waiting-of u past s it page both.0; room = both.1 }

pub unwanted-of : (u : Setup) (past : List Entry) (s : ℕ) (it : Call) (page : ℕ) (raw : Option (List ℕ)) → is_wanted u past s it page ≡ false → IsNotToLand u past s it page raw
unwanted-of u past s it page raw unwanted = by (is_awaited u past s it page) refl
  where
    by : (b : Bool) → is_awaited u past s it page ≡ b → IsNotToLand u past s it page raw
    by false is = inl is
    by true is = inr (inl (ap (λ (b : Bool). b && has_room (history past s) page) (sym is) ∙ unwanted))
