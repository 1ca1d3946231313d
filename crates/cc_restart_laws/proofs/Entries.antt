-- Which entries mean what to a stream, and what is good and updated of the past before an entry.
use Rattle.std.specs.Prelude.{◌≡◌, ℕ, Bool, true, false, ◌==◌, List, [], ◌∷◌, ◌++◌, refl, if◌then◌else◌}
use Rattle.std.proofs.Common.{ap}
use Rattle.std.proofs.lemmas.Bool.{eqb-true, eq-eqb}
use Rattle.std.specs.declared.option.Option.TheVariants.{Some, None}
use Rattle.cc_entry.specs.Place.{Page}
use Rattle.cc_entry.specs.declared.call.Call.{Call}
use Rattle.cc_entry.specs.declared.reply.Reply.{Reply}
use Rattle.cc_entry.specs.declared.reply.Outcome.TheVariants as outcome
use Rattle.cc_entry.specs.declared.entry.Entry.{Entry}
use Rattle.cc_entry.specs.declared.entry.Entry.TheVariants as entry
use Rattle.cc_model.specs.Covered.{IsLogged, IsNextLsn}
use Rattle.cc_model.specs.Good.{IsGoodSoFar}
use Rattle.cc_model.specs.History.{Did, CameIn, WentOut, Began, Ended, Synced, effect_of, history}
use Rattle.cc_model.specs.Legal.{IsAdmitted, IsLegal, IsLegalEntry}
use Rattle.cc_model.specs.Covered.{IsCovered, IsCoveredEntry}
use Rattle.cc_model.specs.Setup.{Setup}
use Rattle.cc_records.proofs.Settling.{good-rest}
use Rattle.cc_restart_laws.specs.Updates.{IsUpdated, IsUpdatedEntry}

pub record IsCall (e : Entry) (s pass : ℕ) (it : Call) (reply : Reply) : Type 0 where
  pub nth : ℕ
  pub is : e ≡ entry.Call pass nth (Some s) it (outcome.Done reply)

pub record IsBegin (e : Entry) (s pass page : ℕ) : Type 0 where
  pub place : Page
  pub stream : place.stream ≡ s
  pub number : place.page ≡ page
  pub is : e ≡ entry.WriteBegin pass place

some-if : {A : Type 0} (b : Bool) (x y : A) → (if b then Some x else None) ≡ Some y → (b ≡ true) × (x ≡ y)
some-if true x y is = (refl, cc)
some-if false x y is = absurd (cc)

none-not : {A : Type 0} (y : A) → None ≡ Some y → ⊥
none-not y is = cc

call-same : (p pass nth stream s : ℕ) (c it : Call) (r reply : Reply) → stream ≡ s → Did p c r ≡ Did pass it reply →
    entry.Call p nth (Some stream) c (outcome.Done r) ≡ entry.Call pass nth (Some s) it (outcome.Done reply)
call-same p pass nth stream s c it r reply same is = cc

pub did-entry : (e : Entry) (s pass : ℕ) (it : Call) (reply : Reply) → effect_of e s ≡ Some (Did pass it reply) → IsCall e s pass it reply
did-entry (entry.Call p nth (Some stream) c (outcome.Done r)) s pass it reply is =
    let both = some-if (stream == s) (Did p c r) (Did pass it reply) is in
    record { nth = nth; is = call-same p pass nth stream s c it r reply (eqb-true stream s both.0) both.1 }
did-entry (entry.PageIn p page from_disk) s pass it reply is =
    let both = some-if (page.stream == s) (CameIn p page.page from_disk) (Did pass it reply) is in absurd (clash both.1)
  where
    clash : CameIn p page.page from_disk ≡ Did pass it reply → ⊥
    clash e = cc
did-entry (entry.PageOut p page) s pass it reply is =
    let both = some-if (page.stream == s) (WentOut p page.page) (Did pass it reply) is in absurd (clash both.1)
  where
    clash : WentOut p page.page ≡ Did pass it reply → ⊥
    clash e = cc
did-entry (entry.WriteBegin p page) s pass it reply is =
    let both = some-if (page.stream == s) (Began p page.page) (Did pass it reply) is in absurd (clash both.1)
  where
    clash : Began p page.page ≡ Did pass it reply → ⊥
    clash e = cc
did-entry (entry.WriteEnd p page how) s pass it reply is =
    let both = some-if (page.stream == s) (Ended p page.page how) (Did pass it reply) is in absurd (clash both.1)
  where
    clash : Ended p page.page how ≡ Did pass it reply → ⊥
    clash e = cc
did-entry (entry.Sync p stream how) s pass it reply is =
    let both = some-if (stream == s) (Synced p how) (Did pass it reply) is in absurd (clash both.1)
  where
    clash : Synced p how ≡ Did pass it reply → ⊥
    clash e = cc
did-entry other s pass it reply is = absurd (none-not (Did pass it reply) is)

begin-same : (p pass page : ℕ) (place : Page) → Began p place.page ≡ Began pass page → (place.page ≡ page) × (p ≡ pass)
begin-same p pass page place is = (cc, cc)

pub began-entry : (e : Entry) (s pass page : ℕ) → effect_of e s ≡ Some (Began pass page) → IsBegin e s pass page
began-entry (entry.WriteBegin p place) s pass page is =
    let both = some-if (place.stream == s) (Began p place.page) (Began pass page) is in
    let parts = begin-same p pass page place both.1 in
    record {
      place = place;
      stream = eqb-true place.stream s both.0;
      number = parts.0;
      is = ap (λ (n : ℕ). entry.WriteBegin n place) parts.1;
    }
began-entry (entry.Call p nth (Some stream) c (outcome.Done r)) s pass page is =
    let both = some-if (stream == s) (Did p c r) (Began pass page) is in absurd (clash both.1)
  where
    clash : Did p c r ≡ Began pass page → ⊥
    clash e = cc
began-entry (entry.PageIn p place from_disk) s pass page is =
    let both = some-if (place.stream == s) (CameIn p place.page from_disk) (Began pass page) is in absurd (clash both.1)
  where
    clash : CameIn p place.page from_disk ≡ Began pass page → ⊥
    clash e = cc
began-entry (entry.PageOut p place) s pass page is =
    let both = some-if (place.stream == s) (WentOut p place.page) (Began pass page) is in absurd (clash both.1)
  where
    clash : WentOut p place.page ≡ Began pass page → ⊥
    clash e = cc
began-entry (entry.WriteEnd p place how) s pass page is =
    let both = some-if (place.stream == s) (Ended p place.page how) (Began pass page) is in absurd (clash both.1)
  where
    clash : Ended p place.page how ≡ Began pass page → ⊥
    clash e = cc
began-entry (entry.Sync p stream how) s pass page is =
    let both = some-if (stream == s) (Synced p how) (Began pass page) is in absurd (clash both.1)
  where
    clash : Synced p how ≡ Began pass page → ⊥
    clash e = cc
began-entry other s pass page is = absurd (none-not (Began pass page) is)

pub call-effect : (pass nth s : ℕ) (it : Call) (reply : Reply) → effect_of (entry.Call pass nth (Some s) it (outcome.Done reply)) s ≡ Some (Did pass it reply)
call-effect pass nth s it reply = rw (eq-eqb s s refl) refl

-- ---- what is known of the past before an entry

pub good-tail : (u : Setup) (e : Entry) (past : List Entry) → IsGoodSoFar u (e ∷ past) → IsGoodSoFar u past
good-tail u e past good = good-rest u (e ∷ []) past good

pub updated-head : (s log : ℕ) (e : Entry) (past : List Entry) → IsUpdated s log (e ∷ past) → IsUpdatedEntry s log past e
unfolding IsUpdated
updated-head s log e past updated = updated.0

pub updated-tail : (s log : ℕ) (e : Entry) (past : List Entry) → IsUpdated s log (e ∷ past) → IsUpdated s log past
unfolding IsUpdated
updated-tail s log e past updated = updated.1

pub updated-rest : (s log : ℕ) (later past : List Entry) → IsUpdated s log (later ++ past) → IsUpdated s log past
updated-rest s log [] past updated = updated
updated-rest s log (e ∷ later) past updated = updated-rest s log later past (updated-tail s log e (later ++ past) updated)

pub admitted : (u : Setup) (past : List Entry) (pass nth s : ℕ) (it : Call) (reply : Reply) →
    IsGoodSoFar u (entry.Call pass nth (Some s) it (outcome.Done reply) ∷ past) → IsAdmitted u past (history past s) it
unfolding IsLegal IsLegalEntry
admitted u past pass nth s it reply good = good.legal.0.0

pub logged : (u : Setup) (past : List Entry) (pass : ℕ) (place : Page) → IsGoodSoFar u (entry.WriteBegin pass place ∷ past) → IsLogged past place.stream place.page
unfolding IsCovered IsCoveredEntry
logged u past pass place good = good.covered.0

pub next-lsn : (u : Setup) (past : List Entry) (pass handle lsn : ℕ) (bytes : List ℕ) → IsGoodSoFar u (entry.Append pass handle lsn bytes ∷ past) → IsNextLsn past handle lsn
unfolding IsCovered IsCoveredEntry
next-lsn u past pass handle lsn bytes good = good.covered.0
