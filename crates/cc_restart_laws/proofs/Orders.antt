-- The changes of a stream, and the order of those that have a page in common: it is that of their records.
use Rattle.std.specs.Prelude.{◌≡◌, ℕ, ◌≤◌, ◌⊎◌, Bool, true, false, ◌==◌, List, [], ◌∷◌, ◌++◌, length, refl}
use Rattle.std.specs.declared.option.Option.{Option}
use Rattle.std.specs.declared.option.Option.TheVariants.{Some}
use Rattle.std.proofs.Common.{ap, sym, subst, ◌∙◌, inl, inr, arith}
use Rattle.std.proofs.lemmas.Bool.{eqb-true, eq-eqb, or_left}
use Rattle.cc_entry.specs.Pages.{has_page}
use Rattle.cc_entry.specs.declared.call.Call.{Call}
use Rattle.cc_entry.specs.declared.call.Call.TheVariants as call
use Rattle.cc_entry.specs.declared.entry.Entry.{Entry}
use Rattle.cc_entry.specs.declared.entry.Entry.TheVariants as entry
use Rattle.cc_entry.specs.declared.reply.Outcome.TheVariants as outcome
use Rattle.cc_entry.specs.declared.reply.Reply.{Reply}
use Rattle.cc_effects.specs.Moments.{Others}
use Rattle.cc_model.specs.Good.{IsGoodSoFar}
use Rattle.cc_model.specs.History.{history}
use Rattle.cc_model.specs.Holds.{Hold, hold_at, holds_of}
use Rattle.cc_model.specs.Passes.{is_mine}
use Rattle.cc_model.specs.Setup.{Setup}
use Rattle.cc_own.proofs.FoundHolds.{some-is}
use Rattle.cc_redo.specs.Reading.{said_by}
use Rattle.cc_redo.specs.declared.record.LogRecord.TheVariants.{Update}
use Rattle.cc_restart_laws.proofs.Apart.{holds-apart}
use Rattle.cc_restart_laws.proofs.Entries.{good-tail, next-lsn}
use Rattle.cc_restart_laws.proofs.Records.{IsAppended, IsHeldPin, appended-floor, held-of, held-on, held-page, range_of, recorded-appended}
use Rattle.cc_restart_laws.specs.Updates.{HasRecord, IsPinned, Updating}

-- an entry is the pinned write of an update that has its record
pub record IsChangeBy (s log : ℕ) (it : Updating) (past : List Entry) (e : Entry) : Type 0 where
  pub nth : ℕ
  pub reply : Reply
  pub is : e ≡ entry.Call it.pass nth (Some s) (call.PinnedWrite it.hold it.at it.bytes) (outcome.Done reply)
  pub recorded : HasRecord s log it past

-- the bytes of an update were written at a place of the past
abbrev pub IsChange : ℕ → ℕ → Updating → List Entry → Type 0
IsChange s log it [] = ⊥
IsChange s log it (e ∷ past) = IsChangeBy s log it past e ⊎ IsChange s log it past

pub change-more : (s log : ℕ) (it : Updating) (later past : List Entry) → IsChange s log it past → IsChange s log it (later ++ past)
change-more s log it [] past is = is
change-more s log it (e ∷ later) past is = inr (change-more s log it later past is)

-- its record in the log
pub record IsSaid (s log : ℕ) (it : Updating) (past : List Entry) : Type 0 where
  pub spelled : List ℕ
  pub said : said_by spelled ≡ Some (Update s it.at it.bytes)
  pub appended : IsAppended log it.lsn spelled past

pub change-said : (s log : ℕ) (it : Updating) (past : List Entry) → IsChange s log it past → IsSaid s log it past
change-said s log it [] is = absurd is
change-said s log it (e ∷ past) (inl by) = record { spelled = by.recorded.spelled; said = by.recorded.said; appended = inr (recorded-appended s log it past by.recorded) }
change-said s log it (e ∷ past) (inr before) = let k = change-said s log it past before in record { spelled = k.spelled; said = k.said; appended = inr k.appended }

no-call : (pass log lsn : ℕ) (bytes : List ℕ) (other nth s : ℕ) (it : Call) (reply : Reply) → entry.Append pass log lsn bytes ≡ entry.Call other nth (Some s) it (outcome.Done reply) → ⊥
no-call pass log lsn bytes other nth s it reply is = cc

not-mine : (me pass nth s : ℕ) (it : Call) (reply : Reply) (e : Entry) → e ≡ entry.Call pass nth (Some s) it (outcome.Done reply) → is_mine me e ≡ false → pass ≡ me → ⊥
not-mine me pass nth s it reply e is other same = clash (sym (eq-eqb pass me same) ∙ (sym (ap (λ (x : Entry). is_mine me x) is) ∙ other))
  where
    clash : true ≡ false → ⊥
    clash x = cc

module _ (u : Setup) (s log : ℕ) (it : Updating) (spelled : List ℕ) (front : List Entry) (pinned : IsPinned s it.pass it.hold it.at (length it.bytes) front) (p : ℕ)
    (in_range : has_page (range_of it) p ≡ true) (other : Updating) (its : has_page (range_of other) p ≡ true) where
  abbrev appended_on : List Entry
  appended_on = entry.Append it.pass log it.lsn spelled ∷ front

  -- another pass can't write to the page while the pin is open
  none-between : (e : Entry) (past : List Entry) → IsGoodSoFar u past → IsHeldPin s it past → is_mine it.pass e ≡ false → IsChangeBy s log other past e → ⊥
  none-between e past good mine others by =
      let theirs = held-of u s log other past good by.recorded in
      holds-apart u past s good it.hold other.hold mine.hold theirs.hold p (differ theirs (it.hold == other.hold) refl) mine.has.found theirs.has.found mine.kind theirs.kind
      (or_left mine.hold.exclusive theirs.hold.exclusive mine.alone) (held-page s it past p mine in_range) (held-page s other past p theirs its)
    where
      same-hold : (a b : Hold) (o : Option Hold) → o ≡ Some a → o ≡ Some b → a ≡ b
      same-hold a b o one two = some-is a b (sym one ∙ two)

      differ : (theirs : IsHeldPin s other past) → (b : Bool) → (it.hold == other.hold) ≡ b → (it.hold == other.hold) ≡ false
      differ theirs false is = is
      differ theirs true is =
          let at : hold_at (holds_of (history past s)) it.hold ≡ Some theirs.hold =
          ap (λ (n : ℕ). hold_at (holds_of (history past s)) n) (eqb-true it.hold other.hold is) ∙ theirs.has.found in
          let same = same-hold mine.hold theirs.hold (hold_at (holds_of (history past s)) it.hold) mine.has.found at in
          let passes : other.pass ≡ it.pass = sym theirs.has.mine ∙ (sym (ap (λ (h : Hold). h.pass) same) ∙ mine.has.mine) in
          absurd (not-mine it.pass other.pass by.nth s (call.PinnedWrite other.hold other.at other.bytes) by.reply e by.is others passes)

  order-during : (during : List Entry) → IsGoodSoFar u (during ++ appended_on) → Others it.pass during → IsChange s log other (during ++ appended_on) → other.lsn ≤ it.lsn
  order-during [] good others (inl by) =
      absurd (no-call it.pass log it.lsn spelled other.pass by.nth s (call.PinnedWrite other.hold other.at other.bytes) by.reply by.is)
  order-during [] good others (inr before) =
      let said = change-said s log other front before in
      let least = appended-floor log other.lsn said.spelled front said.appended in
      let next = (next-lsn u front it.pass log it.lsn spelled good).next in
      omega (arith, least, next)
  order-during (e ∷ during) good others (inl by) =
      let rest = good-tail u e (during ++ appended_on) good in
      absurd (none-between e (during ++ appended_on) rest (held-on u s log it spelled during front rest others.1 pinned) others.0 by)
  order-during (e ∷ during) good others (inr before) = order-during during (good-tail u e (during ++ appended_on) good) others.1 before

-- where an update has its record and is to be written, no change of a page that it has was recorded later
pub order-of : (u : Setup) (s log : ℕ) (it : Updating) (past : List Entry) → IsGoodSoFar u past → HasRecord s log it past → (other : Updating) (p : ℕ) → has_page (range_of it) p ≡ true → has_page (range_of other) p ≡ true →
    IsChange s log other past → other.lsn ≤ it.lsn
order-of u s log it past good k other p in_range its is =
    let on : List Entry = entry.Append it.pass log it.lsn k.spelled ∷ k.front in
    order-during u s log it k.spelled k.front k.pinned p in_range other its k.idle.during (subst (λ (l : List Entry). IsGoodSoFar u l) k.idle.grew good) k.idle.others
    (subst (λ (l : List Entry). IsChange s log other l) k.idle.grew is)
