-- Stretches in which a pass neither lists the dirty pages of a log nor appends to it.
use Rattle.std.specs.Prelude.{◌≡◌, ℕ, ◌||◌, Bool, true, false, List, [], ◌∷◌, ◌++◌, refl}
use Rattle.std.specs.declared.option.Option.{Option}
use Rattle.std.specs.List.{list_any}
use Rattle.std.proofs.Common.{sym, subst}
use Rattle.cc_entry.specs.declared.call.Call.{Call}
use Rattle.cc_entry.specs.declared.call.Call.TheVariants as call
use Rattle.cc_entry.specs.declared.query.Query.TheVariants as query
use Rattle.cc_entry.specs.declared.entry.Entry.{Entry}
use Rattle.cc_entry.specs.declared.entry.Entry.TheVariants as entry
use Rattle.cc_entry.specs.declared.error.CcError.TheVariants as error
use Rattle.cc_entry.specs.declared.reply.Outcome.{Outcome}
use Rattle.cc_entry.specs.declared.reply.Outcome.TheVariants as outcome
use Rattle.cc_model.specs.Passes.{is_mine}
use Rattle.cc_model.specs.Setup.{Setup}
use Rattle.cc_effects.specs.Asked.{Calls}
use Rattle.cc_effects.specs.Calls.{CallLeft, IsPlaced}
use Rattle.cc_effects.specs.Moments.{EachOwn, Others}
use Rattle.cc_effects.specs.Places.{MayPlace, Works}
use Rattle.cc_effects.proofs.FrontLaws.{placed-of}
use Rattle.cc_effects.proofs.Stretches.{each-implies}
use Rattle.cc_pieces.proofs.Walks.{Walked, walked-idle, walked-then}
use Rattle.cc_update_laws.proofs.Growing.{IsGrown}
use Rattle.cc_update_laws.specs.Keeping.{lists_or_appends}

abbrev pub IsNeither : ℕ → ℕ → List Entry → Entry → Type 0
IsNeither me log past e = lists_or_appends me log e ≡ false

abbrev pub Unlisted : ℕ → ℕ → List Entry → List Entry → Type 0
Unlisted me log old new = Walked (IsNeither me log) me old new

pub unlisted-grown : (me log : ℕ) (old new : List Entry) → Unlisted me log old new → IsGrown old new
unlisted-grown me log old new w = (w.during, w.grew)

pub unlisted-others : (me log : ℕ) (later old : List Entry) → Others me later → Unlisted me log old (later ++ old)
unlisted-others me log later old others = walked-idle (IsNeither me log) me old (later ++ old) (record { during = later; grew = refl; others = others })

-- what a call places before its own entry
unlisted-works : (me log : ℕ) (it : Call) (during old : List Entry) → Works me (Calls it) during old → Unlisted me log old (during ++ old)
unlisted-works me log it during old works =
    record { during = during; grew = refl; each = each-implies me (MayPlace me (Calls it) old) (IsNeither me log) place during old works.each }
  where
    place : (past : List Entry) (e : Entry) → MayPlace me (Calls it) old past e → lists_or_appends me log e ≡ false
    place past (entry.Append pass handle lsn bytes) may = absurd may
    place past (entry.Call pass nth stream it ended) may = absurd may
    place past other may = refl

module _ (u : Setup) (me log : ℕ) (it : Call) (looks : (nth : ℕ) (stream : Option ℕ) (ended : Outcome) → lists_or_appends me log (entry.Call me nth stream it ended) ≡ false) where
  unlisted-placed : (ended : Outcome) (earlier old new : List Entry) → IsPlaced me it ended earlier old new → Unlisted me log old new
  unlisted-placed ended earlier old new p =
      let front : List Entry = earlier ++ old in
      let e : Entry = entry.Call me p.nth p.stream it ended in
      subst (Unlisted me log old) (sym p.grew)
      (walked-then (IsNeither me log) me old front (p.later ++ e ∷ front) (unlisted-works me log it earlier old p.works)
      (walked-then (IsNeither me log) me front (e ∷ front) (p.later ++ e ∷ front) (record { during = e ∷ []; grew = refl; each = ((λ mine. looks p.nth p.stream ended), tt) })
      (unlisted-others me log p.later (e ∷ front) p.quiet)))

  pub unlisted-call : (ended : Outcome) (old new : List Entry) → CallLeft u me it ended old new → Unlisted me log old new
  unlisted-call (outcome.Done r) old new left = unlisted-placed (outcome.Done r) left.earlier old new left.placed
  unlisted-call (outcome.Failed (error.JournalFull entries)) old new left = subst (Unlisted me log old) (sym left.grew) (unlisted-works me log it left.during old left.works)
  unlisted-call (outcome.Failed error.NoMemory) old new left = subst (Unlisted me log old) (sym left.grew) (unlisted-works me log it left.during old left.works)
  unlisted-call (outcome.Failed e) old new left =
      let p = placed-of u me it (outcome.Failed e) old new left refl in unlisted-placed (outcome.Failed e) p.0 old new p.1

-- none of its entries does, of whichever pass
others-neither : (me log : ℕ) (e : Entry) → is_mine me e ≡ false → lists_or_appends me log e ≡ false
others-neither me log (entry.Append pass handle lsn bytes) other = rw other refl
others-neither me log (entry.Call pass nth stream (call.Query (query.DirtyPages handle)) ended) other = rw other refl
others-neither me log apart other = refl

or-false : (a b : Bool) → a ≡ false → b ≡ false → (a || b) ≡ false
or-false a b one two = rw (one, two) refl

pub neither-each : (me log : ℕ) (during old : List Entry) → EachOwn me (IsNeither me log) during old → list_any (lists_or_appends me log) during ≡ false
neither-each me log [] old each = refl
neither-each me log (e ∷ during) old each = or-false (lists_or_appends me log e) (list_any (lists_or_appends me log) during) (by (is_mine me e) refl) (neither-each me log during old each.1)
  where
    by : (b : Bool) → is_mine me e ≡ b → lists_or_appends me log e ≡ false
    by true mine = each.0 mine
    by false other = others-neither me log e other
