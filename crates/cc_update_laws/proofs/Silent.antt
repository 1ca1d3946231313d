-- A call that brings nothing in, writes nothing, takes nothing out and syncs nothing places nothing before its own entry.
use Rattle.std.specs.Prelude.{◌≡◌, ℕ, Bool, true, false, cond, List, [], ◌∷◌, ◌++◌, refl}
use Rattle.std.specs.List.{AllByRecursion}
use Rattle.std.specs.declared.option.Option.{Option}
use Rattle.std.specs.declared.option.Option.TheVariants.{None}
use Rattle.std.proofs.lemmas.Bool.{or_from}
use Rattle.std.proofs.Math.Bool.{and-false}
use Rattle.cc_entry.specs.Place.{Page}
use Rattle.cc_entry.specs.declared.call.Call.{Call}
use Rattle.cc_entry.specs.declared.call.Call.TheVariants as call
use Rattle.cc_entry.specs.declared.entry.Entry.{Entry}
use Rattle.cc_entry.specs.declared.entry.Entry.TheVariants as entry
use Rattle.cc_model.specs.Passes.{is_mine}
use Rattle.cc_effects.specs.Moments.{own, Others, EachOwn}
use Rattle.cc_effects.specs.Asked.{Calls, is_admitted, may_bring_in, may_sync, may_take_out, may_write, stores}
use Rattle.cc_effects.specs.Places.{MayPlace, Works, are_whole, may_read}

-- what a call may not do
record IsSilent (me : ℕ) (it : Call) : Type 0 where
  brings : (page : Page) (past : List Entry) → may_bring_in (Calls it) page past ≡ false
  reads : (page : Page) (past : List Entry) → may_read it page past ≡ false
  takes : (page : Page) (past : List Entry) → may_take_out me (Calls it) page past ≡ false
  writes : (page : Page) (past : List Entry) → may_write (Calls it) page past ≡ false
  stores_none : (page : Page) (past : List Entry) → stores (Calls it) page past ≡ false
  syncs : (s : ℕ) → may_sync (Calls it) s ≡ false

-- whether an entry ends a transfer
abbrev is_end : Entry → Bool
is_end (entry.WriteEnd pass page how) = true
is_end other = false

clash : {b : Bool} → b ≡ false → b ≡ true → ⊥
clash a b = cc

-- it places ends of transfers alone
ends-alone : (me : ℕ) (it : Call) (old past : List Entry) (e : Entry) → IsSilent me it → MayPlace me (Calls it) old past e → is_end e ≡ true
ends-alone me it old past (entry.PageIn pass page from_disk) silent may = absurd (clash (silent.brings page past) may)
ends-alone me it old past (entry.PageOut pass page) silent may = absurd (clash (silent.takes page past) may)
ends-alone me it old past (entry.FillFailed pass page) silent may = absurd (clash (silent.reads page past) may.0)
ends-alone me it old past (entry.WriteBegin pass page) silent may = absurd (clash (silent.writes page past) may)
ends-alone me it old past (entry.WriteEnd pass page how) silent may = refl
ends-alone me it old past (entry.Sync pass stream how) silent may = absurd (clash (silent.syncs stream) may.0)
ends-alone me it old past (entry.Flushed pass handle to) silent may =
    absurd (clash (or_from _ _ (silent.writes may.page past) (silent.stores_none may.page past)) may.writes)
ends-alone me it old past (entry.LogFailed pass handle) silent may =
    absurd (clash (or_from _ _ (silent.writes may.asks.page past) (silent.stores_none may.asks.page past)) may.asks.writes)
ends-alone me it old past (entry.Append pass handle lsn bytes) silent may = absurd may
ends-alone me it old past (entry.Defer pass id file pages retrying) silent may = absurd may
ends-alone me it old past (entry.Posted id) silent may = absurd may
ends-alone me it old past (entry.Scan pass picked) silent may = absurd may
ends-alone me it old past (entry.Record pass stream size valid how) silent may = absurd may
ends-alone me it old past (entry.RecordFailed pass stream) silent may = absurd may
ends-alone me it old past (entry.Locked pass file span exclusive granted id) silent may = absurd may
ends-alone me it old past (entry.Unlocked pass file id gone) silent may = absurd may
ends-alone me it old past (entry.Tested pass file span write conflict) silent may = absurd may
ends-alone me it old past (entry.Call pass nth stream call ended) silent may = absurd may

all-ends : (me : ℕ) (it : Call) (old during : List Entry) → IsSilent me it → EachOwn me (MayPlace me (Calls it) old) during old → AllByRecursion (λ e. is_end e ≡ true) (own me during)
all-ends me it old [] silent each = tt
all-ends me it old (e ∷ during) silent each = by (is_mine me e) refl (all-ends me it old during silent each.1)
  where
    by : (b : Bool) → is_mine me e ≡ b → AllByRecursion (λ e. is_end e ≡ true) (own me during) → AllByRecursion (λ e. is_end e ≡ true) (cond b (e ∷ own me during) (own me during))
    by true is rest = (ends-alone me it old (during ++ old) e silent (each.0 is), rest)
    by false is rest = rest

-- ends without begins are none
no-ends : (entries : List Entry) → AllByRecursion (λ e. is_end e ≡ true) entries → are_whole None entries ≡ true → entries ≡ []
no-ends [] all whole = refl
no-ends (entry.WriteEnd pass page how ∷ []) all whole = absurd (cc)
no-ends (entry.WriteEnd pass page how ∷ (entry.WriteEnd p q h ∷ rest)) all whole = absurd (cc)
no-ends (entry.WriteEnd pass page how ∷ (other ∷ rest)) all whole = absurd (cc (all.1.0))
no-ends (other ∷ rest) all whole = absurd (cc (all.0))

others-of : (me : ℕ) (during : List Entry) → own me during ≡ [] → Others me during
others-of me [] none = tt
others-of me (e ∷ during) none = by (is_mine me e) refl none (λ rest. others-of me during rest)
  where
    by : (b : Bool) → is_mine me e ≡ b → cond b (e ∷ own me during) (own me during) ≡ [] → (own me during ≡ [] → Others me during) → Others me (e ∷ during)
    by true is none rest = absurd (cc)
    by false is none rest = (is, rest none)

silent-others : (me : ℕ) (it : Call) (during old : List Entry) → IsSilent me it → Works me (Calls it) during old → Others me during
silent-others me it during old silent works =
    others-of me during (no-ends (own me during) (all-ends me it old during silent works.each) works.whole)

-- a write through a pin, and the set-dirty behind it
pub write-others : (me id at : ℕ) (bytes : List ℕ) (during old : List Entry) → Works me (Calls (call.PinnedWrite id at bytes)) during old → Others me during
write-others me id at bytes during old works =
    silent-others me (call.PinnedWrite id at bytes) during old
    (record {
      brings = λ page past. refl;
      reads = λ page past. refl;
      takes = λ page past. refl;
      writes = λ page past. and-false (is_admitted (call.PinnedWrite id at bytes) page.stream past);
      stores_none = λ page past. refl;
      syncs = λ s. refl;
    }) works

pub stamp-others : (me id : ℕ) (lsn : Option ℕ) (during old : List Entry) → Works me (Calls (call.SetDirty id lsn)) during old → Others me during
stamp-others me id lsn during old works =
    silent-others me (call.SetDirty id lsn) during old
    (record {
      brings = λ page past. refl;
      reads = λ page past. refl;
      takes = λ page past. refl;
      writes = λ page past. and-false (is_admitted (call.SetDirty id lsn) page.stream past);
      stores_none = λ page past. refl;
      syncs = λ s. refl;
    }) works
