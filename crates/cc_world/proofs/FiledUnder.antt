-- Where a call happens, by what it is filed under; and one that names a hold that is open nowhere may not happen.
use Rattle.std.specs.Prelude.{◌≡◌, ℕ, ◌<◌, Bool, true, false, List, [], length, refl}
use Rattle.std.specs.declared.option.Option.{Option}
use Rattle.std.specs.declared.option.Option.TheVariants.{Some, None}
use Rattle.std.proofs.Common.{ap, sym, subst, ◌∙◌}
use Rattle.cc_entry.specs.Kinds.{is_map, is_pin, is_read_chain, is_write_chain}
use Rattle.cc_entry.specs.Place.{File}
use Rattle.cc_entry.specs.declared.call.Call.{Call}
use Rattle.cc_entry.specs.declared.call.Call.TheVariants as call
use Rattle.cc_entry.specs.declared.query.Query.TheVariants as query
use Rattle.cc_entry.specs.declared.entry.Entry.{Entry}
use Rattle.cc_entry.specs.declared.hold.HoldKind.{HoldKind}
use Rattle.cc_model.specs.Acts.{file_of}
use Rattle.cc_model.specs.Faults.{Fault, faults_since, oldest}
use Rattle.cc_model.specs.Filing.{IsFiled, serves, serves_range}
use Rattle.cc_model.specs.Holds.{hold_at, holds_of}
use Rattle.cc_model.specs.Legal.{stream_history}
use Rattle.cc_model.specs.Setup.{Setup}
use Rattle.cc_turns.specs.Desk.{Tells}
use Rattle.cc_world.specs.Filing.{AreBooks, FilesUnder, is_unfiled}
use Rattle.cc_effects.specs.Events.{MayHappen, MayStandIf, NamesOf, OnJournal, OnStream, filed_under, place_on, told_entry}
use Rattle.cc_world.specs.World.{WorldStands, WorldState}
use Rattle.cc_effects.specs.declared.events.Event.TheVariants as event
use Rattle.cc_world.specs.declared.filing.Filing.TheVariants as filing
use Rattle.cc_world.specs.declared.rows.StreamRow.{StreamRow}
use Rattle.cc_world.proofs.JournalSteps.{are-books}

-- a call that names a file is filed under its stream
pub filed-file : (past : List Entry) (it : Call) (file : File) → file_of it ≡ Some file → filed_under past it ≡ Some file.stream
filed-file past (call.PinMapped hold exclusive) file is = absurd (cc)
filed-file past (call.MappedRead hold at len) file is = absurd (cc)
filed-file past (call.PinnedRead hold at len) file is = absurd (cc)
filed-file past (call.PinnedWrite hold at bytes) file is = absurd (cc)
filed-file past (call.SetDirty hold lsn) file is = absurd (cc)
filed-file past (call.EndHold hold) file is = absurd (cc)
filed-file past (call.Repin hold) file is = absurd (cc)
filed-file past (call.MdlBytes hold at len) file is = absurd (cc)
filed-file past (call.MdlStore hold at bytes) file is = absurd (cc)
filed-file past (call.Query (query.DirtyPages handle)) file is = absurd (cc)
filed-file past (call.Query query.IsDirtyData) file is = absurd (cc)
filed-file past other file is = stream-of _ file is
  where
    stream-of : (a b : File) → Some a ≡ Some b → Some a.stream ≡ Some b.stream
    stream-of a b same = cc

-- The stream of a call is one of those that there are: its file's, which is known, or that of a hold.
row-known : (past : List Entry) (it : Call) (disks s : ℕ) → NamesOf disks (file_of it) → filed_under past it ≡ Some s → (file_of it ≡ None → s < disks) → s < disks
row-known past it disks s names filed held = go (file_of it) refl
  where
    same : (a b : ℕ) → Some a ≡ Some b → a ≡ b
    same a b is = cc

    go : (o : Option File) → file_of it ≡ o → s < disks
    go None is = held is
    go (Some file) is =
        subst (λ (n : ℕ). n < disks) (same file.stream s (sym (filed-file past it file is) ∙ filed))
        (subst (λ (o : Option File). NamesOf disks o) is names)

module _ {D L Q : Type 0} (tells : Tells D L Q) (w : WorldState D L Q) (stands : WorldStands tells w) (rows : List (StreamRow D)) (same : rows ≡ w.rows) where
  -- the books that tell it are those of the World
  pub books-there : AreBooks w.journal.entries rows
  books-there = subst (λ (rs : List (StreamRow D)). AreBooks w.journal.entries rs) (sym same) (are-books tells w stands)

  -- there is a row for the stream
  pub row-there : (it : Call) (s : ℕ) → NamesOf (length w.begun.disks) (file_of it) → FilesUnder (length rows) w.journal.entries it (filing.Stream s) → s < length w.rows
  row-there it s names under =
      let counted : length rows ≡ length w.begun.disks = ap (λ (rs : List (StreamRow D)). length rs) same ∙ stands.rows.counted in
      subst (λ (n : ℕ). s < n) (sym stands.rows.counted)
      (row-known w.journal.entries it (length w.begun.disks) s names under.0 (λ none. subst (λ (n : ℕ). s < n) counted (under.1 none)))

-- no hold is open where nothing happened
pub none-open : (hold : ℕ) → hold_at (holds_of []) hold ≡ None
unfolding holds_of
none-open hold = refl

serves-none : (pass : ℕ) (of_kind : HoldKind → Bool) (hold : ℕ) → serves pass of_kind (hold_at (holds_of []) hold) ≡ true → ⊥
serves-none pass of_kind hold is = apart (sym (ap (serves pass of_kind) (none-open hold)) ∙ is)
  where
    apart : false ≡ true → ⊥
    apart same = absurd (cc)

serves-no-range : (pass : ℕ) (of_kind : HoldKind → Bool) (at n hold : ℕ) → serves_range pass of_kind at n (hold_at (holds_of []) hold) ≡ true → ⊥
serves-no-range pass of_kind at n hold is = apart (sym (ap (serves_range pass of_kind at n) (none-open hold)) ∙ is)
  where
    apart : false ≡ true → ⊥
    apart same = absurd (cc)

unfiled : (pass : ℕ) (it : Call) → is_unfiled it ≡ false → IsFiled (holds_of []) pass None it (file_of it) → ⊥
unfiled pass (call.PinMapped hold exclusive) plain filed = serves-none pass is_map hold filed
unfiled pass (call.MappedRead hold at len) plain filed = serves-no-range pass is_map at len hold filed
unfiled pass (call.PinnedRead hold at len) plain filed = serves-no-range pass is_pin at len hold filed
unfiled pass (call.PinnedWrite hold at bytes) plain filed = serves-no-range pass is_pin at _ hold filed
unfiled pass (call.SetDirty hold lsn) plain filed = serves-none pass is_pin hold filed
unfiled pass (call.EndHold hold) plain filed = serves-none pass _ hold filed
unfiled pass (call.Repin hold) plain filed = serves-none pass is_pin hold filed
unfiled pass (call.MdlBytes hold at len) plain filed = serves-no-range pass is_read_chain at len hold filed
unfiled pass (call.MdlStore hold at bytes) plain filed = serves-no-range pass is_write_chain at _ hold filed
unfiled pass (call.Query (query.DirtyPages handle)) plain filed = absurd (cc)
unfiled pass (call.Query query.IsDirtyData) plain filed = absurd (cc)
unfiled pass other plain filed = none-some _ filed
  where
    none-some : (n : ℕ) → None ≡ Some n → ⊥
    none-some n same = absurd (cc)

nowhere-filed : (past : List Entry) (pass : ℕ) (it : Call) (o : Option ℕ) → o ≡ None → is_unfiled it ≡ false → IsFiled (holds_of (stream_history past o)) pass o it (file_of it) → ⊥
nowhere-filed past pass it None none plain filed = unfiled pass it plain filed
nowhere-filed past pass it (Some s) none plain filed = absurd (cc)

-- A call that names a hold that is open nowhere may not be made, and tells no fault.
pub not-done : (Q : Type 0) (u : Setup) (past : List Entry) (pass : ℕ) (it : Call) → filed_under past it ≡ None → is_unfiled it ≡ false → MayHappen {Q = Q} u past (event.Do pass it) → ⊥
not-done Q u past pass it none plain may = nowhere-filed past pass it (filed_under past it) none plain may.filed

not-told : (u : Setup) (past : List Entry) (pass : ℕ) (it : Call) (o : Option Fault) → filed_under past it ≡ None → is_unfiled it ≡ false → MayStandIf u past (told_entry past pass it o) → ⊥
not-told u past pass it None none plain may = may
not-told u past pass it (Some fault) none plain may = nowhere-filed past pass it (filed_under past it) none plain may.filed

pub not-failed : (Q : Type 0) (u : Setup) (past : List Entry) (pass : ℕ) (it : Call) → filed_under past it ≡ None → is_unfiled it ≡ false → MayHappen {Q = Q} u past (event.Fail pass it) → ⊥
not-failed Q u past pass it none plain may = not-told u past pass it (oldest (faults_since past pass)) none plain may

-- where a filed call happens, and one that is filed under no stream
pub on-stream : (past : List Entry) (it : Call) (s n : ℕ) → filed_under past it ≡ Some s → s ≡ n → place_on (filed_under past it) ≡ OnStream n
on-stream past it s n filed same = ap place_on filed ∙ ap (λ (m : ℕ). OnStream m) same

pub on-journal : (past : List Entry) (it : Call) → filed_under past it ≡ None → place_on (filed_under past it) ≡ OnJournal
on-journal past it none = ap place_on none
