-- A run in which a stream has no map gives its disk back as it was.
use Rattle.std.specs.Prelude.{◌≡◌, ℕ, ◌==◌, ◌⊎◌, Bool, true, false, List, [], ◌∷◌, ◌++◌, Contains, refl}
use Rattle.std.specs.declared.option.Option.{Option}
use Rattle.std.specs.declared.option.Option.TheVariants.{Some, None}
use Rattle.std.proofs.Common.{ap, sym, subst, ◌∙◌, arith, inl, inr}
use Rattle.std.proofs.lemmas.Bool.{ne_eqb}
use Rattle.cc_entry.specs.declared.entry.End.{End}
use Rattle.cc_entry.specs.declared.entry.Entry.{Entry}
use Rattle.cc_entry.specs.declared.entry.Entry.TheVariants as entry
use Rattle.cc_laws.proofs.FirstMap.{IsFirst-steady}
use Rattle.cc_laws.proofs.Steady.{IsSteady}
use Rattle.cc_laws.proofs.SteadyPasts.{IsSteady-good}
use Rattle.cc_model.specs.Good.{IsGoodSoFar}
use Rattle.cc_model.specs.History.{Effect, Did, CameIn, WentOut, Began, Ended, Synced, history}
use Rattle.cc_model.specs.Images.{crash_pages, image, open_of, settled}
use Rattle.cc_model.specs.Objects.{had_map}
use Rattle.cc_model.specs.Setup.{Setup}
use Rattle.cc_model.specs.Sizes.{ended_ok}
use Rattle.cc_records.proofs.FirstMaps.{had-before}
use Rattle.cc_redo.specs.Disks.{record_number}
use Rattle.cc_restart_laws.proofs.Contents.{had-more}
use Rattle.cc_restart_laws.proofs.Told.{IsWrittenAt, written-at}
use Rattle.cc_script.specs.declared.script.StreamLine.{StreamLine}
use Rattle.cc_traits.specs.Disk.{Disk, may_of, page_of}
use Rattle.cc_traits.specs.Log.{Log, LogEntry}
use Rattle.cc_turns.specs.Disk.{HasGone}
use Rattle.cc_turns.specs.RecordPage.{RecordHasGone, record_image}
use Rattle.cc_stop_laws.proofs.Given.{one-alone}
use Rattle.cc_stop_laws.specs.Redoable.{HoldsPossible, IsLeftUnopened, IsRedoable, RecordsTell}
use Rattle.cc_stop_laws.specs.Runs.{IsRedoneFrom}

clash : {b : Bool} → b ≡ true → b ≡ false → ⊥
clash a b = cc

no-transfer : (h : List Effect) (pass page : ℕ) → open_of (Began pass page ∷ h) ≡ None → ⊥
unfolding open_of
no-transfer h pass page is = cc is

-- a crash leaves the opening page of it alone
settled-one : (b : Bool) (known : Option (List ℕ)) (contents : List (List ℕ)) (opening bytes : List ℕ) → known ≡ Some opening → (Contains contents bytes → bytes ≡ opening) → Contains (settled b known contents) bytes → bytes ≡ opening
settled-one false known contents opening bytes is rest among = rest among
settled-one true None contents opening bytes is rest among = absurd (cc is)
settled-one true (Some held) contents opening bytes is rest among =
    sym (one-alone held bytes among) ∙ some-same held opening is
  where
    some-same : (a b : List ℕ) → Some a ≡ Some b → a ≡ b
    some-same a b same = cc same

crash-never : (pages : ℕ → List ℕ) (h : List Effect) (p : ℕ) (bytes : List ℕ) → IsSteady h → had_map h ≡ false → Contains (crash_pages pages h p) bytes → bytes ≡ pages p
unfolding crash_pages had_map
crash-never pages [] p bytes steady never among = sym (one-alone (pages p) bytes among)
crash-never pages (Did pass it reply ∷ h) p bytes steady never among = crash-never pages h p bytes steady.1 (had-before pass it reply h never) among
crash-never pages (CameIn pass page from_disk ∷ h) p bytes steady never among = crash-never pages h p bytes steady.1 never among
crash-never pages (WentOut pass page ∷ h) p bytes steady never among = crash-never pages h p bytes steady.1 never among
crash-never pages (Began pass page ∷ h) p bytes steady never among =
    absurd (no-transfer h pass page (IsFirst-steady (Began pass page ∷ h) steady never).no_transfer)
crash-never pages (Ended pass page how ∷ h) p bytes steady never among = crash-never pages h p bytes steady.1 never among
crash-never pages (Synced pass how ∷ h) p bytes steady never among =
    settled-one (ended_ok how) (image pages h p) (crash_pages pages h p) (pages p) bytes ((IsFirst-steady h steady.1 never).opening_page pages p)
    (λ inner. crash-never pages h p bytes steady.1 never inner) among

again : (later : List Entry) (e : Entry) (front : List Entry) → (later ++ e ∷ []) ++ front ≡ later ++ e ∷ front
again [] e front = refl
again (x ∷ later) e front = ap (λ (l : List Entry). x ∷ l) (again later e front)

-- no record of the stream was written
abbrev HasNoRecord : ℕ → List Entry → Type 0
HasNoRecord s past = (later front : List Entry) (pass size valid : ℕ) (how : End) → past ≡ later ++ entry.Record pass s size valid how ∷ front → ⊥

-- so its page is as it was
record-first : (opening : List ℕ) (past : List Entry) (s : ℕ) → HasNoRecord s past → record_image opening past s ≡ Some opening
unfolding record_image
record-first opening [] s none = refl
record-first opening (entry.Record pass stream size valid how ∷ past) s none =
    let other : (stream == s) ≡ false = ne_eqb stream s (λ same. none [] past pass size valid how (ap (λ (n : ℕ). entry.Record pass n size valid how ∷ past) same)) in
    rw (other, record_image)
    (record-first opening past s (λ later front p z v h is. none (entry.Record pass stream size valid how ∷ later) front p z v h (ap (λ (l : List Entry). entry.Record pass stream size valid how ∷ l) is)))
record-first opening (e ∷ past) s none = record-first opening past s (λ later front p z v h is. none (e ∷ later) front p z v h (ap (λ (l : List Entry). e ∷ l) is))

module _ (u : Setup) (past : List Entry) (s : ℕ) (good : IsGoodSoFar u past) (never : had_map (history past s) ≡ false) (records : RecordsTell s 0 past) (opening back : Disk) (possible : HoldsPossible opening) (gone : HasGone (history past s) opening back)
    (record_gone : RecordHasGone past s opening back) where
  no-record : HasNoRecord s past
  no-record later front pass size valid how splits =
      let e : Entry = entry.Record pass s size valid how in
      let had = had-more u s 0 (later ++ e ∷ []) front (records later front pass size valid how splits).0 in
      clash (ap (λ (l : List Entry). had_map (history l s)) (splits ∙ sym (again later e front)) ∙ had) never

  -- each page holds what it held
  holds-page : (p : ℕ) → (p == record_number) ≡ false → page_of back p ≡ page_of opening p
  holds-page p apart = gone.images p (page_of opening p) apart ((IsFirst-steady (history past s) (IsSteady-good u past s good) never).opening_page (page_of opening) p)

  holds-record : page_of back record_number ≡ page_of opening record_number
  holds-record = record_gone.holds (page_of opening record_number) (record-first (page_of opening record_number) past s no-record)

  held : (p : ℕ) (bytes : List ℕ) → bytes ≡ page_of opening p → Contains (may_of opening p) bytes
  held p bytes is = subst (λ (l : List ℕ). Contains (may_of opening p) l) (sym is) (possible p)

  module _ (left : Disk) (leaves : IsLeftUnopened opening back left) where
    page-left : (p : ℕ) (bytes : List ℕ) → (p == record_number) ≡ false → Contains (may_of left p) bytes → Contains (may_of opening p) bytes
    page-left p bytes apart among = go (leaves p bytes among)
      where
        go : (bytes ≡ page_of back p) ⊎ (Contains (may_of opening p) bytes ⊎ ((may_of opening p ≡ page_of opening p ∷ []) × Contains (may_of back p) bytes)) → Contains (may_of opening p) bytes
        go (inl is) = held p bytes (is ∙ holds-page p apart)
        go (inr (inl was)) = was
        go (inr (inr (alone, now))) = held p bytes (crash-never (page_of opening) (history past s) p bytes (IsSteady-good u past s good) never (gone.crash p bytes apart alone now))

    record-left : (content : List ℕ) → Contains (may_of left record_number) content → Contains (may_of opening record_number) content
    record-left content among = go (leaves record_number content among)
      where
        written : (page_of opening record_number ≡ content) ⊎ IsWrittenAt s past content → content ≡ page_of opening record_number
        written (inl is) = sym is
        written (inr k) = absurd (no-record k.later k.front k.pass k.size k.valid k.how k.splits)

        go : (content ≡ page_of back record_number)
            ⊎ (Contains (may_of opening record_number) content ⊎ ((may_of opening record_number ≡ page_of opening record_number ∷ []) × Contains (may_of back record_number) content)) → Contains (may_of opening record_number) content
        go (inl is) = held record_number content (is ∙ holds-record)
        go (inr (inl was)) = was
        go (inr (inr (alone, now))) = held record_number content (written (written-at (page_of opening record_number) past s content (record_gone.crash content alone now)))

    redoable-left : (stream : StreamLine) (size first : ℕ) (kept : List LogEntry) (pages : ℕ → List ℕ) → IsRedoable s stream size kept pages first opening → IsRedoable s stream size kept pages first left
    redoable-left stream size first kept pages redoable = record {
      sizes = λ content read among reads. redoable.sizes content read (record-left content among) reads;
      makes = λ content read record_among reads streams redo its among p bytes below contained.
          let said = redoable.sizes content read (record-left content record_among) reads in
          let same = said.1 in
          let fits = said.0.in_range in
          redoable.makes content read (record-left content record_among) reads streams redo its among p bytes below
          (page-left p bytes (ne_eqb p record_number (λ is. absurd (omega (arith, below, same, fits, is)))) contained);
    }

    pub unopened-redone : (stream : StreamLine) (size first : ℕ) (pages : ℕ → List ℕ) (after : Log) → IsRedoneFrom s stream size pages first opening after → IsRedoneFrom s stream size pages first left after
    unopened-redone stream size first pages after redone = record {
      entries = redone.entries;
      redoable = λ kept keeps. redoable-left stream size first kept pages (redone.redoable kept keeps);
    }
