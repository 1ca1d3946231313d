-- A page lands in a visit, or the disk failed to read it: the place that is reserved for it is used, or given back.
use Rattle.std.specs.Prelude.{◌≡◌, ℕ, ◌+◌, ◌-◌, ◌*◌, ◌<◌, nat_lt, OnOk, Bool, true, false, List, [], ◌∷◌, Option, None, Some, Ok, Err, Result, refl}
use Rattle.std.proofs.Common.{ap, sym, ◌∙◌, subst, inl, inr, arith}
use Rattle.std.proofs.lemmas.Bool.{eq-eqb}
use Rattle.cc_entry.specs.declared.call.Call.{Call}
use Rattle.cc_entry.specs.declared.entry.Entry.{Entry}
use Rattle.cc_entry.specs.declared.entry.Entry.TheVariants as entry
use Rattle.cc_entry.specs.declared.error.CcError.TheVariants as error
use Rattle.cc_entry.specs.declared.error.NoMemory.{NoMemory}
use Rattle.cc_book.specs.Book.{BookState, Gains, book_page_in}
use Rattle.cc_content.specs.Filling.{IsReadFrom}
use Rattle.cc_effects.specs.Asked.{brings_in, reaches}
use Rattle.cc_effects.specs.Calls.{IsUnderWay}
use Rattle.cc_effects.proofs.Starts.{brings}
use Rattle.cc_step.specs.Fill.{MayLand, LandLeft, GivesBack, PageIsRead, book_page, UnreadLeft}
use Rattle.cc_journal.specs.Journal.{JournalState}
use Rattle.cc_laws.proofs.HistorySteps.{history-fill_failed}
use Rattle.cc_laws.proofs.QuietSteps.{history-quiet}
use Rattle.cc_model.specs.History.{Effect, history}
use Rattle.cc_model.specs.Images.{open_of}
use Rattle.cc_model.specs.Refusals.{refusal}
use Rattle.cc_model.specs.Residency.{is_resident}
use Rattle.cc_model.specs.Room.{reserved_in}
use Rattle.cc_model.specs.Setup.{Setup}
use Rattle.cc_model.specs.Turns.{Device, Book}
use Rattle.cc_step.specs.Step.{StandUnder, is_answered}
use Rattle.cc_turns.specs.Standing.{Standing}
use Rattle.cc_turns.specs.Takes.{Grows, without_journal}
use Rattle.cc_writes.specs.Hands.{HasBook, IsAtRest, SameDisk}
use Rattle.cc_writes.specs.Visits.{HasNotLanded, IsElsewhere, IsFiledNow, VisitUnreadLeft, UnreadPlaced, WasReadFor, VisitLandLeft as SeenLandLeft}
use Rattle.cc_writes.specs.Ways.{IsHalted, WasWanted}
use Rattle.cc_writes.proofs.Attempting.{number-is, way-on}
use Rattle.cc_writes.proofs.VisitDisks.{disk-same, disk-page_in}
use Rattle.cc_writes.proofs.VisitHalting.{halts}
use Rattle.cc_writes.proofs.Others.{some-on, under_way-on}
use Rattle.cc_writes.proofs.Owing.{reserved-page_in, reserved-fill_failed}
use Rattle.cc_writes.proofs.Placing.{has-book, stepping-none, stepping-one, unneeded-page, unneeded-device}
use Rattle.cc_writes.proofs.Resting.{is-held, disk-held, rest-same}
use Rattle.cc_writes.proofs.VisitStepping.{may-fill, disk-grew}
use Rattle.cc_writes.proofs.Visiting.{Visiting, Visited, visited}

-- others leave the history of a stream whose book and disk are held
pub history-held : (w : Standing) (s : ℕ) (seen : List Entry) → w.held.book ≡ Some s → w.held.device ≡ Some s → Grows w seen → history seen s ≡ history w.seen s
history-held w s seen book device grows =
    ap (λ past. history past s) grows.grew
    ∙ history-quiet grows.later w.seen s (grows.quiet (Book s) (is-held s w.held.book book)) (grows.quiet (Device s) (is-held s w.held.device device))

module _ {Q : Type 0} (posted : Q → Bool) (w v : Standing) (b c : BookState) (j k : JournalState Q)
    (has : HasBook w b.stream b) (vis : Visiting posted w v b.stream b j) (rest : IsAtRest w b.stream) (reserved : w.in_flight ≡ 1) where
  -- there is a place to give back, or to use
  pub has-place : 0 < j.reserved
  has-place = count j.reserved (reserved_in j.entries) w.in_flight v.others vis.reserved_is reserved
    where
      count : (was owed flight others : ℕ) → was ≡ owed + flight + others → flight ≡ 1 → 0 < was
      count was owed flight others is one = omega (arith, is, one)

  fewer : k.reserved ≡ j.reserved - 1 → k.reserved + w.in_flight ≡ j.reserved + 0
  fewer less = count k.reserved j.reserved w.in_flight less has-place reserved
    where
      count : (now was flight : ℕ) → now ≡ was - 1 → 0 < was → flight ≡ 1 → now + flight ≡ was + 0
      count now was flight is a f = omega (arith, is, a, f)

  -- it was given back
  pub visited-back : GivesBack j k → StandUnder w.setup c k → c.stream ≡ b.stream → Visited posted w v b.stream 0 c k
  visited-back back stand stream =
      let less = ap (λ (x : JournalState Q). x.reserved) back in
      visited posted w v b.stream 0 [] b c j k has vis
      (stepping-none posted w v b c j k has vis 0 (back ∙ ap (λ (n : ℕ). record j { reserved = n }) (sym less)) stand stream (fewer less))

  pub stand-back : GivesBack j k → c ≡ b → StandUnder w.setup c k
  stand-back back same = subst (λ (x : BookState). StandUnder w.setup x k) (sym same) (subst (λ (x : JournalState Q). StandUnder w.setup b x) (sym back) stand)
    where
      stand : StandUnder w.setup b (record j { reserved = j.reserved - 1 })
      stand = record { good = vis.stand.good; stands = vis.stand.stands; logs_are = vis.stand.logs_are; threshold_is = vis.stand.threshold_is }

  -- it was used
  gains-kept : (e : Entry) → Gains e j k → k ≡ record j { entries = e ∷ j.entries; reserved = k.reserved; rows = k.rows }
  gains-kept e gains = gains ∙ ap (λ (n : ℕ). record j { entries = e ∷ j.entries; reserved = n; rows = k.rows }) (sym (ap (λ (x : JournalState Q). x.reserved) gains))

  pub visited-in : (page : ℕ) → Gains (book_page_in w.number (book_page b page) b) j k → StandUnder w.setup c k → c.stream ≡ b.stream → Visited posted w v b.stream 0 c k
  visited-in page gains stand stream =
      visited posted w v b.stream 0 (book_page_in w.number (book_page b page) b ∷ []) b c j k has vis
      (stepping-one posted w v b c j k has vis 0 (book_page_in w.number (book_page b page) b) (gains-kept (book_page_in w.number (book_page b page) b) gains) stand stream
      (eq-eqb w.number w.number refl) (unneeded-page w.held b.stream (has-book posted w v b c j k has vis) rest.device)
      (reserved-page_in w.number (book_page b page) _ j.entries)
      (fewer (ap (λ (x : JournalState Q). x.reserved) gains)))

  pub visited-unread : (page : ℕ) → Gains (entry.FillFailed w.number (book_page b page)) j k → StandUnder w.setup c k → c.stream ≡ b.stream → Visited posted w v b.stream 0 c k
  visited-unread page gains stand stream =
      visited posted w v b.stream 0 (entry.FillFailed w.number (book_page b page) ∷ []) b c j k has vis
      (stepping-one posted w v b c j k has vis 0 (entry.FillFailed w.number (book_page b page)) (gains-kept (entry.FillFailed w.number (book_page b page)) gains) stand stream
      (eq-eqb w.number w.number refl) (unneeded-device w.held b.stream (has-book posted w v b c j k has vis) rest.device)
      (reserved-fill_failed w.number (book_page b page) j.entries)
      (fewer (ap (λ (x : JournalState Q). x.reserved) gains)))

-- A page for a call.
module _ {Q : Type 0} (posted : Q → Bool) (w v : Standing) (it : Call) (b c : BookState) (j k : JournalState Q)
    (has : HasBook w b.stream b) (vis : Visiting posted w v b.stream b j) (here : is_answered it ≡ true) (filed : IsFiledNow w b.stream it)
    (rest : IsAtRest w b.stream) (reserved : w.in_flight ≡ 1) (page : ℕ) where
  -- what was read of it is what its disk has of it, still
  pub still-read : (raw : Option (List ℕ)) → WasReadFor w b.stream page raw → PageIsRead w.setup j.entries b.stream page raw
  still-read None read = tt
  still-read (Some bytes) read =
      subst (λ (h : List Effect). is_resident h page ≡ false → IsReadFrom (w.setup.opening b.stream) h page bytes)
      (sym (history-held w b.stream j.entries (has-book posted w v b c j k has vis) rest.device vis.grows)) read

  may-land : (raw : Option (List ℕ)) → WasReadFor w b.stream page raw → MayLand w.setup w.number it page raw b j
  may-land raw read = record { may = may-fill posted w v it b c j k has vis here filed rest; read = still-read raw read }

  pub land-as : (pass : ℕ) (raw : Option (List ℕ)) → pass ≡ v.number → WasReadFor w b.stream page raw → MayLand w.setup pass it page raw b j
  land-as pass raw me read = subst (λ (n : ℕ). MayLand w.setup n it page raw b j) (sym (number-is posted w v it b c j k has vis here filed pass me)) (may-land raw read)

  pub landed : (pass : ℕ) (raw : Option (List ℕ)) (answer : Result (Unit {0}) NoMemory) → pass ≡ v.number → WasReadFor w b.stream page raw → ((u : Setup) → MayLand u pass it page raw b j → LandLeft u pass it page raw answer b c j k) → LandLeft w.setup w.number it page raw answer b c j k
  landed pass raw answer me read left = subst (λ (n : ℕ). LandLeft w.setup n it page raw answer b c j k) (number-is posted w v it b c j k has vis here filed pass me) (left w.setup (land-as pass raw me read))

  pub visited-land : (raw : Option (List ℕ)) (answer : Result (Unit {0}) NoMemory) → LandLeft w.setup w.number it page raw answer b c j k → Visited posted w v b.stream 0 c k
  visited-land raw (Ok done) (inl came) = visited-in posted w v b c j k has vis rest reserved page came.placed came.stand came.stream
  visited-land raw (Ok done) (inr none) =
      visited-back posted w v b c j k has vis rest reserved none.given_back (stand-back posted w v b c j k has vis rest reserved none.given_back none.same) (ap (λ (x : BookState). x.stream) none.same)
  visited-land raw (Err e) none = visited-back posted w v b c j k has vis rest reserved none.given_back none.stand none.stream

  pub disk-land : (raw : Option (List ℕ)) (answer : Result (Unit {0}) NoMemory) → LandLeft w.setup w.number it page raw answer b c j k → SameDisk w.seen k.entries b.stream
  disk-land raw (Ok done) (inl came) =
      disk-grew posted w v it b c j k has vis here filed rest (book_page_in w.number (book_page b page) b ∷ j.entries) (disk-page_in w.number (book_page b page) _ j.entries b.stream) (ap (λ (x : JournalState Q). x.entries) came.placed)
  disk-land raw (Ok done) (inr none) = disk-grew posted w v it b c j k has vis here filed rest j.entries (disk-same j.entries b.stream) (ap (λ (x : JournalState Q). x.entries) none.given_back)
  disk-land raw (Err e) none = disk-grew posted w v it b c j k has vis here filed rest j.entries (disk-same j.entries b.stream) (ap (λ (x : JournalState Q). x.entries) none.given_back)

  -- the call is still under way
  pub left-land : brings_in it ≡ true → (raw : Option (List ℕ)) (answer : Result (Unit {0}) NoMemory) → LandLeft w.setup w.number it page raw answer b c j k → (begun : List Entry) → IsUnderWay w.number it begun w.seen → IsUnderWay w.number it begun k.entries
  left-land may raw (Ok done) (inl came) begun way =
      subst (λ (past : List Entry). IsUnderWay w.number it begun past) (sym (ap (λ (x : JournalState Q). x.entries) came.placed))
      (brings w.number it begun j.entries (book_page b page) _ (way-on posted w v it b c j k has vis here filed begun way) may came.admitted came.reached)
  left-land may raw (Ok done) (inr none) begun way =
      subst (λ (past : List Entry). IsUnderWay w.number it begun past) (sym (ap (λ (x : JournalState Q). x.entries) none.given_back)) (way-on posted w v it b c j k has vis here filed begun way)
  left-land may raw (Err e) none begun way =
      subst (λ (past : List Entry). IsUnderWay w.number it begun past) (sym (ap (λ (x : JournalState Q). x.entries) none.given_back)) (way-on posted w v it b c j k has vis here filed begun way)

  -- what became of the page
  pub became-land : (raw : Option (List ℕ)) (answer : Result (Unit {0}) NoMemory) → LandLeft w.setup w.number it page raw answer b c j k → OnOk answer (SeenLandLeft w b.stream it page raw k.entries)
  became-land raw (Ok done) (inl came) =
      inl (record {
        from_disk = nat_lt (4096 * page) b.contents.valid;
        placed = record { front = j.entries; grows = vis.grows; placed = ap (λ (x : JournalState Q). x.entries) came.placed };
        awaited = came.awaited;
      })
  became-land raw (Ok done) (inr none) =
      inr (subst (λ (past : List Entry). HasNotLanded w b.stream it page raw past) (sym (ap (λ (x : JournalState Q). x.entries) none.given_back))
      (record { grows = vis.grows; reason = none.reason }))
  became-land raw (Err e) none = tt

-- A page that the disk failed to read.
module _ {Q : Type 0} (posted : Q → Bool) (w v : Standing) (b : BookState) (j k : JournalState Q)
    (has : HasBook w b.stream b) (vis : Visiting posted w v b.stream b j) (rest : IsAtRest w b.stream) (reserved : w.in_flight ≡ 1) (page : ℕ) where
  pub unread : (pass : ℕ) (answer : Bool) → pass ≡ v.number → ((u : Setup) → StandUnder u b j → UnreadLeft u pass page answer b j k) → UnreadLeft w.setup w.number page answer b j k
  unread pass answer me left = subst (λ (n : ℕ). UnreadLeft w.setup n page answer b j k) (me ∙ vis.number_is) (left w.setup vis.stand)

  pub visited-told : (answer : Bool) → UnreadLeft w.setup w.number page answer b j k → Visited posted w v b.stream 0 b k
  visited-told true told = visited-unread posted w v b b j k has vis rest reserved page told.placed told.stand refl
  visited-told false none = visited-back posted w v b b j k has vis rest reserved none.given_back (stand-back posted w v b b j k has vis rest reserved none.given_back refl) refl

  pub rest-told : (answer : Bool) → UnreadLeft w.setup w.number page answer b j k → IsAtRest (without_journal k v) b.stream
  rest-told answer told = record {
    device = ap (λ (x : Standing). x.held.device) (visited-told answer told).went.same ∙ rest.device;
    no_transfer = by answer told;
  }
    where
      front : open_of (history j.entries b.stream) ≡ None
      front = rest-same w.seen j.entries b.stream (disk-held w b.stream j.entries rest.device vis.grows) rest.no_transfer

      by : (a : Bool) → UnreadLeft w.setup w.number page a b j k → open_of (history k.entries b.stream) ≡ None
      by true placed =
          ap (λ (x : JournalState Q). open_of (history x.entries b.stream)) placed.placed
          ∙ (ap open_of (history-fill_failed w.number (book_page b page) j.entries b.stream) ∙ front)
      by false none = ap (λ (x : JournalState Q). open_of (history x.entries b.stream)) none.given_back ∙ front

  pub placed-told : (answer : Bool) → UnreadLeft w.setup w.number page answer b j k → UnreadPlaced w (without_journal k v) b.stream page answer
  placed-told true told = record { front = j.entries; grows = vis.grows; placed = ap (λ (x : JournalState Q). x.entries) told.placed }
  placed-told false none =
      subst (λ (past : List Entry). SameDisk w.seen past b.stream × IsElsewhere w b.stream page past) (sym (ap (λ (x : JournalState Q). x.entries) none.given_back))
      (disk-held w b.stream j.entries rest.device vis.grows, record { grows = vis.grows; elsewhere = none.not_on_disk })

  pub left-told : (answer : Bool) → UnreadLeft w.setup w.number page answer b j k → (it : Call) (begun : List Entry) → brings_in it ≡ true → IsUnderWay w.number it begun w.seen → WasWanted w.setup it (record { stream = b.stream; page = page }) begun w.seen → VisitUnreadLeft w.setup w.number b.stream it page answer begun k.entries
  left-told true told it begun may way wanted =
      subst (λ (past : List Entry). IsHalted w.setup w.number b.stream it (error.ReadFault page) begun past) (sym (ap (λ (x : JournalState Q). x.entries) told.placed))
      (halts w.setup w.number b.stream page it begun j.entries (under_way-on w.number it begun w.seen j.entries way vis.idle) may told.on_disk
      (some-on (λ moment. (refusal w.setup moment (history moment b.stream) it ≡ None) × (reaches it (record { stream = b.stream; page = page }) moment ≡ true)) w.number begun w.seen j.entries wanted vis.idle))
  left-told false none it begun may way wanted =
      subst (λ (past : List Entry). IsUnderWay w.number it begun past) (sym (ap (λ (x : JournalState Q). x.entries) none.given_back)) (under_way-on w.number it begun w.seen j.entries way vis.idle)
