-- What a call leaves that tells a fault: its entry, for which a place was reserved, on the journal and the book, and on the
-- row. The disk goes on standing, at rest or with a transfer open.
use Rattle.std.specs.Prelude.{◌≡◌, ◌⊎◌, ◌↔◌, ℕ, suc, ◌+◌, ◌-◌, ◌<◌, ◌≤◌, Bool, true, false, List, [], ◌∷◌, length, Result, Ok, Err, IsErrOf, refl, if◌then◌else◌}
use Rattle.std.specs.declared.option.Option.{Option}
use Rattle.std.specs.declared.option.Option.TheVariants.{Some, None}
use Rattle.std.specs.Bool.{OnTrue}
use Rattle.std.proofs.Common.{ap, sym, ◌∙◌, subst, arith, inl, inr}
use Rattle.cc_entry.specs.declared.call.Call.{Call}
use Rattle.cc_entry.specs.declared.call.Call.TheVariants as call
use Rattle.cc_entry.specs.declared.entry.Entry.{Entry}
use Rattle.cc_entry.specs.declared.entry.Entry.TheVariants as entry
use Rattle.cc_entry.specs.declared.error.CcError.{CcError}
use Rattle.cc_entry.specs.declared.error.CcError.TheVariants as error
use Rattle.cc_entry.specs.declared.reply.Outcome.TheVariants as outcome
use Rattle.cc_book.specs.Book.{BookState, BookStands, Gains, GoesOn, MayPlaceOnBook, failed}
use Rattle.cc_journal.specs.Calls.{owed_end}
use Rattle.cc_journal.specs.Journal.{JournalState, room_of}
use Rattle.cc_model.specs.Acts.{file_of}
use Rattle.cc_model.specs.Allowed.{begin_after, is_fault}
use Rattle.cc_model.specs.Filing.{IsFiled}
use Rattle.cc_model.specs.Good.{IsGood}
use Rattle.cc_model.specs.Holds.{holds_of}
use Rattle.cc_model.specs.Legal.{IsFailure, ends_own_store, stream_history}
use Rattle.cc_model.specs.Passes.{calls_of}
use Rattle.cc_model.specs.Room.{reserved_in}
use Rattle.cc_model.specs.Setup.{Setup}
use Rattle.cc_step.proofs.Placed.{so-far}
use Rattle.cc_traits.specs.Disk.{Disk}
use Rattle.cc_turns.specs.Standing.{DiskAtFirst}
use Rattle.cc_world.proofs.CallRows.{used-called}
use Rattle.cc_world.proofs.CallGood.{good-called}
use Rattle.cc_world.proofs.CallSums.{owes-one, reserved-failed}
use Rattle.cc_world.specs.Calls.{CallWent, IsFiledOn}
use Rattle.cc_world.specs.Failing.{FailEventLeft, IsFailing, IsTelling, MayTellFault}
use Rattle.cc_world.specs.Rows.{DiskIsUsed, RowLeft, RowWent, StandsUnder}
use Rattle.cc_effects.specs.Events.{MayStandIf, asked_to_fail, call_entry, filed_under}
use Rattle.cc_effects.specs.declared.events.Event.TheVariants as event
use Rattle.cc_effects.specs.declared.events.StepReply.{StepReply}
use Rattle.cc_effects.specs.declared.events.StepReply.TheVariants as step
use Rattle.cc_world.specs.declared.rows.BegunTransfer.{BegunTransfer}
use Rattle.cc_world.specs.declared.rows.StreamRow.{StreamRow}

when-true : (b : Bool) (P : Type 0) → b ≡ true → OnTrue b P → P
when-true true P is p = p
when-true false P is p = absurd (cc)

no-begin : (pass s : ℕ) (it : Call) (e : CcError) → begin_after pass (Some s) it (outcome.Failed e) ≡ None
no-begin pass s (call.NcStore file page bytes) e = refl
no-begin pass s other e = refl

-- the end of a noncached write, whose store is the last call of the pass, is owed
owes-own : (past : List Entry) (pass s : ℕ) (it : Call) → ends_own_store past pass (Some s) it ≡ true → owed_end past pass ≡ 1
owes-own past pass s (call.NcWrite file page) is = owes-one (record { stream = s; page = page }) past pass is
owes-own past pass s other is = absurd (cc)

-- why a place could be reserved
at-least : (a n : ℕ) → (a < n → ⊥) → n ≤ a
at-least a n never = omega (arith, never)

roomy : (a n : ℕ) (done : Unit {0}) (e : CcError) → (a < n → IsErrOf {T = Unit {0}} {E = CcError} (Ok done) e) → n ≤ a
roomy a n done e full = at-least a n (λ less. no done e (full less))
  where
    no : (v : Unit {0}) (x : CcError) → IsErrOf {T = Unit {0}} {E = CcError} (Ok v) x → ⊥
    no v x is = absurd (cc)

as-err : (x y : CcError) → x ≡ y → IsErrOf {T = Unit {0}} {E = CcError} (Err x) y
as-err x y is =
    let f : CcError → Result (Unit {0}) CcError = λ z. Err z in
    ap f is

-- A call that may tell a fault by an error.
module _ {Q : Type 0} (u : Setup) (pass : ℕ) (it : Call) (e : CcError) (b : BookState) (j : JournalState Q) (telling : IsTelling u pass it e b j) where
  abbrev its : List Entry → Entry
  its past = failed pass past b.stream it e

  here : filed_under j.entries it ≡ Some b.stream
  here = telling.failing.here

  filed : IsFiledOn j.entries pass b.stream it
  filed = subst (λ (o : Option ℕ). IsFiled (holds_of (stream_history j.entries o)) pass o it (file_of it)) here telling.may.may.filed

  its-failure : IsFailure u j.entries pass (Some b.stream) it e
  its-failure = subst (λ (o : Option ℕ). IsFailure u j.entries pass o it e) here (when-true (is_fault e) _ telling.may.fault telling.may.may.may_end)

  its-end : OnTrue (is_fault e) (IsFailure u j.entries pass (Some b.stream) it e)
  its-end = subst (λ (o : Option ℕ). OnTrue (is_fault e) (IsFailure u j.entries pass o it e)) here telling.may.may.may_end

  good : IsGood u (its j.entries ∷ j.entries)
  good = good-called u j.entries pass b.stream it (outcome.Failed e) (no-begin pass b.stream it e) its-failure its-end filed telling.failing.stands.stand.good

  its-entry : its j.entries ≡ call_entry j.entries pass it (outcome.Failed e)
  its-entry = ap (λ (o : Option ℕ). entry.Call pass (suc (calls_of j.entries pass)) o it (outcome.Failed e)) (sym here)

  sums : owed_end j.entries pass + reserved_in (its j.entries ∷ j.entries) ≡ j.reserved
  sums = reserved-failed j.entries pass (suc (calls_of j.entries pass)) b.stream it e ∙ none-more _ _ telling.failing.stands.reserved
    where
      none-more : (a owed : ℕ) → a ≡ owed + 0 → owed ≡ a
      none-more a owed is = omega (arith, is)

  asks : (own : Bool) → ends_own_store j.entries pass (Some b.stream) it ≡ own → asked_to_fail j.entries pass it ≡ (if own then 0 else 1)
  asks own is =
      let f : Bool → ℕ = λ x. if x then 0 else 1 in
      ap f (ap (λ (o : Option ℕ). ends_own_store j.entries pass o it) here ∙ is)

  -- its entry may be placed
  pub may-place : (past : List Entry) → past ≡ j.entries → MayPlaceOnBook past (its past) b
  may-place past same = subst (λ (p : List Entry). MayPlaceOnBook p (its p) b) (sym same)
      (u, so-far u (its j.entries ∷ j.entries) good, telling.failing.stands.stand.stands)

  -- once it is, the book stands for the journal, which has reserved what that owes
  went : (n : ℕ) (c : BookState) (l k : JournalState Q) → BookStands (u.opening b.stream) (its j.entries ∷ j.entries) c → c ≡ b → k ≡ record j { entries = its j.entries ∷ j.entries; reserved = n; rows = l.rows } → n ≡ reserved_in (its j.entries ∷ j.entries) → CallWent u (call_entry j.entries pass it (outcome.Failed e) ∷ []) b c j k
  went n c l k stands same placed reserved =
      let grown : k.entries ≡ its j.entries ∷ j.entries = ap (λ x. x.entries) placed in
      let stream : c.stream ≡ b.stream = ap (λ x. x.stream) same in
      subst (λ (x : Entry). CallWent u (x ∷ []) b c j k) its-entry (record {
        stands = record {
          stand = record {
            good = subst (λ (past : List Entry). IsGood u past) (sym grown) good;
            stands = subst (λ (s : ℕ). BookStands (u.opening s) k.entries c) (sym stream)
                (subst (λ (past : List Entry). BookStands (u.opening b.stream) past c) (sym grown) stands);
            logs_are = telling.failing.stands.stand.logs_are ∙ sym (ap (λ x. x.logs) placed);
            threshold_is = telling.failing.stands.stand.threshold_is ∙ sym (ap (λ x. x.threshold) placed);
          };
          known = subst (λ (s : ℕ). s < 16) (sym stream) telling.failing.stands.known;
          reserved = nothing-more _ _ _ (ap (λ x. x.reserved) placed) (reserved ∙ ap reserved_in (sym grown));
        };
        placed = subst (λ (x : JournalState Q). x ≡ record j { entries = its j.entries ∷ j.entries; reserved = x.reserved; rows = x.rows }) (sym placed) refl;
        stream = stream;
      })
    where
      nothing-more : (a m owed : ℕ) → a ≡ m → m ≡ owed → a ≡ owed + 0
      nothing-more a m owed first second = omega (arith, first, second)

  -- a fault is neither of the errors that leave no entry
  left : (x : CcError) (c : BookState) (k : JournalState Q) → MayTellFault u j.entries pass it x → asked_to_fail j.entries pass it ≤ room_of j → CallWent u (call_entry j.entries pass it (outcome.Failed x) ∷ []) b c j k → FailEventLeft u pass it (step.Refused x) b c j k
  left (error.JournalFull entries) c k may room its_went = absurd (no-fault may.fault)
    where
      no-fault : false ≡ true → ⊥
      no-fault is = absurd (cc)
  left error.NoMemory c k may room its_went = absurd (no-fault may.fault)
    where
      no-fault : false ≡ true → ⊥
      no-fault is = absurd (cc)
  left other c k may room its_went = (may, room, its_went)

  -- The end of a noncached write has its place.
  module _ (own : ends_own_store j.entries pass (Some b.stream) it ≡ true) where
    pub own-place : 0 < j.reserved
    own-place = some _ _ _ (owes-own j.entries pass b.stream it own) sums
      where
        some : (owed after reserved : ℕ) → owed ≡ 1 → owed + after ≡ reserved → 0 < reserved
        some owed after reserved one is = omega (arith, one, is)

    pub told-own : (c : BookState) (k : JournalState Q) → Gains (its j.entries) j k → GoesOn j.entries k.entries b c → c ≡ b → FailEventLeft u pass it (step.Refused e) b c j k
    told-own c k gains goes same =
        let stands : BookStands (u.opening b.stream) (its j.entries ∷ j.entries) c =
        subst (λ (past : List Entry). BookStands (u.opening b.stream) past c) (ap (λ x. x.entries) gains)
        (goes (u.opening b.stream) telling.failing.stands.stand.stands) in
        left e c k telling.may (none-asked _ _ (asks true own)) (went (j.reserved - 1) c k k stands same gains (one-less _ _ _ (owes-own j.entries pass b.stream it own) sums))
      where
        none-asked : (asked room : ℕ) → asked ≡ 0 → asked ≤ room
        none-asked asked room is = omega (arith, is)

        one-less : (owed after reserved : ℕ) → owed ≡ 1 → owed + after ≡ reserved → reserved - 1 ≡ after
        one-less owed after reserved one is = omega (arith, one, is)

  -- Any other call asks a place, and the end that its pass owed is owed no more.
  module _ (other : ends_own_store j.entries pass (Some b.stream) it ≡ false) where
    pub no-room : (x : CcError) (k : JournalState Q) → (IsErrOf {T = Unit {0}} {E = CcError} (Err x) (error.JournalFull (length j.entries)) ↔ (room_of j < 1)) → (x ≡ error.JournalFull (length j.entries)) ⊎ (x ≡ error.NoMemory) → k ≡ j → FailEventLeft u pass it (step.Refused x) b b j k
    no-room x k full (inl is) same =
        subst (λ (y : CcError). FailEventLeft u pass it (step.Refused y) b b j k) (sym is) (
          subst (λ (o : Option Entry). MayStandIf u j.entries o) (sym telling.may.told) telling.may.may,
          subst (λ (n : ℕ). room_of j < n) (sym (asks false other)) (full.0 (as-err x (error.JournalFull (length j.entries)) is)),
          refl,
          refl,
          same,
        )
    no-room x k full (inr is) same =
        subst (λ (y : CcError). FailEventLeft u pass it (step.Refused y) b b j k) (sym is) (refl, same)

    module _ (r : JournalState Q) (reserving : r ≡ record j { reserved = j.reserved + 1 }) where
      same-entries : r.entries ≡ j.entries
      same-entries = ap (λ x. x.entries) reserving

      pub may-place-new : MayPlaceOnBook r.entries (its r.entries) b
      may-place-new = may-place r.entries same-entries

      pub new-place : 0 < r.reserved
      new-place = some _ _ (ap (λ x. x.reserved) reserving)
        where
          some : (now before : ℕ) → now ≡ before + 1 → 0 < now
          some now before is = omega (arith, is)

      module _ (owed : ℕ) (l : JournalState Q) (owes : owed ≡ owed_end r.entries pass) (gains : Gains (its r.entries) r l) where
        gained : l ≡ record j { entries = its j.entries ∷ j.entries; reserved = (j.reserved + 1) - 1; rows = l.rows }
        gained = gains ∙ ap (λ (x : JournalState Q). record x { entries = its x.entries ∷ x.entries; reserved = x.reserved - 1; rows = l.rows }) reserving

        its-owed : owed ≡ owed_end j.entries pass
        its-owed = owes ∙ ap (λ (past : List Entry). owed_end past pass) same-entries

        pub owed-within : owed ≤ l.reserved
        owed-within = within _ _ _ _ its-owed sums (ap (λ x. x.reserved) gained)
          where
            within : (its_owed after before now : ℕ) → owed ≡ its_owed → its_owed + after ≡ before → now ≡ (before + 1) - 1 → owed ≤ now
            within its_owed after before now is sum now_is = omega (arith, is, sum, now_is)

        pub told-new : (c : BookState) (k : JournalState Q) (done : Unit {0}) (x : CcError) → GoesOn r.entries l.entries b c → c ≡ b → k ≡ record l { reserved = l.reserved - owed } → (room_of j < 1 → IsErrOf {T = Unit {0}} {E = CcError} (Ok done) x) → FailEventLeft u pass it (step.Refused e) b c j k
        told-new c k done x goes same given full =
            let placed : k ≡ record j { entries = its j.entries ∷ j.entries; reserved = ((j.reserved + 1) - 1) - owed; rows = l.rows } = given ∙ ap (λ (y : JournalState Q). record y { reserved = y.reserved - owed }) gained in
            let stands : BookStands (u.opening b.stream) (its j.entries ∷ j.entries) c =
            subst (λ (past : List Entry). BookStands (u.opening b.stream) past c) (ap (λ y. y.entries) gained)
            (goes (u.opening b.stream) (subst (λ (past : List Entry). BookStands (u.opening b.stream) past b) (sym same-entries) telling.failing.stands.stand.stands)) in
            left e c k telling.may (subst (λ (n : ℕ). n ≤ room_of j) (sym (asks false other)) (roomy (room_of j) 1 done x full))
            (went (((j.reserved + 1) - 1) - owed) c l k stands same placed (after-release _ _ _ its-owed sums))
          where
            after-release : (its_owed after before : ℕ) → owed ≡ its_owed → its_owed + after ≡ before → ((before + 1) - 1) - owed ≡ after
            after-release its_owed after before is sum = omega (arith, is, sum)

-- What a call leaves of its row that tells a fault.
module _ {D Q : Type 0} (told : D → Option Disk) (faults : D → ℕ) (u : Setup) (first : DiskAtFirst) (row : StreamRow D) (j : JournalState Q) (stand : StandsUnder told faults u first 0 row j) where
  pub row-failing : (it : Call) → filed_under j.entries it ≡ Some row.book.stream → IsFailing u it row.book j
  row-failing it here = record {
    stands = record {
      stand = record {
        good = stand.good;
        stands = subst (λ o. BookStands o j.entries row.book) (sym stand.opening) stand.row_is.book;
        logs_are = stand.limits.0;
        threshold_is = stand.limits.1;
      };
      known = stand.known;
      reserved = stand.reserved;
    };
    here = here;
  }

  no-fault : (n : ℕ) → n ≡ n + 0
  no-fault n = omega arith

  row-went : (pass : ℕ) (it : Call) (e : CcError) (c : BookState) (k : JournalState Q) → CallWent u (call_entry j.entries pass it (outcome.Failed e) ∷ []) row.book c j k → RowWent told faults u first 0 (call_entry j.entries pass it (outcome.Failed e) ∷ []) row (record row { book = c }) j k
  row-went pass it e c k went =
      let its : Entry = call_entry j.entries pass it (outcome.Failed e) in
      let grown : k.entries ≡ its ∷ j.entries = ap (λ x. x.entries) went.placed in
      record {
        stands = record {
          good = went.stands.stand.good;
          opening = ap u.opening went.stream ∙ stand.opening;
          known = went.stands.known;
          limits = (went.stands.stand.logs_are, went.stands.stand.threshold_is);
          row_is = record {
            book = subst (λ o. BookStands o k.entries c) (ap u.opening went.stream ∙ stand.opening) went.stands.stand.stands;
            disk = subst (λ (past : List Entry). DiskIsUsed told faults first past c.stream row.disk row.kept) (sym grown)
                (subst (λ (s : ℕ). DiskIsUsed told faults first (its ∷ j.entries) s row.disk row.kept) (sym went.stream)
                (used-called told faults first j.entries row.book.stream row.disk row.kept pass (suc (calls_of j.entries pass)) (filed_under j.entries it) it (outcome.Failed e) stand.row_is.disk));
          };
          reserved = went.stands.reserved;
        };
        placed = went.placed;
        stream = went.stream;
        counted = no-fault (faults row.disk);
      }

  row-same : (c : BookState) (k : JournalState Q) → c ≡ row.book → k ≡ j → RowWent told faults u first 0 [] row (record row { book = c }) j k
  row-same c k same_book same =
      subst (λ (x : BookState). RowWent told faults u first 0 [] row (record row { book = x }) j k) (sym same_book)
      (subst (λ (x : JournalState Q). RowWent told faults u first 0 [] row row j x) (sym same)
      (record { stands = stand; placed = refl; stream = refl; counted = no-fault (faults row.disk) }))

  same-row : (c : BookState) → c ≡ row.book → record row { book = c } ≡ row
  same-row c same = ap (λ (x : BookState). record row { book = x }) same

  pub row-left : (pass : ℕ) (it : Call) (reply : StepReply Q) (c : BookState) (k : JournalState Q) → FailEventLeft u pass it reply row.book c j k → RowLeft told faults u first (event.Fail pass it) reply row (record row { book = c }) j k
  row-left pass it step.NotNow c k left = (left.0, same-row c left.1, left.2)
  row-left pass it (step.Refused (error.JournalFull entries)) c k left = (left.0, left.1, left.2, same-row c left.3, left.4)
  row-left pass it (step.Refused error.NoMemory) c k left = ([], refl, row-same c k left.0 left.1)
  row-left pass it (step.Refused e) c k left = (
    subst (λ (o : Option Entry). MayStandIf u j.entries o) (sym left.0.told) left.0.may,
    left.1,
    (call_entry j.entries pass it (outcome.Failed e) ∷ [], (refl, left.0.told), row-went pass it e c k left.2),
  )
  row-left pass it other c k left = absurd left
