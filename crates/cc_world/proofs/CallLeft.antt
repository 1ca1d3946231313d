-- What a call that ends on a book leaves, by how it ends.
use Rattle.std.specs.Prelude.{◌≡◌, ◌⊎◌, ◌↔◌, ℕ, suc, ◌+◌, ◌-◌, ◌<◌, ◌≤◌, true, false, List, [], ◌∷◌, ◌++◌, length, Result, Ok, Err, IsErrOf, None, Some, refl}
use Rattle.std.specs.declared.option.Option.{Option}
use Rattle.std.proofs.Common.{ap, sym, ◌∙◌, subst, arith, inl, inr}
use Rattle.cc_entry.specs.declared.call.Call.{Call}
use Rattle.cc_entry.specs.declared.entry.Entry.{Entry}
use Rattle.cc_entry.specs.declared.entry.Entry.TheVariants as entry
use Rattle.cc_entry.specs.declared.error.CcError.{CcError}
use Rattle.cc_entry.specs.declared.error.CcError.TheVariants as error
use Rattle.cc_entry.specs.declared.reply.Outcome.{Outcome}
use Rattle.cc_entry.specs.declared.reply.Outcome.TheVariants as outcome
use Rattle.cc_entry.specs.declared.reply.Reply.{Reply}
use Rattle.cc_book.specs.Book.{BookState, BookStands, Gains, GoesOn, MayDoOnBook as MayBeDone, MayPlaceOnBook, StandsAsBefore, Stays, done, failed}
use Rattle.cc_journal.specs.Calls.{owed_end}
use Rattle.cc_journal.specs.Journal.{JournalState, room_of}
use Rattle.cc_model.specs.Acts.{file_of}
use Rattle.cc_model.specs.Allowed.{MayEnd}
use Rattle.cc_model.specs.Filing.{IsFiled}
use Rattle.cc_model.specs.Good.{IsGood}
use Rattle.cc_model.specs.History.{history}
use Rattle.cc_model.specs.Holds.{holds_of}
use Rattle.cc_model.specs.Legal.{stream_history, stream_opening}
use Rattle.cc_model.specs.Passes.{calls_of}
use Rattle.cc_model.specs.Replies.{IsReply}
use Rattle.cc_model.specs.Room.{reserved_in}
use Rattle.cc_model.specs.Setup.{Setup}
use Rattle.cc_step.proofs.Placed.{so-far}
use Rattle.cc_step.proofs.Reasons.{is_listed}
use Rattle.cc_step.specs.Step.{StandUnder}
use Rattle.cc_world.proofs.CallGood.{good-refused, good-replied, listed}
use Rattle.cc_world.proofs.CallSums.{asked-ready, reserved-failed, sum-replied}
use Rattle.cc_world.specs.Calls.{BookStandsUnder, CallEventLeft, CallWent, IsCallAnswer, IsFiledOn, CallIsMade, CallIsRefusedSo, IsReplied, CallIsUnrefused, CallPlacingLeft, asked_on, asked_ready, spared_on}
use Rattle.cc_effects.specs.Events.{CanEnd, MayDo, asked_for, call_entry, filed_under, reason_of}
use Rattle.cc_effects.specs.declared.events.StepReply.{StepReply}
use Rattle.cc_effects.specs.declared.events.StepReply.TheVariants as step

-- A call may not end now that may not be filed, or has no reply with which it may.
pub unfiled-never : (u : Setup) (past : List Entry) (pass s : ℕ) (it : Call) → filed_under past it ≡ Some s → (IsFiledOn past pass s it → ⊥) → MayDo u past pass it → ⊥
unfiled-never u past pass s it here never may =
    never (subst (λ (o : Option ℕ). IsFiled (holds_of (stream_history past o)) pass o it (file_of it)) here may.filed)

-- a reply to a call that is filed so
abbrev Replies : Setup → List Entry → ℕ → Call → Option ℕ → Type 0
Replies u past pass it o =
    (r : Reply) × IsReply u past (stream_opening u o) (stream_history past o) pass it r × MayEnd u past pass o it (outcome.Done r)

pub unready-never : (u : Setup) (past : List Entry) (pass s : ℕ) (it : Call) → filed_under past it ≡ Some s → reason_of u past it ≡ None → IsCallAnswer u past pass s it None → MayDo u past pass it → ⊥
unready-never u past pass s it here admitted never may =
    let can : CanEnd u past pass it None = subst (λ (o : _). CanEnd u past pass it o) admitted may.can_end in
    let replies : Replies u past pass it (Some s) = subst (λ (o : Option ℕ). Replies u past pass it o) here can in
    never replies.0 (record { reply_is = replies.1; may_end = replies.2 })

-- one that is refused may, and so may one with such a reply
may-filed : (u : Setup) (past : List Entry) (pass s : ℕ) (it : Call) → filed_under past it ≡ Some s → IsFiledOn past pass s it → CanEnd u past pass it (reason_of u past it) → MayDo u past pass it
may-filed u past pass s it here filed can = record {
  filed = subst (λ (o : Option ℕ). IsFiled (holds_of (stream_history past o)) pass o it (file_of it)) (sym here) filed;
  can_end = can;
}

pub may-refused : {Q : Type 0} (u : Setup) (pass : ℕ) (it : Call) (e : CcError) (b : BookState) (j : JournalState Q) → CallIsRefusedSo u pass it e b j → MayDo u j.entries pass it
may-refused u pass it e b j refused =
    may-filed u j.entries pass b.stream it refused.made.here refused.filed (subst (λ (o : Option CcError). CanEnd u j.entries pass it o) (sym refused.reason) tt)

pub may-replied : {Q : Type 0} (u : Setup) (more pass : ℕ) (it : Call) (r : Reply) (b : BookState) (j : JournalState Q) → IsReplied u more pass it r b j → MayDo u j.entries pass it
may-replied u more pass it r b j replied =
    let un = replied.unrefused in
    may-filed u j.entries pass b.stream it un.made.here un.filed
    (subst (λ (o : Option CcError). CanEnd u j.entries pass it o) (sym un.admitted)
    (subst (λ (o : Option ℕ). Replies u j.entries pass it o) (sym un.made.here) (r, replied.may.reply_is, replied.may.may_end)))

-- the entry of a call that is filed under a stream
entry-on : (past : List Entry) (pass s : ℕ) (it : Call) (ended : Outcome) → filed_under past it ≡ Some s → entry.Call pass (suc (calls_of past pass)) (Some s) it ended ≡ call_entry past pass it ended
entry-on past pass s it ended here = ap (λ (o : Option ℕ). entry.Call pass (suc (calls_of past pass)) o it ended) (sym here)

-- The book stands for a journal with one entry more, and reserved is what that owes.
went-with : {Q : Type 0} (u : Setup) (n : ℕ) (e : Entry) (b c : BookState) (j l k : JournalState Q) → StandUnder u b j → b.stream < 16 → IsGood u (e ∷ j.entries) → c.stream ≡ b.stream → BookStands (u.opening b.stream) (e ∷ j.entries) c → k ≡ record j { entries = e ∷ j.entries; reserved = n; rows = l.rows } → n ≡ reserved_in (e ∷ j.entries) → CallWent u (e ∷ []) b c j k
went-with {Q} u n e b c j l k stand known good stream stands placed reserved =
    let grown : k.entries ≡ e ∷ j.entries = ap (λ x. x.entries) placed in
    record {
      stands = record {
        stand = record {
          good = subst (λ (past : List Entry). IsGood u past) (sym grown) good;
          stands = subst (λ (s : ℕ). BookStands (u.opening s) k.entries c) (sym stream)
              (subst (λ (past : List Entry). BookStands (u.opening b.stream) past c) (sym grown) stands);
          logs_are = stand.logs_are ∙ sym (ap (λ x. x.logs) placed);
          threshold_is = stand.threshold_is ∙ sym (ap (λ x. x.threshold) placed);
        };
        known = subst (λ (s : ℕ). s < 16) (sym stream) known;
        reserved = nothing-more _ _ _ (ap (λ x. x.reserved) placed) (reserved ∙ ap reserved_in (sym grown));
      };
      placed = subst (λ (x : JournalState Q). x ≡ record j { entries = e ∷ j.entries; reserved = x.reserved; rows = x.rows }) (sym placed) refl;
      stream = stream;
    }
  where
    nothing-more : (a m owed : ℕ) → a ≡ m → m ≡ owed → a ≡ owed + 0
    nothing-more a m owed first second = omega (arith, first, second)

-- Nothing was placed, and the book stands as before.
went-none : {Q : Type 0} (u : Setup) (b c : BookState) (j k : JournalState Q) → BookStandsUnder u 0 b j → StandsAsBefore b c → k ≡ j → CallWent u [] b c j k
went-none {Q} u b c j k stands before same =
    let entries : k.entries ≡ j.entries = ap (λ x. x.entries) same in
    record {
      stands = record {
        stand = record {
          good = subst (λ (past : List Entry). IsGood u past) (sym entries) stands.stand.good;
          stands = subst (λ (s : ℕ). BookStands (u.opening s) k.entries c) (sym before.stream)
              (subst (λ (past : List Entry). BookStands (u.opening b.stream) past c) (sym entries) (before.stands j.entries (u.opening b.stream) stands.stand.stands));
          logs_are = stands.stand.logs_are ∙ sym (ap (λ x. x.logs) same);
          threshold_is = stands.stand.threshold_is ∙ sym (ap (λ x. x.threshold) same);
        };
        known = subst (λ (s : ℕ). s < 16) (sym before.stream) stands.known;
        reserved = ap (λ x. x.reserved) same ∙ (stands.reserved ∙ ap (λ (past : List Entry). reserved_in past + 0) (sym entries));
      };
      placed = subst (λ (x : JournalState Q). x ≡ record j { entries = j.entries; reserved = x.reserved; rows = x.rows }) (sym same) refl;
      stream = before.stream;
    }

unchanged : (b : BookState) → StandsAsBefore b b
unchanged b = record { stream = refl; stands = λ past opening is. is }

-- why room could be had, and why not
at-least : (a n : ℕ) → (a < n → ⊥) → n ≤ a
at-least a n never = omega (arith, never)

roomy : (a n : ℕ) (done : Unit {0}) (e : CcError) → (a < n → IsErrOf {T = Unit {0}} {E = CcError} (Ok done) e) → n ≤ a
roomy a n done e full = at-least a n (λ less. no done e (full less))
  where
    no : (v : Unit {0}) (x : CcError) → IsErrOf {T = Unit {0}} {E = CcError} (Ok v) x → ⊥
    no v x is = absurd (cc)

as-err : (x y : CcError) → x ≡ y → IsErrOf {T = Unit {0}} {E = CcError} (Err x) y
as-err x y is =
    let f : CcError → Result (Unit {0}) CcError = λ z. Err z in
    ap f is

-- No place could be reserved for the entry of a call that may end now.
pub no-room : {Q : Type 0} (u : Setup) (pass asked : ℕ) (it : Call) (e : CcError) (b : BookState) (j k : JournalState Q) → BookStandsUnder u 0 b j → MayDo u j.entries pass it → asked_for j.entries pass it (reason_of u j.entries it) ≡ asked → (e ≡ error.JournalFull (length j.entries)) ⊎ (e ≡ error.NoMemory) → (IsErrOf {T = Unit {0}} {E = CcError} (Err e) (error.JournalFull (length j.entries)) ↔ (room_of j < asked)) → k ≡ j → CallEventLeft u pass it (step.Refused e) b b j k
no-room u pass asked it e b j k stands may asks (inl is) full same =
    subst (λ (x : CcError). CallEventLeft u pass it (step.Refused x) b b j k) (sym is)
    (may, subst (λ (n : ℕ). room_of j < n) (sym asks) (full.0 (as-err e (error.JournalFull (length j.entries)) is)), refl, refl, same)
no-room u pass asked it e b j k stands may asks (inr is) full same =
    subst (λ (x : CcError). CallEventLeft u pass it (step.Refused x) b b j k) (sym is) (went-none u b b j k stands (unchanged b) same)

-- what a call leaves that was refused for a reason of the list
refused-so : {Q : Type 0} (u : Setup) (pass : ℕ) (it : Call) (e : CcError) (b c : BookState) (j k : JournalState Q) → is_listed e ≡ true → MayDo u j.entries pass it → asked_for j.entries pass it (reason_of u j.entries it) ≤ room_of j → reason_of u j.entries it ≡ Some e → CallWent u (call_entry j.entries pass it (outcome.Failed e) ∷ []) b c j k → CallEventLeft u pass it (step.Refused e) b c j k
refused-so u pass it (error.JournalFull entries) b c j k among may room reason went = absurd (cc)
refused-so u pass it error.NoMemory b c j k among may room reason went = absurd (cc)
refused-so u pass it other b c j k among may room reason went = (may, room, reason, went)

-- A call that is refused leaves its entry, for which a place was reserved. The end of a noncached write that its pass owed
-- is owed no more.
module _ {Q : Type 0} (u : Setup) (pass : ℕ) (it : Call) (e : CcError) (b : BookState) (j r : JournalState Q) (refused : CallIsRefusedSo u pass it e b j) (reserving : r ≡ record j { reserved = j.reserved + 1 }) where
  abbrev its : List Entry → Entry
  its past = failed pass past b.stream it e

  same : r.entries ≡ j.entries
  same = ap (λ x. x.entries) reserving

  pub may-fail : MayPlaceOnBook r.entries (its r.entries) b
  may-fail = subst (λ (past : List Entry). MayPlaceOnBook past (its past) b) (sym same)
      (u, so-far u (its j.entries ∷ j.entries) (good-refused u pass it e b j refused), refused.made.stands.stand.stands)

  sums : owed_end j.entries pass + reserved_in (its j.entries ∷ j.entries) ≡ j.reserved
  sums = reserved-failed j.entries pass (suc (calls_of j.entries pass)) b.stream it e ∙ none-more _ _ refused.made.stands.reserved
    where
      none-more : (a owed : ℕ) → a ≡ owed + 0 → owed ≡ a
      none-more a owed is = omega (arith, is)

  module _ (owed : ℕ) (l : JournalState Q) (owes : owed ≡ owed_end r.entries pass) (gains : Gains (its r.entries) r l) where
    gained : l ≡ record j { entries = its j.entries ∷ j.entries; reserved = (j.reserved + 1) - 1; rows = l.rows }
    gained = gains ∙ ap (λ (x : JournalState Q). record x { entries = its x.entries ∷ x.entries; reserved = x.reserved - 1; rows = l.rows }) reserving

    its-owed : owed ≡ owed_end j.entries pass
    its-owed = owes ∙ ap (λ (past : List Entry). owed_end past pass) same

    pub owed-within : owed ≤ l.reserved
    owed-within = within _ _ _ _ its-owed sums (ap (λ x. x.reserved) gained)
      where
        within : (its after before now : ℕ) → owed ≡ its → its + after ≡ before → now ≡ (before + 1) - 1 → owed ≤ now
        within its after before now is sum left = omega (arith, is, sum, left)

    pub refused-left : (c : BookState) (k : JournalState Q) (done : Unit {0}) (x : CcError) → GoesOn r.entries l.entries b c → c ≡ b → k ≡ record l { reserved = l.reserved - owed } → (room_of j < 1 → IsErrOf {T = Unit {0}} {E = CcError} (Ok done) x) → CallEventLeft u pass it (step.Refused e) b c j k
    refused-left c k done x goes is given full =
        let placed : k ≡ record j { entries = its j.entries ∷ j.entries; reserved = ((j.reserved + 1) - 1) - owed; rows = l.rows } = given ∙ ap (λ (y : JournalState Q). record y { reserved = y.reserved - owed }) gained in
        let stands : BookStands (u.opening b.stream) (its j.entries ∷ j.entries) c =
        subst (λ (past : List Entry). BookStands (u.opening b.stream) past c) (ap (λ y. y.entries) gained)
        (goes (u.opening b.stream) (subst (λ (past : List Entry). BookStands (u.opening b.stream) past b) (sym same) refused.made.stands.stand.stands)) in
        let went = went-with u (((j.reserved + 1) - 1) - owed) (its j.entries) b c j l k refused.made.stands.stand refused.made.stands.known
        (good-refused u pass it e b j refused) (ap (λ y. y.stream) is) stands placed (left _ _ _ its-owed sums) in
        refused-so u pass it e b c j k (listed u j.entries b.stream it e refused.made.here refused.reason) (may-refused u pass it e b j refused)
        (subst (λ (o : Option CcError). asked_for j.entries pass it o ≤ room_of j) (sym refused.reason) (roomy (room_of j) 1 done x full)) refused.reason
        (subst (λ (y : Entry). CallWent u (y ∷ []) b c j k) (entry-on j.entries pass b.stream it (outcome.Failed e) refused.made.here) went)
      where
        left : (its after before : ℕ) → owed ≡ its → its + after ≡ before → ((before + 1) - 1) - owed ≡ after
        left its after before is sum = omega (arith, is, sum)

-- A call that may be done with a reply, and for which the places are reserved that it asks.
module _ {Q : Type 0} (u : Setup) (pass : ℕ) (it : Call) (r : Reply) (b : BookState) (j : JournalState Q) (replied : IsReplied u (asked_ready j.entries pass it) pass it r b j) where
  abbrev it-done : Entry
  it-done = done pass j.entries b.stream it r

  unrefused : CallIsUnrefused u (asked_ready j.entries pass it) pass it b j
  unrefused = replied.unrefused

  pub may-done : MayBeDone u j.entries pass it r b
  may-done = record {
    good = so-far u (it-done ∷ j.entries) (good-replied u (asked_ready j.entries pass it) pass it r b j replied);
    stands = unrefused.made.stands.stand.stands;
  }

  all-reserved : j.reserved ≡ reserved_in (it-done ∷ j.entries) + (1 + spared_on j.entries pass b.stream it)
  all-reserved = unrefused.made.stands.reserved ∙ sum-replied u (asked_ready j.entries pass it) pass it r b j replied

  pub some-reserved : 0 < j.reserved
  some-reserved = some _ _ _ all-reserved
    where
      some : (n owed spared : ℕ) → n ≡ owed + (1 + spared) → 0 < n
      some n owed spared is = omega (arith, is)

  module _ (spared : ℕ) (c : BookState) (l : JournalState Q) (spares : spared ≡ spared_on j.entries pass b.stream it) (gains : Gains it-done j l) where
    pub spared-within : spared ≤ l.reserved
    spared-within = within _ _ _ _ all-reserved spares (ap (λ x. x.reserved) gains)
      where
        within : (n owed its now : ℕ) → n ≡ owed + (1 + its) → spared ≡ its → now ≡ n - 1 → spared ≤ now
        within n owed its now is same left = omega (arith, is, same, left)

    pub done-went : (k : JournalState Q) → BookStands (u.opening b.stream) l.entries c → c.stream ≡ b.stream → k ≡ record l { reserved = l.reserved - spared } → CallWent u (call_entry j.entries pass it (outcome.Done r) ∷ []) b c j k
    done-went k stands stream given =
        let placed : k ≡ record j { entries = it-done ∷ j.entries; reserved = (j.reserved - 1) - spared; rows = l.rows } = given ∙ ap (λ (y : JournalState Q). record y { reserved = y.reserved - spared }) gains in
        subst (λ (y : Entry). CallWent u (y ∷ []) b c j k) (entry-on j.entries pass b.stream it (outcome.Done r) unrefused.made.here)
        (went-with u ((j.reserved - 1) - spared) it-done b c j l k unrefused.made.stands.stand unrefused.made.stands.known
        (good-replied u (asked_ready j.entries pass it) pass it r b j replied) stream
        (subst (λ (past : List Entry). BookStands (u.opening b.stream) past c) (ap (λ y. y.entries) gains) stands) placed (left _ _ _ all-reserved spares))
      where
        left : (n owed its : ℕ) → n ≡ owed + (1 + its) → spared ≡ its → (n - 1) - spared ≡ owed
        left n owed its is same = omega (arith, is, same)

-- A call that may be done with a reply, for which it is seen whether the places can be reserved that it asks.
module _ {Q : Type 0} (u : Setup) (pass asked : ℕ) (it : Call) (r : Reply) (b : BookState) (j : JournalState Q) (replied : IsReplied u 0 pass it r b j) (asks : asked ≡ asked_on (holds_of (history j.entries b.stream)) it) where
  its-asked : asked ≡ asked_ready j.entries pass it
  its-asked = asks ∙ sym (asked-ready u 0 pass it r b j replied)

  pub unplaced : (e : CcError) (k : JournalState Q) → (e ≡ error.JournalFull (length j.entries)) ⊎ (e ≡ error.NoMemory) → (IsErrOf {T = Unit {0}} {E = CcError} (Err e) (error.JournalFull (length j.entries)) ↔ (room_of j < asked)) → k ≡ j → CallPlacingLeft u pass it r (Err e) b b j k
  unplaced e k (inl is) full same =
      subst (λ (x : CcError). CallPlacingLeft u pass it r (Err x) b b j k) (sym is)
      (subst (λ (n : ℕ). room_of j < n) its-asked (full.0 (as-err e (error.JournalFull (length j.entries)) is)), refl, refl, same)
  unplaced e k (inr is) full same =
      subst (λ (x : CcError). CallPlacingLeft u pass it r (Err x) b b j k) (sym is) (went-none u b b j k replied.unrefused.made.stands (unchanged b) same)

  module _ (i : JournalState Q) (reserving : i ≡ record j { reserved = j.reserved + asked }) where
    pub replied-reserving : IsReplied u (asked_ready i.entries pass it) pass it r b i
    replied-reserving = subst (λ (x : JournalState Q). IsReplied u (asked_ready x.entries pass it) pass it r b x) (sym reserving) (record {
      unrefused = record {
        made = record {
          stands = record {
            stand = record {
              good = replied.unrefused.made.stands.stand.good;
              stands = replied.unrefused.made.stands.stand.stands;
              logs_are = replied.unrefused.made.stands.stand.logs_are;
              threshold_is = replied.unrefused.made.stands.stand.threshold_is;
            };
            known = replied.unrefused.made.stands.known;
            reserved = with-more _ _ _ replied.unrefused.made.stands.reserved its-asked;
          };
          here = replied.unrefused.made.here;
        };
        alone = replied.unrefused.alone;
        filed = replied.unrefused.filed;
        admitted = replied.unrefused.admitted;
      };
      may = replied.may;
    })
      where
        with-more : (n owed its : ℕ) → n ≡ owed + 0 → asked ≡ its → n + asked ≡ owed + its
        with-more n owed its is same = omega (arith, is, same)

    pub placed-left : (done x : Unit {0}) (e : CcError) (c : BookState) (k : JournalState Q) → (room_of j < asked → IsErrOf {T = Unit {0}} {E = CcError} (Ok x) e) → CallWent u (call_entry i.entries pass it (outcome.Done r) ∷ []) b c i k → CallPlacingLeft u pass it r (Ok done) b c j k
    placed-left done x e c k full went = (
      subst (λ (n : ℕ). n ≤ room_of j) its-asked (roomy (room_of j) asked x e full),
      record {
        stands = went.stands;
        placed = went.placed ∙ ap (λ (y : JournalState Q). record y { entries = call_entry y.entries pass it (outcome.Done r) ∷ y.entries; reserved = k.reserved; rows = k.rows }) reserving;
        stream = went.stream;
      },
    )

    pub wanting-left : (c : BookState) (l k : JournalState Q) → Stays i l b c → k ≡ record l { reserved = l.reserved - asked } → CallPlacingLeft u pass it r (Err error.NoMemory) b c j k
    wanting-left c l k stays given =
        went-none u b c j k replied.unrefused.made.stands stays.1
        (given ∙ (ap (λ (y : JournalState Q). record y { reserved = y.reserved - asked }) (stays.0 ∙ reserving) ∙ ap (λ (n : ℕ). record j { reserved = n }) (back j.reserved asked)))
      where
        back : (n m : ℕ) → (n + m) - m ≡ n
        back n m = omega arith

-- What the placing of its entry leaves is what the call leaves.
module _ {Q : Type 0} (u : Setup) (pass : ℕ) (it : Call) (r : Reply) (b c : BookState) (j k : JournalState Q) (replied : IsReplied u 0 pass it r b j) where
  asks-ready : asked_for j.entries pass it (reason_of u j.entries it) ≡ asked_ready j.entries pass it
  asks-ready = ap (λ (o : Option CcError). asked_for j.entries pass it o) replied.unrefused.admitted

  pub finished : (done : Unit {0}) → CallPlacingLeft u pass it r (Ok done) b c j k → CallEventLeft u pass it (step.Done r) b c j k
  finished done left = (may-replied u 0 pass it r b j replied, subst (λ (n : ℕ). n ≤ room_of j) (sym asks-ready) left.0, replied.unrefused.admitted, left.1)

  pub unfinished : (e : CcError) → CallPlacingLeft u pass it r (Err e) b c j k → CallEventLeft u pass it (step.Refused e) b c j k
  unfinished (error.JournalFull entries) left =
      (may-replied u 0 pass it r b j replied, subst (λ (n : ℕ). room_of j < n) (sym asks-ready) left.0, left.1, left.2, left.3)
  unfinished error.NoMemory left = left
  unfinished other left = absurd left
