-- A page that was written goes out again where a place was kept for that; where none was, the store found little room.
use Rattle.std.specs.Prelude.{◌≡◌, ℕ, Bool, true, false, List, [], ◌∷◌, ◌++◌, Some, Result, Ok, Err, OnOk, refl}
use Rattle.std.proofs.Common.{ap, sym, ◌∙◌, subst, append_assoc, inl, inr, true≢false}
use Rattle.std.proofs.lemmas.Bool.{eq-eqb}
use Rattle.cc_entry.specs.Place.{File, Page}
use Rattle.cc_entry.specs.declared.call.Call.{Call}
use Rattle.cc_entry.specs.declared.call.Call.TheVariants as call
use Rattle.cc_entry.specs.declared.entry.End.{End}
use Rattle.cc_entry.specs.declared.entry.End.TheVariants as how
use Rattle.cc_entry.specs.declared.entry.Entry.{Entry}
use Rattle.cc_entry.specs.declared.entry.Entry.TheVariants as entry
use Rattle.cc_entry.specs.declared.error.CcError.{CcError}
use Rattle.cc_entry.specs.declared.error.CcError.TheVariants as error
use Rattle.cc_entry.specs.declared.reply.Outcome.TheVariants as outcome
use Rattle.cc_entry.specs.declared.reply.Reply.TheVariants as reply
use Rattle.cc_effects.specs.Calls.{CallLeft}
use Rattle.cc_effects.specs.Moments.{AtSome}
use Rattle.cc_effects.specs.Noncached.{StoreIsTransferred, PageRefused, TransferRefused}
use Rattle.cc_effects.proofs.FrontLaws.{placed-of}
use Rattle.cc_laws.proofs.HistorySteps.{history-page_out}
use Rattle.cc_laws.proofs.PlacesResident.{among-without}
use Rattle.cc_laws.proofs.ResidencySteps.{residents-went_out}
use Rattle.cc_model.specs.History.{Effect, history}
use Rattle.cc_model.specs.Numbers.{is_among}
use Rattle.cc_model.specs.Residency.{is_resident, residents}
use Rattle.cc_model.specs.Setup.{Setup}
use Rattle.cc_turns.specs.Standing.{Standing}
use Rattle.cc_turns.specs.Takes.{Grows}
use Rattle.cc_writes.specs.Fetch.{WentOn}
use Rattle.cc_writes.specs.Hands.{WentWith}
use Rattle.cc_writes.specs.Logs.{ReachedBy}
use Rattle.cc_writes.specs.Transfers.{IsFinished}
use Rattle.cc_writes.proofs.OneVisit.{went-held, went-number}
use Rattle.cc_writes.proofs.Quiet.{history-kept}
use Rattle.cc_ranges.specs.Ends.{HasEndedTidy, HasFinished, IsIdlePage, PageOutAtMost, IsTidyEnd, write_done}
use Rattle.cc_book.specs.Stored.{store_done}
use Rattle.cc_ranges.specs.Stores.{HasStored, IsTightStore, IsTightUnkept}

-- a past is another one with more entries
abbrev pub Behind : List Entry → List Entry → Type 0
Behind new old = (later : List Entry) × (new ≡ later ++ old)

pub behind-then : (c b a : List Entry) → Behind c b → Behind b a → Behind c a
behind-then c b a second first =
    (second.0 ++ first.0, second.1 ∙ (ap (λ past. second.0 ++ past) first.1 ∙ sym (append_assoc second.0 first.0 a)))

-- a page that went out is not resident
gone-out : (pass : ℕ) (page : Page) (past : List Entry) → is_resident (history (entry.PageOut pass page ∷ past) page.stream) page.page ≡ false
gone-out pass page past =
    ap (λ h. is_resident h page.page) (history-page_out pass page past page.stream (eq-eqb page.stream page.stream refl))
    ∙ (ap (is_among page.page) (residents-went_out pass page.page (history past page.stream))
    ∙ (among-without page.page page.page (residents (history past page.stream))
    ∙ rw (eq-eqb page.page page.page refl) refl))

-- so one that was taken out where it was idle is idle no more
out-idle : (me : ℕ) (page : Page) (tidied front past : List Entry) → PageOutAtMost me page tidied → past ≡ tidied ++ front → (IsIdlePage (history front page.stream) page.page → tidied ≡ entry.PageOut me page ∷ []) → IsIdlePage (history past page.stream) page.page → ⊥
out-idle me page [] front past only placed out idle =
    let none : [] ≡ entry.PageOut me page ∷ [] = out (subst (λ (l : List Entry). IsIdlePage (history l page.stream) page.page) placed idle) in
    absurd (cc)
out-idle me page (e ∷ []) front past only placed out idle =
    true≢false (sym idle.resident ∙ (ap (λ (l : List Entry). is_resident (history l page.stream) page.page) (placed ∙ ap (λ (x : Entry). x ∷ front) only) ∙ gone-out me page front))
out-idle me page (e ∷ (other ∷ more)) front past only placed out idle = absurd only

-- The write of a page has ended whose transfer ended well: it left the page idle only where no place was kept.
pub ended-tidy : (w z : Standing) (file : File) (page : Page) (kept : Bool) (seen : List Entry) → w.held.book ≡ Some page.stream → w.held.device ≡ Some page.stream → WentWith w.in_flight w z → (kept ≡ true → w.in_flight ≡ 1) → IsFinished w page how.Good false z.seen → HasFinished z file page seen → HasEndedTidy w file page kept seen
ended-tidy w z file page kept seen book device went one finished is = record {
  front = is.ended.front;
  later = since.0;
  grew = since.1;
  placed = is.ended.placed ∙ ap (λ (n : ℕ). write_done n file page is.ended.front ∷ is.ended.front) (went-number 0 z x is.went ∙ went-number w.in_flight w z went);
  gone = λ kept_is idle. out-idle z.number page is.tidied.tidied is.tidied.front x.seen is.tidied.only is.tidied.placed
      (is.tidied.out (ap (λ (y : Standing). y.in_flight) went.same ∙ one kept_is))
      (subst (λ (h : List Effect). IsIdlePage h page.page) same idle);
}
  where
    x : Standing
    x = is.then_was

    same : history is.ended.front page.stream ≡ history x.seen page.stream
    same = history-kept x page.stream is.ended.front
        (ap (λ h. h.book) (went-held 0 z x is.went ∙ went-held w.in_flight w z went) ∙ book)
        (ap (λ h. h.device) (went-held 0 z x is.went ∙ went-held w.in_flight w z went) ∙ device)
        is.ended.grows

    grown : (y : Standing) (past : List Entry) → Grows y past → Behind past y.seen
    grown y past grows = (grows.later, grows.grew)

    since : Behind is.ended.front w.seen
    since =
        behind-then is.ended.front x.seen w.seen (grown x is.ended.front is.ended.grows)
        (behind-then x.seen is.tidied.front w.seen (is.tidied.tidied, is.tidied.placed)
        (behind-then is.tidied.front z.seen w.seen (grown z is.tidied.front is.tidied.grows) (entry.WriteEnd w.number page how.Good ∷ finished.later, finished.placed)))

-- Behind its store it ended so, and that kept a place, or found little room.
pub tidy-stored : (w x : Standing) (most : ℕ) (file : File) (page : Page) (kept : Bool) (seen : List Entry) → x.number ≡ w.number → Behind x.seen w.seen → IsTightUnkept w most file page (Ok kept) x.seen → HasEndedTidy x file page kept seen → IsTidyEnd w.setup most w.number file page w.seen seen
tidy-stored w x most file page kept seen number since tight is = record {
  front = is.front;
  later = (behind-then is.front x.seen w.seen (is.later, is.grew) since).0;
  grew = (behind-then is.front x.seen w.seen (is.later, is.grew) since).1;
  placed = is.placed ∙ ap (λ (n : ℕ). write_done n file page is.front ∷ is.front) number;
  left_in = left-in kept refl tight;
}
  where
    left-in : (k : Bool) → kept ≡ k → IsTightUnkept w most file page (Ok k) x.seen → IsIdlePage (history is.front page.stream) page.page → AtSome (IsTightStore w.setup most w.number file page) w.seen is.front
    left-in true same tight idle = absurd (is.gone same idle)
    left-in false same tight idle = record { moment = x.seen; later = is.later; since = since.0; ends = is.grew; begins = since.1; holds = tight }

-- so of the pass as it stood before the store
pub put-tidy : {A : Type 0} (n : ℕ) (w x : Standing) (file : File) (page : Page) (bytes : List ℕ) (kept : Bool) (seen : List Entry) → WentWith n w x → HasStored w file page bytes x.seen → IsTightUnkept w x.most_others file page (Ok kept) x.seen → (r : Result A CcError) → OnOk r (HasEndedTidy x file page kept seen) → OnOk r (IsTidyEnd w.setup w.most_others w.number file page w.seen seen)
put-tidy n w x file page bytes kept seen went stored tight (Ok a) is =
    subst (λ (most : ℕ). IsTidyEnd w.setup most w.number file page w.seen seen) (ap (λ (y : Standing). y.most_others) went.same)
    (tidy-stored w x x.most_others file page kept seen (went-number n w x went)
    (behind-then x.seen stored.front w.seen (entry.WriteBegin w.number page ∷ store_done w.number stored.front file page bytes ∷ [], stored.placed) (stored.grows.later, stored.grows.grew)) tight is)
put-tidy n w x file page bytes kept seen went stored tight (Err e) is = tt

-- The same since an earlier moment.
pub tidy-older : (u : Setup) (most me : ℕ) (file : File) (page : Page) (old older past : List Entry) → Behind old older → IsTidyEnd u most me file page old past → IsTidyEnd u most me file page older past
tidy-older u most me file page old older past since is = record {
  front = is.front;
  later = (behind-then is.front old older (is.later, is.grew) since).0;
  grew = (behind-then is.front old older (is.later, is.grew) since).1;
  placed = is.placed;
  left_in = λ idle.
      let at = is.left_in idle in
      let from = behind-then at.moment old older (at.since, at.begins) since in
      record { moment = at.moment; later = at.later; since = from.0; ends = at.ends; begins = from.1; holds = at.holds };
}

-- and of the pass as it stood before
pub tidy-as : {A : Type 0} (w x : Standing) (file : File) (page : Page) (r : Result A CcError) (seen : List Entry) → x.setup ≡ w.setup → x.most_others ≡ w.most_others → x.number ≡ w.number → Behind x.seen w.seen → OnOk r (IsTidyEnd x.setup x.most_others x.number file page x.seen seen) → OnOk r (IsTidyEnd w.setup w.most_others w.number file page w.seen seen)
tidy-as w x file page (Ok a) seen setup most number since is =
    tidy-older w.setup w.most_others w.number file page x.seen w.seen seen since
    (subst (λ (u : Setup). IsTidyEnd u w.most_others w.number file page x.seen seen) setup
    (subst (λ (m : ℕ). IsTidyEnd x.setup m w.number file page x.seen seen) most
    (subst (λ (me : ℕ). IsTidyEnd x.setup x.most_others me file page x.seen seen) number is)))
tidy-as w x file page (Err e) seen setup most number since is = tt

pub tidy-went : {A : Type 0} (n : ℕ) (w x : Standing) (file : File) (page : Page) (r : Result A CcError) (seen : List Entry) → WentWith n w x → Behind x.seen w.seen → OnOk r (IsTidyEnd x.setup x.most_others x.number file page x.seen seen) → OnOk r (IsTidyEnd w.setup w.most_others w.number file page w.seen seen)
tidy-went n w x file page r seen went since is =
    tidy-as w x file page r seen (ap (λ (y : Standing). y.setup) went.same) (ap (λ (y : Standing). y.most_others) went.same) (ap (λ (y : Standing). y.number) went.same) since is

pub tidy-went-on : {A : Type 0} (w x : Standing) (file : File) (page : Page) (r : Result A CcError) (seen : List Entry) → WentOn w x → Behind x.seen w.seen → OnOk r (IsTidyEnd x.setup x.most_others x.number file page x.seen seen) → OnOk r (IsTidyEnd w.setup w.most_others w.number file page w.seen seen)
tidy-went-on w x file page r seen went since is =
    tidy-as w x file page r seen (ap (λ (y : Standing). y.setup) went.same) (ap (λ (y : Standing). y.most_others) went.same) (ap (λ (y : Standing). y.number) went.same) since is

-- what held at a moment did so at one of more
pub at-later : (P : List Entry → Type 0) (old mid new : List Entry) → Behind new mid → AtSome P old mid → AtSome P old new
at-later P old mid new since at =
    let all = behind-then new mid at.moment since (at.later, at.ends) in
    record { moment = at.moment; later = all.0; since = at.since; ends = all.1; begins = at.begins; holds = at.holds }

-- a page that was refused leaves the past longer
call-behind : (u : Setup) (me : ℕ) (it : Call) (e : CcError) (old new : List Entry) → CallLeft u me it (outcome.Failed e) old new → Behind new old
call-behind u me it (error.JournalFull entries) old new left = (left.during, left.grew)
call-behind u me it error.NoMemory old new left = (left.during, left.grew)
call-behind u me it other old new left =
    let p = placed-of u me it (outcome.Failed other) old new left refl in
    let own : List Entry = entry.Call me p.1.nth p.1.stream it (outcome.Failed other) ∷ p.0 in
    (p.1.later ++ own, p.1.grew ∙ sym (append_assoc p.1.later own old))

transferred-behind : (me : ℕ) (file : File) (page : ℕ) (bytes : List ℕ) (end : End) (old new : List Entry) → StoreIsTransferred me file page bytes end old new → Behind new old
transferred-behind me file page bytes end old new is =
    let its : Page = record { stream = file.stream; page = page } in
    let begin : Entry = entry.WriteBegin me its in
    let store : Entry = entry.Call me is.nth (Some file.stream) (call.NcStore file page bytes) (outcome.Done reply.Unit) in
    let begun : List Entry = begin ∷ store ∷ (is.earlier ++ old) in
    behind-then new (is.waiting ++ begun) old (entry.WriteEnd me its end ∷ [], is.grew)
    (behind-then (is.waiting ++ begun) begun old (is.waiting, refl)
    (behind-then begun (is.earlier ++ old) old (begin ∷ store ∷ [], refl) (is.earlier, refl)))

refused-at-transfer : (me : ℕ) (file : File) (page : ℕ) (bytes : List ℕ) (e : CcError) (old new : List Entry) → TransferRefused me file page bytes e old new → Behind new old
refused-at-transfer me file page bytes (error.WriteFault failed) old new is =
    let ended = is.1 in
    let placed = is.4 in
    let told : Entry = entry.Call me is.2 (Some file.stream) (call.NcWrite file page) (outcome.Failed (error.WriteFault failed)) in
    behind-then new ended old
    (behind-then new (told ∷ (placed.earlier ++ ended)) ended (placed.later, placed.grew)
    (behind-then (told ∷ (placed.earlier ++ ended)) (placed.earlier ++ ended) ended (told ∷ [], refl) (placed.earlier, refl)))
    (transferred-behind me file page bytes how.Failed old ended is.3)
refused-at-transfer me file page bytes error.NoMemory old new is =
    behind-then new is.0 old (is.2.during, is.2.grew) (transferred-behind me file page bytes how.NoMemory old is.0 is.1)
refused-at-transfer me file page bytes other old new is = absurd is

pub refused-behind : (u : Setup) (me : ℕ) (file : File) (page : ℕ) (bytes : List ℕ) (e : CcError) (old new : List Entry) → PageRefused u me file page bytes e old new → Behind new old
refused-behind u me file page bytes e old new (inl before) = call-behind u me (call.NcWrite file page) e old new before.1
refused-behind u me file page bytes e old new (inr after) = refused-at-transfer me file page bytes e old new after

-- a log flushed leaves the past longer
pub flushed-behind : (w : Standing) (page : Page) (seen : List Entry) → ReachedBy w page seen → Behind seen w.seen
flushed-behind w page seen (inl grows) = (grows.later, grows.grew)
flushed-behind w page seen (inr flushed) =
    let placed = flushed.2.placed in
    behind-then seen placed.front w.seen (entry.Flushed w.number flushed.0 flushed.1 ∷ [], placed.placed) (placed.grows.later, placed.grows.grew)
