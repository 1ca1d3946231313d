-- What a crash may leave of a page after a good sync is what it was known to be, or what was transferred since.
use Rattle.std.specs.Prelude.{◌≡◌, ℕ, Bool, true, false, ◌==◌, List, [], ◌∷◌, ◌++◌, Contains, ◌⊎◌, refl}
use Rattle.std.specs.declared.option.Option.{Option}
use Rattle.std.specs.declared.option.Option.TheVariants.{Some, None}
use Rattle.std.specs.List.{cons_option}
use Rattle.std.proofs.Common.{ap, sym, subst, ◌∙◌, inl, inr}
use Rattle.std.proofs.lemmas.Bool.{eq-eqb, eqb-true}
use Rattle.std.proofs.lemmas.List.Elements.{Contains-push_cases}
use Rattle.cc_entry.specs.Place.{Page}
use Rattle.cc_entry.specs.declared.entry.Entry.{Entry}
use Rattle.cc_entry.specs.declared.entry.Entry.TheVariants as entry
use Rattle.cc_entry.specs.declared.entry.End.{End}
use Rattle.cc_entry.specs.declared.entry.End.TheVariants as how
use Rattle.cc_entry.specs.declared.reply.Outcome.TheVariants as outcome
use Rattle.cc_model.specs.Allowed.{MayStand, IsAllowedSoFar}
use Rattle.cc_model.specs.Bytes.{page_bytes}
use Rattle.cc_model.specs.Good.{IsGoodSoFar}
use Rattle.cc_model.specs.History.{Effect, Did, CameIn, WentOut, Began, Ended, Synced, effect_of, history}
use Rattle.cc_model.specs.Images.{Transfer, open_of, begun, image, crash_pages}
use Rattle.cc_model.specs.Setup.{Setup}
use Rattle.cc_model.specs.Sizes.{ended_ok}
use Rattle.cc_laws.proofs.HistorySteps.{history-write_begin, history-write_begin_other, history-write_end, history-write_end_other, history-sync, history-sync_other}
use Rattle.cc_laws.proofs.ImageSteps.{open_of-done, open_of-came_in, open_of-went_out, open_of-began, open_of-ended, open_of-synced, begun-done, begun-came_in, begun-went_out, begun-began_page, begun-synced, image-done, image-came_in, image-went_out, image-began, image-ended_good, image-ended_bad, image-ended_other, image-synced, crash_pages-done, crash_pages-came_in, crash_pages-went_out, crash_pages-began_page, crash_pages-began_other, crash_pages-ended, crash_pages-synced_known, crash_pages-synced_unknown, crash_pages-synced_bad}
use Rattle.cc_laws.proofs.QuietSteps.{none_or}
use Rattle.cc_ranges.specs.Crash.{IsBegunSince, IsKeptSince}
use Rattle.cc_turns.proofs.RecordPage.{only_one}
use Rattle.cc_turns.proofs.Keeping.{of_own}

-- what stands in a stretch stands in a longer one
begun-longer : {pages : ℕ → List ℕ} {s p : ℕ} {later synced : List Entry} {content : List ℕ} (e : Entry) → IsBegunSince pages s p later synced content → IsBegunSince pages s p (e ∷ later) synced content
begun-longer e k = record { pass = k.pass; after = e ∷ k.after; since = k.since; begins = ap (λ l. e ∷ l) k.begins; same = k.same }

kept-longer : {pages : ℕ → List ℕ} {s p : ℕ} {bytes : List ℕ} {later synced : List Entry} {content : List ℕ} (e : Entry) → IsKeptSince pages s p bytes later synced content → IsKeptSince pages s p bytes (e ∷ later) synced content
kept-longer e (inl same) = inl same
kept-longer e (inr since) = inr (begun-longer e since)

-- the front of the last begin of the page's transfer, where that stands in the stretch
record IsFrontSince (pages : ℕ → List ℕ) (s p : ℕ) (later synced : List Entry) (h : List Effect) : Type 0 where
  front : List Effect
  is : begun h p ≡ Some front
  since : IsBegunSince pages s p later synced (page_bytes pages front p)

-- What holds in each stretch behind the sync, where the stream then has the history: what a crash may leave of the page
-- is kept, and so is its image where that is known; and an open transfer of it began in the stretch.
record HoldsSince (pages : ℕ → List ℕ) (s p : ℕ) (bytes : List ℕ) (later synced : List Entry) (h : List Effect) : Type 0 where
  crash : (content : List ℕ) → Contains (crash_pages pages h p) content → IsKeptSince pages s p bytes later synced content
  known : (content : List ℕ) → image pages h p ≡ Some content → IsKeptSince pages s p bytes later synced content
  opened : (t : Transfer) → open_of h ≡ Some t → (t.page == p) ≡ true → IsFrontSince pages s p later synced h

-- an entry that leaves the stream
holds-longer : {pages : ℕ → List ℕ} {s p : ℕ} {bytes : List ℕ} {later synced : List Entry} {h : List Effect} (e : Entry) → HoldsSince pages s p bytes later synced h → HoldsSince pages s p bytes (e ∷ later) synced h
holds-longer e k = record {
  crash = λ content among. kept-longer e (k.crash content among);
  known = λ content is. kept-longer e (k.known content is);
  opened = λ t under same. let f = k.opened t under same in record { front = f.front; is = f.is; since = begun-longer e f.since };
}

-- an effect that changes no image of the page and nothing that a crash may leave of it
holds-still : {pages : ℕ → List ℕ} {s p : ℕ} {bytes : List ℕ} {later synced : List Entry} (h g : List Effect) → open_of g ≡ open_of h → begun g p ≡ begun h p → image pages g p ≡ image pages h p → crash_pages pages g p ≡ crash_pages pages h p → HoldsSince pages s p bytes later synced h → HoldsSince pages s p bytes later synced g
holds-still h g same_open same_begun same_image same_crash k = record {
  crash = λ content among. k.crash content (subst (λ contents. Contains contents content) same_crash among);
  known = λ content is. k.known content (sym same_image ∙ is);
  opened = λ t under same. let f = k.opened t (sym same_open ∙ under) same in record { front = f.front; is = same_begun ∙ f.is; since = f.since };
}

-- whether an effect is none of the disk
abbrev leaves_disk : Effect → Bool
leaves_disk (Did pass call reply) = true
leaves_disk (CameIn pass page from_disk) = true
leaves_disk (WentOut pass page) = true
leaves_disk other = false

holds-option : {pages : ℕ → List ℕ} {s p : ℕ} {bytes : List ℕ} {later synced : List Entry} (o : Option Effect) (h : List Effect) → none_or leaves_disk o ≡ true → HoldsSince pages s p bytes later synced h → HoldsSince pages s p bytes later synced (cons_option o h)
holds-option None h leaves k = k
holds-option {pages = pages} {p = p} (Some (Did pass call reply)) h leaves k =
    holds-still h (Did pass call reply ∷ h) (open_of-done pass call reply h) (begun-done pass call reply h p) (image-done pages pass call reply h p) (crash_pages-done pages pass call reply h p) k
holds-option {pages = pages} {p = p} (Some (CameIn pass page from_disk)) h leaves k =
    holds-still h (CameIn pass page from_disk ∷ h) (open_of-came_in pass page from_disk h) (begun-came_in pass page from_disk h p) (image-came_in pages pass page from_disk h p) (crash_pages-came_in pages pass page from_disk h p) k
holds-option {pages = pages} {p = p} (Some (WentOut pass page)) h leaves k =
    holds-still h (WentOut pass page ∷ h) (open_of-went_out pass page h) (begun-went_out pass page h p) (image-went_out pages pass page h p) (crash_pages-went_out pages pass page h p) k
holds-option (Some (Began pass page)) h leaves k = absurd (cc)
holds-option (Some (Ended pass page how)) h leaves k = absurd (cc)
holds-option (Some (Synced pass how)) h leaves k = absurd (cc)

same_some : {A : Type 0} (x y : A) → Some x ≡ Some y → x ≡ y
same_some x y e = cc

-- a sync, good or not
holds-synced : {pages : ℕ → List ℕ} {s p : ℕ} {bytes : List ℕ} {later synced : List Entry} (pass : ℕ) (how : End) (h : List Effect) → HoldsSince pages s p bytes later synced h → HoldsSince pages s p bytes later synced (Synced pass how ∷ h)
holds-synced {pages = pages} {s = s} {p = p} {bytes = bytes} {later = later} {synced = synced} pass how h k = go (ended_ok how) refl
  where
    settled : ended_ok how ≡ true → (content : List ℕ) → Contains (crash_pages pages (Synced pass how ∷ h) p) content → (o : Option (List ℕ)) → image pages h p ≡ o → IsKeptSince pages s p bytes later synced content
    settled good content among None unknown =
        k.crash content (subst (λ contents. Contains contents content) (crash_pages-synced_unknown pages pass how h p good unknown) among)
    settled good content among (Some found) is =
        let same = only_one found content (subst (λ contents. Contains contents content) (crash_pages-synced_known pages pass how h p found good is) among) in
        k.known content (is ∙ ap Some same)

    go : (good : Bool) → ended_ok how ≡ good → HoldsSince pages s p bytes later synced (Synced pass how ∷ h)
    go true good = record {
      crash = λ content among. settled good content among (image pages h p) refl;
      known = λ content is. k.known content (sym (image-synced pages pass how h p) ∙ is);
      opened = λ t under same.
          let f = k.opened t (sym (open_of-synced pass how h) ∙ under) same in
          record { front = f.front; is = begun-synced pass how h p ∙ f.is; since = f.since };
    }
    go false bad =
        holds-still h (Synced pass how ∷ h) (open_of-synced pass how h) (begun-synced pass how h p) (image-synced pages pass how h p) (crash_pages-synced_bad pages pass how h p bad) k

-- the begin of a transfer of the page
began-here : (pages : ℕ → List ℕ) (s p pass : ℕ) (page : Page) (later synced : List Entry) (content : List ℕ) → page.stream ≡ s → page.page ≡ p → content ≡ page_bytes pages (history (later ++ synced) s) p → IsBegunSince pages s p (entry.WriteBegin pass page ∷ later) synced content
began-here pages s p pass page later synced content same_stream same_page same = record {
  pass = pass;
  after = [];
  since = later;
  begins =
      ap (λ stream. entry.WriteBegin pass (record { stream = stream; page = page.page }) ∷ later) same_stream
      ∙ ap (λ number. entry.WriteBegin pass (record { stream = s; page = number }) ∷ later) same_page;
  same = same;
}

holds-began : {pages : ℕ → List ℕ} {s p : ℕ} {bytes : List ℕ} {later synced : List Entry} (pass : ℕ) (page : Page) → page.stream ≡ s → HoldsSince pages s p bytes later synced (history (later ++ synced) s) → HoldsSince pages s p bytes (entry.WriteBegin pass page ∷ later) synced (Began pass page.page ∷ history (later ++ synced) s)
holds-began {pages = pages} {s = s} {p = p} {bytes = bytes} {later = later} {synced = synced} pass page same_stream k = go (page.page == p) refl
  where
    e : Entry
    e = entry.WriteBegin pass page

    h : List Effect
    h = history (later ++ synced) s

    here : (page.page == p) ≡ true → (content : List ℕ) → Contains (crash_pages pages h p) content ⊎ (page_bytes pages h p ≡ content) → IsKeptSince pages s p bytes (e ∷ later) synced content
    here same content (inl before) = kept-longer e (k.crash content before)
    here same content (inr is) = inr (began-here pages s p pass page later synced content same_stream (eqb-true page.page p same) (sym is))

    known : (content : List ℕ) → image pages (Began pass page.page ∷ h) p ≡ Some content → IsKeptSince pages s p bytes (e ∷ later) synced content
    known content is = kept-longer e (k.known content (sym (image-began pages pass page.page h p) ∙ is))

    go : (b : Bool) → (page.page == p) ≡ b → HoldsSince pages s p bytes (e ∷ later) synced (Began pass page.page ∷ h)
    go true same = record {
      crash = λ content among.
          here same content (Contains-push_cases (crash_pages pages h p) (page_bytes pages h p) content
          (subst (λ contents. Contains contents content) (crash_pages-began_page pages pass page.page h p same) among));
      known = known;
      opened = λ t under is. record {
        front = h;
        is = begun-began_page pass page.page h p same;
        since = began-here pages s p pass page later synced (page_bytes pages h p) same_stream (eqb-true page.page p same) refl;
      };
    }
    go false other = record {
      crash = λ content among.
          kept-longer e (k.crash content (subst (λ contents. Contains contents content) (crash_pages-began_other pages pass page.page h p other) among));
      known = known;
      opened = λ t under is.
          let it : record { pass = pass; page = page.page } ≡ t = same_some _ t (sym (open_of-began pass page.page h) ∙ under) in
          let same : (page.page == p) ≡ (t.page == p) = ap (λ (v : Transfer). v.page == p) it in
          absurd (cc (other, same, is));
    }

-- the end of a transfer that was open
holds-ended : {pages : ℕ → List ℕ} {s p : ℕ} {bytes : List ℕ} {later synced : List Entry} (pass page : ℕ) (how : End) (h : List Effect) → open_of h ≡ Some (record { pass = pass; page = page }) → HoldsSince pages s p bytes later synced h → HoldsSince pages s p bytes later synced (Ended pass page how ∷ h)
holds-ended {pages = pages} {s = s} {p = p} {bytes = bytes} {later = later} {synced = synced} pass page how h under k = record {
  crash = λ content among. k.crash content (subst (λ contents. Contains contents content) (crash_pages-ended pages pass page how h p) among);
  known = λ content is. known content is (page == p) refl (ended_ok how) refl;
  opened = λ t opened same. let none = open_of-ended pass page how h in absurd (cc (none, opened));
}
  where
    known : (content : List ℕ) → image pages (Ended pass page how ∷ h) p ≡ Some content → (b : Bool) → (page == p) ≡ b → (good : Bool) → ended_ok how ≡ good → IsKeptSince pages s p bytes later synced content
    known content is false other good how_is = k.known content (sym (image-ended_other pages pass page how h p other) ∙ is)
    known content is true same true good =
        let f = k.opened (record { pass = pass; page = page }) under same in
        let left = same_some (page_bytes pages f.front p) content (sym (image-ended_good pages pass page how h f.front p same good f.is) ∙ is) in
        inr (subst (λ c. IsBegunSince pages s p later synced c) left f.since)
    known content is true same false bad =
        let f = k.opened (record { pass = pass; page = page }) under same in
        let unknown = image-ended_bad pages pass page how h f.front p same bad f.is in
        absurd (cc (unknown, is))

-- so it holds behind each entry that may stand
holds-entry : {pages : ℕ → List ℕ} {s p : ℕ} {bytes : List ℕ} {later synced : List Entry} (u : Setup) (e : Entry) → MayStand u (later ++ synced) e → HoldsSince pages s p bytes later synced (history (later ++ synced) s) → HoldsSince pages s p bytes (e ∷ later) synced (history (e ∷ (later ++ synced)) s)
unfolding history
holds-entry {s = s} {later = later} {synced = synced} u (entry.Call pass nth (Some stream) call (outcome.Done reply)) stands k =
    holds-option (effect_of (entry.Call pass nth (Some stream) call (outcome.Done reply)) s) (history (later ++ synced) s) (of_own leaves_disk (stream == s) (Did pass call reply) refl) (holds-longer (entry.Call pass nth (Some stream) call (outcome.Done reply)) k)
holds-entry u (entry.Call pass nth (Some stream) call (outcome.Failed error)) stands k = holds-longer (entry.Call pass nth (Some stream) call (outcome.Failed error)) k
holds-entry u (entry.Call pass nth None call ended) stands k = holds-longer (entry.Call pass nth None call ended) k
holds-entry {s = s} {later = later} {synced = synced} u (entry.PageIn pass page from_disk) stands k =
    holds-option (effect_of (entry.PageIn pass page from_disk) s) (history (later ++ synced) s) (of_own leaves_disk (page.stream == s) (CameIn pass page.page from_disk) refl) (holds-longer (entry.PageIn pass page from_disk) k)
holds-entry {s = s} {later = later} {synced = synced} u (entry.PageOut pass page) stands k =
    holds-option (effect_of (entry.PageOut pass page) s) (history (later ++ synced) s) (of_own leaves_disk (page.stream == s) (WentOut pass page.page) refl) (holds-longer (entry.PageOut pass page) k)
holds-entry u (entry.FillFailed pass page) stands k = holds-longer (entry.FillFailed pass page) k
holds-entry {pages = pages} {s = s} {p = p} {bytes = bytes} {later = later} {synced = synced} u (entry.WriteBegin pass page) stands k = go (page.stream == s) refl
  where
    go : (b : Bool) → (page.stream == s) ≡ b → HoldsSince pages s p bytes (entry.WriteBegin pass page ∷ later) synced (history (entry.WriteBegin pass page ∷ (later ++ synced)) s)
    go true same = rw (history-write_begin pass page (later ++ synced) s same) (holds-began pass page (eqb-true page.stream s same) k)
    go false other = rw (history-write_begin_other pass page (later ++ synced) s other) (holds-longer (entry.WriteBegin pass page) k)
holds-entry {pages = pages} {s = s} {p = p} {bytes = bytes} {later = later} {synced = synced} u (entry.WriteEnd pass page how) stands k = go (page.stream == s) refl
  where
    go : (b : Bool) → (page.stream == s) ≡ b → HoldsSince pages s p bytes (entry.WriteEnd pass page how ∷ later) synced (history (entry.WriteEnd pass page how ∷ (later ++ synced)) s)
    go true same =
        rw (history-write_end pass page how (later ++ synced) s same)
        (holds-ended pass page.page how (history (later ++ synced) s)
        (subst (λ t. open_of (history (later ++ synced) t) ≡ Some (record { pass = pass; page = page.page })) (eqb-true page.stream s same) stands)
        (holds-longer (entry.WriteEnd pass page how) k))
    go false other = rw (history-write_end_other pass page how (later ++ synced) s other) (holds-longer (entry.WriteEnd pass page how) k)
holds-entry {pages = pages} {s = s} {p = p} {bytes = bytes} {later = later} {synced = synced} u (entry.Sync pass stream how) stands k = go (stream == s) refl
  where
    go : (b : Bool) → (stream == s) ≡ b → HoldsSince pages s p bytes (entry.Sync pass stream how ∷ later) synced (history (entry.Sync pass stream how ∷ (later ++ synced)) s)
    go true same =
        rw (history-sync pass stream how (later ++ synced) s same)
        (holds-synced pass how (history (later ++ synced) s) (holds-longer (entry.Sync pass stream how) k))
    go false other = rw (history-sync_other pass stream how (later ++ synced) s other) (holds-longer (entry.Sync pass stream how) k)
holds-entry u (entry.Append pass handle lsn bytes) stands k = holds-longer (entry.Append pass handle lsn bytes) k
holds-entry u (entry.Flushed pass handle to) stands k = holds-longer (entry.Flushed pass handle to) k
holds-entry u (entry.LogFailed pass handle) stands k = holds-longer (entry.LogFailed pass handle) k
holds-entry u (entry.Defer pass id file pages retrying) stands k = holds-longer (entry.Defer pass id file pages retrying) k
holds-entry u (entry.Posted id) stands k = holds-longer (entry.Posted id) k
holds-entry u (entry.Scan pass picked) stands k = holds-longer (entry.Scan pass picked) k
holds-entry u (entry.Record pass stream size valid how) stands k = holds-longer (entry.Record pass stream size valid how) k
holds-entry u (entry.RecordFailed pass stream) stands k = holds-longer (entry.RecordFailed pass stream) k
holds-entry u (entry.Locked pass file span exclusive granted id) stands k = holds-longer (entry.Locked pass file span exclusive granted id) k
holds-entry u (entry.Unlocked pass file id gone) stands k = holds-longer (entry.Unlocked pass file id gone) k
holds-entry u (entry.Tested pass file span write conflict) stands k = holds-longer (entry.Tested pass file span write conflict) k

-- and at the sync
holds-at_sync : (pages : ℕ → List ℕ) (me s p : ℕ) (bytes : List ℕ) (before : List Entry) → open_of (history before s) ≡ None → image pages (history before s) p ≡ Some bytes → HoldsSince pages s p bytes [] (entry.Sync me s how.Good ∷ before) (history (entry.Sync me s how.Good ∷ before) s)
holds-at_sync pages me s p bytes before at_rest is =
    rw (history-sync me s how.Good before s (eq-eqb s s refl))
    (record {
      crash = λ content among.
          inl (sym (only_one bytes content (subst (λ contents. Contains contents content) (crash_pages-synced_known pages me how.Good (history before s) p bytes refl is) among)));
      known = λ content found. inl (sym (same_some bytes content (sym is ∙ (sym (image-synced pages me how.Good (history before s) p) ∙ found))));
      opened = λ t under same. let none = open_of-synced me how.Good (history before s) ∙ at_rest in absurd (cc (none, under));
    })

holds-allowed : (u : Setup) (pages : ℕ → List ℕ) (me s p : ℕ) (bytes : List ℕ) (later before : List Entry) → IsAllowedSoFar u (later ++ entry.Sync me s how.Good ∷ before) → image pages (history before s) p ≡ Some bytes → HoldsSince pages s p bytes later (entry.Sync me s how.Good ∷ before) (history (later ++ entry.Sync me s how.Good ∷ before) s)
unfolding IsAllowedSoFar
holds-allowed u pages me s p bytes [] before allowed is = holds-at_sync pages me s p bytes before allowed.1 is
holds-allowed u pages me s p bytes (e ∷ later) before allowed is =
    holds-entry u e allowed.1 (holds-allowed u pages me s p bytes later before allowed.2 is)

-- Over a good past, what a crash may leave of a page behind a good sync at which its image was known.
pub crash-since : (u : Setup) (pages : ℕ → List ℕ) (me s p : ℕ) (bytes : List ℕ) (later before : List Entry) → IsGoodSoFar u (later ++ entry.Sync me s how.Good ∷ before) → image pages (history before s) p ≡ Some bytes → (content : List ℕ) → Contains (crash_pages pages (history (later ++ entry.Sync me s how.Good ∷ before) s) p) content → IsKeptSince pages s p bytes later (entry.Sync me s how.Good ∷ before) content
crash-since u pages me s p bytes later before good is = (holds-allowed u pages me s p bytes later before good.allowed is).crash
