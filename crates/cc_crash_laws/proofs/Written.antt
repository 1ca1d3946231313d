-- A page whose transfer ended well, and of which none began since, has a known image.
use Rattle.std.specs.Prelude.{◌≡◌, ℕ, Bool, true, false, ◌==◌, ◌&&◌, ◌||◌, List, [], ◌∷◌, ◌++◌, if◌then◌else◌, refl}
use Rattle.std.specs.declared.option.Option.{Option}
use Rattle.std.specs.declared.option.Option.TheVariants.{Some, None}
use Rattle.std.specs.List.{cons_option, list_any}
use Rattle.std.proofs.Common.{ap, sym, subst, ◌∙◌}
use Rattle.std.proofs.lemmas.Bool.{eq-eqb}
use Rattle.std.proofs.lemmas.List.{append_assoc}
use Rattle.cc_entry.specs.Place.{Range}
use Rattle.cc_entry.specs.declared.entry.End.{End}
use Rattle.cc_entry.specs.declared.entry.End.TheVariants as how
use Rattle.cc_entry.specs.declared.entry.Entry.{Entry}
use Rattle.cc_entry.specs.declared.entry.Entry.TheVariants as entry
use Rattle.cc_entry.specs.declared.reply.Outcome.TheVariants as outcome
use Rattle.cc_model.specs.Allowed.{IsAllowed}
use Rattle.cc_model.specs.Bytes.{page_bytes}
use Rattle.cc_model.specs.Good.{IsGood, IsGoodSoFar}
use Rattle.cc_model.specs.History.{Effect, Did, CameIn, WentOut, Began, Ended, Synced, effect_of, history}
use Rattle.cc_model.specs.Images.{Transfer, open_of, begun, image}
use Rattle.cc_model.specs.Setup.{Setup}
use Rattle.cc_model.specs.Sizes.{ended_ok}
use Rattle.cc_calls.specs.Flushes.{IsDurable}
use Rattle.cc_laws.proofs.HistorySteps.{history-grown, history-write_end}
use Rattle.cc_laws.proofs.ImageSteps.{open_of-done, open_of-came_in, open_of-went_out, open_of-began, open_of-ended, open_of-synced, begun-began_page, image-done, image-came_in, image-went_out, image-began, image-ended_good, image-ended_other, image-synced}
use Rattle.cc_laws.proofs.RoomPasts.{IsGoodSoFar-before}
use Rattle.cc_laws.proofs.Steady.{IsSteady}
use Rattle.cc_laws.proofs.SteadyPasts.{IsSteady-good}
use Rattle.cc_crash_laws.specs.Written.{begins_page, IsWrittenLast, KeepsWhatItWrote}

-- ---- of a history

or-false : (a b : Bool) → (a || b) ≡ false → (a ≡ false) × (b ≡ false)
or-false false b none = (refl, none)
or-false true b none = absurd (cc)

same_page : (t u : Transfer) → Some t ≡ Some u → t.page ≡ u.page
same_page t u is = let same : t ≡ u = cc in ap (λ (v : Transfer). v.page) same

-- the transfer that is open has a begin
open-begun : (h : List Effect) (t : Transfer) → open_of h ≡ Some t → (front : List Effect) × (begun h t.page ≡ Some front)
unfolding open_of begun
open-begun [] t under = absurd (cc)
open-begun (Did pass call reply ∷ h) t under = open-begun h t under
open-begun (CameIn pass page from_disk ∷ h) t under = open-begun h t under
open-begun (WentOut pass page ∷ h) t under = open-begun h t under
open-begun (Began pass page ∷ h) t under = (h, begun-began_page pass page h t.page (eq-eqb page t.page (same_page _ _ under)))
open-begun (Ended pass page how ∷ h) t under = absurd (cc)
open-begun (Synced pass how ∷ h) t under = open-begun h t under

-- whether an effect is the begin of a transfer of the page
abbrev starts : ℕ → Effect → Bool
starts p (Began pass page) = page == p
starts p other = false

-- the image of the page is known, and no transfer of it is open
record IsKnown (pages : ℕ → List ℕ) (p : ℕ) (h : List Effect) : Type 0 where
  bytes : List ℕ
  is : image pages h p ≡ Some bytes
  apart : (t : Transfer) → open_of h ≡ Some t → (t.page == p) ≡ false

known-ended : (pages : ℕ → List ℕ) (pass p : ℕ) (how : End) (h : List Effect) → ended_ok how ≡ true → open_of h ≡ Some (record { pass = pass; page = p }) → IsKnown pages p (Ended pass p how ∷ h)
known-ended pages pass p how h good under =
    let f = open-begun h (record { pass = pass; page = p }) under in
    record {
      bytes = page_bytes pages f.0 p;
      is = image-ended_good pages pass p how h f.0 p (eq-eqb p p refl) good f.1;
      apart = λ t opened. let none = open_of-ended pass p how h in absurd (cc (none, opened));
    }

known-later : (pages : ℕ → List ℕ) (p : ℕ) (later h : List Effect) → IsSteady (later ++ h) → list_any (starts p) later ≡ false → IsKnown pages p h → IsKnown pages p (later ++ h)
known-later pages p [] h steady none k = k
known-later pages p (Did pass call reply ∷ later) h steady none k =
    let m = known-later pages p later h steady.1 none k in
    record {
      bytes = m.bytes;
      is = image-done pages pass call reply (later ++ h) p ∙ m.is;
      apart = λ t opened. m.apart t (sym (open_of-done pass call reply (later ++ h)) ∙ opened);
    }
known-later pages p (CameIn pass page from_disk ∷ later) h steady none k =
    let m = known-later pages p later h steady.1 none k in
    record {
      bytes = m.bytes;
      is = image-came_in pages pass page from_disk (later ++ h) p ∙ m.is;
      apart = λ t opened. m.apart t (sym (open_of-came_in pass page from_disk (later ++ h)) ∙ opened);
    }
known-later pages p (WentOut pass page ∷ later) h steady none k =
    let m = known-later pages p later h steady.1 none k in
    record {
      bytes = m.bytes;
      is = image-went_out pages pass page (later ++ h) p ∙ m.is;
      apart = λ t opened. m.apart t (sym (open_of-went_out pass page (later ++ h)) ∙ opened);
    }
known-later pages p (Began pass page ∷ later) h steady none k =
    let parts = or-false (page == p) (list_any (starts p) later) none in
    let m = known-later pages p later h steady.1 parts.1 k in
    record {
      bytes = m.bytes;
      is = image-began pages pass page (later ++ h) p ∙ m.is;
      apart = λ t opened.
          let same = same_page (record { pass = pass; page = page }) t (sym (open_of-began pass page (later ++ h)) ∙ opened) in
          subst (λ (n : ℕ). (n == p) ≡ false) same parts.0;
    }
known-later pages p (Ended pass page how ∷ later) h steady none k =
    let m = known-later pages p later h steady.1 none k in
    record {
      bytes = m.bytes;
      is = image-ended_other pages pass page how (later ++ h) p (m.apart (record { pass = pass; page = page }) steady.0) ∙ m.is;
      apart = λ t opened. let none = open_of-ended pass page how (later ++ h) in absurd (cc (none, opened));
    }
known-later pages p (Synced pass how ∷ later) h steady none k =
    let m = known-later pages p later h steady.1 none k in
    record {
      bytes = m.bytes;
      is = image-synced pages pass how (later ++ h) p ∙ m.is;
      apart = λ t opened. m.apart t (sym (open_of-synced pass how (later ++ h)) ∙ opened);
    }

steady-rest : (later h : List Effect) → IsSteady (later ++ h) → IsSteady h
steady-rest [] h steady = steady
steady-rest (e ∷ later) h steady = steady-rest later h steady.1

known-since : (pages : ℕ → List ℕ) (me p : ℕ) (later h : List Effect) → IsSteady (later ++ Ended me p how.Good ∷ h) → list_any (starts p) later ≡ false → IsKnown pages p (later ++ Ended me p how.Good ∷ h)
known-since pages me p later h steady none =
    known-later pages p later (Ended me p how.Good ∷ h) steady none
    (known-ended pages me p how.Good h refl (steady-rest later (Ended me p how.Good ∷ h) steady).0)

-- ---- of a past

-- an entry that begins no transfer of the page has no such effect
none-own : (p : ℕ) (b : Bool) (effect : Effect) (rest : List Effect) → starts p effect ≡ false → list_any (starts p) (cons_option (if b then Some effect else None) rest) ≡ list_any (starts p) rest
none-own p true effect rest none = ap (λ (c : Bool). c || list_any (starts p) rest) none
none-own p false effect rest none = refl

none-begin : (p pass page : ℕ) (b : Bool) (rest : List Effect) → (b && page == p) ≡ false → list_any (starts p) (cons_option (if b then Some (Began pass page) else None) rest) ≡ list_any (starts p) rest
none-begin p pass page true rest none = ap (λ (c : Bool). c || list_any (starts p) rest) none
none-begin p pass page false rest none = refl

none-entry : (s p : ℕ) (e : Entry) (rest : List Effect) → begins_page s p e ≡ false → list_any (starts p) (cons_option (effect_of e s) rest) ≡ list_any (starts p) rest
none-entry s p (entry.WriteBegin pass page) rest none = none-begin p pass page.page (page.stream == s) rest none
none-entry s p (entry.Call pass nth (Some stream) call (outcome.Done reply)) rest none = none-own p (stream == s) (Did pass call reply) rest refl
none-entry s p (entry.PageIn pass page from_disk) rest none = none-own p (page.stream == s) (CameIn pass page.page from_disk) rest refl
none-entry s p (entry.PageOut pass page) rest none = none-own p (page.stream == s) (WentOut pass page.page) rest refl
none-entry s p (entry.WriteEnd pass page how) rest none = none-own p (page.stream == s) (Ended pass page.page how) rest refl
none-entry s p (entry.Sync pass stream how) rest none = none-own p (stream == s) (Synced pass how) rest refl
none-entry s p other rest none = refl

none-past : (s p : ℕ) (behind : List Entry) → list_any (begins_page s p) behind ≡ false → list_any (starts p) (history behind s) ≡ false
unfolding history
none-past s p [] none = refl
none-past s p (e ∷ behind) none =
    let parts = or-false (begins_page s p e) (list_any (begins_page s p) behind) none in
    none-entry s p e (history behind s) parts.0 ∙ none-past s p behind parts.1

good-rest : (u : Setup) (later past : List Entry) → IsGoodSoFar u (later ++ past) → IsGoodSoFar u past
good-rest u [] past good = good
good-rest u (e ∷ later) past good = good-rest u later past (IsGoodSoFar-before u (later ++ past) e good)

so-far : (u : Setup) (past : List Entry) → IsGood u past → IsGoodSoFar u past
unfolding IsAllowed
so-far u past good = record { legal = good.legal; allowed = good.allowed.0; covered = good.covered }

-- the history behind the end of the transfer
history-ended : (me s p : ℕ) (stretch old behind until : List Entry) → stretch ≡ behind ++ entry.WriteEnd me (record { stream = s; page = p }) how.Good ∷ until → history (stretch ++ old) s ≡ history behind s ++ Ended me p how.Good ∷ history (until ++ old) s
history-ended me s p stretch old behind until ended =
    let e = entry.WriteEnd me (record { stream = s; page = p }) how.Good in
    ap (λ (l : List Entry). history (l ++ old) s) ended
    ∙ (ap (λ (l : List Entry). history l s) (append_assoc behind (e ∷ until) old)
    ∙ (history-grown behind (e ∷ (until ++ old)) s
    ∙ ap (λ (h : List Effect). history behind s ++ h) (history-write_end me (record { stream = s; page = p }) how.Good (until ++ old) s (eq-eqb s s refl))))

known-written : (u : Setup) (pages : ℕ → List ℕ) (me s p : ℕ) (stretch old : List Entry) → IsGoodSoFar u (stretch ++ old) → IsWrittenLast me s p stretch → IsKnown pages p (history (stretch ++ old) s)
known-written u pages me s p stretch old good w =
    let is = history-ended me s p stretch old w.behind w.until w.ended in
    subst (λ (h : List Effect). IsKnown pages p h) (sym is)
    (known-since pages me p (history w.behind s) (history (w.until ++ old) s)
    (subst (λ (h : List Effect). IsSteady h) is (IsSteady-good u (stretch ++ old) s good))
    (none-past s p w.behind w.alone))

-- so each page that a flush wrote last before its sync is kept from the sync on
pub keeps-wrote : (u : Setup) (me s : ℕ) (span : Option Range) (old new : List Entry) → IsGood u new → IsDurable u me s span old new → KeepsWhatItWrote u me s span old new
keeps-wrote u me s span old new good d =
    let sync = entry.Sync me s how.Good in
    let sound : IsGoodSoFar u (d.before ++ old) =
    IsGoodSoFar-before u (d.before ++ old) sync
    (good-rest u d.after (sync ∷ (d.before ++ old)) (subst (λ (past : List Entry). IsGoodSoFar u past) d.synced (so-far u new good))) in
    record {
      before = d.before;
      after = d.after;
      synced = d.synced;
      wrote = λ pages p within written.
          let k = known-written u pages me s p d.before old sound written in
          record {
            bytes = k.bytes;
            known = k.is;
            kept = λ later content still among. d.kept pages later p k.bytes content still within k.is among;
          };
    }
