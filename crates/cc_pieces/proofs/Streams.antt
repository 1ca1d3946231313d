-- Entries of the first streams: what a journal of them alone leaves of any other.
use Rattle.std.specs.Prelude.{◌≡◌, ℕ, ◌+◌, ◌<◌, ◌≤◌, ◌⊎◌, ◌==◌, Bool, true, false, cond, not, List, [], ◌∷◌, length, refl, if◌then◌else◌}
use Rattle.std.specs.declared.option.Option.{Option}
use Rattle.std.specs.declared.option.Option.TheVariants.{Some, None}
use Rattle.std.specs.List.{AllByRecursion, cons_option, filter, find}
use Rattle.std.proofs.Common.{ap, arith, inl, inr, subst}
use Rattle.std.proofs.lemmas.Bool.{cases_lt, ne_eqb}
use Rattle.std.proofs.lemmas.Bool.Decides.{nat_tests}
use Rattle.std.proofs.lemmas.Option.{same_Some}
use Rattle.cc_entry.specs.Place.{File}
use Rattle.cc_entry.specs.declared.call.Call.{Call}
use Rattle.cc_entry.specs.declared.call.Call.TheVariants as call
use Rattle.cc_entry.specs.declared.query.Query.TheVariants as query
use Rattle.cc_entry.specs.declared.hold.HoldKind.TheVariants as kind
use Rattle.cc_entry.specs.Pages.{has_page}
use Rattle.cc_entry.specs.declared.reply.Reply.{Reply}
use Rattle.cc_entry.specs.declared.reply.Outcome.{Outcome}
use Rattle.cc_entry.specs.declared.reply.Outcome.TheVariants as outcome
use Rattle.cc_entry.specs.declared.entry.Entry.{Entry}
use Rattle.cc_entry.specs.declared.entry.Entry.TheVariants as entry
use Rattle.cc_model.specs.Acts.{file_of}
use Rattle.cc_model.specs.Filing.{IsFiled}
use Rattle.cc_model.specs.History.{Effect, Did, CameIn, WentOut, Began, Ended, Synced, effect_of, history}
use Rattle.cc_model.specs.Holds.{Hold, changed_at, held_after, hold_at, holds_of, id_of, repinned}
use Rattle.cc_model.specs.Images.{Transfer, open_of}
use Rattle.cc_model.specs.Legal.{stream_history}
use Rattle.cc_model.specs.Numbers.{is_among}
use Rattle.cc_model.specs.Ranges.{cut_range}
use Rattle.cc_model.specs.Residency.{is_resident, residents}
use Rattle.cc_model.specs.Touches.{is_mapped, size_of, sizes}

-- a file is of one of the first streams, where there is a file
abbrev pub IsFileBelow : ℕ → Option File → Type 0
IsFileBelow n None = Unit {0}
IsFileBelow n (Some file) = file.stream < n

-- A call that was done is of one of the first streams, and so is its file; but a read-ahead step may serve a request of any,
-- and so may the copied read that completes a queued one.
abbrev pub IsCallBelow : ℕ → ℕ → Call → Type 0
IsCallBelow n s (call.AheadStep request) = Unit {0}
IsCallBelow n s (call.CopyRead file at len wait) = Unit {0}
IsCallBelow n s other = (s < n) × IsFileBelow n (file_of other)

-- an entry is of one of the first streams, or of none, and a log that failed is one of so many; so is a done call
abbrev pub IsBelow : ℕ → ℕ → Entry → Type 0
IsBelow n logs (entry.Call pass nth (Some s) it (outcome.Done r)) = IsCallBelow n s it
IsBelow n logs (entry.Call pass nth (Some s) it (outcome.Failed e)) = Unit {0}
IsBelow n logs (entry.Call pass nth None it ended) = Unit {0}
IsBelow n logs (entry.PageIn pass page from_disk) = page.stream < n
IsBelow n logs (entry.PageOut pass page) = page.stream < n
IsBelow n logs (entry.FillFailed pass page) = page.stream < n
IsBelow n logs (entry.WriteBegin pass page) = page.stream < n
IsBelow n logs (entry.WriteEnd pass page how) = page.stream < n
IsBelow n logs (entry.Sync pass stream how) = stream < n
IsBelow n logs (entry.LogFailed pass handle) = handle < logs
IsBelow n logs (entry.Record pass stream size valid how) = stream < n
IsBelow n logs (entry.RecordFailed pass stream) = stream < n
IsBelow n logs other = Unit {0}

abbrev pub AllBelow : ℕ → ℕ → List Entry → Type 0
AllBelow n logs past = AllByRecursion (IsBelow n logs) past

apart : (t n s : ℕ) → t < n → n ≤ s → (t == s) ≡ false
apart t n s low high = ne_eqb t s (λ same. absurd (omega (arith, low, high, same)))

-- of a stream behind the first there may be read-ahead steps and copied reads alone, which leave it as it was
abbrev IsQuietEffect : Effect → Type 0
IsQuietEffect (Did pass (call.AheadStep request) r) = Unit {0}
IsQuietEffect (Did pass (call.CopyRead file at len wait) r) = Unit {0}
IsQuietEffect other = ⊥

abbrev pub IsQuiet : List Effect → Type 0
IsQuiet h = AllByRecursion IsQuietEffect h

quiet-residents : (h : List Effect) → IsQuiet h → residents h ≡ []
unfolding residents
quiet-residents [] quiet = refl
quiet-residents (Did pass (call.AheadStep request) r ∷ h) quiet = by (is_mapped (Did pass (call.AheadStep request) r ∷ h)) (quiet-residents h quiet.1)
  where
    by : (b : Bool) → residents h ≡ [] → ◌≡◌ {A = List ℕ} (elim b [ true ↦ residents h | false ↦ [] ]) []
    by true none = none
    by false none = refl
quiet-residents (Did pass (call.CopyRead file at len wait) r ∷ h) quiet = by (is_mapped (Did pass (call.CopyRead file at len wait) r ∷ h)) (quiet-residents h quiet.1)
  where
    by : (b : Bool) → residents h ≡ [] → ◌≡◌ {A = List ℕ} (elim b [ true ↦ residents h | false ↦ [] ]) []
    by true none = none
    by false none = refl
quiet-residents (other ∷ h) quiet = absurd quiet.0

quiet-open : (h : List Effect) → IsQuiet h → open_of h ≡ None
unfolding open_of
quiet-open [] quiet = refl
quiet-open (Did pass (call.AheadStep request) r ∷ h) quiet = quiet-open h quiet.1
quiet-open (Did pass (call.CopyRead file at len wait) r ∷ h) quiet = quiet-open h quiet.1
quiet-open (other ∷ h) quiet = absurd quiet.0

quiet-holds : (h : List Effect) → IsQuiet h → holds_of h ≡ []
unfolding holds_of
quiet-holds [] quiet = refl
quiet-holds (Did pass (call.AheadStep request) r ∷ h) quiet = quiet-holds h quiet.1
quiet-holds (Did pass (call.CopyRead file at len wait) r ∷ h) quiet = quiet-holds h quiet.1
quiet-holds (other ∷ h) quiet = absurd quiet.0

quiet-size : (h : List Effect) → IsQuiet h → (sizes h).size ≡ 0
unfolding sizes
quiet-size [] quiet = refl
quiet-size (Did pass (call.AheadStep request) r ∷ h) quiet = quiet-size h quiet.1
quiet-size (Did pass (call.CopyRead file at len wait) r ∷ h) quiet = quiet-size h quiet.1
quiet-size (other ∷ h) quiet = absurd quiet.0

called-quiet : (n t s pass : ℕ) (it : Call) (r : Reply) (h : List Effect) → n ≤ s → IsCallBelow n t it → IsQuiet h → IsQuiet (cons_option (if t == s then Some (Did pass it r) else None) h)
called-quiet n t s pass (call.AheadStep request) r h high below quiet = by (t == s)
  where
    by : (b : Bool) → IsQuiet (cons_option (if b then Some (Did pass (call.AheadStep request) r) else None) h)
    by true = (tt, quiet)
    by false = quiet
called-quiet n t s pass (call.CopyRead file at len wait) r h high below quiet = by (t == s)
  where
    by : (b : Bool) → IsQuiet (cons_option (if b then Some (Did pass (call.CopyRead file at len wait) r) else None) h)
    by true = (tt, quiet)
    by false = quiet
called-quiet n t s pass it r h high below quiet = rw (apart t n s below.0 high) quiet

effect-none : (n logs s : ℕ) (e : Entry) → n ≤ s → IsBelow n logs e → (h : List Effect) → IsQuiet h → IsQuiet (cons_option (effect_of e s) h)
effect-none n logs s (entry.Call pass nth (Some t) it (outcome.Done r)) high below h quiet = called-quiet n t s pass it r h high below quiet
effect-none n logs s (entry.Call pass nth (Some t) it (outcome.Failed e)) high below h quiet = quiet
effect-none n logs s (entry.Call pass nth None it ended) high below h quiet = quiet
effect-none n logs s (entry.PageIn pass page from_disk) high below h quiet = rw (apart page.stream n s below high) quiet
effect-none n logs s (entry.PageOut pass page) high below h quiet = rw (apart page.stream n s below high) quiet
effect-none n logs s (entry.WriteBegin pass page) high below h quiet = rw (apart page.stream n s below high) quiet
effect-none n logs s (entry.WriteEnd pass page how) high below h quiet = rw (apart page.stream n s below high) quiet
effect-none n logs s (entry.Sync pass stream how) high below h quiet = rw (apart stream n s below high) quiet
effect-none n logs s other high below h quiet = quiet

-- a stream behind the first has no history but such steps and reads
pub blank : (n logs s : ℕ) (past : List Entry) → n ≤ s → AllBelow n logs past → IsQuiet (history past s)
unfolding history
blank n logs s [] high all = tt
blank n logs s (e ∷ past) high all = effect-none n logs s e high all.0 (history past s) (blank n logs s past high all.1)

not-resident : (h : List Effect) (p : ℕ) → IsQuiet h → is_resident h p ≡ true → ⊥
not-resident h p quiet is = absurd (cc (is, ap (λ pages. is_among p pages) (quiet-residents h quiet)))

-- a stream with a resident page is one of the first
pub resident-below : (n logs s p : ℕ) (past : List Entry) → AllBelow n logs past → is_resident (history past s) p ≡ true → s < n
resident-below n logs s p past all is = go (cases_lt s n)
  where
    go : (s < n) ⊎ (n ≤ s) → s < n
    go (inl low) = low
    go (inr high) = absurd (not-resident (history past s) p (blank n logs s past high all) is)

-- and so is one with an open transfer
pub open-below : (n logs s : ℕ) (t : Transfer) (past : List Entry) → AllBelow n logs past → open_of (history past s) ≡ Some t → s < n
open-below n logs s t past all is = go (cases_lt s n)
  where
    go : (s < n) ⊎ (n ≤ s) → s < n
    go (inl low) = low
    go (inr high) = absurd (cc (is, quiet-open (history past s) (blank n logs s past high all)))

-- and so is one of whose bytes a range has some
pub sized-below : (n logs s at len p : ℕ) (past : List Entry) → AllBelow n logs past → has_page (cut_range (size_of (history past s)) at len) p ≡ true → s < n
sized-below n logs s at len p past all is = go (cases_lt s n)
  where
    none : (size : ℕ) → size ≡ 0 → has_page (cut_range size at len) p ≡ true → ⊥
    none size zero has = grind (arith, nat_tests, zero, has)

    go : (s < n) ⊎ (n ≤ s) → s < n
    go (inl low) = low
    go (inr high) = absurd (none (size_of (history past s)) (quiet-size (history past s) (blank n logs s past high all)) is)

-- open holds of files of the first streams
abbrev pub FilesBelow : ℕ → List Hold → Type 0
FilesBelow n holds = AllByRecursion (λ hold. hold.file.stream < n) holds

changed-below : (n id : ℕ) (change : Hold → Hold) → ((hold : Hold) → hold.file.stream < n → (change hold).file.stream < n) → (holds : List Hold) → FilesBelow n holds → FilesBelow n (changed_at id change holds)
changed-below n id change keeps [] all = tt
changed-below n id change keeps (hold ∷ holds) all = (by (hold.id == id), changed-below n id change keeps holds all.1)
  where
    by : (b : Bool) → (if b then change hold else hold).file.stream < n
    by true = keeps hold all.0
    by false = all.0

filtered-below : (n : ℕ) (test : Hold → Bool) (holds : List Hold) → FilesBelow n holds → FilesBelow n (filter test holds)
filtered-below n test [] all = tt
filtered-below n test (hold ∷ holds) all = by (test hold) (filtered-below n test holds all.1)
  where
    by : (b : Bool) → FilesBelow n (filter test holds) → FilesBelow n (cond b (hold ∷ filter test holds) (filter test holds))
    by true rest = (all.0, rest)
    by false rest = rest

found-below : (n : ℕ) (test : Hold → Bool) (holds : List Hold) (hold : Hold) → FilesBelow n holds → find test holds ≡ Some hold → hold.file.stream < n
found-below n test [] hold all is = absurd (cc is)
found-below n test (one ∷ holds) hold all is = by (test one) is (found-below n test holds hold all.1)
  where
    by : (b : Bool) → cond b (Some one) (find test holds) ≡ Some hold → (find test holds ≡ Some hold → hold.file.stream < n) → hold.file.stream < n
    by true same more = subst (λ (h : Hold). h.file.stream < n) (same_Some one hold same) all.0
    by false rest more = more rest

repinned-below : (n id pass : ℕ) (o : Option Hold) (holds : List Hold) → FilesBelow n holds → ((hold : Hold) → o ≡ Some hold → hold.file.stream < n) → FilesBelow n (repinned id pass o holds)
repinned-below n id pass None holds all found = all
repinned-below n id pass (Some hold) holds all found = (found hold refl, all)

held-below : (n pass : ℕ) (it : Call) (id : ℕ) (holds : List Hold) → IsFileBelow n (file_of it) → FilesBelow n holds → FilesBelow n (held_after pass it id holds)
held-below n pass (call.Map file at len) id holds below all = (below, all)
held-below n pass (call.PinRead file at len exclusive) id holds below all = (below, all)
held-below n pass (call.PinMapped hold exclusive) id holds below all =
    changed-below n hold (λ it. record it { kind = kind.Pin; exclusive = exclusive }) (λ it low. low) holds all
held-below n pass (call.PreparePin file at len true exclusive) id holds below all = (below, all)
held-below n pass (call.PreparePin file at len false exclusive) id holds below all = (below, all)
held-below n pass (call.PinnedWrite hold at bytes) id holds below all =
    changed-below n hold (λ it. record it { owed = record { from = at; to = at + length bytes } ∷ it.owed }) (λ it low. low) holds all
held-below n pass (call.SetDirty hold lsn) id holds below all = changed-below n hold (λ it. record it { owed = [] }) (λ it low. low) holds all
held-below n pass (call.EndHold hold) id holds below all = filtered-below n (λ it. not (it.id == hold)) holds all
held-below n pass (call.Repin hold) id holds below all =
    repinned-below n id pass (hold_at holds hold) holds all (λ one is. found-below n (λ it. it.id == hold) holds one all is)
held-below n pass (call.MdlRead file at len) id holds below all = (below, all)
held-below n pass (call.MdlWrite file at len) id holds below all = (below, all)
held-below n pass other id holds below all = all

done-below : (n s pass : ℕ) (it : Call) (id : ℕ) (holds : List Hold) → IsCallBelow n s it → FilesBelow n holds → FilesBelow n (held_after pass it id holds)
done-below n s pass (call.AheadStep request) id holds below all = all
done-below n s pass (call.CopyRead file at len wait) id holds below all = all
done-below n s pass it id holds below all = held-below n pass it id holds below.1 all

quiet-below : (n : ℕ) (h : List Effect) (effect : Effect) (b : Bool) → holds_of (effect ∷ h) ≡ holds_of h → FilesBelow n (holds_of h) → FilesBelow n (holds_of (cons_option (if b then Some effect else None) h))
quiet-below n h effect true same all = rw same all
quiet-below n h effect false same all = all

-- the files of open holds are of the first streams
pub holds-below : (n logs s : ℕ) (past : List Entry) → AllBelow n logs past → FilesBelow n (holds_of (history past s))
unfolding history holds_of
holds-below n logs s [] all = tt
holds-below n logs s (entry.Call pass nth (Some t) it (outcome.Done r) ∷ past) all = by (t == s) (holds-below n logs s past all.1)
  where
    by : (b : Bool) → FilesBelow n (holds_of (history past s)) → FilesBelow n (holds_of (cons_option (if b then Some (Did pass it r) else None) (history past s)))
    by true rest = done-below n t pass it (id_of r) (holds_of (history past s)) all.0 rest
    by false rest = rest
holds-below n logs s (entry.Call pass nth (Some t) it (outcome.Failed e) ∷ past) all = holds-below n logs s past all.1
holds-below n logs s (entry.Call pass nth None it ended ∷ past) all = holds-below n logs s past all.1
holds-below n logs s (entry.PageIn pass page from_disk ∷ past) all =
    quiet-below n (history past s) (CameIn pass page.page from_disk) (page.stream == s) refl (holds-below n logs s past all.1)
holds-below n logs s (entry.PageOut pass page ∷ past) all =
    quiet-below n (history past s) (WentOut pass page.page) (page.stream == s) refl (holds-below n logs s past all.1)
holds-below n logs s (entry.WriteBegin pass page ∷ past) all =
    quiet-below n (history past s) (Began pass page.page) (page.stream == s) refl (holds-below n logs s past all.1)
holds-below n logs s (entry.WriteEnd pass page how ∷ past) all =
    quiet-below n (history past s) (Ended pass page.page how) (page.stream == s) refl (holds-below n logs s past all.1)
holds-below n logs s (entry.Sync pass stream how ∷ past) all =
    quiet-below n (history past s) (Synced pass how) (stream == s) refl (holds-below n logs s past all.1)
holds-below n logs s (other ∷ past) all = holds-below n logs s past all.1

no-holds : (stream : Option ℕ) (id : ℕ) (hold : Hold) (n logs : ℕ) (past : List Entry) → AllBelow n logs past → hold_at (holds_of (stream_history past stream)) id ≡ Some hold → hold.file.stream < n
unfolding holds_of
no-holds None id hold n logs past all is = absurd (cc is)
no-holds (Some s) id hold n logs past all is =
    found-below n (λ it. it.id == id) (holds_of (history past s)) hold (holds-below n logs s past all) is

-- the file of a hold that is open is of one of the first streams
pub hold-below : (n logs id : ℕ) (stream : Option ℕ) (hold : Hold) (past : List Entry) → AllBelow n logs past → hold_at (holds_of (stream_history past stream)) id ≡ Some hold → hold.file.stream < n
hold-below n logs id stream hold past all is = no-holds stream id hold n logs past all is

some-below : (s t n : ℕ) → Some s ≡ Some t → t < n → s < n
some-below s t n same low = omega (arith, same_Some s t same, low)

-- a call that names a hold is filed nowhere where none is open
filed-blank : (n me s : ℕ) (it : Call) → IsFiled [] me (Some s) it (file_of it) → IsFileBelow n (file_of it) → s < n
filed-blank n me s (call.PinMapped hold exclusive) filed below = absurd (cc filed)
filed-blank n me s (call.MappedRead hold at len) filed below = absurd (cc filed)
filed-blank n me s (call.PinnedRead hold at len) filed below = absurd (cc filed)
filed-blank n me s (call.PinnedWrite hold at bytes) filed below = absurd (cc filed)
filed-blank n me s (call.SetDirty hold lsn) filed below = absurd (cc filed)
filed-blank n me s (call.EndHold hold) filed below = absurd (cc filed)
filed-blank n me s (call.Repin hold) filed below = absurd (cc filed)
filed-blank n me s (call.MdlBytes hold at len) filed below = absurd (cc filed)
filed-blank n me s (call.MdlStore hold at bytes) filed below = absurd (cc filed)
filed-blank n me s (call.Query (query.DirtyPages handle)) filed below = absurd (cc filed)
filed-blank n me s (call.Query query.IsDirtyData) filed below = absurd (cc filed)
filed-blank n me s other filed below = some-below s _ n filed below

-- a call whose file is of one of the first streams, where it is no read-ahead step and no copied read
abbrev pub FitsBelow : ℕ → Call → Type 0
FitsBelow n (call.AheadStep request) = Unit {0}
FitsBelow n (call.CopyRead file at len wait) = Unit {0}
FitsBelow n other = IsFileBelow n (file_of other)

pub file-fits : (n : ℕ) (it : Call) → IsFileBelow n (file_of it) → FitsBelow n it
file-fits n (call.AheadStep request) below = tt
file-fits n (call.CopyRead file at len wait) below = tt
file-fits n it below = below

pub done-fits : (n s : ℕ) (it : Call) → FitsBelow n it → (IsFileBelow n (file_of it) → s < n) → IsCallBelow n s it
done-fits n s (call.AheadStep request) fits low = tt
done-fits n s (call.CopyRead file at len wait) fits low = tt
done-fits n s it fits low = (low fits, fits)

-- the entry of a call of such a file, or on a hold, is of one of the first streams
pub call-below : (n logs me nth : ℕ) (stream : Option ℕ) (it : Call) (ended : Outcome) (past : List Entry) → IsFiled (holds_of (stream_history past stream)) me stream it (file_of it) → FitsBelow n it → AllBelow n logs past → IsBelow n logs (entry.Call me nth stream it ended)
call-below n logs me nth None it ended past filed below all = tt
call-below n logs me nth (Some s) it (outcome.Failed e) past filed below all = tt
call-below n logs me nth (Some s) it (outcome.Done r) past filed below all = done-fits n s it below (λ file_below. go file_below (cases_lt s n))
  where
    go : IsFileBelow n (file_of it) → (s < n) ⊎ (n ≤ s) → s < n
    go file_below (inl low) = low
    go file_below (inr high) =
        filed-blank n me s it (subst (λ holds. IsFiled holds me (Some s) it (file_of it)) (quiet-holds (history past s) (blank n logs s past high all)) filed) file_below
