-- A disk goes on standing while its pass places entries that touch neither its images nor its failures.
use Rattle.std.specs.Prelude.{◌≡◌, ℕ, Bool, true, false, not, ◌&&◌, ◌||◌, ◌==◌, List, [], ◌∷◌, ◌++◌, refl, if◌then◌else◌}
use Rattle.std.specs.declared.option.Option.{Option}
use Rattle.std.specs.declared.option.Option.TheVariants.{Some, None}
use Rattle.std.specs.List.{cons_option, list_all}
use Rattle.std.proofs.Common.{sym, ap, ◌∙◌}
use Rattle.std.proofs.lemmas.Bool.{and_parts}
use Rattle.cc_entry.specs.declared.reply.Outcome.TheVariants as outcome
use Rattle.cc_entry.specs.declared.entry.End.{End}
use Rattle.cc_entry.specs.declared.entry.End.TheVariants as end
use Rattle.cc_entry.specs.declared.entry.Entry.{Entry}
use Rattle.cc_entry.specs.declared.entry.Entry.TheVariants as entry
use Rattle.cc_traits.specs.Disk.{Disk, page_of}
use Rattle.cc_traits.specs.Told.{Both}
use Rattle.cc_model.specs.Faults.{is_failed}
use Rattle.cc_model.specs.History.{Effect, Did, CameIn, WentOut, Began, Ended, Synced, effect_of, history}
use Rattle.cc_model.specs.Images.{open_of, begun, image, crash_pages}
use Rattle.cc_model.specs.Sizes.{ended_ok}
use Rattle.cc_laws.proofs.ImageSteps.{open_of-done, open_of-came_in, open_of-went_out, open_of-synced, begun-done, begun-came_in, begun-went_out, begun-synced, image-done, image-came_in, image-went_out, image-synced, crash_pages-done, crash_pages-came_in, crash_pages-went_out, crash_pages-synced_bad}
use Rattle.cc_laws.proofs.QuietSteps.{none_or}
use Rattle.cc_effects.specs.Failures.{failures, is_failure}
use Rattle.cc_turns.specs.Standing.{DiskAtFirst}
use Rattle.cc_turns.specs.Disk.{DiskStands, HasGone, all_ended_well, is_transferred}
use Rattle.cc_turns.specs.RecordPage.{RecordHasGone}
use Rattle.cc_turns.specs.Transfers.{leaves_transfer}
use Rattle.cc_turns.proofs.RecordPage.{leaves_record, record-left, record_gone-same}

-- Whether an entry touches no image of the stream's disk and no failure of it. All do but these of the stream itself:
-- a fill that failed, the begin and the end of a transfer, and a sync, unless it found no memory.
abbrev pub leaves_disk : ℕ → Entry → Bool
leaves_disk s (entry.FillFailed pass page) = not (page.stream == s)
leaves_disk s (entry.WriteBegin pass page) = not (page.stream == s)
leaves_disk s (entry.WriteEnd pass page how) = not (page.stream == s)
leaves_disk s (entry.Sync pass stream how) = not (stream == s) || not (ended_ok how || is_failed how)
leaves_disk s (entry.Record pass stream size valid how) = not (stream == s)
leaves_disk s (entry.RecordFailed pass stream) = not (stream == s)
leaves_disk s other = true

-- whether an effect leaves the transfers of its stream, its images and what a crash may leave
abbrev pub leaves_images : Effect → Bool
leaves_images (Began pass page) = false
leaves_images (Ended pass page how) = false
leaves_images (Synced pass how) = not (ended_ok how)
leaves_images other = true

not-true : (b : Bool) → not b ≡ true → b ≡ false
not-true false e = refl
not-true true e = sym e

-- an effect that an entry has on its own stream passes a test, if the effect does
pub of_own : (test : Effect → Bool) (b : Bool) (effect : Effect) → test effect ≡ true → none_or test (if b then Some effect else None) ≡ true
of_own test true effect passes = passes
of_own test false effect passes = refl

-- an entry that leaves an open transfer has such an effect, or none
effect_of-images : (e : Entry) (s : ℕ) → leaves_transfer s e ≡ true → none_or leaves_images (effect_of e s) ≡ true
effect_of-images (entry.Call pass nth (Some stream) call (outcome.Done reply)) s left = of_own leaves_images (stream == s) (Did pass call reply) refl
effect_of-images (entry.Call pass nth (Some stream) call (outcome.Failed error)) s left = refl
effect_of-images (entry.Call pass nth None call ended) s left = refl
effect_of-images (entry.PageIn pass page from_disk) s left = of_own leaves_images (page.stream == s) (CameIn pass page.page from_disk) refl
effect_of-images (entry.PageOut pass page) s left = of_own leaves_images (page.stream == s) (WentOut pass page.page) refl
effect_of-images (entry.FillFailed pass page) s left = refl
effect_of-images (entry.WriteBegin pass page) s left = rw (not-true _ left) refl
effect_of-images (entry.WriteEnd pass page how) s left = rw (not-true _ left) refl
effect_of-images (entry.Sync pass stream how) s left = go (stream == s) how left
  where
    go : (b : Bool) (how : End) → (not b || not (ended_ok how)) ≡ true → none_or leaves_images (if b then Some (Synced pass how) else None) ≡ true
    go false how left = refl
    go true how left = left
effect_of-images (entry.Append pass handle lsn bytes) s left = refl
effect_of-images (entry.Flushed pass handle to) s left = refl
effect_of-images (entry.LogFailed pass handle) s left = refl
effect_of-images (entry.Defer pass id file pages retrying) s left = refl
effect_of-images (entry.Posted id) s left = refl
effect_of-images (entry.Scan pass picked) s left = refl
effect_of-images (entry.Record pass stream size valid how) s left = refl
effect_of-images (entry.RecordFailed pass stream) s left = refl
effect_of-images (entry.Locked pass file span exclusive granted id) s left = refl
effect_of-images (entry.Unlocked pass file id gone) s left = refl
effect_of-images (entry.Tested pass file span write conflict) s left = refl

is_failure-left : (e : Entry) (s : ℕ) → leaves_disk s e ≡ true → is_failure s e ≡ false
is_failure-left (entry.FillFailed pass page) s left = not-true _ left
is_failure-left (entry.WriteEnd pass page how) s left = rw (not-true _ left) refl
is_failure-left (entry.Sync pass stream how) s left = go (stream == s) how left
  where
    go : (b : Bool) (how : End) → (not b || not (ended_ok how || is_failed how)) ≡ true → (b && is_failed how) ≡ false
    go false how left = refl
    go true end.Good left = refl
    go true end.Failed left = sym left
    go true end.NoMemory left = refl
is_failure-left (entry.Record pass stream size valid how) s left = rw (not-true _ left) refl
is_failure-left (entry.RecordFailed pass stream) s left = not-true _ left
is_failure-left other s left = refl

-- what no such effect changes is kept where there is one alone, or none
kept_by : {A : Type 0} (f : List Effect → A) → ((x : Effect) (h : List Effect) → leaves_images x ≡ true → f (x ∷ h) ≡ f h) → (o : Option Effect) (h : List Effect) → none_or leaves_images o ≡ true → f (cons_option o h) ≡ f h
kept_by f step None h passes = refl
kept_by f step (Some x) h passes = step x h passes

-- by an entry that leaves an open transfer
kept_by_entry : {A : Type 0} (f : List Effect → A) → ((x : Effect) (h : List Effect) → leaves_images x ≡ true → f (x ∷ h) ≡ f h) → (e : Entry) (past : List Entry) (s : ℕ) → leaves_transfer s e ≡ true → f (history (e ∷ past) s) ≡ f (history past s)
unfolding history
kept_by_entry f step e past s left = kept_by f step (effect_of e s) (history past s) (effect_of-images e s left)

-- and by several of them
pub kept_by_entries : {A : Type 0} (f : List Effect → A) → ((x : Effect) (h : List Effect) → leaves_images x ≡ true → f (x ∷ h) ≡ f h) → (later past : List Entry) (s : ℕ) → list_all (leaves_transfer s) later ≡ true → f (history (later ++ past) s) ≡ f (history past s)
kept_by_entries f step [] past s left = refl
kept_by_entries f step (e ∷ later) past s left =
    let parts = and_parts (leaves_transfer s e) (list_all (leaves_transfer s) later) left in
    kept_by_entry f step e (later ++ past) s parts.0 ∙ kept_by_entries f step later past s parts.1

pub image-left : (pages : ℕ → List ℕ) (p : ℕ) (x : Effect) (h : List Effect) → leaves_images x ≡ true → image pages (x ∷ h) p ≡ image pages h p
image-left pages p (Did pass call reply) h left = image-done pages pass call reply h p
image-left pages p (CameIn pass page from_disk) h left = image-came_in pages pass page from_disk h p
image-left pages p (WentOut pass page) h left = image-went_out pages pass page h p
image-left pages p (Began pass page) h left = absurd (cc)
image-left pages p (Ended pass page how) h left = absurd (cc)
image-left pages p (Synced pass how) h left = image-synced pages pass how h p

pub crash_pages-left : (pages : ℕ → List ℕ) (p : ℕ) (x : Effect) (h : List Effect) → leaves_images x ≡ true → crash_pages pages (x ∷ h) p ≡ crash_pages pages h p
crash_pages-left pages p (Did pass call reply) h left = crash_pages-done pages pass call reply h p
crash_pages-left pages p (CameIn pass page from_disk) h left = crash_pages-came_in pages pass page from_disk h p
crash_pages-left pages p (WentOut pass page) h left = crash_pages-went_out pages pass page h p
crash_pages-left pages p (Began pass page) h left = absurd (cc)
crash_pages-left pages p (Ended pass page how) h left = absurd (cc)
crash_pages-left pages p (Synced pass how) h left = crash_pages-synced_bad pages pass how h p (not-true _ left)

pub all_ended_well-left : (p : ℕ) (x : Effect) (h : List Effect) → leaves_images x ≡ true → all_ended_well (x ∷ h) p ≡ all_ended_well h p
unfolding all_ended_well
all_ended_well-left p (Did pass call reply) h left = refl
all_ended_well-left p (CameIn pass page from_disk) h left = refl
all_ended_well-left p (WentOut pass page) h left = refl
all_ended_well-left p (Began pass page) h left = absurd (cc)
all_ended_well-left p (Ended pass page how) h left = absurd (cc)
all_ended_well-left p (Synced pass how) h left = refl

pub begun-left : (p : ℕ) (x : Effect) (h : List Effect) → leaves_images x ≡ true → begun (x ∷ h) p ≡ begun h p
begun-left p (Did pass call reply) h left = begun-done pass call reply h p
begun-left p (CameIn pass page from_disk) h left = begun-came_in pass page from_disk h p
begun-left p (WentOut pass page) h left = begun-went_out pass page h p
begun-left p (Began pass page) h left = absurd (cc)
begun-left p (Ended pass page how) h left = absurd (cc)
begun-left p (Synced pass how) h left = begun-synced pass how h p

pub open_of-left : (x : Effect) (h : List Effect) → leaves_images x ≡ true → open_of (x ∷ h) ≡ open_of h
open_of-left (Did pass call reply) h left = open_of-done pass call reply h
open_of-left (CameIn pass page from_disk) h left = open_of-came_in pass page from_disk h
open_of-left (WentOut pass page) h left = open_of-went_out pass page h
open_of-left (Began pass page) h left = absurd (cc)
open_of-left (Ended pass page how) h left = absurd (cc)
open_of-left (Synced pass how) h left = open_of-synced pass how h

-- an entry that touches none shows no failure of the disk
pub failures-kept : (e : Entry) (past : List Entry) (s : ℕ) → leaves_disk s e ≡ true → failures s (e ∷ past) ≡ failures s past
unfolding failures
failures-kept e past s left = rw (is_failure-left e s left) refl

-- and leaves the transfer that is open
pub leaves_disk-transfer : (e : Entry) (s : ℕ) → leaves_disk s e ≡ true → leaves_transfer s e ≡ true
leaves_disk-transfer (entry.WriteBegin pass page) s left = left
leaves_disk-transfer (entry.WriteEnd pass page how) s left = left
leaves_disk-transfer (entry.Sync pass stream how) s left = go (stream == s) how left
  where
    go : (b : Bool) (how : End) → (not b || not (ended_ok how || is_failed how)) ≡ true → (not b || not (ended_ok how)) ≡ true
    go false how left = refl
    go true end.Good left = left
    go true end.Failed left = refl
    go true end.NoMemory left = refl
leaves_disk-transfer other s left = refl

-- and the record page
leaves_disk-record : (e : Entry) (s : ℕ) → leaves_disk s e ≡ true → leaves_record s e ≡ true
leaves_disk-record (entry.Sync pass stream how) s left = leaves_disk-transfer (entry.Sync pass stream how) s left
leaves_disk-record (entry.Record pass stream size valid how) s left = left
leaves_disk-record other s left = refl

-- what holds of what was told at first and is told now, as far as something is
pub both_so : {A : Type 0} (P Q : A → A → Type 0) (first now : Option A) → ((x y : A) → first ≡ Some x → P x y → Q x y) → Both first now P → Both first now Q
both_so P Q None None so both = both
both_so P Q None (Some now) so both = both
both_so P Q (Some first) None so both = both
both_so P Q (Some first) (Some now) so both = so first now refl both

-- the transfer that is open, and what the disk holds and may lose, are as they were
gone_on : (e : Entry) (past : List Entry) (s : ℕ) (opening now : Disk) → leaves_transfer s e ≡ true → HasGone (history past s) opening now → HasGone (history (e ∷ past) s) opening now
gone_on e past s opening now left gone =
    let pages = page_of opening in
    record {
      images = λ p bytes apart is. gone.images p bytes apart (sym (kept_by_entry (λ h. image pages h p) (image-left pages p) e past s left) ∙ is);
      among = gone.among;
      crash = λ p content apart alone among.
          rw (kept_by_entry (λ h. crash_pages pages h p) (crash_pages-left pages p) e past s left) (gone.crash p content apart alone among);
      exact = λ p apart alone free well.
          gone.exact p apart alone
          (ap (λ t. is_transferred t p) (sym (kept_by_entry open_of open_of-left e past s left)) ∙ free)
          (sym (kept_by_entry (λ h. all_ended_well h p) (all_ended_well-left p) e past s left) ∙ well)
          ∙ sym (kept_by_entry (λ h. crash_pages pages h p) (crash_pages-left pages p) e past s left);
    }

-- what a disk stands for stays, with an entry more that touches neither its images nor its failures
pub DiskStands-kept : {D : Type 0} (told : D → Option Disk) (faults : D → ℕ) (first : DiskAtFirst) (e : Entry) (past : List Entry) (s : ℕ) (disk : D) → leaves_disk s e ≡ true → DiskStands told faults first past s disk → DiskStands told faults first (e ∷ past) s disk
DiskStands-kept told faults first e past s disk left stands = record {
  has_gone = both_so (HasGone (history past s)) (HasGone (history (e ∷ past) s)) first.told (told disk)
      (λ opening now is. gone_on e past s opening now (leaves_disk-transfer e s left)) stands.has_gone;
  record_has_gone = both_so (RecordHasGone past s) (RecordHasGone (e ∷ past) s) first.told (told disk)
      (λ opening now is. record_gone-same past (e ∷ past) s opening now (record-left e past s (leaves_disk-record e s left))) stands.record_has_gone;
  counted = rw (failures-kept e past s left) stands.counted;
}
