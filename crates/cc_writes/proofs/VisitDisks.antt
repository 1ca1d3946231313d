-- What a stream's disk stands for stays while the pass, and others, place entries that leave the disk alone.
use Rattle.std.specs.Prelude.{◌≡◌, ℕ, Bool, true, false, ◌==◌, List, ◌∷◌, ◌++◌, Option, None, Some, if◌then◌else◌, refl}
use Rattle.std.proofs.Common.{◌∙◌}
use Rattle.std.specs.List.{cons_option}
use Rattle.cc_entry.specs.Place.{Page}
use Rattle.cc_entry.specs.declared.call.Call.{Call}
use Rattle.cc_entry.specs.declared.entry.Entry.{Entry}
use Rattle.cc_entry.specs.declared.entry.Entry.TheVariants as entry
use Rattle.cc_entry.specs.declared.reply.Outcome.{Outcome}
use Rattle.cc_entry.specs.declared.reply.Outcome.TheVariants as outcome
use Rattle.cc_traits.specs.Disk.{Disk}
use Rattle.cc_effects.specs.Failures.{failures, is_failure}
use Rattle.cc_laws.specs.Laws.{SameImages, SameCrash}
use Rattle.cc_laws.proofs.DiskBytes.{on_disk-done}
use Rattle.cc_laws.proofs.ImageSteps.{open_of-done, open_of-came_in, open_of-went_out, begun-done, begun-came_in, begun-went_out, image-done, image-came_in, image-went_out, crash_pages-done, crash_pages-came_in, crash_pages-went_out}
use Rattle.cc_laws.proofs.KeptLaws.{SameImages-deviceless, SameCrash-deviceless}
use Rattle.cc_laws.proofs.QuietSteps.{none_or}
use Rattle.cc_model.specs.Bytes.{on_disk}
use Rattle.cc_model.specs.History.{Effect, Did, CameIn, WentOut, effect_of, history}
use Rattle.cc_model.specs.Turns.{Device, is_quiet}
use Rattle.cc_turns.specs.Disk.{DiskStands, HasGone, all_ended_well}
use Rattle.cc_turns.specs.Standing.{DiskAtFirst}
use Rattle.cc_turns.specs.RecordPage.{RecordHasGone}
use Rattle.cc_turns.proofs.DiskGrows.{failures-quiet, all_ended_well-quiet, has_gone_same, both_same}
use Rattle.cc_turns.proofs.RecordPage.{leaves_record, record-left, record-quiet, record-same, record-then, record_gone-same}
use Rattle.cc_writes.specs.Hands.{SameDisk}

-- entries that do not need the disk leave it
pub disk-quiet : (later past : List Entry) (s : ℕ) → is_quiet (Device s) later ≡ true → SameDisk past (later ++ past) s
disk-quiet later past s quiet = record {
  images = SameImages-deviceless later past s quiet;
  crash = SameCrash-deviceless later past s quiet;
  ended = λ p. all_ended_well-quiet later past s p quiet;
  record_page = record-quiet later past s quiet;
  failed = failures-quiet later past s quiet;
}

pub disk-same : (past : List Entry) (s : ℕ) → SameDisk past past s
disk-same past s = record {
  images = record { same_transfer = refl; same_front = λ p. refl; same_image = λ pages p. refl; same_disk = λ pages i. refl };
  crash = record { same_crash = λ pages p. refl };
  ended = λ p. refl;
  record_page = record-same past s;
  failed = refl;
}

pub disk-then : (past between now : List Entry) (s : ℕ) → SameDisk past between s → SameDisk between now s → SameDisk past now s
disk-then past between now s first second = record {
  images = record {
    same_transfer = second.images.same_transfer ∙ first.images.same_transfer;
    same_front = λ p. second.images.same_front p ∙ first.images.same_front p;
    same_image = λ pages p. second.images.same_image pages p ∙ first.images.same_image pages p;
    same_disk = λ pages i. second.images.same_disk pages i ∙ first.images.same_disk pages i;
  };
  crash = record { same_crash = λ pages p. second.crash.same_crash pages p ∙ first.crash.same_crash pages p };
  ended = λ p. second.ended p ∙ first.ended p;
  record_page = record-then past between now s first.record_page second.record_page;
  failed = second.failed ∙ first.failed;
}

-- whether an effect leaves the disk: a call that was done, and a page that came in or went out
abbrev leaves_disk : Effect → Bool
leaves_disk (Did pass call reply) = true
leaves_disk (CameIn pass page from_disk) = true
leaves_disk (WentOut pass page) = true
leaves_disk other = false

record StillDisk (new old : List Effect) : Type 0 where
  images : SameImages new old
  crash : SameCrash new old
  ended : (p : ℕ) → all_ended_well new p ≡ all_ended_well old p

still : (o : Option Effect) (h : List Effect) → none_or leaves_disk o ≡ true → StillDisk (cons_option o h) h
unfolding on_disk all_ended_well
still None h leaves = record {
  images = record { same_transfer = refl; same_front = λ p. refl; same_image = λ pages p. refl; same_disk = λ pages i. refl };
  crash = record { same_crash = λ pages p. refl };
  ended = λ p. refl;
}
still (Some (Did pass call reply)) h leaves = record {
  images = record {
    same_transfer = open_of-done pass call reply h;
    same_front = λ p. begun-done pass call reply h p;
    same_image = λ pages p. image-done pages pass call reply h p;
    same_disk = λ pages i. on_disk-done pages pass call reply h i;
  };
  crash = record { same_crash = λ pages p. crash_pages-done pages pass call reply h p };
  ended = λ p. refl;
}
still (Some (CameIn pass page from_disk)) h leaves = record {
  images = record {
    same_transfer = open_of-came_in pass page from_disk h;
    same_front = λ p. begun-came_in pass page from_disk h p;
    same_image = λ pages p. image-came_in pages pass page from_disk h p;
    same_disk = λ pages i. refl;
  };
  crash = record { same_crash = λ pages p. crash_pages-came_in pages pass page from_disk h p };
  ended = λ p. refl;
}
still (Some (WentOut pass page)) h leaves = record {
  images = record {
    same_transfer = open_of-went_out pass page h;
    same_front = λ p. begun-went_out pass page h p;
    same_image = λ pages p. image-went_out pages pass page h p;
    same_disk = λ pages i. refl;
  };
  crash = record { same_crash = λ pages p. crash_pages-went_out pages pass page h p };
  ended = λ p. refl;
}
still (Some other) h leaves = absurd (cc)

-- an entry that has no other effect, leaves the record page, and shows no failure, leaves the disk
disk-entry : (e : Entry) (past : List Entry) (s : ℕ) → none_or leaves_disk (effect_of e s) ≡ true → leaves_record s e ≡ true → is_failure s e ≡ false → SameDisk past (e ∷ past) s
unfolding history failures
disk-entry e past s leaves kept_record none =
    let kept = still (effect_of e s) (history past s) leaves in
    record {
      images = kept.images;
      crash = kept.crash;
      ended = kept.ended;
      record_page = record-left e past s kept_record;
      failed = rw none refl;
    }

leaves-if : (b : Bool) (effect : Effect) → leaves_disk effect ≡ true → none_or leaves_disk (if b then Some effect else None) ≡ true
leaves-if true effect leaves = leaves
leaves-if false effect leaves = refl

pub disk-page_in : (me : ℕ) (page : Page) (from_disk : Bool) (past : List Entry) (s : ℕ) → SameDisk past (entry.PageIn me page from_disk ∷ past) s
disk-page_in me page from_disk past s =
    disk-entry (entry.PageIn me page from_disk) past s (leaves-if (page.stream == s) (CameIn me page.page from_disk) refl) refl refl

pub disk-page_out : (me : ℕ) (page : Page) (past : List Entry) (s : ℕ) → SameDisk past (entry.PageOut me page ∷ past) s
disk-page_out me page past s =
    disk-entry (entry.PageOut me page) past s (leaves-if (page.stream == s) (WentOut me page.page) refl) refl refl

leaves-call : (me nth : ℕ) (stream : Option ℕ) (it : Call) (ended : Outcome) (s : ℕ) → none_or leaves_disk (effect_of (entry.Call me nth stream it ended) s) ≡ true
leaves-call me nth None it ended s = refl
leaves-call me nth (Some stream) it (outcome.Done r) s = leaves-if (stream == s) (Did me it r) refl
leaves-call me nth (Some stream) it (outcome.Failed e) s = refl

pub disk-call : (me nth : ℕ) (stream : Option ℕ) (it : Call) (ended : Outcome) (past : List Entry) (s : ℕ) → SameDisk past (entry.Call me nth stream it ended ∷ past) s
disk-call me nth stream it ended past s =
    disk-entry (entry.Call me nth stream it ended) past s (leaves-call me nth stream it ended s) refl refl

-- a disk goes on standing for what it stood for
pub disk_still : {D : Type 0} (told : D → Option Disk) (faults : D → ℕ) (first : DiskAtFirst) (past now : List Entry) (s : ℕ) (disk : D) → SameDisk past now s → DiskStands told faults first past s disk → DiskStands told faults first now s disk
disk_still told faults first past now s disk same stands = record {
  has_gone = both_same (HasGone (history past s)) (HasGone (history now s)) first.told (told disk)
      (λ opening held. has_gone_same (history past s) (history now s) opening held same.images same.crash same.ended) stands.has_gone;
  record_has_gone = both_same (RecordHasGone past s) (RecordHasGone now s) first.told (told disk)
      (λ opening held. record_gone-same past now s opening held same.record_page) stands.record_has_gone;
  counted = rw same.failed stands.counted;
}
