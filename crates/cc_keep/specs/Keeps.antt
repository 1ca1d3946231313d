-- What others placed while a pass kept the turn of a disk.
use Rattle.std.specs.Prelude.{◌≡◌, ℕ, ◌-◌, ◌≤◌, Bool, true, not, ◌||◌, List, ◌∷◌, take, length}
use Rattle.std.specs.List.{list_all}
use Rattle.std.specs.declared.option.Option.TheVariants.{Some}
use Rattle.cc_entry.specs.declared.entry.Entry.{Entry}
use Rattle.cc_model.specs.Passes.{is_mine}
use Rattle.cc_model.specs.Turns.{Device, needs}
use Rattle.cc_turns.specs.Standing.{Standing}

-- whether an entry is the pass's own, or needs no turn of the stream's disk
abbrev pub leaves_disk : ℕ → ℕ → Entry → Bool
leaves_disk me s e = is_mine me e || not (needs e (Device s))

-- the newest entries of a past, beyond so many
abbrev pub newer : ℕ → List Entry → List Entry
newer n past = take (length past - n) past

-- Since a pass stood so, with the turn of the stream's disk, it took the turn of a disk so often: where it took none, and has
-- the turn still, others placed nothing that needs it.
abbrev pub KeepsDisk : ℕ → ℕ → Standing → Standing → Type 0
KeepsDisk turns s begun now =
    (length begun.seen ≤ length now.seen)
    × (turns ≡ 0 → now.device_turns ≡ begun.device_turns)
    × (turns ≡ 0 → now.held.device ≡ Some s → list_all (leaves_disk now.number s) (newer (length begun.seen) now.seen) ≡ true)

-- What a pass knows that keeps a disk: as before, and how often it took the turn of a disk since. What never changes of it
-- stands with the name of what it shares its turns by.
abbrev pub keeping_standing : Standing → ℕ → ℕ → Standing → ℕ → Standing
keeping_standing now name s begun turns = record now {
  shared = name ∷ s ∷ length begun.seen ∷ begun.device_turns ∷ now.shared;
  device_turns = turns;
}
