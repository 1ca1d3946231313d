-- A restart that is done makes the file, and one that stopped leaves pages of which the next one makes it.
use Rattle.std.specs.Prelude.{◌≡◌, ℕ, ◌*◌, ◌/◌, ◌%◌, ◌^◌, ◌<◌, ◌≤◌, ◌⊎◌, ◌==◌, Bool, true, false, nat_lt, max, List, [], ◌∷◌, length, take, Contains, slice_index, refl, if◌then◌else◌}
use Rattle.std.proofs.Common.{ap, sym, subst, ◌∙◌, inl, inr, arith}
use Rattle.std.proofs.lemmas.Bool.{eqb-true}
use Rattle.cc_traits.specs.Disk.{Disk, may_of, page_of}
use Rattle.cc_traits.specs.Log.{LogEntry}
use Rattle.cc_model.specs.Records.{record_page}
use Rattle.cc_redo.proofs.Again.{page-again}
use Rattle.cc_redo.specs.Changes.{page_after}
use Rattle.cc_redo.specs.Disks.{IsBetween, DiskIsMade, Was, changed_page, record_number, with_record}
use Rattle.cc_redo.specs.Ends.{made_by_log}
use Rattle.cc_redo.specs.Heard.{Change, change_said, end_of_change, from_of, raised_by_change, readings, redone_of, valid_behind, redone_valid}
use Rattle.cc_redo.specs.Reading.{said_by}
use Rattle.cc_redo.specs.declared.redo.Redo.{Redo}
use Rattle.std.specs.declared.option.Option.{Option}
use Rattle.std.specs.declared.option.Option.TheVariants.{Some, None}
use Rattle.cc_restart_laws.proofs.Redoing.{valid-same}
use Rattle.cc_restart_laws.specs.Stops.{MakesFile, file_byte, updated_byte, updates_in, valid_after_changes}

take-all : (changes : List Change) → take (length changes) changes ≡ changes
take-all [] = refl
take-all (change ∷ changes) = ap (λ (l : List Change). change ∷ l) (take-all changes)

-- changes made once more make nothing else
pub once-more : (changes : List Change) (page : ℕ) (bytes : List ℕ) → page_after changes page (page_after changes page bytes) ≡ page_after changes page bytes
once-more changes page bytes =
    ap (λ (l : List Change). page_after changes page (page_after l page bytes)) (sym (take-all changes)) ∙ page-again changes (length changes) page bytes

pub not-record : (p size : ℕ) → 4096 * p < size → size < 2 ^ 63 → (record_number == p) ≡ false
not-record p size below fits = go (record_number == p) refl
  where
    go : (b : Bool) → (record_number == p) ≡ b → (record_number == p) ≡ false
    go false is = is
    go true is = let same = eqb-true record_number p is in absurd (omega (arith, same, below, fits))

aside : (told : List ℕ) (made : ℕ → List ℕ) (p : ℕ) → (record_number == p) ≡ false → with_record told made p ≡ made p
aside told made p other = rw other refl

module _ (streams : List Redo) (kept : List LogEntry) (redo : Redo) (pages : ℕ → List ℕ) (first : ℕ) where
  abbrev changes : List Change
  changes = redone_of redo (from_of streams (readings kept)) (readings kept)

  pub made-data : (old : Disk) (p : ℕ) → 4096 * p < redo.size → made_by_log streams (readings kept) redo old p ≡ page_after (redone_of redo (from_of streams (readings kept)) (readings kept)) p (page_of old p)
  made-data old p below =
      aside (record_page redo.size (redone_valid (readings kept) redo)) (changed_page (redone_of redo (from_of streams (readings kept)) (readings kept)) old) p (not-record p redo.size below redo.in_range)

  pub made-file : (old new : Disk) → ((p : ℕ) → 4096 * p < redo.size → MakesFile streams kept redo pages first p (page_of old p)) → DiskIsMade (made_by_log streams (readings kept) redo old) new →
      (i : ℕ) → i < redo.size → file_byte (page_of new) (redone_valid (readings kept) redo) i ≡ updated_byte pages first (updates_in redo kept) i
  made-file old new makes made i below =
      let in_size : 4096 * (i / 4096) < redo.size = omega arith in
      let page : page_of new (i / 4096) ≡ page_after (redone_of redo (from_of streams (readings kept)) (readings kept)) (i / 4096) (page_of old (i / 4096)) = made.holds (i / 4096) ∙ made-data old (i / 4096) in_size in
      ap (λ (l : List ℕ). if nat_lt i (redone_valid (readings kept) redo) then slice_index l (i % 4096) else 0) page ∙ makes (i / 4096) in_size i refl

  pub again-file : (old new : Disk) → IsBetween (made_by_log streams (readings kept) redo old) old new → (p : ℕ) → 4096 * p < redo.size → ((bytes : List ℕ) → Was old p bytes → MakesFile streams kept redo pages first p bytes) →
      (bytes : List ℕ) → Contains (may_of new p) bytes → MakesFile streams kept redo pages first p bytes
  again-file old new between p below makes bytes contains = go (between.pages.may p bytes contains)
    where
      same : bytes ≡ page_after (redone_of redo (from_of streams (readings kept)) (readings kept)) p (page_of old p) →
          page_after (redone_of redo (from_of streams (readings kept)) (readings kept)) p bytes ≡ page_after (redone_of redo (from_of streams (readings kept)) (readings kept)) p (page_of old p)
      same is =
          ap (λ (l : List ℕ). page_after (redone_of redo (from_of streams (readings kept)) (readings kept)) p l) is
          ∙ once-more (redone_of redo (from_of streams (readings kept)) (readings kept)) p (page_of old p)

      at : (i : ℕ) → i / 4096 ≡ p → page_after (redone_of redo (from_of streams (readings kept)) (readings kept)) p bytes ≡ page_after (redone_of redo (from_of streams (readings kept)) (readings kept)) p (page_of old p) →
          page_after (redone_of redo (from_of streams (readings kept)) (readings kept)) (i / 4096) bytes ≡ page_after (redone_of redo (from_of streams (readings kept)) (readings kept)) (i / 4096) (page_of old p)
      at i page is = subst (λ (q : ℕ). page_after (redone_of redo (from_of streams (readings kept)) (readings kept)) q bytes ≡ page_after (redone_of redo (from_of streams (readings kept)) (readings kept)) q (page_of old p)) (sym page) is

      go : Was old p bytes ⊎ (bytes ≡ made_by_log streams (readings kept) redo old p) → MakesFile streams kept redo pages first p bytes
      go (inl was) i page = makes bytes was i page
      go (inr is) i page =
          ap (λ (l : List ℕ). if nat_lt i (redone_valid (readings kept) redo) then slice_index l (i % 4096) else 0) (at i page (same (is ∙ made-data old p below)))
          ∙ makes (page_of old p) (inr refl) i page

-- ---- the next run begins with as much valid data as the file has, or more

raised-more : (least most : ℕ) (o : Option Change) → least ≤ most → raised_by_change least o ≤ raised_by_change most o
raised-more least most None le = le
raised-more least most (Some change) le = grow least most (end_of_change change) le
  where
    grow : (a b c : ℕ) → a ≤ b → max a c ≤ max b c
    grow a b c le = omega arith

behind-more : (redo : Redo) (entries : List LogEntry) (least most : ℕ) → least ≤ most → valid_behind (readings entries) redo least ≤ valid_behind (readings entries) redo most
behind-more redo [] least most le = le
behind-more redo (entry ∷ entries) least most le =
    behind-more redo entries (raised_by_change least (change_said redo (said_by entry.bytes))) (raised_by_change most (change_said redo (said_by entry.bytes))) (raised-more least most (change_said redo (said_by entry.bytes)) le)

pub valid-more : (kept : List LogEntry) (redo : Redo) (first : ℕ) → first ≤ redo.valid → valid_after_changes (updates_in redo kept) first ≤ redone_valid (readings kept) redo
valid-more kept redo first le = let same = valid-same redo kept first in let more = behind-more redo kept first redo.valid le in omega (arith, same, more)

-- updates take back no valid data
pub after-least : (changes : List Change) (n : ℕ) → n ≤ valid_after_changes changes n
after-least [] n = omega arith
after-least (change ∷ changes) n = let rest = after-least changes (max n (end_of_change change)) in let here = over n (end_of_change change) in omega (arith, rest, here)
  where
    over : (a b : ℕ) → a ≤ max a b
    over a b = omega arith
