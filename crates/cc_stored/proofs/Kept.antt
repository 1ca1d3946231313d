-- What holds of the turns of a pass that keeps a disk holds of its turns.
use Rattle.std.specs.Prelude.{◌≡◌, ℕ, true, List, [], ◌∷◌, length, Result, Ok, Err, OnOk}
use Rattle.std.specs.List.{list_all}
use Rattle.std.specs.declared.option.Option.{Option}
use Rattle.std.specs.declared.option.Option.TheVariants.{Some, None}
use Rattle.std.proofs.Common.{ap, sym, subst, ◌∙◌, inl, inr}
use Rattle.cc_entry.specs.Place.{File, Range}
use Rattle.cc_entry.specs.declared.call.Call.{Call}
use Rattle.cc_entry.specs.declared.call.Call.TheVariants as call
use Rattle.cc_entry.specs.declared.error.CcError.{CcError}
use Rattle.cc_entry.specs.declared.error.CcError.TheVariants as error
use Rattle.cc_keep.specs.Keeps.{KeepsDisk, keeping_standing, leaves_disk, newer}
use Rattle.cc_model.specs.History.{history}
use Rattle.cc_model.specs.Touches.{valid_of}
use Rattle.cc_traits.specs.Disk.{Disk}
use Rattle.cc_turns.specs.Standing.{Standing}
use Rattle.cc_writes.specs.Calls.{IsFullWriting}
use Rattle.cc_writes.specs.Hands.{Went}
use Rattle.cc_writes.specs.Ways.{IsFull}
use Rattle.cc_calls.specs.Flushes.{FlushEnds, HasDisk}
use Rattle.cc_stored.specs.Settle.{TellsAfter}
use Rattle.cc_stored.proofs.Calming.{told-behind}

-- the standing of turns that keep a disk since just now
pub keeping-new : (w v b : Standing) (name s t n : ℕ) → v ≡ w → b ≡ w → t ≡ s → n ≡ 0 → keeping_standing v name t b n ≡ keeping_standing w name s w 0
keeping-new w v b name s t n v_is b_is t_is n_is =
    ap (λ (a : Standing). keeping_standing a name t b n) v_is
    ∙ (ap (λ (a : Standing). keeping_standing w name t a n) b_is
    ∙ (ap (λ (m : ℕ). keeping_standing w name m w n) t_is ∙ ap (λ (m : ℕ). keeping_standing w name s w m) n_is))

-- the disk in hand
pub disk-kept : {D : Type 0} (told : D → Option Disk) (faults : D → ℕ) (w b : Standing) (name s t n : ℕ) (disk : D) → HasDisk told faults w s disk → HasDisk told faults (keeping_standing w name t b n) s disk
disk-kept told faults w b name s t n disk has =
    record { known = has.known; held = has.held; rest = has.rest; stands = has.stands; opening = has.opening }

pub disk-ended : {D : Type 0} (told : D → Option Disk) (faults : D → ℕ) (w b : Standing) (name s t n : ℕ) (disk : D) → HasDisk told faults (keeping_standing w name t b n) s disk → HasDisk told faults w s disk
disk-ended told faults w b name s t n disk has =
    record { known = has.known; held = has.held; rest = has.rest; stands = has.stands; opening = has.opening }

full-kept : (asked : ℕ) (y b : Standing) (name t n : ℕ) (answer : Result (Unit {0}) CcError) → IsFull asked (keeping_standing y name t b n) answer → IsFull asked y answer
full-kept asked y b name t n (Ok told) full = tt
full-kept asked y b name t n (Err (error.JournalFull entries)) full = full
full-kept asked y b name t n (Err other) full = tt

writing-kept : (it : Call) (y b : Standing) (name t n : ℕ) (answer : Result (Unit {0}) CcError) → IsFullWriting it (keeping_standing y name t b n) answer → IsFullWriting it y answer
writing-kept it y b name t n answer (inl full) = inl (full-kept 1 y b name t n answer full)
writing-kept it y b name t n answer (inr full) = inr (full.0, full-kept 2 y b name t n answer full.1)

-- what stands behind the names before those of a run
rest_of : List ℕ → List ℕ
rest_of (name ∷ s ∷ seen ∷ turns ∷ shared) = shared
rest_of (name ∷ s ∷ seen ∷ []) = []
rest_of (name ∷ s ∷ []) = []
rest_of (name ∷ []) = []
rest_of [] = []

stream_in : List ℕ → ℕ
stream_in (name ∷ s ∷ shared) = s
stream_in (name ∷ []) = 0
stream_in [] = 0

seen_in : List ℕ → ℕ
seen_in (name ∷ s ∷ seen ∷ shared) = seen
seen_in (name ∷ s ∷ []) = 0
seen_in (name ∷ []) = 0
seen_in [] = 0

turns_in : List ℕ → ℕ
turns_in (name ∷ s ∷ seen ∷ turns ∷ shared) = turns
turns_in (name ∷ s ∷ seen ∷ []) = 0
turns_in (name ∷ s ∷ []) = 0
turns_in (name ∷ []) = 0
turns_in [] = 0

module _ (w y b : Standing) (name other s t n : ℕ) (went : Went (keeping_standing w name s w 0) (keeping_standing y other t b n)) (keeps : KeepsDisk n t b y) where
  none : n ≡ 0
  none = ap (λ (a : Standing). a.device_turns) went.same

  same_turns : y.device_turns ≡ w.device_turns
  unfolding turns_in
  same_turns = keeps.1 none ∙ ap (λ (a : Standing). turns_in a.shared) went.same

  same_stream : t ≡ s
  unfolding stream_in
  same_stream = ap (λ (a : Standing). stream_in a.shared) went.same

  same_seen : length b.seen ≡ length w.seen
  unfolding seen_in
  same_seen = ap (λ (a : Standing). seen_in a.shared) went.same

  pub kept-went : Went w y
  unfolding rest_of
  kept-went = record {
    same = ap (λ (m : ℕ). record y { device_turns = m }) same_turns ∙ ap (λ (a : Standing). record a { shared = rest_of a.shared; device_turns = w.device_turns }) went.same;
  }

  pub kept-leaves : y.held.device ≡ Some s → list_all (leaves_disk y.number s) (newer (length w.seen) y.seen) ≡ true
  kept-leaves device =
      ap (λ (m : ℕ). list_all (leaves_disk y.number s) (newer m y.seen)) (sym same_seen)
      ∙ (ap (λ (m : ℕ). list_all (leaves_disk y.number m) (newer (length b.seen) y.seen)) (sym same_stream)
      ∙ keeps.2 none (device ∙ ap Some (sym same_stream)))

  pub kept-ends : (file : File) (span : Option Range) (answer : Result (Unit {0}) CcError) → FlushEnds (keeping_standing w name s w 0) (keeping_standing y other t b n) file span answer → FlushEnds w y file span answer
  kept-ends file span answer ends = record {
    left = ends.left;
    full = writing-kept (call.Flush file span) y b other t n answer ends.full;
    goes_on = record {
      same = kept-went.same ∙ ap (λ (m : ℕ). record w { seen = y.seen; others = y.others; device_turns = m }) (sym same_turns);
    };
    good = ends.good;
    ascending = ends.ascending;
    clean = ends.clean;
    durable = ends.durable;
  }

  pub kept-tells : (file : File) (answer : Result (Unit {0}) CcError) → file.stream ≡ s → y.held.device ≡ Some s → FlushEnds (keeping_standing w name s w 0) (keeping_standing y other t b n) file None answer → OnOk answer (TellsAfter y s (valid_of (history w.seen s)))
  kept-tells file (Ok done) same device ends =
      λ later quiet good valid before now.
      told-behind y.setup w.number s file same w.seen y.seen ends.left
      (subst (λ (m : ℕ). list_all (leaves_disk m s) (newer (length w.seen) y.seen) ≡ true) (ap (λ (a : Standing). a.number) kept-went.same) (kept-leaves device))
      later quiet good valid before now
  kept-tells file (Err e) same device ends = tt
