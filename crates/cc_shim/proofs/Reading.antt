-- A read: its tests, and what it leaves by its path.
use Rattle.std.specs.Prelude.{◌≡◌, ℕ, ◌≤◌, ◌/◌, ◌%◌, ◌||◌, if◌then◌else◌, Bool, true, false, nat_lt, List, length, Result, Ok, Err, OnErr, refl}
use Rattle.std.specs.declared.option.Option.{Option}
use Rattle.std.specs.declared.option.Option.TheVariants.{Some, None}
use Rattle.std.proofs.Common.{ap, sym, ◌∙◌, subst, inl, inr, arith}
use Rattle.cc_entry.specs.Place.{File}
use Rattle.cc_entry.specs.declared.call.Call.{Call}
use Rattle.cc_entry.specs.declared.call.Call.TheVariants as call
use Rattle.cc_entry.specs.declared.query.Query.TheVariants as query
use Rattle.cc_entry.specs.declared.entry.Entry.{Entry}
use Rattle.cc_entry.specs.declared.error.CcError.{CcError}
use Rattle.cc_entry.specs.declared.error.CcError.TheVariants as error
use Rattle.cc_entry.specs.declared.place.FileState.{FileState}
use Rattle.cc_model.specs.Ranges.{cut_range}
use Rattle.cc_effects.specs.Calls.{CallLeft}
use Rattle.cc_effects.specs.Noncached.{NcReadLeft}
use Rattle.cc_effects.proofs.Stretches.{idle-none}
use Rattle.cc_ranges.specs.Answers.{read_answer, KeepsBeyondRead as KeepsPages}
use Rattle.cc_ranges.specs.Reads.{IsFullRead, NcReadEnds}
use Rattle.cc_ranges.specs.declared.error.NcError.{NcError}
use Rattle.cc_script.specs.declared.script.ReadPath.{ReadPath}
use Rattle.cc_script.specs.declared.script.ReadPath.TheVariants as read_path
use Rattle.cc_turns.specs.Standing.{Standing}
use Rattle.cc_calls.specs.Answers.{CallEnds, state_outcome}
use Rattle.cc_calls.specs.Pages.{IsFullFor, ReadEnds}
use Rattle.cc_calls.proofs.Paging.{full-within, most_room}
use Rattle.cc_pieces.specs.Shim.{HeldPartsLeft, PartsLeft, PathReadLeft, ReadTested, first_of_two, misaligned_for, too_long_for}
use Rattle.cc_shim.specs.Ends.{CallListWasFull, WasFullError}
use Rattle.cc_shim.specs.Reads.{BelowSizeEnds, ReadKeepsBehind, PathReadEnds, ReadByPathLeft, ToldSizeEnds, hold_path_of, nc_cause, parts_by, path_by, read_in}
use Rattle.cc_shim.specs.declared.parts.By.{By}
use Rattle.cc_shim.specs.declared.parts.By.TheVariants as way
use Rattle.cc_shim.proofs.Going.{HasGone, ends-after, ends-more, ends-here, full-now, gone-ends, gone-none, gone-noncached, gone-pages, moved, one-asked}
use Rattle.cc_ranges.specs.ReadVisits.{KeepsBehind, outcome_of_read}

-- ---- what of a range lies below the size

module _ (w v : Standing) (file : File) (how : By) (at : ℕ) (was : List ℕ) where
  abbrev Held : Result (List ℕ) CcError → List Entry → List Entry → Type 0
  Held answered old new = HeldPartsLeft w.setup w.number file (hold_path_of how file) (parts_by how) at (length was) answered old new

  -- the state was not told
  pub size-untold : (e : CcError) → v.others ≤ v.most_others → CallEnds state_outcome w v (call.Query (query.State file)) (Err e) → BelowSizeEnds w v file how at (Err e) was was
  size-untold e few ends =
      let gone = gone-ends state_outcome w v (call.Query (query.State file)) (Err e) ends in
      record {
        ends = ends-here w v Held (Err e) gone (full-now {A = FileState} w v 1 (Err e) gone few (omega arith) ends.full) (inl ends.left);
        rest = refl;
      }

  -- it was, and the parts below the size were read, or not
  pub size-told : (x : Standing) (state : FileState) (answer : Result ℕ CcError) (now : List ℕ) → CallEnds state_outcome w v (call.Query (query.State file)) (Ok state) → ToldSizeEnds v x file how at state answer was now → BelowSizeEnds w x file how at answer was now
  size-told x state answer now ends told =
      let gone = gone-ends state_outcome w v (call.Query (query.State file)) (Ok state) ends in
      record {
        ends =
            ends-after w v x Held (PartsLeft v.setup v.number (hold_path_of how file) (parts_by how (cut_range state.sizes.size at (length was)))) (read_in answer now) gone told.ends
            (λ left. whole answer (moved w v gone.on (λ u me. PartsLeft u me (hold_path_of how file) (parts_by how (cut_range state.sizes.size at (length was))) (read_in answer now) v.seen x.seen) left));
        rest = told.rest;
      }
    where
      whole : (answer : Result ℕ CcError) → PartsLeft w.setup w.number (hold_path_of how file) (parts_by how (cut_range state.sizes.size at (length was))) (read_in answer now) v.seen x.seen → Held (read_in answer now) w.seen x.seen
      whole (Ok n) left = (v.seen, state, ends.left, left)
      whole (Err e) left = inr (v.seen, state, ends.left, left)

-- ---- the tests of a read

some-is : (x e : CcError) → Some x ≡ Some e → x ≡ e
some-is x e same = cc

module _ (w : Standing) where
  as-full : (x e : CcError) → WasFullError 2 w w x → Some x ≡ Some e → WasFullError 2 w w e
  as-full x e full same = subst (λ (y : CcError). WasFullError 2 w w y) (some-is x e same) full

  tests-full : (b : Bool) (x e : CcError) → WasFullError 2 w w x → (if b then Some x else None) ≡ Some e → WasFullError 2 w w e
  tests-full true x e full is = as-full x e full is
  tests-full false x e full is = absurd (cc)

  pub long-full : (p : ReadPath) (len : ℕ) (e : CcError) → too_long_for p len ≡ Some e → WasFullError 2 w w e
  long-full read_path.Noncached len e is = tests-full (nat_lt 65536 len) (error.TooLong 65536) e tt is
  long-full read_path.Cached len e is = tests-full (nat_lt 1048576 len) (error.TooLong 1048576) e tt is
  long-full read_path.Mapped len e is = tests-full (nat_lt 1048576 len) (error.TooLong 1048576) e tt is
  long-full read_path.Pinned len e is = tests-full (nat_lt 1048576 len) (error.TooLong 1048576) e tt is
  long-full read_path.Descriptor len e is = tests-full (nat_lt 1048576 len) (error.TooLong 1048576) e tt is

  pub misaligned-full : (p : ReadPath) (at len : ℕ) (e : CcError) → misaligned_for p at len ≡ Some e → WasFullError 2 w w e
  misaligned-full read_path.Noncached at len e is = tests-full (nat_lt 0 (at % 4096) || nat_lt 0 (len % 4096)) error.Unaligned e tt is
  misaligned-full read_path.Cached at len e is = absurd (cc)
  misaligned-full read_path.Mapped at len e is = absurd (cc)
  misaligned-full read_path.Pinned at len e is = absurd (cc)
  misaligned-full read_path.Descriptor at len e is = absurd (cc)

-- what the shim refuses itself makes no call
pub tested : (w : Standing) (file : File) (path : ReadPath) (at : ℕ) (was : List ℕ) (e : CcError) → first_of_two (too_long_for path (length was)) (misaligned_for path at (length was)) ≡ Some e → PathReadEnds w w file path at (Err e) was was
tested w file path at was e is = by (too_long_for path (length was)) (misaligned_for path at (length was)) refl refl is
  where
    by : (long misaligned : Option CcError) → too_long_for path (length was) ≡ long → misaligned_for path at (length was) ≡ misaligned → first_of_two long misaligned ≡ Some e → PathReadEnds w w file path at (Err e) was was
    by (Some x) misaligned long_is misaligned_is is = record {
      ends =
          ends-here w w (ReadByPathLeft w.setup w.number file path at (length was)) (Err e) (gone-none w) (long-full w path (length was) e (long_is ∙ is))
          (rw (long_is) (inl (ap Err (sym (some-is x e is))), idle-none w.number w.seen));
      rest = refl;
    }
    by None (Some x) long_is misaligned_is is = record {
      ends =
          ends-here w w (ReadByPathLeft w.setup w.number file path at (length was)) (Err e) (gone-none w) (misaligned-full w path at (length was) e (misaligned_is ∙ is))
          (rw (long_is, misaligned_is) (inl (ap Err (sym (some-is x e is))), idle-none w.number w.seen));
      rest = refl;
    }
    by None None long_is misaligned_is is = absurd (cc)

-- ---- the paths

module _ (w v : Standing) (file : File) (path : ReadPath) (at : ℕ) (was now : List ℕ) (fine : first_of_two (too_long_for path (length was)) (misaligned_for path at (length was)) ≡ None) where
  as-tested : (answered : Result (List ℕ) CcError) → PathReadLeft w.setup w.number file path at (length was) answered w.seen v.seen → ReadByPathLeft w.setup w.number file path at (length was) answered w.seen v.seen
  as-tested answered left = by (too_long_for path (length was)) (misaligned_for path at (length was)) fine
    where
      by : (long misaligned : Option CcError) → first_of_two long misaligned ≡ None → ReadTested w.setup w.number file path at (length was) long misaligned answered w.seen v.seen
      by (Some x) misaligned is = absurd (cc)
      by None (Some x) is = absurd (cc)
      by None None is = left

  -- by copies
  pub read-cached : (answer : Result ℕ CcError) → path ≡ read_path.Cached → v.others ≤ v.most_others → ReadEnds w v file at true answer was now → PathReadEnds w v file path at answer was now
  read-cached answer is few read = record {
    ends =
        ends-here w v (ReadByPathLeft w.setup w.number file path at (length was)) (read_in answer now) gone (by-full answer read.full)
        (as-tested (read_in answer now) (subst (λ (p : ReadPath). PathReadLeft w.setup w.number file p at (length was) (read_in answer now) w.seen v.seen) (sym is) (by-left answer read.pages.left)));
    rest = by-rest answer read.rest;
  }
    where
      it : Call
      it = call.CopyRead file at (length was) true

      gone : HasGone w v
      gone = gone-pages w v it (outcome_of_read answer now) read.pages

      by-left : (answer : Result ℕ CcError) → CallLeft w.setup w.number it (outcome_of_read answer now) w.seen v.seen → PathReadLeft w.setup w.number file read_path.Cached at (length was) (read_in answer now) w.seen v.seen
      by-left (Ok n) left = left
      by-left (Err e) left = left

      by-full : (answer : Result ℕ CcError) → IsFullFor it w v answer → CallListWasFull w v (read_in answer now)
      by-full (Ok n) full = tt
      by-full (Err e) full = full-now {A = ℕ} w v (most_room it) (Err e) gone few one-asked (full-within {A = ℕ} it w v (Err e) full)

      by-rest : (answer : Result ℕ CcError) → KeepsBehind answer was now → ReadKeepsBehind answer was now
      by-rest (Ok n) kept = kept
      by-rest (Err e) kept = ap length kept

  -- by holds
  pub read-held : (how : By) (answer : Result ℕ CcError) → path ≡ path_by how → BelowSizeEnds w v file how at answer was now → PathReadEnds w v file path at answer was now
  read-held how answer is read = record {
    ends =
        ends-more w v (HeldPartsLeft w.setup w.number file (hold_path_of how file) (parts_by how) at (length was)) (ReadByPathLeft w.setup w.number file path at (length was)) (read_in answer now)
        (λ left. as-tested (read_in answer now) (subst (λ (p : ReadPath). PathReadLeft w.setup w.number file p at (length was) (read_in answer now) w.seen v.seen) (sym is) (by-path how left))) read.ends;
    rest = read.rest;
  }
    where
      by-path : (how : By) → HeldPartsLeft w.setup w.number file (hold_path_of how file) (parts_by how) at (length was) (read_in answer now) w.seen v.seen → PathReadLeft w.setup w.number file (path_by how) at (length was) (read_in answer now) w.seen v.seen
      by-path way.Map left = left
      by-path way.Pin left = left
      by-path way.Chain left = left

  -- page by page, noncached
  pub read-noncached : (answer : Result ℕ NcError) → path ≡ read_path.Noncached → length now ≡ length was → OnErr answer (v.others ≤ v.most_others) → NcReadEnds w v file at answer was now → PathReadEnds w v file path at (nc_cause answer) was now
  read-noncached answer is same few read = record {
    ends =
        ends-here w v (ReadByPathLeft w.setup w.number file path at (length was)) (read_in (nc_cause answer) now) gone (by-full answer few read.full)
        (as-tested (read_in (nc_cause answer) now) (subst (λ (p : ReadPath). PathReadLeft w.setup w.number file p at (length was) (read_in (nc_cause answer) now) w.seen v.seen) (sym is) (by-left answer read.left)));
    rest = by-rest answer read.rest;
  }
    where
      gone : HasGone w v
      gone = gone-noncached w v file at answer was now read

      by-left : (answer : Result ℕ NcError) → NcReadLeft w.setup w.number file at (length was) (read_answer answer now) w.seen v.seen → PathReadLeft w.setup w.number file read_path.Noncached at (length was) (read_in (nc_cause answer) now) w.seen v.seen
      by-left (Ok n) left = left
      by-left (Err e) left = (e.done, left)

      by-full : (answer : Result ℕ NcError) → OnErr answer (v.others ≤ v.most_others) → IsFullRead v file (at / 4096) answer → CallListWasFull w v (read_in (nc_cause answer) now)
      by-full (Ok n) few full = tt
      by-full (Err e) few (inl full) = full-now {A = Unit {0}} w v 1 (Err e.cause) gone few (omega arith) full
      by-full (Err e) few (inr full) = full-now {A = Unit {0}} w v 2 (Err e.cause) gone few (omega arith) full.1

      by-rest : (answer : Result ℕ NcError) → KeepsPages answer was now → ReadKeepsBehind (nc_cause answer) was now
      by-rest (Ok n) kept = kept
      by-rest (Err e) kept = same
