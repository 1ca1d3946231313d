-- Pages cut from a stream, and blocks given up with them.
use Rattle.std.proofs.Common.{◌≡◌, ℕ, ◌+◌, ◌*◌, ◌/◌, ◌%◌, ◌<◌, ◌≤◌, Bool, true, false, get_or, None, IsSome, is_some, Result, Ok, Err, OnOk, OnErr, refl, sym, ap, subst, ◌∙◌, true≢false, inl, inr, arith}
use Rattle.std.proofs.lemmas.Bool.{cases_lt}
use Rattle.std.specs.List.{filter, list_all}
use Rattle.std.specs.Int.{div_ceil}
use Rattle.std.specs.Option.{option_map}
use Rattle.cc_entry.specs.Pages.{block_of}
use Rattle.cc_views.specs.Views.{MappedViews, frames_at}
use Rattle.cc_vacb.specs.Index.{StartsBelow}
use Rattle.cc_resident.specs.Residents.{frame_at, page_bytes_at, byte_at, is_resident, blocks, has_pages, IsFrame, AreResidents}
use Rattle.cc_resident.specs.Changes.{KeepsFrames, Clears, Zeroes, Cuts, CutsPages, is_number_between}
use Rattle.cc_resident.proofs.Lists.{all_at, all_kept, filter_all, filter_alike, any_alike, all_alike, Passes-any}
use Rattle.cc_resident.proofs.Frames.{frame_is, resident_is, none_from, among_is}
use Rattle.cc_resident.proofs.Kept.{page_alike, page_from, has_alike, has_is, AreResidents-left}
use Rattle.cc_resident.proofs.Bytes.{byte_is}
use Rattle.cc_resident.proofs.Spans.{between, not_between}

-- a stream of another size
abbrev pub put_size : MappedViews → ℕ → MappedViews
put_size m size = record m { size = size }

pub frame-sized : (m : MappedViews) (size p : ℕ) → frame_at (put_size m size) p ≡ frame_at m p
frame-sized m size p = frame_is (put_size m size) p ∙ sym (frame_is m p)

-- a page that is not resident has no frame
pub frame_none : (m : MappedViews) (p : ℕ) → (is_resident m p ≡ true → ⊥) → frame_at m p ≡ None
frame_none m p h = none_from (frame_at m p) (sym (resident_is m p) ∙ by (is_resident m p) refl)
  where
    by : (b : Bool) → is_resident m p ≡ b → is_resident m p ≡ false
    by true e = absurd (h e)
    by false e = e

pub not_resident : (m : MappedViews) (p : ℕ) → frame_at m p ≡ None → is_resident m p ≡ true → ⊥
not_resident m p none h = true≢false (sym h ∙ resident_is m p ∙ ap is_some none)

pub resident_alike : (m n : MappedViews) (p : ℕ) → frame_at n p ≡ frame_at m p → is_resident n p ≡ is_resident m p
resident_alike m n p e = ap is_some (page_alike m n p e)

-- a block that has a page starts where its pages are
pub record PageIn (m : MappedViews) (block : ℕ) : Type 0 where
  pub page : ℕ
  pub lies : block_of page ≡ block
  pub there : is_resident m page ≡ true

pub PageIn-has : (m : MappedViews) (block : ℕ) → has_pages m block ≡ true → PageIn m block
unfolding has_pages
PageIn-has m block h =
    let w = Passes-any (is_resident m) (64 * block) 64 h in
    record { page = w.at; lies = omega (arith, w.from, w.to); there = w.passes }

pub block_starts : (m : MappedViews) (block size : ℕ) → has_pages m block ≡ true → ((p : ℕ) → is_resident m p ≡ true → 4096 * p < size) → StartsBelow block size
block_starts m block size h below =
    let w = PageIn-has m block h in
    omega (arith, below w.page w.there, w.lies)

pub mapped_starts : (m : MappedViews) (block : ℕ) → AreResidents m → IsSome (frames_at m block) → StartsBelow block m.size
mapped_starts m block was some = block_starts m block m.size (sym (has_is m block was) ∙ some) was.below

-- a block has a page where it had one, if the same pages are resident
pub has_same : (m n : MappedViews) (block : ℕ) → ((p : ℕ) → is_resident n p ≡ is_resident m p) → has_pages n block ≡ has_pages m block
unfolding has_pages
has_same m n block h = any_alike (is_resident n) (is_resident m) (64 * block) (64 * block) 64 (λ i l. h (64 * block + i))

-- whole pages were cut
pub AreResidents-cut : (old new : MappedViews) (size : ℕ) → AreResidents old → CutsPages old new size → blocks new ≡ filter (has_pages new) (blocks old) → AreResidents new
AreResidents-cut old new size was w order = AreResidents-left old new was frames below order
  where
    frames : (p : ℕ) → IsFrame (frame_at new p)
    frames p =
        elim (cases_lt (4096 * p) size) [
          | inl h ↦ subst IsFrame (sym (w.kept p h)) (was.frames p)
          | inr h ↦ subst IsFrame (sym (w.gone p h)) tt
        ]

    below : (p : ℕ) → is_resident new p ≡ true → 4096 * p < new.size
    below p e =
        elim (cases_lt (4096 * p) size) [
          | inl h ↦ omega (arith, h, w.sized)
          | inr h ↦ absurd (not_resident new p (w.gone p h) e)
        ]

-- a stream grew
pub CutsPages-grown : (m : MappedViews) (size : ℕ) → AreResidents m → m.size ≤ size → CutsPages m (put_size m size) size
CutsPages-grown m size was h =
    record {
      gone = λ p out. frame-sized m size p ∙ frame_none m p (λ e. omega (arith, was.below p e, out, h));
      kept = λ p _. frame-sized m size p;
      quota = refl;
      sized = refl;
    }

pub blocks-grown : (m : MappedViews) (size : ℕ) → AreResidents m → blocks (put_size m size) ≡ filter (has_pages (put_size m size)) (blocks m)
blocks-grown m size was =
    sym (filter_all (has_pages (put_size m size)) (blocks m) (all_alike (has_pages m) (has_pages (put_size m size)) (blocks m) (λ b. sym (has_alike m (put_size m size) b (λ p _. frame-sized m size p))) was.blocks_have_pages))

pub grown : {E : Type 0} (r : Result (Unit {0}) E) (old new : MappedViews) (size : ℕ) → AreResidents old → old.size ≤ size → OnOk r (new ≡ put_size old size) → OnErr r (new ≡ old) → AreResidents new × OnOk r (CutsPages old new size) × OnOk r (blocks new ≡ filter (has_pages new) (blocks old))
grown (Ok x) old new size was h e f =
    let cuts = CutsPages-grown old size was h in
    let order = blocks-grown old size was in
    (subst AreResidents (sym e) (AreResidents-cut old (put_size old size) size was cuts order), subst (λ m. CutsPages old m size) (sym e) cuts, subst (λ m. blocks m ≡ filter (has_pages m) (blocks old)) (sym e) order)
grown (Err x) old new size was h e f = (subst AreResidents (sym f) was, tt, tt)

-- pages of a span were taken out, and the empty blocks given up
pub record Empties (old mid new : MappedViews) : Type 0 where
  pub same : blocks mid ≡ blocks old
  pub keeps : KeepsFrames mid new
  pub order : blocks new ≡ filter (has_pages mid) (blocks mid)

pub blocks-emptied : (old mid new : MappedViews) → Empties old mid new → blocks new ≡ filter (has_pages new) (blocks old)
blocks-emptied old mid new w =
    w.order ∙ ap (filter (has_pages mid)) w.same ∙ sym (filter_alike (has_pages new) (has_pages mid) (blocks old) (λ b. has_alike mid new b (λ p _. w.keeps.frames p)))

pub AreResidents-emptied : (old mid new : MappedViews) (test : ℕ → Bool) → AreResidents old → Clears old mid test → Empties old mid new → AreResidents new
AreResidents-emptied old mid new test was c w = AreResidents-left old new was (λ p. frames p (test p) refl) (λ p. below p (test p) refl) (blocks-emptied old mid new w)
  where
    frames : (p : ℕ) (b : Bool) → test p ≡ b → IsFrame (frame_at new p)
    frames p true e = subst IsFrame (sym (w.keeps.frames p ∙ c.gone p e)) tt
    frames p false e = subst IsFrame (sym (w.keeps.frames p ∙ c.kept p e)) (was.frames p)

    below : (p : ℕ) (b : Bool) → test p ≡ b → is_resident new p ≡ true → 4096 * p < new.size
    below p true e h = absurd (not_resident new p (w.keeps.frames p ∙ c.gone p e) h)
    below p false e h = omega (arith, w.keeps.size, c.size, was.below p (sym (resident_alike old new p (w.keeps.frames p ∙ c.kept p e)) ∙ h))

-- the first page that starts at or past a size
first_past : (size first : ℕ) → first ≡ div_ceil size 4096 → (p : ℕ) → (4096 * p < size → p < first) × (size ≤ 4096 * p → first ≤ p)
first_past size first e p = (λ h. omega (arith, e), λ h. omega (arith, e))

-- the pages from the first one past a size up to the end were taken out, and the empty blocks given up
pub record Shrinks (old mid new : MappedViews) (size : ℕ) : Type 0 where
  pub was : AreResidents old
  pub first : ℕ
  pub end : ℕ
  pub starts : first ≡ div_ceil size 4096
  pub ends : end ≡ div_ceil old.size 4096
  pub clears : Clears old mid (is_number_between first end)
  pub empties : Empties old mid new

pub Shrinks-from : (old mid new : MappedViews) (size first end whole : ℕ) → AreResidents old → first ≡ div_ceil size 4096 → end ≡ div_ceil whole 4096 → whole ≡ old.size → Clears old mid (is_number_between first end) → blocks mid ≡ blocks old → KeepsFrames mid new → blocks new ≡ filter (has_pages mid) (blocks mid) → Shrinks old mid new size
Shrinks-from old mid new size first end whole was starts ends is clears same keeps order =
    record {
      was = was;
      first = first;
      end = end;
      starts = starts;
      ends = ends ∙ ap (λ n. div_ceil n 4096) is;
      clears = clears;
      empties = record { same = same; keeps = keeps; order = order };
    }

module _ (old mid new : MappedViews) (size : ℕ) (w : Shrinks old mid new size) where
  gone_past : (p : ℕ) → size ≤ 4096 * p → frame_at new p ≡ None
  gone_past p h = w.empties.keeps.frames p ∙ by (is_resident old p) refl
    where
      by : (b : Bool) → is_resident old p ≡ b → frame_at mid p ≡ None
      by true e = w.clears.gone p (between w.first w.end p ((first_past size w.first w.starts p).1 h) ((first_past old.size w.end w.ends p).0 (w.was.below p e)))
      by false e = out (is_number_between w.first w.end p) refl
        where
          out : (t : Bool) → is_number_between w.first w.end p ≡ t → frame_at mid p ≡ None
          out true f = w.clears.gone p f
          out false f = w.clears.kept p f ∙ frame_none old p (λ g. true≢false (sym g ∙ e))

  below_size : (p : ℕ) → is_resident new p ≡ true → 4096 * p < size
  below_size p e =
      elim (cases_lt (4096 * p) size) [
        | inl h ↦ h
        | inr h ↦ absurd (not_resident new p (gone_past p h) e)
      ]

  pub shrunk_starts : (block : ℕ) → IsSome (frames_at new block) → StartsBelow block size
  shrunk_starts block some =
      let order = blocks-emptied old mid new w.empties in
      let all = ap (list_all (has_pages new)) order ∙ all_kept (has_pages new) (blocks old) in
      block_starts new block size (all_at (has_pages new) block (blocks new) all (sym (among_is new block) ∙ some)) below_size

  CutsPages-shrunk : CutsPages old (put_size new size) size
  CutsPages-shrunk =
      record {
        gone = λ p h. frame-sized new size p ∙ gone_past p h;
        kept = λ p h. frame-sized new size p ∙ w.empties.keeps.frames p ∙ w.clears.kept p (not_between w.first w.end p (λ a _. omega (arith, a, (first_past size w.first w.starts p).0 h)));
        quota = w.empties.keeps.quota ∙ w.clears.quota;
        sized = refl;
      }

  blocks-shrunk : blocks (put_size new size) ≡ filter (has_pages (put_size new size)) (blocks old)
  blocks-shrunk =
      blocks-emptied old mid new w.empties
      ∙ sym (filter_alike (has_pages (put_size new size)) (has_pages new) (blocks old) (λ b. has_alike new (put_size new size) b (λ p _. frame-sized new size p)))

  pub shrunk : (last : MappedViews) → last ≡ put_size new size → AreResidents last × CutsPages old last size × (blocks last ≡ filter (has_pages last) (blocks old))
  shrunk last e = (
    subst AreResidents (sym e) (AreResidents-cut old (put_size new size) size w.was CutsPages-shrunk blocks-shrunk),
    subst (λ m. CutsPages old m size) (sym e) CutsPages-shrunk,
    subst (λ m. blocks m ≡ filter (has_pages m) (blocks old)) (sym e) blocks-shrunk,
  )

-- and then the bytes past the size, in the page that has it
pub Cuts-zeroed : (old mid new : MappedViews) (size : ℕ) → CutsPages old mid size → Zeroes mid new (is_number_between (4096 * (size / 4096) + size % 4096) (4096 * (size / 4096) + 4096)) → Cuts old new size
Cuts-zeroed old mid new size c z =
    record {
      gone = λ p h. page_out p (page_from mid p None (c.gone p h));
      kept = λ p h. z.pages p ∙ resident_alike old mid p (c.kept p h);
      below = λ i h. z.outside i (not_between (4096 * (size / 4096) + size % 4096) (4096 * (size / 4096) + 4096) i (λ a _. omega arith)) ∙ same i (omega arith);
      past = λ i h k. z.inside i (between (4096 * (size / 4096) + size % 4096) (4096 * (size / 4096) + 4096) i (omega arith) (omega arith)) ∙ ap (option_map (λ _. 0)) (same i k);
    }
  where
    page_out : (p : ℕ) → page_bytes_at mid p ≡ None → page_bytes_at new p ≡ None
    page_out p h = none_from (page_bytes_at new p) (z.pages p ∙ ap is_some h)

    same : (i : ℕ) → 4096 * (i / 4096) < size → byte_at mid i ≡ byte_at old i
    same i h = byte_is mid i ∙ ap (option_map (λ bytes. get_or bytes (i % 4096) 0)) (page_alike old mid (i / 4096) (c.kept (i / 4096) h)) ∙ sym (byte_is old i)

pub blocks-zeroed : (old mid new : MappedViews) (test : ℕ → Bool) → blocks mid ≡ filter (has_pages mid) (blocks old) → Zeroes mid new test → blocks new ≡ blocks mid → blocks new ≡ filter (has_pages new) (blocks old)
blocks-zeroed old mid new test order z same = same ∙ order ∙ sym (filter_alike (has_pages new) (has_pages mid) (blocks old) (λ b. has_same mid new b z.pages))
