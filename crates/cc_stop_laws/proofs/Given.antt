-- The stream that is given to a restart, with the numbers of its record or of its line.
use Rattle.std.specs.Prelude.{◌≡◌, ℕ, zero, suc, ◌+◌, ◌⊎◌, true, List, [], ◌∷◌, ◌++◌, length, slice_get, Contains, refl}
use Rattle.std.specs.declared.option.Option.{Option}
use Rattle.std.specs.declared.option.Option.TheVariants.{Some, None}
use Rattle.std.proofs.Common.{ap, sym, subst, ◌∙◌, arith, inl, inr}
use Rattle.std.proofs.lemmas.List.Elements.{Contains-push_cases}
use Rattle.std.proofs.lemmas.Option.{same_Some}
use Rattle.cc_format.specs.Spelling.{IsReadAs}
use Rattle.cc_format.specs.declared.record.StreamRecord.{StreamRecord}
use Rattle.cc_redo.specs.Disks.{record_number}
use Rattle.cc_redo.specs.declared.redo.Redo.{Redo}
use Rattle.cc_restarts.specs.Given.{AreRestartSizes, GivenOf, GivenTo, GivenWith, IsRedoOf, is_restarted, size_said, valid_said}
use Rattle.cc_script.specs.declared.script.StreamLine.{StreamLine}
use Rattle.cc_traits.specs.Disk.{Disk, page_of}
use Rattle.cc_traits.specs.Told.{IfTold}
use Rattle.cc_stop_laws.specs.Redoable.{NamesAgain}

-- a content that is one of one
pub one-alone : {A : Type 0} (only x : A) → Contains (only ∷ []) x → only ≡ x
one-alone only x among = go (Contains-push_cases [] only x among)
  where
    go : Contains [] x ⊎ (only ≡ x) → only ≡ x
    go (inl none) = absurd (omega (arith, none.1))
    go (inr is) = is

-- two lines say the same numbers, where this was read
abbrev pub SameSaid : StreamLine → StreamLine → Option StreamRecord → Type 0
SameSaid one other read = (size_said other read ≡ size_said one read) × (valid_said other read ≡ valid_said one read)

-- so they do where one names those of the other again
pub names-same : (disk : Disk) (one other : StreamLine) (read : Option StreamRecord) → NamesAgain disk one other → IsReadAs (page_of disk record_number) read → SameSaid one other read
names-same disk one other None again reads = let same = again reads in (same.size, same.valid)
names-same disk one other (Some told) again reads = (refl, refl)

pub same-sizes : (one other : StreamLine) (read : Option StreamRecord) → SameSaid one other read → AreRestartSizes one read → AreRestartSizes other read
same-sizes one other read same sizes =
    let size = same.0 in
    let valid = same.1 in
    let within = sizes.within in
    let fits = sizes.in_range in
    record { within = omega (arith, size, valid, within); in_range = omega (arith, size, fits) }

pub same-redo : (s : ℕ) (one other : StreamLine) (read : Option StreamRecord) (redo : Redo) → SameSaid one other read → AreRestartSizes one read → IsRedoOf s other read redo → IsRedoOf s one read redo
same-redo s one other read redo same sizes is = record {
  stream_is = is.stream_is;
  disk_is = is.disk_is;
  size_is = is.size_is ∙ same.0;
  valid_is = is.valid_is ∙ same.1;
  sizes = sizes;
}

get-behind : {A : Type 0} (xs ys : List A) (n : ℕ) → slice_get (xs ++ ys) (length xs + n) ≡ slice_get ys n
get-behind [] ys n = ap (λ (k : ℕ). slice_get ys k) (none n)
  where
    none : (m : ℕ) → 0 + m ≡ m
    none m = omega arith
get-behind (x ∷ xs) ys n = ap (λ (k : ℕ). slice_get (x ∷ (xs ++ ys)) k) (more (length xs) n) ∙ get-behind xs ys n
  where
    more : (l m : ℕ) → suc l + m ≡ suc (l + m)
    more l m = omega arith

-- the stream is one of those that are given, with the numbers that were read, where these are sizes
pub record IsAmongGiven (t : Disk) (s : ℕ) (stream : StreamLine) (given : List Redo) : Type 0 where
  pub read : Option StreamRecord
  pub spelled : IsReadAs (page_of t record_number) read
  pub found : AreRestartSizes stream read → (i : ℕ) × (redo : Redo) × (slice_get given i ≡ Some redo) × IsRedoOf s stream read redo

one-given : (t : Disk) (s : ℕ) (stream : StreamLine) (read : Option StreamRecord) (one more given : List Redo) → given ≡ one ++ more → GivenWith s stream read one → AreRestartSizes stream read →
    (i : ℕ) × (redo : Redo) × (slice_get given i ≡ Some redo) × IsRedoOf s stream read redo
one-given t s stream read [] more given is with sizes = absurd (with sizes)
one-given t s stream read (redo ∷ []) more given is with sizes = (0, redo, ap (λ (l : List Redo). slice_get l 0) is, with)
one-given t s stream read (redo ∷ next ∷ rest) more given is with sizes = absurd with

module _ {D : Type 0} (told : D → Option Disk) (disks : List D) (handle : ℕ) where
  pub given-at : (from : ℕ) (streams : List StreamLine) (given : List Redo) → GivenTo told disks handle from streams given → (n : ℕ) (stream : StreamLine) → slice_get streams n ≡ Some stream →
      is_restarted handle stream ≡ true → (disk : D) → slice_get disks (from + n) ≡ Some disk → (t : Disk) → told disk ≡ Some t → IsAmongGiven t (from + n) stream given
  given-at from [] given are n stream is restarted disk at t tells = absurd (cc is)
  given-at from (first ∷ streams) given are zero stream is restarted disk at t tells = record {
    read = its.0;
    spelled = subst (λ (o : Option Disk). IfTold o (λ d. IsReadAs (page_of d record_number) its.0)) known its.1;
    found = λ sizes. one-given t (from + 0) stream its.0 are.1 are.2 given are.4 its.2 sizes;
  }
    where
      number : from + 0 ≡ from
      number = omega arith

      same : first ≡ stream
      same = same_Some first stream is

      held : are.0 ≡ disk
      held = same_Some are.0 disk (sym are.3 ∙ (ap (λ (k : ℕ). slice_get disks k) (sym number) ∙ at))

      known : told are.0 ≡ Some t
      known = ap told held ∙ tells

      named : GivenOf (told are.0) (from + 0) stream (is_restarted handle stream) are.1
      named =
          subst (λ (k : ℕ). GivenOf (told are.0) k stream (is_restarted handle stream) are.1) (sym number)
          (subst (λ (l : StreamLine). GivenOf (told are.0) from l (is_restarted handle l) are.1) same are.5)

      its : GivenOf (told are.0) (from + 0) stream true are.1
      its = subst (λ b. GivenOf (told are.0) (from + 0) stream b are.1) restarted named
  given-at from (first ∷ streams) given are (suc n) stream is restarted disk at t tells =
      let number : suc from + n ≡ from + suc n = omega arith in
      let rest = given-at (suc from) streams are.2 are.6 n stream is restarted disk (ap (λ (k : ℕ). slice_get disks k) number ∙ at) t tells in
      subst (λ (k : ℕ). IsAmongGiven t k stream given) number
      (record {
        read = rest.read;
        spelled = rest.spelled;
        found = λ sizes. let f = rest.found sizes in (length are.1 + f.0, f.1, ap (λ (l : List Redo). slice_get l (length are.1 + f.0)) are.4 ∙ (get-behind are.1 are.2 f.0 ∙ f.2), f.3);
      })
