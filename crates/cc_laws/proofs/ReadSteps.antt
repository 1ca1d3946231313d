-- How the reads that an object's private map keeps step at each call.
use Rattle.std.specs.Prelude.{◌≡◌, ℕ, ◌+◌, Bool, true, false, ◌==◌, List, [], ◌∷◌, length, refl}
use Rattle.std.specs.declared.option.Option.{Option}
use Rattle.std.specs.declared.option.Option.TheVariants.{None}
use Rattle.std.proofs.Common.{◌∙◌}
use Rattle.cc_entry.specs.Place.{File}
use Rattle.cc_entry.specs.declared.place.FileSizes.{FileSizes}
use Rattle.cc_entry.specs.declared.call.Call.{Call}
use Rattle.cc_entry.specs.declared.call.Call.TheVariants as call
use Rattle.cc_entry.specs.declared.reply.Reply.{Reply}
use Rattle.cc_entry.specs.declared.reply.Reply.TheVariants as reply
use Rattle.cc_model.specs.Numbers.{is_empty, is_among}
use Rattle.cc_model.specs.History.{Effect, Did}
use Rattle.cc_model.specs.Objects.{objects}
use Rattle.cc_model.specs.ReadAhead.{read_of, kept_with, forgets_reads, reads_of}

pub reads_of-forgotten : (object pass : ℕ) (call : Call) (r : Reply) (h : List Effect) → forgets_reads object call (objects h) ≡ true → reads_of object (Did pass call r ∷ h) ≡ []
unfolding reads_of
reads_of-forgotten object pass call r h forgets = rw (forgets, reads_of) refl

pub reads_of-kept : (object pass : ℕ) (call : Call) (r : Reply) (h : List Effect) → forgets_reads object call (objects h) ≡ false → reads_of object (Did pass call r ∷ h) ≡ kept_with (read_of object call r) (reads_of object h)
unfolding reads_of
reads_of-kept object pass call r h keeps = rw (keeps, reads_of) refl

pub reads_of-initialise : (object pass : ℕ) (file : File) (sizes : FileSizes) (quota : ℕ) (temporary : Bool) (r : Reply) (h : List Effect) → (file.object == object) ≡ true → is_among object (objects h) ≡ false → reads_of object (Did pass (call.Initialise file sizes quota temporary) r ∷ h) ≡ []
unfolding reads_of
reads_of-initialise object pass file sizes quota temporary r h same anew = rw (same, anew, reads_of) refl

pub reads_of-uninitialise : (object pass : ℕ) (file : File) (truncate : Option ℕ) (r : Reply) (h : List Effect) → (file.object == object) ≡ true → reads_of object (Did pass (call.Uninitialise file truncate) r ∷ h) ≡ []
unfolding reads_of
reads_of-uninitialise object pass file truncate r h same = rw (same, reads_of) refl

pub reads_of-copy_read : (object pass : ℕ) (file : File) (at len : ℕ) (wait : Bool) (bytes : List ℕ) (h : List Effect) → (file.object == object) ≡ true → is_empty bytes ≡ false → reads_of object (Did pass (call.CopyRead file at len wait) (reply.Read bytes) ∷ h) ≡ record { from = at; to = at + length bytes } ∷ reads_of object h
unfolding reads_of
reads_of-copy_read object pass file at len wait bytes h same some = rw (same, some, reads_of) refl

-- whether a call is one of these three
abbrev pub concerns_reads : Call → Bool
concerns_reads (call.Initialise file sizes quota temporary) = true
concerns_reads (call.Uninitialise file truncate) = true
concerns_reads (call.CopyRead file at len wait) = true
concerns_reads other = false

-- no other call changes the kept reads
forgets_reads-other : (object : ℕ) (call : Call) (opened : List ℕ) → concerns_reads call ≡ false → forgets_reads object call opened ≡ false
forgets_reads-other object (call.Initialise file sizes quota temporary) opened kept = cc
forgets_reads-other object (call.Uninitialise file truncate) opened kept = cc
forgets_reads-other object (call.CopyRead file at len wait) opened kept = cc
forgets_reads-other object other opened kept = refl

read_of-other : (object : ℕ) (call : Call) (r : Reply) → concerns_reads call ≡ false → read_of object call r ≡ None
read_of-other object (call.Initialise file sizes quota temporary) r kept = cc
read_of-other object (call.Uninitialise file truncate) r kept = cc
read_of-other object (call.CopyRead file at len wait) r kept = cc
read_of-other object other r kept = refl

pub reads_of-other : (object pass : ℕ) (call : Call) (r : Reply) (h : List Effect) → concerns_reads call ≡ false → reads_of object (Did pass call r ∷ h) ≡ reads_of object h
reads_of-other object pass call r h kept = reads_of-kept object pass call r h (forgets_reads-other object call (objects h) kept) ∙ rw (read_of-other object call r kept) refl
