-- How what is kept of the private maps of a stream steps.
use Rattle.std.specs.Prelude.{◌≡◌, ℕ, ◌+◌, ◌<◌, Bool, true, false, not, ◌&&◌, ◌==◌, List, [], ◌∷◌, length, take, replicate, if◌then◌else◌, refl}
use Rattle.std.specs.declared.option.Option.TheVariants.{Some, None}
use Rattle.std.proofs.Common.{ap, ◌∙◌, arith}
use Rattle.cc_entry.specs.Place.{File, Range}
use Rattle.cc_entry.specs.declared.call.Call.{Call}
use Rattle.cc_entry.specs.declared.call.Call.TheVariants as call
use Rattle.cc_entry.specs.declared.reply.Reply.{Reply}
use Rattle.cc_entry.specs.declared.reply.Reply.TheVariants as reply
use Rattle.cc_model.specs.Numbers.{is_empty}
use Rattle.cc_model.specs.History.{Effect, Did, CameIn, WentOut, Began, Ended, Synced}
use Rattle.cc_model.specs.Objects.{objects}
use Rattle.cc_model.specs.Touches.{size_of}
use Rattle.cc_model.specs.Settings.{granularity_of, granularity_after, has_no_read_ahead}
use Rattle.cc_model.specs.ReadAhead.{read_of, kept_with, forgets_reads, reads_of, ahead_of}
use Rattle.cc_stream.specs.Stream.{is_done}
use Rattle.cc_ahead.specs.Kept.{ObjectReads, unused, kept_of, PrivateStands}
use Rattle.cc_ahead.specs.After.{kept_after, with_object_changed, without_reads, with_read, with_granularity, SaysOpen}
use Rattle.cc_ahead.specs.Request.{request_after}
use Rattle.cc_ahead.proofs.KeptSteps.{kept_of-begun, kept_of-changed, take-two, is_sequential-take, forgets-open, forgets-closed}

-- a stream of which nothing happened
pub stands-begun : PrivateStands [] (replicate 16 unused)
unfolding granularity_of reads_of
stands-begun =
    record {
      granularity = λ k below. ap (λ (m : ObjectReads). m.granularity) (kept_of-begun 16 k);
      reads = λ k below. ap (λ (m : ObjectReads). m.reads) (kept_of-begun 16 k);
    }

-- what is no call that was done leaves what is kept as it was
pub stands-other : (e : Effect) (h : List Effect) (maps : List ObjectReads) → is_done e ≡ false → PrivateStands h maps → PrivateStands (e ∷ h) maps
unfolding granularity_of reads_of
stands-other (Did pass call reply) h maps other stands = cc
stands-other (CameIn pass page from_disk) h maps other stands = record { granularity = stands.granularity; reads = stands.reads }
stands-other (WentOut pass page) h maps other stands = record { granularity = stands.granularity; reads = stands.reads }
stands-other (Began pass page) h maps other stands = record { granularity = stands.granularity; reads = stands.reads }
stands-other (Ended pass page how) h maps other stands = record { granularity = stands.granularity; reads = stands.reads }
stands-other (Synced pass how) h maps other stands = record { granularity = stands.granularity; reads = stands.reads }

-- the granularity of an object after a change of one
granularity-changed : (maps : List ObjectReads) (n k : ℕ) (change : ObjectReads → ObjectReads) → k < length maps → ((kept : ObjectReads) → (change kept).granularity ≡ kept.granularity) → (kept_of (with_object_changed maps n change) k).granularity ≡ (kept_of maps k).granularity
granularity-changed maps n k change below keeps = ap (λ (m : ObjectReads). m.granularity) (kept_of-changed maps n k change below) ∙ go (n == k)
  where
    go : (b : Bool) → (if b then change (kept_of maps k) else kept_of maps k).granularity ≡ (kept_of maps k).granularity
    go true = keeps (kept_of maps k)
    go false = refl

granularity-with_read : (at len : ℕ) (kept : ObjectReads) → (with_read at len kept).granularity ≡ kept.granularity
granularity-with_read at len kept = go (len == 0)
  where
    go : (b : Bool) → (if b then kept else record kept { reads = take 2 (record { from = at; to = at + len } ∷ kept.reads) }).granularity ≡ kept.granularity
    go true = refl
    go false = refl

granularity-with_granularity : (maps : List ObjectReads) (n k bytes : ℕ) → k < length maps → (kept_of (with_object_changed maps n (with_granularity bytes)) k).granularity ≡ (if n == k then bytes else (kept_of maps k).granularity)
granularity-with_granularity maps n k bytes below = ap (λ (m : ObjectReads). m.granularity) (kept_of-changed maps n k (with_granularity bytes) below) ∙ go (n == k)
  where
    go : (b : Bool) → (if b then with_granularity bytes (kept_of maps k) else kept_of maps k).granularity ≡ (if b then bytes else (kept_of maps k).granularity)
    go true = refl
    go false = refl

granularity-after : (call : Call) (r : Reply) (was_open : Bool) (maps : List ObjectReads) (k : ℕ) → k < length maps → (kept_of (kept_after call r was_open maps) k).granularity ≡ granularity_after k call (kept_of maps k).granularity
granularity-after (call.Initialise file sizes quota temporary) r true maps k below = refl
granularity-after (call.Initialise file sizes quota temporary) r false maps k below = granularity-changed maps file.object k without_reads below (λ kept. refl)
granularity-after (call.Uninitialise file truncate) r was_open maps k below = granularity-changed maps file.object k without_reads below (λ kept. refl)
granularity-after (call.CopyRead file at len wait) (reply.Read bytes) was_open maps k below = granularity-changed maps file.object k (with_read at (length bytes)) below (granularity-with_read at (length bytes))
granularity-after (call.SetGranularity file bytes) r was_open maps k below = granularity-with_granularity maps file.object k bytes below
granularity-after other r was_open maps k below = refl

-- the last two reads of an object after a change of one
reads-without : (maps : List ObjectReads) (n k : ℕ) (reads : List Range) → k < length maps → (kept_of maps k).reads ≡ take 2 reads → (kept_of (with_object_changed maps n without_reads) k).reads ≡ take 2 (if n == k then [] else reads)
reads-without maps n k reads below same = ap (λ (m : ObjectReads). m.reads) (kept_of-changed maps n k without_reads below) ∙ go (n == k)
  where
    go : (b : Bool) → (if b then without_reads (kept_of maps k) else kept_of maps k).reads ≡ take 2 (if b then [] else reads)
    go true = refl
    go false = same

reads-with : (maps : List ObjectReads) (n k at : ℕ) (bytes : List ℕ) (reads : List Range) → k < length maps → (kept_of maps k).reads ≡ take 2 reads → (kept_of (with_object_changed maps n (with_read at (length bytes))) k).reads ≡ take 2 (kept_with (if n == k && not (is_empty bytes) then Some (record { from = at; to = at + length bytes }) else None) reads)
reads-with maps n k at bytes reads below same = ap (λ (m : ObjectReads). m.reads) (kept_of-changed maps n k (with_read at (length bytes)) below) ∙ go (n == k) bytes
  where
    go : (b : Bool) (bs : List ℕ) → (if b then with_read at (length bs) (kept_of maps k) else kept_of maps k).reads ≡ take 2 (kept_with (if b && not (is_empty bs) then Some (record { from = at; to = at + length bs }) else None) reads)
    go true [] = same
    go true (x ∷ xs) =
        let some : (length (x ∷ xs) == 0) ≡ false = grind arith in
        rw some (ap (λ (rs : List Range). take 2 (record { from = at; to = at + length (x ∷ xs) } ∷ rs)) same ∙ take-two _ reads)
    go false bs = same

reads-with_granularity : (maps : List ObjectReads) (n k bytes : ℕ) → k < length maps → (kept_of (with_object_changed maps n (with_granularity bytes)) k).reads ≡ (kept_of maps k).reads
reads-with_granularity maps n k bytes below = ap (λ (m : ObjectReads). m.reads) (kept_of-changed maps n k (with_granularity bytes) below) ∙ go (n == k)
  where
    go : (b : Bool) → (if b then with_granularity bytes (kept_of maps k) else kept_of maps k).reads ≡ (kept_of maps k).reads
    go true = refl
    go false = refl

reads-after : (call : Call) (r : Reply) (was_open : Bool) (maps : List ObjectReads) (k : ℕ) (reads : List Range) (opened : List ℕ) → k < length maps → SaysOpen was_open call opened → (kept_of maps k).reads ≡ take 2 reads → (kept_of (kept_after call r was_open maps) k).reads ≡ take 2 (if forgets_reads k call opened then [] else kept_with (read_of k call r) reads)
reads-after (call.Initialise file sizes quota temporary) r true maps k reads opened below says same =
    rw (forgets-open file.object k opened says) same
reads-after (call.Initialise file sizes quota temporary) r false maps k reads opened below says same =
    rw (forgets-closed file.object k opened says) (reads-without maps file.object k reads below same)
reads-after (call.Uninitialise file truncate) r was_open maps k reads opened below says same = reads-without maps file.object k reads below same
reads-after (call.CopyRead file at len wait) (reply.Read bytes) was_open maps k reads opened below says same = reads-with maps file.object k at bytes reads below same
reads-after (call.SetGranularity file bytes) r was_open maps k reads opened below says same = reads-with_granularity maps file.object k bytes below ∙ same
reads-after other r was_open maps k reads opened below says same = same

-- a call that was done
pub stands-done : (call : Call) (r : Reply) (was_open : Bool) (maps : List ObjectReads) → length maps ≡ 16 → (h : List Effect) (pass : ℕ) → PrivateStands h maps → SaysOpen was_open call (objects h) → PrivateStands (Did pass call r ∷ h) (kept_after call r was_open maps)
unfolding granularity_of reads_of
stands-done call r was_open maps sixteen h pass stands says =
    record {
      granularity = λ k below. granularity-after call r was_open maps k (omega arith) ∙ ap (granularity_after k call) (stands.granularity k below);
      reads = λ k below. reads-after call r was_open maps k (reads_of k h) (objects h) (omega arith) says (stands.reads k below);
    }

-- the request that a read leads to
pub request_after-is : (maps : List ObjectReads) (h : List Effect) (file : File) (at len : ℕ) (no_read_ahead : Bool) (size : ℕ) → file.object < 16 → PrivateStands h maps → no_read_ahead ≡ has_no_read_ahead h → size ≡ size_of h → request_after (kept_of maps file.object) file at len no_read_ahead size ≡ ahead_of h file at len
unfolding ahead_of
request_after-is maps h file at len no_read_ahead size below stands off sizes =
    rw (stands.granularity file.object below, stands.reads file.object below, is_sequential-take at (reads_of file.object h), off, sizes) refl
