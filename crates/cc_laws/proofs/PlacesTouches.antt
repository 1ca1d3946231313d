-- A touch of a page is a change of a byte of it, or a set-dirty whose hold has it.
use Rattle.std.specs.Prelude.{◌≡◌, ℕ, ◌+◌, ◌*◌, ◌<◌, ◌≤◌, true, ◌⊎◌, ◌↔◌, nat_lt, max, List, length}
use Rattle.std.proofs.Common.{arith, inl, inr}
use Rattle.std.proofs.lemmas.Bool.{and_parts, and_from, ltb-true, lt-ltb, le-leb}
use Rattle.cc_entry.specs.Place.{Range}
use Rattle.cc_entry.specs.Pages.{has_byte, has_page}
use Rattle.cc_model.specs.History.{Effect, Did, CameIn, WentOut, Began, Ended, Synced}
use Rattle.cc_model.specs.Acts.{Act, act_of, Opens, Closes, Resizes, Writes, Zeroes, Stores, Stamps, Discards, Looks}
use Rattle.cc_model.specs.Sizes.{stored_range}
use Rattle.cc_model.specs.Touches.{size_of}
use Rattle.cc_laws.specs.ByPlaces.{act_touches, act_changes, touches_page}
use Rattle.cc_laws.specs.ByPlacesDirty.{ChangedByte, act_stamps, stamps_page}
use Rattle.cc_laws.proofs.CoveredBytes.{has_page-byte}

-- a byte of the page that the range has
record InRange (r : Range) (p : ℕ) : Type 0 where
  byte : ℕ
  low : 4096 * p ≤ byte
  high : byte < 4096 * p + 4096
  has : has_byte r byte ≡ true

InRange-page : (r : Range) (p : ℕ) → has_page r p ≡ true → InRange r p
InRange-page r p has =
    let a = and_parts (nat_lt r.from r.to) _ has in
    let b = and_parts (nat_lt r.from (4096 * p + 4096)) _ a.1 in
    let some : r.from < r.to = ltb-true _ _ a.0 in
    let before : r.from < 4096 * p + 4096 = ltb-true _ _ b.0 in
    let after : 4096 * p < r.to = ltb-true _ _ b.1 in
    record { byte = max r.from (4096 * p); low = omega arith; high = omega arith; has = and_from _ _ (le-leb r.from (max r.from (4096 * p)) (omega arith)) (lt-ltb (max r.from (4096 * p)) r.to (omega arith)) }

-- of an act: what changes a byte of the page, and what stamps it
record ActChanges (p : ℕ) (a : Act) (h : List Effect) : Type 0 where
  byte : ℕ
  low : 4096 * p ≤ byte
  high : byte < 4096 * p + 4096
  changes_it : act_changes a h byte ≡ true

act-touch : (a : Act) (h : List Effect) (p : ℕ) → act_touches a h p ≡ true → ActChanges p a h ⊎ (act_stamps p a h ≡ true)
act-touch (Opens file given quota temporary) h p is = absurd (cc)
act-touch (Closes file truncate) h p is = absurd (cc)
act-touch (Resizes allocation size) h p is = absurd (cc)
act-touch (Writes at bytes) h p is = let k = InRange-page (record { from = at; to = at + length bytes }) p is in inl (record { byte = k.byte; low = k.low; high = k.high; changes_it = k.has })
act-touch (Zeroes from to) h p is = let k = InRange-page (record { from = from; to = to }) p is in inl (record { byte = k.byte; low = k.low; high = k.high; changes_it = k.has })
act-touch (Stores page bytes) h p is = let k = InRange-page (stored_range page (size_of h)) p is in inl (record { byte = k.byte; low = k.low; high = k.high; changes_it = k.has })
act-touch (Stamps hold lsn) h p is = inr is
act-touch (Discards span) h p is = absurd (cc)
act-touch Looks h p is = absurd (cc)

changes-touch : (a : Act) (h : List Effect) (p i : ℕ) → 4096 * p ≤ i → i < 4096 * p + 4096 → act_changes a h i ≡ true → act_touches a h p ≡ true
changes-touch (Opens file given quota temporary) h p i low high is = absurd (cc)
changes-touch (Closes file truncate) h p i low high is = absurd (cc)
changes-touch (Resizes allocation size) h p i low high is = absurd (cc)
changes-touch (Writes at bytes) h p i low high is = has_page-byte (record { from = at; to = at + length bytes }) p i low high is
changes-touch (Zeroes from to) h p i low high is = has_page-byte (record { from = from; to = to }) p i low high is
changes-touch (Stores page bytes) h p i low high is = has_page-byte (stored_range page (size_of h)) p i low high is
changes-touch (Stamps hold lsn) h p i low high is = absurd (cc)
changes-touch (Discards span) h p i low high is = absurd (cc)
changes-touch Looks h p i low high is = absurd (cc)

stamps-touch : (a : Act) (h : List Effect) (p : ℕ) → act_stamps p a h ≡ true → act_touches a h p ≡ true
stamps-touch (Opens file given quota temporary) h p is = absurd (cc)
stamps-touch (Closes file truncate) h p is = absurd (cc)
stamps-touch (Resizes allocation size) h p is = absurd (cc)
stamps-touch (Writes at bytes) h p is = absurd (cc)
stamps-touch (Zeroes from to) h p is = absurd (cc)
stamps-touch (Stores page bytes) h p is = absurd (cc)
stamps-touch (Stamps hold lsn) h p is = is
stamps-touch (Discards span) h p is = absurd (cc)
stamps-touch Looks h p is = absurd (cc)

there_is : (e : Effect) (h : List Effect) (p : ℕ) → touches_page p e h ≡ true → ChangedByte p e h ⊎ (stamps_page p e h ≡ true)
there_is (Did pass call reply) h p is = go (act-touch (act_of call) h p is)
  where
    go : ActChanges p (act_of call) h ⊎ (act_stamps p (act_of call) h ≡ true) → ChangedByte p (Did pass call reply) h ⊎ (stamps_page p (Did pass call reply) h ≡ true)
    go (inl k) = inl (record { byte = k.byte; low = k.low; high = k.high; changes_it = k.changes_it })
    go (inr stamped) = inr stamped
there_is (CameIn pass page from_disk) h p is = absurd (cc)
there_is (WentOut pass page) h p is = absurd (cc)
there_is (Began pass page) h p is = absurd (cc)
there_is (Ended pass page how) h p is = absurd (cc)
there_is (Synced pass how) h p is = absurd (cc)

touched : (e : Effect) (h : List Effect) (p : ℕ) → ChangedByte p e h ⊎ (stamps_page p e h ≡ true) → touches_page p e h ≡ true
touched (Did pass call reply) h p (inl k) = changes-touch (act_of call) h p k.byte k.low k.high k.changes_it
touched (Did pass call reply) h p (inr is) = stamps-touch (act_of call) h p is
touched (CameIn pass page from_disk) h p (inl k) = k.changes_it
touched (CameIn pass page from_disk) h p (inr is) = is
touched (WentOut pass page) h p (inl k) = k.changes_it
touched (WentOut pass page) h p (inr is) = is
touched (Began pass page) h p (inl k) = k.changes_it
touched (Began pass page) h p (inr is) = is
touched (Ended pass page how) h p (inl k) = k.changes_it
touched (Ended pass page how) h p (inr is) = is
touched (Synced pass how) h p (inl k) = k.changes_it
touched (Synced pass how) h p (inr is) = is

pub touches-places : (e : Effect) (h : List Effect) (p : ℕ) → (touches_page p e h ≡ true) ↔ (ChangedByte p e h ⊎ (stamps_page p e h ≡ true))
touches-places e h p = (there_is e h p, touched e h p)
