-- Changes that are made once more make nothing else.
use Rattle.std.specs.Prelude.{◌≡◌, ℕ, zero, suc, ◌+◌, ◌-◌, ◌*◌, ◌≤◌, ◌&&◌, nat_le, nat_lt, Bool, true, false, slice_index, List, [], ◌∷◌, drop, take, if◌then◌else◌, refl}
use Rattle.std.specs.declared.option.Option.{Option}
use Rattle.std.specs.declared.option.Option.TheVariants.{Some, None}
use Rattle.std.proofs.Common.{ap, sym, ◌∙◌, arith}
use Rattle.cc_redo.specs.declared.redo.Redo.{Redo}
use Rattle.cc_redo.specs.declared.scan.ReadEntry.{ReadEntry}
use Rattle.cc_redo.specs.Heard.{Change, change_said, end_of_change, raised_by_change, valid_behind}
use Rattle.cc_redo.specs.Changes.{byte_after, bytes_after, page_after}
use Rattle.cc_redo.proofs.Patches.{after-cons, after-none}

-- a byte that a change covers is the same whatever stood there, and one that it does not cover goes on
once_more : (covers : Bool) (own byte : ℕ) (after front : ℕ → ℕ) → ((b : ℕ) → after (front b) ≡ after b) →
    after (if covers then own else front (if covers then own else byte)) ≡ after (if covers then own else byte)
once_more true own byte after front rest = refl
once_more false own byte after front rest = rest byte

byte-again : (changes : List Change) (n page place byte : ℕ) →
    byte_after changes page place (byte_after (take n changes) page place byte) ≡ byte_after changes page place byte
byte-again [] zero page place byte = refl
byte-again [] (suc n) page place byte = refl
byte-again (change ∷ changes) zero page place byte = refl
byte-again (change ∷ changes) (suc n) page place byte =
    once_more
    (nat_lt place 4096 && (nat_le change.at (4096 * page + place) && nat_lt (4096 * page + place) (end_of_change change)))
    (slice_index change.bytes (4096 * page + place - change.at))
    byte
    (byte_after changes page place) (byte_after (take n changes) page place) (byte-again changes n page place)

bytes-again : (changes : List Change) (n page place : ℕ) (bytes : List ℕ) →
    bytes_after changes page place (bytes_after (take n changes) page place bytes) ≡ bytes_after changes page place bytes
unfolding bytes_after
bytes-again changes n page place [] = refl
bytes-again changes n page place (byte ∷ bytes) =
    let first = byte-again changes n page place byte in
    let rest = bytes-again changes n page (place + 1) bytes in
    rw (first, rest) refl

pub page-again : (changes : List Change) (n page : ℕ) (bytes : List ℕ) →
    page_after changes page (page_after (take n changes) page bytes) ≡ page_after changes page bytes
page-again changes n page bytes = bytes-again changes n page 0 bytes

-- changes from one on, over a page that has all before it, and maybe some of them
pub page-from : (changes : List Change) (k n page : ℕ) (bytes : List ℕ) → k ≤ n →
    page_after (drop k changes) page (page_after (take n changes) page bytes) ≡ page_after changes page bytes
page-from changes zero n page bytes le = page-again changes n page bytes
page-from changes (suc k) zero page bytes le = absurd (omega arith)
page-from [] (suc k) (suc n) page bytes le = after-none page 0 (page_after [] page bytes)
page-from (change ∷ changes) (suc k) (suc n) page bytes le =
    let here : List ℕ = page_after (change ∷ []) page bytes in
    ap (λ (l : List ℕ). page_after (drop k changes) page l) (after-cons change (take n changes) page 0 bytes)
    ∙ page-from changes k n page here (omega arith)
    ∙ sym (after-cons change changes page 0 bytes)

-- the same of the greatest of a number and the ends of changes
raised-least : (valid : ℕ) (change : Option Change) → valid ≤ raised_by_change valid change
raised-least valid None = omega arith
raised-least valid (Some change) = omega arith

raised-again : (reached valid : ℕ) (change : Option Change) → raised_by_change valid change ≤ reached → raised_by_change reached change ≡ reached
raised-again reached valid None h = refl
raised-again reached valid (Some change) h = omega arith

behind-least : (entries : List ReadEntry) (redo : Redo) (valid : ℕ) → valid ≤ valid_behind entries redo valid
behind-least [] redo valid = omega arith
behind-least (entry ∷ entries) redo valid =
    let first = raised-least valid (change_said redo entry.says) in
    let rest = behind-least entries redo (raised_by_change valid (change_said redo entry.says)) in
    omega arith

pub valid-again : (entries : List ReadEntry) (redo : Redo) (valid : ℕ) →
    valid_behind entries redo (valid_behind entries redo valid) ≡ valid_behind entries redo valid
valid-again [] redo valid = refl
valid-again (entry ∷ entries) redo valid =
    let here = raised_by_change valid (change_said redo entry.says) in
    let reached = valid_behind entries redo here in
    let same : raised_by_change reached (change_said redo entry.says) ≡ reached =
    raised-again reached valid (change_said redo entry.says) (behind-least entries redo here) in
    ap (λ (v : ℕ). valid_behind entries redo v) same ∙ valid-again entries redo here
