-- In which stream a hold is open, as the books of the rows tell it one after the other.
use Rattle.std.specs.Prelude.{◌≡◌, ℕ, zero, suc, ◌+◌, ◌<◌, ◌≤◌, Bool, true, false, nat_lt, is_some, List, [], length, slice_get, slice_index_or, refl}
use Rattle.std.specs.List.{find, range_with_len}
use Rattle.std.specs.Option.{option_map}
use Rattle.std.specs.declared.option.Option.{Option}
use Rattle.std.specs.declared.option.Option.TheVariants.{Some, None}
use Rattle.std.proofs.Common.{ap, sym, ◌∙◌, arith}
use Rattle.std.proofs.lemmas.Bool.{ltb-true, ltb-false}
use Rattle.std.proofs.lemmas.Option.{slice_get-get_or}
use Rattle.cc_entry.specs.declared.entry.Entry.{Entry}
use Rattle.cc_entry.specs.declared.hold.HoldRow.{HoldRow}
use Rattle.cc_book.specs.Book.{BookStands}
use Rattle.cc_holds.specs.Stands.{shown, shown_row}
use Rattle.cc_model.specs.History.{history}
use Rattle.cc_model.specs.Holds.{hold_at, holds_of}
use Rattle.cc_world.specs.Filing.{AreBooks}
use Rattle.cc_effects.specs.Events.{holder_of}
use Rattle.cc_world.specs.declared.rows.StreamRow.{StreamRow}

-- whether a hold is open in a stream
abbrev pub is_open_in : List Entry → ℕ → ℕ → Bool
is_open_in past hold s = is_some (hold_at (holds_of (history past s)) hold)

-- The first of some numbers that passes a test, where none before it does; and none of them.
find-first : (test : ℕ → Bool) (from count at : ℕ) → from ≤ at → at < from + count → test at ≡ true → ((m : ℕ) → m < at → test m ≡ false) → find test (range_with_len from count) ≡ Some at
find-first test from zero at least most is before = absurd (omega (arith, least, most))
find-first test from (suc count) at least most is before =
    go (nat_lt from at) refl (λ below. find-first test (from + 1) count at (omega (arith, below)) (omega (arith, most)) is before)
  where
    same : (a b : ℕ) → a ≤ b → b ≤ a → a ≡ b
    same a b le ge = omega (arith, le, ge)

    go : (b : Bool) → nat_lt from at ≡ b → (from < at → find test (range_with_len (from + 1) count) ≡ Some at) → find test (range_with_len from (suc count)) ≡ Some at
    go true less further =
        let below : from < at = ltb-true from at less in
        rw (before from below) (further below)
    go false more further =
        let here : from ≡ at = same from at least (ltb-false from at more) in
        rw (here, is) refl

find-none : (test : ℕ → Bool) (from count : ℕ) → ((m : ℕ) → test m ≡ false) → find test (range_with_len from count) ≡ None
find-none test from zero none = refl
find-none test from (suc count) none = rw (none from) (find-none test (from + 1) count none)

-- what two show that show the same is there, or neither is
both-there : {A B C : Type 0} (f : A → C) (g : B → C) (a : Option A) (b : Option B) → option_map f a ≡ option_map g b → is_some a ≡ is_some b
both-there f g None None same = refl
both-there f g None (Some b) same = absurd (cc)
both-there f g (Some a) None same = absurd (cc)
both-there f g (Some a) (Some b) same = refl

none-held : (hold : ℕ) → is_some (hold_at (holds_of []) hold) ≡ false
unfolding holds_of
none-held hold = refl

module _ {D : Type 0} (past : List Entry) (rows : List (StreamRow D)) (are : AreBooks past rows) (hold : ℕ) where
  -- the row at a place
  module _ (at : ℕ) (row : StreamRow D) (within : at < length rows) (is : row ≡ slice_index_or rows at row) where
    there : slice_get rows at ≡ Some row
    there = slice_get-get_or rows at row within ∙ ap (λ (r : StreamRow D). Some r) (sym is)

    pub of-stream : row.book.stream ≡ at
    of-stream = are.stream at row there

    -- its book tells whether the hold is open in its stream
    pub told-by-book : (found : Option HoldRow) → ((opening : Option (ℕ → List ℕ)) (past : List Entry) → BookStands opening past row.book → option_map shown_row found ≡ option_map shown (hold_at (holds_of (history past row.book.stream)) hold)) → is_some found ≡ is_open_in past hold at
    told-by-book found tells =
        let stands = are.stands at row there in
        both-there shown_row shown found _ (tells stands.0 past stands.1)
        ∙ ap (λ (s : ℕ). is_open_in past hold s) of-stream

    -- the hold is open in no stream before it, and in this one
    pub found-here : is_open_in past hold at ≡ true → ((s : ℕ) → s < at → is_open_in past hold s ≡ false) → Some row.book.stream ≡ holder_of past hold
    found-here is_there before =
        ap (λ (s : ℕ). Some s) of-stream
        ∙ sym (find-first (is_open_in past hold) 0 16 at (omega arith) (omega (arith, within, are.few)) is_there before)

  -- it is open in the stream of no row, so in none
  pub found-nowhere : ((s : ℕ) → s < length rows → is_open_in past hold s ≡ false) → None ≡ holder_of past hold
  found-nowhere none = sym (find-none (is_open_in past hold) 0 16 (λ s. by s (nat_lt s (length rows)) refl))
    where
      by : (s : ℕ) (b : Bool) → nat_lt s (length rows) ≡ b → is_open_in past hold s ≡ false
      by s true below = none s (ltb-true s (length rows) below)
      by s false beyond = ap (λ h. is_some (hold_at (holds_of h) hold)) (are.beyond s (ltb-false s (length rows) beyond)) ∙ none-held hold

-- one more place, in whose stream the hold is not open
pub not-below : (past : List Entry) (hold at next : ℕ) → next ≡ at + 1 → is_open_in past hold at ≡ false → ((s : ℕ) → s < at → is_open_in past hold s ≡ false) → (s : ℕ) → s < next → is_open_in past hold s ≡ false
not-below past hold at next is closed before s below = go (nat_lt s at) refl
  where
    same : (a b : ℕ) → b ≤ a → a < next → next ≡ b + 1 → a ≡ b
    same a b least less more = omega (arith, least, less, more)

    go : (b : Bool) → nat_lt s at ≡ b → is_open_in past hold s ≡ false
    go true less = before s (ltb-true s at less)
    go false least = ap (λ (n : ℕ). is_open_in past hold n) (same s at (ltb-false s at least) below is) ∙ closed
