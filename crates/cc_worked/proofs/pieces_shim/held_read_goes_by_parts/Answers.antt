-- Each part by its three calls; a wrong read by the calls that it shows.
use Rattle.std.specs.Prelude.{◌≡◌, ℕ, true, false, List, [], ◌∷◌, ◌++◌, Ok, refl}
use Rattle.std.specs.declared.option.Option.TheVariants.{None}
use Rattle.std.proofs.Common.{arith, sym, ◌∙◌}
use Rattle.cc_entry.specs.Place.{Range}
use Rattle.cc_entry.specs.declared.place.FileState.{FileState}
use Rattle.cc_entry.specs.declared.call.Call.{Call}
use Rattle.cc_entry.specs.declared.call.Call.TheVariants as call
use Rattle.cc_entry.specs.declared.reply.Reply.TheVariants as reply
use Rattle.cc_entry.specs.declared.reply.Outcome.TheVariants as outcome
use Rattle.cc_entry.specs.declared.entry.Entry.{Entry}
use Rattle.cc_pieces.specs.Shim.{HoldPath, PartRead, HeldPartsLeft, mapped_path, pinned_path, descriptor_path, parts_of, whole_part}
use Rattle.cc_effects.proofs.Starts.{begins, brings}
use Rattle.cc_effects.proofs.Stretches.{idle-none}
use Rattle.cc_worked.specs.Values.{setup, a, page, sized, read_in}
use Rattle.cc_worked.specs.PiecesReads.{two_pages}
use Rattle.cc_worked.specs.PiecesShim.{two_blocks, says, holds, reads_last, reads_past, stays_mapped, reads_both, reads_first, reads_at_once, pins_both, chains_both, chains_twice, chains_none}
use Rattle.cc_worked.proofs.PiecesOpened.{computed}
use Rattle.cc_worked.proofs.Marks.{Mark, Ended}
use Rattle.cc_worked.proofs.PartMarks.{part_marks, looked_at, parts-shown}
use Rattle.cc_worked.proofs.HeldParts.{part-left}
use Rattle.cc_worked.proofs.StateAsked.{state-told}
use Rattle.cc_worked.proofs.pieces_shim.held_read_goes_by_parts.Goals as goal

-- what a stream of such a size tells
whole : ℕ → FileState
whole size = record { sizes = sized size size; log = None }

-- the parts of the two bytes
first_part : Range
first_part = record { from = 262143; to = 262144 }

second_part : Range
second_part = record { from = 262144; to = 262145 }

pub returns-clause-cut : goal.returns-clause-cut
unfolding computed whole
returns-clause-cut c =
    let asked = says 8192 ++ two_pages in
    let part : Range = record { from = 8191; to = 8192 } in
    let it = call.Map a 8191 1 in (
      asked,
      whole 8192,
      state-told 1 (whole 8192) two_pages,
      (
        reads_last ++ two_pages,
        90 ∷ [],
        [],
        refl,
        part-left (mapped_path a) part 2 1 (90 ∷ []) asked (read_in 1 1 ∷ asked) (brings 1 it asked asked (page 1) true (begins 1 it asked) refl refl refl) refl refl refl (λ during. tt) (λ during. tt),
        (refl, idle-none 1 (reads_last ++ two_pages)),
      ),
    )

-- two parts of such a path, whose calls bring in a page each
both_parts : (path : HoldPath) (piece : List Entry) (between : List Entry) → PartRead setup 1 path first_part (90 ∷ []) (says 524288 ++ two_blocks) between → PartRead setup 1 path second_part (90 ∷ []) between (piece ++ two_blocks) → HeldPartsLeft setup 1 a path parts_of 262143 2 (Ok (90 ∷ 90 ∷ [])) two_blocks (piece ++ two_blocks)
unfolding computed whole first_part second_part
both_parts path piece between first second = (
  says 524288 ++ two_blocks,
  whole 524288,
  state-told 1 (whole 524288) two_blocks,
  (between, 90 ∷ [], 90 ∷ [], refl, first, (piece ++ two_blocks, 90 ∷ [], [], refl, second, (refl, idle-none 1 (piece ++ two_blocks)))),
)

pub returns-clause-both : goal.returns-clause-both
unfolding computed first_part second_part
returns-clause-both c =
    let asked = says 524288 ++ two_blocks in
    let between = reads_first ++ two_blocks in
    let one = call.Map a 262143 1 in
    let other = call.Map a 262144 1 in
    both_parts (mapped_path a) reads_both between
    (part-left (mapped_path a) first_part 2 1 (90 ∷ []) asked (read_in 1 63 ∷ asked) (brings 1 one asked asked (page 63) true (begins 1 one asked) refl refl refl) refl refl refl (λ during. tt) (λ during. tt))
    (part-left (mapped_path a) second_part 5 2 (90 ∷ []) between (read_in 1 64 ∷ between) (brings 1 other between between (page 64) true (begins 1 other between) refl refl refl) refl refl refl (λ during. tt) (λ during. tt))

pub returns-clause-pinned : goal.returns-clause-pinned
unfolding computed first_part second_part
returns-clause-pinned c =
    let asked = says 524288 ++ two_blocks in
    let one = call.PinRead a 262143 1 false in
    let other = call.PinRead a 262144 1 false in
    let between = holds 2 1 one (call.PinnedRead 1 262143 1) (90 ∷ []) ++ read_in 1 63 ∷ asked in
    both_parts (pinned_path a) (pins_both false) between
    (part-left (pinned_path a) first_part 2 1 (90 ∷ []) asked (read_in 1 63 ∷ asked) (brings 1 one asked asked (page 63) true (begins 1 one asked) refl refl refl) refl refl refl (λ during. tt) (λ during. tt))
    (part-left (pinned_path a) second_part 5 2 (90 ∷ []) between (read_in 1 64 ∷ between) (brings 1 other between between (page 64) true (begins 1 other between) refl refl refl) refl refl refl (λ during. tt) (λ during. tt))

pub returns-clause-chained : goal.returns-clause-chained
unfolding computed whole
returns-clause-chained c =
    let asked = says 524288 ++ two_blocks in
    let part : Range = record { from = 262143; to = 262145 } in
    let it = call.MdlRead a 262143 2 in (
      asked,
      whole 524288,
      state-told 1 (whole 524288) two_blocks,
      (
        chains_both ++ two_blocks,
        90 ∷ 90 ∷ [],
        [],
        refl,
        part-left (descriptor_path a) part 2 1 (90 ∷ 90 ∷ []) asked (read_in 1 64 ∷ read_in 1 63 ∷ asked) (brings 1 it asked (read_in 1 63 ∷ asked) (page 64) true (brings 1 it asked asked (page 63) true (begins 1 it asked) refl refl refl) refl refl refl) refl refl refl (λ during. tt) (λ during. tt),
        (refl, idle-none 1 (chains_both ++ two_blocks)),
      ),
    )

pub returns-clause-nothing : goal.returns-clause-nothing
unfolding whole
returns-clause-nothing c =
    (says 8192 ++ two_pages, whole 8192, state-told 1 (whole 8192) two_pages, (refl, idle-none 1 (says 8192 ++ two_pages)))

-- the marks of a hold, as the caller's calls show them
held : ℕ → Call → Call → List ℕ → List Mark
held id make look bytes =
    Ended make (outcome.Done (reply.Hold id)) ∷ Ended look (outcome.Done (reply.Read bytes)) ∷ Ended (call.EndHold id) (outcome.Done reply.Unit) ∷ []

pub returns-clause-not_past_size : goal.returns-clause-not_past_size
unfolding whole held
returns-clause-not_past_size c left =
    let shown = parts-shown setup 1 a (mapped_path a) parts_of 8191 2 (90 ∷ []) (whole 8192) (held 1 (call.Map a 8191 2) (call.MappedRead 1 8191 2) (90 ∷ [])) reads_past two_pages refl left in
    absurd (cc (shown.5))

pub returns-clause-let_go : goal.returns-clause-let_go
unfolding whole
returns-clause-let_go c left =
    let all = Ended (call.Map a 8191 1) (outcome.Done (reply.Hold 1)) ∷ Ended (call.MappedRead 1 8191 1) (outcome.Done (reply.Read (90 ∷ []))) ∷ [] in
    let shown = parts-shown setup 1 a (mapped_path a) parts_of 8191 2 (90 ∷ []) (whole 8192) all stays_mapped two_pages refl left in
    absurd (cc (shown.5))

pub returns-clause-no_part_left_out : goal.returns-clause-no_part_left_out
unfolding whole held
returns-clause-no_part_left_out c left =
    let shown = parts-shown setup 1 a (mapped_path a) parts_of 262143 2 (90 ∷ 90 ∷ []) (whole 524288) (held 1 (call.Map a 262143 1) (call.MappedRead 1 262143 1) (90 ∷ [])) reads_first two_blocks refl left in
    absurd (cc (shown.5, shown.6.5))

pub returns-clause-not_at_once : goal.returns-clause-not_at_once
unfolding whole held
returns-clause-not_at_once c left =
    let shown = parts-shown setup 1 a (mapped_path a) parts_of 262143 2 (90 ∷ 90 ∷ []) (whole 524288) (held 1 (call.Map a 262143 2) (call.MappedRead 1 262143 2) (90 ∷ 90 ∷ [])) reads_at_once two_blocks refl left in
    absurd (cc (shown.5))

-- the second of two bytes
second_differs : ◌≡◌ {A = List ℕ} (90 ∷ 91 ∷ []) (90 ∷ 90 ∷ []) → ⊥
second_differs same = let second : ◌≡◌ {A = ℕ} 91 90 = cc in omega (arith, second)

-- two marks of a hold with what follows tell the same bytes
bytes_of : (path : HoldPath) (r : Range) (id its : ℕ) (bytes other : List ℕ) (ms ns : List Mark) → part_marks path r id (looked_at path r id bytes) ++ ms ≡ part_marks path r its (looked_at path r its other) ++ ns → (bytes ≡ other) × (ms ≡ ns)
bytes_of path r id its bytes other ms ns same = (cc, cc)

pub returns-clause-no_other_bytes : goal.returns-clause-no_other_bytes
unfolding whole held first_part second_part
returns-clause-no_other_bytes c left =
    let all = held 1 (call.Map a 262143 1) (call.MappedRead 1 262143 1) (90 ∷ []) ++ held 2 (call.Map a 262144 1) (call.MappedRead 2 262144 1) (90 ∷ []) in
    let shown = parts-shown setup 1 a (mapped_path a) parts_of 262143 2 (90 ∷ 91 ∷ []) (whole 524288) all reads_both two_blocks refl left in
    let first = bytes_of (mapped_path a) first_part 1 shown.0 (90 ∷ []) shown.1 (held 2 (call.Map a 262144 1) (call.MappedRead 2 262144 1) (90 ∷ [])) shown.3 shown.5 in
    let then = bytes_of (mapped_path a) second_part 2 shown.6.0 (90 ∷ []) shown.6.1 [] shown.6.3 (first.1 ∙ shown.6.5) in
    other shown.1 shown.2 shown.6.1 shown.6.2 shown.4 shown.6.4 (sym first.0) (sym then.0) shown.6.6.0
  where
    other : (xs rest ys more : List ℕ) → 90 ∷ 91 ∷ [] ≡ xs ++ rest → rest ≡ ys ++ more → xs ≡ 90 ∷ [] → ys ≡ 90 ∷ [] → more ≡ [] → ⊥
    other xs rest ys more whole_is rest_is xs_is ys_is more_is =
        let all_is : ◌≡◌ {A = List ℕ} (90 ∷ 91 ∷ []) ((90 ∷ []) ++ ((90 ∷ []) ++ [])) = rw (rest_is, xs_is, ys_is, more_is) at whole_is in
        second_differs all_is

pub returns-clause-shared : goal.returns-clause-shared
unfolding whole held
returns-clause-shared c left =
    let all = held 1 (call.PinRead a 262143 1 true) (call.PinnedRead 1 262143 1) (90 ∷ []) ++ held 2 (call.PinRead a 262144 1 true) (call.PinnedRead 2 262144 1) (90 ∷ []) in
    let shown = parts-shown setup 1 a (pinned_path a) parts_of 262143 2 (90 ∷ 90 ∷ []) (whole 524288) all (pins_both true) two_blocks refl left in
    other shown.0 _ _ _ shown.5
  where
    other : (id : ℕ) (m : Mark) (ms ns : List Mark) → Ended (call.PinRead a 262143 1 true) (outcome.Done (reply.Hold 1)) ∷ m ∷ ms ≡ Ended (call.PinRead a 262143 1 false) (outcome.Done (reply.Hold id)) ∷ ns → ⊥
    other id m ms ns same = absurd (cc)

pub returns-clause-one_chain : goal.returns-clause-one_chain
unfolding whole held
returns-clause-one_chain c left =
    let all = held 1 (call.MdlRead a 262143 1) (call.MdlBytes 1 262143 1) (90 ∷ []) ++ held 2 (call.MdlRead a 262144 1) (call.MdlBytes 2 262144 1) (90 ∷ []) in
    let shown = parts-shown setup 1 a (descriptor_path a) whole_part 262143 2 (90 ∷ 90 ∷ []) (whole 524288) all chains_twice two_blocks refl left in
    other shown.0 _ _ _ shown.5
  where
    other : (id : ℕ) (m : Mark) (ms ns : List Mark) → Ended (call.MdlRead a 262143 1) (outcome.Done (reply.Hold 1)) ∷ m ∷ ms ≡ Ended (call.MdlRead a 262143 2) (outcome.Done (reply.Hold id)) ∷ ns → ⊥
    other id m ms ns same = absurd (cc)

pub returns-clause-no_empty_chain : goal.returns-clause-no_empty_chain
unfolding whole held
returns-clause-no_empty_chain c left =
    let shown = parts-shown setup 1 a (descriptor_path a) whole_part 8192 1 [] (whole 8192) (held 1 (call.MdlRead a 8192 0) (call.MdlBytes 1 8192 0) []) chains_none two_pages refl left in
    absurd (cc (shown.1))
