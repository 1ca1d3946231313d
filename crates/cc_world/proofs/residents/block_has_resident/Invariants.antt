use Rattle.std.specs.Prelude.{◌≡◌, ℕ, ◌+◌, ◌*◌, ◌<◌, ◌≤◌, true, false, List, Option}
use Rattle.cc_entry.specs.declared.entry.Entry.{Entry}
use Rattle.cc_book.specs.Book.{BookStands}
use Rattle.cc_model.specs.History.{history}
use Rattle.cc_model.specs.Ranges.{span_has}
use Rattle.cc_model.specs.Residency.{is_resident}
use Rattle.cc_world.proofs.residents.block_has_resident.Given as goal

abbrev pub invariant-loop-offset : goal.invariant-loop-offset
invariant-loop-offset l =
    (opening : Option (ℕ → List ℕ)) (past : List Entry) → BookStands opening past l.book → (p : ℕ) → 64 * l.block ≤ p → p < 64 * l.block + l.offset →
    span_has l.span p ≡ true → is_resident (history past l.book.stream) p ≡ false
