use Rattle.std.specs.Prelude.{ℕ, List, Option}
use Rattle.std.proofs.Common.{take}
use Rattle.cc_entry.specs.declared.entry.Entry.{Entry}
use Rattle.cc_book.specs.Book.{BookStands}
use Rattle.cc_model.specs.History.{history}
use Rattle.cc_world.proofs.BlockRows.{NoneIn}
use Rattle.cc_world.proofs.residents.has_resident.Given as goal

-- no page of the span is resident that is of a block so far
abbrev pub invariant-loop-place : goal.invariant-loop-place
invariant-loop-place l =
    (opening : Option (ℕ → List ℕ)) (past : List Entry) → BookStands opening past l.book →
    NoneIn (history past l.book.stream) l.book.stream l.span (take l.place-index l.place-items)
