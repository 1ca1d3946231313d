use Rattle.std.specs.Prelude.{◌≡◌, ℕ, ◌+◌, ◌-◌, ◌≤◌, true, List, Option, length}
use Rattle.cc_entry.specs.declared.entry.Entry.{Entry}
use Rattle.cc_model.specs.History.{history}
use Rattle.cc_model.specs.Ranges.{cut_range}
use Rattle.cc_model.specs.Residency.{all_resident}
use Rattle.cc_model.specs.Touches.{size_of}
use Rattle.cc_book.specs.Book.{BookStands}
use Rattle.cc_book.specs.Read.{IsPartOf}
use Rattle.cc_book.proofs.book.Book.read.Given as goal

abbrev pub invariant-loop-next : goal.invariant-loop-next
invariant-loop-next l = record {
  so_far : l.at + length l.bytes.items ≡ l.next;
  within : length l.bytes.items ≤ l.end - l.at;
  bytes : (opening : Option (ℕ → List ℕ)) (past : List Entry) → BookStands opening past l.self → all_resident (history past l.self.stream) (cut_range (size_of (history past l.self.stream)) l.at l.len) ≡ true → IsPartOf opening (history past l.self.stream) l.at l.bytes.items;
}

abbrev pub decreases-loop-next : goal.decreases-loop-next
decreases-loop-next l = l.end - l.next
