-- A section of the journal has its heading where there is an entry.
use Rattle.std.proofs.Common.{◌≡◌, ℕ, ◌<◌, List, [], ◌∷◌, ◌++◌, length, codes, decimal, refl, sym, ap, ◌∙◌, append_assoc, arith}
use Rattle.cc_entry.specs.declared.entry.Entry.{Entry}
use Rattle.cc_script.specs.declared.script.StreamLine.{StreamLine}
use Rattle.cc_print.specs.Append.{◌&◌}
use Rattle.cc_print.specs.Text.{section, journal_from}
use Rattle.cc_print.specs.Entries.{entry_text}
use Rattle.cc_print.specs.Trace.{newline}

-- lines among which there is a byte
some_section : (heading front back : List ℕ) (byte : ℕ) → section heading (front ++ byte ∷ back) ≡ heading & newline & (front ++ byte ∷ back)
some_section heading [] back byte = refl
some_section heading (first ∷ front) back byte = refl

-- the first line has a space behind its number
pub journal_section : (streams : List StreamLine) (journal : List Entry) → 0 < length journal → codes "journal\n" ++ journal_from streams 1 journal ≡ section (codes "journal") (journal_from streams 1 journal)
journal_section streams [] some = absurd (omega arith)
journal_section streams (entry ∷ entries) some =
    let back = entry_text streams entry & newline in
    let lines = journal_from streams 2 entries in
    let split : journal_from streams 1 (entry ∷ entries) ≡ decimal 1 ++ 32 ∷ (back ++ lines) = append_assoc (decimal 1) (32 ∷ back) lines in
    ap (λ text. codes "journal\n" ++ text) split
    ∙ sym (some_section (codes "journal") (decimal 1) (back ++ lines) 32)
    ∙ sym (ap (λ text. section (codes "journal") text) split)
