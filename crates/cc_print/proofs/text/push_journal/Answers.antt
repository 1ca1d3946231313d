use Rattle.std.proofs.Common.{◌<◌, ◌++◌, length, codes, string_bytes, ap, ◌∙◌, append_assoc, arith}
use Rattle.std.proofs.lemmas.Bool.Decides.{nat_tests}
use Rattle.cc_print.specs.Text.{journal_from}
use Rattle.cc_print.proofs.Sections.{journal_section}
use Rattle.cc_print.proofs.text.push_journal.Goals as goal

pub returns-in_ok-push_journal_lines : goal.returns-in_ok-push_journal_lines
returns-in_ok-push_journal_lines c =
    let text = string_bytes c.args.text.now in
    let lines = journal_from c.args.streams.now 1 c.args.journal.now in
    let some : 0 < length c.args.journal.now = grind (arith, nat_tests, c.is_empty.ensures, c.if-not-is_empty.true) in
    c.in_ok-push_journal_lines.ensures
    ∙ ap (λ before. before ++ lines) c.in_ok-push_str.ensures.bytes
    ∙ append_assoc text (codes "journal\n") lines
    ∙ ap (λ behind. text ++ behind) (journal_section c.args.streams.now c.args.journal.now some)
