use Rattle.std.specs.Prelude.{◌≡◌, ℕ, ◌++◌, List, length}
use Rattle.std.proofs.Common.{ap, sym, subst, ◌∙◌}
use Rattle.cc_entry.specs.declared.entry.Entry.{Entry}
use Rattle.cc_model.specs.History.{history}
use Rattle.cc_journal.specs.Rows.{oldest_unwritten}
use Rattle.cc_journal.specs.Since.{is_past, is_settled_page}
use Rattle.cc_journal.proofs.Since.{touches-since}
use Rattle.cc_journal.proofs.oldest.is_settled_since.Goals as goal

pub returns : goal.returns
returns g c later front is long =
    let q = c.args.page in
    let seen = length (history front q.stream) in
    c.is_past.ensures
    ∙ (ap (is_past c.args.entries) c.oldest_unwritten.ensures
    ∙ subst (λ (past : List Entry). is_past c.args.entries (oldest_unwritten past q) ≡ is_settled_page seen (history past q.stream) q.page) (sym is)
    (subst (λ (n : ℕ). is_past n (oldest_unwritten (later ++ front) q) ≡ is_settled_page seen (history (later ++ front) q.stream) q.page) long (touches-since later front q.stream q.page)))
