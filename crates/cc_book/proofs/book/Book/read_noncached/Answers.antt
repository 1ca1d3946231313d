-- By where the page starts and whether it is resident: at the size or past it no byte is read, of a resident page those
-- of its frame, else those that the disk gave.
use Rattle.std.specs.Prelude.{◌≡◌, ◌<◌, ◌*◌, ℕ, true, is_some, List}
use Rattle.std.proofs.Common.{ap, sym, ◌∙◌, subst}
use Rattle.std.proofs.lemmas.Result.{IfOk-weaker}
use Rattle.cc_entry.specs.declared.reply.Reply.TheVariants as reply
use Rattle.cc_model.specs.History.{history}
use Rattle.cc_model.specs.Ranges.{cut_range}
use Rattle.cc_model.specs.Replies.{Reads}
use Rattle.cc_model.specs.Residency.{all_resident}
use Rattle.cc_model.specs.Touches.{size_of}
use Rattle.cc_book.proofs.NoncachedReads.{reads-none, one-resident}
use Rattle.cc_book.proofs.book.Book.read_noncached.Goals as goal

pub from_disk-requires : goal.from_disk-requires
from_disk-requires c =
    let known = c.requires.stands in
    record { below = (known.0, known.1, known.2, (c.in-Some.ensures known.0 known.1 known.2).1) }

pub returns-in-None : goal.returns-in-None
returns-in-None c opening past stands read =
    let h = history past c.args.self.now.stream in
    subst (λ (bytes : List ℕ). Reads opening h (4096 * c.args.page) 4096 (reply.Read bytes)) (sym c.new.ensures) (reads-none opening h c.args.page (c.in-None.ensures opening past stands))

pub returns-in-Some-page : goal.returns-in-Some-page
returns-in-Some-page c =
    IfOk-weaker c.read.result _ _
    (λ bytes all opening past stands read.
    let h = history past c.args.self.now.stream in
    let start = c.in-Some.ensures opening past stands in
    subst (λ (n : ℕ). Reads opening h n 4096 (reply.Read bytes)) start.0
    (all opening past stands
    (subst (λ (n : ℕ). all_resident h (cut_range (size_of h) n 4096) ≡ true) (sym start.0)
    (one-resident h c.args.page (sym (c.page.ensures.resident opening past stands) ∙ ap (λ o. is_some o) c.in-Some-page.is)
    (subst (λ (n : ℕ). n < size_of h) start.0 start.1)))))
    c.read.ensures

pub returns-in-None-page : goal.returns-in-None-page
returns-in-None-page c =
    IfOk-weaker c.from_disk.result _ _
    (λ bytes all opening past stands read.
    let h = history past c.args.self.now.stream in
    let start = c.in-Some.ensures opening past stands in
    subst (λ (n : ℕ). Reads opening h n 4096 (reply.Read bytes)) start.0
    (all opening past c.args.page stands start.0 start.1
    (read (sym (c.page.ensures.resident opening past stands) ∙ ap (λ o. is_some o) c.in-None-page.is) (subst (λ (n : ℕ). n < size_of h) start.0 start.1))))
    c.from_disk.ensures
