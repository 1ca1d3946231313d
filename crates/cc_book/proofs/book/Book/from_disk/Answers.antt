-- What the disk gave, cleared from the valid data length on and cut at the size, is what a read of the page answers.
use Rattle.std.specs.Prelude.{◌≡◌, ℕ, ◌-◌, ◌*◌, ◌<◌, ◌≤◌, min, List, length, take}
use Rattle.std.proofs.Common.{ap, sym, ◌∙◌, subst, arith}
use Rattle.std.proofs.lemmas.Result.{IfOk-weaker}
use Rattle.std.proofs.lemmas.List.{length-take-le}
use Rattle.cc_content.specs.Filling.{IsClearedFrom}
use Rattle.cc_entry.specs.declared.reply.Reply.TheVariants as reply
use Rattle.cc_model.specs.History.{history}
use Rattle.cc_model.specs.Replies.{Reads}
use Rattle.cc_model.specs.Touches.{size_of, valid_of}
use Rattle.cc_book.proofs.NoncachedReads.{front-byte, reads-disk}
use Rattle.cc_book.proofs.book.Book.from_disk.Goals as goal

pub overflow_sub-size : goal.overflow_sub-size
overflow_sub-size c = omega (arith, c.size.ensures c.requires.below.0 c.requires.below.1 c.requires.below.2, c.requires.below.3)

pub returns : goal.returns
returns c =
    let end = c.min-end.result in
    let cleared = c.cleared-bytes.result in
    let whole : length cleared ≡ 4096 = search in
    IfOk-weaker c.of.result _ _
    (λ bytes same opening past page stands at_is below read.
    let h = history past c.args.self.now.stream in
    let ends : end ≡ min (size_of h - 4096 * page) 4096 =
    c.min-end.ensures ∙ ap (λ n. min n 4096) (ap (λ n. n - c.args.at) (c.size.ensures opening past stands) ∙ ap (λ n. size_of h - n) at_is) in
    let from : c.saturating_sub.result ≡ valid_of h - 4096 * page =
    c.saturating_sub.ensures ∙ (ap (λ n. n - c.args.at) (c.valid.ensures opening past stands) ∙ ap (λ n. valid_of h - n) at_is) in
    let short : end ≤ length cleared = omega (arith, ends, whole) in
    subst (λ (bs : List ℕ). Reads opening h c.args.at 4096 (reply.Read bs)) (sym same)
    (subst (λ (n : ℕ). Reads opening h n 4096 (reply.Read (take end cleared))) (sym at_is)
    (reads-disk opening h page end c.args.raw.now cleared (take end cleared) (subst (λ (n : ℕ). n < size_of h) at_is below) read
    (subst (λ (n : ℕ). IsClearedFrom n c.args.raw.now cleared) from c.cleared-bytes.ensures)
    (length-take-le end cleared short) ends (λ k inside. front-byte end k cleared inside))))
    c.of.ensures
