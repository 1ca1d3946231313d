-- A line more: the routine of its own is posted, where the journal shows it.
use Rattle.std.proofs.Common.{◌+◌, reverse, subst, sym, ◌∙◌, arith}
use Rattle.cc_run.proofs.PostSteps.{PostedTo, has-routine, passed-by, posted-first, posted-all, posted-now, unposted-yet, waits-still}
use Rattle.cc_run.proofs.posts.post_routines.Goals as goal
use Rattle.cc_run.proofs.posts.post_routines.Goals.{then-defers, else-defers, then-was_posted, else-was_posted}

pub loop-at-init : goal.loop-at-init
loop-at-init g c = posted-first g.Q.PostRoutine.posted c.args.lines.now c.args.answers.now (reverse c.args.entries.now) c.args.posts.items c.requires.unposted

pub index_mut-requires : goal.index_mut-requires
index_mut-requires g c =
    omega (
      arith,
      has-routine g.Q.PostRoutine.posted c.args.lines.now c.args.answers.now (reverse c.args.entries.now) c.args.posts.items c.loop-at.at c.loop-at.next c.loop-at.posts.items
          c.index-lines-at.result c.index-answers-at.result c.requires.answered c.loop-at-test.true c.index-lines-at.is c.index-answers-at.is c.loop-at.invariant
          (sym c.defers.ensures ∙ c.if-defers.true) c.requires.enough,
      c.loop-at.posts.ok.0,
    )

pub post-requires : goal.post-requires
post-requires g c =
    unposted-yet g.Q.PostRoutine.posted c.args.lines.now c.args.answers.now (reverse c.args.entries.now) c.args.posts.items c.loop-at.at c.loop-at.next c.loop-at.posts.items
    c.index-lines-at.result c.index-answers-at.result c.requires.answered c.loop-at-test.true c.index-lines-at.is c.index-answers-at.is c.loop-at.invariant
    (sym c.defers.ensures ∙ c.if-defers.true) c.requires.enough c.index_mut.result.now c.index_mut.ensures.value

pub overflow_add-next : goal.overflow_add-next
overflow_add-next g c =
    omega (
      arith,
      has-routine g.Q.PostRoutine.posted c.args.lines.now c.args.answers.now (reverse c.args.entries.now) c.args.posts.items c.loop-at.at c.loop-at.next c.loop-at.posts.items
          c.index-lines-at.result c.index-answers-at.result c.requires.answered c.loop-at-test.true c.index-lines-at.is c.index-answers-at.is c.loop-at.invariant
          (sym c.defers.ensures ∙ c.if-defers.true) c.requires.enough,
      c.loop-at.posts.ok.0,
      c.loop-at.posts.small,
    )

pub loop-at-preserved : goal.loop-at-preserved
loop-at-preserved g c =
    let lines = c.args.lines.now in
    let answers = c.args.answers.now in
    let past = reverse c.args.entries.now in
    let old = c.args.posts.items in
    let at = c.loop-at.at in
    let next = c.loop-at.next in
    let line = c.index-lines-at.result in
    let Left = PostedTo g.Q.PostRoutine.posted lines answers past old (at + 1) in
    elim c.if-defers.branch [
      | then-defers w ↦
          let yes = sym c.defers.ensures ∙ w.if-defers.true in
          subst (λ n. Left n c.if-defers.posts.items) (sym w.next-is)
          (elim w.if-was_posted.branch [
            | then-was_posted w' ↦
                subst (λ v. Left (next + 1) v.items) (sym (w.posts-is ∙ w'.posts-is))
                (posted-now g.Q.PostRoutine.posted lines answers past old at next c.loop-at.posts.items line w.index-answers-at.result c.requires.answered c.loop-at-test.true
                c.index-lines-at.is w.index-answers-at.is c.loop-at.invariant yes (sym w.was_posted.ensures ∙ w'.if-was_posted.true) w'.post.new.self w'.post.ensures)
            | else-was_posted w' ↦
                subst (λ v. Left (next + 1) v.items) (sym (w.posts-is ∙ w'.posts-is))
                (waits-still g.Q.PostRoutine.posted lines answers past old at next c.loop-at.posts.items line w.index-answers-at.result c.requires.answered c.loop-at-test.true
                c.index-lines-at.is w.index-answers-at.is c.loop-at.invariant yes (sym w.was_posted.ensures ∙ w'.if-was_posted.false))
          ])
      | else-defers w ↦
          subst (λ n. Left n c.if-defers.posts.items) (sym w.next-is)
          (subst (λ v. Left next v.items) (sym w.posts-is)
          (passed-by g.Q.PostRoutine.posted lines answers past old at next c.loop-at.posts.items line c.requires.answered c.loop-at-test.true c.index-lines-at.is
          (sym c.defers.ensures ∙ w.if-defers.false) c.loop-at.invariant))
    ]

pub returns : goal.returns
returns g c = posted-all g.Q.PostRoutine.posted c.args.lines.now c.args.answers.now (reverse c.args.entries.now) c.args.posts.items c.loop-at.at c.loop-at.next c.loop-at.posts.items c.loop-at.invariant c.loop-at-test.false c.requires.answered
