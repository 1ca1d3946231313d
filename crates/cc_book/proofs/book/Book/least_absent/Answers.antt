use Rattle.cc_book.proofs.book.Book.least_absent.Goals as goal

pub returns-else-wait : goal.returns-else-wait
returns-else-wait c opening past stands = rw (c.in-CopyRead.is, c.if-wait.false) (c.absent_of.ensures opening past stands)
