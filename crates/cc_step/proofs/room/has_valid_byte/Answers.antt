use Rattle.cc_model.specs.History.{history}
use Rattle.cc_model.specs.Touches.{valid_of}
use Rattle.cc_step.proofs.Found.{ceil-page}
use Rattle.cc_step.proofs.room.has_valid_byte.Goals as goal

pub returns : goal.returns
returns c opening past stands =
    let h = history past c.args.book.now.stream in
    rw (c.div_ceil.ensures, c.valid.ensures opening past stands) (ceil-page c.args.page (valid_of h))
