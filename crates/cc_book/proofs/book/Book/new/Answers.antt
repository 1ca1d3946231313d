use Rattle.cc_model.specs.History.{history}
use Rattle.cc_book.proofs.book.Book.new.Goals as goal

pub returns-clause-stands : goal.returns-clause-stands
returns-clause-stands c opening past none = rw c.in-Ok.ensures.ok (record {
  state_is = rw none c.new.ensures.stands;
  maps_are = rw none c.new-2.ensures.stands;
  holds_are = rw none c.new-3.ensures.stands;
  contents_are = rw none (c.new-4.ensures opening);
  images_are = c.new-5.ensures (history past c.args.stream) none;
})
