-- What a pass has in its hands: the book of a stream, and the stream's disk.
use Rattle.std.specs.Prelude.{◌≡◌, ℕ, List}
use Rattle.std.specs.declared.option.Option.TheVariants.{Some, None}
use Rattle.cc_entry.specs.declared.entry.Entry.{Entry}
use Rattle.cc_book.specs.Book.{BookState, BookStands}
use Rattle.cc_effects.specs.Failures.{failures}
use Rattle.cc_laws.specs.Laws.{SameImages, SameCrash}
use Rattle.cc_model.specs.Good.{IsGood}
use Rattle.cc_model.specs.History.{history}
use Rattle.cc_model.specs.Images.{open_of}
use Rattle.cc_turns.specs.Disk.{all_ended_well}
use Rattle.cc_turns.specs.RecordPage.{SameRecord}
use Rattle.cc_turns.specs.Standing.{Standing, nothing}

-- A pass has the book of a stream in its hands. It may hold the turn of a disk too, and no other. What it has seen is
-- good.
pub record HasBook (w : Standing) (s : ℕ) (b : BookState) : Type 0 where
  pub held : w.held ≡ record nothing { device = w.held.device; book = Some s }
  pub stream : b.stream ≡ s
  pub stands : BookStands (w.setup.opening s) w.seen b
  pub good : IsGood w.setup w.seen

-- It holds the turn of the stream's disk, and no transfer of the stream is under way.
pub record IsAtRest (w : Standing) (s : ℕ) : Type 0 where
  pub device : w.held.device ≡ Some s
  pub no_transfer : open_of (history w.seen s) ≡ None

-- A disk that stood for one past of a stream stands for another: its images are the same, what a crash may leave, how
-- the transfers ended, what is said of its record page, and how often it failed.
pub record SameDisk (past now : List Entry) (s : ℕ) : Type 0 where
  pub images : SameImages (history now s) (history past s)
  pub crash : SameCrash (history now s) (history past s)
  pub ended : (p : ℕ) → all_ended_well (history now s) p ≡ all_ended_well (history past s) p
  pub record_page : SameRecord past now s
  pub failed : failures s now ≡ failures s past

-- The pass goes on as it stood, with so much under way: it has seen more, and what others have reserved may be other.
pub record WentWith (flight : ℕ) (old new : Standing) : Type 0 where
  pub same : new ≡ record old { seen = new.seen; others = new.others; in_flight = flight }

-- It goes on as it stood.
abbrev pub Went : Standing → Standing → Type 0
Went old new = WentWith old.in_flight old new
