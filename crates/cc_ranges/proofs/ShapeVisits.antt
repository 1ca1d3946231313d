-- The visit in which a noncached call is refused whose place or length is out of order, and the turn of the book for it.
use Rattle.std.specs.Prelude.{◌≡◌, ℕ, suc, ◌⊎◌, Bool, true, List, [], ◌∷◌, None, Some, refl}
use Rattle.std.proofs.Common.{ap, sym, ◌∙◌, subst, inl, inr}
use Rattle.std.proofs.lemmas.Bool.{eq-eqb}
use Rattle.cc_entry.specs.Place.{File}
use Rattle.cc_entry.specs.declared.call.Call.{Call}
use Rattle.cc_entry.specs.declared.entry.Entry.{Entry}
use Rattle.cc_entry.specs.declared.entry.Entry.TheVariants as entry
use Rattle.cc_entry.specs.declared.error.CcError.{CcError}
use Rattle.cc_entry.specs.declared.error.CcError.TheVariants as error
use Rattle.cc_entry.specs.declared.reply.Outcome.TheVariants as outcome
use Rattle.cc_book.specs.Book.{BookState, BookStands, failed}
use Rattle.cc_effects.specs.Moments.{IsIdle, PlacedOnly}
use Rattle.cc_effects.specs.Noncached.{MisshapenLeft}
use Rattle.cc_effects.proofs.Stretches.{idle-then, only-before}
use Rattle.cc_journal.specs.Journal.{JournalState}
use Rattle.cc_model.specs.History.{history}
use Rattle.cc_model.specs.Holds.{holds_of}
use Rattle.cc_model.specs.Passes.{calls_of}
use Rattle.cc_model.specs.Setup.{Setup}
use Rattle.cc_step.specs.Step.{StandUnder, MayStep, IsStop, is_answered}
use Rattle.cc_turns.specs.Standing.{Standing, TurnsHeld, nothing}
use Rattle.cc_turns.specs.Takes.{Takes, with_book, without_book, without_journal}
use Rattle.cc_writes.specs.Hands.{HasBook, Went}
use Rattle.cc_writes.specs.Visits.{IsFiledNow, CallIsOfStream}
use Rattle.cc_writes.specs.Ways.{IsFullError}
use Rattle.cc_writes.proofs.Attempting.{number-is, may-as, visited-same, full-stop}
use Rattle.cc_writes.proofs.Placing.{stepping-failed}
use Rattle.cc_writes.proofs.Visiting.{Visiting, Visited, visited}
use Rattle.cc_writes.specs.Fetch.{CanCall, WentOn}
use Rattle.cc_ranges.specs.Shapes.{IsPageOf, IsShape, RefuseLeft}
use Rattle.cc_ranges.proofs.Misshapen.{page-filed, page-answered}

-- one entry of the call says it
misshapen-so : (me : ℕ) (file : File) (it : Call) (shape e : CcError) (old new : List Entry) → IsShape shape → (e ≡ error.NotCached) ⊎ (e ≡ shape) → (nth : ℕ) → PlacedOnly me (entry.Call me nth (Some file.stream) it (outcome.Failed e)) old new → MisshapenLeft me file it shape e old new
misshapen-so me file it shape error.NotCached old new shaped is nth only = (nth, only)
misshapen-so me file it shape (error.TooLong limit) old new shaped (inl differs) nth only = absurd (cc)
misshapen-so me file it shape (error.TooLong limit) old new shaped (inr same) nth only = (nth, same, only)
misshapen-so me file it shape error.Unaligned old new shaped (inl differs) nth only = absurd (cc)
misshapen-so me file it shape error.Unaligned old new shaped (inr same) nth only = (nth, same, only)
misshapen-so me file it shape other old new shaped (inl differs) nth only = absurd (cc)
misshapen-so me file it shape other old new shaped (inr same) nth only = absurd (subst IsShape (sym same) shaped)

-- what the call leaves from a moment it leaves from before, where the pass placed nothing between
pub misshapen-before : (me : ℕ) (file : File) (it : Call) (shape e : CcError) (older old new : List Entry) → IsIdle me older old → MisshapenLeft me file it shape e old new → MisshapenLeft me file it shape e older new
misshapen-before me file it shape error.NoMemory older old new idle left = idle-then me older old new idle left
misshapen-before me file it shape (error.JournalFull entries) older old new idle left = idle-then me older old new idle left
misshapen-before me file it shape error.NotCached older old new idle left = (left.0, only-before me _ older old new idle left.1)
misshapen-before me file it shape other older old new idle left = (left.0, left.1, only-before me _ older old new idle left.2)

full-so : (w : Standing) (shape e : CcError) → IsShape shape → (e ≡ error.NotCached) ⊎ (e ≡ shape) → IsFullError 1 w e
full-so w shape (error.JournalFull entries) shaped (inl differs) = absurd (cc)
full-so w shape (error.JournalFull entries) shaped (inr same) = absurd (subst IsShape (sym same) shaped)
full-so w shape other shaped is = tt

module _ {Q : Type 0} (posted : Q → Bool) (w v : Standing) (file : File) (it : Call) (shape : CcError) (b c : BookState) (j k : JournalState Q)
    (has : HasBook w b.stream b) (vis : Visiting posted w v b.stream b j) (here : b.stream ≡ file.stream)
    (is : IsPageOf file it) (shaped : IsShape shape) where
  answered : is_answered it ≡ true
  answered = page-answered file it is

  filed : IsFiledNow w b.stream it
  filed = (subst (λ (n : ℕ). CallIsOfStream it n) (sym here) (page-filed file it is)) (holds_of (history w.seen b.stream)) w.number

  pub may-refuse-as : (pass : ℕ) → pass ≡ v.number → MayStep w.setup pass it b j
  may-refuse-as pass me = may-as posted w v it b c j k has vis answered filed pass me

  pub refused-as : (pass : ℕ) (e : CcError) → pass ≡ v.number → ((u : Setup) → MayStep u pass it b j → RefuseLeft u pass it shape e b c j k) → RefuseLeft w.setup w.number it shape e b c j k
  refused-as pass e me left =
      subst (λ (n : ℕ). RefuseLeft w.setup n it shape e b c j k) (number-is posted w v it b c j k has vis answered filed pass me) (left w.setup (may-refuse-as pass me))

  pub visited-refuse : (e : CcError) → RefuseLeft w.setup w.number it shape e b c j k → Visited posted w v b.stream w.in_flight c k
  visited-refuse e (inl so) =
      visited posted w v b.stream w.in_flight (failed w.number j.entries b.stream it e ∷ []) b c j k has vis
      (stepping-failed posted w v b c j k has vis it e so.placed so.stand (ap (λ (x : BookState). x.stream) so.same))
  visited-refuse e (inr none) =
      visited-same posted w v it b c j k has vis answered filed none.1
      (subst (λ (x : BookState). StandUnder w.setup x k) (sym none.2) (subst (λ (x : JournalState Q). StandUnder w.setup b x) (sym none.1) vis.stand))
      (ap (λ (x : BookState). x.stream) none.2)

  pub left-refuse : (e : CcError) → RefuseLeft w.setup w.number it shape e b c j k → MisshapenLeft w.number file it shape e w.seen k.entries
  left-refuse e (inl so) =
      misshapen-so w.number file it shape e w.seen k.entries shaped so.is (suc (calls_of j.entries w.number))
      (record {
        later = [];
        earlier = vis.idle.during;
        grew = ap (λ (x : JournalState Q). x.entries) so.placed
            ∙ (ap (λ (n : ℕ). entry.Call w.number (suc (calls_of j.entries w.number)) (Some n) it (outcome.Failed e) ∷ j.entries) here
            ∙ ap (λ past. entry.Call w.number (suc (calls_of j.entries w.number)) (Some file.stream) it (outcome.Failed e) ∷ past) vis.idle.grew);
        is_own = eq-eqb w.number w.number refl;
        quiet_after = tt;
        quiet_before = vis.idle.others;
      })
  left-refuse e (inr none) =
      subst (λ (x : JournalState Q). MisshapenLeft w.number file it shape e w.seen x.entries) (sym none.1) (by none.0)
    where
      by : IsStop 1 e j → MisshapenLeft w.number file it shape e w.seen j.entries
      by (inl full) = subst (λ (x : CcError). MisshapenLeft w.number file it shape x w.seen j.entries) (sym full.0) vis.idle
      by (inr want) = subst (λ (x : CcError). MisshapenLeft w.number file it shape x w.seen j.entries) (sym want.0) vis.idle

  pub full-refuse : (e : CcError) → RefuseLeft w.setup w.number it shape e b c j k → IsFullError 1 (without_journal k v) e
  full-refuse e (inl so) = full-so (without_journal k v) shape e shaped so.is
  full-refuse e (inr none) = full-stop posted w v it b c j k has vis answered filed (Unit {0}) 1 e none.0 none.1 (visited-refuse e (inr none))

-- The turn of the book alone: what is in hand in it, and how the pass goes on after it.
module _ (w v : Standing) (s : ℕ) (b : BookState) (can : CanCall w s) (took : Takes (with_book s) w v) (b_is : b.stream ≡ s) where
  pub book-taken : BookStands (v.setup.opening s) v.seen b → HasBook v s b
  book-taken stands = record {
    held = let at : v.held ≡ record nothing { book = Some s } = ap (λ x. x.held) took.same ∙ ap (λ (h : TurnsHeld). record h { book = Some s }) can.free in rw at refl;
    stream = b_is;
    stands = stands;
    good = took.good;
  }

  pub book-idle : IsIdle w.number w.seen v.seen
  book-idle = record { during = took.grows.later; grew = took.grows.grew; others = took.grows.others }

  pub book-number : v.number ≡ w.number
  book-number = ap (λ (x : Standing). x.number) took.same

  pub book-setup : v.setup ≡ w.setup
  book-setup = ap (λ (x : Standing). x.setup) took.same

  pub went-book : (y z : Standing) → Went v y → z ≡ without_book y → WentOn w z
  went-book y z went given = record {
    same = is ∙ sym (ap (λ (a : Standing). record w { seen = a.seen; others = a.others; device_turns = a.device_turns }) is);
  }
    where
      is : z ≡ record w { seen = y.seen; others = y.others }
      is =
          given
          ∙ (ap (λ (a : Standing). without_book a) went.same
          ∙ (ap (λ (a : Standing). without_book (record a { seen = y.seen; others = y.others })) took.same
          ∙ (ap (λ (h : TurnsHeld). record w { held = record h { book = None }; seen = y.seen; others = y.others }) can.free
          ∙ ap (λ (h : TurnsHeld). record w { held = h; seen = y.seen; others = y.others }) (sym can.free))))

-- a journal that is full is so to the pass whatever turns it holds
pub full-given : (y : Standing) (e : CcError) → IsFullError 1 y e → IsFullError 1 (without_book y) e
full-given y (error.JournalFull entries) full = full
full-given y other full = tt
