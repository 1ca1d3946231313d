-- A question for the levels of a view index: what the book tells, told at the moment at which its turn was taken.
use Rattle.std.specs.Prelude.{◌≡◌, ℕ, Bool, true, false, is_some, List, [], Result, Ok, Err, refl}
use Rattle.std.specs.declared.option.Option.{Option}
use Rattle.std.specs.declared.option.Option.TheVariants.{Some, None}
use Rattle.std.proofs.Common.{ap, sym, ◌∙◌, subst}
use Rattle.cc_entry.specs.Place.{File}
use Rattle.cc_entry.specs.declared.entry.Entry.{Entry}
use Rattle.cc_entry.specs.declared.error.CcError.{CcError}
use Rattle.cc_entry.specs.declared.error.CcError.TheVariants as error
use Rattle.cc_book.specs.Book.{BookState, BookStands}
use Rattle.cc_effects.specs.Levels.{LevelsLeft}
use Rattle.cc_laws.proofs.MapGone.{no_objects}
use Rattle.cc_model.specs.Good.{IsGood}
use Rattle.cc_model.specs.History.{Effect, history}
use Rattle.cc_model.specs.Numbers.{is_among}
use Rattle.cc_model.specs.Objects.{objects}
use Rattle.cc_model.specs.Reasons.{is_open}
use Rattle.cc_model.specs.Setup.{Setup}
use Rattle.cc_model.specs.Touches.{is_mapped, size_of}
use Rattle.cc_turns.specs.Standing.{TurnsHeld, Standing}
use Rattle.cc_turns.specs.Takes.{Takes, with_book, without_book}
use Rattle.cc_vacb.specs.Levels.{levels_of}
use Rattle.cc_writes.specs.Hands.{Went}
use Rattle.cc_calls.specs.Answers.{CanCall}
use Rattle.cc_calls.specs.Levels.{IsKeptOf, LevelsEnds, LevelsKept}
use Rattle.cc_calls.proofs.LogCalls.{idle-grows, some-now}

-- ---- what a book tells

module _ (book : BookState) (file : File) (same : book.stream ≡ file.stream) where
  -- the object is not open
  pub kept-closed : (told : Bool) → ((opening : Option (ℕ → List ℕ)) (past : List Entry) → BookStands opening past book → told ≡ is_among file.object (objects (history past book.stream))) → told ≡ false → LevelsKept book file (Err error.NotCached)
  kept-closed told is shut = λ opening past stands. (refl, subst (λ (s : ℕ). is_open (history past s) file ≡ false) same (sym (is opening past stands) ∙ shut))

  -- it is, and the index has so many levels
  pub kept-open : (told : Bool) (n : ℕ) → ((opening : Option (ℕ → List ℕ)) (past : List Entry) → BookStands opening past book → told ≡ is_among file.object (objects (history past book.stream))) → told ≡ true → ((opening : Option (ℕ → List ℕ)) (past : List Entry) → BookStands opening past book → n ≡ levels_of (size_of (history past book.stream))) → LevelsKept book file (Ok n)
  kept-open told n is opened levels = λ opening past stands. (
    subst (λ (s : ℕ). is_open (history past s) file ≡ true) same (sym (is opening past stands) ∙ opened),
    subst (λ (s : ℕ). n ≡ levels_of (size_of (history past s))) same (levels opening past stands),
  )

  -- there is no index: no object of a stream without a map is open
  pub kept-unmapped : ((opening : Option (ℕ → List ℕ)) (past : List Entry) → BookStands opening past book → false ≡ is_mapped (history past book.stream)) → LevelsKept book file (Err error.NotCached)
  kept-unmapped gone = λ opening past stands. (
    refl,
    subst (λ (s : ℕ). is_open (history past s) file ≡ false) same (ap (is_among file.object) (no_objects (history past book.stream) (sym (gone opening past stands)))),
  )

-- ---- what is left

module _ (w v x : Standing) (file : File) (book : BookState) (answer : Result ℕ CcError) (can : CanCall w file.stream) (took : Takes (with_book file.stream) w v) (stands : BookStands (v.setup.opening file.stream) v.seen book) (kept : LevelsKept book file answer) (gave : x ≡ without_book v) where
  here : IsKeptOf file answer v.seen
  here = kept (v.setup.opening file.stream) v.seen stands

  seen-is : x.seen ≡ v.seen
  seen-is = ap (λ (y : Standing). y.seen) gave

  others-is : x.others ≡ v.others
  others-is = ap (λ (y : Standing). y.others) gave

  -- the turn was taken and given back
  same : Went w x
  same = record {
    same =
        gave
        ∙ (ap without_book took.same
        ∙ (ap (λ (h : TurnsHeld). record w { seen = v.seen; held = record h { book = None }; others = v.others }) can.free
        ∙ (sym (ap (λ (h : TurnsHeld). record w { seen = v.seen; held = h; others = v.others }) can.free)
        ∙ (ap (λ (past : List Entry). record w { seen = past; others = v.others }) (sym seen-is)
        ∙ ap (λ (n : ℕ). record w { seen = x.seen; others = n }) (sym others-is)))));
  }

  left-by : (told : Result ℕ CcError) → IsKeptOf file told v.seen → LevelsLeft levels_of w.number file told w.seen v.seen
  left-by (Ok n) is = record {
    idle = idle-grows w v.seen took.grows;
    had = some-now (λ moment. (is_open (history moment file.stream) file ≡ true) × (n ≡ levels_of (size_of (history moment file.stream)))) w v.seen took.grows is;
  }
  left-by (Err e) is =
      subst (λ (a : CcError). LevelsLeft levels_of w.number file (Err a) w.seen v.seen) (sym is.0)
      (record {
        idle = idle-grows w v.seen took.grows;
        closed = some-now (λ moment. is_open (history moment file.stream) file ≡ false) w v.seen took.grows is.1;
      })

  sure-by : (told : Result ℕ CcError) → IsKeptOf file told v.seen → (e : CcError) → told ≡ Err e → e ≡ error.NotCached
  sure-by (Ok n) is e refused = absurd (cc refused)
  sure-by (Err a) is e refused =
      let same_error : a ≡ e = cc refused in
      subst (λ (b : CcError). b ≡ error.NotCached) same_error is.0

  good : IsGood w.setup x.seen
  good =
      subst (λ (past : List Entry). IsGood w.setup past) (sym seen-is)
      (subst (λ (u : Setup). IsGood u v.seen) (ap (λ (y : Standing). y.setup) took.same) took.good)

  pub levels-end : LevelsEnds w x file answer
  levels-end = record {
    left = subst (λ (past : List Entry). LevelsLeft levels_of w.number file answer w.seen past) (sym seen-is) (left-by answer here);
    sure = sure-by answer here;
    goes_on = same;
    good = λ before. good;
  }
