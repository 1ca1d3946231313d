-- A phase that ran on a board: what is known of its callers and of the two workers, and of the desk that the board closed into.
use Rattle.std.specs.Prelude.{◌≡◌, ◌≢◌, ◌⊎◌, ℕ, zero, suc, ◌+◌, ◌-◌, ◌<◌, ◌≤◌, ◌==◌, ◌&&◌, Bool, true, false, List, [], ◌∷◌, ◌++◌, length, map, reverse, get_or, slice_get, Contains, vec_capacity, refl, if◌then◌else◌}
use Rattle.std.specs.declared.option.Option.{Option}
use Rattle.std.specs.declared.option.Option.TheVariants.{Some}
use Rattle.std.specs.declared.vec.Vec.{Vec}
use Rattle.std.specs.Global.{Global}
use Rattle.std.specs.List.{AllByRecursion}
use Rattle.std.proofs.Common.{sym, ap, subst, ◌∙◌, arith, inl, inr}
use Rattle.std.proofs.lemmas.Bool.{eq-eqb}
use Rattle.std.proofs.lemmas.List.{get_or-reverse, length-reverse, length-append, reverse-append, map-append}
use Rattle.std.proofs.lemmas.Option.{get_or_from_slice_get, slice_get_within}
use Rattle.cc_entry.specs.declared.answer.Answer.{Answer}
use Rattle.cc_entry.specs.declared.answer.LineReply.{LineReply}
use Rattle.cc_entry.specs.declared.entry.Entry.{Entry}
use Rattle.cc_traits.specs.Disk.{Disk}
use Rattle.cc_traits.specs.Log.{Log}
use Rattle.cc_script.specs.declared.bound.Bound.{Bound}
use Rattle.cc_script.specs.declared.script.Action.{Action}
use Rattle.cc_script.specs.declared.script.ActionLine.{ActionLine}
use Rattle.cc_script.specs.HoldWords.{AreUsedRight, words_bound}
use Rattle.cc_model.specs.Good.{IsGood}
use Rattle.cc_model.specs.Setup.{Setup}
use Rattle.cc_effects.specs.Moments.{IsIdle}
use Rattle.cc_pieces.specs.Bindings.{Binding}
use Rattle.cc_pieces.specs.Phases.{is_of_phase, lazy_writer, read_ahead_worker}
use Rattle.cc_pieces.specs.Rooms.{is_alone, room_limit}
use Rattle.cc_pieces.specs.Runs.{Ran, asked_of, bindings_of}
use Rattle.cc_pieces.proofs.LineSteps.{ran-idle}
use Rattle.cc_pieces.proofs.AskedLines.{asked-none}
use Rattle.cc_turns.specs.Desk.{DeskState, Tells, tells_of, standing_of}
use Rattle.cc_turns.specs.Places.{IsRoomFor}
use Rattle.cc_turns.specs.Slots.{setup_in}
use Rattle.cc_board.specs.Board.{BoardState, FirstState, IsFirstOf, IsOfBoard, BoardIsOpened, IsHandedBack, IsClosed, IsSplit, after_join}
use Rattle.cc_board.specs.View.{run_of}
use Rattle.cc_run.specs.Callers.{AllRan, AreAnswerRows, CallerRan, LinesRan, MayRun, MayAllRun, WordsStand, asked_own, count_of_caller, row_at}
use Rattle.cc_lines.specs.Holds.{NamesStand, NamesState}
use Rattle.cc_run.specs.Desks.{PassIsReady, IsSameRun}
use Rattle.atomic_table.specs.Seated.{TableId}
use Rattle.cc_lines.specs.Line.{IsServable}
use Rattle.cc_lines.specs.Queues.{PlacesWent, queues_of}
use Rattle.cc_lines.specs.declared.queues.Queues.{Queues}
use Rattle.cc_run.specs.Lines.{AllStand, IsCaller, KeepRoom, MayServe, after_lines, asked_by_caller, bound_by}
use Rattle.cc_run.specs.Phases.{PhaseEnds}
use Rattle.cc_run.specs.Threads.{AreJoined, AreRooms, AreSplit, MayJoin, MaySplit, Merged, under_way_of}
use Rattle.cc_run.specs.declared.callers.Caller.{Caller}
use Rattle.cc_run.specs.Ticks.{HasTickRoom, TicksMade}
use Rattle.cc_run.specs.Aheads.{HasStepRoom, StepsMade}
use Rattle.cc_run.specs.Places.{AreOfQueues, PlacesRan}
use Rattle.cc_run.specs.Workers.{MayStepOn, MayWork, StepperRan, WorkerRan}
use Rattle.cc_run.specs.declared.callers.FinishedCaller.{FinishedCaller}
use Rattle.cc_run.specs.declared.aheads.Aheads.{Aheads}
use Rattle.cc_run.specs.declared.ticks.Ticks.{Ticks}
use Rattle.cc_run.specs.declared.workers.Stepper.{Stepper}
use Rattle.cc_run.specs.declared.workers.Worker.{Worker}
use Rattle.cc_run.proofs.CallersRan.{all-ran-long}
use Rattle.cc_run.proofs.LinesRan.{of_none}
use Rattle.cc_run.proofs.Lists.{below-or, mapped-at, there}
use Rattle.cc_lines.proofs.NamesKept.{names-keep}
use Rattle.cc_run.proofs.RowSteps.{reverse_twice}
use Rattle.cc_run.proofs.PlacesWent.{both-on, own-at, places-ran}
use Rattle.cc_run.proofs.StepsRan.{steps-idle}
use Rattle.cc_run.proofs.TicksRan.{made-idle}

-- ---- rows

-- what is said of each item of a row is said of all
all-from : {A : Type 0} (P : A → Type 0) (xs : List A) → ((n : ℕ) (x : A) → slice_get xs n ≡ Some x → P x) → AllByRecursion P xs
all-from P [] each = tt
all-from P (x ∷ xs) each = (each 0 x refl, all-from P xs (λ n y at. each (suc n) y at))

-- a row that is mapped is as long, and its items are contained
long : {A B : Type 0} (f : A → B) (xs : List A) → length (map f xs) ≡ length xs
long f [] = refl
long f (x ∷ xs) = ap suc (long f xs)

contained : {A B : Type 0} (f : A → B) (xs : List A) (ys : List B) (n : ℕ) (x : A) → slice_get xs n ≡ Some x → Contains (map f xs ++ ys) (f x)
contained f [] ys n x at = absurd (cc (at))
contained f (y ∷ xs) ys zero x at = let is : y ≡ x = cc (at) in (0, omega arith, ap f is)
contained f (y ∷ xs) ys (suc n) x at = let more = contained f xs ys n x at in (suc more.0, omega (arith, more.1), more.2)

turned : {A B : Type 0} (f : A → B) (xs : List A) → map f (reverse xs) ≡ reverse (map f xs)
turned f [] = refl
turned f (x ∷ xs) =
    ap (map f) (reverse-append (x ∷ []) xs) ∙ (map-append f (reverse xs) (x ∷ []) ∙ (ap (λ l. l ++ f x ∷ []) (turned f xs) ∙ sym (reverse-append (f x ∷ []) (map f xs))))

mapped-there : {A B : Type 0} (f : A → B) (xs : List A) (n : ℕ) (x : A) → slice_get xs n ≡ Some x → slice_get (map f xs) n ≡ Some (f x)
mapped-there f [] n x at = absurd (cc (at))
mapped-there f (y ∷ xs) zero x at = let is : y ≡ x = cc (at) in ap (λ z. Some (f z)) is
mapped-there f (y ∷ xs) (suc n) x at = mapped-there f xs n x at

some-same : {A : Type 0} (a b : A) → Some a ≡ Some b → a ≡ b
some-same a b same = cc (same)

-- rows whose items are mapped to the same one by one
same-map : {A B : Type 0} (f : A → B) (xs ys : List A) → length xs ≡ length ys → ((n : ℕ) (x y : A) → slice_get xs n ≡ Some x → slice_get ys n ≡ Some y → f x ≡ f y) → map f xs ≡ map f ys
same-map f [] [] same each = refl
same-map f [] (y ∷ ys) same each = absurd (omega (arith, same))
same-map f (x ∷ xs) [] same each = absurd (omega (arith, same))
same-map f (x ∷ xs) (y ∷ ys) same each =
    ap (λ b. b ∷ map f xs) (each 0 x y refl refl)
    ∙ ap (λ l. f y ∷ l) (same-map f xs ys (omega (arith, same)) (λ n a b first second. each (suc n) a b first second))

-- an item of a row of 16 that is turned round
turned-at : {A : Type 0} (xs : List A) (n : ℕ) (x : A) → length xs ≡ 16 → n < 16 → slice_get (reverse xs) (15 - n) ≡ Some x → slice_get xs n ≡ Some x
turned-at xs n x sixteen within at =
    let one = there xs n (omega (arith, within, sixteen)) in
    let place : length xs - 1 - (15 - n) ≡ n = omega (arith, sixteen, within) in
    let same : x ≡ one.0 =
    sym (get_or_from_slice_get (reverse xs) (15 - n) x x at)
    ∙ (get_or-reverse xs (15 - n) x (omega (arith, sixteen, within)) ∙ (ap (λ k. get_or xs k x) place ∙ get_or_from_slice_get xs n one.0 x one.1)) in
    one.1 ∙ ap Some (sym same)

-- of a phase, the lines of a caller are all its lines
asked-phase : (phase me : ℕ) (lines : List ActionLine) (replies : List LineReply) → AllByRecursion (λ line. line.phase ≡ phase) lines → asked_of (is_of_phase phase me) lines replies ≡ asked_by_caller me lines replies
asked-phase phase me [] replies those = refl
asked-phase phase me (line ∷ lines) [] those = refl
asked-phase phase me (line ∷ lines) (reply ∷ replies) those =
    rw (eq-eqb line.phase phase those.0, asked-phase phase me lines replies those.1) (by (line.caller == me))
  where
    asked : List (Action × Answer)
    asked = asked_by_caller me lines replies

    by : (b : Bool) → (if b && true then (line.action, reply.answer) ∷ asked else asked) ≡ (if b then (line.action, reply.answer) ∷ asked else asked)
    by true = refl
    by false = refl

-- an item is contained behind another
behind-first : {A : Type 0} (y : A) (xs : List A) (x : A) → Contains xs x → Contains (y ∷ xs) x
behind-first y xs x there = (suc there.0, omega (arith, there.1), there.2)

-- what is not below the workers' numbers, nor one of them, is behind them
past-workers : (n : ℕ) → 16 ≤ n → n ≢ 16 → n ≢ 17 → 19 ≤ suc n
past-workers n above lazy ahead = by (below-or 16 n) (below-or 17 n)
  where
    by : (16 < n) ⊎ (n ≤ 16) → (17 < n) ⊎ (n ≤ 17) → 19 ≤ suc n
    by (inr less) second = absurd (lazy (omega (arith, above, less)))
    by (inl more) (inl beyond) = omega (arith, beyond)
    by (inl more) (inr less) = absurd (ahead (omega (arith, more, less)))

-- ---- callers

module _ {D L Q : Type 0} (tells : Tells D L Q) (board : BoardState D L) (lines : List ActionLine) where
  -- each caller ended so
  ran-at : (callers : List (Caller D L Q)) (ended : List (FinishedCaller D L Q)) (n : ℕ) (caller : Caller D L Q) → AllRan tells board lines callers ended → slice_get callers n ≡ Some caller → (one : FinishedCaller D L Q) × (slice_get ended n ≡ Some one) × CallerRan tells board lines caller one
  ran-at [] ended n caller ran at = absurd (cc (at))
  ran-at (c ∷ callers) [] n caller ran at = absurd ran
  ran-at (c ∷ callers) (one ∷ ended) zero caller ran at =
      let is : c ≡ caller = cc (at) in
      (one, refl, subst (λ (x : Caller D L Q). CallerRan tells board lines x one) is ran.0)
  ran-at (c ∷ callers) (one ∷ ended) (suc n) caller ran at = ran-at callers ended n caller ran.1 at

  -- each pass is of the board, and has nothing under way
  all-here : (callers : List (Caller D L Q)) (ended : List (FinishedCaller D L Q)) → AllRan tells board lines callers ended → AllByRecursion (λ one. IsOfBoard board one.pass) ended
  all-here [] [] ran = tt
  all-here [] (one ∷ ended) ran = absurd ran
  all-here (c ∷ callers) [] ran = absurd ran
  all-here (c ∷ callers) (one ∷ ended) ran = (ran.0.here, all-here callers ended ran.1)

  none-left : (callers : List (Caller D L Q)) (ended : List (FinishedCaller D L Q)) → AllRan tells board lines callers ended → under_way_of ended ≡ 0
  none-left [] [] ran = refl
  none-left [] (one ∷ ended) ran = absurd ran
  none-left (c ∷ callers) [] ran = absurd ran
  none-left (c ∷ callers) (one ∷ ended) ran =
      let rest = none-left callers ended ran.1 in let none = ran.0.none in omega (arith, rest, none)

-- ---- the phase

module _ {D L Q : Type 0} (told : D → Option Disk) (faults : D → ℕ) (log_told : L → Option Log) (log_faults : L → ℕ) (posted : Q → Bool) (desk : DeskState D L Q) (board : BoardState D L) (first : FirstState D L) (ready : PassIsReady (standing_of told faults log_told log_faults desk)) (opened : BoardIsOpened desk 18 board first) where
  pub may-split : MaySplit board first
  may-split = record {
    here = opened.is_of;
    run = opened.first_run;
    none = opened.under_way_is ∙ ready.at_rest;
    one_made = opened.one_made;
    none_ended = opened.none_ended;
    passes = opened.passes_are;
  }

  module _ (lines : List ActionLine) (was turned_names : List NamesState) (names_turned : turned_names ≡ reverse was) (sixteen : length was ≡ 16) (rooms : List (Vec Answer Global)) (split_first : FirstState D L) (callers : List (Caller D L Q)) (split : AreSplit board rooms turned_names first split_first callers) where
    -- what is kept of a caller's words when it is made, and that it stands
    names-at : (n : ℕ) (caller : Caller D L Q) → slice_get callers n ≡ Some caller → slice_get was n ≡ Some caller.names
    names-at n caller at =
        let made = split.each n caller at in
        let within : n < 16 = omega (arith, slice_get_within callers n caller at, split.counted) in
        turned-at was n caller.names sixteen within
        (subst (λ rows. slice_get rows (15 - n) ≡ Some caller.names) names_turned (made.3 ∙ ap Some (sym made.4.names_are)))

    words-at : (bounds : ℕ → List Bound) (bindings : ℕ → List Binding) (n : ℕ) (caller : Caller D L Q) → slice_get callers n ≡ Some caller → AllStand (length desk.begun.disks) desk.last.entries bounds bindings was → WordsStand board caller.pass (bounds (suc n)) (bindings (suc n)) caller.names
    words-at bounds bindings n caller at stand =
        let is = (split.each n caller at).4 in
        let seen : caller.pass.knows.seen ≡ desk.last.entries = is.seen_is ∙ opened.seen_is in
        let streams : length board.begun.disks ≡ length desk.begun.disks = ap (λ b. length b.disks) opened.run_is in
        rw (streams, is.number_is, seen) (stand.each n caller.names (names-at n caller at))

    pub may-all-run : AreRooms lines rooms → AllByRecursion (λ line. IsServable (length desk.begun.disks) line.action) lines → IsGood (standing_of told faults log_told log_faults desk).setup desk.last.entries → MayServe (length desk.begun.disks) desk.last.entries lines was → MayAllRun (tells_of told faults log_told log_faults posted) board lines callers
    may-all-run are servable good words = all-from (MayRun (tells_of told faults log_told log_faults posted) board lines) callers each
      where
        each : (n : ℕ) (caller : Caller D L Q) → slice_get callers n ≡ Some caller → MayRun (tells_of told faults log_told log_faults posted) board lines caller
        each n caller at =
            let made = split.each n caller at in
            let is = made.4 in
            let within : n < 16 = omega (arith, slice_get_within callers n caller at, split.counted) in
            let number : 16 - (15 - n) ≡ caller.pass.knows.number = omega (arith, within, is.number_is) in
            let run : setup_in (tells_of told faults log_told log_faults posted) board.begun ≡ (standing_of told faults log_told log_faults desk).setup =
            ap (setup_in (tells_of told faults log_told log_faults posted)) opened.run_is in
            record {
              here = is.here;
              run = is.run ∙ opened.first_run;
              none = is.none;
              good = rw (run, is.seen_is ∙ opened.seen_is) good;
              few = omega (arith, is.before_is, is.passes_are, opened.before_is, opened.passes_are, ready.at_rest);
              servable = subst (λ k. AllByRecursion (λ line. IsServable k line.action) lines) (sym (ap (λ b. length b.disks) opened.run_is)) servable;
              bounds = words.bounds (suc n);
              bindings = words.bindings (suc n);
              stand = words-at words.bounds words.bindings n caller at words.stand;
              right = subst (λ k. AreUsedRight k (words.bounds (suc n)) lines) (sym is.number_is) (words.right (suc n));
              room = subst (λ k. IsRoomFor (count_of_caller k lines) caller.room.items (vec_capacity caller.room)) number
                  (subst (λ (room : Vec Answer Global). IsRoomFor (count_of_caller (16 - (15 - n)) lines) room.items (vec_capacity room)) (sym is.room_is) (are.each (15 - n) made.0 made.2));
              word_room =
                  subst (λ k. length caller.names.named + words_bound k lines ≤ caller.names.room) (sym is.number_is) (words.room n caller.names (names-at n caller at));
            }

    -- the places of each are at the queues
    pub all-own : (queues : Queues) → AreOfQueues queues was → AllByRecursion (λ (caller : Caller D L Q). queues_of caller.names.places ≡ queues) callers
    all-own queues own =
        all-from (λ (caller : Caller D L Q). queues_of caller.names.places ≡ queues) callers (λ n caller at. own-at queues was n caller.names own (names-at n caller at))

    -- pass 0 may split one pass more, which is the lazy writer's
    pub first-split : IsFirstOf board split_first
    first-split = split.board_is ∙ opened.is_of

    pub one-more : split_first.knows.made ≤ split_first.knows.passes
    one-more = omega (arith, split.made_is, split.passes_are, opened.passes_are)

    module _ (phase : ℕ) (ticks : Ticks) (worker_first : FirstState D L) (worker : Worker D L Q) (parted : IsSplit split_first worker_first worker.pass) (ticks_are : worker.ticks ≡ ticks) where
      worker-seen : worker.pass.knows.seen ≡ desk.last.entries
      worker-seen = ap (λ p. p.knows.seen) parted.made_is ∙ (split.seen_is ∙ opened.seen_is)

      pub may-work : HasTickRoom ticks → MayWork board worker
      may-work room = record {
        here = ap (λ p. p.board) parted.made_is ∙ first-split;
        run = ap (λ p. run_of p.knows) parted.made_is ∙ (split.run_is ∙ opened.first_run);
        number_is = ap (λ p. p.knows.number) parted.made_is ∙ omega (arith, split.made_is);
        none = ap (λ p. p.knows.in_flight) parted.made_is;
        few = omega (
          arith,
          ap (λ p. p.knows.before) parted.made_is,
          ap (λ p. p.knows.passes) parted.made_is,
          split.before_is,
          split.passes_are,
          opened.before_is,
          opened.passes_are,
          ready.at_rest,
        );
        room = subst HasTickRoom (sym ticks_are) room;
      }

      -- pass 0 may split one more, which is the read-ahead worker's
      pub second-split : IsFirstOf board worker_first
      second-split = ap (λ f. f.board) parted.old_is ∙ first-split

      pub two-more : worker_first.knows.made ≤ worker_first.knows.passes
      two-more = omega (
        arith,
        ap (λ f. f.knows.made) parted.old_is,
        ap (λ f. f.knows.passes) parted.old_is,
        split.made_is,
        split.passes_are,
        opened.passes_are,
      )

      module _ (aheads : Aheads) (stepper_first : FirstState D L) (stepper : Stepper D L Q) (parted_too : IsSplit worker_first stepper_first stepper.pass) (aheads_are : stepper.aheads ≡ aheads) where
        stepper-seen : stepper.pass.knows.seen ≡ desk.last.entries
        stepper-seen =
            ap (λ p. p.knows.seen) parted_too.made_is ∙ (ap (λ f. f.knows.seen) parted.old_is ∙ (split.seen_is ∙ opened.seen_is))

        pub may-step-on : (queue : TableId) → aheads.place.queue ≡ queue → HasStepRoom aheads → MayStepOn board queue stepper
        may-step-on queue own room = record {
          here = ap (λ p. p.board) parted_too.made_is ∙ second-split;
          run =
              ap (λ p. run_of p.knows) parted_too.made_is
              ∙ (ap (λ f. run_of f.knows) parted.old_is ∙ (split.run_is ∙ opened.first_run));
          number_is = omega (
            arith,
            ap (λ p. p.knows.number) parted_too.made_is,
            ap (λ f. f.knows.made) parted.old_is,
            split.made_is,
          );
          none = ap (λ p. p.knows.in_flight) parted_too.made_is;
          few = omega (
            arith,
            ap (λ p. p.knows.before) parted_too.made_is,
            ap (λ p. p.knows.passes) parted_too.made_is,
            ap (λ f. f.knows.before) parted.old_is,
            ap (λ f. f.knows.passes) parted.old_is,
            split.before_is,
            split.passes_are,
            opened.before_is,
            opened.passes_are,
            ready.at_rest,
          );
          own = ap (λ a. a.place.queue) aheads_are ∙ own;
          room = subst HasStepRoom (sym aheads_are) room;
        }

        module _ (ended : List (FinishedCaller D L Q)) (ran : AllRan (tells_of told faults log_told log_faults posted) board lines callers ended) (worked : Worker D L Q) (worker_ran : WorkerRan (tells_of told faults log_told log_faults posted) board phase worker worked) (stepped : Stepper D L Q) (stepper_ran : StepperRan (tells_of told faults log_told log_faults posted) board phase stepper stepped) where
          as-many : length ended ≡ 16
          as-many = all-ran-long (tells_of told faults log_told log_faults posted) board lines callers ended ran ∙ split.counted

          pub may-join : MayJoin board stepper_first ended
          may-join = record {
            counted = as-many;
            here = ap (λ f. f.board) parted_too.old_is ∙ second-split;
            each = all-here (tells_of told faults log_told log_faults posted) board lines callers ended ran;
          }

          module _ (joined_first : FirstState D L) (rows : List (Vec Answer Global)) (joined_names : List NamesState) (joined : AreJoined stepper_first joined_first ended rows joined_names) where
            pub first-joined : IsFirstOf board joined_first
            first-joined = joined.board_is ∙ (ap (λ f. f.board) parted_too.old_is ∙ second-split)

            abbrev end_of : FinishedCaller D L Q → ℕ × List Entry
            end_of one = (one.pass.knows.number, one.pass.knows.seen)

            callers-ended : joined_first.knows.ended ≡ map end_of ended ++ []
            callers-ended =
                joined.ended_is
                ∙ ap (λ l. map end_of ended ++ l) (ap (λ f. f.knows.ended) parted_too.old_is ∙ (ap (λ f. f.knows.ended) parted.old_is ∙ (split.ended_is ∙ opened.none_ended)))

            -- the rows of the answers, as they are merged
            abbrev answers : List (List Answer)
            answers = map (λ (row : Vec Answer Global). row.items) rows

            abbrev turn : FinishedCaller D L Q → List Answer
            turn one = reverse one.answers.items

            rows-turned : answers ≡ reverse (map turn ended)
            rows-turned = joined.rows_are ∙ turned turn ended

            row-is : (n : ℕ) (one : FinishedCaller D L Q) → n < 16 → slice_get ended n ≡ Some one → row_at answers (suc n) ≡ one.answers.items
            row-is n one within at =
                let count : length (map turn ended) ≡ 16 = long turn ended ∙ as-many in
                let place : length (map turn ended) - 1 - (16 - suc n) ≡ n = omega (arith, count, within) in
                let found : get_or answers (16 - suc n) [] ≡ turn one =
                ap (λ l. get_or l (16 - suc n) []) rows-turned
                ∙ (get_or-reverse (map turn ended) (16 - suc n) [] (omega (arith, count, within))
                ∙ (ap (λ k. get_or (map turn ended) k []) place ∙ mapped-at turn ended n one [] at)) in
                ap reverse found ∙ reverse_twice one.answers.items

            -- the caller of a number, and how it ended
            record Ended (n : ℕ) : Type 0 where
              caller : Caller D L Q
              one : FinishedCaller D L Q
              at : slice_get ended n ≡ Some one
              ran_so : CallerRan (tells_of told faults log_told log_faults posted) board lines caller one
              caller_at : slice_get callers n ≡ Some caller
              number_is : caller.pass.knows.number ≡ suc n
              seen_is : caller.pass.knows.seen ≡ desk.last.entries

            ended-at : (n : ℕ) → n < 16 → Ended n
            ended-at n within =
                let caller = there callers n (omega (arith, within, split.counted)) in
                let made = (split.each n caller.0 caller.1).4 in
                let one = ran-at (tells_of told faults log_told log_faults posted) board lines callers ended n caller.0 ran caller.1 in
                record {
                  caller = caller.0;
                  one = one.0;
                  at = one.1;
                  ran_so = one.2;
                  caller_at = caller.1;
                  number_is = made.number_is;
                  seen_is = made.seen_is ∙ opened.seen_is;
                }

            -- what is kept of the callers' words, from the first on
            module _ (names : List NamesState) (names_back : names ≡ reverse joined_names) where
              abbrev named : FinishedCaller D L Q → NamesState
              named one = one.names

              names-are : names ≡ map named ended
              names-are = names_back ∙ (ap reverse (joined.names_are ∙ turned named ended) ∙ reverse_twice (map named ended))

              names-of : (n : ℕ) (one : FinishedCaller D L Q) (row : NamesState) → slice_get ended n ≡ Some one → slice_get names n ≡ Some row → row ≡ one.names
              names-of n one row at here =
                  let there_too : slice_get names n ≡ Some one.names = ap (λ l. slice_get l n) names-are ∙ mapped-there named ended n one at in
                  some-same row one.names (sym here ∙ there_too)

              names-long : length names ≡ 16
              names-long = ap length names-are ∙ (long named ended ∙ as-many)

              pub keep-room : KeepRoom was names
              keep-room = same-map (λ (row : NamesState). row.room) names was (names-long ∙ sym sixteen) each
                where
                  each : (n : ℕ) (row before : NamesState) → slice_get names n ≡ Some row → slice_get was n ≡ Some before → row.room ≡ before.room
                  each n row before at first =
                      let e = ended-at n (omega (arith, slice_get_within names n row at, names-long)) in
                      let is : row ≡ e.one.names = names-of n e.one row e.at at in
                      let same : e.caller.names ≡ before = some-same e.caller.names before (sym (names-at n e.caller e.caller_at) ∙ first) in
                      ap (λ r. r.room) is ∙ (e.ran_so.word_room ∙ ap (λ r. r.room) same)

            pub are-rows : AreAnswerRows lines answers
            are-rows = (ap length rows-turned ∙ (length-reverse (map turn ended) ∙ (long turn ended ∙ as-many)), each)
              where
                each : (me : ℕ) → 1 ≤ me → me ≤ 16 → length (row_at answers me) ≡ count_of_caller me lines
                each zero least most = absurd (omega (arith, least))
                each (suc n) least most =
                    let e = ended-at n (omega (arith, most)) in
                    ap length (row-is n e.one (omega (arith, most)) e.at) ∙ (e.ran_so.whole ∙ ap (λ k. count_of_caller k lines) e.number_is)

            -- the passes of the workers were joined last
            module _ (then_first : FirstState D L) (then_joined : then_first ≡ after_join joined_first worked.pass) where
              pub first-then : IsFirstOf board then_first
              first-then = ap (λ f. f.board) then_joined ∙ first-joined

              module _ (last_first : FirstState D L) (last : last_first ≡ after_join then_first stepped.pass) where
                pub first-here : IsFirstOf board last_first
                first-here = ap (λ f. f.board) last ∙ first-then

                all-ended : last_first.knows.ended ≡ (read_ahead_worker, stepped.pass.knows.seen) ∷ ((lazy_writer, worked.pass.knows.seen) ∷ (map end_of ended ++ []))
                all-ended =
                    ap (λ f. f.knows.ended) last
                    ∙ (ap (λ n. (n, stepped.pass.knows.seen) ∷ then_first.knows.ended) stepper_ran.number
                    ∙ ap (λ l. (read_ahead_worker, stepped.pass.knows.seen) ∷ l)
                    (ap (λ f. f.knows.ended) then_joined
                    ∙ (ap (λ n. (n, worked.pass.knows.seen) ∷ joined_first.knows.ended) worker_ran.number
                    ∙ ap (λ l. (lazy_writer, worked.pass.knows.seen) ∷ l) callers-ended)))

                made-is : last_first.knows.made ≡ 19
                made-is = omega (
                  arith,
                  ap (λ f. f.knows.made) last,
                  ap (λ f. f.knows.made) then_joined,
                  joined.made_is,
                  ap (λ f. f.knows.made) parted_too.old_is,
                  ap (λ f. f.knows.made) parted.old_is,
                  split.made_is,
                )

                seen-is : last_first.knows.seen ≡ desk.last.entries
                seen-is =
                    ap (λ f. f.knows.seen) last
                    ∙ (ap (λ f. f.knows.seen) then_joined
                    ∙ (joined.seen_is
                    ∙ (ap (λ f. f.knows.seen) parted_too.old_is ∙ (ap (λ f. f.knows.seen) parted.old_is ∙ (split.seen_is ∙ opened.seen_is)))))

                -- no pass is out
                pub none-out : suc (length last_first.knows.ended) < last_first.knows.made → ⊥
                none-out out =
                    omega (arith, out, made-is, ap length all-ended, length-append (map end_of ended) [], long end_of ended, as-many)

            module _ (then_first : FirstState D L) (then_joined : then_first ≡ after_join joined_first worked.pass) (last_first : FirstState D L) (last : last_first ≡ after_join then_first stepped.pass) (now : DeskState D L Q) (closed : IsClosed board last_first now) where
              abbrev all_ended : last_first.knows.ended ≡ (read_ahead_worker, stepped.pass.knows.seen) ∷ ((lazy_writer, worked.pass.knows.seen) ∷ (map end_of ended ++ []))
              all_ended = all-ended then_first then_joined last_first last

              -- after what a caller had seen it placed nothing
              idle-caller : (n : ℕ) (e : Ended n) → IsIdle (suc n) e.one.pass.knows.seen now.last.entries
              idle-caller n e =
                  let number : e.one.pass.knows.number ≡ suc n = e.ran_so.number ∙ e.number_is in
                  subst (λ k. IsIdle k e.one.pass.knows.seen now.last.entries) number
                  (closed.others e.one.pass.knows.number e.one.pass.knows.seen
                  (subst (λ l. Contains l (e.one.pass.knows.number, e.one.pass.knows.seen)) (sym all_ended)
                  (behind-first (read_ahead_worker, stepped.pass.knows.seen) ((lazy_writer, worked.pass.knows.seen) ∷ (map end_of ended ++ [])) (end_of e.one)
                  (behind-first (lazy_writer, worked.pass.knows.seen) (map end_of ended ++ []) (end_of e.one) (contained end_of ended [] n e.one e.at)))))

              -- nor did the lazy writer, nor the read-ahead worker
              idle-worker : IsIdle lazy_writer worked.pass.knows.seen now.last.entries
              idle-worker =
                  closed.others lazy_writer worked.pass.knows.seen
                  (subst (λ l. Contains l (lazy_writer, worked.pass.knows.seen)) (sym all_ended) (1, omega arith, refl))

              idle-stepper : IsIdle read_ahead_worker stepped.pass.knows.seen now.last.entries
              idle-stepper =
                  closed.others read_ahead_worker stepped.pass.knows.seen
                  (subst (λ l. Contains l (read_ahead_worker, stepped.pass.knows.seen)) (sym all_ended) (0, omega arith, refl))

              -- nor did pass 0, nor a number that was not given to a pass
              idle-first : IsIdle 0 desk.last.entries now.last.entries
              idle-first = subst (λ past. IsIdle 0 past now.last.entries) (seen-is then_first then_joined last_first last) closed.first

              idle-unmade : (me : ℕ) → 19 ≤ me → IsIdle me desk.last.entries now.last.entries
              idle-unmade me least =
                  subst (λ past. IsIdle me past now.last.entries) (seen-is then_first then_joined last_first last) (closed.unmade me (omega (arith, least, made-is then_first then_joined last_first last)))

              pub same-run : IsSameRun (standing_of told faults log_told log_faults desk) (standing_of told faults log_told log_faults now)
              same-run =
                  let begun : now.begun ≡ desk.begun = closed.run_is ∙ opened.run_is in
                  record {
                    setup = ap (λ b. (standing_of told faults log_told log_faults (record now { begun = b })).setup) begun;
                    streams = ap (λ b. length b.disks) begun;
                    disks = ap (λ b. (standing_of told faults log_told log_faults (record now { begun = b })).disks) begun;
                    logs = ap (λ b. (standing_of told faults log_told log_faults (record now { begun = b })).logs) begun;
                  }

              pub ready-now : PassIsReady (standing_of told faults log_told log_faults now)
              ready-now = record {
                free = closed.held_is;
                at_rest =
                    let none = none-left (tells_of told faults log_told log_faults posted) board lines callers ended ran in
                    omega (
                      arith,
                      closed.under_way_is,
                      ap (λ f. f.knows.in_flight) last,
                      stepper_ran.none,
                      ap (λ f. f.knows.in_flight) then_joined,
                      worker_ran.none,
                      joined.under_way_is,
                      ap (λ f. f.knows.in_flight) parted_too.old_is,
                      ap (λ f. f.knows.in_flight) parted.old_is,
                      split.none,
                      opened.under_way_is,
                      ready.at_rest,
                      none,
                    );
              }

              abbrev setup : Setup
              setup = (standing_of told faults log_told log_faults desk).setup

              run : setup_in (tells_of told faults log_told log_faults posted) board.begun ≡ setup
              run = ap (setup_in (tells_of told faults log_told log_faults posted)) opened.run_is

              -- the ticks that it made
              pub ticks-on-board : (ticks_now : Ticks) → ticks_now ≡ worked.ticks → TicksMade setup phase ticks.each ticks ticks_now desk.last.entries now.last.entries
              ticks-on-board ticks_now is =
                  let made : TicksMade setup phase ticks.each ticks worked.ticks desk.last.entries worked.pass.knows.seen = rw (run, worker-seen, ticks_are) at worker_ran.made in
                  rw is (made-idle setup phase ticks.each ticks worked.ticks desk.last.entries worked.pass.knows.seen now.last.entries made idle-worker)

              -- and the read-ahead steps
              pub steps-on-board : (aheads_now : Aheads) → aheads_now ≡ stepped.aheads → StepsMade setup phase aheads.each aheads aheads_now desk.last.entries now.last.entries
              steps-on-board aheads_now is =
                  let made : StepsMade setup phase aheads.each aheads stepped.aheads desk.last.entries stepped.pass.knows.seen = rw (run, stepper-seen, aheads_are) at stepper_ran.made in
                  rw is (steps-idle setup phase aheads.each aheads stepped.aheads desk.last.entries stepped.pass.knows.seen now.last.entries made idle-stepper)

              -- what the lines did at their callers' places
              pub places-on-board : (names : List NamesState) → names ≡ reverse joined_names → (before after : List LineReply) → AllByRecursion (λ line. line.phase ≡ phase) lines → Merged lines answers before after → PlacesRan lines before after was names desk.last.entries now.last.entries
              places-on-board names names_back before after those merged =
                  places-ran lines before after merged.answers was names desk.last.entries now.last.entries merged.grew (record { each = each })
                where
                  each : (n : ℕ) (a b : NamesState) → slice_get was n ≡ Some a → slice_get names n ≡ Some b → PlacesWent (suc n) (asked_by_caller (suc n) lines merged.answers) a.places b.places desk.last.entries now.last.entries
                  each n a b first second =
                      let within : n < 16 = omega (arith, slice_get_within was n a first, sixteen) in
                      let e = ended-at n within in
                      let a_is : a ≡ e.caller.names = some-same a e.caller.names (sym first ∙ names-at n e.caller e.caller_at) in
                      let b_is : b ≡ e.one.names = names-of names names_back n e.one b e.at second in
                      let told : asked_by_caller (suc n) lines merged.answers ≡ asked_own (suc n) lines e.one.answers.items =
                      sym (asked-phase phase (suc n) lines merged.answers those)
                      ∙ (merged.asked phase (suc n) those (omega arith) (omega (arith, within)) ∙ ap (asked_own (suc n) lines) (row-is n e.one within e.at)) in
                      let went = e.ran_so.placed in
                      let own : PlacesWent (suc n) (asked_own (suc n) lines e.one.answers.items) e.caller.names.places e.one.names.places desk.last.entries e.one.pass.knows.seen =
                      rw (e.number_is, e.seen_is) at went in
                      let own_lines = asked_own (suc n) lines e.one.answers.items in
                      subst (λ l. PlacesWent (suc n) l a.places b.places desk.last.entries now.last.entries) (sym told)
                      (subst (λ (row : NamesState). PlacesWent (suc n) own_lines row.places b.places desk.last.entries now.last.entries) (sym a_is)
                      (subst (λ (row : NamesState). PlacesWent (suc n) own_lines e.caller.names.places row.places desk.last.entries now.last.entries) (sym b_is)
                      (both-on (suc n) own_lines e.caller.names.places e.one.names.places desk.last.entries e.one.pass.knows.seen now.last.entries own (idle-caller n e))))

              module _ (names : List NamesState) (names_back : names ≡ reverse joined_names) (good : IsGood (standing_of told faults log_told log_faults now).setup now.last.entries) (before after : List LineReply) (bounds : ℕ → List Bound) (bindings : ℕ → List Binding) (are : AllByRecursion (λ line. IsCaller line.caller) lines) (those : AllByRecursion (λ line. line.phase ≡ phase) lines) (merged : Merged lines answers before after) (stand : AllStand (length desk.begun.disks) desk.last.entries bounds bindings was) (right : (me : ℕ) → AreUsedRight me (bounds me) lines) where
                abbrev asked : ℕ → List (Action × Answer)
                asked me = asked_of (is_of_phase phase me) lines merged.answers

                own-asked : (n : ℕ) (e : Ended n) → n < 16 → asked (suc n) ≡ asked_own (suc n) lines e.one.answers.items
                own-asked n e within =
                    merged.asked phase (suc n) those (omega arith) (omega (arith, within)) ∙ ap (asked_own (suc n) lines) (row-is n e.one within e.at)

                own-ran : (n : ℕ) (e : Ended n) → LinesRan (tells_of told faults log_told log_faults posted) board lines (bounds (suc n)) (bindings (suc n)) e.caller e.one
                own-ran n e =
                    e.ran_so.ran (bounds (suc n)) (bindings (suc n)) (words-at bounds bindings n e.caller e.caller_at stand)
                    (subst (λ k. AreUsedRight k (bounds (suc n)) lines) (sym e.number_is) (right (suc n)))

                no-lines : (me : ℕ) → ((line : ActionLine) → IsCaller line.caller → line.caller ≢ me) → IsIdle me desk.last.entries now.last.entries → Ran setup 32 me (bindings me) (asked me) desk.last.entries now.last.entries
                no-lines me other idle =
                    subst (λ l. Ran setup 32 me (bindings me) l desk.last.entries now.last.entries) (sym (asked-none (is_of_phase phase me) lines merged.answers (of_none phase me lines other are))) idle

                own-lines : (n : ℕ) → n < 16 → Ran setup 32 (suc n) (bindings (suc n)) (asked (suc n)) desk.last.entries now.last.entries
                own-lines n within =
                    let e = ended-at n within in
                    let ran = (own-ran n e).ran in
                    let own : Ran setup 32 (suc n) (bindings (suc n)) (asked_own (suc n) lines e.one.answers.items) desk.last.entries e.one.pass.knows.seen =
                    rw (run, e.number_is, e.seen_is) at ran in
                    subst (λ l. Ran setup 32 (suc n) (bindings (suc n)) l desk.last.entries now.last.entries) (sym (own-asked n e within))
                    (ran-idle setup 32 (suc n) (bindings (suc n)) (asked_own (suc n) lines e.one.answers.items) desk.last.entries e.one.pass.knows.seen now.last.entries own (idle-caller n e))

                ran-of : (me : ℕ) → me ≢ lazy_writer → me ≢ read_ahead_worker → Ran setup 32 me (bindings me) (asked me) desk.last.entries now.last.entries
                ran-of zero lazy ahead = no-lines 0 (λ line caller same. omega (arith, caller.first, same)) idle-first
                ran-of (suc n) lazy ahead = by (below-or n 16)
                  where
                    by : (n < 16) ⊎ (16 ≤ n) → Ran setup 32 (suc n) (bindings (suc n)) (asked (suc n)) desk.last.entries now.last.entries
                    by (inl within) = own-lines n within
                    by (inr above) = no-lines (suc n) (λ line caller same. omega (arith, caller.last, same, above)) (idle-unmade (suc n) (past-workers n above (λ is. lazy (ap suc is)) (λ is. ahead (ap suc is))))

                -- what is kept of a caller's words stood for what it had seen, and so for all
                stand-at : (n : ℕ) (row : NamesState) → slice_get names n ≡ Some row → NamesStand (length desk.begun.disks) (suc n) now.last.entries (bound_by lines bounds (suc n)) (after_lines lines merged.answers bindings (suc n)) row.named
                stand-at n row at =
                    let within : n < 16 = omega (arith, slice_get_within names n row at, names-long names names_back) in
                    let e = ended-at n within in
                    let there_then = (own-ran n e).stand in
                    let streams : length board.begun.disks ≡ length desk.begun.disks = ap (λ b. length b.disks) opened.run_is in
                    let number : e.one.pass.knows.number ≡ suc n = e.ran_so.number ∙ e.number_is in
                    let told_all : asked_by_caller (suc n) lines merged.answers ≡ asked_own (suc n) lines e.one.answers.items =
                    sym (asked-phase phase (suc n) lines merged.answers those) ∙ own-asked n e within in
                    let seen : NamesStand (length desk.begun.disks) (suc n) e.one.pass.knows.seen (bound_by lines bounds (suc n)) (bindings_of (bindings (suc n)) (asked_own (suc n) lines e.one.answers.items)) e.one.names.named =
                    rw (streams, number, e.number_is) at there_then in
                    rw (names-of names names_back n e.one row e.at at, told_all)
                    (names-keep (standing_of told faults log_told log_faults now).setup (length desk.begun.disks) (suc n) e.one.pass.knows.seen now.last.entries (bound_by lines bounds (suc n)) _ e.one.names.named good (idle-caller n e) seen)

                pub phase-on-board : (count most : ℕ) → room_limit count most (is_alone phase lines) ≡ 32 → PhaseEnds setup (length desk.begun.disks) phase count most bounds bindings lines before after desk.last.entries now.last.entries names
                phase-on-board count most beside = record {
                  served = record {
                    answers = merged.answers;
                    grew = merged.grew;
                    left = record { lines_are = merged.lines_are; ran = λ me lazy ahead. rw beside (ran-of me lazy ahead) };
                  };
                  stand = record { counted = names-long names names_back; each = stand-at };
                }

-- a desk that came back is ready as before, in the same run
module _ {D L Q : Type 0} (told : D → Option Disk) (faults : D → ℕ) (log_told : L → Option Log) (log_faults : L → ℕ) (desk back : DeskState D L Q) (handed : IsHandedBack desk back) where
  pub back-ready : PassIsReady (standing_of told faults log_told log_faults desk) → PassIsReady (standing_of told faults log_told log_faults back)
  back-ready ready = record {
    free = handed.held_is;
    at_rest = handed.under_way_is ∙ ready.at_rest;
  }

  pub back-run : IsSameRun (standing_of told faults log_told log_faults desk) (standing_of told faults log_told log_faults back)
  back-run = record {
    setup = ap (λ b. (standing_of told faults log_told log_faults (record back { begun = b })).setup) handed.run_is;
    streams = ap (λ b. length b.disks) handed.run_is;
    disks = ap (λ b. (standing_of told faults log_told log_faults (record back { begun = b })).disks) handed.run_is;
    logs = ap (λ b. (standing_of told faults log_told log_faults (record back { begun = b })).logs) handed.run_is;
  }
