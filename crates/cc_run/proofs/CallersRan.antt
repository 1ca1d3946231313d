-- The lines of a caller on a board, one more and another's, and what it leaves.
use Rattle.std.specs.Prelude.{◌≡◌, ◌≢◌, ℕ, suc, ◌+◌, ◌<◌, ◌==◌, Bool, true, false, List, [], ◌∷◌, ◌++◌, length, take, drop, refl, vec_capacity}
use Rattle.std.specs.List.{AllByRecursion}
use Rattle.std.proofs.Common.{sym, ap, subst, ◌∙◌, arith, get_or}
use Rattle.std.proofs.lemmas.Bool.{eqb-true, eqb-false}
use Rattle.std.proofs.lemmas.List.{length-append}
use Rattle.cc_entry.specs.declared.answer.Answer.{Answer}
use Rattle.cc_script.specs.declared.script.ActionLine.{ActionLine}
use Rattle.cc_effects.proofs.Stretches.{idle-none}
use Rattle.cc_pieces.specs.Bindings.{Binding}
use Rattle.cc_pieces.specs.Rooms.{HadNoRoom}
use Rattle.cc_pieces.specs.Runs.{Ran, bindings_of}
use Rattle.cc_pieces.proofs.LineSteps.{ran-more}
use Rattle.cc_turns.specs.Desk.{Tells}
use Rattle.cc_turns.specs.Slots.{setup_in}
use Rattle.cc_turns.specs.Standing.{Standing, nothing}
use Rattle.cc_board.specs.Board.{BoardState, SeatedState, seated_pass}
use Rattle.cc_board.specs.View.{turns_held, standing_at}
use Rattle.cc_board.proofs.Names.{same_board}
use Rattle.cc_script.specs.declared.bound.Bound.{Bound}
use Rattle.cc_script.specs.HoldWords.{AreUsedRight, UsesRight, bound_so_far, words_bound}
use Rattle.cc_model.specs.Good.{IsGood}
use Rattle.cc_run.specs.Callers.{MayRun, CallerRan, AllRan, WordsStand, asked_own, count_of_caller}
use Rattle.cc_lines.specs.Holds.{NamesStand, NamesState}
use Rattle.cc_lines.specs.Line.{CanServe, IsServable, LineEnds, WentOn}
use Rattle.cc_lines.specs.Queues.{PlacesWent, queues_of}
use Rattle.cc_lines.specs.declared.queues.Queues.{Queues}
use Rattle.cc_run.specs.declared.callers.Caller.{Caller}
use Rattle.cc_run.specs.declared.callers.FinishedCaller.{FinishedCaller}
use Rattle.cc_run.proofs.Acting.{room-then}
use Rattle.cc_run.proofs.Lists.{all-back, all-front, parted}
use Rattle.cc_run.proofs.PlacesWent.{both-idle, both-then}
use Rattle.cc_run.proofs.Merging.{own-more, own-none, own-other, count-more, count-other}
use Rattle.cc_run.proofs.WordSteps.{bindings-append, bound-long, bound-other, bound-own, right-back, right-first, right-front, words-append, words-first}

-- how many lines of two parts are a caller's
pub count-append : (me : ℕ) (xs ys : List ActionLine) → count_of_caller me (xs ++ ys) ≡ count_of_caller me xs + count_of_caller me ys
count-append me [] ys = omega arith
count-append me (x ∷ xs) ys = by (count-append me xs ys) (x.caller == me) refl
  where
    by : count_of_caller me (xs ++ ys) ≡ count_of_caller me xs + count_of_caller me ys → (b : Bool) → (x.caller == me) ≡ b → count_of_caller me (x ∷ (xs ++ ys)) ≡ count_of_caller me (x ∷ xs) + count_of_caller me ys
    by rest true at =
        let is = eqb-true x.caller me at in
        omega (arith, rest, count-more me x (xs ++ ys) is, count-more me x xs is)
    by rest false at =
        let apart = eqb-false x.caller me at in
        omega (arith, rest, count-other me x (xs ++ ys) apart, count-other me x xs apart)

-- a line of a caller is one more than those of it before
pub count-before : (me : ℕ) (lines : List ActionLine) (i : ℕ) (line : ActionLine) → i < length lines → line ≡ get_or lines i line → line.caller ≡ me → count_of_caller me (take i lines) < count_of_caller me lines
count-before me lines i line low is own =
    let at : (get_or lines i line).caller ≡ me = ap (λ l. l.caller) (sym is) ∙ own in
    omega (arith, ap (count_of_caller me) (parted lines i line low), count-append me (take i lines) (get_or lines i line ∷ drop (suc i) lines), count-more me (get_or lines i line) (drop (suc i) lines) at)

-- one line more of the caller behind the others, and one of another
own-last : (me : ℕ) (lines : List ActionLine) (line : ActionLine) (answers : List Answer) (told : Answer) → line.caller ≡ me → length answers ≡ count_of_caller me lines → asked_own me (lines ++ line ∷ []) (answers ++ told ∷ []) ≡ asked_own me lines answers ++ (line.action, told) ∷ []
own-last me [] line [] told is long = own-more me line [] told [] is
own-last me [] line (a ∷ answers) told is long = absurd (omega (arith, long))
own-last me (l ∷ lines) line answers told is long = by (λ rest same. own-last me lines line rest told is same) (l.caller == me) refl answers long
  where
    by : ((rest : List Answer) → length rest ≡ count_of_caller me lines → asked_own me (lines ++ line ∷ []) (rest ++ told ∷ []) ≡ asked_own me lines rest ++ (line.action, told) ∷ []) → (b : Bool) → (l.caller == me) ≡ b → (rest : List Answer) → length rest ≡ count_of_caller me (l ∷ lines) → asked_own me (l ∷ (lines ++ line ∷ [])) (rest ++ told ∷ []) ≡ asked_own me (l ∷ lines) rest ++ (line.action, told) ∷ []
    by later true at [] same = absurd (omega (arith, same, count-more me l lines (eqb-true l.caller me at)))
    by later true at (a ∷ rest) same =
        let own = eqb-true l.caller me at in
        own-more me l (lines ++ line ∷ []) a (rest ++ told ∷ []) own
        ∙ (ap (λ more. (l.action, a) ∷ more) (later rest (omega (arith, same, count-more me l lines own)))
        ∙ ap (λ more. more ++ (line.action, told) ∷ []) (sym (own-more me l lines a rest own)))
    by later false at rest same =
        let apart = eqb-false l.caller me at in
        own-other me l (lines ++ line ∷ []) (rest ++ told ∷ []) apart
        ∙ (later rest (same ∙ count-other me l lines apart)
        ∙ ap (λ more. more ++ (line.action, told) ∷ []) (sym (own-other me l lines rest apart)))

other-last : (me : ℕ) (lines : List ActionLine) (line : ActionLine) (answers : List Answer) → line.caller ≢ me → asked_own me (lines ++ line ∷ []) answers ≡ asked_own me lines answers
other-last me [] line answers apart = own-other me line [] answers apart
other-last me (l ∷ lines) line answers apart = by (λ rest. other-last me lines line rest apart) (l.caller == me) refl answers
  where
    by : ((rest : List Answer) → asked_own me (lines ++ line ∷ []) rest ≡ asked_own me lines rest) → (b : Bool) → (l.caller == me) ≡ b → (rest : List Answer) → asked_own me (l ∷ (lines ++ line ∷ [])) rest ≡ asked_own me (l ∷ lines) rest
    by later true at [] = refl
    by later true at (a ∷ rest) =
        let own = eqb-true l.caller me at in
        own-more me l (lines ++ line ∷ []) a rest own
        ∙ (ap (λ more. (l.action, a) ∷ more) (later rest) ∙ sym (own-more me l lines a rest own))
    by later false at rest =
        let not = eqb-false l.caller me at in
        own-other me l (lines ++ line ∷ []) rest not ∙ (later rest ∙ sym (own-other me l lines rest not))

went-then : (old between new : Standing) → WentOn old between → WentOn between new → WentOn old new
went-then old between new first second =
    let on : Standing → Standing = λ w. record w { seen = new.seen; others = new.others; device_turns = new.device_turns } in
    record { same = second.same ∙ ap on first.same }

-- what a seated pass knows, and a pass
abbrev pub seat_at : {D L Q : Type 0} → Tells D L Q → SeatedState D L → Standing
seat_at tells s = standing_at tells s.board.id s.knows s.device_turns

abbrev pub seat_of : {D L Q : Type 0} → BoardState D L → Caller D L Q → SeatedState D L
seat_of board caller = record { board = board; knows = caller.pass.knows; device_turns = caller.pass.device_turns }

-- So many lines were run: the pass went on from how it was seated, what it has seen is good, and what is kept of its words
-- stands for it.
pub record RanSoFar {D L Q : Type 0} (tells : Tells D L Q) (board : BoardState D L) (all : List ActionLine) (caller : Caller D L Q)
    (lines : List ActionLine) (answers : List Answer) (seated : SeatedState D L) (names : NamesState) : Type 0 where
  pub went : WentOn (seat_at tells (seat_of board caller)) (seat_at tells seated)
  pub free : turns_held seated.knows ≡ nothing
  pub whole : length answers ≡ count_of_caller caller.pass.knows.number lines
  pub good : IsGood (setup_in tells board.begun) seated.knows.seen
  pub room : names.room ≡ caller.names.room
  pub placed :
      PlacesWent caller.pass.knows.number (asked_own caller.pass.knows.number lines answers)
      caller.names.places names.places caller.pass.knows.seen seated.knows.seen
  pub ran : (bounds : List Bound) (bindings : List Binding) → WordsStand board caller.pass bounds bindings caller.names →
      AreUsedRight caller.pass.knows.number bounds all →
      Ran (setup_in tells board.begun) 32 caller.pass.knows.number bindings
      (asked_own caller.pass.knows.number lines answers) caller.pass.knows.seen seated.knows.seen
      × NamesStand (length board.begun.disks) caller.pass.knows.number seated.knows.seen
      (bound_so_far caller.pass.knows.number bounds lines)
      (bindings_of bindings (asked_own caller.pass.knows.number lines answers)) names.named

-- lines that are none of a caller's bind nothing of it
bound-none : (me : ℕ) (bounds : List Bound) (lines : List ActionLine) → count_of_caller me lines ≡ 0 → bound_so_far me bounds lines ≡ bounds
bound-none me bounds [] none = refl
bound-none me bounds (line ∷ lines) none = by (bound-none me bounds lines) (line.caller == me) refl
  where
    by : (count_of_caller me lines ≡ 0 → bound_so_far me bounds lines ≡ bounds) → (b : Bool) → (line.caller == me) ≡ b → bound_so_far me bounds (line ∷ lines) ≡ bounds
    by rest true at = absurd (omega (arith, none, count-more me line lines (eqb-true line.caller me at)))
    by rest false at = rw at (rest (sym (count-other me line lines (eqb-false line.caller me at)) ∙ none))

module _ {D L Q : Type 0} (tells : Tells D L Q) (board : BoardState D L) (all : List ActionLine) (caller : Caller D L Q) (may : MayRun tells board all caller) where
  abbrev me : ℕ
  me = caller.pass.knows.number

  -- none at first
  pub ran-none : (seated : SeatedState D L) (names : NamesState) → seated.board ≡ board → seated_pass seated ≡ caller.pass → turns_held seated.knows ≡ nothing → names ≡ caller.names → RanSoFar tells board all caller [] [] seated names
  ran-none seated names here is free names_are =
      let same : seated ≡ seat_of board caller = λ i. record { board = here i; knows = (is i).knows; device_turns = (is i).device_turns } in
      let seen : seated.knows.seen ≡ caller.pass.knows.seen = ap (λ p. p.knows.seen) is in
      record {
        went = subst (λ s. WentOn (seat_at tells (seat_of board caller)) (seat_at tells s)) (sym same) (record { same = refl });
        free = free;
        whole = refl;
        good = rw seen may.good;
        room = ap (λ n. n.room) names_are;
        placed = rw (seen, names_are) (both-idle me caller.names.places caller.pass.knows.seen caller.pass.knows.seen (idle-none me caller.pass.knows.seen));
        ran = λ bounds bindings stand right. (rw seen (idle-none me caller.pass.knows.seen), rw (seen, names_are) stand);
      }

  module _ (lines : List ActionLine) (answers : List Answer) (seated : SeatedState D L) (names : NamesState) (ran : RanSoFar tells board all caller lines answers seated names) where
    number-is : seated.knows.number ≡ me
    number-is = ap (λ w. w.number) ran.went.same

    setup-is : (seat_at tells seated).setup ≡ setup_in tells board.begun
    setup-is = ap (λ w. w.setup) ran.went.same ∙ ap (setup_in tells) may.run

    streams-are : (seat_at tells seated).streams ≡ length board.begun.disks
    streams-are = ap (λ w. w.streams) ran.went.same ∙ ap (λ r. length r.disks) may.run

    -- the line that is next is right over what was bound so far
    right-next : (bounds : List Bound) (line : ActionLine) (rest : List ActionLine) → all ≡ lines ++ line ∷ rest → line.caller ≡ me → AreUsedRight me bounds all → UsesRight (bound_so_far me bounds lines) line.action
    right-next bounds line rest parts own right =
        right-first me (bound_so_far me bounds lines) line rest own (right-back me bounds lines (line ∷ rest) (subst (AreUsedRight me bounds) parts right))

    -- it may serve a line
    pub can-serve : (line : ActionLine) (rest : List ActionLine) → all ≡ lines ++ line ∷ rest → line.caller ≡ me → IsServable (length board.begun.disks) line.action → CanServe (seat_at tells seated) line.action names
    can-serve line rest parts own servable =
        let so = ran.ran may.bounds may.bindings may.stand may.right in
        record {
          servable = subst (λ n. IsServable n line.action) (sym streams-are) servable;
          free = ran.free;
          none = ap (λ w. w.in_flight) ran.went.same ∙ may.none;
          good = subst (λ u. IsGood u seated.knows.seen) (sym setup-is) ran.good;
          bounds = bound_so_far me may.bounds lines;
          bindings = bindings_of may.bindings (asked_own me lines answers);
          stand = rw (streams-are, number-is) so.1;
          right = right-next may.bounds line rest parts own may.right;
          room = λ binds_one.
              omega (
                arith,
                so.1.counted,
                bound-long me may.bounds lines (right-front me may.bounds lines (line ∷ rest) (subst (AreUsedRight me may.bounds) parts may.right)),
                may.stand.counted,
                may.word_room,
                ap (words_bound me) parts,
                words-append me lines (line ∷ rest),
                words-first me line rest own binds_one,
                ran.room,
              );
        }

    -- one line of the caller
    pub ran-own : (line : ActionLine) (rest : List ActionLine) (told : Answer) (after : SeatedState D L) (now : NamesState) → all ≡ lines ++ line ∷ rest → line.caller ≡ me → LineEnds (seat_at tells seated) (seat_at tells after) line.action told names now → RanSoFar tells board all caller (lines ++ line ∷ []) (answers ++ told ∷ []) after now
    ran-own line rest told after now parts own ended =
        let went = ended.goes_on in
        let streams_after : (seat_at tells after).streams ≡ length board.begun.disks = ap (λ w. w.streams) went.same ∙ streams-are in
        let number_after : after.knows.number ≡ me = ap (λ w. w.number) went.same ∙ number-is in
        let idle : seated.knows.in_flight ≡ 0 = ap (λ w. w.in_flight) ran.went.same ∙ may.none in
        let most : seated.knows.before + seated.knows.passes ≡ caller.pass.knows.before + caller.pass.knows.passes = ap (λ w. w.most_others) ran.went.same in
        record {
          went = went-then (seat_at tells (seat_of board caller)) (seat_at tells seated) (seat_at tells after) ran.went went;
          free = ap (λ w. w.held) went.same ∙ ran.free;
          whole = omega (arith, length-append answers (told ∷ []), ran.whole, count-append me lines (line ∷ []), count-more me line [] own);
          good = subst (λ u. IsGood u after.knows.seen) setup-is ended.good;
          room = ended.room ∙ ran.room;
          placed =
              let one : PlacesWent me ((line.action, told) ∷ []) names.places now.places seated.knows.seen after.knows.seen =
              subst (λ n. PlacesWent n ((line.action, told) ∷ []) names.places now.places seated.knows.seen after.knows.seen) number-is ended.placed in
              subst (λ l. PlacesWent me l caller.names.places now.places caller.pass.knows.seen after.knows.seen) (sym (own-last me lines line answers told own ran.whole))
              (both-then me (asked_own me lines answers) ((line.action, told) ∷ []) caller.names.places names.places now.places caller.pass.knows.seen seated.knows.seen after.knows.seen
              ran.placed one);
          ran = λ bounds bindings stand right.
              let so = ran.ran bounds bindings stand right in
              let named = bindings_of bindings (asked_own me lines answers) in
              let served = ended.served (bound_so_far me bounds lines) named (rw (streams-are, number-is) so.1) (right-next bounds line rest parts own right) in (
                rw (own-last me lines line answers told own ran.whole)
                    (ran-more (setup_in tells board.begun) 32 me bindings (asked_own me lines answers) line.action told caller.pass.knows.seen seated.knows.seen after.knows.seen so.0
                    (record {
                      served = rw (setup-is, number-is) at served.0;
                      room = subst (λ u. HadNoRoom u 32 told seated.knows.seen after.knows.seen) setup-is
                          (room-then (seat_at tells seated) (seat_at tells after) 32 told idle (omega (arith, most, may.few)) ended.full.1);
                    })),
                rw (own-last me lines line answers told own ran.whole, bound-own me bounds lines line own, bindings-append bindings (asked_own me lines answers) ((line.action, told) ∷ []))
                    (rw (streams_after, number_after) at served.1),
              );
        }

    -- a line of another
    pub ran-other : (line : ActionLine) → line.caller ≢ me → RanSoFar tells board all caller (lines ++ line ∷ []) answers seated names
    ran-other line apart = record {
      went = ran.went;
      free = ran.free;
      whole = omega (arith, ran.whole, count-append me lines (line ∷ []), count-other me line [] apart);
      good = ran.good;
      room = ran.room;
      placed = rw (other-last me lines line answers apart) ran.placed;
      ran = λ bounds bindings stand right. rw (other-last me lines line answers apart, bound-other me bounds lines line apart) (ran.ran bounds bindings stand right);
    }

    -- all were run
    pub caller-ran : (ended : FinishedCaller D L Q) → lines ≡ all → ended.pass ≡ seated_pass seated → ended.answers.items ≡ answers → ended.names ≡ names → CallerRan tells board all caller ended
    caller-ran ended whole is told names_are =
        let seen : ended.pass.knows.seen ≡ seated.knows.seen = ap (λ p. p.knows.seen) is in
        let number : ended.pass.knows.number ≡ me = ap (λ p. p.knows.number) is ∙ number-is in
        record {
          here = ap (λ p. p.board) is ∙ same_board seated.board.id board.id (ap (λ w. w.shared) ran.went.same);
          number = number;
          none = ap (λ p. p.knows.in_flight) is ∙ (ap (λ w. w.in_flight) ran.went.same ∙ may.none);
          whole = ap length told ∙ (ran.whole ∙ ap (count_of_caller me) whole);
          word_room = ap (λ n. n.room) names_are ∙ ran.room;
          placed = rw (← whole, told, seen, names_are) ran.placed;
          ran = λ bounds bindings stand right.
              let so = ran.ran bounds bindings stand right in
              record {
                ran = rw (← whole, told, seen) so.0;
                stand = rw (← whole, told, seen, number, names_are) so.1;
              };
        }

-- a caller that has no room has no lines
pub ran-no_lines : {D L Q : Type 0} (tells : Tells D L Q) (board : BoardState D L) (all : List ActionLine) (caller : Caller D L Q) (ended : FinishedCaller D L Q) → MayRun tells board all caller → vec_capacity caller.room ≡ 0 → ended.pass ≡ caller.pass → ended.answers ≡ caller.room → ended.names ≡ caller.names → CallerRan tells board all caller ended
ran-no_lines tells board all caller ended may zero same none names_are =
    let me = caller.pass.knows.number in
    let empty : ended.answers.items ≡ [] = ap (λ v. v.items) none ∙ may.room.empty in
    let no_lines : count_of_caller me all ≡ 0 = omega (arith, may.room.room, zero) in
    let seen : ended.pass.knows.seen ≡ caller.pass.knows.seen = ap (λ p. p.knows.seen) same in
    let number : ended.pass.knows.number ≡ me = ap (λ p. p.knows.number) same in
    record {
      here = ap (λ p. p.board) same ∙ may.here;
      number = number;
      none = ap (λ p. p.knows.in_flight) same ∙ may.none;
      whole = omega (arith, ap length empty, no_lines);
      word_room = ap (λ n. n.room) names_are;
      placed = rw (empty, own-none me all, seen, names_are) (both-idle me caller.names.places caller.pass.knows.seen caller.pass.knows.seen (idle-none me caller.pass.knows.seen));
      ran = λ bounds bindings stand right. record {
        ran = rw (empty, own-none me all, seen) (idle-none me caller.pass.knows.seen);
        stand = rw (empty, own-none me all, bound-none me bounds all no_lines, seen, number, names_are) stand;
      };
    }

-- as many ended as there were callers, and one more behind them
pub all-ran-long : {D L Q : Type 0} (tells : Tells D L Q) (board : BoardState D L) (lines : List ActionLine) (callers : List (Caller D L Q)) (ended : List (FinishedCaller D L Q)) → AllRan tells board lines callers ended → length ended ≡ length callers
all-ran-long tells board lines [] [] ran = refl
all-ran-long tells board lines [] (e ∷ ended) ran = absurd ran
all-ran-long tells board lines (c ∷ callers) [] ran = absurd ran
all-ran-long tells board lines (c ∷ callers) (e ∷ ended) ran = ap (λ n. suc n) (all-ran-long tells board lines callers ended ran.1)

pub all-ran-last : {D L Q : Type 0} (tells : Tells D L Q) (board : BoardState D L) (lines : List ActionLine) (callers : List (Caller D L Q)) (ended : List (FinishedCaller D L Q)) (caller : Caller D L Q) (one : FinishedCaller D L Q) → AllRan tells board lines callers ended → CallerRan tells board lines caller one → AllRan tells board lines (callers ++ caller ∷ []) (ended ++ one ∷ [])
all-ran-last tells board lines [] [] caller one ran last = (last, tt)
all-ran-last tells board lines [] (e ∷ ended) caller one ran last = absurd ran
all-ran-last tells board lines (c ∷ callers) [] caller one ran last = absurd ran
all-ran-last tells board lines (c ∷ callers) (e ∷ ended) caller one ran last = (ran.0, all-ran-last tells board lines callers ended caller one ran.1 last)

-- the places of all but the last, and that of the last, are at the queues
pub own-parts : {D L Q : Type 0} (queues : Queues) (callers front : List (Caller D L Q)) (last : Caller D L Q) → callers ≡ front ++ last ∷ [] → AllByRecursion (λ (caller : Caller D L Q). queues_of caller.names.places ≡ queues) callers → AllByRecursion (λ (caller : Caller D L Q). queues_of caller.names.places ≡ queues) front × (queues_of last.names.places ≡ queues)
own-parts {D = D} {L = L} {Q = Q} queues callers front last is own =
    let Own : Caller D L Q → Type 0 = λ caller. queues_of caller.names.places ≡ queues in
    let all : AllByRecursion Own (front ++ last ∷ []) = subst (AllByRecursion Own) is own in
    (all-front Own front (last ∷ []) all, (all-back Own front (last ∷ []) all).0)
