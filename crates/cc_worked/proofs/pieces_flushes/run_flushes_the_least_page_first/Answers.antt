-- The opening, the two writes and the flush; and what the flush began, behind the entry of the second write.
use Rattle.std.specs.Prelude.{◌≡◌, ◌≢◌, ℕ, ◌^◌, ◌==◌, Bool, true, false, List, [], ◌∷◌, ◌++◌, refl}
use Rattle.std.specs.declared.option.Option.{Option}
use Rattle.std.specs.declared.option.Option.TheVariants.{Some}
use Rattle.std.specs.List.{IsDistinct}
use Rattle.std.proofs.Common.{arith, inl, subst, sym, ◌∙◌}
use Rattle.std.proofs.lemmas.Bool.{eqb-true}
use Rattle.cc_entry.specs.declared.answer.LineReply.{LineReply}
use Rattle.cc_entry.specs.declared.call.Call.{Call}
use Rattle.cc_entry.specs.declared.call.Call.TheVariants as call
use Rattle.cc_entry.specs.declared.entry.Entry.{Entry}
use Rattle.cc_entry.specs.declared.entry.Entry.TheVariants as entry
use Rattle.cc_entry.specs.declared.reply.Reply.TheVariants as reply
use Rattle.cc_entry.specs.declared.reply.Outcome.TheVariants as outcome
use Rattle.cc_effects.specs.Begins.{AscendWithin, BeginsAscending}
use Rattle.cc_effects.specs.Calls.{CallLeft}
use Rattle.cc_effects.specs.Moments.{own, IsIdle}
use Rattle.cc_effects.specs.PageWrites.{pages_begun}
use Rattle.cc_pieces.specs.Explained.{answered_lines}
use Rattle.cc_pieces.specs.Phases.{Plan, PhaseRan, PhasesRan, limit_in, lines_before, lines_in}
use Rattle.cc_pieces.specs.Runs.{Ran, bindings_of}
use Rattle.cc_effects.proofs.Begun.{ascend-after, ascend-before}
use Rattle.cc_effects.proofs.Starts.{begins as under-way, brings, ends_done}
use Rattle.cc_effects.proofs.Stretches.{idle-none}
use Rattle.cc_worked.specs.Values.{setup, a, page, done, read_in, begins, ends, synced}
use Rattle.cc_worked.specs.PiecesRuns.{initialises, opens, unit_at}
use Rattle.cc_worked.specs.PiecesWrites.{both_dirty}
use Rattle.cc_worked.specs.PiecesFlushes.{write_both_and_flush, flushing_replies, flushing_told, lesser_first, greater_first}
use Rattle.cc_worked.proofs.PiecesOpened.{computed}
use Rattle.cc_worked.proofs.BeginOrders.{both-ascend, both-flushed}
use Rattle.cc_worked.proofs.pieces_flushes.run_flushes_the_least_page_first.Goals as goal

abbrev plan : Plan
plan = record { lines = write_both_and_flush; answers = flushing_replies; ticks = 0; aheads = 0 }

abbrev first_write : Call
first_write = call.CopyWrite a 0 (171 ∷ [])

abbrev second_write : Call
second_write = call.CopyWrite a 4096 (171 ∷ [])

-- the first write alone
abbrev one_written : List Entry
one_written = done 1 1 first_write ∷ read_in 1 0 ∷ opens

first-written : CallLeft setup 1 first_write (outcome.Done reply.Unit) opens one_written
unfolding computed
first-written =
    ends_done 1 1 (Some 0) first_write reply.Unit opens (read_in 1 0 ∷ opens) (brings 1 first_write opens opens (page 0) true (under-way 1 first_write opens) refl refl refl) refl (λ during. tt)

second-written : CallLeft setup 1 second_write (outcome.Done reply.Unit) one_written both_dirty
unfolding computed
second-written =
    ends_done 1 2 (Some 0) second_write reply.Unit one_written (read_in 1 1 ∷ one_written) (brings 1 second_write one_written one_written (page 1) true (under-way 1 second_write one_written) refl refl refl) refl (λ during. tt)

-- what the passes of the run placed behind the opening
abbrev placed : List Entry
placed = lesser_first ++ (done 1 2 second_write ∷ read_in 1 1 ∷ done 1 1 first_write ∷ read_in 1 0 ∷ [])

idle_beside : (me : ℕ) → (1 == me) ≡ false → IsIdle me opens (lesser_first ++ both_dirty)
idle_beside me other = record {
  during = placed;
  grew = refl;
  others = (other, (other, (other, (other, (other, (other, (other, (other, (other, (other, tt))))))))));
}

its-lines : Ran setup (limit_in plan 1) 1 (bindings_of [] (lines_before plan 1 1)) (lines_in plan 1 1) opens (lesser_first ++ both_dirty)
its-lines = (
  one_written,
  record { served = first-written; room = tt },
  (
    both_dirty,
    record { served = second-written; room = tt },
    (
      lesser_first ++ both_dirty,
      record { served = record { left = both-flushed; ascending = both-ascend }; room = tt },
      idle-none 1 (lesser_first ++ both_dirty),
    ),
  ),
)

each-caller : (me : ℕ) → Ran setup (limit_in plan 1) me (bindings_of [] (lines_before plan 1 me)) (lines_in plan 1 me) opens (lesser_first ++ both_dirty)
each-caller me = by (1 == me) refl
  where
    by : (is : Bool) → (1 == me) ≡ is → Ran setup (limit_in plan 1) me (bindings_of [] (lines_before plan 1 me)) (lines_in plan 1 me) opens (lesser_first ++ both_dirty)
    by true same = let one : me ≡ 1 = sym (eqb-true 1 me same) in rw one its-lines
    by false other = rw other (idle_beside me other)

the-phase : PhaseRan setup plan 1 [] [] [] opens (lesser_first ++ both_dirty)
the-phase = record {
  callers = λ me x y. each-caller me;
  all_ticks = refl;
  ticks = idle_beside 17 refl;
  all_steps = inl refl;
  steps = (refl, idle_beside 18 refl);
}

-- no caller places anything in the opening
alone : (me : ℕ) → me ≢ 0 → IsIdle me [] opens
alone me not = record { during = opens; grew = refl; others = (by (0 == me) refl, tt) }
  where
    by : (is : Bool) → (0 == me) ≡ is → (0 == me) ≡ false
    by true same = absurd (not (sym (eqb-true 0 me same)))
    by false other = other

pub returns-clause-explained : goal.returns-clause-explained
unfolding IsDistinct
returns-clause-explained c = record {
  ended = [];
  setup = unit_at 1 ∷ [];
  answers = flushing_replies;
  restarted = [];
  begun = opens;
  replies_are = refl;
  restart_lines = refl;
  setup_lines = refl;
  answer_lines = refl;
  restarts_ended = idle-none 0 [];
  opened = (opens, record { opened = ends_done 0 1 (Some 0) initialises reply.Unit [] [] (under-way 0 initialises []) refl (λ during. tt); room = λ none. tt }, idle-none 0 opens);
  alone = alone;
  ran = (lesser_first ++ both_dirty, 0, 0, the-phase, (refl, refl, refl, refl));
  posted_once = tt;
}

-- no reply is that of a restart
no-ended : (ended its answers : List LineReply) → answered_lines ended ≡ [] → flushing_told.replies ≡ ended ++ (its ++ answers) → flushing_told.replies ≡ its ++ answers
no-ended [] its answers none replies = replies
no-ended (first ∷ ended) its answers none replies = absurd (cc)

-- the first reply is the stream's, the others are those of the lines
answers_are : (its answers : List LineReply) → flushing_told.replies ≡ its ++ answers → answered_lines its ≡ 1 ∷ [] → answers ≡ flushing_replies
answers_are [] answers replies lines = absurd (cc)
answers_are (first ∷ []) answers replies lines = cc
answers_are (first ∷ next ∷ rest) answers replies lines = absurd (cc)

not_writer : ◌≡◌ {A = ℕ} 1 17 → ⊥
not_writer same = omega (arith, same)

not_worker : ◌≡◌ {A = ℕ} 1 18 → ⊥
not_worker same = omega (arith, same)

-- all that stands behind the entry of the second write has both begins, the greater first
behind : (during rest : List Entry) (nth : ℕ) (stream : Option ℕ) → greater_first ++ both_dirty ≡ during ++ (entry.Call 1 nth stream second_write (outcome.Done reply.Unit) ∷ rest) → AscendWithin 0 (2 ^ 51) (pages_begun (own 1 during)) → ⊥
behind [] rest nth stream same ascend = absurd (cc)
behind (e1 ∷ []) rest nth stream same ascend = absurd (cc)
behind (e1 ∷ e2 ∷ []) rest nth stream same ascend = absurd (cc)
behind (e1 ∷ e2 ∷ e3 ∷ []) rest nth stream same ascend = absurd (cc)
behind (e1 ∷ e2 ∷ e3 ∷ e4 ∷ []) rest nth stream same ascend = absurd (cc)
behind (e1 ∷ e2 ∷ e3 ∷ e4 ∷ e5 ∷ []) rest nth stream same ascend = absurd (cc)
behind (e1 ∷ e2 ∷ e3 ∷ e4 ∷ e5 ∷ e6 ∷ during) rest nth stream same ascend =
    let heads : e1 ∷ e2 ∷ e3 ∷ e4 ∷ e5 ∷ e6 ∷ [] ≡ greater_first = cc in
    back (subst (λ (l : List Entry). AscendWithin 0 (2 ^ 51) (pages_begun (own 1 (l ++ during)))) heads ascend)
  where
    back : AscendWithin 0 (2 ^ 51) (pages_begun (own 1 (greater_first ++ during))) → ⊥
    back begun = let less = begun.1.0 in omega (arith, less)

otherwise : (begun : List Entry) → PhasesRan setup plan 1 1 [] [] [] begun (greater_first ++ both_dirty) → ⊥
otherwise begun ran =
    let lines = ran.3.callers 1 not_writer not_worker in
    let write = lines.2.1.served in
    let flush = lines.2.2 in
    let to_the_end = ascend-after 1 0 (2 ^ 51) lines.2.0 flush.0 ran.0 flush.1.served.ascending flush.2 in
    let front = entry.Call 1 write.placed.nth write.placed.stream second_write (outcome.Done reply.Unit) ∷ (write.earlier ++ lines.0) in
    let from_its_entry = ascend-before 1 0 (2 ^ 51) front lines.2.0 ran.0 (record { during = write.placed.later; grew = write.placed.grew; others = write.placed.quiet }) to_the_end in
    behind from_its_entry.during (write.earlier ++ lines.0) write.placed.nth write.placed.stream (ran.4.3 ∙ from_its_entry.grew) from_its_entry.ascend

pub returns-clause-not_otherwise : goal.returns-clause-not_otherwise
returns-clause-not_otherwise c left =
    let replies = no-ended left.ended left.setup left.answers left.restart_lines left.replies_are in
    let answers = answers_are left.setup left.answers replies left.setup_lines in
    let ran : PhasesRan setup plan 1 1 [] [] [] left.begun (greater_first ++ both_dirty) = rw answers at left.ran in
    otherwise left.begun ran
