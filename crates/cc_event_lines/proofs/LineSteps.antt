-- How the lines of a script are stepped through: what one line leaves, and several one after the other.
use Rattle.std.specs.Prelude.{◌≡◌, ℕ, suc, ◌+◌, ◌<◌, ◌≤◌, Bool, true, false, List, [], ◌∷◌, ◌++◌, drop, get_or, length, refl, if◌then◌else◌, ◌⊎◌}
use Rattle.std.specs.declared.option.Option.{Option}
use Rattle.std.specs.declared.option.Option.TheVariants.{Some, None}
use Rattle.std.proofs.Common.{ap, append_assoc, arith, inl, inr, length-append, subst, sym, ◌∙◌, ⊎_elim}
use Rattle.std.proofs.Math.Path.{fun_ext}
use Rattle.std.proofs.Math.Seq.{drop-cons}
use Rattle.std.proofs.lemmas.List.{length-map}
use Rattle.cc_entry.specs.declared.answer.Answer.{Answer}
use Rattle.cc_entry.specs.declared.answer.Answer.TheVariants as answer
use Rattle.cc_entry.specs.declared.answer.LineReply.{LineReply}
use Rattle.cc_entry.specs.declared.call.Call.{Call}
use Rattle.cc_entry.specs.declared.entry.Entry.{Entry}
use Rattle.cc_entry.specs.declared.error.CcError.TheVariants as error
use Rattle.cc_entry.specs.declared.hold.HoldKind.{HoldKind}
use Rattle.cc_model.specs.Setup.{Setup}
use Rattle.cc_script.specs.EventActions.{defer_lines, is_defer}
use Rattle.cc_script.specs.HoldWords.{binds}
use Rattle.cc_script.specs.declared.script.Action.{Action}
use Rattle.cc_script.specs.declared.script.Action.TheVariants as action
use Rattle.cc_script.specs.declared.script.ActionLine.{ActionLine}
use Rattle.cc_pieces.specs.Bindings.{Binding}
use Rattle.cc_pieces.specs.Events.{Doing, Happens, Makes, NamesNone, doing_of, event_by}
use Rattle.cc_pieces.specs.Steps.{LineStepped, LinesStepped, bindings_behind, deferral_in, deferrals_of_lines, line_event}
use Rattle.cc_turns.specs.Desk.{Begun, Tells}
use Rattle.cc_world.specs.World.{WorldState}
use Rattle.cc_effects.specs.declared.events.Event.{Event}
use Rattle.cc_effects.specs.declared.events.Event.TheVariants as event
use Rattle.cc_effects.specs.declared.events.StepReply.TheVariants as step
use Rattle.cc_event_lines.specs.Doing.{IsCopied}
use Rattle.cc_event_lines.specs.Happening.{without_routine}
use Rattle.cc_event_lines.specs.Lines.{LineWent, LinesWent, RoutinesWent, WasAnswered, event_of_call, taken_by}
use Rattle.cc_event_lines.specs.Names.{bindings_in, hold_told, named_behind, pinned_by, with_made, word_made, word_pinned, words_in}
use Rattle.cc_event_lines.specs.Routines.{RoutinesStand, RoutinesState, deferrals_of_slots}
use Rattle.cc_event_lines.specs.declared.names.NamedHold.{NamedHold}
use Rattle.cc_event_lines.specs.declared.routines.RoutineSlot.{RoutineSlot}
use Rattle.cc_event_lines.proofs.Deferrals.{routines-kept, still-quiet}
use Rattle.cc_event_lines.proofs.KnownLines.{copied-no-deferral, no-defer}
use Rattle.cc_event_lines.proofs.NameSteps.{named-follow}
use Rattle.cc_event_lines.proofs.StreamSteps.{nothing-left, nothing-on}
use Rattle.cc_turns.specs.Slots.{setup_in}

-- a line that took no routine
none-taken : (asked : Action) (told : Answer) → is_defer asked ≡ false → [] ≡ taken_by asked told
none-taken asked told other = rw other refl

-- A line whose event neither defers nor posts a write.
pub line-went : {D L Q : Type 0} (tells : Tells D L Q) (w v : WorldState D L Q) (r : RoutinesState Q) (bindings : List Binding) (line : ActionLine) (told : Answer) (it : Event (Unit {0})) → line_event bindings line ≡ Some it → is_defer line.action ≡ false → WasAnswered tells it told w v → RoutinesStand tells.posted w.journal.entries w.journal.queue r → LineWent tells bindings line told w v r r
line-went tells w v r bindings line told it is other was stand = record {
  stepped = subst (λ (o : Option (Event (Unit {0}))). LineStepped (setup_in tells w.begun) o told w.journal.entries v.journal.entries) (sym is) was.answered;
  begun = was.begun;
  routines = subst (λ (taken : List (Option ℕ)). RoutinesWent tells taken v r r) (none-taken line.action told other) (routines-kept tells w v r was.quiet was.queue stand);
}

pub happens-is : (me : ℕ) (fails : Bool) (bindings : List Binding) (asked : Action) (it : Event (Unit {0})) → Happens it ≡ doing_of me bindings asked → event_by me fails (doing_of me bindings asked) ≡ Some it
happens-is me fails bindings asked it is = ap (event_by me fails) (sym is)

pub makes-is : (me : ℕ) (fails : Bool) (d : Doing) (it : Call) → Makes it ≡ d → event_by me fails d ≡ Some (without_routine (event_of_call {Q = Unit {0}} me fails it))
makes-is me true d it is = ap (event_by me true) (sym is)
makes-is me false d it is = ap (event_by me false) (sym is)

-- the event of a call is the same without a routine
pub called-same : (Q : Type 0) (me : ℕ) (fails : Bool) (it : Call) → without_routine (event_of_call {Q = Q} me fails it) ≡ without_routine (event_of_call {Q = Unit {0}} me fails it)
called-same Q me true it = refl
called-same Q me false it = refl

-- Where there is no memory for the bytes of a line, nothing happened.
wanting-so : (u : Setup) (me : ℕ) (fails : Bool) (d : Doing) (past : List Entry) → IsCopied d → LineStepped u (event_by me fails d) (answer.Refused error.NoMemory) past past
wanting-so u me fails (Happens (event.Append pass handle bytes)) past copied = record { reply = step.Refused error.NoMemory; answer_is = refl; left = ([], refl, refl) }
wanting-so u me fails (Happens other) past copied = absurd copied
wanting-so u me true (Makes it) past copied = record { reply = step.Refused error.NoMemory; answer_is = refl; left = ([], refl, refl) }
wanting-so u me false (Makes it) past copied = record { reply = step.Refused error.NoMemory; answer_is = refl; left = ([], refl, refl) }
wanting-so u me fails NamesNone past copied = absurd copied

pub line-wanting : {D L Q : Type 0} (tells : Tells D L Q) (w : WorldState D L Q) (r : RoutinesState Q) (bindings : List Binding) (line : ActionLine) → IsCopied (doing_of line.caller bindings line.action) → RoutinesStand tells.posted w.journal.entries w.journal.queue r → LineWent tells bindings line (answer.Refused error.NoMemory) w w r r
line-wanting tells w r bindings line copied stand = record {
  stepped = wanting-so (setup_in tells w.begun) line.caller line.fails (doing_of line.caller bindings line.action) w.journal.entries copied;
  begun = refl;
  routines = subst (λ (taken : List (Option ℕ)). RoutinesWent tells taken w r r)
      (none-taken line.action (answer.Refused error.NoMemory) (no-defer line.caller bindings line.action (copied-no-deferral (doing_of line.caller bindings line.action) copied)))
      (routines-kept tells w w r (still-quiet w.journal.entries w.journal.entries refl) refl stand);
}

-- a line that binds a word may name one hold more
made-or : (asked : Action) → (binds asked ≡ true) ⊎ (word_made asked ≡ None)
made-or (action.Map file at len word) = inl refl
made-or (action.PinRead file at len word exclusive) = inl refl
made-or (action.PreparePin file at len word zeroes exclusive) = inl refl
made-or (action.Repin word made) = inl refl
made-or (action.MdlRead file at len word) = inl refl
made-or (action.MdlWrite file at len word) = inl refl
made-or other = inr refl

with-made-most : (me : ℕ) (made : Option (ℕ × HoldKind)) (pins : Option ℕ) (id : ℕ) (named : List NamedHold) → length (with_made me made pins id named) ≤ length named + 1
with-made-most me (Some made) pins id named = omega arith
with-made-most me None (Some word) id named = omega (arith, length-map named (pinned_by me word))
with-made-most me None None id named = omega arith

with-none-most : (me : ℕ) (pins : Option ℕ) (id : ℕ) (named : List NamedHold) → length (with_made me None pins id named) ≤ length named
with-none-most me (Some word) id named = omega (arith, length-map named (pinned_by me word))
with-none-most me None id named = omega arith

named-most : (line : ActionLine) (o : Option ℕ) (named : List NamedHold) → length (named_behind line o named) ≤ length named + (if binds line.action then 1 else 0)
named-most line None named = omega arith
named-most line (Some id) named =
    ⊎_elim (λ (binds_one : binds line.action ≡ true). rw binds_one (with-made-most line.caller (word_made line.action) (word_pinned line.action) id named))
    (λ (none : word_made line.action ≡ None). rw none (more (length (with_made line.caller None (word_pinned line.action) id named)) (length named) (if binds line.action then 1 else 0) (with-none-most line.caller (word_pinned line.action) id named)))
    (made-or line.action)
  where
    more : (a b c : ℕ) → a ≤ b → a ≤ b + c
    more a b c less = omega arith

words-first : (line : ActionLine) (lines : List ActionLine) → words_in (line ∷ lines) ≡ (if binds line.action then 1 else 0) + words_in lines
words-first line lines = by (binds line.action)
  where
    by : (b : Bool) → (if b then suc (words_in lines) else words_in lines) ≡ (if b then 1 else 0) + words_in lines
    by true = omega arith
    by false = omega arith

defers-first : (line : ActionLine) (lines : List ActionLine) (told : Answer) → defer_lines (line ∷ lines) ≡ length (taken_by line.action told) + defer_lines lines
defers-first line lines told = by (is_defer line.action)
  where
    by : (b : Bool) → (if b then suc (defer_lines lines) else defer_lines lines) ≡ length (if b then deferral_in told ∷ [] else []) + defer_lines lines
    by true = omega arith
    by false = omega arith

taken-first : (line : ActionLine) (lines : List ActionLine) (reply : LineReply) (replies : List LineReply) → deferrals_of_lines (line ∷ lines) (reply ∷ replies) ≡ taken_by line.action reply.answer ++ deferrals_of_lines lines replies
taken-first line lines reply replies = by (is_defer line.action)
  where
    by : (b : Bool) → (if b then deferral_in reply.answer ∷ deferrals_of_lines lines replies else deferrals_of_lines lines replies) ≡ (if b then deferral_in reply.answer ∷ [] else []) ++ deferrals_of_lines lines replies
    by true = refl
    by false = refl

-- as many routines are left as the lines took
unused-left : {Q : Type 0} (r s : RoutinesState Q) (taken : List (Option ℕ)) → deferrals_of_slots s.slots ≡ deferrals_of_slots r.slots ++ taken → s.handed ≡ r.handed → length r.slots + length r.unused ≡ length r.handed → length s.slots + length s.unused ≡ length s.handed → length s.unused + length taken ≡ length r.unused
unused-left {Q} r s taken is same before behind =
    omega (arith, ap length is, length-append (deferrals_of_slots r.slots) taken, length-map r.slots (λ (slot : RoutineSlot Q). slot.deferral), length-map s.slots (λ (slot : RoutineSlot Q). slot.deferral), ap length same)

-- The first so many lines happened, and what the others leave goes on from there.
pub record LinesSoFar {D L Q : Type 0} (tells : Tells D L Q) (lines : List ActionLine) (n : ℕ) (named now_named : List NamedHold) (room : ℕ)
    (replied replies : List LineReply) (old new : WorldState D L Q) (r s : RoutinesState Q) : Type 0 where
  pub answers : List LineReply
  pub replies_are : replies ≡ replied ++ answers
  pub goes_on : (more : List LineReply) (end : List Entry) → LinesStepped (setup_in tells old.begun) (bindings_in now_named) (drop n lines) more new.journal.entries end → LinesStepped (setup_in tells old.begun) (bindings_in named) lines (answers ++ more) old.journal.entries end
  pub taken : (more : List LineReply) → deferrals_of_slots s.slots ++ deferrals_of_lines (drop n lines) more ≡ deferrals_of_slots r.slots ++ deferrals_of_lines lines (answers ++ more)
  pub begun : new.begun ≡ old.begun
  pub stand : RoutinesStand tells.posted new.journal.entries new.journal.queue s
  pub handed : s.handed ≡ r.handed
  pub enough : defer_lines (drop n lines) ≤ length s.unused
  pub words : length now_named + words_in (drop n lines) ≤ room

pub no-line-yet : {D L Q : Type 0} (tells : Tells D L Q) (lines : List ActionLine) (named : List NamedHold) (room : ℕ) (replied : List LineReply) (w : WorldState D L Q) (r : RoutinesState Q) → RoutinesStand tells.posted w.journal.entries w.journal.queue r → defer_lines lines ≤ length r.unused → length named + words_in lines ≤ room → LinesSoFar tells lines 0 named named room replied replied w w r r
no-line-yet tells lines named room replied w r stand enough words = record {
  answers = [];
  replies_are = sym (nothing-on replied);
  goes_on = λ more end stepped. stepped;
  taken = λ more. refl;
  begun = refl;
  stand = stand;
  handed = refl;
  enough = enough;
  words = words;
}

module _ {D L Q : Type 0} (tells : Tells D L Q) (lines : List ActionLine) (n : ℕ) (named now : List NamedHold) (room : ℕ) (replied replies : List LineReply) (w v : WorldState D L Q) (r s : RoutinesState Q) (line : ActionLine) (within : n < length lines) (at : line ≡ get_or lines n line) (so_far : LinesSoFar tells lines n named now room replied replies w v r s) where
  this-next : drop n lines ≡ line ∷ drop (suc n) lines
  this-next = drop-cons lines n line within ∙ ap (λ (l : ActionLine). l ∷ drop (suc n) lines) (sym at)

  -- there is a routine for it, and room for its word
  pub line-enough : is_defer line.action ≡ true → 0 < length s.unused
  line-enough defers =
      let first : defer_lines (line ∷ drop (suc n) lines) ≡ suc (defer_lines (drop (suc n) lines)) = rw defers refl in
      omega (arith, so_far.enough, ap defer_lines this-next, first)

  pub line-room : binds line.action ≡ true → length now < room
  line-room binds_one =
      let first : words_in (line ∷ drop (suc n) lines) ≡ suc (words_in (drop (suc n) lines)) = rw binds_one refl in
      omega (arith, so_far.words, ap words_in this-next, first)

  module _ (grown : List LineReply) (later : List NamedHold) (next : WorldState D L Q) (t : RoutinesState Q) (told : Answer) (grown_is : grown ≡ replies ++ record { line = line.line; answer = told } ∷ []) (later_is : later ≡ named_behind line (hold_told told) now) (went : LineWent tells (bindings_in now line.caller) line told v next s t) where
    abbrev reply : LineReply
    reply = record { line = line.line; answer = told }

    same-setup : setup_in tells v.begun ≡ setup_in tells w.begun
    same-setup = ap (λ (begun : Begun D L). setup_in tells begun) so_far.begun

    bindings-on : bindings_in later ≡ bindings_behind line told (bindings_in now)
    bindings-on = ap (λ (ns : List NamedHold). bindings_in ns) later_is ∙ fun_ext (λ me. named-follow line told now me)

    step-on : (more : List LineReply) (end : List Entry) → LinesStepped (setup_in tells w.begun) (bindings_in later) (drop (suc n) lines) more next.journal.entries end → LinesStepped (setup_in tells w.begun) (bindings_in named) lines ((so_far.answers ++ reply ∷ []) ++ more) w.journal.entries end
    step-on more end stepped =
        let here : LineStepped (setup_in tells w.begun) (line_event (bindings_in now line.caller) line) told v.journal.entries next.journal.entries =
        subst (λ (u : Setup). LineStepped u (line_event (bindings_in now line.caller) line) told v.journal.entries next.journal.entries) same-setup went.stepped in
        let rest : LinesStepped (setup_in tells w.begun) (bindings_behind line told (bindings_in now)) (drop (suc n) lines) more next.journal.entries end =
        subst (λ (bs : ℕ → List Binding). LinesStepped (setup_in tells w.begun) bs (drop (suc n) lines) more next.journal.entries end) bindings-on stepped in
        subst (λ (rs : List LineReply). LinesStepped (setup_in tells w.begun) (bindings_in named) lines rs w.journal.entries end) (sym (append_assoc so_far.answers (reply ∷ []) more))
        (so_far.goes_on (reply ∷ more) end
        (subst (λ (left : List ActionLine). LinesStepped (setup_in tells w.begun) (bindings_in now) left (reply ∷ more) v.journal.entries end) (sym this-next)
        (next.journal.entries, refl, here, rest)))

    taken-on : (more : List LineReply) → deferrals_of_slots t.slots ++ deferrals_of_lines (drop (suc n) lines) more ≡ deferrals_of_slots r.slots ++ deferrals_of_lines lines ((so_far.answers ++ reply ∷ []) ++ more)
    taken-on more =
        ap (λ (ds : List (Option ℕ)). ds ++ deferrals_of_lines (drop (suc n) lines) more) went.routines.deferrals
        ∙ (append_assoc (deferrals_of_slots s.slots) (taken_by line.action told) (deferrals_of_lines (drop (suc n) lines) more)
        ∙ (ap (λ (ds : List (Option ℕ)). deferrals_of_slots s.slots ++ ds) (sym (taken-first line (drop (suc n) lines) reply more))
        ∙ (ap (λ (left : List ActionLine). deferrals_of_slots s.slots ++ deferrals_of_lines left (reply ∷ more)) (sym this-next)
        ∙ (so_far.taken (reply ∷ more) ∙ ap (λ (rs : List LineReply). deferrals_of_slots r.slots ++ deferrals_of_lines lines rs) (sym (append_assoc so_far.answers (reply ∷ []) more))))))

    so-far-on : LinesSoFar tells lines (suc n) named later room replied grown w next r t
    so-far-on = record {
      answers = so_far.answers ++ reply ∷ [];
      replies_are = grown_is ∙ (ap (λ (rs : List LineReply). rs ++ reply ∷ []) so_far.replies_are ∙ append_assoc replied so_far.answers (reply ∷ []));
      goes_on = step-on;
      taken = taken-on;
      begun = went.begun ∙ so_far.begun;
      stand = went.routines.stand;
      handed = went.routines.handed ∙ so_far.handed;
      enough = omega (arith, so_far.enough, ap defer_lines this-next, defers-first line (drop (suc n) lines) told, unused-left s t (taken_by line.action told) went.routines.deferrals went.routines.handed so_far.stand.counted went.routines.stand.counted);
      words = omega (arith, so_far.words, ap words_in this-next, words-first line (drop (suc n) lines), ap length later_is, named-most line (hold_told told) now);
    }

    pub line-further : LinesSoFar tells lines (n + 1) named later room replied grown w next r t
    line-further = subst (λ (m : ℕ). LinesSoFar tells lines m named later room replied grown w next r t) (one-on n) so-far-on
      where
        one-on : (n : ℕ) → suc n ≡ n + 1
        one-on n = omega arith

-- All lines happened.
pub lines-went : {D L Q : Type 0} (tells : Tells D L Q) (lines : List ActionLine) (n : ℕ) (named now : List NamedHold) (room : ℕ) (replied replies : List LineReply) (w v : WorldState D L Q) (r s : RoutinesState Q) → length lines ≤ n → LinesSoFar tells lines n named now room replied replies w v r s → LinesWent tells (bindings_in named) lines replied replies w v r s
lines-went tells lines n named now room replied replies w v r s all so_far =
    let left = nothing-left n lines all in
    record {
      answers = so_far.answers;
      replies_are = so_far.replies_are;
      stepped = subst (λ (rs : List LineReply). LinesStepped (setup_in tells w.begun) (bindings_in named) lines rs w.journal.entries v.journal.entries) (nothing-on so_far.answers)
          (so_far.goes_on [] v.journal.entries
          (subst (λ (ls : List ActionLine). LinesStepped (setup_in tells w.begun) (bindings_in now) ls [] v.journal.entries v.journal.entries) (sym left) refl));
      begun = so_far.begun;
      routines = record {
        stand = so_far.stand;
        deferrals = sym (nothing-on (deferrals_of_slots s.slots))
            ∙ (ap (λ (ls : List ActionLine). deferrals_of_slots s.slots ++ deferrals_of_lines ls []) (sym left)
            ∙ (so_far.taken [] ∙ ap (λ (rs : List LineReply). deferrals_of_slots r.slots ++ deferrals_of_lines lines rs) (nothing-on so_far.answers)));
        handed = so_far.handed;
      };
    }
