-- The script that the generator gives keeps within what a run of steps relies on.
use Rattle.std.proofs.Common.{◌≡◌, ℕ, zero, suc, ◌+◌, ◌-◌, ◌*◌, ◌/◌, ◌%◌, ◌<◌, ◌≤◌, ◌==◌, ◌||◌, ◌^◌, Bool, true, false, List, [], ◌∷◌, ◌++◌, length, if◌then◌else◌, refl, sym, ◌∙◌, ap, subst, append-nil, append_assoc, lit≤, arith}
use Rattle.std.specs.List.{AllByRecursion}
use Rattle.std.proofs.lemmas.Nat.{mod_below}
use Rattle.std.proofs.Math.Nat.{mod-add-mod}
use Rattle.cc_script.specs.declared.generator.Draws.{Draws}
use Rattle.cc_script.specs.declared.bound.Bound.{Bound}
use Rattle.cc_script.specs.declared.script.Mode.TheVariants as mode
use Rattle.cc_script.specs.declared.script.Action.{Action}
use Rattle.cc_script.specs.declared.script.ActionLine.{ActionLine}
use Rattle.cc_script.specs.ActionTable.{bytes_moved}
use Rattle.cc_script.specs.HoldWords.{bound_after, bound_if, IsRightIf, UsesRight, AreUsedRight}
use Rattle.cc_script.specs.Checkpoints.{is_checkpoint, StandApart, CheckpointsStandApart}
use Rattle.cc_script.specs.Modes.{stands, action_modes, IsLineOf, IsOfMode}
use Rattle.cc_script.specs.Within.{IsFileWithin, IsPageWithin, IsActionWithin, IsLineWithin, PhasesAscend, ScriptIsWithin}
use Rattle.cc_script.specs.Generator.{state_after, draw_of, caller_state, stream_state, page_state, byte_state, draws_of, drawn_file, drawn_page, drawn_action, drawn_caller, drawn_line, drawn_lines, drawn_streams, generated}

draw-below : (m x : ℕ) → 0 < m → draw_of m x < m
unfolding draw_of
draw-below m x some = mod_below (x / 2 ^ 33) m some

-- the ranges of what is drawn for a line
record AreDrawn (d : Draws) : Type 0 where
  least : 1 ≤ d.caller
  most : d.caller ≤ 4
  stream : d.stream < 2
  page : d.page < 2

draws-are : (x : ℕ) → AreDrawn (draws_of x)
unfolding draws_of
draws-are x =
    let caller = draw-below 4 (caller_state x) (lit≤ tt) in
    record {
      least = omega arith;
      most = omega (arith, caller);
      stream = draw-below 2 (stream_state x) (lit≤ tt);
      page = draw-below 2 (page_state x) (lit≤ tt);
    }

-- what is said of an action that is drawn
record IsDrawn (a : Action) : Type 0 where
  within : IsActionWithin drawn_streams a
  moved : bytes_moved a ≤ 2097152
  in_mode : stands (action_modes a) mode.Steps ≡ true
  right : UsesRight [] a
  after : bound_after a [] ≡ []
  plain : is_checkpoint a ≡ false

either-drawn : (t : Bool) (a b : Action) → IsDrawn a → IsDrawn b → IsDrawn (if t then a else b)
either-drawn true a b is other = is
either-drawn false a b is other = other

action-drawn : (d : Draws) → AreDrawn d → IsDrawn (drawn_action d)
unfolding drawn_action
action-drawn d is =
    let in_page : IsPageWithin drawn_streams (drawn_page d) = record { stream = is.stream; number = low } in
    let in_file : IsFileWithin drawn_streams (drawn_file d) = record { stream = is.stream; object = lit≤ tt } in
    either-drawn (d.verb == 0) _ _ (record { within = in_page; moved = lit≤ tt; in_mode = refl; right = tt; after = refl; plain = refl })
    (either-drawn (d.verb == 1) _ _ (record { within = in_page; moved = lit≤ tt; in_mode = refl; right = tt; after = refl; plain = refl })
    (either-drawn (d.verb == 2) _ _ (record { within = in_page; moved = lit≤ tt; in_mode = refl; right = tt; after = refl; plain = refl })
    (either-drawn (d.verb == 3) _ _ (record { within = in_page; moved = lit≤ tt; in_mode = refl; right = tt; after = refl; plain = refl })
    (either-drawn (d.verb == 4) _ _ (record { within = in_file; moved = lit≤ tt; in_mode = refl; right = tt; after = refl; plain = refl })
    (either-drawn (d.verb == 5) _ _ (record { within = in_file; moved = lit≤ tt; in_mode = refl; right = tt; after = refl; plain = refl })
    (either-drawn (d.verb == 6) _ _ (record { within = tt; moved = lit≤ tt; in_mode = refl; right = tt; after = refl; plain = refl })
    (record { within = tt; moved = lit≤ tt; in_mode = refl; right = tt; after = refl; plain = refl })))))))
  where
    low : d.page < 2 ^ 51
    low = let page = is.page in omega (arith, page)

record IsCaller (c : ℕ) : Type 0 where
  first : 1 ≤ c
  last : c ≤ 16

caller-drawn : (d : Draws) → AreDrawn d → IsCaller (drawn_caller d)
unfolding drawn_caller
caller-drawn d is = either (d.verb == 1 || (d.verb == 3 || d.verb == 7))
  where
    either : (t : Bool) → IsCaller (if t then 1 else d.caller)
    either true = record { first = lit≤ tt; last = lit≤ tt }
    either false = let most = is.most in record { first = is.least; last = omega (arith, most) }

line-within : (number : ℕ) (d : Draws) → AreDrawn d → IsLineWithin drawn_streams 1 (drawn_line number d)
line-within number d is =
    let caller = caller-drawn d is in
    let a = action-drawn d is in
    record {
      first_caller = caller.first;
      last_caller = caller.last;
      first_phase = lit≤ tt;
      last_phase = lit≤ tt;
      file = a.within;
      moved = a.moved;
    }

lines-within : (more number x : ℕ) → AllByRecursion (IsLineWithin drawn_streams 1) (drawn_lines more number x)
unfolding drawn_lines
lines-within zero number x = tt
lines-within (suc more) number x = (line-within number (draws_of x) (draws-are x), lines-within more (suc number) (byte_state x))

lines-of_steps : (more number x : ℕ) → AllByRecursion (IsLineOf mode.Steps) (drawn_lines more number x)
unfolding drawn_lines
lines-of_steps zero number x = tt
lines-of_steps (suc more) number x =
    let a = action-drawn (draws_of x) (draws-are x) in
    (record { in_mode = a.in_mode; fails = λ f. absurd (cc) }, lines-of_steps more (suc number) (byte_state x))

-- none is a checkpoint
lines-plain : (more number x : ℕ) → AllByRecursion (λ line. is_checkpoint line.action ≡ false) (drawn_lines more number x)
unfolding drawn_lines
lines-plain zero number x = tt
lines-plain (suc more) number x =
    let a = action-drawn (draws_of x) (draws-are x) in (a.plain, lines-plain more (suc number) (byte_state x))

neither-is : (one other : Bool) → one ≡ false → other ≡ false → (one || other) ≡ true → ⊥
neither-is true other e f g = absurd (cc)
neither-is false true e f g = absurd (cc)
neither-is false false e f g = absurd (cc)

plain-apart : (line : ActionLine) (lines : List ActionLine) → is_checkpoint line.action ≡ false → AllByRecursion (λ line. is_checkpoint line.action ≡ false) lines → AllByRecursion (StandApart line) lines
plain-apart line [] plain all = tt
plain-apart line (other ∷ lines) plain all =
    (λ same one. absurd (neither-is (is_checkpoint line.action) (is_checkpoint other.action) plain all.0 one), plain-apart line lines plain all.1)

all-apart : (lines : List ActionLine) → AllByRecursion (λ line. is_checkpoint line.action ≡ false) lines → CheckpointsStandApart lines
all-apart [] all = tt
all-apart (line ∷ lines) all = (plain-apart line lines all.0 all.1, all-apart lines all.1)

lines-counted : (more number x : ℕ) → length (drawn_lines more number x) ≡ more
unfolding drawn_lines
lines-counted zero number x = refl
lines-counted (suc more) number x = ap suc (lines-counted more (suc number) (byte_state x))

phases-ascend : (more number x : ℕ) → PhasesAscend 1 (drawn_lines more number x)
unfolding drawn_lines
phases-ascend zero number x = tt
phases-ascend (suc more) number x = (lit≤ tt, phases-ascend more (suc number) (byte_state x))

words-right : (caller more number x : ℕ) → AreUsedRight caller [] (drawn_lines more number x)
unfolding drawn_lines
words-right caller zero number x = tt
words-right caller (suc more) number x = either (drawn_caller (draws_of x) == caller) (words-right caller more (suc number) (byte_state x))
  where
    either : (t : Bool) → AreUsedRight caller [] (drawn_lines more (suc number) (byte_state x)) → IsRightIf t [] (drawn_action (draws_of x)) × AreUsedRight caller (bound_if t (drawn_action (draws_of x)) []) (drawn_lines more (suc number) (byte_state x))
    either true rest =
        let a = action-drawn (draws_of x) (draws-are x) in
        (a.right, subst (λ (bounds : List Bound). AreUsedRight caller bounds (drawn_lines more (suc number) (byte_state x))) (sym a.after) rest)
    either false rest = (tt, rest)

pub generated_within : (n : ℕ) → ScriptIsWithin (generated n)
unfolding generated
generated_within n =
    let counted = lines-counted 4000 3 n in
    record {
      header = record {
        least_journal = lit≤ tt;
        most_journal = lit≤ tt;
        least_threshold = lit≤ tt;
        most_threshold = lit≤ tt;
        most_ticks = lit≤ tt;
        most_aheads = lit≤ tt;
      };
      first_phase = lit≤ tt;
      last_phase = lit≤ tt;
      few_streams = lit≤ tt;
      streams = (
        record { least_quota = lit≤ tt; most_quota = lit≤ tt; log = lit≤ tt },
        (record { least_quota = lit≤ tt; most_quota = lit≤ tt; log = tt }, tt),
      );
      few_lines = omega (arith, counted);
      lines = lines-within 4000 3 n;
      in_order = phases-ascend 4000 3 n;
      words = λ caller. words-right caller 4000 3 n;
      restarts = tt;
      apart = all-apart (drawn_lines 4000 3 n) (lines-plain 4000 3 n);
    }

pub generated_of_steps : (n : ℕ) → IsOfMode mode.Steps (generated n)
unfolding generated
generated_of_steps n = record { streams = (refl, (refl, tt)); lines = lines-of_steps 4000 3 n; phases = refl; restarts = refl }

first_drawn : (more number x : ℕ) → drawn_lines (suc more) number x ≡ (drawn_line number (draws_of x) ∷ []) ++ drawn_lines more (suc number) (byte_state x)
unfolding drawn_lines
first_drawn more number x = refl

-- one line more, and no more lines
pub lines_on : (number x : ℕ) (lines : List ActionLine) → number < 4003 → lines ++ drawn_lines (4003 - number) number x ≡ (lines ++ drawn_line number (draws_of x) ∷ []) ++ drawn_lines (4003 - suc number) (suc number) (byte_state x)
lines_on number x lines low =
    let left : 4003 - number ≡ suc (4003 - suc number) = omega (arith, low) in
    ap (λ (more : ℕ). lines ++ drawn_lines more number x) left
    ∙ (ap (lines ++◌) (first_drawn (4003 - suc number) number x) ∙ sym (append_assoc lines (drawn_line number (draws_of x) ∷ []) (drawn_lines (4003 - suc number) (suc number) (byte_state x))))

pub lines_done : (number x : ℕ) (lines : List ActionLine) → number ≡ 4003 → lines ++ drawn_lines (4003 - number) number x ≡ lines
unfolding drawn_lines
lines_done number x lines all = rw all (append-nil lines)

-- a draw as it is computed
pub draw_steps : (x : ℕ) → (x * 6364136223846793005 % 2 ^ 64 + 1442695040888963407) % 2 ^ 64 ≡ state_after x
unfolding state_after
draw_steps x = mod-add-mod (x * 6364136223846793005) (2 ^ 64) 1442695040888963407
