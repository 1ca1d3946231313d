-- What clap makes of a command line of two or three arguments, none of which begins with a dash.
use Rattle.std.proofs.Common.{◌≡◌, ◌∙◌, true≢false, ℕ, Bool, true, false, not, ◌==◌, ◌&&◌, refl, sym, ap, ap₂, List, [], ◌∷◌, Some, None, is_some, slice_get, codes}
use Rattle.std.specs.List.{list_all}
use Rattle.std.proofs.lemmas.Bool.{and_from, and_parts}
use Rattle.clap.specs.Simple.{entered}
use Rattle.clap.specs.Takes.{default_passes, entered_passes, is_valid, settle_passes, step_passes, turn_passes, walk_passes}
use Rattle.clap.specs.Walk.{Held, Waiting, Walk, arg_by_index, finished, idle, nothing_held, positional, to_positional, value, walk, walk_from, walked}
use Rattle.clap.specs.Words.{HasMatchesOf, Rule, Shape, built, first_of, first_value, found_of, is_simple, matches_of, rows_of, takes}
use Rattle.clap.specs.declared.parser.matches.ArgMatches.{ArgMatches}
use Rattle.clap.proofs.OnLiterals.{clap_on_literals}
use Rattle.clap.proofs.WalkLemmas.{first_value-rows}
use Rattle.cc_command.specs.CommandLine.{command_line}
use Rattle.cc_command.specs.Words.{is_argument, is_line}

is_simple-line : is_simple command_line ≡ true
unfolding clap_on_literals
is_simple-line = refl

-- ---- one word

-- where a walk over words that are no flags stands
abbrev at : Held → Waiting → ℕ → Walk
at h waiting position = record { held = h; waiting = waiting; position = position; is_trailing = false; stopped = None }

-- a word that begins with no dash goes to the next positional, and passes where that does
module _ (h : Held) (position : ℕ) (x : ℕ) (xs : List ℕ) (e : (x == 45) ≡ false) where
  walked-idle : (c : List Rule) → walked c [] (at h idle position) (x ∷ xs) ≡ to_positional c (arg_by_index c position) (x ∷ xs) (at h idle position) h
  unfolding clap_on_literals
  walked-idle c = rw (e, e) refl

  walked-positional : (c : List Rule) → walked c [] (at h positional position) (x ∷ xs) ≡ to_positional c (arg_by_index c position) (x ∷ xs) (at h positional position) h
  unfolding clap_on_literals
  walked-positional c = rw (e, e) refl

  passes-idle : (s : Shape) → turn_passes s [] (at h idle position) (x ∷ xs) ≡ step_passes s position h value
  unfolding clap_on_literals
  passes-idle s = rw (e, e) refl

  passes-positional : (s : Shape) → turn_passes s [] (at h positional position) (x ∷ xs) ≡ step_passes s position h value
  unfolding clap_on_literals
  passes-positional s = rw (e, e) refl

-- ---- the lines of two and of three

abbrev top : Shape
top = (built command_line).top

-- the walk behind the first word, the second and the third
abbrev walk-1 : List ℕ → Walk
walk-1 v = to_positional top.rules (arg_by_index top.rules 1) v (at nothing_held idle 1) nothing_held

abbrev walk-2 : List ℕ → List ℕ → Walk
walk-2 v w = to_positional top.rules (arg_by_index top.rules 2) w (walk-1 v) (walk-1 v).held

abbrev walk-3 : List ℕ → List ℕ → List ℕ → Walk
walk-3 v w u = to_positional top.rules (arg_by_index top.rules 2) u (walk-2 v w) (walk-2 v w).held

-- what is tested behind a walk, whose words passed or not
abbrev ends : Walk → Bool → Bool
ends k passed =
    entered_passes (built command_line) k.stopped
    && (passed && (settle_passes top.rules top.args_override_self k.held
    && (list_all default_passes top.rules && is_valid top (finished top.rules k.held) (is_some (entered (built command_line) k.stopped)))))

module _ (x y : ℕ) (xs ys : List ℕ) (ex : (x == 45) ≡ false) (ey : (y == 45) ≡ false) where
  abbrev v : List ℕ
  v = x ∷ xs

  abbrev w : List ℕ
  w = y ∷ ys

  first : walked top.rules [] (walk_from nothing_held) v ≡ walk-1 v
  first = walked-idle nothing_held 1 x xs ex top.rules

  second : walked top.rules [] (walk-1 v) w ≡ walk-2 v w
  second = walked-idle (walk-1 v).held 2 y ys ey top.rules

  walk-two : walk top.rules [] nothing_held (v ∷ w ∷ []) ≡ walk-2 v w
  walk-two = ap (λ k. walked top.rules [] k w) first ∙ second

  mode-of-two : first_of (codes "MODE") (matches_of command_line (v ∷ w ∷ [])) ≡ Some v
  mode-of-two = ap (λ k. first_of (codes "MODE") (finished top.rules k.held)) walk-two

  arg-of-two : first_of (codes "ARG") (matches_of command_line (v ∷ w ∷ [])) ≡ Some w
  arg-of-two = ap (λ k. first_of (codes "ARG") (finished top.rules k.held)) walk-two

  first-passes : turn_passes top [] (walk_from nothing_held) v ≡ true
  first-passes = passes-idle nothing_held 1 x xs ex top

  second-passes : turn_passes top [] (walk-1 v) w ≡ true
  second-passes = passes-idle (walk-1 v).held 2 y ys ey top

  passes-two : walk_passes top [] (walk_from nothing_held) (v ∷ w ∷ []) ≡ true
  unfolding walk_passes
  passes-two =
      and_from _ _ first-passes (ap (λ k. walk_passes top [] k (w ∷ [])) first ∙ and_from _ _ second-passes refl)

  takes-two : takes command_line (v ∷ w ∷ []) ≡ true
  takes-two = ap₂ ends walk-two passes-two

  module _ (z : ℕ) (zs : List ℕ) (ez : (z == 45) ≡ false) where
    abbrev u : List ℕ
    u = z ∷ zs

    third : walked top.rules [] (walk-2 v w) u ≡ walk-3 v w u
    third = walked-positional (walk-2 v w).held 2 z zs ez top.rules

    walk-three : walk top.rules [] nothing_held (v ∷ w ∷ u ∷ []) ≡ walk-3 v w u
    walk-three = ap (λ k. walked top.rules [] k u) walk-two ∙ third

    mode-of-three : first_of (codes "MODE") (matches_of command_line (v ∷ w ∷ u ∷ [])) ≡ Some v
    mode-of-three = ap (λ k. first_of (codes "MODE") (finished top.rules k.held)) walk-three

    arg-of-three : first_of (codes "ARG") (matches_of command_line (v ∷ w ∷ u ∷ [])) ≡ Some w
    arg-of-three = ap (λ k. first_of (codes "ARG") (finished top.rules k.held)) walk-three

    third-passes : turn_passes top [] (walk-2 v w) u ≡ true
    third-passes = passes-positional (walk-2 v w).held 2 z zs ez top

    passes-three : walk_passes top [] (walk_from nothing_held) (v ∷ w ∷ u ∷ []) ≡ true
    unfolding walk_passes
    passes-three =
        and_from _ _ first-passes
        (ap (λ k. walk_passes top [] k (w ∷ u ∷ [])) first
        ∙ and_from _ _ second-passes (ap (λ k. walk_passes top [] k (u ∷ [])) second ∙ and_from _ _ third-passes refl))

    takes-three : takes command_line (v ∷ w ∷ u ∷ []) ≡ true
    takes-three = ap₂ ends walk-three passes-three

-- ---- any line

no-dash : (x : ℕ) → not (x == 45) ≡ true → (x == 45) ≡ false
no-dash x is = go (x == 45) is
  where
    go : (b : Bool) → not b ≡ true → b ≡ false
    go true e = absurd (true≢false (sym e))
    go false e = refl

-- what a command line of two or three arguments comes to
pub record IsTaken (words : List (List ℕ)) : Type 0 where
  pub takes : takes command_line words ≡ true
  pub mode : first_of (codes "MODE") (matches_of command_line words) ≡ slice_get words 0
  pub argument : first_of (codes "ARG") (matches_of command_line words) ≡ slice_get words 1
  pub has_mode : is_some (slice_get words 0) ≡ true
  pub has_argument : is_some (slice_get words 1) ≡ true

two-taken : (v w : List ℕ) → is_argument v ≡ true → is_argument w ≡ true → IsTaken (v ∷ w ∷ [])
two-taken [] w a b = absurd (cc a)
two-taken (x ∷ xs) [] a b = absurd (cc b)
two-taken (x ∷ xs) (y ∷ ys) a b =
    let ex = no-dash x a in
    let ey = no-dash y b in
    record {
      takes = takes-two x y xs ys ex ey;
      mode = mode-of-two x y xs ys ex ey;
      argument = arg-of-two x y xs ys ex ey;
      has_mode = refl;
      has_argument = refl;
    }

three-taken : (v w u : List ℕ) → is_argument v ≡ true → is_argument w ≡ true → is_argument u ≡ true → IsTaken (v ∷ w ∷ u ∷ [])
three-taken [] w u a b c = absurd (cc a)
three-taken (x ∷ xs) [] u a b c = absurd (cc b)
three-taken (x ∷ xs) (y ∷ ys) [] a b c = absurd (cc c)
three-taken (x ∷ xs) (y ∷ ys) (z ∷ zs) a b c =
    let ex = no-dash x a in
    let ey = no-dash y b in
    let ez = no-dash z c in
    record {
      takes = takes-three x y xs ys ex ey z zs ez;
      mode = mode-of-three x y xs ys ex ey z zs ez;
      argument = arg-of-three x y xs ys ex ey z zs ez;
      has_mode = refl;
      has_argument = refl;
    }

pub line-taken : (words : List (List ℕ)) → is_line words ≡ true → IsTaken words
line-taken (v ∷ w ∷ []) is =
    let both = and_parts _ _ is in
    two-taken v w both.0 both.1
line-taken (v ∷ w ∷ u ∷ []) is =
    let both = and_parts _ _ is in
    let rest = and_parts _ _ both.1 in
    three-taken v w u both.0 rest.0 rest.1
line-taken other is = absurd (cc is)

-- what clap finds in such a line
module _ (words : List (List ℕ)) (is : is_line words ≡ true) (m : ArgMatches) (has : HasMatchesOf command_line words m) where
  found : rows_of (found_of m) ≡ matches_of command_line words
  found = (has is_simple-line).0

  pub found-mode : first_value (found_of m) (codes "MODE") ≡ slice_get words 0
  found-mode = first_value-rows (found_of m) (codes "MODE") ∙ (ap (first_of (codes "MODE")) found ∙ (line-taken words is).mode)

  pub found-argument : first_value (found_of m) (codes "ARG") ≡ slice_get words 1
  found-argument = first_value-rows (found_of m) (codes "ARG") ∙ (ap (first_of (codes "ARG")) found ∙ (line-taken words is).argument)
