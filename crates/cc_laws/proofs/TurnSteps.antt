-- Entries that do not need a turn, one by one and in a row.
--
-- Whatever says what others may place while a turn is held cites it.
use Rattle.std.specs.Prelude.{◌≡◌, Bool, true, false, not, ◌&&◌, List, [], ◌∷◌, ◌++◌, refl}
use Rattle.std.specs.List.{list_all}
use Rattle.cc_entry.specs.declared.entry.Entry.{Entry}
use Rattle.cc_model.specs.Turns.{Turn, needs, is_quiet}

pub is_quiet-none : (turn : Turn) → is_quiet turn [] ≡ true
unfolding is_quiet
is_quiet-none turn = refl

pub is_quiet-unneeded : (turn : Turn) (e : Entry) (later : List Entry) → needs e turn ≡ false → is_quiet turn (e ∷ later) ≡ is_quiet turn later
unfolding is_quiet
is_quiet-unneeded turn e later unneeded = rw (unneeded, is_quiet) refl

pub is_quiet-needed : (turn : Turn) (e : Entry) (later : List Entry) → needs e turn ≡ true → is_quiet turn (e ∷ later) ≡ false
unfolding is_quiet
is_quiet-needed turn e later needed = rw (needed, is_quiet) refl

pub is_quiet-append : (turn : Turn) (later middle : List Entry) → is_quiet turn later ≡ true → is_quiet turn middle ≡ true → is_quiet turn (later ++ middle) ≡ true
unfolding is_quiet
is_quiet-append turn [] middle quiet_later quiet_middle = quiet_middle
is_quiet-append turn (e ∷ later) middle quiet_later quiet_middle = go (needs e turn) quiet_later (λ rest. is_quiet-append turn later middle rest quiet_middle)
  where
    go : (t : Bool) → (not t && list_all (λ e. not (needs e turn)) later) ≡ true → (list_all (λ e. not (needs e turn)) later ≡ true → list_all (λ e. not (needs e turn)) (later ++ middle) ≡ true) → (not t && list_all (λ e. not (needs e turn)) (later ++ middle)) ≡ true
    go false quiet rest = rest quiet
    go true quiet rest = quiet
