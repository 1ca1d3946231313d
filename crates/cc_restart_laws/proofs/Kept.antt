-- What is kept of a log: its first updates, and all that is durable.
use Rattle.std.specs.Prelude.{◌≡◌, ℕ, zero, suc, ◌<◌, ◌≤◌, ◌⊎◌, List, [], ◌∷◌, ◌++◌, length, take, Contains, refl}
use Rattle.std.proofs.Common.{ap, sym, subst, ◌∙◌, inl, inr, arith}
use Rattle.std.proofs.lemmas.List.Elements.{Contains-append_cases}
use Rattle.cc_traits.specs.Log.{LogEntry}
use Rattle.cc_redo.specs.Heard.{Change}
use Rattle.cc_redo.specs.declared.redo.Redo.{Redo}
use Rattle.cc_restart_laws.proofs.Files.{updates-append}
use Rattle.cc_restart_laws.proofs.Logs.{among-all}
use Rattle.cc_restart_laws.proofs.Redoing.{IsAmong}
use Rattle.cc_restart_laws.specs.Stops.{LogKeeps, updates_in}

take-none : {A : Type 0} (xs : List A) → take 0 xs ≡ []
take-none [] = refl
take-none (x ∷ xs) = refl

take-first : {A : Type 0} (xs ys : List A) → take (length xs) (xs ++ ys) ≡ xs
take-first [] ys = take-none ys
take-first (x ∷ xs) ys = ap (λ (l : List _). x ∷ l) (take-first xs ys)

contains-among : {A : Type 0} (xs : List A) (x : A) → Contains xs x → IsAmong xs x
contains-among [] x (k, below, is) = absurd (omega (arith, below))
contains-among (y ∷ ys) x (zero, below, is) = inl (sym is)
contains-among (y ∷ ys) x (suc k, below, is) = inr (contains-among ys x (k, omega (arith, below), is))

pub kept-first : (redo : Redo) (durable : ℕ) (all kept : List LogEntry) → LogKeeps durable all kept → updates_in redo kept ≡ take (length (updates_in redo kept)) (updates_in redo all)
kept-first redo durable all kept k =
    sym (ap (λ (l : List LogEntry). take (length (updates_in redo kept)) (updates_in redo l)) k.splits
    ∙ (ap (λ (l : List Change). take (length (updates_in redo kept)) l) (updates-append redo kept k.rest) ∙ take-first (updates_in redo kept) (updates_in redo k.rest)))

pub kept-durable : (durable : ℕ) (all kept : List LogEntry) → LogKeeps durable all kept → (entry : LogEntry) → Contains all entry → entry.lsn ≤ durable → Contains kept entry
kept-durable durable all kept k entry contains least = go (Contains-append_cases kept k.rest entry (subst (λ (l : List LogEntry). Contains l entry) k.splits contains))
  where
    go : Contains kept entry ⊎ Contains k.rest entry → Contains kept entry
    go (inl here) = here
    go (inr behind) = let above = among-all (λ (e : LogEntry). durable < e.lsn) k.rest entry k.beyond (contains-among k.rest entry behind) in absurd (omega (arith, above, least))
