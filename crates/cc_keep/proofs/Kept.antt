-- A pass that keeps a disk takes turns, and gives them.
use Rattle.std.specs.Prelude.{◌≡◌, ℕ, suc, ◌+◌, ◌-◌, ◌≤◌, Bool, true, false, not, ◌||◌, ◌&&◌, List, [], ◌∷◌, ◌++◌, take, length, refl}
use Rattle.std.specs.List.{list_all, AllByRecursion}
use Rattle.std.specs.declared.option.Option.{Option}
use Rattle.std.specs.declared.option.Option.TheVariants.{Some}
use Rattle.std.proofs.Common.{arith, ap, sym, subst, ◌∙◌, length-append}
use Rattle.std.proofs.lemmas.Bool.{and_parts, and_from, eq-eqb}
use Rattle.cc_entry.specs.declared.entry.Entry.{Entry}
use Rattle.cc_entry.specs.declared.entry.Entry.TheVariants as entry
use Rattle.cc_journal.specs.Journal.{JournalState}
use Rattle.cc_laws.proofs.QuietSteps.{is_quiet-first, is_quiet-rest}
use Rattle.cc_model.specs.Passes.{is_mine}
use Rattle.cc_model.specs.Turns.{Device, needs, is_quiet}
use Rattle.cc_turns.specs.Standing.{Standing, is_the}
use Rattle.cc_turns.specs.Takes.{Takes, AddsEvent, may_be_of, without_journal}
use Rattle.cc_keep.specs.Keeps.{KeepsDisk, keeping_standing, leaves_disk, newer}

-- what came since goes on
newer-grown : (n : ℕ) (later past : List Entry) → n ≤ length past → newer n (later ++ past) ≡ later ++ newer n past
newer-grown n [] past within = refl
newer-grown n (e ∷ later) past within =
    ap (λ (k : ℕ). take k (e ∷ (later ++ past))) (more (length (later ++ past)) (omega (arith, length-append later past, within)))
    ∙ ap (λ l. e ∷ l) (newer-grown n later past within)
  where
    more : (m : ℕ) → n ≤ m → suc m - n ≡ suc (m - n)
    more m le = omega (arith, le)

all-append : (test : Entry → Bool) (later past : List Entry) → list_all test later ≡ true → list_all test past ≡ true → list_all test (later ++ past) ≡ true
all-append test [] past all rest = rest
all-append test (e ∷ later) past all rest =
    let parts = and_parts (test e) (list_all test later) all in
    and_from (test e) (list_all test (later ++ past)) parts.0 (all-append test later past parts.1 rest)

-- others place nothing that needs the disk
leaves-unneeded : (me s : ℕ) (e : Entry) → needs e (Device s) ≡ false → leaves_disk me s e ≡ true
leaves-unneeded me s e free = go (is_mine me e) (needs e (Device s)) free
  where
    go : (mine needed : Bool) → needed ≡ false → (mine || not needed) ≡ true
    go true needed free = refl
    go false false free = refl
    go false true free = sym free

leaves-quiet : (me s : ℕ) (later : List Entry) → is_quiet (Device s) later ≡ true → list_all (leaves_disk me s) later ≡ true
leaves-quiet me s [] quiet = refl
leaves-quiet me s (e ∷ later) quiet =
    and_from (leaves_disk me s e) (list_all (leaves_disk me s) later) (leaves-unneeded me s e (is_quiet-first (Device s) e later quiet))
    (leaves-quiet me s later (is_quiet-rest (Device s) e later quiet))

-- and the pass places its own
leaves-own : (me s : ℕ) (e : Entry) → may_be_of me e ≡ true → leaves_disk me s e ≡ true
leaves-own me s (entry.Posted id) own = refl
leaves-own me s other own = rw own refl

leaves-all : (me s : ℕ) (added : List Entry) → AllByRecursion (λ e. may_be_of me e ≡ true) added → list_all (leaves_disk me s) added ≡ true
leaves-all me s [] own = refl
leaves-all me s (e ∷ added) own =
    and_from (leaves_disk me s e) (list_all (leaves_disk me s) added) (leaves-own me s e own.0) (leaves-all me s added own.1)

-- what came since the pass stood so, with what came now
grown : (me s n : ℕ) (later past : List Entry) → n ≤ length past → list_all (leaves_disk me s) later ≡ true → list_all (leaves_disk me s) (newer n past) ≡ true → list_all (leaves_disk me s) (newer n (later ++ past)) ≡ true
grown me s n later past within all before =
    ap (list_all (leaves_disk me s)) (newer-grown n later past within) ∙ all-append (leaves_disk me s) later (newer n past) all before

longer : (n : ℕ) (later past : List Entry) → n ≤ length past → n ≤ length (later ++ past)
longer n later past within = let all = length-append later past in omega (arith, within, all)

-- it takes a turn more, of no disk
pub keeps-taken : (turns s : ℕ) (begun old new : Standing) (now : Standing → Standing) → Takes now old new → (now old).device_turns ≡ old.device_turns → (now old).held.device ≡ old.held.device → (now old).number ≡ old.number → KeepsDisk turns s begun old → KeepsDisk turns s begun new
keeps-taken turns s begun old new now took same_turns same_device same_number keeps = (
  subst (λ (past : List Entry). length begun.seen ≤ length past) (sym took.grows.grew) (longer (length begun.seen) took.grows.later old.seen keeps.0),
  λ none. ap (λ (w : Standing). w.device_turns) took.same ∙ same_turns ∙ keeps.1 none,
  λ none held.
      let device : old.held.device ≡ Some s = sym (ap (λ (w : Standing). w.held.device) took.same ∙ same_device) ∙ held in
      let number : new.number ≡ old.number = ap (λ (w : Standing). w.number) took.same ∙ same_number in
      subst (λ (m : ℕ). list_all (leaves_disk m s) (newer (length begun.seen) new.seen) ≡ true) (sym number)
      (subst (λ (past : List Entry). list_all (leaves_disk old.number s) (newer (length begun.seen) past) ≡ true) (sym took.grows.grew)
      (grown old.number s (length begun.seen) took.grows.later old.seen keeps.0
      (leaves-quiet old.number s took.grows.later (took.grows.quiet (Device s) (rw device (eq-eqb s s refl)))) (keeps.2 none device))),
)

-- it gives the journal, with what it placed
pub keeps-given : {Q : Type 0} (turns s name : ℕ) (begun first old new : Standing) (j : JournalState Q) → new ≡ without_journal j old → AddsEvent (keeping_standing old name s first turns) j.entries → KeepsDisk turns s begun old → KeepsDisk turns s begun new
keeps-given turns s name begun first old new j given adds keeps =
    subst (λ (w : Standing). KeepsDisk turns s begun w) (sym given) (
      subst (λ (past : List Entry). length begun.seen ≤ length past) (sym adds.grew) (longer (length begun.seen) adds.added old.seen keeps.0),
      keeps.1,
      λ none held.
          subst (λ (past : List Entry). list_all (leaves_disk old.number s) (newer (length begun.seen) past) ≡ true) (sym adds.grew)
          (grown old.number s (length begun.seen) adds.added old.seen keeps.0 (leaves-all old.number s adds.added adds.own) (keeps.2 none held)),
    )
