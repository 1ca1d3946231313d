-- The entries that a run appended to a log, those that are kept, and what a restart reads of them.
use Rattle.std.specs.Prelude.{◌≡◌, ℕ, suc, ◌+◌, ◌^◌, ◌<◌, ◌≤◌, ◌⊎◌, ◌&&◌, ◌==◌, Bool, true, false, nat_le, List, [], ◌∷◌, ◌++◌, length, refl, if◌then◌else◌}
use Rattle.std.specs.List.{AllByRecursion}
use Rattle.std.specs.declared.option.Option.{Option}
use Rattle.std.specs.declared.option.Option.TheVariants.{Some, None}
use Rattle.std.proofs.Common.{ap, sym, subst, ◌∙◌, inl, inr, arith}
use Rattle.std.proofs.lemmas.Bool.{eqb-true, eq-eqb, le-leb}
use Rattle.cc_entry.specs.declared.entry.Entry.{Entry}
use Rattle.cc_entry.specs.declared.entry.Entry.TheVariants as entry
use Rattle.cc_log.specs.Turn.{appended}
use Rattle.cc_model.specs.Good.{IsGoodSoFar}
use Rattle.cc_model.specs.Logs.{floor_of}
use Rattle.cc_model.specs.Setup.{Setup}
use Rattle.cc_traits.specs.Log.{LogEntry}
use Rattle.cc_redo.specs.Heard.{Change, change_said}
use Rattle.cc_redo.specs.declared.record.LogRecord.{LogRecord}
use Rattle.cc_redo.specs.declared.record.LogRecord.TheVariants.{Update, Checkpoint}
use Rattle.cc_redo.specs.declared.redo.Redo.{Redo}
use Rattle.cc_restart_laws.proofs.Entries.{good-tail, next-lsn}
use Rattle.cc_restart_laws.proofs.Records.{IsAppended, appended-floor}
use Rattle.cc_restart_laws.proofs.Redoing.{IsAmong}
use Rattle.cc_restart_laws.specs.Stops.{AreAscending, LogKeeps}

-- ---- lists of entries

pub among-all : {A : Type 0} (P : A → Type 0) (xs : List A) (x : A) → AllByRecursion P xs → IsAmong xs x → P x
among-all P [] x all among = absurd among
among-all P (y ∷ ys) x all (inl same) = subst P (sym same) all.0
among-all P (y ∷ ys) x all (inr among) = among-all P ys x all.1 among

pub all-among : {A : Type 0} (P : A → Type 0) (xs : List A) → ((x : A) → IsAmong xs x → P x) → AllByRecursion P xs
all-among P [] each = tt
all-among P (y ∷ ys) each = (each y (inl refl), all-among P ys (λ x among. each x (inr among)))

pub all-first : {A : Type 0} (P : A → Type 0) (xs ys : List A) → AllByRecursion P (xs ++ ys) → AllByRecursion P xs
all-first P [] ys all = tt
all-first P (x ∷ xs) ys all = (all.0, all-first P xs ys all.1)

pub all-both : {A : Type 0} (P : A → Type 0) (xs ys : List A) → AllByRecursion P xs → AllByRecursion P ys → AllByRecursion P (xs ++ ys)
all-both P [] ys first second = second
all-both P (x ∷ xs) ys first second = (first.0, all-both P xs ys first.1 second)

pub among-left : {A : Type 0} (xs ys : List A) (x : A) → IsAmong xs x → IsAmong (xs ++ ys) x
among-left [] ys x among = absurd among
among-left (z ∷ xs) ys x (inl same) = inl same
among-left (z ∷ xs) ys x (inr among) = inr (among-left xs ys x among)

pub among-right : {A : Type 0} (xs ys : List A) (x : A) → IsAmong ys x → IsAmong (xs ++ ys) x
among-right [] ys x among = among
among-right (z ∷ xs) ys x among = inr (among-right xs ys x among)

pub among-cases : {A : Type 0} (xs ys : List A) (x : A) → IsAmong (xs ++ ys) x → IsAmong xs x ⊎ IsAmong ys x
among-cases [] ys x among = inr among
among-cases (z ∷ xs) ys x (inl same) = inl (inl same)
among-cases (z ∷ xs) ys x (inr among) = go (among-cases xs ys x among)
  where
    go : IsAmong xs x ⊎ IsAmong ys x → IsAmong (z ∷ xs) x ⊎ IsAmong ys x
    go (inl left) = inl (inr left)
    go (inr right) = inr right

pub rising-first : (xs ys : List LogEntry) → AreAscending (xs ++ ys) → AreAscending xs
rising-first [] ys rising = tt
rising-first (x ∷ xs) ys rising =
    (all-among (λ (later : LogEntry). x.lsn < later.lsn) xs (λ y among. among-all (λ (later : LogEntry). x.lsn < later.lsn) (xs ++ ys) y rising.0 (among-left xs ys y among)), rising-first xs ys rising.1)

pub rising-across : (xs ys : List LogEntry) (x y : LogEntry) → AreAscending (xs ++ ys) → IsAmong xs x → IsAmong ys y → x.lsn < y.lsn
rising-across [] ys x y rising among behind = absurd among
rising-across (z ∷ xs) ys x y rising (inl same) behind =
    let higher : z.lsn < y.lsn = among-all (λ (later : LogEntry). z.lsn < later.lsn) (xs ++ ys) y rising.0 (among-right xs ys y behind) in
    let is : x.lsn ≡ z.lsn = ap (λ (e : LogEntry). e.lsn) same in
    omega (arith, higher, is)
rising-across (z ∷ xs) ys x y rising (inr among) behind = rising-across xs ys x y rising.1 among behind

rising-push : (xs : List LogEntry) (y : LogEntry) → AreAscending xs → ((x : LogEntry) → IsAmong xs x → x.lsn < y.lsn) → AreAscending (xs ++ y ∷ [])
rising-push [] y rising lower = (tt, tt)
rising-push (x ∷ xs) y rising lower =
    (all-among (λ (later : LogEntry). x.lsn < later.lsn) (xs ++ y ∷ []) (λ z among. go z (among-cases xs (y ∷ []) z among)), rising-push xs y rising.1 (λ z among. lower z (inr among)))
  where
    go : (z : LogEntry) → IsAmong xs z ⊎ IsAmong (y ∷ []) z → x.lsn < z.lsn
    go z (inl among) = among-all (λ (later : LogEntry). x.lsn < later.lsn) xs z rising.0 among
    go z (inr (inl same)) = let is : z.lsn ≡ y.lsn = ap (λ (e : LogEntry). e.lsn) same in let higher = lower x (inl refl) in omega (arith, is, higher)
    go z (inr (inr none)) = absurd none

-- ---- what was appended

abbrev entry_of : ℕ → List ℕ → LogEntry
entry_of lsn bytes = record { lsn = lsn; bytes = bytes }

record IsPush (e : Entry) (past : List Entry) (log : ℕ) : Type 0 where
  pass : ℕ
  lsn : ℕ
  bytes : List ℕ
  is : e ≡ entry.Append pass log lsn bytes
  pushed : appended (e ∷ past) log ≡ appended past log ++ entry_of lsn bytes ∷ []

appended-step : (e : Entry) (past : List Entry) (log : ℕ) → (appended (e ∷ past) log ≡ appended past log) ⊎ IsPush e past log
unfolding appended
appended-step (entry.Append pass handle lsn bytes) past log = go (handle == log) refl
  where
    go : (b : Bool) → (handle == log) ≡ b → (appended (entry.Append pass handle lsn bytes ∷ past) log ≡ appended past log) ⊎ IsPush (entry.Append pass handle lsn bytes) past log
    go true same = inr (record {
      pass = pass;
      lsn = lsn;
      bytes = bytes;
      is = ap (λ (n : ℕ). entry.Append pass n lsn bytes) (eqb-true handle log same);
      pushed = rw same refl;
    })
    go false other = inl (rw other refl)
appended-step other past log = inl refl

appended-none : (log : ℕ) → appended [] log ≡ []
unfolding appended
appended-none log = refl

same-append : (p q log n m : ℕ) (b c : List ℕ) (e : Entry) → e ≡ entry.Append p log n b → e ≡ entry.Append q log m c → entry_of n b ≡ entry_of m c
same-append p q log n m b c e one other = parts (sym one ∙ other)
  where
    parts : entry.Append p log n b ≡ entry.Append q log m c → entry_of n b ≡ entry_of m c
    parts is = cc

not-append : (e : Entry) (past : List Entry) (p log n : ℕ) (b : List ℕ) → e ≡ entry.Append p log n b → appended (e ∷ past) log ≡ appended past log ++ entry_of n b ∷ []
unfolding appended
not-append e past p log n b is = ap (λ (x : Entry). appended (x ∷ past) log) is ∙ rw (eq-eqb log log refl) refl

pub is-listed : (log lsn : ℕ) (bytes : List ℕ) (past : List Entry) → IsAppended log lsn bytes past → IsAmong (appended past log) (entry_of lsn bytes)
is-listed log lsn bytes [] is = absurd is
is-listed log lsn bytes (e ∷ past) (inl here) =
    subst (λ (l : List LogEntry). IsAmong l (entry_of lsn bytes)) (sym (not-append e past here.0 log lsn bytes here.1)) (among-right (appended past log) (entry_of lsn bytes ∷ []) (entry_of lsn bytes) (inl refl))
is-listed log lsn bytes (e ∷ past) (inr before) = go (appended-step e past log) (is-listed log lsn bytes past before)
  where
    go : (appended (e ∷ past) log ≡ appended past log) ⊎ IsPush e past log → IsAmong (appended past log) (entry_of lsn bytes) → IsAmong (appended (e ∷ past) log) (entry_of lsn bytes)
    go (inl same) among = subst (λ (l : List LogEntry). IsAmong l (entry_of lsn bytes)) (sym same) among
    go (inr k) among = subst (λ (l : List LogEntry). IsAmong l (entry_of lsn bytes)) (sym k.pushed) (among-left (appended past log) (entry_of k.lsn k.bytes ∷ []) (entry_of lsn bytes) among)

pub is-appended : (log : ℕ) (x : LogEntry) (past : List Entry) → IsAmong (appended past log) x → IsAppended log x.lsn x.bytes past
is-appended log x [] among = none (appended [] log) (appended-none log) among
  where
    none : (l : List LogEntry) → l ≡ [] → IsAmong l x → ⊥
    none [] is among = among
    none (y ∷ ys) is among = absurd (cc)
is-appended log x (e ∷ past) among = go (appended-step e past log) (λ before. is-appended log x past before)
  where
    pushed : (k : IsPush e past log) → IsAmong (appended past log) x ⊎ IsAmong (entry_of k.lsn k.bytes ∷ []) x → (IsAmong (appended past log) x → IsAppended log x.lsn x.bytes past) → IsAppended log x.lsn x.bytes (e ∷ past)
    pushed k (inl before) rest = inr (rest before)
    pushed k (inr (inl same)) rest =
        inl (k.pass, k.is ∙ (ap (λ (n : ℕ). entry.Append k.pass log n k.bytes) (sym (ap (λ (y : LogEntry). y.lsn) same)) ∙ ap (λ (b : List ℕ). entry.Append k.pass log x.lsn b) (sym (ap (λ (y : LogEntry). y.bytes) same))))
    pushed k (inr (inr none)) rest = absurd none

    go : (appended (e ∷ past) log ≡ appended past log) ⊎ IsPush e past log → (IsAmong (appended past log) x → IsAppended log x.lsn x.bytes past) → IsAppended log x.lsn x.bytes (e ∷ past)
    go (inl same) rest = inr (rest (subst (λ (l : List LogEntry). IsAmong l x) same among))
    go (inr k) rest = pushed k (among-cases (appended past log) (entry_of k.lsn k.bytes ∷ []) x (subst (λ (l : List LogEntry). IsAmong l x) k.pushed among)) rest

pub are-rising : (u : Setup) (log : ℕ) (past : List Entry) → IsGoodSoFar u past → AreAscending (appended past log)
are-rising u log [] good = subst (λ (l : List LogEntry). AreAscending l) (sym (appended-none log)) tt
are-rising u log (e ∷ past) good = go (appended-step e past log) (are-rising u log past (good-tail u e past good))
  where
    go : (appended (e ∷ past) log ≡ appended past log) ⊎ IsPush e past log → AreAscending (appended past log) → AreAscending (appended (e ∷ past) log)
    go (inl same) rising = subst (λ (l : List LogEntry). AreAscending l) (sym same) rising
    go (inr k) rising =
        let next = (next-lsn u past k.pass log k.lsn k.bytes (subst (λ (x : Entry). IsGoodSoFar u (x ∷ past)) k.is good)).next in
        subst (λ (l : List LogEntry). AreAscending l) (sym k.pushed)
        (rising-push (appended past log) (entry_of k.lsn k.bytes) rising (λ x among. lower x (appended-floor log x.lsn x.bytes past (is-appended log x past among)) next))
      where
        lower : (x : LogEntry) → x.lsn ≤ floor_of past log → k.lsn ≡ suc (floor_of past log) → x.lsn < k.lsn
        lower x least next = omega (arith, least, next)

-- an LSN is above 0
pub lsn-above : (u : Setup) (log lsn : ℕ) (bytes : List ℕ) (past : List Entry) → IsGoodSoFar u past → IsAppended log lsn bytes past → 0 < lsn
lsn-above u log lsn bytes [] good is = absurd is
lsn-above u log lsn bytes (e ∷ past) good (inl here) =
    let next = (next-lsn u past here.0 log lsn bytes (subst (λ (x : Entry). IsGoodSoFar u (x ∷ past)) here.1 good)).next in omega (arith, next)
lsn-above u log lsn bytes (e ∷ past) good (inr before) = lsn-above u log lsn bytes past (good-tail u e past good) before

-- and at most the greatest one
pub lsn-fits : (u : Setup) (log lsn : ℕ) (bytes : List ℕ) (past : List Entry) → IsGoodSoFar u past → IsAppended log lsn bytes past → lsn ≤ 2 ^ 62
lsn-fits u log lsn bytes [] good is = absurd is
lsn-fits u log lsn bytes (e ∷ past) good (inl here) = (next-lsn u past here.0 log lsn bytes (subst (λ (x : Entry). IsGoodSoFar u (x ∷ past)) here.1 good)).in_range
lsn-fits u log lsn bytes (e ∷ past) good (inr before) = lsn-fits u log lsn bytes past (good-tail u e past good) before

-- ---- what is kept

module _ (u : Setup) (log durable : ℕ) (past : List Entry) (good : IsGoodSoFar u past) (kept : List LogEntry) (keeps : LogKeeps durable (appended past log) kept) where
  whole-rising : AreAscending (kept ++ keeps.rest)
  whole-rising = subst (λ (l : List LogEntry). AreAscending l) keeps.splits (are-rising u log past good)

  pub kept-rising : AreAscending kept
  kept-rising = rising-first kept keeps.rest whole-rising

  pub kept-appended : (x : LogEntry) → IsAmong kept x → IsAppended log x.lsn x.bytes past
  kept-appended x among = is-appended log x past (subst (λ (l : List LogEntry). IsAmong l x) (sym keeps.splits) (among-left kept keeps.rest x among))

  either : (lsn : ℕ) (bytes : List ℕ) → IsAppended log lsn bytes past → IsAmong kept (entry_of lsn bytes) ⊎ IsAmong keeps.rest (entry_of lsn bytes)
  either lsn bytes is = among-cases kept keeps.rest (entry_of lsn bytes) (subst (λ (l : List LogEntry). IsAmong l (entry_of lsn bytes)) keeps.splits (is-listed log lsn bytes past is))

  -- a durable entry is
  pub durable-kept : (lsn : ℕ) (bytes : List ℕ) → IsAppended log lsn bytes past → lsn ≤ durable → IsAmong kept (entry_of lsn bytes)
  durable-kept lsn bytes is least = go (either lsn bytes is)
    where
      go : IsAmong kept (entry_of lsn bytes) ⊎ IsAmong keeps.rest (entry_of lsn bytes) → IsAmong kept (entry_of lsn bytes)
      go (inl among) = among
      go (inr behind) = let above = among-all (λ (e : LogEntry). durable < e.lsn) keeps.rest (entry_of lsn bytes) keeps.beyond behind in absurd (omega (arith, above, least))

  -- and so is one with a lower LSN than one that is
  pub lower-kept : (x : LogEntry) (lsn : ℕ) (bytes : List ℕ) → IsAmong kept x → IsAppended log lsn bytes past → lsn ≤ x.lsn → IsAmong kept (entry_of lsn bytes)
  lower-kept x lsn bytes among is least = go (either lsn bytes is)
    where
      go : IsAmong kept (entry_of lsn bytes) ⊎ IsAmong keeps.rest (entry_of lsn bytes) → IsAmong kept (entry_of lsn bytes)
      go (inl here) = here
      go (inr behind) = let above = rising-across kept keeps.rest x (entry_of lsn bytes) whole-rising among behind in absurd (omega (arith, above, least))

-- ---- what an entry says

some-is : {A : Type 0} (a b : A) → Some a ≡ Some b → a ≡ b
some-is a b is = cc

pub said-update : (redo : Redo) (o : Option LogRecord) (change : Change) → change_said redo o ≡ Some change → o ≡ Some (Update redo.stream change.at change.bytes)
said-update redo None change is = absurd (cc)
said-update redo (Some (Checkpoint rows)) change is = absurd (cc)
said-update redo (Some (Update stream at bytes)) change is = go (stream == redo.stream) refl (nat_le (at + length bytes) redo.size) is
  where
    none : None ≡ Some change → ⊥
    none is = cc

    own : Change
    own = record { at = at; bytes = bytes }

    same : stream ≡ redo.stream → record { at = at; bytes = bytes } ≡ change → Some (Update stream at bytes) ≡ Some (Update redo.stream change.at change.bytes)
    same streams its =
        ap (λ (n : ℕ). Some (Update n at bytes)) streams
        ∙ (ap (λ (n : ℕ). Some (Update redo.stream n bytes)) (ap (λ (c : Change). c.at) its) ∙ ap (λ (b : List ℕ). Some (Update redo.stream change.at b)) (ap (λ (c : Change). c.bytes) its))

    go : (b : Bool) → (stream == redo.stream) ≡ b → (c : Bool) → (if b && c then Some (record { at = at; bytes = bytes }) else None) ≡ Some change → Some (Update stream at bytes) ≡ Some (Update redo.stream change.at change.bytes)
    go true streams true is = same (eqb-true stream redo.stream streams) (some-is (record { at = at; bytes = bytes }) change is)
    go true streams false is = absurd (none is)
    go false streams c is = absurd (none is)

pub update-said : (redo : Redo) (at : ℕ) (bytes : List ℕ) → at + length bytes ≤ redo.size → change_said redo (Some (Update redo.stream at bytes)) ≡ Some (record { at = at; bytes = bytes })
update-said redo at bytes within = rw (eq-eqb redo.stream redo.stream refl, le-leb (at + length bytes) redo.size within) refl
