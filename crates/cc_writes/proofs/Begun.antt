-- The transfers that the writing of a page began, and that it took no page out.
use Rattle.std.specs.Prelude.{◌≡◌, ℕ, ◌+◌, ◌⊎◌, Bool, true, false, ◌||◌, cond, Result, Ok, Err, List, [], ◌∷◌, ◌++◌, refl}
use Rattle.std.specs.List.{list_any}
use Rattle.std.proofs.Common.{ap, sym, ◌∙◌, subst, append_assoc, inl, inr, arith}
use Rattle.std.proofs.lemmas.Bool.{eq-eqb}
use Rattle.std.proofs.lemmas.List.Folds.{list_any-append}
use Rattle.cc_entry.specs.Place.{Page}
use Rattle.cc_entry.specs.declared.entry.End.{End}
use Rattle.cc_entry.specs.declared.entry.End.TheVariants as how
use Rattle.cc_entry.specs.declared.entry.Entry.{Entry}
use Rattle.cc_entry.specs.declared.entry.Entry.TheVariants as entry
use Rattle.cc_entry.specs.declared.error.CcError.{CcError}
use Rattle.cc_entry.specs.declared.error.CcError.TheVariants as error
use Rattle.cc_model.specs.Passes.{is_mine}
use Rattle.cc_effects.specs.Moments.{own, IsIdle}
use Rattle.cc_effects.specs.PageWrites.{pages_begun}
use Rattle.cc_effects.proofs.Begun.{ascend-none, ascend-then, none-behind, none-idle}
use Rattle.cc_effects.proofs.Stretches.{own-after, own-append, own-others}
use Rattle.cc_turns.specs.Standing.{Standing}
use Rattle.cc_effects.specs.Begins.{AscendWithin, BeginsNone, BeginsAscending, TakesNoneOut, is_page_out}
use Rattle.cc_writes.specs.Hands.{WentWith}
use Rattle.cc_writes.specs.Writes.{IsBefore, HasTransferred, HasNotLogged, WriteShown}
use Rattle.cc_writes.specs.declared.writes.PageTransfer.{PageTransfer}
use Rattle.cc_writes.specs.declared.writes.PageTransfer.TheVariants as write

-- before the transfer of a page nothing began, and it alone did
pub none-before : (w : Standing) (past : List Entry) → IsBefore w past → BeginsNone w.number w.seen past
none-before w past is = record { during = is.since; grew = is.grew; none = by is.only }
  where
    by : ((own w.number is.since ≡ []) ⊎ ((handle : ℕ) × (to : ℕ) × (own w.number is.since ≡ entry.Flushed w.number handle to ∷ []))) → pages_begun (own w.number is.since) ≡ []
    by (inl none) = ap pages_begun none
    by (inr flushed) = ap pages_begun flushed.2

pub none-not_logged : (w : Standing) (page : Page) (handle : ℕ) (seen : List Entry) → HasNotLogged w page handle seen → BeginsNone w.number w.seen seen
none-not_logged w page handle seen is =
    subst (λ (past : List Entry). BeginsNone w.number w.seen past) (sym is.placed)
    (none-behind w.number (entry.LogFailed w.number handle) w.seen is.front refl
    (none-idle w.number w.seen is.front (record { during = is.grows.later; grew = is.grows.grew; others = is.grows.others })))

pub ascend-transferred : (w : Standing) (page : Page) (how : End) (keeps : Bool) (seen : List Entry) → HasTransferred w page how keeps seen → BeginsAscending w.number page.page (page.page + 1) w.seen seen
ascend-transferred w page how keeps seen is =
    subst (λ (past : List Entry). BeginsAscending w.number page.page (page.page + 1) w.seen past) (sym is.placed)
    (ascend-then w.number page.page page.page (page.page + 1) w.seen is.before _
    (ascend-none w.number page.page page.page w.seen is.before (omega arith) (none-before w is.before is.is_before))
    (record { during = entry.WriteEnd w.number page how ∷ (is.later ++ entry.WriteBegin w.number page ∷ []); grew = grew; ascend = ascend }))
  where
    grew : entry.WriteEnd w.number page how ∷ (is.later ++ entry.WriteBegin w.number page ∷ is.before) ≡ (entry.WriteEnd w.number page how ∷ (is.later ++ entry.WriteBegin w.number page ∷ [])) ++ is.before
    grew = ap (λ l. entry.WriteEnd w.number page how ∷ l) (sym (append_assoc is.later (entry.WriteBegin w.number page ∷ []) is.before))

    ascend : AscendWithin page.page (page.page + 1) (pages_begun (own w.number (entry.WriteEnd w.number page how ∷ (is.later ++ entry.WriteBegin w.number page ∷ []))))
    ascend = rw (eq-eqb w.number w.number refl, own-after w.number is.later (entry.WriteBegin w.number page ∷ []) is.others, eq-eqb w.number w.number refl) (omega arith, omega arith)

-- so whatever the writing of a page answers
pub ascend-shown : (w : Standing) (page : Page) (keeps : Bool) (r : Result PageTransfer CcError) (seen : List Entry) → WriteShown w page keeps r seen → BeginsAscending w.number page.page (page.page + 1) w.seen seen
ascend-shown w page keeps (Ok write.Written) seen shown = ascend-transferred w page how.Good keeps seen shown
ascend-shown w page keeps (Ok write.NotWritten) seen shown = ascend-transferred w page how.Failed keeps seen shown
ascend-shown w page keeps (Ok (write.NotLogged handle)) seen shown =
    ascend-none w.number page.page (page.page + 1) w.seen seen (omega arith) (none-not_logged w page handle seen shown)
ascend-shown w page keeps (Err (error.JournalFull entries)) seen shown =
    ascend-none w.number page.page (page.page + 1) w.seen seen (omega arith) (none-before w seen shown)
ascend-shown w page keeps (Err error.NoMemory) seen (inl before) =
    ascend-none w.number page.page (page.page + 1) w.seen seen (omega arith) (none-before w seen before)
ascend-shown w page keeps (Err error.NoMemory) seen (inr transferred) = ascend-transferred w page how.NoMemory keeps seen transferred
ascend-shown w page keeps (Err other) seen shown = absurd shown

-- and where the pass went on, and then began none
pub ascend-ended : (flight low high : ℕ) (w v : Standing) (new : List Entry) → WentWith flight w v → BeginsAscending w.number low high w.seen v.seen → BeginsNone v.number v.seen new → BeginsAscending w.number low high w.seen new
ascend-ended flight low high w v new went first none =
    ascend-then w.number low high high w.seen v.seen new first
    (ascend-none w.number high high v.seen new (omega arith)
    (subst (λ (n : ℕ). BeginsNone n v.seen new) (ap (λ (x : Standing). x.number) went.same) none))

neither : (a b : Bool) → a ≡ false → b ≡ false → (a || b) ≡ false
neither false false a b = refl
neither false true a b = absurd (cc)
neither true b a other = absurd (cc)

-- no page went out, by what was placed
pub stays-idle : (me : ℕ) (old new : List Entry) → IsIdle me old new → TakesNoneOut me old new
stays-idle me old new idle = record { during = idle.during; grew = idle.grew; none = ap (list_any is_page_out) (own-others me idle.during idle.others) }

pub stays-then : (me : ℕ) (old between new : List Entry) → TakesNoneOut me old between → TakesNoneOut me between new → TakesNoneOut me old new
stays-then me old between new first second = record {
  during = second.during ++ first.during;
  grew = second.grew ∙ (ap (λ l. second.during ++ l) first.grew ∙ sym (append_assoc second.during first.during old));
  none = ap (list_any is_page_out) (own-append me second.during first.during)
      ∙ (list_any-append is_page_out (own me second.during) (own me first.during)
      ∙ neither (list_any is_page_out (own me second.during)) (list_any is_page_out (own me first.during)) second.none first.none);
}

pub stays-behind : (me : ℕ) (e : Entry) (old new : List Entry) → list_any is_page_out (e ∷ []) ≡ false → TakesNoneOut me old new → TakesNoneOut me old (e ∷ new)
stays-behind me e old new none is = stays-then me old new (e ∷ new) is (record { during = e ∷ []; grew = refl; none = by (is_mine me e) })
  where
    by : (b : Bool) → list_any is_page_out (cond b (e ∷ []) []) ≡ false
    by true = none
    by false = refl

stays-before : (w : Standing) (past : List Entry) → IsBefore w past → TakesNoneOut w.number w.seen past
stays-before w past is = record { during = is.since; grew = is.grew; none = by is.only }
  where
    by : ((own w.number is.since ≡ []) ⊎ ((handle : ℕ) × (to : ℕ) × (own w.number is.since ≡ entry.Flushed w.number handle to ∷ []))) → list_any is_page_out (own w.number is.since) ≡ false
    by (inl none) = ap (list_any is_page_out) none
    by (inr flushed) = ap (list_any is_page_out) flushed.2

stays-transferred : (w : Standing) (page : Page) (how : End) (keeps : Bool) (seen : List Entry) → HasTransferred w page how keeps seen → TakesNoneOut w.number w.seen seen
stays-transferred w page how keeps seen is =
    subst (λ (past : List Entry). TakesNoneOut w.number w.seen past) (sym is.placed)
    (stays-behind w.number (entry.WriteEnd w.number page how) w.seen (is.later ++ (entry.WriteBegin w.number page ∷ is.before)) refl
    (stays-then w.number w.seen (entry.WriteBegin w.number page ∷ is.before) (is.later ++ (entry.WriteBegin w.number page ∷ is.before))
    (stays-behind w.number (entry.WriteBegin w.number page) w.seen is.before refl (stays-before w is.before is.is_before))
    (stays-idle w.number (entry.WriteBegin w.number page ∷ is.before) (is.later ++ (entry.WriteBegin w.number page ∷ is.before)) (record { during = is.later; grew = refl; others = is.others }))))

-- so where a page was written, whatever that answers
pub stays-shown : (w : Standing) (page : Page) (keeps : Bool) (r : Result PageTransfer CcError) (seen : List Entry) → WriteShown w page keeps r seen → TakesNoneOut w.number w.seen seen
stays-shown w page keeps (Ok write.Written) seen shown = stays-transferred w page how.Good keeps seen shown
stays-shown w page keeps (Ok write.NotWritten) seen shown = stays-transferred w page how.Failed keeps seen shown
stays-shown w page keeps (Ok (write.NotLogged handle)) seen shown =
    subst (λ (past : List Entry). TakesNoneOut w.number w.seen past) (sym shown.placed)
    (stays-behind w.number (entry.LogFailed w.number handle) w.seen shown.front refl
    (stays-idle w.number w.seen shown.front (record { during = shown.grows.later; grew = shown.grows.grew; others = shown.grows.others })))
stays-shown w page keeps (Err (error.JournalFull entries)) seen shown = stays-before w seen shown
stays-shown w page keeps (Err error.NoMemory) seen (inl before) = stays-before w seen before
stays-shown w page keeps (Err error.NoMemory) seen (inr transferred) = stays-transferred w page how.NoMemory keeps seen transferred
stays-shown w page keeps (Err other) seen shown = absurd shown

-- and where the pass went on then
pub stays-ended : (flight : ℕ) (w v : Standing) (new : List Entry) → WentWith flight w v → TakesNoneOut w.number w.seen v.seen → TakesNoneOut v.number v.seen new → TakesNoneOut w.number w.seen new
stays-ended flight w v new went first then =
    stays-then w.number w.seen v.seen new first (subst (λ (n : ℕ). TakesNoneOut n v.seen new) (ap (λ (x : Standing). x.number) went.same) then)
