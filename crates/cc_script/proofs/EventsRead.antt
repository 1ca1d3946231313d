-- What a line of steps, of read-ahead, of queued reads, of the lazy writer or the throttle, or a setting, that is read names and
-- moves.
use Rattle.std.proofs.Common.{◌≡◌, ℕ, ◌<◌, ◌==◌, ◌^◌, true, Some, List, length, refl, ap, subst, arith}
use Rattle.std.specs.Str.{bytes_eq}
use Rattle.std.proofs.lemmas.Bool.Decides.{nat_tests}
use Rattle.cc_entry.specs.Place.{File, Page}
use Rattle.cc_script.specs.declared.script.Mode.{Mode}
use Rattle.cc_script.specs.declared.script.Mode.TheVariants as mode
use Rattle.cc_script.specs.declared.script.StreamLine.{StreamLine}
use Rattle.cc_script.specs.declared.script.Action.{Action}
use Rattle.cc_script.specs.declared.script.Action.TheVariants as action
use Rattle.cc_script.specs.Words.{parsed_number, number_between, parsed_bytes}
use Rattle.cc_script.specs.Actions.{next, ended, stream_named, parsed_file}
use Rattle.cc_script.specs.EventActions.{page_number, parsed_page, parsed_fill, parsed_drop, parsed_write_begin, parsed_write_end, parsed_sync, parsed_nc_read_page, parsed_nc_store_page, parsed_nc_write_page, parsed_ask_ahead, parsed_async_read, parsed_defer, parsed_set_granularity, parsed_set_attributes, parsed_set_threshold}
use Rattle.cc_script.specs.Modes.{RunAlone, StepsAlone, stands}
use Rattle.cc_script.specs.Within.{IsPageWithin, IsFilePageWithin}
use Rattle.cc_script.proofs.Steps.{then-gives, if-gives, next-gives, ended-gives, between-gives, position-below, file-gives}
use Rattle.cc_script.proofs.Plain.{IsPlain}

-- a stream that is named is one of the script
stream-gives : (streams : List StreamLine) (ws : List (List ℕ)) (s : ℕ) (more : List (List ℕ)) → next (stream_named streams) ws ≡ Some (s, more) → s < length streams
stream-gives streams ws s more e =
    let w = next-gives (stream_named streams) ws s more e in
    position-below (λ stream. bytes_eq stream.name w.word) streams s w.reads

-- a page's number is below 2^51
number-gives : (ws : List (List ℕ)) (page : ℕ) (more : List (List ℕ)) → next page_number ws ≡ Some (page, more) → page < 2 ^ 51
number-gives ws page more e =
    let w = next-gives page_number ws page more e in
    let b = between-gives 0 2251799813685247 w.word page w.reads in
    let most = b.most in
    omega (arith, most)

page-gives : (streams : List StreamLine) (ws : List (List ℕ)) (page : Page) (more : List (List ℕ)) → parsed_page streams ws ≡ Some (page, more) → IsPageWithin streams page
unfolding parsed_page
page-gives streams ws page more e =
    let stream = then-gives (next (stream_named streams) ws) _ (page, more) e in
    let number = then-gives (next page_number stream.0.1) _ (page, more) stream.2 in
    let pair : (let it : Page × List (List ℕ) = (record { stream = stream.0.0; page = number.0.0 }, number.0.1) in it) ≡ (page, more) = cc in
    subst (IsPageWithin streams) (ap (λ (it : Page × List (List ℕ)). it.0) pair)
    (record { stream = stream-gives streams ws stream.0.0 stream.0.1 stream.1; number = number-gives stream.0.1 number.0.0 number.0.1 number.1 })

-- a file, and the number of a page of it
file_page-gives : (streams : List StreamLine) (ws more left : List (List ℕ)) (file : File) (page : ℕ) → next (parsed_file streams) ws ≡ Some (file, more) → next page_number more ≡ Some (page, left) → IsFilePageWithin streams file page
file_page-gives streams ws more left file page e g =
    let f = next-gives (parsed_file streams) ws file more e in
    record { in_file = file-gives streams f.word file f.reads; number = number-gives more page left g }

pub fill-gives : (m : Mode) (streams : List StreamLine) (ws : List (List ℕ)) → stands StepsAlone m ≡ true → (a : Action) → parsed_fill streams ws ≡ Some a → IsPlain m streams a
unfolding parsed_fill
fill-gives m streams ws in_mode a e =
    let page = then-gives (parsed_page streams ws) _ a e in
    let end = ended-gives _ _ a page.2 in
    subst (IsPlain m streams) end.1
    (record { file = page-gives streams ws page.0.0 page.0.1 page.1; moved = omega arith; numbered = λ n. refl; in_mode = in_mode })

pub drop-gives : (m : Mode) (streams : List StreamLine) (ws : List (List ℕ)) → stands StepsAlone m ≡ true → (a : Action) → parsed_drop streams ws ≡ Some a → IsPlain m streams a
unfolding parsed_drop
drop-gives m streams ws in_mode a e =
    let page = then-gives (parsed_page streams ws) _ a e in
    let end = ended-gives _ _ a page.2 in
    subst (IsPlain m streams) end.1
    (record { file = page-gives streams ws page.0.0 page.0.1 page.1; moved = omega arith; numbered = λ n. refl; in_mode = in_mode })

pub write_begin-gives : (m : Mode) (streams : List StreamLine) (ws : List (List ℕ)) → stands StepsAlone m ≡ true → (a : Action) → parsed_write_begin streams ws ≡ Some a → IsPlain m streams a
unfolding parsed_write_begin
write_begin-gives m streams ws in_mode a e =
    let page = then-gives (parsed_page streams ws) _ a e in
    let end = ended-gives _ _ a page.2 in
    subst (IsPlain m streams) end.1
    (record { file = page-gives streams ws page.0.0 page.0.1 page.1; moved = omega arith; numbered = λ n. refl; in_mode = in_mode })

pub write_end-gives : (m : Mode) (streams : List StreamLine) (ws : List (List ℕ)) → stands StepsAlone m ≡ true → (a : Action) → parsed_write_end streams ws ≡ Some a → IsPlain m streams a
unfolding parsed_write_end
write_end-gives m streams ws in_mode a e =
    let page = then-gives (parsed_page streams ws) _ a e in
    let end = ended-gives _ _ a page.2 in
    subst (IsPlain m streams) end.1
    (record { file = page-gives streams ws page.0.0 page.0.1 page.1; moved = omega arith; numbered = λ n. refl; in_mode = in_mode })

pub sync-gives : (m : Mode) (streams : List StreamLine) (ws : List (List ℕ)) → stands StepsAlone m ≡ true → (a : Action) → parsed_sync streams ws ≡ Some a → IsPlain m streams a
unfolding parsed_sync
sync-gives m streams ws in_mode a e =
    let stream = then-gives (next (stream_named streams) ws) _ a e in
    let end = ended-gives _ _ a stream.2 in
    subst (IsPlain m streams) end.1
    (record { file = stream-gives streams ws stream.0.0 stream.0.1 stream.1; moved = omega arith; numbered = λ n. refl; in_mode = in_mode })

pub scan-gives : (m : Mode) (streams : List StreamLine) (ws : List (List ℕ)) → stands StepsAlone m ≡ true → (a : Action) → ended ws action.Scan ≡ Some a → IsPlain m streams a
scan-gives m streams ws in_mode a e =
    subst (IsPlain m streams) (ended-gives ws action.Scan a e).1
    (record { file = tt; moved = omega arith; numbered = λ n. refl; in_mode = in_mode })

pub ask_ahead-gives : (m : Mode) (streams : List StreamLine) (ws : List (List ℕ)) → stands RunAlone m ≡ true → (a : Action) → parsed_ask_ahead streams ws ≡ Some a → IsPlain m streams a
unfolding parsed_ask_ahead
ask_ahead-gives m streams ws in_mode a e =
    let file = then-gives (next (parsed_file streams) ws) _ a e in
    let at = then-gives (next parsed_number file.0.1) _ a file.2 in
    let len = then-gives (next parsed_number at.0.1) _ a at.2 in
    let end = ended-gives _ _ a len.2 in
    let f = next-gives (parsed_file streams) ws file.0.0 file.0.1 file.1 in
    subst (IsPlain m streams) end.1
    (record { file = file-gives streams f.word file.0.0 f.reads; moved = omega arith; numbered = λ n. refl; in_mode = in_mode })

pub ahead_step-gives : (m : Mode) (streams : List StreamLine) (ws : List (List ℕ)) → stands RunAlone m ≡ true → (a : Action) → ended ws action.AheadStep ≡ Some a → IsPlain m streams a
ahead_step-gives m streams ws in_mode a e =
    subst (IsPlain m streams) (ended-gives ws action.AheadStep a e).1
    (record { file = tt; moved = omega arith; numbered = λ n. refl; in_mode = in_mode })

pub async_read-gives : (m : Mode) (streams : List StreamLine) (ws : List (List ℕ)) → stands RunAlone m ≡ true → (a : Action) → parsed_async_read streams ws ≡ Some a → IsPlain m streams a
unfolding parsed_async_read
async_read-gives m streams ws in_mode a e =
    let file = then-gives (next (parsed_file streams) ws) _ a e in
    let at = then-gives (next parsed_number file.0.1) _ a file.2 in
    let len = then-gives (next (number_between 0 2097152) at.0.1) _ a at.2 in
    let end = ended-gives _ _ a len.2 in
    let f = next-gives (parsed_file streams) ws file.0.0 file.0.1 file.1 in
    let l = next-gives (number_between 0 2097152) at.0.1 len.0.0 len.0.1 len.1 in
    let b = between-gives 0 2097152 l.word len.0.0 l.reads in
    subst (IsPlain m streams) end.1
    (record { file = file-gives streams f.word file.0.0 f.reads; moved = b.most; numbered = λ n. refl; in_mode = in_mode })

pub complete-gives : (m : Mode) (streams : List StreamLine) (ws : List (List ℕ)) → stands RunAlone m ≡ true → (a : Action) → ended ws action.Complete ≡ Some a → IsPlain m streams a
complete-gives m streams ws in_mode a e =
    subst (IsPlain m streams) (ended-gives ws action.Complete a e).1
    (record { file = tt; moved = omega arith; numbered = λ n. refl; in_mode = in_mode })

pub tick-gives : (m : Mode) (streams : List StreamLine) (ws : List (List ℕ)) → stands RunAlone m ≡ true → (a : Action) → ended ws action.Tick ≡ Some a → IsPlain m streams a
tick-gives m streams ws in_mode a e =
    subst (IsPlain m streams) (ended-gives ws action.Tick a e).1
    (record { file = tt; moved = omega arith; numbered = λ n. refl; in_mode = in_mode })

pub post-gives : (m : Mode) (streams : List StreamLine) (ws : List (List ℕ)) → (a : Action) → ended ws action.Post ≡ Some a → IsPlain m streams a
post-gives m streams ws a e =
    subst (IsPlain m streams) (ended-gives ws action.Post a e).1
    (record { file = tt; moved = omega arith; numbered = λ n. refl; in_mode = refl })

pub nc_read_page-gives : (streams : List StreamLine) (ws : List (List ℕ)) (a : Action) → parsed_nc_read_page streams ws ≡ Some a → IsPlain mode.Steps streams a
unfolding parsed_nc_read_page
nc_read_page-gives streams ws a e =
    let file = then-gives (next (parsed_file streams) ws) _ a e in
    let page = then-gives (next page_number file.0.1) _ a file.2 in
    let end = ended-gives _ _ a page.2 in
    let of_file = file_page-gives streams ws file.0.1 page.0.1 file.0.0 page.0.0 file.1 page.1 in
    subst (IsPlain mode.Steps streams) end.1 (record { file = of_file; moved = omega arith; numbered = λ n. refl; in_mode = refl })

pub nc_write_page-gives : (streams : List StreamLine) (ws : List (List ℕ)) (a : Action) → parsed_nc_write_page streams ws ≡ Some a → IsPlain mode.Steps streams a
unfolding parsed_nc_write_page
nc_write_page-gives streams ws a e =
    let file = then-gives (next (parsed_file streams) ws) _ a e in
    let page = then-gives (next page_number file.0.1) _ a file.2 in
    let end = ended-gives _ _ a page.2 in
    let of_file = file_page-gives streams ws file.0.1 page.0.1 file.0.0 page.0.0 file.1 page.1 in
    subst (IsPlain mode.Steps streams) end.1 (record { file = of_file; moved = omega arith; numbered = λ n. refl; in_mode = refl })

pub nc_store_page-gives : (m : Mode) (streams : List StreamLine) (ws : List (List ℕ)) → stands StepsAlone m ≡ true → (a : Action) → parsed_nc_store_page streams ws ≡ Some a → IsPlain m streams a
unfolding parsed_nc_store_page
nc_store_page-gives m streams ws in_mode a e =
    let file = then-gives (next (parsed_file streams) ws) _ a e in
    let page = then-gives (next page_number file.0.1) _ a file.2 in
    let bytes = then-gives (next parsed_bytes page.0.1) _ a page.2 in
    let whole = if-gives (length bytes.0.0 == 4096) (ended bytes.0.1 (action.NcStorePage file.0.0 page.0.0 bytes.0.0)) a bytes.2 in
    let end = ended-gives _ _ a whole.1 in
    let of_file = file_page-gives streams ws file.0.1 page.0.1 file.0.0 page.0.0 file.1 page.1 in
    let len : length bytes.0.0 ≡ 4096 = grind (arith, nat_tests, whole.0) in
    subst (IsPlain m streams) end.1 (record { file = (of_file, len); moved = omega (arith, len); numbered = λ n. refl; in_mode = in_mode })

pub defer-gives : (m : Mode) (streams : List StreamLine) (ws : List (List ℕ)) → (a : Action) → parsed_defer streams ws ≡ Some a → IsPlain m streams a
unfolding parsed_defer
defer-gives m streams ws a e =
    let file = then-gives (next (parsed_file streams) ws) _ a e in
    let bytes = then-gives (next parsed_number file.0.1) _ a file.2 in
    let end = ended-gives _ _ a bytes.2 in
    let f = next-gives (parsed_file streams) ws file.0.0 file.0.1 file.1 in
    subst (IsPlain m streams) end.1
    (record { file = file-gives streams f.word file.0.0 f.reads; moved = omega arith; numbered = λ n. refl; in_mode = refl })

pub set_granularity-gives : (m : Mode) (streams : List StreamLine) (ws : List (List ℕ)) → (a : Action) → parsed_set_granularity streams ws ≡ Some a → IsPlain m streams a
unfolding parsed_set_granularity
set_granularity-gives m streams ws a e =
    let file = then-gives (next (parsed_file streams) ws) _ a e in
    let bytes = then-gives (next parsed_number file.0.1) _ a file.2 in
    let end = ended-gives _ _ a bytes.2 in
    let f = next-gives (parsed_file streams) ws file.0.0 file.0.1 file.1 in
    subst (IsPlain m streams) end.1
    (record { file = file-gives streams f.word file.0.0 f.reads; moved = omega arith; numbered = λ n. refl; in_mode = refl })

pub set_attributes-gives : (m : Mode) (streams : List StreamLine) (ws : List (List ℕ)) → (a : Action) → parsed_set_attributes streams ws ≡ Some a → IsPlain m streams a
unfolding parsed_set_attributes
set_attributes-gives m streams ws a e =
    let file = then-gives (next (parsed_file streams) ws) _ a e in
    let ahead = then-gives (next (number_between 0 1) file.0.1) _ a file.2 in
    let behind = then-gives (next (number_between 0 1) ahead.0.1) _ a ahead.2 in
    let end = ended-gives _ _ a behind.2 in
    let f = next-gives (parsed_file streams) ws file.0.0 file.0.1 file.1 in
    subst (IsPlain m streams) end.1
    (record { file = file-gives streams f.word file.0.0 f.reads; moved = omega arith; numbered = λ n. refl; in_mode = refl })

pub set_threshold-gives : (m : Mode) (streams : List StreamLine) (ws : List (List ℕ)) → (a : Action) → parsed_set_threshold streams ws ≡ Some a → IsPlain m streams a
unfolding parsed_set_threshold
set_threshold-gives m streams ws a e =
    let file = then-gives (next (parsed_file streams) ws) _ a e in
    let pages = then-gives (next (number_between 0 4294967295) file.0.1) _ a file.2 in
    let end = ended-gives _ _ a pages.2 in
    let f = next-gives (parsed_file streams) ws file.0.0 file.0.1 file.1 in
    subst (IsPlain m streams) end.1
    (record { file = file-gives streams f.word file.0.0 f.reads; moved = omega arith; numbered = λ n. refl; in_mode = refl })
