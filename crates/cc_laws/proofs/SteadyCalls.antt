-- A call that is done in a legal and allowed journal is steady.
use Rattle.std.specs.Prelude.{◌≡◌, ℕ, ◌*◌, ◌≤◌, Bool, true, false, not, ◌&&◌, ◌||◌, nat_lt, List, [], ◌∷◌, length, refl}
use Rattle.std.proofs.lemmas.Bool.{ltb-false}
use Rattle.std.specs.declared.option.Option.{Option}
use Rattle.std.specs.declared.option.Option.TheVariants.{Some, None}
use Rattle.cc_entry.specs.Place.{File}
use Rattle.cc_entry.specs.declared.call.Call.{Call}
use Rattle.cc_entry.specs.declared.call.Call.TheVariants as call
use Rattle.cc_entry.specs.declared.hold.HoldKind.{HoldKind}
use Rattle.cc_entry.specs.declared.entry.Entry.{Entry}
use Rattle.cc_model.specs.Setup.{Setup}
use Rattle.cc_model.specs.Numbers.{is_among}
use Rattle.cc_model.specs.History.{Effect}
use Rattle.cc_model.specs.Acts.{act_of, file_of}
use Rattle.cc_model.specs.Objects.{objects, had_map}
use Rattle.cc_model.specs.Holds.{Hold, hold_at, holds_of, held_after}
use Rattle.cc_model.specs.Touches.{valid_of, is_mapped}
use Rattle.cc_model.specs.Images.{open_of}
use Rattle.cc_model.specs.Reasons.{not_cached, cached_file, in_order, bad_sizes, past_valid, beyond_valid}
use Rattle.cc_model.specs.Discards.{unsettled}
use Rattle.cc_model.specs.Refusals.{refusal}
use Rattle.cc_model.specs.Legal.{IsAdmitted}
use Rattle.cc_entry.specs.Kinds.{is_write_chain}
use Rattle.cc_model.specs.Filing.{serves, serves_range, IsFiled}
use Rattle.cc_entry.specs.Kinds.{is_pin}
use Rattle.cc_laws.proofs.UnrefusedCalls.{unrefused, refuse_if-none}
use Rattle.cc_laws.proofs.LeastPages.{unsettled-none}
use Rattle.cc_laws.proofs.Steady.{BeginsWithin, ComesBackWithin, DiscardsSettled, needs_no_map, IsSteadyCall}

not_past : (valid start : ℕ) → past_valid valid start ≡ None → start ≤ valid
not_past valid start is = ltb-false valid start (refuse_if-none (nat_lt valid start) _ is)

within-valid : (valid : ℕ) (call : Call) → beyond_valid valid call ≡ None → BeginsWithin valid (act_of call)
within-valid valid (call.CopyWrite file at bytes) e = not_past valid at e
within-valid valid (call.Zero file span) e = not_past valid span.from e
within-valid valid (call.PreparePin file at len true exclusive) e = not_past valid at e
within-valid valid (call.PreparePin file at len false exclusive) e = tt
within-valid valid (call.PinnedWrite hold at bytes) e = not_past valid at e
within-valid valid (call.MdlStore hold at bytes) e = not_past valid at e
within-valid valid (call.NcStore file page bytes) e = not_past valid (4096 * page) e
within-valid valid other e = tt

-- the sizes of an initialise that makes the map again
back-valid : (mapped ordered had : Bool) (valid given : ℕ) → (not mapped && (not ordered || (had && nat_lt valid given))) ≡ false → mapped ≡ false → had ≡ true → given ≤ valid
back-valid true ordered had valid given e is_not was = absurd (cc)
back-valid false false had valid given e is_not was = absurd (cc)
back-valid false true false valid given e is_not was = absurd (cc)
back-valid false true true valid given e is_not was = ltb-false valid given e

comes_back : (h : List Effect) (call : Call) → bad_sizes h call ≡ None → ComesBackWithin h (act_of call)
comes_back h (call.Initialise file sizes quota temporary) e =
    back-valid (is_mapped h) (in_order sizes) (had_map h) (valid_of h) sizes.valid (refuse_if-none _ _ e)
comes_back h (call.PreparePin file at len true exclusive) e = tt
comes_back h (call.PreparePin file at len false exclusive) e = tt
comes_back h other e = tt

-- what a discard finds of transfers
abbrev pub FindsNoTransfer : List Effect → Call → Type 0
FindsNoTransfer h (call.Discard file span) = open_of h ≡ None
FindsNoTransfer h other = Unit {0}

settled : (h : List Effect) (call : Call) → unsettled h call ≡ None → FindsNoTransfer h call → DiscardsSettled h (act_of call)
settled h (call.Discard file span) e finds = record { no_transfer = finds; known = λ p has dirty. (unsettled-none h file span).0 e p dirty has }
settled h (call.PreparePin file at len true exclusive) e finds = tt
settled h (call.PreparePin file at len false exclusive) e finds = tt
settled h other e finds = tt

-- no object is open where there is none
none_open : (h : List Effect) (file : File) → not_cached h (Some file) ≡ None → objects h ≡ [] → ⊥
none_open h file e none = go (objects h) none (refuse_if-none _ _ e)
  where
    go : (opened : List ℕ) → opened ≡ [] → not (is_among file.object opened) ≡ false → ⊥
    go [] is closed = absurd (cc)
    go (x ∷ xs) is closed = absurd (cc)

-- no hold serves where there is none
unserved : (holds : List Hold) (pass hold : ℕ) (of_kind : HoldKind → Bool) → holds ≡ [] → serves pass of_kind (hold_at holds hold) ≡ true → ⊥
unserved [] pass hold of_kind is e = absurd (cc)
unserved (x ∷ xs) pass hold of_kind is e = absurd (cc)

unserved_range : (holds : List Hold) (pass hold at n : ℕ) (of_kind : HoldKind → Bool) → holds ≡ [] → serves_range pass of_kind at n (hold_at holds hold) ≡ true → ⊥
unserved_range [] pass hold at n of_kind is e = absurd (cc)
unserved_range (x ∷ xs) pass hold at n of_kind is e = absurd (cc)

-- before the first map only an initialise and what changes nothing may be done
first_acts : (h : List Effect) (pass : ℕ) (stream : Option ℕ) (call : Call) → not_cached h (cached_file call (file_of call)) ≡ None → IsFiled (holds_of h) pass stream call (file_of call) → objects h ≡ [] → holds_of h ≡ [] → needs_no_map (act_of call) ≡ true
first_acts h pass stream (call.Uninitialise file truncate) e f none free = absurd (none_open h file e none)
first_acts h pass stream (call.CopyWrite file at bytes) e f none free = absurd (none_open h file e none)
first_acts h pass stream (call.Zero file span) e f none free = absurd (none_open h file e none)
first_acts h pass stream (call.PreparePin file at len true exclusive) e f none free = absurd (none_open h file e none)
first_acts h pass stream (call.PreparePin file at len false exclusive) e f none free = refl
first_acts h pass stream (call.PinnedWrite hold at bytes) e f none free = absurd (unserved_range (holds_of h) pass hold at (length bytes) is_pin free f)
first_acts h pass stream (call.SetDirty hold lsn) e f none free = absurd (unserved (holds_of h) pass hold is_pin free f)
first_acts h pass stream (call.MdlStore hold at bytes) e f none free = absurd (unserved_range (holds_of h) pass hold at (length bytes) is_write_chain free f)
first_acts h pass stream (call.NcStore file page bytes) e f none free = absurd (none_open h file e none)
first_acts h pass stream (call.SetSizes file allocation size) e f none free = absurd (none_open h file e none)
first_acts h pass stream (call.Discard file span) e f none free = absurd (none_open h file e none)
first_acts h pass stream other e f none free = refl

-- and no hold is made
first_holds : (h : List Effect) (call : Call) → not_cached h (cached_file call (file_of call)) ≡ None → objects h ≡ [] → (pass id : ℕ) → held_after pass call id [] ≡ []
first_holds h (call.Map file at len) e none pass id = absurd (none_open h file e none)
first_holds h (call.PinRead file at len exclusive) e none pass id = absurd (none_open h file e none)
first_holds h (call.PreparePin file at len true exclusive) e none pass id = absurd (none_open h file e none)
first_holds h (call.PreparePin file at len false exclusive) e none pass id = absurd (none_open h file e none)
first_holds h (call.MdlRead file at len) e none pass id = absurd (none_open h file e none)
first_holds h (call.MdlWrite file at len) e none pass id = absurd (none_open h file e none)
first_holds h (call.PinMapped hold exclusive) e none pass id = refl
first_holds h (call.PinnedWrite hold at bytes) e none pass id = refl
first_holds h (call.SetDirty hold lsn) e none pass id = refl
first_holds h (call.EndHold hold) e none pass id = refl
first_holds h (call.Repin hold) e none pass id = refl
first_holds h other e none pass id = refl

pub IsSteadyCall-unrefused : (u : Setup) (past : List Entry) (h : List Effect) (pass : ℕ) (stream : Option ℕ) (call : Call) → refusal u past h call ≡ None → IsFiled (holds_of h) pass stream call (file_of call) → FindsNoTransfer h call → IsSteadyCall h call
IsSteadyCall-unrefused u past h pass stream call e filed finds =
    let free = unrefused u past h call e in
    record {
      within = within-valid (valid_of h) call free.within_valid;
      back = comes_back h call free.sizes_in_order;
      settled = settled h call free.images_known finds;
      first = first_acts h pass stream call free.cached filed;
      unheld = λ none held. first_holds h call free.cached none;
    }

-- a call that may be done is steady, the end of a noncached write too, which changes nothing
pub IsSteadyCall-admitted : (u : Setup) (past : List Entry) (h : List Effect) (pass : ℕ) (stream : Option ℕ) (call : Call) → IsAdmitted u past h call → IsFiled (holds_of h) pass stream call (file_of call) → FindsNoTransfer h call → IsSteadyCall h call
IsSteadyCall-admitted u past h pass stream (call.NcWrite file page) e filed finds =
    record { within = tt; back = tt; settled = tt; first = λ none held. refl; unheld = λ none held pass id. refl }
IsSteadyCall-admitted u past h pass stream other e filed finds = IsSteadyCall-unrefused u past h pass stream other e filed finds
