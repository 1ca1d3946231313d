-- What a line of the shim, of the levels of a view index or of the record of a stream, that is read names and moves.
use Rattle.std.proofs.Common.{◌≡◌, ℕ, true, Some, List, refl, subst, arith}
use Rattle.cc_script.specs.declared.script.Mode.{Mode}
use Rattle.cc_script.specs.declared.script.StreamLine.{StreamLine}
use Rattle.cc_script.specs.declared.script.Action.{Action}
use Rattle.cc_script.specs.Words.{parsed_number, number_between, parsed_bytes}
use Rattle.cc_script.specs.Actions.{next, parsed_file, parsed_span}
use Rattle.cc_script.specs.ShimActions.{parsed_path, parsed_read, parsed_write, parsed_update, parsed_levels, parsed_settle, parsed_checkpoint, parsed_lock, parsed_unlock}
use Rattle.cc_script.specs.Modes.{RunAlone, stands}
use Rattle.cc_script.proofs.Steps.{then-gives, next-gives, ended-gives, between-gives, file-gives, bytes-give}
use Rattle.cc_script.proofs.Plain.{IsPlain}

pub read-gives : (m : Mode) (streams : List StreamLine) (ws : List (List ℕ)) → stands RunAlone m ≡ true → (a : Action) → parsed_read streams ws ≡ Some a → IsPlain m streams a
unfolding parsed_read
read-gives m streams ws in_mode a e =
    let file = then-gives (next (parsed_file streams) ws) _ a e in
    let by = then-gives (next parsed_path file.0.1) _ a file.2 in
    let at = then-gives (next parsed_number by.0.1) _ a by.2 in
    let len = then-gives (next (number_between 0 2097152) at.0.1) _ a at.2 in
    let end = ended-gives _ _ a len.2 in
    let f = next-gives (parsed_file streams) ws file.0.0 file.0.1 file.1 in
    let l = next-gives (number_between 0 2097152) at.0.1 len.0.0 len.0.1 len.1 in
    let b = between-gives 0 2097152 l.word len.0.0 l.reads in
    subst (IsPlain m streams) end.1
    (record { file = file-gives streams f.word file.0.0 f.reads; moved = b.most; numbered = λ n. refl; in_mode = in_mode })

pub write-gives : (m : Mode) (streams : List StreamLine) (ws : List (List ℕ)) → stands RunAlone m ≡ true → (a : Action) → parsed_write streams ws ≡ Some a → IsPlain m streams a
unfolding parsed_write
write-gives m streams ws in_mode a e =
    let file = then-gives (next (parsed_file streams) ws) _ a e in
    let at = then-gives (next parsed_number file.0.1) _ a file.2 in
    let bytes = then-gives (next parsed_bytes at.0.1) _ a at.2 in
    let end = ended-gives _ _ a bytes.2 in
    let f = next-gives (parsed_file streams) ws file.0.0 file.0.1 file.1 in
    let b = next-gives parsed_bytes at.0.1 bytes.0.0 bytes.0.1 bytes.1 in
    subst (IsPlain m streams) end.1
    (record { file = file-gives streams f.word file.0.0 f.reads; moved = bytes-give b.word bytes.0.0 b.reads; numbered = λ n. refl; in_mode = in_mode })

pub update-gives : (m : Mode) (streams : List StreamLine) (ws : List (List ℕ)) → stands RunAlone m ≡ true → (a : Action) → parsed_update streams ws ≡ Some a → IsPlain m streams a
unfolding parsed_update
update-gives m streams ws in_mode a e =
    let file = then-gives (next (parsed_file streams) ws) _ a e in
    let at = then-gives (next parsed_number file.0.1) _ a file.2 in
    let bytes = then-gives (next parsed_bytes at.0.1) _ a at.2 in
    let end = ended-gives _ _ a bytes.2 in
    let f = next-gives (parsed_file streams) ws file.0.0 file.0.1 file.1 in
    let b = next-gives parsed_bytes at.0.1 bytes.0.0 bytes.0.1 bytes.1 in
    subst (IsPlain m streams) end.1
    (record { file = file-gives streams f.word file.0.0 f.reads; moved = bytes-give b.word bytes.0.0 b.reads; numbered = λ n. refl; in_mode = in_mode })

pub lock-gives : (m : Mode) (streams : List StreamLine) (ws : List (List ℕ)) → stands RunAlone m ≡ true → (a : Action) → parsed_lock streams ws ≡ Some a → IsPlain m streams a
unfolding parsed_lock
lock-gives m streams ws in_mode a e =
    let file = then-gives (next (parsed_file streams) ws) _ a e in
    let span = then-gives (parsed_span file.0.1) _ a file.2 in
    let end = ended-gives _ _ a span.2 in
    let f = next-gives (parsed_file streams) ws file.0.0 file.0.1 file.1 in
    subst (IsPlain m streams) end.1
    (record { file = file-gives streams f.word file.0.0 f.reads; moved = omega arith; numbered = λ n. refl; in_mode = in_mode })

pub unlock-gives : (m : Mode) (streams : List StreamLine) (ws : List (List ℕ)) → stands RunAlone m ≡ true → (a : Action) → parsed_unlock streams ws ≡ Some a → IsPlain m streams a
unfolding parsed_unlock
unlock-gives m streams ws in_mode a e =
    let file = then-gives (next (parsed_file streams) ws) _ a e in
    let id = then-gives (next parsed_number file.0.1) _ a file.2 in
    let end = ended-gives _ _ a id.2 in
    let f = next-gives (parsed_file streams) ws file.0.0 file.0.1 file.1 in
    subst (IsPlain m streams) end.1
    (record { file = file-gives streams f.word file.0.0 f.reads; moved = omega arith; numbered = λ n. refl; in_mode = in_mode })

pub levels-gives : (m : Mode) (streams : List StreamLine) (ws : List (List ℕ)) → stands RunAlone m ≡ true → (a : Action) → parsed_levels streams ws ≡ Some a → IsPlain m streams a
unfolding parsed_levels
levels-gives m streams ws in_mode a e =
    let file = then-gives (next (parsed_file streams) ws) _ a e in
    let end = ended-gives _ _ a file.2 in
    let f = next-gives (parsed_file streams) ws file.0.0 file.0.1 file.1 in
    subst (IsPlain m streams) end.1
    (record { file = file-gives streams f.word file.0.0 f.reads; moved = omega arith; numbered = λ n. refl; in_mode = in_mode })

pub settle-gives : (m : Mode) (streams : List StreamLine) (ws : List (List ℕ)) → stands RunAlone m ≡ true → (a : Action) → parsed_settle streams ws ≡ Some a → IsPlain m streams a
unfolding parsed_settle
settle-gives m streams ws in_mode a e =
    let file = then-gives (next (parsed_file streams) ws) _ a e in
    let end = ended-gives _ _ a file.2 in
    let f = next-gives (parsed_file streams) ws file.0.0 file.0.1 file.1 in
    subst (IsPlain m streams) end.1
    (record { file = file-gives streams f.word file.0.0 f.reads; moved = omega arith; numbered = λ n. refl; in_mode = in_mode })

pub checkpoint-gives : (m : Mode) (streams : List StreamLine) (ws : List (List ℕ)) → stands RunAlone m ≡ true → (a : Action) → parsed_checkpoint streams ws ≡ Some a → IsPlain m streams a
unfolding parsed_checkpoint
checkpoint-gives m streams ws in_mode a e =
    let log = then-gives (next (number_between 0 3) ws) _ a e in
    let end = ended-gives _ _ a log.2 in
    subst (IsPlain m streams) end.1
    (record { file = refl; moved = omega arith; numbered = λ n. refl; in_mode = in_mode })
