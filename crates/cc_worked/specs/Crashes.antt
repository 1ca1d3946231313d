-- What a crash may leave of a page.
use Rattle.std.specs.Prelude.{ℕ, List, [], ◌∷◌, ◌++◌, reverse, map, replicate, slice_index}
use Rattle.std.specs.declared.option.Option.TheVariants.{None}
use Rattle.cc_entry.specs.declared.call.Call.TheVariants as call
use Rattle.cc_entry.specs.declared.error.CcError.TheVariants as error
use Rattle.cc_entry.specs.declared.entry.End.{End}
use Rattle.cc_entry.specs.declared.entry.End.TheVariants as how
use Rattle.cc_entry.specs.declared.entry.Entry.{Entry}
use Rattle.cc_entry.specs.declared.entry.Entry.TheVariants as entry
use Rattle.cc_model.specs.History.{history}
use Rattle.cc_model.specs.Images.{crash_pages}
use Rattle.cc_worked.specs.Values.{a, page, opened, done, refused, read_in, begins, written, synced}

-- the first byte of each content that a crash may leave of a page of stream 0
abbrev pub first_bytes : List Entry → ℕ → List ℕ
first_bytes past p = map (λ bytes. slice_index bytes 0) (crash_pages (λ p. replicate 4096 90) (history past 0) p)

-- a page is changed, and its transfer begins
abbrev pub begun : List Entry
begun = opened 8192 8192 ∷ read_in 1 0 ∷ done 1 1 (call.CopyWrite a 0 (171 ∷ [])) ∷ begins 1 0 ∷ []

abbrev pub under_way : List Entry
under_way = reverse begun

-- the transfer ends, and the disk is synced
abbrev pub ended : End → List Entry
ended how = begun ++ entry.WriteEnd 1 (page 0) how ∷ []

abbrev pub unsynced : End → List Entry
unsynced how = reverse (ended how)

abbrev pub synced_after : End → End → List Entry
synced_after how sync_how = entry.Sync 1 0 sync_how ∷ unsynced how

-- after a good transfer and a good sync the page is changed, and goes again
abbrev pub under_way_again : List Entry
under_way_again =
    reverse (ended how.Good ++ synced 1 ∷ done 1 2 (call.CopyWrite a 0 (205 ∷ [])) ∷ begins 1 0 ∷ [])

-- after a failed transfer the flush fails, and the next one writes the page and syncs
abbrev pub written_at_last : List Entry
written_at_last =
    reverse (
    ended how.Failed
    ++ refused 1 2 (call.Flush a None) (error.WriteFault 0)
    ∷ written 1 0
    ++ synced 1
    ∷ done 1 3 (call.Flush a None)
    ∷ [])
