-- A file that is made, written and closed is a whole file.
use Rattle.std.specs.Prelude.{◌≡◌, ℕ, List, [], ◌∷◌, ◌++◌, Option, Some, None, refl}
use Rattle.std.proofs.Common.{◌∙◌, ap, append_assoc}
use Rattle.std.specs.Borrow.{Bor}
use Rattle.std.specs.Io.KnownBytes.{Appends, append_known}
use Rattle.std.proofs.KnownBytes.{Appends-kept}
use Rattle.std.specs.declared.vec.Vec.{Vec}
use Rattle.assembler.specs.Labels as text
use Rattle.symbols.specs.Reads as table
use Rattle.commands.specs.Assembling.{seen_labels}
use Rattle.commands.specs.Files.{Text, File, begun, ended, whole, Closes, Finishes, Gains, IsNew}
use Rattle.commands.specs.Running.{Grows, Traces, traced}

-- empty, and then grown by bytes
pub grown_from_empty : (held new : Option (List ℕ)) (bytes : List ℕ) → held ≡ Some [] → Appends held new bytes → new ≡ Some bytes
grown_from_empty held None bytes empty more = absurd (rw empty at more)
grown_from_empty held (Some ys) bytes empty more = let e : ys ≡ [] ++ bytes = rw empty at more in ap Some e

pub gains_whole : (old made new : Option (List File)) (name bytes : List ℕ) (empty held : Option (List ℕ))
    → Gains old made (begun name ∷ []) → IsNew old empty → Appends empty held bytes
    → Gains made new (ended name held ∷ []) → Gains old new (whole name bytes)
gains_whole None made new name bytes empty held first is_new more last = tt
gains_whole (Some files) made new name bytes empty held first is_new more last =
    let full : held ≡ Some bytes = grown_from_empty empty held bytes is_new more in
    (rw (first, full) at last) ∙ ap Some (append_assoc files (begun name ∷ []) (ended name (Some bytes) ∷ []))

-- a file that is written in blocks
pub new_in_blocks : (old : Option (List File)) (held : Option (List ℕ)) (buffered : List ℕ) → IsNew old held → buffered ≡ []
    → IsNew old (append_known held buffered)
new_in_blocks None held buffered is_new none = tt
new_in_blocks (Some files) held buffered is_new none = rw (is_new, none) refl

pub gains_closed : (old made new : Option (List File)) (name bytes : List ℕ) (empty held : Option (List ℕ))
    → Gains old made (begun name ∷ []) → IsNew old empty → Appends empty held bytes → Closes name held made new
    → Gains old new (whole name bytes)
gains_closed old made new name bytes empty held first is_new more last =
    gains_whole old made new name bytes empty last.0 first is_new (Appends-kept empty held last.0 bytes more last.1) last.2

-- a file that is made before other files change, and closed after them
pub gains_around : (old made next new : Option (List File)) (others : List File) (name bytes : List ℕ) (empty : Option (List ℕ))
    → Gains old made (begun name ∷ []) → IsNew old empty → Grows made next others → Finishes name empty bytes next new
    → Gains old new (begun name ∷ (others ++ ended name (Some bytes) ∷ []))
gains_around None made next new others name bytes empty first is_new between last = tt
gains_around (Some files) made next new [] name bytes empty first is_new between last =
    let full : last.0 ≡ Some bytes = grown_from_empty empty last.0 bytes is_new last.1 in
    (rw (between, first, full) at last.2) ∙ ap Some (append_assoc files (begun name ∷ []) (ended name (Some bytes) ∷ []))
gains_around (Some files) made next new (other ∷ others) name bytes empty first is_new between last =
    let full : last.0 ≡ Some bytes = grown_from_empty empty last.0 bytes is_new last.1 in
    let there : next ≡ Some ((files ++ begun name ∷ []) ++ (other ∷ others)) = rw first at between in
    (rw (there, full) at last.2)
    ∙ ap Some (append_assoc (files ++ begun name ∷ []) (other ∷ others) (ended name (Some bytes) ∷ [])
    ∙ append_assoc files (begun name ∷ []) ((other ∷ others) ++ ended name (Some bytes) ∷ []))

-- a trace, if a file is named for it
pub grows_traced : (trace : Option (Bor Text)) (lines : List ℕ) (old new : Option (List File)) → Traces trace lines old new
    → Grows old new (traced trace lines)
grows_traced None lines old new same = same
grows_traced (Some name) lines old new gains = gains

-- labels as a map of names holds them, as a table has them
pub seen_labels-entries : {A : Type 0} → (entries : List (Vec ℕ A × ℕ))
    → table.seen_entries entries ≡ seen_labels (text.seen_entries entries)
seen_labels-entries [] = refl
seen_labels-entries (e ∷ es) = ap (λ symbols. table.seen_entry e ∷ symbols) (seen_labels-entries es)
