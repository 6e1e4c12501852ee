-- What is said of a fault after its line.
use Rattle.std.specs.Prelude.{ℕ, ◌+◌, ◌^◌, ◌==◌, nat_lt, if◌then◌else◌, List, [], ◌∷◌, ◌++◌, codes, decimal}
use Rattle.std.specs.Fmt.{signed_decimal}
use Rattle.asm_lines.specs.Forms.{Operand, form_of}
use Rattle.assembler.specs.declared.misplaced.Misplaced.{Misplaced}
use Rattle.assembler.specs.declared.misplaced.Misplaced.TheVariants.{BelowRam, PastRam, Taken, TooManySections, CodeAskew, CapabilityAskew}
use Rattle.assembler.specs.declared.misplaced.Misplaced.TheVariants.{TooManyCapabilities}
use Rattle.assembler.specs.declared.reason.Reason.{Reason}
use Rattle.assembler.specs.declared.reason.Reason.TheVariants as why
use Rattle.texts.specs.Hex.{hex_of}

-- what a mnemonic takes
abbrev pub words : List ℕ → List ℕ → List Operand → List ℕ
words none before [] = none
words none before (o ∷ os) = before ++ o.word ++ words [] (codes ", ") os

-- what closes a number of pages
abbrev pub pages_words : ℕ → List ℕ
pages_words pages = if pages == 1 then codes " page; see .pages)" else codes " pages; see .pages)"

-- why a place is invalid; the number of pages, where there are too few
unfoldable pub misplaced_words : Misplaced → List ℕ
misplaced_words BelowRam = codes "below RAM"
misplaced_words PastRam = codes "past the end of RAM"
misplaced_words Taken = codes "where an earlier line places bytes"
misplaced_words TooManySections = codes "a 65th section"
misplaced_words CodeAskew = codes "an instruction at no multiple of 4"
misplaced_words CapabilityAskew = codes "a capability at no multiple of 16"
misplaced_words TooManyCapabilities = codes "the 1025th capability"

abbrev pub pages_after : ℕ → Misplaced → List ℕ
pages_after pages PastRam = codes " (" ++ decimal pages ++ pages_words pages
pages_after pages other = []

abbrev pub place_text : ℕ → Misplaced → ℕ → List ℕ
place_text place misplaced pages =
    codes " from 0x" ++ hex_of (if nat_lt place (2 ^ 64) then 16 else 17) place ++ codes " on: " ++ misplaced_words misplaced
    ++ pages_after pages misplaced

-- why bounds are not exact
unfoldable pub bounds_words : ℕ → ℕ → List ℕ
bounds_words base size = if nat_lt (2 ^ 64) (base + size) then codes "end above 2^64" else codes "would be rounded"

abbrev pub expected_text : List ℕ → Reason → List ℕ
expected_text word why.Form = words (codes " takes no operands") (codes " takes ") (form_of word).operands
expected_text word why.Repeated = codes " stands once"
expected_text word why.Late = codes " stands once, before other statements"
expected_text word other = []

-- by the line's mnemonic
unfoldable pub reason_text : List ℕ → Reason → List ℕ
reason_text word (why.Number r) = codes " " ++ signed_decimal r.least ++ codes " to " ++ signed_decimal r.most
reason_text word (why.Value value r) =
    codes " is " ++ signed_decimal value ++ codes " (" ++ signed_decimal r.least ++ codes " to " ++ signed_decimal r.most ++ codes ")"
reason_text word (why.Target distance r) =
    codes " " ++ signed_decimal distance
    ++ codes " bytes away (even, " ++ signed_decimal r.least ++ codes " to " ++ signed_decimal r.most ++ codes ")"
reason_text word (why.Load distance r) =
    codes " " ++ signed_decimal distance
    ++ codes " bytes away (" ++ signed_decimal r.least ++ codes " to " ++ signed_decimal r.most ++ codes ")"
reason_text word (why.Entry entry pages) =
    codes " 0x" ++ hex_of 16 entry ++ codes " is no multiple of 4 in RAM (" ++ decimal pages ++ pages_words pages
reason_text word (why.Place place misplaced pages) = place_text place misplaced pages
reason_text word (why.Bounds base size) =
    codes " from 0x" ++ hex_of 16 base ++ codes " on, " ++ decimal size ++ codes " bytes " ++ bounds_words base size
reason_text word other = codes " " ++ word ++ expected_text word other
