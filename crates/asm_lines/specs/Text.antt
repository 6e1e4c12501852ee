-- How a line is cut: white space, comments, the label, the mnemonic, operands between commas.
use Rattle.std.specs.Prelude.{ℕ, ◌-◌, Bool, false, not, ◌&&◌, ◌||◌, ◌==◌, nat_lt, nat_le, if◌then◌else◌, List, [], ◌∷◌, map, length, take}
use Rattle.std.specs.Prelude.{drop, slice_index, Option, Some, None}
use Rattle.std.specs.List.{prefix_len, suffix_len, before_first, after_first, slice_split}
use Rattle.asm_lines.specs.declared.comment.Quoting.{Quoting}
use Rattle.asm_lines.specs.declared.comment.Quoting.TheVariants.{Outside, Inside, Escaped}

-- space, tab and carriage return
abbrev pub is_blank : ℕ → Bool
is_blank b = (b == 32) || ((b == 9) || (b == 13))

-- a text without the white space at its beginning, at its end, at both
abbrev pub trimmed_start : List ℕ → List ℕ
trimmed_start text = drop (prefix_len is_blank text) text

abbrev pub trimmed_end : List ℕ → List ℕ
trimmed_end text = take (length text - suffix_len is_blank text) text

abbrev pub trimmed : List ℕ → List ℕ
trimmed text = trimmed_end (trimmed_start text)

-- a byte of 128 or more, or a control byte other than tab, line feed and carriage return
abbrev pub is_foreign : ℕ → Bool
is_foreign b = nat_le 127 b || (nat_lt b 32 && not ((b == 9) || ((b == 10) || (b == 13))))

-- where a reader stands after a byte
abbrev pub quoting_after : ℕ → Quoting → Quoting
quoting_after b Outside = if b == 34 then Inside else Outside
quoting_after b Inside = if b == 34 then Outside else (if b == 92 then Escaped else Inside)
quoting_after b Escaped = Inside

-- whether a comment begins: a '#' outside quotes
abbrev pub begins_comment : ℕ → Quoting → Bool
begins_comment b Outside = b == 35
begins_comment b Inside = false
begins_comment b Escaped = false

-- a line up to its comment
abbrev pub uncommented_from : Quoting → List ℕ → List ℕ
uncommented_from quoting [] = []
uncommented_from quoting (b ∷ bs) = if begins_comment b quoting then [] else (b ∷ uncommented_from (quoting_after b quoting) bs)

abbrev pub uncommented : List ℕ → List ℕ
uncommented line = uncommented_from Outside line

-- letters, digits, and what a name begins with and goes on with
abbrev pub is_digit : ℕ → Bool
is_digit b = nat_le 48 b && nat_le b 57

abbrev pub begins_name : ℕ → Bool
begins_name b = (nat_le 65 b && nat_le b 90) || ((nat_le 97 b && nat_le b 122) || ((b == 95) || (b == 46)))

abbrev pub continues_name : ℕ → Bool
continues_name b = begins_name b || is_digit b

-- a text is a name: it begins as one and goes on so to its end
abbrev pub is_name : List ℕ → Bool
is_name [] = false
is_name (b ∷ bs) = begins_name b && (prefix_len continues_name bs == length bs)

-- the place of the statement itself
abbrev pub here_name : List ℕ
here_name = 46 ∷ []

-- the name that a text begins with, and what follows it
abbrev pub name_length : List ℕ → ℕ
name_length text = prefix_len continues_name text

-- A text (without white space before it) begins with a label: a name other than `.`, and a colon at once.
abbrev pub is_dot : List ℕ → Bool
is_dot text = (length text == 1) && (slice_index text 0 == 46)

unfoldable pub has_label : List ℕ → Bool
has_label text =
    is_name (take (name_length text) text) && (not (is_dot (take (name_length text) text))
    && (nat_lt (name_length text) (length text) && (slice_index text (name_length text) == 58)))

abbrev pub label_of : List ℕ → Option (List ℕ)
label_of text = if has_label text then Some (take (name_length text) text) else None

-- the statement: what follows the label, without white space around it
abbrev pub statement_text : List ℕ → List ℕ
statement_text text = if has_label text then trimmed_start (after_first (λ b. b == 58) text) else text

-- a statement's mnemonic is all up to the first white space; its operands are what follows
abbrev pub mnemonic_of : List ℕ → List ℕ
mnemonic_of text = before_first is_blank text

abbrev pub operands_of : List ℕ → List ℕ
operands_of text = trimmed_start (after_first is_blank text)

-- what stands between commas, each without white space around it
abbrev pub pieces_between : List ℕ → List (List ℕ)
pieces_between text = map trimmed (slice_split (λ c. c == 44) text)

-- the operands; no text is no operand
abbrev pub pieces_of : List ℕ → List (List ℕ)
pieces_of [] = []
pieces_of (b ∷ bs) = pieces_between (b ∷ bs)

-- the operands of what follows a comma, if one does
abbrev pub pieces_left : Option (List ℕ) → List (List ℕ)
pieces_left (Some rest) = pieces_between rest
pieces_left None = []
