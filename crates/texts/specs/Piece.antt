-- What lines of text are made of: pieces, one after the other.
use Rattle.std.specs.Prelude.{ℕ, ◌+◌, Bool, true, ◌&&◌, nat_le, List, [], ◌∷◌, ◌++◌, length, decimal}
use Rattle.std.specs.Fmt.{signed_decimal}
use Rattle.texts.specs.declared.piece.Piece.{Piece}
use Rattle.texts.specs.declared.piece.Piece.TheVariants.{Text, Address, Hexadecimal, ShortHexadecimal, Decimal, SignedDecimal}
use Rattle.texts.specs.declared.piece.Piece.TheVariants.{WideDecimal, WideSignedDecimal}
use Rattle.texts.specs.Hex.{hex_of, short_hex}

abbrev pub piece_text : Piece → List ℕ
piece_text (Text text) = text.now
piece_text (Address n) = hex_of 16 n
piece_text (Hexadecimal width n) = hex_of width n
piece_text (ShortHexadecimal n) = short_hex n
piece_text (Decimal n) = decimal n
piece_text (SignedDecimal n) = signed_decimal n
piece_text (WideDecimal n) = decimal n
piece_text (WideSignedDecimal n) = signed_decimal n

-- a text with pieces after it
abbrev pub text_with : List ℕ → List Piece → List ℕ
text_with text [] = text
text_with text (p ∷ ps) = text_with (text ++ piece_text p) ps

-- the text of pieces
abbrev pub text_of : List Piece → List ℕ
text_of [] = []
text_of (p ∷ ps) = text_with (piece_text p) ps

-- ---- how long it is at most

abbrev pub piece_width : Piece → ℕ
piece_width (Text text) = length text.now
piece_width (Address n) = 16
piece_width (Hexadecimal width n) = width
piece_width (ShortHexadecimal n) = 18
piece_width (Decimal n) = 20
piece_width (SignedDecimal n) = 20
piece_width (WideDecimal n) = 40
piece_width (WideSignedDecimal n) = 40

abbrev pub width_of : List Piece → ℕ
width_of [] = 0
width_of (p ∷ ps) = piece_width p + width_of ps

-- no number has more than 17 hexadecimal digits
abbrev pub is_narrow : Piece → Bool
is_narrow (Hexadecimal width n) = nat_le width 17
is_narrow other = true

abbrev pub are_narrow : List Piece → Bool
are_narrow [] = true
are_narrow (p ∷ ps) = is_narrow p && are_narrow ps
